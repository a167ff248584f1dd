-- The reading of a whole file.
use Rattle.std.specs.Prelude.{ℕ, List, length, if◌then◌else◌, nat_lt, Option, Some, None, Result, Ok, Err}
use Rattle.ds2_answer.specs.declared.kinds.FileKind.{FileKind}
use Rattle.ds2_answer.specs.declared.kinds.FileKind.TheVariants.{Absent, TooLarge}

-- the bytes of a file that is there and within its limit
abbrev pub within_limit : ℕ → Option (List ℕ) → Result (List ℕ) FileKind
within_limit limit None = Err Absent
within_limit limit (Some bytes) = if nat_lt limit (length bytes) then Err TooLarge else Ok bytes
