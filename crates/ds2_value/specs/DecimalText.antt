-- A number with zeros before it, as the fraction of a decimal is written.
use Rattle.std.specs.Prelude.{ℕ, ◌-◌, ◌++◌, length, replicate}
use Rattle.std.specs.Fmt.{decimal}
use Rattle.ds2_base.specs.Bytes.{Bytes}

-- n with zeros before it, in at least w digits
abbrev pub wide : ℕ → ℕ → Bytes
wide w n = replicate (w - length (decimal n)) 48 ++ decimal n
