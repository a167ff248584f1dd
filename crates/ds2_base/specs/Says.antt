-- Exact answers that yield to want of memory.
use Rattle.std.specs.Prelude.{◌≡◌, Result, Ok, Err}
use Rattle.ds2_base.specs.declared.stop.Stop.{Stop}
use Rattle.ds2_base.specs.declared.stop.Stop.TheVariants.{Refused, OutOfMemory}

-- the answer, value or refusal, is the wanted one, unless memory ran out
abbrev pub Says : {T R : Type 0} → Result T (Stop R) → Result T R → Type 0
Says (Ok x) want = want ≡ Ok x
Says (Err (Refused r)) want = want ≡ Err r
Says (Err OutOfMemory) want = Unit {0}
