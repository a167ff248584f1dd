-- What a call answers in place of a value.
use Rattle.ds2_base.specs.declared.stop.Stop.{Stop}
use Rattle.ds2_base.specs.declared.stop.Stop.TheVariants.{Refused, OutOfMemory}

-- the answer is want of memory, and no refusal
abbrev pub IsWantOfMemory : {R : Type 0} → Stop R → Type 0
IsWantOfMemory (Refused r) = ⊥
IsWantOfMemory OutOfMemory = Unit {0}
