-- What is answered, or refused, or neither where memory ran out.
use Rattle.std.specs.Prelude.{◌≡◌, Result, Ok, Err}
use Rattle.ds2_base.specs.declared.stop.Stop.{Stop}
use Rattle.ds2_base.specs.declared.stop.Stop.TheVariants.{Refused, OutOfMemory}

-- this is answered, or this refusal is given, unless memory ran out
abbrev pub AnswersWith : {A R : Type 0} → Result A R → Result A (Stop R) → Type 0
AnswersWith wanted (Ok x) = wanted ≡ Ok x
AnswersWith wanted (Err (Refused refusal)) = wanted ≡ Err refusal
AnswersWith wanted (Err OutOfMemory) = Unit {0}
