-- What the writing of a log answers and leaves.
use Rattle.std.specs.Prelude.{◌≡◌, ◌⊎◌, ℕ, List, ◌++◌, Option, Some, IfSome, Result, Ok, Err}
use Rattle.ds2_outside.specs.Written.{TakesPart}
use Rattle.ds2_answer.specs.declared.status.Status.{Status}
use Rattle.ds2_answer.specs.declared.status.Status.TheVariants.{Done, Memory}
use Rattle.ds2_answer.specs.Lines.{memory_line}
use Rattle.ds2_answer.specs.Status.{log_failed}
use Rattle.ds2_store_steps.specs.declared.halt.Halt.{Halt}
use Rattle.ds2_store_steps.specs.declared.halt.Halt.TheVariants.{Ended, OutOfMemory}

-- where the log told what it held, it has taken this text
abbrev pub Takes : List ℕ → Option (List ℕ) → Option (List ℕ) → Type 0
Takes x before logged = IfSome before (λ held. logged ≡ Some (held ++ x))

-- where the log told what it held, it has taken a first part of this text
abbrev pub TakesSome : List ℕ → Option (List ℕ) → Option (List ℕ) → Type 0
TakesSome x before logged = IfSome before (λ held. TakesPart held x logged)

-- the status after the log of a command with this status and text was written, or refused for a cause, or there was no memory
abbrev pub Reported : Status → List ℕ → Type 0 → Status → Option (List ℕ) → Option (List ℕ) → Type 0
Reported status x rose result before logged =
    ((result ≡ status) × Takes x before logged) ⊎ (((result ≡ log_failed status) × rose × TakesSome x before logged) ⊎ ((result ≡ Memory) × TakesSome x before logged))

-- where the log told what it held, it has taken this line, a first part of it or nothing
abbrev pub TakesLine : List ℕ → Option (List ℕ) → Option (List ℕ) → Type 0
TakesLine line before logged = IfSome before (λ held. (logged ≡ Some held) ⊎ ((logged ≡ Some (held ++ line)) ⊎ TakesPart held line logged))

-- the status after the log of a command was written that has ended so, with this text
abbrev pub EndReported : Result (Unit {0}) Halt → List ℕ → Type 0 → Status → Option (List ℕ) → Option (List ℕ) → Type 0
EndReported (Ok value) x rose result before logged = Reported Done x rose result before logged
EndReported (Err (Ended status)) x rose result before logged = Reported status x rose result before logged
EndReported (Err OutOfMemory) x rose result before logged = (result ≡ Memory) × TakesLine memory_line before logged
