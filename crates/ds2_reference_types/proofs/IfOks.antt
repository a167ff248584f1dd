-- What holds of a call's answer, where it gives one.
use Rattle.std.proofs.Common.{◌≡◌, Result, Ok, Err, ◌∙◌}
use Rattle.std.specs.Prelude.{IfOk}

-- what holds of an answer follows from what else does
pub if_ok : {A E : Type 0} (P Q : A → Type 0) (r : Result A E) → ((x : A) → P x → Q x) → IfOk r P → IfOk r Q
if_ok P Q (Ok x) f h = f x h
if_ok P Q (Err e) f h = h

-- an answer is what the same thing is
pub if_ok_as : {A E : Type 0} (a b : A) (r : Result A E) → a ≡ b → IfOk r (λ x. x ≡ a) → IfOk r (λ x. x ≡ b)
if_ok_as a b (Ok x) e h = h ∙ e
if_ok_as a b (Err f) e h = h
