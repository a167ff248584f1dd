-- Scales and values collected from the left.
use Rattle.std.proofs.Common.{◌≡◌, ℕ, max, List, [], ◌∷◌, Option, Some, None, refl}
use Rattle.std.specs.Prelude.{unwrap_or, Result, Ok, Err, fold}
use Rattle.ds2_value.specs.Functions.{all_beside}
use Rattle.ds2_value.specs.declared.fault.Fault.{Fault}
use Rattle.ds2_value.specs.declared.value.Value.{Value}

-- the greater of two scales that may be there
abbrev pub greater_scale : Option ℕ → Option ℕ → Option ℕ
greater_scale None t = t
greater_scale (Some s) t = Some (max s (unwrap_or t 0))

-- the choice among a value and those that follow, or the fault of these
abbrev pub chosen_from : (Value → Value → Value) → Value → Result (List Value) Fault → Result Value Fault
chosen_from choose best (Ok vs) = Ok (fold choose best vs)
chosen_from choose best (Err fault) = Err fault

-- where there is no decimal, values are as they are
pub as_they_are : (vs : List Value) → all_beside None vs ≡ Ok vs
as_they_are [] = refl
as_they_are (v ∷ vs) = rw (as_they_are vs) refl
