-- What holds of each function holds of the one that a name finds.
use Rattle.std.proofs.Common.{ℕ, Bool, true, false, if◌then◌else◌, List, [], ◌∷◌, Option, Some, None}
use Rattle.std.specs.Prelude.{bytes_eq}
use Rattle.std.specs.List.{AllByRecursion}
use Rattle.ds2_names.specs.Functions.{functions, under_name, function_named}
use Rattle.ds2_names.specs.declared.functions.FunctionRow.{FunctionRow}

module _ (P : Option FunctionRow → Type 0) (none : P None) where
  either : (b : Bool) (f : FunctionRow) (further : Option FunctionRow) → P (Some f) → P further → P (if b then Some f else further)
  either true f further h k = h
  either false f further h k = k

  among : (rows : List (List ℕ × FunctionRow)) (name : List ℕ) → AllByRecursion (λ (r : List ℕ × FunctionRow). P (Some r.1)) rows → P (under_name rows name)
  among [] name h = none
  among (r ∷ rows) name h = either (bytes_eq r.0 name) r.1 (under_name rows name) h.0 (among rows name h.1)

  -- the function of a name
  pub of_function_named : (name : List ℕ) → AllByRecursion (λ (r : List ℕ × FunctionRow). P (Some r.1)) functions → P (function_named name)
  of_function_named name h = among functions name h
