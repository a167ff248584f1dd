-- Reading statements of programs that have a `run`, and variables of the vector.
use Rattle.std.proofs.Common.{◌≡◌, ℕ, Bool, true, false, List, [], ◌∷◌, ◌++◌, Some, refl, ap, ◌∙◌}
use Rattle.std.specs.Prelude.{◌||◌, bytes_eq}
use Rattle.ds2_meaning.specs.declared.globals.Variable.{Variable}
use Rattle.ds2_meaning.specs.declared.methods.SystemMethod.{SystemMethod}
use Rattle.ds2_meaning.specs.declared.readings.Reading.{Reading}
use Rattle.ds2_meaning.specs.declared.readings.Reading.TheVariants as reading
use Rattle.ds2_meaning.specs.ProgramTree.{has_variable}
use Rattle.ds2_meaning.specs.Reading.{bys_of, inputs_of, is_column}
use Rattle.ds2_meaning.specs.View.{reading_with_run}

pub bys_with_run : (run : SystemMethod) (r : Reading) → bys_of (reading_with_run (Some run) r) ≡ bys_of r
bys_with_run run reading.Nothing = refl
bys_with_run run reading.Once = refl
bys_with_run run (reading.Set inputs bys) = refl
bys_with_run run (reading.Merge inputs bys retains) = refl
bys_with_run run (reading.From instance workers columns) = refl

pub inputs_with_run : (run : SystemMethod) (r : Reading) → inputs_of (reading_with_run (Some run) r) ≡ inputs_of r
inputs_with_run run reading.Nothing = refl
inputs_with_run run reading.Once = refl
inputs_with_run run (reading.Set inputs bys) = refl
inputs_with_run run (reading.Merge inputs bys retains) = refl
inputs_with_run run (reading.From instance workers columns) = refl

pub column_with_run : (run : SystemMethod) (r : Reading) (name : List ℕ) → is_column (reading_with_run (Some run) r) name ≡ is_column r name
column_with_run run reading.Nothing name = refl
column_with_run run reading.Once name = refl
column_with_run run (reading.Set inputs bys) name = refl
column_with_run run (reading.Merge inputs bys retains) name = refl
column_with_run run (reading.From instance workers columns) name = refl

or_next : (a b c : Bool) → (a || (b || c)) ≡ ((a || b) || c)
or_next true b c = refl
or_next false b c = refl

pub variable_in_both : (xs ys : List Variable) (name : List ℕ) → has_variable (xs ++ ys) name ≡ (has_variable xs name || has_variable ys name)
variable_in_both [] ys name = refl
variable_in_both (x ∷ xs) ys name = ap (λ b. bytes_eq x.name name || b) (variable_in_both xs ys name) ∙ or_next (bytes_eq x.name name) (has_variable xs name) (has_variable ys name)
