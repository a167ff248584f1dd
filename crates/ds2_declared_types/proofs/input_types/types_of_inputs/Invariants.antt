use Rattle.std.proofs.Common.{◌≡◌, ◌++◌, ℕ, List, drop}
use Rattle.std.specs.Prelude.{map}
use Rattle.ds2_names.specs.SourceUnit.{columns_stored}
use Rattle.ds2_declared_types.specs.InputColumns.{column_at, column_found}
use Rattle.ds2_declared_types.proofs.input_types.types_of_inputs.Given as goal

abbrev pub invariant-inputs : goal.invariant-inputs
invariant-inputs l =
    (name : List ℕ) → map (column_found name) l.found ++ map (column_at (columns_stored l.tables) name) (drop l.input-index l.inputs) ≡ map (column_at (columns_stored l.tables) name) l.inputs
