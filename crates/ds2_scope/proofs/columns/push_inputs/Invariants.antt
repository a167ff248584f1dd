use Rattle.std.proofs.Common.{◌≡◌, ◌++◌, ℕ, List, drop}
use Rattle.ds2_names.specs.SourceUnit.{columns_stored}
use Rattle.ds2_scope.specs.NameSets.{HasNames}
use Rattle.ds2_scope.proofs.SetLemmas.{LeadsToInputs}
use Rattle.ds2_scope.proofs.columns.push_inputs.Given as goal

abbrev pub invariant-inputs : goal.invariant-inputs
invariant-inputs l =
    (k : List (List ℕ)) → HasNames l.fn.known k → LeadsToInputs (columns_stored l.tables) k l.inputs l.fn.names (drop l.input-index l.inputs) l.names l.known
