use Rattle.std.proofs.Common.{◌≡◌, ◌++◌, ℕ, List, drop}
use Rattle.ds2_meaning.specs.ProgramTree.{is_listed}
use Rattle.ds2_scope.specs.NameSets.{HasNames}
use Rattle.ds2_scope.proofs.SetLemmas.{LeadsToColumns}
use Rattle.ds2_scope.proofs.columns.push_columns.Given as goal

abbrev pub invariant-columns : goal.invariant-columns
invariant-columns l = (k : List (List ℕ)) → HasNames l.fn.known k → LeadsToColumns k l.place l.columns l.fn.names (drop l.column-index l.columns) l.names l.known
