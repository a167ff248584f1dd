use Rattle.std.proofs.Common.{◌≡◌, drop}
use Rattle.ds2_names.specs.SourceUnit.{columns_stored}
use Rattle.ds2_scope.proofs.columns.columns_of.Given as goal

abbrev pub invariant-tables : goal.invariant-tables
invariant-tables l = columns_stored (drop l.t-index l.tables) l.name ≡ columns_stored l.tables l.name
