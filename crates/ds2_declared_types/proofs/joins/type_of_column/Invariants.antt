use Rattle.std.proofs.Common.{◌≡◌, drop}
use Rattle.ds2_elaboration.specs.SourceTypes.{type_of_column}
use Rattle.ds2_declared_types.proofs.joins.type_of_column.Given as goal

abbrev pub invariant-columns : goal.invariant-columns
invariant-columns l = type_of_column l.name (drop l.c-index l.columns) ≡ type_of_column l.name l.columns
