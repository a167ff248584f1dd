use Rattle.std.proofs.Common.{[], subst}
use Rattle.ds2_names.specs.SourceUnit.{UnitSource, columns_stored, names_of_unit}
use Rattle.ds2_scope.specs.UnitNames.{NamesAre}
use Rattle.ds2_scope.proofs.unit_names.names_of_program.Goals as goal

pub returns : goal.returns
returns c =
    subst (λ (u : UnitSource). NamesAre c.in_ok-names.names (names_of_unit (columns_stored c.args.tables.now) [] u)) c.unit_of_data-unit.ensures
    (c.in_ok-names.ensures [] c.new-known.ensures)
