-- The reading statement of a unit.
use Rattle.std.proofs.Common.{◌≡◌, refl}
use Rattle.ds2_names.specs.SourceUnit.{TableColumns, UnitSource}
use Rattle.ds2_elaboration.specs.SourceTypes.{unit_names}
use Rattle.ds2_elaboration.specs.UnitsBefore.{UnitsBefore}
use Rattle.ds2_scope.specs.UnitNames.{reading_in_unit}

-- it is the one that gives the unit names
pub reading_told : (tables : TableColumns) (before : UnitsBefore) (u : UnitSource) → reading_in_unit u ≡ (unit_names tables before u).reading
reading_told tables before u = refl
