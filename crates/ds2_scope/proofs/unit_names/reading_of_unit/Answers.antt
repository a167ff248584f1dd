use Rattle.std.proofs.Common.{ap, ◌∙◌}
use Rattle.ds2_names.specs.SourceUnit.{reading_by_kind}
use Rattle.ds2_scope.specs.CodeUnits.{unit_kind}
use Rattle.ds2_scope.proofs.unit_names.reading_of_unit.Goals as goal

pub returns : goal.returns
returns c = c.reading_by_kind.ensures ∙ ap (reading_by_kind (unit_kind c.args.unit.kind)) c.in_ok-reading.ensures
