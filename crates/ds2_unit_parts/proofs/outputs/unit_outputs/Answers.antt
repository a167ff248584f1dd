use Rattle.std.proofs.Common.{◌≡◌, List, sym, ap, ◌∙◌}
use Rattle.ds2_meaning.specs.declared.globals.OutputTable.{OutputTable}
use Rattle.ds2_names.specs.SourceUnit.{names_alone}
use Rattle.ds2_scope.specs.CodeUnits.{unit_kind, unit_source}
use Rattle.ds2_scope.specs.declared.unit.UnitKind.{UnitKind}
use Rattle.ds2_unit_parts.specs.TypedOutputs.{outputs_over}
use Rattle.ds2_unit_parts.proofs.outputs.unit_outputs.Goals as goal

pub returns-in-Package : goal.returns-in-Package
returns-in-Package c =
    c.new.ensures ∙ ap (λ (k : UnitKind). outputs_over c.args.vector.now (unit_source c.args.unit) (names_alone c.args.variables.now) (unit_kind k)) (sym c.in-Package.is)

pub returns-in_ok-all-in-Thread : goal.returns-in_ok-all-in-Thread
returns-in_ok-all-in-Thread c =
    c.in_ok-all-in-Thread.ensures
    ∙ ap (λ (k : UnitKind). outputs_over c.args.vector.now (unit_source c.args.unit) (names_alone c.args.variables.now) (unit_kind k)) (sym c.in-Thread.is)

pub returns-in_ok-all-in-Data : goal.returns-in_ok-all-in-Data
returns-in_ok-all-in-Data c =
    c.in_ok-all-in-Data.ensures
    ∙ ap (λ (k : UnitKind). outputs_over c.args.vector.now (unit_source c.args.unit) (names_alone c.args.variables.now) (unit_kind k)) (sym c.in-Data.is)
