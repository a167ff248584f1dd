use Rattle.std.proofs.Common.{refl}
use Rattle.ds2_elaboration.specs.ProgramTypes.{broken_type_rules}
use Rattle.ds2_names.specs.SourceUnit.{columns_stored, unit_of_data}
use Rattle.ds2_scope.specs.CodeUnits.{unit_source}
use Rattle.ds2_tree.specs.UnitViews.{data_tree}
use Rattle.ds2_simple_statement_types.proofs.PartOutcomes.{outcome_as}
use Rattle.ds2_program_types.specs.TypedPrograms.{IsStagedProgram, IsTypedData}
use Rattle.ds2_program_types.proofs.TreeForms.{data_told, of_source}
use Rattle.ds2_program_types.proofs.check.check.Goals as goal

pub returns : goal.returns
returns c = λ before m t n.
    let p = data_tree c.args.program.now in
    let tables = columns_stored c.args.tables.now in
    let so = of_source IsStagedProgram tables before c.args.names.now (unit_source c.unit_of_data-unit.result) (unit_of_data p) c.in_ok-typed.typed c.unit_of_data-unit.ensures refl (c.in_ok-typed.ensures before t m) n in
    outcome_as (IsStagedProgram tables before (unit_of_data p)) (IsTypedData tables before (unit_of_data p)) (broken_type_rules tables before (unit_of_data p)) c.in_ok-typed.typed (data_told tables before p) so
