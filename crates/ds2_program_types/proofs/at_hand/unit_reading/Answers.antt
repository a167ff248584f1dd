use Rattle.std.proofs.Common.{◌≡◌, List, length, map, ap, ◌∙◌, arith}
use Rattle.std.proofs.lemmas.Grind.{common_steps}
use Rattle.ds2_elaboration.specs.SourceTypes.{program_variables, type_of_column, unit_stage}
use Rattle.ds2_elaboration.specs.UnitsBefore.{typed_stage, typed_stage_columns}
use Rattle.ds2_names.specs.SourceUnit.{columns_stored, stage_token, tables_of_reading}
use Rattle.ds2_scope.specs.CodeUnits.{instances_in_source, unit_source}
use Rattle.ds2_declared_types.specs.InputColumns.{column_at}
use Rattle.ds2_program_types.proofs.UnitReadings.{reading_told}
use Rattle.ds2_program_types.proofs.at_hand.unit_reading.Goals as goal

pub returns : goal.returns
returns c = λ before t.
    let tables = columns_stored c.args.tables.now in
    let u = unit_source c.args.unit in
    let instances = ap instances_in_source c.as_slice.ensures ∙ c.in_ok-instances.ensures in
    let token = c.stage_of.ensures ∙ ap stage_token (c.in_ok-reading.ensures ∙ reading_told tables before u) in
    let stage = c.in_ok-stage.ensures before t ∙ (λ i. typed_stage before.threads (instances i) (token i)) in
    let count : c.len.result ≡ length (program_variables u) = grind (arith, common_steps) in
    record {
      instances = c.in_ok-instances.ensures;
      reading = c.in_ok-reading.ensures;
      inputs = λ name. c.in_ok-inputs.ensures name ∙ ap (map (column_at tables name)) (c.tables_of.ensures ∙ ap tables_of_reading c.in_ok-reading.ensures);
      stage = stage;
      rows = c.in_ok-rows.ensures ∙ ap typed_stage_columns stage;
      row_types = λ name. c.in_ok-row_types.ensures name ∙ ap (type_of_column name) c.as_slice-2.ensures;
      declared = count;
    }
