use Rattle.std.proofs.Common.{Option, map, sym, ap, ◌∙◌}
use Rattle.std.specs.Option.{option_map}
use Rattle.ds2_names.specs.SourceUnit.{columns_stored, stage_token}
use Rattle.ds2_scope.specs.CodeUnits.{instances_in_source, unit_source}
use Rattle.ds2_token.specs.declared.token.Token.{Token}
use Rattle.ds2_elaboration.specs.SourceTypes.{type_of_column}
use Rattle.ds2_declared_types.specs.InputColumns.{column_found}
use Rattle.ds2_program_types.proofs.NameColumns.{columns_told}
use Rattle.ds2_program_types.proofs.UnitReadings.{reading_told}
use Rattle.ds2_program_types.proofs.at_hand.at_hand.Goals as goal

pub returns-clause-hand : goal.returns-clause-hand
returns-clause-hand c = λ before r n.
    let tables = columns_stored c.args.tables.now in
    let u = unit_source c.args.unit in
    let reading = r.reading ∙ reading_told tables before u in
    record {
      names = n;
      columns = columns_told tables before u c.args.names.now c.args.read.now.declared c.columns_among-columns.result.now n r.declared c.columns_among-columns.ensures;
      instances = ap instances_in_source c.as_slice-instances.ensures ∙ r.instances;
      reads = record {
        inputs = λ name. ap (map (column_found name)) c.as_slice-inputs.ensures ∙ r.inputs name;
        stage = c.stage_place-stage.ensures ∙ ap (λ (o : Option Token). option_map (λ (t : Token). t.place) o) (c.stage_of.ensures ∙ ap stage_token reading);
        rows = c.as_slice-rows.ensures ∙ r.rows;
        row_types = λ name. r.row_types name ∙ ap (type_of_column name) (sym c.as_slice-rows.ensures);
      };
    }
