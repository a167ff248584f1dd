use Rattle.std.proofs.Common.{◌++◌, ap, ◌∙◌}
use Rattle.std.specs.Option.{option_copied}
use Rattle.std.specs.Prelude.{map}
use Rattle.ds2_names.specs.SourceUnit.{columns_stored, names_alone, columns_of_stage, new_columns, declared_names, variable_declarations, source_instances, flag_names}
use Rattle.ds2_scope.specs.CodeUnits.{unit_source}
use Rattle.ds2_scope.specs.Collected.{by_name, instance_name}
use Rattle.ds2_scope.specs.UnitNames.{is_stage_open}
use Rattle.ds2_scope.proofs.UnitNameLemmas.{read_is, names_are}
use Rattle.ds2_scope.proofs.unit_names.names_of_unit.Goals as goal

pub returns : goal.returns
returns c = λ units kept.
    let u = unit_source c.args.unit in
    let tables = columns_stored c.args.tables.now in
    let d = declared_names (variable_declarations u.globals) in
    let r = option_copied c.in_ok-reading.reading in
    let added = c.in_ok-add_columns.ensures ∙ (λ i. c.in_ok-variables.ensures i ++ new_columns tables (names_alone (c.in_ok-variables.ensures i)) (c.tables_of.ensures i)) in
    let all =
    c.in_ok-is_open.ensures.names units kept
    ∙ (λ i. added i ++ columns_of_stage units (c.requires i) (names_alone (added i)) (c.stage_of.ensures i))
    ∙ read_is tables units (source_instances u.globals) d r in
    names_are tables units u r _ _ _ _ _ _ _ c.in_ok-reading.ensures all
    c.in_ok-parameters.ensures
    (c.in_ok-flags.ensures ∙ ap flag_names c.tables_of-2.ensures)
    (c.in_ok-bys.ensures ∙ ap (λ bs. map by_name bs) c.bys_of.ensures)
    c.in_ok-outputs.ensures
    (c.in_ok-instances.ensures ∙ ap (λ xs. map instance_name xs) c.requires)
    (c.in_ok-is_open.ensures.open units kept ∙ (λ i. is_stage_open units (c.requires i) (c.stage_of.ensures i)))
