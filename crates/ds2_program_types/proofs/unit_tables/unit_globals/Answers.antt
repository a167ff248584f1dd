use Rattle.std.proofs.Common.{ap, ◌∙◌}
use Rattle.ds2_elaboration.specs.SourceTypes.{parameter_variables, unjoined_columns, vector_variables}
use Rattle.ds2_names.specs.SourceUnit.{names_alone}
use Rattle.ds2_program_types.specs.UnitsAtHand.{columns_at_hand, names_at_hand, source_at_hand}
use Rattle.ds2_program_types.proofs.UnitForms.{globals_told}
use Rattle.ds2_program_types.proofs.unit_tables.unit_globals.Goals as goal

pub returns : goal.returns
returns c = λ before h.
    let x = c.args.unit in
    let u = source_at_hand x in
    let tables = columns_at_hand x in
    let flags = c.in_ok-flags.ensures ∙ ap names_alone (c.as_slice.ensures ∙ h.names.flags) in
    globals_told _ (unjoined_columns tables before u) _ (vector_variables tables before u) _ (parameter_variables u) _ (names_alone (names_at_hand before x).flags) c.globals.result
    (c.as_slice-3.ensures ∙ c.in_ok-unjoined.ensures before u h.reads h.columns) (c.as_slice-2.ensures ∙ c.in_ok-variables.ensures before h) (c.as_slice-4.ensures ∙ c.in_ok-parameters.ensures)
    (c.as_slice-5.ensures ∙ flags) c.globals.ensures
