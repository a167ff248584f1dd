use Rattle.std.proofs.Common.{◌≡◌, List, ◌∙◌, subst}
use Rattle.std.specs.Prelude.{IfOk}
use Rattle.ds2_meaning.specs.declared.globals.OutputTable.{OutputTable}
use Rattle.ds2_names.specs.SourceUnit.{names_alone}
use Rattle.ds2_unit_parts.specs.TypedOutputs.{outputs_over}
use Rattle.ds2_program_types.specs.UnitsAtHand.{columns_at_hand, source_at_hand}
use Rattle.ds2_program_types.proofs.PartForms.{outputs_told}
use Rattle.ds2_program_types.proofs.parts.program_outputs.Goals as goal

pub returns : goal.returns
returns c = λ before h.
    let u = source_at_hand c.args.unit in
    let vector = c.as_slice.ensures ∙ c.in_ok-vector.ensures before h in
    let names = c.as_slice-names.ensures ∙ h.names.variables in
    subst (λ (l : List OutputTable). IfOk c.unit_outputs.result (λ all. all ≡ l)) ((λ i. outputs_over (vector i) u (names_alone (names i)) u.kind) ∙ outputs_told (columns_at_hand c.args.unit) before u u.kind)
    c.unit_outputs.ensures
