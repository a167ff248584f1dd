use Rattle.std.proofs.Common.{List, map, sym, ap, subst, ◌∙◌, IsTrue}
use Rattle.std.specs.List.{list_all}
use Rattle.std.specs.Prelude.{nat_eq}
use Rattle.std.specs.Cmp.Lexicographic.{pointwise}
use Rattle.std.specs.HashSet.{contains}
use Rattle.ds2_code.specs.ValidCode.{output_fits}
use Rattle.ds2_code.specs.declared.parts.OutputPart.{OutputPart}
use Rattle.ds2_code.specs.declared.parts.Slot.{Slot}
use Rattle.ds2_code.specs.declared.parts.StagedParts.{StagedParts}
use Rattle.ds2_slots.specs.LoadedHashes.{AreSlotTypesInBounds}
use Rattle.ds2_unit.proofs.OutputColumns.{outputs_of_valid}
use Rattle.ds2_unit.proofs.Statements.{types_of_valid}
use Rattle.ds2_exec.specs.OutputSinks.{sink_begun}
use Rattle.ds2_exec.proofs.output_rows.sinks_of.Goals as goal

pub sinks_begun-requires-clause-slots : goal.sinks_begun-requires-clause-slots
sinks_begun-requires-clause-slots c =
    subst (λ (s : List Slot). AreSlotTypesInBounds s) (sym (c.as_slice-slots.ensures ∙ ap (λ (x : StagedParts). x.program.slots) c.parts-parts.ensures.value)) (types_of_valid c.args.code.now c.parts-parts.ensures.valid)

pub sinks_begun-requires-clause-names : goal.sinks_begun-requires-clause-names
sinks_begun-requires-clause-names c =
    subst (λ (os : List OutputPart). IsTrue (list_all output_fits os)) (sym (c.as_slice-outputs.ensures ∙ ap (λ (x : StagedParts). x.program.outputs) c.parts-parts.ensures.value)) (outputs_of_valid c.args.code.now c.parts-parts.ensures.valid)

pub returns-clause-outputs : goal.returns-clause-outputs
returns-clause-outputs c =
    let slots_are = c.as_slice-slots.ensures ∙ ap (λ (x : StagedParts). x.program.slots) c.parts-parts.ensures.value in
    let outputs_are = c.as_slice-outputs.ensures ∙ ap (λ (x : StagedParts). x.program.outputs) c.parts-parts.ensures.value in
    c.into_vec.ensures ∙ c.in_ok-sinks.ensures ∙ (λ i. map (sink_begun (contains (pointwise nat_eq) c.args.keeps.now) (slots_are i)) (outputs_are i))
