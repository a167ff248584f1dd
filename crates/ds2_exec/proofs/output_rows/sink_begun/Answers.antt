use Rattle.std.proofs.Common.{◌≡◌, ◌∙◌, ap}
use Rattle.std.specs.Prelude.{nat_eq}
use Rattle.std.specs.Cmp.Lexicographic.{pointwise}
use Rattle.std.specs.HashSet.{contains}
use Rattle.ds2_unit.specs.Outputs.{columns_of_output}
use Rattle.ds2_program_text.specs.declared.written_table.WrittenTable.{WrittenTable}
use Rattle.ds2_exec.specs.OutputSinks.{kept_begun}
use Rattle.ds2_exec.proofs.SinkSteps.{columns_apart, columns_bounded}
use Rattle.ds2_exec.proofs.output_rows.sink_begun.Goals as goal

pub kept_table-requires-clause-within : goal.kept_table-requires-clause-within
kept_table-requires-clause-within c =
    columns_bounded c.args.slots.now c.args.output.now c.as_slice.result.now c.requires.slots (c.as_slice.ensures ∙ ap (λ (w : WrittenTable). w.columns) c.in_ok-written.ensures)

pub kept_table-requires-clause-names : goal.kept_table-requires-clause-names
kept_table-requires-clause-names c =
    columns_apart c.args.slots.now c.args.output.now c.as_slice.result.now c.requires.names (c.as_slice.ensures ∙ ap (λ (w : WrittenTable). w.columns) c.in_ok-written.ensures)

pub returns : goal.returns
returns c =
    let keeps = contains (pointwise nat_eq) c.args.keeps.now in
    let columns_are : c.as_slice.result.now ≡ columns_of_output c.args.slots.now c.args.output.now = c.as_slice.ensures ∙ ap (λ (w : WrittenTable). w.columns) c.in_ok-written.ensures in
    let name_is : c.in_ok-written.written.name ≡ c.args.output.now.name = ap (λ (w : WrittenTable). w.name) c.in_ok-written.ensures in
    let kept_is = c.in_ok-kept.ensures ∙ (λ i. kept_begun keeps (name_is i) (columns_are i)) in
    λ i. record { written = c.in_ok-written.ensures i; kept = kept_is i }
