use Rattle.std.proofs.Common.{List, ap, ◌∙◌}
use Rattle.std.specs.Prelude.{◌||◌}
use Rattle.std.specs.HashSet.{contains_text}
use Rattle.ds2_value.specs.declared.schema.Column.{Column}
use Rattle.ds2_value.specs.Schema.{has_column}
use Rattle.ds2_meaning.specs.declared.readings.Input.{Input}
use Rattle.ds2_layout.proofs.LayoutLemmas.{more_known, all_known}
use Rattle.ds2_layout.proofs.names.add_inputs.Goals as goal

pub inputs-preserved : goal.inputs-preserved
inputs-preserved c = λ other.
    more_known (λ (input : Input). has_column other input.columns) c.args.inputs.now c.inputs.input-index c.input-item.result c.inputs-test.true c.input-item.is _ _ _
    (c.in_ok-add_columns.ensures other ∙ ap (λ (l : List Column). has_column other l || contains_text c.inputs.set other) c.as_slice.ensures) (c.inputs.invariant other)

pub returns : goal.returns
returns c = λ other.
    all_known (λ (input : Input). has_column other input.columns) c.args.inputs.now c.inputs.input-index c.inputs-test.false _ _ (c.inputs.invariant other)
