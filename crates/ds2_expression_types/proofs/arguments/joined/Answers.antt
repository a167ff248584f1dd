use Rattle.std.proofs.Common.{List, map, ap, ◌∙◌}
use Rattle.ds2_meaning.specs.View.{typed_expression}
use Rattle.ds2_meaning.specs.declared.expressions.Expression.{Expression}
use Rattle.ds2_expression_types.specs.Arguments.{value_in}
use Rattle.ds2_types.specs.Judgements.{typing_of, node_tree}
use Rattle.ds2_expression_types.proofs.ArgumentLists.{value_as, pushed, further_values}
use Rattle.ds2_expression_types.proofs.arguments.joined.Goals as goal

pub returns-in-Err : goal.returns-in-Err
returns-in-Err c = λ rule refusals nodes e h r.
    further_values rule refusals nodes e c.args.x c.args.before c.values_and.result h r c.values_and.ensures _ c.in-Err.is

pub returns-in_ok-values-in-Ok : goal.returns-in_ok-values-in-Ok
returns-in_ok-values-in-Ok c = λ rule refusals nodes e h r.
    let further = c.in-Ok.further in
    let so = further_values rule refusals nodes e c.args.x c.args.before c.values_and.result h r c.values_and.ensures _ c.in-Ok.is in (
      so.0,
      ap (λ (l : List Expression). map typed_expression l) c.in_ok-values-in-Ok.ensures
          ∙ pushed further.values c.in_ok-node-in-Ok.node nodes (value_in c.args.ty e.value) so.1.0
          (c.in_ok-node-in-Ok.ensures ∙ value_as c.args.ty e.value (typing_of c.args.x.typing) (node_tree further.operand) r.typing so.1.1),
    )
