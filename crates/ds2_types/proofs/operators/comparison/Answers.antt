use Rattle.std.proofs.Common.{◌++◌, ◌∙◌, ap}
use Rattle.ds2_value.specs.declared.ty.Ty.TheVariants.{BigInt}
use Rattle.ds2_value.specs.declared.comparison.Comparison.{Comparison}
use Rattle.ds2_meaning.specs.TypedExpression.{TypedExpression, Compared}
use Rattle.ds2_elaboration.specs.OperatorTypes.{spelled_comparison, compared_node}
use Rattle.ds2_types.specs.Judgements.{node_tree, comparison_clash}
use Rattle.ds2_types.proofs.Outcomes.{type_broken, type_typed}
use Rattle.ds2_types.proofs.Forms.{after_pair, compared_as}
use Rattle.ds2_types.proofs.operators.comparison.Goals as goal

pub returns-in-Err : goal.returns-in-Err
returns-in-Err c = λ x y h k.
    let place = c.args.operator.now.place in
    type_broken BigInt (x.refusals ++ y.refusals ++ comparison_clash place x.typing y.typing)
    (Compared (spelled_comparison c.args.operator.now) (compared_node x y.typing) (compared_node y x.typing)) c.in-Err.refusal
    (after_pair (comparison_clash place) x y c.args.a c.args.b c.comparison_clash-clash.result c.both.result c.ruled_pair.result h k
    c.comparison_clash-clash.ensures c.both.ensures c.ruled_pair.ensures _ c.in-Err.is)

pub returns-in_ok-node-in-Ok : goal.returns-in_ok-node-in-Ok
returns-in_ok-node-in-Ok c = λ x y h k.
    let operator = c.args.operator.now in
    let p = c.in-Ok.pair in
    let so = after_pair (comparison_clash operator.place) x y c.args.a c.args.b c.comparison_clash-clash.result c.both.result c.ruled_pair.result h k
    c.comparison_clash-clash.ensures c.both.ensures c.ruled_pair.ensures _ c.in-Ok.is in
    type_typed BigInt (x.refusals ++ y.refusals ++ comparison_clash operator.place x.typing y.typing)
    (Compared (spelled_comparison operator) (compared_node x y.typing) (compared_node y x.typing)) c.in_ok-node-in-Ok.node so.0
    (c.in_ok-node-in-Ok.ensures
    ∙ ap (λ (o : Comparison). Compared o (node_tree c.in_ok-left-in-Ok.left) (node_tree c.in_ok-right-in-Ok.right)) c.spelled_comparison.ensures
    ∙ ap (λ (t : TypedExpression). Compared (spelled_comparison operator) t (node_tree c.in_ok-right-in-Ok.right))
    (c.in_ok-left-in-Ok.ensures ∙ compared_as x _ _ y.typing (node_tree p.left) h.typing so.1.0 k.typing)
    ∙ ap (λ (t : TypedExpression). Compared (spelled_comparison operator) (compared_node x y.typing) t)
    (c.in_ok-right-in-Ok.ensures ∙ compared_as y _ _ x.typing (node_tree p.right) k.typing so.1.1 h.typing))
