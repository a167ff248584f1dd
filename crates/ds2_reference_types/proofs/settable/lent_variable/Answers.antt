use Rattle.std.proofs.Common.{sym, ap}
use Rattle.ds2_tree.specs.ExpressionViews.{expression_tree}
use Rattle.ds2_elaboration.specs.ExpressionTypes.{elaborated}
use Rattle.std.specs.Prelude.{Bool}
use Rattle.ds2_reference_types.specs.Passing.{lent_variable}
use Rattle.ds2_reference_types.proofs.IfOks.{if_ok_as}
use Rattle.ds2_reference_types.proofs.settable.lent_variable.Goals as goal

pub returns-then-in_out : goal.returns-then-in_out
returns-then-in_out c = λ types s.
    if_ok_as _ _ c.settable_variable.result (ap (λ (b : Bool). lent_variable b (elaborated types (expression_tree c.args.e.now)).node) (sym c.if-in_out.true)) (c.settable_variable.ensures types s)

pub returns-else-in_out : goal.returns-else-in_out
returns-else-in_out c = λ types s. ap (λ (b : Bool). lent_variable b (elaborated types (expression_tree c.args.e.now)).node) (sym c.if-in_out.false)
