use Rattle.std.proofs.Common.{sym, ap, ◌∙◌, subst}
use Rattle.ds2_tree.specs.Expressions as tree
use Rattle.ds2_tree.specs.ExpressionViews.{expression_tree}
use Rattle.ds2_tree.specs.declared.expressions.Expression as code
use Rattle.ds2_tree.proofs.Rows.{chain_is, call_is}
use Rattle.ds2_elaboration.specs.ExpressionTypes.{reference_in, elaborated}
use Rattle.ds2_reference_types.proofs.IfOks.{if_ok_as}
use Rattle.ds2_reference_types.proofs.References.{IsOther, no_reference}
use Rattle.ds2_reference_types.proofs.settable.+settable_variable.Goals as goal

pub returns-in-Variable : goal.returns-in-Variable
returns-in-Variable t c = λ types s.
    if_ok_as _ _ c.settable_name.result (ap (λ (e : tree.Expression). reference_in (elaborated types e).node) (sym (ap expression_tree c.in-Variable.is))) (c.settable_name.ensures types s)

pub returns-in-Parenthesis : goal.returns-in-Parenthesis
returns-in-Parenthesis t c = λ types s.
    if_ok_as (reference_in (elaborated types (expression_tree c.deref.result.now)).node) (reference_in (elaborated types (expression_tree c.args.e.now)).node) c.settable_variable.result
    (ap (λ (x : code.Expression). reference_in (elaborated types (expression_tree x)).node) c.deref.ensures
    ∙ ap (λ (e : tree.Expression). reference_in (elaborated types e).node) (sym (ap expression_tree c.in-Parenthesis.is))) (c.settable_variable.ensures types s)

pub returns-in-Constant : goal.returns-in-Constant
returns-in-Constant t c = λ types s. sym (no_reference types (expression_tree c.args.e.now) (subst IsOther (sym (ap expression_tree c.in-Constant.is)) tt))

pub returns-in-Null : goal.returns-in-Null
returns-in-Null t c = λ types s. sym (no_reference types (expression_tree c.args.e.now) (subst IsOther (sym (ap expression_tree c.in-Null.is)) tt))

pub returns-in-Member : goal.returns-in-Member
returns-in-Member t c = λ types s. sym (no_reference types (expression_tree c.args.e.now) (subst IsOther (sym (ap expression_tree c.in-Member.is)) tt))

pub returns-in-Call : goal.returns-in-Call
returns-in-Call t c = λ types s. sym (no_reference types (expression_tree c.args.e.now) (subst IsOther (sym (call_is _ _ _ _ _ c.in-Call.is)) tt))

pub returns-in-Sign : goal.returns-in-Sign
returns-in-Sign t c = λ types s. sym (no_reference types (expression_tree c.args.e.now) (subst IsOther (sym (ap expression_tree c.in-Sign.is)) tt))

pub returns-in-Chain : goal.returns-in-Chain
returns-in-Chain t c = λ types s. sym (no_reference types (expression_tree c.args.e.now) (subst IsOther (sym (chain_is _ _ _ _ c.in-Chain.is)) tt))

pub returns-in-Comparison : goal.returns-in-Comparison
returns-in-Comparison t c = λ types s. sym (no_reference types (expression_tree c.args.e.now) (subst IsOther (sym (ap expression_tree c.in-Comparison.is)) tt))

pub returns-in-Not : goal.returns-in-Not
returns-in-Not t c = λ types s. sym (no_reference types (expression_tree c.args.e.now) (subst IsOther (sym (ap expression_tree c.in-Not.is)) tt))
