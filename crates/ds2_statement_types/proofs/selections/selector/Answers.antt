use Rattle.std.proofs.Common.{◌≡◌, ◌++◌, Option, Some, Ok, None, refl, sym, ap, ◌∙◌, subst}
use Rattle.std.specs.Option.{option_map}
use Rattle.ds2_tree.specs.ExpressionViews.{expression_tree}
use Rattle.ds2_tree.specs.StatementViews.{selector_tree}
use Rattle.ds2_tree.specs.Statements.{Selector}
use Rattle.ds2_tree.specs.declared.expressions.Expression as code
use Rattle.ds2_elaboration.specs.ExpressionTypes.{elaborated}
use Rattle.ds2_elaboration.specs.StatementTypes.{selector_refusals, selected_node}
use Rattle.ds2_elaboration.specs.Typings.{null_clash}
use Rattle.ds2_types.specs.Judgements.{IsOutcome, IsJudged}
use Rattle.ds2_types.specs.declared.judgement.Node.{Node}
use Rattle.ds2_simple_statement_types.specs.StatementOutcomes.{tree_if_any}
use Rattle.ds2_statement_types.specs.TestRules.{selector_node}
use Rattle.ds2_statement_types.proofs.selections.selector.Goals as goal

pub returns-in-None : goal.returns-in-None
returns-in-None c = λ types s.
    subst (λ (o : Option Selector). IsOutcome (λ (n : Option Node). tree_if_any n ≡ selector_node types c.args.decimals o) (selector_refusals types o) (Ok None))
    (sym (ap (option_map selector_tree) c.in-None.is)) (refl, refl)

pub returns-in_ok-value-in-Some : goal.returns-in_ok-value-in-Some
returns-in_ok-value-in-Some c = λ types s.
    let e = elaborated types (expression_tree c.in-Some.selector.value.value) in
    let judged = subst (λ (x : code.Expression). IsJudged (elaborated types (expression_tree x)) c.in_ok-x-in-Some.x) c.deref.ensures (c.in_ok-x-in-Some.ensures types s) in
    subst (λ (o : Option Selector). IsOutcome (λ (n : Option Node). tree_if_any n ≡ selector_node types c.args.decimals o) (selector_refusals types o) c.some_value.result)
    (sym (ap (option_map selector_tree) c.in-Some.is))
    (c.some_value.ensures (e.refusals ++ null_clash e.typing) (selected_node types c.args.decimals e.node)
    (c.in_ok-value-in-Some.ensures types (e.refusals ++ null_clash e.typing) e.node (c.valued.ensures e judged)))
