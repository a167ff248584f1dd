use Rattle.std.proofs.Common.{◌++◌, map-id, sym, ◌∙◌, subst, arith, rules}
use Rattle.std.proofs.lemmas.Iterator.Adapters.{YieldsList-from_vec}
use Rattle.std.proofs.lemmas.Iterator.Consumers.{YieldsList-end}
use Rattle.ds2_expression_types.specs.Arguments.{AreJudged}
use Rattle.ds2_expression_types.proofs.ArgumentLists.{rules_of, values_of, values_begun, values_joined}
use Rattle.ds2_expression_types.proofs.arguments.values.Goals as goal

pub arguments-init : goal.arguments-init
arguments-init c = λ refusals nodes xs h k. values_begun c.args.ty c.args.rule refusals nodes xs c.args.before h k

pub arguments-preserved : goal.arguments-preserved
arguments-preserved c = λ refusals nodes xs h k.
    values_joined c.args.ty c.args.rule refusals nodes xs c.arguments.yielded c.in-Some.x _ k
    (λ before last b l.
    c.in_ok-all.ensures c.args.rule (refusals ++ rules_of c.args.rule before) (nodes ++ values_of c.args.ty before) last
    (c.arguments.invariant refusals nodes before h b) (c.ruled_argument.ensures last l))

pub returns : goal.returns
returns c = λ refusals nodes xs h k.
    let gives = c.into_iter-x-iterator.ensures.into_iter_gives in
    let end = YieldsList-end (YieldsList-from_vec {s = c.into_iter-x-iterator.result} c.into_vec-x-items.result.items gives.0
    (first_of (search rules, omega (arith, gives.1, c.into_vec-x-items.result.ok.0)))) c.arguments.yielded c.arguments.x-iterator c.arguments.yielded_by c.next.result c.next.new.self
    c.in-None.is c.next.ensures.steps in
    c.arguments.invariant refusals nodes xs h (subst (AreJudged xs) (sym (sym (map-id c.arguments.yielded) ∙ end.0 ∙ c.into_vec-x-items.ensures)) k)
