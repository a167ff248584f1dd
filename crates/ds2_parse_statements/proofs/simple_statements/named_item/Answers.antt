use Rattle.ds2_tree.specs.Parsers.{to}
use Rattle.ds2_parse_rules.specs.StatementGrammar.{item_tail, named_item}
use Rattle.ds2_parse_rules.proofs.RuleSteps.{exit}
use Rattle.ds2_parse_statements.proofs.SimpleSteps.{member_stops, item_member, item_equals}
use Rattle.ds2_parse_statements.proofs.simple_statements.named_item.Goals as goal

pub returns-in-Some-clause-exact : goal.returns-in-Some-clause-exact
returns-in-Some-clause-exact c =
    let end = c.args.end in let ts = c.args.tokens.now in
    item_equals c.args.name ts c.in-Some.equals c.in-Some.rest.now c.in-Some.ensures.exact

pub returns-in_err-member-in-Some-mark_at-clause-exact : goal.returns-in_err-member-in-Some-mark_at-clause-exact
returns-in_err-member-in-Some-mark_at-clause-exact c =
    let end = c.args.end in let ts = c.args.tokens.now in
    let e = c.in_err-member-in-Some-mark_at.field-0.0 in
    exit end (λ x. (x.0, x.1.now)) c.from_residual.result e (to (named_item c.args.name) item_tail ts) c.from_residual.ensures.1
    (member_stops c.args.name ts c.in_default.ensures.test c.in-Some-mark_at.dot c.in-Some-mark_at.rest.now c.in-Some-mark_at.ensures.exact end e c.in_err-member-in-Some-mark_at.ensures.exact)

pub returns-in_ok-member-in-Some-mark_at-clause-exact : goal.returns-in_ok-member-in-Some-mark_at-clause-exact
returns-in_ok-member-in-Some-mark_at-clause-exact c =
    let end = c.args.end in let ts = c.args.tokens.now in
    item_member c.args.name ts c.in_default.ensures.test c.in-Some-mark_at.dot c.in-Some-mark_at.rest.now c.in-Some-mark_at.ensures.exact c.in_ok-member-in-Some-mark_at.member c.in_ok-member-in-Some-mark_at.rest.now c.in_ok-member-in-Some-mark_at.ensures.exact
