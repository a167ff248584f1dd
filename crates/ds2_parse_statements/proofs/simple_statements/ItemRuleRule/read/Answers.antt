use Rattle.std.proofs.Common.{sym, subst}
use Rattle.ds2_tree.specs.Promise.{Gives}
use Rattle.ds2_parse_rules.specs.StatementGrammar.{item_rule}
use Rattle.ds2_parse_rules.proofs.RuleSteps.{exit}
use Rattle.ds2_parse_statements.proofs.SimpleSteps.{item_name_stops, item_text, item_named}
use Rattle.ds2_parse_statements.proofs.simple_statements.ItemRuleRule.read.Goals as goal

pub returns-in-Some-clause-exact : goal.returns-in-Some-clause-exact
returns-in-Some-clause-exact c m lt =
    let end = c.args.end in let ts = c.args.tokens.now in
    item_text ts c.in-Some.text.now c.in-Some.rest.now c.in-Some.ensures c.in_ok-copy.field-0 c.in_ok-copy.ensures

pub returns-in_err-name-clause-exact : goal.returns-in_err-name-clause-exact
returns-in_err-name-clause-exact c m lt =
    let end = c.args.end in let ts = c.args.tokens.now in
    let e = c.in_err-name.field-0.0 in
    exit end (λ x. (x.0, x.1.now)) c.from_residual-in_err-name.result e (item_rule ts) c.from_residual-in_err-name.ensures.1
    (item_name_stops ts c.in_default.ensures end e c.in_err-name.ensures.exact)

pub returns-clause-exact : goal.returns-clause-exact
returns-clause-exact c m lt =
    let end = c.args.end in let ts = c.args.tokens.now in
    subst (Gives end (λ x. (x.0, x.1.now)) c.named_item.result) (sym (item_named ts c.in_default.ensures c.in_ok-name.name c.in_ok-name.rest.now c.in_ok-name.ensures.exact)) c.named_item.ensures.exact
