use Rattle.std.proofs.Common.{length, sym, ap, subst, arith}
use Rattle.ds2_tree.specs.Promise.{Gives}
use Rattle.ds2_tree.specs.StatementViews.{control_tree}
use Rattle.ds2_parse_rules.specs.ExpressionGrammar.{expression}
use Rattle.ds2_parse_statements.proofs.ControlSteps.{control_counted, control_tested}
use Rattle.ds2_parse_statements.proofs.controls.control.Goals as goal

pub returns-in-Some-clause-exact : goal.returns-in-Some-clause-exact
returns-in-Some-clause-exact c m lt =
    let n = c.args.levels in let ts = c.args.tokens.now in
    subst (Gives c.args.end (λ x. (control_tree x.0, x.1.now)) c.counted.result) (sym (control_counted (expression m n) ts c.in-Some.variable.now c.in-Some.rest.now c.in-Some.ensures c.in_ok-copy.field-0 c.in_ok-copy.ensures))
    (c.counted.ensures.exact m (omega (arith, lt, ap length c.in-Some.ensures.0)))

pub returns-in_ok-copy-in-Some-tested_at-clause-exact : goal.returns-in_ok-copy-in-Some-tested_at-clause-exact
returns-in_ok-copy-in-Some-tested_at-clause-exact c m lt =
    let n = c.args.levels in let ts = c.args.tokens.now in
    subst (Gives c.args.end (λ x. (control_tree x.0, x.1.now)) c.tested.result) (sym (control_tested (expression m n) ts c.in_default.ensures c.in-Some-tested_at.keyword.now c.in-Some-tested_at.rest.now c.in-Some-tested_at.ensures c.in_ok-copy-in-Some-tested_at.field-0 c.in_ok-copy-in-Some-tested_at.ensures))
    (c.tested.ensures.exact m (omega (arith, lt, ap length c.in-Some-tested_at.ensures.0)))
