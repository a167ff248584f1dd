use Rattle.std.proofs.Common.{sym, ap, ◌∙◌}
use Rattle.ds2_tree.specs.Parsers.{Read, optional}
use Rattle.ds2_parse_rules.proofs.RuleSteps.{exit}
use Rattle.ds2_parse_rules.proofs.PartSteps.{optional_stops, optional_read, optional_absent}
use Rattle.ds2_parse_rules.proofs.rules.optional_of.Goals as goal

pub returns-in_err-tree-clause-exact : goal.returns-in_err-tree-clause-exact
returns-in_err-tree-clause-exact g c m lt =
    let begins = g.F.Front.test c.args.begins.now in
    let rule = g.R.Rule.grammar c.args.rule.now m in
    exit c.args.end (λ x. (g.R.Rule.view.any x.0, x.1.now)) c.from_residual.result c.in_err-tree.field-0.0 (optional begins rule c.args.tokens.now) c.from_residual.ensures.1
    (optional_stops begins rule c.args.tokens.now (sym c.is_at.ensures ∙ c.if-is_at.true) c.args.end c.in_err-tree.field-0.0 (c.in_err-tree.ensures.exact m lt))

pub returns-then-is_at-clause-exact : goal.returns-then-is_at-clause-exact
returns-then-is_at-clause-exact g c m lt =
    optional_read (g.F.Front.test c.args.begins.now) (g.R.Rule.grammar c.args.rule.now m) c.args.tokens.now (sym c.is_at.ensures ∙ c.if-is_at.true) (g.R.Rule.view.one c.in_ok-tree.tree) c.in_ok-tree.rest.now (c.in_ok-tree.ensures.exact m lt)
    ∙ ap (λ x. Read x c.in_ok-tree.rest.now) (sym (g.R.Rule.view.some_is c.in_ok-tree.tree))

pub returns-clause-exact : goal.returns-clause-exact
returns-clause-exact g c m lt =
    optional_absent (g.F.Front.test c.args.begins.now) (g.R.Rule.grammar c.args.rule.now m) c.args.tokens.now (sym c.is_at.ensures ∙ c.if-is_at.false)
    ∙ ap (λ x. Read x c.args.tokens.now) (sym g.R.Rule.view.none_is)
