use Rattle.std.proofs.Common.{sym, ap, ◌∙◌, subst}
use Rattle.ds2_tree.specs.Parsers.{many_of}
use Rattle.ds2_tree.specs.Promise.{Gives}
use Rattle.ds2_parse_rules.proofs.PartSteps.{nothing_found}
use Rattle.ds2_parse_rules.proofs.rules.items_of.Goals as goal

pub returns-clause-exact : goal.returns-clause-exact
returns-clause-exact g c m lt =
    subst (Gives c.args.end (λ x. (g.R.Rule.view.all x.0, x.1.now)) c.further_of.result)
    (sym (nothing_found (many_of m (g.F.Front.test c.args.begins.now) (g.R.Rule.grammar c.args.item.now m)) c.args.tokens.now (g.R.Rule.view.all c.new-found.result) (ap g.R.Rule.view.all c.new-found.ensures ∙ g.R.Rule.view.empty_is)))
    (c.further_of.ensures.exact m lt)
