use Rattle.std.proofs.Common.{◌≡◌, ◌++◌, [], ◌∷◌, refl, sym, ap, ◌∙◌, subst, arith}
use Rattle.ds2_tree.specs.Parsers.{to, seq, many_of}
use Rattle.ds2_tree.specs.Promise.{Gives, Fails}
use Rattle.ds2_parse_rules.proofs.RuleSteps.{exit, held, taken, on_read, on_stop}
use Rattle.ds2_parse_rules.proofs.PartSteps.{all_push}
use Rattle.ds2_parse_rules.proofs.rules.SomeOfRule.read.Goals as goal

pub returns-in_err-tree-clause-exact : goal.returns-in_err-tree-clause-exact
returns-in_err-tree-clause-exact g c m lt =
    let rule = g.R.Rule.grammar c.args.self.now.1 m in
    let further = many_of m (g.F.Front.test c.args.self.now.0) rule in
    exit c.args.end (λ x. (g.R.Rule.view.all x.0, x.1.now)) c.from_residual.result c.in_err-tree.field-0.0 (to (λ x. x.0 ∷ x.1) (seq rule further) c.args.tokens.now) c.from_residual.ensures.1
    (held (Fails c.args.end c.in_err-tree.field-0.0) (λ x. x.0 ∷ x.1) (seq rule further) c.args.tokens.now (on_stop rule further c.args.end c.in_err-tree.field-0.0 (c.in_err-tree.ensures.exact m lt)))

pub returns-clause-exact : goal.returns-clause-exact
returns-clause-exact g c m lt =
    let rule = g.R.Rule.grammar c.args.self.now.1 m in
    let further = many_of m (g.F.Front.test c.args.self.now.0) rule in
    subst (Gives c.args.end (λ x. (g.R.Rule.view.all x.0, x.1.now)) c.further_of.result)
    (ap (λ xs. to (λ l. xs ++ l) further c.in_ok-tree.rest.now) (ap g.R.Rule.view.all (c.in_ok-push.ensures.ok ∙ ap (λ xs. xs ++ c.in_ok-tree.tree ∷ []) c.new-found.ensures) ∙ all_push g.R.Rule.view [] c.in_ok-tree.tree ∙ ap (λ xs. xs ++ g.R.Rule.view.one c.in_ok-tree.tree ∷ []) g.R.Rule.view.empty_is)
    ∙ sym (held (λ o. o ≡ to (λ l. g.R.Rule.view.one c.in_ok-tree.tree ∷ l) further c.in_ok-tree.rest.now) (λ x. x.0 ∷ x.1) (seq rule further) c.args.tokens.now (on_read rule further (c.in_ok-tree.ensures.exact m lt) (taken refl))))
    (c.further_of.ensures.exact m (omega (arith, lt, c.in_ok-tree.ensures.shorter)))
