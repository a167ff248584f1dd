use Rattle.std.proofs.Common.{◌≡◌, refl, arith}
use Rattle.ds2_tree.specs.Parsers.{Read, seq, optional}
use Rattle.ds2_tree.specs.Promise.{Fails}
use Rattle.ds2_parse_rules.proofs.RuleSteps.{exit, plainly, on_read, on_stop, on_last, on_last_stop}
use Rattle.ds2_parse_rules.proofs.rules.OptionalThenRule.read.Goals as goal

pub returns-in_err-part-clause-exact : goal.returns-in_err-part-clause-exact
returns-in_err-part-clause-exact g c m lt =
    let first = optional (g.F.Front.test c.args.self.now.0) (g.R.Rule.grammar c.args.self.now.1 m) in
    let second = g.N.Rule.grammar c.args.self.now.2 m in
    exit c.args.end (λ x. ((g.R.Rule.view.any x.0.0, g.N.Rule.view.one x.0.1), x.1.now)) c.from_residual.result c.in_err-part.field-0.0 (seq first second c.args.tokens.now) c.from_residual.ensures.1
    (plainly (Fails c.args.end c.in_err-part.field-0.0) (seq first second) c.args.tokens.now (on_stop first second c.args.end c.in_err-part.field-0.0 (c.in_err-part.ensures.exact m lt)))

pub returns-in_err-next-clause-exact : goal.returns-in_err-next-clause-exact
returns-in_err-next-clause-exact g c m lt =
    let first = optional (g.F.Front.test c.args.self.now.0) (g.R.Rule.grammar c.args.self.now.1 m) in
    let second = g.N.Rule.grammar c.args.self.now.2 m in
    exit c.args.end (λ x. ((g.R.Rule.view.any x.0.0, g.N.Rule.view.one x.0.1), x.1.now)) c.from_residual-in_err-next.result c.in_err-next.field-0.0 (seq first second c.args.tokens.now) c.from_residual-in_err-next.ensures.1
    (plainly (Fails c.args.end c.in_err-next.field-0.0) (seq first second) c.args.tokens.now
    (on_read first second (c.in_ok-part.ensures.exact m lt) (on_last_stop c.args.end c.in_err-next.field-0.0 (c.in_err-next.ensures.exact m (omega (arith, lt, c.in_ok-part.ensures.shorter))))))

pub returns-clause-exact : goal.returns-clause-exact
returns-clause-exact g c m lt =
    let first = optional (g.F.Front.test c.args.self.now.0) (g.R.Rule.grammar c.args.self.now.1 m) in
    let second = g.N.Rule.grammar c.args.self.now.2 m in
    plainly (λ o. o ≡ Read (g.R.Rule.view.any c.in_ok-part.part, g.N.Rule.view.one c.in_ok-next.next) c.in_ok-next.rest.now) (seq first second) c.args.tokens.now
    (on_read first second (c.in_ok-part.ensures.exact m lt) (on_last (c.in_ok-next.ensures.exact m (omega (arith, lt, c.in_ok-part.ensures.shorter))) refl))
