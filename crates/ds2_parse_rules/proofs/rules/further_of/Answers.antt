use Rattle.std.proofs.Common.{◌++◌, sym, ap, ◌∙◌, arith}
use Rattle.ds2_tree.specs.Parsers.{to, many_of}
use Rattle.ds2_parse_rules.proofs.RuleSteps.{exit}
use Rattle.ds2_parse_rules.proofs.PartSteps.{all_push, item_found, item_stops, no_item}
use Rattle.ds2_parse_rules.proofs.rules.further_of.Goals as goal

pub returns-in_err-tree-clause-exact : goal.returns-in_err-tree-clause-exact
returns-in_err-tree-clause-exact g c m lt =
    let inv = c.loop-alloc.invariant.same m lt in
    let begins = g.F.Front.test c.args.begins.now in
    let rule = g.R.Rule.grammar c.args.item.now m in
    exit c.args.end (λ x. (g.R.Rule.view.all x.0, x.1.now)) c.from_residual.result c.in_err-tree.field-0.0 (to (λ l. g.R.Rule.view.all c.args.found ++ l) (many_of m begins rule) c.args.tokens.now) c.from_residual.ensures.1
    (item_stops begins rule (to (λ l. g.R.Rule.view.all c.args.found ++ l) (many_of m begins rule) c.args.tokens.now) (g.R.Rule.view.all c.loop-alloc.found) c.loop-alloc.rest.now inv.0 inv.2 inv.1 (sym c.is_at.ensures ∙ c.loop-alloc-test.true) c.args.end c.in_err-tree.field-0.0
    (c.in_err-tree.ensures.exact m (omega (arith, lt, c.loop-alloc.invariant.shorter))))

pub loop-alloc-preserved : goal.loop-alloc-preserved
loop-alloc-preserved g c =
    record {
      same = λ m lt.
          let inv = c.loop-alloc.invariant.same m lt in
          let begins = g.F.Front.test c.args.begins.now in
          let rule = g.R.Rule.grammar c.args.item.now m in
          item_found begins rule (to (λ l. g.R.Rule.view.all c.args.found ++ l) (many_of m begins rule) c.args.tokens.now) (g.R.Rule.view.all c.loop-alloc.found) c.loop-alloc.rest.now inv.0 inv.2 inv.1 (sym c.is_at.ensures ∙ c.loop-alloc-test.true)
          (g.R.Rule.view.one c.in_ok-tree.tree) c.in_ok-tree.after.now (c.in_ok-tree.ensures.exact m (omega (arith, lt, c.loop-alloc.invariant.shorter))) c.in_ok-tree.ensures.shorter (g.R.Rule.view.all c.push.new.self)
          (ap g.R.Rule.view.all c.in_ok-push.ensures.ok ∙ all_push g.R.Rule.view c.loop-alloc.found c.in_ok-tree.tree);
      shorter = omega (arith, c.loop-alloc.invariant.shorter, c.in_ok-tree.ensures.shorter);
    }

pub returns-clause-exact : goal.returns-clause-exact
returns-clause-exact g c m lt =
    let inv = c.loop-alloc.invariant.same m lt in
    let begins = g.F.Front.test c.args.begins.now in
    let rule = g.R.Rule.grammar c.args.item.now m in
    no_item begins rule (to (λ l. g.R.Rule.view.all c.args.found ++ l) (many_of m begins rule) c.args.tokens.now) (g.R.Rule.view.all c.loop-alloc.found) c.loop-alloc.rest.now inv.0 inv.2 inv.1 (sym c.is_at.ensures ∙ c.loop-alloc-test.false)
