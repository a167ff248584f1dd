use Rattle.std.proofs.Common.{◌+◌, [], ◌∷◌, drop, arith}
use Rattle.std.proofs.lemmas.Grind.{common_steps}
use Rattle.ds2_names.specs.Uses.{item_uses}
use Rattle.ds2_calls.proofs.UseLemmas.{one_more_use, item_first}
use Rattle.ds2_calls.proofs.statement_walk.in_items.Goals as goal

pub items-preserved : goal.items-preserved
items-preserved g c =
    let item = c.item-item.result in
    let rest = drop (c.items.item-index + 1) c.args.items.now in
    let first = item_first (g.R.UseRule.flags c.args.rule.now) item rest in
    let k = one_more_use (g.R.UseRule.places c.args.rule.now) c.items.found (item_uses (g.R.UseRule.flags c.args.rule.now) (item ∷ [])) (item_uses (g.R.UseRule.flags c.args.rule.now) rest) in
    grind (arith, common_steps, k, first, c.items.invariant)
