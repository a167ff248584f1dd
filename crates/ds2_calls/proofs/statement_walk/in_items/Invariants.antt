use Rattle.std.proofs.Common.{◌≡◌, drop}
use Rattle.ds2_names.specs.Uses.{item_uses}
use Rattle.ds2_scope.specs.Earliest.{earlier_of}
use Rattle.ds2_calls.specs.UseParts.{earliest_use}
use Rattle.ds2_calls.proofs.statement_walk.in_items.Given as goal

abbrev pub invariant-items : goal.invariant-items
invariant-items g l =
    earlier_of l.found (earliest_use (g.R.UseRule.places l.rule) (item_uses (g.R.UseRule.flags l.rule) (drop l.item-index l.items))) ≡ earliest_use (g.R.UseRule.places l.rule) (item_uses (g.R.UseRule.flags l.rule) l.items)
