use Rattle.std.proofs.Common.{length}
use Rattle.ds2_object_words.proofs.ListSteps.{ItemsLeft}
use Rattle.ds2_object_words.proofs.lists.write_items.Given as goal

abbrev pub invariant-items : goal.invariant-items
invariant-items g l = ItemsLeft g.T.Spelled.part g.T.Spelled.rules l.fn.out l.items l.out l.rest

abbrev pub decreases-items : goal.decreases-items
decreases-items g l = length l.rest
