use Rattle.ds2_object_words.specs.Parts.{items_read}
use Rattle.ds2_object_words.proofs.ListSteps.{one_read}
use Rattle.ds2_object_words.proofs.lists.read_items.Goals as goal

pub items-preserved : goal.items-preserved
items-preserved g c =
    rw c.in_ok-push.ensures.ok
    (one_read g.T.Spelled.part c.items.items c.args.count c.items.i c.items.bytes c.read.new.bytes c.in_ok-item.item
    (items_read g.T.Spelled.part c.args.count c.args.bytes.now) c.items-test.true c.in_ok-item.ensures c.items.invariant)
