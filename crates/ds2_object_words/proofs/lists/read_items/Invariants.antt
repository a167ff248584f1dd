use Rattle.std.proofs.Common.{◌≡◌, ◌-◌}
use Rattle.ds2_object_words.specs.Parts.{items_read}
use Rattle.ds2_object_words.proofs.ListSteps.{with_front}
use Rattle.ds2_object_words.proofs.lists.read_items.Given as goal

abbrev pub invariant-items : goal.invariant-items
invariant-items g l = with_front l.items (items_read g.T.Spelled.part (l.count - l.i) l.bytes) ≡ items_read g.T.Spelled.part l.count l.fn.bytes
