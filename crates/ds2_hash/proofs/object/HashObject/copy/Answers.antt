use Rattle.std.proofs.Common.{◌∙◌}
use Rattle.ds2_hash.proofs.ItemLemmas.{copies_item}
use Rattle.ds2_hash.proofs.object.HashObject.copy.Goals as goal

pub items-preserved-in_ok-insert : goal.items-preserved-in_ok-insert
items-preserved-in_ok-insert c =
    copies_item _ _ _ _ _ _ _ _ _ _ c.iter-key-items.ensures.unique c.self.view_is c.items.invariant c.in-Some.ensures.steps
    (c.in_ok-copy_row.ensures ∙ c.as_slice.ensures) (c.in_ok-copy_row-2.ensures ∙ c.as_slice-in-items.ensures) c.in_ok-insert.ensures.entries

pub items-preserved : goal.items-preserved
items-preserved c =
    copies_item _ _ _ _ _ _ _ _ _ _ c.iter-key-items.ensures.unique c.self.view_is c.items.invariant c.in-Some.ensures.steps
    (c.in_ok-copy_row.ensures ∙ c.as_slice.ensures) (c.in_ok-copy_row-2.ensures ∙ c.as_slice-in-items.ensures) c.in_ok-insert.ensures.entries
