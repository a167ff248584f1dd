use Rattle.std.proofs.Common.{eq-eqb}
use Rattle.ds2_store_steps.proofs.Leading.{item_is, none_is_left}
use Rattle.ds2_store_steps.proofs.ReferenceSteps.{kept_all, kept_another, kept_without, keeping_begins}
use Rattle.ds2_store_steps.proofs.references.names_kept.Goals as goal

pub references-init : goal.references-init
references-init c = keeping_begins c.args.references.now _

pub references-preserved : goal.references-preserved
references-preserved c =
    kept_without _ _ _ _ _ (item_is _ _ c.in-len1-up.len_at_least c.reference-item.is) (eq-eqb _ _ c.if-reference-ne0.false) c.references.invariant

pub references-preserved-in_ok-add_made : goal.references-preserved-in_ok-add_made
references-preserved-in_ok-add_made c =
    kept_another _ _ _ _ _ _ (item_is _ _ c.in-len1-up.len_at_least c.reference-item.is) c.in_ok-add_made.ensures c.references.invariant

pub returns : goal.returns
returns c = kept_all _ _ _ (none_is_left _ c.in_default.len_below) c.references.invariant
