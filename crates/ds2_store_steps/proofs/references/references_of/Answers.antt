use Rattle.ds2_store_steps.proofs.Leading.{item_is}
use Rattle.ds2_store_steps.proofs.ReferenceSteps.{code_more}
use Rattle.ds2_store_steps.proofs.references.references_of.Goals as goal

pub codes-preserved : goal.codes-preserved
codes-preserved c = code_more _ _ _ _ _ _ c.parts.result.now (item_is _ _ c.in-len1-up.len_at_least c.code-item.is) c.parts.ensures.value c.in_ok-add_program.ensures c.codes.invariant
