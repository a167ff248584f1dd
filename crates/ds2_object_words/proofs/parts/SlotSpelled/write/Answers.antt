use Rattle.ds2_object_words.proofs.WriteSteps.{slot_written}
use Rattle.ds2_object_words.proofs.parts.SlotSpelled.write.Goals as goal

pub returns : goal.returns
returns c = slot_written c.in_ok-write.ensures c.in_ok-write-2.ensures c.in_ok-write-3.ensures
