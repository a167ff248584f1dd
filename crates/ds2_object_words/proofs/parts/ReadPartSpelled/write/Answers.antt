use Rattle.ds2_object_words.proofs.WriteSteps.{short_items, read_slots_short, read_written}
use Rattle.ds2_object_words.proofs.parts.ReadPartSpelled.write.Goals as goal

pub returns : goal.returns
returns c = read_written c.in_ok-write.ensures c.in_ok-write-2.ensures c.in_ok-write-3.ensures

pub write-requires-3 : goal.write-requires-3
write-requires-3 c = short_items c.args.self.now.slots (read_slots_short c.args.self.now c.requires)
