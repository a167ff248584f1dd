use Rattle.ds2_object_words.proofs.WriteSteps.{short_items, hash_slots_short, hash_written}
use Rattle.ds2_object_words.proofs.parts.HashPartSpelled.write.Goals as goal

pub returns : goal.returns
returns c = hash_written c.in_ok-write.ensures c.in_ok-write-2.ensures c.in_ok-write-3.ensures

pub write-requires : goal.write-requires
write-requires c = short_items c.args.self.now.key_slots (hash_slots_short c.args.self.now c.requires).0

pub write-requires-2 : goal.write-requires-2
write-requires-2 c = short_items c.args.self.now.data_slots (hash_slots_short c.args.self.now c.requires).1
