use Rattle.ds2_object_words.proofs.WriteSteps.{short_items, hash_table_rules, hash_table_written}
use Rattle.ds2_object_words.proofs.parts.HashTableSpelled.write.Goals as goal

pub returns : goal.returns
returns c = hash_table_written c.in_ok-write.ensures c.in_ok-write-2.ensures c.in_ok-write-3.ensures

pub write-requires : goal.write-requires
write-requires c = let k = hash_table_rules c.args.self.now c.requires in k.table

pub write-requires-2 : goal.write-requires-2
write-requires-2 c = let k = hash_table_rules c.args.self.now c.requires in short_items c.args.self.now.key_columns k.keys

pub write-requires-3 : goal.write-requires-3
write-requires-3 c = let k = hash_table_rules c.args.self.now c.requires in short_items c.args.self.now.data_columns k.data_columns
