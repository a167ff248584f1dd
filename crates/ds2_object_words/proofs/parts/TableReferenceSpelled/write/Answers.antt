use Rattle.ds2_object_words.proofs.WriteSteps.{reference_name, reference_columns, reference_written}
use Rattle.ds2_object_words.proofs.parts.TableReferenceSpelled.write.Goals as goal

pub returns : goal.returns
returns c = reference_written c.in_ok-write_table_name.ensures c.in_ok-write.ensures c.in_ok-write-2.ensures

pub write_table_name-requires : goal.write_table_name-requires
write_table_name-requires c = reference_name c.args.self.now c.requires

pub write-requires-2 : goal.write-requires-2
write-requires-2 c = reference_columns c.args.self.now c.requires
