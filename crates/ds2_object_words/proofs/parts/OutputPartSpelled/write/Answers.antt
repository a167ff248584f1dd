use Rattle.ds2_token.specs.Words.{is_table_name}
use Rattle.ds2_code.specs.ValidCode.{is_short}
use Rattle.ds2_object_words.proofs.PartLemmas.{both}
use Rattle.ds2_object_words.proofs.WriteSteps.{short_items, output_written}
use Rattle.ds2_object_words.proofs.parts.OutputPartSpelled.write.Goals as goal

pub returns : goal.returns
returns c = output_written c.in_ok-write_table_name.ensures c.in_ok-write.ensures c.in_ok-write-2.ensures

pub write_table_name-requires : goal.write_table_name-requires
write_table_name-requires c = (both (is_table_name c.args.self.now.name) (is_short c.args.self.now.columns) c.requires).0

pub write-requires-2 : goal.write-requires-2
write-requires-2 c = short_items c.args.self.now.columns (both (is_table_name c.args.self.now.name) (is_short c.args.self.now.columns) c.requires).1
