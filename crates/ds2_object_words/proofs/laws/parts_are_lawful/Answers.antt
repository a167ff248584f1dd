use Rattle.ds2_object_words.proofs.CodePartLemmas.{slot_law, reference_law, hash_table_law, hash_law, method_law, read_law, by_law, output_law}
use Rattle.ds2_object_words.proofs.ConstantLemmas.{constant_law}
use Rattle.ds2_object_words.proofs.laws.parts_are_lawful.Goals as goal

pub returns : goal.returns
returns c = record {
  slot = slot_law;
  constant = constant_law;
  reference = reference_law;
  hash_table = hash_table_law;
  hash = hash_law;
  method = method_law;
  read = read_law;
  by = by_law;
  output = output_law;
}
