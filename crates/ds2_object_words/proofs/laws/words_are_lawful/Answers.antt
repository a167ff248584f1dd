use Rattle.ds2_object_words.proofs.NumberLemmas.{byte_law, number16_law, number32_law, number64_law}
use Rattle.ds2_object_words.proofs.WordLemmas.{flag_law, text_law, name_law, table_name_law, type_law, column_law}
use Rattle.ds2_object_words.proofs.laws.words_are_lawful.Goals as goal

pub returns : goal.returns
returns c = record {
  byte = byte_law;
  number16 = number16_law;
  number32 = number32_law;
  number64 = number64_law;
  flag = flag_law;
  text = text_law;
  name = name_law;
  table_name = table_name_law;
  ty = type_law;
  column = column_law;
}
