use Rattle.std.proofs.Common.{refl}
use Rattle.std.proofs.Math.Utf8.{encode}
use Rattle.std.specs.Str.{chars, is_utf8}
use Rattle.ds2_object_words.specs.PartExamples.{NumberExamples, NameWordExamples, TypeExamples, ListExamples}
use Rattle.ds2_object_words.specs.Parts.{byte_part, number16_part, number32_part}
use Rattle.ds2_object_words.specs.Words.{flag_part, text_part, name_part, table_name_part, type_part}
use Rattle.ds2_object_words.proofs.laws.examples_hold.Goals as goal

numbers : NumberExamples
unfolding byte_part number16_part number32_part flag_part
numbers = record { low_byte_first = refl; read_with_rest = refl; one_byte_missing = refl; flag_of_two = refl; no_flag = refl }

names : NameWordExamples
unfolding number32_part text_part name_part table_name_part chars is_utf8 encode
names = record {
  spelled = refl;
  read = refl;
  upper_case = refl;
  empty = refl;
  no_utf8 = refl;
  longer_than_the_bytes = refl;
  blank_in_a_name = refl;
  blank_in_a_table = refl;
  reserved_word = refl;
}

types : TypeExamples
unfolding byte_part number16_part type_part
types = record { decimal = refl; varchar = refl; varchar_of_1025 = refl; decimal_out_of_bounds = refl; decimal_cut = refl; tag_of_four = refl }

lists : ListExamples
unfolding byte_part number32_part flag_part
lists = record { two_flags = refl; count_alone = refl; second_item = refl; something = refl; nothing = refl }

pub returns : goal.returns
returns c = (numbers, names, types, lists)
