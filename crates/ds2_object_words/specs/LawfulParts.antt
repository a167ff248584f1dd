-- The laws of the words and of the parts of a program.
use Rattle.std.specs.Prelude.{◌≡◌, IsTrue, ◌++◌}
use Rattle.ds2_base.specs.Bytes.{Bytes}
use Rattle.ds2_object_words.specs.Parts.{FormatPart, byte_part, number16_part, number32_part, number64_part}
use Rattle.ds2_object_words.specs.PartLaws.{IsLawfulPart}
use Rattle.ds2_object_words.specs.Words.{flag_part, text_part, name_part, table_name_part, type_part, column_part}
use Rattle.ds2_object_words.specs.CodeParts.{slot_line, constant_line, reference_line, hash_table_line, hash_line, method_line, read_line, by_line, output_line}

-- no spelling of a part begins another one
abbrev pub BeginsNoOther : {A : Type 0} → FormatPart A → Type 0
BeginsNoOther {A} p = (x y : A) (rest more : Bytes) → IsTrue (p.allows x) → IsTrue (p.allows y) → p.spelled x ++ rest ≡ p.spelled y ++ more → (x ≡ y) × (rest ≡ more)

-- a part of which the laws hold begins no other one
abbrev pub NoSpellingBeginsAnother : Type 0
NoSpellingBeginsAnother = BeginsNoOther name_part × BeginsNoOther type_part × BeginsNoOther constant_line × BeginsNoOther method_line

-- what is spelled is read, and what is read is spelled, for each of the words
pub record AreLawfulWords : Type 0 where
  pub byte : IsLawfulPart byte_part
  pub number16 : IsLawfulPart number16_part
  pub number32 : IsLawfulPart number32_part
  pub number64 : IsLawfulPart number64_part
  pub flag : IsLawfulPart flag_part
  pub text : IsLawfulPart text_part
  pub name : IsLawfulPart name_part
  pub table_name : IsLawfulPart table_name_part
  pub ty : IsLawfulPart type_part
  pub column : IsLawfulPart column_part

-- the same for each part of a program
pub record AreLawfulParts : Type 0 where
  pub slot : IsLawfulPart slot_line
  pub constant : IsLawfulPart constant_line
  pub reference : IsLawfulPart reference_line
  pub hash_table : IsLawfulPart hash_table_line
  pub hash : IsLawfulPart hash_line
  pub method : IsLawfulPart method_line
  pub read : IsLawfulPart read_line
  pub by : IsLawfulPart by_line
  pub output : IsLawfulPart output_line
