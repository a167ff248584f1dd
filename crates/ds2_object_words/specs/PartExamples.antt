-- Words and parts of a program as bytes, worked by hand.
use Rattle.std.specs.Prelude.{◌≡◌, codes, false, true, [], ◌∷◌, Some, None, Ok, Err}
use Rattle.ds2_value.specs.declared.ty.Ty.TheVariants.{Decimal as DecimalOf, Varchar}
use Rattle.ds2_object_words.specs.declared.flaw.Flaw.TheVariants.{Truncated, Bad}
use Rattle.ds2_object_words.specs.Parts.{number16_part, number32_part, list_part, option_part}
use Rattle.ds2_object_words.specs.Words.{flag_part, name_part, table_name_part, type_part}

-- numbers are spelled with their lowest byte first, and are cut short where bytes are missing
pub record NumberExamples : Type 0 where
  pub low_byte_first : number16_part.spelled 258 ≡ 2 ∷ 1 ∷ []
  pub read_with_rest : number16_part.read (2 ∷ 1 ∷ 9 ∷ []) ≡ Ok (258, 9 ∷ [])
  pub one_byte_missing : number32_part.read (1 ∷ 0 ∷ 0 ∷ []) ≡ Err Truncated
  pub flag_of_two : flag_part.read (2 ∷ 5 ∷ []) ≡ Err (Bad 2)
  pub no_flag : flag_part.read [] ≡ Err Truncated

-- a name is its length and its bytes; what is wrong with it is told at its length
pub record NameWordExamples : Type 0 where
  pub spelled : name_part.spelled (codes "ab") ≡ 2 ∷ 0 ∷ 0 ∷ 0 ∷ 97 ∷ 98 ∷ []
  pub read : name_part.read (2 ∷ 0 ∷ 0 ∷ 0 ∷ 97 ∷ 98 ∷ 7 ∷ []) ≡ Ok (codes "ab", 7 ∷ [])
  pub upper_case : name_part.read (1 ∷ 0 ∷ 0 ∷ 0 ∷ 65 ∷ 7 ∷ []) ≡ Err (Bad 6)
  pub empty : name_part.read (0 ∷ 0 ∷ 0 ∷ 0 ∷ []) ≡ Err (Bad 4)
  pub no_utf8 : name_part.read (1 ∷ 0 ∷ 0 ∷ 0 ∷ 195 ∷ []) ≡ Err (Bad 5)
  pub longer_than_the_bytes : name_part.read (3 ∷ 0 ∷ 0 ∷ 0 ∷ 97 ∷ 98 ∷ []) ≡ Err Truncated
  pub blank_in_a_name : name_part.read (3 ∷ 0 ∷ 0 ∷ 0 ∷ 97 ∷ 32 ∷ 98 ∷ []) ≡ Ok (codes "a b", [])
  pub blank_in_a_table : table_name_part.read (3 ∷ 0 ∷ 0 ∷ 0 ∷ 97 ∷ 32 ∷ 98 ∷ []) ≡ Err (Bad 7)
  pub reserved_word : table_name_part.read (2 ∷ 0 ∷ 0 ∷ 0 ∷ 98 ∷ 121 ∷ []) ≡ Err (Bad 6)

-- a type is told at its tag, once its numbers were read
pub record TypeExamples : Type 0 where
  pub decimal : type_part.spelled (DecimalOf 10 2) ≡ 1 ∷ 10 ∷ 2 ∷ []
  pub varchar : type_part.read (3 ∷ 0 ∷ 4 ∷ []) ≡ Ok (Varchar 1024, [])
  pub varchar_of_1025 : type_part.read (3 ∷ 1 ∷ 4 ∷ []) ≡ Err (Bad 3)
  pub decimal_out_of_bounds : type_part.read (1 ∷ 200 ∷ 0 ∷ 9 ∷ []) ≡ Err (Bad 4)
  pub decimal_cut : type_part.read (1 ∷ 200 ∷ []) ≡ Err Truncated
  pub tag_of_four : type_part.read (4 ∷ []) ≡ Err (Bad 1)

-- a list is a count and the items, and what may be there a flag before it
pub record ListExamples : Type 0 where
  pub two_flags : (list_part flag_part).spelled (true ∷ false ∷ []) ≡ 2 ∷ 0 ∷ 0 ∷ 0 ∷ 1 ∷ 0 ∷ []
  pub count_alone : (list_part flag_part).read (255 ∷ 255 ∷ 255 ∷ 255 ∷ []) ≡ Err Truncated
  pub second_item : (list_part flag_part).read (2 ∷ 0 ∷ 0 ∷ 0 ∷ 1 ∷ 7 ∷ []) ≡ Err (Bad 1)
  pub something : (option_part flag_part).read (1 ∷ 0 ∷ []) ≡ Ok (Some false, [])
  pub nothing : (option_part flag_part).read (0 ∷ 1 ∷ []) ≡ Ok (None, 1 ∷ [])

-- all of these
abbrev pub PartExamples : Type 0
PartExamples = NumberExamples × NameWordExamples × TypeExamples × ListExamples
