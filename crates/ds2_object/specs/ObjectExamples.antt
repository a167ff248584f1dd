-- Object files, byte by byte, with what is read of them.
use Rattle.std.specs.Prelude.{◌≡◌, [], ◌∷◌, Ok, Err, None}
use Rattle.ds2_code.specs.declared.rows.TheConstants.{ROW_COUNT}
use Rattle.ds2_object.specs.ObjectSpelling.{object_spelled, object_read, then_parts}
use Rattle.ds2_object.specs.declared.refusal.ObjectRefusal.TheVariants.{BadMagic, BadVersion, Truncated, TrailingBytes, BadField}

-- small files and their answers
pub record ObjectExamples : Type 0 where
  -- no program: magic, version, a count of 0
  pub nothing_spelled : object_spelled [] ≡ 68 ∷ 83 ∷ 50 ∷ 79 ∷ 1 ∷ 0 ∷ 0 ∷ 0 ∷ 0 ∷ 0 ∷ []
  pub nothing_read : object_read (68 ∷ 83 ∷ 50 ∷ 79 ∷ 1 ∷ 0 ∷ 0 ∷ 0 ∷ 0 ∷ 0 ∷ []) ≡ Ok []
  -- the magic is a field: cut short it is Truncated, even where it is another one
  pub cut_in_the_magic : object_read (88 ∷ 89 ∷ []) ≡ Err Truncated
  -- another magic comes before another version
  pub other_magic : object_read (68 ∷ 83 ∷ 50 ∷ 80 ∷ 2 ∷ 0 ∷ []) ≡ Err BadMagic
  -- another version comes before what stands behind it
  pub other_version : object_read (68 ∷ 83 ∷ 50 ∷ 79 ∷ 2 ∷ 0 ∷ []) ≡ Err BadVersion
  -- a byte behind the programs
  pub byte_behind : object_read (68 ∷ 83 ∷ 50 ∷ 79 ∷ 1 ∷ 0 ∷ 0 ∷ 0 ∷ 0 ∷ 0 ∷ 0 ∷ []) ≡ Err TrailingBytes
  -- a data program has no name: its flag is at byte 10
  pub named_data_program : object_read (68 ∷ 83 ∷ 50 ∷ 79 ∷ 1 ∷ 0 ∷ 1 ∷ 0 ∷ 0 ∷ 0 ∷ 1 ∷ []) ≡ Err (BadField 10)
  -- an operation code that is none
  pub code_past_the_last : object_read (68 ∷ 83 ∷ 50 ∷ 79 ∷ 1 ∷ 0 ∷ 1 ∷ 0 ∷ 0 ∷ 0 ∷ 0 ∷ 0 ∷ 0 ∷ 0 ∷ 0 ∷ 0 ∷ 0 ∷ 0 ∷ 0 ∷ 0 ∷ 0 ∷ 0 ∷ 0 ∷ 0 ∷ 0 ∷ 0 ∷ 0 ∷ 0 ∷ 0 ∷ 0 ∷ 0 ∷ 0 ∷ 0 ∷ 0 ∷ 0 ∷ 0 ∷ 0 ∷ 0 ∷ 0 ∷ 0 ∷ 0 ∷ 0 ∷ 0 ∷ 0 ∷ 0 ∷ 0 ∷ 0 ∷ 0 ∷ 0 ∷ 0 ∷ 0 ∷ 0 ∷ 1 ∷ 0 ∷ 0 ∷ 0 ∷ ROW_COUNT ∷ []) ≡ Err (BadField 56)
  -- a count asks for nothing: what is missing is the first program
  pub count_alone : object_read (68 ∷ 83 ∷ 50 ∷ 79 ∷ 1 ∷ 0 ∷ 255 ∷ 255 ∷ 255 ∷ 255 ∷ []) ≡ Err Truncated
  -- a thread program in a thread program, at the tag of the inner reading
  pub stage_in_a_stage : object_read (68 ∷ 83 ∷ 50 ∷ 79 ∷ 1 ∷ 0 ∷ 1 ∷ 0 ∷ 0 ∷ 0 ∷ 0 ∷ 0 ∷ 0 ∷ 0 ∷ 0 ∷ 0 ∷ 0 ∷ 0 ∷ 0 ∷ 0 ∷ 0 ∷ 0 ∷ 0 ∷ 0 ∷ 0 ∷ 0 ∷ 0 ∷ 0 ∷ 0 ∷ 0 ∷ 0 ∷ 0 ∷ 0 ∷ 0 ∷ 0 ∷ 5 ∷ 1 ∷ 1 ∷ 1 ∷ 0 ∷ 0 ∷ 0 ∷ 116 ∷ 0 ∷ 0 ∷ 0 ∷ 0 ∷ 0 ∷ 0 ∷ 0 ∷ 0 ∷ 0 ∷ 0 ∷ 0 ∷ 0 ∷ 0 ∷ 0 ∷ 0 ∷ 0 ∷ 0 ∷ 0 ∷ 0 ∷ 0 ∷ 0 ∷ 0 ∷ 0 ∷ 0 ∷ 5 ∷ 1 ∷ 1 ∷ 2 ∷ 0 ∷ 0 ∷ 0 ∷ 116 ∷ []) ≡ Err (BadField 67)
  -- a comparison of 6 is read, but is no instruction
  pub comparison_of_six : then_parts (object_read (68 ∷ 83 ∷ 50 ∷ 79 ∷ 1 ∷ 0 ∷ 1 ∷ 0 ∷ 0 ∷ 0 ∷ 0 ∷ 0 ∷ 0 ∷ 0 ∷ 0 ∷ 0 ∷ 0 ∷ 0 ∷ 0 ∷ 0 ∷ 0 ∷ 0 ∷ 0 ∷ 0 ∷ 0 ∷ 0 ∷ 0 ∷ 0 ∷ 0 ∷ 0 ∷ 0 ∷ 0 ∷ 0 ∷ 0 ∷ 0 ∷ 0 ∷ 0 ∷ 0 ∷ 0 ∷ 0 ∷ 0 ∷ 0 ∷ 0 ∷ 0 ∷ 0 ∷ 0 ∷ 0 ∷ 0 ∷ 0 ∷ 0 ∷ 0 ∷ 0 ∷ 1 ∷ 0 ∷ 0 ∷ 0 ∷ 26 ∷ 6 ∷ [])) ≡ Ok None
