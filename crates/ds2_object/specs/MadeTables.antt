-- The tables that programs make, as later programs name them, and sets of the spellings of tables.
use Rattle.std.specs.Prelude.{◌≡◌, IsTrue, ℕ, ◌==◌, Bool, false, ◌&&◌, ◌||◌, List, map, slice_get, Vec}
use Rattle.std.specs.BTreeSet.{BTreeSet}
use Rattle.std.specs.List.{list_all, list_any}
use Rattle.std.specs.Option.{option_map_or}
use Rattle.std.specs.declared.alloc.Global.{Global as Heap}
use Rattle.ds2_base.specs.Bytes.{Bytes}
use Rattle.ds2_token.specs.Words.{is_table_name}
use Rattle.ds2_value.specs.Types.{in_bounds}
use Rattle.ds2_value.specs.declared.schema.Column.{Column}
use Rattle.ds2_value.specs.declared.ty.Ty.TheVariants.{BigInt}
use Rattle.ds2_code.specs.ValidCode.{is_short}
use Rattle.ds2_code.specs.declared.parts.OutputPart.{OutputPart}
use Rattle.ds2_code.specs.declared.parts.ProgramParts.{ProgramParts}
use Rattle.ds2_code.specs.declared.parts.Slot.{Slot}
use Rattle.ds2_code.specs.declared.parts.StagedParts.{StagedParts}
use Rattle.ds2_code.specs.declared.parts.TableReference.{TableReference}
use Rattle.ds2_valid_code.specs.SeenNames.{has_key_of}
use Rattle.ds2_object_words.specs.CodeParts.{reference_line}
use Rattle.ds2_object_programs.specs.ProgramRules.{program_spelled, reading_spelled}
use Rattle.ds2_object.specs.ObjectSpelling.{output_is, has_maker}

-- ---- outputs as tables

-- a column of an output is of a slot that is there, with a type in bounds
abbrev pub has_spelled_slot : List Slot → Bytes × ℕ → Bool
has_spelled_slot slots made = option_map_or (λ (s : Slot). in_bounds s.ty) (slice_get slots made.1) false

-- a column of an output, as a column of a table
abbrev pub made_table_column : List Slot → Bytes × ℕ → Column
made_table_column slots made = record { name = made.0; ty = option_map_or (λ (s : Slot). s.ty) (slice_get slots made.1) BigInt }

-- an output has a spelling as a table
abbrev pub is_spelled_output : List Slot → OutputPart → Bool
is_spelled_output slots o = (is_table_name o.name && is_short o.columns) && list_all (has_spelled_slot slots) o.columns

-- an output of the program with this number, as the table that later programs name
abbrev pub made_table : List Slot → ℕ → OutputPart → TableReference
made_table slots maker o = record { name = o.name; maker = maker; columns = map (made_table_column slots) o.columns }

-- a table is this output of the program with this number
abbrev pub is_output_of : ℕ → List Slot → OutputPart → TableReference → Bool
is_output_of maker slots o r = (r.maker == maker) && output_is slots r o

-- a table is one of these outputs of the program with this number
abbrev pub is_among_outputs : ℕ → List Slot → List OutputPart → TableReference → Bool
is_among_outputs maker slots outputs r = (r.maker == maker) && list_any (output_is slots r) outputs

-- the parts of a program have spellings
abbrev pub parts_spelled : ProgramParts → Bool
parts_spelled p = program_spelled p && reading_spelled p.reading

-- ---- sets of spellings

-- a set of spellings
abbrev pub SpellingSet : Type 0
SpellingSet = BTreeSet (Vec ℕ Heap)

-- a set has these bytes
abbrev pub has_bytes : SpellingSet → Bytes → Bool
has_bytes set bytes = has_key_of (λ (key : Vec ℕ Heap). key.items) set bytes

-- a set has the spelling of a table
abbrev pub has_spelling : SpellingSet → TableReference → Bool
has_spelling set r = has_bytes set (reference_line.spelled r)

-- of all tables with a spelling, those that pass a test are put into a set
abbrev pub AddsTables : SpellingSet → (TableReference → Bool) → SpellingSet → Type 0
AddsTables before test after = (r : TableReference) → IsTrue (reference_line.allows r) → has_spelling after r ≡ (test r || has_spelling before r)

-- of all tables with a spelling, a set has those that programs make
abbrev pub HasMade : SpellingSet → List StagedParts → Type 0
HasMade set earlier = (r : TableReference) → IsTrue (reference_line.allows r) → ((r.maker == 0) || has_spelling set r) ≡ has_maker earlier r
