-- Object files: the magic, the version, the programs; the refusals in their order; which object is valid.
use Rattle.std.specs.Prelude.{◌≡◌, IsTrue, ℕ, ◌-◌, ◌==◌, Bool, true, false, not, ◌&&◌, ◌||◌, if◌then◌else◌, List, [], ◌∷◌, ◌++◌, length, Option, Result, Ok, Err, slice_get, map, bytes_eq}
use Rattle.std.specs.List.{list_all, list_any, AllByRecursion}
use Rattle.std.specs.Option.{option_map_or, is_some}
use Rattle.ds2_base.specs.Bytes.{Bytes}
use Rattle.ds2_base.specs.declared.stop.Stop.{Stop}
use Rattle.ds2_base.specs.declared.stop.Stop.TheVariants.{Refused, OutOfMemory}
use Rattle.ds2_value.specs.Types.{same_ty}
use Rattle.ds2_value.specs.declared.schema.Column.{Column}
use Rattle.ds2_value.specs.declared.ty.Ty.{Ty}
use Rattle.ds2_code.specs.OperandTypes.{slot_type}
use Rattle.ds2_code.specs.ValidCode.{is_short, IsValidStaged}
use Rattle.ds2_code.specs.declared.parts.HashPart.{HashPart}
use Rattle.ds2_code.specs.declared.parts.HashTable.{HashTable}
use Rattle.ds2_code.specs.declared.parts.OutputPart.{OutputPart}
use Rattle.ds2_code.specs.declared.parts.ProgramParts.{ProgramParts}
use Rattle.ds2_code.specs.declared.parts.ReadPart.{ReadPart}
use Rattle.ds2_code.specs.declared.parts.ReadingPart.{ReadingPart}
use Rattle.ds2_code.specs.declared.parts.ReadingPart.TheVariants as reading
use Rattle.ds2_code.specs.declared.parts.Slot.{Slot}
use Rattle.ds2_code.specs.declared.parts.StagedParts.{StagedParts}
use Rattle.ds2_code.specs.declared.parts.TableReference.{TableReference}
use Rattle.ds2_object_words.specs.declared.flaw.Flaw.{Flaw}
use Rattle.ds2_object_words.specs.declared.flaw.Flaw.TheVariants as flaw
use Rattle.ds2_object_words.specs.PartLaws.{AreBytes}
use Rattle.ds2_object_words.specs.Parts.{FormatPart, FieldRead, number16_part, bytes_part, list_part}
use Rattle.ds2_object_programs.specs.ProgramSpelling.{WrittenProgram, StagedReading, data_program_part, all_made, data_parts, written_data}
use Rattle.ds2_object.specs.declared.refusal.ObjectRefusal.{ObjectRefusal}
use Rattle.ds2_object.specs.declared.refusal.ObjectRefusal.TheVariants as refusal

-- ---- spelling

-- the bytes with which an object file begins
abbrev pub magic_bytes : Bytes
magic_bytes = 68 ∷ 83 ∷ 50 ∷ 79 ∷ []

-- the version of the format
abbrev pub format_version : ℕ
format_version = 1

-- the programs of an object as they are written
abbrev pub WrittenObject : Type 0
WrittenObject = List (WrittenProgram StagedReading)

-- the programs of an object
unfoldable pub programs_part : FormatPart WrittenObject
programs_part = list_part data_program_part

-- the one spelling of an object
abbrev pub object_spelled : WrittenObject → Bytes
object_spelled object = magic_bytes ++ (number16_part.spelled format_version ++ programs_part.spelled object)

-- ---- reading

-- what is wrong in a file of so many bytes: the place of a field is counted from the file's start
abbrev pub refusal_of_flaw : ℕ → Flaw → ObjectRefusal
refusal_of_flaw total flaw.Truncated = refusal.Truncated
refusal_of_flaw total (flaw.Bad left) = refusal.BadField (total - left)

-- what is read next in a file of so many bytes, or what is wrong
abbrev pub then_reads : {A B : Type 0} → ℕ → FieldRead A → (A → Bytes → Result B ObjectRefusal) → Result B ObjectRefusal
then_reads total (Ok x) f = f x.0 x.1
then_reads total (Err flaw) f = Err (refusal_of_flaw total flaw)

-- the programs are all that is there
abbrev pub nothing_behind : {A : Type 0} → A → Bytes → Result A ObjectRefusal
nothing_behind programs [] = Ok programs
nothing_behind programs (b ∷ rest) = Err refusal.TrailingBytes

-- the version, and the programs behind it
abbrev pub version_read : ℕ → Bytes → Result WrittenObject ObjectRefusal
version_read total bytes =
    then_reads total (number16_part.read bytes) (λ version rest.
    if version == format_version then then_reads total (programs_part.read rest) nothing_behind else Err refusal.BadVersion)

-- the magic, and the version behind it
abbrev pub magic_read : ℕ → Bytes → Result WrittenObject ObjectRefusal
magic_read total bytes =
    then_reads total ((bytes_part 4).read bytes) (λ magic rest.
    if bytes_eq magic magic_bytes then version_read total rest else Err refusal.BadMagic)

-- the programs of a file, or what is wrong first: magic, version, fields, bytes behind them
abbrev pub object_read : Bytes → Result WrittenObject ObjectRefusal
object_read bytes = magic_read (length bytes) bytes

-- what is wrong, or that there is no memory, as a refusal of a file of so many bytes
abbrev pub stop_of_flaw : ℕ → Stop Flaw → Stop ObjectRefusal
stop_of_flaw total (Refused f) = Refused (refusal_of_flaw total f)
stop_of_flaw total OutOfMemory = OutOfMemory

-- ---- objects of valid code

-- how the programs of an object are written
abbrev pub written_object : List StagedParts → WrittenObject
written_object programs = map written_data programs

-- the parts of the programs, where each instruction is one
abbrev pub object_parts : WrittenObject → Option (List StagedParts)
object_parts object = all_made data_parts object

-- the same of what was read
abbrev pub then_parts : Result WrittenObject ObjectRefusal → Result (Option (List StagedParts)) ObjectRefusal
then_parts (Ok object) = Ok (object_parts object)
then_parts (Err r) = Err r

-- a slot is there, and is of this type
abbrev pub is_slot_of : List Slot → ℕ → Ty → Bool
is_slot_of slots n ty = option_map_or (same_ty ty) (slot_type slots n) false

-- a column of an output is a column of a table: the same name and type
abbrev pub column_is : List Slot → Bytes × ℕ → Column → Bool
column_is slots made column = bytes_eq made.0 column.name && is_slot_of slots made.1 column.ty

-- the columns of an output are those of a table, in the same order
abbrev pub columns_are : List Slot → List (Bytes × ℕ) → List Column → Bool
columns_are slots [] [] = true
columns_are slots [] (c ∷ cs) = false
columns_are slots (o ∷ os) [] = false
columns_are slots (o ∷ os) (c ∷ cs) = column_is slots o c && columns_are slots os cs

-- an output is a table: it has its name and its columns
abbrev pub output_is : List Slot → TableReference → OutputPart → Bool
output_is slots table output = bytes_eq output.name table.name && columns_are slots output.columns table.columns

-- a program has an output of this name with these columns
abbrev pub makes_reference : ProgramParts → TableReference → Bool
makes_reference p table = list_any (output_is p.slots table) p.outputs

-- a table is the store's, or an earlier program makes it
abbrev pub has_maker : List StagedParts → TableReference → Bool
has_maker earlier r = (r.maker == 0) || option_map_or (λ (p : StagedParts). makes_reference p.program r) (slice_get earlier (r.maker - 1)) false

-- the tables of a reading have makers
abbrev pub reading_linked : List StagedParts → ReadingPart → Bool
reading_linked earlier (reading.Set tables bys) = list_all (λ (t : ReadPart). has_maker earlier t.table) tables
reading_linked earlier (reading.Merge tables bys retains) = list_all (λ (t : ReadPart). has_maker earlier t.table) tables
reading_linked earlier (reading.Stage threads slots) = true
reading_linked earlier reading.Once = true
reading_linked earlier reading.Nothing = true

-- the table that a hash object begins with has a maker
abbrev pub hash_linked : List StagedParts → HashPart → Bool
hash_linked earlier h = option_map_or (λ (t : HashTable). has_maker earlier t.table) h.loaded true

-- the tables that a program names have makers
abbrev pub parts_linked : List StagedParts → ProgramParts → Bool
parts_linked earlier p =
    list_all (hash_linked earlier) p.hashes && reading_linked earlier p.reading

-- a program without a name
abbrev pub has_no_name : StagedParts → Bool
has_no_name p = not (is_some p.program.name)

-- a data program, whose tables and those of its thread program have makers
abbrev pub program_linked : List StagedParts → StagedParts → Bool
program_linked earlier p = has_no_name p && (parts_linked earlier p.program && list_all (parts_linked earlier) p.stages)

-- the same of each program behind earlier ones
abbrev pub linked_behind : List StagedParts → List StagedParts → Bool
linked_behind earlier [] = true
linked_behind earlier (p ∷ ps) = program_linked earlier p && linked_behind (earlier ++ p ∷ []) ps

-- no program has a thread program's name, each table has a maker, and there are fewer than 2 ^ 32 programs
abbrev pub object_linked : List StagedParts → Bool
object_linked programs = is_short programs && linked_behind [] programs

-- valid code, each program and their links
pub record IsValidObject (programs : List StagedParts) : Type 0 where
  pub each : AllByRecursion IsValidStaged programs
  pub links : IsTrue (object_linked programs)

-- ---- what calls promise

-- bytes are the spelling of programs
pub record IsSpellingOf (bytes : Bytes) (programs : List StagedParts) : Type 0 where
  pub bytes_are : bytes ≡ object_spelled (written_object programs)
  pub allowed : IsTrue (programs_part.allows (written_object programs))

-- what was decoded is what a file is read as: the programs that are written so, which are valid; or the first refusal, and last that
-- no valid programs are written so
abbrev pub DecodesTo : Result (List StagedParts) (Stop ObjectRefusal) → Bytes → Type 0
DecodesTo (Ok programs) bytes = (object_read bytes ≡ Ok (written_object programs)) × IsValidObject programs
DecodesTo (Err (Refused refusal.NotValid)) bytes =
    (object : WrittenObject) × (object_read bytes ≡ Ok object) × ((programs : List StagedParts) → written_object programs ≡ object → IsValidObject programs → ⊥)
DecodesTo (Err (Refused r)) bytes = object_read bytes ≡ Err r
DecodesTo (Err OutOfMemory) bytes = Unit {0}

-- a call gave back these programs, unless memory ran out
abbrev pub IsGivenBack : Result (List StagedParts) (Stop ObjectRefusal) → List StagedParts → Type 0
IsGivenBack (Ok given) programs = given ≡ programs
IsGivenBack (Err (Refused r)) programs = ⊥
IsGivenBack (Err OutOfMemory) programs = Unit {0}

-- ---- laws

-- what is spelled is read
abbrev pub ReadsWhatIsSpelled : Type 0
ReadsWhatIsSpelled = (object : WrittenObject) → IsTrue (programs_part.allows object) → object_read (object_spelled object) ≡ Ok object

-- what is read is spelled, each byte of it
abbrev pub SpellsWhatIsRead : Type 0
SpellsWhatIsRead = (bytes : Bytes) (object : WrittenObject) → AreBytes bytes → object_read bytes ≡ Ok object → (bytes ≡ object_spelled object) × IsTrue (programs_part.allows object)

-- one object has one spelling, and no spelling begins another
abbrev pub NoObjectBeginsAnother : Type 0
NoObjectBeginsAnother = (a b : WrittenObject) (rest : Bytes) → IsTrue (programs_part.allows a) → IsTrue (programs_part.allows b) → object_spelled a ++ rest ≡ object_spelled b → (a ≡ b) × (rest ≡ [])

-- each cut of a spelling is Truncated
abbrev pub EachCutIsTruncated : Type 0
EachCutIsTruncated =
    (object : WrittenObject) (front : Bytes) (byte : ℕ) (rest : Bytes) → IsTrue (programs_part.allows object) → object_spelled object ≡ front ++ byte ∷ rest
    → object_read front ≡ Err refusal.Truncated

-- the programs whose spelling bytes are, where they are valid, are what is decoded, and no others
abbrev pub DecodesWhatIsEncoded : Type 0
DecodesWhatIsEncoded = (programs : List StagedParts) (bytes : Bytes) (result : Result (List StagedParts) (Stop ObjectRefusal)) → IsValidObject programs → IsSpellingOf bytes programs → DecodesTo result bytes
    → IsGivenBack result programs

-- what is decoded is that of which the bytes are the spelling
abbrev pub EncodesWhatIsDecoded : Type 0
EncodesWhatIsDecoded = (programs : List StagedParts) (bytes : Bytes) → AreBytes bytes → DecodesTo (Ok programs) bytes → IsSpellingOf bytes programs
