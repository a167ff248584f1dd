-- What has to hold for a program to have a spelling, beside what its types keep. Valid code meets it.
use Rattle.std.specs.Prelude.{◌≡◌, IsTrue, Bool, true, false, not, ◌&&◌, nat_le, List, [], ◌∷◌, Some}
use Rattle.std.specs.List.{list_all}
use Rattle.std.specs.Option.{is_some}
use Rattle.ds2_code.specs.ValidCode.{is_short, lists_short, values_allowed}
use Rattle.ds2_code.specs.declared.instr.Instr.{Instr}
use Rattle.ds2_code.specs.declared.parts.ProgramParts.{ProgramParts}
use Rattle.ds2_code.specs.declared.parts.ReadingPart.{ReadingPart}
use Rattle.ds2_code.specs.declared.parts.ReadingPart.TheVariants as reading
use Rattle.ds2_code.specs.declared.parts.StagedParts.{StagedParts}
use Rattle.ds2_object_words.specs.CodeParts.{read_spelled}
use Rattle.ds2_object_words.specs.PartLaws.{IsLawfulPart}
use Rattle.ds2_object_instrs.specs.InstrSpelling.{fields_spelled, fields_of}
use Rattle.ds2_object_programs.specs.ProgramSpelling.{WrittenProgram, StagedReading, data_program_part, data_parts, written_data}

-- a type in an instruction is in bounds
abbrev pub instr_spelled : Instr → Bool
instr_spelled i = fields_spelled (fields_of i)

-- lists are short, values are such as an object file can hold, types in instructions are in bounds
abbrev pub program_spelled : ProgramParts → Bool
program_spelled p = (lists_short p && values_allowed p) && list_all instr_spelled p.instrs

-- the tables of a reading have spellings, and there are not too many tables and BY variables
abbrev pub reading_spelled : ReadingPart → Bool
reading_spelled (reading.Set tables bys) = is_short tables && (list_all read_spelled tables && is_short bys)
reading_spelled (reading.Merge tables bys retains) = is_short tables && (list_all read_spelled tables && is_short bys)
reading_spelled (reading.Stage threads slots) = is_short slots && (nat_le 1 threads && nat_le threads 64)
reading_spelled reading.Once = true
reading_spelled reading.Nothing = true

-- the reading is one of tables, or none
abbrev pub reads_tables : ReadingPart → Bool
reads_tables (reading.Stage threads slots) = false
reads_tables _ = true

-- a thread program has a name, and reads from no thread program
abbrev pub thread_spelled : ProgramParts → Bool
thread_spelled p = (is_some p.name && (reads_tables p.reading && reading_spelled p.reading)) && program_spelled p

-- one thread program with a spelling for a reading from one, and none for another reading
abbrev pub stages_spelled : ReadingPart → List ProgramParts → Bool
stages_spelled (reading.Stage threads slots) (stage ∷ []) = thread_spelled stage
stages_spelled (reading.Stage threads slots) _ = false
stages_spelled r [] = true
stages_spelled r (stage ∷ stages) = false

-- a data program has no name, and one thread program exactly where it reads from one
abbrev pub data_spelled : StagedParts → Bool
data_spelled s = (not (is_some s.program.name) && (reading_spelled s.program.reading && program_spelled s.program)) && stages_spelled s.program.reading s.stages

-- ---- laws

-- what is spelled is read and what is read is spelled; a program with a spelling is what is written of it, and no other one is
-- written so
pub record AreLawfulPrograms : Type 0 where
  pub part : IsLawfulPart data_program_part
  pub again : (s : StagedParts) → IsTrue (data_spelled s) → data_parts (written_data s) ≡ Some s
  pub only : (w : WrittenProgram StagedReading) (s : StagedParts) → data_parts w ≡ Some s → written_data s ≡ w
