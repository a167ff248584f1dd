-- Programs in an object file, as they are written and as parts of code.
use Rattle.std.specs.Prelude.{◌≡◌, ℕ, Bool, true, false, not, ◌&&◌, nat_le, List, [], ◌∷◌, ◌++◌, map, Option, Some, None, Ok}
use Rattle.std.specs.Option.{option_map, option_and_then, is_some}
use Rattle.ds2_base.specs.Bytes.{Bytes}
use Rattle.ds2_code.specs.declared.instr.Instr.{Instr}
use Rattle.ds2_code.specs.declared.parts.ByPart.{ByPart}
use Rattle.ds2_code.specs.declared.parts.Constant.{Constant}
use Rattle.ds2_code.specs.declared.parts.HashPart.{HashPart}
use Rattle.ds2_code.specs.declared.parts.MethodPart.{MethodPart}
use Rattle.ds2_code.specs.declared.parts.OutputPart.{OutputPart}
use Rattle.ds2_code.specs.declared.parts.ProgramParts.{ProgramParts}
use Rattle.ds2_code.specs.declared.parts.ReadPart.{ReadPart}
use Rattle.ds2_code.specs.declared.parts.ReadingPart.{ReadingPart}
use Rattle.ds2_code.specs.declared.parts.ReadingPart.TheVariants as reading
use Rattle.ds2_code.specs.declared.parts.Slot.{Slot}
use Rattle.ds2_code.specs.declared.parts.StagedParts.{StagedParts}
use Rattle.ds2_object_instrs.specs.declared.instrs.WrittenInstr.{WrittenInstr}
use Rattle.ds2_object_words.specs.Parts.{FormatPart, FieldRead, and_read, byte_part, number32_part, empty_part, ◌⨾◌, seen_as, variant_part, checked_part, list_part, tagged_part}
use Rattle.ds2_object_words.specs.Words.{flag_part, name_part}
use Rattle.ds2_object_words.specs.CodeParts.{slot_line, constant_line, hash_line, method_line, read_line, by_line, output_line}
use Rattle.ds2_object_instrs.specs.InstrSpelling.{written_instr_part, written_instr_of, instr_of}
use Rattle.ds2_object_programs.specs.declared.globals.Globals.{Globals}
use Rattle.ds2_object_programs.specs.declared.units.Units.{Units}

-- ---- names

-- a data program has no name
unfoldable pub no_name_part : FormatPart (Option Bytes)
no_name_part = seen_as (λ (flag : Bool). None) (λ (name : Option Bytes). is_some name) (checked_part not flag_part)

-- a flag and a name as the name that is there
abbrev pub flagged_name : Option Bytes → Option (Bool × Bytes)
flagged_name name = option_map (λ (n : Bytes). (true, n)) name

-- a thread program has a name
unfoldable pub thread_name_part : FormatPart (Option Bytes)
thread_name_part = variant_part (λ (x : Bool × Bytes). Some x.1) flagged_name (checked_part (λ (flag : Bool). flag) flag_part ⨾ name_part)

-- ---- what stands before the reading and behind it

-- the slots, constants, hash objects, iterators and thread parameters of a program
unfoldable pub globals_part : FormatPart Globals
globals_part =
    seen_as (λ (x : List Slot × (List Constant × (List HashPart × (List ℕ × List ℕ)))). record { slots = x.0; constants = x.1.0; hashes = x.1.1.0; iterators = x.1.1.1.0; parameters = x.1.1.1.1 })
    (λ (g : Globals). (g.slots, (g.constants, (g.hashes, (g.iterators, g.parameters)))))
    (list_part slot_line ⨾ list_part constant_line ⨾ list_part hash_line ⨾ list_part number32_part ⨾ list_part number32_part)

-- the outputs of a program, and the entries of its units
unfoldable pub units_part : FormatPart Units
units_part =
    seen_as (λ (x : List OutputPart × (ℕ × (ℕ × ℕ))). record { outputs = x.0; init = x.1.0; run = x.1.1.0; term = x.1.1.1 }) (λ (u : Units). (u.outputs, (u.init, (u.run, u.term))))
    (list_part output_line ⨾ number32_part ⨾ number32_part ⨾ number32_part)

-- ---- readings

-- the tag of a reading
abbrev pub reading_tag : ReadingPart → ℕ
reading_tag reading.Once = 0
reading_tag reading.Nothing = 1
reading_tag (reading.Set tables bys) = 2
reading_tag (reading.Merge tables bys false) = 3
reading_tag (reading.Merge tables bys true) = 4
reading_tag (reading.Stage threads slots) = 5

-- one load that sets nothing
abbrev pub is_once : ReadingPart → Bool
is_once reading.Once = true
is_once _ = false

-- no load
abbrev pub is_nothing : ReadingPart → Bool
is_nothing reading.Nothing = true
is_nothing _ = false

-- the tables and BY variables of `set`
abbrev pub set_tables : ReadingPart → Option (List ReadPart × List ByPart)
set_tables (reading.Set tables bys) = Some (tables, bys)
set_tables _ = None

-- the tables and BY variables of `merge`
abbrev pub merge_tables : ReadingPart → Option (List ReadPart × List ByPart)
merge_tables (reading.Merge tables bys false) = Some (tables, bys)
merge_tables _ = None

-- the tables and BY variables of `merge` that keeps values
abbrev pub retaining_tables : ReadingPart → Option (List ReadPart × List ByPart)
retaining_tables (reading.Merge tables bys true) = Some (tables, bys)
retaining_tables _ = None

-- tables and BY variables
abbrev pub tables_part : FormatPart (List ReadPart × List ByPart)
tables_part = list_part read_line ⨾ list_part by_line

-- the readings of tables, in the order of their tags
abbrev pub table_readings : List (FormatPart ReadingPart)
table_readings =
    empty_part reading.Once is_once
    ∷ empty_part reading.Nothing is_nothing
    ∷ variant_part (λ (x : List ReadPart × List ByPart). reading.Set x.0 x.1) set_tables tables_part
    ∷ variant_part (λ (x : List ReadPart × List ByPart). reading.Merge x.0 x.1 false) merge_tables tables_part
    ∷ variant_part (λ (x : List ReadPart × List ByPart). reading.Merge x.0 x.1 true) retaining_tables tables_part
    ∷ []

-- what a thread program reads: no further thread program
unfoldable pub thread_reading_part : FormatPart ReadingPart
thread_reading_part = tagged_part reading_tag table_readings

-- ---- programs

-- a program as it is written, with what it reads
pub record WrittenProgram (R : Type 0) : Type 0 where
  pub name : Option Bytes
  pub globals : Globals
  pub methods : List MethodPart
  pub reading : R
  pub units : Units
  pub instrs : List WrittenInstr

-- a program, by how its name and what it reads are written
abbrev pub program_part : {R : Type 0} → FormatPart (Option Bytes) → FormatPart R → FormatPart (WrittenProgram R)
program_part {R} name reading =
    seen_as (λ (x : Option Bytes × (Globals × (List MethodPart × (R × (Units × List WrittenInstr))))).
    record { name = x.0; globals = x.1.0; methods = x.1.1.0; reading = x.1.1.1.0; units = x.1.1.1.1.0; instrs = x.1.1.1.1.1 })
    (λ (p : WrittenProgram R). (p.name, (p.globals, (p.methods, (p.reading, (p.units, p.instrs))))))
    (name ⨾ globals_part ⨾ list_part method_line ⨾ reading ⨾ units_part ⨾ list_part written_instr_part)

-- a thread program
unfoldable pub thread_program_part : FormatPart (WrittenProgram ReadingPart)
thread_program_part = program_part thread_name_part thread_reading_part

-- what a data program reads: tables, or so many threads of a thread program, into slots
pub data StagedReading : Type 0 where
  OfTables : ReadingPart → StagedReading
  OfThread : (threads : ℕ) → WrittenProgram ReadingPart → (slots : List ℕ) → StagedReading

-- the tag of what a data program reads
abbrev pub staged_tag : StagedReading → ℕ
staged_tag (OfTables r) = reading_tag r
staged_tag (OfThread threads program slots) = 5

-- the reading of tables
abbrev pub table_reading_in : StagedReading → Option ReadingPart
table_reading_in (OfTables r) = Some r
table_reading_in (OfThread threads program slots) = None

-- the threads, the thread program and the slots
abbrev pub thread_in : StagedReading → Option (ℕ × (WrittenProgram ReadingPart × List ℕ))
thread_in (OfTables r) = None
thread_in (OfThread threads program slots) = Some (threads, (program, slots))

-- 1 to 64 threads
unfoldable pub threads_part : FormatPart ℕ
threads_part = checked_part (λ (n : ℕ). nat_le 1 n && nat_le n 64) byte_part

-- the threads, the thread program, the slots of its columns
unfoldable pub stage_part : FormatPart (ℕ × (WrittenProgram ReadingPart × List ℕ))
stage_part = threads_part ⨾ thread_program_part ⨾ list_part number32_part

-- what a data program may read, in the order of their tags: tables, and behind the tag 5 a thread program
abbrev pub data_readings : List (FormatPart StagedReading)
data_readings =
    map (variant_part OfTables table_reading_in) table_readings
    ++ variant_part (λ (x : ℕ × (WrittenProgram ReadingPart × List ℕ)). OfThread x.0 x.1.0 x.1.1) thread_in stage_part ∷ []

-- what a data program reads
unfoldable pub data_reading_part : FormatPart StagedReading
data_reading_part = tagged_part staged_tag data_readings

-- a data program
unfoldable pub data_program_part : FormatPart (WrittenProgram StagedReading)
data_program_part = program_part no_name_part data_reading_part

-- ---- programs as parts of code

-- what was read, as what is made of it
abbrev pub read_as : {W A : Type 0} → (W → A) → FieldRead W → FieldRead A
read_as make read = and_read read (λ w rest. Ok (make w, rest))

-- what is made of each item, where something is made of each of them
abbrev pub all_made : {W A : Type 0} → (W → Option A) → List W → Option (List A)
all_made make [] = Some []
all_made make (w ∷ ws) = option_and_then (λ a. option_map (λ others. a ∷ others) (all_made make ws)) (make w)

-- what was made goes behind what was made before, where something was made of each; where nothing is made, nothing is of the whole
abbrev pub AddsMade : {A : Type 0} → Option A → Bool → List A → Bool → List A → Type 0
AddsMade {A} (Some a) whole before still after = (still ≡ whole) × (after ≡ before ++ a ∷ [])
AddsMade {A} None whole before still after = (still ≡ false) × (after ≡ before)

-- the instructions that are written so, where each of them is one
abbrev pub instrs_of : List WrittenInstr → Option (List Instr)
instrs_of ws = all_made instr_of ws

-- a program of what stands in its spelling, part by part
abbrev pub parts_from : Option Bytes → Globals → List MethodPart → ReadingPart → Units → List Instr → ProgramParts
parts_from name globals methods reading units instrs = record {
  name = name;
  slots = globals.slots;
  constants = globals.constants;
  hashes = globals.hashes;
  iterators = globals.iterators;
  parameters = globals.parameters;
  methods = methods;
  reading = reading;
  outputs = units.outputs;
  init = units.init;
  run = units.run;
  term = units.term;
  instrs = instrs;
}

-- the same where the instructions are known
abbrev pub parts_where : Option Bytes → Globals → List MethodPart → ReadingPart → Units → Option (List Instr) → Option ProgramParts
parts_where name globals methods reading units instrs = option_map (parts_from name globals methods reading units) instrs

-- the parts of a thread program, where each instruction is one
abbrev pub thread_parts : WrittenProgram ReadingPart → Option ProgramParts
thread_parts p = parts_where p.name p.globals p.methods p.reading p.units (instrs_of p.instrs)

-- the reading from a thread program, and this one, where it is known
abbrev pub stage_of : ℕ → List ℕ → Option ProgramParts → Option (ReadingPart × List ProgramParts)
stage_of threads slots program = option_map (λ (p : ProgramParts). (reading.Stage threads slots, p ∷ [])) program

-- the reading of a data program, and the thread programs that it stands on
abbrev pub staged_of : StagedReading → Option (ReadingPart × List ProgramParts)
staged_of (OfTables r) = Some (r, [])
staged_of (OfThread threads program slots) = stage_of threads slots (thread_parts program)

-- a data program, where its reading and its instructions are known
abbrev pub staged_where : Option Bytes → Globals → List MethodPart → Option (ReadingPart × List ProgramParts) → Units → Option (List Instr) → Option StagedParts
staged_where name globals methods reading units instrs =
    option_and_then (λ (r : ReadingPart × List ProgramParts).
    option_map (λ (p : ProgramParts). record { program = p; stages = r.1 }) (parts_where name globals methods r.0 units instrs)) reading

-- the parts of a data program, where each instruction is one
abbrev pub data_parts : WrittenProgram StagedReading → Option StagedParts
data_parts p = staged_where p.name p.globals p.methods (staged_of p.reading) p.units (instrs_of p.instrs)

-- ---- how parts of code are written

-- what stands before the methods of a program
abbrev pub written_globals : ProgramParts → Globals
written_globals p = record { slots = p.slots; constants = p.constants; hashes = p.hashes; iterators = p.iterators; parameters = p.parameters }

-- what stands behind the reading of a program, before its instructions
abbrev pub written_units : ProgramParts → Units
written_units p = record { outputs = p.outputs; init = p.init; run = p.run; term = p.term }

-- a program with what it reads, as it is written
abbrev pub written_program : {R : Type 0} → R → ProgramParts → WrittenProgram R
written_program reading p = record {
  name = p.name;
  globals = written_globals p;
  methods = p.methods;
  reading = reading;
  units = written_units p;
  instrs = map written_instr_of p.instrs;
}

-- a thread program
abbrev pub written_thread : ProgramParts → WrittenProgram ReadingPart
written_thread p = written_program p.reading p

-- what a data program reads, with the thread program that it stands on
abbrev pub staged_written : ReadingPart → List ProgramParts → StagedReading
staged_written (reading.Stage threads slots) (stage ∷ stages) = OfThread threads (written_thread stage) slots
staged_written r stages = OfTables r

-- a data program
abbrev pub written_data : StagedParts → WrittenProgram StagedReading
written_data p = written_program (staged_written p.program.reading p.stages) p.program
