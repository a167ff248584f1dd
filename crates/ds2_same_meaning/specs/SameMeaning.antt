-- When code means the same as a program.
use Rattle.std.specs.Prelude.{◌≡◌, ℕ, List, [], ◌∷◌, ◌++◌, length, map, flat_map, Option, Some, None}
use Rattle.std.specs.List.{AllByRecursion, AllZip}
use Rattle.std.specs.Option.{option_map}
use Rattle.ds2_value.specs.Row.{Columns}
use Rattle.ds2_value.specs.Run.{Written}
use Rattle.ds2_value.specs.declared.value.Value.{Value}
use Rattle.ds2_table.specs.Table.{Contents}
use Rattle.ds2_meaning.specs.IsTyped.{IsTypedUnit}
use Rattle.ds2_meaning.specs.ProgramMeaning.{MadeTable, program_answer, tables_made}
use Rattle.ds2_meaning.specs.ProgramTree.{InstanceTree, UnitTree, ProgramTree, OverTables, OverStage, reader_of}
use Rattle.ds2_meaning.specs.Reading.{TableRows, inputs_of, bys_of}
use Rattle.ds2_meaning.specs.TableLaws.{tables_mentioned}
use Rattle.ds2_meaning.specs.declared.globals.OutputColumn.{OutputColumn}
use Rattle.ds2_meaning.specs.declared.globals.OutputTable.{OutputTable}
use Rattle.ds2_meaning.specs.declared.hashes.DeclaredHash.{DeclaredHash}
use Rattle.ds2_meaning.specs.declared.hashes.LoadedTable.{LoadedTable}
use Rattle.ds2_meaning.specs.declared.readings.Input.{Input}
use Rattle.ds2_meaning.specs.declared.readings.MentionedTable.{MentionedTable}
use Rattle.ds2_layout.specs.Layout.{program_slots, source_slot}
use Rattle.ds2_code.specs.OperandTypes.{slot_type}
use Rattle.ds2_code.specs.declared.parts.HashPart.{HashPart}
use Rattle.ds2_code.specs.declared.parts.HashTable.{HashTable}
use Rattle.ds2_code.specs.declared.parts.OutputPart.{OutputPart}
use Rattle.ds2_code.specs.declared.parts.ProgramParts.{ProgramParts}
use Rattle.ds2_code.specs.declared.parts.ReadingPart.{ReadingPart}
use Rattle.ds2_code.specs.declared.parts.ReadingPart.TheVariants as reading
use Rattle.ds2_code.specs.declared.parts.StagedParts.{StagedParts}
use Rattle.ds2_code.specs.declared.parts.TableReference.{TableReference}
use Rattle.ds2_code_answer.specs.CodeAnswer.{code_answer}
use Rattle.ds2_code_answer.specs.CodeTables.{program_references, reading_references, columns_named}
use Rattle.ds2_program_code.specs.CodeParts.{code_slots}
use Rattle.ds2_same_meaning.specs.SameAnswer.{staged_code, programs_in_chain, code_answer_with, IsTranslatable, HaveRowsMentioned, AreLikeAnswers}
use Rattle.ds2_unit.specs.Outputs.{tables_written}
use Rattle.ds2_program_code.specs.CountsByWay.{CountsByWay}

-- over any tables, with every budget and at every grain, code answers as a program means
abbrev pub CodeAnswersAs : ProgramTree → StagedParts → Type 0
CodeAnswersAs p code =
    (tables : TableRows) (contents : List Contents) (budget grain : ℕ) → HaveRowsMentioned p tables contents
    → AreLikeAnswers (code_answer code contents budget grain) (program_answer p [] tables budget grain)

-- the programs of code: its own, and the thread programs that it reads from, the nearest one first
abbrev pub programs_of_code : StagedParts → List ProgramParts
programs_of_code code = code.program ∷ code.stages

-- ---- tables that are read

-- the table that a reference in code means
abbrev pub table_referred : TableReference → MentionedTable
table_referred reference = record { name = reference.name; maker = reference.maker }

-- the columns of a table of a reading statement
abbrev pub columns_read : Input → Columns
columns_read input = input.columns

-- the columns of the table that a hash object is loaded from, where there is one
abbrev pub columns_of_load : Option LoadedTable → List Columns
columns_of_load None = []
columns_of_load (Some loaded) = loaded.columns ∷ []

-- those of the tables that hash objects are loaded from
abbrev pub columns_loaded : List DeclaredHash → List Columns
columns_loaded [] = []
columns_loaded (h ∷ hashes) = columns_of_load h.loaded ++ columns_loaded hashes

-- those of the tables that the hash objects of instances are loaded from
abbrev pub columns_loaded_by : List InstanceTree → List Columns
columns_loaded_by [] = []
columns_loaded_by (i ∷ instances) = columns_loaded i.objects.hashes ++ columns_loaded_by instances

-- those of the tables that the hash objects of a program and of its instances are loaded from
abbrev pub columns_at_opening : UnitTree → List Columns
columns_at_opening p = columns_loaded p.objects.hashes ++ columns_loaded_by p.instances

-- those of the tables that a program mentions, in the same order
abbrev pub columns_mentioned : ProgramTree → List Columns
columns_mentioned (OverTables p) = columns_at_opening p ++ map columns_read (inputs_of p.reading)
columns_mentioned (OverStage p stage) = columns_at_opening p ++ columns_mentioned stage

-- the tables that code mentions, in order
abbrev pub tables_of_code : StagedParts → List MentionedTable
tables_of_code code = map table_referred (program_references code.program code.stages)

-- their columns, in the same order
abbrev pub columns_of_code : StagedParts → List Columns
columns_of_code code = map columns_named (program_references code.program code.stages)

-- ---- the table of each hash object and of each place of a reading statement

-- the table that a reference in code means, with its columns
abbrev pub table_with_columns : TableReference → MentionedTable × Columns
table_with_columns reference = (table_referred reference, columns_named reference)

-- the table that a hash object of code begins with, where there is one
abbrev pub table_of_hash_part : HashPart → Option (MentionedTable × Columns)
table_of_hash_part hash = option_map (λ (loaded : HashTable). table_with_columns loaded.table) hash.loaded

-- that of a declared hash object
abbrev pub table_of_declared_hash : DeclaredHash → Option (MentionedTable × Columns)
table_of_declared_hash hash = option_map (λ (loaded : LoadedTable). (loaded.table, loaded.columns)) hash.loaded

-- the hash objects of a program, its own before those of its instances
abbrev pub declared_hashes_of : UnitTree → List DeclaredHash
declared_hashes_of p = p.objects.hashes ++ flat_map (λ (i : InstanceTree). i.objects.hashes) p.instances

-- the code of a program names the program's tables, with their columns: each hash object begins with the same table, or with none, and at each
-- place of the reading statement stands the same table
pub record NamesSameTables (p : UnitTree) (code : ProgramParts) : Type 0 where
  pub hashes : map table_of_hash_part code.hashes ≡ map table_of_declared_hash (declared_hashes_of p)
  pub reading : map table_with_columns (reading_references code.reading) ≡ map (λ (input : Input). (input.table, input.columns)) (inputs_of p.reading)

-- ---- tables that are made

-- tables that outputs of code make, each with the name of its output and whether it writes over a file
abbrev pub tables_of_outputs : List OutputPart → List Contents → List MadeTable
tables_of_outputs [] tables = []
tables_of_outputs (o ∷ outputs) [] = []
tables_of_outputs (o ∷ outputs) (table ∷ tables) = record { name = o.name; overwrites = o.overwrites; contents = table } ∷ tables_of_outputs outputs tables

-- the tables that code makes of the rows that it has written
abbrev pub code_tables_made : ProgramParts → List Written → List MadeTable
code_tables_made code rows = tables_of_outputs code.outputs (tables_written code rows)

-- of any rows that are written code makes the same tables as a program
abbrev pub MakesSameTables : ProgramTree → StagedParts → Type 0
MakesSameTables p code = (rows : List Written) → code_tables_made code.program rows ≡ tables_made 0 (reader_of p).outputs rows

-- ---- the programs of a chain

-- how many BY variables a reading statement of code has
abbrev pub number_of_bys : ReadingPart → ℕ
number_of_bys (reading.Set reads bys) = length bys
number_of_bys (reading.Merge reads bys retains) = length bys
number_of_bys _ = 0

-- by how many BY variables each program of code reads
abbrev pub bys_in_code : StagedParts → List ℕ
bys_in_code code = map (λ (part : ProgramParts). number_of_bys part.reading) (programs_of_code code)

-- by how many a program reads, and each thread program that it reads from
abbrev pub bys_in_chain : ProgramTree → List ℕ
bys_in_chain p = map (λ (unit : UnitTree). length (bys_of unit.reading)) (programs_in_chain p)

-- the name of each program of code, where it is a thread program
abbrev pub names_in_code : StagedParts → List (Option (List ℕ))
names_in_code code = map (λ (part : ProgramParts). part.name) (programs_of_code code)

-- the name of a program and of each thread program that it reads from, where it is a thread program
abbrev pub names_in_chain : ProgramTree → List (Option (List ℕ))
names_in_chain p = map (λ (unit : UnitTree). unit.thread) (programs_in_chain p)

-- ---- thread programs

-- code means the same as a thread program with those that it reads from: whatever values its parameters have, over any tables, with every budget
-- and at every grain it answers as the program means; and of any rows it makes the same tables
pub record ThreadMeansSame (p : ProgramTree) (code : StagedParts) : Type 0 where
  pub answers : (values : List Value) (tables : TableRows) (contents : List Contents) (budget grain : ℕ) → HaveRowsMentioned p tables contents
      → AreLikeAnswers (code_answer_with code values contents budget grain) (program_answer p values tables budget grain)
  pub outputs : MakesSameTables p code

-- so it is with the code of each thread program that a program reads from, the nearest one first
abbrev pub StagesMeanSame : ProgramTree → List ProgramParts → Type 0
StagesMeanSame (OverTables p) [] = Unit {0}
StagesMeanSame (OverTables p) (code ∷ codes) = ⊥
StagesMeanSame (OverStage p stage) [] = ⊥
StagesMeanSame (OverStage p stage) (code ∷ codes) = ThreadMeansSame stage (record { program = code; stages = codes }) × StagesMeanSame stage codes

-- ---- the same meaning

-- code means the same as a program with the thread programs that it reads from
pub record MeansSame (p : ProgramTree) (code : StagedParts) : Type 0 where
  -- it answers as the program means, and makes the same tables of any rows
  pub answers : CodeAnswersAs p code
  pub outputs : MakesSameTables p code
  -- so does the code of each of the thread programs, whatever values its parameters have
  pub stages : StagesMeanSame p code.stages
  -- in each of its programs the way of a call tells how many instructions the call executes
  pub counts : AllZip CountsByWay (programs_in_chain p) (programs_of_code code)
  -- it mentions the same tables with the same columns in the same order
  pub tables : tables_of_code code ≡ tables_mentioned p
  pub columns : columns_of_code code ≡ columns_mentioned p
  -- each of its programs mentions them at the same hash objects and places of its reading statement
  pub places : AllZip NamesSameTables (programs_in_chain p) (programs_of_code code)
  -- each of its programs has the name of the same thread program, where it is one, and reads by as many BY variables
  pub names : names_in_code code ≡ names_in_chain p
  pub bys : bys_in_code code ≡ bys_in_chain p

-- the code of each typed program, over tables or with the thread programs that it reads from, means the same as the program
abbrev pub TypedProgramsMeanSame : Type 0
TypedProgramsMeanSame = (p : ProgramTree) → IsTranslatable p → MeansSame p (staged_code p)

-- ---- outputs as tables that later programs read

-- the slots of an output's columns have the types of the columns
abbrev pub HasOutputSlots : UnitTree → OutputTable → Type 0
HasOutputSlots p o = AllByRecursion (λ (c : OutputColumn). slot_type (code_slots p) (source_slot (program_slots p) c.source) ≡ Some c.ty) o.columns

-- so it is in the code of each typed program, at each of its outputs
abbrev pub OutputsHaveSlots : Type 0
OutputsHaveSlots = (p : UnitTree) → IsTypedUnit p → AllByRecursion (HasOutputSlots p) p.outputs
