-- What `run`, `compile` and `check` answer to a source.
use Rattle.std.specs.Prelude.{ℕ, ◌-◌, List, [], ◌∷◌, ◌++◌, codes, drop, flat_map, length, map, take, Option, Some, None, Result, Ok, Err}
use Rattle.ds2_base.specs.Bytes.{Bytes}
use Rattle.ds2_base.specs.Text.{text_of}
use Rattle.ds2_table.specs.OneThread.{Answer}
use Rattle.ds2_outside.specs.Files.{Files}
use Rattle.ds2_source.specs.Units.{SourcePart}
use Rattle.ds2_source.specs.ProgramMeaning.{program_answer, tables_made}
use Rattle.ds2_meaning.specs.ProgramTree.{UnitTree, ProgramTree, reader_of}
use Rattle.ds2_meaning.specs.Reading.{bys_of}
use Rattle.ds2_same_meaning.specs.SameAnswer.{programs_in_chain}
use Rattle.ds2_meaning.specs.declared.globals.OutputTable.{OutputTable}
use Rattle.ds2_source.specs.Elaboration.{ProgramRefusal, elaborated_source}
use Rattle.ds2_source.specs.AnswersOfTexts.{SourcesRead}
use Rattle.ds2_source.specs.InputTables.{source_inputs, names_or_refusal}
use Rattle.ds2_source.specs.SourceAnswer.{SourceAnswer}
use Rattle.ds2_source.specs.declared.kinds.SourceRefusal.{SourceRefusal}
use Rattle.ds2_source.specs.SourceRefusals.{source_refusal_of}
use Rattle.ds2_code.specs.declared.parts.StagedParts.{StagedParts}
use Rattle.ds2_object.specs.ObjectSpelling.{object_spelled, written_object}
use Rattle.ds2_answer.specs.declared.kinds.FileKind.TheVariants as file
use Rattle.ds2_answer.specs.declared.kinds.TheConstants.{SOURCE_LIMIT}
use Rattle.ds2_answer.specs.declared.status.Status.TheVariants as ended
use Rattle.ds2_answer.specs.HeldTables.{HeldTables, NamedTable, columns_held, held_from_store, made_by_name, rows_held}
use Rattle.ds2_answer.specs.Lines.{checked_thread_line, object_line, source_line, verdict_text}
use Rattle.ds2_answer.specs.ObjectPlans.{answer_over}
use Rattle.ds2_answer.specs.Plan.{Plan, Stops, Logs, WritesFile, each_in_turn}
use Rattle.ds2_answer.specs.ProgramPlans.{ProgramLeft, ProgramRun, left_with, programs_plan}
use Rattle.ds2_answer.specs.StagesLeft.{InstructionCounts, StageRead, VerdictsTold, instruction_counts, grain_of_stages, name_of_stage}
use Rattle.ds2_verdicts.specs.SourceVerdicts.{source_verdicts}
use Rattle.ds2_verdicts.specs.ThreadVerdicts.{verdict_named}
use Rattle.ds2_verdicts.specs.declared.verdicts.ThreadVerdict.{ThreadVerdict}
use Rattle.ds2_answer.specs.TablePlans.{OutputNamed, Presence, none_made, outputs_then, read_file, read_tables, refuse_file}

-- ---- the object of a source

-- the file of the object of a source: its name with the ending `.dso` in the place of `.ds2`
abbrev pub object_file : List ℕ → List ℕ
object_file source = take (length source - 4) source ++ codes ".dso"

-- the bytes of an object
abbrev pub object_bytes : List StagedParts → Bytes
object_bytes object = object_spelled (written_object object)

-- the object is written, over what stood there
abbrev pub store_object : List ℕ → List StagedParts → Plan → Plan
store_object source object rest = WritesFile (object_file source) (object_bytes object) rest

-- ---- programs of a source

-- a thread program as its tree tells it
abbrev pub stage_in_tree : UnitTree → StageRead
stage_in_tree stage = record { name = name_of_stage stage.thread; bys = length (bys_of stage.reading) }

-- the thread programs that a program reads from, the nearest one first
abbrev pub stages_of_program : ProgramTree → List StageRead
stages_of_program p = map stage_in_tree (drop 1 (programs_in_chain p))

-- how many instructions the first of these codes executes over tables that are held
abbrev pub counts_of_first : VerdictsTold → List StagedParts → ℕ → HeldTables → InstructionCounts
counts_of_first told [] budget held = record { stages = []; program = 0 }
counts_of_first told (code ∷ codes) budget held = instruction_counts (answer_over told code budget held)

-- what a program leaves with this answer; its instructions are those of its stored code
abbrev pub left_by_program : VerdictsTold → ProgramTree → InstructionCounts → Answer → ProgramLeft
left_by_program told p counts answer = left_with told (stages_of_program p) counts answer (map made_by_name (tables_made 0 (reader_of p).outputs answer.rows))

-- the one-thread answer of a program over tables that are held, its groups at the grain that the verdicts tell
abbrev pub meant_over : VerdictsTold → ProgramTree → ℕ → HeldTables → Answer
meant_over told p budget held = program_answer p [] (rows_held held) budget (grain_of_stages told (stages_of_program p))

-- a program of a source over tables that are held, whose stored code is the first of these
abbrev pub run_of_program : VerdictsTold → ℕ → ProgramTree → List StagedParts → ProgramRun
run_of_program told budget p codes = λ held. left_by_program told p (counts_of_first told codes budget held) (meant_over told p budget held)

-- codes behind the first one
abbrev pub other_codes : List StagedParts → List StagedParts
other_codes [] = []
other_codes (code ∷ codes) = codes

-- the programs of a source, each with its stored code
abbrev pub runs_of_programs : VerdictsTold → ℕ → List ProgramTree → List StagedParts → List ProgramRun
runs_of_programs told budget [] codes = []
runs_of_programs told budget (p ∷ programs) codes = run_of_program told budget p codes ∷ runs_of_programs told budget programs (other_codes codes)

-- the outputs of a program of a source
abbrev pub outputs_of_program : ProgramTree → List OutputNamed
outputs_of_program p = map (λ (o : OutputTable). record { name = o.name; overwrites = o.overwrites }) (reader_of p).outputs

-- ---- what a command does with the programs of a source

-- `run`: unless an output is there already, the object is written, and the programs run over the tables that were read, with these verdicts on
-- their thread programs
abbrev pub run_programs_of : List ℕ → ℕ → List StagedParts → Presence → HeldTables → List ThreadVerdict → List ProgramTree → Plan
run_programs_of source budget object there held verdicts programs =
    outputs_then none_made there (flat_map outputs_of_program programs) (store_object source object (programs_plan (runs_of_programs (verdict_named verdicts) budget programs object) held))

-- `compile`: the object is written, and its bytes are counted in the log
abbrev pub compile_programs_of : List ℕ → List StagedParts → Plan
compile_programs_of source object = store_object source object (Logs (object_line (object_file source) (length (object_bytes object))) (Stops ended.Done))

-- the verdict on a thread program is told
abbrev pub verdict_then : ThreadVerdict → Plan → Plan
verdict_then v rest = Logs (checked_thread_line v.name (verdict_text v.verdict)) rest

-- `check`: the verdict on each thread program is told, in order
abbrev pub check_threads : List ThreadVerdict → Plan
check_threads verdicts = each_in_turn verdict_then verdicts (Stops ended.Done)

-- ---- sources

-- a source is refused
abbrev pub refuse_source : SourceRefusal → Plan
refuse_source refusal = Logs (source_line refusal) (Stops ended.Source)

-- a source is refused for its names or types, or the command goes on with its programs
abbrev pub with_typed_programs : Result (List ProgramTree) ProgramRefusal → (List ProgramTree → Plan) → Plan
with_typed_programs (Err refusal) go = refuse_source (source_refusal_of refusal)
with_typed_programs (Ok programs) go = go programs

-- what a command does with the tables of a source, the verdicts on its thread programs, and its programs
abbrev pub SourceCommand : Type 0
SourceCommand = HeldTables → List ThreadVerdict → List ProgramTree → Plan

-- a source over the tables that it reads
abbrev pub with_tables : List SourcePart → SourceCommand → List NamedTable → Plan
with_tables parts go read =
    with_typed_programs (elaborated_source (columns_held (held_from_store read)) parts) (go (held_from_store read) (source_verdicts (columns_held (held_from_store read)) parts))

-- a source with too many tables is refused, or its tables are read
abbrev pub with_inputs : Result (List (List ℕ)) SourceRefusal → List SourcePart → Files → SourceCommand → Plan
with_inputs (Err refusal) parts files go = refuse_source refusal
with_inputs (Ok names) parts files go = read_tables [] names [] files (with_tables parts go)

-- a text that is no source is refused, or the tables that it reads are looked up
abbrev pub with_tree : SourceAnswer → Files → SourceCommand → Plan
with_tree (Err refusal) files go = refuse_source refusal
with_tree (Ok parts) files go = with_inputs (names_or_refusal (source_inputs parts)) parts files go

-- a file of a source that is no text is refused, or its text is read
abbrev pub with_text : SourcesRead → List ℕ → Option Bytes → Files → SourceCommand → Plan
with_text sources name None files go = refuse_file name file.NotUtf8
with_text sources name (Some text) files go = with_tree (sources.answer_for text) files go

-- the file of a source is read, and the command goes on with its tables and programs
abbrev pub source_plan : SourcesRead → List ℕ → Files → SourceCommand → Plan
source_plan sources name files go = read_file SOURCE_LIMIT name files (λ bytes. with_text sources name (text_of bytes) files go)
