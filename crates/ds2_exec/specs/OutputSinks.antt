-- The tables of a program's outputs while it runs, each as its text, and where later programs name it with its rows too.
use Rattle.std.specs.Prelude.{◌≡◌, ℕ, Bool, true, if◌then◌else◌, List, [], ◌∷◌, ◌++◌, map, reverse, Option, Some, None}
use Rattle.ds2_value.specs.Row.{Columns, Row}
use Rattle.ds2_table.specs.OneThread.{Answer}
use Rattle.ds2_table.specs.Table.{Contents, with_row}
use Rattle.ds2_value.specs.declared.fault.Ending.{Ending}
use Rattle.ds2_value.specs.declared.fault.Ending.TheVariants.{Normal, Faulted}
use Rattle.ds2_code.specs.declared.parts.OutputPart.{OutputPart}
use Rattle.ds2_code.specs.declared.parts.Slot.{Slot}
use Rattle.ds2_code.specs.declared.parts.StagedParts.{StagedParts}
use Rattle.ds2_same_meaning.specs.ProgramMeaning.{MadeTable}
use Rattle.ds2_same_meaning.specs.SameMeaning.{code_tables_made}
use Rattle.ds2_unit.specs.Outputs.{columns_of_output}
use Rattle.ds2_unit.specs.declared.output_sinks.OutputSinks.{OutputSinks}
use Rattle.ds2_unit.specs.declared.program_end.RunEnd.{RunEnd}
use Rattle.ds2_program_text.specs.OutputHeads.{table_without_rows}
use Rattle.ds2_program_text.specs.ProgramTexts.{made_as_text, written_table}
use Rattle.ds2_answer.specs.Answer.{table_file}
use Rattle.ds2_answer.specs.HeldTables.{NamedTable, contents_named}
use Rattle.ds2_answer.specs.Lines.{count_line, error_line, fault_text, table_line}
use Rattle.ds2_answer.specs.Plan.{Plan, Stops, Logs, WritesFile, each_in_turn}
use Rattle.ds2_answer.specs.ObjectPlans.{stages_of_code}
use Rattle.ds2_answer.specs.ProgramPlans.{put_then}
use Rattle.ds2_answer.specs.StagesLeft.{InstructionCounts, VerdictsTold, instruction_counts, stages_left}
use Rattle.ds2_answer.specs.declared.status.Status.TheVariants as ended
use Rattle.ds2_exec.specs.declared.output_sink.OutputSink.{OutputSink}
use Rattle.ds2_exec.specs.declared.programs.CodeEnd.{CodeEnd}
use Rattle.ds2_exec.specs.declared.stages.StageEnd.{StageEnd}
use Rattle.ds2_exec.specs.StageEnds.{JudgedStage, count_end_then, stage_told, stages_noted}

-- ---- rows that are taken

-- where rows are kept, these stand behind those of before
abbrev pub HasKept : Option Contents → Option Contents → List Row → Type 0
HasKept None now rows = now ≡ None
HasKept (Some from) now rows = now ≡ Some (record { columns = from.columns; rows = from.rows ++ rows })

-- where rows are kept, this one is behind the others
abbrev pub KeptTaken : Option Contents → Option Contents → Row → Type 0
KeptTaken None after row = after ≡ None
KeptTaken (Some before) after row = after ≡ Some (with_row before row)

-- the table of an output has taken these rows: as text, and where they are kept as rows
abbrev pub HasSunk : OutputSink → OutputSink → List Row → Type 0
HasSunk from now rows =
    (now.written ≡ written_table from.written.name from.written.overwrites (record { columns = from.written.columns; rows = rows })) × HasKept from.kept now.kept rows

-- the rows of a table of this name and these columns before the first one, where a test tells that they are kept
abbrev pub kept_begun : (keeps : List ℕ → Bool) → List ℕ → Columns → Option Contents
kept_begun keeps name columns = if keeps name then Some (record { columns = columns; rows = [] }) else None

-- the table of an output before its first row
abbrev pub sink_begun : (keeps : List ℕ → Bool) → List Slot → OutputPart → OutputSink
sink_begun keeps slots output = record { written = table_without_rows slots output; kept = kept_begun keeps output.name (columns_of_output slots output) }

-- the table of an output behind its last row
abbrev pub sink_ended : (keeps : List ℕ → Bool) → MadeTable → OutputSink
sink_ended keeps made = record { written = made_as_text made; kept = if keeps made.name then Some made.contents else None }

-- ---- what a program leaves

-- what a program's code leaves whose run has ended so, with what its sink has taken and the verdicts on its thread programs
abbrev pub left_by_run : List JudgedStage → OutputSinks OutputSink → RunEnd → CodeEnd
left_by_run stages sink end =
    record { tables = sink.outputs.items; lines = sink.lines; ending = end.ending; executed = end.executed; stages = stages_noted stages end.stages }

-- a program's code has ended as its answer says
pub record IsCodeEnd (keeps : List ℕ → Bool) (told : VerdictsTold) (code : StagedParts) (answer : Answer) (end : CodeEnd) : Type 0 where
  pub tables : end.tables ≡ map (sink_ended keeps) (code_tables_made code.program answer.rows)
  pub lines : end.lines ≡ answer.lines
  pub ended : answer.ending ≡ Some end.ending
  pub counted : end.executed ≡ answer.executed
  pub noted : map stage_told end.stages ≡ reverse (stages_left told (stages_of_code code) answer.stages (InstructionCounts.stages (instruction_counts answer)))

-- the file of a table is written
abbrev pub write_sink_then : OutputSink → Plan → Plan
write_sink_then t rest = WritesFile (table_file t.written.name) t.written.text rest

-- the rows of a table are counted in the log
abbrev pub count_sink_then : OutputSink → Plan → Plan
count_sink_then t rest = Logs (table_line t.written.name t.written.rows) rest

-- behind a normal end the tables are written, what the thread programs did and the program's instructions and rows are counted, and the rest
-- follows; at a fault nothing is written
abbrev pub sinks_then : Ending → List StageEnd → ℕ → List OutputSink → Plan → Plan
sinks_then Normal stages instructions tables rest =
    each_in_turn write_sink_then tables (each_in_turn count_end_then stages (Logs (count_line instructions) (each_in_turn count_sink_then tables rest)))
sinks_then (Faulted fault place) stages instructions tables rest = Logs (error_line (fault_text fault) place) (Stops ended.Fault)

-- a program whose code has ended leaves its lines, and then its tables or its fault
abbrev pub code_end_then : CodeEnd → Plan → Plan
code_end_then end rest = each_in_turn put_then end.lines (sinks_then end.ending end.stages end.executed end.tables rest)

-- ---- tables that are kept

-- the table of a name before others, where its rows are kept
abbrev pub kept_before : List ℕ → Option Contents → List NamedTable → List NamedTable
kept_before name None others = others
kept_before name (Some contents) others = record { name = name; contents = contents } ∷ others

-- the tables of which rows are kept
abbrev pub tables_kept : List OutputSink → List NamedTable
tables_kept [] = []
tables_kept (t ∷ tables) = kept_before t.written.name t.kept (tables_kept tables)

-- tables that are kept have of each name that a test tells what all tables have of it
abbrev pub HaveKept : (keeps : List ℕ → Bool) → (kept all : List NamedTable) → Type 0
HaveKept keeps kept all = (name : List ℕ) → keeps name ≡ true → contents_named kept name ≡ contents_named all name
