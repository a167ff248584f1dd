-- What programs leave that run one behind the other over tables that are held, whatever they are programs of.
use Rattle.std.specs.Prelude.{ℕ, List, [], ◌∷◌, length, reverse, Option, Some, None}
use Rattle.ds2_value.specs.declared.fault.Ending.{Ending}
use Rattle.ds2_value.specs.declared.fault.Ending.TheVariants.{Normal, Faulted}
use Rattle.ds2_table.specs.OneThread.{Answer}
use Rattle.ds2_csv.specs.Text as csv
use Rattle.ds2_answer.specs.declared.status.Status.TheVariants as ended
use Rattle.ds2_answer.specs.Answer.{table_file}
use Rattle.ds2_answer.specs.HeldTables.{HeldTables, NamedTable, held_behind}
use Rattle.ds2_answer.specs.Lines.{count_line, error_line, fault_text, line_put, table_line, thread_line}
use Rattle.ds2_answer.specs.Plan.{Plan, Stops, Logs, WritesFile, each_in_turn}
use Rattle.ds2_answer.specs.StagesLeft.{InstructionCounts, StageLeft, StageRead, VerdictsTold, stages_left}

-- what a program leaves: the lines that it put, how it has ended, what is told of the thread programs that it has read from, the innermost one
-- first, how many instructions its stored code executes, and a table for each output
pub record ProgramLeft : Type 0 where
  pub lines : List (List ℕ)
  pub ending : Option Ending
  pub stages : List StageLeft
  pub instructions : ℕ
  pub tables : List NamedTable

-- what a program leaves with this answer that reads from these thread programs, the nearest one first
abbrev pub left_with : VerdictsTold → List StageRead → InstructionCounts → Answer → List NamedTable → ProgramLeft
left_with told stages counts answer tables = record {
  lines = answer.lines;
  ending = answer.ending;
  stages = reverse (stages_left told stages answer.stages counts.stages);
  instructions = counts.program;
  tables = tables;
}

-- what a program leaves over tables that are held
abbrev pub ProgramRun : Type 0
ProgramRun = HeldTables → ProgramLeft

-- a line that a program has put
abbrev pub put_then : List ℕ → Plan → Plan
put_then line rest = Logs (line_put line) rest

-- the file of a table is written
abbrev pub write_then : NamedTable → Plan → Plan
write_then t rest = WritesFile (table_file t.name) (csv.text t.contents) rest

-- the rows of a table are counted in the log
abbrev pub count_rows_then : NamedTable → Plan → Plan
count_rows_then t rest = Logs (table_line t.name (length t.contents.rows)) rest

-- the groups and then the instructions of a thread program are counted in the log
abbrev pub count_stage_then : StageLeft → Plan → Plan
count_stage_then stage rest = Logs (thread_line stage.name stage.verdict stage.groups) (Logs (count_line stage.instructions) rest)

-- a program that has ended without fault writes its tables in their order; then the log counts what its thread programs did, its instructions
-- and the rows of each table, and the rest follows. One that has ended in a fault writes nothing, and the command stops; none is without an
-- ending (`ProgramEndings.antt`)
abbrev pub end_then : Option Ending → List StageLeft → ℕ → List NamedTable → Plan → Plan
end_then (Some Normal) stages instructions tables rest =
    each_in_turn write_then tables (each_in_turn count_stage_then stages (Logs (count_line instructions) (each_in_turn count_rows_then tables rest)))
end_then (Some (Faulted fault place)) stages instructions tables rest = Logs (error_line (fault_text fault) place) (Stops ended.Fault)
end_then None stages instructions tables rest = rest

-- a program leaves its lines, and then its tables or its fault
abbrev pub program_then : ProgramLeft → Plan → Plan
program_then left rest = each_in_turn put_then left.lines (end_then left.ending left.stages left.instructions left.tables rest)

-- programs run one behind the other; what each has made is held for those behind it
abbrev pub programs_plan : List ProgramRun → HeldTables → Plan
programs_plan [] held = Stops ended.Done
programs_plan (run ∷ runs) held = program_then (run held) (programs_plan runs (held_behind held (ProgramLeft.tables (run held))))
