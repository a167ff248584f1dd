-- From what a program leaves to the programs behind it.
use Rattle.std.proofs.Common.{◌≡◌, ◌∙◌, IsErrAnd, Bool, true, false, bytes_eq, ℕ, List, [], ◌∷◌, ◌++◌, length, map, Option, Some, None, Result, Ok, Err, refl, sym, ap, subst, append_assoc}
use Rattle.std.specs.Prelude.{if◌then◌else◌, reverse}
use Rattle.std.proofs.lemmas.List.{append-nil, reverse-append, reverse-reverse}
use Rattle.std.proofs.lemmas.Slice.Eq.{bytes_eq-Decides}
use Rattle.ds2_base.specs.declared.place.Place.{Place}
use Rattle.ds2_value.specs.declared.fault.Ending.{Ending}
use Rattle.ds2_value.specs.declared.fault.Ending.TheVariants.{Normal, Faulted}
use Rattle.ds2_value.specs.declared.fault.Fault.{Fault}
use Rattle.ds2_table.specs.OneThread.{Answer}
use Rattle.ds2_table.specs.Table.{Contents}
use Rattle.ds2_csv.specs.Text as csv
use Rattle.ds2_outside.specs.Files.{Files}
use Rattle.ds2_code.specs.declared.parts.StagedParts.{StagedParts}
use Rattle.ds2_same_meaning.specs.ProgramMeaning.{MadeTable}
use Rattle.ds2_same_meaning.specs.SameMeaning.{code_tables_made}
use Rattle.ds2_answer.specs.declared.status.Status.TheVariants as ended
use Rattle.ds2_answer.specs.Answer.{table_file}
use Rattle.ds2_answer.specs.HeldTables.{HeldTables, NamedTable, contents_named, made_by_name}
use Rattle.ds2_answer.specs.Lines.{count_line, error_line, fault_text, line_put, lines_put, table_line, thread_line}
use Rattle.ds2_answer.specs.ObjectPlans.{answer_over, run_of_code}
use Rattle.ds2_answer.specs.Plan.{Plan, Logs, WritesFile, each_in_turn}
use Rattle.ds2_answer.specs.ProgramPlans.{ProgramLeft, count_rows_then, count_stage_then, end_then, program_then, put_then, write_then}
use Rattle.ds2_answer.specs.StagesLeft.{VerdictsTold}
use Rattle.ds2_store_steps.specs.declared.halt.Halt.{Halt}
use Rattle.ds2_store_steps.specs.declared.halt.Halt.TheVariants.{OutOfMemory}
use Rattle.ds2_exec.specs.declared.output_sink.OutputSink.{OutputSink}
use Rattle.ds2_exec.specs.declared.programs.CodeEnd.{CodeEnd}
use Rattle.ds2_exec.specs.declared.stages.StageEnd.{StageEnd}
use Rattle.ds2_exec.specs.CodeRuns.{rows_counted}
use Rattle.ds2_exec.specs.StageEnds.{count_end_then, stage_told, stages_counted}
use Rattle.ds2_store_steps.specs.Halts.{Follows, HaltsPlan, LeadsOn, StopsAs}
use Rattle.ds2_exec.specs.OutputSinks.{HaveKept, IsCodeEnd, code_end_then, count_sink_then, kept_before, sink_ended, sinks_then, tables_kept, write_sink_then}
use Rattle.ds2_store_steps.proofs.Leading.{does_on, halts_with, leads_none, leads_say, no_memory}
use Rattle.ds2_store_steps.proofs.FileSteps.{line_ends}

-- ---- tables of which rows are kept

kept_first : (name : List ℕ) (kept : Option Contents) (others : List NamedTable) → kept_before name kept others ≡ kept_before name kept [] ++ others
kept_first name None others = refl
kept_first name (Some contents) others = refl

-- tables were taken from the last of a turned list, one behind the other
abbrev pub TakenSoFar : (sinks rest : List OutputSink) → List NamedTable → Type 0
TakenSoFar sinks rest tables = tables ++ tables_kept (reverse rest) ≡ tables_kept sinks

pub taking_begins : (sinks rest : List OutputSink) (tables : List NamedTable) → rest ≡ reverse sinks → tables ≡ [] → TakenSoFar sinks rest tables
taking_begins sinks rest tables rest_is none =
    ap (λ (ts : List NamedTable). ts ++ tables_kept (reverse rest)) none
    ∙ ap tables_kept (ap reverse rest_is ∙ reverse-reverse sinks)

turned : (rest more : List OutputSink) (t : OutputSink) → rest ≡ more ++ t ∷ [] → reverse rest ≡ t ∷ reverse more
turned rest more t e = ap reverse e ∙ reverse-append more (t ∷ [])

pub taken_another : (sinks rest more : List OutputSink) (t : OutputSink) (tables behind : List NamedTable) → rest ≡ more ++ t ∷ [] → behind ≡ tables ++ tables_kept (t ∷ []) → TakenSoFar sinks rest tables → TakenSoFar sinks more behind
taken_another sinks rest more t tables behind rest_is behind_is so_far =
    let others : List NamedTable = tables_kept (reverse more) in
    ap (λ (ts : List NamedTable). ts ++ others) behind_is
    ∙ append_assoc tables (tables_kept (t ∷ [])) others
    ∙ ap (λ (ts : List NamedTable). tables ++ ts) (sym (kept_first t.written.name t.kept others))
    ∙ ap (λ (ss : List OutputSink). tables ++ tables_kept ss) (sym (turned rest more t rest_is))
    ∙ so_far

pub taken_all : (sinks rest : List OutputSink) (tables : List NamedTable) → rest ≡ [] → TakenSoFar sinks rest tables → tables ≡ tables_kept sinks
taken_all sinks rest tables none so_far =
    sym (append-nil tables)
    ∙ ap (λ (ss : List OutputSink). tables ++ tables_kept (reverse ss)) (sym none)
    ∙ so_far

-- a table of which no rows are kept adds none, and one of which they are kept adds itself
pub adds_none : (sink : OutputSink) (tables : List NamedTable) → sink.kept ≡ None → tables ≡ tables ++ tables_kept (sink ∷ [])
adds_none sink tables none = sym (append-nil tables) ∙ ap (λ (k : Option Contents). tables ++ kept_before sink.written.name k []) (sym none)

pub adds_one : (sink : OutputSink) (contents : Contents) (kept : NamedTable) (tables behind : List NamedTable) → sink.kept ≡ Some contents → kept ≡ record { name = sink.written.name; contents = contents } → behind ≡ tables ++ kept ∷ []
    → behind ≡ tables ++ tables_kept (sink ∷ [])
adds_one sink contents kept tables behind is kept_is behind_is =
    behind_is ∙ ap (λ (t : NamedTable). tables ++ t ∷ []) kept_is ∙ ap (λ (k : Option Contents). tables ++ kept_before sink.written.name k []) (sym is)

-- ---- what a program leaves

not_both : (b : Bool) → b ≡ true → b ≡ false → ⊥
not_both true h f = absurd (cc f)
not_both false h f = absurd (cc h)

module _ (keeps : List ℕ → Bool) (told : VerdictsTold) where
  writes_alike : (made : List MadeTable) (rest : Plan) → each_in_turn write_sink_then (map (sink_ended keeps) made) rest ≡ each_in_turn write_then (map made_by_name made) rest
  writes_alike [] rest = refl
  writes_alike (m ∷ made) rest = ap (λ (s : Plan). WritesFile (table_file m.name) (csv.text m.contents) s) (writes_alike made rest)

  counts_alike : (made : List MadeTable) (rest : Plan) → each_in_turn count_sink_then (map (sink_ended keeps) made) rest ≡ each_in_turn count_rows_then (map made_by_name made) rest
  counts_alike [] rest = refl
  counts_alike (m ∷ made) rest = ap (λ (s : Plan). Logs (table_line m.name (length m.contents.rows)) s) (counts_alike made rest)

  stages_alike : (stages : List StageEnd) (rest : Plan) → each_in_turn count_end_then stages rest ≡ each_in_turn count_stage_then (map stage_told stages) rest
  stages_alike [] rest = refl
  stages_alike (end ∷ stages) rest = ap (λ (s : Plan). Logs (thread_line end.name end.verdict end.groups) (Logs (count_line end.executed) s)) (stages_alike stages rest)

  ends_alike : (ending : Ending) (stages : List StageEnd) (instructions : ℕ) (made : List MadeTable) (rest : Plan)
      → sinks_then ending stages instructions (map (sink_ended keeps) made) rest ≡ end_then (Some ending) (map stage_told stages) instructions (map made_by_name made) rest
  ends_alike Normal stages instructions made rest =
      writes_alike made (each_in_turn count_end_then stages (Logs (count_line instructions) (each_in_turn count_sink_then (map (sink_ended keeps) made) rest)))
      ∙ ap (λ (s : Plan). each_in_turn write_then (map made_by_name made) s)
      (stages_alike stages (Logs (count_line instructions) (each_in_turn count_sink_then (map (sink_ended keeps) made) rest))
      ∙ ap (λ (s : Plan). each_in_turn count_stage_then (map stage_told stages) (Logs (count_line instructions) s)) (counts_alike made rest))
  ends_alike (Faulted fault place) stages instructions made rest = refl

  -- a program leaves what its code has left
  pub program_is : (code : StagedParts) (budget : ℕ) (held : HeldTables) (end : CodeEnd) → IsCodeEnd keeps told code (answer_over told code budget held) end
      → (rest : Plan) → code_end_then end rest ≡ program_then (run_of_code told budget code held) rest
  program_is code budget held end ends rest =
      let answer : Answer = answer_over told code budget held in
      let made : List MadeTable = code_tables_made code.program answer.rows in
      (λ i. each_in_turn put_then (ends.lines i) (sinks_then end.ending end.stages (ends.counted i) (ends.tables i) rest))
      ∙ ap (each_in_turn put_then answer.lines)
      (ends_alike end.ending end.stages answer.executed made rest ∙ (λ i. end_then (sym ends.ended i) (ends.noted i) answer.executed (map made_by_name made) rest))

  kept_alike : (made : List MadeTable) (name : List ℕ) → keeps name ≡ true → contents_named (tables_kept (map (sink_ended keeps) made)) name ≡ contents_named (map made_by_name made) name
  kept_alike [] name is = refl
  kept_alike (m ∷ made) name is = by (keeps m.name) refl (bytes_eq m.name name) refl (kept_alike made name is)
    where
      by : (k : Bool) → keeps m.name ≡ k → (e : Bool) → bytes_eq m.name name ≡ e → contents_named (tables_kept (map (sink_ended keeps) made)) name ≡ contents_named (map made_by_name made) name
          → contents_named (kept_before m.name (if k then Some m.contents else None) (tables_kept (map (sink_ended keeps) made))) name ≡ (if e then m.contents else contents_named (map made_by_name made) name)
      by true k true e same = ap (λ (b : Bool). if b then m.contents else contents_named (tables_kept (map (sink_ended keeps) made)) name) e
      by true k false e same = ap (λ (b : Bool). if b then m.contents else contents_named (tables_kept (map (sink_ended keeps) made)) name) e ∙ same
      by false k true e same = absurd (not_both (keeps name) is (ap keeps (sym ((bytes_eq-Decides m.name name).0 e)) ∙ k))
      by false k false e same = same

  -- of the tables that a program leaves those are kept that are told
  pub tables_left : (code : StagedParts) (budget : ℕ) (held : HeldTables) (end : CodeEnd) (kept : List NamedTable) → IsCodeEnd keeps told code (answer_over told code budget held) end
      → kept ≡ tables_kept end.tables → HaveKept keeps kept (ProgramLeft.tables (run_of_code told budget code held))
  tables_left code budget held end kept ends kept_is name keep =
      let answer : Answer = answer_over told code budget held in
      ap (λ (ts : List NamedTable). contents_named ts name) (kept_is ∙ ap tables_kept ends.tables) ∙ kept_alike (code_tables_made code.program answer.rows) name keep

-- lines that were put, said one behind the other
pub leads_lines : (lines : List (List ℕ)) (rest : Plan) (said log : List ℕ) (told : Option Files) → log ≡ said ++ lines_put lines → LeadsOn (each_in_turn put_then lines rest) rest said told log told
leads_lines [] rest said log told is = subst (λ (l : List ℕ). LeadsOn rest rest said told l told) (sym (is ∙ append-nil said)) (leads_none rest said told)
leads_lines (line ∷ lines) rest said log told is =
    does_on (each_in_turn put_then (line ∷ lines) rest) (each_in_turn put_then lines rest) (λ (_ : Unit {0}). rest) said (said ++ line_put line) told told (Ok tt) log told
    (leads_say (line_put line) (each_in_turn put_then lines rest) said told)
    (leads_lines lines rest (said ++ line_put line) log told (is ∙ sym (append_assoc said (line_put line) (lines_put lines))))

-- rows that were counted, said one behind the other
pub leads_rows : (tables : List OutputSink) (rest : Plan) (said log : List ℕ) (told : Option Files) → log ≡ said ++ rows_counted tables → LeadsOn (each_in_turn count_sink_then tables rest) rest said told log told
leads_rows [] rest said log told is = subst (λ (l : List ℕ). LeadsOn rest rest said told l told) (sym (is ∙ append-nil said)) (leads_none rest said told)
leads_rows (t ∷ tables) rest said log told is =
    let line : List ℕ = table_line t.written.name t.written.rows in
    does_on (each_in_turn count_sink_then (t ∷ tables) rest) (each_in_turn count_sink_then tables rest) (λ (_ : Unit {0}). rest) said (said ++ line) told told (Ok tt) log told
    (leads_say line (each_in_turn count_sink_then tables rest) said told)
    (leads_rows tables rest (said ++ line) log told (is ∙ sym (append_assoc said line (rows_counted tables))))

-- what thread programs did was counted, one behind the other
pub leads_stages : (stages : List StageEnd) (rest : Plan) (said log : List ℕ) (told : Option Files) → log ≡ said ++ stages_counted stages → LeadsOn (each_in_turn count_end_then stages rest) rest said told log told
leads_stages [] rest said log told is = subst (λ (l : List ℕ). LeadsOn rest rest said told l told) (sym (is ∙ append-nil said)) (leads_none rest said told)
leads_stages (end ∷ stages) rest said log told is =
    let groups : List ℕ = thread_line end.name end.verdict end.groups in
    let count : List ℕ = count_line end.executed in
    let others : Plan = each_in_turn count_end_then stages rest in
    does_on (each_in_turn count_end_then (end ∷ stages) rest) (Logs count others) (λ (_ : Unit {0}). rest) said (said ++ groups) told told (Ok tt) log told
    (leads_say groups (Logs count others) said told)
    (does_on (Logs count others) others (λ (_ : Unit {0}). rest) (said ++ groups) ((said ++ groups) ++ count) told told (Ok tt) log told
    (leads_say count others (said ++ groups) told)
    (leads_stages stages rest ((said ++ groups) ++ count) log told
    (is ∙ ap (λ (l : List ℕ). said ++ l) (append_assoc groups count (stages_counted stages)) ∙ sym (append_assoc said groups (count ++ stages_counted stages)) ∙ sym (append_assoc (said ++ groups) count (stages_counted stages)))))

-- the file of a table is written under its name
pub table_written : (t : OutputSink) (path text : List ℕ) (rest : Plan) (said log : List ℕ) (told now : Option Files) (result : Result (Unit {0}) Halt) → path ≡ table_file t.written.name → text ≡ t.written.text
    → Follows (WritesFile path text rest) (λ (_ : Unit {0}). rest) said told result log now → Follows (write_sink_then t rest) (λ (_ : Unit {0}). rest) said told result log now
table_written t path text rest said log told now result path_is text_is does =
    subst (λ (s : Plan). Follows s (λ (_ : Unit {0}). rest) said told result log now) (λ i. WritesFile (path_is i) (text_is i) rest) does

-- ---- the end of a program

module _ (end : CodeEnd) (rest : Plan) where
  -- what comes behind the writes and the thread programs
  abbrev numbers_then : Plan
  numbers_then = Logs (count_line end.executed) (each_in_turn count_sink_then end.tables rest)

  -- what comes behind the writes
  abbrev pub counts_then : Plan
  counts_then = each_in_turn count_end_then end.stages numbers_then

  abbrev pub finish_plan : Plan
  finish_plan = each_in_turn write_sink_then end.tables counts_then

  -- the tables were written and counted
  pub finished : (tables : List OutputSink) (said text log : List ℕ) (told now : Option Files) → tables ≡ end.tables → LeadsOn (each_in_turn write_sink_then tables counts_then) counts_then said told text now
      → log ≡ text ++ (stages_counted end.stages ++ (count_line end.executed ++ rows_counted end.tables)) → LeadsOn finish_plan rest said told log now
  finished tables said text log told now tables_are wrote log_is =
      let noted : List ℕ = text ++ stages_counted end.stages in
      does_on finish_plan counts_then (λ (_ : Unit {0}). rest) said text told now (Ok tt) log now
      (subst (λ (ts : List OutputSink). LeadsOn (each_in_turn write_sink_then ts counts_then) counts_then said told text now) tables_are wrote)
      (does_on counts_then numbers_then (λ (_ : Unit {0}). rest) text noted now now (Ok tt) log now
      (leads_stages end.stages numbers_then text noted now refl)
      (does_on numbers_then (each_in_turn count_sink_then end.tables rest) (λ (_ : Unit {0}). rest) noted (noted ++ count_line end.executed) now now (Ok tt) log now
      (leads_say (count_line end.executed) (each_in_turn count_sink_then end.tables rest) noted now)
      (leads_rows end.tables rest (noted ++ count_line end.executed) log now
      (log_is ∙ sym (append_assoc text (stages_counted end.stages) (count_line end.executed ++ rows_counted end.tables)) ∙ sym (append_assoc noted (count_line end.executed) (rows_counted end.tables))))))

  -- a table was not written
  pub not_written : (tables : List OutputSink) (said log : List ℕ) (told now : Option Files) (halt : Halt) (result : Result (Unit {0}) Halt) → tables ≡ end.tables → IsErrAnd result (λ e. e ≡ halt)
      → Follows {T = Unit {0}} (each_in_turn write_sink_then tables counts_then) (λ _. counts_then) said told (Err halt) log now → Follows finish_plan (λ (_ : Unit {0}). rest) said told result log now
  not_written tables said log told now halt result tables_are is halts =
      halts_with finish_plan finish_plan (λ (_ : Unit {0}). rest) (λ (_ : Unit {0}). counts_then) said said told told now halt result log is (leads_none finish_plan said told)
      (subst (λ (ts : List OutputSink). Follows {T = Unit {0}} (each_in_turn write_sink_then ts counts_then) (λ _. counts_then) said told (Err halt) log now) tables_are halts)

  -- the tables were written, and there was no memory to count them
  pub not_counted : (tables : List OutputSink) (said text log : List ℕ) (told now : Option Files) (result : Result (Unit {0}) Halt) → tables ≡ end.tables → IsErrAnd result (λ e. e ≡ OutOfMemory)
      → LeadsOn (each_in_turn write_sink_then tables counts_then) counts_then said told text now → Follows finish_plan (λ (_ : Unit {0}). rest) said told result log now
  not_counted tables said text log told now result tables_are is wrote =
      does_on finish_plan counts_then (λ (_ : Unit {0}). rest) said text told now result log now
      (subst (λ (ts : List OutputSink). LeadsOn (each_in_turn write_sink_then ts counts_then) counts_then said told text now) tables_are wrote)
      (no_memory counts_then (λ (_ : Unit {0}). rest) text log now now result is refl)

  -- lines that were put, and then the end of their program
  pub lines_then : (ending : Ending) (lines : List (List ℕ)) (said text log : List ℕ) (told now : Option Files) (result : Result (Unit {0}) Halt) → end.ending ≡ ending → lines ≡ end.lines → text ≡ said ++ lines_put lines
      → Follows (sinks_then ending end.stages end.executed end.tables rest) (λ (_ : Unit {0}). rest) text told result log now → Follows (code_end_then end rest) (λ (_ : Unit {0}). rest) said told result log now
  lines_then ending lines said text log told now result ending_is lines_are is does =
      does_on (code_end_then end rest) (sinks_then end.ending end.stages end.executed end.tables rest) (λ (_ : Unit {0}). rest) said text told told result log now
      (leads_lines end.lines (sinks_then end.ending end.stages end.executed end.tables rest) said text told (is ∙ ap (λ (ls : List (List ℕ)). said ++ lines_put ls) lines_are))
      (subst (λ (e : Ending). Follows (sinks_then e end.stages end.executed end.tables rest) (λ (_ : Unit {0}). rest) text told result log now) (sym ending_is) does)

  -- a program has ended in a fault
  pub fault_ends : (fault : Fault) (place : Place) (said log : List ℕ) (told now : Option Files) (halt : Halt) → StopsAs ended.Fault (error_line (fault_text fault) place) said halt log → now ≡ told
      → HaltsPlan (sinks_then (Faulted fault place) end.stages end.executed end.tables rest) said told halt log now
  fault_ends fault place said log told now halt ends same = line_ends ended.Fault (error_line (fault_text fault) place) said told now halt log tt ends same

-- ---- a program as its code

-- a program has halted
pub program_halts : {T : Type 0} (plan rest : Plan) (said log : List ℕ) (told now : Option Files) (halt : Halt) (result : Result T Halt) → IsErrAnd result (λ e. e ≡ halt)
    → Follows {T = Unit {0}} plan (λ _. rest) said told (Err halt) log now → Follows plan (λ (_ : T). rest) said told result log now
program_halts plan rest said log told now halt (Ok value) err halts = absurd err
program_halts plan rest said log told now halt (Err e) err halts = subst (λ (h : Halt). HaltsPlan plan said told h log now) (sym err) halts

-- a program was run, and there was no memory to keep its tables
pub program_unkept : {T : Type 0} (plan rest : Plan) (said log : List ℕ) (told now : Option Files) (result : Result T Halt) → IsErrAnd result (λ e. e ≡ OutOfMemory) → LeadsOn plan rest said told log now
    → Follows plan (λ (_ : T). rest) said told result log now
program_unkept plan rest said log told now result err leads = does_on plan rest (λ _. rest) said log told now result log now leads (no_memory rest (λ _. rest) log log now now result err refl)
