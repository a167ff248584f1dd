-- What a command on a source leaves that has ended in a runtime fault.
use Rattle.std.proofs.Common.{◌≡◌, ◌∙◌, Bool, true, false, if◌then◌else◌, ℕ, List, [], ◌∷◌, ◌++◌, map, flat_map, length, Option, Some, None, refl, sym, ap, subst, append_assoc}
use Rattle.ds2_base.specs.declared.place.Place.{Place}
use Rattle.ds2_value.specs.declared.fault.Ending.{Ending}
use Rattle.ds2_value.specs.declared.fault.Ending.TheVariants.{Normal, Faulted}
use Rattle.ds2_value.specs.declared.fault.Fault.{Fault}
use Rattle.ds2_csv.specs.Text as csv
use Rattle.ds2_outside.specs.Files.{Files}
use Rattle.ds2_commands.specs.AnswersOfTexts.{SourcesRead}
use Rattle.ds2_commands.specs.ProgramTree.{ProgramTree}
use Rattle.ds2_commands.specs.StagedParts.{StagedParts}
use Rattle.ds2_answer.specs.declared.status.Status.{Status}
use Rattle.ds2_answer.specs.declared.status.Status.TheVariants as ended
use Rattle.ds2_answer.specs.Answer.{table_file}
use Rattle.ds2_answer.specs.HeldTables.{HeldTables, NamedTable, held_behind, held_from_store}
use Rattle.ds2_answer.specs.Lines.{count_line, error_line, fault_text, line_put, table_line, thread_line}
use Rattle.ds2_answer.specs.Plan.{Plan, Stops, Logs, ReadsFile, AsksFor, WritesFile, each_in_turn}
use Rattle.ds2_answer.specs.PlanSteps.{PlanStep, LogLine, ReadFile, AskFor, WriteFile, files_behind, files_behind_all, status_at_end, steps_of}
use Rattle.ds2_answer.specs.ProgramPlans.{ProgramLeft, ProgramRun, count_rows_then, count_stage_then, end_then, program_then, programs_plan, put_then, write_then}
use Rattle.ds2_answer.specs.StagesLeft.{StageLeft}
use Rattle.ds2_commands.specs.ThreadVerdicts.{verdict_named}
use Rattle.ds2_answer.specs.SourcePlans.{object_bytes, object_file, outputs_of_program, run_programs_of, runs_of_programs, source_plan, store_object}
use Rattle.ds2_answer.specs.TablePlans.{OutputNamed, Presence, ask_unless_made, made_too, none_made, outputs_then, unless_there}
use Rattle.ds2_top.specs.Leaves.{Did}
use Rattle.ds2_top.specs.Outside.{Outside}
use Rattle.ds2_top.specs.RuntimeFaults.{EndsWithoutFault, FirstFault, LeavesFault, lines_of_faulting, steps_of_fault, steps_of_runs}
use Rattle.ds2_commands.specs.SourceObjects.{IsObjectOf}

-- ---- parts that each make one step

module _ {T : Type 0} (part : T → Plan → Plan) (step : T → PlanStep) where
  turn_steps : ((x : T) (rest : Plan) → steps_of (part x rest) ≡ step x ∷ steps_of rest) → (xs : List T) (rest : Plan) → steps_of (each_in_turn part xs rest) ≡ map step xs ++ steps_of rest
  turn_steps one [] rest = refl
  turn_steps one (x ∷ xs) rest = one x (each_in_turn part xs rest) ∙ ap (λ (l : List PlanStep). step x ∷ l) (turn_steps one xs rest)

  turn_status : ((x : T) (rest : Plan) → status_at_end (part x rest) ≡ status_at_end rest) → (xs : List T) (rest : Plan) → status_at_end (each_in_turn part xs rest) ≡ status_at_end rest
  turn_status one [] rest = refl
  turn_status one (x ∷ xs) rest = one x (each_in_turn part xs rest) ∙ turn_status one xs rest

abbrev step_of_line : List ℕ → PlanStep
step_of_line line = LogLine (line_put line)

abbrev step_of_write : NamedTable → PlanStep
step_of_write t = WriteFile (table_file t.name) (csv.text t.contents)

abbrev step_of_count : NamedTable → PlanStep
step_of_count t = LogLine (table_line t.name (length t.contents.rows))

put_steps : (lines : List (List ℕ)) (rest : Plan) → steps_of (each_in_turn put_then lines rest) ≡ map step_of_line lines ++ steps_of rest
put_steps lines rest = turn_steps put_then step_of_line (λ x r. refl) lines rest

put_status : (lines : List (List ℕ)) (rest : Plan) → status_at_end (each_in_turn put_then lines rest) ≡ status_at_end rest
put_status lines rest = turn_status put_then step_of_line (λ x r. refl) lines rest

write_steps : (tables : List NamedTable) (rest : Plan) → steps_of (each_in_turn write_then tables rest) ≡ map step_of_write tables ++ steps_of rest
write_steps tables rest = turn_steps write_then step_of_write (λ x r. refl) tables rest

write_status : (tables : List NamedTable) (rest : Plan) → status_at_end (each_in_turn write_then tables rest) ≡ status_at_end rest
write_status tables rest = turn_status write_then step_of_write (λ x r. refl) tables rest

count_steps : (tables : List NamedTable) (rest : Plan) → steps_of (each_in_turn count_rows_then tables rest) ≡ map step_of_count tables ++ steps_of rest
count_steps tables rest = turn_steps count_rows_then step_of_count (λ x r. refl) tables rest

count_status : (tables : List NamedTable) (rest : Plan) → status_at_end (each_in_turn count_rows_then tables rest) ≡ status_at_end rest
count_status tables rest = turn_status count_rows_then step_of_count (λ x r. refl) tables rest

abbrev steps_of_stage : StageLeft → List PlanStep
steps_of_stage stage = LogLine (thread_line stage.name stage.verdict stage.groups) ∷ (LogLine (count_line stage.instructions) ∷ [])

stage_steps : (stages : List StageLeft) (rest : Plan) → steps_of (each_in_turn count_stage_then stages rest) ≡ flat_map steps_of_stage stages ++ steps_of rest
stage_steps [] rest = refl
stage_steps (stage ∷ stages) rest =
    ap (λ (l : List PlanStep). LogLine (thread_line stage.name stage.verdict stage.groups) ∷ (LogLine (count_line stage.instructions) ∷ l)) (stage_steps stages rest)

stage_status : (stages : List StageLeft) (rest : Plan) → status_at_end (each_in_turn count_stage_then stages rest) ≡ status_at_end rest
stage_status [] rest = refl
stage_status (stage ∷ stages) rest = stage_status stages rest

-- ---- a program that ends without fault

-- the steps behind the writes of a normal end
abbrev steps_of_numbers : ℕ → List NamedTable → List PlanStep
steps_of_numbers instructions tables = LogLine (count_line instructions) ∷ map step_of_count tables

-- the steps of a normal end
abbrev steps_of_end : List StageLeft → ℕ → List NamedTable → List PlanStep
steps_of_end stages instructions tables = map step_of_write tables ++ (flat_map steps_of_stage stages ++ steps_of_numbers instructions tables)

normal_steps : (stages : List StageLeft) (instructions : ℕ) (tables : List NamedTable) (rest : Plan) → steps_of (end_then (Some Normal) stages instructions tables rest) ≡ steps_of_end stages instructions tables ++ steps_of rest
normal_steps stages instructions tables rest =
    let noted : List PlanStep = flat_map steps_of_stage stages in
    let numbers : List PlanStep = steps_of_numbers instructions tables in
    write_steps tables (each_in_turn count_stage_then stages (Logs (count_line instructions) (each_in_turn count_rows_then tables rest)))
    ∙ ap (λ (l : List PlanStep). map step_of_write tables ++ l)
    (stage_steps stages (Logs (count_line instructions) (each_in_turn count_rows_then tables rest))
    ∙ ap (λ (l : List PlanStep). noted ++ (LogLine (count_line instructions) ∷ l)) (count_steps tables rest)
    ∙ sym (append_assoc noted numbers (steps_of rest)))
    ∙ sym (append_assoc (map step_of_write tables) (noted ++ numbers) (steps_of rest))

nothing_behind : (xs : List PlanStep) → xs ++ [] ≡ xs
nothing_behind [] = refl
nothing_behind (x ∷ xs) = ap (λ (l : List PlanStep). x ∷ l) (nothing_behind xs)

end_steps : (ending : Option Ending) (stages : List StageLeft) (instructions : ℕ) (tables : List NamedTable) (rest : Plan) → EndsWithoutFault ending
    → steps_of (end_then ending stages instructions tables rest) ≡ steps_of (end_then ending stages instructions tables (Stops ended.Done)) ++ steps_of rest
end_steps None stages instructions tables rest e = refl
end_steps (Some Normal) stages instructions tables rest e =
    normal_steps stages instructions tables rest
    ∙ ap (λ (l : List PlanStep). l ++ steps_of rest) (sym (normal_steps stages instructions tables (Stops ended.Done) ∙ nothing_behind (steps_of_end stages instructions tables)))
end_steps (Some (Faulted fault place)) stages instructions tables rest e = absurd e

passing_steps : (left : ProgramLeft) (rest : Plan) → EndsWithoutFault left.ending → steps_of (program_then left rest) ≡ steps_of (program_then left (Stops ended.Done)) ++ steps_of rest
passing_steps left rest e =
    put_steps left.lines (end_then left.ending left.stages left.instructions left.tables rest)
    ∙ ap (λ (l : List PlanStep). map step_of_line left.lines ++ l) (end_steps left.ending left.stages left.instructions left.tables rest e)
    ∙ sym (append_assoc (map step_of_line left.lines) (steps_of (end_then left.ending left.stages left.instructions left.tables (Stops ended.Done))) (steps_of rest))
    ∙ ap (λ (l : List PlanStep). l ++ steps_of rest) (sym (put_steps left.lines (end_then left.ending left.stages left.instructions left.tables (Stops ended.Done))))

end_status : (ending : Option Ending) (stages : List StageLeft) (instructions : ℕ) (tables : List NamedTable) (rest : Plan) → EndsWithoutFault ending
    → status_at_end (end_then ending stages instructions tables rest) ≡ status_at_end rest
end_status None stages instructions tables rest e = refl
end_status (Some Normal) stages instructions tables rest e =
    write_status tables (each_in_turn count_stage_then stages (Logs (count_line instructions) (each_in_turn count_rows_then tables rest)))
    ∙ stage_status stages (Logs (count_line instructions) (each_in_turn count_rows_then tables rest)) ∙ count_status tables rest
end_status (Some (Faulted fault place)) stages instructions tables rest e = absurd e

passing_status : (left : ProgramLeft) (rest : Plan) → EndsWithoutFault left.ending → status_at_end (program_then left rest) ≡ status_at_end rest
passing_status left rest e =
    put_status left.lines (end_then left.ending left.stages left.instructions left.tables rest) ∙ end_status left.ending left.stages left.instructions left.tables rest e

-- ---- the first program that ends in a fault

-- programs have a first fault, and their steps are those of the programs before it, its lines and its line
record FaultFound (runs : List ProgramRun) (held : HeldTables) : Type 0 where
  pub fault : Fault
  pub place : Place
  pub first : FirstFault runs held fault place
  pub steps_are : steps_of (programs_plan runs held) ≡ steps_of_runs first.earlier held ++ steps_of_fault (lines_of_faulting held first) fault place

-- how an ending is looked at
data Looked (ending : Option Ending) : Type 0 where
  passes : EndsWithoutFault ending → Looked ending
  faults : (fault : Fault) (place : Place) → ending ≡ Some (Faulted fault place) → Looked ending

look : (ending : Option Ending) → Looked ending
look None = passes tt
look (Some Normal) = passes tt
look (Some (Faulted fault place)) = faults fault place refl

fault_here : (run : ProgramRun) (runs : List ProgramRun) (held : HeldTables) (fault : Fault) (place : Place) → ProgramLeft.ending (run held) ≡ Some (Faulted fault place) → FaultFound (run ∷ runs) held
fault_here run runs held fault place e = record {
  fault = fault;
  place = place;
  first = record { earlier = []; faulting = run; later = runs; runs_are = refl; passed = tt; ends = e };
  steps_are =
      let rest = programs_plan runs (held_behind held (ProgramLeft.tables (run held))) in
      put_steps (ProgramLeft.lines (run held)) (end_then (ProgramLeft.ending (run held)) (ProgramLeft.stages (run held)) (ProgramLeft.instructions (run held)) (ProgramLeft.tables (run held)) rest)
      ∙ ap (λ (ending : Option Ending). map step_of_line (ProgramLeft.lines (run held)) ++ steps_of (end_then ending (ProgramLeft.stages (run held)) (ProgramLeft.instructions (run held)) (ProgramLeft.tables (run held)) rest)) e;
}

fault_later : (run : ProgramRun) (runs : List ProgramRun) (held : HeldTables) → EndsWithoutFault (ProgramLeft.ending (run held)) → FaultFound runs (held_behind held (ProgramLeft.tables (run held)))
    → FaultFound (run ∷ runs) held
fault_later run runs held passed found =
    let behind = held_behind held (ProgramLeft.tables (run held)) in
    record {
      fault = found.fault;
      place = found.place;
      first = record {
        earlier = run ∷ found.first.earlier;
        faulting = found.first.faulting;
        later = found.first.later;
        runs_are = ap (λ (rs : List ProgramRun). run ∷ rs) found.first.runs_are;
        passed = (passed, found.first.passed);
        ends = found.first.ends;
      };
      steps_are =
          passing_steps (run held) (programs_plan runs behind) passed
          ∙ ap (λ (l : List PlanStep). steps_of (program_then (run held) (Stops ended.Done)) ++ l) found.steps_are
          ∙ sym (append_assoc (steps_of (program_then (run held) (Stops ended.Done))) (steps_of_runs found.first.earlier behind) (steps_of_fault (lines_of_faulting behind found.first) found.fault found.place));
    }

fault_found : (runs : List ProgramRun) (held : HeldTables) → status_at_end (programs_plan runs held) ≡ ended.Fault → FaultFound runs held
fault_found [] held is = absurd (cc is)
fault_found (run ∷ runs) held is = by (look (ProgramLeft.ending (run held))) (λ s. fault_found runs (held_behind held (ProgramLeft.tables (run held))) s)
  where
    by : Looked (ProgramLeft.ending (run held)) → (status_at_end (programs_plan runs (held_behind held (ProgramLeft.tables (run held)))) ≡ ended.Fault → FaultFound runs (held_behind held (ProgramLeft.tables (run held))))
        → FaultFound (run ∷ runs) held
    by (passes passed) later =
        fault_later run runs held passed (later (sym (passing_status (run held) (programs_plan runs (held_behind held (ProgramLeft.tables (run held)))) passed) ∙ is))
    by (faults fault place e) later = fault_here run runs held fault place e

-- ---- the questions before

-- outputs were asked for, and what comes behind them ends in a fault
record WereAsked (whole rest : Plan) : Type 0 where
  pub front : List PlanStep
  pub steps_are : steps_of whole ≡ front ++ steps_of rest
  pub status_is : status_at_end rest ≡ ended.Fault

one_asked : (name : List ℕ) (whole rest : Plan) → WereAsked whole rest → WereAsked (AsksFor name whole) rest
one_asked name whole rest w = record { front = AskFor name ∷ w.front; steps_are = ap (λ (l : List PlanStep). AskFor name ∷ l) w.steps_are; status_is = w.status_is }

unless_asked : (there : Bool) (name file : List ℕ) (whole rest : Plan) → (status_at_end whole ≡ ended.Fault → WereAsked whole rest) → status_at_end (unless_there there name whole) ≡ ended.Fault
    → WereAsked (AsksFor file (unless_there there name whole)) rest
unless_asked true name file whole rest f is = absurd (cc is)
unless_asked false name file whole rest f is = one_asked file whole rest (f is)

new_asked : (made : Bool) (there : Presence) (name : List ℕ) (whole rest : Plan) → (status_at_end whole ≡ ended.Fault → WereAsked whole rest) → status_at_end (ask_unless_made made there name whole) ≡ ended.Fault
    → WereAsked (ask_unless_made made there name whole) rest
new_asked true there name whole rest f is = absurd (cc is)
new_asked false there name whole rest f is = unless_asked (there (table_file name)) name (table_file name) whole rest f is

output_asked : (overwrites made : Bool) (there : Presence) (name : List ℕ) (whole rest : Plan) → (status_at_end whole ≡ ended.Fault → WereAsked whole rest)
    → status_at_end (if overwrites then whole else ask_unless_made made there name whole) ≡ ended.Fault → WereAsked (if overwrites then whole else ask_unless_made made there name whole) rest
output_asked true made there name whole rest f is = f is
output_asked false made there name whole rest f is = new_asked made there name whole rest f is

outputs_asked : (made : List ℕ → Bool) (there : Presence) (outputs : List OutputNamed) (rest : Plan) → status_at_end (outputs_then made there outputs rest) ≡ ended.Fault
    → WereAsked (outputs_then made there outputs rest) rest
outputs_asked made there [] rest is = record { front = []; steps_are = refl; status_is = is }
outputs_asked made there (o ∷ outputs) rest is =
    output_asked o.overwrites (made o.name) there o.name (outputs_then (made_too o made) there outputs rest) rest (λ s. outputs_asked (made_too o made) there outputs rest s) is

-- ---- the whole

log_keeps : (lines : List (List ℕ)) (fault : Fault) (place : Place) (files : Files) → files_behind_all (steps_of_fault lines fault place) files ≡ files
log_keeps [] fault place files = refl
log_keeps (line ∷ lines) fault place files = log_keeps lines fault place files

fault_keeps : (steps : List PlanStep) (lines : List (List ℕ)) (fault : Fault) (place : Place) (files : Files)
    → files_behind_all (steps ++ steps_of_fault lines fault place) files ≡ files_behind_all steps files
fault_keeps [] lines fault place files = log_keeps lines fault place files
fault_keeps (step ∷ steps) lines fault place files = fault_keeps steps lines fault place (files_behind step files)

-- what `run` leaves that has ended in a fault
pub fault_left : (sources : SourcesRead) (object : List StagedParts) (source : List ℕ) (budget : ℕ) (files : Files) (there : Presence) (before now : Outside) (of_source : IsObjectOf sources source files object)
    → (plan : Plan) → plan ≡ source_plan sources source files (run_programs_of source budget object there) → Did plan files before now ended.Fault
    → LeavesFault sources object source budget plan files before now
fault_left sources object source budget files there before now of_source plan plan_is did =
    let held = held_from_store of_source.stored in
    let runs = runs_of_programs (verdict_named of_source.verdicts) budget of_source.programs object in
    let programs = programs_plan runs held in
    let storing = store_object source object programs in
    let outputs = flat_map outputs_of_program of_source.programs in
    let asking = outputs_then none_made there outputs storing in
    let whole : plan ≡ each_in_turn ReadsFile of_source.becomes.names asking = plan_is ∙ of_source.becomes.plan_is (run_programs_of source budget object there) in
    let reading = map ReadFile of_source.becomes.names in
    let asked = outputs_asked none_made there outputs storing (sym (turn_status ReadsFile ReadFile (λ n r. refl) of_source.becomes.names asking) ∙ sym (ap status_at_end whole) ∙ sym did.status_is) in
    let found = fault_found runs held asked.status_is in
    let written = WriteFile (object_file source) (object_bytes object) in
    let front = reading ++ (asked.front ++ written ∷ []) in
    let earlier = steps_of_runs found.first.earlier held in
    let last = steps_of_fault (lines_of_faulting held found.first) found.fault found.place in
    let steps : steps_of plan ≡ front ++ (earlier ++ last) =
    ap steps_of whole
    ∙ turn_steps ReadsFile ReadFile (λ n r. refl) of_source.becomes.names asking
    ∙ ap (λ (l : List PlanStep). reading ++ l) (asked.steps_are ∙ ap (λ (l : List PlanStep). asked.front ++ (written ∷ l)) found.steps_are ∙ sym (append_assoc asked.front (written ∷ []) (earlier ++ last)))
    ∙ sym (append_assoc reading (asked.front ++ written ∷ []) (earlier ++ last)) in
    record {
      stored = of_source.stored;
      verdicts = of_source.verdicts;
      programs = of_source.programs;
      becomes = of_source.becomes;
      fault = found.fault;
      place = found.place;
      first = found.first;
      front = front;
      steps_are = steps;
      files_are = λ tells.
          did.files_are tells
          ∙ ap (λ (l : List PlanStep). Some (files_behind_all l files)) (steps ∙ sym (append_assoc front earlier last))
          ∙ ap (λ (f : Files). Some f) (fault_keeps (front ++ earlier) (lines_of_faulting held found.first) found.fault found.place files);
    }
