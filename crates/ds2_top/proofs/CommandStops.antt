-- With which statuses the answers of commands stop.
use Rattle.std.proofs.Common.{◌≡◌, ◌⊎◌, inl, inr, ◌∙◌, ℕ, List, [], ◌∷◌, flat_map, Option, Some, None, refl, sym, ap, subst}
use Rattle.ds2_outside.specs.Files.{Files}
use Rattle.ds2_commands.specs.AnswersOfTexts.{SourcesRead}
use Rattle.ds2_commands.specs.ProgramTree.{ProgramTree}
use Rattle.ds2_commands.specs.StagedParts.{StagedParts}
use Rattle.ds2_answer.specs.declared.command_line.CommandLine.{CommandLine}
use Rattle.ds2_answer.specs.declared.command_line.CommandLine.TheVariants.{Run, Compile, Exec, Check, Demo}
use Rattle.ds2_answer.specs.declared.status.Status.{Status}
use Rattle.ds2_answer.specs.declared.status.Status.TheVariants as ended
use Rattle.ds2_answer.specs.CommandPlans.{plan_of_command}
use Rattle.ds2_answer.specs.DemoPlans.{demo_end, demo_files, demo_job, demo_run}
use Rattle.ds2_answer.specs.HeldTables.{HeldTables}
use Rattle.ds2_answer.specs.ObjectPlans.{ObjectReading}
use Rattle.ds2_answer.specs.CountLines.{lines_without_counts}
use Rattle.ds2_answer.specs.Plan.{Plan, Stops, Logs, each_in_turn}
use Rattle.ds2_answer.specs.PlanSteps.{files_behind_all, status_at_end, steps_of, text_logged}
use Rattle.ds2_answer.specs.SourcePlans.{check_threads, compile_programs_of, outputs_of_program, runs_of_programs, run_programs_of, source_plan, store_object}
use Rattle.ds2_answer.specs.ProgramPlans.{programs_plan}
use Rattle.ds2_answer.specs.Status.{IsRefusal}
use Rattle.ds2_commands.specs.ThreadVerdicts.{verdict_named}
use Rattle.ds2_commands.specs.ThreadVerdict.{ThreadVerdict}
use Rattle.ds2_answer.specs.TablePlans.{Presence, none_made, present_in}
use Rattle.ds2_answer.specs.declared.words.TheConstants.{DEFAULT_BUDGET}
use Rattle.ds2_commands.proofs.PlanStops.{StopsAmong, either_way, exec_stop, nothing_written, outputs_stop, programs_stop, source_stop, verdicts_stop}

-- ---- any command

-- a status of a command that is none on words
abbrev IsNoUsage : Status → Type 0
IsNoUsage ended.Usage = ⊥
IsNoUsage _ = Unit {0}

-- a status behind a write
abbrev IsEnd : Status → Type 0
IsEnd ended.Done = Unit {0}
IsEnd ended.Fault = Unit {0}
IsEnd _ = ⊥

end_is_no_usage : (s : Status) → IsEnd s → IsNoUsage s
end_is_no_usage ended.Done e = tt
end_is_no_usage ended.Usage e = e
end_is_no_usage ended.Source e = tt
end_is_no_usage ended.File e = tt
end_is_no_usage ended.Exists e = tt
end_is_no_usage ended.Fault e = tt
end_is_no_usage ended.Read e = tt
end_is_no_usage ended.Write e = tt
end_is_no_usage ended.Log e = tt
end_is_no_usage ended.Object e = tt
end_is_no_usage ended.Memory e = tt

end_is_no_refusal : (s : Status) → IsRefusal s → IsEnd s → ⊥
end_is_no_refusal ended.Done r e = r
end_is_no_refusal ended.Usage r e = e
end_is_no_refusal ended.Source r e = e
end_is_no_refusal ended.File r e = e
end_is_no_refusal ended.Exists r e = e
end_is_no_refusal ended.Fault r e = r
end_is_no_refusal ended.Read r e = e
end_is_no_refusal ended.Write r e = e
end_is_no_refusal ended.Log r e = e
end_is_no_refusal ended.Object r e = e
end_is_no_refusal ended.Memory r e = e

run_stop : (P : Status → Type 0) → P ended.Exists → (source : List ℕ) (budget : ℕ) (object : List StagedParts) (there : Presence) (held : HeldTables) (verdicts : List ThreadVerdict) (programs : List ProgramTree)
    → StopsAmong P IsEnd (run_programs_of source budget object there held verdicts programs)
run_stop P exists source budget object there held verdicts programs =
    outputs_stop P IsEnd exists none_made there (flat_map outputs_of_program programs) (store_object source object (programs_plan (runs_of_programs (verdict_named verdicts) budget programs object) held))
    (programs_stop IsEnd tt tt (runs_of_programs (verdict_named verdicts) budget programs object) held)

-- lines are told one behind the other
told_stop : (P Q : Status → Type 0) (lines : List (List ℕ)) (rest : Plan) → StopsAmong P Q rest → StopsAmong P Q (each_in_turn Logs lines rest)
told_stop P Q [] rest s = s
told_stop P Q (line ∷ lines) rest s = told_stop P Q lines rest s

-- `demo` stops as the plan inside does
demo_stop : (P Q : Status → Type 0) (n : ℕ) (status : Status) → P status → StopsAmong P Q (demo_end status n)
demo_stop P Q n ended.Done p = p
demo_stop P Q n ended.Usage p = p
demo_stop P Q n ended.Source p = p
demo_stop P Q n ended.File p = p
demo_stop P Q n ended.Exists p = p
demo_stop P Q n ended.Fault p = p
demo_stop P Q n ended.Read p = p
demo_stop P Q n ended.Write p = p
demo_stop P Q n ended.Log p = p
demo_stop P Q n ended.Object p = p
demo_stop P Q n ended.Memory p = p

source_stops : (sources : SourcesRead) (source : List ℕ) (budget : ℕ) (object : List StagedParts) (files : Files) (there : Presence) → StopsAmong IsNoUsage IsEnd (source_plan sources source files (run_programs_of source budget object there))
source_stops sources source budget object files there =
    source_stop IsNoUsage IsEnd tt tt sources source files (run_programs_of source budget object there) (λ held verdicts programs. run_stop IsNoUsage tt source budget object there held verdicts programs)

module _ (sources : SourcesRead) (object_for : ObjectReading) (object : List StagedParts) (files : Files) (there : Presence) where
  line_stops : (line : CommandLine) → StopsAmong IsNoUsage IsEnd (plan_of_command sources object_for object (Some line) files there)
  line_stops (Run source threads budget) =
      source_stops sources source budget object files there
  line_stops (Compile source) = source_stop IsNoUsage IsEnd tt tt sources source files (λ held verdicts programs. compile_programs_of source object) (λ held verdicts programs. tt)
  line_stops (Exec name budget) = exec_stop IsNoUsage IsEnd tt tt tt tt tt end_is_no_usage object_for name budget files there
  line_stops (Check source) = source_stop IsNoUsage IsEnd tt tt sources source files (λ held verdicts programs. check_threads verdicts) (λ held verdicts programs. verdicts_stop IsNoUsage IsEnd tt verdicts)
  line_stops (Demo n) =
      let plan = demo_run sources object (demo_files n) (present_in (demo_files n)) in
      told_stop IsNoUsage IsEnd (lines_without_counts (text_logged (steps_of plan))) (demo_end (status_at_end plan) n)
      (demo_stop IsNoUsage IsEnd n (status_at_end plan)
      (either_way IsNoUsage IsEnd IsNoUsage plan (λ s p. p) end_is_no_usage (source_stops sources demo_job DEFAULT_BUDGET object (demo_files n) (present_in (demo_files n)))))

  -- words that are no command are told so, and no others
  pub usage_only : (line : Option CommandLine) → status_at_end (plan_of_command sources object_for object line files there) ≡ ended.Usage → line ≡ None
  usage_only None is = refl
  usage_only (Some line) is =
      absurd (subst IsNoUsage is (either_way IsNoUsage IsEnd IsNoUsage (plan_of_command sources object_for object (Some line) files there) (λ s p. p) end_is_no_usage (line_stops line)))

  -- an answer that refuses leaves each file as it was
  pub refusal_writes_nothing : (line : Option CommandLine) → IsRefusal (status_at_end (plan_of_command sources object_for object line files there))
      → files_behind_all (steps_of (plan_of_command sources object_for object line files there)) files ≡ files
  refusal_writes_nothing None r = refl
  refusal_writes_nothing (Some line) r =
      let plan = plan_of_command sources object_for object (Some line) files there in
      nothing_written IsNoUsage IsEnd plan files (line_stops line) (end_is_no_refusal (status_at_end plan) r)

-- ---- commands that run nothing

-- a status of a command that runs no program
abbrev IsNoFault : Status → Type 0
IsNoFault ended.Fault = ⊥
IsNoFault _ = Unit {0}

pub compile_faults_never : (sources : SourcesRead) (object_for : ObjectReading) (object : List StagedParts) (files : Files) (there : Presence) (source : List ℕ)
    → status_at_end (plan_of_command sources object_for object (Some (Compile source)) files there) ≡ ended.Fault → ⊥
compile_faults_never sources object_for object files there source is =
    subst IsNoFault is
    (either_way IsNoFault IsNoFault IsNoFault (plan_of_command sources object_for object (Some (Compile source)) files there) (λ s p. p) (λ s p. p)
    (source_stop IsNoFault IsNoFault tt tt sources source files (λ held verdicts programs. compile_programs_of source object) (λ held verdicts programs. tt)))

pub check_faults_never : (sources : SourcesRead) (object_for : ObjectReading) (object : List StagedParts) (files : Files) (there : Presence) (source : List ℕ)
    → status_at_end (plan_of_command sources object_for object (Some (Check source)) files there) ≡ ended.Fault → ⊥
check_faults_never sources object_for object files there source is =
    subst IsNoFault is
    (either_way IsNoFault IsNoFault IsNoFault (plan_of_command sources object_for object (Some (Check source)) files there) (λ s p. p) (λ s p. p)
    (source_stop IsNoFault IsNoFault tt tt sources source files (λ held verdicts programs. check_threads verdicts) (λ held verdicts programs. verdicts_stop IsNoFault IsNoFault tt verdicts)))
