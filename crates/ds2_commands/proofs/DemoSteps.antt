-- From the run inside of `demo` to what `demo` leaves.
use Rattle.std.proofs.Common.{◌≡◌, ◌⊎◌, ◌∙◌, IsErrAnd, inl, inr, ℕ, List, [], ◌∷◌, ◌++◌, Option, Some, None, Result, Ok, Err, refl, sym, subst, append_assoc, arith}
use Rattle.std.specs.List.{concat}
use Rattle.std.proofs.lemmas.List.{append-nil}
use Rattle.ds2_outside.specs.Causes.{Rose}
use Rattle.ds2_outside.specs.Files.{Files}
use Rattle.ds2_compile.specs.AnswersOfTexts.{SourcesRead}
use Rattle.ds2_compile.specs.StagedParts.{StagedParts}
use Rattle.ds2_answer.specs.CountLines.{lines_without_counts}
use Rattle.ds2_answer.specs.DemoPlans.{demo_end, demo_files, demo_job, demo_plan, demo_run, total_line}
use Rattle.ds2_answer.specs.Plan.{Plan, Stops, Logs, ReadsFile, AsksFor, WritesFile, each_in_turn}
use Rattle.ds2_answer.specs.PlanSteps.{status_at_end, steps_of, text_logged}
use Rattle.ds2_answer.specs.Status.{IsAnswerStatus}
use Rattle.ds2_answer.specs.TablePlans.{Presence, present_in}
use Rattle.ds2_answer.specs.declared.status.Status.{Status}
use Rattle.ds2_answer.specs.declared.status.Status.TheVariants as ended
use Rattle.ds2_answer.specs.declared.words.TheConstants.{DEFAULT_BUDGET}
use Rattle.ds2_store_steps.specs.Halts.{CausedBy, FollowsAll, HaltsAs, LeadsOn}
use Rattle.ds2_store_steps.specs.PlanOutcomes.{CameOfPlan, files_told_with}
use Rattle.ds2_store_steps.specs.declared.halt.Halt.{Halt}
use Rattle.ds2_store_steps.specs.declared.halt.Halt.TheVariants.{Ended, OutOfMemory}
use Rattle.ds2_store_steps.proofs.Leading.{at_once, does_on, leads_none, leads_say, no_memory}
use Rattle.ds2_commands.specs.CommandOutcomes.{DoesSource, runs_with}
use Rattle.ds2_commands.specs.DemoOutcomes.{DoesDemo, EndsDemo, FollowsBeside, told_of_end}
use Rattle.ds2_commands.specs.SourceObjects.{HaltsUnstored, IsBeforeStoring, IsObjectOf}

-- ---- a plan of which no call has failed

-- a plan was done to its end
record WasDone (plan : Plan) (said : List ℕ) (status : Status) (log : List ℕ) : Type 0 where
  pub status_is : status ≡ status_at_end plan
  pub answers : IsAnswerStatus status
  pub log_is : log ≡ said ++ text_logged (steps_of plan)

module _ (status : Status) (log : List ℕ) (unread : status ≡ ended.Read → ⊥) (unwritten : status ≡ ended.Write → ⊥) where
  was_done : (plan : Plan) (said : List ℕ) (told now : Option Files) → CameOfPlan plan said told status log now → WasDone plan said status log
  was_done (Stops s) said told now (stopped, answers) =
      record { status_is = stopped.status_is; answers = subst IsAnswerStatus (sym stopped.status_is) answers; log_is = stopped.log_is ∙ sym (append-nil said) }
  was_done (Logs line rest) said told now came =
      let done = was_done rest (said ++ line) told now came in
      record { status_is = done.status_is; answers = done.answers; log_is = done.log_is ∙ append_assoc said line (text_logged (steps_of rest)) }
  was_done (ReadsFile name rest) said told now (inl failed) = absurd (unread failed.status_is)
  was_done (ReadsFile name rest) said told now (inr came) =
      let done = was_done rest said told now came in
      record { status_is = done.status_is; answers = done.answers; log_is = done.log_is }
  was_done (AsksFor name rest) said told now (inl failed) = absurd (unread failed.status_is)
  was_done (AsksFor name rest) said told now (inr came) =
      let done = was_done rest said told now came in
      record { status_is = done.status_is; answers = done.answers; log_is = done.log_is }
  was_done (WritesFile name bytes rest) said told now (inl broke) = absurd (unwritten broke.status_is)
  was_done (WritesFile name bytes rest) said told now (inr came) =
      let done = was_done rest said (files_told_with told name bytes) now came in
      record { status_is = done.status_is; answers = done.answers; log_is = done.log_is }

-- a count that stands at 0 has not risen
never_rose : Rose 0 0 → ⊥
never_rose rose = absurd (omega (arith, rose))

-- ---- the end of `demo`

-- it ends with the status of the run inside
record EndsWith (status e : Status) : Type 0 where
  pub same : e ≡ status
  pub answers : IsAnswerStatus e

stopped_with : (status e : Status) (said log : List ℕ) (told now : Option Files) → CameOfPlan (Stops status) said told e log now → EndsWith status e
stopped_with status e said log told now (stopped, answers) = record { same = stopped.status_is; answers = subst IsAnswerStatus (sym stopped.status_is) answers }

module _ (n : ℕ) (e : Status) (log : List ℕ) (told now : Option Files) where
  end_with : (status : Status) (said : List ℕ) → CameOfPlan (demo_end status n) said told e log now → EndsWith status e
  end_with ended.Done said came = stopped_with ended.Done e _ log told now came
  end_with ended.Usage said came = stopped_with ended.Usage e said log told now came
  end_with ended.Source said came = stopped_with ended.Source e said log told now came
  end_with ended.File said came = stopped_with ended.File e said log told now came
  end_with ended.Exists said came = stopped_with ended.Exists e said log told now came
  end_with ended.Fault said came = stopped_with ended.Fault e said log told now came
  end_with ended.Read said came = stopped_with ended.Read e said log told now came
  end_with ended.Write said came = stopped_with ended.Write e said log told now came
  end_with ended.Log said came = stopped_with ended.Log e said log told now came
  end_with ended.Object said came = stopped_with ended.Object e said log told now came
  end_with ended.Memory said came = stopped_with ended.Memory e said log told now came

  -- behind the lines of the run inside
  told_with : (status : Status) (lines : List (List ℕ)) (said : List ℕ) → CameOfPlan (each_in_turn Logs lines (demo_end status n)) said told e log now → EndsWith status e
  told_with status [] said came = end_with status said came
  told_with status (line ∷ lines) said came = told_with status lines (said ++ line) came

-- lines are told one behind the other
lines_told : (lines : List (List ℕ)) (rest : Plan) (said log : List ℕ) (told : Option Files) → log ≡ said ++ concat lines → LeadsOn (each_in_turn Logs lines rest) rest said told log told
lines_told [] rest said log told is = subst (λ (l : List ℕ). LeadsOn rest rest said told l told) (sym (is ∙ append-nil said)) (leads_none rest said told)
lines_told (line ∷ lines) rest said log told is =
    does_on {T = Unit {0}} (Logs line (each_in_turn Logs lines rest)) (each_in_turn Logs lines rest) (λ _. rest) said (said ++ line) told told (Ok tt) log told (leads_say line (each_in_turn Logs lines rest) said told)
    (lines_told lines rest (said ++ line) log told (is ∙ sym (append_assoc said line (concat lines))))

-- there was no memory to tell it
pub told_short : (text said log : List ℕ) (status : Status) (n : ℕ) (result : Result (Unit {0}) Halt) → IsErrAnd result (λ e. e ≡ OutOfMemory) → FollowsBeside (told_of_end text status n) said result log
told_short text said log status n result is told = no_memory (told_of_end text status n) (λ (_ : Unit {0}). Stops ended.Done) said log told told result is refl

-- the run inside was done, and its sales are told behind its lines
pub told_done : (text said between log : List ℕ) (n : ℕ) → between ≡ said ++ concat (lines_without_counts text) → log ≡ between ++ total_line n → FollowsBeside (told_of_end text ended.Done n) said (Ok tt) log
told_done text said between log n lines total told =
    does_on {T = Unit {0}} (told_of_end text ended.Done n) (demo_end ended.Done n) (λ _. Stops ended.Done) said between told told (Ok tt) log told (lines_told (lines_without_counts text) (demo_end ended.Done n) said between told lines)
    (subst (λ (l : List ℕ). LeadsOn (demo_end ended.Done n) (Stops ended.Done) between told l told) (sym total) (leads_say (total_line n) (Stops ended.Done) between told))

-- an end with another status
module _ (n : ℕ) (log : List ℕ) (told : Option Files) where
  other_end : (status : Status) → (status ≡ ended.Done → ⊥) → IsAnswerStatus status → CameOfPlan (demo_end status n) log told status log told
  other_end ended.Done other answers = absurd (other refl)
  other_end ended.Usage other answers = (record { status_is = refl; log_is = refl; files = refl }, answers)
  other_end ended.Source other answers = (record { status_is = refl; log_is = refl; files = refl }, answers)
  other_end ended.File other answers = (record { status_is = refl; log_is = refl; files = refl }, answers)
  other_end ended.Exists other answers = (record { status_is = refl; log_is = refl; files = refl }, answers)
  other_end ended.Fault other answers = (record { status_is = refl; log_is = refl; files = refl }, answers)
  other_end ended.Read other answers = (record { status_is = refl; log_is = refl; files = refl }, answers)
  other_end ended.Write other answers = (record { status_is = refl; log_is = refl; files = refl }, answers)
  other_end ended.Log other answers = (record { status_is = refl; log_is = refl; files = refl }, answers)
  other_end ended.Object other answers = (record { status_is = refl; log_is = refl; files = refl }, answers)
  other_end ended.Memory other answers = (record { status_is = refl; log_is = refl; files = refl }, answers)

-- the run inside has ended with a status that is not 0
pub told_other : (text said log : List ℕ) (status : Status) (n : ℕ) → (status ≡ ended.Done → ⊥) → IsAnswerStatus status → log ≡ said ++ concat (lines_without_counts text)
    → FollowsBeside (told_of_end text status n) said (Err (Ended status)) log
told_other text said log status n other answers lines told = (lines_told (lines_without_counts text) (demo_end status n) said log told lines).ends status log told (other_end n log told status other answers)

-- a run inside that has ended before it stored an object ends `demo` so too
unstored : (n : ℕ) (text said log : List ℕ) (status : Status) (result : Result (Unit {0}) Halt) → IsBeforeStoring status → FollowsBeside (told_of_end text status n) said result log
    → (told : Option Files) → HaltsUnstored result told told
unstored n text said log status (Ok value) before follows told =
    let came = (follows told).ends ended.Done log told (record { status_is = refl; log_is = refl; files = refl }, tt) in
    subst IsBeforeStoring (sym (EndsWith.same (told_with n ended.Done log told told status (lines_without_counts text) said came))) before
unstored n text said log status (Err (Ended e)) before follows told =
    (subst IsBeforeStoring (sym (EndsWith.same (told_with n e log told told status (lines_without_counts text) said (follows told)))) before, refl)
unstored n text said log status (Err OutOfMemory) before follows told = refl

-- ---- the run inside

done_unread : ended.Done ≡ ended.Read → ⊥
done_unread is = absurd (cc)

done_unwritten : ended.Done ≡ ended.Write → ⊥
done_unwritten is = absurd (cc)

-- the plan of the run inside
abbrev inside : SourcesRead → List StagedParts → ℕ → Plan
inside sources object n = demo_run sources object (demo_files n) (present_in (demo_files n))

-- what the run inside leaves, over files of its own
abbrev DoesInside : SourcesRead → ℕ → Result (Unit {0}) Halt → List ℕ → Option Files → Type 0
DoesInside sources n ran text now = DoesSource sources demo_job (runs_with demo_job DEFAULT_BUDGET) [] (Some (demo_files n)) ran text now

module _ (sources : SourcesRead) (n : ℕ) (ran : Result (Unit {0}) Halt) (text : List ℕ) (now : Option Files) where
  -- it follows the plan inside
  follows_inside : (d : DoesInside sources n ran text now) → FollowsAll (inside sources d.object n) [] (Some (demo_files n)) ran text now
  follows_inside d =
      let there_is : d.there ≡ present_in (demo_files n) = λ i name. d.there_told name i in
      subst (λ (there : Presence). FollowsAll (demo_run sources d.object (demo_files n) there) [] (Some (demo_files n)) ran text now) there_is
      (subst (λ (files : Files). FollowsAll (demo_run sources d.object files d.there) [] (Some (demo_files n)) ran text now) (sym d.files_told) d.follows)

  -- its object is that of the job, or it has ended before it stored one
  stores_inside : (d : DoesInside sources n ran text now) → IsObjectOf sources demo_job (demo_files n) d.object ⊎ HaltsUnstored ran (Some (demo_files n)) now
  stores_inside d = over (d.stores refl)
    where
      over : IsObjectOf sources demo_job d.files d.object ⊎ HaltsUnstored ran (Some (demo_files n)) now → IsObjectOf sources demo_job (demo_files n) d.object ⊎ HaltsUnstored ran (Some (demo_files n)) now
      over (inl object) = inl (subst (λ (files : Files). IsObjectOf sources demo_job files d.object) (sym d.files_told) object)
      over (inr halts) = inr halts

-- ---- what `demo` leaves

module _ (sources : SourcesRead) (n : ℕ) (said log : List ℕ) (result : Result (Unit {0}) Halt) where
  -- what is told of the end of the run inside is the plan of `demo`
  plan_follows : (object : List StagedParts) (text : List ℕ) (status : Status) → WasDone (inside sources object n) [] status text → FollowsBeside (told_of_end text status n) said result log
      → FollowsBeside (demo_plan sources object n) said result log
  plan_follows object text status done follows told =
      subst (λ (t : List ℕ). FollowsAll (told_of_end t (status_at_end (inside sources object n)) n) said told result log told) done.log_is
      (subst (λ (s : Status). FollowsAll (told_of_end text s n) said told result log told) done.status_is (follows told))

  stores_so : {A B : Type 0} → A ⊎ B → (B → (told : Option Files) → HaltsUnstored result told told) → A ⊎ ((told : Option Files) → HaltsUnstored result told told)
  stores_so (inl object) f = inl object
  stores_so (inr halts) f = inr (f halts)

  -- the run inside came to an end with a status
  of_end : {B : Type 0} (object : List StagedParts) (text : List ℕ) (status : Status) → WasDone (inside sources object n) [] status text → (B → IsBeforeStoring status)
      → IsObjectOf sources demo_job (demo_files n) object ⊎ B → FollowsBeside (told_of_end text status n) said result log → DoesDemo sources n said result log
  of_end object text status done before stores follows = record {
    object = object;
    stores = stores_so stores (λ halts. unstored n text said log status result (before halts) follows);
    follows = plan_follows object text status done follows;
  }

  -- the run inside has ended, and no call of its store has failed
  demo_does : (ran : Result (Unit {0}) Halt) (text : List ℕ) (now : Option Files) → DoesInside sources n ran text now → CausedBy ended.Read ran 0 0 → CausedBy ended.Write ran 0 0
      → EndsDemo n ran text said result log → DoesDemo sources n said result log
  demo_does (Ok value) text now d reads writes ends =
      let came = (follows_inside sources n (Ok value) text now d).ends ended.Done text now (record { status_is = refl; log_is = refl; files = refl }, tt) in
      of_end d.object text ended.Done (was_done ended.Done text done_unread done_unwritten (inside sources d.object n) [] (Some (demo_files n)) now came) (λ never. never) (stores_inside sources n (Ok value) text now d) ends
  demo_does (Err (Ended status)) text now d reads writes ends =
      let came = follows_inside sources n (Err (Ended status)) text now d in
      let done = was_done status text (λ is. never_rose (reads.rose is)) (λ is. never_rose (writes.rose is)) (inside sources d.object n) [] (Some (demo_files n)) now came in
      of_end d.object text status done (λ halts. halts.0) (stores_inside sources n (Err (Ended status)) text now d) (ends done.answers)
  demo_does (Err OutOfMemory) text now d reads writes is =
      let plan = demo_plan sources d.object n in
      record {
        object = d.object;
        stores = stores_so (stores_inside sources n (Err OutOfMemory) text now d) (λ same told. subst (λ (r : Result (Unit {0}) Halt). HaltsUnstored r told told) (sym is) refl);
        follows = λ told. subst (λ (r : Result (Unit {0}) Halt). FollowsAll plan said told r log told) (sym is) (at_once plan told);
      }

-- the same of the job, the files and the text that the run inside began with
pub demo_ran : (sources : SourcesRead) (n : ℕ) (said log : List ℕ) (result : Result (Unit {0}) Halt) (job begun : List ℕ) (files : Files) (ran : Result (Unit {0}) Halt) (text : List ℕ) (now : Option Files)
    → job ≡ demo_job → begun ≡ [] → files ≡ demo_files n → DoesSource sources job (runs_with job DEFAULT_BUDGET) begun (Some files) ran text now → CausedBy ended.Read ran 0 0 → CausedBy ended.Write ran 0 0
    → EndsDemo n ran text said result log → DoesDemo sources n said result log
demo_ran sources n said log result job begun files ran text now job_is begun_is files_is d reads writes ends =
    demo_does sources n said log result ran text now
    (subst (λ (j : List ℕ). DoesSource sources j (runs_with j DEFAULT_BUDGET) [] (Some (demo_files n)) ran text now) job_is
    (subst (λ (b : List ℕ). DoesSource sources job (runs_with job DEFAULT_BUDGET) b (Some (demo_files n)) ran text now) begun_is
    (subst (λ (f : Files). DoesSource sources job (runs_with job DEFAULT_BUDGET) begun (Some f) ran text now) files_is d)))
    reads writes ends

-- there was no memory before the run inside
pub demo_short : (sources : SourcesRead) (n : ℕ) (said log : List ℕ) (result : Result (Unit {0}) Halt) → IsErrAnd result (λ e. e ≡ OutOfMemory) → DoesDemo sources n said result log
demo_short sources n said log (Ok value) is = absurd is
demo_short sources n said log (Err e) is =
    subst (λ (h : Halt). DoesDemo sources n said (Err h) log) (sym is) (record { object = []; stores = inr (λ told. refl); follows = λ told. at_once (demo_plan sources [] n) told })

-- `demo` ends in no fault of a store
module _ (sources : SourcesRead) (n : ℕ) (said log : List ℕ) where
  demo_answers : (status : Status) → DoesDemo sources n said (Err (Ended status)) log → IsAnswerStatus status
  demo_answers status d =
      let plan = inside sources d.object n in
      EndsWith.answers (told_with n status log None None (status_at_end plan) (lines_without_counts (text_logged (steps_of plan))) said (d.follows None))

  pub demo_unread : (result : Result (Unit {0}) Halt) → DoesDemo sources n said result log → HaltsAs ended.Read result → ⊥
  demo_unread (Ok value) d halts = halts
  demo_unread (Err (Ended status)) d is = subst IsAnswerStatus is (demo_answers status d)
  demo_unread (Err OutOfMemory) d halts = halts

  pub demo_unwritten : (result : Result (Unit {0}) Halt) → DoesDemo sources n said result log → HaltsAs ended.Write result → ⊥
  demo_unwritten (Ok value) d halts = halts
  demo_unwritten (Err (Ended status)) d is = subst IsAnswerStatus is (demo_answers status d)
  demo_unwritten (Err OutOfMemory) d halts = halts
