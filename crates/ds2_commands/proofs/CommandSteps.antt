-- From a source that was loaded to what its command leaves.
use Rattle.std.proofs.Common.{◌≡◌, ◌⊎◌, ◌∙◌, IsErrAnd, IsTrue, true, false, inl, inr, ℕ, List, [], ◌∷◌, ◌++◌, flat_map, Option, Some, IfSome, Result, Ok, Err, refl, sym, subst, append_assoc}
use Rattle.std.proofs.lemmas.List.{append-nil}
use Rattle.ds2_outside.specs.Files.{Files}
use Rattle.ds2_compile.specs.AnswersOfTexts.{SourcesRead}
use Rattle.ds2_compile.specs.ProgramTree.{ProgramTree}
use Rattle.ds2_compile.specs.StagedParts.{StagedParts}
use Rattle.ds2_answer.specs.declared.command_line.CommandLine.TheVariants.{Run, Compile, Exec, Check, Demo}
use Rattle.ds2_answer.specs.declared.status.Status.{Status}
use Rattle.ds2_answer.specs.declared.status.Status.TheVariants as ended
use Rattle.ds2_answer.specs.DemoPlans.{demo_files, demo_job}
use Rattle.ds2_answer.specs.HeldTables.{held_from_store}
use Rattle.ds2_answer.specs.Lines.{checked_thread_line, verdict_text}
use Rattle.ds2_answer.specs.ObjectPlans.{outputs_of_code}
use Rattle.ds2_answer.specs.Plan.{Plan, Stops, Logs, ReadsFile, AsksFor, WritesFile, each_in_turn}
use Rattle.ds2_answer.specs.SourcePlans.{SourceCommand, check_threads, run_programs_of, source_plan, store_object}
use Rattle.ds2_verdicts.specs.ThreadVerdicts.{verdict_named}
use Rattle.ds2_verdicts.specs.declared.verdicts.ThreadVerdict.{ThreadVerdict}
use Rattle.ds2_answer.specs.StoredCodes.{CodesDoAsPrograms, HaveCodes}
use Rattle.ds2_answer.specs.TablePlans.{OutputNamed, Presence, none_made, outputs_then, present_in}
use Rattle.ds2_store_steps.specs.Halts.{FollowsAll, HaltsPlan, LeadsOn}
use Rattle.ds2_store_steps.specs.OutputAsks.{AsksOutputs, OverAnswers}
use Rattle.ds2_store_steps.specs.PlanOutcomes.{CameOfPlan, CutShort}
use Rattle.ds2_store_steps.specs.declared.halt.Halt.{Halt}
use Rattle.ds2_store_steps.specs.declared.halt.Halt.TheVariants.{Ended, OutOfMemory}
use Rattle.ds2_store_steps.proofs.FileSteps.{over_all}
use Rattle.ds2_store_steps.proofs.Leading.{does_on, leads_none, leads_say}
use Rattle.ds2_store_steps.proofs.OutputSteps.{answers_all}
use Rattle.ds2_commands.specs.CommandOutcomes.{DoesCommand, DoesSource, StoringCommand, checks, compiles, runs_with, verdicts_said}
use Rattle.ds2_commands.specs.DemoOutcomes.{DoesDemo}
use Rattle.ds2_commands.specs.ObjectRuns.{RunsFile}
use Rattle.ds2_commands.specs.SourceLoads.{LoadsSource, RunsLoaded, StoresNew, StoresReadable, loaded_plan}
use Rattle.ds2_commands.specs.SourceObjects.{HaltsUnstored, IsBeforeStoring, IsObjectOf}
use Rattle.ds2_commands.specs.declared.loaded.Loaded.{Loaded}
use Rattle.ds2_commands.proofs.FileReads.{leads_reads}
use Rattle.ds2_commands.proofs.ObjectSteps.{no_objects}
use Rattle.ds2_commands.proofs.PlanStops.{StopsAmong, behind_writes, outputs_stop, source_stop}

-- ---- a plan that writes nothing

abbrev Never : Status → Type 0
Never status = ⊥

came_before : (plan : Plan) (said : List ℕ) (told : Option Files) (status : Status) (log : List ℕ) (now : Option Files) → StopsAmong IsBeforeStoring Never plan → CameOfPlan plan said told status log now
    → IsBeforeStoring status × (now ≡ told)
came_before (Stops s) said told status log now stops (came, answers) = (subst IsBeforeStoring (sym came.status_is) stops, came.files)
came_before (Logs line rest) said told status log now stops came = came_before rest (said ++ line) told status log now stops came
came_before (ReadsFile name rest) said told status log now stops (inl failed) = (subst IsBeforeStoring (sym failed.status_is) tt, failed.files)
came_before (ReadsFile name rest) said told status log now stops (inr came) = came_before rest said told status log now stops came
came_before (AsksFor name rest) said told status log now stops (inl failed) = (subst IsBeforeStoring (sym failed.status_is) tt, failed.files)
came_before (AsksFor name rest) said told status log now stops (inr came) = came_before rest said told status log now stops came
came_before (WritesFile name bytes rest) said told status log now stops came = absurd (behind_writes Never rest stops)

short_before : (plan : Plan) (told now : Option Files) → StopsAmong IsBeforeStoring Never plan → CutShort plan told now → now ≡ told
short_before (Stops s) told now stops short = short
short_before (Logs line rest) told now stops (inl same) = same
short_before (Logs line rest) told now stops (inr short) = short_before rest told now stops short
short_before (ReadsFile name rest) told now stops (inl same) = same
short_before (ReadsFile name rest) told now stops (inr short) = short_before rest told now stops short
short_before (AsksFor name rest) told now stops (inl same) = same
short_before (AsksFor name rest) told now stops (inr short) = short_before rest told now stops short
short_before (WritesFile name bytes rest) told now stops short = absurd (behind_writes Never rest stops)

halts_unstored : (plan : Plan) (said : List ℕ) (told : Option Files) (halt : Halt) (log : List ℕ) (now : Option Files) → StopsAmong IsBeforeStoring Never plan → HaltsPlan plan said told halt log now
    → HaltsUnstored (Err halt) told now
halts_unstored plan said told (Ended status) log now stops halts = came_before plan said told status log now stops halts
halts_unstored plan said told OutOfMemory log now stops halts = short_before plan told now stops halts

-- ---- an object that is read back

module _ (object : List StagedParts) where
  -- there was no memory
  pub readable_short : (told : Option Files) (result : Result (Unit {0}) Halt) → IsErrAnd result (λ e. e ≡ OutOfMemory) → StoresReadable object result told told
  readable_short told (Ok value) is = absurd is
  readable_short told (Err e) is = inr (subst (λ (h : Halt). HaltsUnstored (Err h) told told) (sym is) refl)

  -- the object was not stored
  pub readable_halts : (told now : Option Files) (halt : Halt) (result : Result (Unit {0}) Halt) → IsErrAnd result (λ e. e ≡ halt) → StoresReadable object (Err halt) told now → StoresReadable object result told now
  readable_halts told now halt (Ok value) is stores = absurd is
  readable_halts told now halt (Err e) is stores = subst (λ (h : Halt). StoresReadable object (Err h) told now) (sym is) stores

  -- an output is there, or the question for one has failed
  pub readable_asked : (outputs : List OutputNamed) (said log : List ℕ) (told now : Option Files) (halt : Halt) (result : Result (Unit {0}) Halt) → IsErrAnd result (λ e. e ≡ halt)
      → AsksOutputs none_made outputs said told (Err halt) log now → StoresReadable object result told now
  readable_asked outputs said log told now halt result is (same, asks) =
      let rest : Plan = Stops ended.Exists in
      readable_halts told now halt result is
      (inr (halts_unstored (outputs_then none_made asks.there outputs rest) said told halt log now (outputs_stop IsBeforeStoring Never tt none_made asks.there outputs rest tt) (asks.holds rest)))

  -- the object was stored
  pub readable_then : (told between now : Option Files) (result : Result (Unit {0}) Halt) → StoresReadable object (Ok tt) told between → StoresReadable object result told now
  readable_then told between now result (inl read) = inl read
  readable_then told between now result (inr never) = absurd never

-- `check` stores nothing
pub never_keeps : {P : Type 0} → IsTrue false → P
never_keeps keeps = absurd (let k : false ≡ true = keeps in cc)

-- ---- storing and running

module _ (law : CodesDoAsPrograms) (source : List ℕ) (budget : ℕ) (loaded : Loaded) where
  abbrev codes_plan : Presence → Plan
  codes_plan there =
      outputs_then none_made there (flat_map outputs_of_code loaded.object) (store_object source loaded.object (loaded_plan budget loaded))

  -- what codes do is what the programs do whose codes they are
  plan_is_codes : (there : Presence) (programs : List ProgramTree) → HaveCodes programs loaded.object → run_programs_of source budget loaded.object there (held_from_store loaded.stored) loaded.verdicts programs ≡ codes_plan there
  plan_is_codes there programs codes =
      (λ i. outputs_then none_made there (law.outputs programs loaded.object codes i) (store_object source loaded.object (law.plan (verdict_named loaded.verdicts) programs loaded.object budget (held_from_store loaded.stored) codes i)))

  of_codes : (said log : List ℕ) (told now : Option Files) (result : Result (Unit {0}) Halt) → OverAnswers told (λ there. FollowsAll (codes_plan there) said told result log now)
      → RunsLoaded source budget loaded said told result log now
  of_codes said log told now result o = record {
    there = o.there;
    told_is = o.told_is;
    holds = λ programs codes. subst (λ (p : Plan). FollowsAll p said told result log now) (sym (plan_is_codes o.there programs codes)) o.holds;
  }

  -- the object was not stored
  pub run_unstored : (said log : List ℕ) (told now : Option Files) (halt : Halt) (result : Result (Unit {0}) Halt) → IsErrAnd result (λ e. e ≡ halt)
      → StoresNew source loaded.object said told (Err halt) log now → RunsLoaded source budget loaded said told result log now
  run_unstored said log told now halt (Ok value) is stores = absurd is
  run_unstored said log told now halt (Err e) is stores =
      of_codes said log told now (Err e)
      (record {
        there = stores.there;
        told_is = stores.told_is;
        holds = subst (λ (h : Halt). HaltsPlan (codes_plan stores.there) said told h log now) (sym is) (stores.holds (loaded_plan budget loaded));
      })

  -- the object was stored and its programs run
  pub run_then : (said text log : List ℕ) (told between now : Option Files) (result : Result (Unit {0}) Halt) → StoresNew source loaded.object said told (Ok tt) text between
      → FollowsAll (loaded_plan budget loaded) text between result log now → RunsLoaded source budget loaded said told result log now
  run_then said text log told between now result stores runs =
      of_codes said log told now result
      (record {
        there = stores.there;
        told_is = stores.told_is;
        holds = does_on (codes_plan stores.there) (loaded_plan budget loaded) (λ (_ : Unit {0}). Stops ended.Done) said text told between result log now (stores.holds (loaded_plan budget loaded)) runs;
      })

-- ---- verdicts that are told

-- verdicts, told one behind the other
pub verdicts_told : (verdicts : List ThreadVerdict) (said log : List ℕ) (told : Option Files) → log ≡ said ++ verdicts_said verdicts → LeadsOn (check_threads verdicts) (Stops ended.Done) said told log told
verdicts_told [] said log told is = subst (λ (l : List ℕ). LeadsOn (Stops ended.Done) (Stops ended.Done) said told l told) (sym (is ∙ append-nil said)) (leads_none (Stops ended.Done) said told)
verdicts_told (v ∷ verdicts) said log told is =
    let line : List ℕ = checked_thread_line v.name (verdict_text v.verdict) in
    does_on (check_threads (v ∷ verdicts)) (check_threads verdicts) (λ (_ : Unit {0}). Stops ended.Done) said (said ++ line) told told (Ok tt) log told
    (leads_say line (check_threads verdicts) said told)
    (verdicts_told verdicts (said ++ line) log told (is ∙ sym (append_assoc said line (verdicts_said verdicts))))

-- ---- commands on sources

module _ (sources : SourcesRead) (source : List ℕ) (does : StoringCommand) where
  -- the source was not loaded
  pub source_ends : (said log : List ℕ) (told now : Option Files) (halt : Halt) (result : Result (Unit {0}) Halt) → IsErrAnd result (λ e. e ≡ halt) → LoadsSource (source_plan sources source) said told (Err halt) log now
      → DoesSource sources source does said told result log now
  source_ends said log told now halt (Ok value) is halts = absurd is
  source_ends said log told now halt (Err e) is halts =
      let answers = answers_all told (λ (there : Presence). Unit {0}) (λ there. tt) in
      let go : SourceCommand = λ held verdicts programs. Stops ended.File in
      record {
        files = halts.files;
        there = answers.there;
        object = [];
        files_told = halts.told_is;
        there_told = answers.told_is;
        stores = λ keeps. inr (subst (λ (h : Halt). HaltsUnstored (Err h) told now) (sym is)
            (halts_unstored (source_plan sources source halts.files go) said told halt log now (source_stop IsBeforeStoring Never tt tt sources source halts.files go (λ held verdicts programs. tt)) (halts.holds go)));
        follows = subst (λ (h : Halt). HaltsPlan (source_plan sources source halts.files (does.plan [] answers.there)) said told h log now) (sym is) (halts.holds (does.plan [] answers.there));
      }

  -- the source was loaded, and the rest was done
  pub source_does : (loaded : Loaded) (said text log : List ℕ) (told between now : Option Files) (result : Result (Unit {0}) Halt) → LoadsSource (source_plan sources source) said told (Ok loaded) text between
      → OverAnswers between (λ there. (programs : List ProgramTree) → HaveCodes programs loaded.object → FollowsAll (does.plan loaded.object there (held_from_store loaded.stored) loaded.verdicts programs) text between result log now)
      → (IsTrue does.keeps → StoresReadable loaded.object result between now) → DoesSource sources source does said told result log now
  source_does loaded said text log told between now result (was, text_is, between_is) rest readable = record {
    files = was.files;
    there = rest.there;
    object = loaded.object;
    files_told = was.told_is;
    there_told = subst (λ (t : Option Files). IfSome t (λ held. (name : List ℕ) → rest.there name ≡ present_in held name)) between_is rest.told_is;
    stores = λ keeps. by (readable keeps);
    follows =
        let go = does.plan loaded.object rest.there in
        let then' = go (held_from_store loaded.stored) loaded.verdicts was.programs in
        subst (λ (p : Plan). FollowsAll p said told result log now) (sym (was.becomes.plan_is go))
        (does_on (each_in_turn ReadsFile was.becomes.names then') then' (λ (_ : Unit {0}). Stops ended.Done) said said told told result log now (leads_reads was.becomes.names then' said told)
        (subst (λ (t : List ℕ). FollowsAll then' t told result log now) text_is
        (subst (λ (f : Option Files). FollowsAll then' text f result log now) between_is (rest.holds was.programs was.object.codes))));
  }
    where
      by : StoresReadable loaded.object result between now → IsObjectOf sources source was.files loaded.object ⊎ HaltsUnstored result told now
      by (inl read) =
          inl (record { stored = loaded.stored; verdicts = loaded.verdicts; programs = was.programs; becomes = was.becomes; codes = was.object.codes; decoded = (read, was.object.valid) })
      by (inr halts) = inr (subst (λ (t : Option Files). HaltsUnstored result t now) between_is halts)

  -- the same where the rest is one plan, whatever is there
  pub source_does_one : (loaded : Loaded) (rest : Plan) → ((there : Presence) (programs : List ProgramTree) → does.plan loaded.object there (held_from_store loaded.stored) loaded.verdicts programs ≡ rest)
      → (said text log : List ℕ) (told between now : Option Files) (result : Result (Unit {0}) Halt) → LoadsSource (source_plan sources source) said told (Ok loaded) text between
      → FollowsAll rest text between result log now → (IsTrue does.keeps → StoresReadable loaded.object result between now) → DoesSource sources source does said told result log now
  source_does_one loaded rest same said text log told between now result loads runs readable =
      let answers = answers_all between (λ (there : Presence). Unit {0}) (λ there. tt) in
      source_does loaded said text log told between now result loads
      (record {
        there = answers.there;
        told_is = answers.told_is;
        holds = λ programs codes. subst (λ (p : Plan). FollowsAll p text between result log now) (sym (same answers.there programs)) runs;
      })
      readable

-- ---- any command

module _ (sources : SourcesRead) (said log : List ℕ) (told now : Option Files) (result : Result (Unit {0}) Halt) where
  pub runs_line : (source : List ℕ) (threads : Option ℕ) (budget : ℕ) → DoesSource sources source (runs_with source budget) said told result log now
      → DoesCommand sources (Some (Run source threads budget)) said told result log now
  runs_line source threads budget d = record {
    object_for = no_objects;
    files = d.files;
    there = d.there;
    object = d.object;
    files_told = d.files_told;
    there_told = d.there_told;
    stores = d.stores refl;
    decodes = tt;
    follows = d.follows;
  }

  pub compiles_line : (source : List ℕ) → DoesSource sources source (compiles source) said told result log now → DoesCommand sources (Some (Compile source)) said told result log now
  compiles_line source d = record {
    object_for = no_objects;
    files = d.files;
    there = d.there;
    object = d.object;
    files_told = d.files_told;
    there_told = d.there_told;
    stores = d.stores refl;
    decodes = tt;
    follows = d.follows;
  }

  pub checks_line : (source : List ℕ) → DoesSource sources source checks said told result log now → DoesCommand sources (Some (Check source)) said told result log now
  checks_line source d = record {
    object_for = no_objects;
    files = d.files;
    there = d.there;
    object = d.object;
    files_told = d.files_told;
    there_told = d.there_told;
    stores = tt;
    decodes = tt;
    follows = d.follows;
  }

  pub execs_line : (name : List ℕ) (budget : ℕ) → RunsFile name budget said told result log now → DoesCommand sources (Some (Exec name budget)) said told result log now
  execs_line name budget r = record {
    object_for = r.object_for;
    files = r.files;
    there = r.there;
    object = [];
    files_told = r.files_told;
    there_told = r.there_told;
    stores = tt;
    decodes = r.decodes;
    follows = r.follows;
  }

-- `demo` leaves any store as it was
pub shows_line : (sources : SourcesRead) (n : ℕ) (said log : List ℕ) (told : Option Files) (result : Result (Unit {0}) Halt) → DoesDemo sources n said result log → DoesCommand sources (Some (Demo n)) said told result log told
shows_line sources n said log told result d =
    let some = over_all told (λ (files : Files). Unit {0}) (λ files. tt) in
    let answers = answers_all told (λ (there : Presence). Unit {0}) (λ there. tt) in
    record {
      object_for = no_objects;
      files = some.files;
      there = answers.there;
      object = d.object;
      files_told = some.told_is;
      there_told = answers.told_is;
      stores = by d.stores;
      decodes = tt;
      follows = d.follows told;
    }
  where
    by : IsObjectOf sources demo_job (demo_files n) d.object ⊎ ((before : Option Files) → HaltsUnstored result before before) → IsObjectOf sources demo_job (demo_files n) d.object ⊎ HaltsUnstored result told told
    by (inl object) = inl object
    by (inr halts) = inr (halts told)
