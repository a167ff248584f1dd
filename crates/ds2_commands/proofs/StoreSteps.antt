-- From the object of a source to its file.
use Rattle.std.proofs.Common.{◌≡◌, ◌∙◌, IsErrAnd, IfOk, OnOk, ℕ, List, ◌++◌, flat_map, length, map, Option, Result, Ok, Err, refl, sym, ap, subst}
use Rattle.std.specs.List.{AllByRecursion}
use Rattle.ds2_outside.specs.Files.{Files}
use Rattle.ds2_base.specs.Bytes.{Bytes}
use Rattle.ds2_object.specs.ObjectSpelling.{IsSpellingOf, ReadsWhatIsSpelled, written_object}
use Rattle.ds2_compile.specs.StagedParts.{StagedParts}
use Rattle.ds2_answer.specs.declared.status.Status.TheVariants.{Done}
use Rattle.ds2_answer.specs.HeldTables.{NamedTable, held_from_store}
use Rattle.ds2_answer.specs.Lines.{object_line}
use Rattle.ds2_answer.specs.ObjectPlans.{outputs_of_code, run_of_code}
use Rattle.ds2_answer.specs.Plan.{Plan, Stops, Logs, WritesFile}
use Rattle.ds2_answer.specs.ProgramPlans.{programs_plan}
use Rattle.ds2_answer.specs.TablePlans.{Presence, none_made, outputs_then}
use Rattle.ds2_answer.specs.SourcePlans.{SourceCommand, compile_programs_of, object_bytes, object_file, store_object}
use Rattle.ds2_exec.specs.CodeRuns.{AreLinked}
use Rattle.ds2_exec.specs.LocalCodes.{IsIndependentWhereLocal}
use Rattle.ds2_store_steps.specs.OutputAsks.{AsksOutputs}
use Rattle.ds2_exec.specs.StageEnds.{GrainsFit}
use Rattle.ds2_verdicts.specs.ThreadVerdicts.{verdict_named}
use Rattle.ds2_verdicts.specs.declared.verdicts.ThreadVerdict.{ThreadVerdict}
use Rattle.ds2_store_steps.specs.Halts.{Follows, FollowsAll, HaltsPlan, LeadsOn}
use Rattle.ds2_store_steps.specs.declared.halt.Halt.{Halt}
use Rattle.ds2_store_steps.specs.declared.halt.Halt.TheVariants.{OutOfMemory}
use Rattle.ds2_store_steps.proofs.Leading.{does_on, halts_with, leads_none, leads_say, no_memory}
use Rattle.ds2_commands.specs.SourceLoads.{IsReadBack, IsRunnableObject, LoadsSource, StoresNew, loaded_plan}
use Rattle.ds2_commands.specs.declared.loaded.Loaded.{Loaded}

-- what holds of an object holds of its codes
pub fits_of : (object codes' : List StagedParts) (verdicts told : List ThreadVerdict) → codes' ≡ object → told ≡ verdicts → AllByRecursion (GrainsFit (verdict_named verdicts)) object
    → AllByRecursion (GrainsFit (verdict_named told)) codes'
fits_of object codes' verdicts told same told_is fit =
    subst (λ (cs : List StagedParts). AllByRecursion (GrainsFit (verdict_named told)) cs) (sym same)
    (subst (λ (vs : List ThreadVerdict). AllByRecursion (GrainsFit (verdict_named vs)) object) (sym told_is) fit)

pub runs_of : (object codes' : List StagedParts) (stored held : List NamedTable) → codes' ≡ object → held ≡ stored → AreLinked object stored → AreLinked codes' held
runs_of object codes' stored held same held_is runs =
    subst (λ (cs : List StagedParts). AreLinked cs held) (sym same) (subst (λ (ts : List NamedTable). AreLinked object ts) (sym held_is) runs)

pub independent_of : (object codes' : List StagedParts) (verdicts told : List ThreadVerdict) → codes' ≡ object → told ≡ verdicts → AllByRecursion (IsIndependentWhereLocal (verdict_named verdicts)) object
    → AllByRecursion (IsIndependentWhereLocal (verdict_named told)) codes'
independent_of object codes' verdicts told same told_is independent =
    subst (λ (cs : List StagedParts). AllByRecursion (IsIndependentWhereLocal (verdict_named told)) cs) (sym same)
    (subst (λ (vs : List ThreadVerdict). AllByRecursion (IsIndependentWhereLocal (verdict_named vs)) object) (sym told_is) independent)

-- codes were run that are an object's, over its tables and with its verdicts
pub ran_loaded : (budget : ℕ) (loaded : Loaded) (codes' : List StagedParts) (stored : List NamedTable) (verdicts : List ThreadVerdict) → codes' ≡ loaded.object → stored ≡ loaded.stored → verdicts ≡ loaded.verdicts
    → (said log : List ℕ) (told now : Option Files) (result : Result (Unit {0}) Halt)
    → FollowsAll (programs_plan (map (run_of_code (verdict_named verdicts) budget) codes') (held_from_store stored)) said told result log now → FollowsAll (loaded_plan budget loaded) said told result log now
ran_loaded budget loaded codes' stored verdicts same stored_is verdicts_are said log told now result runs =
    subst (λ (p : Plan). FollowsAll p said told result log now)
    (λ i. programs_plan (map (run_of_code (verdict_named (verdicts_are i)) budget) (same i)) (held_from_store (stored_is i))) runs

-- the object of a source that was loaded can be run
pub loaded_runs : (plan : Files → SourceCommand → Plan) (said : List ℕ) (told : Option Files) (loaded : Loaded) (log : List ℕ) (now : Option Files) → LoadsSource plan said told (Ok loaded) log now
    → IsRunnableObject loaded
loaded_runs plan said told loaded log now loads = loads.0.object.runs

-- bytes that were encoded are read as the programs whose spelling they are
pub encoded_readable : {E : Type 0} → ReadsWhatIsSpelled → (object : List StagedParts) (result : Result Bytes E) → IfOk result (λ bytes. IsSpellingOf bytes object) → OnOk result (IsReadBack object)
encoded_readable law object (Ok bytes) spells = law (written_object object) spells.allowed
encoded_readable law object (Err e) spells = tt

-- ---- the file of an object

module _ (source : List ℕ) (object : List StagedParts) where
  written_is : (file bytes : List ℕ) (rest : Plan) → file ≡ object_file source → bytes ≡ object_bytes object → WritesFile file bytes rest ≡ store_object source object rest
  written_is file bytes rest file_is bytes_are = λ i. WritesFile (file_is i) (bytes_are i) rest

  pub object_written : (file bytes said log : List ℕ) (told now : Option Files) (result : Result (Unit {0}) Halt) → file ≡ object_file source → bytes ≡ object_bytes object
      → (rest : Plan) → Follows {T = Unit {0}} (WritesFile file bytes rest) (λ _. rest) said told result log now → Follows {T = Unit {0}} (store_object source object rest) (λ _. rest) said told result log now
  object_written file bytes said log told now result file_is bytes_are rest does =
      subst (λ (p : Plan). Follows {T = Unit {0}} p (λ _. rest) said told result log now) (written_is file bytes rest file_is bytes_are) does

  -- the line on the object, and the end
  abbrev pub line_behind : Plan
  line_behind = Logs (object_line (object_file source) (length (object_bytes object))) (Stops Done)

  pub written_halts : (file bytes said log : List ℕ) (told now : Option Files) (halt : Halt) (result : Result (Unit {0}) Halt) → IsErrAnd result (λ e. e ≡ halt) → file ≡ object_file source → bytes ≡ object_bytes object
      → Follows {T = Unit {0}} (WritesFile file bytes line_behind) (λ _. line_behind) said told (Err halt) log now → FollowsAll (compile_programs_of source object) said told result log now
  written_halts file bytes said log told now halt result is file_is bytes_are does =
      let whole = compile_programs_of source object in
      halts_with whole whole (λ (_ : Unit {0}). Stops Done) (λ (_ : Unit {0}). line_behind) said said told told now halt result log is (leads_none whole said told)
      (object_written file bytes said log told now (Err halt) file_is bytes_are line_behind does)

  pub line_unsaid : (file bytes said text log : List ℕ) (told now : Option Files) (result : Result (Unit {0}) Halt) → IsErrAnd result (λ e. e ≡ OutOfMemory) → file ≡ object_file source → bytes ≡ object_bytes object
      → Follows {T = Unit {0}} (WritesFile file bytes line_behind) (λ _. line_behind) said told (Ok tt) text now → FollowsAll (compile_programs_of source object) said told result log now
  line_unsaid file bytes said text log told now result is file_is bytes_are does =
      does_on (compile_programs_of source object) line_behind (λ (_ : Unit {0}). Stops Done) said text told now result log now (object_written file bytes said text told now (Ok tt) file_is bytes_are line_behind does)
      (no_memory line_behind (λ (_ : Unit {0}). Stops Done) text log now now result is refl)

  pub line_said : (file bytes said text log : List ℕ) (told now : Option Files) → file ≡ object_file source → bytes ≡ object_bytes object
      → Follows {T = Unit {0}} (WritesFile file bytes line_behind) (λ _. line_behind) said told (Ok tt) text now → (count : ℕ) → count ≡ length bytes → log ≡ text ++ object_line file count
      → FollowsAll (compile_programs_of source object) said told (Ok tt) log now
  line_said file bytes said text log told now file_is bytes_are does count count_is log_is =
      let line = object_line (object_file source) (length (object_bytes object)) in
      let said_is : log ≡ text ++ line = log_is ∙ (λ i. text ++ object_line (file_is i) (count_is i)) ∙ ap (λ (b : List ℕ). text ++ object_line (object_file source) (length b)) bytes_are in
      does_on (compile_programs_of source object) line_behind (λ (_ : Unit {0}). Stops Done) said text told now (Ok tt) log now (object_written file bytes said text told now (Ok tt) file_is bytes_are line_behind does)
      (subst (λ (l : List ℕ). LeadsOn line_behind (Stops Done) text now l now) (sym said_is) (leads_say line (Stops Done) text now))

-- ---- the object where no output is there

module _ (source : List ℕ) (object : List StagedParts) where
  abbrev asked_then : Presence → Plan → Plan
  asked_then there rest = outputs_then none_made there (flat_map outputs_of_code object) (store_object source object rest)

  -- an output is there, or the question for one has failed
  pub new_halts : (said log : List ℕ) (told now : Option Files) (halt : Halt) (result : Result (Unit {0}) Halt) → IsErrAnd result (λ e. e ≡ halt)
      → AsksOutputs none_made (flat_map outputs_of_code object) said told (Err halt) log now → StoresNew source object said told result log now
  new_halts said log told now halt (Ok value) is asks = absurd is
  new_halts said log told now halt (Err e) is (same, asks) = record {
    there = asks.there;
    told_is = asks.told_is;
    holds = λ rest. subst (λ (h : Halt). HaltsPlan (asked_then asks.there rest) said told h log now) (sym is) (asks.holds (store_object source object rest));
  }

  -- no output is there, and the object was written
  pub new_stored : (said text log : List ℕ) (told between now : Option Files) (result : Result (Unit {0}) Halt) → AsksOutputs none_made (flat_map outputs_of_code object) said told (Ok tt) text between
      → ((rest : Plan) → Follows {T = Unit {0}} (store_object source object rest) (λ _. rest) text between result log now) → StoresNew source object said told result log now
  new_stored said text log told between now result (same, asks) stores = record {
    there = asks.there;
    told_is = asks.told_is;
    holds = λ rest.
        does_on (asked_then asks.there rest) (store_object source object rest) (λ (_ : Unit {0}). rest) said text told between result log now (asks.holds (store_object source object rest)) (stores rest);
  }
