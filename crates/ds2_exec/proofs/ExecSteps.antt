-- From the tables of an object, its outputs and its programs to what its run leaves.
use Rattle.std.proofs.Common.{◌≡◌, ◌∙◌, ◌||◌, ◌&&◌, ◌==◌, IsErrAnd, Bool, true, false, not, bytes_eq, ℕ, List, [], ◌∷◌, ◌++◌, map, flat_map, Option, IfSome, Result, Ok, Err, refl, sym, ap, subst}
use Rattle.std.specs.Prelude.{if◌then◌else◌}
use Rattle.std.proofs.lemmas.Slice.Eq.{bytes_eq-Decides}
use Rattle.ds2_outside.specs.Files.{Files}
use Rattle.ds2_code.specs.declared.parts.StagedParts.{StagedParts}
use Rattle.ds2_code.specs.declared.parts.TableReference.{TableReference}
use Rattle.ds2_answer.specs.declared.status.Status.{Status}
use Rattle.ds2_answer.specs.declared.status.Status.TheVariants as ended
use Rattle.ds2_answer.specs.Answer.{table_file}
use Rattle.ds2_answer.specs.HeldTables.{NamedTable, held_from_store}
use Rattle.ds2_answer.specs.ObjectPlans.{first_referred, known_too, object_inputs, object_over, object_plan, outputs_of_code, references_of, run_of_code}
use Rattle.ds2_answer.specs.Plan.{Plan, Stops}
use Rattle.ds2_answer.specs.ProgramPlans.{programs_plan}
use Rattle.ds2_answer.specs.StagesLeft.{no_verdict}
use Rattle.ds2_answer.specs.TablePlans.{Presence, none_made, present_in, read_tables}
use Rattle.ds2_store_steps.specs.declared.halt.Halt.{Halt}
use Rattle.ds2_store_steps.specs.declared.halt.Halt.TheVariants.{Ended, OutOfMemory}
use Rattle.ds2_exec.specs.declared.object_run.ExecEnd.{ExecEnd}
use Rattle.ds2_exec.specs.ExecOutcomes.{ExecutesPlan, OverStore}
use Rattle.ds2_store_steps.specs.Halts.{FollowsAll, HaltsPlan, LeadsOn}
use Rattle.ds2_store_steps.specs.OutputAsks.{AsksOutputs, OverAnswers}
use Rattle.ds2_store_steps.specs.PlanOutcomes.{CameOfPlan, CutShort}
use Rattle.ds2_store_steps.specs.TableReads.{DifferAll, DifferFrom, ReadsTables, files_read_then}
use Rattle.ds2_store_steps.proofs.Leading.{does_on, leads_none, leads_read, no_memory}
use Rattle.ds2_store_steps.proofs.FileSteps.{over_all}
use Rattle.ds2_store_steps.proofs.OutputSteps.{answers_all}

-- ---- the names of the tables that an object reads differ

-- a name that is known adds nothing
known_twice : (known : List ℕ → Bool) (name other : List ℕ) → known name ≡ true → (bytes_eq name other || known other) ≡ known other
known_twice known name other is = by (bytes_eq name other) refl
  where
    by : (e : Bool) → bytes_eq name other ≡ e → (e || known other) ≡ known other
    by true e = sym is ∙ ap known ((bytes_eq-Decides name other).0 e)
    by false e = refl

apart_first : (known : List ℕ → Bool) (references : List TableReference) → DifferFrom known (first_referred known references)
apart_first known [] = tt
apart_first known (r ∷ references) = by (r.maker == 0) (known r.name) refl (apart_first (known_too r known) references)
  where
    by : (e k : Bool) → known r.name ≡ k → DifferFrom (λ (name : List ℕ). (e && bytes_eq r.name name) || known name) (first_referred (known_too r known) references)
        → DifferFrom known ((if e && not k then r.name ∷ [] else []) ++ first_referred (known_too r known) references)
    by true true is others = subst (λ (test : List ℕ → Bool). DifferFrom test (first_referred (known_too r known) references)) (λ i name. known_twice known r.name name is i) others
    by true false is others = (is, others)
    by false k is others = others

pub inputs_are : (codes' : List StagedParts) (references : List TableReference) (names : List (List ℕ)) → references ≡ references_of codes' → names ≡ first_referred none_made references → names ≡ object_inputs codes'
inputs_are codes' references names references_are is = is ∙ ap (first_referred none_made) references_are

pub inputs_differ : (codes' : List StagedParts) (names : List (List ℕ)) → names ≡ object_inputs codes' → DifferAll names
inputs_differ codes' names is = subst DifferAll (sym is) (apart_first none_made (references_of codes'))

-- ---- the run of an object

-- files that are read change nothing
leads_files : (names : List (List ℕ)) (rest : Plan) (said : List ℕ) (told : Option Files) → LeadsOn (files_read_then names rest) rest said told said told
leads_files [] rest said told = leads_none rest said told
leads_files (name ∷ names) rest said told =
    does_on (files_read_then (name ∷ names) rest) (files_read_then names rest) (λ (_ : Unit {0}). rest) said said told told (Ok tt) said told
    (leads_read (table_file name) (files_read_then names rest) said told) (leads_files names rest said told)

module _ (codes' : List StagedParts) (budget : ℕ) where
  -- there was no memory for the names of the tables
  pub object_unnamed : (said log : List ℕ) (told now : Option Files) (result : Result (Unit {0}) Halt) → IsErrAnd result (λ e. e ≡ OutOfMemory) → now ≡ told
      → OverStore told (λ files there. FollowsAll (object_plan codes' budget files there) said told result log now)
  object_unnamed said log told now result is same =
      let files = over_all told (λ (files : Files). Unit {0}) (λ files. tt) in
      let answers = answers_all told (λ (there : Presence). Unit {0}) (λ there. tt) in
      record {
        files = files.files;
        there = answers.there;
        files_told = files.told_is;
        there_told = answers.told_is;
        holds = no_memory (object_plan codes' budget files.files answers.there) (λ (_ : Unit {0}). Stops ended.Done) said log told now result is same;
      }

  -- the tables were not read
  pub object_unread : (references : List TableReference) (names : List (List ℕ)) (said log : List ℕ) (told now : Option Files) (halt : Halt) (result : Result (Unit {0}) Halt) → references ≡ references_of codes' → names ≡ object_inputs codes' → IsErrAnd result (λ e. e ≡ halt)
      → ReadsTables references names [] said told (Err halt) log now → OverStore told (λ files there. FollowsAll (object_plan codes' budget files there) said told result log now)
  object_unread references names said log told now halt (Ok value) references_are names_are is reads = absurd is
  object_unread references names said log told now halt (Err e) references_are names_are is reads =
      let answers = answers_all told (λ (there : Presence). Unit {0}) (λ there. tt) in
      record {
        files = reads.files;
        there = answers.there;
        files_told = reads.told_is;
        there_told = answers.told_is;
        holds = subst (λ (h : Halt). HaltsPlan (object_plan codes' budget reads.files answers.there) said told h log now) (sym is)
            (subst (λ (rs : List TableReference). HaltsPlan (read_tables rs (object_inputs codes') [] reads.files (object_over codes' budget answers.there)) said told halt log now) references_are
            (subst (λ (ns : List (List ℕ)). HaltsPlan (read_tables references ns [] reads.files (object_over codes' budget answers.there)) said told halt log now) names_are
            (reads.holds (object_over codes' budget answers.there))));
      }

  -- the tables were read, and then comes what is done over them
  pub object_then : (references : List TableReference) (names : List (List ℕ)) (read : List NamedTable) (said text log : List ℕ) (told between now : Option Files) (result : Result (Unit {0}) Halt)
      → references ≡ references_of codes' → names ≡ object_inputs codes' → ReadsTables references names [] said told (Ok read) text between
      → OverAnswers between (λ there. FollowsAll (object_over codes' budget there read) text between result log now)
      → OverStore told (λ files there. FollowsAll (object_plan codes' budget files there) said told result log now)
  object_then references names read said text log told between now result references_are names_are (text_is, between_is, reads) answers =
      let over : Plan = object_over codes' budget answers.there read in
      let is : object_plan codes' budget reads.files answers.there ≡ files_read_then names over =
      (λ i. read_tables (sym references_are i) (sym names_are i) [] reads.files (object_over codes' budget answers.there)) ∙ reads.holds (object_over codes' budget answers.there) in
      let done : FollowsAll over said told result log now =
      subst (λ (s : List ℕ). FollowsAll over s told result log now) text_is (subst (λ (f : Option Files). FollowsAll over text f result log now) between_is answers.holds) in
      record {
        files = reads.files;
        there = answers.there;
        files_told = reads.told_is;
        there_told = subst (λ (t : Option Files). IfSome t (λ held. (name : List ℕ) → answers.there name ≡ present_in held name)) between_is answers.told_is;
        holds = subst (λ (s : Plan). FollowsAll s said told result log now) (sym is)
            (does_on (files_read_then names over) over (λ (_ : Unit {0}). Stops ended.Done) said said told told result log now (leads_files names over said told) done);
      }

  -- an output is there, or the question for one has failed
  pub outputs_there : (read : List NamedTable) (said log : List ℕ) (told now : Option Files) (halt : Halt) (result : Result (Unit {0}) Halt) → IsErrAnd result (λ e. e ≡ halt)
      → AsksOutputs none_made (flat_map outputs_of_code codes') said told (Err halt) log now → OverAnswers told (λ there. FollowsAll (object_over codes' budget there read) said told result log now)
  outputs_there read said log told now halt (Ok value) is (same, asks) = absurd is
  outputs_there read said log told now halt (Err e) is (same, asks) =
      record {
        there = asks.there;
        told_is = asks.told_is;
        holds = subst (λ (h : Halt). HaltsPlan (object_over codes' budget asks.there read) said told h log now) (sym is) (asks.holds (programs_plan (map (run_of_code no_verdict budget) codes') (held_from_store read)));
      }

  -- no output is there, and the programs were run
  pub outputs_not_there : (read stored : List NamedTable) (said text log : List ℕ) (told between now : Option Files) (result : Result (Unit {0}) Halt) → stored ≡ read
      → AsksOutputs none_made (flat_map outputs_of_code codes') said told (Ok tt) text between
      → FollowsAll (programs_plan (map (run_of_code no_verdict budget) codes') (held_from_store stored)) text between result log now
      → OverAnswers told (λ there. FollowsAll (object_over codes' budget there read) said told result log now)
  outputs_not_there read stored said text log told between now result stored_is (same, asks) runs =
      let programs : Plan = programs_plan (map (run_of_code no_verdict budget) codes') (held_from_store read) in
      record {
        there = asks.there;
        told_is = asks.told_is;
        holds = does_on (object_over codes' budget asks.there read) programs (λ (_ : Unit {0}). Stops ended.Done) said text told between result log now (asks.holds programs)
            (subst (λ (ts : List NamedTable). FollowsAll (programs_plan (map (run_of_code no_verdict budget) codes') (held_from_store ts)) text between result log now) stored_is runs);
      }

-- the codes of an object are the object
pub object_is : (codes' object : List StagedParts) (budget : ℕ) (told : Option Files) (said : List ℕ) (now : Option Files) (log : List ℕ) (result : Result (Unit {0}) Halt) → codes' ≡ object
    → OverStore told (λ files there. FollowsAll (object_plan codes' budget files there) said told result log now) → OverStore told (λ files there. FollowsAll (object_plan object budget files there) said told result log now)
object_is codes' object budget told said now log result is o = subst (λ (cs : List StagedParts). OverStore told (λ files there. FollowsAll (object_plan cs budget files there) said told result log now)) is o

-- ---- what the run of an object has left

-- what holds over a store gives what follows from it
pub store_map : (told : Option Files) (P Q : Files → Presence → Type 0) → ((files : Files) (there : Presence) → P files there → Q files there) → OverStore told P → OverStore told Q
store_map told P Q f o = record { files = o.files; there = o.there; files_told = o.files_told; there_told = o.there_told; holds = f o.files o.there o.holds }

module _ (codes' : List StagedParts) (budget : ℕ) (told now : Option Files) where
  -- the whole plan was done
  pub executed_done : (E : Type 0) (said log : List ℕ) (end : ExecEnd) → said ≡ [] → end.status ≡ ended.Done → end.log ≡ log → OverStore told (λ files there. FollowsAll (object_plan codes' budget files there) said told (Ok tt) log now)
      → OverStore told (λ files there. ExecutesPlan {E = E} (object_plan codes' budget files there) told (Ok end) now)
  executed_done E said log end none status_is log_is o =
      store_map told (λ files there. LeadsOn (object_plan codes' budget files there) (Stops ended.Done) said told log now) (λ files there. CameOfPlan (object_plan codes' budget files there) [] told end.status end.log now)
      (λ files there leads.
      subst (λ (s : List ℕ). CameOfPlan (object_plan codes' budget files there) s told end.status end.log now) none
      (leads.ends end.status end.log now (record { status_is = status_is; log_is = log_is; files = refl }, tt))) o

  -- the plan was done up to a line that ended it
  pub executed_ended : (E : Type 0) (said log : List ℕ) (status : Status) (halt : Halt) (end : ExecEnd) → said ≡ [] → halt ≡ Ended status → end.status ≡ status → end.log ≡ log
      → OverStore told (λ files there. FollowsAll (object_plan codes' budget files there) said told (Err halt) log now) → OverStore told (λ files there. ExecutesPlan {E = E} (object_plan codes' budget files there) told (Ok end) now)
  executed_ended E said log status halt end none halt_is status_is log_is o =
      store_map told (λ files there. HaltsPlan (object_plan codes' budget files there) said told halt log now) (λ files there. CameOfPlan (object_plan codes' budget files there) [] told end.status end.log now)
      (λ files there halts.
      subst (λ (s : List ℕ). CameOfPlan (object_plan codes' budget files there) s told end.status end.log now) none
      (subst (λ (x : Status). CameOfPlan (object_plan codes' budget files there) said told x end.log now) (sym status_is)
      (subst (λ (x : List ℕ). CameOfPlan (object_plan codes' budget files there) said told status x now) (sym log_is)
      (subst (λ (h : Halt). HaltsPlan (object_plan codes' budget files there) said told h log now) halt_is halts)))) o

  -- memory ran out
  pub executed_short : (said log : List ℕ) (halt : Halt) → halt ≡ OutOfMemory → OverStore told (λ files there. FollowsAll (object_plan codes' budget files there) said told (Err halt) log now)
      → OverStore told (λ files there. CutShort (object_plan codes' budget files there) told now)
  executed_short said log halt halt_is o =
      store_map told (λ files there. HaltsPlan (object_plan codes' budget files there) said told halt log now) (λ files there. CutShort (object_plan codes' budget files there) told now)
      (λ files there halts. subst (λ (h : Halt). HaltsPlan (object_plan codes' budget files there) said told h log now) halt_is halts) o
