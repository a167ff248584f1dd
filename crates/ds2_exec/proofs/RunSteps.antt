-- Programs that are run one behind the other.
use Rattle.std.proofs.Common.{◌≡◌, ◌∙◌, IsErrAnd, Bool, ℕ, List, [], ◌∷◌, ◌++◌, map, Option, Result, Ok, Err, refl, sym, ap, subst}
use Rattle.std.specs.List.{AllByRecursion}
use Rattle.ds2_table.specs.Table.{Contents}
use Rattle.ds2_outside.specs.Files.{Files}
use Rattle.ds2_code.specs.ValidCode.{IsValidStaged}
use Rattle.ds2_code.specs.declared.parts.StagedParts.{StagedParts}
use Rattle.ds2_code.specs.declared.parts.TableReference.{TableReference}
use Rattle.ds2_code_answer.specs.CodeAnswer.{code_answer}
use Rattle.ds2_code_answer.specs.CodeTables.{AreTablesOfCode}
use Rattle.ds2_answer.specs.declared.status.Status.TheVariants as ended
use Rattle.ds2_answer.specs.HeldTables.{HeldTables, NamedTable, tables_held}
use Rattle.ds2_answer.specs.ObjectPlans.{answer_over, left_by_code, references_of, run_of_code, stages_of_code}
use Rattle.ds2_answer.specs.Plan.{Plan, Stops}
use Rattle.ds2_answer.specs.ProgramPlans.{ProgramLeft, program_then, programs_plan}
use Rattle.ds2_answer.specs.StagesLeft.{VerdictsTold, grain_of_stages}
use Rattle.ds2_store_steps.specs.declared.halt.Halt.{Halt}
use Rattle.ds2_store_steps.specs.declared.halt.Halt.TheVariants.{OutOfMemory}
use Rattle.ds2_store_steps.specs.CodeReferences.{IsKeptName}
use Rattle.ds2_exec.specs.CodeRuns.{AreLinked}
use Rattle.ds2_store_steps.specs.Halts.{Follows, FollowsAll, HaltsPlan, LeadsOn}
use Rattle.ds2_exec.specs.declared.programs.CodeEnd.{CodeEnd}
use Rattle.ds2_exec.specs.OutputSinks.{HaveKept, IsCodeEnd, code_end_then, tables_kept}
use Rattle.ds2_exec.specs.StageEnds.{GrainsFit}
use Rattle.ds2_exec.proofs.CodeSteps.{RunsLeft, code_makes, next_runs, next_tables, others_run, runs_begin}
use Rattle.ds2_exec.proofs.ProgramSteps.{program_is, tables_left}
use Rattle.ds2_store_steps.proofs.Leading.{does_on, halts_with, leads_none, no_memory}

-- tables as they are held
abbrev pub held_with : List NamedTable → List (List NamedTable) → HeldTables
held_with stored made = record { stored = stored; made = made }

-- the programs of these codes over what is held
abbrev pub plan_of : (told : VerdictsTold) (budget : ℕ) → List NamedTable → List StagedParts → List (List NamedTable) → Plan
plan_of told budget stored codes' made = programs_plan (map (run_of_code told budget) codes') (held_with stored made)

-- the first of some programs were run: some of their tables are kept, and what comes of the others over all of their tables comes of all programs
pub record AreRunSoFar (keeps : List ℕ → Bool) (verdicts : VerdictsTold) (budget : ℕ) (stored : List NamedTable) (codes' left : List StagedParts) (kept : List (List NamedTable)) (said : List ℕ) (told : Option Files) (log : List ℕ) (now : Option Files) : Type 0 where
  pub all : List (List NamedTable)
  pub runs : RunsLeft keeps verdicts left stored kept all
  pub leads : LeadsOn (plan_of verdicts budget stored codes' []) (plan_of verdicts budget stored left all) said told log now

module _ (keeps : List ℕ → Bool) (verdicts : VerdictsTold) (budget : ℕ) (stored : List NamedTable) (codes' : List StagedParts) where
  pub running_begins : (references : List TableReference) (kept : List (List NamedTable)) (said : List ℕ) (told : Option Files) → AllByRecursion (GrainsFit verdicts) codes' → AreLinked codes' stored → references ≡ references_of codes'
      → AllByRecursion (IsKeptName keeps) references → kept ≡ [] → AreRunSoFar keeps verdicts budget stored codes' codes' kept said told said told
  running_begins references kept said told fit linked references_are named none =
      record { all = []; runs = runs_begin keeps verdicts codes' references stored kept fit linked references_are named none; leads = leads_none (plan_of verdicts budget stored codes' []) said told }

  -- the tables that are kept, as a slice of them
  pub run_kept : (left : List StagedParts) (slice kept : List (List NamedTable)) (said : List ℕ) (told : Option Files) (log : List ℕ) (now : Option Files) → slice ≡ kept → AreRunSoFar keeps verdicts budget stored codes' left kept said told log now
      → AreRunSoFar keeps verdicts budget stored codes' left slice said told log now
  run_kept left slice kept said told log now is run = subst (λ (k : List (List NamedTable)). AreRunSoFar keeps verdicts budget stored codes' left k said told log now) (sym is) run

  module _ (left after : List StagedParts) (code : StagedParts) (kept : List (List NamedTable)) (said text : List ℕ) (told between : Option Files) (left_is : left ≡ code ∷ after)
      (run : AreRunSoFar keeps verdicts budget stored codes' left kept said told text between) where
    -- what the next program leaves over what is kept it leaves over all tables
    run_same : run_of_code verdicts budget code (held_with stored kept) ≡ run_of_code verdicts budget code (held_with stored run.all)
    run_same = ap (λ (ts : List Contents). left_by_code verdicts code (code_answer code ts budget (grain_of_stages verdicts (stages_of_code code)))) (next_tables keeps verdicts stored left after code kept run.all left_is run.runs)

    first_leads : LeadsOn (plan_of verdicts budget stored codes' []) (plan_of verdicts budget stored (code ∷ after) run.all) said told text between
    first_leads = subst (λ (cs : List StagedParts). LeadsOn (plan_of verdicts budget stored codes' []) (plan_of verdicts budget stored cs run.all) said told text between) left_is run.leads

    -- the tables that it makes
    abbrev tables_of_next : List NamedTable
    tables_of_next = ProgramLeft.tables (run_of_code verdicts budget code (held_with stored run.all))

    -- the programs behind it
    abbrev plan_behind : Plan
    plan_behind = plan_of verdicts budget stored after (run.all ++ tables_of_next ∷ [])

    -- the next program can be run
    pub next_program : GrainsFit verdicts code × AreTablesOfCode code (tables_held (held_with stored kept) code)
    next_program = next_runs keeps verdicts stored left after code kept run.all left_is run.runs

    led_behind : (log : List ℕ) (now : Option Files) → ((rest : Plan) → LeadsOn (program_then (run_of_code verdicts budget code (held_with stored kept)) rest) rest text between log now)
        → LeadsOn (plan_of verdicts budget stored codes' []) plan_behind said told log now
    led_behind log now ran =
        does_on (plan_of verdicts budget stored codes' []) (plan_of verdicts budget stored (code ∷ after) run.all) (λ (_ : Unit {0}). plan_behind) said text told between (Ok tt) log now first_leads
        (subst (λ (l : ProgramLeft). LeadsOn (program_then l plan_behind) plan_behind text between log now) run_same (ran plan_behind))

    -- it was run, and tables of it are kept
    run_another : (some : List NamedTable) (made behind : List (List NamedTable)) (log : List ℕ) (now : Option Files) → IsValidStaged code → kept ≡ made → behind ≡ made ++ some ∷ []
        → HaveKept keeps some (ProgramLeft.tables (run_of_code verdicts budget code (held_with stored kept)))
        → ((rest : Plan) → LeadsOn (program_then (run_of_code verdicts budget code (held_with stored kept)) rest) rest text between log now)
        → AreRunSoFar keeps verdicts budget stored codes' after behind said told log now
    run_another some made behind log now valid made_is behind_is keep ran = record {
      all = run.all ++ tables_of_next ∷ [];
      runs = others_run keeps verdicts stored left after code kept run.all behind some tables_of_next left_is (behind_is ∙ ap (λ (k : List (List NamedTable)). k ++ some ∷ []) (sym made_is))
          (subst (λ (l : ProgramLeft). HaveKept keeps some l.tables) run_same keep)
          (code_makes verdicts code budget (held_with stored run.all) tables_of_next valid refl)
          run.runs;
      leads = led_behind log now ran;
    }

    -- it was run and has left this, and those of its tables are kept of which rows are
    pub run_settled : (end : CodeEnd) (some : List NamedTable) (made behind : List (List NamedTable)) (log : List ℕ) (now : Option Files) → IsValidStaged code → kept ≡ made → behind ≡ made ++ some ∷ []
        → IsCodeEnd keeps verdicts code (answer_over verdicts code budget (held_with stored kept)) end → some ≡ tables_kept end.tables
        → ((rest : Plan) → LeadsOn (code_end_then end rest) rest text between log now) → AreRunSoFar keeps verdicts budget stored codes' after behind said told log now
    run_settled end some made behind log now valid made_is behind_is ends some_is ran =
        run_another some made behind log now valid made_is behind_is (tables_left keeps verdicts code budget (held_with stored kept) end some ends some_is)
        (λ rest. subst (λ (p : Plan). LeadsOn p rest text between log now) (program_is keeps verdicts code budget (held_with stored kept) end ends rest) (ran rest))

    -- there was no memory to run it
    pub run_unbegun : (result : Result (Unit {0}) Halt) → IsErrAnd result (λ e. e ≡ OutOfMemory) → FollowsAll (plan_of verdicts budget stored codes' []) said told result text between
    run_unbegun result err =
        let next = plan_of verdicts budget stored (code ∷ after) run.all in
        does_on (plan_of verdicts budget stored codes' []) next (λ (_ : Unit {0}). Stops ended.Done) said text told between result text between first_leads
        (no_memory next (λ (_ : Unit {0}). Stops ended.Done) text text between between result err refl)

    -- it has halted
    run_halts : (T : Type 0) (log : List ℕ) (now : Option Files) (halt : Halt) (result : Result (Unit {0}) Halt) → IsErrAnd result (λ e. e ≡ halt)
        → ((rest : Plan) → Follows {T = T} (program_then (run_of_code verdicts budget code (held_with stored kept)) rest) (λ _. rest) text between (Err halt) log now)
        → FollowsAll (plan_of verdicts budget stored codes' []) said told result log now
    run_halts T log now halt result err ran =
        halts_with (plan_of verdicts budget stored codes' []) (plan_of verdicts budget stored (code ∷ after) run.all) (λ (_ : Unit {0}). Stops ended.Done) (λ (_ : T). plan_behind) said text told between now halt result log err first_leads
        (subst (λ (l : ProgramLeft). HaltsPlan (program_then l plan_behind) text between halt log now) run_same (ran plan_behind))

    -- it was run and has left this, in which the command has halted
    pub settled_halts : (T : Type 0) (end : CodeEnd) (log : List ℕ) (now : Option Files) (halt : Halt) (result : Result (Unit {0}) Halt) → IsErrAnd result (λ e. e ≡ halt)
        → IsCodeEnd keeps verdicts code (answer_over verdicts code budget (held_with stored kept)) end
        → ((rest : Plan) → Follows {T = T} (code_end_then end rest) (λ _. rest) text between (Err halt) log now) → FollowsAll (plan_of verdicts budget stored codes' []) said told result log now
    settled_halts T end log now halt result err ends ran =
        run_halts T log now halt result err (λ rest. subst (λ (p : Plan). HaltsPlan p text between halt log now) (program_is keeps verdicts code budget (held_with stored kept) end ends rest) (ran rest))

    -- it was run, and there was no memory to keep its tables
    run_unkept : (log : List ℕ) (now : Option Files) (result : Result (Unit {0}) Halt) → IsErrAnd result (λ e. e ≡ OutOfMemory)
        → ((rest : Plan) → LeadsOn (program_then (run_of_code verdicts budget code (held_with stored kept)) rest) rest text between log now)
        → FollowsAll (plan_of verdicts budget stored codes' []) said told result log now
    run_unkept log now result err ran =
        does_on (plan_of verdicts budget stored codes' []) plan_behind (λ (_ : Unit {0}). Stops ended.Done) said log told now result log now (led_behind log now ran)
        (no_memory plan_behind (λ (_ : Unit {0}). Stops ended.Done) log log now now result err refl)

    pub settled_unkept : (end : CodeEnd) (log : List ℕ) (now : Option Files) (result : Result (Unit {0}) Halt) → IsErrAnd result (λ e. e ≡ OutOfMemory)
        → IsCodeEnd keeps verdicts code (answer_over verdicts code budget (held_with stored kept)) end
        → ((rest : Plan) → LeadsOn (code_end_then end rest) rest text between log now) → FollowsAll (plan_of verdicts budget stored codes' []) said told result log now
    settled_unkept end log now result err ends ran =
        run_unkept log now result err (λ rest. subst (λ (p : Plan). LeadsOn p rest text between log now) (program_is keeps verdicts code budget (held_with stored kept) end ends rest) (ran rest))

  -- all programs were run
  pub run_all : (left : List StagedParts) (kept : List (List NamedTable)) (said log : List ℕ) (told now : Option Files) → left ≡ [] → AreRunSoFar keeps verdicts budget stored codes' left kept said told log now
      → FollowsAll (plan_of verdicts budget stored codes' []) said told (Ok tt) log now
  run_all left kept said log told now none run = subst (λ (cs : List StagedParts). LeadsOn (plan_of verdicts budget stored codes' []) (plan_of verdicts budget stored cs run.all) said told log now) none run.leads
