-- A thread program that the verdict calls local at a grain is group independent there.
use Rattle.std.proofs.Common.{◌≡◌, ℕ, ◌≤◌, true, List, length, Option, Some, None, refl, sym, subst}
use Rattle.std.proofs.lemmas.Bool.{true≢false}
use Rattle.ds2_value.specs.Run.{Event}
use Rattle.ds2_schedule.specs.Groups.{UnitRun, IsSameEnd}
use Rattle.ds2_meaning.specs.declared.location.Global.{Global}
use Rattle.ds2_meaning.specs.declared.location.Global.TheVariants.{Named, First, Last, Present, Parameter}
use Rattle.ds2_meaning.specs.declared.globals.Variable.{Variable}
use Rattle.ds2_meaning.specs.declared.readings.ByVariable.{ByVariable}
use Rattle.ds2_meaning.specs.declared.readings.Reading.{Reading}
use Rattle.ds2_meaning.specs.declared.readings.Reading.TheVariants.{Nothing, Once, Set, Merge, From}
use Rattle.ds2_meaning.specs.Execution.{exec_all}
use Rattle.ds2_meaning.specs.IsTyped.{MergesBy, IsTypedReading, IsTypedUnit}
use Rattle.ds2_meaning.specs.Location.{Home, Storage}
use Rattle.ds2_meaning.specs.ProgramMeaning.{program_surroundings, unit_end, unit_state, nothing_more}
use Rattle.ds2_meaning.specs.ProgramTree.{UnitTree, data_vector}
use Rattle.ds2_meaning.specs.Reading.{bys_of}
use Rattle.ds2_meaning.specs.TypedStatement.{TypedStatements}
use Rattle.ds2_locality.specs.declared.locality.Verdict.TheVariants.{Local}
use Rattle.ds2_locality.specs.Deeds.{init_deeds}
use Rattle.ds2_locality.specs.Independence.{UnitsGave, unit_ended, seen_way, thread_stage, IsIndependentAt}
use Rattle.ds2_locality.specs.KeptLocations.{bys_from, is_first_of_by}
use Rattle.ds2_locality.specs.Soundness.{LocalIsIndependent}
use Rattle.ds2_locality.specs.Verdict.{JudgedThread, known_first, Ground, ground_at, ground_of_term, ground_of_init, first_write, first_ground, ground_outside_run, coarsest, verdict_of}
use Rattle.ds2_locality.specs.Walk.{no_flag}
use Rattle.ds2_locality.proofs.Fixed.{run_leaves_fixed}
use Rattle.ds2_locality.proofs.Grains.{local_is_greatest}
use Rattle.ds2_locality.proofs.SameGroups.{groups_same, no_statement}
use Rattle.ds2_locality.proofs.SameUnits.{Stands}
use Rattle.ds2_locality.proofs.Starts.{group_is_fair}
use Rattle.ds2_locality.proofs.TypedFacts.{is_first, stands, mentioned}
use Rattle.ds2_locality.proofs.Walks.{Mentioned}

first_none : (a b : Option Ground) → first_ground a b ≡ None → a ≡ None
first_none None b e = refl
first_none (Some g) b e = absurd cc

-- how `term` with these statements ends
abbrev term_run : UnitTree → TypedStatements → ℕ → Storage → UnitRun Storage (UnitsGave (List Event))
term_run p statements budget c = unit_ended seen_way (unit_end nothing_more (exec_all (program_surroundings p) statements (unit_state budget c)))

terms_same : (t : JudgedThread) → ground_outside_run t ≡ None → (budget : ℕ) (c e : Storage) → IsSameEnd ((thread_stage t.program).term budget c) ((thread_stage t.program).term budget e)
terms_same t none budget c e =
    let empty = no_statement t.term_place t.program.term.statements (first_none (ground_of_term t.term_place t.program.term.statements) (ground_of_init (first_write (init_deeds t.program))) none) in
    subst (λ (s : TypedStatements). IsSameEnd (term_run t.program s budget c) (term_run t.program s budget e)) (sym empty) refl

-- where the rules hold at a grain
pub rules_independent : (t : JudgedThread) → IsTypedUnit t.program → Mentioned t → (grain : ℕ) → Stands t (known_first t grain) → Stands t no_flag → MergesBy t.program.reading
    → coarsest (length (bys_of t.program.reading)) ≤ grain → ground_outside_run t ≡ None → ground_at t grain ≡ None → IsIndependentAt t.program grain
rules_independent t typed all grain first second merges few outside none = record {
  groups = λ budget ls ks c e gl gk same agree.
      let fair = group_is_fair t grain ls few merges gl in
      groups_same t all grain first second none budget ls ks fair.0 fair.1 same c e agree
      (run_leaves_fixed t.program typed grain budget ls gl c) (run_leaves_fixed t.program typed grain budget ks gk e);
  terms = λ budget c e agree. terms_same t outside budget c e;
}

-- and so where the verdict is local
pub local_independent : (t : JudgedThread) → IsTypedUnit t.program → Mentioned t → ((grain : ℕ) → Stands t (known_first t grain)) → Stands t no_flag → MergesBy t.program.reading
    → (grain : ℕ) → verdict_of t ≡ Local grain → IsIndependentAt t.program grain
local_independent t typed all first second merges grain local =
    let found = local_is_greatest t grain local in rules_independent t typed all grain (first grain) second merges found.1.some found.0 found.1.holds

-- ---- typed thread programs

first_alone : (bys : List ByVariable) (home : Home) (g : Global) → is_first_of_by bys home g ≡ true → is_first g ≡ true
first_alone bys None (First name) e = refl
first_alone bys None (Named name) e = absurd (true≢false (sym e))
first_alone bys None (Last name) e = absurd (true≢false (sym e))
first_alone bys None (Present name) e = absurd (true≢false (sym e))
first_alone bys None (Parameter name) e = absurd (true≢false (sym e))
first_alone bys (Some instance) g e = absurd (true≢false (sym e))

typed_merges : (variables : List Variable) (reading : Reading) → IsTypedReading variables reading → MergesBy reading
typed_merges variables Nothing typed = tt
typed_merges variables Once typed = tt
typed_merges variables (Set inputs bys) typed = tt
typed_merges variables (Merge inputs bys retains) typed = typed.3
typed_merges variables (From instance workers columns) typed = tt

-- a typed thread program that the verdict calls local at a grain is group independent there, where all hash objects and iterators are told
pub typed_local_independent : LocalIsIndependent
typed_local_independent t typed told grain local =
    local_independent t typed (mentioned t typed told) (λ g. stands t typed (known_first t g) (λ k e. first_alone (bys_from g t.program.reading) k.home k.global e))
    (stands t typed no_flag (λ k e. absurd (true≢false (sym e)))) (typed_merges (data_vector t.program) t.program.reading typed.reading) grain local
