-- The groups of a local thread program run in code as they run in the meaning, and equal ways execute equally many instructions.
use Rattle.std.proofs.Common.{◌≡◌, ℕ, zero, suc, List, [], ◌∷◌, ◌++◌, map, slice_get, Some, None, refl, sym, ap, ◌∙◌, subst}
use Rattle.std.specs.List.{AllByRecursion}
use Rattle.ds2_value.specs.Progress.{Progress, UnitOutcome, Completed, Interrupted, Strayed}
use Rattle.ds2_value.specs.Row.{Row}
use Rattle.ds2_value.specs.Run.{Event}
use Rattle.ds2_value.specs.declared.fault.Fault.{Fault}
use Rattle.ds2_table.specs.Loads.{Load, KeyedLoad, groups}
use Rattle.ds2_schedule.specs.Groups.{UnitRun, Normally, ByFault, with_before, then_from, run_loads, IsSameRun, IsSameEnd}
use Rattle.ds2_schedule.specs.Schedule.{Agree}
use Rattle.ds2_meaning.specs.declared.readings.Reading.{Reading}
use Rattle.ds2_meaning.specs.declared.readings.Reading.TheVariants.{Nothing, Once, Set, Merge, From}
use Rattle.ds2_meaning.specs.Location.{Storage}
use Rattle.ds2_meaning.specs.ProgramMeaning.{program_units}
use Rattle.ds2_meaning.specs.ProgramTree.{UnitTree}
use Rattle.ds2_meaning.specs.Reading.{InputTables, Settings, input_tables, inputs_of}
use Rattle.ds2_code.specs.CodeLaws.{unit_executed}
use Rattle.ds2_code.specs.CodeUnit.{code_run, code_term}
use Rattle.ds2_code.specs.Desk.{ProgramData}
use Rattle.ds2_gen.specs.GenLaws.{way_meant}
use Rattle.ds2_program_code.specs.LoadSettings.{slot_settings, table_load, stage_load}
use Rattle.ds2_program_code.specs.ProgramCode.{program_code}
use Rattle.ds2_program_code.specs.ProgramRuns.{HoldsProgram, EndsLikeUnit, RunsLikeUnit, UnitsRunAsMeant, TypedUnitsRunAsMeant}
use Rattle.ds2_program_code.specs.CountsByWay.{RunsCountByWay, CountsByWay, TypedUnitsCountByWay}
use Rattle.ds2_locality.specs.Independence.{UnitsGave, earlier_fault, gave_then, unit_ended, LocatedLoad, located, settings_at, seen_way, thread_stage, loads_of_tables, located_group, IsTableGroup, IsRowGroup, IsGroupOfReading, fixed_locations, IsIndependentAt}
use Rattle.ds2_locality.specs.Soundness.{LocalIsIndependent}
use Rattle.ds2_same_meaning.specs.CodeIndependence.{seen_count, coded_stage, AreSameCodeRuns, IsCodeIndependentAt, LocalCodeIsIndependent}

-- what a run of units saw of their courses
abbrev courses_of : {C W : Type 0} → UnitRun C (UnitsGave W) → List W
courses_of (Normally c o) = o.courses
courses_of (ByFault o) = o.courses

-- the same rows, lines and fault
record GaveAlike (o : UnitsGave ℕ) (g : UnitsGave (List Event)) : Type 0 where
  rows : o.rows ≡ g.rows
  lines : o.lines ≡ g.lines
  fault : o.fault ≡ g.fault

joined_alike : (a b : UnitsGave ℕ) (g h : UnitsGave (List Event)) → GaveAlike a g → GaveAlike b h → GaveAlike (gave_then a b) (gave_then g h)
joined_alike a b g h x y = record {
  rows = ap (λ z. z ++ b.rows) x.rows ∙ ap (λ z. g.rows ++ z) y.rows;
  lines = ap (λ z. z ++ b.lines) x.lines ∙ ap (λ z. g.lines ++ z) y.lines;
  fault = ap (λ z. earlier_fault z b.fault) x.fault ∙ ap (λ z. earlier_fault g.fault z) y.fault;
}

-- two that give the same but for their courses, and of which these are the same
same_gave : (o q : UnitsGave ℕ) (g h : UnitsGave (List Event)) → GaveAlike o g → GaveAlike q h → g ≡ h → o.courses ≡ q.courses → o ≡ q
same_gave o q g h x y same courses =
    let rows : o.rows ≡ q.rows = x.rows ∙ ap (λ (z : UnitsGave (List Event)). z.rows) same ∙ sym y.rows in
    let lines : o.lines ≡ q.lines = x.lines ∙ ap (λ (z : UnitsGave (List Event)). z.lines) same ∙ sym y.lines in
    let fault : o.fault ≡ q.fault = x.fault ∙ ap (λ (z : UnitsGave (List Event)). z.fault) same ∙ sym y.fault in
    λ i. record { rows = rows i; lines = lines i; courses = courses i; fault = fault i }

module _ (p : UnitTree) where
  abbrev RunAlike : UnitRun ProgramData (UnitsGave ℕ) → UnitRun Storage (UnitsGave (List Event)) → Type 0
  RunAlike (Normally s o) (Normally k g) = GaveAlike o g × HoldsProgram p k s
  RunAlike (Normally s o) (ByFault g) = ⊥
  RunAlike (ByFault o) (Normally k g) = ⊥
  RunAlike (ByFault o) (ByFault g) = GaveAlike o g

  unit_alike : (x : UnitOutcome ProgramData) (y : UnitOutcome Storage) → EndsLikeUnit p x y → RunAlike (unit_ended seen_count x) (unit_ended seen_way y)
  unit_alike (Completed s q n) (Completed k r m) e = (record { rows = ap (λ (z : Progress). z.rows) e.0; lines = ap (λ (z : Progress). z.lines) e.0; fault = refl }, e.1)
  unit_alike (Completed s q n) (Interrupted f r m) e = absurd e
  unit_alike (Completed s q n) Strayed e = absurd e
  unit_alike (Interrupted f q n) (Completed k r m) e = absurd e
  unit_alike (Interrupted f q n) (Interrupted other r m) e = record {
    rows = ap (λ (z : Progress). z.rows) e.1;
    lines = ap (λ (z : Progress). z.lines) e.1;
    fault = ap (λ (z : Fault). Some (z, q.place)) e.0 ∙ ap (λ (z : Progress). Some (other, z.place)) e.1;
  }
  unit_alike (Interrupted f q n) Strayed e = absurd e
  unit_alike Strayed y e = absurd e

  before_alike : (o : UnitsGave ℕ) (g : UnitsGave (List Event)) (x : UnitRun ProgramData (UnitsGave ℕ)) (y : UnitRun Storage (UnitsGave (List Event))) → GaveAlike o g → RunAlike x y
      → RunAlike (with_before (coded_stage p) o x) (with_before (thread_stage p) g y)
  before_alike o g (Normally s a) (Normally k b) h e = (joined_alike o a g b h e.0, e.1)
  before_alike o g (Normally s a) (ByFault b) h e = absurd e
  before_alike o g (ByFault a) (Normally k b) h e = absurd e
  before_alike o g (ByFault a) (ByFault b) h e = joined_alike o a g b h e

  then_alike : (x : UnitRun ProgramData (UnitsGave ℕ)) (y : UnitRun Storage (UnitsGave (List Event))) (go : ProgramData → UnitRun ProgramData (UnitsGave ℕ)) (meant : Storage → UnitRun Storage (UnitsGave (List Event)))
      → RunAlike x y → ((s : ProgramData) (k : Storage) → HoldsProgram p k s → RunAlike (go s) (meant k)) → RunAlike (then_from (coded_stage p) x go) (then_from (thread_stage p) y meant)
  then_alike (Normally s o) (Normally k g) go meant e rest = before_alike o g (go s) (meant k) e.0 (rest s k e.1)
  then_alike (Normally s o) (ByFault g) go meant e rest = absurd e
  then_alike (ByFault o) (Normally k g) go meant e rest = absurd e
  then_alike (ByFault o) (ByFault g) go meant e rest = e

  -- ---- courses

  behind_count : (o : UnitsGave ℕ) (x : UnitRun ProgramData (UnitsGave ℕ)) → courses_of (with_before (coded_stage p) o x) ≡ o.courses ++ courses_of x
  behind_count o (Normally s a) = refl
  behind_count o (ByFault a) = refl

  behind_way : (g : UnitsGave (List Event)) (y : UnitRun Storage (UnitsGave (List Event))) → courses_of (with_before (thread_stage p) g y) ≡ g.courses ++ courses_of y
  behind_way g (Normally k b) = refl
  behind_way g (ByFault b) = refl

  -- what is seen behind a unit
  abbrev counts_behind : UnitOutcome ProgramData → (ProgramData → UnitRun ProgramData (UnitsGave ℕ)) → List ℕ
  counts_behind (Completed s q n) go = courses_of (go s)
  counts_behind (Interrupted f q n) go = []
  counts_behind Strayed go = []

  abbrev ways_behind : UnitOutcome Storage → (Storage → UnitRun Storage (UnitsGave (List Event))) → List (List Event)
  ways_behind (Completed k r m) go = courses_of (go k)
  ways_behind (Interrupted f r m) go = []
  ways_behind Strayed go = []

  counts_are : (x : UnitOutcome ProgramData) (y : UnitOutcome Storage) (go : ProgramData → UnitRun ProgramData (UnitsGave ℕ)) → EndsLikeUnit p x y
      → courses_of (then_from (coded_stage p) (unit_ended seen_count x) go) ≡ unit_executed x ∷ counts_behind x go
  counts_are (Completed s q n) y go e = behind_count (record { rows = q.rows; lines = q.lines; courses = n ∷ []; fault = None }) (go s)
  counts_are (Interrupted f q n) y go e = refl
  counts_are Strayed y go e = absurd e

  ways_are : (x : UnitOutcome ProgramData) (y : UnitOutcome Storage) (go : Storage → UnitRun Storage (UnitsGave (List Event))) → EndsLikeUnit p x y
      → courses_of (then_from (thread_stage p) (unit_ended seen_way y) go) ≡ way_meant y ∷ ways_behind y go
  ways_are x (Completed k r m) go e = behind_way (record { rows = r.rows; lines = r.lines; courses = r.way ∷ []; fault = None }) (go k)
  ways_are x (Interrupted f r m) go e = refl
  ways_are (Completed s q n) Strayed go e = absurd e
  ways_are (Interrupted f q n) Strayed go e = absurd e
  ways_are Strayed Strayed go e = absurd e

  one_count : (x : UnitOutcome ProgramData) (y : UnitOutcome Storage) → EndsLikeUnit p x y → courses_of (unit_ended seen_count x) ≡ unit_executed x ∷ []
  one_count (Completed s q n) y e = refl
  one_count (Interrupted f q n) y e = refl
  one_count Strayed y e = absurd e

  one_way : (x : UnitOutcome ProgramData) (y : UnitOutcome Storage) → EndsLikeUnit p x y → courses_of (unit_ended seen_way y) ≡ way_meant y ∷ []
  one_way x (Completed k r m) e = refl
  one_way x (Interrupted f r m) e = refl
  one_way (Completed s q n) Strayed e = absurd e
  one_way (Interrupted f q n) Strayed e = absurd e
  one_way Strayed Strayed e = absurd e

  heads : (v w : List Event) (vs ws : List (List Event)) → v ∷ vs ≡ w ∷ ws → (v ≡ w) × (vs ≡ ws)
  heads v w vs ws e = (cc, cc)

  conses : (m n : ℕ) (ms ns : List ℕ) → m ≡ n → ms ≡ ns → m ∷ ms ≡ n ∷ ns
  conses m n ms ns e f = ap (λ z. z ∷ ms) e ∙ ap (λ zs. n ∷ zs) f

  -- ---- loads of one kind

  module _ (Kind : LocatedLoad → Type 0) (like : (load : LocatedLoad) → Kind load → RunsLikeUnit p (settings_at load))
      (count : (load next : LocatedLoad) → Kind load → Kind next → RunsCountByWay p (program_code p) (settings_at load) (settings_at next)) (budget : ℕ) where
    abbrev coded : LocatedLoad → ProgramData → UnitOutcome ProgramData
    coded load state = code_run (program_code p) budget (slot_settings p (settings_at load)) state

    abbrev meant : LocatedLoad → Storage → UnitOutcome Storage
    meant load kept = (program_units p budget).run (settings_at load) kept

    abbrev all_coded : List LocatedLoad → ProgramData → UnitRun ProgramData (UnitsGave ℕ)
    all_coded loads state = run_loads (coded_stage p) budget loads state

    abbrev all_meant : List LocatedLoad → Storage → UnitRun Storage (UnitsGave (List Event))
    all_meant loads kept = run_loads (thread_stage p) budget loads kept

    loads_alike : (ls : List LocatedLoad) → AllByRecursion Kind ls → (kept : Storage) (state : ProgramData) → HoldsProgram p kept state → RunAlike (all_coded ls state) (all_meant ls kept)
    loads_alike [] kinds kept state holds = (record { rows = refl; lines = refl; fault = refl }, holds)
    loads_alike (l ∷ ls) kinds kept state holds =
        then_alike (unit_ended seen_count (coded l state)) (unit_ended seen_way (meant l kept)) (all_coded ls) (all_meant ls) (unit_alike (coded l state) (meant l kept) (like l kinds.0 budget kept state holds))
        (λ s k h. loads_alike ls kinds.1 k s h)

    -- no unit ran
    nothing_ran : (ls : List LocatedLoad) → AllByRecursion Kind ls → (kept : Storage) (state : ProgramData) → HoldsProgram p kept state → courses_of (all_meant ls kept) ≡ [] → courses_of (all_coded ls state) ≡ []
    nothing_ran [] kinds kept state holds e = refl
    nothing_ran (l ∷ ls) kinds kept state holds e =
        let none : way_meant (meant l kept) ∷ ways_behind (meant l kept) (all_meant ls) ≡ [] = sym (ways_are (coded l state) (meant l kept) (all_meant ls) (like l kinds.0 budget kept state holds)) ∙ e in
        absurd (no_cons (way_meant (meant l kept)) (ways_behind (meant l kept) (all_meant ls)) none)
      where
        no_cons : (v : List Event) (vs : List (List Event)) → v ∷ vs ≡ [] → ⊥
        no_cons v vs f = cc

    behind_same : (ls ks : List LocatedLoad) (x : UnitOutcome ProgramData) (y : UnitOutcome Storage) (u : UnitOutcome ProgramData) (v : UnitOutcome Storage) → EndsLikeUnit p x y → EndsLikeUnit p u v
        → ((k m : Storage) (s t : ProgramData) → HoldsProgram p k s → HoldsProgram p m t → courses_of (all_meant ls k) ≡ courses_of (all_meant ks m) → courses_of (all_coded ls s) ≡ courses_of (all_coded ks t))
        → ((k : Storage) (s : ProgramData) → HoldsProgram p k s → courses_of (all_meant ls k) ≡ [] → courses_of (all_coded ls s) ≡ [])
        → ((k : Storage) (s : ProgramData) → HoldsProgram p k s → courses_of (all_meant ks k) ≡ [] → courses_of (all_coded ks s) ≡ [])
        → ways_behind y (all_meant ls) ≡ ways_behind v (all_meant ks) → counts_behind x (all_coded ls) ≡ counts_behind u (all_coded ks)
    behind_same ls ks (Completed s q n) (Completed k r m) (Completed t a b) (Completed l c d) e f both left right same = both k l s t e.1 f.1 same
    behind_same ls ks (Completed s q n) (Completed k r m) (Interrupted t a b) (Interrupted l c d) e f both left right same = left k s e.1 same
    behind_same ls ks (Interrupted s q n) (Interrupted k r m) (Completed t a b) (Completed l c d) e f both left right same = sym (right l t f.1 (sym same))
    behind_same ls ks (Interrupted s q n) (Interrupted k r m) (Interrupted t a b) (Interrupted l c d) e f both left right same = refl
    behind_same ls ks (Completed s q n) (Interrupted k r m) u v e f both left right same = absurd e
    behind_same ls ks (Completed s q n) Strayed u v e f both left right same = absurd e
    behind_same ls ks (Interrupted s q n) (Completed k r m) u v e f both left right same = absurd e
    behind_same ls ks (Interrupted s q n) Strayed u v e f both left right same = absurd e
    behind_same ls ks Strayed y u v e f both left right same = absurd e
    behind_same ls ks (Completed s q n) (Completed k r m) (Completed t a b) (Interrupted l c d) e f both left right same = absurd f
    behind_same ls ks (Completed s q n) (Completed k r m) (Completed t a b) Strayed e f both left right same = absurd f
    behind_same ls ks (Completed s q n) (Completed k r m) (Interrupted t a b) (Completed l c d) e f both left right same = absurd f
    behind_same ls ks (Completed s q n) (Completed k r m) (Interrupted t a b) Strayed e f both left right same = absurd f
    behind_same ls ks (Completed s q n) (Completed k r m) Strayed v e f both left right same = absurd f
    behind_same ls ks (Interrupted s q n) (Interrupted k r m) (Completed t a b) (Interrupted l c d) e f both left right same = absurd f
    behind_same ls ks (Interrupted s q n) (Interrupted k r m) (Completed t a b) Strayed e f both left right same = absurd f
    behind_same ls ks (Interrupted s q n) (Interrupted k r m) (Interrupted t a b) (Completed l c d) e f both left right same = absurd f
    behind_same ls ks (Interrupted s q n) (Interrupted k r m) (Interrupted t a b) Strayed e f both left right same = absurd f
    behind_same ls ks (Interrupted s q n) (Interrupted k r m) Strayed v e f both left right same = absurd f

    counts_same : (ls ks : List LocatedLoad) → AllByRecursion Kind ls → AllByRecursion Kind ks → (kept changed : Storage) (state second : ProgramData) → HoldsProgram p kept state → HoldsProgram p changed second
        → courses_of (all_meant ls kept) ≡ courses_of (all_meant ks changed) → courses_of (all_coded ls state) ≡ courses_of (all_coded ks second)
    counts_same [] ks kinds others kept changed state second holds held same = sym (nothing_ran ks others changed second held (sym same))
    counts_same (l ∷ ls) [] kinds others kept changed state second holds held same = nothing_ran (l ∷ ls) kinds kept state holds same
    counts_same (l ∷ ls) (k ∷ ks) kinds others kept changed state second holds held same =
        let x = coded l state in
        let y = meant l kept in
        let u = coded k second in
        let v = meant k changed in
        let e = like l kinds.0 budget kept state holds in
        let f = like k others.0 budget changed second held in
        let parts = heads (way_meant y) (way_meant v) (ways_behind y (all_meant ls)) (ways_behind v (all_meant ks)) (sym (ways_are x y (all_meant ls) e) ∙ same ∙ ways_are u v (all_meant ks) f) in
        counts_are x y (all_coded ls) e
        ∙ conses (unit_executed x) (unit_executed u) (counts_behind x (all_coded ls)) (counts_behind u (all_coded ks))
        (count l k kinds.0 others.0 budget budget kept changed state second holds held parts.0)
        (behind_same ls ks x y u v e f (λ a b s t h i g. counts_same ls ks kinds.1 others.1 a b s t h i g) (λ a s h g. nothing_ran ls kinds.1 a s h g) (λ a s h g. nothing_ran ks others.1 a s h g) parts.1)
        ∙ sym (counts_are u v (all_coded ks) f)

  -- ---- two runs

  same_runs : (kept changed : Storage) (a b : UnitRun Storage (UnitsGave (List Event))) (x y : UnitRun ProgramData (UnitsGave ℕ)) → IsSameRun (Agree (fixed_locations p)) kept changed a b → RunAlike x a → RunAlike y b
      → (courses_of a ≡ courses_of b → courses_of x ≡ courses_of y) → AreSameCodeRuns p kept changed x y
  same_runs kept changed (Normally k g) (Normally m h) (Normally s o) (Normally t q) same e f count = (
    same_gave o q g h e.0 f.0 same.0 (count (ap (λ (z : UnitsGave (List Event)). z.courses) same.0)),
    record { kept = k; holds = e.1; agrees = same.1 },
    record { kept = m; holds = f.1; agrees = same.2 },
  )
  same_runs kept changed (Normally k g) (Normally m h) (Normally s o) (ByFault q) same e f count = absurd f
  same_runs kept changed (Normally k g) (Normally m h) (ByFault o) y same e f count = absurd e
  same_runs kept changed (Normally k g) (ByFault h) x y same e f count = absurd same
  same_runs kept changed (ByFault g) (Normally m h) x y same e f count = absurd same
  same_runs kept changed (ByFault g) (ByFault h) (Normally s o) y same e f count = absurd e
  same_runs kept changed (ByFault g) (ByFault h) (ByFault o) (Normally t q) same e f count = absurd f
  same_runs kept changed (ByFault g) (ByFault h) (ByFault o) (ByFault q) same e f count = same_gave o q g h e f same (count (ap (λ (z : UnitsGave (List Event)). z.courses) same))

  same_ends : (a b : UnitRun Storage (UnitsGave (List Event))) (x y : UnitRun ProgramData (UnitsGave ℕ)) → IsSameEnd a b → RunAlike x a → RunAlike y b → (courses_of a ≡ courses_of b → courses_of x ≡ courses_of y) → IsSameEnd x y
  same_ends (Normally k g) (Normally m h) (Normally s o) (Normally t q) same e f count = same_gave o q g h e.0 f.0 same (count (ap (λ (z : UnitsGave (List Event)). z.courses) same))
  same_ends (Normally k g) (Normally m h) (Normally s o) (ByFault q) same e f count = absurd f
  same_ends (Normally k g) (Normally m h) (ByFault o) y same e f count = absurd e
  same_ends (Normally k g) (ByFault h) x y same e f count = absurd same
  same_ends (ByFault g) (Normally m h) x y same e f count = absurd same
  same_ends (ByFault g) (ByFault h) (Normally s o) y same e f count = absurd e
  same_ends (ByFault g) (ByFault h) (ByFault o) (Normally t q) same e f count = absurd f
  same_ends (ByFault g) (ByFault h) (ByFault o) (ByFault q) same e f count = same_gave o q g h e f same (count (ap (λ (z : UnitsGave (List Event)). z.courses) same))

  -- ---- the loads of a group

  abbrev pub IsTableLoad : LocatedLoad → Type 0
  IsTableLoad load = (tables : InputTables) × (l : Load) × (settings_at load ≡ table_load p tables l)

  abbrev pub IsRowLoad : LocatedLoad → Type 0
  IsRowLoad load = (row : Row) × (settings_at load ≡ stage_load p row)

  settings_back : (settings : Settings) → settings_at (located settings) ≡ settings
  settings_back [] = refl
  settings_back (set ∷ settings) = ap (λ rest. set ∷ rest) (settings_back settings)

  mapped_at : {A B : Type 0} (f : A → B) (xs : List A) (g : ℕ) (y : B) → slice_get (map f xs) g ≡ Some y → (z : A) × (f z ≡ y)
  mapped_at f [] g y e = absurd cc
  mapped_at f (x ∷ xs) zero y e = (x, cc)
  mapped_at f (x ∷ xs) (suc g) y e = mapped_at f xs g y e

  table_loads : (tables : InputTables) (group : List KeyedLoad) → AllByRecursion IsTableLoad (map (λ (l : KeyedLoad). located (table_load p tables l.load)) group)
  table_loads tables [] = tt
  table_loads tables (l ∷ group) = ((tables, l.load, settings_back (table_load p tables l.load)), table_loads tables group)

  pub over_tables : (grain : ℕ) (loads : List LocatedLoad) → IsTableGroup p grain loads → AllByRecursion IsTableLoad loads
  over_tables grain loads g =
      let found = mapped_at (located_group p g.tables) (groups grain (loads_of_tables p g.tables)) g.among.0 loads g.among.1 in
      subst (AllByRecursion IsTableLoad) found.1 (table_loads (input_tables g.tables (inputs_of p.reading)) found.0)

  pub of_row : (loads : List LocatedLoad) → IsRowGroup p loads → AllByRecursion IsRowLoad loads
  of_row loads g = subst (AllByRecursion IsRowLoad) (sym g.is) ((g.row, settings_back (stage_load p g.row)), tt)

  module _ (runs : UnitsRunAsMeant p) (counts : CountsByWay p (program_code p)) where
    table_like : (load : LocatedLoad) → IsTableLoad load → RunsLikeUnit p (settings_at load)
    table_like load h = subst (RunsLikeUnit p) (sym h.2) (runs.over_tables h.0 h.1)

    row_like : (load : LocatedLoad) → IsRowLoad load → RunsLikeUnit p (settings_at load)
    row_like load h = subst (RunsLikeUnit p) (sym h.1) (runs.of_rows h.0)

    table_counts : (load next : LocatedLoad) → IsTableLoad load → IsTableLoad next → RunsCountByWay p (program_code p) (settings_at load) (settings_at next)
    table_counts load next h k =
        subst (λ z. RunsCountByWay p (program_code p) z (settings_at next)) (sym h.2) (subst (λ z. RunsCountByWay p (program_code p) (table_load p h.0 h.1) z) (sym k.2) (counts.over_tables h.0 k.0 h.1 k.1))

    row_counts : (load next : LocatedLoad) → IsRowLoad load → IsRowLoad next → RunsCountByWay p (program_code p) (settings_at load) (settings_at next)
    row_counts load next h k =
        subst (λ z. RunsCountByWay p (program_code p) z (settings_at next)) (sym h.1) (subst (λ z. RunsCountByWay p (program_code p) (stage_load p h.0) z) (sym k.1) (counts.of_rows h.0 k.0))

    module _ (budget : ℕ) (ls ks : List LocatedLoad) (kept changed : Storage) (state second : ProgramData) (holds : HoldsProgram p kept state) (held : HoldsProgram p changed second)
        (same : IsSameRun (Agree (fixed_locations p)) kept changed (run_loads (thread_stage p) budget ls kept) (run_loads (thread_stage p) budget ks changed)) where
      of_kind : (Kind : LocatedLoad → Type 0) → ((load : LocatedLoad) → Kind load → RunsLikeUnit p (settings_at load))
          → ((load next : LocatedLoad) → Kind load → Kind next → RunsCountByWay p (program_code p) (settings_at load) (settings_at next)) → AllByRecursion Kind ls → AllByRecursion Kind ks
          → AreSameCodeRuns p kept changed (run_loads (coded_stage p) budget ls state) (run_loads (coded_stage p) budget ks second)
      of_kind Kind like count kinds others =
          same_runs kept changed (run_loads (thread_stage p) budget ls kept) (run_loads (thread_stage p) budget ks changed) (run_loads (coded_stage p) budget ls state) (run_loads (coded_stage p) budget ks second) same
          (loads_alike Kind like count budget ls kinds kept state holds) (loads_alike Kind like count budget ks others changed second held)
          (λ e. counts_same Kind like count budget ls ks kinds others kept changed state second holds held e)

      by_reading : (r : Reading) (grain : ℕ) → IsGroupOfReading r p grain ls → IsGroupOfReading r p grain ks → AreSameCodeRuns p kept changed (run_loads (coded_stage p) budget ls state) (run_loads (coded_stage p) budget ks second)
      by_reading Nothing grain g h = of_kind IsTableLoad table_like table_counts (over_tables grain ls g) (over_tables grain ks h)
      by_reading Once grain g h = of_kind IsTableLoad table_like table_counts (over_tables grain ls g) (over_tables grain ks h)
      by_reading (Set inputs bys) grain g h = of_kind IsTableLoad table_like table_counts (over_tables grain ls g) (over_tables grain ks h)
      by_reading (Merge inputs bys retains) grain g h = of_kind IsTableLoad table_like table_counts (over_tables grain ls g) (over_tables grain ks h)
      by_reading (From instance workers columns) grain g h = of_kind IsRowLoad row_like row_counts (of_row ls g) (of_row ks h)

    -- ---- `term`

    term_counts : (budget : ℕ) (kept changed : Storage) (state second : ProgramData) → HoldsProgram p kept state → HoldsProgram p changed second
        → courses_of (unit_ended seen_way ((program_units p budget).term kept)) ≡ courses_of (unit_ended seen_way ((program_units p budget).term changed))
        → courses_of (unit_ended seen_count (code_term (program_code p) budget state)) ≡ courses_of (unit_ended seen_count (code_term (program_code p) budget second))
    term_counts budget kept changed state second holds held same =
        let x = code_term (program_code p) budget state in
        let y = (program_units p budget).term kept in
        let u = code_term (program_code p) budget second in
        let v = (program_units p budget).term changed in
        let e = runs.in_term budget kept state holds in
        let f = runs.in_term budget changed second held in
        let parts = heads (way_meant y) (way_meant v) [] [] (sym (one_way x y e) ∙ same ∙ one_way u v f) in
        one_count x y e ∙ conses (unit_executed x) (unit_executed u) [] [] (counts.in_term budget budget kept changed state second holds held parts.0) refl ∙ sym (one_count u v f)

    terms_same : (budget : ℕ) (kept changed : Storage) (state second : ProgramData) → HoldsProgram p kept state → HoldsProgram p changed second
        → IsSameEnd ((thread_stage p).term budget kept) ((thread_stage p).term budget changed) → IsSameEnd ((coded_stage p).term budget state) ((coded_stage p).term budget second)
    terms_same budget kept changed state second holds held same =
        same_ends ((thread_stage p).term budget kept) ((thread_stage p).term budget changed) ((coded_stage p).term budget state) ((coded_stage p).term budget second) same
        (unit_alike (code_term (program_code p) budget state) ((program_units p budget).term kept) (runs.in_term budget kept state holds))
        (unit_alike (code_term (program_code p) budget second) ((program_units p budget).term changed) (runs.in_term budget changed second held))
        (term_counts budget kept changed state second holds held)

    code_independent : (grain : ℕ) → IsIndependentAt p grain → IsCodeIndependentAt p grain
    code_independent grain free = record {
      groups = λ budget ls ks kept changed state second holds held gl gk alike agree.
          by_reading budget ls ks kept changed state second holds held (free.groups budget ls ks kept changed gl gk alike agree) p.reading grain gl gk;
      terms = λ budget kept changed state second holds held agree. terms_same budget kept changed state second holds held (free.terms budget kept changed agree);
    }

pub local_code_is_independent : LocalIsIndependent → TypedUnitsRunAsMeant → TypedUnitsCountByWay → LocalCodeIsIndependent
local_code_is_independent sound runs counts t typed told grain local = code_independent t.program (runs t.program typed) (counts t.program typed) grain (sound t typed told grain local)
