-- Two groups at a grain, from any two states that agree on the fixed locations, where the rules hold at the grain.
use Rattle.std.proofs.Common.{◌≡◌, ℕ, Bool, true, false, not, ◌&&◌, List, [], ◌∷◌, length, None, refl, sym, ap, ◌∙◌, subst, if◌then◌else◌}
use Rattle.std.specs.List.{AllByRecursion, range_with_len}
use Rattle.std.specs.Prelude.{pos}
use Rattle.std.proofs.lemmas.Bool.{true≢false}
use Rattle.ds2_base.specs.declared.place.Place.{Place}
use Rattle.ds2_value.specs.Progress.{UnitOutcome}
use Rattle.ds2_value.specs.Run.{Event}
use Rattle.ds2_value.specs.declared.value.Value.TheVariants.{Null, Int}
use Rattle.ds2_schedule.specs.Groups.{UnitRun, Normally, ByFault, with_before, then_from, run_loads, IsSameRun, SameButEarly, AreSameButEarly}
use Rattle.ds2_schedule.specs.Schedule.{Agree}
use Rattle.ds2_meaning.specs.Location.{Location, Storage, Holds}
use Rattle.ds2_meaning.specs.ProgramMeaning.{carry_out, unit_end, implicit_output, is_cleared_at, with_cleared}
use Rattle.ds2_meaning.specs.ProgramTree.{UnitTree, program_has_output}
use Rattle.ds2_meaning.specs.Reading.{with_settings}
use Rattle.ds2_meaning.specs.TypedStatement.{TypedStatements, Finish, Next}
use Rattle.ds2_locality.specs.Deeds.{number_of_methods, system_scope, columns_written, run_can_change}
use Rattle.ds2_locality.specs.Independence.{UnitsGave, gave_then, unit_ended, LocatedLoad, settings_at, seen_way, thread_stage, fixed_locations, LeavesFixed}
use Rattle.ds2_locality.specs.KeptLocations.{is_column_or_flag, seen_at, is_flag_before}
use Rattle.ds2_locality.specs.Verdict.{JudgedThread, walk_method, is_cell, past_run, walk_run, known_first, first_walk, second_walk, ground_of_walk, ground_at, ground_of_term}
use Rattle.ds2_locality.specs.Walk.{DirtySet, no_flag, united, WalkEnd, FailsAt, GoesOn, then_walk, read_locations, WaysOut, at_end, WalkScope, walk_all}
use Rattle.ds2_locality.proofs.Near.{Below, left_clean, right_clean}
use Rattle.ds2_locality.proofs.SameUnits.{Stands, AlikeOutside, SameUnit, complete, interrupt, UnitAt, unit_same, load_sets, IsOwnLoad, loads_alike}
use Rattle.ds2_locality.proofs.Walks.{Mentioned, method_within}
use Rattle.ds2_locality.proofs.Within.{WithinAt, WaysWithin, united_below, reads_within, body_within}

-- ---- the walk over `run` dirties nothing

module _ (t : JudgedThread) (known : Location → Bool) (d : DirtySet) where
  output_by : (b : Bool) (x : DirtySet) → Below x d
      → WithinAt d (if b then GoesOn x else read_locations t.run_place (columns_written (system_scope t.program) (range_with_len 0 (length t.program.outputs))) x)
  output_by true x b = b
  output_by false x b = reads_within d t.run_place (columns_written (system_scope t.program) (range_with_len 0 (length t.program.outputs))) x b

  run_by : (o : WalkEnd WaysOut) → WaysWithin d o → WithinAt d (then_walk o (λ ways. past_run t (at_end ways)))
  run_by (FailsAt at place) h = tt
  run_by (GoesOn x) h =
      output_by (program_has_output t.program) (at_end x)
      (united_below d x.onward (united x.returns (united x.leaves x.continues)) h.0 (united_below d x.returns (united x.leaves x.continues) h.3 (united_below d x.leaves x.continues h.1 h.2)))

  run_within : (y : DirtySet) → Below y d → WithinAt d (walk_run t known y)
  run_within y b =
      let walks = walk_method t known (number_of_methods t.program) in
      let scope : WalkScope = record { code = system_scope t.program; calls = walks; known = known } in
      run_by (walk_all scope t.program.run.statements y) (body_within d scope (λ m place z c. method_within t known (number_of_methods t.program) d m place z c) t.program.run.statements y b)

-- ---- what several units gave

-- two runs give the same, and leave storages that are seen alike outside of a dirty set
abbrev pub RunSame : UnitTree → DirtySet → UnitRun Storage (UnitsGave (List Event)) → UnitRun Storage (UnitsGave (List Event)) → Type 0
RunSame p d (Normally c o) (Normally e q) = (o ≡ q) × AlikeOutside p d c e
RunSame p d (ByFault o) (ByFault q) = o ≡ q
RunSame p d _ _ = ⊥

module _ (p : UnitTree) where
  unit_runs : (d : DirtySet) (a b : UnitOutcome Storage) → SameUnit p d a b → RunSame p d (unit_ended seen_way a) (unit_ended seen_way b)
  unit_runs d _ _ (complete c e q n alike) = (refl, alike)
  unit_runs d _ _ (interrupt f q n) = refl

  before_same : (d : DirtySet) (o q : UnitsGave (List Event)) (r z : UnitRun Storage (UnitsGave (List Event))) → o ≡ q → RunSame p d r z → RunSame p d (with_before (thread_stage p) o r) (with_before (thread_stage p) q z)
  before_same d o q (Normally c x) (Normally e y) same h = (ap (λ a. gave_then a x) same ∙ ap (gave_then q) h.0, h.1)
  before_same d o q (Normally c x) (ByFault y) same h = absurd h
  before_same d o q (ByFault x) (Normally e y) same h = absurd h
  before_same d o q (ByFault x) (ByFault y) same h = ap (λ a. gave_then a x) same ∙ ap (gave_then q) h

  then_runs : (d x : DirtySet) (r z : UnitRun Storage (UnitsGave (List Event))) (f g : Storage → UnitRun Storage (UnitsGave (List Event))) → RunSame p x r z
      → ((c e : Storage) → AlikeOutside p x c e → RunSame p d (f c) (g e)) → RunSame p d (then_from (thread_stage p) r f) (then_from (thread_stage p) z g)
  then_runs d x (Normally c o) (Normally e q) f g h k = before_same d o q (f c) (g e) h.0 (k c e h.1)
  then_runs d x (Normally c o) (ByFault q) f g h k = absurd h
  then_runs d x (ByFault o) (Normally e q) f g h k = absurd h
  then_runs d x (ByFault o) (ByFault q) f g h k = h

  alike_below : (y d : DirtySet) (c e : Storage) → Below y d → AlikeOutside p y c e → AlikeOutside p d c e
  alike_below y d c e b h at clean = h at (b at clean)

-- ---- the loads of a group

-- the first load of a group sets all columns and flags, and `first` of the BY variable at the grain and of the later ones to 1
pub record BeginsGroup (t : JudgedThread) (grain : ℕ) (load : LocatedLoad) : Type 0 where
  pub whole : (at : Location) → is_column_or_flag t.program.reading at.home at.global ≡ true → load_sets at load ≡ true
  pub ones : (at : Location) → known_first t grain at ≡ true → (c : Storage) → seen_at t.program at (with_settings (settings_at load) c at) ≡ Holds (Int (pos 1))

abbrev pub StartsSo : JudgedThread → ℕ → List LocatedLoad → Type 0
StartsSo t grain [] = Unit {0}
StartsSo t grain (load ∷ loads) = BeginsGroup t grain load

module _ (t : JudgedThread) (all : Mentioned t) (grain : ℕ) (first_stands : Stands t (known_first t grain)) (second_stands : Stands t no_flag) (budget : ℕ) where
  abbrev p : UnitTree
  p = t.program

  abbrev early : Location → Bool
  early at = is_flag_before grain p.reading at

  abbrev ready : LocatedLoad → Storage → Storage
  ready load c = with_settings (settings_at load) (with_cleared p c)

  unset : (b s : Bool) → (b ≡ true → s ≡ true) → s ≡ false → b ≡ false
  unset true s f e = absurd (true≢false (sym (f refl) ∙ e))
  unset false s f e = refl

  -- what a state holds at a location that the first load does not set, and that is neither dirty nor early
  kept_by : (cleared changed : Bool) (at : Location) (c e : Storage) → (not cleared && changed) ≡ false → ((not cleared && not changed) ≡ true → seen_at p at (c at) ≡ seen_at p at (e at))
      → seen_at p at (if cleared then Holds Null else c at) ≡ seen_at p at (if cleared then Holds Null else e at)
  kept_by true changed at c e cell agree = refl
  kept_by false true at c e cell agree = absurd (true≢false cell)
  kept_by false false at c e cell agree = agree refl

  held_by : (column cleared changed : Bool) (at : Location) (c e : Storage) → column ≡ false → ((not column && not cleared) && changed) ≡ false
      → (((not column && not cleared) && not changed) ≡ true → seen_at p at (c at) ≡ seen_at p at (e at))
      → seen_at p at (if cleared then Holds Null else c at) ≡ seen_at p at (if cleared then Holds Null else e at)
  held_by true cleared changed at c e column cell agree = absurd (true≢false column)
  held_by false cleared changed at c e column cell agree = kept_by cleared changed at c e cell agree

  first_alike : (l k : LocatedLoad) (c e : Storage) → BeginsGroup t grain l → IsOwnLoad l → SameButEarly early l k → Agree (fixed_locations p) c e
      → AlikeOutside p (united (is_cell p) (is_flag_before grain p.reading)) (ready l c) (ready k e)
  first_alike l k c e begins own same agree at clean =
      loads_alike p early l k (with_cleared p c) (with_cleared p e) at own same (right_clean (is_cell p at) (early at) clean)
      (λ none. held_by (is_column_or_flag p.reading at.home at.global) (is_cleared_at p at.home at.global) (run_can_change p at) at c e
      (unset (is_column_or_flag p.reading at.home at.global) (load_sets at l) (begins.whole at) none) (left_clean (is_cell p at) (early at) clean) (λ fixed. agree at fixed))

  cleared_alike : (b : Bool) (at : Location) (c e : Storage) → seen_at p at (c at) ≡ seen_at p at (e at) → seen_at p at (if b then Holds Null else c at) ≡ seen_at p at (if b then Holds Null else e at)
  cleared_alike true at c e h = refl
  cleared_alike false at c e h = h

  later_alike : (d : DirtySet) (l k : LocatedLoad) (c e : Storage) → Below early d → IsOwnLoad l → SameButEarly early l k → AlikeOutside p d c e → AlikeOutside p d (ready l c) (ready k e)
  later_alike d l k c e below own same h at clean =
      loads_alike p early l k (with_cleared p c) (with_cleared p e) at own same (below at clean) (λ none. cleared_alike (is_cleared_at p at.home at.global) at c e (h at clean))

  unit_at : (d x : DirtySet) (o : WalkEnd DirtySet) (a b : UnitOutcome Storage) → o ≡ GoesOn x → UnitAt p o a b → SameUnit p x a b
  unit_at d x o a b is h = subst (λ z. UnitAt p z a b) is h

  below_at : (d x : DirtySet) (o : WalkEnd DirtySet) → o ≡ GoesOn x → WithinAt d o → Below x d
  below_at d x o is h = subst (λ z. WithinAt d z) is h

  -- later loads, where the walk from d does not fail
  later_same : (d x : DirtySet) → Below early d → walk_run t no_flag d ≡ GoesOn x → (ls ks : List LocatedLoad) → AllByRecursion IsOwnLoad ls → AreSameButEarly early ls ks → (c e : Storage) → AlikeOutside p d c e
      → RunSame p d (run_loads (thread_stage p) budget ls c) (run_loads (thread_stage p) budget ks e)
  later_same d x below goes [] [] own same c e h = (refl, h)
  later_same d x below goes [] (k ∷ ks) own same c e h = absurd same
  later_same d x below goes (l ∷ ls) [] own same c e h = absurd same
  later_same d x below goes (l ∷ ls) (k ∷ ks) own same c e h =
      let a = unit_end (implicit_output p) (carry_out p p.run budget (ready l c)) in
      let b = unit_end (implicit_output p) (carry_out p p.run budget (ready k e)) in
      then_runs p d x (unit_ended seen_way a) (unit_ended seen_way b) (run_loads (thread_stage p) budget ls) (run_loads (thread_stage p) budget ks)
      (unit_runs p x a b (unit_at d x (walk_run t no_flag d) a b goes
      (unit_same t all no_flag second_stands budget d (ready l c) (ready k e) (later_alike d l k c e below own.0 same.0 h) (λ at known. absurd (true≢false (sym known))))))
      (λ f g m. later_same d x below goes ls ks own.1 same.1 f g (alike_below p x d f g (below_at d x (walk_run t no_flag d) goes (run_within t no_flag d d (λ at z. z))) m))

  -- a group, where the first walk ends with left and the second one does not fail
  group_same : (left x : DirtySet) → first_walk t grain ≡ GoesOn left → second_walk t grain left ≡ GoesOn x → (ls ks : List LocatedLoad) → StartsSo t grain ls → AllByRecursion IsOwnLoad ls → AreSameButEarly early ls ks
      → (c e : Storage) → Agree (fixed_locations p) c e → (d : DirtySet) × RunSame p d (run_loads (thread_stage p) budget ls c) (run_loads (thread_stage p) budget ks e)
  group_same left x goes again [] [] starts own same c e agree = ((λ at. true), (refl, λ at clean. absurd (true≢false clean)))
  group_same left x goes again [] (k ∷ ks) starts own same c e agree = absurd same
  group_same left x goes again (l ∷ ls) [] starts own same c e agree = absurd same
  group_same left x goes again (l ∷ ls) (k ∷ ks) starts own same c e agree =
      let from = united (is_cell p) (is_flag_before grain p.reading) in
      let d = united left (is_flag_before grain p.reading) in
      let a = unit_end (implicit_output p) (carry_out p p.run budget (ready l c)) in
      let b = unit_end (implicit_output p) (carry_out p p.run budget (ready k e)) in (
        d,
        then_runs p d left (unit_ended seen_way a) (unit_ended seen_way b) (run_loads (thread_stage p) budget ls) (run_loads (thread_stage p) budget ks)
            (unit_runs p left a b (unit_at from left (first_walk t grain) a b goes
            (unit_same t all (known_first t grain) first_stands budget from (ready l c) (ready k e) (first_alike l k c e starts own.0 same.0 agree) (λ at known. starts.ones at known (with_cleared p c)))))
            (λ f g m. later_same d x (λ at z. right_clean (left at) (early at) z) again ls ks own.1 same.1 f g (alike_below p left d f g (λ at z. left_clean (left at) (early at) z) m)),
      )

-- the walks do not fail where they have no ground
walks_go : (t : JudgedThread) (grain : ℕ) (o : WalkEnd DirtySet) → ground_of_walk (then_walk o (second_walk t grain)) ≡ None → (left : DirtySet) × (x : DirtySet) × (o ≡ GoesOn left) × (second_walk t grain left ≡ GoesOn x)
walks_go t grain (FailsAt at place) h = absurd cc
walks_go t grain (GoesOn left) h = second (second_walk t grain left) refl h
  where
    second : (o : WalkEnd DirtySet) → second_walk t grain left ≡ o → ground_of_walk o ≡ None → (l : DirtySet) × (x : DirtySet) × (GoesOn left ≡ GoesOn l) × (second_walk t grain l ≡ GoesOn x)
    second (FailsAt at place) e g = absurd cc
    second (GoesOn x) e g = (left, x, refl, e)

-- two runs that give the same, and each leave the fixed locations as they were
joined : (p : UnitTree) (d : DirtySet) (c e : Storage) (r z : UnitRun Storage (UnitsGave (List Event))) → RunSame p d r z → LeavesFixed p c r → LeavesFixed p e z → IsSameRun (Agree (fixed_locations p)) c e r z
joined p d c e (Normally x o) (Normally y q) h f g = (h.0, f, g)
joined p d c e (Normally x o) (ByFault q) h f g = absurd h
joined p d c e (ByFault o) (Normally y q) h f g = absurd h
joined p d c e (ByFault o) (ByFault q) h f g = h

-- where the rules on walks hold at a grain, two groups at it give the same
pub groups_same : (t : JudgedThread) → Mentioned t → (grain : ℕ) → Stands t (known_first t grain) → Stands t no_flag → ground_at t grain ≡ None → (budget : ℕ) (ls ks : List LocatedLoad) → StartsSo t grain ls → AllByRecursion IsOwnLoad ls
    → AreSameButEarly (is_flag_before grain t.program.reading) ls ks → (c e : Storage) → Agree (fixed_locations t.program) c e
    → LeavesFixed t.program c (run_loads (thread_stage t.program) budget ls c) → LeavesFixed t.program e (run_loads (thread_stage t.program) budget ks e)
    → IsSameRun (Agree (fixed_locations t.program)) c e (run_loads (thread_stage t.program) budget ls c) (run_loads (thread_stage t.program) budget ks e)
groups_same t all grain first second none budget ls ks starts own same c e agree f g =
    let w = walks_go t grain (first_walk t grain) none in
    let h = group_same t all grain first second budget w.0 w.1 w.2 w.3 ls ks starts own same c e agree in
    joined t.program h.0 c e (run_loads (thread_stage t.program) budget ls c) (run_loads (thread_stage t.program) budget ks e) h.1 f g

-- `term` without statements
pub no_statement : (place : Place) (s : TypedStatements) → ground_of_term place s ≡ None → s ≡ Finish
no_statement place Finish e = refl
no_statement place (Next first rest) e = absurd cc
