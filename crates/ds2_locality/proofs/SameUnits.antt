-- Two runs of a unit, and of the loads of a group, from states that agree outside of a dirty set.
use Rattle.std.proofs.Common.{◌≡◌, ℕ, Bool, true, false, ◌||◌, [], ◌∷◌, length, None, refl, sym, ap, ◌∙◌, subst, arith, if◌then◌else◌}
use Rattle.std.specs.List.{AllByRecursion, list_any, range_with_len}
use Rattle.std.specs.Prelude.{pos}
use Rattle.ds2_value.specs.Progress.{Progress, UnitOutcome, Completed, Interrupted}
use Rattle.ds2_value.specs.declared.fault.Fault.{Fault}
use Rattle.ds2_value.specs.declared.fault.TheConstants.{CALL_DEPTH}
use Rattle.ds2_value.specs.declared.value.Value.{Value}
use Rattle.ds2_value.specs.declared.value.Value.TheVariants.{Int}
use Rattle.ds2_schedule.specs.Groups.{SameButEarly}
use Rattle.ds2_meaning.specs.Location.{Location, is_same_location, Storage, Holds, with_content}
use Rattle.ds2_meaning.specs.Execution.{write_each}
use Rattle.ds2_meaning.specs.Invocation.{invoke}
use Rattle.ds2_meaning.specs.ProgramMeaning.{carry_out, unit_end, unit_state, completed_by, implicit_output}
use Rattle.ds2_meaning.specs.ProgramTree.{UnitTree, declarations_of, output_sources, program_has_output}
use Rattle.ds2_meaning.specs.Reading.{with_settings}
use Rattle.ds2_meaning.specs.RunState.{RunState, StatementOutcome}
use Rattle.ds2_locality.specs.Deeds.{global_at, system_scope, body_deeds, columns_written, number_of_methods}
use Rattle.ds2_locality.specs.Independence.{LocatedLoad, settings_at}
use Rattle.ds2_locality.specs.KeptLocations.{seen_at, seen_content}
use Rattle.ds2_locality.specs.Verdict.{JudgedThread, walk_method, past_run, walk_run}
use Rattle.ds2_locality.specs.Walk.{DirtySet, WalkEnd, FailsAt, GoesOn, then_walk, read_locations, WaysOut, at_end, walk_all, WalkScope}
use Rattle.ds2_locality.proofs.Frame.{location_is, AreAllowed, Any}
use Rattle.ds2_locality.proofs.Near.{Free, IsValueAt, Near, near_below, SameStatement, proceed, leave, continue', return', fault, StatementAt, reads_alone}
use Rattle.ds2_locality.proofs.Reached.{Safe}
use Rattle.ds2_locality.proofs.SameCalls.{end_on, end_returns, end_leaves, end_continues}
use Rattle.ds2_locality.proofs.SameObjects.{ObjectsStand}
use Rattle.ds2_locality.proofs.SameStatements.{body_same, near_written}
use Rattle.ds2_locality.proofs.Walks.{Mentioned, method_within, calls_sound}

-- what is asked of a thread program for a walk with these flags known
pub record Stands (t : JudgedThread) (known : Location → Bool) : Type 0 where
  pub objects : ObjectsStand t.program known
  pub body : AreAllowed (IsValueAt t.program) Any (Free known) (Safe t.program (IsValueAt t.program) Any (Free known) CALL_DEPTH) (body_deeds (system_scope t.program) t.program.run.statements)
  pub outputs : AllByRecursion (IsValueAt t.program) (columns_written (system_scope t.program) (range_with_len 0 (length t.program.outputs)))

-- two storages are seen alike outside of a dirty set
abbrev pub AlikeOutside : UnitTree → DirtySet → Storage → Storage → Type 0
AlikeOutside p d c e = (at : Location) → d at ≡ false → seen_content p c at ≡ seen_content p e at

-- two units end alike
pub data SameUnit (p : UnitTree) (d : DirtySet) : UnitOutcome Storage → UnitOutcome Storage → Type 0 where
  complete : (c e : Storage) (q : Progress) (n : ℕ) → AlikeOutside p d c e → SameUnit p d (Completed c q n) (Completed e q n)
  interrupt : (f : Fault) (q : Progress) (n : ℕ) → SameUnit p d (Interrupted f q n) (Interrupted f q n)

abbrev pub UnitAt : UnitTree → WalkEnd DirtySet → UnitOutcome Storage → UnitOutcome Storage → Type 0
UnitAt p (FailsAt at place) a b = Unit {0}
UnitAt p (GoesOn x) a b = SameUnit p x a b

module _ (t : JudgedThread) (all : Mentioned t) (known : Location → Bool) (stands : Stands t known) where
  abbrev p : UnitTree
  p = t.program

  abbrev Agree : DirtySet → RunState → RunState → Type 0
  Agree d w u = Near p known d w u

  -- ---- the end of a unit

  ends_alike : (x : DirtySet) (w u : RunState) → Agree x w u → SameUnit p x (Completed w.storage w.progress 0) (Completed u.storage u.progress 0)
  ends_alike x w u n =
      subst (λ (q : Progress). SameUnit p x (Completed w.storage w.progress 0) (Completed u.storage q 0)) n.progress (complete w.storage u.storage w.progress 0 n.alike)

  output_by : (b : Bool) (x : DirtySet) (w u : RunState) → Agree x w u
      → UnitAt p (if b then GoesOn x else read_locations t.run_place (columns_written (system_scope p) (range_with_len 0 (length p.outputs))) x)
      (Completed (if b then w else write_each None (output_sources p) (range_with_len 0 (length p.outputs)) w).storage (if b then w else write_each None (output_sources p) (range_with_len 0 (length p.outputs)) w).progress 0)
      (Completed (if b then u else write_each None (output_sources p) (range_with_len 0 (length p.outputs)) u).storage (if b then u else write_each None (output_sources p) (range_with_len 0 (length p.outputs)) u).progress 0)
  output_by true x w u n = ends_alike x w u n
  output_by false x w u n =
      let ns = range_with_len 0 (length p.outputs) in
      let a = write_each None (output_sources p) ns w in
      let b = write_each None (output_sources p) ns u in
      reads_alone p known t.run_place (columns_written (system_scope p) ns) x (λ o. UnitAt p o (Completed a.storage a.progress 0) (Completed b.storage b.progress 0)) (λ y q. tt)
      (λ clean. ends_alike x a b (near_written p known None (output_sources p) ns x w u stands.outputs clean n))

  completed_alike : (x : DirtySet) (w u : RunState) → Agree x w u → UnitAt p (past_run t x) (completed_by (implicit_output p) w) (completed_by (implicit_output p) u)
  completed_alike x w u n = output_by (program_has_output p) x w u n

  interrupted_at : (o : WalkEnd DirtySet) (f : Fault) (w u : RunState) → w.progress ≡ u.progress → UnitAt p o (Interrupted f w.progress 0) (Interrupted f u.progress 0)
  interrupted_at (FailsAt at place) f w u e = tt
  interrupted_at (GoesOn x) f w u e = subst (λ (q : Progress). SameUnit p x (Interrupted f w.progress 0) (Interrupted f q 0)) e (interrupt f w.progress 0)

  ended_some : (ways : WaysOut) (a b : StatementOutcome) → SameStatement p known ways a b → UnitAt p (past_run t (at_end ways)) (unit_end (implicit_output p) a) (unit_end (implicit_output p) b)
  ended_some ways _ _ (proceed w u n) = completed_alike (at_end ways) w u (near_below p known ways.onward (at_end ways) w u (end_on ways) n)
  ended_some ways _ _ (leave w u n) = completed_alike (at_end ways) w u (near_below p known ways.leaves (at_end ways) w u (end_leaves ways) n)
  ended_some ways _ _ (continue' w u n) = completed_alike (at_end ways) w u (near_below p known ways.continues (at_end ways) w u (end_continues ways) n)
  ended_some ways _ _ (return' v w u n) = completed_alike (at_end ways) w u (near_below p known ways.returns (at_end ways) w u (end_returns ways) n)
  ended_some ways _ _ (fault f w u e) = interrupted_at (past_run t (at_end ways)) f w u e

  ended_at : (o : WalkEnd WaysOut) (a b : StatementOutcome) → StatementAt p known o a b → UnitAt p (then_walk o (λ ways. past_run t (at_end ways))) (unit_end (implicit_output p) a) (unit_end (implicit_output p) b)
  ended_at (FailsAt at place) a b h = tt
  ended_at (GoesOn ways) a b h = ended_some ways a b h

  -- ---- a unit

  -- two runs of the statements of `run`, by the walk over them
  pub unit_same : (budget : ℕ) (d : DirtySet) (c e : Storage) → AlikeOutside p d c e → ((at : Location) → known at ≡ true → seen_at p at (c at) ≡ Holds (Int (pos 1)))
      → UnitAt p (walk_run t known d) (unit_end (implicit_output p) (carry_out p p.run budget c)) (unit_end (implicit_output p) (carry_out p p.run budget e))
  unit_same budget d c e alike ones =
      let walks = walk_method t known (number_of_methods p) in
      let scope : WalkScope = record { code = system_scope p; calls = walks; known = known } in
      ended_at (walk_all scope p.run.statements d) (carry_out p p.run budget c) (carry_out p p.run budget e)
      (body_same p known stands.objects (Safe p (IsValueAt p) Any (Free known) CALL_DEPTH) None (output_sources p) (invoke (declarations_of p) CALL_DEPTH) walks
      (λ m r place vs d w u h. calls_sound t known stands.objects all CALL_DEPTH (omega arith) (number_of_methods p) m r place vs d w u h)
      (λ d m place y b. method_within t known (number_of_methods p) d m place y b) p.run.statements d (unit_state budget c) (unit_state budget e) stands.body
      (record { progress = refl; locals = refl; alike = alike; ones = ones }))

-- ---- loads

-- a load sets a location
abbrev pub load_sets : Location → LocatedLoad → Bool
load_sets at load = list_any (λ set. is_same_location at (global_at None set.0.global)) load

-- a load sets the program's own locations
abbrev pub IsOwnLoad : LocatedLoad → Type 0
IsOwnLoad load = AllByRecursion (λ (set : Location × Value). set.0 ≡ global_at None set.0.global) load

module _ (p : UnitTree) where
  set_by : (early : Location → Bool) (at : Location) (x y : Location × Value) (c e : Storage) (b : Bool) → is_same_location at (global_at None x.0.global) ≡ b → x.0 ≡ global_at None x.0.global → x.0 ≡ y.0
      → (early x.0 ≡ false → x.1 ≡ y.1) → early at ≡ false → (b ≡ false → seen_at p at (c at) ≡ seen_at p at (e at))
      → seen_at p at (if b then Holds x.1 else c at) ≡ seen_at p at (if is_same_location at (global_at None y.0.global) then Holds y.1 else e at)
  set_by early at x y c e true same own is alike calm old =
      let at_x : at ≡ x.0 = location_is at (global_at None x.0.global) same ∙ sym own in
      ap (λ v. seen_at p at (Holds v)) (alike (ap early (sym at_x) ∙ calm))
      ∙ ap (λ (b : Bool). seen_at p at (if b then Holds y.1 else e at)) (sym (ap (λ (l : Location). is_same_location at (global_at None l.global)) (sym is) ∙ same))
  set_by early at x y c e false same own is alike calm old =
      old refl ∙ ap (λ (b : Bool). seen_at p at (if b then Holds y.1 else e at)) (sym (ap (λ (l : Location). is_same_location at (global_at None l.global)) (sym is) ∙ same))

  -- loads that are the same but for early locations leave the same where it is not early, in storages that are seen alike where they set nothing
  pub loads_alike : (early : Location → Bool) (l k : LocatedLoad) (c e : Storage) (at : Location) → IsOwnLoad l → SameButEarly early l k → early at ≡ false
      → (load_sets at l ≡ false → seen_at p at (c at) ≡ seen_at p at (e at)) → seen_at p at (with_settings (settings_at l) c at) ≡ seen_at p at (with_settings (settings_at k) e at)
  loads_alike early [] [] c e at own same calm h = h refl
  loads_alike early [] (y ∷ k) c e at own same calm h = absurd same
  loads_alike early (x ∷ l) [] c e at own same calm h = absurd same
  loads_alike early (x ∷ l) (y ∷ k) c e at own same calm h =
      loads_alike early l k (with_content (global_at None x.0.global) (Holds x.1) c) (with_content (global_at None y.0.global) (Holds y.1) e) at own.1 same.2 calm
      (λ none. set_by early at x y c e (is_same_location at (global_at None x.0.global)) refl own.0 same.0 same.1 calm (λ apart. h (ap (λ b. b || load_sets at l) apart ∙ none)))
