-- Two runs of a call of a method, by how many further calls may be under way.
use Rattle.std.proofs.Common.{◌≡◌, ℕ, zero, suc, Bool, List, [], ◌∷◌, ◌++◌, slice_get, Option, Some, None, refl, ap, ◌∙◌, subst}
use Rattle.std.specs.List.{AllByRecursion}
use Rattle.ds2_base.specs.declared.place.Place.{Place}
use Rattle.ds2_value.specs.Progress.{Progress, with_call, without_call, with_failure, with_place}
use Rattle.ds2_value.specs.declared.fault.Fault.TheVariants.{BudgetSpent, DepthReached}
use Rattle.ds2_value.specs.declared.value.Value.{Value}
use Rattle.ds2_value.specs.declared.value.Value.TheVariants.{Null}
use Rattle.ds2_meaning.specs.declared.methods.Parameter.{Parameter}
use Rattle.ds2_meaning.specs.Evaluation.{Calls, CallEnd, Answers, Surroundings}
use Rattle.ds2_meaning.specs.Execution.{exec_all}
use Rattle.ds2_meaning.specs.Invocation.{method_state, back_in, returned, call_raises, call_finding, carried_out, call_too_deep, invoke}
use Rattle.ds2_meaning.specs.Location.{Home, Location}
use Rattle.ds2_meaning.specs.Method.{MethodTree, last_values}
use Rattle.ds2_meaning.specs.ProgramTree.{UnitTree, methods_of, objects_of, declarations_of}
use Rattle.ds2_meaning.specs.RunState.{RunState, StatementOutcome, noting_failure, with_progress}
use Rattle.ds2_locality.specs.Deeds.{MethodAt, method_scope, Deed, Mention, MentionObject, Change, CallOf, WriteAt, deeds_of_method, method_deeds}
use Rattle.ds2_locality.specs.Walk.{DirtySet, united, WalkEnd, FailsAt, GoesOn, read_locations, WaysOut, at_end, CallWalks, WalkScope, walk_all}
use Rattle.ds2_locality.proofs.Frame.{all_front, all_back, AreAllowed, Any}
use Rattle.ds2_locality.proofs.Near.{Below, left_clean, right_clean, Free, IsValueAt, Near, near_below, SameCall, answer, break_call, CallAt, SameStatement, proceed, leave, continue', return', fault, StatementAt, reads_alone}
use Rattle.ds2_locality.proofs.Within.{reads_within, united_below}
use Rattle.ds2_locality.proofs.SameObjects.{ObjectsStand}
use Rattle.ds2_locality.proofs.SameStatements.{body_same}
use Rattle.ds2_locality.proofs.Quiet.{WaysGo, Clean, body_goes, reads_go}
use Rattle.ds2_locality.proofs.Reached.{Safe}

-- what deeds mention, and what the methods do that they call
abbrev pub listed_in : (MethodAt → List Location) → List Deed → List Location
listed_in below [] = []
listed_in below (Mention at ∷ deeds) = at ∷ listed_in below deeds
listed_in below (MentionObject at ∷ deeds) = at ∷ listed_in below deeds
listed_in below (Change at ∷ deeds) = listed_in below deeds
listed_in below (CallOf m ∷ deeds) = below m ++ listed_in below deeds
listed_in below (WriteAt place ∷ deeds) = listed_in below deeds

-- what a method and those that it calls mention, so many calls deep
abbrev pub listed : UnitTree → ℕ → MethodAt → List Location
listed p zero m = []
listed p (suc j) m = listed_in (listed p j) (method_deeds p m)

-- ---- what is dirty where the ways out of a body meet

pub end_on : (x : WaysOut) → Below x.onward (at_end x)
end_on x at e = left_clean (x.onward at) (united x.returns (united x.leaves x.continues) at) e

pub end_returns : (x : WaysOut) → Below x.returns (at_end x)
end_returns x at e = left_clean (x.returns at) (united x.leaves x.continues at) (right_clean (x.onward at) (united x.returns (united x.leaves x.continues) at) e)

pub end_leaves : (x : WaysOut) → Below x.leaves (at_end x)
end_leaves x at e =
    left_clean (x.leaves at) (x.continues at) (right_clean (x.returns at) (united x.leaves x.continues at) (right_clean (x.onward at) (united x.returns (united x.leaves x.continues) at) e))

pub end_continues : (x : WaysOut) → Below x.continues (at_end x)
end_continues x at e =
    right_clean (x.leaves at) (x.continues at) (right_clean (x.returns at) (united x.leaves x.continues at) (right_clean (x.onward at) (united x.returns (united x.leaves x.continues) at) e))

module _ (p : UnitTree) (known : Location → Bool) where
  -- ---- the end of a call

  pub near_back : (d e : DirtySet) (x y w u : RunState) → Near p known e x y → Near p known d w u → Near p known d (back_in x w) (back_in y u)
  near_back d e x y w u m n = record {
    progress = ap (λ (q : Progress). with_place q.place w.progress) m.progress ∙ ap (with_place y.progress.place) n.progress;
    locals = m.locals;
    alike = n.alike;
    ones = n.ones;
  }

  answers_back : (parameters : List Parameter) (v : Value) (d e : DirtySet) (x y w u : RunState) → Near p known e x y → Near p known d w u
      → SameCall p known d (Answers v (last_values parameters w.locals) (back_in x w)) (Answers v (last_values parameters u.locals) (back_in y u))
  answers_back parameters v d e x y w u m n =
      subst (λ vs. SameCall p known d (Answers v (last_values parameters w.locals) (back_in x w)) (Answers v vs (back_in y u))) (ap (last_values parameters) n.locals)
      (answer v (last_values parameters w.locals) (back_in x w) (back_in y u) (near_back d e x y w u m n))

  pub returned_some : (parameters : List Parameter) (ways : WaysOut) (e : DirtySet) (x y : RunState) (a b : StatementOutcome) → Near p known e x y → SameStatement p known ways a b
      → SameCall p known (at_end ways) (returned parameters x a) (returned parameters y b)
  returned_some parameters ways e x y _ _ m (proceed w u n) = answers_back parameters Null (at_end ways) e x y w u m (near_below p known ways.onward (at_end ways) w u (end_on ways) n)
  returned_some parameters ways e x y _ _ m (leave w u n) = answers_back parameters Null (at_end ways) e x y w u m (near_below p known ways.leaves (at_end ways) w u (end_leaves ways) n)
  returned_some parameters ways e x y _ _ m (continue' w u n) = answers_back parameters Null (at_end ways) e x y w u m (near_below p known ways.continues (at_end ways) w u (end_continues ways) n)
  returned_some parameters ways e x y _ _ m (return' v w u n) = answers_back parameters v (at_end ways) e x y w u m (near_below p known ways.returns (at_end ways) w u (end_returns ways) n)
  returned_some parameters ways e x y _ _ m (fault f w u h) = break_call f w u h

  call_below : (y d : DirtySet) (a b : CallEnd) → Below y d → SameCall p known y a b → SameCall p known d a b
  call_below y d _ _ b (answer v vs w u n) = answer v vs w u (near_below p known y d w u b n)
  call_below y d _ _ b (break_call f w u e) = break_call f w u e

  -- a call that finds budget
  pub finding_some : (i j : ℕ) (d : DirtySet) (w u : RunState) (o : WalkEnd DirtySet) (f g : ℕ → CallEnd) → i ≡ j → Near p known d w u → ((left : ℕ) → CallAt p known o (f left) (g left))
      → CallAt p known o (call_finding i w f) (call_finding j u g)
  finding_some zero zero d w u o f g e n k = raises_at o
    where
      raises_at : (o : WalkEnd DirtySet) → CallAt p known o (call_raises BudgetSpent w) (call_raises BudgetSpent u)
      raises_at (FailsAt at place) = tt
      raises_at (GoesOn x) = break_call BudgetSpent (noting_failure w) (noting_failure u) (ap with_failure n.progress)
  finding_some zero (suc j) d w u o f g e n k = absurd cc
  finding_some (suc i) zero d w u o f g e n k = absurd cc
  finding_some (suc i) (suc j) d w u o f g e n k =
      let same : i ≡ j = cc in subst (λ z. CallAt p known o (f i) (g z)) same (k i)

  pub near_entry : (parameters : List Parameter) (vs : List Value) (left : ℕ) (d : DirtySet) (w u : RunState) → Near p known d w u
      → Near p known d (method_state parameters vs left w) (method_state parameters vs left u)
  near_entry parameters vs left d w u n = record { progress = ap (with_call left) n.progress; locals = refl; alike = n.alike; ones = n.ones }

  pub too_deep : (left : ℕ) (d : DirtySet) (w u : RunState) → Near p known d w u → SameCall p known d (call_too_deep left w) (call_too_deep left u)
  too_deep left d w u n = break_call DepthReached (with_progress (without_call left w.progress) w) (with_progress (without_call left u.progress) u) (ap (without_call left) n.progress)

  module _ (stand : ObjectsStand p known) where
    abbrev Typed : ℕ → MethodAt → Type 0
    Typed depth m = Safe p (IsValueAt p) Any (Free known) depth m

    -- ---- calls of methods that mention clean locations alone

    -- calls that read all that
    abbrev reading : ℕ → CallWalks
    reading j m place y = read_locations place (listed p j m) y

    -- where it is clean, deeds mention clean locations alone
    listed_clean : (d : DirtySet) (j : ℕ) (deeds : List Deed) → AllByRecursion (Clean d) (listed_in (listed p j) deeds) → AreAllowed (Clean d) (Clean d) Any (λ m. AllByRecursion (Clean d) (listed p j m)) deeds
    listed_clean d j [] h = tt
    listed_clean d j (Mention at ∷ deeds) h = (h.0, listed_clean d j deeds h.1)
    listed_clean d j (MentionObject at ∷ deeds) h = (h.0, listed_clean d j deeds h.1)
    listed_clean d j (Change at ∷ deeds) h = (tt, listed_clean d j deeds h)
    listed_clean d j (CallOf m ∷ deeds) h = (all_front (Clean d) (listed p j m) (listed_in (listed p j) deeds) h, listed_clean d j deeds (all_back (Clean d) (listed p j m) (listed_in (listed p j) deeds) h))
    listed_clean d j (WriteAt place ∷ deeds) h = (tt, listed_clean d j deeds h)

    -- the body of a method, from how its walk goes
    body_ends : (home : Home) (method : MethodTree) (calls : Calls) (d : DirtySet) (x y : RunState) (vs : List Value) (left : ℕ) (o : WalkEnd WaysOut) → Near p known d x y
        → StatementAt p known o (exec_all (record { calls = calls; objects = objects_of p home; outputs = []; home = home }) method.body (method_state method.parameters vs left x))
        (exec_all (record { calls = calls; objects = objects_of p home; outputs = []; home = home }) method.body (method_state method.parameters vs left y))
        → WaysGo d o
        → SameCall p known d (carried_out calls (objects_of p home) home (Some method) vs left x) (carried_out calls (objects_of p home) home (Some method) vs left y)
    body_ends home method calls d x y vs left (FailsAt at place) n h goes = absurd goes
    body_ends home method calls d x y vs left (GoesOn ways) n h goes =
        let s : Surroundings = record { calls = calls; objects = objects_of p home; outputs = []; home = home } in
        let a = exec_all s method.body (method_state method.parameters vs left x) in
        let b = exec_all s method.body (method_state method.parameters vs left y) in
        call_below (at_end ways) d (returned method.parameters x a) (returned method.parameters y b)
        (united_below d ways.onward (united ways.returns (united ways.leaves ways.continues)) goes.0 (united_below d ways.returns (united ways.leaves ways.continues) goes.3 (united_below d ways.leaves ways.continues goes.1 goes.2)))
        (returned_some method.parameters ways d x y a b n h)

    -- calls with so many further ones under way give the same from states that agree outside of a set in which their lists are clean
    abbrev Quiet : ℕ → Type 0
    Quiet j = (m : MethodAt) → Typed j m → (vs : List Value) (d : DirtySet) (w u : RunState) → AllByRecursion (Clean d) (listed p j m) → Near p known d w u
        → SameCall p known d (invoke (declarations_of p) j m.home m.number vs w) (invoke (declarations_of p) j m.home m.number vs u)

    quiet_call : (j : ℕ) → Quiet j → (m : MethodAt) → Typed j m → (place : Place) (vs : List Value) (d : DirtySet) (w u : RunState) → Near p known d w u
        → CallAt p known (reading j m place d) (invoke (declarations_of p) j m.home m.number vs w) (invoke (declarations_of p) j m.home m.number vs u)
    quiet_call j quiet m q place vs d w u n =
        reads_alone p known place (listed p j m) d (λ o. CallAt p known o (invoke (declarations_of p) j m.home m.number vs w) (invoke (declarations_of p) j m.home m.number vs u)) (λ x y. tt)
        (λ clean. quiet m q vs d w u clean n)

    quiet_body : (j : ℕ) → Quiet j → (home : Home) (o : Option MethodTree) → AreAllowed (IsValueAt p) Any (Free known) (Typed j) (deeds_of_method p home o) → (vs : List Value) (left : ℕ) (d : DirtySet) (w u : RunState)
        → AreAllowed (Clean d) (Clean d) Any (λ m. AllByRecursion (Clean d) (listed p j m)) (deeds_of_method p home o) → Near p known d w u
        → SameCall p known d (carried_out (invoke (declarations_of p) j) (objects_of p home) home o vs left w) (carried_out (invoke (declarations_of p) j) (objects_of p home) home o vs left u)
    quiet_body j quiet home None q vs left d w u clean n = break_call DepthReached (noting_failure w) (noting_failure u) (ap with_failure n.progress)
    quiet_body j quiet home (Some method) q vs left d w u clean n =
        let calls = invoke (declarations_of p) j in
        let scope : WalkScope = record { code = method_scope p home; calls = reading j; known = known } in
        body_ends home method calls d w u vs left (walk_all scope method.body d) n
        (body_same p known stand (Typed j) home [] calls (reading j) (λ m r place vs d w u h. quiet_call j quiet m r place vs d w u h) (λ d m place y b. reads_within d place (listed p j m) y b)
        method.body d (method_state method.parameters vs left w) (method_state method.parameters vs left u) q (near_entry method.parameters vs left d w u n))
        (body_goes d scope (λ m. AllByRecursion (Clean d) (listed p j m)) (λ m r place y b. reads_go d place (listed p j m) y r b) method.body d clean (λ at e. e))

    pub quiet_some : (j : ℕ) → Quiet j
    quiet_some zero m q vs d w u clean n =
        finding_some w.progress.left u.progress.left d w u (GoesOn d) (λ left. call_too_deep left w) (λ left. call_too_deep left u) (ap (λ (x : Progress). x.left) n.progress) n (λ left. too_deep left d w u n)
    quiet_some (suc j) m q vs d w u clean n =
        let calls = invoke (declarations_of p) j in
        let o = slice_get (methods_of p m.home) m.number in
        finding_some w.progress.left u.progress.left d w u (GoesOn d) (λ left. carried_out calls (objects_of p m.home) m.home o vs left w) (λ left. carried_out calls (objects_of p m.home) m.home o vs left u)
        (ap (λ (x : Progress). x.left) n.progress) n
        (λ left. quiet_body j (λ k r vs d w u c h. quiet_some j k r vs d w u c h) m.home o q vs left d w u (listed_clean d j (method_deeds p m) clean) n)
