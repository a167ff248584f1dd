-- The walk of a call, and two runs of the call.
use Rattle.std.proofs.Common.{◌≡◌, ℕ, zero, suc, ◌≤◌, Bool, true, false, ◌||◌, List, [], ◌∷◌, ◌++◌, filter, cond, flat_map, slice_get, Option, Some, None, refl, sym, ap, ◌∙◌, arith, if◌then◌else◌}
use Rattle.std.specs.List.{AllByRecursion, list_any}
use Rattle.std.proofs.lemmas.Bool.{true≢false}
use Rattle.ds2_base.specs.declared.place.Place.{Place}
use Rattle.ds2_value.specs.Progress.{Progress, with_failure, without_call}
use Rattle.ds2_value.specs.declared.fault.TheConstants.{CALL_DEPTH}
use Rattle.ds2_value.specs.declared.fault.Fault.TheVariants.{DepthReached}
use Rattle.ds2_value.specs.declared.value.Value.{Value}
use Rattle.ds2_meaning.specs.Evaluation.{Calls, CallEnd, Surroundings}
use Rattle.ds2_meaning.specs.Execution.{exec_all}
use Rattle.ds2_meaning.specs.Invocation.{method_state, carried_out, call_too_deep, invoke}
use Rattle.ds2_meaning.specs.Location.{Home, Location, is_same_location}
use Rattle.ds2_meaning.specs.Method.{MethodTree}
use Rattle.ds2_meaning.specs.ProgramTree.{UnitTree, methods_of, objects_of, declarations_of}
use Rattle.ds2_meaning.specs.RunState.{RunState, noting_failure, with_progress}
use Rattle.ds2_locality.specs.Deeds.{MethodAt, method_scope, Deed, Mention, MentionObject, Change, CallOf, WriteAt, deeds_of_method, method_deeds, may_be_called, with_callees, mentions_location}
use Rattle.ds2_locality.specs.Verdict.{JudgedThread, locations_in_order, is_on_cycle, read_on_cycle, past_body, walk_body, walk_method}
use Rattle.ds2_locality.specs.Walk.{DirtySet, united, WalkEnd, FailsAt, GoesOn, read_locations, WaysOut, CallWalks, WalkScope, walk_all}
use Rattle.ds2_locality.proofs.Frame.{location_is, AreAllowed, Any}
use Rattle.ds2_locality.proofs.Near.{Below, location_self, Free, IsValueAt, Near, break_call, CallAt, StatementAt, reads_alone}
use Rattle.ds2_locality.proofs.Within.{WithinAt, WaysWithin, reads_within, united_below, body_within}
use Rattle.ds2_locality.proofs.SameObjects.{ObjectsStand}
use Rattle.ds2_locality.proofs.SameStatements.{body_same}
use Rattle.ds2_locality.proofs.Quiet.{Clean}
use Rattle.ds2_locality.proofs.Reached.{Single, Safe, deeds_allowed, safe_less}
use Rattle.ds2_locality.proofs.SameCalls.{returned_some, finding_some, near_entry, listed, listed_in, quiet_some}

-- ---- what a method on a cycle reads

-- a location is among those of the program
abbrev pub IsAmong : JudgedThread → Location → Type 0
IsAmong t at = list_any (λ other. is_same_location at other) (locations_in_order t) ≡ true

-- every location that a method mentions is among those of the program
pub record Mentioned (t : JudgedThread) : Type 0 where
  pub among : (m : MethodAt) → AllByRecursion (Single t.program (IsAmong t) (IsAmong t) Any) (method_deeds t.program m)

-- two tests of locations are one on equal locations
picked_by : (d : DirtySet) (test : Location → Bool) (at l : Location) (ls : List Location) (b : Bool) → is_same_location at l ≡ b → test at ≡ true → AllByRecursion (Clean d) (cond (test l) (l ∷ filter test ls) (filter test ls))
    → (b || list_any (λ other. is_same_location at other) ls) ≡ true → (AllByRecursion (Clean d) (filter test ls) → list_any (λ other. is_same_location at other) ls ≡ true → d at ≡ false) → d at ≡ false
picked_by d test at l ls true e is h f later = here (test l) (ap test (sym (location_is at l e)) ∙ is) h
  where
    here : (c : Bool) → c ≡ true → AllByRecursion (Clean d) (cond c (l ∷ filter test ls) (filter test ls)) → d at ≡ false
    here true g k = ap d (location_is at l e) ∙ k.0
    here false g k = absurd (true≢false (sym g))
picked_by d test at l ls false e is h f later = later (rest (test l) h) f
  where
    rest : (c : Bool) → AllByRecursion (Clean d) (cond c (l ∷ filter test ls) (filter test ls)) → AllByRecursion (Clean d) (filter test ls)
    rest true k = k.1
    rest false k = k

picked : (d : DirtySet) (test : Location → Bool) (at : Location) (ls : List Location) → test at ≡ true → AllByRecursion (Clean d) (filter test ls) → list_any (λ other. is_same_location at other) ls ≡ true → d at ≡ false
picked d test at [] is h f = absurd (true≢false (sym f))
picked d test at (l ∷ ls) is h f = picked_by d test at l ls (is_same_location at l) refl is h f (λ k g. picked d test at ls is k g)

or_right : (a b : Bool) → b ≡ true → (a || b) ≡ true
or_right true b e = refl
or_right false b e = e

or_left : (a b : Bool) → a ≡ true → (a || b) ≡ true
or_left true b e = refl
or_left false b e = absurd (true≢false (sym e))

module _ (p : UnitTree) where
  single_to : (W U : Location → Type 0) → ((at : Location) → W at → U at) → (deed : Deed) → Single p W W Any deed → Single p U U Any deed
  single_to W U f (Mention at) h = f at h
  single_to W U f (MentionObject at) h = f at h
  single_to W U f (Change at) h = tt
  single_to W U f (CallOf m) h = tt
  single_to W U f (WriteAt place) h = tt

  all_single_to : (W U : Location → Type 0) → ((at : Location) → W at → U at) → (deeds : List Deed) → AllByRecursion (Single p W W Any) deeds → AllByRecursion (Single p U U Any) deeds
  all_single_to W U f [] h = tt
  all_single_to W U f (deed ∷ deeds) h = (single_to W U f deed h.0, all_single_to W U f deeds h.1)

  both_single : (W U : Location → Type 0) (deed : Deed) → Single p W W Any deed → Single p U U Any deed → Single p (λ at. W at × U at) (λ at. W at × U at) Any deed
  both_single W U (Mention at) g h = (g, h)
  both_single W U (MentionObject at) g h = (g, h)
  both_single W U (Change at) g h = tt
  both_single W U (CallOf m) g h = tt
  both_single W U (WriteAt place) g h = tt

  all_both : (W U : Location → Type 0) (deeds : List Deed) → AllByRecursion (Single p W W Any) deeds → AllByRecursion (Single p U U Any) deeds → AllByRecursion (Single p (λ at. W at × U at) (λ at. W at × U at) Any) deeds
  all_both W U [] g h = tt
  all_both W U (deed ∷ deeds) g h = (both_single W U deed g.0 h.0, all_both W U deeds g.1 h.1)

  -- what deeds mention they mention
  abbrev Hit : List Deed → Location → Type 0
  Hit deeds at = list_any (mentions_location at) deeds ≡ true

  first_hit : (deed : Deed) (deeds : List Deed) → Single p (Hit (deed ∷ deeds)) (Hit (deed ∷ deeds)) Any deed
  first_hit (Mention at) deeds = or_left (is_same_location at at) (list_any (mentions_location at) deeds) (location_self at)
  first_hit (MentionObject at) deeds = or_left (is_same_location at at) (list_any (mentions_location at) deeds) (location_self at)
  first_hit (Change at) deeds = tt
  first_hit (CallOf m) deeds = tt
  first_hit (WriteAt place) deeds = tt

  hits : (deeds : List Deed) → AllByRecursion (Single p (Hit deeds) (Hit deeds) Any) deeds
  hits [] = tt
  hits (deed ∷ deeds) =
      (first_hit deed deeds, all_single_to (Hit deeds) (Hit (deed ∷ deeds)) (λ at e. or_right (mentions_location at deed) (list_any (mentions_location at) deeds) e) deeds (hits deeds))

module _ (t : JudgedThread) (all : Mentioned t) where
  abbrev p : UnitTree
  p = t.program

  appended : (xs ys : List Deed) → AllByRecursion (Single p (IsAmong t) (IsAmong t) Any) xs → AllByRecursion (Single p (IsAmong t) (IsAmong t) Any) ys → AllByRecursion (Single p (IsAmong t) (IsAmong t) Any) (xs ++ ys)
  appended [] ys g h = h
  appended (x ∷ xs) ys g h = (g.0, appended xs ys g.1 h)

  flat_among : (ms : List MethodAt) → AllByRecursion (Single p (IsAmong t) (IsAmong t) Any) (flat_map (method_deeds p) ms)
  flat_among [] = tt
  flat_among (m ∷ ms) = appended (method_deeds p m) (flat_map (method_deeds p) ms) (all.among m) (flat_among ms)

  -- where all that a method on a cycle reads is clean, so is all that it and the methods that it may call mention
  cycle_clean : (d : DirtySet) (m : MethodAt) → AllByRecursion (Clean d) (read_on_cycle t m) → Safe p (Clean d) (Clean d) Any (suc CALL_DEPTH) m
  cycle_clean d m h =
      let deeds = with_callees p (method_deeds p m) in
      let among = appended (method_deeds p m) (flat_map (method_deeds p) (may_be_called p (method_deeds p m))) (all.among m) (flat_among (may_be_called p (method_deeds p m))) in
      deeds_allowed p (Clean d) (Clean d) Any (method_deeds p m)
      (all_single_to p (λ at. Hit p deeds at × IsAmong t at) (Clean d) (λ at e. picked d (λ l. list_any (mentions_location l) deeds) at (locations_in_order t) e.0 h e.1) deeds
      (all_both p (Hit p deeds) (IsAmong t) deeds (hits p deeds) among))

-- a list of what is mentioned so many calls deep is clean where all of it is
listed_of : (p : UnitTree) (d : DirtySet) (R : MethodAt → Type 0) (below : MethodAt → List Location) → ((m : MethodAt) → R m → AllByRecursion (Clean d) (below m)) → (deeds : List Deed)
    → AreAllowed (Clean d) (Clean d) Any R deeds → AllByRecursion (Clean d) (listed_in below deeds)
listed_of p d R below f [] h = tt
listed_of p d R below f (Mention at ∷ deeds) h = (h.0, listed_of p d R below f deeds h.1)
listed_of p d R below f (MentionObject at ∷ deeds) h = (h.0, listed_of p d R below f deeds h.1)
listed_of p d R below f (Change at ∷ deeds) h = listed_of p d R below f deeds h.1
listed_of p d R below f (CallOf m ∷ deeds) h = all_joined (below m) (listed_in below deeds) (f m h.0) (listed_of p d R below f deeds h.1)
  where
    all_joined : (xs ys : List Location) → AllByRecursion (Clean d) xs → AllByRecursion (Clean d) ys → AllByRecursion (Clean d) (xs ++ ys)
    all_joined [] ys g k = k
    all_joined (x ∷ xs) ys g k = (g.0, all_joined xs ys g.1 k)
listed_of p d R below f (WriteAt place ∷ deeds) h = listed_of p d R below f deeds h.1

safe_listed : (p : UnitTree) (d : DirtySet) (j : ℕ) (m : MethodAt) → Safe p (Clean d) (Clean d) Any j m → AllByRecursion (Clean d) (listed p j m)
safe_listed p d zero m h = tt
safe_listed p d (suc j) m h = listed_of p d (Safe p (Clean d) (Clean d) Any j) (listed p j) (λ k q. safe_listed p d j k q) (method_deeds p m) h

-- ---- the walk of a call

module _ (t : JudgedThread) (known : Location → Bool) where
  past_within : (d : DirtySet) (place : Place) (o : WalkEnd WaysOut) → WaysWithin d o → WithinAt d (past_body place o)
  past_within d place (FailsAt at inner) h = tt
  past_within d place (GoesOn x) h = united_below d x.onward (united x.returns (united x.leaves x.continues)) h.0 (united_below d x.returns (united x.leaves x.continues) h.3 (united_below d x.leaves x.continues h.1 h.2))

  body_by : (calls : CallWalks) (d : DirtySet) → ((m : MethodAt) (place : Place) (y : DirtySet) → Below y d → WithinAt d (calls m place y)) → (home : Home) (o : Option MethodTree) (place : Place) (y : DirtySet) → Below y d
      → WithinAt d (walk_body t known calls home o place y)
  body_by calls d f home None place y b = b
  body_by calls d f home (Some method) place y b =
      let scope : WalkScope = record { code = method_scope t.program home; calls = calls; known = known } in
      past_within d place (walk_all scope method.body y) (body_within d scope f method.body y b)

  cycle_by : (b : Bool) (d : DirtySet) (o q : WalkEnd DirtySet) → WithinAt d o → WithinAt d q → WithinAt d (if b then o else q)
  cycle_by true d o q h k = h
  cycle_by false d o q h k = k

  -- a walk of a call dirties nothing
  pub method_within : (n : ℕ) (d : DirtySet) (m : MethodAt) (place : Place) (y : DirtySet) → Below y d → WithinAt d (walk_method t known n m place y)
  method_within zero d m place y b = reads_within d place (read_on_cycle t m) y b
  method_within (suc n) d m place y b =
      cycle_by (is_on_cycle t.program m) d (read_locations place (read_on_cycle t m) y) (walk_body t known (walk_method t known n) m.home (slice_get (methods_of t.program m.home) m.number) place y)
      (reads_within d place (read_on_cycle t m) y b)
      (body_by (walk_method t known n) d (λ k q z c. method_within n d k q z c) m.home (slice_get (methods_of t.program m.home) m.number) place y b)

  module _ (stand : ObjectsStand t.program known) (all : Mentioned t) where
    abbrev Agree : DirtySet → RunState → RunState → Type 0
    Agree d w u = Near t.program known d w u

    abbrev Typed : ℕ → MethodAt → Type 0
    Typed j m = Safe t.program (IsValueAt t.program) Any (Free known) j m

    abbrev run : ℕ → MethodAt → List Value → RunState → CallEnd
    run j m vs w = invoke (declarations_of t.program) j m.home m.number vs w

    -- a call that reads as a method on a cycle does
    cycle_same : (j : ℕ) → j ≤ suc CALL_DEPTH → (m : MethodAt) → Typed j m → (place : Place) (vs : List Value) (d : DirtySet) (w u : RunState) → Agree d w u
        → CallAt t.program known (read_locations place (read_on_cycle t m) d) (run j m vs w) (run j m vs u)
    cycle_same j few m q place vs d w u n =
        reads_alone t.program known place (read_on_cycle t m) d (λ o. CallAt t.program known o (run j m vs w) (run j m vs u)) (λ x y. tt)
        (λ clean. quiet_some t.program known stand j m q vs d w u
        (safe_listed t.program d j m (safe_less t.program (Clean d) (Clean d) Any (suc CALL_DEPTH) j few m (cycle_clean t all d m clean))) n)

    past_same : (home : Home) (method : MethodTree) (place : Place) (calls : Calls) (d : DirtySet) (vs : List Value) (left : ℕ) (w u : RunState) (o : WalkEnd WaysOut) → Agree d w u
        → StatementAt t.program known o (exec_all (record { calls = calls; objects = objects_of t.program home; outputs = []; home = home }) method.body (method_state method.parameters vs left w))
        (exec_all (record { calls = calls; objects = objects_of t.program home; outputs = []; home = home }) method.body (method_state method.parameters vs left u))
        → CallAt t.program known (past_body place o) (carried_out calls (objects_of t.program home) home (Some method) vs left w) (carried_out calls (objects_of t.program home) home (Some method) vs left u)
    past_same home method place calls d vs left w u (FailsAt at inner) n h = tt
    past_same home method place calls d vs left w u (GoesOn ways) n h =
        let s : Surroundings = record { calls = calls; objects = objects_of t.program home; outputs = []; home = home } in
        returned_some t.program known method.parameters ways d w u (exec_all s method.body (method_state method.parameters vs left w)) (exec_all s method.body (method_state method.parameters vs left u)) n h

    deep_at : (o : WalkEnd DirtySet) (left : ℕ) (d : DirtySet) (w u : RunState) → Agree d w u → CallAt t.program known o (call_too_deep left w) (call_too_deep left u)
    deep_at (FailsAt at place) left d w u n = tt
    deep_at (GoesOn x) left d w u n = break_call DepthReached (with_progress (without_call left w.progress) w) (with_progress (without_call left u.progress) u) (ap (without_call left) n.progress)

    -- calls with so many further ones under way, by the walk of calls that are nested so deep
    abbrev pub Sound : ℕ → Type 0
    Sound j = j ≤ suc CALL_DEPTH → (n : ℕ) (m : MethodAt) → Typed j m → (place : Place) (vs : List Value) (d : DirtySet) (w u : RunState) → Agree d w u
        → CallAt t.program known (walk_method t known n m place d) (run j m vs w) (run j m vs u)

    by_cycle : (b : Bool) (o q : WalkEnd DirtySet) (x y : CallEnd) → CallAt t.program known o x y → CallAt t.program known q x y → CallAt t.program known (if b then o else q) x y
    by_cycle true o q x y h k = h
    by_cycle false o q x y h k = k

    carried_same : (j : ℕ) → ((n : ℕ) (m : MethodAt) → Typed j m → (place : Place) (vs : List Value) (d : DirtySet) (w u : RunState) → Agree d w u → CallAt t.program known (walk_method t known n m place d) (run j m vs w) (run j m vs u))
        → (n : ℕ) (home : Home) (o : Option MethodTree) → AreAllowed (IsValueAt t.program) Any (Free known) (Typed j) (deeds_of_method t.program home o)
        → (place : Place) (vs : List Value) (left : ℕ) (d : DirtySet) (w u : RunState) → Agree d w u
        → CallAt t.program known (walk_body t known (walk_method t known n) home o place d) (carried_out (invoke (declarations_of t.program) j) (objects_of t.program home) home o vs left w)
        (carried_out (invoke (declarations_of t.program) j) (objects_of t.program home) home o vs left u)
    carried_same j sound n home None q place vs left d w u h = break_call DepthReached (noting_failure w) (noting_failure u) (ap with_failure h.progress)
    carried_same j sound n home (Some method) q place vs left d w u h =
        let scope : WalkScope = record { code = method_scope t.program home; calls = walk_method t known n; known = known } in
        past_same home method place (invoke (declarations_of t.program) j) d vs left w u (walk_all scope method.body d) h
        (body_same t.program known stand (Typed j) home [] (invoke (declarations_of t.program) j) (walk_method t known n) (λ m r place vs d w u g. sound n m r place vs d w u g)
        (λ d m place y b. method_within n d m place y b) method.body d (method_state method.parameters vs left w) (method_state method.parameters vs left u) q
        (near_entry t.program known method.parameters vs left d w u h))

    body_sound : (j : ℕ) → Sound j → suc j ≤ suc CALL_DEPTH → (n : ℕ) (m : MethodAt) → Typed (suc j) m → (place : Place) (vs : List Value) (d : DirtySet) (w u : RunState) → Agree d w u
        → CallAt t.program known (walk_body t known (walk_method t known n) m.home (slice_get (methods_of t.program m.home) m.number) place d) (run (suc j) m vs w) (run (suc j) m vs u)
    body_sound j sound few n m q place vs d w u h =
        let o = slice_get (methods_of t.program m.home) m.number in
        let calls = invoke (declarations_of t.program) j in
        finding_some t.program known w.progress.left u.progress.left d w u (walk_body t known (walk_method t known n) m.home o place d)
        (λ left. carried_out calls (objects_of t.program m.home) m.home o vs left w) (λ left. carried_out calls (objects_of t.program m.home) m.home o vs left u) (ap (λ (x : Progress). x.left) h.progress) h
        (λ left. carried_same j (λ n m r place vs d w u g. sound (omega (arith, few)) n m r place vs d w u g) n m.home o q place vs left d w u h)

    pub calls_sound : (j : ℕ) → Sound j
    calls_sound j few zero m q place vs d w u h = cycle_same j few m q place vs d w u h
    calls_sound zero few (suc n) m q place vs d w u h =
        finding_some t.program known w.progress.left u.progress.left d w u (walk_method t known (suc n) m place d) (λ left. call_too_deep left w) (λ left. call_too_deep left u)
        (ap (λ (x : Progress). x.left) h.progress) h (λ left. deep_at (walk_method t known (suc n) m place d) left d w u h)
    calls_sound (suc j) few (suc n) m q place vs d w u h =
        by_cycle (is_on_cycle t.program m) (read_locations place (read_on_cycle t m) d) (walk_body t known (walk_method t known n) m.home (slice_get (methods_of t.program m.home) m.number) place d)
        (run (suc j) m vs w) (run (suc j) m vs u) (cycle_same (suc j) few m q place vs d w u h) (body_sound j (λ f n m r place vs d w u g. calls_sound j f n m r place vs d w u g) few n m q place vs d w u h)
