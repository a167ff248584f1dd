-- A stage on many workers gives what its loads in turn give on one thread.
use Rattle.std.proofs.Common.{◌≡◌, ℕ, suc, ◌+◌, List, [], ◌∷◌, ◌++◌, Bool, true, false, refl, sym, ap, ◌∙◌, subst, arith, length}
use Rattle.std.specs.List.{flat_map}
use Rattle.std.specs.Prelude.{Option, Some, None, slice_get}
use Rattle.ds2_schedule.specs.Schedule.{FixedPart, Agree, AgreeAsStates, AreIndependent, up_to_fault, one_thread}
use Rattle.ds2_schedule.specs.Groups.{UnitRun, Normally, ByFault, StageUnits, IsJoining, with_before, then_from, run_loads, stage_run, IsSameRun, IsSameEnd, SameButEarly, AreSameButEarly, IsGroupIndependent, IsAmongGroups, Given, given_by, state_left, loads_of, stage_program, in_front_of, put_together, AllAreStates, EveryStage}
use Rattle.ds2_schedule.proofs.Schedule.{every_schedule_is, itself}

same_load : {N V : Type 0} (early : N → Bool) (l : List (N × V)) → SameButEarly early l l
same_load early [] = tt
same_load early (x ∷ xs) = (refl, (λ e. refl), same_load early xs)

same_loads : {N V : Type 0} (early : N → Bool) (ls : List (List (N × V))) → AreSameButEarly early ls ls
same_loads early [] = tt
same_loads early (l ∷ ls) = (same_load early l, same_loads early ls)

module _ {S O : Type 0} (agrees : S → S → Type 0) where
  same_given : (s t : S) (x y : UnitRun S O) → IsSameRun agrees s t x y → given_by x ≡ given_by y
  same_given s t (Normally u o) (Normally v q) h = ap (λ (z : O). record { gave = z; faulted = false }) h.0
  same_given s t (Normally u o) (ByFault q) h = absurd h
  same_given s t (ByFault o) (Normally v q) h = absurd h
  same_given s t (ByFault o) (ByFault q) h = ap (λ (z : O). record { gave = z; faulted = true }) h

  same_end : (x y : UnitRun S O) → IsSameEnd x y → given_by x ≡ given_by y
  same_end (Normally u o) (Normally v q) h = ap (λ (z : O). record { gave = z; faulted = false }) h
  same_end (Normally u o) (ByFault q) h = absurd h
  same_end (ByFault o) (Normally v q) h = absurd h
  same_end (ByFault o) (ByFault q) h = ap (λ (z : O). record { gave = z; faulted = true }) h

  left_agrees : (s : S) (x : UnitRun S O) → agrees s s → IsSameRun agrees s s x x → agrees (state_left s x) s
  left_agrees s (Normally u o) itself h = h.1
  left_agrees s (ByFault o) itself h = itself

module _ {S L O : Type 0} (u : StageUnits S L O) (joins : IsJoining u) where
  twice_before : (a b : O) (x : UnitRun S O) → with_before u a (with_before u b x) ≡ with_before u (u.and_then a b) x
  twice_before a b (Normally s o) = ap (Normally s) (sym (joins.in_turn a b o))
  twice_before a b (ByFault o) = ap ByFault (sym (joins.in_turn a b o))

  nothing_before : (x : UnitRun S O) → with_before u u.nothing x ≡ x
  nothing_before (Normally s o) = ap (Normally s) (joins.from_nothing o)
  nothing_before (ByFault o) = ap ByFault (joins.from_nothing o)

  before_then : (o : O) (x : UnitRun S O) (go : S → UnitRun S O) → then_from u (with_before u o x) go ≡ with_before u o (then_from u x go)
  before_then o (Normally s q) go = sym (twice_before o q (go s))
  before_then o (ByFault q) go = refl

  then_then : (x : UnitRun S O) (f g : S → UnitRun S O) → then_from u (then_from u x f) g ≡ then_from u x (λ t. then_from u (f t) g)
  then_then (Normally s o) f g = before_then o (f s) g
  then_then (ByFault o) f g = refl

  then_same : (x : UnitRun S O) (f g : S → UnitRun S O) → ((t : S) → f t ≡ g t) → then_from u x f ≡ then_from u x g
  then_same (Normally s o) f g h = ap (with_before u o) (h s)
  then_same (ByFault o) f g h = refl

  -- the loads of two lists in turn
  run_append : (budget : ℕ) (ls ks : List L) (s : S) → run_loads u budget (ls ++ ks) s ≡ then_from u (run_loads u budget ls s) (run_loads u budget ks)
  run_append budget [] ks s = sym (nothing_before (run_loads u budget ks s))
  run_append budget (l ∷ ls) ks s =
      then_same (u.run budget l s) (run_loads u budget (ls ++ ks)) (λ t. then_from u (run_loads u budget ls t) (run_loads u budget ks)) (λ t. run_append budget ls ks t)
      ∙ sym (then_then (u.run budget l s) (run_loads u budget ls) (run_loads u budget ks))

  given_before : (o : O) (x : UnitRun S O) → in_front_of u (record { gave = o; faulted = false }) (given_by x) ≡ given_by (with_before u o x)
  given_before o (Normally s q) = refl
  given_before o (ByFault q) = refl

  -- one group's result in front of those that follow
  group_first : (s : S) (x : UnitRun S O) (rest : S → List (Given O)) (last : Given O) (go : S → UnitRun S O)
      → ((t : S) (o : O) → x ≡ Normally t o → put_together u (rest t) last ≡ given_by (go t))
      → put_together u (up_to_fault (given_by x).faulted (given_by x) (rest (state_left s x))) last ≡ given_by (then_from u x go)
  group_first s (Normally t o) rest last go h = ap (in_front_of u (record { gave = o; faulted = false })) (h t o refl) ∙ given_before o (go t)
  group_first s (ByFault o) rest last go h = refl

module _ {S K C N V O : Type 0} (u : StageUnits S (List (N × V)) O) (rows : O → ℕ) (is_state : S → Bool) (fixed : FixedPart S K C) (early : N → Bool) (budget : ℕ) (groups : List (List (List (N × V)))) (joins : IsJoining u)
    (free : IsGroupIndependent u (IsAmongGroups groups) early (AgreeAsStates is_state fixed)) where
  group_runs : (g : ℕ) (loads : List (List (N × V))) (s t : S) → slice_get groups g ≡ Some loads → AgreeAsStates is_state fixed s t → IsSameRun (AgreeAsStates is_state fixed) s t (run_loads u budget loads s) (run_loads u budget loads t)
  group_runs g loads s t at same = free.groups budget loads loads s t (g, at) (g, at) (same_loads early loads) same

  result_same : (g : ℕ) (o : Option (List (List (N × V)))) (s t : S) → slice_get groups g ≡ o → AgreeAsStates is_state fixed s t → given_by (run_loads u budget (loads_of o) s) ≡ given_by (run_loads u budget (loads_of o) t)
  result_same g None s t at same = refl
  result_same g (Some loads) s t at same = same_given (AgreeAsStates is_state fixed) s t (run_loads u budget loads s) (run_loads u budget loads t) (group_runs g loads s t at same)

  result_kept : (g : ℕ) (o : Option (List (List (N × V)))) (s : S) → slice_get groups g ≡ o → AgreeAsStates is_state fixed s s → AgreeAsStates is_state fixed (state_left s (run_loads u budget (loads_of o) s)) s
  result_kept g None s at state = state
  result_kept g (Some loads) s at state = left_agrees (AgreeAsStates is_state fixed) s (run_loads u budget loads s) state (group_runs g loads s s at state)

  independent : AreIndependent (AgreeAsStates is_state fixed) (stage_program u rows budget groups)
  independent = record {
    same = λ s t g same. result_same g (slice_get groups g) s t refl same;
    kept = λ s g state calm. result_kept g (slice_get groups g) s refl state;
  }

  in_turn : (first s : S) (rest : List (List (List (N × V)))) (g : ℕ) → ((k : ℕ) → slice_get groups (g + k) ≡ slice_get rest k) → AgreeAsStates is_state fixed s first
      → put_together u (one_thread (stage_program u rows budget groups) s g (length rest)) (given_by (u.term budget first)) ≡ given_by (stage_run u budget (flat_map (λ g. g) rest) s)
  in_turn first s [] g at same =
      same_end (AgreeAsStates is_state fixed) (u.term budget first) (u.term budget s) (free.terms budget first s (same.1, same.0, λ k is. sym (same.2 k is)))
      ∙ ap given_by (sym (nothing_before u joins (u.term budget s)))
  in_turn first s (loads ∷ rest) g at same =
      let p = stage_program u rows budget groups in
      let n = length rest in
      let last = given_by (u.term budget first) in
      let x = run_loads u budget loads s in
      let here : slice_get groups g ≡ Some loads = subst (λ (k : ℕ). slice_get groups k ≡ Some loads) (omega arith) (at 0) in
      let go : S → UnitRun S O = λ t. stage_run u budget (flat_map (λ g. g) rest) t in
      let kept = result_kept g (Some loads) s here (itself is_state fixed s same.0) in
      ap (λ (o : Option (List (List (N × V)))). put_together u (up_to_fault (given_by (run_loads u budget (loads_of o) s)).faulted (given_by (run_loads u budget (loads_of o) s)) (one_thread p (state_left s (run_loads u budget (loads_of o) s)) (g + 1) n)) last) here
      ∙ group_first u joins s x (λ t. one_thread p t (g + 1) n) last go (λ t o is.
      in_turn first t rest (g + 1) (λ k. subst (λ (j : ℕ). slice_get groups j ≡ slice_get rest k) (omega arith) (at (suc k))) (
        ap (λ (y : UnitRun S O). is_state (state_left s y)) (sym is) ∙ kept.0,
        same.1,
        λ k fix. ap (λ (y : UnitRun S O). fixed.content (state_left s y) k) (sym is) ∙ kept.2 k fix ∙ same.2 k fix,
      ))
      ∙ ap given_by (sym (ap (λ (y : UnitRun S O). then_from u y (u.term budget)) (run_append u joins budget loads (flat_map (λ g. g) rest) s) ∙ then_then u joins x (run_loads u budget (flat_map (λ g. g) rest)) (u.term budget)))

pub every_stage : (S K C N V O : Type 0) → EveryStage S K C N V O
every_stage S K C N V O u rows is_state fixed early budget groups workers first xs joins free state history =
    let p = stage_program u rows budget groups in
    let m = length groups in
    let same = every_schedule_is S K C (Given O) p is_state fixed m workers first xs (independent u rows is_state fixed early budget groups joins free) state history.legal history.carried history.complete in
    record {
      by_group = same;
      together =
          ap (λ (os : List (Given O)). put_together u os (given_by (u.term budget first))) same
          ∙ in_turn u rows is_state fixed early budget groups joins free first first groups 0 (λ k. ap (slice_get groups) (omega arith)) (itself is_state fixed first state);
    }

as_states : {S K C O : Type 0} (fixed : FixedPart S K C) (s t : S) (x y : UnitRun S O) → IsSameRun (Agree fixed) s t x y → IsSameRun (AgreeAsStates (λ z. true) fixed) s t x y
as_states fixed s t (Normally u o) (Normally v q) h = (h.0, (refl, refl, h.1), (refl, refl, h.2))
as_states fixed s t (Normally u o) (ByFault q) h = absurd h
as_states fixed s t (ByFault o) (Normally v q) h = absurd h
as_states fixed s t (ByFault o) (ByFault q) h = h

pub all_are_states : (S K C N V O : Type 0) → AllAreStates S K C N V O
all_are_states S K C N V O u fixed early groups free = record {
  groups = λ budget ls ks s t a b h same. as_states fixed s t (run_loads u budget ls s) (run_loads u budget ks t) (free.groups budget ls ks s t a b h same.2);
  terms = λ budget s t same. free.terms budget s t same.2;
}
