-- The premises hold of the small stage.
use Rattle.std.proofs.Common.{◌≡◌, ℕ, ◌*◌, List, [], ◌∷◌, ◌++◌, Bool, true, false, refl, sym, ap, ◌∙◌, subst}
use Rattle.std.specs.Prelude.{if◌then◌else◌, ◌==◌}
use Rattle.std.proofs.lemmas.List.{append-nil, append_assoc}
use Rattle.std.proofs.lemmas.Bool.{eqb-true}
use Rattle.ds2_schedule.specs.Runs.{run_length, run_count}
use Rattle.ds2_schedule.specs.Schedule.{Agree}
use Rattle.ds2_schedule.specs.Groups.{UnitRun, Normally, ByFault, IsJoining, with_before, then_from, run_loads, IsSameRun, SameButEarly, AreSameButEarly, IsGroupIndependent, IsAmongGroups}
use Rattle.ds2_schedule.specs.Sample.{SampleState, sample_content, sample_fixed, is_early_flag, amount_set, sample_run, sample_units, sample_groups, sample_start, SampleMeetsPremises}

sample_joins : IsJoining sample_units
sample_joins = record {
  from_nothing = λ o. refl;
  to_nothing = λ o. append-nil o;
  in_turn = λ a b c. append_assoc a b c;
}

same_if : (b c : Bool) (x y xs ys : ℕ) → b ≡ c → (c ≡ true → x ≡ y) → xs ≡ ys → (if b then x else xs) ≡ (if c then y else ys)
same_if true true x y xs ys e f g = f refl
same_if true false x y xs ys e f g = absurd (cc)
same_if false true x y xs ys e f g = absurd (cc)
same_if false false x y xs ys e f g = g

not_early : (k : ℕ) → (k == 2) ≡ true → is_early_flag k ≡ false
not_early k e = ap is_early_flag (eqb-true k 2 e)

same_amount : (l k : List (ℕ × ℕ)) → SameButEarly is_early_flag l k → amount_set l ≡ amount_set k
same_amount [] [] h = refl
same_amount [] (y ∷ ys) h = absurd h
same_amount (x ∷ xs) [] h = absurd h
same_amount (x ∷ xs) (y ∷ ys) h =
    same_if (x.0 == 2) (y.0 == 2) x.1 y.1 (amount_set xs) (amount_set ys) (ap (λ (k : ℕ). k == 2) h.0)
    (λ e. h.1 (not_early x.0 (ap (λ (k : ℕ). k == 2) h.0 ∙ e))) (same_amount xs ys h.2)

abbrev SameRate : SampleState → SampleState → UnitRun SampleState (List ℕ) → UnitRun SampleState (List ℕ) → Type 0
SameRate s t (Normally u o) (Normally v q) = (o ≡ q) × (u.rate ≡ s.rate) × (v.rate ≡ t.rate)
SameRate s t (ByFault o) (ByFault q) = o ≡ q
SameRate s t _ _ = ⊥

one_run : (b : Bool) (n : ℕ) (s t : SampleState) → s.rate ≡ t.rate
    → SameRate s t (if b then ByFault [] else Normally (record { rate = s.rate; amount = n }) (s.rate * n ∷ [])) (if b then ByFault [] else Normally (record { rate = t.rate; amount = n }) (t.rate * n ∷ []))
one_run true n s t e = refl
one_run false n s t e = (ap (λ (r : ℕ). r * n ∷ []) e, refl, refl)

behind : (s t u v : SampleState) (a b : List ℕ) (x y : UnitRun SampleState (List ℕ)) → a ≡ b → u.rate ≡ s.rate → v.rate ≡ t.rate → SameRate u v x y
    → SameRate s t (with_before sample_units a x) (with_before sample_units b y)
behind s t u v a b (Normally w o) (Normally z q) e f g h = ((λ i. e i ++ h.0 i), h.1 ∙ f, h.2 ∙ g)
behind s t u v a b (Normally w o) (ByFault q) e f g h = absurd h
behind s t u v a b (ByFault o) (Normally z q) e f g h = absurd h
behind s t u v a b (ByFault o) (ByFault q) e f g h = λ i. e i ++ h i

go_behind : (s t : SampleState) (x y : UnitRun SampleState (List ℕ)) (f g : SampleState → UnitRun SampleState (List ℕ)) → s.rate ≡ t.rate → SameRate s t x y
    → ((u v : SampleState) → u.rate ≡ v.rate → SameRate u v (f u) (g v)) → SameRate s t (then_from sample_units x f) (then_from sample_units y g)
go_behind s t (Normally u o) (Normally v q) f g e h k = behind s t u v o q (f u) (g v) h.0 h.1 h.2 (k u v (h.1 ∙ e ∙ sym h.2))
go_behind s t (Normally u o) (ByFault q) f g e h k = absurd h
go_behind s t (ByFault o) (Normally v q) f g e h k = absurd h
go_behind s t (ByFault o) (ByFault q) f g e h k = h

runs_same : (budget : ℕ) (ls ks : List (List (ℕ × ℕ))) (s t : SampleState) → AreSameButEarly is_early_flag ls ks → s.rate ≡ t.rate
    → SameRate s t (run_loads sample_units budget ls s) (run_loads sample_units budget ks t)
runs_same budget [] [] s t h e = (refl, refl, refl)
runs_same budget [] (k ∷ ks) s t h e = absurd h
runs_same budget (l ∷ ls) [] s t h e = absurd h
runs_same budget (l ∷ ls) (k ∷ ks) s t h e =
    let same = same_amount l k h.0 in
    let one = one_run (amount_set l == 0) (amount_set l) s t e in
    let two = subst (λ (n : ℕ). SameRate s t (sample_run (amount_set l) s) (sample_run n t)) same one in
    go_behind s t (sample_run (amount_set l) s) (sample_run (amount_set k) t) (run_loads sample_units budget ls) (run_loads sample_units budget ks) e two (λ u v f. runs_same budget ls ks u v h.1 f)

rate_agrees : (u s : SampleState) → u.rate ≡ s.rate → Agree sample_fixed u s
rate_agrees u s e k is =
    let z = eqb-true k 0 is in
    ap (sample_content u) z ∙ e ∙ ap (sample_content s) (sym z)

agrees_rate : (s t : SampleState) → Agree sample_fixed s t → s.rate ≡ t.rate
agrees_rate s t h = h 0 refl

same_run : (s t : SampleState) (x y : UnitRun SampleState (List ℕ)) → SameRate s t x y → IsSameRun (Agree sample_fixed) s t x y
same_run s t (Normally u o) (Normally v q) h = (h.0, rate_agrees u s h.1, rate_agrees v t h.2)
same_run s t (Normally u o) (ByFault q) h = absurd h
same_run s t (ByFault o) (Normally v q) h = absurd h
same_run s t (ByFault o) (ByFault q) h = h

sample_free : IsGroupIndependent sample_units (IsAmongGroups sample_groups) is_early_flag (Agree sample_fixed)
sample_free = record {
  groups = λ budget ls ks s t a b h same. same_run s t (run_loads sample_units budget ls s) (run_loads sample_units budget ks t) (runs_same budget ls ks s t h (agrees_rate s t same));
  terms = λ budget s t same. refl;
}

pub sample_meets_premises : SampleMeetsPremises
unfolding run_length run_count
sample_meets_premises = record {
  joins = sample_joins;
  free = sample_free;
  legal = refl;
  is_carried = (tt, (tt, (tt, ((sample_start, refl, refl, refl), (tt, ((sample_start, refl, refl, refl), tt))))));
  complete = refl;
}
