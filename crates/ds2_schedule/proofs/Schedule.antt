-- Whatever the order of the steps, each result is the one from the first state, and no group below the least fault is lost.
use Rattle.std.proofs.Common.{◌≡◌, ℕ, zero, suc, ◌+◌, ◌*◌, ◌<◌, ◌≤◌, List, [], ◌∷◌, ◌++◌, Bool, true, false, refl, sym, ap, ◌∙◌, subst, arith, inl, inr}
use Rattle.std.specs.Prelude.{Option, Some, ◌⊎◌, ◌&&◌, ◌||◌, map, replicate, slice_get, if◌then◌else◌, ◌==◌, nat_lt}
use Rattle.std.specs.List.{list_any, concat}
use Rattle.std.proofs.lemmas.List.Folds.{list_any-append}
use Rattle.std.proofs.lemmas.List.{map-append, append-nil, append_assoc}
use Rattle.std.proofs.lemmas.Bool.{cases_eq, cases_lt, eq-eqb, eqb-true}
use Rattle.std.proofs.lemmas.Bool.Decides.{nat_tests}
use Rattle.std.proofs.Math.Nat.{mul-le-mul_right}
use Rattle.ds2_schedule.specs.Runs.{run_length, times}
use Rattle.ds2_schedule.specs.Stage.{HandIn, Stage, StageStep, Draws, HandsIn, Retakes, changed_at, has_faulted, some_fault, fault_below, after_step, opening_stage, after_steps, replay, group_of}
use Rattle.ds2_schedule.proofs.Legal.{IsLegalStep, AreLegal, IsCompleteStage, legal_steps, complete_stage, or_true, and_true}
use Rattle.ds2_schedule.proofs.Steps.{sound_all, sound_start}
use Rattle.ds2_schedule.proofs.Runs.{enough, one_at_least}
use Rattle.ds2_schedule.specs.Schedule.{OneThreadAgrees, from_first, left_by_one, GroupProgram, FixedPart, AgreeAsStates, AreIndependent, IsCarriedStep, carried, with_result, brought, AreCarried, all_brought, IsCarried, results, result_at, up_to_fault, next_result, in_order, one_thread, EverySchedule}
use Rattle.ds2_schedule.specs.Bags.{answer_from}

module _ {A : Type 0} where
  get_changed : (f : A → A) (l : List A) (i j : ℕ) (b : A) → slice_get (changed_at f l i) j ≡ Some b → ((j ≡ i) × ((a : A) × (slice_get l j ≡ Some a) × (f a ≡ b))) ⊎ (slice_get l j ≡ Some b)
  get_changed f [] i j b e = inr e
  get_changed f (x ∷ xs) zero zero b e = inl (refl, (x, refl, cc))
  get_changed f (x ∷ xs) zero (suc j) b e = inr e
  get_changed f (x ∷ xs) (suc i) zero b e = inr e
  get_changed f (x ∷ xs) (suc i) (suc j) b e = elim (get_changed f xs i j b e) [ inl t ↦ inl (ap suc t.0, t.1) | inr t ↦ inr t ]

  get_replicate : (n j : ℕ) (a b : A) → slice_get (replicate n a) j ≡ Some b → b ≡ a
  get_replicate zero j a b e = absurd (cc)
  get_replicate (suc n) zero a b e = cc
  get_replicate (suc n) (suc j) a b e = get_replicate n j a b e

or_false : (a b : Bool) → (a || b) ≡ false → (a ≡ false) × (b ≡ false)
or_false true b e = absurd (cc)
or_false false b e = (refl, e)

true_and_false : (a b : Bool) → a ≡ true → (a && b) ≡ false → b ≡ false
true_and_false true b e f = f
true_and_false false b e f = absurd (cc)

-- independence, with what agreement always has: both ways, and one after the other
pub record Free {S O : Type 0} (agrees : S → S → Type 0) (p : GroupProgram S O) : Type 0 where
  pub same : (s t : S) (g : ℕ) → agrees s t → p.result s g ≡ p.result t g
  pub kept : (s t : S) (g : ℕ) → agrees s t → p.faults (p.result s g) ≡ false → agrees (p.leaves s g) s
  pub back : (s t : S) → agrees s t → agrees t s
  pub through : (s t u : S) → agrees s t → agrees t u → agrees s u

-- a state agrees with itself
pub itself : {S K C : Type 0} (is_state : S → Bool) (fixed : FixedPart S K C) (s : S) → is_state s ≡ true → AgreeAsStates is_state fixed s s
itself is_state fixed s state = (state, state, λ k is. refl)

pub free_of : {S K C O : Type 0} (is_state : S → Bool) (fixed : FixedPart S K C) (p : GroupProgram S O) → AreIndependent (AgreeAsStates is_state fixed) p → Free (AgreeAsStates is_state fixed) p
free_of is_state fixed p free = record {
  same = free.same;
  kept = λ s t g e calm. free.kept s g (itself is_state fixed s e.0) calm;
  back = λ s t e. (e.1, e.0, λ k is. sym (e.2 k is));
  through = λ s t u e f. (e.0, f.1, λ k is. e.2 k is ∙ f.2 k is);
}

-- each entry's fault is that of the first state's result
abbrev pub AreRight : {S O : Type 0} → GroupProgram S O → S → List HandIn → Type 0
AreRight p first [] = Unit {0}
AreRight p first (e ∷ es) = (e.faulted ≡ p.faults (p.result first e.group)) × AreRight p first es

some_same : {A : Type 0} (o : Option A) (a b : A) → o ≡ Some a → o ≡ Some b → a ≡ b
some_same o a b e f = cc

if_same : (b : Bool) {O : Type 0} (x y : O) (rest : Option O) → (b ≡ true → x ≡ y) → (b ≡ false → rest ≡ Some y) → (if b then Some x else rest) ≡ Some y
if_same true x y rest e f = ap Some (e refl)
if_same false x y rest e f = f refl

module _ {S O : Type 0} (agrees : S → S → Type 0) (p : GroupProgram S O) (free : Free agrees p) where
  right_more : (first : S) (es : List HandIn) (e : HandIn) → AreRight p first es → e.faulted ≡ p.faults (p.result first e.group) → AreRight p first (es ++ e ∷ [])
  right_more first [] e h new = (new, tt)
  right_more first (x ∷ es) e h new = (h.0, right_more first es e h.1 new)

  -- who has handed in no fault carries a state that agrees with the first
  pub record StillAgree (first : S) (states : List S) (handed : List HandIn) : Type 0 where
    pub agree : (w : ℕ) (s : S) → slice_get states w ≡ Some s → has_faulted w handed ≡ false → agrees s first
    pub right : AreRight p first handed

  entry : ℕ → ℕ → ℕ → Bool → HandIn
  entry w g rows faulted = record { party = w; group = g; rows = rows; faulted = faulted }

  no_new_fault : (v w g rows : ℕ) (faulted : Bool) (handed : List HandIn) → has_faulted v (handed ++ record { party = w; group = g; rows = rows; faulted = faulted } ∷ []) ≡ false
      → (has_faulted v handed ≡ false) × (v ≡ w → faulted ≡ false)
  no_new_fault v w g rows faulted handed e =
      let a = sym (list_any-append (λ (x : HandIn). x.party == v && x.faulted) handed (record { party = w; group = g; rows = rows; faulted = faulted } ∷ [])) ∙ e in
      let b = or_false (has_faulted v handed) ((w == v && faulted) || false) a in
      (b.0, λ i. true_and_false (w == v) faulted (eq-eqb w v (sym i)) (or_false (w == v && faulted) false b.1).0)

  pub agree_step : (m l workers : ℕ) (first : S) (states : List S) (s : Stage) (x : StageStep) → IsLegalStep workers s x → IsCarriedStep p states x
      → StillAgree first states s.handed → StillAgree first (carried p states x) (after_step m l workers s x).handed × (map (answer_from p first) (after_step m l workers s x).handed ≡ map (answer_from p first) s.handed ++ brought p states x)
  agree_step m l workers first states s (Draws w d) legal told_so h = (h, sym (append-nil (map (answer_from p first) s.handed)))
  agree_step m l workers first states s Retakes legal told_so h = (h, sym (append-nil (map (answer_from p first) s.handed)))
  agree_step m l workers first states s (HandsIn w g rows faulted) legal told_so h =
      let t = told_so.0 in
      let same : agrees t first = h.agree w t told_so.1 legal.1 in
      let e : HandIn = record { party = w; group = g; rows = rows; faulted = faulted } in
      let r : p.result t g ≡ p.result first g = free.same t first g same in (
        record {
          agree = λ v u at calm.
              let n = no_new_fault v w g rows faulted s.handed calm in
              elim (get_changed (λ z. p.leaves z g) states w v u at) [
                | inl c ↦ (
                    let z = c.1.0 in
                    let i : z ≡ t = some_same (slice_get states w) z t (sym (ap (slice_get states) c.0) ∙ c.1.1) told_so.1 in
                    let normal : p.faults (p.result t g) ≡ false = sym told_so.3 ∙ n.1 c.0 in
                    subst (λ (y : S). agrees y first) (ap (λ (y : S). p.leaves y g) (sym i) ∙ c.1.2) (free.through (p.leaves t g) t first (free.kept t first g same normal) same))
                | inr c ↦ h.agree v u c n.0
              ];
          right = right_more first s.handed e h.right (told_so.3 ∙ ap p.faults r);
        },
        map-append (answer_from p first) s.handed (e ∷ []) ∙ ap (λ (o : List (ℕ × O)). map (answer_from p first) s.handed ++ o) (ap (λ (y : O). (g, y) ∷ []) (sym r) ∙ sym (ap (with_result p g) told_so.1)),
      )

  pub agree_all : (m l workers : ℕ) (first : S) (states : List S) (s : Stage) (xs : List StageStep) → AreLegal m l workers s xs → AreCarried p states xs
      → StillAgree first states s.handed → AreRight p first (after_steps m l workers s xs).handed × (map (answer_from p first) (after_steps m l workers s xs).handed ≡ map (answer_from p first) s.handed ++ all_brought p states xs)
  agree_all m l workers first states s [] legal told_so h = (h.right, sym (append-nil (map (answer_from p first) s.handed)))
  agree_all m l workers first states s (x ∷ xs) legal told_so h =
      let one = agree_step m l workers first states s x legal.0 told_so.0 h in
      let rest = agree_all m l workers first (carried p states x) (after_step m l workers s x) xs legal.1 told_so.1 one.0 in
      (rest.0, rest.1 ∙ ap (λ (o : List (ℕ × O)). o ++ all_brought p (carried p states x) xs) one.1 ∙ append_assoc (map (answer_from p first) s.handed) (brought p states x) (all_brought p (carried p states x) xs))

  look_told : (first : S) (g : ℕ) (es : List HandIn) → 1 ≤ times g (map group_of es) → result_at g (map (answer_from p first) es) ≡ Some (p.result first g)
  look_told first g [] h = absurd (omega (arith, h))
  look_told first g (e ∷ es) h = if_same (e.group == g) (p.result first e.group) (p.result first g) (result_at g (map (answer_from p first) es))
      (λ i. ap (p.result first) (eqb-true e.group g i))
      (λ n. look_told first g es (omega (arith, h, ap {B = ℕ} (λ (b : Bool). if b then 1 else 0) n)))

  fault_at : (first : S) (es : List HandIn) → AreRight p first es → some_fault es ≡ true → (k : ℕ) × (1 ≤ times k (map group_of es)) × (p.faults (p.result first k) ≡ true)
  fault_at first [] h e = absurd (cc)
  fault_at first (x ∷ es) h e = elim (or_true x.faulted (some_fault es) e) [
    | inl t ↦ (x.group, omega (arith, ap {B = ℕ} (λ (b : Bool). if b then 1 else 0) (eq-eqb x.group x.group refl)), sym h.0 ∙ t)
    | inr t ↦ (let k = fault_at first es h.1 t in (k.0, omega (arith, k.1), k.2))
  ]

  lower_fault : (first : S) (g : ℕ) (es : List HandIn) → AreRight p first es → fault_below g es ≡ true → (k : ℕ) × (k < g) × (p.faults (p.result first k) ≡ true)
  lower_fault first g [] h e = absurd (cc)
  lower_fault first g (x ∷ es) h e = elim (or_true (x.faulted && nat_lt x.group g) (fault_below g es) e) [
    | inl t ↦ (let b = and_true x.faulted (nat_lt x.group g) t in (x.group, grind (arith, nat_tests, b.1), sym h.0 ∙ b.0))
    | inr t ↦ lower_fault first g es h.1 t
  ]

  goes_same : (b c : Bool) (o q : O) (xs ys : List O) → o ≡ q → b ≡ c → (c ≡ false → xs ≡ ys) → up_to_fault b o xs ≡ up_to_fault c q ys
  goes_same true true o q xs ys e f h = ap (λ (k : O). k ∷ []) e
  goes_same true false o q xs ys e f h = absurd (cc)
  goes_same false true o q xs ys e f h = absurd (cc)
  goes_same false false o q xs ys e f h = λ i. e i ∷ h refl i

  -- the results by number are the fold's, where each is there that has no fault below it
  in_order_is : (first s : S) (m : ℕ) (done : List (ℕ × O)) (g n : ℕ) → ((k : ℕ) → k < m → ((j : ℕ) → j < k → p.faults (p.result first j) ≡ false) → result_at k done ≡ Some (p.result first k))
      → g + n ≡ m → ((j : ℕ) → j < g → p.faults (p.result first j) ≡ false) → agrees s first → in_order p.faults done g n ≡ one_thread p s g n
  in_order_is first s m done g zero there is calm same = refl
  in_order_is first s m done g (suc n) there is calm same =
      let r = free.same s first g same in
      ap (λ (o : Option O). next_result p.faults o (in_order p.faults done (g + 1) n)) (there g (omega (arith, is)) calm)
      ∙ goes_same (p.faults (p.result first g)) (p.faults (p.result s g)) (p.result first g) (p.result s g) _ _ (sym r) (ap p.faults (sym r)) (λ normal.
      in_order_is first (p.leaves s g) m done (g + 1) n there (omega (arith, is))
      (λ j low. elim (cases_eq j g) [
        | inl e ↦ ap (λ (k : ℕ). p.faults (p.result first k)) e ∙ ap p.faults (sym r) ∙ normal
        | inr d ↦ calm j (omega (arith, low, d))
      ])
      (free.through (p.leaves s g) s first (free.kept s first g same normal) same))

  pub agree_start : (workers : ℕ) (first : S) → agrees first first → StillAgree first (replicate (workers + 1) first) []
  agree_start workers first begins = record { agree = λ w t at calm. subst (λ (y : S). agrees y first) (sym (get_replicate (workers + 1) w first t at)) begins; right = tt }

  pub every_schedule : (m workers : ℕ) (first : S) (xs : List StageStep) → agrees first first → AreLegal m (run_length m workers) workers (opening_stage workers) xs → IsCarried p workers first xs → IsCompleteStage m (run_length m workers) (replay m workers xs)
      → in_order p.faults (results p workers first xs) 0 m ≡ one_thread p first 0 m
  every_schedule m workers first xs begins legal told_so complete =
      let l = run_length m workers in
      let s = replay m workers xs in
      let states = replicate (workers + 1) first in
      let sound = sound_all m l workers (opening_stage workers) xs (sound_start m l workers) legal in
      let all = agree_all m l workers first states (opening_stage workers) xs legal told_so (agree_start workers first begins) in
      in_order_is first first m (results p workers first xs) 0 m (λ k low calm.
      let quiet : (j : ℕ) → j < k → p.faults (p.result first j) ≡ true → ⊥ = (λ j less e. let a = sym e ∙ calm j less in cc) in
      let reached : k < s.drawn * l = elim complete.0 [
        | inl e ↦ (let a = enough m l (one_at_least m workers) in let b = mul-le-mul_right l e in omega (arith, a, b, low))
        | inr e ↦ (let f = fault_at first s.handed all.0 e in let o = sound.once f.0 in let n : (f.0 < k → ⊥) = (λ less. quiet f.0 less f.2) in grind (arith, nat_tests, f.1, o, n))
      ] in
      let o = sound.once k in
      let here : 1 ≤ times k (map group_of s.handed) = elim (cases_lt 0 (times k (concat s.left))) [
        | inr none ↦ grind (arith, nat_tests, o, none, reached, low)
        | inl some ↦ absurd (let f = lower_fault first k s.handed all.0 (complete.1 k (omega (arith, some))) in quiet f.0 f.1 f.2)
      ] in
      ap (result_at k) (sym all.1) ∙ look_told first k s.handed here)
      (omega arith) (λ j less. absurd (omega (arith, less))) begins

  pub fold_answers : (first s : S) (g n : ℕ) → agrees s first → one_thread p s g n ≡ from_first p first g n
  fold_answers first s g zero same = refl
  fold_answers first s g (suc n) same =
      let r = free.same s first g same in
      goes_same (p.faults (p.result s g)) (p.faults (p.result first g)) (p.result s g) (p.result first g) _ _ r (ap p.faults r) (λ normal.
      fold_answers first (p.leaves s g) (g + 1) n (free.through (p.leaves s g) s first (free.kept s first g same (ap p.faults r ∙ normal)) same))

  goes_calm : (b : Bool) (o : O) (rest : List O) → p.faults o ≡ b → list_any p.faults (up_to_fault b o rest) ≡ false → (b ≡ false) × (list_any p.faults rest ≡ false)
  goes_calm true o rest e calm = absurd (let f = or_false (p.faults o) false calm in let g = f.0 in cc)
  goes_calm false o rest e calm = (refl, (or_false (p.faults o) (list_any p.faults rest) calm).1)

  pub fold_leaves : (first s : S) (g n : ℕ) → agrees s first → list_any p.faults (one_thread p s g n) ≡ false → agrees (left_by_one p s g n) first
  fold_leaves first s g zero same calm = same
  fold_leaves first s g (suc n) same calm =
      let c = goes_calm (p.faults (p.result s g)) (p.result s g) (one_thread p (p.leaves s g) (g + 1) n) refl calm in
      fold_leaves first (p.leaves s g) (g + 1) n (free.through (p.leaves s g) s first (free.kept s first g same c.0) same) c.1

pub every_schedule_is : (S K C O : Type 0) → EverySchedule S K C O
every_schedule_is S K C O p is_state fixed m workers first xs free state legal carried_so complete =
    let l = run_length m workers in
    every_schedule (AgreeAsStates is_state fixed) p (free_of is_state fixed p free) m workers first xs (itself is_state fixed first state) (legal_steps m l workers (opening_stage workers) xs legal) carried_so (complete_stage m l (replay m workers xs) complete)

pub one_thread_agrees : (S K C O : Type 0) → OneThreadAgrees S K C O
one_thread_agrees S K C O p is_state fixed first m free state =
    let f = free_of is_state fixed p free in
    let begins = itself is_state fixed first state in
    (fold_answers (AgreeAsStates is_state fixed) p f first first 0 m begins, λ calm. fold_leaves (AgreeAsStates is_state fixed) p f first first 0 m begins calm)
