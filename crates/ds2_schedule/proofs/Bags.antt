-- The history that bags stand for is legal and complete.
use Rattle.std.proofs.Common.{◌≡◌, ℕ, zero, suc, ◌+◌, ◌-◌, ◌*◌, ◌<◌, ◌≤◌, List, [], ◌∷◌, ◌++◌, Bool, true, false, refl, sym, ap, ◌∙◌, subst, arith, inl, inr, length}
use Rattle.std.specs.List.{range_with_len, concat}
use Rattle.std.specs.Prelude.{Some, ◌⊎◌, ◌&&◌, ◌||◌, not, min, map, replicate, slice_get, if◌then◌else◌, ◌==◌, nat_lt}
use Rattle.std.proofs.lemmas.List.Folds.{list_any-append}
use Rattle.std.proofs.lemmas.List.{map-append, append-nil, append_assoc, length-append, length-replicate, replicate-append-replicate}
use Rattle.std.proofs.lemmas.Bool.{cases_eq, cases_lt, eqb-true}
use Rattle.std.proofs.lemmas.Bool.Decides.{nat_tests}
use Rattle.std.proofs.Math.Nat.{mul-le-mul_right}
use Rattle.ds2_schedule.specs.Runs.{run_length, run_count, run_groups, times, once_below}
use Rattle.ds2_schedule.specs.Stage.{HandIn, Stage, StageStep, Draws, HandsIn, Retakes, changed_at, without_next, ascending, has_faulted, some_fault, fault_below, after_step, opening_stage, after_steps, group_of}
use Rattle.ds2_schedule.specs.Sums.{has_fault_at}
use Rattle.ds2_schedule.proofs.Legal.{IsLegalStep, AreLegal, IsCompleteStage, left_of, are_legal_of, is_complete_of, and_true, or_true, or_left, or_right}
use Rattle.ds2_schedule.specs.Bags.{GroupRun, Bag, group_in, numbers_in, groups_in, groups_of_runs, is_among, AreFrom, IsAscending, OnlyLastFaults, IsBag, AreBags, owner, worker_draws, caller_draws, run_hand_ins, all_hand_ins, history, handed_by, all_handed, missing, StageHasEnded, AreWhole, EndedIsComplete, WholeBagsHaveAll}
use Rattle.ds2_schedule.proofs.Counts.{times-append, times_numbers, left_last, lt_true, lt_false}
use Rattle.ds2_schedule.proofs.Runs.{enough, one_at_least}
use Rattle.ds2_schedule.proofs.Steps.{Sound, sound_all, sound_start}
use Rattle.ds2_schedule.proofs.Ascending.{none_lower, times_head, same_list, ascending_is, numbers_are_from, numbers_ascend, filter_ascends, append_ascends, runs_numbers, times_kept, times_dropped, from_lower}

-- legal steps from one state to another
pub record Goes (m l workers : ℕ) (s : Stage) (xs : List StageStep) (t : Stage) : Type 0 where
  pub legal : AreLegal m l workers s xs
  pub ends : after_steps m l workers s xs ≡ t

goes_nil : (m l workers : ℕ) (s t : Stage) → s ≡ t → Goes m l workers s [] t
goes_nil m l workers s t e = record { legal = tt; ends = e }

goes_step : (m l workers : ℕ) (s s' t : Stage) (x : StageStep) (xs : List StageStep) → IsLegalStep workers s x → after_step m l workers s x ≡ s' → Goes m l workers s' xs t → Goes m l workers s (x ∷ xs) t
goes_step m l workers s s' t x xs legal e h =
    let g = subst (λ (z : Stage). Goes m l workers z xs t) (sym e) h in
    record { legal = (legal, g.legal); ends = g.ends }

goes_append : (m l workers : ℕ) (s t u : Stage) (xs ys : List StageStep) → Goes m l workers s xs t → Goes m l workers t ys u → Goes m l workers s (xs ++ ys) u
goes_append m l workers s t u [] ys h k = subst (λ (z : Stage). Goes m l workers z ys u) (sym h.ends) k
goes_append m l workers s t u (x ∷ xs) ys h k =
    let g = goes_append m l workers (after_step m l workers s x) t u xs ys (record { legal = h.legal.1; ends = h.ends }) k in
    record { legal = (h.legal.0, g.legal); ends = g.ends }

goes_sound : (m l workers : ℕ) (s t : Stage) (xs : List StageStep) → Sound m l workers s → Goes m l workers s xs t → Sound m l workers t
goes_sound m l workers s t xs h g = subst (Sound m l workers) g.ends (sound_all m l workers s xs h g.legal)

-- the range_with_len below k
abbrev below : ℕ → List ℕ → List ℕ
below k [] = []
below k (x ∷ xs) = if nat_lt x k then x ∷ below k xs else below k xs

if_true : (b : Bool) (xs ys : List ℕ) → b ≡ true → (if b then xs else ys) ≡ xs
if_true true xs ys e = refl
if_true false xs ys e = absurd (cc)

if_false : (b : Bool) (xs ys : List ℕ) → b ≡ false → (if b then xs else ys) ≡ ys
if_false true xs ys e = absurd (cc)
if_false false xs ys e = refl

kept_here : (k x : ℕ) (xs : List ℕ) → x < k → below k (x ∷ xs) ≡ x ∷ below k xs
kept_here k x xs h = if_true (nat_lt x k) (x ∷ below k xs) (below k xs) (lt_true x k h)

left_out : (k x : ℕ) (xs : List ℕ) → k ≤ x → below k (x ∷ xs) ≡ below k xs
left_out k x xs h = if_false (nat_lt x k) (x ∷ below k xs) (below k xs) (lt_false x k h)

below_zero : (xs : List ℕ) → below 0 xs ≡ []
below_zero [] = refl
below_zero (x ∷ xs) = left_out 0 x xs (omega arith) ∙ below_zero xs

none_tail : (x : ℕ) (y : ℕ) (ys : List ℕ) → times x (y ∷ ys) ≡ 0 → times x ys ≡ 0
none_tail x y ys h = omega (arith, h)

none_head : (x : ℕ) (ys : List ℕ) → times x (x ∷ ys) ≡ 0 → ⊥
none_head x ys h = omega (arith, h, times_head x ys)

below_same : (k : ℕ) (xs : List ℕ) → times k xs ≡ 0 → below (k + 1) xs ≡ below k xs
below_same k [] h = refl
below_same k (x ∷ xs) h = elim (cases_lt x k) [
  | inl low ↦ kept_here (k + 1) x xs (omega (arith, low)) ∙ ap (λ (t : List ℕ). x ∷ t) (below_same k xs (none_tail k x xs h)) ∙ sym (kept_here k x xs low)
  | inr high ↦ elim (cases_eq x k) [
    | inl e ↦ absurd (none_head k xs (subst (λ (y : ℕ). times k (y ∷ xs) ≡ 0) e h))
    | inr n ↦ left_out (k + 1) x xs (omega (arith, high, n)) ∙ below_same k xs (none_tail k x xs h) ∙ sym (left_out k x xs high)
  ]
]

below_none : (k : ℕ) (xs : List ℕ) → AreFrom k xs → below k xs ≡ []
below_none k [] h = refl
below_none k (x ∷ xs) h = left_out k x xs h.0 ∙ below_none k xs h.1

below_one : (k : ℕ) (xs : List ℕ) → IsAscending xs → times k xs ≡ 1 → below (k + 1) xs ≡ below k xs ++ k ∷ []
below_one k [] a h = absurd (omega (arith, h))
below_one k (x ∷ xs) a h = elim (cases_lt x k) [
  | inl low ↦ (let n : times k xs ≡ 1 = grind (arith, nat_tests, h, low) in
      kept_here (k + 1) x xs (omega (arith, low)) ∙ ap (λ (t : List ℕ). x ∷ t) (below_one k xs a.1 n) ∙ ap (λ (t : List ℕ). t ++ k ∷ []) (sym (kept_here k x xs low)))
  | inr high ↦ elim (cases_lt k x) [
    | inl more ↦ absurd (let n = none_lower x k (x ∷ xs) (omega arith, a.0) more in omega (arith, n, h))
    | inr less ↦ (
        let e : x ≡ k = omega (arith, high, less) in
        let n : times k xs ≡ 0 = omega (arith, h, ap {B = ℕ} (λ (y : ℕ). times k (y ∷ xs)) e, times_head k xs) in
        let none : below k xs ≡ [] = below_none k xs (from_lower x k xs high a.0) in
        kept_here (k + 1) x xs (omega (arith, less)) ∙ ap (λ (t : List ℕ). x ∷ t) (below_same k xs n ∙ none) ∙ ap (λ (y : ℕ). y ∷ []) e
        ∙ ap (λ (t : List ℕ). t ++ k ∷ []) (sym (left_out k x xs high ∙ none)))
  ]
]

below_all : (k : ℕ) (xs : List ℕ) → ((x : ℕ) → k ≤ x → times x xs ≡ 0) → below k xs ≡ xs
below_all k [] h = refl
below_all k (x ∷ xs) h = elim (cases_lt x k) [
  | inl low ↦ kept_here k x xs low ∙ ap (λ (t : List ℕ). x ∷ t) (below_all k xs (λ y t. none_tail y x xs (h y t)))
  | inr high ↦ absurd (none_head x xs (h x high))
]

runs_more : (m l d : ℕ) (ds : List ℕ) → groups_of_runs m l (ds ++ d ∷ []) ≡ groups_of_runs m l ds ++ run_groups m l d
runs_more m l d [] = append-nil (run_groups m l d)
runs_more m l d (e ∷ ds) = ap (λ (t : List ℕ). run_groups m l e ++ t) (runs_more m l d ds) ∙ sym (append_assoc (run_groups m l e) (groups_of_runs m l ds) (run_groups m l d))

or_false : (a b : Bool) → (a || b) ≡ false → (a ≡ false) × (b ≡ false)
or_false true b e = absurd (cc)
or_false false b e = (refl, e)

pub not_among : (x : ℕ) (xs : List ℕ) → is_among x xs ≡ false → times x xs ≡ 0
not_among x [] e = refl
not_among x (y ∷ ys) e = let f = or_false (y == x) (is_among x ys) e in omega (arith, ap {B = ℕ} (λ (b : Bool). if b then 1 else 0) f.0, not_among x ys f.1)

pub among : (x : ℕ) (xs : List ℕ) → is_among x xs ≡ true → 1 ≤ times x xs
among x [] e = absurd (cc)
among x (y ∷ ys) e = elim (or_true (y == x) (is_among x ys) e) [
  | inl t ↦ omega (arith, ap {B = ℕ} (λ (b : Bool). if b then 1 else 0) t)
  | inr t ↦ omega (arith, among x ys t)
]

-- what is left for each worker, where the run_count below k were drawn
abbrev lefts : ℕ → ℕ → ℕ → List Bag → List (List ℕ)
lefts m l k [] = []
lefts m l k (b ∷ bs) = groups_of_runs m l (below k b.drawn) ∷ lefts m l k bs

two_lists : (xs ys : List ℕ) (ls rs : List (List ℕ)) → xs ≡ ys → ls ≡ rs → xs ∷ ls ≡ ys ∷ rs
two_lists xs ys ls rs e f = λ i. e i ∷ f i

lefts_same : (m l k : ℕ) (bags : List Bag) → times k (concat (map numbers_in bags)) ≡ 0 → lefts m l (k + 1) bags ≡ lefts m l k bags
lefts_same m l k [] h = refl
lefts_same m l k (b ∷ bs) h =
    let t = times-append k b.drawn (concat (map numbers_in bs)) in
    two_lists _ _ _ _ (ap (groups_of_runs m l) (below_same k b.drawn (omega (arith, t, h)))) (lefts_same m l k bs (omega (arith, t, h)))

owned : (m l k : ℕ) (b : Bag) (bs : List Bag) (post : List (List ℕ)) (c : Bool) → is_among k b.drawn ≡ c → IsBag m l b → times k b.drawn + times k (concat (map numbers_in bs)) ≡ 1
    → (times k (concat (map numbers_in bs)) ≡ 1 → (changed_at (λ gs. gs ++ run_groups m l k) (lefts m l k bs ++ post) (owner k bs) ≡ lefts m l (k + 1) bs ++ post) × (owner k bs < length bs))
    → (changed_at (λ gs. gs ++ run_groups m l k) (lefts m l k (b ∷ bs) ++ post) (if c then 0 else suc (owner k bs)) ≡ lefts m l (k + 1) (b ∷ bs) ++ post) × ((if c then 0 else suc (owner k bs)) < suc (length bs))
owned m l k b bs post true e bag one rest =
    let some = among k b.drawn e in (
      two_lists _ _ _ _ (sym (ap (groups_of_runs m l) (below_one k b.drawn bag.ascends (omega (arith, one, some))) ∙ runs_more m l k (below k b.drawn))) (ap (λ (t : List (List ℕ)). t ++ post) (sym (lefts_same m l k bs (omega (arith, one, some))))),
      omega arith,
    )
owned m l k b bs post false e bag one rest =
    let none = not_among k b.drawn e in
    let r = rest (omega (arith, one, none)) in (
      two_lists _ _ _ _ (ap (groups_of_runs m l) (sym (below_same k b.drawn none))) r.0,
      omega (arith, r.1),
    )

drawn_step : (m l k : ℕ) (bags : List Bag) (post : List (List ℕ)) → AreBags m l bags → times k (concat (map numbers_in bags)) ≡ 1
    → (changed_at (λ gs. gs ++ run_groups m l k) (lefts m l k bags ++ post) (owner k bags) ≡ lefts m l (k + 1) bags ++ post) × (owner k bags < length bags)
drawn_step m l k [] post h one = absurd (omega (arith, one))
drawn_step m l k (b ∷ bs) post h one =
    owned m l k b bs post (is_among k b.drawn) refl h.0 (omega (arith, one, times-append k b.drawn (concat (map numbers_in bs)))) (λ t. drawn_step m l k bs post h.1 t)

abbrev state : ℕ → List (List ℕ) → List HandIn → Stage
state d left handed = record { drawn = d; left = left; handed = handed }

same_state : (d : ℕ) (ls rs : List (List ℕ)) (handed : List HandIn) → ls ≡ rs → state d ls handed ≡ state d rs handed
same_state d ls rs handed e = ap (λ (t : List (List ℕ)). state d t handed) e

draws_go : (m l workers k n word : ℕ) (bags : List Bag) → length bags ≡ workers → AreBags m l bags → ((x : ℕ) → times x (concat (map numbers_in bags)) ≡ once_below x word) → k + n ≡ word
    → Goes m l workers (state k (lefts m l k bags ++ [] ∷ []) []) (worker_draws bags k n) (state word (lefts m l word bags ++ [] ∷ []) [])
draws_go m l workers k zero word bags many h once is = goes_nil m l workers _ _ (let e : k ≡ word = omega (arith, is) in ap (λ (j : ℕ). state j (lefts m l j bags ++ [] ∷ []) []) e)
draws_go m l workers k (suc n) word bags many h once is =
    let one : times k (concat (map numbers_in bags)) ≡ 1 = (let o = once k in grind (arith, nat_tests, o, is)) in
    let d = drawn_step m l k bags ([] ∷ []) h one in
    goes_step m l workers _ (state (k + 1) (lefts m l (k + 1) bags ++ [] ∷ []) []) _ (Draws (owner k bags) k) (worker_draws bags (k + 1) n)
    (omega (arith, d.1, many), refl)
    (same_state (k + 1) _ _ [] d.0)
    (draws_go m l workers (k + 1) n word bags many h once (omega (arith, is)))

lefts_zero : (m l : ℕ) (bags : List Bag) → lefts m l 0 bags ≡ replicate (length bags) []
lefts_zero m l [] = refl
lefts_zero m l (b ∷ bs) = two_lists _ _ _ _ (ap (groups_of_runs m l) (below_zero b.drawn)) (lefts_zero m l bs)

start_is : (m l workers : ℕ) (bags : List Bag) → length bags ≡ workers → opening_stage workers ≡ state 0 (lefts m l 0 bags ++ [] ∷ []) []
start_is m l workers bags many =
    let none : List ℕ = [] in
    same_state 0 _ _ [] (sym (replicate-append-replicate workers 1 none) ∙ ap (λ (t : List (List ℕ)). t ++ none ∷ []) (ap (λ (n : ℕ). replicate n none) (sym many) ∙ sym (lefts_zero m l bags)))

-- the groups of each bag's run_count
abbrev wholes : ℕ → ℕ → List Bag → List (List ℕ)
wholes m l [] = []
wholes m l (b ∷ bs) = groups_of_runs m l b.drawn ∷ wholes m l bs

lefts_all : (m l word : ℕ) (bags : List Bag) → ((x : ℕ) → word ≤ x → times x (concat (map numbers_in bags)) ≡ 0) → lefts m l word bags ≡ wholes m l bags
lefts_all m l word [] h = refl
lefts_all m l word (b ∷ bs) h = two_lists _ _ _ _
    (ap (groups_of_runs m l) (below_all word b.drawn (λ x t. omega (arith, h x t, times-append x b.drawn (concat (map numbers_in bs))))))
    (lefts_all m l word bs (λ x t. omega (arith, h x t, times-append x b.drawn (concat (map numbers_in bs)))))

module _ {A : Type 0} where
  get_at : (pre post : List A) (a : A) → slice_get (pre ++ a ∷ post) (length pre) ≡ Some a
  get_at [] post a = refl
  get_at (x ∷ pre) post a = get_at pre post a

  change_at : (f : A → A) (pre post : List A) (a : A) → changed_at f (pre ++ a ∷ post) (length pre) ≡ pre ++ f a ∷ post
  change_at f [] post a = refl
  change_at f (x ∷ pre) post a = ap (λ (t : List A). x ∷ t) (change_at f pre post a)

more_calm : (v w g rows : ℕ) (faulted : Bool) (handed : List HandIn) → has_faulted v handed ≡ false → (w == v && faulted) ≡ false
    → has_faulted v (handed ++ record { party = w; group = g; rows = rows; faulted = faulted } ∷ []) ≡ false
more_calm v w g rows faulted handed e f =
    list_any-append (λ (x : HandIn). x.party == v && x.faulted) handed (record { party = w; group = g; rows = rows; faulted = faulted } ∷ []) ∙ (λ i. e i || (f i || false))

and_false : (b : Bool) → (b && false) ≡ false
and_false true = refl
and_false false = refl

calm_or_last : (w : ℕ) (faulted : Bool) (handed : List HandIn) (g rows : ℕ) (e : GroupRun) (es : List GroupRun) → has_faulted w handed ≡ false → (faulted ≡ true → e ∷ es ≡ []) → has_faulted w (handed ++ record { party = w; group = g; rows = rows; faulted = faulted } ∷ []) ≡ false
calm_or_last w true handed g rows e es calm last = absurd (let n = last refl in cc)
calm_or_last w false handed g rows e es calm last = more_calm w w g rows false handed calm (and_false (w == w))

-- a party hands in the first ones of its groups
party_goes : (m l workers w d : ℕ) (dones : List GroupRun) (rest : List ℕ) (pre post : List (List ℕ)) (handed : List HandIn) → length pre ≡ w → OnlyLastFaults dones
    → ((e : GroupRun) (es : List GroupRun) → dones ≡ e ∷ es → has_faulted w handed ≡ false)
    → Goes m l workers (state d (pre ++ (map group_in dones ++ rest) ∷ post) handed) (run_hand_ins w dones) (state d (pre ++ rest ∷ post) (handed ++ handed_by w dones))
party_goes m l workers w d [] rest pre post handed at last calm = goes_nil m l workers _ _ (ap (state d (pre ++ rest ∷ post)) (sym (append-nil handed)))
party_goes m l workers w d (x ∷ xs) rest pre post handed at last calm =
    let e : HandIn = record { party = w; group = x.group; rows = x.rows; faulted = x.faulted } in
    let gs = map group_in xs ++ rest in
    let quiet = calm x xs refl in
    let r = party_goes m l workers w d xs rest pre post (handed ++ e ∷ []) at last.1 (λ y ys is. calm_or_last w x.faulted handed x.group x.rows y ys quiet (λ f. sym is ∙ last.0 f)) in
    goes_step m l workers _ (state d (pre ++ gs ∷ post) (handed ++ e ∷ [])) _ (HandsIn w x.group x.rows x.faulted) (run_hand_ins w xs)
    ((gs, ap (slice_get (pre ++ (x.group ∷ gs) ∷ post)) (sym at) ∙ get_at pre post (x.group ∷ gs)), quiet)
    (same_state d _ _ (handed ++ e ∷ []) (ap (changed_at without_next (pre ++ (x.group ∷ gs) ∷ post)) (sym at) ∙ change_at without_next pre post (x.group ∷ gs)))
    (subst (λ (t : List HandIn). Goes m l workers (state d (pre ++ gs ∷ post) (handed ++ e ∷ [])) (run_hand_ins w xs) (state d (pre ++ rest ∷ post) t)) (append_assoc handed (e ∷ []) (handed_by w xs)) r)

-- what the workers leave
rests : (m l : ℕ) (bags : List Bag) → AreBags m l bags → List (List ℕ)
rests m l [] h = []
rests m l (b ∷ bs) h = h.0.begins.0 ∷ rests m l bs h.1

differs : (v w : ℕ) → (v ≡ w → ⊥) → (b : Bool) → (w == v) ≡ b → (c : Bool) → (b && c) ≡ false
differs v w n true e c = absurd (n (sym (eqb-true w v e)))
differs v w n false e c = refl

others_calm : (v w : ℕ) (dones : List GroupRun) (handed : List HandIn) → (v ≡ w → ⊥) → has_faulted v handed ≡ false → has_faulted v (handed ++ handed_by w dones) ≡ false
others_calm v w [] handed n calm = ap (has_faulted v) (append-nil handed) ∙ calm
others_calm v w (x ∷ xs) handed n calm =
    let e : HandIn = record { party = w; group = x.group; rows = x.rows; faulted = x.faulted } in
    ap (has_faulted v) (sym (append_assoc handed (e ∷ []) (handed_by w xs)))
    ∙ others_calm v w xs (handed ++ e ∷ []) n (more_calm v w x.group x.rows x.faulted handed calm (differs v w n (w == v) refl x.faulted))

length_snoc : (pre : List (List ℕ)) (gs : List ℕ) → length (pre ++ gs ∷ []) ≡ length pre + 1
length_snoc pre gs = length-append pre (gs ∷ [])

-- all workers hand in
workers_go : (m l workers w d : ℕ) (bags : List Bag) (h : AreBags m l bags) (pre post : List (List ℕ)) (handed : List HandIn) → length pre ≡ w → ((v : ℕ) → w ≤ v → has_faulted v handed ≡ false)
    → Goes m l workers (state d (pre ++ (wholes m l bags ++ post)) handed) (all_hand_ins w bags) (state d (pre ++ (rests m l bags h ++ post)) (handed ++ all_handed w bags))
unfolding rests
workers_go m l workers w d [] h pre post handed at calm = goes_nil m l workers _ _ (ap (state d (pre ++ post)) (sym (append-nil handed)))
workers_go m l workers w d (b ∷ bs) h pre post handed at calm =
    let rest = h.0.begins.0 in
    let behind = wholes m l bs ++ post in
    let mine = handed_by w b.runs in
    let one = party_goes m l workers w d b.runs rest pre behind handed at h.0.faults (λ e es is. calm w (omega arith)) in
    let two = workers_go m l workers (w + 1) d bs h.1 (pre ++ rest ∷ []) post (handed ++ mine) (omega (arith, at, length_snoc pre rest))
    (λ v low. others_calm v w b.runs handed (λ e. omega (arith, e, low)) (calm v (omega (arith, low)))) in
    let two_from = subst (λ (t : List (List ℕ)). Goes m l workers (state d t (handed ++ mine)) (all_hand_ins (w + 1) bs) (state d ((pre ++ rest ∷ []) ++ (rests m l bs h.1 ++ post)) ((handed ++ mine) ++ all_handed (w + 1) bs))) (append_assoc pre (rest ∷ []) behind) two in
    let both = goes_append m l workers _ _ _ (run_hand_ins w b.runs) (all_hand_ins (w + 1) bs) one two_from in
    let from_whole = subst (λ (t : List ℕ). Goes m l workers (state d (pre ++ t ∷ behind) handed) (run_hand_ins w b.runs ++ all_hand_ins (w + 1) bs) (state d ((pre ++ rest ∷ []) ++ (rests m l bs h.1 ++ post)) ((handed ++ mine) ++ all_handed (w + 1) bs))) h.0.begins.1 both in
    subst (λ (t : Stage). Goes m l workers (state d (pre ++ groups_of_runs m l b.drawn ∷ behind) handed) (run_hand_ins w b.runs ++ all_hand_ins (w + 1) bs) t)
    (λ i. state d (append_assoc pre (rest ∷ []) (rests m l bs h.1 ++ post) i) (append_assoc handed mine (all_handed (w + 1) bs) i)) from_whole

-- one party worker_draws
own_go : (m l workers w a n : ℕ) (pre : List (List ℕ)) (gs : List ℕ) (handed : List HandIn) → length pre ≡ w → w ≤ workers
    → Goes m l workers (state a (pre ++ gs ∷ []) handed) (caller_draws w a n) (state (a + n) (pre ++ (gs ++ groups_of_runs m l (range_with_len a n)) ∷ []) handed)
own_go m l workers w a zero pre gs handed at low = goes_nil m l workers _ _ (let e : a ≡ a + 0 = omega arith in λ i. state (e i) (pre ++ sym (append-nil gs) i ∷ []) handed)
own_go m l workers w a (suc n) pre gs handed at low =
    let e : a + 1 + n ≡ a + suc n = omega arith in
    goes_step m l workers _ (state (a + 1) (pre ++ (gs ++ run_groups m l a) ∷ []) handed) _ (Draws w a) (caller_draws w (a + 1) n)
    (low, refl)
    (same_state (a + 1) _ _ handed (ap (changed_at (λ hs. hs ++ run_groups m l a) (pre ++ gs ∷ [])) (sym at) ∙ change_at (λ hs. hs ++ run_groups m l a) pre [] gs))
    (subst (λ (t : Stage). Goes m l workers (state (a + 1) (pre ++ (gs ++ run_groups m l a) ∷ []) handed) (caller_draws w (a + 1) n) t)
    (λ i. state (e i) (pre ++ append_assoc gs (run_groups m l a) (groups_of_runs m l (range_with_len (a + 1) n)) i ∷ []) handed)
    (own_go m l workers w (a + 1) n pre (gs ++ run_groups m l a) handed at low))

entries_groups : (w : ℕ) (dones : List GroupRun) → map group_of (handed_by w dones) ≡ map group_in dones
entries_groups w [] = refl
entries_groups w (x ∷ xs) = ap (λ (t : List ℕ). x.group ∷ t) (entries_groups w xs)

all_groups : (w : ℕ) (bags : List Bag) → map group_of (all_handed w bags) ≡ concat (map groups_in bags)
all_groups w [] = refl
all_groups w (b ∷ bs) = map-append group_of (handed_by w b.runs) (all_handed (w + 1) bs) ∙ (λ i. entries_groups w b.runs i ++ all_groups (w + 1) bs i)

all_calm : (v w : ℕ) (bags : List Bag) (handed : List HandIn) → w + length bags ≤ v → has_faulted v handed ≡ false → has_faulted v (handed ++ all_handed w bags) ≡ false
all_calm v w [] handed low calm = ap (has_faulted v) (append-nil handed) ∙ calm
all_calm v w (b ∷ bs) handed low calm =
    ap (has_faulted v) (sym (append_assoc handed (handed_by w b.runs) (all_handed (w + 1) bs)))
    ∙ all_calm v (w + 1) bs (handed ++ handed_by w b.runs) (omega (arith, low)) (others_calm v w b.runs handed (λ e. omega (arith, e, low)) calm)

rests_many : (m l : ℕ) (bags : List Bag) (h : AreBags m l bags) → length (rests m l bags h) ≡ length bags
unfolding rests
rests_many m l [] h = refl
rests_many m l (b ∷ bs) h = ap suc (rests_many m l bs h.1)

once_le : (x n : ℕ) → once_below x n ≤ 1
once_le x n = grind (arith, nat_tests)

once_zero : (x : ℕ) → once_below x 0 ≡ 0
once_zero x = grind (arith, nat_tests)

none_past : (x n : ℕ) → n ≤ x → once_below x n ≡ 0
none_past x n h = grind (arith, nat_tests)

missing_zero : (x z : ℕ) (bags : List Bag) (c : Bool) → is_among x (concat (map groups_in bags)) ≡ c → 1 ≤ times x (concat (map groups_in bags)) → times x (missing bags z) ≡ 0
missing_zero x z bags true e h = times_dropped (λ g. not (is_among g (concat (map groups_in bags)))) x (range_with_len 0 z) (ap not e)
missing_zero x z bags false e h = absurd (omega (arith, h, not_among x (concat (map groups_in bags)) e))

missing_le : (x z : ℕ) (bags : List Bag) (c : Bool) → is_among x (concat (map groups_in bags)) ≡ c → times x (missing bags z) ≤ 1
missing_le x z bags true e = let none = times_dropped (λ g. not (is_among g (concat (map groups_in bags)))) x (range_with_len 0 z) (ap not e) in omega (arith, none)
missing_le x z bags false e =
    let kept = times_kept (λ g. not (is_among g (concat (map groups_in bags)))) x (range_with_len 0 z) (ap not e) in
    omega (arith, kept, times_numbers x 0 z, once_le x (0 + z))

missing_none : (x z : ℕ) (bags : List Bag) → 1 ≤ times x (concat (map groups_in bags)) → times x (missing bags z) ≡ 0
missing_none x z bags h = missing_zero x z bags (is_among x (concat (map groups_in bags))) refl h

missing_times : (x z left : ℕ) (bags : List Bag) (c : Bool) → is_among x (concat (map groups_in bags)) ≡ c → left + times x (concat (map groups_in bags)) ≡ once_below x z → left ≡ times x (missing bags z)
missing_times x z left bags true e o =
    let none = times_dropped (λ g. not (is_among g (concat (map groups_in bags)))) x (range_with_len 0 z) (ap not e) in
    omega (arith, none, among x (concat (map groups_in bags)) e, o, once_le x z)
missing_times x z left bags false e o =
    let kept = times_kept (λ g. not (is_among g (concat (map groups_in bags)))) x (range_with_len 0 z) (ap not e) in
    let f : 0 + z ≡ z = omega arith in
    omega (arith, kept, times_numbers x 0 z, once_zero x, ap (once_below x) f, not_among x (concat (map groups_in bags)) e, o)

-- what stands in the caller's list are the missing groups
left_is_missing : (m l workers word n : ℕ) (bags : List Bag) (gs : List ℕ) (handed : List HandIn) → Sound m l workers (state word (replicate workers [] ++ gs ∷ []) handed)
    → Sound m l workers (state (word + n) (replicate workers [] ++ (gs ++ groups_of_runs m l (range_with_len word n)) ∷ []) handed) → IsAscending gs → map group_of handed ≡ concat (map groups_in bags)
    → gs ++ groups_of_runs m l (range_with_len word n) ≡ missing bags (min m ((word + n) * l))
left_is_missing m l workers word n bags gs handed before now ascends groups =
    let own = groups_of_runs m l (range_with_len word n) in
    let z = min m ((word + n) * l) in
    let count = min m ((word + n) * l) - word * l in
    let low : (x : ℕ) → word * l ≤ x → times x gs ≡ 0 = λ x high. omega (arith, before.once x, left_last x workers gs, none_past x (min m (word * l)) (omega (arith, high))) in
    let whole = append_ascends (word * l) gs own ascends (subst IsAscending (sym (runs_numbers m l word n)) (numbers_ascend (word * l) count)) low
    (subst (AreFrom (word * l)) (sym (runs_numbers m l word n)) (numbers_are_from (word * l) (word * l) count (omega arith))) in
    same_list (gs ++ own) (missing bags z) whole (filter_ascends (λ g. not (is_among g (concat (map groups_in bags)))) (range_with_len 0 z) (numbers_ascend 0 z))
    (λ x. missing_times x z (times x (gs ++ own)) bags (is_among x (concat (map groups_in bags))) refl
    (omega (arith, now.once x, left_last x workers (gs ++ own), ap (times x) groups)))

pub ended_goes : (m workers : ℕ) (bags : List Bag) (word n : ℕ) (more : List GroupRun) (h : StageHasEnded m workers bags word n more)
    → Goes m (run_length m workers) workers (opening_stage workers) (history workers bags word n more) (state (word + n) (replicate workers [] ++ h.rest ∷ []) (all_handed 0 bags ++ handed_by workers more))
ended_goes m workers bags word n more h =
    let l = run_length m workers in
    let none : List ℕ = [] in
    let back = none ∷ [] in
    let left = rests m l bags h.bags_are ++ back in
    let handed = all_handed 0 bags in
    let gs = ascending (concat left) in
    let own = groups_of_runs m l (range_with_len word n) in
    let empty = replicate workers none in
    let drawn : (x : ℕ) → word ≤ x → times x (concat (map numbers_in bags)) ≡ 0 = λ x high. h.numbers_once x ∙ none_past x word high in
    let one = subst (λ (s : Stage). Goes m l workers s (worker_draws bags 0 word) (state word (lefts m l word bags ++ back) [])) (sym (start_is m l workers bags h.number))
    (draws_go m l workers 0 word word bags h.number h.bags_are h.numbers_once (omega arith)) in
    let one_whole = subst (λ (t : List (List ℕ)). Goes m l workers (opening_stage workers) (worker_draws bags 0 word) (state word (t ++ back) [])) (lefts_all m l word bags drawn) one in
    let two = workers_go m l workers 0 word bags h.bags_are [] back [] refl (λ v low. refl) in
    let many = rests_many m l bags h.bags_are ∙ h.number in
    let three : Goes m l workers (state word left handed) (Retakes ∷ []) (state word (empty ++ gs ∷ []) handed) =
    goes_step m l workers _ (state word (empty ++ gs ∷ []) handed) _ Retakes [] (left_of workers left none (ap (slice_get left) (sym many) ∙ get_at (rests m l bags h.bags_are) [] none)) refl (goes_nil m l workers _ _ refl) in
    let four = own_go m l workers workers word n empty gs handed (length-replicate workers none) (omega arith) in
    let first = goes_append m l workers _ _ _ (worker_draws bags 0 word) (all_hand_ins 0 bags) one_whole two in
    let taken = goes_append m l workers _ _ _ (worker_draws bags 0 word ++ all_hand_ins 0 bags) (Retakes ∷ []) first three in
    let before = goes_sound m l workers _ _ _ (sound_start m l workers) taken in
    let now = goes_sound m l workers _ _ _ before four in
    let is = left_is_missing m l workers word n bags gs handed before now (ascending_is (concat left)) (all_groups 0 bags) ∙ sym h.begins in
    let five = party_goes m l workers workers (word + n) more h.rest empty [] handed (length-replicate workers none) h.faults
    (λ e es eq. all_calm workers 0 bags [] (omega (arith, h.number)) refl) in
    let last = goes_append m l workers _ _ _ (caller_draws workers word n) (run_hand_ins workers more)
    (subst (λ (t : List ℕ). Goes m l workers (state word (empty ++ gs ∷ []) handed) (caller_draws workers word n) (state (word + n) (empty ++ t ∷ []) handed)) is four) five in
    let from_taking = goes_append m l workers _ _ _ (Retakes ∷ []) (caller_draws workers word n ++ run_hand_ins workers more) three last in
    goes_append m l workers _ _ _ (worker_draws bags 0 word) (all_hand_ins 0 bags ++ (Retakes ∷ (caller_draws workers word n ++ run_hand_ins workers more))) one_whole
    (goes_append m l workers _ _ _ (all_hand_ins 0 bags) (Retakes ∷ (caller_draws workers word n ++ run_hand_ins workers more)) two from_taking)

missing_once : (x z : ℕ) (bags : List Bag) → times x (missing bags z) ≤ 1
missing_once x z bags = missing_le x z bags (is_among x (concat (map groups_in bags))) refl

-- a fault among the first groups is below those that follow
lower_fault : (w g : ℕ) (dones : List GroupRun) (rest : List ℕ) → IsAscending (map group_in dones ++ rest) → ((x : ℕ) → times x (map group_in dones ++ rest) ≤ 1) → 1 ≤ times g rest
    → some_fault (handed_by w dones) ≡ true → fault_below g (handed_by w dones) ≡ true
lower_fault w g [] rest up once there e = absurd (cc)
lower_fault w g (d ∷ ds) rest up once there e =
    let behind : 1 ≤ times g (map group_in ds ++ rest) = omega (arith, there, times-append g (map group_in ds) rest) in
    let low : d.group < g = elim (cases_lt d.group g) [
      | inl t ↦ t
      | inr high ↦ elim (cases_eq d.group g) [
        | inl same ↦ absurd (let o = once g in let one = ap {B = ℕ} (λ (k : ℕ). if k == g then 1 else 0) same in omega (arith, o, behind, one, times_head g []))
        | inr n ↦ absurd (let none = none_lower d.group g (map group_in ds ++ rest) up.0 (omega (arith, high, n)) in omega (arith, none, behind))
      ]
    ] in
    elim (or_true d.faulted (some_fault (handed_by w ds)) e) [
      | inl t ↦ (λ i. ((t i && lt_true d.group g low i) || fault_below g (handed_by w ds)))
      | inr t ↦ or_right (d.faulted && nat_lt d.group g) (fault_below g (handed_by w ds)) (lower_fault w g ds rest up.1 (λ x. omega (arith, once x)) there t)
    ]

-- a fault in a bag is below what is above its group
bag_fault : (f g : ℕ) (es : List HandIn) → f < g → has_fault_at f es ≡ true → (fault_below g es ≡ true) × (some_fault es ≡ true) × (1 ≤ times f (map group_of es))
bag_fault f g [] low e = absurd (cc)
bag_fault f g (x ∷ xs) low e = elim (or_true (x.faulted && x.group == f) (has_fault_at f xs) e) [
  | inl t ↦ (
      let b = and_true x.faulted (x.group == f) t in
      let is = eqb-true x.group f b.1 in
      let less : x.group < g = omega (arith, is, low) in (
        (λ i. ((b.0 i && lt_true x.group g less i) || fault_below g xs)),
        (λ i. (b.0 i || some_fault xs)),
        omega (arith, ap {B = ℕ} (λ (c : Bool). if c then 1 else 0) b.1),
      ))
  | inr t ↦ (let r = bag_fault f g xs low t in (or_right (x.faulted && nat_lt x.group g) (fault_below g xs) r.0, or_right x.faulted (some_fault xs) r.1, omega (arith, r.2)))
]

some_fault_more : (es fs : List HandIn) → (some_fault es || some_fault fs) ≡ true → some_fault (es ++ fs) ≡ true
some_fault_more es fs e = list_any-append (λ (x : HandIn). x.faulted) es fs ∙ e

fault_below_more : (g : ℕ) (es fs : List HandIn) → (fault_below g es || fault_below g fs) ≡ true → fault_below g (es ++ fs) ≡ true
fault_below_more g es fs e = list_any-append (λ (x : HandIn). x.faulted && nat_lt x.group g) es fs ∙ e

above : (m workers : ℕ) (bags : List Bag) (word n : ℕ) (more : List GroupRun) (h : StageHasEnded m workers bags word n more) (g : ℕ) → 1 ≤ times g h.rest → fault_below g (all_handed 0 bags ++ handed_by workers more) ≡ true
above m workers bags word n more h g there =
    let z = min m ((word + n) * run_length m workers) in
    let bagged = all_handed 0 bags in
    let own = handed_by workers more in
    elim h.stopped [
      | inl t ↦ absurd (omega (arith, there, ap (times g) t.0))
      | inr t ↦ elim t [
        | inl own_fault ↦ fault_below_more g bagged own (or_right (fault_below g bagged) (fault_below g own) (lower_fault workers g more h.rest
            (subst IsAscending (sym h.begins) (filter_ascends (λ k. not (is_among k (concat (map groups_in bags)))) (range_with_len 0 z) (numbers_ascend 0 z)))
            (λ x. omega (arith, ap (times x) h.begins, missing_once x z bags)) there own_fault))
        | inr f ↦ fault_below_more g bagged own (or_left (fault_below g bagged) (fault_below g own) (
            let low : f.0 < g = elim (cases_lt f.0 g) [
              | inl yes_low ↦ yes_low
              | inr high ↦ absurd (elim (cases_eq f.0 g) [
                | inl same ↦ (
                    let b = bag_fault f.0 (f.0 + 1) bagged (omega arith) f.1 in
                    let o = missing_none g z bags (omega (arith, b.2, ap (times f.0) (all_groups 0 bags), ap (λ (k : ℕ). times k (concat (map groups_in bags))) same)) in
                    omega (arith, there, o, ap (times g) h.begins, times-append g (map group_in more) h.rest))
                | inr apart ↦ (let none = none_lower f.0 g h.rest f.2 (omega (arith, high, apart)) in omega (arith, none, there))
              ])
            ] in (bag_fault f.0 g bagged low f.1).0))
      ]
    ]

all_drawn : (m workers : ℕ) (bags : List Bag) (word n : ℕ) (more : List GroupRun) (h : StageHasEnded m workers bags word n more)
    → (run_count m (run_length m workers) ≤ word + n) ⊎ (some_fault (all_handed 0 bags ++ handed_by workers more) ≡ true)
all_drawn m workers bags word n more h = elim h.stopped [
  | inl t ↦ inl t.1
  | inr t ↦ elim t [
    | inl own ↦ inr (some_fault_more (all_handed 0 bags) (handed_by workers more) (or_right (some_fault (all_handed 0 bags)) (some_fault (handed_by workers more)) own))
    | inr f ↦ inr (some_fault_more (all_handed 0 bags) (handed_by workers more) (or_left (some_fault (all_handed 0 bags)) (some_fault (handed_by workers more)) (bag_fault f.0 (f.0 + 1) (all_handed 0 bags) (omega arith) f.1).1))
  ]
]

pub complete_facts : (m workers : ℕ) (bags : List Bag) (word n : ℕ) (more : List GroupRun) → StageHasEnded m workers bags word n more →
    AreLegal m (run_length m workers) workers (opening_stage workers) (history workers bags word n more)
    × IsCompleteStage m (run_length m workers) (after_steps m (run_length m workers) workers (opening_stage workers) (history workers bags word n more))
complete_facts m workers bags word n more h =
    let g = ended_goes m workers bags word n more h in (
      g.legal,
      subst (IsCompleteStage m (run_length m workers)) (sym g.ends) (all_drawn m workers bags word n more h, λ x some. above m workers bags word n more h x (omega (arith, some, left_last x workers h.rest))),
    )

pub ended_is_complete : EndedIsComplete
ended_is_complete m workers bags word n more h =
    let l = run_length m workers in
    let f = complete_facts m workers bags word n more h in
    let xs = history workers bags word n more in
    (are_legal_of m l workers (opening_stage workers) xs f.0, is_complete_of m l (after_steps m l workers (opening_stage workers) xs) f.1)

wholes_are : (m l : ℕ) (bags : List Bag) → AreWhole m l bags → concat (wholes m l bags) ≡ concat (map groups_in bags)
wholes_are m l [] h = refl
wholes_are m l (b ∷ bs) h = λ i. sym h.0 i ++ wholes_are m l bs h.1 i

joined_back : (xss : List (List ℕ)) (x : ℕ) → times x (concat (xss ++ [] ∷ [])) ≡ times x (concat xss)
joined_back [] x = refl
joined_back (xs ∷ xss) x = omega (arith, joined_back xss x, times-append x xs (concat (xss ++ [] ∷ [])), times-append x xs (concat xss))

pub whole_bags : WholeBagsHaveAll
whole_bags m workers bags word d number once bags_are whole drew past g =
    let l = run_length m workers in
    let none : List ℕ = [] in
    let back = none ∷ [] in
    let one = subst (λ (s : Stage). Goes m l workers s (worker_draws bags 0 word) (state word (lefts m l word bags ++ back) [])) (sym (start_is m l workers bags number))
    (draws_go m l workers 0 word word bags number bags_are once (omega arith)) in
    let one_whole = subst (λ (t : List (List ℕ)). Goes m l workers (opening_stage workers) (worker_draws bags 0 word) (state word (t ++ back) [])) (lefts_all m l word bags (λ x high. once x ∙ none_past x word high)) one in
    let s = goes_sound m l workers _ _ _ (sound_start m l workers) one_whole in
    let low : m ≤ word * l = (let a = enough m l (one_at_least m workers) in let b = mul-le-mul_right {m = run_count m l} {n = word} l (omega (arith, past, drew)) in omega (arith, a, b)) in
    let all : min m (word * l) ≡ m = omega (arith, low) in
    omega (arith, s.once g, joined_back (wholes m l bags) g, ap (times g) (wholes_are m l bags whole), ap (once_below g) all)
