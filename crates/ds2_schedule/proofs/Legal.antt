-- What the tests on steps and stages say, as facts.
use Rattle.std.proofs.Common.{◌≡◌, ℕ, zero, suc, ◌≤◌, List, [], ◌∷◌, Bool, true, false, refl, sym, ap, ◌∙◌, arith, inl, inr}
use Rattle.std.specs.Prelude.{◌⊎◌, Some, slice_get, not, ◌&&◌, ◌||◌, if◌then◌else◌, ◌==◌, nat_le}
use Rattle.std.specs.List.{list_all, concat}
use Rattle.std.proofs.lemmas.Bool.Decides.{nat_tests}
use Rattle.std.proofs.lemmas.Bool.{eq-eqb, eqb-true}
use Rattle.ds2_schedule.specs.Runs.{run_count, times}
use Rattle.ds2_schedule.specs.Stage.{Stage, StageStep, Draws, HandsIn, Retakes, left_for, is_next, none_left, has_faulted, is_legal_step, after_step, are_legal, some_fault, fault_below, is_complete_stage}

abbrev pub IsLegalStep : ℕ → Stage → StageStep → Type 0
IsLegalStep workers s (Draws w d) = (w ≤ workers) × (d ≡ s.drawn)
IsLegalStep workers s (HandsIn w g rows faulted) = ((rest : List ℕ) × (slice_get s.left w ≡ Some (g ∷ rest))) × (has_faulted w s.handed ≡ false)
IsLegalStep workers s Retakes = left_for workers s.left ≡ []

abbrev pub AreLegal : ℕ → ℕ → ℕ → Stage → List StageStep → Type 0
AreLegal m l workers s [] = Unit {0}
AreLegal m l workers s (x ∷ xs) = IsLegalStep workers s x × AreLegal m l workers (after_step m l workers s x) xs

abbrev pub IsCompleteStage : ℕ → ℕ → Stage → Type 0
IsCompleteStage m l s = ((run_count m l ≤ s.drawn) ⊎ (some_fault s.handed ≡ true)) × ((g : ℕ) → 1 ≤ times g (concat s.left) → fault_below g s.handed ≡ true)

pub and_true : (a b : Bool) → (a && b) ≡ true → (a ≡ true) × (b ≡ true)
and_true true b e = (refl, e)
and_true false b e = absurd (cc)

pub both_true : (a b : Bool) → a ≡ true → b ≡ true → (a && b) ≡ true
both_true true b e f = f
both_true false b e f = absurd (cc)

pub or_true : (a b : Bool) → (a || b) ≡ true → (a ≡ true) ⊎ (b ≡ true)
or_true true b e = inl refl
or_true false b e = inr e

pub or_left : (a b : Bool) → a ≡ true → (a || b) ≡ true
or_left true b e = refl
or_left false b e = absurd (cc)

pub or_right : (a b : Bool) → b ≡ true → (a || b) ≡ true
or_right true b e = refl
or_right false b e = e

not_true : (a : Bool) → not a ≡ true → a ≡ false
not_true true e = absurd (cc)
not_true false e = refl

not_false : (a : Bool) → a ≡ false → not a ≡ true
not_false true e = absurd (cc)
not_false false e = refl

left_is : (w g : ℕ) (left : List (List ℕ)) (gs : List ℕ) → left_for w left ≡ g ∷ gs → slice_get left w ≡ Some (g ∷ gs)
left_is w g [] gs e = absurd (cc)
left_is zero g (hs ∷ left) gs e = ap Some e
left_is (suc w) g (hs ∷ left) gs e = left_is w g left gs e

pub left_of : (w : ℕ) (left : List (List ℕ)) (gs : List ℕ) → slice_get left w ≡ Some gs → left_for w left ≡ gs
left_of w [] gs e = absurd (cc)
left_of zero (hs ∷ left) gs e = cc
left_of (suc w) (hs ∷ left) gs e = left_of w left gs e

next_is : (g : ℕ) (gs : List ℕ) → is_next g gs ≡ true → (rest : List ℕ) × (gs ≡ g ∷ rest)
next_is g [] e = absurd (cc)
next_is g (h ∷ hs) e = (hs, ap (λ (k : ℕ). k ∷ hs) (eqb-true h g e))

is_next_of : (g : ℕ) (gs rest : List ℕ) → gs ≡ g ∷ rest → is_next g gs ≡ true
is_next_of g gs rest e = ap (is_next g) e ∙ eq-eqb g g refl

none_is : (gs : List ℕ) → none_left gs ≡ true → gs ≡ []
none_is [] e = refl
none_is (g ∷ gs) e = absurd (cc)

le_of : (a b : ℕ) → nat_le a b ≡ true → a ≤ b
le_of a b e = grind (arith, nat_tests, e)

of_le : (a b : ℕ) → a ≤ b → nat_le a b ≡ true
of_le a b e = grind (arith, nat_tests, e)

pub legal_step : (workers : ℕ) (s : Stage) (x : StageStep) → is_legal_step workers s x ≡ true → IsLegalStep workers s x
legal_step workers s (Draws w d) e = let b = and_true (nat_le w workers) (d == s.drawn) e in (le_of w workers b.0, eqb-true d s.drawn b.1)
legal_step workers s (HandsIn w g rows faulted) e =
    let b = and_true (is_next g (left_for w s.left)) (not (has_faulted w s.handed)) e in
    let n = next_is g (left_for w s.left) b.0 in
    ((n.0, left_is w g s.left n.0 n.1), not_true (has_faulted w s.handed) b.1)
legal_step workers s Retakes e = none_is (left_for workers s.left) e

pub is_legal_of : (workers : ℕ) (s : Stage) (x : StageStep) → IsLegalStep workers s x → is_legal_step workers s x ≡ true
is_legal_of workers s (Draws w d) h = both_true (nat_le w workers) (d == s.drawn) (of_le w workers h.0) (eq-eqb d s.drawn h.1)
is_legal_of workers s (HandsIn w g rows faulted) h =
    both_true (is_next g (left_for w s.left)) (not (has_faulted w s.handed)) (is_next_of g (left_for w s.left) h.0.0 (left_of w s.left (g ∷ h.0.0) h.0.1)) (not_false (has_faulted w s.handed) h.1)
is_legal_of workers s Retakes h = ap none_left h

pub legal_steps : (m l workers : ℕ) (s : Stage) (xs : List StageStep) → are_legal m l workers s xs ≡ true → AreLegal m l workers s xs
legal_steps m l workers s [] e = tt
legal_steps m l workers s (x ∷ xs) e =
    let b = and_true (is_legal_step workers s x) (are_legal m l workers (after_step m l workers s x) xs) e in
    (legal_step workers s x b.0, legal_steps m l workers (after_step m l workers s x) xs b.1)

pub are_legal_of : (m l workers : ℕ) (s : Stage) (xs : List StageStep) → AreLegal m l workers s xs → are_legal m l workers s xs ≡ true
are_legal_of m l workers s [] h = refl
are_legal_of m l workers s (x ∷ xs) h =
    both_true (is_legal_step workers s x) (are_legal m l workers (after_step m l workers s x) xs) (is_legal_of workers s x h.0) (are_legal_of m l workers (after_step m l workers s x) xs h.1)

all_at : (p : ℕ → Bool) (x : ℕ) (xs : List ℕ) (g : ℕ) → p x ≡ true → (b : Bool) → (x == g) ≡ b → (1 ≤ times g xs → p g ≡ true) → 1 ≤ times g (x ∷ xs) → p g ≡ true
all_at p x xs g here true e more some = ap p (sym (eqb-true x g e)) ∙ here
all_at p x xs g here false e more some = more (omega (arith, some, ap {B = ℕ} (λ (b : Bool). if b then 1 else 0) e))

all_hold : (p : ℕ → Bool) (xs : List ℕ) → list_all p xs ≡ true → (g : ℕ) → 1 ≤ times g xs → p g ≡ true
all_hold p [] e g some = absurd (omega (arith, some))
all_hold p (x ∷ xs) e g some = let b = and_true (p x) (list_all p xs) e in all_at p x xs g b.0 (x == g) refl (all_hold p xs b.1 g) some

all_of : (p : ℕ → Bool) (xs : List ℕ) → ((g : ℕ) → 1 ≤ times g xs → p g ≡ true) → list_all p xs ≡ true
all_of p [] h = refl
all_of p (x ∷ xs) h = both_true (p x) (list_all p xs)
    (h x (omega (arith, ap {B = ℕ} (λ (b : Bool). if b then 1 else 0) (eq-eqb x x refl))))
    (all_of p xs (λ g some. h g (omega (arith, some))))

pub complete_stage : (m l : ℕ) (s : Stage) → is_complete_stage m l s ≡ true → IsCompleteStage m l s
complete_stage m l s e =
    let b = and_true (nat_le (run_count m l) s.drawn || some_fault s.handed) (list_all (λ g. fault_below g s.handed) (concat s.left)) e in (
      elim (or_true (nat_le (run_count m l) s.drawn) (some_fault s.handed) b.0) [ inl t ↦ inl (le_of (run_count m l) s.drawn t) | inr t ↦ inr t ],
      all_hold (λ g. fault_below g s.handed) (concat s.left) b.1,
    )

pub is_complete_of : (m l : ℕ) (s : Stage) → IsCompleteStage m l s → is_complete_stage m l s ≡ true
is_complete_of m l s h =
    both_true (nat_le (run_count m l) s.drawn || some_fault s.handed) (list_all (λ g. fault_below g s.handed) (concat s.left))
    (elim h.0 [ inl t ↦ or_left (nat_le (run_count m l) s.drawn) (some_fault s.handed) (of_le (run_count m l) s.drawn t) | inr t ↦ or_right (nat_le (run_count m l) s.drawn) (some_fault s.handed) t ])
    (all_of (λ g. fault_below g s.handed) (concat s.left) h.1)
