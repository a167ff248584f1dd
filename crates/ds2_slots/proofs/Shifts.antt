-- Positions of iterators, one after the other.
use Rattle.std.proofs.Common.{◌≡◌, ℕ, zero, suc, ◌+◌, ◌<◌, Bool, true, false, List, [], ◌∷◌, ◌++◌, Option, Some, None, length, take, get_or, refl, ap, ◌∙◌, add-one, arith, if◌then◌else◌}
use Rattle.std.specs.Prelude.{nat_eq, map, slice_get, slice_set}
use Rattle.ds2_value.specs.HashList.{Shift, shifted}
use Rattle.ds2_code.specs.HashCalls.{all_shifted}
use Rattle.ds2_slots.specs.SlotHashes.{with_one_shifted, with_shifted_where}

nowhere_more : (ks : List ℕ) (i : ℕ) → i < length ks → map {B = Option ℕ} (λ (h : ℕ). None) (take (suc i) ks) ≡ map (λ (h : ℕ). None) (take i ks) ++ None ∷ []
nowhere_more [] i l = absurd (omega (arith, l))
nowhere_more (k ∷ ks) zero l = refl
nowhere_more (k ∷ ks) (suc i) l = ap (λ z. None ∷ z) (nowhere_more ks i (omega arith))

pub nowhere_next : (ks : List ℕ) (i : ℕ) → i < length ks → map {B = Option ℕ} (λ (h : ℕ). None) (take (i + 1) ks) ≡ map (λ (h : ℕ). None) (take i ks) ++ None ∷ []
nowhere_next ks i l = rw (add-one i) (nowhere_more ks i l)

-- ---- one iterator

pub none_shifted : (s : Shift) (n : ℕ) (ps : List (Option ℕ)) → None ≡ slice_get ps n → ps ≡ with_one_shifted s n ps
none_shifted s n [] h = refl
none_shifted s zero (p ∷ ps) h = absurd cc
none_shifted s (suc n) (p ∷ ps) h = ap (λ z. p ∷ z) (none_shifted s n ps h)

pub one_shifted : (s : Shift) (n : ℕ) (ps : List (Option ℕ)) (p : Option ℕ) → Some p ≡ slice_get ps n → slice_set ps n (shifted s p) ≡ with_one_shifted s n ps
one_shifted s n [] p h = absurd cc
one_shifted s zero (q ∷ ps) p h = let same : p ≡ q = cc in ap (λ (z : Option ℕ). shifted s z ∷ ps) same
one_shifted s (suc n) (q ∷ ps) p h = ap (λ z. q ∷ z) (one_shifted s n ps p h)

pub ruleset shifting_one = (none_shifted, one_shifted)

-- ---- all of them

none_left : (b : Bool) (s : Shift) (n : ℕ) → [] ≡ with_shifted_where b s n []
none_left true s n = refl
none_left false s n = refl

first_shifted : (b : Bool) (s : Shift) (p : Option ℕ) (ps : List (Option ℕ)) → (if b then shifted s p else p) ∷ ps ≡ with_shifted_where b s zero (p ∷ ps)
first_shifted true s p ps = refl
first_shifted false s p ps = refl

later_shifted : (b : Bool) (s : Shift) (n : ℕ) (p : Option ℕ) (ps : List (Option ℕ)) → p ∷ with_shifted_where b s n ps ≡ with_shifted_where b s (suc n) (p ∷ ps)
later_shifted true s n p ps = refl
later_shifted false s n p ps = refl

shift_more : (s : Shift) (h : ℕ) (ks : List ℕ) (i : ℕ) (ps : List (Option ℕ)) (d : ℕ) → i < length ks
    → all_shifted s h (take (suc i) ks) ps ≡ with_shifted_where (nat_eq (get_or ks i d) h) s i (all_shifted s h (take i ks) ps)
shift_more s h [] i ps d l = absurd (omega (arith, l))
shift_more s h (k ∷ ks) zero [] d l = none_left (nat_eq k h) s zero
shift_more s h (k ∷ ks) zero (p ∷ ps) d l = first_shifted (nat_eq k h) s p ps
shift_more s h (k ∷ ks) (suc i) [] d l = none_left (nat_eq (get_or ks i d) h) s (suc i)
shift_more s h (k ∷ ks) (suc i) (p ∷ ps) d l =
    ap (λ z. (if nat_eq k h then shifted s p else p) ∷ z) (shift_more s h ks i ps d (omega arith))
    ∙ later_shifted (nat_eq (get_or ks i d) h) s i (if nat_eq k h then shifted s p else p) (all_shifted s h (take i ks) ps)

pub shift_next : (s : Shift) (h : ℕ) (ks : List ℕ) (i : ℕ) (ps : List (Option ℕ)) → i < length ks
    → all_shifted s h (take (i + 1) ks) ps ≡ with_shifted_where (nat_eq (get_or ks i 0) h) s i (all_shifted s h (take i ks) ps)
shift_next s h ks i ps l = ap (λ n. all_shifted s h (take n ks) ps) (add-one i) ∙ shift_more s h ks i ps 0 l
