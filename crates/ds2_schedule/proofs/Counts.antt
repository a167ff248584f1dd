-- How often a number is in lists.
use Rattle.std.proofs.Common.{◌≡◌, ℕ, zero, suc, ◌+◌, ◌-◌, ◌*◌, ◌<◌, ◌≤◌, List, [], ◌∷◌, ◌++◌, Bool, true, false, refl, ap, arith, inl, inr, length}
use Rattle.std.specs.List.{range_with_len, concat}
use Rattle.std.specs.Prelude.{Some, min, replicate, slice_get, if◌then◌else◌, ◌==◌, nat_le, nat_lt}
use Rattle.std.proofs.lemmas.Bool.Decides.{nat_tests}
use Rattle.std.proofs.lemmas.Bool.{cases_lt}
use Rattle.ds2_schedule.specs.Runs.{run_groups, times, once_below}
use Rattle.ds2_schedule.specs.Stage.{changed_at, without_next, inserted, ascending}

pub lt_true : (x k : ℕ) → x < k → nat_lt x k ≡ true
lt_true x k h = grind (arith, nat_tests)

pub lt_false : (x k : ℕ) → k ≤ x → nat_lt x k ≡ false
lt_false x k h = grind (arith, nat_tests)

pub times-append : (x : ℕ) (ys zs : List ℕ) → times x (ys ++ zs) ≡ times x ys + times x zs
times-append x [] zs = omega arith
times-append x (y ∷ ys) zs = omega (arith, times-append x ys zs)

pub once_more : (x n : ℕ) → once_below x (n + 1) ≡ once_below x n + (if n == x then 1 else 0)
once_more x n = grind (arith, nat_tests)

pub times_numbers : (x a n : ℕ) → times x (range_with_len a n) + once_below x a ≡ once_below x (a + n)
times_numbers x a zero = omega (arith, ap (once_below x) (let e : a + 0 ≡ a = omega arith in e))
times_numbers x a (suc n) =
    let e : a + 1 + n ≡ a + suc n = omega arith in
    omega (arith, times_numbers x (a + 1) n, once_more x a, ap (once_below x) e)

-- the groups from a up to a + l, below m
pub cut : (x m a l : ℕ) → times x (range_with_len a (min m (a + l) - a)) + once_below x (min m a) ≡ once_below x (min m (a + l))
cut x m a l = elim (cases_lt m a) [
  | inl past ↦ (let e : min m (a + l) - a ≡ 0 = omega (arith, past) in let f : min m a ≡ min m (a + l) = omega (arith, past) in
      omega (arith, ap (λ (k : ℕ). times x (range_with_len a k)) e, ap (once_below x) f))
  | inr low ↦ (let e : min m a ≡ a = omega (arith, low) in let f : a + (min m (a + l) - a) ≡ min m (a + l) = omega (arith, low) in
      omega (arith, times_numbers x a (min m (a + l) - a), ap (once_below x) e, ap (once_below x) f))
]

-- one more run
pub run_drawn : (x m l d : ℕ) → times x (run_groups m l d) + once_below x (min m (d * l)) ≡ once_below x (min m ((d + 1) * l))
run_drawn x m l d =
    let e : (d + 1) * l ≡ d * l + l = omega arith in
    omega (arith, cut x m (d * l) l, ap (λ (k : ℕ). once_below x (min m k)) e, ap (λ (k : ℕ). times x (range_with_len (d * l) (min m k - d * l))) e)

pub left_more : (x : ℕ) (new : List ℕ) (left : List (List ℕ)) (w : ℕ) → w < length left → times x (concat (changed_at (λ gs. gs ++ new) left w)) ≡ times x (concat left) + times x new
left_more x new [] w h = absurd (omega (arith, h))
left_more x new (gs ∷ left) zero h = omega (arith, times-append x (gs ++ new) (concat left), times-append x gs new, times-append x gs (concat left))
left_more x new (gs ∷ left) (suc w) h =
    omega (arith, times-append x gs (concat (changed_at (λ hs. hs ++ new) left w)), times-append x gs (concat left), left_more x new left w (omega (arith, h)))

pub left_fewer : (x g : ℕ) (rest : List ℕ) (left : List (List ℕ)) (w : ℕ) → slice_get left w ≡ Some (g ∷ rest)
    → times x (concat (changed_at without_next left w)) + (if g == x then 1 else 0) ≡ times x (concat left)
left_fewer x g rest [] w e = absurd (cc)
left_fewer x g rest ([] ∷ left) zero e = absurd (cc)
left_fewer x g rest ((y ∷ ys) ∷ left) zero e =
    let i : y ≡ g = cc in
    omega (arith, ap {B = ℕ} (λ (k : ℕ). if k == x then 1 else 0) i)
left_fewer x g rest (gs ∷ left) (suc w) e =
    omega (arith, times-append x gs (concat (changed_at without_next left w)), times-append x gs (concat left), left_fewer x g rest left w e)

times_if : (b : Bool) (x : ℕ) (ys zs : List ℕ) (n : ℕ) → times x ys ≡ n → times x zs ≡ n → times x (if b then ys else zs) ≡ n
times_if true x ys zs n e f = e
times_if false x ys zs n e f = f

times_inserted : (x y : ℕ) (ys : List ℕ) → times x (inserted y ys) ≡ times x (y ∷ ys)
times_inserted x y [] = refl
times_inserted x y (z ∷ ys) = times_if (nat_le y z) x (y ∷ z ∷ ys) (z ∷ inserted y ys) (times x (y ∷ z ∷ ys)) refl (omega (arith, times_inserted x y ys))

pub times_ascending : (x : ℕ) (ys : List ℕ) → times x (ascending ys) ≡ times x ys
times_ascending x [] = refl
times_ascending x (y ∷ ys) = omega (arith, times_inserted x y (ascending ys), times_ascending x ys)

pub left_last : (x n : ℕ) (gs : List ℕ) → times x (concat (replicate n [] ++ gs ∷ [])) ≡ times x gs
left_last x zero gs = omega (arith, times-append x gs [])
left_last x (suc n) gs = left_last x n gs

pub left_none : (x n : ℕ) → times x (concat (replicate n [])) ≡ 0
left_none x zero = refl
left_none x (suc n) = left_none x n

pub length_changed : {A : Type 0} (f : A → A) (xs : List A) (i : ℕ) → length (changed_at f xs i) ≡ length xs
length_changed f [] i = refl
length_changed f (x ∷ xs) zero = refl
length_changed f (x ∷ xs) (suc i) = ap suc (length_changed f xs i)
