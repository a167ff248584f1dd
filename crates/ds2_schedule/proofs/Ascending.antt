-- Ascending lists: two with the same range_with_len are one.
use Rattle.std.proofs.Common.{◌≡◌, ℕ, zero, suc, ◌+◌, ◌-◌, ◌*◌, ◌<◌, ◌≤◌, List, [], ◌∷◌, ◌++◌, Bool, true, false, refl, sym, ap, ◌∙◌, arith, inl, inr, subst}
use Rattle.std.specs.Prelude.{min, if◌then◌else◌, ◌==◌, nat_le}
use Rattle.std.specs.List.{filter, range_with_len}
use Rattle.std.proofs.lemmas.Bool.Decides.{nat_tests}
use Rattle.std.proofs.lemmas.Bool.{cases_lt, eq-eqb, eqb-true}
use Rattle.std.proofs.lemmas.List.{append-nil}
use Rattle.std.proofs.Math.Nat.{mul-le-mul_right}
use Rattle.ds2_schedule.specs.Runs.{times}
use Rattle.ds2_schedule.specs.Stage.{inserted, ascending}
use Rattle.ds2_schedule.specs.Bags.{AreFrom, IsAscending, groups_of_runs}

pub from_lower : (a b : ℕ) (xs : List ℕ) → b ≤ a → AreFrom a xs → AreFrom b xs
from_lower a b [] h f = tt
from_lower a b (x ∷ xs) h f = (omega (arith, h, f.0), from_lower a b xs h f.1)

pub none_lower : (a x : ℕ) (xs : List ℕ) → AreFrom a xs → x < a → times x xs ≡ 0
none_lower a x [] f h = refl
none_lower a x (y ∷ ys) f h = let e = none_lower a x ys f.1 h in grind (arith, nat_tests, e, f.0, h)

pub times_head : (x : ℕ) (xs : List ℕ) → times x (x ∷ xs) ≡ 1 + times x xs
times_head x xs = omega (arith, ap {B = ℕ} (λ (b : Bool). if b then 1 else 0) (eq-eqb x x refl))

one_list : (x y : ℕ) (xs ys : List ℕ) → x ≡ y → xs ≡ ys → x ∷ xs ≡ y ∷ ys
one_list x y xs ys e f = λ i. e i ∷ f i

pub same_list : (xs ys : List ℕ) → IsAscending xs → IsAscending ys → ((x : ℕ) → times x xs ≡ times x ys) → xs ≡ ys
same_list [] [] a b h = refl
same_list [] (y ∷ ys) a b h = absurd (omega (arith, h y, times_head y ys))
same_list (x ∷ xs) [] a b h = absurd (omega (arith, h x, times_head x xs))
same_list (x ∷ xs) (y ∷ ys) a b h =
    let le : x ≤ y = elim (cases_lt y x) [
      | inl low ↦ absurd (let n = none_lower x y (x ∷ xs) (omega arith, a.0) low in omega (arith, n, h y, times_head y ys))
      | inr ok ↦ ok
    ] in
    let ge : y ≤ x = elim (cases_lt x y) [
      | inl low ↦ absurd (let n = none_lower y x (y ∷ ys) (omega arith, b.0) low in omega (arith, n, h x, times_head x xs))
      | inr ok ↦ ok
    ] in
    let e : x ≡ y = omega (arith, le, ge) in
    one_list x y xs ys e (same_list xs ys a.1 b.1 (λ z. omega (arith, h z, ap {B = ℕ} (λ (k : ℕ). if k == z then 1 else 0) e)))

from_if : (b : Bool) (a : ℕ) (xs ys : List ℕ) → AreFrom a xs → AreFrom a ys → AreFrom a (if b then xs else ys)
from_if true a xs ys h k = h
from_if false a xs ys h k = k

placed_from : (a x : ℕ) (xs : List ℕ) → a ≤ x → AreFrom a xs → AreFrom a (inserted x xs)
placed_from a x [] h f = (h, tt)
placed_from a x (y ∷ ys) h f = from_if (nat_le x y) a (x ∷ y ∷ ys) (y ∷ inserted x ys) (h, f) (f.0, placed_from a x ys h f.1)

ascending_placed : (x : ℕ) (xs : List ℕ) → IsAscending xs → IsAscending (inserted x xs)
ascending_placed x [] h = (tt, tt)
ascending_placed x (y ∷ ys) h = elim (cases_lt y x) [
  | inl low ↦ (let e : nat_le x y ≡ false = grind (arith, nat_tests) in
      subst IsAscending (sym (ap {B = List ℕ} (λ (b : Bool). if b then x ∷ y ∷ ys else y ∷ inserted x ys) e)) (placed_from y x ys (omega (arith, low)) h.0, ascending_placed x ys h.1))
  | inr le ↦ (let e : nat_le x y ≡ true = grind (arith, nat_tests) in
      subst IsAscending (sym (ap {B = List ℕ} (λ (b : Bool). if b then x ∷ y ∷ ys else y ∷ inserted x ys) e)) ((le, from_lower y x ys le h.0), h))
]

pub ascending_is : (xs : List ℕ) → IsAscending (ascending xs)
ascending_is [] = tt
ascending_is (x ∷ xs) = ascending_placed x (ascending xs) (ascending_is xs)

pub numbers_are_from : (b a n : ℕ) → b ≤ a → AreFrom b (range_with_len a n)
numbers_are_from b a zero h = tt
numbers_are_from b a (suc n) h = (h, numbers_are_from b (a + 1) n (omega (arith, h)))

pub numbers_ascend : (a n : ℕ) → IsAscending (range_with_len a n)
numbers_ascend a zero = tt
numbers_ascend a (suc n) = (numbers_are_from a (a + 1) n (omega arith), numbers_ascend (a + 1) n)

filter_from : (p : ℕ → Bool) (a : ℕ) (xs : List ℕ) → AreFrom a xs → AreFrom a (filter p xs)
filter_from p a [] h = tt
filter_from p a (x ∷ xs) h = from_if (p x) a (x ∷ filter p xs) (filter p xs) (h.0, filter_from p a xs h.1) (filter_from p a xs h.1)

ascending_if : (b : Bool) (xs ys : List ℕ) → IsAscending xs → IsAscending ys → IsAscending (if b then xs else ys)
ascending_if true xs ys h k = h
ascending_if false xs ys h k = k

pub filter_ascends : (p : ℕ → Bool) (xs : List ℕ) → IsAscending xs → IsAscending (filter p xs)
filter_ascends p [] h = tt
filter_ascends p (x ∷ xs) h = ascending_if (p x) (x ∷ filter p xs) (filter p xs) (filter_from p x xs h.0, filter_ascends p xs h.1) (filter_ascends p xs h.1)

-- z bounds both: what is in xs is below z, and ys begins at z
pub append_from : (a : ℕ) (xs ys : List ℕ) → AreFrom a xs → AreFrom a ys → AreFrom a (xs ++ ys)
append_from a [] ys h k = k
append_from a (x ∷ xs) ys h k = (h.0, append_from a xs ys h.1 k)

pub append_ascends : (z : ℕ) (xs ys : List ℕ) → IsAscending xs → IsAscending ys → ((x : ℕ) → z ≤ x → times x xs ≡ 0) → AreFrom z ys → IsAscending (xs ++ ys)
append_ascends z [] ys h k low high = k
append_ascends z (x ∷ xs) ys h k low high =
    let below : x ≤ z = elim (cases_lt x z) [ inl t ↦ omega (arith, t) | inr t ↦ absurd (let n = low x t in omega (arith, n, times_head x xs)) ] in
    (append_from x xs ys h.0 (from_lower z x ys below high), append_ascends z xs ys h.1 k (λ y t. omega (arith, low y t)) high)

pub numbers-append : (a n k : ℕ) → range_with_len a n ++ range_with_len (a + n) k ≡ range_with_len a (n + k)
numbers-append a zero k =
    let e : a + 0 ≡ a = omega arith in let f : 0 + k ≡ k = omega arith in
    ap (λ (b : ℕ). range_with_len b k) e ∙ ap (range_with_len a) (sym f)
numbers-append a (suc n) k =
    let e : a + suc n ≡ a + 1 + n = omega arith in let f : suc (n + k) ≡ suc n + k = omega arith in
    ap (λ (b : ℕ). a ∷ (range_with_len (a + 1) n ++ range_with_len b k)) e ∙ ap (λ (t : List ℕ). a ∷ t) (numbers-append (a + 1) n k) ∙ ap (range_with_len a) f

-- the groups of successive run_count are successive
pub runs_numbers : (m l a n : ℕ) → groups_of_runs m l (range_with_len a n) ≡ range_with_len (a * l) (min m ((a + n) * l) - a * l)
runs_numbers m l a zero =
    let e : min m ((a + 0) * l) - a * l ≡ 0 = omega arith in
    sym (ap (range_with_len (a * l)) e)
runs_numbers m l a (suc n) =
    let first = min m ((a + 1) * l) - a * l in
    let e : (a + 1) * l ≡ a * l + l = omega arith in
    let g : (a + 1 + n) * l ≡ (a + suc n) * l = ap (λ (k : ℕ). k * l) (omega arith) in
    let big : a * l + l ≤ (a + suc n) * l = omega (arith, mul-le-mul_right {m = a + 1} {n = a + suc n} l (omega arith), e) in
    ap (λ (t : List ℕ). range_with_len (a * l) first ++ t) (runs_numbers m l (a + 1) n ∙ ap (λ (k : ℕ). range_with_len ((a + 1) * l) (min m k - (a + 1) * l)) g) ∙
    elim (cases_lt m (a * l + l)) [
      | inl past ↦ (
          let no : min m ((a + suc n) * l) - (a + 1) * l ≡ 0 = omega (arith, past, e, big) in
          let f : first ≡ min m ((a + suc n) * l) - a * l = omega (arith, past, e, big) in
          ap (λ (k : ℕ). range_with_len (a * l) first ++ range_with_len ((a + 1) * l) k) no ∙ append-nil (range_with_len (a * l) first) ∙ ap (range_with_len (a * l)) f)
      | inr low ↦ (
          let f : (a + 1) * l ≡ a * l + first = omega (arith, low, e) in
          let s : first + (min m ((a + suc n) * l) - (a + 1) * l) ≡ min m ((a + suc n) * l) - a * l = omega (arith, low, e, big) in
          ap (λ (k : ℕ). range_with_len (a * l) first ++ range_with_len k (min m ((a + suc n) * l) - (a + 1) * l)) f ∙ numbers-append (a * l) first (min m ((a + suc n) * l) - (a + 1) * l) ∙ ap (range_with_len (a * l)) s)
    ]

kept_head : (b c : Bool) (x y : ℕ) (kept ys : List ℕ) → b ≡ b → (y == x) ≡ c → times x kept ≡ times x ys → ((y == x) ≡ true → b ≡ true) → times x (if b then y ∷ kept else kept) ≡ times x (y ∷ ys)
kept_head true c x y kept ys r f e h = omega (arith, e)
kept_head false true x y kept ys r f e h = absurd (let a = h f in cc)
kept_head false false x y kept ys r f e h = omega (arith, e, ap {B = ℕ} (λ (b : Bool). if b then 1 else 0) f)

dropped_head : (b : Bool) (x y : ℕ) (kept : List ℕ) → times x kept ≡ 0 → (b ≡ true → y ≡ x → ⊥) → times x (if b then y ∷ kept else kept) ≡ 0
dropped_head true x y kept e h = let n = h refl in grind (arith, nat_tests, e, n)
dropped_head false x y kept e h = e

-- a filtered list has what passes, and nothing else
pub times_kept : (p : ℕ → Bool) (x : ℕ) (xs : List ℕ) → p x ≡ true → times x (filter p xs) ≡ times x xs
times_kept p x [] e = refl
times_kept p x (y ∷ ys) e = kept_head (p y) (y == x) x y (filter p ys) ys refl refl (times_kept p x ys e) (λ i. ap p (eqb-true y x i) ∙ e)

pub times_dropped : (p : ℕ → Bool) (x : ℕ) (xs : List ℕ) → p x ≡ false → times x (filter p xs) ≡ 0
times_dropped p x [] e = refl
times_dropped p x (y ∷ ys) e = dropped_head (p y) x y (filter p ys) (times_dropped p x ys e) (λ i j. let a : true ≡ false = sym i ∙ ap p j ∙ e in cc)
