-- Calls of methods that are on no cycle are never as deep as there are methods.
use Rattle.std.proofs.Common.{◌≡◌, ℕ, zero, suc, ◌+◌, ◌<◌, ◌≤◌, Bool, true, false, true≢false, List, [], ◌∷◌, ◌++◌, length, refl, sym, ap, ◌∙◌, subst, arith, inl, inr, eqb, eqb-true, eq-eqb, ne_eqb}
use Rattle.std.specs.List.{list_any, AllByRecursion, IsDistinct}
use Rattle.std.specs.Prelude.{◌==◌, if◌then◌else◌, flat_map}
use Rattle.std.proofs.lemmas.Bool.{or_cases, or_left, or_right}
use Rattle.std.proofs.lemmas.List.Folds.{list_any-append}
use Rattle.std.proofs.lemmas.Map.Steps.{length-le_from_distinct_below}
use Rattle.ds2_value.specs.declared.fault.TheConstants.{CALL_DEPTH}
use Rattle.ds2_deeds.specs.declared.deed.NumberedDeed.{NumberedDeed}
use Rattle.ds2_deeds.specs.NumberedCalls.{is_one_of_numbers, with_one_number, with_numbers, deeds_numbered, calls_by_number, numbers_reached, may_call}

-- a method is on no cycle of calls
abbrev pub IsOffCycle : List (List NumberedDeed) → ℕ → Type 0
IsOffCycle all k = is_one_of_numbers (may_call all (length all + CALL_DEPTH) (deeds_numbered all k)) k ≡ false

-- calls so many deep below a method, each of a method that is there and on no cycle
abbrev pub CallsBelow : List (List NumberedDeed) → ℕ → ℕ → Type 0
CallsBelow all zero k = IsOffCycle all k
CallsBelow all (suc depth) k = IsOffCycle all k × ((c : ℕ) × (c < length all) × (is_one_of_numbers (calls_by_number all k) c ≡ true) × CallsBelow all depth c)

-- ---- numbers among others

-- a number stays among them when another one is added
stays_by : (numbers : List ℕ) (y n : ℕ) (b : Bool) → is_one_of_numbers numbers n ≡ true → is_one_of_numbers (if b then numbers else numbers ++ y ∷ []) n ≡ true
stays_by numbers y n true e = e
stays_by numbers y n false e = list_any-append (λ other. other == n) numbers (y ∷ []) ∙ or_left (is_one_of_numbers numbers n) (is_one_of_numbers (y ∷ []) n) e

stays : (numbers more : List ℕ) (n : ℕ) → is_one_of_numbers numbers n ≡ true → is_one_of_numbers (with_numbers numbers more) n ≡ true
stays numbers [] n e = e
stays numbers (y ∷ more) n e = stays (with_one_number numbers y) more n (stays_by numbers y n (is_one_of_numbers numbers y) e)

-- a number that is added is among them
added_by : (numbers : List ℕ) (n : ℕ) (b : Bool) → is_one_of_numbers numbers n ≡ b → is_one_of_numbers (if b then numbers else numbers ++ n ∷ []) n ≡ true
added_by numbers n true e = e
added_by numbers n false e =
    list_any-append (λ other. other == n) numbers (n ∷ []) ∙ or_right (is_one_of_numbers numbers n) (is_one_of_numbers (n ∷ []) n) (or_left (n == n) false (eq-eqb n n refl))

pub added : (numbers more : List ℕ) (n : ℕ) → is_one_of_numbers more n ≡ true → is_one_of_numbers (with_numbers numbers more) n ≡ true
added numbers [] n e = absurd cc
added numbers (y ∷ more) n e =
    elim (or_cases (y == n) (is_one_of_numbers more n) e) [
      | inl same ↦ stays (with_one_number numbers y) more n
          (subst (λ x. is_one_of_numbers (with_one_number numbers x) n ≡ true) (sym (eqb-true y n same)) (added_by numbers n (is_one_of_numbers numbers n) refl))
      | inr later ↦ added (with_one_number numbers y) more n later
    ]

-- what one of them brings is among what all bring
pub brought : (of : ℕ → List ℕ) (numbers : List ℕ) (x y : ℕ) → is_one_of_numbers numbers x ≡ true → is_one_of_numbers (of x) y ≡ true → is_one_of_numbers (flat_map of numbers) y ≡ true
brought of [] x y e f = absurd cc
brought of (z ∷ numbers) x y e f =
    let here = is_one_of_numbers (of z) y in
    let later = is_one_of_numbers (flat_map of numbers) y in
    list_any-append (λ other. other == y) (of z) (flat_map of numbers)
    ∙ elim (or_cases (z == x) (is_one_of_numbers numbers x) e) [
      | inl same ↦ or_left here later (ap (λ n. is_one_of_numbers (of n) y) (eqb-true z x same) ∙ f)
      | inr behind ↦ or_right here later (brought of numbers x y behind f)
    ]

module _ (all : List (List NumberedDeed)) where
  -- numbers stay among what is reached
  pub stays_reached : (rounds : ℕ) (numbers : List ℕ) (n : ℕ) → is_one_of_numbers numbers n ≡ true → is_one_of_numbers (numbers_reached all rounds numbers) n ≡ true
  stays_reached zero numbers n e = e
  stays_reached (suc rounds) numbers n e =
      let more = flat_map (calls_by_number all) numbers in stays_reached rounds (with_numbers numbers more) n (stays numbers more n e)

  -- ---- the methods of calls, one deeper than the other

  path : (depth k : ℕ) → CallsBelow all depth k → List ℕ
  path zero k calls = k ∷ []
  path (suc depth) k calls = k ∷ path depth calls.1.0 calls.1.3

  path_length : (depth k : ℕ) (calls : CallsBelow all depth k) → length (path depth k calls) ≡ suc depth
  unfolding path
  path_length zero k calls = refl
  path_length (suc depth) k calls = ap suc (path_length depth calls.1.0 calls.1.3)

  path_there : (depth k : ℕ) (calls : CallsBelow all depth k) → k < length all → (n : ℕ) → list_any (eqb n) (path depth k calls) ≡ true → n < length all
  unfolding path
  path_there zero k calls lt n e =
      elim (or_cases (eqb n k) false e) [ inl same ↦ omega (arith, lt, eqb-true n k same) | inr none ↦ absurd cc ]
  path_there (suc depth) k calls lt n e =
      elim (or_cases (eqb n k) (list_any (eqb n) (path depth calls.1.0 calls.1.3)) e) [
        | inl same ↦ omega (arith, lt, eqb-true n k same)
        | inr later ↦ path_there depth calls.1.0 calls.1.3 calls.1.1 n later
      ]

  -- what is not reached from numbers is none of them, and no method further down
  apart : (k n rounds : ℕ) (numbers : List ℕ) → is_one_of_numbers (numbers_reached all rounds numbers) k ≡ false → is_one_of_numbers numbers n ≡ true → eqb k n ≡ false
  apart k n rounds numbers off e =
      ne_eqb k n (λ same. true≢false (sym (stays_reached rounds numbers k (ap (λ x. is_one_of_numbers numbers x) same ∙ e)) ∙ off))

  path_apart : (k rounds : ℕ) (numbers : List ℕ) (depth n : ℕ) (calls : CallsBelow all depth n) → depth ≤ rounds
      → is_one_of_numbers (numbers_reached all rounds numbers) k ≡ false → is_one_of_numbers numbers n ≡ true → AllByRecursion (λ x. eqb k x ≡ false) (path depth n calls)
  unfolding path
  path_apart k rounds numbers zero n calls le off e = (apart k n rounds numbers off e, tt)
  path_apart k zero numbers (suc depth) n calls le off e = absurd (omega (arith, le))
  path_apart k (suc rounds) numbers (suc depth) n calls le off e =
      let more = flat_map (calls_by_number all) numbers in (
        apart k n (suc rounds) numbers off e,
        path_apart k rounds (with_numbers numbers more) depth calls.1.0 calls.1.3 (omega (arith, le)) off
            (added numbers more calls.1.0 (brought (calls_by_number all) numbers n calls.1.0 e calls.1.2)),
      )

  path_distinct : (depth k : ℕ) (calls : CallsBelow all depth k) → depth ≤ length all → IsDistinct eqb (path depth k calls)
  unfolding path IsDistinct
  path_distinct zero k calls le = (tt, tt)
  path_distinct (suc depth) k calls le =
      let called = calls_by_number all k in (
        path_apart k (length all + CALL_DEPTH) (with_numbers [] called) depth calls.1.0 calls.1.3 (omega (arith, le)) calls.0 (added [] called calls.1.0 calls.1.2),
        path_distinct depth calls.1.0 calls.1.3 (omega (arith, le)),
      )

-- there are none as deep as there are methods
pub never_so_deep : (all : List (List NumberedDeed)) (k : ℕ) → k < length all → CallsBelow all (length all) k → ⊥
never_so_deep all k lt calls =
    let n = length all in
    let long = length-le_from_distinct_below (path all n k calls) n (path_distinct all n k calls (omega arith)) (path_there all n k calls lt) in
    omega (arith, long, path_length all n k calls)
