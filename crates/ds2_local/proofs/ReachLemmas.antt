-- Methods reach whatever those reach that they reach, and methods that reach each other have one effect.
use Rattle.std.proofs.Common.{◌≡◌, ◌⊎◌, inl, inr, ◌<◌, ◌≤◌, ℕ, zero, suc, ◌+◌, Bool, true, false, true≢false, List, [], ◌∷◌, ◌++◌, length, Option, Some, None, refl, sym, ap, ◌∙◌, subst, arith, eqb, eqb-true, eq-eqb}
use Rattle.std.specs.List.{list_any, filter, range_with_len, AllByRecursion, IsDistinct}
use Rattle.std.specs.Option.{is_some}
use Rattle.std.specs.Prelude.{◌||◌, ◌==◌, if◌then◌else◌, flat_map, slice_get, slice_set, replicate}
use Rattle.std.proofs.lemmas.Bool.{or_cases, or_left, or_parts, or_right}
use Rattle.std.proofs.lemmas.Bool.Decides.{Decides-eqb}
use Rattle.std.proofs.lemmas.List.{length-append}
use Rattle.std.proofs.lemmas.List.Folds.{list_any-append}
use Rattle.std.proofs.lemmas.Map.Steps.{length-le_from_distinct_below}
use Rattle.std.proofs.lemmas.Option.{same_Some}
use Rattle.ds2_value.specs.declared.fault.TheConstants.{CALL_DEPTH}
use Rattle.ds2_deeds.specs.declared.deed.NumberedDeed.{NumberedDeed}
use Rattle.ds2_deeds.specs.declared.deed.NumberedDeed.TheVariants as numbered
use Rattle.ds2_deeds.specs.NumberedCalls.{deeds_or_none, number_called, numbers_called, is_one_of_numbers, with_one_number, with_numbers, deeds_numbered, calls_by_number, numbers_reached, may_call, with_called, mentions_number}
use Rattle.ds2_deeds.proofs.RoundLemmas.{same_numbers}
use Rattle.ds2_recorded_walk.specs.declared.record.CallEffect.{CallEffect}
use Rattle.ds2_local.specs.CallParts.{number_at, Reaches, StayWithin, AreReached, AreJoined, TellsCycle, TellCycles}
use Rattle.ds2_local.specs.JudgedBodies.{cycle_effect, effect_of_mentions}
use Rattle.ds2_local.specs.MarkedLocations.{numbers_mentioned}
use Rattle.ds2_local.proofs.PartLemmas.{from_one, kept_called}
use Rattle.ds2_local.proofs.PathLemmas.{added, brought, stays_reached}
use Rattle.ds2_local.proofs.SettleLemmas.{last_at}

-- ---- numbers, each once and below a bound

-- each number is below a bound
abbrev AllBelow : ℕ → List ℕ → Type 0
AllBelow n numbers = AllByRecursion (λ x. x < n) numbers

below_of : (n : ℕ) (numbers : List ℕ) → ((j : ℕ) → is_one_of_numbers numbers j ≡ true → j < n) → AllBelow n numbers
below_of n [] h = tt
below_of n (x ∷ numbers) h = (h x (or_left (x == x) (is_one_of_numbers numbers x) (eq-eqb x x refl)), below_of n numbers (λ j e. h j (or_right (x == j) (is_one_of_numbers numbers j) e)))

below_there : (n : ℕ) (numbers : List ℕ) → AllBelow n numbers → (k : ℕ) → list_any (eqb k) numbers ≡ true → k < n
below_there n [] h k e = absurd cc
below_there n (x ∷ numbers) h k e = by (or_cases (eqb k x) (list_any (eqb k) numbers) e) (below_there n numbers h.1 k)
  where
    by : (eqb k x ≡ true) ⊎ (list_any (eqb k) numbers ≡ true) → (list_any (eqb k) numbers ≡ true → k < n) → k < n
    by (inl same) go = subst (λ j. j < n) (sym (eqb-true k x same)) h.0
    by (inr later) go = go later

below_last : (n : ℕ) (numbers : List ℕ) (y : ℕ) → AllBelow n numbers → y < n → AllBelow n (numbers ++ y ∷ [])
below_last n [] y h lt = (lt, tt)
below_last n (x ∷ numbers) y h lt = (h.0, below_last n numbers y h.1 lt)

apart_last : (x y : ℕ) (numbers : List ℕ) → AllByRecursion (λ z. eqb x z ≡ false) numbers → eqb x y ≡ false → AllByRecursion (λ z. eqb x z ≡ false) (numbers ++ y ∷ [])
apart_last x y [] h e = (e, tt)
apart_last x y (z ∷ numbers) h e = (h.0, apart_last x y numbers h.1 e)

distinct_last : (numbers : List ℕ) (y : ℕ) → IsDistinct eqb numbers → is_one_of_numbers numbers y ≡ false → IsDistinct eqb (numbers ++ y ∷ [])
unfolding IsDistinct
distinct_last [] y h e = (tt, tt)
distinct_last (x ∷ numbers) y h e = let p = or_parts (x == y) (is_one_of_numbers numbers y) e in (apart_last x y numbers h.0 p.0, distinct_last numbers y h.1 p.1)

-- numbers, each once and below a bound
record IsSetBelow (n : ℕ) (numbers : List ℕ) : Type 0 where
  distinct : IsDistinct eqb numbers
  below : AllBelow n numbers

no_numbers : (n : ℕ) → IsSetBelow n []
unfolding IsDistinct
no_numbers n = record { distinct = tt; below = tt }

one_by : (n : ℕ) (numbers : List ℕ) (y : ℕ) (b : Bool) → is_one_of_numbers numbers y ≡ b → IsSetBelow n numbers → y < n → IsSetBelow n (if b then numbers else numbers ++ y ∷ [])
one_by n numbers y true e set lt = set
one_by n numbers y false e set lt = record { distinct = distinct_last numbers y set.distinct e; below = below_last n numbers y set.below lt }

all_with : (n : ℕ) (numbers more : List ℕ) → IsSetBelow n numbers → AllBelow n more → IsSetBelow n (with_numbers numbers more)
all_with n numbers [] set h = set
all_with n numbers (y ∷ more) set h = all_with n (with_one_number numbers y) more (one_by n numbers y (is_one_of_numbers numbers y) refl set h.0) h.1

few : (n : ℕ) (numbers : List ℕ) → IsSetBelow n numbers → length numbers ≤ n
few n numbers set = length-le_from_distinct_below numbers n set.distinct (below_there n numbers set.below)

no_fewer_by : (xs ys : List ℕ) (y : ℕ) (b : Bool) → length (if b then xs else xs ++ y ∷ []) ≤ length ys → length xs ≤ length ys
no_fewer_by xs ys y true h = h
no_fewer_by xs ys y false h = omega (arith, length-append xs (y ∷ []), h)

no_fewer : (xs ys : List ℕ) → length xs ≤ length (with_numbers xs ys)
no_fewer xs [] = omega arith
no_fewer xs (y ∷ ys) = no_fewer_by xs (with_numbers (with_one_number xs y) ys) y (is_one_of_numbers xs y) (no_fewer (with_one_number xs y) ys)

-- ---- what is reached

module _ (all : List (List NumberedDeed)) where
  abbrev calls : List ℕ → List ℕ
  calls numbers = flat_map (calls_by_number all) numbers

  stays : (rounds : ℕ) (numbers : List ℕ) → with_numbers numbers (calls numbers) ≡ numbers → numbers_reached all rounds numbers ≡ numbers
  stays zero numbers e = refl
  stays (suc rounds) numbers e = ap (λ l. numbers_reached all rounds l) e ∙ stays rounds numbers e

  module _ (within : StayWithin all) where
    calls_below : (numbers : List ℕ) → AllBelow (length all) (calls numbers)
    calls_below numbers = below_of (length all) (calls numbers) (λ j e. let r = from_one (calls_by_number all) numbers j e in within r.0 j r.2)

    -- behind so many rounds none brings a further one
    ended : (rounds : ℕ) (numbers : List ℕ) → IsSetBelow (length all) numbers → length all < length numbers + rounds
        → with_numbers (numbers_reached all rounds numbers) (calls (numbers_reached all rounds numbers)) ≡ numbers_reached all rounds numbers
    ended zero numbers set lt = absurd (omega (arith, few (length all) numbers set, lt))
    ended (suc rounds) numbers set lt = by (eqb (length next) (length numbers)) refl (ended rounds next (all_with (length all) numbers (calls numbers) set (calls_below numbers)))
      where
        next : List ℕ
        next = with_numbers numbers (calls numbers)

        by : (b : Bool) → eqb (length next) (length numbers) ≡ b
            → (length all < length next + rounds → with_numbers (numbers_reached all rounds next) (calls (numbers_reached all rounds next)) ≡ numbers_reached all rounds next)
            → with_numbers (numbers_reached all rounds next) (calls (numbers_reached all rounds next)) ≡ numbers_reached all rounds next
        by true e go =
            let same : next ≡ numbers = same_numbers numbers (calls numbers) (eqb-true (length next) (length numbers) e) in
            let stay : numbers_reached all rounds next ≡ numbers = ap (λ l. numbers_reached all rounds l) same ∙ stays rounds numbers same in
            ap (λ l. with_numbers l (calls l)) stay ∙ same ∙ sym stay
        by false e go =
            let apart : length next ≡ length numbers → ⊥ = λ h. true≢false (sym (eq-eqb (length next) (length numbers) h) ∙ e) in
            let long : length numbers ≤ length next = no_fewer numbers (calls numbers) in
            go (omega (arith, long, apart, lt))

    -- a method that is called by one that is reached is reached
    pub reaches_called : (k i j : ℕ) → Reaches all k i → is_one_of_numbers (calls_by_number all i) j ≡ true → Reaches all k j
    reaches_called k i j h e =
        let own = calls_by_number all k in
        let first = with_numbers [] own in
        let reached = numbers_reached all (length all + CALL_DEPTH) first in
        let set = all_with (length all) [] own (no_numbers (length all)) (below_of (length all) own (within k)) in
        let enough : length all < length first + (length all + CALL_DEPTH) = omega arith in
        ap (λ l. is_one_of_numbers l j) (sym (ended (length all + CALL_DEPTH) first set enough)) ∙ added reached (calls reached) j (brought (calls_by_number all) reached i j h e)

    -- a method reaches whatever those reach that it reaches
    pub reaches_through : (k i j : ℕ) → Reaches all k i → Reaches all i j → Reaches all k j
    reaches_through k i j h e =
        kept_called all (λ x. Reaches all k x) (λ a x g f. reaches_called k a x g f) (length all + CALL_DEPTH) (deeds_numbered all i) (λ x f. reaches_called k i x h f) j e

  -- a method reaches those that it calls
  pub reaches_own : (k j : ℕ) → is_one_of_numbers (calls_by_number all k) j ≡ true → Reaches all k j
  reaches_own k j e = stays_reached all (length all + CALL_DEPTH) (with_numbers [] (calls_by_number all k)) j (added [] (calls_by_number all k) j e)

-- ---- the effect of methods that reach each other

module _ (test : NumberedDeed → Bool) (of : ℕ → List NumberedDeed) where
  any_brought : (numbers : List ℕ) (i : ℕ) → is_one_of_numbers numbers i ≡ true → list_any test (of i) ≡ true → list_any test (flat_map of numbers) ≡ true
  any_brought [] i e f = absurd cc
  any_brought (x ∷ numbers) i e f = list_any-append test (of x) (flat_map of numbers) ∙ by (or_cases (x == i) (is_one_of_numbers numbers i) e) (λ g. any_brought numbers i g f)
    where
      by : ((x == i) ≡ true) ⊎ (is_one_of_numbers numbers i ≡ true) → (is_one_of_numbers numbers i ≡ true → list_any test (flat_map of numbers) ≡ true) → (list_any test (of x) || list_any test (flat_map of numbers)) ≡ true
      by (inl same) go = or_left (list_any test (of x)) (list_any test (flat_map of numbers)) (ap (λ n. list_any test (of n)) (eqb-true x i same) ∙ f)
      by (inr later) go = or_right (list_any test (of x)) (list_any test (flat_map of numbers)) (go later)

  any_from : (numbers : List ℕ) → list_any test (flat_map of numbers) ≡ true → (i : ℕ) × (is_one_of_numbers numbers i ≡ true) × (list_any test (of i) ≡ true)
  any_from [] e = absurd cc
  any_from (x ∷ numbers) e = by (or_cases (list_any test (of x)) (list_any test (flat_map of numbers)) (sym (list_any-append test (of x) (flat_map of numbers)) ∙ e)) (any_from numbers)
    where
      by : (list_any test (of x) ≡ true) ⊎ (list_any test (flat_map of numbers) ≡ true)
          → (list_any test (flat_map of numbers) ≡ true → (i : ℕ) × (is_one_of_numbers numbers i ≡ true) × (list_any test (of i) ≡ true))
          → (i : ℕ) × (is_one_of_numbers (x ∷ numbers) i ≡ true) × (list_any test (of i) ≡ true)
      by (inl h) go = (x, or_left (x == x) (is_one_of_numbers numbers x) (eq-eqb x x refl), h)
      by (inr h) go = let r = go h in (r.0, or_right (x == r.0) (is_one_of_numbers numbers r.0) r.1, r.2)

same_truth : (a b : Bool) → (a ≡ true → b ≡ true) → (b ≡ true → a ≡ true) → a ≡ b
same_truth true b f g = sym (f refl)
same_truth false true f g = g refl
same_truth false false f g = refl

module _ (all : List (List NumberedDeed)) (within : StayWithin all) where
  -- the deeds of a method and of all that it reaches
  abbrev whole : ℕ → List NumberedDeed
  whole k = with_called all (length all + CALL_DEPTH) (deeds_numbered all k)

  abbrev reached : ℕ → List ℕ
  reached k = may_call all (length all + CALL_DEPTH) (deeds_numbered all k)

  done_by : (test : NumberedDeed → Bool) (k r : ℕ) → Reaches all r k → list_any test (whole k) ≡ true → list_any test (whole r) ≡ true
  done_by test k r back e =
      list_any-append test (deeds_numbered all r) (flat_map (deeds_numbered all) (reached r))
      ∙ or_right (list_any test (deeds_numbered all r)) (list_any test (flat_map (deeds_numbered all) (reached r)))
      (by (or_cases (list_any test (deeds_numbered all k)) (list_any test (flat_map (deeds_numbered all) (reached k))) (sym (list_any-append test (deeds_numbered all k) (flat_map (deeds_numbered all) (reached k))) ∙ e)))
    where
      by : (list_any test (deeds_numbered all k) ≡ true) ⊎ (list_any test (flat_map (deeds_numbered all) (reached k)) ≡ true) → list_any test (flat_map (deeds_numbered all) (reached r)) ≡ true
      by (inl h) = any_brought test (deeds_numbered all) (reached r) k back h
      by (inr h) = let i = any_from test (deeds_numbered all) (reached k) h in any_brought test (deeds_numbered all) (reached r) i.0 (reaches_through all within r k i.0 back i.1) i.2

  mentions_same : (count k r : ℕ) → Reaches all k r → Reaches all r k → numbers_mentioned count (whole k) ≡ numbers_mentioned count (whole r)
  mentions_same count k r there back =
      ap (λ f. filter f (range_with_len 0 count))
      (λ i n. (same_truth (list_any (mentions_number n) (whole k)) (list_any (mentions_number n) (whole r)) (done_by (mentions_number n) k r back) (done_by (mentions_number n) r k there)) i)

  on_cycle : (count k : ℕ) → Reaches all k k → cycle_effect count all k (deeds_numbered all k) ≡ Some (effect_of_mentions count (whole k))
  on_cycle count k e = ap (λ (b : Bool). if b then Some (effect_of_mentions count (whole k)) else None) e

  -- methods that reach each other have one effect
  pub same_effect : (count k r : ℕ) → Reaches all k r → Reaches all r k → cycle_effect count all k (deeds_numbered all k) ≡ cycle_effect count all r (deeds_numbered all r)
  same_effect count k r there back =
      on_cycle count k (reaches_through all within k r k there back)
      ∙ ap (λ (ns : List ℕ). let x : CallEffect = record { reads = ns; keeps = replicate count true } in Some x) (mentions_same count k r there back)
      ∙ sym (on_cycle count r (reaches_through all within r k r back there))

-- ---- the method that a deed calls

pub called_there : (deeds : List NumberedDeed) (place called : ℕ) → slice_get deeds place ≡ Some (numbered.Call called) → is_one_of_numbers (numbers_called deeds) called ≡ true
called_there [] place called e = absurd cc
called_there (d ∷ deeds) zero called e =
    list_any-append (λ other. other == called) (number_called d) (numbers_called deeds)
    ∙ or_left (is_one_of_numbers (number_called d) called) (is_one_of_numbers (numbers_called deeds) called)
    (ap (λ x. is_one_of_numbers (number_called x) called) (same_Some d (numbered.Call called) e) ∙ or_left (called == called) false (eq-eqb called called refl))
called_there (d ∷ deeds) (suc place) called e =
    list_any-append (λ other. other == called) (number_called d) (numbers_called deeds)
    ∙ or_right (is_one_of_numbers (number_called d) called) (is_one_of_numbers (numbers_called deeds) called) (called_there deeds place called e)

-- ---- marks

set_here : (xs : List ℕ) (i x y : ℕ) → number_at (slice_set xs i x) i ≡ suc y → x ≡ suc y
set_here [] i x y e = absurd cc
set_here (z ∷ xs) zero x y e = e
set_here (z ∷ xs) (suc i) x y e = set_here xs i x y e

set_there : (xs : List ℕ) (i k x : ℕ) → (k ≡ i → ⊥) → number_at (slice_set xs i x) k ≡ number_at xs k
set_there [] i k x apart = refl
set_there (z ∷ xs) zero zero x apart = absurd (apart refl)
set_there (z ∷ xs) zero (suc k) x apart = refl
set_there (z ∷ xs) (suc i) zero x apart = refl
set_there (z ∷ xs) (suc i) (suc k) x apart = set_there xs i k x (λ e. apart (ap (λ n. suc n) e))

-- marks say this of each method that has one
abbrev Marked : (ℕ → ℕ → Type 0) → List ℕ → Type 0
Marked P marks = (k head : ℕ) → number_at marks k ≡ suc head → P k head

-- so do those with one more
marked_more : (P : ℕ → ℕ → Type 0) (marks next : List ℕ) (j mark : ℕ) → next ≡ slice_set marks j mark → ((head : ℕ) → mark ≡ suc head → P j head) → Marked P marks → Marked P next
marked_more P marks next j mark put there before k head e = by (k == j) refl
  where
    now : number_at (slice_set marks j mark) k ≡ suc head
    now = ap (λ l. number_at l k) (sym put) ∙ e

    by : (b : Bool) → (k == j) ≡ b → P k head
    by true g =
        let same : k ≡ j = (Decides-eqb k j).0 g in
        subst (λ i. P i head) (sym same) (there head (set_here marks j mark head (ap (λ i. number_at (slice_set marks j mark) i) (sym same) ∙ now)))
    by false g = before k head (sym (set_there marks j k mark (λ h. true≢false (sym ((Decides-eqb k j).1 h) ∙ g))) ∙ now)

unmarked : (count k : ℕ) → number_at (replicate count zero) k ≡ zero
unmarked zero k = refl
unmarked (suc count) zero = refl
unmarked (suc count) (suc k) = unmarked count k

none_marked : (P : ℕ → ℕ → Type 0) (marks : List ℕ) (count : ℕ) → marks ≡ replicate count 0 → Marked P marks
none_marked P marks count e k head f = let none : 0 ≡ suc head = sym (ap (λ l. number_at l k) e ∙ unmarked count k) ∙ f in absurd cc

module _ (all : List (List NumberedDeed)) where
  -- the method is one that the other reaches
  abbrev IsReached : ℕ → ℕ → Type 0
  IsReached k head = (k ≡ head) ⊎ Reaches all head k

  -- the method is the other one, or the two reach each other
  abbrev IsJoined : ℕ → ℕ → Type 0
  IsJoined k head = (k ≡ head) ⊎ (Reaches all k head × Reaches all head k)

  pub none_reached : (marks : List ℕ) (count : ℕ) → marks ≡ replicate count 0 → AreReached all marks
  none_reached marks count e = record { each = λ within. none_marked (λ k head. IsReached k head) marks count e }

  -- the head of a part
  pub reached_head : (marks next : List ℕ) (j mark : ℕ) → ((head : ℕ) → mark ≡ suc head → j ≡ head) → next ≡ slice_set marks j mark → AreReached all marks → AreReached all next
  reached_head marks next j mark own put before = record { each = λ within. marked_more (λ k head. IsReached k head) marks next j mark put (λ head e. inl (own head e)) (before.each within) }

  -- one that a marked one calls
  pub reached_next : (marks next : List ℕ) (caller j mark : ℕ) → is_one_of_numbers (calls_by_number all caller) j ≡ true → mark ≡ number_at marks caller → next ≡ slice_set marks j mark → AreReached all marks → AreReached all next
  reached_next marks next caller j mark call is put before = record {
    each = λ within. marked_more (λ k head. IsReached k head) marks next j mark put (λ head e. on within head (before.each within caller head (sym is ∙ e))) (before.each within);
  }
    where
      on : StayWithin all → (head : ℕ) → IsReached caller head → IsReached j head
      on within head (inl same) = inr (reaches_own all head j (subst (λ i. is_one_of_numbers (calls_by_number all i) j ≡ true) same call))
      on within head (inr there) = inr (reaches_called all within head caller j there call)

  pub none_joined : (marks : List ℕ) (count : ℕ) → marks ≡ replicate count 0 → AreJoined all marks
  none_joined marks count e = record { each = λ within. none_marked (λ k head. IsJoined k head) marks count e }

  -- the head of a part
  pub joined_head : (marks next : List ℕ) (j mark : ℕ) → ((head : ℕ) → mark ≡ suc head → j ≡ head) → next ≡ slice_set marks j mark → AreJoined all marks → AreJoined all next
  joined_head marks next j mark own put before = record { each = λ within. marked_more (λ k head. IsJoined k head) marks next j mark put (λ head e. inl (own head e)) (before.each within) }

  -- one that calls a marked one, and is reached by the same
  pub joined_next : (from marks next : List ℕ) (called j mark : ℕ) → is_one_of_numbers (calls_by_number all j) called ≡ true → mark ≡ number_at marks called → number_at from j ≡ mark → next ≡ slice_set marks j mark
      → AreReached all from → AreJoined all marks → AreJoined all next
  joined_next from marks next called j mark call is same put reached before = record {
    each = λ within.
        marked_more (λ k head. IsJoined k head) marks next j mark put (λ head e. both within head (reached.each within j head (same ∙ e)) (before.each within called head (sym is ∙ e))) (before.each within);
  }
    where
      both : StayWithin all → (head : ℕ) → IsReached j head → IsJoined called head → IsJoined j head
      both within head (inl e) other = inl e
      both within head (inr back) (inl e) = inr (reaches_own all j head (subst (λ i. is_one_of_numbers (calls_by_number all j) i ≡ true) e call), back)
      both within head (inr back) (inr there) = inr (reaches_through all within j called head (reaches_own all j called call) there.0, back)

-- ---- effects of heads, and of those that share them

-- the effects of so many methods
pub record HasCycles (count : ℕ) (all : List (List NumberedDeed)) (effects : List (Option CallEffect)) (number : ℕ) : Type 0 where
  pub as_many : length effects ≡ number
  pub tell : TellCycles count all effects

pub no_cycles : (count : ℕ) (all : List (List NumberedDeed)) (effects : List (Option CallEffect)) → effects ≡ [] → HasCycles count all effects 0
no_cycles count all effects e = record {
  as_many = ap (λ l. length l) e;
  tell = record { each = λ k effect f. let none : None ≡ Some effect = sym (ap (λ l. slice_get l k) e) ∙ f in absurd cc };
}

pub one_cycle_more : (count : ℕ) (all : List (List NumberedDeed)) (effects next : List (Option CallEffect)) (number : ℕ) (effect : Option CallEffect) → TellsCycle count all number effect → next ≡ effects ++ effect ∷ []
    → HasCycles count all effects number → HasCycles count all next (number + 1)
one_cycle_more count all effects next number effect is e has = subst (λ l. HasCycles count all l (number + 1)) (sym e) (record {
  as_many = length-append effects (effect ∷ []) ∙ ap (λ k. k + 1) has.as_many;
  tell = record { each = λ k x f. by k x (last_at effects effect x k f) };
})
  where
    by : (k : ℕ) (x : Option CallEffect) → (slice_get effects k ≡ Some x) ⊎ ((k ≡ length effects) × (effect ≡ x)) → TellsCycle count all k x
    by k x (inl f) = has.tell.each k x f
    by k x (inr f) = subst (λ j. TellsCycle count all j x) (sym (f.0 ∙ has.as_many)) (subst (λ o. TellsCycle count all number o) f.1 is)

-- what is there is the effect
pub some_tells : (count : ℕ) (all : List (List NumberedDeed)) (number : ℕ) (deeds : List NumberedDeed) (o : Option CallEffect) → slice_get all number ≡ Some deeds → is_some o ≡ true → TellsCycle count all number o
    → o ≡ cycle_effect count all number deeds
some_tells count all number deeds None here e tells = absurd (true≢false (sym e))
some_tells count all number deeds (Some x) here e tells = tells ∙ ap (λ l. cycle_effect count all number l) (ap (λ o. deeds_or_none o) here)

-- an effect that was found
pub found_tells : (count : ℕ) (all : List (List NumberedDeed)) (number : ℕ) (deeds : List NumberedDeed) (o : Option CallEffect) → slice_get all number ≡ Some deeds → o ≡ cycle_effect count all number deeds → TellsCycle count all number o
found_tells count all number deeds None here is = tt
found_tells count all number deeds (Some x) here is = is ∙ ap (λ l. cycle_effect count all number l) (ap (λ y. deeds_or_none y) (sym here))

-- that of a head, which the method is or which it reaches and is reached by
pub joined_tells : (count : ℕ) (all : List (List NumberedDeed)) (k head : ℕ) (o : Option CallEffect) → StayWithin all → (k ≡ head) ⊎ (Reaches all k head × Reaches all head k) → TellsCycle count all head o → TellsCycle count all k o
joined_tells count all k head None within both tells = tt
joined_tells count all k head (Some x) within (inl same) tells = subst (λ i. Some x ≡ cycle_effect count all i (deeds_numbered all i)) (sym same) tells
joined_tells count all k head (Some x) within (inr both) tells = tells ∙ sym (same_effect all within count k head both.0 both.1)
