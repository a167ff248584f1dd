-- Sets by marks of the numbers that are not in them.
use Rattle.std.proofs.Common.{◌≡◌, ◌<◌, ◌≤◌, ◌+◌, ◌-◌, ℕ, zero, suc, Bool, true, false, not, List, [], ◌∷◌, ◌++◌, length, map, replicate, option_map, Some, refl, sym, ap, ◌∙◌, arith, ltb-true, ltb-false, lt-ltb, le-ltb, eqb-true, eq-eqb, ne_eqb, get_or, drop}
use Rattle.std.specs.List.{range_with_len}
use Rattle.std.specs.Prelude.{◌&&◌, ◌||◌, ◌==◌, nat_lt, if◌then◌else◌, slice_get, slice_set}
use Rattle.std.proofs.lemmas.Bool.{eqb-false}
use Rattle.std.proofs.lemmas.List.FromFn.{length-map-range_with_len, map-range_with_len_more}
use Rattle.std.proofs.lemmas.Option.{slice_get-map}
use Rattle.ds2_recorded_walk.specs.declared.number_marks.NumberMarks.{NumberMarks}
use Rattle.ds2_recorded_walk.specs.LocationBits.{or_off, is_on, later_bits, either_on, both_on}
use Rattle.ds2_recorded_walk.specs.MarkedSets.{is_on_from, is_marked, all_but_marked, marks_without}
use Rattle.ds2_recorded_walk.proofs.BitLemmas.{either_is, both_are, taken_out, left_in}

-- ---- values

-- two lists of as many values, which are the same at each number
same_bits : (a b : List Bool) → length a ≡ length b → ((n : ℕ) → is_on a n ≡ is_on b n) → a ≡ b
same_bits [] [] e h = refl
same_bits [] (y ∷ b) e h = absurd (omega (arith, e))
same_bits (x ∷ a) [] e h = absurd (omega (arith, e))
same_bits (x ∷ a) (y ∷ b) e h =
    let less : length a ≡ length b = omega (arith, e) in ap (λ z. z ∷ a) (h zero) ∙ ap (λ l. y ∷ l) (same_bits a b less (λ n. h (suc n)))

-- no value stands behind the last one
none_behind : (bits : List Bool) (n : ℕ) → length bits ≤ n → is_on bits n ≡ false
none_behind [] n le = refl
none_behind (x ∷ bits) zero le = absurd (omega (arith, le))
none_behind (x ∷ bits) (suc n) le = let less : length bits ≤ n = omega (arith, le) in none_behind bits n less

range_there : (from count k : ℕ) → k < count → slice_get (range_with_len from count) k ≡ Some (from + k)
range_there from zero k lt = absurd (omega (arith, lt))
range_there from (suc count) zero lt = let e : from ≡ from + zero = omega arith in ap (λ n. Some n) e
range_there from (suc count) (suc k) lt =
    let less : k < count = omega (arith, lt) in let e : from + 1 + k ≡ from + suc k = omega arith in range_there (from + 1) count k less ∙ ap (λ n. Some n) e

-- the value of a number by a test
pub counted_on : (test : ℕ → Bool) (count k : ℕ) → k < count → is_on (map test (range_with_len 0 count)) k ≡ test k
counted_on test count k lt =
    let e : 0 + k ≡ k = omega arith in
    ap (λ o. or_off o) (slice_get-map test (range_with_len 0 count) k ∙ ap (λ o. option_map test o) (range_there 0 count k lt)) ∙ ap test e

pub both_length : (a b : List Bool) → length (both_on a b) ≡ length a
both_length [] b = refl
both_length (x ∷ a) b = ap (λ n. suc n) (both_length a (later_bits b))

set_length : (bits : List Bool) (n : ℕ) (x : Bool) → length (slice_set bits n x) ≡ length bits
set_length [] n x = refl
set_length (y ∷ bits) zero x = refl
set_length (y ∷ bits) (suc n) x = ap (λ k. suc k) (set_length bits n x)

more_length : (a b : List Bool) → length b ≤ length a → length (either_on a b) ≡ length a
more_length [] [] le = refl
more_length [] (y ∷ b) le = absurd (omega (arith, le))
more_length (x ∷ a) [] le = let less : 0 ≤ length a = omega arith in ap (λ n. suc n) (more_length a [] less)
more_length (x ∷ a) (y ∷ b) le = let less : length b ≤ length a = omega (arith, le) in ap (λ n. suc n) (more_length a b less)

or_off_last : (x : Bool) → (x || false) ≡ x
or_off_last true = refl
or_off_last false = refl

or_turned : (a b : Bool) → (a || b) ≡ (b || a)
or_turned true true = refl
or_turned true false = refl
or_turned false true = refl
or_turned false false = refl

pub either_nothing : (a : List Bool) → either_on a [] ≡ a
either_nothing [] = refl
either_nothing (x ∷ a) = ap (λ y. y ∷ either_on a []) (or_off_last x) ∙ ap (λ l. x ∷ l) (either_nothing a)

pub either_turned : (a b : List Bool) → either_on a b ≡ either_on b a
either_turned [] b = sym (either_nothing b)
either_turned (x ∷ a) [] = either_nothing (x ∷ a)
either_turned (x ∷ a) (y ∷ b) = ap (λ z. z ∷ either_on a b) (or_turned x y) ∙ ap (λ l. (y || x) ∷ l) (either_turned a b)

-- ---- values from a first number on

pub none_from : (from n : ℕ) → is_on_from from [] n ≡ false
none_from from n = by (nat_lt n from)
  where
    by : (b : Bool) → (if b then false else is_on [] (n - from)) ≡ false
    by true = refl
    by false = refl

and_true : (y : Bool) → (y && true) ≡ y
and_true true = refl
and_true false = refl

and_false : (y : Bool) → (y && false) ≡ false
and_false true = refl
and_false false = refl

-- the first value, and then those of the later numbers
pub from_next : (from : ℕ) (x : Bool) (xs : List Bool) (n : ℕ) → is_on_from from (x ∷ xs) n ≡ ((x && (n == from)) || is_on_from (from + 1) xs n)
from_next from x xs n = by (nat_lt n from) refl
  where
    here_by : (k : ℕ) → n - from ≡ k → from ≤ n → is_on (x ∷ xs) (n - from) ≡ ((x && (n == from)) || is_on_from (from + 1) xs n)
    here_by zero e le =
        let here : n ≡ from = omega (arith, e, le) in
        let lt : n < from + 1 = omega (arith, here) in
        ap (λ k. is_on (x ∷ xs) k) e ∙ sym (or_off_last x) ∙ ap (λ y. y || false) (sym (and_true x)) ∙ ap (λ b. (x && b) || false) (sym (eq-eqb n from here))
        ∙ ap (λ b. (x && (n == from)) || (if b then false else is_on xs (n - (from + 1)))) (sym (lt-ltb n (from + 1) lt))
    here_by (suc k) e le =
        let apart : n ≡ from → ⊥ = λ same. omega (arith, same, e) in
        let past : from + 1 ≤ n = omega (arith, e) in
        let one : k ≡ n - (from + 1) = omega (arith, e) in
        ap (λ j. is_on (x ∷ xs) j) e ∙ ap (λ j. is_on xs j) one
        ∙ ap (λ b. if b then false else is_on xs (n - (from + 1))) (sym (le-ltb n (from + 1) past)) ∙ ap (λ b. b || is_on_from (from + 1) xs n) (sym (and_false x) ∙ ap (λ b. x && b) (sym (ne_eqb n from apart)))

    by : (b : Bool) → nat_lt n from ≡ b → is_on_from from (x ∷ xs) n ≡ ((x && (n == from)) || is_on_from (from + 1) xs n)
    by true e =
        let lt = ltb-true n from e in
        let apart : n ≡ from → ⊥ = λ same. omega (arith, same, lt) in
        let less : n < from + 1 = omega (arith, lt) in
        ap (λ b. if b then false else is_on (x ∷ xs) (n - from)) e ∙ ap (λ b. if b then false else is_on xs (n - (from + 1))) (sym (lt-ltb n (from + 1) less))
        ∙ ap (λ b. b || is_on_from (from + 1) xs n) (sym (and_false x) ∙ ap (λ b. x && b) (sym (ne_eqb n from apart)))
    by false e = ap (λ b. if b then false else is_on (x ∷ xs) (n - from)) e ∙ here_by (n - from) refl (ltb-false n from e)

-- values that are false in front
pub from_earlier : (from count : ℕ) (bits : List Bool) (n : ℕ) → is_on_from from (replicate count false ++ bits) n ≡ is_on_from (from + count) bits n
from_earlier from zero bits n = let e : from ≡ from + zero = omega arith in ap (λ k. is_on_from k bits n) e
from_earlier from (suc count) bits n =
    let e : from + 1 + count ≡ from + suc count = omega arith in
    from_next from false (replicate count false ++ bits) n ∙ from_earlier (from + 1) count bits n ∙ ap (λ k. is_on_from k bits n) e

-- a value that is put on
put_there : (bits : List Bool) (at : ℕ) → at < length bits → is_on (slice_set bits at true) at ≡ true
put_there [] at lt = absurd (omega (arith, lt))
put_there (x ∷ bits) zero lt = refl
put_there (x ∷ bits) (suc at) lt = let less : at < length bits = omega (arith, lt) in put_there bits at less

left_as : (bits : List Bool) (x : Bool) (n m : ℕ) → (m ≡ n → ⊥) → is_on (slice_set bits n x) m ≡ is_on bits m
left_as [] x n m apart = refl
left_as (y ∷ bits) x zero zero apart = absurd (apart refl)
left_as (y ∷ bits) x zero (suc m) apart = refl
left_as (y ∷ bits) x (suc n) zero apart = refl
left_as (y ∷ bits) x (suc n) (suc m) apart = left_as bits x n m (λ e. apart (ap (λ k. suc k) e))

pub set_on : (bits : List Bool) (at : ℕ) → at < length bits → (n : ℕ) → is_on (slice_set bits at true) n ≡ ((n == at) || is_on bits n)
set_on bits at lt n = by (n == at) refl
  where
    by : (b : Bool) → (n == at) ≡ b → is_on (slice_set bits at true) n ≡ ((n == at) || is_on bits n)
    by true e = ap (λ k. is_on (slice_set bits at true) k) (eqb-true n at e) ∙ put_there bits at lt ∙ ap (λ b. b || is_on bits n) (sym e)
    by false e = left_as bits true at n (eqb-false n at e) ∙ ap (λ b. b || is_on bits n) (sym e)

-- one value more that is false
pub off_behind : (bits : List Bool) (n : ℕ) → is_on (bits ++ false ∷ []) n ≡ is_on bits n
off_behind [] zero = refl
off_behind [] (suc n) = refl
off_behind (x ∷ bits) zero = refl
off_behind (x ∷ bits) (suc n) = off_behind bits n

-- the same values at each place
pub same_from : (from : ℕ) (a b : List Bool) → ((n : ℕ) → is_on a n ≡ is_on b n) → (n : ℕ) → is_on_from from a n ≡ is_on_from from b n
same_from from a b h n = ap (λ y. if nat_lt n from then false else y) (h (n - from))

-- one value more at a place
pub put_from : (from number : ℕ) (a b : List Bool) → from ≤ number → ((n : ℕ) → is_on b n ≡ ((n == (number - from)) || is_on a n)) → (n : ℕ)
    → is_on_from from b n ≡ ((n == number) || is_on_from from a n)
put_from from number a b le h n = by (nat_lt n from) refl
  where
    same : from ≤ n → (c : Bool) → (n == number) ≡ c → (n - from == number - from) ≡ c
    same g true e = let is = eqb-true n number e in eq-eqb (n - from) (number - from) (ap (λ k. k - from) is)
    same g false e = let off = eqb-false n number e in ne_eqb (n - from) (number - from) (λ f. off (omega (arith, f, g, le)))

    by : (c : Bool) → nat_lt n from ≡ c → is_on_from from b n ≡ ((n == number) || is_on_from from a n)
    by true e =
        let lt = ltb-true n from e in
        let apart : n ≡ number → ⊥ = λ f. omega (arith, f, lt, le) in
        ap (λ c. if c then false else is_on b (n - from)) e ∙ ap (λ c. c || false) (sym (ne_eqb n number apart)) ∙ ap (λ c. (n == number) || (if c then false else is_on a (n - from))) (sym e)
    by false e =
        ap (λ c. if c then false else is_on b (n - from)) e ∙ h (n - from) ∙ ap (λ c. c || is_on a (n - from)) (same (ltb-false n from e) (n == number) refl)
        ∙ ap (λ c. (n == number) || (if c then false else is_on a (n - from))) (sym e)

-- the numbers from one up to another, where a loop over them has ended
pub marked_to : (from to number n : ℕ) → to ≤ number → (from ≤ n → n < number → n < to) → (not (nat_lt n from) && nat_lt n number) ≡ (not (nat_lt n from) && nat_lt n to)
marked_to from to number n le within = by (nat_lt n from) (nat_lt n number) refl refl
  where
    by : (b c : Bool) → nat_lt n from ≡ b → nat_lt n number ≡ c → (not (nat_lt n from) && nat_lt n number) ≡ (not (nat_lt n from) && nat_lt n to)
    by true c e f = ap (λ x. not x && nat_lt n number) e ∙ ap (λ x. not x && nat_lt n to) (sym e)
    by false true e f = ap (λ x. not (nat_lt n from) && x) (f ∙ sym (lt-ltb n to (within (ltb-false n from e) (ltb-true n number f))))
    by false false e f =
        let less = ltb-false n number f in let over : to ≤ n = omega (arith, less, le) in ap (λ x. not (nat_lt n from) && x) (f ∙ sym (le-ltb n to over))

pub marked_none : (from to n : ℕ) → to ≤ from → false ≡ (not (nat_lt n from) && nat_lt n to)
marked_none from to n le = by (nat_lt n from) refl
  where
    by : (b : Bool) → nat_lt n from ≡ b → false ≡ (not (nat_lt n from) && nat_lt n to)
    by true e = ap (λ x. not x && nat_lt n to) (sym e)
    by false e =
        let least = ltb-false n from e in
        let over : to ≤ n = omega (arith, least, le) in ap (λ x. not x && false) (sym e) ∙ ap (λ x. not (nat_lt n from) && x) (sym (le-ltb n to over))

-- one value more of others is looked at
drop_at : (bits : List Bool) (i : ℕ) → i < length bits → drop i bits ≡ get_or bits i false ∷ drop (i + 1) bits
drop_at [] i lt = absurd (omega (arith, lt))
drop_at (x ∷ bits) zero lt = refl
drop_at (x ∷ bits) (suc i) lt =
    let less : i < length bits = omega (arith, lt) in
    let one : suc (i + 1) ≡ suc i + 1 = omega arith in drop_at bits i less ∙ ap (λ k. get_or bits i false ∷ drop k (x ∷ bits)) one

pub marked_next : (number next : ℕ) (bits : List Bool) (i : ℕ) (old new : NumberMarks) (n : ℕ) → i < length bits → next ≡ number + 1 → is_marked new n ≡ ((get_or bits i false && (n == number)) || is_marked old n)
    → (is_on_from next (drop (i + 1) bits) n || is_marked new n) ≡ (is_on_from number (drop i bits) n || is_marked old n)
marked_next number next bits i old new n lt e h =
    let rest = drop (i + 1) bits in
    let x = get_or bits i false in
    ap (λ k. is_on_from k rest n || is_marked new n) e ∙ ap (λ b. is_on_from (number + 1) rest n || b) h ∙ turned (is_on_from (number + 1) rest n) (x && (n == number)) (is_marked old n)
    ∙ ap (λ b. b || is_marked old n) (sym (from_next number x rest n)) ∙ ap (λ l. is_on_from number l n || is_marked old n) (sym (drop_at bits i lt))
  where
    turned : (a b c : Bool) → (a || (b || c)) ≡ ((b || a) || c)
    turned true true c = refl
    turned true false c = refl
    turned false true c = refl
    turned false false c = refl

-- ---- sets

pub on_but : (count : ℕ) (out : NumberMarks) (n : ℕ) → is_on (all_but_marked count out) n ≡ (nat_lt n count && not (is_marked out n))
on_but count out n = by (nat_lt n count) refl
  where
    by : (b : Bool) → nat_lt n count ≡ b → is_on (all_but_marked count out) n ≡ (nat_lt n count && not (is_marked out n))
    by true e = counted_on (λ k. not (is_marked out k)) count n (ltb-true n count e) ∙ ap (λ b. b && not (is_marked out n)) (sym e)
    by false e =
        let long = length-map-range_with_len (λ k. not (is_marked out k)) 0 count in
        let over = ltb-false n count e in
        none_behind (all_but_marked count out) n (omega (arith, long, over)) ∙ ap (λ b. b && not (is_marked out n)) (sym e)

pub but_length : (count : ℕ) (out : NumberMarks) → length (all_but_marked count out) ≡ count
but_length count out = length-map-range_with_len (λ k. not (is_marked out k)) 0 count

-- a set as its values
pub as_long : (count : ℕ) (out : NumberMarks) (bits : List Bool) → all_but_marked count out ≡ bits → length bits ≡ count
as_long count out bits is = sym (ap (λ l. length l) is) ∙ but_length count out

pub in_set : (count : ℕ) (out : NumberMarks) (bits : List Bool) → all_but_marked count out ≡ bits → (n : ℕ) → n < count → not (is_marked out n) ≡ is_on bits n
in_set count out bits is n lt = ap (λ b. b && not (is_marked out n)) (sym (lt-ltb n count lt)) ∙ sym (on_but count out n) ∙ ap (λ l. is_on l n) is

pub past_set : (count : ℕ) (out : NumberMarks) (bits : List Bool) → all_but_marked count out ≡ bits → (n : ℕ) → count ≤ n → nat_lt n count ≡ is_on bits n
past_set count out bits is n le = le-ltb n count le ∙ ap (λ b. b && not (is_marked out n)) (sym (le-ltb n count le)) ∙ sym (on_but count out n) ∙ ap (λ l. is_on l n) is

pub none_in : (count : ℕ) (out : NumberMarks) (bits : List Bool) → all_but_marked count out ≡ bits → count ≡ 0 → bits ≡ []
none_in count out bits is e = sym is ∙ ap (λ k. all_but_marked k out) e

pub but_next : (number : ℕ) (out : NumberMarks) (bits next : List Bool) (b : Bool) → bits ≡ all_but_marked number out → b ≡ is_marked out number → next ≡ bits ++ not b ∷ []
    → next ≡ all_but_marked (number + 1) out
but_next number out bits next b before e is =
    let there : 0 + number ≡ number = omega arith in
    is ∙ ap (λ l. l ++ not b ∷ []) before ∙ ap (λ x. all_but_marked number out ++ not x ∷ []) e ∙ sym (map-range_with_len_more (λ n. not (is_marked out n)) 0 number number there)

all_from : (test : ℕ → Bool) → ((n : ℕ) → test n ≡ true) → (from count : ℕ) → map test (range_with_len from count) ≡ replicate count true
all_from test h from zero = refl
all_from test h from (suc count) = ap (λ x. x ∷ map test (range_with_len (from + 1) count)) (h from) ∙ ap (λ l. true ∷ l) (all_from test h (from + 1) count)

-- where no number is marked, all are in the set
pub all_in : (count : ℕ) (out : NumberMarks) → ((n : ℕ) → is_marked out n ≡ false) → all_but_marked count out ≡ replicate count true
all_in count out h = all_from (λ n. not (is_marked out n)) (λ n. ap not (h n)) 0 count

-- one number more is marked
pub one_out : (count : ℕ) (out next : NumberMarks) (at : ℕ) → ((n : ℕ) → is_marked next n ≡ ((n == at) || is_marked out n)) → all_but_marked count next ≡ slice_set (all_but_marked count out) at false
one_out count out next at h =
    same_bits (all_but_marked count next) (slice_set (all_but_marked count out) at false) (but_length count next ∙ sym (but_length count out) ∙ sym (set_length (all_but_marked count out) at false))
    (λ n. by n (n == at) refl)
  where
    by : (n : ℕ) (c : Bool) → (n == at) ≡ c → is_on (all_but_marked count next) n ≡ is_on (slice_set (all_but_marked count out) at false) n
    by n true e =
        on_but count next n ∙ ap (λ b. nat_lt n count && not b) (h n ∙ ap (λ b. b || is_marked out n) e) ∙ and_false (nat_lt n count)
        ∙ sym (taken_out (all_but_marked count out) at) ∙ ap (λ k. is_on (slice_set (all_but_marked count out) at false) k) (sym (eqb-true n at e))
    by n false e =
        on_but count next n ∙ ap (λ b. nat_lt n count && not b) (h n ∙ ap (λ b. b || is_marked out n) e) ∙ sym (on_but count out n)
        ∙ sym (left_in (all_but_marked count out) at n (eqb-false n at e))

-- the marks of those that are not in another set
without_on : (from : ℕ) (marks bits : List Bool) (n : ℕ) → is_on_from from (marks_without from marks bits) n ≡ (is_on_from from marks n && not (is_on bits n))
without_on from [] bits n = none_from from n ∙ ap (λ b. b && not (is_on bits n)) (sym (none_from from n))
without_on from (x ∷ marks) bits n =
    from_next from (x && not (is_on bits from)) (marks_without (from + 1) marks bits) n
    ∙ ap (λ b. ((x && not (is_on bits from)) && (n == from)) || b) (without_on (from + 1) marks bits n)
    ∙ by (n == from) refl ∙ ap (λ b. b && not (is_on bits n)) (sym (from_next from x marks n))
  where
    joined : (x y z : Bool) → (((x && z) && true) || (y && z)) ≡ (((x && true) || y) && z)
    joined true true true = refl
    joined true true false = refl
    joined true false true = refl
    joined true false false = refl
    joined false y z = refl

    apart : (x y z w : Bool) → (((x && w) && false) || (y && z)) ≡ (((x && false) || y) && z)
    apart true y z true = refl
    apart true y z false = refl
    apart false y z w = refl

    by : (c : Bool) → (n == from) ≡ c
        → (((x && not (is_on bits from)) && (n == from)) || (is_on_from (from + 1) marks n && not (is_on bits n))) ≡ (((x && (n == from)) || is_on_from (from + 1) marks n) && not (is_on bits n))
    by true e =
        ap (λ c. ((x && not (is_on bits from)) && c) || (is_on_from (from + 1) marks n && not (is_on bits n))) e
        ∙ ap (λ k. ((x && not (is_on bits k)) && true) || (is_on_from (from + 1) marks n && not (is_on bits n))) (sym (eqb-true n from e))
        ∙ joined x (is_on_from (from + 1) marks n) (not (is_on bits n)) ∙ ap (λ c. ((x && c) || is_on_from (from + 1) marks n) && not (is_on bits n)) (sym e)
    by false e =
        ap (λ c. ((x && not (is_on bits from)) && c) || (is_on_from (from + 1) marks n && not (is_on bits n))) e
        ∙ apart x (is_on_from (from + 1) marks n) (not (is_on bits n)) (not (is_on bits from)) ∙ ap (λ c. ((x && c) || is_on_from (from + 1) marks n) && not (is_on bits n)) (sym e)

-- a set with one of no more locations
pub with_fewer : (count : ℕ) (out next : NumberMarks) (bits : List Bool) → next.from ≡ out.from → next.marks ≡ marks_without out.from out.marks bits → length bits ≤ count
    → all_but_marked count next ≡ either_on (all_but_marked count out) bits
with_fewer count out next bits begins is le =
    let a = all_but_marked count out in
    let long = but_length count out in
    same_bits (all_but_marked count next) (either_on a bits) (but_length count next ∙ sym long ∙ sym (more_length a bits (omega (arith, long, le))))
    (λ n. on_but count next n
    ∙ ap (λ b. nat_lt n count && not b) (ap (λ k. is_on_from k next.marks n) begins ∙ ap (λ l. is_on_from out.from l n) is ∙ without_on out.from out.marks bits n)
    ∙ by n (nat_lt n count) refl ∙ ap (λ b. b || is_on bits n) (sym (on_but count out n)) ∙ sym (either_is a bits n))
  where
    turned : (x y : Bool) → not (x && not y) ≡ (not x || y)
    turned true true = refl
    turned true false = refl
    turned false y = refl

    by : (n : ℕ) (c : Bool) → nat_lt n count ≡ c → (nat_lt n count && not (is_marked out n && not (is_on bits n))) ≡ ((nat_lt n count && not (is_marked out n)) || is_on bits n)
    by n true e =
        ap (λ c. c && not (is_marked out n && not (is_on bits n))) e ∙ turned (is_marked out n) (is_on bits n) ∙ ap (λ c. (c && not (is_marked out n)) || is_on bits n) (sym e)
    by n false e =
        let over = ltb-false n count e in
        ap (λ c. c && not (is_marked out n && not (is_on bits n))) e ∙ sym (none_behind bits n (omega (arith, over, le))) ∙ ap (λ c. (c && not (is_marked out n)) || is_on bits n) (sym e)

-- a set without what is not in another one
pub with_others_out : (count : ℕ) (out : NumberMarks) (others : ℕ) (other ranged next : NumberMarks) → ((n : ℕ) → is_marked ranged n ≡ ((not (nat_lt n others) && nat_lt n count) || is_marked out n))
    → ((n : ℕ) → is_marked next n ≡ (is_marked other n || is_marked ranged n)) → all_but_marked count next ≡ both_on (all_but_marked count out) (all_but_marked others other)
with_others_out count out others other ranged next g h =
    let a = all_but_marked count out in
    let b = all_but_marked others other in
    same_bits (all_but_marked count next) (both_on a b) (but_length count next ∙ sym (but_length count out) ∙ sym (both_length a b))
    (λ n. on_but count next n ∙ ap (λ c. nat_lt n count && not c) (h n ∙ ap (λ c. is_marked other n || c) (g n)) ∙ by (nat_lt n count) (nat_lt n others) (is_marked out n) (is_marked other n)
    ∙ sym (both_are a b n ∙ ap (λ c. c && is_on b n) (on_but count out n) ∙ ap (λ c. (nat_lt n count && not (is_marked out n)) && c) (on_but others other n)))
  where
    by : (c o x y : Bool) → (c && not (y || ((not o && c) || x))) ≡ ((c && not x) && (o && not y))
    by false o x y = refl
    by true true true true = refl
    by true true true false = refl
    by true true false true = refl
    by true true false false = refl
    by true false true true = refl
    by true false true false = refl
    by true false false true = refl
    by true false false false = refl
