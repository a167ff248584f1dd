-- The first place beyond a limit is the one that stands there in order.
use Rattle.std.proofs.Common.{◌≡◌, ◌<◌, ◌≤◌, ◌⊎◌, inl, inr, ℕ, zero, suc, ◌+◌, Bool, true, false, not, nat_lt, List, [], ◌∷◌, ◌++◌, length, Option, Some, None, refl, sym, ap, ◌∙◌, subst, true≢false, arith}
use Rattle.std.specs.Prelude.{if◌then◌else◌, filter, slice_index_or}
use Rattle.std.specs.Cmp.{nat_cmp_is}
use Rattle.std.specs.List.{sum_by}
use Rattle.std.specs.Ordering.{is_lt, nat_cmp, ordering_then}
use Rattle.std.specs.declared.cmp.Ordering.TheVariants.{Less, Equal}
use Rattle.std.specs.List.Sorted.{IsPermutation}
use Rattle.std.proofs.lemmas.Bool.{ltb-true, lt-ltb}
use Rattle.std.proofs.lemmas.List.Sorted.{sum_by-IsPermutation}
use Rattle.std.proofs.lemmas.List.Sums.{sum_by-cons}
use Rattle.ds2_base.specs.declared.place.Place.{Place}
use Rattle.ds2_names.specs.Refusals.{is_same_place}
use Rattle.ds2_names.specs.SourceUnit.{is_earlier}
use Rattle.ds2_names.specs.UnitRules.{beyond}
use Rattle.ds2_scope.specs.Earliest.{earlier_of, earliest}
use Rattle.ds2_scope.proofs.EarliestLemmas.{same_place}
use Rattle.ds2_scope.proofs.EarliestLemmas.{must, must_not, IsBefore, earlier_of_assoc, before, not_before, before_too}
use Rattle.ds2_scope.proofs.LesserLemmas.{same_parts, are_same}

-- ---- how many pass a test

abbrev one_if : Bool → ℕ
one_if true = 1
one_if false = 0

abbrev count : (Place → Bool) → List Place → ℕ
count f [] = 0
count f (x ∷ xs) = one_if (f x) + count f xs

count_is_sum : (f : Place → Bool) (xs : List Place) → count f xs ≡ sum_by (λ x. one_if (f x)) xs
count_is_sum f [] = refl
count_is_sum f (x ∷ xs) = ap (λ n. one_if (f x) + n) (count_is_sum f xs) ∙ sym (sum_by-cons (λ y. one_if (f y)) x xs)

filtered : (f : Place → Bool) (xs : List Place) → length (filter f xs) ≡ count f xs
filtered f [] = refl
filtered f (x ∷ xs) = by (f x) (filtered f xs)
  where
    by : (t : Bool) → length (filter f xs) ≡ count f xs → length (if t then x ∷ filter f xs else filter f xs) ≡ one_if t + count f xs
    by true h = omega (arith, h)
    by false h = omega (arith, h)

at_most : (f : Place → Bool) (xs : List Place) → count f xs ≤ length xs
at_most f [] = omega (arith)
at_most f (x ∷ xs) = by (f x) (at_most f xs)
  where
    by : (t : Bool) → count f xs ≤ length xs → one_if t + count f xs ≤ suc (length xs)
    by true h = omega (arith, h)
    by false h = omega (arith, h)

count_more : (f g : Place → Bool) → ((o : Place) → f o ≡ true → g o ≡ true) → (xs : List Place) → count f xs ≤ count g xs
count_more f g h [] = omega (arith)
count_more f g h (x ∷ xs) = by (f x) (g x) (h x) (count_more f g h xs)
  where
    by : (s t : Bool) → (s ≡ true → t ≡ true) → count f xs ≤ count g xs → one_if s + count f xs ≤ one_if t + count g xs
    by true true k r = omega (arith, r)
    by true false k r = absurd (true≢false (sym (k refl)))
    by false true k r = omega (arith, r)
    by false false k r = omega (arith, r)

count_append : (f : Place → Bool) (xs ys : List Place) → count f (xs ++ ys) ≡ count f xs + count f ys
count_append f [] ys = omega (arith)
count_append f (x ∷ xs) ys = let h = count_append f xs ys in omega (arith, h)

count_all : (f : Place → Bool) (xs : List Place) → ((k : ℕ) (d : Place) → k < length xs → f (slice_index_or xs k d) ≡ true) → count f xs ≡ length xs
count_all f [] h = refl
count_all f (x ∷ xs) h =
    let here = ap one_if (h 0 x (omega (arith))) in
    let rest = count_all f xs (λ k d lt. h (suc k) d (omega (arith, lt))) in omega (arith, here, rest)

count_none : (f : Place → Bool) (xs : List Place) → ((k : ℕ) (d : Place) → k < length xs → f (slice_index_or xs k d) ≡ false) → count f xs ≡ 0
count_none f [] h = refl
count_none f (x ∷ xs) h =
    let here = ap one_if (h 0 x (omega (arith))) in
    let rest = count_none f xs (λ k d lt. h (suc k) d (omega (arith, lt))) in omega (arith, here, rest)

-- ---- places in order

not_itself : (x : Place) → is_earlier x x ≡ false
not_itself x = must_not (is_earlier x x) (λ h. let k = before x x h in omega (arith, k))

is_same : (x y : Place) → is_same_place x y ≡ true → y ≡ x
is_same x y h = let parts = same_parts x y h in sym (same_place x y parts.0 parts.1)

itself : (x : Place) → is_same_place x x ≡ true
itself x = are_same x x refl refl

after_unless_same : (x y : Place) → is_same_place x y ≡ false → is_earlier y x ≡ false → is_earlier x y ≡ true
after_unless_same x y differ later =
    must (is_earlier x y)
    (λ n.
    let a = not_before x y n in
    let b = not_before y x later in
    let line : x.line ≡ y.line = omega (arith, a, b) in
    let column : x.column ≡ y.column = omega (arith, a, b) in true≢false (sym (are_same x y line column) ∙ differ))

-- the earliest place that passes a test, where it stands in a list and no earlier place passes
module _ (passes : Place → Bool) (x : Place) (itself_passes : passes x ≡ true) (none_earlier : (p : Place) → passes p ≡ true → is_earlier p x ≡ false) where
  stays : (xs : List Place) → earlier_of (Some x) (earliest (filter passes xs)) ≡ Some x
  stays [] = refl
  stays (y ∷ ys) = by (passes y) refl (stays ys)
    where
      by : (t : Bool) → passes y ≡ t → earlier_of (Some x) (earliest (filter passes ys)) ≡ Some x → earlier_of (Some x) (earliest (if t then y ∷ filter passes ys else filter passes ys)) ≡ Some x
      by true h ih =
          sym (earlier_of_assoc (Some x) (Some y) (earliest (filter passes ys)))
          ∙ ap (λ t. earlier_of (if t then Some y else Some x) (earliest (filter passes ys))) (none_earlier y h)
          ∙ ih
      by false h ih = ih

  is_earliest : (xs : List Place) → 0 < count (is_same_place x) xs → earliest (filter passes xs) ≡ Some x
  is_earliest [] h = absurd (omega (arith, h))
  is_earliest (y ∷ ys) h = by (is_same_place x y) (passes y) refl refl (is_earliest ys) h
    where
      by : (s t : Bool) → is_same_place x y ≡ s → passes y ≡ t → (0 < count (is_same_place x) ys → earliest (filter passes ys) ≡ Some x) → 0 < one_if s + count (is_same_place x) ys → earliest (if t then y ∷ filter passes ys else filter passes ys) ≡ Some x
      by true true e p ih k = ap (λ z. earlier_of (Some z) (earliest (filter passes ys))) (is_same x y e) ∙ stays ys
      by true false e p ih k = absurd (true≢false (sym itself_passes ∙ ap passes (sym (is_same x y e)) ∙ p))
      by false true e p ih k =
          ap (earlier_of (Some y)) (ih (omega (arith, k)))
          ∙ ap (λ t. if t then Some x else Some y) (after_unless_same x y e (none_earlier y p))
      by false false e p ih k = ih (omega (arith, k))

-- ---- a limit

-- a place stands up to another one
abbrev up_to : Place → Place → Bool
up_to p o = not (is_earlier p o)

-- more places than a limit stand up to one
abbrev is_beyond : ℕ → List Place → Place → Bool
is_beyond limit xs p = nat_lt limit (length (filter (up_to p) xs))

module _ (limit : ℕ) (xs front back : List Place) (x : Place) (same : IsPermutation xs (front ++ x ∷ back)) (stands : length front ≡ limit)
    (not_later : (k : ℕ) (d : Place) → k < length front → is_earlier x (slice_index_or front k d) ≡ false) (not_earlier : (k : ℕ) (d : Place) → k < length back → is_earlier (slice_index_or back k d) x ≡ false) where
  counted : (f : Place → Bool) → count f xs ≡ count f front + (one_if (f x) + count f back)
  counted f =
      count_is_sum f xs
      ∙ sym (sum_by-IsPermutation (λ y. one_if (f y)) xs (front ++ x ∷ back) same)
      ∙ sym (count_is_sum f (front ++ x ∷ back))
      ∙ count_append f front (x ∷ back)

  itself_passes : is_beyond limit xs x ≡ true
  itself_passes =
      let f = filtered (up_to x) xs in
      let c = counted (up_to x) in
      let all = count_all (up_to x) front (λ k d lt. ap not (not_later k d lt)) in
      let here = ap (λ t. one_if (not t)) (not_itself x) in lt-ltb limit (length (filter (up_to x) xs)) (omega (arith, f, c, all, here, stands))

  none_earlier : (p : Place) → is_beyond limit xs p ≡ true → is_earlier p x ≡ false
  none_earlier p h =
      must_not (is_earlier p x)
      (λ e.
      let many = ltb-true limit (length (filter (up_to p) xs)) h in
      let f = filtered (up_to p) xs in
      let more = count_more (up_to p) (λ o. is_earlier o x) (λ o k. before_too o p x (is_false (is_earlier p o) k) e) xs in
      let c = counted (λ o. is_earlier o x) in
      let some = at_most (λ o. is_earlier o x) front in
      let here = ap one_if (not_itself x) in
      let none = count_none (λ o. is_earlier o x) back not_earlier in omega (arith, many, f, more, c, some, here, none, stands))
    where
      is_false : (t : Bool) → not t ≡ true → t ≡ false
      is_false true k = absurd (true≢false (sym k))
      is_false false k = refl

  pub beyond_is : earliest (beyond limit xs) ≡ Some x
  beyond_is =
      let c = counted (is_same_place x) in
      let here = ap one_if (itself x) in is_earliest (is_beyond limit xs) x itself_passes none_earlier xs (omega (arith, c, here))

-- up to a limit none is beyond
pub none_beyond : (limit : ℕ) (xs : List Place) → length xs ≤ limit → beyond limit xs ≡ []
none_beyond limit xs h = none xs
  where
    few : (p : Place) → nat_lt limit (length (filter (λ o. not (is_earlier p o)) xs)) ≡ false
    few p =
        must_not (nat_lt limit (length (filter (λ o. not (is_earlier p o)) xs)))
        (λ e.
        let many = ltb-true limit (length (filter (λ o. not (is_earlier p o)) xs)) e in
        let f = filtered (λ o. not (is_earlier p o)) xs in
        let some = at_most (λ o. not (is_earlier p o)) xs in omega (arith, many, f, some, h))

    passing : List Place → List Place
    passing ys = filter (λ p. nat_lt limit (length (filter (λ o. not (is_earlier p o)) xs))) ys

    none : (ys : List Place) → passing ys ≡ []
    none [] = refl
    none (y ∷ ys) = ap (λ t. if t then y ∷ passing ys else passing ys) (few y) ∙ none ys

-- ---- the order of places in code

less : (a b : ℕ) → a < b → nat_cmp a b ≡ Less
less a b h = sym (nat_cmp_is a b Less h)

equal : (a b : ℕ) → a ≡ b → nat_cmp a b ≡ Equal
equal a b h = sym (nat_cmp_is a b Equal h)

cmp_before : (a b : Place) → IsBefore a b → is_lt (ordering_then (nat_cmp a.line b.line) (nat_cmp a.column b.column)) ≡ true
cmp_before a b (inl h) = ap (λ r. is_lt (ordering_then r (nat_cmp a.column b.column))) (less a.line b.line h)
cmp_before a b (inr h) =
    ap (λ r. is_lt (ordering_then r (nat_cmp a.column b.column))) (equal a.line b.line h.0) ∙ ap is_lt (less a.column b.column h.1)

pub not_earlier_by_cmp : (a b : Place) → is_lt (ordering_then (nat_cmp a.line b.line) (nat_cmp a.column b.column)) ≡ false → is_earlier a b ≡ false
not_earlier_by_cmp a b p = must_not (is_earlier a b) (λ h. true≢false (sym (cmp_before a b (before a b h)) ∙ p))
