-- Sets of locations by the deeds that name them.
use Rattle.std.proofs.Common.{◌≡◌, ◌<◌, ◌≤◌, ℕ, zero, suc, ◌+◌, Bool, true, false, List, [], ◌∷◌, length, map, drop, get_or, cond, Option, Some, None, refl, sym, ap, ◌∙◌, arith}
use Rattle.std.specs.List.{list_any, filter, range_with_len}
use Rattle.std.specs.Prelude.{◌||◌, ◌==◌, fold, replicate, slice_set}
use Rattle.std.proofs.lemmas.List.{drop_all}
use Rattle.std.proofs.lemmas.Bool.Decides.{Decides-eqb}
use Rattle.ds2_deeds.specs.declared.deed.NumberedDeed.{NumberedDeed}
use Rattle.ds2_deeds.specs.declared.deed.NumberedDeed.TheVariants as numbered
use Rattle.ds2_deeds.specs.NumberedCalls.{changes_number, mentions_number}
use Rattle.ds2_recorded_walk.specs.LocationBits.{is_on}
use Rattle.ds2_local.specs.MarkedLocations.{number_changed, number_mentioned, numbers_mentioned, with_location_on}
use Rattle.ds2_local.proofs.RangeLemmas.{drop_next}

-- a number is the one that is named, where one is
abbrev is_named : Option ℕ → ℕ → Bool
is_named None n = false
is_named (Some k) n = k == n

or_none : (b : Bool) → (b || false) ≡ b
or_none true = refl
or_none false = refl

or_apart : (b : Bool) (m n : ℕ) → (m ≡ n → ⊥) → b ≡ (b || (m == n))
or_apart b m n apart = by (m == n) refl
  where
    by : (c : Bool) → (m == n) ≡ c → b ≡ (b || c)
    by true e = absurd (apart ((Decides-eqb m n).0 e))
    by false e = sym (or_none b)

or_same : (b : Bool) (m n : ℕ) → m ≡ n → true ≡ (b || (m == n))
or_same true m n e = refl
or_same false m n e = sym ((Decides-eqb m n).1 e)

or_both : (a b c : Bool) → ((a || b) || c) ≡ (a || (b || c))
or_both true b c = refl
or_both false b c = refl

same_values : {A B : Type 0} (f g : A → B) (xs : List A) → ((x : A) → f x ≡ g x) → map f xs ≡ map g xs
same_values f g xs e = ap (λ h. map h xs) (λ i x. (e x) i)

later_values : (f : ℕ → Bool) (m from count : ℕ) → m < from → map f (range_with_len from count) ≡ map (λ n. f n || (m == n)) (range_with_len from count)
later_values f m from zero lt = refl
later_values f m from (suc count) lt =
    let less : m < from + 1 = omega (arith, lt) in
    ap (λ b. b ∷ map f (range_with_len (from + 1) count)) (or_apart (f from) m from (λ e. omega (arith, lt, e)))
    ∙ ap (λ l. (f from || (m == from)) ∷ l) (later_values f m (from + 1) count less)

-- the number of a place more in a set of numbers in order
set_range : (f : ℕ → Bool) (from count k : ℕ) → slice_set (map f (range_with_len from count)) k true ≡ map (λ n. f n || ((from + k) == n)) (range_with_len from count)
set_range f from zero k = refl
set_range f from (suc count) zero =
    let here : from + zero ≡ from = omega arith in
    let less : from + zero < from + 1 = omega arith in
    ap (λ b. b ∷ map f (range_with_len (from + 1) count)) (or_same (f from) (from + zero) from here)
    ∙ ap (λ l. (f from || ((from + zero) == from)) ∷ l) (later_values f (from + zero) (from + 1) count less)
set_range f from (suc count) (suc k) =
    let there : from + 1 + k ≡ from + suc k = omega arith in
    ap (λ b. b ∷ slice_set (map f (range_with_len (from + 1) count)) k true) (or_apart (f from) (from + suc k) from (λ e. omega (arith, e)))
    ∙ ap (λ l. (f from || ((from + suc k) == from)) ∷ l) (set_range f (from + 1) count k ∙ ap (λ m. map (λ n. f n || (m == n)) (range_with_len (from + 1) count)) there)

none_range : (from count : ℕ) → replicate count false ≡ map (λ n. false) (range_with_len from count)
none_range from zero = refl
none_range from (suc count) = ap (λ l. false ∷ l) (none_range (from + 1) count)

mark_one : (f : ℕ → Bool) (count : ℕ) (o : Option ℕ) → with_location_on (map f (range_with_len 0 count)) o ≡ map (λ n. f n || is_named o n) (range_with_len 0 count)
mark_one f count None = same_values f (λ n. f n || false) (range_with_len 0 count) (λ n. sym (or_none (f n)))
mark_one f count (Some k) =
    let here : 0 + k ≡ k = omega arith in set_range f 0 count k ∙ ap (λ m. map (λ n. f n || (m == n)) (range_with_len 0 count)) here

module _ (named : NumberedDeed → Option ℕ) where
  -- a set with what deeds name
  abbrev pub with_named : List Bool → List NumberedDeed → List Bool
  with_named bits deeds = fold (λ b d. with_location_on b (named d)) bits deeds

  -- the next deed
  pub named_next : (deeds : List NumberedDeed) (i : ℕ) (deed : NumberedDeed) (bits next whole : List Bool) → i < length deeds → deed ≡ get_or deeds i deed → next ≡ with_location_on bits (named deed)
      → with_named bits (drop i deeds) ≡ whole → with_named next (drop (i + 1) deeds) ≡ whole
  named_next deeds i deed bits next whole lt here e before =
      ap (λ b. with_named b (drop (i + 1) deeds)) e ∙ sym (ap (λ l. with_named bits l) (drop_next deeds i deed lt here)) ∙ before

  -- no deed is left
  pub named_whole : (deeds : List NumberedDeed) (i : ℕ) (bits whole : List Bool) → length deeds ≤ i → with_named bits (drop i deeds) ≡ whole → bits ≡ whole
  named_whole deeds i bits whole le before = ap (λ l. with_named bits l) (sym (drop_all i deeds le)) ∙ before

  module _ (test : ℕ → NumberedDeed → Bool) (law : (n : ℕ) (d : NumberedDeed) → test n d ≡ is_named (named d) n) where
    marked_from : (f : ℕ → Bool) (count : ℕ) (deeds : List NumberedDeed) → with_named (map f (range_with_len 0 count)) deeds ≡ map (λ n. f n || list_any (test n) deeds) (range_with_len 0 count)
    marked_from f count [] = same_values f (λ n. f n || false) (range_with_len 0 count) (λ n. sym (or_none (f n)))
    marked_from f count (d ∷ deeds) =
        ap (λ b. with_named b deeds) (mark_one f count (named d)) ∙ marked_from (λ n. f n || is_named (named d) n) count deeds
        ∙ same_values (λ n. (f n || is_named (named d) n) || list_any (test n) deeds) (λ n. f n || (test n d || list_any (test n) deeds)) (range_with_len 0 count)
        (λ n. or_both (f n) (is_named (named d) n) (list_any (test n) deeds) ∙ ap (λ c. f n || (c || list_any (test n) deeds)) (sym (law n d)))

    -- what deeds name of so many locations
    pub all_named : (count : ℕ) (deeds : List NumberedDeed) → with_named (replicate count false) deeds ≡ map (λ n. list_any (test n) deeds) (range_with_len 0 count)
    all_named count deeds = ap (λ b. with_named b deeds) (none_range 0 count) ∙ marked_from (λ n. false) count deeds

mention_named : (n : ℕ) (d : NumberedDeed) → mentions_number n d ≡ is_named (number_mentioned d) n
mention_named n (numbered.Mention k) = refl
mention_named n (numbered.Change k) = refl
mention_named n (numbered.Call k) = refl
mention_named n (numbered.Write place) = refl

change_named : (n : ℕ) (d : NumberedDeed) → changes_number n d ≡ is_named (number_changed d) n
change_named n (numbered.Mention k) = refl
change_named n (numbered.Change k) = refl
change_named n (numbered.Call k) = refl
change_named n (numbered.Write place) = refl

pub all_mentioned : (count : ℕ) (deeds : List NumberedDeed) → with_named number_mentioned (replicate count false) deeds ≡ map (λ n. list_any (mentions_number n) deeds) (range_with_len 0 count)
all_mentioned = all_named number_mentioned mentions_number mention_named

pub all_changed : (count : ℕ) (deeds : List NumberedDeed) → with_named number_changed (replicate count false) deeds ≡ map (λ n. list_any (changes_number n) deeds) (range_with_len 0 count)
all_changed = all_named number_changed changes_number change_named

-- ---- the numbers of a set

on_range : (f : ℕ → Bool) (from count k : ℕ) → k < count → is_on (map f (range_with_len from count)) k ≡ f (from + k)
on_range f from zero k lt = absurd (omega (arith, lt))
on_range f from (suc count) zero lt = let here : from ≡ from + zero = omega arith in ap f here
on_range f from (suc count) (suc k) lt =
    let there : from + 1 + k ≡ from + suc k = omega arith in
    let less : k < count = omega (arith, lt) in on_range f (from + 1) count k less ∙ ap f there

picked_same : (f g : ℕ → Bool) (from count : ℕ) → ((k : ℕ) → k < count → f (from + k) ≡ g (from + k)) → filter f (range_with_len from count) ≡ filter g (range_with_len from count)
picked_same f g from zero same = refl
picked_same f g from (suc count) same =
    let here : from ≡ from + zero = omega arith in
    let first : f from ≡ g from = ap f here ∙ same zero (omega arith) ∙ sym (ap g here) in
    ap (λ b. cond b (from ∷ filter f (range_with_len (from + 1) count)) (filter f (range_with_len (from + 1) count))) first
    ∙ ap (λ l. cond (g from) (from ∷ l) l) (picked_same f g (from + 1) count (λ k lt.
    let there : from + 1 + k ≡ from + suc k = omega arith in
    let less : suc k < suc count = omega (arith, lt) in ap f there ∙ same (suc k) less ∙ sym (ap g there)))

-- the numbers of those locations that deeds mention
pub mentioned_picked : (count : ℕ) (deeds : List NumberedDeed) (bits : List Bool) → bits ≡ map (λ n. list_any (mentions_number n) deeds) (range_with_len 0 count)
    → filter (is_on bits) (range_with_len 0 count) ≡ numbers_mentioned count deeds
mentioned_picked count deeds bits e =
    let test : ℕ → Bool = λ n. list_any (mentions_number n) deeds in
    ap (λ b. filter (is_on b) (range_with_len 0 count)) e
    ∙ picked_same (is_on (map test (range_with_len 0 count))) test 0 count (λ k lt. let here : 0 + k ≡ k = omega arith in
    ap (λ j. is_on (map test (range_with_len 0 count)) j) here ∙ on_range test 0 count k lt)
