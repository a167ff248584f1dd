-- Methods that are on no cycle of calls, by the numbers of their parts.
use Rattle.std.proofs.Common.{◌≡◌, ◌⊎◌, inl, inr, ◌<◌, ◌≤◌, ℕ, zero, suc, ◌+◌, Bool, true, false, true≢false, List, [], ◌∷◌, ◌++◌, length, Option, Some, None, refl, sym, ap, ◌∙◌, subst, arith, eqb-true, eq-eqb, ltb-true, get_or}
use Rattle.std.specs.List.{list_all}
use Rattle.std.specs.Prelude.{◌||◌, ◌&&◌, ◌==◌, nat_lt, if◌then◌else◌, flat_map, slice_get}
use Rattle.std.proofs.lemmas.Bool.{or_cases, or_left, or_right}
use Rattle.std.proofs.lemmas.Bool.Decides.{Decides-eqb}
use Rattle.std.proofs.lemmas.List.Folds.{list_any-append}
use Rattle.std.proofs.lemmas.Option.{slice_get_within}
use Rattle.ds2_value.specs.declared.fault.TheConstants.{CALL_DEPTH}
use Rattle.ds2_deeds.specs.declared.deed.NumberedDeed.{NumberedDeed}
use Rattle.ds2_deeds.specs.declared.deed.NumberedDeed.TheVariants as numbered
use Rattle.ds2_deeds.specs.NumberedCalls.{numbers_called, is_one_of_numbers, with_one_number, with_numbers, deeds_or_none, deeds_numbered, calls_by_number, numbers_reached, may_call, with_called}
use Rattle.ds2_recorded_walk.specs.declared.record.CallEffect.{CallEffect}
use Rattle.ds2_local.specs.CallParts.{number_at, leads_below, all_lead_below, NeverRises}
use Rattle.ds2_local.specs.JudgedBodies.{cycle_effect, effect_of_mentions}

-- ---- numbers among others

-- a number that is among numbers with one more
one_split : (numbers : List ℕ) (y n : ℕ) (b : Bool) → is_one_of_numbers (if b then numbers else numbers ++ y ∷ []) n ≡ true → (is_one_of_numbers numbers n ≡ true) ⊎ (y ≡ n)
one_split numbers y n true e = inl e
one_split numbers y n false e = by (or_cases (is_one_of_numbers numbers n) (is_one_of_numbers (y ∷ []) n) (sym (list_any-append (λ other. other == n) numbers (y ∷ [])) ∙ e))
  where
    last : ((y == n) ≡ true) ⊎ (false ≡ true) → y ≡ n
    last (inl same) = eqb-true y n same
    last (inr none) = absurd cc

    by : (is_one_of_numbers numbers n ≡ true) ⊎ (is_one_of_numbers (y ∷ []) n ≡ true) → (is_one_of_numbers numbers n ≡ true) ⊎ (y ≡ n)
    by (inl h) = inl h
    by (inr h) = inr (last (or_cases (y == n) false h))

-- a number that is among numbers with further ones is among these or those
pub split : (numbers more : List ℕ) (n : ℕ) → is_one_of_numbers (with_numbers numbers more) n ≡ true → (is_one_of_numbers numbers n ≡ true) ⊎ (is_one_of_numbers more n ≡ true)
split numbers [] n e = inl e
split numbers (y ∷ more) n e = by (split (with_one_number numbers y) more n e)
  where
    first : (is_one_of_numbers numbers n ≡ true) ⊎ (y ≡ n) → (is_one_of_numbers numbers n ≡ true) ⊎ (is_one_of_numbers (y ∷ more) n ≡ true)
    first (inl h) = inl h
    first (inr same) = inr (or_left (y == n) (is_one_of_numbers more n) (eq-eqb y n same))

    by : (is_one_of_numbers (with_one_number numbers y) n ≡ true) ⊎ (is_one_of_numbers more n ≡ true) → (is_one_of_numbers numbers n ≡ true) ⊎ (is_one_of_numbers (y ∷ more) n ≡ true)
    by (inl h) = first (one_split numbers y n (is_one_of_numbers numbers y) h)
    by (inr h) = inr (or_right (y == n) (is_one_of_numbers more n) h)

-- what all bring, one of them brings
pub from_one : (of : ℕ → List ℕ) (numbers : List ℕ) (n : ℕ) → is_one_of_numbers (flat_map of numbers) n ≡ true → (i : ℕ) × (is_one_of_numbers numbers i ≡ true) × (is_one_of_numbers (of i) n ≡ true)
from_one of [] n e = absurd cc
from_one of (x ∷ numbers) n e =
    by (or_cases (is_one_of_numbers (of x) n) (is_one_of_numbers (flat_map of numbers) n) (sym (list_any-append (λ other. other == n) (of x) (flat_map of numbers)) ∙ e)) (from_one of numbers n)
  where
    by : (is_one_of_numbers (of x) n ≡ true) ⊎ (is_one_of_numbers (flat_map of numbers) n ≡ true)
        → (is_one_of_numbers (flat_map of numbers) n ≡ true → (i : ℕ) × (is_one_of_numbers numbers i ≡ true) × (is_one_of_numbers (of i) n ≡ true))
        → (i : ℕ) × (is_one_of_numbers (x ∷ numbers) i ≡ true) × (is_one_of_numbers (of i) n ≡ true)
    by (inl h) go = (x, or_left (x == x) (is_one_of_numbers numbers x) (eq-eqb x x refl), h)
    by (inr h) go = let r = go h in (r.0, or_right (x == r.0) (is_one_of_numbers numbers r.0) r.1, r.2)

-- ---- what is reached

module _ (all : List (List NumberedDeed)) where
  -- what holds of numbers, and along every call, holds of all that they reach
  pub kept_reached : (P : ℕ → Type 0) → ((i j : ℕ) → P i → is_one_of_numbers (calls_by_number all i) j ≡ true → P j) → (rounds : ℕ) (numbers : List ℕ) → ((j : ℕ) → is_one_of_numbers numbers j ≡ true → P j)
      → (j : ℕ) → is_one_of_numbers (numbers_reached all rounds numbers) j ≡ true → P j
  kept_reached P step zero numbers h j e = h j e
  kept_reached P step (suc rounds) numbers h j e = kept_reached P step rounds (with_numbers numbers (flat_map (calls_by_number all) numbers)) (λ x f. next x (split numbers (flat_map (calls_by_number all) numbers) x f)) j e
    where
      next : (x : ℕ) → (is_one_of_numbers numbers x ≡ true) ⊎ (is_one_of_numbers (flat_map (calls_by_number all) numbers) x ≡ true) → P x
      next x (inl g) = h x g
      next x (inr g) = let r = from_one (calls_by_number all) numbers x g in step r.0 x (h r.0 r.1) r.2

  -- likewise of all methods that deeds may call
  pub kept_called : (P : ℕ → Type 0) → ((i j : ℕ) → P i → is_one_of_numbers (calls_by_number all i) j ≡ true → P j) → (rounds : ℕ) (deeds : List NumberedDeed)
      → ((j : ℕ) → is_one_of_numbers (numbers_called deeds) j ≡ true → P j) → (j : ℕ) → is_one_of_numbers (may_call all rounds deeds) j ≡ true → P j
  kept_called P step rounds deeds h j e = kept_reached P step rounds (with_numbers [] (numbers_called deeds)) (λ x f. first x (split [] (numbers_called deeds) x f)) j e
    where
      first : (x : ℕ) → (false ≡ true) ⊎ (is_one_of_numbers (numbers_called deeds) x ≡ true) → P x
      first x (inl g) = absurd cc
      first x (inr g) = h x g

-- ---- parts with lower numbers

both : (a b : Bool) → (a && b) ≡ true → (a ≡ true) × (b ≡ true)
both true b e = (refl, e)
both false b e = absurd (true≢false (sym e))

-- the methods that such deeds call
pub called_below : (parts : List ℕ) (bound : ℕ) (deeds : List NumberedDeed) → all_lead_below parts bound deeds ≡ true → (called : ℕ) → is_one_of_numbers (numbers_called deeds) called ≡ true → (called < length parts) × (number_at parts called < bound)
called_below parts bound [] e called f = absurd cc
called_below parts bound (d ∷ deeds) e called f =
    let p = both (leads_below parts bound d) (all_lead_below parts bound deeds) e in by d p.0 f (called_below parts bound deeds p.1 called)
  where
    this : (k : ℕ) → leads_below parts bound (numbered.Call k) ≡ true → ((k == called) ≡ true) ⊎ (is_one_of_numbers (numbers_called deeds) called ≡ true)
        → (is_one_of_numbers (numbers_called deeds) called ≡ true → (called < length parts) × (number_at parts called < bound)) → (called < length parts) × (number_at parts called < bound)
    this k p (inl same) go =
        let tests = both (nat_lt k (length parts)) (nat_lt (number_at parts k) bound) p in
        subst (λ j. (j < length parts) × (number_at parts j < bound)) (eqb-true k called same) (ltb-true k (length parts) tests.0, ltb-true (number_at parts k) bound tests.1)
    this k p (inr h) go = go h

    by : (x : NumberedDeed) → leads_below parts bound x ≡ true → is_one_of_numbers (numbers_called (x ∷ deeds)) called ≡ true
        → (is_one_of_numbers (numbers_called deeds) called ≡ true → (called < length parts) × (number_at parts called < bound)) → (called < length parts) × (number_at parts called < bound)
    by (numbered.Mention k) p g go = go g
    by (numbered.Change k) p g go = go g
    by (numbered.Write place) p g go = go g
    by (numbered.Call k) p g go = this k p (or_cases (k == called) (is_one_of_numbers (numbers_called deeds) called) g) go

-- a method that calls into lower parts alone is on no cycle
pub no_cycle_by_parts : (all : List (List NumberedDeed)) (parts : List ℕ) (rounds k : ℕ) (deeds : List NumberedDeed) → NeverRises parts all → all_lead_below parts (number_at parts k) deeds ≡ true
    → is_one_of_numbers (may_call all rounds deeds) k ≡ false
no_cycle_by_parts all parts rounds k deeds never lower = by (is_one_of_numbers (may_call all rounds deeds) k) refl
  where
    by : (b : Bool) → is_one_of_numbers (may_call all rounds deeds) k ≡ b → b ≡ false
    by false e = refl
    by true e =
        let less : number_at parts k < number_at parts k =
        kept_called all (λ j. number_at parts j < number_at parts k) (λ i j h g. let le = never.rises i j g in omega (arith, le, h)) rounds deeds (λ j g. (called_below parts (number_at parts k) deeds lower j g).1) k e in
        absurd (omega (arith, less))

pub no_effect_by_parts : (count : ℕ) (all : List (List NumberedDeed)) (parts : List ℕ) (k : ℕ) (deeds : List NumberedDeed) → NeverRises parts all → all_lead_below parts (number_at parts k) deeds ≡ true
    → None ≡ cycle_effect count all k deeds
no_effect_by_parts count all parts k deeds never lower =
    ap (λ (b : Bool). if b then Some (effect_of_mentions count (with_called all (length all + CALL_DEPTH) deeds)) else None) (sym (no_cycle_by_parts all parts (length all + CALL_DEPTH) k deeds never lower))

-- ---- whether they never rise

-- they do not along the calls of so many methods
pub record NeverRisesTo (parts : List ℕ) (all : List (List NumberedDeed)) (number : ℕ) : Type 0 where
  pub each : (k called : ℕ) → k < number → is_one_of_numbers (calls_by_number all k) called ≡ true → (called < length parts) × (number_at parts called ≤ number_at parts k)

pub none_rise : (parts : List ℕ) (all : List (List NumberedDeed)) → NeverRisesTo parts all 0
none_rise parts all = record { each = λ k called lt e. absurd (omega (arith, lt)) }

pub one_rises_not : (parts : List ℕ) (all : List (List NumberedDeed)) (number : ℕ) (deeds : List NumberedDeed) → slice_get all number ≡ Some deeds → all_lead_below parts (number_at parts number + 1) deeds ≡ true
    → NeverRisesTo parts all number → NeverRisesTo parts all (number + 1)
one_rises_not parts all number deeds here lower before = record { each = λ k called lt e. each k called lt e }
  where
    each : (k called : ℕ) → k < number + 1 → is_one_of_numbers (calls_by_number all k) called ≡ true → (called < length parts) × (number_at parts called ≤ number_at parts k)
    each k called lt e = by (k == number) refl
      where
        by : (b : Bool) → (k == number) ≡ b → (called < length parts) × (number_at parts called ≤ number_at parts k)
        by true g =
            let same : k ≡ number = (Decides-eqb k number).0 g in
            let own : calls_by_number all k ≡ numbers_called deeds = ap (λ j. calls_by_number all j) same ∙ ap (λ o. numbers_called (deeds_or_none o)) here in
            let less = called_below parts (number_at parts number + 1) deeds lower called (ap (λ l. is_one_of_numbers l called) (sym own) ∙ e) in
            let no_more : number_at parts called ≤ number_at parts number = omega (arith, less.1) in
            (less.0, subst (λ j. number_at parts called ≤ number_at parts j) (sym same) no_more)
        by false g =
            let apart : k ≡ number → ⊥ = λ h. true≢false (sym ((Decides-eqb k number).1 h) ∙ g) in
            let less : k < number = omega (arith, lt, apart) in before.each k called less e

pub all_rise_not : (parts : List ℕ) (all : List (List NumberedDeed)) (number : ℕ) → length parts ≡ length all → number ≡ length all → NeverRisesTo parts all number → NeverRises parts all
all_rise_not parts all number long end' before = record {
  within = λ k called e. subst (λ n. called < n) long (by k called e (slice_get all k) refl).0;
  rises = λ k called e. (by k called e (slice_get all k) refl).1;
}
  where
    by : (k called : ℕ) → is_one_of_numbers (calls_by_number all k) called ≡ true → (o : Option (List NumberedDeed)) → slice_get all k ≡ o → (called < length parts) × (number_at parts called ≤ number_at parts k)
    by k called e None f =
        let none : true ≡ false = sym e ∙ ap (λ x. is_one_of_numbers (numbers_called (deeds_or_none x)) called) f in absurd (true≢false none)
    by k called e (Some deeds) f = before.each k called (subst (λ j. k < j) (sym end') (slice_get_within all k deeds f)) e
