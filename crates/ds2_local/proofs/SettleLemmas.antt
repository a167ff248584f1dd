-- Effects that are found bottom-up, round by round.
use Rattle.std.proofs.Common.{◌≡◌, ◌⊎◌, inl, inr, ◌<◌, ◌≤◌, ℕ, zero, suc, ◌+◌, ◌-◌, Bool, true, false, true≢false, List, [], ◌∷◌, ◌++◌, length, map, Option, Some, None, option_map, refl, sym, ap, ◌∙◌, subst, arith}
use Rattle.std.specs.List.{list_all, list_any}
use Rattle.std.specs.Option.{is_some}
use Rattle.std.specs.Prelude.{◌&&◌, ◌||◌, ◌==◌, not, if◌then◌else◌, slice_get, slice_set}
use Rattle.std.proofs.lemmas.Bool.{or_parts}
use Rattle.std.proofs.lemmas.Bool.Decides.{Decides-eqb}
use Rattle.std.proofs.lemmas.List.{length-append, length-map}
use Rattle.std.proofs.lemmas.List.Folds.{list_any-append}
use Rattle.std.proofs.lemmas.Option.{same_Some, slice_get-map, slice_get_within}
use Rattle.ds2_value.specs.declared.fault.TheConstants.{CALL_DEPTH}
use Rattle.ds2_base.specs.declared.place.Place.{Place}
use Rattle.ds2_meaning.specs.declared.readings.ByVariable.{ByVariable}
use Rattle.ds2_meaning.specs.ProgramTree.{methods_of}
use Rattle.ds2_locality.specs.Deeds.{MethodAt, Deed, Mention, MentionObject, Change, CallOf, WriteAt, method_deeds}
use Rattle.ds2_locality.specs.Verdict.{JudgedThread, walk_body, walk_method}
use Rattle.ds2_locality.specs.Walk.{DirtySet, WalkEnd, CallWalks}
use Rattle.ds2_locality.proofs.Frame.{Any, AreAllowed}
use Rattle.ds2_deeds.specs.declared.deed.NumberedDeed.{NumberedDeed}
use Rattle.ds2_deeds.specs.declared.deed.NumberedDeed.TheVariants as numbered
use Rattle.ds2_deeds.specs.NamedMethods.{method_of_name, methods_named, number_among_methods}
use Rattle.ds2_deeds.specs.NumberedCalls.{calls_by_number, deeds_numbered, deeds_or_none, is_one_of_numbers, may_call, numbers_called, with_called}
use Rattle.ds2_deeds.specs.NumberedDeeds.{ProgramNumbers, deed_if_numbered, numbered_deed, numbered_deeds, numbers_of}
use Rattle.ds2_recorded_walk.specs.declared.record.CallEffect.{CallEffect}
use Rattle.ds2_recorded_walk.specs.KnownFlags.{first_flags}
use Rattle.ds2_recorded_walk.specs.LocationBits.{is_on, or_off, set_of_bits}
use Rattle.ds2_recorded_walk.specs.RecordedWalks.{of_those, past_effect, effect_numbered, EffectsTell}
use Rattle.ds2_local.specs.declared.judged.JudgedBodies.{JudgedBodies}
use Rattle.ds2_local.specs.EffectSteps.{EffectTells, EffectsAtDepth}
use Rattle.ds2_local.specs.JudgedBodies.{HoldsJudged, cycle_effect, effect_of_mentions, AreCycleEffects}
use Rattle.ds2_local.specs.SettledEffects.{is_left, unless_settled, waits_for, with_found, with_one_settled, CoversCycles, FoundTells, HaveCycleEffects, IsFoundBy, IsRound, IsSettledTo, Settles}
use Rattle.ds2_local.proofs.AlikeLemmas.{method_alike}
use Rattle.ds2_local.proofs.DepthLemmas.{held_count, held_deeds, all_tell}
use Rattle.ds2_local.proofs.FirstLemmas.{method_at}
use Rattle.ds2_local.proofs.MethodLemmas.{none_numbered, none_walked}
use Rattle.ds2_local.proofs.PathLemmas.{CallsBelow, IsOffCycle, never_so_deep}
use Rattle.ds2_local.proofs.StepLemmas.{first_tells, on_cycle_tells, off_cycle_tells}

-- ---- items that are put in a place

set_here : {A : Type 0} (xs : List A) (i : ℕ) (x y : A) → slice_get (slice_set xs i x) i ≡ Some y → x ≡ y
set_here [] i x y e = absurd cc
set_here (z ∷ xs) zero x y e = same_Some x y e
set_here (z ∷ xs) (suc i) x y e = set_here xs i x y e

set_there : {A : Type 0} (xs : List A) (i k : ℕ) (x : A) → (k ≡ i → ⊥) → slice_get (slice_set xs i x) k ≡ slice_get xs k
set_there [] i k x apart = refl
set_there (z ∷ xs) zero zero x apart = absurd (apart refl)
set_there (z ∷ xs) zero (suc k) x apart = refl
set_there (z ∷ xs) (suc i) zero x apart = refl
set_there (z ∷ xs) (suc i) (suc k) x apart = set_there xs i k x (λ e. apart (ap (λ n. suc n) e))

set_long : {A : Type 0} (xs : List A) (i : ℕ) (x : A) → length (slice_set xs i x) ≡ length xs
set_long [] i x = refl
set_long (z ∷ xs) zero x = refl
set_long (z ∷ xs) (suc i) x = ap (λ n. suc n) (set_long xs i x)

pub found_long : (effects : List CallEffect) (number : ℕ) (found : Option CallEffect) → length (with_found effects number found) ≡ length effects
found_long effects number None = refl
found_long effects number (Some effect) = set_long effects number effect

there_is : {A : Type 0} (xs : List A) (k : ℕ) → k < length xs → (x : A) × (slice_get xs k ≡ Some x)
there_is [] k lt = absurd (omega (arith, lt))
there_is (x ∷ xs) zero lt = (x, refl)
there_is (x ∷ xs) (suc k) lt = let less : k < length xs = omega (arith, lt) in there_is xs k less

pub last_at : {A : Type 0} (xs : List A) (x y : A) (k : ℕ) → slice_get (xs ++ x ∷ []) k ≡ Some y → (slice_get xs k ≡ Some y) ⊎ ((k ≡ length xs) × (x ≡ y))
last_at [] x y zero e = inr (refl, same_Some x y e)
last_at [] x y (suc k) e = absurd cc
last_at (z ∷ xs) x y zero e = inl e
last_at (z ∷ xs) x y (suc k) e = later (last_at xs x y k e)
  where
    later : (slice_get xs k ≡ Some y) ⊎ ((k ≡ length xs) × (x ≡ y)) → (slice_get xs k ≡ Some y) ⊎ ((suc k ≡ suc (length xs)) × (x ≡ y))
    later (inl f) = inl f
    later (inr f) = inr (ap (λ n. suc n) f.0, f.1)

first_at : {A : Type 0} (xs ys : List A) (y : A) (k : ℕ) → slice_get xs k ≡ Some y → slice_get (xs ++ ys) k ≡ Some y
first_at [] ys y k e = absurd cc
first_at (x ∷ xs) ys y zero e = e
first_at (x ∷ xs) ys y (suc k) e = first_at xs ys y k e

here_at : {A : Type 0} (xs : List A) (x : A) → slice_get (xs ++ x ∷ []) (length xs) ≡ Some x
here_at [] x = refl
here_at (y ∷ xs) x = here_at xs x

-- ---- marks

pub is_marked : (bits : List Bool) (k : ℕ) → is_on bits k ≡ true → slice_get bits k ≡ Some true
is_marked bits k e = by (slice_get bits k) refl
  where
    by : (o : Option Bool) → slice_get bits k ≡ o → o ≡ Some true
    by None f = absurd (true≢false (sym e ∙ ap (λ o. or_off o) f))
    by (Some true) f = refl
    by (Some false) f = absurd (true≢false (sym e ∙ ap (λ o. or_off o) f))

-- a number whose effect is not left, where there is one, is found
settled_of : (bits : List Bool) (k : ℕ) → k < length bits → is_left bits k ≡ false → slice_get bits k ≡ Some true
settled_of bits k lt e = by (there_is bits k lt)
  where
    by : ((x : Bool) × (slice_get bits k ≡ Some x)) → slice_get bits k ≡ Some true
    by (true, f) = f
    by (false, f) = absurd (true≢false (sym (ap (λ o. unless_settled o) f) ∙ e))

left_is : (bits : List Bool) (k : ℕ) → is_left bits k ≡ true → slice_get bits k ≡ Some false
left_is bits k e = by (slice_get bits k) refl
  where
    by : (o : Option Bool) → slice_get bits k ≡ o → o ≡ Some false
    by None f = absurd (true≢false (sym e ∙ ap (λ o. unless_settled o) f))
    by (Some true) f = absurd (true≢false (sym e ∙ ap (λ o. unless_settled o) f))
    by (Some false) f = refl

-- ---- what stands for each method at first

-- the effects on cycles of so many methods
pub record HasCycleEffects (count : ℕ) (all : List (List NumberedDeed)) (effects : List (Option CallEffect)) (number : ℕ) : Type 0 where
  pub as_many : length effects ≡ number
  pub each : (k : ℕ) (deeds : List NumberedDeed) → k < number → slice_get all k ≡ Some deeds → slice_get effects k ≡ Some (cycle_effect count all k deeds)

pub no_cycle_effects : (count : ℕ) (all : List (List NumberedDeed)) → HasCycleEffects count all [] 0
no_cycle_effects count all = record { as_many = refl; each = λ k deeds lt e. absurd (omega (arith, lt)) }

pub more_cycle_effects : (count : ℕ) (all : List (List NumberedDeed)) (effects next : List (Option CallEffect)) (number : ℕ) (deeds : List NumberedDeed) (effect : Option CallEffect)
    → slice_get all number ≡ Some deeds → effect ≡ cycle_effect count all number deeds → next ≡ effects ++ effect ∷ [] → HasCycleEffects count all effects number → HasCycleEffects count all next (number + 1)
more_cycle_effects count all effects next number deeds effect here is e has = subst (λ l. HasCycleEffects count all l (number + 1)) (sym e) (record {
  as_many = length-append effects (effect ∷ []) ∙ ap (λ k. k + 1) has.as_many;
  each = each;
})
  where
    each : (k : ℕ) (own : List NumberedDeed) → k < number + 1 → slice_get all k ≡ Some own → slice_get (effects ++ effect ∷ []) k ≡ Some (cycle_effect count all k own)
    each k own lt f = by (k == number) refl
      where
        by : (c : Bool) → (k == number) ≡ c → slice_get (effects ++ effect ∷ []) k ≡ Some (cycle_effect count all k own)
        by true g =
            let same : k ≡ number = (Decides-eqb k number).0 g in
            let one : deeds ≡ own = same_Some deeds own (sym here ∙ ap (λ j. slice_get all j) (sym same) ∙ f) in
            ap (λ j. slice_get (effects ++ effect ∷ []) j) (same ∙ sym has.as_many) ∙ here_at effects effect
            ∙ ap (λ x. Some x) (is ∙ ap (λ j. cycle_effect count all j deeds) (sym same) ∙ ap (λ l. cycle_effect count all k l) one)
        by false g =
            let apart : k ≡ number → ⊥ = λ h. true≢false (sym ((Decides-eqb k number).1 h) ∙ g) in
            let less : k < number = omega (arith, lt, apart) in first_at effects (effect ∷ []) (cycle_effect count all k own) k (has.each k own less f)

pub all_cycle_effects : (count : ℕ) (all : List (List NumberedDeed)) (effects : List (Option CallEffect)) (number : ℕ) → number ≡ length all → HasCycleEffects count all effects number → AreCycleEffects count all effects
all_cycle_effects count all effects number e has = record {
  as_many = has.as_many ∙ e;
  each = λ k deeds f. has.each k deeds (subst (λ j. k < j) (sym e) (slice_get_within all k deeds f)) f;
}

-- what stands for so many methods
pub record HasFirstEffects (cycles : List (Option CallEffect)) (effects : List CallEffect) (number : ℕ) : Type 0 where
  pub as_many : length effects ≡ number
  pub cycle : (k : ℕ) (effect : CallEffect) → k < number → slice_get cycles k ≡ Some (Some effect) → slice_get effects k ≡ Some effect

pub no_first_effects : (cycles : List (Option CallEffect)) → HasFirstEffects cycles [] 0
no_first_effects cycles = record { as_many = refl; cycle = λ k effect lt e. absurd (omega (arith, lt)) }

pub more_first_effects : (cycles : List (Option CallEffect)) (effects next : List CallEffect) (number : ℕ) (cycle : Option CallEffect) (effect : CallEffect) → slice_get cycles number ≡ Some cycle
    → ((x : CallEffect) → cycle ≡ Some x → effect ≡ x) → next ≡ effects ++ effect ∷ [] → HasFirstEffects cycles effects number → HasFirstEffects cycles next (number + 1)
more_first_effects cycles effects next number cycle effect here is e has = subst (λ l. HasFirstEffects cycles l (number + 1)) (sym e) (record {
  as_many = length-append effects (effect ∷ []) ∙ ap (λ k. k + 1) has.as_many;
  cycle = each;
})
  where
    each : (k : ℕ) (x : CallEffect) → k < number + 1 → slice_get cycles k ≡ Some (Some x) → slice_get (effects ++ effect ∷ []) k ≡ Some x
    each k x lt f = by (k == number) refl
      where
        by : (c : Bool) → (k == number) ≡ c → slice_get (effects ++ effect ∷ []) k ≡ Some x
        by true g =
            let same : k ≡ number = (Decides-eqb k number).0 g in
            ap (λ j. slice_get (effects ++ effect ∷ []) j) (same ∙ sym has.as_many) ∙ here_at effects effect
            ∙ ap (λ y. Some y) (is x (same_Some cycle (Some x) (sym here ∙ ap (λ j. slice_get cycles j) (sym same) ∙ f)))
        by false g =
            let apart : k ≡ number → ⊥ = λ h. true≢false (sym ((Decides-eqb k number).1 h) ∙ g) in
            let less : k < number = omega (arith, lt, apart) in first_at effects (effect ∷ []) x k (has.cycle k x less f)

pub all_first_effects : (cycles : List (Option CallEffect)) (effects : List CallEffect) (number : ℕ) → number ≡ length cycles → HasFirstEffects cycles effects number → HaveCycleEffects cycles effects
all_first_effects cycles effects number e has = record {
  as_many = has.as_many ∙ e;
  cycle = λ k effect f. has.cycle k effect (subst (λ j. k < j) (sym e) (slice_get_within cycles k (Some effect) f)) f;
}

both_parts : (a b : Bool) → (a && b) ≡ true → (a ≡ true) × (b ≡ true)
both_parts true b e = (refl, e)
both_parts false b e = absurd (true≢false (sym e))

-- ---- a round

-- what a round has found up to a number
pub record HasGone (deeds : List (List NumberedDeed)) (settled next : List Bool) (number : ℕ) : Type 0 where
  pub count : length next ≡ number
  pub kept : (k : ℕ) → k < number → slice_get settled k ≡ Some true → slice_get next k ≡ Some true
  pub left : (k : ℕ) → slice_get next k ≡ Some false → (is_on settled k ≡ false) × (list_any (waits_for settled) (deeds_numbered deeds k) ≡ true)

pub none_gone : (deeds : List (List NumberedDeed)) (settled : List Bool) → HasGone deeds settled [] 0
none_gone deeds settled = record { count = refl; kept = λ k lt e. absurd (omega (arith, lt)); left = λ k e. absurd cc }

-- past one more number
pub one_gone : (deeds : List (List NumberedDeed)) (settled before next : List Bool) (number : ℕ) (found : Option CallEffect) → IsFoundBy settled number (deeds_numbered deeds number) found
    → next ≡ before ++ (is_on settled number || is_some found) ∷ [] → HasGone deeds settled before number → HasGone deeds settled next (number + 1)
one_gone deeds settled before next number found is e gone = subst (λ l. HasGone deeds settled l (number + 1)) (sym e) (record {
  count = length-append before ((is_on settled number || is_some found) ∷ []) ∙ ap (λ k. k + 1) gone.count;
  kept = kept;
  left = λ k f. left k (last_at before (is_on settled number || is_some found) false k f);
})
  where
    here : slice_get (before ++ (is_on settled number || is_some found) ∷ []) number ≡ Some (is_on settled number || is_some found)
    here = subst (λ k. slice_get (before ++ (is_on settled number || is_some found) ∷ []) k ≡ Some (is_on settled number || is_some found)) gone.count (here_at before (is_on settled number || is_some found))

    kept : (k : ℕ) → k < number + 1 → slice_get settled k ≡ Some true → slice_get (before ++ (is_on settled number || is_some found) ∷ []) k ≡ Some true
    kept k lt f = by (k == number) refl
      where
        by : (c : Bool) → (k == number) ≡ c → slice_get (before ++ (is_on settled number || is_some found) ∷ []) k ≡ Some true
        by true g =
            let same : k ≡ number = (Decides-eqb k number).0 g in
            ap (λ j. slice_get (before ++ (is_on settled number || is_some found) ∷ []) j) same ∙ here
            ∙ ap (λ (c : Bool). Some (c || is_some found)) (ap (λ o. or_off o) (ap (λ j. slice_get settled j) (sym same) ∙ f))
        by false g =
            let apart : k ≡ number → ⊥ = λ h. true≢false (sym ((Decides-eqb k number).1 h) ∙ g) in
            let less : k < number = omega (arith, lt, apart) in
            first_at before ((is_on settled number || is_some found) ∷ []) true k (gone.kept k less f)

    left_of : (o : Option CallEffect) → IsFoundBy settled number (deeds_numbered deeds number) o → (is_on settled number || is_some o) ≡ false
        → (is_on settled number ≡ false) × (list_any (waits_for settled) (deeds_numbered deeds number) ≡ true)
    left_of None (inl f) g = absurd (true≢false (sym f ∙ (or_parts (is_on settled number) false g).0))
    left_of None (inr f) g = ((or_parts (is_on settled number) false g).0, f)
    left_of (Some effect) f g = absurd (true≢false (or_parts (is_on settled number) true g).1)

    left : (k : ℕ) → (slice_get before k ≡ Some false) ⊎ ((k ≡ length before) × ((is_on settled number || is_some found) ≡ false))
        → (is_on settled k ≡ false) × (list_any (waits_for settled) (deeds_numbered deeds k) ≡ true)
    left k (inl f) = gone.left k f
    left k (inr f) =
        let same : number ≡ k = sym (f.0 ∙ gone.count) in
        subst (λ j. (is_on settled j ≡ false) × (list_any (waits_for settled) (deeds_numbered deeds j) ≡ true)) same (left_of found is f.1)

-- a round is made
pub all_gone : (deeds : List (List NumberedDeed)) (settled next : List Bool) (number : ℕ) → number ≡ length deeds → length settled ≡ length deeds → HasGone deeds settled next number → IsRound deeds settled next
all_gone deeds settled next number e long gone = record {
  as_many = gone.count ∙ e;
  kept = λ k f. gone.kept k (subst (λ j. k < j) (long ∙ sym e) (slice_get_within settled k true f)) f;
  left = gone.left;
}

-- ---- what is left is so many calls deep

called_left : (settled : List Bool) (deeds : List NumberedDeed) → list_any (waits_for settled) deeds ≡ true → (c : ℕ) × (is_one_of_numbers (numbers_called deeds) c ≡ true) × (slice_get settled c ≡ Some false)
called_left settled [] e = absurd (true≢false (sym e))
called_left settled (d ∷ deeds) e = by d e (called_left settled deeds)
  where
    later : (x : NumberedDeed) → numbers_called (x ∷ deeds) ≡ numbers_called deeds → ((c : ℕ) × (is_one_of_numbers (numbers_called deeds) c ≡ true) × (slice_get settled c ≡ Some false))
        → (c : ℕ) × (is_one_of_numbers (numbers_called (x ∷ deeds)) c ≡ true) × (slice_get settled c ≡ Some false)
    later x same r = (r.0, ap (λ l. is_one_of_numbers l r.0) same ∙ r.1, r.2)

    called : (k : ℕ) (c : Bool) → is_left settled k ≡ c → (c || list_any (waits_for settled) deeds) ≡ true
        → (list_any (waits_for settled) deeds ≡ true → (c : ℕ) × (is_one_of_numbers (numbers_called deeds) c ≡ true) × (slice_get settled c ≡ Some false))
        → (c : ℕ) × (is_one_of_numbers (numbers_called (numbered.Call k ∷ deeds)) c ≡ true) × (slice_get settled c ≡ Some false)
    called k true f g go = (k, ap (λ x. x || is_one_of_numbers (numbers_called deeds) k) ((Decides-eqb k k).1 refl), left_is settled k f)
    called k false f g go =
        let r = go g in (r.0, or_last (k == r.0) (is_one_of_numbers (numbers_called deeds) r.0) r.1, r.2)
      where
        or_last : (a c : Bool) → c ≡ true → (a || c) ≡ true
        or_last true c h = refl
        or_last false c h = h

    by : (x : NumberedDeed) → (waits_for settled x || list_any (waits_for settled) deeds) ≡ true
        → (list_any (waits_for settled) deeds ≡ true → (c : ℕ) × (is_one_of_numbers (numbers_called deeds) c ≡ true) × (slice_get settled c ≡ Some false))
        → (c : ℕ) × (is_one_of_numbers (numbers_called (x ∷ deeds)) c ≡ true) × (slice_get settled c ≡ Some false)
    by (numbered.Mention k) f go = later (numbered.Mention k) refl (go f)
    by (numbered.Change k) f go = later (numbered.Change k) refl (go f)
    by (numbered.Write place) f go = later (numbered.Write place) refl (go f)
    by (numbered.Call k) f go = called k (is_left settled k) refl f go

-- what is left behind so many rounds is on no cycle, and calls so many deep are below it
abbrev pub IsDeep : List (List NumberedDeed) → List Bool → ℕ → Type 0
IsDeep deeds settled depth = (k : ℕ) → slice_get settled k ≡ Some false → CallsBelow deeds depth k

off_below : (deeds : List (List NumberedDeed)) (depth k : ℕ) → CallsBelow deeds depth k → IsOffCycle deeds k
off_below deeds zero k h = h
off_below deeds (suc depth) k h = h.0

pub one_deeper : (deeds : List (List NumberedDeed)) (settled next : List Bool) (depth : ℕ) → length settled ≡ length deeds → IsRound deeds settled next → IsDeep deeds settled depth → IsDeep deeds next (suc depth)
one_deeper deeds settled next depth long round deep k e =
    let parts = round.left k e in
    let within : k < length settled = subst (λ j. k < j) (round.as_many ∙ sym long) (slice_get_within next k false e) in
    let own : slice_get settled k ≡ Some false = unsettled (there_is settled k within) parts.0 in
    let callee = called_left settled (deeds_numbered deeds k) parts.1 in
    (off_below deeds depth k (deep k own), (callee.0, subst (λ j. callee.0 < j) long (slice_get_within settled callee.0 false callee.2), callee.1, deep callee.0 callee.2))
  where
    unsettled : ((x : Bool) × (slice_get settled k ≡ Some x)) → is_on settled k ≡ false → slice_get settled k ≡ Some false
    unsettled (true, f) g = absurd (true≢false (sym (ap (λ o. or_off o) f) ∙ g))
    unsettled (false, f) g = f

pub none_deep : (count : ℕ) (deeds : List (List NumberedDeed)) (cycles : List (Option CallEffect)) → AreCycleEffects count deeds cycles → IsDeep deeds (map is_some cycles) 0
none_deep count deeds cycles are k e =
    let within : k < length deeds = subst (λ j. k < j) (length-map cycles is_some ∙ are.as_many) (slice_get_within (map is_some cycles) k false e) in
    let own = there_is deeds k within in
    let numbered_as : deeds_numbered deeds k ≡ own.0 = ap (λ o. deeds_or_none o) own.1 in
    let found : is_some (cycle_effect count deeds k own.0) ≡ false =
    same_Some (is_some (cycle_effect count deeds k own.0)) false (sym (slice_get-map is_some cycles k ∙ ap (λ o. option_map is_some o) (are.each k own.0 own.1)) ∙ e) in
    ap (λ l. is_one_of_numbers (may_call deeds (length deeds + CALL_DEPTH) l) k) numbered_as
    ∙ off (is_one_of_numbers (may_call deeds (length deeds + CALL_DEPTH) own.0) k) (effect_of_mentions count (with_called deeds (length deeds + CALL_DEPTH) own.0)) found
  where
    off : (c : Bool) (effect : CallEffect) → is_some (if c then Some effect else None) ≡ false → c ≡ false
    off true effect f = absurd (true≢false f)
    off false effect f = refl

pub cycles_covered : (cycles : List (Option CallEffect)) → CoversCycles cycles (map is_some cycles)
cycles_covered cycles = record {
  as_many = length-map cycles is_some;
  cycle = λ k effect e. slice_get-map is_some cycles k ∙ ap (λ o. option_map is_some o) e;
}

pub still_covered : (deeds : List (List NumberedDeed)) (cycles : List (Option CallEffect)) (settled next : List Bool) → length settled ≡ length deeds → IsRound deeds settled next → CoversCycles cycles settled → CoversCycles cycles next
still_covered deeds cycles settled next long round covers = record {
  as_many = round.as_many ∙ sym long ∙ covers.as_many;
  cycle = λ k effect e. round.kept k (covers.cycle k effect e);
}

module _ (t : JudgedThread) (b : JudgedBodies) (holds : HoldsJudged t b) (known : List ByVariable) where
  abbrev n : ProgramNumbers
  n = numbers_of b.numbers

  abbrev walk_at : ℕ → CallWalks
  walk_at depth = walk_method t (first_flags known) depth

  methods_many : length n.methods ≡ length b.deeds.now
  methods_many = sym (ap (λ l. length l) holds.deeds ∙ length-map n.methods (λ (m : MethodAt). numbered_deeds n (method_deeds t.program m)))

  pub methods_here : length b.numbers.methods.now ≡ length b.deeds.now
  methods_here = sym (length-map b.numbers.methods.now method_of_name) ∙ methods_many

  number_within : (m : MethodAt) (k : ℕ) → number_among_methods n.methods m ≡ Some k → k < length b.deeds.now
  number_within m k e = subst (λ l. k < l) methods_many (slice_get_within n.methods k m (method_at n.methods m k e))

  -- ---- calls within a body, by what is found

  module _ (settled : List Bool) (effects : List CallEffect) (depth : ℕ) where
    -- the effect of a method is found
    abbrev IsSettled : MethodAt → Type 0
    IsSettled m = (k : ℕ) → number_among_methods n.methods m ≡ Some k → slice_get settled k ≡ Some true

    abbrev walk_by_mark : Option Bool → MethodAt → ℕ → Place → DirtySet → WalkEnd DirtySet
    walk_by_mark (Some true) m k place dirty = walk_at depth m place dirty
    walk_by_mark (Some false) m k place dirty = past_effect n.locations (slice_get effects k) place dirty
    walk_by_mark None m k place dirty = past_effect n.locations (slice_get effects k) place dirty

    abbrev walk_by_number : Option ℕ → MethodAt → Place → DirtySet → WalkEnd DirtySet
    walk_by_number None m place dirty = walk_at depth m place dirty
    walk_by_number (Some k) m place dirty = walk_by_mark (slice_get settled k) m k place dirty

    -- calls as they go by what is found, and others by what stands for them
    abbrev mixed : CallWalks
    mixed m place dirty = walk_by_number (number_among_methods n.methods m) m place dirty

    mixed_tells : ((m : MethodAt) (k : ℕ) (effect : CallEffect) → number_among_methods n.methods m ≡ Some k → slice_get settled k ≡ Some true → slice_get effects k ≡ Some effect → EffectTells n effect (walk_at depth m))
        → ((k : ℕ) → slice_get settled k ≡ Some true → (effect : CallEffect) × (slice_get effects k ≡ Some effect)) → EffectsTell n effects mixed
    mixed_tells found there m place bits before = by_number (number_among_methods n.methods m) refl
      where
        d : DirtySet
        d = of_those (set_of_bits n.locations bits) before

        by_mark : (k : ℕ) (o : Option Bool) → number_among_methods n.methods m ≡ Some k → slice_get settled k ≡ o → walk_by_mark o m k place d ≡ past_effect n.locations (slice_get effects k) place d
        by_mark k None e f = refl
        by_mark k (Some false) e f = refl
        by_mark k (Some true) e f =
            let one = there k f in
            found m k one.0 e f one.1 place bits before ∙ ap (λ o. past_effect n.locations o place d) (sym one.1)

        by_number : (o : Option ℕ) → number_among_methods n.methods m ≡ o → walk_by_number o m place d ≡ past_effect n.locations (effect_numbered effects o) place d
        by_number None e =
            none_walked t (first_flags known) depth m place d (none_numbered t.program m (ap (λ ms. number_among_methods ms m) (sym holds.numbered.methods) ∙ e))
        by_number (Some k) e = by_mark k (slice_get settled k) e refl

    mixed_alike : (m : MethodAt) → IsSettled m → (place : Place) (dirty : DirtySet) → mixed m place dirty ≡ walk_at depth m place dirty
    mixed_alike m h place dirty = by_number (number_among_methods n.methods m) refl
      where
        by_number : (o : Option ℕ) → number_among_methods n.methods m ≡ o → walk_by_number o m place dirty ≡ walk_at depth m place dirty
        by_number None e = refl
        by_number (Some k) e = ap (λ o. walk_by_mark o m k place dirty) (h k e)

    -- deeds that wait for no method call those alone whose effects are found
    call_settled : length settled ≡ length b.deeds.now → (m : MethodAt) (o : Option ℕ) → number_among_methods n.methods m ≡ o
        → list_any (waits_for settled) (deed_if_numbered (λ k. numbered.Call k) o) ≡ false → IsSettled m
    call_settled long m None e f k g = absurd (let h : None ≡ Some k = sym e ∙ g in cc)
    call_settled long m (Some j) e f k g =
        let one : j ≡ k = same_Some j k (sym e ∙ g) in
        let lt : k < length settled = subst (λ l. k < l) (sym long) (number_within m k g) in
        settled_of settled k lt (ap (λ i. is_left settled i) (sym one) ∙ (or_parts (is_left settled j) false f).0)

    all_settled : length settled ≡ length b.deeds.now → (deeds : List Deed) → list_any (waits_for settled) (numbered_deeds n deeds) ≡ false → AreAllowed Any Any Any IsSettled deeds
    all_settled long [] e = tt
    all_settled long (d ∷ deeds) e =
        let parts = or_parts (list_any (waits_for settled) (numbered_deed n d)) (list_any (waits_for settled) (numbered_deeds n deeds))
        (sym (list_any-append (waits_for settled) (numbered_deed n d) (numbered_deeds n deeds)) ∙ e) in
        by d parts.0 (all_settled long deeds parts.1)
      where
        by : (x : Deed) → list_any (waits_for settled) (numbered_deed n x) ≡ false → AreAllowed Any Any Any IsSettled deeds → AreAllowed Any Any Any IsSettled (x ∷ deeds)
        by (Mention at) f rest = (tt, rest)
        by (MentionObject at) f rest = (tt, rest)
        by (Change at) f rest = (tt, rest)
        by (CallOf m) f rest = (call_settled long m (number_among_methods n.methods m) refl f, rest)
        by (WriteAt place) f rest = (tt, rest)

  -- ---- the effect of one more method

  own_deeds : (m : MethodAt) (k : ℕ) → number_among_methods n.methods m ≡ Some k → deeds_numbered b.deeds.now k ≡ numbered_deeds n (method_deeds t.program m)
  own_deeds m k e = ap (λ o. deeds_or_none o) (held_deeds t b holds m k e)

  deep : (depth more : ℕ) → suc (depth + more) ≡ suc depth + more
  deep depth more = omega arith

  -- a method that is on no cycle and waits for none
  pub plain_found : (settled : List Bool) (effects : List CallEffect) (depth : ℕ) (m : MethodAt) (k : ℕ) (effect : CallEffect) → number_among_methods n.methods m ≡ Some k
      → length settled ≡ length b.deeds.now → length effects ≡ length settled
      → IsOffCycle b.deeds.now k → list_any (waits_for settled) (deeds_numbered b.deeds.now k) ≡ false → Settles t b known settled effects depth
      → ((calls : CallWalks) → EffectsTell n effects calls → EffectTells n effect (walk_body t (first_flags known) calls m.home (slice_get (methods_of t.program m.home) m.number)))
      → FoundTells t b known depth m (Some effect)
  plain_found settled effects depth m k effect is long many off waits settles plain more =
      let there = λ (j : ℕ) (on : slice_get settled j ≡ Some true). there_is effects j (subst (λ l. j < l) (sym many) (slice_get_within settled j true on)) in
      let calls = mixed settled effects (depth + more) in
      let told = mixed_tells settled effects (depth + more) (λ x j e f g h. settles x j e f g h more) there in
      let fine = all_settled settled effects (depth + more) long (method_deeds t.program m) (ap (λ l. list_any (waits_for settled) l) (sym (own_deeds m k is)) ∙ waits) in
      off_cycle_tells t b holds known (depth + more) m k (deeds_numbered b.deeds.now k) effect is refl off (λ place bits before.
      sym (method_alike t (first_flags known) calls (walk_at (depth + more)) (IsSettled settled effects (depth + more)) (λ x h p dirty. mixed_alike settled effects (depth + more) x h p dirty)
      m.home (slice_get (methods_of t.program m.home) m.number) place (of_those (set_of_bits n.locations bits) before) fine)
      ∙ plain calls told place bits before)

  -- a method that is not found yet is on no cycle
  pub left_off : (settled : List Bool) (m : MethodAt) (k : ℕ) → number_among_methods n.methods m ≡ Some k → CoversCycles b.cycles.now settled → is_on settled k ≡ false → IsOffCycle b.deeds.now k
  left_off settled m k is covers off = by (is_one_of_numbers (may_call b.deeds.now (length b.deeds.now + CALL_DEPTH) (deeds_numbered b.deeds.now k)) k) refl
    where
      own : slice_get b.deeds.now k ≡ Some (deeds_numbered b.deeds.now k)
      own = held_deeds t b holds m k is ∙ ap (λ l. Some l) (sym (own_deeds m k is))

      by : (c : Bool) → is_one_of_numbers (may_call b.deeds.now (length b.deeds.now + CALL_DEPTH) (deeds_numbered b.deeds.now k)) k ≡ c → c ≡ false
      by false e = refl
      by true e =
          let effect = effect_of_mentions (length b.numbers.locations.now) (with_called b.deeds.now (length b.deeds.now + CALL_DEPTH) (deeds_numbered b.deeds.now k)) in
          let cycle : slice_get b.cycles.now k ≡ Some (Some effect) = holds.cycles.each k (deeds_numbered b.deeds.now k) own ∙ ap (λ (c : Bool). Some (if c then Some effect else None)) e in
          absurd (true≢false (sym (ap (λ o. or_off o) (covers.cycle k effect cycle)) ∙ off))

  -- ---- one method after the other

  deeper : (depth more : ℕ) → depth + suc more ≡ suc depth + more
  deeper depth more = omega arith

  -- what is found tells of deeper calls too
  pub still_settle : (settled : List Bool) (effects : List CallEffect) (depth : ℕ) → IsSettledTo t b known settled effects depth → IsSettledTo t b known settled effects (suc depth)
  still_settle settled effects depth before = record {
    as_many = before.as_many;
    covers = before.covers;
    settles = λ m k effect named on have more. subst (λ j. EffectTells n effect (walk_at j m)) (deeper depth more) (before.settles m k effect named on have (suc more));
  }

  -- the effect of one more is found
  one_found : (settled : List Bool) (effects : List CallEffect) (depth number : ℕ) (x : CallEffect) (method : MethodAt) → slice_get n.methods number ≡ Some method
      → (number_among_methods n.methods method ≡ Some number → FoundTells t b known depth method (Some x)) → Settles t b known settled effects depth
      → Settles t b known (slice_set settled number true) (slice_set effects number x) (suc depth)
  one_found settled effects depth number x method here tells old m k effect named on have more = by (k == number) refl
    where
      by : (c : Bool) → (k == number) ≡ c → EffectTells n effect (walk_at (suc depth + more) m)
      by true g =
          let same : k ≡ number = (Decides-eqb k number).0 g in
          let one : method ≡ m = same_Some method m (sym here ∙ ap (λ j. slice_get n.methods j) (sym same) ∙ method_at n.methods m k named) in
          let is_x : x ≡ effect = set_here effects number x effect (ap (λ j. slice_get (slice_set effects number x) j) (sym same) ∙ have) in
          let told = tells (ap (λ y. number_among_methods n.methods y) one ∙ named ∙ ap (λ j. Some j) same) more in
          subst (λ j. EffectTells n effect (walk_at j m)) (deep depth more) (subst (λ y. EffectTells n y (walk_at (suc (depth + more)) m)) is_x (subst (λ y. EffectTells n x (walk_at (suc (depth + more)) y)) one told))
      by false g =
          let apart : k ≡ number → ⊥ = λ h. true≢false (sym ((Decides-eqb k number).1 h) ∙ g) in
          subst (λ j. EffectTells n effect (walk_at j m)) (deeper depth more)
          (old m k effect named (sym (set_there settled number k true apart) ∙ on) (sym (set_there effects number k x apart) ∙ have) (suc more))

  still_marked : (settled : List Bool) (number k : ℕ) → slice_get settled k ≡ Some true → slice_get (slice_set settled number true) k ≡ Some true
  still_marked settled number k e = by (k == number) refl
    where
      by : (c : Bool) → (k == number) ≡ c → slice_get (slice_set settled number true) k ≡ Some true
      by true g =
          let same : k ≡ number = (Decides-eqb k number).0 g in
          let lt : k < length (slice_set settled number true) = subst (λ j. k < j) (sym (set_long settled number true)) (slice_get_within settled k true e) in
          let there = there_is (slice_set settled number true) k lt in
          there.1 ∙ ap (λ c. Some c) (sym (set_here settled number true there.0 (ap (λ j. slice_get (slice_set settled number true) j) (sym same) ∙ there.1)))
      by false g = set_there settled number k true (λ h. true≢false (sym ((Decides-eqb k number).1 h) ∙ g)) ∙ e

  -- one more method has been looked at
  pub one_settled : (settled : List Bool) (effects : List CallEffect) (depth number : ℕ) (found : Option CallEffect) (method : MethodAt) → slice_get n.methods number ≡ Some method
      → (number_among_methods n.methods method ≡ Some number → FoundTells t b known depth method found) → IsSettledTo t b known settled effects depth
      → IsSettledTo t b known (with_one_settled settled number found) (with_found effects number found) (suc depth)
  one_settled settled effects depth number None method here tells before = still_settle settled effects depth before
  one_settled settled effects depth number (Some x) method here tells before = record {
    as_many = set_long effects number x ∙ before.as_many ∙ sym (set_long settled number true);
    covers = record {
      as_many = set_long settled number true ∙ before.covers.as_many;
      cycle = λ k effect e. still_marked settled number k (before.covers.cycle k effect e);
    };
    settles = one_found settled effects depth number x method here tells before.settles;
  }

  -- ---- rounds

  -- the methods on cycles
  pub cycles_settle : (effects : List CallEffect) → HaveCycleEffects b.cycles.now effects → Settles t b known (map is_some b.cycles.now) effects 0
  cycles_settle effects have m k effect is on found more =
      let own : slice_get b.deeds.now k ≡ Some (deeds_numbered b.deeds.now k) = held_deeds t b holds m k is ∙ ap (λ l. Some l) (sym (own_deeds m k is)) in
      by (is_one_of_numbers (may_call b.deeds.now (length b.deeds.now + CALL_DEPTH) (deeds_numbered b.deeds.now k)) k) refl (holds.cycles.each k (deeds_numbered b.deeds.now k) own)
    where
      whole : CallEffect
      whole = effect_of_mentions (length b.numbers.locations.now) (with_called b.deeds.now (length b.deeds.now + CALL_DEPTH) (deeds_numbered b.deeds.now k))

      at_depth : (j : ℕ) → is_one_of_numbers (may_call b.deeds.now (length b.deeds.now + CALL_DEPTH) (deeds_numbered b.deeds.now k)) k ≡ true → effect ≡ whole → EffectTells n effect (walk_at j m)
      at_depth zero c e = first_tells t b holds (first_flags known) m k (deeds_numbered b.deeds.now k) effect is refl e
      at_depth (suc j) c e = on_cycle_tells t b holds (first_flags known) j m k (deeds_numbered b.deeds.now k) effect is refl c e

      by : (c : Bool) → is_one_of_numbers (may_call b.deeds.now (length b.deeds.now + CALL_DEPTH) (deeds_numbered b.deeds.now k)) k ≡ c
          → slice_get b.cycles.now k ≡ Some (if c then Some whole else None) → EffectTells n effect (walk_at (0 + more) m)
      by true c e =
          let here : more ≡ 0 + more = omega arith in
          subst (λ j. EffectTells n effect (walk_at j m)) here (at_depth more c (same_Some effect whole (sym found ∙ have.cycle k whole e)))
      by false c e = absurd (true≢false (sym (same_Some false true (sym (slice_get-map is_some b.cycles.now k ∙ ap (λ o. option_map is_some o) e) ∙ on))))

  -- what was found before stays
  pub old_settle : (settled : List Bool) (effects : List CallEffect) (depth number : ℕ) (found : Option CallEffect) → IsFoundBy settled number (deeds_numbered b.deeds.now number) found
      → Settles t b known settled effects depth → Settles t b known settled (with_found effects number found) depth
  old_settle settled effects depth number None is settles m k effect named on found more = settles m k effect named on found more
  old_settle settled effects depth number (Some x) is settles m k effect named on found more =
      let apart : k ≡ number → ⊥ = λ e. true≢false (sym (ap (λ o. or_off o) (ap (λ j. slice_get settled j) (sym e) ∙ on)) ∙ is) in
      settles m k effect named on (sym (set_there effects number k x apart) ∙ found) more

  -- the method of the next number
  pub next_settle : (settled before next : List Bool) (effects : List CallEffect) (depth number : ℕ) (found : Option CallEffect) (method : MethodAt) → length before ≡ number
      → slice_get n.methods number ≡ Some method → IsFoundBy settled number (deeds_numbered b.deeds.now number) found → (number_among_methods n.methods method ≡ Some number → FoundTells t b known depth method found)
      → next ≡ before ++ (is_on settled number || is_some found) ∷ [] → Settles t b known settled effects depth → Settles t b known before effects (suc depth)
      → Settles t b known next (with_found effects number found) (suc depth)
  next_settle settled before next effects depth number found method count here is tells e old new m k effect named on have more =
      by (last_at before (is_on settled number || is_some found) true k (ap (λ l. slice_get l k) (sym e) ∙ on))
    where
      of_new : (o : Option CallEffect) → IsFoundBy settled number (deeds_numbered b.deeds.now number) o → slice_get before k ≡ Some true → slice_get (with_found effects number o) k ≡ Some effect → EffectTells n effect (walk_at (suc depth + more) m)
      of_new None f g h = new m k effect named g h more
      of_new (Some x) f g h =
          let less : k < number = subst (λ j. k < j) count (slice_get_within before k true g) in
          new m k effect named g (sym (set_there effects number k x (λ q. omega (arith, less, q))) ∙ h) more

      of_next : (o : Option CallEffect) → k ≡ number → IsFoundBy settled number (deeds_numbered b.deeds.now number) o → (number_among_methods n.methods method ≡ Some number → FoundTells t b known depth method o)
          → (is_on settled number || is_some o) ≡ true → slice_get (with_found effects number o) k ≡ Some effect → EffectTells n effect (walk_at (suc depth + more) m)
      of_next None same f tells g h =
          let deeper : depth + suc more ≡ suc depth + more = omega arith in
          let marked : slice_get settled k ≡ Some true = is_marked settled k (ap (λ j. is_on settled j) same ∙ or_left (is_on settled number) g) in
          subst (λ j. EffectTells n effect (walk_at j m)) deeper (old m k effect named marked h (suc more))
        where
          or_left : (a : Bool) → (a || false) ≡ true → a ≡ true
          or_left true q = refl
          or_left false q = absurd (true≢false (sym q))
      of_next (Some x) same f tells g h =
          let one : method ≡ m = same_Some method m (sym here ∙ ap (λ j. slice_get n.methods j) (sym same) ∙ method_at n.methods m k named) in
          let is_x : x ≡ effect = set_here effects number x effect (ap (λ j. slice_get (slice_set effects number x) j) (sym same) ∙ h) in
          let told = tells (ap (λ y. number_among_methods n.methods y) one ∙ named ∙ ap (λ j. Some j) same) more in
          subst (λ j. EffectTells n effect (walk_at j m)) (deep depth more) (subst (λ y. EffectTells n y (walk_at (suc (depth + more)) m)) is_x (subst (λ y. EffectTells n x (walk_at (suc (depth + more)) y)) one told))

      by : (slice_get before k ≡ Some true) ⊎ ((k ≡ length before) × ((is_on settled number || is_some found) ≡ true)) → EffectTells n effect (walk_at (suc depth + more) m)
      by (inl f) = of_new found is f have
      by (inr f) = of_next found (f.0 ∙ count) is tells f.1 have

  pub none_settle : (effects : List CallEffect) (depth : ℕ) → Settles t b known [] effects depth
  none_settle effects depth m k effect named on found more = absurd cc

  -- where all are found, they tell how all calls are walked
  pub all_settle : (settled : List Bool) (effects : List CallEffect) (depth : ℕ) → depth ≤ length b.deeds.now → length effects ≡ length b.deeds.now
      → ((k : ℕ) → k < length b.deeds.now → slice_get settled k ≡ Some true) → Settles t b known settled effects depth → EffectsAtDepth t b known effects (length b.deeds.now)
  all_settle settled effects depth le long on settles =
      let left : depth + (length b.deeds.now - depth) ≡ length b.deeds.now = omega (arith, le) in
      all_tell t n (first_flags known) effects (length b.deeds.now) holds.numbered.methods (long ∙ sym methods_many)
      (λ m k effect named found. subst (λ j. EffectTells n effect (walk_at j m)) left (settles m k effect named (on k (number_within m k named)) found (length b.deeds.now - depth)))

-- behind as many rounds as there are methods all are found
pub all_found : (deeds : List (List NumberedDeed)) (settled : List Bool) → length settled ≡ length deeds → IsDeep deeds settled (length deeds) → (k : ℕ) → k < length deeds → slice_get settled k ≡ Some true
all_found deeds settled long deep k lt = by (there_is settled k (subst (λ j. k < j) (sym long) lt))
  where
    by : ((x : Bool) × (slice_get settled k ≡ Some x)) → slice_get settled k ≡ Some true
    by (true, f) = f
    by (false, f) = absurd (never_so_deep deeds k lt (deep k f))

pub all_on : (bits : List Bool) → list_all (λ bit. bit) bits ≡ true → (k : ℕ) → k < length bits → slice_get bits k ≡ Some true
all_on [] e k lt = absurd (omega (arith, lt))
all_on (bit ∷ bits) e zero lt = ap (λ x. Some x) (both_parts bit (list_all (λ x. x) bits) e).0
all_on (bit ∷ bits) e (suc k) lt = let less : k < length bits = omega (arith, lt) in all_on bits (both_parts bit (list_all (λ x. x) bits) e).1 k less
