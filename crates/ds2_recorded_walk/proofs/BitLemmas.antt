-- Sets of locations by truth values.
use Rattle.std.proofs.Common.{◌≡◌, ℕ, zero, suc, Bool, true, false, true≢false, List, [], ◌∷◌, Option, Some, None, refl, sym, ap, ◌∙◌}
use Rattle.std.specs.Prelude.{◌&&◌, ◌||◌, if◌then◌else◌, slice_get, slice_set}
use Rattle.ds2_meaning.specs.Location.{Location, is_same_location}
use Rattle.ds2_program_code.specs.PlacedProgram.{number_of_location}
use Rattle.ds2_locality.specs.Walk.{DirtySet, nothing_dirty, united, cleaned}
use Rattle.ds2_locality.proofs.Frame.{location_is}
use Rattle.ds2_locality.proofs.Near.{location_self}
use Rattle.ds2_recorded_walk.specs.LocationBits.{is_on, first_bit, later_bits, either_on, both_on, is_number_on, set_of_bits}
use Rattle.ds2_recorded_walk.specs.RecordedWalks.{of_those}
use Rattle.ds2_recorded_walk.proofs.WalkLemmas.{same_sets}
use Rattle.ds2_deeds.proofs.NumberLemmas.{some_is, numbered}

-- ---- values

pub later_on : (bits : List Bool) (n : ℕ) → is_on (later_bits bits) n ≡ is_on bits (suc n)
later_on [] n = refl
later_on (bit ∷ bits) n = refl

pub first_on : (bits : List Bool) → first_bit bits ≡ is_on bits zero
first_on [] = refl
first_on (bit ∷ bits) = refl

pub either_is : (a b : List Bool) (n : ℕ) → is_on (either_on a b) n ≡ (is_on a n || is_on b n)
either_is [] b n = refl
either_is (x ∷ a) b zero = ap (λ y. x || y) (first_on b)
either_is (x ∷ a) b (suc n) = either_is a (later_bits b) n ∙ ap (λ y. is_on a n || y) (later_on b n)

pub both_are : (a b : List Bool) (n : ℕ) → is_on (both_on a b) n ≡ (is_on a n && is_on b n)
both_are [] b n = refl
both_are (x ∷ a) b zero = ap (λ y. x && y) (first_on b)
both_are (x ∷ a) b (suc n) = both_are a (later_bits b) n ∙ ap (λ y. is_on a n && y) (later_on b n)

pub taken_out : (bits : List Bool) (n : ℕ) → is_on (slice_set bits n false) n ≡ false
taken_out [] n = refl
taken_out (x ∷ bits) zero = refl
taken_out (x ∷ bits) (suc n) = taken_out bits n

pub left_in : (bits : List Bool) (n m : ℕ) → (m ≡ n → ⊥) → is_on (slice_set bits n false) m ≡ is_on bits m
left_in [] n m apart = refl
left_in (x ∷ bits) zero zero apart = absurd (apart refl)
left_in (x ∷ bits) zero (suc m) apart = refl
left_in (x ∷ bits) (suc n) zero apart = refl
left_in (x ∷ bits) (suc n) (suc m) apart = left_in bits n m (λ e. apart (ap (λ k. suc k) e))

-- ---- sets

number_either : (a b : List Bool) (o : Option ℕ) → is_number_on (either_on a b) o ≡ (is_number_on a o || is_number_on b o)
number_either a b None = refl
number_either a b (Some n) = either_is a b n

pub set_either : (ls : List Location) (a b : List Bool) → set_of_bits ls (either_on a b) ≡ united (set_of_bits ls a) (set_of_bits ls b)
set_either ls a b = same_sets (set_of_bits ls (either_on a b)) (united (set_of_bits ls a) (set_of_bits ls b)) (λ at. number_either a b (number_of_location ls at))

number_both : (a b : List Bool) (o : Option ℕ) → is_number_on (both_on a b) o ≡ (is_number_on a o && is_number_on b o)
number_both a b None = refl
number_both a b (Some n) = both_are a b n

pub set_both : (ls : List Location) (a b : List Bool) → set_of_bits ls (both_on a b) ≡ of_those (set_of_bits ls a) (set_of_bits ls b)
set_both ls a b = same_sets (set_of_bits ls (both_on a b)) (of_those (set_of_bits ls a) (set_of_bits ls b)) (λ at. number_both a b (number_of_location ls at))

number_nothing : (o : Option ℕ) → is_number_on [] o ≡ false
number_nothing None = refl
number_nothing (Some n) = refl

pub set_nothing : (ls : List Location) → set_of_bits ls [] ≡ nothing_dirty
set_nothing ls = same_sets (set_of_bits ls []) nothing_dirty (λ at. number_nothing (number_of_location ls at))

-- a location of a number is taken out
cleaned_same : (ls : List Location) (bits : List Bool) (at other : Location) (n : ℕ) (b : Bool) → number_of_location ls at ≡ Some n → is_same_location other at ≡ b
    → is_number_on (slice_set bits n false) (number_of_location ls other) ≡ (if b then false else is_number_on bits (number_of_location ls other))
cleaned_same ls bits at other n true e same = ap (λ o. is_number_on (slice_set bits n false) o) (ap (λ l. number_of_location ls l) (location_is other at same) ∙ e) ∙ taken_out bits n
cleaned_same ls bits at other n false e same = kept (number_of_location ls other) refl
  where
    kept : (o : Option ℕ) → number_of_location ls other ≡ o → is_number_on (slice_set bits n false) o ≡ is_number_on bits o
    kept None f = refl
    kept (Some m) f = left_in bits n m (λ g. true≢false (sym (location_self other)
        ∙ ap (λ l. is_same_location other l) (some_is other at (sym (numbered ls other m f) ∙ ap (λ k. slice_get ls k) g ∙ numbered ls at n e)) ∙ same))

pub set_cleaned : (ls : List Location) (bits : List Bool) (at : Location) (n : ℕ) → number_of_location ls at ≡ Some n → set_of_bits ls (slice_set bits n false) ≡ cleaned at (set_of_bits ls bits)
set_cleaned ls bits at n e =
    same_sets (set_of_bits ls (slice_set bits n false)) (cleaned at (set_of_bits ls bits)) (λ other. cleaned_same ls bits at other n (is_same_location other at) e refl)

-- a location without a number is in no set
clean_other : (ls : List Location) (bits : List Bool) (at other : Location) (b : Bool) → number_of_location ls at ≡ None → is_same_location other at ≡ b
    → is_number_on bits (number_of_location ls other) ≡ (if b then false else is_number_on bits (number_of_location ls other))
clean_other ls bits at other true e same = ap (λ o. is_number_on bits o) (ap (λ l. number_of_location ls l) (location_is other at same) ∙ e)
clean_other ls bits at other false e same = refl

pub set_clean : (ls : List Location) (bits : List Bool) (at : Location) → number_of_location ls at ≡ None → set_of_bits ls bits ≡ cleaned at (set_of_bits ls bits)
set_clean ls bits at e = same_sets (set_of_bits ls bits) (cleaned at (set_of_bits ls bits)) (λ other. clean_other ls bits at other (is_same_location other at) e refl)

-- ---- those that were dirty before

united_and : (a b c : Bool) → ((a || b) && c) ≡ ((a && c) || (b && c))
united_and true true true = refl
united_and true true false = refl
united_and true false true = refl
united_and true false false = refl
united_and false b c = refl

pub those_united : (a b before : DirtySet) → of_those (united a b) before ≡ united (of_those a before) (of_those b before)
those_united a b before = same_sets (of_those (united a b) before) (united (of_those a before) (of_those b before)) (λ at. united_and (a at) (b at) (before at))

cleaned_and : (same a b : Bool) → ((if same then false else a) && b) ≡ (if same then false else (a && b))
cleaned_and true a b = refl
cleaned_and false a b = refl

pub those_cleaned : (at : Location) (a before : DirtySet) → of_those (cleaned at a) before ≡ cleaned at (of_those a before)
those_cleaned at a before = same_sets (of_those (cleaned at a) before) (cleaned at (of_those a before)) (λ other. cleaned_and (is_same_location other at) (a other) (before other))

pub those_nothing : (before : DirtySet) → of_those nothing_dirty before ≡ nothing_dirty
those_nothing before = refl

and_next : (a b c : Bool) → ((a && b) && c) ≡ (a && (b && c))
and_next true b c = refl
and_next false b c = refl

pub those_of_those : (a b before : DirtySet) → of_those (of_those a b) before ≡ of_those a (of_those b before)
those_of_those a b before = same_sets (of_those (of_those a b) before) (of_those a (of_those b before)) (λ at. and_next (a at) (b at) (before at))
