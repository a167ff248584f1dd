-- What a method on a cycle of calls reads, by numbers.
use Rattle.std.proofs.Common.{◌≡◌, ℕ, zero, suc, ◌+◌, Bool, true, false, List, [], ◌∷◌, length, Option, Some, None, option_map, refl, sym, ap, ◌∙◌, cond, arith}
use Rattle.std.specs.List.{list_any, filter, find, range_with_len}
use Rattle.std.specs.Prelude.{◌&&◌, if◌then◌else◌, slice_get}
use Rattle.ds2_base.specs.declared.place.Place.{Place}
use Rattle.ds2_meaning.specs.Location.{Location}
use Rattle.ds2_locality.specs.Deeds.{Deed, mentions_location}
use Rattle.ds2_locality.specs.Walk.{DirtySet, FailsAt, GoesOn, then_walk, read_locations}
use Rattle.ds2_deeds.specs.NamedLocations.{told_once, AreDistinct}
use Rattle.ds2_deeds.specs.NumberedCalls.{mentions_number}
use Rattle.ds2_deeds.specs.NumberedDeeds.{ProgramNumbers, numbered_deeds}
use Rattle.ds2_recorded_walk.specs.LocationBits.{set_of_bits}
use Rattle.ds2_recorded_walk.specs.RecordedWalks.{of_those, FailingRead, failing_at, first_failing_of, first_failing, walk_ending, reads_at, past_effect}
use Rattle.ds2_local.specs.JudgedBodies.{effect_of_mentions}
use Rattle.ds2_local.proofs.DistinctLemmas.{find_told}
use Rattle.ds2_local.proofs.FullLemmas.{all_of, those_of_all}
use Rattle.ds2_local.proofs.MentionLemmas.{mentions_numbered}

-- a read of a location in the statement at a place fails
abbrev read_there : Place → Location → FailingRead
read_there place at = record { at = at; place = place }

-- the read of the location that was found, where one was
abbrev found_read : Place → Option Location → Option FailingRead
found_read place o = option_map (λ at. read_there place at) o

module _ (place : Place) (test : Location → Bool) (d : DirtySet) where
  picked_next : (b c : Bool) (at : Location) (ls : List Location) → test at ≡ b → d at ≡ c
      → read_locations place (filter test ls) d ≡ walk_ending (found_read place (find (λ x. test x && d x) ls)) d
      → read_locations place (cond b (at ∷ filter test ls) (filter test ls)) d ≡ walk_ending (found_read place (cond (b && c) (Some at) (find (λ x. test x && d x) ls))) d
  picked_next true true at ls e f h = ap (λ (x : Bool). then_walk (if x then FailsAt at place else GoesOn d) (read_locations place (filter test ls))) f
  picked_next true false at ls e f h = ap (λ (x : Bool). then_walk (if x then FailsAt at place else GoesOn d) (read_locations place (filter test ls))) f ∙ h
  picked_next false c at ls e f h = h

  -- reads of those locations that pass a test fail at the first one that is dirty
  picked_read : (ls : List Location) → read_locations place (filter test ls) d ≡ walk_ending (found_read place (find (λ x. test x && d x) ls)) d
  picked_read [] = refl
  picked_read (at ∷ ls) = picked_next (test at) (d at) at ls refl refl (picked_read ls)

  number_next : (all : List Location) (on : ℕ → Bool) (b c : Bool) (k : ℕ) (at : Location) (rest : Option Location) (ns : List ℕ) → slice_get all k ≡ Some at → d at ≡ c
      → first_failing all d (reads_at place ns) ≡ found_read place rest
      → first_failing all d (reads_at place (cond b (k ∷ ns) ns)) ≡ found_read place (cond (b && c) (Some at) rest)
  number_next all on true true k at rest ns e f h =
      ap (λ o. first_failing_of (failing_at d place o) (first_failing all d (reads_at place ns))) e
      ∙ ap (λ (x : Bool). first_failing_of (if x then Some (read_there place at) else None) (first_failing all d (reads_at place ns))) f
  number_next all on true false k at rest ns e f h =
      ap (λ o. first_failing_of (failing_at d place o) (first_failing all d (reads_at place ns))) e
      ∙ ap (λ (x : Bool). first_failing_of (if x then Some (read_there place at) else None) (first_failing all d (reads_at place ns))) f ∙ h
  number_next all on false c k at rest ns e f h = h

  -- likewise by their numbers, from one on
  numbers_read : (all : List Location) (on : ℕ → Bool) (ls : List Location) (from : ℕ) → ((i : ℕ) (at : Location) → slice_get ls i ≡ Some at → slice_get all (from + i) ≡ Some at)
      → ((i : ℕ) (at : Location) → slice_get ls i ≡ Some at → on (from + i) ≡ test at)
      → first_failing all d (reads_at place (filter on (range_with_len from (length ls)))) ≡ found_read place (find (λ x. test x && d x) ls)
  numbers_read all on [] from there same = refl
  numbers_read all on (at ∷ ls) from there same =
      let here : from + zero ≡ from = omega arith in
      let one : slice_get all from ≡ Some at = ap (λ k. slice_get all k) (sym here) ∙ there zero at refl in
      let is : on from ≡ test at = ap on (sym here) ∙ same zero at refl in
      ap (λ b. first_failing all d (reads_at place (cond b (from ∷ filter on (range_with_len (from + 1) (length ls))) (filter on (range_with_len (from + 1) (length ls)))))) is
      ∙ number_next all on (test at) (d at) from at (find (λ x. test x && d x) ls) (filter on (range_with_len (from + 1) (length ls))) one refl
      (numbers_read all on ls (from + 1) (λ i x e. ap (λ k. slice_get all k) (next i) ∙ there (suc i) x e) (λ i x e. ap on (next i) ∙ same (suc i) x e))
    where
      next : (i : ℕ) → from + 1 + i ≡ from + suc i
      next i = omega arith

from_start : (i : ℕ) → 0 + i ≡ i
from_start i = omega arith

-- a call that reads what deeds mention, and cleans nothing
pub mentions_told : (n : ProgramNumbers) (locations : List Location) (deeds : List Deed) → n.locations ≡ told_once locations → AreDistinct n.locations → (count : ℕ) → count ≡ length n.locations → (place : Place) (bits : List Bool) (before : DirtySet)
    → read_locations place (filter (λ at. list_any (mentions_location at) deeds) locations) (of_those (set_of_bits n.locations bits) before)
    ≡ past_effect n.locations (Some (effect_of_mentions count (numbered_deeds n deeds))) place (of_those (set_of_bits n.locations bits) before)
mentions_told n locations deeds is distinct count counted place bits before =
    let d = of_those (set_of_bits n.locations bits) before in
    let test : Location → Bool = λ at. list_any (mentions_location at) deeds in
    let on : ℕ → Bool = λ k. list_any (mentions_number k) (numbered_deeds n deeds) in
    let reads = λ (c : ℕ). reads_at place (filter on (range_with_len 0 c)) in
    picked_read place test d locations
    ∙ ap (λ o. walk_ending (found_read place o) d) (sym (ap (λ ls. find (λ x. test x && d x) ls) is ∙ find_told (λ x. test x && d x) locations))
    ∙ ap (λ o. walk_ending o d)
    (sym (ap (λ c. first_failing n.locations d (reads c)) counted
    ∙ numbers_read place test d n.locations on n.locations 0 (λ i at e. ap (λ k. slice_get n.locations k) (from_start i) ∙ e)
    (λ i at e. ap on (from_start i) ∙ mentions_numbered n at i (distinct i at e) deeds)))
    ∙ ap (λ x. walk_ending (first_failing n.locations d (reads count)) x) (sym (those_of_all n.locations bits before))
    ∙ ap (λ c. walk_ending (first_failing n.locations d (reads count)) (of_those (set_of_bits n.locations c) d)) (all_counted n.locations count counted)
  where
    all_counted : (ls : List Location) (c : ℕ) → c ≡ length ls → all_of ls ≡ (effect_of_mentions c (numbered_deeds n deeds)).keeps
    all_counted ls c e = ap (λ k. (effect_of_mentions k (numbered_deeds n deeds)).keeps) (sym e)
