-- Sets of locations that are told by a value for each of them.
use Rattle.std.proofs.Common.{◌≡◌, ℕ, suc, ◌+◌, ◌<◌, Bool, true, false, List, [], ◌∷◌, length, map, Option, Some, None, option_map, is_some, refl, sym, ap, ◌∙◌, subst, arith}
use Rattle.std.specs.List.{list_any, range_with_len}
use Rattle.std.specs.Prelude.{◌&&◌, slice_get}
use Rattle.std.proofs.lemmas.List.FromFn.{length-map-range_with_len}
use Rattle.std.proofs.lemmas.Option.{slice_get-map, slice_get_within}
use Rattle.ds2_value.specs.declared.fault.TheConstants.{CALL_DEPTH}
use Rattle.ds2_meaning.specs.Location.{Location}
use Rattle.ds2_program_code.specs.PlacedProgram.{number_of_location}
use Rattle.ds2_meaning.specs.ProgramTree.{UnitTree}
use Rattle.ds2_locality.specs.Deeds.{body_deeds, system_scope, run_can_change, run_deeds}
use Rattle.ds2_locality.specs.KeptLocations.{is_kept}
use Rattle.ds2_locality.specs.Verdict.{JudgedThread, locations_in_order, is_cell}
use Rattle.ds2_deeds.specs.declared.deed.NumberedDeed.{NumberedDeed}
use Rattle.ds2_deeds.specs.CodeTrees.{nameless_tree}
use Rattle.ds2_deeds.specs.NamedLocations.{locations_named}
use Rattle.ds2_deeds.specs.NumberedCalls.{changes_number, with_called}
use Rattle.ds2_deeds.specs.NumberedDeeds.{numbers_of, numbered_deeds}
use Rattle.ds2_recorded_walk.specs.LocationBits.{or_off, is_on, is_number_on, either_on, both_on, set_of_bits}
use Rattle.ds2_recorded_walk.specs.RecordedWalks.{of_those}
use Rattle.ds2_recorded_walk.proofs.BitLemmas.{set_both}
use Rattle.ds2_recorded_walk.proofs.SetLemmas.{both_length, counted_on}
use Rattle.ds2_recorded_walk.proofs.WalkLemmas.{same_sets}
use Rattle.ds2_local.specs.declared.judged.JudgedBodies.{JudgedBodies}
use Rattle.ds2_local.specs.JudgedBodies.{HoldsJudged}
use Rattle.ds2_local.specs.RunGrounds.{AreCells}
use Rattle.ds2_local.specs.Verdicts.{IsTold, TellsCells}
use Rattle.ds2_local.proofs.DepthLemmas.{held_callees, located}
use Rattle.ds2_local.proofs.DistinctLemmas.{has_number}
use Rattle.ds2_local.proofs.FirstLemmas.{location_at}
use Rattle.ds2_local.proofs.MentionLemmas.{changes_numbered}

-- ---- a value for each location

-- the value of a test at a number
pub mapped_on : (test : Location → Bool) (ls : List Location) (at : Location) (k : ℕ) → slice_get ls k ≡ Some at → is_on (map test ls) k ≡ test at
mapped_on test ls at k e = ap (λ o. or_off o) (slice_get-map test ls k ∙ ap (λ o. option_map test o) e)

either_length : (a b : List Bool) → length a ≡ length b → length (either_on a b) ≡ length a
either_length [] [] e = refl
either_length [] (y ∷ b) e = absurd (omega (arith, e))
either_length (x ∷ a) [] e = absurd (omega (arith, e))
either_length (x ∷ a) (y ∷ b) e = let less : length a ≡ length b = omega (arith, e) in ap (λ n. suc n) (either_length a b less)

pub either_counted : (a b : List Bool) (count : ℕ) → length a ≡ count → length b ≡ count → length (either_on a b) ≡ count
either_counted a b count e f = either_length a b (e ∙ sym f) ∙ e

pub both_counted : (a b : List Bool) (count : ℕ) → length a ≡ count → length (both_on a b) ≡ count
both_counted a b count e = both_length a b ∙ e

-- of two sets as they were made
pub both_as : (x a second b other : List Bool) → x ≡ both_on a b → a ≡ second → b ≡ other → x ≡ both_on second other
both_as x a second b other e f g = e ∙ ap (λ l. both_on l b) f ∙ ap (λ l. both_on second l) g

-- a test that holds of what has a number alone is told by its values
pub set_mapped : (test : Location → Bool) (ls : List Location) → ((at : Location) → test at ≡ true → is_some (number_of_location ls at) ≡ true) → set_of_bits ls (map test ls) ≡ test
set_mapped test ls told = same_sets (set_of_bits ls (map test ls)) test (λ at. by_number at (number_of_location ls at) (test at) refl refl)
  where
    by_number : (at : Location) (o : Option ℕ) (b : Bool) → number_of_location ls at ≡ o → test at ≡ b → is_number_on (map test ls) o ≡ b
    by_number at None true e f = ap (λ o. is_some o) (sym e) ∙ told at f
    by_number at None false e f = refl
    by_number at (Some k) b e f = mapped_on test ls at k (location_at ls at k e) ∙ f

-- ---- cells

other_way : (x y : Bool) → (x && y) ≡ (y && x)
other_way true true = refl
other_way true false = refl
other_way false true = refl
other_way false false = refl

module _ (t : JudgedThread) (b : JudgedBodies) (holds : HoldsJudged t b) where
  -- what has a number
  pub told_number : (at : Location) → IsTold t at → is_some (number_of_location (locations_named b.numbers.locations.now) at) ≡ true
  told_number at told = has_number at (locations_in_order t) (number_of_location (locations_named b.numbers.locations.now) at) told (ap (λ ls. number_of_location ls at) (sym holds.numbered.locations))

  kept_held : is_kept t.program ≡ is_kept (nameless_tree b.program.now)
  kept_held = ap (λ p. is_kept p) holds.numbered.tree

  own_held : numbered_deeds (numbers_of b.numbers) (body_deeds (system_scope (nameless_tree b.program.now)) (nameless_tree b.program.now).run.statements)
      ≡ numbered_deeds (numbers_of b.numbers) (body_deeds (system_scope t.program) t.program.run.statements)
  own_held = ap (λ (p : UnitTree). numbered_deeds (numbers_of b.numbers) (body_deeds (system_scope p) p.run.statements)) (sym holds.numbered.tree)

  changed_at : (own all : List NumberedDeed) → own ≡ numbered_deeds (numbers_of b.numbers) (body_deeds (system_scope (nameless_tree b.program.now)) (nameless_tree b.program.now).run.statements)
      → all ≡ with_called b.deeds.now (length b.deeds.now + CALL_DEPTH) own → (at : Location) (k : ℕ) → number_of_location (locations_named b.numbers.locations.now) at ≡ Some k
      → list_any (changes_number k) all ≡ run_can_change t.program at
  changed_at own all e f at k is =
      ap (λ l. list_any (changes_number k) l) (f ∙ held_callees t b holds own (body_deeds (system_scope t.program) t.program.run.statements) (e ∙ own_held))
      ∙ changes_numbered (numbers_of b.numbers) at k is (run_deeds t.program)

  -- the cells of a thread program are the locations that `run` changes and keeps
  pub cells_told : TellsCells t → (own all : List NumberedDeed) (changed kept bits : List Bool)
      → own ≡ numbered_deeds (numbers_of b.numbers) (body_deeds (system_scope (nameless_tree b.program.now)) (nameless_tree b.program.now).run.statements)
      → all ≡ with_called b.deeds.now (length b.deeds.now + CALL_DEPTH) own → changed ≡ map (λ n. list_any (changes_number n) all) (range_with_len 0 (length b.numbers.locations.now))
      → kept ≡ map (is_kept (nameless_tree b.program.now)) (locations_named b.numbers.locations.now) → bits ≡ both_on changed kept → AreCells t (locations_named b.numbers.locations.now) bits
  cells_told tells own all changed kept bits e f g h i = record {
    count = ap (λ l. length l) i ∙ both_length changed kept ∙ ap (λ l. length l) g ∙ length-map-range_with_len (λ n. list_any (changes_number n) all) 0 (length b.numbers.locations.now) ∙ located t b holds;
    cells = ap (λ l. set_of_bits (locations_named b.numbers.locations.now) l) i ∙ set_both (locations_named b.numbers.locations.now) changed kept
        ∙ same_sets (of_those (set_of_bits (locations_named b.numbers.locations.now) changed) (set_of_bits (locations_named b.numbers.locations.now) kept)) (is_cell t.program)
        (λ at. by_number at (number_of_location (locations_named b.numbers.locations.now) at) (is_cell t.program at) refl refl);
  }
    where
      by_number : (at : Location) (o : Option ℕ) (c : Bool) → number_of_location (locations_named b.numbers.locations.now) at ≡ o → is_cell t.program at ≡ c → (is_number_on changed o && is_number_on kept o) ≡ c
      by_number at None true is cell = ap (λ o. is_some o) (sym is) ∙ told_number at (tells.cells at cell)
      by_number at None false is cell = refl
      by_number at (Some k) c is cell =
          let less : k < length b.numbers.locations.now =
          subst (λ n. k < n) (sym (located t b holds)) (slice_get_within (locations_named b.numbers.locations.now) k at (location_at (locations_named b.numbers.locations.now) at k is)) in
          ap (λ x. x && is_on kept k)
          (ap (λ l. is_on l k) g ∙ counted_on (λ n. list_any (changes_number n) all) (length b.numbers.locations.now) k less ∙ changed_at own all e f at k is)
          ∙ ap (λ x. run_can_change t.program at && x)
          (ap (λ l. is_on l k) h ∙ mapped_on (is_kept (nameless_tree b.program.now)) (locations_named b.numbers.locations.now) at k (location_at (locations_named b.numbers.locations.now) at k is)
          ∙ ap (λ test. test at) (sym kept_held))
          ∙ other_way (run_can_change t.program at) (is_kept t.program at) ∙ cell
