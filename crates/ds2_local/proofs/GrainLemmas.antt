-- The two walks of a grain, by what is recorded of them.
use Rattle.std.proofs.Common.{◌≡◌, ℕ, zero, suc, ◌-◌, Bool, true, false, true≢false, List, [], ◌∷◌, length, map, take, drop, Option, Some, None, is_some, refl, sym, ap, ◌∙◌, cond, arith}
use Rattle.std.specs.Option.{option_or}
use Rattle.std.specs.Prelude.{◌&&◌, if◌then◌else◌, slice_get}
use Rattle.std.proofs.lemmas.List.{length-map}
use Rattle.ds2_base.specs.declared.place.Place.{Place}
use Rattle.ds2_meaning.specs.Location.{Location}
use Rattle.ds2_meaning.specs.Reading.{bys_of}
use Rattle.ds2_program_code.specs.PlacedProgram.{number_of_location}
use Rattle.ds2_locality.specs.KeptLocations.{is_flag_before}
use Rattle.ds2_locality.specs.Verdict.{JudgedThread, is_cell, walk_run, known_first, second_walk, ground_of_walk}
use Rattle.ds2_locality.specs.Walk.{DirtySet, no_flag, united, WalkEnd, then_walk}
use Rattle.ds2_deeds.specs.NamedLocations.{AreDistinct}
use Rattle.ds2_recorded_walk.specs.declared.record.RecordedRead.{RecordedRead}
use Rattle.ds2_recorded_walk.specs.declared.record.RecordedWalk.{RecordedWalk}
use Rattle.ds2_recorded_walk.specs.KnownFlags.{first_flags}
use Rattle.ds2_recorded_walk.specs.LocationBits.{is_on, is_number_on, either_on, both_on, set_of_bits}
use Rattle.ds2_recorded_walk.specs.RecordedWalks.{of_those, FailingRead, failing_at, first_failing_of, first_failing, walk_ending}
use Rattle.ds2_recorded_walk.proofs.BitLemmas.{set_either, set_both}
use Rattle.ds2_recorded_walk.proofs.WalkLemmas.{same_sets}
use Rattle.ds2_local.specs.EffectSteps.{RunTells}
use Rattle.ds2_local.specs.RunGrounds.{AreCells, is_flag_at, find_dirty, ground_at_location, ground_of_read, IsGroundAt}
use Rattle.ds2_local.proofs.CellLemmas.{set_mapped, either_counted, both_counted}

-- ---- a recorded walk from a set of these locations

-- all locations
abbrev everywhere : DirtySet
everywhere at = true

and_true : (a : Bool) → (a && true) ≡ a
and_true true = refl
and_true false = refl

those_everywhere : (d : DirtySet) → of_those d everywhere ≡ d
those_everywhere d = same_sets (of_those d everywhere) d (λ at. and_true (d at))

and_other : (a b : Bool) → (a && b) ≡ (b && a)
and_other true true = refl
and_other true false = refl
and_other false true = refl
and_other false false = refl

those_other : (a b : DirtySet) → of_those a b ≡ of_those b a
those_other a b = same_sets (of_those a b) (of_those b a) (λ at. and_other (a at) (b at))

run_from : (t : JudgedThread) (ls : List Location) (known : Location → Bool) (w : RecordedWalk) → RunTells t ls known w → (bits : List Bool)
    → walk_run t known (set_of_bits ls bits) ≡ walk_ending (first_failing ls (set_of_bits ls bits) w.reads) (of_those (set_of_bits ls w.onward) (set_of_bits ls bits))
run_from t ls known w tells bits =
    ap (λ d. walk_run t known d) (sym (those_everywhere (set_of_bits ls bits))) ∙ tells bits everywhere
    ∙ ap (λ d. walk_ending (first_failing ls d w.reads) (of_those (set_of_bits ls w.onward) d)) (those_everywhere (set_of_bits ls bits))

-- ---- the read that fails

-- a read of what stands at a place fails
abbrev failing_there : Place → Option Location → Option FailingRead
failing_there place None = None
failing_there place (Some at) = Some (record { at = at; place = place })

abbrev failing_of : List Location → Option RecordedRead → Option FailingRead
failing_of ls None = None
failing_of ls (Some r) = failing_there r.place (slice_get ls r.location)

none_on : (ls : List Location) (bits : List Bool) → length bits ≡ length ls → (k : ℕ) → slice_get ls k ≡ None → is_on bits k ≡ false
none_on [] [] e k f = refl
none_on [] (b ∷ bits) e k f = absurd (omega (arith, e))
none_on (x ∷ ls) [] e k f = refl
none_on (x ∷ ls) (b ∷ bits) e zero f = absurd cc
none_on (x ∷ ls) (b ∷ bits) e (suc k) f = let less : length bits ≡ length ls = omega (arith, e) in none_on ls bits less k f

module _ (ls : List Location) (distinct : AreDistinct ls) (bits : List Bool) (counted : length bits ≡ length ls) where
  first_next : (r : RecordedRead) (rest : Option FailingRead) (next : Option RecordedRead) (b : Bool) (o : Option Location) → is_on bits r.location ≡ b → slice_get ls r.location ≡ o → rest ≡ failing_of ls next
      → first_failing_of (failing_at (set_of_bits ls bits) r.place o) rest ≡ failing_of ls (cond b (Some r) next)
  first_next r rest next true None e f h = absurd (true≢false (sym e ∙ none_on ls bits counted r.location f))
  first_next r rest next false None e f h = h
  first_next r rest next true (Some at) e f h =
      ap (λ (c : Bool). first_failing_of (if c then Some (record { at = at; place = r.place }) else None) rest) (ap (λ n. is_number_on bits n) (distinct r.location at f) ∙ e)
      ∙ ap (λ o. failing_there r.place o) (sym f)
  first_next r rest next false (Some at) e f h =
      ap (λ (c : Bool). first_failing_of (if c then Some (record { at = at; place = r.place }) else None) rest) (ap (λ n. is_number_on bits n) (distinct r.location at f) ∙ e) ∙ h

  first_found : (reads : List RecordedRead) → first_failing ls (set_of_bits ls bits) reads ≡ failing_of ls (find_dirty bits reads)
  first_found [] = refl
  first_found (r ∷ reads) =
      first_next r (first_failing ls (set_of_bits ls bits) reads) (find_dirty bits reads) (is_on bits r.location) (slice_get ls r.location) refl refl (first_found reads)

  found_is_on : (reads : List RecordedRead) (r : RecordedRead) → find_dirty bits reads ≡ Some r → is_on bits r.location ≡ true
  found_is_on [] r e = absurd cc
  found_is_on (x ∷ reads) r e = by_test (is_on bits x.location) refl e (λ f. found_is_on reads r f)
    where
      by_test : (b : Bool) → is_on bits x.location ≡ b → cond b (Some x) (find_dirty bits reads) ≡ Some r → (find_dirty bits reads ≡ Some r → is_on bits r.location ≡ true) → is_on bits r.location ≡ true
      by_test true f h later = let same : x ≡ r = cc in ap (λ (y : RecordedRead). is_on bits y.location) (sym same) ∙ f
      by_test false f h later = later h

  -- a walk, and then another where it goes on
  walked_by : (reads : List RecordedRead) (x : DirtySet) (next : DirtySet → WalkEnd DirtySet) (later o : Option RecordedRead) → find_dirty bits reads ≡ o → ground_of_walk (next x) ≡ ground_of_read ls later
      → ground_of_walk (then_walk (walk_ending (first_failing ls (set_of_bits ls bits) reads) x) next) ≡ ground_of_read ls (option_or o later)
  walked_by reads x next later None e h = ap (λ f. ground_of_walk (then_walk (walk_ending f x) next)) (first_found reads ∙ ap (λ o. failing_of ls o) e) ∙ h
  walked_by reads x next later (Some r) e h = by_place (slice_get ls r.location) refl
    where
      by_place : (o : Option Location) → slice_get ls r.location ≡ o
          → ground_of_walk (then_walk (walk_ending (first_failing ls (set_of_bits ls bits) reads) x) next) ≡ ground_at_location r.place (slice_get ls r.location)
      by_place None f = absurd (true≢false (sym (found_is_on reads r e) ∙ none_on ls bits counted r.location f))
      by_place (Some at) f =
          ap (λ y. ground_of_walk (then_walk (walk_ending y x) next)) (first_found reads ∙ ap (λ o. failing_of ls o) e ∙ ap (λ o. failing_there r.place o) f)
          ∙ ap (λ o. ground_at_location r.place o) (sym f)

  ended_by : (reads : List RecordedRead) (x : DirtySet) → ground_of_walk (walk_ending (first_failing ls (set_of_bits ls bits) reads) x) ≡ ground_of_read ls (find_dirty bits reads)
  ended_by reads x = ap (λ f. ground_of_walk (walk_ending f x)) (first_found reads) ∙ by_read (find_dirty bits reads)
    where
      by_there : (place : Place) (o : Option Location) → ground_of_walk (walk_ending (failing_there place o) x) ≡ ground_at_location place o
      by_there place None = refl
      by_there place (Some at) = refl

      by_read : (o : Option RecordedRead) → ground_of_walk (walk_ending (failing_of ls o) x) ≡ ground_of_read ls o
      by_read None = refl
      by_read (Some r) = by_there r.place (slice_get ls r.location)

  found_there : (reads : List RecordedRead) (o : Option RecordedRead) → find_dirty bits reads ≡ o → is_some (ground_of_read ls o) ≡ is_some o
  found_there reads None e = refl
  found_there reads (Some r) e = by_place (slice_get ls r.location) refl
    where
      by_place : (o : Option Location) → slice_get ls r.location ≡ o → is_some (ground_at_location r.place (slice_get ls r.location)) ≡ true
      by_place None f = absurd (true≢false (sym (found_is_on reads r e) ∙ none_on ls bits counted r.location f))
      by_place (Some at) f = ap (λ o. is_some (ground_at_location r.place o)) f

either_there : (ls : List Location) (a b : Option RecordedRead) → is_some (ground_of_read ls a) ≡ is_some a → is_some (ground_of_read ls b) ≡ is_some b → is_some (ground_of_read ls (option_or a b)) ≡ is_some (option_or a b)
either_there ls None b h k = k
either_there ls (Some r) b h k = h

-- ---- the walks of a grain

-- the ground at a grain is that of the first read that fails in one of the two walks
pub grain_told : (t : JudgedThread) (ls : List Location) → AreDistinct ls → (grain : ℕ) (cells flags dirty : List Bool) (first later : RecordedWalk) (read : Option RecordedRead) → AreCells t ls cells
    → ((at : Location) → is_flag_at (take (grain - 1) (bys_of t.program.reading)) at ≡ true → is_some (number_of_location ls at) ≡ true)
    → flags ≡ map (is_flag_at (take (grain - 1) (bys_of t.program.reading))) ls → dirty ≡ either_on cells flags
    → RunTells t ls (first_flags (drop (grain - 1) (bys_of t.program.reading))) first → RunTells t ls no_flag later
    → read ≡ option_or (find_dirty dirty first.reads) (find_dirty (either_on (both_on dirty first.onward) flags) later.reads) → IsGroundAt t ls grain read
grain_told t ls distinct grain cells flags dirty first later read are told f g tells_first tells_later e =
    let test = is_flag_at (take (grain - 1) (bys_of t.program.reading)) in
    let left = both_on dirty first.onward in
    let flag_count : length flags ≡ length ls = ap (λ l. length l) f ∙ length-map ls test in
    let flag_set : set_of_bits ls flags ≡ is_flag_before grain t.program.reading = ap (λ l. set_of_bits ls l) f ∙ set_mapped test ls told in
    let dirty_count : length dirty ≡ length ls = ap (λ l. length l) g ∙ either_counted cells flags (length ls) are.count flag_count in
    let dirty_set : set_of_bits ls dirty ≡ united (is_cell t.program) (is_flag_before grain t.program.reading) =
    ap (λ l. set_of_bits ls l) g ∙ set_either ls cells flags ∙ ap (λ s. united s (set_of_bits ls flags)) are.cells ∙ ap (λ s. united (is_cell t.program) s) flag_set in
    let later_count : length (either_on left flags) ≡ length ls = either_counted left flags (length ls) (both_counted dirty first.onward (length ls) dirty_count) flag_count in
    let past = of_those (set_of_bits ls first.onward) (set_of_bits ls dirty) in
    let later_set : set_of_bits ls (either_on left flags) ≡ united past (is_flag_before grain t.program.reading) =
    set_either ls left flags ∙ ap (λ s. united s (set_of_bits ls flags)) (set_both ls dirty first.onward ∙ those_other (set_of_bits ls dirty) (set_of_bits ls first.onward))
    ∙ ap (λ s. united past s) flag_set in
    let first_is = ap (λ d. walk_run t (known_first t grain) d) (sym dirty_set) ∙ run_from t ls (first_flags (drop (grain - 1) (bys_of t.program.reading))) first tells_first dirty in
    let second_is = ap (λ d. walk_run t no_flag d) (sym later_set) ∙ run_from t ls no_flag later tells_later (either_on left flags) in
    record {
      is =
          ap (λ w. ground_of_walk (then_walk w (second_walk t grain))) first_is
          ∙ walked_by ls distinct dirty dirty_count first.reads past (second_walk t grain) (find_dirty (either_on left flags) later.reads) (find_dirty dirty first.reads) refl
          (ap (λ w. ground_of_walk w) second_is
          ∙ ended_by ls distinct (either_on left flags) later_count later.reads (of_those (set_of_bits ls later.onward) (set_of_bits ls (either_on left flags))))
          ∙ ap (λ r. ground_of_read ls r) (sym e);
      there =
          ap (λ r. is_some (ground_of_read ls r)) e
          ∙ either_there ls (find_dirty dirty first.reads) (find_dirty (either_on left flags) later.reads) (found_there ls distinct dirty dirty_count first.reads (find_dirty dirty first.reads) refl)
          (found_there ls distinct (either_on left flags) later_count later.reads (find_dirty (either_on left flags) later.reads) refl)
          ∙ ap (λ r. is_some r) (sym e);
    }
