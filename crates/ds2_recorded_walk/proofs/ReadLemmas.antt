-- What a recorded walk tells once a read is recorded, or a location is made clean.
use Rattle.std.proofs.Common.{◌≡◌, ℕ, Bool, true, false, true≢false, List, [], ◌∷◌, ◌++◌, Option, Some, None, refl, sym, ap, ◌∙◌, eqb-true}
use Rattle.std.specs.Prelude.{◌&&◌, ◌||◌, not, ◌==◌, if◌then◌else◌, slice_get, slice_set}
use Rattle.ds2_base.specs.declared.place.Place.{Place}
use Rattle.ds2_meaning.specs.Location.{Location}
use Rattle.ds2_program_code.specs.PlacedProgram.{number_of_location}
use Rattle.ds2_locality.specs.Walk.{DirtySet, all_cleaned, FailsAt, GoesOn, then_walk, read_location, WaysOut}
use Rattle.ds2_recorded_walk.specs.declared.record.RecordedRead.{RecordedRead}
use Rattle.ds2_recorded_walk.specs.declared.record.RecordedWalk.{RecordedWalk}
use Rattle.ds2_recorded_walk.specs.LocationBits.{is_on, is_number_on, set_of_bits}
use Rattle.ds2_recorded_walk.specs.MarkedReads.{is_read_in}
use Rattle.ds2_recorded_walk.specs.RecordedWalks.{with_read, of_those, FailingRead, failing_at, first_failing_of, first_failing, walk_ending, ways_recorded, told, onward_by, walked_on}
use Rattle.ds2_deeds.proofs.NumberLemmas.{numbered}
use Rattle.ds2_recorded_walk.proofs.BitLemmas.{set_cleaned, set_clean, those_cleaned}
use Rattle.ds2_recorded_walk.proofs.WalkLemmas.{same_tellings}

-- ---- reads that fail

first_next : (a b c : Option FailingRead) → first_failing_of a (first_failing_of b c) ≡ first_failing_of (first_failing_of a b) c
first_next None b c = refl
first_next (Some f) b c = refl

pub first_none : (a : Option FailingRead) → first_failing_of a None ≡ a
first_none None = refl
first_none (Some f) = refl

first_stays : (a b x : Option FailingRead) → ((y : Option FailingRead) → first_failing_of a y ≡ a) → first_failing_of (first_failing_of a b) x ≡ first_failing_of a b
first_stays a b x h = sym (first_next a b x) ∙ h (first_failing_of b x) ∙ sym (h b)

later_stays : (a b x : Option FailingRead) → first_failing_of b x ≡ b → first_failing_of (first_failing_of a b) x ≡ first_failing_of a b
later_stays a b x h = sym (first_next a b x) ∙ ap (λ o. first_failing_of a o) h

module _ (ls : List Location) (before : DirtySet) where
  pub first_of_more : (rs qs : List RecordedRead) → first_failing ls before (rs ++ qs) ≡ first_failing_of (first_failing ls before rs) (first_failing ls before qs)
  first_of_more [] qs = refl
  first_of_more (r ∷ rs) qs =
      ap (λ x. first_failing_of (failing_at before r.place (slice_get ls r.location)) x) (first_of_more rs qs)
      ∙ first_next (failing_at before r.place (slice_get ls r.location)) (first_failing ls before rs) (first_failing ls before qs)

  -- a read of a location that is dirty fails
  found_read : (place : Place) (at : Location) (b : Bool) → before at ≡ b → b ≡ true → (x : Option FailingRead) → first_failing_of (failing_at before place (Some at)) x ≡ failing_at before place (Some at)
  found_read place at true h e x =
      ap (λ c. first_failing_of (if c then Some (record { at = at; place = place }) else None) x) h ∙ sym (ap (λ c. if c then Some (record { at = at; place = place }) else None) h)
  found_read place at false h e x = absurd (true≢false (sym e))

  -- behind a read of a dirty location no later one counts
  read_or_before : (r : RecordedRead) (rs : List RecordedRead) (at : Location) (n : ℕ) → slice_get ls n ≡ Some at → before at ≡ true → (x : Option FailingRead) (b : Bool) → (r.location == n) ≡ b
      → (b || is_read_in n rs) ≡ true → (is_read_in n rs ≡ true → first_failing_of (first_failing ls before rs) x ≡ first_failing ls before rs)
      → first_failing_of (first_failing ls before (r ∷ rs)) x ≡ first_failing ls before (r ∷ rs)
  read_or_before r rs at n here dirty x true e f later =
      let at_n = ap (λ o. failing_at before r.place o) (ap (λ k. slice_get ls k) (eqb-true r.location n e) ∙ here) in
      first_stays (failing_at before r.place (slice_get ls r.location)) (first_failing ls before rs) x
      (λ y. ap (λ o. first_failing_of o y) at_n ∙ found_read r.place at true dirty refl y ∙ sym at_n)
  read_or_before r rs at n here dirty x false e f later = later_stays (failing_at before r.place (slice_get ls r.location)) (first_failing ls before rs) x (later f)

  read_before : (at : Location) (n : ℕ) → slice_get ls n ≡ Some at → before at ≡ true → (reads : List RecordedRead) → is_read_in n reads ≡ true → (x : Option FailingRead)
      → first_failing_of (first_failing ls before reads) x ≡ first_failing ls before reads
  read_before at n here dirty [] found x = absurd (true≢false (sym found))
  read_before at n here dirty (r ∷ rs) found x = read_or_before r rs at n here dirty x (r.location == n) refl found (λ f. read_before at n here dirty rs f x)

  -- ---- a read

  read_by : (o : Option FailingRead) (ways : WaysOut) (place : Place) (at : Location) (b : Bool) → ways.onward at ≡ b
      → then_walk (walk_ending o ways) (onward_by (read_location place at)) ≡ walk_ending (first_failing_of o (if b then Some (record { at = at; place = place }) else None)) ways
  read_by (Some f) ways place at b h = refl
  read_by None ways place at true h = ap (λ c. then_walk (if c then FailsAt at place else GoesOn ways.onward) (λ y. GoesOn (record ways { onward = y }))) h
  read_by None ways place at false h = ap (λ c. then_walk (if c then FailsAt at place else GoesOn ways.onward) (λ y. GoesOn (record ways { onward = y }))) h

  read_already : (place : Place) (at : Location) (w : RecordedWalk) (b : Bool) → before at ≡ b
      → (b ≡ true → first_failing_of (first_failing ls before w.reads) (Some (record { at = at; place = place })) ≡ first_failing ls before w.reads)
      → walk_ending (first_failing ls before w.reads) (ways_recorded ls before w)
      ≡ walk_ending (first_failing_of (first_failing ls before w.reads) (if before at then Some (record { at = at; place = place }) else None)) (ways_recorded ls before w)
  read_already place at w true e h =
      ap (λ o. walk_ending o (ways_recorded ls before w)) (sym (h refl) ∙ ap (λ b. first_failing_of (first_failing ls before w.reads) (if b then Some (record { at = at; place = place }) else None)) (sym e))
  read_already place at w false e h =
      ap (λ o. walk_ending o (ways_recorded ls before w)) (sym (first_none (first_failing ls before w.reads))
      ∙ ap (λ b. first_failing_of (first_failing ls before w.reads) (if b then Some (record { at = at; place = place }) else None)) (sym e))

  -- the read that fails, where it is recorded or one of its location was before
  failing_next : (place : Place) (at : Location) (n : ℕ) (w : RecordedWalk) → slice_get ls n ≡ Some at → (on read : Bool) → is_read_in n w.reads ≡ read
      → walk_ending (first_failing ls before (if on && not read then record w { reads = w.reads ++ (record { location = n; place = place }) ∷ [] } else w).reads)
      (ways_recorded ls before (if on && not read then record w { reads = w.reads ++ (record { location = n; place = place }) ∷ [] } else w))
      ≡ walk_ending (first_failing_of (first_failing ls before w.reads) (if on && before at then Some (record { at = at; place = place }) else None)) (ways_recorded ls before w)
  failing_next place at n w here false read h = ap (λ o. walk_ending o (ways_recorded ls before w)) (sym (first_none (first_failing ls before w.reads)))
  failing_next place at n w here true false h =
      ap (λ o. walk_ending o (ways_recorded ls before w)) (first_of_more w.reads ((record { location = n; place = place }) ∷ [])
      ∙ ap (λ o. first_failing_of (first_failing ls before w.reads) o) (first_none (failing_at before place (slice_get ls n)) ∙ ap (λ o. failing_at before place o) here))
  failing_next place at n w here true true h =
      read_already place at w (before at) refl (λ e. read_before at n here e w.reads h (Some (record { at = at; place = place })))

  read_told : (place : Place) (at : Location) (n : ℕ) (w : RecordedWalk) → number_of_location ls at ≡ Some n
      → walk_ending (first_failing ls before (with_read place n w).reads) (ways_recorded ls before (with_read place n w))
      ≡ then_walk (walk_ending (first_failing ls before w.reads) (ways_recorded ls before w)) (onward_by (read_location place at))
  read_told place at n w e =
      let dirty : (ways_recorded ls before w).onward at ≡ (is_on w.onward n && before at) = ap (λ o. is_number_on w.onward o && before at) e in
      failing_next place at n w (numbered ls at n e) (is_on w.onward n) (is_read_in n w.reads) refl
      ∙ sym (read_by (first_failing ls before w.reads) (ways_recorded ls before w) place at (is_on w.onward n && before at) dirty)

  unread_told : (place : Place) (at : Location) (w : RecordedWalk) → number_of_location ls at ≡ None
      → walk_ending (first_failing ls before w.reads) (ways_recorded ls before w)
      ≡ then_walk (walk_ending (first_failing ls before w.reads) (ways_recorded ls before w)) (onward_by (read_location place at))
  unread_told place at w e =
      let clean : (ways_recorded ls before w).onward at ≡ false = ap (λ o. is_number_on w.onward o && before at) e in
      sym (read_by (first_failing ls before w.reads) (ways_recorded ls before w) place at false clean ∙ ap (λ o. walk_ending o (ways_recorded ls before w)) (first_none (first_failing ls before w.reads)))

-- the read of a location that has a number
pub told_read : (ls : List Location) (place : Place) (at : Location) (n : ℕ) (w : RecordedWalk) → number_of_location ls at ≡ Some n
    → told ls (with_read place n w) ≡ walked_on (read_location place at) (told ls w)
unfolding told walked_on
told_read ls place at n w e =
    same_tellings (λ before. walk_ending (first_failing ls before (with_read place n w).reads) (ways_recorded ls before (with_read place n w)))
    (λ before. then_walk (walk_ending (first_failing ls before w.reads) (ways_recorded ls before w)) (onward_by (read_location place at)))
    (λ before. read_told ls before place at n w e)

-- the read of one that has none
pub told_unread : (ls : List Location) (place : Place) (at : Location) (w : RecordedWalk) → number_of_location ls at ≡ None
    → told ls w ≡ walked_on (read_location place at) (told ls w)
unfolding told walked_on
told_unread ls place at w e =
    same_tellings (λ before. walk_ending (first_failing ls before w.reads) (ways_recorded ls before w))
    (λ before. then_walk (walk_ending (first_failing ls before w.reads) (ways_recorded ls before w)) (onward_by (read_location place at)))
    (λ before. unread_told ls before place at w e)

-- ---- a location is made clean

set_onward : (o : Option FailingRead) (ways : WaysOut) (d : DirtySet) (go : DirtySet → DirtySet) → d ≡ go ways.onward
    → walk_ending o (record ways { onward = d }) ≡ then_walk (walk_ending o ways) (onward_by (λ x. GoesOn (go x)))
set_onward None ways d go e = ap (λ x. GoesOn (record ways { onward = x })) e
set_onward (Some f) ways d go e = refl

pub told_onward : (ls : List Location) (w : RecordedWalk) (bits : List Bool) (go : DirtySet → DirtySet)
    → ((before : DirtySet) → of_those (set_of_bits ls bits) before ≡ go (of_those (set_of_bits ls w.onward) before))
    → told ls (record w { onward = bits }) ≡ walked_on (λ d. GoesOn (go d)) (told ls w)
unfolding told walked_on
told_onward ls w bits go same =
    same_tellings (λ before. walk_ending (first_failing ls before w.reads) (ways_recorded ls before (record w { onward = bits })))
    (λ before. then_walk (walk_ending (first_failing ls before w.reads) (ways_recorded ls before w)) (onward_by (λ d. GoesOn (go d))))
    (λ before. set_onward (first_failing ls before w.reads) (ways_recorded ls before w) (of_those (set_of_bits ls bits) before) go (same before))

pub told_clean : (ls : List Location) (at : Location) (n : ℕ) (w : RecordedWalk) → number_of_location ls at ≡ Some n
    → told ls (record w { onward = slice_set w.onward n false }) ≡ walked_on (λ d. GoesOn (all_cleaned (at ∷ []) d)) (told ls w)
told_clean ls at n w e =
    told_onward ls w (slice_set w.onward n false) (all_cleaned (at ∷ []))
    (λ before. ap (λ d. of_those d before) (set_cleaned ls w.onward at n e) ∙ those_cleaned at (set_of_bits ls w.onward) before)

pub told_unclean : (ls : List Location) (at : Location) (w : RecordedWalk) → number_of_location ls at ≡ None
    → told ls w ≡ walked_on (λ d. GoesOn (all_cleaned (at ∷ []) d)) (told ls w)
told_unclean ls at w e =
    told_onward ls w w.onward (all_cleaned (at ∷ []))
    (λ before. ap (λ d. of_those d before) (set_clean ls w.onward at e) ∙ those_cleaned at (set_of_bits ls w.onward) before)
