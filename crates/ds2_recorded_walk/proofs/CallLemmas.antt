-- What a recorded walk tells past a call.
use Rattle.std.proofs.Common.{◌≡◌, ℕ, Bool, true, false, List, [], ◌∷◌, ◌++◌, Option, Some, None, refl, sym, ap, ◌∙◌}
use Rattle.std.specs.Prelude.{◌&&◌, not, if◌then◌else◌, slice_get}
use Rattle.ds2_base.specs.declared.place.Place.{Place}
use Rattle.ds2_meaning.specs.Location.{Location}
use Rattle.ds2_locality.specs.Walk.{DirtySet, WalkEnd, FailsAt, GoesOn, then_walk, WaysOut}
use Rattle.ds2_recorded_walk.specs.declared.record.CallEffect.{CallEffect}
use Rattle.ds2_recorded_walk.specs.declared.record.RecordedWalk.{RecordedWalk}
use Rattle.ds2_recorded_walk.specs.LocationBits.{is_on, both_on, set_of_bits}
use Rattle.ds2_deeds.specs.NamedLocations.{AreDistinct}
use Rattle.ds2_recorded_walk.specs.MarkedReads.{is_read_in}
use Rattle.ds2_recorded_walk.specs.RecordedWalks.{with_read, with_reads, with_effect, of_those, FailingRead, failing_at, first_failing_of, first_failing, walk_ending, ways_recorded, told, onward_by, walked_on, reads_at, past_effect}
use Rattle.ds2_recorded_walk.proofs.BitLemmas.{set_both}
use Rattle.ds2_recorded_walk.proofs.ReadLemmas.{first_none, first_of_more, told_read, told_onward}
use Rattle.ds2_recorded_walk.proofs.WalkLemmas.{same_sets, same_tellings, walked_twice, nothing_walked}

-- reads of the locations of these numbers
abbrev pub reads_from : List Location → Place → List ℕ → DirtySet → WalkEnd DirtySet
reads_from ls place ns d = walk_ending (first_failing ls d (reads_at place ns)) d

-- the read of what stands at a number, where something does
abbrev pub read_there : Place → Option Location → DirtySet → WalkEnd DirtySet
read_there place o d = walk_ending (failing_at d place o) d

read_is : (place : Place) (at : Location) (d : DirtySet) (b : Bool) → walk_ending (if b then Some (record { at = at; place = place }) else None) d ≡ (if b then FailsAt at place else GoesOn d)
read_is place at d true = refl
read_is place at d false = refl

next_read : (x y : Option FailingRead) (d : DirtySet) (f : DirtySet → WalkEnd DirtySet) → walk_ending y d ≡ f d → walk_ending (first_failing_of x y) d ≡ then_walk (walk_ending x d) f
next_read None y d f h = h
next_read (Some r) y d f h = refl

-- a number at which nothing stands is read to no end
unnumbered : (ls : List Location) (before : DirtySet) (place : Place) (n : ℕ) (w : RecordedWalk) (b : Bool) → slice_get ls n ≡ None
    → first_failing ls before (if b then record w { reads = w.reads ++ (record { location = n; place = place }) ∷ [] } else w).reads ≡ first_failing ls before w.reads
unnumbered ls before place n w true e =
    first_of_more ls before w.reads ((record { location = n; place = place }) ∷ []) ∙ ap (λ o. first_failing_of (first_failing ls before w.reads) (first_failing_of (failing_at before place o) None)) e
    ∙ first_none (first_failing ls before w.reads)
unnumbered ls before place n w false e = refl

same_parts : (ls : List Location) (before : DirtySet) (place : Place) (n : ℕ) (w : RecordedWalk) (b : Bool)
    → ways_recorded ls before (if b then record w { reads = w.reads ++ (record { location = n; place = place }) ∷ [] } else w) ≡ ways_recorded ls before w
same_parts ls before place n w true = refl
same_parts ls before place n w false = refl

told_unnumbered : (ls : List Location) (place : Place) (n : ℕ) (w : RecordedWalk) → slice_get ls n ≡ None → told ls (with_read place n w) ≡ told ls w
unfolding told
told_unnumbered ls place n w e =
    let b = is_on w.onward n && not (is_read_in n w.reads) in
    same_tellings (λ before. walk_ending (first_failing ls before (with_read place n w).reads) (ways_recorded ls before (with_read place n w)))
    (λ before. walk_ending (first_failing ls before w.reads) (ways_recorded ls before w))
    (λ before. ap (λ o. walk_ending o (ways_recorded ls before (with_read place n w))) (unnumbered ls before place n w b e)
    ∙ ap (λ x. walk_ending (first_failing ls before w.reads) x) (same_parts ls before place n w b))

-- the read of a number
told_number : (ls : List Location) → AreDistinct ls → (place : Place) (n : ℕ) (w : RecordedWalk) (o : Option Location) → slice_get ls n ≡ o → told ls (with_read place n w) ≡ walked_on (read_there place o) (told ls w)
told_number ls distinct place n w None e = told_unnumbered ls place n w e ∙ sym (nothing_walked (told ls w))
told_number ls distinct place n w (Some at) e =
    told_read ls place at n w (distinct n at e) ∙ ap (λ f. walked_on f (told ls w)) (λ i d. (sym (read_is place at d (d at))) i)

one_more : (ls : List Location) (place : Place) (n : ℕ) (ns : List ℕ) → reads_from ls place (n ∷ ns) ≡ (λ d. then_walk (read_there place (slice_get ls n) d) (reads_from ls place ns))
one_more ls place n ns = λ i d. next_read (failing_at d place (slice_get ls n)) (first_failing ls d (reads_at place ns)) d (reads_from ls place ns) refl i

-- reads of several numbers
pub told_reads : (ls : List Location) → AreDistinct ls → (place : Place) (ns : List ℕ) (w : RecordedWalk) → told ls (with_reads place ns w) ≡ walked_on (reads_from ls place ns) (told ls w)
told_reads ls distinct place [] w = sym (nothing_walked (told ls w))
told_reads ls distinct place (n ∷ ns) w =
    told_reads ls distinct place ns (with_read place n w)
    ∙ ap (λ t. walked_on (reads_from ls place ns) t) (told_number ls distinct place n w (slice_get ls n) refl)
    ∙ sym (walked_twice (read_there place (slice_get ls n)) (reads_from ls place ns) (told ls w))
    ∙ sym (ap (λ f. walked_on f (told ls w)) (one_more ls place n ns))

-- ---- what a call keeps

and_turned : (a b c : Bool) → ((a && b) && c) ≡ (b && (a && c))
and_turned true true c = refl
and_turned true false c = refl
and_turned false true c = refl
and_turned false false c = refl

kept_those : (ls : List Location) (onward keeps : List Bool) (before : DirtySet)
    → of_those (set_of_bits ls (both_on onward keeps)) before ≡ of_those (set_of_bits ls keeps) (of_those (set_of_bits ls onward) before)
kept_those ls onward keeps before =
    ap (λ d. of_those d before) (set_both ls onward keeps)
    ∙ same_sets (of_those (of_those (set_of_bits ls onward) (set_of_bits ls keeps)) before) (of_those (set_of_bits ls keeps) (of_those (set_of_bits ls onward) before))
    (λ at. and_turned (set_of_bits ls onward at) (set_of_bits ls keeps at) (before at))

ending_on : (o : Option FailingRead) (d : DirtySet) (g : DirtySet → DirtySet) → then_walk (walk_ending o d) (λ x. GoesOn (g x)) ≡ walk_ending o (g d)
ending_on None d g = refl
ending_on (Some f) d g = refl

-- a call of an effect
pub told_effect : (ls : List Location) → AreDistinct ls → (place : Place) (e : CallEffect) (w : RecordedWalk) → told ls (with_effect place e w) ≡ walked_on (past_effect ls (Some e) place) (told ls w)
told_effect ls distinct place e w =
    let past = with_reads place e.reads w in
    let keep : DirtySet → DirtySet = λ d. of_those (set_of_bits ls e.keeps) d in
    told_onward ls past (both_on past.onward e.keeps) keep (λ before. kept_those ls past.onward e.keeps before)
    ∙ ap (λ t. walked_on (λ d. GoesOn (keep d)) t) (told_reads ls distinct place e.reads w)
    ∙ sym (walked_twice (reads_from ls place e.reads) (λ d. GoesOn (keep d)) (told ls w))
    ∙ ap (λ f. walked_on f (told ls w)) (λ i d. ending_on (first_failing ls d (reads_at place e.reads)) d keep i)

-- ---- walks that agree where a recorded walk stands

agree_past : (o : Option FailingRead) (ways : WaysOut) (f g : DirtySet → WalkEnd DirtySet) → f ways.onward ≡ g ways.onward → then_walk (walk_ending o ways) (onward_by f) ≡ then_walk (walk_ending o ways) (onward_by g)
agree_past None ways f g h = ap (λ e. then_walk e (λ y. GoesOn (record ways { onward = y }))) h
agree_past (Some r) ways f g h = refl

pub on_told : (ls : List Location) (w : RecordedWalk) (f g : DirtySet → WalkEnd DirtySet)
    → ((before : DirtySet) → f (of_those (set_of_bits ls w.onward) before) ≡ g (of_those (set_of_bits ls w.onward) before)) → walked_on f (told ls w) ≡ walked_on g (told ls w)
unfolding told walked_on
on_told ls w f g same =
    same_tellings (λ before. then_walk (walk_ending (first_failing ls before w.reads) (ways_recorded ls before w)) (onward_by f))
    (λ before. then_walk (walk_ending (first_failing ls before w.reads) (ways_recorded ls before w)) (onward_by g))
    (λ before. agree_past (first_failing ls before w.reads) (ways_recorded ls before w) f g (same before))
