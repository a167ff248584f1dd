-- Walks that part at the tests of a `when`.
use Rattle.std.proofs.Common.{◌≡◌, Bool, List, [], Option, Some, None, refl, sym, ap, ◌∙◌}
use Rattle.ds2_value.specs.declared.truth.Truth.TheVariants.{Yes, Unknown}
use Rattle.ds2_meaning.specs.Location.{Location}
use Rattle.ds2_locality.specs.Walk.{DirtySet, nothing_dirty, united, WalkEnd, FailsAt, GoesOn, then_walk, WaysOut, TestsEnd, past_test}
use Rattle.ds2_recorded_walk.specs.declared.record.RecordedWalk.{RecordedWalk}
use Rattle.ds2_recorded_walk.specs.LocationBits.{either_on, set_of_bits}
use Rattle.ds2_recorded_walk.specs.RecordedParts.{PartedWays, PartedTelling, told_parted, parted_by, walked_to_parting}
use Rattle.ds2_recorded_walk.specs.RecordedWalks.{of_those, FailingRead, first_failing, walk_ending, ways_recorded, Telling, told, onward_by, walked_on}
use Rattle.ds2_recorded_walk.proofs.BitLemmas.{set_either, set_nothing, those_united}
use Rattle.ds2_recorded_walk.proofs.WalkLemmas.{then_after, then_same, with_nothing, united_next, united_other}

-- past tests, behind others that hold on these
abbrev pub held_by : DirtySet → (DirtySet → WalkEnd TestsEnd) → WaysOut → WalkEnd PartedWays
held_by held go x = then_walk (go x.onward) (λ y. GoesOn (record { holding = united held y.holding; ways = record x { onward = y.failing } }))

-- walks that part at tests behind others
abbrev pub held_parting : List Location → (held : List Bool) → (DirtySet → WalkEnd TestsEnd) → Telling → PartedTelling
held_parting ls held go t = λ before. then_walk (t before) (held_by (of_those (set_of_bits ls held) before) go)

same_partings : (s t : PartedTelling) → ((before : DirtySet) → s before ≡ t before) → s ≡ t
same_partings s t h = λ i before. h before i

-- ---- before the first test

none_held : (x : WaysOut) (held : DirtySet) → held ≡ nothing_dirty → (e : WalkEnd TestsEnd)
    → then_walk {B = PartedWays} e (λ y. GoesOn (record { holding = united held y.holding; ways = record x { onward = y.failing } })) ≡ then_walk e (λ y. GoesOn (record { holding = y.holding; ways = record x { onward = y.failing } }))
none_held x held h (FailsAt at place) = refl
none_held x held h (GoesOn y) = ap (λ d. GoesOn (record { holding = united d y.holding; ways = record x { onward = y.failing } })) h

pub begun_parting : (ls : List Location) (go : DirtySet → WalkEnd TestsEnd) (t : Telling) → held_parting ls [] go t ≡ walked_to_parting go t
begun_parting ls go t =
    same_partings (held_parting ls [] go t) (walked_to_parting go t)
    (λ before. then_same (t before) (held_by (of_those (set_of_bits ls []) before) go) (parted_by go)
    (λ x. none_held x (of_those (set_of_bits ls []) before) (ap (λ d. of_those d before) (set_nothing ls)) (go x.onward)))

-- ---- a test

test_walked : (e : WalkEnd DirtySet) (go : DirtySet → WalkEnd TestsEnd) (x : WaysOut) (held : DirtySet)
    → then_walk (then_walk e go) (λ y. GoesOn (record { holding = united held y.holding; ways = record x { onward = y.failing } }))
    ≡ then_walk (then_walk e (λ y. GoesOn (record x { onward = y }))) (held_by held go)
test_walked (FailsAt at place) go x held = refl
test_walked (GoesOn d) go x held = refl

-- the test is walked, and what follows it is left
pub parting_walked : (ls : List Location) (held : List Bool) (test : DirtySet → WalkEnd DirtySet) (go : DirtySet → WalkEnd TestsEnd) (t : Telling)
    → held_parting ls held (λ d. then_walk (test d) go) t ≡ held_parting ls held go (walked_on test t)
unfolding walked_on
parting_walked ls held test go t =
    same_partings (held_parting ls held (λ d. then_walk (test d) go) t) (λ before. then_walk (then_walk (t before) (onward_by test)) (held_by (of_those (set_of_bits ls held) before) go))
    (λ before. then_same (t before) (held_by (of_those (set_of_bits ls held) before) (λ d. then_walk (test d) go)) (λ x. then_walk (onward_by test x) (held_by (of_those (set_of_bits ls held) before) go))
    (λ x. test_walked (test x.onward) go x (of_those (set_of_bits ls held) before))
    ∙ sym (then_after (t before) (onward_by test) (held_by (of_those (set_of_bits ls held) before) go)))

-- ---- past the last test

last_held : (o : Option FailingRead) (x : WaysOut) (held : DirtySet)
    → then_walk (walk_ending o x) (held_by held (λ d. GoesOn (record { holding = nothing_dirty; failing = d }))) ≡ walk_ending o (record { holding = held; ways = x })
last_held None x held = ap (λ d. GoesOn (record { holding = d; ways = x })) (with_nothing held)
last_held (Some f) x held = refl

pub parting_ended : (ls : List Location) (held : List Bool) (w : RecordedWalk) → held_parting ls held (λ d. GoesOn (record { holding = nothing_dirty; failing = d })) (told ls w) ≡ told_parted ls w held
unfolding told
parting_ended ls held w =
    same_partings (λ before. then_walk (walk_ending (first_failing ls before w.reads) (ways_recorded ls before w)) (held_by (of_those (set_of_bits ls held) before) (λ d. GoesOn (record { holding = nothing_dirty; failing = d }))))
    (told_parted ls w held) (λ before. last_held (first_failing ls before w.reads) (ways_recorded ls before w) (of_those (set_of_bits ls held) before))

-- ---- past a test that is not decided

more_held : (x : WaysOut) (held d grown : DirtySet) → grown ≡ united held d → (e : WalkEnd TestsEnd)
    → then_walk {B = PartedWays} (then_walk {B = TestsEnd} e (λ z. GoesOn (record { holding = united d z.holding; failing = z.failing }))) (λ y. GoesOn (record { holding = united held y.holding; ways = record x { onward = y.failing } }))
    ≡ then_walk e (λ y. GoesOn (record { holding = united grown y.holding; ways = record x { onward = y.failing } }))
more_held x held d grown h (FailsAt at place) = refl
more_held x held d grown h (GoesOn z) = ap (λ s. GoesOn (record { holding = s; ways = record x { onward = z.failing } })) (united_next held d z.holding ∙ ap (λ s. united s z.holding) (sym h))

unknown_held : (o : Option FailingRead) (x : WaysOut) (held grown : DirtySet) (go : DirtySet → WalkEnd TestsEnd) → grown ≡ united held x.onward
    → then_walk (walk_ending o x) (held_by held (λ d. past_test Unknown d go)) ≡ then_walk (walk_ending o x) (held_by grown go)
unknown_held None x held grown go h = more_held x held x.onward grown h (go x.onward)
unknown_held (Some f) x held grown go h = refl

pub parting_open : (ls : List Location) (held : List Bool) (go : DirtySet → WalkEnd TestsEnd) (w : RecordedWalk)
    → held_parting ls held (λ d. past_test Unknown d go) (told ls w) ≡ held_parting ls (either_on held w.onward) go (told ls w)
unfolding told
parting_open ls held go w =
    same_partings (λ before. then_walk (walk_ending (first_failing ls before w.reads) (ways_recorded ls before w)) (held_by (of_those (set_of_bits ls held) before) (λ d. past_test Unknown d go)))
    (λ before. then_walk (walk_ending (first_failing ls before w.reads) (ways_recorded ls before w)) (held_by (of_those (set_of_bits ls (either_on held w.onward)) before) go))
    (λ before. unknown_held (first_failing ls before w.reads) (ways_recorded ls before w) (of_those (set_of_bits ls held) before) (of_those (set_of_bits ls (either_on held w.onward)) before) go
    (ap (λ d. of_those d before) (set_either ls held w.onward) ∙ those_united (set_of_bits ls held) (set_of_bits ls w.onward) before))

-- ---- past a test that holds

yes_held : (o : Option FailingRead) (x : WaysOut) (held grown failing : DirtySet) (go : DirtySet → WalkEnd TestsEnd) → grown ≡ united x.onward held → failing ≡ nothing_dirty
    → then_walk (walk_ending o x) (held_by held (λ d. past_test Yes d go)) ≡ walk_ending o (record { holding = grown; ways = record x { onward = failing } })
yes_held None x held grown failing go h k =
    ap (λ s. GoesOn (record { holding = s; ways = record x { onward = nothing_dirty } })) (united_other held x.onward ∙ sym h) ∙ ap (λ s. GoesOn (record { holding = grown; ways = record x { onward = s } })) (sym k)
yes_held (Some f) x held grown failing go h k = refl

pub parting_held : (ls : List Location) (held : List Bool) (go : DirtySet → WalkEnd TestsEnd) (w : RecordedWalk)
    → held_parting ls held (λ d. past_test Yes d go) (told ls w) ≡ told_parted ls (record w { onward = [] }) (either_on w.onward held)
unfolding told
parting_held ls held go w =
    same_partings (λ before. then_walk (walk_ending (first_failing ls before w.reads) (ways_recorded ls before w)) (held_by (of_those (set_of_bits ls held) before) (λ d. past_test Yes d go)))
    (told_parted ls (record w { onward = [] }) (either_on w.onward held))
    (λ before. yes_held (first_failing ls before w.reads) (ways_recorded ls before w) (of_those (set_of_bits ls held) before) (of_those (set_of_bits ls (either_on w.onward held)) before)
    (of_those (set_of_bits ls []) before) go
    (ap (λ d. of_those d before) (set_either ls w.onward held) ∙ those_united (set_of_bits ls w.onward) (set_of_bits ls held) before)
    (ap (λ d. of_those d before) (set_nothing ls)))
