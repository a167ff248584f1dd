-- Bodies whose walk is recorded from all locations on.
use Rattle.std.proofs.Common.{◌≡◌, ℕ, ◌+◌, Bool, true, false, true≢false, List, [], ◌∷◌, ◌++◌, length, map, replicate, Option, Some, None, refl, sym, ap, ◌∙◌, subst, append-nil}
use Rattle.std.specs.List.{range_with_len}
use Rattle.std.proofs.lemmas.Grind.{flat_map-append}
use Rattle.std.proofs.lemmas.List.{length-map}
use Rattle.std.specs.Prelude.{if◌then◌else◌, slice_get}
use Rattle.ds2_base.specs.declared.place.Place.{Place}
use Rattle.ds2_meaning.specs.Location.{Location}
use Rattle.ds2_meaning.specs.TypedStatement.{TypedStatements}
use Rattle.ds2_meaning.specs.ProgramTree.{sources}
use Rattle.ds2_locality.specs.Deeds.{CodeScope, columns_at, columns_written}
use Rattle.ds2_locality.specs.Verdict.{past_body}
use Rattle.ds2_deeds.specs.CodeTrees.{scope_of}
use Rattle.ds2_deeds.specs.NamedLocations.{location_named}
use Rattle.ds2_locality.specs.Walk.{DirtySet, nothing_dirty, WalkEnd, FailsAt, GoesOn, then_walk, WaysOut, way_on, ways_past, at_end, read_location, read_locations, walk_all}
use Rattle.ds2_recorded_walk.specs.declared.record.CallEffect.{CallEffect}
use Rattle.ds2_recorded_walk.specs.declared.record.RecordedRead.{RecordedRead}
use Rattle.ds2_recorded_walk.specs.declared.record.RecordedWalk.{RecordedWalk}
use Rattle.ds2_recorded_walk.specs.declared.walk_scope.RecordScope.{RecordScope}
use Rattle.ds2_recorded_walk.specs.LocationBits.{either_on, set_of_bits}
use Rattle.ds2_recorded_walk.specs.RecordedStatements.{walk_scope, locations_of, GoesOnBy, GoesPastBy}
use Rattle.ds2_recorded_walk.specs.RecordedWalks.{nothing_recorded, of_those, FailingRead, failing_at, first_failing_of, first_failing, walk_ending, ways_recorded, told, onward_by, past_by, walked_on, walked_past, reads_at}
use Rattle.ds2_recorded_walk.proofs.BitLemmas.{set_nothing}
use Rattle.ds2_recorded_walk.proofs.WalkLemmas.{same_ways, then_same, then_after, then_goes_on, nothing_walked, nothing_passed, walked_twice}
use Rattle.ds2_local.specs.EffectSteps.{BodyTells, RunRecorded}
use Rattle.ds2_local.specs.JudgedBodies.{effect_of_walk}
use Rattle.ds2_local.specs.RunGrounds.{past_run_in}
use Rattle.ds2_local.proofs.RangeLemmas.{range_more}
use Rattle.ds2_local.proofs.FullLemmas.{all_of, those_of_all, ended, those_ended}

-- a walk whose ways out have met
abbrev pub ended_walk : RecordedWalk → RecordedWalk
ended_walk w = record w { onward = either_on (either_on (either_on w.onward w.returns) w.leaves) w.continues }

-- what goes on past the ways on
abbrev past_onward : WaysOut → WalkEnd DirtySet
past_onward x = GoesOn x.onward

-- past all ways out
abbrev past_end : WaysOut → WalkEnd DirtySet
past_end x = GoesOn (at_end x)

ends_onward : (o : Option FailingRead) (x : WaysOut) → then_walk (walk_ending o x) past_onward ≡ walk_ending o x.onward
ends_onward None x = refl
ends_onward (Some f) x = refl

ends_both : (o : Option FailingRead) (x y : WaysOut) → x.onward ≡ at_end y → then_walk (walk_ending o x) past_onward ≡ then_walk (walk_ending o y) past_end
ends_both None x y e = ap (λ d. GoesOn d) e
ends_both (Some f) x y e = refl

past_nothing : (d : DirtySet) (x : WaysOut) → ways_past (way_on d) x ≡ x
past_nothing d x = refl

onward_both : (e : WalkEnd WaysOut) (go : DirtySet → WalkEnd DirtySet) → then_walk (then_walk e (onward_by go)) past_onward ≡ then_walk (then_walk e past_onward) go
onward_both (FailsAt at place) go = refl
onward_both (GoesOn x) go = on_out (go x.onward)
  where
    on_out : (o : WalkEnd DirtySet) → then_walk (then_walk o (λ y. GoesOn (record x { onward = y }))) past_onward ≡ o
    on_out (FailsAt at place) = refl
    on_out (GoesOn y) = refl

module _ (ls : List Location) (bits : List Bool) (before : DirtySet) where
  abbrev dirty : DirtySet
  dirty = of_those (set_of_bits ls bits) before

  nothing_there : of_those (set_of_bits ls []) dirty ≡ nothing_dirty
  nothing_there = ap (λ s. of_those s dirty) (set_nothing ls)

  -- at its begin
  begun : (all : List Bool) → all ≡ all_of ls → told ls (nothing_recorded all) dirty ≡ GoesOn (way_on dirty)
  unfolding told
  begun all e =
      ap (λ x. GoesOn x)
      (same_ways (of_those (set_of_bits ls all) dirty) (of_those (set_of_bits ls []) dirty) (of_those (set_of_bits ls []) dirty) (of_those (set_of_bits ls []) dirty) dirty nothing_dirty nothing_dirty nothing_dirty
      (ap (λ b. of_those (set_of_bits ls b) dirty) e ∙ those_of_all ls bits before) nothing_there nothing_there nothing_there)

  -- past statements
  past_statements : (go : DirtySet → WalkEnd WaysOut) (all : List Bool) (w : RecordedWalk) → all ≡ all_of ls → told ls w ≡ walked_past go (told ls (nothing_recorded all)) → told ls w dirty ≡ go dirty
  unfolding walked_past
  past_statements go all w e h =
      (λ i. h i dirty) ∙ ap (λ x. then_walk x (past_by go)) (begun all e)
      ∙ then_same (go dirty) (λ y. GoesOn (ways_past (way_on dirty) y)) (λ y. GoesOn y) (λ y. ap (λ x. GoesOn x) (past_nothing dirty y)) ∙ then_goes_on (go dirty)

  -- where all ways out meet
  past_ended : (w : RecordedWalk) → then_walk (told ls (ended_walk w) dirty) past_onward ≡ then_walk (told ls w dirty) past_end
  unfolding told
  past_ended w =
      ends_both (first_failing ls dirty w.reads) (ways_recorded ls dirty (ended_walk w)) (ways_recorded ls dirty w)
      (those_ended ls w.onward w.returns w.leaves w.continues dirty ∙ ended (ways_recorded ls dirty w))

  onward_told : (w : RecordedWalk) → then_walk (told ls w dirty) past_onward ≡ walk_ending (first_failing ls dirty w.reads) (of_those (set_of_bits ls w.onward) dirty)
  unfolding told
  onward_told w = ends_onward (first_failing ls dirty w.reads) (ways_recorded ls dirty w)

  past_more : (go : DirtySet → WalkEnd DirtySet) (w v : RecordedWalk) → told ls v ≡ walked_on go (told ls w) → then_walk (told ls v dirty) past_onward ≡ then_walk (then_walk (told ls w dirty) past_onward) go
  unfolding walked_on
  past_more go w v h = ap (λ e. then_walk e past_onward) (λ i. h i dirty) ∙ onward_both (told ls w dirty) go

-- ---- methods

-- a failing read is told at another place
abbrev told_at : Place → WalkEnd DirtySet → WalkEnd DirtySet
told_at place (FailsAt at inner) = FailsAt at place
told_at place (GoesOn dirty) = GoesOn dirty

past_told : (place : Place) (e : WalkEnd WaysOut) → past_body place e ≡ told_at place (then_walk e past_end)
past_told place (FailsAt at inner) = refl
past_told place (GoesOn ways) = refl

-- a read of a location that fails at a place
abbrev fails : Location → Place → FailingRead
fails at place = record { at = at; place = place }

-- a read at another place
abbrev moved : Place → Option FailingRead → Option FailingRead
moved place None = None
moved place (Some f) = Some (fails f.at place)

moved_end : (place : Place) (o : Option FailingRead) (x : DirtySet) → told_at place (walk_ending o x) ≡ walk_ending (moved place o) x
moved_end place None x = refl
moved_end place (Some f) x = refl

moved_first : (place : Place) (a b : Option FailingRead) → first_failing_of (moved place a) (moved place b) ≡ moved place (first_failing_of a b)
moved_first place None b = refl
moved_first place (Some f) b = refl

moved_if : (place inner : Place) (at : Location) (b : Bool) → (if b then Some (fails at place) else None) ≡ moved place (if b then Some (fails at inner) else None)
moved_if place inner at true = refl
moved_if place inner at false = refl

moved_one : (d : DirtySet) (place inner : Place) (o : Option Location) → failing_at d place o ≡ moved place (failing_at d inner o)
moved_one d place inner None = refl
moved_one d place inner (Some at) = moved_if place inner at (d at)

moved_reads : (ls : List Location) (d : DirtySet) (place : Place) (rs : List RecordedRead)
    → first_failing ls d (reads_at place (map (λ (r : RecordedRead). r.location) rs)) ≡ moved place (first_failing ls d rs)
moved_reads ls d place [] = refl
moved_reads ls d place (r ∷ rs) =
    ap (λ o. first_failing_of o (first_failing ls d (reads_at place (map (λ (x : RecordedRead). x.location) rs)))) (moved_one d place r.place (slice_get ls r.location))
    ∙ ap (λ o. first_failing_of (moved place (failing_at d r.place (slice_get ls r.location))) o) (moved_reads ls d place rs)
    ∙ moved_first place (failing_at d r.place (slice_get ls r.location)) (first_failing ls d rs)

-- the effect of a method whose body was walked
pub body_told : (s : RecordScope) (body : TypedStatements) (all : List Bool) (w : RecordedWalk) → all ≡ all_of (locations_of s) → GoesPastBy s (nothing_recorded all) w (λ c. walk_all c body)
    → BodyTells s body (effect_of_walk (ended_walk w))
body_told s body all w e h calls tells place bits before =
    let ls = locations_of s in
    let d = of_those (set_of_bits ls bits) before in
    let go = walk_all (walk_scope s calls) body in
    past_told place (go d)
    ∙ ap (λ x. told_at place x)
    (ap (λ x. then_walk x past_end) (sym (past_statements ls bits before go all w e (h.by calls tells))) ∙ sym (past_ended ls bits before w) ∙ onward_told ls bits before (ended_walk w))
    ∙ moved_end place (first_failing ls d w.reads) (of_those (set_of_bits ls (ended_walk w).onward) d)
    ∙ ap (λ o. walk_ending o (of_those (set_of_bits ls (ended_walk w).onward) d)) (sym (moved_reads ls d place w.reads))

-- ---- `run`

-- the walk over `run` up to its end
pub run_told : (s : RecordScope) (body : TypedStatements) (has_output : Bool) (place : Place) (all : List Bool) (w v : RecordedWalk) → all ≡ all_of (locations_of s)
    → GoesPastBy s (nothing_recorded all) w (λ c. walk_all c body) → GoesOnBy s (ended_walk w) v (past_run_in has_output place) → RunRecorded s body has_output place v
run_told s body has_output place all w v e h k calls tells bits before =
    let ls = locations_of s in
    let d = of_those (set_of_bits ls bits) before in
    let go = walk_all (walk_scope s calls) body in
    let past = past_run_in has_output place (walk_scope s calls) in
    sym (then_after (go d) past_end past)
    ∙ ap (λ x. then_walk (then_walk x past_end) past) (sym (past_statements ls bits before go all w e (h.by calls tells)))
    ∙ ap (λ x. then_walk x past) (sym (past_ended ls bits before w))
    ∙ sym (past_more ls bits before past (ended_walk w) v (k.by calls tells)) ∙ onward_told ls bits before v

-- ---- in the steps of the code

all_counted : (s : RecordScope) (all : List Bool) → all ≡ replicate (length s.numbers.locations.now) true → all ≡ all_of (locations_of s)
all_counted s all e = e ∙ ap (λ n. replicate n true) (sym (length-map s.numbers.locations.now location_named))

-- the effect of a method, once its body is walked and all ways out have met
pub effect_told : (s : RecordScope) (body : TypedStatements) (all : List Bool) (begin w end' : RecordedWalk) (effect : CallEffect) → all ≡ replicate (length s.numbers.locations.now) true → begin ≡ nothing_recorded all
    → GoesPastBy s begin w (λ c. walk_all c body) → end' ≡ ended_walk w → effect ≡ effect_of_walk end' → BodyTells s body effect
effect_told s body all begin w end' effect e f h g i =
    subst (λ x. BodyTells s body x) (sym (i ∙ ap (λ x. effect_of_walk x) g))
    (body_told s body all w (all_counted s all e) (subst (λ x. GoesPastBy s x w (λ c. walk_all c body)) f h))

-- the walk over `run`, once its statements are walked, all ways out have met and its end is walked
pub run_recorded : (s : RecordScope) (body : TypedStatements) (has_output : Bool) (place : Place) (all : List Bool) (begin w end' v : RecordedWalk) → all ≡ replicate (length s.numbers.locations.now) true
    → begin ≡ nothing_recorded all → GoesPastBy s begin w (λ c. walk_all c body) → end' ≡ ended_walk w → GoesOnBy s end' v (past_run_in has_output place) → RunRecorded s body has_output place v
run_recorded s body has_output place all begin w end' v e f h g k =
    run_told s body has_output place all w v (all_counted s all e) (subst (λ x. GoesPastBy s x w (λ c. walk_all c body)) f h) (subst (λ x. GoesOnBy s x v (past_run_in has_output place)) g k)

-- ---- parts of `run`

-- no statements
pub none_passed : (s : RecordScope) (w : RecordedWalk) → GoesPastBy s w w (λ c d. GoesOn (way_on d))
none_passed s w = record { by = λ calls tells. sym (nothing_passed (told (locations_of s) w)) }

-- an end at which nothing is read
pub none_read : (s : RecordScope) (w : RecordedWalk) → GoesOnBy s w w (λ c d. GoesOn d)
none_read s w = record { by = λ calls tells. sym (nothing_walked (told (locations_of s) w)) }

pub output_ended : (s : RecordScope) (w : RecordedWalk) (place : Place) (b : Bool) → b ≡ true → GoesOnBy s w w (past_run_in b place)
output_ended s w place true e = none_read s w
output_ended s w place false e = absurd (true≢false (sym e))

pub outputs_read : (s : RecordScope) (w v : RecordedWalk) (place other : Place) (b : Bool) → b ≡ false → other ≡ place
    → GoesOnBy s w v (λ c. read_locations other (columns_written c.code (range_with_len 0 (length c.code.outputs)))) → GoesOnBy s w v (past_run_in b place)
outputs_read s w v place other true e f h = absurd (true≢false e)
outputs_read s w v place other false e f h = subst (λ p. GoesOnBy s w v (λ c. read_locations p (columns_written c.code (range_with_len 0 (length c.code.outputs))))) f h

-- one list of reads and then another
read_in_front : (place : Place) (x : Location) (f : DirtySet → WalkEnd DirtySet) (xs ys : List Location) → f ≡ (λ d. then_walk (read_locations place xs d) (read_locations place ys)) → (d : DirtySet)
    → then_walk (read_location place x d) f ≡ then_walk (then_walk (read_location place x d) (read_locations place xs)) (read_locations place ys)
read_in_front place x f xs ys h d = ap (λ go. then_walk (read_location place x d) go) h ∙ sym (then_after (read_location place x d) (read_locations place xs) (read_locations place ys))

reads_both : (place : Place) (xs ys : List Location) → read_locations place (xs ++ ys) ≡ (λ d. then_walk (read_locations place xs d) (read_locations place ys))
reads_both place [] ys = refl
reads_both place (x ∷ xs) ys = λ i d. read_in_front place x (read_locations place (xs ++ ys)) xs ys (reads_both place xs ys) d i

outputs_more : (c : CodeScope) (number : ℕ) → columns_written c (range_with_len 0 (number + 1)) ≡ columns_written c (range_with_len 0 number) ++ columns_at c.home (slice_get c.outputs number)
outputs_more c number =
    ap (λ l. columns_written c l) (range_more number)
    ∙ flat_map-append (λ n. columns_at c.home (slice_get c.outputs n)) (range_with_len 0 number) (number ∷ [])
    ∙ ap (λ l. columns_written c (range_with_len 0 number) ++ l) (append-nil (columns_at c.home (slice_get c.outputs number)))

-- the columns of one more output
pub one_output_more : (s : RecordScope) (a b c : RecordedWalk) (place : Place) (number : ℕ) → GoesOnBy s a b (λ w. read_locations place (columns_written w.code (range_with_len 0 number)))
    → GoesOnBy s b c (λ w. read_locations place (columns_at w.code.home (slice_get w.code.outputs number))) → GoesOnBy s a c (λ w. read_locations place (columns_written w.code (range_with_len 0 (number + 1))))
one_output_more s a b c place number h k = record {
  by = λ calls tells.
      let w = walk_scope s calls in
      let before = read_locations place (columns_written w.code (range_with_len 0 number)) in
      let next = read_locations place (columns_at w.code.home (slice_get w.code.outputs number)) in
      k.by calls tells ∙ ap (λ t. walked_on next t) (h.by calls tells) ∙ sym (walked_twice before next (told (locations_of s) a))
      ∙ ap (λ go. walked_on go (told (locations_of s) a))
      (sym (ap (λ l. read_locations place l) (outputs_more w.code number) ∙ reads_both place (columns_written w.code (range_with_len 0 number)) (columns_at w.code.home (slice_get w.code.outputs number))));
}

-- those of all outputs
pub all_outputs : (s : RecordScope) (a b : RecordedWalk) (place : Place) (number : ℕ) → number ≡ length s.body.outputs.now → GoesOnBy s a b (λ w. read_locations place (columns_written w.code (range_with_len 0 number)))
    → GoesOnBy s a b (λ w. read_locations place (columns_written w.code (range_with_len 0 (length w.code.outputs))))
all_outputs s a b place number e h = record {
  by = λ calls tells.
      h.by calls tells
      ∙ ap (λ n. walked_on (read_locations place (columns_written (scope_of s.body) (range_with_len 0 n))) (told (locations_of s) a)) (e ∙ sym (length-map s.body.outputs.now sources));
}
