-- Walks whose ways part and meet.
use Rattle.std.proofs.Common.{◌≡◌, Bool, true, false, List, [], Option, Some, None, refl, sym, ap, ◌∙◌}
use Rattle.std.specs.Prelude.{◌||◌}
use Rattle.ds2_value.specs.declared.truth.Truth.TheVariants.{Unknown}
use Rattle.ds2_meaning.specs.Location.{Location}
use Rattle.ds2_meaning.specs.TypedStatement.{TypedStatement}
use Rattle.ds2_locality.specs.Walk.{DirtySet, nothing_dirty, united, WalkEnd, FailsAt, GoesOn, then_walk, WaysOut, ways_past, meeting, both_ways, TestsEnd, WalkScope, walk}
use Rattle.ds2_recorded_walk.specs.declared.record.RecordedWalk.{RecordedWalk}
use Rattle.ds2_deeds.specs.ElseParts.{ElsePart}
use Rattle.ds2_recorded_walk.specs.ElseWalks.{else_walk}
use Rattle.ds2_recorded_walk.specs.LocationBits.{either_on, set_of_bits}
use Rattle.ds2_recorded_walk.specs.RecordedParts.{branch_walk, PartedWays, told_parted, parted_by, walked_to_parting}
use Rattle.ds2_recorded_walk.specs.RecordedStatements.{met}
use Rattle.ds2_recorded_walk.specs.RecordedWalks.{of_those, FailingRead, first_failing, walk_ending, ways_recorded, Telling, told, past_by, walked_past}
use Rattle.ds2_recorded_walk.proofs.BitLemmas.{set_either, set_nothing, those_united}
use Rattle.ds2_recorded_walk.proofs.WalkLemmas.{same_sets, same_tellings, same_ways, with_nothing, united_next}

-- ---- walks that meet others

-- ways on whose way on these are dirty too
abbrev pub meet_with : DirtySet → WaysOut → WalkEnd WaysOut
meet_with others x = GoesOn (record x { onward = united x.onward others })

ended_met : (o : Option FailingRead) (ways : WaysOut) (d others : DirtySet) → d ≡ united ways.onward others → walk_ending o (record ways { onward = d }) ≡ then_walk (walk_ending o ways) (meet_with others)
ended_met None ways d others e = ap (λ x. GoesOn (record ways { onward = x })) e
ended_met (Some f) ways d others e = refl

-- the way on meets others, on which these locations are dirty
pub told_met : (ls : List Location) (w : RecordedWalk) (ends : List Bool) → told ls (record w { onward = either_on w.onward ends }) ≡ met (set_of_bits ls ends) (told ls w)
unfolding told met
told_met ls w ends =
    same_tellings (λ before. walk_ending (first_failing ls before w.reads) (ways_recorded ls before (record w { onward = either_on w.onward ends })))
    (λ before. then_walk (walk_ending (first_failing ls before w.reads) (ways_recorded ls before w)) (meet_with (of_those (set_of_bits ls ends) before)))
    (λ before. ended_met (first_failing ls before w.reads) (ways_recorded ls before w) (of_those (set_of_bits ls (either_on w.onward ends)) before) (of_those (set_of_bits ls ends) before)
    (ap (λ d. of_those d before) (set_either ls w.onward ends) ∙ those_united (set_of_bits ls w.onward) (set_of_bits ls ends) before))

met_with_nothing : (e : WalkEnd WaysOut) (others : DirtySet) → others ≡ nothing_dirty → then_walk e (meet_with others) ≡ e
met_with_nothing (FailsAt at place) others h = refl
met_with_nothing (GoesOn x) others h = ap (λ d. GoesOn (record x { onward = d })) (ap (λ d. united x.onward d) h ∙ with_nothing x.onward)

-- nothing is met where no way comes
pub met_nothing : (ls : List Location) (t : Telling) → met (set_of_bits ls []) t ≡ t
unfolding met
met_nothing ls t =
    same_tellings (λ before. then_walk (t before) (meet_with (of_those (set_of_bits ls []) before))) t
    (λ before. met_with_nothing (t before) (of_those (set_of_bits ls []) before) (ap (λ d. of_those d before) (set_nothing ls)))

-- ---- a branch that may be taken

pub on_is : (a b : WaysOut) → GoesOn a ≡ GoesOn b → a ≡ b
on_is a b e = ap ways e
  where
    ways : WalkEnd WaysOut → WaysOut
    ways (FailsAt at place) = a
    ways (GoesOn x) = x

or_turned : (x y e : Bool) → (y || (e || x)) ≡ ((x || y) || e)
or_turned true true e = refl
or_turned true false true = refl
or_turned true false false = refl
or_turned false true e = refl
or_turned false false true = refl
or_turned false false false = refl

turned : (x y e : DirtySet) → united y (united e x) ≡ united (united x y) e
turned x y e = same_sets (united y (united e x)) (united (united x y) e) (λ at. or_turned (x at) (y at) (e at))

-- both ways go on
both_on_met : (w x y : WaysOut) (d ends : DirtySet)
    → GoesOn (record (ways_past (record (ways_past w x) { onward = d }) y) { onward = united y.onward (united ends x.onward) })
    ≡ meet_with ends (ways_past w (meeting x y))
both_on_met w x y d ends =
    ap (λ z. GoesOn z)
    (same_ways (united y.onward (united ends x.onward)) (united (united w.leaves x.leaves) y.leaves) (united (united w.continues x.continues) y.continues) (united (united w.returns x.returns) y.returns)
    (united (united x.onward y.onward) ends) (united w.leaves (united x.leaves y.leaves)) (united w.continues (united x.continues y.continues)) (united w.returns (united x.returns y.returns))
    (turned x.onward y.onward ends) (sym (united_next w.leaves x.leaves y.leaves)) (sym (united_next w.continues x.continues y.continues)) (sym (united_next w.returns x.returns y.returns)))

-- the branch goes on, and then the rest is walked
rest_met : (w x : WaysOut) (d : DirtySet) (off : WalkEnd WaysOut) (ends : DirtySet)
    → then_walk (then_walk off (λ y. GoesOn (ways_past (record (ways_past w x) { onward = d }) y))) (meet_with (united ends x.onward))
    ≡ then_walk (then_walk (both_ways (GoesOn x) off) (λ z. GoesOn (ways_past w z))) (meet_with ends)
rest_met w x d (FailsAt at place) ends = refl
rest_met w x d (GoesOn y) ends = both_on_met w x y d ends

-- a branch was walked, and the walk goes on with its rest from where no branch was taken
pub taken_met : (o : Option FailingRead) (w v : WaysOut) (d : DirtySet) (on off : WalkEnd WaysOut) (ends : DirtySet) → walk_ending o v ≡ then_walk on (λ y. GoesOn (ways_past w y))
    → then_walk (then_walk (walk_ending o (record v { onward = d })) (λ x. then_walk off (λ y. GoesOn (ways_past x y)))) (meet_with (united ends v.onward))
    ≡ then_walk (then_walk (both_ways on off) (λ z. GoesOn (ways_past w z))) (meet_with ends)
taken_met None w v d (FailsAt at place) off ends h = absurd cc
taken_met (Some f) w v d (FailsAt at place) off ends h = h
taken_met None w v d (GoesOn x) off ends h =
    ap (λ u. then_walk (then_walk off (λ y. GoesOn (ways_past (record u { onward = d }) y))) (meet_with (united ends u.onward))) (on_is v (ways_past w x) h) ∙ rest_met w x d off ends
taken_met (Some f) w v d (GoesOn x) off ends h = absurd cc

-- a branch that may be taken was walked, and the walk goes on behind it from where it stood
pub branch_met : (o p : Option FailingRead) (w v : WaysOut) (on off : DirtySet → WalkEnd WaysOut) (ends : DirtySet) → walk_ending p v ≡ then_walk (walk_ending o w) (past_by on)
    → then_walk (then_walk (walk_ending p (record v { onward = w.onward })) (past_by off)) (meet_with (united ends v.onward))
    ≡ then_walk (then_walk (walk_ending o w) (past_by (λ d. both_ways (on d) (off d)))) (meet_with ends)
branch_met None None w v on off ends h = taken_met None w v w.onward (on w.onward) (off w.onward) ends h
branch_met None (Some g) w v on off ends h = taken_met (Some g) w v w.onward (on w.onward) (off w.onward) ends h
branch_met (Some f) None w v on off ends h = absurd cc
branch_met (Some f) (Some g) w v on off ends h = h

-- the rest of the chain behind a branch that may be taken
pub unknown_branch : (ls : List Location) (s : WalkScope) (on : TypedStatement) (rest : ElsePart) (w v : RecordedWalk) (ends : List Bool)
    → told ls v ≡ walked_past (walk s on) (told ls w)
    → met (set_of_bits ls (either_on ends v.onward)) (walked_past (else_walk s rest) (told ls (record v { onward = w.onward })))
    ≡ met (set_of_bits ls ends) (walked_past (branch_walk s Unknown on rest) (told ls w))
unfolding told met walked_past
unknown_branch ls s on rest w v ends walked =
    same_tellings
    (λ before. then_walk (then_walk (walk_ending (first_failing ls before v.reads) (ways_recorded ls before (record v { onward = w.onward }))) (past_by (else_walk s rest))) (meet_with (of_those (set_of_bits ls (either_on ends v.onward)) before)))
    (λ before. then_walk (then_walk (walk_ending (first_failing ls before w.reads) (ways_recorded ls before w)) (past_by (branch_walk s Unknown on rest))) (meet_with (of_those (set_of_bits ls ends) before)))
    (λ before.
    let set : of_those (set_of_bits ls (either_on ends v.onward)) before ≡ united (of_those (set_of_bits ls ends) before) (of_those (set_of_bits ls v.onward) before) =
    ap (λ d. of_those d before) (set_either ls ends v.onward) ∙ those_united (set_of_bits ls ends) (set_of_bits ls v.onward) before in
    ap (λ d. then_walk (then_walk (walk_ending (first_failing ls before v.reads) (ways_recorded ls before (record v { onward = w.onward }))) (past_by (else_walk s rest))) (meet_with d)) set
    ∙ branch_met (first_failing ls before w.reads) (first_failing ls before v.reads) (ways_recorded ls before w) (ways_recorded ls before v) (walk s on) (else_walk s rest)
    (of_those (set_of_bits ls ends) before) (ap (λ t. t before) walked))

-- ---- the parts of a `select`

parted_is : (a b : PartedWays) → GoesOn a ≡ GoesOn b → a ≡ b
parted_is a b e = ap ways e
  where
    ways : WalkEnd PartedWays → PartedWays
    ways (FailsAt at place) = a
    ways (GoesOn x) = x

-- a part of a `select` and those that follow it
abbrev pub part_walk : (DirtySet → WalkEnd TestsEnd) → (on rest : DirtySet → WalkEnd WaysOut) → DirtySet → WalkEnd WaysOut
part_walk tests on rest d = then_walk (tests d) (λ x. both_ways (on x.holding) (rest x.failing))

-- past its statement the walk goes on from where no test holds
part_off : (q : Option FailingRead) (v : WaysOut) (failing : DirtySet) (rest : DirtySet → WalkEnd WaysOut) (others : DirtySet)
    → then_walk (then_walk (walk_ending q (record v { onward = failing })) (past_by rest)) (meet_with others)
    ≡ then_walk (then_walk (walk_ending q (record v { onward = failing })) (λ x. then_walk (rest failing) (λ y. GoesOn (ways_past x y)))) (meet_with others)
part_off None v failing rest others = refl
part_off (Some f) v failing rest others = refl

-- its tests go two ways
part_taken : (p q : Option FailingRead) (w u v : WaysOut) (holding : DirtySet) (y : TestsEnd) (on rest : DirtySet → WalkEnd WaysOut) (ends : DirtySet)
    → walk_ending {A = PartedWays} p (record { holding = holding; ways = u }) ≡ GoesOn (record { holding = y.holding; ways = record w { onward = y.failing } })
    → walk_ending q v ≡ then_walk (walk_ending p (record u { onward = holding })) (past_by on)
    → then_walk (then_walk (walk_ending q (record v { onward = u.onward })) (past_by rest)) (meet_with (united ends v.onward))
    ≡ then_walk (then_walk (both_ways (on y.holding) (rest y.failing)) (λ z. GoesOn (ways_past w z))) (meet_with ends)
part_taken (Some f) q w u v holding y on rest ends h k = absurd cc
part_taken None q w u v holding y on rest ends h k =
    let is = parted_is (record { holding = holding; ways = u }) (record { holding = y.holding; ways = record w { onward = y.failing } }) h in
    let walked : walk_ending q v ≡ then_walk (on y.holding) (λ z. GoesOn (ways_past w z)) = k ∙ ap (λ (x : PartedWays). then_walk (on x.holding) (λ z. GoesOn (ways_past x.ways z))) is in
    ap (λ (x : PartedWays). then_walk (then_walk (walk_ending q (record v { onward = x.ways.onward })) (past_by rest)) (meet_with (united ends v.onward))) is
    ∙ part_off q v y.failing rest (united ends v.onward) ∙ taken_met q w v y.failing (on y.holding) (rest y.failing) ends walked

part_tested : (p q : Option FailingRead) (w u v : WaysOut) (holding : DirtySet) (e : WalkEnd TestsEnd) (on rest : DirtySet → WalkEnd WaysOut) (ends : DirtySet)
    → walk_ending {A = PartedWays} p (record { holding = holding; ways = u }) ≡ then_walk e (λ y. GoesOn (record { holding = y.holding; ways = record w { onward = y.failing } }))
    → walk_ending q v ≡ then_walk (walk_ending p (record u { onward = holding })) (past_by on)
    → then_walk (then_walk (walk_ending q (record v { onward = u.onward })) (past_by rest)) (meet_with (united ends v.onward))
    ≡ then_walk (then_walk (then_walk e (λ x. both_ways (on x.holding) (rest x.failing))) (λ z. GoesOn (ways_past w z))) (meet_with ends)
part_tested None q w u v holding (FailsAt at place) on rest ends h k = absurd cc
part_tested (Some f) None w u v holding (FailsAt at place) on rest ends h k = absurd cc
part_tested (Some f) (Some g) w u v holding (FailsAt at place) on rest ends h k = k ∙ ap (λ e. then_walk e (λ x. GoesOn x.ways)) h
part_tested p q w u v holding (GoesOn y) on rest ends h k = part_taken p q w u v holding y on rest ends h k

-- a part was walked: its tests, its statement from where one of them holds, and the walk goes on from where none does
pub part_met : (o p q : Option FailingRead) (w u v : WaysOut) (holding : DirtySet) (tests : DirtySet → WalkEnd TestsEnd) (on rest : DirtySet → WalkEnd WaysOut) (ends : DirtySet)
    → walk_ending {A = PartedWays} p (record { holding = holding; ways = u }) ≡ then_walk (walk_ending o w) (parted_by tests)
    → walk_ending q v ≡ then_walk (walk_ending p (record u { onward = holding })) (past_by on)
    → then_walk (then_walk (walk_ending q (record v { onward = u.onward })) (past_by rest)) (meet_with (united ends v.onward))
    ≡ then_walk (then_walk (walk_ending o w) (past_by (part_walk tests on rest))) (meet_with ends)
part_met None p q w u v holding tests on rest ends h k = part_tested p q w u v holding (tests w.onward) on rest ends h k
part_met (Some f) None q w u v holding tests on rest ends h k = absurd cc
part_met (Some f) (Some g) None w u v holding tests on rest ends h k = absurd cc
part_met (Some f) (Some g) (Some r) w u v holding tests on rest ends h k = k ∙ ap (λ e. then_walk e (λ x. GoesOn x.ways)) h

pub part_walked : (ls : List Location) (a u v : RecordedWalk) (holding ends : List Bool) (tests : DirtySet → WalkEnd TestsEnd) (on rest : DirtySet → WalkEnd WaysOut)
    → told_parted ls u holding ≡ walked_to_parting tests (told ls a) → told ls v ≡ walked_past on (told ls (record u { onward = holding }))
    → met (set_of_bits ls (either_on ends v.onward)) (walked_past rest (told ls (record v { onward = u.onward }))) ≡ met (set_of_bits ls ends) (walked_past (part_walk tests on rest) (told ls a))
unfolding told met walked_past
part_walked ls a u v holding ends tests on rest h k =
    same_tellings
    (λ before. then_walk (then_walk (walk_ending (first_failing ls before v.reads) (ways_recorded ls before (record v { onward = u.onward }))) (past_by rest)) (meet_with (of_those (set_of_bits ls (either_on ends v.onward)) before)))
    (λ before. then_walk (then_walk (walk_ending (first_failing ls before a.reads) (ways_recorded ls before a)) (past_by (part_walk tests on rest))) (meet_with (of_those (set_of_bits ls ends) before)))
    (λ before.
    let set : of_those (set_of_bits ls (either_on ends v.onward)) before ≡ united (of_those (set_of_bits ls ends) before) (of_those (set_of_bits ls v.onward) before) =
    ap (λ d. of_those d before) (set_either ls ends v.onward) ∙ those_united (set_of_bits ls ends) (set_of_bits ls v.onward) before in
    ap (λ d. then_walk (then_walk (walk_ending (first_failing ls before v.reads) (ways_recorded ls before (record v { onward = u.onward }))) (past_by rest)) (meet_with d)) set
    ∙ part_met (first_failing ls before a.reads) (first_failing ls before u.reads) (first_failing ls before v.reads) (ways_recorded ls before a) (ways_recorded ls before u) (ways_recorded ls before v)
    (of_those (set_of_bits ls holding) before) tests on rest (of_those (set_of_bits ls ends) before) (ap (λ t. t before) h) (ap (λ t. t before) k))
