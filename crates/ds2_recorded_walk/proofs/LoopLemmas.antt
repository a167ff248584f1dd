-- Walks past loops, and out of them.
use Rattle.std.proofs.Common.{◌≡◌, Bool, List, [], Option, Some, None, refl, sym, ap, ◌∙◌}
use Rattle.ds2_meaning.specs.Location.{Location}
use Rattle.ds2_meaning.specs.TypedStatement.{TypedStatements}
use Rattle.ds2_locality.specs.Walk.{DirtySet, nothing_dirty, united, WalkEnd, FailsAt, GoesOn, then_walk, WaysOut, no_way, ways_past, past_loop, past_last_test, WalkScope, walk_all}
use Rattle.ds2_recorded_walk.specs.declared.record.RecordedWalk.{RecordedWalk}
use Rattle.ds2_recorded_walk.specs.LocationBits.{either_on, set_of_bits}
use Rattle.ds2_recorded_walk.specs.RecordedParts.{loop_by}
use Rattle.ds2_recorded_walk.specs.RecordedStatements.{met}
use Rattle.ds2_recorded_walk.specs.RecordedWalks.{of_those, FailingRead, first_failing, walk_ending, ways_recorded, told, onward_by, past_by, walked_on, walked_past}
use Rattle.ds2_recorded_walk.proofs.BitLemmas.{set_either, set_nothing, those_united}
use Rattle.ds2_recorded_walk.proofs.BranchLemmas.{meet_with, on_is}
use Rattle.ds2_recorded_walk.proofs.WalkLemmas.{then_after, same_tellings, same_ways, ways_of, with_nothing}

-- ---- ways out

-- what is recorded on the ways out, of its four parts
those_either : (ls : List Location) (a b : List Bool) (before : DirtySet)
    → of_those (set_of_bits ls (either_on a b)) before ≡ united (of_those (set_of_bits ls a) before) (of_those (set_of_bits ls b) before)
those_either ls a b before = ap (λ d. of_those d before) (set_either ls a b) ∙ those_united (set_of_bits ls a) (set_of_bits ls b) before

those_none : (ls : List Location) (before : DirtySet) → of_those (set_of_bits ls []) before ≡ nothing_dirty
those_none ls before = ap (λ d. of_those d before) (set_nothing ls)

past_out : (o : Option FailingRead) (w v : WaysOut) (go : DirtySet → WaysOut) → v ≡ ways_past w (go w.onward) → walk_ending o v ≡ then_walk (walk_ending o w) (past_by (λ d. GoesOn (go d)))
past_out None w v go e = ap (λ x. GoesOn x) e
past_out (Some f) w v go e = refl

pub told_left : (ls : List Location) (w : RecordedWalk)
    → told ls (record w { onward = []; leaves = either_on w.leaves w.onward }) ≡ walked_past (λ d. GoesOn (record no_way { leaves = d })) (told ls w)
unfolding told walked_past
told_left ls w =
    same_tellings (λ before. walk_ending (first_failing ls before w.reads) (ways_recorded ls before (record w { onward = []; leaves = either_on w.leaves w.onward })))
    (λ before. then_walk (walk_ending (first_failing ls before w.reads) (ways_recorded ls before w)) (past_by (λ d. GoesOn (record no_way { leaves = d }))))
    (λ before.
    let x = ways_recorded ls before w in
    past_out (first_failing ls before w.reads) x (ways_recorded ls before (record w { onward = []; leaves = either_on w.leaves w.onward })) (λ d. record no_way { leaves = d })
    (same_ways (of_those (set_of_bits ls []) before) (of_those (set_of_bits ls (either_on w.leaves w.onward)) before) x.continues x.returns
    nothing_dirty (united x.leaves x.onward) (united x.continues nothing_dirty) (united x.returns nothing_dirty)
    (those_none ls before) (those_either ls w.leaves w.onward before) (sym (with_nothing x.continues)) (sym (with_nothing x.returns))))

pub told_continued : (ls : List Location) (w : RecordedWalk)
    → told ls (record w { onward = []; continues = either_on w.continues w.onward }) ≡ walked_past (λ d. GoesOn (record no_way { continues = d })) (told ls w)
unfolding told walked_past
told_continued ls w =
    same_tellings (λ before. walk_ending (first_failing ls before w.reads) (ways_recorded ls before (record w { onward = []; continues = either_on w.continues w.onward })))
    (λ before. then_walk (walk_ending (first_failing ls before w.reads) (ways_recorded ls before w)) (past_by (λ d. GoesOn (record no_way { continues = d }))))
    (λ before.
    let x = ways_recorded ls before w in
    past_out (first_failing ls before w.reads) x (ways_recorded ls before (record w { onward = []; continues = either_on w.continues w.onward })) (λ d. record no_way { continues = d })
    (same_ways (of_those (set_of_bits ls []) before) x.leaves (of_those (set_of_bits ls (either_on w.continues w.onward)) before) x.returns
    nothing_dirty (united x.leaves nothing_dirty) (united x.continues x.onward) (united x.returns nothing_dirty)
    (those_none ls before) (sym (with_nothing x.leaves)) (those_either ls w.continues w.onward before) (sym (with_nothing x.returns))))

pub told_returned : (ls : List Location) (w : RecordedWalk)
    → told ls (record w { onward = []; returns = either_on w.returns w.onward }) ≡ walked_past (λ d. GoesOn (record no_way { returns = d })) (told ls w)
unfolding told walked_past
told_returned ls w =
    same_tellings (λ before. walk_ending (first_failing ls before w.reads) (ways_recorded ls before (record w { onward = []; returns = either_on w.returns w.onward })))
    (λ before. then_walk (walk_ending (first_failing ls before w.reads) (ways_recorded ls before w)) (past_by (λ d. GoesOn (record no_way { returns = d }))))
    (λ before.
    let x = ways_recorded ls before w in
    past_out (first_failing ls before w.reads) x (ways_recorded ls before (record w { onward = []; returns = either_on w.returns w.onward })) (λ d. record no_way { returns = d })
    (same_ways (of_those (set_of_bits ls []) before) x.leaves x.continues (of_those (set_of_bits ls (either_on w.returns w.onward)) before)
    nothing_dirty (united x.leaves nothing_dirty) (united x.continues nothing_dirty) (united x.returns x.onward)
    (those_none ls before) (sym (with_nothing x.leaves)) (sym (with_nothing x.continues)) (those_either ls w.returns w.onward before)))

-- no way goes on
pub told_ended : (ls : List Location) (w : RecordedWalk) → told ls (record w { onward = [] }) ≡ walked_past (λ d. GoesOn no_way) (told ls w)
unfolding told walked_past
told_ended ls w =
    same_tellings (λ before. walk_ending (first_failing ls before w.reads) (ways_recorded ls before (record w { onward = [] })))
    (λ before. then_walk (walk_ending (first_failing ls before w.reads) (ways_recorded ls before w)) (past_by (λ d. GoesOn no_way)))
    (λ before.
    let x = ways_recorded ls before w in
    past_out (first_failing ls before w.reads) x (ways_recorded ls before (record w { onward = [] })) (λ d. no_way)
    (same_ways (of_those (set_of_bits ls []) before) x.leaves x.continues x.returns nothing_dirty (united x.leaves nothing_dirty) (united x.continues nothing_dirty) (united x.returns nothing_dirty)
    (those_none ls before) (sym (with_nothing x.leaves)) (sym (with_nothing x.continues)) (sym (with_nothing x.returns))))

-- ---- loops that test before their body

-- ways of which none leaves the innermost loop or goes to its next round
abbrev pub within_loop : WaysOut → WaysOut
within_loop w = record w { leaves = nothing_dirty; continues = nothing_dirty }

looped : (o : Option FailingRead) (w v : WaysOut) (e : WalkEnd WaysOut) (head : DirtySet) → walk_ending o v ≡ then_walk e (λ y. GoesOn (ways_past (within_loop w) y))
    → walk_ending o (record v { onward = head; leaves = w.leaves; continues = w.continues }) ≡ then_walk e (λ ways. GoesOn (ways_past w (past_loop head ways)))
looped None w v (FailsAt at place) head h = absurd cc
looped (Some f) w v (FailsAt at place) head h = h
looped None w v (GoesOn x) head h =
    ap (λ (u : WaysOut). GoesOn (record u { onward = head; leaves = w.leaves; continues = w.continues })) (on_is v (ways_past (within_loop w) x) h)
    ∙ ap (λ z. GoesOn z)
    (same_ways head w.leaves w.continues (united w.returns x.returns) head (united w.leaves nothing_dirty) (united w.continues nothing_dirty) (united w.returns x.returns)
    refl (sym (with_nothing w.leaves)) (sym (with_nothing w.continues)) refl)
looped (Some f) w v (GoesOn x) head h = absurd cc

loop_ended : (o p : Option FailingRead) (w v : WaysOut) (go : DirtySet → WalkEnd WaysOut) (head : DirtySet) → walk_ending p v ≡ then_walk (walk_ending o (within_loop w)) (past_by go)
    → walk_ending p (record v { onward = head; leaves = w.leaves; continues = w.continues }) ≡ then_walk (walk_ending o w) (λ x. then_walk (go x.onward) (λ ways. GoesOn (ways_past x (past_loop head ways))))
loop_ended None p w v go head h = looped p w v (go w.onward) head h
loop_ended (Some f) None w v go head h = absurd cc
loop_ended (Some f) (Some g) w v go head h = h

within_told : (ls : List Location) (w : RecordedWalk) (before : DirtySet) → ways_recorded ls before (record w { leaves = []; continues = [] }) ≡ within_loop (ways_recorded ls before w)
within_told ls w before =
    let x = ways_recorded ls before w in
    same_ways x.onward (of_those (set_of_bits ls []) before) (of_those (set_of_bits ls []) before) x.returns x.onward nothing_dirty nothing_dirty x.returns
    refl (those_none ls before) (those_none ls before) refl

-- the body of a loop was walked from its head on
pub told_loop : (ls : List Location) (s : WalkScope) (body : TypedStatements) (w v : RecordedWalk) (head : List Bool) → told ls v ≡ walked_past (walk_all s body) (told ls (record w { leaves = []; continues = [] }))
    → told ls (record v { onward = head; leaves = w.leaves; continues = w.continues }) ≡ (λ before. then_walk (told ls w before) (loop_by s body (of_those (set_of_bits ls head) before)))
unfolding told walked_past
told_loop ls s body w v head walked =
    same_tellings
    (λ before. walk_ending (first_failing ls before v.reads) (ways_recorded ls before (record v { onward = head; leaves = w.leaves; continues = w.continues })))
    (λ before. then_walk (walk_ending (first_failing ls before w.reads) (ways_recorded ls before w)) (loop_by s body (of_those (set_of_bits ls head) before)))
    (λ before.
    loop_ended (first_failing ls before w.reads) (first_failing ls before v.reads) (ways_recorded ls before w) (ways_recorded ls before v) (walk_all s body) (of_those (set_of_bits ls head) before)
    (ap (λ t. t before) walked ∙ ap (λ x. then_walk (walk_ending (first_failing ls before w.reads) x) (past_by (walk_all s body))) (within_told ls w before)))

-- past the body, where the way on stood at the head
from_head : (o : Option FailingRead) (x : WaysOut) (go : DirtySet → WalkEnd WaysOut) (head : DirtySet) → head ≡ x.onward
    → then_walk (walk_ending o x) (λ y. then_walk (go y.onward) (λ ways. GoesOn (ways_past y (past_loop head ways)))) ≡ then_walk (walk_ending o x) (past_by (λ d. then_walk (go d) (λ ways. GoesOn (past_loop d ways))))
from_head None x go head h =
    ap (λ d. then_walk (go x.onward) (λ ways. GoesOn (ways_past x (past_loop d ways)))) h
    ∙ sym (then_after (go x.onward) (λ ways. GoesOn (past_loop x.onward ways)) (λ z. GoesOn (ways_past x z)))
from_head (Some f) x go head h = refl

pub head_loop : (ls : List Location) (go : DirtySet → WalkEnd WaysOut) (w : RecordedWalk) (head : List Bool) → head ≡ w.onward
    → (λ before. then_walk (told ls w before) (λ y. then_walk (go y.onward) (λ ways. GoesOn (ways_past y (past_loop (of_those (set_of_bits ls head) before) ways)))))
    ≡ walked_past (λ d. then_walk (go d) (λ ways. GoesOn (past_loop d ways))) (told ls w)
unfolding told walked_past
head_loop ls go w head is =
    same_tellings
    (λ before. then_walk (walk_ending (first_failing ls before w.reads) (ways_recorded ls before w)) (λ y. then_walk (go y.onward) (λ ways. GoesOn (ways_past y (past_loop (of_those (set_of_bits ls head) before) ways)))))
    (λ before. then_walk (walk_ending (first_failing ls before w.reads) (ways_recorded ls before w)) (past_by (λ d. then_walk (go d) (λ ways. GoesOn (past_loop d ways)))))
    (λ before. from_head (first_failing ls before w.reads) (ways_recorded ls before w) go (of_those (set_of_bits ls head) before) (ap (λ b. of_those (set_of_bits ls b) before) is))

-- the same, where the test stands between the head and the body
tested_head : (x : WaysOut) (e : WalkEnd DirtySet) (go : DirtySet → WalkEnd WaysOut)
    → then_walk (then_walk e (λ y. GoesOn (record x { onward = y }))) (λ z. then_walk (go z.onward) (λ ways. GoesOn (ways_past z (past_loop x.onward ways))))
    ≡ then_walk (then_walk e (λ y. then_walk (go y) (λ ways. GoesOn (past_loop x.onward ways)))) (λ z. GoesOn (ways_past x z))
tested_head x (FailsAt at place) go = refl
tested_head x (GoesOn y) go = sym (then_after (go y) (λ ways. GoesOn (past_loop x.onward ways)) (λ z. GoesOn (ways_past x z)))

from_test : (o : Option FailingRead) (x : WaysOut) (test : DirtySet → WalkEnd DirtySet) (go : DirtySet → WalkEnd WaysOut) (head : DirtySet) → head ≡ x.onward
    → then_walk (then_walk (walk_ending o x) (onward_by test)) (λ z. then_walk (go z.onward) (λ ways. GoesOn (ways_past z (past_loop head ways))))
    ≡ then_walk (walk_ending o x) (past_by (λ d. then_walk (test d) (λ y. then_walk (go y) (λ ways. GoesOn (past_loop d ways)))))
from_test None x test go head h =
    ap (λ d. then_walk (then_walk (test x.onward) (λ y. GoesOn (record x { onward = y }))) (λ z. then_walk (go z.onward) (λ ways. GoesOn (ways_past z (past_loop d ways))))) h ∙ tested_head x (test x.onward) go
from_test (Some f) x test go head h = refl

pub test_loop : (ls : List Location) (test : DirtySet → WalkEnd DirtySet) (go : DirtySet → WalkEnd WaysOut) (w : RecordedWalk) (head : List Bool) → head ≡ w.onward
    → (λ before. then_walk (walked_on test (told ls w) before) (λ z. then_walk (go z.onward) (λ ways. GoesOn (ways_past z (past_loop (of_those (set_of_bits ls head) before) ways)))))
    ≡ walked_past (λ d. then_walk (test d) (λ y. then_walk (go y) (λ ways. GoesOn (past_loop d ways)))) (told ls w)
unfolding told walked_on walked_past
test_loop ls test go w head is =
    same_tellings
    (λ before. then_walk (then_walk (walk_ending (first_failing ls before w.reads) (ways_recorded ls before w)) (onward_by test)) (λ z. then_walk (go z.onward) (λ ways. GoesOn (ways_past z (past_loop (of_those (set_of_bits ls head) before) ways)))))
    (λ before. then_walk (walk_ending (first_failing ls before w.reads) (ways_recorded ls before w)) (past_by (λ d. then_walk (test d) (λ y. then_walk (go y) (λ ways. GoesOn (past_loop d ways))))))
    (λ before. from_test (first_failing ls before w.reads) (ways_recorded ls before w) test go (of_those (set_of_bits ls head) before) (ap (λ b. of_those (set_of_bits ls b) before) is))

-- ---- loops that test behind their body

-- the test of a loop behind its body
abbrev pub last_test : (DirtySet → WalkEnd WaysOut) → (DirtySet → WalkEnd DirtySet) → DirtySet → WalkEnd WaysOut
last_test go test d = then_walk (go d) (λ ways. then_walk (test (united ways.onward ways.continues)) (λ tested. GoesOn (past_last_test ways tested)))

tested : (w x : WaysOut) (e : WalkEnd DirtySet)
    → then_walk (then_walk e (λ y. GoesOn (ways_of y w.leaves w.continues (united w.returns x.returns)))) (meet_with x.leaves)
    ≡ then_walk (then_walk e (λ y. GoesOn (past_last_test x y))) (λ z. GoesOn (ways_past w z))
tested w x (FailsAt at place) = refl
tested w x (GoesOn y) =
    ap (λ z. GoesOn z)
    (same_ways (united y x.leaves) w.leaves w.continues (united w.returns x.returns) (united y x.leaves) (united w.leaves nothing_dirty) (united w.continues nothing_dirty) (united w.returns x.returns)
    refl (sym (with_nothing w.leaves)) (sym (with_nothing w.continues)) refl)

-- the way past the body of such a loop, with those to its next round, then past its test, and with those that left it
abbrev pub past_test_of : (DirtySet → WalkEnd DirtySet) → WaysOut → WaysOut → WalkEnd WaysOut
past_test_of test w v = then_walk (onward_by test (record v { onward = united v.onward v.continues; leaves = w.leaves; continues = w.continues })) (meet_with v.leaves)

until_tested : (o : Option FailingRead) (w v : WaysOut) (e : WalkEnd WaysOut) (test : DirtySet → WalkEnd DirtySet) → walk_ending o v ≡ then_walk e (λ y. GoesOn (ways_past (within_loop w) y))
    → then_walk (walk_ending o v) (past_test_of test w) ≡ then_walk (then_walk e (λ ways. then_walk (test (united ways.onward ways.continues)) (λ y. GoesOn (past_last_test ways y)))) (λ z. GoesOn (ways_past w z))
until_tested None w v (FailsAt at place) test h = absurd cc
until_tested (Some f) w v (FailsAt at place) test h = h
until_tested None w v (GoesOn x) test h = ap (λ u. past_test_of test w u) (on_is v (ways_past (within_loop w) x) h) ∙ tested w x (test (united x.onward x.continues))
until_tested (Some f) w v (GoesOn x) test h = absurd cc

pub until_ended : (o p : Option FailingRead) (w v : WaysOut) (go : DirtySet → WalkEnd WaysOut) (test : DirtySet → WalkEnd DirtySet) → walk_ending p v ≡ then_walk (walk_ending o (within_loop w)) (past_by go)
    → then_walk (walk_ending p v) (past_test_of test w) ≡ then_walk (walk_ending o w) (past_by (last_test go test))
until_ended None p w v go test h = until_tested p w v (go w.onward) test h
until_ended (Some f) None w v go test h = absurd cc
until_ended (Some f) (Some g) w v go test h = h

-- the way past the body meets those to the next round, the test is walked, and the ways that left the loop meet
until_from : (o : Option FailingRead) (v m w : WaysOut) (test : DirtySet → WalkEnd DirtySet) → m ≡ record v { onward = united v.onward v.continues; leaves = w.leaves; continues = w.continues }
    → then_walk (then_walk (walk_ending o m) (onward_by test)) (meet_with v.leaves) ≡ then_walk (walk_ending o v) (past_test_of test w)
until_from None v m w test h = ap (λ (x : WaysOut). then_walk (onward_by test x) (meet_with v.leaves)) h
until_from (Some f) v m w test h = refl

pub told_until : (ls : List Location) (w v : RecordedWalk) (go : DirtySet → WalkEnd WaysOut) (test : DirtySet → WalkEnd DirtySet) → told ls v ≡ walked_past go (told ls (record w { leaves = []; continues = [] }))
    → met (set_of_bits ls v.leaves) (walked_on test (told ls (record v { onward = either_on v.onward v.continues; leaves = w.leaves; continues = w.continues }))) ≡ walked_past (last_test go test) (told ls w)
unfolding told met walked_on walked_past
told_until ls w v go test walked =
    same_tellings
    (λ before.
    then_walk (then_walk (walk_ending (first_failing ls before v.reads) (ways_recorded ls before (record v { onward = either_on v.onward v.continues; leaves = w.leaves; continues = w.continues }))) (onward_by test))
    (meet_with (of_those (set_of_bits ls v.leaves) before)))
    (λ before. then_walk (walk_ending (first_failing ls before w.reads) (ways_recorded ls before w)) (past_by (last_test go test)))
    (λ before.
    let x = ways_recorded ls before v in
    let y = ways_recorded ls before w in
    until_from (first_failing ls before v.reads) x (ways_recorded ls before (record v { onward = either_on v.onward v.continues; leaves = w.leaves; continues = w.continues })) y test
    (same_ways (of_those (set_of_bits ls (either_on v.onward v.continues)) before) y.leaves y.continues x.returns (united x.onward x.continues) y.leaves y.continues x.returns
    (those_either ls v.onward v.continues before) refl refl refl)
    ∙ until_ended (first_failing ls before w.reads) (first_failing ls before v.reads) y x go test
    (ap (λ t. t before) walked ∙ ap (λ z. then_walk (walk_ending (first_failing ls before w.reads) z) (past_by go)) (within_told ls w before)))
