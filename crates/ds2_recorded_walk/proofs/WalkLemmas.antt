-- Recorded walks that go on.
use Rattle.std.proofs.Common.{◌≡◌, Bool, true, false, refl, sym, ap, ◌∙◌}
use Rattle.std.specs.Prelude.{◌||◌}
use Rattle.ds2_meaning.specs.Location.{Location}
use Rattle.ds2_locality.specs.Walk.{DirtySet, nothing_dirty, united, WalkEnd, FailsAt, GoesOn, then_walk, WaysOut, way_on, ways_past}
use Rattle.ds2_recorded_walk.specs.RecordedWalks.{Telling, onward_by, past_by, walked_on, walked_past}

-- ---- walks one after the other

pub then_after : {A B C : Type 0} (e : WalkEnd A) (f : A → WalkEnd B) (g : B → WalkEnd C) → then_walk (then_walk e f) g ≡ then_walk e (λ x. then_walk (f x) g)
then_after (FailsAt at place) f g = refl
then_after (GoesOn x) f g = refl

pub then_same : {A B : Type 0} (e : WalkEnd A) (f g : A → WalkEnd B) → ((x : A) → f x ≡ g x) → then_walk e f ≡ then_walk e g
then_same (FailsAt at place) f g h = refl
then_same (GoesOn x) f g h = h x

pub then_goes_on : {A : Type 0} (e : WalkEnd A) → then_walk e (λ x. GoesOn x) ≡ e
then_goes_on (FailsAt at place) = refl
then_goes_on (GoesOn x) = refl

pub same_tellings : (s t : Telling) → ((before : DirtySet) → s before ≡ t before) → s ≡ t
same_tellings s t h = λ i before. h before i

pub same_sets : (a b : DirtySet) → ((at : Location) → a at ≡ b at) → a ≡ b
same_sets a b h = λ i at. h at i

-- ---- sets

or_nothing : (a : Bool) → (a || false) ≡ a
or_nothing true = refl
or_nothing false = refl

or_next : (a b c : Bool) → (a || (b || c)) ≡ ((a || b) || c)
or_next true b c = refl
or_next false b c = refl

or_other : (a b : Bool) → (a || b) ≡ (b || a)
or_other true true = refl
or_other true false = refl
or_other false true = refl
or_other false false = refl

pub with_nothing : (d : DirtySet) → united d nothing_dirty ≡ d
with_nothing d = same_sets (united d nothing_dirty) d (λ at. or_nothing (d at))

pub united_next : (a b c : DirtySet) → united a (united b c) ≡ united (united a b) c
united_next a b c = same_sets (united a (united b c)) (united (united a b) c) (λ at. or_next (a at) (b at) (c at))

pub united_other : (a b : DirtySet) → united a b ≡ united b a
united_other a b = same_sets (united a b) (united b a) (λ at. or_other (a at) (b at))

-- ways out, of their four parts
abbrev pub ways_of : DirtySet → DirtySet → DirtySet → DirtySet → WaysOut
ways_of onward leaves continues returns = record { onward = onward; leaves = leaves; continues = continues; returns = returns }

pub same_ways : (a b c d e f g h : DirtySet) → a ≡ e → b ≡ f → c ≡ g → d ≡ h → ways_of a b c d ≡ ways_of e f g h
same_ways a b c d e f g h p q r s = ap (λ x. ways_of x b c d) p ∙ ap (λ x. ways_of e x c d) q ∙ ap (λ x. ways_of e f x d) r ∙ ap (λ x. ways_of e f g x) s

pub ways_on : (x : WaysOut) (d : DirtySet) → ways_past x (way_on d) ≡ record x { onward = d }
ways_on x d =
    same_ways d (united x.leaves nothing_dirty) (united x.continues nothing_dirty) (united x.returns nothing_dirty) d x.leaves x.continues x.returns refl
    (with_nothing x.leaves) (with_nothing x.continues) (with_nothing x.returns)

pub ways_next : (x y z : WaysOut) → ways_past x (ways_past y z) ≡ ways_past (ways_past x y) z
ways_next x y z =
    same_ways z.onward (united x.leaves (united y.leaves z.leaves)) (united x.continues (united y.continues z.continues)) (united x.returns (united y.returns z.returns))
    z.onward (united (united x.leaves y.leaves) z.leaves) (united (united x.continues y.continues) z.continues) (united (united x.returns y.returns) z.returns) refl
    (united_next x.leaves y.leaves z.leaves) (united_next x.continues y.continues z.continues) (united_next x.returns y.returns z.returns)

-- ---- a part after the other

pub nothing_walked : (t : Telling) → walked_on (λ d. GoesOn d) t ≡ t
unfolding walked_on
nothing_walked t = same_tellings (λ before. then_walk (t before) (onward_by (λ d. GoesOn d))) t (λ before. then_goes_on (t before))

onward_twice : (e : WalkEnd DirtySet) (g : DirtySet → WalkEnd DirtySet) (x : WaysOut)
    → then_walk (then_walk e g) (λ y. GoesOn (record x { onward = y })) ≡ then_walk (then_walk e (λ y. GoesOn (record x { onward = y }))) (onward_by g)
onward_twice (FailsAt at place) g x = refl
onward_twice (GoesOn y) g x = refl

pub walked_twice : (f g : DirtySet → WalkEnd DirtySet) (t : Telling) → walked_on (λ d. then_walk (f d) g) t ≡ walked_on g (walked_on f t)
unfolding walked_on
walked_twice f g t =
    same_tellings (λ before. then_walk (t before) (onward_by (λ d. then_walk (f d) g))) (λ before. then_walk (then_walk (t before) (onward_by f)) (onward_by g))
    (λ before. then_same (t before) (onward_by (λ d. then_walk (f d) g)) (λ x. then_walk (onward_by f x) (onward_by g)) (λ x. onward_twice (f x.onward) g x)
    ∙ sym (then_after (t before) (onward_by f) (onward_by g)))

past_onward : (e : WalkEnd DirtySet) (x : WaysOut) → then_walk (then_walk e (λ y. GoesOn (way_on y))) (λ z. GoesOn (ways_past x z)) ≡ then_walk e (λ y. GoesOn (record x { onward = y }))
past_onward (FailsAt at place) x = refl
past_onward (GoesOn y) x = ap (λ w. GoesOn w) (ways_on x y)

-- a statement that only goes on
pub passed_on : (f : DirtySet → WalkEnd DirtySet) (t : Telling) → walked_past (λ d. then_walk (f d) (λ x. GoesOn (way_on x))) t ≡ walked_on f t
unfolding walked_on walked_past
passed_on f t =
    same_tellings (λ before. then_walk (t before) (past_by (λ d. then_walk (f d) (λ x. GoesOn (way_on x))))) (λ before. then_walk (t before) (onward_by f))
    (λ before. then_same (t before) (past_by (λ d. then_walk (f d) (λ x. GoesOn (way_on x)))) (onward_by f) (λ x. past_onward (f x.onward) x))

pub nothing_passed : (t : Telling) → walked_past (λ d. GoesOn (way_on d)) t ≡ t
nothing_passed t = passed_on (λ d. GoesOn d) t ∙ nothing_walked t

past_then : (e : WalkEnd DirtySet) (g : DirtySet → WalkEnd WaysOut) (x : WaysOut)
    → then_walk (then_walk e g) (λ z. GoesOn (ways_past x z)) ≡ then_walk (then_walk e (λ y. GoesOn (record x { onward = y }))) (past_by g)
past_then (FailsAt at place) g x = refl
past_then (GoesOn y) g x = refl

-- a statement that begins with a part
pub passed_then : (f : DirtySet → WalkEnd DirtySet) (g : DirtySet → WalkEnd WaysOut) (t : Telling) → walked_past (λ d. then_walk (f d) g) t ≡ walked_past g (walked_on f t)
unfolding walked_on walked_past
passed_then f g t =
    same_tellings (λ before. then_walk (t before) (past_by (λ d. then_walk (f d) g))) (λ before. then_walk (then_walk (t before) (onward_by f)) (past_by g))
    (λ before. then_same (t before) (past_by (λ d. then_walk (f d) g)) (λ x. then_walk (onward_by f x) (past_by g)) (λ x. past_then (f x.onward) g x)
    ∙ sym (then_after (t before) (onward_by f) (past_by g)))

past_last : (x y : WaysOut) (e : WalkEnd WaysOut) → then_walk (then_walk e (λ z. GoesOn (ways_past y z))) (λ z. GoesOn (ways_past x z)) ≡ then_walk e (λ z. GoesOn (ways_past (ways_past x y) z))
past_last x y (FailsAt at place) = refl
past_last x y (GoesOn z) = ap (λ w. GoesOn w) (ways_next x y z)

past_next : (e : WalkEnd WaysOut) (g : DirtySet → WalkEnd WaysOut) (x : WaysOut)
    → then_walk (then_walk e (λ y. then_walk (g y.onward) (λ z. GoesOn (ways_past y z)))) (λ z. GoesOn (ways_past x z)) ≡ then_walk (then_walk e (λ y. GoesOn (ways_past x y))) (past_by g)
past_next (FailsAt at place) g x = refl
past_next (GoesOn y) g x = past_last x y (g y.onward)

-- a statement and those that follow it
pub passed_next : (f g : DirtySet → WalkEnd WaysOut) (t : Telling)
    → walked_past (λ d. then_walk (f d) (λ x. then_walk (g x.onward) (λ y. GoesOn (ways_past x y)))) t ≡ walked_past g (walked_past f t)
unfolding walked_past
passed_next f g t =
    same_tellings (λ before. then_walk (t before) (past_by (λ d. then_walk (f d) (λ x. then_walk (g x.onward) (λ y. GoesOn (ways_past x y)))))) (λ before. then_walk (then_walk (t before) (past_by f)) (past_by g))
    (λ before. then_same (t before) (past_by (λ d. then_walk (f d) (λ x. then_walk (g x.onward) (λ y. GoesOn (ways_past x y))))) (λ x. then_walk (past_by f x) (past_by g)) (λ x. past_next (f x.onward) g x)
    ∙ sym (then_after (t before) (past_by f) (past_by g)))
