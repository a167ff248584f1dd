-- What the code records of parts of statements where ways part.
use Rattle.std.specs.Prelude.{◌≡◌, Bool, false, List, Option}
use Rattle.ds2_base.specs.declared.place.Place.{Place}
use Rattle.ds2_value.specs.declared.truth.Truth.{Truth}
use Rattle.ds2_meaning.specs.declared.location.Reference.{Reference}
use Rattle.ds2_meaning.specs.declared.readings.ByVariable.{ByVariable}
use Rattle.ds2_meaning.specs.Location.{Location}
use Rattle.ds2_meaning.specs.TypedExpression.{TypedExpression, TypedExpressions}
use Rattle.ds2_meaning.specs.TypedStatement.{TypedStatement, TypedStatements, TypedWhens}
use Rattle.ds2_locality.specs.Deeds.{variable_at}
use Rattle.ds2_locality.specs.Walk.{DirtySet, WalkEnd, GoesOn, then_walk, WaysOut, ways_past, united, past_loop, past_last_test, by_condition, TestsEnd, CallWalks, WalkScope, all_cleaned, walk_expression, walk_step, walk_tests, walk, walk_all, walk_whens}
use Rattle.ds2_recorded_walk.specs.declared.record.RecordedWalk.{RecordedWalk}
use Rattle.ds2_recorded_walk.specs.declared.branches.WalkedBranches.{WalkedBranches}
use Rattle.ds2_recorded_walk.specs.declared.walk_scope.RecordScope.{RecordScope}
use Rattle.ds2_deeds.specs.ElseParts.{ElsePart}
use Rattle.ds2_recorded_walk.specs.ElseWalks.{else_walk}
use Rattle.ds2_recorded_walk.specs.KnownFlags.{first_flags}
use Rattle.ds2_recorded_walk.specs.LocationBits.{set_of_bits}
use Rattle.ds2_recorded_walk.specs.RecordedWalks.{of_those, first_failing, walk_ending, ways_recorded, Telling, told, walked_on, walked_past}
use Rattle.ds2_recorded_walk.specs.RecordedStatements.{walk_scope, locations_of, TellsCalls, met, rest_walk, chain_rest}

-- ---- chains

-- a branch whose condition is decided so, and the else part behind it
abbrev pub branch_walk : WalkScope → Truth → TypedStatement → ElsePart → DirtySet → WalkEnd WaysOut
branch_walk s truth on rest dirty = by_condition truth (walk s on dirty) (else_walk s rest dirty)

-- a branch has been walked, so that what is left of the chain is its else part
pub record BranchWalked (s : RecordScope) (before after : RecordedWalk) (old new : WalkedBranches) (truth : Truth) (on : TypedStatement) : Type 0 where
  pub by : (rest : ElsePart) (calls : CallWalks) → TellsCalls s calls → old.is_decided ≡ false
      → chain_rest (walk_scope s calls) (locations_of s) new.ends new.is_decided rest (told (locations_of s) after)
      ≡ met (set_of_bits (locations_of s) old.ends) (walked_past (branch_walk (walk_scope s calls) truth on rest) (told (locations_of s) before))

-- a chain has been walked so far that this is left of that else part
pub record ArmsLeft (s : RecordScope) (before after : RecordedWalk) (old new : WalkedBranches) (left whole : ElsePart) : Type 0 where
  pub by : (calls : CallWalks) → TellsCalls s calls
      → chain_rest (walk_scope s calls) (locations_of s) new.ends new.is_decided left (told (locations_of s) after)
      ≡ chain_rest (walk_scope s calls) (locations_of s) old.ends old.is_decided whole (told (locations_of s) before)

-- the last else part has been walked, where it may be taken
pub record RestWalked (s : RecordScope) (before after : RecordedWalk) (is_decided : Bool) (rest : ElsePart) : Type 0 where
  pub by : (calls : CallWalks) → TellsCalls s calls
      → told (locations_of s) after ≡ rest_walk (walk_scope s calls) is_decided rest (told (locations_of s) before)

-- ---- tests

-- the ways out past tests: where one of them holds, and otherwise on
pub record PartedWays : Type 0 where
  pub holding : DirtySet
  pub ways : WaysOut

-- how walks part, each from the dirty set that was there before
abbrev pub PartedTelling : Type 0
PartedTelling = DirtySet → WalkEnd PartedWays

-- what a recorded walk tells that goes on where no test holds, with what is dirty where one does
abbrev pub told_parted : List Location → RecordedWalk → (holding : List Bool) → PartedTelling
told_parted locations w holding = λ before.
    walk_ending (first_failing locations before w.reads) (record { holding = of_those (set_of_bits locations holding) before; ways = ways_recorded locations before w })

-- past tests
abbrev pub parted_by : (DirtySet → WalkEnd TestsEnd) → WaysOut → WalkEnd PartedWays
parted_by go x = then_walk (go x.onward) (λ y. GoesOn (record { holding = y.holding; ways = record x { onward = y.failing } }))

-- walks that part at tests
abbrev pub walked_to_parting : (DirtySet → WalkEnd TestsEnd) → Telling → PartedTelling
walked_to_parting go t = λ before. then_walk (t before) (parted_by go)

-- the tests of a `when` have been walked, by these known flags
pub record TestsRecorded (s : RecordScope) (before after : RecordedWalk) (holding : List Bool) (known : List ByVariable) (tests : TypedExpressions) (place : Place) : Type 0 where
  pub by : (calls : CallWalks) → TellsCalls s calls
      → told_parted (locations_of s) after holding ≡ walked_to_parting (walk_tests (walk_scope s calls) (first_flags known) tests place) (told (locations_of s) before)

-- ---- the parts of a `select`

-- the parts of a `select` behind others on whose ways out these locations are dirty
abbrev pub whens_rest : WalkScope → List Location → (ends : List Bool) → List ByVariable → TypedWhens → Place → Telling → Telling
whens_rest s locations ends known rest place t = met (set_of_bits locations ends) (walked_past (walk_whens s (first_flags known) rest place) t)

-- a `select` has been walked so far that these parts are left of those
pub record WhensLeft (s : RecordScope) (before after : RecordedWalk) (old new : List Bool) (known : List ByVariable) (place : Place) (left whole : TypedWhens) : Type 0 where
  pub by : (calls : CallWalks) → TellsCalls s calls
      → whens_rest (walk_scope s calls) (locations_of s) new known left place (told (locations_of s) after)
      ≡ whens_rest (walk_scope s calls) (locations_of s) old known whole place (told (locations_of s) before)

-- ---- loops

-- the head of a counted loop: its bounds, its step, and its variable is made clean
abbrev pub count_head : Place → Reference → (start end : TypedExpression) → (step : Option TypedExpression) → WalkScope → DirtySet → WalkEnd DirtySet
count_head place variable start end step s dirty =
    then_walk (walk_expression s start place dirty) (λ x. then_walk (walk_expression s end place x) (λ y.
    then_walk (walk_step s step place y) (λ z. GoesOn (all_cleaned (variable_at s.code.home variable) z))))

-- past the body of a loop that has these locations dirty at its head
abbrev pub loop_by : WalkScope → TypedStatements → (head : DirtySet) → WaysOut → WalkEnd WaysOut
loop_by s body head x = then_walk (walk_all s body x.onward) (λ ways. GoesOn (ways_past x (past_loop head ways)))

-- the body of a loop has been walked that has these locations dirty at its head
pub record LoopWalked (s : RecordScope) (before after : RecordedWalk) (head : List Bool) (body : TypedStatements) : Type 0 where
  pub by : (calls : CallWalks) → TellsCalls s calls
      → told (locations_of s) after
      ≡ (λ dirty. then_walk (told (locations_of s) before dirty) (loop_by (walk_scope s calls) body (of_those (set_of_bits (locations_of s) head) dirty)))

-- past the body of a loop that tests behind it: the test, where the ways to the next round meet, and then the ways that left the loop
abbrev pub tested_behind : (DirtySet → WalkEnd DirtySet) → WaysOut → WalkEnd WaysOut
tested_behind test ways = then_walk (test (united ways.onward ways.continues)) (λ tested. GoesOn (past_last_test ways tested))

-- the body of such a loop has been walked, so that what is left is its test, and then to meet the ways that left the loop
pub record UntilWalked (s : RecordScope) (before after : RecordedWalk) (left : List Bool) (body : TypedStatements) : Type 0 where
  pub by : (calls : CallWalks) → TellsCalls s calls → (test : DirtySet → WalkEnd DirtySet)
      → met (set_of_bits (locations_of s) left) (walked_on test (told (locations_of s) after))
      ≡ walked_past (λ dirty. then_walk (walk_all (walk_scope s calls) body dirty) (tested_behind test)) (told (locations_of s) before)
