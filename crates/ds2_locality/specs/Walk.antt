-- The walk over the statements of `run`, in order of evaluation, with the set of locations that are dirty: it fails at the first read of
-- a dirty one.
use Rattle.std.specs.Prelude.{ℕ, Bool, false, ◌||◌, if◌then◌else◌, List, [], ◌∷◌, ◌++◌, Option, Some, None}
use Rattle.ds2_base.specs.declared.place.Place.{Place}
use Rattle.ds2_value.specs.Value.{and_of, or_of, not_of}
use Rattle.ds2_value.specs.declared.hash_function.HashFunction.{HashFunction}
use Rattle.ds2_value.specs.declared.hash_function.HashFunction.TheVariants as hash
use Rattle.ds2_value.specs.declared.truth.Truth.{Truth}
use Rattle.ds2_value.specs.declared.truth.Truth.TheVariants.{Yes, No, Unknown}
use Rattle.ds2_meaning.specs.declared.expressions.Operation.{Operation}
use Rattle.ds2_meaning.specs.declared.expressions.Operation.TheVariants as operation
use Rattle.ds2_meaning.specs.declared.expressions.Prefix.TheVariants as prefix
use Rattle.ds2_meaning.specs.declared.hashes.DeclaredHash.{DeclaredHash}
use Rattle.ds2_meaning.specs.declared.hashes.DeclaredIterator.{DeclaredIterator}
use Rattle.ds2_meaning.specs.declared.location.Reference.{Reference}
use Rattle.ds2_meaning.specs.declared.location.Reference.TheVariants.{At, Local}
use Rattle.ds2_meaning.specs.Evaluation.{callee_home}
use Rattle.ds2_meaning.specs.HashObjects.{hash_named, iterator_named, object_at}
use Rattle.ds2_meaning.specs.Location.{Home, Location, is_same_location}
use Rattle.ds2_meaning.specs.TypedExpression.{TypedExpression, Constant, Variable, Widen, Convert, Prefixed, Chain, Compared, Applied, Called, HashCalled, IteratorCalled, Links, NoLink, Link, TypedExpressions, NoExpression, Then, TypedArguments, NoArgument, ByValue, InOut}
use Rattle.ds2_meaning.specs.TypedStatement.{TypedStatement, Empty, Assign, Invoke, Evaluate, SetParameters, ParameterValue, Construct, Leave, Continue, Return, ReturnValue, Output, Put, If, IfElse, Select, SelectValue, Block, Count, While, Until, TypedStatements, Finish, Next, TypedWhens, NoOtherwise, Otherwise, When, Item, Text, Shown, Labelled}
use Rattle.ds2_locality.specs.Deeds.{MethodAt, CodeScope, global_at, variable_at, variables_at, iterators_over, columns_written}

-- ---- sets of locations

-- which locations are dirty: two runs may hold different things there
abbrev pub DirtySet : Type 0
DirtySet = Location → Bool

-- no location is dirty
abbrev pub nothing_dirty : DirtySet
nothing_dirty at = false

-- what is said to be dirty where no way comes: no location, so that it adds nothing where ways meet
abbrev pub no_way_comes : DirtySet
no_way_comes = nothing_dirty

-- no flag is known to be 1
abbrev pub no_flag : Location → Bool
no_flag at = false

-- where ways meet, the union of their dirty sets
abbrev pub united : DirtySet → DirtySet → DirtySet
united a b = λ at. a at || b at

-- a location is clean, and every other one as before
abbrev pub cleaned : Location → DirtySet → DirtySet
cleaned at dirty = λ other. if is_same_location other at then false else dirty other

-- likewise several locations
abbrev pub all_cleaned : List Location → DirtySet → DirtySet
all_cleaned [] dirty = dirty
all_cleaned (at ∷ more) dirty = all_cleaned more (cleaned at dirty)

-- ---- how a walk ends

-- how a walk ends: at the first read of a dirty location, in the statement at this place, or past what it walks, with what is dirty there
pub data WalkEnd (A : Type 0) : Type 0 where
  FailsAt : Location → Place → WalkEnd A
  GoesOn : A → WalkEnd A

-- goes on with what is dirty past the first part
abbrev pub then_walk : {A B : Type 0} → WalkEnd A → (A → WalkEnd B) → WalkEnd B
then_walk (FailsAt at place) go = FailsAt at place
then_walk (GoesOn dirty) go = go dirty

-- a read of a location in the statement at this place
abbrev pub read_location : Place → Location → DirtySet → WalkEnd DirtySet
read_location place at dirty = if dirty at then FailsAt at place else GoesOn dirty

-- reads of several locations, in order
abbrev pub read_locations : Place → List Location → DirtySet → WalkEnd DirtySet
read_locations place [] dirty = GoesOn dirty
read_locations place (at ∷ more) dirty = then_walk (read_location place at dirty) (read_locations place more)

-- what is dirty on the ways out of a statement: on to the next one, out of the innermost loop by `leave`, to its next round by
-- `continue`, and out of the method by `return`
pub record WaysOut : Type 0 where
  pub onward : DirtySet
  pub leaves : DirtySet
  pub continues : DirtySet
  pub returns : DirtySet

-- no way out
abbrev pub no_way : WaysOut
no_way = record { onward = no_way_comes; leaves = no_way_comes; continues = no_way_comes; returns = no_way_comes }

-- the one way to the next statement
abbrev pub way_on : DirtySet → WaysOut
way_on dirty = record no_way { onward = dirty }

-- ways that meet, of each kind
abbrev pub meeting : WaysOut → WaysOut → WaysOut
meeting x y = record {
  onward = united x.onward y.onward;
  leaves = united x.leaves y.leaves;
  continues = united x.continues y.continues;
  returns = united x.returns y.returns;
}

-- the ways out of a statement, and then out of those that follow it
abbrev pub ways_past : WaysOut → WaysOut → WaysOut
ways_past x y = record (meeting x y) { onward = y.onward }

-- the ways out of a loop that has this dirty at its head, from those out of its body: behind it the head's set stands
abbrev pub past_loop : DirtySet → WaysOut → WaysOut
past_loop head body = record { onward = head; leaves = no_way_comes; continues = no_way_comes; returns = body.returns }

-- the ways out of a loop that tests behind its body: past the test, and by `leave`
abbrev pub past_last_test : WaysOut → DirtySet → WaysOut
past_last_test body tested = record { onward = united tested body.leaves; leaves = no_way_comes; continues = no_way_comes; returns = body.returns }

-- what is dirty on any way out of a method's body
abbrev pub at_end : WaysOut → DirtySet
at_end x = united x.onward (united x.returns (united x.leaves x.continues))

-- ---- conditions

-- what an `and` or an `or` of two conditions is decided as; no other operation is decided
abbrev pub decided_by : Operation → Truth → Truth → Truth
decided_by operation.And a b = and_of a b
decided_by operation.Or a b = or_of a b
decided_by _ a b = Unknown

-- a known flag is 1
abbrev pub decided_flag : DirtySet → Home → Reference → Truth
decided_flag known home (At global) = if known (global_at home global) then Yes else Unknown
decided_flag known home (Local name) = Unknown

module _ (known : Location → Bool) (home : Home) where
  abbrev mutual
    -- what a condition is decided as by the flags that are known to be 1: through `not`, `and` and `or` alone
    pub decided : TypedExpression → Truth
    decided (Variable variable ty) = decided_flag known home variable
    decided (Prefixed prefix.Not e ty) = not_of (decided e)
    decided (Chain first links) = decided_links (decided first) links
    decided _ = Unknown

    -- likewise a chain, from what its operands up to here are decided as; a value that is widened is not decided
    pub decided_links : Truth → Links → Truth
    decided_links a NoLink = a
    decided_links a (Link widens operation operand ty rest) = decided_links (decided_by operation (if widens then Unknown else a) (decided operand)) rest

-- both ways from an undecided condition, and they meet behind it
abbrev pub both_ways : WalkEnd WaysOut → WalkEnd WaysOut → WalkEnd WaysOut
both_ways on off = then_walk on (λ x. then_walk off (λ y. GoesOn (meeting x y)))

-- of a decided condition its way alone, and of another one both
abbrev pub by_condition : Truth → WalkEnd WaysOut → WalkEnd WaysOut → WalkEnd WaysOut
by_condition Yes on off = on
by_condition No on off = off
by_condition Unknown on off = both_ways on off

-- what is dirty where one of the tests of a `when` holds, and where none does
pub record TestsEnd : Type 0 where
  pub holding : DirtySet
  pub failing : DirtySet

-- a test holds: no way comes past it
abbrev pub test_holds : DirtySet → TestsEnd
test_holds dirty = record { holding = dirty; failing = no_way_comes }

-- no test is left: no way comes from here to the statement
abbrev pub no_test_left : DirtySet → TestsEnd
no_test_left dirty = record { holding = no_way_comes; failing = dirty }

-- a test may hold, or one of the later tests, or none
abbrev pub may_hold : DirtySet → TestsEnd → TestsEnd
may_hold dirty later = record { holding = united dirty later.holding; failing = later.failing }

-- past a test of a `when`: one that is decided to hold ends the tests, one that is decided not to leaves the later ones, and an
-- undecided one may hold
abbrev pub past_test : Truth → DirtySet → (later : DirtySet → WalkEnd TestsEnd) → WalkEnd TestsEnd
past_test Yes dirty later = GoesOn (test_holds dirty)
past_test No dirty later = later dirty
past_test Unknown dirty later = then_walk (later dirty) (λ x. GoesOn (may_hold dirty x))

-- ---- calls of hash objects and iterators

-- what a call of a hash object reads: `find`, `check` and `remove` the hash object and its key variables, `add` and `replace` the data
-- variables too, `num_items` the hash object, `clear` nothing
abbrev pub read_by_hash : Home → HashFunction → DeclaredHash → List Location
read_by_hash home hash.Find h = object_at home h.name ∷ variables_at home h.key_variables
read_by_hash home hash.Check h = object_at home h.name ∷ variables_at home h.key_variables
read_by_hash home hash.Remove h = object_at home h.name ∷ variables_at home h.key_variables
read_by_hash home hash.Add h = object_at home h.name ∷ (variables_at home h.key_variables ++ variables_at home h.data_variables)
read_by_hash home hash.Replace h = object_at home h.name ∷ (variables_at home h.key_variables ++ variables_at home h.data_variables)
read_by_hash home hash.NumItems h = object_at home h.name ∷ []
read_by_hash home hash.Clear h = []

-- what a call of a hash object cleans: `clear` the hash object and its iterators, and no other call anything
abbrev pub cleaned_by_hash : Home → List DeclaredIterator → HashFunction → DeclaredHash → List Location
cleaned_by_hash home iterators hash.Clear h = object_at home h.name ∷ iterators_over home iterators h.name
cleaned_by_hash home iterators _ h = []

-- a call of a hash object
abbrev pub walk_hash_call : CodeScope → HashFunction → Option DeclaredHash → Place → DirtySet → WalkEnd DirtySet
walk_hash_call c f None place dirty = GoesOn dirty
walk_hash_call c f (Some h) place dirty =
    then_walk (read_locations place (read_by_hash c.home f h) dirty) (λ x. GoesOn (all_cleaned (cleaned_by_hash c.home c.objects.iterators f h) x))

-- a call of an iterator reads it and its hash object
abbrev pub walk_iterator_call : CodeScope → Option DeclaredIterator → Place → DirtySet → WalkEnd DirtySet
walk_iterator_call c None place dirty = GoesOn dirty
walk_iterator_call c (Some i) place dirty = read_locations place (object_at c.home i.name ∷ object_at c.home i.hash ∷ []) dirty

-- ---- statements

-- the walk of calls: a method that is called in the statement at this place
abbrev pub CallWalks : Type 0
CallWalks = MethodAt → Place → DirtySet → WalkEnd DirtySet

-- what a walk finds around a statement: whose code it is, the walk of calls, and the flags that are known to be 1
pub record WalkScope : Type 0 where
  pub code : CodeScope
  pub calls : CallWalks
  pub known : Location → Bool

module _ (s : WalkScope) where
  abbrev mutual
    -- an expression: a variable is read, operands are walked from the left, a call after its arguments
    pub walk_expression : TypedExpression → Place → DirtySet → WalkEnd DirtySet
    walk_expression (Constant v ty) place dirty = GoesOn dirty
    walk_expression (Variable variable ty) place dirty = read_locations place (variable_at s.code.home variable) dirty
    walk_expression (Widen e) place dirty = walk_expression e place dirty
    walk_expression (Convert e ty) place dirty = walk_expression e place dirty
    walk_expression (Prefixed p e ty) place dirty = walk_expression e place dirty
    walk_expression (Chain first links) place dirty = then_walk (walk_expression first place dirty) (walk_links links place)
    walk_expression (Compared comparison left right) place dirty = then_walk (walk_expression left place dirty) (walk_expression right place)
    walk_expression (Applied function arguments ty) place dirty = walk_expressions arguments place dirty
    walk_expression (Called instance method arguments ty) place dirty =
        then_walk (walk_arguments arguments place dirty) (s.calls (record { home = callee_home s.code.home instance; number = method }) place)
    walk_expression (HashCalled h f) place dirty = walk_hash_call s.code f (hash_named s.code.objects.hashes h) place dirty
    walk_expression (IteratorCalled i f) place dirty = walk_iterator_call s.code (iterator_named s.code.objects.iterators i) place dirty

    -- the further operands of a chain
    pub walk_links : Links → Place → DirtySet → WalkEnd DirtySet
    walk_links NoLink place dirty = GoesOn dirty
    walk_links (Link widens operation operand ty rest) place dirty = then_walk (walk_expression operand place dirty) (walk_links rest place)

    -- several expressions
    pub walk_expressions : TypedExpressions → Place → DirtySet → WalkEnd DirtySet
    walk_expressions NoExpression place dirty = GoesOn dirty
    walk_expressions (Then e rest) place dirty = then_walk (walk_expression e place dirty) (walk_expressions rest place)

    -- arguments: a variable that is handed in and out is read where it stands
    pub walk_arguments : TypedArguments → Place → DirtySet → WalkEnd DirtySet
    walk_arguments NoArgument place dirty = GoesOn dirty
    walk_arguments (ByValue e rest) place dirty = then_walk (walk_expression e place dirty) (walk_arguments rest place)
    walk_arguments (InOut variable rest) place dirty = then_walk (read_locations place (variable_at s.code.home variable) dirty) (walk_arguments rest place)

  -- a call: its arguments, and then the method
  abbrev pub walk_call : Option (List ℕ) → ℕ → TypedArguments → Place → DirtySet → WalkEnd DirtySet
  walk_call instance method arguments place dirty =
      then_walk (walk_arguments arguments place dirty) (s.calls (record { home = callee_home s.code.home instance; number = method }) place)

  -- the call of a constructor, where there is one
  abbrev pub walk_constructor : List ℕ → Option ℕ → TypedArguments → Place → DirtySet → WalkEnd DirtySet
  walk_constructor instance None arguments place dirty = GoesOn dirty
  walk_constructor instance (Some method) arguments place dirty = walk_call (Some instance) method arguments place dirty

  -- values for the parameters of a thread program
  abbrev pub walk_values : List ParameterValue → Place → DirtySet → WalkEnd DirtySet
  walk_values [] place dirty = GoesOn dirty
  walk_values (p ∷ ps) place dirty = then_walk (walk_expression p.value place dirty) (walk_values ps place)

  -- the items of a line
  abbrev pub walk_items : List Item → Place → DirtySet → WalkEnd DirtySet
  walk_items [] place dirty = GoesOn dirty
  walk_items (Text t ∷ items) place dirty = walk_items items place dirty
  walk_items (Shown e ∷ items) place dirty = then_walk (walk_expression e place dirty) (walk_items items place)
  walk_items (Labelled name e ∷ items) place dirty = then_walk (walk_expression e place dirty) (walk_items items place)

  -- the step of a counted loop, where there is one
  abbrev pub walk_step : Option TypedExpression → Place → DirtySet → WalkEnd DirtySet
  walk_step None place dirty = GoesOn dirty
  walk_step (Some e) place dirty = walk_expression e place dirty

  -- the tests of a `when`, in order: each is evaluated, and decided by the flags that are known to be 1
  abbrev pub walk_tests : (known : Location → Bool) → TypedExpressions → Place → DirtySet → WalkEnd TestsEnd
  walk_tests known NoExpression place dirty = GoesOn (no_test_left dirty)
  walk_tests known (Then test later) place dirty =
      then_walk (walk_expression test place dirty) (λ x. past_test (decided known s.code.home test) x (walk_tests known later place))

  abbrev mutual
    -- a statement
    pub walk : TypedStatement → DirtySet → WalkEnd WaysOut
    walk (Empty place) dirty = GoesOn (way_on dirty)
    walk (Assign place variable e) dirty = then_walk (walk_expression e place dirty) (λ x. GoesOn (way_on (all_cleaned (variable_at s.code.home variable) x)))
    walk (Invoke place instance method arguments) dirty = then_walk (walk_call instance method arguments place dirty) (λ x. GoesOn (way_on x))
    walk (Evaluate place e) dirty = then_walk (walk_expression e place dirty) (λ x. GoesOn (way_on x))
    walk (SetParameters place instance values) dirty = then_walk (walk_values values place dirty) (λ x. GoesOn (way_on x))
    walk (Construct place instance method arguments) dirty = then_walk (walk_constructor instance method arguments place dirty) (λ x. GoesOn (way_on x))
    walk (Leave place) dirty = GoesOn (record no_way { leaves = dirty })
    walk (Continue place) dirty = GoesOn (record no_way { continues = dirty })
    walk (Return place) dirty = GoesOn (record no_way { returns = dirty })
    walk (ReturnValue place e) dirty = then_walk (walk_expression e place dirty) (λ x. GoesOn (record no_way { returns = x }))
    walk (Output place numbers) dirty = then_walk (read_locations place (columns_written s.code numbers) dirty) (λ x. GoesOn (way_on x))
    walk (Put place items) dirty = then_walk (walk_items items place dirty) (λ x. GoesOn (way_on x))
    walk (If place condition on) dirty =
        then_walk (walk_expression condition place dirty) (λ x. by_condition (decided s.known s.code.home condition) (walk on x) (GoesOn (way_on x)))
    walk (IfElse place condition on off) dirty =
        then_walk (walk_expression condition place dirty) (λ x. by_condition (decided s.known s.code.home condition) (walk on x) (walk off x))
    walk (Select place whens) dirty = walk_whens s.known whens place dirty
    walk (SelectValue place e whens) dirty = then_walk (walk_expression e place dirty) (walk_whens no_flag whens place)
    walk (Block place body) dirty = walk_all body dirty
    walk (Count place variable start end step body) dirty =
        then_walk (walk_expression start place dirty) (λ x. then_walk (walk_expression end place x) (λ y. then_walk (walk_step step place y) (λ z.
        let head = all_cleaned (variable_at s.code.home variable) z in then_walk (walk_all body head) (λ ways. GoesOn (past_loop head ways)))))
    walk (While place condition body) dirty =
        then_walk (walk_expression condition place dirty) (λ x. then_walk (walk_all body x) (λ ways. GoesOn (past_loop dirty ways)))
    walk (Until place condition body) dirty =
        then_walk (walk_all body dirty) (λ ways.
        then_walk (walk_expression condition place (united ways.onward ways.continues)) (λ tested. GoesOn (past_last_test ways tested)))

    -- statements one after the other
    pub walk_all : TypedStatements → DirtySet → WalkEnd WaysOut
    walk_all Finish dirty = GoesOn (way_on dirty)
    walk_all (Next first rest) dirty = then_walk (walk first dirty) (λ x. then_walk (walk_all rest x.onward) (λ y. GoesOn (ways_past x y)))

    -- the parts of a `select`, in order: the tests of a `when`, then its statement where one holds, and the later parts where none does;
    -- past the last part no way goes on where there is no `otherwise`. In a `select (e)` the tests are values, which no flag decides
    pub walk_whens : (known : Location → Bool) → TypedWhens → Place → DirtySet → WalkEnd WaysOut
    walk_whens known NoOtherwise place dirty = GoesOn no_way
    walk_whens known (Otherwise statement) place dirty = walk statement dirty
    walk_whens known (When tests statement later) place dirty =
        then_walk (walk_tests known tests place dirty) (λ x. both_ways (walk statement x.holding) (walk_whens known later place x.failing))
