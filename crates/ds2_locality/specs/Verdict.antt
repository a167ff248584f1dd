-- The verdict on a thread program: whether its groups may be spread over workers, the finest grain at which they may, or why and where not.
use Rattle.std.specs.List.{list_any, filter, range_with_len}
use Rattle.std.specs.Prelude.{◌≡◌, ℕ, zero, suc, ◌<◌, ◌≤◌, ◌⊎◌, ◌==◌, nat_lt, Bool, ◌&&◌, ◌||◌, if◌then◌else◌, List, [], ◌∷◌, ◌++◌, length, map, flat_map, slice_get, Option, Some, None}
use Rattle.ds2_base.specs.declared.place.Place.{Place}
use Rattle.ds2_layout.specs.Layout.{program_slots, location_of_slot}
use Rattle.ds2_meaning.specs.declared.hashes.DeclaredHash.{DeclaredHash}
use Rattle.ds2_meaning.specs.declared.hashes.DeclaredIterator.{DeclaredIterator}
use Rattle.ds2_meaning.specs.declared.location.Global.{Global}
use Rattle.ds2_meaning.specs.HashObjects.{DeclaredObjects, hash_named, iterator_named, object_at}
use Rattle.ds2_meaning.specs.Location.{Home, Location}
use Rattle.ds2_meaning.specs.Method.{MethodTree}
use Rattle.ds2_meaning.specs.ProgramMeaning.{global_name}
use Rattle.ds2_meaning.specs.ProgramTree.{InstanceTree, UnitTree, methods_of, objects_of, program_has_output}
use Rattle.ds2_meaning.specs.Reading.{bys_of}
use Rattle.ds2_meaning.specs.TypedStatement.{TypedStatements, Finish, Next}
use Rattle.ds2_locality.specs.declared.locality.Reason.{Reason}
use Rattle.ds2_locality.specs.declared.locality.Reason.TheVariants.{TermHasStatements, InitWrites, Reads}
use Rattle.ds2_locality.specs.declared.locality.Verdict.{Verdict}
use Rattle.ds2_locality.specs.declared.locality.Verdict.TheVariants.{Local, NotLocal}
use Rattle.ds2_locality.specs.Deeds.{MethodAt, is_among_methods, system_scope, method_scope, Deed, WriteAt, method_deeds, may_be_called, with_callees, number_of_methods, init_deeds, mentions_location, columns_written, run_can_change}
use Rattle.ds2_locality.specs.KeptLocations.{is_kept, bys_from, is_first_of_by, is_flag_before}
use Rattle.ds2_locality.specs.Walk.{DirtySet, no_flag, united, WalkEnd, FailsAt, GoesOn, then_walk, read_locations, WaysOut, at_end, CallWalks, walk_all, WalkScope}

-- ---- what is judged

-- a thread program, with what its tree does not tell: the places of the names of `run` and `term`, and its hash objects and then its
-- iterators in the order of their declarations, those of an instance at the place of the instance's declaration
pub record JudgedThread : Type 0 where
  pub program : UnitTree
  pub run_place : Place
  pub term_place : Place
  pub objects : List Location

-- where the hash objects of a home are kept
abbrev pub hashes_kept_at : Home → DeclaredObjects → List Location
hashes_kept_at home objects = map (λ (h : DeclaredHash). object_at home h.name) objects.hashes

-- where the iterators of a home are kept
abbrev pub iterators_kept_at : Home → DeclaredObjects → List Location
iterators_kept_at home objects = map (λ (i : DeclaredIterator). object_at home i.name) objects.iterators

-- the hash objects and then the iterators of a program whose instances are declared behind its own ones
abbrev pub own_objects_first : UnitTree → List Location
own_objects_first p =
    hashes_kept_at None p.objects ++ flat_map (λ (i : InstanceTree). hashes_kept_at (Some i.name) i.objects) p.instances
    ++ iterators_kept_at None p.objects ++ flat_map (λ (i : InstanceTree). iterators_kept_at (Some i.name) i.objects) p.instances

-- where the own hash object or iterator of a name is kept, where there is one
abbrev pub own_object_at : {A : Type 0} → List ℕ → Option A → List Location
own_object_at name None = []
own_object_at name (Some x) = object_at None name ∷ []

-- the hash objects that the declaration of a name brings: the own one of the name, and those of the instance of the name
abbrev pub hashes_brought : UnitTree → List ℕ → List Location
hashes_brought p name = own_object_at name (hash_named p.objects.hashes name) ++ hashes_kept_at (Some name) (objects_of p (Some name))

-- the iterators that the declaration of a name brings
abbrev pub iterators_brought : UnitTree → List ℕ → List Location
iterators_brought p name = own_object_at name (iterator_named p.objects.iterators name) ++ iterators_kept_at (Some name) (objects_of p (Some name))

-- the hash objects and then the iterators of a program whose declarations have these names, in order; behind them those that no name brings
abbrev pub objects_in_order : List (List ℕ) → UnitTree → List Location
objects_in_order names p = flat_map (hashes_brought p) names ++ flat_map (iterators_brought p) names ++ own_objects_first p

-- the locations of a thread program in the order in which a method on a cycle of calls reads them: variables by their slots, then hash
-- objects, then iterators
abbrev pub locations_in_order : JudgedThread → List Location
locations_in_order t = map location_of_slot (program_slots t.program) ++ t.objects

-- ---- calls

-- a method is on a cycle of calls: it is among the methods that it may call
abbrev pub is_on_cycle : UnitTree → MethodAt → Bool
is_on_cycle p m = is_among_methods m (may_be_called p (method_deeds p m))

-- what a method on a cycle reads: all that it and the methods that it may call mention
abbrev pub read_on_cycle : JudgedThread → MethodAt → List Location
read_on_cycle t m =
    let deeds = with_callees t.program (method_deeds t.program m) in filter (λ at. list_any (mentions_location at) deeds) (locations_in_order t)

-- past the body of a method, where all its ways out meet; a failing read is told at the place of the call
abbrev pub past_body : Place → WalkEnd WaysOut → WalkEnd DirtySet
past_body place (FailsAt at inner) = FailsAt at place
past_body place (GoesOn ways) = GoesOn (at_end ways)

module _ (t : JudgedThread) (known : Location → Bool) where
  -- a method of a home that is on no cycle is walked as its body; parameters and locals are no locations
  abbrev pub walk_body : CallWalks → Home → Option MethodTree → Place → DirtySet → WalkEnd DirtySet
  walk_body calls home None place dirty = GoesOn dirty
  walk_body calls home (Some method) place dirty =
      past_body place (walk_all (record { code = method_scope t.program home; calls = calls; known = known }) method.body dirty)

  -- a method, in calls so many deep: one on a cycle reads all that the cycle mentions, and cleans nothing. Where no method is on a cycle,
  -- calls are never deeper than there are methods
  abbrev pub walk_method : ℕ → CallWalks
  walk_method zero m place dirty = read_locations place (read_on_cycle t m) dirty
  walk_method (suc n) m place dirty =
      if is_on_cycle t.program m then read_locations place (read_on_cycle t m) dirty
      else walk_body (walk_method n) m.home (slice_get (methods_of t.program m.home) m.number) place dirty

-- ---- the two walks

-- a cell: what `run` can change and no load sets, and `run` does not set to null
abbrev pub is_cell : UnitTree → Location → Bool
is_cell p at = is_kept p at && run_can_change p at

-- the end of `run`: an implicit output reads every column that it writes, at the place of `run`'s name
abbrev pub past_run : JudgedThread → DirtySet → WalkEnd DirtySet
past_run t dirty =
    if program_has_output t.program then GoesOn dirty
    else read_locations t.run_place (columns_written (system_scope t.program) (range_with_len 0 (length t.program.outputs))) dirty

-- the walk over `run` with these flags known, from this dirty set on
abbrev pub walk_run : JudgedThread → (Location → Bool) → DirtySet → WalkEnd DirtySet
walk_run t known dirty =
    let p = t.program in
    let scope : WalkScope = record { code = system_scope p; calls = walk_method t known (number_of_methods p); known = known } in
    then_walk (walk_all scope p.run.statements dirty) (λ ways. past_run t (at_end ways))

-- in the first walk of a grain `first.v` is known to be 1 for the BY variable at the grain and the later ones
abbrev pub known_first : JudgedThread → ℕ → Location → Bool
known_first t grain at = is_first_of_by (bys_from grain t.program.reading) at.home at.global

-- the first walk: at the first load of a group every cell is dirty, and so are the flags of BY variables before the grain
abbrev pub first_walk : JudgedThread → ℕ → WalkEnd DirtySet
first_walk t grain = walk_run t (known_first t grain) (united (is_cell t.program) (is_flag_before grain t.program.reading))

-- the second walk: at a later load of the group no flag is known, and dirty are the cells that the first walk leaves dirty on some way to
-- its end, and again the flags before the grain
abbrev pub second_walk : JudgedThread → ℕ → DirtySet → WalkEnd DirtySet
second_walk t grain left = walk_run t no_flag (united left (is_flag_before grain t.program.reading))

-- ---- the rules

-- why a thread program is not local, and where that stands
pub record Ground : Type 0 where
  pub reason : Reason
  pub place : Place

-- the name that is given for a global of a home: its own, or that of the instance whose it is
abbrev pub name_given : Home → Global → List ℕ
name_given None global = global_name global
name_given (Some instance) global = instance

-- the ground of a walk that fails
abbrev pub ground_of_walk : WalkEnd DirtySet → Option Ground
ground_of_walk (FailsAt at place) = Some (record { reason = Reads (name_given at.home at.global); place = place })
ground_of_walk (GoesOn dirty) = None

-- why the rules on walks do not hold at a grain: the read at which the first walk fails, else that at which the second one does
abbrev pub ground_at : JudgedThread → ℕ → Option Ground
ground_at t grain = ground_of_walk (then_walk (first_walk t grain) (second_walk t grain))

-- `term` has no statement
abbrev pub ground_of_term : Place → TypedStatements → Option Ground
ground_of_term place Finish = None
ground_of_term place (Next first rest) = Some (record { reason = TermHasStatements; place = place })

-- one place stands before another one in the source
abbrev pub stands_before : Place → Place → Bool
stands_before a b = nat_lt a.line b.line || (a.line == b.line && nat_lt a.column b.column)

-- the earlier one of a place and of one among others
abbrev pub earlier_place : Place → Option Place → Place
earlier_place place None = place
earlier_place place (Some other) = if stands_before other place then other else place

-- the earliest place at which deeds write a row or a line
abbrev pub first_write : List Deed → Option Place
first_write [] = None
first_write (WriteAt place ∷ deeds) = Some (earlier_place place (first_write deeds))
first_write (_ ∷ deeds) = first_write deeds

-- `init`, the constructors and the methods that they may call write nothing
abbrev pub ground_of_init : Option Place → Option Ground
ground_of_init None = None
ground_of_init (Some place) = Some (record { reason = InitWrites; place = place })

-- the first of two grounds
abbrev pub first_ground : Option Ground → Option Ground → Option Ground
first_ground None later = later
first_ground (Some g) later = Some g

-- why the rule on `init` and `term` does not hold
abbrev pub ground_outside_run : JudgedThread → Option Ground
ground_outside_run t =
    first_ground (ground_of_term t.term_place t.program.term.statements) (ground_of_init (first_write (init_deeds t.program)))

-- ---- the grain and the verdict

-- the verdict at the coarsest grain, which is tried last
abbrev pub at_coarsest : ℕ → Option Ground → Verdict
at_coarsest grain None = Local grain
at_coarsest grain (Some g) = NotLocal g.reason g.place

-- the verdict at a grain where the rules hold there, else the one at coarser grains
abbrev pub or_coarser : ℕ → Option Ground → Verdict → Verdict
or_coarser grain None coarser = Local grain
or_coarser grain (Some g) coarser = coarser

-- the greatest grain up to a number of BY variables at which these rules hold, down to 1, and without BY variables 0; where they hold at
-- none, the ground at the coarsest
abbrev pub at_finest : (ℕ → Option Ground) → ℕ → Verdict
at_finest tried zero = at_coarsest zero (tried zero)
at_finest tried (suc zero) = at_coarsest (suc zero) (tried (suc zero))
at_finest tried (suc (suc n)) = or_coarser (suc (suc n)) (tried (suc (suc n))) (at_finest tried (suc n))

-- the verdict where the rule on `init` and `term` holds, else its ground
abbrev pub unless_grounded : Option Ground → Verdict → Verdict
unless_grounded None v = v
unless_grounded (Some g) v = NotLocal g.reason g.place

-- the verdict on a thread program
abbrev pub verdict_of : JudgedThread → Verdict
verdict_of t = unless_grounded (ground_outside_run t) (at_finest (ground_at t) (length (bys_of t.program.reading)))

-- ---- laws

-- the coarsest grain that is tried with so many BY variables
abbrev pub coarsest : ℕ → ℕ
coarsest zero = zero
coarsest (suc n) = suc zero

-- a grain is the greatest one at which the rules on walks hold
pub record IsGreatestGrain (t : JudgedThread) (grain : ℕ) : Type 0 where
  pub holds : ground_at t grain ≡ None
  pub some : coarsest (length (bys_of t.program.reading)) ≤ grain
  pub few : grain ≤ length (bys_of t.program.reading)
  pub none_finer : (finer : ℕ) → grain < finer → finer ≤ length (bys_of t.program.reading) → ground_at t finer ≡ None → ⊥

-- where a thread program is local at a grain, the rule on `init` and `term` holds, and the grain is the greatest one at which those on walks do
abbrev pub LocalIsGreatest : Type 0
LocalIsGreatest = (t : JudgedThread) (grain : ℕ) → verdict_of t ≡ Local grain → (ground_outside_run t ≡ None) × IsGreatestGrain t grain

-- a thread program that is not local breaks the rule on `init` and `term`, and has its ground, or it breaks those on walks at each grain, and
-- has their ground at the coarsest
abbrev pub NotLocalIsGrounded : Type 0
NotLocalIsGrounded = (t : JudgedThread) (reason : Reason) (place : Place) → verdict_of t ≡ NotLocal reason place
    → (ground_outside_run t ≡ Some (record { reason = reason; place = place }))
    ⊎ ((ground_outside_run t ≡ None)
    × (ground_at t (coarsest (length (bys_of t.program.reading))) ≡ Some (record { reason = reason; place = place }))
    × ((grain : ℕ) → coarsest (length (bys_of t.program.reading)) ≤ grain → grain ≤ length (bys_of t.program.reading) → ground_at t grain ≡ None → ⊥))

-- where the rules on walks hold at a grain, they hold at each coarser one
abbrev pub CoarserHolds : Type 0
CoarserHolds = (t : JudgedThread) (grain coarser : ℕ) → coarser ≤ grain → ground_at t grain ≡ None → ground_at t coarser ≡ None
