-- Where the code of a program keeps what it names.
use Rattle.std.specs.Prelude.{ℕ, suc, ◌+◌, nat_le, nat_lt, Bool, false, not, ◌&&◌, ◌||◌, bytes_eq, if◌then◌else◌, List, [], ◌∷◌, ◌++◌, length, map, flat_map, filter, Option, Some, None}
use Rattle.std.specs.Option.{option_map}
use Rattle.ds2_meaning.specs.declared.globals.Variable.{Variable}
use Rattle.ds2_meaning.specs.declared.hashes.DeclaredHash.{DeclaredHash}
use Rattle.ds2_meaning.specs.declared.hashes.DeclaredIterator.{DeclaredIterator}
use Rattle.ds2_meaning.specs.declared.hashes.ThreadInstance.{ThreadInstance}
use Rattle.ds2_meaning.specs.declared.location.Global.TheVariants.{Parameter as ParameterNamed}
use Rattle.ds2_meaning.specs.declared.methods.Parameter.{Parameter}
use Rattle.ds2_meaning.specs.HashObjects.{DeclaredObjects, object_at}
use Rattle.ds2_meaning.specs.Location.{Home, Location, is_same_location}
use Rattle.ds2_meaning.specs.Method.{MethodTree}
use Rattle.ds2_meaning.specs.ProgramTree.{BodyTree, InstanceTree, UnitTree}
use Rattle.ds2_meaning.specs.Reading.{stage_instance}
use Rattle.ds2_layout.specs.Layout.{program_slots, location_of_slot}
use Rattle.ds2_gen.specs.CodeCells.{Nameable, GlobalAt, LocalNamed, CodeCell, SlotCell, LocalCell, HashCell, IteratorCell, ParameterCell, Placement}
use Rattle.ds2_gen.specs.StatementCode.{statements_keep}

-- ---- numbers

-- the number of the first item that passes a test
abbrev pub number_of_first : {X : Type 0} → (X → Bool) → List X → Option ℕ
number_of_first test [] = None
number_of_first test (x ∷ xs) = if test x then Some 0 else option_map (λ n. suc n) (number_of_first test xs)

-- the number of the first location that is this one
abbrev pub number_of_location : List Location → Location → Option ℕ
number_of_location locations at = number_of_first (λ other. is_same_location at other) locations

-- the number of the first name that is this one
abbrev pub number_of_name : List (List ℕ) → List ℕ → Option ℕ
number_of_name names name = number_of_first (λ other. bytes_eq name other) names

-- ---- globals

-- the locations of the slots of a program
abbrev pub slot_locations : UnitTree → List Location
slot_locations p = map location_of_slot (program_slots p)

-- the locations of the hash objects of a home
abbrev pub hashes_at : Home → DeclaredObjects → List Location
hashes_at home objects = map (λ (h : DeclaredHash). object_at home h.name) objects.hashes

-- the locations of the iterators of a home
abbrev pub iterators_at : Home → DeclaredObjects → List Location
iterators_at home objects = map (λ (i : DeclaredIterator). object_at home i.name) objects.iterators

-- the locations of the hash objects of a program, its own before those of its instances
abbrev pub hash_locations : UnitTree → List Location
hash_locations p = hashes_at None p.objects ++ flat_map (λ (i : InstanceTree). hashes_at (Some i.name) i.objects) p.instances

-- likewise those of its iterators
abbrev pub iterator_locations : UnitTree → List Location
iterator_locations p = iterators_at None p.objects ++ flat_map (λ (i : InstanceTree). iterators_at (Some i.name) i.objects) p.instances

-- the parameters of an instance of a thread program
abbrev pub parameters_at : ThreadInstance → List Location
parameters_at t = map (λ (v : Variable). record { home = Some t.name; global = ParameterNamed v.name }) t.parameters

-- those of the instance that the program reads from
abbrev pub parameter_locations : UnitTree → List Location
parameter_locations p = flat_map parameters_at (filter (λ (t : ThreadInstance). bytes_eq t.name (stage_instance p.reading)) p.threads)

-- the first of two cells, where there is one
abbrev pub first_cell : Option CodeCell → Option CodeCell → Option CodeCell
first_cell None other = other
first_cell (Some c) other = Some c

-- the cell of a global of a program or of an instance
abbrev pub program_cell : UnitTree → Location → Option CodeCell
program_cell p at =
    first_cell (option_map SlotCell (number_of_location (slot_locations p) at))
    (first_cell (option_map HashCell (number_of_location (hash_locations p) at))
    (first_cell (option_map IteratorCell (number_of_location (iterator_locations p) at)) (option_map ParameterCell (number_of_location (parameter_locations p) at))))

-- ---- system methods

-- how many slots a system method has of its own: one for each local, and behind them one for each value that its code keeps
abbrev pub own_slots : BodyTree → ℕ
own_slots body = length body.locals + statements_keep body.statements

-- how many slots the layout of a program has
abbrev pub layout_size : UnitTree → ℕ
layout_size p = length (slot_locations p)

-- the first slot of `run`, behind those of `init`, which begin behind the layout's
abbrev pub first_of_run : UnitTree → ℕ
first_of_run p = layout_size p + own_slots p.init

-- the first slot of `term`
abbrev pub first_of_term : UnitTree → ℕ
first_of_term p = first_of_run p + own_slots p.run

-- a number lies among so many from a first one on
abbrev pub is_numbered_among : (first count : ℕ) → ℕ → Bool
is_numbered_among first count n = nat_le first n && nat_lt n (first + count)

-- the names of variables
abbrev pub names_of_variables : List Variable → List (List ℕ)
names_of_variables variables = map (λ (v : Variable). v.name) variables

-- a slot behind the layout's is reserved for code of a system method that keeps values from a number on, but for its locals and the
-- values from there on
abbrev pub is_kept_slot : (size first locals values : ℕ) → ℕ → ℕ → Bool
is_kept_slot size first locals values kept n = nat_le size n && (not (is_numbered_among first locals n) && (nat_lt n (first + locals + kept) || not (is_numbered_among (first + locals) values n)))

-- the cells of a system method whose own slots begin at a number
abbrev pub system_cell : UnitTree → ℕ → BodyTree → Nameable → Option CodeCell
system_cell p first body (GlobalAt at) = program_cell p at
system_cell p first body (LocalNamed name) = option_map (λ n. SlotCell (first + n)) (number_of_name (names_of_variables body.locals) name)

-- what its code leaves alone that keeps values from a number on
abbrev pub system_reserved : UnitTree → ℕ → BodyTree → ℕ → CodeCell → Bool
system_reserved p first body kept (SlotCell n) = is_kept_slot (layout_size p) first (length body.locals) (statements_keep body.statements) kept n
system_reserved p first body kept _ = false

-- its placement
abbrev pub system_placement : UnitTree → ℕ → BodyTree → Placement
system_placement p first body = record {
  cell = system_cell p first body;
  kept_cell = λ k. SlotCell (first + length body.locals + k);
  kept_count = statements_keep body.statements;
  is_reserved = system_reserved p first body;
}

-- ---- methods

-- the names of the parameters and locals of a method, in the order in which they lie in its frame
abbrev pub frame_names : MethodTree → List (List ℕ)
frame_names method = map (λ (x : Parameter). x.name) method.parameters ++ names_of_variables method.locals

-- how many places its frame has: behind parameters and locals one for each value that its code keeps
abbrev pub frame_size : MethodTree → ℕ
frame_size method = length method.parameters + length method.locals

-- the cells of a method
abbrev pub method_cell : UnitTree → MethodTree → Nameable → Option CodeCell
method_cell p method (GlobalAt at) = program_cell p at
method_cell p method (LocalNamed name) = option_map LocalCell (number_of_name (frame_names method) name)

-- what its code leaves alone that keeps values from a number on: all slots behind the layout's, and the values before
abbrev pub method_reserved : UnitTree → MethodTree → ℕ → CodeCell → Bool
method_reserved p method kept (SlotCell n) = nat_le (layout_size p) n
method_reserved p method kept (LocalCell n) = is_numbered_among (frame_size method) kept n
method_reserved p method kept _ = false

-- its placement
abbrev pub method_placement : UnitTree → MethodTree → Placement
method_placement p method = record {
  cell = method_cell p method;
  kept_cell = λ k. LocalCell (frame_size method + k);
  kept_count = statements_keep method.body;
  is_reserved = method_reserved p method;
}
