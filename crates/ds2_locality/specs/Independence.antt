-- When a thread program is group independent at a grain: its groups at that grain give the same from whatever came before.
use Rattle.std.specs.List.{AllByRecursion}
use Rattle.std.specs.Prelude.{◌≡◌, IsTrue, ℕ, Bool, not, ◌&&◌, List, [], ◌∷◌, ◌++◌, map, Option, Some, None}
use Rattle.ds2_base.specs.declared.place.Place.{Place}
use Rattle.ds2_value.specs.Progress.{Progress, UnitOutcome, Completed, Interrupted, Strayed}
use Rattle.ds2_value.specs.Row.{Row}
use Rattle.ds2_value.specs.Run.{Event, Written}
use Rattle.ds2_value.specs.Schema.{row_fits}
use Rattle.ds2_value.specs.declared.fault.Fault.{Fault}
use Rattle.ds2_value.specs.declared.value.Value.{Value}
use Rattle.ds2_table.specs.Loads.{KeyedLoad, groups}
use Rattle.ds2_table.specs.OneThread.{Units}
use Rattle.ds2_table.specs.Table.{rows_fit}
use Rattle.ds2_schedule.specs.Groups.{UnitRun, Normally, ByFault, StageUnits, IsJoining, run_loads, IsGroupIndependent, IsAmongGroups}
use Rattle.ds2_schedule.specs.Schedule.{FixedPart, Agree}
use Rattle.ds2_meaning.specs.declared.readings.Input.{Input}
use Rattle.ds2_meaning.specs.declared.readings.Reading.{Reading}
use Rattle.ds2_meaning.specs.declared.readings.Reading.TheVariants.{From}
use Rattle.ds2_meaning.specs.IsTyped.{ReadsNoStage, IsTypedUnit}
use Rattle.ds2_meaning.specs.Location.{Location, Content, Storage}
use Rattle.ds2_meaning.specs.ProgramMeaning.{program_units}
use Rattle.ds2_meaning.specs.ProgramTree.{UnitTree, data_vector}
use Rattle.ds2_meaning.specs.Reading.{TableRows, Settings, inputs_of, input_tables, keyed_loads, settings_of, row_settings, stage_columns}
use Rattle.ds2_locality.specs.Deeds.{global_at, run_can_change}
use Rattle.ds2_locality.specs.KeptLocations.{is_kept, seen_content, is_flag_before}

-- ---- any units

-- what units gave, one after the other: rows and lines in order, what is seen of the course of each, and the fault that ended the last
-- one, with its place, where one did
pub record UnitsGave (W : Type 0) : Type 0 where
  pub rows : List Written
  pub lines : List (List ℕ)
  pub courses : List W
  pub fault : Option (Fault × Place)

-- what no unit gives
abbrev pub gave_nothing : {W : Type 0} → UnitsGave W
gave_nothing = record { rows = []; lines = []; courses = []; fault = None }

-- the first of two faults
abbrev pub earlier_fault : {A : Type 0} → Option A → Option A → Option A
earlier_fault None later = later
earlier_fault (Some f) later = Some f

-- what some units gave, and then others
abbrev pub gave_then : {W : Type 0} → UnitsGave W → UnitsGave W → UnitsGave W
gave_then a b = record { rows = a.rows ++ b.rows; lines = a.lines ++ b.lines; courses = a.courses ++ b.courses; fault = earlier_fault a.fault b.fault }

-- what one unit gave, of whose course this is seen
abbrev pub unit_gave : {W : Type 0} → Progress → W → Option (Fault × Place) → UnitsGave W
unit_gave unit course fault = record { rows = unit.rows; lines = unit.lines; courses = course ∷ []; fault = fault }

-- how a unit ended and what it gave, where this is seen of its course; one that strays, as no tree and no valid code does, gives nothing
abbrev pub unit_ended : {C W : Type 0} → (Progress → ℕ → W) → UnitOutcome C → UnitRun C (UnitsGave W)
unit_ended course (Completed c unit n) = Normally c (unit_gave unit (course unit n) None)
unit_ended course (Interrupted fault unit n) = ByFault (unit_gave unit (course unit n) (Some (fault, unit.place)))
unit_ended course Strayed = ByFault gave_nothing

-- units as those of a stage
abbrev pub units_of_stage : {L C W : Type 0} → (Progress → ℕ → W) → (ℕ → Units L C) → StageUnits C L (UnitsGave W)
units_of_stage course units = record {
  run = λ budget l c. unit_ended course ((units budget).run l c);
  term = λ budget c. unit_ended course ((units budget).term c);
  nothing = gave_nothing;
  and_then = gave_then;
}

-- ---- the units of a thread program

-- a load as the locations that it sets
abbrev pub LocatedLoad : Type 0
LocatedLoad = List (Location × Value)

-- what a load sets, at the program's own locations
abbrev pub located : Settings → LocatedLoad
located settings = map (λ set. (global_at None set.0, set.1)) settings

-- what a load sets by its locations
abbrev pub settings_at : LocatedLoad → Settings
settings_at load = map (λ set. (set.0.global, set.1)) load

-- the units of a thread program on loads by their locations
abbrev pub located_units : UnitTree → ℕ → Units LocatedLoad Storage
located_units p budget =
    let units = program_units p budget in record { init = units.init; run = λ load c. units.run (settings_at load) c; term = units.term }

-- of the course of a unit on trees its way is seen
abbrev pub seen_way : Progress → ℕ → List Event
seen_way unit n = unit.way

-- a thread program's units as those of a stage
abbrev pub thread_stage : UnitTree → StageUnits Storage LocatedLoad (UnitsGave (List Event))
thread_stage p = units_of_stage seen_way (located_units p)

-- ---- its groups

-- the rows of each table of a reading statement fit the table's columns
abbrev pub InputsFit : TableRows → List Input → Type 0
InputsFit tables inputs = AllByRecursion (λ (input : Input). IsTrue (rows_fit (tables input.table) input.columns)) inputs

-- the loads of a reading statement over tables
abbrev pub loads_of_tables : UnitTree → TableRows → List KeyedLoad
loads_of_tables p tables = keyed_loads p.reading (input_tables tables (inputs_of p.reading))

-- loads over tables by their locations
abbrev pub located_group : UnitTree → TableRows → List KeyedLoad → List LocatedLoad
located_group p tables group =
    map (λ (l : KeyedLoad). located (settings_of (data_vector p) p.reading (input_tables tables (inputs_of p.reading)) l.load)) group

-- the groups at a grain of a thread program over tables
abbrev pub thread_groups : UnitTree → TableRows → ℕ → List (List LocatedLoad)
thread_groups p tables grain = map (located_group p tables) (groups grain (loads_of_tables p tables))

-- some loads are a group at a grain over tables whose rows fit
pub record IsTableGroup (p : UnitTree) (grain : ℕ) (loads : List LocatedLoad) : Type 0 where
  pub tables : TableRows
  pub rows : InputsFit tables (inputs_of p.reading)
  pub among : IsAmongGroups (thread_groups p tables grain) loads

-- a row of the thread program that it reads from is a group
pub record IsRowGroup (p : UnitTree) (loads : List LocatedLoad) : Type 0 where
  pub row : Row
  pub fits : IsTrue (row_fits row (stage_columns p.reading))
  pub is : loads ≡ located (row_settings (data_vector p) (stage_columns p.reading) row) ∷ []

-- some loads are a group of a thread program at a grain, over any rows that fit
abbrev pub IsGroupOfReading : Reading → UnitTree → ℕ → List LocatedLoad → Type 0
IsGroupOfReading (From instance workers columns) p grain loads = IsRowGroup p loads
IsGroupOfReading _ p grain loads = IsTableGroup p grain loads

-- ---- independence

-- a location is fixed where `run` can't change it and no load or clearing sets it
abbrev pub is_fixed : UnitTree → Location → Bool
is_fixed p at = is_kept p at && not (run_can_change p at)

-- what is kept, with the fixed locations
abbrev pub fixed_locations : UnitTree → FixedPart Storage Location Content
fixed_locations p = record { content = seen_content p; is_fixed = is_fixed p }

-- a thread program is group independent at a grain: for every budget, two groups at that grain that are equal but for the flags of the
-- BY variables before it give equal rows, lines, endings and ways from any two states that agree on the fixed locations, and leave these
-- as they were; and so does `term`
abbrev pub IsIndependentAt : UnitTree → ℕ → Type 0
IsIndependentAt p grain =
    IsGroupIndependent (thread_stage p) (IsGroupOfReading p.reading p grain) (is_flag_before grain p.reading) (Agree (fixed_locations p))

-- ---- laws

-- where loads ended normally, the fixed locations hold what they held before
abbrev pub LeavesFixed : UnitTree → Storage → UnitRun Storage (UnitsGave (List Event)) → Type 0
LeavesFixed p before (Normally after gave) = Agree (fixed_locations p) after before
LeavesFixed p before (ByFault gave) = Unit {0}

-- `run` on the loads of any group of a typed thread program leaves the fixed locations as they were
abbrev pub RunLeavesFixed : Type 0
RunLeavesFixed = (p : UnitTree) → IsTypedUnit p → (grain budget : ℕ) (loads : List LocatedLoad) → IsGroupOfReading p.reading p grain loads → (before : Storage)
    → LeavesFixed p before (run_loads (thread_stage p) budget loads before)

-- what the units of a thread program gave is put together as the law on stages asks
abbrev pub UnitsJoin : Type 0
UnitsJoin = (p : UnitTree) → IsJoining (thread_stage p)

-- the groups of a thread program over its tables are independent at a grain, as the law on stages asks, where it is group independent there
abbrev pub IndependentOverTables : Type 0
IndependentOverTables = (p : UnitTree) (grain : ℕ) (tables : TableRows) → ReadsNoStage p.reading → InputsFit tables (inputs_of p.reading)
    → IsIndependentAt p grain
    → IsGroupIndependent (thread_stage p) (IsAmongGroups (thread_groups p tables grain)) (is_flag_before grain p.reading) (Agree (fixed_locations p))
