-- Each group of a program runs once: one after the other, each from the data that the one before it has left.
use Rattle.std.specs.Prelude.{◌≡◌, ℕ, List, [], ◌∷◌, ◌++◌, flat_map, map, Some}
use Rattle.ds2_value.specs.Progress.{Progress, UnitOutcome, Completed, Interrupted, Strayed}
use Rattle.ds2_value.specs.Row.{Row}
use Rattle.ds2_value.specs.Run.{Written}
use Rattle.ds2_value.specs.declared.fault.Ending.TheVariants.{Normal}
use Rattle.ds2_table.specs.OneThread.{Units, Standing, GroupResult, run_all, Answer, stage_rows, alone_answer}
use Rattle.ds2_table.specs.Table.{Contents}
use Rattle.ds2_code.specs.declared.parts.ProgramParts.{ProgramParts}
use Rattle.ds2_code.specs.CodeUnit.{code_init, row_slot_settings}
use Rattle.ds2_code.specs.Desk.{ProgramData, SlotSettings}
use Rattle.ds2_code_answer.specs.CodeAnswer.{code_units, code_opening, code_program}
use Rattle.ds2_code_answer.specs.CodeLoads.{slots_of_stage}
use Rattle.ds2_code_answer.specs.CodeTables.{tables_of_stage}
use Rattle.ds2_loads.specs.GroupedLoads.{loads_in_groups}

-- these are the results of groups that ran to their ends in order, one for each group: the first one from the first data, each further
-- one from those that the one before it left, and the last data are those behind all of them
abbrev pub RanInTurn : {L C : Type 0} → Units L C → List (List L) → List (GroupResult C) → (first last : C) → Type 0
RanInTurn units [] [] first last = last ≡ first
RanInTurn units [] (result ∷ results) first last = ⊥
RanInTurn units (group ∷ groups) [] first last = ⊥
RanInTurn {L} {C} units (group ∷ groups) (result ∷ results) first last =
    (result ≡ run_all units group first) × (next : C) × (result.reached ≡ Standing next) × RanInTurn units groups results next last

-- a program that ended normally wrote these rows: those of `init`, those of each group in order, and those of `term`
pub record RanEachGroupOnce {L C : Type 0} (units : Units L C) (groups : List (List L)) (opening : C) (rows : List Written) : Type 0 where
  pub first : C
  pub last : C
  pub end : C
  pub begun : Progress
  pub ended : Progress
  pub begun_executed : ℕ
  pub ended_executed : ℕ
  pub results : List (GroupResult C)
  pub init : units.init opening ≡ Completed first begun begun_executed
  pub in_turn : RanInTurn units groups results first last
  pub term : units.term last ≡ Completed end ended ended_executed
  pub written : rows ≡ begun.rows ++ flat_map (λ (result : GroupResult C). result.rows) results ++ ended.rows

-- this holds behind a unit, which ended normally
abbrev pub HoldsBehindUnit : {C : Type 0} → UnitOutcome C → (C → Type 0) → Type 0
HoldsBehindUnit (Completed c unit executed) holds = holds c
HoldsBehindUnit (Interrupted fault unit executed) holds = ⊥
HoldsBehindUnit Strayed holds = ⊥

-- the rows that a program reads from a thread program, each a group
abbrev pub rows_as_groups : ProgramParts → Answer → List (List SlotSettings)
rows_as_groups code stage = map (λ (row : Row). row_slot_settings code.slots (slots_of_stage code.reading) row ∷ []) (stage_rows stage)

-- a program ran each of its groups once, and so did each thread program that it read from: one that reads tables the groups of its loads
-- at the grain, and one that reads from a thread program the rows that this one wrote
abbrev pub EachRanGroupsOnce : ProgramParts → List ProgramParts → List Contents → (budget grain : ℕ) → ProgramData → Type 0
EachRanGroupsOnce code [] tables budget grain state =
    RanEachGroupOnce (code_units code budget) (loads_in_groups grain code tables) state (alone_answer (code_program code [] tables budget grain) state).rows
EachRanGroupsOnce code (stage ∷ stages) tables budget grain state =
    HoldsBehindUnit (code_init code budget state) (λ (first : ProgramData).
    let read = tables_of_stage code tables in
    let begun = code_opening stage stages read first.parameters in
    EachRanGroupsOnce stage stages read budget grain begun
    × RanEachGroupOnce (code_units code budget) (rows_as_groups code (alone_answer (code_program stage stages read budget grain) begun)) state
    (alone_answer (code_program code (stage ∷ stages) tables budget grain) state).rows)

-- where a program with the thread programs below it ends normally, each of them ran each of its groups once, at every grain
abbrev pub EveryGroupOnce : Type 0
EveryGroupOnce =
    (code : ProgramParts) (stages : List ProgramParts) (tables : List Contents) (budget grain : ℕ) (state : ProgramData)
    → (alone_answer (code_program code stages tables budget grain) state).ending ≡ Some Normal → EachRanGroupsOnce code stages tables budget grain state
