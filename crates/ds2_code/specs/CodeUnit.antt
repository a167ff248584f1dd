-- The units of a program's code, as functions that are total for any list of instructions.
use Rattle.std.specs.Prelude.{ℕ, ◌+◌, ◌*◌, ◌++◌, List, [], ◌∷◌, length, map, replicate, slice_get, Option, Some, None}
use Rattle.ds2_value.specs.HashList.{HashItems, hash_answer}
use Rattle.ds2_value.specs.Operations.{or_null_at_fault}
use Rattle.ds2_value.specs.Progress.{at_the_start, UnitOutcome, Completed, Interrupted, Strayed}
use Rattle.ds2_value.specs.Row.{Row}
use Rattle.ds2_value.specs.Types.{assign_of}
use Rattle.ds2_value.specs.Value.{or_null}
use Rattle.ds2_value.specs.declared.hash_function.HashFunction.TheVariants.{Add}
use Rattle.ds2_value.specs.declared.value.Value.{Value}
use Rattle.ds2_value.specs.declared.value.Value.TheVariants.{Null}
use Rattle.ds2_code.specs.declared.parts.HashPart.{HashPart}
use Rattle.ds2_code.specs.declared.parts.HashTable.{HashTable}
use Rattle.ds2_code.specs.declared.parts.ProgramParts.{ProgramParts}
use Rattle.ds2_code.specs.declared.parts.Slot.{Slot}
use Rattle.ds2_code.specs.declared.parts.SlotRole.{SlotRole}
use Rattle.ds2_code.specs.declared.parts.SlotRole.TheVariants.{Cleared, Kept, Column, Flag}
use Rattle.ds2_code.specs.Desk.{ProgramData, with_slots, SlotSettings, with_slot_settings, with_values_in}
use Rattle.ds2_code.specs.CodeRun.{MachineState, EndReached, Broken, Stuck, CodeRun, UnderWay, Over, run_code}

-- ---- a unit

-- a machine before the first instruction of a unit: no operands, no locals, no caller
abbrev pub unit_begun : ℕ → ℕ → ProgramData → MachineState
unit_begun entry budget state =
    record { at = entry; desk = record { stack = []; locals = []; state = state }; frames = []; progress = at_the_start budget }

-- how a unit has ended whose run has come so far; one that is stuck, or under way, has strayed
abbrev pub outcome_of_run : CodeRun → UnitOutcome ProgramData
outcome_of_run (Over n (EndReached state p)) = Completed state p n
outcome_of_run (Over n (Broken fault p)) = Interrupted fault p n
outcome_of_run (Over n Stuck) = Strayed
outcome_of_run (UnderWay m) = Strayed

-- the most instructions that a unit of valid code executes: all of them for each unit of the budget, and once more
abbrev pub most_executed : ProgramParts → ℕ → ℕ
most_executed code budget = (budget + 1) * length code.instrs

-- a unit of code from an entry
abbrev pub code_unit : ProgramParts → ℕ → ℕ → ProgramData → UnitOutcome ProgramData
code_unit code entry budget state = outcome_of_run (run_code code (most_executed code budget) (unit_begun entry budget state))

-- ---- loads

-- a value of a table in the type of its slot, to which it may be assigned
abbrev pub assigned_to_slot : Option Slot → Value → Value
assigned_to_slot None v = v
assigned_to_slot (Some slot) v = or_null_at_fault (assign_of v slot.ty)

-- a row of a table, or of a thread program, as settings of its columns' slots, each value in the type of its slot: the last column
-- comes first, so that of several columns with one slot the first one stays
abbrev pub row_slot_settings : List Slot → List ℕ → Row → SlotSettings
row_slot_settings slots [] row = []
row_slot_settings slots (n ∷ ns) [] = []
row_slot_settings slots (n ∷ ns) (v ∷ row) = row_slot_settings slots ns row ++ (n, assigned_to_slot (slice_get slots n) v) ∷ []

-- a slot before a load: null where `run` sets it to null
abbrev pub null_where_cleared : SlotRole → Value → Value
null_where_cleared Cleared v = Null
null_where_cleared Kept v = v
null_where_cleared Column v = v
null_where_cleared Flag v = v

-- the slots before a load
abbrev pub without_cleared : List Slot → Row → Row
without_cleared [] slots = slots
without_cleared (s ∷ ss) [] = []
without_cleared (s ∷ ss) (v ∷ slots) = null_where_cleared s.role v ∷ without_cleared ss slots

-- ---- the three units

-- `init`
abbrev pub code_init : ProgramParts → ℕ → ProgramData → UnitOutcome ProgramData
code_init code budget state = code_unit code code.init budget state

-- `run`: what it sets to null, then the load, then its instructions
abbrev pub code_run : ProgramParts → ℕ → SlotSettings → ProgramData → UnitOutcome ProgramData
code_run code budget load state = code_unit code code.run budget (with_slots (with_slot_settings load (without_cleared code.slots state.slots)) state)

-- `term`
abbrev pub code_term : ProgramParts → ℕ → ProgramData → UnitOutcome ProgramData
code_term code budget state = code_unit code code.term budget state

-- ---- the opening

-- columns of a row of a table, each assigned to the type of its slot
abbrev pub columns_for : List Slot → List ℕ → List ℕ → Row → Row
columns_for slots [] columns row = []
columns_for slots (n ∷ ns) [] row = []
columns_for slots (n ∷ ns) (c ∷ cs) row = assigned_to_slot (slice_get slots n) (or_null (slice_get row c)) ∷ columns_for slots ns cs row

-- a hash object's items with those of rows of a table, in their order; of several rows with one key the first one stays
abbrev pub with_rows_added : List Slot → HashPart → HashTable → List Row → HashItems → HashItems
with_rows_added slots hash loaded [] items = items
with_rows_added slots hash loaded (row ∷ rows) items =
    with_rows_added slots hash loaded rows
    (hash_answer Add (columns_for slots hash.key_slots loaded.key_columns row) (columns_for slots hash.data_slots loaded.data_columns row) items).items

-- the items of a hash object before the first unit, from the rows of its table where it has one
abbrev pub opening_items : List Slot → HashPart → Option HashTable → List (List Row) → HashItems
opening_items slots hash None tables = []
opening_items slots hash (Some loaded) [] = []
opening_items slots hash (Some loaded) (rows ∷ tables) = with_rows_added slots hash loaded rows []

-- the tables for the hash objects behind one
abbrev pub further_tables : Option HashTable → List (List Row) → List (List Row)
further_tables None tables = tables
further_tables (Some loaded) [] = []
further_tables (Some loaded) (rows ∷ tables) = tables

-- the hash objects before the first unit, from the rows of the tables that they are loaded from, a table for each that names one
abbrev pub opening_hashes : List Slot → List HashPart → List (List Row) → List HashItems
opening_hashes slots [] tables = []
opening_hashes slots (hash ∷ hashes) tables =
    opening_items slots hash hash.loaded tables ∷ opening_hashes slots hashes (further_tables hash.loaded tables)

-- a program's data before its first unit: slots are null but for the program's own parameters, hash objects are loaded, iterators
-- stand nowhere, and so many parameters of the thread program that it reads from are null
abbrev pub opening_data : ProgramParts → Row → List (List Row) → ℕ → ProgramData
opening_data code given tables parameters = record {
  slots = with_values_in code.parameters given (replicate (length code.slots) Null);
  hashes = opening_hashes code.slots code.hashes tables;
  iterators = map (λ h. None) code.iterators;
  parameters = replicate parameters Null;
}
