-- What instructions work on, and the words that they are written with.
use Rattle.std.specs.Prelude.{ℕ, zero, suc, List, [], ◌∷◌, Option, Some, None, Result, Ok, Err, slice_get, slice_set}
use Rattle.std.specs.List.{zip}
use Rattle.std.specs.Option.{option_map_or}
use Rattle.ds2_value.specs.HashList.{HashItems}
use Rattle.ds2_value.specs.Row.{Row}
use Rattle.ds2_value.specs.Value.{or_null}
use Rattle.ds2_value.specs.declared.fault.Fault.{Fault}
use Rattle.ds2_value.specs.declared.value.Value.{Value}
use Rattle.ds2_value.specs.declared.value.Value.TheVariants.{Null}
use Rattle.ds2_code.specs.declared.parts.Constant.{Constant}

-- what one unit of a program hands on to the next: the global slots, the hash objects, where the iterators stand, and the
-- parameters that were set for the thread program that the program reads from
pub record ProgramData : Type 0 where
  pub slots : Row
  pub hashes : List HashItems
  pub iterators : List (Option ℕ)
  pub parameters : Row

-- what instructions work on: the operands of the frame, the topmost first, its locals, and the program's data
pub record Desk : Type 0 where
  pub stack : Row
  pub locals : Row
  pub state : ProgramData

-- the desk with these operands
abbrev pub with_stack : Row → Desk → Desk
with_stack stack d = record { stack = stack; locals = d.locals; state = d.state }

-- the desk with this data
abbrev pub with_state : ProgramData → Desk → Desk
with_state state d = record { stack = d.stack; locals = d.locals; state = state }

-- a value on top
abbrev pub pushed : Value → Desk → Desk
pushed v d = with_stack (v ∷ d.stack) d

-- operands that were taken off, the first one first, and those below them
pub record Taken : Type 0 where
  pub values : Row
  pub below : Row

-- the n topmost operands, the last one on top; none where there are fewer
abbrev pub take_off : ℕ → Row → Row → Option Taken
take_off zero values stack = Some (record { values = values; below = stack })
take_off (suc n) values [] = None
take_off (suc n) values (v ∷ stack) = take_off n (v ∷ values) stack

-- a value in place of the operands that were taken off; none where they were missing
abbrev pub with_value_for : (Row → Value) → Option Taken → Desk → Option Desk
with_value_for f None d = None
with_value_for f (Some taken) d = Some (with_stack (f taken.values ∷ taken.below) d)

-- a value above other operands, or a fault
abbrev pub result_above : Row → Result Value Fault → Desk → Result Desk Fault
result_above below (Ok v) d = Ok (with_stack (v ∷ below) d)
result_above below (Err fault) d = Err fault

-- a value in place of the operands that were taken off, or a fault; none where they were missing
abbrev pub with_result_for : (Row → Result Value Fault) → Option Taken → Desk → Option (Result Desk Fault)
with_result_for f None d = None
with_result_for f (Some taken) d = Some (result_above taken.below (f taken.values) d)

-- where a value is loaded from: a constant, a global slot, or a local of the method
pub data LoadSource : Type 0 where
  OfConstant : ℕ → LoadSource
  OfSlot : ℕ → LoadSource
  OfLocal : ℕ → LoadSource

-- the value of constant k; null where there is none
abbrev pub constant_value : ℕ → List Constant → Value
constant_value k constants = option_map_or (λ (c : Constant). c.value) (slice_get constants k) Null

-- the value that is loaded; null where there is no such constant, slot or local
abbrev pub loaded_value : List Constant → LoadSource → Desk → Value
loaded_value constants (OfConstant k) d = constant_value k constants
loaded_value constants (OfSlot n) d = or_null (slice_get d.state.slots n)
loaded_value constants (OfLocal n) d = or_null (slice_get d.locals n)

-- where a value is stored: in a global slot, in a local of the method, or as a parameter for the thread program
pub data StoreTarget : Type 0 where
  IntoSlot : ℕ → StoreTarget
  IntoLocal : ℕ → StoreTarget
  IntoParameter : ℕ → StoreTarget

-- the program's data with other slots
abbrev pub with_slots : Row → ProgramData → ProgramData
with_slots slots state = record { slots = slots; hashes = state.hashes; iterators = state.iterators; parameters = state.parameters }

-- the program's data with other parameters for the thread program
abbrev pub with_stage_parameters : Row → ProgramData → ProgramData
with_stage_parameters parameters state = record { slots = state.slots; hashes = state.hashes; iterators = state.iterators; parameters = parameters }

-- a value is stored; nothing changes where there is no such slot, local or parameter
abbrev pub with_stored : StoreTarget → Value → Desk → Desk
with_stored (IntoSlot n) v d = with_state (with_slots (slice_set d.state.slots n v) d.state) d
with_stored (IntoLocal n) v d = record { stack = d.stack; locals = slice_set d.locals n v; state = d.state }
with_stored (IntoParameter n) v d = with_state (with_stage_parameters (slice_set d.state.parameters n v) d.state) d

-- the topmost value is stored; none where there is none
abbrev pub top_into : StoreTarget → Row → Desk → Option Desk
top_into destination [] d = None
top_into destination (v ∷ stack) d = Some (with_stored destination v (with_stack stack d))

-- the topmost value goes; none where there is none
abbrev pub without_top : Row → Desk → Option Desk
without_top [] d = None
without_top (v ∷ stack) d = Some (with_stack stack d)

-- the values of slots, in order
abbrev pub values_of_slots : List ℕ → Row → Row
values_of_slots [] slots = []
values_of_slots (n ∷ ns) slots = or_null (slice_get slots n) ∷ values_of_slots ns slots

-- slots and the values that they are set to, in order; of several values for one slot the last one stays
abbrev pub SlotSettings : Type 0
SlotSettings = List (ℕ × Value)

-- slots behind such settings
abbrev pub with_slot_settings : SlotSettings → Row → Row
with_slot_settings [] slots = slots
with_slot_settings (set ∷ more) slots = with_slot_settings more (slice_set slots set.0 set.1)

-- values into slots, in order
abbrev pub with_values_in : List ℕ → Row → Row → Row
with_values_in ns values slots = with_slot_settings (zip ns values) slots
