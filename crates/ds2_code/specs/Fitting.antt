-- Values of their types: beside the types of operands, locals and slots, in hash objects and in rows that are written.
use Rattle.std.specs.Prelude.{◌≡◌, IsTrue, ℕ, ◌+◌, ◌^◌, ◌<◌, Bool, ◌&&◌, List, [], ◌∷◌, length, map, slice_get, Option, Some, None}
use Rattle.ds2_value.specs.HashList.{HashItems}
use Rattle.ds2_value.specs.Progress.{Progress, UnitOutcome, Completed, Interrupted, Strayed}
use Rattle.ds2_value.specs.Row.{Row}
use Rattle.ds2_value.specs.Run.{Written}
use Rattle.ds2_value.specs.Types.{in_bounds, fits}
use Rattle.ds2_value.specs.declared.fault.Fault.{Fault}
use Rattle.ds2_value.specs.declared.ty.Ty.{Ty}
use Rattle.ds2_value.specs.declared.value.Value.{Value}
use Rattle.ds2_code.specs.declared.parts.HashPart.{HashPart}
use Rattle.ds2_code.specs.declared.parts.MethodPart.{MethodPart}
use Rattle.ds2_code.specs.declared.parts.OutputPart.{OutputPart}
use Rattle.ds2_code.specs.declared.parts.ProgramParts.{ProgramParts}
use Rattle.ds2_code.specs.declared.parts.Slot.{Slot}
use Rattle.ds2_code.specs.declared.parts.StagedParts.{StagedParts}
use Rattle.ds2_code.specs.CodeBound.{work_left}
use Rattle.ds2_code.specs.CodeRun.{CallFrame, MachineState, EndReached, Broken, GoesOn, Stops, column_slots, after_instruction}
use Rattle.ds2_code.specs.CodeUnit.{unit_begun, most_executed, code_init, code_run, code_term}
use Rattle.ds2_code.specs.Desk.{ProgramData, SlotSettings}
use Rattle.ds2_code.specs.OperandTypes.{OperandTypes, CodeRole, OfUnit, OfMethod, signature_of, types_of_locals, with_in_out_types, with_result_type, slot_type}
use Rattle.ds2_code.specs.ValidCode.{CodePoint, point, IsValidProgram, IsValidStaged, unit_entries, EndsInTime}

-- ---- values

-- a value of a type in bounds
abbrev pub is_of_type : Value → Ty → Bool
is_of_type v ty = fits v ty && in_bounds ty

-- each value is of the type at its place, as many of both
abbrev pub AreOfTypes : Row → List Ty → Type 0
AreOfTypes [] [] = Unit {0}
AreOfTypes [] (t ∷ ts) = ⊥
AreOfTypes (v ∷ vs) [] = ⊥
AreOfTypes (v ∷ vs) (t ∷ ts) = IsTrue (is_of_type v t) × AreOfTypes vs ts

-- the type of each slot
abbrev pub slot_types : List Slot → List Ty
slot_types slots = map (λ (s : Slot). s.ty) slots

-- a value is of the type of slot n
abbrev pub IsOfSlot : List Slot → ℕ → Value → Type 0
IsOfSlot slots n v = (ty : Ty) → slot_type slots n ≡ Some ty → IsTrue (is_of_type v ty)

-- each value is of the type of its slot, a value for each slot
abbrev pub AreOfSlots : List Slot → List ℕ → Row → Type 0
AreOfSlots slots [] [] = Unit {0}
AreOfSlots slots [] (v ∷ vs) = ⊥
AreOfSlots slots (n ∷ ns) [] = ⊥
AreOfSlots slots (n ∷ ns) (v ∷ vs) = IsOfSlot slots n v × AreOfSlots slots ns vs

-- each setting, as of a load, has a value of the type of its slot
abbrev pub AreSettingsOfSlots : List Slot → SlotSettings → Type 0
AreSettingsOfSlots slots [] = Unit {0}
AreSettingsOfSlots slots (set ∷ more) = IsOfSlot slots set.0 set.1 × AreSettingsOfSlots slots more

-- ---- a program's data

-- the keys and the data of a hash object's items are of the types of its slots
abbrev pub AreItemsOfSlots : List Slot → HashPart → HashItems → Type 0
AreItemsOfSlots slots hash [] = Unit {0}
AreItemsOfSlots slots hash (item ∷ items) =
    AreOfSlots slots hash.key_slots item.0 × AreOfSlots slots hash.data_slots item.1 × AreItemsOfSlots slots hash items

-- so many items, with room for so many more, are a BIGINT: `num_items` gives their number
abbrev pub HasRoomFor : ℕ → HashItems → Type 0
HasRoomFor room items = length items + room < 2 ^ 63

-- each hash object has items of the types of its slots, and room for so many more
abbrev pub AreHashesOfSlots : List Slot → ℕ → List HashPart → List HashItems → Type 0
AreHashesOfSlots slots room [] [] = Unit {0}
AreHashesOfSlots slots room [] (items ∷ all) = ⊥
AreHashesOfSlots slots room (hash ∷ hashes) [] = ⊥
AreHashesOfSlots slots room (hash ∷ hashes) (items ∷ all) =
    AreItemsOfSlots slots hash items × HasRoomFor room items × AreHashesOfSlots slots room hashes all

-- the parameters for the thread program that a program reads from are of the types of its slots
abbrev pub AreParametersOfStage : Option ProgramParts → Row → Type 0
AreParametersOfStage None parameters = Unit {0}
AreParametersOfStage (Some stage) parameters = AreOfSlots stage.slots stage.parameters parameters

-- a program's data fit its slots, its hash objects have room for so many items more, and the parameters that it gives fit
pub record IsDataOfCode (code : ProgramParts) (stage : Option ProgramParts) (room : ℕ) (state : ProgramData) : Type 0 where
  pub slots : AreOfTypes state.slots (slot_types code.slots)
  pub hashes : AreHashesOfSlots code.slots room code.hashes state.hashes
  pub parameters : AreParametersOfStage stage state.parameters

-- ---- rows

-- a row that was written is one of an output, and has a value of the type of each of its columns
abbrev pub IsRowOfOutput : ProgramParts → Written → Type 0
IsRowOfOutput code w = (output : OutputPart) × (slice_get code.outputs w.output ≡ Some output) × AreOfSlots code.slots (column_slots output) w.row

-- likewise each of several rows
abbrev pub AreRowsOfOutputs : ProgramParts → List Written → Type 0
AreRowsOfOutputs code [] = Unit {0}
AreRowsOfOutputs code (w ∷ ws) = IsRowOfOutput code w × AreRowsOfOutputs code ws

-- ---- a machine

-- the callers that wait for code of this role: each finds its operands and locals of their types once the call leaves its own
abbrev pub AreCallersOfTypes : ProgramParts → List CodePoint → CodeRole → List CallFrame → Type 0
AreCallersOfTypes code points role [] = role ≡ OfUnit
AreCallersOfTypes code points role (f ∷ fs) =
    (method : MethodPart) × (slice_get code.methods f.callee ≡ Some method) × (role ≡ OfMethod (signature_of method))
    × (caller : CodeRole) × (below : OperandTypes)
    × (slice_get points f.to ≡ Some (point caller (with_in_out_types method.parameters (with_result_type method.returns below))))
    × AreOfTypes f.stack below × AreOfTypes f.locals (types_of_locals caller) × AreCallersOfTypes code points caller fs

-- a machine before an instruction, beside the code points of its code
pub record IsFittingAt (code : ProgramParts) (stage : Option ProgramParts) (points : List CodePoint) (room : ℕ) (m : MachineState) : Type 0 where
  pub place : CodePoint
  pub here : slice_get points m.at ≡ Some place
  pub operands : AreOfTypes m.desk.stack place.types
  pub locals : AreOfTypes m.desk.locals (types_of_locals place.role)
  pub kept : IsDataOfCode code stage room m.desk.state
  pub rows : AreRowsOfOutputs code m.progress.rows
  pub callers : AreCallersOfTypes code points place.role m.frames

-- a machine of valid code before an instruction: its values are of their types, and its hash objects have room for an item for each
-- instruction that it may still execute, and so many more
pub record IsFitting (code : ProgramParts) (stage : Option ProgramParts) (room : ℕ) (m : MachineState) : Type 0 where
  pub valid : IsValidProgram code stage
  pub fitting : IsFittingAt code stage valid.types.0 (work_left code.instrs m + room) m

-- ---- what valid code promises

-- a unit begins with values of their types where its data have them
abbrev pub UnitsBeginFitting : Type 0
UnitsBeginFitting =
    (code : ProgramParts) (stage : Option ProgramParts) (k entry budget room : ℕ) (state : ProgramData) → IsValidProgram code stage
    → slice_get (unit_entries code) k ≡ Some entry → IsDataOfCode code stage (most_executed code budget + room) state
    → IsFitting code stage room (unit_begun entry budget state)

-- an instruction that goes on leaves values of their types
abbrev pub InstructionsKeepTypes : Type 0
InstructionsKeepTypes =
    (code : ProgramParts) (stage : Option ProgramParts) (room : ℕ) (m next : MachineState) → IsFitting code stage room m
    → after_instruction code (slice_get code.instrs m.at) m ≡ GoesOn next → IsFitting code stage room next

-- where a unit comes to its end, its data fit, and the rows that it wrote are of its outputs
abbrev pub UnitsEndFitting : Type 0
UnitsEndFitting =
    (code : ProgramParts) (stage : Option ProgramParts) (room : ℕ) (m : MachineState) (state : ProgramData) (p : Progress) → IsFitting code stage room m
    → after_instruction code (slice_get code.instrs m.at) m ≡ Stops (EndReached state p) → IsDataOfCode code stage room state × AreRowsOfOutputs code p.rows

-- where it ends by a fault, the rows that it wrote are of its outputs
abbrev pub FaultsLeaveRows : Type 0
FaultsLeaveRows =
    (code : ProgramParts) (stage : Option ProgramParts) (room : ℕ) (m : MachineState) (fault : Fault) (p : Progress) → IsFitting code stage room m
    → after_instruction code (slice_get code.instrs m.at) m ≡ Stops (Broken fault p) → AreRowsOfOutputs code p.rows

-- a unit that has an end leaves data that fit, but for a fault, and rows of its outputs
abbrev pub LeavesWhatFits : ProgramParts → Option ProgramParts → ℕ → UnitOutcome ProgramData → Type 0
LeavesWhatFits code stage room (Completed state p n) = IsDataOfCode code stage room state × AreRowsOfOutputs code p.rows
LeavesWhatFits code stage room (Interrupted fault p n) = AreRowsOfOutputs code p.rows
LeavesWhatFits code stage room Strayed = ⊥

-- a unit ends in time, is never stuck, and leaves what fits
pub record EndsFitting (code : ProgramParts) (stage : Option ProgramParts) (budget room : ℕ) (outcome : UnitOutcome ProgramData) : Type 0 where
  pub in_time : EndsInTime code budget outcome
  pub leaves : LeavesWhatFits code stage room outcome

-- each of the three units does
pub record HasUnitsThatFit (code : ProgramParts) (stage : Option ProgramParts) (budget room : ℕ) (load : SlotSettings) (state : ProgramData) : Type 0 where
  pub init : EndsFitting code stage budget room (code_init code budget state)
  pub run : EndsFitting code stage budget room (code_run code budget load state)
  pub term : EndsFitting code stage budget room (code_term code budget state)

-- valid code whose data and load fit ends in time, is never stuck, and leaves what fits. A unit may add an item for each instruction
-- that it executes: hash objects have room for so many before it, and for any number more before it and behind it
abbrev pub ValidCodeLeavesWhatFits : Type 0
ValidCodeLeavesWhatFits =
    (parts : StagedParts) (k : ℕ) (code : ProgramParts) (budget room : ℕ) (load : SlotSettings) (state : ProgramData) → IsValidStaged parts
    → slice_get (parts.program ∷ parts.stages) k ≡ Some code → AreSettingsOfSlots code.slots load
    → IsDataOfCode code (slice_get parts.stages k) (most_executed code budget + room) state
    → HasUnitsThatFit code (slice_get parts.stages k) budget room load state
