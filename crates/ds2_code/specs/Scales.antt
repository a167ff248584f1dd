-- Decimals have the scales of their types: values beside types, and a machine beside the code points of its code.
use Rattle.std.specs.Prelude.{◌≡◌, IsTrue, ℕ, ◌==◌, nat_le, ◌+◌, Bool, true, false, List, [], ◌∷◌, map, slice_get, Option, Some}
use Rattle.ds2_value.specs.HashList.{HashItems}
use Rattle.ds2_value.specs.Row.{Row}
use Rattle.ds2_value.specs.Progress.{Progress}
use Rattle.ds2_value.specs.declared.ty.Ty.{Ty}
use Rattle.ds2_value.specs.declared.ty.Ty.TheVariants.{Decimal as DecimalOf}
use Rattle.ds2_value.specs.declared.value.Value.{Value}
use Rattle.ds2_value.specs.declared.value.Value.TheVariants.{Dec}
use Rattle.ds2_code.specs.declared.instr.Instr.TheVariants as instr
use Rattle.ds2_code.specs.declared.parts.HashPart.{HashPart}
use Rattle.ds2_code.specs.declared.parts.MethodPart.{MethodPart}
use Rattle.ds2_code.specs.declared.parts.ProgramParts.{ProgramParts}
use Rattle.ds2_code.specs.declared.parts.Slot.{Slot}
use Rattle.ds2_code.specs.CodeRun.{CallFrame, MachineState, EndReached, GoesOn, Stops, after_instruction}
use Rattle.ds2_code.specs.CodeUnit.{without_cleared, unit_begun, opening_hashes}
use Rattle.ds2_code.specs.Desk.{ProgramData, Desk, Taken, take_off, SlotSettings, with_slot_settings}
use Rattle.ds2_code.specs.OperandTypes.{OperandTypes, CodeRole, OfUnit, OfMethod, signature_of, types_of_locals, with_in_out_types, with_result_type, slot_type}
use Rattle.ds2_code.specs.ValidCode.{CodePoint, point, IsValidProgram, unit_entries}

-- a type of decimals with this scale
abbrev pub is_type_of_scale : ℕ → Ty → Bool
is_type_of_scale n (DecimalOf p s) = n == s
is_type_of_scale n _ = false

-- a value may stand where one of this type does, as far as its scale goes: a decimal has the scale of the type
abbrev pub is_scaled : Value → Ty → Bool
is_scaled (Dec d) ty = is_type_of_scale d.scale ty
is_scaled _ ty = true

-- each value beside the type at its place, as many of both
abbrev pub AreScaled : Row → List Ty → Type 0
AreScaled [] [] = Unit {0}
AreScaled [] (t ∷ ts) = ⊥
AreScaled (v ∷ vs) [] = ⊥
AreScaled (v ∷ vs) (t ∷ ts) = IsTrue (is_scaled v t) × AreScaled vs ts

-- the types of slots
abbrev pub types_of_slots : List Slot → List Ty
types_of_slots slots = map (λ (s : Slot). s.ty) slots

-- each value that is given for a slot, in order, has the scale of the slot where that is there
abbrev pub AreGivenScaled : List Slot → List ℕ → Row → Type 0
AreGivenScaled slots ns [] = Unit {0}
AreGivenScaled slots [] (v ∷ vs) = Unit {0}
AreGivenScaled slots (n ∷ ns) (v ∷ vs) = ((ty : Ty) → slot_type slots n ≡ Some ty → IsTrue (is_scaled v ty)) × AreGivenScaled slots ns vs

-- the data of each item of a hash object have the scales of the slots of its data variables
abbrev pub AreItemsScaled : List Slot → List ℕ → HashItems → Type 0
AreItemsScaled slots ns [] = Unit {0}
AreItemsScaled slots ns (item ∷ items) = AreGivenScaled slots ns item.1 × AreItemsScaled slots ns items

-- so have those of each hash object
abbrev pub AreHashesScaled : List Slot → List HashPart → List HashItems → Type 0
AreHashesScaled slots [] hashes = Unit {0}
AreHashesScaled slots (part ∷ parts) [] = Unit {0}
AreHashesScaled slots (part ∷ parts) (items ∷ hashes) = AreItemsScaled slots part.data_slots items × AreHashesScaled slots parts hashes

-- a program's data between two instructions, or two units
pub record IsDataScaled (code : ProgramParts) (state : ProgramData) : Type 0 where
  pub slots : AreScaled state.slots (types_of_slots code.slots)
  pub hashes : AreHashesScaled code.slots code.hashes state.hashes

-- the callers that wait for code of this role: each finds its operands and locals scaled once the call leaves its own
abbrev pub AreCallersScaled : ProgramParts → List CodePoint → CodeRole → List CallFrame → Type 0
AreCallersScaled code points role [] = role ≡ OfUnit
AreCallersScaled code points role (f ∷ fs) =
    (method : MethodPart) × (slice_get code.methods f.callee ≡ Some method) × (role ≡ OfMethod (signature_of method))
    × (caller : CodeRole) × (below : OperandTypes)
    × (slice_get points f.to ≡ Some (point caller (with_in_out_types method.parameters (with_result_type method.returns below))))
    × AreScaled f.stack below × AreScaled f.locals (types_of_locals caller) × AreCallersScaled code points caller fs

-- a machine before an instruction, beside the code points of its code
pub record IsScaledAt (code : ProgramParts) (points : List CodePoint) (at : ℕ) (desk : Desk) (frames : List CallFrame) : Type 0 where
  pub place : CodePoint
  pub here : slice_get points at ≡ Some place
  pub operands : AreScaled desk.stack place.types
  pub locals : AreScaled desk.locals (types_of_locals place.role)
  pub state : IsDataScaled code desk.state
  pub callers : AreCallersScaled code points place.role frames

-- a machine of a program of valid code, before an instruction
pub record IsScaled (code : ProgramParts) (at : ℕ) (desk : Desk) (frames : List CallFrame) : Type 0 where
  pub stage : Option ProgramParts
  pub valid : IsValidProgram code stage
  pub scaled : IsScaledAt code valid.types.0 at desk frames

-- the scales of two decimals sum to at most 38
abbrev pub is_scale_of_product : Row → Bool
is_scale_of_product (Dec a ∷ Dec b ∷ []) = nat_le (a.scale + b.scale) 38
is_scale_of_product _ = true

-- each setting has a value of the scale of its slot, where the slot is there
abbrev pub AreSettingsScaled : List Slot → SlotSettings → Type 0
AreSettingsScaled slots [] = Unit {0}
AreSettingsScaled slots (set ∷ more) = ((ty : Ty) → slot_type slots set.0 ≡ Some ty → IsTrue (is_scaled set.1 ty)) × AreSettingsScaled slots more

-- a unit begins scaled where the program's data is
abbrev pub UnitsBeginScaled : Type 0
UnitsBeginScaled =
    (code : ProgramParts) (stage : Option ProgramParts) (k entry budget : ℕ) (state : ProgramData) → IsValidProgram code stage → slice_get (unit_entries code) k ≡ Some entry → IsDataScaled code state
    → IsScaled code (unit_begun entry budget state).at (unit_begun entry budget state).desk (unit_begun entry budget state).frames

-- an instruction that goes on leaves a machine scaled
abbrev pub InstructionsKeepScales : Type 0
InstructionsKeepScales =
    (code : ProgramParts) (m next : MachineState) → IsScaled code m.at m.desk m.frames → after_instruction code (slice_get code.instrs m.at) m ≡ GoesOn next
    → IsScaled code next.at next.desk next.frames

-- the operands of a product of decimals have scales that sum to at most 38
abbrev pub ProductsHaveScales : Type 0
ProductsHaveScales =
    (code : ProgramParts) (m : MachineState) (t : Taken) → IsScaled code m.at m.desk m.frames → slice_get code.instrs m.at ≡ Some instr.DMul → take_off 2 [] m.desk.stack ≡ Some t
    → IsTrue (is_scale_of_product t.values)

-- where a unit comes to its end, the program's data is scaled
abbrev pub UnitsEndScaled : Type 0
UnitsEndScaled =
    (code : ProgramParts) (m : MachineState) (state : ProgramData) (p : Progress) → IsScaled code m.at m.desk m.frames
    → after_instruction code (slice_get code.instrs m.at) m ≡ Stops (EndReached state p) → IsDataScaled code state

-- slots stay scaled behind settings that are
abbrev pub SettingsKeepScales : Type 0
SettingsKeepScales =
    (parts : List Slot) (settings : SlotSettings) (slots : Row) → AreSettingsScaled parts settings → AreScaled slots (types_of_slots parts)
    → AreScaled (with_slot_settings settings slots) (types_of_slots parts)

-- slots stay scaled where some are set to null
abbrev pub ClearingKeepsScales : Type 0
ClearingKeepsScales = (parts : List Slot) (slots : Row) → AreScaled slots (types_of_slots parts) → AreScaled (without_cleared parts slots) (types_of_slots parts)

-- hash objects that are loaded from tables are scaled
abbrev pub LoadedHashesAreScaled : Type 0
LoadedHashesAreScaled = (code : ProgramParts) (tables : List (List Row)) → AreHashesScaled code.slots code.hashes (opening_hashes code.slots code.hashes tables)
