-- The data program of valid code.
use Rattle.std.proofs.Common.{◌≡◌, ℕ, Bool, true, false, ◌&&◌, List, [], ◌∷◌, refl, ap}
use Rattle.std.specs.List.{list_all}
use Rattle.ds2_value.specs.Types.{in_bounds}
use Rattle.ds2_code.specs.declared.parts.ProgramParts.{ProgramParts}
use Rattle.ds2_code.specs.declared.parts.Slot.{Slot}
use Rattle.ds2_code.specs.declared.parts.StagedParts.{StagedParts}
use Rattle.ds2_code.specs.ValidCode.{constant_allowed, values_allowed, IsValidProgram, IsValidChain, IsValidStaged}
use Rattle.ds2_slots.specs.LoadedHashes.{AreSlotTypesInBounds}
use Rattle.ds2_machine.specs.AtRest.{staged_program}

pub data_program : (parts : StagedParts) (n : ℕ) → n ≡ 0 → staged_program parts n ≡ parts.program
data_program parts n is = ap (staged_program parts) is

pub first_of_two : (a b : Bool) → (a && b) ≡ true → a ≡ true
first_of_two true b h = refl
first_of_two false b h = absurd cc

pub types_of_values : (code : ProgramParts) → values_allowed code ≡ true → AreSlotTypesInBounds code.slots
types_of_values code h =
    let types = list_all (λ (s : Slot). in_bounds s.ty) code.slots in
    first_of_two types (list_all constant_allowed code.constants) (first_of_two (types && list_all constant_allowed code.constants) _ h)

types_of_chain : (code : ProgramParts) (stages : List ProgramParts) → IsValidChain code stages → AreSlotTypesInBounds code.slots
types_of_chain code [] h = types_of_values code (IsValidProgram.values h)
types_of_chain code (stage ∷ stages) h = types_of_values code (IsValidProgram.values h.0)

pub types_of_valid : (parts : StagedParts) → IsValidStaged parts → AreSlotTypesInBounds parts.program.slots
types_of_valid parts valid = types_of_chain parts.program parts.stages (IsValidStaged.chain valid)
