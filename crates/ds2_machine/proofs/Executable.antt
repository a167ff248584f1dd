-- What a machine asks of code, from the clauses of valid code.
use Rattle.std.proofs.Common.{◌≡◌, ℕ, zero, suc, ◌+◌, ◌<◌, ◌^◌, Bool, true, false, List, [], ◌∷◌, Option, Some, None, length, refl, subst}
use Rattle.std.specs.Prelude.{IsTrue, slice_get, ◌&&◌, if◌then◌else◌}
use Rattle.std.proofs.lemmas.Bool.{ltb-true}
use Rattle.std.specs.List.{list_all}
use Rattle.ds2_value.specs.Types.{in_bounds}
use Rattle.ds2_value.specs.declared.ty.Ty.{Ty}
use Rattle.ds2_value.specs.declared.ty.Ty.TheVariants.{Decimal as DecimalOf, Char, Varchar}
use Rattle.ds2_code.specs.declared.instr.Instr.{Instr}
use Rattle.ds2_code.specs.declared.instr.Instr.TheVariants as instr
use Rattle.ds2_code.specs.declared.parts.ProgramParts.{ProgramParts}
use Rattle.ds2_code.specs.declared.parts.Slot.{Slot}
use Rattle.ds2_code.specs.CodeBound.{falls_through}
use Rattle.ds2_code.specs.InstructionTable.{kind_of}
use Rattle.ds2_code.specs.OperandTypes.{OperandTypes, CodeRole, OfUnit, when_in_bounds, types_behind}
use Rattle.ds2_code.specs.ValidCode.{CodePoint, point, behind_instruction, AlongList, IsValidChain, IsValidProgram, stage_parameters, lists_short, own_lists_short, is_short, constant_allowed}
use Rattle.ds2_slots.specs.LoadedHashes.{AreSlotTypesInBounds}
use Rattle.ds2_machine.specs.AtRest.{IsProgramOfValid}
use Rattle.ds2_frames.specs.OperationKinds.{has_type_in_bounds}
use Rattle.ds2_machine.specs.Executable.{IsExecutable}

-- each program of a chain is valid beside some thread program or none
pub valid_in_chain : (code : ProgramParts) (stages : List ProgramParts) → IsValidChain code stages → (k : ℕ) (c : ProgramParts) → slice_get (code ∷ stages) k ≡ Some c → (s : Option ProgramParts) × IsValidProgram c s
valid_in_chain code [] v zero c g = (None, (let w : code ≡ c = cc in subst (λ z. IsValidProgram z None) w v))
valid_in_chain code [] v (suc k) c g = absurd cc
valid_in_chain code (s ∷ ss) v zero c g = (Some s, (let w : code ≡ c = cc in subst (λ z. IsValidProgram z (Some s)) w v.0))
valid_in_chain code (s ∷ ss) v (suc k) c g = valid_in_chain s ss v.1 k c g

kept_by : (b : Bool) (types : Option OperandTypes) (left : OperandTypes) → (if b then types else None) ≡ Some left → IsTrue b
kept_by true types left h = refl
kept_by false types left h = absurd cc

kept_bounds : (t : Ty) (types : Option OperandTypes) (left : OperandTypes) → when_in_bounds t types ≡ Some left → IsTrue (in_bounds t)
kept_bounds t types left h = kept_by (in_bounds t) types left h

module _ (code : ProgramParts) (parameters : List (Option Ty)) where
  bounds_of : (role : CodeRole) (i : Instr) (types left : OperandTypes) → types_behind code parameters role i types ≡ Some left → IsTrue (has_type_in_bounds i)
  bounds_of role (instr.Const a) types left h = refl
  bounds_of role (instr.Null a) types left h = refl
  bounds_of role (instr.GLoad a) types left h = refl
  bounds_of role (instr.GStore a) types left h = refl
  bounds_of role (instr.LLoad a) types left h = refl
  bounds_of role (instr.LStore a) types left h = refl
  bounds_of role instr.DropTop types left h = refl
  bounds_of role instr.IToD types left h = refl
  bounds_of role (instr.Rescale a b) types left h = kept_bounds (DecimalOf a b) _ left h
  bounds_of role (instr.Pad a) types left h = kept_bounds (Char a) _ left h
  bounds_of role (instr.Cut a) types left h = kept_bounds (Varchar a) _ left h
  bounds_of role instr.IAdd types left h = refl
  bounds_of role instr.ISub types left h = refl
  bounds_of role instr.IMul types left h = refl
  bounds_of role instr.INeg types left h = refl
  bounds_of role instr.DAdd types left h = refl
  bounds_of role instr.DSub types left h = refl
  bounds_of role instr.DMul types left h = refl
  bounds_of role instr.DDiv types left h = refl
  bounds_of role instr.DNeg types left h = refl
  bounds_of role (instr.ICmp a) types left h = refl
  bounds_of role (instr.DCmp a) types left h = refl
  bounds_of role (instr.TCmp a) types left h = refl
  bounds_of role instr.And types left h = refl
  bounds_of role instr.Or types left h = refl
  bounds_of role instr.Not types left h = refl
  bounds_of role instr.ITruth types left h = refl
  bounds_of role instr.DTruth types left h = refl
  bounds_of role (instr.Choose a) types left h = refl
  bounds_of role (instr.Least a) types left h = refl
  bounds_of role (instr.Greatest a) types left h = refl
  bounds_of role (instr.Apply f) types left h = refl
  bounds_of role instr.Cat types left h = refl
  bounds_of role (instr.Tick a) types left h = refl
  bounds_of role (instr.Jump a) types left h = refl
  bounds_of role (instr.JFalse a) types left h = refl
  bounds_of role (instr.JTrue a) types left h = refl
  bounds_of role (instr.Call a) types left h = refl
  bounds_of role instr.Ret types left h = refl
  bounds_of role instr.RetV types left h = refl
  bounds_of role instr.NoWhen types left h = refl
  bounds_of role (instr.Output a) types left h = refl
  bounds_of role instr.Show types left h = refl
  bounds_of role (instr.Put a) types left h = refl
  bounds_of role (instr.HCall a b) types left h = refl
  bounds_of role (instr.ICall a b) types left h = refl
  bounds_of role (instr.SetParm a) types left h = refl
  bounds_of role instr.End types left h = refl

  bounds_along : (at : ℕ) (came : Bool) (before : CodePoint) (is : List Instr) (ps : List CodePoint) → AlongList code parameters at came before is ps
      → (k : ℕ) (i : Instr) → slice_get is k ≡ Some i → IsTrue (has_type_in_bounds i)
  bounds_along at came before [] ps h k i g = absurd cc
  bounds_along at came before (x ∷ is) [] h k i g = absurd h
  bounds_along at came before (x ∷ is) (p ∷ ps) h zero i g =
      let same : x ≡ i = cc in
      let P : Instr → Type 0 = λ z. IsTrue (has_type_in_bounds z) in
      subst P same (bounds_of p.role x p.types h.1 h.2)
  bounds_along at came before (x ∷ is) (p ∷ ps) h (suc k) i g =
      bounds_along (at + 1) (falls_through (kind_of x)) (behind_instruction (falls_through (kind_of x)) p.role h.1) is ps h.3 k i g

pub and_first : (a b : Bool) → IsTrue (a && b) → IsTrue a
and_first true b h = refl
and_first false b h = absurd cc

pub and_second : (a b : Bool) → IsTrue (a && b) → IsTrue b
and_second true b h = h
and_second false b h = absurd cc

short_instrs : (code : ProgramParts) → IsTrue (lists_short code) → length code.instrs < 2 ^ 32
short_instrs code h =
    let own : IsTrue (own_lists_short code) = and_first (own_lists_short code) _ h in
    let one : IsTrue (is_short code.parameters && (is_short code.methods && (is_short code.outputs && is_short code.instrs))) = and_second (is_short code.slots && (is_short code.constants && (is_short code.hashes && is_short code.iterators))) _ own in
    let two : IsTrue (is_short code.methods && (is_short code.outputs && is_short code.instrs)) = and_second (is_short code.parameters) _ one in
    let three : IsTrue (is_short code.outputs && is_short code.instrs) = and_second (is_short code.methods) _ two in
    let last : IsTrue (is_short code.instrs) = and_second (is_short code.outputs) _ three in
    ltb-true (length code.instrs) (2 ^ 32) last

pub executable : (code : ProgramParts) → IsProgramOfValid code → IsExecutable code
executable code valid =
    let v = valid_in_chain valid.parts.program valid.parts.stages valid.valid.chain valid.number code valid.here in
    record {
      steps = v.1.steps;
      short = short_instrs code v.1.lists;
      bounds = bounds_along code (stage_parameters v.0) 0 false (point OfUnit []) code.instrs v.1.types.0 v.1.types.1.along;
    }

-- the types of a program's slots are in bounds
pub slot_types : (code : ProgramParts) → IsProgramOfValid code → AreSlotTypesInBounds code.slots
slot_types code valid =
    let v = valid_in_chain valid.parts.program valid.parts.stages valid.valid.chain valid.number code valid.here in
    let slots = list_all (λ (s : Slot). in_bounds s.ty) code.slots in
    let constants = list_all constant_allowed code.constants in
    and_first slots constants (and_first (slots && constants) _ v.1.values)
