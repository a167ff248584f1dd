-- Operand types along the list, as a test that goes along it once. Whose code an instruction is, is known by a number.
use Rattle.std.specs.Prelude.{◌≡◌, ℕ, suc, ◌+◌, ◌<◌, length, ◌==◌, Bool, true, false, ◌&&◌, if◌then◌else◌, List, [], ◌∷◌, slice_get, slice_set, Option, Some, None, unwrap_or}
use Rattle.std.specs.Ordering.{nat_cmp}
use Rattle.std.specs.BTreeMap.{BTreeMap, get}
use Rattle.std.specs.Option.{option_and_then, option_flatten, option_map}
use Rattle.ds2_value.specs.declared.ty.Ty.{Ty}
use Rattle.ds2_code.specs.declared.instr.Instr.{Instr}
use Rattle.ds2_code.specs.declared.parts.MethodPart.{MethodPart}
use Rattle.ds2_code.specs.declared.parts.ProgramParts.{ProgramParts}
use Rattle.ds2_code.specs.CodeBound.{jump_target, falls_through}
use Rattle.ds2_code.specs.InstructionTable.{kind_of}
use Rattle.ds2_code.specs.OperandTypes.{OperandTypes, CodeRole, OfUnit, OfMethod, Signature, signature_of, types_behind}
use Rattle.ds2_code.specs.ValidCode.{unit_entries}
use Rattle.ds2_valid_code.specs.declared.owner.CodeOwner.{CodeOwner}
use Rattle.ds2_valid_code.specs.declared.owner.CodeOwner.TheVariants.{Unit as UnitCode, Method as MethodCode}
use Rattle.ds2_valid_code.specs.declared.owner.EntryPoint.{EntryPoint}
use Rattle.ds2_valid_code.specs.OperandStack.{stands_empty}
use Rattle.ds2_valid_code.specs.SignatureCodes.{signature_code, same_code}

-- ---- signatures

-- the number of the first method that passes a test
abbrev pub first_where : (MethodPart → Bool) → List MethodPart → Option ℕ
first_where test [] = None
first_where test (m ∷ ms) = if test m then Some 0 else option_map suc (first_where test ms)

-- the number of the first method with a signature
abbrev pub first_like : List MethodPart → Signature → Option ℕ
first_like methods signature = first_where (λ m. same_code (signature_code (signature_of m)) (signature_code signature)) methods

-- ---- whose code

-- the role of code of a method, where there is one
abbrev pub role_of_method : Option MethodPart → CodeRole
role_of_method None = OfUnit
role_of_method (Some m) = OfMethod (signature_of m)

-- the role of code by the number that it is known by
abbrev pub owner_role : List MethodPart → CodeOwner → CodeRole
owner_role methods UnitCode = OfUnit
owner_role methods (MethodCode k) = role_of_method (slice_get methods k)

-- a method's code is known by the number of the first method with an equal signature
abbrev pub owner_of : List MethodPart → MethodPart → CodeOwner
owner_of methods m = MethodCode (unwrap_or (first_like methods (signature_of m)) 0)

-- where code may be entered
abbrev pub entry_point : ℕ → CodeOwner → EntryPoint
entry_point at owner = record { at = at; owner = owner }

-- where units begin
abbrev pub unit_points : List ℕ → List EntryPoint
unit_points [] = []
unit_points (u ∷ us) = entry_point u UnitCode ∷ unit_points us

-- where methods begin
abbrev pub method_points : List MethodPart → List MethodPart → List EntryPoint
method_points methods [] = []
method_points methods (m ∷ ms) = entry_point m.entry (owner_of methods m) ∷ method_points methods ms

-- one number, or both a unit's
abbrev pub same_owner : CodeOwner → CodeOwner → Bool
same_owner UnitCode UnitCode = true
same_owner UnitCode (MethodCode k) = false
same_owner (MethodCode j) UnitCode = false
same_owner (MethodCode j) (MethodCode k) = j == k

-- ---- entries

-- whose entry each instruction is, before any is known
abbrev pub no_entries : List Instr → List (Option CodeOwner)
no_entries [] = []
no_entries (i ∷ is) = None ∷ no_entries is

-- with these entries
abbrev pub with_entries : List (Option CodeOwner) → List EntryPoint → List (Option CodeOwner)
with_entries table [] = table
with_entries table (p ∷ ps) = with_entries (slice_set table p.at (Some p.owner)) ps

-- with the entries of units
abbrev pub with_unit_entries : List (Option CodeOwner) → List ℕ → List (Option CodeOwner)
with_unit_entries table us = with_entries table (unit_points us)

-- with the entries of methods
abbrev pub with_method_entries : List MethodPart → List (Option CodeOwner) → List MethodPart → List (Option CodeOwner)
with_method_entries methods table ms = with_entries table (method_points methods ms)

-- whose entry each instruction is
abbrev pub entry_table : ProgramParts → List (Option CodeOwner)
entry_table code = with_method_entries code.methods (with_unit_entries (no_entries code.instrs) (unit_entries code)) code.methods

-- the entry that was looked up
abbrev pub entry_found : Option (Option CodeOwner) → Option CodeOwner
entry_found entry = option_flatten entry

-- a map has the entries of a table
abbrev pub HasEntries : BTreeMap ℕ CodeOwner → List (Option CodeOwner) → Type 0
HasEntries entries table = (at : ℕ) → at < length table → get nat_cmp entries at ≡ entry_found (slice_get table at)

-- ---- along the list

-- whose code it is before an instruction, and the types of the operands
pub record Standing : Type 0 where
  pub owner : CodeOwner
  pub types : OperandTypes

-- code of this owner with these operands
abbrev pub standing : CodeOwner → OperandTypes → Standing
standing owner types = record { owner = owner; types = types }

-- what stands at an instruction, for its entry; none where the run comes to an entry of another owner, or with operands
abbrev pub arriving : Option CodeOwner → Bool → Standing → Option Standing
arriving None came s = Some s
arriving (Some owner) false s = Some (standing owner [])
arriving (Some owner) true s = if same_owner owner s.owner && stands_empty s.types then Some (standing owner []) else None

-- no operand where the run may not come
abbrev pub types_onward : Bool → OperandTypes → OperandTypes
types_onward true types = types
types_onward false types = []

-- what is kept of an instruction: whose code it is, and whether no operand stands before it
pub record CodeMark : Type 0 where
  pub owner : CodeOwner
  pub is_empty : Bool

-- the mark of an instruction at which this stands
abbrev pub mark_of : Standing → CodeMark
mark_of s = record { owner = s.owner; is_empty = stands_empty s.types }

-- goes on from what stands, where it does
abbrev pub on_standing : Option Standing → (Standing → Option (List CodeMark)) → Option (List CodeMark)
on_standing s go = option_and_then go s

-- goes on with types, where they suffice
abbrev pub on_types : Option OperandTypes → (OperandTypes → Option (List CodeMark)) → Option (List CodeMark)
on_types types go = option_and_then go types

-- one more mark in front
abbrev pub with_mark : CodeMark → Option (List CodeMark) → Option (List CodeMark)
with_mark mark marks = option_map (λ l. mark ∷ l) marks

-- the marks of instructions, where each finds what it needs and the last one does not fall through
abbrev pub scan_code : ProgramParts → List (Option Ty) → List (Option CodeOwner) → ℕ → Bool → Standing → List Instr → Option (List CodeMark)
scan_code code parameters table at came s [] = if came then None else Some []
scan_code code parameters table at came s (i ∷ is) =
    on_standing (arriving (entry_found (slice_get table at)) came s)
    (λ q. on_types (types_behind code parameters (owner_role code.methods q.owner) i q.types)
    (λ types. with_mark (mark_of q)
    (scan_code code parameters table (at + 1) (falls_through (kind_of i)) (standing q.owner (types_onward (falls_through (kind_of i)) types)) is)))

-- ---- where code may be entered

-- an instruction is code of this owner, and no operand stands there
abbrev pub is_clear_for : Option CodeMark → CodeOwner → Bool
is_clear_for None owner = false
is_clear_for (Some mark) owner = same_owner mark.owner owner && mark.is_empty

-- a jump from code with this mark, where there is one, goes where no operand stands, in code of the same owner
abbrev pub lands_clear : List CodeMark → Option CodeMark → Option ℕ → Bool
lands_clear marks from None = true
lands_clear marks None (Some to) = false
lands_clear marks (Some mark) (Some to) = is_clear_for (slice_get marks to) mark.owner

-- each jump does so
abbrev pub jumps_land : List CodeMark → List Instr → ℕ → Bool
jumps_land marks [] at = true
jumps_land marks (i ∷ is) at = if lands_clear marks (slice_get marks at) (jump_target (kind_of i)) then jumps_land marks is (at + 1) else false

-- each entry is at its own code
abbrev pub points_clear : List CodeMark → List EntryPoint → Bool
points_clear marks [] = true
points_clear marks (p ∷ ps) = if is_clear_for (slice_get marks p.at) p.owner then points_clear marks ps else false

-- each unit begins at code of units
abbrev pub units_clear : List CodeMark → List ℕ → Bool
units_clear marks us = points_clear marks (unit_points us)

-- each method begins at its own code
abbrev pub methods_clear : List CodeMark → List MethodPart → List MethodPart → Bool
methods_clear marks methods ms = points_clear marks (method_points methods ms)

-- jumps and entries are clear
abbrev pub is_entered_clear : ProgramParts → Option (List CodeMark) → Bool
is_entered_clear code None = false
is_entered_clear code (Some marks) = jumps_land marks code.instrs 0 && (units_clear marks (unit_entries code) && methods_clear marks code.methods code.methods)

-- operand types are determined along the list, and suffice
abbrev pub types_suffice : ProgramParts → List (Option Ty) → Bool
types_suffice code parameters = is_entered_clear code (scan_code code parameters (entry_table code) 0 false (standing UnitCode []) code.instrs)
