-- The types of operands: what each instruction needs on the operand list, and what it leaves there.
use Rattle.std.specs.Prelude.{ℕ, ◌+◌, max, min, nat_le, Bool, true, false, ◌&&◌, if◌then◌else◌, List, [], ◌∷◌, ◌++◌, map, reverse, replicate, slice_get, Option, Some, None, unwrap_or}
use Rattle.std.specs.List.{cons_option}
use Rattle.std.specs.Option.{option_and, option_map}
use Rattle.ds2_value.specs.Types.{in_bounds}
use Rattle.ds2_value.specs.ValueFunctions.{is_of_class, always, as_operand, by_scales, text_length, type_by, function_row}
use Rattle.ds2_value.specs.declared.ty.TheConstants.{TEXT_CHARACTERS}
use Rattle.ds2_value.specs.declared.ty.Ty.{Ty}
use Rattle.ds2_value.specs.declared.ty.Ty.TheVariants.{BigInt, Decimal as DecimalOf, Char, Varchar}
use Rattle.ds2_value.specs.declared.value_function.OperandClass.{OperandClass}
use Rattle.ds2_value.specs.declared.value_function.OperandClass.TheVariants.{OneType, AnyDecimal, AnyText, AnyType}
use Rattle.ds2_code.specs.declared.instr.Instr.{Instr}
use Rattle.ds2_code.specs.declared.instr.Instr.TheVariants as instr
use Rattle.ds2_code.specs.declared.parts.Constant.{Constant}
use Rattle.ds2_code.specs.declared.parts.MethodPart.{MethodPart}
use Rattle.ds2_code.specs.declared.parts.ParameterPart.{ParameterPart}
use Rattle.ds2_code.specs.declared.parts.ProgramParts.{ProgramParts}
use Rattle.ds2_code.specs.declared.parts.Slot.{Slot}

-- the types of the operands of a frame, the topmost first
abbrev pub OperandTypes : Type 0
OperandTypes = List Ty

-- ---- whose code it is

-- what a method is to its callers and to its own code: its parameters, locals and result
pub record Signature : Type 0 where
  pub parameters : List ParameterPart
  pub locals : List Ty
  pub returns : Option Ty

-- whose code an instruction is: a unit's, or a method's of a signature, whichever method it is
pub data CodeRole : Type 0 where
  OfUnit : CodeRole
  OfMethod : Signature → CodeRole

-- the signature of a method
abbrev pub signature_of : MethodPart → Signature
signature_of method = record { parameters = method.parameters; locals = method.locals; returns = method.returns }

-- the types of parameters
abbrev pub types_of_parameters : List ParameterPart → List Ty
types_of_parameters parameters = map (λ (p : ParameterPart). p.ty) parameters

-- the types of the locals that code of a role has, the parameters first
abbrev pub types_of_locals : CodeRole → List Ty
types_of_locals OfUnit = []
types_of_locals (OfMethod signature) = types_of_parameters signature.parameters ++ signature.locals

-- ---- operands that are taken off

-- the types of operands that were taken off, the first operand first, and those below them
pub record TakenTypes : Type 0 where
  pub taken : List Ty
  pub below : OperandTypes

-- takes operands off, the topmost one as the first class says; none where they do not suffice
abbrev pub take_classes : List OperandClass → List Ty → OperandTypes → Option TakenTypes
take_classes [] taken types = Some (record { taken = taken; below = types })
take_classes (c ∷ cs) taken [] = None
take_classes (c ∷ cs) taken (t ∷ types) = if is_of_class c t then take_classes cs (t ∷ taken) types else None

-- an operand of a type on top, where there is such a type
abbrev pub with_type : Option Ty → OperandTypes → Option OperandTypes
with_type None types = None
with_type (Some t) types = Some (t ∷ types)

-- one operand for those that were taken off, by their types
abbrev pub one_for : (List Ty → Option Ty) → Option TakenTypes → Option OperandTypes
one_for result None = None
one_for result (Some operands) = with_type (result operands.taken) operands.below

-- none for those that were taken off
abbrev pub none_for : Option TakenTypes → Option OperandTypes
none_for None = None
none_for (Some operands) = Some operands.below

-- no operand stands
abbrev pub when_none : OperandTypes → Option OperandTypes
when_none [] = Some []
when_none (t ∷ types) = None

-- no operand stands below those that were taken off
abbrev pub none_below : Option TakenTypes → Option OperandTypes
none_below None = None
none_below (Some operands) = when_none operands.below

-- ---- the types of results

-- a VARCHAR of the lengths of two texts
abbrev pub both_texts : List Ty → Option Ty
both_texts (t ∷ u ∷ []) = Some (Varchar (min TEXT_CHARACTERS (text_length t + text_length u)))
both_texts _ = None

-- BIGINT or DECIMAL
abbrev pub is_number_type : Ty → Bool
is_number_type BigInt = true
is_number_type (DecimalOf p s) = true
is_number_type _ = false

-- ---- instructions

-- one operand for n of its type; at least so many, and at most 16
abbrev pub chosen_types : ℕ → ℕ → OperandTypes → Option OperandTypes
chosen_types least n [] = None
chosen_types least n (t ∷ types) =
    if nat_le least n && nat_le n 16 then one_for (always t) (take_classes (replicate n (OneType t)) [] (t ∷ types)) else None

-- one number for n of its type, from 2 to 16
abbrev pub chosen_numbers : ℕ → OperandTypes → Option OperandTypes
chosen_numbers n [] = None
chosen_numbers n (t ∷ types) = if is_number_type t then chosen_types 2 n (t ∷ types) else None

-- operands, where a type is in bounds
abbrev pub when_in_bounds : Ty → Option OperandTypes → Option OperandTypes
when_in_bounds t types = if in_bounds t then types else None

-- operands, where a part of the code is there
abbrev pub when_there : {A : Type 0} → Option A → Option OperandTypes → Option OperandTypes
when_there part types = option_and part types

-- a stored operand goes, which has exactly the type that is there
abbrev pub stored_type : Option Ty → OperandTypes → Option OperandTypes
stored_type None types = None
stored_type (Some t) types = none_for (take_classes (OneType t ∷ []) [] types)

-- the in_out parameters of a call on top, in order, so that the last one lies on top
abbrev pub with_in_out_types : List ParameterPart → OperandTypes → OperandTypes
with_in_out_types [] types = types
with_in_out_types (p ∷ ps) types = with_in_out_types ps (if p.is_in_out then p.ty ∷ types else types)

-- a method's result on top, where it has one
abbrev pub with_result_type : Option Ty → OperandTypes → OperandTypes
with_result_type t types = cons_option t types

-- what a call of a method leaves for its arguments, which have exactly the types of its parameters
abbrev pub after_call_types : MethodPart → Option TakenTypes → Option OperandTypes
after_call_types method None = None
after_call_types method (Some operands) = Some (with_in_out_types method.parameters (with_result_type method.returns operands.below))

-- what a call leaves, where there is such a method
abbrev pub call_types : Option MethodPart → OperandTypes → Option OperandTypes
call_types None types = None
call_types (Some method) types =
    after_call_types method (take_classes (map (λ (p : ParameterPart). OneType p.ty) (reverse method.parameters)) [] types)

-- no operand stands, for a method without a result
abbrev pub without_result : Option Ty → OperandTypes → Option OperandTypes
without_result None types = when_none types
without_result (Some t) types = None

-- the result alone stands, for a method with one
abbrev pub with_only_result : Option Ty → OperandTypes → Option OperandTypes
with_only_result None types = None
with_only_result (Some t) types = none_below (take_classes (OneType t ∷ []) [] types)

-- a return without a result, from a method without one
abbrev pub return_types : CodeRole → OperandTypes → Option OperandTypes
return_types OfUnit types = None
return_types (OfMethod signature) types = without_result signature.returns types

-- a return with a result, of exactly the method's type
abbrev pub result_types : CodeRole → OperandTypes → Option OperandTypes
result_types OfUnit types = None
result_types (OfMethod signature) types = with_only_result signature.returns types

-- the end of a unit
abbrev pub end_types : CodeRole → OperandTypes → Option OperandTypes
end_types OfUnit types = when_none types
end_types (OfMethod signature) types = None

-- the type of a slot that is there
abbrev pub slot_type : List Slot → ℕ → Option Ty
slot_type slots n = option_map (λ (s : Slot). s.ty) (slice_get slots n)

-- the types of a thread program's parameters
abbrev pub parameter_slot_types : ProgramParts → List (Option Ty)
parameter_slot_types stage = map (λ n. slot_type stage.slots n) stage.parameters

-- the type of parameter j of the thread program that a program reads from
abbrev pub type_of_parameter : List (Option Ty) → ℕ → Option Ty
type_of_parameter parameters j = unwrap_or (slice_get parameters j) None

-- the operand types behind an instruction in code of a role; none where the operands do not suffice, or a number of the
-- instruction is out of range. `parameters` are the types of the parameters of the thread program that the program reads from
abbrev pub types_behind : ProgramParts → List (Option Ty) → CodeRole → Instr → OperandTypes → Option OperandTypes
types_behind code parameters role (instr.Const k) types = with_type (option_map (λ (c : Constant). c.ty) (slice_get code.constants k)) types
types_behind code parameters role (instr.Null t) types = when_in_bounds t (Some (t ∷ types))
types_behind code parameters role (instr.GLoad n) types = with_type (slot_type code.slots n) types
types_behind code parameters role (instr.GStore n) types = stored_type (slot_type code.slots n) types
types_behind code parameters role (instr.LLoad n) types = with_type (slice_get (types_of_locals role) n) types
types_behind code parameters role (instr.LStore n) types = stored_type (slice_get (types_of_locals role) n) types
types_behind code parameters role instr.DropTop types = none_for (take_classes (AnyType ∷ []) [] types)
types_behind code parameters role instr.IToD types = one_for (always (DecimalOf 19 0)) (take_classes (OneType BigInt ∷ []) [] types)
types_behind code parameters role (instr.Rescale p s) types =
    when_in_bounds (DecimalOf p s) (one_for (always (DecimalOf p s)) (take_classes (AnyDecimal ∷ []) [] types))
types_behind code parameters role (instr.Pad n) types = when_in_bounds (Char n) (one_for (always (Char n)) (take_classes (AnyText ∷ []) [] types))
types_behind code parameters role (instr.Cut n) types = when_in_bounds (Varchar n) (one_for (always (Varchar n)) (take_classes (AnyText ∷ []) [] types))
types_behind code parameters role instr.IAdd types = one_for (always BigInt) (take_classes (OneType BigInt ∷ OneType BigInt ∷ []) [] types)
types_behind code parameters role instr.ISub types = one_for (always BigInt) (take_classes (OneType BigInt ∷ OneType BigInt ∷ []) [] types)
types_behind code parameters role instr.IMul types = one_for (always BigInt) (take_classes (OneType BigInt ∷ OneType BigInt ∷ []) [] types)
types_behind code parameters role instr.INeg types = one_for (always BigInt) (take_classes (OneType BigInt ∷ []) [] types)
types_behind code parameters role instr.DAdd types = one_for (by_scales max) (take_classes (AnyDecimal ∷ AnyDecimal ∷ []) [] types)
types_behind code parameters role instr.DSub types = one_for (by_scales max) (take_classes (AnyDecimal ∷ AnyDecimal ∷ []) [] types)
types_behind code parameters role instr.DMul types = one_for (by_scales (λ s t. s + t)) (take_classes (AnyDecimal ∷ AnyDecimal ∷ []) [] types)
types_behind code parameters role instr.DDiv types = one_for (by_scales (λ s t. max 6 (max s t))) (take_classes (AnyDecimal ∷ AnyDecimal ∷ []) [] types)
types_behind code parameters role instr.DNeg types = one_for as_operand (take_classes (AnyDecimal ∷ []) [] types)
types_behind code parameters role (instr.ICmp comparison) types = one_for (always BigInt) (take_classes (OneType BigInt ∷ OneType BigInt ∷ []) [] types)
types_behind code parameters role (instr.DCmp comparison) types = one_for (always BigInt) (take_classes (AnyDecimal ∷ AnyDecimal ∷ []) [] types)
types_behind code parameters role (instr.TCmp comparison) types = one_for (always BigInt) (take_classes (AnyText ∷ AnyText ∷ []) [] types)
types_behind code parameters role instr.And types = one_for (always BigInt) (take_classes (OneType BigInt ∷ OneType BigInt ∷ []) [] types)
types_behind code parameters role instr.Or types = one_for (always BigInt) (take_classes (OneType BigInt ∷ OneType BigInt ∷ []) [] types)
types_behind code parameters role instr.Not types = one_for (always BigInt) (take_classes (OneType BigInt ∷ []) [] types)
types_behind code parameters role instr.ITruth types = one_for (always BigInt) (take_classes (OneType BigInt ∷ []) [] types)
types_behind code parameters role instr.DTruth types = one_for (always BigInt) (take_classes (AnyDecimal ∷ []) [] types)
types_behind code parameters role (instr.Choose n) types = chosen_types 1 n types
types_behind code parameters role (instr.Least n) types = chosen_numbers n types
types_behind code parameters role (instr.Greatest n) types = chosen_numbers n types
types_behind code parameters role (instr.Apply f) types = one_for (type_by (function_row f).result) (take_classes (function_row f).operands [] types)
types_behind code parameters role instr.Cat types = one_for both_texts (take_classes (AnyText ∷ AnyText ∷ []) [] types)
types_behind code parameters role (instr.Tick place) types = Some types
types_behind code parameters role (instr.Jump target) types = when_none types
types_behind code parameters role (instr.JFalse target) types = none_below (take_classes (OneType BigInt ∷ []) [] types)
types_behind code parameters role (instr.JTrue target) types = none_below (take_classes (OneType BigInt ∷ []) [] types)
types_behind code parameters role (instr.Call m) types = call_types (slice_get code.methods m) types
types_behind code parameters role instr.Ret types = return_types role types
types_behind code parameters role instr.RetV types = result_types role types
types_behind code parameters role instr.NoWhen types = Some types
types_behind code parameters role (instr.Output o) types = when_there (slice_get code.outputs o) (Some types)
types_behind code parameters role instr.Show types = one_for (always (Varchar TEXT_CHARACTERS)) (take_classes (AnyType ∷ []) [] types)
types_behind code parameters role (instr.Put n) types = if nat_le n 1000000 then none_for (take_classes (replicate n AnyText) [] types) else None
types_behind code parameters role (instr.HCall h f) types = when_there (slice_get code.hashes h) (Some (BigInt ∷ types))
types_behind code parameters role (instr.ICall i f) types = when_there (slice_get code.iterators i) (Some (BigInt ∷ types))
types_behind code parameters role (instr.SetParm j) types = stored_type (type_of_parameter parameters j) types
types_behind code parameters role instr.End types = end_types role types
