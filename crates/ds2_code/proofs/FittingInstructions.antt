-- What an instruction leaves where it finds operands, locals and data of their types.
use Rattle.std.proofs.Common.{◌≡◌, ℕ, zero, suc, ◌+◌, ◌≤◌, max, min, Bool, true, false, ◌&&◌, List, [], ◌∷◌, ◌++◌, map, reverse, length, replicate, Option, Some, None, Result, Ok, refl, sym, ap, ◌∙◌, subst, IsTrue, nat_le, not, slice_get, slice_set, arith}
use Rattle.std.specs.Option.{option_map}
use Rattle.std.specs.Prelude.{unsigned_abs}
use Rattle.std.specs.List.{list_all}
use Rattle.std.proofs.lemmas.List.{length-replicate}
use Rattle.ds2_decimal.specs.Arithmetic as decimal
use Rattle.ds2_decimal.specs.Decimal.{Decimal}
use Rattle.ds2_decimal.specs.declared.dec.DecFault.{DecFault}
use Rattle.ds2_value.specs.Functions.{length_of, trim_of, concat_of, substr_of, is_null_of, first_of, lesser_of, greater_of}
use Rattle.ds2_value.specs.Keeping.{AssignedFits, FittingIsHeld}
use Rattle.ds2_value.specs.Operations.{of_decimals, of_decimal, widened, line_value, of_one, of_two}
use Rattle.ds2_value.specs.Row.{Row}
use Rattle.ds2_value.specs.Types.{in_bounds, fits}
use Rattle.ds2_value.specs.Value.{is_null, or_null}
use Rattle.ds2_value.specs.declared.fault.Fault.{Fault}
use Rattle.ds2_value.specs.declared.ty.TheConstants.{TEXT_CHARACTERS}
use Rattle.ds2_value.specs.declared.ty.Ty.{Ty}
use Rattle.ds2_value.specs.declared.ty.Ty.TheVariants.{BigInt, Decimal as DecimalOf, Char, Varchar}
use Rattle.ds2_value.specs.declared.value.Value.{Value}
use Rattle.ds2_value.specs.declared.value.Value.TheVariants.{Null}
use Rattle.ds2_value.specs.declared.value_function.ValueFunction.{ValueFunction}
use Rattle.ds2_value.specs.declared.value_function.ValueFunction.TheVariants as function
use Rattle.ds2_code.specs.declared.instr.Instr.{Instr}
use Rattle.ds2_code.specs.declared.instr.Instr.TheVariants as instr
use Rattle.ds2_code.specs.declared.parts.Constant.{Constant}
use Rattle.ds2_code.specs.declared.parts.HashPart.{HashPart}
use Rattle.ds2_code.specs.declared.parts.MethodPart.{MethodPart}
use Rattle.ds2_code.specs.declared.parts.ParameterPart.{ParameterPart}
use Rattle.ds2_code.specs.declared.parts.ProgramParts.{ProgramParts}
use Rattle.ds2_code.specs.CodeRun.{method_result}
use Rattle.ds2_code.specs.Desk.{Desk, Taken, take_off, constant_value, loaded_value, with_stored}
use Rattle.ds2_code.specs.InstructionTable.{Kind, Pure, Partial, Loads, Stores, Drops, CallsHash, CallsIterator, Writes, Puts, Ticks, Jumps, Tests, Enters, GoesBack, Raises, Finishes, kind_of}
use Rattle.ds2_value.specs.ValueFunctions.{function_row, type_by, function_value, is_text_type, text_length, always, as_operand, by_scales, part_of_first}
use Rattle.ds2_value.specs.declared.value_function.OperandClass.{OperandClass}
use Rattle.ds2_value.specs.declared.value_function.OperandClass.TheVariants.{OneType, AnyDecimal, AnyText, AnyType}
use Rattle.ds2_code.specs.OperandTypes.{OperandTypes, Signature, CodeRole, OfUnit, OfMethod, TakenTypes, take_classes, with_type, one_for, none_for, both_texts, when_there, stored_type, types_of_parameters, types_of_locals, with_in_out_types, with_result_type, after_call_types, call_types, without_result, with_only_result, return_types, result_types, slot_type, type_of_parameter, types_behind}
use Rattle.ds2_code.specs.ValidCode.{constant_allowed, is_char_type, stage_parameters}
use Rattle.ds2_code.specs.Fitting.{is_of_type, AreOfTypes, slot_types, AreParametersOfStage}
use Rattle.ds2_code.proofs.FittingLists.{both, if_some, when_true, some_is, type_bounds, of_type, get_of_type, set_of_type, slot_type_at, parameter_of_slots}
use Rattle.ds2_code.proofs.FittingTexts.{varchar_bounds, text_bounds, part_bounds, length_fits, trim_fits, IsPart, substr_fits, concat_fits, line_fits}
use Rattle.ds2_code.proofs.FittingNumbers.{is_bigint_result, bigint_ok, sum_fits, difference_fits, product_fits, remainder_fits, negative_fits, absolute_fits, compared_fits, and_fits, or_fits, not_fits, condition_fits, is_null_fits, HasScale, sum_scale, difference_scale, product_scale, quotient_scale_is, remainder_scale, of_decimals_fits, scales_bounds, of_decimal_fits, negative_size, whole_fits, floor_less, ceil_less, widened_fits, value_held, rescaled_fits, brought_fits, first_keeps, lesser_keeps, greater_keeps}
use Rattle.ds2_code.proofs.FittingOperands.{put_of_type, first_class, dropped_of_types, stored_of_type, none_of_types, only_of_type, chosen_fits, number_fits, arguments_fit}

-- the types of what a method leaves as its result
abbrev pub types_of_result : Option Ty → List Ty
types_of_result None = []
types_of_result (Some t) = t ∷ []

-- a call finds arguments of the types of its parameters, and leaves in_out parameters and a result
abbrev pub CallFits : ProgramParts → ℕ → OperandTypes → OperandTypes → Type 0
CallFits code m types after =
    (method : MethodPart) × (slice_get code.methods m ≡ Some method) × (below : OperandTypes)
    × (after ≡ with_in_out_types method.parameters (with_result_type method.returns below))
    × ((stack : Row) (t : Taken) → AreOfTypes stack types → take_off (length method.parameters) [] stack ≡ Some t → AreOfTypes t.values (types_of_parameters method.parameters) × AreOfTypes t.below below)

-- a return stands in a method, and finds its result
abbrev pub ReturnFits : CodeRole → Bool → OperandTypes → Type 0
ReturnFits role b types =
    (signature : Signature) × (role ≡ OfMethod signature) × ((stack r : Row) → AreOfTypes stack types → method_result b stack ≡ Some r → AreOfTypes r (types_of_result signature.returns))

-- by kinds
abbrev pub FitsFor : ProgramParts → Option ProgramParts → CodeRole → Kind → OperandTypes → OperandTypes → Type 0
FitsFor code stage role (Pure k f) types after = (stack : Row) (t : Taken) → AreOfTypes stack types → take_off k [] stack ≡ Some t → AreOfTypes (f t.values ∷ t.below) after
FitsFor code stage role (Partial k f) types after = (stack : Row) (t : Taken) (v : Value) → AreOfTypes stack types → take_off k [] stack ≡ Some t → f t.values ≡ Ok v → AreOfTypes (v ∷ t.below) after
FitsFor code stage role (Loads s) types after =
    (d : Desk) → AreOfTypes d.stack types → AreOfTypes d.locals (types_of_locals role) → AreOfTypes d.state.slots (slot_types code.slots) → AreOfTypes (loaded_value code.constants s d ∷ d.stack) after
FitsFor code stage role (Stores s) types after =
    (v : Value) (stack : Row) (d : Desk) → AreOfTypes (v ∷ stack) types → AreOfTypes d.locals (types_of_locals role) → AreOfTypes d.state.slots (slot_types code.slots) → AreParametersOfStage stage d.state.parameters
    → AreOfTypes stack after × AreOfTypes (with_stored s v d).locals (types_of_locals role) × AreOfTypes (with_stored s v d).state.slots (slot_types code.slots)
    × AreParametersOfStage stage (with_stored s v d).state.parameters
FitsFor code stage role Drops types after = (v : Value) (stack : Row) → AreOfTypes (v ∷ stack) types → AreOfTypes stack after
FitsFor code stage role (CallsHash f h) types after = (part : HashPart) × (slice_get code.hashes h ≡ Some part) × (after ≡ BigInt ∷ types)
FitsFor code stage role (CallsIterator f i) types after = after ≡ BigInt ∷ types
FitsFor code stage role (Writes o) types after = after ≡ types
FitsFor code stage role (Puts k) types after = (stack : Row) (t : Taken) → AreOfTypes stack types → take_off k [] stack ≡ Some t → AreOfTypes t.below after
FitsFor code stage role (Ticks p) types after = after ≡ types
FitsFor code stage role (Jumps t) types after = (stack : Row) → AreOfTypes stack types → stack ≡ []
FitsFor code stage role (Tests b t) types after = (v : Value) (stack : Row) → AreOfTypes (v ∷ stack) types → (stack ≡ []) × (after ≡ [])
FitsFor code stage role (Enters m) types after = CallFits code m types after
FitsFor code stage role (GoesBack b) types after = ReturnFits role b types
FitsFor code stage role (Raises f) types after = Unit {0}
FitsFor code stage role Finishes types after = Unit {0}

-- ---- constants

constant_of_type : (c : Constant) → constant_allowed c ≡ true → IsTrue (is_of_type c.value c.ty)
constant_of_type c h =
    let k = both (in_bounds c.ty && not (is_char_type c.ty)) (not (is_null c.value) && fits c.value c.ty) h in
    of_type c.value c.ty ((both (not (is_null c.value)) (fits c.value c.ty) k.1).1) ((both (in_bounds c.ty) (not (is_char_type c.ty)) k.0).0)

constants_of_types : (cs : List Constant) (k : ℕ) (t : Ty) → list_all constant_allowed cs ≡ true → option_map (λ (c : Constant). c.ty) (slice_get cs k) ≡ Some t → IsTrue (is_of_type (constant_value k cs) t)
constants_of_types [] k t h g = absurd cc
constants_of_types (c ∷ cs) zero t h g = subst (λ z. IsTrue (is_of_type c.value z)) (some_is c.ty t g) (constant_of_type c (both (constant_allowed c) (list_all constant_allowed cs) h).0)
constants_of_types (c ∷ cs) (suc k) t h g = constants_of_types cs k t (both (constant_allowed c) (list_all constant_allowed cs) h).1 g

-- ---- loads and stores

typed_fits : (v : Value) (stack : Row) (o : Option Ty) (types after : OperandTypes) → with_type o types ≡ Some after → ((t : Ty) → o ≡ Some t → IsTrue (is_of_type v t)) → AreOfTypes stack types → AreOfTypes (v ∷ stack) after
typed_fits v stack None types after h g s = absurd cc
typed_fits v stack (Some t) types after h g s = subst (λ (z : OperandTypes). AreOfTypes (v ∷ stack) z) (some_is (t ∷ types) after h) (g t refl, s)

stored_type_fits : (o : Option Ty) (v : Value) (stack : Row) (types after : OperandTypes) → stored_type o types ≡ Some after → AreOfTypes (v ∷ stack) types → ((t : Ty) → o ≡ Some t → IsTrue (is_of_type v t)) × AreOfTypes stack after
stored_type_fits None v stack types after h s = absurd cc
stored_type_fits (Some u) v stack types after h s =
    let k = stored_of_type u v stack types after h s in (λ t e. subst (λ z. IsTrue (is_of_type v z)) (some_is u t e) k.0, k.1)

-- ---- calls and returns

call_fits : (code : ProgramParts) (m : ℕ) (types after : OperandTypes) → call_types (slice_get code.methods m) types ≡ Some after → CallFits code m types after
call_fits code m types after h = of (slice_get code.methods m) refl h
  where
    of : (o : Option MethodPart) → slice_get code.methods m ≡ o → call_types o types ≡ Some after → CallFits code m types after
    of None e h = absurd cc
    of (Some method) e h = taken (take_classes (map (λ (p : ParameterPart). OneType p.ty) (reverse method.parameters)) [] types) refl h
      where
        taken : (q : Option TakenTypes) → take_classes (map (λ (p : ParameterPart). OneType p.ty) (reverse method.parameters)) [] types ≡ q → after_call_types method q ≡ Some after → CallFits code m types after
        taken None f h = absurd cc
        taken (Some q) f h =
            (method, e, q.below, sym (some_is (with_in_out_types method.parameters (with_result_type method.returns q.below)) after h), λ stack t s g. arguments_fit method.parameters types q stack t f s g)

no_result : (r : Option Ty) (types after : OperandTypes) (stack row : Row) → without_result r types ≡ Some after → method_result false stack ≡ Some row → AreOfTypes row (types_of_result r)
no_result None types after stack row h g = let e : [] ≡ row = cc in subst (λ (z : Row). AreOfTypes z []) e tt
no_result (Some t) types after stack row h g = absurd cc

one_result : (r : Option Ty) (types after : OperandTypes) (stack row : Row) → with_only_result r types ≡ Some after → AreOfTypes stack types → method_result true stack ≡ Some row → AreOfTypes row (types_of_result r)
one_result None types after stack row h s g = absurd cc
one_result (Some t) types after [] row h s g = absurd cc
one_result (Some t) types after (v ∷ stack) row h s g =
    let e : v ∷ [] ≡ row = cc in subst (λ (z : Row). AreOfTypes z (t ∷ [])) e ((only_of_type t v stack types after h s).0, tt)

return_fits : (role : CodeRole) (types after : OperandTypes) → return_types role types ≡ Some after → ReturnFits role false types
return_fits OfUnit types after h = absurd cc
return_fits (OfMethod signature) types after h = (signature, refl, λ stack r s g. no_result signature.returns types after stack r h g)

result_fits : (role : CodeRole) (types after : OperandTypes) → result_types role types ≡ Some after → ReturnFits role true types
result_fits OfUnit types after h = absurd cc
result_fits (OfMethod signature) types after h = (signature, refl, λ stack r s g. one_result signature.returns types after stack r h s g)

none_there : {A : Type 0} (o : Option A) (types : Option OperandTypes) (after : OperandTypes) → when_there o types ≡ Some after → types ≡ Some after
none_there None types after h = absurd cc
none_there (Some x) types after h = h

part_there : (o : Option HashPart) (types after : OperandTypes) → when_there o (Some types) ≡ Some after → (part : HashPart) × (o ≡ Some part) × (after ≡ types)
part_there None types after h = absurd cc
part_there (Some part) types after h = (part, refl, sym (some_is types after h))

-- a parameter of the thread program is set
stage_parameter : (stage : Option ProgramParts) (parameters : Row) (j : ℕ) (v : Value) → AreParametersOfStage stage parameters → ((t : Ty) → type_of_parameter (stage_parameters stage) j ≡ Some t → IsTrue (is_of_type v t))
    → AreParametersOfStage stage (slice_set parameters j v)
stage_parameter None parameters j v h g = tt
stage_parameter (Some stage) parameters j v h g = parameter_of_slots stage.slots stage.parameters parameters j v h g

-- ---- instructions

first_bounds : (vs : Row) (t : Ty) (more : List Ty) → AreOfTypes vs (t ∷ more) → in_bounds t ≡ true
first_bounds [] t more h = absurd h
first_bounds (v ∷ vs) t more h = type_bounds v t h.0

-- the type of a part of the first operand
part_is : (t : Ty) (more : List Ty) (u : Ty) → is_text_type t ≡ true → part_of_first (t ∷ more) ≡ Some u → Varchar (text_length t) ≡ u
part_is BigInt more u k e = absurd cc
part_is (DecimalOf p s) more u k e = absurd cc
part_is (Char n) more u k e = some_is (Varchar n) u e
part_is (Varchar n) more u k e = some_is (Varchar n) u e

-- texts of a part of the first operand
part_typed : (v : Value) (cs : List OperandClass) (types : OperandTypes) (vs : Row) (q : TakenTypes) (u : Ty) → take_classes (cs ++ AnyText ∷ []) [] types ≡ Some q → AreOfTypes vs q.taken → part_of_first q.taken ≡ Some u
    → ((t : Ty) (more : List Ty) → AreOfTypes vs (t ∷ more) → fits v (Varchar (text_length t)) ≡ true) → IsTrue (is_of_type v u)
part_typed v cs types vs q u e s r made =
    let c = first_class cs AnyText [] types q e in
    let here : AreOfTypes vs (c.0 ∷ c.1) = subst (λ (z : List Ty). AreOfTypes vs z) c.2 s in
    let is : Varchar (text_length c.0) ≡ u = part_is c.0 c.1 u c.3 (sym (ap part_of_first c.2) ∙ r) in
    subst (λ z. IsTrue (is_of_type v z)) is (of_type v (Varchar (text_length c.0)) (made c.0 c.1 here) (part_bounds c.0 (first_bounds vs c.0 c.1 here) c.3))

part_ok : (n : ℕ) (r : Result Value Fault) (v : Value) → IsPart n r → r ≡ Ok v → fits v (Varchar n) ≡ true
part_ok n r v h e = subst (λ z. IsPart n z) e h

-- two texts one after the other
both_typed : (v : Value) (types : OperandTypes) (vs : Row) (q : TakenTypes) (u : Ty) → take_classes (AnyText ∷ AnyText ∷ []) [] types ≡ Some q → AreOfTypes vs q.taken → both_texts q.taken ≡ Some u
    → ((t w : Ty) → AreOfTypes vs (t ∷ w ∷ []) → fits v (Varchar (min TEXT_CHARACTERS (text_length t + text_length w))) ≡ true) → IsTrue (is_of_type v u)
both_typed v types vs q u e s r made =
    let c = first_class (AnyText ∷ []) AnyText [] types q e in
    of c.0 c.1 c.3 (subst (λ (z : List Ty). AreOfTypes vs z) c.2 s) (sym (ap both_texts c.2) ∙ r)
  where
    of : (t : Ty) (more : List Ty) → is_text_type t ≡ true → AreOfTypes vs (t ∷ more) → both_texts (t ∷ more) ≡ Some u → IsTrue (is_of_type v u)
    of t [] k h g = absurd cc
    of t (w ∷ []) k h g =
        let n = min TEXT_CHARACTERS (text_length t + text_length w) in
        let long = text_bounds t (first_bounds vs t (w ∷ []) h) k in
        let some : 1 ≤ min TEXT_CHARACTERS (text_length t + text_length w) = omega (arith, long.0) in
        let few : min TEXT_CHARACTERS (text_length t + text_length w) ≤ 1024 = omega arith in
        let is : Varchar (min TEXT_CHARACTERS (text_length t + text_length w)) ≡ u = some_is (Varchar n) u g in
        subst (λ z. IsTrue (is_of_type v z)) is (of_type v (Varchar n) (made t w h) (varchar_bounds n some few))
    of t (w ∷ x ∷ more) k h g = absurd cc

-- a value that can't be a fault
abbrev sure_of : (Row → Value) → Row → Result Value Fault
sure_of f vs = Ok (f vs)

module _ (held : FittingIsHeld) (assigned : AssignedFits) (code : ProgramParts) (stage : Option ProgramParts) (constants : list_all constant_allowed code.constants ≡ true) (role : CodeRole) where
  -- an operation whose result is of one type
  of_one_type : (f : Row → Value) (u : Ty) → in_bounds u ≡ true → ((vs : Row) (ts : List Ty) → AreOfTypes vs ts → fits (f vs) u ≡ true) → (cs : List OperandClass) (types after : OperandTypes) → one_for (always u) (take_classes cs [] types) ≡ Some after
      → (stack : Row) (t : Taken) → AreOfTypes stack types → take_off (length cs) [] stack ≡ Some t → AreOfTypes (f t.values ∷ t.below) after
  of_one_type f u b made cs types after h stack t s g =
      put_of_type (f t.values) (always u) t cs types (λ q w e k r. subst (λ z. IsTrue (is_of_type (f t.values) z)) (some_is u w r) (of_type (f t.values) u (made t.values q.taken k) b)) after stack h s g

  -- one that gives a BIGINT
  bigint_value : (f : Row → Value) → ((vs : Row) (ts : List Ty) → AreOfTypes vs ts → fits (f vs) BigInt ≡ true) → (cs : List OperandClass) (types after : OperandTypes) → one_for (always BigInt) (take_classes cs [] types) ≡ Some after
      → (stack : Row) (t : Taken) → AreOfTypes stack types → take_off (length cs) [] stack ≡ Some t → AreOfTypes (f t.values ∷ t.below) after
  bigint_value f made cs types after h = of_one_type f BigInt refl made cs types after h

  -- one that gives a BIGINT or a fault
  bigint_outcome : (f : Row → Result Value Fault) → ((vs : Row) (ts : List Ty) → AreOfTypes vs ts → IsTrue (is_bigint_result (f vs))) → (cs : List OperandClass) (types after : OperandTypes) → one_for (always BigInt) (take_classes cs [] types) ≡ Some after
      → (stack : Row) (t : Taken) (v : Value) → AreOfTypes stack types → take_off (length cs) [] stack ≡ Some t → f t.values ≡ Ok v → AreOfTypes (v ∷ t.below) after
  bigint_outcome f made cs types after h stack t v s g e =
      put_of_type v (always BigInt) t cs types (λ q w is k r. subst (λ z. IsTrue (is_of_type v z)) (some_is BigInt w r) (of_type v BigInt (bigint_ok (f t.values) v (made t.values q.taken k) e) refl)) after stack h s g

  -- one on two decimals
  of_two_decimals : (f : Decimal → Decimal → Result Decimal DecFault) (scale : ℕ → ℕ → ℕ) → ((a b d : Decimal) → f a b ≡ Ok d → HasScale (scale a.scale b.scale) d) → (types after : OperandTypes)
      → one_for (by_scales scale) (take_classes (AnyDecimal ∷ AnyDecimal ∷ []) [] types) ≡ Some after
      → (stack : Row) (t : Taken) (v : Value) → AreOfTypes stack types → take_off 2 [] stack ≡ Some t → of_two (of_decimals f) t.values ≡ Ok v → AreOfTypes (v ∷ t.below) after
  of_two_decimals f scale made types after h stack t v s g e =
      put_of_type v (by_scales scale) t (AnyDecimal ∷ AnyDecimal ∷ []) types (λ q u is k r. of_type v u (of_decimals_fits f scale made t.values v q.taken u e k r) (scales_bounds scale q.taken u r)) after stack h s g

  -- one on a decimal that gives one of the same type
  same_sign : (f : Decimal → Decimal) → ((d : Decimal) → (f d).scale ≡ d.scale) → ((d : Decimal) → unsigned_abs (f d).units ≡ unsigned_abs d.units) → (types after : OperandTypes) → one_for as_operand (take_classes (AnyDecimal ∷ []) [] types) ≡ Some after
      → (stack : Row) (t : Taken) → AreOfTypes stack types → take_off 1 [] stack ≡ Some t → AreOfTypes (of_one (of_decimal f) t.values ∷ t.below) after
  same_sign f kept size types after h stack t s g =
      put_of_type (of_one (of_decimal f) t.values) as_operand t (AnyDecimal ∷ []) types (λ q u is k r. of_type (of_one (of_decimal f) t.values) u (of_decimal_fits f kept size t.values q.taken u k r) (operand_bounds t.values q.taken u k r)) after stack h s g
    where
      operand_bounds : (vs : Row) (ts : List Ty) (u : Ty) → AreOfTypes vs ts → as_operand ts ≡ Some u → in_bounds u ≡ true
      operand_bounds vs [] u h r = absurd cc
      operand_bounds [] (t ∷ []) u h r = absurd h
      operand_bounds (v ∷ vs) (t ∷ []) u h r = subst (λ z. in_bounds z ≡ true) (some_is t u r) (type_bounds v t h.0)
      operand_bounds vs (t ∷ w ∷ ts) u h r = absurd cc

  -- one on a text that gives a part of it, or a fault
  part_outcome : (cs : List OperandClass) (types after : OperandTypes) → one_for part_of_first (take_classes (cs ++ AnyText ∷ []) [] types) ≡ Some after
      → (stack : Row) (t : Taken) (v : Value) → AreOfTypes stack types → take_off (length (cs ++ AnyText ∷ [])) [] stack ≡ Some t → substr_of t.values ≡ Ok v → AreOfTypes (v ∷ t.below) after
  part_outcome cs types after h stack t v s g e =
      put_of_type v part_of_first t (cs ++ AnyText ∷ []) types (λ q u is k r. part_typed v cs types t.values q u is k r (λ ty more f. part_ok (text_length ty) (substr_of t.values) v (substr_fits t.values ty more f) e)) after stack h s g

  shown_fits : (vs : Row) (ts : List Ty) → AreOfTypes vs ts → fits (of_one line_value vs) (Varchar TEXT_CHARACTERS) ≡ true
  shown_fits [] ts h = refl
  shown_fits (v ∷ []) [] h = absurd h
  shown_fits (v ∷ []) (t ∷ ts) h = line_fits v (value_held held assigned v t h.0)
  shown_fits (a ∷ b ∷ vs) ts h = refl

  -- a function that can't fault
  sure : (f : Row → Value) (n : ℕ) (types after : OperandTypes) → ((stack : Row) (t : Taken) → AreOfTypes stack types → take_off n [] stack ≡ Some t → AreOfTypes (f t.values ∷ t.below) after)
      → (stack : Row) (t : Taken) (v : Value) → AreOfTypes stack types → take_off n [] stack ≡ Some t → sure_of f t.values ≡ Ok v → AreOfTypes (v ∷ t.below) after
  sure f n types after made stack t v s g e = let is : f t.values ≡ v = cc in subst (λ z. AreOfTypes (z ∷ t.below) after) is (made stack t s g)

  -- functions of values, row by row
  function_kept : (f : ValueFunction) (types after : OperandTypes) → one_for (type_by (function_row f).result) (take_classes (function_row f).operands [] types) ≡ Some after
      → (stack : Row) (t : Taken) (v : Value) → AreOfTypes stack types → take_off (length (function_row f).operands) [] stack ≡ Some t → function_value f t.values ≡ Ok v → AreOfTypes (v ∷ t.below) after
  function_kept function.IntegerAbsolute types after h = bigint_outcome _ absolute_fits (OneType BigInt ∷ []) types after h
  function_kept function.IntegerModulo types after h = bigint_outcome _ remainder_fits (OneType BigInt ∷ OneType BigInt ∷ []) types after h
  function_kept function.DecimalAbsolute types after h =
      sure (of_one (of_decimal decimal.abs)) 1 types after (same_sign decimal.abs (λ d. refl) (λ d. refl) types after h)
  function_kept function.DecimalModulo types after h = of_two_decimals decimal.modulo max remainder_scale types after h
  function_kept function.Floor types after h =
      sure (of_one (of_decimal decimal.floor)) 1 types after (of_one_type (of_one (of_decimal decimal.floor)) (DecimalOf 38 0) refl (whole_fits decimal.floor (λ d. refl) floor_less) (AnyDecimal ∷ []) types after h)
  function_kept function.Ceiling types after h =
      sure (of_one (of_decimal decimal.ceil)) 1 types after (of_one_type (of_one (of_decimal decimal.ceil)) (DecimalOf 38 0) refl (whole_fits decimal.ceil (λ d. refl) ceil_less) (AnyDecimal ∷ []) types after h)
  function_kept function.IsNull types after h = sure is_null_of 1 types after (bigint_value is_null_of is_null_fits (AnyType ∷ []) types after h)
  function_kept function.Length types after h = sure length_of 1 types after (bigint_value length_of length_fits (AnyText ∷ []) types after h)
  function_kept function.Substring types after h = part_outcome (OneType BigInt ∷ OneType BigInt ∷ []) types after h
  function_kept function.SubstringFrom types after h = part_outcome (OneType BigInt ∷ []) types after h
  function_kept function.Trim types after h = sure trim_of 1 types after (λ stack t s g.
      put_of_type (trim_of t.values) part_of_first t (AnyText ∷ []) types (λ q u is k r. part_typed (trim_of t.values) [] types t.values q u is k r (λ a more f. trim_fits t.values a more f)) after stack h s g)

  pub types_kept : (i : Instr) (types after : OperandTypes) → types_behind code (stage_parameters stage) role i types ≡ Some after → FitsFor code stage role (kind_of i) types after
  types_kept (instr.Const k) types after h = λ d s l g. typed_fits (constant_value k code.constants) d.stack _ types after h (λ t e. constants_of_types code.constants k t constants e) s
  types_kept (instr.Null u) types after h = λ stack t s g.
      let e : u ∷ types ≡ after = some_is (u ∷ types) after (if_some (in_bounds u) (Some (u ∷ types)) after h) in
      let b : IsTrue (is_of_type Null u) = of_type Null u refl (when_true (in_bounds u) (Some (u ∷ types)) after h) in
      let f : record { values = []; below = stack } ≡ t = cc in
      subst (λ (z : OperandTypes). AreOfTypes (Null ∷ t.below) z) e (subst (λ (z : Taken). AreOfTypes (Null ∷ z.below) (u ∷ types)) f (b, s))
  types_kept (instr.GLoad n) types after h = λ d s l g.
      typed_fits (or_null (slice_get d.state.slots n)) d.stack _ types after h (λ t e. get_of_type d.state.slots (slot_types code.slots) n t g (slot_type_at code.slots n ∙ e)) s
  types_kept (instr.GStore n) types after h = λ v stack d s l g p.
      let k = stored_type_fits (slot_type code.slots n) v stack types after h s in
      (k.1, l, set_of_type d.state.slots (slot_types code.slots) n v g (λ t e. k.0 t (sym (slot_type_at code.slots n) ∙ e)), p)
  types_kept (instr.LLoad n) types after h = λ d s l g. typed_fits (or_null (slice_get d.locals n)) d.stack _ types after h (λ t e. get_of_type d.locals (types_of_locals role) n t l e) s
  types_kept (instr.LStore n) types after h = λ v stack d s l g p.
      let k = stored_type_fits (slice_get (types_of_locals role) n) v stack types after h s in (k.1, set_of_type d.locals (types_of_locals role) n v l k.0, g, p)
  types_kept instr.DropTop types after h = λ v stack s. dropped_of_types (AnyType ∷ []) types after (v ∷ stack) (record { values = v ∷ []; below = stack }) h s refl
  types_kept instr.IToD types after h = of_one_type (of_one widened) (DecimalOf 19 0) refl widened_fits (OneType BigInt ∷ []) types after h
  types_kept (instr.Rescale p s) types after h = λ stack t v k g e.
      let b = when_true (in_bounds (DecimalOf p s)) (one_for (always (DecimalOf p s)) (take_classes (AnyDecimal ∷ []) [] types)) after h in
      put_of_type v (always (DecimalOf p s)) t (AnyDecimal ∷ []) types
      (λ q u is f r. subst (λ z. IsTrue (is_of_type v z)) (some_is (DecimalOf p s) u r) (of_type v (DecimalOf p s) (rescaled_fits held assigned (DecimalOf p s) b t.values q.taken v f e) b)) after stack
      (if_some (in_bounds (DecimalOf p s)) (one_for (always (DecimalOf p s)) (take_classes (AnyDecimal ∷ []) [] types)) after h) k g
  types_kept (instr.Pad n) types after h =
      let b = when_true (in_bounds (Char n)) (one_for (always (Char n)) (take_classes (AnyText ∷ []) [] types)) after h in
      of_one_type _ (Char n) b (brought_fits held assigned (Char n) b) (AnyText ∷ []) types after (if_some (in_bounds (Char n)) (one_for (always (Char n)) (take_classes (AnyText ∷ []) [] types)) after h)
  types_kept (instr.Cut n) types after h =
      let b = when_true (in_bounds (Varchar n)) (one_for (always (Varchar n)) (take_classes (AnyText ∷ []) [] types)) after h in
      of_one_type _ (Varchar n) b (brought_fits held assigned (Varchar n) b) (AnyText ∷ []) types after (if_some (in_bounds (Varchar n)) (one_for (always (Varchar n)) (take_classes (AnyText ∷ []) [] types)) after h)
  types_kept instr.IAdd types after h = bigint_outcome _ sum_fits (OneType BigInt ∷ OneType BigInt ∷ []) types after h
  types_kept instr.ISub types after h = bigint_outcome _ difference_fits (OneType BigInt ∷ OneType BigInt ∷ []) types after h
  types_kept instr.IMul types after h = bigint_outcome _ product_fits (OneType BigInt ∷ OneType BigInt ∷ []) types after h
  types_kept instr.INeg types after h = bigint_outcome _ negative_fits (OneType BigInt ∷ []) types after h
  types_kept instr.DAdd types after h = of_two_decimals decimal.add max sum_scale types after h
  types_kept instr.DSub types after h = of_two_decimals decimal.sub max difference_scale types after h
  types_kept instr.DMul types after h = of_two_decimals decimal.mul (λ s t. s + t) product_scale types after h
  types_kept instr.DDiv types after h = of_two_decimals decimal.div (λ s t. max 6 (max s t)) quotient_scale_is types after h
  types_kept instr.DNeg types after h = same_sign decimal.neg (λ d. refl) (λ d. negative_size d.units) types after h
  types_kept (instr.ICmp c) types after h = bigint_value _ (compared_fits c) (OneType BigInt ∷ OneType BigInt ∷ []) types after h
  types_kept (instr.DCmp c) types after h = bigint_value _ (compared_fits c) (AnyDecimal ∷ AnyDecimal ∷ []) types after h
  types_kept (instr.TCmp c) types after h = bigint_value _ (compared_fits c) (AnyText ∷ AnyText ∷ []) types after h
  types_kept instr.And types after h = bigint_value _ and_fits (OneType BigInt ∷ OneType BigInt ∷ []) types after h
  types_kept instr.Or types after h = bigint_value _ or_fits (OneType BigInt ∷ OneType BigInt ∷ []) types after h
  types_kept instr.Not types after h = bigint_value _ not_fits (OneType BigInt ∷ []) types after h
  types_kept instr.ITruth types after h = bigint_value _ condition_fits (OneType BigInt ∷ []) types after h
  types_kept instr.DTruth types after h = bigint_value _ condition_fits (AnyDecimal ∷ []) types after h
  types_kept (instr.Choose n) types after h = λ stack t s g. chosen_fits first_of first_keeps 1 n types after stack t h s g
  types_kept (instr.Least n) types after h = λ stack t s g. number_fits lesser_of lesser_keeps n types after stack t h s g
  types_kept (instr.Greatest n) types after h = λ stack t s g. number_fits greater_of greater_keeps n types after stack t h s g
  types_kept (instr.Apply f) types after h = function_kept f types after h
  types_kept instr.Cat types after h = λ stack t s g.
      put_of_type (concat_of t.values) both_texts t (AnyText ∷ AnyText ∷ []) types (λ q u is k r. both_typed (concat_of t.values) types t.values q u is k r (λ a b f. concat_fits t.values a b f)) after stack h s g
  types_kept (instr.Tick p) types after h = sym (some_is types after h)
  types_kept (instr.Jump t) types after h = λ stack s. (none_of_types stack types after h s).0
  types_kept (instr.JFalse t) types after h = λ v stack s. let k = only_of_type BigInt v stack types after h s in (k.1, k.2)
  types_kept (instr.JTrue t) types after h = λ v stack s. let k = only_of_type BigInt v stack types after h s in (k.1, k.2)
  types_kept (instr.Call m) types after h = call_fits code m types after h
  types_kept instr.Ret types after h = return_fits role types after h
  types_kept instr.RetV types after h = result_fits role types after h
  types_kept instr.NoWhen types after h = tt
  types_kept (instr.Output o) types after h = sym (some_is types after (none_there (slice_get code.outputs o) (Some types) after h))
  types_kept instr.Show types after h = of_one_type (of_one line_value) (Varchar TEXT_CHARACTERS) refl shown_fits (AnyType ∷ []) types after h
  types_kept (instr.Put n) types after h = λ stack t s g.
      dropped_of_types (replicate n AnyText) types after stack t (if_some (nat_le n 1000000) (none_for (take_classes (replicate n AnyText) [] types)) after h) s (ap (λ k. take_off k [] stack) (length-replicate n AnyText) ∙ g)
  types_kept (instr.HCall k f) types after h = part_there (slice_get code.hashes k) (BigInt ∷ types) after h
  types_kept (instr.ICall k f) types after h = sym (some_is (BigInt ∷ types) after (none_there (slice_get code.iterators k) (Some (BigInt ∷ types)) after h))
  types_kept (instr.SetParm j) types after h = λ v stack d s l g p.
      let k = stored_type_fits (type_of_parameter (stage_parameters stage) j) v stack types after h s in (k.1, l, g, stage_parameter stage d.state.parameters j v p k.0)
  types_kept instr.End types after h = tt
