-- What an instruction leaves where it finds operands, locals and slots of their scales.
use Rattle.std.proofs.Common.{◌≡◌, ℕ, zero, suc, ◌+◌, max, Bool, true, false, ◌&&◌, List, [], ◌∷◌, map, reverse, length, replicate, Option, Some, None, Result, Ok, refl, sym, ap, ◌∙◌, subst, IsTrue, nat_le, not, slice_get}
use Rattle.std.specs.Option.{option_map}
use Rattle.std.specs.List.{list_all}
use Rattle.std.proofs.lemmas.List.{length-replicate}
use Rattle.ds2_decimal.specs.Arithmetic as decimal
use Rattle.ds2_decimal.specs.Decimal.{Decimal}
use Rattle.ds2_decimal.specs.declared.dec.DecFault.{DecFault}
use Rattle.ds2_value.specs.Functions.{length_of, trim_of, concat_of, substr_of, is_null_of, first_of, lesser_of, greater_of}
use Rattle.ds2_value.specs.Operations.{of_decimals, of_decimal, widened, of_one, of_two}
use Rattle.ds2_value.specs.Row.{Row}
use Rattle.ds2_value.specs.Types.{in_bounds, fits}
use Rattle.ds2_value.specs.Value.{is_null, or_null}
use Rattle.ds2_value.specs.declared.fault.Fault.{Fault}
use Rattle.ds2_value.specs.declared.ty.TheConstants.{TEXT_CHARACTERS}
use Rattle.ds2_value.specs.declared.ty.Ty.{Ty}
use Rattle.ds2_value.specs.declared.ty.Ty.TheVariants.{BigInt, Decimal as DecimalOf, Char, Varchar}
use Rattle.ds2_value.specs.declared.value.Value.{Value}
use Rattle.ds2_value.specs.declared.value.Value.TheVariants.{Null}
use Rattle.ds2_value.specs.declared.value_function.ValueFunction.{ValueFunction}
use Rattle.ds2_value.specs.declared.value_function.ValueFunction.TheVariants as function
use Rattle.ds2_code.specs.declared.instr.Instr.{Instr}
use Rattle.ds2_code.specs.declared.instr.Instr.TheVariants as instr
use Rattle.ds2_code.specs.declared.parts.Constant.{Constant}
use Rattle.ds2_code.specs.declared.parts.MethodPart.{MethodPart}
use Rattle.ds2_code.specs.declared.parts.ParameterPart.{ParameterPart}
use Rattle.ds2_code.specs.declared.parts.ProgramParts.{ProgramParts}
use Rattle.ds2_code.specs.CodeRun.{method_result}
use Rattle.ds2_code.specs.Desk.{Desk, Taken, take_off, constant_value, loaded_value, with_stored}
use Rattle.ds2_code.specs.InstructionTable.{Kind, Pure, Partial, Loads, Stores, Drops, CallsHash, CallsIterator, Writes, Puts, Ticks, Jumps, Tests, Enters, GoesBack, Raises, Finishes, kind_of}
use Rattle.ds2_value.specs.ValueFunctions.{function_row, type_by, function_value, always, as_operand, by_scales, part_of_first}
use Rattle.ds2_value.specs.declared.value_function.OperandClass.{OperandClass}
use Rattle.ds2_value.specs.declared.value_function.OperandClass.TheVariants.{OneType, AnyDecimal, AnyText, AnyType}
use Rattle.ds2_code.specs.OperandTypes.{OperandTypes, Signature, CodeRole, OfUnit, OfMethod, TakenTypes, take_classes, with_type, one_for, none_for, both_texts, when_there, stored_type, types_of_parameters, types_of_locals, with_in_out_types, with_result_type, after_call_types, call_types, without_result, with_only_result, return_types, result_types, slot_type, types_behind}
use Rattle.ds2_code.specs.ValidCode.{constant_allowed, is_char_type}
use Rattle.ds2_code.specs.Scales.{is_scaled, AreScaled, types_of_slots}
use Rattle.ds2_code.proofs.ScaledLists.{both, if_some, some_is, fits_scaled, get_scaled, set_scaled, slot_type_at}
use Rattle.ds2_code.proofs.PlainResults.{is_plain, is_plain_result, plain_scaled, plain_ok, sum_plain, difference_plain, product_plain, remainder_plain, negative_plain, absolute_plain, compared_plain, and_plain, or_plain, not_plain, condition_plain, is_null_plain, length_plain, trim_plain, concat_plain, substr_plain, padded_plain, cut_plain, shown_plain}
use Rattle.ds2_code.proofs.ScaledResults.{sum_scale, difference_scale, product_scale, quotient_scale_is, remainder_scale, of_decimals_scaled, of_decimal_scaled, whole_scaled, widened_scaled, rescaled, first_keeps, lesser_keeps, greater_keeps}
use Rattle.ds2_code.proofs.OperandScales.{put_scaled, dropped_scaled, stored_scaled, none_scaled, only_scaled, chosen_scaled, number_scaled, arguments_scaled}

-- the types of what a method leaves as its result
abbrev pub types_of_result : Option Ty → List Ty
types_of_result None = []
types_of_result (Some t) = t ∷ []

-- a call finds arguments of the types of its parameters, and leaves in_out parameters and a result
abbrev pub CallScales : ProgramParts → ℕ → OperandTypes → OperandTypes → Type 0
CallScales code m types after =
    (method : MethodPart) × (slice_get code.methods m ≡ Some method) × (below : OperandTypes)
    × (after ≡ with_in_out_types method.parameters (with_result_type method.returns below))
    × ((stack : Row) (t : Taken) → AreScaled stack types → take_off (length method.parameters) [] stack ≡ Some t → AreScaled t.values (types_of_parameters method.parameters) × AreScaled t.below below)

-- a return stands in a method, and finds its result
abbrev pub ReturnScales : CodeRole → Bool → OperandTypes → Type 0
ReturnScales role b types =
    (signature : Signature) × (role ≡ OfMethod signature) × ((stack r : Row) → AreScaled stack types → method_result b stack ≡ Some r → AreScaled r (types_of_result signature.returns))

-- by kinds
abbrev pub ScalesFor : ProgramParts → CodeRole → Kind → OperandTypes → OperandTypes → Type 0
ScalesFor code role (Pure k f) types after = (stack : Row) (t : Taken) → AreScaled stack types → take_off k [] stack ≡ Some t → AreScaled (f t.values ∷ t.below) after
ScalesFor code role (Partial k f) types after = (stack : Row) (t : Taken) (v : Value) → AreScaled stack types → take_off k [] stack ≡ Some t → f t.values ≡ Ok v → AreScaled (v ∷ t.below) after
ScalesFor code role (Loads s) types after =
    (d : Desk) → AreScaled d.stack types → AreScaled d.locals (types_of_locals role) → AreScaled d.state.slots (types_of_slots code.slots) → AreScaled (loaded_value code.constants s d ∷ d.stack) after
ScalesFor code role (Stores s) types after =
    (v : Value) (stack : Row) (d : Desk) → AreScaled (v ∷ stack) types → AreScaled d.locals (types_of_locals role) → AreScaled d.state.slots (types_of_slots code.slots)
    → AreScaled stack after × AreScaled (with_stored s v d).locals (types_of_locals role) × AreScaled (with_stored s v d).state.slots (types_of_slots code.slots)
ScalesFor code role Drops types after = (v : Value) (stack : Row) → AreScaled (v ∷ stack) types → AreScaled stack after
ScalesFor code role (CallsHash f h) types after = after ≡ BigInt ∷ types
ScalesFor code role (CallsIterator f i) types after = after ≡ BigInt ∷ types
ScalesFor code role (Writes o) types after = after ≡ types
ScalesFor code role (Puts k) types after = (stack : Row) (t : Taken) → AreScaled stack types → take_off k [] stack ≡ Some t → AreScaled t.below after
ScalesFor code role (Ticks p) types after = after ≡ types
ScalesFor code role (Jumps t) types after = (stack : Row) → AreScaled stack types → stack ≡ []
ScalesFor code role (Tests b t) types after = (v : Value) (stack : Row) → AreScaled (v ∷ stack) types → (stack ≡ []) × (after ≡ [])
ScalesFor code role (Enters m) types after = CallScales code m types after
ScalesFor code role (GoesBack b) types after = ReturnScales role b types
ScalesFor code role (Raises f) types after = Unit {0}
ScalesFor code role Finishes types after = Unit {0}

-- ---- constants

constant_scaled : (c : Constant) → constant_allowed c ≡ true → IsTrue (is_scaled c.value c.ty)
constant_scaled c h = fits_scaled c.value c.ty (both (not (is_null c.value)) (fits c.value c.ty) (both (in_bounds c.ty && not (is_char_type c.ty)) (not (is_null c.value) && fits c.value c.ty) h).1).1

constants_scaled : (cs : List Constant) (k : ℕ) (t : Ty) → list_all constant_allowed cs ≡ true → option_map (λ (c : Constant). c.ty) (slice_get cs k) ≡ Some t → IsTrue (is_scaled (constant_value k cs) t)
constants_scaled [] k t h g = absurd cc
constants_scaled (c ∷ cs) zero t h g = subst (λ z. IsTrue (is_scaled c.value z)) (some_is c.ty t g) (constant_scaled c (both (constant_allowed c) (list_all constant_allowed cs) h).0)
constants_scaled (c ∷ cs) (suc k) t h g = constants_scaled cs k t (both (constant_allowed c) (list_all constant_allowed cs) h).1 g

-- ---- loads and stores

typed_scaled : (v : Value) (stack : Row) (o : Option Ty) (types after : OperandTypes) → with_type o types ≡ Some after → ((t : Ty) → o ≡ Some t → IsTrue (is_scaled v t)) → AreScaled stack types → AreScaled (v ∷ stack) after
typed_scaled v stack None types after h g s = absurd cc
typed_scaled v stack (Some t) types after h g s = subst (λ (z : OperandTypes). AreScaled (v ∷ stack) z) (some_is (t ∷ types) after h) (g t refl, s)

stored_type_scaled : (o : Option Ty) (v : Value) (stack : Row) (types after : OperandTypes) → stored_type o types ≡ Some after → AreScaled (v ∷ stack) types → ((t : Ty) → o ≡ Some t → IsTrue (is_scaled v t)) × AreScaled stack after
stored_type_scaled None v stack types after h s = absurd cc
stored_type_scaled (Some u) v stack types after h s =
    let k = stored_scaled u v stack types after h s in (λ t e. subst (λ z. IsTrue (is_scaled v z)) (some_is u t e) k.0, k.1)

-- ---- calls and returns

call_scales : (code : ProgramParts) (m : ℕ) (types after : OperandTypes) → call_types (slice_get code.methods m) types ≡ Some after → CallScales code m types after
call_scales code m types after h = of (slice_get code.methods m) refl h
  where
    of : (o : Option MethodPart) → slice_get code.methods m ≡ o → call_types o types ≡ Some after → CallScales code m types after
    of None e h = absurd cc
    of (Some method) e h = taken (take_classes (map (λ (p : ParameterPart). OneType p.ty) (reverse method.parameters)) [] types) refl h
      where
        taken : (q : Option TakenTypes) → take_classes (map (λ (p : ParameterPart). OneType p.ty) (reverse method.parameters)) [] types ≡ q → after_call_types method q ≡ Some after → CallScales code m types after
        taken None f h = absurd cc
        taken (Some q) f h =
            (method, e, q.below, sym (some_is (with_in_out_types method.parameters (with_result_type method.returns q.below)) after h), λ stack t s g. arguments_scaled method.parameters types q stack t f s g)

no_result : (r : Option Ty) (types after : OperandTypes) (stack row : Row) → without_result r types ≡ Some after → method_result false stack ≡ Some row → AreScaled row (types_of_result r)
no_result None types after stack row h g = let e : [] ≡ row = cc in subst (λ (z : Row). AreScaled z []) e tt
no_result (Some t) types after stack row h g = absurd cc

one_result : (r : Option Ty) (types after : OperandTypes) (stack row : Row) → with_only_result r types ≡ Some after → AreScaled stack types → method_result true stack ≡ Some row → AreScaled row (types_of_result r)
one_result None types after stack row h s g = absurd cc
one_result (Some t) types after [] row h s g = absurd cc
one_result (Some t) types after (v ∷ stack) row h s g =
    let e : v ∷ [] ≡ row = cc in subst (λ (z : Row). AreScaled z (t ∷ [])) e ((only_scaled t v stack types after h s).0, tt)

return_scales : (role : CodeRole) (types after : OperandTypes) → return_types role types ≡ Some after → ReturnScales role false types
return_scales OfUnit types after h = absurd cc
return_scales (OfMethod signature) types after h = (signature, refl, λ stack r s g. no_result signature.returns types after stack r h g)

result_scales : (role : CodeRole) (types after : OperandTypes) → result_types role types ≡ Some after → ReturnScales role true types
result_scales OfUnit types after h = absurd cc
result_scales (OfMethod signature) types after h = (signature, refl, λ stack r s g. one_result signature.returns types after stack r h s g)

none_there : {A : Type 0} (o : Option A) (types : Option OperandTypes) (after : OperandTypes) → when_there o types ≡ Some after → types ≡ Some after
none_there None types after h = absurd cc
none_there (Some x) types after h = h

-- ---- instructions

-- a value that can't be a fault
abbrev sure_of : (Row → Value) → Row → Result Value Fault
sure_of f vs = Ok (f vs)

module _ (code : ProgramParts) (constants : list_all constant_allowed code.constants ≡ true) (parameters : List (Option Ty)) (role : CodeRole) where
  -- an operation that gives no decimal
  plain_value : (f : Row → Value) → ((vs : Row) → IsTrue (is_plain (f vs))) → (result : List Ty → Option Ty) (cs : List OperandClass) (types after : OperandTypes) → one_for result (take_classes cs [] types) ≡ Some after
      → (stack : Row) (t : Taken) → AreScaled stack types → take_off (length cs) [] stack ≡ Some t → AreScaled (f t.values ∷ t.below) after
  plain_value f plain result cs types after h stack t s g = put_scaled (f t.values) result t (λ ts u k r. plain_scaled (f t.values) u (plain t.values)) cs types after stack h s g

  -- one that may fault
  plain_outcome : (f : Row → Result Value Fault) → ((vs : Row) → IsTrue (is_plain_result (f vs))) → (result : List Ty → Option Ty) (cs : List OperandClass) (types after : OperandTypes) → one_for result (take_classes cs [] types) ≡ Some after
      → (stack : Row) (t : Taken) (v : Value) → AreScaled stack types → take_off (length cs) [] stack ≡ Some t → f t.values ≡ Ok v → AreScaled (v ∷ t.below) after
  plain_outcome f plain result cs types after h stack t v s g e = put_scaled v result t (λ ts u k r. plain_ok (f t.values) v u (plain t.values) e) cs types after stack h s g

  -- one on two decimals
  of_two_decimals : (f : Decimal → Decimal → Result Decimal DecFault) (scale : ℕ → ℕ → ℕ) → ((a b d : Decimal) → f a b ≡ Ok d → d.scale ≡ scale a.scale b.scale) → (types after : OperandTypes)
      → one_for (by_scales scale) (take_classes (AnyDecimal ∷ AnyDecimal ∷ []) [] types) ≡ Some after
      → (stack : Row) (t : Taken) (v : Value) → AreScaled stack types → take_off 2 [] stack ≡ Some t → of_two (of_decimals f) t.values ≡ Ok v → AreScaled (v ∷ t.below) after
  of_two_decimals f scale made types after h stack t v s g e =
      put_scaled v (by_scales scale) t (λ ts u k r. of_decimals_scaled f scale made t.values v ts u e k r) (AnyDecimal ∷ AnyDecimal ∷ []) types after stack h s g

  -- one whose result is of one type
  of_one_type : (f : Row → Value) (u : Ty) → ((vs : Row) → IsTrue (is_scaled (f vs) u)) → (cs : List OperandClass) (types after : OperandTypes) → one_for (always u) (take_classes cs [] types) ≡ Some after
      → (stack : Row) (t : Taken) → AreScaled stack types → take_off (length cs) [] stack ≡ Some t → AreScaled (f t.values ∷ t.below) after
  of_one_type f u made cs types after h stack t s g =
      put_scaled (f t.values) (always u) t (λ ts w k r. subst (λ z. IsTrue (is_scaled (f t.values) z)) (some_is u w r) (made t.values)) cs types after stack h s g

  same_sign : (f : Decimal → Decimal) → ((d : Decimal) → (f d).scale ≡ d.scale) → (types after : OperandTypes) → one_for as_operand (take_classes (AnyDecimal ∷ []) [] types) ≡ Some after
      → (stack : Row) (t : Taken) → AreScaled stack types → take_off 1 [] stack ≡ Some t → AreScaled (of_one (of_decimal f) t.values ∷ t.below) after
  same_sign f kept types after h stack t s g =
      put_scaled (of_one (of_decimal f) t.values) as_operand t (λ ts u k r. of_decimal_scaled f kept t.values ts u k r) (AnyDecimal ∷ []) types after stack h s g

  -- a function that can't fault
  sure : (f : Row → Value) (n : ℕ) (types after : OperandTypes) → ((stack : Row) (t : Taken) → AreScaled stack types → take_off n [] stack ≡ Some t → AreScaled (f t.values ∷ t.below) after)
      → (stack : Row) (t : Taken) (v : Value) → AreScaled stack types → take_off n [] stack ≡ Some t → sure_of f t.values ≡ Ok v → AreScaled (v ∷ t.below) after
  sure f n types after made stack t v s g e = let is : f t.values ≡ v = cc in subst (λ z. AreScaled (z ∷ t.below) after) is (made stack t s g)

  -- functions of values, row by row
  function_scales : (f : ValueFunction) (types after : OperandTypes) → one_for (type_by (function_row f).result) (take_classes (function_row f).operands [] types) ≡ Some after
      → (stack : Row) (t : Taken) (v : Value) → AreScaled stack types → take_off (length (function_row f).operands) [] stack ≡ Some t → function_value f t.values ≡ Ok v → AreScaled (v ∷ t.below) after
  function_scales function.IntegerAbsolute types after h = plain_outcome _ absolute_plain (always BigInt) (OneType BigInt ∷ []) types after h
  function_scales function.IntegerModulo types after h = plain_outcome _ remainder_plain (always BigInt) (OneType BigInt ∷ OneType BigInt ∷ []) types after h
  function_scales function.DecimalAbsolute types after h = sure (of_one (of_decimal decimal.abs)) 1 types after (same_sign decimal.abs (λ d. refl) types after h)
  function_scales function.DecimalModulo types after h = of_two_decimals decimal.modulo max remainder_scale types after h
  function_scales function.Floor types after h =
      sure (of_one (of_decimal decimal.floor)) 1 types after (of_one_type (of_one (of_decimal decimal.floor)) (DecimalOf 38 0) (whole_scaled decimal.floor (λ d. refl) 38) (AnyDecimal ∷ []) types after h)
  function_scales function.Ceiling types after h =
      sure (of_one (of_decimal decimal.ceil)) 1 types after (of_one_type (of_one (of_decimal decimal.ceil)) (DecimalOf 38 0) (whole_scaled decimal.ceil (λ d. refl) 38) (AnyDecimal ∷ []) types after h)
  function_scales function.IsNull types after h = sure is_null_of 1 types after (plain_value is_null_of is_null_plain (always BigInt) (AnyType ∷ []) types after h)
  function_scales function.Length types after h = sure length_of 1 types after (plain_value length_of length_plain (always BigInt) (AnyText ∷ []) types after h)
  function_scales function.Substring types after h = plain_outcome substr_of substr_plain part_of_first (OneType BigInt ∷ OneType BigInt ∷ AnyText ∷ []) types after h
  function_scales function.SubstringFrom types after h = plain_outcome substr_of substr_plain part_of_first (OneType BigInt ∷ AnyText ∷ []) types after h
  function_scales function.Trim types after h = sure trim_of 1 types after (plain_value trim_of trim_plain part_of_first (AnyText ∷ []) types after h)

  pub scales : (i : Instr) (types after : OperandTypes) → types_behind code parameters role i types ≡ Some after → ScalesFor code role (kind_of i) types after
  scales (instr.Const k) types after h = λ d s l g. typed_scaled (constant_value k code.constants) d.stack _ types after h (λ t e. constants_scaled code.constants k t constants e) s
  scales (instr.Null u) types after h = λ stack t s g.
      let e : u ∷ types ≡ after = some_is (u ∷ types) after (if_some (in_bounds u) (Some (u ∷ types)) after h) in
      let f : record { values = []; below = stack } ≡ t = cc in
      subst (λ (z : OperandTypes). AreScaled (Null ∷ t.below) z) e (subst (λ (z : Taken). AreScaled (Null ∷ z.below) (u ∷ types)) f (refl, s))
  scales (instr.GLoad n) types after h = λ d s l g.
      typed_scaled (or_null (slice_get d.state.slots n)) d.stack _ types after h (λ t e. get_scaled d.state.slots (types_of_slots code.slots) n t g (slot_type_at code.slots n ∙ e)) s
  scales (instr.GStore n) types after h = λ v stack d s l g.
      let k = stored_type_scaled (slot_type code.slots n) v stack types after h s in
      (k.1, l, set_scaled d.state.slots (types_of_slots code.slots) n v g (λ t e. k.0 t (sym (slot_type_at code.slots n) ∙ e)))
  scales (instr.LLoad n) types after h = λ d s l g. typed_scaled (or_null (slice_get d.locals n)) d.stack _ types after h (λ t e. get_scaled d.locals (types_of_locals role) n t l e) s
  scales (instr.LStore n) types after h = λ v stack d s l g.
      let k = stored_type_scaled (slice_get (types_of_locals role) n) v stack types after h s in (k.1, set_scaled d.locals (types_of_locals role) n v l k.0, g)
  scales instr.DropTop types after h = λ v stack s. dropped_scaled (AnyType ∷ []) types after (v ∷ stack) (record { values = v ∷ []; below = stack }) h s refl
  scales instr.IToD types after h = of_one_type (of_one widened) (DecimalOf 19 0) widened_scaled (OneType BigInt ∷ []) types after h
  scales (instr.Rescale p s) types after h = λ stack t v k g e.
      put_scaled v (always (DecimalOf p s)) t (λ ts u q r. subst (λ z. IsTrue (is_scaled v z)) (some_is (DecimalOf p s) u r) (rescaled p s t.values v e)) (AnyDecimal ∷ []) types after stack (if_some (in_bounds (DecimalOf p s)) _ after h) k g
  scales (instr.Pad n) types after h = plain_value _ (padded_plain n) (always (Char n)) (AnyText ∷ []) types after (if_some (in_bounds (Char n)) _ after h)
  scales (instr.Cut n) types after h = plain_value _ (cut_plain n) (always (Varchar n)) (AnyText ∷ []) types after (if_some (in_bounds (Varchar n)) _ after h)
  scales instr.IAdd types after h = plain_outcome _ sum_plain (always BigInt) (OneType BigInt ∷ OneType BigInt ∷ []) types after h
  scales instr.ISub types after h = plain_outcome _ difference_plain (always BigInt) (OneType BigInt ∷ OneType BigInt ∷ []) types after h
  scales instr.IMul types after h = plain_outcome _ product_plain (always BigInt) (OneType BigInt ∷ OneType BigInt ∷ []) types after h
  scales instr.INeg types after h = plain_outcome _ negative_plain (always BigInt) (OneType BigInt ∷ []) types after h
  scales instr.DAdd types after h = of_two_decimals decimal.add max sum_scale types after h
  scales instr.DSub types after h = of_two_decimals decimal.sub max difference_scale types after h
  scales instr.DMul types after h = of_two_decimals decimal.mul (λ s t. s + t) product_scale types after h
  scales instr.DDiv types after h = of_two_decimals decimal.div (λ s t. max 6 (max s t)) quotient_scale_is types after h
  scales instr.DNeg types after h = same_sign decimal.neg (λ d. refl) types after h
  scales (instr.ICmp c) types after h = plain_value _ (compared_plain c) (always BigInt) (OneType BigInt ∷ OneType BigInt ∷ []) types after h
  scales (instr.DCmp c) types after h = plain_value _ (compared_plain c) (always BigInt) (AnyDecimal ∷ AnyDecimal ∷ []) types after h
  scales (instr.TCmp c) types after h = plain_value _ (compared_plain c) (always BigInt) (AnyText ∷ AnyText ∷ []) types after h
  scales instr.And types after h = plain_value _ and_plain (always BigInt) (OneType BigInt ∷ OneType BigInt ∷ []) types after h
  scales instr.Or types after h = plain_value _ or_plain (always BigInt) (OneType BigInt ∷ OneType BigInt ∷ []) types after h
  scales instr.Not types after h = plain_value _ not_plain (always BigInt) (OneType BigInt ∷ []) types after h
  scales instr.ITruth types after h = plain_value _ condition_plain (always BigInt) (OneType BigInt ∷ []) types after h
  scales instr.DTruth types after h = plain_value _ condition_plain (always BigInt) (AnyDecimal ∷ []) types after h
  scales (instr.Choose n) types after h = λ stack t s g. chosen_scaled first_of first_keeps 1 n types after stack t h s g
  scales (instr.Least n) types after h = λ stack t s g. number_scaled lesser_of lesser_keeps n types after stack t h s g
  scales (instr.Greatest n) types after h = λ stack t s g. number_scaled greater_of greater_keeps n types after stack t h s g
  scales (instr.Apply f) types after h = function_scales f types after h
  scales instr.Cat types after h = plain_value concat_of concat_plain both_texts (AnyText ∷ AnyText ∷ []) types after h
  scales (instr.Tick p) types after h = sym (some_is types after h)
  scales (instr.Jump t) types after h = λ stack s. (none_scaled stack types after h s).0
  scales (instr.JFalse t) types after h = λ v stack s. let k = only_scaled BigInt v stack types after h s in (k.1, k.2)
  scales (instr.JTrue t) types after h = λ v stack s. let k = only_scaled BigInt v stack types after h s in (k.1, k.2)
  scales (instr.Call m) types after h = call_scales code m types after h
  scales instr.Ret types after h = return_scales role types after h
  scales instr.RetV types after h = result_scales role types after h
  scales instr.NoWhen types after h = tt
  scales (instr.Output o) types after h = sym (some_is types after (none_there (slice_get code.outputs o) (Some types) after h))
  scales instr.Show types after h = plain_value _ shown_plain (always (Varchar TEXT_CHARACTERS)) (AnyType ∷ []) types after h
  scales (instr.Put n) types after h = λ stack t s g.
      dropped_scaled (replicate n AnyText) types after stack t (if_some (nat_le n 1000000) (none_for (take_classes (replicate n AnyText) [] types)) after h) s (ap (λ k. take_off k [] stack) (length-replicate n AnyText) ∙ g)
  scales (instr.HCall k f) types after h = sym (some_is (BigInt ∷ types) after (none_there (slice_get code.hashes k) (Some (BigInt ∷ types)) after h))
  scales (instr.ICall k f) types after h = sym (some_is (BigInt ∷ types) after (none_there (slice_get code.iterators k) (Some (BigInt ∷ types)) after h))
  scales (instr.SetParm j) types after h = λ v stack d s l g. ((stored_type_scaled _ v stack types after h s).1, l, g)
  scales instr.End types after h = tt
