-- Functions whose arguments break no rule become typed nodes.
use Rattle.std.proofs.Common.{◌≡◌, ℕ, ◌≤◌, max, Bool, true, false, ◌&&◌, List, [], ◌∷◌, Option, Some, None, is_some, if◌then◌else◌, refl, ap, ◌∙◌, arith, le-leb}
use Rattle.std.specs.Prelude.{unwrap_or}
use Rattle.std.proofs.lemmas.Bool.{and_parts}
use Rattle.ds2_base.specs.declared.place.Place.{Place}
use Rattle.ds2_value.specs.Types.{in_bounds}
use Rattle.ds2_value.specs.ValueFunctions.{is_text_type, are_of_classes, type_by, function_row, function_type}
use Rattle.ds2_value.specs.declared.ty.Ty.{Ty}
use Rattle.ds2_value.specs.declared.ty.Ty.TheVariants.{BigInt, Decimal as DecimalOf, Char, Varchar}
use Rattle.ds2_value.specs.declared.value_function.OperandClass.{OperandClass}
use Rattle.ds2_value.specs.declared.value_function.OperandClass.TheVariants.{OneType, AnyDecimal, AnyText, AnyType}
use Rattle.ds2_value.specs.declared.value_function.ResultType.{ResultType}
use Rattle.ds2_value.specs.declared.value_function.ResultType.TheVariants.{Integer, WholeDecimal, AsOperand, GreaterScale, PartOfFirst}
use Rattle.ds2_value.specs.declared.value_function.ValueFunction.{ValueFunction}
use Rattle.ds2_value.specs.declared.value_function.ValueFunction.TheVariants as of_values
use Rattle.ds2_meaning.specs.IsTyped.{NamesInScope, class_of, Decimals, type_scale, type_width, decimal_result, expression_type, IsTypedExpression, IsApplication}
use Rattle.ds2_meaning.specs.TypedExpression.{TypedExpression, Applied}
use Rattle.ds2_meaning.specs.declared.expressions.Function.{Function}
use Rattle.ds2_meaning.specs.declared.expressions.Function.TheVariants as function
use Rattle.ds2_names.specs.declared.functions.ByType.{ByType}
use Rattle.ds2_elaboration.specs.FunctionTypes.{ElaboratedArgument, nodes_in_order, argument_refusals, function_for, type_of_one, one_node, one_typing, elaborated_of_one, elaborated_remainder}
use Rattle.ds2_elaboration.specs.TypedForms.{IsOfTyping, IsSoundlyElaborated, IsSoundArgument}
use Rattle.ds2_elaboration.specs.Typings.{TypeRefusals, is_numeric_type, is_characters, is_integer_type, widened_node}
use Rattle.ds2_elaboration.proofs.Outcome.{both_empty}
use Rattle.ds2_elaboration.proofs.Operands.{Operand, operand, form_typed, integer, wide}
use Rattle.ds2_elaboration.proofs.Links.{result_in_bounds, scale_at_most}

-- ---- what functions of one value take

-- one operand, whatever decimal it is
abbrev takes_decimals : List OperandClass → Bool
takes_decimals (AnyDecimal ∷ []) = true
takes_decimals (AnyType ∷ []) = true
takes_decimals _ = false

-- one operand, whatever text it is
abbrev takes_texts : List OperandClass → Bool
takes_texts (AnyText ∷ []) = true
takes_texts (AnyType ∷ []) = true
takes_texts _ = false

-- the type of a result goes by one number
abbrev goes_by_number : ResultType → Bool
goes_by_number Integer = true
goes_by_number WholeDecimal = true
goes_by_number AsOperand = true
goes_by_number _ = false

-- it goes by one text
abbrev goes_by_text : ResultType → Bool
goes_by_text GreaterScale = false
goes_by_text _ = true

abbrev right_integer : Option Function → Bool
right_integer None = true
right_integer (Some (function.Value f)) = are_of_classes (function_row f).operands (BigInt ∷ []) && goes_by_number (function_row f).result
right_integer (Some function.Unchanged) = true
right_integer (Some _) = false

abbrev right_decimal : Option Function → Bool
right_decimal None = true
right_decimal (Some (function.Value f)) = takes_decimals (function_row f).operands && goes_by_number (function_row f).result
right_decimal (Some _) = false

abbrev right_text : Option Function → Bool
right_text None = true
right_text (Some (function.Value f)) = takes_texts (function_row f).operands && goes_by_text (function_row f).result
right_text (Some _) = false

-- what a function is for each type takes a value of that type
abbrev pub is_right : ByType → Bool
is_right f = right_integer f.integer && (right_decimal f.decimal && right_text f.text)

decimal_taken : (cs : List OperandClass) (p s : ℕ) → takes_decimals cs ≡ true → are_of_classes cs (DecimalOf p s ∷ []) ≡ true
decimal_taken [] p s h = cc
decimal_taken (AnyDecimal ∷ []) p s h = refl
decimal_taken (AnyType ∷ []) p s h = refl
decimal_taken (OneType t ∷ []) p s h = cc
decimal_taken (AnyText ∷ []) p s h = cc
decimal_taken (AnyDecimal ∷ c ∷ cs) p s h = cc
decimal_taken (AnyType ∷ c ∷ cs) p s h = cc
decimal_taken (OneType t ∷ c ∷ cs) p s h = cc
decimal_taken (AnyText ∷ c ∷ cs) p s h = cc

text_taken : (cs : List OperandClass) (ty : Ty) → takes_texts cs ≡ true → is_text_type ty ≡ true → are_of_classes cs (ty ∷ []) ≡ true
text_taken [] ty h e = cc
text_taken (AnyText ∷ []) ty h e = ap (λ b. b && true) e
text_taken (AnyType ∷ []) ty h e = refl
text_taken (OneType t ∷ []) ty h e = cc
text_taken (AnyDecimal ∷ []) ty h e = cc
text_taken (AnyText ∷ c ∷ cs) ty h e = cc
text_taken (AnyType ∷ c ∷ cs) ty h e = cc
text_taken (OneType t ∷ c ∷ cs) ty h e = cc
text_taken (AnyDecimal ∷ c ∷ cs) ty h e = cc

-- the type of a result is there, and in bounds
abbrev GivesType : ResultType → Ty → Type 0
GivesType r ty = (type_by r (ty ∷ []) ≡ Some (unwrap_or (type_by r (ty ∷ [])) BigInt)) × (in_bounds (unwrap_or (type_by r (ty ∷ [])) BigInt) ≡ true)

number_gives : (r : ResultType) (ty : Ty) → goes_by_number r ≡ true → in_bounds ty ≡ true → GivesType r ty
number_gives Integer ty h b = (refl, refl)
number_gives WholeDecimal ty h b = (refl, refl)
number_gives AsOperand ty h b = (refl, b)
number_gives GreaterScale ty h b = cc
number_gives PartOfFirst ty h b = cc

text_gives : (r : ResultType) (ty : Ty) → goes_by_text r ≡ true → is_text_type ty ≡ true → in_bounds ty ≡ true → GivesType r ty
text_gives Integer ty h e b = (refl, refl)
text_gives WholeDecimal ty h e b = (refl, refl)
text_gives AsOperand ty h e b = (refl, b)
text_gives GreaterScale ty h e b = cc
text_gives PartOfFirst BigInt h e b = cc
text_gives PartOfFirst (DecimalOf p s) h e b = cc
text_gives PartOfFirst (Char n) h e b = (refl, b)
text_gives PartOfFirst (Varchar n) h e b = (refl, b)

-- a function takes a value of a type, and gives a type in bounds
abbrev pub Takes : Function → Ty → Type 0
Takes f ty = IsApplication f (ty ∷ []) (type_of_one f ty) × (in_bounds (type_of_one f ty) ≡ true)

row_takes : (f : ValueFunction) (ty : Ty) → are_of_classes (function_row f).operands (ty ∷ []) ≡ true → GivesType (function_row f).result ty → Takes (function.Value f) ty
row_takes f ty h g = (ap (λ b. if b then type_by (function_row f).result (ty ∷ []) else None) h ∙ g.0, g.1)

integer_takes : (o : Option Function) → right_integer o ≡ true → is_some o ≡ true → Takes (unwrap_or o function.Unchanged) BigInt
integer_takes None r h = cc
integer_takes (Some (function.Value f)) r h =
    let p = and_parts (are_of_classes (function_row f).operands (BigInt ∷ [])) (goes_by_number (function_row f).result) r in row_takes f BigInt p.0 (number_gives (function_row f).result BigInt p.1 refl)
integer_takes (Some function.Unchanged) r h = ((refl, refl), refl)
integer_takes (Some function.Coalesce) r h = cc
integer_takes (Some function.Least) r h = cc
integer_takes (Some function.Greatest) r h = cc

decimal_takes : (o : Option Function) (p s : ℕ) → right_decimal o ≡ true → is_some o ≡ true → in_bounds (DecimalOf p s) ≡ true → Takes (unwrap_or o function.Unchanged) (DecimalOf p s)
decimal_takes None p s r h b = cc
decimal_takes (Some (function.Value f)) p s r h b =
    let q = and_parts (takes_decimals (function_row f).operands) (goes_by_number (function_row f).result) r in
    row_takes f (DecimalOf p s) (decimal_taken (function_row f).operands p s q.0) (number_gives (function_row f).result (DecimalOf p s) q.1 b)
decimal_takes (Some function.Unchanged) p s r h b = cc
decimal_takes (Some function.Coalesce) p s r h b = cc
decimal_takes (Some function.Least) p s r h b = cc
decimal_takes (Some function.Greatest) p s r h b = cc

text_takes : (o : Option Function) (ty : Ty) → is_text_type ty ≡ true → right_text o ≡ true → is_some o ≡ true → in_bounds ty ≡ true → Takes (unwrap_or o function.Unchanged) ty
text_takes None ty e r h b = cc
text_takes (Some (function.Value f)) ty e r h b =
    let q = and_parts (takes_texts (function_row f).operands) (goes_by_text (function_row f).result) r in
    row_takes f ty (text_taken (function_row f).operands ty q.0 e) (text_gives (function_row f).result ty q.1 e b)
text_takes (Some function.Unchanged) ty e r h b = cc
text_takes (Some function.Coalesce) ty e r h b = cc
text_takes (Some function.Least) ty e r h b = cc
text_takes (Some function.Greatest) ty e r h b = cc

pub one_taken : (f : ByType) (ty : Ty) → is_right f ≡ true → is_some (function_for f ty) ≡ true → in_bounds ty ≡ true → Takes (unwrap_or (function_for f ty) function.Unchanged) ty
one_taken f ty right h b =
    let p = and_parts (right_integer f.integer) (right_decimal f.decimal && right_text f.text) right in
    let q = and_parts (right_decimal f.decimal) (right_text f.text) p.1 in
    by ty p.0 q.0 q.1 h b
  where
    by : (ty : Ty) → right_integer f.integer ≡ true → right_decimal f.decimal ≡ true → right_text f.text ≡ true → is_some (function_for f ty) ≡ true → in_bounds ty ≡ true
        → Takes (unwrap_or (function_for f ty) function.Unchanged) ty
    by BigInt i d t h b = integer_takes f.integer i h
    by (DecimalOf p s) i d t h b = decimal_takes f.decimal p s d h b
    by (Char n) i d t h b = text_takes f.text (Char n) refl t h b
    by (Varchar n) i d t h b = text_takes f.text (Varchar n) refl t h b

-- ---- what functions of several values take

integers_taken : (a b : Ty) → a ≡ BigInt → b ≡ BigInt → function_type of_values.IntegerModulo (a ∷ b ∷ []) ≡ Some BigInt
integers_taken a b e f = ap (λ t. function_type of_values.IntegerModulo (t ∷ b ∷ [])) e ∙ ap (λ t. function_type of_values.IntegerModulo (BigInt ∷ t ∷ [])) f

decimals_taken : (a b : Ty) → class_of a ≡ Decimals → class_of b ≡ Decimals → max (type_scale a) (type_scale b) ≤ 38
    → function_type of_values.DecimalModulo (a ∷ b ∷ []) ≡ Some (decimal_result (max (type_scale a) (type_scale b)))
decimals_taken BigInt b e f few = cc
decimals_taken (DecimalOf p s) BigInt e f few = cc
decimals_taken (DecimalOf p s) (DecimalOf q t) e f few = ap (λ b. if b then Some (DecimalOf 38 (max s t)) else None) (le-leb (max s t) 38 few)
decimals_taken (DecimalOf p s) (Char n) e f few = cc
decimals_taken (DecimalOf p s) (Varchar n) e f few = cc
decimals_taken (Char n) b e f few = cc
decimals_taken (Varchar n) b e f few = cc

pub part_from_taken : (ty n : Ty) → is_characters ty ≡ true → n ≡ BigInt → function_type of_values.SubstringFrom (ty ∷ n ∷ []) ≡ Some (Varchar (type_width ty))
part_from_taken BigInt n h e = cc
part_from_taken (DecimalOf p s) n h e = cc
part_from_taken (Char m) n h e = ap (λ t. function_type of_values.SubstringFrom (Char m ∷ t ∷ [])) e
part_from_taken (Varchar m) n h e = ap (λ t. function_type of_values.SubstringFrom (Varchar m ∷ t ∷ [])) e

pub part_taken : (ty n k : Ty) → is_characters ty ≡ true → n ≡ BigInt → k ≡ BigInt → function_type of_values.Substring (ty ∷ n ∷ k ∷ []) ≡ Some (Varchar (type_width ty))
part_taken BigInt n k h e f = cc
part_taken (DecimalOf p s) n k h e f = cc
part_taken (Char m) n k h e f = ap (λ t. function_type of_values.Substring (Char m ∷ t ∷ k ∷ [])) e ∙ ap (λ t. function_type of_values.Substring (Char m ∷ BigInt ∷ t ∷ [])) f
part_taken (Varchar m) n k h e f = ap (λ t. function_type of_values.Substring (Varchar m ∷ t ∷ k ∷ [])) e ∙ ap (λ t. function_type of_values.Substring (Varchar m ∷ BigInt ∷ t ∷ [])) f

module _ (names : NamesInScope) where
  -- what a function of one value becomes
  typed_by : (f : ByType) (refusals : TypeRefusals) (node : TypedExpression) → refusals ≡ [] → IsTypedExpression names node → in_bounds (expression_type node) ≡ true
      → IsOfTyping names (one_typing f refusals node) node
  typed_by f [] node h typed bounds = (typed, refl, bounds)
  typed_by f (r ∷ refusals) node h typed bounds = cc

  pub one_typed : (f : ByType) → is_right f ≡ true → (name : Place) (x : ElaboratedArgument) → IsSoundArgument names x → IsSoundlyElaborated names (elaborated_of_one f name x)
  one_typed f right name x sound h =
      let test : Ty → Bool = λ ty. is_some (function_for f ty) in
      let o = operand names test name x.value sound h in
      let fits = one_taken f (expression_type x.value.node) right o.passes o.bounds in
      typed_by f (argument_refusals test name x) (one_node f x.value.node) h ((o.typed, tt), fits.0) fits.1

  -- mod(a, b), of BIGINT values or not
  abbrev remainder_of : Bool → TypedExpression → TypedExpression → TypedExpression
  remainder_of same a b =
      if same then Applied (function.Value of_values.IntegerModulo) (nodes_in_order (a ∷ b ∷ [])) BigInt
      else Applied (function.Value of_values.DecimalModulo) (nodes_in_order (widened_node a ∷ widened_node b ∷ [])) (decimal_result (max (type_scale (expression_type a)) (type_scale (expression_type b))))

  remainder_if : (same : Bool) (a b : TypedExpression) → (is_integer_type (expression_type a) && is_integer_type (expression_type b)) ≡ same
      → Operand names is_numeric_type a → Operand names is_numeric_type b
      → IsTypedExpression names (remainder_of same a b) × (in_bounds (expression_type (remainder_of same a b)) ≡ true)
  remainder_if true a b e x y =
      let p = and_parts (is_integer_type (expression_type a)) (is_integer_type (expression_type b)) e in
      (((x.typed, (y.typed, tt)), integers_taken (expression_type a) (expression_type b) (integer (expression_type a) p.0) (integer (expression_type b) p.1)), refl)
  remainder_if false a b e x y =
      let v = wide names a x in
      let w = wide names b y in (
        (
          (v.typed, (w.typed, tt)),
          decimals_taken (expression_type (widened_node a)) (expression_type (widened_node b)) v.decimal w.decimal
              (omega (arith, v.scale, w.scale, scale_at_most names (expression_type a) x.bounds, scale_at_most names (expression_type b) y.bounds))
              ∙ ap (λ k. Some (decimal_result k)) (ap (λ k. max k (type_scale (expression_type (widened_node b)))) v.scale ∙ ap (λ k. max (type_scale (expression_type a)) k) w.scale),
        ),
        result_in_bounds names (max (type_scale (expression_type a)) (type_scale (expression_type b))) (omega (arith, scale_at_most names (expression_type a) x.bounds, scale_at_most names (expression_type b) y.bounds)),
      )

  pub remainder_typed : (name : Place) (a b : ElaboratedArgument) → IsSoundArgument names a → IsSoundArgument names b → IsSoundlyElaborated names (elaborated_remainder name a b)
  remainder_typed name a b f g =
      form_typed names (elaborated_remainder name a b).refusals (elaborated_remainder name a b).node (λ h.
      let p = both_empty (argument_refusals is_numeric_type name a) (argument_refusals is_numeric_type name b) h in
      remainder_if (is_integer_type (expression_type a.value.node) && is_integer_type (expression_type b.value.node)) a.value.node b.value.node refl
      (operand names is_numeric_type name a.value f p.0) (operand names is_numeric_type name b.value g p.1))

  pub width_bounds : (ty : Ty) → is_characters ty ≡ true → in_bounds ty ≡ true → in_bounds (Varchar (type_width ty)) ≡ true
  width_bounds BigInt c h = cc
  width_bounds (DecimalOf p s) c h = cc
  width_bounds (Char n) c h = h
  width_bounds (Varchar n) c h = h
