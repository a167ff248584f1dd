-- The code of a typed expression leaves an operand of its type.
use Rattle.std.proofs.Common.{◌≡◌, ℕ, zero, suc, ◌+◌, ◌≤◌, min, max, nat_le, nat_eq, Bool, true, false, List, [], ◌∷◌, ◌++◌, length, map, reverse, replicate, slice_get, Option, Some, None, IsTrue, is_some, refl, sym, ap, ◌∙◌, subst, arith, le-leb, eq-eqb, if◌then◌else◌, append_assoc, append-nil}
use Rattle.std.specs.Option.{option_map}
use Rattle.std.proofs.lemmas.Bool.{true≢false, and_from}
use Rattle.std.proofs.lemmas.List.{reverse-append, reverse-reverse}
use Rattle.ds2_value.specs.Types.{in_bounds, same_ty}
use Rattle.ds2_value.specs.declared.comparison.Comparison.{Comparison}
use Rattle.ds2_value.specs.declared.hash_function.HashFunction.{HashFunction}
use Rattle.ds2_value.specs.declared.hash_function.IteratorFunction.{IteratorFunction}
use Rattle.ds2_value.specs.declared.ty.Ty.{Ty}
use Rattle.ds2_value.specs.declared.ty.Ty.TheVariants.{BigInt, Decimal as DecimalOf, Char, Varchar}
use Rattle.ds2_value.specs.declared.value.Value.{Value}
use Rattle.ds2_value.specs.declared.value.Value.TheVariants as value
use Rattle.ds2_meaning.specs.declared.expressions.Function.{Function}
use Rattle.ds2_meaning.specs.declared.expressions.Function.TheVariants as function
use Rattle.ds2_meaning.specs.declared.expressions.Operation.{Operation}
use Rattle.ds2_meaning.specs.declared.expressions.Operation.TheVariants as operation
use Rattle.ds2_meaning.specs.declared.expressions.Prefix.{Prefix}
use Rattle.ds2_meaning.specs.declared.expressions.Prefix.TheVariants as prefix
use Rattle.ds2_meaning.specs.declared.methods.Parameter.{Parameter}
use Rattle.ds2_meaning.specs.Evaluation.{callee_home}
use Rattle.ds2_meaning.specs.Location.{Home}
use Rattle.ds2_meaning.specs.IsTyped.{NamesInScope, Integers, Decimals, Texts, class_of, IsNumeric, type_scale, type_width, IsOperation, IsPrefix, AllOfType, IsApplication, chain_type, expression_type, expression_types, IsLeftOperand, IsTypedExpression, AreTypedLinks, AreTypedExpressions, AreTypedArguments}
use Rattle.ds2_meaning.specs.Method.{MethodTree}
use Rattle.ds2_meaning.specs.TypedExpression.{TypedExpression, Constant, Variable, Widen, Convert, Prefixed, Chain, Compared, Applied, Called, HashCalled, IteratorCalled, Links, NoLink, Link, TypedExpressions, NoExpression, Then, TypedArguments, NoArgument, ByValue, InOut}
use Rattle.ds2_code.specs.declared.instr.Instr.{Instr}
use Rattle.ds2_code.specs.declared.instr.Instr.TheVariants as instr
use Rattle.ds2_code.specs.declared.parts.Constant.{Constant as ConstantPart}
use Rattle.ds2_code.specs.declared.parts.MethodPart.{MethodPart}
use Rattle.ds2_code.specs.declared.parts.ParameterPart.{ParameterPart}
use Rattle.ds2_code.specs.declared.parts.ProgramParts.{ProgramParts}
use Rattle.ds2_code.specs.CodeBound.{jump_target, falls_through}
use Rattle.ds2_code.specs.InstructionTable.{kind_of}
use Rattle.ds2_value.specs.ValueFunctions.{is_of_class, always, decimal_of_scale, type_by, function_row, function_type}
use Rattle.ds2_value.specs.declared.value_function.OperandClass.{OperandClass}
use Rattle.ds2_value.specs.declared.value_function.OperandClass.TheVariants.{OneType}
use Rattle.ds2_value.specs.declared.value_function.ValueFunction.{ValueFunction}
use Rattle.ds2_code.specs.OperandTypes.{OperandTypes, CodeRole, TakenTypes, take_classes, with_type, one_for, none_for, is_number_type, chosen_types, chosen_numbers, when_there, stored_type, with_in_out_types, with_result_type, after_call_types, call_types, types_behind}
use Rattle.ds2_gen.specs.CodeCells.{CodeCell, SlotCell, LocalCell, HashCell, IteratorCell, ParameterCell}
use Rattle.ds2_gen.specs.ExpressionCode.{Callee, CodeNumbers, constant_instr, load_instr, cell_of, store_instr, call_instr, object_cell, hash_instr, iterator_instr, conversion_code, truth_code, prefix_code, operation_instr, operand_code, left_operand_code, comparison_instr, function_code, expressions_count, back_code, expression_code, arguments_code, expressions_code, links_code}
use Rattle.ds2_gen.specs.MethodCode.{parameter_part}
use Rattle.ds2_program_code.specs.UsedConstants.{UsedConstant, constants_used, constants_of_links, constants_of_all, constants_of_arguments}
use Rattle.ds2_program_code.specs.TypedOperands.{OperandsLead, HasCellOfType, HasConstantOfType, HaveConstantsOfTypes, NamesHaveTypes, ExpressionsLead}
use Rattle.ds2_program_code.proofs.FunctionTypes.{function_taken, count_is, classes_taken}
use Rattle.ds2_program_code.proofs.TypeBounds.{scale_bound, operation_bounds, expression_bounds}

same_taken : (a b : TakenTypes) → Some a ≡ Some b → a ≡ b
same_taken a b e = cc

pub part_there : {A : Type 0} (part : Option A) (types : Option OperandTypes) → is_some part ≡ true → when_there part types ≡ types
part_there None types e = absurd (true≢false (sym e))
part_there (Some a) types e = refl

-- operands above others, the last one on top
abbrev pub pushed_types : List Ty → OperandTypes → OperandTypes
pushed_types [] below = below
pushed_types (t ∷ types) below = pushed_types types (t ∷ below)

-- an operand as the operation takes it
abbrev pub operand_type : Operation → Ty → Ty
operand_type operation.And t = BigInt
operand_type operation.Or t = BigInt
operand_type _ t = t

-- an operand of `and` or `or` is a number
abbrev IsNumberWhere : Operation → Ty → Type 0
IsNumberWhere operation.And t = IsNumeric t
IsNumberWhere operation.Or t = IsNumeric t
IsNumberWhere _ t = Unit {0}

-- so many operands of one type
abbrev copies : ℕ → Ty → OperandTypes → OperandTypes
copies zero t below = below
copies (suc n) t below = t ∷ copies n t below

-- ---- constants

module _ (code : ProgramParts) (numbers : CodeNumbers) where
  pub front_types : (xs ys : List UsedConstant) → HaveConstantsOfTypes code numbers (xs ++ ys) → HaveConstantsOfTypes code numbers xs
  front_types [] ys h = tt
  front_types (x ∷ xs) ys h = (h.0, front_types xs ys h.1)

  pub back_types : (xs ys : List UsedConstant) → HaveConstantsOfTypes code numbers (xs ++ ys) → HaveConstantsOfTypes code numbers ys
  back_types [] ys h = h
  back_types (x ∷ xs) ys h = back_types xs ys h.1

module _ (code : ProgramParts) (params : List (Option Ty)) (role : CodeRole) where
  pub leads_append : (xs ys : List Instr) (s t u : OperandTypes) → OperandsLead code params role s xs t → OperandsLead code params role t ys u → OperandsLead code params role s (xs ++ ys) u
  leads_append [] ys s t u a b = subst (λ z. OperandsLead code params role z ys u) (sym a) b
  leads_append (x ∷ xs) ys s t u a b = (a.0, a.1, a.2, a.3, leads_append xs ys a.0 t u a.4 b)

  pub leads_one : (i : Instr) (s t : OperandTypes) → types_behind code params role i s ≡ Some t → falls_through (kind_of i) ≡ true → jump_target (kind_of i) ≡ None → OperandsLead code params role s (i ∷ []) t
  leads_one i s t e f g = (t, e, f, g, refl)

  -- the same with another type on top
  retyped : (a b : Ty) (below t : OperandTypes) (is : List Instr) → a ≡ b → OperandsLead code params role (b ∷ below) is t → OperandsLead code params role (a ∷ below) is t
  retyped a b below t is e h = subst (λ x. OperandsLead code params role (x ∷ below) is t) (sym e) h

  -- ---- one instruction

  pub constant_leads : (numbers : CodeNumbers) (v : Value) (ty : Ty) (s : OperandTypes) → HasConstantOfType code numbers v ty → IsTrue (in_bounds ty) → OperandsLead code params role s (constant_instr numbers v ty ∷ []) (ty ∷ s)
  constant_leads numbers value.Null ty s has bounds = leads_one (instr.Null ty) s (ty ∷ s) (ap (λ b. if b then Some (ty ∷ s) else None) bounds) refl refl
  constant_leads numbers (value.Int i) ty s has bounds = leads_one (instr.Const (numbers.constant (value.Int i) ty)) s (ty ∷ s) (ap (λ o. with_type (option_map (λ (c : ConstantPart). c.ty) o) s) has.1 ∙ ap (λ t. Some (t ∷ s)) has.2) refl refl
  constant_leads numbers (value.Dec d) ty s has bounds = leads_one (instr.Const (numbers.constant (value.Dec d) ty)) s (ty ∷ s) (ap (λ o. with_type (option_map (λ (c : ConstantPart). c.ty) o) s) has.1 ∙ ap (λ t. Some (t ∷ s)) has.2) refl refl
  constant_leads numbers (value.Txt t) ty s has bounds = leads_one (instr.Const (numbers.constant (value.Txt t) ty)) s (ty ∷ s) (ap (λ o. with_type (option_map (λ (c : ConstantPart). c.ty) o) s) has.1 ∙ ap (λ t. Some (t ∷ s)) has.2) refl refl

  pub load_by : (o : Option CodeCell) (any ty : Ty) (s : OperandTypes) → HasCellOfType code role o ty → OperandsLead code params role s (load_instr o any ∷ []) (ty ∷ s)
  load_by None any ty s has = absurd has
  load_by (Some (SlotCell n)) any ty s has = leads_one (instr.GLoad n) s (ty ∷ s) (ap (λ t. with_type t s) has) refl refl
  load_by (Some (LocalCell n)) any ty s has = leads_one (instr.LLoad n) s (ty ∷ s) (ap (λ t. with_type t s) has) refl refl
  load_by (Some (HashCell n)) any ty s has = absurd has
  load_by (Some (IteratorCell n)) any ty s has = absurd has
  load_by (Some (ParameterCell n)) any ty s has = absurd has

  pub same_type : (t : Ty) → same_ty t t ≡ true
  same_type BigInt = refl
  same_type (DecimalOf p s) = and_from (nat_eq p p) (nat_eq s s) (eq-eqb p p refl) (eq-eqb s s refl)
  same_type (Char n) = eq-eqb n n refl
  same_type (Varchar n) = eq-eqb n n refl

  pub stored : (t : Ty) (s : OperandTypes) → stored_type (Some t) (t ∷ s) ≡ Some s
  stored t s = ap (λ b. none_for (if b then Some (record { taken = t ∷ []; below = s }) else None)) (same_type t)

  pub store_by : (o : Option CodeCell) (ty : Ty) (s : OperandTypes) → HasCellOfType code role o ty → OperandsLead code params role (ty ∷ s) (store_instr o ∷ []) s
  store_by None ty s has = absurd has
  store_by (Some (SlotCell n)) ty s has = leads_one (instr.GStore n) (ty ∷ s) s (ap (λ t. stored_type t (ty ∷ s)) has ∙ stored ty s) refl refl
  store_by (Some (LocalCell n)) ty s has = leads_one (instr.LStore n) (ty ∷ s) s (ap (λ t. stored_type t (ty ∷ s)) has ∙ stored ty s) refl refl
  store_by (Some (HashCell n)) ty s has = absurd has
  store_by (Some (IteratorCell n)) ty s has = absurd has
  store_by (Some (ParameterCell n)) ty s has = absurd has

  -- ---- conversions and prefixes

  integer_is : (t : Ty) → class_of t ≡ Integers → t ≡ BigInt
  integer_is BigInt e = refl
  integer_is (DecimalOf p s) e = absurd cc
  integer_is (Char n) e = absurd cc
  integer_is (Varchar n) e = absurd cc

  rescale_leads : (t : Ty) (p s : ℕ) (below : OperandTypes) → class_of t ≡ Decimals → IsTrue (in_bounds (DecimalOf p s)) → types_behind code params role (instr.Rescale p s) (t ∷ below) ≡ Some (DecimalOf p s ∷ below)
  rescale_leads BigInt p s below class bounds = absurd cc
  rescale_leads (DecimalOf q r) p s below class bounds = ap (λ b. if b then Some (DecimalOf p s ∷ below) else None) bounds
  rescale_leads (Char n) p s below class bounds = absurd cc
  rescale_leads (Varchar n) p s below class bounds = absurd cc

  pad_leads : (t : Ty) (m : ℕ) (below : OperandTypes) → class_of t ≡ Texts → IsTrue (in_bounds (Char m)) → types_behind code params role (instr.Pad m) (t ∷ below) ≡ Some (Char m ∷ below)
  pad_leads BigInt m below class bounds = absurd cc
  pad_leads (DecimalOf q r) m below class bounds = absurd cc
  pad_leads (Char n) m below class bounds = ap (λ b. if b then Some (Char m ∷ below) else None) bounds
  pad_leads (Varchar n) m below class bounds = ap (λ b. if b then Some (Char m ∷ below) else None) bounds

  cut_leads : (t : Ty) (m : ℕ) (below : OperandTypes) → class_of t ≡ Texts → IsTrue (in_bounds (Varchar m)) → types_behind code params role (instr.Cut m) (t ∷ below) ≡ Some (Varchar m ∷ below)
  cut_leads BigInt m below class bounds = absurd cc
  cut_leads (DecimalOf q r) m below class bounds = absurd cc
  cut_leads (Char n) m below class bounds = ap (λ b. if b then Some (Varchar m ∷ below) else None) bounds
  cut_leads (Varchar n) m below class bounds = ap (λ b. if b then Some (Varchar m ∷ below) else None) bounds

  conversion_leads : (ty t : Ty) (below : OperandTypes) → class_of t ≡ class_of ty → IsTrue (in_bounds ty) → OperandsLead code params role (t ∷ below) (conversion_code ty) (ty ∷ below)
  conversion_leads BigInt t below class bounds = ap (λ x. x ∷ below) (integer_is t class)
  conversion_leads (DecimalOf p s) t below class bounds = leads_one (instr.Rescale p s) (t ∷ below) (DecimalOf p s ∷ below) (rescale_leads t p s below class bounds) refl refl
  conversion_leads (Char n) t below class bounds = leads_one (instr.Pad n) (t ∷ below) (Char n ∷ below) (pad_leads t n below class bounds) refl refl
  conversion_leads (Varchar n) t below class bounds = leads_one (instr.Cut n) (t ∷ below) (Varchar n ∷ below) (cut_leads t n below class bounds) refl refl

  pub truth_leads : (t : Ty) (below : OperandTypes) → IsNumeric t → OperandsLead code params role (t ∷ below) (truth_code t) (BigInt ∷ below)
  truth_leads BigInt below numeric = refl
  truth_leads (DecimalOf p s) below numeric = leads_one instr.DTruth (DecimalOf p s ∷ below) (BigInt ∷ below) refl refl refl
  truth_leads (Char n) below numeric = absurd numeric
  truth_leads (Varchar n) below numeric = absurd numeric

  negate_leads : (t : Ty) (below : OperandTypes) → class_of t ≡ Decimals → types_behind code params role instr.DNeg (t ∷ below) ≡ Some (t ∷ below)
  negate_leads BigInt below class = absurd cc
  negate_leads (DecimalOf q r) below class = refl
  negate_leads (Char n) below class = absurd cc
  negate_leads (Varchar n) below class = absurd cc

  -- the result has the type that is there
  resulting : (i : Instr) (s below : OperandTypes) (r t : Ty) → r ≡ t → types_behind code params role i s ≡ Some (t ∷ below) → types_behind code params role i s ≡ Some (r ∷ below)
  resulting i s below r t e h = h ∙ ap (λ x. Some (x ∷ below)) (sym e)

  prefix_leads : (p : Prefix) (t result : Ty) (below : OperandTypes) → IsPrefix p t result → OperandsLead code params role (t ∷ below) (prefix_code p t) (result ∷ below)
  prefix_leads prefix.IntegerNegate t result below is =
      leads_one instr.INeg (t ∷ below) (result ∷ below) (resulting instr.INeg (t ∷ below) below result BigInt is.1 (ap (λ x. types_behind code params role instr.INeg (x ∷ below)) is.0)) refl refl
  prefix_leads prefix.DecimalNegate t result below is = leads_one instr.DNeg (t ∷ below) (result ∷ below) (resulting instr.DNeg (t ∷ below) below result t is.1 (negate_leads t below is.0)) refl refl
  prefix_leads prefix.Plus t result below is = ap (λ x. x ∷ below) (sym is.1)
  prefix_leads prefix.Not t result below is =
      leads_append (truth_code t) (instr.Not ∷ []) (t ∷ below) (BigInt ∷ below) (result ∷ below) (truth_leads t below is.0)
      (leads_one instr.Not (BigInt ∷ below) (result ∷ below) (resulting instr.Not (BigInt ∷ below) below result BigInt is.1 refl) refl refl)

  -- ---- operations

  -- two operands of BIGINT
  integers_lead : (i : Instr) (a b result : Ty) (below : OperandTypes) → a ≡ BigInt → b ≡ BigInt → result ≡ BigInt → types_behind code params role i (BigInt ∷ BigInt ∷ below) ≡ Some (BigInt ∷ below) → types_behind code params role i (b ∷ a ∷ below) ≡ Some (result ∷ below)
  integers_lead i a b result below e f g h =
      ap (λ x. types_behind code params role i (x ∷ a ∷ below)) f ∙ ap (λ x. types_behind code params role i (BigInt ∷ x ∷ below)) e ∙ h ∙ ap (λ x. Some (x ∷ below)) (sym g)

  -- two decimals, for an instruction that gives one of a scale
  decimals_lead : (i : Instr) (scale : ℕ → ℕ → ℕ) (a b result : Ty) (below : OperandTypes) → class_of a ≡ Decimals → class_of b ≡ Decimals → result ≡ DecimalOf 38 (scale (type_scale a) (type_scale b)) → scale (type_scale a) (type_scale b) ≤ 38
      → ((p s q t : ℕ) → types_behind code params role i (DecimalOf q t ∷ DecimalOf p s ∷ below) ≡ with_type (decimal_of_scale (scale s t)) below) → types_behind code params role i (b ∷ a ∷ below) ≡ Some (result ∷ below)
  decimals_lead i scale (DecimalOf p s) (DecimalOf q t) result below e f g h gives =
      gives p s q t ∙ ap (λ b. with_type (if b then Some (DecimalOf 38 (scale s t)) else None) below) (le-leb (scale s t) 38 h) ∙ ap (λ x. Some (x ∷ below)) (sym g)
  decimals_lead i scale BigInt b result below e f g h gives = absurd cc
  decimals_lead i scale (Char n) b result below e f g h gives = absurd cc
  decimals_lead i scale (Varchar n) b result below e f g h gives = absurd cc
  decimals_lead i scale (DecimalOf p s) BigInt result below e f g h gives = absurd cc
  decimals_lead i scale (DecimalOf p s) (Char n) result below e f g h gives = absurd cc
  decimals_lead i scale (DecimalOf p s) (Varchar n) result below e f g h gives = absurd cc

  texts_lead : (a b result : Ty) (below : OperandTypes) → class_of a ≡ Texts → class_of b ≡ Texts → result ≡ Varchar (min 1024 (type_width a + type_width b)) → types_behind code params role instr.Cat (b ∷ a ∷ below) ≡ Some (result ∷ below)
  texts_lead (Char n) (Char m) result below e f g = ap (λ x. Some (x ∷ below)) (sym g)
  texts_lead (Char n) (Varchar m) result below e f g = ap (λ x. Some (x ∷ below)) (sym g)
  texts_lead (Varchar n) (Char m) result below e f g = ap (λ x. Some (x ∷ below)) (sym g)
  texts_lead (Varchar n) (Varchar m) result below e f g = ap (λ x. Some (x ∷ below)) (sym g)
  texts_lead BigInt b result below e f g = absurd cc
  texts_lead (DecimalOf p s) b result below e f g = absurd cc
  texts_lead (Char n) BigInt result below e f g = absurd cc
  texts_lead (Char n) (DecimalOf p s) result below e f g = absurd cc
  texts_lead (Varchar n) BigInt result below e f g = absurd cc
  texts_lead (Varchar n) (DecimalOf p s) result below e f g = absurd cc

  bound_of : (a b : ℕ) → a ≤ 38 → b ≤ 38 → max a b ≤ 38
  bound_of a b h k = omega arith

  quotient_of : (a b : ℕ) → a ≤ 38 → b ≤ 38 → max 6 (max a b) ≤ 38
  quotient_of a b h k = omega arith

  operation_leads : (o : Operation) (a b result : Ty) (below : OperandTypes) → in_bounds a ≡ true → in_bounds b ≡ true → IsOperation o a b result
      → OperandsLead code params role (operand_type o b ∷ operand_type o a ∷ below) (operation_instr o ∷ []) (result ∷ below)
  operation_leads operation.IntegerAdd a b result below h k is = leads_one instr.IAdd (b ∷ a ∷ below) (result ∷ below) (integers_lead instr.IAdd a b result below is.0 is.1 is.2 refl) refl refl
  operation_leads operation.IntegerSubtract a b result below h k is = leads_one instr.ISub (b ∷ a ∷ below) (result ∷ below) (integers_lead instr.ISub a b result below is.0 is.1 is.2 refl) refl refl
  operation_leads operation.IntegerMultiply a b result below h k is = leads_one instr.IMul (b ∷ a ∷ below) (result ∷ below) (integers_lead instr.IMul a b result below is.0 is.1 is.2 refl) refl refl
  operation_leads operation.DecimalAdd a b result below h k is =
      leads_one instr.DAdd (b ∷ a ∷ below) (result ∷ below) (decimals_lead instr.DAdd max a b result below is.0 is.1 is.2 (bound_of (type_scale a) (type_scale b) (scale_bound a h) (scale_bound b k)) (λ p s q t. refl)) refl refl
  operation_leads operation.DecimalSubtract a b result below h k is =
      leads_one instr.DSub (b ∷ a ∷ below) (result ∷ below) (decimals_lead instr.DSub max a b result below is.0 is.1 is.2 (bound_of (type_scale a) (type_scale b) (scale_bound a h) (scale_bound b k)) (λ p s q t. refl)) refl refl
  operation_leads operation.DecimalMultiply a b result below h k is =
      leads_one instr.DMul (b ∷ a ∷ below) (result ∷ below) (decimals_lead instr.DMul (λ s t. s + t) a b result below is.0.0 is.0.1 is.0.2 is.1 (λ p s q t. refl)) refl refl
  operation_leads operation.DecimalDivide a b result below h k is =
      leads_one instr.DDiv (b ∷ a ∷ below) (result ∷ below) (decimals_lead instr.DDiv (λ s t. max 6 (max s t)) a b result below is.0 is.1 is.2 (quotient_of (type_scale a) (type_scale b) (scale_bound a h) (scale_bound b k)) (λ p s q t. refl)) refl refl
  operation_leads operation.Concatenate a b result below h k is = leads_one instr.Cat (b ∷ a ∷ below) (result ∷ below) (texts_lead a b result below is.0 is.1 is.2) refl refl
  operation_leads operation.And a b result below h k is = leads_one instr.And (BigInt ∷ BigInt ∷ below) (result ∷ below) (ap (λ x. Some (x ∷ below)) (sym is.2)) refl refl
  operation_leads operation.Or a b result below h k is = leads_one instr.Or (BigInt ∷ BigInt ∷ below) (result ∷ below) (ap (λ x. Some (x ∷ below)) (sym is.2)) refl refl

  operand_leads : (o : Operation) (t : Ty) (below : OperandTypes) → IsNumberWhere o t → OperandsLead code params role (t ∷ below) (operand_code o t) (operand_type o t ∷ below)
  operand_leads operation.IntegerAdd t below is = refl
  operand_leads operation.IntegerSubtract t below is = refl
  operand_leads operation.IntegerMultiply t below is = refl
  operand_leads operation.DecimalAdd t below is = refl
  operand_leads operation.DecimalSubtract t below is = refl
  operand_leads operation.DecimalMultiply t below is = refl
  operand_leads operation.DecimalDivide t below is = refl
  operand_leads operation.Concatenate t below is = refl
  operand_leads operation.And t below is = truth_leads t below is
  operand_leads operation.Or t below is = truth_leads t below is

  numbers_where : (o : Operation) (a b result : Ty) → IsOperation o a b result → IsNumberWhere o a × IsNumberWhere o b
  numbers_where operation.IntegerAdd a b result is = (tt, tt)
  numbers_where operation.IntegerSubtract a b result is = (tt, tt)
  numbers_where operation.IntegerMultiply a b result is = (tt, tt)
  numbers_where operation.DecimalAdd a b result is = (tt, tt)
  numbers_where operation.DecimalSubtract a b result is = (tt, tt)
  numbers_where operation.DecimalMultiply a b result is = (tt, tt)
  numbers_where operation.DecimalDivide a b result is = (tt, tt)
  numbers_where operation.Concatenate a b result is = (tt, tt)
  numbers_where operation.And a b result is = (is.0, is.1)
  numbers_where operation.Or a b result is = (is.0, is.1)

  left_leads : (widens : Bool) (o : Operation) (ty left : Ty) (below : OperandTypes) → IsLeftOperand widens ty left → IsNumberWhere o left → OperandsLead code params role (ty ∷ below) (left_operand_code widens o ty) (operand_type o left ∷ below)
  left_leads true o ty left below is number =
      retyped ty BigInt below (operand_type o left ∷ below) (instr.IToD ∷ operand_code o (DecimalOf 19 0)) is.0
      (subst (λ t. OperandsLead code params role (BigInt ∷ below) (instr.IToD ∷ operand_code o (DecimalOf 19 0)) (operand_type o t ∷ below)) (sym is.1)
      (DecimalOf 19 0 ∷ below, refl, refl, refl, operand_leads o (DecimalOf 19 0) below (subst (λ t. IsNumberWhere o t) is.1 number)))
  left_leads false o ty left below is number = subst (λ t. OperandsLead code params role (t ∷ below) (operand_code o t) (operand_type o left ∷ below)) is (operand_leads o left below number)

  -- ---- comparisons

  pub comparison_leads : (c : Comparison) (a b : Ty) (below : OperandTypes) → class_of a ≡ class_of b → OperandsLead code params role (b ∷ a ∷ below) (comparison_instr (class_of a) c ∷ []) (BigInt ∷ below)
  comparison_leads c BigInt BigInt below e = leads_one (instr.ICmp c) (BigInt ∷ BigInt ∷ below) (BigInt ∷ below) refl refl refl
  comparison_leads c BigInt (DecimalOf q t) below e = absurd cc
  comparison_leads c BigInt (Char m) below e = absurd cc
  comparison_leads c BigInt (Varchar m) below e = absurd cc
  comparison_leads c (DecimalOf p s) BigInt below e = absurd cc
  comparison_leads c (DecimalOf p s) (DecimalOf q t) below e = leads_one (instr.DCmp c) (DecimalOf q t ∷ DecimalOf p s ∷ below) (BigInt ∷ below) refl refl refl
  comparison_leads c (DecimalOf p s) (Char m) below e = absurd cc
  comparison_leads c (DecimalOf p s) (Varchar m) below e = absurd cc
  comparison_leads c (Char n) BigInt below e = absurd cc
  comparison_leads c (Char n) (DecimalOf q t) below e = absurd cc
  comparison_leads c (Char n) (Char m) below e = leads_one (instr.TCmp c) (Char m ∷ Char n ∷ below) (BigInt ∷ below) refl refl refl
  comparison_leads c (Char n) (Varchar m) below e = leads_one (instr.TCmp c) (Varchar m ∷ Char n ∷ below) (BigInt ∷ below) refl refl refl
  comparison_leads c (Varchar n) BigInt below e = absurd cc
  comparison_leads c (Varchar n) (DecimalOf q t) below e = absurd cc
  comparison_leads c (Varchar n) (Char m) below e = leads_one (instr.TCmp c) (Char m ∷ Varchar n ∷ below) (BigInt ∷ below) refl refl refl
  comparison_leads c (Varchar n) (Varchar m) below e = leads_one (instr.TCmp c) (Varchar m ∷ Varchar n ∷ below) (BigInt ∷ below) refl refl refl

  -- ---- functions of several values

  one_below : (n : ℕ) (t : Ty) (below : OperandTypes) → copies n t (t ∷ below) ≡ t ∷ copies n t below
  one_below zero t below = refl
  one_below (suc n) t below = ap (λ s. t ∷ s) (one_below n t below)

  all_pushed : (t : Ty) (types : List Ty) (below : OperandTypes) → AllOfType t types → pushed_types types below ≡ copies (length types) t below
  all_pushed t [] below all = refl
  all_pushed t (x ∷ types) below all = ap (λ y. pushed_types types (y ∷ below)) all.0 ∙ all_pushed t types (t ∷ below) all.1 ∙ one_below (length types) t below

  taken_copies : (n : ℕ) (t : Ty) (taken : List Ty) (below : OperandTypes) → (xs : List Ty) × (take_classes (replicate n (OneType t)) taken (copies n t below) ≡ Some (record { taken = xs; below = below }))
  taken_copies zero t taken below = (taken, refl)
  taken_copies (suc n) t taken below =
      let it = taken_copies n t (t ∷ taken) below in
      (it.0, ap (λ b. if b then take_classes (replicate n (OneType t)) (t ∷ taken) (copies n t below) else None) (same_type t) ∙ it.1)

  chosen_lead : (least n : ℕ) (t : Ty) (below : OperandTypes) → 1 ≤ n → least ≤ n → n ≤ 16 → chosen_types least n (copies n t below) ≡ Some (t ∷ below)
  chosen_lead least zero t below some many few = let no : 1 ≤ 0 = some in absurd (omega arith)
  chosen_lead least (suc n) t below some many few =
      ap (λ b. if b then one_for (always t) (take_classes (replicate (suc n) (OneType t)) [] (copies (suc n) t below)) else None) (and_from (nat_le least (suc n)) (nat_le (suc n) 16) (le-leb least (suc n) many) (le-leb (suc n) 16 few))
      ∙ ap (λ o. one_for (always t) o) (taken_copies (suc n) t [] below).1

  number_is : (t : Ty) → IsNumeric t → is_number_type t ≡ true
  number_is BigInt is = refl
  number_is (DecimalOf p s) is = refl
  number_is (Char n) is = absurd is
  number_is (Varchar n) is = absurd is

  numbers_lead : (n : ℕ) (t : Ty) (below : OperandTypes) → 2 ≤ n → n ≤ 16 → IsNumeric t → chosen_numbers n (copies n t below) ≡ Some (t ∷ below)
  numbers_lead zero t below many few is = let no : 2 ≤ 0 = many in absurd (omega arith)
  numbers_lead (suc n) t below many few is =
      ap (λ b. if b then chosen_types 2 (suc n) (copies (suc n) t below) else None) (number_is t is) ∙ chosen_lead 2 (suc n) t below (omega arith) many few

  chosen_from : (i : Instr) (t : Ty) (types : List Ty) (below : OperandTypes) → AllOfType t types → types_behind code params role i (copies (length types) t below) ≡ Some (t ∷ below) → types_behind code params role i (pushed_types types below) ≡ Some (t ∷ below)
  chosen_from i t types below all h = ap (λ s. types_behind code params role i s) (all_pushed t types below all) ∙ h

  least_one : (n : ℕ) → 2 ≤ n → 1 ≤ n
  least_one n h = omega arith

  -- ---- functions

  pushed_is : (types : List Ty) (below : OperandTypes) → pushed_types types below ≡ reverse types ++ below
  pushed_is [] below = refl
  pushed_is (t ∷ types) below =
      pushed_is types (t ∷ below) ∙ sym (append_assoc (reverse types) (t ∷ []) below) ∙ ap (λ (z : List Ty). z ++ below) (sym (reverse-append (t ∷ []) types))

  -- a function of values takes its arguments off
  applied_leads : (f : ValueFunction) (types : List Ty) (result : Ty) (below : OperandTypes) → function_type f types ≡ Some result
      → types_behind code params role (instr.Apply f) (pushed_types types below) ≡ Some (result ∷ below)
  applied_leads f types result below is =
      let k = function_taken f types result is in
      let gives = type_by (function_row f).result in
      ap (λ (s : OperandTypes). one_for gives (take_classes (function_row f).operands [] s)) (pushed_is types below)
      ∙ ap (one_for gives) (classes_taken (function_row f).operands (reverse types) [] below k.0)
      ∙ ap (λ (z : List Ty). with_type (gives z) below) (append-nil (reverse (reverse types)) ∙ reverse-reverse types)
      ∙ ap (λ o. with_type o below) k.1

  function_leads : (f : Function) (types : List Ty) (result : Ty) (below : OperandTypes) → IsApplication f types result → OperandsLead code params role (pushed_types types below) (function_code f (length types)) (result ∷ below)
  function_leads (function.Value f) types result below is = leads_one (instr.Apply f) (pushed_types types below) (result ∷ below) (applied_leads f types result below is) refl refl
  function_leads function.Coalesce types result below is =
      leads_one (instr.Choose (length types)) (pushed_types types below) (result ∷ below) (chosen_from (instr.Choose (length types)) result types below is.1 (chosen_lead 1 (length types) result below is.0.0 is.0.0 is.0.1)) refl refl
  function_leads function.Least types result below is =
      leads_one (instr.Least (length types)) (pushed_types types below) (result ∷ below) (chosen_from (instr.Least (length types)) result types below is.2 (numbers_lead (length types) result below is.0.0 is.0.1 is.1)) refl refl
  function_leads function.Greatest types result below is =
      leads_one (instr.Greatest (length types)) (pushed_types types below) (result ∷ below) (chosen_from (instr.Greatest (length types)) result types below is.2 (numbers_lead (length types) result below is.0.0 is.0.1 is.1)) refl refl
  function_leads function.Unchanged [] result below is = absurd is
  function_leads function.Unchanged (a ∷ []) result below is = ap (λ x. x ∷ below) (is.0 ∙ sym is.1)
  function_leads function.Unchanged (a ∷ b ∷ types) result below is = absurd is

  -- ---- calls

  taken_by : (b : Bool) (c : OperandClass) (cs ds : List OperandClass) (t : Ty) (taken : List Ty) (types : OperandTypes) (r : TakenTypes) → (if b then take_classes cs (t ∷ taken) types else None) ≡ Some r
      → (take_classes cs (t ∷ taken) types ≡ Some r → take_classes (cs ++ ds) (t ∷ taken) types ≡ take_classes ds r.taken r.below) → (if b then take_classes (cs ++ ds) (t ∷ taken) types else None) ≡ take_classes ds r.taken r.below
  taken_by true c cs ds t taken types r e later = later e
  taken_by false c cs ds t taken types r e later = absurd cc

  -- operands of more classes are taken off behind those of the first ones
  taken_more : (cs ds : List OperandClass) (taken : List Ty) (types : OperandTypes) (r : TakenTypes) → take_classes cs taken types ≡ Some r → take_classes (cs ++ ds) taken types ≡ take_classes ds r.taken r.below
  taken_more [] ds taken types r e = ap (λ (x : TakenTypes). take_classes ds x.taken x.below) (same_taken (record { taken = taken; below = types }) r e)
  taken_more (c ∷ cs) ds taken [] r e = absurd cc
  taken_more (c ∷ cs) ds taken (t ∷ types) r e = taken_by (is_of_class c t) c cs ds t taken types r e (λ f. taken_more cs ds (t ∷ taken) types r f)

  mapped_both : (xs ys : List ParameterPart) → map (λ (p : ParameterPart). OneType p.ty) (xs ++ ys) ≡ map (λ (p : ParameterPart). OneType p.ty) xs ++ map (λ (p : ParameterPart). OneType p.ty) ys
  mapped_both [] ys = refl
  mapped_both (x ∷ xs) ys = ap (λ cs. OneType x.ty ∷ cs) (mapped_both xs ys)

  reversed_one : (p : ParameterPart) (ps : List ParameterPart) → reverse (p ∷ ps) ≡ reverse ps ++ p ∷ []
  reversed_one p ps = reverse-append (p ∷ []) ps

  -- the arguments of a call, the last one on top
  arguments_taken : (ps : List ParameterPart) (below : OperandTypes) → (xs : List Ty) × (take_classes (map (λ (p : ParameterPart). OneType p.ty) (reverse ps)) [] (pushed_types (map (λ (p : ParameterPart). p.ty) ps) below) ≡ Some (record { taken = xs; below = below }))
  arguments_taken [] below = ([], refl)
  arguments_taken (p ∷ ps) below =
      let it = arguments_taken ps (p.ty ∷ below) in
      let classes = map (λ (x : ParameterPart). OneType x.ty) (reverse ps) in
      let types = pushed_types (map (λ (x : ParameterPart). x.ty) ps) (p.ty ∷ below) in (
        p.ty ∷ it.0,
        ap (λ cs. take_classes cs [] types) (ap (λ xs. map (λ (x : ParameterPart). OneType x.ty) xs) (reversed_one p ps) ∙ mapped_both (reverse ps) (p ∷ []))
            ∙ taken_more classes (OneType p.ty ∷ []) [] types (record { taken = it.0; below = p.ty ∷ below }) it.1
            ∙ ap (λ b. if b then Some (record { taken = p.ty ∷ it.0; below = below }) else None) (same_type p.ty),
      )

  call_leads : (m : ℕ) (part : MethodPart) (below : OperandTypes) → slice_get code.methods m ≡ Some part
      → types_behind code params role (instr.Call m) (pushed_types (map (λ (p : ParameterPart). p.ty) part.parameters) below) ≡ Some (with_in_out_types part.parameters (with_result_type part.returns below))
  call_leads m part below coded =
      let types = pushed_types (map (λ (p : ParameterPart). p.ty) part.parameters) below in
      ap (λ o. call_types o types) coded ∙ ap (λ o. after_call_types part o) (arguments_taken part.parameters below).1

-- ---- expressions

types_of_parameters_are : (ps : List Parameter) → map (λ (p : ParameterPart). p.ty) (map parameter_part ps) ≡ map (λ (p : Parameter). p.ty) ps
types_of_parameters_are [] = refl
types_of_parameters_are (p ∷ ps) = ap (λ ts. p.ty ∷ ts) (types_of_parameters_are ps)

module _ (code : ProgramParts) (params : List (Option Ty)) (role : CodeRole) (numbers : CodeNumbers) (names : NamesInScope) (have_types : NamesHaveTypes code role numbers names) where
  -- the last values of in_out parameters go into their variables
  pub back_leads : (ps : List Parameter) (arguments : TypedArguments) (below : OperandTypes) → AreTypedArguments names ps arguments → OperandsLead code params role (with_in_out_types (map parameter_part ps) below) (back_code numbers arguments) below
  back_leads [] NoArgument below typed = refl
  back_leads [] (ByValue e rest) below typed = absurd typed
  back_leads [] (InOut r rest) below typed = absurd typed
  back_leads (p ∷ ps) NoArgument below typed = absurd typed
  back_leads (p ∷ ps) (ByValue e rest) below typed =
      subst (λ b. OperandsLead code params role (with_in_out_types (map parameter_part ps) (if b then p.ty ∷ below else below)) (back_code numbers rest) below) (sym typed.0) (back_leads ps rest below typed.3)
  back_leads (p ∷ ps) (InOut r rest) below typed =
      subst (λ b. OperandsLead code params role (with_in_out_types (map parameter_part ps) (if b then p.ty ∷ below else below)) (back_code numbers rest ++ store_instr (cell_of numbers r) ∷ []) below) (sym typed.0)
      (leads_append code params role (back_code numbers rest) (store_instr (cell_of numbers r) ∷ []) (with_in_out_types (map parameter_part ps) (p.ty ∷ below)) (p.ty ∷ below) below
      (back_leads ps rest (p.ty ∷ below) typed.3) (store_by code params role (cell_of numbers r) p.ty below (have_types.variables r p.ty typed.2)))

  pub called_leads : (home : Home) (callee : Callee) (part : MethodPart) (m : ℕ) (method : MethodTree) (below : OperandTypes) → numbers.callee home m ≡ Some callee → slice_get code.methods callee.number ≡ Some part → part.parameters ≡ map parameter_part method.parameters → part.returns ≡ method.returns
      → OperandsLead code params role (pushed_types (map (λ (p : Parameter). p.ty) method.parameters) below) (call_instr (numbers.callee home m) ∷ []) (with_in_out_types (map parameter_part method.parameters) (with_result_type method.returns below))
  called_leads home callee part m method below placed coded parameters returns =
      let start = pushed_types (map (λ (p : Parameter). p.ty) method.parameters) below in
      let last = with_in_out_types (map parameter_part method.parameters) (with_result_type method.returns below) in
      let at_part : pushed_types (map (λ (p : ParameterPart). p.ty) part.parameters) below ≡ start = ap (λ ps. pushed_types (map (λ (p : ParameterPart). p.ty) ps) below) parameters ∙ ap (λ ts. pushed_types ts below) (types_of_parameters_are method.parameters) in
      let leads : types_behind code params role (instr.Call callee.number) start ≡ Some last =
      ap (λ s. types_behind code params role (instr.Call callee.number) s) (sym at_part) ∙ call_leads code params role callee.number part below coded
      ∙ ap (λ ps. Some (with_in_out_types ps (with_result_type part.returns below))) parameters ∙ ap (λ r. Some (with_in_out_types (map parameter_part method.parameters) (with_result_type r below))) returns in
      subst (λ o. OperandsLead code params role start (call_instr o ∷ []) last) (sym placed) (leads_one code params role (instr.Call callee.number) start last leads refl refl)

  hash_leads : (o : Option CodeCell) (n : ℕ) (f : HashFunction) (s : OperandTypes) → o ≡ Some (HashCell n) → is_some (slice_get code.hashes n) ≡ true → OperandsLead code params role s (hash_instr o f ∷ []) (BigInt ∷ s)
  hash_leads o n f s placed there = subst (λ x. OperandsLead code params role s (hash_instr x f ∷ []) (BigInt ∷ s)) (sym placed) (leads_one code params role (instr.HCall n f) s (BigInt ∷ s) (part_there (slice_get code.hashes n) (Some (BigInt ∷ s)) there) refl refl)

  iterator_leads : (o : Option CodeCell) (n : ℕ) (f : IteratorFunction) (s : OperandTypes) → o ≡ Some (IteratorCell n) → is_some (slice_get code.iterators n) ≡ true → OperandsLead code params role s (iterator_instr o f ∷ []) (BigInt ∷ s)
  iterator_leads o n f s placed there = subst (λ x. OperandsLead code params role s (iterator_instr x f ∷ []) (BigInt ∷ s)) (sym placed) (leads_one code params role (instr.ICall n f) s (BigInt ∷ s) (part_there (slice_get code.iterators n) (Some (BigInt ∷ s)) there) refl refl)

  bounds_of : (e : TypedExpression) → IsTypedExpression names e → in_bounds (expression_type e) ≡ true
  bounds_of e typed = expression_bounds names have_types.bounds have_types.results e typed

  left_type_bounds : (widens : Bool) (ty left : Ty) → in_bounds ty ≡ true → IsLeftOperand widens ty left → in_bounds left ≡ true
  left_type_bounds true ty left h is = ap in_bounds is.1
  left_type_bounds false ty left h is = ap in_bounds is ∙ h

  mutual
    pub expression_leads : (e : TypedExpression) (s : OperandTypes) → HaveConstantsOfTypes code numbers (constants_used e) → IsTypedExpression names e → OperandsLead code params role s (expression_code numbers e) (expression_type e ∷ s)
    expression_leads (Constant v ty) s have typed = constant_leads code params role numbers v ty s have.0 typed.0
    expression_leads (Variable r ty) s have typed = load_by code params role (cell_of numbers r) ty ty s (have_types.variables r ty typed)
    expression_leads (Widen e) s have typed =
        leads_append code params role (expression_code numbers e) (instr.IToD ∷ []) s (expression_type e ∷ s) (DecimalOf 19 0 ∷ s) (expression_leads e s have typed.0)
        (retyped code params role (expression_type e) BigInt s (DecimalOf 19 0 ∷ s) (instr.IToD ∷ []) typed.1 (leads_one code params role instr.IToD (BigInt ∷ s) (DecimalOf 19 0 ∷ s) refl refl refl))
    expression_leads (Convert e ty) s have typed =
        leads_append code params role (expression_code numbers e) (conversion_code ty) s (expression_type e ∷ s) (ty ∷ s) (expression_leads e s have typed.0) (conversion_leads code params role ty (expression_type e) s typed.2 typed.1)
    expression_leads (Prefixed p e ty) s have typed =
        leads_append code params role (expression_code numbers e) (prefix_code p (expression_type e)) s (expression_type e ∷ s) (ty ∷ s) (expression_leads e s have typed.0) (prefix_leads code params role p (expression_type e) ty s typed.1)
    expression_leads (Chain first links) s have typed =
        leads_append code params role (expression_code numbers first) (links_code numbers (expression_type first) links) s (expression_type first ∷ s) (chain_type (expression_type first) links ∷ s)
        (expression_leads first s (front_types code numbers (constants_used first) (constants_of_links links) have) typed.0)
        (links_lead (expression_type first) links s (bounds_of first typed.0) (back_types code numbers (constants_used first) (constants_of_links links) have) typed.1)
    expression_leads (Compared c left right) s have typed =
        leads_append code params role (expression_code numbers left) (expression_code numbers right ++ comparison_instr (class_of (expression_type left)) c ∷ []) s (expression_type left ∷ s) (BigInt ∷ s)
        (expression_leads left s (front_types code numbers (constants_used left) (constants_used right) have) typed.0)
        (leads_append code params role (expression_code numbers right) (comparison_instr (class_of (expression_type left)) c ∷ []) (expression_type left ∷ s) (expression_type right ∷ expression_type left ∷ s) (BigInt ∷ s)
        (expression_leads right (expression_type left ∷ s) (back_types code numbers (constants_used left) (constants_used right) have) typed.1)
        (comparison_leads code params role c (expression_type left) (expression_type right) s typed.2))
    expression_leads (Applied f arguments ty) s have typed =
        leads_append code params role (expressions_code numbers arguments) (function_code f (expressions_count arguments)) s (pushed_types (expression_types arguments) s) (ty ∷ s) (expressions_lead arguments s have typed.0)
        (subst (λ n. OperandsLead code params role (pushed_types (expression_types arguments) s) (function_code f n) (ty ∷ s)) (sym (count_is arguments))
        (function_leads code params role f (expression_types arguments) ty s typed.1))
    expression_leads (Called instance number arguments ty) s have typed =
        let method = typed.0 in
        let it = have_types.methods instance number method typed.1 in
        let home = callee_home numbers.home instance in
        let types = map (λ (p : Parameter). p.ty) (MethodTree.parameters method) in
        leads_append code params role (arguments_code numbers arguments) (call_instr (numbers.callee home number) ∷ back_code numbers arguments) s (pushed_types types s) (ty ∷ s)
        (arguments_lead (MethodTree.parameters method) arguments s have typed.3)
        (leads_append code params role (call_instr (numbers.callee home number) ∷ []) (back_code numbers arguments) (pushed_types types s) (with_in_out_types (map parameter_part (MethodTree.parameters method)) (with_result_type (MethodTree.returns method) s)) (ty ∷ s)
        (called_leads home it.callee it.part number method s it.placed it.coded it.parameters it.returns)
        (subst (λ r. OperandsLead code params role (with_in_out_types (map parameter_part (MethodTree.parameters method)) (with_result_type r s)) (back_code numbers arguments) (ty ∷ s)) (sym typed.2)
        (back_leads (MethodTree.parameters method) arguments (ty ∷ s) typed.3)))
    expression_leads (HashCalled hash f) s have typed =
        let it = have_types.hashes hash typed in
        hash_leads (object_cell numbers hash) it.0 f s it.1 (ap is_some it.2.1)
    expression_leads (IteratorCalled iterator f) s have typed =
        let it = have_types.iterators iterator typed in
        iterator_leads (object_cell numbers iterator) it.0 f s it.1 (ap is_some it.2.1)

    pub expressions_lead : (es : TypedExpressions) (s : OperandTypes) → HaveConstantsOfTypes code numbers (constants_of_all es) → AreTypedExpressions names es → OperandsLead code params role s (expressions_code numbers es) (pushed_types (expression_types es) s)
    expressions_lead NoExpression s have typed = refl
    expressions_lead (Then e rest) s have typed =
        leads_append code params role (expression_code numbers e) (expressions_code numbers rest) s (expression_type e ∷ s) (pushed_types (expression_types rest) (expression_type e ∷ s))
        (expression_leads e s (front_types code numbers (constants_used e) (constants_of_all rest) have) typed.0)
        (expressions_lead rest (expression_type e ∷ s) (back_types code numbers (constants_used e) (constants_of_all rest) have) typed.1)

    pub arguments_lead : (ps : List Parameter) (arguments : TypedArguments) (s : OperandTypes) → HaveConstantsOfTypes code numbers (constants_of_arguments arguments) → AreTypedArguments names ps arguments
        → OperandsLead code params role s (arguments_code numbers arguments) (pushed_types (map (λ (p : Parameter). p.ty) ps) s)
    arguments_lead [] NoArgument s have typed = refl
    arguments_lead [] (ByValue e rest) s have typed = absurd typed
    arguments_lead [] (InOut r rest) s have typed = absurd typed
    arguments_lead (p ∷ ps) NoArgument s have typed = absurd typed
    arguments_lead (p ∷ ps) (ByValue e rest) s have typed =
        leads_append code params role (expression_code numbers e) (arguments_code numbers rest) s (p.ty ∷ s) (pushed_types (map (λ (x : Parameter). x.ty) ps) (p.ty ∷ s))
        (subst (λ t. OperandsLead code params role s (expression_code numbers e) (t ∷ s)) typed.2 (expression_leads e s (front_types code numbers (constants_used e) (constants_of_arguments rest) have) typed.1))
        (arguments_lead ps rest (p.ty ∷ s) (back_types code numbers (constants_used e) (constants_of_arguments rest) have) typed.3)
    arguments_lead (p ∷ ps) (InOut r rest) s have typed =
        leads_append code params role (load_instr (cell_of numbers r) BigInt ∷ []) (arguments_code numbers rest) s (p.ty ∷ s) (pushed_types (map (λ (x : Parameter). x.ty) ps) (p.ty ∷ s))
        (load_by code params role (cell_of numbers r) BigInt p.ty s (have_types.variables r p.ty typed.2)) (arguments_lead ps rest (p.ty ∷ s) have typed.3)

    links_lead : (ty : Ty) (links : Links) (s : OperandTypes) → in_bounds ty ≡ true → HaveConstantsOfTypes code numbers (constants_of_links links) → AreTypedLinks names ty links → OperandsLead code params role (ty ∷ s) (links_code numbers ty links) (chain_type ty links ∷ s)
    links_lead ty NoLink s bounds have typed = refl
    links_lead ty (Link widens o e to rest) s bounds have typed =
        let left : Ty = typed.1.0 in
        let te = expression_type e in
        let numeric = numbers_where code params role o left te to typed.1.2 in
        let own = left_type_bounds widens ty left bounds typed.1.1 in
        let more = operation_instr o ∷ links_code numbers to rest in
        let done : in_bounds to ≡ true = operation_bounds o left te to own (bounds_of e typed.0) typed.1.2 in
        leads_append code params role (left_operand_code widens o ty) (expression_code numbers e ++ (operand_code o te ++ more)) (ty ∷ s) (operand_type o left ∷ s) (chain_type to rest ∷ s)
        (left_leads code params role widens o ty left s typed.1.1 numeric.0)
        (leads_append code params role (expression_code numbers e) (operand_code o te ++ more) (operand_type o left ∷ s) (te ∷ operand_type o left ∷ s) (chain_type to rest ∷ s)
        (expression_leads e (operand_type o left ∷ s) (front_types code numbers (constants_used e) (constants_of_links rest) have) typed.0)
        (leads_append code params role (operand_code o te) more (te ∷ operand_type o left ∷ s) (operand_type o te ∷ operand_type o left ∷ s) (chain_type to rest ∷ s)
        (operand_leads code params role o te (operand_type o left ∷ s) numeric.1)
        (leads_append code params role (operation_instr o ∷ []) (links_code numbers to rest) (operand_type o te ∷ operand_type o left ∷ s) (to ∷ s) (chain_type to rest ∷ s)
        (operation_leads code params role o left te to s own (bounds_of e typed.0) typed.1.2)
        (links_lead to rest s done (back_types code numbers (constants_used e) (constants_of_links rest) have) typed.2))))

pub expressions_have_types : ExpressionsLead
expressions_have_types code parameters role numbers names e below have_types have typed = expression_leads code parameters role numbers names have_types e below have typed
