-- The code of expressions has no jump.
use Rattle.std.proofs.Common.{◌≡◌, ℕ, Bool, true, false, List, [], ◌∷◌, ◌++◌, Option, Some, None, refl, if◌then◌else◌}
use Rattle.ds2_value.specs.declared.hash_function.HashFunction.{HashFunction}
use Rattle.ds2_value.specs.declared.hash_function.IteratorFunction.{IteratorFunction}
use Rattle.ds2_value.specs.declared.ty.Ty.{Ty}
use Rattle.ds2_value.specs.declared.ty.Ty.TheVariants.{BigInt, Decimal as DecimalOf, Char, Varchar}
use Rattle.ds2_value.specs.declared.value.Value.{Value}
use Rattle.ds2_value.specs.declared.value.Value.TheVariants as value
use Rattle.ds2_value.specs.declared.comparison.Comparison.{Comparison}
use Rattle.ds2_meaning.specs.declared.expressions.Function.{Function}
use Rattle.ds2_meaning.specs.declared.expressions.Function.TheVariants as function
use Rattle.ds2_meaning.specs.declared.expressions.Operation.{Operation}
use Rattle.ds2_meaning.specs.declared.expressions.Operation.TheVariants as operation
use Rattle.ds2_meaning.specs.declared.expressions.Prefix.{Prefix}
use Rattle.ds2_meaning.specs.declared.expressions.Prefix.TheVariants as prefix
use Rattle.ds2_meaning.specs.Evaluation.{callee_home}
use Rattle.ds2_meaning.specs.IsTyped.{TypeClass, Integers, Decimals, Texts, class_of, expression_type}
use Rattle.ds2_meaning.specs.Location.{Home}
use Rattle.ds2_meaning.specs.TypedExpression.{TypedExpression, Constant, Variable, Widen, Convert, Prefixed, Chain, Compared, Applied, Called, HashCalled, IteratorCalled, Links, NoLink, Link, TypedExpressions, NoExpression, Then, TypedArguments, NoArgument, ByValue, InOut}
use Rattle.ds2_meaning.specs.TypedStatement.{ParameterValue, Item, Text, Shown, Labelled}
use Rattle.ds2_meaning.specs.declared.globals.Variable as global_variable
use Rattle.ds2_code.specs.declared.instr.Instr.{Instr}
use Rattle.ds2_code.specs.declared.instr.Instr.TheVariants as instr
use Rattle.ds2_code.specs.CodeBound.{jump_target}
use Rattle.ds2_code.specs.InstructionTable.{kind_of}
use Rattle.ds2_gen.specs.CodeCells.{LocalNamed, CodeCell, SlotCell, LocalCell, HashCell, IteratorCell, ParameterCell}
use Rattle.ds2_gen.specs.ExpressionCode.{Callee, CodeNumbers, constant_instr, load_instr, cell_of, store_instr, call_instr, object_cell, hash_instr, iterator_instr, conversion_code, truth_code, prefix_code, operation_instr, operand_code, widening_code, widened_type, left_operand_code, comparison_instr, function_code, expressions_count, back_code, expression_code, expressions_code, links_code, method_call_code, arguments_code, condition_code}
use Rattle.ds2_gen.specs.StatementCode.{drop_code, text_type, label_of, outputs_code, item_code, items_code, invoke_code, construct_code, parameter_cell, parameters_code}
use Rattle.ds2_gen.specs.UnitCode.{locals_code}

-- no instruction of these jumps
abbrev pub IsPlain : List Instr → Type 0
IsPlain [] = Unit {0}
IsPlain (i ∷ is) = (jump_target (kind_of i) ≡ None) × IsPlain is

pub plain_append : (xs ys : List Instr) → IsPlain xs → IsPlain ys → IsPlain (xs ++ ys)
plain_append [] ys a b = b
plain_append (x ∷ xs) ys a b = (a.0, plain_append xs ys a.1 b)

-- ---- one instruction

pub constant_plain : (numbers : CodeNumbers) (v : Value) (ty : Ty) → jump_target (kind_of (constant_instr numbers v ty)) ≡ None
constant_plain numbers value.Null ty = refl
constant_plain numbers (value.Int i) ty = refl
constant_plain numbers (value.Dec d) ty = refl
constant_plain numbers (value.Txt t) ty = refl

pub load_plain : (o : Option CodeCell) (ty : Ty) → jump_target (kind_of (load_instr o ty)) ≡ None
load_plain None ty = refl
load_plain (Some (SlotCell n)) ty = refl
load_plain (Some (LocalCell n)) ty = refl
load_plain (Some (HashCell n)) ty = refl
load_plain (Some (IteratorCell n)) ty = refl
load_plain (Some (ParameterCell n)) ty = refl

pub store_plain : (o : Option CodeCell) → jump_target (kind_of (store_instr o)) ≡ None
store_plain None = refl
store_plain (Some (SlotCell n)) = refl
store_plain (Some (LocalCell n)) = refl
store_plain (Some (HashCell n)) = refl
store_plain (Some (IteratorCell n)) = refl
store_plain (Some (ParameterCell n)) = refl

call_plain : (o : Option Callee) → jump_target (kind_of (call_instr o)) ≡ None
call_plain None = refl
call_plain (Some callee) = refl

hash_plain : (o : Option CodeCell) (f : HashFunction) → jump_target (kind_of (hash_instr o f)) ≡ None
hash_plain None f = refl
hash_plain (Some (SlotCell n)) f = refl
hash_plain (Some (LocalCell n)) f = refl
hash_plain (Some (HashCell n)) f = refl
hash_plain (Some (IteratorCell n)) f = refl
hash_plain (Some (ParameterCell n)) f = refl

iterator_plain : (o : Option CodeCell) (f : IteratorFunction) → jump_target (kind_of (iterator_instr o f)) ≡ None
iterator_plain None f = refl
iterator_plain (Some (SlotCell n)) f = refl
iterator_plain (Some (LocalCell n)) f = refl
iterator_plain (Some (HashCell n)) f = refl
iterator_plain (Some (IteratorCell n)) f = refl
iterator_plain (Some (ParameterCell n)) f = refl

pub comparison_plain : (kind : TypeClass) (comparison : Comparison) → jump_target (kind_of (comparison_instr kind comparison)) ≡ None
comparison_plain Integers comparison = refl
comparison_plain Decimals comparison = refl
comparison_plain Texts comparison = refl

operation_plain : (o : Operation) → jump_target (kind_of (operation_instr o)) ≡ None
operation_plain operation.IntegerAdd = refl
operation_plain operation.IntegerSubtract = refl
operation_plain operation.IntegerMultiply = refl
operation_plain operation.DecimalAdd = refl
operation_plain operation.DecimalSubtract = refl
operation_plain operation.DecimalMultiply = refl
operation_plain operation.DecimalDivide = refl
operation_plain operation.Concatenate = refl
operation_plain operation.And = refl
operation_plain operation.Or = refl

-- ---- short runs

conversion_plain : (ty : Ty) → IsPlain (conversion_code ty)
conversion_plain BigInt = tt
conversion_plain (DecimalOf p s) = (refl, tt)
conversion_plain (Char n) = (refl, tt)
conversion_plain (Varchar n) = (refl, tt)

truth_plain : (ty : Ty) → IsPlain (truth_code ty)
truth_plain BigInt = tt
truth_plain (DecimalOf p s) = (refl, tt)
truth_plain (Char n) = tt
truth_plain (Varchar n) = tt

prefix_plain : (x : Prefix) (ty : Ty) → IsPlain (prefix_code x ty)
prefix_plain prefix.IntegerNegate ty = (refl, tt)
prefix_plain prefix.DecimalNegate ty = (refl, tt)
prefix_plain prefix.Plus ty = tt
prefix_plain prefix.Not ty = plain_append (truth_code ty) (instr.Not ∷ []) (truth_plain ty) (refl, tt)

operand_plain : (o : Operation) (ty : Ty) → IsPlain (operand_code o ty)
operand_plain operation.And ty = truth_plain ty
operand_plain operation.Or ty = truth_plain ty
operand_plain _ ty = tt

widening_plain : (b : Bool) → IsPlain (widening_code b)
widening_plain true = (refl, tt)
widening_plain false = tt

left_operand_plain : (b : Bool) (o : Operation) (ty : Ty) → IsPlain (left_operand_code b o ty)
left_operand_plain b o ty = plain_append (widening_code b) (operand_code o (widened_type b ty)) (widening_plain b) (operand_plain o (widened_type b ty))

function_plain : (f : Function) (n : ℕ) → IsPlain (function_code f n)
function_plain (function.Value f) n = (refl, tt)
function_plain function.Coalesce n = (refl, tt)
function_plain function.Least n = (refl, tt)
function_plain function.Greatest n = (refl, tt)
function_plain function.Unchanged n = tt

-- ---- expressions

module _ (numbers : CodeNumbers) where
  back_plain : (arguments : TypedArguments) → IsPlain (back_code numbers arguments)
  back_plain NoArgument = tt
  back_plain (ByValue e rest) = back_plain rest
  back_plain (InOut r rest) = plain_append (back_code numbers rest) (store_instr (cell_of numbers r) ∷ []) (back_plain rest) (store_plain (cell_of numbers r), tt)

  mutual
    pub expression_plain : (e : TypedExpression) → IsPlain (expression_code numbers e)
    expression_plain (Constant v ty) = (constant_plain numbers v ty, tt)
    expression_plain (Variable r ty) = (load_plain (cell_of numbers r) ty, tt)
    expression_plain (Widen e) = plain_append (expression_code numbers e) (instr.IToD ∷ []) (expression_plain e) (refl, tt)
    expression_plain (Convert e ty) = plain_append (expression_code numbers e) (conversion_code ty) (expression_plain e) (conversion_plain ty)
    expression_plain (Prefixed x e ty) = plain_append (expression_code numbers e) (prefix_code x (expression_type e)) (expression_plain e) (prefix_plain x (expression_type e))
    expression_plain (Chain first links) = plain_append (expression_code numbers first) (links_code numbers (expression_type first) links) (expression_plain first) (links_plain links (expression_type first))
    expression_plain (Compared comparison left right) =
        let i = comparison_instr (class_of (expression_type left)) comparison in
        plain_append (expression_code numbers left) (expression_code numbers right ++ i ∷ []) (expression_plain left)
        (plain_append (expression_code numbers right) (i ∷ []) (expression_plain right) (comparison_plain (class_of (expression_type left)) comparison, tt))
    expression_plain (Applied f arguments ty) =
        plain_append (expressions_code numbers arguments) (function_code f (expressions_count arguments)) (expressions_plain arguments) (function_plain f (expressions_count arguments))
    expression_plain (Called instance method arguments ty) =
        let i = call_instr (numbers.callee (callee_home numbers.home instance) method) in
        plain_append (arguments_code numbers arguments) (i ∷ back_code numbers arguments) (arguments_plain arguments) (call_plain (numbers.callee (callee_home numbers.home instance) method), back_plain arguments)
    expression_plain (HashCalled hash f) = (hash_plain (object_cell numbers hash) f, tt)
    expression_plain (IteratorCalled iterator f) = (iterator_plain (object_cell numbers iterator) f, tt)

    expressions_plain : (es : TypedExpressions) → IsPlain (expressions_code numbers es)
    expressions_plain NoExpression = tt
    expressions_plain (Then e rest) = plain_append (expression_code numbers e) (expressions_code numbers rest) (expression_plain e) (expressions_plain rest)

    links_plain : (links : Links) (ty : Ty) → IsPlain (links_code numbers ty links)
    links_plain NoLink ty = tt
    links_plain (Link widens o e to rest) ty =
        let c1 = left_operand_code widens o ty in
        let c2 = expression_code numbers e in
        let c3 = operand_code o (expression_type e) in
        let c4 = operation_instr o ∷ links_code numbers to rest in
        plain_append c1 (c2 ++ (c3 ++ c4)) (left_operand_plain widens o ty)
        (plain_append c2 (c3 ++ c4) (expression_plain e) (plain_append c3 c4 (operand_plain o (expression_type e)) (operation_plain o, links_plain rest to)))

    arguments_plain : (arguments : TypedArguments) → IsPlain (arguments_code numbers arguments)
    arguments_plain NoArgument = tt
    arguments_plain (ByValue e rest) = plain_append (expression_code numbers e) (arguments_code numbers rest) (expression_plain e) (arguments_plain rest)
    arguments_plain (InOut r rest) = (load_plain (cell_of numbers r) BigInt, arguments_plain rest)

  pub condition_plain : (e : TypedExpression) → IsPlain (condition_code numbers e)
  condition_plain e = plain_append (expression_code numbers e) (truth_code (expression_type e)) (expression_plain e) (truth_plain (expression_type e))

  -- ---- parts of statements

  drop_by : (b : Bool) → IsPlain (if b then instr.DropTop ∷ [] else [])
  drop_by true = (refl, tt)
  drop_by false = tt

  drop_plain : (o : Option Callee) → IsPlain (drop_code o)
  drop_plain None = tt
  drop_plain (Some callee) = drop_by callee.has_result

  pub invoke_plain : (home : Home) (k : ℕ) (arguments : TypedArguments) → IsPlain (invoke_code numbers home k arguments)
  invoke_plain home k arguments =
      let tail = call_instr (numbers.callee home k) ∷ back_code numbers arguments in
      plain_append (method_call_code numbers home k arguments) (drop_code (numbers.callee home k))
      (plain_append (arguments_code numbers arguments) tail (arguments_plain arguments) (call_plain (numbers.callee home k), back_plain arguments)) (drop_plain (numbers.callee home k))

  pub construct_plain : (instance : List ℕ) (constructor : Option ℕ) (arguments : TypedArguments) → IsPlain (construct_code numbers instance constructor arguments)
  construct_plain instance None arguments = tt
  construct_plain instance (Some k) arguments = invoke_plain (Some instance) k arguments

  pub parameters_plain : (instance : List ℕ) (ps : List ParameterValue) → IsPlain (parameters_code numbers instance ps)
  parameters_plain instance [] = tt
  parameters_plain instance (p ∷ ps) =
      plain_append (expression_code numbers p.value) (store_instr (parameter_cell numbers instance p.parameter) ∷ parameters_code numbers instance ps) (expression_plain p.value)
      (store_plain (parameter_cell numbers instance p.parameter), parameters_plain instance ps)

  item_plain : (item : Item) → IsPlain (item_code numbers item)
  item_plain (Text t) = (constant_plain numbers (value.Txt t) (text_type t), tt)
  item_plain (Shown e) = plain_append (expression_code numbers e) (instr.Show ∷ []) (expression_plain e) (refl, tt)
  item_plain (Labelled name e) = (constant_plain numbers (value.Txt (label_of name)) (text_type (label_of name)), plain_append (expression_code numbers e) (instr.Show ∷ instr.Cat ∷ []) (expression_plain e) (refl, (refl, tt)))

  pub items_plain : (items : List Item) → IsPlain (items_code numbers items)
  items_plain [] = tt
  items_plain (item ∷ items) = plain_append (item_code numbers item) (items_code numbers items) (item_plain item) (items_plain items)

  pub locals_plain : (locals : List global_variable.Variable) → IsPlain (locals_code numbers locals)
  locals_plain [] = tt
  locals_plain (v ∷ locals) = (refl, (store_plain (numbers.placement.cell (LocalNamed v.name)), locals_plain locals))

pub outputs_plain : (ns : List ℕ) → IsPlain (outputs_code ns)
outputs_plain [] = tt
outputs_plain (n ∷ ns) = (refl, outputs_plain ns)
