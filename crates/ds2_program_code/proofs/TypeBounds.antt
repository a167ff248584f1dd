-- The types of typed expressions are in bounds.
use Rattle.std.proofs.Common.{◌≡◌, ℕ, ◌+◌, ◌≤◌, min, max, nat_le, Bool, true, false, List, [], ◌∷◌, length, slice_get, Option, Some, None, if◌then◌else◌, refl, sym, ap, ◌∙◌, arith, le-leb, leb-true}
use Rattle.std.proofs.lemmas.Bool.{and_from, and_parts}
use Rattle.ds2_value.specs.Types.{is_from_one, in_bounds}
use Rattle.ds2_value.specs.ValueFunctions.{type_by, function_row}
use Rattle.ds2_value.specs.declared.ty.Ty.{Ty}
use Rattle.ds2_value.specs.declared.ty.Ty.TheVariants.{BigInt, Decimal as DecimalOf, Char, Varchar}
use Rattle.ds2_value.specs.declared.value_function.ResultType.{ResultType}
use Rattle.ds2_value.specs.declared.value_function.ResultType.TheVariants.{Integer, WholeDecimal, AsOperand, GreaterScale, PartOfFirst}
use Rattle.ds2_meaning.specs.declared.expressions.Function.{Function}
use Rattle.ds2_meaning.specs.declared.expressions.Function.TheVariants as function
use Rattle.ds2_meaning.specs.declared.expressions.Operation.{Operation}
use Rattle.ds2_meaning.specs.declared.expressions.Operation.TheVariants as operation
use Rattle.ds2_meaning.specs.declared.expressions.Prefix.{Prefix}
use Rattle.ds2_meaning.specs.declared.expressions.Prefix.TheVariants as prefix
use Rattle.ds2_meaning.specs.declared.location.Reference.{Reference}
use Rattle.ds2_meaning.specs.IsTyped.{NamesInScope, reference_type, class_of, Texts, type_scale, type_width, IsOperation, IsPrefix, AllOfType, IsApplication, chain_type, expression_type, expression_types, IsLeftOperand, IsTypedExpression, AreTypedLinks, AreTypedExpressions}
use Rattle.ds2_meaning.specs.Method.{MethodTree}
use Rattle.ds2_meaning.specs.TypedExpression.{TypedExpression, Constant, Variable, Widen, Convert, Prefixed, Chain, Compared, Applied, Called, HashCalled, IteratorCalled, Links, NoLink, Link, TypedExpressions, NoExpression, Then}
use Rattle.ds2_program_code.proofs.FunctionTypes.{function_taken}

-- ---- one type

pub scale_bound : (t : Ty) → in_bounds t ≡ true → type_scale t ≤ 38
scale_bound BigInt e = let h : 0 ≤ 38 = omega arith in h
scale_bound (DecimalOf p s) e =
    let parts = and_parts (is_from_one p 38) (nat_le s p) e in
    let range = and_parts (nat_le 1 p) (nat_le p 38) parts.0 in
    let most : p ≤ 38 = leb-true p 38 range.1 in
    let digits : s ≤ p = leb-true s p parts.1 in
    let h : s ≤ 38 = omega arith in
    h
scale_bound (Char n) e = let h : 0 ≤ 38 = omega arith in h
scale_bound (Varchar n) e = let h : 0 ≤ 38 = omega arith in h

pub decimal_bounds : (s : ℕ) → s ≤ 38 → in_bounds (DecimalOf 38 s) ≡ true
decimal_bounds s h = le-leb s 38 h

text_bounds : (n : ℕ) → 1 ≤ n → n ≤ 1024 → in_bounds (Varchar n) ≡ true
text_bounds n h k = and_from (nat_le 1 n) (nat_le n 1024) (le-leb 1 n h) (le-leb n 1024 k)

width_of : (n : ℕ) → is_from_one n 1024 ≡ true → (1 ≤ n) × (n ≤ 1024)
width_of n e =
    let range = and_parts (nat_le 1 n) (nat_le n 1024) e in
    (leb-true 1 n range.0, leb-true n 1024 range.1)

larger_bound : (a b m : ℕ) → a ≤ m → b ≤ m → max a b ≤ m
larger_bound a b m h k = omega arith

quotient_bound : (a b : ℕ) → a ≤ 38 → b ≤ 38 → max 6 (max a b) ≤ 38
quotient_bound a b h k = omega arith

joined_least : (a b : ℕ) → 1 ≤ a → 1 ≤ min 1024 (a + b)
joined_least a b h = omega arith

joined_most : (a b : ℕ) → min 1024 (a + b) ≤ 1024
joined_most a b = omega arith

text_width : (t : Ty) → class_of t ≡ Texts → in_bounds t ≡ true → (1 ≤ type_width t) × (type_width t ≤ 1024)
text_width BigInt class e = absurd cc
text_width (DecimalOf p s) class e = absurd cc
text_width (Char n) class e = width_of n e
text_width (Varchar n) class e = width_of n e

-- ---- results

is_this : (t u : Ty) → t ≡ u → in_bounds u ≡ true → in_bounds t ≡ true
is_this t u e h = ap in_bounds e ∙ h

pub operation_bounds : (o : Operation) (a b result : Ty) → in_bounds a ≡ true → in_bounds b ≡ true → IsOperation o a b result → in_bounds result ≡ true
operation_bounds operation.IntegerAdd a b result h k is = is_this result BigInt is.2 refl
operation_bounds operation.IntegerSubtract a b result h k is = is_this result BigInt is.2 refl
operation_bounds operation.IntegerMultiply a b result h k is = is_this result BigInt is.2 refl
operation_bounds operation.DecimalAdd a b result h k is =
    is_this result (DecimalOf 38 (max (type_scale a) (type_scale b))) is.2 (decimal_bounds (max (type_scale a) (type_scale b)) (larger_bound (type_scale a) (type_scale b) 38 (scale_bound a h) (scale_bound b k)))
operation_bounds operation.DecimalSubtract a b result h k is =
    is_this result (DecimalOf 38 (max (type_scale a) (type_scale b))) is.2 (decimal_bounds (max (type_scale a) (type_scale b)) (larger_bound (type_scale a) (type_scale b) 38 (scale_bound a h) (scale_bound b k)))
operation_bounds operation.DecimalMultiply a b result h k is = is_this result (DecimalOf 38 (type_scale a + type_scale b)) is.0.2 (decimal_bounds (type_scale a + type_scale b) is.1)
operation_bounds operation.DecimalDivide a b result h k is =
    is_this result (DecimalOf 38 (max 6 (max (type_scale a) (type_scale b)))) is.2 (decimal_bounds (max 6 (max (type_scale a) (type_scale b))) (quotient_bound (type_scale a) (type_scale b) (scale_bound a h) (scale_bound b k)))
operation_bounds operation.Concatenate a b result h k is =
    is_this result (Varchar (min 1024 (type_width a + type_width b))) is.2
    (text_bounds (min 1024 (type_width a + type_width b)) (joined_least (type_width a) (type_width b) (text_width a is.0 h).0) (joined_most (type_width a) (type_width b)))
operation_bounds operation.And a b result h k is = is_this result BigInt is.2 refl
operation_bounds operation.Or a b result h k is = is_this result BigInt is.2 refl

prefix_bounds : (p : Prefix) (a result : Ty) → in_bounds a ≡ true → IsPrefix p a result → in_bounds result ≡ true
prefix_bounds prefix.IntegerNegate a result h is = is_this result BigInt is.1 refl
prefix_bounds prefix.DecimalNegate a result h is = is_this result a is.1 h
prefix_bounds prefix.Plus a result h is = is_this result a is.1 h
prefix_bounds prefix.Not a result h is = is_this result BigInt is.1 refl

abbrev AllInBounds : List Ty → Type 0
AllInBounds [] = Unit {0}
AllInBounds (t ∷ types) = (in_bounds t ≡ true) × AllInBounds types

one_of_many : (least : ℕ) (types : List Ty) (result : Ty) → 1 ≤ least → least ≤ length types → AllInBounds types → AllOfType result types → in_bounds result ≡ true
one_of_many least [] result some many bounds all = let no : least ≤ 0 = many in absurd (omega arith)
one_of_many least (t ∷ types) result some many bounds all = is_this result t (sym all.0) bounds.0

decimal_if : (b : Bool) (s : ℕ) (result : Ty) → nat_le s 38 ≡ b → (if b then Some (DecimalOf 38 s) else None) ≡ Some result → in_bounds result ≡ true
decimal_if true s result h e = let same : result ≡ DecimalOf 38 s = cc in is_this result (DecimalOf 38 s) same h
decimal_if false s result h e = absurd cc

-- the type that a row gives
row_bounds : (r : ResultType) (types : List Ty) (result : Ty) → AllInBounds types → type_by r types ≡ Some result → in_bounds result ≡ true
row_bounds Integer types result bounds e = let same : result ≡ BigInt = cc in is_this result BigInt same refl
row_bounds WholeDecimal types result bounds e = let same : result ≡ DecimalOf 38 0 = cc in is_this result (DecimalOf 38 0) same refl
row_bounds AsOperand [] result bounds e = absurd cc
row_bounds AsOperand (t ∷ []) result bounds e = let same : result ≡ t = cc in is_this result t same bounds.0
row_bounds AsOperand (t ∷ u ∷ types) result bounds e = absurd cc
row_bounds GreaterScale [] result bounds e = absurd cc
row_bounds GreaterScale (BigInt ∷ types) result bounds e = absurd cc
row_bounds GreaterScale (Char n ∷ types) result bounds e = absurd cc
row_bounds GreaterScale (Varchar n ∷ types) result bounds e = absurd cc
row_bounds GreaterScale (DecimalOf p s ∷ []) result bounds e = absurd cc
row_bounds GreaterScale (DecimalOf p s ∷ BigInt ∷ types) result bounds e = absurd cc
row_bounds GreaterScale (DecimalOf p s ∷ Char n ∷ types) result bounds e = absurd cc
row_bounds GreaterScale (DecimalOf p s ∷ Varchar n ∷ types) result bounds e = absurd cc
row_bounds GreaterScale (DecimalOf p s ∷ DecimalOf q t ∷ []) result bounds e = decimal_if (nat_le (max s t) 38) (max s t) result refl e
row_bounds GreaterScale (DecimalOf p s ∷ DecimalOf q t ∷ u ∷ types) result bounds e = absurd cc
row_bounds PartOfFirst [] result bounds e = absurd cc
row_bounds PartOfFirst (BigInt ∷ types) result bounds e = absurd cc
row_bounds PartOfFirst (DecimalOf p s ∷ types) result bounds e = absurd cc
row_bounds PartOfFirst (Char n ∷ types) result bounds e = let same : result ≡ Varchar n = cc in is_this result (Varchar n) same bounds.0
row_bounds PartOfFirst (Varchar n ∷ types) result bounds e = let same : result ≡ Varchar n = cc in is_this result (Varchar n) same bounds.0

application_bounds : (f : Function) (types : List Ty) (result : Ty) → AllInBounds types → IsApplication f types result → in_bounds result ≡ true
application_bounds (function.Value f) types result bounds is = row_bounds (function_row f).result types result bounds (function_taken f types result is).1
application_bounds function.Coalesce types result bounds is = one_of_many 1 types result (omega arith) is.0.0 bounds is.1
application_bounds function.Least types result bounds is = one_of_many 2 types result (omega arith) is.0.0 bounds is.2
application_bounds function.Greatest types result bounds is = one_of_many 2 types result (omega arith) is.0.0 bounds is.2
application_bounds function.Unchanged [] result bounds is = absurd is
application_bounds function.Unchanged (a ∷ []) result bounds is = is_this result BigInt is.1 refl
application_bounds function.Unchanged (a ∷ b ∷ types) result bounds is = absurd is

left_bounds : (widens : Bool) (ty left : Ty) → in_bounds ty ≡ true → IsLeftOperand widens ty left → in_bounds left ≡ true
left_bounds true ty left h is = is_this left (DecimalOf 19 0) is.1 refl
left_bounds false ty left h is = is_this left ty is h

-- ---- expressions

module _ (names : NamesInScope) (variables : (r : Reference) (ty : Ty) → reference_type names r ≡ Some ty → in_bounds ty ≡ true)
    (results : (instance : Option (List ℕ)) (number : ℕ) (method : MethodTree) (ty : Ty) → slice_get (names.methods instance) number ≡ Some method → method.returns ≡ Some ty → in_bounds ty ≡ true) where
  mutual
    pub expression_bounds : (e : TypedExpression) → IsTypedExpression names e → in_bounds (expression_type e) ≡ true
    expression_bounds (Constant v ty) typed = typed.0
    expression_bounds (Variable r ty) typed = variables r ty typed
    expression_bounds (Widen e) typed = refl
    expression_bounds (Convert e ty) typed = typed.1
    expression_bounds (Prefixed p e ty) typed = prefix_bounds p (expression_type e) ty (expression_bounds e typed.0) typed.1
    expression_bounds (Chain first links) typed = links_bounds (expression_type first) links (expression_bounds first typed.0) typed.1
    expression_bounds (Compared c left right) typed = refl
    expression_bounds (Applied f arguments ty) typed = application_bounds f (expression_types arguments) ty (expressions_bounds arguments typed.0) typed.1
    expression_bounds (Called instance number arguments ty) typed = results instance number typed.0 ty typed.1 typed.2
    expression_bounds (HashCalled hash f) typed = refl
    expression_bounds (IteratorCalled iterator f) typed = refl

    links_bounds : (ty : Ty) (links : Links) → in_bounds ty ≡ true → AreTypedLinks names ty links → in_bounds (chain_type ty links) ≡ true
    links_bounds ty NoLink h typed = h
    links_bounds ty (Link widens o e to rest) h typed =
        let left = typed.1.0 in
        links_bounds to rest (operation_bounds o left (expression_type e) to (left_bounds widens ty left h typed.1.1) (expression_bounds e typed.0) typed.1.2) typed.2

    expressions_bounds : (es : TypedExpressions) → AreTypedExpressions names es → AllInBounds (expression_types es)
    expressions_bounds NoExpression typed = tt
    expressions_bounds (Then e rest) typed = (expression_bounds e typed.0, expressions_bounds rest typed.1)
