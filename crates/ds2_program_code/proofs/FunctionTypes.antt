-- What functions of values take and leave, by their rows.
use Rattle.std.proofs.Common.{◌≡◌, suc, Bool, true, false, List, [], ◌∷◌, ◌++◌, length, reverse, Option, Some, None, if◌then◌else◌, refl, sym, ap, ◌∙◌, append_assoc}
use Rattle.std.proofs.lemmas.Bool.{and_parts}
use Rattle.std.proofs.lemmas.List.{reverse-append, length-reverse}
use Rattle.ds2_value.specs.ValueFunctions.{is_of_class, are_of_classes, type_by, function_row, function_type}
use Rattle.ds2_value.specs.declared.ty.Ty.{Ty}
use Rattle.ds2_value.specs.declared.value_function.OperandClass.{OperandClass}
use Rattle.ds2_value.specs.declared.value_function.ValueFunction.{ValueFunction}
use Rattle.ds2_meaning.specs.IsTyped.{expression_types}
use Rattle.ds2_meaning.specs.TypedExpression.{TypedExpressions, NoExpression, Then}
use Rattle.ds2_code.specs.OperandTypes.{OperandTypes, take_classes}
use Rattle.ds2_gen.specs.ExpressionCode.{expressions_count}

taken_if : (b : Bool) (t : Option Ty) (result : Ty) → (if b then t else None) ≡ Some result → (b ≡ true) × (t ≡ Some result)
taken_if true t result e = (refl, e)
taken_if false t result e = absurd cc

-- arguments that a function takes are of its classes, and its result has the type that its row gives
pub function_taken : (f : ValueFunction) (types : List Ty) (result : Ty) → function_type f types ≡ Some result
    → (are_of_classes (function_row f).operands (reverse types) ≡ true) × (type_by (function_row f).result types ≡ Some result)
function_taken f types result e = taken_if (are_of_classes (function_row f).operands (reverse types)) (type_by (function_row f).result types) result e

classes_count : (cs : List OperandClass) (types : List Ty) → are_of_classes cs types ≡ true → length types ≡ length cs
classes_count [] [] h = refl
classes_count [] (t ∷ types) h = absurd cc
classes_count (c ∷ cs) [] h = absurd cc
classes_count (c ∷ cs) (t ∷ types) h = ap (λ n. suc n) (classes_count cs types (and_parts (is_of_class c t) (are_of_classes cs types) h).1)

-- as many expressions as types
pub count_is : (es : TypedExpressions) → expressions_count es ≡ length (expression_types es)
count_is NoExpression = refl
count_is (Then e rest) = ap (λ n. suc n) (count_is rest)

-- as many arguments as operands
pub function_counts : (f : ValueFunction) (arguments : TypedExpressions) (result : Ty) → function_type f (expression_types arguments) ≡ Some result → expressions_count arguments ≡ length (function_row f).operands
function_counts f arguments result e =
    let types = expression_types arguments in
    count_is arguments ∙ sym (length-reverse types) ∙ classes_count (function_row f).operands (reverse types) (function_taken f types result e).0

-- operands of these classes are taken off
pub classes_taken : (cs : List OperandClass) (types taken : List Ty) (below : OperandTypes) → are_of_classes cs types ≡ true
    → take_classes cs taken (types ++ below) ≡ Some (record { taken = reverse types ++ taken; below = below })
classes_taken [] [] taken below h = refl
classes_taken [] (t ∷ types) taken below h = absurd cc
classes_taken (c ∷ cs) [] taken below h = absurd cc
classes_taken (c ∷ cs) (t ∷ types) taken below h =
    let p = and_parts (is_of_class c t) (are_of_classes cs types) h in
    ap (λ b. if b then take_classes cs (t ∷ taken) (types ++ below) else None) p.0
    ∙ classes_taken cs types (t ∷ taken) below p.1
    ∙ ap (λ (z : List Ty). Some (record { taken = z; below = below }))
    (sym (append_assoc (reverse types) (t ∷ []) taken) ∙ ap (λ (z : List Ty). z ++ taken) (sym (reverse-append (t ∷ []) types)))
