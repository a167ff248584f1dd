-- How a table grows by the constants of parts.
use Rattle.std.proofs.Common.{◌≡◌, ◌<◌, ◌+◌, ℕ, suc, Bool, List, [], ◌∷◌, ◌++◌, length, drop, get_or, refl, sym, ap, ◌∙◌, add-one}
use Rattle.std.proofs.Math.Seq.{drop-cons}
use Rattle.std.proofs.lemmas.Grind.{fold-append}
use Rattle.ds2_value.specs.declared.ty.Ty.{Ty}
use Rattle.ds2_meaning.specs.declared.location.Reference.{Reference}
use Rattle.ds2_meaning.specs.declared.expressions.Operation.{Operation}
use Rattle.ds2_meaning.specs.TypedExpression.{TypedExpression, Links, NoLink, Link, TypedExpressions, NoExpression, Then, TypedArguments, NoArgument, ByValue, InOut}
use Rattle.ds2_program_code.specs.UsedConstants.{UsedConstant, constants_used, constants_of_links, constants_of_all, constants_of_arguments}
use Rattle.ds2_program_code.specs.CodeConstants.{with_used_constant}
use Rattle.ds2_constants.specs.UsedOnce.{with_used}

pub none_used : (table : List UsedConstant) → with_used [] table ≡ table
unfolding with_used
none_used table = refl

pub one_used : (c : UsedConstant) (table : List UsedConstant) → with_used (c ∷ []) table ≡ with_used_constant table c
unfolding with_used
one_used c table = refl

pub first_used : (c : UsedConstant) (more table : List UsedConstant) → with_used (c ∷ more) table ≡ with_used more (with_used_constant table c)
unfolding with_used
first_used c more table = refl

pub both_used : (xs ys table : List UsedConstant) → with_used (xs ++ ys) table ≡ with_used ys (with_used xs table)
unfolding with_used
both_used xs ys table = fold-append with_used_constant table xs ys

pub no_link_collected : (table : List UsedConstant) → with_used (constants_of_links NoLink) table ≡ table
no_link_collected table = none_used table

pub no_expression_collected : (table : List UsedConstant) → with_used (constants_of_all NoExpression) table ≡ table
no_expression_collected table = none_used table

pub then_collected : (e : TypedExpression) (rest : TypedExpressions) (table : List UsedConstant) → with_used (constants_of_all (Then e rest)) table ≡ with_used (constants_of_all rest) (with_used (constants_used e) table)
then_collected e rest table = both_used (constants_used e) (constants_of_all rest) table

pub no_argument_collected : (table : List UsedConstant) → with_used (constants_of_arguments NoArgument) table ≡ table
no_argument_collected table = none_used table

pub value_collected : (e : TypedExpression) (rest : TypedArguments) (table : List UsedConstant) → with_used (constants_of_arguments (ByValue e rest)) table ≡ with_used (constants_of_arguments rest) (with_used (constants_used e) table)
value_collected e rest table = both_used (constants_used e) (constants_of_arguments rest) table

pub in_out_collected : (r : Reference) (rest : TypedArguments) (table : List UsedConstant) → with_used (constants_of_arguments (InOut r rest)) table ≡ with_used (constants_of_arguments rest) table
in_out_collected r rest table = refl

pub link_collected : (widens : Bool) (o : Operation) (e : TypedExpression) (to : Ty) (rest : Links) (table : List UsedConstant)
    → with_used (constants_of_links (Link widens o e to rest)) table ≡ with_used (constants_of_links rest) (with_used (constants_used e) table)
link_collected widens o e to rest table = both_used (constants_used e) (constants_of_links rest) table

-- ---- tables that grow by several parts in turn

pub two_parts : (xs ys before first grown : List UsedConstant) → first ≡ with_used xs before → grown ≡ with_used ys first → grown ≡ with_used (xs ++ ys) before
two_parts xs ys before first grown a b = b ∙ ap (λ t. with_used ys t) a ∙ sym (both_used xs ys before)

pub three_parts : (xs ys zs before first second grown : List UsedConstant) → first ≡ with_used xs before → second ≡ with_used ys first → grown ≡ with_used zs second
    → grown ≡ with_used (xs ++ (ys ++ zs)) before
three_parts xs ys zs before first second grown a b c = two_parts xs (ys ++ zs) before first grown a (two_parts ys zs first second grown b c)

pub four_parts : (xs ys zs ws before first second third grown : List UsedConstant) → first ≡ with_used xs before → second ≡ with_used ys first → third ≡ with_used zs second → grown ≡ with_used ws third
    → grown ≡ with_used (xs ++ (ys ++ (zs ++ ws))) before
four_parts xs ys zs ws before first second third grown a b c d = two_parts xs (ys ++ (zs ++ ws)) before first grown a (three_parts ys zs ws first second third grown b c d)

-- a table that grew by what one thing uses grew by what an equal one uses
pub by_equal : {A : Type 0} (f : A → List UsedConstant) (x y : A) (before grown : List UsedConstant) → x ≡ y → grown ≡ with_used (f x) before → grown ≡ with_used (f y) before
by_equal f x y before grown is e = e ∙ ap (λ z. with_used (f z) before) is

-- the items from one on are that one and those behind it
pub items_from : {X : Type 0} (xs : List X) (i : ℕ) (x : X) → i < length xs → x ≡ get_or xs i x → drop i xs ≡ x ∷ drop (i + 1) xs
items_from xs i x lt here = drop-cons xs i x lt ∙ ap (λ y. y ∷ drop (suc i) xs) (sym here) ∙ ap (λ j. x ∷ drop j xs) (sym (add-one i))
