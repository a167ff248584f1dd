-- What the nodes of a tree are to its meaning.
use Rattle.std.proofs.Common.{◌≡◌, ℕ, List, map, Box, Global, sym, ap, ◌∙◌}
use Rattle.ds2_value.specs.declared.comparison.Comparison.{Comparison}
use Rattle.ds2_value.specs.declared.hash_function.HashFunction.{HashFunction}
use Rattle.ds2_value.specs.declared.hash_function.IteratorFunction.{IteratorFunction}
use Rattle.ds2_value.specs.declared.ty.Ty.{Ty}
use Rattle.ds2_value.specs.declared.value.Value.{Value}
use Rattle.ds2_meaning.specs.declared.expressions.Argument as code_argument
use Rattle.ds2_meaning.specs.declared.expressions.Argument.TheFolds.{fold-roll-Argument, fold-roll-Expression, fold_out-Link}
use Rattle.ds2_meaning.specs.declared.expressions.Argument.TheOpen as node
use Rattle.ds2_meaning.specs.declared.expressions.Argument.TheVariants as argument
use Rattle.ds2_meaning.specs.declared.expressions.Call as code_call
use Rattle.ds2_meaning.specs.declared.expressions.Expression as code_expression
use Rattle.ds2_meaning.specs.declared.expressions.Expression.TheVariants as expression
use Rattle.ds2_meaning.specs.declared.expressions.Function.{Function}
use Rattle.ds2_meaning.specs.declared.expressions.Link as code_link
use Rattle.ds2_meaning.specs.declared.expressions.Prefix.{Prefix}
use Rattle.ds2_meaning.specs.declared.location.Reference.{Reference}
use Rattle.ds2_meaning.specs.TypedExpression as tree
use Rattle.ds2_meaning.specs.View.{Part, CallTree, in_a_row, all_expressions, argument_part, expression_part, call_part, link_part, typed_expression, call_tree, link_tree, argument_tree}

-- ---- arguments

value_tree : (e : code_expression.Expression) (rest : tree.TypedArguments) → argument_tree (argument.Value e) rest ≡ tree.ByValue (typed_expression e) rest
value_tree e rest =
    ap (λ (f : Part tree.TypedArguments). f rest)
    (ap argument_tree (sym (argument.rolls-Value e)) ∙ fold-roll-Argument (Part tree.TypedArguments) tree.TypedExpression CallTree (Part tree.Links) argument_part expression_part call_part link_part (node.Value e))

pub value_is : (a : code_argument.Argument) (e : code_expression.Expression) (rest : tree.TypedArguments) → a ≡ argument.Value e → argument_tree a rest ≡ tree.ByValue (typed_expression e) rest
value_is a e rest is = ap (λ x. argument_tree x rest) is ∙ value_tree e rest

in_out_tree : (r : Reference) (rest : tree.TypedArguments) → argument_tree (argument.InOut r) rest ≡ tree.InOut r rest
in_out_tree r rest =
    ap (λ (f : Part tree.TypedArguments). f rest)
    (ap argument_tree (sym (argument.rolls-InOut r)) ∙ fold-roll-Argument (Part tree.TypedArguments) tree.TypedExpression CallTree (Part tree.Links) argument_part expression_part call_part link_part (node.InOut r))

pub in_out_is : (a : code_argument.Argument) (r : Reference) (rest : tree.TypedArguments) → a ≡ argument.InOut r → argument_tree a rest ≡ tree.InOut r rest
in_out_is a r rest is = ap (λ x. argument_tree x rest) is ∙ in_out_tree r rest

-- ---- expressions

pub constant_is : (e : code_expression.Expression) (v : Value) (ty : Ty) → e ≡ expression.Constant v ty → typed_expression e ≡ tree.Constant v ty
constant_is e v ty is = ap typed_expression is ∙ ap typed_expression (sym (expression.rolls-Constant v ty)) ∙ fold-roll-Expression (Part tree.TypedArguments) tree.TypedExpression CallTree (Part tree.Links) argument_part expression_part call_part link_part (node.Constant v ty)

pub variable_is : (e : code_expression.Expression) (r : Reference) (ty : Ty) → e ≡ expression.Variable r ty → typed_expression e ≡ tree.Variable r ty
variable_is e r ty is = ap typed_expression is ∙ ap typed_expression (sym (expression.rolls-Variable r ty)) ∙ fold-roll-Expression (Part tree.TypedArguments) tree.TypedExpression CallTree (Part tree.Links) argument_part expression_part call_part link_part (node.Variable r ty)

pub widen_is : (e : code_expression.Expression) (b : Box code_expression.Expression Global) → e ≡ expression.Widen b → typed_expression e ≡ tree.Widen (typed_expression b.value)
widen_is e b is = ap typed_expression is ∙ ap typed_expression (sym (expression.rolls-Widen b)) ∙ fold-roll-Expression (Part tree.TypedArguments) tree.TypedExpression CallTree (Part tree.Links) argument_part expression_part call_part link_part (node.Widen b)

pub convert_is : (e : code_expression.Expression) (b : Box code_expression.Expression Global) (ty : Ty) → e ≡ expression.Convert b ty → typed_expression e ≡ tree.Convert (typed_expression b.value) ty
convert_is e b ty is = ap typed_expression is ∙ ap typed_expression (sym (expression.rolls-Convert b ty)) ∙ fold-roll-Expression (Part tree.TypedArguments) tree.TypedExpression CallTree (Part tree.Links) argument_part expression_part call_part link_part (node.Convert b ty)

pub prefixed_is : (e : code_expression.Expression) (x : Prefix) (b : Box code_expression.Expression Global) (ty : Ty) → e ≡ expression.Prefixed x b ty → typed_expression e ≡ tree.Prefixed x (typed_expression b.value) ty
prefixed_is e x b ty is = ap typed_expression is ∙ ap typed_expression (sym (expression.rolls-Prefixed x b ty)) ∙ fold-roll-Expression (Part tree.TypedArguments) tree.TypedExpression CallTree (Part tree.Links) argument_part expression_part call_part link_part (node.Prefixed x b ty)

pub chain_is : (e : code_expression.Expression) (b : Box code_expression.Expression Global) (links : List code_link.Link) → e ≡ expression.Chain b links
    → typed_expression e ≡ tree.Chain (typed_expression b.value) (in_a_row (map link_tree links) tree.NoLink)
chain_is e b links is = ap typed_expression is ∙ ap typed_expression (sym (expression.rolls-Chain b links)) ∙ fold-roll-Expression (Part tree.TypedArguments) tree.TypedExpression CallTree (Part tree.Links) argument_part expression_part call_part link_part (node.Chain b links)

pub compared_is : (e : code_expression.Expression) (c : Comparison) (a b : Box code_expression.Expression Global) → e ≡ expression.Compared c a b → typed_expression e ≡ tree.Compared c (typed_expression a.value) (typed_expression b.value)
compared_is e c a b is = ap typed_expression is ∙ ap typed_expression (sym (expression.rolls-Compared c a b)) ∙ fold-roll-Expression (Part tree.TypedArguments) tree.TypedExpression CallTree (Part tree.Links) argument_part expression_part call_part link_part (node.Compared c a b)

pub applied_is : (e : code_expression.Expression) (f : Function) (arguments : List code_expression.Expression) (ty : Ty) → e ≡ expression.Applied f arguments ty
    → typed_expression e ≡ tree.Applied f (all_expressions (map typed_expression arguments)) ty
applied_is e f arguments ty is = ap typed_expression is ∙ ap typed_expression (sym (expression.rolls-Applied f arguments ty)) ∙ fold-roll-Expression (Part tree.TypedArguments) tree.TypedExpression CallTree (Part tree.Links) argument_part expression_part call_part link_part (node.Applied f arguments ty)

pub called_is : (e : code_expression.Expression) (call : code_call.Call) (ty : Ty) → e ≡ expression.Called call ty
    → typed_expression e ≡ tree.Called (call_tree call).instance (call_tree call).method (call_tree call).arguments ty
called_is e call ty is = ap typed_expression is ∙ ap typed_expression (sym (expression.rolls-Called call ty)) ∙ fold-roll-Expression (Part tree.TypedArguments) tree.TypedExpression CallTree (Part tree.Links) argument_part expression_part call_part link_part (node.Called call ty)

pub hash_is : (e : code_expression.Expression) (hash : List ℕ) (f : HashFunction) → e ≡ expression.HashCalled hash f → typed_expression e ≡ tree.HashCalled hash f
hash_is e hash f is = ap typed_expression is ∙ ap typed_expression (sym (expression.rolls-HashCalled hash f)) ∙ fold-roll-Expression (Part tree.TypedArguments) tree.TypedExpression CallTree (Part tree.Links) argument_part expression_part call_part link_part (node.HashCalled hash f)

pub iterator_is : (e : code_expression.Expression) (iterator : List ℕ) (f : IteratorFunction) → e ≡ expression.IteratorCalled iterator f → typed_expression e ≡ tree.IteratorCalled iterator f
iterator_is e iterator f is = ap typed_expression is ∙ ap typed_expression (sym (expression.rolls-IteratorCalled iterator f)) ∙ fold-roll-Expression (Part tree.TypedArguments) tree.TypedExpression CallTree (Part tree.Links) argument_part expression_part call_part link_part (node.IteratorCalled iterator f)

-- ---- links

pub link_is : (l : code_link.Link) (rest : tree.Links)
    → link_tree l rest ≡ tree.Link (code_link.out-Link l).widens (code_link.out-Link l).operation (typed_expression (code_link.out-Link l).operand) (code_link.out-Link l).ty rest
link_is l rest =
    ap (λ (f : Part tree.Links). f rest) (fold_out-Link (Part tree.TypedArguments) tree.TypedExpression CallTree (Part tree.Links) argument_part expression_part call_part link_part l)
