-- Nodes whose children stand in a list.
use Rattle.std.proofs.Common.{◌≡◌, List, refl, ap, ◌∙◌}
use Rattle.std.specs.declared.boxed.Box.{Box}
use Rattle.std.specs.declared.alloc.Global.{Global}
use mathlib.Core.Former.{Count}
use Rattle.ds2_base.specs.declared.place.Place.{Place}
use Rattle.ds2_tree.specs.declared.expressions.ChainKind.{ChainKind}
use Rattle.ds2_tree.specs.declared.expressions.Callee.{Callee}
use Rattle.ds2_tree.specs.declared.expressions.Operand as code_operand
use Rattle.ds2_tree.specs.declared.expressions.Argument as code_argument
use Rattle.ds2_tree.specs.declared.expressions.Expression as code
use Rattle.ds2_tree.specs.declared.expressions.Expression.{Row_of-Operand, end_of-Operand, more_of-Operand, items-the_row-Operand, items_hidden-the_row-Operand-1, Row_of-Argument, end_of-Argument, more_of-Argument, items-the_row-Argument, items_hidden-the_row-Argument-0}
use Rattle.ds2_tree.specs.declared.expressions.Expression.TheVariants as expression
use Rattle.ds2_tree.specs.Expressions.{Call, Chain, Operand, Argument}
use Rattle.ds2_tree.specs.ExpressionViews.{expression_tree, operands_row, operands_of, arguments_row, arguments_of}

operands_items : (n : _) (k : Row_of-Operand n) → operands_row k ≡ operands_of (items-the_row-Operand n k)
operands_items n end_of-Operand = refl
operands_items n (more_of-Operand o e k) = ap (λ rest. Operand o (expression_tree e) rest) (operands_items _ k)

arguments_items : (n : _) (k : Row_of-Argument n) → arguments_row k ≡ arguments_of (items-the_row-Argument n k)
arguments_items n end_of-Argument = refl
arguments_items n (more_of-Argument c e k) = ap (λ rest. Argument c (expression_tree e) rest) (arguments_items _ k)

-- the children of a node, as its value holds them
abbrev operands_in : code.Expression → (n : Count) × Row_of-Operand n
operands_in (expression.Chain' kind p a n k) = (_, k)
operands_in _ = (_, end_of-Operand)

abbrev arguments_in : code.Expression → (n : Count) × Row_of-Argument n
arguments_in (expression.Call' callee p n k q) = (_, k)
arguments_in _ = (_, end_of-Argument)

-- a chain of operands
pub chain_tree : (kind : ChainKind) (a : Box code.Expression Global) (os : List code_operand.Operand) → expression_tree (expression.Chain kind a os) ≡ Chain kind (expression_tree a.value) (operands_of os)
chain_tree kind a os =
    let row = operands_in (expression.Chain kind a os) in
    ap (λ k. Chain kind (expression_tree a.value) k) (operands_items row.0 row.1 ∙ ap operands_of (items_hidden-the_row-Operand-1 os))

pub chain_is : (e : code.Expression) (kind : ChainKind) (a : Box code.Expression Global) (os : List code_operand.Operand) → e ≡ expression.Chain kind a os → expression_tree e ≡ Chain kind (expression_tree a.value) (operands_of os)
chain_is e kind a os h = ap expression_tree h ∙ chain_tree kind a os

-- a call
pub call_tree : (callee : Box Callee Global) (p : Place) (xs : List code_argument.Argument) (q : Place) → expression_tree (expression.Call callee p xs q) ≡ Call callee.value p (arguments_of xs) q
call_tree callee p xs q =
    let row = arguments_in (expression.Call callee p xs q) in
    ap (λ k. Call callee.value p k q) (arguments_items row.0 row.1 ∙ ap arguments_of (items_hidden-the_row-Argument-0 xs))

pub call_is : (e : code.Expression) (callee : Box Callee Global) (p : Place) (xs : List code_argument.Argument) (q : Place) → e ≡ expression.Call callee p xs q → expression_tree e ≡ Call callee.value p (arguments_of xs) q
call_is e callee p xs q h = ap expression_tree h ∙ call_tree callee p xs q
