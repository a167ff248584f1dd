-- The places of calls and chains.
use Rattle.std.proofs.Common.{◌≡◌, List, ap}
use Rattle.std.specs.declared.boxed.Box.{Box}
use Rattle.std.specs.declared.alloc.Global.{Global}
use Rattle.ds2_base.specs.declared.place.Place.{Place}
use Rattle.ds2_tree.specs.declared.expressions.ChainKind.{ChainKind}
use Rattle.ds2_tree.specs.declared.expressions.Callee.{Callee}
use Rattle.ds2_tree.specs.declared.expressions.Operand as code_operand
use Rattle.ds2_tree.specs.declared.expressions.Argument as code_argument
use Rattle.ds2_tree.specs.declared.expressions.Expression as code
use Rattle.ds2_tree.specs.declared.expressions.Expression.TheVariants as expression
use Rattle.ds2_tree.specs.ExpressionViews.{expression_tree}
use Rattle.ds2_tree.proofs.Rows.{chain_is, call_is}
use Rattle.ds2_names.specs.Uses.{callee_place, first_place}

pub first_in_chain : (e : code.Expression) (kind : ChainKind) (a : Box code.Expression Global) (os : List code_operand.Operand) → e ≡ expression.Chain kind a os
    → first_place (expression_tree e) ≡ first_place (expression_tree a.value)
first_in_chain e kind a os h = ap first_place (chain_is e kind a os h)

pub first_in_call : (e : code.Expression) (callee : Box Callee Global) (p : Place) (xs : List code_argument.Argument) (q : Place) → e ≡ expression.Call callee p xs q
    → first_place (expression_tree e) ≡ callee_place callee.value
first_in_call e callee p xs q h = ap first_place (call_is e callee p xs q h)
