-- Trees of lists, as the code builds them.
use Rattle.std.proofs.Common.{◌≡◌, ◌<◌, List, [], ◌∷◌, ◌++◌, length, map, Some, refl, sym, ap, ◌∙◌, arith, append_assoc}
use Rattle.std.proofs.lemmas.List.{map_push}
use Rattle.std.specs.declared.boxed.Box.{Box}
use Rattle.std.specs.declared.alloc.Global.{Global}
use Rattle.ds2_base.specs.declared.place.Place.{Place}
use Rattle.ds2_token.specs.declared.token.Token.{Token}
use Rattle.ds2_tree.specs.declared.expressions.ChainKind.{ChainKind}
use Rattle.ds2_tree.specs.declared.expressions.Operand as code_operand
use Rattle.ds2_tree.specs.declared.expressions.Argument as code_argument
use Rattle.ds2_tree.specs.declared.expressions.Expression as code
use Rattle.ds2_tree.specs.declared.expressions.Expression.TheVariants as expression
use Rattle.ds2_tree.specs.Expressions.{Expression, Chain, Arguments, NoArgument, Argument, Operand}
use Rattle.ds2_tree.specs.ExpressionViews.{expression_tree, operands_of, arguments_of}
use Rattle.ds2_tree.proofs.Rows.{chain_tree}
use Rattle.ds2_parse_rules.specs.ExpressionGrammar.{operands, chain_of}
use Rattle.ds2_parse_statements.specs.ExpressionParts.{operand_pair, and_further}

-- ---- a chain

operands_same : (os : List code_operand.Operand) → operands (map operand_pair os) ≡ operands_of os
operands_same [] = refl
operands_same (o ∷ os) = ap (λ rest. Operand o.operator (expression_tree o.value) rest) (operands_same os)

chain_parts : (kind : ChainKind) (e : Expression) (os : List code_operand.Operand) → 0 < length os → chain_of kind e (map operand_pair os) ≡ Chain kind e (operands_of os)
chain_parts kind e [] h = absurd (omega (arith, h))
chain_parts kind e (o ∷ os) h = ap (λ l. Chain kind e l) (operands_same (o ∷ os))

pub chain_built : (kind : ChainKind) (first : code.Expression) (a : Box code.Expression Global) (os : List code_operand.Operand) → 0 < length os → a.value ≡ first
    → expression_tree (expression.Chain kind a os) ≡ chain_of kind (expression_tree first) (map operand_pair os)
chain_built kind first a os some same =
    chain_tree kind a os ∙ sym (chain_parts kind (expression_tree a.value) os some) ∙ ap (λ e. chain_of kind (expression_tree e) (map operand_pair os)) same

-- ---- lists that grow at their end

pub operands_grown : (found new : List code_operand.Operand) (o : code_operand.Operand) → new ≡ found ++ o ∷ [] → (l : List (Token × Expression)) → map operand_pair found ++ (operand_pair o ∷ l) ≡ map operand_pair new ++ l
operands_grown found new o e l = sym (ap (λ xs. map operand_pair xs ++ l) e ∙ ap (λ xs. xs ++ l) (map_push operand_pair found o) ∙ append_assoc (map operand_pair found) (operand_pair o ∷ []) l)

further_pushed : (found : List code_argument.Argument) (p : Place) (v : code.Expression) (l : List (Place × Expression))
    → and_further (arguments_of found) ((p, expression_tree v) ∷ l) ≡ and_further (arguments_of (found ++ (record { comma = Some p; value = v } ∷ []))) l
further_pushed [] p v [] = refl
further_pushed [] p v (x ∷ l) = refl
further_pushed (a ∷ found) p v l = ap (λ rest. Argument a.comma (expression_tree a.value) rest) (further_pushed found p v l)

pub further_grown : (found new : List code_argument.Argument) (p : Place) (v : code.Expression) → new ≡ found ++ (record { comma = Some p; value = v } ∷ [])
    → (l : List (Place × Expression)) → and_further (arguments_of found) ((p, expression_tree v) ∷ l) ≡ and_further (arguments_of new) l
further_grown found new p v e l = further_pushed found p v l ∙ sym (ap (λ xs. and_further (arguments_of xs) l) e)

-- all further ones are read
pub further_all : (a : Arguments) → and_further a [] ≡ a
further_all NoArgument = refl
further_all (Argument c e rest) = ap (λ rest. Argument c e rest) (further_all rest)
