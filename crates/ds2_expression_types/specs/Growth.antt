-- Chains of operators, as the code grows them.
use Rattle.std.specs.Prelude.{◌≡◌, List, map, Some, Result, Ok, Err}
use Rattle.ds2_base.specs.declared.place.Refusal.{Refusal}
use Rattle.ds2_value.specs.declared.ty.Ty.{Ty}
use Rattle.ds2_meaning.specs.TypedExpression.{TypedExpression}
use Rattle.ds2_meaning.specs.declared.refusals.TypeKind.{TypeKind}
use Rattle.ds2_names.specs.Refusals.{type_rank, first_of_both}
use Rattle.ds2_elaboration.specs.OperatorTypes.{ElaboratedLink}
use Rattle.ds2_elaboration.specs.Typings.{TypeRefusals, Typing}
use Rattle.ds2_types.specs.Judgements.{typing_of, node_tree, link_of, IsOutcome}
use Rattle.ds2_expression_types.specs.declared.growth.Grown.{Grown}
use Rattle.ds2_expression_types.specs.declared.growth.Growth as code_growth
use Rattle.ds2_expression_types.specs.declared.growth.Step.{Step}
use Rattle.ds2_types.specs.declared.judgement.Node.{Node}

-- a chain of this first operand and these further ones, which has this type up to there
pub record IsGrownChain (first : TypedExpression) (links : List ElaboratedLink) (ty : Ty) (g : Grown) : Type 0 where
  pub begins : node_tree g.first ≡ first
  pub goes_on : map link_of g.links ≡ links
  pub type_so_far : g.ty ≡ ty

-- what stands of a chain in which these rules are broken so far, and what is known of its type
pub record IsGrowth (first : TypedExpression) (links : List ElaboratedLink) (ty : Ty) (refusals : TypeRefusals) (known : Typing) (g : code_growth.Growth) : Type 0 where
  pub typing : typing_of g.typing ≡ known
  pub outcome : IsOutcome (IsGrownChain first links ty) refusals g.outcome

-- what stands of a chain so far and of the operand behind it
abbrev pub grown_and : Result Grown (Refusal TypeKind) → Result Node (Refusal TypeKind) → Result Step (Refusal TypeKind)
grown_and (Ok grown) (Ok operand) = Ok (record { grown = grown; operand = operand })
grown_and (Ok grown) (Err r) = Err r
grown_and (Err r) (Ok operand) = Err r
grown_and (Err r) (Err q) = Err (first_of_both type_rank r (Some q))
