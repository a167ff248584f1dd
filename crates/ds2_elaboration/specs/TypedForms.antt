-- Forms whose parts become typed expressions become typed expressions themselves, where they break no rule.
use Rattle.std.specs.Prelude.{◌≡◌, true, false, List, []}
use Rattle.std.specs.List.{AllByRecursion}
use Rattle.ds2_base.specs.declared.place.Place.{Place}
use Rattle.ds2_token.specs.declared.token.Token.{Token}
use Rattle.ds2_tree.specs.declared.expressions.ChainKind.{ChainKind}
use Rattle.ds2_value.specs.Types.{in_bounds}
use Rattle.ds2_value.specs.declared.ty.Ty.{Ty}
use Rattle.ds2_value.specs.declared.ty.Ty.TheVariants.{BigInt}
use Rattle.ds2_value.specs.declared.value.Value.TheVariants.{Null}
use Rattle.ds2_meaning.specs.IsTyped.{NamesInScope, expression_type, IsTypedExpression, IsLeftOperand, IsOperation}
use Rattle.ds2_meaning.specs.TypedExpression.{TypedExpression, Constant}
use Rattle.ds2_elaboration.specs.ExpressionTypes.{is_truth_chain, link_refusals}
use Rattle.ds2_elaboration.specs.FunctionTypes.{ElaboratedArgument, elaborated_function}
use Rattle.ds2_elaboration.specs.OperatorTypes.{ElaboratedLink, elaborated_link, elaborated_comparison, elaborated_sign, elaborated_not}
use Rattle.ds2_elaboration.specs.Typings.{Typing, Known, NullAt, Unknown, ElaboratedExpression, assigned_refusals, assigned_node}

-- an expression is typed, of the type that is known of it; the constant null is the constant null
abbrev pub IsOfTyping : NamesInScope → Typing → TypedExpression → Type 0
IsOfTyping names (Known ty) node = IsTypedExpression names node × (expression_type node ≡ ty) × (in_bounds (expression_type node) ≡ true)
IsOfTyping names (NullAt place) node = node ≡ Constant Null BigInt
IsOfTyping names Unknown node = ⊥

-- what an expression becomes is typed where it breaks no rule
abbrev pub IsSoundlyElaborated : NamesInScope → ElaboratedExpression → Type 0
IsSoundlyElaborated names x = x.refusals ≡ [] → IsOfTyping names x.typing x.node

-- what an argument becomes is typed where it breaks no rule
abbrev pub IsSoundArgument : NamesInScope → ElaboratedArgument → Type 0
IsSoundArgument names x = IsSoundlyElaborated names x.value

-- a typed expression of exactly this type
pub record IsInType (names : NamesInScope) (ty : Ty) (node : TypedExpression) : Type 0 where
  pub typed : IsTypedExpression names node
  pub exact : expression_type node ≡ ty

-- what stands before an operator is of this type
abbrev pub IsLeft : Typing → Ty → Type 0
IsLeft (Known t) ty = (ty ≡ t) × (in_bounds ty ≡ true)
IsLeft (NullAt place) ty = in_bounds ty ≡ true
IsLeft Unknown ty = ⊥

-- a further operand fits its operation behind what has this type
pub record LinkFits (names : NamesInScope) (ty : Ty) (link : ElaboratedLink) : Type 0 where
  pub operand : IsTypedExpression names link.operand
  pub left : (l : Ty) × IsLeftOperand link.widens ty l × IsOperation link.operation l (expression_type link.operand) link.ty
  pub bounds : in_bounds link.ty ≡ true

-- assigned, passed and returned values, operators, comparisons, and functions by their names: where nothing in them is refused, what they become is typed
pub record FormsAreTyped (names : NamesInScope) : Type 0 where
  pub assigned : (ty : Ty) (place : Place) (x : ElaboratedExpression) → IsSoundlyElaborated names x → in_bounds ty ≡ true → assigned_refusals ty place x ≡ []
      → IsInType names ty (assigned_node ty x)
  pub sign : (operator : Token) (x : ElaboratedExpression) → IsSoundlyElaborated names x → IsSoundlyElaborated names (elaborated_sign operator x)
  pub negation : (place : Place) (x : ElaboratedExpression) → IsSoundlyElaborated names x → IsSoundlyElaborated names (elaborated_not place x)
  pub link : (kind : ChainKind) → is_truth_chain kind ≡ false → (operator : Token) (left : Typing) (ty : Ty) (x : ElaboratedExpression)
      → IsLeft left ty → IsSoundlyElaborated names x → link_refusals kind operator left x ≡ [] → LinkFits names ty (elaborated_link kind operator ty x.node)
  pub comparison : (operator : Token) (a b : ElaboratedExpression) → IsSoundlyElaborated names a → IsSoundlyElaborated names b
      → IsSoundlyElaborated names (elaborated_comparison operator a b)
  pub functions : (t : Token) (xs : List ElaboratedArgument) → AllByRecursion (IsSoundArgument names) xs → IsSoundlyElaborated names (elaborated_function t xs)

-- in every scope
abbrev pub EveryFormIsTyped : Type 0
EveryFormIsTyped = (names : NamesInScope) → FormsAreTyped names
