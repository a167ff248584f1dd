-- Chains of operators, from what stands of their operands.
use Rattle.std.proofs.Common.{◌≡◌, true, if◌then◌else◌, List, [], ◌∷◌, ◌++◌, map, Option, Some, Result, Ok, Err, refl, sym, ap, ◌∙◌, subst, append_assoc}
use Rattle.ds2_base.specs.declared.place.Place.{Place}
use Rattle.ds2_base.specs.declared.place.Refusal.{Refusal}
use Rattle.ds2_value.specs.declared.ty.Ty.{Ty}
use Rattle.ds2_value.specs.declared.ty.Ty.TheVariants.{BigInt}
use Rattle.ds2_meaning.specs.TypedExpression.{TypedExpression}
use Rattle.ds2_meaning.specs.declared.refusals.TypeKind.{TypeKind}
use Rattle.ds2_meaning.specs.declared.refusals.TypeKind.TheVariants.{NotTruth}
use Rattle.ds2_token.specs.declared.token.Token.{Token}
use Rattle.ds2_tree.specs.declared.expressions.ChainKind.{ChainKind}
use Rattle.ds2_tree.specs.declared.expressions.ChainKind.TheVariants as chain
use Rattle.ds2_elaboration.specs.ExpressionTypes.{link_refusals, is_truth_chain}
use Rattle.ds2_elaboration.specs.OperatorTypes.{ElaboratedLink, elaborated_link, is_operand_type, pair_refusals}
use Rattle.ds2_elaboration.specs.Typings.{TypeRefusals, Typing, Known, Unknown, ElaboratedExpression, typing_behind, type_refusal_at, is_numeric_type, null_clash, where_known, where_both_known, operand_clash, truth_refusals}
use Rattle.ds2_expression_types.specs.Growth.{IsGrownChain, IsGrowth, grown_and}
use Rattle.ds2_types.specs.Judgements.{first_type_refusal, typing_of, node_tree, link_of, truth_clash, IsOutcome, IsJudged, ruled}
use Rattle.ds2_expression_types.specs.declared.growth.Grown.{Grown}
use Rattle.ds2_expression_types.specs.declared.growth.Growth as code_growth
use Rattle.ds2_expression_types.specs.declared.growth.Step.{Step}
use Rattle.ds2_types.specs.declared.judgement.Judgement.{Judgement}
use Rattle.ds2_types.specs.declared.judgement.Node.{Node}
use Rattle.ds2_types.specs.declared.judgement.Typing.TheVariants as known
use Rattle.ds2_types.proofs.Outcomes.{none_behind, given_behind, given_before, given_of_both, IsTree, after_rule, after_one}

-- ---- a further operand and its rules

-- what stands of a further operand of a chain once its rules were looked at
pub after_link : (kind : ChainKind) (operator : Token) (left : Typing) (e : ElaboratedExpression) (x : Judgement) (before after pair : Option (Refusal TypeKind)) → IsJudged e x
    → before ≡ first_type_refusal (operand_clash (is_operand_type kind) operator.place left)
    → after ≡ first_type_refusal (operand_clash (is_operand_type kind) operator.place (typing_of x.typing))
    → pair ≡ first_type_refusal (where_both_known left (typing_of x.typing) (pair_refusals kind operator))
    → IsOutcome (IsTree e.node) (link_refusals kind operator left e) (ruled (ruled (ruled x.outcome before) after) pair)
after_link kind operator left e x before after pair h b a p =
    let test = is_operand_type kind in
    let first = operand_clash test operator.place left in
    let second = operand_clash test operator.place e.typing in
    let third = where_both_known left e.typing (pair_refusals kind operator) in
    after_rule (IsTree e.node) (e.refusals ++ first ++ second) third (ruled (ruled x.outcome before) after) pair
    (after_rule (IsTree e.node) (e.refusals ++ first) second (ruled x.outcome before) after (after_rule (IsTree e.node) e.refusals first x.outcome before h.outcome b)
    (a ∙ ap (λ (t : Typing). first_type_refusal (operand_clash test operator.place t)) h.typing))
    (p ∙ ap (λ (t : Typing). first_type_refusal (where_both_known left t (pair_refusals kind operator))) h.typing)

-- ---- a chain and the operand behind it

-- a chain so far and an operand of this node
abbrev pub IsStep : TypedExpression → List ElaboratedLink → Ty → TypedExpression → Step → Type 0
IsStep first links ty node s = IsGrownChain first links ty s.grown × IsTree node s.operand

-- what stands of both
pub after_grown : (first : TypedExpression) (links : List ElaboratedLink) (ty : Ty) (node : TypedExpression) (xs ys : TypeRefusals) (grown : Result Grown (Refusal TypeKind))
    (operand : Result Node (Refusal TypeKind)) → IsOutcome (IsGrownChain first links ty) xs grown → IsOutcome (IsTree node) ys operand
    → IsOutcome (IsStep first links ty node) (xs ++ ys) (grown_and grown operand)
after_grown first links ty node xs ys (Ok grown) (Ok operand) h k = (none_behind xs ys h.0 k.0, (h.1, k.1))
after_grown first links ty node xs ys (Ok grown) (Err q) h k = given_behind xs ys q h.0 k
after_grown first links ty node xs ys (Err p) (Ok operand) h k = given_before xs ys p h k.0
after_grown first links ty node xs ys (Err p) (Err q) h k = given_of_both xs ys p q h k

-- ---- a chain with one more operand

-- nothing is known of the type where a rule is broken
pub unknown_behind : (refusals : TypeRefusals) (ty : Ty) (r : Refusal TypeKind) → first_type_refusal refusals ≡ Some r → Unknown ≡ typing_behind refusals ty
unknown_behind [] ty r h = cc
unknown_behind (q ∷ refusals) ty r h = refl

-- its type is known where none is
pub known_behind : (refusals : TypeRefusals) (ty : Ty) → refusals ≡ [] → Known ty ≡ typing_behind refusals ty
known_behind [] ty h = refl
known_behind (q ∷ refusals) ty h = cc

-- the type of a chain up to and with a link
abbrev pub link_type : ElaboratedLink → Ty
link_type l = l.ty

module _ (kind : ChainKind) (operator : Token) (first : TypedExpression) (links : List ElaboratedLink) (ty : Ty) (refusals : TypeRefusals) (e : ElaboratedExpression) (left : Typing) where
  -- the link that the operand becomes
  abbrev own_link : ElaboratedLink
  own_link = elaborated_link kind operator ty e.node

  -- what is broken up to and with the operand
  abbrev broken : TypeRefusals
  broken = refusals ++ link_refusals kind operator left e

  -- what is to stand of the chain with it
  abbrev pub IsLonger : code_growth.Growth → Type 0
  IsLonger g = IsGrowth first (links ++ own_link ∷ []) (link_type own_link) broken (typing_behind broken (link_type own_link)) g

  -- a rule is broken
  pub grown_broken : (r : Refusal TypeKind) → IsOutcome (IsStep first links ty e.node) broken (Err r)
      → IsLonger (record { typing = known.Unknown; outcome = Err r })
  grown_broken r h = record { typing = unknown_behind broken (link_type own_link) r h; outcome = h }

  -- none is
  pub grown_longer : (s : Step) (g : Grown) → IsOutcome (IsStep first links ty e.node) broken (Ok s)
      → IsGrownChain (node_tree s.grown.first) (map link_of s.grown.links ++ elaborated_link kind operator s.grown.ty (node_tree s.operand) ∷ [])
      (link_type (elaborated_link kind operator s.grown.ty (node_tree s.operand))) g
      → IsLonger (record { typing = known.Known g.ty; outcome = Ok g })
  grown_longer s g h k =
      let chain = h.1.0 in
      let same : elaborated_link kind operator s.grown.ty (node_tree s.operand) ≡ own_link =
      ap (λ (t : Ty). elaborated_link kind operator t (node_tree s.operand)) chain.type_so_far ∙ ap (λ (t : TypedExpression). elaborated_link kind operator ty t) h.1.1 in
      let own_ty : g.ty ≡ link_type own_link = k.type_so_far ∙ ap link_type same in
      record {
        typing = ap (λ (t : Ty). Known t) own_ty ∙ known_behind broken (link_type own_link) h.0;
        outcome = (
          h.0,
          record {
            begins = k.begins ∙ chain.begins;
            goes_on =
                k.goes_on ∙ ap (λ (l : List ElaboratedLink). l ++ elaborated_link kind operator s.grown.ty (node_tree s.operand) ∷ []) chain.goes_on
                ∙ ap (λ (l : ElaboratedLink). links ++ l ∷ []) same;
            type_so_far = own_ty;
          },
        );
      }

-- ---- chains of `and` and `or`

-- each operand of such a chain makes it a BIGINT
truth_type : (kind : ChainKind) (operator : Token) (node : TypedExpression) → is_truth_chain kind ≡ true → link_type (elaborated_link kind operator BigInt node) ≡ BigInt
truth_type chain.And operator node h = refl
truth_type chain.Or operator node h = refl
truth_type chain.Concatenation operator node h = cc
truth_type chain.Sum operator node h = cc
truth_type chain.Product operator node h = cc

-- what stands of an operand of such a chain once its rule was looked at
pub after_truth : (first_token : Place) (e : ElaboratedExpression) (x : Judgement) (clash : Option (Refusal TypeKind)) (result : Result Node (Refusal TypeKind)) → IsJudged e x
    → clash ≡ first_type_refusal (truth_clash first_token (typing_of x.typing)) → result ≡ ruled x.outcome clash
    → (given : Result Node (Refusal TypeKind)) → result ≡ given → IsOutcome (IsTree e.node) (truth_refusals first_token e) given
after_truth first_token e x clash result h c r given i =
    let told = where_known e.typing (λ (ty : Ty). if is_numeric_type ty then [] else type_refusal_at NotTruth first_token) in
    subst (λ (l : TypeRefusals). IsOutcome (IsTree e.node) l given) (sym (append_assoc e.refusals (null_clash e.typing) told))
    (after_one (truth_clash first_token) e x clash result h c r given i)

-- what stands of such a chain and of the operand behind it
pub after_truth_step : (first : TypedExpression) (links : List ElaboratedLink) (refusals more : TypeRefusals) (node : TypedExpression) (before : Result Grown (Refusal TypeKind))
    (operand : Result Node (Refusal TypeKind)) (result : Result Step (Refusal TypeKind)) → IsOutcome (IsGrownChain first links BigInt) refusals before
    → IsOutcome (IsTree node) more operand → result ≡ grown_and before operand → (given : Result Step (Refusal TypeKind)) → result ≡ given
    → IsOutcome (IsStep first links BigInt node) (refusals ++ more) given
after_truth_step first links refusals more node before operand result h k r given i =
    subst (IsOutcome (IsStep first links BigInt node) (refusals ++ more)) (sym r ∙ i) (after_grown first links BigInt node refusals more before operand h k)

-- such a chain with one more operand
pub truth_longer : (kind : ChainKind) (operator : Token) (first : TypedExpression) (links : List ElaboratedLink) (node : TypedExpression) (s : Step) (g : Grown)
    → is_truth_chain kind ≡ true → IsStep first links BigInt node s
    → IsGrownChain (node_tree s.grown.first) (map link_of s.grown.links ++ elaborated_link kind operator BigInt (node_tree s.operand) ∷ [])
    (link_type (elaborated_link kind operator BigInt (node_tree s.operand))) g
    → IsGrownChain first (links ++ elaborated_link kind operator BigInt node ∷ []) BigInt g
truth_longer kind operator first links node s g t h k =
    record {
      begins = k.begins ∙ h.0.begins;
      goes_on =
          k.goes_on ∙ ap (λ (l : List ElaboratedLink). l ++ elaborated_link kind operator BigInt (node_tree s.operand) ∷ []) h.0.goes_on
          ∙ ap (λ (m : TypedExpression). links ++ elaborated_link kind operator BigInt m ∷ []) h.1;
      type_so_far = k.type_so_far ∙ truth_type kind operator (node_tree s.operand) t;
    }
