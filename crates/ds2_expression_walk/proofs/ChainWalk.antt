-- The further operands of a chain, one after the other.
use Rattle.std.proofs.Common.{◌≡◌, ℕ, ◌+◌, ◌<◌, ◌≤◌, Bool, true, false, if◌then◌else◌, List, [], ◌∷◌, ◌++◌, length, get_or, drop, Result, refl, sym, ap, ◌∙◌, subst}
use Rattle.std.proofs.lemmas.List.{at_drop_more, at_drop_all}
use Rattle.ds2_base.specs.declared.place.Place.{Place}
use Rattle.ds2_base.specs.declared.place.Refusal.{Refusal}
use Rattle.ds2_base.specs.declared.stop.OutOfMemory.{OutOfMemory}
use Rattle.ds2_value.specs.declared.ty.Ty.{Ty}
use Rattle.ds2_value.specs.declared.ty.Ty.TheVariants.{BigInt}
use Rattle.ds2_meaning.specs.IsTyped.{expression_type}
use Rattle.ds2_meaning.specs.TypedExpression as tree
use Rattle.ds2_meaning.specs.declared.refusals.TypeKind.{TypeKind}
use Rattle.ds2_token.specs.declared.token.Token.{Token}
use Rattle.ds2_tree.specs.Expressions.{Expression, Operands, NoOperand, Operand}
use Rattle.ds2_tree.specs.ExpressionViews.{expression_tree, operands_of}
use Rattle.ds2_tree.specs.declared.expressions.ChainKind.{ChainKind}
use Rattle.ds2_tree.specs.declared.expressions.Operand as code_operand
use Rattle.ds2_names.specs.Uses.{first_place}
use Rattle.ds2_elaboration.specs.ExpressionTypes.{TypeScope, ElaboratedOperand, ElaboratedLinks, end_of_links, with_link, truth_links, elaborated_truth_chain, ChainSoFar, chain_of_first, chain_up_to, link_refusals, value_links, elaborated_value_chain, is_truth_chain, elaborated_chain, elaborated, elaborated_operands}
use Rattle.ds2_elaboration.specs.OperatorTypes.{ElaboratedLink, elaborated_link}
use Rattle.ds2_elaboration.specs.Typings.{TypeRefusals, Typing, ElaboratedExpression, form_of_type, form_of_operands, typing_behind, truth_refusals}
use Rattle.ds2_expression_types.specs.ChainLinks.{links_in_order}
use Rattle.ds2_expression_types.specs.Growth.{IsGrownChain, IsGrowth}
use Rattle.ds2_expression_types.specs.declared.growth.Grown.{Grown}
use Rattle.ds2_expression_types.specs.declared.growth.Growth as code_growth
use Rattle.ds2_types.specs.Judgements.{IsOutcome, Judges}
use Rattle.ds2_types.specs.declared.judgement.Judgement.{Judgement}

-- links before further ones
abbrev pub links_before : List ElaboratedLink → ElaboratedLinks → ElaboratedLinks
links_before [] rest = rest
links_before (l ∷ ls) rest = with_link l (links_before ls rest)

before_push : (ls : List ElaboratedLink) (l : ElaboratedLink) (rest : ElaboratedLinks) → links_before ls (with_link l rest) ≡ links_before (ls ++ l ∷ []) rest
before_push [] l rest = refl
before_push (k ∷ ls) l rest = ap (λ (m : ElaboratedLinks). with_link k m) (before_push ls l rest)

before_end : (ls : List ElaboratedLink) (refusals : TypeRefusals)
    → links_before ls (end_of_links refusals) ≡ record { refusals = refusals; links = links_in_order ls }
before_end [] refusals = refl
before_end (l ∷ ls) refusals = ap (λ (m : ElaboratedLinks). with_link l m) (before_end ls refusals)

-- the operands from one on
pub next_operand : (os : List code_operand.Operand) (i : ℕ) (o : code_operand.Operand) → i < length os → o ≡ get_or os i o
    → operands_of (drop i os) ≡ Operand o.operator (expression_tree o.value) (operands_of (drop (i + 1) os))
next_operand os i o h e =
    at_drop_more operands_of os i o h
    ∙ ap (λ (x : code_operand.Operand). Operand x.operator (expression_tree x.value) (operands_of (drop (i + 1) os))) (sym e)

pub last_operand : (os : List code_operand.Operand) (i : ℕ) → length os ≤ i → operands_of (drop i os) ≡ NoOperand
last_operand os i h = at_drop_all operands_of os i h

-- ---- numbers and texts

-- a chain as far as it was walked: what is still to come of all operands comes of those that are left
pub record HasGrown (scope : TypeScope) (kind : ChainKind) (e : ElaboratedExpression) (all rest : Operands) (g : code_growth.Growth) : Type 0 where
  pub links : List ElaboratedLink
  pub left : ChainSoFar
  pub grown : IsGrowth e.node links left.ty left.refusals left.typing g
  pub same : value_links kind (chain_of_first e) (elaborated_operands scope all) ≡ links_before links (value_links kind left (elaborated_operands scope rest))

-- what a chain with one more operand is to be
abbrev pub Grows : ChainKind → tree.TypedExpression → Token → ElaboratedExpression → code_growth.Growth → code_growth.Growth → Type 0
Grows kind first operator x g next =
    (links : List ElaboratedLink) (ty : Ty) (refusals : TypeRefusals) (left : Typing) → IsGrowth first links ty refusals left g
    → IsGrowth first (links ++ elaborated_link kind operator ty x.node ∷ []) (elaborated_link kind operator ty x.node).ty (refusals ++ link_refusals kind operator left x)
    (typing_behind (refusals ++ link_refusals kind operator left x) (elaborated_link kind operator ty x.node).ty) next

module _ (scope : TypeScope) (kind : ChainKind) (e : ElaboratedExpression) (all : Operands) where
  pub begun : (g : code_growth.Growth) → IsGrowth e.node [] (expression_type e.node) e.refusals e.typing g → HasGrown scope kind e all all g
  begun g h = record { links = []; left = chain_of_first e; grown = h; same = refl }

  pub grown_on : (operator : Token) (value : Expression) (more rest : Operands) (g next : code_growth.Growth) → HasGrown scope kind e all more g
      → more ≡ Operand operator value rest → Grows kind e.node operator (elaborated scope value) g next → HasGrown scope kind e all rest next
  grown_on operator value more rest g next h m further =
      let link = elaborated_link kind operator h.left.ty (elaborated scope value).node in
      let left = chain_up_to link (h.left.refusals ++ link_refusals kind operator h.left.typing (elaborated scope value)) in
      record {
        links = h.links ++ link ∷ [];
        left = left;
        grown = further h.links h.left.ty h.left.refusals h.left.typing h.grown;
        same =
            h.same ∙ ap (λ (os : Operands). links_before h.links (value_links kind h.left (elaborated_operands scope os))) m
            ∙ before_push h.links link (value_links kind left (elaborated_operands scope rest));
      }

  -- the chain as a whole
  pub grown_whole : (rest : Operands) (g : code_growth.Growth) (result : Result Judgement OutOfMemory) → HasGrown scope kind e all rest g → rest ≡ NoOperand
      → ((links : List ElaboratedLink) (ty : Ty) (refusals : TypeRefusals) (left : Typing) → IsGrowth e.node links ty refusals left g
      → Judges (form_of_operands refusals (tree.Chain e.node (links_in_order links))) result)
      → Judges (elaborated_value_chain kind e (elaborated_operands scope all)) result
  grown_whole rest g result h m further =
      let same : value_links kind (chain_of_first e) (elaborated_operands scope all) ≡ record { refusals = h.left.refusals; links = links_in_order h.links } =
      h.same ∙ ap (λ (os : Operands). links_before h.links (value_links kind h.left (elaborated_operands scope os))) m ∙ before_end h.links h.left.refusals in
      subst (λ (l : ElaboratedLinks). Judges (form_of_operands l.refusals (tree.Chain e.node l.links)) result) (sym same)
      (further h.links h.left.ty h.left.refusals h.left.typing h.grown)

-- ---- `and` and `or`

-- a chain as far as it was walked, whose first token stands at this place
pub record HasGrownTruth (scope : TypeScope) (kind : ChainKind) (start : Place) (e : ElaboratedExpression) (all rest : Operands) (g : Result Grown (Refusal TypeKind)) : Type 0 where
  pub links : List ElaboratedLink
  pub refusals : TypeRefusals
  pub grown : IsOutcome (IsGrownChain e.node links BigInt) refusals g
  pub same : truth_links kind (truth_refusals start e) (elaborated_operands scope all) ≡ links_before links (truth_links kind refusals (elaborated_operands scope rest))

-- what a chain with one more operand is to be
abbrev pub GrowsTruth : ChainKind → tree.TypedExpression → Token → Place → ElaboratedExpression → Result Grown (Refusal TypeKind) → Result Grown (Refusal TypeKind) → Type 0
GrowsTruth kind first operator place x g next =
    (links : List ElaboratedLink) (refusals : TypeRefusals) → IsOutcome (IsGrownChain first links BigInt) refusals g
    → IsOutcome (IsGrownChain first (links ++ elaborated_link kind operator BigInt x.node ∷ []) BigInt) (refusals ++ truth_refusals place x) next

module _ (scope : TypeScope) (kind : ChainKind) (start : Place) (e : ElaboratedExpression) (all : Operands) where
  pub begun_truth : (g : Result Grown (Refusal TypeKind)) → IsOutcome (IsGrownChain e.node [] BigInt) (truth_refusals start e) g → HasGrownTruth scope kind start e all all g
  begun_truth g h = record { links = []; refusals = truth_refusals start e; grown = h; same = refl }

  pub grown_on_truth : (operator : Token) (value : Expression) (place : Place) (more rest : Operands) (g next : Result Grown (Refusal TypeKind))
      → HasGrownTruth scope kind start e all more g → more ≡ Operand operator value rest → place ≡ first_place value
      → GrowsTruth kind e.node operator place (elaborated scope value) g next → HasGrownTruth scope kind start e all rest next
  grown_on_truth operator value place more rest g next h m p further =
      let link = elaborated_link kind operator BigInt (elaborated scope value).node in
      let broken = h.refusals ++ truth_refusals (first_place value) (elaborated scope value) in
      record {
        links = h.links ++ link ∷ [];
        refusals = broken;
        grown =
            subst (λ (q : Place). IsOutcome (IsGrownChain e.node (h.links ++ link ∷ []) BigInt) (h.refusals ++ truth_refusals q (elaborated scope value)) next) p
            (further h.links h.refusals h.grown);
        same =
            h.same ∙ ap (λ (os : Operands). links_before h.links (truth_links kind h.refusals (elaborated_operands scope os))) m
            ∙ before_push h.links link (truth_links kind broken (elaborated_operands scope rest));
      }

  -- the chain as a whole
  pub grown_whole_truth : (rest : Operands) (g : Result Grown (Refusal TypeKind)) (result : Result Judgement OutOfMemory) → HasGrownTruth scope kind start e all rest g → rest ≡ NoOperand
      → ((links : List ElaboratedLink) (refusals : TypeRefusals) → IsOutcome (IsGrownChain e.node links BigInt) refusals g
      → Judges (form_of_type BigInt refusals (tree.Chain e.node (links_in_order links))) result)
      → Judges (elaborated_truth_chain kind start e (elaborated_operands scope all)) result
  grown_whole_truth rest g result h m further =
      let same : truth_links kind (truth_refusals start e) (elaborated_operands scope all) ≡ record { refusals = h.refusals; links = links_in_order h.links } =
      h.same ∙ ap (λ (os : Operands). links_before h.links (truth_links kind h.refusals (elaborated_operands scope os))) m ∙ before_end h.links h.refusals in
      subst (λ (l : ElaboratedLinks). Judges (form_of_type BigInt l.refusals (tree.Chain e.node l.links)) result) (sym same) (further h.links h.refusals h.grown)

-- ---- both

module _ (kind : ChainKind) (place : Place) (e : ElaboratedExpression) (rest : List ElaboratedOperand) (result : Result Judgement OutOfMemory) where
  pub chain_of_truth : is_truth_chain kind ≡ true → Judges (elaborated_truth_chain kind place e rest) result → Judges (elaborated_chain kind place e rest) result
  chain_of_truth h k = by (is_truth_chain kind) h
    where
      by : (b : Bool) → b ≡ true → Judges (if b then elaborated_truth_chain kind place e rest else elaborated_value_chain kind e rest) result
      by true g = k
      by false g = cc

  pub chain_of_values : is_truth_chain kind ≡ false → Judges (elaborated_value_chain kind e rest) result → Judges (elaborated_chain kind place e rest) result
  chain_of_values h k = by (is_truth_chain kind) h
    where
      by : (b : Bool) → b ≡ false → Judges (if b then elaborated_truth_chain kind place e rest else elaborated_value_chain kind e rest) result
      by true g = cc
      by false g = k
