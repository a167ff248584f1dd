-- Forms of one and of two operands, from what stands of the operands.
use Rattle.std.proofs.Common.{◌≡◌, [], ◌∷◌, ◌++◌, Option, Some, Result, Ok, Err, refl, sym, ap, ◌∙◌, subst}
use Rattle.ds2_base.specs.declared.place.Refusal.{Refusal}
use Rattle.ds2_value.specs.declared.ty.Ty.{Ty}
use Rattle.ds2_meaning.specs.IsTyped.{expression_type}
use Rattle.ds2_meaning.specs.TypedExpression.{TypedExpression}
use Rattle.ds2_meaning.specs.declared.refusals.TypeKind.{TypeKind}
use Rattle.ds2_names.specs.declared.functions.ByType.{ByType}
use Rattle.ds2_elaboration.specs.FunctionTypes.{one_node, broken_typing, one_typing}
use Rattle.ds2_elaboration.specs.OperatorTypes.{compared_node}
use Rattle.ds2_elaboration.specs.Typings.{TypeRefusals, Typing, Known, NullAt, Unknown, ElaboratedExpression, form_of_type, form_of_operands, assigned_node}
use Rattle.ds2_types.specs.Judgements.{first_type_refusal, typing_of, node_tree, IsOutcome, IsJudged, ruled, both_of, unbroken}
use Rattle.ds2_types.specs.declared.judgement.Judgement.{Judgement}
use Rattle.ds2_types.specs.declared.judgement.Node.{Node}
use Rattle.ds2_types.specs.declared.judgement.Pair.{Pair}
use Rattle.ds2_types.specs.declared.judgement.Typing as code_typing
use Rattle.ds2_types.specs.declared.judgement.Typing.TheVariants as known
use Rattle.ds2_types.proofs.Outcomes.{after_both, ruled_as, IsTree, after_one, operands_broken, operands_typed, type_broken, type_typed}

-- ---- one operand and one rule

module _ (rule : Typing → TypeRefusals) (e : ElaboratedExpression) (x : Judgement) (clash : Option (Refusal TypeKind)) (result : Result Node (Refusal TypeKind)) where
  -- a form whose type depends on its operand, where a rule is broken
  pub broken_of_one : IsJudged e x → clash ≡ first_type_refusal (rule (typing_of x.typing)) → result ≡ ruled x.outcome clash
      → (node : TypedExpression) (r : Refusal TypeKind) → result ≡ Err r
      → IsJudged (form_of_operands (e.refusals ++ rule e.typing) node) (record { typing = known.Unknown; outcome = Err r })
  broken_of_one h f g node r i = operands_broken (e.refusals ++ rule e.typing) node r (after_one rule e x clash result h f g (Err r) i)

  -- the same, where none is
  pub typed_of_one : IsJudged e x → clash ≡ first_type_refusal (rule (typing_of x.typing)) → result ≡ ruled x.outcome clash
      → (operand : Node) → result ≡ Ok operand → (form : TypedExpression → TypedExpression) (n : Node) → node_tree n ≡ form (node_tree operand)
      → IsJudged (form_of_operands (e.refusals ++ rule e.typing) (form e.node)) (record { typing = known.Known n.ty; outcome = Ok n })
  typed_of_one h f g operand i form n k =
      let so = after_one rule e x clash result h f g (Ok operand) i in
      operands_typed (e.refusals ++ rule e.typing) (form e.node) n so.0 (k ∙ ap form so.1)

  -- a form of a type of its own, where a rule is broken
  pub broken_of_type : IsJudged e x → clash ≡ first_type_refusal (rule (typing_of x.typing)) → result ≡ ruled x.outcome clash
      → (ty : Ty) (node : TypedExpression) (r : Refusal TypeKind) → result ≡ Err r
      → IsJudged (form_of_type ty (e.refusals ++ rule e.typing) node) (record { typing = known.Known ty; outcome = Err r })
  broken_of_type h f g ty node r i = type_broken ty (e.refusals ++ rule e.typing) node r (after_one rule e x clash result h f g (Err r) i)

  -- the same, where none is
  pub typed_of_type : IsJudged e x → clash ≡ first_type_refusal (rule (typing_of x.typing)) → result ≡ ruled x.outcome clash
      → (ty : Ty) (operand : Node) → result ≡ Ok operand → (form : TypedExpression → TypedExpression) (n : Node) → node_tree n ≡ form (node_tree operand)
      → IsJudged (form_of_type ty (e.refusals ++ rule e.typing) (form e.node)) (record { typing = known.Known ty; outcome = Ok n })
  typed_of_type h f g ty operand i form n k =
      let so = after_one rule e x clash result h f g (Ok operand) i in
      type_typed ty (e.refusals ++ rule e.typing) (form e.node) n so.0 (k ∙ ap form so.1)

  -- a function of one value, where a rule is broken
  pub broken_of_type_by : IsJudged e x → clash ≡ first_type_refusal (rule (typing_of x.typing)) → result ≡ ruled x.outcome clash
      → (f : ByType) (node : TypedExpression) (t : code_typing.Typing) → typing_of t ≡ broken_typing f → (r : Refusal TypeKind) → result ≡ Err r
      → IsJudged (record { typing = one_typing f (e.refusals ++ rule e.typing) node; refusals = e.refusals ++ rule e.typing; node = node }) (record { typing = t; outcome = Err r })
  broken_of_type_by h g k f node t same r i = by (e.refusals ++ rule e.typing) (after_one rule e x clash result h g k (Err r) i)
    where
      by : (refusals : TypeRefusals) → first_type_refusal refusals ≡ Some r
          → IsJudged (record { typing = one_typing f refusals node; refusals = refusals; node = node }) (record { typing = t; outcome = Err r })
      by [] broken = cc
      by (q ∷ refusals) broken = record { typing = same; outcome = broken }

  -- the same, where none is
  pub typed_of_type_by : IsJudged e x → clash ≡ first_type_refusal (rule (typing_of x.typing)) → result ≡ ruled x.outcome clash
      → (f : ByType) (operand : Node) → result ≡ Ok operand → (n : Node) → node_tree n ≡ one_node f (node_tree operand)
      → IsJudged (record { typing = one_typing f (e.refusals ++ rule e.typing) (one_node f e.node); refusals = e.refusals ++ rule e.typing; node = one_node f e.node })
      (record { typing = known.Known n.ty; outcome = Ok n })
  typed_of_type_by h g k f operand i n is =
      let so = after_one rule e x clash result h g k (Ok operand) i in
      by (e.refusals ++ rule e.typing) so.0 (is ∙ ap (one_node f) so.1)
    where
      by : (refusals : TypeRefusals) → refusals ≡ [] → node_tree n ≡ one_node f e.node
          → IsJudged (record { typing = one_typing f refusals (one_node f e.node); refusals = refusals; node = one_node f e.node }) (record { typing = known.Known n.ty; outcome = Ok n })
      by [] none same = record { typing = ap (λ (ty : Ty). Known ty) (n.own_type ∙ ap expression_type same); outcome = (refl, same) }
      by (q ∷ refusals) none same = cc

-- ---- two operands

-- two operands are of these nodes
abbrev pub AreTrees : TypedExpression → TypedExpression → Pair → Type 0
AreTrees a b p = (node_tree p.left ≡ a) × (node_tree p.right ≡ b)

-- what stands of two operands once a rule on what is known of both was looked at
pub after_pair : (rule : Typing → Typing → TypeRefusals) (x y : ElaboratedExpression) (a b : Judgement) (clash : Option (Refusal TypeKind))
    (pair result : Result Pair (Refusal TypeKind)) → IsJudged x a → IsJudged y b → clash ≡ first_type_refusal (rule (typing_of a.typing) (typing_of b.typing))
    → pair ≡ both_of a.outcome b.outcome → result ≡ ruled pair clash → (given : Result Pair (Refusal TypeKind)) → result ≡ given
    → IsOutcome (AreTrees x.node y.node) (x.refusals ++ y.refusals ++ rule x.typing y.typing) given
after_pair rule x y a b clash pair result h k e f g given i =
    ruled_as (AreTrees x.node y.node) (x.refusals ++ y.refusals) (rule x.typing y.typing) pair clash result
    (subst (IsOutcome (AreTrees x.node y.node) (x.refusals ++ y.refusals)) (sym f)
    (after_both (IsTree x.node) (IsTree y.node) x.refusals y.refusals a.outcome b.outcome h.outcome k.outcome))
    (e ∙ ap (λ (t : Typing). first_type_refusal (rule t (typing_of b.typing))) h.typing ∙ ap (λ (t : Typing). first_type_refusal (rule x.typing t)) k.typing)
    g given i

-- what stands of two operands after a rule on each
pub after_two : (rule : Typing → TypeRefusals) (x y : ElaboratedExpression) (a b : Judgement) (first second : Option (Refusal TypeKind))
    (left right : Result Node (Refusal TypeKind)) (pair : Result Pair (Refusal TypeKind)) → IsJudged x a → IsJudged y b
    → first ≡ first_type_refusal (rule (typing_of a.typing)) → left ≡ ruled a.outcome first
    → second ≡ first_type_refusal (rule (typing_of b.typing)) → right ≡ ruled b.outcome second → pair ≡ both_of left right
    → (given : Result Pair (Refusal TypeKind)) → pair ≡ given
    → IsOutcome (AreTrees x.node y.node) ((x.refusals ++ rule x.typing) ++ (y.refusals ++ rule y.typing)) given
after_two rule x y a b first second left right pair h k e f g i j given l =
    subst (IsOutcome (AreTrees x.node y.node) ((x.refusals ++ rule x.typing) ++ (y.refusals ++ rule y.typing))) (sym j ∙ l)
    (after_both (IsTree x.node) (IsTree y.node) (x.refusals ++ rule x.typing) (y.refusals ++ rule y.typing) left right
    (after_one rule x a first left h e f left refl) (after_one rule y b second right k g i right refl))

-- ---- nodes that depend on what is known of a type

compared_same : (t : Typing) (refusals : TypeRefusals) (node : TypedExpression) (other : Typing)
    → compared_node (unbroken t node) other ≡ compared_node (record { typing = t; refusals = refusals; node = node }) other
compared_same (Known ty) refusals node other = refl
compared_same (NullAt place) refusals node other = refl
compared_same Unknown refusals node other = refl

-- an operand of a comparison, from what is known of both
pub compared_as : (x : ElaboratedExpression) (t other beside : Typing) (node : TypedExpression) → t ≡ x.typing → node ≡ x.node → other ≡ beside
    → compared_node (unbroken t node) other ≡ compared_node x beside
compared_as x t other beside node e f g =
    ap (λ (s : Typing). compared_node (unbroken s node) other) e ∙ ap (λ (m : TypedExpression). compared_node (unbroken x.typing m) other) f
    ∙ ap (λ (o : Typing). compared_node (unbroken x.typing x.node) o) g ∙ compared_same x.typing x.refusals x.node beside

assigned_same : (ty : Ty) (t : Typing) (refusals : TypeRefusals) (node : TypedExpression)
    → assigned_node ty (unbroken t node) ≡ assigned_node ty (record { typing = t; refusals = refusals; node = node })
assigned_same ty (Known own) refusals node = refl
assigned_same ty (NullAt place) refusals node = refl
assigned_same ty Unknown refusals node = refl

-- a value that is assigned to a type, from what is known of it
pub assigned_as : (ty : Ty) (x : ElaboratedExpression) (t : Typing) (node : TypedExpression) → t ≡ x.typing → node ≡ x.node
    → assigned_node ty (unbroken t node) ≡ assigned_node ty x
assigned_as ty x t node e f =
    ap (λ (s : Typing). assigned_node ty (unbroken s node)) e ∙ ap (λ (m : TypedExpression). assigned_node ty (unbroken x.typing m)) f
    ∙ assigned_same ty x.typing x.refusals x.node
