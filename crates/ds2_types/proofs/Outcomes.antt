-- What stands of an expression when a further rule is looked at.
use Rattle.std.proofs.Common.{◌≡◌, [], ◌∷◌, ◌++◌, Option, Some, None, Result, Ok, Err, refl, sym, ap, ◌∙◌, subst}
use Rattle.ds2_base.specs.declared.place.Refusal.{Refusal}
use Rattle.ds2_value.specs.declared.ty.Ty.{Ty}
use Rattle.ds2_meaning.specs.IsTyped.{expression_type}
use Rattle.ds2_meaning.specs.TypedExpression.{TypedExpression}
use Rattle.ds2_meaning.specs.declared.refusals.TypeKind.{TypeKind}
use Rattle.ds2_names.specs.Refusals.{type_rank, first_of_both}
use Rattle.ds2_elaboration.specs.Typings.{TypeRefusals, Typing, Known, ElaboratedExpression, form_of_type, form_of_operands}
use Rattle.ds2_types.specs.Judgements.{first_type_refusal, lesser_refusal, typing_of, node_tree, IsOutcome, IsJudged, ruled, both_of}
use Rattle.ds2_types.specs.declared.judgement.Judgement.{Judgement}
use Rattle.ds2_types.specs.declared.judgement.Node.{Node}
use Rattle.ds2_types.specs.declared.judgement.Pair.{Pair}
use Rattle.ds2_types.specs.declared.judgement.Typing.TheVariants as known
use Rattle.ds2_types.proofs.RefusalOrder.{least_append, none_given}

pub none_behind : (xs ys : TypeRefusals) → xs ≡ [] → ys ≡ [] → xs ++ ys ≡ []
none_behind xs ys g h = ap (λ (l : TypeRefusals). l ++ ys) g ∙ h

-- the broken rule that is given of two lists
pub given_behind : (xs ys : TypeRefusals) (q : Refusal TypeKind) → xs ≡ [] → first_type_refusal ys ≡ Some q → first_type_refusal (xs ++ ys) ≡ Some q
given_behind xs ys q h k = least_append xs ys ∙ ap (λ (l : TypeRefusals). lesser_refusal (first_type_refusal l) (first_type_refusal ys)) h ∙ k

pub given_before : (xs ys : TypeRefusals) (p : Refusal TypeKind) → first_type_refusal xs ≡ Some p → ys ≡ [] → first_type_refusal (xs ++ ys) ≡ Some p
given_before xs ys p h k =
    least_append xs ys ∙ ap (λ (o : Option (Refusal TypeKind)). lesser_refusal o (first_type_refusal ys)) h
    ∙ ap (λ (l : TypeRefusals). Some (first_of_both type_rank p (first_type_refusal l))) k

pub given_of_both : (xs ys : TypeRefusals) (p q : Refusal TypeKind) → first_type_refusal xs ≡ Some p → first_type_refusal ys ≡ Some q
    → first_type_refusal (xs ++ ys) ≡ Some (first_of_both type_rank p (Some q))
given_of_both xs ys p q h k =
    least_append xs ys ∙ ap (λ (o : Option (Refusal TypeKind)). lesser_refusal o (first_type_refusal ys)) h
    ∙ ap (λ (o : Option (Refusal TypeKind)). Some (first_of_both type_rank p o)) k

-- what stands once a further rule was looked at
pub after_rule : {A : Type 0} (IsSo : A → Type 0) (refusals more : TypeRefusals) (outcome : Result A (Refusal TypeKind)) (clash : Option (Refusal TypeKind))
    → IsOutcome IsSo refusals outcome → clash ≡ first_type_refusal more → IsOutcome IsSo (refusals ++ more) (ruled outcome clash)
after_rule IsSo refusals more (Ok x) None h e = (none_behind refusals more h.0 (none_given more (sym e)), h.1)
after_rule IsSo refusals more (Ok x) (Some r) h e =
    least_append refusals more ∙ ap (λ (l : TypeRefusals). lesser_refusal (first_type_refusal l) (first_type_refusal more)) h.0 ∙ sym e
after_rule IsSo refusals more (Err r) clash h e =
    least_append refusals more ∙ ap (λ (o : Option (Refusal TypeKind)). lesser_refusal o (first_type_refusal more)) h
    ∙ ap (λ (o : Option (Refusal TypeKind)). Some (first_of_both type_rank r o)) (sym e)

-- the same, of a result that is known
pub ruled_as : {A : Type 0} (IsSo : A → Type 0) (refusals more : TypeRefusals) (outcome : Result A (Refusal TypeKind)) (clash : Option (Refusal TypeKind))
    (result : Result A (Refusal TypeKind)) → IsOutcome IsSo refusals outcome → clash ≡ first_type_refusal more → result ≡ ruled outcome clash
    → (given : Result A (Refusal TypeKind)) → result ≡ given → IsOutcome IsSo (refusals ++ more) given
ruled_as IsSo refusals more outcome clash result h e f given g =
    subst (IsOutcome IsSo (refusals ++ more)) (sym f ∙ g) (after_rule IsSo refusals more outcome clash h e)

-- what stands of two operands
pub after_both : (IsLeft IsRight : Node → Type 0) (xs ys : TypeRefusals) (left right : Result Node (Refusal TypeKind)) → IsOutcome IsLeft xs left
    → IsOutcome IsRight ys right → IsOutcome (λ (p : Pair). IsLeft p.left × IsRight p.right) (xs ++ ys) (both_of left right)
after_both IsLeft IsRight xs ys (Ok left) (Ok right) h k = (none_behind xs ys h.0 k.0, (h.1, k.1))
after_both IsLeft IsRight xs ys (Ok left) (Err r) h k =
    least_append xs ys ∙ ap (λ (l : TypeRefusals). lesser_refusal (first_type_refusal l) (first_type_refusal ys)) h.0 ∙ k
after_both IsLeft IsRight xs ys (Err r) (Ok right) h k =
    least_append xs ys ∙ ap (λ (o : Option (Refusal TypeKind)). lesser_refusal o (first_type_refusal ys)) h
    ∙ ap (λ (l : TypeRefusals). Some (first_of_both type_rank r (first_type_refusal l))) k.0
after_both IsLeft IsRight xs ys (Err r) (Err q) h k =
    least_append xs ys ∙ ap (λ (o : Option (Refusal TypeKind)). lesser_refusal o (first_type_refusal ys)) h
    ∙ ap (λ (o : Option (Refusal TypeKind)). Some (first_of_both type_rank r o)) k

-- ---- one operand and one rule

-- an expression is of this node
abbrev pub IsTree : TypedExpression → Node → Type 0
IsTree node n = node_tree n ≡ node

-- what stands of an operand once a rule on what is known of it was looked at
pub after_one : (rule : Typing → TypeRefusals) (e : ElaboratedExpression) (x : Judgement) (clash : Option (Refusal TypeKind)) (result : Result Node (Refusal TypeKind))
    → IsJudged e x → clash ≡ first_type_refusal (rule (typing_of x.typing)) → result ≡ ruled x.outcome clash
    → (given : Result Node (Refusal TypeKind)) → result ≡ given → IsOutcome (IsTree e.node) (e.refusals ++ rule e.typing) given
after_one rule e x clash result h e1 e2 given g =
    ruled_as (IsTree e.node) e.refusals (rule e.typing) x.outcome clash result h.outcome
    (e1 ∙ ap (λ (t : Typing). first_type_refusal (rule t)) h.typing) e2 given g

-- ---- forms

-- a form whose type depends on its operands, where a rule is broken in it
pub operands_broken : (refusals : TypeRefusals) (node : TypedExpression) (r : Refusal TypeKind) → first_type_refusal refusals ≡ Some r
    → IsJudged (form_of_operands refusals node) (record { typing = known.Unknown; outcome = Err r })
operands_broken [] node r h = cc
operands_broken (q ∷ refusals) node r h = record { typing = refl; outcome = h }

-- a form whose type depends on its operands, where none is
pub operands_typed : (refusals : TypeRefusals) (node : TypedExpression) (n : Node) → refusals ≡ [] → node_tree n ≡ node
    → IsJudged (form_of_operands refusals node) (record { typing = known.Known n.ty; outcome = Ok n })
operands_typed [] node n h e = record { typing = ap (λ (ty : Ty). Known ty) (n.own_type ∙ ap expression_type e); outcome = (refl, e) }
operands_typed (q ∷ refusals) node n h e = cc

-- a form of a type of its own
pub type_broken : (ty : Ty) (refusals : TypeRefusals) (node : TypedExpression) (r : Refusal TypeKind) → first_type_refusal refusals ≡ Some r
    → IsJudged (form_of_type ty refusals node) (record { typing = known.Known ty; outcome = Err r })
type_broken ty refusals node r h = record { typing = refl; outcome = h }

pub type_typed : (ty : Ty) (refusals : TypeRefusals) (node : TypedExpression) (n : Node) → refusals ≡ [] → node_tree n ≡ node
    → IsJudged (form_of_type ty refusals node) (record { typing = known.Known ty; outcome = Ok n })
type_typed ty refusals node n h e = record { typing = refl; outcome = (h, e) }
