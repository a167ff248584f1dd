-- Arguments for parameters, from what stands of them.
use Rattle.std.proofs.Common.{◌≡◌, Bool, true, false, List, [], ◌∷◌, ◌++◌, map, Option, Some, None, Result, Ok, Err, if◌then◌else◌, refl, sym, ap, ◌∙◌, subst}
use Rattle.ds2_value.specs.Types.{same_ty}
use Rattle.std.specs.Prelude.{is_some}
use Rattle.ds2_base.specs.declared.place.Place.{Place}
use Rattle.ds2_base.specs.declared.place.Refusal.{Refusal}
use Rattle.ds2_value.specs.declared.ty.Ty.{Ty}
use Rattle.ds2_meaning.specs.TypedExpression as tree
use Rattle.ds2_meaning.specs.View.{Part, argument_tree}
use Rattle.ds2_meaning.specs.declared.expressions.Argument.{Argument}
use Rattle.ds2_meaning.specs.declared.location.Reference.{Reference}
use Rattle.ds2_meaning.specs.declared.methods.Parameter.{Parameter}
use Rattle.ds2_meaning.specs.declared.refusals.TypeKind.{TypeKind}
use Rattle.ds2_meaning.specs.declared.refusals.TypeKind.TheVariants.{TypeClash}
use Rattle.ds2_names.specs.Refusals.{type_rank, first_of_both}
use Rattle.ds2_elaboration.specs.ExpressionTypes.{reference_in}
use Rattle.ds2_elaboration.specs.FunctionTypes.{ElaboratedArgument}
use Rattle.ds2_elaboration.specs.Typings.{TypeRefusals, Typing, clash_unless, where_known, assigned_refusals, assigned_node}
use Rattle.ds2_types.specs.Judgements.{first_type_refusal, typing_of, node_tree, IsOutcome, IsJudged, IsAssigned, ruled}
use Rattle.ds2_types.specs.declared.judgement.Judgement.{Judgement}
use Rattle.ds2_types.specs.declared.judgement.Node.{Node}
use Rattle.ds2_types.proofs.Outcomes.{none_behind, given_behind, given_before, given_of_both, IsTree, after_rule}
use Rattle.ds2_reference_types.specs.FurtherArguments.{arguments_and}
use Rattle.ds2_reference_types.specs.Passing.{part_of_value, part_of_variable, lent_refusals, IsBefore, IsByValue, IsLent, IsPassed, ArePassed}
use Rattle.ds2_reference_types.specs.declared.passing.FurtherArgument.{FurtherArgument}
use Rattle.ds2_expression_types.proofs.ArgumentLists.{map-push}

-- ---- variables that are handed in and out

-- the type of the variable is another one than the parameter's
abbrev pub type_rule : Ty → Place → Typing → TypeRefusals
type_rule ty place typing = where_known typing (λ own. clash_unless (same_ty own ty) place)

ruled_none : (outcome : Result Node (Refusal TypeKind)) → ruled outcome None ≡ outcome
ruled_none (Ok n) = refl
ruled_none (Err r) = refl

module _ (ty : Ty) (e : ElaboratedArgument) (x : Judgement) (place : Place) (other : Option (Refusal TypeKind)) (same : e.place ≡ place) (h : IsJudged e.value x)
    (o : other ≡ first_type_refusal (type_rule ty place (typing_of x.typing))) where
  other_is : other ≡ first_type_refusal (type_rule ty e.place e.value.typing)
  other_is =
      o ∙ ap (λ (p : Place). first_type_refusal (type_rule ty p (typing_of x.typing))) (sym same)
      ∙ ap (λ (t : Typing). first_type_refusal (type_rule ty e.place t)) h.typing

  abbrev missing : TypeRefusals
  missing = clash_unless (is_some (reference_in e.value.node)) e.place

  -- what is no variable
  pub unlent_given : (clash b r : Refusal TypeKind) → is_some (reference_in e.value.node) ≡ false → clash ≡ record { kind = TypeClash; place = place }
      → Err b ≡ ruled x.outcome (Some clash) → r ≡ first_of_both type_rank b other → IsLent ty e (Err r)
  unlent_given clash b r n c g f =
      let told : Some clash ≡ first_type_refusal missing =
      ap (λ (q : Refusal TypeKind). Some q) c ∙ ap (λ (p : Place). first_type_refusal (clash_unless false p)) (sym same)
      ∙ ap (λ (t : Bool). first_type_refusal (clash_unless t e.place)) (sym n) in
      let one = after_rule (IsTree e.value.node) e.value.refusals missing x.outcome (Some clash) h.outcome told in
      let two = after_rule (IsTree e.value.node) (e.value.refusals ++ missing) (type_rule ty e.place e.value.typing) (ruled x.outcome (Some clash)) other one other_is in
      subst (IsOutcome (IsTree e.value.node) (lent_refusals ty e))
      (ap (λ (out : Result Node (Refusal TypeKind)). ruled out other) (sym g) ∙ ap (λ (q : Refusal TypeKind). Err q) (sym f)) two

  -- what stands of a variable
  pub lent_outcome : (variable : Reference) (given : Result Node (Refusal TypeKind)) → reference_in e.value.node ≡ Some variable → ruled x.outcome other ≡ given
      → IsOutcome (IsTree e.value.node) (lent_refusals ty e) given
  lent_outcome variable given v g =
      let none : None ≡ first_type_refusal missing = ap (λ (r : Option Reference). first_type_refusal (clash_unless (is_some r) e.place)) (sym v) in
      let one = after_rule (IsTree e.value.node) e.value.refusals missing x.outcome None h.outcome none in
      let two = after_rule (IsTree e.value.node) (e.value.refusals ++ missing) (type_rule ty e.place e.value.typing) (ruled x.outcome None) other one other_is in
      subst (IsOutcome (IsTree e.value.node) (lent_refusals ty e)) (ap (λ (out : Result Node (Refusal TypeKind)). ruled out other) (ruled_none x.outcome) ∙ g) two

-- ---- values

module _ (ty : Ty) (e : ElaboratedArgument) (place : Place) (outcome : Result Node (Refusal TypeKind)) (same : e.place ≡ place) (h : IsAssigned ty place e.value outcome) where
  stands : (given : Result Node (Refusal TypeKind)) → outcome ≡ given
      → IsOutcome (λ (n : Node). node_tree n ≡ assigned_node ty e.value) (assigned_refusals ty e.place e.value) given
  stands given g =
      subst (λ (p : Place). IsAssigned ty p e.value given) (sym same) (subst (λ (o : Result Node (Refusal TypeKind)). IsAssigned ty place e.value o) g h)

  pub value_broken : (r : Refusal TypeKind) → outcome ≡ Err r → IsByValue ty e (Err r)
  value_broken r g = stands (Err r) g

  pub value_passed : (n : Node) (a : Argument) → outcome ≡ Ok n → argument_tree a ≡ part_of_value (node_tree n) → IsByValue ty e (Ok a)
  value_passed n a g t = let so = stands (Ok n) g in (so.0, t ∙ ap part_of_value so.1)

-- ---- both

passed_if : (b : Bool) (part other : Part tree.TypedArguments) (refusals more : TypeRefusals) (passed : Result Argument (Refusal TypeKind)) → b ≡ true
    → IsBefore part refusals passed → IsBefore (if b then part else other) (if b then refusals else more) passed
passed_if true part other refusals more passed e h = h
passed_if false part other refusals more passed e h = cc

passed_unless : (b : Bool) (part other : Part tree.TypedArguments) (refusals more : TypeRefusals) (passed : Result Argument (Refusal TypeKind)) → b ≡ false
    → IsBefore other more passed → IsBefore (if b then part else other) (if b then refusals else more) passed
passed_unless true part other refusals more passed e h = cc
passed_unless false part other refusals more passed e h = h

module _ (p : Parameter) (e : ElaboratedArgument) (passed : Result Argument (Refusal TypeKind)) where
  -- an argument for an in_out parameter
  pub passed_in_out : p.is_in_out ≡ true → IsLent p.ty e passed → IsPassed p e passed
  passed_in_out h k =
      passed_if p.is_in_out (part_of_variable (reference_in e.value.node)) (part_of_value (assigned_node p.ty e.value)) (lent_refusals p.ty e)
      (assigned_refusals p.ty e.place e.value) passed h k

  -- an argument for another one
  pub passed_by_value : p.is_in_out ≡ false → IsByValue p.ty e passed → IsPassed p e passed
  passed_by_value h k =
      passed_unless p.is_in_out (part_of_variable (reference_in e.value.node)) (part_of_value (assigned_node p.ty e.value)) (lent_refusals p.ty e)
      (assigned_refusals p.ty e.place e.value) passed h k

-- ---- arguments in order

-- arguments of these parts, and one that is this part
abbrev pub AreFurtherParts : List (Part tree.TypedArguments) → Part tree.TypedArguments → FurtherArgument → Type 0
AreFurtherParts parts part f = (map argument_tree f.arguments ≡ parts) × (argument_tree f.argument ≡ part)

after_arguments : (parts : List (Part tree.TypedArguments)) (part : Part tree.TypedArguments) (xs ys : TypeRefusals) (arguments : Result (List Argument) (Refusal TypeKind))
    (argument : Result Argument (Refusal TypeKind)) → ArePassed xs parts arguments → IsBefore part ys argument
    → IsOutcome (AreFurtherParts parts part) (xs ++ ys) (arguments_and arguments argument)
after_arguments parts part xs ys (Ok arguments) (Ok argument) h k = (none_behind xs ys h.0 k.0, (h.1, k.1))
after_arguments parts part xs ys (Ok arguments) (Err q) h k = given_behind xs ys q h.0 k
after_arguments parts part xs ys (Err p) (Ok argument) h k = given_before xs ys p h k.0
after_arguments parts part xs ys (Err p) (Err q) h k = given_of_both xs ys p q h k

-- what stands of arguments and of one behind them
pub further_argument : (parts : List (Part tree.TypedArguments)) (part : Part tree.TypedArguments) (xs ys : TypeRefusals) (arguments : Result (List Argument) (Refusal TypeKind))
    (argument : Result Argument (Refusal TypeKind)) (result given : Result FurtherArgument (Refusal TypeKind)) → ArePassed xs parts arguments → IsBefore part ys argument
    → result ≡ arguments_and arguments argument → result ≡ given → IsOutcome (AreFurtherParts parts part) (xs ++ ys) given
further_argument parts part xs ys arguments argument result given h k e g =
    subst (IsOutcome (AreFurtherParts parts part) (xs ++ ys)) (sym e ∙ g) (after_arguments parts part xs ys arguments argument h k)

-- arguments with one more
pub longer_arguments : (parts : List (Part tree.TypedArguments)) (part : Part tree.TypedArguments) (f : FurtherArgument) (all : List Argument) → AreFurtherParts parts part f
    → all ≡ f.arguments ++ f.argument ∷ [] → map argument_tree all ≡ parts ++ part ∷ []
longer_arguments parts part f all h e =
    ap (λ (l : List Argument). map argument_tree l) e ∙ map-push argument_tree f.arguments f.argument
    ∙ ap (λ (l : List (Part tree.TypedArguments)). l ++ argument_tree f.argument ∷ []) h.0 ∙ ap (λ (q : Part tree.TypedArguments). parts ++ q ∷ []) h.1
