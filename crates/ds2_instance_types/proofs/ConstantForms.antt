-- Constants of declarations of instances.
use Rattle.std.proofs.Common.{◌≡◌, ℕ, ℤ, ◌+◌, ◌<◌, ◌≤◌, Bool, true, false, if◌then◌else◌, List, [], ◌∷◌, length, get_or, drop, Option, Some, None, Result, Ok, Err, refl, sym, ap, ◌∙◌, subst}
use Rattle.std.specs.Prelude.{option_and_then}
use Rattle.std.proofs.lemmas.List.{at_drop_more, at_drop_all}
use Rattle.ds2_base.specs.declared.place.Place.{Place}
use Rattle.ds2_base.specs.declared.place.Refusal.{Refusal}
use Rattle.ds2_base.specs.declared.stop.OutOfMemory.{OutOfMemory}
use Rattle.ds2_decimal.specs.Decimal.{Decimal}
use Rattle.ds2_token.specs.Values.{token_integer, token_decimal, token_text}
use Rattle.ds2_token.specs.Words.{is_integer, is_decimal}
use Rattle.ds2_token.specs.declared.token.Token.{Token}
use Rattle.ds2_tree.specs.Expressions.{is_null_word}
use Rattle.ds2_tree.specs.declared.globals.Constant.{Constant}
use Rattle.ds2_meaning.specs.TypedExpression.{TypedExpression}
use Rattle.ds2_meaning.specs.declared.refusals.TypeKind.{TypeKind}
use Rattle.ds2_elaboration.specs.ExpressionTypes.{constant_node, decimal_node, integer_constant, integer_node, reference_in, text_node, text_within, typed_decimal, typed_text}
use Rattle.ds2_elaboration.specs.ProgramTypes.{constructor_arguments, elaborated_constant, signed_node}
use Rattle.ds2_elaboration.specs.Typings.{ElaboratedExpression, elaborated_null, form_of_operands}
use Rattle.ds2_types.specs.Judgements.{node_tree, IsJudged, IsOutcome, Judges}
use Rattle.ds2_types.specs.declared.judgement.Judgement.{Judgement}
use Rattle.ds2_types.specs.declared.judgement.Node.{Node}
use Rattle.ds2_reference_types.specs.Passing.{lent_variable}
use Rattle.ds2_instance_types.specs.ConstantArguments.{constant_argument, negated_node}

-- ---- a number or text, in which no rule is broken

module _ (node : TypedExpression) (x : Judgement) (h : IsJudged (form_of_operands [] node) x) where
  pub operand_is : (n : Node) → x.outcome ≡ Ok n → node_tree n ≡ node
  operand_is n e = (subst (IsOutcome (λ (m : Node). node_tree m ≡ node) []) e h.outcome).1

  pub none_broken : (r : Refusal TypeKind) (j : Judgement) → x.outcome ≡ Err r → IsJudged (form_of_operands [] (negated_node node)) j
  none_broken r j e =
      let k : None ≡ Some r = subst (IsOutcome (λ (m : Node). node_tree m ≡ node) []) e h.outcome in
      absurd (cc k)

-- ---- a constant

-- the constant null
pub null_constant : (c : Constant) (r : Result Judgement OutOfMemory) → is_null_word c.value ≡ true → Judges (elaborated_null c.value.place) r → Judges (elaborated_constant c) r
null_constant c r e h =
    subst (λ (x : ElaboratedExpression). Judges x r)
    (sym (ap (λ (b : Bool). if b then elaborated_null c.value.place else form_of_operands [] (signed_node c.minus (constant_node c.value))) e)) h

-- another one
pub other_constant : (c : Constant) (r : Result Judgement OutOfMemory) → is_null_word c.value ≡ false → Judges (form_of_operands [] (signed_node c.minus (constant_node c.value))) r
    → Judges (elaborated_constant c) r
other_constant c r e h =
    subst (λ (x : ElaboratedExpression). Judges x r)
    (sym (ap (λ (b : Bool). if b then elaborated_null c.value.place else form_of_operands [] (signed_node c.minus (constant_node c.value))) e)) h

-- ---- a constant is no variable

integer_lent : (i : Option ℤ) → reference_in (integer_node i) ≡ None
integer_lent None = refl
integer_lent (Some i) = refl

decimal_lent : (d : Option Decimal) → reference_in (decimal_node d) ≡ None
decimal_lent None = refl
decimal_lent (Some d) = refl

text_lent : (text : Option (List ℕ)) → reference_in (text_node text) ≡ None
text_lent None = refl
text_lent (Some text) = refl

node_lent : (t : Token) → reference_in (constant_node t) ≡ None
node_lent t = by (is_integer t) (is_decimal t)
  where
    by : (a b : Bool) → reference_in (if a then integer_constant t else if b then typed_decimal t else typed_text t) ≡ None
    by true b = integer_lent (token_integer t)
    by false true = decimal_lent (token_decimal t)
    by false false = text_lent (option_and_then text_within (token_text t))

signed_lent : (minus : Option Place) (node : TypedExpression) → reference_in node ≡ None → reference_in (signed_node minus node) ≡ None
signed_lent None node h = h
signed_lent (Some place) node h = refl

pub none_lent : (in_out : Bool) (c : Constant) → None ≡ lent_variable in_out (elaborated_constant c).node
none_lent false c = refl
none_lent true c = sym (by (is_null_word c.value))
  where
    by : (b : Bool) → reference_in (if b then elaborated_null c.value.place else form_of_operands [] (signed_node c.minus (constant_node c.value))).node ≡ None
    by true = refl
    by false = signed_lent c.minus (constant_node c.value) (node_lent c.value)

-- ---- constants in order

-- the constants from one on
pub next_constant : (cs : List Constant) (i : ℕ) (c : Constant) → i < length cs → c ≡ get_or cs i c
    → constructor_arguments (drop i cs) ≡ constant_argument c ∷ constructor_arguments (drop (i + 1) cs)
next_constant cs i c h e =
    at_drop_more constructor_arguments cs i c h ∙ ap (λ (x : Constant). constant_argument x ∷ constructor_arguments (drop (i + 1) cs)) (sym e)

pub last_constant : (cs : List Constant) (i : ℕ) → length cs ≤ i → constructor_arguments (drop i cs) ≡ []
last_constant cs i h = at_drop_all constructor_arguments cs i h
