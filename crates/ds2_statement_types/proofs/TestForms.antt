-- The tests of a `select`, by the rules that the code holds.
use Rattle.std.proofs.Common.{◌≡◌, ℕ, ◌+◌, ◌<◌, ◌≤◌, Bool, true, false, ◌||◌, if◌then◌else◌, List, [], ◌∷◌, ◌++◌, length, get_or, drop, map, Option, Some, None, Result, refl, sym, ap, ◌∙◌, subst, append_assoc}
use Rattle.std.specs.List.{list_any}
use Rattle.std.specs.Option.{option_map}
use Rattle.std.proofs.lemmas.List.{at_drop_more, at_drop_all}
use Rattle.ds2_base.specs.declared.place.Place.{Place}
use Rattle.ds2_tree.specs.ExpressionViews.{arguments_of}
use Rattle.ds2_tree.specs.Statements as s
use Rattle.ds2_tree.specs.StatementViews.{whens_of}
use Rattle.ds2_tree.specs.declared.expressions.Argument as code_argument
use Rattle.ds2_tree.specs.declared.statements.When as code_when
use Rattle.ds2_names.specs.NameRules.{from_each}
use Rattle.ds2_meaning.specs.TypedExpression.{TypedExpression}
use Rattle.ds2_elaboration.specs.ExpressionTypes.{TypeScope, elaborated, elaborated_arguments}
use Rattle.ds2_elaboration.specs.FunctionTypes.{ElaboratedArgument}
use Rattle.ds2_elaboration.specs.OperatorTypes.{is_known_decimal}
use Rattle.ds2_elaboration.specs.StatementTypes.{argument_nodes, test_refusals, value_test_refusals, selected_node, has_decimal_test}
use Rattle.ds2_elaboration.specs.Typings.{TypeRefusals, Typing, clash_unless, are_comparable, where_both_known, null_clash}
use Rattle.ds2_types.specs.Judgements.{typing_of}
use Rattle.ds2_types.specs.declared.judgement.Typing as code_typing
use Rattle.ds2_reference_types.specs.ArgumentTrees.{argument_in}
use Rattle.ds2_reference_types.proofs.KnownNames.{none_not_some, some_not_none, inside}
use Rattle.ds2_statement_types.specs.TestRules.{value_clash, test_rule, selector_typing}

-- the rule of a test that is compared with a value
pub value_rule : (selected : Typing) (x : ElaboratedArgument) → value_test_refusals selected x ≡ x.value.refusals ++ value_clash selected x.place x.value.typing
value_rule selected x =
    append_assoc x.value.refusals (null_clash x.value.typing) (where_both_known selected x.value.typing (λ a b. clash_unless (are_comparable a b) x.place))

-- the rule that the code holds is that of the `select`
pub rule_of_select : (types : TypeScope) (beside : Option code_typing.Typing) (selector : Option s.Selector) → option_map typing_of beside ≡ selector_typing types selector
    → test_rule beside ≡ test_refusals types selector
rule_of_select types None None e = refl
rule_of_select types None (Some selector) e = absurd (some_not_none (elaborated types selector.value).typing e)
rule_of_select types (Some typing) None e = absurd (none_not_some (typing_of typing) e)
rule_of_select types (Some typing) (Some selector) e =
    ap (λ (own : Typing). value_test_refusals own) (inside (typing_of typing) (elaborated types selector.value).typing e)

-- ---- arguments one by one

pub arguments_in : (types : TypeScope) (as' : List code_argument.Argument) → elaborated_arguments types (arguments_of as') ≡ map (argument_in types) as'
arguments_in types [] = refl
arguments_in types (a ∷ as') = ap (λ (l : List ElaboratedArgument). argument_in types a ∷ l) (arguments_in types as')

from_each-map : {A B C : Type 0} (f : B → List C) (g : A → B) (xs : List A) → from_each f (map g xs) ≡ from_each (λ (x : A). f (g x)) xs
from_each-map f g [] = refl
from_each-map {A} {B} {C} f g (x ∷ xs) = ap (λ (l : List C). f (g x) ++ l) (from_each-map f g xs)

maps : {A B C : Type 0} (f : B → C) (g : A → B) (xs : List A) → map f (map g xs) ≡ map (λ (x : A). f (g x)) xs
maps f g [] = refl
maps {A} {B} {C} f g (x ∷ xs) = ap (λ (l : List C). f (g x) ∷ l) (maps f g xs)

-- the rules of tests
pub tests_broken : (types : TypeScope) (rule : ElaboratedArgument → TypeRefusals) (as' : List code_argument.Argument)
    → from_each rule (elaborated_arguments types (arguments_of as')) ≡ from_each (λ (a : code_argument.Argument). rule (argument_in types a)) as'
tests_broken types rule as' = ap (from_each rule) (arguments_in types as') ∙ from_each-map rule (argument_in types) as'

-- what tests become
pub tests_formed : (types : TypeScope) (decimals : Bool) (as' : List code_argument.Argument)
    → map (selected_node types decimals) (argument_nodes (elaborated_arguments types (arguments_of as')))
    ≡ map (λ (a : code_argument.Argument). selected_node types decimals (argument_in types a).value.node) as'
tests_formed types decimals as' =
    ap (λ (l : List ElaboratedArgument). map (selected_node types decimals) (argument_nodes l)) (arguments_in types as')
    ∙ ap (map (selected_node types decimals)) (maps (λ (x : ElaboratedArgument). x.value.node) (argument_in types) as')
    ∙ maps (selected_node types decimals) (λ (a : code_argument.Argument). (argument_in types a).value.node) as'

-- ---- decimals among tests

or_assoc : (a b c : Bool) → ((a || b) || c) ≡ (a || (b || c))
or_assoc true b c = refl
or_assoc false b c = refl

or_none : (a : Bool) → (a || false) ≡ a
or_none true = refl
or_none false = refl

-- a test is a DECIMAL
abbrev pub is_decimal_test : ElaboratedArgument → Bool
is_decimal_test x = is_known_decimal x.value.typing

module _ (types : TypeScope) where
  -- one test more
  pub one_test : (as' : List code_argument.Argument) (i : ℕ) (a : code_argument.Argument) (found : Bool) → i < length as' → a ≡ get_or as' i a
      → ((found || is_decimal_test (argument_in types a)) || list_any is_decimal_test (elaborated_arguments types (arguments_of (drop (i + 1) as'))))
      ≡ (found || list_any is_decimal_test (elaborated_arguments types (arguments_of (drop i as'))))
  one_test as' i a found l at =
      or_assoc found (is_decimal_test (argument_in types a)) (list_any is_decimal_test (elaborated_arguments types (arguments_of (drop (i + 1) as'))))
      ∙ ap (λ (b : Bool). found || b)
      (sym
      (at_drop_more (λ (xs : List code_argument.Argument). list_any is_decimal_test (elaborated_arguments types (arguments_of xs))) as' i a l
      ∙ ap (λ (x : code_argument.Argument). is_decimal_test (argument_in types x) || list_any is_decimal_test (elaborated_arguments types (arguments_of (drop (i + 1) as')))) (sym at)))

  pub no_test_left : (as' : List code_argument.Argument) (i : ℕ) (found : Bool) → length as' ≤ i
      → (found || list_any is_decimal_test (elaborated_arguments types (arguments_of (drop i as')))) ≡ found
  no_test_left as' i found l =
      ap (λ (b : Bool). found || b) (at_drop_all (λ (xs : List code_argument.Argument). list_any is_decimal_test (elaborated_arguments types (arguments_of xs))) as' i l) ∙ or_none found

  -- one part more
  pub one_when : (ws : List code_when.When) (i : ℕ) (w : code_when.When) (found own : Bool) → i < length ws → w ≡ get_or ws i w
      → own ≡ list_any is_decimal_test (elaborated_arguments types (arguments_of w.values))
      → ((found || own) || has_decimal_test types (whens_of (drop (i + 1) ws))) ≡ (found || has_decimal_test types (whens_of (drop i ws)))
  one_when ws i w found own l at e =
      or_assoc found own (has_decimal_test types (whens_of (drop (i + 1) ws)))
      ∙ ap (λ (b : Bool). found || (b || has_decimal_test types (whens_of (drop (i + 1) ws)))) e
      ∙ ap (λ (b : Bool). found || b)
      (sym
      (at_drop_more (λ (xs : List code_when.When). has_decimal_test types (whens_of xs)) ws i w l
      ∙ ap (λ (x : code_when.When). list_any is_decimal_test (elaborated_arguments types (arguments_of x.values)) || has_decimal_test types (whens_of (drop (i + 1) ws))) (sym at)))

  pub no_when_left : (ws : List code_when.When) (i : ℕ) (found : Bool) → length ws ≤ i → (found || has_decimal_test types (whens_of (drop i ws))) ≡ found
  no_when_left ws i found l = ap (λ (b : Bool). found || b) (at_drop_all (λ (xs : List code_when.When). has_decimal_test types (whens_of xs)) ws i l) ∙ or_none found
