-- The rules of the tests of a `select`, as the code holds them.
use Rattle.std.specs.Prelude.{◌≡◌, Bool, ◌++◌, Option, Some, None}
use Rattle.std.specs.Option.{option_map}
use Rattle.ds2_base.specs.declared.place.Place.{Place}
use Rattle.ds2_tree.specs.Statements as s
use Rattle.ds2_meaning.specs.TypedExpression.{TypedExpression}
use Rattle.ds2_meaning.specs.TypedStatement as t
use Rattle.ds2_elaboration.specs.ExpressionTypes.{TypeScope, elaborated}
use Rattle.ds2_elaboration.specs.FunctionTypes.{ElaboratedArgument}
use Rattle.ds2_elaboration.specs.StatementTypes.{condition_test_refusals, value_test_refusals, selected_node, selects_decimals}
use Rattle.ds2_elaboration.specs.Typings.{TypeRefusals, Typing, clash_unless, are_comparable, where_both_known, null_clash}
use Rattle.ds2_types.specs.Judgements.{typing_of}
use Rattle.ds2_types.specs.declared.judgement.Typing as code_typing
use Rattle.ds2_statement_types.specs.declared.when_tests.TestRule.{TestRule}

-- a value that is compared with another one, of both of which this is known, without what is broken in it
abbrev pub value_clash : Typing → Place → Typing → TypeRefusals
value_clash selected place own = null_clash own ++ where_both_known selected own (λ a b. clash_unless (are_comparable a b) place)

-- the rule of a test: of a condition, or of a value that is compared with one of which this is known
abbrev pub test_rule : Option code_typing.Typing → ElaboratedArgument → TypeRefusals
test_rule None x = condition_test_refusals x
test_rule (Some typing) x = value_test_refusals (typing_of typing) x

-- what is known of the value of a `select`, where it has one
abbrev pub selector_typing : TypeScope → Option s.Selector → Option Typing
selector_typing types selector = option_map (λ (x : s.Selector). (elaborated types x.value).typing) selector

-- the code holds what the tests of a `select` are looked at by
pub record IsTestRule (types : TypeScope) (selector : Option s.Selector) (whens : s.Whens) (rule : TestRule) : Type 0 where
  pub beside : option_map typing_of rule.beside ≡ selector_typing types selector
  pub decimals : rule.decimals ≡ selects_decimals types selector whens

-- the value of a `select`, where it has one, widened where decimals are compared
abbrev pub selector_node : TypeScope → Bool → Option s.Selector → Option TypedExpression
selector_node types decimals selector = option_map (λ (x : s.Selector). selected_node types decimals (elaborated types x.value).node) selector

-- a `select` with its value, where it has one, and its parts
abbrev pub select_form : Place → Option TypedExpression → t.TypedWhens → t.TypedStatement
select_form place None whens = t.Select place whens
select_form place (Some value) whens = t.SelectValue place value whens
