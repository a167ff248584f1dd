use Rattle.std.proofs.Common.{◌++◌, refl, ap}
use Rattle.std.specs.Prelude.{ℕ}
use Rattle.ds2_value.specs.declared.ty.Ty.TheVariants.{Varchar}
use Rattle.ds2_meaning.specs.IsTyped.{expression_type, type_width}
use Rattle.ds2_names.specs.NameRules.{from_each}
use Rattle.ds2_elaboration.specs.FunctionTypes.{argument_refusals}
use Rattle.ds2_elaboration.specs.Typings.{is_integer_type, is_characters, operand_clash}
use Rattle.ds2_types.proofs.Outcomes.{after_one}
use Rattle.ds2_expression_types.proofs.SeveralValues.{front_is_empty, width_known, is_substring}
use Rattle.ds2_expression_types.proofs.choices.substring.Goals as goal

pub returns : goal.returns
returns c = λ e xs h k.
    let name = c.args.name in
    let own = argument_refusals is_characters name e in
    let text = after_one (operand_clash is_characters name) e.value c.args.x c.operand_clash-clash.result c.ruled-text.result h c.operand_clash-clash.ensures c.ruled-text.ensures c.ruled-text.result refl in
    is_substring name e xs c.args.numbers c.substring_of-function.result c.len.result c.of_values.result k c.substring_of-function.ensures c.len.ensures
    (c.of_values.ensures (own ++ from_each (argument_refusals is_integer_type name) xs) _ (Varchar (type_width (expression_type e.value.node)))
    (c.in_ok-all.ensures own _ xs (c.in_ok-first.ensures own e.value.node text) k)
    (λ none. ap (λ (n : ℕ). Varchar n) (width_known c.ruled-text.result own e.value.node c.width_of-n.result text (front_is_empty own (from_each (argument_refusals is_integer_type name) xs) none) c.width_of-n.ensures)))
