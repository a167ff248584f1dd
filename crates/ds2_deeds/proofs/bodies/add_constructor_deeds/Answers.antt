use Rattle.std.proofs.Common.{List, map, Some, None, sym}
use Rattle.std.proofs.lemmas.Result.{on_ok_weaker}
use Rattle.ds2_meaning.specs.declared.expressions.Argument as code_argument
use Rattle.ds2_meaning.specs.TypedExpression.{NoArgument}
use Rattle.ds2_meaning.specs.View.{in_a_row, argument_tree}
use Rattle.ds2_locality.specs.Deeds.{argument_deeds}
use Rattle.ds2_deeds.specs.CodeTrees.{scope_of}
use Rattle.ds2_deeds.specs.NumberedDeeds.{numbers_of}
use Rattle.ds2_deeds.proofs.DeedLemmas.{none_added, equal_added, two_added}
use Rattle.ds2_deeds.proofs.BodyLemmas.{constructor_done}
use Rattle.ds2_deeds.proofs.bodies.add_constructor_deeds.Goals as goal

pub returns-in-None : goal.returns-in-None
returns-in-None c rest =
    let n = numbers_of c.args.numbers in
    constructor_done n (scope_of c.args.scope.now) c.args.instance.now None rest _ _ c.in-None.is (sym (none_added n c.args.deeds.now))

pub returns-in_ok-add_arguments_deeds-in-Some : goal.returns-in_ok-add_arguments_deeds-in-Some
returns-in_ok-add_arguments_deeds-in-Some c rest =
    let n = numbers_of c.args.numbers in
    let s = scope_of c.args.scope.now in
    let first = equal_added n (λ (l : List code_argument.Argument). argument_deeds s (in_a_row (map argument_tree l) NoArgument)) _ _ _ _ c.as_slice.ensures c.in_ok-add_arguments_deeds-in-Some.ensures in
    on_ok_weaker c.add_call.result (λ e. constructor_done n s c.args.instance.now (Some c.in-Some.number) rest _ _ c.in-Some.is (two_added n _ _ _ _ _ first e)) c.add_call.ensures
