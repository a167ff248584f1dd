use Rattle.std.proofs.Common.{ℕ, List, Option, map, ap, ◌∙◌, subst}
use Rattle.std.specs.Option.{option_copied}
use Rattle.ds2_meaning.specs.TypedExpression.{TypedArguments, NoArgument}
use Rattle.ds2_meaning.specs.TypedStatement.{Invoke}
use Rattle.ds2_meaning.specs.View.{in_a_row, argument_tree}
use Rattle.ds2_reference_types.specs.Passing.{AreAllPassed}
use Rattle.ds2_simple_statement_types.proofs.calls.invoked.Goals as goal

pub returns-in-Err : goal.returns-in-Err
returns-in-Err c = λ a h. subst (AreAllPassed a) c.in-Err.is h

pub returns-in_ok-made-in-Ok : goal.returns-in_ok-made-in-Ok
returns-in_ok-made-in-Ok c = λ a h.
    let so = subst (AreAllPassed a) c.in-Ok.is h in (
      so.0,
      c.in_ok-made-in-Ok.ensures ∙ c.invoke_node.ensures
          ∙ ap (λ (i : Option (List ℕ)). Invoke c.args.place i c.args.number (in_a_row (map argument_tree c.in-Ok.arguments) NoArgument)) c.in_ok-own-in-Ok.ensures
          ∙ ap (λ (l : TypedArguments). Invoke c.args.place (option_copied c.args.instance) c.args.number l) so.1,
    )
