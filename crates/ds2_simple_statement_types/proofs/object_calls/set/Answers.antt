use Rattle.std.proofs.Common.{ℕ, List, map, ap, ◌∙◌, subst}
use Rattle.ds2_meaning.specs.TypedStatement.{ParameterValue, SetParameters}
use Rattle.ds2_meaning.specs.View.{parameter_tree}
use Rattle.ds2_simple_statement_types.specs.StatementOutcomes.{AreTypedAs}
use Rattle.ds2_simple_statement_types.proofs.object_calls.set.Goals as goal

pub returns-in-Err : goal.returns-in-Err
returns-in-Err c = λ refusals all h. subst (AreTypedAs parameter_tree refusals all) c.in-Err.is h

pub returns-in_ok-made-in-Ok : goal.returns-in_ok-made-in-Ok
returns-in_ok-made-in-Ok c = λ refusals all h.
    let so = subst (AreTypedAs parameter_tree refusals all) c.in-Ok.is h in (
      so.0,
      c.in_ok-made-in-Ok.ensures ∙ c.set_node.ensures ∙ ap (λ (n : List ℕ). SetParameters c.args.place n (map parameter_tree c.in-Ok.values)) c.in_ok-own-in-Ok.ensures
          ∙ ap (λ (l : List ParameterValue). SetParameters c.args.place c.args.instance.now l) so.1,
    )
