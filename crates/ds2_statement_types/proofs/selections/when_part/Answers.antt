use Rattle.std.proofs.Common.{◌≡◌, ◌++◌, List, map, Box, Global, ap, ◌∙◌, subst}
use Rattle.ds2_meaning.specs.TypedExpression.{TypedExpression}
use Rattle.ds2_meaning.specs.TypedStatement as t
use Rattle.ds2_meaning.specs.View.{Part, all_expressions, typed_expression}
use Rattle.ds2_meaning.specs.declared.expressions.Expression.{Expression}
use Rattle.ds2_meaning.specs.declared.statements.Statement.{Statement}
use Rattle.ds2_types.specs.Judgements.{IsOutcome}
use Rattle.ds2_simple_statement_types.specs.StatementOutcomes.{boxed_tree}
use Rattle.ds2_simple_statement_types.proofs.PartOutcomes.{AreBoth, both_stand}
use Rattle.ds2_statement_types.proofs.selections.when_part.Goals as goal

abbrev AreTests : List TypedExpression → List Expression → Type 0
AreTests nodes es = map typed_expression es ≡ nodes

abbrev IsBody : t.TypedStatement → Box Statement Global → Type 0
IsBody node b = boxed_tree b ≡ node

pub returns-in-Err : goal.returns-in-Err
returns-in-Err c = λ xs ys nodes node h k.
    subst (IsOutcome (AreBoth (AreTests nodes) (IsBody node)) (xs ++ ys)) c.in-Err.is
    (both_stand (AreTests nodes) (IsBody node) xs ys c.args.tests c.args.statement c.of_both.result h k c.of_both.ensures)

pub returns-in-Ok : goal.returns-in-Ok
returns-in-Ok c = λ xs ys nodes node h k.
    let so =
    subst (IsOutcome (AreBoth (AreTests nodes) (IsBody node)) (xs ++ ys)) c.in-Ok.is
    (both_stand (AreTests nodes) (IsBody node) xs ys c.args.tests c.args.statement c.of_both.result h k c.of_both.ensures) in (
      so.0,
      c.when_node.ensures
          ∙ ap {B = Part t.TypedWhens} (λ (l : List TypedExpression) (rest : t.TypedWhens). t.When (all_expressions l) (boxed_tree c.in-Ok.part.second) rest) so.1.0
          ∙ ap {B = Part t.TypedWhens} (λ (n : t.TypedStatement) (rest : t.TypedWhens). t.When (all_expressions nodes) n rest) so.1.1,
    )
