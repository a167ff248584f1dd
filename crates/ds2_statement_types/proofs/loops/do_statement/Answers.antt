use Rattle.std.proofs.Common.{◌≡◌, ◌++◌, List, map, sym, ap, ◌∙◌, subst}
use Rattle.ds2_meaning.specs.TypedStatement as t
use Rattle.ds2_meaning.specs.View.{all_statements, typed_statement, typed_statements}
use Rattle.ds2_meaning.specs.declared.statements.Statement.{Statement}
use Rattle.ds2_elaboration.specs.StatementTypes.{do_node}
use Rattle.ds2_types.specs.Judgements.{IsOutcome}
use Rattle.ds2_statement_types.specs.Controls.{IsHeldControl}
use Rattle.ds2_simple_statement_types.proofs.PartOutcomes.{AreBoth, both_stand}
use Rattle.ds2_statement_types.proofs.loops.do_statement.Goals as goal

abbrev AreStatements : List t.TypedStatement → List Statement → Type 0
AreStatements nodes l = map typed_statement l ≡ nodes

pub returns-in-Err : goal.returns-in-Err
returns-in-Err c = λ types k xs ys nodes h i.
    subst (IsOutcome (AreBoth (IsHeldControl types k) (AreStatements nodes)) (xs ++ ys)) c.in-Err.is
    (both_stand (IsHeldControl types k) (AreStatements nodes) xs ys c.args.control c.args.body c.of_both.result h i c.of_both.ensures)

pub returns-in_ok-made-in-Ok : goal.returns-in_ok-made-in-Ok
returns-in_ok-made-in-Ok c = λ types k xs ys nodes h i.
    let so =
    subst (IsOutcome (AreBoth (IsHeldControl types k) (AreStatements nodes)) (xs ++ ys)) c.in-Ok.is
    (both_stand (IsHeldControl types k) (AreStatements nodes) xs ys c.args.control c.args.body c.of_both.result h i c.of_both.ensures) in (
      so.0,
      c.in_ok-made-in-Ok.ensures ∙ c.loop_node.ensures ∙ so.1.0 c.args.place (typed_statements c.in-Ok.parts.second)
          ∙ ap (λ (l : List t.TypedStatement). do_node types c.args.place k (all_statements l)) so.1.1,
    )
