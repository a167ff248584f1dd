use Rattle.std.proofs.Common.{◌++◌, subst}
use Rattle.ds2_types.specs.Judgements.{IsOutcome}
use Rattle.ds2_statement_types.proofs.CountForms.{AreCounted, count_stands, same_count}
use Rattle.ds2_statement_types.proofs.counts.count_of.Goals as goal

pub returns-in-Err : goal.returns-in-Err
returns-in-Err c = λ vs xs ys zs r a b by h i j k.
    subst (IsOutcome (AreCounted r a b by) (vs ++ xs ++ ys ++ zs)) c.in-Err.is
    (count_stands r a b by vs xs ys zs c.args.variable c.args.start c.args.stop c.args.step c.of_both.result c.of_both-2.result c.of_both-3.result h i j k c.of_both.ensures c.of_both-2.ensures c.of_both-3.ensures)

pub returns-in-Ok : goal.returns-in-Ok
returns-in-Ok c = λ vs xs ys zs r a b by h i j k.
    let so =
    subst (IsOutcome (AreCounted r a b by) (vs ++ xs ++ ys ++ zs)) c.in-Ok.is
    (count_stands r a b by vs xs ys zs c.args.variable c.args.start c.args.stop c.args.step c.of_both.result c.of_both-2.result c.of_both-3.result h i j k c.of_both.ensures c.of_both-2.ensures c.of_both-3.ensures) in
    (so.0, same_count r a b by c.in-Ok.parts c.count_parts.result c.count_parts.ensures so.1)
