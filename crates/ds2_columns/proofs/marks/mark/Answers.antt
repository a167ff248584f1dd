use Rattle.std.proofs.Common.{◌<◌, Bool, List, sym, ap, subst, length, arith, length-append}
use Rattle.std.specs.Prelude.{false, [], ◌∷◌}
use Rattle.ds2_columns.specs.Marks.{SayTheSame}
use Rattle.ds2_columns.proofs.NullMarks.{one_more}
use Rattle.ds2_columns.proofs.marks.mark.Goals as goal

pub rows-preserved : goal.rows-preserved
rows-preserved c =
    let fewer : length c.rows.marks < c.args.row = omega (arith, c.rows-test.true, c.len.ensures) in (
      omega (arith, fewer, ap (λ (ms : List Bool). length ms) c.in_ok-push.ensures.ok, length-append c.rows.marks (false ∷ [])),
      subst (λ (ms : List Bool). SayTheSame c.args.row c.args.marks.now ms) (sym c.in_ok-push.ensures.ok) (one_more c.args.row c.args.marks.now c.rows.marks c.rows.invariant.1 fewer),
    )
