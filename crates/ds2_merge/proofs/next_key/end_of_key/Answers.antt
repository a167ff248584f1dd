use Rattle.std.proofs.Common.{arith}
use Rattle.ds2_merge.proofs.KeyWalk.{one_row, ends_with_none, ends_before, goes_on}
use Rattle.ds2_merge.proofs.next_key.end_of_key.Goals as goal

pub rows-init : goal.rows-init
rows-init c = one_row c.args.rows.now c.args.start c.requires.there

pub rows-preserved : goal.rows-preserved
rows-preserved c =
    goes_on c.args.rows.now c.args.start c.rows.end c.requires.tables.keys c.rows.invariant (omega (arith, c.rows-test.true, c.len-count.ensures.value))
    (omega (arith, c.if-common_at-bys.false, c.common_at.ensures, c.bys-bys.ensures))

pub returns-then-common_at-bys : goal.returns-then-common_at-bys
returns-then-common_at-bys c =
    ends_before c.args.rows.now c.args.start c.rows.end c.requires.tables.keys c.rows.invariant (omega (arith, c.rows-test.true, c.len-count.ensures.value))
    (omega (arith, c.if-common_at-bys.true, c.common_at.ensures, c.bys-bys.ensures))

pub returns : goal.returns
returns c = ends_with_none c.args.rows.now c.args.start c.rows.end c.requires.tables.keys c.rows.invariant (omega (arith, c.rows-test.false, c.len-count.ensures.value))
