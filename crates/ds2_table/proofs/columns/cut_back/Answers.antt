use Rattle.std.proofs.Common.{arith}
use Rattle.ds2_columns.specs.Columns.{first_values}
use Rattle.ds2_table.proofs.Across.{cut_more}
use Rattle.ds2_table.proofs.columns.cut_back.Goals as goal

pub columns-preserved : goal.columns-preserved
columns-preserved c =
    cut_more (first_values c.args.count) c.columns.i c.args.columns.now.items c.columns.columns.items c.index_mut.result.now c.truncate.new.self
    c.columns.invariant c.index_mut.ensures.value c.truncate.ensures (omega (arith, c.columns-test.true, c.len-i-end.ensures, c.args.columns.now.ok))
