use Rattle.std.proofs.Common.{arith}
use Rattle.ds2_answer.proofs.Amounts.{all_added, one_added}
use Rattle.ds2_answer.proofs.sales_table.sales_total.Goals as goal

pub sales-preserved : goal.sales-preserved
sales-preserved c =
    one_added c.args.n c.sales.row c.sales.number c.next_drawn.result c.next_drawn-second.result c.sales.hundredths c.hundredths_of-hundredths.result c.sales.invariant
    c.next_drawn.ensures.value c.next_drawn-second.ensures.value c.next_drawn-second.ensures.small c.hundredths_of-hundredths.ensures.value c.hundredths_of-hundredths.ensures.small

pub returns : goal.returns
returns c = all_added c.args.n c.sales.row c.sales.number c.sales.hundredths c.in_hundredths.result c.sales.invariant (omega arith) c.in_hundredths.ensures
