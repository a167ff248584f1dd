use Rattle.std.proofs.Common.{arith}
use Rattle.ds2_answer.proofs.Draws.{all_sold, one_sold, sold_fits}
use Rattle.ds2_answer.proofs.sales_table.sales.Goals as goal

pub push-requires : goal.push-requires
push-requires c = sold_fits c.args.n c.sales.row c.next_drawn-first.result c.next_drawn-second.result c.sales.table c.in_ok-sale_of.field-0 c.in_ok-sale_of.ensures c.sales.invariant.table_is

pub sales-preserved : goal.sales-preserved
sales-preserved c =
    one_sold c.args.n c.sales.row c.sales.number c.next_drawn-first.result c.next_drawn-second.result c.sales.table c.push.new.self c.in_ok-sale_of.field-0 c.sales.invariant
    c.next_drawn-first.ensures.value c.next_drawn-second.ensures.value c.next_drawn-second.ensures.small c.in_ok-sale_of.ensures c.in_ok-push.ensures.ok

pub returns : goal.returns
returns c = all_sold c.args.n c.sales.row c.sales.number c.sales.table c.sales.invariant (omega arith)
