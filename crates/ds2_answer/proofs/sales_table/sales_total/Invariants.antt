use Rattle.ds2_answer.proofs.Amounts.{HaveAdded}
use Rattle.ds2_answer.proofs.sales_table.sales_total.Given as goal

abbrev pub invariant-sales : goal.invariant-sales
invariant-sales l = HaveAdded l.fn.n l.row l.number l.hundredths
