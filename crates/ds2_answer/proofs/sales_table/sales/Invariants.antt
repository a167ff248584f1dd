use Rattle.ds2_answer.proofs.Draws.{HaveSold}
use Rattle.ds2_answer.proofs.sales_table.sales.Given as goal

abbrev pub invariant-sales : goal.invariant-sales
invariant-sales l = HaveSold l.fn.n l.row l.number l.table
