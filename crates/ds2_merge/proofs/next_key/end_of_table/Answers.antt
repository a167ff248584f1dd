use Rattle.std.proofs.Common.{sym, ◌∙◌, arith}
use Rattle.ds2_merge.proofs.TablePlaces.{own_more}
use Rattle.ds2_merge.proofs.next_key.end_of_table.Goals as goal

pub rows-init : goal.rows-init
rows-init c = (omega arith, c.requires, λ k l m. absurd (omega (arith, l, m)))

pub rows-preserved : goal.rows-preserved
rows-preserved c = (
  omega (arith, c.rows.invariant.0),
  omega (arith, c.rows-test.true),
  own_more c.args.rows.now c.args.table c.args.from c.rows.place c.rows.invariant.2 (sym c.is_of_table.ensures ∙ c.if-not-is_of_table.false),
)

pub returns-then-not-is_of_table : goal.returns-then-not-is_of_table
returns-then-not-is_of_table c = record {
  low = c.rows.invariant.0;
  high = c.rows.invariant.1;
  own = c.rows.invariant.2;
  other = λ l. sym c.is_of_table.ensures ∙ c.if-not-is_of_table.true;
}

pub returns : goal.returns
returns c = record {
  low = c.rows.invariant.0;
  high = c.rows.invariant.1;
  own = c.rows.invariant.2;
  other = λ l. absurd (omega (arith, l, c.rows-test.false));
}
