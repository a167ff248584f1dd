use Rattle.std.proofs.Common.{refl, arith}
use Rattle.ds2_merge.proofs.TablePlaces.{none_placed, one_placed}
use Rattle.ds2_merge.proofs.next_key.table_places.Goals as goal

pub tables-init : goal.tables-init
tables-init c = none_placed c.args.rows.now c.args.start c.args.end _ _ c.requires.run refl refl

pub tables-preserved : goal.tables-preserved
tables-preserved c =
    one_placed c.args.rows.now c.args.start c.args.end c.tables.table c.tables.place c.end_of_table-place.result c.tables.begins c.tables.ends c.requires.run
    (omega (arith, c.requires.tables.few_tables)) c.tables.invariant c.end_of_table-place.ensures

pub returns : goal.returns
returns c = λ t l. c.tables.invariant.each t (omega (arith, l, c.tables-test.false))
