use Rattle.std.proofs.Common.{length, refl, ◌∙◌, arith}
use Rattle.std.specs.Prelude.{slice_get}
use Rattle.ds2_table.specs.Loads.{rows_with_key, input_rows}
use Rattle.std.proofs.lemmas.List.{length-set}
use Rattle.ds2_merge.specs.KeyPlaces.{key_at}
use Rattle.ds2_merge.proofs.LoadMeans.{one_more_read, rows_read}
use Rattle.ds2_merge.proofs.key_load.rows_of_load.Goals as goal

pub tables-preserved : goal.tables-preserved
tables-preserved c = (
  length-set c.tables.numbers c.tables.table c.row_of_table.result ∙ c.tables.invariant.0,
  one_more_read (λ t. slice_get (rows_with_key t (key_at c.args.rows.now c.args.place.now.start) (input_rows 0 c.args.rows.now.tables)) c.args.key.now.given) c.tables.numbers _ c.tables.table
      c.row_of_table.result refl (omega (arith, c.tables.invariant.0, c.requires.here.tables.few_tables)) c.row_of_table.ensures c.tables.invariant.1,
)

pub returns : goal.returns
returns c =
    rows_read (length c.args.rows.now.tables) (key_at c.args.rows.now c.args.place.now.start) (input_rows 0 c.args.rows.now.tables) c.tables.numbers c.args.key.now.given
    (omega (arith, c.requires.here.tables.few_tables, c.tables.invariant.0)) (λ t l. c.tables.invariant.1 t (omega (arith, l)))
