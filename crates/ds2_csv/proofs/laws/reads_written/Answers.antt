use Rattle.ds2_csv.proofs.LawTables.{tables-read, writable}
use Rattle.ds2_csv.proofs.laws.reads_written.Goals as goal

pub returns : goal.returns
returns c =
    tables-read c.reads_cells.ensures.values c.reads_cells.ensures.texts c.reads_types.ensures c.reads_records.ensures c.args.table.now
    (writable c.fitting_is_held.ensures c.args.table.now c.is_table.ensures c.requires)
