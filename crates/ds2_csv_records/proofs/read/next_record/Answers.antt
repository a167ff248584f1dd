use Rattle.std.proofs.Common.{◌++◌, ◌∷◌, [], length}
use Rattle.ds2_csv_records.specs.Cells.{spelled}
use Rattle.ds2_csv_records.proofs.Reading.{still-left, holds-none}
use Rattle.ds2_csv_records.proofs.read.next_record.Goals as goal

pub cells-init : goal.cells-init
cells-init c = ([], rw c.truncate.ensures (holds-none c.args.most), c.in-Some.ensures)

pub cells-preserved : goal.cells-preserved
cells-preserved c =
    let inv = c.cells.invariant in (
      inv.0 ++ (spelled c.cells.taken.cell ∷ []),
      c.in_ok-add.ensures inv.0 inv.1,
      c.next-taken.ensures.within c.args.text.now inv.0 inv.2,
    )

pub cells-smaller : goal.cells-smaller
cells-smaller c = still-left c.cells.taken.more c.next-taken.result.more (length c.cells.taken.rest.now) (length c.next-taken.result.rest.now) c.cells-test.true c.next-taken.ensures.shorter

pub returns : goal.returns
returns c =
    let inv = c.cells.invariant in
    (inv.0 ++ (spelled c.cells.taken.cell ∷ []), c.behind.ensures c.args.text.now inv.0 inv.2, c.in_ok-add-2.ensures inv.0 inv.1)
