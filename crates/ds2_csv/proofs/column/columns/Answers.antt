use Rattle.std.proofs.Common.{◌≡◌, refl}
use Rattle.ds2_csv.specs.Columns.{column_of, cells_of}
use Rattle.ds2_csv.proofs.ColumnLemmas.{columns-took, columns-ended}
use Rattle.ds2_csv.proofs.column.columns.Goals as goal

pub headings-preserved : goal.headings-preserved
headings-preserved c rows a =
    let type = c.column_type-ty.ensures (cells_of c.headings.i rows) (a c.headings.i c.item-seen.result c.item-seen.ensures) in
    let column : record { name = c.in_ok-name.name; ty = c.column_type-ty.result } ≡ column_of c.index-headings-i.result (cells_of c.headings.i rows) = rw (c.in_ok-name.ensures, type) refl in
    columns-took c.headings.columns c.push.new.self _ c.args.headings.now c.headings.i c.index-headings-i.result rows _ c.headings-test.true c.index-headings-i.is column c.in_ok-push.ensures.ok (c.headings.invariant rows a)

pub returns : goal.returns
returns c rows a = columns-ended _ _ c.args.headings.now c.headings.i rows c.headings-test.false (c.headings.invariant rows a)
