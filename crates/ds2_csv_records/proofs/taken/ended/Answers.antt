use Rattle.std.proofs.Common.{arith}
use Rattle.ds2_csv_records.specs.Cells.{spelled}
use Rattle.ds2_csv_records.proofs.Cells.{end-cut}
use Rattle.ds2_csv_records.proofs.Reading.{ended-here, ended-mark, some-left}
use Rattle.ds2_csv_records.proofs.taken.ended.Goals as goal

pub returns-then-is_empty-clause-taken : goal.returns-then-is_empty-clause-taken
returns-then-is_empty-clause-taken c cells = ended-here cells (spelled c.args.cell) c.args.behind.now c.is_empty.result c.is_empty.ensures c.if-is_empty.true

pub split_at-requires : goal.split_at-requires
split_at-requires c = let l = some-left c.args.behind.now c.is_empty.result c.is_empty.ensures c.if-is_empty.false in end-cut c.args.behind.now c.utf8.behind c.requires (omega arith)

pub returns-clause-taken : goal.returns-clause-taken
returns-clause-taken c cells =
    ended-mark cells (spelled c.args.cell) c.args.behind.now c.as_bytes.result.now c.split_at.result.1.now c.begins_comma-more.result c.requires
    (some-left c.args.behind.now c.is_empty.result c.is_empty.ensures c.if-is_empty.false) c.as_bytes.ensures.value c.begins_comma-more.ensures c.split_at.ensures.back
