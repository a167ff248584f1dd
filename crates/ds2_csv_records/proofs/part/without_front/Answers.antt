use Rattle.ds2_csv_records.proofs.Cells.{lines-cut}
use Rattle.ds2_csv_records.proofs.part.without_front.Goals as goal

pub split_at-requires : goal.split_at-requires
split_at-requires c = rw (← c.as_bytes.ensures.value) (lines-cut c.as_bytes.result.now c.front_len.result c.as_bytes.ensures.utf8 c.front_len.ensures.within c.front_len.ensures.ascii)
