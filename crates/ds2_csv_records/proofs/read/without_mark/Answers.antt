use Rattle.std.proofs.Common.{sym, ◌∙◌, ap}
use Rattle.ds2_csv_records.specs.Cells.{begins_mark}
use Rattle.ds2_csv_records.proofs.Cells.{mark-cut, mark-gone, no-mark}
use Rattle.ds2_csv_records.proofs.read.without_mark.Goals as goal

pub split_at-requires : goal.split_at-requires
split_at-requires c = mark-cut c.args.text.now c.utf8.text (ap begins_mark (sym c.as_bytes.ensures.value) ∙ sym c.begins_mark.ensures ∙ c.if-begins_mark.true)

pub returns-then-begins_mark : goal.returns-then-begins_mark
returns-then-begins_mark c = c.split_at.ensures.back ∙ mark-gone c.args.text.now (ap begins_mark (sym c.as_bytes.ensures.value) ∙ sym c.begins_mark.ensures ∙ c.if-begins_mark.true)

pub returns-else-begins_mark : goal.returns-else-begins_mark
returns-else-begins_mark c = no-mark c.args.text.now (ap begins_mark (sym c.as_bytes.ensures.value) ∙ sym c.begins_mark.ensures ∙ c.if-begins_mark.false)
