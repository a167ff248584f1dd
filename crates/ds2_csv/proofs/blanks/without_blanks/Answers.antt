use Rattle.ds2_csv.proofs.BlankLemmas.{cut-end}
use Rattle.ds2_csv.proofs.blanks.without_blanks.Goals as goal

pub split_at-requires : goal.split_at-requires
split_at-requires c = rw (← c.as_bytes.ensures.value) (cut-end c.as_bytes.result.now c.text_end.result c.text_end.ensures.within c.text_end.ensures.blank)
