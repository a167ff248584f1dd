use Rattle.std.proofs.Common.{sym, ◌-◌, arith}
use Rattle.ds2_columns.proofs.TextRuns.{place_of}
use Rattle.ds2_columns.proofs.texts.texts_end.Goals as goal

pub returns-else-count-eq0 : goal.returns-else-count-eq0
returns-else-count-eq0 c =
    sym (place_of 0 c.args.ends.now c.args.count (c.args.count - 1) 0 (omega (arith, c.if-count-eq0.false)) (omega (arith, c.if-count-eq0.false, c.requires)))
