use Rattle.std.proofs.Common.{◌∙◌}
use Rattle.ds2_base.proofs.ShortTexts.{blank_more}
use Rattle.ds2_base.proofs.text.Text.filled.Goals as goal

pub blanks-preserved : goal.blanks-preserved
unfolding lib.Utf8.encode
blanks-preserved c = c.in_ok-push.ensures.bytes ∙ blank_more _ c.args.s.now c.blanks.i c.blanks.invariant
