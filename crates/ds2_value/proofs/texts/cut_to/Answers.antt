use Rattle.std.proofs.Common.{◌∙◌}
use Rattle.ds2_value.proofs.CutLemmas.{cut-short, after-le, cut-boundary, take-cut}
use Rattle.ds2_value.proofs.texts.cut_to.Goals as goal

pub returns-then-s-n : goal.returns-then-s-n
returns-then-s-n c = cut-short c.args.n c.args.s.now c.utf8.s c.if-s-n.true

pub overflow_sub-kept : goal.overflow_sub-kept
overflow_sub-kept c = rw c.after_characters.ensures (after-le c.args.n c.args.s.now c.utf8.s)

pub split_at-requires : goal.split_at-requires
split_at-requires c = rw c.after_characters.ensures (cut-boundary c.args.n c.args.s.now c.utf8.s)

pub returns : goal.returns
returns c = c.split_at.ensures.front ∙ rw c.after_characters.ensures (take-cut c.args.n c.args.s.now c.utf8.s)
