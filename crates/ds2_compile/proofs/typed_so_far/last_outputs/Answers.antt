use Rattle.std.proofs.Common.{sym, ◌∙◌}
use Rattle.ds2_compile.proofs.SourceSteps.{last_is}
use Rattle.ds2_compile.proofs.typed_so_far.last_outputs.Goals as goal

pub returns-in-len1-up : goal.returns-in-len1-up
returns-in-len1-up c = c.as_slice.ensures ∙ sym (last_is c.args.typed.now c.last-item.result c.last-item.result c.in-len1-up.len_at_least c.last-item.is)
