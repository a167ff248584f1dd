use Rattle.std.proofs.Common.{sym, ◌∙◌}
use Rattle.ds2_declared_types.proofs.ThreadTrees.{parameters_are}
use Rattle.ds2_declared_types.proofs.known.parameters_of.Goals as goal

pub returns : goal.returns
returns c = c.as_slice.ensures ∙ sym (parameters_are c.args.thread.now)
