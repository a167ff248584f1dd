use Rattle.std.proofs.Common.{◌-◌, ◌∙◌, length, take}
use Rattle.ds2_commands.proofs.FileReads.{source_ends}
use Rattle.ds2_commands.proofs.storing.object_name.Goals as goal

pub unreachable-requires : goal.unreachable-requires
unreachable-requires c = c.in-None.ensures.cases (take (length c.args.source.now - 4) c.args.source.now) (c.as_str.ensures ∙ source_ends c.args.source.now c.requires)
