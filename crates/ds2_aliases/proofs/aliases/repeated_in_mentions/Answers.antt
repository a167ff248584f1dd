use Rattle.std.proofs.Common.{◌+◌, drop, arith}
use Rattle.std.proofs.lemmas.Grind.{common_steps}
use Rattle.ds2_scope.proofs.CollectedLemmas.{one_more_item}
use Rattle.ds2_aliases.specs.HandedGlobals.{repeated_in_mention}
use Rattle.ds2_aliases.proofs.aliases.repeated_in_mentions.Goals as goal

pub mentions-preserved : goal.mentions-preserved
mentions-preserved c =
    let k = one_more_item repeated_in_mention c.mentions.found c.mention-item.result (drop (c.mentions.mention-index + 1) c.args.mentions.now) in
    grind (arith, common_steps, k, c.mentions.invariant)
