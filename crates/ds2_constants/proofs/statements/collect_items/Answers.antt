use Rattle.std.proofs.lemmas.Grind.{common_steps}
use Rattle.std.proofs.Common.{arith}
use Rattle.ds2_constants.proofs.Collected.{none_used}
use Rattle.ds2_constants.proofs.statements.collect_items.Goals as goal

pub returns : goal.returns
returns c = grind (arith, common_steps, none_used c.items.table, c.items.invariant)
