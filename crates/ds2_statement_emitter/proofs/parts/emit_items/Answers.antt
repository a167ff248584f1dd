use Rattle.std.proofs.Common.{arith}
use Rattle.std.proofs.lemmas.Grind.{common_steps}
use Rattle.ds2_statement_emitter.proofs.PartRuns.{no_item_added}
use Rattle.ds2_statement_emitter.proofs.parts.emit_items.Goals as goal

pub returns : goal.returns
returns g c = grind (arith, common_steps, no_item_added (g.N.Numbering.numbers c.args.names.now) c.items.code, c.items.invariant)
