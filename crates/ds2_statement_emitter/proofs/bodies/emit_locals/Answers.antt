use Rattle.std.proofs.Common.{◌+◌, drop, arith}
use Rattle.std.proofs.lemmas.Grind.{common_steps}
use Rattle.ds2_statement_emitter.proofs.BodyRuns.{no_local_added, local_added}
use Rattle.ds2_statement_emitter.proofs.bodies.emit_locals.Goals as goal

pub locals-preserved : goal.locals-preserved
locals-preserved g c =
    let k = local_added (g.N.Numbering.numbers c.args.names.now) c.local-item.result (drop (c.locals.local-index + 1) c.args.locals.now) c.locals.code in
    grind (arith, common_steps, k, c.in_ok-emit_all.ensures, c.in_ok-store.ensures, c.locals.invariant)

pub returns : goal.returns
returns g c = grind (arith, common_steps, no_local_added (g.N.Numbering.numbers c.args.names.now) c.locals.code, c.locals.invariant)
