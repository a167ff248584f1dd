use Rattle.ds2_meaning.specs.View.{constructors_first, typed_statements}
use Rattle.ds2_emitter.proofs.Appended.{on_ok}
use Rattle.ds2_statement_emitter.proofs.BodyRuns.{system_whole}
use Rattle.ds2_statement_emitter.proofs.bodies.emit_system.Goals as goal

pub returns : goal.returns
returns g c =
    let n = g.N.Numbering.numbers c.args.names.now in
    let way = g.N.Numbering.way c.args.names.now in
    let body = typed_statements c.args.body.now in
    on_ok c.emit.result c.emit.ensures
    (λ e. system_whole n c.args.locals.now (constructors_first c.args.instances.now body) body c.args.written.now way c.args.code.now _ _ _ _ _ _ _ c.requires
    c.in_ok-emit_locals.ensures c.len-start.ensures (c.in_ok-emit_constructors.ensures body) c.in_ok-emit_statements.ensures.code c.in_ok-end_body.ensures.code c.in_ok-end_body.ensures.small
    c.in_ok-emit_outputs.ensures e)
