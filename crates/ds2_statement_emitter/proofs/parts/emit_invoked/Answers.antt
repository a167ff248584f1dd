use Rattle.std.proofs.Common.{ap}
use Rattle.ds2_meaning.specs.View.{call_tree}
use Rattle.ds2_emitter.proofs.Appended.{on_ok}
use Rattle.ds2_statement_emitter.proofs.PartRuns.{invoked_added}
use Rattle.ds2_statement_emitter.proofs.StatementTrees.{call_is}
use Rattle.ds2_statement_emitter.proofs.parts.emit_invoked.Goals as goal

pub returns : goal.returns
returns g c =
    on_ok c.emit_dropped.result c.emit_dropped.ensures
    (λ e. cc (e, invoked_added (g.N.Numbering.numbers c.args.names.now) (call_tree c.args.call.now) c.args.code.now, c.in_ok-emit_call.ensures, c.has_result.ensures, ap (λ x. x.instance) (call_is c.args.call.now), ap (λ x. x.method) (call_is c.args.call.now)))
