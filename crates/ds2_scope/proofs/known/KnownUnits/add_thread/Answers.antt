use Rattle.std.proofs.Common.{refl, arith}
use Rattle.std.proofs.lemmas.Grind.{common_steps}
use Rattle.ds2_scope.proofs.KnownLemmas.{thread_added}
use Rattle.ds2_scope.proofs.known.KnownUnits.add_thread.Goals as goal

pub returns : goal.returns
returns c = λ known t h named kept.
    thread_added c.args.self.now _ known t c.args.name c.args.thread h named kept (λ other. c.in_ok-insert.ensures.updates.0 other) refl (grind (arith, common_steps)) refl
