use Rattle.std.proofs.Common.{◌≡◌, drop}
use Rattle.ds2_statement_emitter.specs.BodyWords.{with_locals}
use Rattle.ds2_statement_emitter.proofs.bodies.emit_locals.Given as goal

abbrev pub invariant-locals : goal.invariant-locals
invariant-locals g l = with_locals (g.N.Numbering.numbers l.names) (drop l.local-index l.locals) l.code ≡ with_locals (g.N.Numbering.numbers l.names) l.locals l.fn.code
