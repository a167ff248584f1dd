use Rattle.std.proofs.Common.{◌≡◌, drop}
use Rattle.ds2_statement_emitter.specs.Appending.{with_outputs}
use Rattle.ds2_statement_emitter.proofs.parts.emit_outputs.Given as goal

abbrev pub invariant-outputs : goal.invariant-outputs
invariant-outputs l = with_outputs (drop l.output-index l.outputs) l.code ≡ with_outputs l.outputs l.fn.code
