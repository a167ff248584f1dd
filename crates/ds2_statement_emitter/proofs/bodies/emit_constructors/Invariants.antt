use Rattle.std.proofs.Common.{◌≡◌, drop}
use Rattle.ds2_meaning.specs.TypedStatement.{TypedStatements}
use Rattle.ds2_meaning.specs.View.{constructors_first}
use Rattle.ds2_statement_emitter.specs.Appending.{with_statements}
use Rattle.ds2_statement_emitter.specs.Marks.{marked_exits}
use Rattle.ds2_statement_emitter.proofs.bodies.emit_constructors.Given as goal

abbrev pub invariant-instances : goal.invariant-instances
invariant-instances g l =
    (rest : TypedStatements)
    → with_statements (g.N.Numbering.numbers l.names) 0 (marked_exits (g.N.Numbering.way l.names)) (constructors_first (drop l.instance-index l.instances) rest) l.code
    ≡ with_statements (g.N.Numbering.numbers l.names) 0 (marked_exits (g.N.Numbering.way l.names)) (constructors_first l.instances rest) l.fn.code
