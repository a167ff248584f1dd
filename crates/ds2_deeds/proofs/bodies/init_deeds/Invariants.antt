use Rattle.std.proofs.Common.{◌≡◌, [], drop}
use Rattle.ds2_meaning.specs.TypedStatement.{TypedStatements}
use Rattle.ds2_meaning.specs.View.{constructors_first}
use Rattle.ds2_locality.specs.Deeds.{system_scope, body_deeds}
use Rattle.ds2_deeds.specs.CodeTrees.{nameless_tree}
use Rattle.ds2_deeds.specs.NumberedDeeds.{numbers_of, with_deeds}
use Rattle.ds2_deeds.proofs.bodies.init_deeds.Given as goal

abbrev pub invariant-instances : goal.invariant-instances
invariant-instances l =
    (rest : TypedStatements)
    → with_deeds (numbers_of l.numbers) (body_deeds (system_scope (nameless_tree l.program)) (constructors_first (drop l.instance-index l.instance-items) rest)) l.deeds
    ≡ with_deeds (numbers_of l.numbers) (body_deeds (system_scope (nameless_tree l.program)) (constructors_first l.program.instances rest)) []
