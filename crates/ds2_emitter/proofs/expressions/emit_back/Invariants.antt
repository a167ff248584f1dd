use Rattle.std.proofs.Common.{◌≡◌, ◌≤◌, length, map, drop}
use Rattle.ds2_meaning.specs.TypedExpression.{NoArgument}
use Rattle.ds2_meaning.specs.View.{in_a_row, argument_tree}
use Rattle.ds2_emitter.specs.Emit.{with_back}
use Rattle.ds2_emitter.proofs.expressions.emit_back.Given as goal

abbrev pub invariant-arguments : goal.invariant-arguments
invariant-arguments g l = (l.i ≤ length l.arguments) × (l.code ≡ with_back (g.N.Numbering.numbers l.names) (in_a_row (map argument_tree (drop l.i l.arguments)) NoArgument) l.fn.code)

abbrev pub decreases-arguments : goal.decreases-arguments
decreases-arguments g l = l.i
