use Rattle.std.proofs.Common.{◌≡◌, map, drop}
use Rattle.ds2_meaning.specs.IsTyped.{chain_type}
use Rattle.ds2_meaning.specs.TypedExpression.{NoLink, NoArgument}
use Rattle.ds2_meaning.specs.View.{in_a_row, all_expressions, typed_expression, link_tree, argument_tree}
use Rattle.ds2_emitter.specs.Emit.{with_expressions, with_links, with_arguments}
use Rattle.ds2_emitter.proofs.expressions.+emit.Given as goal

abbrev pub invariant-emit_links-links : goal.invariant-emit_links-links
invariant-emit_links-links g l =
    (with_links (g.N.Numbering.numbers l.names) l.ty (in_a_row (map link_tree (drop l.link-index l.links)) NoLink) l.code ≡ with_links (g.N.Numbering.numbers l.names) l.fn.first (in_a_row (map link_tree l.links) NoLink) l.fn.code)
    × (chain_type l.ty (in_a_row (map link_tree (drop l.link-index l.links)) NoLink) ≡ chain_type l.fn.first (in_a_row (map link_tree l.links) NoLink))

abbrev pub invariant-emit_expressions-expressions : goal.invariant-emit_expressions-expressions
invariant-emit_expressions-expressions g l =
    with_expressions (g.N.Numbering.numbers l.names) (all_expressions (map typed_expression (drop l.e-index l.expressions))) l.code ≡ with_expressions (g.N.Numbering.numbers l.names) (all_expressions (map typed_expression l.expressions)) l.fn.code

abbrev pub invariant-emit_arguments-arguments : goal.invariant-emit_arguments-arguments
invariant-emit_arguments-arguments g l =
    with_arguments (g.N.Numbering.numbers l.names) (in_a_row (map argument_tree (drop l.argument-index l.arguments)) NoArgument) l.code ≡ with_arguments (g.N.Numbering.numbers l.names) (in_a_row (map argument_tree l.arguments) NoArgument) l.fn.code
