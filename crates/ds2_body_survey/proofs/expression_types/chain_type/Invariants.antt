use Rattle.std.proofs.Common.{◌≡◌, map, drop}
use Rattle.ds2_meaning.specs.IsTyped.{chain_type}
use Rattle.ds2_meaning.specs.TypedExpression.{NoLink}
use Rattle.ds2_meaning.specs.View.{in_a_row, link_tree}
use Rattle.ds2_body_survey.proofs.expression_types.chain_type.Given as goal

abbrev pub invariant-links : goal.invariant-links
invariant-links l = chain_type l.ty (in_a_row (map link_tree (drop l.link-index l.links)) NoLink) ≡ chain_type l.fn.first (in_a_row (map link_tree l.links) NoLink)
