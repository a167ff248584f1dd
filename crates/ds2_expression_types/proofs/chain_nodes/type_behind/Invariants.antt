use Rattle.std.specs.Prelude.{◌≡◌, length, map}
use Rattle.ds2_meaning.specs.IsTyped.{chain_type}
use Rattle.ds2_expression_types.specs.ChainLinks.{links_in_order}
use Rattle.ds2_types.specs.Judgements.{link_of}
use Rattle.ds2_expression_types.proofs.chain_nodes.type_behind.Given as goal

abbrev pub invariant-links : goal.invariant-links
invariant-links l = chain_type l.ty (links_in_order (map link_of l.rest)) ≡ chain_type l.fn.first (links_in_order (map link_of l.links))

abbrev pub decreases-links : goal.decreases-links
decreases-links l = length l.rest
