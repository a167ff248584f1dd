use Rattle.std.proofs.Common.{◌≡◌, map, drop}
use Rattle.ds2_meaning.specs.TypedExpression.{NoLink}
use Rattle.ds2_meaning.specs.View.{in_a_row, link_tree}
use Rattle.ds2_locality.specs.Walk.{decided_links}
use Rattle.ds2_recorded_walk.specs.KnownFlags.{first_flags}
use Rattle.ds2_deeds.specs.NamedLocations.{code_home}
use Rattle.ds2_recorded_walk.proofs.decided.+decided.Given as goal

abbrev pub invariant-decided_links-links : goal.invariant-decided_links-links
invariant-decided_links-links l =
    decided_links (first_flags l.known) (code_home l.home) l.truth (in_a_row (map link_tree (drop l.link-index l.links)) NoLink)
    ≡ decided_links (first_flags l.known) (code_home l.home) l.fn.first (in_a_row (map link_tree l.links) NoLink)
