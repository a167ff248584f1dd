use Rattle.std.proofs.Common.{◌∙◌}
use Rattle.ds2_locality.specs.KeptLocations.{is_kept}
use Rattle.ds2_deeds.specs.declared.location.LocationName.{LocationName}
use Rattle.ds2_deeds.specs.CodeTrees.{nameless_tree}
use Rattle.ds2_deeds.specs.NamedLocations.{location_named}
use Rattle.ds2_local.proofs.RangeLemmas.{mapped_whole, mapped_twice}
use Rattle.ds2_local.proofs.runs.kept_bits.Goals as goal

pub returns : goal.returns
returns c =
    let p = nameless_tree c.args.program.now in
    let ls = c.args.locations.now in
    mapped_whole (λ (x : LocationName). is_kept p (location_named x)) ls c.locations.at-index c.locations.bits _ c.locations-test.false c.locations.invariant ∙ mapped_twice (is_kept p) location_named ls
