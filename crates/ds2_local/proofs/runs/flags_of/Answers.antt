use Rattle.std.proofs.Common.{◌∙◌}
use Rattle.ds2_deeds.specs.declared.location.LocationName.{LocationName}
use Rattle.ds2_deeds.specs.NamedLocations.{location_named}
use Rattle.ds2_local.specs.RunGrounds.{is_flag_at}
use Rattle.ds2_local.proofs.RangeLemmas.{mapped_whole, mapped_twice}
use Rattle.ds2_local.proofs.runs.flags_of.Goals as goal

pub returns : goal.returns
returns c =
    let bys = c.args.bys.now in
    let ls = c.args.locations.now in
    mapped_whole (λ (x : LocationName). is_flag_at bys (location_named x)) ls c.locations.at-index c.locations.bits _ c.locations-test.false c.locations.invariant ∙ mapped_twice (is_flag_at bys) location_named ls
