use Rattle.std.proofs.Common.{Some, map, sym, ap, ◌∙◌, arith}
use Rattle.std.proofs.lemmas.Grind.{common_steps}
use Rattle.ds2_program_code.specs.PlacedProgram.{number_of_first}
use Rattle.ds2_meaning.specs.Location.{is_same_location}
use Rattle.ds2_deeds.specs.NamedLocations.{location_named}
use Rattle.ds2_deeds.proofs.NumberLemmas.{from_first, number_here, number_later}
use Rattle.ds2_deeds.proofs.location.number_by_walk.Goals as goal

pub returns-then-is_one_location : goal.returns-then-is_one_location
returns-then-is_one_location c =
    let test = is_same_location (location_named c.args.at) in
    ap Some c.locations.invariant.0
    ∙ number_here test location_named c.args.locations.now c.locations.other-index c.other-item.result _ c.locations-test.true c.other-item.is (sym c.is_one_location.ensures ∙ c.if-is_one_location.true) c.locations.invariant.1
    ∙ from_first (number_of_first test (map location_named c.args.locations.now))

pub locations-preserved : goal.locations-preserved
locations-preserved c =
    let test = is_same_location (location_named c.args.at) in (
      grind (arith, common_steps, c.locations.invariant.0),
      number_later test location_named c.args.locations.now c.locations.other-index c.other-item.result _ c.locations-test.true c.other-item.is (sym c.is_one_location.ensures ∙ c.if-is_one_location.false) c.locations.invariant.1,
    )

pub returns : goal.returns
returns c = grind (arith, common_steps, c.locations.invariant.1)
