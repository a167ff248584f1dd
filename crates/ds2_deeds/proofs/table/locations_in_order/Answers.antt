use Rattle.std.proofs.Common.{List, [], ◌++◌, map, ap, ◌∙◌}
use Rattle.std.specs.Prelude.{flat_map}
use Rattle.ds2_layout.specs.Layout.{location_of_slot}
use Rattle.ds2_locality.specs.Verdict.{hashes_brought, iterators_brought, objects_in_order, own_objects_first}
use Rattle.ds2_deeds.specs.declared.location.LocationName.{LocationName}
use Rattle.ds2_deeds.specs.CodeTrees.{nameless_tree}
use Rattle.ds2_deeds.specs.NamedLocations.{locations_named, with_locations}
use Rattle.ds2_deeds.proofs.TableLemmas.{then_told}
use Rattle.ds2_deeds.proofs.table.locations_in_order.Goals as goal

pub returns : goal.returns
returns c =
    let p = nameless_tree c.args.program.now in
    let names = c.args.names.now in
    let slots = c.in_ok-add_slots.ensures ∙ ap (λ (l : List LocationName). with_locations (locations_named l) (map location_of_slot c.args.slots.now)) c.new-locations.ensures in
    let first = locations_named c.add_slots.new.locations in
    let second = locations_named c.add_all_declared_hashes.new.locations in
    let third = locations_named c.add_all_declared_iterators.new.locations in
    let last = locations_named c.add_objects.new.locations in
    let hashes = flat_map (hashes_brought p) names in
    let iterators = flat_map (iterators_brought p) names in
    let declared = then_told first hashes iterators second third c.in_ok-add_all_declared_hashes.ensures c.in_ok-add_all_declared_iterators.ensures in
    let objects = then_told first (hashes ++ iterators) (own_objects_first p) third last declared c.in_ok-add_objects.ensures in
    ap (λ (l : List LocationName). locations_named l) c.into_list.ensures ∙ then_told [] (map location_of_slot c.args.slots.now) (objects_in_order names p) first last slots objects
