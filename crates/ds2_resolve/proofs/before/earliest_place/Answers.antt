use Rattle.std.proofs.Common.{◌+◌, drop, Some, arith}
use Rattle.std.proofs.lemmas.Grind.{common_steps}
use Rattle.ds2_names.specs.UnitRules.{places_of}
use Rattle.ds2_scope.specs.Earliest.{earliest}
use Rattle.ds2_scope.proofs.EarliestLemmas.{none_right, earlier_of_assoc}
use Rattle.ds2_resolve.proofs.before.earliest_place.Goals as goal

pub tables-preserved : goal.tables-preserved
tables-preserved c =
    let k = earlier_of_assoc c.tables.found (Some c.table-item.result.place) (earliest (places_of (drop (c.tables.table-index + 1) c.args.tables.now))) in
    grind (arith, common_steps, k, c.tables.invariant)

pub returns : goal.returns
returns c =
    let k = none_right c.tables.found in
    grind (arith, common_steps, k, c.tables.invariant)
