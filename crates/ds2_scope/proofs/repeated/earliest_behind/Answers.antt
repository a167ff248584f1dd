use Rattle.std.proofs.Common.{◌+◌, drop, arith}
use Rattle.std.proofs.lemmas.Grind.{common_steps}
use Rattle.ds2_scope.specs.NamedPlaces.{place_if_before}
use Rattle.ds2_scope.proofs.CollectedLemmas.{one_more_item}
use Rattle.ds2_scope.proofs.repeated.earliest_behind.Goals as goal

pub names-preserved : goal.names-preserved
names-preserved c =
    let k = one_more_item (place_if_before c.args.all.now) c.names.found c.n-item.result (drop (c.names.n-index + 1) c.args.all.now) in
    grind (arith, common_steps, k, c.place_if_before.ensures, c.earlier_of-found.ensures, c.names.invariant)
