use Rattle.std.proofs.Common.{◌≡◌, map, drop}
use Rattle.ds2_locality.specs.Deeds.{Change, iterators_over}
use Rattle.ds2_deeds.specs.NamedLocations.{code_home}
use Rattle.ds2_deeds.specs.NumberedDeeds.{numbers_of, with_deeds}
use Rattle.ds2_deeds.proofs.object_deeds.add_iterators_over.Given as goal

abbrev pub invariant-iterators : goal.invariant-iterators
invariant-iterators l =
    with_deeds (numbers_of l.numbers) (map Change (iterators_over (code_home l.scope.home) (drop l.iterator-index l.scope.iterators.now) l.hash)) l.deeds
    ≡ with_deeds (numbers_of l.numbers) (map Change (iterators_over (code_home l.scope.home) l.scope.iterators.now l.hash)) l.fn.deeds
