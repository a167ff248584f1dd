use Rattle.std.proofs.Common.{◌≡◌, drop}
use Rattle.ds2_meaning.specs.HashObjects.{iterator_named}
use Rattle.ds2_deeds.proofs.scope.find_iterator.Given as goal

abbrev pub invariant-iterators : goal.invariant-iterators
invariant-iterators l = iterator_named (drop l.iterator-index l.iterators) l.name ≡ iterator_named l.iterators l.name
