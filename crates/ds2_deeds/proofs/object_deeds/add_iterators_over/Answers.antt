use Rattle.std.proofs.Common.{List, [], ◌∷◌, map, arith}
use Rattle.std.proofs.lemmas.Grind.{common_steps}
use Rattle.ds2_meaning.specs.declared.hashes.DeclaredIterator.{DeclaredIterator}
use Rattle.ds2_locality.specs.Deeds.{Change, iterators_over}
use Rattle.ds2_deeds.specs.NamedLocations.{code_home}
use Rattle.ds2_deeds.specs.NumberedDeeds.{numbers_of}
use Rattle.ds2_deeds.proofs.DeedLemmas.{none_added, item_added}
use Rattle.ds2_deeds.proofs.ItemLemmas.{over_first}
use Rattle.ds2_deeds.proofs.object_deeds.add_iterators_over.Goals as goal

pub returns : goal.returns
returns c = grind (arith, common_steps, none_added (numbers_of c.args.numbers) c.iterators.deeds, c.iterators.invariant)

pub iterators-preserved : goal.iterators-preserved
iterators-preserved c =
    let home = code_home c.args.scope.now.home in
    let name = c.args.hash.now in
    item_added (numbers_of c.args.numbers) (λ (l : List DeclaredIterator). map Change (iterators_over home l name)) (λ (x : DeclaredIterator). map Change (iterators_over home (x ∷ []) name)) (λ x xs. over_first home x xs name)
    c.args.scope.now.iterators.now c.iterators.iterator-index c.iterator-item.result c.iterators.deeds _ _ c.iterators-test.true c.iterator-item.is c.in_ok-add_iterator_over.ensures c.iterators.invariant
