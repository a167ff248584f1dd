use Rattle.std.proofs.Common.{List, [], ◌∷◌, refl}
use Rattle.std.proofs.lemmas.List.{drop_all}
use Rattle.ds2_meaning.specs.declared.hashes.DeclaredIterator.{DeclaredIterator}
use Rattle.ds2_locality.specs.Deeds.{iterators_over}
use Rattle.ds2_locality.specs.Walk.{WalkScope, DirtySet, GoesOn, all_cleaned}
use Rattle.ds2_deeds.specs.NamedLocations.{code_home}
use Rattle.ds2_deeds.proofs.DeedLemmas.{drop_next}
use Rattle.ds2_recorded_walk.proofs.GoesLemmas.{iterators_next, goes_here, leaves_whole, none_left, cleans_gone}
use Rattle.ds2_recorded_walk.proofs.walk_reads.clean_iterators.Goals as goal

pub iterators-init : goal.iterators-init
iterators-init c = leaves_whole c.args.scope.now c.args.walk.now _

pub iterators-preserved : goal.iterators-preserved
iterators-preserved c =
    let s = c.args.scope.now in
    let home = code_home s.body.home in
    let name = c.args.hash.now in
    cleans_gone s (λ (x : DeclaredIterator). iterators_over home (x ∷ []) name) (λ l. iterators_over home l name) (iterators_next home name) _ _ c.iterator-item.result
    (drop_next s.body.iterators.now c.iterators.iterator-index c.iterator-item.result c.iterators-test.true c.iterator-item.is) c.iterators.invariant
    (goes_here s (λ calls. refl) c.in_ok-clean_iterator.ensures)

pub returns : goal.returns
returns c =
    let s = c.args.scope.now in
    let home = code_home s.body.home in
    goes_here s (λ calls. refl)
    (none_left s (λ (l : List DeclaredIterator) (w : WalkScope) (d : DirtySet). GoesOn (all_cleaned (iterators_over home l c.args.hash.now) d)) _
    (drop_all c.iterators.iterator-index s.body.iterators.now c.iterators-test.false) refl c.iterators.invariant)
