use Rattle.std.proofs.Common.{[], ◌∷◌, refl}
use Rattle.ds2_emitter.proofs.Appended.{on_ok}
use Rattle.ds2_meaning.specs.HashObjects.{object_at}
use Rattle.ds2_locality.specs.Deeds.{iterators_over}
use Rattle.ds2_deeds.specs.NamedLocations.{code_home}
use Rattle.ds2_recorded_walk.proofs.GoesLemmas.{goes_here, clean_one, clean_lists}
use Rattle.ds2_recorded_walk.proofs.walk_reads.clean_items.Goals as goal

pub returns : goal.returns
returns c =
    let s = c.args.scope.now in
    let home = code_home s.body.home in
    let name = c.args.hash.now.name in
    on_ok c.clean_iterators.result c.clean_iterators.ensures
    (λ p. goes_here s (λ calls. refl)
    (clean_lists s (object_at home name ∷ []) (iterators_over home s.body.iterators.now name) (clean_one s c.named_location.ensures c.in_ok-clean_at.ensures) (goes_here s (λ calls. refl) p)))
