use Rattle.std.proofs.Common.{List, [], ◌∷◌, refl, ap}
use Rattle.ds2_emitter.proofs.Appended.{on_ok}
use Rattle.ds2_locality.specs.Deeds.{variables_at}
use Rattle.ds2_locality.specs.Walk.{read_locations}
use Rattle.ds2_meaning.specs.declared.hashes.HashVariable.{HashVariable}
use Rattle.ds2_meaning.specs.HashObjects.{object_at}
use Rattle.ds2_deeds.specs.NamedLocations.{code_home}
use Rattle.ds2_recorded_walk.proofs.GoesLemmas.{goes_here, read_one, read_lists}
use Rattle.ds2_recorded_walk.proofs.walk_reads.read_keys.Goals as goal

pub returns : goal.returns
returns c =
    let s = c.args.scope.now in
    let home = code_home s.body.home in
    let place = c.args.place in
    let hash = c.args.hash.now in
    on_ok c.read_variables.result c.read_variables.ensures
    (λ p. goes_here s (λ calls. refl)
    (read_lists s place (object_at home hash.name ∷ []) (variables_at home hash.key_variables) (read_one s place c.named_location.ensures c.in_ok-read_at.ensures)
    (goes_here s (λ calls. ap (λ (l : List HashVariable). read_locations place (variables_at home l)) c.as_slice.ensures) p)))
