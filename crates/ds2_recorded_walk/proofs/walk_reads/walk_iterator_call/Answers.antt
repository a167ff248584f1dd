use Rattle.std.proofs.Common.{Option, [], ◌∷◌, sym, ap, ◌∙◌}
use Rattle.std.specs.Option.{option_copied}
use Rattle.ds2_emitter.proofs.Appended.{on_ok}
use Rattle.ds2_meaning.specs.declared.hashes.DeclaredIterator.{DeclaredIterator}
use Rattle.ds2_meaning.specs.HashObjects.{object_at}
use Rattle.ds2_locality.specs.Walk.{walk_iterator_call}
use Rattle.ds2_deeds.specs.NamedLocations.{code_home}
use Rattle.ds2_recorded_walk.specs.RecordedStatements.{walk_scope}
use Rattle.ds2_recorded_walk.proofs.GoesLemmas.{goes_nowhere, goes_here, read_one, read_lists}
use Rattle.ds2_recorded_walk.proofs.walk_reads.walk_iterator_call.Goals as goal

pub returns-in-None : goal.returns-in-None
returns-in-None c =
    let s = c.args.scope.now in
    goes_here s (λ calls. ap (λ (o : Option DeclaredIterator). walk_iterator_call (walk_scope s calls).code o c.args.place) (sym (ap option_copied c.in-None.is) ∙ c.find_iterator.ensures)) (goes_nowhere s c.args.walk.now)

pub returns-in_ok-read_at-in-Some : goal.returns-in_ok-read_at-in-Some
returns-in_ok-read_at-in-Some c =
    let s = c.args.scope.now in
    let home = code_home s.body.home in
    let place = c.args.place in
    let i = c.in-Some.iterator.now in
    on_ok c.read_at-in-Some.result c.read_at-in-Some.ensures
    (λ p. goes_here s (λ calls. ap (λ (o : Option DeclaredIterator). walk_iterator_call (walk_scope s calls).code o place) (sym (ap option_copied c.in-Some.is) ∙ c.find_iterator.ensures))
    (read_lists s place (object_at home i.name ∷ []) (object_at home i.hash ∷ []) (read_one s place c.named_location.ensures c.in_ok-read_at-in-Some.ensures) (read_one s place c.named_location-in-Some.ensures p)))
