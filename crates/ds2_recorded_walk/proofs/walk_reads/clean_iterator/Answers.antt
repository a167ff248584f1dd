use Rattle.std.proofs.Common.{sym, ◌∙◌}
use Rattle.ds2_emitter.proofs.Appended.{on_ok}
use Rattle.ds2_locality.specs.Walk.{GoesOn, all_cleaned}
use Rattle.ds2_deeds.specs.NamedLocations.{code_home}
use Rattle.ds2_recorded_walk.proofs.GoesLemmas.{iterator_over, iterator_apart, goes_nowhere, goes_here, clean_one}
use Rattle.ds2_recorded_walk.proofs.walk_reads.clean_iterator.Goals as goal

pub returns-then-eq : goal.returns-then-eq
returns-then-eq c =
    let s = c.args.scope.now in
    let home = code_home s.body.home in
    on_ok c.clean_at.result c.clean_at.ensures
    (λ p. goes_here s (λ calls. λ i d. GoesOn (all_cleaned (sym (iterator_over home c.args.hash.now c.args.iterator.now (sym c.eq.ensures ∙ c.if-eq.true)) i) d))
    (clean_one s c.named_location.ensures p))

pub returns-else-eq : goal.returns-else-eq
returns-else-eq c =
    let s = c.args.scope.now in
    let home = code_home s.body.home in
    goes_here s (λ calls. λ i d. GoesOn (all_cleaned (sym (iterator_apart home c.args.hash.now c.args.iterator.now (sym c.eq.ensures ∙ c.if-eq.false)) i) d)) (goes_nowhere s c.args.walk.now)
