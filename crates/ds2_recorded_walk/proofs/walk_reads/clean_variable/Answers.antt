use Rattle.std.proofs.Common.{refl, sym}
use Rattle.ds2_emitter.proofs.Appended.{on_ok}
use Rattle.ds2_locality.specs.Deeds.{variable_at}
use Rattle.ds2_locality.specs.Walk.{WalkScope, DirtySet, GoesOn, all_cleaned}
use Rattle.ds2_meaning.specs.declared.location.Reference.{Reference}
use Rattle.ds2_recorded_walk.proofs.GoesLemmas.{goes_nowhere, goes_here, gone_by, clean_one}
use Rattle.ds2_recorded_walk.proofs.walk_reads.clean_variable.Goals as goal

pub returns-in-At : goal.returns-in-At
returns-in-At c =
    let s = c.args.scope.now in
    on_ok c.clean_at.result c.clean_at.ensures
    (λ p. gone_by s (λ (v : Reference) (w : WalkScope) (d : DirtySet). GoesOn (all_cleaned (variable_at w.code.home v) d)) _ _ (sym c.in-At.is)
    (goes_here s (λ calls. refl) (clean_one s c.global_location.ensures p)))

pub returns-in-Local : goal.returns-in-Local
returns-in-Local c =
    let s = c.args.scope.now in
    gone_by s (λ (v : Reference) (w : WalkScope) (d : DirtySet). GoesOn (all_cleaned (variable_at w.code.home v) d)) _ _ (sym c.in-Local.is) (goes_nowhere s c.args.walk.now)
