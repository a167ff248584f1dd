use Rattle.std.proofs.Common.{length, refl, sym, ap, ◌∙◌}
use Rattle.std.proofs.lemmas.Option.{slice_get_read, slice_get_past}
use Rattle.ds2_emitter.proofs.Appended.{on_ok}
use Rattle.ds2_deeds.specs.NamedMethods.{method_of_name}
use Rattle.ds2_recorded_walk.specs.RecordedWalks.{effect_numbered}
use Rattle.ds2_recorded_walk.proofs.GoesLemmas.{goes_called, goes_uncalled}
use Rattle.ds2_recorded_walk.proofs.walk_reads.walk_method_call.Goals as goal

pub returns-in-None : goal.returns-in-None
returns-in-None c =
    let s = c.args.scope.now in
    goes_uncalled s (method_of_name c.args.method) c.args.place c.args.walk.now (ap (effect_numbered s.effects.now) (sym c.number_of_method.ensures ∙ c.in-None.is))

pub returns-in-None-get : goal.returns-in-None-get
returns-in-None-get c =
    let s = c.args.scope.now in
    goes_uncalled s (method_of_name c.args.method) c.args.place c.args.walk.now
    (ap (effect_numbered s.effects.now) (sym c.number_of_method.ensures ∙ c.in-Some.is) ∙ slice_get_past s.effects.now c.in-Some.number c.in-None-get.ensures.lookup.3)

pub returns-in-Some-get : goal.returns-in-Some-get
returns-in-Some-get c =
    let s = c.args.scope.now in
    let found = c.in-Some-get.ensures.lookup in
    let effect = c.in-Some-get.effect.now in
    on_ok c.call.result c.call.ensures
    (λ e. goes_called s (method_of_name c.args.method) c.args.place effect c.args.walk.now _
    (ap (effect_numbered s.effects.now) (sym c.number_of_method.ensures ∙ c.in-Some.is) ∙ slice_get_read s.effects.now (length s.effects.now) c.in-Some.number effect refl found.3.0 found.1) e)
