use Rattle.std.proofs.Common.{◌≡◌, [], length, sym, ap, ◌∙◌}
use Rattle.std.specs.Option.{option_copied, option_map}
use Rattle.std.specs.Prelude.{slice_get}
use Rattle.std.proofs.lemmas.Result.{IfOk-weaker}
use Rattle.ds2_meaning.specs.ProgramTree.{methods_of}
use Rattle.ds2_meaning.specs.View.{typed_method}
use Rattle.ds2_locality.specs.Verdict.{walk_body}
use Rattle.ds2_locality.specs.Walk.{CallWalks}
use Rattle.ds2_deeds.specs.NamedMethods.{method_of_name}
use Rattle.ds2_deeds.specs.NumberedDeeds.{numbers_of}
use Rattle.ds2_recorded_walk.specs.KnownFlags.{first_flags}
use Rattle.ds2_recorded_walk.specs.RecordedWalks.{EffectsTell}
use Rattle.ds2_local.specs.EffectSteps.{EffectTells}
use Rattle.ds2_local.specs.JudgedBodies.{effect_of_mentions}
use Rattle.ds2_local.proofs.StepLemmas.{absent_effect}
use Rattle.ds2_local.proofs.effects.plain_effect.Goals as goal

pub returns-in-None : goal.returns-in-None
returns-in-None c = λ t holds.
    let b = c.args.bodies.now in
    let m = method_of_name c.args.method in
    IfOk-weaker c.mention_effect.result (λ effect. effect ≡ effect_of_mentions (length b.numbers.locations.now) [])
    (λ effect. (calls : CallWalks) → EffectsTell (numbers_of b.numbers) c.args.effects.now calls
    → EffectTells (numbers_of b.numbers) effect (walk_body t (first_flags c.args.known.now) calls m.home (slice_get (methods_of t.program m.home) m.number)))
    (λ effect e calls told. absent_effect t b holds c.args.known.now calls m.home m.number effect (ap (λ o. option_map typed_method (option_copied o)) (sym c.in-None.is) ∙ c.method_at.ensures) e)
    c.mention_effect.ensures
