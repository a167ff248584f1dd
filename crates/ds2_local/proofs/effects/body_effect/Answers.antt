use Rattle.std.proofs.Common.{◌≡◌, subst}
use Rattle.std.proofs.lemmas.Result.{IfOk-weaker}
use Rattle.ds2_locality.specs.Walk.{walk_all}
use Rattle.ds2_meaning.specs.View.{typed_statements}
use Rattle.ds2_recorded_walk.specs.RecordedStatements.{GoesPastBy}
use Rattle.ds2_local.specs.EffectSteps.{BodyTells}
use Rattle.ds2_local.specs.JudgedBodies.{effect_of_walk}
use Rattle.ds2_local.proofs.BodyLemmas.{effect_told}
use Rattle.ds2_local.proofs.effects.body_effect.Goals as goal

pub returns : goal.returns
returns c =
    let s = c.args.scope.now in
    let body = typed_statements c.args.method.now.body in
    let walked = subst (λ l. GoesPastBy s c.new-walk.result c.walk_body.new.walk (λ w. walk_all w (typed_statements l))) c.as_slice.ensures c.in_ok-walk_body.ensures in
    IfOk-weaker c.walked_effect.result (λ effect. effect ≡ effect_of_walk c.end.new.self) (λ effect. BodyTells s body effect)
    (λ effect e. effect_told s body _ c.new-walk.result c.walk_body.new.walk c.end.new.self effect c.all-locations.ensures c.new-walk.ensures walked c.in_ok-end.ensures e) c.walked_effect.ensures
