use Rattle.std.proofs.Common.{[]}
use Rattle.std.proofs.lemmas.Result.{IfOk-weaker}
use Rattle.ds2_locality.specs.Walk.{no_flag}
use Rattle.ds2_deeds.specs.NamedLocations.{locations_named}
use Rattle.ds2_recorded_walk.specs.KnownFlags.{first_flags}
use Rattle.ds2_local.specs.EffectSteps.{RunTells}
use Rattle.ds2_local.proofs.RunLemmas.{no_flag_tells}
use Rattle.ds2_local.proofs.runs.record_later_loads.Goals as goal

pub returns : goal.returns
returns c = λ t holds.
    let b = c.args.bodies.now in
    IfOk-weaker c.record_run.result (λ walk. RunTells t (locations_named b.numbers.locations.now) (first_flags []) walk) (λ walk. RunTells t (locations_named b.numbers.locations.now) no_flag walk)
    (λ walk tells. no_flag_tells t b holds walk tells) (c.record_run.ensures t holds)
