use Rattle.std.proofs.Common.{length, refl, sym, subst}
use Rattle.std.proofs.lemmas.Result.{IfOk-weaker}
use Rattle.ds2_meaning.specs.ProgramTree.{program_has_output}
use Rattle.ds2_meaning.specs.View.{system_tree}
use Rattle.ds2_deeds.specs.CodeTrees.{nameless_tree}
use Rattle.ds2_deeds.specs.NamedLocations.{locations_named}
use Rattle.ds2_recorded_walk.specs.declared.walk_scope.RecordScope.{RecordScope}
use Rattle.ds2_recorded_walk.specs.KnownFlags.{first_flags}
use Rattle.ds2_local.specs.EffectSteps.{EffectsAtDepth, RunRecorded, RunTells}
use Rattle.ds2_local.specs.JudgedTrees.{place_of_system}
use Rattle.ds2_local.proofs.RunLemmas.{run_tells}
use Rattle.ds2_local.proofs.runs.record_run.Goals as goal

pub returns : goal.returns
returns c = λ t holds.
    let b = c.args.bodies.now in
    let p = b.program.now in
    let s : RecordScope = record { alloc = b.alloc; numbers = b.numbers; effects = c.as_slice.result; body = c.system_scope.result; known = c.args.known } in
    let effects = subst (λ l. EffectsAtDepth t b c.args.known.now l (length b.deeds.now)) (sym c.as_slice.ensures) (c.in_ok-effects.ensures t holds) in
    IfOk-weaker c.record_in.result (λ walk. RunRecorded s (system_tree p.run).statements (program_has_output (nameless_tree p)) (place_of_system p.run) walk)
    (λ walk. RunTells t (locations_named b.numbers.locations.now) (first_flags c.args.known.now) walk)
    (λ walk recorded. run_tells t b holds s walk refl c.system_scope.ensures effects recorded) c.record_in.ensures
