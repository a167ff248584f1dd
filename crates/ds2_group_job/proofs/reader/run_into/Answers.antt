use Rattle.std.proofs.Common.{◌≡◌, [], Some, drop, refl, sym, ap, ◌∙◌, subst, IfOk}
use Rattle.std.specs.Prelude.{slice_get}
use Rattle.ds2_table.specs.OneThread.{Answer}
use Rattle.ds2_code.specs.declared.parts.StagedParts.{StagedParts}
use Rattle.ds2_loads.proofs.CursorSteps.{first_at}
use Rattle.ds2_unit.specs.ProgramRun.{IsRunEnd, grain_asked}
use Rattle.ds2_unit.specs.Threads.{chain_answer}
use Rattle.ds2_unit.proofs.StagedCode.{data_reader}
use Rattle.ds2_group_job.specs.ProgramRuns.{IsReadyOver}
use Rattle.ds2_group_job.proofs.StagesReady.{begun_is_chain}
use Rattle.ds2_group_job.proofs.reader.run_into.Goals as goal

pub open_reader-requires : goal.open_reader-requires
open_reader-requires g c = data_reader c.args.program.now.code.now c.parts-parts.ensures.valid _ refl refl (ap (λ (x : StagedParts). x.program) c.parts-parts.ensures.value)

pub run_opened-requires-clause-reader : goal.run_opened-requires-clause-reader
run_opened-requires-clause-reader g c = data_reader c.args.program.now.code.now c.parts-parts.ensures.valid _ refl refl (ap (λ (x : StagedParts). x.program) c.parts-parts.ensures.value)

pub run_opened-requires-clause-ready : goal.run_opened-requires-clause-ready
run_opened-requires-clause-ready g c =
    let p = c.args.program.now in
    let same = c.parts-parts.ensures.value in
    let P : StagedParts → Type 0 = λ x. IsReadyOver p (record { program = x.program; stages = p.code.now.stages }) p.tables.now in
    record {
      stage = sym (ap (λ (x : StagedParts). slice_get x.stages 0) same) ∙ sym c.in-Some.ensures;
      ready = subst P (sym same) c.requires.ready;
    }

pub returns : goal.returns
returns g c =
    let p = c.args.program.now in
    let stages = p.code.now.stages in
    let tables = p.tables.now in
    let asked = grain_asked p.grains.now in
    let stage = c.in-Some.stage.now in
    let same = c.parts-parts.ensures.value in
    let here : slice_get stages 0 ≡ Some stage = sym (ap (λ (x : StagedParts). slice_get x.stages 0) same) ∙ sym c.in-Some.ensures in
    let P : Answer → Type 0 = λ answer. IfOk c.run_opened.result (λ end. IsRunEnd g.S.UnitSink.has_taken c.args.sink.now c.run_opened.new.sink answer end) in
    subst P
    (begun_is_chain c.parts-parts.result.now.program stage stages (drop 1 stages) tables tables p.budget asked [] (first_at stages 0 stage here) refl c.in_ok-machine.machine.state c.in_ok-machine.ensures.begun
    ∙ ap (λ (x : StagedParts). chain_answer x.program stages tables p.budget asked []) same)
    c.run_opened.ensures
