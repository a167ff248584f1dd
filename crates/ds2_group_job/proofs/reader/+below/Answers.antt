use Rattle.std.proofs.Common.{◌≡◌, ◌+◌, ℕ, List, Some, length, drop, refl, sym, ap, ◌∙◌, subst, IfOk, arith}
use Rattle.std.specs.Prelude.{slice_get}
use Rattle.ds2_value.specs.Row.{Row}
use Rattle.ds2_table.specs.OneThread.{Answer}
use Rattle.ds2_code.specs.CodeUnit.{code_init}
use Rattle.ds2_code.specs.declared.parts.HashPart.{HashPart}
use Rattle.ds2_code.specs.declared.parts.ProgramParts.{ProgramParts}
use Rattle.ds2_code.specs.declared.parts.StagedParts.{StagedParts}
use Rattle.ds2_code_answer.specs.CodeTables.{hash_references, tables_of_stage}
use Rattle.ds2_loads.proofs.CursorSteps.{first_at}
use Rattle.ds2_machine.specs.AtRest.{IsUnitEnd}
use Rattle.ds2_machine.specs.declared.record.UnitRecord.{UnitRecord}
use Rattle.ds2_unit.specs.ProgramRun.{grain_asked}
use Rattle.ds2_unit.specs.Threads.{IsThreadEnd}
use Rattle.ds2_unit.proofs.StagedCode.{number_within, reader_below}
use Rattle.ds2_unit.proofs.ThreadEnds.{HasKept}
use Rattle.ds2_group_job.specs.ProgramRuns.{answer_below}
use Rattle.ds2_group_job.proofs.StagesReady.{begun_is_chain, kept_ends, kept_stops, next_ready}
use Rattle.ds2_group_job.proofs.reader.+below.Goals as goal

pub run_below-open_reader-requires : goal.run_below-open_reader-requires
run_below-open_reader-requires g t c = reader_below c.args.reader.now.place.code.now c.args.reader.now.place.number c.args.reader.now.stage.now c.parts-parts.ensures.valid c.requires.ready.stage _ refl refl refl

pub run_below-run_kept-requires : goal.run_below-run_kept-requires
run_below-run_kept-requires g t c κs within =
    let p = c.args.program.now in
    let r = c.args.reader.now in
    let tables = r.place.tables.now in
    let stages = r.place.code.now.stages in
    let n = r.place.number + 1 in
    let next = c.in-Some.stage.now in
    let behind : c.in_ok-own.own ≡ tables_of_stage r.place.program.now tables =
    c.in_ok-own.ensures ∙ ap (λ (k : ℕ). drop k tables) (c.loaded_hashes.ensures ∙ ap (λ (hashes : List HashPart). length (hash_references hashes)) c.as_slice-hashes.ensures) in
    let here : slice_get stages n ≡ Some next = sym (ap (λ (x : StagedParts). slice_get x.stages n) c.parts-parts.ensures.value) ∙ sym c.in-Some.ensures in (
      omega (arith, c.decreases, number_within stages n next here),
      (
        within,
        (
          c.requires.callable,
          (
            c.requires.right,
            (
              reader_below r.place.code.now r.place.number r.stage.now c.parts-parts.ensures.valid c.requires.ready.stage _ refl refl refl,
              (record { stage = here; ready = next_ready p r c.requires.ready next here c.in_ok-own.own behind }, c.in_ok-machine.ensures.machine),
            ),
          ),
        ),
      ),
    )

pub run_below-returns-in_default : goal.run_below-returns-in_default
run_below-returns-in_default g t c =
    let P : Answer → Type 0 = λ answer. IfOk c.run.result (λ end. IsThreadEnd answer end) in
    subst P (c.last_stage-last.ensures c.args.given.now) (c.requires.right _ _ _ _ c.run.ensures)

pub run_below-returns : goal.run_below-returns
run_below-returns g t c =
    let p = c.args.program.now in
    let r = c.args.reader.now in
    let tables = r.place.tables.now in
    let stages = r.place.code.now.stages in
    let n = r.place.number + 1 in
    let next = c.in-Some.stage.now in
    let behind : c.in_ok-own.own ≡ tables_of_stage r.place.program.now tables =
    c.in_ok-own.ensures ∙ ap (λ (k : ℕ). drop k tables) (c.loaded_hashes.ensures ∙ ap (λ (hashes : List HashPart). length (hash_references hashes)) c.as_slice-hashes.ensures) in
    let here : slice_get stages n ≡ Some next = sym (ap (λ (x : StagedParts). slice_get x.stages n) c.parts-parts.ensures.value) ∙ sym c.in-Some.ensures in
    let P : Answer → Type 0 = λ answer. IfOk c.run_kept.result (λ end. IsThreadEnd answer end) in
    subst P
    (begun_is_chain r.stage.now next (drop n stages) (drop (n + 1) stages) (tables_of_stage r.place.program.now tables) c.in_ok-own.own p.budget (grain_asked p.grains.now) c.args.given.now (first_at stages n next here) behind
    c.in_ok-machine.machine.state c.in_ok-machine.ensures.begun)
    c.run_kept.ensures

pub run_kept-returns-then-spent : goal.run_kept-returns-then-spent
run_kept-returns-then-spent g t c =
    let p = c.args.program.now in
    let r = c.args.reader.now in
    let begun = c.args.machine.now.state in
    let P : ProgramParts → Type 0 = λ code. IsUnitEnd HasKept c.new-written.result c.call_init.new.sink (code_init code p.budget begun) c.in_ok-first.first c.call_init.new.self.state in
    kept_stops r.place.program.now p.budget (answer_below p r) begun c.new-written.result c.call_init.new.sink c.in_ok-first.first c.call_init.new.self.state c.ended_at_init.result c.thread_end.result
    (ap (λ (x : UnitRecord). x.rows) c.new-written.ensures) (ap (λ (x : UnitRecord). x.lines) c.new-written.ensures) (subst P c.requires.machine.number c.in_ok-first.ensures.ran)
    (sym c.in_ok-first.ensures.spent ∙ sym c.spent.ensures ∙ c.if-spent.true) c.ended_at_init.ensures.ending c.ended_at_init.ensures.executed c.ended_at_init.ensures.stages
    c.thread_end.ensures.written c.thread_end.ensures.ending c.thread_end.ensures.executed c.thread_end.ensures.groups c.thread_end.ensures.below

pub run_kept-returns : goal.run_kept-returns
run_kept-returns g t c =
    let p = c.args.program.now in
    let r = c.args.reader.now in
    let begun = c.args.machine.now.state in
    let state = c.call_init.new.self.state in
    let P : ProgramParts → Type 0 = λ code. IsUnitEnd HasKept c.new-written.result c.call_init.new.sink (code_init code p.budget begun) c.in_ok-first.first state in
    let T : Row → Type 0 = λ given. IsThreadEnd (answer_below p r given) c.in_ok-below.below in
    let ended = subst T c.stage_parameters.ensures c.in_ok-below.ensures in
    kept_ends r.place.program.now p.budget (answer_below p r) begun c.new-written.result c.call_init.new.sink c.run_rows.new.sink c.in_ok-first.first state c.in_ok-rest.rest c.in_ok-below.below c.in_ok-whole.whole c.thread_end-2.result
    c.len-groups.result (ap (λ (x : UnitRecord). x.rows) c.new-written.ensures) (ap (λ (x : UnitRecord). x.lines) c.new-written.ensures) (subst P c.requires.machine.number c.in_ok-first.ensures.ran)
    (sym c.in_ok-first.ensures.spent ∙ sym c.spent.ensures ∙ c.if-spent.false) ended (c.in_ok-rest.ensures (answer_below p r state.parameters) ended)
    c.in_ok-whole.ensures.ending c.in_ok-whole.ensures.executed c.in_ok-whole.ensures.stages c.len-groups.ensures
    c.thread_end-2.ensures.written c.thread_end-2.ensures.ending c.thread_end-2.ensures.executed c.thread_end-2.ensures.groups c.thread_end-2.ensures.below
