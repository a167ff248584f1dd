use Rattle.std.proofs.Common.{sym, ◌∙◌, subst}
use Rattle.ds2_value.specs.Row.{Row}
use Rattle.ds2_code.specs.CodeUnit.{code_init}
use Rattle.ds2_code.specs.declared.parts.ProgramParts.{ProgramParts}
use Rattle.ds2_machine.specs.AtRest.{IsUnitEnd}
use Rattle.ds2_unit.specs.Threads.{IsThreadEnd}
use Rattle.ds2_group_job.specs.ProgramRuns.{answer_below}
use Rattle.ds2_group_job.proofs.StagesReady.{chain_ends, chain_stops}
use Rattle.ds2_group_job.proofs.reader.run_opened.Goals as goal

pub returns-then-spent : goal.returns-then-spent
returns-then-spent g c =
    let p = c.args.program.now in
    let r = c.args.reader.now in
    let begun = c.args.machine.now.state in
    let P : ProgramParts → Type 0 = λ code. IsUnitEnd g.S.UnitSink.has_taken c.args.sink.now c.call_init.new.sink (code_init code p.budget begun) c.in_ok-first.first c.call_init.new.self.state in
    chain_stops r.place.program.now p.budget (answer_below p r) begun g.S.UnitSink.has_taken c.args.sink.now c.call_init.new.sink c.in_ok-first.first c.call_init.new.self.state c.ended_at_init.result
    (subst P c.requires.machine.number c.in_ok-first.ensures.ran) (sym c.in_ok-first.ensures.spent ∙ sym c.spent.ensures ∙ c.if-spent.true)
    c.ended_at_init.ensures.ending c.ended_at_init.ensures.executed c.ended_at_init.ensures.stages

pub returns : goal.returns
returns g c =
    let p = c.args.program.now in
    let r = c.args.reader.now in
    let begun = c.args.machine.now.state in
    let state = c.call_init.new.self.state in
    let P : ProgramParts → Type 0 = λ code. IsUnitEnd g.S.UnitSink.has_taken c.args.sink.now c.call_init.new.sink (code_init code p.budget begun) c.in_ok-first.first state in
    let T : Row → Type 0 = λ given. IsThreadEnd (answer_below p r given) c.in_ok-thread.thread in
    let ended = subst T c.stage_parameters.ensures c.in_ok-thread.ensures in
    chain_ends r.place.program.now p.budget (answer_below p r) begun g.S.UnitSink.has_taken c.args.sink.now c.call_init.new.sink c.run_rows.new.sink c.in_ok-first.first state c.in_ok-rest.rest c.in_ok-thread.thread
    c.in_ok-end.end (subst P c.requires.machine.number c.in_ok-first.ensures.ran) (sym c.in_ok-first.ensures.spent ∙ sym c.spent.ensures ∙ c.if-spent.false) ended (c.in_ok-rest.ensures (answer_below p r state.parameters) ended)
    c.in_ok-end.ensures.ending c.in_ok-end.ensures.executed c.in_ok-end.ensures.stages
