use Rattle.std.proofs.Common.{◌≡◌, false, true, Some, refl, sym, ap, ◌∙◌, subst, arith}
use Rattle.ds2_table.specs.OneThread.{groups_at, run_each}
use Rattle.ds2_code.specs.declared.parts.ProgramParts.{ProgramParts}
use Rattle.ds2_code.specs.CodeUnit.{code_init}
use Rattle.ds2_code_answer.specs.CodeAnswer.{code_units}
use Rattle.ds2_code_answer.specs.CodeLoads.{code_loads, code_group_count}
use Rattle.ds2_machine.specs.AtRest.{IsUnitEnd, is_early, staged_program}
use Rattle.ds2_unit.specs.declared.units_end.UnitsEnd.{UnitsEnd}
use Rattle.ds2_group_job.proofs.GroupSteps.{HasKeptRows}
use Rattle.ds2_group_job.proofs.KeptUnits.{was_last, kept_behind}
use Rattle.ds2_group_job.proofs.ThreadBegun.{none_told, free_behind}
use Rattle.ds2_group_job.proofs.thread_on.run_whole.Goals as goal

pub call_init-requires-clause-scaled : goal.call_init-requires-clause-scaled
call_init-requires-clause-scaled g c = c.requires.machine.scaled

pub call_init-requires-clause-budget : goal.call_init-requires-clause-budget
call_init-requires-clause-budget g c = c.requires.run.thread.within

pub call_init-requires-clause-ready : goal.call_init-requires-clause-ready
call_init-requires-clause-ready g c = c.requires.machine.ready

pub run_rest-requires-clause-run : goal.run_rest-requires-clause-run
run_rest-requires-clause-run g c = λ κs lives. c.requires.run

pub run_rest-requires-clause-machine : goal.run_rest-requires-clause-machine
run_rest-requires-clause-machine g c = λ κs lives. record {
  number = ap (staged_program c.args.run.now.thread.code.now) c.in_ok-first.ensures.program ∙ c.requires.machine.number;
  scaled = c.in_ok-first.ensures.scaled (sym c.spent.ensures ∙ c.if-spent.false);
  ready = sym c.spent.ensures ∙ c.if-spent.false;
}

pub run_rest-requires-clause-independent : goal.run_rest-requires-clause-independent
run_rest-requires-clause-independent g c = λ κs lives.
    let run = c.args.run.now.thread in
    let stage = run.stage.now in
    let begun = c.args.machine.now.state in
    let now = c.call_init.new.self.state in
    let P : ProgramParts → Type 0 = λ p. IsUnitEnd HasKeptRows c.args.written.now c.call_init.new.sink (code_init p run.budget begun) c.in_ok-first.first now in
    let fine : is_early c.in_ok-first.first.ending ≡ false = sym c.in_ok-first.ensures.spent ∙ sym c.spent.ensures ∙ c.if-spent.false in
    free_behind stage run.tables.now run.budget run.grain begun c.requires.independent c.args.written.now c.call_init.new.sink c.in_ok-first.first now (subst P c.requires.machine.number c.in_ok-first.ensures.ran) fine

pub returns-then-spent-clause-ran : goal.returns-then-spent-clause-ran
returns-then-spent-clause-ran g c =
    let run = c.args.run.now.thread in
    let stage = run.stage.now in
    let begun = c.args.machine.now.state in
    let now = c.call_init.new.self.state in
    let P : ProgramParts → Type 0 = λ p. IsUnitEnd HasKeptRows c.args.written.now c.call_init.new.sink (code_init p run.budget begun) c.in_ok-first.first now in
    let early : is_early c.in_ok-first.first.ending ≡ true = sym c.in_ok-first.ensures.spent ∙ sym c.spent.ensures ∙ c.if-spent.true in
    let end : UnitsEnd = record { ending = c.in_ok-first.first.ending; executed = c.from-executed.result } in
    was_last (code_init stage run.budget begun) (run_each (code_units stage run.budget) (code_loads stage run.tables.now)) c.args.written.now c.call_init.new.sink c.in_ok-first.first now end
    (subst P c.requires.machine.number c.in_ok-first.ensures.ran) early refl (omega (arith, c.from-executed.ensures))

pub returns-then-spent-clause-groups : goal.returns-then-spent-clause-groups
returns-then-spent-clause-groups g c =
    let run = c.args.run.now.thread in
    none_told c.in_ok-first.first.ending 0 (code_group_count run.grain run.stage.now run.tables.now) (sym c.in_ok-first.ensures.spent ∙ sym c.spent.ensures ∙ c.if-spent.true)

pub returns-clause-ran : goal.returns-clause-ran
returns-clause-ran g c =
    let run = c.args.run.now.thread in
    let stage = run.stage.now in
    let begun = c.args.machine.now.state in
    let now = c.call_init.new.self.state in
    let P : ProgramParts → Type 0 = λ p. IsUnitEnd HasKeptRows c.args.written.now c.call_init.new.sink (code_init p run.budget begun) c.in_ok-first.first now in
    let fine : is_early c.in_ok-first.first.ending ≡ false = sym c.in_ok-first.ensures.spent ∙ sym c.spent.ensures ∙ c.if-spent.false in
    let end : UnitsEnd = record { ending = c.in_ok-rest.rest.end.ending; executed = c.in_ok-all.all } in
    kept_behind (code_init stage run.budget begun) (run_each (code_units stage run.budget) (code_loads stage run.tables.now)) c.args.written.now c.call_init.new.sink c.run_rest.new.written
    c.in_ok-first.first now c.in_ok-rest.rest.end end (subst P c.requires.machine.number c.in_ok-first.ensures.ran) fine c.in_ok-rest.ensures.ran refl (omega (arith, c.in_ok-all.ensures, c.from-executed.ensures))

pub returns-clause-groups : goal.returns-clause-groups
returns-clause-groups g c = ap (groups_at (Some c.in_ok-rest.rest.end.ending)) c.in_ok-rest.ensures.groups
