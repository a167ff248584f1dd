use Rattle.std.proofs.Common.{ℕ, ap, subst}
use Rattle.ds2_code.specs.Scales.{IsDataScaled}
use Rattle.ds2_machine.specs.AtRest.{MachineAtRest, staged_program}
use Rattle.ds2_unit.specs.ProgramRun.{grain_asked}
use Rattle.ds2_unit.proofs.WholeRuns.{whole_run}
use Rattle.ds2_unit.proofs.alone.run_into.Goals as goal

pub open-requires-clause-given : goal.open-requires-clause-given
open-requires-clause-given g c = tt

pub run_reading-requires-clause-ready : goal.run_reading-requires-clause-ready
run_reading-requires-clause-ready g c =
    let opened = c.in_ok-machine.ensures.opened in
    let P : ℕ → Type 0 = λ n. IsDataScaled (staged_program c.args.code.now n) c.in_ok-machine.machine.state in
    record {
      scaled = subst P (ap (λ (m : MachineAtRest). m.program) opened) c.in_ok-machine.ensures.scaled;
      budget = c.requires.budget;
      ready = ap (λ (m : MachineAtRest). m.spent) opened;
      program = ap (λ (m : MachineAtRest). m.program) opened;
    }

pub returns : goal.returns
returns g c =
    whole_run g.S.UnitSink.has_taken c.args.sink.now c.run_reading.new.sink c.args.tables.now c.args.budget (grain_asked c.args.grains.now) c.args.code.now c.in_ok-machine.machine.state c.in_ok-end.end c.ended_alone.result
    c.requires.stages (ap (λ (m : MachineAtRest). m.state) c.in_ok-machine.ensures.opened) c.in_ok-end.ensures c.ended_alone.ensures.ending c.ended_alone.ensures.executed c.ended_alone.ensures.stages
