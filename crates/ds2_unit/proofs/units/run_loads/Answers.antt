use Rattle.std.proofs.Common.{refl, sym, ◌∙◌}
use Rattle.ds2_value.specs.declared.fault.Ending.TheVariants.{Normal}
use Rattle.ds2_machine.specs.AtRest.{staged_program}
use Rattle.ds2_unit.specs.declared.units_end.UnitsEnd.{UnitsEnd}
use Rattle.ds2_unit.proofs.LoadsInOrder.{next_is, none_is, first_scaled, fewer_left, on_first, on_next, stops_here, all_on}
use Rattle.ds2_unit.proofs.units.run_loads.Goals as goal

pub loads-init : goal.loads-init
loads-init g c =
    (on_first g.S.UnitSink.has_taken c.args.code.now c.args.budget c.args.sink.now 0 (g.L.LoadSource.left c.args.source.now) c.args.machine.now refl c.requires.ready c.requires.scaled c.requires.loads, refl)

pub call_run-requires-clause-scaled : goal.call_run-requires-clause-scaled
call_run-requires-clause-scaled g c = c.loads.invariant.0.scaled

pub call_run-requires-clause-ready : goal.call_run-requires-clause-ready
call_run-requires-clause-ready g c = c.loads.invariant.0.ready

pub call_run-requires-clause-load : goal.call_run-requires-clause-load
call_run-requires-clause-load g c =
    let before = g.L.LoadSource.left c.loads.source in
    let load = g.L.UnitLoad.settings c.next_load.new.self in
    let after = g.L.LoadSource.left c.next_load.new.self in
    first_scaled (staged_program c.args.code.now c.loads.machine.program).slots before load after c.loads.invariant.0.loads (next_is c.next_load.result before load after c.loads-test.true c.next_load.ensures.next)

pub loads-smaller : goal.loads-smaller
loads-smaller g c =
    let before = g.L.LoadSource.left c.loads.source in
    let load = g.L.UnitLoad.settings c.next_load.new.self in
    let after = g.L.LoadSource.left c.next_load.new.self in
    fewer_left before load after (next_is c.next_load.result before load after c.loads-test.true c.next_load.ensures.next)

pub loads-preserved : goal.loads-preserved
loads-preserved g c =
    let before = g.L.LoadSource.left c.loads.source in
    let load = g.L.UnitLoad.settings c.next_load.new.self in
    let after = g.L.LoadSource.left c.next_load.new.self in (
      on_next g.S.UnitSink.has_taken c.args.code.now c.args.budget c.args.sink.now c.loads.sink c.call_run.new.sink c.loads.executed (g.L.LoadSource.left c.args.source.now) before after load
          c.args.machine.now c.loads.machine c.call_run.new.self c.in_ok-unit.unit c.loads.invariant.0 (next_is c.next_load.result before load after c.loads-test.true c.next_load.ensures.next)
          c.in_ok-unit.ensures.ran c.in_ok-unit.ensures.spent c.in_ok-sum.sum c.in_ok-sum.ensures (sym c.spent.ensures ∙ c.if-spent.false) c.in_ok-unit.ensures.scaled c.in_ok-unit.ensures.program,
      c.next_load.ensures.grouped ∙ c.loads.invariant.1,
    )

pub returns-then-spent-clause-ran : goal.returns-then-spent-clause-ran
returns-then-spent-clause-ran g c =
    let before = g.L.LoadSource.left c.loads.source in
    let load = g.L.UnitLoad.settings c.next_load.new.self in
    let after = g.L.LoadSource.left c.next_load.new.self in
    let end : UnitsEnd = record { ending = c.in_ok-unit.unit.ending; executed = c.in_ok-sum.sum } in
    stops_here g.S.UnitSink.has_taken c.args.code.now c.args.budget c.args.sink.now c.loads.sink c.call_run.new.sink c.loads.executed (g.L.LoadSource.left c.args.source.now) before after load
    c.args.machine.now c.loads.machine c.call_run.new.self c.in_ok-unit.unit c.loads.invariant.0 (next_is c.next_load.result before load after c.loads-test.true c.next_load.ensures.next)
    c.in_ok-unit.ensures.ran c.in_ok-unit.ensures.spent end (sym c.spent.ensures ∙ c.if-spent.true) refl c.in_ok-sum.ensures

pub returns-then-spent-clause-program : goal.returns-then-spent-clause-program
returns-then-spent-clause-program g c = c.in_ok-unit.ensures.program ∙ c.loads.invariant.0.program

pub returns-clause-ran : goal.returns-clause-ran
returns-clause-ran g c =
    let before = g.L.LoadSource.left c.loads.source in
    let load = g.L.UnitLoad.settings c.next_load.new.self in
    let after = g.L.LoadSource.left c.next_load.new.self in
    let end : UnitsEnd = record { ending = Normal; executed = c.loads.executed } in
    all_on g.S.UnitSink.has_taken c.args.code.now c.args.budget c.args.sink.now c.loads.sink c.loads.executed (g.L.LoadSource.left c.args.source.now) before c.args.machine.now c.loads.machine end
    c.loads.invariant.0 (none_is c.next_load.result before load after c.loads-test.false c.next_load.ensures.next) refl refl

pub returns-clause-scaled : goal.returns-clause-scaled
returns-clause-scaled g c = λ ready. c.loads.invariant.0.scaled

pub returns-clause-program : goal.returns-clause-program
returns-clause-program g c = c.loads.invariant.0.program
