use Rattle.std.proofs.Common.{◌<◌, refl, sym, ap, ◌∙◌, arith}
use Rattle.std.specs.Option.{option_copied}
use Rattle.std.proofs.lemmas.Option.{slice_get_within}
use Rattle.ds2_code.specs.CodeBound.{work_left}
use Rattle.ds2_machine.specs.MachineView.{machine_of_state, nothing_told}
use Rattle.ds2_machine.proofs.RunScales.{may_compute, goes_on_scaled, ends_scaled}
use Rattle.ds2_machine.proofs.Runs.{under_way_at_first, goes_on, ends_so, stuck_so, works_less}
use Rattle.ds2_machine.proofs.state.State.run.Goals as goal

pub steps-init : goal.steps-init
steps-init g c = record { ran = under_way_at_first g.S.UnitSink.has_taken c.args.code.now c.args.sink.now c.args.self.now; bound = omega arith; same_code = refl; scaled = c.requires.scaled }

pub returns-in_default-clause-scaled : goal.returns-in_default-clause-scaled
returns-in_default-clause-scaled g c = λ normal. absurd cc

pub returns-in_default-clause-ran : goal.returns-in_default-clause-ran
returns-in_default-clause-ran g c =
    stuck_so g.S.UnitSink.has_taken c.args.code.now c.args.sink.now c.steps.sink c.steps.executed (machine_of_state c.args.self.now nothing_told) c.steps.self c.steps.invariant.ran (sym c.get-next.ensures ∙ ap option_copied c.in_default.is)

pub act-requires-clause-at : goal.act-requires-clause-at
act-requires-clause-at g c =
    let within = slice_get_within c.args.code.now.instrs c.steps.self.at c.in-Some.instr.now (sym c.in-Some.ensures) in
    omega (arith, within, c.requires.executable.short)

pub act-requires-clause-bounds : goal.act-requires-clause-bounds
act-requires-clause-bounds g c = c.requires.executable.bounds c.steps.self.at c.in-Some.instr.now (sym c.in-Some.ensures)

pub act-requires-clause-scales : goal.act-requires-clause-scales
act-requires-clause-scales g c = may_compute c.products_have_scales.ensures c.args.code.now (machine_of_state c.steps.self nothing_told) c.in-Some.instr.now c.steps.invariant.scaled (sym c.in-Some.ensures)

pub returns-in-Some-2-clause-scaled : goal.returns-in-Some-2-clause-scaled
returns-in-Some-2-clause-scaled g c = λ normal.
    ends_scaled c.args.code.now g.S.UnitSink.has_taken c.steps.sink c.act.new.sink c.in-Some.instr.now c.steps.self c.act.new.self c.in_ok-halt.field-0 (sym c.in-Some.ensures) c.in_ok-halt.ensures c.steps.invariant.scaled c.units_end_scaled.ensures c.in-Some-2.halt c.in-Some-2.is normal

pub returns-in-Some-2-clause-ran : goal.returns-in-Some-2-clause-ran
returns-in-Some-2-clause-ran g c =
    ends_so g.S.UnitSink.has_taken c.args.code.now c.args.sink.now c.steps.sink c.act.new.sink c.steps.executed (machine_of_state c.args.self.now nothing_told) c.in-Some.instr.now c.steps.self c.act.new.self c.in_ok-halt.field-0 c.steps.invariant.ran (sym c.in-Some.ensures) c.in_ok-halt.ensures c.in-Some-2.halt c.in-Some-2.is

pub steps-smaller : goal.steps-smaller
steps-smaller g c = works_less c.args.code.now c.instructions_leave_less.ensures c.requires.executable.steps c.in-Some.instr.now c.steps.self c.act.new.self c.in_ok-halt.field-0 g.S.UnitSink.has_taken c.steps.sink c.act.new.sink (sym c.in-Some.ensures) c.in_ok-halt.ensures c.in_default-2.is

pub steps-preserved : goal.steps-preserved
steps-preserved g c =
    let less : work_left c.args.code.now.instrs (machine_of_state c.act.new.self nothing_told) < work_left c.args.code.now.instrs (machine_of_state c.steps.self nothing_told) = works_less c.args.code.now c.instructions_leave_less.ensures c.requires.executable.steps c.in-Some.instr.now c.steps.self c.act.new.self c.in_ok-halt.field-0 g.S.UnitSink.has_taken c.steps.sink c.act.new.sink (sym c.in-Some.ensures) c.in_ok-halt.ensures c.in_default-2.is in
    record {
      ran = goes_on g.S.UnitSink.has_taken c.args.code.now c.args.sink.now c.steps.sink c.act.new.sink c.steps.executed (machine_of_state c.args.self.now nothing_told) c.in-Some.instr.now c.steps.self c.act.new.self c.in_ok-halt.field-0 c.steps.invariant.ran (sym c.in-Some.ensures) c.in_ok-halt.ensures c.in_default-2.is;
      bound = omega (arith, less, c.steps.invariant.bound);
      same_code = refl;
      scaled = goes_on_scaled c.args.code.now g.S.UnitSink.has_taken c.steps.sink c.act.new.sink c.in-Some.instr.now c.steps.self c.act.new.self c.in_ok-halt.field-0 (sym c.in-Some.ensures) c.in_ok-halt.ensures c.steps.invariant.scaled c.instructions_keep_scales.ensures c.in_default-2.is;
    }
