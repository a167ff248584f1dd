use Rattle.std.proofs.Common.{Err, refl}
use Rattle.ds2_value.specs.declared.fault.Ending.TheVariants.{Normal, Faulted}
use Rattle.ds2_exec.specs.OutputSinks.{code_end_then}
use Rattle.ds2_store_steps.proofs.Leading.{no_memory}
use Rattle.ds2_exec.proofs.ProgramSteps.{fault_ends, lines_then}
use Rattle.ds2_exec.proofs.programs.leave.Goals as goal

pub returns-in_err-say_lines-clause-does : goal.returns-in_err-say_lines-clause-does
returns-in_err-say_lines-clause-does g c rest =
    no_memory (code_end_then c.args.end.now rest) (λ (_ : Unit {0}). rest) c.args.session.now.log c.say_lines.new.log (g.S.Store.files c.args.session.now.store.now) (g.S.Store.files c.args.session.now.store.now) c.from_residual.result c.from_residual.ensures.1 refl

pub returns-in-Normal-clause-does : goal.returns-in-Normal-clause-does
returns-in-Normal-clause-does g c rest =
    lines_then c.args.end.now rest Normal c.as_slice.result.now c.args.session.now.log c.say_lines.new.log c.finish.new.session.log (g.S.Store.files c.args.session.now.store.now) (g.S.Store.files c.finish.new.session.store.now) c.finish.result c.in-Normal.is c.as_slice.ensures
    c.in_ok-say_lines.ensures (c.finish.ensures.does rest)

pub returns-in-Faulted-clause-does : goal.returns-in-Faulted-clause-does
returns-in-Faulted-clause-does g c rest =
    lines_then c.args.end.now rest (Faulted c.in-Faulted.kind c.in-Faulted.place) c.as_slice.result.now c.args.session.now.log c.say_lines.new.log c.end_in_fault.new.log (g.S.Store.files c.args.session.now.store.now) (g.S.Store.files c.args.session.now.store.now)
    (Err c.end_in_fault.result) c.in-Faulted.is c.as_slice.ensures c.in_ok-say_lines.ensures
    (fault_ends c.args.end.now rest c.in-Faulted.kind c.in-Faulted.place c.say_lines.new.log c.end_in_fault.new.log (g.S.Store.files c.args.session.now.store.now) (g.S.Store.files c.args.session.now.store.now) c.end_in_fault.result c.end_in_fault.ensures refl)
