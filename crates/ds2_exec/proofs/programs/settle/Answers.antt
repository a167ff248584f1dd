use Rattle.ds2_exec.specs.OutputSinks.{code_end_then}
use Rattle.ds2_exec.proofs.ProgramSteps.{program_halts, program_unkept}
use Rattle.ds2_exec.proofs.programs.settle.Goals as goal

pub returns-in_err-leave-clause-does : goal.returns-in_err-leave-clause-does
returns-in_err-leave-clause-does g c rest =
    program_halts (code_end_then c.args.end rest) rest c.args.session.now.log c.leave.new.session.log (g.S.Store.files c.args.session.now.store.now) (g.S.Store.files c.leave.new.session.store.now) c.in_err-leave.field-0.0 c.from_residual.result c.from_residual.ensures.1
    (c.in_err-leave.ensures.does rest)

pub returns-in_err-kept_tables-clause-does : goal.returns-in_err-kept_tables-clause-does
returns-in_err-kept_tables-clause-does g c rest =
    program_unkept (code_end_then c.args.end rest) rest c.args.session.now.log c.leave.new.session.log (g.S.Store.files c.args.session.now.store.now) (g.S.Store.files c.leave.new.session.store.now) c.from_residual-in_err-kept_tables.result c.from_residual-in_err-kept_tables.ensures.1
    (c.in_ok-leave.ensures.does rest)

pub returns-clause-does : goal.returns-clause-does
returns-clause-does g c rest = c.in_ok-leave.ensures.does rest
