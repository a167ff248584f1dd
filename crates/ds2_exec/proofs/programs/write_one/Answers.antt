use Rattle.ds2_exec.specs.OutputSinks.{write_sink_then}
use Rattle.ds2_store_steps.proofs.Leading.{no_memory}
use Rattle.ds2_exec.proofs.ProgramSteps.{table_written}
use Rattle.std.proofs.Common.{refl}
use Rattle.ds2_exec.proofs.programs.write_one.Goals as goal

pub returns-in_err-file-clause-does : goal.returns-in_err-file-clause-does
returns-in_err-file-clause-does g c rest =
    no_memory (write_sink_then c.args.table.now rest) (λ (_ : Unit {0}). rest) c.args.session.now.log c.args.session.now.log (g.S.Store.files c.args.session.now.store.now) (g.S.Store.files c.args.session.now.store.now) c.from_residual.result c.from_residual.ensures.1 refl

pub returns-clause-does : goal.returns-clause-does
returns-clause-does g c rest =
    table_written c.args.table.now c.in_ok-file.file c.args.table.now.written.text rest c.args.session.now.log c.write_file.new.session.log (g.S.Store.files c.args.session.now.store.now) (g.S.Store.files c.write_file.new.session.store.now) c.write_file.result
    c.in_ok-file.ensures refl (c.write_file.ensures.does rest)
