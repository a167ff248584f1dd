use Rattle.ds2_exec.proofs.ProgramSteps.{counts_then, finished, not_counted, not_written}
use Rattle.ds2_exec.proofs.programs.finish.Goals as goal

pub returns-clause-does : goal.returns-clause-does
returns-clause-does g c rest =
    finished c.args.end.now rest c.as_slice.result.now c.args.session.now.log c.write_tables.new.session.log c.say_counts.new.log (g.S.Store.files c.args.session.now.store.now) (g.S.Store.files c.write_tables.new.session.store.now) c.as_slice.ensures
    (c.in_ok-write_tables.ensures.does (counts_then c.args.end.now rest)) c.in_ok-say_counts.ensures

pub returns-in_err-write_tables-clause-does : goal.returns-in_err-write_tables-clause-does
returns-in_err-write_tables-clause-does g c rest =
    not_written c.args.end.now rest c.as_slice.result.now c.args.session.now.log c.write_tables.new.session.log (g.S.Store.files c.args.session.now.store.now) (g.S.Store.files c.write_tables.new.session.store.now) c.in_err-write_tables.field-0.0 c.from_residual.result c.as_slice.ensures
    c.from_residual.ensures.1 (c.in_err-write_tables.ensures.does (counts_then c.args.end.now rest))

pub returns-in_err-say_counts-clause-does : goal.returns-in_err-say_counts-clause-does
returns-in_err-say_counts-clause-does g c rest =
    not_counted c.args.end.now rest c.as_slice.result.now c.args.session.now.log c.write_tables.new.session.log c.say_counts.new.log (g.S.Store.files c.args.session.now.store.now) (g.S.Store.files c.write_tables.new.session.store.now) c.from_residual-in_err-say_counts.result
    c.as_slice.ensures c.from_residual-in_err-say_counts.ensures.1 (c.in_ok-write_tables.ensures.does (counts_then c.args.end.now rest))
