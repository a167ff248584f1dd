use Rattle.std.proofs.Common.{List, ℕ, IsTrue, Some, refl, subst, sym}
use Rattle.ds2_answer.specs.Words.{is_source}
use Rattle.ds2_commands.proofs.DemoSteps.{demo_ran, demo_short, demo_unread, demo_unwritten}
use Rattle.ds2_commands.proofs.demo.show_demo.Goals as goal

pub run_source-ran-requires-clause-named : goal.run_source-ran-requires-clause-named
run_source-ran-requires-clause-named g c = subst (λ (name : List ℕ). IsTrue (is_source name)) (sym c.in_ok-job.ensures) refl

pub returns-in_err-job-clause-does : goal.returns-in_err-job-clause-does
returns-in_err-job-clause-does g c sources = demo_short sources c.args.n c.args.log.now c.args.log.now c.from_residual.result c.from_residual.ensures.1

pub returns-in_err-files-clause-does : goal.returns-in_err-files-clause-does
returns-in_err-files-clause-does g c sources = demo_short sources c.args.n c.args.log.now c.args.log.now c.from_residual-in_err-files.result c.from_residual-in_err-files.ensures.1

pub returns-clause-does : goal.returns-clause-does
returns-clause-does g c sources =
    demo_ran sources c.args.n c.args.log.now c.end_demo.new.log c.end_demo.result c.in_ok-job.job c.new.result c.in_ok-files.files c.run_source-ran.result c.run_source-ran.new.session.log (Some c.run_source-ran.new.session.store.now)
    c.in_ok-job.ensures c.new.ensures c.in_ok-files.ensures (c.run_source-ran.ensures.does sources) c.run_source-ran.ensures.cause.read c.run_source-ran.ensures.cause.write c.end_demo.ensures

pub returns-clause-unread : goal.returns-clause-unread
returns-clause-unread g c = demo_unread c.sources_are_read.ensures c.args.n c.args.log.now c.end_demo.new.log c.end_demo.result (returns-clause-does g c c.sources_are_read.ensures)

pub returns-clause-unwritten : goal.returns-clause-unwritten
returns-clause-unwritten g c = demo_unwritten c.sources_are_read.ensures c.args.n c.args.log.now c.end_demo.new.log c.end_demo.result (returns-clause-does g c c.sources_are_read.ensures)
