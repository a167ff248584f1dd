use Rattle.std.proofs.Common.{refl}
use Rattle.ds2_answer.specs.SourcePlans.{compile_programs_of}
use Rattle.ds2_commands.specs.CommandOutcomes.{compiles}
use Rattle.ds2_commands.proofs.CommandSteps.{source_does_one, source_ends}
use Rattle.ds2_commands.proofs.compile.compile_source.Goals as goal

pub returns-in_err-loaded-clause-does : goal.returns-in_err-loaded-clause-does
returns-in_err-loaded-clause-does g c sources =
    source_ends sources c.args.source.now (compiles c.args.source.now) c.args.session.now.log c.load_source.new.session.log (g.S.Store.files c.args.session.now.store.now) (g.S.Store.files c.load_source.new.session.store.now) c.in_err-loaded.field-0.0
    c.from_residual.result c.from_residual.ensures.1 (c.in_err-loaded.ensures.loads sources)

pub returns-clause-does : goal.returns-clause-does
returns-clause-does g c sources =
    source_does_one sources c.args.source.now (compiles c.args.source.now) c.in_ok-loaded.loaded (compile_programs_of c.args.source.now c.in_ok-loaded.loaded.object) (λ there programs. refl)
    c.args.session.now.log c.load_source.new.session.log c.store_loaded.new.session.log (g.S.Store.files c.args.session.now.store.now) (g.S.Store.files c.load_source.new.session.store.now) (g.S.Store.files c.store_loaded.new.session.store.now) c.store_loaded.result (c.in_ok-loaded.ensures.loads sources) c.store_loaded.ensures.does (λ keeps. c.store_loaded.ensures.readable)
