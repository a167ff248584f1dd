use Rattle.std.proofs.Common.{List, ◌∙◌, ◌++◌, refl, ap, Ok}
use Rattle.ds2_answer.specs.Plan.{Stops}
use Rattle.ds2_answer.specs.SourcePlans.{check_threads}
use Rattle.ds2_answer.specs.declared.status.Status.TheVariants.{Done}
use Rattle.ds2_verdicts.specs.declared.verdicts.ThreadVerdict.{ThreadVerdict}
use Rattle.ds2_store_steps.proofs.Leading.{no_memory}
use Rattle.ds2_commands.specs.CommandOutcomes.{checks, verdicts_said}
use Rattle.ds2_commands.proofs.CommandSteps.{never_keeps, source_does_one, source_ends, verdicts_told}
use Rattle.ds2_commands.proofs.check.check_source.Goals as goal

pub returns-in_err-loaded-clause-does : goal.returns-in_err-loaded-clause-does
returns-in_err-loaded-clause-does g c sources =
    source_ends sources c.args.source.now checks c.args.session.now.log c.load_source.new.session.log (g.S.Store.files c.args.session.now.store.now) (g.S.Store.files c.load_source.new.session.store.now) c.in_err-loaded.field-0.0
    c.from_residual.result c.from_residual.ensures.1 (c.in_err-loaded.ensures.loads sources)

pub returns-in_err-say_verdicts-clause-does : goal.returns-in_err-say_verdicts-clause-does
returns-in_err-say_verdicts-clause-does g c sources =
    let plan = check_threads c.in_ok-loaded.loaded.verdicts in
    source_does_one sources c.args.source.now checks c.in_ok-loaded.loaded plan (λ there programs. refl)
    c.args.session.now.log c.load_source.new.session.log c.say_verdicts.new.log (g.S.Store.files c.args.session.now.store.now) (g.S.Store.files c.load_source.new.session.store.now) (g.S.Store.files c.load_source.new.session.store.now) c.from_residual-in_err-say_verdicts.result
    (c.in_ok-loaded.ensures.loads sources)
    (no_memory plan (λ (_ : Unit {0}). Stops Done) c.load_source.new.session.log c.say_verdicts.new.log (g.S.Store.files c.load_source.new.session.store.now) (g.S.Store.files c.load_source.new.session.store.now) c.from_residual-in_err-say_verdicts.result
    c.from_residual-in_err-say_verdicts.ensures.1 refl) (λ keeps. never_keeps keeps)

pub returns-clause-does : goal.returns-clause-does
returns-clause-does g c sources =
    source_does_one sources c.args.source.now checks c.in_ok-loaded.loaded (check_threads c.in_ok-loaded.loaded.verdicts) (λ there programs. refl)
    c.args.session.now.log c.load_source.new.session.log c.say_verdicts.new.log (g.S.Store.files c.args.session.now.store.now) (g.S.Store.files c.load_source.new.session.store.now) (g.S.Store.files c.load_source.new.session.store.now) (Ok tt) (c.in_ok-loaded.ensures.loads sources)
    (verdicts_told c.in_ok-loaded.loaded.verdicts c.load_source.new.session.log c.say_verdicts.new.log (g.S.Store.files c.load_source.new.session.store.now)
    (c.in_ok-say_verdicts.ensures ∙ ap (λ (vs : List ThreadVerdict). c.load_source.new.session.log ++ verdicts_said vs) c.as_slice.ensures)) (λ keeps. never_keeps keeps)
