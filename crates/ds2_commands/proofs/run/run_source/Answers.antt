use Rattle.std.proofs.Common.{◌∙◌, refl}
use Rattle.ds2_answer.specs.Plan.{Stops}
use Rattle.ds2_answer.specs.declared.status.Status.TheVariants.{Done}
use Rattle.ds2_store_steps.proofs.Leading.{no_memory}
use Rattle.ds2_commands.specs.CommandOutcomes.{runs_with}
use Rattle.ds2_commands.specs.SourceLoads.{loaded_plan}
use Rattle.ds2_commands.proofs.CommandSteps.{readable_halts, readable_then, run_then, run_unstored, source_does, source_ends}
use Rattle.ds2_commands.proofs.StoreSteps.{fits_of, independent_of, loaded_runs, ran_loaded, runs_of}
use Rattle.ds2_commands.proofs.run.run_source.Goals as goal

pub returns-in_err-loaded-clause-does : goal.returns-in_err-loaded-clause-does
returns-in_err-loaded-clause-does g c sources =
    source_ends sources c.args.asked.now.source.now (runs_with c.args.asked.now.source.now c.args.asked.now.budget) c.args.session.now.log c.load_source.new.session.log (g.S.Store.files c.args.session.now.store.now) (g.S.Store.files c.load_source.new.session.store.now) c.in_err-loaded.field-0.0
    c.from_residual.result c.from_residual.ensures.1 (c.in_err-loaded.ensures.loads sources)

pub returns-in_err-store_new-clause-does : goal.returns-in_err-store_new-clause-does
returns-in_err-store_new-clause-does g c sources =
    let source = c.args.asked.now.source.now in
    let budget = c.args.asked.now.budget in
    let loaded = c.in_ok-loaded.loaded in
    let between = g.S.Store.files c.load_source.new.session.store.now in
    let now = g.S.Store.files c.store_new.new.session.store.now in
    source_does sources source (runs_with source budget) loaded c.args.session.now.log c.load_source.new.session.log c.store_new.new.session.log (g.S.Store.files c.args.session.now.store.now) between now c.from_residual-in_err-store_new.result
    (c.in_ok-loaded.ensures.loads sources)
    (run_unstored c.codes_do_as_programs.ensures source budget loaded c.load_source.new.session.log c.store_new.new.session.log between now c.in_err-store_new.field-0.0 c.from_residual-in_err-store_new.result c.from_residual-in_err-store_new.ensures.1
    c.in_err-store_new.ensures.does)
    (λ keeps. readable_halts loaded.object between now c.in_err-store_new.field-0.0 c.from_residual-in_err-store_new.result c.from_residual-in_err-store_new.ensures.1 c.in_err-store_new.ensures.readable)

pub returns-in_err-codes-clause-does : goal.returns-in_err-codes-clause-does
returns-in_err-codes-clause-does g c sources =
    let source = c.args.asked.now.source.now in
    let budget = c.args.asked.now.budget in
    let loaded = c.in_ok-loaded.loaded in
    let log = c.store_new.new.session.log in
    let began = g.S.Store.files c.load_source.new.session.store.now in
    let now = g.S.Store.files c.store_new.new.session.store.now in
    let result = c.from_residual-in_err-codes.result in
    source_does sources source (runs_with source budget) loaded c.args.session.now.log c.load_source.new.session.log log (g.S.Store.files c.args.session.now.store.now) began now result (c.in_ok-loaded.ensures.loads sources)
    (run_then c.codes_do_as_programs.ensures source budget loaded c.load_source.new.session.log log log began now now result c.in_ok-store_new.ensures.does
    (no_memory (loaded_plan budget loaded) (λ (_ : Unit {0}). Stops Done) log log now now result c.from_residual-in_err-codes.ensures.1 refl))
    (λ keeps. readable_then loaded.object began now now result c.in_ok-store_new.ensures.readable)

pub run_programs-requires-clause-fit : goal.run_programs-requires-clause-fit
run_programs-requires-clause-fit g c =
    let loaded = c.in_ok-loaded.loaded in
    fits_of loaded.object c.in_ok-codes.codes loaded.verdicts c.as_slice-verdicts.result.now (c.in_ok-codes.ensures ∙ c.as_slice.ensures ∙ c.programs.ensures.value) c.as_slice-verdicts.ensures
    (loaded_runs _ _ _ _ _ _ (c.in_ok-loaded.ensures.loads c.sources_are_read.ensures)).fit

pub run_programs-requires-clause-linked : goal.run_programs-requires-clause-linked
run_programs-requires-clause-linked g c =
    let loaded = c.in_ok-loaded.loaded in
    runs_of loaded.object c.in_ok-codes.codes loaded.stored c.as_slice-stored.result.now (c.in_ok-codes.ensures ∙ c.as_slice.ensures ∙ c.programs.ensures.value) c.as_slice-stored.ensures
    (loaded_runs _ _ _ _ _ _ (c.in_ok-loaded.ensures.loads c.sources_are_read.ensures)).linked

pub run_programs-requires-clause-independent : goal.run_programs-requires-clause-independent
run_programs-requires-clause-independent g c =
    let loaded = c.in_ok-loaded.loaded in
    independent_of loaded.object c.in_ok-codes.codes loaded.verdicts c.as_slice-verdicts.result.now (c.in_ok-codes.ensures ∙ c.as_slice.ensures ∙ c.programs.ensures.value) c.as_slice-verdicts.ensures
    (loaded_runs _ _ _ _ _ _ (c.in_ok-loaded.ensures.loads c.sources_are_read.ensures)).independent

pub returns-clause-does : goal.returns-clause-does
returns-clause-does g c sources =
    let source = c.args.asked.now.source.now in
    let budget = c.args.asked.now.budget in
    let loaded = c.in_ok-loaded.loaded in
    let began = g.S.Store.files c.load_source.new.session.store.now in
    let between = g.S.Store.files c.store_new.new.session.store.now in
    let now = g.S.Store.files c.run_programs.new.session.store.now in
    source_does sources source (runs_with source budget) loaded c.args.session.now.log c.load_source.new.session.log c.run_programs.new.session.log (g.S.Store.files c.args.session.now.store.now) began now c.run_programs.result
    (c.in_ok-loaded.ensures.loads sources)
    (run_then c.codes_do_as_programs.ensures source budget loaded c.load_source.new.session.log c.store_new.new.session.log c.run_programs.new.session.log began between now c.run_programs.result c.in_ok-store_new.ensures.does
    (ran_loaded budget loaded c.in_ok-codes.codes c.as_slice-stored.result.now c.as_slice-verdicts.result.now (c.in_ok-codes.ensures ∙ c.as_slice.ensures ∙ c.programs.ensures.value) c.as_slice-stored.ensures c.as_slice-verdicts.ensures
    c.store_new.new.session.log c.run_programs.new.session.log between now c.run_programs.result c.run_programs.ensures.does))
    (λ keeps. readable_then loaded.object began between now c.run_programs.result c.in_ok-store_new.ensures.readable)
