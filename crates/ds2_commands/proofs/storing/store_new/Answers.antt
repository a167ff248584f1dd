use Rattle.std.proofs.Common.{List, Option, subst, flat_map, Ok, Err, ◌∙◌}
use Rattle.ds2_outside.specs.Files.{Files}
use Rattle.ds2_compile.specs.StagedParts.{StagedParts}
use Rattle.ds2_answer.specs.ObjectPlans.{outputs_of_code}
use Rattle.ds2_answer.specs.TablePlans.{none_made}
use Rattle.ds2_store_steps.specs.OutputAsks.{AsksOutputs}
use Rattle.ds2_commands.specs.SourceLoads.{StoresReadable}
use Rattle.ds2_commands.proofs.CommandSteps.{readable_asked}
use Rattle.ds2_commands.proofs.StoreSteps.{new_halts, new_stored}
use Rattle.ds2_commands.proofs.storing.store_new.Goals as goal

pub returns-in_err-ask_outputs-clause-does : goal.returns-in_err-ask_outputs-clause-does
returns-in_err-ask_outputs-clause-does g c =
    new_halts c.args.source.now c.args.object.now c.args.session.now.log c.ask_outputs.new.session.log (g.S.Store.files c.args.session.now.store.now) (g.S.Store.files c.ask_outputs.new.session.store.now) c.in_err-ask_outputs.field-0.0 c.from_residual.result c.from_residual.ensures.1
    (subst (λ (codes : List StagedParts). AsksOutputs none_made (flat_map outputs_of_code codes) c.args.session.now.log (g.S.Store.files c.args.session.now.store.now) (Err c.in_err-ask_outputs.field-0.0) c.ask_outputs.new.session.log (g.S.Store.files c.ask_outputs.new.session.store.now))
    (c.as_slice-codes.ensures ∙ c.programs.ensures.value) c.in_err-ask_outputs.ensures.asks)

pub returns-clause-does : goal.returns-clause-does
returns-clause-does g c =
    new_stored c.args.source.now c.args.object.now c.args.session.now.log c.ask_outputs.new.session.log c.store_object.new.session.log
    (g.S.Store.files c.args.session.now.store.now) (g.S.Store.files c.ask_outputs.new.session.store.now) (g.S.Store.files c.store_object.new.session.store.now) c.store_object.result
    (subst (λ (codes : List StagedParts). AsksOutputs none_made (flat_map outputs_of_code codes) c.args.session.now.log (g.S.Store.files c.args.session.now.store.now) (Ok tt) c.ask_outputs.new.session.log (g.S.Store.files c.ask_outputs.new.session.store.now))
    (c.as_slice-codes.ensures ∙ c.programs.ensures.value) c.in_ok-ask_outputs.ensures.asks)
    c.store_object.ensures.does

pub returns-in_err-ask_outputs-clause-readable : goal.returns-in_err-ask_outputs-clause-readable
returns-in_err-ask_outputs-clause-readable g c =
    readable_asked c.args.object.now (flat_map outputs_of_code c.as_slice-codes.result.now) c.args.session.now.log c.ask_outputs.new.session.log (g.S.Store.files c.args.session.now.store.now) (g.S.Store.files c.ask_outputs.new.session.store.now) c.in_err-ask_outputs.field-0.0
    c.from_residual.result c.from_residual.ensures.1 c.in_err-ask_outputs.ensures.asks

pub returns-clause-readable : goal.returns-clause-readable
returns-clause-readable g c =
    subst (λ (told : Option Files). StoresReadable c.args.object.now c.store_object.result told (g.S.Store.files c.store_object.new.session.store.now)) c.in_ok-ask_outputs.ensures.asks.0 c.store_object.ensures.readable
