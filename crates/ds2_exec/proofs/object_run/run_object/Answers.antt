use Rattle.std.proofs.Common.{List, [], map, refl, sym, ap, subst, ◌≡◌, ◌∙◌, true}
use Rattle.ds2_code.specs.declared.parts.StagedParts.{StagedParts}
use Rattle.ds2_object.specs.ObjectSpelling.{object_linked}
use Rattle.ds2_answer.specs.HeldTables.{held_from_store}
use Rattle.ds2_answer.specs.ObjectPlans.{references_of, run_of_code}
use Rattle.ds2_answer.specs.ProgramPlans.{programs_plan}
use Rattle.ds2_verdicts.specs.ThreadVerdicts.{verdict_named}
use Rattle.ds2_store_steps.specs.Halts.{FollowsAll}
use Rattle.ds2_store_steps.specs.TableReads.{AreTablesRead}
use Rattle.ds2_exec.specs.CodeRuns.{AreLinked}
use Rattle.ds2_exec.proofs.CodeSteps.{grains_fit, object_links}
use Rattle.ds2_exec.proofs.ExecSteps.{inputs_are, inputs_differ, object_is, object_then, object_unnamed, object_unread, outputs_not_there, outputs_there}
use Rattle.ds2_exec.proofs.LocalSteps.{none_local}
use Rattle.ds2_exec.proofs.object_run.run_object.Goals as goal

pub read_tables-requires : goal.read_tables-requires
read_tables-requires g c = record {
  apart = inputs_differ c.as_slice-codes.result.now c.as_slice.result.now
      (c.as_slice.ensures ∙ inputs_are c.as_slice-codes.result.now c.references-references.result.now c.in_ok-names.names (c.references-references.ensures ∙ ap references_of c.in_ok-named.ensures) c.in_ok-names.ensures);
}

pub run_programs-requires-clause-fit : goal.run_programs-requires-clause-fit
run_programs-requires-clause-fit g c = grains_fit c.in_ok-named.named

pub run_programs-requires-clause-independent : goal.run_programs-requires-clause-independent
run_programs-requires-clause-independent g c = none_local c.in_ok-named.named

pub run_programs-requires-clause-linked : goal.run_programs-requires-clause-linked
run_programs-requires-clause-linked g c =
    subst (λ (cs : List StagedParts). AreLinked cs c.as_slice-2.result.now) (sym c.in_ok-named.ensures)
    (object_links c.as_slice-codes.result.now c.references-references.result.now c.as_slice.result.now c.as_slice-2.result.now
    (subst (λ (cs : List StagedParts). object_linked cs ≡ true) (sym (c.as_slice-codes.ensures ∙ c.programs.ensures.value)) c.programs.ensures.linked)
    (c.references-references.ensures ∙ ap references_of c.in_ok-named.ensures)
    (c.as_slice.ensures ∙ inputs_are c.as_slice-codes.result.now c.references-references.result.now c.in_ok-names.names (c.references-references.ensures ∙ ap references_of c.in_ok-named.ensures) c.in_ok-names.ensures)
    (subst (λ read. AreTablesRead c.references-references.result.now c.as_slice.result.now read) (sym c.as_slice-2.ensures) c.in_ok-stored.ensures.kept.0))

pub returns-in_err-named-clause-does : goal.returns-in_err-named-clause-does
returns-in_err-named-clause-does g c =
    object_unnamed c.args.object.now c.args.budget c.args.session.now.log c.args.session.now.log (g.S.Store.files c.args.session.now.store.now) (g.S.Store.files c.args.session.now.store.now) c.from_residual.result c.from_residual.ensures.1 refl

pub returns-in_err-names-clause-does : goal.returns-in_err-names-clause-does
returns-in_err-names-clause-does g c =
    object_unnamed c.args.object.now c.args.budget c.args.session.now.log c.args.session.now.log (g.S.Store.files c.args.session.now.store.now) (g.S.Store.files c.args.session.now.store.now) c.from_residual-in_err-names.result c.from_residual-in_err-names.ensures.1 refl

pub returns-in_err-stored-clause-does : goal.returns-in_err-stored-clause-does
returns-in_err-stored-clause-does g c =
    object_is c.as_slice-codes.result.now c.args.object.now c.args.budget (g.S.Store.files c.args.session.now.store.now) c.args.session.now.log (g.S.Store.files c.read_tables.new.session.store.now) c.read_tables.new.session.log c.from_residual-in_err-stored.result (c.as_slice-codes.ensures ∙ c.programs.ensures.value)
    (object_unread c.as_slice-codes.result.now c.args.budget c.references-references.result.now c.as_slice.result.now c.args.session.now.log c.read_tables.new.session.log (g.S.Store.files c.args.session.now.store.now) (g.S.Store.files c.read_tables.new.session.store.now) c.in_err-stored.field-0.0
    c.from_residual-in_err-stored.result (c.references-references.ensures ∙ ap references_of c.in_ok-named.ensures)
    (c.as_slice.ensures ∙ inputs_are c.as_slice-codes.result.now c.references-references.result.now c.in_ok-names.names (c.references-references.ensures ∙ ap references_of c.in_ok-named.ensures) c.in_ok-names.ensures)
    c.from_residual-in_err-stored.ensures.1 c.in_err-stored.ensures.loads)

pub returns-in_err-ask_outputs-clause-does : goal.returns-in_err-ask_outputs-clause-does
returns-in_err-ask_outputs-clause-does g c =
    object_is c.as_slice-codes.result.now c.args.object.now c.args.budget (g.S.Store.files c.args.session.now.store.now) c.args.session.now.log (g.S.Store.files c.ask_outputs.new.session.store.now) c.ask_outputs.new.session.log c.from_residual-in_err-ask_outputs.result (c.as_slice-codes.ensures ∙ c.programs.ensures.value)
    (object_then c.as_slice-codes.result.now c.args.budget c.references-references.result.now c.as_slice.result.now c.in_ok-stored.stored c.args.session.now.log c.read_tables.new.session.log c.ask_outputs.new.session.log (g.S.Store.files c.args.session.now.store.now) (g.S.Store.files c.read_tables.new.session.store.now)
    (g.S.Store.files c.ask_outputs.new.session.store.now) c.from_residual-in_err-ask_outputs.result (c.references-references.ensures ∙ ap references_of c.in_ok-named.ensures)
    (c.as_slice.ensures ∙ inputs_are c.as_slice-codes.result.now c.references-references.result.now c.in_ok-names.names (c.references-references.ensures ∙ ap references_of c.in_ok-named.ensures) c.in_ok-names.ensures)
    c.in_ok-stored.ensures.loads
    (outputs_there c.as_slice-codes.result.now c.args.budget c.in_ok-stored.stored c.read_tables.new.session.log c.ask_outputs.new.session.log (g.S.Store.files c.read_tables.new.session.store.now) (g.S.Store.files c.ask_outputs.new.session.store.now) c.in_err-ask_outputs.field-0.0
    c.from_residual-in_err-ask_outputs.result c.from_residual-in_err-ask_outputs.ensures.1 c.in_err-ask_outputs.ensures.asks))

pub returns-clause-does : goal.returns-clause-does
returns-clause-does g c =
    object_is c.as_slice-codes.result.now c.args.object.now c.args.budget (g.S.Store.files c.args.session.now.store.now) c.args.session.now.log (g.S.Store.files c.run_programs.new.session.store.now) c.run_programs.new.session.log c.run_programs.result (c.as_slice-codes.ensures ∙ c.programs.ensures.value)
    (object_then c.as_slice-codes.result.now c.args.budget c.references-references.result.now c.as_slice.result.now c.in_ok-stored.stored c.args.session.now.log c.read_tables.new.session.log c.run_programs.new.session.log (g.S.Store.files c.args.session.now.store.now) (g.S.Store.files c.read_tables.new.session.store.now)
    (g.S.Store.files c.run_programs.new.session.store.now) c.run_programs.result (c.references-references.ensures ∙ ap references_of c.in_ok-named.ensures)
    (c.as_slice.ensures ∙ inputs_are c.as_slice-codes.result.now c.references-references.result.now c.in_ok-names.names (c.references-references.ensures ∙ ap references_of c.in_ok-named.ensures) c.in_ok-names.ensures)
    c.in_ok-stored.ensures.loads
    (outputs_not_there c.as_slice-codes.result.now c.args.budget c.in_ok-stored.stored c.as_slice-2.result.now c.read_tables.new.session.log c.ask_outputs.new.session.log c.run_programs.new.session.log (g.S.Store.files c.read_tables.new.session.store.now) (g.S.Store.files c.ask_outputs.new.session.store.now)
    (g.S.Store.files c.run_programs.new.session.store.now) c.run_programs.result c.as_slice-2.ensures c.in_ok-ask_outputs.ensures.asks
    (subst (λ (cs : List StagedParts). FollowsAll (programs_plan (map (run_of_code (verdict_named []) c.args.budget) cs) (held_from_store c.as_slice-2.result.now)) c.ask_outputs.new.session.log (g.S.Store.files c.ask_outputs.new.session.store.now) c.run_programs.result
    c.run_programs.new.session.log (g.S.Store.files c.run_programs.new.session.store.now)) c.in_ok-named.ensures c.run_programs.ensures.does)))
