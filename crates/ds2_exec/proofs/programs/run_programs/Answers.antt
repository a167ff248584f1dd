use Rattle.std.proofs.Common.{ℕ, IsTrue, List, [], ◌∷◌, arith, drop, length, refl, sym, ap, subst, ◌∙◌}
use Rattle.std.specs.Prelude.{nat_eq, slice_get}
use Rattle.std.specs.Cmp.Lexicographic.{pointwise}
use Rattle.std.specs.HashSet.{contains}
use Rattle.std.specs.List.{AllByRecursion}
use Rattle.std.proofs.lemmas.List.{length-append}
use Rattle.ds2_code.specs.declared.parts.StagedParts.{StagedParts}
use Rattle.ds2_object.specs.ObjectSpelling.{linked_behind}
use Rattle.ds2_verdicts.specs.ThreadVerdicts.{verdict_named}
use Rattle.ds2_answer.specs.HeldTables.{NamedTable}
use Rattle.ds2_answer.specs.Plan.{Stops}
use Rattle.ds2_answer.specs.declared.status.Status.TheVariants.{Done}
use Rattle.ds2_exec.specs.LocalCodes.{IsIndependentWhereLocal}
use Rattle.ds2_exec.proofs.GatheredCodes.{next_at}
use Rattle.ds2_exec.proofs.LocalSteps.{first_local}
use Rattle.ds2_store_steps.proofs.Leading.{item_is, no_memory, none_is_left}
use Rattle.ds2_exec.proofs.RunSteps.{AreRunSoFar, next_program, plan_of, run_all, run_kept, run_settled, run_unbegun, running_begins, settled_halts, settled_unkept}
use Rattle.ds2_exec.proofs.programs.run_programs.Goals as goal

pub returns-in_err-names-clause-does : goal.returns-in_err-names-clause-does
returns-in_err-names-clause-does g c =
    no_memory (plan_of (verdict_named c.args.input.now.verdicts.now) c.args.input.now.budget c.args.input.now.stored.now c.args.input.now.codes.now []) (λ (_ : Unit {0}). Stops Done) c.args.session.now.log c.args.session.now.log (g.S.Store.files c.args.session.now.store.now) (g.S.Store.files c.args.session.now.store.now) c.from_residual.result
    c.from_residual.ensures.1 refl

pub key_of_run-requires : goal.key_of_run-requires
key_of_run-requires g c = subst (λ (cs : List StagedParts). IsTrue (linked_behind [] cs)) (sym c.codes-codes.ensures) c.requires.linked.links

pub returns-in_err-key-clause-does : goal.returns-in_err-key-clause-does
returns-in_err-key-clause-does g c =
    no_memory (plan_of (verdict_named c.args.input.now.verdicts.now) c.args.input.now.budget c.args.input.now.stored.now c.args.input.now.codes.now []) (λ (_ : Unit {0}). Stops Done) c.args.session.now.log c.args.session.now.log (g.S.Store.files c.args.session.now.store.now) (g.S.Store.files c.args.session.now.store.now) c.from_residual-in_err-key.result
    c.from_residual-in_err-key.ensures.1 refl

pub loop-left-init : goal.loop-left-init
loop-left-init g c =
    let keeps = contains (pointwise nat_eq) c.in_ok-names.names in
    let told = verdict_named c.args.input.now.verdicts.now in
    let codes' = c.args.input.now.codes.now in
    let log = c.args.session.now.log in
    let files = g.S.Store.files c.args.session.now.store.now in
    record {
      place = ap (λ (made : List (List NamedTable)). drop (length made) codes') c.new-made.ensures ∙ sym c.codes-codes.ensures;
      run = subst (λ (cs : List StagedParts). AreRunSoFar keeps told c.args.input.now.budget c.args.input.now.stored.now codes' cs c.new-made.result log files log files) (sym c.codes-codes.ensures)
          (running_begins keeps told c.args.input.now.budget c.args.input.now.stored.now codes' c.references.result.now c.new-made.result log files c.requires.fit c.requires.linked c.references.ensures c.in_ok-names.ensures c.new-made.ensures);
      independent = subst (λ (cs : List StagedParts). AllByRecursion (IsIndependentWhereLocal told) cs) (sym c.codes-codes.ensures) c.requires.independent;
      same_store = refl;
      reads = omega arith;
      writes = omega arith;
    }

pub run_code-requires-clause-references : goal.run_code-requires-clause-references
run_code-requires-clause-references g c =
    let codes' = c.args.input.now.codes.now in
    let next = next_at codes' (length c.loop-left.made) _ _ (c.loop-left.invariant.place ∙ item_is _ _ c.in-len1-up.len_at_least c.code-item.is) in
    c.references_at-references.ensures _ (ap (slice_get codes') c.len.ensures ∙ next.here)

pub run_code-requires-clause-fit : goal.run_code-requires-clause-fit
run_code-requires-clause-fit g c = (next_program _ (verdict_named c.args.input.now.verdicts.now) _ _ c.args.input.now.codes.now _ _ _ _ _ _ _ _ (item_is _ _ c.in-len1-up.len_at_least c.code-item.is) (run_kept _ _ c.args.input.now.budget c.args.input.now.stored.now c.args.input.now.codes.now _ _ _ _ _ _ _ c.as_slice.ensures c.loop-left.invariant.run)).0

pub run_code-requires-clause-tables : goal.run_code-requires-clause-tables
run_code-requires-clause-tables g c = (next_program _ (verdict_named c.args.input.now.verdicts.now) _ _ c.args.input.now.codes.now _ _ _ _ _ _ _ _ (item_is _ _ c.in-len1-up.len_at_least c.code-item.is) (run_kept _ _ c.args.input.now.budget c.args.input.now.stored.now c.args.input.now.codes.now _ _ _ _ _ _ _ c.as_slice.ensures c.loop-left.invariant.run)).1

pub run_code-requires-clause-independent : goal.run_code-requires-clause-independent
run_code-requires-clause-independent g c = (first_local (verdict_named c.args.input.now.verdicts.now) _ _ _ (item_is _ _ c.in-len1-up.len_at_least c.code-item.is) c.loop-left.invariant.independent).0

pub loop-left-preserved : goal.loop-left-preserved
loop-left-preserved g c = record {
  place =
      let codes' = c.args.input.now.codes.now in
      let made = c.loop-left.made in
      let next = next_at codes' (length made) _ _ (c.loop-left.invariant.place ∙ item_is _ _ c.in-len1-up.len_at_least c.code-item.is) in
      ap (λ (ts : List (List NamedTable)). drop (length ts) codes') c.in_ok-push.ensures.ok ∙ ap (λ (n : ℕ). drop n codes') (length-append made (c.in_ok-tables.tables ∷ [])) ∙ next.behind;
  run = run_settled _ (verdict_named c.args.input.now.verdicts.now) c.args.input.now.budget c.args.input.now.stored.now c.args.input.now.codes.now _ _ _ _ _ _ _ _ (item_is _ _ c.in-len1-up.len_at_least c.code-item.is) (run_kept _ _ c.args.input.now.budget c.args.input.now.stored.now c.args.input.now.codes.now _ _ _ _ _ _ _ c.as_slice.ensures c.loop-left.invariant.run) c.in_ok-end.end _ _ _ _ _ c.parts-parts.ensures.valid c.as_slice.ensures c.in_ok-push.ensures.ok
      c.in_ok-end.ensures c.in_ok-tables.ensures.kept c.in_ok-tables.ensures.does;
  independent = (first_local (verdict_named c.args.input.now.verdicts.now) _ _ _ (item_is _ _ c.in-len1-up.len_at_least c.code-item.is) c.loop-left.invariant.independent).1;
  same_store = c.in_ok-tables.ensures.cause.same_store ∙ c.loop-left.invariant.same_store;
  reads = omega (arith, c.in_ok-tables.ensures.cause.read);
  writes = omega (arith, c.in_ok-tables.ensures.cause.write);
}

pub returns-clause-does : goal.returns-clause-does
returns-clause-does g c = run_all _ (verdict_named c.args.input.now.verdicts.now) c.args.input.now.budget c.args.input.now.stored.now c.args.input.now.codes.now _ _ _ _ _ _ (none_is_left _ c.in_default.len_below) c.loop-left.invariant.run

pub returns-in_err-tables-clause-does : goal.returns-in_err-tables-clause-does
returns-in_err-tables-clause-does g c =
    settled_halts _ (verdict_named c.args.input.now.verdicts.now) c.args.input.now.budget c.args.input.now.stored.now c.args.input.now.codes.now _ _ _ _ _ _ _ _ (item_is _ _ c.in-len1-up.len_at_least c.code-item.is) (run_kept _ _ c.args.input.now.budget c.args.input.now.stored.now c.args.input.now.codes.now _ _ _ _ _ _ _ c.as_slice.ensures c.loop-left.invariant.run) (List NamedTable) c.in_ok-end.end _ _ _ c.from_residual-in_err-tables.result
    c.from_residual-in_err-tables.ensures.1 c.in_ok-end.ensures c.in_err-tables.ensures.does

pub returns-in_err-end-clause-does : goal.returns-in_err-end-clause-does
returns-in_err-end-clause-does g c =
    run_unbegun _ (verdict_named c.args.input.now.verdicts.now) c.args.input.now.budget c.args.input.now.stored.now c.args.input.now.codes.now _ _ _ _ _ _ _ _ (item_is _ _ c.in-len1-up.len_at_least c.code-item.is) (run_kept _ _ c.args.input.now.budget c.args.input.now.stored.now c.args.input.now.codes.now _ _ _ _ _ _ _ c.as_slice.ensures c.loop-left.invariant.run) c.from_residual-in_err-end.result
    c.from_residual-in_err-end.ensures.1

pub returns-in_err-push-clause-does : goal.returns-in_err-push-clause-does
returns-in_err-push-clause-does g c =
    settled_unkept _ (verdict_named c.args.input.now.verdicts.now) c.args.input.now.budget c.args.input.now.stored.now c.args.input.now.codes.now _ _ _ _ _ _ _ _ (item_is _ _ c.in-len1-up.len_at_least c.code-item.is) (run_kept _ _ c.args.input.now.budget c.args.input.now.stored.now c.args.input.now.codes.now _ _ _ _ _ _ _ c.as_slice.ensures c.loop-left.invariant.run) c.in_ok-end.end _ _ c.from_residual-in_err-push.result
    c.from_residual-in_err-push.ensures.1 c.in_ok-end.ensures c.in_ok-tables.ensures.does
