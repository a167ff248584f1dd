use Rattle.std.proofs.Common.{ℕ, List, arith, ap, flat_map, refl, ◌∙◌}
use Rattle.std.specs.Prelude.{nat_eq}
use Rattle.std.specs.Cmp.Lexicographic.{pointwise}
use Rattle.std.specs.HashSet.{contains}
use Rattle.std.specs.List.{list_any}
use Rattle.ds2_code.specs.declared.parts.StagedParts.{StagedParts}
use Rattle.ds2_answer.specs.ObjectPlans.{outputs_of_code}
use Rattle.ds2_answer.specs.TablePlans.{none_made}
use Rattle.ds2_store_steps.proofs.Leading.{item_is, none_is_left}
use Rattle.ds2_store_steps.proofs.OutputSteps.{asked_all, asked_program, asking_begins, program_asks_halt}
use Rattle.ds2_store_steps.proofs.outputs.ask_outputs.Goals as goal

pub codes-init : goal.codes-init
codes-init g c = record {
  asked = asking_begins none_made (contains (pointwise nat_eq) c.new-made.result) (flat_map outputs_of_code c.args.codes.now) c.args.session.now.log (g.S.Store.files c.args.session.now.store.now)
      (λ name. ap (λ (keys : List (List ℕ)). list_any (pointwise nat_eq name) keys) c.new-made.ensures);
  same_store = refl;
  reads = omega arith;
  writes = omega arith;
}

pub returns-clause-asks : goal.returns-clause-asks
returns-clause-asks g c = asked_all _ _ _ _ _ _ _ _ (ap (flat_map outputs_of_code) (none_is_left _ c.in_default.len_below)) c.codes.invariant.asked

pub codes-preserved : goal.codes-preserved
codes-preserved g c = record {
  asked = asked_program _ _ _ _ _ _ _ _ _ _ _ _ _ _ (item_is _ _ c.in-len1-up.len_at_least c.code-item.is) (c.as_slice-outputs.ensures ∙ ap (λ (x : StagedParts). x.program.outputs) c.parts.ensures.value) c.codes.invariant.asked
      c.in_ok-ask_program.ensures.asks c.in_ok-ask_program.ensures.made;
  same_store = c.in_ok-ask_program.ensures.cause.same_store ∙ c.codes.invariant.same_store;
  reads = omega (arith, c.in_ok-ask_program.ensures.cause.read);
  writes = omega (arith, c.in_ok-ask_program.ensures.cause.write);
}

pub returns-in_err-ask_program-clause-asks : goal.returns-in_err-ask_program-clause-asks
returns-in_err-ask_program-clause-asks g c =
    program_asks_halt _ _ _ _ _ _ _ _ _ _ _ _ _ _ _ c.from_residual.ensures.1 (item_is _ _ c.in-len1-up.len_at_least c.code-item.is) (c.as_slice-outputs.ensures ∙ ap (λ (x : StagedParts). x.program.outputs) c.parts.ensures.value)
    c.codes.invariant.asked c.in_err-ask_program.ensures.asks
