use Rattle.std.proofs.Common.{arith, ap, map, refl, ◌∙◌}
use Rattle.std.specs.Prelude.{nat_eq}
use Rattle.std.specs.Cmp.Lexicographic.{pointwise}
use Rattle.std.specs.HashSet.{contains}
use Rattle.ds2_store_steps.specs.OutputAsks.{output_named}
use Rattle.ds2_store_steps.proofs.Leading.{item_is, none_is_left}
use Rattle.ds2_store_steps.proofs.OutputSteps.{asked_all, asked_output, asking_begins, made_all, output_halts}
use Rattle.ds2_store_steps.proofs.outputs.ask_program.Goals as goal

pub outputs-init : goal.outputs-init
outputs-init g c = record {
  asked = asking_begins (contains (pointwise nat_eq) c.args.made.now) (contains (pointwise nat_eq) c.args.made.now) (map output_named c.args.outputs.now) c.args.session.now.log (g.S.Store.files c.args.session.now.store.now) (λ name. refl);
  same_store = refl;
  reads = omega arith;
  writes = omega arith;
}

pub outputs-preserved : goal.outputs-preserved
outputs-preserved g c = record {
  asked = asked_output _ _ _ _ _ _ _ _ _ _ _ _ _ (item_is _ _ c.in-len1-up.len_at_least c.output-item.is) c.outputs.invariant.asked c.in_ok-ask_output.ensures.asks c.in_ok-ask_output.ensures.made;
  same_store = c.in_ok-ask_output.ensures.cause.same_store ∙ c.outputs.invariant.same_store;
  reads = omega (arith, c.in_ok-ask_output.ensures.cause.read);
  writes = omega (arith, c.in_ok-ask_output.ensures.cause.write);
}

pub returns-clause-asks : goal.returns-clause-asks
returns-clause-asks g c = asked_all _ _ _ _ _ _ _ _ (ap (map output_named) (none_is_left _ c.in_default.len_below)) c.outputs.invariant.asked

pub returns-clause-made : goal.returns-clause-made
returns-clause-made g c = made_all _ _ _ _ _ _ _ _ (ap (map output_named) (none_is_left _ c.in_default.len_below)) c.outputs.invariant.asked

pub returns-in_err-ask_output-clause-asks : goal.returns-in_err-ask_output-clause-asks
returns-in_err-ask_output-clause-asks g c =
    output_halts _ _ _ _ _ _ _ _ _ _ _ _ _ _ c.from_residual.ensures.1 (item_is _ _ c.in-len1-up.len_at_least c.output-item.is) c.outputs.invariant.asked c.in_err-ask_output.ensures.asks
