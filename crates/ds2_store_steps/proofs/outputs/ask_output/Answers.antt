use Rattle.std.proofs.Common.{ℕ, List, ◌∷◌, [], not, refl, ap, ◌∙◌, nat_eq}
use Rattle.std.specs.Cmp.Lexicographic.{pointwise}
use Rattle.std.specs.HashSet.{contains}
use Rattle.ds2_store_steps.specs.OutputAsks.{output_named}
use Rattle.ds2_store_steps.proofs.OutputSteps.{made_twice, not_new, outputs_unasked, written_over}
use Rattle.ds2_store_steps.proofs.outputs.ask_output.Goals as goal

pub returns-in_err-is_new-clause-asks : goal.returns-in_err-is_new-clause-asks
returns-in_err-is_new-clause-asks g c =
    outputs_unasked (contains (pointwise nat_eq) c.args.made.now) (output_named c.args.output.now ∷ []) c.args.session.now.log c.args.session.now.log (g.S.Store.files c.args.session.now.store.now) (g.S.Store.files c.args.session.now.store.now) c.from_residual.result
    c.from_residual.ensures.1 refl

pub returns-then-output-clause-asks : goal.returns-then-output-clause-asks
returns-then-output-clause-asks g c =
    written_over (contains (pointwise nat_eq) c.args.made.now) (output_named c.args.output.now) c.args.session.now.log c.args.session.now.log (g.S.Store.files c.args.session.now.store.now) (g.S.Store.files c.args.session.now.store.now) c.if-output.true refl refl

pub returns-else-is_new-clause-asks : goal.returns-else-is_new-clause-asks
returns-else-is_new-clause-asks g c =
    made_twice (contains (pointwise nat_eq) c.args.made.now) (output_named c.args.output.now) c.args.session.now.log c.refuse_made.new.log (g.S.Store.files c.args.session.now.store.now) (g.S.Store.files c.args.session.now.store.now) c.refuse_made.result c.if-output.false
    (not_new _ (contains (pointwise nat_eq) c.args.made.now c.args.output.now.name) c.if-is_new.false (c.in_ok-is_new.ensures.new ∙ ap (λ (name : List ℕ). not (contains (pointwise nat_eq) c.args.made.now name)) (c.as_bytes.ensures.value ∙ c.as_str.ensures.bytes))) c.refuse_made.ensures refl
