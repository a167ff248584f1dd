use Rattle.std.proofs.Common.{sym, ◌∙◌}
use Rattle.ds2_local.proofs.BodyLemmas.{output_ended, outputs_read}
use Rattle.ds2_local.proofs.runs.walk_implicit_output.Goals as goal

pub returns-then-has_output : goal.returns-then-has_output
returns-then-has_output c = output_ended c.args.scope.now c.args.walk.now _ _ (sym c.has_output.ensures ∙ c.if-has_output.true)

pub returns : goal.returns
returns c = outputs_read c.args.scope.now c.args.walk.now _ _ _ _ (sym c.has_output.ensures ∙ c.if-has_output.false) c.place_of.ensures c.in_ok-read_all_outputs.ensures
