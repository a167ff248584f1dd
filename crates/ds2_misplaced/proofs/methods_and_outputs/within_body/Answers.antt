use Rattle.std.proofs.Common.{false, ◌∙◌}
use Rattle.ds2_tree.specs.StatementViews.{statements_of}
use Rattle.ds2_scope.specs.Earliest.{earliest}
use Rattle.ds2_misplaced.specs.MisplacedParts.{misplaced_within_all}
use Rattle.ds2_misplaced.proofs.methods_and_outputs.within_body.Goals as goal

pub returns : goal.returns
returns c = c.within_all.ensures ∙ (λ i. earliest (misplaced_within_all c.args.rule (c.is_some.ensures i) false (statements_of (c.as_slice.ensures i))))
