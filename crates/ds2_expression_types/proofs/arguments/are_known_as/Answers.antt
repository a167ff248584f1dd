use Rattle.std.proofs.Common.{◌∙◌}
use Rattle.ds2_expression_types.proofs.ArgumentLists.{all_known}
use Rattle.ds2_expression_types.proofs.arguments.are_known_as.Goals as goal

pub returns : goal.returns
returns c = c.are_each_known_as.ensures ∙ all_known c.args.test c.args.arguments.now
