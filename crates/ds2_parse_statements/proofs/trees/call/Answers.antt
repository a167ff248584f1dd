use Rattle.ds2_tree.proofs.Rows.{call_tree}
use Rattle.std.proofs.Common.{ap, ◌∙◌}
use Rattle.ds2_tree.specs.Expressions.{Call}
use Rattle.ds2_tree.specs.ExpressionViews.{arguments_of}
use Rattle.ds2_parse_statements.proofs.trees.call.Goals as goal

pub returns : goal.returns
returns c =
    let a = c.args.arguments in
    call_tree c.in_ok-new.field-0 a.opening a.arguments a.closing
    ∙ ap (λ callee. Call callee a.opening (arguments_of a.arguments) a.closing) c.in_ok-new.ensures.ok
