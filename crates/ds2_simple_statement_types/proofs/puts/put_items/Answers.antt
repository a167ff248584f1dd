use Rattle.std.proofs.Common.{List, ap, ◌∙◌, subst}
use Rattle.ds2_meaning.specs.TypedStatement.{Item, Put}
use Rattle.ds2_meaning.specs.View.{item_tree}
use Rattle.ds2_simple_statement_types.specs.StatementOutcomes.{AreTypedAs}
use Rattle.ds2_simple_statement_types.proofs.puts.put_items.Goals as goal

pub returns-in-Err : goal.returns-in-Err
returns-in-Err c = λ refusals parts h. subst (AreTypedAs item_tree refusals parts) c.in-Err.is h

pub returns-in_ok-made-in-Ok : goal.returns-in_ok-made-in-Ok
returns-in_ok-made-in-Ok c = λ refusals parts h.
    let so = subst (AreTypedAs item_tree refusals parts) c.in-Ok.is h in
    (so.0, c.in_ok-made-in-Ok.ensures ∙ c.put_node.ensures ∙ ap (λ (l : List Item). Put c.args.place l) so.1)
