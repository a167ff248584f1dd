use Rattle.std.proofs.Common.{List, subst, sym, ◌∙◌}
use Rattle.std.specs.Prelude.{filter}
use Rattle.ds2_tree.specs.Globals.{GlobalItem}
use Rattle.ds2_names.specs.SourceUnit.{names_alone}
use Rattle.ds2_given_names.specs.OutputParts.{AreStatementLists}
use Rattle.ds2_given_names.proofs.OutputLemmas.{passes_left}
use Rattle.ds2_given_names.proofs.left_columns.columns_left.Goals as goal

pub returns : goal.returns
returns c = λ all are same.
    let lists = c.in_ok-lists.lists in
    let told = subst (λ (gs : List GlobalItem). AreStatementLists lists gs) (sym same) c.in_ok-lists.ensures in
    c.in_ok-columns.ensures ∙ (λ i. filter (λ name. passes_left lists all.unit told name i) (names_alone ((c.as_slice.ensures ∙ are.variables) i)))
