use Rattle.std.proofs.Common.{ap, ◌∙◌}
use Rattle.std.proofs.lemmas.Result.{IfOk-weaker}
use Rattle.std.specs.Prelude.{codes}
use Rattle.std.specs.Prelude.{map}
use Rattle.ds2_tree.specs.UnitViews.{global_tree}
use Rattle.ds2_names.specs.SourceUnit.{names_alone}
use Rattle.ds2_given_names.proofs.OutputLemmas.{lists_are, statements_listed}
use Rattle.ds2_given_names.proofs.listed.statement_lists.Goals as goal

pub returns : goal.returns
returns c =
    IfOk-weaker c.keep_drop.result _ _
    (λ l a. lists_are l _ _ _ _ (ap names_alone (c.as_slice.ensures ∙ c.in_ok-kept.ensures) ∙ statements_listed (codes "keep") (map global_tree c.args.globals.now))
    (ap names_alone (c.as_slice-2.ensures ∙ c.in_ok-dropped.ensures) ∙ statements_listed (codes "drop") (map global_tree c.args.globals.now)) a)
    c.keep_drop.ensures
