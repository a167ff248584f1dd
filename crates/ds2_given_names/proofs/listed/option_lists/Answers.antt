use Rattle.std.proofs.Common.{ap, ◌∙◌}
use Rattle.std.proofs.lemmas.Result.{IfOk-weaker}
use Rattle.std.specs.Prelude.{codes}
use Rattle.ds2_names.specs.SourceUnit.{names_alone}
use Rattle.ds2_given_names.proofs.OutputLemmas.{lists_are, options_listed}
use Rattle.ds2_given_names.proofs.listed.option_lists.Goals as goal

pub returns : goal.returns
returns c =
    IfOk-weaker c.keep_drop.result _ _
    (λ l a. lists_are l _ _ _ _ (ap names_alone (c.as_slice.ensures ∙ c.in_ok-kept.ensures) ∙ options_listed (codes "keep") c.args.options.now)
    (ap names_alone (c.as_slice-2.ensures ∙ c.in_ok-dropped.ensures) ∙ options_listed (codes "drop") c.args.options.now) a)
    c.keep_drop.ensures
