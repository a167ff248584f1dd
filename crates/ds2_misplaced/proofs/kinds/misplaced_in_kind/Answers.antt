use Rattle.std.proofs.Common.{sym, ap, ◌∙◌}
use Rattle.ds2_names.specs.NameRules.{from_each}
use Rattle.ds2_names.specs.SourceUnit.{source_instances, names_of_unit}
use Rattle.ds2_names.specs.UnitRules.{is_kept_from_packages, makes_long_chain, instance_keywords, list_keywords, in_out_words, misplaced_in_kind}
use Rattle.ds2_scope.specs.CodeUnits.{unit_kind, unit_source}
use Rattle.ds2_scope.specs.Earliest.{earlier_of, earliest}
use Rattle.ds2_misplaced.specs.MisplacedParts.{keyword_where}
use Rattle.ds2_scope.proofs.EarliestLemmas.{earliest_append}
use Rattle.ds2_misplaced.proofs.MisplacedLemmas.{keywords_are}
use Rattle.ds2_misplaced.proofs.kinds.misplaced_in_kind.Goals as goal

pub returns-in-Package : goal.returns-in-Package
returns-in-Package c = λ tables units kept.
    let u = unit_source c.args.unit in
    let names = names_of_unit tables units u in
    let kept' = c.kept_from_packages.ensures ∙ ap (λ xs. earliest (from_each (keyword_where is_kept_from_packages) xs)) c.requires ∙ ap earliest (sym (keywords_are is_kept_from_packages (source_instances u.globals))) in
    c.earlier_of.ensures
    ∙ (λ i. earlier_of (kept' i) (c.earliest_list.ensures i))
    ∙ sym (earliest_append (instance_keywords is_kept_from_packages (source_instances u.globals)) (list_keywords u.globals))
    ∙ sym (ap (λ k. earliest (misplaced_in_kind (unit_kind k) names)) c.in-Package.is)

pub returns-in_ok-chain-in-Thread : goal.returns-in_ok-chain-in-Thread
returns-in_ok-chain-in-Thread c = λ tables units kept.
    let u = unit_source c.args.unit in
    let names = names_of_unit tables units u in
    let chain =
    c.in_ok-chain-in-Thread.ensures units kept
    ∙ ap (λ xs. earliest (from_each (keyword_where (makes_long_chain units)) xs)) c.requires
    ∙ ap earliest (sym (keywords_are (makes_long_chain units) (source_instances u.globals))) in
    c.earlier_of-in-Thread.ensures
    ∙ (λ i. earlier_of (c.earliest_in_out.ensures i) (chain i))
    ∙ sym (earliest_append (in_out_words u.parameters) (instance_keywords (makes_long_chain units) (source_instances u.globals)))
    ∙ sym (ap (λ k. earliest (misplaced_in_kind (unit_kind k) names)) c.in-Thread.is)
