use Rattle.std.proofs.Common.{◌≡◌, ◌||◌, not, nat_eq, length, subst, ap, ◌∙◌}
use Rattle.ds2_names.specs.NameRules.{from_each, place_unless, renamings_in, renamed_to}
use Rattle.ds2_given_names.specs.OutputParts.{AreOptionLists, clashes}
use Rattle.ds2_scope.specs.Earliest.{earliest}
use Rattle.ds2_given_names.proofs.OutputLemmas.{real_output}
use Rattle.ds2_given_names.proofs.output_rules.in_real_output.Goals as goal

pub returns : goal.returns
returns c = λ all o are statements options place.
    real_output all o c.args.statements.now c.in_ok-lists.lists c.in_ok-news.news _ _ _ _
    statements
    (subst (λ os. AreOptionLists c.in_ok-lists.lists os) options c.in_ok-lists.ensures)
    (λ name. c.in_ok-news.ensures name ∙ ap (λ os. renamed_to (from_each renamings_in os) name) options)
    (c.as_slice.ensures ∙ are.variables)
    are.is_open
    (c.in_ok-clash.ensures ∙ ap (λ cs. earliest (clashes cs)) (c.as_slice-2.ensures ∙ c.in_ok-columns.ensures))
    (c.unless_empty-empty.ensures ∙ (λ i. earliest (place_unless (c.args.names.now.is_open || not (nat_eq (length ((c.as_slice-3.ensures ∙ c.in_ok-columns.ensures) i)) 0)) (place i))))
