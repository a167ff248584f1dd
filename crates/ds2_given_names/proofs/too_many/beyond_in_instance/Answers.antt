use Rattle.std.proofs.Common.{sym, ap, ◌∙◌}
use Rattle.ds2_names.specs.UnitRules.{beyond, too_many_variables}
use Rattle.ds2_scope.specs.CodeUnits.{instance_sort}
use Rattle.ds2_scope.specs.Earliest.{earlier_of, earliest}
use Rattle.ds2_scope.proofs.EarliestLemmas.{earliest_append}
use Rattle.ds2_given_names.specs.TooMany.{places_bracketed}
use Rattle.ds2_given_names.proofs.too_many.beyond_in_instance.Goals as goal

pub returns-in_ok-items-in-Hash : goal.returns-in_ok-items-in-Hash
returns-in_ok-items-in-Hash c =
    c.earlier_of.ensures
    ∙ (λ i. earlier_of (c.in_ok-keys-in-Hash.ensures i) (c.in_ok-items-in-Hash.ensures i))
    ∙ sym (earliest_append (beyond 64 (places_bracketed c.in-Hash.keys.now)) (beyond 64 (places_bracketed c.in-Hash.items.now)))
    ∙ sym (ap (λ s. earliest (too_many_variables (instance_sort s))) c.in-Hash.is)
