use Rattle.std.proofs.Common.{sym, ap, ◌∙◌}
use Rattle.ds2_names.specs.NameRules.{later_places}
use Rattle.ds2_scope.specs.CodeUnits.{unit_source}
use Rattle.ds2_scope.specs.Earliest.{earlier_of, earliest}
use Rattle.ds2_given_names.proofs.RepetitionLemmas.{repeated_in_order}
use Rattle.ds2_given_names.proofs.repetitions.repeated_name.Goals as goal

pub returns : goal.returns
returns c =
    let by' = c.in_ok-by.ensures ∙ ap (λ ns. earliest (later_places ns)) c.as_slice.ensures in
    let output = c.in_ok-output.ensures ∙ ap (λ ns. earliest (later_places ns)) c.as_slice-2.ensures in
    c.earlier_of-4.ensures
    ∙ (λ i. earlier_of (c.earlier_of-first.ensures i) (c.earlier_of-3.ensures i))
    ∙ (λ i. earlier_of (earlier_of c.in_ok-global.global (c.earlier_of.ensures i)) (earlier_of c.in_ok-local.local (c.earlier_of-2.ensures i)))
    ∙ (λ i. earlier_of (earlier_of (c.in_ok-global.ensures i) (earlier_of (by' i) (c.in_ok-method.ensures i))) (earlier_of (c.in_ok-local.ensures i) (earlier_of (output i) (c.in_ok-renaming.ensures i))))
    ∙ sym (repeated_in_order c.args.names.now (unit_source c.args.unit))
