use Rattle.std.proofs.Common.{sym, ◌∙◌}
use Rattle.ds2_names.specs.SourceUnit.{names_of_unit}
use Rattle.ds2_scope.specs.CodeUnits.{unit_source}
use Rattle.ds2_scope.specs.Earliest.{earlier_of}
use Rattle.ds2_misplaced.proofs.MisplacedLemmas.{aside_parts}
use Rattle.ds2_misplaced.proofs.methods_and_outputs.misplaced.Goals as goal

pub returns : goal.returns
returns c = λ tables units kept.
    c.earlier_of-3.ensures
    ∙ (λ i. earlier_of (c.earlier_of.ensures i) (c.earlier_of-2.ensures i))
    ∙ (λ i. earlier_of (earlier_of (c.in_ok-methods.ensures i) (c.in_ok-kind.ensures tables units kept i)) (earlier_of (c.in_ok-null.ensures i) (c.in_ok-option.ensures i)))
    ∙ sym (aside_parts (names_of_unit tables units (unit_source c.args.unit)))
