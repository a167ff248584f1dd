use Rattle.std.proofs.Common.{sym, ap, ◌∙◌}
use Rattle.ds2_tree.specs.UnitViews.{method_tree}
use Rattle.ds2_names.specs.UnitRules.{misplaced_reading}
use Rattle.ds2_scope.specs.CodeUnits.{unit_kind}
use Rattle.ds2_scope.specs.Earliest.{earlier_of, earliest}
use Rattle.ds2_misplaced.specs.MisplacedParts.{is_system_in, may_read_in, rule_on_outputs, misplaced_method_head, misplaced_body}
use Rattle.ds2_misplaced.proofs.MisplacedLemmas.{in_method_parts}
use Rattle.ds2_misplaced.proofs.methods_and_outputs.in_method.Goals as goal

pub returns : goal.returns
returns c =
    let kind = unit_kind c.args.kind in
    let m = method_tree c.args.m.now in
    let system = c.is_system_in-is_system.ensures ∙ ap (is_system_in kind) (c.as_slice.ensures ∙ c.in_ok-name.ensures) in
    let head = c.misplaced_head-head.ensures ∙ ap (λ s. earliest (misplaced_method_head s m)) system in
    let reading = c.misplaced_reading-reading.ensures ∙ ap (λ n. earliest (misplaced_reading (may_read_in kind n) m.reading)) (c.as_slice-2.ensures ∙ c.in_ok-name.ensures) in
    let body = c.within_body-body.ensures ∙ ap (λ r. earliest (misplaced_body r m)) (c.rule_on_outputs.ensures ∙ ap (rule_on_outputs kind) system) in
    c.earlier_of-2.ensures
    ∙ ap (earlier_of c.misplaced_head-head.result) c.earlier_of.ensures
    ∙ (λ i. earlier_of (head i) (earlier_of (reading i) (body i)))
    ∙ sym (in_method_parts kind m)
