use Rattle.std.proofs.Common.{◌≡◌, sym, ap, ◌∙◌, subst}
use Rattle.std.specs.Arc.{arc_value}
use Rattle.std.specs.Prelude.{slice_get}
use Rattle.std.proofs.lemmas.Option.{get_or_from_slice_get}
use Rattle.ds2_reading.specs.KeyOrder.{InputKeys}
use Rattle.ds2_reading.specs.Places.{common_before}
use Rattle.ds2_reading.specs.declared.sorted_rows.Sorted.{Sorted}
use Rattle.ds2_reading.proofs.InOrder.{none_or_zero}
use Rattle.ds2_reading.proofs.sorted_rows.SortedRows.common_at.Goals as goal

pub returns-in-None : goal.returns-in-None
returns-in-None c =
    let shared : Sorted = arc_value c.self.inside.shared in
    let none = ap (λ (s : Sorted). slice_get s.commons c.args.place) (sym c.deref.ensures) ∙ sym c.in-None.ensures in
    let P : InputKeys → Type 0 = λ k. 0 ≡ common_before k c.args.place in
    subst P c.self.view_is (sym (none_or_zero shared.commons c.args.place none) ∙ c.self.invariant.1 c.args.place)

pub returns-in-Some : goal.returns-in-Some
returns-in-Some c =
    let shared : Sorted = arc_value c.self.inside.shared in
    let there = ap (λ (s : Sorted). slice_get s.commons c.args.place) (sym c.deref.ensures) ∙ sym c.in-Some.ensures in
    let P : InputKeys → Type 0 = λ k. c.in-Some.common.now ≡ common_before k c.args.place in
    subst P c.self.view_is (sym (get_or_from_slice_get shared.commons c.args.place c.in-Some.common.now 0 there) ∙ c.self.invariant.1 c.args.place)
