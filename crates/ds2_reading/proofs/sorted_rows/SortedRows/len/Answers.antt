use Rattle.std.proofs.Common.{◌≡◌, length, ap, ◌∙◌, subst}
use Rattle.std.specs.Arc.{arc_value}
use Rattle.ds2_reading.specs.KeyOrder.{InputKeys}
use Rattle.ds2_reading.specs.Places.{all_rows}
use Rattle.ds2_reading.specs.declared.sorted_rows.Sorted.{Sorted}
use Rattle.ds2_reading.proofs.InOrder.{as_many_numbers}
use Rattle.ds2_reading.proofs.sorted_rows.SortedRows.len.Goals as goal

pub returns-clause-value : goal.returns-clause-value
returns-clause-value c =
    let shared : Sorted = arc_value c.self.inside.shared in
    let P : InputKeys → Type 0 = λ k. c.len.result ≡ length (all_rows k.descending k.tables) in
    subst P c.self.view_is (c.len.ensures ∙ ap (λ (s : Sorted). length s.numbers) c.deref.ensures ∙ as_many_numbers shared.inputs shared.numbers c.self.invariant.0)

pub returns-clause-bound : goal.returns-clause-bound
returns-clause-bound c = rw (c.len.ensures ∙ ap (λ (s : Sorted). length s.numbers) c.deref.ensures) c.self.invariant.2
