use Rattle.std.proofs.Common.{◌≡◌, sym, ap, ◌∙◌, subst}
use Rattle.std.specs.Arc.{arc_value}
use Rattle.std.specs.Prelude.{slice_get}
use Rattle.std.specs.Option.{option_map}
use Rattle.std.proofs.lemmas.Option.{get_or_from_slice_get, slice_get_within}
use Rattle.ds2_table.specs.Loads.{input_rows}
use Rattle.ds2_reading.specs.KeyOrder.{InputKeys, row_in}
use Rattle.ds2_reading.specs.Places.{all_rows}
use Rattle.ds2_reading.specs.declared.sorted_rows.Sorted.{Sorted}
use Rattle.ds2_reading.proofs.InOrder.{row_at_place}
use Rattle.ds2_reading.proofs.sorted_rows.SortedRows.row_at.Goals as goal

pub returns-clause-row : goal.returns-clause-row
returns-clause-row c =
    let shared : Sorted = arc_value c.self.inside.shared in
    let there = ap (λ (s : Sorted). slice_get s.numbers c.args.place) (sym c.deref.ensures) ∙ sym c.in_ok-number.ensures in
    let P : InputKeys → Type 0 = λ k. option_map (row_in k.tables) c.row.result ≡ slice_get (all_rows k.descending k.tables) c.args.place in
    subst P c.self.view_is
    (ap (λ (s : Sorted). option_map (row_in s.inputs.tables) c.row.result) (sym c.deref-2.ensures)
    ∙ c.row.ensures.row
    ∙ ap (λ (s : Sorted). slice_get (input_rows 0 s.inputs.tables) c.in_ok-number.number.now) c.deref-2.ensures
    ∙ ap (slice_get (input_rows 0 shared.inputs.tables)) (sym (get_or_from_slice_get shared.numbers c.args.place c.in_ok-number.number.now 0 there))
    ∙ row_at_place shared.inputs shared.numbers c.args.place c.self.invariant.0 (slice_get_within shared.numbers c.args.place c.in_ok-number.number.now there))
