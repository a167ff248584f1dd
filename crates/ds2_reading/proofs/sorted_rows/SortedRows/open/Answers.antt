use Rattle.std.proofs.Common.{ℕ, ◌^◌, ◌<◌, List, length, map, ap, sym, subst, ◌∙◌, arith}
use Rattle.std.proofs.lemmas.List.{length-map}
use Rattle.ds2_reading.specs.KeyHeads.{row_of}
use Rattle.ds2_reading.specs.KeyOrder.{InputKeys}
use Rattle.ds2_reading.specs.Numbers.{AreCommonsOf}
use Rattle.ds2_reading.specs.Places.{AreRowNumbers, AreCommons}
use Rattle.ds2_reading.specs.declared.sorted_rows.Sorted.{Sorted}
use Rattle.ds2_reading.proofs.Fits.{few_bys, by_count}
use Rattle.ds2_reading.proofs.InOrder.{row_numbers, commons_are}
use Rattle.ds2_reading.proofs.sorted_rows.SortedRows.open.Goals as goal

pub commons-requires-clause-bys : goal.commons-requires-clause-bys
commons-requires-clause-bys c =
    omega (arith, ap (λ (k : InputKeys). length k.descending) c.in_ok-inputs.ensures, by_count c.args.reading.now, few_bys c.args.tables.now c.args.reading.now c.requires)

pub invariant_of-result : goal.invariant_of-result
invariant_of-result c =
    let input = c.in_ok-inputs.inputs in
    let items = c.in_ok-ordered.ordered.items in
    let numbers-are = c.in_ok-numbers.ensures ∙ ap (map row_of) c.as_slice.ensures.value in
    let P : Sorted → Type 0 = λ s. AreRowNumbers s.inputs s.numbers × AreCommons s.inputs s.commons × (length s.numbers < 2 ^ 32) in
    let N : List ℕ → Type 0 = AreRowNumbers input in
    let C : List ℕ → Type 0 = λ ns. AreCommonsOf input ns c.in_ok-commons.commons in
    subst P (sym c.in_ok-new.ensures.ok) (
      subst N (sym numbers-are) (row_numbers input items c.have_keys.ensures c.in_ok-ordered.ensures.order),
      commons_are input items c.in_ok-commons.commons c.have_keys.ensures c.in_ok-ordered.ensures.order (subst C c.as_slice-2.ensures.value c.in_ok-commons.ensures),
      omega (arith, ap (λ (ns : List ℕ). length ns) numbers-are, length-map items row_of, c.in_ok-ordered.ensures.bound),
    )
