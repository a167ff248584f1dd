use Rattle.std.proofs.Common.{◌≡◌, ℕ, ◌++◌, List, length, take, drop, sym, ap, subst, arith}
use Rattle.std.specs.List.{All}
use Rattle.std.specs.List.Sorted.{IsPermutation}
use Rattle.std.proofs.lemmas.List.{take_at, length-map}
use Rattle.std.proofs.lemmas.List.FromFn.{length-range_with_len}
use Rattle.std.proofs.lemmas.List.Sorted.{All-permutation, length_permutation}
use Rattle.ds2_reading.specs.KeyHeads.{row_of}
use Rattle.ds2_reading.specs.Numbers.{IsHeadedNumber, AreInOrder}
use Rattle.ds2_reading.proofs.Runs.{all_in_order}
use Rattle.ds2_reading.proofs.numbers.ordered_numbers.Goals as goal

pub settle-requires-clause-headed : goal.settle-requires-clause-headed
settle-requires-clause-headed c =
    let P : List ℕ → Type 0 = All (IsHeadedNumber c.args.inputs.now) in
    subst P (sym c.deref_mut.ensures.value) (All-permutation (IsHeadedNumber c.args.inputs.now) _ _ c.in_ok-sort.ensures.moved c.in_ok-numbers.ensures.headed)

pub returns-clause-order : goal.returns-clause-order
returns-clause-order c =
    let input = c.args.inputs.now in
    let first = c.in_ok-numbers.numbers.items in
    let third = c.settle.new.numbers in
    let items = c.sort.new.numbers.items in
    let long : length third ≡ c.sort.new.numbers.len = omega (arith, length_permutation c.deref_mut.result.now third c.settle.ensures.moved, c.deref_mut.ensures.len) in
    let whole : take c.sort.new.numbers.len (third ++ drop (length third) items) ≡ third = take_at third (drop (length third) items) c.sort.new.numbers.len long in
    let P : List ℕ → Type 0 = AreInOrder input in
    let Q : List ℕ → Type 0 = IsPermutation first in
    subst P (sym whole)
    (all_in_order input first c.deref_mut.result.now third c.in_ok-rows.rows c.in_ok-rows.ensures.count c.in_ok-numbers.ensures.headed c.in_ok-numbers.ensures.rows
    (subst Q (sym c.deref_mut.ensures.value) c.in_ok-sort.ensures.moved) c.settle.ensures.moved c.settle.ensures.sorted)

pub returns-clause-bound : goal.returns-clause-bound
returns-clause-bound c =
    let first = c.in_ok-numbers.numbers.items in
    let third = c.settle.new.numbers in
    let items = c.sort.new.numbers.items in
    let long : length third ≡ c.sort.new.numbers.len = omega (arith, length_permutation c.deref_mut.result.now third c.settle.ensures.moved, c.deref_mut.ensures.len) in
    let whole : take c.sort.new.numbers.len (third ++ drop (length third) items) ≡ third = take_at third (drop (length third) items) c.sort.new.numbers.len long in
    omega (
      arith,
      ap (λ (ns : List ℕ). length ns) whole,
      length_permutation c.deref_mut.result.now third c.settle.ensures.moved,
      ap (λ (ns : List ℕ). length ns) c.deref_mut.ensures.value,
      length_permutation first items c.in_ok-sort.ensures.moved,
      length-map first row_of,
      ap (λ (ns : List ℕ). length ns) c.in_ok-numbers.ensures.rows,
      length-range_with_len 0 c.in_ok-rows.rows,
      c.in_ok-rows.ensures.bound,
    )
