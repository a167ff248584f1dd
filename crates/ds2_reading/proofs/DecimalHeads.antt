-- The heads of decimals.
use Rattle.std.proofs.Common.{◌≡◌, ℕ, ◌+◌, ◌-◌, ◌*◌, ◌^◌, ◌≤◌, true, false, refl, sym, ap, ◌∙◌, arith, ℤ, pos}
use Rattle.std.specs.Prelude.{◌<ℤ◌, ◌≤ℤ◌, ◌+ℤ◌, ◌*ℤ◌}
use Rattle.std.specs.Cmp.{int_cmp_is}
use Rattle.std.specs.Ordering.{int_cmp, is_eq, ordering_reverse, MatchOrdering}
use Rattle.std.specs.declared.cmp.Ordering.{Ordering}
use Rattle.std.specs.declared.cmp.Ordering.TheVariants.{Less, Equal, Greater}
use Rattle.std.proofs.lemmas.Cmp.{int_ranked}
use Rattle.std.proofs.lemmas.Int.{ints}
use Rattle.ds2_decimal.specs.Arithmetic.{floor, compare}
use Rattle.ds2_decimal.specs.Decimal.{Decimal, value}
use Rattle.ds2_decimal.proofs.AlignedLemmas.{compare_first}
use Rattle.ds2_decimal.proofs.LawLemmas.{floor_greatest}
use Rattle.ds2_value.specs.Order.{exact}
use Rattle.ds2_value.specs.declared.value.Value.TheVariants.{Dec}
use Rattle.ds2_reading.specs.KeyHeads.{IsNumberHead, whole, above, before_all, behind_all}

turned_less : (r : Ordering) → ordering_reverse r ≡ Less → r ≡ Greater
turned_less Less h = cc
turned_less Equal h = cc
turned_less Greater h = refl

module _ (d : Decimal) (few : d.scale ≤ 38) where
  abbrev below : ℤ
  below = let f = floor d in f.units

  abbrev number : ℤ → Decimal
  number v = record { units = v; scale = 0 }

  order : (v : ℤ) → compare d (number v) ≡ ordering_reverse (int_cmp (v *ℤ pos (10 ^ d.scale)) d.units)
  order v =
      let z : d.scale - 0 ≡ d.scale = omega arith in
      compare_first d (number v) (omega arith) few ∙ ap (λ k. ordering_reverse (int_cmp (v *ℤ pos (10 ^ k)) d.units)) z

  -- the whole number below
  low : value (number below) ≤ℤ value d
  low = by (compare d (number below)) (int_ranked (value d) (value (number below)) (compare d (number below)) refl) (order below)
    where
      by : (r : Ordering) → MatchOrdering r (value d <ℤ value (number below)) (value d ≡ value (number below)) (value (number below) <ℤ value d)
          → r ≡ ordering_reverse (int_cmp (below *ℤ pos (10 ^ d.scale)) d.units) → value (number below) ≤ℤ value d
      by Less l e =
          let f = floor_greatest d in
          let more = turned_less (int_cmp (below *ℤ pos (10 ^ d.scale)) d.units) (sym e) in
          let lower : d.units <ℤ (below *ℤ pos (10 ^ d.scale)) = int_ranked (below *ℤ pos (10 ^ d.scale)) d.units Greater (sym more) in
          absurd (omega (arith, ints, lower, f.reached))
      by Equal l e = omega (arith, ints, l)
      by Greater l e = omega (arith, ints, l)

  -- and the next one
  high : value d <ℤ value (number (below +ℤ pos 1))
  high =
      let f = floor_greatest d in
      let next = below +ℤ pos 1 in
      let more : Greater ≡ int_cmp (next *ℤ pos (10 ^ d.scale)) d.units = int_cmp_is (next *ℤ pos (10 ^ d.scale)) d.units Greater f.next in
      int_ranked (value d) (value (number next)) Less (ap ordering_reverse more ∙ sym (order next))

  pub head_before : (w : ℤ) (head : ℕ) → w ≡ below → (w +ℤ pos (2 ^ 63)) <ℤ pos 0 → head ≡ 33 → IsNumberHead head (exact (Dec d))
  head_before w head e l h = before_all h (omega (arith, ints, e, l, high))

  pub head_behind : (w : ℤ) (head : ℕ) → w ≡ below → pos (2 ^ 63) ≤ℤ w → head ≡ (2 ^ 64 + 1) * 128 + 33 → IsNumberHead head (exact (Dec d))
  head_behind w head e l h = behind_all h (omega (arith, ints, e, l, low))

  module _ (w : ℤ) (head : ℕ) (e : w ≡ below) (up : w <ℤ pos (2 ^ 63)) (down : pos 0 ≤ℤ (w +ℤ pos (2 ^ 63))) where
    pub head_whole : is_eq (compare d (number w)) ≡ true → pos head ≡ (w +ℤ pos (2 ^ 63 + 1)) *ℤ pos 128 +ℤ pos 32 → IsNumberHead head (exact (Dec d))
    head_whole s h = whole w h (omega (arith, ints, up)) (omega (arith, ints, down)) (by (compare d (number w)) (int_ranked (value d) (value (number w)) (compare d (number w)) refl) s)
      where
        by : (r : Ordering) → MatchOrdering r (value d <ℤ value (number w)) (value d ≡ value (number w)) (value (number w) <ℤ value d) → is_eq r ≡ true → exact (Dec d) ≡ w *ℤ pos (10 ^ 38)
        by Less l s = cc
        by Equal l s = l
        by Greater l s = cc

    pub head_above : is_eq (compare d (number w)) ≡ false → pos head ≡ (w +ℤ pos (2 ^ 63 + 1)) *ℤ pos 128 +ℤ pos 33 → IsNumberHead head (exact (Dec d))
    head_above s h =
        above w h (omega (arith, ints, up)) (omega (arith, ints, down)) (by (compare d (number w)) (int_ranked (value d) (value (number w)) (compare d (number w)) refl) s)
        (omega (arith, ints, e, high))
      where
        by : (r : Ordering) → MatchOrdering r (value d <ℤ value (number w)) (value d ≡ value (number w)) (value (number w) <ℤ value d) → is_eq r ≡ false
            → (w *ℤ pos (10 ^ 38)) <ℤ exact (Dec d)
        by Less l s = absurd (omega (arith, ints, e, l, low))
        by Equal l s = cc
        by Greater l s = l
