-- The order of values, case by case.
use Rattle.std.proofs.Common.{◌≡◌, ℕ, ◌^◌, List, [], refl, ◌∙◌, lit<, ℤ}
use Rattle.std.specs.Ordering.{int_cmp, ordering_then}
use Rattle.std.specs.declared.cmp.Ordering.{Ordering}
use Rattle.std.specs.declared.cmp.Ordering.TheVariants.{Less, Equal, Greater}
use Rattle.std.proofs.lemmas.Str.{chars-nil}
use Rattle.ds2_decimal.specs.Decimal.{Decimal}
use Rattle.ds2_decimal.specs.Arithmetic.{compare}
use Rattle.ds2_value.specs.Order.{key_order}
use Rattle.ds2_value.specs.Texts.{text_cmp}
use Rattle.ds2_value.specs.declared.value.Value.TheVariants as v
use Rattle.ds2_value.proofs.IntegerLemmas.{int_cmp-times}
use Rattle.ds2_value.specs.TextLaws.{padded_cmp-nil}

then-equal : (r : Ordering) → ordering_then r Equal ≡ r
then-equal Less = refl
then-equal Equal = refl
then-equal Greater = refl

no-texts : text_cmp [] [] ≡ Equal
no-texts = rw chars-nil padded_cmp-nil

pub order-ints : (x y : ℤ) → key_order (v.Int x) (v.Int y) ≡ int_cmp x y
unfolding key_order
order-ints x y = rw no-texts (then-equal _ ∙ int_cmp-times x y (10 ^ 38) (lit< tt))

pub order-int-dec : (x : ℤ) (d : Decimal) → key_order (v.Int x) (v.Dec d) ≡ compare (record { units = x; scale = 0 }) d
unfolding key_order
order-int-dec x d = rw no-texts (then-equal _)

pub order-dec-int : (d : Decimal) (y : ℤ) → key_order (v.Dec d) (v.Int y) ≡ compare d (record { units = y; scale = 0 })
unfolding key_order
order-dec-int d y = rw no-texts (then-equal _)

pub order-decs : (d e : Decimal) → key_order (v.Dec d) (v.Dec e) ≡ compare d e
unfolding key_order
order-decs d e = rw no-texts (then-equal _)

pub order-texts : (s t : List ℕ) → key_order (v.Txt s) (v.Txt t) ≡ text_cmp s t
unfolding key_order
order-texts s t = refl

pub order-nulls : key_order v.Null v.Null ≡ Equal
unfolding key_order
order-nulls = no-texts

pub ruleset key_orders = (order-ints, order-int-dec, order-dec-int, order-decs, order-texts, order-nulls)
