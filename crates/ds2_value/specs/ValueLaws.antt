-- The laws of the order, the equality and the hash of values.
use Rattle.std.proofs.Common.{◌≡◌, refl, ap}
use Rattle.std.specs.Prelude.{ℕ, zero, suc, ℤ, IsTrue, true}
use Rattle.std.specs.Hash as fed
use Rattle.std.specs.Cmp.{IsTotalOrder, IsEquivalence, IsPartialEquivalence, IsPartialOrder, on_total, then_total, nat_cmp_total, int_cmp_total, eq_by_cmp_equiv, partial_equiv_from_equiv, partial_order_from_total}
use Rattle.std.specs.Ordering.{nat_cmp, int_cmp, ordering_then, is_eq, as_partial_cmp}
use Rattle.std.specs.declared.cmp.Ordering.{Ordering}
use Rattle.std.specs.declared.cmp.Ordering.TheVariants.{Less, Equal, Greater}
use Rattle.std.specs.Str.{chars, encode_utf8_all}
use Rattle.std.proofs.lemmas.Map.Lookups.{exact_unsigned, exact_signed}
use Rattle.ds2_base.specs.Bytes.{Bytes}
use Rattle.ds2_value.specs.Hashing.{digits_of, digit_writes, text_writes, value_writes}
use Rattle.ds2_value.specs.Order.{rank, exact, bytes_of, key_order, value_eq}
use Rattle.ds2_value.specs.Texts.{text_cmp, trimmed}
use Rattle.ds2_value.specs.declared.value.Value.{Value}
use Rattle.ds2_value.specs.declared.value.Value.TheVariants.{Null, Int, Dec, Txt}
use Rattle.ds2_value.specs.TextLaws.{text_cmp_total, padded_cmp-Equal}

-- the order of values is total
pub key_order_total : IsTotalOrder key_order
unfolding key_order
key_order_total = then_total (on_total rank nat_cmp_total) (then_total (on_total exact int_cmp_total) (on_total bytes_of text_cmp_total))

-- equality of values is an equivalence
pub value_equiv : IsEquivalence value_eq
value_equiv = eq_by_cmp_equiv key_order_total

-- the same, as `PartialEq` asks for it
pub value_per : IsPartialEquivalence value_eq
value_per = partial_equiv_from_equiv value_equiv

-- the order as `PartialOrd` asks for it
pub value_partial_order : IsPartialOrder value_eq (as_partial_cmp key_order)
value_partial_order = partial_order_from_total key_order_total

-- both of two orders are Equal
both-Equal : (r o : Ordering) → is_eq (ordering_then r o) ≡ true → (r ≡ Equal) × (o ≡ Equal)
both-Equal Less o h = cc
both-Equal Equal Less h = cc
both-Equal Equal Equal h = (refl, refl)
both-Equal Equal Greater h = cc
both-Equal Greater o h = cc

-- what is fed of a rank, a number and a text
abbrev fed_of : ℕ → ℤ → Bytes → fed.HashWrites
fed_of zero number text = fed.u64 253
fed_of (suc zero) number text = digit_writes (digits_of number)
fed_of (suc (suc n)) number text = text_writes text

-- what is fed of a value is so of what the order compares
fed_by_rank : (v : Value) → value_writes v ≡ fed_of (rank v) (exact v) (trimmed (bytes_of v))
unfolding value_writes
fed_by_rank Null = refl
fed_by_rank (Int i) = refl
fed_by_rank (Dec d) = refl
fed_by_rank (Txt t) = refl

-- equal values are hashed alike
pub value_alike : (a b : Value) → IsTrue (value_eq a b) → value_writes a ≡ value_writes b
unfolding key_order
value_alike a b h =
    let outer = both-Equal (nat_cmp (rank a) (rank b)) (ordering_then (int_cmp (exact a) (exact b)) (text_cmp (bytes_of a) (bytes_of b))) h in
    let inner = both-Equal (int_cmp (exact a) (exact b)) (text_cmp (bytes_of a) (bytes_of b)) (ap is_eq outer.1) in
    let kind = exact_unsigned (rank a) (rank b) outer.0 in
    let number = exact_signed (exact a) (exact b) inner.0 in
    let text : trimmed (bytes_of a) ≡ trimmed (bytes_of b) = ap encode_utf8_all (padded_cmp-Equal (chars (bytes_of a)) (chars (bytes_of b)) inner.1) in
    rw (fed_by_rank a, fed_by_rank b, kind, number, text) refl
