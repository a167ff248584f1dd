-- Rows whose heads are equal are equal in their first part where the head tells all; those of lesser heads stand before.
use Rattle.std.proofs.Common.{◌≡◌, ℕ, suc, ◌+◌, ◌-◌, ◌%◌, ◌<◌, ◌≤◌, min, Bool, true, false, List, [], ◌∷◌, length, drop, refl, sym, ap, ◌∙◌, subst, eqb-true, arith}
use Rattle.std.specs.Prelude.{if◌then◌else◌}
use Rattle.std.specs.Ordering.{is_eq, ordering_then, ordering_reverse}
use Rattle.std.specs.declared.cmp.Ordering.{Ordering}
use Rattle.std.specs.declared.cmp.Ordering.TheVariants.{Less, Equal, Greater}
use Rattle.ds2_value.specs.Order.{key_order, value_eq}
use Rattle.ds2_value.specs.ValueLaws.{key_order_total}
use Rattle.ds2_value.specs.declared.value.Value.{Value}
use Rattle.ds2_value.specs.declared.value.Value.TheVariants.{Null}
use Rattle.ds2_table.specs.Loads.{value_order}
use Rattle.ds2_reading.specs.KeyHeads.{tells_all, most_head, directed_head, IsDirectedHead, IsKeyHead, level_of_head}
use Rattle.ds2_reading.specs.KeyOrder.{part_of_key, parts_order, parts_in_common}
use Rattle.ds2_reading.proofs.HeadsTell.{told_apart, told_alike}

-- a key of no parts has the head of null
no_part : (key : List Value) → length key ≡ 0 → part_of_key key 0 ≡ Null
no_part [] e = refl
no_part (x ∷ xs) e = absurd (omega (arith, e))

null_head : (m : ℕ) (key : List Value) → IsDirectedHead [] m key → length key ≡ 0 → m ≡ 32
null_head m key h e = let P : Value → Type 0 = IsKeyHead m in subst P (no_part key e) h.own

before_turned : (d : Bool) (m n : ℕ) (p q : Value) → m ≤ most_head → n ≤ most_head → IsKeyHead (directed_head d m) p → IsKeyHead (directed_head d n) q → m < n
    → value_order d p q ≡ Less
before_turned false m n p q a b h k l = told_apart m n p q h k l
before_turned true m n p q a b h k l =
    let t = key_order_total in
    ap ordering_reverse (t.antisymm p q ∙ ap ordering_reverse (told_apart (most_head - n) (most_head - m) q p k h (omega (arith, a, b, l))))

level_turned : (d : Bool) (m n : ℕ) (p q : Value) → m ≤ most_head → IsKeyHead (directed_head d m) p → IsKeyHead (directed_head d n) q → m ≡ n → m % 128 ≡ 32
    → key_order p q ≡ Equal
level_turned false m n p q a h k e w = told_alike m n p q h k e w
level_turned true m n p q a h k e w = told_alike (most_head - m) (most_head - n) p q h k (ap (λ x. most_head - x) e) (omega (arith, a, w))

-- a lesser head stands before
pub heads_apart : (ds : List Bool) (m n : ℕ) (a b : List Value) → length a ≡ length ds → length b ≡ length ds → IsDirectedHead ds m a → IsDirectedHead ds n b → m < n
    → parts_order ds a b ≡ Less
heads_apart [] m n a b la lb h k l = absurd (omega (arith, null_head m a h la, null_head n b k lb, l))
heads_apart (d ∷ ds) m n a b la lb h k l =
    ap (λ r. ordering_then r (parts_order ds (drop 1 a) (drop 1 b))) (before_turned d m n (part_of_key a 0) (part_of_key b 0) h.bound k.bound h.own k.own l)

value_level : (d : Bool) (p q : Value) → key_order p q ≡ Equal → value_order d p q ≡ Equal
value_level false p q e = e
value_level true p q e = ap ordering_reverse e

one_at_most : (n : ℕ) → min (suc n) 1 ≡ 1
one_at_most n = omega arith

-- keys of one head are equal in as many parts as it tells
pub level_order : (ds : List Bool) (m n : ℕ) (a b : List Value) → IsDirectedHead ds m a → IsDirectedHead ds n b → m ≡ n
    → parts_order (drop (level_of_head ds m) ds) (drop (level_of_head ds m) a) (drop (level_of_head ds m) b) ≡ parts_order ds a b
level_order ds m n a b h k e = by (tells_all m) refl
  where
    at : Bool → ℕ
    at t = if t then min (length ds) 1 else 0

    by : (t : Bool) → tells_all m ≡ t → parts_order (drop (at t) ds) (drop (at t) a) (drop (at t) b) ≡ parts_order ds a b
    by false w = refl
    by true w = told ds h k
      where
        told : (ds : List Bool) → IsDirectedHead ds m a → IsDirectedHead ds n b
            → parts_order (drop (min (length ds) 1) ds) (drop (min (length ds) 1) a) (drop (min (length ds) 1) b) ≡ parts_order ds a b
        told [] f g = refl
        told (d ∷ ds) f g =
            let level = value_level d (part_of_key a 0) (part_of_key b 0) (level_turned d m n (part_of_key a 0) (part_of_key b 0) f.bound f.own g.own e (eqb-true (m % 128) 32 w)) in
            ap (λ i. parts_order (drop i (d ∷ ds)) (drop i a) (drop i b)) (one_at_most (length ds))
            ∙ sym (ap (λ r. ordering_then r (parts_order ds (drop 1 a) (drop 1 b))) level)

-- ---- parts in common

turned_less : (r : Ordering) → ordering_reverse r ≡ Less → r ≡ Greater
turned_less Less h = cc
turned_less Equal h = cc
turned_less Greater h = refl

unequal : (d : Bool) (p q : Value) → value_order d p q ≡ Less → (value_eq p q ≡ false) × (value_eq q p ≡ false)
unequal false p q e = let t = key_order_total in (ap is_eq e, ap is_eq (t.antisymm q p ∙ ap ordering_reverse e))
unequal true p q e =
    let t = key_order_total in
    let own = turned_less (key_order p q) e in (ap is_eq own, ap is_eq (t.antisymm q p ∙ ap ordering_reverse own))

-- keys of other heads have no part in common
pub none_common : (ds : List Bool) (m n : ℕ) (a b : List Value) → length a ≡ length ds → length b ≡ length ds → IsDirectedHead ds m a → IsDirectedHead ds n b → m < n
    → (parts_in_common (length ds) a b ≡ 0) × (parts_in_common (length ds) b a ≡ 0)
none_common [] m n a b la lb h k l = (refl, refl)
none_common (d ∷ ds) m n a b la lb h k l =
    let apart = unequal d (part_of_key a 0) (part_of_key b 0) (before_turned d m n (part_of_key a 0) (part_of_key b 0) h.bound k.bound h.own k.own l) in (
      ap (λ t. if t then parts_in_common (length ds) (drop 1 a) (drop 1 b) + 1 else 0) apart.0,
      ap (λ t. if t then parts_in_common (length ds) (drop 1 b) (drop 1 a) + 1 else 0) apart.1,
    )

-- those of one head have as many as it tells, and more
pub level_common : (ds : List Bool) (m n : ℕ) (a b : List Value) → IsDirectedHead ds m a → IsDirectedHead ds n b → m ≡ n
    → level_of_head ds m + parts_in_common (length ds - level_of_head ds m) (drop (level_of_head ds m) a) (drop (level_of_head ds m) b) ≡ parts_in_common (length ds) a b
level_common ds m n a b h k e = by (tells_all m) refl
  where
    at : Bool → ℕ
    at t = if t then min (length ds) 1 else 0

    by : (t : Bool) → tells_all m ≡ t → at t + parts_in_common (length ds - at t) (drop (at t) a) (drop (at t) b) ≡ parts_in_common (length ds) a b
    by false w = let z : length ds - 0 ≡ length ds = omega arith in let y : 0 + parts_in_common (length ds - 0) a b ≡ parts_in_common (length ds - 0) a b = omega arith in y ∙ ap (λ n. parts_in_common n a b) z
    by true w = told ds h k
      where
        told : (ds : List Bool) → IsDirectedHead ds m a → IsDirectedHead ds n b
            → min (length ds) 1 + parts_in_common (length ds - min (length ds) 1) (drop (min (length ds) 1) a) (drop (min (length ds) 1) b) ≡ parts_in_common (length ds) a b
        told [] f g = refl
        told (d ∷ ds) f g =
            let level = level_turned d m n (part_of_key a 0) (part_of_key b 0) f.bound f.own g.own e (eqb-true (m % 128) 32 w) in
            let z : suc (length ds) - 1 ≡ length ds = omega arith in
            let y : 1 + parts_in_common (length ds) (drop 1 a) (drop 1 b) ≡ parts_in_common (length ds) (drop 1 a) (drop 1 b) + 1 = omega arith in
            ap (λ i. i + parts_in_common (suc (length ds) - i) (drop i a) (drop i b)) (one_at_most (length ds))
            ∙ ap (λ i. 1 + parts_in_common i (drop 1 a) (drop 1 b)) z
            ∙ y
            ∙ sym (ap (λ t. if t then parts_in_common (length ds) (drop 1 a) (drop 1 b) + 1 else 0) (ap is_eq level))
