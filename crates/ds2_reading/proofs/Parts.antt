-- Keys part by part.
use Rattle.std.proofs.Common.{◌≡◌, ℕ, zero, suc, ◌+◌, ◌-◌, ◌<◌, Bool, true, false, List, [], ◌∷◌, length, drop, refl, sym, ap, ◌∙◌, arith}
use Rattle.std.specs.Prelude.{get_or, if◌then◌else◌}
use Rattle.std.specs.Cmp.{IsTotalOrder, tied_itself}
use Rattle.std.specs.Ordering.{is_eq, is_ne, ordering_then}
use Rattle.std.specs.declared.cmp.Ordering.{Ordering}
use Rattle.std.specs.declared.cmp.Ordering.TheVariants.{Less, Equal, Greater}
use Rattle.std.proofs.lemmas.Cmp.{then_total, on_total}
use Rattle.std.proofs.lemmas.List.{drop_more, drop-drop, get_or_default}
use Rattle.ds2_value.specs.Order.{key_order, value_eq}
use Rattle.ds2_value.specs.ValueLaws.{key_order_total}
use Rattle.ds2_value.specs.declared.value.Value.{Value}
use Rattle.ds2_value.specs.declared.value.Value.TheVariants.{Null}
use Rattle.ds2_table.specs.Loads.{value_order, keys_order}
use Rattle.ds2_table.proofs.ByOrder.{order_total, Fits}
use Rattle.ds2_reading.specs.KeyOrder.{part_of_key, parts_order, parts_in_common}

-- ---- null

pub null_itself : key_order Null Null ≡ Equal
null_itself = tied_itself key_order_total Null

-- ---- one part

pub part_behind : (k : ℕ) (key : List Value) → part_of_key (drop k key) 0 ≡ part_of_key key k
part_behind zero key = refl
part_behind (suc k) [] = refl
part_behind (suc k) (x ∷ xs) = part_behind k xs

pub rest_behind : (k : ℕ) (key : List Value) → drop 1 (drop k key) ≡ drop (k + 1) key
rest_behind k key = drop-drop 1 k key

-- ---- the order

pub order_step : (ds : List Bool) (a b : List Value) (k : ℕ) (d : Bool) → k < length ds → d ≡ get_or ds k d
    → parts_order (drop k ds) (drop k a) (drop k b)
    ≡ ordering_then (value_order d (part_of_key a k) (part_of_key b k)) (parts_order (drop (k + 1) ds) (drop (k + 1) a) (drop (k + 1) b))
order_step ds a b k d h e =
    ap (λ rest. parts_order rest (drop k a) (drop k b)) (drop_more ds k d h)
    ∙ (λ i. ordering_then (value_order (sym e i) (part_behind k a i) (part_behind k b i)) (parts_order (drop (k + 1) ds) (rest_behind k a i) (rest_behind k b i)))

pub decided : (r o : Ordering) → is_ne r ≡ true → ordering_then r o ≡ r
decided Less o h = refl
decided Equal o h = cc
decided Greater o h = refl

pub undecided : (r o : Ordering) → is_ne r ≡ false → ordering_then r o ≡ o
undecided Less o h = cc
undecided Equal o h = refl
undecided Greater o h = cc

pub order_end : (ds : List Bool) (a b : List Value) (k : ℕ) → drop k ds ≡ [] → parts_order (drop k ds) (drop k a) (drop k b) ≡ Equal
order_end ds a b k h = ap (λ rest. parts_order rest (drop k a) (drop k b)) h

-- a part in which two keys differ decides
pub part_decides : (ds : List Bool) (a b : List Value) (k : ℕ) (d x : Bool) (r : Ordering) (p q : Value) (o : Ordering) → k < length ds → d ≡ get_or ds k x
    → r ≡ value_order d p q → p ≡ part_of_key a k → q ≡ part_of_key b k → is_ne r ≡ true
    → parts_order (drop k ds) (drop k a) (drop k b) ≡ o → r ≡ o
part_decides ds a b k d x r p q o l e v ep eq n inv =
    let own : d ≡ get_or ds k d = e ∙ get_or_default ds k x d l in
    let r-is : r ≡ value_order d (part_of_key a k) (part_of_key b k) = v ∙ (λ i. value_order d (ep i) (eq i)) in
    r-is
    ∙ sym (decided (value_order d (part_of_key a k) (part_of_key b k)) (parts_order (drop (k + 1) ds) (drop (k + 1) a) (drop (k + 1) b)) (ap is_ne (sym r-is) ∙ n))
    ∙ sym (order_step ds a b k d l own)
    ∙ inv

-- one in which they are equal leaves it to the parts behind it
pub part_passes : (ds : List Bool) (a b : List Value) (k : ℕ) (d x : Bool) (r : Ordering) (p q : Value) (o : Ordering) → k < length ds → d ≡ get_or ds k x
    → r ≡ value_order d p q → p ≡ part_of_key a k → q ≡ part_of_key b k → is_ne r ≡ false
    → parts_order (drop k ds) (drop k a) (drop k b) ≡ o
    → parts_order (drop (k + 1) ds) (drop (k + 1) a) (drop (k + 1) b) ≡ o
part_passes ds a b k d x r p q o l e v ep eq n inv =
    let own : d ≡ get_or ds k d = e ∙ get_or_default ds k x d l in
    let r-is : r ≡ value_order d (part_of_key a k) (part_of_key b k) = v ∙ (λ i. value_order d (ep i) (eq i)) in
    sym (undecided (value_order d (part_of_key a k) (part_of_key b k)) (parts_order (drop (k + 1) ds) (drop (k + 1) a) (drop (k + 1) b)) (ap is_ne (sym r-is) ∙ n))
    ∙ sym (order_step ds a b k d l own)
    ∙ inv

always_equal : IsTotalOrder (λ (a b : List Value). Equal)
always_equal = record { antisymm = λ x y. refl; trans = λ x y z h k. h; congr = λ x y z h. refl }

-- keys whose lacking parts count as null stand in a total order
pub parts_total : (ds : List Bool) → IsTotalOrder (parts_order ds)
parts_total [] = always_equal
parts_total (d ∷ ds) = then_total (on_total (λ (a : List Value). part_of_key a 0) (order_total d)) (on_total (λ (a : List Value). drop 1 a) (parts_total ds))

-- of keys with a value for each BY variable this is their order
pub parts_agree : (ds : List Bool) (a b : List Value) → Fits ds a → Fits ds b → keys_order ds a b ≡ parts_order ds a b
parts_agree [] a b f g = refl
parts_agree (d ∷ ds) [] b f g = absurd f
parts_agree (d ∷ ds) (x ∷ xs) [] f g = absurd g
parts_agree (d ∷ ds) (x ∷ xs) (y ∷ ys) f g = ap (ordering_then (value_order d x y)) (parts_agree ds xs ys f g)

-- ---- parts in common

pub common_equal : (bys k : ℕ) (a b : List Value) → k < bys → value_eq (part_of_key a k) (part_of_key b k) ≡ true
    → parts_in_common (bys - k) (drop k a) (drop k b) ≡ parts_in_common (bys - (k + 1)) (drop (k + 1) a) (drop (k + 1) b) + 1
common_equal bys k a b h e =
    let one : bys - k ≡ suc (bys - (k + 1)) = omega arith in
    ap (λ n. parts_in_common n (drop k a) (drop k b)) one
    ∙ (λ i. if value_eq (part_behind k a i) (part_behind k b i) then parts_in_common (bys - (k + 1)) (rest_behind k a i) (rest_behind k b i) + 1 else 0)
    ∙ ap (λ t. if t then parts_in_common (bys - (k + 1)) (drop (k + 1) a) (drop (k + 1) b) + 1 else 0) e

pub common_unequal : (bys k : ℕ) (a b : List Value) → k < bys → value_eq (part_of_key a k) (part_of_key b k) ≡ false
    → parts_in_common (bys - k) (drop k a) (drop k b) ≡ 0
common_unequal bys k a b h e =
    let one : bys - k ≡ suc (bys - (k + 1)) = omega arith in
    ap (λ n. parts_in_common n (drop k a) (drop k b)) one
    ∙ (λ i. if value_eq (part_behind k a i) (part_behind k b i) then parts_in_common (bys - (k + 1)) (rest_behind k a i) (rest_behind k b i) + 1 else 0)
    ∙ ap (λ t. if t then parts_in_common (bys - (k + 1)) (drop (k + 1) a) (drop (k + 1) b) + 1 else 0) e

pub equal_from_order : (r : Ordering) → is_ne r ≡ false → is_eq r ≡ true
equal_from_order Less h = cc
equal_from_order Equal h = refl
equal_from_order Greater h = cc

pub unequal_from_order : (r : Ordering) → is_ne r ≡ true → is_eq r ≡ false
unequal_from_order Less h = refl
unequal_from_order Equal h = cc
unequal_from_order Greater h = refl

-- for the parts that two keys have in common
pub ruleset common_parts = (common_equal, common_unequal, equal_from_order, unequal_from_order)
