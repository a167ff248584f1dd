-- Rows in BY order are sorted, and those of one key stand as before.
use Rattle.std.proofs.Common.{◌≡◌, Bool, true, false, not, ◌&&◌, cond, List, [], ◌∷◌, refl, sym, ap, ◌∙◌, true≢false}
use Rattle.std.specs.Prelude.{IsTrue, if◌then◌else◌}
use Rattle.std.specs.List.{list_all}
use Rattle.std.specs.Ordering.{is_gt, is_lt, ordering_then, ordering_reverse}
use Rattle.std.specs.declared.cmp.Ordering.{Ordering}
use Rattle.std.specs.declared.cmp.Ordering.TheVariants.{Less, Equal, Greater}
use Rattle.ds2_value.specs.Order.{value_eq, same_row}
use Rattle.ds2_value.specs.declared.value.Value.{Value}
use Rattle.ds2_table.specs.LoadLaws.{HaveKeys, AreSorted, rows_of_key, RowsStandInByOrder}
use Rattle.ds2_table.specs.Loads.{InputRow, value_order, keys_order, placed, in_by_order}
use Rattle.ds2_table.proofs.ByOrder.{order_total, tied_order, Fits, as_long, then-Equal, Stands, before, level, after, stands, greater_not, not_less, level_part, rows_equiv}

-- a key does not stand after another one
abbrev pub IsNotAfter : List Bool → List Value → List Value → Type 0
IsNotAfter ds a b = IsTrue (not (is_gt (keys_order ds a b)))

reverse_then : (r o : Ordering) → ordering_reverse (ordering_then r o) ≡ ordering_then (ordering_reverse r) (ordering_reverse o)
reverse_then Less o = refl
reverse_then Equal o = refl
reverse_then Greater o = refl

pub keys_antisymm : (ds : List Bool) (a b : List Value) → keys_order ds a b ≡ ordering_reverse (keys_order ds b a)
keys_antisymm [] a b = refl
keys_antisymm (d ∷ ds) [] [] = refl
keys_antisymm (d ∷ ds) [] (y ∷ ys) = refl
keys_antisymm (d ∷ ds) (x ∷ xs) [] = refl
keys_antisymm (d ∷ ds) (x ∷ xs) (y ∷ ys) = let t = order_total d in
    (λ i. ordering_then (t.antisymm x y i) (keys_antisymm ds xs ys i)) ∙ sym (reverse_then (value_order d y x) (keys_order ds ys xs))

not_lt : (r : Ordering) → is_lt r ≡ false → not (is_gt (ordering_reverse r)) ≡ true
not_lt Less h = absurd (true≢false h)
not_lt Equal h = refl
not_lt Greater h = refl

not_before : (ds : List Bool) (a b : List Value) → is_lt (keys_order ds b a) ≡ false → IsNotAfter ds a b
not_before ds a b h = ap (λ r. not (is_gt r)) (keys_antisymm ds a b) ∙ not_lt (keys_order ds b a) h

is_Less : (r : Ordering) → is_lt r ≡ true → r ≡ Less
is_Less Less h = refl
is_Less Equal h = absurd (true≢false (sym h))
is_Less Greater h = absurd (true≢false (sym h))

not_after_on : (ds : List Bool) (a b c : List Value) → Fits ds a → Fits ds b → Fits ds c → IsNotAfter ds a b → IsNotAfter ds b c → IsNotAfter ds a c
not_after_on [] a b c f g k h l = refl
not_after_on (d ∷ ds) [] b c f g k h l = absurd f
not_after_on (d ∷ ds) (x ∷ xs) [] c f g k h l = absurd g
not_after_on (d ∷ ds) (x ∷ xs) (y ∷ ys) [] f g k h l = absurd k
not_after_on (d ∷ ds) (x ∷ xs) (y ∷ ys) (z ∷ zs) f g k h l =
    by (λ inner rest. not_after_on ds xs ys zs f g k inner rest) (stands (value_order d x y)) (stands (value_order d y z))
  where
    by : (IsNotAfter ds xs ys → IsNotAfter ds ys zs → IsNotAfter ds xs zs) → Stands (value_order d x y) → Stands (value_order d y z) → IsNotAfter (d ∷ ds) (x ∷ xs) (z ∷ zs)
    by again (before xy) (before yz) = let t = order_total d in ap (λ r. not (is_gt (ordering_then r (keys_order ds xs zs)))) (t.trans x y z xy yz)
    by again (before xy) (level yz) =
        let t = order_total d in
        let zx : value_order d z x ≡ value_order d y x = sym (t.congr y z x yz) in
        let xz : value_order d x z ≡ Less = t.antisymm x z ∙ ap ordering_reverse zx ∙ sym (t.antisymm x y) ∙ xy in
        ap (λ r. not (is_gt (ordering_then r (keys_order ds xs zs)))) xz
    by again (before xy) (after yz) = absurd (greater_not (value_order d y z) (keys_order ds ys zs) yz l)
    by again (level xy) (before yz) = let t = order_total d in ap (λ r. not (is_gt (ordering_then r (keys_order ds xs zs)))) (t.congr x y z xy ∙ yz)
    by again (level xy) (level yz) =
        let t = order_total d in
        ap (λ r. not (is_gt (ordering_then r (keys_order ds xs zs)))) (t.congr x y z xy ∙ yz)
        ∙ again (level_part (value_order d x y) (keys_order ds xs ys) xy h) (level_part (value_order d y z) (keys_order ds ys zs) yz l)
    by again (level xy) (after yz) = absurd (greater_not (value_order d y z) (keys_order ds ys zs) yz l)
    by again (after xy) q = absurd (greater_not (value_order d x y) (keys_order ds xs ys) xy h)

before_differs : (ds : List Bool) (a b : List Value) → Fits ds a → Fits ds b → keys_order ds a b ≡ Less → same_row a b ≡ false
before_differs [] a b f g h = absurd (not_less h)
before_differs (d ∷ ds) [] b f g h = absurd f
before_differs (d ∷ ds) (x ∷ xs) [] f g h = absurd g
before_differs (d ∷ ds) (x ∷ xs) (y ∷ ys) f g h = by (λ inner. before_differs ds xs ys f g inner) (value_eq x y) refl
  where
    by : (keys_order ds xs ys ≡ Less → same_row xs ys ≡ false) → (b : Bool) → value_eq x y ≡ b → value_eq x y && same_row xs ys ≡ false
    by again false e = ap (λ b. b && same_row xs ys) e
    by again true e =
        ap (λ b. b && same_row xs ys) e ∙ again (sym (then-Equal (value_order d x y) (keys_order ds xs ys) (tied_order d x y e)) ∙ h)

-- ---- rows

-- each row has a value for each BY variable
abbrev pub AllFit : List Bool → List InputRow → Type 0
AllFit ds [] = Unit {0}
AllFit ds (row ∷ rows) = Fits ds row.key × AllFit ds rows

pub all_fit : (ds : List Bool) (rows : List InputRow) → HaveKeys ds rows → AllFit ds rows
all_fit ds [] h = tt
all_fit ds (row ∷ rows) h = (as_long ds row.key h.0, all_fit ds rows h.1)

-- the test for rows that do not stand before a row
abbrev pub not_before_row : List Bool → InputRow → InputRow → Bool
not_before_row ds row other = not (is_gt (keys_order ds row.key other.key))

both_so : (b c : Bool) → b ≡ true → c ≡ true → b && c ≡ true
both_so b c h k = ap (λ x. x && c) h ∙ k

pub first_part : (b c : Bool) → b && c ≡ true → b ≡ true
first_part true c h = refl
first_part false c h = absurd (true≢false (sym h))

pub second_part : (b c : Bool) → b && c ≡ true → c ≡ true
second_part true c h = h
second_part false c h = absurd (true≢false (sym h))

placed_fits : (ds : List Bool) (row : InputRow) (rows : List InputRow) → Fits ds row.key → AllFit ds rows → AllFit ds (placed ds row rows)
placed_fits ds row [] f h = (f, tt)
placed_fits ds row (other ∷ others) f h = by (is_lt (keys_order ds other.key row.key)) (placed_fits ds row others f h.1)
  where
    by : (b : Bool) → AllFit ds (placed ds row others) → AllFit ds (if b then other ∷ placed ds row others else row ∷ other ∷ others)
    by true again = (h.0, again)
    by false again = (f, h)

all_placed : (ds : List Bool) (test : InputRow → Bool) (row : InputRow) (rows : List InputRow) → test row ≡ true → list_all test rows ≡ true
    → list_all test (placed ds row rows) ≡ true
all_placed ds test row [] h k = both_so (test row) true h refl
all_placed ds test row (other ∷ others) h k =
    by (is_lt (keys_order ds other.key row.key)) (all_placed ds test row others h (second_part (test other) (list_all test others) k))
  where
    by : (b : Bool) → list_all test (placed ds row others) ≡ true → list_all test (if b then other ∷ placed ds row others else row ∷ other ∷ others) ≡ true
    by true again = both_so (test other) (list_all test (placed ds row others)) (first_part (test other) (list_all test others) k) again
    by false again = both_so (test row) (list_all test (other ∷ others)) h k

all_not_before : (ds : List Bool) (row other : InputRow) (others : List InputRow) → Fits ds row.key → Fits ds other.key → AllFit ds others
    → IsNotAfter ds row.key other.key → list_all (not_before_row ds other) others ≡ true → list_all (not_before_row ds row) others ≡ true
all_not_before ds row other [] f g k h l = refl
all_not_before ds row other (x ∷ xs) f g k h l =
    both_so (not_before_row ds row x) (list_all (not_before_row ds row) xs)
    (not_after_on ds row.key other.key x.key f g k.0 h (first_part (not_before_row ds other x) (list_all (not_before_row ds other) xs) l))
    (all_not_before ds row other xs f g k.1 h (second_part (not_before_row ds other x) (list_all (not_before_row ds other) xs) l))

placed_sorted : (ds : List Bool) (row : InputRow) (rows : List InputRow) → Fits ds row.key → AllFit ds rows → AreSorted ds rows → AreSorted ds (placed ds row rows)
placed_sorted ds row [] f k h = (refl, tt)
placed_sorted ds row (other ∷ others) f k h =
    by (placed_sorted ds row others f k.1 h.1) (is_lt (keys_order ds other.key row.key)) refl
  where
    by : AreSorted ds (placed ds row others) → (b : Bool) → is_lt (keys_order ds other.key row.key) ≡ b
        → AreSorted ds (if b then other ∷ placed ds row others else row ∷ other ∷ others)
    by again true e =
        let less = is_Less (keys_order ds other.key row.key) e in
        (all_placed ds (not_before_row ds other) row others (ap (λ r. not (is_gt r)) less) h.0, again)
    by again false e =
        let first = not_before ds row.key other.key e in
        (both_so (not_before_row ds row other) (list_all (not_before_row ds row) others) first (all_not_before ds row other others f k.0 k.1 first h.0), h)

-- a row that is not placed in front of others has another key than those that it passes
placed_stable : (ds : List Bool) (key : List Value) (row : InputRow) (rows : List InputRow) → Fits ds row.key → AllFit ds rows
    → rows_of_key key (placed ds row rows) ≡ rows_of_key key (row ∷ rows)
placed_stable ds key row [] f k = refl
placed_stable ds key row (other ∷ others) f k = by (placed_stable ds key row others f k.1) (is_lt (keys_order ds other.key row.key)) refl
  where
    passed : rows_of_key key (placed ds row others) ≡ rows_of_key key (row ∷ others) → is_lt (keys_order ds other.key row.key) ≡ true → (b : Bool) → same_row row.key key ≡ b
        → rows_of_key key (other ∷ placed ds row others) ≡ rows_of_key key (row ∷ other ∷ others)
    passed again e true h =
        let q = rows_equiv in
        let differs = before_differs ds other.key row.key k.0 f (is_Less (keys_order ds other.key row.key) e) in
        let no : same_row other.key key ≡ false = q.symm other.key key ∙ sym (q.congr row.key key other.key h) ∙ q.symm row.key other.key ∙ differs in
        ap (λ b. cond b (other ∷ rows_of_key key (placed ds row others)) (rows_of_key key (placed ds row others))) no
        ∙ again
        ∙ sym (ap (λ b. cond (same_row row.key key) (row ∷ cond b (other ∷ rows_of_key key others) (rows_of_key key others)) (cond b (other ∷ rows_of_key key others) (rows_of_key key others))) no)
    passed again e false h =
        ap (λ r. cond (same_row other.key key) (other ∷ r) r) (again ∙ ap (λ b. cond b (row ∷ rows_of_key key others) (rows_of_key key others)) h)
        ∙ sym (ap (λ b. cond b (row ∷ cond (same_row other.key key) (other ∷ rows_of_key key others) (rows_of_key key others)) (cond (same_row other.key key) (other ∷ rows_of_key key others) (rows_of_key key others))) h)

    by : rows_of_key key (placed ds row others) ≡ rows_of_key key (row ∷ others) → (b : Bool) → is_lt (keys_order ds other.key row.key) ≡ b
        → rows_of_key key (if b then other ∷ placed ds row others else row ∷ other ∷ others) ≡ rows_of_key key (row ∷ other ∷ others)
    by again true e = passed again e (same_row row.key key) refl
    by again false e = refl

pub order_fits : (ds : List Bool) (rows : List InputRow) → AllFit ds rows → AllFit ds (in_by_order ds rows)
order_fits ds [] h = tt
order_fits ds (row ∷ rows) h = placed_fits ds row (in_by_order ds rows) h.0 (order_fits ds rows h.1)

pub sorted : (ds : List Bool) (rows : List InputRow) → AllFit ds rows → AreSorted ds (in_by_order ds rows)
sorted ds [] h = tt
sorted ds (row ∷ rows) h = placed_sorted ds row (in_by_order ds rows) h.0 (order_fits ds rows h.1) (sorted ds rows h.1)

stable : (ds : List Bool) (key : List Value) (rows : List InputRow) → AllFit ds rows → rows_of_key key (in_by_order ds rows) ≡ rows_of_key key rows
stable ds key [] h = refl
stable ds key (row ∷ rows) h =
    placed_stable ds key row (in_by_order ds rows) h.0 (order_fits ds rows h.1)
    ∙ ap (λ r. cond (same_row row.key key) (row ∷ r) r) (stable ds key rows h.1)

pub rows_stand_in_by_order : RowsStandInByOrder
rows_stand_in_by_order ds rows h = let fit = all_fit ds rows h in (sorted ds rows fit, λ key. stable ds key rows fit)
