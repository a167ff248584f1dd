-- Rows in BY order by their keys: the rows of the first one's key come first, and each key counts once.
use Rattle.std.proofs.Common.{◌≡◌, Bool, true, false, not, ◌||◌, ◌&&◌, cond, List, [], ◌∷◌, ◌++◌, refl, sym, ap, ◌∙◌, subst}
use Rattle.std.specs.Prelude.{if◌then◌else◌}
use Rattle.std.specs.Cmp.{alike_right}
use Rattle.std.specs.List.{list_all}
use Rattle.std.specs.Ordering.{is_lt, is_gt, ordering_reverse}
use Rattle.std.specs.declared.cmp.Ordering.{Ordering}
use Rattle.std.specs.declared.cmp.Ordering.TheVariants.{Less, Equal, Greater}
use Rattle.ds2_value.specs.Order.{same_row}
use Rattle.ds2_value.specs.declared.value.Value.{Value}
use Rattle.ds2_table.specs.LoadLaws.{AreSorted, rows_of_key}
use Rattle.ds2_table.specs.Loads.{InputRow, keys_order, has_key, each_once, keys_of_rows}
use Rattle.ds2_table.proofs.ByOrder.{Fits, rows_equiv}
use Rattle.ds2_table.proofs.Sorted.{AllFit, keys_antisymm, not_before_row, first_part, second_part}
use Rattle.ds2_reading.specs.KeyOrder.{parts_order}
use Rattle.ds2_reading.proofs.AllRows.{key_joined}
use Rattle.ds2_reading.proofs.Parts.{parts_total, parts_agree}
use Rattle.ds2_reading.proofs.SortedNumbers.{same_level}
use Rattle.ds2_reading.proofs.Unique.{equal_rows}
use Rattle.ds2_merge.specs.KeyPlaces.{HaveNewKeys}

-- ---- rows of a key

pub own_key : (x : InputRow) (xs : List InputRow) → rows_of_key x.key (x ∷ xs) ≡ x ∷ rows_of_key x.key xs
own_key x xs = let q = rows_equiv in ap (λ b. cond b (x ∷ rows_of_key x.key xs) (rows_of_key x.key xs)) (q.refl x.key)

pub this_key : (key : List Value) (x : InputRow) (xs : List InputRow) → same_row x.key key ≡ true → rows_of_key key (x ∷ xs) ≡ x ∷ rows_of_key key xs
this_key key x xs h = ap (λ b. cond b (x ∷ rows_of_key key xs) (rows_of_key key xs)) h

-- where no row has a key, the first one does not have it, and none of the others
none_has : (key : List Value) (x : InputRow) (xs : List InputRow) → rows_of_key key (x ∷ xs) ≡ [] → (same_row x.key key ≡ false) × (rows_of_key key xs ≡ [])
none_has key x xs h = by (same_row x.key key) refl
  where
    by : (b : Bool) → same_row x.key key ≡ b → (same_row x.key key ≡ false) × (rows_of_key key xs ≡ [])
    by true e = let none : x ∷ rows_of_key key xs ≡ [] = sym (ap (λ b. cond b (x ∷ rows_of_key key xs) (rows_of_key key xs)) e) ∙ h in cc
    by false e = (e, sym (ap (λ b. cond b (x ∷ rows_of_key key xs) (rows_of_key key xs)) e) ∙ h)

-- of the rows of a key none has another one
none_of_other : (key other : List Value) (rows : List InputRow) → same_row other key ≡ false → rows_of_key other (rows_of_key key rows) ≡ []
none_of_other key other [] n = refl
none_of_other key other (x ∷ xs) n = by (same_row x.key key) refl (none_of_other key other xs n)
  where
    by : (b : Bool) → same_row x.key key ≡ b → rows_of_key other (rows_of_key key xs) ≡ []
        → rows_of_key other (cond b (x ∷ rows_of_key key xs) (rows_of_key key xs)) ≡ []
    by true e again =
        let q = rows_equiv in
        let differs : same_row x.key other ≡ false = q.congr x.key key other e ∙ q.symm key other ∙ n in
        ap (λ b. cond b (x ∷ rows_of_key other (rows_of_key key xs)) (rows_of_key other (rows_of_key key xs))) differs ∙ again
    by false e again = again

-- the rows of a key all have it
pub all_have : (key : List Value) (rows : List InputRow) → rows_of_key key (rows_of_key key rows) ≡ rows_of_key key rows
all_have key [] = refl
all_have key (x ∷ xs) = by (same_row x.key key) refl (all_have key xs)
  where
    by : (b : Bool) → same_row x.key key ≡ b → rows_of_key key (rows_of_key key xs) ≡ rows_of_key key xs
        → rows_of_key key (cond b (x ∷ rows_of_key key xs) (rows_of_key key xs)) ≡ cond b (x ∷ rows_of_key key xs) (rows_of_key key xs)
    by true e again = this_key key x (rows_of_key key xs) e ∙ ap (λ r. x ∷ r) again
    by false e again = again

-- ---- rows with new keys

new_behind : (before xs ys : List InputRow) → HaveNewKeys before (xs ++ ys) → HaveNewKeys before ys
new_behind before [] ys h = h
new_behind before (x ∷ xs) ys h = new_behind before xs ys h.1

-- rows that do not have a key have new keys behind the rows of that key
new_after : (key : List Value) (before rows ys : List InputRow) → HaveNewKeys before ys → rows_of_key key ys ≡ [] → HaveNewKeys (before ++ rows_of_key key rows) ys
new_after key before rows [] h n = tt
new_after key before rows (y ∷ ys) h n =
    let others = none_has key y ys n in (
      key_joined y.key before (rows_of_key key rows) ∙ (λ i. h.0 i ++ none_of_other key y.key rows others.0 i),
      new_after key before rows ys h.1 others.1,
    )

pub new_left : (key : List Value) (before rows xs ys : List InputRow) → HaveNewKeys before xs → xs ≡ rows_of_key key rows ++ ys → rows_of_key key ys ≡ []
    → HaveNewKeys (before ++ rows_of_key key rows) ys
new_left key before rows xs ys h e n =
    let P : List InputRow → Type 0 = HaveNewKeys before in new_after key before rows ys (new_behind before (rows_of_key key rows) ys (subst P e h)) n

pub all_new : (rows : List InputRow) → HaveNewKeys [] rows
all_new [] = tt
all_new (row ∷ rows) = (refl, all_new rows)

-- ---- each key once

-- these lists have the same of these keys
abbrev Agree : List (List Value) → List (List Value) → List (List Value) → Type 0
Agree a b [] = Unit {0}
Agree a b (key ∷ keys) = (has_key a key ≡ has_key b key) × Agree a b keys

agree_more : (k : List Value) (a b keys : List (List Value)) → Agree a b keys → Agree (k ∷ a) (k ∷ b) keys
agree_more k a b [] h = tt
agree_more k a b (key ∷ keys) h = (ap (λ t. same_row k key || t) h.0, agree_more k a b keys h.1)

once_alike : (a b keys : List (List Value)) → Agree a b keys → each_once a keys ≡ each_once b keys
once_alike a b [] h = refl
once_alike a b (key ∷ keys) h =
    ap (λ t. if t then each_once a keys else key ∷ each_once (key ∷ a) keys) h.0
    ∙ by (has_key b key) (once_alike a b keys h.1) (once_alike (key ∷ a) (key ∷ b) keys (agree_more key a b keys h.1))
  where
    by : (t : Bool) → each_once a keys ≡ each_once b keys → each_once (key ∷ a) keys ≡ each_once (key ∷ b) keys
        → (if t then each_once a keys else key ∷ each_once (key ∷ a) keys) ≡ (if t then each_once b keys else key ∷ each_once (key ∷ b) keys)
    by true same more = same
    by false same more = ap (λ r. key ∷ r) more

or_false : (b : Bool) → b || false ≡ b
or_false true = refl
or_false false = refl

seen_is : (key k : List Value) → has_key (key ∷ []) k ≡ same_row k key
seen_is key k = let q = rows_equiv in or_false (same_row key k) ∙ q.symm key k

once_passed : (key : List Value) (rows ys : List InputRow)
    → each_once (key ∷ []) (keys_of_rows (rows_of_key key rows ++ ys)) ≡ each_once (key ∷ []) (keys_of_rows ys)
once_passed key [] ys = refl
once_passed key (x ∷ xs) ys = by (same_row x.key key) refl (once_passed key xs ys)
  where
    by : (b : Bool) → same_row x.key key ≡ b → each_once (key ∷ []) (keys_of_rows (rows_of_key key xs ++ ys)) ≡ each_once (key ∷ []) (keys_of_rows ys)
        → each_once (key ∷ []) (keys_of_rows (cond b (x ∷ rows_of_key key xs) (rows_of_key key xs) ++ ys)) ≡ each_once (key ∷ []) (keys_of_rows ys)
    by true e again =
        let rest = keys_of_rows (rows_of_key key xs ++ ys) in
        ap (λ t. if t then each_once (key ∷ []) rest else x.key ∷ each_once (x.key ∷ key ∷ []) rest) (seen_is key x.key ∙ e) ∙ again
    by false e again = again

unseen : (key : List Value) (ys : List InputRow) → rows_of_key key ys ≡ [] → Agree (key ∷ []) [] (keys_of_rows ys)
unseen key [] n = tt
unseen key (y ∷ ys) n = let others = none_has key y ys n in (seen_is key y.key ∙ others.0, unseen key ys others.1)

-- the keys of rows that begin with those of a key
pub once_split : (first : InputRow) (tail rows ys : List InputRow) → first ∷ tail ≡ rows_of_key first.key rows ++ ys → rows_of_key first.key ys ≡ []
    → each_once [] (keys_of_rows (first ∷ tail)) ≡ first.key ∷ each_once [] (keys_of_rows ys)
once_split first tail rows ys e n =
    let q = rows_equiv in
    let key = first.key in
    ap (λ r. key ∷ r)
    (sym (ap (λ t. if t then each_once (key ∷ []) (keys_of_rows tail) else key ∷ each_once (key ∷ key ∷ []) (keys_of_rows tail)) (seen_is key key ∙ q.refl key))
    ∙ ap (λ xs. each_once (key ∷ []) (keys_of_rows xs)) e
    ∙ once_passed key rows ys
    ∙ once_alike (key ∷ []) [] (keys_of_rows ys) (unseen key ys n))

-- ---- order

not_gt : (r : Ordering) → not (is_gt r) ≡ true → is_gt r ≡ false
not_gt Less h = refl
not_gt Equal h = refl
not_gt Greater h = cc

not_lt_turned : (r : Ordering) → is_lt r ≡ false → not (is_gt (ordering_reverse r)) ≡ true
not_lt_turned Less h = cc
not_lt_turned Equal h = refl
not_lt_turned Greater h = refl

is_Less : (r : Ordering) → is_lt r ≡ true → r ≡ Less
is_Less Less h = refl
is_Less Equal h = cc
is_Less Greater h = cc

-- what stands before a row stands before what that one does not stand behind
before_chain : (ds : List Bool) (a b c : List Value) → is_lt (parts_order ds a b) ≡ true → is_gt (parts_order ds b c) ≡ false → is_lt (parts_order ds a c) ≡ true
before_chain ds a b c h k = by (parts_order ds b c) refl k
  where
    by : (r : Ordering) → parts_order ds b c ≡ r → is_gt r ≡ false → is_lt (parts_order ds a c) ≡ true
    by Less e q = let t = parts_total ds in ap is_lt (t.trans a b c (is_Less (parts_order ds a b) h) e)
    by Equal e q = ap is_lt (sym (alike_right (parts_total ds) b c a e)) ∙ h
    by Greater e q = cc

level_less : is_lt Equal ≡ true → ⊥
level_less h = cc

-- a key that stands before a row's is not that row's
before_differs : (ds : List Bool) (key : List Value) (row : InputRow) → Fits ds key → Fits ds row.key → is_lt (parts_order ds key row.key) ≡ true
    → (b : Bool) → same_row row.key key ≡ b → same_row row.key key ≡ false
before_differs ds key row f g l false e = e
before_differs ds key row f g l true e =
    let q = rows_equiv in
    let level = same_level ds key row.key f g (q.symm key row.key ∙ e) in
    absurd (level_less (ap is_lt (sym level ∙ parts_agree ds key row.key f g) ∙ l))

-- none of some rows in BY order has a key that stands before the first one's
pub none_of_earlier : (ds : List Bool) (key : List Value) (row : InputRow) (rows : List InputRow) → Fits ds key → AllFit ds (row ∷ rows) → AreSorted ds (row ∷ rows)
    → is_lt (parts_order ds key row.key) ≡ true → rows_of_key key (row ∷ rows) ≡ []
none_of_earlier ds key row [] f g s l =
    ap (λ b. cond b (row ∷ []) []) (before_differs ds key row f g.0 l (same_row row.key key) refl)
none_of_earlier ds key row (y ∷ ys) f g s l =
    let after : is_gt (parts_order ds row.key y.key) ≡ false =
    not_gt (parts_order ds row.key y.key)
    (ap (λ r. not (is_gt r)) (sym (parts_agree ds row.key y.key g.0 g.1.0)) ∙ first_part (not_before_row ds row y) (list_all (not_before_row ds row) ys) s.0) in
    ap (λ b. cond b (row ∷ rows_of_key key (y ∷ ys)) (rows_of_key key (y ∷ ys))) (before_differs ds key row f g.0 l (same_row row.key key) refl)
    ∙ none_of_earlier ds key y ys f g.1 s.1 (before_chain ds key row.key y.key l after)

-- a row that stands neither before nor behind a key has it
pub has_the_key : (ds : List Bool) (first row : InputRow) → Fits ds first.key → Fits ds row.key → not_before_row ds first row ≡ true
    → is_lt (parts_order ds first.key row.key) ≡ false → same_row row.key first.key ≡ true
has_the_key ds first row f g n l =
    equal_rows ds row.key first.key g f
    (ap (λ r. not (is_gt r)) (keys_antisymm ds row.key first.key)
    ∙ not_lt_turned (keys_order ds first.key row.key) (ap is_lt (parts_agree ds first.key row.key f g) ∙ l)) n

-- what some rows pass, those behind pass
pub passed_behind : (test : InputRow → Bool) (xs ys : List InputRow) → list_all test (xs ++ ys) ≡ true → list_all test ys ≡ true
passed_behind test [] ys h = h
passed_behind test (x ∷ xs) ys h = passed_behind test xs ys (second_part (test x) (list_all test (xs ++ ys)) h)

-- no row of rows in BY order stands before the first one
pub first_passes : (ds : List Bool) (row : InputRow) (rows : List InputRow) → Fits ds row.key → AreSorted ds (row ∷ rows) → list_all (not_before_row ds row) (row ∷ rows) ≡ true
first_passes ds row rows f s =
    let q = rows_equiv in
    ap (λ r. not (is_gt r) && list_all (not_before_row ds row) rows) (same_level ds row.key row.key f f (q.refl row.key)) ∙ s.0
