-- The first load of a group: no load before it has the values of the group's BY variables.
use Rattle.std.proofs.Common.{◌≡◌, ℕ, zero, suc, ◌+◌, Bool, true, false, not, ◌&&◌, ◌||◌, cond, List, [], ◌∷◌, ◌++◌, length, map, take, drop, Option, Some, None, is_some, refl, sym, ap, ◌∙◌, if◌then◌else◌}
use Rattle.std.specs.Cmp.Lexicographic.{lists_equiv}
use Rattle.std.specs.List.{AllByRecursion, range_with_len}
use Rattle.std.specs.Ordering.{is_lt}
use Rattle.std.proofs.lemmas.Bool.{true≢false}
use Rattle.ds2_value.specs.Order.{value_eq, same_row}
use Rattle.ds2_value.specs.ValueLaws.{value_equiv}
use Rattle.ds2_value.specs.declared.value.Value.{Value}
use Rattle.ds2_table.specs.Loads.{InputRow, KeyedLoad, keys_order, placed, in_by_order, numbered_rows, input_rows, has_key, each_once, differences, flags_beside, next_key, flagged_load, flagged, rows_of_one, set_load, matches, most_rows, merge_load, loads_of_key, loads_of_keys, keys_of_rows, group_with_key}

-- ---- lengths

pub map_length : {A B : Type 0} (f : A → B) (xs : List A) → length (map f xs) ≡ length xs
map_length f [] = refl
map_length f (x ∷ xs) = ap suc (map_length f xs)

range_length : (a n : ℕ) → length (range_with_len a n) ≡ n
range_length a zero = refl
range_length a (suc n) = ap suc (range_length (a + 1) n)

-- the key of a row has so many values
abbrev HasKey : ℕ → InputRow → Type 0
HasKey n r = length r.key ≡ n

numbered_have : (n table number : ℕ) (keys : List (List Value)) → AllByRecursion (λ key. length key ≡ n) keys → AllByRecursion (HasKey n) (numbered_rows table number keys)
numbered_have n table number [] h = tt
numbered_have n table number (key ∷ keys) h = (h.0, numbered_have n table (number + 1) keys h.1)

all_joined : {A : Type 0} (P : A → Type 0) (xs ys : List A) → AllByRecursion P xs → AllByRecursion P ys → AllByRecursion P (xs ++ ys)
all_joined P [] ys g h = h
all_joined P (x ∷ xs) ys g h = (g.0, all_joined P xs ys g.1 h)

rows_have : (n table : ℕ) (tables : List (List (List Value))) → AllByRecursion (λ keys. AllByRecursion (λ key. length key ≡ n) keys) tables → AllByRecursion (HasKey n) (input_rows table tables)
rows_have n table [] h = tt
rows_have n table (keys ∷ more) h = all_joined (HasKey n) (numbered_rows table 0 keys) (input_rows (table + 1) more) (numbered_have n table 0 keys h.0) (rows_have n (table + 1) more h.1)

placed_by : (P : InputRow → Type 0) (b : Bool) (ds : List Bool) (row other : InputRow) (others : List InputRow) → P row → P other → AllByRecursion P others → AllByRecursion P (placed ds row others)
    → AllByRecursion P (if b then other ∷ placed ds row others else row ∷ other ∷ others)
placed_by P true ds row other others r o os rest = (o, rest)
placed_by P false ds row other others r o os rest = (r, (o, os))

placed_all : (P : InputRow → Type 0) (ds : List Bool) (row : InputRow) (others : List InputRow) → P row → AllByRecursion P others → AllByRecursion P (placed ds row others)
placed_all P ds row [] r os = (r, tt)
placed_all P ds row (other ∷ others) r os =
    placed_by P (is_lt (keys_order ds other.key row.key)) ds row other others r os.0 os.1 (placed_all P ds row others r os.1)

ordered_all : (P : InputRow → Type 0) (ds : List Bool) (rows : List InputRow) → AllByRecursion P rows → AllByRecursion P (in_by_order ds rows)
ordered_all P ds [] h = tt
ordered_all P ds (row ∷ rows) h = placed_all P ds row (in_by_order ds rows) h.0 (ordered_all P ds rows h.1)

-- ---- loads before their flags are known

-- a load with so many values of BY variables, over so many tables
pub record Proper (n tables : ℕ) (l : KeyedLoad) : Type 0 where
  pub keys : length l.key ≡ n
  pub present : length l.load.present ≡ tables

set_proper : (n tables : ℕ) (row : InputRow) → HasKey n row → Proper n tables (set_load tables row)
set_proper n tables row h = record { keys = h; present = map_length is_some (rows_of_one tables row) ∙ map_length _ (range_with_len 0 tables) ∙ range_length 0 tables }

set_all_proper : (n tables : ℕ) (rows : List InputRow) → AllByRecursion (HasKey n) rows → AllByRecursion (Proper n tables) (map (set_load tables) rows)
set_all_proper n tables [] h = tt
set_all_proper n tables (row ∷ rows) h = (set_proper n tables row h.0, set_all_proper n tables rows h.1)

keys_have : (n : ℕ) (rows : List InputRow) → AllByRecursion (HasKey n) rows → AllByRecursion (λ (key : List Value). length key ≡ n) (keys_of_rows rows)
keys_have n [] h = tt
keys_have n (row ∷ rows) h = (h.0, keys_have n rows h.1)

once_by : (P : List Value → Type 0) (b : Bool) (seen : List (List Value)) (key : List Value) (keys : List (List Value)) → P key → AllByRecursion P (each_once seen keys) → AllByRecursion P (each_once (key ∷ seen) keys)
    → AllByRecursion P (if b then each_once seen keys else key ∷ each_once (key ∷ seen) keys)
once_by P true seen key keys k a b = a
once_by P false seen key keys k a b = (k, b)

once_all : (P : List Value → Type 0) (seen : List (List Value)) (keys : List (List Value)) → AllByRecursion P keys → AllByRecursion P (each_once seen keys)
once_all P seen [] h = tt
once_all P seen (key ∷ keys) h = once_by P (has_key seen key) seen key keys h.0 (once_all P seen keys h.1) (once_all P (key ∷ seen) keys h.1)

merge_proper : (n tables : ℕ) (key : List Value) (found : List (List ℕ)) (i : ℕ) → length key ≡ n → length found ≡ tables → Proper n tables (merge_load key found i)
merge_proper n tables key found i h e = record { keys = h; present = map_length _ found ∙ e }

merged_all : (n tables : ℕ) (key : List Value) (found : List (List ℕ)) (is : List ℕ) → length key ≡ n → length found ≡ tables → AllByRecursion (Proper n tables) (map (merge_load key found) is)
merged_all n tables key found [] h e = tt
merged_all n tables key found (i ∷ is) h e = (merge_proper n tables key found i h e, merged_all n tables key found is h e)

keyed_all : (n tables : ℕ) (rows : List InputRow) (keys : List (List Value)) → AllByRecursion (λ (key : List Value). length key ≡ n) keys → AllByRecursion (Proper n tables) (loads_of_keys tables rows keys)
keyed_all n tables rows [] h = tt
keyed_all n tables rows (key ∷ keys) h =
    all_joined (Proper n tables) (loads_of_key tables rows key) (loads_of_keys tables rows keys)
    (merged_all n tables key (matches tables key rows) (range_with_len 0 (most_rows (matches tables key rows))) h.0 (map_length _ (range_with_len 0 tables) ∙ range_length 0 tables))
    (keyed_all n tables rows keys h.1)

-- ---- the first load of a group

-- all of these flags are 1
abbrev pub AllSet : List Bool → Type 0
AllSet flags = AllByRecursion (λ flag. flag ≡ true) flags

-- a load with so many BY variables, over so many tables, that opens a group at a grain: it has another key than the load before it, and `first`
-- of the BY variable at the grain and of the later ones is 1
pub record Opens (n tables grain : ℕ) (l : KeyedLoad) : Type 0 where
  pub fresh : l.load.is_fresh ≡ true
  pub present : length l.load.present ≡ tables
  pub firsts : length l.load.first ≡ n
  pub lasts : length l.load.last ≡ n
  pub ones : AllSet (drop grain l.load.first)

all_true : (key : List Value) → AllSet (map (λ (v : Value). true) key)
all_true [] = tt
all_true (v ∷ key) = (refl, all_true key)

dropped_all : {A : Type 0} (P : A → Type 0) (n : ℕ) (xs : List A) → AllByRecursion P xs → AllByRecursion P (drop n xs)
dropped_all P zero xs h = h
dropped_all P (suc n) [] h = h
dropped_all P (suc n) (x ∷ xs) h = dropped_all P n xs h.1

-- once a part differs, so do all that follow
rest_differs : (a b : List Value) → AllSet (differences true a b)
rest_differs [] b = tt
rest_differs (x ∷ xs) [] = tt
rest_differs (x ∷ xs) (y ∷ ys) = (refl, rest_differs xs ys)

differ_by : (eq before : Bool) (p : ℕ) (xs ys : List Value)
    → (eq ≡ true → before ≡ false → AllSet (drop p (differences (before || not eq) xs ys))) → AllSet (drop p (differences (before || not eq) xs ys))
differ_by true true p xs ys later = dropped_all (λ flag. flag ≡ true) p (differences true xs ys) (rest_differs xs ys)
differ_by true false p xs ys later = later refl refl
differ_by false true p xs ys later = dropped_all (λ flag. flag ≡ true) p (differences true xs ys) (rest_differs xs ys)
differ_by false false p xs ys later = dropped_all (λ flag. flag ≡ true) p (differences true xs ys) (rest_differs xs ys)

-- keys of one length that differ in their first parts: `first` is 1 from the last of these on
differ_from : (p : ℕ) (before : Bool) (a b : List Value) → length a ≡ length b → same_row (take (suc p) a) (take (suc p) b) ≡ false → AllSet (drop p (differences before a b))
differ_from p before [] [] same e = absurd (true≢false e)
differ_from p before [] (y ∷ ys) same e = absurd cc
differ_from p before (x ∷ xs) [] same e = absurd cc
differ_from zero before (x ∷ xs) (y ∷ ys) same e = first (value_eq x y) e
  where
    or_one : (b : Bool) → AllSet ((b || true) ∷ differences (b || true) xs ys)
    or_one true = (refl, rest_differs xs ys)
    or_one false = (refl, rest_differs xs ys)

    first : (eq : Bool) → (eq && same_row (take zero xs) (take zero ys)) ≡ false → AllSet ((before || not eq) ∷ differences (before || not eq) xs ys)
    first true f = absurd (true≢false f)
    first false f = or_one before
differ_from (suc p) before (x ∷ xs) (y ∷ ys) same e =
    differ_by (value_eq x y) before p xs ys
    (λ eq none. differ_from p (before || not (value_eq x y)) xs ys (shorter same) (second (value_eq x y) eq e))
  where
    shorter : length (x ∷ xs) ≡ length (y ∷ ys) → length xs ≡ length ys
    shorter f = cc

    second : (eq : Bool) → eq ≡ true → (eq && same_row (take (suc p) xs) (take (suc p) ys)) ≡ false → same_row (take (suc p) xs) (take (suc p) ys) ≡ false
    second true g f = f
    second false g f = absurd (true≢false (sym g))

equal_step : (eq a b : Bool) → (a ≡ true → b ≡ true) → (eq && a) ≡ true → (eq && b) ≡ true
equal_step true a b f e = f e
equal_step false a b f e = absurd (true≢false (sym e))

-- keys that are equal in all parts are so in the first ones
equal_first : (p : ℕ) (a b : List Value) → same_row a b ≡ true → same_row (take p a) (take p b) ≡ true
equal_first zero a b e = refl
equal_first (suc p) [] [] e = refl
equal_first (suc p) [] (y ∷ ys) e = absurd (true≢false (sym e))
equal_first (suc p) (x ∷ xs) [] e = absurd (true≢false (sym e))
equal_first (suc p) (x ∷ xs) (y ∷ ys) e = equal_step (value_eq x y) (same_row xs ys) (same_row (take p xs) (take p ys)) (λ f. equal_first p xs ys f) e

-- a key that is not in a group is apart from one that is
apart_from : (p : ℕ) (k q l : List Value) → same_row (take p q) k ≡ false → same_row (take p l) k ≡ true → same_row (take p q) (take p l) ≡ false
apart_from p k q l out within = by (same_row (take p q) (take p l)) refl
  where
    by : (b : Bool) → same_row (take p q) (take p l) ≡ b → b ≡ false
    by true e = absurd (true≢false (sym within ∙ sym ((lists_equiv value_equiv).congr (take p q) (take p l) k e) ∙ out))
    by false e = refl

not_same : (p : ℕ) (q l : List Value) → same_row (take p q) (take p l) ≡ false → same_row q l ≡ false
not_same p q l e = by (same_row q l) refl
  where
    by : (b : Bool) → same_row q l ≡ b → b ≡ false
    by true f = absurd (true≢false (sym (equal_first p q l f) ∙ e))
    by false f = refl

-- the load before, where there is one, has so many values, and is not in the group
abbrev Before : ℕ → ℕ → List Value → Option (List Value) → Type 0
Before n p k None = Unit {0}
Before n p k (Some q) = (length q ≡ n) × (same_row (take p q) k ≡ false)

differences_length : (before : Bool) (a b : List Value) → length a ≡ length b → length (differences before a b) ≡ length b
differences_length before [] b e = e
differences_length before (x ∷ xs) [] e = absurd cc
differences_length before (x ∷ xs) (y ∷ ys) e = ap suc (differences_length (before || not (value_eq x y)) xs ys (let f : length xs ≡ length ys = cc in f))

pub beside_length : (n : ℕ) (o : Option (List Value)) (key : List Value) → ((q : List Value) → o ≡ Some q → length q ≡ n) → length key ≡ n → length (flags_beside o key) ≡ n
beside_length n None key f e = map_length _ key ∙ e
beside_length n (Some q) key f e = differences_length false key q (e ∙ sym (f q refl)) ∙ f q refl

-- a load behind one that is not in the group
opening : (n tables p : ℕ) (k : List Value) (previous next : Option (List Value)) (l : KeyedLoad) → Before n (suc p) k previous → ((q : List Value) → next ≡ Some q → length q ≡ n) → Proper n tables l → same_row (take (suc p) l.key) k ≡ true
    → Opens n tables p (flagged_load previous next l)
opening n tables p k None next l before f proper within = record {
  fresh = refl;
  present = proper.present;
  firsts = map_length _ l.key ∙ proper.keys;
  lasts = beside_length n next l.key f proper.keys;
  ones = dropped_all (λ flag. flag ≡ true) p (map (λ (v : Value). true) l.key) (all_true l.key);
}
opening n tables p k (Some q) next l before f proper within =
    let apart = apart_from (suc p) k q l.key before.1 within in
    let same_length : length l.key ≡ length q = proper.keys ∙ sym before.0 in
    record {
      fresh = ap not (not_same (suc p) q l.key apart);
      present = proper.present;
      firsts = differences_length false l.key q same_length ∙ before.0;
      lasts = beside_length n next l.key f proper.keys;
      ones = differ_from p false l.key q same_length ((lists_equiv value_equiv).symm (take (suc p) l.key) (take (suc p) q) ∙ apart);
    }

-- the first of some loads
abbrev pub Heads : (KeyedLoad → Type 0) → List KeyedLoad → Type 0
Heads P [] = Unit {0}
Heads P (l ∷ ls) = P l

pub next_length : (n tables : ℕ) (ls : List KeyedLoad) → AllByRecursion (Proper n tables) ls → (q : List Value) → next_key ls ≡ Some q → length q ≡ n
next_length n tables [] h q e = absurd cc
next_length n tables (l ∷ ls) h q e = let same : l.key ≡ q = cc in ap length (sym same) ∙ h.0.keys

-- the first load of a group opens it
pub first_opens : (n tables p : ℕ) (k : List Value) (previous : Option (List Value)) (ls : List KeyedLoad) → AllByRecursion (Proper n tables) ls → Before n (suc p) k previous
    → Heads (Opens n tables p) (group_with_key (suc p) k (flagged previous ls))
first_opens n tables p k previous [] h before = tt
first_opens n tables p k previous (l ∷ ls) h before =
    by (same_row (take (suc p) l.key) k) refl (λ out. first_opens n tables p k (Some l.key) ls h.1 (h.0.keys, out))
  where
    by : (b : Bool) → same_row (take (suc p) l.key) k ≡ b → (b ≡ false → Heads (Opens n tables p) (group_with_key (suc p) k (flagged (Some l.key) ls)))
        → Heads (Opens n tables p) (cond b (flagged_load previous (next_key ls) l ∷ group_with_key (suc p) k (flagged (Some l.key) ls)) (group_with_key (suc p) k (flagged (Some l.key) ls)))
    by true e later = opening n tables p k previous (next_key ls) l before (next_length n tables ls h.1) h.0 e
    by false e later = later refl

-- the loads of `set` and of `merge` are proper before their flags are known
pub set_loads_proper : (n : ℕ) (ds : List Bool) (tables : List (List (List Value))) → AllByRecursion (λ keys. AllByRecursion (λ key. length key ≡ n) keys) tables
    → AllByRecursion (Proper n (length tables)) (map (set_load (length tables)) (in_by_order ds (input_rows 0 tables)))
set_loads_proper n ds tables h =
    set_all_proper n (length tables) (in_by_order ds (input_rows 0 tables)) (ordered_all (HasKey n) ds (input_rows 0 tables) (rows_have n 0 tables h))

pub merge_loads_proper : (n : ℕ) (ds : List Bool) (tables : List (List (List Value))) → AllByRecursion (λ keys. AllByRecursion (λ key. length key ≡ n) keys) tables
    → AllByRecursion (Proper n (length tables)) (loads_of_keys (length tables) (input_rows 0 tables) (each_once [] (keys_of_rows (in_by_order ds (input_rows 0 tables)))))
merge_loads_proper n ds tables h =
    keyed_all n (length tables) (input_rows 0 tables) (each_once [] (keys_of_rows (in_by_order ds (input_rows 0 tables))))
    (once_all (λ key. length key ≡ n) [] (keys_of_rows (in_by_order ds (input_rows 0 tables)))
    (keys_have n (in_by_order ds (input_rows 0 tables)) (ordered_all (HasKey n) ds (input_rows 0 tables) (rows_have n 0 tables h))))
