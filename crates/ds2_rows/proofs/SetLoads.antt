-- The loads of `set`, by their numbers.
use Rattle.std.proofs.Common.{◌≡◌, ℕ, zero, suc, ◌+◌, Bool, true, false, nat_eq, List, [], ◌∷◌, map, length, refl, ap, ◌∙◌}
use Rattle.std.specs.Prelude.{slice_get, Option, Some, None, is_some, if◌then◌else◌}
use Rattle.std.specs.List.{range_with_len}
use Rattle.std.specs.Option.{option_map}
use Rattle.std.proofs.lemmas.List.{length-map}
use Rattle.std.proofs.lemmas.Option.{slice_get-map}
use Rattle.ds2_value.specs.declared.value.Value.{Value}
use Rattle.ds2_table.specs.Loads.{InputRow, KeyedLoad, flagged_load, set_load, set_loads}
use Rattle.ds2_reading.specs.Places.{item_before, all_rows}
use Rattle.ds2_reading.proofs.Flagged.{flagged_at, flagged_length, flagged_keys}

mapped_key : (n : ℕ) (row : Option InputRow) → option_map (λ (l : KeyedLoad). l.key) (option_map (set_load n) row) ≡ option_map (λ (r : InputRow). r.key) row
mapped_key n None = refl
mapped_key n (Some row) = refl

mapped_flags : (before next : Option (List Value)) (n : ℕ) (row : Option InputRow)
    → option_map (flagged_load before next) (option_map (set_load n) row) ≡ option_map (λ (r : InputRow). flagged_load before next (set_load n r)) row
mapped_flags before next n None = refl
mapped_flags before next n (Some row) = refl

row_before : (n : ℕ) (rows : List InputRow) (k : ℕ)
    → option_map (λ (l : KeyedLoad). l.key) (item_before (map (set_load n) rows) k) ≡ option_map (λ (r : InputRow). r.key) (item_before rows k)
row_before n rows zero = refl
row_before n rows (suc k) = ap (option_map (λ (l : KeyedLoad). l.key)) (slice_get-map (set_load n) rows k) ∙ mapped_key n (slice_get rows k)

row_after : (n : ℕ) (rows : List InputRow) (k : ℕ)
    → option_map (λ (l : KeyedLoad). l.key) (slice_get (map (set_load n) rows) k) ≡ option_map (λ (r : InputRow). r.key) (slice_get rows k)
row_after n rows k = ap (option_map (λ (l : KeyedLoad). l.key)) (slice_get-map (set_load n) rows k) ∙ mapped_key n (slice_get rows k)

-- the load of this number is the row of this number between those beside it
pub load_at : (ds : List Bool) (tables : List (List (List Value))) (k : ℕ)
    → slice_get (set_loads ds tables) k
    ≡ option_map (λ (r : InputRow). flagged_load (option_map (λ (b : InputRow). b.key) (item_before (all_rows ds tables) k))
    (option_map (λ (a : InputRow). a.key) (slice_get (all_rows ds tables) (k + 1))) (set_load (length tables) r)) (slice_get (all_rows ds tables) k)
load_at ds tables k =
    let rows = all_rows ds tables in
    let n = length tables in
    flagged_at (map (set_load n) rows) k
    ∙ (λ i. option_map (flagged_load (row_before n rows k i) (row_after n rows (k + 1) i)) (slice_get-map (set_load n) rows k i))
    ∙ mapped_flags (option_map (λ (b : InputRow). b.key) (item_before rows k)) (option_map (λ (a : InputRow). a.key) (slice_get rows (k + 1))) n (slice_get rows k)

-- there are as many loads as rows
pub as_many_loads : (ds : List Bool) (tables : List (List (List Value))) → length (set_loads ds tables) ≡ length (all_rows ds tables)
as_many_loads ds tables =
    flagged_length None (map (set_load (length tables)) (all_rows ds tables)) ∙ length-map (all_rows ds tables) (set_load (length tables))

row_keys : (n : ℕ) (rows : List InputRow) → map (λ (l : KeyedLoad). l.key) (map (set_load n) rows) ≡ map (λ (r : InputRow). r.key) rows
row_keys n [] = refl
row_keys n (row ∷ rows) = ap (λ r. row.key ∷ r) (row_keys n rows)

-- with the keys of the rows
pub keys_of_set : (ds : List Bool) (tables : List (List (List Value))) → map (λ (l : KeyedLoad). l.key) (set_loads ds tables) ≡ map (λ (r : InputRow). r.key) (all_rows ds tables)
keys_of_set ds tables = flagged_keys None (map (set_load (length tables)) (all_rows ds tables)) ∙ row_keys (length tables) (all_rows ds tables)

-- ---- the tables that a load names

is_some_if : (b : Bool) (number : ℕ) → is_some (if b then Some number else None) ≡ b
is_some_if true number = refl
is_some_if false number = refl

present_among : (t number : ℕ) (xs : List ℕ) → map is_some (map (λ table. if nat_eq t table then Some number else None) xs) ≡ map (λ other. nat_eq t other) xs
present_among t number [] = refl
present_among t number (x ∷ xs) = λ i. is_some_if (nat_eq t x) number i ∷ present_among t number xs i

pub present_is : (n t number : ℕ) → map is_some (map (λ table. if nat_eq t table then Some number else None) (range_with_len 0 n)) ≡ map (λ other. nat_eq t other) (range_with_len 0 n)
present_is n t number = present_among t number (range_with_len 0 n)
