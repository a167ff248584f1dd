-- How many rows tables have.
use Rattle.std.proofs.Common.{◌≡◌, ℕ, zero, suc, ◌+◌, List, [], ◌∷◌, length, take, refl, ap, ◌∙◌, arith}
use Rattle.std.specs.Prelude.{get_or}
use Rattle.std.proofs.lemmas.List.{length-append}
use Rattle.ds2_value.specs.declared.value.Value.{Value}
use Rattle.ds2_table.specs.Loads.{numbered_rows, input_rows}

pub numbered_length : (table number : ℕ) (keys : List (List Value)) → length (numbered_rows table number keys) ≡ length keys
numbered_length table number [] = refl
numbered_length table number (key ∷ keys) = ap suc (numbered_length table (number + 1) keys)

more_rows : (base t : ℕ) (tables : List (List (List Value))) → length (input_rows base (take (suc t) tables)) ≡ length (input_rows base (take t tables)) + length (get_or tables t [])
more_rows base zero [] = omega arith
more_rows base (suc t) [] = omega arith
more_rows base zero (keys ∷ tables) =
    omega (arith, length-append (numbered_rows base 0 keys) [], numbered_length base 0 keys)
more_rows base (suc t) (keys ∷ tables) =
    omega (
      arith,
      length-append (numbered_rows base 0 keys) (input_rows (base + 1) (take (suc t) tables)),
      length-append (numbered_rows base 0 keys) (input_rows (base + 1) (take t tables)),
      more_rows (base + 1) t tables,
    )

-- the rows of one table more
pub rows_more : (t : ℕ) (tables : List (List (List Value))) → length (input_rows 0 (take (t + 1) tables)) ≡ length (input_rows 0 (take t tables)) + length (get_or tables t [])
rows_more t tables = let e : t + 1 ≡ suc t = omega arith in ap (λ n. length (input_rows 0 (take n tables))) e ∙ more_rows 0 t tables
