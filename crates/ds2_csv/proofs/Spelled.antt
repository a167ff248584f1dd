-- The cells of a record, and what they spell.
use Rattle.std.proofs.Common.{◌≡◌, ℕ, zero, suc, List, [], ◌∷◌, Option, Some, map, refl, sym, ap, ◌∙◌, unwrap_or, slice_get}
use Rattle.csv.specs.Records.{field_at}
use Rattle.ds2_csv_records.specs.Cells.{spelled}
use Rattle.ds2_csv_records.specs.declared.cell.Cell.{Cell}
use Rattle.ds2_csv.specs.Columns.{cell_at}

-- a field is the item at its place
pub field_at-get : (xs : List (List ℕ)) (i : ℕ) → field_at xs i ≡ slice_get xs i
unfolding field_at
field_at-get [] i = refl
field_at-get (x ∷ xs) zero = refl
field_at-get (x ∷ xs) (suc i) = field_at-get xs i

-- an item that was found
pub field-spelled : (cells : List Cell) (i : ℕ) (c : Cell) → slice_get cells i ≡ Some c → Some (spelled c) ≡ field_at (map spelled cells) i
unfolding field_at
field-spelled [] i c h = cc h
field-spelled (x ∷ xs) zero c h = let e : x ≡ c = cc h in ap (λ (t : Cell). Some (spelled t)) (sym e)
field-spelled (x ∷ xs) (suc i) c h = field-spelled xs i c h

pub cell-spelled : (cells : List Cell) (i : ℕ) (c : Cell) → slice_get cells i ≡ Some c → spelled c ≡ cell_at i (map spelled cells)
cell-spelled cells i c h = ap (λ (o : Option (List ℕ)). unwrap_or o []) (field-spelled cells i c h ∙ field_at-get (map spelled cells) i)
