-- Values that are of a type.
use Rattle.std.proofs.Common.{◌≡◌, ℕ, zero, suc, ◌+◌, ◌<◌, length, map, get_or, Bool, true, ◌&&◌, List, [], ◌∷◌, ◌++◌, take, refl, sym, ap, ◌∙◌}
use Rattle.std.proofs.lemmas.List.{append_assoc, map_more}
use Rattle.std.specs.Cmp.{first_so, second_so}
use Rattle.std.specs.List.{list_all}
use Rattle.std.specs.Prelude.{Some, None, slice_get}
use Rattle.ds2_value.specs.Types.{fits}
use Rattle.ds2_value.specs.declared.ty.Ty.{Ty}
use Rattle.ds2_value.specs.declared.value.Value.{Value}
use Rattle.ds2_columns.specs.Columns.{ColumnContents, all_fit, value_in_row, with_value, with_rows}

pub all_behind : {X : Type 0} (p : X → Bool) (xs : List X) (x : X) → list_all p xs ≡ true → p x ≡ true → list_all p (xs ++ x ∷ []) ≡ true
all_behind p [] x h k = ap (λ b. b && true) k
all_behind p (y ∷ xs) x h k =
    ap (λ b. b && list_all p (xs ++ x ∷ [])) (first_so (p y) (list_all p xs) h) ∙ all_behind p xs x (second_so (p y) (list_all p xs) h) k

pub all_first : {X : Type 0} (p : X → Bool) (count : ℕ) (xs : List X) → list_all p xs ≡ true → list_all p (take count xs) ≡ true
all_first p zero xs h = refl
all_first p (suc count) [] h = refl
all_first p (suc count) (x ∷ xs) h =
    ap (λ b. b && list_all p (take count xs)) (first_so (p x) (list_all p xs) h) ∙ all_first p count xs (second_so (p x) (list_all p xs) h)

pub holds_at : {X : Type 0} (p : X → Bool) (xs : List X) (i : ℕ) (x : X) → list_all p xs ≡ true → slice_get xs i ≡ Some x → p x ≡ true
holds_at p [] i x h e = let none : None ≡ Some x = e in cc
holds_at p (y ∷ xs) zero x h e = let same : y ≡ x = cc in ap p (sym same) ∙ first_so (p y) (list_all p xs) h
holds_at p (y ∷ xs) (suc i) x h e = holds_at p xs i x (second_so (p y) (list_all p xs) h) e

-- the value in a row fits, and so does the null behind the last row
pub fits_at : (ty : Ty) (values : List Value) (row : ℕ) → all_fit ty values ≡ true → fits (value_in_row values row) ty ≡ true
fits_at ty [] row h = refl
fits_at ty (v ∷ values) zero h = first_so (fits v ty) (all_fit ty values) h
fits_at ty (v ∷ values) (suc row) h = fits_at ty values row (second_so (fits v ty) (all_fit ty values) h)

-- values in rows, one more
pub rows_more : (column : ColumnContents) (values : List Value) (order : List ℕ) (i d : ℕ) → i < length order
    → with_value (with_rows column values (take i order)) (value_in_row values (get_or order i d)) ≡ with_rows column values (take (i + 1) order)
rows_more column values order i d h =
    ap (λ (vs : List Value). record column { values = vs })
    (append_assoc column.values (map (value_in_row values) (take i order)) (value_in_row values (get_or order i d) ∷ [])
    ∙ ap (λ (vs : List Value). column.values ++ vs) (sym (map_more (value_in_row values) order i d h)))
