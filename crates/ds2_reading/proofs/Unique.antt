-- Rows in BY order are told apart by the rows of each key.
use Rattle.std.proofs.Common.{◌≡◌, Bool, true, false, ◌&&◌, cond, List, [], ◌∷◌, refl, sym, ap, ◌∙◌, true≢false}
use Rattle.std.specs.Prelude.{filter}
use Rattle.std.specs.List.{list_all}
use Rattle.std.specs.Ordering.{is_eq, ordering_reverse}
use Rattle.std.specs.declared.cmp.Ordering.{Ordering}
use Rattle.std.specs.declared.cmp.Ordering.TheVariants.{Less, Equal, Greater}
use Rattle.ds2_value.specs.Order.{key_order, value_eq, same_row}
use Rattle.ds2_value.specs.declared.value.Value.{Value}
use Rattle.ds2_table.specs.LoadLaws.{HaveKeys, AreSorted, rows_of_key}
use Rattle.ds2_table.specs.Loads.{InputRow, value_order, keys_order, in_by_order}
use Rattle.ds2_table.proofs.ByOrder.{order_total, Fits, Stands, before, level, after, stands, greater_not, level_part, rows_equiv}
use Rattle.ds2_table.proofs.Sorted.{IsNotAfter, AllFit, all_fit, not_before_row, first_part, second_part, order_fits, rows_stand_in_by_order}

reversed-Equal : (r : Ordering) → ordering_reverse r ≡ Equal → r ≡ Equal
reversed-Equal Less h = cc
reversed-Equal Equal h = refl
reversed-Equal Greater h = cc

-- equal values are equal in either direction
pub tied_value : (d : Bool) (x y : Value) → value_order d x y ≡ Equal → value_eq x y ≡ true
tied_value false x y h = ap is_eq h
tied_value true x y h = ap is_eq (reversed-Equal (key_order x y) h)

-- keys of which neither stands after the other are equal
pub equal_rows : (ds : List Bool) (a b : List Value) → Fits ds a → Fits ds b → IsNotAfter ds a b → IsNotAfter ds b a → same_row a b ≡ true
equal_rows [] [] [] f g h k = refl
equal_rows [] [] (y ∷ ys) f g h k = absurd g
equal_rows [] (x ∷ xs) b f g h k = absurd f
equal_rows (d ∷ ds) [] b f g h k = absurd f
equal_rows (d ∷ ds) (x ∷ xs) [] f g h k = absurd g
equal_rows (d ∷ ds) (x ∷ xs) (y ∷ ys) f g h k = by (λ p q. equal_rows ds xs ys f g p q) (stands (value_order d x y))
  where
    by : (IsNotAfter ds xs ys → IsNotAfter ds ys xs → same_row xs ys ≡ true) → Stands (value_order d x y) → value_eq x y && same_row xs ys ≡ true
    by again (before xy) = let t = order_total d in
        absurd (greater_not (value_order d y x) (keys_order ds ys xs) (t.antisymm y x ∙ ap ordering_reverse xy) k)
    by again (level xy) = let t = order_total d in
        ap (λ b. b && same_row xs ys) (tied_value d x y xy)
        ∙ again (level_part (value_order d x y) (keys_order ds xs ys) xy h)
        (level_part (value_order d y x) (keys_order ds ys xs) (t.antisymm y x ∙ ap ordering_reverse xy) k)
    by again (after xy) = absurd (greater_not (value_order d x y) (keys_order ds xs ys) xy h)

-- what all rows pass, the first of some of them passes
passes : (test p : InputRow → Bool) (x : InputRow) (found rows : List InputRow) → list_all test rows ≡ true → filter p rows ≡ x ∷ found → test x ≡ true
passes test p x found [] h e = cc
passes test p x found (r ∷ rows) h e = by (passes test p x found rows (second_part (test r) (list_all test rows) h)) (p r) refl
  where
    by : (filter p rows ≡ x ∷ found → test x ≡ true) → (b : Bool) → p r ≡ b → test x ≡ true
    by again true k =
        let same : r ∷ filter p rows ≡ x ∷ found = sym (ap (λ b. cond b (r ∷ filter p rows) (filter p rows)) k) ∙ e in
        let one : r ≡ x = cc in
        ap test (sym one) ∙ first_part (test r) (list_all test rows) h
    by again false k = again (sym (ap (λ b. cond b (r ∷ filter p rows) (filter p rows)) k) ∙ e)

-- the rows of its own key begin with a row
own_key : (x : InputRow) (xs : List InputRow) → rows_of_key x.key (x ∷ xs) ≡ x ∷ rows_of_key x.key xs
own_key x xs = let q = rows_equiv in ap (λ b. cond b (x ∷ rows_of_key x.key xs) (rows_of_key x.key xs)) (q.refl x.key)

other_key : (key : List Value) (x : InputRow) (xs : List InputRow) → same_row x.key key ≡ false → rows_of_key key (x ∷ xs) ≡ rows_of_key key xs
other_key key x xs h = ap (λ b. cond b (x ∷ rows_of_key key xs) (rows_of_key key xs)) h

this_key : (key : List Value) (x : InputRow) (xs : List InputRow) → same_row x.key key ≡ true → rows_of_key key (x ∷ xs) ≡ x ∷ rows_of_key key xs
this_key key x xs h = ap (λ b. cond b (x ∷ rows_of_key key xs) (rows_of_key key xs)) h

same_heads : (ds : List Bool) (x y : InputRow) (xs ys : List InputRow) → Fits ds x.key → Fits ds y.key → AreSorted ds (x ∷ xs) → AreSorted ds (y ∷ ys)
    → ((key : List Value) → rows_of_key key (x ∷ xs) ≡ rows_of_key key (y ∷ ys)) → x ≡ y
same_heads ds x y xs ys f g h k e = by (same_row y.key x.key) refl
  where
    by : (b : Bool) → same_row y.key x.key ≡ b → x ≡ y
    by true t =
        let both : x ∷ rows_of_key x.key xs ≡ y ∷ rows_of_key x.key ys = sym (own_key x xs) ∙ e x.key ∙ this_key x.key y ys t in
        cc
    by false t =
        let q = rows_equiv in
        let turned : same_row x.key y.key ≡ false = q.symm x.key y.key ∙ t in
        let x-in : rows_of_key x.key ys ≡ x ∷ rows_of_key x.key xs = sym (other_key x.key y ys t) ∙ sym (e x.key) ∙ own_key x xs in
        let y-in : rows_of_key y.key xs ≡ y ∷ rows_of_key y.key ys = sym (other_key y.key x xs turned) ∙ e y.key ∙ own_key y ys in
        let yx : IsNotAfter ds y.key x.key = passes (not_before_row ds y) (λ (row : InputRow). same_row row.key x.key) x (rows_of_key x.key xs) ys k.0 x-in in
        let xy : IsNotAfter ds x.key y.key = passes (not_before_row ds x) (λ (row : InputRow). same_row row.key y.key) y (rows_of_key y.key ys) xs h.0 y-in in
        absurd (true≢false (sym (equal_rows ds x.key y.key f g xy yx) ∙ turned))

same_tails : (x : InputRow) (xs ys : List InputRow) → ((key : List Value) → rows_of_key key (x ∷ xs) ≡ rows_of_key key (x ∷ ys))
    → (key : List Value) → rows_of_key key xs ≡ rows_of_key key ys
same_tails x xs ys e key = by (same_row x.key key) refl
  where
    by : (b : Bool) → same_row x.key key ≡ b → rows_of_key key xs ≡ rows_of_key key ys
    by true t =
        let both : x ∷ rows_of_key key xs ≡ x ∷ rows_of_key key ys = sym (this_key key x xs t) ∙ e key ∙ this_key key x ys t in
        cc
    by false t = sym (other_key key x xs t) ∙ e key ∙ other_key key x ys t

-- sorted rows with the same rows of each key are the same
pub unique : (ds : List Bool) (xs ys : List InputRow) → AllFit ds xs → AllFit ds ys → AreSorted ds xs → AreSorted ds ys
    → ((key : List Value) → rows_of_key key xs ≡ rows_of_key key ys) → xs ≡ ys
unique ds [] [] f g h k e = refl
unique ds [] (y ∷ ys) f g h k e = let none : [] ≡ y ∷ rows_of_key y.key ys = e y.key ∙ own_key y ys in cc
unique ds (x ∷ xs) [] f g h k e = let none : x ∷ rows_of_key x.key xs ≡ [] = sym (own_key x xs) ∙ e x.key in cc
unique ds (x ∷ xs) (y ∷ ys) f g h k e =
    let first : x ≡ y = same_heads ds x y xs ys f.0 g.0 h k e in
    let rest = unique ds xs ys f.1 g.1 h.1 k.1 (same_tails x xs ys (λ key. e key ∙ ap (λ r. rows_of_key key (r ∷ ys)) (sym first))) in
    λ i. first i ∷ rest i

-- sorted rows with the same rows of each key as some rows are these in BY order
pub ordered_is : (ds : List Bool) (rows ordered : List InputRow) → HaveKeys ds rows → AllFit ds ordered → AreSorted ds ordered
    → ((key : List Value) → rows_of_key key ordered ≡ rows_of_key key rows) → ordered ≡ in_by_order ds rows
ordered_is ds rows ordered h f s e =
    let law = rows_stand_in_by_order ds rows h in
    unique ds ordered (in_by_order ds rows) f (order_fits ds rows (all_fit ds rows h)) s law.0 (λ key. e key ∙ sym (law.1 key))
