-- The items of a hash object as the entries of an ordered map.
use Rattle.std.proofs.Common.{◌≡◌, ℕ, suc, ◌+◌, Bool, true, false, cond, nat_lt, List, [], ◌∷◌, ◌++◌, length, position, Option, None, Some, is_some, refl, sym, ap, subst, ◌∙◌, arith, Bor, append_assoc, append-nil, if◌then◌else◌}
use Rattle.std.proofs.lemmas.Bool.Decides.{nat_tests}
use Rattle.std.specs.Cmp.Lexicographic.{lists_equiv}
use Rattle.std.specs.List.{IsDistinct}
use Rattle.std.specs.Map.{keys_of, lookup, remove_entry}
use Rattle.std.specs.Option.{option_copied, option_map}
use Rattle.indexmap.specs.IndexMap.{insert_entry}
use Rattle.indexmap.proofs.MapLemmas.{absent_before, absent_from_lookup, insert_entry-absent}
use Rattle.ds2_value.specs.HashList.{HashItem, HashItems, item_data, item_position, with_replaced, without_item, found_item, checked_item, added_item, removed_item, only_code, done_code, Stays, Closes}
use Rattle.ds2_value.specs.Order.{same_row}
use Rattle.ds2_value.specs.Row.{Row}
use Rattle.ds2_value.specs.ValueLaws.{value_equiv}
use Rattle.ds2_hash.specs.Calls.{answer_of, shift_of_removal}

-- equal keys are equal either way round
same_row-symm : (a b : Row) → same_row a b ≡ same_row b a
same_row-symm = (lists_equiv value_equiv).symm

pub item_data-lookup : (key : Row) (items : HashItems) → item_data key items ≡ lookup (same_row key) items
item_data-lookup key [] = refl
item_data-lookup key (item ∷ items) = λ j. cond (same_row-symm item.0 key j) (Some item.1) (item_data-lookup key items j)

-- the first place in a longer list
place-cons : (p n : ℕ) → cond (nat_lt (1 + p) (1 + n)) (Some (1 + p)) None ≡ option_map (λ i. suc i) (cond (nat_lt p n) (Some p) None)
place-cons p n = grind (arith, nat_tests)

position-cons : {K : Type 0} (t : K → Bool) (x : K) (xs : List K) → position t (x ∷ xs) ≡ cond (t x) (Some 0) (option_map (λ i. suc i) (position t xs))
position-cons t x xs = grind (arith, nat_tests)

pub item_position-position : (key : Row) (items : HashItems) → item_position key items ≡ position (same_row key) (keys_of items)
item_position-position key [] = refl
item_position-position key (item ∷ items) =
    (λ j. cond (same_row-symm item.0 key j) (Some 0) (option_map (λ i. suc i) (item_position-position key items j)))
    ∙ sym (position-cons (same_row key) item.0 (keys_of items))

pub with_replaced-insert : (key row : Row) (items : HashItems) → with_replaced key row items ≡ insert_entry same_row items key row
with_replaced-insert key row [] = refl
with_replaced-insert key row (item ∷ items) = λ j. cond (same_row-symm item.0 key j) ((item.0, row) ∷ items) (item ∷ with_replaced-insert key row items j)

pub without_item-remove : (key : Row) (items : HashItems) → without_item key items ≡ remove_entry (same_row key) items
without_item-remove key [] = refl
without_item-remove key (item ∷ items) = λ j. cond (same_row-symm item.0 key j) items (item ∷ without_item-remove key items j)

-- an entry with a new key goes last
pub new_entry-last : (key row : Row) (items : HashItems) → lookup (same_row key) items ≡ None → insert_entry same_row items key row ≡ items ++ (key, row) ∷ []
new_entry-last key row items none = insert_entry-absent same_row key row items (absent_from_lookup (same_row key) items none)

-- `find`, from what the map's look-up says
pub finds : (key : Row) (items es : HashItems) (r : Option (Bor Row)) → es ≡ items → option_copied r ≡ lookup (same_row key) es
    → found_item (item_data key items) items ≡ answer_of (is_some r) items (option_copied r) Stays
finds key items es r same says = ap (λ o. found_item o items) (item_data-lookup key items ∙ sym (says ∙ ap (λ l. lookup (same_row key) l) same)) ∙ by r
  where
    by : (o : Option (Bor Row)) → found_item (option_copied o) items ≡ answer_of (is_some o) items (option_copied o) Stays
    by None = refl
    by (Some x) = refl

-- `check`
pub checks : (key : Row) (items es : HashItems) (there : Bool) → es ≡ items → there ≡ is_some (lookup (same_row key) es)
    → checked_item (item_data key items) items ≡ answer_of there items None Stays
checks key items es there same says =
    by (item_data key items)
    ∙ ap (λ b. answer_of b items None Stays) (ap is_some (item_data-lookup key items) ∙ sym (says ∙ ap (λ l. is_some (lookup (same_row key) l)) same))
  where
    by : (o : Option Row) → checked_item o items ≡ answer_of (is_some o) items None Stays
    by None = refl
    by (Some x) = refl

-- `add`, where the key is present
pub adds_nothing : (key row : Row) (items es : HashItems) → es ≡ items → is_some (lookup (same_row key) es) ≡ true
    → added_item (item_data key items) key row items ≡ answer_of false items None Stays
adds_nothing key row items es same there = by (item_data key items) (ap is_some (item_data-lookup key items) ∙ ap (λ l. is_some (lookup (same_row key) l)) (sym same) ∙ there)
  where
    by : (o : Option Row) → is_some o ≡ true → added_item o key row items ≡ answer_of false items None Stays
    by None h = cc
    by (Some x) h = refl

-- `add`, where it is absent
pub adds_last : (key row : Row) (items es new : HashItems) → es ≡ items → is_some (lookup (same_row key) es) ≡ false → new ≡ insert_entry same_row es key row
    → added_item (item_data key items) key row items ≡ answer_of true new None Stays
adds_last key row items es new same absent put =
    let none : lookup (same_row key) items ≡ None = from_test (lookup (same_row key) items) (ap (λ l. is_some (lookup (same_row key) l)) (sym same) ∙ absent) in
    let last : new ≡ items ++ (key, row) ∷ [] = put ∙ ap (λ l. insert_entry same_row l key row) same ∙ new_entry-last key row items none in
    ap (λ o. added_item o key row items) (item_data-lookup key items ∙ none) ∙ ap (λ l. answer_of true l None Stays) (sym last)
  where
    from_test : (o : Option Row) → is_some o ≡ false → o ≡ None
    from_test None h = refl
    from_test (Some x) h = cc

-- `replace`
pub replaces : (key row : Row) (items es new : HashItems) → es ≡ items → new ≡ insert_entry same_row es key row
    → only_code done_code (with_replaced key row items) ≡ answer_of true new None Stays
replaces key row items es new same put =
    ap (λ l. answer_of true l None Stays) (with_replaced-insert key row items ∙ ap (λ l. insert_entry same_row l key row) (sym same) ∙ sym put)

-- `remove`, where the key is absent
pub removes_nothing : (key : Row) (items es new : HashItems) (r : Option ℕ) → es ≡ items → None ≡ position (same_row key) (keys_of es) → new ≡ es → r ≡ None
    → removed_item (item_position key items) key items ≡ answer_of (is_some r) new None (shift_of_removal r)
removes_nothing key items es new r same none rests missed =
    ap (λ o. removed_item o key items) (item_position-position key items ∙ ap (λ l. position (same_row key) (keys_of l)) (sym same) ∙ sym none)
    ∙ ap (λ l. answer_of false l None Stays) (sym (rests ∙ same))
    ∙ ap (λ o. answer_of (is_some o) new None (shift_of_removal o)) (sym missed)

-- `remove`, where it is present
pub removes_item : (key : Row) (items es new : HashItems) (i : ℕ) → es ≡ items → Some i ≡ position (same_row key) (keys_of es) → new ≡ remove_entry (same_row key) es
    → removed_item (item_position key items) key items ≡ answer_of true new None (Closes i)
removes_item key items es new i same at gone =
    ap (λ o. removed_item o key items) (item_position-position key items ∙ ap (λ l. position (same_row key) (keys_of l)) (sym same) ∙ sym at)
    ∙ ap (λ l. answer_of true l None (Closes i)) (without_item-remove key items ∙ ap (λ l. remove_entry (same_row key) l) (sym same) ∙ sym gone)

-- one more item of a list whose keys are distinct is put last
last_copied : (done rest all new : HashItems) (item : HashItem) → IsDistinct same_row (keys_of all) → done ++ item ∷ rest ≡ all → new ≡ insert_entry same_row done item.0 item.1
    → new ++ rest ≡ all
last_copied done rest all new item distinct whole put =
    let apart = subst (λ l. IsDistinct same_row (keys_of l)) (sym whole) distinct in
    let none : lookup (same_row item.0) done ≡ None = absent_before (lists_equiv value_equiv) done rest item apart in
    ap (λ l. l ++ rest) (put ∙ new_entry-last item.0 item.1 done none) ∙ append_assoc done (item ∷ []) rest ∙ whole

-- the same in a loop over the items es, of which `left` are left and the first of these is copied
pub copies_item : (done left rest all es new : HashItems) (key row k r : Row) → IsDistinct same_row (keys_of es) → es ≡ all → done ++ left ≡ all → left ≡ (key, row) ∷ rest
    → k ≡ key → r ≡ row → new ≡ insert_entry same_row done k r → new ++ rest ≡ all
copies_item done left rest all es new key row k r distinct same whole next k_is r_is put =
    last_copied done rest all new (key, row) (subst (λ l. IsDistinct same_row (keys_of l)) same distinct) (ap (λ l. done ++ l) (sym next) ∙ whole)
    (put ∙ (λ j. insert_entry same_row done (k_is j) (r_is j)))
