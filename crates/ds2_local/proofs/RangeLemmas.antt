-- Numbers in order.
use Rattle.std.proofs.Common.{◌≡◌, ◌<◌, ◌≤◌, ℕ, zero, suc, ◌+◌, Bool, true, false, List, [], ◌∷◌, ◌++◌, length, map, drop, get_or, cond, refl, sym, ap, ◌∙◌, append_assoc, append-nil, drop-cons, add-one, arith}
use Rattle.std.specs.List.{filter, range_with_len}
use Rattle.std.specs.Prelude.{if◌then◌else◌}
use Rattle.std.proofs.lemmas.List.{drop_all}

range_next : (from n : ℕ) → range_with_len from (suc n) ≡ range_with_len from n ++ (from + n) ∷ []
range_next from zero = let e : from ≡ from + zero = omega arith in ap (λ k. k ∷ []) e
range_next from (suc n) =
    let e : from + 1 + n ≡ from + suc n = omega arith in ap (λ l. from ∷ l) (range_next (from + 1) n) ∙ ap (λ k. from ∷ (range_with_len (from + 1) n ++ k ∷ [])) e

-- one number more
pub range_more : (n : ℕ) → range_with_len 0 (n + 1) ≡ range_with_len 0 n ++ n ∷ []
range_more n = let e : 0 + n ≡ n = omega arith in ap (λ k. range_with_len 0 k) (add-one n) ∙ range_next 0 n ∙ ap (λ k. range_with_len 0 n ++ k ∷ []) e

picked_more : {A : Type 0} (test : A → Bool) (xs : List A) (x : A) → filter test (xs ++ x ∷ []) ≡ filter test xs ++ cond (test x) (x ∷ []) []
picked_more test [] x = refl
picked_more test (y ∷ xs) x = by_first (test y) (picked_more test xs x)
  where
    by_first : (b : Bool) → filter test (xs ++ x ∷ []) ≡ filter test xs ++ cond (test x) (x ∷ []) []
        → cond b (y ∷ filter test (xs ++ x ∷ [])) (filter test (xs ++ x ∷ [])) ≡ cond b (y ∷ filter test xs) (filter test xs) ++ cond (test x) (x ∷ []) []
    by_first true e = ap (λ l. y ∷ l) e
    by_first false e = e

-- one number more, where it passes
pub number_next : (test : ℕ → Bool) (numbers next : List ℕ) (n : ℕ) (b : Bool) → test n ≡ b → next ≡ (if b then numbers ++ n ∷ [] else numbers) → numbers ≡ filter test (range_with_len 0 n)
    → next ≡ filter test (range_with_len 0 (n + 1))
number_next test numbers next n true is e before =
    e ∙ ap (λ l. l ++ n ∷ []) before ∙ ap (λ b. filter test (range_with_len 0 n) ++ cond b (n ∷ []) []) (sym is) ∙ sym (ap (λ l. filter test l) (range_more n) ∙ picked_more test (range_with_len 0 n) n)
number_next test numbers next n false is e before =
    e ∙ before ∙ sym (append-nil (filter test (range_with_len 0 n))) ∙ ap (λ b. filter test (range_with_len 0 n) ++ cond b (n ∷ []) []) (sym is)
    ∙ sym (ap (λ l. filter test l) (range_more n) ∙ picked_more test (range_with_len 0 n) n)

mapped_both : {A B : Type 0} (f : A → B) (xs : List A) (x : A) → map f (xs ++ x ∷ []) ≡ map f xs ++ f x ∷ []
mapped_both f [] x = refl
mapped_both f (y ∷ xs) x = ap (λ l. f y ∷ l) (mapped_both f xs x)

-- the value of one number more
pub mapped_number : {B : Type 0} (f : ℕ → B) (values next : List B) (n : ℕ) (value : B) → value ≡ f n → next ≡ values ++ value ∷ [] → values ≡ map f (range_with_len 0 n) → next ≡ map f (range_with_len 0 (n + 1))
mapped_number f values next n value is e before =
    e ∙ ap (λ l. l ++ value ∷ []) before ∙ ap (λ v. map f (range_with_len 0 n) ++ v ∷ []) is ∙ sym (ap (λ l. map f l) (range_more n) ∙ mapped_both f (range_with_len 0 n) n)

pub drop_next : {A : Type 0} (xs : List A) (i : ℕ) (x : A) → i < length xs → x ≡ get_or xs i x → drop i xs ≡ x ∷ drop (i + 1) xs
drop_next xs i x lt here = drop-cons xs i x lt ∙ ap (λ y. y ∷ drop (suc i) xs) (sym here) ∙ ap (λ j. x ∷ drop j xs) (sym (add-one i))

-- the value of one item more, in front of those that are left
pub mapped_item : {A B : Type 0} (f : A → B) (xs : List A) (i : ℕ) (x : A) (values next whole : List B) (value : B) → i < length xs → x ≡ get_or xs i x → value ≡ f x → next ≡ values ++ value ∷ []
    → values ++ map f (drop i xs) ≡ whole → next ++ map f (drop (i + 1) xs) ≡ whole
mapped_item f xs i x values next whole value lt here is e before =
    ap (λ l. l ++ map f (drop (i + 1) xs)) (e ∙ ap (λ v. values ++ v ∷ []) is) ∙ append_assoc values (f x ∷ []) (map f (drop (i + 1) xs))
    ∙ ap (λ l. values ++ map f l) (sym (drop_next xs i x lt here)) ∙ before

-- no item is left
pub mapped_whole : {A B : Type 0} (f : A → B) (xs : List A) (i : ℕ) (values whole : List B) → length xs ≤ i → values ++ map f (drop i xs) ≡ whole → values ≡ whole
mapped_whole f xs i values whole le before = sym (append-nil values) ∙ ap (λ l. values ++ map f l) (sym (drop_all i xs le)) ∙ before

-- the items that are left begin with the next one
pub drop_at : {A : Type 0} (xs : List A) (i : ℕ) (x : A) → i < length xs → drop i xs ≡ get_or xs i x ∷ drop (i + 1) xs
drop_at xs i x lt = drop-cons xs i x lt ∙ ap (λ j. get_or xs i x ∷ drop j xs) (sym (add-one i))

-- the values of what items are
pub mapped_twice : {A B C : Type 0} (f : B → C) (g : A → B) (xs : List A) → map (λ x. f (g x)) xs ≡ map f (map g xs)
mapped_twice f g [] = refl
mapped_twice f g (x ∷ xs) = ap (λ l. f (g x) ∷ l) (mapped_twice f g xs)
