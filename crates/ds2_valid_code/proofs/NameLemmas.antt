-- Names that differ, from the first to the last.
use Rattle.std.proofs.Common.{◌≡◌, ℕ, suc, ◌+◌, ◌<◌, Bool, true, false, ◌&&◌, List, [], ◌∷◌, ◌++◌, length, get_or, take, drop, map, refl, sym, ap, ◌∙◌}
use Rattle.std.specs.Prelude.{◌||◌, not, bytes_eq}
use Rattle.std.specs.List.{list_any}
use Rattle.std.proofs.Math.Seq.{drop-cons}
use Rattle.std.proofs.lemmas.Cmp.{nat_list_eq_equiv}
use Rattle.std.proofs.lemmas.List.{take_more, map-append, take-append-drop}
use Rattle.ds2_value.specs.Schema.{has_column, distinct_names}
use Rattle.ds2_value.specs.declared.schema.Column.{Column}
use Rattle.ds2_code.specs.ValidCode.{is_other_name, names_differ}

-- a name is one of these
abbrev pub stands_among : List ℕ → List (List ℕ) → Bool
stands_among name names = list_any (λ other. bytes_eq other name) names

or_swap : (a b c : Bool) → (a || (b || c)) ≡ (b || (a || c))
or_swap true true c = refl
or_swap true false c = refl
or_swap false true c = refl
or_swap false false c = refl

and_false : (a b : Bool) → b ≡ false → (a && b) ≡ false
and_false true b e = e
and_false false b e = refl

false_and : (a b : Bool) → a ≡ false → (a && b) ≡ false
false_and a b e = ap (λ z. z && b) e

not_or : (a b : Bool) → not (a || b) ≡ (not a && not b)
not_or true b = refl
not_or false b = refl

pub not_new : (new seen : Bool) → new ≡ not seen → new ≡ false → seen ≡ true
not_new new true e f = refl
not_new new false e f = absurd (let k : true ≡ false = sym e ∙ f in cc)

pub is_new : (new seen : Bool) → new ≡ not seen → new ≡ true → seen ≡ false
is_new new true e f = absurd (let k : false ≡ true = sym e ∙ f in cc)
is_new new false e f = refl

-- a further name stands at the end
pub more_stand : (name : List ℕ) (names : List (List ℕ)) (x : List ℕ) → (bytes_eq x name || stands_among name names) ≡ stands_among name (names ++ x ∷ [])
more_stand name [] x = refl
more_stand name (n ∷ names) x =
    or_swap (bytes_eq x name) (bytes_eq n name) (stands_among name names) ∙ ap (λ b. bytes_eq n name || b) (more_stand name names x)

-- a name that stands before it is no other one
not_other : (n : List ℕ) (names : List (List ℕ)) (x : List ℕ) (rest : List (List ℕ)) → bytes_eq n x ≡ true → is_other_name n (names ++ x ∷ rest) ≡ false
not_other n [] x rest e = ap (λ b. not b && is_other_name n rest) e
not_other n (m ∷ names) x rest e = and_false (not (bytes_eq n m)) (is_other_name n (names ++ x ∷ rest)) (not_other n names x rest e)

-- a name that stood before: the names do not differ
pub repeated : (names : List (List ℕ)) (x : List ℕ) (rest : List (List ℕ)) → stands_among x names ≡ true → names_differ (names ++ x ∷ rest) ≡ false
repeated [] x rest h = absurd (let k : false ≡ true = h in cc)
repeated (n ∷ names) x rest h = first (bytes_eq n x) refl h (repeated names x rest)
  where
    first : (b : Bool) → bytes_eq n x ≡ b → (b || stands_among x names) ≡ true → (stands_among x names ≡ true → names_differ (names ++ x ∷ rest) ≡ false)
        → names_differ ((n ∷ names) ++ x ∷ rest) ≡ false
    first true e k go = false_and (is_other_name n (names ++ x ∷ rest)) (names_differ (names ++ x ∷ rest)) (not_other n names x rest e)
    first false e k go = and_false (is_other_name n (names ++ x ∷ rest)) (names_differ (names ++ x ∷ rest)) (go k)

both_true : (a b : Bool) → (a && b) ≡ true → (a ≡ true) × (b ≡ true)
both_true true b e = (refl, e)
both_true false b e = absurd (let k : false ≡ true = e in cc)

true_both : (a b : Bool) → a ≡ true → b ≡ true → (a && b) ≡ true
true_both a b e f = ap (λ z. z && b) e ∙ f

neither : (a b : Bool) → (a || b) ≡ false → (a ≡ false) × (b ≡ false)
neither true b e = absurd (let k : true ≡ false = e in cc)
neither false b e = (refl, e)

other_more : (n : List ℕ) (names : List (List ℕ)) (x : List ℕ) → is_other_name n names ≡ true → bytes_eq n x ≡ false → is_other_name n (names ++ x ∷ []) ≡ true
other_more n [] x h e = ap (λ b. not b && true) e
other_more n (m ∷ names) x h e =
    let k = both_true (not (bytes_eq n m)) (is_other_name n names) h in
    true_both (not (bytes_eq n m)) (is_other_name n (names ++ x ∷ [])) k.0 (other_more n names x k.1 e)

-- a name that did not stand before: the names differ on
pub more_differ : (names : List (List ℕ)) (x : List ℕ) → names_differ names ≡ true → stands_among x names ≡ false → names_differ (names ++ x ∷ []) ≡ true
more_differ [] x h e = refl
more_differ (n ∷ names) x h e =
    let k = both_true (is_other_name n names) (names_differ names) h in
    let m = neither (bytes_eq n x) (stands_among x names) e in
    true_both (is_other_name n (names ++ x ∷ [])) (names_differ (names ++ x ∷ [])) (other_more n names x k.0 m.0) (more_differ names x k.1 m.1)

module _ {X : Type 0} (f : X → List ℕ) (xs : List X) (i : ℕ) (x : X) (within : i < length xs) (here : x ≡ get_or xs i x) where
  -- the names of one more item
  pub one_more_name : map f (take (i + 1) xs) ≡ map f (take i xs) ++ f x ∷ []
  one_more_name = ap (map f) (take_more xs i x within) ∙ map-append f (take i xs) (get_or xs i x ∷ []) ∙ ap (λ z. map f (take i xs) ++ f z ∷ []) (sym here)

  -- the names before an item, its name, and those behind
  pub names_around : map f xs ≡ map f (take i xs) ++ f x ∷ map f (drop (suc i) xs)
  names_around =
      sym (ap (map f) (take-append-drop i xs)) ∙ map-append f (take i xs) (drop i xs)
      ∙ ap (λ z. map f (take i xs) ++ map f z) (drop-cons xs i x within) ∙ ap (λ z. map f (take i xs) ++ f z ∷ map f (drop (suc i) xs)) (sym here)

other_is : (n : List ℕ) (cs : List Column) → is_other_name n (map (λ (c : Column). c.name) cs) ≡ not (has_column n cs)
other_is n [] = refl
other_is n (c ∷ cs) =
    ap (λ b. not b && is_other_name n (map (λ (c : Column). c.name) cs)) (nat_list_eq_equiv.symm n c.name)
    ∙ ap (λ b. not (bytes_eq c.name n) && b) (other_is n cs)
    ∙ sym (not_or (bytes_eq c.name n) (has_column n cs))

-- the columns of a table have different names where their names differ
pub same_columns : (cs : List Column) → names_differ (map (λ (c : Column). c.name) cs) ≡ distinct_names cs
same_columns [] = refl
same_columns (c ∷ cs) =
    ap (λ b. b && names_differ (map (λ (c : Column). c.name) cs)) (other_is c.name cs) ∙ ap (λ b. not (has_column c.name cs) && b) (same_columns cs)
