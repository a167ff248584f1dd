-- Which of several places is the earliest.
use Rattle.std.proofs.Common.{◌≡◌, ◌≢◌, ◌<◌, ◌≤◌, ◌⊎◌, inl, inr, ℕ, Bool, true, false, ◌||◌, ◌&&◌, ◌==◌, nat_lt, List, [], ◌∷◌, ◌++◌, Option, Some, None, refl, sym, ap, ◌∙◌, true≢false, arith}
use Rattle.std.specs.Prelude.{if◌then◌else◌}
use Rattle.std.proofs.lemmas.Bool.{ltb-true, ltb-false, eqb-true}
use Rattle.std.proofs.lemmas.Bool.Decides.{eqb_tells}
use Rattle.ds2_base.specs.declared.place.Place.{Place}
use Rattle.ds2_names.specs.SourceUnit.{is_earlier}
use Rattle.ds2_scope.specs.Earliest.{earlier_of, earliest}
use Rattle.ds2_scope.specs.NamedPlaces.{stands_behind}

-- ---- tests

pub both_true : (b c : Bool) → b && c ≡ true → (b ≡ true) × (c ≡ true)
both_true true c h = (refl, h)
both_true false c h = absurd (true≢false (sym h))

pub neither : (b c : Bool) → b || c ≡ false → (b ≡ false) × (c ≡ false)
neither true c h = absurd (true≢false h)
neither false c h = (refl, h)

pub must : (t : Bool) → (t ≡ false → ⊥) → t ≡ true
must true h = refl
must false h = absurd (h refl)

pub must_not : (t : Bool) → (t ≡ true → ⊥) → t ≡ false
must_not true h = absurd (h refl)
must_not false h = refl

-- ---- earlier places

-- a stands before b
abbrev pub IsBefore : Place → Place → Type 0
IsBefore a b = (a.line < b.line) ⊎ ((a.line ≡ b.line) × (a.column < b.column))

-- a stands at b or behind it
abbrev pub IsNotBefore : Place → Place → Type 0
IsNotBefore a b = (b.line < a.line) ⊎ ((a.line ≡ b.line) × (b.column ≤ a.column))

pub before : (a b : Place) → is_earlier a b ≡ true → IsBefore a b
before a b h = by (nat_lt a.line b.line) refl h
  where
    by : (t : Bool) → nat_lt a.line b.line ≡ t → (t || (a.line == b.line && nat_lt a.column b.column)) ≡ true → IsBefore a b
    by true e k = inl (ltb-true a.line b.line e)
    by false e k =
        let parts = both_true (a.line == b.line) (nat_lt a.column b.column) k in inr (eqb-true a.line b.line parts.0, ltb-true a.column b.column parts.1)

pub not_before : (a b : Place) → is_earlier a b ≡ false → IsNotBefore a b
not_before a b h = by (eqb_tells a.line b.line)
  where
    parts : (nat_lt a.line b.line ≡ false) × ((a.line == b.line && nat_lt a.column b.column) ≡ false)
    parts = neither (nat_lt a.line b.line) (a.line == b.line && nat_lt a.column b.column) h

    by : ((a.line == b.line ≡ true) × (a.line ≡ b.line)) ⊎ ((a.line == b.line ≡ false) × (a.line ≢ b.line)) → IsNotBefore a b
    by (inl same) = inr (same.1, ltb-false a.column b.column (ap (λ t. t && nat_lt a.column b.column) (sym same.0) ∙ parts.1))
    by (inr differs) = let at_least = ltb-false a.line b.line parts.0 in inl (omega (arith, at_least, differs.1))

earlier_trans : (a b c : Place) → is_earlier a b ≡ true → is_earlier b c ≡ true → is_earlier a c ≡ true
earlier_trans a b c h k =
    must (is_earlier a c) (λ n. let x = before a b h in let y = before b c k in let z = not_before a c n in omega (arith, x, y, z))

later_trans : (a b c : Place) → is_earlier a b ≡ false → is_earlier b c ≡ false → is_earlier a c ≡ false
later_trans a b c h k =
    must_not (is_earlier a c) (λ n. let x = not_before a b h in let y = not_before b c k in let z = before a c n in omega (arith, x, y, z))

-- what does not stand before a, and before p, has a before p
pub before_too : (a b p : Place) → is_earlier b a ≡ false → is_earlier b p ≡ true → is_earlier a p ≡ true
before_too a b p h k =
    must (is_earlier a p) (λ n. let x = not_before b a h in let y = before b p k in let z = not_before a p n in omega (arith, x, y, z))

-- ---- the earlier of two

pub none_right : (x : Option Place) → earlier_of x None ≡ x
none_right None = refl
none_right (Some a) = refl

pub earlier_of_assoc : (x y z : Option Place) → earlier_of (earlier_of x y) z ≡ earlier_of x (earlier_of y z)
earlier_of_assoc None y z = refl
earlier_of_assoc (Some a) None z = refl
earlier_of_assoc (Some a) (Some b) None = none_right (earlier_of (Some a) (Some b))
earlier_of_assoc (Some a) (Some b) (Some c) = by (is_earlier b a) (is_earlier c b) refl refl
  where
    by : (s t : Bool) → is_earlier b a ≡ s → is_earlier c b ≡ t → earlier_of (if s then Some b else Some a) (Some c) ≡ earlier_of (Some a) (if t then Some c else Some b)
    by true true h k = ap (λ t. if t then Some c else Some b) k ∙ sym (ap (λ t. if t then Some c else Some a) (earlier_trans c b a k h))
    by true false h k = ap (λ t. if t then Some c else Some b) k ∙ sym (ap (λ t. if t then Some b else Some a) h)
    by false true h k = refl
    by false false h k = ap (λ t. if t then Some c else Some a) (later_trans c b a k h) ∙ sym (ap (λ t. if t then Some b else Some a) h)

pub earliest_append : (xs ys : List Place) → earliest (xs ++ ys) ≡ earlier_of (earliest xs) (earliest ys)
earliest_append [] ys = refl
earliest_append (x ∷ xs) ys = ap (earlier_of (Some x)) (earliest_append xs ys) ∙ sym (earlier_of_assoc (Some x) (earliest xs) (earliest ys))

-- a place stands behind the earlier of two where it stands behind one of them
pub behind_either : (x y : Option Place) (p : Place) → stands_behind (earlier_of x y) p ≡ (stands_behind x p || stands_behind y p)
behind_either None y p = refl
behind_either (Some a) None p = by (is_earlier a p)
  where
    by : (t : Bool) → t ≡ (t || false)
    by true = refl
    by false = refl
behind_either (Some a) (Some b) p = by (is_earlier b a) refl
  where
    first : is_earlier b a ≡ true → (t : Bool) → is_earlier a p ≡ t → is_earlier b p ≡ (t || is_earlier b p)
    first h true k = earlier_trans b a p h k
    first h false k = refl

    second : is_earlier b a ≡ false → (t : Bool) → is_earlier a p ≡ t → t ≡ (t || is_earlier b p)
    second h true k = refl
    second h false k = sym (must_not (is_earlier b p) (λ n. true≢false (sym (before_too a b p h n) ∙ k)))

    by : (s : Bool) → is_earlier b a ≡ s → stands_behind (if s then Some b else Some a) p ≡ (is_earlier a p || is_earlier b p)
    by true h = first h (is_earlier a p) refl
    by false h = second h (is_earlier a p) refl

-- ---- the earlier of two, in either order

pub same_place : (a b : Place) → a.line ≡ b.line → a.column ≡ b.column → a ≡ b
same_place a b h k = λ i. record { line = h i; column = k i }

pub earlier_of_comm : (x y : Option Place) → earlier_of x y ≡ earlier_of y x
earlier_of_comm None y = sym (none_right y)
earlier_of_comm (Some a) None = refl
earlier_of_comm (Some a) (Some b) = by (is_earlier b a) (is_earlier a b) refl refl
  where
    by : (s t : Bool) → is_earlier b a ≡ s → is_earlier a b ≡ t → (if s then Some b else Some a) ≡ (if t then Some a else Some b)
    by true false h k = refl
    by false true h k = refl
    by true true h k = let x = before b a h in let y = before a b k in absurd (omega (arith, x, y))
    by false false h k =
        let x = not_before b a h in
        let y = not_before a b k in
        let line : a.line ≡ b.line = omega (arith, x, y) in
        let column : a.column ≡ b.column = omega (arith, x, y) in ap (λ p. Some p) (same_place a b line column)

-- the last two of three may change places
pub swap_last : (a b c : Option Place) → earlier_of (earlier_of a b) c ≡ earlier_of (earlier_of a c) b
swap_last a b c = earlier_of_assoc a b c ∙ ap (earlier_of a) (earlier_of_comm b c) ∙ sym (earlier_of_assoc a c b)

-- and so may the middle ones of four
pub interchange : (a b c d : Option Place) → earlier_of (earlier_of a b) (earlier_of c d) ≡ earlier_of (earlier_of a c) (earlier_of b d)
interchange a b c d =
    sym (earlier_of_assoc (earlier_of a b) c d) ∙ ap (λ x. earlier_of x d) (swap_last a b c) ∙ earlier_of_assoc (earlier_of a c) b d
