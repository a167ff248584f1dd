-- The broken rule that is given of joined lists is the lesser of those that are given of each.
use Rattle.std.proofs.Common.{◌≡◌, ℕ, ◌<◌, ◌≤◌, ◌==◌, Bool, true, false, ◌&&◌, ◌||◌, ◌⊎◌, inl, inr, [], ◌∷◌, ◌++◌, Option, Some, None, if◌then◌else◌, nat_lt, nat_le, refl, sym, ap, ◌∙◌, arith, true≢false}
use Rattle.std.proofs.lemmas.Bool.{cases_Bool, cases_order, cases_lt, or_cases, and_parts, or_left, or_right, and_from, ltb-true, leb-true, eqb-true, lt-ltb, le-leb, eq-eqb}
use Rattle.ds2_base.specs.declared.place.Refusal.{Refusal}
use Rattle.ds2_meaning.specs.declared.refusals.TypeKind.{TypeKind}
use Rattle.ds2_names.specs.Refusals.{type_rank, comes_before, first_of_both}
use Rattle.ds2_elaboration.specs.Typings.{TypeRefusals}
use Rattle.ds2_types.specs.Judgements.{first_type_refusal, lesser_refusal}

-- ---- the first of two by a test

module _ {R : Type 0} (before : R → R → Bool) where
  -- the first of two
  abbrev first : R → R → R
  first a b = if before a b then a else b

  first_so : (a b : R) → before a b ≡ true → first a b ≡ a
  first_so a b h = ap (λ t. if t then a else b) h

  first_not : (a b : R) → before a b ≡ false → first a b ≡ b
  first_not a b h = ap (λ t. if t then a else b) h

  -- of three, it does not matter which two are looked at first
  pub first_assoc : ((a b c : R) → before a b ≡ true → before b c ≡ true → before a c ≡ true) → ((a b : R) → before a b ≡ false → before b a ≡ true)
      → (a b c : R) → first a (first b c) ≡ first (first a b) c
  first_assoc onward other a b c = elim (cases_Bool (before a b)) [
    | inl ab ↦ elim (cases_Bool (before b c)) [
      | inl bc ↦ ap (λ x. first a x) (first_so b c bc) ∙ first_so a b ab ∙ sym (ap (λ x. first x c) (first_so a b ab) ∙ first_so a c (onward a b c ab bc))
      | inr bc ↦ ap (λ x. first a x) (first_not b c bc) ∙ sym (ap (λ x. first x c) (first_so a b ab))
    ]
    | inr ab ↦ elim (cases_Bool (before b c)) [
      | inl bc ↦ ap (λ x. first a x) (first_so b c bc) ∙ first_not a b ab ∙ sym (ap (λ x. first x c) (first_not a b ab) ∙ first_so b c bc)
      | inr bc ↦ elim (cases_Bool (before a c)) [
        | inl ac ↦ absurd (true≢false (sym (onward b a c (other a b ab) ac) ∙ bc))
        | inr ac ↦ ap (λ x. first a x) (first_not b c bc) ∙ first_not a c ac ∙ sym (ap (λ x. first x c) (first_not a b ab) ∙ first_not b c bc)
      ]
    ]
  ]

-- ---- the order of places and kinds

-- a line, a column and a rank come before others, or are the same
abbrev stands_before : ℕ → ℕ → ℕ → ℕ → ℕ → ℕ → Bool
stands_before l c k m d j = (nat_lt l m || ((l == m) && nat_lt c d)) || (((l == m) && (c == d)) && nat_le k j)

-- the ways in which they do
data StandsBefore (l c k m d j : ℕ) : Type 0 where
  on_earlier_line : l < m → StandsBefore l c k m d j
  in_earlier_column : l ≡ m → c < d → StandsBefore l c k m d j
  of_earlier_kind : l ≡ m → c ≡ d → k ≤ j → StandsBefore l c k m d j

seen : (l c k m d j : ℕ) → stands_before l c k m d j ≡ true → StandsBefore l c k m d j
seen l c k m d j h = elim (or_cases (nat_lt l m || ((l == m) && nat_lt c d)) (((l == m) && (c == d)) && nat_le k j) h) [
  | inl a ↦ elim (or_cases (nat_lt l m) ((l == m) && nat_lt c d) a) [
    | inl b ↦ on_earlier_line (ltb-true l m b)
    | inr b ↦ let p = and_parts (l == m) (nat_lt c d) b in in_earlier_column (eqb-true l m p.0) (ltb-true c d p.1)
  ]
  | inr a ↦ let p = and_parts ((l == m) && (c == d)) (nat_le k j) a in
      let q = and_parts (l == m) (c == d) p.0 in of_earlier_kind (eqb-true l m q.0) (eqb-true c d q.1) (leb-true k j p.1)
]

shown : (l c k m d j : ℕ) → StandsBefore l c k m d j → stands_before l c k m d j ≡ true
shown l c k m d j (on_earlier_line h) =
    or_left (nat_lt l m || ((l == m) && nat_lt c d)) (((l == m) && (c == d)) && nat_le k j) (or_left (nat_lt l m) ((l == m) && nat_lt c d) (lt-ltb l m h))
shown l c k m d j (in_earlier_column e h) =
    or_left (nat_lt l m || ((l == m) && nat_lt c d)) (((l == m) && (c == d)) && nat_le k j)
    (or_right (nat_lt l m) ((l == m) && nat_lt c d) (and_from (l == m) (nat_lt c d) (eq-eqb l m e) (lt-ltb c d h)))
shown l c k m d j (of_earlier_kind e f h) =
    or_right (nat_lt l m || ((l == m) && nat_lt c d)) (((l == m) && (c == d)) && nat_le k j)
    (and_from ((l == m) && (c == d)) (nat_le k j) (and_from (l == m) (c == d) (eq-eqb l m e) (eq-eqb c d f)) (le-leb k j h))

onward : {l c k m d j n e i : ℕ} → StandsBefore l c k m d j → StandsBefore m d j n e i → StandsBefore l c k n e i
onward (on_earlier_line a) (on_earlier_line b) = on_earlier_line (omega (arith, a, b))
onward (on_earlier_line a) (in_earlier_column p b) = on_earlier_line (omega (arith, a, p))
onward (on_earlier_line a) (of_earlier_kind p q b) = on_earlier_line (omega (arith, a, p))
onward (in_earlier_column p a) (on_earlier_line b) = on_earlier_line (omega (arith, p, b))
onward (in_earlier_column p a) (in_earlier_column q b) = in_earlier_column (p ∙ q) (omega (arith, a, b))
onward (in_earlier_column p a) (of_earlier_kind q r b) = in_earlier_column (p ∙ q) (omega (arith, a, r))
onward (of_earlier_kind p q a) (on_earlier_line b) = on_earlier_line (omega (arith, p, b))
onward (of_earlier_kind p q a) (in_earlier_column r b) = in_earlier_column (p ∙ r) (omega (arith, q, b))
onward (of_earlier_kind p q a) (of_earlier_kind r s b) = of_earlier_kind (p ∙ r) (q ∙ s) (omega (arith, a, b))

one_way : (l c k m d j : ℕ) → StandsBefore l c k m d j ⊎ StandsBefore m d j l c k
one_way l c k m d j = elim (cases_order l m) [
  | inl e ↦ elim (cases_order c d) [
    | inl f ↦ elim (cases_lt k j) [
      | inl a ↦ inl (of_earlier_kind e f (omega (arith, a)))
      | inr a ↦ inr (of_earlier_kind (sym e) (sym f) a)
    ]
    | inr f ↦ elim f [
      | inl a ↦ inl (in_earlier_column e a)
      | inr a ↦ inr (in_earlier_column (sym e) a)
    ]
  ]
  | inr e ↦ elim e [
    | inl a ↦ inl (on_earlier_line a)
    | inr a ↦ inr (on_earlier_line a)
  ]
]

behind_both : (a b c : Refusal TypeKind) → comes_before type_rank a b ≡ true → comes_before type_rank b c ≡ true → comes_before type_rank a c ≡ true
behind_both a b c g h =
    shown a.place.line a.place.column (type_rank a.kind) c.place.line c.place.column (type_rank c.kind)
    (onward (seen a.place.line a.place.column (type_rank a.kind) b.place.line b.place.column (type_rank b.kind) g)
    (seen b.place.line b.place.column (type_rank b.kind) c.place.line c.place.column (type_rank c.kind) h))

other_way : (a b : Refusal TypeKind) → comes_before type_rank a b ≡ false → comes_before type_rank b a ≡ true
other_way a b h = elim (one_way a.place.line a.place.column (type_rank a.kind) b.place.line b.place.column (type_rank b.kind)) [
  | inl o ↦ absurd (true≢false (sym (shown a.place.line a.place.column (type_rank a.kind) b.place.line b.place.column (type_rank b.kind) o) ∙ h))
  | inr o ↦ shown b.place.line b.place.column (type_rank b.kind) a.place.line a.place.column (type_rank a.kind) o
]

-- ---- the one that is given of joined lists

beside : (r : Refusal TypeKind) (a b : Option (Refusal TypeKind)) → first_of_both type_rank r (lesser_refusal a b) ≡ first_of_both type_rank (first_of_both type_rank r a) b
beside r None b = refl
beside r (Some a) None = refl
beside r (Some a) (Some b) = first_assoc (comes_before type_rank) behind_both other_way r a b

-- the broken rule that is given of joined lists is the lesser of those that are given of each
pub least_append : (xs ys : TypeRefusals) → first_type_refusal (xs ++ ys) ≡ lesser_refusal (first_type_refusal xs) (first_type_refusal ys)
least_append [] ys = refl
least_append (r ∷ xs) ys =
    ap (λ (o : Option (Refusal TypeKind)). Some (first_of_both type_rank r o)) (least_append xs ys)
    ∙ ap (λ (q : Refusal TypeKind). Some q) (beside r (first_type_refusal xs) (first_type_refusal ys))

-- where none is given, none is broken
pub none_given : (refusals : TypeRefusals) → first_type_refusal refusals ≡ None → refusals ≡ []
none_given [] h = refl
none_given (r ∷ refusals) h = cc
