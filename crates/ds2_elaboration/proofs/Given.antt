-- Of broken rules the first one is given.
use Rattle.std.proofs.Common.{◌≡◌, ◌⊎◌, inl, inr, ℕ, ◌<◌, ◌≤◌, ◌==◌, nat_lt, nat_le, Bool, true, false, ◌&&◌, ◌||◌, List, [], ◌∷◌, if◌then◌else◌, Option, Some, None, refl, sym, ap, ◌∙◌, subst, true≢false, arith}
use Rattle.std.specs.List.{AllByRecursion}
use Rattle.std.proofs.lemmas.Bool.{cases_Bool, cases_order, cases_lt, or_cases, and_parts, or_left, or_right, and_from, ltb-true, leb-true, eqb-true, lt-ltb, le-leb, eq-eqb}
use Rattle.ds2_base.specs.declared.place.Refusal.{Refusal}
use Rattle.ds2_names.specs.Refusals.{scope_rank, type_rank, comes_before, first_of_both, least_refusal}
use Rattle.ds2_elaboration.specs.ElaborationLaws.{StandsAmong, FirstRefusals}

-- ---- the order of places and kinds

-- a line, a column and a rank come before others, or are the same
abbrev stands_before : ℕ → ℕ → ℕ → ℕ → ℕ → ℕ → Bool
stands_before l c k m d j = (nat_lt l m || ((l == m) && nat_lt c d)) || (((l == m) && (c == d)) && nat_le k j)

-- the ways in which they do
data StandsBefore (l c k m d j : ℕ) : Type 0 where
  on_earlier_line : l < m → StandsBefore l c k m d j
  in_earlier_column : l ≡ m → c < d → StandsBefore l c k m d j
  of_earlier_kind : l ≡ m → c ≡ d → k ≤ j → StandsBefore l c k m d j

seen : (l c k m d j : ℕ) → stands_before l c k m d j ≡ true → StandsBefore l c k m d j
seen l c k m d j h = elim (or_cases (nat_lt l m || ((l == m) && nat_lt c d)) (((l == m) && (c == d)) && nat_le k j) h) [
  | inl a ↦ elim (or_cases (nat_lt l m) ((l == m) && nat_lt c d) a) [
    | inl b ↦ on_earlier_line (ltb-true l m b)
    | inr b ↦ let p = and_parts (l == m) (nat_lt c d) b in in_earlier_column (eqb-true l m p.0) (ltb-true c d p.1)
  ]
  | inr a ↦ let p = and_parts ((l == m) && (c == d)) (nat_le k j) a in
      let q = and_parts (l == m) (c == d) p.0 in of_earlier_kind (eqb-true l m q.0) (eqb-true c d q.1) (leb-true k j p.1)
]

shown : (l c k m d j : ℕ) → StandsBefore l c k m d j → stands_before l c k m d j ≡ true
shown l c k m d j (on_earlier_line h) =
    or_left (nat_lt l m || ((l == m) && nat_lt c d)) (((l == m) && (c == d)) && nat_le k j) (or_left (nat_lt l m) ((l == m) && nat_lt c d) (lt-ltb l m h))
shown l c k m d j (in_earlier_column e h) =
    or_left (nat_lt l m || ((l == m) && nat_lt c d)) (((l == m) && (c == d)) && nat_le k j)
    (or_right (nat_lt l m) ((l == m) && nat_lt c d) (and_from (l == m) (nat_lt c d) (eq-eqb l m e) (lt-ltb c d h)))
shown l c k m d j (of_earlier_kind e f h) =
    or_right (nat_lt l m || ((l == m) && nat_lt c d)) (((l == m) && (c == d)) && nat_le k j)
    (and_from ((l == m) && (c == d)) (nat_le k j) (and_from (l == m) (c == d) (eq-eqb l m e) (eq-eqb c d f)) (le-leb k j h))

onward : {l c k m d j n e i : ℕ} → StandsBefore l c k m d j → StandsBefore m d j n e i → StandsBefore l c k n e i
onward (on_earlier_line a) (on_earlier_line b) = on_earlier_line (omega (arith, a, b))
onward (on_earlier_line a) (in_earlier_column p b) = on_earlier_line (omega (arith, a, p))
onward (on_earlier_line a) (of_earlier_kind p q b) = on_earlier_line (omega (arith, a, p))
onward (in_earlier_column p a) (on_earlier_line b) = on_earlier_line (omega (arith, p, b))
onward (in_earlier_column p a) (in_earlier_column q b) = in_earlier_column (p ∙ q) (omega (arith, a, b))
onward (in_earlier_column p a) (of_earlier_kind q r b) = in_earlier_column (p ∙ q) (omega (arith, a, r))
onward (of_earlier_kind p q a) (on_earlier_line b) = on_earlier_line (omega (arith, p, b))
onward (of_earlier_kind p q a) (in_earlier_column r b) = in_earlier_column (p ∙ r) (omega (arith, q, b))
onward (of_earlier_kind p q a) (of_earlier_kind r s b) = of_earlier_kind (p ∙ r) (q ∙ s) (omega (arith, a, b))

one_way : (l c k m d j : ℕ) → StandsBefore l c k m d j ⊎ StandsBefore m d j l c k
one_way l c k m d j = elim (cases_order l m) [
  | inl e ↦ elim (cases_order c d) [
    | inl f ↦ elim (cases_lt k j) [
      | inl a ↦ inl (of_earlier_kind e f (omega (arith, a)))
      | inr a ↦ inr (of_earlier_kind (sym e) (sym f) a)
    ]
    | inr f ↦ elim f [
      | inl a ↦ inl (in_earlier_column e a)
      | inr a ↦ inr (in_earlier_column (sym e) a)
    ]
  ]
  | inr e ↦ elim e [
    | inl a ↦ inl (on_earlier_line a)
    | inr a ↦ inr (on_earlier_line a)
  ]
]

module _ {K : Type 0} (rank : K → ℕ) where
  itself : (a : Refusal K) → comes_before rank a a ≡ true
  itself a = shown a.place.line a.place.column (rank a.kind) a.place.line a.place.column (rank a.kind) (of_earlier_kind refl refl (omega arith))

  behind_both : (a b c : Refusal K) → comes_before rank a b ≡ true → comes_before rank b c ≡ true → comes_before rank a c ≡ true
  behind_both a b c g h =
      shown a.place.line a.place.column (rank a.kind) c.place.line c.place.column (rank c.kind)
      (onward (seen a.place.line a.place.column (rank a.kind) b.place.line b.place.column (rank b.kind) g)
      (seen b.place.line b.place.column (rank b.kind) c.place.line c.place.column (rank c.kind) h))

  other_way : (a b : Refusal K) → comes_before rank a b ≡ false → comes_before rank b a ≡ true
  other_way a b h = elim (one_way a.place.line a.place.column (rank a.kind) b.place.line b.place.column (rank b.kind)) [
    | inl o ↦ absurd (true≢false (sym (shown a.place.line a.place.column (rank a.kind) b.place.line b.place.column (rank b.kind) o) ∙ h))
    | inr o ↦ shown b.place.line b.place.column (rank b.kind) a.place.line a.place.column (rank a.kind) o
  ]

  -- ---- the least of several

  pub none_due : (refusals : List (Refusal K)) → least_refusal rank refusals ≡ None → refusals ≡ []
  none_due [] h = refl
  none_due (r ∷ refusals) h = cc

  all_behind : (a b : Refusal K) (refusals : List (Refusal K)) → comes_before rank a b ≡ true
      → AllByRecursion (λ due. comes_before rank b due ≡ true) refusals → AllByRecursion (λ due. comes_before rank a due ≡ true) refusals
  all_behind a b [] h all = tt
  all_behind a b (r ∷ refusals) h all = (behind_both a b r h all.0, all_behind a b refusals h all.1)

  -- what is said of the one that is given
  abbrev IsFirst : List (Refusal K) → Refusal K → Type 0
  IsFirst refusals given = StandsAmong refusals given × AllByRecursion (λ due. comes_before rank given due ≡ true) refusals

  -- a refusal before others, of which this one is the first
  first_of_two : (a : Refusal K) (refusals : List (Refusal K)) (b : Refusal K) → IsFirst refusals b
      → IsFirst (a ∷ refusals) (first_of_both rank a (Some b))
  first_of_two a refusals b h = elim (cases_Bool (comes_before rank a b)) [
    | inl e ↦ subst (IsFirst (a ∷ refusals)) (sym (ap (λ t. if t then a else b) e)) ((inl refl, (itself a, all_behind a b refusals e h.1)))
    | inr e ↦ subst (IsFirst (a ∷ refusals)) (sym (ap (λ t. if t then a else b) e)) ((inr h.0, (other_way a b e, h.1)))
  ]

  unwrapped : (a b : Refusal K) → Some a ≡ Some b → a ≡ b
  unwrapped a b h = cc

  from_rest : (a : Refusal K) (refusals : List (Refusal K)) (given : Refusal K) → ((b : Refusal K) → least_refusal rank refusals ≡ Some b → IsFirst refusals b)
      → (rest : Option (Refusal K)) → least_refusal rank refusals ≡ rest → Some (first_of_both rank a rest) ≡ Some given → IsFirst (a ∷ refusals) given
  from_rest a refusals given further None e h =
      let empty = none_due refusals e in
      subst (IsFirst (a ∷ refusals)) (unwrapped a given h)
      ((inl refl, (itself a, subst (AllByRecursion (λ due. comes_before rank a due ≡ true)) (sym empty) tt)))
  from_rest a refusals given further (Some b) e h =
      subst (IsFirst (a ∷ refusals)) (unwrapped (first_of_both rank a (Some b)) given h) (first_of_two a refusals b (further b e))

  pub given_first : (refusals : List (Refusal K)) (given : Refusal K) → least_refusal rank refusals ≡ Some given → IsFirst refusals given
  given_first [] given h = cc
  given_first (a ∷ refusals) given h = from_rest a refusals given (given_first refusals) (least_refusal rank refusals) refl h

pub first_refusals : FirstRefusals
first_refusals = record { names = given_first scope_rank; types = given_first type_rank }
