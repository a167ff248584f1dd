-- Marks of nulls.
use Rattle.std.proofs.Common.{◌≡◌, ℕ, zero, suc, ◌<◌, ◌≤◌, Bool, true, false, List, [], ◌∷◌, ◌++◌, length, take, get_or, refl, sym, ap, ◌∙◌, true≢false, arith}
use Rattle.std.specs.Prelude.{if◌then◌else◌}
use Rattle.ds2_value.specs.declared.value.Value.{Value}
use Rattle.ds2_value.specs.declared.value.Value.TheVariants.{Null}
use Rattle.ds2_columns.specs.Columns.{value_in_row}
use Rattle.ds2_columns.specs.Marks.{with_nulls, SayTheSame, MarkNext}

-- as many values as before
pub as_many : (marks : List Bool) (values : List Value) → length (with_nulls marks values) ≡ length values
as_many [] values = refl
as_many (m ∷ marks) [] = refl
as_many (m ∷ marks) (v ∷ values) = ap (λ (n : ℕ). suc n) (as_many marks values)

-- a value behind the marks is as it is
pub plain_behind : (marks : List Bool) (values : List Value) (last : Value) → length marks ≤ length values
    → with_nulls marks (values ++ last ∷ []) ≡ with_nulls marks values ++ last ∷ []
plain_behind [] values last h = refl
plain_behind (m ∷ marks) [] last h = absurd (omega (arith, h))
plain_behind (m ∷ marks) (v ∷ values) last h = ap (λ (vs : List Value). (if m then Null else v) ∷ vs) (plain_behind marks values last (omega (arith, h)))

-- and one behind as many marks that is marked is null
null_behind : (marks : List Bool) (values : List Value) (last : Value) → length marks ≡ length values
    → with_nulls (marks ++ true ∷ []) (values ++ last ∷ []) ≡ with_nulls marks values ++ Null ∷ []
null_behind [] [] last h = refl
null_behind [] (v ∷ values) last h = absurd (omega (arith, h))
null_behind (m ∷ marks) [] last h = absurd (omega (arith, h))
null_behind (m ∷ marks) (v ∷ values) last h = ap (λ (vs : List Value). (if m then Null else v) ∷ vs) (null_behind marks values last (omega (arith, h)))

-- a value that is looked at and not marked changes nothing
not_marked : (marks : List Bool) (values : List Value) → length marks < length values → with_nulls (marks ++ false ∷ []) values ≡ with_nulls marks values
not_marked [] [] h = absurd (omega (arith, h))
not_marked [] (v ∷ values) h = refl
not_marked (m ∷ marks) [] h = absurd (omega (arith, h))
not_marked (m ∷ marks) (v ∷ values) h = ap (λ (vs : List Value). (if m then Null else v) ∷ vs) (not_marked marks values (omega (arith, h)))

pub none_yet : (count : ℕ) (marks : List Bool) → SayTheSame count marks marks
none_yet count marks = record { same = λ values e. refl }

pub one_more : (count : ℕ) (before marks : List Bool) → SayTheSame count before marks → length marks < count → SayTheSame count before (marks ++ false ∷ [])
one_more count before marks h l = record { same = λ values e. not_marked marks values (omega (arith, l, e)) ∙ h.same values e }

pub next_marked : (count : ℕ) (before marks : List Bool) → SayTheSame count before marks → length marks ≡ count → MarkNext count before (marks ++ true ∷ [])
next_marked count before marks h l = record {
  next = λ values last e. null_behind marks values last (l ∙ sym e) ∙ ap (λ (vs : List Value). vs ++ Null ∷ []) (h.same values e);
}

-- the first ones
pub first_marked : (count : ℕ) (marks : List Bool) (values : List Value) → with_nulls (take count marks) (take count values) ≡ take count (with_nulls marks values)
first_marked zero marks values = refl
first_marked (suc count) [] values = refl
first_marked (suc count) (m ∷ marks) [] = refl
first_marked (suc count) (m ∷ marks) (v ∷ values) = ap (λ (vs : List Value). (if m then Null else v) ∷ vs) (first_marked count marks values)

-- the value in a row
pub at_marked : (marks : List Bool) (values : List Value) (row : ℕ) → get_or marks row false ≡ true → Null ≡ value_in_row (with_nulls marks values) row
at_marked [] values row h = absurd (true≢false (sym h))
at_marked (m ∷ marks) [] row h = refl
at_marked (m ∷ marks) (v ∷ values) zero h = ap (λ (b : Bool). if b then Null else v) (sym h)
at_marked (m ∷ marks) (v ∷ values) (suc row) h = at_marked marks values row h

pub at_plain : (marks : List Bool) (values : List Value) (row : ℕ) → get_or marks row false ≡ false → value_in_row values row ≡ value_in_row (with_nulls marks values) row
at_plain [] values row h = refl
at_plain (m ∷ marks) [] row h = refl
at_plain (m ∷ marks) (v ∷ values) zero h = ap (λ (b : Bool). if b then Null else v) (sym h)
at_plain (m ∷ marks) (v ∷ values) (suc row) h = at_plain marks values row h
