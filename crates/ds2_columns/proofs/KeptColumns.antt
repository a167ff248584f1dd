-- What a column keeps, and what its values are.
use Rattle.std.proofs.Common.{◌≡◌, ℕ, ◌+◌, ◌≤◌, Bool, List, [], ◌∷◌, ◌++◌, length, take, sym, ap, subst, ◌∙◌, refl, arith, length-append}
use Rattle.std.proofs.lemmas.List.{length-take, take_at}
use Rattle.std.specs.Prelude.{true, IsTrue, Result, Ok, Err, OnOk, OnErr}
use Rattle.ds2_value.specs.Types.{in_bounds, fits}
use Rattle.ds2_value.specs.declared.ty.Ty.{Ty}
use Rattle.ds2_value.specs.declared.value.Value.{Value}
use Rattle.ds2_value.specs.declared.value.Value.TheVariants.{Null}
use Rattle.ds2_columns.specs.Columns.{all_fit}
use Rattle.ds2_columns.specs.Kept.{KeepsColumn, HasOneMore}
use Rattle.ds2_columns.specs.Marks.{with_nulls, SayTheSame, MarkNext}
use Rattle.ds2_columns.proofs.Fitting.{all_behind, all_first}
use Rattle.ds2_columns.proofs.NullMarks.{plain_behind, first_marked}

-- a column is kept where its values are these and fit
kept : (ty : Ty) (marks : List Bool) (values worth : List Value) → IsTrue (in_bounds ty) → length marks ≤ length values → with_nulls marks values ≡ worth
    → all_fit ty worth ≡ true → KeepsColumn ty marks values
kept ty marks values worth b l e f = record { marked = l; column = record { bounds = b; fit = ap (λ (vs : List Value). all_fit ty vs) e ∙ f } }

pub kept_empty : (ty : Ty) (values : List Value) → IsTrue (in_bounds ty) → values ≡ [] → KeepsColumn ty [] values
kept_empty ty values b e = kept ty [] values [] b (omega arith) e refl

-- one more value

pub plain_is : (marks : List Bool) (values now : List Value) (last : Value) → length marks ≤ length values → now ≡ values ++ last ∷ []
    → with_nulls marks now ≡ with_nulls marks values ++ last ∷ []
plain_is marks values now last h e = ap (λ (vs : List Value). with_nulls marks vs) e ∙ plain_behind marks values last h

pub kept_plain : (ty : Ty) (marks : List Bool) (values now : List Value) (last : Value) → KeepsColumn ty marks values → fits last ty ≡ true
    → now ≡ values ++ last ∷ [] → KeepsColumn ty marks now
kept_plain ty marks values now last k f e =
    kept ty marks now (with_nulls marks values ++ last ∷ []) k.column.bounds
    (omega (arith, k.marked, ap (λ (vs : List Value). length vs) e, length-append values (last ∷ [])))
    (plain_is marks values now last k.marked e)
    (all_behind (λ v. fits v ty) (with_nulls marks values) last k.column.fit f)

-- one more null

pub null_is : (marks now : List Bool) (values grown : List Value) (row : ℕ) → row ≡ length values → HasOneMore values grown → MarkNext row marks now
    → with_nulls now grown ≡ with_nulls marks values ++ Null ∷ []
null_is marks now values grown row e o m = ap (λ (vs : List Value). with_nulls now vs) o.grown ∙ m.next values o.last (sym e)

pub kept_null : (ty : Ty) (marks now : List Bool) (values grown : List Value) (row : ℕ) → KeepsColumn ty marks values → row ≡ length values
    → HasOneMore values grown → length now ≤ row + 1 → MarkNext row marks now → KeepsColumn ty now grown
kept_null ty marks now values grown row k e o l m =
    kept ty now grown (with_nulls marks values ++ Null ∷ []) k.column.bounds
    (omega (arith, l, e, ap (λ (vs : List Value). length vs) o.grown, length-append values (o.last ∷ [])))
    (null_is marks now values grown row e o m)
    (all_behind (λ v. fits v ty) (with_nulls marks values) Null k.column.fit refl)

-- and none where there was no memory to mark it

cut_again : (values grown cut : List Value) (row : ℕ) → row ≡ length values → HasOneMore values grown → cut ≡ take row grown → cut ≡ values
cut_again values grown cut row e o c = c ∙ ap (λ (vs : List Value). take row vs) o.grown ∙ take_at values (o.last ∷ []) row (sym e)

pub same_is : (marks now : List Bool) (values grown cut : List Value) (row : ℕ) → row ≡ length values → HasOneMore values grown → cut ≡ take row grown
    → SayTheSame row marks now → with_nulls now cut ≡ with_nulls marks values
same_is marks now values grown cut row e o c s = ap (λ (vs : List Value). with_nulls now vs) (cut_again values grown cut row e o c) ∙ s.same values (sym e)

pub kept_same : (ty : Ty) (marks now : List Bool) (values grown cut : List Value) (row : ℕ) → KeepsColumn ty marks values → row ≡ length values
    → HasOneMore values grown → cut ≡ take row grown → length now ≤ row → SayTheSame row marks now → KeepsColumn ty now cut
kept_same ty marks now values grown cut row k e o c l s =
    kept ty now cut (with_nulls marks values) k.column.bounds
    (omega (arith, l, e, ap (λ (vs : List Value). length vs) (cut_again values grown cut row e o c)))
    (same_is marks now values grown cut row e o c s)
    k.column.fit

-- the first values

pub first_is : (marks first_marks : List Bool) (values first : List Value) (count : ℕ) → first_marks ≡ take count marks → first ≡ take count values
    → with_nulls first_marks first ≡ take count (with_nulls marks values)
first_is marks first_marks values first count m v = (λ i. with_nulls (m i) (v i)) ∙ first_marked count marks values

pub kept_first : (ty : Ty) (marks first_marks : List Bool) (values first : List Value) (count : ℕ) → KeepsColumn ty marks values → first_marks ≡ take count marks
    → first ≡ take count values → KeepsColumn ty first_marks first
kept_first ty marks first_marks values first count k m v =
    kept ty first_marks first (take count (with_nulls marks values)) k.column.bounds
    (omega (arith, k.marked, ap (λ (ms : List Bool). length ms) m, ap (λ (vs : List Value). length vs) v, length-take count marks, length-take count values))
    (first_is marks first_marks values first count m v)
    (all_first (λ x. fits x ty) count (with_nulls marks values) k.column.fit)

-- one more value, or after a refusal none
pub kept_either : {A B : Type 0} (ty : Ty) (marks : List Bool) (values now : List Value) (last : Value) (result : Result A B) → KeepsColumn ty marks values
    → fits last ty ≡ true → OnOk result (now ≡ values ++ last ∷ []) → OnErr result (now ≡ values) → KeepsColumn ty marks now
kept_either ty marks values now last (Ok x) k f more same = kept_plain ty marks values now last k f more
kept_either ty marks values now last (Err x) k f more same = subst (λ (vs : List Value). KeepsColumn ty marks vs) (sym same) k

-- the same in another type
pub kept_as : (ty other : Ty) (marks : List Bool) (values : List Value) → KeepsColumn other marks values → IsTrue (in_bounds ty) → IsTrue (all_fit ty (with_nulls marks values))
    → KeepsColumn ty marks values
kept_as ty other marks values k b f = record { marked = k.marked; column = record { bounds = b; fit = f } }
