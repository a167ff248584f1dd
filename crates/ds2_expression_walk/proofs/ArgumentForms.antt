-- Functions by their names, from the arguments that are taken out of their list.
use Rattle.std.proofs.Common.{◌≡◌, ℕ, ◌≤◌, length, Bool, true, false, if◌then◌else◌, List, [], ◌∷◌, Option, Some, None, Result, refl, sym, ap, ◌∙◌, subst, arith}
use Rattle.std.specs.Prelude.{suc}
use Rattle.std.specs.List.{slice_index_or, remove}
use Rattle.ds2_base.specs.declared.place.Place.{Place}
use Rattle.ds2_base.specs.declared.stop.OutOfMemory.{OutOfMemory}
use Rattle.ds2_token.specs.declared.token.Token.{Token}
use Rattle.ds2_names.specs.Functions.{function_named, takes_so_many}
use Rattle.ds2_names.specs.SourceUnit.{spelled_name}
use Rattle.ds2_names.specs.declared.functions.FunctionOfMany.{FunctionOfMany}
use Rattle.ds2_names.specs.declared.functions.ByType.{ByType}
use Rattle.ds2_names.specs.declared.functions.FunctionRow.{FunctionRow}
use Rattle.ds2_names.specs.declared.functions.NamedFunction.{NamedFunction}
use Rattle.ds2_names.specs.declared.functions.NamedFunction.TheVariants as named
use Rattle.ds2_elaboration.specs.FunctionTypes.{ElaboratedArgument, elaborated_remainder, elaborated_substring, elaborated_of_one, form_of_many, form_of_function, form_of_row, elaborated_function}
use Rattle.ds2_elaboration.specs.Typings.{ElaboratedExpression, elaborated_nameless}
use Rattle.ds2_types.specs.Judgements.{IsJudged, Judges}
use Rattle.ds2_types.specs.declared.judgement.Judgement.{Judgement}
use Rattle.ds2_expression_types.specs.Arguments.{AreJudged}
use Rattle.ds2_expression_walk.specs.ArgumentCounts.{one_of, two_of, headed_by_first}
use Rattle.ds2_expression_walk.specs.declared.argument_counts.FirstAndOthers.{FirstAndOthers}
use Rattle.ds2_expression_walk.specs.declared.argument_counts.TwoArguments.{TwoArguments}
use Rattle.ds2_reference_types.proofs.KnownNames.{none_not_some, some_not_none, inside}

-- ---- taken out

pub one_taken : (js : List Judgement) (only : Judgement) → length js ≡ 1 → only ≡ slice_index_or js 0 only → Some only ≡ one_of js
one_taken [] only h e = absurd (omega arith)
one_taken (j ∷ []) only h e = λ i. Some (e i)
one_taken (j ∷ k ∷ js) only h e = absurd (omega arith)

pub not_one : (js : List Judgement) → (length js ≡ 1 → ⊥) → None ≡ one_of js
not_one [] h = refl
not_one (j ∷ []) h = absurd (h refl)
not_one (j ∷ k ∷ js) h = refl

pub two_taken : (js : List Judgement) (first : Judgement) (behind : List Judgement) (second : Judgement) → length js ≡ 2 → first ≡ slice_index_or js 0 first
    → behind ≡ remove js 0 → second ≡ slice_index_or behind 0 second → Some (record { first = first; second = second }) ≡ two_of js
two_taken [] first behind second h e f g = absurd (omega arith)
two_taken (j ∷ []) first behind second h e f g = absurd (omega arith)
two_taken (j ∷ k ∷ []) first behind second h e f g =
    let same : second ≡ k = g ∙ ap (λ (l : List Judgement). slice_index_or l 0 second) f in λ i. Some (record { first = e i; second = same i })
two_taken (j ∷ k ∷ l ∷ js) first behind second h e f g = absurd (omega arith)

pub not_two : (js : List Judgement) → (length js ≡ 2 → ⊥) → None ≡ two_of js
not_two [] h = refl
not_two (j ∷ []) h = refl
not_two (j ∷ k ∷ []) h = absurd (h refl)
not_two (j ∷ k ∷ l ∷ js) h = refl

pub first_taken : (js : List Judgement) (first : Judgement) (others : List Judgement) → 1 ≤ length js → first ≡ slice_index_or js 0 first → others ≡ remove js 0
    → Some (record { first = first; others = others }) ≡ headed_by_first js
first_taken [] first others h e f = absurd (omega arith)
first_taken (j ∷ js) first others h e f = λ i. Some (record { first = e i; others = f i })

-- ---- as many as are taken

-- there are as many arguments as what they become
same_length : (xs : List ElaboratedArgument) (js : List Judgement) → AreJudged xs js → length js ≡ length xs
same_length [] [] h = refl
same_length [] (j ∷ js) h = absurd h
same_length (x ∷ xs) [] h = absurd h
same_length (x ∷ xs) (j ∷ js) h = ap (λ (n : ℕ). suc n) (same_length xs js h.1)

-- a form of as many arguments as it takes
within_bound : (holds : Bool) (form other : ElaboratedExpression) (result : Result Judgement OutOfMemory) → true ≡ holds → Judges form result
    → Judges (if holds then form else other) result
within_bound true form other result e h = h
within_bound false form other result e h = cc

beyond_bound : (holds : Bool) (form other : ElaboratedExpression) (j : Judgement) → false ≡ holds → IsJudged other j → IsJudged (if holds then form else other) j
beyond_bound true form other j e h = cc
beyond_bound false form other j e h = h

-- ---- one value

module _ (f : ByType) (name : Place) where
  pub not_single : (xs : List ElaboratedArgument) (js : List Judgement) (j : Judgement) → one_of js ≡ None → AreJudged xs js → IsJudged (elaborated_nameless name) j
      → IsJudged (form_of_function (named.OfOne f) name xs) j
  not_single [] js j e h k = k
  not_single (x ∷ []) [] j e h k = absurd h
  not_single (x ∷ []) (a ∷ []) j e h k = absurd (none_not_some _ e)
  not_single (x ∷ []) (a ∷ b ∷ js) j e h k = absurd h.1
  not_single (x ∷ y ∷ xs) js j e h k = k

  pub of_single : (xs : List ElaboratedArgument) (js : List Judgement) (j : Judgement) (result : Result Judgement OutOfMemory) → one_of js ≡ Some j → AreJudged xs js
      → ((x : ElaboratedArgument) → IsJudged x.value j → Judges (elaborated_of_one f name x) result) → Judges (form_of_function (named.OfOne f) name xs) result
  of_single xs [] j result e h k = absurd (some_not_none j e)
  of_single [] (a ∷ []) j result e h k = absurd h
  of_single (x ∷ []) (a ∷ []) j result e h k = k x (subst (λ (b : Judgement). IsJudged x.value b) (inside a j e) h.0)
  of_single (x ∷ y ∷ xs) (a ∷ []) j result e h k = absurd h.1
  of_single xs (a ∷ b ∷ js) j result e h k = absurd (some_not_none j e)

-- ---- several values

pub many_told : (name : Place) (xs : List ElaboratedArgument) (f kind : FunctionOfMany) (result : Result Judgement OutOfMemory) → f ≡ kind → Judges (form_of_many kind name xs) result
    → Judges (form_of_many f name xs) result
many_told name xs f kind result e h = subst (λ (g : FunctionOfMany). Judges (form_of_many g name xs) result) (sym e) h

module _ (name : Place) where
  -- mod of another number of arguments
  pub not_both : (xs : List ElaboratedArgument) (js : List Judgement) (j : Judgement) → two_of js ≡ None → AreJudged xs js → IsJudged (elaborated_nameless name) j
      → IsJudged (form_of_function named.Remainder name xs) j
  not_both [] js j e h k = k
  not_both (x ∷ []) js j e h k = k
  not_both (x ∷ y ∷ []) [] j e h k = absurd h
  not_both (x ∷ y ∷ []) (a ∷ []) j e h k = absurd h.1
  not_both (x ∷ y ∷ []) (a ∷ b ∷ []) j e h k = absurd (none_not_some _ e)
  not_both (x ∷ y ∷ []) (a ∷ b ∷ c ∷ js) j e h k = absurd h.1.1
  not_both (x ∷ y ∷ z ∷ xs) js j e h k = k

  -- mod of two
  pub of_both : (xs : List ElaboratedArgument) (js : List Judgement) (t : TwoArguments) (result : Result Judgement OutOfMemory) → two_of js ≡ Some t → AreJudged xs js
      → ((x y : ElaboratedArgument) → IsJudged x.value t.first → IsJudged y.value t.second → Judges (elaborated_remainder name x y) result)
      → Judges (form_of_function named.Remainder name xs) result
  of_both xs [] t result e h k = absurd (some_not_none t e)
  of_both xs (a ∷ []) t result e h k = absurd (some_not_none t e)
  of_both [] (a ∷ b ∷ []) t result e h k = absurd h
  of_both (x ∷ []) (a ∷ b ∷ []) t result e h k = absurd h.1
  of_both (x ∷ y ∷ []) (a ∷ b ∷ []) t result e h k =
      let same = inside _ t e in
      k x y (subst (λ (u : TwoArguments). IsJudged x.value u.first) same h.0) (subst (λ (u : TwoArguments). IsJudged y.value u.second) same h.1.0)
  of_both (x ∷ y ∷ z ∷ xs) (a ∷ b ∷ []) t result e h k = absurd h.1.1
  of_both xs (a ∷ b ∷ c ∷ js) t result e h k = absurd (some_not_none t e)

  -- substr of no argument
  pub not_headed : (xs : List ElaboratedArgument) (js : List Judgement) (j : Judgement) → headed_by_first js ≡ None → AreJudged xs js → IsJudged (elaborated_nameless name) j
      → IsJudged (form_of_function named.Substring name xs) j
  not_headed [] js j e h k = k
  not_headed (x ∷ xs) [] j e h k = absurd h
  not_headed (x ∷ xs) (a ∷ js) j e h k = absurd (none_not_some _ e)

  -- substr of a text and what stands behind it
  pub of_headed : (xs : List ElaboratedArgument) (js : List Judgement) (t : FirstAndOthers) (result : Result Judgement OutOfMemory) → headed_by_first js ≡ Some t → AreJudged xs js
      → ((x : ElaboratedArgument) (numbers : List ElaboratedArgument) → IsJudged x.value t.first → AreJudged numbers t.others → Judges (elaborated_substring name x numbers) result)
      → Judges (form_of_function named.Substring name xs) result
  of_headed xs [] t result e h k = absurd (some_not_none t e)
  of_headed [] (a ∷ js) t result e h k = absurd h
  of_headed (x ∷ xs) (a ∷ js) t result e h k =
      let same = inside _ t e in
      k x xs (subst (λ (u : FirstAndOthers). IsJudged x.value u.first) same h.0) (subst (λ (u : FirstAndOthers). AreJudged xs u.others) same h.1)

-- ---- functions

pub form_told : (name : Place) (xs : List ElaboratedArgument) (f kind : NamedFunction) (result : Result Judgement OutOfMemory) → f ≡ kind → Judges (form_of_function kind name xs) result
    → Judges (form_of_function f name xs) result
form_told name xs f kind result e h = subst (λ (g : NamedFunction). Judges (form_of_function g name xs) result) (sym e) h

module _ (f : FunctionRow) (name : Place) (xs : List ElaboratedArgument) (js : List Judgement) (count : ℕ) (told : Bool) (judged : AreJudged xs js) (counted : count ≡ length js)
    (taken : told ≡ takes_so_many f.counts count) where
  as_told : (b : Bool) → told ≡ b → b ≡ takes_so_many f.counts (length xs)
  as_told b e = sym e ∙ taken ∙ ap (λ (n : ℕ). takes_so_many f.counts n) (counted ∙ same_length xs js judged)

  pub of_so_many : (result : Result Judgement OutOfMemory) → told ≡ true → Judges (form_of_function f.function name xs) result → Judges (form_of_row (Some f) name xs) result
  of_so_many result e h = within_bound (takes_so_many f.counts (length xs)) (form_of_function f.function name xs) (elaborated_nameless name) result (as_told true e) h

  pub of_other_count : (j : Judgement) → told ≡ false → IsJudged (elaborated_nameless name) j → IsJudged (form_of_row (Some f) name xs) j
  of_other_count j e h = beyond_bound (takes_so_many f.counts (length xs)) (form_of_function f.function name xs) (elaborated_nameless name) j (as_told false e) h

-- a function by its name, once it is told which
pub function_told : (t : Token) (slice word : List ℕ) (found kind : Option FunctionRow) (xs : List ElaboratedArgument) (result : Result Judgement OutOfMemory) → slice ≡ word
    → word ≡ spelled_name t → found ≡ function_named slice → found ≡ kind → Judges (form_of_row kind t.place xs) result → Judges (elaborated_function t xs) result
function_told t slice word found kind xs result a b e f h =
    subst (λ (g : Option FunctionRow). Judges (form_of_row g t.place xs) result) (sym f ∙ e ∙ ap (λ (w : List ℕ). function_named w) (a ∙ b)) h
