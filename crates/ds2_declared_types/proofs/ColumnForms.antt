-- Columns over tables, table by table.
use Rattle.std.proofs.Common.{◌≡◌, ℕ, ◌+◌, ◌<◌, ◌≤◌, Bool, true, false, if◌then◌else◌, List, [], ◌∷◌, ◌++◌, length, get_or, drop, map, Option, Some, None, refl, sym, ap, ◌∙◌}
use Rattle.std.proofs.lemmas.List.{at_drop_more, at_drop_all}
use Rattle.ds2_base.specs.declared.place.Place.{Place}
use Rattle.ds2_value.specs.declared.ty.Ty.{Ty}
use Rattle.ds2_elaboration.specs.SourceTypes.{ColumnTyping, Absent, Joined, Clashed, with_table, clash_at_table}
use Rattle.ds2_declared_types.specs.InputColumns.{ColumnInTable, TypesByName, column_found, joined_columns, clash_of_columns}
use Rattle.ds2_declared_types.specs.Joins.{is_clash, places_in, typing_of_rows, clash_at_rows, clashes_over}
use Rattle.ds2_declared_types.specs.declared.input_types.InputTypes.{InputTypes}

-- a rule is broken here where none was before
pub clash_here : (place : Place) (before behind : ColumnTyping) (result : Bool) → is_clash before ≡ false → result ≡ is_clash behind
    → clash_at_table place before behind ≡ (if result then place ∷ [] else [])
clash_here place before behind result h k = by before behind h ∙ ap (λ (b : Bool). if b then place ∷ [] else []) (sym k)
  where
    by : (x y : ColumnTyping) → is_clash x ≡ false → clash_at_table place x y ≡ (if is_clash y then place ∷ [] else [])
    by Clashed y e = cc
    by Absent Absent e = refl
    by Absent (Joined ty) e = refl
    by Absent Clashed e = refl
    by (Joined own) Absent e = refl
    by (Joined own) (Joined ty) e = refl
    by (Joined own) Clashed e = refl

module _ (declared : Option Ty) (name : List ℕ) where
  -- what is known behind a table
  abbrev pub behind_table : ColumnTyping → InputTypes → ColumnTyping
  behind_table typing t = with_table declared typing (column_found name t).ty

  -- what is known behind further tables
  abbrev pub joined_behind : ColumnTyping → List InputTypes → ColumnTyping
  joined_behind typing inputs = joined_columns declared typing (map (column_found name) inputs)

  -- the first of further tables at which a rule is broken
  abbrev pub clashes_behind : ColumnTyping → List InputTypes → List Place
  clashes_behind typing inputs = clash_of_columns declared typing (map (column_found name) inputs)

  -- one table more
  pub one_table : (inputs : List InputTypes) (k : ℕ) (t : InputTypes) (typing : ColumnTyping) → k < length inputs → t ≡ get_or inputs k t
      → joined_behind (behind_table typing t) (drop (k + 1) inputs) ≡ joined_behind typing (drop k inputs)
  one_table inputs k t typing l at =
      sym (at_drop_more (joined_behind typing) inputs k t l ∙ ap (λ (u : InputTypes). joined_behind (behind_table typing u) (drop (k + 1) inputs)) (sym at))

  pub no_table_left : (inputs : List InputTypes) (k : ℕ) (typing : ColumnTyping) → length inputs ≤ k → joined_behind typing (drop k inputs) ≡ typing
  no_table_left inputs k typing l = at_drop_all (joined_behind typing) inputs k l

  -- behind a broken rule no other one is
  none_behind : (columns : List ColumnInTable) → clash_of_columns declared Clashed columns ≡ []
  none_behind [] = refl
  none_behind (c ∷ columns) = by c.ty (none_behind columns)
    where
      by : (own : Option Ty) → clash_of_columns declared Clashed columns ≡ []
          → clash_at_table c.place Clashed (with_table declared Clashed own) ++ clash_of_columns declared (with_table declared Clashed own) columns ≡ []
      by None h = h
      by (Some ty) h = h

  next_clash : (inputs : List InputTypes) (k : ℕ) (t : InputTypes) (typing : ColumnTyping) → k < length inputs → t ≡ get_or inputs k t
      → clashes_behind typing (drop k inputs) ≡ clash_at_table t.place typing (behind_table typing t) ++ clashes_behind (behind_table typing t) (drop (k + 1) inputs)
  next_clash inputs k t typing l at =
      at_drop_more (clashes_behind typing) inputs k t l
      ∙ ap (λ (u : InputTypes). clash_at_table u.place typing (behind_table typing u) ++ clashes_behind (behind_table typing u) (drop (k + 1) inputs)) (sym at)

  -- no rule is broken at this table
  pub no_clash : (inputs : List InputTypes) (k : ℕ) (t : InputTypes) (typing behind : ColumnTyping) (clashes : Bool) → k < length inputs → t ≡ get_or inputs k t → behind ≡ behind_table typing t
      → clash_at_table t.place typing behind ≡ (if clashes then t.place ∷ [] else []) → clashes ≡ false
      → clashes_behind behind (drop (k + 1) inputs) ≡ clashes_behind typing (drop k inputs)
  no_clash inputs k t typing behind clashes l at b h e =
      sym
      (next_clash inputs k t typing l at
      ∙ ap (λ (u : ColumnTyping). clash_at_table t.place typing u ++ clashes_behind u (drop (k + 1) inputs)) (sym b)
      ∙ ap (λ (p : List Place). p ++ clashes_behind behind (drop (k + 1) inputs)) (h ∙ ap (λ (c : Bool). if c then t.place ∷ [] else []) e))

  clashed_if : (place : Place) (before behind : ColumnTyping) → clash_at_table place before behind ≡ place ∷ [] → (rest : List ColumnInTable)
      → clash_at_table place before behind ++ clash_of_columns declared behind rest ≡ place ∷ []
  clashed_if place before Clashed h rest = ap (λ (l : List Place). clash_at_table place before Clashed ++ l) (none_behind rest) ∙ ap (λ (l : List Place). l ++ []) h
  clashed_if place Absent Absent h rest = cc
  clashed_if place Absent (Joined ty) h rest = cc
  clashed_if place (Joined own) Absent h rest = cc
  clashed_if place (Joined own) (Joined ty) h rest = cc
  clashed_if place Clashed Absent h rest = cc
  clashed_if place Clashed (Joined ty) h rest = cc

  -- a rule is broken at this table
  pub clash_at : (inputs : List InputTypes) (k : ℕ) (t : InputTypes) (typing behind : ColumnTyping) (clashes : Bool) → k < length inputs → t ≡ get_or inputs k t → behind ≡ behind_table typing t
      → clash_at_table t.place typing behind ≡ (if clashes then t.place ∷ [] else []) → clashes ≡ true
      → clashes_behind typing (drop k inputs) ≡ t.place ∷ []
  clash_at inputs k t typing behind clashes l at b h e =
      next_clash inputs k t typing l at
      ∙ ap (λ (u : ColumnTyping). clash_at_table t.place typing u ++ clashes_behind u (drop (k + 1) inputs)) (sym b)
      ∙ clashed_if t.place typing behind (h ∙ ap (λ (c : Bool). if c then t.place ∷ [] else []) e) (map (column_found name) (drop (k + 1) inputs))

  pub no_clash_left : (inputs : List InputTypes) (k : ℕ) (typing : ColumnTyping) → length inputs ≤ k → clashes_behind typing (drop k inputs) ≡ []
  no_clash_left inputs k typing l = at_drop_all (clashes_behind typing) inputs k l

-- ---- rows of a thread program before tables

places_after : (stage : Option Place) (typing : ColumnTyping) (place : Place) (rest : List Place) → places_in (Some place) ≡ clash_at_rows stage typing → (is_clash typing ≡ true → rest ≡ [])
    → places_in (Some place) ≡ clash_at_rows stage typing ++ rest
places_after None typing place rest e h = absurd (cc e)
places_after (Some p) Absent place rest e h = absurd (cc e)
places_after (Some p) (Joined ty) place rest e h = absurd (cc e)
places_after (Some p) Clashed place rest e h = e ∙ sym (ap (λ (l : List Place). (p ∷ []) ++ l) (h refl))

clashed_is : (typing : ColumnTyping) → is_clash typing ≡ true → typing ≡ Clashed
clashed_is Absent e = absurd (cc e)
clashed_is (Joined ty) e = absurd (cc e)
clashed_is Clashed e = refl

module _ (inputs : List InputTypes) (stage : Option Place) (rows : TypesByName) (declared : Option Ty) (name : List ℕ) where
  -- where the tables break a rule, once this much is known
  abbrev pub of_tables : ColumnTyping → List Place
  of_tables typing = clash_of_columns declared typing (map (column_found name) inputs)

  -- the rows clash
  pub rows_clash : (found : Option Place) (place : Place) → found ≡ Some place → places_in found ≡ clash_at_rows stage (typing_of_rows rows declared name)
      → places_in (Some place) ≡ clashes_over inputs stage rows declared name
  rows_clash found place e h =
      places_after stage (typing_of_rows rows declared name) place (of_tables (typing_of_rows rows declared name))
      (ap places_in (sym e) ∙ h)
      (λ k. ap of_tables (clashed_is (typing_of_rows rows declared name) k) ∙ none_behind declared name (map (column_found name) inputs))

  -- they do not, so that it is the tables
  pub tables_clash : (found : Option Place) (begun : ColumnTyping) → found ≡ None → places_in found ≡ clash_at_rows stage (typing_of_rows rows declared name)
      → begun ≡ typing_of_rows rows declared name → of_tables begun ≡ clashes_over inputs stage rows declared name
  tables_clash found begun e h b =
      ap of_tables b
      ∙ ap (λ (l : List Place). l ++ of_tables (typing_of_rows rows declared name)) (ap places_in (sym e) ∙ h)
