-- The variable of a column takes the values of the column of each table.
use Rattle.std.proofs.Common.{◌≡◌, ℕ, Bool, true, false, List, [], ◌∷◌, if◌then◌else◌, Option, Some, None, refl, subst}
use Rattle.std.specs.List.{AllByRecursion}
use Rattle.std.proofs.lemmas.Bool.{and_parts}
use Rattle.ds2_base.specs.declared.place.Place.{Place}
use Rattle.ds2_tree.specs.declared.readings.Input as source_input
use Rattle.ds2_value.specs.Row.{Columns}
use Rattle.ds2_value.specs.Schema.{distinct_names, types_in_bounds, is_schema}
use Rattle.ds2_value.specs.Types.{in_bounds, takes, join_of, JoinTakesBoth, TakesItself, TakesOnward}
use Rattle.ds2_value.specs.declared.ty.Ty.{Ty}
use Rattle.ds2_names.specs.SourceUnit.{TableColumns, spelled_name}
use Rattle.ds2_elaboration.specs.SourceTypes.{is_joined_to, type_of_column, ColumnTyping, Absent, Joined, Clashed, agrees_with_declared, agreed, with_table, joined_over, clash_at_table, clashing_table, joined_type}
use Rattle.ds2_elaboration.proofs.Accepted.{same_item}
use Rattle.ds2_elaboration.proofs.Operands.{one_type}
use Rattle.ds2_elaboration.proofs.Outcome.{both_empty}
use Rattle.ds2_elaboration.proofs.Vectors.{IsBoundedTyping, column_bounded}

-- what is known of a column up to here takes what is known of it further on
abbrev pub TakesJoined : ColumnTyping → ColumnTyping → Type 0
TakesJoined Absent further = Unit {0}
TakesJoined (Joined ty) (Joined wide) = takes wide ty ≡ true
TakesJoined (Joined ty) _ = ⊥
TakesJoined Clashed further = ⊥

-- what is known of a column over all tables takes the values of a type
abbrev pub TakesType : ColumnTyping → Ty → Type 0
TakesType (Joined wide) ty = takes wide ty ≡ true
TakesType _ ty = ⊥

-- a declared variable takes the values of what its tables join to
abbrev pub DeclaredTakes : Option Ty → ColumnTyping → Type 0
DeclaredTakes None typing = Unit {0}
DeclaredTakes (Some declared) (Joined ty) = takes declared ty ≡ true
DeclaredTakes (Some declared) _ = Unit {0}

-- no rule is broken up to here
abbrev pub IsUnclashed : ColumnTyping → Type 0
IsUnclashed Clashed = ⊥
IsUnclashed _ = Unit {0}

pub unclashed_step : (place : Place) (before behind : ColumnTyping) → IsUnclashed before → clash_at_table place before behind ≡ [] → IsUnclashed behind
unclashed_step place Absent Absent k h = tt
unclashed_step place Absent (Joined ty) k h = tt
unclashed_step place Absent Clashed k h = cc
unclashed_step place (Joined so_far) Absent k h = tt
unclashed_step place (Joined so_far) (Joined ty) k h = tt
unclashed_step place (Joined so_far) Clashed k h = cc
unclashed_step place Clashed behind k h = absurd k

-- a declared type is in bounds
abbrev pub IsBoundedDeclared : Option Ty → Type 0
IsBoundedDeclared None = Unit {0}
IsBoundedDeclared (Some ty) = in_bounds ty ≡ true

-- ---- the tables of a column

module _ (join : JoinTakesBoth) (itself : TakesItself) (onward : TakesOnward) where
  -- one table more: what is known behind it is in bounds, and takes what was known before, the table's column, and is taken by the
  -- declared variable
  pub record JoinStep (declared : Option Ty) (before : ColumnTyping) (found : Option Ty) (behind : ColumnTyping) : Type 0 where
    pub bounds : IsBoundedTyping behind
    pub wider : TakesJoined before behind
    pub own : (ty : Ty) → found ≡ Some ty → TakesType behind ty
    pub taken : DeclaredTakes declared behind

  itself_taken : (typing : ColumnTyping) → IsUnclashed typing → TakesJoined typing typing
  itself_taken Absent k = tt
  itself_taken (Joined ty) k = itself ty
  itself_taken Clashed k = absurd k

  pub joined_to : (declared ty : Ty) (joined : Option Ty) → join_of declared ty ≡ joined → is_joined_to declared joined ≡ true → in_bounds declared ≡ true
      → in_bounds ty ≡ true → takes declared ty ≡ true
  joined_to declared ty None e k f g = cc
  joined_to declared ty (Some joined) e k f g = subst (λ t. takes t ty ≡ true) (one_type joined declared k) (join declared ty joined f g e).2

  declared_agrees : (declared : Option Ty) → IsBoundedDeclared declared → (ty : Ty) → in_bounds ty ≡ true → agrees_with_declared declared ty ≡ true
      → DeclaredTakes declared (Joined ty)
  declared_agrees None d ty f h = tt
  declared_agrees (Some declared) d ty f h = joined_to declared ty (join_of declared ty) refl h d f

  agreed_if : (b : Bool) (declared : Option Ty) → IsBoundedDeclared declared → (before : ColumnTyping) (ty joined : Ty) → agrees_with_declared declared joined ≡ b
      → in_bounds joined ≡ true → TakesJoined before (Joined joined) → takes joined ty ≡ true → IsUnclashed (if b then Joined joined else Clashed)
      → JoinStep declared before (Some ty) (if b then Joined joined else Clashed)
  agreed_if true declared d before ty joined e bounds wider own k = record {
    bounds = bounds;
    wider = wider;
    own = λ t h. subst (λ (u : Ty). takes joined u ≡ true) (same_item ty t h) own;
    taken = declared_agrees declared d joined bounds e;
  }
  agreed_if false declared d before ty joined e bounds wider own k = absurd k

  agreed_step : (declared : Option Ty) → IsBoundedDeclared declared → (before : ColumnTyping) (ty : Ty) (joined : Option Ty)
      → ((t : Ty) → joined ≡ Some t → in_bounds t ≡ true) → ((t : Ty) → joined ≡ Some t → TakesJoined before (Joined t)) → ((t : Ty) → joined ≡ Some t → takes t ty ≡ true)
      → IsUnclashed (agreed declared joined) → JoinStep declared before (Some ty) (agreed declared joined)
  agreed_step declared d before ty None bounds wider own k = absurd k
  agreed_step declared d before ty (Some joined) bounds wider own k =
      agreed_if (agrees_with_declared declared joined) declared d before ty joined refl (bounds joined refl) (wider joined refl) (own joined refl) k

  step : (declared : Option Ty) → IsBoundedDeclared declared → (before : ColumnTyping) (found : Option Ty) → IsBoundedTyping before → IsUnclashed before
      → DeclaredTakes declared before → ((ty : Ty) → found ≡ Some ty → in_bounds ty ≡ true) → IsUnclashed (with_table declared before found)
      → JoinStep declared before found (with_table declared before found)
  step declared d Absent None b u t f k = record { bounds = tt; wider = tt; own = λ ty h. cc; taken = t }
  step declared d (Joined so_far) None b u t f k = record { bounds = b; wider = itself so_far; own = λ ty h. cc; taken = t }
  step declared d Clashed None b u t f k = absurd u
  step declared d Absent (Some ty) b u t f k =
      agreed_step declared d Absent ty (Some ty) f (λ x h. tt) (λ x h. subst (λ (y : Ty). takes y ty ≡ true) (same_item ty x h) (itself ty)) k
  step declared d (Joined so_far) (Some ty) b u t f k =
      agreed_step declared d (Joined so_far) ty (join_of so_far ty) (λ x h. (join so_far ty x b (f ty refl) h).0)
      (λ x h. (join so_far ty x b (f ty refl) h).1) (λ x h. (join so_far ty x b (f ty refl) h).2) k
  step declared d Clashed (Some ty) b u t f k = absurd u

  absent_taken : (declared : Option Ty) → DeclaredTakes declared Absent
  absent_taken None = tt
  absent_taken (Some ty) = tt

  -- what is known of a column of the thread program that is read from
  pub stage_step : (declared : Option Ty) → IsBoundedDeclared declared → (name : List ℕ) (columns : Columns) → types_in_bounds columns ≡ true
      → IsUnclashed (with_table declared Absent (type_of_column name columns))
      → JoinStep declared Absent (type_of_column name columns) (with_table declared Absent (type_of_column name columns))
  stage_step declared d name columns bounds k =
      step declared d Absent (type_of_column name columns) tt tt (absent_taken declared) (column_bounded name columns bounds) k

  joined_onward : (a b c : ColumnTyping) → TakesJoined a b → TakesJoined b c → TakesJoined a c
  joined_onward Absent b c f g = tt
  joined_onward (Joined x) Absent c f g = absurd f
  joined_onward (Joined x) (Joined y) Absent f g = absurd g
  joined_onward (Joined x) (Joined y) (Joined z) f g = onward x y z f g
  joined_onward (Joined x) (Joined y) Clashed f g = absurd g
  joined_onward (Joined x) Clashed c f g = absurd f
  joined_onward Clashed b c f g = absurd f

  pub type_onward : (ty : Ty) (b c : ColumnTyping) → TakesType b ty → TakesJoined b c → TakesType c ty
  type_onward ty Absent c f g = absurd f
  type_onward ty (Joined y) Absent f g = absurd g
  type_onward ty (Joined y) (Joined z) f g = onward ty y z f g
  type_onward ty (Joined y) Clashed f g = absurd g
  type_onward ty Clashed c f g = absurd f

  module _ (tables : TableColumns) (schemas : (table : List ℕ) → is_schema (tables table) ≡ true) (declared : Option Ty) (bounds : IsBoundedDeclared declared) (name : List ℕ) where
    -- what is known at the end takes the column of this input
    abbrev pub TakesColumn : ColumnTyping → source_input.Input → Type 0
    TakesColumn final i = (ty : Ty) → type_of_column name (tables (spelled_name i.table)) ≡ Some ty → TakesType final ty

    -- what holds at the end of tables that break no rule
    abbrev FitsAll : ColumnTyping → List source_input.Input → ColumnTyping → Type 0
    FitsAll typing inputs final = TakesJoined typing final × DeclaredTakes declared final × AllByRecursion (TakesColumn final) inputs

    pub fits_all : (typing : ColumnTyping) (inputs : List source_input.Input) → IsBoundedTyping typing → IsUnclashed typing → DeclaredTakes declared typing
        → clashing_table tables declared name typing inputs ≡ [] → FitsAll typing inputs (joined_over tables declared name typing inputs)
    fits_all typing [] b u t h = (itself_taken typing u, t, tt)
    fits_all typing (i ∷ inputs) b u t h =
        let columns = tables (spelled_name i.table) in
        let found = type_of_column name columns in
        let behind = with_table declared typing found in
        let in_table = (and_parts (distinct_names columns) (types_in_bounds columns) (schemas (spelled_name i.table))).1 in
        let p = both_empty (clash_at_table i.table.place typing behind) (clashing_table tables declared name behind inputs) h in
        let k = unclashed_step i.table.place typing behind u p.0 in
        let s = step declared bounds typing found b u t (column_bounded name columns in_table) k in
        let r = fits_all behind inputs s.bounds k s.taken p.1 in
        let final = joined_over tables declared name behind inputs in (
          joined_onward typing behind final s.wider r.0,
          r.1,
          (λ ty e. type_onward ty behind final (s.own ty e) r.0, r.2),
        )

  -- a declared variable takes the values of each table's column
  pub declared_takes : (declared ty : Ty) (final : ColumnTyping) → DeclaredTakes (Some declared) final → TakesType final ty → takes declared ty ≡ true
  declared_takes declared ty Absent t f = absurd f
  declared_takes declared ty (Joined wide) t f = onward ty wide declared f t
  declared_takes declared ty Clashed t f = absurd f

-- so does a variable of the type that the tables join to
pub joined_takes : (ty : Ty) (final : ColumnTyping) → TakesType final ty → takes (joined_type final) ty ≡ true
joined_takes ty Absent f = absurd f
joined_takes ty (Joined wide) f = f
joined_takes ty Clashed f = absurd f
