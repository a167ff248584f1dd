-- Tables at their first mention, where a test tells which are known.
use Rattle.std.proofs.Common.{◌≡◌, ℕ, Bool, true, false, ◌||◌, List, [], ◌∷◌, ◌++◌, bytes_eq, refl, sym, ap, ◌∙◌}
use Rattle.std.specs.Prelude.{if◌then◌else◌}
use Rattle.std.proofs.lemmas.Slice.Eq.{bytes_eq-Decides}
use Rattle.ds2_meaning.specs.ProgramTree.{is_listed}
use Rattle.ds2_names.specs.SourceUnit.{PlacedName, names_alone}
use Rattle.ds2_source.specs.InputTables.{first_not_known}

-- a test that tells of one name more
module _ (t : PlacedName) (s s' : List ℕ → Bool) (more : (name : List ℕ) → s' name ≡ (bytes_eq t.name name || s name)) where
  -- a name that is known is nothing new
  known_before : s t.name ≡ true → (name : List ℕ) → s' name ≡ s name
  known_before there name = more name ∙ by (bytes_eq t.name name) refl
    where
      by : (e : Bool) → bytes_eq t.name name ≡ e → (e || s name) ≡ s name
      by true e = sym (ap s (sym ((bytes_eq-Decides t.name name).0 e)) ∙ there)
      by false e = refl

  -- one table more, before further ones
  pub one_first : (tables : List PlacedName) → first_not_known s (t ∷ tables) ≡ (if s t.name then [] else t ∷ []) ++ first_not_known s' tables
  one_first tables = by (s t.name) refl
    where
      by : (e : Bool) → s t.name ≡ e → (if e then first_not_known s tables else t ∷ first_not_known (λ name. bytes_eq t.name name || s name) tables) ≡ (if e then [] else t ∷ []) ++ first_not_known s' tables
      by true e = λ i. first_not_known (λ name. sym (known_before e name) i) tables
      by false e = λ i. t ∷ first_not_known (λ name. sym (more name) i) tables

-- a table that is known, or not, among those at their first mention
module _ (name : List ℕ) where
  either : (a b c d : Bool) → (b || (a || c)) ≡ (d || (a || c)) → ((a || b) || c) ≡ ((a || d) || c)
  either true b c d h = refl
  either false b c d h = h

  -- what is not new is known: it is all the same to know these tables, or only the new ones among them
  pub known_or_new : (s : List ℕ → Bool) (tables : List PlacedName) → (is_listed (names_alone tables) name || s name) ≡ (is_listed (names_alone (first_not_known s tables)) name || s name)
  known_or_new s [] = refl
  known_or_new s (t ∷ tables) = by (s t.name) refl (known_or_new s tables) (known_or_new (λ n. bytes_eq t.name n || s n) tables)
    where
      old : s t.name ≡ true → (e : Bool) → bytes_eq t.name name ≡ e → (x : Bool) → ((e || x) || s name) ≡ (x || s name)
      old there true e x = sym (in_last x (s name) (ap s (sym ((bytes_eq-Decides t.name name).0 e)) ∙ there))
        where
          in_last : (x k : Bool) → k ≡ true → (x || k) ≡ true
          in_last true k h = refl
          in_last false k h = h
      old there false e x = refl

      by : (e : Bool) → s t.name ≡ e → (is_listed (names_alone tables) name || s name) ≡ (is_listed (names_alone (first_not_known s tables)) name || s name)
          → (is_listed (names_alone tables) name || (bytes_eq t.name name || s name))
          ≡ (is_listed (names_alone (first_not_known (λ n. bytes_eq t.name n || s n) tables)) name || (bytes_eq t.name name || s name))
          → ((bytes_eq t.name name || is_listed (names_alone tables) name) || s name)
          ≡ (is_listed (names_alone (if e then first_not_known s tables else t ∷ first_not_known (λ n. bytes_eq t.name n || s n) tables)) name || s name)
      by true e h k = old e (bytes_eq t.name name) refl (is_listed (names_alone tables) name) ∙ h
      by false e h k =
          either (bytes_eq t.name name) (is_listed (names_alone tables) name) (s name) (is_listed (names_alone (first_not_known (λ n. bytes_eq t.name n || s n) tables)) name) k
