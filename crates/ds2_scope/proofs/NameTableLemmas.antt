-- Tables by names: the order of names finds what a test for equal names finds.
use Rattle.std.proofs.Common.{◌≡◌, ℕ, Bool, true, false, ◌||◌, not, List, [], ◌∷◌, bytes_eq, Option, Some, cond, refl, sym, ap, ◌∙◌}
use Rattle.std.specs.Prelude.{Vec, map, nat_eq, is_some, if◌then◌else◌}
use Rattle.std.specs.BTreeMap.{BTreeMap, UpdatesBy, get_by}
use Rattle.std.specs.Cmp.Lexicographic.{pointwise, slice_cmp, texts_ties, bytes_decides, nat_list_eq_equiv}
use Rattle.std.specs.HashMap.{HashMap, get}
use Rattle.std.specs.HashSet.{HashSet, contains}
use Rattle.std.specs.List.{list_any}
use Rattle.std.specs.Map.{lookup, keys_of, KeepsOthers, IsKeyTest, AreApart}
use Rattle.std.specs.Ordering.{is_eq, nat_cmp, eq_by_cmp}
use Rattle.std.specs.declared.alloc.Global.{Global}
use Rattle.indexmap.specs.Layout.{key_set}
use Rattle.ds2_scope.specs.NameTables.{named_entry, named_entries}

-- names that are equal by their order are one
same_name : (a b : List ℕ) → is_eq (slice_cmp nat_cmp a b) ≡ true → a ≡ b
same_name a b h = (bytes_decides a b).0 (texts_ties a b ∙ h)

not_twice : (b : Bool) → b ≡ not (not b)
not_twice true = refl
not_twice false = refl

module _ {X : Type 0} where
  -- a test of names finds the same in both
  found_by : (test : List ℕ → Bool) (es : List (Vec ℕ Global × X)) → lookup (λ (k : Vec ℕ Global). test k.items) es ≡ lookup test (map named_entry es)
  found_by test [] = refl
  found_by test (e ∷ es) = ap (cond (test e.0.items) (Some e.1)) (found_by test es)

  -- what is kept under a name
  found : (m : BTreeMap (Vec ℕ Global) X) (name : List ℕ) → get_by (λ k. slice_cmp nat_cmp name k.items) m ≡ get (pointwise nat_eq) (named_entries m) name
  found m name =
      let tests : eq_by_cmp (slice_cmp nat_cmp) name ≡ pointwise nat_eq name = λ i q. sym (texts_ties name q) i in
      ap (λ (test : List ℕ → Bool). lookup (λ (k : Vec ℕ Global). test k.items) m.entries) tests ∙ found_by (pointwise nat_eq name) m.entries

  others_kept : {K : Type 0} (eq : K → K → Bool) (test : K → Bool) (old new : List (K × X)) → KeepsOthers eq test old new
      → (other : K → Bool) → IsKeyTest eq other → AreApart test other → lookup other new ≡ lookup other old
  unfolding KeepsOthers
  others_kept eq test old new keeps = keeps

  -- what is kept once an entry has changed
  updated : (old new : BTreeMap (Vec ℕ Global) X) (name : List ℕ) (w : Option X)
      → UpdatesBy (λ a b. slice_cmp nat_cmp a.items b.items) (λ k. slice_cmp nat_cmp name k.items) old new w
      → (other : List ℕ) → get (pointwise nat_eq) (named_entries new) other ≡ (if bytes_eq name other then w else get (pointwise nat_eq) (named_entries old) other)
  updated old new name w u other = by (bytes_eq name other) refl
    where
      test : Vec ℕ Global → Bool
      test k = is_eq (slice_cmp nat_cmp other k.items)

      is_test : (x y : Vec ℕ Global) → test x ≡ true → test y ≡ eq_by_cmp (λ (a b : Vec ℕ Global). slice_cmp nat_cmp a.items b.items) x y
      is_test x y h = ap (λ (q : List ℕ). is_eq (slice_cmp nat_cmp q y.items)) (same_name other x.items h)

      apart : bytes_eq name other ≡ false → (k : Vec ℕ Global) → is_eq (slice_cmp nat_cmp name k.items) ≡ true → test k ≡ false
      apart e k h = ap (λ (q : List ℕ). is_eq (slice_cmp nat_cmp other q)) (sym (same_name name k.items h)) ∙ sym (texts_ties other name) ∙ nat_list_eq_equiv.symm other name ∙ e

      by : (b : Bool) → bytes_eq name other ≡ b → get (pointwise nat_eq) (named_entries new) other ≡ (if b then w else get (pointwise nat_eq) (named_entries old) other)
      by true e = ap (get (pointwise nat_eq) (named_entries new)) (sym ((bytes_decides name other).0 e)) ∙ sym (found new name) ∙ u.1
      by false e = sym (found new other) ∙ others_kept _ _ old.entries new.entries u.3 test is_test (apart e) ∙ found old other

  -- what is kept under a name, by the order of names
  pub got : (table : HashMap (List ℕ) X (Unit {0})) (m : BTreeMap (Vec ℕ Global) X) (name given : List ℕ) (r : Option X) → named_entries m ≡ table
      → r ≡ get_by (λ k. slice_cmp nat_cmp given k.items) m → given ≡ name → r ≡ get (pointwise nat_eq) table name
  got table m name given r is e n =
      e ∙ ap (λ (q : List ℕ). get_by (λ k. slice_cmp nat_cmp q k.items) m) n ∙ found m name ∙ ap (λ (t : HashMap (List ℕ) X (Unit {0})). get (pointwise nat_eq) t name) is

  -- what is kept under each name, once the entry of one has changed
  pub put : (table : HashMap (List ℕ) X (Unit {0})) (old new : BTreeMap (Vec ℕ Global) X) (name given : List ℕ) (w : Option X) → named_entries old ≡ table
      → UpdatesBy (λ a b. slice_cmp nat_cmp a.items b.items) (λ k. slice_cmp nat_cmp given k.items) old new w → given ≡ name
      → (other : List ℕ) → get (pointwise nat_eq) (named_entries new) other ≡ (if bytes_eq name other then w else get (pointwise nat_eq) table other)
  put table old new name given w is u n other =
      updated old new given w u other
      ∙ ap (λ (q : List ℕ). if bytes_eq q other then w else get (pointwise nat_eq) (named_entries old) other) n
      ∙ ap (λ (t : HashMap (List ℕ) X (Unit {0})). if bytes_eq name other then w else get (pointwise nat_eq) t other) is

  some_of_two : (b : Bool) (x : X) (o : Option X) → is_some (cond b (Some x) o) ≡ (b || is_some o)
  some_of_two true x o = refl
  some_of_two false x o = refl

  has_key : (name : List ℕ) (es : List (List ℕ × X)) → is_some (lookup (pointwise nat_eq name) es) ≡ list_any (pointwise nat_eq name) (keys_of es)
  has_key name [] = refl
  has_key name (e ∷ es) =
      some_of_two (pointwise nat_eq name e.0) e.1 (lookup (pointwise nat_eq name) es) ∙ ap (λ t. pointwise nat_eq name e.0 || t) (has_key name es)

  module _ {S : Type 0} (m : HashMap (List ℕ) X S) (set : HashSet (List ℕ) S) (is : key_set m ≡ set) where
    -- a set has the names under which something is kept
    pub has_name : (name : List ℕ) → is_some (get (pointwise nat_eq) m name) ≡ contains (pointwise nat_eq) set name
    has_name name = has_key name m.entries ∙ ap (λ (s : HashSet (List ℕ) S). contains (pointwise nat_eq) s name) is

    -- a name is new where nothing was kept under it
    pub is_new : (name : List ℕ) (o : Option X) (r : Bool) → o ≡ get (pointwise nat_eq) m name → is_some o ≡ not r → r ≡ not (contains (pointwise nat_eq) set name)
    is_new name o r e h = not_twice r ∙ ap not (sym h) ∙ ap (λ p. not (is_some p)) e ∙ ap not (has_name name)

    -- what a set has once something is kept under a further name
    pub has_further : (new : HashMap (List ℕ) X S) (name : List ℕ) (x : X)
        → ((other : List ℕ) → get (pointwise nat_eq) new other ≡ (if bytes_eq name other then Some x else get (pointwise nat_eq) m other))
        → (other : List ℕ) → contains (pointwise nat_eq) (key_set new) other ≡ (bytes_eq name other || contains (pointwise nat_eq) set other)
    has_further new name x e other =
        sym (has_key other new.entries) ∙ ap is_some (e other) ∙ some_of_two (bytes_eq name other) x (get (pointwise nat_eq) m other)
        ∙ ap (λ t. bytes_eq name other || t) (has_name other)
