-- The tables of the store that the parts of a source mention, where a test tells which names are known.
use Rattle.std.proofs.Common.{◌≡◌, ◌+◌, ℕ, Bool, true, false, not, ◌||◌, ◌&&◌, List, [], ◌∷◌, ◌++◌, bytes_eq, nat_eq, refl, sym, ap, ◌∙◌, add-one, append_assoc}
use Rattle.std.specs.Prelude.{if◌then◌else◌, codes, filter, map}
use Rattle.std.proofs.lemmas.List.Folds.{list_any-append}
use Rattle.std.proofs.Math.Dec.{eqb-suc-zero}
use Rattle.ds2_tree.specs.Units.{SourcePart}
use Rattle.ds2_tree.specs.declared.units.OutputTable as source_output
use Rattle.ds2_meaning.specs.ProgramTree.{is_listed}
use Rattle.ds2_meaning.specs.declared.readings.MentionedTable.{MentionedTable}
use Rattle.ds2_names.specs.SourceLimits.{mentioned_table, is_stored, first_mentions, store_tables, tables_made_by, tables_of_store, globals_in, outputs_in, data_programs_in}
use Rattle.ds2_names.specs.SourceUnit.{PlacedName, names_alone, spelled_name}
use Rattle.ds2_scope.proofs.SetLemmas.{either_moved, or_false}
use Rattle.ds2_source.specs.InputTables.{first_not_known, tables_in_part, names_made_by_outputs, known_behind}
use Rattle.ds2_source.proofs.FirstMentions.{known_or_new}

-- a name that programs make is none of the store
is_above : (n : ℕ) → nat_eq (n + 1) 0 ≡ false
is_above n = ap (λ k. nat_eq k 0) (add-one n) ∙ eqb-suc-zero n

abbrev choose : Bool → MentionedTable → MentionedTable → MentionedTable
choose t a b = if t then a else b

module _ (n : ℕ) (made : List MentionedTable) (name : List ℕ) where
  abbrev made_here : List ℕ → MentionedTable
  made_here own = record { name = own; maker = n + 1 }

  stored_behind_names : (names : List (List ℕ)) → is_stored (map made_here names ++ made) name ≡ (not (is_listed names name) && is_stored made name)
  stored_behind_names [] = refl
  stored_behind_names (own ∷ names) = by (bytes_eq own name) (stored_behind_names names)
    where
      by : (here : Bool) → is_stored (map made_here names ++ made) name ≡ (not (is_listed names name) && is_stored made name)
          → nat_eq (choose here (made_here own) (mentioned_table (map made_here names ++ made) name)).maker 0 ≡ (not (here || is_listed names name) && is_stored made name)
      by true h = is_above n
      by false h = h

-- the tables of a part that are of the store and are not known yet
stored_first : (made : List MentionedTable) (seen : List (List ℕ)) (known : List ℕ → Bool) → ((name : List ℕ) → known name ≡ (not (is_stored made name) || is_listed seen name)) → (tables : List PlacedName)
    → first_mentions seen (filter (λ (t : PlacedName). is_stored made t.name) tables) ≡ first_not_known known tables
stored_first made seen known h [] = refl
stored_first made seen known h (t ∷ tables) =
    by (is_stored made t.name) (is_listed seen t.name) (known t.name) refl (h t.name) (stored_first made seen known h tables)
    (stored_first made (t.name ∷ seen) (λ name. bytes_eq t.name name || known name)
    (λ name. ap (λ k. bytes_eq t.name name || k) (h name) ∙ moved (bytes_eq t.name name) (not (is_stored made name)) (is_listed seen name)) tables)
  where
    moved : (a b c : Bool) → (a || (b || c)) ≡ (b || (a || c))
    moved true true c = refl
    moved true false c = refl
    moved false b c = refl

    rest : List PlacedName
    rest = filter (λ (x : PlacedName). is_stored made x.name) tables

    by : (stored listed k : Bool) → is_listed seen t.name ≡ listed → k ≡ (not stored || listed) → first_mentions seen rest ≡ first_not_known known tables
        → first_mentions (t.name ∷ seen) rest ≡ first_not_known (λ name. bytes_eq t.name name || known name) tables
        → first_mentions seen (if stored then t ∷ rest else rest) ≡ (if k then first_not_known known tables else t ∷ first_not_known (λ name. bytes_eq t.name name || known name) tables)
    by false listed true l e same new = same
    by false listed false l e same new = absurd (cc e)
    by true true true l e same new = ap (λ x. if x then first_mentions seen rest else t ∷ first_mentions (t.name ∷ seen) rest) l ∙ same
    by true true false l e same new = absurd (cc e)
    by true false true l e same new = absurd (cc e)
    by true false false l e same new = ap (λ x. if x then first_mentions seen rest else t ∷ first_mentions (t.name ∷ seen) rest) l ∙ ap (λ r. t ∷ r) new

-- what is known behind a part of a source
module _ (n : ℕ) (made : List MentionedTable) (seen : List (List ℕ)) (known : List ℕ → Bool) (h : (name : List ℕ) → known name ≡ (not (is_stored made name) || is_listed seen name)) (part : SourcePart) where
  abbrev pub own : List PlacedName
  own = first_mentions seen (tables_of_store made (globals_in part))

  pub own_is : own ≡ first_not_known known (tables_in_part part)
  own_is = stored_first made seen known h (tables_in_part part)

  in_order : (m s l k : Bool) → (m || (l || (not s || k))) ≡ (not (not m && s) || (l || k))
  in_order true s l k = refl
  in_order false true l k = refl
  in_order false false true k = refl
  in_order false false false k = refl

  pub known_is : (name : List ℕ) → known_behind known part name ≡ (not (is_stored (tables_made_by (n + 1) (outputs_in part) ++ made) name) || is_listed (names_alone own ++ seen) name)
  known_is name =
      ap (λ x. is_listed (names_made_by_outputs (outputs_in part)) name || x) (known_or_new name known (tables_in_part part))
      ∙ (λ i. is_listed (names_made_by_outputs (outputs_in part)) name || (is_listed (names_alone (sym own_is i)) name || h name i))
      ∙ in_order (is_listed (names_made_by_outputs (outputs_in part)) name) (is_stored made name) (is_listed (names_alone own) name) (is_listed seen name)
      ∙ sym (λ i. not (stored_behind_names n made name (names_made_by_outputs (outputs_in part)) i) || list_any-append (λ other. bytes_eq other name) (names_alone own) seen i)

-- the tables of the store that parts of a source mention, each at its first mention, without those that a test knows
abbrev pub stored_behind : (List ℕ → Bool) → List SourcePart → List PlacedName
stored_behind known [] = []
stored_behind known (part ∷ parts) = first_not_known known (tables_in_part part) ++ stored_behind (known_behind known part) parts

pub stored_are : (n : ℕ) (made : List MentionedTable) (seen : List (List ℕ)) (known : List ℕ → Bool) → ((name : List ℕ) → known name ≡ (not (is_stored made name) || is_listed seen name)) → (parts : List SourcePart)
    → store_tables n made seen parts ≡ stored_behind known parts
stored_are n made seen known h [] = refl
stored_are n made seen known h (part ∷ parts) =
    (λ i.
    own_is n made seen known h part i
    ++ stored_are (n + data_programs_in part) (tables_made_by (n + 1) (outputs_in part) ++ made) (names_alone (own n made seen known h part) ++ seen) (known_behind known part)
    (known_is n made seen known h part) parts i)

-- ---- steps of the code

-- where nothing is known at first
pub none_known : (known : List ℕ → Bool) → ((name : List ℕ) → known name ≡ false) → (parts : List SourcePart) → stored_behind known parts ≡ store_tables 0 [] [] parts
none_known known h parts = sym (stored_are 0 [] [] known h parts)

-- a part more, before further ones
pub one_part : (known behind : List ℕ → Bool) (first next : List PlacedName) (part : SourcePart) (parts : List SourcePart) → ((name : List ℕ) → behind name ≡ known_behind known part name)
    → next ≡ first ++ first_not_known known (tables_in_part part) → next ++ stored_behind behind parts ≡ first ++ stored_behind known (part ∷ parts)
one_part known behind first next part parts k e =
    (λ i. e i ++ stored_behind (λ name. k name i) parts)
    ∙ append_assoc first (first_not_known known (tables_in_part part)) (stored_behind (known_behind known part) parts)

-- ---- outputs

module _ (o : source_output.OutputTable) (name : List ℕ) (k : Bool) where
  -- `_null_` is no table
  pub null_output : bytes_eq (spelled_name o.table) (codes "_null_") ≡ true → k ≡ (is_listed (names_made_by_outputs (o ∷ [])) name || k)
  null_output e = sym (ap (λ t. is_listed (if not t then spelled_name o.table ∷ [] else []) name || k) e)

  -- any other output is one
  pub other_output : bytes_eq (spelled_name o.table) (codes "_null_") ≡ false → (bytes_eq (spelled_name o.table) name || k) ≡ (is_listed (names_made_by_outputs (o ∷ [])) name || k)
  other_output e =
      sym (ap (λ t. is_listed (if not t then spelled_name o.table ∷ [] else []) name || k) e ∙ ap (λ t. t || k) (or_false (bytes_eq (spelled_name o.table) name)))

  -- one output more, before further ones
  pub one_output : (rest : List source_output.OutputTable) → (is_listed (names_made_by_outputs (o ∷ rest)) name || k) ≡ (is_listed (names_made_by_outputs rest) name || (is_listed (names_made_by_outputs (o ∷ [])) name || k))
  one_output rest = by (bytes_eq (spelled_name o.table) (codes "_null_"))
    where
      by : (null : Bool) → (is_listed (if not null then spelled_name o.table ∷ names_made_by_outputs rest else names_made_by_outputs rest) name || k)
          ≡ (is_listed (names_made_by_outputs rest) name || (is_listed (if not null then spelled_name o.table ∷ [] else []) name || k))
      by true = refl
      by false =
          either_moved (bytes_eq (spelled_name o.table) name) (is_listed (names_made_by_outputs rest) name) k
          ∙ ap (λ t. is_listed (names_made_by_outputs rest) name || (t || k)) (sym (or_false (bytes_eq (spelled_name o.table) name)))
