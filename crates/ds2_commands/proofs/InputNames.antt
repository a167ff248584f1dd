-- The names of the tables of a source differ.
use Rattle.std.proofs.Common.{◌≡◌, ℕ, ◌+◌, Bool, true, false, bytes_eq, ◌||◌, List, [], ◌∷◌, ◌++◌, slice_get, Option, Some, None, Result, Ok, Err, refl, sym, ap, subst}
use Rattle.std.specs.Prelude.{if◌then◌else◌}
use Rattle.std.proofs.lemmas.List.{map-append}
use Rattle.std.proofs.lemmas.List.Folds.{list_any-append}
use Rattle.ds2_compile.specs.Units.{SourcePart}
use Rattle.ds2_compile.specs.ProgramTree.{is_listed}
use Rattle.ds2_compile.specs.MentionedTable.{MentionedTable}
use Rattle.ds2_compile.specs.SourceLimits.{first_mentions, store_tables, tables_of_store, tables_made_by, globals_in, outputs_in, data_programs_in}
use Rattle.ds2_compile.specs.SourceUnit.{PlacedName, names_alone}
use Rattle.ds2_compile.specs.InputTables.{source_inputs, names_or_refusal, unless_beyond}
use Rattle.ds2_compile.specs.InputConstants.{MOST_TABLES}
use Rattle.ds2_compile.specs.SourceRefusal.{SourceRefusal}
use Rattle.ds2_store_steps.specs.TableReads.{DifferAll, DifferFrom}

-- two tests that tell the same
same_test : (seen other : List ℕ → Bool) (names : List (List ℕ)) → ((name : List ℕ) → seen name ≡ other name) → DifferFrom seen names → DifferFrom other names
same_test seen other names e are = subst (λ (s : List ℕ → Bool). DifferFrom s names) (λ i name. e name i) are

regrouped : (a b c : Bool) → ((a || b) || c) ≡ (b || (a || c))
regrouped true true c = refl
regrouped true false c = refl
regrouped false b c = refl

joined : (seen : List ℕ → Bool) (front back : List (List ℕ)) → DifferFrom seen front → DifferFrom (λ name. is_listed front name || seen name) back → DifferFrom seen (front ++ back)
joined seen [] back are others = others
joined seen (name ∷ front) back (new, are) others = (
  new,
  joined (λ other. bytes_eq name other || seen other) front back are
      (same_test (λ other. is_listed (name ∷ front) other || seen other) (λ other. is_listed front other || (bytes_eq name other || seen other)) back
      (λ other. regrouped (bytes_eq name other) (is_listed front other) (seen other)) others),
)

first_apart : (seen : List (List ℕ)) (tables : List PlacedName) → DifferFrom (is_listed seen) (names_alone (first_mentions seen tables))
first_apart seen [] = tt
first_apart seen (t ∷ tables) = by (is_listed seen t.name) refl (first_apart seen tables) (first_apart (t.name ∷ seen) tables)
  where
    by : (e : Bool) → is_listed seen t.name ≡ e → DifferFrom (is_listed seen) (names_alone (first_mentions seen tables))
        → DifferFrom (is_listed (t.name ∷ seen)) (names_alone (first_mentions (t.name ∷ seen) tables))
        → DifferFrom (is_listed seen) (names_alone (if e then first_mentions seen tables else t ∷ first_mentions (t.name ∷ seen) tables))
    by true e others more = others
    by false e others more = (e, more)

store_apart : (n : ℕ) (made : List MentionedTable) (seen : List (List ℕ)) (parts : List SourcePart) → DifferFrom (is_listed seen) (names_alone (store_tables n made seen parts))
store_apart n made seen [] = tt
store_apart n made seen (part ∷ parts) =
    let own : List PlacedName = first_mentions seen (tables_of_store made (globals_in part)) in
    let others : List PlacedName = store_tables (n + data_programs_in part) (tables_made_by (n + 1) (outputs_in part) ++ made) (names_alone own ++ seen) parts in
    subst (λ (names : List (List ℕ)). DifferFrom (is_listed seen) names) (sym (map-append (λ (t : PlacedName). t.name) own others))
    (joined (is_listed seen) (names_alone own) (names_alone others) (first_apart seen (tables_of_store made (globals_in part)))
    (same_test (is_listed (names_alone own ++ seen)) (λ name. is_listed (names_alone own) name || is_listed seen name) (names_alone others)
    (λ name. list_any-append (λ other. bytes_eq other name) (names_alone own) seen)
    (store_apart (n + data_programs_in part) (tables_made_by (n + 1) (outputs_in part) ++ made) (names_alone own ++ seen) parts)))

-- the names that are told
abbrev names_told : List (List ℕ) → Result (List (List ℕ)) SourceRefusal → List (List ℕ)
names_told other (Ok names) = names
names_told other (Err refusal) = other

told_apart : (beyond : Option PlacedName) (tables : List PlacedName) (names : List (List ℕ)) → DifferAll (names_alone tables) → unless_beyond beyond tables ≡ Ok names → DifferAll names
told_apart None tables names are e = subst DifferAll (ap (names_told names) e) are
told_apart (Some t) tables names are e = absurd (cc e)

-- the names of the tables that a source reads differ
pub inputs_apart : (parts : List SourcePart) (given names : List (List ℕ)) → names_or_refusal (source_inputs parts) ≡ Ok given → names ≡ given → DifferAll names
inputs_apart parts given names e same =
    subst DifferAll (sym same) (told_apart (slice_get (source_inputs parts) MOST_TABLES) (source_inputs parts) given (store_apart 0 [] [] parts) e)
