-- The tables that a program may read: those of the store, and those that earlier programs make.
use Rattle.std.proofs.Common.{◌≡◌, ◌⊎◌, inl, inr, ◌+◌, ◌-◌, ◌<◌, ◌==◌, ℕ, zero, suc, Bool, true, false, List, [], ◌∷◌, ◌++◌, map, length, slice_get, get_or, Option, Some, None, bytes_eq, cond, refl, sym, ap, subst, ◌∙◌, arith}
use Rattle.std.specs.List.{AllByRecursion}
use Rattle.std.proofs.lemmas.List.{length-append}
use Rattle.std.proofs.lemmas.Option.{slice_get-get_or}
use Rattle.std.proofs.lemmas.Slice.Eq.{bytes_eq-Decides}
use Rattle.std.proofs.Math.Seq.{get_or-append_seam}
use Rattle.ds2_value.specs.Row.{Columns}
use Rattle.ds2_meaning.specs.ProgramMeaning.{output_columns}
use Rattle.ds2_meaning.specs.ProgramTree.{UnitTree}
use Rattle.ds2_meaning.specs.declared.globals.OutputTable.{OutputTable}
use Rattle.ds2_meaning.specs.declared.readings.MentionedTable.{MentionedTable}
use Rattle.ds2_names.specs.SourceLimits.{mentioned_table}
use Rattle.ds2_names.specs.SourceUnit.{TableColumns}
use Rattle.ds2_elaboration.specs.Elaboration.{made_columns}
use Rattle.ds2_elaboration.specs.ElaborationLaws.{StandsAmong}
use Rattle.ds2_compile.specs.TablesBehind.{mention_of_output}

-- among earlier programs the maker of a table has an output of its name with these columns
pub record IsMade (earlier : List UnitTree) (table : MentionedTable) (columns : Columns) : Type 0 where
  pub program : UnitTree
  pub at : slice_get earlier (table.maker - 1) ≡ Some program
  pub output : OutputTable
  pub among : StandsAmong program.outputs output
  pub named : output.name ≡ table.name
  pub columns_are : columns ≡ output_columns output

-- a table is one of the store with the columns that it has there, or an earlier program makes it
abbrev pub IsKnownTable : TableColumns → List UnitTree → MentionedTable → Columns → Type 0
IsKnownTable store earlier table columns =
    ((table.maker ≡ 0) × (columns ≡ store table.name)) ⊎ (((table.maker == 0) ≡ false) × IsMade earlier table columns)

-- each name means a table of that name that is known, with the columns that a program sees
pub record KnowsTables (store tables : TableColumns) (made : List MentionedTable) (earlier : List UnitTree) : Type 0 where
  pub names : (name : List ℕ) → MentionedTable.name (mentioned_table made name) ≡ name
  pub known : (name : List ℕ) → IsKnownTable store earlier (mentioned_table made name) (tables name)

pub store_alone : (store : TableColumns) → KnowsTables store store [] []
store_alone store = record { names = λ name. refl; known = λ name. inl (refl, refl) }

-- ---- one more program

get_before : {A : Type 0} (xs ys : List A) (k : ℕ) (x : A) → slice_get xs k ≡ Some x → slice_get (xs ++ ys) k ≡ Some x
get_before [] ys k x e = absurd (cc e)
get_before (y ∷ xs) ys zero x e = e
get_before (y ∷ xs) ys (suc k) x e = get_before xs ys k x e

get_last : {A : Type 0} (xs : List A) (x : A) → slice_get (xs ++ x ∷ []) (length xs) ≡ Some x
get_last xs x =
    let inside : length xs < length (xs ++ x ∷ []) = omega (arith, length-append xs (x ∷ [])) in
    slice_get-get_or (xs ++ x ∷ []) (length xs) x inside ∙ ap (λ y. Some y) (get_or-append_seam xs x [] x)

pub known_later : (store : TableColumns) (earlier more : List UnitTree) (table : MentionedTable) (columns : Columns) → IsKnownTable store earlier table columns → IsKnownTable store (earlier ++ more) table columns
known_later store earlier more table columns (inl stored) = inl stored
known_later store earlier more table columns (inr (not_stored, made)) =
    inr (
      not_stored,
      record {
        program = made.program;
        at = get_before earlier more (table.maker - 1) made.program made.at;
        output = made.output;
        among = made.among;
        named = made.named;
        columns_are = made.columns_are;
      },
    )

among_more : (o : OutputTable) (outputs some : List OutputTable) → AllByRecursion (StandsAmong outputs) some → AllByRecursion (StandsAmong (o ∷ outputs)) some
among_more o outputs [] all = tt
among_more o outputs (x ∷ some) all = (inr all.0, among_more o outputs some all.1)

among_themselves : (outputs : List OutputTable) → AllByRecursion (StandsAmong outputs) outputs
among_themselves [] = tt
among_themselves (o ∷ outputs) = (inl refl, among_more o outputs outputs (among_themselves outputs))

module _ (store tables : TableColumns) (made : List MentionedTable) (earlier : List UnitTree) (p : UnitTree) (knows : KnowsTables store tables made earlier) where
  own_table : (o : OutputTable) → StandsAmong p.outputs o → IsMade (earlier ++ p ∷ []) (mention_of_output (length earlier + 1) o) (output_columns o)
  own_table o among =
      let number : length earlier + 1 - 1 ≡ length earlier = omega arith in
      record { program = p; at = ap (slice_get (earlier ++ p ∷ [])) number ∙ get_last earlier p; output = o; among = among; named = refl; columns_are = refl }

  number_is_one : (o : OutputTable) → (MentionedTable.maker (mention_of_output (length earlier + 1) o) == 0) ≡ false
  number_is_one o = not_none (length earlier)
    where
      not_none : (n : ℕ) → (n + 1 == 0) ≡ false
      not_none n = grind arith

  outputs_known : (outputs : List OutputTable) → AllByRecursion (StandsAmong p.outputs) outputs
      → KnowsTables store (λ name. made_columns outputs name (tables name)) (map (mention_of_output (length earlier + 1)) outputs ++ made) (earlier ++ p ∷ [])
  outputs_known [] among = record { names = knows.names; known = λ name. known_later store earlier (p ∷ []) (mentioned_table made name) (tables name) (knows.known name) }
  outputs_known (o ∷ outputs) among =
      let others = outputs_known outputs among.1 in
      record {
        names = λ name. names_by name (bytes_eq o.name name) refl (others.names name);
        known = λ name. known_by name (bytes_eq o.name name) (others.known name);
      }
    where
      names_by : (name : List ℕ) (here : Bool) → bytes_eq o.name name ≡ here
          → MentionedTable.name (mentioned_table (map (mention_of_output (length earlier + 1)) outputs ++ made) name) ≡ name
          → MentionedTable.name (cond here (mention_of_output (length earlier + 1) o) (mentioned_table (map (mention_of_output (length earlier + 1)) outputs ++ made) name)) ≡ name
      names_by name true e others = (bytes_eq-Decides o.name name).0 e
      names_by name false e others = others

      known_by : (name : List ℕ) (here : Bool)
          → IsKnownTable store (earlier ++ p ∷ []) (mentioned_table (map (mention_of_output (length earlier + 1)) outputs ++ made) name) (made_columns outputs name (tables name))
          → IsKnownTable store (earlier ++ p ∷ []) (cond here (mention_of_output (length earlier + 1) o) (mentioned_table (map (mention_of_output (length earlier + 1)) outputs ++ made) name))
          (cond here (output_columns o) (made_columns outputs name (tables name)))
      known_by name true others = inr (number_is_one o, own_table o among.0)
      known_by name false others = others

  -- behind a program its tables are known too
  pub behind_program : KnowsTables store (λ name. made_columns p.outputs name (tables name)) (map (mention_of_output (length earlier + 1)) p.outputs ++ made) (earlier ++ p ∷ [])
  behind_program = outputs_known p.outputs (among_themselves p.outputs)
