-- The tables that code names, program by program.
use Rattle.std.proofs.Common.{◌≡◌, ◌∙◌, ◌&&◌, ◌||◌, ◌==◌, ◌-◌, Bool, true, false, not, bytes_eq, ℕ, List, [], ◌∷◌, ◌++◌, map, slice_get, unwrap_or, Option, Some, None, refl, sym, ap, subst, append_assoc}
use Rattle.std.specs.Prelude.{if◌then◌else◌}
use Rattle.std.specs.List.{AllByRecursion}
use Rattle.std.proofs.lemmas.List.{append-nil}
use Rattle.std.proofs.lemmas.Slice.Eq.{bytes_eq-Decides}
use Rattle.ds2_table.specs.Table.{Contents, IsTable}
use Rattle.ds2_code.specs.declared.parts.HashPart.{HashPart}
use Rattle.ds2_code.specs.declared.parts.HashTable.{HashTable}
use Rattle.ds2_code.specs.declared.parts.ProgramParts.{ProgramParts}
use Rattle.ds2_code.specs.declared.parts.StagedParts.{StagedParts}
use Rattle.ds2_code.specs.declared.parts.TableReference.{TableReference}
use Rattle.ds2_code_answer.specs.CodeTables.{hash_references, program_references, reading_references, with_loaded_table}
use Rattle.ds2_answer.specs.HeldTables.{HeldTables, NamedTable, contents_named, table_held}
use Rattle.ds2_answer.specs.ObjectPlans.{first_referred, known_too, new_name, references_of}
use Rattle.ds2_store_steps.specs.CodeReferences.{IsKeptName, known_behind_references}

pub both_hold : (a b : Bool) → (a && b) ≡ true → (a ≡ true) × (b ≡ true)
both_hold true b h = (refl, h)
both_hold false b h = absurd (cc h)

-- ---- the references of code

-- the table of one hash object, and those of others
pub loaded_then : (loaded : Option HashTable) (others : List TableReference) → with_loaded_table loaded others ≡ with_loaded_table loaded [] ++ others
loaded_then None others = refl
loaded_then (Some table) others = refl

-- the references of one hash object more
pub hash_more : (before added whole : List TableReference) (left after : List HashPart) (first : HashPart) → left ≡ first ∷ after → added ≡ before ++ with_loaded_table first.loaded []
    → before ++ hash_references left ≡ whole → added ++ hash_references after ≡ whole
hash_more before added whole left after first is added_is so_far =
    ap (λ (rs : List TableReference). rs ++ hash_references after) added_is
    ∙ append_assoc before (with_loaded_table first.loaded []) (hash_references after)
    ∙ ap (λ (rs : List TableReference). before ++ rs) (sym (loaded_then first.loaded (hash_references after)))
    ∙ ap (λ (hs : List HashPart). before ++ hash_references hs) (sym is)
    ∙ so_far

-- the references of the hash objects of a program, and those of the thread program that it reads from
pub stage_more : (before added whole : List TableReference) (program stage : ProgramParts) (left after : List ProgramParts) → left ≡ stage ∷ after → added ≡ before ++ hash_references program.hashes
    → before ++ program_references program left ≡ whole → added ++ program_references stage after ≡ whole
stage_more before added whole program stage left after is added_is so_far =
    ap (λ (rs : List TableReference). rs ++ program_references stage after) added_is
    ∙ append_assoc before (hash_references program.hashes) (program_references stage after)
    ∙ ap (λ (ps : List ProgramParts). before ++ program_references program ps) (sym is)
    ∙ so_far

-- those of a program that reads from no thread program
pub own_done : (before added more whole : List TableReference) (program : ProgramParts) → added ≡ before ++ hash_references program.hashes → more ≡ added ++ reading_references program.reading
    → before ++ program_references program [] ≡ whole → more ≡ whole
own_done before added more whole program added_is more_is so_far =
    more_is
    ∙ ap (λ (rs : List TableReference). rs ++ reading_references program.reading) added_is
    ∙ append_assoc before (hash_references program.hashes) (reading_references program.reading)
    ∙ so_far

-- those of one program more
pub code_more : (before added whole : List TableReference) (left after : List StagedParts) (code parts : StagedParts) → left ≡ code ∷ after → parts ≡ code
    → added ≡ before ++ program_references parts.program parts.stages → before ++ references_of left ≡ whole → added ++ references_of after ≡ whole
code_more before added whole left after code parts is parts_are added_is so_far =
    ap (λ (rs : List TableReference). rs ++ references_of after) (added_is ∙ ap (λ (c : StagedParts). before ++ program_references c.program c.stages) parts_are)
    ∙ append_assoc before (program_references code.program code.stages) (references_of after)
    ∙ ap (λ (cs : List StagedParts). before ++ references_of cs) (sym is)
    ∙ so_far

-- ---- names of tables of the store

pub first_in_parts : (known : List ℕ → Bool) (some others : List TableReference) → first_referred known (some ++ others) ≡ first_referred known some ++ first_referred (known_behind_references known some) others
first_in_parts known [] others = refl
first_in_parts known (r ∷ some) others =
    ap (λ (names : List (List ℕ)). new_name known r ++ names) (first_in_parts (known_too r known) some others)
    ∙ sym (append_assoc (new_name known r) (first_referred (known_too r known) some) (first_referred (known_behind_references (known_too r known) some) others))

pub known_in_parts : (known : List ℕ → Bool) (some others : List TableReference) (name : List ℕ) → known_behind_references known (some ++ others) name ≡ known_behind_references (known_behind_references known some) others name
known_in_parts known [] others name = refl
known_in_parts known (r ∷ some) others name = known_in_parts (known_too r known) some others name

-- references that were gone through so far: their names were added, and others are left
pub record NamedSoFar (known : List ℕ → Bool) (before : List (List ℕ)) (all left : List TableReference) (now_known : List ℕ → Bool) (names : List (List ℕ)) : Type 0 where
  pub done : List TableReference
  pub all_are : all ≡ done ++ left
  pub known_are : (name : List ℕ) → now_known name ≡ known_behind_references known done name
  pub names_are : names ≡ before ++ first_referred known done

pub naming_begins : (known now_known : List ℕ → Bool) (before names : List (List ℕ)) (all : List TableReference) → ((name : List ℕ) → now_known name ≡ known name) → names ≡ before → NamedSoFar known before all all now_known names
naming_begins known now_known before names all is same = record { done = []; all_are = refl; known_are = is; names_are = same ∙ sym (append-nil before) }

pub named_more : (known now_known behind : List ℕ → Bool) (before names more : List (List ℕ)) (all left some after : List TableReference) → left ≡ some ++ after → NamedSoFar known before all left now_known names
    → ((name : List ℕ) → behind name ≡ known_behind_references now_known some name) → more ≡ names ++ first_referred now_known some → NamedSoFar known before all after behind more
named_more known now_known behind before names more all left some after left_is so_far behind_is more_is =
    let known_is : first_referred now_known some ≡ first_referred (known_behind_references known so_far.done) some = λ i. first_referred (λ name. so_far.known_are name i) some in
    record {
      done = so_far.done ++ some;
      all_are = so_far.all_are ∙ ap (λ (x : List TableReference). so_far.done ++ x) left_is ∙ sym (append_assoc so_far.done some after);
      known_are = λ name.
          behind_is name
          ∙ (λ i. known_behind_references (λ other. so_far.known_are other i) some name)
          ∙ sym (known_in_parts known so_far.done some name);
      names_are = more_is
          ∙ ap (λ (x : List (List ℕ)). x ++ first_referred now_known some) so_far.names_are
          ∙ append_assoc before (first_referred known so_far.done) (first_referred now_known some)
          ∙ ap (λ (x : List (List ℕ)). before ++ x) (ap (λ (x : List (List ℕ)). first_referred known so_far.done ++ x) known_is ∙ sym (first_in_parts known so_far.done some));
    }

pub named_all : (known now_known : List ℕ → Bool) (before names : List (List ℕ)) (all left : List TableReference) → left ≡ [] → NamedSoFar known before all left now_known names
    → ((name : List ℕ) → now_known name ≡ known_behind_references known all name) × (names ≡ before ++ first_referred known all)
named_all known now_known before names all left none so_far =
    let all_are : all ≡ so_far.done = so_far.all_are ∙ ap (λ (x : List TableReference). so_far.done ++ x) none ∙ append-nil so_far.done in (
      λ name. so_far.known_are name ∙ ap (λ (rs : List TableReference). known_behind_references known rs name) (sym all_are),
      so_far.names_are ∙ ap (λ (rs : List TableReference). before ++ first_referred known rs) (sym all_are),
    )

-- ---- one reference

-- a table of a program is no input
pub made_reference : (known : List ℕ → Bool) (r : TableReference) → (r.maker == 0) ≡ false → ((name : List ℕ) → known name ≡ known_behind_references known (r ∷ []) name) × ([] ≡ first_referred known (r ∷ []))
made_reference known r is = (
  λ name. ap (λ (b : Bool). (b && bytes_eq r.name name) || known name) (sym is),
  ap (λ (b : Bool). (if b && not (known r.name) then r.name ∷ [] else []) ++ []) (sym is),
)

-- a table of the store is known behind its reference
pub store_known : (known now_known : List ℕ → Bool) (r : TableReference) → (r.maker == 0) ≡ true → ((name : List ℕ) → now_known name ≡ (bytes_eq r.name name || known name))
    → (name : List ℕ) → now_known name ≡ known_behind_references known (r ∷ []) name
store_known known now_known r is now name = now name ∙ ap (λ (b : Bool). (b && bytes_eq r.name name) || known name) (sym is)

-- and its name is added where it was not known
pub store_named : (known : List ℕ → Bool) (r : TableReference) (is_new : Bool) → (r.maker == 0) ≡ true → is_new ≡ not (known r.name) → (if is_new then r.name ∷ [] else []) ≡ first_referred known (r ∷ [])
store_named known r is_new is new =
    ap (λ (b : Bool). if b then r.name ∷ [] else []) (new ∙ ap (λ (b : Bool). b && not (known r.name)) (sym is))
    ∙ sym (append-nil (new_name known r))

-- ---- tables that are held

-- the table of a reference to a table of the store
pub stored_referred : (held : HeldTables) (r : TableReference) → (r.maker == 0) ≡ true → contents_named held.stored r.name ≡ table_held held r
stored_referred held r is = ap (λ (b : Bool). contents_named (if b then held.stored else unwrap_or (slice_get held.made (r.maker - 1)) []) r.name) (sym is)

-- the table of a reference to a table that a program has made
pub made_referred : (held : HeldTables) (r : TableReference) (tables : List NamedTable) → (r.maker == 0) ≡ false → unwrap_or (slice_get held.made (r.maker - 1)) [] ≡ tables
    → contents_named tables r.name ≡ table_held held r
made_referred held r tables is tables_are =
    ap (λ (ts : List NamedTable). contents_named ts r.name) (sym tables_are)
    ∙ ap (λ (b : Bool). contents_named (if b then held.stored else unwrap_or (slice_get held.made (r.maker - 1)) []) r.name) (sym is)

-- ---- one reference more

-- the name of a table of the store was gone through
pub named_reference : (known now_known behind : List ℕ → Bool) (before names more : List (List ℕ)) (all left after : List TableReference) (r : TableReference) → left ≡ r ∷ after → NamedSoFar known before all left now_known names
    → ((name : List ℕ) → behind name ≡ known_behind_references now_known (r ∷ []) name) → more ≡ names ++ first_referred now_known (r ∷ []) → NamedSoFar known before all after behind more
named_reference known now_known behind before names more all left after r is so_far behind_is more_is =
    named_more known now_known behind before names more all left (r ∷ []) after is so_far behind_is more_is

-- the table of one reference more
pub referred_more : (held : HeldTables) (tables behind : List Contents) (left after : List TableReference) (r : TableReference) (t : Contents) (whole : List Contents) → left ≡ r ∷ after → t ≡ table_held held r → behind ≡ tables ++ t ∷ []
    → tables ++ map (table_held held) left ≡ whole → behind ++ map (table_held held) after ≡ whole
referred_more held tables behind left after r t whole is t_is behind_is so_far =
    let others : List Contents = map (table_held held) after in
    ap (λ (ts : List Contents). ts ++ others) (behind_is ∙ ap (λ (x : Contents). tables ++ x ∷ []) t_is)
    ∙ append_assoc tables (table_held held r ∷ []) others
    ∙ ap (λ (rs : List TableReference). tables ++ map (table_held held) rs) (sym is)
    ∙ so_far

-- ---- names of tables that programs make

-- of some references those that were gone through name tables of a set, where programs make them
pub record KeptSoFar (all left : List TableReference) (kept : List ℕ → Bool) : Type 0 where
  pub done : List TableReference
  pub all_are : all ≡ done ++ left
  pub are : AllByRecursion (IsKeptName kept) done

pub keeping_begins : (all : List TableReference) (kept : List ℕ → Bool) → KeptSoFar all all kept
keeping_begins all kept = record { done = []; all_are = refl; are = tt }

still_kept : (kept more : List ℕ → Bool) (done : List TableReference) → ((name : List ℕ) → kept name ≡ true → more name ≡ true) → AllByRecursion (IsKeptName kept) done → AllByRecursion (IsKeptName more) done
still_kept kept more [] grown are = tt
still_kept kept more (r ∷ done) grown (first, are) = (λ is. grown r.name (first is), still_kept kept more done grown are)

kept_behind : (kept : List ℕ → Bool) (done : List TableReference) (r : TableReference) → AllByRecursion (IsKeptName kept) done → IsKeptName kept r → AllByRecursion (IsKeptName kept) (done ++ r ∷ [])
kept_behind kept [] r are is = (is, tt)
kept_behind kept (x ∷ done) r (first, are) is = (first, kept_behind kept done r are is)

kept_more : (all left after : List TableReference) (r : TableReference) (kept more : List ℕ → Bool) → left ≡ r ∷ after → ((name : List ℕ) → kept name ≡ true → more name ≡ true) → IsKeptName more r → KeptSoFar all left kept
    → KeptSoFar all after more
kept_more all left after r kept more is grown new so_far = record {
  done = so_far.done ++ r ∷ [];
  all_are = so_far.all_are ∙ ap (λ (rs : List TableReference). so_far.done ++ rs) is ∙ sym (append_assoc so_far.done (r ∷ []) after);
  are = kept_behind more so_far.done r (still_kept kept more so_far.done grown so_far.are) new;
}

never : (b : Bool) → b ≡ true → b ≡ false → ⊥
never true h k = absurd (cc k)
never false h k = absurd (cc h)

-- a table of the store adds no name
pub kept_without : (all left after : List TableReference) (r : TableReference) (kept : List ℕ → Bool) → left ≡ r ∷ after → (r.maker == 0) ≡ true → KeptSoFar all left kept → KeptSoFar all after kept
kept_without all left after r kept is stored so_far = kept_more all left after r kept kept is (λ name h. h) (λ made. absurd (never (r.maker == 0) stored made)) so_far

-- a table that a program makes adds its name
pub kept_another : (all left after : List TableReference) (r : TableReference) (kept more : List ℕ → Bool) → left ≡ r ∷ after → ((name : List ℕ) → more name ≡ (bytes_eq r.name name || kept name)) → KeptSoFar all left kept
    → KeptSoFar all after more
kept_another all left after r kept more is grown so_far =
    kept_more all left after r kept more is (λ name h. grown name ∙ or_true (bytes_eq r.name name) (kept name) h) (λ made. grown r.name ∙ ap (λ (b : Bool). b || kept r.name) ((bytes_eq-Decides r.name r.name).1 refl)) so_far
  where
    or_true : (a b : Bool) → b ≡ true → (a || b) ≡ true
    or_true true b h = refl
    or_true false b h = h

-- all references were gone through
pub kept_all : (all left : List TableReference) (kept : List ℕ → Bool) → left ≡ [] → KeptSoFar all left kept → AllByRecursion (IsKeptName kept) all
kept_all all left kept none so_far =
    subst (λ (rs : List TableReference). AllByRecursion (IsKeptName kept) rs) (sym (so_far.all_are ∙ ap (λ (rs : List TableReference). so_far.done ++ rs) none ∙ append-nil so_far.done)) so_far.are

-- ---- tables one behind the other

pub none_whole : (tables : List Contents) → tables ≡ [] → AllByRecursion IsTable tables
none_whole tables none = subst (λ (ts : List Contents). AllByRecursion IsTable ts) (sym none) tt

whole_behind : (tables : List Contents) (table : Contents) → AllByRecursion IsTable tables → IsTable table → AllByRecursion IsTable (tables ++ table ∷ [])
whole_behind [] table all is = (is, tt)
whole_behind (t ∷ tables) table (first, all) is = (first, whole_behind tables table all is)

pub another_whole : (tables behind : List Contents) (table : Contents) → AllByRecursion IsTable tables → IsTable table → behind ≡ tables ++ table ∷ [] → AllByRecursion IsTable behind
another_whole tables behind table all is behind_is = subst (λ (ts : List Contents). AllByRecursion IsTable ts) (sym behind_is) (whole_behind tables table all is)
