-- Files that were read, and what is read behind them.
use Rattle.std.proofs.Common.{◌≡◌, ◌≢◌, ◌⊎◌, ◌≤◌, ◌-◌, ◌∙◌, ◌&&◌, IsTrue, if◌then◌else◌, inl, inr, Bool, true, false, ℕ, List, [], ◌∷◌, ◌++◌, length, drop, take, codes, nat_eq, map, Option, Some, None, Result, Ok, Err, IfSome, refl, ap, subst, arith, length-append}
use Rattle.std.specs.Cmp.{tied_itself}
use Rattle.std.specs.Cmp.Lexicographic.{nat_list_cmp_total, pointwise}
use Rattle.std.specs.FinMap.{get-insert}
use Rattle.std.specs.Ordering.{is_eq}
use Rattle.std.proofs.lemmas.Bool.{le-ltb}
use Rattle.std.proofs.lemmas.Bool.Decides.{Decides-eqb}
use Rattle.std.proofs.lemmas.Slice.Eq.{ends_is}
use Rattle.ds2_table.specs.Table.{Contents}
use Rattle.ds2_csv.specs.Reads.{reads}
use Rattle.ds2_outside.specs.Files.{Files, file, with_file}
use Rattle.ds2_compile.specs.TableReference.{TableReference}
use Rattle.ds2_answer.specs.declared.kinds.FileKind.{FileKind}
use Rattle.ds2_answer.specs.declared.kinds.FileKind.TheVariants.{TooLarge}
use Rattle.ds2_answer.specs.declared.kinds.TheConstants.{TABLE_LIMIT}
use Rattle.ds2_answer.specs.Answer.{table_file}
use Rattle.ds2_answer.specs.CommandLines.{is_object_name}
use Rattle.ds2_answer.specs.HeldTables.{NamedTable}
use Rattle.ds2_answer.specs.Load.{within_limit}
use Rattle.ds2_answer.specs.Plan.{Plan, ReadsFile, each_in_turn}
use Rattle.ds2_answer.specs.TablePlans.{read_file, read_table, read_tables, with_bytes, with_read_table}
use Rattle.ds2_answer.specs.Words.{is_file_name, is_source}
use Rattle.ds2_store_steps.specs.FileReads.{WasFileRead}
use Rattle.ds2_store_steps.specs.Halts.{LeadsOn}
use Rattle.ds2_store_steps.proofs.FileSteps.{other_bytes}
use Rattle.ds2_store_steps.proofs.Leading.{leads_none}

-- ---- a file that was read

own_bytes : (files : Files) (name bytes : List ℕ) → file (with_file files name bytes) name ≡ Some bytes
own_bytes files name bytes =
    get-insert nat_list_cmp_total files name bytes name
    ∙ ap (λ r. if is_eq r then Some bytes else file files name) (tied_itself nat_list_cmp_total name)

is_within : (limit : ℕ) (bytes : List ℕ) → length bytes ≤ limit → within_limit limit (Some bytes) ≡ Ok bytes
is_within limit bytes few = ap (λ (b : Bool). if b then Err TooLarge else Ok bytes) (le-ltb limit (length bytes) few)

-- files in which a file that was read stands, and which are otherwise those that the rest is done over
pub record HoldsFile (limit : ℕ) (name : List ℕ) (told : Option Files) (bytes : List ℕ) (inner : Files) : Type 0 where
  pub files : Files
  pub told_is : IfSome told (λ held. held ≡ files)
  pub found : within_limit limit (file files name) ≡ Ok bytes
  pub files_are : (files ≡ inner) ⊎ (files ≡ with_file inner name bytes)

pub holds_file : (limit : ℕ) (name : List ℕ) (told between : Option Files) (bytes : List ℕ) (inner : Files) → WasFileRead limit name told bytes → between ≡ told → IfSome between (λ held. held ≡ inner)
    → HoldsFile limit name told bytes inner
holds_file limit name None between bytes inner read same told = record {
  files = with_file inner name bytes;
  told_is = tt;
  found = ap (within_limit limit) (own_bytes inner name bytes) ∙ is_within limit bytes read.within;
  files_are = inr refl;
}
holds_file limit name (Some held) between bytes inner read same told = record {
  files = held;
  told_is = refl;
  found = ap (within_limit limit) read.held ∙ is_within limit bytes read.within;
  files_are = inl (subst (λ (f : Option Files). IfSome f (λ h. h ≡ inner)) same told);
}

-- what is the same whatever the file holds is that over the rest
pub same_over : {A : Type 0} (limit : ℕ) (name : List ℕ) (told : Option Files) (bytes : List ℕ) (inner : Files) (h : HoldsFile limit name told bytes inner) (of : Files → A)
    → of (with_file inner name bytes) ≡ of inner → of h.files ≡ of inner
same_over limit name told bytes inner h of same = by h.files_are
  where
    by : (h.files ≡ inner) ⊎ (h.files ≡ with_file inner name bytes) → of h.files ≡ of inner
    by (inl e) = ap of e
    by (inr e) = ap of e ∙ same

-- a plan that reads the file goes on with its bytes
pub file_found : (limit : ℕ) (name : List ℕ) (files : Files) (bytes : List ℕ) (go : List ℕ → Plan) → within_limit limit (file files name) ≡ Ok bytes → read_file limit name files go ≡ ReadsFile name (go bytes)
file_found limit name files bytes go found = ap (λ (r : Result (List ℕ) FileKind). ReadsFile name (with_bytes name r go)) found

-- ---- reads, one behind the other

pub leads_reads : (names : List (List ℕ)) (rest : Plan) (said : List ℕ) (told : Option Files) → LeadsOn (each_in_turn ReadsFile names rest) rest said told said told
leads_reads [] rest said told = leads_none rest said told
leads_reads (name ∷ names) rest said told =
    let more = leads_reads names rest said told in
    record { ends = λ s t n o. inr (more.ends s t n o); short = λ n o. inr (more.short n o) }

pub reads_append : (names others : List (List ℕ)) (rest : Plan) → each_in_turn ReadsFile names (each_in_turn ReadsFile others rest) ≡ each_in_turn ReadsFile (names ++ others) rest
reads_append [] others rest = refl
reads_append (name ∷ names) others rest = ap (λ (p : Plan). ReadsFile name p) (reads_append names others rest)

pub table_reads : (names : List (List ℕ)) (rest : Plan) → each_in_turn (λ (name : List ℕ) (more : Plan). ReadsFile (table_file name) more) names rest ≡ each_in_turn ReadsFile (map table_file names) rest
table_reads [] rest = refl
table_reads (name ∷ names) rest = ap (λ (p : Plan). ReadsFile (table_file name) p) (table_reads names rest)

-- ---- the file of a table is no source and no object

drop_front : (xs ys : List ℕ) → drop (length xs) (xs ++ ys) ≡ ys
drop_front [] ys = refl
drop_front (x ∷ xs) ys = drop_front xs ys

second_holds : (a b : Bool) → IsTrue (a && b) → IsTrue b
second_holds true b h = h
second_holds false b h = absurd (cc)

tail_is : (table : List ℕ) → drop (length (table ++ codes ".csv") - 4) (table ++ codes ".csv") ≡ codes ".csv"
tail_is table =
    let long : length (table ++ codes ".csv") - 4 ≡ length table = omega (arith, length-append table (codes ".csv")) in
    ap (λ (n : ℕ). drop n (table ++ codes ".csv")) long ∙ drop_front table (codes ".csv")

pub not_a_source : IsTrue (pointwise nat_eq (codes ".ds2") (codes ".csv")) → ⊥
not_a_source is = absurd (cc)

pub not_an_object : IsTrue (pointwise nat_eq (codes ".dso") (codes ".csv")) → ⊥
not_an_object is = absurd (cc)

pub source_ends : (source : List ℕ) → IsTrue (is_source source) → source ≡ take (length source - 4) source ++ codes ".ds2"
source_ends source is = (ends_is Decides-eqb source (codes ".ds2") _ refl).0 (second_holds (is_file_name source) _ is)

pub table_is_no_source : (table : List ℕ) → IsTrue (is_source (table_file table)) → ⊥
table_is_no_source table is =
    let ends : IsTrue (pointwise nat_eq (codes ".ds2") (drop (length (table ++ codes ".csv") - 4) (table ++ codes ".csv"))) = second_holds (is_file_name (table ++ codes ".csv")) _ is in
    not_a_source (subst (λ (end : List ℕ). IsTrue (pointwise nat_eq (codes ".ds2") end)) (tail_is table) ends)

pub table_is_no_object : (table : List ℕ) → IsTrue (is_object_name (table_file table)) → ⊥
table_is_no_object table is =
    let ends : IsTrue (pointwise nat_eq (codes ".dso") (drop (length (table ++ codes ".csv") - 4) (table ++ codes ".csv"))) = second_holds (is_file_name (table ++ codes ".csv")) _ is in
    not_an_object (subst (λ (end : List ℕ). IsTrue (pointwise nat_eq (codes ".dso") end)) (tail_is table) ends)

-- tables are read from the same bytes, whatever another file holds
pub same_tables : (name bytes : List ℕ) → ((table : List ℕ) → table_file table ≢ name) → (references : List TableReference) (names : List (List ℕ)) (before : List NamedTable) (files : Files) (go : List NamedTable → Plan)
    → read_tables references names before (with_file files name bytes) go ≡ read_tables references names before files go
same_tables name bytes unlike references [] before files go = refl
same_tables name bytes unlike references (n ∷ names) before files go =
    let kept : Contents → List NamedTable = λ contents. before ++ record { name = n; contents = contents } ∷ [] in
    let others : (contents : Contents) → read_tables references names (kept contents) (with_file files name bytes) go ≡ read_tables references names (kept contents) files go =
    λ contents. same_tables name bytes unlike references names (kept contents) files go in
    ap (λ (f : Option (List ℕ)). ReadsFile (table_file n) (with_bytes (table_file n) (within_limit TABLE_LIMIT f) (λ b. with_read_table references n (reads b) (λ contents. read_tables references names (kept contents) (with_file files name bytes) go))))
    (other_bytes files name (table_file n) bytes (unlike n))
    ∙ (λ i. read_table references n files (λ contents. others contents i))
