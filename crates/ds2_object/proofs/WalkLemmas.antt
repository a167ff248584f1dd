-- Walks over the tables that programs name, each looked up in a set.
use Rattle.std.proofs.Common.{◌≡◌, ℕ, zero, suc, ◌+◌, ◌-◌, ◌==◌, Bool, true, false, ◌&&◌, ◌||◌, IsTrue, List, [], ◌∷◌, ◌++◌, length, take, drop, slice_get, Option, Some, None, Result, Ok, Err, refl, sym, ap, ◌∙◌, arith}
use Rattle.std.specs.Prelude.{IfOk}
use Rattle.std.specs.BTreeSet.{IsEmpty}
use Rattle.std.specs.List.{list_all}
use Rattle.std.specs.Option.{option_map_or}
use Rattle.std.proofs.Math.Bool.{or-false}
use Rattle.std.proofs.Math.Dec.{eqb-suc-zero, eqb-zero-suc, eqb-suc-suc}
use Rattle.ds2_code.specs.ValidCode.{is_short, reference_allowed, read_short, hash_short, hash_table_short, IsValidChain, IsValidStaged}
use Rattle.ds2_code.specs.declared.parts.ByPart.{ByPart}
use Rattle.ds2_code.specs.declared.parts.HashPart.{HashPart}
use Rattle.ds2_code.specs.declared.parts.HashTable.{HashTable}
use Rattle.ds2_code.specs.declared.parts.ProgramParts.{ProgramParts}
use Rattle.ds2_code.specs.declared.parts.ReadPart.{ReadPart}
use Rattle.ds2_code.specs.declared.parts.ReadingPart.{ReadingPart}
use Rattle.ds2_code.specs.declared.parts.ReadingPart.TheVariants as reading
use Rattle.ds2_code.specs.declared.parts.StagedParts.{StagedParts}
use Rattle.ds2_code.specs.declared.parts.TableReference.{TableReference}
use Rattle.ds2_object_words.specs.CodeParts.{reference_spelled, read_spelled, hash_spelled}
use Rattle.ds2_object_words.proofs.ListSteps.{first_ruled}
use Rattle.ds2_object_words.proofs.PartLemmas.{both, and_true, some_is}
use Rattle.ds2_object_programs.specs.ProgramRules.{program_spelled, reading_spelled}
use Rattle.ds2_object_programs.proofs.WriteSteps.{part_rules}
use Rattle.ds2_object.specs.MadeTables.{parts_spelled, SpellingSet, has_spelling, AddsTables, HasMade}
use Rattle.ds2_object.specs.ObjectSpelling.{makes_reference, has_maker, reading_linked, hash_linked, parts_linked, has_no_name, program_linked, linked_behind}
use Rattle.ds2_object.proofs.LinkSteps.{link_more, link_broken}
use Rattle.ds2_object.proofs.ValidLemmas.{program_is_spelled, valid_reading}

-- ---- walks

-- how far items are looked up
pub record WalkLeft {A : Type 0} (set : SpellingSet) (test : List StagedParts → A → Bool) (rules : A → Bool) (items rest : List A) : Type 0 where
  pub linked : (earlier : List StagedParts) → HasMade set earlier → list_all (test earlier) rest ≡ list_all (test earlier) items
  pub ruled : IsTrue (list_all rules rest)

pub walk_begun : {A : Type 0} (set : SpellingSet) (test : List StagedParts → A → Bool) (rules : A → Bool) (items : List A) → IsTrue (list_all rules items) → WalkLeft set test rules items items
walk_begun set test rules items h = record { linked = λ earlier has. refl; ruled = h }

pub walk_first : {A : Type 0} (set : SpellingSet) (test : List StagedParts → A → Bool) (rules : A → Bool) (items : List A) (x : A) (whole rest : List A) → whole ≡ x ∷ rest
    → WalkLeft set test rules items whole → IsTrue (rules x)
walk_first set test rules items x whole rest e left = first_ruled rules x whole rest e left.ruled

pub walk_more : {A : Type 0} (set : SpellingSet) (test : List StagedParts → A → Bool) (rules : A → Bool) (items : List A) (x : A) (whole rest : List A) (is : Bool) → whole ≡ x ∷ rest
    → is ≡ true → ((earlier : List StagedParts) → HasMade set earlier → is ≡ test earlier x) → WalkLeft set test rules items whole → WalkLeft set test rules items rest
walk_more {A} set test rules items x whole rest is e holds same left = record {
  linked = λ earlier has.
      ap (λ (b : Bool). b && list_all (test earlier) rest) (sym holds ∙ same earlier has) ∙ ap (λ (xs : List A). list_all (test earlier) xs) (sym e) ∙ left.linked earlier has;
  ruled = (both (rules x) (list_all rules rest) (ap (list_all rules) (sym e) ∙ left.ruled)).1;
}

pub walk_broken : {A : Type 0} (set : SpellingSet) (test : List StagedParts → A → Bool) (rules : A → Bool) (items : List A) (x : A) (whole rest : List A) (is : Bool) → whole ≡ x ∷ rest
    → is ≡ false → ((earlier : List StagedParts) → HasMade set earlier → is ≡ test earlier x) → WalkLeft set test rules items whole
    → (earlier : List StagedParts) → HasMade set earlier → false ≡ list_all (test earlier) items
walk_broken {A} set test rules items x whole rest is e fails same left = λ earlier has.
    ap (λ (b : Bool). b && list_all (test earlier) rest) (sym fails ∙ same earlier has) ∙ ap (λ (xs : List A). list_all (test earlier) xs) (sym e) ∙ left.linked earlier has

pub walk_done : {A : Type 0} (set : SpellingSet) (test : List StagedParts → A → Bool) (rules : A → Bool) (items rest : List A) → rest ≡ [] → WalkLeft set test rules items rest
    → (earlier : List StagedParts) → HasMade set earlier → true ≡ list_all (test earlier) items
walk_done {A} set test rules items rest e left = λ earlier has. ap (λ (xs : List A). list_all (test earlier) xs) (sym e) ∙ left.linked earlier has

-- ---- what is asked of the tables that a program names

pub read_reference : (r : ReadPart) → IsTrue (read_spelled r) → IsTrue (reference_spelled r.table)
read_reference r h =
    let k = both (reference_allowed r.table) (read_short r) h in
    and_true (reference_allowed r.table) (is_short r.table.columns) k.0 (both (is_short r.table.columns) (is_short r.slots) k.1).0

loaded_reference : (o : Option HashTable) (t : HashTable) → o ≡ Some t → IsTrue (option_map_or hash_table_short o true) → IsTrue (option_map_or (λ (t : HashTable). reference_allowed t.table) o true)
    → IsTrue (reference_spelled t.table)
loaded_reference o t e short allowed =
    let s : IsTrue (hash_table_short t) = ap (λ (o : Option HashTable). option_map_or hash_table_short o true) (sym e) ∙ short in
    let a : IsTrue (reference_allowed t.table) = ap (λ (o : Option HashTable). option_map_or (λ (t : HashTable). reference_allowed t.table) o true) (sym e) ∙ allowed in
    and_true (reference_allowed t.table) (is_short t.table.columns) a (both (is_short t.table.columns) (is_short t.key_columns && is_short t.data_columns) s).0

pub hash_reference : (h : HashPart) (t : HashTable) → h.loaded ≡ Some t → IsTrue (hash_spelled h) → IsTrue (reference_spelled t.table)
hash_reference h t e rules =
    let k = both (hash_short h) (option_map_or (λ (t : HashTable). reference_allowed t.table) h.loaded true) rules in
    loaded_reference h.loaded t e (both (is_short h.key_slots && is_short h.data_slots) (option_map_or hash_table_short h.loaded true) k.0).1 k.1

tables_of : (tables : List ReadPart) (bys : List ByPart) → IsTrue (is_short tables && (list_all read_spelled tables && is_short bys)) → IsTrue (list_all read_spelled tables)
tables_of tables bys h =
    (both (list_all read_spelled tables) (is_short bys) (both (is_short tables) (list_all read_spelled tables && is_short bys) h).1).0

pub set_reads : (r : ReadingPart) (tables : List ReadPart) (bys : List ByPart) → r ≡ reading.Set tables bys → IsTrue (reading_spelled r) → IsTrue (list_all read_spelled tables)
set_reads r tables bys e h = tables_of tables bys (ap reading_spelled (sym e) ∙ h)

pub merge_reads : (r : ReadingPart) (tables : List ReadPart) (bys : List ByPart) (retains : Bool) → r ≡ reading.Merge tables bys retains → IsTrue (reading_spelled r)
    → IsTrue (list_all read_spelled tables)
merge_reads r tables bys retains e h = tables_of tables bys (ap reading_spelled (sym e) ∙ h)

-- the tables of a reading were looked up
pub set_made : {E : Type 0} (set : SpellingSet) (r : ReadingPart) (tables slice : List ReadPart) (bys : List ByPart) (result : Result Bool E) → r ≡ reading.Set tables bys → slice ≡ tables
    → IfOk result (λ are. (earlier : List StagedParts) → HasMade set earlier → are ≡ list_all (λ (t : ReadPart). has_maker earlier t.table) slice)
    → IfOk result (λ is. (earlier : List StagedParts) → HasMade set earlier → is ≡ reading_linked earlier r)
set_made set r tables slice bys (Ok are) e s h = λ earlier has.
    h earlier has ∙ ap (λ (ts : List ReadPart). list_all (λ (t : ReadPart). has_maker earlier t.table) ts) s ∙ ap (λ (z : ReadingPart). reading_linked earlier z) (sym e)
set_made set r tables slice bys (Err x) e s h = tt

pub merge_made : {E : Type 0} (set : SpellingSet) (r : ReadingPart) (tables slice : List ReadPart) (bys : List ByPart) (retains : Bool) (result : Result Bool E)
    → r ≡ reading.Merge tables bys retains → slice ≡ tables
    → IfOk result (λ are. (earlier : List StagedParts) → HasMade set earlier → are ≡ list_all (λ (t : ReadPart). has_maker earlier t.table) slice)
    → IfOk result (λ is. (earlier : List StagedParts) → HasMade set earlier → is ≡ reading_linked earlier r)
merge_made set r tables slice bys retains (Ok are) e s h = λ earlier has.
    h earlier has ∙ ap (λ (ts : List ReadPart). list_all (λ (t : ReadPart). has_maker earlier t.table) ts) s ∙ ap (λ (z : ReadingPart). reading_linked earlier z) (sym e)
merge_made set r tables slice bys retains (Err x) e s h = tt

pub parts_hashes : (p : ProgramParts) → IsTrue (parts_spelled p) → IsTrue (list_all hash_spelled p.hashes)
parts_hashes p h =
    let k = part_rules p (both (program_spelled p) (reading_spelled p.reading) h).0 in
    (both (is_short p.hashes) (list_all hash_spelled p.hashes) k.hashes).1

pub parts_reading : (p : ProgramParts) → IsTrue (parts_spelled p) → IsTrue (reading_spelled p.reading)
parts_reading p h = (both (program_spelled p) (reading_spelled p.reading) h).1

chain_spelled : (code : ProgramParts) (stages : List ProgramParts) → IsValidChain code stages → IsTrue (parts_spelled code) × IsTrue (list_all parts_spelled stages)
chain_spelled code [] v = (and_true (program_spelled code) (reading_spelled code.reading) (program_is_spelled code None v) (valid_reading code None v), refl)
chain_spelled code (stage ∷ stages) v =
    let k = chain_spelled stage stages v.1 in (
      and_true (program_spelled code) (reading_spelled code.reading) (program_is_spelled code (Some stage) v.0) (valid_reading code (Some stage) v.0),
      and_true (parts_spelled stage) (list_all parts_spelled stages) k.0 k.1,
    )

pub valid_parts : (s : StagedParts) → IsValidStaged s → IsTrue (parts_spelled s.program)
valid_parts s v = (chain_spelled s.program s.stages v.chain).0

pub valid_stages : (s : StagedParts) → IsValidStaged s → IsTrue (list_all parts_spelled s.stages)
valid_stages s v = (chain_spelled s.program s.stages v.chain).1

-- ---- programs

pub parts_made : (set : SpellingSet) (p : ProgramParts) (hashes reads : Bool) → ((earlier : List StagedParts) → HasMade set earlier → hashes ≡ list_all (hash_linked earlier) p.hashes)
    → ((earlier : List StagedParts) → HasMade set earlier → reads ≡ reading_linked earlier p.reading) → (earlier : List StagedParts) → HasMade set earlier → (hashes && reads) ≡ parts_linked earlier p
parts_made set p hashes reads h r = λ earlier has. rw (h earlier has, r earlier has) refl

regrouped_and : (a b c : Bool) → ((a && b) && c) ≡ (a && (b && c))
regrouped_and true b c = refl
regrouped_and false b c = refl

pub program_made : (set : SpellingSet) (s : StagedParts) (own stages : Bool) → ((earlier : List StagedParts) → HasMade set earlier → own ≡ parts_linked earlier s.program)
    → ((earlier : List StagedParts) → HasMade set earlier → stages ≡ list_all (parts_linked earlier) s.stages) → (earlier : List StagedParts) → HasMade set earlier
    → ((has_no_name s && own) && stages) ≡ program_linked earlier s
program_made set s own stages h k = λ earlier has.
    rw (h earlier has, k earlier has) (regrouped_and (has_no_name s) (parts_linked earlier s.program) (list_all (parts_linked earlier) s.stages))

-- ---- one program after the other

take_more : (programs : List StagedParts) (i : ℕ) (p : StagedParts) → slice_get programs i ≡ Some p → (take (suc i) programs ≡ take i programs ++ p ∷ []) × (length (take i programs) ≡ i)
take_more [] i p e = absurd cc
take_more (q ∷ programs) zero p e = (ap (λ (z : StagedParts). z ∷ []) (some_is q p e), refl)
take_more (q ∷ programs) (suc i) p e = let k = take_more programs i p e in (ap (λ (z : List StagedParts). q ∷ z) k.0, ap suc k.1)

at_end : (earlier : List StagedParts) (p : StagedParts) (n : ℕ) (test : StagedParts → Bool)
    → option_map_or test (slice_get (earlier ++ p ∷ []) n) false ≡ (option_map_or test (slice_get earlier n) false || ((n == length earlier) && test p))
at_end [] p zero test = refl
at_end [] p (suc n) test = rw (eqb-suc-zero n) refl
at_end (q ∷ earlier) p zero test = rw (eqb-zero-suc (length earlier)) (sym (or-false (test q)))
at_end (q ∷ earlier) p (suc n) test = rw (eqb-suc-suc n (length earlier)) (at_end earlier p n test)

maker_more : (n : ℕ) (earlier : List StagedParts) (p : StagedParts) (test : StagedParts → Bool)
    → ((n == 0) || option_map_or test (slice_get (earlier ++ p ∷ []) (n - 1)) false) ≡ (((n == 0) || option_map_or test (slice_get earlier (n - 1)) false) || ((n == length earlier + 1) && test p))
maker_more zero earlier p test = refl
maker_more (suc n) earlier p test =
    let less : suc n - 1 ≡ n = omega arith in
    let next : length earlier + 1 ≡ suc (length earlier) = omega arith in
    rw (less, next, eqb-suc-zero n, eqb-suc-suc n (length earlier)) (at_end earlier p n test)

swapped : (stored this old : Bool) → (stored || (this || old)) ≡ ((stored || old) || this)
swapped true this old = refl
swapped false true true = refl
swapped false true false = refl
swapped false false true = refl
swapped false false false = refl

-- a set to which the tables of one more program were added
made_more : (earlier : List StagedParts) (p : StagedParts) (before after : SpellingSet) → HasMade before earlier
    → AddsTables before (λ (r : TableReference). (r.maker == length earlier + 1) && makes_reference p.program r) after → HasMade after (earlier ++ p ∷ [])
made_more earlier p before after has adds = λ r allowed.
    ap (λ (b : Bool). (r.maker == 0) || b) (adds r allowed)
    ∙ swapped (r.maker == 0) ((r.maker == length earlier + 1) && makes_reference p.program r) (has_spelling before r)
    ∙ ap (λ (b : Bool). b || ((r.maker == length earlier + 1) && makes_reference p.program r)) (has r allowed)
    ∙ sym (maker_more r.maker earlier p (λ (q : StagedParts). makes_reference q.program r))

-- how far programs are linked
pub record LinksLeft (programs : List StagedParts) (i : ℕ) (set : SpellingSet) : Type 0 where
  pub made : HasMade set (take i programs)
  pub linked : linked_behind (take i programs) (drop i programs) ≡ linked_behind [] programs

pub links_begun : (programs : List StagedParts) (set : SpellingSet) → IsEmpty set → LinksLeft programs 0 set
links_begun programs set empty = record { made = λ r allowed. rw empty refl; linked = refl }

pub links_more : (programs : List StagedParts) (i : ℕ) (p : StagedParts) (is : Bool) (set after : SpellingSet) → slice_get programs i ≡ Some p
    → ((earlier : List StagedParts) → HasMade set earlier → is ≡ program_linked earlier p) → is ≡ true
    → AddsTables set (λ (r : TableReference). (r.maker == i + 1) && makes_reference p.program r) after → LinksLeft programs i set → LinksLeft programs (i + 1) after
links_more programs i p is set after at same holds adds left =
    let k = take_more programs i p at in
    let next : i + 1 ≡ suc i = omega arith in
    let added : AddsTables set (λ (r : TableReference). (r.maker == length (take i programs) + 1) && makes_reference p.program r) after = rw k.1 adds in
    let made : HasMade after (take i programs ++ p ∷ []) = made_more (take i programs) p set after left.made added in
    record {
      made = rw (next, k.0) made;
      linked = link_more programs i p is (linked_behind [] programs) at (same (take i programs) left.made) holds left.linked;
    }

pub links_broken : (programs : List StagedParts) (i : ℕ) (p : StagedParts) (is : Bool) (set : SpellingSet) → slice_get programs i ≡ Some p
    → ((earlier : List StagedParts) → HasMade set earlier → is ≡ program_linked earlier p) → is ≡ false → LinksLeft programs i set → linked_behind [] programs ≡ false
links_broken programs i p is set at same fails left = link_broken programs i p is (linked_behind [] programs) at (same (take i programs) left.made) fails left.linked
