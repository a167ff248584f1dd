-- The verdict under the name of a thread program that a program reads from is the one on it: no two units of a source have one name.
use Rattle.std.proofs.Common.{◌≡◌, ◌∙◌, ◌||◌, Bool, true, false, bytes_eq, if◌then◌else◌, not, ℕ, List, [], ◌∷◌, ◌++◌, unwrap_or, Option, Some, None, Result, Ok, Err, refl, sym, ap, subst, append_assoc}
use Rattle.std.specs.Prelude.{option_and_then}
use Rattle.std.specs.List.{AllByRecursion}
use Rattle.std.proofs.lemmas.List.{append-nil}
use Rattle.std.proofs.lemmas.Slice.Eq.{bytes_eq-Decides}
use Rattle.ds2_token.specs.declared.token.Token.{Token}
use Rattle.ds2_tree.specs.Units.{SourcePart, Thread, Proc, Run, Quit, APackage, AThread, AData}
use Rattle.ds2_meaning.specs.ProgramTree.{ProgramTree, OverTables, OverStage, UnitTree, is_listed, reader_of}
use Rattle.ds2_names.specs.NameRules.{duplicate_names, duplicate_unit}
use Rattle.ds2_names.specs.SourceUnit.{InstanceOf, AnyPackage, AnyThread, HashIterator, HashObject, KnownUnit, SourceInstance, SourceNames, TableColumns, UnitSource, instance_named, known_names, spelled_name, stage_token, unit_of_data, unit_of_thread}
use Rattle.ds2_elaboration.specs.Elaboration.{ProgramRefusal, before_source, elaborated_parts, part_refusal, program_in, tables_behind_part, units_behind, with_programs}
use Rattle.ds2_elaboration.specs.ProgramTypes.{over_stage_read, typed_program}
use Rattle.ds2_elaboration.specs.SourceTypes.{unit_names, unit_stage}
use Rattle.ds2_elaboration.specs.UnitsBefore.{UnitsBefore, has_thread_name, thread_of_sort, typed_stage}
use Rattle.ds2_elaboration.proofs.Accepted.{names_hold}
use Rattle.ds2_elaboration.proofs.Lookups.{of_found}
use Rattle.ds2_elaboration.proofs.Outcome.{both_empty, one_outcome, unplaced}
use Rattle.ds2_elaboration.proofs.Programs.{reader_is}
use Rattle.ds2_locality.specs.declared.locality.Verdict.{Verdict}
use Rattle.ds2_locality.specs.Soundness.{AllObjectsAreTold}
use Rattle.ds2_locality.specs.Verdict.{JudgedThread, verdict_of}
use Rattle.ds2_verdicts.specs.OwnVerdicts.{HasOwnVerdict, ProgramsHaveVerdicts, StagesHaveVerdicts}
use Rattle.ds2_verdicts.specs.SourceVerdicts.{judged_in_source, verdict_behind, verdicts_in, verdicts_of_parts}
use Rattle.ds2_verdicts.specs.ThreadVerdicts.{declaration_names, verdict_named}
use Rattle.ds2_verdicts.specs.declared.verdicts.ThreadVerdict.{ThreadVerdict}

-- ---- verdicts by their names

-- a verdict that was found stays the first one
named_more : (some others : List ThreadVerdict) (name : List ℕ) (v : Verdict) → verdict_named some name ≡ Some v → verdict_named (some ++ others) name ≡ Some v
named_more [] others name v h = absurd (cc h)
named_more (x ∷ some) others name v h = by (bytes_eq x.name name) h (named_more some others name v)
  where
    by : (e : Bool) → (if e then Some x.verdict else verdict_named some name) ≡ Some v → (verdict_named some name ≡ Some v → verdict_named (some ++ others) name ≡ Some v)
        → (if e then Some x.verdict else verdict_named (some ++ others) name) ≡ Some v
    by true k later = k
    by false k later = later k

-- behind verdicts none of which has a name, the next one of it is found
named_next : (some others : List ThreadVerdict) (name : List ℕ) → verdict_named some name ≡ None → verdict_named (some ++ others) name ≡ verdict_named others name
named_next [] others name h = refl
named_next (x ∷ some) others name h = by (bytes_eq x.name name) h (named_next some others name)
  where
    by : (e : Bool) → (if e then Some x.verdict else verdict_named some name) ≡ None → (verdict_named some name ≡ None → verdict_named (some ++ others) name ≡ verdict_named others name)
        → (if e then Some x.verdict else verdict_named (some ++ others) name) ≡ verdict_named others name
    by true k later = absurd (cc k)
    by false k later = later k

own_more : (some others : List ThreadVerdict) (p : ProgramTree) → HasOwnVerdict some p → HasOwnVerdict (some ++ others) p
own_more some others p own = record {
  judged = own.judged;
  program = own.program;
  told = own.told;
  verdict = named_more some others (unwrap_or (reader_of p).thread []) (verdict_of own.judged) own.verdict;
}

stages_more : (some others : List ThreadVerdict) (p : ProgramTree) → StagesHaveVerdicts some p → StagesHaveVerdicts (some ++ others) p
stages_more some others (OverTables p) have = tt
stages_more some others (OverStage p stage) (own, have) = (own_more some others stage own, stages_more some others stage have)

-- ---- what stands before a unit

-- a thread program has its verdict, and so has each that it reads from
abbrev IsJudged : List ThreadVerdict → ProgramTree → Type 0
IsJudged verdicts p = HasOwnVerdict verdicts p × StagesHaveVerdicts verdicts p

judged_more : (some others : List ThreadVerdict) (p : ProgramTree) → IsJudged some p → IsJudged (some ++ others) p
judged_more some others p (own, have) = (own_more some others p own, stages_more some others p have)

all_judged_more : (some others : List ThreadVerdict) (ps : List ProgramTree) → AllByRecursion (IsJudged some) ps → AllByRecursion (IsJudged (some ++ others)) ps
all_judged_more some others [] all = tt
all_judged_more some others (p ∷ ps) (first, all) = (judged_more some others p first, all_judged_more some others ps all)

-- thread programs have their verdicts, and no verdict has the name of no unit
record AreJudgedBefore (verdicts : List ThreadVerdict) (before : UnitsBefore) : Type 0 where
  threads : AllByRecursion (IsJudged verdicts) before.threads
  names : (name : List ℕ) → is_listed (known_names before.names.known) name ≡ false → verdict_named verdicts name ≡ None

-- ---- thread programs that are found

module _ (P : ProgramTree → Type 0) (threads : List ProgramTree) (all : AllByRecursion P threads) (p : ProgramTree) where
  of_sort : (sort : InstanceOf) → thread_of_sort threads sort ≡ Some p → P p
  of_sort (AnyPackage package' arguments) h = absurd (cc h)
  of_sort (HashObject keys items table) h = absurd (cc h)
  of_sort (HashIterator hash) h = absurd (cc h)
  of_sort (AnyThread thread) h = of_found P (has_thread_name (spelled_name thread)) threads p all h

  of_instance : (found : Option SourceInstance) → option_and_then (λ (i : SourceInstance). thread_of_sort threads i.sort) found ≡ Some p → P p
  of_instance None h = absurd (cc h)
  of_instance (Some i) h = of_sort i.sort h

  of_token : (instances : List SourceInstance) (token : Option Token) → typed_stage threads instances token ≡ Some p → P p
  of_token instances None h = absurd (cc h)
  of_token instances (Some t) h = of_instance (instance_named instances (spelled_name t)) h

-- the thread programs that a unit reads from have their verdicts
unit_judged : (tables : TableColumns) (before : UnitsBefore) (u : UnitSource) (verdicts : List ThreadVerdict) → AreJudgedBefore verdicts before → StagesHaveVerdicts verdicts (typed_program tables before u)
unit_judged tables before u verdicts judged = by (unit_stage tables before u) refl
  where
    by : (stage : Option ProgramTree) → unit_stage tables before u ≡ stage → StagesHaveVerdicts verdicts (over_stage_read tables before u stage)
    by None h = tt
    by (Some s) h = of_token (IsJudged verdicts) before.threads judged.threads s (unit_names tables before u).instances (stage_token (unit_names tables before u).reading) h

-- ---- behind a part of a source

-- a name that is not among a first one and others
unlisted : (first other : Bool) → (first || other) ≡ false → (first ≡ false) × (other ≡ false)
unlisted true other h = absurd (cc h)
unlisted false other h = (refl, h)

first_empty : {A : Type 0} (xs ys : List A) → xs ++ ys ≡ [] → xs ≡ []
first_empty xs ys h = (both_empty xs ys h).0

not_true : (b : Bool) → not b ≡ true → b ≡ false
not_true true h = absurd (cc h)
not_true false h = refl

-- the name of a unit that is not refused is that of no unit before it
new_name : (known : List KnownUnit) (t : Token) → duplicate_unit known (Some t) ≡ [] → is_listed (known_names known) (spelled_name t) ≡ false
new_name known t h = not_true (is_listed (known_names known) (spelled_name t)) (unplaced (not (is_listed (known_names known) (spelled_name t))) t.place h)

unit_once : (names : SourceNames) → duplicate_names names ≡ [] → duplicate_unit names.known names.unit.name ≡ []
unit_once names h = first_empty _ _ (first_empty _ _ (first_empty _ _ (first_empty _ _ (first_empty _ _ (first_empty _ _ (first_empty _ _ h))))))

module _ (told : AllObjectsAreTold) (tables : TableColumns) (before : UnitsBefore) (verdicts : List ThreadVerdict) (judged : AreJudgedBefore verdicts before) where
  -- a part that is no thread program and has no name adds nothing
  nothing_added : (part : SourcePart) → AreJudgedBefore verdicts (units_behind tables part before) → AreJudgedBefore (verdicts ++ []) (units_behind tables part before)
  nothing_added part behind = subst (λ (vs : List ThreadVerdict). AreJudgedBefore vs (units_behind tables part before)) (sym (append-nil verdicts)) behind

  module _ (u : Thread) (unrefused : part_refusal tables before (AThread u) ≡ None) where
    abbrev own : ThreadVerdict
    own = verdict_behind tables before u

    abbrev program : ProgramTree
    program = typed_program tables before (unit_of_thread u)

    named : unwrap_or (reader_of program).thread [] ≡ spelled_name u.name
    named = ap (λ (q : UnitTree). unwrap_or q.thread []) (reader_is tables before (unit_of_thread u))

    is_new : is_listed (known_names before.names.known) (spelled_name u.name) ≡ false
    is_new =
        let rules = one_outcome.breaks_no_rule tables before (unit_of_thread u) unrefused in
        let names = unit_names tables before (unit_of_thread u) in
        new_name before.names.known u.name (unit_once names (names_hold tables names rules.names).duplicate)

    found_last : verdict_named (own ∷ []) (spelled_name u.name) ≡ Some own.verdict
    found_last = ap (λ (e : Bool). if e then Some own.verdict else None) ((bytes_eq-Decides (spelled_name u.name) (spelled_name u.name)).1 refl)

    own_here : HasOwnVerdict (verdicts ++ own ∷ []) program
    own_here = record {
      judged = judged_in_source tables before (unit_of_thread u);
      program = refl;
      told = let t : JudgedThread = judged_in_source tables before (unit_of_thread u) in told t.program t.run_place t.term_place (declaration_names (unit_of_thread u));
      verdict = ap (λ (n : List ℕ). verdict_named (verdicts ++ own ∷ []) n) named
          ∙ named_next verdicts (own ∷ []) (spelled_name u.name) (judged.names (spelled_name u.name) is_new) ∙ found_last;
    }

    thread_behind : AreJudgedBefore (verdicts ++ own ∷ []) (units_behind tables (AThread u) before)
    thread_behind = record {
      threads = (
        (own_here, stages_more verdicts (own ∷ []) program (unit_judged tables before (unit_of_thread u) verdicts judged)),
        all_judged_more verdicts (own ∷ []) before.threads judged.threads,
      );
      names = λ name h.
          let apart = unlisted (bytes_eq (spelled_name u.name) name) (is_listed (known_names before.names.known) name) h in
          named_next verdicts (own ∷ []) name (judged.names name apart.1) ∙ ap (λ (e : Bool). if e then Some own.verdict else None) apart.0;
    }

  judged_behind : (part : SourcePart) → part_refusal tables before part ≡ None → AreJudgedBefore (verdicts ++ verdicts_in tables before part) (units_behind tables part before)
  judged_behind (Proc keyword ds2 end) h = nothing_added (Proc keyword ds2 end) (record { threads = judged.threads; names = judged.names })
  judged_behind (Run keyword end) h = nothing_added (Run keyword end) (record { threads = judged.threads; names = judged.names })
  judged_behind (Quit keyword end) h = nothing_added (Quit keyword end) (record { threads = judged.threads; names = judged.names })
  judged_behind (APackage u) h =
      nothing_added (APackage u)
      (record { threads = judged.threads; names = λ name k. judged.names name (unlisted (bytes_eq (spelled_name u.name) name) (is_listed (known_names before.names.known) name) k).1 })
  judged_behind (AThread u) h = thread_behind u h
  judged_behind (AData u) h = nothing_added (AData u) (record { threads = judged.threads; names = judged.names })

  -- the program that a part is
  part_judged : (part : SourcePart) → AllByRecursion (StagesHaveVerdicts verdicts) (program_in tables before part)
  part_judged (Proc keyword ds2 end) = tt
  part_judged (Run keyword end) = tt
  part_judged (Quit keyword end) = tt
  part_judged (APackage u) = tt
  part_judged (AThread u) = tt
  part_judged (AData u) = (unit_judged tables before (unit_of_data u) verdicts judged, tt)

-- ---- a source

all_stages_more : (some others : List ThreadVerdict) (ps : List ProgramTree) → AllByRecursion (StagesHaveVerdicts some) ps → AllByRecursion (StagesHaveVerdicts (some ++ others)) ps
all_stages_more some others [] all = tt
all_stages_more some others (p ∷ ps) (first, all) = (stages_more some others p first, all_stages_more some others ps all)

all_append : (P : ProgramTree → Type 0) (some others : List ProgramTree) → AllByRecursion P some → AllByRecursion P others → AllByRecursion P (some ++ others)
all_append P [] others all more = more
all_append P (p ∷ some) others (first, all) more = (first, all_append P some others all more)

-- what programs of parts come from
record ComesFrom (refusal : Option ProgramRefusal) (own : List ProgramTree) (further : Result (List ProgramTree) ProgramRefusal) (programs : List ProgramTree) : Type 0 where
  accepted : refusal ≡ None
  rest : List ProgramTree
  there : further ≡ Ok rest
  all : own ++ rest ≡ programs

same_programs : (some others : List ProgramTree) (made : Result (List ProgramTree) ProgramRefusal) → made ≡ Ok some → made ≡ Ok others → some ≡ others
same_programs some others made e f = cc

comes_from : (refusal : Option ProgramRefusal) (own : List ProgramTree) (further : Result (List ProgramTree) ProgramRefusal) (programs : List ProgramTree) → with_programs refusal own further ≡ Ok programs
    → ComesFrom refusal own further programs
comes_from (Some refusal) own further programs h = absurd (cc h)
comes_from None own (Err refusal) programs h = absurd (cc h)
comes_from None own (Ok rest) programs h = record { accepted = refl; rest = rest; there = refl; all = same_programs (own ++ rest) programs (Ok (own ++ rest)) refl h }

parts_judged : AllObjectsAreTold → (tables : TableColumns) (before : UnitsBefore) (parts : List SourcePart) (programs : List ProgramTree) (verdicts : List ThreadVerdict) → elaborated_parts tables before parts ≡ Ok programs
    → AreJudgedBefore verdicts before → AllByRecursion (StagesHaveVerdicts (verdicts ++ verdicts_of_parts tables before parts)) programs
parts_judged told tables before [] programs verdicts h judged =
    subst (λ (ps : List ProgramTree). AllByRecursion (StagesHaveVerdicts (verdicts ++ [])) ps) (same_programs [] programs (Ok []) refl h) tt
parts_judged told tables before (part ∷ parts) programs verdicts h judged =
    let own : List ThreadVerdict = verdicts_in tables before part in
    let behind : UnitsBefore = units_behind tables part before in
    let tables_then : TableColumns = tables_behind_part tables before part in
    let others : List ThreadVerdict = verdicts_of_parts tables_then behind parts in
    let from = comes_from (part_refusal tables before part) (program_in tables before part) (elaborated_parts tables_then behind parts) programs h in
    let later = parts_judged told tables_then behind parts from.rest (verdicts ++ own) from.there (judged_behind told tables before verdicts judged part from.accepted) in
    subst (λ (ps : List ProgramTree). AllByRecursion (StagesHaveVerdicts (verdicts ++ (own ++ others))) ps) from.all
    (all_append (StagesHaveVerdicts (verdicts ++ (own ++ others))) (program_in tables before part) from.rest
    (all_stages_more verdicts (own ++ others) (program_in tables before part) (part_judged told tables before verdicts judged part))
    (subst (λ (vs : List ThreadVerdict). AllByRecursion (StagesHaveVerdicts vs) from.rest) (append_assoc verdicts own others) later))

nothing_before : (parts : List SourcePart) → AreJudgedBefore [] (before_source parts)
nothing_before parts = record { threads = tt; names = λ name h. refl }

pub programs_have_verdicts : AllObjectsAreTold → ProgramsHaveVerdicts
programs_have_verdicts told tables parts programs h = parts_judged told tables (before_source parts) parts programs [] h (nothing_before parts)
