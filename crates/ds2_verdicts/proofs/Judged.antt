-- Typed thread programs are judged as the source is.
use Rattle.std.proofs.Common.{◌≡◌, ℕ, ◌-◌, ◌<◌, ◌≤◌, ◌∙◌, codes, List, [], ◌∷◌, ◌++◌, append_assoc, get_or, drop, length, map, take, Option, Some, None, refl, sym, ap, subst, arith}
use Rattle.std.proofs.lemmas.List.{take_rest}
use Rattle.std.specs.List.{AllByRecursion}
use Rattle.std.specs.Prelude.{unwrap_or}
use Rattle.ds2_base.specs.Place.{start_place}
use Rattle.ds2_base.specs.declared.place.Place.{Place}
use Rattle.ds2_tree.specs.Globals.{Method}
use Rattle.ds2_tree.specs.Units.{SourcePart, Thread, AThread}
use Rattle.ds2_tree.specs.UnitViews.{part_tree}
use Rattle.ds2_tree.specs.declared.units.SourcePart as source_part
use Rattle.ds2_meaning.specs.ProgramTree.{ProgramTree, reader_of}
use Rattle.ds2_meaning.specs.View.{typed_thread_program}
use Rattle.ds2_meaning.specs.declared.methods.SystemMethod.{SystemMethod}
use Rattle.ds2_meaning.specs.declared.units.TypedThread.{TypedThread, out-TypedThread}
use Rattle.ds2_names.specs.SourceUnit.{source_methods, unit_of_thread}
use Rattle.ds2_names.specs.Uses.{method_named}
use Rattle.ds2_elaboration.specs.ProgramTypes.{typed_program}
use Rattle.ds2_local.specs.JudgedTrees.{place_of_system}
use Rattle.ds2_locality.specs.Verdict.{JudgedThread, objects_in_order}
use Rattle.ds2_verdicts.specs.SourceVerdicts.{TypedThreadsAreJudged, place_kept, place_of_method, place_told}
use Rattle.ds2_verdicts.specs.ThreadVerdicts.{declaration_names, verdict_on_typed, verdict_under, verdicts_on}
use Rattle.ds2_verdicts.specs.declared.verdicts.ThreadVerdict.{ThreadVerdict}

kept_is : (m : Option SystemMethod) → place_of_system m ≡ unwrap_or (place_kept m) start_place
kept_is None = refl
kept_is (Some m) = refl

told_is : (m : Option Method) → place_of_method m ≡ unwrap_or (place_told m) start_place
told_is None = refl
told_is (Some m) = refl

place_is : (m : Option SystemMethod) (own : Option Method) → place_kept m ≡ place_told own → place_of_system m ≡ place_of_method own
place_is m own same = kept_is m ∙ ap (λ (p : Option Place). unwrap_or p start_place) same ∙ sym (told_is own)

-- a program that is judged with these names and places
abbrev judged : List (List ℕ) → ProgramTree → (run term : Place) → JudgedThread
judged names p run term = record { program = reader_of p; run_place = run; term_place = term; objects = objects_in_order names (reader_of p) }

judged_same : (names : List (List ℕ)) (p q : ProgramTree) (run run' term term' : Place) → p ≡ q → run ≡ run' → term ≡ term' → judged names p run term ≡ judged names q run' term'
judged_same names p q run run' term term' tree runs terms = λ i. judged names (tree i) (runs i) (terms i)

pub threads_judged : TypedThreadsAreJudged
threads_judged tables before u t is =
    let same = judged_same (declaration_names (unit_of_thread u)) (typed_thread_program t) (typed_program tables before (unit_of_thread u)) (place_of_system (out-TypedThread t).program.run) (place_of_method (method_named (source_methods u.globals) (codes "run")))
    (place_of_system (out-TypedThread t).program.term) (place_of_method (method_named (source_methods u.globals) (codes "term"))) is.tree (place_is _ _ is.run) (place_is _ _ is.term) in
    λ i. verdict_under (is.name i) (same i)

-- ---- lists

-- what holds of all items holds of the first
pub first_of : {T : Type 0} (P : T → Type 0) (left : List T) (x : T) → 1 ≤ length left → x ≡ get_or left 0 x → AllByRecursion P left → P x
first_of P [] x some is all = absurd (omega arith)
first_of P (y ∷ left) x some is all = subst P (sym is) all.0

-- a list that is not empty, by its first item and those behind it
rest_by_first : {A : Type 0} (xs : List A) (x : A) → 1 ≤ length xs → x ≡ get_or xs 0 x → xs ≡ x ∷ take (length xs - 1) (drop 1 xs)
rest_by_first [] x some first = absurd (omega arith)
rest_by_first {A} (y ∷ xs) x some first = ap (λ (z : A). z ∷ xs) (sym first) ∙ ap (λ (t : List A). x ∷ t) (sym (take_rest (y ∷ xs) 1))

-- what holds of all items holds of those behind the first
pub rest_of : {T : Type 0} (P : T → Type 0) (left : List T) (x : T) → 1 ≤ length left → x ≡ get_or left 0 x → AllByRecursion P left → AllByRecursion P (take (length left - 1) (drop 1 left))
rest_of P left x some is all = (subst (λ ts. AllByRecursion P ts) (rest_by_first left x some is) all).1

-- ---- parts of a source

pub parts_by_first : (rest : List source_part.SourcePart) (first : source_part.SourcePart) → 1 ≤ length rest → first ≡ get_or rest 0 first
    → map part_tree rest ≡ part_tree first ∷ map part_tree (take (length rest - 1) (drop 1 rest))
parts_by_first rest first some is = ap (map part_tree) (rest_by_first rest first some is)

pub parts_ended : (rest : List source_part.SourcePart) → length rest < 1 → map part_tree rest ≡ []
parts_ended [] none = refl
parts_ended (x ∷ rest) none = absurd (omega arith)

-- one verdict more is that on the first of typed thread programs
pub next_judged : (u : Thread) (threads : List TypedThread) (t : TypedThread) → 1 ≤ length threads → t ≡ get_or threads 0 t → (verdicts grown : List ThreadVerdict) (v : ThreadVerdict)
    → v ≡ verdict_on_typed u t → grown ≡ verdicts ++ v ∷ [] → (parts : List SourcePart)
    → grown ++ verdicts_on parts (take (length threads - 1) (drop 1 threads)) ≡ verdicts ++ verdicts_on (AThread u ∷ parts) threads
next_judged u threads t some is verdicts grown v judged_so pushed parts =
    let rest = take (length threads - 1) (drop 1 threads) in
    ap (λ (vs : List ThreadVerdict). vs ++ verdicts_on parts rest) pushed
    ∙ append_assoc verdicts (v ∷ []) (verdicts_on parts rest)
    ∙ ap (λ (x : ThreadVerdict). verdicts ++ x ∷ verdicts_on parts rest) judged_so
    ∙ ap (λ (ts : List TypedThread). verdicts ++ verdicts_on (AThread u ∷ parts) ts) (sym (rest_by_first threads t some is))
