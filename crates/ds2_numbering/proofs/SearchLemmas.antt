-- What is found by a search in order.
use Rattle.std.proofs.Common.{◌≡◌, ◌<◌, ◌+◌, ℕ, suc, Bool, true, false, if◌then◌else◌, List, [], ◌∷◌, ◌++◌, length, map, drop, get_or, Option, Some, None, option_map, refl, sym, ap, ◌∙◌, add-one, arith}
use Rattle.std.proofs.Math.Seq.{drop-cons}
use Rattle.std.specs.Prelude.{nat_eq, bytes_eq, filter, flat_map}
use Rattle.ds2_meaning.specs.declared.hashes.ThreadInstance.{ThreadInstance}
use Rattle.ds2_meaning.specs.declared.methods.SystemMethod.{SystemMethod}
use Rattle.ds2_meaning.specs.declared.readings.Reading.{Reading}
use Rattle.ds2_meaning.specs.declared.readings.Reading.TheVariants as reading
use Rattle.ds2_meaning.specs.Location.{Location}
use Rattle.ds2_meaning.specs.Reading.{stage_instance}
use Rattle.ds2_meaning.specs.View.{reading_with_run}
use Rattle.ds2_program_code.specs.PlacedProgram.{number_of_first, parameters_at}
use Rattle.ds2_numbering.specs.declared.search.Search.{Search}
use Rattle.ds2_numbering.specs.CellNumbers.{read_parameters}
use Rattle.ds2_numbering.specs.Searching.{first_or_this, unbegun, looked_on, search_by}

-- a search among two lists
pub search_both : {X : Type 0} (test : X → Bool) (xs ys : List X) (s : Search) → search_by test (xs ++ ys) s ≡ search_by test ys (search_by test xs s)
search_both test [] ys s = refl
search_both test (x ∷ xs) ys s = search_both test xs ys (record { found = first_or_this s.found (test x) s.seen; seen = s.seen + 1 })

-- what was found stays
found_stays : {X : Type 0} (test : X → Bool) (xs : List X) (n k : ℕ) → (search_by test xs (record { found = Some n; seen = k })).found ≡ Some n
found_stays test [] n k = refl
found_stays test (x ∷ xs) n k = found_stays test xs n (k + 1)

moved_on : (k : ℕ) (o : Option ℕ) → option_map (λ m. k + 1 + m) o ≡ option_map (λ m. k + m) (option_map (λ m. suc m) o)
moved_on k None = refl
moved_on k (Some m) = let e : k + 1 + m ≡ k + suc m = omega arith in ap (λ n. Some n) e

found_next : {X : Type 0} (test : X → Bool) (xs : List X) (k : ℕ) (b : Bool)
    → (search_by test xs (record { found = None; seen = k + 1 })).found ≡ option_map (λ m. k + 1 + m) (number_of_first test xs)
    → (search_by test xs (record { found = first_or_this None b k; seen = k + 1 })).found ≡ option_map (λ m. k + m) (if b then Some 0 else option_map (λ m. suc m) (number_of_first test xs))
found_next test xs k true h = let e : k ≡ k + 0 = omega arith in found_stays test xs k (k + 1) ∙ ap (λ n. Some n) e
found_next test xs k false h = h ∙ moved_on k (number_of_first test xs)

found_from : {X : Type 0} (test : X → Bool) (xs : List X) (k : ℕ) → (search_by test xs (record { found = None; seen = k })).found ≡ option_map (λ m. k + m) (number_of_first test xs)
found_from test [] k = refl
found_from test (x ∷ xs) k = found_next test xs k (test x) (found_from test xs (k + 1))

from_first : (o : Option ℕ) → option_map (λ m. 0 + m) o ≡ o
from_first None = refl
from_first (Some m) = let e : 0 + m ≡ m = omega arith in ap (λ n. Some n) e

-- a search from the first item on finds the number of the first that passes
pub first_found : {X : Type 0} (test : X → Bool) (xs : List X) (s : Search) → s ≡ search_by test xs unbegun → s.found ≡ number_of_first test xs
first_found test xs s is = ap (λ x. x.found) is ∙ found_from test xs 0 ∙ from_first (number_of_first test xs)

-- ---- one item more has been looked at

pub drop_next : {X : Type 0} (xs : List X) (i : ℕ) (x : X) → i < length xs → x ≡ get_or xs i x → drop i xs ≡ x ∷ drop (i + 1) xs
drop_next xs i x lt here = drop-cons xs i x lt ∙ ap (λ y. y ∷ drop (suc i) xs) (sym here) ∙ ap (λ j. x ∷ drop j xs) (sym (add-one i))

pub item_searched : {X Y : Type 0} (test : Y → Bool) (f : X → Y) (xs : List X) (i : ℕ) (x : X) (s next whole : Search) → i < length xs → x ≡ get_or xs i x
    → next ≡ looked_on s (test (f x)) → search_by test (map f (drop i xs)) s ≡ whole → search_by test (map f (drop (i + 1) xs)) next ≡ whole
item_searched test f xs i x s next whole lt here is before =
    ap (λ n. search_by test (map f (drop (i + 1) xs)) n) is ∙ ap (λ l. search_by test (map f l) s) (sym (drop_next xs i x lt here)) ∙ before

pub list_searched : {X Y : Type 0} (test : Y → Bool) (f : X → List Y) (xs : List X) (i : ℕ) (x : X) (s next whole : Search) → i < length xs → x ≡ get_or xs i x
    → next ≡ search_by test (f x) s → search_by test (flat_map f (drop i xs)) s ≡ whole → search_by test (flat_map f (drop (i + 1) xs)) next ≡ whole
list_searched test f xs i x s next whole lt here is before =
    ap (λ n. search_by test (flat_map f (drop (i + 1) xs)) n) is ∙ sym (search_both test (f x) (flat_map f (drop (i + 1) xs)) s)
    ∙ ap (λ l. search_by test (flat_map f l) s) (sym (drop_next xs i x lt here)) ∙ before

pub mapped_list_searched : {X Y Z : Type 0} (test : Y → Bool) (g : X → Z) (f : Z → List Y) (xs : List X) (i : ℕ) (x : X) (s next whole : Search) → i < length xs → x ≡ get_or xs i x
    → next ≡ search_by test (f (g x)) s → search_by test (flat_map f (map g (drop i xs))) s ≡ whole → search_by test (flat_map f (map g (drop (i + 1) xs))) next ≡ whole
mapped_list_searched test g f xs i x s next whole lt here is before =
    ap (λ n. search_by test (flat_map f (map g (drop (i + 1) xs))) n) is ∙ sym (search_both test (f (g x)) (flat_map f (map g (drop (i + 1) xs))) s)
    ∙ ap (λ l. search_by test (flat_map f (map g l)) s) (sym (drop_next xs i x lt here)) ∙ before

-- ---- the thread program that a program reads from

pub empty_name : (name : List ℕ) → nat_eq (length name) 0 ≡ bytes_eq name []
empty_name [] = refl
empty_name (b ∷ name) = grind arith

pub read_with_run : (run : SystemMethod) (r : Reading) → stage_instance (reading_with_run (Some run) r) ≡ stage_instance r
read_with_run run reading.Nothing = refl
read_with_run run reading.Once = refl
read_with_run run (reading.Set inputs bys) = refl
read_with_run run (reading.Merge inputs bys retains) = refl
read_with_run run (reading.From instance workers columns) = refl

read_next : (instance : List ℕ) (t : ThreadInstance) (b : Bool) (some : List Location) (threads : List ThreadInstance)
    → some ≡ flat_map parameters_at threads → (if b then parameters_at t else []) ++ some ≡ flat_map parameters_at (if b then t ∷ threads else threads)
read_next instance t true some threads h = ap (λ l. parameters_at t ++ l) h
read_next instance t false some threads h = h

pub parameters_read : (instance : List ℕ) (threads : List ThreadInstance)
    → flat_map (read_parameters instance) threads ≡ flat_map parameters_at (filter (λ (t : ThreadInstance). bytes_eq t.name instance) threads)
parameters_read instance [] = refl
parameters_read instance (t ∷ threads) =
    read_next instance t (bytes_eq t.name instance) (flat_map (read_parameters instance) threads) (filter (λ (x : ThreadInstance). bytes_eq x.name instance) threads) (parameters_read instance threads)
