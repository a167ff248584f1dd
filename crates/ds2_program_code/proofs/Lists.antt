-- Items of lists by their numbers, and what stands beside them.
use Rattle.std.proofs.Common.{◌≡◌, ℕ, zero, suc, ◌+◌, ◌<◌, ◌≤◌, Bool, true, false, ◌||◌, List, [], ◌∷◌, ◌++◌, length, map, flat_map, slice_get, bytes_eq, Option, Some, None, refl, sym, ap, ◌∙◌, subst, arith, append_assoc, length-append, if◌then◌else◌}
use Rattle.std.specs.List.{list_any}
use Rattle.std.specs.Option.{option_map}
use Rattle.std.proofs.lemmas.Bool.{true≢false, or_from}
use Rattle.std.proofs.lemmas.Slice.Eq.{bytes_eq-Decides}
use Rattle.ds2_code.specs.declared.instr.Instr.{Instr}
use Rattle.ds2_gen.specs.CodePieces.{StandsAt}
use Rattle.ds2_program_code.specs.PlacedProgram.{number_of_first}

pub same_some : {X : Type 0} (a b : X) → Some a ≡ Some b → a ≡ b
same_some a b e = cc

-- ---- truths

or_assoc : (a b c : Bool) → (a || (b || c)) ≡ ((a || b) || c)
or_assoc true b c = refl
or_assoc false b c = refl

swap_by : (a b : List ℕ) (s t : Bool) → bytes_eq a b ≡ s → bytes_eq b a ≡ t → s ≡ t
swap_by a b true true e f = refl
swap_by a b false false e f = refl
swap_by a b true false e f = sym ((bytes_eq-Decides b a).1 (sym ((bytes_eq-Decides a b).0 e))) ∙ f
swap_by a b false true e f = sym e ∙ (bytes_eq-Decides a b).1 (sym ((bytes_eq-Decides b a).0 f))

-- names are compared either way
pub bytes_swap : (a b : List ℕ) → bytes_eq a b ≡ bytes_eq b a
bytes_swap a b = swap_by a b (bytes_eq a b) (bytes_eq b a) refl refl

pub bytes_self : (a : List ℕ) → bytes_eq a a ≡ true
bytes_self a = (bytes_eq-Decides a a).1 refl

-- ---- some item passes a test

pub any_append : {X : Type 0} (test : X → Bool) (xs ys : List X) → list_any test (xs ++ ys) ≡ (list_any test xs || list_any test ys)
any_append test [] ys = refl
any_append test (x ∷ xs) ys = ap (λ b. test x || b) (any_append test xs ys) ∙ or_assoc (test x) (list_any test xs) (list_any test ys)

pub none_in_both : {X : Type 0} (test : X → Bool) (xs ys : List X) → list_any test xs ≡ false → list_any test ys ≡ false → list_any test (xs ++ ys) ≡ false
none_in_both test xs ys e f = any_append test xs ys ∙ or_from (list_any test xs) (list_any test ys) e f

or_front : (a b : Bool) → a ≡ true → (a || b) ≡ true
or_front true b e = refl
or_front false b e = absurd (true≢false (sym e))

or_back : (a b : Bool) → b ≡ true → (a || b) ≡ true
or_back true b e = refl
or_back false b e = e

pub any_in_front : {X : Type 0} (test : X → Bool) (xs ys : List X) → list_any test xs ≡ true → list_any test (xs ++ ys) ≡ true
any_in_front test xs ys e = any_append test xs ys ∙ or_front (list_any test xs) (list_any test ys) e

pub any_in_back : {X : Type 0} (test : X → Bool) (xs ys : List X) → list_any test ys ≡ true → list_any test (xs ++ ys) ≡ true
any_in_back test xs ys e = any_append test xs ys ∙ or_back (list_any test xs) (list_any test ys) e

pub any_map : {A X : Type 0} (test : X → Bool) (f : A → X) (xs : List A) → list_any test (map f xs) ≡ list_any (λ x. test (f x)) xs
any_map test f [] = refl
any_map test f (x ∷ xs) = ap (λ b. test (f x) || b) (any_map test f xs)

pub none_of : {X : Type 0} (test : X → Bool) (xs : List X) → ((x : X) → test x ≡ false) → list_any test xs ≡ false
none_of test [] h = refl
none_of test (x ∷ xs) h = or_from (test x) (list_any test xs) (h x) (none_of test xs h)

pub none_mapped : {A X : Type 0} (test : X → Bool) (f : A → X) (xs : List A) → ((x : A) → test (f x) ≡ false) → list_any test (map f xs) ≡ false
none_mapped test f xs h = any_map test f xs ∙ none_of (λ x. test (f x)) xs h

pub none_flat : {A X : Type 0} (test : X → Bool) (f : A → List X) (xs : List A) → ((x : A) → list_any test (f x) ≡ false) → list_any test (flat_map f xs) ≡ false
none_flat test f [] h = refl
none_flat test f (x ∷ xs) h = none_in_both test (f x) (flat_map f xs) (h x) (none_flat test f xs h)

-- ---- the number of the first

abbrev numbered : Bool → Option ℕ → Option ℕ
numbered b o = if b then Some 0 else option_map (λ k. suc k) o

number_by_any : (b rest : Bool) (o : Option ℕ) → (b || rest) ≡ true → (rest ≡ true → (n : ℕ) × (o ≡ Some n)) → (n : ℕ) × (numbered b o ≡ Some n)
number_by_any true rest o e later = (0, refl)
number_by_any false rest o e later =
    let it = later e in
    (suc it.0, ap (λ x. option_map (λ k. suc k) x) it.1)

pub number_of_any : {X : Type 0} (test : X → Bool) (xs : List X) → list_any test xs ≡ true → (n : ℕ) × (number_of_first test xs ≡ Some n)
number_of_any test [] e = absurd (true≢false (sym e))
number_of_any test (x ∷ xs) e = number_by_any (test x) (list_any test xs) (number_of_first test xs) e (λ f. number_of_any test xs f)

no_number_by : (b rest : Bool) (o : Option ℕ) → (b || rest) ≡ false → (rest ≡ false → o ≡ None) → numbered b o ≡ None
no_number_by true rest o e later = absurd (true≢false e)
no_number_by false rest o e later = ap (λ x. option_map (λ k. suc k) x) (later e)

pub no_number : {X : Type 0} (test : X → Bool) (xs : List X) → list_any test xs ≡ false → number_of_first test xs ≡ None
no_number test [] e = refl
no_number test (x ∷ xs) e = no_number_by (test x) (list_any test xs) (number_of_first test xs) e (λ f. no_number test xs f)

front_by : (b : Bool) (o p : Option ℕ) (n : ℕ) → numbered b o ≡ Some n → ((k : ℕ) → o ≡ Some k → p ≡ Some k) → numbered b p ≡ Some n
front_by true o p n e h = e
front_by false None p n e h = absurd cc
front_by false (Some k) p n e h = ap (λ x. option_map (λ i. suc i) x) (h k refl) ∙ e

pub number_in_front : {X : Type 0} (test : X → Bool) (xs ys : List X) (n : ℕ) → number_of_first test xs ≡ Some n → number_of_first test (xs ++ ys) ≡ Some n
number_in_front test [] ys n e = absurd cc
number_in_front test (x ∷ xs) ys n e = front_by (test x) (number_of_first test xs) (number_of_first test (xs ++ ys)) n e (λ k f. number_in_front test xs ys k f)

shifted : (m : ℕ) (q : Option ℕ) → option_map (λ k. suc k) (option_map (λ k. m + k) q) ≡ option_map (λ k. suc m + k) q
shifted m None = refl
shifted m (Some k) = let e : suc (m + k) ≡ suc m + k = omega arith in ap Some e

unshifted : (q : Option ℕ) → q ≡ option_map (λ k. 0 + k) q
unshifted None = refl
unshifted (Some k) = let e : k ≡ 0 + k = omega arith in ap Some e

behind_by : (b rest : Bool) (p q : Option ℕ) (m : ℕ) → (b || rest) ≡ false → (rest ≡ false → p ≡ option_map (λ k. m + k) q) → numbered b p ≡ option_map (λ k. suc m + k) q
behind_by true rest p q m e h = absurd (true≢false e)
behind_by false rest p q m e h = ap (λ x. option_map (λ k. suc k) x) (h e) ∙ shifted m q

pub number_in_back : {X : Type 0} (test : X → Bool) (xs ys : List X) → list_any test xs ≡ false → number_of_first test (xs ++ ys) ≡ option_map (λ k. length xs + k) (number_of_first test ys)
number_in_back test [] ys e = unshifted (number_of_first test ys)
number_in_back test (x ∷ xs) ys e = behind_by (test x) (list_any test xs) (number_of_first test (xs ++ ys)) (number_of_first test ys) (length xs) e (λ f. number_in_back test xs ys f)

-- ---- slices

pub slice_in_front : {X : Type 0} (xs ys : List X) (n : ℕ) (x : X) → slice_get xs n ≡ Some x → slice_get (xs ++ ys) n ≡ Some x
slice_in_front [] ys n x e = absurd cc
slice_in_front (y ∷ xs) ys zero x e = e
slice_in_front (y ∷ xs) ys (suc n) x e = slice_in_front xs ys n x e

pub slice_in_back : {X : Type 0} (xs ys : List X) (n : ℕ) → slice_get (xs ++ ys) (length xs + n) ≡ slice_get ys n
slice_in_back [] ys n = let e : 0 + n ≡ n = omega arith in ap (λ k. slice_get ys k) e
slice_in_back (x ∷ xs) ys n = let e : suc (length xs) + n ≡ suc (length xs + n) = omega arith in ap (λ k. slice_get (x ∷ (xs ++ ys)) k) e ∙ slice_in_back xs ys n

pub slice_mapped : {A X : Type 0} (f : A → X) (xs : List A) (n : ℕ) → slice_get (map f xs) n ≡ option_map f (slice_get xs n)
slice_mapped f [] n = refl
slice_mapped f (x ∷ xs) zero = refl
slice_mapped f (x ∷ xs) (suc n) = slice_mapped f xs n

pub slice_below : {X : Type 0} (xs : List X) (n : ℕ) → n < length xs → (x : X) × (slice_get xs n ≡ Some x)
slice_below [] n less = let no : n < 0 = less in absurd (omega arith)
slice_below (x ∷ xs) zero less = (x, refl)
slice_below (x ∷ xs) (suc n) less = slice_below xs n (omega arith)

inside_by : (b : Bool) (o : Option ℕ) (n m : ℕ) → numbered b o ≡ Some n → ((k : ℕ) → o ≡ Some k → k < m) → n < suc m
inside_by true o n m e h = let here : 0 ≡ n = same_some 0 n e in omega arith
inside_by false None n m e h = absurd cc
inside_by false (Some k) n m e h =
    let next : suc k ≡ n = same_some (suc k) n e in
    let less : k < m = h k refl in
    omega arith

pub number_inside : {X : Type 0} (test : X → Bool) (xs : List X) (n : ℕ) → number_of_first test xs ≡ Some n → n < length xs
number_inside test [] n e = absurd cc
number_inside test (x ∷ xs) n e = inside_by (test x) (number_of_first test xs) n (length xs) e (λ k f. number_inside test xs k f)

pub slice_of_front : {X : Type 0} (xs ys : List X) (n : ℕ) → n < length xs → slice_get (xs ++ ys) n ≡ slice_get xs n
slice_of_front [] ys n less = let no : n < 0 = less in absurd (omega arith)
slice_of_front (x ∷ xs) ys zero less = refl
slice_of_front (x ∷ xs) ys (suc n) less = slice_of_front xs ys n (omega arith)

-- the first item that passes a test stands at its number
passes_by : {X : Type 0} (test : X → Bool) (b : Bool) (x : X) (xs : List X) (n : ℕ) (o : Option ℕ) → test x ≡ b → numbered b o ≡ Some n → ((k : ℕ) → o ≡ Some k → (y : X) × (slice_get xs k ≡ Some y) × (test y ≡ true))
    → (y : X) × (slice_get (x ∷ xs) n ≡ Some y) × (test y ≡ true)
passes_by test true x xs n o passes e later = (x, ap (λ k. slice_get (x ∷ xs) k) (sym (same_some 0 n e)), passes)
passes_by test false x xs n None passes e later = absurd cc
passes_by test false x xs n (Some k) passes e later =
    let it = later k refl in
    (it.0, ap (λ m. slice_get (x ∷ xs) m) (sym (same_some (suc k) n e)) ∙ it.1, it.2)

pub number_passes : {X : Type 0} (test : X → Bool) (xs : List X) (n : ℕ) → number_of_first test xs ≡ Some n → (y : X) × (slice_get xs n ≡ Some y) × (test y ≡ true)
number_passes test [] n e = absurd cc
number_passes test (x ∷ xs) n e = passes_by test (test x) x xs n (number_of_first test xs) refl e (λ k f. number_passes test xs k f)

-- an item that passes a test is one that does
pub any_at : {X : Type 0} (test : X → Bool) (xs : List X) (k : ℕ) (y : X) → slice_get xs k ≡ Some y → test y ≡ true → list_any test xs ≡ true
any_at test [] k y e passes = absurd cc
any_at test (x ∷ xs) zero y e passes = ap (λ b. b || list_any test xs) (ap test (same_some x y e) ∙ passes)
any_at test (x ∷ xs) (suc k) y e passes = or_back (test x) (list_any test xs) (any_at test xs k y e passes)

-- ---- what stands beside the first item that passes a test

abbrev pub Beside : {X Y : Type 0} → (X → Bool) → List X → List Y → Y → Type 0
Beside test xs ys y = (n : ℕ) × (number_of_first test xs ≡ Some n) × (slice_get ys n ≡ Some y)

pub beside_here : {X Y : Type 0} (test : X → Bool) (x : X) (xs : List X) (y : Y) (ys : List Y) → test x ≡ true → Beside test (x ∷ xs) (y ∷ ys) y
beside_here test x xs y ys e = (0, ap (λ b. numbered b (number_of_first test xs)) e, refl)

pub beside_later : {X Y : Type 0} (test : X → Bool) (x : X) (xs : List X) (y : Y) (ys : List Y) (z : Y) → test x ≡ false → Beside test xs ys z → Beside test (x ∷ xs) (y ∷ ys) z
beside_later test x xs y ys z e it = (suc it.0, ap (λ b. numbered b (number_of_first test xs)) e ∙ ap (λ o. option_map (λ k. suc k) o) it.1, it.2)

pub beside_in_front : {X Y : Type 0} (test : X → Bool) (xs others : List X) (ys more : List Y) (z : Y) → Beside test xs ys z → Beside test (xs ++ others) (ys ++ more) z
beside_in_front test xs others ys more z it = (it.0, number_in_front test xs others it.0 it.1, slice_in_front ys more it.0 z it.2)

pub beside_in_back : {X Y : Type 0} (test : X → Bool) (xs others : List X) (ys more : List Y) (z : Y) → list_any test xs ≡ false → length xs ≡ length ys → Beside test others more z → Beside test (xs ++ others) (ys ++ more) z
beside_in_back test xs others ys more z none same it = (
  length xs + it.0,
  number_in_back test xs others none ∙ ap (λ o. option_map (λ k. length xs + k) o) it.1,
  ap (λ k. slice_get (ys ++ more) (k + it.0)) same ∙ slice_in_back ys more it.0 ∙ it.2,
)

-- ---- instructions

pub stands : (front is back : List Instr) → StandsAt (front ++ (is ++ back)) (length front) is
stands front [] back = tt
stands front (i ∷ is) back =
    let here : length front ≡ length front + 0 = omega arith in
    let all = front ++ (i ∷ (is ++ back)) in
    let next : length (front ++ i ∷ []) ≡ length front + 1 = length-append front (i ∷ []) in (
      ap (λ k. slice_get all k) here ∙ slice_in_back front (i ∷ (is ++ back)) 0,
      subst (λ k. StandsAt all k is) next (subst (λ l. StandsAt l (length (front ++ i ∷ [])) is) (append_assoc front (i ∷ []) (is ++ back)) (stands (front ++ i ∷ []) is back)),
    )

pub stands_in : (all front is back : List Instr) (at : ℕ) → all ≡ front ++ (is ++ back) → length front ≡ at → StandsAt all at is
stands_in all front is back at e f = subst (λ k. StandsAt all k is) f (subst (λ l. StandsAt l (length front) is) (sym e) (stands front is back))

pub inside_list : (all front is back : List Instr) (at : ℕ) → all ≡ front ++ (is ++ back) → length front ≡ at → 1 ≤ length is → at < length all
inside_list all front is back at e f some =
    let size : length all ≡ length (front ++ (is ++ back)) = ap (λ (l : List Instr). length l) e in
    omega (arith, length-append front (is ++ back), length-append is back, size, f, some)
