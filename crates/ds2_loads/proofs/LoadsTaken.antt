-- The loads of a group that was entered, one after the other.
use Rattle.std.proofs.Common.{◌≡◌, ℕ, zero, suc, ◌-◌, ◌<◌, Bool, true, false, List, [], ◌∷◌, map, take, drop, length, Option, None, Some, refl, sym, ap, ◌∙◌, subst, arith}
use Rattle.std.specs.Prelude.{slice_get}
use Rattle.ds2_code.specs.Desk.{SlotSettings}
use Rattle.ds2_loads.specs.ProgramSources.{at_most}
use Rattle.ds2_loads.specs.Sources.{IsNextLoad}
use Rattle.ds2_loads.proofs.CursorSteps.{alone_there}

nothing_taken : {A : Type 0} (n : ℕ) → take {A = A} n [] ≡ []
nothing_taken zero = refl
nothing_taken (suc n) = refl

one_taken : (n : ℕ) (before left : List SlotSettings) (load : SlotSettings) → 0 < n → before ≡ load ∷ left → take n before ≡ load ∷ take (n - 1) left
one_taken zero before left load some is = absurd (omega (arith, some))
one_taken (suc n) before left load some is =
    let same : n ≡ suc n - 1 = omega arith in
    ap (λ (xs : List SlotSettings). take (suc n) xs) is ∙ ap (λ k. load ∷ take k left) same

-- all loads that a cursor has left
pub all_left : (b : Bool) (before left : List SlotSettings) (load : SlotSettings) (most after : Option ℕ) → most ≡ None → after ≡ most → IsNextLoad b before load left → IsNextLoad b (at_most most before) load (at_most after left)
all_left b before left load most after none same h =
    let P : Option ℕ → Option ℕ → Type 0 = λ m n. IsNextLoad b (at_most m before) load (at_most n left) in
    let Q : Option ℕ → Type 0 = λ m. P m None in
    let R : Option ℕ → Type 0 = λ n. P most n in
    subst R (sym (same ∙ none)) (subst Q (sym none) h)

-- some of them
pub some_left : (b : Bool) (before left : List SlotSettings) (load : SlotSettings) (most after : Option ℕ) (n : ℕ) → most ≡ Some n → 0 < n → after ≡ Some (n - 1) → IsNextLoad b before load left
    → IsNextLoad b (at_most most before) load (at_most after left)
some_left true before left load most after n some more same h =
    ap (λ m. at_most m before) some ∙ one_taken n before left load more h ∙ ap (λ m. load ∷ at_most m left) (sym same)
some_left false before left load most after n some more same h =
    ap (λ m. at_most m before) some ∙ ap (λ (xs : List SlotSettings). take n xs) h ∙ nothing_taken n

-- none
pub none_more : (before : List SlotSettings) (most : Option ℕ) (n : ℕ) → most ≡ Some n → n ≡ 0 → at_most most before ≡ []
none_more before most n some none = ap (λ m. at_most m before) some ∙ ap (λ k. take k before) none

pub ruleset next_taken = (all_left, some_left, none_more)

-- ---- a row of a thread program

taken_of_map : {A B : Type 0} (f : A → B) (n : ℕ) (xs : List A) → take n (map f xs) ≡ map f (take n xs)
taken_of_map f zero xs = refl
taken_of_map f (suc n) [] = refl
taken_of_map f (suc n) (x ∷ xs) = ap (λ z. f x ∷ z) (taken_of_map f n xs)

pub row_there : {A B : Type 0} (f : A → B) (xs one : List A) (g : ℕ) → g < length xs → one ≡ take 1 (drop g xs) → slice_get (map (λ x. f x ∷ []) xs) g ≡ Some (map f one)
row_there f xs one g here is = alone_there f xs g here ∙ ap Some (taken_of_map f 1 (drop g xs)) ∙ ap (λ ys. Some (map f ys)) (sym is)
