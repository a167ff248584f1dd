-- Rounds that add the methods that methods call, until one adds none.
use Rattle.std.proofs.Common.{◌≡◌, ◌<◌, ◌≤◌, ℕ, zero, suc, ◌-◌, ◌+◌, Bool, true, false, List, [], ◌∷◌, ◌++◌, length, drop, get_or, refl, sym, ap, ◌∙◌, length-append, append_assoc, append-nil, arith}
use Rattle.std.proofs.lemmas.Bool.Decides.{Decides-eqb}
use Rattle.std.proofs.lemmas.Grind.{flat_map-append}
use Rattle.std.proofs.lemmas.List.{get_or_default}
use Rattle.std.proofs.lemmas.List.Folds.{list_any-append}
use Rattle.std.proofs.lemmas.List.Prefix.{front_rest}
use Rattle.std.specs.Prelude.{◌||◌, ◌==◌, if◌then◌else◌, flat_map}
use Rattle.ds2_deeds.specs.declared.deed.NumberedDeed.{NumberedDeed}
use Rattle.ds2_deeds.specs.NumberedCalls.{is_one_of_numbers, with_one_number, with_numbers, calls_by_number, numbers_reached}
use Rattle.ds2_deeds.proofs.DeedLemmas.{drop_next}

pub with_both : (numbers xs ys : List ℕ) → with_numbers numbers (xs ++ ys) ≡ with_numbers (with_numbers numbers xs) ys
with_both numbers [] ys = refl
with_both numbers (x ∷ xs) ys = with_both (with_one_number numbers x) xs ys

-- the numbers that one more brings have been added
pub numbers_added : (of : ℕ → List ℕ) (xs : List ℕ) (i : ℕ) (now next whole : List ℕ) → i < length xs → next ≡ with_numbers now (of (get_or xs i 0))
    → with_numbers now (flat_map of (drop i xs)) ≡ whole → with_numbers next (flat_map of (drop (i + 1) xs)) ≡ whole
numbers_added of xs i now next whole lt is before =
    let x = get_or xs i 0 in
    let rest = flat_map of (drop (i + 1) xs) in
    ap (λ l. with_numbers l rest) is ∙ sym (with_both now (of x) rest) ∙ ap (λ l. with_numbers now (flat_map of l)) (sym (drop_next xs i x lt (get_or_default xs i 0 x lt))) ∙ before

-- numbers are added, and none is taken away

no_fewer_by : (xs ys : List ℕ) (y : ℕ) (b : Bool) → length (if b then xs else xs ++ y ∷ []) ≤ length ys → length xs ≤ length ys
no_fewer_by xs ys y true h = h
no_fewer_by xs ys y false h = omega (arith, length-append xs (y ∷ []), h)

no_fewer : (xs ys : List ℕ) → length xs ≤ length (with_numbers xs ys)
no_fewer xs [] = omega arith
no_fewer xs (y ∷ ys) = no_fewer_by xs (with_numbers (with_one_number xs y) ys) y (is_one_of_numbers xs y) (no_fewer (with_one_number xs y) ys)

-- where there are no more numbers than before, they are those

same_by : (xs ys : List ℕ) (y : ℕ) (b : Bool) → (length (with_numbers xs ys) ≡ length xs → with_numbers xs ys ≡ xs)
    → length (with_numbers (if b then xs else xs ++ y ∷ []) ys) ≡ length xs → with_numbers (if b then xs else xs ++ y ∷ []) ys ≡ xs
same_by xs ys y true later e = later e
same_by xs ys y false later e = absurd (omega (arith, length-append xs (y ∷ []), no_fewer (xs ++ y ∷ []) ys, e))

pub same_numbers : (xs ys : List ℕ) → length (with_numbers xs ys) ≡ length xs → with_numbers xs ys ≡ xs
same_numbers xs [] e = refl
same_numbers xs (y ∷ ys) e = same_by xs ys y (is_one_of_numbers xs y) (λ f. same_numbers xs ys f) e

-- ---- what was added is there

grown_by : (numbers : List ℕ) (x y : ℕ) (b : Bool) → is_one_of_numbers numbers x ≡ true → is_one_of_numbers (if b then numbers else numbers ++ y ∷ []) x ≡ true
grown_by numbers x y true there = there
grown_by numbers x y false there = list_any-append (λ other. other == x) numbers (y ∷ []) ∙ ap (λ b. b || is_one_of_numbers (y ∷ []) x) there

still_there : (numbers ys : List ℕ) (x : ℕ) → is_one_of_numbers numbers x ≡ true → is_one_of_numbers (with_numbers numbers ys) x ≡ true
still_there numbers [] x there = there
still_there numbers (y ∷ ys) x there = still_there (with_one_number numbers y) ys x (grown_by numbers x y (is_one_of_numbers numbers y) there)

there_by : (numbers : List ℕ) (x : ℕ) (b : Bool) → is_one_of_numbers numbers x ≡ b → is_one_of_numbers (if b then numbers else numbers ++ x ∷ []) x ≡ true
there_by numbers x true e = e
there_by numbers x false e =
    list_any-append (λ other. other == x) numbers (x ∷ []) ∙ ap (λ b. b || is_one_of_numbers (x ∷ []) x) e ∙ ap (λ b. b || false) ((Decides-eqb x x).1 refl)

-- numbers that are added once more change nothing
once_more : (numbers xs : List ℕ) → with_numbers (with_numbers numbers xs) xs ≡ with_numbers numbers xs
once_more numbers [] = refl
once_more numbers (x ∷ xs) =
    let first = with_one_number numbers x in
    let whole = with_numbers first xs in
    ap (λ b. with_numbers (if b then whole else whole ++ x ∷ []) xs) (still_there first xs x (there_by numbers x (is_one_of_numbers numbers x) refl)) ∙ once_more first xs

-- what is added stands behind what was there

behind_by : (numbers xs : List ℕ) (x : ℕ) (b : Bool) → ((ns : List ℕ) → (more : List ℕ) × (with_numbers ns xs ≡ ns ++ more))
    → (more : List ℕ) × (with_numbers (if b then numbers else numbers ++ x ∷ []) xs ≡ numbers ++ more)
behind_by numbers xs x true later = later numbers
behind_by numbers xs x false later = let rest = later (numbers ++ x ∷ []) in (x ∷ rest.0, rest.1 ∙ append_assoc numbers (x ∷ []) rest.0)

behind : (numbers xs : List ℕ) → (more : List ℕ) × (with_numbers numbers xs ≡ numbers ++ more)
behind numbers [] = ([], sym (append-nil numbers))
behind numbers (x ∷ xs) = behind_by numbers xs x (is_one_of_numbers numbers x) (λ ns. behind ns xs)

module _ (all : List (List NumberedDeed)) where
  -- one round
  abbrev pub past_round : List ℕ → List ℕ
  past_round numbers = with_numbers numbers (flat_map (calls_by_number all) numbers)

  -- what is reached where the calls of the numbers at the front are there
  abbrev pub past_fresh : ℕ → List ℕ → List ℕ
  past_fresh walked numbers = with_numbers numbers (flat_map (calls_by_number all) (drop walked numbers))

  -- behind a round the calls of all that it began with are there
  pub walked_on : (numbers next : List ℕ) (count : ℕ) → next ≡ past_round numbers → count ≡ length numbers → past_fresh count next ≡ past_round next
  walked_on numbers next count is long =
      let calls = flat_map (calls_by_number all) in
      let added = behind numbers (calls numbers) in
      let parts = is ∙ added.1 in
      let there = ap (λ l. with_numbers l (calls numbers)) is ∙ once_more numbers (calls numbers) ∙ sym is in
      ap (λ l. with_numbers next (calls l)) (ap (λ n. drop n next) long ∙ front_rest next numbers added.0 parts) ∙ ap (λ l. with_numbers l (calls added.0)) (sym there) ∙ sym (with_both next (calls numbers) (calls added.0))
      ∙ ap (λ l. with_numbers next l) (sym (flat_map-append (calls_by_number all) numbers added.0)) ∙ ap (λ l. with_numbers next (calls l)) (sym parts)

  pub no_fewer_reached : (numbers next : List ℕ) (count : ℕ) → next ≡ past_round numbers → count ≡ length numbers → count ≤ length next
  no_fewer_reached numbers next count is long = omega (arith, long, no_fewer numbers (flat_map (calls_by_number all) numbers), ap (λ l. length l) is)

  -- behind a round that adds none, no further one does
  stays : (k : ℕ) (numbers : List ℕ) → past_round numbers ≡ numbers → numbers_reached all k numbers ≡ numbers
  stays zero numbers e = refl
  stays (suc k) numbers e = ap (λ l. numbers_reached all k l) e ∙ stays k numbers e

  -- a round has been made
  pub round_made : (rounds i : ℕ) (numbers next whole : List ℕ) → i < rounds → next ≡ past_round numbers → numbers_reached all (rounds - i) numbers ≡ whole
      → numbers_reached all (rounds - (i + 1)) next ≡ whole
  round_made rounds i numbers next whole lt is before =
      let e : rounds - i ≡ suc (rounds - (i + 1)) = omega (arith, lt) in
      ap (λ l. numbers_reached all (rounds - (i + 1)) l) is ∙ ap (λ k. numbers_reached all k numbers) (sym e) ∙ before

  -- a round has added none
  pub none_reached : (left : ℕ) (numbers next whole : List ℕ) → next ≡ past_round numbers → length next ≡ length numbers → numbers_reached all left numbers ≡ whole → next ≡ whole
  none_reached left numbers next whole is long before =
      let same = same_numbers numbers (flat_map (calls_by_number all) numbers) (ap (λ l. length l) (sym is) ∙ long) in
      is ∙ same ∙ sym (stays left numbers same) ∙ before
