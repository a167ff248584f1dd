-- Deeds with further ones behind them.
use Rattle.std.proofs.Common.{◌≡◌, ℕ, suc, ◌+◌, ◌<◌, List, [], ◌∷◌, ◌++◌, length, drop, get_or, refl, sym, ap, ◌∙◌, append_assoc, append-nil, drop-cons, add-one}
use Rattle.std.proofs.lemmas.List.{get_or_default}
use Rattle.ds2_locality.specs.Deeds.{Deed}
use Rattle.ds2_deeds.specs.declared.deed.NumberedDeed.{NumberedDeed}
use Rattle.ds2_deeds.specs.NumberedDeeds.{ProgramNumbers, numbered_deed, numbered_deeds, with_deeds}

pub none_added : (n : ProgramNumbers) (deeds : List NumberedDeed) → with_deeds n [] deeds ≡ deeds
unfolding with_deeds
none_added n deeds = append-nil deeds

both_numbered : (n : ProgramNumbers) (xs ys : List Deed) → numbered_deeds n (xs ++ ys) ≡ numbered_deeds n xs ++ numbered_deeds n ys
both_numbered n [] ys = refl
both_numbered n (x ∷ xs) ys = ap (λ l. numbered_deed n x ++ l) (both_numbered n xs ys) ∙ sym (append_assoc (numbered_deed n x) (numbered_deeds n xs) (numbered_deeds n ys))

pub both_added : (n : ProgramNumbers) (xs ys : List Deed) (deeds : List NumberedDeed) → with_deeds n (xs ++ ys) deeds ≡ with_deeds n ys (with_deeds n xs deeds)
unfolding with_deeds
both_added n xs ys deeds = ap (λ l. deeds ++ l) (both_numbered n xs ys) ∙ sym (append_assoc deeds (numbered_deeds n xs) (numbered_deeds n ys))

-- deeds with those of one thing behind them are those with an equal one's
pub equal_added : {A : Type 0} (n : ProgramNumbers) (of : A → List Deed) (x y : A) (before grown : List NumberedDeed) → x ≡ y → grown ≡ with_deeds n (of x) before → grown ≡ with_deeds n (of y) before
equal_added n of x y before grown is e = e ∙ ap (λ z. with_deeds n (of z) before) is

-- deeds that grow by two parts in turn
pub two_added : (n : ProgramNumbers) (xs ys : List Deed) (before first grown : List NumberedDeed) → first ≡ with_deeds n xs before → grown ≡ with_deeds n ys first → grown ≡ with_deeds n (xs ++ ys) before
two_added n xs ys before first grown a b = b ∙ ap (λ d. with_deeds n ys d) a ∙ sym (both_added n xs ys before)

-- ---- items in order

pub drop_next : {X : Type 0} (xs : List X) (i : ℕ) (x : X) → i < length xs → x ≡ get_or xs i x → drop i xs ≡ x ∷ drop (i + 1) xs
drop_next xs i x lt here = drop-cons xs i x lt ∙ ap (λ y. y ∷ drop (suc i) xs) (sym here) ∙ ap (λ j. x ∷ drop j xs) (sym (add-one i))

-- one item more has been looked at
pub item_added : {X : Type 0} (n : ProgramNumbers) (whole_of : List X → List Deed) (of : X → List Deed) → ((x : X) (xs : List X) → whole_of (x ∷ xs) ≡ of x ++ whole_of xs)
    → (xs : List X) (i : ℕ) (x : X) (deeds next whole : List NumberedDeed) → i < length xs → x ≡ get_or xs i x → next ≡ with_deeds n (of x) deeds
    → with_deeds n (whole_of (drop i xs)) deeds ≡ whole → with_deeds n (whole_of (drop (i + 1) xs)) next ≡ whole
item_added n whole_of of step xs i x deeds next whole lt here is before =
    let rest = whole_of (drop (i + 1) xs) in
    ap (λ d. with_deeds n rest d) is ∙ sym (both_added n (of x) rest deeds) ∙ ap (λ l. with_deeds n l deeds) (sym (step x (drop (i + 1) xs)))
    ∙ ap (λ l. with_deeds n (whole_of l) deeds) (sym (drop_next xs i x lt here)) ∙ before

-- one number more has been looked at
pub number_added : (n : ProgramNumbers) (whole_of : List ℕ → List Deed) (of : ℕ → List Deed) → ((x : ℕ) (xs : List ℕ) → whole_of (x ∷ xs) ≡ of x ++ whole_of xs)
    → (xs : List ℕ) (i : ℕ) (deeds next whole : List NumberedDeed) → i < length xs → next ≡ with_deeds n (of (get_or xs i 0)) deeds
    → with_deeds n (whole_of (drop i xs)) deeds ≡ whole → with_deeds n (whole_of (drop (i + 1) xs)) next ≡ whole
number_added n whole_of of step xs i deeds next whole lt is before =
    item_added n whole_of of step xs i (get_or xs i 0) deeds next whole lt (get_or_default xs i 0 (get_or xs i 0) lt) is before
