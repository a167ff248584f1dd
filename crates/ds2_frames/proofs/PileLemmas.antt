-- The topmost values of a pile.
use Rattle.std.proofs.Common.{◌≡◌, ℕ, zero, suc, ◌+◌, ◌-◌, ◌<◌, ◌≤◌, List, [], ◌∷◌, ◌++◌, Option, Some, None, length, take, drop, refl, sym, ap, ◌∙◌, ◌⊎◌, ⊎_elim, inl, inr, append_assoc, arith, length-append, length-drop, length-take}
use Rattle.std.specs.Prelude.{replicate, reverse, slice_set}
use Rattle.std.proofs.lemmas.List.{drop-append-le, drop-take, append-nil, reverse-append, reverse-reverse, length-reverse, take-append-drop}
use Rattle.std.proofs.Math.ListN.{drop_of_length-le}
use Rattle.std.proofs.Math.Seq.{drop-append_seam}
use Rattle.std.proofs.lemmas.Grind.{common_steps}
use Rattle.ds2_value.specs.declared.value.Value.{Value}
use Rattle.ds2_value.specs.declared.value.Value.TheVariants.{Null}
use Rattle.ds2_code.specs.Desk.{Taken, take_off}

-- the first values of a stack, taken off
taken_front : (xs below values : List Value) → take_off (length xs) values (xs ++ below) ≡ Some (record { values = reverse xs ++ values; below = below })
taken_front [] below values = refl
taken_front (x ∷ xs) below values =
    taken_front xs below (x ∷ values)
    ∙ ap (λ (vs : List Value). Some (record { values = vs; below = below })) (sym (ap (λ (z : List Value). z ++ values) (reverse-append (x ∷ []) xs) ∙ append_assoc (reverse xs) (x ∷ []) values))

fewer : (n : ℕ) (values stack : List Value) → length stack < n → take_off n values stack ≡ None
fewer zero values stack h = absurd (omega (arith, h))
fewer (suc n) values [] h = refl
fewer (suc n) values (v ∷ stack) h = fewer n (v ∷ values) stack (omega arith)

pub dropped : (own : List Value) (n : ℕ) → n ≤ length own → drop n (reverse own) ≡ reverse (take (length own - n) own)
dropped own n h =
    let k = length own - n in
    let split : reverse own ≡ reverse (drop k own) ++ reverse (take k own) = ap reverse (sym (take-append-drop k own)) ∙ reverse-append (take k own) (drop k own) in
    let number : length (reverse (drop k own)) ≡ n = omega (arith, length-reverse (drop k own), length-drop k own) in
    ap (drop n) split ∙ ap (λ m. drop m (reverse (drop k own) ++ reverse (take k own))) (sym number) ∙ drop-append_seam (reverse (drop k own)) (reverse (take k own))

pub taken_some : (own : List Value) (n : ℕ) → n ≤ length own → take_off n [] (reverse own) ≡ Some (record { values = drop (length own - n) own; below = drop n (reverse own) })
taken_some own n h =
    let k = length own - n in
    let split : reverse own ≡ reverse (drop k own) ++ reverse (take k own) = ap reverse (sym (take-append-drop k own)) ∙ reverse-append (take k own) (drop k own) in
    let number : length (reverse (drop k own)) ≡ n = omega (arith, length-reverse (drop k own), length-drop k own) in
    ap (take_off n []) split
    ∙ ap (λ m. take_off m [] (reverse (drop k own) ++ reverse (take k own))) (sym number)
    ∙ taken_front (reverse (drop k own)) (reverse (take k own)) []
    ∙ ap (λ (vs : List Value). Some (record { values = vs; below = reverse (take k own) })) (ap (λ (z : List Value). z ++ []) (reverse-reverse (drop k own)) ∙ append-nil (drop k own))
    ∙ ap (λ (b : List Value). Some (record { values = drop k own; below = b })) (sym (dropped own n h))

pub taken_none : (own : List Value) (n : ℕ) → length own < n → take_off n [] (reverse own) ≡ None
taken_none own n h = fewer n [] (reverse own) (omega (arith, length-reverse own))

pub ruleset taken = (taken_some, taken_none)

-- the values that are kept in the place of which one is put
two_ways : (n m : ℕ) → (n ≤ m) ⊎ (m < n)
two_ways zero m = inl (omega arith)
two_ways (suc n) zero = inr (omega arith)
two_ways (suc n) (suc m) = ⊎_elim (λ (h : n ≤ m). inl (omega arith)) (λ (h : m < n). inr (omega arith)) (two_ways n m)

kept_by : (own : List Value) (n : ℕ) → (n ≤ length own) ⊎ (length own < n) → drop n (reverse own) ≡ reverse (take (length own - n) own)
kept_by own n (inl h) = dropped own n h
kept_by own n (inr h) =
    let none : length own - n ≡ 0 = omega arith in
    drop_of_length-le (reverse own) {i = n} (omega (arith, length-reverse own)) ∙ sym (ap (λ k. reverse (take k own)) none)

pub kept_stack : (own : List Value) (n : ℕ) → drop n (reverse own) ≡ reverse (take (length own - n) own)
kept_stack own n = kept_by own n (two_ways n (length own))

pub shortened_stack : (items : List Value) (base n : ℕ) → reverse (drop base (take (base + (length items - base - n)) items)) ≡ drop n (reverse (drop base items))
shortened_stack items base n =
    let own = drop base items in
    let number : length own ≡ length items - base = length-drop base items in
    ap reverse (drop-take base (length items - base - n) items)
    ∙ ap (λ m. reverse (take (m - n) own)) (sym number) ∙ sym (kept_stack own n)

pub ruleset shortened = (shortened_stack)

pub dropped_set : (items : List Value) (base n : ℕ) (v : Value) → drop base (slice_set items (base + n) v) ≡ slice_set (drop base items) n v
dropped_set items zero n v = ap (λ k. slice_set items k v) (omega arith)
dropped_set [] (suc b) n v = refl
dropped_set (x ∷ xs) (suc b) n v =
    let one : suc b + n ≡ suc (b + n) = omega arith in
    ap (λ k. drop (suc b) (slice_set (x ∷ xs) k v)) one ∙ dropped_set xs b n v

-- one null, and those that follow it
pub nulls_next : (n : ℕ) → 0 < n → replicate n Null ≡ Null ∷ replicate (n - 1) Null
nulls_next zero h = absurd (omega (arith, h))
nulls_next (suc n) h = ap (λ k. Null ∷ replicate k Null) (omega arith)
