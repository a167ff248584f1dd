-- Where blanks stand in a text.
use Rattle.std.proofs.Common.{◌≡◌, ◌≤◌, ◌<◌, ◌+◌, ℕ, zero, suc, Bool, true, false, List, [], ◌∷◌, ◌++◌, ◌-◌, Option, Some, None, length, get_or, take, refl, sym, ap, ◌∙◌, arith, length-append}
use Rattle.std.specs.Prelude.{if◌then◌else◌, not, option_map, ◌||◌, ◌==◌, IfSome}
use Rattle.std.specs.Option.{option_map_or, option_or}
use Rattle.std.specs.Str.{IsCharBoundary}
use Rattle.std.proofs.Math.Seq.{take-suc}
use Rattle.std.proofs.lemmas.Bool.{eqb-true}
use Rattle.ds2_csv_cells.specs.Spelling.{is_blank}
use Rattle.ds2_csv.specs.Header.{last_place, without_last_blanks}

-- a blank is ASCII
pub blank-ascii : (c : ℕ) → is_blank c ≡ true → c < 128
blank-ascii c h = by (c == 32) refl h
  where
    by : (b : Bool) → (c == 32) ≡ b → (b || (c == 9)) ≡ true → c < 128
    by true e g = let k = eqb-true c 32 e in omega arith
    by false e g = let k = eqb-true c 9 g in omega arith

-- one more item
pub last-more : (test : ℕ → Bool) (xs : List ℕ) (c : ℕ) → last_place test (xs ++ (c ∷ [])) ≡ (if test c then Some (length xs) else last_place test xs)
last-more test [] c = by (test c)
  where
    by : (b : Bool) → option_or {T = ℕ} None (if b then Some 0 else None) ≡ (if b then Some 0 else None)
    by true = refl
    by false = refl
last-more test (x ∷ xs) c =
    ap (λ (o : Option ℕ). option_or (option_map (λ i. i + 1) o) (if test x then Some 0 else None)) (last-more test xs c) ∙ by (test c)
  where
    by : (b : Bool) → option_or (option_map (λ i. i + 1) (if b then Some (length xs) else last_place test xs)) (if test x then Some 0 else None)
        ≡ (if b then Some (suc (length xs)) else option_or (option_map (λ i. i + 1) (last_place test xs)) (if test x then Some 0 else None))
    by true = ap (λ (n : ℕ). Some n) (omega arith)
    by false = refl

pub last-took : (test : ℕ → Bool) (xs : List ℕ) (i : ℕ) → i < length xs → last_place test (take (suc i) xs) ≡ (if test (get_or xs i 0) then Some i else last_place test (take i xs))
last-took test xs i h =
    ap (λ (t : List ℕ). last_place test t) (take-suc xs i 0 h) ∙ last-more test (take i xs) (get_or xs i 0)
    ∙ ap (λ n. if test (get_or xs i 0) then Some n else last_place test (take i xs)) (long xs i h)
  where
    long : (ys : List ℕ) (n : ℕ) → n < length ys → length (take n ys) ≡ n
    long ys zero l = refl
    long [] (suc n) l = absurd (omega arith)
    long (y ∷ ys) (suc n) l = ap (λ (k : ℕ). suc k) (long ys n (omega arith))

-- the item there passes
pub last-at : (test : ℕ → Bool) (xs : List ℕ) (k : ℕ) → last_place test xs ≡ Some k → (k < length xs) × (test (get_or xs k 0) ≡ true)
last-at test [] k h = cc h
last-at test (x ∷ xs) k h = by (last_place test xs) refl (test x) refl h (last-at test xs)
  where
    by : (o : Option ℕ) → last_place test xs ≡ o → (b : Bool) → test x ≡ b → option_or (option_map (λ i. i + 1) o) (if b then Some 0 else None) ≡ Some k
        → ((j : ℕ) → last_place test xs ≡ Some j → (j < length xs) × (test (get_or xs j 0) ≡ true)) → (k < suc (length xs)) × (test (get_or (x ∷ xs) k 0) ≡ true)
    by (Some j) e b f g more =
        let same : k ≡ suc j = let s : j + 1 ≡ k = cc g in omega arith in
        let t = more j e in
        rw same (omega (arith, t.0), t.1)
    by None e true f g more = let same : k ≡ 0 = cc g in rw same (omega arith, f)
    by None e false f g more = cc g

pub last-bounds : (xs : List ℕ) (o : Option ℕ) → o ≡ last_place is_blank xs → IfSome o (λ i. i < length xs) × IfSome o (λ i. get_or xs i 0 < 128)
last-bounds xs None h = (tt, tt)
last-bounds xs (Some k) h = let t = last-at is_blank xs k (sym h) in (t.0, blank-ascii (get_or xs k 0) t.1)

-- a blank at the end does not count, and what is no blank ends the text
take-front : (xs ys : List ℕ) (n : ℕ) → n ≤ length xs → take n (xs ++ ys) ≡ take n xs
take-front xs ys zero h = refl
take-front [] ys (suc n) h = absurd (omega arith)
take-front (x ∷ xs) ys (suc n) h = ap (λ (t : List ℕ). x ∷ t) (take-front xs ys n (omega arith))

pub take-whole : (xs : List ℕ) (n : ℕ) → length xs ≤ n → take n xs ≡ xs
take-whole [] zero h = refl
take-whole [] (suc n) h = refl
take-whole (x ∷ xs) zero h = absurd (omega arith)
take-whole (x ∷ xs) (suc n) h = ap (λ (t : List ℕ). x ∷ t) (take-whole xs n (omega arith))

abbrev end_of : Option ℕ → ℕ
end_of o = option_map_or (λ i. i + 1) o 0

end-within : (test : ℕ → Bool) (xs : List ℕ) → end_of (last_place test xs) ≤ length xs
end-within test xs = by (last_place test xs) refl
  where
    by : (o : Option ℕ) → last_place test xs ≡ o → end_of o ≤ length xs
    by None e = omega arith
    by (Some k) e = let t = last-at test xs k e in omega (arith, t.0)

ends-blank : (xs : List ℕ) (c : ℕ) → is_blank c ≡ true → without_last_blanks (xs ++ (c ∷ [])) ≡ without_last_blanks xs
ends-blank xs c h =
    let same : last_place (λ d. not (is_blank d)) (xs ++ (c ∷ [])) ≡ last_place (λ d. not (is_blank d)) xs =
    last-more (λ d. not (is_blank d)) xs c ∙ ap (λ b. if not b then Some (length xs) else last_place (λ d. not (is_blank d)) xs) h in
    ap (λ (o : Option ℕ). take (end_of o) (xs ++ (c ∷ []))) same ∙ take-front xs (c ∷ []) (end_of (last_place (λ d. not (is_blank d)) xs)) (end-within (λ d. not (is_blank d)) xs)

ends-text : (xs : List ℕ) (c : ℕ) → is_blank c ≡ false → without_last_blanks (xs ++ (c ∷ [])) ≡ xs ++ (c ∷ [])
ends-text xs c h =
    let same : last_place (λ d. not (is_blank d)) (xs ++ (c ∷ [])) ≡ Some (length xs) =
    last-more (λ d. not (is_blank d)) xs c ∙ ap (λ b. if not b then Some (length xs) else last_place (λ d. not (is_blank d)) xs) h in
    ap (λ (o : Option ℕ). take (end_of o) (xs ++ (c ∷ []))) same ∙ take-whole (xs ++ (c ∷ [])) (length xs + 1) (omega (arith, length-append xs (c ∷ [])))

pub end-falls : (xs whole : List ℕ) (n m : ℕ) → 0 < n → n ≤ length xs → m ≡ n - 1 → is_blank (get_or xs m 0) ≡ true → without_last_blanks (take n xs) ≡ whole → without_last_blanks (take m xs) ≡ whole
end-falls xs whole n m some within is blank before =
    let e : n ≡ suc m = omega arith in
    sym (ends-blank (take m xs) (get_or xs m 0) blank) ∙ ap without_last_blanks (sym (take-suc xs m 0 (omega arith))) ∙ ap (λ k. without_last_blanks (take k xs)) (sym e) ∙ before

pub end-found : (xs whole : List ℕ) (n m : ℕ) → 0 < n → n ≤ length xs → m ≡ n - 1 → is_blank (get_or xs m 0) ≡ false → without_last_blanks (take n xs) ≡ whole → take n xs ≡ whole
end-found xs whole n m some within is text before =
    let e : n ≡ suc m = omega arith in
    ap (λ k. take k xs) e ∙ take-suc xs m 0 (omega arith) ∙ sym (ends-text (take m xs) (get_or xs m 0) text) ∙ ap without_last_blanks (sym (take-suc xs m 0 (omega arith)))
    ∙ ap (λ k. without_last_blanks (take k xs)) (sym e) ∙ before

-- a text may be cut at its blanks
pub cut-end : (xs : List ℕ) (i : ℕ) → i ≤ length xs → (i < length xs → get_or xs i 0 < 128) → IsCharBoundary xs i
cut-end xs i within blank = (within, λ l g. absurd (let b = blank l in omega arith))
