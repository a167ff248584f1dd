-- How often a name stands in a list: distinct names stand there once.
use Rattle.std.proofs.Common.{◌≡◌, ℕ, suc, ◌+◌, ◌≤◌, bytes_eq, Bool, true, false, not, ◌||◌, List, [], ◌∷◌, ◌++◌, if◌then◌else◌, refl, ap, ◌∙◌, subst, arith}
use Rattle.std.proofs.lemmas.Bool.{and_parts, and_from, or_parts, not_from_false}
use Rattle.ds2_meaning.specs.IsTyped.{are_distinct}
use Rattle.ds2_meaning.specs.ProgramTree.{is_listed}
use Rattle.ds2_names.specs.NameRules.{from_each}
use Rattle.ds2_elaboration.proofs.Distinct.{not_true}
use Rattle.ds2_elaboration.proofs.Orders.{same_bytes, bytes_are}

-- how often a name stands in a list
abbrev pub times : List (List ℕ) → List ℕ → ℕ
times [] name = 0
times (n ∷ names) name = if bytes_eq n name then suc (times names name) else times names name

added_if : (b : Bool) (p q r : ℕ) → p ≡ q + r → (if b then suc p else p) ≡ (if b then suc q else q) + r
added_if true p q r e = omega (arith, e)
added_if false p q r e = e

pub times_append : (xs ys : List (List ℕ)) (name : List ℕ) → times (xs ++ ys) name ≡ times xs name + times ys name
times_append [] ys name = omega arith
times_append (x ∷ xs) ys name = added_if (bytes_eq x name) (times (xs ++ ys) name) (times xs name) (times ys name) (times_append xs ys name)

unlisted_not : (names : List (List ℕ)) (name : List ℕ) → is_listed names name ≡ false → times names name ≡ 0
unlisted_not [] name h = refl
unlisted_not (n ∷ names) name h =
    let p = or_parts (bytes_eq n name) (is_listed names name) h in
    ap (λ b. if b then suc (times names name) else times names name) p.0 ∙ unlisted_not names name p.1

not_unlisted_if : (b listed : Bool) (k : ℕ) → (k ≡ 0 → listed ≡ false) → (if b then suc k else k) ≡ 0 → (b || listed) ≡ false
not_unlisted_if true listed k f h = absurd (omega (arith, h))
not_unlisted_if false listed k f h = f h

not_unlisted : (names : List (List ℕ)) (name : List ℕ) → times names name ≡ 0 → is_listed names name ≡ false
not_unlisted [] name h = refl
not_unlisted (n ∷ names) name h = not_unlisted_if (bytes_eq n name) (is_listed names name) (times names name) (not_unlisted names name) h

once_if : (b : Bool) (n name : List ℕ) (names : List (List ℕ)) → bytes_eq n name ≡ b → is_listed names n ≡ false → times names name ≤ 1
    → (if b then suc (times names name) else times names name) ≤ 1
once_if true n name names e u h =
    let none = unlisted_not names name (subst (λ (x : List ℕ). is_listed names x ≡ false) (same_bytes n name e) u) in omega (arith, none)
once_if false n name names e u h = h

-- distinct names stand there at most once
pub once_of_distinct : (names : List (List ℕ)) → are_distinct names ≡ true → (name : List ℕ) → times names name ≤ 1
once_of_distinct [] h name = omega arith
once_of_distinct (n ∷ names) h name =
    let p = and_parts (not (is_listed names n)) (are_distinct names) h in
    once_if (bytes_eq n name) n name names refl (not_true (is_listed names n) p.0) (once_of_distinct names p.1 name)

fewer_if : (b : Bool) (k : ℕ) → (if b then suc k else k) ≤ 1 → k ≤ 1
fewer_if true k h = omega (arith, h)
fewer_if false k h = h

none_further : (k : ℕ) → suc k ≤ 1 → k ≡ 0
none_further k h = omega (arith, h)

-- names that stand there at most once are distinct
pub distinct_of_once : (names : List (List ℕ)) → ((name : List ℕ) → times names name ≤ 1) → are_distinct names ≡ true
distinct_of_once [] f = refl
distinct_of_once (n ∷ names) f =
    let own = subst (λ b. (if b then suc (times names n) else times names n) ≤ 1) (bytes_are n n refl) (f n) in
    and_from (not (is_listed names n)) (are_distinct names)
    (not_from_false (is_listed names n) (not_unlisted names n (none_further (times names n) own)))
    (distinct_of_once names (λ name. fewer_if (bytes_eq n name) (times names name) (f name)))

-- names that stand no more often than distinct ones
pub distinct_below : (names others : List (List ℕ)) → ((name : List ℕ) → times names name ≤ times others name) → are_distinct others ≡ true → are_distinct names ≡ true
distinct_below names others f h =
    distinct_of_once names (λ name. let own = f name in let once = once_of_distinct others h name in omega (arith, own, once))

-- four names that come of each item, and those of the items themselves
pub four_counted : {A : Type 0} (a b c d e : A → List (List ℕ)) (name : List ℕ)
    → ((x : A) → times (a x) name + times (b x) name + times (c x) name + times (d x) name ≤ times (e x) name) → (xs : List A)
    → times (from_each a xs) name + times (from_each b xs) name + times (from_each c xs) name + times (from_each d xs) name ≤ times (from_each e xs) name
four_counted a b c d e name f [] = omega arith
four_counted a b c d e name f (x ∷ xs) =
    let own = f x in
    let rest = four_counted a b c d e name f xs in
    let ea : times (from_each a (x ∷ xs)) name ≡ times (a x) name + times (from_each a xs) name = times_append (a x) (from_each a xs) name in
    let eb : times (from_each b (x ∷ xs)) name ≡ times (b x) name + times (from_each b xs) name = times_append (b x) (from_each b xs) name in
    let ec : times (from_each c (x ∷ xs)) name ≡ times (c x) name + times (from_each c xs) name = times_append (c x) (from_each c xs) name in
    let ed : times (from_each d (x ∷ xs)) name ≡ times (d x) name + times (from_each d xs) name = times_append (d x) (from_each d xs) name in
    let ee : times (from_each e (x ∷ xs)) name ≡ times (e x) name + times (from_each e xs) name = times_append (e x) (from_each e xs) name in
    omega (arith, own, rest, ea, eb, ec, ed, ee)
