-- Items of lists: which stand among them, and which is found first.
use Rattle.std.proofs.Common.{◌≡◌, ◌⊎◌, inl, inr, cond, is_some, Bool, true, false, List, [], ◌∷◌, ◌++◌, map, find, Option, Some, refl, sym, ap, subst}
use Rattle.std.specs.List.{AllByRecursion}
use Rattle.ds2_elaboration.specs.ElaborationLaws.{StandsAmong}

-- ---- items of lists

pub of_among : {A : Type 0} (P : A → Type 0) (xs : List A) (x : A) → AllByRecursion P xs → StandsAmong xs x → P x
of_among P [] x f m = absurd m
of_among P (y ∷ ys) x f m = elim m [
  | inl e ↦ subst P (sym e) f.0
  | inr k ↦ of_among P ys x f.1 k
]

pub for_each : {A : Type 0} (P : A → Type 0) (xs : List A) → ((x : A) → StandsAmong xs x → P x) → AllByRecursion P xs
for_each P [] f = tt
for_each P (x ∷ xs) f = (f x (inl refl), for_each P xs (λ y k. f y (inr k)))

pub among_append : {A : Type 0} (xs ys : List A) (a : A) → StandsAmong (xs ++ ys) a → StandsAmong xs a ⊎ StandsAmong ys a
among_append [] ys a m = inr m
among_append (x ∷ xs) ys a m = elim m [
  | inl e ↦ inl (inl e)
  | inr k ↦ elim (among_append xs ys a k) [
    | inl p ↦ inl (inr p)
    | inr q ↦ inr q
  ]
]

pub among_first : {A : Type 0} (xs ys : List A) (a : A) → StandsAmong xs a → StandsAmong (xs ++ ys) a
among_first [] ys a m = absurd m
among_first (x ∷ xs) ys a m = elim m [
  | inl e ↦ inl e
  | inr k ↦ inr (among_first xs ys a k)
]

pub among_second : {A : Type 0} (xs ys : List A) (a : A) → StandsAmong ys a → StandsAmong (xs ++ ys) a
among_second [] ys a m = m
among_second (x ∷ xs) ys a m = inr (among_second xs ys a m)

pub mapped_among : {A B : Type 0} (f : A → B) (xs : List A) (x : A) → StandsAmong xs x → StandsAmong (map f xs) (f x)
mapped_among f [] x m = absurd m
mapped_among f (y ∷ ys) x m = elim m [
  | inl e ↦ inl (ap f e)
  | inr k ↦ inr (mapped_among f ys x k)
]

pub all_append : {A : Type 0} (P : A → Type 0) (xs ys : List A) → AllByRecursion P xs → AllByRecursion P ys → AllByRecursion P (xs ++ ys)
all_append P [] ys f g = g
all_append P (x ∷ xs) ys f g = (f.0, all_append P xs ys f.1 g)

-- ---- the first item that passes a test

found_if : {A : Type 0} (P : A → Type 0) (b : Bool) (x y : A) (rest : Option A) → (b ≡ true → P x) → (rest ≡ Some y → P y) → cond b (Some x) rest ≡ Some y → P y
found_if P true x y rest f g h = subst P (one_found x y h) (f refl)
  where
    one_found : {B : Type 0} (p q : B) → Some p ≡ Some q → p ≡ q
    one_found p q e = cc
found_if P false x y rest f g h = g h

pub found_passes : {A : Type 0} (test : A → Bool) (xs : List A) (x : A) → find test xs ≡ Some x → test x ≡ true
found_passes test [] x h = cc
found_passes test (y ∷ ys) x h = found_if (λ z. test z ≡ true) (test y) y x (find test ys) (λ e. e) (found_passes test ys x) h

pub of_found : {A : Type 0} (P : A → Type 0) (test : A → Bool) (xs : List A) (x : A) → AllByRecursion P xs → find test xs ≡ Some x → P x
of_found P test [] x f h = cc
of_found P test (y ∷ ys) x f h = found_if P (test y) y x (find test ys) (λ e. f.0) (of_found P test ys x f.1) h

found_anyway : {A : Type 0} (b : Bool) (x : A) (rest : Option A) → is_some rest ≡ true → is_some (cond b (Some x) rest) ≡ true
found_anyway true x rest h = refl
found_anyway false x rest h = h

pub found_behind : {A : Type 0} (test : A → Bool) (xs ys : List A) → is_some (find test ys) ≡ true → is_some (find test (xs ++ ys)) ≡ true
found_behind test [] ys h = h
found_behind test (x ∷ xs) ys h = found_anyway (test x) x (find test (xs ++ ys)) (found_behind test xs ys h)
