-- Tokens among tokens: their order, and distinct names.
use Rattle.std.proofs.Common.{◌≡◌, ◌⊎◌, inl, inr, ℕ, bytes_eq, Bool, true, false, not, ◌&&◌, List, [], ◌∷◌, ◌++◌, map, filter, cond, refl, sym, ◌∙◌, subst, true≢false}
use Rattle.std.specs.List.{list_any, AllByRecursion}
use Rattle.std.proofs.lemmas.Bool.{and_from, or_from, or_parts, false_from_ne_true, not_from_false}
use Rattle.std.proofs.lemmas.Slice.Eq.{bytes_eq-Decides}
use Rattle.ds2_base.specs.declared.place.Place.{Place}
use Rattle.ds2_token.specs.declared.token.Token.{Token}
use Rattle.ds2_tree.specs.Lists.{one_token, all_spelled}
use Rattle.ds2_meaning.specs.IsTyped.{are_distinct}
use Rattle.ds2_meaning.specs.ProgramTree.{is_listed}
use Rattle.ds2_names.specs.NameRules.{from_each, later_places}
use Rattle.ds2_names.specs.SourceUnit.{spelled_name, PlacedName, placed_name, names_alone, is_earlier}
use Rattle.ds2_elaboration.specs.ElaborationLaws.{StandsAmong}
use Rattle.ds2_elaboration.specs.TypedPrograms.{StandInOrder}
use Rattle.ds2_elaboration.proofs.Lookups.{of_among, for_each, among_append, among_second}

-- ---- tokens among tokens, in their order

pub data Within : List Token → List Token → Type 0 where
  nothing : Within [] []
  kept : (x : Token) {xs ys : List Token} → Within xs ys → Within (x ∷ xs) (x ∷ ys)
  passed : (y : Token) {xs ys : List Token} → Within xs ys → Within xs (y ∷ ys)

pub none_within : (ys : List Token) → Within [] ys
none_within [] = nothing
none_within (y ∷ ys) = passed y (none_within ys)

pub itself_within : (xs : List Token) → Within xs xs
itself_within [] = nothing
itself_within (x ∷ xs) = kept x (itself_within xs)

pub behind_others : (others : List Token) {xs ys : List Token} → Within xs ys → Within xs (others ++ ys)
behind_others [] w = w
behind_others (o ∷ others) w = passed o (behind_others others w)

pub before_others : (others : List Token) {xs ys : List Token} → Within xs ys → Within xs (ys ++ others)
before_others others nothing = none_within others
before_others others (kept x w) = kept x (before_others others w)
before_others others (passed y w) = passed y (before_others others w)

pub both_within : {xs ys us vs : List Token} → Within xs ys → Within us vs → Within (xs ++ us) (ys ++ vs)
both_within nothing v = v
both_within (kept x w) v = kept x (both_within w v)
both_within (passed y w) v = passed y (both_within w v)

all_within : (P : Token → Type 0) {xs ys : List Token} → Within xs ys → AllByRecursion P ys → AllByRecursion P xs
all_within P nothing f = tt
all_within P (kept x w) f = (f.0, all_within P w f.1)
all_within P (passed y w) f = all_within P w f.1

pub order_within : {xs ys : List Token} → Within xs ys → StandInOrder ys → StandInOrder xs
order_within nothing o = tt
order_within (kept t w) o = (all_within (λ (later : Token). is_earlier t.place later.place ≡ true) w o.0, order_within w o.1)
order_within (passed t w) o = order_within w o.1

-- tokens that are spelled one by one
pub tokens_within : (tokens others : List Token) → Within tokens (all_spelled one_token tokens ++ others)
tokens_within [] others = none_within others
tokens_within (t ∷ tokens) others = kept t (tokens_within tokens others)

-- parts of parts
pub parts_within : {A : Type 0} (part : A → List Token) (spelling : A → List Token) → ((x : A) → Within (part x) (spelling x)) → (xs : List A)
    → Within (from_each part xs) (all_spelled spelling xs)
parts_within part spelling w [] = nothing
parts_within part spelling w (x ∷ xs) = both_within (w x) (parts_within part spelling w xs)

-- ---- tokens of two kinds

-- one place stands before the other
abbrev pub AreApart : Place → Place → Type 0
AreApart a b = (is_earlier a b ≡ true) ⊎ (is_earlier b a ≡ true)

pub within_among : {xs ys : List Token} → Within xs ys → (t : Token) → StandsAmong xs t → StandsAmong ys t
within_among nothing t m = absurd m
within_among (kept x w) t m = elim m [
  | inl e ↦ inl e
  | inr k ↦ inr (within_among w t k)
]
within_among (passed y w) t m = inr (within_among w t m)

parts_earlier : (xs ys : List Token) → StandInOrder (xs ++ ys) → (a b : Token) → StandsAmong xs a → StandsAmong ys b → is_earlier a.place b.place ≡ true
parts_earlier [] ys o a b m k = absurd m
parts_earlier (x ∷ xs) ys o a b m k = elim m [
  | inl e ↦ subst (λ (t : Token). is_earlier t.place b.place ≡ true) (sym e)
      (of_among (λ (later : Token). is_earlier x.place later.place ≡ true) (xs ++ ys) b o.0 (among_second xs ys b k))
  | inr n ↦ parts_earlier xs ys o.1 a b n k
]

-- where no part has tokens of both kinds, a token of one kind and one of the other kind stand apart
pub kinds_apart : {A : Type 0} (f g spelling : A → List Token) → ((x : A) → Within (f x) (spelling x)) → ((x : A) → Within (g x) (spelling x))
    → ((x : A) → (f x ≡ []) ⊎ (g x ≡ [])) → (xs : List A) → StandInOrder (all_spelled spelling xs) → (a b : Token) → StandsAmong (from_each f xs) a
    → StandsAmong (from_each g xs) b → AreApart a.place b.place
kinds_apart f g spelling v w n [] o a b m k = absurd m
kinds_apart f g spelling v w n (x ∷ xs) o a b m k =
    let rest = all_spelled spelling xs in
    let later = order_within (behind_others (spelling x) (itself_within rest)) o in
    elim (among_append (f x) (from_each f xs) a m) [
      | inl p ↦ elim (among_append (g x) (from_each g xs) b k) [
        | inl q ↦ absurd (in_neither (f x) (g x) a b (n x) p q)
        | inr q ↦ inl (parts_earlier (spelling x) rest o a b (within_among (v x) a p) (within_among (parts_within g spelling w xs) b q))
      ]
      | inr p ↦ elim (among_append (g x) (from_each g xs) b k) [
        | inl q ↦ inr (parts_earlier (spelling x) rest o b a (within_among (w x) b q) (within_among (parts_within f spelling v xs) a p))
        | inr q ↦ kinds_apart f g spelling v w n xs later a b p q
      ]
    ]
  where
    in_neither : (xs ys : List Token) (a b : Token) → (xs ≡ []) ⊎ (ys ≡ []) → StandsAmong xs a → StandsAmong ys b → ⊥
    in_neither xs ys a b (inl e) p q = subst (λ (ts : List Token). StandsAmong ts a) e p
    in_neither xs ys a b (inr e) p q = subst (λ (ts : List Token). StandsAmong ts b) e q

-- ---- distinct names

pub same_bytes : (a b : List ℕ) → bytes_eq a b ≡ true → a ≡ b
same_bytes a b h = (bytes_eq-Decides a b).0 h

pub bytes_are : (a b : List ℕ) → a ≡ b → bytes_eq a b ≡ true
bytes_are a b e = (bytes_eq-Decides a b).1 e

pub turned_bytes : (a b : List ℕ) → bytes_eq a b ≡ false → bytes_eq b a ≡ false
turned_bytes a b h = false_from_ne_true (bytes_eq b a) (λ e. true≢false (sym (bytes_are a b (sym (same_bytes b a e))) ∙ h))

-- a name was given before, at an earlier place
abbrev pub is_given_before : PlacedName → PlacedName → Bool
is_given_before n o = bytes_eq o.name n.name && is_earlier o.place n.place

-- none of these names was given before among all
abbrev pub NotGivenBefore : List PlacedName → List PlacedName → Type 0
NotGivenBefore all names = AllByRecursion (λ (n : PlacedName). AllByRecursion (λ (o : PlacedName). is_given_before n o ≡ false) all) names

none_passes : {A : Type 0} (test : A → Bool) (xs : List A) → list_any test xs ≡ false → AllByRecursion (λ (x : A). test x ≡ false) xs
none_passes test [] h = tt
none_passes test (x ∷ xs) h = let p = or_parts (test x) (list_any test xs) h in (p.0, none_passes test xs p.1)

no_places_left : (names : List PlacedName) → map (λ (n : PlacedName). n.place) names ≡ [] → names ≡ []
no_places_left [] h = refl
no_places_left (n ∷ names) h = cc

filtered_if : {A : Type 0} (b : Bool) (x : A) (rest : List A) → cond b (x ∷ rest) rest ≡ [] → (b ≡ false) × (rest ≡ [])
filtered_if true x rest h = cc
filtered_if false x rest h = (refl, h)

pub none_left : {A : Type 0} (test : A → Bool) (xs : List A) → filter test xs ≡ [] → AllByRecursion (λ (x : A). test x ≡ false) xs
none_left test [] h = tt
none_left test (x ∷ xs) h = let p = filtered_if (test x) x (filter test xs) h in (p.0, none_left test xs p.1)

each_not_before : (all names : List PlacedName) → AllByRecursion (λ (n : PlacedName). list_any (is_given_before n) all ≡ false) names → NotGivenBefore all names
each_not_before all [] h = tt
each_not_before all (n ∷ names) h = (none_passes (is_given_before n) all h.0, each_not_before all names h.1)

pub not_given_before : (names : List PlacedName) → later_places names ≡ [] → NotGivenBefore names names
not_given_before names h =
    let test = λ (n : PlacedName). list_any (λ (o : PlacedName). bytes_eq o.name n.name && is_earlier o.place n.place) names in
    each_not_before names names (none_left test names (no_places_left (filter test names) h))

given_among : (all : List PlacedName) → NotGivenBefore all all → (n o : PlacedName) → StandsAmong all n → StandsAmong all o → is_given_before n o ≡ false
given_among all f n o m k =
    of_among (λ (x : PlacedName). is_given_before n x ≡ false) all o
    (of_among (λ (x : PlacedName). AllByRecursion (λ (y : PlacedName). is_given_before x y ≡ false) all) all n f m) k

-- names among all
pub among_not_before : (all names : List PlacedName) → ((n : PlacedName) → StandsAmong names n → StandsAmong all n) → NotGivenBefore all all → NotGivenBefore names names
among_not_before all names inside f =
    for_each (λ (n : PlacedName). AllByRecursion (λ (o : PlacedName). is_given_before n o ≡ false) names) names (λ n m.
    for_each (λ (o : PlacedName). is_given_before n o ≡ false) names (λ o k. given_among all f n o (inside n m) (inside o k)))

-- what is said of a first name and of those behind it
split_before : (x : PlacedName) (xs names : List PlacedName) → NotGivenBefore (x ∷ xs) names
    → AllByRecursion (λ (n : PlacedName). is_given_before n x ≡ false) names × NotGivenBefore xs names
split_before x xs [] f = (tt, tt)
split_before x xs (n ∷ names) f = let p = split_before x xs names f.1 in ((f.0.0, p.0), (f.0.1, p.1))

and_false : (a b : Bool) → (a && b) ≡ false → b ≡ true → a ≡ false
and_false true b h e = absurd (true≢false (sym e ∙ h))
and_false false b h e = refl

-- two names that stand apart are two names
pub differ : (all : List PlacedName) → NotGivenBefore all all → (n o : PlacedName) → StandsAmong all n → StandsAmong all o → AreApart n.place o.place
    → bytes_eq n.name o.name ≡ false
differ all f n o m k apart = elim apart [
  | inl earlier ↦ and_false (bytes_eq n.name o.name) (is_earlier n.place o.place) (given_among all f o n k m) earlier
  | inr earlier ↦ turned_bytes o.name n.name (and_false (bytes_eq o.name n.name) (is_earlier o.place n.place) (given_among all f n o m k) earlier)
]

unlisted : (t : Token) (tokens : List Token) → AllByRecursion (λ (later : Token). is_earlier t.place later.place ≡ true) tokens
    → AllByRecursion (λ (n : PlacedName). is_given_before n (placed_name t) ≡ false) (map placed_name tokens)
    → is_listed (names_alone (map placed_name tokens)) (spelled_name t) ≡ false
unlisted t [] o f = refl
unlisted t (later ∷ tokens) o f =
    or_from (bytes_eq (spelled_name later) (spelled_name t)) (is_listed (names_alone (map placed_name tokens)) (spelled_name t))
    (turned_bytes (spelled_name t) (spelled_name later) (and_false (bytes_eq (spelled_name t) (spelled_name later)) (is_earlier t.place later.place) f.0 o.0))
    (unlisted t tokens o.1 f.1)

-- tokens in order give distinct names where none is given twice
pub distinct_tokens : (tokens : List Token) → StandInOrder tokens → NotGivenBefore (map placed_name tokens) (map placed_name tokens)
    → are_distinct (names_alone (map placed_name tokens)) ≡ true
distinct_tokens [] o f = refl
distinct_tokens (t ∷ tokens) o f =
    let rest = map placed_name tokens in
    let p = split_before (placed_name t) rest rest f.1 in
    and_from (not (is_listed (names_alone rest) (spelled_name t))) (are_distinct (names_alone rest))
    (not_from_false (is_listed (names_alone rest) (spelled_name t)) (unlisted t tokens o.0 p.0))
    (distinct_tokens tokens o.1 p.1)
