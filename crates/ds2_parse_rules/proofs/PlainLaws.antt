-- The laws of parts that open no level, and of optional parts and lists of them.
use Rattle.std.proofs.Common.{◌≡◌, ℕ, ◌<◌, Bool, true, false, codes, List, [], ◌∷◌, ◌++◌, length, map, Option, None, Some, refl, sym as flip, ap, ap₂, ◌∙◌, subst, arith, append_assoc}
use Rattle.std.specs.List.{list_any}
use Rattle.std.specs.Str.{bytes_eq}
use Rattle.ds2_base.specs.declared.place.Place.{Place}
use Rattle.ds2_token.specs.declared.token.Token.{Token}
use Rattle.ds2_token.specs.Words.{is_word, is_name_token}
use Rattle.ds2_tree.specs.Parsers.{ParserOutcome, Read, Unexpected, TooDeep, Spent, Parser, One, Two, first, kept, when, choose_by, to, seq, many_of, optional, chain}
use Rattle.ds2_tree.proofs.Goes.{goes}
use Rattle.ds2_tree.proofs.Rules.{Rule}
use Rattle.ds2_tree.proofs.Words.{Part, sym, Law, Passes, kept_part, kept_law, then_part, then_law, to_law, choice_part, choice_law, optional_part, optional_law, flat, flat_opens, each, many_part, many_law, chain_law, link_part}
use Rattle.ds2_tree.specs.Marks.{comma_mark}
use Rattle.ds2_tree.specs.Lists.{one_token, if_any, all_spelled, IfAny, Each, SomeOf, HasComma, HasNoComma, Separated}
use Rattle.ds2_parse_rules.specs.GrammarTokens.{mark_rule, word_rule, is_comma_mark, starts, one_or_more, behind_commas, comma_list}
use Rattle.ds2_parse_rules.proofs.GrammarTokenLaws.{word_value, place_part, mark_law, Behind, word_token, start}

-- ---- the same trees, spelled alike

module _ {A : Type 0} {m n : ℕ} {Q : Part A} (R : Part A) {p : Parser A} (l : Law m n Q p)
    (spelled : (a : A) → R.spelling a ≡ Q.spelling a) (opened : (a : A) → R.opens a ≡ Q.opens a)
    (there : (a : A) → Q.Fine a → R.Fine a) (back : (a : A) → R.Fine a → Q.Fine a)
    (next : (a : A) (o : Option Token) → R.Fine a → R.Next a o → Q.Next a o) (left : (a : A) (o : Option Token) → Q.Left a o → R.Left a o) where
  alike_rule : (ts : List Token) (o : ParserOutcome A) → Rule (sym Q) m [] ts o → Rule (sym R) m [] ts o
  alike_rule ts (Read a r) (w, e, sp, good) = (w, e, spelled a ∙ sp, (there a good.0, opened a ∙ good.1, left a (first r) good.2))
  alike_rule ts (Unexpected r) (w, e, (a, tail, f, sp)) = (w, e, (a, tail, there a f, spelled a ∙ sp))
  alike_rule ts (TooDeep r) (w, t, y, er, e, (a, tail, f, sp)) = (w, t, y, er, e, (a, tail, there a f, spelled a ∙ sp))
  alike_rule ts Spent h = h

  alike_reads : (a : A) → R.Fine a → length (R.spelling a) < m → (rest : List Token) → R.Next a (first rest) → p (R.spelling a ++ rest) ≡ goes (R.opens a) rest (Read a rest)
  alike_reads a f short rest h =
      let e = ap length (spelled a) in
      ap (λ (w : List Token). p (w ++ rest)) (spelled a) ∙ l.reads a (back a f) (omega (arith, short, e)) rest (next a (first rest) f h) ∙ ap (λ o. goes o rest (Read a rest)) (flip (opened a))

  pub alike_law : Law m n R p
  alike_law = record {
    some = (l.some.0, there l.some.0 l.some.1);
    reads = alike_reads;
    rule = λ ts. alike_rule ts (p ts) (l.rule ts);
    enough = λ a f short small. let e = ap length (spelled a) in opened a ∙ l.enough a (back a f) (omega (arith, short, e)) (omega (arith, small, e));
  }

-- ---- one part behind the other

module _ {m n : ℕ} {A B : Type 0} {Q : Part A} {R : Part B} {p : Parser A} {q : Parser B} (lp : Law m n Q p) (lq : Law m n R q) where
  pub followed : ((a : A) (b : B) (rest : List Token) → Q.Fine a → R.Fine b → R.Next b (first rest) → Q.Next a (first (R.spelling b ++ rest))) → Law m n (then_part Q R) (seq p q)
  followed meets = then_law m n Q R p q lp lq meets

  pub chosen : (is : Token → Bool) → ((a : A) (rest : List Token) → Q.Fine a → when is (first (Q.spelling a ++ rest)) ≡ true)
      → ((b : B) (rest : List Token) → R.Fine b → R.Next b (first rest) → when is (first (R.spelling b ++ rest)) ≡ false) → Law m n (choice_part Q R) (choose_by is (to One p) (to Two q))
  chosen is told else_told = choice_law m n Q R p q lp lq is told else_told

module _ {m n : ℕ} {B : Type 0} {R : Part B} {q : Parser B} where
  pub mark_then : (s : List ℕ) → bytes_eq s s ≡ true → Law m n R q → Law m n (then_part (place_part s) R) (seq (mark_rule s) q)
  mark_then s same lq = followed (mark_law m n s same) lq (λ a b rest f g h. tt)

  pub kept_then : (is : Token → Bool) → (t : Token) × Passes is t → Law m n R q → Law m n (then_part (kept_part is) R) (seq (kept is) q)
  kept_then is known lq = followed (kept_law m n is known) lq (λ a b rest f g h. tt)

  pub word_then : (w : List ℕ) → is_word w (word_token w) ≡ true → Law m n R q → Law m n (then_part (kept_part (is_word w)) R) (seq (word_rule w) q)
  word_then w h lq = kept_then (is_word w) (word_token w, h) lq

  pub name_then : Law m n R q → Law m n (then_part (kept_part is_name_token) R) (seq (kept is_name_token) q)
  name_then lq = kept_then is_name_token (word_token (codes "x"), refl) lq

module _ (m n : ℕ) where
  pub word_law : (w : List ℕ) → is_word w (word_token w) ≡ true → Law m n (kept_part (is_word w)) (word_rule w)
  word_law w h = kept_law m n (is_word w) (word_token w, h)

  pub name_law : Law m n (kept_part is_name_token) (kept is_name_token)
  name_law = kept_law m n is_name_token (word_token (codes "x"), refl)

-- ---- parts that open no level

abbrev pub plain_part : {A : Type 0} → (A → List Token) → (A → Type 0) → (Option Token → Type 0) → Part A
plain_part spelling Fine After = record { spelling = spelling; Fine = Fine; opens = λ a. None; Next = λ a o. After o; Left = λ a o. Unit {0} }

-- any token may stand behind it
abbrev pub Anything : Option Token → Type 0
Anything o = Unit {0}

-- a tree of what was read
module _ {A B : Type 0} {m n : ℕ} {Q : Part A} {p : Parser A} (spelling : B → List Token) (Fine : B → Type 0) (After : Option Token → Type 0) (f : A → B) (g : B → A) (l : Law m n Q p)
    (back : (b : B) → Fine b → f (g b) ≡ b) (spelled : (a : A) → spelling (f a) ≡ Q.spelling a) (opened : (a : A) → None ≡ Q.opens a)
    (fine : (a : A) → Q.Fine a → Fine (f a)) (fine' : (b : B) → Fine b → Q.Fine (g b)) (next : (a : A) (o : Option Token) → Q.Fine a → After o → Q.Next a o) where
  pub plain_law : Law m n (plain_part spelling Fine After) (to f p)
  plain_law = to_law m n Q (plain_part spelling Fine After) p l f g back spelled opened fine fine' next (λ a o is h. tt)

module _ {A : Type 0} {m n : ℕ} {spelling : A → List Token} {F : A → Type 0} {After : Option Token → Type 0} {p : Parser A} (l : Law m n (plain_part spelling F After) p)
    (is : Token → Bool) (begins : (a : A) (rest : List Token) → F a → when is (first (spelling a ++ rest)) ≡ true) where
  abbrev item : Part A
  item = plain_part spelling F After

  -- ---- one or none

  pub any_law : Law m n (plain_part (if_any spelling) (IfAny F) (Behind is After)) (optional is p)
  any_law = alike_law (plain_part (if_any spelling) (IfAny F) (Behind is After)) (optional_law m n item p l is begins) spelled opened there back next (λ a o h. tt)
    where
      spelled : (x : Option A) → if_any spelling x ≡ (optional_part is item).spelling x
      spelled None = refl
      spelled (Some a) = refl

      opened : (x : Option A) → None ≡ (optional_part is item).opens x
      opened None = refl
      opened (Some a) = refl

      there : (x : Option A) → (optional_part is item).Fine x → IfAny F x
      there None f = tt
      there (Some a) f = f

      back : (x : Option A) → IfAny F x → (optional_part is item).Fine x
      back None f = tt
      back (Some a) f = f

      next : (x : Option A) (o : Option Token) → IfAny F x → Behind is After o → (optional_part is item).Next x o
      next None o f h = h.0
      next (Some a) o f h = h.1

  -- ---- lists

  module _ (between : (b : A) (rest : List Token) → F b → After (first (spelling b ++ rest))) where
    abbrev items : Part (List A)
    items = plain_part (all_spelled spelling) (Each F) (Behind is After)

    flat_is : (l : List A) → all_spelled spelling l ≡ flat spelling l
    flat_is [] = refl
    flat_is (a ∷ l) = ap (λ (w : List Token). spelling a ++ w) (flat_is l)

    none_opens : (l : List A) → None ≡ flat_opens spelling (λ a. None) l
    none_opens [] = refl
    none_opens (a ∷ l) = none_opens l

    each_there : (l : List A) → each F l → Each F l
    each_there [] h = tt
    each_there (a ∷ l) h = (h.0, each_there l h.1)

    each_back : (l : List A) → Each F l → each F l
    each_back [] h = tt
    each_back (a ∷ l) h = (h.0, each_back l h.1)

    pub all_law : Law m n items (many_of m is p)
    all_law = alike_law items (many_law m n item p l is begins (Behind is After) (λ o h. h.0) (λ a o f h. h.1) (λ a b rest f g. between b rest g) m (omega arith))
        flat_is none_opens each_there each_back (λ l o f h. h) (λ l o h. tt)

    meets : (a : A) (l : List A) (rest : List Token) → F a → Each F l → Behind is After (first rest) → After (first (all_spelled spelling l ++ rest))
    meets a [] rest f g h = h.1
    meets a (b ∷ l) rest f g h = subst (λ ts. After (first ts)) (flip (append_assoc (spelling b) (all_spelled spelling l) rest)) (between b (all_spelled spelling l ++ rest) g.0)

    abbrev uncons : List A → A × List A
    uncons [] = (l.some.0, [])
    uncons (a ∷ l) = (a, l)

    pub some_law : Law m n (plain_part (all_spelled spelling) (SomeOf F) (Behind is After)) (one_or_more m is p)
    some_law = plain_law (all_spelled spelling) (SomeOf F) (Behind is After) (λ x. x.0 ∷ x.1) uncons (followed l all_law meets) back (λ x. refl) (λ x. refl) (λ x f. (f.0, f.1)) fine' (λ x o f h. h)
      where
        back : (l : List A) → SomeOf F l → (uncons l).0 ∷ (uncons l).1 ≡ l
        back [] f = absurd f
        back (a ∷ l) f = refl

        fine' : (l : List A) → SomeOf F l → (then_part item items).Fine (uncons l)
        fine' [] f = absurd f
        fine' (a ∷ l) f = (f.0, f.1, tt)

-- a word that may be left out
pub any_word : {m n : ℕ} (w : List ℕ) → is_word w (word_token w) ≡ true → list_any (λ v. bytes_eq w v) (w ∷ []) ≡ true
    → Law m n (plain_part (if_any one_token) (IfAny (Passes (is_word w))) (Behind (starts w) Anything)) (optional (starts w) (word_rule w))
any_word {m} {n} w h same = any_law (word_law m n w h) (starts w) (λ t rest f. word_value w t f (w ∷ []) [] ∙ same)

-- ---- items with a comma between each two

abbrev place_or : Option Place → Place
place_or None = start
place_or (Some p) = p

module _ {A X : Type 0} {m n : ℕ} {item_spelling : X → List Token} {F : X → Type 0} {After : Option Token → Type 0} {p : Parser X} (l : Law m n (plain_part item_spelling F After) p)
    (is : Token → Bool) (begins : (x : X) (rest : List Token) → F x → when is (first (item_spelling x ++ rest)) ≡ true) (goes_on : (q : Place) → After (Some (comma_mark q)))
    (spelling : A → List Token) (comma_of : A → Option Place) (P : A → Type 0) (put : Option Place → X → A) (value : A → X)
    (put_back : (a : A) → put (comma_of a) (value a) ≡ a) (comma_is : (c : Option Place) (x : X) → comma_of (put c x) ≡ c)
    (bare : (x : X) → spelling (put None x) ≡ item_spelling x) (led : (q : Place) (x : X) → spelling (put (Some q) x) ≡ comma_mark q ∷ item_spelling x)
    (is_one : (c : Option Place) (x : X) → F x → P (put c x)) (one_is : (a : A) → P a → F (value a)) where
  abbrev listed_item : Part X
  listed_item = plain_part item_spelling F After

  abbrev link : Part (Place × X)
  link = link_part (λ q. comma_mark q) (λ q. Unit {0}) listed_item

  abbrev chained : Part (X × List (Place × X))
  chained = then_part listed_item (many_part (Behind is_comma_mark After) link)

  chained_law : Law m n chained (chain m is_comma_mark (mark_rule (codes ",")) p)
  chained_law = chain_law m n listed_item p l (λ q. comma_mark q) (λ q. Unit {0}) (mark_rule (codes ",")) (mark_law m n (codes ",") refl) is_comma_mark (λ q u. refl) (λ a q f u. goes_on q)
      (Behind is_comma_mark After) (λ o h. h.0) (λ a o f h. h.1)

  abbrev put_behind : Place × X → A
  put_behind y = put (Some y.0) y.1

  abbrev take_behind : A → Place × X
  take_behind a = (place_or (comma_of a), value a)

  abbrev take : List A → Option (X × List (Place × X))
  take [] = None
  take (a ∷ l) = Some (value a, map take_behind l)

  abbrev IsFurther : A → Type 0
  IsFurther a = HasComma (comma_of a) × P a

  none_is : (c : Option Place) → HasNoComma c → None ≡ c
  none_is None h = refl
  none_is (Some q) h = absurd h

  some_is : (c : Option Place) → HasComma c → Some (place_or c) ≡ c
  some_is None h = absurd h
  some_is (Some q) h = refl

  further_back : (l : List A) → Each IsFurther l → map put_behind (map take_behind l) ≡ l
  further_back [] h = refl
  further_back (a ∷ l) h = ap₂ (λ b c. b ∷ c) (ap (λ c. put c (value a)) (some_is (comma_of a) h.0.0) ∙ put_back a) (further_back l h.1)

  take_back : (l : List A) → Separated comma_of P l → behind_commas put (take l) ≡ l
  take_back [] h = refl
  take_back (a ∷ l) h = ap₂ (λ b c. b ∷ c) (ap (λ c. put c (value a)) (none_is (comma_of a) h.0) ∙ put_back a) (further_back l h.2)

  further_spelled : (l : List (Place × X)) → all_spelled spelling (map put_behind l) ≡ flat link.spelling l
  further_spelled [] = refl
  further_spelled (y ∷ l) = ap₂ (λ (v w : List Token). v ++ w) (led y.0 y.1) (further_spelled l)

  spelled : (x : Option (X × List (Place × X))) → all_spelled spelling (behind_commas put x) ≡ (optional_part is chained).spelling x
  spelled None = refl
  spelled (Some (x, l)) = ap₂ (λ (v w : List Token). v ++ w) (bare x) (further_spelled l)

  no_link_opens : (l : List (Place × X)) → None ≡ flat_opens link.spelling link.opens l
  no_link_opens [] = refl
  no_link_opens (y ∷ l) = no_link_opens l

  opened : (x : Option (X × List (Place × X))) → None ≡ (optional_part is chained).opens x
  opened None = refl
  opened (Some (x, l)) = no_link_opens l

  further_fine : (l : List (Place × X)) → each link.Fine l → Each IsFurther (map put_behind l)
  further_fine [] h = tt
  further_fine (y ∷ l) h = ((subst HasComma (flip (comma_is (Some y.0) y.1)) tt, is_one (Some y.0) y.1 h.0.1), further_fine l h.1)

  fine : (x : Option (X × List (Place × X))) → (optional_part is chained).Fine x → Separated comma_of P (behind_commas put x)
  fine None f = tt
  fine (Some (x, l)) f = (subst HasNoComma (flip (comma_is None x)) tt, is_one None x f.0, further_fine l f.1)

  fine_further : (l : List A) → Each IsFurther l → each link.Fine (map take_behind l)
  fine_further [] h = tt
  fine_further (a ∷ l) h = ((tt, one_is a h.0.1, tt), fine_further l h.1)

  fine' : (l : List A) → Separated comma_of P l → (optional_part is chained).Fine (take l)
  fine' [] f = tt
  fine' (a ∷ l) f = (one_is a f.1, fine_further l f.2, tt)

  chained_begins : (x : X × List (Place × X)) (rest : List Token) → chained.Fine x → when is (first (chained.spelling x ++ rest)) ≡ true
  chained_begins (x, l) rest f = ap (λ (ts : List Token). when is (first ts)) (append_assoc (item_spelling x) (flat link.spelling l) rest) ∙ begins x (flat link.spelling l ++ rest) f.0

  next : (x : Option (X × List (Place × X))) (o : Option Token) → (optional_part is chained).Fine x → Behind is (Behind is_comma_mark After) o → (optional_part is chained).Next x o
  next None o f h = h.0
  next (Some x) o f h = h.1

  pub comma_law : Law m n (plain_part (all_spelled spelling) (Separated comma_of P) (Behind is (Behind is_comma_mark After))) (comma_list m is put p)
  comma_law = plain_law (all_spelled spelling) (Separated comma_of P) (Behind is (Behind is_comma_mark After)) (behind_commas put) take (optional_law m n chained (chain m is_comma_mark (mark_rule (codes ",")) p) chained_law is chained_begins)
      take_back spelled opened fine fine' next
