-- The laws of a symbol's parser, and how each word of a grammar keeps them.
use Rattle.std.proofs.Common.{if◌then◌else◌, true≢false, ◌≡◌, ℕ, zero, suc, ◌+◌, ◌≤◌, ◌<◌, Bool, true, false, List, [], ◌∷◌, ◌++◌, length, Option, Some, None, refl, sym as flip, ap, ◌∙◌, subst, arith, append_assoc, length-append}
use Rattle.std.proofs.lemmas.List.{append-nil}
use Rattle.std.proofs.lemmas.Option.{none-some}
use Rattle.ds2_token.specs.declared.token.Token.{Token}
use Rattle.ds2_tree.specs.Parsers.{ParserOutcome, Read, Unexpected, TooDeep, Spent, Parser, Either, One, Two, and_then, ◌>>>◌, pure, unexpected, too_deep, first, token_value, one, passing, kept, when, either, choose_by, to, seq, many_of, optional, chain, closed}
use Rattle.ds2_tree.specs.Levels.{first_opened}
use Rattle.ds2_tree.proofs.Goes.{goes, part, last, none_both}
use Rattle.ds2_tree.proofs.Rules.{Sym, Goes, Rule, shift, no_rule}

abbrev some_or : {A : Type 0} → A → Option A → A
some_or d (Some a) = a
some_or d None = d

-- a symbol at some levels: its spelling, its well-levelled trees, the tokens from the first one on that opens a level too many,
-- which token may follow a tree, and what is known of the next token where one was read
pub record Part (A : Type 0) : Type 1 where
  pub spelling : A → List Token
  pub Fine : A → Type 0
  pub opens : A → Option (List Token)
  pub Next : A → Option Token → Type 0
  pub Left : A → Option Token → Type 0

abbrev pub sym : {A : Type 0} → Part A → Sym A
sym Q = record { spell = Q.spelling; Fine = Q.Fine; Good = λ x r. Q.Fine x × (Q.opens x ≡ None) × Q.Left x (first r) }

-- trees of fewer than m tokens are read, turns end after m tokens, and n tokens need no more than the levels
pub record Law (m n : ℕ) {A : Type 0} (Q : Part A) (p : Parser A) : Type 0 where
  pub some : (x : A) × Q.Fine x
  pub reads : (x : A) → Q.Fine x → length (Q.spelling x) < m → (rest : List Token) → Q.Next x (first rest) → p (Q.spelling x ++ rest) ≡ goes (Q.opens x) rest (Read x rest)
  pub rule : (ts : List Token) → Rule (sym Q) m [] ts (p ts)
  pub enough : (x : A) → Q.Fine x → length (Q.spelling x) < m → length (Q.spelling x) ≤ n → Q.opens x ≡ None

-- ---- fewer tokens

module _ {A : Type 0} (Q : Part A) (p : Parser A) where
  fewer_rule : (m m' : ℕ) → m' ≤ m → (ts : List Token) (o : ParserOutcome A) → Rule (sym Q) m [] ts o → Rule (sym Q) m' [] ts o
  fewer_rule m m' le ts (Read x r) h = h
  fewer_rule m m' le ts (Unexpected r) h = h
  fewer_rule m m' le ts (TooDeep r) h = h
  fewer_rule m m' le ts Spent h = omega (arith, le, h)

  pub fewer : (m n m' n' : ℕ) → m' ≤ m → n' ≤ n → Law m n Q p → Law m' n' Q p
  fewer m n m' n' le low l = record {
    some = l.some;
    reads = λ x is short rest next. l.reads x is (omega (arith, short, le)) rest next;
    rule = λ ts. fewer_rule m m' le ts (p ts) (l.rule ts);
    enough = λ x is short small. l.enough x is (omega (arith, short, le)) (omega (arith, small, low));
  }

-- ---- one token

-- a token that stands for a value: which values, and how each is spelled
abbrev pub token_part : {A : Type 0} → (A → Token) → (A → Type 0) → Part A
token_part put Fine = record { spelling = λ a. put a ∷ []; Fine = Fine; opens = λ a. None; Next = λ a o. Unit {0}; Left = λ a o. Unit {0} }

module _ {A : Type 0} (m n : ℕ) (f : Token → Option A) (put : A → Token) (Fine : A → Type 0) (known : (a : A) × Fine a)
    (taken : (a : A) → Fine a → f (put a) ≡ Some a) (only : (t : Token) (a : A) → f t ≡ Some a → Fine a × (t ≡ put a)) where
  token_begins : Goes (sym (token_part put Fine)) []
  token_begins = (known.0, put known.0 ∷ [], known.1, refl)

  token_at : (t : Token) (ts : List Token) (v : Option A) → f t ≡ v → Rule (sym (token_part put Fine)) m [] (t ∷ ts) (token_value v (t ∷ ts))
  token_at t ts (Some a) e = let is = only t a e in (t ∷ [], refl, ap (λ (t : Token). t ∷ []) (flip is.1), (is.0, refl, tt))
  token_at t ts None e = no_rule (sym (token_part put Fine)) m [] (t ∷ ts) token_begins

  token_rule : (ts : List Token) → Rule (sym (token_part put Fine)) m [] ts (one f ts)
  token_rule [] = no_rule (sym (token_part put Fine)) m [] [] token_begins
  token_rule (t ∷ ts) = token_at t ts (f t) refl

  pub token_law : Law m n (token_part put Fine) (one f)
  token_law = record { some = known; reads = λ a fine short rest next. ap (λ v. token_value v (put a ∷ rest)) (taken a fine); rule = token_rule; enough = λ a fine short small. refl }

-- a token that passes a test
abbrev pub Passes : (Token → Bool) → Token → Type 0
Passes is t = is t ≡ true

abbrev pub kept_part : (Token → Bool) → Part Token
kept_part is = token_part (λ t. t) (Passes is)

module _ (m n : ℕ) (is : Token → Bool) (known : (t : Token) × Passes is t) where
  passing_some : (t u : Token) (b : Bool) → is t ≡ b → (if b then Some t else None) ≡ Some u → Passes is u × (t ≡ u)
  passing_some t u true e h = let same : t ≡ u = ap (λ o. some_or t o) h in (subst (Passes is) same e, same)
  passing_some t u false e h = absurd (none-some u h)

  pub kept_law : Law m n (kept_part is) (kept is)
  kept_law = token_law m n (passing is) (λ t. t) (Passes is) known (λ t e. ap (λ b. if b then Some t else None) e) (λ t u h. passing_some t u (is t) refl h)

-- ---- one behind the other

abbrev pub seq_part : {A B : Type 0} → Part A → Part B → (A → B → Type 0) → Part (A × B)
seq_part Q R Both = record {
  spelling = λ x. Q.spelling x.0 ++ R.spelling x.1;
  Fine = λ x. Q.Fine x.0 × R.Fine x.1 × Both x.0 x.1;
  opens = λ x. first_opened (Q.opens x.0) (R.spelling x.1) (R.opens x.1);
  Next = λ x o. R.Next x.1 o;
  Left = λ x o. R.Left x.1 o;
}

module _ {A B : Type 0} (m n m1 n1 m2 n2 : ℕ) (Q : Part A) (R : Part B) (Both : A → B → Type 0) (p : Parser A) (q : Parser B) (lp : Law m1 n1 Q p) (lq : Law m2 n2 R q)
    (le : m ≤ m1) (low : n ≤ n1) (few : (a : A) → Q.Fine a → (m ≤ m2 + length (Q.spelling a)) × (n ≤ n2 + length (Q.spelling a)))
    (meets : (a : A) (b : B) (rest : List Token) → Q.Fine a → R.Fine b → Both a b → R.Next b (first rest) → Q.Next a (first (R.spelling b ++ rest)))
    (both : (a : A) (b : B) (rest : List Token) → Q.Left a (first (R.spelling b ++ rest)) → Both a b)
    (fill : (a : A) → Q.Fine a → (b : B) × R.Fine b × Both a b) where
  abbrev S : Sym (A × B)
  S = sym (seq_part Q R Both)

  goes_first : (w : List Token) → Goes (sym Q) w → Goes S w
  goes_first w (a, tail, is, e) = let b = fill a is in
      ((a, b.0), tail ++ R.spelling b.0, (is, b.1, b.2), ap (λ (l : List Token). l ++ R.spelling b.0) e ∙ append_assoc w tail (R.spelling b.0))

  goes_second : (a : A) → Q.Fine a → (w z : List Token) → Q.Left a (first (w ++ z)) → Goes (sym R) w → Goes S (Q.spelling a ++ w)
  goes_second a is [] z left g = let b = fill a is in
      ((a, b.0), R.spelling b.0, (is, b.1, b.2), ap (λ (l : List Token). l ++ R.spelling b.0) (flip (append-nil (Q.spelling a))))
  goes_second a is (t ∷ w) z left (b, tail, fine, e) =
      let same : Some t ≡ first (R.spelling b ++ []) = flip (ap (λ (l : List Token). first (l ++ [])) e) in
      ((a, b), tail, (is, fine, both a b [] (subst (Q.Left a) same left)), ap (λ (l : List Token). Q.spelling a ++ l) e ∙ flip (append_assoc (Q.spelling a) (t ∷ w) tail))

  second : (a : A) → Q.Fine a → Q.opens a ≡ None → (r : List Token) → Q.Left a (first r) → (o : ParserOutcome B) → Rule (sym R) m2 [] r o → Rule S m2 (Q.spelling a) r (and_then o (λ b. pure (a, b)))
  second a is fits r left (Read b z) (w, e, sp, good) = (
    w,
    e,
    ap (λ (l : List Token). Q.spelling a ++ l) sp,
    ((is, good.0, both a b z (subst (Q.Left a) (ap first (e ∙ ap (λ (l : List Token). l ++ z) (flip sp))) left)), none_both (Q.opens a) (R.opens b) (R.spelling b) fits good.1, good.2),
  )
  second a is fits r left (Unexpected z) (w, e, g) = (w, e, goes_second a is w z (subst (Q.Left a) (ap first e) left) g)
  second a is fits r left (TooDeep z) (w, t, y, er, e, g) =
      (w, t, y, er, e, goes_second a is (w ++ (t ∷ [])) y (subst (Q.Left a) (ap first (e ∙ flip (append_assoc w (t ∷ []) y))) left) g)
  second a is fits r left Spent h = h

  seq_rule : (ts : List Token) (o : ParserOutcome A) → Rule (sym Q) m1 [] ts o → Rule S m [] ts (and_then o (λ a. q >>> λ b. pure (a, b)))
  seq_rule ts (Read a r) (w, e, sp, good) =
      shift S m2 m [] (Q.spelling a) w ts r (and_then (q r) (λ b. pure (a, b))) e sp (λ l. omega (arith, l, (few a good.0).0, ap length e, length-append w r, ap length sp))
      (second a good.0 good.1 r good.2 (q r) (lq.rule r))
  seq_rule ts (Unexpected r) (w, e, g) = (w, e, goes_first w g)
  seq_rule ts (TooDeep r) (w, t, y, er, e, g) = (w, t, y, er, e, goes_first (w ++ (t ∷ [])) g)
  seq_rule ts Spent h = omega (arith, le, h)

  seq_reads : (x : A × B) → (seq_part Q R Both).Fine x → length ((seq_part Q R Both).spelling x) < m → (rest : List Token) → (seq_part Q R Both).Next x (first rest)
      → seq p q ((seq_part Q R Both).spelling x ++ rest) ≡ goes ((seq_part Q R Both).opens x) rest (Read x rest)
  seq_reads (a, b) is short rest next =
      let f : A → Parser (A × B) = λ a. q >>> λ b. pure (a, b) in
      let l = length-append (Q.spelling a) (R.spelling b) in
      ap (λ ts. and_then (p ts) f) (append_assoc (Q.spelling a) (R.spelling b) rest)
      ∙ part (p (Q.spelling a ++ (R.spelling b ++ rest))) (Q.opens a) (R.opens b) (R.spelling b) rest a f (Read (a, b) rest)
      (lp.reads a is.0 (omega (arith, short, l, le)) (R.spelling b ++ rest) (meets a b rest is.0 is.1 is.2 next))
      (last (q (R.spelling b ++ rest)) (R.opens b) rest b (λ b. pure (a, b)) (Read (a, b) rest) (lq.reads b is.1 (omega (arith, short, l, (few a is.0).0)) rest next) refl)

  seq_enough : (x : A × B) → (seq_part Q R Both).Fine x → length ((seq_part Q R Both).spelling x) < m → length ((seq_part Q R Both).spelling x) ≤ n → (seq_part Q R Both).opens x ≡ None
  seq_enough (a, b) is short small =
      let l = length-append (Q.spelling a) (R.spelling b) in
      none_both (Q.opens a) (R.opens b) (R.spelling b) (lp.enough a is.0 (omega (arith, short, l, le)) (omega (arith, small, l, low))) (lq.enough b is.1 (omega (arith, short, l, (few a is.0).0)) (omega (arith, small, l, (few a is.0).1)))

  pub seq_law : Law m n (seq_part Q R Both) (seq p q)
  seq_law = record {
    some = let b = fill lp.some.0 lp.some.1 in ((lp.some.0, b.0), (lp.some.1, b.1, b.2));
    reads = seq_reads;
    rule = λ ts. seq_rule ts (p ts) (lp.rule ts);
    enough = seq_enough;
  }

-- where nothing is asked of both together
abbrev pub then_part : {A B : Type 0} → Part A → Part B → Part (A × B)
then_part Q R = seq_part Q R (λ a b. Unit {0})

module _ {A B : Type 0} (m n m1 n1 m2 n2 : ℕ) (Q : Part A) (R : Part B) (p : Parser A) (q : Parser B) (lp : Law m1 n1 Q p) (lq : Law m2 n2 R q)
    (le : m ≤ m1) (low : n ≤ n1) (few : (a : A) → Q.Fine a → (m ≤ m2 + length (Q.spelling a)) × (n ≤ n2 + length (Q.spelling a)))
    (meets : (a : A) (b : B) (rest : List Token) → Q.Fine a → R.Fine b → R.Next b (first rest) → Q.Next a (first (R.spelling b ++ rest))) where
  pub then_less : Law m n (then_part Q R) (seq p q)
  then_less = seq_law m n m1 n1 m2 n2 Q R (λ a b. Unit {0}) p q lp lq le low few (λ a b rest f g h next. meets a b rest f g next) (λ a b rest l. tt) (λ a is. (lq.some.0, lq.some.1, tt))

module _ {A B : Type 0} (m n : ℕ) (Q : Part A) (R : Part B) (p : Parser A) (q : Parser B) (lp : Law m n Q p) (lq : Law m n R q)
    (meets : (a : A) (b : B) (rest : List Token) → Q.Fine a → R.Fine b → R.Next b (first rest) → Q.Next a (first (R.spelling b ++ rest))) where
  pub then_law : Law m n (then_part Q R) (seq p q)
  then_law = then_less m n m n m n Q R p q lp lq (omega arith) (omega arith) (λ a is. (omega arith, omega arith)) meets

-- behind a token nothing is asked
module _ {A B : Type 0} (m n : ℕ) (put : A → Token) (Fine : A → Type 0) (R : Part B) (p : Parser A) (q : Parser B) (lp : Law m n (token_part put Fine) p) where
  pub token_then : Law m n R q → Law m n (then_part (token_part put Fine) R) (seq p q)
  token_then lq = then_law m n (token_part put Fine) R p q lp lq (λ a b rest f g h. tt)

-- ---- another tree of the same spelling

module _ {A B : Type 0} (m n : ℕ) (Q : Part A) (R : Part B) (p : Parser A) (lp : Law m n Q p) (f : A → B) (g : B → A)
    (back : (b : B) → R.Fine b → f (g b) ≡ b)
    (spelled : (a : A) → R.spelling (f a) ≡ Q.spelling a) (opened : (a : A) → R.opens (f a) ≡ Q.opens a)
    (fine : (a : A) → Q.Fine a → R.Fine (f a)) (fine' : (b : B) → R.Fine b → Q.Fine (g b))
    (next : (a : A) (o : Option Token) → Q.Fine a → R.Next (f a) o → Q.Next a o) (left : (a : A) (o : Option Token) → Q.Fine a → Q.Left a o → R.Left (f a) o) where
  to_rule : (ts : List Token) (o : ParserOutcome A) → Rule (sym Q) m [] ts o → Rule (sym R) m [] ts (and_then o (λ a. pure (f a)))
  to_rule ts (Read a r) (w, e, sp, good) = (w, e, spelled a ∙ sp, (fine a good.0, opened a ∙ good.1, left a (first r) good.0 good.2))
  to_rule ts (Unexpected r) (w, e, (a, tail, is, sp)) = (w, e, (f a, tail, fine a is, spelled a ∙ sp))
  to_rule ts (TooDeep r) (w, t, y, er, e, (a, tail, is, sp)) = (w, t, y, er, e, (f a, tail, fine a is, spelled a ∙ sp))
  to_rule ts Spent h = h

  same_spelling : (b : B) → R.Fine b → R.spelling b ≡ Q.spelling (g b)
  same_spelling b is = flip (ap R.spelling (back b is)) ∙ spelled (g b)

  to_reads : (b : B) → R.Fine b → length (R.spelling b) < m → (rest : List Token) → R.Next b (first rest) → to f p (R.spelling b ++ rest) ≡ goes (R.opens b) rest (Read b rest)
  to_reads b is short rest n' =
      let e = back b is in let sp = same_spelling b is in
      ap (λ (l : List Token). to f p (l ++ rest)) sp
      ∙ last (p (Q.spelling (g b) ++ rest)) (Q.opens (g b)) rest (g b) (λ a. pure (f a)) (Read b rest)
      (lp.reads (g b) (fine' b is) (omega (arith, short, ap length sp)) rest (next (g b) (first rest) (fine' b is) (subst (λ b. R.Next b (first rest)) (flip e) n')))
      (ap (λ b. Read b rest) e)
      ∙ ap (λ o. goes o rest (Read b rest)) (flip (opened (g b)) ∙ ap R.opens e)

  pub to_law : Law m n R (to f p)
  to_law = record {
    some = (f lp.some.0, fine lp.some.0 lp.some.1);
    reads = to_reads;
    rule = λ ts. to_rule ts (p ts) (lp.rule ts);
    enough = λ b is short small. let l = ap length (same_spelling b is) in ap R.opens (flip (back b is)) ∙ opened (g b) ∙ lp.enough (g b) (fine' b is) (omega (arith, short, l)) (omega (arith, small, l));
  }

-- ---- by the next token

abbrev pub of : {A B : Type 0} {C : Type 1} → (A → C) → (B → C) → Either A B → C
of f g (One a) = f a
of f g (Two b) = g b

abbrev pub sum_spelling : {A B : Type 0} → (A → List Token) → (B → List Token) → Either A B → List Token
sum_spelling f g (One a) = f a
sum_spelling f g (Two b) = g b

abbrev pub sum_opens : {A B : Type 0} → (A → Option (List Token)) → (B → Option (List Token)) → Either A B → Option (List Token)
sum_opens f g (One a) = f a
sum_opens f g (Two b) = g b

abbrev pub choice_part : {A B : Type 0} → Part A → Part B → Part (Either A B)
choice_part Q R = record {
  spelling = sum_spelling Q.spelling R.spelling;
  Fine = of Q.Fine R.Fine;
  opens = sum_opens Q.opens R.opens;
  Next = λ x o. of (λ a. Q.Next a o) (λ b. R.Next b o) x;
  Left = λ x o. of (λ a. Q.Left a o) (λ b. R.Left b o) x;
}

module _ {A B : Type 0} (m n : ℕ) (Q : Part A) (R : Part B) (p : Parser A) (q : Parser B) (lp : Law m n Q p) (lq : Law m n R q) (is : Token → Bool)
    (yes_ : (a : A) (rest : List Token) → Q.Fine a → when is (first (Q.spelling a ++ rest)) ≡ true)
    (no_ : (b : B) (rest : List Token) → R.Fine b → R.Next b (first rest) → when is (first (R.spelling b ++ rest)) ≡ false) where
  abbrev left_way : Parser (Either A B)
  left_way = to One p

  abbrev right_way : Parser (Either A B)
  right_way = to Two q

  left_rule : (ts : List Token) (o : ParserOutcome A) → Rule (sym Q) m [] ts o → Rule (sym (choice_part Q R)) m [] ts (and_then o (λ a. pure (One a)))
  left_rule ts (Read a r) h = h
  left_rule ts (Unexpected r) (w, e, (a, tail, f, sp)) = (w, e, (One a, tail, f, sp))
  left_rule ts (TooDeep r) (w, t, y, er, e, (a, tail, f, sp)) = (w, t, y, er, e, (One a, tail, f, sp))
  left_rule ts Spent h = h

  right_rule : (ts : List Token) (o : ParserOutcome B) → Rule (sym R) m [] ts o → Rule (sym (choice_part Q R)) m [] ts (and_then o (λ b. pure (Two b)))
  right_rule ts (Read b r) h = h
  right_rule ts (Unexpected r) (w, e, (b, tail, f, sp)) = (w, e, (Two b, tail, f, sp))
  right_rule ts (TooDeep r) (w, t, y, er, e, (b, tail, f, sp)) = (w, t, y, er, e, (Two b, tail, f, sp))
  right_rule ts Spent h = h

  choice_at : (ts : List Token) (c : Bool) → Rule (sym (choice_part Q R)) m [] ts (either c left_way right_way ts)
  choice_at ts true = left_rule ts (p ts) (lp.rule ts)
  choice_at ts false = right_rule ts (q ts) (lq.rule ts)

  choice_reads : (x : Either A B) → (choice_part Q R).Fine x → length ((choice_part Q R).spelling x) < m → (rest : List Token) → (choice_part Q R).Next x (first rest)
      → choose_by is left_way right_way ((choice_part Q R).spelling x ++ rest) ≡ goes ((choice_part Q R).opens x) rest (Read x rest)
  choice_reads (One a) f short rest next =
      ap (λ c. either c left_way right_way (Q.spelling a ++ rest)) (yes_ a rest f)
      ∙ last (p (Q.spelling a ++ rest)) (Q.opens a) rest a (λ a. pure (One a)) (Read (One a) rest) (lp.reads a f short rest next) refl
  choice_reads (Two b) f short rest next =
      ap (λ c. either c left_way right_way (R.spelling b ++ rest)) (no_ b rest f next)
      ∙ last (q (R.spelling b ++ rest)) (R.opens b) rest b (λ b. pure (Two b)) (Read (Two b) rest) (lq.reads b f short rest next) refl

  choice_enough : (x : Either A B) → (choice_part Q R).Fine x → length ((choice_part Q R).spelling x) < m → length ((choice_part Q R).spelling x) ≤ n → (choice_part Q R).opens x ≡ None
  choice_enough (One a) f short small = lp.enough a f short small
  choice_enough (Two b) f short small = lq.enough b f short small

  pub choice_law : Law m n (choice_part Q R) (choose_by is (to One p) (to Two q))
  choice_law = record { some = (One lp.some.0, lp.some.1); reads = choice_reads; rule = λ ts. choice_at ts (when is (first ts)); enough = choice_enough }

-- ---- one or none

abbrev pub option_spelling : {A : Type 0} → (A → List Token) → Option A → List Token
option_spelling f None = []
option_spelling f (Some a) = f a

abbrev pub option_opens : {A : Type 0} → (A → Option (List Token)) → Option A → Option (List Token)
option_opens f None = None
option_opens f (Some a) = f a

abbrev pub if_some : {A : Type 0} → Type 0 → (A → Type 0) → Option A → Type 0
if_some N f None = N
if_some N f (Some a) = f a

abbrev pub optional_part : {A : Type 0} → (Token → Bool) → Part A → Part (Option A)
optional_part is Q = record {
  spelling = option_spelling Q.spelling;
  Fine = if_some (Unit {0}) Q.Fine;
  opens = option_opens Q.opens;
  Next = λ x o. if_some (when is o ≡ false) (λ a. Q.Next a o) x;
  Left = λ x o. if_some (when is o ≡ false) (λ a. Q.Left a o) x;
}

module _ {A : Type 0} (m n : ℕ) (Q : Part A) (p : Parser A) (lp : Law m n Q p) (is : Token → Bool)
    (starts : (a : A) (rest : List Token) → Q.Fine a → when is (first (Q.spelling a ++ rest)) ≡ true) where
  some_rule : (ts : List Token) (o : ParserOutcome A) → Rule (sym Q) m [] ts o → Rule (sym (optional_part is Q)) m [] ts (and_then o (λ a. pure (Some a)))
  some_rule ts (Read a r) h = h
  some_rule ts (Unexpected r) (w, e, (a, tail, f, sp)) = (w, e, (Some a, tail, f, sp))
  some_rule ts (TooDeep r) (w, t, y, er, e, (a, tail, f, sp)) = (w, t, y, er, e, (Some a, tail, f, sp))
  some_rule ts Spent h = h

  optional_at : (ts : List Token) (c : Bool) → when is (first ts) ≡ c → Rule (sym (optional_part is Q)) m [] ts (either c (to Some p) (pure None) ts)
  optional_at ts true e = some_rule ts (p ts) (lp.rule ts)
  optional_at ts false e = ([], refl, refl, (tt, refl, e))

  optional_reads : (x : Option A) → (optional_part is Q).Fine x → length ((optional_part is Q).spelling x) < m → (rest : List Token) → (optional_part is Q).Next x (first rest)
      → optional is p ((optional_part is Q).spelling x ++ rest) ≡ goes ((optional_part is Q).opens x) rest (Read x rest)
  optional_reads None f short rest next = ap (λ c. either c (to Some p) (pure None) rest) next
  optional_reads (Some a) f short rest next =
      ap (λ c. either c (to Some p) (pure None) (Q.spelling a ++ rest)) (starts a rest f)
      ∙ last (p (Q.spelling a ++ rest)) (Q.opens a) rest a (λ a. pure (Some a)) (Read (Some a) rest) (lp.reads a f short rest next) refl

  optional_enough : (x : Option A) → (optional_part is Q).Fine x → length ((optional_part is Q).spelling x) < m → length ((optional_part is Q).spelling x) ≤ n → (optional_part is Q).opens x ≡ None
  optional_enough None f short small = refl
  optional_enough (Some a) f short small = lp.enough a f short small

  pub optional_law : Law m n (optional_part is Q) (optional is p)
  optional_law = record { some = (None, tt); reads = optional_reads; rule = λ ts. optional_at ts (when is (first ts)) refl; enough = optional_enough }

-- ---- many

filled : (is : Token → Bool) (l : List Token) → when is (first (l ++ [])) ≡ true → 0 < length l
filled is [] h = absurd (true≢false (flip h))
filled is (t ∷ l) h = omega arith

abbrev pub flat : {A : Type 0} → (A → List Token) → List A → List Token
flat f [] = []
flat f (a ∷ l) = f a ++ flat f l

abbrev pub flat_opens : {A : Type 0} → (A → List Token) → (A → Option (List Token)) → List A → Option (List Token)
flat_opens f o [] = None
flat_opens f o (a ∷ l) = first_opened (o a) (flat f l) (flat_opens f o l)

abbrev pub each : {A : Type 0} → (A → Type 0) → List A → Type 0
each P [] = Unit {0}
each P (a ∷ l) = P a × each P l

-- `Stop` says which tokens may stand behind the last one
abbrev pub many_part : {A : Type 0} → (Option Token → Type 0) → Part A → Part (List A)
many_part Stop Q = record {
  spelling = flat Q.spelling;
  Fine = each Q.Fine;
  opens = flat_opens Q.spelling Q.opens;
  Next = λ l o. Stop o;
  Left = λ l o. Unit {0};
}

module _ {A : Type 0} (m n : ℕ) (Q : Part A) (p : Parser A) (lp : Law m n Q p) (is : Token → Bool)
    (starts : (a : A) (rest : List Token) → Q.Fine a → when is (first (Q.spelling a ++ rest)) ≡ true)
    (Stop : Option Token → Type 0) (stops : (o : Option Token) → Stop o → when is o ≡ false)
    (ends : (a : A) (o : Option Token) → Q.Fine a → Stop o → Q.Next a o)
    (between : (a b : A) (rest : List Token) → Q.Fine a → Q.Fine b → Q.Next a (first (Q.spelling b ++ rest))) where
  abbrev M : Part (List A)
  M = many_part Stop Q

  many_meets : (a : A) (l : List A) (rest : List Token) → Q.Fine a → M.Fine l → Stop (first rest) → Q.Next a (first (M.spelling l ++ rest))
  many_meets a [] rest f g h = ends a (first rest) f h
  many_meets a (b ∷ l) rest f g h = subst (λ ts. Q.Next a (first ts)) (flip (append_assoc (Q.spelling b) (M.spelling l) rest)) (between a b (M.spelling l ++ rest) f g.0)

  many_enough : (l : List A) → M.Fine l → length (M.spelling l) < m → length (M.spelling l) ≤ n → M.opens l ≡ None
  many_enough [] f short small = refl
  many_enough (a ∷ l) f short small =
      let s = length-append (Q.spelling a) (M.spelling l) in
      none_both (Q.opens a) (M.opens l) (M.spelling l) (lp.enough a f.0 (omega (arith, short, s)) (omega (arith, small, s))) (many_enough l f.1 (omega (arith, short, s)) (omega (arith, small, s)))

  cons_rule : (j : ℕ) (ts : List Token) (o : ParserOutcome (A × List A)) → Rule (sym (then_part Q M)) j [] ts o → Rule (sym M) j [] ts (and_then o (λ x. pure (x.0 ∷ x.1)))
  cons_rule j ts (Read x r) (w, e, sp, good) = (w, e, sp, ((good.0.0, good.0.1), good.1, tt))
  cons_rule j ts (Unexpected r) (w, e, (x, tail, f, sp)) = (w, e, (x.0 ∷ x.1, tail, (f.0, f.1), sp))
  cons_rule j ts (TooDeep r) (w, t, y, er, e, (x, tail, f, sp)) = (w, t, y, er, e, (x.0 ∷ x.1, tail, (f.0, f.1), sp))
  cons_rule j ts Spent h = h

  many_at : (j : ℕ) (ts : List Token) (q : Parser (A × List A)) → Law j n (then_part Q M) q → (c : Bool) → Rule (sym M) j [] ts (either c (to (λ x. x.0 ∷ x.1) q) (pure []) ts)
  many_at j ts q lq true = cons_rule j ts (q ts) (lq.rule ts)
  many_at j ts q lq false = ([], refl, refl, (tt, refl, tt))

  many_reads : (j : ℕ) (q : Parser (A × List A)) → Law j n (then_part Q M) q → (l : List A) → M.Fine l → length (M.spelling l) < j → (rest : List Token) → Stop (first rest)
      → choose_by is (to (λ x. x.0 ∷ x.1) q) (pure []) (M.spelling l ++ rest) ≡ goes (M.opens l) rest (Read l rest)
  many_reads j q lq [] f short rest h = ap (λ c. either c (to (λ x. x.0 ∷ x.1) q) (pure []) rest) (stops (first rest) h)
  many_reads j q lq (a ∷ l) f short rest h =
      let ts = (Q.spelling a ++ M.spelling l) ++ rest in
      ap (λ c. either c (to (λ x. x.0 ∷ x.1) q) (pure []) ts) (ap (λ ts. when is (first ts)) (append_assoc (Q.spelling a) (M.spelling l) rest) ∙ starts a (M.spelling l ++ rest) f.0)
      ∙ last (q ts) ((then_part Q M).opens (a, l)) rest (a, l) (λ x. pure (x.0 ∷ x.1)) (Read (a ∷ l) rest) (lq.reads (a, l) (f.0, f.1, tt) short rest h) refl

  pub many_law : (j : ℕ) → j ≤ m → Law j n M (many_of j is p)
  many_law zero le = record { some = ([], tt); reads = λ l f short rest h. absurd (omega (arith, short)); rule = λ ts. omega arith; enough = λ l f short small. absurd (omega (arith, short)) }
  many_law (suc j) le =
      let lq = then_less (suc j) n m n j n Q M p (many_of j is p) lp (many_law j (omega (arith, le))) le (omega arith) (λ a f. let s = filled is (Q.spelling a) (starts a [] f) in (omega (arith, s), omega arith)) many_meets in
      record {
        some = ([], tt);
        reads = many_reads (suc j) (seq p (many_of j is p)) lq;
        rule = λ ts. many_at (suc j) ts (seq p (many_of j is p)) lq (when is (first ts));
        enough = λ l f short small. many_enough l f (omega (arith, short, le)) small;
      }

-- ---- with fewer tokens behind it

abbrev pub narrow_part : {A : Type 0} → (A → Option Token → Type 0) → Part A → Part A
narrow_part N Q = record { spelling = Q.spelling; Fine = Q.Fine; opens = Q.opens; Next = N; Left = Q.Left }

pub narrow_law : {A : Type 0} (m n : ℕ) (Q : Part A) (p : Parser A) (N : A → Option Token → Type 0) → ((a : A) (o : Option Token) → Q.Fine a → N a o → Q.Next a o) → Law m n Q p → Law m n (narrow_part N Q) p
narrow_law m n Q p N narrower l = record { some = l.some; reads = λ x is short rest next. l.reads x is short rest (narrower x (first rest) is next); rule = l.rule; enough = l.enough }

-- ---- items with a token between each two: any number of them, or at most two

abbrev pub link_part : {A O : Type 0} → (O → Token) → (O → Type 0) → Part A → Part (O × A)
link_part put Fine Q = then_part (token_part put Fine) Q

module _ {A O : Type 0} (m n : ℕ) (Q : Part A) (p : Parser A) (lp : Law m n Q p) (put : O → Token) (Fine : O → Type 0) (op : Parser O) (lo : Law m n (token_part put Fine) op)
    (is : Token → Bool) (is_op : (o : O) → Fine o → is (put o) ≡ true) (goes_op : (a : A) (o : O) → Q.Fine a → Fine o → Q.Next a (Some (put o)))
    (Stop : Option Token → Type 0) (stops : (o : Option Token) → Stop o → when is o ≡ false) (ends : (a : A) (o : Option Token) → Q.Fine a → Stop o → Q.Next a o) where
  link_law : Law m n (link_part put Fine Q) (seq op p)
  link_law = token_then m n put Fine Q op p lo lp

  abbrev pub chain_part : Part (A × List (O × A))
  chain_part = then_part Q (many_part Stop (link_part put Fine Q))

  pub chain_law : Law m n chain_part (chain m is op p)
  chain_law = then_law m n Q (many_part Stop (link_part put Fine Q)) p (many_of m is (seq op p)) lp
      (many_law m n (link_part put Fine Q) (seq op p) link_law is (λ x rest f. is_op x.0 f.0) Stop stops (λ x o f h. ends x.1 o f.1 h) (λ x y rest f g. goes_op x.1 y.0 f.1 g.0) m (omega arith))
      meets
    where
      meets : (a : A) (l : List (O × A)) (rest : List Token) → Q.Fine a → each (link_part put Fine Q).Fine l → Stop (first rest) → Q.Next a (first (flat (link_part put Fine Q).spelling l ++ rest))
      meets a [] rest f g h = ends a (first rest) f h
      meets a (x ∷ l) rest f g h = goes_op a x.0 f g.0.0

  abbrev pub pair_part : Part (A × Option (O × A))
  pair_part = then_part Q (narrow_part (λ x o. Stop o) (optional_part is (link_part put Fine Q)))

  pub pair_law : Law m n pair_part (seq p (optional is (seq op p)))
  pair_law = then_law m n Q (narrow_part (λ x o. Stop o) (optional_part is (link_part put Fine Q))) p (optional is (seq op p)) lp
      (narrow_law m n (optional_part is (link_part put Fine Q)) (optional is (seq op p)) (λ x o. Stop o) narrower (optional_law m n (link_part put Fine Q) (seq op p) link_law is (λ x rest f. is_op x.0 f.0)))
      meets
    where
      narrower : (x : Option (O × A)) (o : Option Token) → (optional_part is (link_part put Fine Q)).Fine x → Stop o → (optional_part is (link_part put Fine Q)).Next x o
      narrower None o f h = stops o h
      narrower (Some x) o f h = ends x.1 o f.1 h

      meets : (a : A) (x : Option (O × A)) (rest : List Token) → Q.Fine a → (optional_part is (link_part put Fine Q)).Fine x → Stop (first rest) → Q.Next a (first ((optional_part is (link_part put Fine Q)).spelling x ++ rest))
      meets a None rest f g h = ends a (first rest) f h
      meets a (Some x) rest f g h = goes_op a x.0 f g.0

-- ---- where no level is left

abbrev pub closed_part : {A : Type 0} → Part A → Part A
closed_part Q = record { spelling = Q.spelling; Fine = Q.Fine; opens = λ x. Some (Q.spelling x); Next = Q.Next; Left = Q.Left }

module _ {A : Type 0} (m : ℕ) (Q : Part A) (some : (x : A) × Q.Fine x) (is : Token → Bool)
    (starts : (a : A) (rest : List Token) → Q.Fine a → when is (first (Q.spelling a ++ rest)) ≡ true)
    (begins : (t : Token) → is t ≡ true → Goes (sym Q) (t ∷ [])) where
  closed_at : (t : Token) (ts : List Token) (c : Bool) → is t ≡ c → Rule (sym (closed_part Q)) m [] (t ∷ ts) (either c too_deep unexpected (t ∷ ts))
  closed_at t ts true e = ([], t, ts, refl, refl, begins t e)
  closed_at t ts false e = no_rule (sym (closed_part Q)) m [] (t ∷ ts) (some.0, Q.spelling some.0, some.1, refl)

  closed_rule : (ts : List Token) → Rule (sym (closed_part Q)) m [] ts (closed is ts)
  closed_rule [] = no_rule (sym (closed_part Q)) m [] [] (some.0, Q.spelling some.0, some.1, refl)
  closed_rule (t ∷ ts) = closed_at t ts (is t) refl

  pub closed_law : Law m 0 (closed_part Q) (closed is)
  closed_law = record {
    some = some;
    reads = λ x f short rest next. ap (λ c. either c too_deep unexpected (Q.spelling x ++ rest)) (starts x rest f);
    rule = closed_rule;
    enough = λ x f short small. let s = filled is (Q.spelling x) (starts x [] f) in absurd (omega (arith, small, s));
  }
