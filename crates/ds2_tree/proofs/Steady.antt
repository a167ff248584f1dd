-- What is read depends on the tokens up to the next one, and more levels or turns change nothing of it.
use Rattle.std.proofs.Common.{◌≡◌, ℕ, zero, suc, ◌≤◌, Bool, true, false, List, [], ◌∷◌, ◌++◌, Option, Some, None, refl, sym, ap, ◌∙◌, arith, append_assoc}
use Rattle.std.proofs.lemmas.Option.{none-some}
use Rattle.ds2_token.specs.declared.token.Token.{Token}
use Rattle.ds2_tree.specs.Parsers.{ParserOutcome, Read, Unexpected, TooDeep, Spent, Parser, and_then, ◌>>>◌, pure, unexpected, too_deep, first, peek, skip, token_value, on, one, when, either, choose_by, to, seq, many_of, optional}

-- the same next token
abbrev pub Alike : List Token → List Token → Type 0
Alike r q = first r ≡ first q

-- a parser p' gives the same on every list that agrees up to the next token
abbrev pub Moves : {A : Type 0} → Type 0 → Parser A → List Token → ParserOutcome A → Type 0
Moves Same p' ts (Read x r) = (front : List Token) × (ts ≡ front ++ r) × ((q : List Token) → Alike r q → p' (front ++ q) ≡ Read x q)
Moves Same p' ts (Unexpected r) = (front : List Token) × (ts ≡ front ++ r) × ((q : List Token) → Alike r q → p' (front ++ q) ≡ Unexpected q)
Moves Same p' ts (TooDeep r) = Same → (front : List Token) × (ts ≡ front ++ r) × ((q : List Token) → Alike r q → p' (front ++ q) ≡ TooDeep q)
Moves Same p' ts Spent = Unit {0}

abbrev pub Steady : {A : Type 0} → Type 0 → Parser A → Parser A → Type 0
Steady Same p p' = (ts : List Token) → Moves Same p' ts (p ts)

alike_front : (front r q : List Token) → Alike r q → Alike (front ++ r) (front ++ q)
alike_front [] r q h = h
alike_front (t ∷ front) r q h = refl

module _ (Same : Type 0) where
  pub steady_pure : {A : Type 0} (x : A) → Steady Same (pure x) (pure x)
  steady_pure x ts = ([], refl, λ q a. refl)

  pub steady_no : {A : Type 0} → Steady {A = A} Same unexpected unexpected
  steady_no ts = ([], refl, λ q a. refl)

  pub steady_deep : {A : Type 0} → Steady {A = A} Same too_deep too_deep
  steady_deep ts s = ([], refl, λ q a. refl)

  pub steady_skip : {A : Type 0} (p p' : Parser A) → Steady Same p p' → Steady Same (skip p) (skip p')
  steady_skip p p' h [] = ([], refl, elim [ [] ↦ λ a. refl | t ∷ q ↦ λ a. absurd (none-some t a) ])
  steady_skip {A} p p' h (t ∷ ts) = on (p ts) (h ts)
    where
      on : (o : ParserOutcome A) → Moves Same p' ts o → Moves Same (skip p') (t ∷ ts) o
      on (Read x r) m = (t ∷ m.0, ap (λ (l : List Token). t ∷ l) m.1, m.2)
      on (Unexpected r) m = (t ∷ m.0, ap (λ (l : List Token). t ∷ l) m.1, m.2)
      on (TooDeep r) m = λ s. let d = m s in (t ∷ d.0, ap (λ (l : List Token). t ∷ l) d.1, d.2)
      on Spent m = tt

  -- the first parser took `front`; the second one goes on from r
  second : {A B : Type 0} (p' : Parser A) (f' : A → Parser B) (ts front r : List Token) (x : A) → ts ≡ front ++ r → ((q : List Token) → Alike r q → p' (front ++ q) ≡ Read x q)
      → (o : ParserOutcome B) → Moves Same (f' x) r o → Moves Same (p' >>> f') ts o
  second p' f' ts front r x e h (Read y s) m = (
    front ++ m.0,
    e ∙ ap (λ (l : List Token). front ++ l) m.1 ∙ sym (append_assoc front m.0 s),
    λ q a. ap (p' >>> f') (append_assoc front m.0 q) ∙ ap (λ o. and_then o f') (h (m.0 ++ q) (ap first m.1 ∙ alike_front m.0 s q a)) ∙ m.2 q a,
  )
  second p' f' ts front r x e h (Unexpected s) m = (
    front ++ m.0,
    e ∙ ap (λ (l : List Token). front ++ l) m.1 ∙ sym (append_assoc front m.0 s),
    λ q a. ap (p' >>> f') (append_assoc front m.0 q) ∙ ap (λ o. and_then o f') (h (m.0 ++ q) (ap first m.1 ∙ alike_front m.0 s q a)) ∙ m.2 q a,
  )
  second p' f' ts front r x e h (TooDeep s) n = λ same. let m = n same in (
    front ++ m.0,
    e ∙ ap (λ (l : List Token). front ++ l) m.1 ∙ sym (append_assoc front m.0 s),
    λ q a. ap (p' >>> f') (append_assoc front m.0 q) ∙ ap (λ o. and_then o f') (h (m.0 ++ q) (ap first m.1 ∙ alike_front m.0 s q a)) ∙ m.2 q a,
  )
  second p' f' ts front r x e h Spent m = tt

  pub steady_then : {A B : Type 0} (p p' : Parser A) (f f' : A → Parser B) → Steady Same p p' → ((x : A) → Steady Same (f x) (f' x)) → Steady Same (p >>> f) (p' >>> f')
  steady_then {A} p p' f f' h g ts = on (p ts) (h ts)
    where
      on : (o : ParserOutcome A) → Moves Same p' ts o → Moves Same (p' >>> f') ts (and_then o f)
      on (Read x r) m = second p' f' ts m.0 r x m.1 m.2 (f x r) (g x r)
      on (Unexpected r) m = (m.0, m.1, λ q a. ap (λ o. and_then o f') (m.2 q a))
      on (TooDeep r) m = λ s. let d = m s in (d.0, d.1, λ q a. ap (λ o. and_then o f') (d.2 q a))
      on Spent m = tt

  pub steady_peek : {A : Type 0} (f f' : Option Token → Parser A) → ((o : Option Token) → Steady Same (f o) (f' o)) → Steady Same (peek f) (peek f')
  steady_peek {A} f f' h ts = on (f (first ts) ts) (h (first ts) ts)
    where
      at : (front r q : List Token) → ts ≡ front ++ r → Alike r q → peek f' (front ++ q) ≡ f' (first ts) (front ++ q)
      at front r q e a = ap (λ o. f' o (front ++ q)) (sym (ap first e ∙ alike_front front r q a))

      on : (o : ParserOutcome A) → Moves Same (f' (first ts)) ts o → Moves Same (peek f') ts o
      on (Read x r) m = (m.0, m.1, λ q a. at m.0 r q m.1 a ∙ m.2 q a)
      on (Unexpected r) m = (m.0, m.1, λ q a. at m.0 r q m.1 a ∙ m.2 q a)
      on (TooDeep r) n = λ s. let m = n s in (m.0, m.1, λ q a. at m.0 r q m.1 a ∙ m.2 q a)
      on Spent m = tt

  -- ---- the words

  pub steady_to : {A B : Type 0} (f : A → B) (p p' : Parser A) → Steady Same p p' → Steady Same (to f p) (to f p')
  steady_to f p p' h = steady_then p p' (λ a. pure (f a)) (λ a. pure (f a)) h (λ a. steady_pure (f a))

  pub steady_seq : {A B : Type 0} (p p' : Parser A) (q q' : Parser B) → Steady Same p p' → Steady Same q q' → Steady Same (seq p q) (seq p' q')
  steady_seq p p' q q' h g = steady_then p p' (λ a. q >>> λ b. pure (a, b)) (λ a. q' >>> λ b. pure (a, b)) h (λ a. steady_then q q' (λ b. pure (a, b)) (λ b. pure (a, b)) g (λ b. steady_pure (a, b)))

  pub steady_one : {A : Type 0} (f : Token → Option A) → Steady Same (one f) (one f)
  steady_one f = steady_peek (λ o. token_value (on f o)) (λ o. token_value (on f o)) (λ o. at (on f o))
    where
      at : {A : Type 0} (v : Option A) → Steady Same (token_value v) (token_value v)
      at (Some a) = steady_skip (pure a) (pure a) (steady_pure a)
      at None = steady_no

  pub steady_choose : {A : Type 0} (is : Token → Bool) (p p' q q' : Parser A) → Steady Same p p' → Steady Same q q' → Steady Same (choose_by is p q) (choose_by is p' q')
  steady_choose {A} is p p' q q' h g = steady_peek (λ o. either (when is o) p q) (λ o. either (when is o) p' q') (λ o. at (when is o))
    where
      at : (b : Bool) → Steady Same (either b p q) (either b p' q')
      at true = h
      at false = g

  pub steady_optional : {A : Type 0} (is : Token → Bool) (p p' : Parser A) → Steady Same p p' → Steady Same (optional is p) (optional is p')
  steady_optional is p p' h = steady_choose is (to Some p) (to Some p') (pure None) (pure None) (steady_to Some p p' h) (steady_pure None)

  pub steady_many : {A : Type 0} (j j' : ℕ) → j ≤ j' → (is : Token → Bool) (p p' : Parser A) → Steady Same p p' → Steady Same (many_of j is p) (many_of j' is p')
  steady_many zero j' le is p p' h ts = tt
  steady_many (suc j) zero le is p p' h ts = absurd (omega (arith, le))
  steady_many (suc j) (suc j') le is p p' h ts =
      steady_choose is (to (λ x. x.0 ∷ x.1) (seq p (many_of j is p))) (to (λ x. x.0 ∷ x.1) (seq p' (many_of j' is p'))) (pure []) (pure [])
      (steady_to (λ x. x.0 ∷ x.1) (seq p (many_of j is p)) (seq p' (many_of j' is p')) (steady_seq p p' (many_of j is p) (many_of j' is p') h (steady_many j j' (omega (arith, le)) is p p' h)))
      (steady_pure []) ts

-- ---- the same with the parsers left out

pub record Steadily {A : Type 0} (Same : Type 0) (p p' : Parser A) : Type 0 where
  pub holds : Steady Same p p'

module _ {Same : Type 0} where
  pub by_one : {A : Type 0} (f : Token → Option A) → Steadily Same (one f) (one f)
  by_one f = record { holds = steady_one Same f }

  pub by_to : {A B : Type 0} (f : A → B) {p p' : Parser A} → Steadily Same p p' → Steadily Same (to f p) (to f p')
  by_to f {p} {p'} h = record { holds = steady_to Same f p p' h.holds }

  pub by_seq : {A B : Type 0} {p p' : Parser A} {q q' : Parser B} → Steadily Same p p' → Steadily Same q q' → Steadily Same (seq p q) (seq p' q')
  by_seq {A} {B} {p} {p'} {q} {q'} h g = record { holds = steady_seq Same p p' q q' h.holds g.holds }

  pub by_choose : {A : Type 0} (is : Token → Bool) {p p' q q' : Parser A} → Steadily Same p p' → Steadily Same q q' → Steadily Same (choose_by is p q) (choose_by is p' q')
  by_choose is {p} {p'} {q} {q'} h g = record { holds = steady_choose Same is p p' q q' h.holds g.holds }

  pub by_optional : {A : Type 0} (is : Token → Bool) {p p' : Parser A} → Steadily Same p p' → Steadily Same (optional is p) (optional is p')
  by_optional is {p} {p'} h = record { holds = steady_optional Same is p p' h.holds }

  pub by_many : {A : Type 0} (j j' : ℕ) → j ≤ j' → (is : Token → Bool) {p p' : Parser A} → Steadily Same p p' → Steadily Same (many_of j is p) (many_of j' is p')
  by_many j j' le is {p} {p'} h = record { holds = steady_many Same j j' le is p p' h.holds }
