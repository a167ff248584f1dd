-- Steps of the code against the parsers on lists.
use Rattle.std.proofs.Common.{◌≡◌, ℕ, zero, suc, ◌<◌, Bool, true, false, List, [], ◌∷◌, ◌++◌, length, if◌then◌else◌, Some, None, Result, Err, refl, sym, ap, ◌∙◌, subst, arith, append_assoc}
use Rattle.std.proofs.lemmas.List.{append-nil}
use Rattle.ds2_base.specs.declared.place.Place.{Place}
use Rattle.ds2_base.specs.declared.place.Refusal.{Refusal}
use Rattle.ds2_base.specs.declared.stop.Stop.{Stop}
use Rattle.ds2_base.specs.declared.stop.Stop.TheVariants as stop
use Rattle.ds2_token.specs.declared.token.Token.{Token}
use Rattle.ds2_tree.specs.declared.kind.ParseKind.{ParseKind}
use Rattle.ds2_tree.specs.declared.kind.ParseKind.TheVariants as kind
use Rattle.ds2_tree.specs.Parsers.{ParserOutcome, Read, Unexpected, TooDeep, Spent, Parser, and_then, ◌>>>◌, pure, first, token_value, kept, when, either, choose_by, to, seq, many_of}
use Rattle.ds2_tree.specs.Promise.{IsRefusedAs, Fails, Gives}

refused_on : {A B : Type 0} (end : Place) (why : ParseKind) (place : Place) (o : ParserOutcome A) (f : A → Parser B) → IsRefusedAs end why place o → IsRefusedAs end why place (and_then o f)
refused_on end kind.Unexpected place (Unexpected r) f h = h
refused_on end kind.Unexpected place (Read x r) f h = elim h [ ]
refused_on end kind.Unexpected place (TooDeep r) f h = elim h [ ]
refused_on end kind.Unexpected place Spent f h = elim h [ ]
refused_on end kind.TooDeep place (TooDeep r) f h = h
refused_on end kind.TooDeep place (Read x r) f h = elim h [ ]
refused_on end kind.TooDeep place (Unexpected r) f h = elim h [ ]
refused_on end kind.TooDeep place Spent f h = elim h [ ]

-- a part is refused, and so is what goes on with it
pub fails_on : {A B : Type 0} (end : Place) (r : Stop (Refusal ParseKind)) (o : ParserOutcome A) (f : A → Parser B) → Fails end r o → Fails end r (and_then o f)
fails_on end (stop.Refused refusal) o f h = refused_on end refusal.kind refusal.place o f h
fails_on end stop.OutOfMemory o f h = tt

-- the exit of a `?`
pub gives_err : {X A : Type 0} (end : Place) (f : X → A × List Token) (r : Result X (Stop (Refusal ParseKind))) (y e : Stop (Refusal ParseKind)) (o : ParserOutcome A) → r ≡ Err y → y ≡ e → Fails end e o → Gives end f r o
gives_err end f r y e o is same h = subst (λ r. Gives end f r o) (sym (is ∙ ap Err same)) h

-- two steps in one
pub both : {A B C : Type 0} (o : ParserOutcome A) (f : A → B) (g : B → C) → and_then (and_then o (λ a. pure (f a))) (λ b. pure (g b)) ≡ and_then o (λ a. pure (g (f a)))
both (Read x r) f g = refl
both (Unexpected r) f g = refl
both (TooDeep r) f g = refl
both Spent f g = refl

-- a straight rule, one part after the other: what is left of it is again such a rule
module _ {A B C : Type 0} (f : A × B → C) (p : Parser A) (q : Parser B) (ts : List Token) where
  pub to_seq : to f (seq p q) ts ≡ and_then (p ts) (λ a. to (λ b. f (a, b)) q)
  to_seq = at (p ts)
    where
      at : (o : ParserOutcome A) → and_then {A = A × B} (and_then o (λ a. q >>> λ b. pure (a, b))) (λ x. pure (f x)) ≡ and_then o (λ a. to (λ b. f (a, b)) q)
      at (Read a r) = both {B = A × B} (q r) (λ b. (a, b)) f
      at (Unexpected r) = refl
      at (TooDeep r) = refl
      at Spent = refl

  pub to_read : (a : A) (r : List Token) → p ts ≡ Read a r → to f (seq p q) ts ≡ to (λ b. f (a, b)) q r
  to_read a r h = to_seq ∙ ap (λ (o : ParserOutcome A). and_then o (λ a. to (λ b. f (a, b)) q)) h

  pub to_stops : (r : List Token) → p ts ≡ Unexpected r → to f (seq p q) ts ≡ Unexpected r
  to_stops r h = to_seq ∙ ap (λ (o : ParserOutcome A). and_then o (λ a. to (λ b. f (a, b)) q)) h

pub and_same : {A B : Type 0} (o : ParserOutcome A) (f g : A → Parser B) → ((a : A) (r : List Token) → f a r ≡ g a r) → and_then o f ≡ and_then o g
and_same (Read a r) f g h = h a r
and_same (Unexpected r) f g h = refl
and_same (TooDeep r) f g h = refl
and_same Spent f g h = refl

pub kept_there : (is : Token → Bool) (c : Token) (ts r : List Token) → is c ≡ true → ts ≡ c ∷ r → kept is ts ≡ Read c r
kept_there is c ts r taken e = ap (kept is) e ∙ ap (λ b. token_value (if b then Some c else None) (c ∷ r)) taken

pub choose_yes : {A : Type 0} (is : Token → Bool) (p q : Parser A) (ts : List Token) → when is (first ts) ≡ true → choose_by is p q ts ≡ p ts
choose_yes is p q ts e = ap (λ c. either c p q ts) e

pub choose_no : {A : Type 0} (is : Token → Bool) (p q : Parser A) (ts : List Token) → when is (first ts) ≡ false → choose_by is p q ts ≡ q ts
choose_no is p q ts e = ap (λ c. either c p q ts) e

-- ---- a loop over items: `pre` are read, and `whole` is what comes of all
module _ {A B : Type 0} (is : Token → Bool) (p : Parser A) (g : List A → B) (whole : ParserOutcome B) (pre : List A) (rest : List Token) where
  abbrev pub Left : ℕ → Type 0
  Left j = whole ≡ and_then (many_of j is p rest) (λ l. pure (g (pre ++ l)))

  pub many_step : (j : ℕ) → Left j → length rest < j → when is (first rest) ≡ true → (x : A) (after : List Token) → p rest ≡ Read x after → length after < length rest
      → (i : ℕ) × (length after < i) × (whole ≡ and_then (many_of i is p after) (λ l. pure (g ((pre ++ x ∷ []) ++ l))))
  many_step zero h lt c x after e less = absurd (omega (arith, lt))
  many_step (suc j) h lt c x after e less = (
    j,
    omega (arith, lt, less),
    h ∙ ap (λ (o : ParserOutcome (List A)). and_then o (λ l. pure (g (pre ++ l))))
        (choose_yes is (to (λ x. x.0 ∷ x.1) (seq p (many_of j is p))) (pure []) rest c
        ∙ ap (λ (o : ParserOutcome A). and_then {A = A × List A} (and_then o (λ a. many_of j is p >>> λ b. pure (a, b))) (λ x. pure (x.0 ∷ x.1))) e
        ∙ both {B = A × List A} (many_of j is p after) (λ b. (x, b)) (λ x. x.0 ∷ x.1))
        ∙ both (many_of j is p after) (λ b. x ∷ b) (λ l. g (pre ++ l))
        ∙ ap (λ (f : List A → B). and_then (many_of j is p after) (λ l. pure (f l))) (λ i l. g (sym (append_assoc pre (x ∷ []) l) i)),
  )

  pub many_fails : (j : ℕ) → Left j → length rest < j → when is (first rest) ≡ true → (end : Place) (e : Stop (Refusal ParseKind)) → Fails end e (p rest) → Fails end e whole
  many_fails zero h lt c end e f = absurd (omega (arith, lt))
  many_fails (suc j) h lt c end e f =
      subst (Fails end e) (sym (h ∙ ap (λ (o : ParserOutcome (List A)). and_then o (λ l. pure (g (pre ++ l)))) (choose_yes is (to (λ x. x.0 ∷ x.1) (seq p (many_of j is p))) (pure []) rest c)))
      (fails_on end e (to (λ x. x.0 ∷ x.1) (seq p (many_of j is p)) rest) (λ l. pure (g (pre ++ l)))
      (fails_on end e (seq p (many_of j is p) rest) (λ x. pure (x.0 ∷ x.1)) (fails_on end e (p rest) (λ a. many_of j is p >>> λ b. pure (a, b)) f)))

  pub many_ends : (j : ℕ) → Left j → length rest < j → when is (first rest) ≡ false → whole ≡ Read (g pre) rest
  many_ends zero h lt c = absurd (omega (arith, lt))
  many_ends (suc j) h lt c =
      h ∙ ap (λ (o : ParserOutcome (List A)). and_then o (λ l. pure (g (pre ++ l)))) (choose_no is (to (λ x. x.0 ∷ x.1) (seq p (many_of j is p))) (pure []) rest c)
      ∙ ap (λ (l : List A). Read (g l) rest) (append-nil pre)
