-- A rule step by step: what it gives at a list of tokens, by what its parts give.
use Rattle.std.proofs.Common.{◌≡◌, ℕ, ◌<◌, Bool, true, false, List, [], ◌∷◌, ◌++◌, length, Option, Some, None, Result, refl, sym, ap, ◌∙◌, subst}
use Rattle.std.specs.Prelude.{IsErrAnd}
use Rattle.std.proofs.lemmas.Result.{err_from_is_err_and}
use Rattle.ds2_base.specs.declared.place.Place.{Place}
use Rattle.ds2_base.specs.declared.place.Refusal.{Refusal}
use Rattle.ds2_base.specs.declared.stop.Stop.{Stop}
use Rattle.ds2_base.specs.declared.stop.Stop.TheVariants as stop
use Rattle.ds2_token.specs.declared.token.Token.{Token}
use Rattle.ds2_tree.specs.declared.kind.ParseKind.{ParseKind}
use Rattle.ds2_tree.specs.declared.kind.ParseKind.TheVariants as kind
use Rattle.ds2_tree.specs.Parsers.{ParserOutcome, Read, Unexpected, TooDeep, Spent, Parser, and_then, pure, first, unexpected, too_deep, when, choose_by, to, seq, many_of, optional, closed}
use Rattle.ds2_tree.specs.Promise.{IsRefusedAs, Fails, Gives}
use Rattle.ds2_tree.proofs.Steps.{fails_on, gives_err, both, to_seq, to_read, choose_yes, choose_no, many_step, many_fails, many_ends}

-- what a rule gives at these tokens has a property: f is the tree of what p reads
pub record Holds {A C : Type 0} (P : ParserOutcome C → Type 0) (f : A → C) (p : Parser A) (ts : List Token) : Type 0 where
  pub holds : P (to f p ts)

module _ {A B C : Type 0} {P : ParserOutcome C → Type 0} {f : A × B → C} (p : Parser A) (q : Parser B) {ts : List Token} where
  -- the first part was read
  pub on_read : {a : A} {r : List Token} → p ts ≡ Read a r → Holds P (λ b. f (a, b)) q r → Holds P f (seq p q) ts
  on_read {a} {r} is h = record { holds = subst P (sym (to_read f p q ts a r is)) h.holds }

module _ {A B C : Type 0} {f : A × B → C} (p : Parser A) (q : Parser B) {ts : List Token} (end : Place) (e : Stop (Refusal ParseKind)) where
  -- the first part was refused
  pub on_stop : Fails end e (p ts) → Holds (Fails end e) f (seq p q) ts
  on_stop h = record { holds = subst (Fails end e) (sym (to_seq f p q ts)) (fails_on end e (p ts) (λ a. to (λ b. f (a, b)) q) h) }

module _ {A C : Type 0} {f : A → C} {p : Parser A} {ts : List Token} where
  -- the last part was read
  pub on_last : {P : ParserOutcome C → Type 0} {a : A} {r : List Token} → p ts ≡ Read a r → P (Read (f a) r) → Holds P f p ts
  on_last {P} {a} {r} is h = record { holds = subst P (sym (ap (λ (o : ParserOutcome A). and_then o (λ a. pure (f a))) is)) h }

  -- the last part was refused
  pub on_last_stop : (end : Place) (e : Stop (Refusal ParseKind)) → Fails end e (p ts) → Holds (Fails end e) f p ts
  on_last_stop end e h = record { holds = fails_on end e (p ts) (λ a. pure (f a)) h }

module _ {A C : Type 0} {P : ParserOutcome C → Type 0} {g : Option A → C} (is : Token → Bool) (p : Parser A) {ts : List Token} where
  -- an optional part is there
  pub on_some : when is (first ts) ≡ true → Holds P (λ x. g (Some x)) p ts → Holds P g (optional is p) ts
  on_some c h = record { holds = subst P (sym (ap (λ (o : ParserOutcome (Option A)). and_then o (λ x. pure (g x))) (choose_yes is (to Some p) (pure None) ts c) ∙ both (p ts) Some g)) h.holds }

  -- an optional part is not there
  pub on_none : when is (first ts) ≡ false → P (Read (g None) ts) → Holds P g (optional is p) ts
  on_none c h = record { holds = subst P (sym (ap (λ (o : ParserOutcome (Option A)). and_then o (λ x. pure (g x))) (choose_no is (to Some p) (pure None) ts c))) h }

module _ {A B C D : Type 0} {P : ParserOutcome C → Type 0} {f : D → C} (is : Token → Bool) (g : A → D) (p : Parser A) (h : B → D) (q : Parser B) {ts : List Token} where
  -- the first of two rules
  pub on_yes : when is (first ts) ≡ true → Holds P (λ x. f (g x)) p ts → Holds P f (choose_by is (to g p) (to h q)) ts
  on_yes c l = record { holds = subst P (sym (ap (λ (o : ParserOutcome D). and_then o (λ x. pure (f x))) (choose_yes is (to g p) (to h q) ts c) ∙ both (p ts) g f)) l.holds }

  -- the second of two rules
  pub on_no : when is (first ts) ≡ false → Holds P (λ x. f (h x)) q ts → Holds P f (choose_by is (to g p) (to h q)) ts
  on_no c l = record { holds = subst P (sym (ap (λ (o : ParserOutcome D). and_then o (λ x. pure (f x))) (choose_no is (to g p) (to h q) ts c) ∙ both (q ts) h f)) l.holds }

-- what is shown step by step
pub held : {A C : Type 0} (P : ParserOutcome C → Type 0) (f : A → C) (p : Parser A) (ts : List Token) → Holds P f p ts → P (to f p ts)
held P f p ts h = h.holds

-- what is given at these tokens, taken as it is
pub taken : {A C : Type 0} {P : ParserOutcome C → Type 0} {f : A → C} {p : Parser A} {ts : List Token} → P (to f p ts) → Holds P f p ts
taken h = record { holds = h }

-- reading and nothing more
pub plain_outcome : {A : Type 0} (o : ParserOutcome A) → and_then o (λ x. pure x) ≡ o
plain_outcome (Read x r) = refl
plain_outcome (Unexpected r) = refl
plain_outcome (TooDeep r) = refl
plain_outcome Spent = refl

-- a rule without a function
pub plainly : {A : Type 0} (P : ParserOutcome A → Type 0) (p : Parser A) (ts : List Token) → Holds P (λ (x : A). x) p ts → P (p ts)
plainly P p ts h = subst P (plain_outcome (p ts)) h.holds

-- ---- refusals

refused_read : {A B : Type 0} (end : Place) (why : ParseKind) (place : Place) (x : A) (r : List Token) (o : ParserOutcome B) → IsRefusedAs end why place (Read x r) → IsRefusedAs end why place o
refused_read end kind.Unexpected place x r o h = elim h [ ]
refused_read end kind.TooDeep place x r o h = elim h [ ]

-- a part that was read stops only for want of memory
pub fails_read : {A B : Type 0} (end : Place) (e : Stop (Refusal ParseKind)) (x : A) (r : List Token) (o : ParserOutcome B) → Fails end e (Read x r) → Fails end e o
fails_read end (stop.Refused refusal) x r o h = refused_read end refusal.kind refusal.place x r o h
fails_read end stop.OutOfMemory x r o h = tt

refused_unexpected : (A B : Type 0) (end : Place) (why : ParseKind) (place : Place) (ts : List Token) → IsRefusedAs {A = A} end why place (Unexpected ts) → IsRefusedAs {A = B} end why place (Unexpected ts)
refused_unexpected A B end kind.Unexpected place ts h = h
refused_unexpected A B end kind.TooDeep place ts h = elim h [ ]

-- a refusal for want of a going on is one whatever was to be read
pub fails_unexpected : (A B : Type 0) (end : Place) (e : Stop (Refusal ParseKind)) (ts : List Token) → Fails {A = A} end e (Unexpected ts) → Fails {A = B} end e (Unexpected ts)
fails_unexpected A B end (stop.Refused refusal) ts h = refused_unexpected A B end refusal.kind refusal.place ts h
fails_unexpected A B end stop.OutOfMemory ts h = tt

refused_deep : (A B : Type 0) (end : Place) (why : ParseKind) (place : Place) (ts : List Token) → IsRefusedAs {A = A} end why place (TooDeep ts) → IsRefusedAs {A = B} end why place (TooDeep ts)
refused_deep A B end kind.TooDeep place ts h = h
refused_deep A B end kind.Unexpected place ts h = elim h [ ]

-- a refusal for depth likewise
pub fails_deep : (A B : Type 0) (end : Place) (e : Stop (Refusal ParseKind)) (ts : List Token) → Fails {A = A} end e (TooDeep ts) → Fails {A = B} end e (TooDeep ts)
fails_deep A B end (stop.Refused refusal) ts h = refused_deep A B end refusal.kind refusal.place ts h
fails_deep A B end stop.OutOfMemory ts h = tt

-- what opens a level where none is left
module _ {A C : Type 0} (f : A → C) (is : Token → Bool) (ts : List Token) where
  pub closed_deep : when is (first ts) ≡ true → (end : Place) (e : Stop (Refusal ParseKind)) → Fails {A = Unit {0}} end e (TooDeep ts) → Fails end e (to f (closed is) ts)
  closed_deep c end e h = subst (Fails end e) (sym (ap (λ (o : ParserOutcome A). and_then o (λ x. pure (f x))) (choose_yes is too_deep unexpected ts c))) (fails_deep (Unit {0}) C end e ts h)

  pub closed_no : when is (first ts) ≡ false → to f (closed is) ts ≡ Unexpected ts
  closed_no c = ap (λ (o : ParserOutcome A). and_then o (λ x. pure (f x))) (choose_no is too_deep unexpected ts c)

-- ---- exits

-- the exit of a `?`
pub exit : {X A : Type 0} (end : Place) (f : X → A × List Token) (r : Result X (Stop (Refusal ParseKind))) (e : Stop (Refusal ParseKind)) (o : ParserOutcome A) → IsErrAnd r (λ y. y ≡ e) → Fails end e o → Gives end f r o
exit end f r e o is h = let got = err_from_is_err_and r is in gives_err end f r got.0 e o got.1 got.2 h

-- ---- a rule that is read by one call

pub read_whole : {A C : Type 0} (f : A → C) (p : Parser A) (ts : List Token) (x : A) (r : List Token) → p ts ≡ Read x r → to f p ts ≡ Read (f x) r
read_whole {A} f p ts x r h = ap (λ (o : ParserOutcome A). and_then o (λ a. pure (f a))) h

pub read_stops : {X A C : Type 0} (end : Place) (v : X → C × List Token) (r : Result X (Stop (Refusal ParseKind))) (e : Stop (Refusal ParseKind)) (f : A → C) (p : Parser A) (ts : List Token)
    → IsErrAnd r (λ y. y ≡ e) → Fails end e (p ts) → Gives end v r (to f p ts)
read_stops end v r e f p ts is h = exit end v r e (to f p ts) is (fails_on end e (p ts) (λ a. pure (f a)) h)

-- ---- a loop: `whole` is what comes of all, and g makes it of the items that are still to be read
module _ {A B : Type 0} (is : Token → Bool) (p : Parser A) (whole : ParserOutcome B) (g : List A → B) (rest : List Token) where
  pub loop_step : (j : ℕ) → whole ≡ and_then (many_of j is p rest) (λ l. pure (g l)) → length rest < j → when is (first rest) ≡ true
      → (x : A) (after : List Token) → p rest ≡ Read x after → length after < length rest → (g' : List A → B) → ((l : List A) → g (x ∷ l) ≡ g' l)
      → (i : ℕ) × (length after < i) × (whole ≡ and_then (many_of i is p after) (λ l. pure (g' l)))
  loop_step j h lt c x after e less g' grown =
      let s = many_step is p g whole [] rest j h lt c x after e less in
      (s.0, s.1, s.2 ∙ ap (λ (f : List A → B). and_then (many_of s.0 is p after) (λ l. pure (f l))) (λ k l. grown l k))

  pub loop_fails : (j : ℕ) → whole ≡ and_then (many_of j is p rest) (λ l. pure (g l)) → length rest < j → when is (first rest) ≡ true → (end : Place) (e : Stop (Refusal ParseKind)) → Fails end e (p rest) → Fails end e whole
  loop_fails j h lt c end e f = many_fails is p g whole [] rest j h lt c end e f

  pub loop_ends : (j : ℕ) → whole ≡ and_then (many_of j is p rest) (λ l. pure (g l)) → length rest < j → when is (first rest) ≡ false → whole ≡ Read (g []) rest
  loop_ends j h lt c = many_ends is p g whole [] rest j h lt c

-- nothing is read yet
pub none_yet : {A : Type 0} (o : ParserOutcome (List A)) (l : List A) → l ≡ [] → o ≡ and_then o (λ rs. pure (l ++ rs))
none_yet {A} o l e = sym (plain_outcome o) ∙ ap (λ (l : List A). and_then o (λ rs. pure (l ++ rs))) (sym e)
