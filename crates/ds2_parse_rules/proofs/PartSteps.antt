-- Steps of the code of optional parts and of lists against their rules.
use Rattle.std.proofs.Common.{◌≡◌, ℕ, ◌<◌, Bool, true, false, List, [], ◌∷◌, ◌++◌, length, Some, None, refl, sym, ap, ◌∙◌, subst}
use Rattle.ds2_base.specs.declared.place.Place.{Place}
use Rattle.ds2_base.specs.declared.place.Refusal.{Refusal}
use Rattle.ds2_base.specs.declared.stop.Stop.{Stop}
use Rattle.ds2_token.specs.declared.token.Token.{Token}
use Rattle.ds2_tree.specs.declared.kind.ParseKind.{ParseKind}
use Rattle.ds2_tree.specs.Parsers.{ParserOutcome, Read, Unexpected, TooDeep, Spent, Parser, and_then, pure, first, when, to, many_of, optional}
use Rattle.ds2_tree.specs.Promise.{Fails}
use Rattle.ds2_tree.proofs.Steps.{fails_on, choose_yes, choose_no, many_step, many_fails, many_ends}
use Rattle.ds2_parse_rules.specs.TreeViews.{TreeView}

-- what is seen of a list with one more tree
pub all_push : {A : Type 0} (v : TreeView A) (xs : List A) (x : A) → v.all (xs ++ x ∷ []) ≡ v.all xs ++ v.one x ∷ []
all_push v [] x = v.first_is x [] ∙ ap (λ ys. v.one x ∷ ys) v.empty_is ∙ sym (ap (λ ys. ys ++ v.one x ∷ []) v.empty_is)
all_push v (y ∷ xs) x = v.first_is y (xs ++ x ∷ []) ∙ ap (λ ys. v.one y ∷ ys) (all_push v xs x) ∙ sym (ap (λ ys. ys ++ v.one x ∷ []) (v.first_is y xs))

-- ---- a loop: `whole` is what comes of all, and these are found

module _ {A : Type 0} (is : Token → Bool) (p : Parser A) (whole : ParserOutcome (List A)) (found : List A) (rest : List Token)
    (j : ℕ) (left : whole ≡ to (λ l. found ++ l) (many_of j is p) rest) (turns : length rest < j) where
  pub item_found : when is (first rest) ≡ true → (x : A) (after : List Token) → p rest ≡ Read x after → length after < length rest → (new : List A) → new ≡ found ++ x ∷ []
      → (i : ℕ) × (length after < i) × (whole ≡ to (λ l. new ++ l) (many_of i is p) after)
  item_found c x after e less new grown =
      let s = many_step is p (λ l. l) whole found rest j left turns c x after e less in
      (s.0, s.1, s.2 ∙ ap (λ (n : List A). to (λ l. n ++ l) (many_of s.0 is p) after) (sym grown))

  pub item_stops : when is (first rest) ≡ true → (end : Place) (e : Stop (Refusal ParseKind)) → Fails end e (p rest) → Fails end e whole
  item_stops c end e h = many_fails is p (λ l. l) whole found rest j left turns c end e h

  pub no_item : when is (first rest) ≡ false → whole ≡ Read found rest
  no_item c = many_ends is p (λ l. l) whole found rest j left turns c

-- nothing is found yet
nothing_added : {A : Type 0} (o : ParserOutcome (List A)) → o ≡ and_then o (λ l. pure ([] ++ l))
nothing_added (Read x r) = refl
nothing_added (Unexpected r) = refl
nothing_added (TooDeep r) = refl
nothing_added Spent = refl

pub nothing_found : {A : Type 0} (p : Parser (List A)) (ts : List Token) (found : List A) → found ≡ [] → p ts ≡ to (λ l. found ++ l) p ts
nothing_found p ts found e = nothing_added (p ts) ∙ ap (λ n. to (λ l. n ++ l) p ts) (sym e)

-- ---- a part where the next token begins one, or none

module _ {A : Type 0} (is : Token → Bool) (p : Parser A) (ts : List Token) (c : when is (first ts) ≡ true) where
  pub optional_stops : (end : Place) (e : Stop (Refusal ParseKind)) → Fails end e (p ts) → Fails end e (optional is p ts)
  optional_stops end e h = subst (Fails end e) (sym (choose_yes is (to Some p) (pure None) ts c)) (fails_on end e (p ts) (λ a. pure (Some a)) h)

  pub optional_read : (x : A) (r : List Token) → p ts ≡ Read x r → optional is p ts ≡ Read (Some x) r
  optional_read x r h = choose_yes is (to Some p) (pure None) ts c ∙ ap (λ (o : ParserOutcome A). and_then o (λ a. pure (Some a))) h

pub optional_absent : {A : Type 0} (is : Token → Bool) (p : Parser A) (ts : List Token) → when is (first ts) ≡ false → optional is p ts ≡ Read None ts
optional_absent is p ts c = choose_no is (to Some p) (pure None) ts c
