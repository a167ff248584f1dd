-- Steps of the code of lists of declarations and units against their rules.
use Rattle.std.proofs.Common.{◌≡◌, ℕ, zero, suc, Bool, true, false, codes, List, [], ◌∷◌, map, Option, Some, None, refl, sym, ap, ◌∙◌, subst}
use Rattle.ds2_base.specs.declared.place.Place.{Place}
use Rattle.ds2_base.specs.declared.place.Refusal.{Refusal}
use Rattle.ds2_base.specs.declared.stop.Stop.{Stop}
use Rattle.ds2_token.specs.declared.token.Token.{Token}
use Rattle.ds2_tree.specs.declared.kind.ParseKind.{ParseKind}
use Rattle.ds2_tree.specs.Parsers.{ParserOutcome, Read, Unexpected, TooDeep, Spent, Parser, and_then, pure, first, when, either, to, seq, many_of}
use Rattle.ds2_tree.specs.Promise.{Fails}
use Rattle.ds2_tree.proofs.Steps.{fails_on, both, to_seq, choose_yes, choose_no, and_same}
use Rattle.ds2_parse_rules.specs.GrammarTokens.{mark_rule, is_comma_mark, behind_commas, comma_list}
use Rattle.ds2_parse_declarations.specs.UnitParts.{behind_comma}

-- ---- items of which a function is kept

-- what goes on with a function of what was read
and_to : {A X B : Type 0} (o : ParserOutcome X) (put : X → A) (f : A → Parser B) → and_then (and_then o (λ x. pure (put x))) f ≡ and_then o (λ x. f (put x))
and_to (Read x r) put f = refl
and_to (Unexpected r) put f = refl
and_to (TooDeep r) put f = refl
and_to Spent put f = refl

-- a list of items of which a function is kept
module _ {A X : Type 0} (is : Token → Bool) (f : X → A) (p : Parser X) where
  abbrev kept_items : ℕ → Parser (List A)
  kept_items j = many_of j is (to f p)

  many_mapped : (j : ℕ) (ts : List Token) → many_of j is (to f p) ts ≡ to (map f) (many_of j is p) ts
  many_mapped zero ts = refl
  many_mapped (suc j) ts = at (many_mapped j) (when is (first ts))
    where
      at : ((r : List Token) → many_of j is (to f p) r ≡ to (map f) (many_of j is p) r) → (b : Bool) → either b (to (λ x. x.0 ∷ x.1) (seq (to f p) (many_of j is (to f p)))) (pure []) ts ≡ and_then (either b (to (λ x. x.0 ∷ x.1) (seq p (many_of j is p))) (pure []) ts) (λ l. pure (map f l))
      at same true =
          to_seq (λ (x : A × List A). x.0 ∷ x.1) (to f p) (many_of j is (to f p)) ts
          ∙ and_to (p ts) f (λ a. to (λ l. a ∷ l) (many_of j is (to f p)))
          ∙ and_same (p ts) (λ x. to (λ l. f x ∷ l) (many_of j is (to f p))) (λ x. to (λ l. map f (x ∷ l)) (many_of j is p))
          (λ x r. ap (λ (o : ParserOutcome (List A)). and_then o (λ l. pure (f x ∷ l))) (same r) ∙ both (many_of j is p r) (map f) (λ l. f x ∷ l))
          ∙ sym (to_seq (λ (x : X × List X). map f (x.0 ∷ x.1)) p (many_of j is p) ts)
          ∙ sym (both (seq p (many_of j is p) ts) (λ (x : X × List X). x.0 ∷ x.1) (map f))
      at same false = refl

-- ---- a list with commas

module _ {A X : Type 0} (m : ℕ) (begins : Token → Bool) (put : Option Place → X → A) (p : Parser X) (ts : List Token) where
  abbrev behind : Place × X → A
  behind y = put (Some y.0) y.1

  abbrev pairs : Parser (List (Place × X))
  pairs = many_of m is_comma_mark (seq (mark_rule (codes ",")) p)

  comma_is : when begins (first ts) ≡ true → comma_list m begins put p ts ≡ and_then (to (put None) p ts) (λ a. to (λ l. a ∷ map behind l) pairs)
  comma_is c =
      ap (λ (o : ParserOutcome (Option (X × List (Place × X)))). and_then o (λ x. pure (behind_commas put x))) (choose_yes begins (to Some (seq p pairs)) (pure None) ts c)
      ∙ both (seq p pairs ts) Some (behind_commas put)
      ∙ to_seq (λ (x : X × List (Place × X)). put None x.0 ∷ map behind x.1) p pairs ts
      ∙ sym (and_to (p ts) (put None) (λ a. to (λ l. a ∷ map behind l) pairs))

  pub no_list : when begins (first ts) ≡ false → comma_list m begins put p ts ≡ Read [] ts
  no_list c = ap (λ (o : ParserOutcome (Option (X × List (Place × X)))). and_then o (λ x. pure (behind_commas put x))) (choose_no begins (to Some (seq p pairs)) (pure None) ts c)

  module _ (c : when begins (first ts) ≡ true) where
    pub first_stops : (end : Place) (e : Stop (Refusal ParseKind)) → Fails end e (to (put None) p ts) → Fails end e (comma_list m begins put p ts)
    first_stops end e h = subst (Fails end e) (sym (comma_is c)) (fails_on end e (to (put None) p ts) (λ a. to (λ l. a ∷ map behind l) pairs) h)

    pub first_item : (a : A) (r : List Token) → to (put None) p ts ≡ Read a r → comma_list m begins put p ts ≡ to (λ l. a ∷ l) (many_of m is_comma_mark (behind_comma put p)) r
    first_item a r e =
        comma_is c ∙ ap (λ (o : ParserOutcome A). and_then o (λ a. to (λ l. a ∷ map behind l) pairs)) e
        ∙ sym (both (pairs r) (map behind) (λ l. a ∷ l))
        ∙ sym (ap (λ (o : ParserOutcome (List A)). and_then o (λ l. pure (a ∷ l))) (many_mapped is_comma_mark behind (seq (mark_rule (codes ",")) p) m r))

-- ---- a rule of which a further function is kept

module _ {A B C : Type 0} (f : A → B) (g : B → C) (p : Parser A) (ts : List Token) where
  pub again_stops : (end : Place) (e : Stop (Refusal ParseKind)) → Fails end e (to f p ts) → Fails end e (to (λ x. g (f x)) p ts)
  again_stops end e h = subst (Fails end e) (both (p ts) f g) (fails_on end e (to f p ts) (λ b. pure (g b)) h)

  pub again_read : (v : B) (r : List Token) → to f p ts ≡ Read v r → to (λ x. g (f x)) p ts ≡ Read (g v) r
  again_read v r h = sym (both (p ts) f g) ∙ ap (λ (o : ParserOutcome B). and_then o (λ b. pure (g b))) h
