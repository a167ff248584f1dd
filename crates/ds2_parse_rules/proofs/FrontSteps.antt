-- What the tokens at the front say of the parsers of one token.
use Rattle.std.proofs.Common.{◌≡◌, ℕ, ◌||◌, Bool, true, false, if◌then◌else◌, codes, List, [], ◌∷◌, Option, Some, None, refl, sym, ap, ◌∙◌, subst, true≢false}
use Rattle.ds2_base.specs.declared.place.Place.{Place}
use Rattle.ds2_base.specs.declared.place.Refusal.{Refusal}
use Rattle.ds2_base.specs.declared.stop.Stop.{Stop}
use Rattle.ds2_token.specs.declared.token.Token.{Token}
use Rattle.ds2_token.specs.Words.{is_mark}
use Rattle.ds2_tree.specs.declared.kind.ParseKind.{ParseKind}
use Rattle.ds2_tree.specs.Parsers.{ParserOutcome, Read, Unexpected, first, when, kept, token_value, to, closed}
use Rattle.ds2_tree.specs.Promise.{Fails}
use Rattle.ds2_parse_rules.specs.GrammarTokens.{mark_rule, is_open_mark, is_comma_mark, Fronted}
use Rattle.ds2_parse_rules.specs.ExpressionGrammar.{is_open_or_dot}
use Rattle.ds2_parse_rules.proofs.RuleSteps.{fails_read, fails_unexpected, closed_no}

abbrev IsUnexpected : {A : Type 0} → ParserOutcome A → Type 0
IsUnexpected (Unexpected q) = Unit {0}
IsUnexpected _ = ⊥

unexpected_read : (A : Type 0) (ts : List Token) (x : A) (r : List Token) → Unexpected ts ≡ Read x r → ⊥
unexpected_read A ts x r h = subst (IsUnexpected {A = A}) h tt

-- ---- a mark

pub mark_read : (s : List ℕ) (ts : List Token) (t : Token) (r : List Token) → ts ≡ t ∷ r → is_mark s t ≡ true → mark_rule s ts ≡ Read t.place r
mark_read s ts t r e c = ap (mark_rule s) e ∙ ap (λ b. token_value (if b then Some t.place else None) (t ∷ r)) c

pub mark_none : (s : List ℕ) (ts : List Token) → when (is_mark s) (first ts) ≡ false → mark_rule s ts ≡ Unexpected ts
mark_none s [] c = refl
mark_none s (t ∷ ts) c = ap (λ b. token_value (if b then Some t.place else None) (t ∷ ts)) c

-- ---- a token that is kept

pub kept_read : (is : Token → Bool) (ts : List Token) (t : Token) (r : List Token) → Fronted is ts t r → (u : Token) → u ≡ t → kept is ts ≡ Read u r
kept_read is ts t r h u same = ap (kept is) h.0 ∙ ap (λ b. token_value (if b then Some t else None) (t ∷ r)) h.1 ∙ ap (λ t. Read t r) (sym same)

pub kept_none : (is : Token → Bool) (ts : List Token) → when is (first ts) ≡ false → kept is ts ≡ Unexpected ts
kept_none is [] c = refl
kept_none is (t ∷ ts) c = ap (λ b. token_value (if b then Some t else None) (t ∷ ts)) c

pub fronted_when : (is : Token → Bool) (ts : List Token) (t : Token) (r : List Token) → Fronted is ts t r → when is (first ts) ≡ true
fronted_when is ts t r h = ap (λ (l : List Token). when is (first l)) h.0 ∙ h.1

-- ---- one mark is one of one mark

or_none : (a : Bool) → (a || false) ≡ a
or_none true = refl
or_none false = refl

pub open_is : (o : Option Token) → when is_open_mark o ≡ when (is_mark (codes "(")) o
open_is None = refl
open_is (Some t) = or_none (is_mark (codes "(") t)

pub comma_is : (o : Option Token) → when is_comma_mark o ≡ when (is_mark (codes ",")) o
comma_is None = refl
comma_is (Some t) = or_none (is_mark (codes ",") t)

pub tail_is : (o : Option Token) → when is_open_or_dot o ≡ (when (is_mark (codes "(")) o || when (is_mark (codes ".")) o)
tail_is None = refl
tail_is (Some t) = ap (λ b. is_mark (codes "(") t || b) (or_none (is_mark (codes ".") t))

-- a mark that was read stood there
pub mark_was : (s : List ℕ) (ts : List Token) (p : Place) (r : List Token) → mark_rule s ts ≡ Read p r → when (is_mark s) (first ts) ≡ true
mark_was s [] p r h = absurd (unexpected_read Place [] p r h)
mark_was s (t ∷ ts) p r h = at (is_mark s t) h
  where
    at : (b : Bool) → token_value (if b then Some t.place else None) (t ∷ ts) ≡ Read p r → b ≡ true
    at true h = refl
    at false h = absurd (unexpected_read Place (t ∷ ts) p r h)

first_mark : (s : List ℕ) (ts : List Token) → when (is_mark s) (first ts) ≡ true → (t : Token) × (r : List Token) × (mark_rule s ts ≡ Read t.place r)
first_mark s [] c = absurd (true≢false (sym c))
first_mark s (t ∷ r) c = (t, r, mark_read s (t ∷ r) t r refl c)

-- a mark that is not read does not stand there, or memory is wanting: so it is where no level is left
pub mark_stopped : {A C : Type 0} (f : A → C) (ts : List Token) (end : Place) (e : Stop (Refusal ParseKind)) → Fails end e (mark_rule (codes "(") ts) → Fails end e (to f (closed is_open_mark) ts)
mark_stopped {A} {C} f ts end e h = at (when is_open_mark (first ts)) refl
  where
    at : (b : Bool) → when is_open_mark (first ts) ≡ b → Fails end e (to f (closed is_open_mark) ts)
    at true c =
        let w = first_mark (codes "(") ts (sym (open_is (first ts)) ∙ c) in
        fails_read end e w.0.place w.1 (to f (closed is_open_mark) ts) (subst (Fails end e) w.2 h)
    at false c =
        subst (Fails end e) (sym (closed_no f is_open_mark ts c))
        (fails_unexpected Place C end e ts (subst (Fails end e) (mark_none (codes "(") ts (sym (open_is (first ts)) ∙ c)) h))
