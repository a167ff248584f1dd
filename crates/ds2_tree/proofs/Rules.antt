-- What a rule reads is part of a spelling: the steps that every rule is made of.
use Rattle.std.proofs.Common.{◌≡◌, ℕ, ◌+◌, ◌≤◌, List, [], ◌∷◌, ◌++◌, length, refl, sym, ap, ◌∙◌, arith, append_assoc, length-append}
use Rattle.std.proofs.lemmas.List.{append-nil}
use Rattle.ds2_token.specs.declared.token.Token.{Token}
use Rattle.ds2_tree.specs.Parsers.{ParserOutcome, Read, Unexpected, TooDeep, Spent, Parser, and_then}

-- a symbol of the grammar: its spelling, its well-levelled trees, and which of these are read before a rest
pub record Sym (A : Type 0) : Type 1 where
  pub spell : A → List Token
  pub Fine : A → Type 0
  pub Good : A → List Token → Type 0

-- some spelling begins so
abbrev pub Goes : {A : Type 0} → Sym A → List Token → Type 0
Goes {A} S front = (b : A) × (tail : List Token) × S.Fine b × (S.spell b ≡ front ++ tail)

-- behind `pre`: what is read completes a spelling; what is read before a refusal goes on with one
abbrev pub Rule : {A : Type 0} → Sym A → ℕ → List Token → List Token → ParserOutcome A → Type 0
Rule S m pre ts (Read b r) = (w : List Token) × (ts ≡ w ++ r) × (S.spell b ≡ pre ++ w) × S.Good b r
Rule S m pre ts (Unexpected r) = (w : List Token) × (ts ≡ w ++ r) × Goes S (pre ++ w)
Rule S m pre ts (TooDeep r) = (w : List Token) × (t : Token) × (q : List Token) × (r ≡ t ∷ q) × (ts ≡ w ++ (t ∷ q)) × Goes S (pre ++ (w ++ (t ∷ [])))
Rule S m pre ts Spent = m ≤ length ts

pub goes_less : {A : Type 0} (S : Sym A) (pre w : List Token) → Goes S (pre ++ w) → Goes S pre
goes_less S pre w g = (g.0, w ++ g.1, g.2, g.3 ∙ append_assoc pre w g.1)

pub no_rule : {A : Type 0} (S : Sym A) (m : ℕ) (pre ts : List Token) → Goes S pre → Rule S m pre ts (Unexpected ts)
no_rule S m pre ts g = ([], refl, (g.0, g.1, g.2, g.3 ∙ ap (λ (p : List Token). p ++ g.1) (sym (append-nil pre))))

pub pure_rule : {A : Type 0} (S : Sym A) (m : ℕ) (pre ts : List Token) (b : A) → S.spell b ≡ pre → S.Good b ts → Rule S m pre ts (Read b ts)
pure_rule S m pre ts b e g = ([], refl, e ∙ sym (append-nil pre), g)

pub goes_at : {A : Type 0} (S : Sym A) (a b : List Token) → a ≡ b → Goes S a → Goes S b
goes_at S a b e g = (g.0, g.1, g.2, g.3 ∙ ap (λ (l : List Token). l ++ g.1) e)

-- after the tokens v
pub shift : {A : Type 0} (S : Sym A) (i m : ℕ) (pre pre' v ts r : List Token) (o : ParserOutcome A)
    → ts ≡ v ++ r → pre' ≡ pre ++ v → (i ≤ length r → m ≤ length ts) → Rule S i pre' r o → Rule S m pre ts o
shift S i m pre pre' v ts r (Read b q) e p l h =
    (v ++ h.0, e ∙ ap (λ (x : List Token). v ++ x) h.1 ∙ sym (append_assoc v h.0 q), h.2 ∙ ap (λ (x : List Token). x ++ h.0) p ∙ append_assoc pre v h.0, h.3)
shift S i m pre pre' v ts r (Unexpected q) e p l h =
    (v ++ h.0, e ∙ ap (λ (x : List Token). v ++ x) h.1 ∙ sym (append_assoc v h.0 q), goes_at S (pre' ++ h.0) (pre ++ (v ++ h.0)) (ap (λ (x : List Token). x ++ h.0) p ∙ append_assoc pre v h.0) h.2)
shift S i m pre pre' v ts r (TooDeep q) e p l h = (
  v ++ h.0,
  h.1,
  h.2,
  h.3,
  e ∙ ap (λ (x : List Token). v ++ x) h.4 ∙ sym (append_assoc v h.0 (h.1 ∷ h.2)),
  goes_at S (pre' ++ (h.0 ++ (h.1 ∷ []))) (pre ++ ((v ++ h.0) ++ (h.1 ∷ []))) (ap (λ (x : List Token). x ++ (h.0 ++ (h.1 ∷ []))) p ∙ append_assoc pre v (h.0 ++ (h.1 ∷ [])) ∙ ap (λ (x : List Token). pre ++ x) (sym (append_assoc v h.0 (h.1 ∷ [])))) h.5,
)
shift S i m pre pre' v ts r Spent e p l h = l h

pub skip_rule : {A : Type 0} (S : Sym A) (m : ℕ) (pre ts : List Token) (t : Token) (o : ParserOutcome A) → Rule S m (pre ++ (t ∷ [])) ts o → Rule S m pre (t ∷ ts) o
skip_rule S m pre ts t o h = shift S m m pre (pre ++ (t ∷ [])) (t ∷ []) (t ∷ ts) ts o refl refl (λ l. omega (arith, l)) h

-- a symbol within a rule
pub sub_rule : {A B : Type 0} (Q : Sym A) (S : Sym B) (i j m : ℕ) (pre ts : List Token) (o : ParserOutcome A) (f : A → Parser B)
    → m ≤ i → ((x : A) → m ≤ j + length (Q.spell x)) → Rule Q i [] ts o → ((x : A) → Q.Fine x → Goes S (pre ++ Q.spell x)) → ((x : A) (r : List Token) → Q.Good x r → length r + length (Q.spell x) ≡ length ts → Rule S j (pre ++ Q.spell x) r (f x r)) → Rule S m pre ts (and_then o f)
sub_rule Q S i j m pre ts (Read x r) f le few h after next =
    let n : length r + length (Q.spell x) ≡ length ts = omega (arith, ap length h.1, length-append h.0 r, ap length h.2) in
    shift S j m pre (pre ++ Q.spell x) h.0 ts r (f x r) h.1 (ap (λ (l : List Token). pre ++ l) h.2) (λ l. omega (arith, l, n, few x)) (next x r h.3 n)
sub_rule Q S i j m pre ts (Unexpected r) f le few h after next =
    let a = after h.2.0 h.2.2 in
    (h.0, h.1, goes_less S (pre ++ h.0) h.2.1 (goes_at S (pre ++ Q.spell h.2.0) ((pre ++ h.0) ++ h.2.1) (ap (λ (l : List Token). pre ++ l) h.2.3 ∙ sym (append_assoc pre h.0 h.2.1)) a))
sub_rule Q S i j m pre ts (TooDeep r) f le few h after next =
    let a = after h.5.0 h.5.2 in
    let v = h.0 ++ (h.1 ∷ []) in
    (h.0, h.1, h.2, h.3, h.4, goes_less S (pre ++ v) h.5.1 (goes_at S (pre ++ Q.spell h.5.0) ((pre ++ v) ++ h.5.1) (ap (λ (l : List Token). pre ++ l) h.5.3 ∙ sym (append_assoc pre v h.5.1)) a))
sub_rule Q S i j m pre ts Spent f le few h after next = omega (arith, le, h)
