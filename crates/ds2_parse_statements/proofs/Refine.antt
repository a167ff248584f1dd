-- The same trees, told by another test.
use Rattle.std.proofs.Common.{ℕ, suc, List, [], Some, refl, arith}
use Rattle.ds2_base.specs.declared.place.Place.{Place}
use Rattle.ds2_token.specs.declared.token.Token.{Token}
use Rattle.ds2_tree.specs.Parsers.{ParserOutcome, Read, Unexpected, TooDeep, Spent, Parser, seq}
use Rattle.ds2_tree.proofs.Rules.{Rule}
use Rattle.ds2_tree.proofs.Words.{Part, sym, Law, then_part, then_less, then_law}
use Rattle.ds2_token.specs.Words.{mark_at}
use Rattle.ds2_parse_rules.specs.GrammarTokens.{mark_rule, enclosed}
use Rattle.ds2_parse_rules.proofs.GrammarTokenLaws.{place_part, mark_law}
use Rattle.std.proofs.Common.{codes}

abbrev pub refined : {A : Type 0} → Part A → (A → Type 0) → Part A
refined Q Fine = record { spelling = Q.spelling; Fine = Fine; opens = Q.opens; Next = Q.Next; Left = Q.Left }

module _ {A : Type 0} (m n : ℕ) (Q : Part A) (p : Parser A) (Fine : A → Type 0) (there : (a : A) → Q.Fine a → Fine a) (back : (a : A) → Fine a → Q.Fine a) (l : Law m n Q p) where
  refined_rule : (ts : List Token) (o : ParserOutcome A) → Rule (sym Q) m [] ts o → Rule (sym (refined Q Fine)) m [] ts o
  refined_rule ts (Read a r) (w, e, sp, good) = (w, e, sp, (there a good.0, good.1, good.2))
  refined_rule ts (Unexpected r) (w, e, (a, tail, f, sp)) = (w, e, (a, tail, there a f, sp))
  refined_rule ts (TooDeep r) (w, t, y, er, e, (a, tail, f, sp)) = (w, t, y, er, e, (a, tail, there a f, sp))
  refined_rule ts Spent h = h

  pub refined_law : Law m n (refined Q Fine) p
  refined_law = record {
    some = (l.some.0, there l.some.0 l.some.1);
    reads = λ a f short rest next. l.reads a (back a f) short rest next;
    rule = λ ts. refined_rule ts (p ts) (l.rule ts);
    enough = λ a f short small. l.enough a (back a f) short small;
  }

-- ---- between parentheses, one level deeper

abbrev pub enclosed_part : {A : Type 0} → Part A → Part (Place × (A × Place))
enclosed_part Q = then_part (place_part (codes "(")) (then_part Q (place_part (codes ")")))

module _ {A : Type 0} (m n : ℕ) (Q : Part A) (p : Parser A) (l : Law m n Q p) (next : (a : A) (q : Place) → Q.Fine a → Q.Next a (Some (mark_at (codes ")") q))) where
  inside_law : Law m n (then_part Q (place_part (codes ")"))) (seq p (mark_rule (codes ")")))
  inside_law = then_law m n Q (place_part (codes ")")) p (mark_rule (codes ")")) l (mark_law m n (codes ")") refl) (λ a q rest f g h. next a q f)

  -- the parenthesis opens a level
  pub deeper_law : Law m (suc n) (enclosed_part Q) (enclosed p)
  deeper_law =
      then_less m (suc n) m (suc n) m n (place_part (codes "(")) (then_part Q (place_part (codes ")"))) (mark_rule (codes "(")) (seq p (mark_rule (codes ")"))) (mark_law m (suc n) (codes "(") refl) inside_law
      (omega arith) (omega arith) (λ u f. (omega arith, omega arith)) (λ u x rest f g h. tt)

  -- it opens none
  pub level_law : Law m n (enclosed_part Q) (enclosed p)
  level_law = then_law m n (place_part (codes "(")) (then_part Q (place_part (codes ")"))) (mark_rule (codes "(")) (seq p (mark_rule (codes ")"))) (mark_law m n (codes "(") refl) inside_law (λ u x rest f g h. tt)
