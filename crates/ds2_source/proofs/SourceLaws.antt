-- A source is read exactly: the one tree of its tokens, or the place of its refusal.
use Rattle.std.proofs.Common.{◌≡◌, ℕ, suc, ◌≤◌, List, [], ◌∷◌, ◌++◌, length, None, refl, sym, ap, ◌∙◌, arith}
use Rattle.std.proofs.lemmas.List.{append-nil}
use Rattle.ds2_token.specs.declared.token.Token.{Token}
use Rattle.ds2_tree.specs.Parsers.{Read, peek}
use Rattle.ds2_tree.proofs.Goes.{goes, last}
use Rattle.ds2_tree.proofs.Rules.{Rule, no_rule, pure_rule, sub_rule}
use Rattle.ds2_tree.proofs.Words.{sym as symbol}
use Rattle.ds2_tree.proofs.Theorem.{whole, exactly}
use Rattle.ds2_tree.specs.Units.{SourcePart, source_spelling, IsSource, source_opens}
use Rattle.ds2_parse_rules.specs.UnitGrammar.{parts_rule, at_the_end, source_rule}
use Rattle.ds2_source.specs.ParseAnswer.{source_symbol, SourcesAreReadExactly}
use Rattle.ds2_source.proofs.UnitLaws.{parts_part, parts_law}
use Rattle.ds2_source.proofs.SteadyUnitLaws.{steady_source}

source_end : (k n : ℕ) (s : List SourcePart) → IsSource s → source_opens s n ≡ None → (r : List Token) → Rule (whole source_symbol n) (suc k) (source_spelling s) r (peek (at_the_end s) r)
source_end k n s is fits [] = pure_rule (whole source_symbol n) (suc k) (source_spelling s) [] s refl (is, fits, refl)
source_end k n s is fits (t ∷ r) = no_rule (whole source_symbol n) (suc k) (source_spelling s) (t ∷ r) (s, [], is, sym (append-nil (source_spelling s)))

source_is : (k n : ℕ) (ts : List Token) → Rule (whole source_symbol n) (suc k) [] ts (source_rule (suc k) n ts)
source_is k n ts =
    sub_rule (symbol (parts_part n)) (whole source_symbol n) (suc k) (suc k) (suc k) [] ts (parts_rule (suc k) n ts) (λ s. peek (at_the_end s)) (omega arith) (λ s. omega arith) ((parts_law (suc k) n).rule ts)
    (λ s is. (s, [], is, sym (append-nil (source_spelling s))))
    (λ s r good same. source_end k n s good.0 good.1 r)

source_reads : (s : List SourcePart) (k n : ℕ) → IsSource s → length (source_spelling s) ≤ k → source_rule (suc k) n (source_spelling s) ≡ goes (source_opens s n) [] (Read s [])
source_reads s k n is short =
    ap (source_rule (suc k) n) (sym (append-nil (source_spelling s)))
    ∙ last (parts_rule (suc k) n (source_spelling s ++ [])) (source_opens s n) [] s (λ s. peek (at_the_end s)) (Read s []) ((parts_law (suc k) n).reads s is (omega (arith, short)) [] refl) refl

source_levels : (s : List SourcePart) → IsSource s → (n : ℕ) × ((m : ℕ) → n ≤ m → source_opens s m ≡ None)
source_levels s is = (length (source_spelling s), λ m le. (parts_law (suc (length (source_spelling s))) m).enough s is (omega arith) le)

pub sources_exactly : SourcesAreReadExactly
sources_exactly = exactly source_symbol (λ k n. source_rule (suc k) n) source_levels source_reads source_is (λ Same k k' le n n' low is. steady_source Same (suc k) (suc k') (omega (arith, le)) n n' low is)
