-- A function that gives what the rule of a symbol does keeps the promise of the symbol.
use Rattle.std.proofs.Common.{◌≡◌, ℕ, suc, ◌≤◌, ◌<◌, List, [], ◌∷◌, length, Result, None, refl, sym, ap, ◌∙◌, subst, arith}
use Rattle.std.proofs.lemmas.List.{append-nil}
use Rattle.ds2_base.specs.declared.place.Place.{Place}
use Rattle.ds2_base.specs.declared.place.Refusal.{Refusal}
use Rattle.ds2_base.specs.declared.stop.Stop.{Stop}
use Rattle.ds2_token.specs.declared.token.Token.{Token}
use Rattle.ds2_tree.specs.declared.kind.ParseKind.{ParseKind}
use Rattle.ds2_tree.specs.Parsers.{ParserOutcome, Read, Unexpected, and_then, peek}
use Rattle.ds2_tree.specs.Acceptance.{Answers}
use Rattle.ds2_tree.specs.Promise.{Gives, Fails, Promises, SaysOfText}
use Rattle.ds2_tree.proofs.Goes.{goes}
use Rattle.ds2_tree.proofs.Words.{sym as symbol}
use Rattle.ds2_tree.proofs.Promised.{promised, said}
use Rattle.ds2_tree.proofs.Steps.{fails_on}
use Rattle.ds2_tree.specs.Globals.{GlobalItem, global_spelling, IsGlobal, global_opens}
use Rattle.ds2_tree.specs.Units.{SourcePart, part_spelling, IsPart, part_opens}
use Rattle.ds2_parse_rules.specs.GlobalGrammar.{global_rule}
use Rattle.ds2_parse_rules.specs.UnitGrammar.{part_rule, parts_rule, at_the_end, parse_source}
use Rattle.ds2_source.specs.ParseAnswer.{global_symbol, part_symbol, source_symbol}
use Rattle.ds2_source.proofs.GlobalLaws.{global_part, global_law}
use Rattle.ds2_source.proofs.UnitLaws.{source_part, source_part_law}
use Rattle.ds2_source.proofs.SteadyUnitLaws.{steady_global, steady_part}
use Rattle.ds2_source.proofs.SourceLaws.{sources_exactly}

-- ---- globals

global_levels : (g : GlobalItem) → IsGlobal g → (n : ℕ) × ((m : ℕ) → n ≤ m → global_opens g m ≡ None)
global_levels g is = (length (global_spelling g), λ m le. (global_law (suc (length (global_spelling g))) m).enough g is (omega arith) le)

global_reads : (g : GlobalItem) (k n : ℕ) → IsGlobal g → length (global_spelling g) ≤ k → global_rule (suc k) n (global_spelling g) ≡ goes (global_opens g n) [] (Read g [])
global_reads g k n is short = ap (global_rule (suc k) n) (sym (append-nil (global_spelling g))) ∙ (global_law (suc k) n).reads g is (omega (arith, short)) [] tt

pub global_promise : {X : Type 0} (f : X → GlobalItem × List Token) (n : ℕ) (end : Place) (ts : List Token) (r : Result X (Stop (Refusal ParseKind))) → ((m : ℕ) → length ts < m → Gives end f r (global_rule m n ts)) → Promises global_symbol n end f ts r
global_promise f n end ts r gives =
    let k = length ts in
    promised global_symbol (symbol (global_part n)).Good n (λ x r g. (g.0, g.1)) (λ k n. global_rule (suc k) n) global_levels global_reads ts end f k r (global_rule (suc k) n ts)
    (gives (suc k) (omega arith)) ((global_law (suc k) n).rule ts) (λ Same i m le low is. (steady_global (suc k) (suc i) (omega (arith, le)) n m low is).holds ts)

-- ---- parts of a source

part_levels : (p : SourcePart) → IsPart p → (n : ℕ) × ((m : ℕ) → n ≤ m → part_opens p m ≡ None)
part_levels p is = (length (part_spelling p), λ m le. (source_part_law (suc (length (part_spelling p))) m).enough p is (omega arith) le)

part_reads : (p : SourcePart) (k n : ℕ) → IsPart p → length (part_spelling p) ≤ k → part_rule (suc k) n (part_spelling p) ≡ goes (part_opens p n) [] (Read p [])
part_reads p k n is short = ap (part_rule (suc k) n) (sym (append-nil (part_spelling p))) ∙ (source_part_law (suc k) n).reads p is (omega (arith, short)) [] tt

pub part_promise : {X : Type 0} (f : X → SourcePart × List Token) (n : ℕ) (end : Place) (ts : List Token) (r : Result X (Stop (Refusal ParseKind))) → ((m : ℕ) → length ts < m → Gives end f r (part_rule m n ts)) → Promises part_symbol n end f ts r
part_promise f n end ts r gives =
    let k = length ts in
    promised part_symbol (symbol (source_part n)).Good n (λ x r g. (g.0, g.1)) (λ k n. part_rule (suc k) n) part_levels part_reads ts end f k r (part_rule (suc k) n ts)
    (gives (suc k) (omega arith)) ((source_part_law (suc k) n).rule ts) (λ Same i m le low is. (steady_part (suc k) (suc i) (omega (arith, le)) n m low is).holds ts)

-- ---- sources

-- what `parse` says, where it gives what the rule of sources does
pub source_said : {X : Type 0} (f : X → List SourcePart) (n : ℕ) (end : Place) (ts : List Token) (r : Result X (Stop (Refusal ParseKind))) → Gives end (λ x. (f x, [])) r (parse_source n ts) → SaysOfText source_symbol n end f ts r
source_said f n end ts r g = said source_symbol n end f ts r (parse_source n ts) (sources_exactly.answers n ts) g

-- at the end of the text, the parts that were read are the source
pub source_read : (n : ℕ) (ts : List Token) (s : List SourcePart) (r : List Token) → parts_rule (suc (length ts)) n ts ≡ Read s r → length r ≡ 0 → parse_source n ts ≡ Read s []
source_read n ts s r h e = ap (λ (o : ParserOutcome (List SourcePart)). and_then o (λ s. peek (at_the_end s))) h ∙ ended r e
  where
    ended : (r : List Token) → length r ≡ 0 → peek (at_the_end s) r ≡ Read s []
    ended [] h = refl
    ended (t ∷ r) h = absurd (omega (arith, h))

-- they are the tree that the tokens spell
pub source_accepted : (n : ℕ) (ts : List Token) (s : List SourcePart) (r : List Token) → parts_rule (suc (length ts)) n ts ≡ Read s r → length r ≡ 0 → Answers source_symbol n ts (Read s [])
source_accepted n ts s r h e = subst (Answers source_symbol n ts) (source_read n ts s r h e) (sources_exactly.answers n ts)

-- before any other token nothing goes on
pub source_trails : (n : ℕ) (ts : List Token) (s : List SourcePart) (r : List Token) → parts_rule (suc (length ts)) n ts ≡ Read s r → 0 < length r → parse_source n ts ≡ Unexpected r
source_trails n ts s r h e = ap (λ (o : ParserOutcome (List SourcePart)). and_then o (λ s. peek (at_the_end s))) h ∙ trails r e
  where
    trails : (r : List Token) → 0 < length r → peek (at_the_end s) r ≡ Unexpected r
    trails [] h = absurd (omega (arith, h))
    trails (t ∷ r) h = refl

-- where a part is refused, so is the source
pub source_fails : (n : ℕ) (end : Place) (ts : List Token) (e : Stop (Refusal ParseKind)) → Fails end e (parts_rule (suc (length ts)) n ts) → Fails end e (parse_source n ts)
source_fails n end ts e h = fails_on end e (parts_rule (suc (length ts)) n ts) (λ s. peek (at_the_end s)) h
