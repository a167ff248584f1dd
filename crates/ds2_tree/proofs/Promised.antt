-- The promise follows from the laws of the parser on lists.
use Rattle.std.proofs.Common.{◌≡◌, ℕ, suc, ◌+◌, ◌≤◌, List, [], ◌∷◌, ◌++◌, length, None, Result, Ok, Err, refl, sym, ap, ◌∙◌, subst, arith, append_assoc}
use Rattle.std.proofs.lemmas.List.{append_cancel_right}
use Rattle.ds2_base.specs.declared.stop.Stop.{Stop}
use Rattle.ds2_base.specs.declared.stop.Stop.TheVariants as stop
use Rattle.ds2_token.specs.declared.token.Token.{Token}
use Rattle.ds2_base.specs.declared.place.Place.{Place}
use Rattle.ds2_base.specs.declared.place.Refusal.{Refusal}
use Rattle.ds2_tree.specs.declared.kind.ParseKind.{ParseKind}
use Rattle.ds2_tree.specs.declared.kind.ParseKind.TheVariants as kind
use Rattle.ds2_tree.specs.Parsers.{ParserOutcome, Read, Unexpected, TooDeep, Spent, Parser, first}
use Rattle.ds2_tree.specs.Acceptance.{Symbol, OpensInAll, Answers}
use Rattle.ds2_tree.specs.Promise.{EndsThere, Promises, Gives, IsRefusedAs, RefusedAt, Said, SaysOfText}
use Rattle.ds2_tree.proofs.Goes.{goes, goes_deep}
use Rattle.ds2_tree.proofs.Rules.{Sym, Rule}
use Rattle.ds2_tree.proofs.Steady.{Alike, Moves}

abbrev EndsText : {A : Type 0} → ParserOutcome A → Type 0
EndsText (Read x []) = Unit {0}
EndsText _ = ⊥

-- for any symbol: `parse k n` is its parser of n levels and k turns
module _ {A : Type 0} (S : Symbol A) (Good : A → List Token → Type 0) (n : ℕ) (good : (x : A) (r : List Token) → Good x r → S.Fine x × (S.opens x n ≡ None))
    (parse : ℕ → ℕ → Parser A)
    (levels : (x : A) → S.Fine x → (n : ℕ) × ((m : ℕ) → n ≤ m → S.opens x m ≡ None))
    (reads : (x : A) (k n : ℕ) → S.Fine x → length (S.spelling x) ≤ k → parse k n (S.spelling x) ≡ goes (S.opens x n) [] (Read x [])) (ts : List Token) where
  abbrev Here : Sym A
  Here = record { spell = S.spelling; Fine = S.Fine; Good = Good }

  abbrev pub Stays : ParserOutcome A → Type 1
  Stays o = (Same : Type 0) (k m : ℕ) → length ts ≤ k → n ≤ m → (Same → n ≡ m) → Moves Same (parse k m) ts o

  ends : (front r : List Token) (o : List Token → ParserOutcome A) → ((q : List Token) → EndsText (o q) → q ≡ [])
      → ts ≡ front ++ r → ((k m : ℕ) → length ts ≤ k → n ≤ m → (v : List Token) × (ts ≡ v ++ r) × ((q : List Token) → Alike r q → parse k m (v ++ q) ≡ o q)) → EndsThere S front r
  ends front [] o only e moves = tt
  ends front (t ∷ r) o only e moves = λ b.
      let a = levels b.0 b.2 in let k = length ts + length (S.spelling b.0) in let m = n + a.0 in
      let v = moves k m (omega arith) (omega arith) in
      let fronts : front ≡ v.0 = append_cancel_right front v.0 (t ∷ r) (sym e ∙ v.1) in
      let same : S.spelling b.0 ≡ v.0 ++ (t ∷ b.1) = b.3 ∙ append_assoc front (t ∷ []) b.1 ∙ ap (λ (l : List Token). l ++ (t ∷ b.1)) fronts in
      let read : parse k m (S.spelling b.0) ≡ Read b.0 [] = reads b.0 k m b.2 (omega arith) ∙ ap (λ o. goes o [] (Read b.0 [])) (a.1 m (omega arith)) in
      let ended : EndsText (o (t ∷ b.1)) = subst EndsText (sym read ∙ ap (parse k m) same ∙ v.2 (t ∷ b.1) refl) tt in
      cons_nil t b.1 (only (t ∷ b.1) ended)
    where
      cons_nil : (t : Token) (l : List Token) → t ∷ l ≡ [] → ⊥
      cons_nil t l e = let n : length (t ∷ l) ≡ 0 = ap length e in omega (arith, n)

  opens_all : (front : List Token) (t : Token) (after r : List Token) → r ≡ t ∷ after → ts ≡ front ++ (t ∷ after) → Stays (TooDeep r) → OpensInAll S n front t
  opens_all front t after r er e stays x tail is same =
      let k = length ts + length (S.spelling x) in
      let v = stays (Unit {0}) k n (omega arith) (omega arith) (λ x. refl) tt in
      let fronts : front ≡ v.0 = append_cancel_right front v.0 (t ∷ after) (sym e ∙ v.1 ∙ ap (λ (l : List Token). v.0 ++ l) er) in
      goes_deep (S.opens x n) x (t ∷ tail) (sym (reads x k n is (omega arith)) ∙ ap (parse k n) (same ∙ ap (λ (l : List Token). l ++ (t ∷ tail)) fronts) ∙ v.2 (t ∷ tail) (ap first er))

  refused_at : (end : Place) (why : ParseKind) (place : Place) (k : ℕ) (o : ParserOutcome A) → IsRefusedAs end why place o → Rule Here (suc k) [] ts o → Stays o → RefusedAt S n end ts why place
  refused_at end kind.Unexpected place k (Unexpected q) g h stays =
      (h.0, q, h.1, g, h.2, ends h.0 q Unexpected (λ q h. elim h [ ]) h.1 (λ i m le low. stays ⊥ i m le low (λ a. absurd a)))
  refused_at end kind.Unexpected place k (Read x q) g h stays = elim g [ ]
  refused_at end kind.Unexpected place k (TooDeep q) g h stays = elim g [ ]
  refused_at end kind.Unexpected place k Spent g h stays = elim g [ ]
  refused_at end kind.TooDeep place k (TooDeep q) g h stays = (q, g, (h.0, h.1, h.2, h.3, h.4, h.5, opens_all h.0 h.1 h.2 q h.3 h.4 stays))
  refused_at end kind.TooDeep place k (Read x q) g h stays = elim g [ ]
  refused_at end kind.TooDeep place k (Unexpected q) g h stays = elim g [ ]
  refused_at end kind.TooDeep place k Spent g h stays = elim g [ ]

  pub promised : {X : Type 0} (end : Place) (f : X → A × List Token) (k : ℕ) (r : Result X (Stop (Refusal ParseKind))) (o : ParserOutcome A) → Gives end f r o → Rule Here (suc k) [] ts o → Stays o → Promises S n end f ts r
  promised end f k (Ok x) o g h stays =
      let h' : Rule Here (suc k) [] ts (Read (f x).0 (f x).1) = subst (Rule Here (suc k) [] ts) g h in
      let is : ts ≡ S.spelling (f x).0 ++ (f x).1 = h'.1 ∙ ap (λ (w : List Token). w ++ (f x).1) (sym h'.2) in
      let both = good (f x).0 (f x).1 h'.3 in
      (both.0, both.1, is, ends (S.spelling (f x).0) (f x).1 (Read (f x).0) (read_nil (f x).0) is (λ i m le low. subst (Moves ⊥ (parse i m) ts) g (stays ⊥ i m le low (λ a. absurd a))))
    where
      read_nil : (x : A) (q : List Token) → EndsText (Read x q) → q ≡ []
      read_nil x [] h = refl
      read_nil x (t ∷ q) h = elim h [ ]
  promised end f k (Err (stop.Refused refusal)) o g h stays = refused_at end refusal.kind refusal.place k o g h stays
  promised end f k (Err stop.OutOfMemory) o g h stays = tt

-- what is said of a whole text, by its answer
module _ {A X : Type 0} (S : Symbol A) (n : ℕ) (end : Place) (f : X → A) (ts : List Token) where
  said_of : (why : ParseKind) (place : Place) (o : ParserOutcome A) → Answers S n ts o → IsRefusedAs end why place o → Said S n end ts why place
  said_of kind.Unexpected place (Unexpected q) a g = (q, g, a)
  said_of kind.Unexpected place (Read x q) a g = elim g [ ]
  said_of kind.Unexpected place (TooDeep q) a g = elim g [ ]
  said_of kind.Unexpected place Spent a g = elim g [ ]
  said_of kind.TooDeep place (TooDeep q) a g = (q, g, a)
  said_of kind.TooDeep place (Read x q) a g = elim g [ ]
  said_of kind.TooDeep place (Unexpected q) a g = elim g [ ]
  said_of kind.TooDeep place Spent a g = elim g [ ]

  pub said : (r : Result X (Stop (Refusal ParseKind))) (o : ParserOutcome A) → Answers S n ts o → Gives end (λ x. (f x, [])) r o → SaysOfText S n end f ts r
  said (Ok x) o a g = subst (Answers S n ts) g a
  said (Err (stop.Refused refusal)) o a g = said_of refusal.kind refusal.place o a g
  said (Err stop.OutOfMemory) o a g = tt
