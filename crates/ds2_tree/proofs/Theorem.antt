-- From the four laws of a symbol's parser to its three answers.
use Rattle.std.proofs.Common.{◌≡◌, ℕ, suc, ◌+◌, ◌≤◌, List, [], ◌∷◌, ◌++◌, length, Some, None, refl, sym, ap, ◌∙◌, subst, arith, append_assoc, ◌⊎◌, inl, inr}
use Rattle.std.proofs.lemmas.List.{append-nil, append_cancel_right}
use Rattle.ds2_token.specs.declared.token.Token.{Token}
use Rattle.ds2_tree.specs.Parsers.{ParserOutcome, Read, Unexpected, TooDeep, Spent, Parser, first}
use Rattle.ds2_tree.specs.Acceptance.{Symbol, Begins, EndsAll, UnexpectedAt, OpensInAll, TooDeepAt, Answers, Exactly}
use Rattle.ds2_tree.proofs.Goes.{goes, goes_deep, goes_at}
use Rattle.ds2_tree.proofs.Rules.{Sym, Rule}
use Rattle.ds2_tree.proofs.Steady.{Moves, Steady}

-- ---- one list in two ways

abbrev rest_of : List Token → List Token
rest_of [] = []
rest_of (t ∷ l) = l

abbrev head_or : Token → List Token → Token
head_or d [] = d
head_or d (t ∷ l) = t

split : (a b c d : List Token) → a ++ b ≡ c ++ d → ((w : List Token) × (c ≡ a ++ w) × (b ≡ w ++ d)) ⊎ ((w : List Token) × (a ≡ c ++ w) × (d ≡ w ++ b))
split [] b c d e = inl (c, refl, e)
split (x ∷ a) b [] d e = inr (x ∷ a, refl, sym e)
split (x ∷ a) b (y ∷ c) d e = elim (split a b c d (ap rest_of e)) [
  | inl h ↦ inl (h.0, ap (λ (t : Token). t ∷ c) (sym (ap (head_or x) e)) ∙ ap (λ (l : List Token). x ∷ l) h.1, h.2)
  | inr h ↦ inr (h.0, ap (λ (t : Token). t ∷ a) (ap (head_or x) e) ∙ ap (λ (l : List Token). y ∷ l) h.1, h.2)
]

-- ---- answers

abbrev IsRead : {A : Type 0} → ParserOutcome A → Type 0
IsRead (Read x r) = Unit {0}
IsRead _ = ⊥

abbrev tree_or : {A : Type 0} → A → ParserOutcome A → A
tree_or d (Read x r) = x
tree_or d _ = d

abbrev IsUnexpected : {A : Type 0} → ParserOutcome A → Type 0
IsUnexpected (Unexpected r) = Unit {0}
IsUnexpected _ = ⊥

-- the whole text is one tree
abbrev pub whole : {A : Type 0} → Symbol A → ℕ → Sym A
whole S n = record { spell = S.spelling; Fine = S.Fine; Good = λ x r. S.Fine x × (S.opens x n ≡ None) × (r ≡ []) }

module _ {A : Type 0} (S : Symbol A) (P : ℕ → ℕ → Parser A)
    (levels : (x : A) → S.Fine x → (n : ℕ) × ((m : ℕ) → n ≤ m → S.opens x m ≡ None))
    (reads : (x : A) (k n : ℕ) → S.Fine x → length (S.spelling x) ≤ k → P k n (S.spelling x) ≡ goes (S.opens x n) [] (Read x []))
    (rule : (k n : ℕ) (ts : List Token) → Rule (whole S n) (suc k) [] ts (P k n ts))
    (steady : (Same : Type 0) (k k' : ℕ) → k ≤ k' → (n n' : ℕ) → n ≤ n' → (Same → n ≡ n') → Steady Same (P k n) (P k' n')) where
  within : (x : A) (k n : ℕ) → S.Fine x → length (S.spelling x) ≤ k → S.opens x n ≡ None → P k n (S.spelling x) ≡ Read x []
  within x k n is short fits = reads x k n is short ∙ ap (λ o. goes o [] (Read x [])) fits

  one_tree : (x y : A) → S.Fine x → S.Fine y → S.spelling x ≡ S.spelling y → x ≡ y
  one_tree x y is it same =
      let a = levels x is in let b = levels y it in
      let k = length (S.spelling x) + length (S.spelling y) in let n = a.0 + b.0 in
      ap (tree_or x) (sym (within x k n is (omega arith) (a.1 n (omega arith))) ∙ ap (P k n) same ∙ within y k n it (omega arith) (b.1 n (omega arith)))

  -- more turns change nothing
  turns : (k n : ℕ) (ts : List Token) → length ts ≤ k → P k n ts ≡ P (length ts) n ts
  turns k n ts le = settled (P (length ts) n ts) (steady (Unit {0}) (length ts) k le n n (omega arith) (λ _. refl) ts) (rule (length ts) n ts)
    where
      settled : (o : ParserOutcome A) → Moves (Unit {0}) (P k n) ts o → Rule (whole S n) (suc (length ts)) [] ts o → P k n ts ≡ o
      settled (Read x r) m h = ap (P k n) m.1 ∙ m.2 r refl
      settled (Unexpected r) m h = ap (P k n) m.1 ∙ m.2 r refl
      settled (TooDeep r) m h = let d = m tt in ap (P k n) d.1 ∙ d.2 r refl
      settled Spent m h = absurd (omega (arith, h))

  -- where some tree opens a level too many, every list that begins so is refused there
  deep_there : (k n : ℕ) (x : A) (front : List Token) (t : Token) (tail after : List Token) → S.Fine x → length (S.spelling x) ≤ k → S.spelling x ≡ front ++ (t ∷ tail) → S.opens x n ≡ Some (t ∷ tail)
      → P k n (front ++ (t ∷ after)) ≡ TooDeep (t ∷ after)
  deep_there k n x front t tail after is short same opens =
      let told : P k n (S.spelling x) ≡ TooDeep (t ∷ tail) = reads x k n is short ∙ goes_at (S.opens x n) x (t ∷ tail) opens in
      let m = subst (Moves (Unit {0}) (P k n) (S.spelling x)) told (steady (Unit {0}) k k (omega arith) n n (omega arith) (λ _. refl) (S.spelling x)) tt in
      let fronts : front ≡ m.0 = append_cancel_right front m.0 (t ∷ tail) (sym same ∙ m.1) in
      ap (λ (l : List Token). P k n (l ++ (t ∷ after))) fronts ∙ m.2 (t ∷ after) refl

  deep_is : (n : ℕ) (ts r : List Token) → TooDeepAt S n ts r → P (length ts) n ts ≡ TooDeep r
  deep_is n ts r (front, t, after, er, e, (x, tail, is, spelled), all) =
      let k = length ts + length (S.spelling x) in
      let same : S.spelling x ≡ front ++ (t ∷ tail) = spelled ∙ append_assoc front (t ∷ []) tail in
      sym (turns k n ts (omega arith)) ∙ ap (P k n) e ∙ deep_there k n x front t tail after is (omega arith) same (all x tail is same) ∙ ap TooDeep (sym er)

  module _ (n : ℕ) (ts : List Token) where
    abbrev Stays : ParserOutcome A → Type 1
    Stays o = (Same : Type 0) (k m : ℕ) → length ts ≤ k → n ≤ m → (Same → n ≡ m) → Moves Same (P k m) ts o

    -- no tree is read where this list is refused
    not_read : (x : A) (is : S.Fine x) (l : List Token) (o : ParserOutcome A) → S.spelling x ≡ l → (IsRead o → ⊥) → (m : ℕ) → S.opens x m ≡ None → P (length ts + length (S.spelling x)) m l ≡ o → ⊥
    not_read x is l o e never m fits h =
        let k = length ts + length (S.spelling x) in
        never (subst IsRead (sym (within x k m is (omega arith) fits) ∙ ap (P k m) e ∙ h) tt)

    ends_all : (front r : List Token) → ts ≡ front ++ r → Stays (Unexpected r) → EndsAll S front r
    ends_all front [] e stays = λ x is same.
        let a = levels x is in let m = n + a.0 in let k = length ts + length (S.spelling x) in
        let v = stays ⊥ k m (omega arith) (omega arith) (λ x. absurd x) in
        let fronts : front ≡ v.0 = append_cancel_right front v.0 [] (sym e ∙ v.1) in
        not_read x is (v.0 ++ []) (Unexpected []) (same ∙ fronts ∙ sym (append-nil v.0)) (λ x. x) m (a.1 m (omega arith)) (v.2 [] refl)
    ends_all front (t ∷ r) e stays = λ b.
        let x = b.0 in let a = levels x b.2 in let m = n + a.0 in let k = length ts + length (S.spelling x) in
        let v = stays ⊥ k m (omega arith) (omega arith) (λ x. absurd x) in
        let fronts : front ≡ v.0 = append_cancel_right front v.0 (t ∷ r) (sym e ∙ v.1) in
        not_read x b.2 (v.0 ++ (t ∷ b.1)) (Unexpected (t ∷ b.1)) (b.3 ∙ append_assoc front (t ∷ []) b.1 ∙ ap (λ (l : List Token). l ++ (t ∷ b.1)) fronts) (λ x. x) m (a.1 m (omega arith)) (v.2 (t ∷ b.1) refl)

    -- every tree that begins so opens the level there
    opens_all : (front : List Token) (t : Token) (after r : List Token) → r ≡ t ∷ after → ts ≡ front ++ (t ∷ after) → Stays (TooDeep r) → OpensInAll S n front t
    opens_all front t after r er e stays x tail is same =
        let k = length ts + length (S.spelling x) in
        let v = stays (Unit {0}) k n (omega arith) (omega arith) (λ x. refl) tt in
        let fronts : front ≡ v.0 = append_cancel_right front v.0 (t ∷ after) (sym e ∙ v.1 ∙ ap (λ (l : List Token). v.0 ++ l) er) in
        goes_deep (S.opens x n) x (t ∷ tail) (sym (reads x k n is (omega arith)) ∙ ap (P k n) (same ∙ ap (λ (l : List Token). l ++ (t ∷ tail)) fronts) ∙ v.2 (t ∷ tail) (ap first er))

    answers_of : (o : ParserOutcome A) → P (length ts) n ts ≡ o → Rule (whole S n) (suc (length ts)) [] ts o → Stays o → Answers S n ts o
    answers_of (Read x r) is h stays = (h.3.0, h.3.1, h.1 ∙ ap (λ (l : List Token). h.0 ++ l) h.3.2 ∙ append-nil h.0 ∙ sym h.2, h.3.2)
    answers_of (Unexpected r) is h stays = ((h.0, h.1, h.2, ends_all h.0 r h.1 stays), λ q d. subst IsUnexpected (sym is ∙ deep_is n ts q d) tt)
    answers_of (TooDeep r) is h stays = (h.0, h.1, h.2, h.3, h.4, h.5, opens_all h.0 h.1 h.2 r h.3 h.4 stays)
    answers_of Spent is h stays = omega (arith, h)

    answers : Answers S n ts (P (length ts) n ts)
    answers = answers_of (P (length ts) n ts) refl (rule (length ts) n ts) (λ Same k m le low is. steady Same (length ts) k le n m low is ts)

    begins_less : (front w : List Token) (t : Token) → Begins S (front ++ (t ∷ w)) → Begins S (front ++ (t ∷ []))
    begins_less front w t b = (b.0, w ++ b.1, b.2, b.3 ∙ append_assoc front (t ∷ w) b.1 ∙ sym (append_assoc front (t ∷ []) (w ++ b.1)))

    -- two places of Unexpected are one
    behind : (front r w q : List Token) → EndsAll S front r → r ≡ w ++ q → Begins S (front ++ w) → r ≡ q
    behind front r [] q ends e b = e
    behind front r (t ∷ w) q ends e b = absurd (subst (EndsAll S front) e ends (begins_less front w t b))

    one_place : (r q : List Token) → UnexpectedAt S ts r → UnexpectedAt S ts q → r ≡ q
    one_place r q (f, e, b, ends) (g, e', b', ends') = elim (split f r g q (sym e ∙ e')) [
      | inl h ↦ behind f r h.0 q ends h.2 (subst (Begins S) h.1 b')
      | inr h ↦ sym (behind g q h.0 r ends' h.2 (subst (Begins S) h.1 b))
    ]

    not_both : (x : A) (r : List Token) → S.Fine x → ts ≡ S.spelling x → UnexpectedAt S ts r → ⊥
    not_both x [] is e u = u.3 x is (sym e ∙ u.1 ∙ append-nil u.0)
    not_both x (t ∷ r) is e u = u.3 (x, r, is, sym e ∙ u.1 ∙ sym (append_assoc u.0 (t ∷ []) r))

    no_is : (r : List Token) → UnexpectedAt S ts r → ((q : List Token) → TooDeepAt S n ts q → ⊥) → (o : ParserOutcome A) → Answers S n ts o → Unexpected r ≡ o
    no_is r u never (Read x q) a = absurd (not_both x r a.0 a.2 u)
    no_is r u never (Unexpected q) a = ap Unexpected (one_place r q u a.0)
    no_is r u never (TooDeep q) a = absurd (never q a)
    no_is r u never Spent a = absurd a

    only : (o : ParserOutcome A) → Answers S n ts o → o ≡ P (length ts) n ts
    only (Read x r) a = ap (Read x) a.3 ∙ sym (ap (λ ts. P (length ts) n ts) a.2 ∙ within x (length (S.spelling x)) n a.0 (omega arith) a.1)
    only (Unexpected r) a = no_is r a.0 a.1 (P (length ts) n ts) answers
    only (TooDeep r) a = sym (deep_is n ts r a)
    only Spent a = absurd a

  pub exactly : Exactly S (λ n ts. P (length ts) n ts)
  exactly = record { one_tree = one_tree; answers = answers; only = only }
