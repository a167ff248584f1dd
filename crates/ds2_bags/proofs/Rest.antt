-- The caller runs one group after the other that nobody brought.
use Rattle.std.proofs.Common.{◌≡◌, ◌<◌, ◌≤◌, ◌+◌, ◌-◌, ℕ, zero, suc, List, [], ◌∷◌, ◌++◌, Bool, true, false, ap, ◌∙◌, sym, refl, subst, arith, inl, inr, Option, Some, None}
use Rattle.std.specs.Prelude.{map, ◌||◌}
use Rattle.std.specs.List.{AllByRecursion, list_any}
use Rattle.std.proofs.lemmas.List.{append_assoc, append-nil}
use Rattle.std.proofs.lemmas.List.Folds.{list_any-append}
use Rattle.ds2_schedule.specs.Bags.{AreFrom, OnlyLastFaults}
use Rattle.ds2_bags.specs.declared.group_end.GroupEnd.{GroupEnd}
use Rattle.ds2_bags.specs.Endings.{ended_by_fault}
use Rattle.ds2_bags.specs.Rest.{unless_brought, unbrought, answered_run, is_brought, HasStoppedAt, HasRunRest}

-- No group faulted.
abbrev pub HaveNoFault : (ℕ → GroupEnd) → List ℕ → Type 0
HaveNoFault answer ran = AllByRecursion (λ k. ended_by_fault (answer k).ending ≡ false) ran

-- the caller has come to group g without a fault
pub record IsRunningRest (answer : ℕ → GroupEnd) (slot : ℕ → Option GroupEnd) (m g : ℕ) (ran : List ℕ) : Type 0 where
  pub begins : ran ++ unbrought slot g (m - g) ≡ unbrought slot 0 m
  pub calm : HaveNoFault answer ran

unbrought_here : (slot : ℕ → Option GroupEnd) (m g : ℕ) → g < m → unbrought slot g (m - g) ≡ unless_brought (slot g) g (unbrought slot (g + 1) (m - (g + 1)))
unbrought_here slot m g low = let e : m - g ≡ suc (m - (g + 1)) = omega arith in ap (unbrought slot g) e

noted : (s : Option GroupEnd) (g : ℕ) (ran rest : List ℕ) → (ran ++ unless_brought s g []) ++ rest ≡ ran ++ unless_brought s g rest
noted None g ran rest = append_assoc ran (g ∷ []) rest
noted (Some end) g ran rest = ap (λ (xs : List ℕ). xs ++ rest) (append-nil ran)

begins_more : (slot : ℕ → Option GroupEnd) (m g : ℕ) (ran now : List ℕ) → g < m → now ≡ ran ++ unless_brought (slot g) g [] → ran ++ unbrought slot g (m - g) ≡ unbrought slot 0 m
    → now ++ unbrought slot (g + 1) (m - (g + 1)) ≡ unbrought slot 0 m
begins_more slot m g ran now low is before =
    let rest = unbrought slot (g + 1) (m - (g + 1)) in
    ap (λ (xs : List ℕ). xs ++ rest) is ∙ noted (slot g) g ran rest ∙ ap (λ (xs : List ℕ). ran ++ xs) (sym (unbrought_here slot m g low)) ∙ before

calm_noted : (answer : ℕ → GroupEnd) (s : Option GroupEnd) (g : ℕ) (ran : List ℕ) → HaveNoFault answer ran → ended_by_fault (answer g).ending ≡ false → HaveNoFault answer (ran ++ unless_brought s g [])
calm_noted answer None g [] h calm = (calm, tt)
calm_noted answer (Some end) g [] h calm = tt
calm_noted answer s g (k ∷ ran) h calm = (h.0, calm_noted answer s g ran h.1 calm)

pub rest_begins : (answer : ℕ → GroupEnd) (slot : ℕ → Option GroupEnd) (m : ℕ) → IsRunningRest answer slot m 0 []
rest_begins answer slot m = let e : m - 0 ≡ m = omega arith in record { begins = ap (unbrought slot 0) e; calm = tt }

-- what was noted of a slot
pub noted_slot : (slot : ℕ → Option GroupEnd) (s : Option GroupEnd) (g : ℕ) (ran now : List ℕ) → s ≡ slot g → now ≡ ran ++ unless_brought s g [] → now ≡ ran ++ unless_brought (slot g) g []
noted_slot slot s g ran now is e = e ∙ ap (λ (o : Option GroupEnd). ran ++ unless_brought o g []) is

pub rest_goes_on : (answer : ℕ → GroupEnd) (slot : ℕ → Option GroupEnd) (m g : ℕ) (ran now : List ℕ) → g < m → now ≡ ran ++ unless_brought (slot g) g [] → ended_by_fault (answer g).ending ≡ false
    → IsRunningRest answer slot m g ran → IsRunningRest answer slot m (g + 1) now
rest_goes_on answer slot m g ran now low is calm h = record {
  begins = begins_more slot m g ran now low is h.begins;
  calm = subst (HaveNoFault answer) (sym is) (calm_noted answer (slot g) g ran h.calm calm);
}

only_last : (answer : ℕ → GroupEnd) (ran : List ℕ) → HaveNoFault answer ran → OnlyLastFaults (map (answered_run answer) ran)
only_last answer [] h = tt
only_last answer (k ∷ ran) h = ((λ fault. absurd (let no : true ≡ false = sym fault ∙ h.0 in cc)), only_last answer ran h.1)

only_last_noted : (answer : ℕ → GroupEnd) (s : Option GroupEnd) (g : ℕ) (ran : List ℕ) → HaveNoFault answer ran → OnlyLastFaults (map (answered_run answer) (ran ++ unless_brought s g []))
only_last_noted answer None g [] h = ((λ fault. refl), tt)
only_last_noted answer (Some end) g [] h = tt
only_last_noted answer s g (k ∷ ran) h = ((λ fault. absurd (let no : true ≡ false = sym fault ∙ h.0 in cc)), only_last_noted answer s g ran h.1)

pub rest_ends : (answer : ℕ → GroupEnd) (slot : ℕ → Option GroupEnd) (m g : ℕ) (ran : List ℕ) → m - g ≡ 0 → IsRunningRest answer slot m g ran → HasRunRest answer slot m ran
rest_ends answer slot m g ran over h = record {
  rest = [];
  begins = ap (λ (n : ℕ). ran ++ unbrought slot g n) (sym over) ∙ h.begins;
  faults = only_last answer ran h.calm;
  stopped = inl refl;
}

unbrought_from : (slot : ℕ → Option GroupEnd) (a g n : ℕ) → a ≤ g → AreFrom a (unbrought slot g n)
unbrought_from slot a g zero low = tt
unbrought_from slot a g (suc n) low = put_from (slot g) g (unbrought slot (g + 1) n) low (unbrought_from slot a (g + 1) n (omega (arith, low)))
  where
    put_from : (s : Option GroupEnd) (k : ℕ) (rest : List ℕ) → a ≤ k → AreFrom a rest → AreFrom a (unless_brought s k rest)
    put_from None k rest low h = (low, h)
    put_from (Some end) k rest low h = h

or_end : (a b : Bool) → b ≡ true → (a || b) ≡ true
or_end true b e = refl
or_end false b e = e

or_begin : (a b : Bool) → a ≡ true → (a || b) ≡ true
or_begin true b e = refl
or_begin false b e = absurd (cc)

stopped_at : (answer : ℕ → GroupEnd) (slot : ℕ → Option GroupEnd) (m g : ℕ) (s : Option GroupEnd) (ran rest : List ℕ) → g < m → slot g ≡ s → ended_by_fault (answer g).ending ≡ true → AreFrom g rest
    → HasStoppedAt answer slot m (ran ++ unless_brought s g []) rest
stopped_at answer slot m g None ran rest low is fault above =
    let p : ℕ → Bool = λ k. ended_by_fault (answer k).ending in
    inr (inl (list_any-append p ran (g ∷ []) ∙ or_end (list_any p ran) (list_any p (g ∷ [])) (or_begin (p g) false fault)))
stopped_at answer slot m g (Some end) ran rest low is fault above = inr (inr (g, low, ap is_brought is, fault, above))

pub rest_at_fault : (answer : ℕ → GroupEnd) (slot : ℕ → Option GroupEnd) (m g : ℕ) (ran now : List ℕ) → g < m → now ≡ ran ++ unless_brought (slot g) g [] → ended_by_fault (answer g).ending ≡ true
    → IsRunningRest answer slot m g ran → HasRunRest answer slot m now
rest_at_fault answer slot m g ran now low is fault h = record {
  rest = unbrought slot (g + 1) (m - (g + 1));
  begins = begins_more slot m g ran now low is h.begins;
  faults = subst (λ (xs : List ℕ). OnlyLastFaults (map (answered_run answer) xs)) (sym is) (only_last_noted answer (slot g) g ran h.calm);
  stopped = subst (λ (xs : List ℕ). HasStoppedAt answer slot m xs (unbrought slot (g + 1) (m - (g + 1)))) (sym is)
      (stopped_at answer slot m g (slot g) ran (unbrought slot (g + 1) (m - (g + 1))) low refl fault (unbrought_from slot g (g + 1) (m - (g + 1)) (omega arith)));
}
