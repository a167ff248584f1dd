-- The finest grain, where it is known that the rules hold there and not at the next one.
use Rattle.std.proofs.Common.{◌≡◌, ◌<◌, ◌≤◌, ℕ, zero, suc, Bool, true, false, Option, Some, None, is_some, refl, sym, ap, ◌∙◌, arith}
use Rattle.std.specs.Prelude.{nat_lt}
use Rattle.std.proofs.lemmas.Bool.{true≢false}
use Rattle.std.proofs.lemmas.Bool.Decides.{Decides-ltb}
use Rattle.ds2_locality.specs.declared.locality.Verdict.TheVariants.{Local, NotLocal}
use Rattle.ds2_locality.specs.declared.locality.Verdict.{Verdict}
use Rattle.ds2_locality.specs.Verdict.{coarsest, Ground, at_coarsest, or_coarser, at_finest}
use Rattle.ds2_local.specs.RunGrounds.{IsNotLocalBy}

-- the coarsest grain of so many BY variables is at most their number
pub coarsest_few : (n : ℕ) → coarsest n ≤ n
coarsest_few zero = omega arith
coarsest_few (suc n) = omega arith

-- a grain below their number from the coarsest one on is one of them
pub coarsest_some : (n grain : ℕ) → grain < n → coarsest n ≤ grain → suc zero ≤ grain
coarsest_some zero grain lt le = absurd (omega (arith, lt))
coarsest_some (suc n) grain lt le = le

module _ (tried : ℕ → Option Ground) where
  -- where the rules hold at the finest grain
  pub at_top : (n : ℕ) → tried n ≡ None → at_finest tried n ≡ Local n
  at_top zero e = ap (λ o. at_coarsest zero o) e
  at_top (suc zero) e = ap (λ o. at_coarsest (suc zero) o) e
  at_top (suc (suc n)) e = ap (λ o. or_coarser (suc (suc n)) o (at_finest tried (suc n))) e

  below_top : (n grain : ℕ) (b : Bool) → nat_lt grain (suc n) ≡ b → suc grain ≤ suc (suc n) → tried grain ≡ None → (grain < suc n → at_finest tried (suc n) ≡ Local grain) → at_finest tried (suc n) ≡ Local grain
  below_top n grain true e few holds less = less ((Decides-ltb grain (suc n)).0 e)
  below_top n grain false e few holds less =
      let not_less : grain < suc n → ⊥ = λ l. true≢false (sym ((Decides-ltb grain (suc n)).1 l) ∙ e) in
      let top : suc n ≡ grain = omega (arith, few, not_less) in
      ap (λ k. at_finest tried k) top ∙ at_top grain holds ∙ refl

  next_fails : (n grain : ℕ) (g : Ground) (o : Option Ground) → tried (suc (suc n)) ≡ o → tried (suc grain) ≡ Some g → (tried (suc (suc n)) ≡ None → tried (suc grain) ≡ None)
      → at_finest tried (suc n) ≡ Local grain → at_finest tried (suc (suc n)) ≡ Local grain
  next_fails n grain g None e fails coarser rest = let bad : Some g ≡ None = sym fails ∙ coarser e in absurd cc
  next_fails n grain g (Some h) e fails coarser rest = ap (λ o. or_coarser (suc (suc n)) o (at_finest tried (suc n))) e ∙ rest

  -- where they hold at a grain and not at the next one, nor then at finer ones
  pub finest_is : ((p q : ℕ) → q ≤ p → tried p ≡ None → tried q ≡ None) → (n grain : ℕ) (g : Ground) → suc zero ≤ grain → grain < n → tried grain ≡ None → tried (suc grain) ≡ Some g
      → at_finest tried n ≡ Local grain
  finest_is coarser zero grain g some few holds fails = absurd (omega (arith, some, few))
  finest_is coarser (suc zero) grain g some few holds fails = absurd (omega (arith, some, few))
  finest_is coarser (suc (suc n)) grain g some few holds fails =
      let at_most : suc grain ≤ suc (suc n) = omega (arith, few) in
      next_fails n grain g (tried (suc (suc n))) refl fails (λ e. coarser (suc (suc n)) (suc grain) at_most e)
      (below_top n grain (nat_lt grain (suc n)) refl at_most holds (λ l. finest_is coarser (suc n) grain g some l holds fails))

  -- where they hold not even at the coarsest grain
  pub coarsest_fails : ((p q : ℕ) → q ≤ p → tried p ≡ None → tried q ≡ None) → (n : ℕ) (g : Ground) → tried (coarsest n) ≡ Some g → at_finest tried n ≡ NotLocal g.reason g.place
  coarsest_fails coarser zero g fails = ap (λ o. at_coarsest zero o) fails
  coarsest_fails coarser (suc zero) g fails = ap (λ o. at_coarsest (suc zero) o) fails
  coarsest_fails coarser (suc (suc n)) g fails = by_top (tried (suc (suc n))) refl (coarsest_fails coarser (suc n) g fails)
    where
      by_top : (o : Option Ground) → tried (suc (suc n)) ≡ o → at_finest tried (suc n) ≡ NotLocal g.reason g.place → or_coarser (suc (suc n)) (tried (suc (suc n))) (at_finest tried (suc n)) ≡ NotLocal g.reason g.place
      by_top None e rest = let at_one : suc zero ≤ suc (suc n) = omega arith in let bad : Some g ≡ None = sym fails ∙ coarser (suc (suc n)) (suc zero) at_one e in absurd cc
      by_top (Some h) e rest = ap (λ o. or_coarser (suc (suc n)) o (at_finest tried (suc n))) e ∙ rest

  -- the verdict is that of the coarsest grain where the rules do not hold there
  pub not_local_is : ((p q : ℕ) → q ≤ p → tried p ≡ None → tried q ≡ None) → (n : ℕ) (v : Verdict) (o : Option Ground) → tried (coarsest n) ≡ o → IsNotLocalBy o v → v ≡ at_finest tried n
  not_local_is coarser n v None e is = absurd is
  not_local_is coarser n v (Some g) e is = is ∙ sym (coarsest_fails coarser n g e)

  -- the finest grain is one at which they hold, where they do not hold at the next one if that is there
  pub finest_at : ((p q : ℕ) → q ≤ p → tried p ≡ None → tried q ≡ None) → (n grain : ℕ) → coarsest n ≤ grain → grain ≤ n → tried grain ≡ None → (grain < n → tried (suc grain) ≡ None → ⊥) → at_finest tried n ≡ Local grain
  finest_at coarser n grain some few holds fails = by_less (nat_lt grain n) refl
    where
      by_next : grain < n → (o : Option Ground) → tried (suc grain) ≡ o → at_finest tried n ≡ Local grain
      by_next less None e = absurd (fails less e)
      by_next less (Some g) e = finest_is coarser n grain g (coarsest_some n grain less some) less holds e

      by_less : (b : Bool) → nat_lt grain n ≡ b → at_finest tried n ≡ Local grain
      by_less true e = by_next ((Decides-ltb grain n).0 e) (tried (suc grain)) refl
      by_less false e =
          let not_less : grain < n → ⊥ = λ l. true≢false (sym ((Decides-ltb grain n).1 l) ∙ e) in
          let top : n ≡ grain = omega (arith, few, not_less) in
          ap (λ k. at_finest tried k) top ∙ at_top grain holds

  -- a grain at which they do not hold
  pub fails_at : (finer : ℕ) (o : Option Ground) → tried finer ≡ o → is_some o ≡ true → tried finer ≡ None → ⊥
  fails_at finer None e there none = true≢false (sym there)
  fails_at finer (Some g) e there none = let bad : Some g ≡ None = sym e ∙ none in absurd cc

  -- one at which they hold
  pub holds_at : (finer : ℕ) (o : Option Ground) → tried finer ≡ o → is_some o ≡ false → tried finer ≡ None
  holds_at finer None e there = e
  holds_at finer (Some g) e there = absurd (true≢false there)
