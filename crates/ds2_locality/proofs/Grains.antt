-- The grain of the verdict is the greatest one at which the rules hold, and a refusal is that of the coarsest.
use Rattle.std.proofs.Common.{◌≡◌, ℕ, zero, suc, ◌<◌, ◌≤◌, ◌⊎◌, inl, inr, Option, Some, None, refl, sym, ap, ◌∙◌, subst, arith, length}
use Rattle.std.proofs.Math.Nat.{le-suc_iff}
use Rattle.ds2_base.specs.declared.place.Place.{Place}
use Rattle.ds2_meaning.specs.Reading.{bys_of}
use Rattle.ds2_locality.specs.declared.locality.Reason.{Reason}
use Rattle.ds2_locality.specs.declared.locality.Verdict.{Verdict}
use Rattle.ds2_locality.specs.declared.locality.Verdict.TheVariants.{Local, NotLocal}
use Rattle.ds2_locality.specs.Verdict.{JudgedThread, Ground, ground_at, ground_outside_run, at_coarsest, or_coarser, at_finest, unless_grounded, coarsest, LocalIsGreatest, NotLocalIsGrounded}

no_some : {A : Type 0} (r : A) (o : Option A) → o ≡ Some r → o ≡ None → ⊥
no_some r None h k = cc
no_some r (Some x) h k = cc

module _ (tried : ℕ → Option Ground) where
  -- what a search from n down finds
  abbrev Found : ℕ → ℕ → Type 0
  Found n p = (tried p ≡ None) × (coarsest n ≤ p) × (p ≤ n) × ((q : ℕ) → p < q → q ≤ n → tried q ≡ None → ⊥)

  last_found : (n p : ℕ) → coarsest n ≡ n → at_coarsest n (tried n) ≡ Local p → Found n p
  last_found n p b = of (tried n) refl
    where
      here : n ≡ p → tried n ≡ None → Found n p
      here e h = (subst (λ z. tried z ≡ None) e h, subst (λ z. coarsest n ≤ z) e (subst (λ z. z ≤ n) (sym b) (grind (arith))), grind (arith), λ q l m. absurd (grind (arith)))

      of : (o : Option Ground) → tried n ≡ o → at_coarsest n o ≡ Local p → Found n p
      of None e h = let q : n ≡ p = cc in here q e
      of (Some r) e h = absurd cc

  finer_found : (n p : ℕ) (v : Verdict) → (v ≡ Local p → Found n p) → coarsest n ≡ suc zero → or_coarser (suc n) (tried (suc n)) v ≡ Local p → Found (suc n) p
  finer_found n p v ih b = of (tried (suc n)) refl
    where
      here : suc n ≡ p → tried (suc n) ≡ None → Found (suc n) p
      here e h = (subst (λ z. tried z ≡ None) e h, subst (λ z. suc zero ≤ z) e (grind (arith)), grind (arith), λ q l m. absurd (grind (arith)))

      none_at : (r : Ground) → tried (suc n) ≡ Some r → Found n p → (q : ℕ) → p < q → (q ≤ n) ⊎ (q ≡ suc n) → tried q ≡ None → ⊥
      none_at r e f q l (inl m) h = f.3 q l m h
      none_at r e f q l (inr m) h = no_some r (tried (suc n)) e (subst (λ z. tried z ≡ None) m h)

      there : (r : Ground) → tried (suc n) ≡ Some r → Found n p → Found (suc n) p
      there r e f = (f.0, subst (λ z. z ≤ p) b f.1, (let g : p ≤ n = f.2 in grind (arith)), λ q l m h. none_at r e f q l (le-suc_iff.0 m) h)

      of : (o : Option Ground) → tried (suc n) ≡ o → or_coarser (suc n) o v ≡ Local p → Found (suc n) p
      of None e h = let q : suc n ≡ p = cc in here q e
      of (Some r) e h = there r e (ih h)

  finest_found : (n p : ℕ) → at_finest tried n ≡ Local p → Found n p
  finest_found zero p h = last_found zero p refl h
  finest_found (suc zero) p h = last_found (suc zero) p refl h
  finest_found (suc (suc n)) p h = finer_found (suc n) p (at_finest tried (suc n)) (λ k. finest_found (suc n) p k) refl h

  -- what a refusal says: the ground at the coarsest grain, and no grain is left
  abbrev Refused : ℕ → Reason → Place → Type 0
  Refused n reason place = (tried (coarsest n) ≡ Some (record { reason = reason; place = place })) × ((p : ℕ) → coarsest n ≤ p → p ≤ n → tried p ≡ None → ⊥)

  last_refused : (n : ℕ) (reason : Reason) (place : Place) → at_coarsest n (tried n) ≡ NotLocal reason place → tried n ≡ Some (record { reason = reason; place = place })
  last_refused n reason place = of (tried n)
    where
      of : (o : Option Ground) → at_coarsest n o ≡ NotLocal reason place → o ≡ Some (record { reason = reason; place = place })
      of None h = absurd cc
      of (Some r) h =
          let e : r.reason ≡ reason = cc in let f : r.place ≡ place = cc in
          ap (λ (q : Reason). Some (record { reason = q; place = r.place })) e ∙ ap (λ (q : Place). Some (record { reason = reason; place = q })) f

  finer_refused : (n : ℕ) (o : Option Ground) (v w : Verdict) (reason : Reason) (place : Place) → w ≡ NotLocal reason place → or_coarser n o v ≡ w → (o ≡ None → ⊥) × (v ≡ NotLocal reason place)
  finer_refused n None v w reason place e h = absurd cc
  finer_refused n (Some r) v w reason place e h = (λ k. cc, h ∙ e)

  one_left : (n p : ℕ) → n ≤ p → p ≤ n → (tried n ≡ None → ⊥) → tried p ≡ None → ⊥
  one_left n p l m k h = k (subst (λ z. tried z ≡ None) (let e : p ≡ n = grind (arith) in e) h)

  finest_refused : (n : ℕ) (reason : Reason) (place : Place) → at_finest tried n ≡ NotLocal reason place → Refused n reason place
  finest_refused zero reason place h =
      let e = last_refused zero reason place h in
      (e, λ p l m k. one_left zero p l m (λ z. no_some (record { reason = reason; place = place }) (tried zero) e z) k)
  finest_refused (suc zero) reason place h =
      let e = last_refused (suc zero) reason place h in
      (e, λ p l m k. one_left (suc zero) p l m (λ z. no_some (record { reason = reason; place = place }) (tried (suc zero)) e z) k)
  finest_refused (suc (suc n)) reason place h =
      let f = finer_refused (suc (suc n)) (tried (suc (suc n))) (at_finest tried (suc n)) (NotLocal reason place) reason place refl h in
      let r = finest_refused (suc n) reason place f.1 in
      (r.0, λ p l m k. of f.0 r.1 p l (le-suc_iff.0 m) k)
    where
      of : (tried (suc (suc n)) ≡ None → ⊥) → ((p : ℕ) → coarsest (suc n) ≤ p → p ≤ suc n → tried p ≡ None → ⊥) → (p : ℕ) → coarsest (suc (suc n)) ≤ p → (p ≤ suc n) ⊎ (p ≡ suc (suc n)) → tried p ≡ None → ⊥
      of f g p l (inl m) k = g p l m k
      of f g p l (inr m) k = f (subst (λ z. tried z ≡ None) m k)

ungrounded : (o : Option Ground) (v : Verdict) (p : ℕ) → unless_grounded o v ≡ Local p → (o ≡ None) × (v ≡ Local p)
ungrounded None v p h = (refl, h)
ungrounded (Some g) v p h = absurd cc

pub local_is_greatest : LocalIsGreatest
local_is_greatest t p h =
    let n = length (bys_of t.program.reading) in
    let u = ungrounded (ground_outside_run t) (at_finest (ground_at t) n) p h in
    let f = finest_found (ground_at t) n p u.1 in
    (u.0, record { holds = f.0; some = f.1; few = f.2; none_finer = f.3 })

grounded : (t : JudgedThread) (o : Option Ground) (reason : Reason) (place : Place) → unless_grounded o (at_finest (ground_at t) (length (bys_of t.program.reading))) ≡ NotLocal reason place
    → (o ≡ Some (record { reason = reason; place = place }))
    ⊎ ((o ≡ None)
    × (ground_at t (coarsest (length (bys_of t.program.reading))) ≡ Some (record { reason = reason; place = place }))
    × ((grain : ℕ) → coarsest (length (bys_of t.program.reading)) ≤ grain → grain ≤ length (bys_of t.program.reading) → ground_at t grain ≡ None → ⊥))
grounded t None reason place h = let r = finest_refused (ground_at t) (length (bys_of t.program.reading)) reason place h in inr (refl, r.0, r.1)
grounded t (Some g) reason place h =
    let e : g.reason ≡ reason = cc in let f : g.place ≡ place = cc in
    inl (ap (λ (q : Reason). Some (record { reason = q; place = g.place })) e ∙ ap (λ (q : Place). Some (record { reason = reason; place = q })) f)

pub not_local_is_grounded : NotLocalIsGrounded
not_local_is_grounded t reason place h = grounded t (ground_outside_run t) reason place h
