-- The least faulting group is one that faulted, and no lower one did.
use Rattle.std.proofs.lemmas.List.{length-append}
use Rattle.std.proofs.Common.{◌≡◌, ℕ, ◌+◌, ◌≤◌, List, [], ◌∷◌, ◌++◌, Bool, true, false, Option, Some, None, refl, sym, ap, ◌∙◌, subst, arith, inl, inr}
use Rattle.std.specs.Prelude.{◌⊎◌, ◌&&◌, ◌||◌, if◌then◌else◌, ◌==◌}
use Rattle.std.specs.List.{list_any}
use Rattle.std.proofs.lemmas.Bool.{cases_lt, eq-eqb}
use Rattle.ds2_schedule.specs.Stage.{HandIn, some_fault}
use Rattle.ds2_schedule.specs.Sums.{lesser_fault, least_fault, NoFaultBelow, FaultIsLeast, rows_handed, AreSums}
use Rattle.ds2_schedule.proofs.Counts.{lt_true, lt_false}
use Rattle.ds2_schedule.proofs.Legal.{or_true, or_right}

Next : Option ℕ → ℕ → Bool → ℕ → Type 0
Next o g faulted h = (lesser_fault o g faulted ≡ Some h) × ((f : ℕ) → o ≡ Some f → h ≤ f) × (faulted ≡ true → h ≤ g) × ((o ≡ Some h) ⊎ ((faulted ≡ true) × (g ≡ h)))

next_of_some : (f g : ℕ) (faulted : Bool) → (h : ℕ) × Next (Some f) g faulted h
unfolding Next
next_of_some f g true = elim (cases_lt g f) [
  | inl low ↦ (g, (ap {B = Option ℕ} (λ (b : Bool). if b then Some g else Some f) (lt_true g f low), (λ k e. let i : f ≡ k = cc in omega (arith, low, i)), (λ e. omega arith), inr (refl, refl)))
  | inr high ↦ (f, (ap {B = Option ℕ} (λ (b : Bool). if b then Some g else Some f) (lt_false g f high), (λ k e. let i : f ≡ k = cc in omega (arith, i)), (λ e. high), inl refl))
]
next_of_some f g false = (f, (refl, (λ k e. let i : f ≡ k = cc in omega (arith, i)), (λ e. absurd (cc)), inl refl))

next_of_fault : (o : Option ℕ) (g : ℕ) → (h : ℕ) × Next o g true h
unfolding Next
next_of_fault None g = (g, (refl, (λ k e. absurd (cc)), (λ e. omega arith), inr (refl, refl)))
next_of_fault (Some f) g = next_of_some f g true

stays : (f : ℕ) (es : List HandIn) → (h : ℕ) × (least_fault (Some f) es ≡ Some h) × (h ≤ f)
unfolding Next
stays f [] = (f, refl, omega arith)
stays f (e ∷ es) =
    let n = next_of_some f e.group e.faulted in
    let r = stays n.0 es in
    (r.0, ap (λ (o : Option ℕ). least_fault o es) n.1.0 ∙ r.1, omega (arith, r.2, n.1.1 f refl))

below_it : (o : Option ℕ) (h f : ℕ) (es : List HandIn) → o ≡ Some h → least_fault o es ≡ Some f → f ≤ h
below_it o h f es is e =
    let s = stays h es in
    let i : s.0 ≡ f = (let a = sym (ap (λ (z : Option ℕ). least_fault z es) is ∙ s.1) ∙ e in cc) in
    omega (arith, s.2, i)

head_above : (o : Option ℕ) (f : ℕ) (x : HandIn) (xs : List HandIn) (b : Bool) → x.faulted ≡ b → least_fault (lesser_fault o x.group x.faulted) xs ≡ Some f → x.faulted ≡ true → f ≤ x.group
unfolding Next
head_above o f x xs b is e yes_it =
    let n = next_of_fault o x.group in
    omega (arith, below_it (lesser_fault o x.group x.faulted) n.0 f xs (ap (lesser_fault o x.group) yes_it ∙ n.1.0) e, n.1.2 refl)

none_below : (o : Option ℕ) (f : ℕ) (es : List HandIn) → least_fault o es ≡ Some f → NoFaultBelow f es
none_below o f [] e = tt
none_below o f (x ∷ xs) e = (head_above o f x xs x.faulted refl e, none_below (lesser_fault o x.group x.faulted) f xs e)

was : (o : Option ℕ) (g : ℕ) (faulted : Bool) (f : ℕ) → lesser_fault o g faulted ≡ Some f → (o ≡ Some f) ⊎ ((faulted ≡ true) × (g ≡ f))
unfolding Next
was None g true f e = inr (refl, cc)
was None g false f e = absurd (cc)
was (Some k) g faulted f e =
    let n = next_of_some k g faulted in
    let i : n.0 ≡ f = (let a = sym n.1.0 ∙ e in cc) in
    subst (λ (z : ℕ). (Some k ≡ Some z) ⊎ ((faulted ≡ true) × (g ≡ z))) i n.1.3

one_of : (o : Option ℕ) (f : ℕ) (es : List HandIn) → least_fault o es ≡ Some f → (o ≡ Some f) ⊎ (list_any (λ (e : HandIn). e.faulted && e.group == f) es ≡ true)
one_of o f [] e = inl e
one_of o f (x ∷ xs) e = elim (one_of (lesser_fault o x.group x.faulted) f xs e) [
  | inl t ↦ elim (was o x.group x.faulted f t) [
    | inl same ↦ inl same
    | inr new ↦ inr (λ i. ((new.0 i && eq-eqb x.group f new.1 i) || list_any (λ (z : HandIn). z.faulted && z.group == f) xs))
  ]
  | inr t ↦ inr (or_right (x.faulted && x.group == f) (list_any (λ (z : HandIn). z.faulted && z.group == f) xs) t)
]

head_or_rest : (o : Option ℕ) (x : HandIn) (xs : List HandIn) → least_fault (lesser_fault o x.group x.faulted) xs ≡ None → x.faulted ≡ true → ⊥
unfolding Next
head_or_rest o x xs e yes_it =
    let n = next_of_fault o x.group in
    let s = stays n.0 xs in
    let a = sym (ap (λ (z : Option ℕ). least_fault z xs) (ap (lesser_fault o x.group) yes_it ∙ n.1.0) ∙ s.1) ∙ e in cc

no_fault : (o : Option ℕ) (es : List HandIn) → least_fault o es ≡ None → some_fault es ≡ true → ⊥
no_fault o [] e s = cc
no_fault o (x ∷ xs) e s = elim (or_true x.faulted (some_fault xs) s) [ inl t ↦ head_or_rest o x xs e t | inr t ↦ no_fault (lesser_fault o x.group x.faulted) xs e t ]

false_of : (b : Bool) → (b ≡ true → ⊥) → b ≡ false
false_of true h = absurd (h refl)
false_of false h = refl

both_false : (a b : Bool) → (a || b) ≡ false → (a ≡ false) × (b ≡ false)
both_false true b e = absurd (cc)
both_false false b e = (refl, e)

lesser_calm : (o : Option ℕ) (g : ℕ) (faulted : Bool) → faulted ≡ false → lesser_fault o g faulted ≡ o
lesser_calm o g true e = absurd (cc)
lesser_calm None g false e = refl
lesser_calm (Some f) g false e = refl

-- hand-ins without a fault leave the answer as it was
calm : (o : Option ℕ) (es : List HandIn) → some_fault es ≡ false → least_fault o es ≡ o
calm o [] e = refl
calm o (x ∷ xs) e =
    let b = both_false x.faulted (some_fault xs) e in
    ap (λ (z : Option ℕ). least_fault z xs) (lesser_calm o x.group x.faulted b.0) ∙ calm o xs b.1

pub fault_is_least : FaultIsLeast
fault_is_least es = (
  λ f e. (none_below None f es e, elim (one_of None f es e) [ inl t ↦ absurd (cc) | inr t ↦ t ]),
  λ e. false_of (some_fault es) (no_fault None es e),
  calm None es,
)

rows_more : (es : List HandIn) (e : HandIn) → rows_handed (es ++ e ∷ []) ≡ rows_handed es + e.rows
rows_more [] e = omega arith
rows_more (x ∷ xs) e = omega (arith, rows_more xs e)

least_more : (before : Option ℕ) (es : List HandIn) (e : HandIn) → least_fault before (es ++ e ∷ []) ≡ lesser_fault (least_fault before es) e.group e.faulted
least_more before [] e = refl
least_more before (x ∷ xs) e = least_more (lesser_fault before x.group x.faulted) xs e

-- the sums with one more hand-in
pub sums_more : (es : List HandIn) (e : HandIn) (n rows : ℕ) (fault : Option ℕ) → AreSums es n rows fault → AreSums (es ++ e ∷ []) (n + 1) (rows + e.rows) (lesser_fault fault e.group e.faulted)
sums_more es e n rows fault h = record {
  count = omega (arith, h.count, length-append es (e ∷ []));
  all_rows = omega (arith, h.all_rows, rows_more es e);
  least = ap (λ (o : Option ℕ). lesser_fault o e.group e.faulted) h.least ∙ sym (least_more None es e);
}
