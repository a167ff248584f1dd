-- Each kind of step keeps the ticket's rule.
use Rattle.std.proofs.Common.{◌≡◌, ℕ, zero, suc, ◌+◌, ◌-◌, ◌%◌, ◌^◌, ◌<◌, ◌≤◌, List, [], ◌∷◌, ◌++◌, Bool, true, false, refl, sym, ap, ◌∙◌, subst, arith, inl, inr}
use Rattle.std.specs.Prelude.{if◌then◌else◌, nat_le, slice_set}
use Rattle.std.proofs.lemmas.Bool.{cases_lt, eq-eqb}
use Rattle.std.proofs.lemmas.Bool.Decides.{nat_tests}
use mathlib.Core.Option.{some, some-injective, some-ne-none}
use lib.ListN.{get_elem?}
use Rattle.atomic_table.proofs.Lists.{at_set, at_snoc, set_again}
use Rattle.ds2_schedule.specs.declared.rule.SeatView.{SeatView}
use Rattle.ds2_schedule.specs.declared.rule.SeatView.TheVariants.{First, Other, Spent}
use Rattle.ds2_schedule.specs.Runs.{times, once_below}
use Rattle.ds2_schedule.specs.Rule.{shown, split_off, joined_in, one_if_first, one_if_other, past, most_past, over_seats, TicketRule, with_number, with_split, with_joined, MayDraw, MaySplit, MayJoin, IsAbove, ShowsAll}
use Rattle.ds2_schedule.proofs.Counts.{times-append, once_more}

-- the sum after a change of one seat
over_set : (f : SeatView → ℕ) (views : List SeatView) (id : ℕ) (v w : SeatView) → get_elem? views id ≡ some v → over_seats f (slice_set views id w) + f v ≡ over_seats f views + f w
over_set f [] id v w at = absurd (some-ne-none v (sym at))
over_set f (x ∷ xs) zero v w at = omega (arith, ap f (some-injective x v at))
over_set f (x ∷ xs) (suc id) v w at = omega (arith, over_set f xs id v w at)

over_push : (f : SeatView → ℕ) (views : List SeatView) (w : SeatView) → over_seats f (views ++ w ∷ []) ≡ over_seats f views + f w
over_push f [] w = omega arith
over_push f (x ∷ xs) w = omega (arith, over_push f xs w)

over_plus : (f g : SeatView → ℕ) (views : List SeatView) → over_seats (λ v. f v + g v) views ≡ over_seats f views + over_seats g views
over_plus f g [] = refl
over_plus f g (x ∷ xs) = omega (arith, over_plus f g xs)

over_le : (f g : SeatView → ℕ) (views : List SeatView) → ((id : ℕ) (v : SeatView) → get_elem? views id ≡ some v → f v ≤ g v) → over_seats f views ≤ over_seats g views
over_le f g [] h = omega arith
over_le f g (x ∷ xs) h = omega (arith, h zero x refl, over_le f g xs (λ id v at. h (suc id) v at))

over_at : (f : SeatView → ℕ) (views : List SeatView) (id : ℕ) (v : SeatView) → get_elem? views id ≡ some v → f v ≤ over_seats f views
over_at f [] id v at = absurd (some-ne-none v (sym at))
over_at f (x ∷ xs) zero v at = omega (arith, ap f (some-injective x v at))
over_at f (x ∷ xs) (suc id) v at = omega (arith, over_at f xs id v at)

-- where g counts no seat, f counts none
over_none : (f g : SeatView → ℕ) (views : List SeatView) → ((v : SeatView) → g v ≡ 0 → f v ≡ 0) → over_seats g views ≡ 0 → over_seats f views ≡ 0
over_none f g [] h none = refl
over_none f g (x ∷ xs) h none = omega (arith, h x (omega (arith, none)), over_none f g xs h (omega (arith, none)))

-- where g counts one seat alone, so does f
over_one : (f g : SeatView → ℕ) (views : List SeatView) (id : ℕ) (v : SeatView) → ((u : SeatView) → g u ≡ 0 → f u ≡ 0) → over_seats g views ≡ 1 → get_elem? views id ≡ some v → 1 ≤ g v → over_seats f views ≡ f v
over_one f g [] id v h one at here = absurd (some-ne-none v (sym at))
over_one f g (x ∷ xs) zero v h one at here =
    let e = some-injective x v at in
    omega (arith, ap f e, over_none f g xs h (omega (arith, one, here, ap g e)))
over_one f g (x ∷ xs) (suc id) v h one at here =
    let low = over_at g xs id v at in
    omega (arith, h x (omega (arith, one, here, low)), over_one f g xs id v h (omega (arith, one, here, low)) at here)

past-append : (q : ℕ) (ys zs : List ℕ) → past q (ys ++ zs) ≡ past q ys + past q zs
past-append q [] zs = omega arith
past-append q (y ∷ ys) zs = omega (arith, past-append q ys zs)

one_at_most : (b : Bool) → (if b then 1 else 0) ≤ 1
one_at_most true = omega arith
one_at_most false = omega arith

none_past : (x n : ℕ) → n ≤ x → once_below x n ≡ 0
none_past x n h = grind (arith, nat_tests)

-- a number past the last of q runs is q, or past the last of one more
past_split : (q : ℕ) (zs : List ℕ) → past q zs ≡ times q zs + past (q + 1) zs
past_split q [] = refl
past_split q (z ∷ zs) = let e = past_split q zs in grind (arith, nat_tests, e)

over_split : (q : ℕ) (views : List SeatView) → over_seats (λ v. past q (shown v)) views ≡ over_seats (λ v. times q (shown v)) views + over_seats (λ v. past (q + 1) (shown v)) views
over_split q [] = refl
over_split q (v ∷ views) = omega (arith, past_split q (shown v), over_split q views)

no_past : (q : ℕ) (zs : List ℕ) → ((x : ℕ) → q ≤ x → times x zs ≡ 0) → past q zs ≡ 0
no_past q [] h = refl
no_past q (z ∷ zs) h =
    let rest = no_past q zs (λ x high. omega (arith, h x high)) in
    let low : z < q = elim (cases_lt z q) [
      | inl t ↦ t
      | inr high ↦ absurd (omega (arith, h z high, ap {B = ℕ} (λ (b : Bool). if b then 1 else 0) (eq-eqb z z refl)))
    ] in grind (arith, nat_tests, rest, low)

over_no_past : (q : ℕ) (views : List SeatView) → ((x : ℕ) → q ≤ x → over_seats (λ v. times x (shown v)) views ≡ 0) → over_seats (λ v. past q (shown v)) views ≡ 0
over_no_past q [] h = refl
over_no_past q (v ∷ views) h = omega (arith, no_past q (shown v) (λ x high. omega (arith, h x high)), over_no_past q views (λ x high. omega (arith, h x high)))

-- where the numbers shown are those below the next one, each once, those past the last run are those from q up to the next one
past_up_to : (k q word : ℕ) (views : List SeatView) → ((x : ℕ) → over_seats (λ v. times x (shown v)) views ≡ once_below x word) → q + k ≡ word → over_seats (λ v. past q (shown v)) views ≡ k
past_up_to zero q word views once is = over_no_past q views (λ x high. omega (arith, once x, none_past x word (omega (arith, is, high))))
past_up_to (suc k) q word views once is =
    let here : once_below q word ≡ 1 = grind (arith, nat_tests, is) in
    omega (arith, over_split q views, once q, here, past_up_to k (q + 1) word views once (omega (arith, is)))

beyond : (q word : ℕ) (views : List SeatView) → ((x : ℕ) → over_seats (λ v. times x (shown v)) views ≡ once_below x word) → word ≤ q + over_seats (λ v. past q (shown v)) views
beyond q word views once = elim (cases_lt word q) [
  | inl low ↦ omega (arith, low)
  | inr high ↦ (let e : q + (word - q) ≡ word = omega (arith, high) in omega (arith, e, past_up_to (word - q) q word views once e))
]

-- the seats may show no more numbers past the last run than seats were split, and one
most_is : (v : SeatView) → most_past v ≡ joined_in v + one_if_first v + one_if_other v
most_is (First split joined drawn) = omega arith
most_is (Other drawn) = refl
most_is Spent = refl

over_most : (views : List SeatView) → over_seats most_past views ≡ over_seats joined_in views + over_seats one_if_first views + over_seats one_if_other views
over_most [] = refl
over_most (v ∷ views) = omega (arith, most_is v, over_most views)

-- a draw changes the numbers alone
record Draws (q d : ℕ) (v w : SeatView) : Type 0 where
  numbers : (x : ℕ) → times x (shown w) ≡ times x (shown v) + times x (d ∷ [])
  pasts : past q (shown w) ≡ past q (shown v) + past q (d ∷ [])
  splits : split_off w ≡ split_off v
  joins : joined_in w ≡ joined_in v
  firsts : one_if_first w ≡ one_if_first v
  others : one_if_other w ≡ one_if_other v
  room : past q (shown w) ≤ most_past w

draw_is : (q d : ℕ) (v : SeatView) → MayDraw q v → Draws q d v (with_number d v)
draw_is q d (First split joined drawn) may = record {
  numbers = λ x. times-append x drawn (d ∷ []);
  pasts = past-append q drawn (d ∷ []);
  splits = refl;
  joins = refl;
  firsts = refl;
  others = refl;
  room = omega (arith, may, past-append q drawn (d ∷ []), one_at_most (nat_le q d));
}
draw_is q d (Other drawn) may = record {
  numbers = λ x. times-append x drawn (d ∷ []);
  pasts = past-append q drawn (d ∷ []);
  splits = refl;
  joins = refl;
  firsts = refl;
  others = refl;
  room = omega (arith, may, past-append q drawn (d ∷ []), one_at_most (nat_le q d));
}
draw_is q d Spent may = absurd may

-- a draw of the next number, which is at most 65 past the last run
pub draws : (q word : ℕ) (views : List SeatView) (id : ℕ) (v : SeatView) → q ≤ 2 ^ 58 → TicketRule q word views → get_elem? views id ≡ some v → MayDraw q v
    → ((word + 1) % 2 ^ 64 ≡ word + 1) × TicketRule q (word + 1) (slice_set views id (with_number word v))
draws q word views id v few k at may =
    let w = with_number word v in
    let p = draw_is q word v may in
    let below = over_le (λ u. past q (shown u)) most_past views k.few_past in
    let fits : word + 1 < 2 ^ 64 = omega (arith, few, k.first, k.few_split, k.unspent, beyond q word views k.each_once, below, over_most views) in (
      omega (arith, fits),
      record {
        each_once = λ x. omega (arith, k.each_once x, over_set (λ u. times x (shown u)) views id v w at, p.numbers x, once_more x word);
        first = omega (arith, k.first, over_set one_if_first views id v w at, p.firsts);
        few_split = omega (arith, k.few_split, over_set split_off views id v w at, p.splits);
        unspent = omega (arith, k.unspent, over_set one_if_other views id v w at, over_set joined_in views id v w at, over_set split_off views id v w at, p.others, p.joins, p.splits);
        few_past = λ j u there. elim (at_set views id j w u there) [
          | inl e ↦ subst (λ (z : SeatView). past q (shown z) ≤ most_past z) e.1 p.room
          | inr e ↦ k.few_past j u e.1
        ];
      },
    )

-- what is counted of the first seat alone
unseen : (f : SeatView → ℕ) → ((drawn : List ℕ) → f (Other drawn) ≡ 0) → f Spent ≡ 0 → (u : SeatView) → one_if_first u ≡ 0 → f u ≡ 0
unseen f o s (First split joined drawn) none = absurd (omega (arith, none))
unseen f o s (Other drawn) none = o drawn
unseen f o s Spent none = s

-- a seat split from the first one
pub splits : (q word : ℕ) (views : List SeatView) (id : ℕ) (v : SeatView) → TicketRule q word views → get_elem? views id ≡ some v → MaySplit v → TicketRule q word (slice_set views id (with_split v) ++ Other [] ∷ [])
splits q word views id (Other drawn) k at may = absurd may
splits q word views id Spent k at may = absurd may
splits q word views id (First split joined drawn) k at may =
    let v = First split joined drawn in
    let w = First (split + 1) joined drawn in
    let new : SeatView = Other [] in
    let now = slice_set views id w in
    let only = over_one split_off one_if_first views id v (unseen split_off (λ d. refl) refl) k.first at (omega arith) in
    record {
      each_once = λ x. omega (arith, k.each_once x, over_set (λ u. times x (shown u)) views id v w at, over_push (λ u. times x (shown u)) now new);
      first = omega (arith, k.first, over_set one_if_first views id v w at, over_push one_if_first now new);
      few_split = omega (arith, only, may, over_set split_off views id v w at, over_push split_off now new);
      unspent = omega (arith, k.unspent, over_set one_if_other views id v w at, over_push one_if_other now new, over_set joined_in views id v w at, over_push joined_in now new, over_set split_off views id v w at, over_push split_off now new);
      few_past = λ j u there. elim (at_snoc now new u j there) [
        | inl old ↦ elim (at_set views id j w u old) [
          | inl e ↦ subst (λ (z : SeatView). past q (shown z) ≤ most_past z) e.1 (k.few_past id v at)
          | inr e ↦ k.few_past j u e.1
        ]
        | inr e ↦ subst (λ (z : SeatView). past q (shown z) ≤ most_past z) e (omega arith)
      ];
    }

-- a seat joined into the first one
pub joins : (q word : ℕ) (views : List SeatView) (id : ℕ) (v : SeatView) (other : ℕ) (w : SeatView) → TicketRule q word views → get_elem? views id ≡ some v → (other ≡ id → ⊥) → MayJoin v w
    → get_elem? (slice_set views id (with_joined v w)) other ≡ some w → TicketRule q word (slice_set (slice_set views id (with_joined v w)) other Spent)
joins q word views id (Other drawn) other w k at apart may there = absurd may
joins q word views id Spent other w k at apart may there = absurd may
joins q word views id (First split joined drawn) other (First a b c) k at apart may there = absurd may
joins q word views id (First split joined drawn) other Spent k at apart may there = absurd may
joins q word views id (First split joined drawn) other (Other theirs) k at apart may there =
    let v = First split joined drawn in
    let w : SeatView = Other theirs in
    let both = First split (joined + 1) (drawn ++ theirs) in
    let now = slice_set views id both in
    let was : get_elem? views other ≡ some w = elim (at_set views id other both w there) [ inl e ↦ absurd (apart e.0) | inr e ↦ e.1 ] in
    record {
      each_once = λ x. omega (arith, k.each_once x, over_set (λ u. times x (shown u)) views id v both at, over_set (λ u. times x (shown u)) now other w Spent there, times-append x drawn theirs);
      first = omega (arith, k.first, over_set one_if_first views id v both at, over_set one_if_first now other w Spent there);
      few_split = omega (arith, k.few_split, over_set split_off views id v both at, over_set split_off now other w Spent there);
      unspent = omega (arith, k.unspent, over_set one_if_other views id v both at, over_set one_if_other now other w Spent there, over_set joined_in views id v both at, over_set joined_in now other w Spent there, over_set split_off views id v both at, over_set split_off now other w Spent there);
      few_past = λ j u here. elim (at_set now other j Spent u here) [
        | inl e ↦ subst (λ (z : SeatView). past q (shown z) ≤ most_past z) e.1 (omega arith)
        | inr e ↦ elim (at_set views id j both u e.1) [
          | inl f ↦ subst (λ (z : SeatView). past q (shown z) ≤ most_past z) f.1 (omega (arith, k.few_past id v at, k.few_past other w was, past-append q drawn theirs))
          | inr f ↦ k.few_past j u f.1
        ]
      ];
    }

at_start : (q id : ℕ) (v : SeatView) → get_elem? (First 0 0 [] ∷ []) id ≡ some v → past q (shown v) ≤ most_past v
at_start q zero v at = subst (λ (z : SeatView). past q (shown z) ≤ most_past z) (some-injective (First 0 0 []) v at) (omega arith)
at_start q (suc id) v at = absurd (some-ne-none v (sym at))

-- the first seat alone, before any draw
pub opens : (q : ℕ) → TicketRule q 0 (First 0 0 [] ∷ [])
opens q = record {
  each_once = λ x. sym (none_past x 0 (omega arith));
  first = refl;
  few_split = omega arith;
  unspent = refl;
  few_past = at_start q;
}

-- a look changes no view
pub same_view : (views : List SeatView) (id : ℕ) (v : SeatView) → get_elem? views id ≡ some v → slice_set views id v ≡ views
same_view views id v at = set_again views id v at

-- the next number is above all that a seat shows
pub is_above : (q word : ℕ) (views : List SeatView) (id : ℕ) (v : SeatView) → TicketRule q word views → get_elem? views id ≡ some v → IsAbove word v
is_above q word views id v k at x high = omega (arith, over_at (λ u. times x (shown u)) views id v at, k.each_once x, none_past x word high)

unseen_numbers : (x : ℕ) (u : SeatView) → one_if_first u + one_if_other u ≡ 0 → times x (shown u) ≡ 0
unseen_numbers x (First split joined drawn) none = absurd (omega (arith, none))
unseen_numbers x (Other drawn) none = absurd (omega (arith, none))
unseen_numbers x Spent none = refl

-- the first seat, where every other one was joined into it, shows all numbers drawn
pub shows_all : (q word : ℕ) (views : List SeatView) (id : ℕ) (v : SeatView) → TicketRule q word views → get_elem? views id ≡ some v → ShowsAll word v
shows_all q word views id (Other drawn) k at = tt
shows_all q word views id Spent k at = tt
shows_all q word views id (First split joined drawn) k at = λ e x.
    let v = First split joined drawn in
    let split_is = over_one split_off one_if_first views id v (unseen split_off (λ d. refl) refl) k.first at (omega arith) in
    let joined_is = over_one joined_in one_if_first views id v (unseen joined_in (λ d. refl) refl) k.first at (omega arith) in
    let live = over_plus one_if_first one_if_other views in
    let one : over_seats (λ u. one_if_first u + one_if_other u) views ≡ 1 = omega (arith, live, k.first, k.unspent, split_is, joined_is, e) in
    sym (over_one (λ u. times x (shown u)) (λ u. one_if_first u + one_if_other u) views id v (unseen_numbers x) one at (omega arith)) ∙ k.each_once x

-- what a draw and a join leave of the bound on numbers past the last run
pub few_after_draw : (q d : ℕ) (v w : SeatView) → MayDraw q v → w ≡ with_number d v → past q (shown w) ≤ most_past w
few_after_draw q d v w may e = subst (λ (z : SeatView). past q (shown z) ≤ most_past z) (sym e) (draw_is q d v may).room

pub few_after_join : (q : ℕ) (v w x : SeatView) → MayJoin v w → past q (shown v) ≤ most_past v → past q (shown w) ≤ most_past w → x ≡ with_joined v w → past q (shown x) ≤ most_past x
few_after_join q (First split joined drawn) (Other theirs) x may few theirs_few e =
    subst (λ (z : SeatView). past q (shown z) ≤ most_past z) (sym e) (omega (arith, few, theirs_few, past-append q drawn theirs))
few_after_join q (First split joined drawn) (First a b c) x may few theirs_few e = absurd may
few_after_join q (First split joined drawn) Spent x may few theirs_few e = absurd may
few_after_join q (Other drawn) w x may few theirs_few e = absurd may
few_after_join q Spent w x may few theirs_few e = absurd may

not_past : (q d : ℕ) → d < q → past q (d ∷ []) ≡ 0
not_past q d low = grind (arith, nat_tests)

again : (q d : ℕ) (v : SeatView) → MayDraw q v → d < q → MayDraw q (with_number d v)
again q d (First split joined drawn) may low = omega (arith, may, past-append q drawn (d ∷ []), not_past q d low)
again q d (Other drawn) may low = omega (arith, may, past-append q drawn (d ∷ []), not_past q d low)
again q d Spent may low = may

-- a number below the last run leaves the seat free to draw again
pub may_again : (q d : ℕ) (v w : SeatView) → MayDraw q v → d < q → w ≡ with_number d v → MayDraw q w
may_again q d v w may low e = subst (MayDraw q) (sym e) (again q d v may low)
