-- The caller draws one number after the other.
use Rattle.std.proofs.Common.{◌≡◌, ◌≤◌, ◌+◌, ℕ, zero, suc, List, [], ◌∷◌, ◌++◌, ap, ◌∙◌, sym, refl, subst, arith}
use Rattle.std.specs.List.{range_with_len}
use Rattle.std.proofs.lemmas.Bool.Decides.{nat_tests}
use Rattle.std.proofs.lemmas.List.{append_assoc, append-nil}
use Rattle.ds2_schedule.specs.declared.rule.SeatView.{SeatView}
use Rattle.ds2_schedule.specs.declared.rule.SeatView.TheVariants.{First}
use Rattle.ds2_schedule.specs.declared.tickets.Draw.{Draw}
use Rattle.ds2_schedule.specs.declared.tickets.Draw.TheVariants.{NoMore}
use Rattle.ds2_schedule.specs.declared.tickets.Tickets.{Tickets}
use Rattle.ds2_schedule.specs.declared.tickets.TicketSeat.{TicketSeat}
use Rattle.ds2_schedule.specs.Runs.{times, once_below}
use Rattle.ds2_schedule.specs.Rule.{ShowsAll, MayDraw, with_number}
use Rattle.ds2_schedule.specs.Seats.{view_of, HasDrawn}
use Rattle.ds2_schedule.proofs.Counts.{times-append, times_numbers}
use Rattle.ds2_stage.specs.Ended.{HasAllNumbers, HasDrawnRest}
use Rattle.ds2_stage.specs.Gathered.{HasJoined}
use Rattle.ds2_stage.specs.Passes.{PassView}
use Rattle.ds2_stage.proofs.Worked.{no_more_is_past}

-- the seat shows the workers' numbers and i further ones
pub record HasDrawnSome (workers word i : ℕ) (s : TicketSeat) : Type 0 where
  pub drawn : List ℕ
  pub once : (x : ℕ) → times x drawn ≡ once_below x word
  pub seat : view_of s ≡ First workers workers (drawn ++ range_with_len word i)

range_more : (a n : ℕ) → range_with_len a (n + 1) ≡ range_with_len a n ++ (a + n) ∷ []
range_more a zero = let e : a ≡ a + 0 = omega arith in ap (λ (k : ℕ). k ∷ []) e
range_more a (suc n) =
    let e : a + 1 + n ≡ a + suc n = omega arith in
    let f : suc n + 1 ≡ suc (n + 1) = omega arith in
    ap (range_with_len a) f ∙ ap (λ (xs : List ℕ). a ∷ xs) (range_more (a + 1) n ∙ ap (λ (k : ℕ). range_with_len (a + 1) n ++ k ∷ []) e)

-- two numbers with the same numbers below them are equal
same_below : (k d : ℕ) → ((x : ℕ) → once_below x k ≡ once_below x d) → k ≡ d
same_below k d h = let a = h k in let b = h d in grind (arith, nat_tests, a, b)

shows_the : (v : SeatView) (workers d : ℕ) (xs : List ℕ) → v ≡ First workers workers xs → ShowsAll d v → (x : ℕ) → times x xs ≡ once_below x d
shows_the v workers d xs e h = subst (ShowsAll d) e h refl

-- the number that is drawn is the next one
next_number : (t : Tickets) (workers word i : ℕ) (s now : TicketSeat) (answer : Draw) (h : HasDrawnSome workers word i s) (drawn : HasDrawn t (view_of s) (view_of now) answer) → drawn.number ≡ word + i
next_number t workers word i s now answer h drawn =
    let here = shows_the (view_of s) workers drawn.number (h.drawn ++ range_with_len word i) h.seat drawn.all in
    same_below drawn.number (word + i) (λ x. sym (here x) ∙ omega (arith, times-append x h.drawn (range_with_len word i), h.once x, times_numbers x word i))

pub draws_next : (t : Tickets) (workers word i : ℕ) (s now : TicketSeat) (answer : Draw) → HasDrawnSome workers word i s → HasDrawn t (view_of s) (view_of now) answer → HasDrawnSome workers word (i + 1) now
draws_next t workers word i s now answer h drawn = record {
  drawn = h.drawn;
  once = h.once;
  seat = drawn.shows ∙ ap (with_number drawn.number) h.seat
      ∙ ap (λ (ys : List ℕ). First workers workers ys) (append_assoc h.drawn (range_with_len word i) (drawn.number ∷ [])
      ∙ ap (λ (k : ℕ). h.drawn ++ (range_with_len word i ++ k ∷ [])) (next_number t workers word i s now answer h drawn)
      ∙ ap (λ (ys : List ℕ). h.drawn ++ ys) (sym (range_more word i)));
}

pub rest_of_some : (t : Tickets) (workers word n : ℕ) (s : TicketSeat) → t.runs ≤ word + n → HasDrawnSome workers word n s → HasDrawnRest t workers word n s
rest_of_some t workers word n s all h = record { drawn = h.drawn; once = h.once; seat = h.seat; all = all }

-- where it is past the last run, all runs were drawn
pub drawn_rest : (t : Tickets) (workers word i k : ℕ) (s now : TicketSeat) → HasDrawnSome workers word i s → HasDrawn t (view_of s) (view_of now) (NoMore k) → HasDrawnRest t workers word (i + 1) now
drawn_rest t workers word i k s now h drawn =
    let past = no_more_is_past t drawn.number k drawn.gives in
    let number = next_number t workers word i s now (NoMore k) h drawn in
    rest_of_some t workers word (i + 1) now (omega (arith, past, number)) (draws_next t workers word i s now (NoMore k) h drawn)

pub drawn_none : (workers word : ℕ) (s : TicketSeat) → HasAllNumbers workers word s → HasDrawnSome workers word 0 s
drawn_none workers word s h = record { drawn = h.drawn; once = h.once; seat = h.seat ∙ ap (λ (xs : List ℕ). First workers workers xs) (sym (append-nil h.drawn)) }

-- the first seat that has every other one joined into it may draw
pub may_draw_joined : (t : Tickets) (passes : List PassView) (s : TicketSeat) → HasJoined t passes s → MayDraw t.runs (view_of s)
may_draw_joined t passes s h = subst (MayDraw t.runs) (sym h.first) h.few
