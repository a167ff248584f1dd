use Rattle.std.proofs.Common.{◌≡◌, ◌+◌, ◌%◌, ◌^◌, ◌≤◌, ◌∙◌, ℕ, List, [], ◌∷◌, refl, ap, subst, sym, arith}
use Rattle.std.specs.Prelude.{slice_index, slice_set}
use Rattle.atomic_table.specs.Table.{keeps, Me}
use Rattle.ds2_schedule.specs.declared.rule.SeatView.{SeatView}
use Rattle.ds2_schedule.specs.Rule.{TicketRule, with_number, MayDraw, IsAbove, ShowsAll}
use Rattle.ds2_schedule.specs.Seats.{groups_drawn, IsInside}
use Rattle.ds2_schedule.proofs.Ticket.{draws, is_above, shows_all, few_after_draw, may_again}
use Rattle.ds2_schedule.proofs.Answered.{gives_groups, run_is_low, is_inside, is_draw_step}
use Rattle.ds2_schedule.proofs.tickets.Tickets.draw.Goals as goal

pub fetch_add-number-requires : goal.fetch_add-number-requires
fetch_add-number-requires c =
    let t = c.args.self.now in
    let v = c.args.seat.now.seat.me.0 in
    let id = c.args.seat.now.seat.id in
    let q = t.table.shared.key in
    let may : MayDraw q v = subst (λ (r : ℕ). MayDraw r v) (sym t.key) c.requires.may in
    let few : q ≤ 2 ^ 58 = omega (arith, t.key, t.few) in (
      c.requires.of.table,
      omega (arith, t.one),
      λ s kept count at small.
          let word = kept.0 in
          let n : slice_index s.words 0 ≡ word = ap (λ (ws : List ℕ). slice_index ws 0) kept.1 in
          let d = draws q word s.views id v few kept.2 at may in (
            with_number (slice_index s.words 0) v,
            keeps,
            tt,
            (
              word + 1,
              (λ i. slice_set (kept.1 i) 0 ((n i + 1) % 2 ^ 64)) ∙ ap (λ (m : ℕ). m ∷ []) d.0,
              subst (λ (m : ℕ). TicketRule q (word + 1) (slice_set s.views id (with_number m v))) (sym n) d.1,
            ),
            (
              refl,
              subst (λ (m : ℕ). IsAbove m v) (sym n) (is_above q word s.views id v kept.2 at),
              subst (λ (m : ℕ). ShowsAll m v) (sym n) (shows_all q word s.views id v kept.2 at),
            ),
          ),
    )

pub returns-clause-drawn : goal.returns-clause-drawn
returns-clause-drawn c =
    let t = c.args.self.now in
    let d = c.fetch_add-number.result in
    let e = c.fetch_add-number.ensures.2 in
    record {
      number = d;
      shows = ap (λ (m : Me ℕ SeatView). m.0) e.0;
      above = e.1;
      all = e.2;
      gives = c.run.ensures;
      groups = ap groups_drawn c.run.ensures ∙ gives_groups t d t.long t.all;
      step = is_draw_step t d c.run.result (ap groups_drawn c.run.ensures ∙ gives_groups t d t.long t.all);
    }

pub returns-clause-of : goal.returns-clause-of
returns-clause-of c = record {
  table = c.fetch_add-number.ensures.0 ∙ c.requires.of.table;
  few_past = few_after_draw c.args.self.now.runs c.fetch_add-number.result c.args.seat.now.seat.me.0 c.fetch_add-number.new.seat.me.0 c.requires.may (ap (λ (m : Me ℕ SeatView). m.0) c.fetch_add-number.ensures.2.0);
}

pub returns-clause-again : goal.returns-clause-again
returns-clause-again c = λ is. may_again c.args.self.now.runs c.fetch_add-number.result c.args.seat.now.seat.me.0 c.fetch_add-number.new.seat.me.0 c.requires.may
    (run_is_low c.args.self.now c.fetch_add-number.result c.run.result c.run.ensures is) (ap (λ (m : Me ℕ SeatView). m.0) c.fetch_add-number.ensures.2.0)

pub returns-clause-inside : goal.returns-clause-inside
returns-clause-inside c =
    let t = c.args.self.now in
    subst (IsInside t) (sym c.run.ensures) (is_inside t c.fetch_add-number.result t.long t.all)
