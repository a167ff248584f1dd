use Rattle.std.proofs.Common.{◌≡◌, ◌∙◌, ℕ, List, refl, ap, sym, subst, arith}
use Rattle.std.specs.Prelude.{slice_index, slice_set}
use Rattle.atomic_table.specs.Table.{Me, keeps}
use Rattle.ds2_schedule.specs.declared.rule.SeatView.{SeatView}
use Rattle.ds2_schedule.specs.Rule.{TicketRule, ShowsAll, with_joined}
use Rattle.ds2_schedule.proofs.Ticket.{joins, shows_all, same_view, few_after_join}
use Rattle.ds2_schedule.proofs.tickets.Tickets.join.Goals as goal

pub join_seat-requires : goal.join_seat-requires
join_seat-requires c =
    let t = c.args.self.now in
    let own = c.args.into.now.seat in
    let other = c.args.seat.seat in (
      c.requires.of.0.table,
      c.requires.of.1.table,
      c.args.seat.empty,
      omega (arith, t.one),
      λ s kept at apart there. (kept.0, kept.1, joins t.table.shared.key kept.0 s.views own.id own.me.0 other.id other.me.0 kept.2 at apart c.requires.may there),
    )

pub load-requires : goal.load-requires
load-requires c =
    let t = c.args.self.now in
    let v = c.join_seat.new.seat.me.0 in
    let id = c.join_seat.new.seat.id in
    let q = t.table.shared.key in (
      c.join_seat.ensures.0 ∙ c.requires.of.0.table,
      omega (arith, t.one),
      λ s kept count at small.
          let word = kept.0 in
          let n : slice_index s.words 0 ≡ word = ap (λ (ws : List ℕ). slice_index ws 0) kept.1 in (
            v,
            keeps,
            tt,
            (word, (λ i. slice_set (kept.1 i) 0 (n i)), subst (λ (vs : List SeatView). TicketRule q word vs) (sym (same_view s.views id v at)) kept.2),
            (refl, subst (λ (m : ℕ). ShowsAll m v) (sym n) (shows_all q word s.views id v kept.2 at)),
          ),
    )

pub returns-clause-first : goal.returns-clause-first
returns-clause-first c =
    let q = c.args.self.now.runs in
    let v = c.args.into.now.seat.me.0 in
    let w = c.args.seat.seat.me.0 in
    let e : c.load.new.seat.me.0 ≡ with_joined v w = ap (λ (m : Me ℕ SeatView). m.0) c.load.ensures.2.0 ∙ ap (λ (m : Me ℕ SeatView). m.0) c.join_seat.ensures.2 in (
      record {
        table = c.load.ensures.0 ∙ c.join_seat.ensures.0 ∙ c.requires.of.0.table;
        few_past = few_after_join q v w c.load.new.seat.me.0 c.requires.may c.requires.of.0.few_past c.requires.of.1.few_past e;
      },
      e,
    )
