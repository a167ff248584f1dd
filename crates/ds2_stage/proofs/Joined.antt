-- The caller takes in one pass after the other.
use Rattle.std.proofs.Common.{◌≡◌, ◌≤◌, ◌<◌, ◌+◌, ℕ, List, [], ◌∷◌, ◌++◌, ap, ◌∙◌, sym, refl, subst, arith, length, length-append}
use Rattle.std.specs.Prelude.{sum_by}
use Rattle.std.specs.List.{All}
use Rattle.std.proofs.lemmas.List.Sums.{sum_by_push}
use Rattle.ds2_schedule.specs.declared.rule.SeatView.{SeatView}
use Rattle.ds2_schedule.specs.declared.rule.SeatView.TheVariants.{First, Other, Spent}
use Rattle.ds2_schedule.specs.declared.tickets.Tickets.{Tickets}
use Rattle.ds2_schedule.specs.Runs.{times, once_below}
use Rattle.ds2_schedule.specs.Rule.{shown, past, most_past, MayJoin, ShowsAll, with_joined}
use Rattle.ds2_schedule.specs.Seats.{view_of, IsSeatOf}
use Rattle.ds2_stage.specs.Bags.{IsWorkerSeat}
use Rattle.ds2_stage.specs.Gathered.{IsEndedPass, HasJoined, times_shown}
use Rattle.ds2_stage.specs.Passes.{PassView, IsCallerPass, IsMerged}
use Rattle.ds2_bags.proofs.Placed.{All_front, All_last}

-- the caller has taken in the passes of all workers but those that are left
pub record IsGathering (t : Tickets) (caller : PassView) (workers left : List PassView) (all : PassView) : Type 0 where
  pub of : IsSeatOf t all.seat
  pub ended : All (IsEndedPass t) left
  pub groups : all.groups + sum_by (λ (p : PassView). p.groups) left ≡ sum_by (λ (p : PassView). p.groups) workers
  pub rows : all.rows + sum_by (λ (p : PassView). p.rows) left ≡ sum_by (λ (p : PassView). p.rows) workers
  pub parts : all.parts + sum_by (λ (p : PassView). p.parts) left ≡ caller.parts + sum_by (λ (p : PassView). p.parts) workers
  pub joined : ℕ
  pub drawn : List ℕ
  pub first : view_of all.seat ≡ First (length workers) joined drawn
  pub count : joined + length left ≡ length workers
  pub times_are : (x : ℕ) → times x drawn + sum_by (times_shown x) left ≡ sum_by (times_shown x) workers
  pub shows : 0 < joined → (next : ℕ) × ShowsAll next (view_of all.seat)
  pub few : past t.runs drawn ≤ joined

past_both : (q : ℕ) (ys zs : List ℕ) → past q (ys ++ zs) ≡ past q ys + past q zs
past_both q [] zs = omega arith
past_both q (y ∷ ys) zs = omega (arith, past_both q ys zs)

-- a worker's seat shows at most one number past the last run
one_past : (v : SeatView) → IsWorkerSeat v → most_past v ≡ 1
one_past (First split joined drawn) is = absurd is
one_past (Other drawn) is = refl
one_past Spent is = absurd is

times_both : (x : ℕ) (ys zs : List ℕ) → times x (ys ++ zs) ≡ times x ys + times x zs
times_both x [] zs = omega arith
times_both x (y ∷ ys) zs = omega (arith, times_both x ys zs)

pub gathering_begins : (t : Tickets) (caller : PassView) (workers : List PassView) → IsCallerPass t (length workers) caller → All (IsEndedPass t) workers → IsGathering t caller workers workers caller
gathering_begins t caller workers h ended = record {
  of = h.of;
  ended = ended;
  groups = omega (arith, h.groups);
  rows = omega (arith, h.rows);
  parts = refl;
  joined = 0;
  drawn = [];
  first = h.seat;
  count = omega arith;
  times_are = λ x. omega arith;
  shows = λ some. absurd (omega (arith, some));
  few = omega arith;
}

may_join_worker : (v w : SeatView) (s j : ℕ) (drawn : List ℕ) → v ≡ First s j drawn → IsWorkerSeat w → MayJoin v w
may_join_worker v (First split joined numbers) s j drawn e is = absurd is
may_join_worker v (Other numbers) s j drawn e is = subst (λ (u : SeatView). MayJoin u (Other numbers)) (sym e) tt
may_join_worker v Spent s j drawn e is = absurd is

pub may_join : (t : Tickets) (caller : PassView) (workers left before : List PassView) (all p : PassView) → before ≡ left ++ p ∷ [] → IsGathering t caller workers before all
    → IsSeatOf t p.seat × MayJoin (view_of all.seat) (view_of p.seat)
may_join t caller workers left before all p is h =
    let one = All_last (IsEndedPass t) left before p is h.ended in
    (one.of, may_join_worker (view_of all.seat) (view_of p.seat) (length workers) h.joined h.drawn h.first one.seat)

pub gathering_goes_on : (t : Tickets) (caller : PassView) (workers left before : List PassView) (all p now : PassView) → before ≡ left ++ p ∷ [] → IsGathering t caller workers before all
    → IsMerged all p now → IsSeatOf t now.seat → view_of now.seat ≡ with_joined (view_of all.seat) (view_of p.seat) → (next : ℕ) × ShowsAll next (view_of now.seat)
    → IsGathering t caller workers left now
gathering_goes_on t caller workers left before all p now is h merged of joined shows = record {
  of = of;
  ended = All_front (IsEndedPass t) left before p is h.ended;
  groups = omega (arith, h.groups, ap (λ (u : PassView). u.groups) merged, ap (sum_by (λ (u : PassView). u.groups)) is, sum_by_push (λ (u : PassView). u.groups) left p);
  rows = omega (arith, h.rows, ap (λ (u : PassView). u.rows) merged, ap (sum_by (λ (u : PassView). u.rows)) is, sum_by_push (λ (u : PassView). u.rows) left p);
  parts = omega (arith, h.parts, ap (λ (u : PassView). u.parts) merged, ap (sum_by (λ (u : PassView). u.parts)) is, sum_by_push (λ (u : PassView). u.parts) left p);
  joined = h.joined + 1;
  drawn = h.drawn ++ shown (view_of p.seat);
  first = joined ∙ ap (λ (v : SeatView). with_joined v (view_of p.seat)) h.first;
  count = omega (arith, h.count, ap {B = ℕ} (λ (xs : List PassView). length xs) is, length-append left (p ∷ []));
  times_are = λ x. omega (arith, h.times_are x, times_both x h.drawn (shown (view_of p.seat)), ap (sum_by (times_shown x)) is, sum_by_push (times_shown x) left p);
  shows = λ some. shows;
  few =
      let one = All_last (IsEndedPass t) left before p is h.ended in
      omega (arith, h.few, past_both t.runs h.drawn (shown (view_of p.seat)), one.of.few_past, one_past (view_of p.seat) one.seat);
}

shows_numbers : (v : SeatView) (n j next : ℕ) (drawn : List ℕ) → v ≡ First n j drawn → n ≡ j → ShowsAll next v → (x : ℕ) → times x drawn ≡ once_below x next
shows_numbers v n j next drawn e same h = subst (ShowsAll next) e h same

sum_of_none : (f : PassView → ℕ) (xs : List PassView) → length xs ≡ 0 → sum_by f xs ≡ 0
sum_of_none f [] e = refl
sum_of_none f (x ∷ xs) e = absurd (omega (arith, e))

pub gathering_ends : (t : Tickets) (caller : PassView) (workers left : List PassView) (all : PassView) → 0 < length workers → length left ≡ 0 → IsGathering t caller workers left all → HasJoined t workers all.seat
gathering_ends t caller workers left all some none h =
    let same : h.joined ≡ length workers = omega (arith, h.count, none) in
    let shows = h.shows (omega (arith, same, some)) in
    record {
      of = h.of;
      drawn = h.drawn;
      first = h.first ∙ ap (λ (j : ℕ). First (length workers) j h.drawn) same;
      all = λ x. omega (arith, h.times_are x, sum_of_none (times_shown x) left none);
      next = shows.0;
      few = omega (arith, h.few, same);
      once = shows_numbers (view_of all.seat) (length workers) h.joined shows.0 h.drawn h.first (sym same) shows.1;
    }
