-- What a worker's steps leave.
use Rattle.std.proofs.Common.{◌≡◌, ◌<◌, ◌≤◌, ◌+◌, ◌-◌, ◌*◌, inl, inr, ℕ, List, [], ◌∷◌, ◌++◌, Bool, true, false, ap, ◌∙◌, sym, refl, subst, arith, length-append, Option, Some, None}
use Rattle.std.specs.Prelude.{map, min, nat_lt, IfSome, if◌then◌else◌}
use Rattle.std.specs.List.{range_with_len}
use Rattle.std.proofs.lemmas.List.{append_assoc, append-nil, map-append}
use Rattle.std.proofs.lemmas.List.Sums.{sum_by_push}
use Rattle.std.proofs.lemmas.Bool.{cases_lt}
use Rattle.std.proofs.lemmas.Bool.Decides.{nat_tests}
use Rattle.ds2_schedule.specs.declared.rule.SeatView.{SeatView}
use Rattle.ds2_schedule.specs.declared.rule.SeatView.TheVariants.{First, Other, Spent}
use Rattle.ds2_schedule.specs.declared.tickets.Tickets.{Tickets}
use Rattle.ds2_schedule.specs.declared.tickets.Draw.{Draw}
use Rattle.ds2_schedule.specs.declared.tickets.Draw.TheVariants.{Run, NoMore}
use Rattle.ds2_schedule.specs.Runs.{run_groups}
use Rattle.ds2_schedule.specs.Rule.{shown, past, with_number, MayDraw, IsAbove}
use Rattle.ds2_schedule.specs.Seats.{view_of, IsSeatOf, IsInside, HasDrawn, draw_of, groups_drawn}
use Rattle.ds2_schedule.specs.Bags.{GroupRun, group_in, groups_of_runs, AreFrom, IsAscending, AreAnswers}
use Rattle.ds2_bags.specs.declared.group_end.GroupEnd.{GroupEnd}
use Rattle.ds2_bags.specs.Rest.{answered_run}
use Rattle.ds2_bags.specs.StageEnds.{program_of_job}
use Rattle.ds2_schedule.specs.Numbers.{StillAscends}
use Rattle.ds2_stage.specs.declared.desk.Odd.{Odd}
use Rattle.ds2_stage.specs.Bags.{IsWorkerSeat, EndedEarly, not_early, HasWorked, rows_in}
use Rattle.ds2_stage.specs.Ended.{IsEndedBag}
use Rattle.ds2_stage.specs.Next.{IsAtNext}
use Rattle.ds2_stage.specs.Odds.{IsOdd}
use Rattle.ds2_stage.specs.Passes.{PassView, IsWorkerPass, IsSameButSeat}
use Rattle.ds2_stage.specs.Working.{IsWorking, IsOneMore}
use Rattle.ds2_stage.proofs.Lists.{runs_more, past_last, first_of_range, none_in_range, range_is_from, calm_last, calm_then_one, calm_more, fault_is_there}

shown_drawn : (d : ℕ) (v w : SeatView) → IsWorkerSeat v → w ≡ with_number d v → shown w ≡ shown v ++ d ∷ []
shown_drawn d (First split joined drawn) w is e = absurd is
shown_drawn d (Other drawn) w is e = ap shown e
shown_drawn d Spent w is e = absurd is

still_worker : (d : ℕ) (v w : SeatView) → IsWorkerSeat v → w ≡ with_number d v → IsWorkerSeat w
still_worker d (First split joined drawn) w is e = absurd is
still_worker d (Other drawn) w is e = subst IsWorkerSeat (sym e) tt
still_worker d Spent w is e = absurd is

-- one more answer
answers_more : (answer : ℕ → GroupEnd) (g : ℕ) (runs : List GroupRun) → AreAnswers (program_of_job answer) tt runs → AreAnswers (program_of_job answer) tt (runs ++ answered_run answer g ∷ [])
answers_more answer g [] h = ((refl, refl), tt)
answers_more answer g (r ∷ runs) h = (h.0, answers_more answer g runs h.1)

-- a pass that has not drawn
fresh_is_worker : (v : SeatView) → v ≡ Other [] → IsWorkerSeat v × (shown v ≡ []) × IsAscending (shown v)
fresh_is_worker v e = (subst IsWorkerSeat (sym e) tt, ap shown e, subst (λ (u : SeatView). IsAscending (shown u)) (sym e) tt)

pub begins_working : (answer : ℕ → GroupEnd) (t : Tickets) (p : PassView) (n : ℕ) → IsWorkerPass t n p → IsWorking answer t p p [] 0 0
begins_working answer t p n f =
    let v = fresh_is_worker (view_of p.seat) f.seat in
    record {
      number = refl;
      parts = refl;
      groups = f.groups;
      rows = f.rows;
      of = f.of;
      seat = v.0;
      may = subst (MayDraw t.runs) (sym f.seat) refl;
      ascends = v.2;
      inside = (omega arith, omega arith);
      left = sym (ap (groups_of_runs t.groups t.length) v.1);
      calm = tt;
      answers = tt;
    }

-- what is left of the runs drawn, behind one more draw
left_drawn : (t : Tickets) (p q : PassView) (runs : List GroupRun) (next end d : ℕ) (answer : Draw) → IsWorkerSeat (view_of p.seat) → end ≤ next
    → map group_in runs ++ range_with_len next (end - next) ≡ groups_of_runs t.groups t.length (shown (view_of p.seat))
    → view_of q.seat ≡ with_number d (view_of p.seat) → groups_drawn answer ≡ run_groups t.groups t.length d
    → map group_in runs ++ groups_drawn answer ≡ groups_of_runs t.groups t.length (shown (view_of q.seat))
left_drawn t p q runs next end d answer seat over left drawn groups =
    let before : map group_in runs ≡ groups_of_runs t.groups t.length (shown (view_of p.seat)) =
    sym (append-nil (map group_in runs)) ∙ ap (λ (xs : List ℕ). map group_in runs ++ xs) (sym (none_in_range next end over)) ∙ left in
    ap (λ (xs : List ℕ). xs ++ groups_drawn answer) before ∙ ap (λ (xs : List ℕ). groups_of_runs t.groups t.length (shown (view_of p.seat)) ++ xs) groups
    ∙ sym (runs_more t.groups t.length d (shown (view_of p.seat))) ∙ ap (groups_of_runs t.groups t.length) (sym (shown_drawn d (view_of p.seat) (view_of q.seat) seat drawn))

ascends_drawn : StillAscends → (d : ℕ) (v w : SeatView) → IsWorkerSeat v → IsAscending (shown v) → IsAbove d v → w ≡ with_number d v → IsAscending (shown w)
ascends_drawn law d v w seat up above drawn = subst IsAscending (sym (shown_drawn d v w seat drawn)) (law (shown v) d up above)

-- a run was drawn
pub draws_run : StillAscends → (answer : ℕ → GroupEnd) (t : Tickets) (before p q : PassView) (runs : List GroupRun) (next end from to : ℕ) → end ≤ next → IsWorking answer t before p runs next end
    → IsSameButSeat p q → IsSeatOf t q.seat → HasDrawn t (view_of p.seat) (view_of q.seat) (Run from to) → IsInside t (Run from to) → MayDraw t.runs (view_of q.seat)
    → IsAtNext answer t before q runs (Some (from, to))
draws_run law answer t before p q runs next end from to over h same of drawn inside may = (
  record {
    number = ap (λ (u : PassView). u.number) same ∙ h.number;
    parts = ap (λ (u : PassView). u.parts) same ∙ h.parts;
    groups = ap (λ (u : PassView). u.groups) same ∙ h.groups;
    rows = ap (λ (u : PassView). u.rows) same ∙ h.rows;
    of = of;
    seat = still_worker drawn.number (view_of p.seat) (view_of q.seat) h.seat drawn.shows;
    may = may;
    ascends = ascends_drawn law drawn.number (view_of p.seat) (view_of q.seat) h.seat h.ascends drawn.above drawn.shows;
    inside = (omega (arith, inside.0), inside.1);
    left = left_drawn t p q runs next end drawn.number (Run from to) h.seat over h.left drawn.shows drawn.groups;
    calm = h.calm;
    answers = h.answers;
  },
  inside.0,
)

answered : (t : Tickets) (d : ℕ) → Bool → Draw
answered t d b = if b then Run (d * t.length) (min t.groups ((d + 1) * t.length)) else NoMore d

abbrev is_no_more : Draw → Bool
is_no_more (Run from to) = false
is_no_more (NoMore d) = true

-- only a number past the last run gives no run
pub no_more_is_past : (t : Tickets) (d k : ℕ) → NoMore k ≡ draw_of t d → t.runs ≤ d
unfolding answered
no_more_is_past t d k e = elim (cases_lt d t.runs) [
  | inl low ↦ absurd (let b : nat_lt d t.runs ≡ true = grind (arith, nat_tests) in let no : true ≡ false = ap is_no_more (e ∙ ap {B = Draw} (answered t d) b) in cc)
  | inr high ↦ high
]

-- no run was left
pub draws_none : StillAscends → (answer : ℕ → GroupEnd) (t : Tickets) (before p q : PassView) (runs : List GroupRun) (next end k : ℕ) → end ≤ next → IsWorking answer t before p runs next end
    → IsSameButSeat p q → IsSeatOf t q.seat → HasDrawn t (view_of p.seat) (view_of q.seat) (NoMore k) → IsAtNext answer t before q runs None
draws_none law answer t before p q runs next end k over h same of drawn = record {
  number = ap (λ (u : PassView). u.number) same ∙ h.number;
  parts = ap (λ (u : PassView). u.parts) same ∙ h.parts;
  groups = ap (λ (u : PassView). u.groups) same ∙ h.groups;
  rows = ap (λ (u : PassView). u.rows) same ∙ h.rows;
  of = of;
  seat = still_worker drawn.number (view_of p.seat) (view_of q.seat) h.seat drawn.shows;
  ascends = ascends_drawn law drawn.number (view_of p.seat) (view_of q.seat) h.seat h.ascends drawn.above drawn.shows;
  rest = [];
  begins = left_drawn t p q runs next end drawn.number (NoMore k) h.seat over h.left drawn.shows drawn.groups;
  faults = calm_last runs h.calm;
  answers = h.answers;
  whole = λ early calm. (refl, subst (λ (xs : List ℕ). 1 ≤ past t.runs xs) (sym (shown_drawn drawn.number (view_of p.seat) (view_of q.seat) h.seat drawn.shows)) (past_last t.runs drawn.number (shown (view_of p.seat)) (no_more_is_past t drawn.number k drawn.gives)));
  stopped = tt;
  tested = tt;
}

-- groups are left of the run at hand
pub still_working : (answer : ℕ → GroupEnd) (t : Tickets) (before p q : PassView) (runs : List GroupRun) (next end : ℕ) → next < end → q ≡ p → IsWorking answer t before p runs next end → IsAtNext answer t before q runs (Some (next, end))
still_working answer t before p q runs next end low same h = (subst (λ (u : PassView). IsWorking answer t before u runs next end) (sym same) h, low)

-- a worker that ends early, with the groups from `next` up to `end` left
pub ends_early : (answer : ℕ → GroupEnd) (t : Tickets) (before p q : PassView) (runs more : List GroupRun) (next end : ℕ) (early : EndedEarly) → IsWorking answer t before p runs next end → q ≡ p → more ≡ runs
    → (early ≡ not_early → ⊥) → IfSome early.stop (λ f. f < next) → IfSome early.odd (IsOdd t.groups) → HasWorked answer t before q more early
ends_early answer t before p q runs more next end early h same equal is_early stopped tested =
    subst (λ (u : PassView). HasWorked answer t before u more early) (sym same) (subst (λ (rs : List GroupRun). HasWorked answer t before p rs early) (sym equal) (record {
      number = h.number;
      parts = h.parts;
      groups = h.groups;
      rows = h.rows;
      of = h.of;
      seat = h.seat;
      ascends = h.ascends;
      rest = range_with_len next (end - next);
      begins = h.left;
      faults = calm_last runs h.calm;
      answers = h.answers;
      whole = λ no. absurd (is_early no);
      stopped = below_rest next end early.stop stopped;
      tested = tested;
    }))
  where
    below_rest : (next end : ℕ) (stop : Option ℕ) → IfSome stop (λ f. f < next) → IfSome stop (λ f. AreFrom (f + 1) (range_with_len next (end - next)))
    below_rest next end None h = tt
    below_rest next end (Some f) h = range_is_from (f + 1) next (end - next) (omega (arith, h))

-- what one more group leaves
left_one : (m l g end : ℕ) (runs : List GroupRun) (r : GroupRun) (drawn : List ℕ) → g < end → r.group ≡ g
    → map group_in runs ++ range_with_len g (end - g) ≡ groups_of_runs m l drawn
    → map group_in (runs ++ r ∷ []) ++ range_with_len (g + 1) (end - (g + 1)) ≡ groups_of_runs m l drawn
left_one m l g end runs r drawn low is left =
    let rest = range_with_len (g + 1) (end - (g + 1)) in
    ap (λ (xs : List ℕ). xs ++ rest) (map-append group_in runs (r ∷ [])) ∙ append_assoc (map group_in runs) (r.group ∷ []) rest
    ∙ ap (λ (k : ℕ). map group_in runs ++ (k ∷ rest)) is ∙ ap (λ (xs : List ℕ). map group_in runs ++ xs) (sym (first_of_range g end low)) ∙ left

pub goes_on_working : (answer : ℕ → GroupEnd) (t : Tickets) (before p q : PassView) (runs more : List GroupRun) (g end : ℕ) → g < end → IsWorking answer t before p runs g end → IsOneMore answer g p q runs more false
    → IsWorking answer t before q more (g + 1) end
goes_on_working answer t before p q runs more g end low h one = subst (λ (rs : List GroupRun). IsWorking answer t before q rs (g + 1) end) (sym one.runs_are) (record {
  number = ap (λ (u : PassView). u.number) one.pass ∙ h.number;
  parts = ap (λ (u : PassView). u.parts) one.pass ∙ h.parts;
  groups = omega (arith, ap (λ (u : PassView). u.groups) one.pass, h.groups, length-append runs (answered_run answer g ∷ []));
  rows = omega (arith, ap (λ (u : PassView). u.rows) one.pass, h.rows, sum_by_push rows_in runs (answered_run answer g));
  of = subst (λ (u : PassView). IsSeatOf t u.seat) (sym one.pass) h.of;
  seat = subst (λ (u : PassView). IsWorkerSeat (view_of u.seat)) (sym one.pass) h.seat;
  may = subst (λ (u : PassView). MayDraw t.runs (view_of u.seat)) (sym one.pass) h.may;
  ascends = subst (λ (u : PassView). IsAscending (shown (view_of u.seat))) (sym one.pass) h.ascends;
  inside = (omega (arith, low), h.inside.1);
  left = left_one t.groups t.length g end runs (answered_run answer g) (shown (view_of q.seat)) low refl (h.left ∙ ap (λ (u : PassView). groups_of_runs t.groups t.length (shown (view_of u.seat))) (sym one.pass));
  calm = calm_more runs (answered_run answer g) h.calm one.fault;
  answers = answers_more answer g runs h.answers;
})

pub ends_at_fault : (answer : ℕ → GroupEnd) (t : Tickets) (before p q : PassView) (runs more : List GroupRun) (g end : ℕ) → g < end → IsWorking answer t before p runs g end → IsOneMore answer g p q runs more true
    → HasWorked answer t before q more not_early
ends_at_fault answer t before p q runs more g end low h one = subst (λ (rs : List GroupRun). HasWorked answer t before q rs not_early) (sym one.runs_are) (record {
  number = ap (λ (u : PassView). u.number) one.pass ∙ h.number;
  parts = ap (λ (u : PassView). u.parts) one.pass ∙ h.parts;
  groups = omega (arith, ap (λ (u : PassView). u.groups) one.pass, h.groups, length-append runs (answered_run answer g ∷ []));
  rows = omega (arith, ap (λ (u : PassView). u.rows) one.pass, h.rows, sum_by_push rows_in runs (answered_run answer g));
  of = subst (λ (u : PassView). IsSeatOf t u.seat) (sym one.pass) h.of;
  seat = subst (λ (u : PassView). IsWorkerSeat (view_of u.seat)) (sym one.pass) h.seat;
  ascends = subst (λ (u : PassView). IsAscending (shown (view_of u.seat))) (sym one.pass) h.ascends;
  rest = range_with_len (g + 1) (end - (g + 1));
  begins = left_one t.groups t.length g end runs (answered_run answer g) (shown (view_of q.seat)) low refl (h.left ∙ ap (λ (u : PassView). groups_of_runs t.groups t.length (shown (view_of u.seat))) (sym one.pass));
  faults = calm_then_one runs (answered_run answer g) h.calm;
  answers = answers_more answer g runs h.answers;
  whole = λ early calm. absurd (let no : true ≡ false = sym (fault_is_there runs (answered_run answer g) one.fault) ∙ calm in cc);
  stopped = tt;
  tested = tt;
})

early_are : (short short' : Bool) (odd odd' : Option Odd) (stop stop' : Option ℕ) → (short ≡ short') × (odd ≡ odd') × (stop ≡ stop')
    → ◌≡◌ {A = EndedEarly} (record { short = short; odd = odd; stop = stop }) (record { short = short'; odd = odd'; stop = stop' })
early_are short short' odd odd' stop stop' e = λ i. record { short = e.0 i; odd = e.1 i; stop = e.2 i }

-- the bag that is made of what a worker has
pub bag_done : (answer : ℕ → GroupEnd) (t : Tickets) (before p q : PassView) (runs more : List GroupRun) (short : Bool) (odd : Option Odd) (stop : Option ℕ) → HasWorked answer t before p runs not_early → q ≡ p → more ≡ runs
    → (short ≡ false) × (odd ≡ None) × (stop ≡ None) → HasWorked answer t before q more (record { short = short; odd = odd; stop = stop })
bag_done answer t before p q runs more short odd stop h same equal is =
    subst (λ (u : PassView). HasWorked answer t before u more (record { short = short; odd = odd; stop = stop })) (sym same)
    (subst (λ (rs : List GroupRun). HasWorked answer t before p rs (record { short = short; odd = odd; stop = stop })) (sym equal)
    (subst (HasWorked answer t before p runs) (sym (early_are short false odd None stop None is)) h))

pub bag_short : (answer : ℕ → GroupEnd) (t : Tickets) (before p q : PassView) (runs more : List GroupRun) (next end : ℕ) (short : Bool) (odd : Option Odd) (stop : Option ℕ) → IsWorking answer t before p runs next end → q ≡ p → more ≡ runs
    → (short ≡ true) × (odd ≡ None) × (stop ≡ None) → HasWorked answer t before q more (record { short = short; odd = odd; stop = stop })
bag_short answer t before p q runs more next end short odd stop h same equal is =
    subst (HasWorked answer t before q more) (sym (early_are short true odd None stop None is))
    (ends_early answer t before p q runs more next end (record { short = true; odd = None; stop = None }) h same equal (λ e. let no : true ≡ false = ap (λ (x : EndedEarly). x.short) e in cc) tt tt)

abbrev is_some : Option Odd → Bool
is_some None = false
is_some (Some odd) = true

pub bag_odd : (answer : ℕ → GroupEnd) (t : Tickets) (before p q : PassView) (runs more : List GroupRun) (next end : ℕ) (found : Odd) (short : Bool) (odd : Option Odd) (stop : Option ℕ) → IsOdd t.groups found → IsWorking answer t before p runs next end → q ≡ p → more ≡ runs
    → (short ≡ false) × (odd ≡ Some found) × (stop ≡ None) → HasWorked answer t before q more (record { short = short; odd = odd; stop = stop })
bag_odd answer t before p q runs more next end found short odd stop tested h same equal is =
    subst (HasWorked answer t before q more) (sym (early_are short false odd (Some found) stop None is))
    (ends_early answer t before p q runs more next end (record { short = false; odd = Some found; stop = None }) h same equal (λ e. let no : true ≡ false = ap (λ (x : EndedEarly). is_some x.odd) e in cc) tt tested)

abbrev is_stopped : Option ℕ → Bool
is_stopped None = false
is_stopped (Some fault) = true

pub bag_stop : (answer : ℕ → GroupEnd) (t : Tickets) (before p q : PassView) (runs more : List GroupRun) (next end fault : ℕ) (short : Bool) (odd : Option Odd) (stop : Option ℕ) → fault < next → IsWorking answer t before p runs next end → q ≡ p → more ≡ runs
    → (short ≡ false) × (odd ≡ None) × (stop ≡ Some fault) → HasWorked answer t before q more (record { short = short; odd = odd; stop = stop })
bag_stop answer t before p q runs more next end fault short odd stop low h same equal is =
    subst (HasWorked answer t before q more) (sym (early_are short false odd None stop (Some fault) is))
    (ends_early answer t before p q runs more next end (record { short = false; odd = None; stop = Some fault }) h same equal (λ e. let no : true ≡ false = ap (λ (x : EndedEarly). is_stopped x.stop) e in cc) low tt)

-- what a worker has is what it brings
pub ended_bag : (answer : ℕ → GroupEnd) (t : Tickets) (before after : PassView) (runs : List GroupRun) (early : EndedEarly) → before.parts ≡ 1 → HasWorked answer t before after runs early → IsEndedBag answer t after runs early
ended_bag answer t before after runs early one h = record {
  parts = h.parts ∙ one;
  pass = record { of = h.of; seat = h.seat };
  bag = record { ascends = h.ascends; begins = (h.rest, h.begins); faults = h.faults };
  answers = h.answers;
  whole = λ full.
      let all = h.whole full.0 full.1 in
      (sym (append-nil (map group_in runs)) ∙ ap (λ (xs : List ℕ). map group_in runs ++ xs) (sym all.0) ∙ h.begins, all.1);
}
