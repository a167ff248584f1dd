-- What the parties have makes a history that is legal and complete.
use Rattle.std.proofs.Common.{◌≡◌, ◌<◌, ◌≤◌, ◌+◌, ◌*◌, ℕ, zero, suc, List, [], ◌∷◌, ◌++◌, Bool, true, false, ap, ◌∙◌, sym, refl, subst, arith, inl, inr, length, Option, Some, None}
use Rattle.std.specs.Prelude.{map, sum_by, min, not, ◌||◌, ◌&&◌, if◌then◌else◌, ◌==◌, slice_index_or}
use Rattle.std.specs.List.{All, AllByRecursion, range_with_len, filter, concat, list_any}
use Rattle.std.proofs.lemmas.Bool.{eqb-true, cases_lt}
use Rattle.std.proofs.lemmas.Bool.Decides.{nat_tests}
use Rattle.std.proofs.lemmas.List.{length-map}
use Rattle.std.proofs.lemmas.List.Folds.{list_any-append}
use Rattle.std.proofs.lemmas.List.Sums.{sum_by-cons}
use Rattle.std.proofs.Math.Nat.{mul-le-mul_right}
use Rattle.ds2_schedule.specs.declared.tickets.Tickets.{Tickets}
use Rattle.ds2_schedule.specs.declared.tickets.TicketSeat.{TicketSeat}
use Rattle.ds2_schedule.specs.Runs.{RunsAreLeast, run_length, run_count, times, once_below}
use Rattle.ds2_schedule.specs.Stage.{HandIn, some_fault}
use Rattle.ds2_schedule.specs.Rule.{shown, past}
use Rattle.ds2_schedule.specs.Seats.{view_of}
use Rattle.ds2_schedule.specs.Sums.{has_fault_at}
use Rattle.ds2_schedule.proofs.Counts.{times-append}
use Rattle.ds2_schedule.specs.Bags.{GroupRun, Bag, group_in, numbers_in, groups_in, is_among, IsBag, AreBags, handed_by, all_handed, missing, CallerHasStopped, StageHasEnded, AreAnswers, BagsAnswer, EndedIsComplete, EndedIsCarried, WholeBagsHaveAll, AreWhole, groups_of_runs, history}
use Rattle.ds2_bags.specs.declared.group_end.GroupEnd.{GroupEnd}
use Rattle.ds2_bags.specs.Endings.{ended_by_fault}
use Rattle.ds2_bags.specs.Rest.{unless_brought, unbrought, is_brought, answered_run, HasStoppedAt, HasRunRest}
use Rattle.ds2_bags.specs.StageEnds.{program_of_job}
use Rattle.ds2_schedule.specs.Schedule.{FixedPart, AgreeAsStates, AreIndependent, EverySchedule}
use Rattle.ds2_bags.specs.declared.finishing.StageEnd.{StageEnd}
use Rattle.ds2_bags.specs.StageEnds.{IsStageEnd}
use Rattle.ds2_stage.specs.Ended.{IsEndedBag, HasAllNumbers, HasDrawnRest, HasEnded, HaveEachOnce, IsJobHistory, ComesOfHistory}
use Rattle.ds2_stage.specs.Bags.{EndedEarly, EndedInFull}
use Rattle.ds2_stage.specs.Gathered.{HasJoined, times_shown}
use Rattle.ds2_stage.specs.Passes.{PassView}
use Rattle.ds2_stage.proofs.Lists.{sum_pushed}

-- how often a number stands in all bags
times_in_bags : (x : ℕ) (bags : List Bag) → times x (concat (map numbers_in bags)) ≡ sum_by (λ (b : Bag). times x b.drawn) bags
times_in_bags x [] = refl
times_in_bags x (b ∷ bags) = omega (arith, times-append x b.drawn (concat (map numbers_in bags)), times_in_bags x bags, sum_by-cons (λ (c : Bag). times x c.drawn) b bags)

by_slot : (s : Option GroupEnd) (g : ℕ) (rest : List ℕ) → (if not (is_brought s) then g ∷ rest else rest) ≡ unless_brought s g rest
by_slot None g rest = refl
by_slot (Some end) g rest = refl

-- the groups that no bag has are those that nobody brought
missing_is : (p : ℕ → Bool) (slot : ℕ → Option GroupEnd) (g n : ℕ) → ((k : ℕ) → k < g + n → not (p k) ≡ not (is_brought (slot k))) → filter (λ k. not (p k)) (range_with_len g n) ≡ unbrought slot g n
missing_is p slot g zero h = refl
missing_is p slot g (suc n) h =
    let rest = missing_is p slot (g + 1) n (λ k low. h k (omega (arith, low))) in
    ap {B = List ℕ} (λ (b : Bool). if b then g ∷ filter (λ k. not (p k)) (range_with_len (g + 1) n) else filter (λ k. not (p k)) (range_with_len (g + 1) n)) (h g (omega arith))
    ∙ ap {B = List ℕ} (λ (xs : List ℕ). if not (is_brought (slot g)) then g ∷ xs else xs) rest ∙ by_slot (slot g) g (unbrought slot (g + 1) n)

or_true_right : (a b : Bool) → b ≡ true → (a || b) ≡ true
or_true_right true b e = refl
or_true_right false b e = e

and_true : (a b : Bool) → a ≡ true → b ≡ true → (a && b) ≡ true
and_true true b e f = f
and_true false b e f = absurd (cc)

or_true_left : (x y : Bool) → x ≡ true → (x || y) ≡ true
or_true_left true y e = refl
or_true_left false y e = absurd (cc)

-- one group that was run, and those behind it
fault_by_group : (answer : ℕ → GroupEnd) (g w : ℕ) (r : GroupRun) (runs : List GroupRun) (b : Bool) → r.faulted ≡ ended_by_fault (answer r.group).ending → ended_by_fault (answer g).ending ≡ true
    → (is_among g (map group_in runs) ≡ true → has_fault_at g (handed_by w runs) ≡ true) → (r.group == g) ≡ b → (b || is_among g (map group_in runs)) ≡ true → has_fault_at g (handed_by w (r ∷ runs)) ≡ true
fault_by_group answer g w r runs true own fault others same among =
    let e : r.group ≡ g = eqb-true r.group g same in
    let f : r.faulted ≡ true = own ∙ ap {B = Bool} (λ (k : ℕ). ended_by_fault (answer k).ending) e ∙ fault in
    or_true_left (r.faulted && r.group == g) (has_fault_at g (handed_by w runs)) (and_true r.faulted (r.group == g) f same)
fault_by_group answer g w r runs false own fault others same among = or_true_right (r.faulted && r.group == g) (has_fault_at g (handed_by w runs)) (others among)

-- a group that faults and was run stands among the hand-ins with its fault
fault_here : (answer : ℕ → GroupEnd) (g w : ℕ) (runs : List GroupRun) → AreAnswers (program_of_job answer) tt runs → is_among g (map group_in runs) ≡ true → ended_by_fault (answer g).ending ≡ true → has_fault_at g (handed_by w runs) ≡ true
fault_here answer g w [] h among fault = absurd (let no : false ≡ true = among in cc)
fault_here answer g w (r ∷ runs) h among fault = fault_by_group answer g w r runs (r.group == g) h.0.1 fault (λ there. fault_here answer g w runs h.1 there fault) refl among

list_any_concat : (p : ℕ → Bool) (b : List ℕ) (bs : List (List ℕ)) → list_any p (concat (b ∷ bs)) ≡ (list_any p b || list_any p (concat bs))
list_any_concat p b bs = list_any-append p b (concat bs)

fault_by_bag : (g w : ℕ) (b : Bag) (bags : List Bag) (x : Bool) → (is_among g (groups_in b) ≡ true → has_fault_at g (handed_by w b.runs) ≡ true) → (is_among g (concat (map groups_in bags)) ≡ true → has_fault_at g (all_handed (w + 1) bags) ≡ true)
    → is_among g (groups_in b) ≡ x → (x || is_among g (concat (map groups_in bags))) ≡ true → (has_fault_at g (handed_by w b.runs) || has_fault_at g (all_handed (w + 1) bags)) ≡ true
fault_by_bag g w b bags true own others here among = or_true_left (has_fault_at g (handed_by w b.runs)) (has_fault_at g (all_handed (w + 1) bags)) (own here)
fault_by_bag g w b bags false own others there among = or_true_right (has_fault_at g (handed_by w b.runs)) (has_fault_at g (all_handed (w + 1) bags)) (others among)

fault_in_bags : (answer : ℕ → GroupEnd) (g w : ℕ) (bags : List Bag) → BagsAnswer (program_of_job answer) tt bags → is_among g (concat (map groups_in bags)) ≡ true → ended_by_fault (answer g).ending ≡ true → has_fault_at g (all_handed w bags) ≡ true
fault_in_bags answer g w [] h among fault = absurd (let no : false ≡ true = among in cc)
fault_in_bags answer g w (b ∷ bags) h among fault =
    list_any-append (λ (e : HandIn). e.faulted && e.group == g) (handed_by w b.runs) (all_handed (w + 1) bags)
    ∙ fault_by_bag g w b bags (is_among g (groups_in b)) (λ here. fault_here answer g w b.runs h.0 here fault) (λ there. fault_in_bags answer g (w + 1) bags h.1 there fault) refl
    (sym (list_any_concat (λ y. y == g) (groups_in b) (map groups_in bags)) ∙ among)

-- a fault among the groups that the caller ran is one among its hand-ins
fault_handed : (answer : ℕ → GroupEnd) (w : ℕ) (ran : List ℕ) → some_fault (handed_by w (map (answered_run answer) ran)) ≡ list_any (λ g. ended_by_fault (answer g).ending) ran
fault_handed answer w [] = refl
fault_handed answer w (g ∷ ran) = ap {B = Bool} (λ (b : Bool). ended_by_fault (answer g).ending || b) (fault_handed answer w ran)

groups_ran : (answer : ℕ → GroupEnd) (ran : List ℕ) → map group_in (map (answered_run answer) ran) ≡ ran
groups_ran answer [] = refl
groups_ran answer (g ∷ ran) = ap (λ (xs : List ℕ). g ∷ xs) (groups_ran answer ran)

caller_stopped : (answer : ℕ → GroupEnd) (t : Tickets) (l word n : ℕ) (bags : List Bag) (slot : ℕ → Option GroupEnd) (ran rest : List ℕ) → run_count t.groups l ≤ word + n → BagsAnswer (program_of_job answer) tt bags
    → ((g : ℕ) → g < t.groups → is_brought (slot g) ≡ is_among g (concat (map groups_in bags))) → HasStoppedAt answer slot t.groups ran rest
    → CallerHasStopped t.groups l (length bags) bags (word + n) (map (answered_run answer) ran) rest
caller_stopped answer t l word n bags slot ran rest all answers slots (inl none) = inl (none, all)
caller_stopped answer t l word n bags slot ran rest all answers slots (inr (inl fault)) = inr (inl (fault_handed answer (length bags) ran ∙ fault))
caller_stopped answer t l word n bags slot ran rest all answers slots (inr (inr at)) =
    inr (inr (at.0, fault_in_bags answer at.0 0 bags answers (sym (slots at.0 at.1) ∙ at.2) at.3, at.4))

-- what all parties have when the caller is done
pub stage_has_ended : RunsAreLeast → (answer : ℕ → GroupEnd) (t : Tickets) (bags : List Bag) (ran : List ℕ) (slot : ℕ → Option GroupEnd) (word n : ℕ)
    → 1 ≤ t.length → t.length ≡ run_length t.groups (length bags) → run_count t.groups t.length ≤ word + n
    → ((x : ℕ) → sum_by (λ (b : Bag). times x b.drawn) bags ≡ once_below x word)
    → AreBags t.groups t.length bags → BagsAnswer (program_of_job answer) tt bags
    → ((g : ℕ) → g < t.groups → is_brought (slot g) ≡ is_among g (concat (map groups_in bags))) → HasRunRest answer slot t.groups ran
    → StageHasEnded t.groups (length bags) bags word n (map (answered_run answer) ran)
stage_has_ended least answer t bags ran slot word n one is all once are answers slots h =
    let a = (least t.groups t.length one).0 in
    let b = mul-le-mul_right {m = run_count t.groups t.length} {n = word + n} t.length all in
    let whole : min t.groups ((word + n) * t.length) ≡ t.groups = omega (arith, a, b) in
    record {
      number = refl;
      numbers_once = λ x. times_in_bags x bags ∙ once x;
      bags_are = subst (λ (l : ℕ). AreBags t.groups l bags) is are;
      faults = h.faults;
      rest = h.rest;
      begins = ap (λ (xs : List ℕ). xs ++ h.rest) (groups_ran answer ran) ∙ h.begins
          ∙ sym (missing_is (λ g. is_among g (concat (map groups_in bags))) slot 0 t.groups (λ k low. ap not (sym (slots k (omega (arith, low))))))
          ∙ ap (missing bags) (sym whole) ∙ ap (λ (l : ℕ). missing bags (min t.groups ((word + n) * l))) is;
      stopped = subst (λ (l : ℕ). CallerHasStopped t.groups l (length bags) bags (word + n) (map (answered_run answer) ran) h.rest) is
          (caller_stopped answer t t.length word n bags slot ran h.rest all answers slots h.stopped);
    }

-- bags as the stage machine sees them
pub by_recursion : {X Y : Type 0} (P : Y → Type 0) (f : X → Y) (xs : List X) → All (λ x. P (f x)) xs → AllByRecursion P (map f xs)
by_recursion P f [] h = tt
by_recursion P f (x ∷ xs) h = (h 0 x (omega arith), by_recursion P f xs (λ k d low. h (suc k) d (omega (arith, low))))

pub sum_of_map : {X Y : Type 0} (f : Y → ℕ) (g : X → Y) (xs : List X) → sum_by f (map g xs) ≡ sum_by (λ x. f (g x)) xs
sum_of_map f g [] = refl
sum_of_map f g (x ∷ xs) = sum_by-cons f (g x) (map g xs) ∙ ap (λ (n : ℕ). f (g x) + n) (sum_of_map f g xs) ∙ sym (sum_by-cons (λ y. f (g y)) x xs)

among_runs : {D : Type 0} (run : D → GroupRun) (g : ℕ) (ds : List D) → list_any (λ d. (run d).group == g) ds ≡ is_among g (map group_in (map run ds))
among_runs run g [] = refl
among_runs run g (d ∷ ds) = ap (λ (b : Bool). (run d).group == g || b) (among_runs run g ds)

pub among_bags : {X D : Type 0} (drawn : X → List ℕ) (dones : X → List D) (run : D → GroupRun) (g : ℕ) (xs : List X)
    → list_any (λ x. list_any (λ d. (run d).group == g) (dones x)) xs ≡ is_among g (concat (map groups_in (map (λ x. record { drawn = drawn x; runs = map run (dones x) }) xs)))
among_bags drawn dones run g [] = refl
among_bags drawn dones run g (x ∷ xs) =
    ap (λ (b : Bool). b || list_any (λ y. list_any (λ d. (run d).group == g) (dones y)) xs) (among_runs run g (dones x))
    ∙ ap (λ (b : Bool). is_among g (map group_in (map run (dones x))) || b) (among_bags drawn dones run g xs)
    ∙ sym (list_any-append (λ y. y == g) (map group_in (map run (dones x))) (concat (map groups_in (map (λ y. record { drawn = drawn y; runs = map run (dones y) }) xs))))

pub brought_if : (b : Bool) (end : GroupEnd) → is_brought (if b then Some end else None) ≡ b
brought_if true end = refl
brought_if false end = refl

-- what moves from the end of one list to that of another
pub sum_moved : {X Y : Type 0} (f : X → ℕ) (h : Y → ℕ) (xs more : List X) (x : X) (left all : List Y) (y : Y) (total : ℕ) → more ≡ xs ++ x ∷ [] → all ≡ left ++ y ∷ [] → f x ≡ h y
    → sum_by f xs + sum_by h all ≡ total → sum_by f more + sum_by h left ≡ total
sum_moved f h xs more x left all y total a b same before = omega (arith, before, same, sum_pushed f xs more x a, sum_pushed h left all y b)

any_turn : (a b c : Bool) → ((a || (c || false)) || b) ≡ (a || (b || (c || false)))
any_turn true b c = refl
any_turn false true true = refl
any_turn false true false = refl
any_turn false false true = refl
any_turn false false false = refl

pub any_moved : {X Y : Type 0} (p : X → Bool) (q : Y → Bool) (xs more : List X) (x : X) (left all : List Y) (y : Y) (total : Bool) → more ≡ xs ++ x ∷ [] → all ≡ left ++ y ∷ [] → p x ≡ q y
    → (list_any p xs || list_any q all) ≡ total → (list_any p more || list_any q left) ≡ total
any_moved p q xs more x left all y total a b same before =
    ap (λ (c : Bool). c || list_any q left) (ap (list_any p) a ∙ list_any-append p xs (x ∷ []) ∙ ap (λ (c : Bool). list_any p xs || (c || false)) same)
    ∙ any_turn (list_any p xs) (list_any q left) (q y)
    ∙ ap (λ (c : Bool). list_any p xs || c) (sym (ap (list_any q) b ∙ list_any-append q left (y ∷ []))) ∙ before

-- no location of a job's state is fixed, and a group's answer is that of the job
abbrev nothing_fixed : FixedPart (Unit {0}) (Unit {0}) (Unit {0})
nothing_fixed = record { content = λ s k. tt; is_fixed = λ k. false }

groups_are_independent : (answer : ℕ → GroupEnd) → AreIndependent (AgreeAsStates (λ s. true) nothing_fixed) (program_of_job answer)
groups_are_independent answer = record { same = λ s t g h. refl; kept = λ s g h calm. h }

ran_answers : (answer : ℕ → GroupEnd) (ran : List ℕ) → AreAnswers (program_of_job answer) tt (map (answered_run answer) ran)
ran_answers answer [] = tt
ran_answers answer (g ∷ ran) = ((refl, refl), ran_answers answer ran)

job_history : EndedIsComplete → EndedIsCarried (Unit {0}) (Unit {0}) (Unit {0}) GroupEnd → (answer : ℕ → GroupEnd) (m workers : ℕ) (bags : List Bag) (word n : ℕ) (ran : List ℕ)
    → StageHasEnded m workers bags word n (map (answered_run answer) ran) → BagsAnswer (program_of_job answer) tt bags → IsJobHistory answer m workers (history workers bags word n (map (answered_run answer) ran))
job_history law carry answer m workers bags word n ran ended answers =
    let more = map (answered_run answer) ran in
    let whole = law m workers bags word n more ended in
    record {
      legal = whole.0;
      complete = whole.1;
      carried = carry (program_of_job answer) (λ s. true) nothing_fixed m workers tt bags word n more (groups_are_independent answer) refl ended answers (ran_answers answer ran);
    }

-- the history of what all parties have
pub has_ended : RunsAreLeast → EndedIsComplete → EndedIsCarried (Unit {0}) (Unit {0}) (Unit {0}) GroupEnd → (answer : ℕ → GroupEnd) (t : Tickets) (passes : List PassView) (bags : List Bag) (ran : List ℕ) (slot : ℕ → Option GroupEnd) (s now : TicketSeat)
    → 1 ≤ t.length → t.runs ≡ run_count t.groups t.length → t.length ≡ run_length t.groups (length bags) → length passes ≡ length bags
    → ((x : ℕ) → sum_by (times_shown x) passes ≡ sum_by (λ (b : Bag). times x b.drawn) bags)
    → AreBags t.groups t.length bags → BagsAnswer (program_of_job answer) tt bags → HasJoined t passes s
    → ((workers word : ℕ) → HasAllNumbers workers word s → (n : ℕ) × HasDrawnRest t workers word n now)
    → ((g : ℕ) → g < t.groups → is_brought (slot g) ≡ is_among g (concat (map groups_in bags))) → HasRunRest answer slot t.groups ran
    → HasEnded answer t bags ran now
has_ended least law carry answer t passes bags ran slot s now one cut is number numbers are answers joined draws slots h =
    let rest = draws (length passes) joined.next (record { drawn = joined.drawn; once = joined.once; seat = joined.first }) in
    let ended = stage_has_ended least answer t bags ran slot joined.next rest.0 one is (subst (λ (k : ℕ). k ≤ joined.next + rest.0) cut rest.1.all)
    (λ x. sym (numbers x) ∙ sym (joined.all x) ∙ joined.once x) are answers slots h in
    record {
      word = joined.next;
      n = rest.0;
      drawn = subst (λ (k : ℕ). HasDrawnRest t k joined.next rest.0 now) number rest.1;
      ended = ended;
      answers = answers;
      is = job_history law carry answer t.groups (length bags) bags joined.next rest.0 ran ended answers;
    }

-- what the stage gives comes of it
comes_of_history : EverySchedule (Unit {0}) (Unit {0}) (Unit {0}) GroupEnd → (answer : ℕ → GroupEnd) (t : Tickets) (bags : List Bag) (ran : List ℕ) (s : TicketSeat) (end : StageEnd)
    → HasEnded answer t bags ran s → IsStageEnd answer t.groups end → ComesOfHistory answer t.groups (length bags) end
comes_of_history law answer t bags ran s end h is =
    let xs = history (length bags) bags h.word h.n (map (answered_run answer) ran) in
    record {
      bags = bags;
      word = h.word;
      n = h.n;
      more = map (answered_run answer) ran;
      ended = h.ended;
      is = h.is;
      in_turn = is.in_turn ∙ sym (law (program_of_job answer) (λ u. true) nothing_fixed t.groups (length bags) tt xs (groups_are_independent answer) refl h.is.legal h.is.carried h.is.complete);
    }

-- a number past the last run is among those that a seat shows
past_one : (q : ℕ) (xs : List ℕ) → 1 ≤ past q xs → (d : ℕ) × (q ≤ d) × (1 ≤ times d xs)
past_one q [] some = absurd (omega (arith, some))
past_one q (x ∷ xs) some = elim (cases_lt x q) [
  | inl low ↦ let rest = past_one q xs (grind (arith, nat_tests, some, low)) in (rest.0, rest.1, omega (arith, rest.2))
  | inr high ↦ (x, high, grind (arith, nat_tests))
]

-- a bag has all groups of its runs, and its seat shows a number past the last run
abbrev pub IsFullBag : Tickets → Bag → Type 0
IsFullBag t b = (groups_in b ≡ groups_of_runs t.groups t.length b.drawn) × (1 ≤ past t.runs b.drawn)

are_whole : (t : Tickets) (bags : List Bag) → AllByRecursion (IsFullBag t) bags → AreWhole t.groups t.length bags
are_whole t [] h = tt
are_whole t (b ∷ bags) h = (h.0.0, are_whole t bags h.1)

below_next : (d word : ℕ) → 1 ≤ once_below d word → d < word
below_next d word some = grind (arith, nat_tests, some)

pub have_each_once : WholeBagsHaveAll → (answer : ℕ → GroupEnd) (t : Tickets) (bags : List Bag) (ran : List ℕ) (s : TicketSeat) → 0 < length bags → t.runs ≡ run_count t.groups t.length → t.length ≡ run_length t.groups (length bags)
    → AreBags t.groups t.length bags → HasEnded answer t bags ran s → AllByRecursion (IsFullBag t) bags → HaveEachOnce t.groups bags
have_each_once law answer t [] ran s some cut is are ended full = absurd (omega (arith, some))
have_each_once law answer t (b ∷ bags) ran s some cut is are ended full =
    let found = past_one t.runs b.drawn full.0.1 in
    let once = ended.ended.numbers_once found.0 in
    let low : found.0 < ended.word = below_next found.0 ended.word (omega (arith, once, times-append found.0 b.drawn (concat (map numbers_in bags)), found.2)) in
    let past : run_count t.groups (run_length t.groups (length (b ∷ bags))) ≤ found.0 = subst (λ (l : ℕ). run_count t.groups l ≤ found.0) is (subst (λ (q : ℕ). q ≤ found.0) cut found.1) in
    law t.groups (length (b ∷ bags)) (b ∷ bags) ended.word found.0 refl ended.ended.numbers_once
    (subst (λ (l : ℕ). AreBags t.groups l (b ∷ bags)) is are) (subst (λ (l : ℕ). AreWhole t.groups l (b ∷ bags)) is (are_whole t (b ∷ bags) full)) low past

or_none : (b : Bool) → (b || false) ≡ b
or_none true = refl
or_none false = refl

-- where nothing is left to move, all has moved
pub any_all_moved : {X Y : Type 0} (p : X → Bool) (q : Y → Bool) (xs : List X) (left : List Y) (total : Bool) → length left ≡ 0 → (list_any p xs || list_any q left) ≡ total → list_any p xs ≡ total
any_all_moved p q xs [] total none h = sym (or_none (list_any p xs)) ∙ h
any_all_moved p q xs (y ∷ left) total none h = absurd (omega (arith, none))

-- what the stage machine sees of a bag
abbrev bag_of : {X D : Type 0} → (X → PassView) → (X → List D) → (D → GroupRun) → X → Bag
bag_of pass dones run x = record { drawn = shown (view_of (pass x).seat); runs = map run (dones x) }

pub ended_by_bags : RunsAreLeast → EndedIsComplete → EndedIsCarried (Unit {0}) (Unit {0}) (Unit {0}) GroupEnd → {X D : Type 0} (pass : X → PassView) (dones : X → List D) (run : D → GroupRun) (early : X → EndedEarly) (xs : List X)
    (answer : ℕ → GroupEnd) (t : Tickets) (passes : List PassView) (placed : List (Option GroupEnd)) (lists : List (List D)) (ran : List ℕ) (s now : TicketSeat)
    → 1 ≤ t.length → t.runs ≡ run_count t.groups t.length → t.length ≡ run_length t.groups (length xs) → length passes ≡ length xs
    → All (λ x. IsEndedBag answer t (pass x) (map run (dones x)) (early x)) xs
    → ((k : ℕ) → sum_by (times_shown k) passes ≡ sum_by (λ x. times_shown k (pass x)) xs) → HasJoined t passes s
    → ((workers word : ℕ) → HasAllNumbers workers word s → (n : ℕ) × HasDrawnRest t workers word n now)
    → ((g : ℕ) → g < t.groups → slice_index_or placed g None ≡ (if list_any (λ ds. list_any (λ d. (run d).group == g) ds) lists then Some (answer g) else None))
    → ((g : ℕ) → list_any (λ ds. list_any (λ d. (run d).group == g) ds) lists ≡ list_any (λ x. list_any (λ d. (run d).group == g) (dones x)) xs)
    → HasRunRest answer (λ g. slice_index_or placed g None) t.groups ran
    → HasEnded answer t (map (bag_of pass dones run) xs) ran now
ended_by_bags least law carry pass dones run early xs answer t passes placed lists ran s now one cut is number all numbers joined draws placed_are named h =
    let len = length-map xs (bag_of pass dones run) in
    has_ended least law carry answer t passes (map (bag_of pass dones run) xs) ran (λ g. slice_index_or placed g None) s now one cut (is ∙ ap (run_length t.groups) (sym len)) (number ∙ sym len)
    (λ k. numbers k ∙ sym (sum_of_map (λ (b : Bag). times k b.drawn) (bag_of pass dones run) xs))
    (by_recursion (IsBag t.groups t.length) (bag_of pass dones run) xs (λ k x low. (all k x low).bag))
    (by_recursion (λ (b : Bag). AreAnswers (program_of_job answer) tt b.runs) (bag_of pass dones run) xs (λ k x low. (all k x low).answers))
    joined draws
    (λ g low. ap is_brought (placed_are g low) ∙ brought_if (list_any (λ ds. list_any (λ d. (run d).group == g) ds) lists) (answer g) ∙ named g ∙ among_bags (λ x. shown (view_of (pass x).seat)) dones run g xs)
    h

pub once_by_bags : WholeBagsHaveAll → {X D : Type 0} (pass : X → PassView) (dones : X → List D) (run : D → GroupRun) (early : X → EndedEarly) (xs : List X) (answer : ℕ → GroupEnd) (t : Tickets) (ran : List ℕ) (s : TicketSeat)
    → 0 < length xs → t.runs ≡ run_count t.groups t.length → t.length ≡ run_length t.groups (length xs)
    → All (λ x. IsEndedBag answer t (pass x) (map run (dones x)) (early x)) xs → HasEnded answer t (map (bag_of pass dones run) xs) ran s
    → All (λ x. EndedInFull (early x) (map run (dones x))) xs → HaveEachOnce t.groups (map (bag_of pass dones run) xs)
once_by_bags law pass dones run early xs answer t ran s some cut is all ended full =
    let len = length-map xs (bag_of pass dones run) in
    have_each_once law answer t (map (bag_of pass dones run) xs) ran s (omega (arith, some, len)) cut (is ∙ ap (run_length t.groups) (sym len))
    (by_recursion (IsBag t.groups t.length) (bag_of pass dones run) xs (λ k x low. (all k x low).bag)) ended
    (by_recursion (IsFullBag t) (bag_of pass dones run) xs (λ k x low. (all k x low).whole (full k x low)))

pub history_by_bags : EverySchedule (Unit {0}) (Unit {0}) (Unit {0}) GroupEnd → {X D : Type 0} (pass : X → PassView) (dones : X → List D) (run : D → GroupRun) (xs : List X) (answer : ℕ → GroupEnd) (t : Tickets) (ran : List ℕ) (s : TicketSeat) (end : StageEnd)
    → HasEnded answer t (map (bag_of pass dones run) xs) ran s → IsStageEnd answer t.groups end → ComesOfHistory answer t.groups (length xs) end
history_by_bags law pass dones run xs answer t ran s end ended is =
    subst (λ (w : ℕ). ComesOfHistory answer t.groups w end) (length-map xs (bag_of pass dones run)) (comes_of_history law answer t (map (bag_of pass dones run) xs) ran s end ended is)
