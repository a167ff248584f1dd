-- What workers and the caller have when a stage has ended, and the history that it stands for.
use Rattle.std.specs.Prelude.{◌≡◌, ℕ, zero, suc, ◌+◌, ◌*◌, ◌<◌, ◌≤◌, List, [], ◌∷◌, ◌++◌, Bool, true, not, ◌⊎◌, length, map, min, if◌then◌else◌, ◌==◌}
use Rattle.std.specs.List.{AllByRecursion, list_any, filter, flat_map, range_with_len, concat}
use Rattle.ds2_schedule.specs.Runs.{run_length, run_count, run_groups, times, once_below}
use Rattle.ds2_schedule.specs.Stage.{HandIn, StageStep, Draws, HandsIn, Retakes, some_fault, is_legal, is_complete}
use Rattle.ds2_schedule.specs.Sums.{has_fault_at}
use Rattle.ds2_schedule.specs.Schedule.{GroupProgram, FixedPart, AgreeAsStates, AreIndependent, IsCarried, in_order, one_thread}

-- A group that a party ran, the number of its rows, and whether it ended in a fault.
pub record GroupRun : Type 0 where
  pub group : ℕ
  pub rows : ℕ
  pub faulted : Bool

-- The numbers that a worker's seat drew, and the groups that the worker ran, both in order.
pub record Bag : Type 0 where
  pub drawn : List ℕ
  pub runs : List GroupRun

-- The group that was run.
abbrev pub group_in : GroupRun → ℕ
group_in d = d.group

-- The numbers that a bag's party has drawn.
abbrev pub numbers_in : Bag → List ℕ
numbers_in b = b.drawn

-- The groups that a bag's party has run, in order.
abbrev pub groups_in : Bag → List ℕ
groups_in b = map group_in b.runs

-- The groups of several runs, where runs have l of the m groups.
abbrev pub groups_of_runs : ℕ → ℕ → List ℕ → List ℕ
groups_of_runs m l ds = flat_map (run_groups m l) ds

-- Whether x is in a list.
abbrev pub is_among : ℕ → List ℕ → Bool
is_among x xs = list_any (λ y. y == x) xs

-- No number of a list is below a; each number is at least the one before it.
abbrev pub AreFrom : ℕ → List ℕ → Type 0
AreFrom a xs = AllByRecursion (λ x. a ≤ x) xs

-- Each number of a list is above those before it.
abbrev pub IsAscending : List ℕ → Type 0
IsAscending [] = Unit {0}
IsAscending (x ∷ xs) = AreFrom x xs × IsAscending xs

-- Nothing was run behind a fault.
abbrev pub OnlyLastFaults : List GroupRun → Type 0
OnlyLastFaults [] = Unit {0}
OnlyLastFaults (d ∷ ds) = (d.faulted ≡ true → ds ≡ []) × OnlyLastFaults ds

-- A bag: its numbers ascend, its groups are the first ones of the runs drawn, and only the last may be a fault.
pub record IsBag (m l : ℕ) (b : Bag) : Type 0 where
  pub ascends : IsAscending b.drawn
  pub begins : (rest : List ℕ) × (groups_in b ++ rest ≡ groups_of_runs m l b.drawn)
  pub faults : OnlyLastFaults b.runs

-- Each of several bags is one of a worker.
abbrev pub AreBags : ℕ → ℕ → List Bag → Type 0
AreBags m l bs = AllByRecursion (IsBag m l) bs

-- The first worker whose seat drew number d.
abbrev pub owner : ℕ → List Bag → ℕ
owner d [] = 0
owner d (b ∷ bs) = if is_among d b.drawn then 0 else suc (owner d bs)

-- The n draws of the workers from number a on.
abbrev pub worker_draws : List Bag → ℕ → ℕ → List StageStep
worker_draws bags a zero = []
worker_draws bags a (suc n) = Draws (owner a bags) a ∷ worker_draws bags (a + 1) n

-- The n draws of the caller, which is party w, from number a on.
abbrev pub caller_draws : ℕ → ℕ → ℕ → List StageStep
caller_draws w a zero = []
caller_draws w a (suc n) = Draws w a ∷ caller_draws w (a + 1) n

-- The hand-ins of party w, and of the parties from w on, each in the order of its bag.
abbrev pub run_hand_ins : ℕ → List GroupRun → List StageStep
run_hand_ins w [] = []
run_hand_ins w (d ∷ ds) = HandsIn w d.group d.rows d.faulted ∷ run_hand_ins w ds

-- The steps by which several parties hand in what they ran, one party after the other.
abbrev pub all_hand_ins : ℕ → List Bag → List StageStep
all_hand_ins w [] = []
all_hand_ins w (b ∷ bs) = run_hand_ins w b.runs ++ all_hand_ins (w + 1) bs

-- The history of a stage that has ended: the workers' draws in order of number, their hand-ins party by party, the retaking, the caller's n draws and its hand-ins.
abbrev pub history : ℕ → List Bag → ℕ → ℕ → List GroupRun → List StageStep
history workers bags word n more = worker_draws bags 0 word ++ (all_hand_ins 0 bags ++ (Retakes ∷ (caller_draws workers word n ++ run_hand_ins workers more)))

-- What party w has handed in, and what the parties from w on have.
abbrev pub handed_by : ℕ → List GroupRun → List HandIn
handed_by w [] = []
handed_by w (d ∷ ds) = record { party = w; group = d.group; rows = d.rows; faulted = d.faulted } ∷ handed_by w ds

-- What several parties have handed in, one party after the other.
abbrev pub all_handed : ℕ → List Bag → List HandIn
all_handed w [] = []
all_handed w (b ∷ bs) = handed_by w b.runs ++ all_handed (w + 1) bs

-- The groups below n that no bag has, in ascending order.
abbrev pub missing : List Bag → ℕ → List ℕ
missing bags n = filter (λ g. not (is_among g (concat (map groups_in bags)))) (range_with_len 0 n)

-- How the caller came to stop before the groups of `rest`: none are left and all runs were drawn; or it ran a group that faulted; or they are not below a group that faulted in a bag.
abbrev pub CallerHasStopped : ℕ → ℕ → ℕ → List Bag → ℕ → List GroupRun → List ℕ → Type 0
CallerHasStopped m l workers bags drawn more rest =
    ((rest ≡ []) × (run_count m l ≤ drawn)) ⊎ ((some_fault (handed_by workers more) ≡ true) ⊎ ((g : ℕ) × (has_fault_at g (all_handed 0 bags) ≡ true) × AreFrom g rest))

-- What a stage shows when it has ended: the workers' seats show the numbers below `word`, each once; each worker has a bag; the caller drew n more numbers, and ran the first ones of the groups of the drawn runs that no bag has, in ascending order, and nothing behind a fault.
pub record StageHasEnded (m workers : ℕ) (bags : List Bag) (word n : ℕ) (more : List GroupRun) : Type 0 where
  pub number : length bags ≡ workers
  pub numbers_once : (x : ℕ) → times x (concat (map numbers_in bags)) ≡ once_below x word
  pub bags_are : AreBags m (run_length m workers) bags
  pub faults : OnlyLastFaults more
  pub rest : List ℕ
  pub begins : map group_in more ++ rest ≡ missing bags (min m ((word + n) * run_length m workers))
  pub stopped : CallerHasStopped m (run_length m workers) workers bags (word + n) more rest

-- Every bag has all groups of its runs.
abbrev pub AreWhole : ℕ → ℕ → List Bag → Type 0
AreWhole m l bs = AllByRecursion (λ b. groups_in b ≡ groups_of_runs m l b.drawn) bs

-- Where every bag has all groups of its runs, and a number past the last run was drawn, the bags have every group, each once.
abbrev pub WholeBagsHaveAll : Type 0
WholeBagsHaveAll = (m workers : ℕ) (bags : List Bag) (word d : ℕ) → length bags ≡ workers → ((x : ℕ) → times x (concat (map numbers_in bags)) ≡ once_below x word)
    → AreBags m (run_length m workers) bags → AreWhole m (run_length m workers) bags → d < word → run_count m (run_length m workers) ≤ d
    → (g : ℕ) → times g (concat (map groups_in bags)) ≡ once_below g m

-- Each group has the rows and the fault of its result from the first state.
abbrev pub AreAnswers : {S O : Type 0} → GroupProgram S O → S → List GroupRun → Type 0
AreAnswers p first ds = AllByRecursion (λ (d : GroupRun). (d.rows ≡ p.rows (p.result first d.group)) × (d.faulted ≡ p.faults (p.result first d.group))) ds

-- Each run in several bags has the rows and the fault of the program's result from the first state.
abbrev pub BagsAnswer : {S O : Type 0} → GroupProgram S O → S → List Bag → Type 0
BagsAnswer p first bs = AllByRecursion (λ (b : Bag). AreAnswers p first b.runs) bs

-- A hand-in's group, with what the first state gives of it.
abbrev pub answer_from : {S O : Type 0} → GroupProgram S O → S → HandIn → ℕ × O
answer_from p first e = (e.group, p.result first e.group)

-- The history of a stage that has ended is legal and complete.
abbrev pub EndedIsComplete : Type 0
EndedIsComplete = (m workers : ℕ) (bags : List Bag) (word n : ℕ) (more : List GroupRun) → StageHasEnded m workers bags word n more →
    (is_legal m workers (history workers bags word n more) ≡ true) × (is_complete m workers (history workers bags word n more) ≡ true)

-- Where groups are independent and each party has what the first state gives, each party carries a state through that history.
abbrev pub EndedIsCarried : Type 0 → Type 0 → Type 0 → Type 0 → Type 0
EndedIsCarried S K C O = (p : GroupProgram S O) (is_state : S → Bool) (fixed : FixedPart S K C) (m workers : ℕ) (first : S) (bags : List Bag) (word n : ℕ) (more : List GroupRun) → AreIndependent (AgreeAsStates is_state fixed) p → is_state first ≡ true
    → StageHasEnded m workers bags word n more → BagsAnswer p first bags → AreAnswers p first more → IsCarried p workers first (history workers bags word n more)

-- What the bags and the caller have, put in order of group up to the least fault, is then what one thread gives.
abbrev pub EndedIsOneThread : Type 0 → Type 0 → Type 0 → Type 0 → Type 0
EndedIsOneThread S K C O = (p : GroupProgram S O) (is_state : S → Bool) (fixed : FixedPart S K C) (m workers : ℕ) (first : S) (bags : List Bag) (word n : ℕ) (more : List GroupRun) → AreIndependent (AgreeAsStates is_state fixed) p → is_state first ≡ true
    → StageHasEnded m workers bags word n more → BagsAnswer p first bags → AreAnswers p first more
    → in_order p.faults (map (answer_from p first) (all_handed 0 bags ++ handed_by workers more)) 0 m ≡ one_thread p first 0 m
