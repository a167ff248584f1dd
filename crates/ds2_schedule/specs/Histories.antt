-- Histories of stages, and what their replays are.
use Rattle.std.specs.Prelude.{◌≡◌, ℕ, List, [], ◌∷◌, ◌++◌, Bool, true, false, map}
use Rattle.std.specs.List.{range_with_len, concat}
use Rattle.ds2_schedule.specs.Stage.{StageStep, Draws, HandsIn, Retakes, replay, is_legal, is_complete, group_of}
use Rattle.ds2_schedule.specs.Bags.{caller_draws}

-- What a replay shows: whether the history is legal and complete, how many runs were drawn, the groups left party by party, and the groups handed in.
pub record Replayed : Type 0 where
  pub legal : Bool
  pub complete : Bool
  pub drawn : ℕ
  pub left : List ℕ
  pub handed : List ℕ

-- A history over so many groups and workers, and what its replay shows.
pub record HistoryCase : Type 0 where
  pub groups : ℕ
  pub workers : ℕ
  pub steps : List StageStep
  pub shows : Replayed

-- What the replay of a history shows by the definitions.
abbrev pub replayed : HistoryCase → Replayed
replayed c =
    let s = replay c.groups c.workers c.steps in
    record { legal = is_legal c.groups c.workers c.steps; complete = is_complete c.groups c.workers c.steps; drawn = s.drawn; left = concat s.left; handed = map group_of s.handed }

-- What is said of it.
abbrev pub shown_by : HistoryCase → Replayed
shown_by c = c.shows

-- A history, whether it is legal and complete, the number of runs drawn, the groups left and those handed in.
abbrev pub case : ℕ → ℕ → List StageStep → Bool → Bool → ℕ → List ℕ → List ℕ → HistoryCase
case m workers steps legal complete drawn left handed =
    record { groups = m; workers = workers; steps = steps; shows = record { legal = legal; complete = complete; drawn = drawn; left = left; handed = handed } }

-- Party w draws number n.
abbrev pub draw : ℕ → ℕ → StageStep
draw w n = Draws w n

-- Party w hands in group g, which went well.
abbrev pub well : ℕ → ℕ → StageStep
well w g = HandsIn w g 1 false

-- Party w hands in group g, which ended in a fault.
abbrev pub ill : ℕ → ℕ → StageStep
ill w g = HandsIn w g 0 true

-- No group: there is nothing to draw.
abbrev pub no_group : List HistoryCase
no_group =
    case 0 8 [] true true 0 [] [] ∷
    case 0 8 (draw 0 0 ∷ []) true true 1 [] [] ∷
    case 0 64 (Retakes ∷ []) true true 0 [] [] ∷
    case 0 1 (draw 0 0 ∷ Retakes ∷ draw 1 1 ∷ []) true true 2 [] [] ∷
    []

-- One worker, or the caller alone.
abbrev pub one_worker : List HistoryCase
one_worker =
    case 1 1 [] true false 0 [] [] ∷
    case 1 1 (draw 0 0 ∷ []) true false 1 (0 ∷ []) [] ∷
    case 1 1 (draw 0 0 ∷ well 0 0 ∷ draw 0 1 ∷ Retakes ∷ []) true true 2 [] (0 ∷ []) ∷
    case 1 1 (draw 0 0 ∷ ill 0 0 ∷ []) true true 1 [] (0 ∷ []) ∷
    case 1 1 (draw 0 0 ∷ Retakes ∷ well 1 0 ∷ []) true true 1 [] (0 ∷ []) ∷
    case 1 1 (draw 1 0 ∷ well 1 0 ∷ draw 1 1 ∷ []) true true 2 [] (0 ∷ []) ∷
    case 5 1 (draw 0 0 ∷ well 0 0 ∷ draw 0 1 ∷ well 0 1 ∷ draw 0 2 ∷ well 0 2 ∷ draw 0 3 ∷ well 0 3 ∷ draw 0 4 ∷ well 0 4 ∷ draw 0 5 ∷ []) true true 6 [] (0 ∷ 1 ∷ 2 ∷ 3 ∷ 4 ∷ []) ∷
    []

-- A fault in the first group, in the middle of a run, at the end of the stage.
abbrev pub one_fault : List HistoryCase
one_fault =
    case 5 1 (draw 0 0 ∷ ill 0 0 ∷ []) true true 1 [] (0 ∷ []) ∷
    case 5 1 (draw 0 0 ∷ well 0 0 ∷ draw 0 1 ∷ well 0 1 ∷ draw 0 2 ∷ well 0 2 ∷ draw 0 3 ∷ well 0 3 ∷ draw 0 4 ∷ ill 0 4 ∷ []) true true 5 [] (0 ∷ 1 ∷ 2 ∷ 3 ∷ 4 ∷ []) ∷
    case 8 1 (draw 0 0 ∷ well 0 0 ∷ ill 0 1 ∷ []) true true 1 [] (0 ∷ 1 ∷ []) ∷
    case 8 1 (draw 0 0 ∷ well 0 0 ∷ well 0 1 ∷ draw 0 1 ∷ ill 0 2 ∷ []) true true 2 (3 ∷ []) (0 ∷ 1 ∷ 2 ∷ []) ∷
    case 8 1 (draw 0 0 ∷ well 0 0 ∷ well 0 1 ∷ draw 0 1 ∷ ill 0 2 ∷ Retakes ∷ []) true true 2 (3 ∷ []) (0 ∷ 1 ∷ 2 ∷ []) ∷
    case 8 1 (draw 0 0 ∷ well 0 0 ∷ well 0 1 ∷ draw 0 1 ∷ ill 0 2 ∷ Retakes ∷ well 1 3 ∷ []) true true 2 [] (0 ∷ 1 ∷ 2 ∷ 3 ∷ []) ∷
    []

-- Two workers: a stopped worker's group goes to the caller; two faults; a group below the fault is still left.
abbrev pub two_workers : List HistoryCase
two_workers =
    case 10 2 (draw 0 0 ∷ draw 1 1 ∷ ill 1 1 ∷ Retakes ∷ well 2 0 ∷ []) true true 2 [] (1 ∷ 0 ∷ []) ∷
    case 10 2 (draw 0 0 ∷ draw 1 1 ∷ draw 0 2 ∷ ill 1 1 ∷ draw 1 3 ∷ Retakes ∷ ill 2 0 ∷ []) true true 4 (2 ∷ 3 ∷ []) (1 ∷ 0 ∷ []) ∷
    case 10 2 (draw 0 0 ∷ draw 1 1 ∷ ill 0 0 ∷ ill 1 1 ∷ []) true true 2 [] (0 ∷ 1 ∷ []) ∷
    case 10 2 (draw 0 0 ∷ draw 1 1 ∷ ill 1 1 ∷ ill 0 0 ∷ []) true true 2 [] (1 ∷ 0 ∷ []) ∷
    case 10 2 (draw 0 0 ∷ draw 1 1 ∷ ill 1 1 ∷ []) true false 2 (0 ∷ []) (1 ∷ []) ∷
    case 10 2 (draw 0 0 ∷ draw 1 1 ∷ ill 1 1 ∷ Retakes ∷ []) true false 2 (0 ∷ []) (1 ∷ []) ∷
    case 10 2 (draw 0 0 ∷ well 0 0 ∷ []) true false 1 [] (0 ∷ []) ∷
    case 1000 2 (caller_draws 0 0 17) true false 17 (range_with_len 0 1000) [] ∷
    []

-- Four workers, with runs of six groups and a last run of four.
abbrev pub four_workers : List HistoryCase
four_workers =
    case 100 4 (caller_draws 4 0 16) true false 16 (range_with_len 0 96) [] ∷
    case 100 4 (caller_draws 4 0 17) true false 17 (range_with_len 0 100) [] ∷
    case 100 4 (draw 3 0 ∷ draw 2 1 ∷ draw 1 2 ∷ draw 0 3 ∷ well 0 18 ∷ well 1 12 ∷ well 2 6 ∷ well 3 0 ∷ []) true false 4
    (range_with_len 19 5 ++ (range_with_len 13 5 ++ (range_with_len 7 5 ++ range_with_len 1 5))) (18 ∷ 12 ∷ 6 ∷ 0 ∷ []) ∷
    case 100 4 (draw 3 0 ∷ draw 2 1 ∷ draw 1 2 ∷ draw 0 3 ∷ well 0 18 ∷ well 1 12 ∷ well 2 6 ∷ well 3 0 ∷ Retakes ∷ []) true false 4
    (range_with_len 1 5 ++ (range_with_len 7 5 ++ (range_with_len 13 5 ++ range_with_len 19 5))) (18 ∷ 12 ∷ 6 ∷ 0 ∷ []) ∷
    case 100 4 (draw 0 0 ∷ draw 1 1 ∷ well 0 0 ∷ ill 1 6 ∷ Retakes ∷ well 4 1 ∷ well 4 2 ∷ well 4 3 ∷ well 4 4 ∷ well 4 5 ∷ []) true true 2
    (range_with_len 7 5) (0 ∷ 6 ∷ 1 ∷ 2 ∷ 3 ∷ 4 ∷ 5 ∷ []) ∷
    []

-- More workers than groups, and 64 of them.
abbrev pub many_workers : List HistoryCase
many_workers =
    case 3 64 (draw 63 0 ∷ draw 0 1 ∷ draw 31 2 ∷ draw 5 3 ∷ well 0 1 ∷ well 63 0 ∷ well 31 2 ∷ Retakes ∷ []) true true 4 [] (1 ∷ 0 ∷ 2 ∷ []) ∷
    case 3 64 (draw 63 0 ∷ draw 0 1 ∷ ill 63 0 ∷ []) true true 2 (1 ∷ []) (0 ∷ []) ∷
    case 3 64 (draw 64 0 ∷ well 64 0 ∷ draw 64 1 ∷ well 64 1 ∷ draw 64 2 ∷ ill 64 2 ∷ []) true true 3 [] (0 ∷ 1 ∷ 2 ∷ []) ∷
    case 300 64 (draw 0 0 ∷ draw 64 1 ∷ []) true false 2 (0 ∷ 1 ∷ []) [] ∷
    case 600 64 (draw 20 0 ∷ draw 10 1 ∷ ill 20 0 ∷ []) true true 2 (2 ∷ 3 ∷ 1 ∷ []) (0 ∷ []) ∷
    []

-- What is not legal: a number drawn twice, a number left out, a party that is not there, a group out of its order, a hand-in behind a fault, by another party, twice, or of no drawn run, and a retaking with groups left for the caller.
abbrev pub not_legal : List HistoryCase
not_legal =
    case 10 2 (draw 0 0 ∷ draw 1 0 ∷ []) false false 2 (0 ∷ 0 ∷ []) [] ∷
    case 10 2 (draw 0 1 ∷ []) false false 1 (1 ∷ []) [] ∷
    case 10 2 (draw 3 0 ∷ []) false false 1 [] [] ∷
    case 100 4 (draw 0 0 ∷ well 0 1 ∷ []) false false 1 (range_with_len 1 5) (1 ∷ []) ∷
    case 100 4 (draw 0 0 ∷ ill 0 0 ∷ well 0 1 ∷ []) false true 1 (range_with_len 2 4) (0 ∷ 1 ∷ []) ∷
    case 10 2 (draw 0 0 ∷ well 1 0 ∷ []) false false 1 (0 ∷ []) (0 ∷ []) ∷
    case 10 2 (draw 0 0 ∷ well 0 0 ∷ well 0 0 ∷ []) false false 1 [] (0 ∷ 0 ∷ []) ∷
    case 0 8 (well 0 0 ∷ []) false true 0 [] (0 ∷ []) ∷
    case 100 4 (draw 4 0 ∷ Retakes ∷ []) false false 1 (range_with_len 0 6) [] ∷
    []

-- Every one of these histories replays to what is said of it.
pub record HistoriesReplay : Type 0 where
  pub none : map replayed no_group ≡ map shown_by no_group
  pub one : map replayed one_worker ≡ map shown_by one_worker
  pub fault : map replayed one_fault ≡ map shown_by one_fault
  pub two : map replayed two_workers ≡ map shown_by two_workers
  pub four : map replayed four_workers ≡ map shown_by four_workers
  pub many : map replayed many_workers ≡ map shown_by many_workers
  pub refused : map replayed not_legal ≡ map shown_by not_legal
