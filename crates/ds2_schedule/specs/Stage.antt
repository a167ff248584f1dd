-- The stage machine: parties draw runs of groups, hand groups in, and the caller takes over what is left.
use Rattle.std.specs.Prelude.{◌≡◌, ℕ, zero, suc, ◌+◌, ◌*◌, List, [], ◌∷◌, ◌++◌, Bool, true, false, not, ◌&&◌, ◌||◌, min, map, replicate, if◌then◌else◌, ◌==◌, nat_lt, nat_le}
use Rattle.std.specs.List.{list_any, list_all, concat, fold}
use Rattle.ds2_schedule.specs.Runs.{run_length, run_count, run_groups, times, once_below}

-- A group that a party has handed in, the number of its rows, and whether it ended in a fault.
pub record HandIn : Type 0 where
  pub party : ℕ
  pub group : ℕ
  pub rows : ℕ
  pub faulted : Bool

-- How many runs were drawn, the groups left for each party in order, and what was handed in, in order. The last party is the caller.
pub record Stage : Type 0 where
  pub drawn : ℕ
  pub left : List (List ℕ)
  pub handed : List HandIn

-- Party w draws run d; party w hands in group g; the caller takes over what the workers have left.
pub data StageStep : Type 0 where
  Draws : (w d : ℕ) → StageStep
  HandsIn : (w g rows : ℕ) → (faulted : Bool) → StageStep
  Retakes : StageStep

-- The groups left for party w; none where there is no such party.
abbrev pub left_for : ℕ → List (List ℕ) → List ℕ
left_for w [] = []
left_for zero (gs ∷ others) = gs
left_for (suc w) (gs ∷ others) = left_for w others

-- The list with f applied to its item at i.
abbrev pub changed_at : {A : Type 0} → (A → A) → List A → ℕ → List A
changed_at f [] i = []
changed_at f (x ∷ xs) zero = f x ∷ xs
changed_at f (x ∷ xs) (suc i) = x ∷ changed_at f xs i

-- Whether the first group of a list is g.
abbrev pub is_next : ℕ → List ℕ → Bool
is_next g [] = false
is_next g (h ∷ hs) = h == g

-- Whether no group is left.
abbrev pub none_left : List ℕ → Bool
none_left [] = true
none_left (g ∷ gs) = false

-- The groups behind the first one.
abbrev pub without_next : List ℕ → List ℕ
without_next [] = []
without_next (g ∷ gs) = gs

-- A number put in front of the first one that is not below it.
abbrev pub inserted : ℕ → List ℕ → List ℕ
inserted x [] = x ∷ []
inserted x (y ∷ ys) = if nat_le x y then x ∷ y ∷ ys else y ∷ inserted x ys

-- The same numbers in ascending order.
abbrev pub ascending : List ℕ → List ℕ
ascending [] = []
ascending (x ∷ xs) = inserted x (ascending xs)

-- Whether party w has handed in a fault.
abbrev pub has_faulted : ℕ → List HandIn → Bool
has_faulted w handed = list_any (λ (e : HandIn). e.party == w && e.faulted) handed

-- A step is legal: run numbers are drawn in order, by any party; a party hands in the first group left for it, and nothing after a fault; the caller takes over where nothing is left for it.
abbrev pub is_legal_step : ℕ → Stage → StageStep → Bool
is_legal_step workers s (Draws w d) = nat_le w workers && d == s.drawn
is_legal_step workers s (HandsIn w g rows faulted) = is_next g (left_for w s.left) && not (has_faulted w s.handed)
is_legal_step workers s Retakes = none_left (left_for workers s.left)

-- What a step does, where runs have l of the m groups: the groups of a run go behind those left for the party; a group handed in is no longer left; the caller has all groups that were left, in ascending order.
abbrev pub after_step : ℕ → ℕ → ℕ → Stage → StageStep → Stage
after_step m l workers s (Draws w d) = record { drawn = s.drawn + 1; left = changed_at (λ gs. gs ++ run_groups m l d) s.left w; handed = s.handed }
after_step m l workers s (HandsIn w g rows faulted) = record { drawn = s.drawn; left = changed_at without_next s.left w; handed = s.handed ++ record { party = w; group = g; rows = rows; faulted = faulted } ∷ [] }
after_step m l workers s Retakes = record { drawn = s.drawn; left = replicate workers [] ++ ascending (concat s.left) ∷ []; handed = s.handed }

-- Before the first step nothing is drawn, left or handed in.
abbrev pub opening_stage : ℕ → Stage
opening_stage workers = record { drawn = 0; left = replicate (workers + 1) []; handed = [] }

-- The stage after several steps.
abbrev pub after_steps : ℕ → ℕ → ℕ → Stage → List StageStep → Stage
after_steps m l workers s xs = fold (after_step m l workers) s xs

-- Whether each of several steps is legal where it comes.
abbrev pub are_legal : ℕ → ℕ → ℕ → Stage → List StageStep → Bool
are_legal m l workers s [] = true
are_legal m l workers s (x ∷ xs) = is_legal_step workers s x && are_legal m l workers (after_step m l workers s x) xs

-- The stage after a history over m groups.
abbrev pub replay : ℕ → ℕ → List StageStep → Stage
replay m workers xs = after_steps m (run_length m workers) workers (opening_stage workers) xs

-- A history is legal where each of its steps is.
abbrev pub is_legal : ℕ → ℕ → List StageStep → Bool
is_legal m workers xs = are_legal m (run_length m workers) workers (opening_stage workers) xs

-- Whether a fault was handed in.
abbrev pub some_fault : List HandIn → Bool
some_fault handed = list_any (λ (e : HandIn). e.faulted) handed

-- Whether a fault of a group below g was handed in.
abbrev pub fault_below : ℕ → List HandIn → Bool
fault_below g handed = list_any (λ (e : HandIn). e.faulted && nat_lt e.group g) handed

-- A stage is complete where all runs were drawn or a fault was handed in, and each group left is above a group that faulted.
abbrev pub is_complete_stage : ℕ → ℕ → Stage → Bool
is_complete_stage m l s = (nat_le (run_count m l) s.drawn || some_fault s.handed) && list_all (λ g. fault_below g s.handed) (concat s.left)

-- A history is complete where its replay is.
abbrev pub is_complete : ℕ → ℕ → List StageStep → Bool
is_complete m workers xs = is_complete_stage m (run_length m workers) (replay m workers xs)

-- The group of a hand-in.
abbrev pub group_of : HandIn → ℕ
group_of e = e.group

-- How often group g is left or handed in.
abbrev pub occurs : ℕ → Stage → ℕ
occurs g s = times g (concat s.left) + times g (map group_of s.handed)

-- The groups of the first n runs.
abbrev pub first_runs : ℕ → ℕ → ℕ → List ℕ
first_runs m l zero = []
first_runs m l (suc n) = first_runs m l n ++ run_groups m l n

-- In every replay the groups of the runs drawn are left or handed in, each exactly once; they are the groups below both m and the first run not drawn.
abbrev pub EachGroupOnce : Type 0
EachGroupOnce = (m workers : ℕ) (xs : List StageStep) → is_legal m workers xs ≡ true →
    let s = replay m workers xs in let l = run_length m workers in
    (g : ℕ) → (occurs g s ≡ times g (first_runs m l s.drawn)) × (occurs g s ≡ once_below g (min m (s.drawn * l)))
