-- What a call leaves that does a plan, or a part of one.
use Rattle.std.specs.Prelude.{◌≡◌, ℕ, List, ◌++◌, Option, Result, Ok, Err}
use Rattle.ds2_outside.specs.Causes.{HasCause}
use Rattle.ds2_outside.specs.Files.{Files}
use Rattle.ds2_store_steps.specs.declared.halt.Halt.{Halt}
use Rattle.ds2_store_steps.specs.declared.halt.Halt.TheVariants.{Ended, OutOfMemory}
use Rattle.ds2_store_steps.specs.declared.session.Session.{Session}
use Rattle.ds2_answer.specs.declared.status.Status.{Status}
use Rattle.ds2_answer.specs.declared.status.Status.TheVariants.{Done, Read, Write}
use Rattle.ds2_store_steps.specs.PlanOutcomes.{CameOfPlan, CutShort}
use Rattle.ds2_answer.specs.Plan.{Plan, Stops}

-- whatever comes of the rest is what comes of the whole
pub record LeadsOn (whole rest : Plan) (said : List ℕ) (told : Option Files) (log : List ℕ) (next : Option Files) : Type 0 where
  pub ends : (status : Status) (text : List ℕ) (now : Option Files) → CameOfPlan rest log next status text now → CameOfPlan whole said told status text now
  pub short : (now : Option Files) → CutShort rest next now → CutShort whole told now

-- the command was ended with this status after this line, or there was no memory for the line
abbrev pub StopsAs : Status → List ℕ → List ℕ → Halt → List ℕ → Type 0
StopsAs status line said (Ended ended) log = (ended ≡ status) × (log ≡ said ++ line)
StopsAs status line said OutOfMemory log = Unit {0}

-- what a call leaves that halts in a plan
abbrev pub HaltsPlan : Plan → List ℕ → Option Files → Halt → List ℕ → Option Files → Type 0
HaltsPlan whole said told (Ended status) log now = CameOfPlan whole said told status log now
HaltsPlan whole said told OutOfMemory log now = CutShort whole told now

-- what a call leaves that does a plan up to the rest that its value asks for, or halts in it
abbrev pub Follows : {T : Type 0} → Plan → (T → Plan) → List ℕ → Option Files → Result T Halt → List ℕ → Option Files → Type 0
Follows whole rest said told (Ok value) log now = LeadsOn whole (rest value) said told log now
Follows whole rest said told (Err halt) log now = HaltsPlan whole said told halt log now

-- what a call leaves that does a plan whole, or halts in it
abbrev pub FollowsAll : Plan → List ℕ → Option Files → Result (Unit {0}) Halt → List ℕ → Option Files → Type 0
FollowsAll whole said told result log now = Follows whole (λ _. Stops Done) said told result log now

-- a call has ended the command with this status
abbrev pub HaltsAs : {T : Type 0} → Status → Result T Halt → Type 0
HaltsAs status (Ok value) = ⊥
HaltsAs status (Err (Ended ended)) = ended ≡ status
HaltsAs status (Err OutOfMemory) = ⊥

-- a count of faults never falls, and has risen where a call has ended the command with the status of such a fault
abbrev pub CausedBy : {T : Type 0} → Status → Result T Halt → ℕ → ℕ → Type 0
CausedBy status result before now = HasCause before now (HaltsAs status result)

-- a call holds the store of its session, and where it has ended the command with Read or Write, a count of faults of that store has risen
pub record CausedByStore {S T : Type 0} (reads writes : S → ℕ) (before : Session S) (result : Result T Halt) (now : Session S) : Type 0 where
  pub same_store : now.store.ghost_name ≡ before.store.ghost_name
  pub read : CausedBy Read result (reads before.store.now) (reads now.store.now)
  pub write : CausedBy Write result (writes before.store.now) (writes now.store.now)

-- what a call leaves in a session: this, of its text for the log and of the files that its store tells
abbrev pub InSession : {S T : Type 0} → (files : S → Option Files) → (Leaves : List ℕ → Option Files → Result T Halt → List ℕ → Option Files → Type 0) → Session S → Result T Halt → Session S → Type 0
InSession files Leaves before result now = Leaves before.log (files before.store.now) result now.log (files now.store.now)
