-- What is seen of a store and a log before a call and after it.
use Rattle.std.specs.Prelude.{◌≡◌, ◌⊎◌, ℕ, List, ◌++◌, Option, Some, IsSome, IfSome}
use Rattle.ds2_outside.specs.Causes.{Rose}
use Rattle.ds2_outside.specs.Files.{Files, LeavesPart}
use Rattle.ds2_outside.specs.Written.{TakesPart}

-- what is seen of a store and a log at one moment
pub record Outside : Type 0 where
  -- the files, where the store tells them
  pub files : Option Files
  -- what the log holds, where it tells that
  pub log : Option (List ℕ)
  -- how many calls of each kind have failed
  pub read_faults : ℕ
  pub write_faults : ℕ
  pub log_faults : ℕ

-- a read has failed between two moments
abbrev pub ReadsRose : Outside → Outside → Type 0
ReadsRose before now = Rose before.read_faults now.read_faults

-- a write has failed between two moments
abbrev pub WritesRose : Outside → Outside → Type 0
WritesRose before now = Rose before.write_faults now.write_faults

-- the log has failed between two moments
abbrev pub LogRose : Outside → Outside → Type 0
LogRose before now = Rose before.log_faults now.log_faults

-- where the store told its files, they are now these
abbrev pub HoldsFiles : Files → Outside → Outside → Type 0
HoldsFiles files before now = IsSome before.files → now.files ≡ Some files

-- where the store told its files, they are now these, but that the named one may hold a first part of the bytes
abbrev pub HoldsTorn : Files → List ℕ → List ℕ → Outside → Outside → Type 0
HoldsTorn files name bytes before now = IsSome before.files → LeavesPart files name bytes now.files

-- where the log told what it held, it has gained this text
abbrev pub LogGains : List ℕ → Outside → Outside → Type 0
LogGains x before now = IfSome before.log (λ held. now.log ≡ Some (held ++ x))

-- where the log told what it held, it has gained a first part of this text
abbrev pub LogGainsPart : List ℕ → Outside → Outside → Type 0
LogGainsPart x before now = IfSome before.log (λ held. TakesPart held x now.log)

-- the log has gained this text or, where it has failed, a first part of it
abbrev pub Gained : List ℕ → Outside → Outside → Type 0
Gained x before now = LogGains x before now ⊎ (LogRose before now × LogGainsPart x before now)
