-- What a contract sees of a log in memory, and what a write leaves of it.
use Rattle.std.specs.Prelude.{ℕ, Bool, List, ◌++◌, Result, Ok, Err}
use Rattle.ds2_outside.specs.Calls.{next_call, is_to_fail}
use Rattle.ds2_outside.specs.declared.store.WriteStop.{WriteStop}
use Rattle.ds2_outside.specs.declared.store.WriteStop.TheVariants.{Failed, OutOfMemory}

-- a log in memory: what it has taken, and its counts of calls and faults
pub record LogView : Type 0 where
  -- all that was taken
  pub written : List ℕ
  -- how many calls were made
  pub calls : ℕ
  -- the numbers of the calls that fail
  pub failing : List ℕ
  -- how many have failed
  pub faults : ℕ

-- whether the next call is to fail
abbrev pub log_fails : LogView → Bool
log_fails log = is_to_fail log.calls log.failing

-- the log after a write with this answer: all bytes, or nothing but the counts
abbrev pub after_log_write : LogView → List ℕ → Result (Unit {0}) WriteStop → LogView
after_log_write log bytes (Ok x) = record log { written = log.written ++ bytes; calls = next_call log.calls }
after_log_write log bytes (Err Failed) = record log { calls = next_call log.calls; faults = next_call log.faults }
after_log_write log bytes (Err OutOfMemory) = record log { calls = next_call log.calls }
