-- The object file that a command runs.
use Rattle.std.specs.Prelude.{◌≡◌, ◌⊎◌, ℕ, List, codes, Option, Some, None}
use Rattle.ds2_outside.specs.Files.{Files}
use Rattle.ds2_answer.specs.declared.command_line.CommandLine.{CommandLine}
use Rattle.ds2_answer.specs.declared.command_line.CommandLine.TheVariants.{Run, Compile, Exec, Check, Demo}
use Rattle.ds2_answer.specs.declared.status.Status.{Status}
use Rattle.ds2_answer.specs.declared.status.Status.TheVariants as ended
use Rattle.ds2_answer.specs.Lines.{fault_line, memory_line}
use Rattle.ds2_answer.specs.ObjectPlans.{ObjectReading}
use Rattle.ds2_commands.specs.ObjectRuns.{DecodesFile}
use Rattle.ds2_top.specs.Outside.{Outside, Gained, HoldsFiles, LogGainsPart, ReadsRose}

-- the read of the named file has failed, for a cause, and its line is all that the log has gained: the whole line or, where the log failed or
-- there was no memory to write it, a first part
abbrev pub EndsInFileRead : (name : List ℕ) → Outside → Outside → Status → Type 0
EndsInFileRead name before now ended.Read = ReadsRose before now × Gained (fault_line (codes "Read") name) before now
EndsInFileRead name before now ended.Memory = ReadsRose before now × LogGainsPart (fault_line (codes "Read") name) before now
EndsInFileRead name before now _ = ⊥

-- a command has ended before it decoded the named file, and each file is as it was: its read has failed, or there was no memory, and the log has
-- gained a first part of the line on that alone
abbrev pub EndsBeforeDecoding : (name : List ℕ) → Files → Outside → Outside → Status → Type 0
EndsBeforeDecoding name files before now status =
    HoldsFiles files before now × (EndsInFileRead name before now status ⊎ ((status ≡ ended.Memory) × LogGainsPart memory_line before now))

-- what a line of words decodes: `exec` its object file, and the other commands none
abbrev pub DecodesObject : ObjectReading → Option CommandLine → Files → Outside → Outside → Status → Type 0
DecodesObject object_for None files before now status = Unit {0}
DecodesObject object_for (Some (Run source threads budget)) files before now status = Unit {0}
DecodesObject object_for (Some (Compile source)) files before now status = Unit {0}
DecodesObject object_for (Some (Exec name budget)) files before now status = DecodesFile object_for name files ⊎ EndsBeforeDecoding name files before now status
DecodesObject object_for (Some (Check source)) files before now status = Unit {0}
DecodesObject object_for (Some (Demo n)) files before now status = Unit {0}
