-- How a command ends.
use Rattle.std.specs.Prelude.{ℕ}
use Rattle.ds2_answer.specs.declared.status.Status.{Status}
use Rattle.ds2_answer.specs.declared.status.Status.TheVariants.{Done, Usage, Source, File, Exists, Fault, Read, Write, Log, Object, Memory}

-- the number of a status
abbrev pub code_of : Status → ℕ
code_of Done = 0
code_of Usage = 2
code_of Source = 3
code_of File = 4
code_of Exists = 5
code_of Fault = 6
code_of Read = 7
code_of Write = 8
code_of Log = 9
code_of Object = 10
code_of Memory = 11

-- a status that an answer may have: neither a fault of the outside nor want of memory
abbrev pub IsAnswerStatus : Status → Type 0
IsAnswerStatus Done = Unit {0}
IsAnswerStatus Usage = Unit {0}
IsAnswerStatus Source = Unit {0}
IsAnswerStatus File = Unit {0}
IsAnswerStatus Exists = Unit {0}
IsAnswerStatus Fault = Unit {0}
IsAnswerStatus Read = ⊥
IsAnswerStatus Write = ⊥
IsAnswerStatus Log = ⊥
IsAnswerStatus Object = Unit {0}
IsAnswerStatus Memory = ⊥

-- a status that refuses what the command was given: its words or a file
abbrev pub IsRefusal : Status → Type 0
IsRefusal Done = ⊥
IsRefusal Usage = Unit {0}
IsRefusal Source = Unit {0}
IsRefusal File = Unit {0}
IsRefusal Exists = Unit {0}
IsRefusal Fault = ⊥
IsRefusal Read = ⊥
IsRefusal Write = ⊥
IsRefusal Log = ⊥
IsRefusal Object = Unit {0}
IsRefusal Memory = ⊥

-- the status after the log was refused: only a command that was done has another one
abbrev pub log_failed : Status → Status
log_failed Done = Log
log_failed Usage = Usage
log_failed Source = Source
log_failed File = File
log_failed Exists = Exists
log_failed Fault = Fault
log_failed Read = Read
log_failed Write = Write
log_failed Log = Log
log_failed Object = Object
log_failed Memory = Memory
