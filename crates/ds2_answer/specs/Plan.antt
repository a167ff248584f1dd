-- A plan: what a command says in its log and asks of the store, in order, and the status with which it stops.
use Rattle.std.specs.Prelude.{ℕ, List, [], ◌∷◌}
use Rattle.ds2_answer.specs.declared.status.Status.{Status}

-- it stops with a status; or it says a line, reads a file, asks whether a file is there, or writes a file, and the rest follows
pub data Plan : Type 0 where
  Stops : (status : Status) → Plan
  Logs : (line : List ℕ) (rest : Plan) → Plan
  ReadsFile : (name : List ℕ) (rest : Plan) → Plan
  AsksFor : (name : List ℕ) (rest : Plan) → Plan
  WritesFile : (name bytes : List ℕ) (rest : Plan) → Plan

-- each of these does its part of a plan, in order, and then comes the rest
abbrev pub each_in_turn : {T : Type 0} → (T → Plan → Plan) → List T → Plan → Plan
each_in_turn part [] rest = rest
each_in_turn part (x ∷ xs) rest = part x (each_in_turn part xs rest)
