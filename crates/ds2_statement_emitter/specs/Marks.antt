-- Targets of jumps that are not known yet, and the targets that they get.
use Rattle.std.specs.Prelude.{ℕ, suc, zero, nat_eq, true, false, if◌then◌else◌, List, [], ◌∷◌, map}
use Rattle.ds2_code.specs.declared.instr.Instr.{Instr}
use Rattle.ds2_code.specs.declared.instr.Instr.TheVariants as instr
use Rattle.ds2_gen.specs.CodePieces.{ExitPoints, ReturnWay, JumpsToEnd, HandsBack}
use Rattle.ds2_emitter.specs.declared.returning.Returning.{Returning}
use Rattle.ds2_emitter.specs.declared.returning.Returning.TheVariants.{ToEnd, WithResult, WithoutResult}
use Rattle.ds2_statement_emitter.specs.declared.aims.Aims.{Aims}

-- the mark that stands for the instruction behind the innermost loop until it is known; targets lie below all marks
abbrev pub leave_mark : ℕ
leave_mark = 4294967295

-- that for the next round of the innermost loop
abbrev pub continue_mark : ℕ
continue_mark = 4294967294

-- that for the end of the body
abbrev pub return_mark : ℕ
return_mark = 4294967293

-- that for the end of a chain of parts
abbrev pub end_mark : ℕ
end_mark = 4294967292

-- that for the statement of a `when`
abbrev pub body_mark : ℕ
body_mark = 4294967291

-- how a body is returned from, by its mark
abbrev pub marked_way : Returning → ReturnWay
marked_way ToEnd = JumpsToEnd return_mark
marked_way WithResult = HandsBack true
marked_way WithoutResult = HandsBack false

-- where the statements of a body go on, by marks
abbrev pub marked_exits : Returning → ExitPoints
marked_exits way = record { leave = leave_mark; continue = continue_mark; return = marked_way way }

-- a mark gets its target; a number that is no mark stays
abbrev pub aim : Aims → ℕ → ℕ
aim a t =
    if nat_eq t leave_mark then a.leave
    else (if nat_eq t continue_mark then a.continue_to
    else (if nat_eq t return_mark then a.return_to else (if nat_eq t end_mark then a.end else (if nat_eq t body_mark then a.body else t))))

-- an instruction whose target is changed, where it has one
abbrev pub moved : (ℕ → ℕ) → Instr → Instr
moved f (instr.Jump t) = instr.Jump (f t)
moved f (instr.JFalse t) = instr.JFalse (f t)
moved f (instr.JTrue t) = instr.JTrue (f t)
moved f i = i

-- from this number on the marks in code get their targets
unfoldable pub redirected : ℕ → Aims → List Instr → List Instr
redirected zero a code = map (moved (aim a)) code
redirected (suc n) a [] = []
redirected (suc n) a (i ∷ code) = i ∷ redirected n a code

-- targets for jumps to the end of a chain of parts
abbrev pub end_aims : ℕ → Aims
end_aims end = record { leave = leave_mark; continue_to = continue_mark; return_to = return_mark; end = end; body = body_mark }

-- targets for jumps out of a loop and to its next round
abbrev pub loop_aims : ℕ → ℕ → Aims
loop_aims leave next = record { leave = leave; continue_to = next; return_to = return_mark; end = end_mark; body = body_mark }

-- targets for jumps to the statement of a `when`
abbrev pub when_aims : ℕ → Aims
when_aims body = record { leave = leave_mark; continue_to = continue_mark; return_to = return_mark; end = end_mark; body = body }

-- targets for jumps to the end of a body
abbrev pub body_aims : ℕ → Aims
body_aims end = record { leave = end; continue_to = end; return_to = end; end = end_mark; body = body_mark }
