use Rattle.std.proofs.Common.{◌++◌, ◌∙◌, ℕ, List, ap}
use Rattle.std.proofs.lemmas.Bool.{eq-eqb, ne_eqb}
use Rattle.ds2_answer.specs.CountLines.{kept_behind, line_kept}
use Rattle.ds2_answer.proofs.TextLines.{goes_on, line_ends}
use Rattle.ds2_answer.proofs.counts.with_byte.Goals as goal

pub returns-then-byte-ne10 : goal.returns-then-byte-ne10
returns-then-byte-ne10 c = λ rest. goes_on c.args.line c.args.byte c.push.new.self rest c.args.log.now (ne_eqb c.args.byte 10 c.if-byte-ne10.true) c.in_ok-push.ensures.ok

pub returns : goal.returns
returns c = λ rest.
    ap (λ (next : List ℕ). c.say_unless_count.new.log ++ kept_behind next rest) c.new.ensures
    ∙ line_ends c.args.line c.args.byte c.push.new.self rest c.args.log.now c.say_unless_count.new.log (eq-eqb c.args.byte 10 c.if-byte-ne10.false) c.in_ok-push.ensures.ok
    (c.in_ok-say_unless_count.ensures ∙ ap (λ (line : List ℕ). c.args.log.now ++ line_kept line) c.as_slice.ensures)
