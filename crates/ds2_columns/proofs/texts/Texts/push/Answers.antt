use Rattle.std.proofs.Common.{◌∙◌, ◌+◌, ◌++◌, ◌∷◌, [], ℕ, List, ap, length, arith}
use Rattle.std.proofs.lemmas.Str.{is_utf8-from_IsUtf8}
use Rattle.ds2_base.specs.Bytes.{Bytes}
use Rattle.ds2_columns.proofs.TextRuns.{grown, grown_is}
use Rattle.ds2_columns.proofs.texts.Texts.push.Goals as goal

pub invariant_of-self-in-Ok : goal.invariant_of-self-in-Ok
invariant_of-self-in-Ok c =
    grown c.self.inside.ends c.push.new.self c.self.inside.bytes c.append.new.self c.args.text.now (c.len-from.result + length c.args.text.now)
    c.self.invariant (is_utf8-from_IsUtf8 c.args.text.now c.utf8.text) (ap (λ (n : ℕ). n + length c.args.text.now) c.len-from.ensures)
    (omega (arith, c.if-text-from.false)) c.in-Ok.ensures.ok (c.in_ok-append.ensures.ok ∙ ap (λ (bs : Bytes). c.self.inside.bytes ++ bs) c.as_bytes.ensures.value)

pub returns-in-Ok-clause-ok : goal.returns-in-Ok-clause-ok
returns-in-Ok-clause-ok c =
    grown_is c.self.inside.ends c.push.new.self c.self.inside.bytes c.append.new.self c.args.text.now (c.len-from.result + length c.args.text.now)
    c.self.invariant (ap (λ (n : ℕ). n + length c.args.text.now) c.len-from.ensures)
    c.in-Ok.ensures.ok (c.in_ok-append.ensures.ok ∙ ap (λ (bs : Bytes). c.self.inside.bytes ++ bs) c.as_bytes.ensures.value)
    ∙ ap (λ (texts : List Bytes). texts ++ c.args.text.now ∷ []) c.self.view_is
