use Rattle.std.proofs.Common.{◌≡◌, ◌∙◌, ℕ, List, sym, ap, subst, take, arith}
use Rattle.std.proofs.lemmas.List.{take_all}
use Rattle.ds2_base.specs.Bytes.{Bytes}
use Rattle.ds2_columns.specs.Texts.{texts_end, texts_between}
use Rattle.ds2_columns.proofs.TextRuns.{cut, cut_is, as_many_texts}
use Rattle.ds2_columns.proofs.texts.Texts.truncate.Goals as goal

pub invariant_of-self : goal.invariant_of-self
invariant_of-self c =
    cut c.self.inside.ends c.truncate-then-count-len.new.self c.self.inside.bytes c.truncate.new.self c.args.count c.texts_end.result c.self.invariant
    (omega (arith, c.if-count-len.true, c.len.ensures)) (c.texts_end.ensures ∙ ap (λ (es : List ℕ). texts_end 0 es c.args.count) c.as_slice.ensures) c.truncate-then-count-len.ensures c.truncate.ensures

pub returns-then-count-len : goal.returns-then-count-len
returns-then-count-len c =
    cut_is c.self.inside.ends c.truncate-then-count-len.new.self c.self.inside.bytes c.truncate.new.self c.args.count c.texts_end.result c.self.invariant
    (omega (arith, c.if-count-len.true, c.len.ensures)) (c.texts_end.ensures ∙ ap (λ (es : List ℕ). texts_end 0 es c.args.count) c.as_slice.ensures) c.truncate-then-count-len.ensures c.truncate.ensures
    ∙ ap (λ (texts : List Bytes). take c.args.count texts) c.self.view_is

pub returns-else-count-len : goal.returns-else-count-len
returns-else-count-len c =
    let P : List Bytes → Type 0 = λ texts. texts ≡ take c.args.count texts in
    subst P c.self.view_is
    (sym (take_all c.args.count (texts_between 0 c.self.inside.ends c.self.inside.bytes)
    (omega (arith, as_many_texts 0 c.self.inside.ends c.self.inside.bytes, c.if-count-len.false, c.len.ensures))))
