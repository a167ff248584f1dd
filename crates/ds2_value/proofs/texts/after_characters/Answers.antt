use Rattle.std.proofs.Common.{◌≡◌, ◌∙◌, ap, refl, sym, arith, drop}
use Rattle.std.specs.Str.{chars, encode_utf8_all}
use Rattle.std.specs.Str.Iter.{chars_rest}
use Rattle.std.proofs.lemmas.Str.{encodes-chars}
use Rattle.ds2_value.proofs.ByteLemmas.{after-ascii}
use Rattle.ds2_value.proofs.CutLemmas.{drop-one}
use Rattle.ds2_value.proofs.TextLemmas.{utf8-after, chars-after}
use Rattle.ds2_value.proofs.texts.after_characters.Goals as goal

pub returns-then-is_ascii : goal.returns-then-is_ascii
returns-then-is_ascii c = c.split_at.ensures.back ∙ rw c.min.ensures (after-ascii c.args.n c.args.s.now c.if-is_ascii.ensures.cases)

pub loop-i-preserved : goal.loop-i-preserved
loop-i-preserved c =
    let u = c.loop-i.invariant.0 in (
      utf8-after c.loop-i.rest c.next.new.self c.next.result u c.next.ensures.steps,
      chars-after c.loop-i.rest c.next.new.self c.next.result u c.next.ensures.steps ∙ ap (drop 1) c.loop-i.invariant.1 ∙ drop-one c.loop-i.i (chars c.args.s.now),
    )

pub returns : goal.returns
returns c =
    let end : c.loop-i.i ≡ c.args.n = omega arith in
    c.as_str.ensures ∙ sym (encodes-chars (chars_rest c.loop-i.rest) c.loop-i.invariant.0) ∙ ap encode_utf8_all c.loop-i.invariant.1 ∙ rw end refl
