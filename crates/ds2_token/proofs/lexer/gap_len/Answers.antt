use Rattle.std.proofs.Common.{◌≡◌, ◌<◌, ◌≤◌, length, take, drop, sym, ap, ◌∙◌, arith}
use Rattle.std.proofs.lemmas.List.{length-drop, drop-drop}
use Rattle.ds2_token.specs.Scan.{piece_size}
use Rattle.ds2_token.proofs.Pieces.{gap_grows, gap_ends, gap_stops}
use Rattle.ds2_token.proofs.LexerSteps.{gap_edge}
use Rattle.ds2_token.proofs.lexer.gap_len.Goals as goal

pub loop-size-preserved : goal.loop-size-preserved
loop-size-preserved c =
    let i = c.loop-size.invariant in
    let found : c.loop-size.size ≡ piece_size (drop c.loop-size.passed c.args.text.now) = i.size ∙ ap piece_size i.rest in
    let some : 0 < c.loop-size.size = omega arith in
    let within : c.loop-size.size ≤ length (drop c.loop-size.passed c.args.text.now) = omega (arith, i.within, ap length i.rest) in
    record {
      size = c.piece_size-size-in-loop-size.ensures.value;
      within = c.piece_size-size-in-loop-size.ensures.within;
      rest = c.split_at.ensures.back ∙ ap (drop c.loop-size.size) i.rest ∙ drop-drop c.loop-size.size c.loop-size.passed c.args.text.now;
      fits = omega (arith, length-drop c.loop-size.passed c.args.text.now);
      gap = gap_grows c.args.text.now c.loop-size.passed c.loop-size.size i.gap found some;
      ends = λ h. gap_ends c.args.text.now c.loop-size.passed c.loop-size.size found some within;
    }

pub returns-clause-gap : goal.returns-clause-gap
returns-clause-gap c =
    let i = c.loop-size.invariant in
    let none : piece_size (drop c.loop-size.passed c.args.text.now) ≡ 0 = ap piece_size (sym i.rest) ∙ sym i.size ∙ omega arith in
    gap_stops (take c.loop-size.passed c.args.text.now) (drop c.loop-size.passed c.args.text.now) i.gap none

pub returns-clause-edge : goal.returns-clause-edge
returns-clause-edge c =
    let i = c.loop-size.invariant in
    gap_edge c.args.text.now c.loop-size.passed c.requires i.fits i.ends
