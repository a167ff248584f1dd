use Rattle.std.proofs.Common.{sym, ◌∙◌, arith, refl}
use Rattle.ds2_csv.proofs.BlankLemmas.{end-falls, end-found, blank-ascii}
use Rattle.ds2_csv.proofs.blanks.text_end.Goals as goal

pub returns-then-not-is_blank-clause-text : goal.returns-then-not-is_blank-clause-text
returns-then-not-is_blank-clause-text c =
    end-found c.args.bytes.now _ c.bytes.end _ c.bytes-test.true c.bytes.invariant.within refl (sym c.is_blank.ensures ∙ c.if-not-is_blank.true) c.bytes.invariant.text

pub bytes-preserved : goal.bytes-preserved
bytes-preserved c =
    let blank = sym c.is_blank.ensures ∙ c.if-not-is_blank.false in
    record {
      text = end-falls c.args.bytes.now _ c.bytes.end _ c.bytes-test.true c.bytes.invariant.within refl blank c.bytes.invariant.text;
      within = let w = c.bytes.invariant.within in omega arith;
      blank = λ h. blank-ascii _ blank;
    }
