use Rattle.std.proofs.Common.{◌≡◌, ◌∙◌, ◌++◌, ◌-◌, ap, subst, arith, List, ℕ, IfOk, replicate}
use Rattle.ds2_base.specs.Characters.{char_count}
use Rattle.ds2_value.specs.Texts.{cut_to}
use Rattle.ds2_value.proofs.CutLemmas.{filled-is, cut-count}
use Rattle.ds2_value.proofs.texts.filled_to.Goals as goal

pub overflow_sub-n : goal.overflow_sub-n
overflow_sub-n c =
    let count = ap (λ (t : List ℕ). char_count t) c.cut_to-kept.ensures in
    let few = cut-count c.args.n c.args.s.now c.utf8.s in
    omega (arith, c.char_count.ensures, count, few)

pub returns : goal.returns
returns c =
    let same = ap (λ (k : ℕ). c.cut_to-kept.result.now ++ replicate (c.args.n - k) 32) c.char_count.ensures
    ∙ ap (λ (t : List ℕ). t ++ replicate (c.args.n - char_count t) 32) c.cut_to-kept.ensures ∙ filled-is c.args.n c.args.s.now c.utf8.s in
    subst (λ (bytes : List ℕ). IfOk c.filled.result (λ text. text ≡ bytes)) same c.filled.ensures.text
