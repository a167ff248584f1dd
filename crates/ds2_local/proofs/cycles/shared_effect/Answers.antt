use Rattle.std.proofs.Common.{◌≡◌, ◌-◌, suc, Some, length, refl, sym, subst, ◌∙◌, arith}
use Rattle.std.specs.Prelude.{slice_get}
use Rattle.std.proofs.lemmas.Option.{slice_get_read}
use Rattle.std.proofs.lemmas.Result.{IfOk-weaker}
use Rattle.ds2_local.specs.CallParts.{TellsCycle}
use Rattle.ds2_local.proofs.ReachLemmas.{joined_tells}
use Rattle.ds2_local.proofs.cycles.shared_effect.Goals as goal

pub returns-in-Some : goal.returns-in-Some
returns-in-Some c = λ count all within tell joined.
    let mark = c.number_at-mark.result in
    let heads = c.args.known.now.heads.now in
    let effect = c.in-Some.effect.now in
    let lookup = c.in-Some.ensures.lookup in
    let is : mark ≡ suc (mark - 1) = omega (arith, c.if-mark-eq0.false) in
    let own = tell.each (mark - 1) effect (slice_get_read heads (length heads) (mark - 1) effect refl lookup.3.0 lookup.1) in
    IfOk-weaker c.copy_found.result (λ copy. copy ≡ effect) (λ copy. TellsCycle count all c.args.number copy)
    (λ copy same. subst (λ o. TellsCycle count all c.args.number o) (sym same) (joined_tells count all c.args.number (mark - 1) effect within (joined.each within c.args.number (mark - 1) (sym c.number_at-mark.ensures ∙ is)) own))
    c.copy_found.ensures
