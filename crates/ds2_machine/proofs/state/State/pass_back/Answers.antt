use Rattle.std.proofs.Common.{◌≡◌, sym, ap, ◌∙◌, drop, List}
use Rattle.std.proofs.lemmas.Option.{slice_get_past}
use Rattle.std.specs.Prelude.{slice_get, Option, Some, None}
use Rattle.ds2_value.specs.declared.value.Value.{Value}
use Rattle.ds2_machine.proofs.CallLemmas.{passed_end}
use Rattle.ds2_machine.proofs.state.State.pass_back.Goals as goal

pub returns-in_default-clause-stack : goal.returns-in_default-clause-stack
returns-in_default-clause-stack c =
    let none : slice_get c.loop-number.self.locals.own c.loop-number.number ≡ None =
    ap (λ (l : List Value). slice_get l c.loop-number.number) (sym c.own.ensures.value) ∙ slice_get_past c.own.result.now c.loop-number.number c.in_default.ensures.lookup.3 in
    sym (passed_end c.args.parameters.now c.loop-number.self.locals.own c.loop-number.self.operands.stack c.loop-number.number none) ∙ c.loop-number.invariant.stack
