use Rattle.std.proofs.Common.{◌≡◌, ℕ, List, [], ◌∷◌, ◌++◌, Some, cond, sym, ap, subst, ◌∙◌}
use Rattle.std.specs.BTreeMap.{get, is_at}
use Rattle.ds2_program_code.specs.UsedConstants.{UsedConstant}
use Rattle.ds2_constants.specs.ConstantNumbers.{HaveConstantNumbers}
use Rattle.ds2_constants.specs.KeyOrder.{key_cmp}
use Rattle.ds2_constants.specs.declared.key.ConstantKey.{ConstantKey}
use Rattle.ds2_constants.proofs.TableLemmas.{null_stays, one_key, next_numbered, there_already, joins_next}
use Rattle.ds2_constants.proofs.table.ConstantTable.add.Goals as goal

pub returns-then-is_null : goal.returns-then-is_null
returns-then-is_null c =
    let constant : UsedConstant = record { value = c.args.value.now; ty = c.args.ty } in
    sym (null_stays c.args.self.now constant (sym c.is_null.ensures ∙ c.if-is_null.true))

pub returns-then-is_there : goal.returns-then-is_there
returns-then-is_there c =
    let constant : UsedConstant = record { value = c.args.value.now; ty = c.args.ty } in
    sym (there_already c.self.inside.keys c.self.inside.numbers c.args.self.now c.in_ok-key.key constant c.self.view_is (sym c.is_null.ensures ∙ c.if-is_null.false) c.in_ok-key.ensures c.self.invariant
    (sym c.contains_key-is_there.ensures ∙ c.if-is_there.true))

pub invariant_of-self-in-Ok : goal.invariant_of-self-in-Ok
invariant_of-self-in-Ok c =
    let x = c.in_ok-key.key in
    let m = c.self.inside.numbers in
    let put : c.push.new.self ≡ c.self.inside.keys ++ x ∷ [] = c.in_ok-push.ensures.ok ∙ ap (λ (k : ConstantKey). c.self.inside.keys ++ k ∷ []) (one_key c.in_ok-last.last x (c.in_ok-last.ensures ∙ sym c.in_ok-key.ensures)) in
    subst (λ (l : List ConstantKey). HaveConstantNumbers l c.give_number.new.numbers) (sym put)
    (next_numbered c.self.inside.keys m c.give_number.new.numbers x c.self.invariant (sym c.contains_key-is_there.ensures ∙ c.if-is_there.false)
    (λ q. c.in-Ok.ensures.updates.0 q ∙ ap (λ (k : ℕ). cond (is_at (key_cmp x) q) (Some k) (get key_cmp m q)) c.len-number.ensures))

pub returns-in-Ok : goal.returns-in-Ok
returns-in-Ok c =
    let constant : UsedConstant = record { value = c.args.value.now; ty = c.args.ty } in
    let x = c.in_ok-key.key in
    let put : c.push.new.self ≡ c.self.inside.keys ++ x ∷ [] = c.in_ok-push.ensures.ok ∙ ap (λ (k : ConstantKey). c.self.inside.keys ++ k ∷ []) (one_key c.in_ok-last.last x (c.in_ok-last.ensures ∙ sym c.in_ok-key.ensures)) in
    joins_next c.self.inside.keys c.push.new.self c.self.inside.numbers c.args.self.now x constant c.self.view_is (sym c.is_null.ensures ∙ c.if-is_null.false) c.in_ok-key.ensures c.self.invariant
    (sym c.contains_key-is_there.ensures ∙ c.if-is_there.false) put
