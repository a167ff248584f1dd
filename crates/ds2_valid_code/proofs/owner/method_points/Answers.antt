use Rattle.std.proofs.Common.{◌≡◌, ◌+◌, Bool, ◌++◌, Some, None, take, drop, sym, ap, ◌∙◌, arith}
use Rattle.std.specs.Prelude.{if◌then◌else◌}
use Rattle.ds2_code.specs.declared.parts.MethodPart.{MethodPart}
use Rattle.ds2_code.specs.OperandTypes.{signature_of}
use Rattle.ds2_valid_code.specs.declared.owner.CodeOwner.TheVariants.{Method as MethodCode}
use Rattle.ds2_valid_code.specs.CodeScan.{first_where, method_points}
use Rattle.ds2_valid_code.specs.SignatureCodes.{signature_code, same_code, found_or}
use Rattle.ds2_valid_code.proofs.OwnerLemmas.{where_more, owner_found, points_grow}
use Rattle.ds2_valid_code.proofs.owner.method_points.Goals as goal

pub methods-preserved : goal.methods-preserved
methods-preserved c =
    let methods = c.args.methods.now in
    let i = c.methods.method-index in
    let m = c.method-item.result in
    let signature = c.into_vec-signature.result.items in
    let spelled : signature ≡ signature_code (signature_of m) = c.into_vec-signature.ensures ∙ c.in_ok-signature_code.ensures in (
      omega (arith, c.methods.invariant.0),
      λ other.
          let test : MethodPart → Bool = λ x. same_code (signature_code (signature_of x)) other.items in
          c.in_ok-number.ensures.numbers other
          ∙ ap (λ o. found_or o (if same_code signature other.items then Some c.methods.next else None)) (c.methods.invariant.1 other)
          ∙ ap (λ z. found_or (first_where test (take i methods)) (if same_code z other.items then Some c.methods.next else None)) spelled
          ∙ ap (λ n. found_or (first_where test (take i methods)) (if test m then Some n else None)) c.methods.invariant.0
          ∙ sym (where_more test methods i m c.methods-test.true c.method-item.is),
      ap (λ z. z ++ method_points methods (drop (i + 1) methods)) c.in_ok-push.ensures.items
          ∙ points_grow methods methods c.methods.points.items i m (MethodCode c.in_ok-number.number) c.methods-test.true c.method-item.is
          (owner_found methods i c.in_ok-number.number m c.methods-test.true c.method-item.is
          (c.in_ok-number.ensures.number
          ∙ ap (λ o. found_or o (Some c.methods.next)) (c.methods.invariant.1 c.into_vec-signature.result)
          ∙ ap (λ z. found_or (first_where (λ (x : MethodPart). same_code (signature_code (signature_of x)) z) (take i methods)) (Some c.methods.next)) spelled
          ∙ ap (λ n. found_or (first_where (λ (x : MethodPart). same_code (signature_code (signature_of x)) (signature_code (signature_of m))) (take i methods)) (Some n)) c.methods.invariant.0))
          ∙ c.methods.invariant.2,
    )
