use Rattle.std.proofs.Common.{◌≡◌, List, subst, ◌∙◌}
use Rattle.ds2_code.specs.declared.parts.StagedParts.{StagedParts}
use Rattle.ds2_object.specs.ObjectSpelling.{IsSpellingOf}
use Rattle.ds2_object.proofs.ObjectSteps.{object_written}
use Rattle.ds2_object.proofs.encoding.encode.Goals as goal

pub returns : goal.returns
returns c =
    let same : c.as_slice-programs.result.now ≡ c.args.object.now = c.as_slice-programs.ensures ∙ c.programs.ensures.value in
    subst (λ (programs : List StagedParts). IsSpellingOf c.write_programs.new.out programs) same
    (object_written c.in_ok-out.out c.write.new.out c.write-2.new.out c.write_programs.new.out c.as_slice-programs.result.now c.in_ok-out.ensures c.in_ok-write.ensures
    c.in_ok-write-2.ensures c.in_ok-write_programs.ensures)
