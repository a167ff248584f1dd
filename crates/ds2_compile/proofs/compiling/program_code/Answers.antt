use Rattle.std.proofs.Common.{Option, subst}
use Rattle.std.specs.Option.{SomeIff}
use Rattle.ds2_meaning.specs.View.{typed_data_program}
use Rattle.ds2_code.specs.ValidCode.{IsValidStaged}
use Rattle.ds2_code.specs.declared.parts.StagedParts.{StagedParts}
use Rattle.ds2_generate.specs.Generated.{code_with_stages}
use Rattle.ds2_compile.proofs.StagedCodes.{made_is, made_is_valid}
use Rattle.ds2_compile.proofs.compiling.program_code.Goals as goal

pub returns-in-Some-clause-code : goal.returns-in-Some-clause-code
returns-in-Some-clause-code c =
    let t = typed_data_program c.args.program.now in
    made_is t c.in-Some.code
    (subst (λ (o : Option StagedParts). SomeIff o (IsValidStaged (code_with_stages t)) (code_with_stages t)) c.in-Some.is c.in_ok-code.ensures.code)

pub returns-in-Some-clause-valid : goal.returns-in-Some-clause-valid
returns-in-Some-clause-valid c =
    let t = typed_data_program c.args.program.now in
    made_is_valid t c.in-Some.code
    (subst (λ (o : Option StagedParts). SomeIff o (IsValidStaged (code_with_stages t)) (code_with_stages t)) c.in-Some.is c.in_ok-code.ensures.code)
