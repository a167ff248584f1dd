use Rattle.std.proofs.Common.{◌≡◌, ◌+◌, ◌<◌, ◌∷◌, List, drop, length, map, sym, ap, subst, ◌∙◌, arith}
use Rattle.std.specs.List.{AllByRecursion}
use Rattle.std.proofs.lemmas.List.{drop_more}
use Rattle.ds2_code.specs.ValidCode.{IsValidStaged}
use Rattle.ds2_code.specs.declared.parts.StagedParts.{StagedParts}
use Rattle.ds2_compile.proofs.StagedCodes.{code_of_typed, code_pushed, valid_pushed}
use Rattle.ds2_compile.proofs.compiling.program_codes.Goals as goal

pub programs-preserved : goal.programs-preserved
programs-preserved c =
    let all = c.args.programs.now in
    let i = c.programs.program-index in
    let d = c.program-item.result in
    let inside : i < length all = omega (arith, c.programs-test.true) in
    let first : drop i all ≡ d ∷ drop (i + 1) all = drop_more all i d inside ∙ ap (λ x. x ∷ drop (i + 1) all) (sym c.program-item.is) in (
      code_pushed c.programs.codes c.push.new.self c.in_ok-program_code.field-0 d (drop i all) (drop (i + 1) all) (map code_of_typed all)
          first c.in_ok-push.ensures.ok c.in_ok-program_code.ensures.code c.programs.invariant.0,
      subst (λ (codes : List StagedParts). AllByRecursion IsValidStaged codes) (sym c.in_ok-push.ensures.ok)
          (valid_pushed c.programs.codes c.in_ok-program_code.field-0 c.programs.invariant.1 c.in_ok-program_code.ensures.valid),
    )
