use Rattle.std.proofs.Common.{◌≡◌, ◌+◌, ◌==◌, ◌&&◌, Some, length, slice_get, refl, sym, subst, ◌∙◌}
use Rattle.std.proofs.lemmas.Option.{slice_get_read}
use Rattle.ds2_code.specs.declared.parts.StagedParts.{StagedParts}
use Rattle.ds2_code.specs.declared.parts.TableReference.{TableReference}
use Rattle.ds2_object_words.proofs.PartLemmas.{some_is}
use Rattle.ds2_object.specs.MadeTables.{AddsTables}
use Rattle.ds2_object.specs.ObjectSpelling.{makes_reference}
use Rattle.ds2_object.proofs.WalkLemmas.{links_begun, links_more}
use Rattle.ds2_object.proofs.linked.links_hold.Goals as goal

pub programs-init : goal.programs-init
programs-init c = links_begun c.args.programs.now c.new-made.result c.new-made.ensures.empty

pub programs-preserved : goal.programs-preserved
programs-preserved c =
    let programs = c.args.programs.now in
    let i = c.programs.i in
    let looked = c.index-programs-i.result in
    let added = c.index-programs-i-in-programs.result in
    let there : slice_get programs i ≡ Some looked = slice_get_read programs (length programs) i looked refl c.programs-test.true c.index-programs-i.is in
    let again : slice_get programs i ≡ Some added = slice_get_read programs (length programs) i added refl c.programs-test.true c.index-programs-i-in-programs.is in
    let adds : AddsTables c.programs.made (λ (r : TableReference). (r.maker == i + 1) && makes_reference looked.program r) c.add_program.new.made =
    subst (λ (p : StagedParts). AddsTables c.programs.made (λ (r : TableReference). (r.maker == i + 1) && makes_reference p.program r) c.add_program.new.made) (some_is added looked (sym again ∙ there))
    c.in_ok-add_program.ensures in
    links_more programs i looked c.in_ok-code_is_made.field-0 c.programs.made c.add_program.new.made there c.in_ok-code_is_made.ensures c.if-not-branch.false adds c.programs.invariant
