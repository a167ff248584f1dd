use Rattle.std.proofs.Common.{Bool, if◌then◌else◌, sym, ◌∙◌, subst}
use Rattle.ds2_elaboration.specs.ExpressionTypes.{elaborated_flag, member_of_object, object_in_scope}
use Rattle.ds2_names.specs.SourceUnit.{spelled_name}
use Rattle.ds2_types.specs.Judgements.{Judges}
use Rattle.ds2_reference_types.proofs.variables.member_value.Goals as goal

pub returns-then-is_flag : goal.returns-then-is_flag
returns-then-is_flag c = λ types s.
    let object = c.args.object.now in
    let member = c.args.member.now in
    subst (λ (b : Bool). Judges (if b then elaborated_flag types object member else member_of_object object member (object_in_scope types (spelled_name object))) c.flag.result)
    (sym c.if-is_flag.true ∙ c.is_flag_word-is_flag.ensures) (c.flag.ensures types s)

pub returns-else-is_flag : goal.returns-else-is_flag
returns-else-is_flag c = λ types s.
    let object = c.args.object.now in
    let member = c.args.member.now in
    subst (λ (b : Bool). Judges (if b then elaborated_flag types object member else member_of_object object member (object_in_scope types (spelled_name object))) c.object_member.result)
    (sym c.if-is_flag.false ∙ c.is_flag_word-is_flag.ensures) (c.object_member.ensures types s)
