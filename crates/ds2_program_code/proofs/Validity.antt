-- The code of a typed program within limits is valid.
use Rattle.std.proofs.Common.{◌≤◌, true, [], is_some, refl, arith}
use Rattle.std.proofs.lemmas.Bool.{and_from}
use Rattle.ds2_code.specs.OperandTypes.{parameter_slot_types}
use Rattle.ds2_program_code.specs.LayoutsFit.{TypedLayoutsFit}
use Rattle.ds2_program_code.specs.ProgramCode.{program_code}
use Rattle.ds2_program_code.specs.TypedCode.{TypedCodeHasTypes}
use Rattle.ds2_program_code.specs.ValidParts.{TypedProgramsHaveValidParts}
use Rattle.ds2_program_code.specs.ValidProgram.{TypedValuesAreAllowed, TypedCodeIsValid, TypedStagesAreValid}
use Rattle.ds2_program_code.proofs.StageParameters.{stage_parameters_fit, tables_parameters_fit}

pub typed_code_is_valid : TypedCodeHasTypes → TypedProgramsHaveValidParts → TypedValuesAreAllowed → TypedLayoutsFit → TypedCodeIsValid
typed_code_is_valid types parts allowed layouts = record {
  over_tables = λ p typed none limits.
      let valid = parts p typed in
      record {
        types = types p [] typed limits.code (tables_parameters_fit p none limits.instances);
        ranges = valid.ranges;
        lists = limits.lists;
        values = allowed p typed limits.code limits.values;
        outputs = valid.outputs;
        steps = valid.steps;
        layout = layouts.over_tables p typed none;
      };
  over_stage = λ p stage typed stage_typed fits limits.
      let valid = parts p typed in
      record {
        types = types p (parameter_slot_types (program_code stage)) typed limits.code (stage_parameters_fit p stage stage_typed fits);
        ranges = valid.ranges;
        lists = limits.lists;
        values = allowed p typed limits.code limits.values;
        outputs = valid.outputs;
        steps = valid.steps;
        layout = layouts.over_stage p stage typed stage_typed fits;
      };
}

none_staged : 0 ≤ 1
none_staged = omega arith

one_staged : 1 ≤ 1
one_staged = omega arith

pub typed_stages_are_valid : TypedCodeIsValid → TypedStagesAreValid
typed_stages_are_valid valid = record {
  over_tables = λ p typed none limits. record { chain = valid.over_tables p typed none limits; names = refl; depth = none_staged };
  over_stage = λ p stage typed fits stage_typed none limits stage_limits.
      record {
        chain = (valid.over_stage p stage typed stage_typed fits limits, valid.over_tables stage stage_typed none stage_limits);
        names = and_from (is_some stage.thread) true fits.1 refl;
        depth = one_staged;
      };
}
