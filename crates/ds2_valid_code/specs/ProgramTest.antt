-- Valid code as a test.
use Rattle.std.specs.Prelude.{Bool, false, ◌&&◌, List, [], ◌∷◌, Option, Some, None}
use Rattle.std.specs.Option.{is_some}
use Rattle.ds2_code.specs.declared.parts.ProgramParts.{ProgramParts}
use Rattle.ds2_code.specs.declared.parts.StagedParts.{StagedParts}
use Rattle.ds2_code.specs.ValidCode.{parts_in_range, lists_short, values_allowed, outputs_differ, layout_fits, stage_parameters}
use Rattle.ds2_valid_code.specs.BoundedJumps.{jumps_bounded}
use Rattle.ds2_valid_code.specs.CodeScan.{types_suffice}

-- each clause of valid code holds of a program beside the thread program that it reads from
abbrev pub program_passes : ProgramParts → Option ProgramParts → Bool
program_passes code stage =
    ((parts_in_range code && (lists_short code && values_allowed code)) && types_suffice code (stage_parameters stage))
    && (outputs_differ code && (jumps_bounded code.instrs code.instrs 0 && layout_fits code stage))

-- a program, and the thread program that it may stand on, which has a name and stands on none
abbrev pub stages_pass : ProgramParts → List ProgramParts → Bool
stages_pass code [] = program_passes code None
stages_pass code (stage ∷ []) = is_some stage.name && (program_passes code (Some stage) && program_passes stage None)
stages_pass code (stage ∷ other ∷ stages) = false

-- the parts pass
abbrev pub parts_pass : StagedParts → Bool
parts_pass parts = stages_pass parts.program parts.stages
