-- The test says yes exactly where the record of valid code stands.
use Rattle.std.proofs.Common.{◌≡◌, ◌≤◌, Bool, true, ◌&&◌, IsTrue, List, [], ◌∷◌, length, Option, Some, None, refl, arith}
use Rattle.std.specs.List.{list_all}
use Rattle.std.specs.Option.{is_some}
use Rattle.ds2_code.specs.declared.parts.ProgramParts.{ProgramParts}
use Rattle.ds2_code.specs.declared.parts.StagedParts.{StagedParts}
use Rattle.ds2_code.specs.ValidCode.{parts_in_range, lists_short, values_allowed, outputs_differ, layout_fits, stage_parameters, IsValidProgram, IsValidChain, IsValidStaged}
use Rattle.ds2_valid_code.specs.BoundedJumps.{jumps_bounded}
use Rattle.ds2_valid_code.specs.CodeScan.{types_suffice}
use Rattle.ds2_valid_code.specs.ProgramTest.{program_passes, stages_pass, parts_pass}
use Rattle.ds2_valid_code.proofs.OwnerLemmas.{both, and_so}
use Rattle.ds2_valid_code.proofs.JumpLemmas.{bounded_jumps, jumps_are}
use Rattle.ds2_valid_code.proofs.ScanExact.{suffice_types, types_suffice_is}

module _ (code : ProgramParts) (stage : Option ProgramParts) where
  abbrev types_test : Bool
  types_test = types_suffice code (stage_parameters stage)

  abbrev parts_test : Bool
  parts_test = parts_in_range code && (lists_short code && values_allowed code)

  abbrev jumps_test : Bool
  jumps_test = jumps_bounded code.instrs code.instrs 0

  passes_valid : program_passes code stage ≡ true → IsValidProgram code stage
  passes_valid h =
      let k = both (parts_test && types_test) (outputs_differ code && (jumps_test && layout_fits code stage)) h in
      let l = both parts_test types_test k.0 in
      let m = both (parts_in_range code) (lists_short code && values_allowed code) l.0 in
      let n = both (lists_short code) (values_allowed code) m.1 in
      let o = both (outputs_differ code) (jumps_test && layout_fits code stage) k.1 in
      let p = both jumps_test (layout_fits code stage) o.1 in
      record {
        types = suffice_types code (stage_parameters stage) l.1;
        ranges = m.0;
        lists = n.0;
        values = n.1;
        outputs = o.0;
        steps = bounded_jumps code.instrs p.0;
        layout = p.1;
      }

  valid_passes : IsValidProgram code stage → program_passes code stage ≡ true
  valid_passes v =
      and_so (parts_test && types_test) (outputs_differ code && (jumps_test && layout_fits code stage))
      (and_so parts_test types_test
      (and_so (parts_in_range code) (lists_short code && values_allowed code) v.ranges (and_so (lists_short code) (values_allowed code) v.lists v.values))
      (types_suffice_is code (stage_parameters stage) v.types))
      (and_so (outputs_differ code) (jumps_test && layout_fits code stage) v.outputs
      (and_so jumps_test (layout_fits code stage) (jumps_are code.instrs v.steps) v.layout))

named_is : (stage : ProgramParts) → is_some stage.name ≡ true → list_all (λ (s : ProgramParts). is_some s.name) (stage ∷ []) ≡ true
named_is stage h = and_so (is_some stage.name) true h refl

is_named : (stage : ProgramParts) → list_all (λ (s : ProgramParts). is_some s.name) (stage ∷ []) ≡ true → is_some stage.name ≡ true
is_named stage h = (both (is_some stage.name) true h).0

-- what is asked of a program and the thread programs that it stands on
abbrev IsStaged : ProgramParts → List ProgramParts → Type 0
IsStaged code stages = IsValidChain code stages × IsTrue (list_all (λ (s : ProgramParts). is_some s.name) stages) × (length stages ≤ 1)

stages_valid : (code : ProgramParts) (stages : List ProgramParts) → stages_pass code stages ≡ true → IsStaged code stages
stages_valid code [] h = (passes_valid code None h, refl, omega arith)
stages_valid code (stage ∷ []) h =
    let k = both (is_some stage.name) (program_passes code (Some stage) && program_passes stage None) h in
    let l = both (program_passes code (Some stage)) (program_passes stage None) k.1 in
    ((passes_valid code (Some stage) l.0, passes_valid stage None l.1), named_is stage k.0, omega arith)
stages_valid code (stage ∷ other ∷ stages) h = absurd cc

valid_stages : (code : ProgramParts) (stages : List ProgramParts) → IsValidChain code stages → IsTrue (list_all (λ (s : ProgramParts). is_some s.name) stages) → length stages ≤ 1
    → stages_pass code stages ≡ true
valid_stages code [] c n d = valid_passes code None c
valid_stages code (stage ∷ []) c n d =
    and_so (is_some stage.name) (program_passes code (Some stage) && program_passes stage None) (is_named stage n)
    (and_so (program_passes code (Some stage)) (program_passes stage None) (valid_passes code (Some stage) c.0) (valid_passes stage None c.1))
valid_stages code (stage ∷ other ∷ stages) c n d = absurd (omega (arith, d))

pub parts_valid : (parts : StagedParts) → parts_pass parts ≡ true → IsValidStaged parts
parts_valid parts h = let k = stages_valid parts.program parts.stages h in record { chain = k.0; names = k.1; depth = k.2 }

pub valid_parts : (parts : StagedParts) → IsValidStaged parts → parts_pass parts ≡ true
valid_parts parts v = valid_stages parts.program parts.stages v.chain v.names v.depth
