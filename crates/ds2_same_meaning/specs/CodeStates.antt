-- Data of code as states of a stage: what they keep at each location, and when they are data of a program's code.
use Rattle.std.specs.List.{list_all, range_with_len}
use Rattle.std.specs.Prelude.{◌≡◌, ℕ, ◌-◌, Bool, true, false, ◌&&◌, List, [], ◌++◌, length, slice_get, is_some, Option, Some, None}
use Rattle.ds2_value.specs.declared.value.Value.TheVariants.{Null}
use Rattle.ds2_schedule.specs.Groups.{IsGroupIndependent}
use Rattle.ds2_schedule.specs.Schedule.{FixedPart, AgreeAsStates}
use Rattle.ds2_meaning.specs.IsTyped.{IsTypedUnit}
use Rattle.ds2_meaning.specs.Location.{Location, Content, Holds, Items, Position, Storage}
use Rattle.ds2_meaning.specs.ProgramTree.{UnitTree}
use Rattle.ds2_code.specs.Desk.{ProgramData}
use Rattle.ds2_gen.specs.CodeCells.{CodeCell, SlotCell, LocalCell, HashCell, IteratorCell, ParameterCell}
use Rattle.ds2_program_code.specs.PlacedProgram.{slot_locations, hash_locations, iterator_locations, parameter_locations, program_cell, layout_size}
use Rattle.ds2_program_code.specs.CodeParts.{code_slots}
use Rattle.ds2_locality.specs.declared.locality.Verdict.TheVariants.{Local}
use Rattle.ds2_locality.specs.Independence.{IsGroupOfReading, is_fixed}
use Rattle.ds2_locality.specs.KeptLocations.{seen_content, is_flag_before}
use Rattle.ds2_locality.specs.Soundness.{ObjectsTold}
use Rattle.ds2_locality.specs.Verdict.{JudgedThread, verdict_of}
use Rattle.ds2_same_meaning.specs.CodeIndependence.{coded_stage}

-- what is there, or else this
abbrev pub or_absent : {A : Type 0} → A → Option A → A
or_absent other None = other
or_absent other (Some a) = a

-- what data keep in a cell; nothing where there is none
abbrev pub kept_in_cell : ProgramData → Option CodeCell → Content
kept_in_cell d None = Holds Null
kept_in_cell d (Some (SlotCell n)) = Holds (or_absent Null (slice_get d.slots n))
kept_in_cell d (Some (LocalCell n)) = Holds Null
kept_in_cell d (Some (HashCell n)) = Items (or_absent [] (slice_get d.hashes n))
kept_in_cell d (Some (IteratorCell n)) = Position (or_absent None (slice_get d.iterators n))
kept_in_cell d (Some (ParameterCell n)) = Holds (or_absent Null (slice_get d.parameters n))

-- what data of a program's code keep at each location
abbrev pub kept_by_code : UnitTree → ProgramData → Storage
kept_by_code p d = λ at. kept_in_cell d (program_cell p at)

-- data have a cell, where there is one
abbrev pub has_cell : ProgramData → Option CodeCell → Bool
has_cell d None = true
has_cell d (Some (SlotCell n)) = is_some (slice_get d.slots n)
has_cell d (Some (LocalCell n)) = false
has_cell d (Some (HashCell n)) = is_some (slice_get d.hashes n)
has_cell d (Some (IteratorCell n)) = is_some (slice_get d.iterators n)
has_cell d (Some (ParameterCell n)) = is_some (slice_get d.parameters n)

-- the locations that have cells in a program's code
abbrev pub cell_locations : UnitTree → List Location
cell_locations p = slot_locations p ++ hash_locations p ++ iterator_locations p ++ parameter_locations p

-- data are those of a program's code: they have each cell of its locations, and the slots behind those of its layout
abbrev pub is_data_of_code : UnitTree → ProgramData → Bool
is_data_of_code p d =
    list_all (λ at. has_cell d (program_cell p at)) (cell_locations p)
    && list_all (λ n. is_some (slice_get d.slots n)) (range_with_len (layout_size p) (length (code_slots p) - layout_size p))

-- what data keep, with the fixed locations
abbrev pub fixed_data : UnitTree → FixedPart ProgramData Location Content
fixed_data p = record { content = λ d. seen_content p (kept_by_code p d); is_fixed = is_fixed p }

-- the code of a typed thread program that is local at a grain makes a stage whose groups are independent there, as the law on stages asks
abbrev pub LocalCodeMakesStage : Type 0
LocalCodeMakesStage = (t : JudgedThread) → IsTypedUnit t.program → ObjectsTold t → (grain : ℕ) → verdict_of t ≡ Local grain
    → IsGroupIndependent (coded_stage t.program) (IsGroupOfReading t.program.reading t.program grain) (is_flag_before grain t.program.reading)
    (AgreeAsStates (is_data_of_code t.program) (fixed_data t.program))
