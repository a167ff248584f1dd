-- What is judged, as the code of the checker holds it.
use Rattle.std.specs.Prelude.{ℕ, List, Option, Some, None}
use Rattle.ds2_base.specs.declared.place.Place.{Place}
use Rattle.ds2_base.specs.Place.{start_place}
use Rattle.ds2_meaning.specs.declared.methods.SystemMethod.{SystemMethod}
use Rattle.ds2_meaning.specs.declared.units.TypedThread as code_thread
use Rattle.ds2_meaning.specs.ProgramTree.{reader_of}
use Rattle.ds2_meaning.specs.View.{typed_thread_program}
use Rattle.ds2_locality.specs.Verdict.{JudgedThread, objects_in_order}

-- the place of the name of a system method; where there is none, nothing is ever told there
abbrev pub place_of_system : Option SystemMethod → Place
place_of_system None = start_place
place_of_system (Some m) = m.place

-- a thread program that is judged, whose declarations of hash objects, iterators and instances have these names in order
abbrev pub judged_thread : List (List ℕ) → code_thread.TypedThread → JudgedThread
judged_thread names t =
    let p = reader_of (typed_thread_program t) in
    let program = (code_thread.out-TypedThread t).program in
    record { program = p; run_place = place_of_system program.run; term_place = place_of_system program.term; objects = objects_in_order names p }
