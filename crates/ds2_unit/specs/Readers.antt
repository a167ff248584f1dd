-- A program that reads from a thread program.
use Rattle.ds2_slots.specs.LoadedHashes.{AreSlotTypesInBounds}
use Rattle.ds2_unit.specs.Places.{IsPlaceOfChain}
use Rattle.ds2_unit.specs.declared.reader.ReaderRun.{ReaderRun}

-- a program of a chain that reads from a thread program can be run
pub record IsReadyReader (run : ReaderRun) : Type 0 where
  pub place : IsPlaceOfChain run.place
  pub types : AreSlotTypesInBounds run.place.program.now.slots
