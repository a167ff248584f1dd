use Rattle.std.proofs.Common.{◌≡◌, ◌++◌, length, map, drop}
use Rattle.ds2_table.specs.Loads.{KeyedLoad}
use Rattle.ds2_reading.specs.LoadMeaning.{load_meaning}
use Rattle.ds2_loads.proofs.kept_loads.kept_walk.Given as goal

abbrev pub invariant-loads : goal.invariant-loads
invariant-loads l =
    (map (load_meaning l.initial.walk.tables l.initial.walk.bys) l.loads ++ map (λ (x : KeyedLoad). x.load) (drop l.walk.given l.walk.loads) ≡ map (λ (x : KeyedLoad). x.load) (drop l.initial.walk.given l.initial.walk.loads))
    × (l.walk.tables ≡ l.initial.walk.tables) × (l.walk.bys ≡ l.initial.walk.bys)

abbrev pub decreases-loads : goal.decreases-loads
decreases-loads l = length (drop l.walk.given l.walk.loads)
