-- Tables and sets by names, which contracts see as they see std's hash tables: by the entries, of which equal names find one.
use Rattle.std.specs.Prelude.{ℕ, List, Vec, map}
use Rattle.std.specs.BTreeMap.{BTreeMap}
use Rattle.std.specs.HashMap.{HashMap}
use Rattle.std.specs.declared.alloc.Global.{Global}
use Rattle.indexmap.specs.Layout.{hash_map}

-- what is kept under a name, where the code has the name as a vector
abbrev pub named_entry : {X : Type 0} → Vec ℕ Global × X → List ℕ × X
named_entry e = (e.0.items, e.1)

-- the table of what a map in the order of names keeps
abbrev pub named_entries : {X : Type 0} → BTreeMap (Vec ℕ Global) X → HashMap (List ℕ) X (Unit {0})
named_entries m = hash_map (map named_entry m.entries) tt 0
