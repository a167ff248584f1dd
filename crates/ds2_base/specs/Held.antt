-- Where a text's bytes are kept.
use Rattle.std.specs.Prelude.{List, ℕ, string_bytes}
use Rattle.ds2_base.specs.declared.text.Held.{Held}
use Rattle.ds2_base.specs.declared.text.Held.TheVariants.{Within, Apart}

-- the bytes of a text, within it or apart from it
abbrev pub held_bytes : Held → List ℕ
held_bytes (Within short) = short
held_bytes (Apart text) = string_bytes text.value
