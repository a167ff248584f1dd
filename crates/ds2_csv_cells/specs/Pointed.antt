-- Pointed: digits with a point among them.
use Rattle.std.specs.Prelude.{ℕ, ◌-◌, ◌∷◌, ◌++◌, length, take, drop}
use Rattle.ds2_base.specs.Bytes.{Bytes}

-- digits with a point before the last so many of them
abbrev pub with_point : ℕ → Bytes → Bytes
with_point behind digits = take (length digits - behind) digits ++ 46 ∷ drop (length digits - behind) digits
