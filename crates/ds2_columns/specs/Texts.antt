-- Texts in one run of bytes.
use Rattle.std.specs.Prelude.{◌≡◌, ℕ, zero, suc, ◌-◌, ◌^◌, ◌<◌, ◌≤◌, List, [], ◌∷◌, length, take, drop, IsTrue}
use Rattle.std.specs.List.{list_all}
use Rattle.std.specs.Str.{is_utf8}
use Rattle.ds2_base.specs.Bytes.{Bytes}

-- the texts in a run of bytes, by the place where each one ends, behind a text that ends at a place
abbrev pub texts_between : ℕ → List ℕ → Bytes → List Bytes
texts_between from [] bytes = []
texts_between from (end ∷ ends) bytes = take (end - from) bytes ∷ texts_between end ends (drop (end - from) bytes)

-- where so many of these texts end
abbrev pub texts_end : ℕ → List ℕ → ℕ → ℕ
texts_end from ends zero = from
texts_end from [] (suc count) = from
texts_end from (end ∷ ends) (suc count) = texts_end end ends count

-- no text ends before the one ahead of it, and the last one ends with the bytes
abbrev pub AreEnds : ℕ → List ℕ → Bytes → Type 0
AreEnds from [] bytes = length bytes ≡ 0
AreEnds from (end ∷ ends) bytes = (from ≤ end) × (end - from ≤ length bytes) × AreEnds end ends (drop (end - from) bytes)

-- what holds of texts that are held
pub record AreTexts (ends : List ℕ) (bytes : Bytes) : Type 0 where
  pub divide : AreEnds 0 ends bytes
  pub utf8 : IsTrue (list_all is_utf8 (texts_between 0 ends bytes))
  -- a place among the bytes has 32 bits
  pub places : length bytes < 2 ^ 32
