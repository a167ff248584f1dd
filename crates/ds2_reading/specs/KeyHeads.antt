-- Heads of keys: for each row a whole number by which most keys are told apart without their values. The last digit of a head, to the
-- base 128, stands for what it leaves out: 32 for nothing that matters, 31 for what stands before blanks, 33 for what stands behind them.
use Rattle.std.specs.Prelude.{◌≡◌, ℕ, zero, suc, ◌+◌, ◌-◌, ◌*◌, ◌/◌, ◌%◌, ◌^◌, ◌≤◌, ◌==◌, min, nat_lt, length, Bool, true, false, List, [], drop, get_or, slice_get, unwrap_or, if◌then◌else◌, ℤ, pos, ◌+ℤ◌, ◌*ℤ◌, ◌<ℤ◌, ◌≤ℤ◌}
use Rattle.std.specs.Str.{chars}
use Rattle.std.specs.declared.cmp.Ordering.{Ordering}
use Rattle.std.specs.declared.cmp.Ordering.TheVariants.{Less, Equal, Greater}
use Rattle.ds2_base.specs.Bytes.{Chars}
use Rattle.ds2_value.specs.Order.{exact}
use Rattle.ds2_value.specs.Texts.{padded_cmp}
use Rattle.ds2_value.specs.declared.value.Value.{Value}
use Rattle.ds2_value.specs.declared.value.Value.TheVariants.{Null, Int, Dec, Txt}
use Rattle.ds2_reading.specs.KeyOrder.{part_of_key}

-- the first character as a digit to the base 128: a blank where there is none, and 127 for all from there on
abbrev pub first_digit : Chars → ℕ
first_digit cs = min (unwrap_or (slice_get cs 0) 32) 127

-- what follows the first digit; behind one of 127 all digits are like it
abbrev pub behind_digit : Chars → Chars
behind_digit cs = if nat_lt (first_digit cs) 127 then drop 1 cs else cs

-- the digit for characters that are left out, by how they stand to blanks
abbrev pub rest_digit : Ordering → ℕ
rest_digit Less = 31
rest_digit Equal = 32
rest_digit Greater = 33

-- the number with these digits in front, so many of the characters, and one for what follows these
unfoldable pub head_with_digits : ℕ → ℕ → Chars → ℕ
head_with_digits zero front cs = front * 128 + rest_digit (padded_cmp cs [])
head_with_digits (suc n) front cs = head_with_digits n (front * 128 + first_digit cs) (behind_digit cs)

-- the head of a number, by what it is in units of 10 ^ -38: the BIGINT that it is, or the greatest one below it, in their order from 1 on;
-- what stands before all of them and behind all of them has a head of its own
pub data IsNumberHead (head : ℕ) (x : ℤ) : Type 0 where
  whole : (w : ℤ) → pos head ≡ (w +ℤ pos (2 ^ 63 + 1)) *ℤ pos 128 +ℤ pos 32 → (w +ℤ pos (2 ^ 63 + 1)) ≤ℤ pos (2 ^ 64) → pos 1 ≤ℤ (w +ℤ pos (2 ^ 63 + 1))
      → x ≡ w *ℤ pos (10 ^ 38) → IsNumberHead head x
  above : (w : ℤ) → pos head ≡ (w +ℤ pos (2 ^ 63 + 1)) *ℤ pos 128 +ℤ pos 33 → (w +ℤ pos (2 ^ 63 + 1)) ≤ℤ pos (2 ^ 64) → pos 1 ≤ℤ (w +ℤ pos (2 ^ 63 + 1))
      → (w *ℤ pos (10 ^ 38)) <ℤ x → x <ℤ ((w +ℤ pos 1) *ℤ pos (10 ^ 38)) → IsNumberHead head x
  before_all : head ≡ 33 → (x +ℤ pos (2 ^ 63 * 10 ^ 38)) <ℤ pos 0 → IsNumberHead head x
  behind_all : head ≡ (2 ^ 64 + 1) * 128 + 33 → pos (2 ^ 63 * 10 ^ 38) ≤ℤ x → IsNumberHead head x

-- this is the head of a value: null has the least one, then come numbers in their order, then texts by their first 12 characters
abbrev pub IsKeyHead : ℕ → Value → Type 0
IsKeyHead head Null = head ≡ 32
IsKeyHead head (Int i) = IsNumberHead head (exact (Int i))
IsKeyHead head (Dec d) = IsNumberHead head (exact (Dec d))
IsKeyHead head (Txt t) = head ≡ head_with_digits 12 1 (chars t)

-- keys with this head are equal in their first part
abbrev pub tells_all : ℕ → Bool
tells_all head = (head % 128) == 32

-- the greatest head: one that tells all, taken from it, tells all
abbrev pub most_head : ℕ
most_head = 79228162514264337593543950272

-- the heads of descending values are taken from the greatest one; so they are found again
abbrev pub directed_head : Bool → ℕ → ℕ
directed_head false head = head
directed_head true head = most_head - head

-- this is the head of a key in the direction of its first part
pub record IsDirectedHead (descending : List Bool) (head : ℕ) (key : List Value) : Type 0 where
  pub bound : head ≤ most_head
  pub own : IsKeyHead (directed_head (get_or descending 0 false) head) (part_of_key key 0)

-- in how many parts keys with this head are equal at least
abbrev pub level_of_head : List Bool → ℕ → ℕ
level_of_head descending head = if tells_all head then min (length descending) 1 else 0

-- the head in front of the number of a row, which stands in the last 32 bits
abbrev pub head_of : ℕ → ℕ
head_of number = number / 4294967296

-- the number of the row
abbrev pub row_of : ℕ → ℕ
row_of number = number % 4294967296
