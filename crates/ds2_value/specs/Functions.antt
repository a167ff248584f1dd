-- The functions of the language on values. A null argument gives null, unless a function says otherwise; arguments of other
-- number or types than a function takes are never met, and give null too.
use Rattle.std.specs.Prelude.{ℕ, suc, ◌++◌, max, nat_le, List, [], ◌∷◌, length, fold, ℤ, pos, if◌then◌else◌, Option, Some, None, Result, Ok, Err, unwrap_or}
use Rattle.std.specs.Option.{option_map, option_map_or}
use Rattle.std.specs.Ordering.{is_lt, is_gt}
use Rattle.std.specs.Str.{chars}
use Rattle.ds2_base.specs.Bytes.{Bytes}
use Rattle.ds2_base.specs.Characters.{char_count}
use Rattle.ds2_decimal.specs.Arithmetic.{rescale}
use Rattle.ds2_decimal.specs.declared.dec.TheConstants.{MOST_DIGITS}
use Rattle.ds2_value.specs.Order.{key_order}
use Rattle.ds2_value.specs.Texts.{cut_to, after_characters, trimmed, without_blanks}
use Rattle.ds2_value.specs.Types.{whole_decimal, decimal_value}
use Rattle.ds2_value.specs.Value.{is_null}
use Rattle.ds2_value.specs.declared.choice.Choice.{Choice}
use Rattle.ds2_value.specs.declared.choice.Choice.TheVariants.{First, Least, Greatest}
use Rattle.ds2_value.specs.declared.fault.Fault.{Fault}
use Rattle.ds2_value.specs.declared.fault.Fault.TheVariants.{Range}
use Rattle.ds2_value.specs.declared.ty.TheConstants.{TEXT_CHARACTERS}
use Rattle.ds2_value.specs.declared.value.Value.{Value}
use Rattle.ds2_value.specs.declared.value.Value.TheVariants.{Null, Int, Dec, Txt}

-- 1 for null, 0 for what is not
abbrev pub is_null_of : List Value → Value
is_null_of (v ∷ []) = if is_null v then Int (pos 1) else Int (pos 0)
is_null_of _ = Null

-- the number of characters without the blanks at the end
abbrev pub length_of : List Value → Value
length_of (Txt t ∷ []) = Int (pos (length (without_blanks (chars t))))
length_of _ = Null

-- the text without the blanks at its end
abbrev pub trim_of : List Value → Value
trim_of (Txt t ∷ []) = Txt (trimmed t)
trim_of _ = Null

-- the bytes of texts one after the other; None where one is no text
abbrev pub joined_texts : List Value → Option Bytes
joined_texts [] = Some []
joined_texts (Txt t ∷ vs) = option_map (λ more. t ++ more) (joined_texts vs)
joined_texts (_ ∷ vs) = None

-- texts one after the other, cut to as many characters as a type may have
abbrev pub concat_of : List Value → Value
concat_of vs = option_map_or (λ bytes. Txt (cut_to TEXT_CHARACTERS bytes)) (joined_texts vs) Null

-- at most k characters of a text from character i on, which counts from 1; Range where i is below 1 or above the number of
-- characters and one, and where k is below 0
abbrev pub part_of : Bytes → ℤ → ℤ → Result Value Fault
part_of t (pos (suc i)) (pos k) = if nat_le i (char_count t) then Ok (Txt (cut_to k (after_characters i t))) else Err Range
part_of t _ _ = Err Range

-- the part of a text from a character on, to its end or of a length
abbrev pub substr_of : List Value → Result Value Fault
substr_of (Txt t ∷ Int i ∷ []) = part_of t i (pos (char_count t))
substr_of (Txt t ∷ Int i ∷ Int k ∷ []) = part_of t i k
substr_of _ = Ok Null

-- the greatest scale of the decimals among values; None where there is no decimal
abbrev pub greatest_scale : List Value → Option ℕ
greatest_scale [] = None
greatest_scale (Dec d ∷ vs) = Some (max d.scale (unwrap_or (greatest_scale vs) 0))
greatest_scale (_ ∷ vs) = greatest_scale vs

-- a number as a decimal of 38 digits and a scale; null for other values, which are never met beside decimals but for null
abbrev pub at_scale : ℕ → Value → Result Value Fault
at_scale s (Int i) = decimal_value (rescale MOST_DIGITS s (whole_decimal i))
at_scale s (Dec d) = decimal_value (rescale MOST_DIGITS s d)
at_scale s _ = Ok Null

-- a value beside decimals of a greatest scale, or beside none
abbrev pub beside : Option ℕ → Value → Result Value Fault
beside None v = Ok v
beside (Some s) v = at_scale s v

-- one more value before those that were made, or the first fault
abbrev pub before : Result Value Fault → Result (List Value) Fault → Result (List Value) Fault
before (Ok v) (Ok vs) = Ok (v ∷ vs)
before (Ok v) (Err fault) = Err fault
before (Err fault) _ = Err fault

-- each value beside decimals of a greatest scale, or beside none
abbrev pub all_beside : Option ℕ → List Value → Result (List Value) Fault
all_beside s [] = Ok []
all_beside s (v ∷ vs) = before (beside s v) (all_beside s vs)

-- numbers in one type: as they are where none is a decimal, else decimals of the greatest scale; texts as they are
abbrev pub alike_of : List Value → Result (List Value) Fault
alike_of vs = all_beside (greatest_scale vs) vs

-- one value out of values in one type, by a choice between two of them
abbrev pub choice_of : (Value → Value → Value) → Result (List Value) Fault → Result Value Fault
choice_of choose (Ok vs) = Ok (fold choose Null vs)
choice_of choose (Err fault) = Err fault

-- the second of two values where the first is null, else the first
abbrev pub first_of : Value → Value → Value
first_of a b = if is_null a then b else a

-- the lesser of two values, the other one where one is null
abbrev pub lesser_of : Value → Value → Value
lesser_of a b = if is_null a then b else if is_null b then a else if is_lt (key_order b a) then b else a

-- the greater of two values, the other one where one is null
abbrev pub greater_of : Value → Value → Value
greater_of a b = if is_null a then b else if is_null b then a else if is_gt (key_order b a) then b else a

-- the choice of each of the three functions
abbrev pub chosen_of : Choice → Value → Value → Value
chosen_of First a b = first_of a b
chosen_of Least a b = lesser_of a b
chosen_of Greatest a b = greater_of a b

-- the first value that is not null; null where all are null
abbrev pub coalesce_of : List Value → Result Value Fault
coalesce_of vs = choice_of (chosen_of First) (alike_of vs)

-- the least value without the nulls; null where all are null
abbrev pub least_of : List Value → Result Value Fault
least_of vs = choice_of (chosen_of Least) (alike_of vs)

-- the greatest value without the nulls; null where all are null
abbrev pub greatest_of : List Value → Result Value Fault
greatest_of vs = choice_of (chosen_of Greatest) (alike_of vs)
