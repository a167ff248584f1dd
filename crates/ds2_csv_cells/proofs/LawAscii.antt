-- ASCII is UTF-8.
use Rattle.std.proofs.Common.{◌≡◌, ◌<◌, ◌∷◌, [], ℕ, List, true, arith, IsUtf8}
use Rattle.std.specs.Prelude.{nat_lt}
use Rattle.std.specs.List.{list_all}
use Rattle.std.proofs.Math.Utf8.{low_scalar}
use Rattle.std.proofs.lemmas.Bool.{ltb-true, and_parts}
use Rattle.std.proofs.lemmas.Str.{IsUtf8-append, IsUtf8-nil, IsUtf8-encode, encode_ascii}

pub one-text : (c : ℕ) → c < 128 → IsUtf8 (c ∷ [])
one-text c h = rw (← (encode_ascii c h)) (IsUtf8-encode c (low_scalar c (omega arith)))

pub ascii-text : (bs : List ℕ) → list_all (λ c. nat_lt c 128) bs ≡ true → IsUtf8 bs
ascii-text [] e = IsUtf8-nil
ascii-text (b ∷ bs) e =
    let p = and_parts (nat_lt b 128) (list_all (λ c. nat_lt c 128) bs) e in
    IsUtf8-append (b ∷ []) bs (one-text b (ltb-true b 128 p.0)) (ascii-text bs p.1)
