-- Names that are told from their bytes.
use Rattle.std.proofs.Common.{◌≡◌, ℕ, Bool, true, false, if◌then◌else◌, List, map, Result, Ok, Err, refl, sym, ap, ◌∙◌}
use Rattle.std.specs.Char.{to_ascii_lowercase}
use Rattle.std.specs.Str.{is_utf8}
use Rattle.ds2_base.specs.Name.{is_name, name_of}
use Rattle.ds2_base.specs.declared.name.BadName.{BadName}
use Rattle.ds2_token.specs.Values.{name_letters, name_of_bytes, token_name}
use Rattle.ds2_token.specs.declared.token.Token.{Token}
use Rattle.ds2_names.specs.SourceUnit.{spelled_name}

abbrev held : List ℕ → Result (List ℕ) BadName → List ℕ
held other (Ok x) = x
held other (Err e) = other

-- a name, where both tests hold
abbrev named_if : Bool → Bool → List ℕ → Result (List ℕ) BadName
named_if a b name = if◌then◌else◌ {A = Result (List ℕ) BadName} a (if◌then◌else◌ {A = Result (List ℕ) BadName} b (Ok name) (Err (record {}))) (Err (record {}))

-- the name of a token
pub name_told : (t : Token) (n : List ℕ) → token_name t ≡ Ok n → n ≡ spelled_name t
name_told t n h = by (is_utf8 (name_letters t)) (is_name (name_letters t)) h
  where
    by : (a b : Bool) → named_if a b (map to_ascii_lowercase (name_letters t)) ≡ Ok n → n ≡ map to_ascii_lowercase (name_letters t)
    by true true e = ap (held n) (sym e)
    by true false e = ap (held (map to_ascii_lowercase (name_letters t))) (sym e)
    by false b e = ap (held (map to_ascii_lowercase (name_letters t))) (sym e)
