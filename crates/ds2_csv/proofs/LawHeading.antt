-- The header cell of a column is read as its name and its type.
use Rattle.std.proofs.Common.{◌≡◌, ◌≢◌, IsUtf8, ◌+◌, ◌<◌, ℕ, Bool, true, false, List, [], ◌∷◌, ◌++◌, length, take, drop, refl, sym, ap, ◌∙◌, arith, length-append, append_assoc, lit<}
use Rattle.std.specs.Prelude.{◌==◌, not, nat_lt, slice_index, map, Option, Some, None, option_map, Result, Ok, Err, if◌then◌else◌}
use Rattle.std.specs.Char.{to_ascii_lowercase}
use Rattle.std.specs.List.{list_all, list_any, prefix_len}
use Rattle.std.specs.Option.{option_map_or, option_or}
use Rattle.std.specs.Str.{chars}
use Rattle.std.proofs.Math.Utf8.{encode, encodes}
use Rattle.std.proofs.lemmas.Bool.{and_parts, eqb-true, not-true, or_from, or_parts, false_from_ne_true}
use Rattle.std.proofs.lemmas.List.{map-append, take_all, take_at, drop_at}
use Rattle.std.proofs.lemmas.Str.{encodes-chars, IsUtf8-append}
use Rattle.ds2_base.specs.Name.{IsOwnName, is_name, is_name_char, name_of}
use Rattle.ds2_base.specs.declared.name.BadName.{BadName}
use Rattle.ds2_value.specs.Types.{in_bounds}
use Rattle.ds2_value.specs.declared.schema.Column.{Column}
use Rattle.ds2_value.specs.declared.ty.Ty.{Ty}
use Rattle.ds2_csv_cells.specs.CellText.{type_text}
use Rattle.ds2_csv_cells.specs.Laws.{IsTypeText, ReadsTypes}
use Rattle.ds2_csv_cells.specs.Spelling.{is_blank, type_spelled}
use Rattle.ds2_csv.specs.Header.{last_place, without_last_blanks, trimmed_cell, typed_heading, heading_by, plain_heading, heading_of_text, heading_of}
use Rattle.ds2_csv.proofs.Writable.{IsNamed}
use Rattle.ds2_csv.specs.Text.{heading_text}
use Rattle.ds2_csv.proofs.LawSeq.{last-behind, last-here}
use Rattle.ds2_csv.proofs.LawUtf8.{one-text}

-- a text that is its own name
record IsOwn (name : List ℕ) : Type 0 where
  good : is_name name ≡ true
  lower : map to_ascii_lowercase name ≡ name

own : (name : List ℕ) → IsOwnName name → IsOwn name
own name e = by (is_name name) refl e
  where
    bad : BadName
    bad = record {}

    by : (b : Bool) → is_name name ≡ b → (if b then Ok (map to_ascii_lowercase name) else Err bad) ≡ Ok name → IsOwn name
    by true f g = record { good = f; lower = cc g }
    by false f g = cc g

-- what the tests of a name say
record HasName (name : List ℕ) : Type 0 where
  some : nat_lt 0 (length name) ≡ true
  chars_good : list_all is_name_char (chars name) ≡ true
  start : (slice_index name 0 == 32) ≡ false

has-name : (name : List ℕ) → is_name name ≡ true → HasName name
has-name name e =
    let a = and_parts _ _ e in
    let b = and_parts _ _ a.0 in
    let c = and_parts _ _ b.0 in
    let d = and_parts _ _ c.0 in
    record { some = d.0; chars_good = c.1; start = not-true _ b.1 }

-- it begins with no blank
no-tab : (cs : List ℕ) → list_all is_name_char (chars (9 ∷ cs)) ≡ true → ⊥
unfolding chars
no-tab [] e = cc e
no-tab (c ∷ cs) e = cc e

first-plain : (c : ℕ) (cs : List ℕ) → HasName (c ∷ cs) → is_blank c ≡ false
first-plain c cs h =
    let tab = false_from_ne_true (c == 9) (λ e. let same = eqb-true c 9 e in no-tab cs (ap (λ k. list_all is_name_char (chars (k ∷ cs))) (sym same) ∙ h.chars_good)) in
    or_from (c == 32) (c == 9) h.start tab

-- its first character is no byte order mark
pub record Begins (text : List ℕ) : Type 0 where
  pub first : ℕ
  pub more : List ℕ
  pub text_is : text ≡ encode first ++ more
  pub no_mark : first ≢ 65279

name-begins : (name : List ℕ) → IsUtf8 name → HasName name → Begins name
name-begins name u h = by (chars name) refl
  where
    by : (cs : List ℕ) → chars name ≡ cs → Begins name
    by [] e =
        let none : name ≡ [] = sym (encodes-chars name u) ∙ ap encodes e in
        cc (sym h.some ∙ ap (λ (t : List ℕ). nat_lt 0 (length t)) none)
    by (c ∷ cs) e = record {
      first = c;
      more = encodes cs;
      text_is = sym (encodes-chars name u) ∙ ap encodes e;
      no_mark = λ same.
          let good : list_all is_name_char (c ∷ cs) ≡ true = ap (λ (t : List ℕ). list_all is_name_char t) (sym e) ∙ h.chars_good in
          cc (sym (ap is_name_char same) ∙ (and_parts (is_name_char c) (list_all is_name_char cs) good).0);
    }

-- a text that ends with no blank keeps its end
ends : (x : ℕ) (xs : List ℕ) → list_any is_blank (x ∷ xs) ≡ false → last_place (λ c. not (is_blank c)) (x ∷ xs) ≡ Some (length xs)
ends x [] free = let e = or_parts (is_blank x) false free in rw e.0 refl
ends x (y ∷ ys) free =
    let e = or_parts (is_blank x) (list_any is_blank (y ∷ ys)) free in
    ap (λ (o : Option ℕ). option_or (option_map (λ i. i + 1) o) (if not (is_blank x) then Some 0 else None)) (ends y ys e.1) ∙ ap (λ (n : ℕ). Some n) (omega arith)

keeps-end : (front word : List ℕ) → 0 < length word → list_any is_blank word ≡ false → without_last_blanks (front ++ word) ≡ front ++ word
keeps-end front [] some free = absurd (omega arith)
keeps-end front (x ∷ xs) some free =
    let last = last-behind (λ c. not (is_blank c)) front (x ∷ xs) (length xs) (ends x xs free) in
    ap (λ (o : Option ℕ). take (option_map_or (λ i. i + 1) o 0) (front ++ (x ∷ xs))) last ∙ take_all (length front + length xs + 1) (front ++ (x ∷ xs)) (omega (arith, length-append front (x ∷ xs)))

keeps-both : (name word : List ℕ) → HasName name → 0 < length word → list_any is_blank word ≡ false → trimmed_cell (name ++ (32 ∷ word)) ≡ name ++ (32 ∷ word)
keeps-both [] word h some free = cc h.some
keeps-both (c ∷ cs) word h some free =
    let cell : List ℕ = (c ∷ cs) ++ (32 ∷ word) in
    let front : (cs : List ℕ) → (cs ++ (32 ∷ [])) ++ word ≡ cs ++ (32 ∷ word) = λ cs. append_assoc cs (32 ∷ []) word in
    let same : without_last_blanks cell ≡ cell = ap without_last_blanks (sym (front (c ∷ cs))) ∙ keeps-end ((c ∷ cs) ++ (32 ∷ [])) word some free ∙ front (c ∷ cs) in
    ap (λ (t : List ℕ). drop (prefix_len is_blank t) t) same ∙ ap (λ b. drop (if b then 1 + prefix_len is_blank (cs ++ (32 ∷ word)) else 0) cell) (first-plain c cs h)

-- the cell is cut at its last blank, between the name and the type
cut : (name word : List ℕ) (ty : Ty) → IsOwnName name → IsOwn name → HasName name → IsTypeText word ty → in_bounds ty ≡ true
    → heading_of (name ++ (32 ∷ word)) ≡ Ok (record { name = name; ty = Some ty })
unfolding heading_of heading_of_text
cut name word ty same o h w bound =
    let cell : List ℕ = name ++ (32 ∷ word) in
    let lower : map to_ascii_lowercase cell ≡ cell = map-append to_ascii_lowercase name (32 ∷ word) ∙ ap (λ (t : List ℕ). t ++ (32 ∷ map to_ascii_lowercase word)) o.lower ∙ ap (λ (t : List ℕ). name ++ (32 ∷ t)) w.lower in
    let behind : drop (length name + 1) cell ≡ word =
    ap (λ (t : List ℕ). drop (length name + 1) t) (sym (append_assoc name (32 ∷ []) word)) ∙ drop_at (name ++ (32 ∷ [])) word (length name + 1) (length-append name (32 ∷ [])) in
    ap (λ (t : List ℕ). heading_of_text (trimmed_cell t)) lower
    ∙ ap heading_of_text (keeps-both name word h w.some w.free)
    ∙ ap (λ (p : Option ℕ). option_map_or (λ i. heading_by cell (name_of (take i cell)) (type_spelled (drop (i + 1) cell))) p (plain_heading (name_of cell))) (last-here is_blank name 32 word refl w.free)
    ∙ ap (λ (t : List ℕ). heading_by cell (name_of t) (type_spelled (drop (length name + 1) cell))) (take_at name (32 ∷ word) (length name) refl)
    ∙ ap (λ (r : Result (List ℕ) BadName). heading_by cell r (type_spelled (drop (length name + 1) cell))) same
    ∙ ap (λ (t : List ℕ). heading_by cell (Ok name) (type_spelled t)) behind
    ∙ ap (λ (p : Option Ty). heading_by cell (Ok name) p) w.type_is
    ∙ ap (λ b. typed_heading name (if b then Some ty else None)) bound

pub heading-read : ReadsTypes → (c : Column) → IsNamed c → in_bounds c.ty ≡ true → heading_of (heading_text c) ≡ Ok (record { name = c.name; ty = Some c.ty })
heading-read types c named bound =
    let o = own c.name named.0 in
    cut c.name (type_text c.ty) c.ty named.0 o (has-name c.name o.good) (types c.ty bound) bound

pub heading-text : ReadsTypes → (c : Column) → IsNamed c → in_bounds c.ty ≡ true → IsUtf8 (heading_text c)
heading-text types c named bound =
    IsUtf8-append c.name (32 ∷ type_text c.ty) named.1 (IsUtf8-append (32 ∷ []) (type_text c.ty) (one-text 32 (lit< tt)) (types c.ty bound).utf8)

pub heading-begins : (c : Column) → IsNamed c → Begins (heading_text c)
heading-begins c named =
    let o = own c.name named.0 in
    let b = name-begins c.name named.1 (has-name c.name o.good) in
    record {
      first = b.first;
      more = b.more ++ (32 ∷ type_text c.ty);
      text_is = ap (λ (t : List ℕ). t ++ (32 ∷ type_text c.ty)) b.text_is ∙ append_assoc (encode b.first) b.more (32 ∷ type_text c.ty);
      no_mark = b.no_mark;
    }
