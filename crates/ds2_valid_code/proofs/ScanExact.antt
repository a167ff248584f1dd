-- The test along the list says yes exactly where operand types are determined and suffice.
use Rattle.std.proofs.Common.{◌≡◌, ℕ, zero, suc, ◌+◌, Bool, true, false, ◌&&◌, List, [], ◌∷◌, length, map, Option, Some, None, refl, sym, ap, ◌∙◌, subst, arith}
use Rattle.std.specs.Prelude.{slice_get, if◌then◌else◌}
use Rattle.std.specs.Option.{option_map}
use Rattle.ds2_value.specs.declared.ty.Ty.{Ty}
use Rattle.ds2_code.specs.declared.instr.Instr.{Instr}
use Rattle.ds2_code.specs.declared.parts.MethodPart.{MethodPart}
use Rattle.ds2_code.specs.declared.parts.ProgramParts.{ProgramParts}
use Rattle.ds2_code.specs.CodeBound.{jump_target, falls_through}
use Rattle.ds2_code.specs.InstructionTable.{kind_of}
use Rattle.ds2_code.specs.OperandTypes.{OperandTypes, CodeRole, OfUnit, OfMethod, signature_of, types_behind}
use Rattle.ds2_code.specs.ValidCode.{CodePoint, point, unit_entries, Arrives, behind_instruction, AlongList, HasOperandTypes}
use Rattle.ds2_valid_code.specs.declared.owner.CodeOwner.{CodeOwner}
use Rattle.ds2_valid_code.specs.declared.owner.CodeOwner.TheVariants.{Unit as UnitCode}
use Rattle.ds2_valid_code.specs.OperandStack.{stands_empty}
use Rattle.ds2_valid_code.specs.CodeScan.{CodeMark, owner_role, owner_of, same_owner, entry_table, entry_found, Standing, standing, arriving, types_onward, mark_of, on_standing, on_types, with_mark, scan_code, is_clear_for, lands_clear, jumps_land, units_clear, methods_clear, is_entered_clear, types_suffice}
use Rattle.ds2_valid_code.proofs.OwnerLemmas.{both, and_so, split, join, IsKnown, owner_same, owner_is, one_owner, owner_known, entries_agree, entries_known}

empty_is : (ts : OperandTypes) → stands_empty ts ≡ true → ts ≡ []
empty_is [] h = refl
empty_is (t ∷ ts) h = absurd cc

-- what is found in a list that was made of another one
map_found : {A B : Type 0} (f : A → B) (xs : List A) (k : ℕ) (y : B) → slice_get (map f xs) k ≡ Some y → (x : A) × (slice_get xs k ≡ Some x) × (f x ≡ y)
map_found f [] k y h = absurd cc
map_found f (x ∷ xs) zero y h = let w : f x ≡ y = cc in (x, refl, w)
map_found f (x ∷ xs) (suc k) y h = map_found f xs k y h

found_map : {A B : Type 0} (f : A → B) (xs : List A) (k : ℕ) (x : A) → slice_get xs k ≡ Some x → slice_get (map f xs) k ≡ Some (f x)
found_map f [] k x h = absurd cc
found_map f (y ∷ xs) zero x h = let w : y ≡ x = cc in ap (λ z. Some (f z)) w
found_map f (y ∷ xs) (suc k) x h = found_map f xs k x h

behind_is : (b : Bool) (r : CodeRole) (ts : OperandTypes) → behind_instruction b r ts ≡ point r (types_onward b ts)
behind_is true r ts = refl
behind_is false r ts = refl

module _ (code : ProgramParts) (parameters : List (Option Ty)) where
  -- what is known in a standing
  abbrev point_of : Standing → CodePoint
  point_of s = point (owner_role code.methods s.owner) s.types

  -- what the scan does from an instruction on
  abbrev scan_on : ℕ → Instr → List Instr → Standing → OperandTypes → Option (List CodeMark)
  scan_on at i is q types = scan_code code parameters (entry_table code) (at + 1) (falls_through (kind_of i)) (standing q.owner (types_onward (falls_through (kind_of i)) types)) is

  abbrev scan_with : ℕ → Instr → List Instr → Standing → Option OperandTypes → Option (List CodeMark)
  scan_with at i is q found = on_types found (λ types. with_mark (mark_of q) (scan_on at i is q types))

  abbrev scan_from : ℕ → Instr → List Instr → Option Standing → Option (List CodeMark)
  scan_from at i is arrived = on_standing arrived (λ q. scan_with at i is q (types_behind code parameters (owner_role code.methods q.owner) i q.types))

  -- ---- the scan finds the points

  arrives_is : (o : Option CodeOwner) (came : Bool) (s q : Standing) → arriving o came s ≡ Some q → Arrives (option_map (owner_role code.methods) o) came (point_of s) (point_of q)
  arrives_is None came s q h = let w : s ≡ q = cc in ap point_of (sym w)
  arrives_is (Some o) false s q h = let w : standing o [] ≡ q = cc in ap point_of (sym w)
  arrives_is (Some o) true s q h = by (same_owner o s.owner && stands_empty s.types) refl h
    where
      by : (b : Bool) → (same_owner o s.owner && stands_empty s.types) ≡ b → (if b then Some (standing o []) else None) ≡ Some q
          → (point_of s ≡ point (owner_role code.methods o) []) × (point_of q ≡ point_of s)
      by false e h = absurd cc
      by true e h =
          let k = both (same_owner o s.owner) (stands_empty s.types) e in
          let w : standing o [] ≡ q = cc in
          let here : point_of s ≡ point (owner_role code.methods o) [] =
          ap (λ z. point (owner_role code.methods z) s.types) (sym (owner_is o s.owner k.0)) ∙ ap (λ z. point (owner_role code.methods o) z) (empty_is s.types k.1) in
          (here, ap point_of (sym w) ∙ sym here)

  -- the points that were found, for marks
  abbrev Found : ℕ → Bool → Standing → List Instr → List CodeMark → Type 0
  Found at came s is marks = (ss : List Standing) × AlongList code parameters at came (point_of s) is (map point_of ss) × (marks ≡ map mark_of ss)

  scan_finds : (is : List Instr) (at : ℕ) (came : Bool) (s : Standing) (marks : List CodeMark) → at + length is ≡ length code.instrs
      → scan_code code parameters (entry_table code) at came s is ≡ Some marks → Found at came s is marks
  scan_finds [] at true s marks l h = absurd cc
  scan_finds [] at false s marks l h = ([], refl, let w : [] ≡ marks = cc in sym w)
  scan_finds (i ∷ is) at came s marks l h =
      first (arriving (entry_found (slice_get (entry_table code) at)) came s) refl h
      (λ q types more g. scan_finds is (at + 1) (falls_through (kind_of i)) (standing q.owner (types_onward (falls_through (kind_of i)) types)) more (omega (arith, l)) g)
    where
      first : (o : Option Standing) → arriving (entry_found (slice_get (entry_table code) at)) came s ≡ o → scan_from at i is o ≡ Some marks
          → ((q : Standing) (types : OperandTypes) (more : List CodeMark) → scan_on at i is q types ≡ Some more
          → Found (at + 1) (falls_through (kind_of i)) (standing q.owner (types_onward (falls_through (kind_of i)) types)) is more)
          → Found at came s (i ∷ is) marks
      first None e h go = absurd cc
      first (Some q) e h go = second (types_behind code parameters (owner_role code.methods q.owner) i q.types) refl h
        where
          second : (o : Option OperandTypes) → types_behind code parameters (owner_role code.methods q.owner) i q.types ≡ o → scan_with at i is q o ≡ Some marks → Found at came s (i ∷ is) marks
          second None f h = absurd cc
          second (Some types) f h = third (scan_on at i is q types) refl h
            where
              third : (o : Option (List CodeMark)) → scan_on at i is q types ≡ o → with_mark (mark_of q) o ≡ Some marks → Found at came s (i ∷ is) marks
              third None g h = absurd cc
              third (Some more) g h =
                  let r = go q types more g in
                  let w : mark_of q ∷ more ≡ marks = cc in
                  let b = falls_through (kind_of i) in
                  let here = subst (λ z. Arrives z came (point_of s) (point_of q)) (entries_agree code at (omega (arith, l))) (arrives_is (entry_found (slice_get (entry_table code) at)) came s q e) in
                  let rest = subst (λ z. AlongList code parameters (at + 1) b z is (map point_of r.0)) (sym (behind_is b (owner_role code.methods q.owner) types)) r.1 in
                  (q ∷ r.0, (here, types, f, rest), sym w ∙ ap (λ z. mark_of q ∷ z) r.2)

  -- ---- the points are found by the scan

  -- what arrives is a standing of a known owner
  abbrev Stands : Option CodeOwner → Bool → Standing → CodePoint → Type 0
  Stands o came s here = (q : Standing) × (here ≡ point_of q) × (arriving o came s ≡ Some q) × IsKnown code.methods q.owner

  is_arriving : (o : Option CodeOwner) (came : Bool) (s : Standing) (here : CodePoint) → ((p : CodeOwner) → o ≡ Some p → IsKnown code.methods p) → IsKnown code.methods s.owner
      → Arrives (option_map (owner_role code.methods) o) came (point_of s) here → Stands o came s here
  is_arriving None came s here ko ks h = (s, h, refl, ks)
  is_arriving (Some o) false s here ko ks h = (standing o [], h, refl, ko o refl)
  is_arriving (Some o) true s here ko ks h =
      let roles : owner_role code.methods o ≡ owner_role code.methods s.owner = sym (ap (λ (p : CodePoint). p.role) h.0) in
      let types : s.types ≡ [] = ap (λ (p : CodePoint). p.types) h.0 in
      let one : o ≡ s.owner = one_owner code.methods o s.owner (ko o refl) ks roles in
      let test : (same_owner o s.owner && stands_empty s.types) ≡ true =
      and_so (same_owner o s.owner) (stands_empty s.types) (ap (same_owner o) (sym one) ∙ owner_same o) (ap stands_empty types) in
      (standing o [], h.1 ∙ h.0, ap (λ b. if b then Some (standing o []) else None) test, ko o refl)

  -- each standing is of a known owner
  abbrev AllStandKnown : List Standing → Type 0
  AllStandKnown ss = (k : ℕ) (q : Standing) → slice_get ss k ≡ Some q → IsKnown code.methods q.owner

  one_more_known : (q : Standing) (ss : List Standing) → IsKnown code.methods q.owner → AllStandKnown ss → AllStandKnown (q ∷ ss)
  one_more_known q ss k h zero p g = let w : q ≡ p = cc in subst (λ (z : Standing). IsKnown code.methods z.owner) w k
  one_more_known q ss k h (suc n) p g = h n p g

  abbrev Scanned : ℕ → Bool → Standing → List Instr → List CodePoint → Type 0
  Scanned at came s is ps =
      (ss : List Standing) × (ps ≡ map point_of ss) × (scan_code code parameters (entry_table code) at came s is ≡ Some (map mark_of ss)) × AllStandKnown ss

  points_scan : (is : List Instr) (at : ℕ) (came : Bool) (s : Standing) (ps : List CodePoint) → at + length is ≡ length code.instrs → IsKnown code.methods s.owner
      → AlongList code parameters at came (point_of s) is ps → Scanned at came s is ps
  points_scan [] at came s [] l k f = ([], refl, ap (λ b. if b then None else Some []) f, λ n q g. absurd cc)
  points_scan [] at came s (p ∷ ps) l k f = absurd f
  points_scan (i ∷ is) at came s [] l k f = absurd f
  points_scan (i ∷ is) at came s (p ∷ ps) l k f =
      let b = falls_through (kind_of i) in
      let entry = entry_found (slice_get (entry_table code) at) in
      let a = is_arriving entry came s p (λ o e. entries_known code at o e) k (subst (λ z. Arrives z came (point_of s) p) (sym (entries_agree code at (omega (arith, l)))) f.0) in
      let q = a.0 in
      let types = f.1 in
      let suffice : types_behind code parameters (owner_role code.methods q.owner) i q.types ≡ Some types = ap (λ (z : CodePoint). types_behind code parameters z.role i z.types) (sym a.1) ∙ f.2 in
      let onward : behind_instruction b p.role types ≡ point_of (standing q.owner (types_onward b types)) =
      ap (λ (z : CodePoint). behind_instruction b z.role types) a.1 ∙ behind_is b (owner_role code.methods q.owner) types in
      let r = points_scan is (at + 1) b (standing q.owner (types_onward b types)) ps (omega (arith, l)) a.3 (subst (λ z. AlongList code parameters (at + 1) b z is ps) onward f.3) in (
        q ∷ r.0,
        ap (λ z. z ∷ ps) a.1 ∙ ap (λ z. point_of q ∷ z) r.1,
        ap (scan_from at i is) a.2 ∙ ap (scan_with at i is q) suffice ∙ ap (with_mark (mark_of q)) r.2,
        one_more_known q r.0 a.3 r.3,
      )

  -- there is a point at each instruction
  point_at : (is : List Instr) (at : ℕ) (came : Bool) (s : CodePoint) (ss : List Standing) → AlongList code parameters at came s is (map point_of ss)
      → (k : ℕ) (i : Instr) → slice_get is k ≡ Some i → (q : Standing) × (slice_get ss k ≡ Some q)
  point_at [] at came s ss f k i g = absurd cc
  point_at (j ∷ is) at came s [] f k i g = absurd f
  point_at (j ∷ is) at came s (q ∷ ss) f zero i g = (q, refl)
  point_at (j ∷ is) at came s (q ∷ ss) f (suc k) i g = point_at is (at + 1) (falls_through (kind_of j)) (behind_instruction (falls_through (kind_of j)) (owner_role code.methods q.owner) f.1) ss f.3 k i g

  -- ---- where code is entered

  clear_is : (ss : List Standing) (t : ℕ) (o : CodeOwner) → is_clear_for (slice_get (map mark_of ss) t) o ≡ true → slice_get ss t ≡ Some (standing o [])
  clear_is [] t o h = absurd cc
  clear_is (q ∷ ss) zero o h =
      let k = both (same_owner q.owner o) (stands_empty q.types) h in
      ap (λ z. Some (standing z q.types)) (owner_is q.owner o k.0) ∙ ap (λ z. Some (standing o z)) (empty_is q.types k.1)
  clear_is (q ∷ ss) (suc t) o h = clear_is ss t o h

  is_clear : (ss : List Standing) (t : ℕ) (o : CodeOwner) → slice_get ss t ≡ Some (standing o []) → is_clear_for (slice_get (map mark_of ss) t) o ≡ true
  is_clear ss t o h = ap (λ z. is_clear_for z o) (found_map mark_of ss t (standing o []) h) ∙ and_so (same_owner o o) true (owner_same o) refl

  -- a clear instruction has its point, and one with such a point is clear
  clear_point : (ss : List Standing) (t : ℕ) (o : CodeOwner) → is_clear_for (slice_get (map mark_of ss) t) o ≡ true → slice_get (map point_of ss) t ≡ Some (point (owner_role code.methods o) [])
  clear_point ss t o h = found_map point_of ss t (standing o []) (clear_is ss t o h)

  point_clear : (ss : List Standing) → AllStandKnown ss → (t : ℕ) (o : CodeOwner) → IsKnown code.methods o → slice_get (map point_of ss) t ≡ Some (point (owner_role code.methods o) [])
      → is_clear_for (slice_get (map mark_of ss) t) o ≡ true
  point_clear ss all t o ko h =
      let r = map_found point_of ss t (point (owner_role code.methods o) []) h in
      let q = r.0 in
      let one : q.owner ≡ o = one_owner code.methods q.owner o (all t q r.1) ko (ap (λ (p : CodePoint). p.role) r.2) in
      let types : q.types ≡ [] = ap (λ (p : CodePoint). p.types) r.2 in
      is_clear ss t o (r.1 ∙ ap (λ z. Some (standing z q.types)) one ∙ ap (λ z. Some (standing o z)) types)

  land_at : (marks : List CodeMark) (is : List Instr) (at : ℕ) → jumps_land marks is at ≡ true → (k n : ℕ) (i : Instr) → n ≡ at + k → slice_get is k ≡ Some i
      → lands_clear marks (slice_get marks n) (jump_target (kind_of i)) ≡ true
  land_at marks [] at h k n i e g = absurd cc
  land_at marks (j ∷ is) at h zero n i e g =
      let r = split (lands_clear marks (slice_get marks at) (jump_target (kind_of j))) (jumps_land marks is (at + 1)) h in
      let here : at ≡ n = omega (arith, e) in
      let w : j ≡ i = cc in
      subst (λ z. lands_clear marks (slice_get marks z) (jump_target (kind_of i)) ≡ true) here (subst (λ z. lands_clear marks (slice_get marks at) (jump_target (kind_of z)) ≡ true) w r.0)
  land_at marks (j ∷ is) at h (suc k) n i e g =
      let r = split (lands_clear marks (slice_get marks at) (jump_target (kind_of j))) (jumps_land marks is (at + 1)) h in
      land_at marks is (at + 1) r.1 k n i (omega (arith, e)) g

  all_land_at : (marks : List CodeMark) (is : List Instr) (at : ℕ)
      → ((k n : ℕ) (i : Instr) → n ≡ at + k → slice_get is k ≡ Some i → lands_clear marks (slice_get marks n) (jump_target (kind_of i)) ≡ true) → jumps_land marks is at ≡ true
  all_land_at marks [] at h = refl
  all_land_at marks (j ∷ is) at h =
      join (lands_clear marks (slice_get marks at) (jump_target (kind_of j))) (jumps_land marks is (at + 1)) (h zero at j (omega arith) refl)
      (all_land_at marks is (at + 1) (λ k n i e g. h (suc k) n i (omega (arith, e)) g))

  lands_point : (ss : List Standing) (q : Standing) (o : Option ℕ) (to : ℕ) → o ≡ Some to → lands_clear (map mark_of ss) (Some (mark_of q)) o ≡ true
      → slice_get (map point_of ss) to ≡ Some (point (owner_role code.methods q.owner) [])
  lands_point ss q o to e h = clear_point ss to q.owner (ap (lands_clear (map mark_of ss) (Some (mark_of q))) (sym e) ∙ h)

  point_lands : (ss : List Standing) → AllStandKnown ss → (q : Standing) → IsKnown code.methods q.owner → (o : Option ℕ)
      → ((to : ℕ) → o ≡ Some to → slice_get (map point_of ss) to ≡ Some (point (owner_role code.methods q.owner) [])) → lands_clear (map mark_of ss) (Some (mark_of q)) o ≡ true
  point_lands ss all q kq None h = refl
  point_lands ss all q kq (Some to) h = point_clear ss all to q.owner kq (h to refl)

  units_at : (ss : List Standing) (us : List ℕ) → units_clear (map mark_of ss) us ≡ true → (k at : ℕ) → slice_get us k ≡ Some at → slice_get (map point_of ss) at ≡ Some (point OfUnit [])
  units_at ss [] h k at g = absurd cc
  units_at ss (u ∷ us) h zero at g =
      let r = split (is_clear_for (slice_get (map mark_of ss) u) UnitCode) (units_clear (map mark_of ss) us) h in
      let w : u ≡ at = cc in
      subst (λ z. slice_get (map point_of ss) z ≡ Some (point OfUnit [])) w (clear_point ss u UnitCode r.0)
  units_at ss (u ∷ us) h (suc k) at g = units_at ss us ((split (is_clear_for (slice_get (map mark_of ss) u) UnitCode) (units_clear (map mark_of ss) us) h).1) k at g

  all_units_at : (ss : List Standing) → AllStandKnown ss → (us : List ℕ) → ((k at : ℕ) → slice_get us k ≡ Some at → slice_get (map point_of ss) at ≡ Some (point OfUnit [])) → units_clear (map mark_of ss) us ≡ true
  all_units_at ss all [] h = refl
  all_units_at ss all (u ∷ us) h =
      join (is_clear_for (slice_get (map mark_of ss) u) UnitCode) (units_clear (map mark_of ss) us) (point_clear ss all u UnitCode tt (h zero u refl))
      (all_units_at ss all us (λ k at g. h (suc k) at g))

  -- these are methods of the code
  abbrev OfCode : List MethodPart → Type 0
  OfCode ms = (k : ℕ) (m : MethodPart) → slice_get ms k ≡ Some m → (j : ℕ) × (slice_get code.methods j ≡ Some m)

  methods_at : (ss : List Standing) (ms : List MethodPart) → OfCode ms → methods_clear (map mark_of ss) code.methods ms ≡ true → (k : ℕ) (m : MethodPart) → slice_get ms k ≡ Some m
      → slice_get (map point_of ss) m.entry ≡ Some (point (OfMethod (signature_of m)) [])
  methods_at ss [] are h k m g = absurd cc
  methods_at ss (x ∷ ms) are h zero m g =
      let r = split (is_clear_for (slice_get (map mark_of ss) x.entry) (owner_of code.methods x)) (methods_clear (map mark_of ss) code.methods ms) h in
      let here = are 0 x refl in
      let w : x ≡ m = cc in
      subst (λ (z : MethodPart). slice_get (map point_of ss) z.entry ≡ Some (point (OfMethod (signature_of z)) [])) w
      (clear_point ss x.entry (owner_of code.methods x) r.0 ∙ ap (λ z. Some (point z [])) ((owner_known code.methods here.0 x here.1).1))
  methods_at ss (x ∷ ms) are h (suc k) m g =
      methods_at ss ms (λ k m g. are (suc k) m g) ((split (is_clear_for (slice_get (map mark_of ss) x.entry) (owner_of code.methods x)) (methods_clear (map mark_of ss) code.methods ms) h).1) k m g

  all_methods_at : (ss : List Standing) → AllStandKnown ss → (ms : List MethodPart) → OfCode ms
      → ((k : ℕ) (m : MethodPart) → slice_get ms k ≡ Some m → slice_get (map point_of ss) m.entry ≡ Some (point (OfMethod (signature_of m)) [])) → methods_clear (map mark_of ss) code.methods ms ≡ true
  all_methods_at ss all [] are h = refl
  all_methods_at ss all (x ∷ ms) are h =
      let here = are 0 x refl in
      let known = owner_known code.methods here.0 x here.1 in
      join (is_clear_for (slice_get (map mark_of ss) x.entry) (owner_of code.methods x)) (methods_clear (map mark_of ss) code.methods ms)
      (point_clear ss all x.entry (owner_of code.methods x) known.0 (h zero x refl ∙ ap (λ z. Some (point z [])) (sym known.1)))
      (all_methods_at ss all ms (λ k m g. are (suc k) m g) (λ k m g. h (suc k) m g))

  -- ---- the whole

  pub suffice_types : types_suffice code parameters ≡ true → (points : List CodePoint) × HasOperandTypes code parameters points
  suffice_types h = by (scan_code code parameters (entry_table code) 0 false (standing UnitCode []) code.instrs) refl h
    where
      by : (o : Option (List CodeMark)) → scan_code code parameters (entry_table code) 0 false (standing UnitCode []) code.instrs ≡ o → is_entered_clear code o ≡ true
          → (points : List CodePoint) × HasOperandTypes code parameters points
      by None e h = absurd cc
      by (Some marks) e h =
          let r = scan_finds code.instrs 0 false (standing UnitCode []) marks (omega arith) e in
          let ss = r.0 in
          let h' : is_entered_clear code (Some (map mark_of ss)) ≡ true = ap (λ z. is_entered_clear code (Some z)) (sym r.2) ∙ h in
          let k = both (jumps_land (map mark_of ss) code.instrs 0) (units_clear (map mark_of ss) (unit_entries code) && methods_clear (map mark_of ss) code.methods code.methods) h' in
          let l = both (units_clear (map mark_of ss) (unit_entries code)) (methods_clear (map mark_of ss) code.methods code.methods) k.1 in (
            map point_of ss,
            record {
              along = r.1;
              targets = λ at to i p g f t.
                  let q = map_found point_of ss at p f in
                  let land = land_at (map mark_of ss) code.instrs 0 k.0 at at i (omega arith) g in
                  let here = subst (λ z. lands_clear (map mark_of ss) z (jump_target (kind_of i)) ≡ true) (found_map mark_of ss at q.0 q.1) land in
                  lands_point ss q.0 (jump_target (kind_of i)) to t here ∙ ap (λ (z : CodePoint). Some (point z.role [])) q.2;
              units = units_at ss (unit_entries code) l.0;
              methods = methods_at ss code.methods (λ k m g. (k, g)) l.1;
            },
          )

  pub types_suffice_is : (points : List CodePoint) × HasOperandTypes code parameters points → types_suffice code parameters ≡ true
  types_suffice_is h =
      let t = h.1 in
      let r = points_scan code.instrs 0 false (standing UnitCode []) h.0 (omega arith) tt t.along in
      let ss = r.0 in
      let all = r.3 in
      let along : AlongList code parameters 0 false (point OfUnit []) code.instrs (map point_of ss) = subst (λ z. AlongList code parameters 0 false (point OfUnit []) code.instrs z) r.1 t.along in
      let at_point : (n : ℕ) (p : CodePoint) → slice_get (map point_of ss) n ≡ Some p → slice_get h.0 n ≡ Some p = λ n p e. ap (λ z. slice_get z n) r.1 ∙ e in
      let from_point : (n : ℕ) (p : CodePoint) → slice_get h.0 n ≡ Some p → slice_get (map point_of ss) n ≡ Some p = λ n p e. ap (λ z. slice_get z n) (sym r.1) ∙ e in
      ap (is_entered_clear code) r.2
      ∙ and_so (jumps_land (map mark_of ss) code.instrs 0) (units_clear (map mark_of ss) (unit_entries code) && methods_clear (map mark_of ss) code.methods code.methods)
      (all_land_at (map mark_of ss) code.instrs 0 (λ k n i e g.
      let here : k ≡ n = omega (arith, e) in
      let q = point_at code.instrs 0 false (point OfUnit []) ss along k i g in
      let place : slice_get ss n ≡ Some q.0 = subst (λ z. slice_get ss z ≡ Some q.0) here q.1 in
      let instr : slice_get code.instrs n ≡ Some i = subst (λ z. slice_get code.instrs z ≡ Some i) here g in
      subst (λ z. lands_clear (map mark_of ss) z (jump_target (kind_of i)) ≡ true) (sym (found_map mark_of ss n q.0 place))
      (point_lands ss all q.0 (all n q.0 place) (jump_target (kind_of i))
      (λ to u. from_point to (point (owner_role code.methods q.0.owner) []) (t.targets n to i (point_of q.0) instr (at_point n (point_of q.0) (found_map point_of ss n q.0 place)) u)))))
      (and_so (units_clear (map mark_of ss) (unit_entries code)) (methods_clear (map mark_of ss) code.methods code.methods)
      (all_units_at ss all (unit_entries code) (λ k at g. from_point at (point OfUnit []) (t.units k at g)))
      (all_methods_at ss all code.methods (λ k m g. (k, g)) (λ k m g. from_point m.entry (point (OfMethod (signature_of m)) []) (t.methods k m g))))
