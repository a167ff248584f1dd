-- What a contract sees of a store in memory, and what its calls leave of it.
use Rattle.std.specs.Prelude.{ℕ, Bool, List, Option, Some, None, Result, Ok, Err, refl, take, is_some, not, ◌||◌, if◌then◌else◌}
use Rattle.std.specs.FinMap.{code}
use Rattle.std.specs.Coded.{Coded, code_by, coded×, coded_ℕ, coded_list}
use Rattle.ds2_outside.specs.Calls.{next_call, is_to_fail}
use Rattle.ds2_outside.specs.Files.{Files, with_file}
use Rattle.ds2_outside.specs.Tears.{kept_at}
use Rattle.ds2_outside.specs.Written.{is_want_of_memory}
use Rattle.ds2_outside.specs.declared.tear.Tear.{Tear}
use Rattle.ds2_outside.specs.declared.store.WriteStop.{WriteStop}
use Rattle.ds2_outside.specs.declared.store.WriteStop.TheVariants.{Failed, OutOfMemory}

-- a store in memory: its files, and its counts of calls and faults
pub record Memory : Type 0 where
  -- the bytes of each file, by the bytes of its name
  pub files : Files
  -- how many calls of the trait were made
  pub calls : ℕ
  -- the numbers of the calls that fail
  pub failing : List ℕ
  -- the calls that are torn
  pub tears : List Tear
  -- how many calls of `read` and `has` have failed
  pub read_faults : ℕ
  -- how many calls of `write` have failed
  pub write_faults : ℕ

-- a tear is stored as the pair of its fields
abbrev pub tear_code : Coded Tear
tear_code = code_by (ℕ × ℕ) (coded× coded_ℕ coded_ℕ) (λ t. (t.call, t.keep)) (λ p. record { call = p.0; keep = p.1 }) (λ _. refl)

-- a store in memory is stored as the tuple of its fields
abbrev pub memory_code : Coded Memory
memory_code =
    code_by (Files × (ℕ × (List ℕ × (List Tear × (ℕ × ℕ)))))
    (coded× (code (coded_list coded_ℕ) (coded_list coded_ℕ)) (coded× coded_ℕ (coded× (coded_list coded_ℕ) (coded× (coded_list tear_code) (coded× coded_ℕ coded_ℕ)))))
    (λ m. (m.files, (m.calls, (m.failing, (m.tears, (m.read_faults, m.write_faults))))))
    (λ p. record { files = p.0; calls = p.1.0; failing = p.1.1.0; tears = p.1.1.1.0; read_faults = p.1.1.1.1.0; write_faults = p.1.1.1.1.1 })
    (λ _. refl)

-- how many bytes the next call keeps, where it is torn
abbrev pub keeps : Memory → Option ℕ
keeps m = kept_at (next_call m.calls) m.tears

-- whether the next call is to fail: it is listed, or torn
abbrev pub fails : Memory → Bool
fails m = is_to_fail m.calls m.failing || is_some (keeps m)

-- the store once the next call is counted
abbrev pub counted : Memory → Memory
counted m = record m { calls = next_call m.calls }

-- the store after `read` or `has`: the call is counted, and its fault where it is to fail
abbrev pub after_read : Memory → Memory
after_read m = if fails m then record (counted m) { read_faults = next_call m.read_faults } else counted m

-- whether a write with this answer has failed: a torn one always, unless there was no memory; any other exactly where it is listed
abbrev pub write_fails : Memory → Result (Unit {0}) WriteStop → Bool
write_fails m result = if is_some (keeps m) then not (is_want_of_memory result) else is_to_fail m.calls m.failing

-- the files that a failing write leaves: with the first bytes under the name where it is torn, else as they were
abbrev pub torn : Option ℕ → Files → List ℕ → List ℕ → Files
torn (Some keep) files name bytes = with_file files name (take keep bytes)
torn None files name bytes = files

-- the store after a write of these bytes with this answer: the file is there, or what a failing write leaves, or nothing but the
-- count of calls has changed
abbrev pub after_write : Memory → List ℕ → List ℕ → Result (Unit {0}) WriteStop → Memory
after_write m name bytes (Ok x) = record (counted m) { files = with_file m.files name bytes }
after_write m name bytes (Err Failed) =
    record (counted m) { files = torn (keeps m) m.files name bytes; write_faults = next_call m.write_faults }
after_write m name bytes (Err OutOfMemory) = counted m
