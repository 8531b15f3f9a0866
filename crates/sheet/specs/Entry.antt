-- An entry of a sheet by its fields. Assumes nothing.
use Rattle.std.specs.Prelude.{ℕ, ◌+◌, ◌-◌, ◌*◌, ◌/◌, ◌%◌, Bool, cond, not, ◌&&◌, ◌||◌, List, eqb, Result, Ok, Err, ◌≡◌, ◌<◌, length, get_or}
use Rattle.rules.specs.declared.Address.{Address}
use Rattle.rules.specs.declared.Chip.{Chip}
use Rattle.rules.specs.declared.Refusal.{Refusal}
use Rattle.rules.specs.Answers.{Verdict, Accepted, Refused}
use Rattle.rules.specs.Chip.{byte_at, word_at, address_at, range, invalid}
use Rattle.rules.specs.Sheet.{count, kind_at, sad_at, ead_at, flags_of, zero_at, offset_at, lock_kind, clears}
use Rattle.sheet.specs.declared.table.Entry.{Entry}

-- the fields of entry i
abbrev pub entry_in : List ℕ → ℕ → Entry
entry_in s i =
    record {
      kind = kind_at s i;
      sad = sad_at s i;
      ead = ead_at s i;
      zero = zero_at s i;
      offset = offset_at s i;
    }

-- those of the bytes from an entry on
abbrev pub fields_of : List ℕ → Entry
fields_of e =
    record {
      kind = byte_at e 0;
      sad = address_at e 1;
      ead = address_at e 4;
      zero = byte_at e 7;
      offset = word_at e 8 + 65536 * word_at e 10;
    }

-- the entries of sheet s, each by its bytes
abbrev pub IsTable : List ℕ → List (List ℕ) → Type 0
IsTable s t = (length t ≡ count s) × ((i : ℕ) (d : List ℕ) → i < count s → fields_of (get_or t i d) ≡ entry_in s i)

-- `body_length` and `body_end`, of the fields
unfoldable pub length_of : ℕ → Address → Address → ℕ
length_of kind sad ead = cond (eqb kind 2 || eqb kind 3) (ead.0 - sad.0 + 1) 0

abbrev pub end_of : Entry → ℕ
end_of e = e.offset + length_of e.kind e.sad e.ead

-- J6 and J12, of the fields
unfoldable pub pair_wrong : Chip → Entry → Bool
pair_wrong chip e = not (eqb e.kind lock_kind) && invalid (range chip e.sad e.ead)

unfoldable pub lock_wrong : Entry → Bool → Bool
lock_wrong e last =
    eqb e.kind lock_kind && (clears (flags_of e.sad) && not last || not (eqb (e.sad.0 / 65536 % 256) 0 && eqb e.ead.0 0))

-- the entries judged: where the last body ends, or the refusal
unfoldable pub ended : Verdict → ℕ → Result ℕ Refusal
ended Accepted end = Ok end
ended (Refused n) end = Err n
