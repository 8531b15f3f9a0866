-- 02, M-100 and M-101: the stand-in's own note, of which there may be none. Assumes nothing.
use Rattle.std.specs.Prelude.{ℕ, Option, Some, None}
use Rattle.rules.specs.declared.Flash.{Flash}
use Rattle.rules.specs.declared.Block.{Block}
use Rattle.rules.specs.declared.Note.{Note as Told}
use Rattle.rules.specs.declared.Note.TheVariants as told

abbrev pub Note : Type 0
Note = Option Told

pattern abbrev pub Empty : Note
Empty = None

pattern abbrev pub Used : Flash → Block → ℕ → Note
Used f b k = Some (told.Used f b k)

pattern abbrev pub Bits : Note
Bits = Some told.Bits

pattern abbrev pub EndByte : Note
EndByte = Some told.EndByte

pattern abbrev pub Length : ℕ → ℕ → Note
Length due found = Some (told.Length due found)
