-- 01, Trials 15 and 16, and further texts: what is printed, and whether the definitions make it so. Assumes nothing.
use Rattle.std.specs.Prelude.{ℕ, Bool, true, ◌&&◌, List, [], ◌∷◌, ◌++◌}
use Prim.Native.String.{String}
use Rattle.rules.specs.declared.Refusal.TheVariants.{D1}
use Rattle.rules.specs.Answers.{Refused}
use Rattle.rules.specs.declared.Status.{Status}
use Rattle.rules.specs.declared.Status.TheVariants.{Byte, L1}
use Rattle.rules.specs.declared.Report.{Report}
use Rattle.rules.specs.Chip.{small, same}
use Rattle.rules.specs.Options.{fresh_options}
use Rattle.rules.specs.Text.{ascii, end_line, busy_line, play_text, verdict_text}
use Rattle.rules.specs.Texts.{printed}
use Rattle.trials_rows.specs.Rows.{no_erase, filled, entry}

-- a text as it is made, and as it should read
pub record Printed : Type 0 where
  pub made : List ℕ
  pub due : String

abbrev prints : List ℕ → String → Printed
prints made due = record { made = made; due = due }

unfoldable pub all_print : List Printed → Bool
all_print [] = true
all_print (t ∷ ts) = same t.made (ascii t.due) && all_print ts

abbrev report : Status → ℕ → ℕ → ℕ → Report
report status steps frames pieces = record { status = status; steps = steps; frames = frames; pieces = pieces }

-- erase, write and sum of F1000h to F10FFh, body all A5h; a sum and an erase of it; a sum and a verify
abbrev trial16 : List ℕ
trial16 = 0x03 ∷ 0x00 ∷ (entry 1 0x10 0x10 38 ++ entry 2 0x10 0x10 38 ++ entry 4 0x10 0x10 294 ++ filled 0xA5)

abbrev sum_erase : List ℕ
sum_erase = 0x02 ∷ 0x00 ∷ (entry 4 0x10 0x10 26 ++ entry 1 0x10 0x10 26)

abbrev sum_verify : List ℕ
sum_verify = 0x02 ∷ 0x00 ∷ (entry 4 0x10 0x10 26 ++ entry 3 0x10 0x10 26 ++ filled 0xFF)

unfoldable pub texts : List Printed
texts =
    -- 15: the empty sheet; one byte
    prints (printed fresh_options (0x00 ∷ 0x00 ∷ []) 64 []) "step kind status frames sum\nend 06 steps 0 frames 0 pieces 0\n"
    ∷ prints (printed fresh_options (0x00 ∷ []) 64 []) "refused J1\n"
    -- 16
    ∷ prints
    (printed fresh_options trial16 64 (1 ∷ 2 ∷ 1 ∷ []))
    "step kind status frames sum\n1 erase 06 1 0000\n2 write 06 2 0000\n3 sum 06 1 5B00\nend 06 steps 3 frames 4 pieces 0\n"
    -- its list of sums too short; lent memory of a wrong length; a stand-in that does not wait for a command
    ∷ prints (printed fresh_options trial16 2 []) "refused J10\n"
    ∷ prints (verdict_text (Refused D1) []) "refused D1\n"
    ∷ prints busy_line "refused busy\n"
    -- stopped by a status, and by L1: the step has its frames, and no sum whatever the list holds
    ∷ prints
    (printed no_erase sum_erase 64 (1 ∷ 1 ∷ []))
    "step kind status frames sum\n1 sum 06 1 0100\n2 erase 10 1 0000\nend 10 steps 1 frames 2 pieces 0\n"
    ∷ prints
    (play_text small sum_verify (report L1 1 13 7) (0xAB09 ∷ 0x0007 ∷ []) (1 ∷ 12 ∷ []))
    "step kind status frames sum\n1 sum 06 1 AB09\n2 verify L1 12 0000\nend L1 steps 1 frames 13 pieces 7\n"
    -- numbers of several digits
    ∷ prints (end_line (report (Byte 0x1C) 60 2101312 100)) "end 1C steps 60 frames 2101312 pieces 100\n"
    ∷ []
