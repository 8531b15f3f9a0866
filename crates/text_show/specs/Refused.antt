-- The rule that refuses a sheet, with its entry where the rule is an entry's, and in words. Assumes nothing.
use Rattle.std.specs.Prelude.{ℕ, zero, suc, ◌+◌, Bool, false, cond, List, [], ◌∷◌, ◌++◌, ltb}
use Rattle.rules.specs.declared.Refusal.{Refusal}
use Rattle.rules.specs.declared.Refusal.TheVariants.{D0, D1, D2, D3, E1, J1, J2, J3, J4, J5, J6, J7, J8, J9, J10, J11, J12, J13, J14, J15, J16, P1, P2}
use Rattle.rules.specs.Numbers.{refusal_number}
use Rattle.rules.specs.Sheet as sheet
use Rattle.rules.specs.Sheet.{against, count}
use Rattle.rules.specs.Text.{ascii, decimal}

-- what a rule says is wrong; of those that are not a sheet's own, nothing
unfoldable pub meaning : Refusal → List ℕ
meaning D0 = []
meaning D1 = []
meaning D2 = []
meaning D3 = []
meaning E1 = []
meaning J1 = ascii "fewer bytes than a head, or more than a sheet may have"
meaning J2 = ascii "over 64 steps"
meaning J3 = ascii "the table is cut short"
meaning J4 = ascii "its form has no such kind of step"
meaning J5 = ascii "its zero byte is not zero"
meaning J6 = ascii "its addresses are not whole blocks of one flash of the chip"
meaning J7 = ascii "its offset is not the one due"
meaning J8 = ascii "its body goes past the end of the sheet"
meaning J9 = ascii "bytes are left over behind the last body"
meaning J10 = []
meaning J11 = ascii "the chip number is not 1 or 2, or the byte behind it is not zero"
meaning J12 = ascii "it clears IFPR and is not the last step, or its filler is not zero"
meaning J13 = ascii "a page is written twice with no erase of it between"
meaning J14 = []
meaning J15 = []
meaning J16 = []
meaning P1 = []
meaning P2 = []

-- the rules of an entry, J4 to J8 and J12: entry i breaks that one
unfoldable pub breaks : Refusal → List ℕ → ℕ → Bool
breaks D0 s i = false
breaks D1 s i = false
breaks D2 s i = false
breaks D3 s i = false
breaks E1 s i = false
breaks J1 s i = false
breaks J2 s i = false
breaks J3 s i = false
breaks J4 s i = sheet.J4 s i
breaks J5 s i = sheet.J5 s i
breaks J6 s i = sheet.J6 (against s) s i
breaks J7 s i = sheet.J7 s i
breaks J8 s i = sheet.J8 s i
breaks J9 s i = false
breaks J10 s i = false
breaks J11 s i = false
breaks J12 s i = sheet.J12 s i
breaks J13 s i = false
breaks J14 s i = false
breaks J15 s i = false
breaks J16 s i = false
breaks P1 s i = false
breaks P2 s i = false

-- the first entry that breaks a rule, of entry i and those behind it, so many; where none does, the one behind them. The entries before the one that a
-- sheet is refused for break no rule, so it is the first that breaks this one
unfoldable pub first_to_break : Refusal → List ℕ → ℕ → ℕ → ℕ
first_to_break n s i zero = i
first_to_break n s i (suc left) = let later = first_to_break n s (i + 1) left in cond (breaks n s i) i later

-- `entry 2, `: entries are numbered from 1, as steps are; nothing where the rule is not an entry's
unfoldable pub entry_text : ℕ → ℕ → List ℕ
entry_text i n = cond (ltb i n) (ascii "entry " ++ decimal (i + 1) ++ ascii ", ") []

-- `refused J7: `
unfoldable pub rule_text : Refusal → List ℕ
rule_text n = ascii "refused " ++ ((refusal_number n).letter ∷ []) ++ decimal (refusal_number n).number ++ ascii ": "

-- `refused J7: entry 2, its offset is not the one due`
unfoldable pub refused_text : List ℕ → Refusal → List ℕ
refused_text s n = rule_text n ++ entry_text (first_to_break n s 0 (count s)) (count s) ++ meaning n ++ ascii "\n"
