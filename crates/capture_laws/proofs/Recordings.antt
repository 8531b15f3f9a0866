-- 02, M-111: a capture recorded from our chip is accepted, as specs/Recorded.antt states. Assumes nothing.
use mathlib.Core.Path.{◌≡◌, refl, sym, ap, ◌∙◌}
use mathlib.Core.Bool.{true}
use mathlib.Core.List.{List, [], ◌∷◌}
use Prim.Native.Nat.{ℕ, suc}
use native.Mathlib.Numerals.{add-one}
use native.Mathlib.Omega.{arith}
use lib.ListN.{length}
use borrow.Author.Tests.{ne_eqb}
use Rattle.rules.specs.declared.Chip.{Chip}
use Rattle.rules.specs.CaptureVerdicts.{Accepted}
use Rattle.rules.specs.Chip.{same}
use Rattle.rules.specs.Lines.{lines_of, is_row, row_bytes, values}
use Rattle.rules.specs.StandIn.{State}
use Rattle.rules.specs.Capture.{power_sign, sent_sign, given_sign, some_pairs, is_line, given, Heard, heard, stated, Looked, hears, fits, judged}
use Rattle.text_capture.proofs.Judging.{captured_taken}
use Rattle.capture_laws.specs.Conditions.{off}
use Rattle.capture_laws.specs.Recorded.{Act, Power, Sent, recorded, Gave, RecordedAccepted}
use Rattle.capture_laws.proofs.Lines.{same_self}

-- ---- lines of good form ----

sent_line : (row : List ℕ) → some_pairs row ≡ true → is_line (sent_sign ∷ row) ≡ true
unfolding is_line same
sent_line row e = e

given_line : (b : ℕ) (row : List ℕ) → is_row (b ∷ row) ≡ true → is_line (given_sign ∷ b ∷ row) ≡ true
unfolding is_line same some_pairs
given_line b row e = rw (ne_eqb (length (b ∷ row)) 0 (λ z. omega (arith, z)), e)

-- ---- one line more ----

module _ (chip : Chip) (l : List ℕ) (ls : List (List ℕ)) (n : ℕ) (s : State) (due : List ℕ) where
  on : is_line l ≡ true → fits n due l ≡ true → judged chip (l ∷ ls) [] n (heard s due) ≡ judged chip ls [] (suc n) (hears chip s l)
  unfolding judged
  on f g = rw (f, g, add-one)

nothing_due : (h : Heard) → h.due ≡ [] → h ≡ heard h.state []
nothing_due h e = ap (λ (d : List ℕ). heard h.state d) e

-- ---- the acts one after the other ----

pub goes_on_lem : (chip : Chip) (acts : List Act) (n : ℕ) (s : State) → Gave chip s acts → (judged chip (recorded acts) [] (suc n) (heard s [])).verdict ≡ Accepted
unfolding Gave recorded judged fits given same is_line hears row_bytes values
goes_on_lem chip [] n s g = refl
goes_on_lem chip (Power ∷ acts) n s g =
    ap (λ (l : Looked). l.verdict) (on chip (power_sign ∷ []) (recorded acts) (suc n) s [] refl refl)
    ∙ goes_on_lem chip acts (suc n) (hears chip s (power_sign ∷ [])).state g
goes_on_lem chip (Sent row [] ∷ acts) n s g =
    let l = sent_sign ∷ row in
    ap (λ (k : Looked). k.verdict) (on chip l (recorded acts) (suc n) s [] (sent_line row g.0) refl ∙ ap (judged chip (recorded acts) [] (suc (suc n))) (nothing_due (hears chip s l) (sym g.2)))
    ∙ goes_on_lem chip acts (suc n) (hears chip s l).state g.3
goes_on_lem chip (Sent row (b ∷ row') ∷ acts) n s g =
    let l = sent_sign ∷ row in
    let a = given_sign ∷ b ∷ row' in
    let h = hears chip s l in
    ap (λ (k : Looked). k.verdict) (on chip l (a ∷ recorded acts) (suc n) s [] (sent_line row g.0) refl ∙ on chip a (recorded acts) (suc (suc n)) h.state h.due (given_line b row' g.1) (rw (← g.2) (same_self (row_bytes (b ∷ row')))))
    ∙ goes_on_lem chip acts (suc (suc n)) h.state g.3

-- THE THEOREM
pub recorded_accepted : RecordedAccepted
unfolding Gave recorded judged fits same is_line hears
recorded_accepted chip o m text acts e ls left g =
    let lines : judged chip (lines_of text).ended (lines_of text).rest 0 (stated o m) ≡ judged chip (recorded (Power ∷ acts)) [] 0 (stated o m) = rw (ls, left) in
    ap (λ (l : Looked). l.verdict) (captured_taken chip o m text e ∙ lines ∙ on chip (power_sign ∷ []) (recorded acts) 0 (off o m) [] refl refl)
    ∙ goes_on_lem chip acts 0 (hears chip (off o m) (power_sign ∷ [])).state g
