-- 02, M-103: the theorem of a HEX text that specs/HexText.antt states. Assumes nothing.
use mathlib.Core.Path.{◌≡◌, refl, ◌∙◌}
use mathlib.Core.Bool.{Bool, true, false, cond}
use mathlib.Core.List.{List}
use Prim.Native.Nat.{ℕ, ◌≤◌}
use native.Mathlib.Omega.{arith}
use lib.Dec.{ltb}
use lib.ListN.{length, take, drop}
use lib.Seq.{take_at}
use borrow.Author.Tests.{ltb-false}
use Rattle.rules.specs.declared.Options.{Options}
use Rattle.rules.specs.Answers.{HexRead, HexMade, Sheet, Refused}
use Rattle.rules.specs.Answers as read
use Rattle.rules.specs.declared.hex.HexRefusal.{HexRefusal}
use Rattle.rules.specs.declared.hex.HexRefusal.TheVariants.{ManySteps, ManyBytes, ShortBuffer}
use Rattle.rules.specs.First.{first}
use Rattle.rules.specs.Chip.{Memory, small, over}
use Rattle.rules.specs.Options.{fresh_options}
use Rattle.rules.specs.Sheet.{most_steps}
use Rattle.rules.specs.Meaning.{meaning}
use Rattle.rules.specs.Hex.{no_cells, hex_read, steps_of, sheet_of, sheet_made, making_of, made_of, hex_made}
use Rattle.rules.specs.StandIn.{feed, powered}
use Rattle.rules.specs.Run.{Ran, clean, run}
use Rattle.joined_laws.specs.Turns.{Fit, Comes}
use Rattle.joined_laws.proofs.LengthsKept.{feed_kept}
use Rattle.joined_laws.proofs.PowerOn.{from_power_on, from_opening}
use Rattle.joined_laws.proofs.Run.{known_run}
use Rattle.hex_laws.specs.Programmed.{Unprotected, Runs}
use Rattle.hex_laws.specs.HexText.{Accepts, made_sheet, cells_of, HexAccepted, HexMeans, HexRuns, HexRunsOpened, HexRunsFed}
use Rattle.hex_laws.proofs.CellsKept.{cells_fit}
use Rattle.hex_laws.proofs.SheetMade.{sheet_good}
use Rattle.hex_laws.proofs.Ends.{sheet_ends}

-- ---- what the call's answer says ----

no_sheet_lem : {A : Type 0} (h : HexRefusal) (n : ℕ) → Refused h ≡ Sheet n → A
no_sheet_lem h n e = let z : ◌≡◌ {A = ℕ} 0 1 = cc in absurd (omega arith)

-- the sheet of these cells is small enough, it has that size, and it stands in front of the buffer
record Made (c : Memory) (n : ℕ) (buf : List ℕ) : Type 0 where
  steps : steps_of c ≤ most_steps
  few : length (sheet_of c) ≤ 65536
  size : length (sheet_of c) ≡ n
  sheet : take n buf ≡ sheet_of c

module _ (c : Memory) (out : List ℕ) (n : ℕ) where
  -- none of the three rules applied
  sized_so : sheet_made c (length out) ≡ Sheet n → (steps_of c ≤ most_steps) × (length (sheet_of c) ≤ 65536) × (length (sheet_of c) ≡ n)
  unfolding sheet_made first
  sized_so e = go (ltb most_steps (steps_of c)) (ltb 65536 (length (sheet_of c))) (ltb (length out) (length (sheet_of c))) refl refl e
    where
      go : (x y z : Bool) → ltb most_steps (steps_of c) ≡ x → ltb 65536 (length (sheet_of c)) ≡ y
          → cond x (Refused ManySteps) (cond y (Refused ManyBytes) (cond z (Refused ShortBuffer) (Sheet (length (sheet_of c))))) ≡ Sheet n
          → (steps_of c ≤ most_steps) × (length (sheet_of c) ≤ 65536) × (length (sheet_of c) ≡ n)
      go true y z p q h = no_sheet_lem ManySteps n h
      go false true z p q h = no_sheet_lem ManyBytes n h
      go false false true p q h = no_sheet_lem ShortBuffer n h
      go false false false p q h = (ltb-false most_steps (steps_of c) p, ltb-false 65536 (length (sheet_of c)) q, cc)

  in_front : length (sheet_of c) ≡ n → take n (over (sheet_of c) out) ≡ sheet_of c
  unfolding over
  in_front l = take_at (sheet_of c) (drop (length (sheet_of c)) out) n l

  made_so : (making_of (sheet_made c (length out)) (sheet_of c) out).made ≡ Sheet n → Made c n (making_of (sheet_made c (length out)) (sheet_of c) out).out
  unfolding making_of
  made_so e = go (sheet_made c (length out)) refl e
    where
      go : (x : HexMade) → sheet_made c (length out) ≡ x → (making_of x (sheet_of c) out).made ≡ Sheet n → Made c n (making_of x (sheet_of c) out).out
      go (Sheet k) p h = let s = sized_so (p ∙ h) in record { steps = s.0; few = s.1; size = s.2; sheet = in_front s.2 }
      go (Refused r) p h = no_sheet_lem r n h

read_so : (x : HexRead) (c : Memory) (out : List ℕ) (n : ℕ) → (made_of x c out).made ≡ Sheet n → Made c n (made_of x c out).out
unfolding made_of
read_so read.Ended c out n e = made_so c out n e
read_so read.On c out n e = no_sheet_lem _ n e
read_so (read.Refused h) c out n e = no_sheet_lem h n e

module _ (text out : List ℕ) (n : ℕ) (accepts : Accepts text out n) where
  made : Made (cells_of text) n (hex_made text out).out
  unfolding hex_made
  made = read_so (hex_read text no_cells).read (cells_of text) out n accepts

-- ---- the theorem ----

-- a fresh chip is unprotected
pub fresh_unprotected : Unprotected fresh_options
fresh_unprotected = record { btpr = refl; sepr = refl; wrpr = refl }

pub hex_accepted : HexAccepted
hex_accepted text out n accepts room h =
    let w = made text out n accepts in
    rw w.sheet (sheet_good (cells_of text) (cells_fit text) w.steps w.few room (rw (← w.sheet) h))

pub hex_means : HexMeans
hex_means text out n accepts o free m fit sums =
    let w = made text out n accepts in
    rw w.sheet (sheet_ends (cells_of text) (cells_fit text) w.steps w.few o free m fit sums)

-- a run that comes to the meaning
runs : (text out : List ℕ) (n : ℕ) → Accepts text out n → (o : Options) → Unprotected o → (m : Memory) → Fit small m → (sums : List ℕ) (r : Ran)
    → Comes small (meaning small (made_sheet text out n) o m sums) r → Runs (made_sheet text out n) (cells_of text) o m r
runs text out n accepts o free m fit sums r c =
    record {
      complete = c.complete;
      end = rw c.end (hex_means text out n accepts o free m fit sums);
      over = c.over;
      settled = c.settled;
    }

pub hex_runs : HexRuns
hex_runs text out n accepts j new waiting fit free room =
    let s = made_sheet text out n in
    let ok = hex_accepted text out n accepts (length j.sums) room in
    runs text out n accepts j.state.options free j.state.memory fit j.sums (run clean small s j) (known_run small s j new ok waiting fit)

pub hex_runs_opened : HexRunsOpened
hex_runs_opened text out n accepts o free ident m fit frame reply sums room =
    let s = made_sheet text out n in
    let ok = hex_accepted text out n accepts (length sums) room in
    runs text out n accepts o free m fit sums _ (from_opening small o m fit s frame reply sums ok ident).1

pub hex_runs_fed : HexRunsFed
hex_runs_fed text out n accepts o m fit frame reply sums room bytes waiting free =
    let s = made_sheet text out n in
    let there = (feed small (powered o m) bytes).state in
    let ok = hex_accepted text out n accepts (length sums) room in
    runs text out n accepts there.options free there.memory (feed_kept small (powered o m) fit bytes) sums _ (from_power_on small o m fit s frame reply sums ok bytes waiting)
