-- 02, M-100: "Flash and options never change"; M-101: "The wire is as before". Assumes nothing.
use Rattle.std.specs.Prelude.{ℕ, ◌≡◌, List}
use Rattle.rules.specs.declared.Chip.{Chip}
use Rattle.rules.specs.declared.Flash.{Flash}
use Rattle.rules.specs.declared.Block.{Block}
use Rattle.rules.specs.declared.Pages.{Pages}
use Rattle.rules.specs.declared.Order.TheVariants.{BlankCheck}
use Rattle.rules.specs.Answers.{Is}
use Rattle.rules.specs.Faults.{Fault}
use Rattle.rules.specs.Frame.{body_of, status_byte, data_fault}
use Rattle.rules.specs.Command.{judged_order}
use Rattle.rules.specs.StandIn.{State, refused, last_page, on_judged, on_page, on_compare}

-- Blank Check, whatever its verdict
abbrev pub BlankCheckChangesNothing : Type 0
BlankCheckChangesNothing =
    (chip : Chip) (s : State) (f : List ℕ) (g : Flash) (a b : Block) (tar : ℕ)
    → let after = (on_judged (judged_order s.options s.memory f (Is (BlankCheck g a b tar))) chip s).state in
    (after.memory ≡ s.memory) × (after.options ≡ s.options)

-- two verdicts with one status byte are answered by the same bytes, whatever note they carry: on a command frame
abbrev pub SameBytes : Type 0
SameBytes = (v w : Fault) (s : State) → status_byte v ≡ status_byte w → (refused v s).answer ≡ (refused w s).answer

-- and on a data frame of Programming and of Verify, with the same body
abbrev pub SamePair : (Pages → State → List ℕ → List ℕ) → Type 0
SamePair answer =
    (p : Pages) (s : State) (f g : List ℕ)
    → status_byte (data_fault (last_page p) f) ≡ status_byte (data_fault (last_page p) g)
    → body_of f ≡ body_of g
    → answer p s f ≡ answer p s g

abbrev pub SamePageBytes : Type 0
SamePageBytes = SamePair (λ p s f. (on_page p s f).answer) × SamePair (λ p s f. (on_compare p s f).answer)
