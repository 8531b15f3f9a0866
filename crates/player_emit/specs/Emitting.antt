-- The next frame given by itself, on every player and every sheet: a player whose step, block or page is not in the sheet stands. Assumes
-- nothing.
use Rattle.std.specs.Prelude.{ℕ, ◌+◌, ◌*◌, Bool, cond, List, ltb, leb, length}
use Rattle.rules.specs.declared.Chip.{Chip}
use Rattle.rules.specs.declared.Kind.{Kind}
use Rattle.rules.specs.declared.Kind.TheVariants.{Erase}
use Rattle.rules.specs.declared.Stage.{Stage}
use Rattle.rules.specs.declared.Stage.TheVariants.{New, Ready, Block, Commanded, Page, Paged, Over}
use Rattle.rules.specs.declared.Player.{Player}
use Rattle.rules.specs.declared.Step.{Step}
use Rattle.rules.specs.Chip.{over, page_size}
use Rattle.rules.specs.Sheet.{count, step_at}
use Rattle.rules.specs.Player.{Sent, sends, first_command, block_command, page_frame, lost_in, frame_room}

-- the player after a frame, how many bytes were given, and the buffer
pub record Emitting : Type 0 where
  pub player : Player
  pub sent : ℕ
  pub frame : List ℕ

abbrev pub emitting : Player → ℕ → List ℕ → Emitting
emitting p n buffer = record { player = p; sent = n; frame = buffer }

abbrev pub emitting_by : Sent → List ℕ → Emitting
emitting_by e buffer = emitting e.player (length e.bytes) (over e.bytes buffer)

-- page k of the body lies in the sheet; of an accepted sheet each does
abbrev pub page_there : List ℕ → Step → ℕ → Bool
page_there s t k = leb (t.body + k * page_size + page_size) (length s)

unfoldable pub page_into : Kind → List ℕ → Step → Player → List ℕ → Emitting
page_into k s t p buffer =
    cond (page_there s t p.at) (emitting_by (sends (Paged k) p p.at (page_frame s t p.at)) buffer) (emitting p 0 buffer)

unfoldable pub emitted_into_by : Stage → List ℕ → Step → Player → List ℕ → Emitting
emitted_into_by New s t p buffer = emitting p 0 buffer
emitted_into_by Ready s t p buffer = emitting_by (sends (Commanded t.kind) p 0 (first_command t.kind t)) buffer
emitted_into_by Block s t p buffer = emitting_by (sends (Commanded Erase) p p.at (block_command t p.at)) buffer
emitted_into_by (Commanded k) s t p buffer = emitting p 0 buffer
emitted_into_by (Page k) s t p buffer = page_into k s t p buffer
emitted_into_by (Paged k) s t p buffer = emitting p 0 buffer
emitted_into_by Over s t p buffer = emitting p 0 buffer

-- a frame is given in step t of n, whatever sheet they are of
unfoldable pub emitted_at : ℕ → Step → List ℕ → Player → List ℕ → Emitting
emitted_at n t s p buffer =
    cond (ltb (length buffer) frame_room)
    (emitting p 0 buffer)
    (cond (lost_in p.stage n t p) (emitting p 0 buffer) (emitted_into_by p.stage s t p buffer))

-- THE NEXT FRAME IS GIVEN
abbrev pub emitted_into : Chip → List ℕ → Player → List ℕ → Emitting
emitted_into chip s p buffer = emitted_at (count s) (step_at chip s p.step) s p buffer
