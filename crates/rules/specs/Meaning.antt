-- 01, Plain meaning and report: what a sheet does to flash, and its report, without packets; 02, M-106: "carries the option bits too".
-- Assumes nothing.
use Rattle.std.specs.Prelude.{ℕ, zero, suc, ◌+◌, ◌-◌, min, cond, ◌&&◌, List, leb, eqb, set}
use Rattle.rules.specs.declared.Chip.{Chip}
use Rattle.rules.specs.declared.Options.{Options}
use Rattle.rules.specs.declared.Kind.{Kind}
use Rattle.rules.specs.declared.Kind.TheVariants.{Erase, Write, Verify, Sum, Blank, Lock}
use Rattle.rules.specs.declared.Step.{Step}
use Rattle.rules.specs.declared.Status.TheVariants.{Byte}
use Rattle.rules.specs.declared.Report.{Report}
use Rattle.rules.specs.Chip.{Memory, same, blank, block, first_page, page_of, put_page, block_of_page, erase_block, bytes_from, checksum}
use Rattle.rules.specs.Options.{erase_protected, write_protected, security_set}
use Rattle.rules.specs.Sheet.{count, step_at, step_blocks, step_pages, step_body, body_page}

-- pieces done one after the other, up to the first that fails: the memory, how many were done, and the status
pub record Tried : Type 0 where
  pub memory : Memory
  pub done : ℕ
  pub status : ℕ

abbrev pub tried : Memory → ℕ → ℕ → Tried
tried m n st = record { memory = m; done = n; status = st }

-- "Erase: each block upward, 10h at a protected one": n blocks are done, so many are left
unfoldable pub erase_from : Options → Step → Memory → ℕ → ℕ → Tried
erase_from o t m n zero = tried m n 0x06
erase_from o t m n (suc left) =
    let b = block (t.first.0 + n) in
    let later = erase_from o t (erase_block m t.flash b) (n + 1) left in
    cond (erase_protected o t.flash b) (tried m n 0x10) later

-- "Write: each page upward, 10h if protected, else 1Ch if not blank, else copied; earlier pages stay"
unfoldable pub write_from : Options → List ℕ → Step → Memory → ℕ → ℕ → Tried
write_from o s t m n zero = tried m n 0x06
write_from o s t m n (suc left) =
    let f = t.flash in
    let k = first_page f t.first + n in
    let later = write_from o s t (put_page m f k (body_page s t n)) (n + 1) left in
    cond (write_protected o f (block_of_page f k))
    (tried m n 0x10)
    (cond (blank (page_of m f k)) later (tried m n 0x1C))

-- what a step comes to
pub record Done : Type 0 where
  pub memory : Memory
  pub status : ℕ
  pub pieces : ℕ
  pub frames : ℕ
  pub sum : ℕ

abbrev pub done : Memory → ℕ → ℕ → ℕ → ℕ → Done
done m st pieces frames sum = record { memory = m; status = st; pieces = pieces; frames = frames; sum = sum }

-- Frames: "erase one per block tried"; pieces: "blocks erased before it"
unfoldable pub erase_done : Tried → Done
erase_done w =
    cond (eqb w.status 0x06)
    (done w.memory 0x06 0 w.done 0)
    (done w.memory w.status w.done (w.done + 1) 0)

-- Frames: "write 1 + pages, or, if page j of p fails, 1 + the smaller of j + 1 and p"; pieces: "j − 1, but p − 2 if j = p and p is 2 or more"
abbrev pub write_pieces : ℕ → ℕ → ℕ
write_pieces j p = cond (eqb j p && leb 2 p) (p - 2) (j - 1)

unfoldable pub write_done : ℕ → Tried → Done
write_done p w =
    let j = w.done + 1 in
    cond (eqb w.status 0x06)
    (done w.memory 0x06 0 (1 + p) 0)
    (done w.memory w.status (write_pieces j p) (1 + min (j + 1) p) 0)

-- one step, by its kind. Frames: "sum one; verify 1 + pages"; 02, M-106: blank check "of flash alone" and lock, "each is one frame"
unfoldable pub step_done : Kind → Options → List ℕ → Step → Memory → Done
step_done Erase o s t m = erase_done (erase_from o t m 0 (step_blocks t))
step_done Write o s t m = write_done (step_pages t) (write_from o s t m 0 (step_pages t))
step_done Verify o s t m =
    let equal = same (bytes_from m t.flash t.first t.last) (step_body s t) in
    done m (cond equal 0x06 0x0F) 0 (1 + step_pages t) 0
step_done Sum o s t m = done m 0x06 0 1 (checksum (bytes_from m t.flash t.first t.last))
step_done Blank o s t m =
    done m (cond (blank (bytes_from m t.flash t.first t.last)) 0x06 0x1B) 0 1 0
step_done Lock o s t m = done m 0x06 0 1 0

-- ONE STEP
unfoldable pub step_meaning : Options → List ℕ → Step → Memory → Done
unfolding step_done
step_meaning o s t m = step_done t.kind o s t m

-- 02, M-106: the option bits behind a step: a lock makes them those of a Security Set with its flags
unfoldable pub options_by : Kind → Step → Options → Options
options_by Erase t o = o
options_by Write t o = o
options_by Verify t o = o
options_by Sum t o = o
options_by Blank t o = o
options_by Lock t o = security_set t.flags.sf1 t.flags.sf2 o

unfoldable pub options_after : Step → Options → Options
unfolding options_by
options_after t o = options_by t.kind t o

-- what a play comes to
pub record Ended : Type 0 where
  pub memory : Memory
  pub options : Options
  pub report : Report
  pub sums : List ℕ

abbrev pub ended : Memory → Options → ℕ → ℕ → ℕ → ℕ → List ℕ → Ended
ended m o st steps frames pieces sums =
    let r : Report = record { status = Byte st; steps = steps; frames = frames; pieces = pieces } in
    record { memory = m; options = o; report = r; sums = sums }

-- "Steps run in order up to the first that fails": step i and those behind it, so many, after so many frames
unfoldable pub meaning_from : Chip → List ℕ → Options → Memory → ℕ → ℕ → List ℕ → ℕ → Ended
meaning_from chip s o m i frames sums zero = ended m o 0x06 i frames 0 sums
meaning_from chip s o m i frames sums (suc left) =
    let t = step_at chip s i in
    let d = step_meaning o s t m in
    let after = options_after t o in
    let later = meaning_from chip s after d.memory (i + 1) (frames + d.frames) (set sums i d.sum) left in
    cond (eqb d.status 0x06) later (ended d.memory after d.status i (frames + d.frames) d.pieces sums)

-- THE MEANING of an accepted sheet, on options, flash and a list for sums
unfoldable pub meaning : Chip → List ℕ → Options → Memory → List ℕ → Ended
meaning chip s o m sums = meaning_from chip s o m 0 0 sums (count s)

-- the frames of each step, in a list lent for them: those of step i and of so many behind it, "up to the first that fails"; entries of steps
-- not reached stand
unfoldable pub step_frames_from : Chip → List ℕ → Options → Memory → ℕ → List ℕ → ℕ → List ℕ
step_frames_from chip s o m i each zero = each
step_frames_from chip s o m i each (suc left) =
    let t = step_at chip s i in
    let d = step_meaning o s t m in
    let put = set each i d.frames in
    let later = step_frames_from chip s (options_after t o) d.memory (i + 1) put left in
    cond (eqb d.status 0x06) later put

-- THE FRAMES OF EACH STEP of an accepted sheet
unfoldable pub step_frames : Chip → List ℕ → Options → Memory → List ℕ → List ℕ
step_frames chip s o m each = step_frames_from chip s o m 0 each (count s)
