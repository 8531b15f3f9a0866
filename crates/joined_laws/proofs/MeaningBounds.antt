-- How large the numbers of a report can be, by the meaning alone: no step has more frames than it can take, nor more pieces. Assumes nothing.
use mathlib.Core.Path.{◌≡◌}
use mathlib.Core.Bool.{Bool, true, false, cond, ◌&&◌}
use mathlib.Core.List.{List, [], ◌∷◌}
use Prim.Native.Nat.{ℕ, zero, suc, ◌+◌, ◌-◌, ◌*◌, ◌<◌, ◌≤◌, min}
use native.Mathlib.Omega.{arith}
use lib.Dec.{eqb, leb}
use lib.ListN.{get_or, set, replicate}
use Rattle.rules.specs.declared.Chip.{Chip}
use Rattle.rules.specs.declared.Kind.{Kind}
use Rattle.rules.specs.declared.Kind.TheVariants.{Erase, Write, Verify, Sum, Blank, Lock}
use Rattle.rules.specs.declared.Options.{Options}
use Rattle.rules.specs.declared.Step.{Step}
use Rattle.rules.specs.Answers.{Accepted}
use Rattle.rules.specs.Chip.{Memory, blank, block, erase_block, first_page, page_of, put_page, block_of_page}
use Rattle.rules.specs.Options.{erase_protected, write_protected}
use Rattle.rules.specs.Sheet.{count, verdict, step_at, step_blocks, step_pages, body_page}
use Rattle.rules.specs.Meaning.{Tried, tried, erase_from, write_from, Done, erase_done, write_done, step_done, step_meaning, options_after, Ended, ended, meaning_from, meaning, step_frames_from, step_frames}
use Rattle.rules.specs.Run.{most_for, most_frames}
use Rattle.sheet.proofs.Accepted.{sound}
use Rattle.joined_laws.specs.Turns.{Sized}
use Rattle.joined_laws.proofs.Sizes.{few_frames}

-- frames and pieces of a step
pub record Few (most : ℕ) (d : Done) : Type 0 where
  pub frames : d.frames ≤ most
  pub pieces : d.pieces ≤ most

-- ---- one step ----

erase_few : (o : Options) (t : Step) (m : Memory) (n left : ℕ) → Few (n + left) (erase_done (erase_from o t m n left))
unfolding erase_from erase_done
erase_few o t m n zero = record { frames = omega arith; pieces = omega arith }
erase_few o t m n (suc left) = go (erase_protected o t.flash (block (t.first.0 + n))) (erase_few o t (erase_block m t.flash (block (t.first.0 + n))) (n + 1) left)
  where
    later : Tried
    later = erase_from o t (erase_block m t.flash (block (t.first.0 + n))) (n + 1) left

    go : (b : Bool) → Few (n + 1 + left) (erase_done later) → Few (n + suc left) (erase_done (cond b (tried m n 0x10) later))
    go true f = record { frames = omega arith; pieces = omega arith }
    go false f = record { frames = omega (arith, f.frames); pieces = omega (arith, f.pieces) }

-- so many pages are tried
written_few : (o : Options) (s : List ℕ) (t : Step) (m : Memory) (n left : ℕ) → (write_from o s t m n left).done ≤ n + left
unfolding write_from
written_few o s t m n zero = omega arith
written_few o s t m n (suc left) =
    go (write_protected o t.flash (block_of_page t.flash (first_page t.flash t.first + n))) (blank (page_of m t.flash (first_page t.flash t.first + n))) (written_few o s t (put_page m t.flash (first_page t.flash t.first + n) (body_page s t n)) (n + 1) left)
  where
    later : Tried
    later = write_from o s t (put_page m t.flash (first_page t.flash t.first + n) (body_page s t n)) (n + 1) left

    go : (a b : Bool) → later.done ≤ n + 1 + left → (cond a (tried m n 0x10) (cond b later (tried m n 0x1C))).done ≤ n + suc left
    go true b h = omega arith
    go false true h = omega (arith, h)
    go false false h = omega arith

write_few : (p : ℕ) (w : Tried) → w.done ≤ p → Few (1 + p) (write_done p w)
unfolding write_done
write_few p w h = go (eqb w.status 0x06) (eqb (w.done + 1) p && leb 2 p)
  where
    pieces : (b : Bool) → cond b (p - 2) (w.done + 1 - 1) ≤ 1 + p
    pieces true = omega arith
    pieces false = omega (arith, h)

    go : (a b : Bool)
        → Few (1 + p) (cond a (record { memory = w.memory; status = 0x06; pieces = 0; frames = 1 + p; sum = 0 }) (record { memory = w.memory; status = w.status; pieces = cond b (p - 2) (w.done + 1 - 1); frames = 1 + min (w.done + 1 + 1) p; sum = 0 }))
    go true b = record { frames = omega arith; pieces = omega arith }
    go false b = record { frames = omega arith; pieces = pieces b }

pub step_few : (o : Options) (s : List ℕ) (t : Step) (m : Memory) → Few (most_frames t) (step_meaning o s t m)
unfolding most_frames most_for step_meaning step_done
step_few o s t m = go t.kind
  where
    go : (k : Kind) → Few (most_for k t) (step_done k o s t m)
    go Erase = let f = erase_few o t m 0 (step_blocks t) in record { frames = omega (arith, f.frames); pieces = omega (arith, f.pieces) }
    go Write = write_few (step_pages t) (write_from o s t m 0 (step_pages t)) (omega (arith, written_few o s t m 0 (step_pages t)))
    go Verify = record { frames = omega arith; pieces = omega arith }
    go Sum = record { frames = omega arith; pieces = omega arith }
    go Blank = record { frames = omega arith; pieces = omega arith }
    go Lock = record { frames = omega arith; pieces = omega arith }

-- ---- a whole sheet ----

-- an entry put into a list whose entries are no more than that
set_few : (k : ℕ) (xs : List ℕ) (i v : ℕ) → v ≤ k → ((j : ℕ) → get_or xs j 0 ≤ k) → (j : ℕ) → get_or (set xs i v) j 0 ≤ k
set_few k [] i v h g j = g j
set_few k (x ∷ xs) zero v h g zero = h
set_few k (x ∷ xs) zero v h g (suc j) = g (suc j)
set_few k (x ∷ xs) (suc i) v h g zero = g zero
set_few k (x ∷ xs) (suc i) v h g (suc j) = set_few k xs i v h (λ n. g (suc n)) j

pub zero_few : (n j : ℕ) → get_or (replicate n 0) j 0 ≤ 0
zero_few zero j = omega arith
zero_few (suc n) zero = omega arith
zero_few (suc n) (suc j) = zero_few n j

-- the counts of a report
pub record Counts (steps frames pieces : ℕ) (e : Ended) : Type 0 where
  pub few_steps : e.report.steps ≤ steps
  pub few_frames : e.report.frames ≤ frames
  pub few_pieces : e.report.pieces ≤ pieces

module _ (chip : Chip) (sized : Sized chip) (s : List ℕ) (room : ℕ) (ok : verdict chip s room ≡ Accepted) where
  -- a step of it
  at_most : (o : Options) (i : ℕ) → i < count s → (m : Memory) → Few 65537 (step_meaning o s (step_at chip s i) m)
  at_most o i h m =
      let t = step_at chip s i in
      let f = step_few o s t m in
      let n = few_frames chip s i t (sound chip s room ok i h) sized in
      record { frames = omega (arith, n, f.frames); pieces = omega (arith, n, f.pieces) }

  counts_from : (left i n : ℕ) (o : Options) (m : Memory) (sums : List ℕ) → i + left ≡ count s
      → Counts (i + left) (n + left * 65537) 65537 (meaning_from chip s o m i n sums left)
  unfolding meaning_from
  counts_from zero i n o m sums e = record { few_steps = omega arith; few_frames = omega arith; few_pieces = omega arith }
  counts_from (suc left) i n o m sums e =
      go (eqb d.status 0x06) (at_most o i (omega arith) m) (counts_from left (i + 1) (n + d.frames) after d.memory (set sums i d.sum) (omega arith))
    where
      after : Options
      after = options_after (step_at chip s i) o

      d : Done
      d = step_meaning o s (step_at chip s i) m

      on : Ended
      on = meaning_from chip s after d.memory (i + 1) (n + d.frames) (set sums i d.sum) left

      go : (b : Bool) → Few 65537 d → Counts (i + 1 + left) (n + d.frames + left * 65537) 65537 on
          → Counts (i + suc left) (n + suc left * 65537) 65537 (cond b on (ended d.memory after d.status i (n + d.frames) d.pieces sums))
      go true f c = record { few_steps = omega (arith, c.few_steps); few_frames = omega (arith, c.few_frames, f.frames); few_pieces = c.few_pieces }
      go false f c = record { few_steps = omega arith; few_frames = omega (arith, f.frames); few_pieces = f.pieces }

  pub meaning_few : (o : Options) (m : Memory) (sums : List ℕ) → Counts (count s) (count s * 65537) 65537 (meaning chip s o m sums)
  unfolding meaning
  meaning_few o m sums =
      let c = counts_from (count s) 0 0 o m sums (omega arith) in
      record { few_steps = omega (arith, c.few_steps); few_frames = omega (arith, c.few_frames); few_pieces = c.few_pieces }

  each_from_lem : (left i : ℕ) (o : Options) (m : Memory) (each : List ℕ) → i + left ≡ count s → ((j : ℕ) → get_or each j 0 ≤ 65537)
      → (j : ℕ) → get_or (step_frames_from chip s o m i each left) j 0 ≤ 65537
  unfolding step_frames_from
  each_from_lem zero i o m each e g = g
  each_from_lem (suc left) i o m each e g =
      go (eqb d.status 0x06) put (each_from_lem left (i + 1) after d.memory (set each i d.frames) (omega arith) put)
    where
      after : Options
      after = options_after (step_at chip s i) o

      d : Done
      d = step_meaning o s (step_at chip s i) m

      put : (j : ℕ) → get_or (set each i d.frames) j 0 ≤ 65537
      put = set_few 65537 each i d.frames (at_most o i (omega arith) m).frames g

      go : (b : Bool) → ((j : ℕ) → get_or (set each i d.frames) j 0 ≤ 65537)
          → ((j : ℕ) → get_or (step_frames_from chip s after d.memory (i + 1) (set each i d.frames) left) j 0 ≤ 65537)
          → (j : ℕ) → get_or (cond b (step_frames_from chip s after d.memory (i + 1) (set each i d.frames) left) (set each i d.frames)) j 0 ≤ 65537
      go true h f = f
      go false h f = h

  pub each_few : (o : Options) (m : Memory) (each : List ℕ) → ((j : ℕ) → get_or each j 0 ≤ 65537) → (j : ℕ) → get_or (step_frames chip s o m each) j 0 ≤ 65537
  unfolding step_frames
  each_few o m each g = each_from_lem (count s) 0 o m each (omega arith) g
