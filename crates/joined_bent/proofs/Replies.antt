-- A reply of which one byte is changed: it is not framed any more, and however it is read, it is L1 if it was not L1 before. And the player that
-- reads L1. Assumes nothing.
use mathlib.Core.Path.{◌≡◌, refl, sym, ap, ◌∙◌}
use mathlib.Core.Bool.{Bool, true, false, cond, ◌&&◌, false≢true}
use mathlib.Core.List.{List, [], ◌∷◌}
use mathlib.Core.Logic.{inl, inr}
use Prim.Native.Nat.{ℕ, zero, suc, ◌+◌, ◌-◌, ◌%◌, ◌<◌}
use native.Mathlib.Omega.{arith}
use lib.Dec.{ltb, eqb}
use lib.ListN.{length, take, drop, length-set, length-drop}
use lib.Seq.{get_or-set_same, get_or-set_other, length-take-le, take_all}
use borrow.Author.Tests.{ltb-true, ltb-false}
use Rattle.rules.specs.declared.Chip.{Chip}
use Rattle.rules.specs.declared.Kind.{Kind}
use Rattle.rules.specs.declared.Kind.TheVariants.{Erase, Write, Verify, Sum, Blank, Lock}
use Rattle.rules.specs.declared.Player.{Player}
use Rattle.rules.specs.declared.Stage.{Stage}
use Rattle.rules.specs.declared.Stage.TheVariants.{New, Ready, Block, Commanded, Page, Paged, Over}
use Rattle.rules.specs.declared.Status.{Status}
use Rattle.rules.specs.declared.Status.TheVariants.{Byte, L1}
use Rattle.rules.specs.declared.Step.{Step}
use Rattle.rules.specs.Chip.{byte_at, total}
use Rattle.rules.specs.Frame.{last_end}
use Rattle.rules.specs.Sheet.{clears, step_at}
use Rattle.rules.specs.Player.{well, framed, command_reply, sum_reply, sum_in, no_reply, lock_reply, data_reply, stopped, pages_sure, took_once, absorb_command, absorbed, counted, emit_by, emitted}
use Rattle.rules.specs.Run.{none}
use Rattle.rules.proofs.Choices.{both}
use Rattle.player_laws.proofs.OnlyReplyDue.{tested}
use Rattle.player_laws.proofs.Moves.{absorb_opened_stop, absorb_once_stop, absorb_erase_stop, absorb_page_stop}
use Rattle.joined_bent.specs.Bent.{moved, changed, Change}
use Rattle.joined_bent.proofs.Changes.{take_changed, take_before, drop_changed, total_changed}

-- ---- a frame ----

module _ (d : ℕ) (c : Change d) where
  -- start or end byte, or the total of LEN, body and SUM is another
  framed_once : (n : ℕ) (r : List ℕ) (i : ℕ) → i < length r → framed n r ≡ true → framed n (changed i d r) ≡ true → ⊥
  framed_once n [] i l e q = absurd (omega arith)
  framed_once n (a ∷ r) zero l e q =
      let t = tested (a ∷ r) n e in
      let u = tested (changed 0 d (a ∷ r)) n q in
      omega (arith, t.1, u.1, c.low, c.high)
  framed_once n (a ∷ r) (suc j) l e q = go (ltb j (n + 2)) refl
    where
      go : (b : Bool) → ltb j (n + 2) ≡ b → ⊥
      go true h =
          let t = tested (a ∷ r) n e in
          let u = tested (changed (suc j) d (a ∷ r)) n q in
          let g = ltb-true j (n + 2) h in
          let k : length (take (n + 2) r) ≡ n + 2 = length-take-le (n + 2) r (omega (arith, t.0)) in
          let m : total (take (n + 2) (changed j d r)) % 256 ≡ (total (take (n + 2) r) + d) % 256 =
          ap (λ (xs : List ℕ). total xs % 256) (take_changed d (n + 2) r j g) ∙ total_changed d (take (n + 2) r) j (omega arith) in
          omega (arith, t.3, u.3, m, c.low, c.high)
      go false h =
          let t = tested (a ∷ r) n e in
          let u = tested (changed (suc j) d (a ∷ r)) n q in
          let z : n + 3 ≡ suc j = omega (arith, t.0, ltb-false j (n + 2) h) in
          let x : byte_at (changed (suc j) d (a ∷ r)) (suc j) ≡ moved (byte_at (a ∷ r) (suc j)) d =
          get_or-set_same (a ∷ r) (suc j) (moved (byte_at (a ∷ r) (suc j)) d) 0 l in
          let v : byte_at (a ∷ r) (suc j) ≡ last_end = rw z at t.4 in
          let w : byte_at (changed (suc j) d (a ∷ r)) (suc j) ≡ last_end = rw z at u.4 in
          omega (arith, x, v, w, c.low, c.high)

  pub unframed : (n : ℕ) (r : List ℕ) (i : ℕ) → i < length r → framed n r ≡ true → framed n (changed i d r) ≡ false
  unframed n r i l e = go (framed n (changed i d r)) refl
    where
      go : (b : Bool) → framed n (changed i d r) ≡ b → framed n (changed i d r) ≡ false
      go true q = absurd (framed_once n r i l e q)
      go false q = q

  -- a frame is as long as it says
  pub frame_long : (n : ℕ) (r : List ℕ) → framed n r ≡ true → length r ≡ n + 4
  frame_long n r e = (tested r n e).0

-- a reply of another length is no frame
other_length : (n : ℕ) (r : List ℕ) → (length r ≡ n + 4 → ⊥) → framed n r ≡ false
other_length n r x = go (framed n r) refl
  where
    go : (b : Bool) → framed n r ≡ b → framed n r ≡ false
    go true q = absurd (x (tested r n q).0)
    go false q = q

-- ---- however it is read ----

-- what is read of a reply is L1 wherever a byte of one that was not is changed
abbrev pub Delicate : (List ℕ → Status) → Type 0
Delicate read = (r : List ℕ) (i d : ℕ) → i < length r → Change d → (read r ≡ L1 → ⊥) → read (changed i d r) ≡ L1

-- which was chosen, where it was not the last
not_last : {A : Type 0} (t : Bool) (y n : A) → (cond t y n ≡ n → ⊥) → t ≡ true
not_last true y n x = refl
not_last false y n x = absurd (x refl)

-- one frame, and whatever is read of it
one_frame : (n : ℕ) (of : List ℕ → Status) → Delicate (λ r. cond (framed n r) (of r) L1)
one_frame n of r i d l c x =
    let e = not_last (framed n r) (of r) L1 x in
    ap (λ (b : Bool). cond b (of (changed i d r)) L1) (unframed d c n r i l e)

pub command_delicate : Delicate command_reply
unfolding command_reply
command_delicate = one_frame 1 (λ r. Byte (byte_at r 2))

pub data_delicate : Delicate data_reply
unfolding data_reply
data_delicate = one_frame 2 (λ r. Byte (cond (eqb (byte_at r 2) 0x06) (byte_at r 3) (byte_at r 2)))

-- a sum: eleven bytes that cannot become a good short reply, or five
pub sum_delicate : Delicate sum_reply
unfolding sum_reply command_reply
sum_delicate r i d l c x = go (framed 1 (take 5 r) && eqb (byte_at r 2) 0x06) refl
  where
    bad : List ℕ
    bad = changed i d r

    long : length bad ≡ length r
    long = length-set r i (moved (byte_at r i) d)

    -- the first frame is bad, and there is no other
    no_first : framed 1 (take 5 bad) ≡ false → framed 1 bad ≡ false → sum_reply bad ≡ L1
    no_first e f = rw (e, f)

    go : (b : Bool) → (framed 1 (take 5 r) && eqb (byte_at r 2) 0x06) ≡ b → sum_reply bad ≡ L1
    go true h =
        let p = both (framed 1 (take 5 r)) (eqb (byte_at r 2) 0x06) h in
        let e = not_last (framed 2 (drop 5 r)) well L1 (rw h at x) in
        let z : length r ≡ 11 = omega (arith, frame_long d c 2 (drop 5 r) e, length-drop 5 r) in
        eleven p.0 p.1 e z (ltb i 5) refl
      where
        eleven : framed 1 (take 5 r) ≡ true → eqb (byte_at r 2) 0x06 ≡ true → framed 2 (drop 5 r) ≡ true → length r ≡ 11
            → (b : Bool) → ltb i 5 ≡ b → sum_reply bad ≡ L1
        eleven f s e z true q =
            let g = ltb-true i 5 q in
            let k : length (take 5 r) ≡ 5 = length-take-le 5 r (omega arith) in
            no_first
            (ap (framed 1) (take_changed d 5 r i g) ∙ unframed d c 1 (take 5 r) i (omega arith) f)
            (other_length 1 bad (λ y. omega (arith, long)))
        eleven f s e z false q =
            let g = ltb-false i 5 q in
            let k : length (drop 5 r) ≡ 6 = length-drop 5 r ∙ omega arith in
            let w : byte_at bad 2 ≡ byte_at r 2 = get_or-set_other r i 2 (moved (byte_at r i) d) 0 (λ y. omega arith) in
            rw (take_before d 5 r i g, f, w, s, drop_changed d 5 r i g, unframed d c 2 (drop 5 r) (i - 5) (omega arith) e)
    go false h =
        let e = not_last (framed 1 r) (Byte (byte_at r 2)) L1 (rw h at x) in
        let z = frame_long d c 1 r e in
        let u = unframed d c 1 r i l e in
        no_first (ap (framed 1) (take_all 5 bad (omega (arith, long))) ∙ u) u

-- a lock: no reply has no byte to change, and any other is one frame
pub lock_delicate : (t : Step) → Delicate (lock_reply t)
unfolding lock_reply
lock_delicate t = go (clears t.flags)
  where
    none_due : Delicate no_reply
    none_due [] i d l c x = absurd (omega arith)
    none_due (b ∷ r) i d l c x = absurd (x refl)

    go : (b : Bool) → Delicate (λ r. cond b (no_reply r) (command_reply r))
    go true = none_due
    go false = command_delicate

-- ---- the player ----

-- a player that awaits an answer: how that is read, and that one which is L1 stops it with so many pieces
pub record Awaits (chip : Chip) (s : List ℕ) (p : Player) (pieces : ℕ) : Type 0 where
  pub read : List ℕ → Status
  pub delicate : Delicate read
  pub stops : (r sums : List ℕ) → read r ≡ L1 → absorbed chip s p r sums ≡ stopped p L1 pieces sums

-- pieces at an answer to a command frame: the blocks before it
unfoldable pub blocks_sure : Kind → ℕ → ℕ
blocks_sure Erase at = at
blocks_sure Write at = 0
blocks_sure Verify at = 0
blocks_sure Sum at = 0
blocks_sure Blank at = 0
blocks_sure Lock at = 0

module _ (chip : Chip) (s : List ℕ) (p : Player) where
  abbrev here : Step
  here = step_at chip s p.step

  -- the only frame of a step
  once : {k : Kind} → p.stage ≡ Commanded k → (read : List ℕ → Status) (sum : List ℕ → ℕ) → Delicate read
      → ((r sums : List ℕ) → absorb_command k s here p r sums ≡ took_once s p (read r) (sum r) sums) → Awaits chip s p 0
  once g read sum fine only =
      record { read = read; delicate = fine; stops = λ r sums e. absorb_once_stop chip s p r sums g (read r) (sum r) (only r sums) (rw e) ∙ rw e }

  awaits_command : (k : Kind) → p.stage ≡ Commanded k → Awaits chip s p (blocks_sure k p.at)
  unfolding blocks_sure absorb_command
  awaits_command Erase g =
      record { read = command_reply; delicate = command_delicate; stops = λ r sums e. absorb_erase_stop chip s p r sums g (rw e) ∙ rw e }
  awaits_command Write g =
      record { read = command_reply; delicate = command_delicate; stops = λ r sums e. absorb_opened_stop chip s p r sums g (inl refl) (rw e) ∙ rw e }
  awaits_command Verify g =
      record { read = command_reply; delicate = command_delicate; stops = λ r sums e. absorb_opened_stop chip s p r sums g (inr refl) (rw e) ∙ rw e }
  awaits_command Sum g = once g sum_reply sum_in sum_delicate (λ r sums. refl)
  awaits_command Blank g = once g command_reply (λ r. 0) command_delicate (λ r sums. refl)
  awaits_command Lock g = once g (lock_reply here) (λ r. 0) (lock_delicate here) (λ r sums. refl)

  awaits_page : (k : Kind) → p.stage ≡ Paged k → Awaits chip s p (pages_sure k p.at)
  awaits_page k g =
      record { read = data_reply; delicate = data_delicate; stops = λ r sums e. absorb_page_stop chip s p r sums g here refl (rw e) ∙ rw e }

-- pieces where an answer that is L1 stops the play, by what was sent
unfoldable pub pieces_sure : Stage → ℕ → ℕ
unfolding blocks_sure
pieces_sure New at = 0
pieces_sure Ready at = 0
pieces_sure Block at = 0
pieces_sure (Commanded k) at = blocks_sure k at
pieces_sure (Page k) at = 0
pieces_sure (Paged k) at = pages_sure k at
pieces_sure Over at = 0

-- a player that has sent a frame: it stands in the same step, has counted one frame more and awaits the answer
pub record Sender (chip : Chip) (s : List ℕ) (p sent : Player) : Type 0 where
  pub step : sent.step ≡ p.step
  pub frames : sent.frames ≡ counted p.frames
  pub awaits : Awaits chip s sent (pieces_sure sent.stage sent.at)

pub sender : (chip : Chip) (s : List ℕ) (p : Player) → none (emitted chip s p).bytes ≡ false → Sender chip s p (emitted chip s p).player
unfolding emitted emit_by pieces_sure
sender chip s p speaks = go p.stage refl speaks
  where
    t : Step
    t = step_at chip s p.step

    go : (g : Stage) → p.stage ≡ g → none (emit_by g s t p).bytes ≡ false → Sender chip s p (emit_by g s t p).player
    go New e h = absurd (false≢true (sym h))
    go Ready e h = record { step = refl; frames = refl; awaits = awaits_command chip s _ t.kind refl }
    go Block e h = record { step = refl; frames = refl; awaits = awaits_command chip s _ Erase refl }
    go (Commanded k) e h = absurd (false≢true (sym h))
    go (Page k) e h = record { step = refl; frames = refl; awaits = awaits_page chip s _ k refl }
    go (Paged k) e h = absurd (false≢true (sym h))
    go Over e h = absurd (false≢true (sym h))
