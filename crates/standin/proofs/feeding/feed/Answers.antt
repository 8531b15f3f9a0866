-- `standin::feeding::feed` meets its contract: each byte brings the feeding one step further. Assumes nothing.
use mathlib.Core.Path.{◌≡◌, refl, sym, ap, ◌∙◌}
use mathlib.Core.List.{List}
use Prim.Native.Nat.{ℕ, ◌+◌, ◌-◌, ◌<◌, ◌≤◌}
use native.Mathlib.Omega.{arith}
use lib.ListN.{length, take, drop, get_or, length-drop}
use borrow.Author.Rules.{rules}
use borrow.Rule.Slice.PartMut.{put_mid}
use Rattle.rules.specs.declared.Chip.{Chip}
use Rattle.rules.specs.Answers.{Call, Refused, Answer}
use Rattle.rules.specs.Notes.{Note, Empty}
use Rattle.rules.specs.Chip.{Memory}
use Rattle.rules.specs.declared.Refusal.{Refusal}
use Rattle.rules.specs.StandIn.{State, Outcome, byte_call}
use Rattle.frame_build.proofs.Buffers.{rest_of, put_rest}
use Rattle.standin_engine.proofs.Stays.{letter}
use Rattle.std.specs.Prelude.{Ok}
use Rattle.chip_finder.specs.LentFlashes.{memory}
use Rattle.standin_engine.specs.declared.Change.{Change as Taking}
use Rattle.standin_engine.specs.Change.{change_outcome}
use Rattle.standin_engine.specs.View.{view, call_outcome}
use Rattle.standin_state.specs.declared.Core.{Core}
use Rattle.standin.specs.Feeding.{feeding, feed_from}
use Rattle.standin.proofs.FeedingAdvances.{fed_end, fed_on, fed_stop, answer_room, answer_short, room_answers, numbered}
use Rattle.standin.proofs.feeding.feed.Goals as goal

-- the call of byte i, which was lent what is left of the buffer
module _ (chip : Chip) (s t : State) (out reply bytes : List ℕ) (w i : ℕ) (h : i < length bytes) (call : Call) (note : Note)
    (e : call_outcome t call note reply ≡ byte_call chip s (take (length out - w) (drop w out)) (get_or bytes i 0)) where
  called : call_outcome t call note reply ≡ byte_call chip s (drop w out) (get_or bytes i 0)
  called = e ∙ ap (λ (r : List ℕ). byte_call chip s r (get_or bytes i 0)) (rest_of w out)

  -- an answer has room in what is left of the buffer
  left : (k : ℕ) → call ≡ Answer k → w ≤ length out → w + k ≤ length out
  left k q l =
      let d = rw length-drop at (answer_room chip s out w i bytes h t call note reply called k q) in
      omega (arith, d, l)

  -- and never more than 16 bytes
  short : (k : ℕ) → call ≡ Answer k → k ≤ 16
  short = answer_short chip s out w i bytes h t call note reply called

  -- and the feeding goes on behind it
  onward : (k : ℕ) → call ≡ Answer k
      → feed_from chip t (put_mid w (length out - w) out reply) (w + k) (i + 1) (drop (i + 1) bytes) ≡ feed_from chip s out w i (drop i bytes)
  onward k q =
      ap (λ (y : List ℕ). feed_from chip t y (w + k) (i + 1) (drop (i + 1) bytes)) (put_rest w out reply)
      ∙ fed_on chip s out w i bytes h t call note reply called k q

  -- or it ends there
  ended : (r : Refusal) → call ≡ Refused r
      → feeding t call i (put_mid w (length out - w) out reply) ≡ feed_from chip s out w i (drop i bytes)
  ended r q =
      ap (λ (y : List ℕ). feeding t call i y) (put_rest w out reply)
      ∙ fed_stop chip s out w i bytes h t call note reply called r q

-- what the byte came to, by what it changed
change_is : (core : Core) (y z : Taking) → y ≡ z
    → (frame : List ℕ) (m : Memory) (reply : List ℕ) (o : Outcome) → change_outcome core (Ok y) frame m reply ≡ o → change_outcome core (Ok z) frame m reply ≡ o
change_is core y z e frame m reply o p = ap (λ (r : Taking). change_outcome core (Ok r) frame m reply) (sym e) ∙ p

pub returns-in-Err : goal.returns-in-Err
returns-in-Err c =
    let l = c.loop-i in
    let t = c.in-Err.ensures in
    let taken = c.loop-i-test.true in
    let e = numbered _ _ (ended _ _ _ l.answers _ _ l.w l.i taken _ _ t.reply_after _ refl ∙ l.invariant.0) in record {
      answers_after = e.0;
      call_value = e.1;
      core_value = λ z. ((l.invariant.8 z).0, t.stands (letter _) ∙ (l.invariant.8 z).1);
      call_value_2 = λ roomy.
          room_answers _ _ l.answers l.w l.i _ taken _ _ _ _ (called _ _ _ l.answers _ _ l.w l.i taken _ _ t.reply_after)
          (rw (l.invariant.4, l.invariant.5) roomy.0)
          (rw length-drop (omega (arith, roomy.1, l.invariant.9, l.invariant.3, taken)));
    }

pub overflow_add-w : goal.overflow_add-w
overflow_add-w c =
    let l = c.loop-i in
    let came = change_is l.core _ _ c.in-Whole.is _ _ _ _ c.in-Ok.ensures.reply_after in
    let r = left _ _ _ l.answers _ _ l.w l.i c.loop-i-test.true _ _ came _ refl l.invariant.2 in
    omega (arith, r, l.invariant.6)

pub loop-i-preserved-in-Held : goal.loop-i-preserved-in-Held
loop-i-preserved-in-Held c =
    let l = c.loop-i in
    let x = c.byte_change in
    let came = change_is l.core _ _ c.in-Held.is _ _ _ _ c.in-Ok.ensures.reply_after in
    let e : l.w + 0 ≡ l.w = omega arith in
    let k : length (put_mid l.w (length l.answers - l.w) l.answers x.new.reply) ≡ length l.answers = search rules in (
      rw e at (onward _ _ _ l.answers _ _ l.w l.i c.loop-i-test.true _ _ came 0 refl) ∙ l.invariant.0,
      omega (arith, c.loop-i-test.true),
      rw k l.invariant.2,
      k ∙ l.invariant.3,
      search rules,
      search rules,
      rw k l.invariant.6,
      l.invariant.7,
      λ z. absurd (omega (arith, z)),
      omega (arith, l.invariant.9),
    )

pub loop-i-preserved : goal.loop-i-preserved
loop-i-preserved c =
    let l = c.loop-i in
    let x = c.byte_change in
    let came = change_is l.core _ _ c.in-Whole.is _ _ _ _ c.in-Ok.ensures.reply_after in
    let r = left _ _ _ l.answers _ _ l.w l.i c.loop-i-test.true _ _ came _ refl l.invariant.2 in
    let k : length (put_mid l.w (length l.answers - l.w) l.answers x.new.reply) ≡ length l.answers = search rules in (
      onward _ _ _ l.answers _ _ l.w l.i c.loop-i-test.true _ _ came _ refl ∙ l.invariant.0,
      omega (arith, c.loop-i-test.true),
      rw k r,
      k ∙ l.invariant.3,
      search rules,
      search rules,
      rw k l.invariant.6,
      l.invariant.7,
      λ z. absurd (omega (arith, z)),
      omega (arith, l.invariant.9, short _ _ _ l.answers _ _ l.w l.i c.loop-i-test.true _ _ came _ refl),
    )

pub returns : goal.returns
returns c =
    let l = c.loop-i in
    let e = numbered _ _ (fed_end _ _ l.answers l.w l.i _ c.loop-i-test.false ∙ l.invariant.0) in
    let all : length c.args.bytes.now ≡ l.i = omega (arith, c.loop-i-test.false, l.invariant.1) in record {
      answers_after = rw all e.0;
      call_value = e.1;
      core_value = λ z. l.invariant.8 (sym all ∙ z);
      call_value_2 = λ roomy. refl;
    }
