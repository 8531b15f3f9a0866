-- M-109: what a row of whole frames handed over says where it holds. Assumes nothing.
use mathlib.Core.Path.{◌≡◌, refl}
use mathlib.Core.Bool.{true, ◌&&◌}
use mathlib.Core.List.{List, [], ◌∷◌}
use Prim.Native.Nat.{ℕ}
use lib.Dec.{eqb}
use lib.ListN.{replicate}
use borrow.Author.Tests.{eqb-true}
use Rattle.rules.specs.Chip.{over, same}
use Rattle.rules.specs.Command.{phase_number}
use Rattle.rules.specs.StandIn.{Outcome, feed, powered}
use Rattle.rules.specs.Numbers.{note_numbers, call_number}
use Rattle.rules.specs.WholeFrame.{frame_call}
use Rattle.rules.proofs.Bytes.{same_equal}
use Rattle.rules.proofs.Choices.{both}
use Rattle.trials_rows.specs.Rows.{same_number, same_options, same_memory}
use Rattle.trials_rows.proofs.Rows.{All, number_equal, options_equal, memory_equal}
use Rattle.trials_frames.specs.WholeFrames.{Handed, hands, all_hand}

pub record Hands (t : Handed) : Type 0 where
  pub end : Outcome
  pub there : end ≡ frame_call t.chip (feed t.chip (powered t.options t.memory) t.sent).state (replicate t.reply 0) t.input
  pub call : call_number end.call ≡ t.call
  pub reply : end.reply ≡ over t.answer (replicate t.reply 0)
  pub note : note_numbers end.note ≡ note_numbers t.note
  pub phase : phase_number end.state.phase ≡ t.phase
  pub half : end.state.got ≡ t.half
  pub options : end.state.options ≡ t.options
  pub memory : end.state.memory ≡ t.memory_after

is_handed : (t : Handed) → hands t ≡ true → Hands t
unfolding hands
is_handed t h =
    let old : List ℕ = replicate t.reply 0 in
    let o = frame_call t.chip (feed t.chip (powered t.options t.memory) t.sent).state old t.input in
    let s = o.state in
    let a = same_number (call_number o.call) t.call in
    let b = same o.reply (over t.answer old) in
    let c = same (note_numbers o.note) (note_numbers t.note) in
    let d = eqb (phase_number s.phase) t.phase in
    let e = same s.got t.half in
    let f = same_options s.options t.options in
    let g = both (a && b && c && d && e && f) (same_memory s.memory t.memory_after) h in
    let k = both (a && b && c && d && e) f g.0 in
    let l = both (a && b && c && d) e k.0 in
    let m = both (a && b && c) d l.0 in
    let n = both (a && b) c m.0 in
    let p = both a b n.0 in
    record {
      end = o;
      there = refl;
      call = number_equal (call_number o.call) t.call p.0;
      reply = same_equal o.reply (over t.answer old) p.1;
      note = same_equal (note_numbers o.note) (note_numbers t.note) n.1;
      phase = eqb-true (phase_number s.phase) t.phase m.1;
      half = same_equal s.got t.half l.1;
      options = options_equal s.options t.options k.1;
      memory = memory_equal s.memory t.memory_after g.1;
    }

pub all_hand_lem : (ts : List Handed) → all_hand ts ≡ true → All Hands ts
unfolding all_hand
all_hand_lem [] e = tt
all_hand_lem (t ∷ ts) e = let p = both (hands t) (all_hand ts) e in (is_handed t p.0, all_hand_lem ts p.1)
