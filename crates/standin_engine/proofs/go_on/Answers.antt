-- `standin_engine::go_on` meets its contract. Assumes nothing.
use mathlib.Core.Path.{◌≡◌, sym, ap, ◌∙◌}
use mathlib.Core.List.{List, []}
use Prim.Native.Nat.{ℕ, ◌+◌, ◌<◌, ◌≤◌}
use native.Mathlib.Omega.{arith}
use lib.ListN.{length, take, set}
use lib.Seq.{get_or-set_other}
use Rattle.rules.specs.Frame.{frame_size, len_of}
use Rattle.rules.specs.StandIn.{answered, receive, received}
use Rattle.standin_engine.specs.View.{view, held_count}
use Rattle.standin_engine.proofs.Receives.{held_more, held_none, held_is, held_as, completed, continued, still_short}
use Rattle.standin_engine.proofs.go_on.Goals as goal

-- where the byte goes, and where the frame ends
module _ (frame : List ℕ) (n last byte : ℕ) (long : length frame ≡ 260) (two : 2 ≤ n) (ends : last + 1 ≡ frame_size (len_of frame)) (room : last < 260) where
  some : n ≡ 0 → ⊥
  some z = omega arith

  -- not past the frame's end: the buffer has that place, n bytes are held, and the byte put there leaves LEN
  module _ (inside : n ≤ last) where
    fits : n < length frame
    fits = omega arith

    here : n ≡ held_count n frame
    here = held_more n frame two (omega arith)

    held-so : received n frame ≡ take n frame
    held-so = held_is n n frame here

    same_size : last + 1 ≡ frame_size (len_of (set frame n byte))
    same_size = ends ∙ ap frame_size (sym (get_or-set_other frame n 1 byte 0 (λ z. omega arith)))

  -- past it: nothing is held
  none : (n < last → ⊥) → (n ≡ last → ⊥) → received n frame ≡ []
  none low same = held_is n 0 frame (held_none n frame two (omega arith))

pub returns-then-have-last : goal.returns-then-have-last
returns-then-have-last c =
    let a = c.args in
    let xs = a.held.now in
    let k = a.c.have in
    let x = c.last_place-last in
    let known : length a.held.now ≡ 260 = omega arith in
    let inside : k ≤ x.result = omega arith in
    let same = same_size xs k x.result a.byte known c.requires x.ensures.0 x.ensures.1 inside in
    let in_buffer = fits xs k x.result a.byte known c.requires x.ensures.0 x.ensures.1 inside in
    let held = here xs k x.result a.byte known c.requires x.ensures.0 x.ensures.1 inside in
    let taken = held-so xs k x.result a.byte known c.requires x.ensures.0 x.ensures.1 inside in
    let no = some xs k x.result a.byte known c.requires x.ensures.0 x.ensures.1 in
    let short : k + 1 ≡ frame_size (len_of (set xs k a.byte)) → ⊥ = λ z. omega (arith, z, same, c.if-have-last.true) in
    λ m reply.
    held_as _ (take (k + 1) (set xs k a.byte)) _ reply
    (held_is (k + 1) (k + 1) (set xs k a.byte) (still_short xs k a.byte k in_buffer held no short))
    (continued a.chip (view a.c xs m) a.byte xs k no in_buffer short)
    ∙ ap (λ (g : List ℕ). answered (receive a.chip (view a.c xs m) g a.byte) reply) (sym taken)

pub returns-then-have-last-2 : goal.returns-then-have-last-2
returns-then-have-last-2 c =
    let a = c.args in
    let xs = a.held.now in
    let k = a.c.have in
    let x = c.last_place-last in
    let known : length a.held.now ≡ 260 = omega arith in
    let inside : k ≤ x.result = omega arith in
    let same = same_size xs k x.result a.byte known c.requires x.ensures.0 x.ensures.1 inside in
    let in_buffer = fits xs k x.result a.byte known c.requires x.ensures.0 x.ensures.1 inside in
    let taken = held-so xs k x.result a.byte known c.requires x.ensures.0 x.ensures.1 inside in
    let no = some xs k x.result a.byte known c.requires x.ensures.0 x.ensures.1 in
    λ m.
    completed a.chip (view a.c xs m) a.byte xs k no in_buffer (ap (λ (j : ℕ). j + 1) c.if-have-last-2.true ∙ same)
    ∙ ap (λ (g : List ℕ). receive a.chip (view a.c xs m) g a.byte) (sym taken)

pub begin-requires : goal.begin-requires
begin-requires c =
    let a = c.args in
    let x = c.last_place-last in
    let known : length a.held.now ≡ 260 = omega arith in
    none a.held.now a.c.have x.result a.byte known c.requires x.ensures.0 x.ensures.1 (λ l. omega (arith, l, c.if-have-last.false)) c.if-have-last-2.false

pub returns-else-have-last-2 : goal.returns-else-have-last-2
returns-else-have-last-2 c =
    let a = c.args in
    let x = c.last_place-last in
    let known : length a.held.now ≡ 260 = omega arith in
    λ m reply.
    c.begin.ensures m reply
    ∙ ap (λ (g : List ℕ). answered (receive a.chip (view a.c a.held.now m) g a.byte) reply)
    (sym (none a.held.now a.c.have x.result a.byte known c.requires x.ensures.0 x.ensures.1 (λ l. omega (arith, l, c.if-have-last.false)) c.if-have-last-2.false))
