-- `standin_engine::receive` meets its contract. Assumes nothing.
use mathlib.Core.Path.{◌≡◌, sym, ap, ◌∙◌}
use mathlib.Core.List.{List}
use Prim.Native.Nat.{ℕ, ◌+◌, ◌<◌}
use native.Mathlib.Omega.{arith}
use lib.ListN.{length, take, set}
use Rattle.rules.specs.Frame.{frame_size, len_of}
use Rattle.rules.specs.StandIn.{answered, receive, received}
use Rattle.frame_build.proofs.Frames.{frame_size_lem, body_least}
use Rattle.standin_engine.specs.View.{view, held_count}
use Rattle.standin_engine.proofs.Receives.{held_small, held_is, held_as, none_got, continued, still_short}
use Rattle.standin_engine.proofs.receive.Goals as goal

-- fewer than two, and not one
none_had : (n : ℕ) → n < 2 → (n ≡ 1 → ⊥) → n ≡ 0
none_had n few one = omega (arith, few, one)

pub returns-then-c-eq1 : goal.returns-then-c-eq1
returns-then-c-eq1 c =
    let a = c.args in
    let xs = a.held.now in
    let len = len_of (set xs 1 a.byte) in
    let some : ◌≡◌ {A = ℕ} 1 0 → ⊥ = λ z. omega arith in
    let fits : 1 < length xs = omega arith in
    let here : 1 ≡ held_count 1 xs = held_small 1 xs (omega arith) in
    let short : 1 + 1 ≡ frame_size len → ⊥ = λ z. omega (arith, frame_size_lem len, body_least len) in
    λ m reply.
    held_as _ (take 2 (set xs 1 a.byte)) _ reply
    (held_is 2 2 (set xs 1 a.byte) (still_short xs 1 a.byte 1 fits here some short))
    (continued a.chip (view a.c xs m) a.byte xs 1 some fits short)
    ∙ ap (λ (g : List ℕ). answered (receive a.chip (view a.c xs m) g a.byte) reply) (sym (ap (λ (k : ℕ). received k xs) c.if-c-eq1.true ∙ held_is 1 1 xs here))

pub begin-requires : goal.begin-requires
begin-requires c = none_got _ _ (none_had c.args.c.have c.if-c-ge2.false c.if-c-eq1.false)

pub returns : goal.returns
returns c =
    let a = c.args in
    λ m reply.
    c.begin.ensures m reply
    ∙ ap (λ (g : List ℕ). answered (receive a.chip (view a.c a.held.now m) g a.byte) reply) (sym (none_got a.c.have a.held.now (none_had a.c.have c.if-c-ge2.false c.if-c-eq1.false)))
