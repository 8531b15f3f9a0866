-- The stand-in on a stream of bytes: a turn, which ends with the first answer. Assumes nothing.
use Rattle.std.specs.Prelude.{ℕ, ◌+◌, Bool, true, cond, List, [], ◌∷◌, ltb}
use Rattle.rules.specs.declared.Chip.{Chip}
use Rattle.rules.specs.Answers.{Call, Refused, Answer}
use Rattle.rules.specs.Chip.{Memory}
use Rattle.rules.specs.StandIn.{State, byte_call}
use Rattle.standin.specs.Shows.{shows}
use Rattle.text_serve.specs.declared.Served.{Served}

-- the state, what the last call answered, how many bytes went to the chip, and the reply buffer
pub record Turn : Type 0 where
  pub state : State
  pub call : Call
  pub sent : ℕ
  pub reply : List ℕ

abbrev pub turn : State → Call → ℕ → List ℕ → Turn
turn s call n reply = record { state = s; call = call; sent = n; reply = reply }

-- what a turn came to
abbrev pub served_as : Served → Memory → List ℕ → Turn
served_as r m reply = turn (shows r.device m) r.call r.sent reply

-- an answer ends a turn, and so does a refusal
unfoldable pub stops : Call → Bool
stops (Refused r) = true
stops (Answer n) = ltb 0 n

-- one byte after the other, n of them before these
unfoldable pub serve_from : Chip → State → List ℕ → ℕ → List ℕ → Turn
serve_from chip s reply n [] = turn s (Answer 0) n reply
serve_from chip s reply n (b ∷ bs) =
    let o = byte_call chip s reply b in
    cond (stops o.call) (turn o.state o.call (n + 1) o.reply) (serve_from chip o.state o.reply (n + 1) bs)

-- A TURN
abbrev pub served : Chip → State → List ℕ → List ℕ → Turn
served chip s reply bytes = serve_from chip s reply 0 bytes
