-- Answers in the reply buffer. Assumes nothing.
use mathlib.Core.Path.{◌≡◌, sym, ap, ◌∙◌}
use Prim.Native.Nat.{ℕ, ◌+◌, ◌≤◌}
use mathlib.Core.Bool.{Bool, true, false, cond}
use mathlib.Core.List.{List, [], ◌∷◌, ◌++◌}
use native.Mathlib.Omega.{arith}
use lib.Dec.{eqb}
use lib.ListN.{length, length-append}
use borrow.Author.Tests.{le-leb}
use Rattle.rules.specs.declared.Chip.{Chip}
use Rattle.rules.specs.declared.Options.{Options}
use Rattle.rules.specs.declared.Phase.{Phase}
use Rattle.rules.specs.declared.Phase.TheVariants.{Silent}
use Rattle.rules.specs.declared.Task.{Task}
use Rattle.rules.specs.declared.Task.TheVariants.{Idle}
use Rattle.rules.specs.Notes.{Note}
use Rattle.rules.specs.declared.Order.{Order}
use Rattle.rules.specs.declared.Order.TheVariants.{Reset, Verify, Erase, BlankCheck, Program, BaudRate, Identity, SecuritySet, SecurityGet, Release, WindowSet, WindowGet, Checksum}
use Rattle.rules.specs.Answers.{Judged, Faulty, Ordered}
use Rattle.rules.specs.Chip.{Memory, over}
use Rattle.rules.specs.Options.{IFPR}
use Rattle.rules.specs.Frame.{data_start, last_end, frame, one, status_byte}
use Rattle.rules.specs.State.{State, out, noted, rest}
use Rattle.rules.specs.Command.{ack, ack_options, secured, done, judged}
use Rattle.rules.specs.StandIn.{on_judged, on_command}
use Rattle.frame_build.specs.Buffer.{put, put_bytes, put_ack_and}
use Rattle.frame_build.proofs.Buffers.{count_put, buffer_put, ack_fits, bytes_fit, length_frame}
use Rattle.standin_state.specs.declared.Response.{Response}
use Rattle.standin_state.specs.View.{Comes, resting, response}

-- ---- no answer has more than 16 bytes ----

abbrev Short : List ℕ → Type 0
Short a = length a ≤ 16

pub one_short : (st : ℕ) → Short (one st)
one_short st = omega (arith, length_frame data_start last_end (st ∷ []))

pub told_short : (body : List ℕ) → length body ≤ 7 → Short (ack ++ frame data_start last_end body)
told_short body h =
    rw length-append (omega (arith, length_frame data_start last_end body, length_frame data_start last_end (0x06 ∷ [])))

secured_short : (o : Options) (s : State) → Short (secured o s).answer
unfolding secured
secured_short o s = go (eqb (IFPR o) 0)
  where
    go : (t : Bool) → Short (cond t (out (rest Silent Idle o s.memory) []) (ack_options o s)).answer
    go true = omega arith
    go false = one_short 0x06

done_short : (chip : Chip) (s : State) (order : Order) → Short (done chip s order).answer
unfolding done
done_short chip s Reset = one_short 0x06
done_short chip s (Verify f a b) = one_short 0x06
done_short chip s (Erase f b) = one_short 0x06
done_short chip s (BlankCheck f a b tar) = one_short 0x06
done_short chip s (Program f a b) = one_short 0x06
done_short chip s BaudRate = omega (arith, length_frame data_start last_end (0x06 ∷ 0x20 ∷ 0x00 ∷ []))
done_short chip s Identity = one_short 0x06
done_short chip s (SecuritySet sf1 sf2) = secured_short _ s
done_short chip s SecurityGet = told_short _ (omega arith)
done_short chip s Release = one_short 0x06
done_short chip s (WindowSet sws swe) = one_short 0x06
done_short chip s WindowGet = told_short _ (omega arith)
done_short chip s (Checksum f a b) = told_short _ (omega arith)

pub command_short : (chip : Chip) (s : State) (f : List ℕ) → Short (on_command chip s f).answer
unfolding on_command on_judged
command_short chip s f = go (judged chip s.phase s.options s.memory f)
  where
    go : (j : Judged) → Short (on_judged j chip s).answer
    go (Faulty v) = one_short (status_byte v)
    go (Ordered order) = done_short chip s order

-- ---- answers put ----

-- no answer leaves the buffer
pub no_answer : (b : List ℕ) → put_bytes [] b ≡ put 0 b
unfolding put_bytes over
no_answer b = rw (le-leb 0 (length b) (omega arith))

-- the ACK and a data frame behind it
pub told_put : (body b : List ℕ) → 1 ≤ length body → length body ≤ 7 → length b ≡ 16
    → put_ack_and body b ≡ put_bytes (ack ++ frame data_start last_end body) b
told_put body b l h r =
    let n : length (ack ++ frame data_start last_end body) ≡ length body + 9 =
    length-append ack (frame data_start last_end body) ∙ omega (arith, length_frame data_start last_end body, length_frame data_start last_end (0x06 ∷ [])) in
    ack_fits body b l (omega arith) (omega arith)
    ∙ rw (← n) (sym (bytes_fit (ack ++ frame data_start last_end body) b (omega arith)))

-- ---- the device and the buffer after an outcome ----

pub comes : (h : Response) (n : ℕ) (told : Note) (ph : Phase) (t : Task) (o : Options) (m : Memory) (a new old : List ℕ)
    → h ≡ response (resting ph t o) n told
    → put n new ≡ put_bytes a old
    → Short a → length old ≡ 16
    → Comes h m new (noted told (out (rest ph t o m) a)) old
comes h n told ph t o m a new old e p short room =
    let q = p ∙ bytes_fit a old (omega arith) in
    (rw (e, count_put _ _ q, buffer_put _ _ q), ap (λ (r : Response). r.core.have) e)
