-- One turn of player and stand-in over a clean line: between two turns of a step the play stands in one of a few states, and a turn ends the
-- step as its meaning says or leads to another of them. Assumes nothing.
use mathlib.Core.Path.{◌≡◌, refl, sym, ap, ◌∙◌}
use mathlib.Core.Bool.{Bool, true, false, cond}
use mathlib.Core.List.{List, [], ◌∷◌, ◌++◌}
use mathlib.Core.Logic.{◌⊎◌, inl, inr}
use Prim.Native.Nat.{ℕ, zero, suc, ◌+◌, ◌-◌, ◌<◌, ◌≤◌}
use native.Mathlib.Omega.{arith}
use lib.Dec.{eqb}
use lib.ListN.{length}
use borrow.Author.Tests.{eqb-true, eqb-false, lt-ltb, le-leb, eq-eqb, ne_eqb}
use Rattle.rules.specs.declared.Block.{Block}
use Rattle.rules.specs.declared.Chip.{Chip}
use Rattle.rules.specs.declared.Kind.{Kind}
use Rattle.rules.specs.declared.Kind.TheVariants.{Erase, Write, Verify, Sum, Blank, Lock}
use Rattle.rules.specs.declared.Options.{Options}
use Rattle.rules.specs.declared.Pages.{Pages}
use Rattle.rules.specs.declared.Phase.TheVariants.{Command, Silent}
use Rattle.rules.specs.declared.Player.{Player}
use Rattle.rules.specs.declared.Stage.{Stage}
use Rattle.rules.specs.declared.Stage.TheVariants.{Ready, Commanded, Page, Paged, Over}
use Rattle.rules.specs.declared.Stage.TheVariants as stages
use Rattle.rules.specs.declared.Status.TheVariants.{Byte}
use Rattle.rules.specs.declared.Step.{Step}
use Rattle.rules.specs.declared.Task.{Task}
use Rattle.rules.specs.declared.Task.TheVariants.{Idle, Programming, Verifying}
use Rattle.rules.specs.Answers.{Accepted}
use Rattle.rules.specs.Chip.{Memory, word_bytes, blank, over, blocks, block, erase_block, pages, page_size, first_page, bytes_from, checksum}
use Rattle.rules.specs.Options.{IFPR, erase_protected, security_set}
use Rattle.rules.specs.Frame.{data_start, last_end, end_due, len_byte, sum_byte, frame, one, pair}
use Rattle.rules.specs.StandIn.{State, Out, out, rest, start_of, task_now, later, page_guarded, ahead}
use Rattle.rules.specs.Sheet.{count, verdict, clears, step_at, step_blocks, step_pages, body_page}
use Rattle.rules.specs.Meaning.{erase_from, done, erase_done}
use Rattle.rules.specs.Player.{player, well, Absorbed, stopped, goes_on, finished, pages_sure, lock_reply, absorb_command, absorbed, Sent, counted, sends, emitted, report_of, report_by, command, pair_bytes, pair_command, block_command, blank_command, lock_command, first_command, lost}
use Rattle.rules.specs.Run.{Line, clean, Joined, joining, carried, taken_in, turned, between_in, between, waits, settled}
use Rattle.chip_finder.proofs.Geometry.{blocks_in_pages, in_pages}
use Rattle.sheet.proofs.Accepted.{Sound, Inside, sound, page_length}
use Rattle.player_laws.proofs.Moves.{absorb_opened, absorb_once, absorb_once_stop, absorb_erase_stop, absorb_erase_on, absorb_erase_last, absorb_page_stop, absorb_page_on, absorb_page_last, emit_first, emit_block, emit_page}
use Rattle.player_laws.proofs.PlaceInSheet.{stands_ready, stands_block, stands_page}
use Rattle.player_laws.proofs.Replies.{command_one, data_well, sum_reply_lem, sum_in_lem}
use Rattle.joined_laws.specs.Hears.{hears, pages_for}
use Rattle.joined_laws.specs.Turns.{Sized, Fit, most_counted, Framed, pages_at, write_on, verify_on, Leaves, leaves, step_leaves, Left, StepEnds}
use Rattle.joined_laws.proofs.MeaningSteps.{erase_on, erase_last_lem, erase_stops, later_page, status_of, memory_after, write_on_lem, write_last, write_told, write_means, compared_at, verify_on_lem, verify_last, verify_means, sum_means, blank_means, lock_means}
use Rattle.frame_build.proofs.Built.{whole_framed}
use Rattle.joined_laws.proofs.FramesHeard.{waiting_task, waiting_open, rest_waits, rest_settled, silent_settled, hears_erase_free, hears_erase_guarded, hears_program, hears_verify, hears_sum, hears_blank, hears_used, hears_lock, hears_shut, hears_told, hears_page, hears_last, hears_compare, hears_compared}
use Rattle.joined_laws.proofs.Open.{lock_shuts, lock_leaves_open}
use Rattle.joined_laws.proofs.Sizes.{fit_erased, fit_written, step_pages_lem, step_some}

-- ---- a turn, by what is sent, heard and taken in ----

module _ (chip : Chip) (s : List ℕ) (j : Joined) where
  -- what comes through of the stand-in's answer is taken in
  abbrev pub heard_by : Line → ℕ → Sent → Out → Joined
  heard_by line c sent h =
      let r = line c h.answer in
      let a = absorbed chip s sent.player r j.sums in
      joining a.player h.state a.sums (over sent.bytes j.frame) (over r j.reply) r

  pub turn_as : (line : Line) (c : ℕ) → turned line chip s c j
      ≡ heard_by line c (emitted chip s j.player) (hears chip j.state (emitted chip s j.player).bytes)
  unfolding turned carried taken_in
  turn_as line c = refl

  -- over a clean line it does not matter how many frames went before
  pub any_turn_as : (b c : ℕ) → turned clean chip s b j ≡ turned clean chip s c j
  any_turn_as b c = turn_as clean b ∙ sym (turn_as clean c)

-- ---- pages and sums ----

first_pages_lem : (t : Step) → pages_for t ≡ pages_at t 0 (step_pages t) 0x06
first_pages_lem t =
    let e : first_page t.flash t.first ≡ first_page t.flash t.first + 0 = omega arith in
    ap (λ (x : ℕ). record { flash = t.flash; page = x; left = step_pages t; status = 0x06 }) e

last_page_lem : (a k n : ℕ) → a + k ≡ n → eqb (a + 1) n ≡ eqb k 1
last_page_lem a k n e = go (eqb k 1) refl
  where
    go : (b : Bool) → eqb k 1 ≡ b → eqb (a + 1) n ≡ b
    go true h = let z = eqb-true k 1 h in eq-eqb (a + 1) n (omega arith)
    go false h = let z = eqb-false k 1 h in ne_eqb (a + 1) n (λ y. z (omega arith))

below : (xs : List ℕ) → checksum xs < 65536
unfolding checksum
below xs = omega arith

-- ---- the states of a step between two turns ----

-- about to send the erase of block a: the first at the beginning of the step, and each later one
abbrev pub ErasesNext : Player → ℕ → Type 0
ErasesNext p a = ((p.stage ≡ Ready) × (a ≡ 0)) ⊎ ((p.stage ≡ stages.Block) × (a ≡ p.at))

-- step i, begun after n frames with those options and that list of sums, leaves e
module _ (chip : Chip) (s : List ℕ) (i n : ℕ) (o : Options) (sums : List ℕ) (e : Leaves) where
  abbrev now : Step
  now = step_at chip s i

  -- a player that has sent a frame, at that block or page, and awaits its answer
  abbrev awaiting : Stage → Player → ℕ → Player
  awaiting g p a = player g i a (p.frames + 1) p.pieces p.status

  -- THE END: what the stand-in makes of the last frame is what the step leaves, and the player takes the answer in so
  pub record Told (p : Player) (h : Out) : Type 0 where
    pub left : Left chip e h.state
    pub frames : p.frames ≡ n + e.done.frames
    pub taken : absorbed chip s p h.answer sums
        ≡ cond (eqb e.done.status 0x06) (finished s p e.done.sum sums) (stopped p (Byte e.done.status) e.done.pieces sums)

  -- with a stand-in that waits again, its options as they were
  told_waiting : IFPR o ≡ 1 → (p : Player) (h : Out) (m : Memory) (answer : List ℕ) → h ≡ out (rest Command Idle o m) answer → Fit chip m
      → (st pieces frames sum : ℕ) → e ≡ leaves (done m st pieces frames sum) o → p.frames ≡ n + frames
      → absorbed chip s p answer sums ≡ cond (eqb st 0x06) (finished s p sum sums) (stopped p (Byte st) pieces sums)
      → Told p h
  told_waiting i p h m answer arrived fit st pieces frames sum q f took =
      let left : Left chip (leaves (done m st pieces frames sum) o) (rest Command Idle o m) =
      record { memory = refl; options = refl; settled = rest_settled chip o m i; fit = fit } in
      rw (arrived, q) (record { left = left; frames = f; taken = took })

  -- at the beginning of a step: the player is about to send a command, and the stand-in waits for one
  pub record Begun (p : Player) (task : Task) (m : Memory) : Type 0 where
    pub stage : p.stage ≡ Ready
    pub frames : p.frames ≡ n
    pub waiting : waits chip (rest Command task o m) ≡ true

  -- a step of one frame: the command that the player sends, and that what the stand-in makes of it is the end
  pub record Once (p : Player) (stand : State) : Type 0 where
    pub stage : Stage
    pub code : ℕ
    pub info : List ℕ
    pub few : length info ≤ 254
    pub sent : emitted chip s p ≡ sends stage p 0 (command (code ∷ info))
    pub told : Told (awaiting stage p 0) (hears chip stand (command (code ∷ info)))

  -- a step that goes page by page, at page a with so many left: task begun, and what it comes to from here
  pub data Paging (a left : ℕ) (task : Task) (m : Memory) : Type 0 where
    Writing : (st : ℕ) → now.kind ≡ Write → task ≡ Programming (pages_at now a left st) → ((st ≡ 0x06 → ⊥) → 1 ≤ a)
        → e ≡ leaves (write_on o s now m a left st) o → Paging a left task m
    Comparing : (st : ℕ) → now.kind ≡ Verify → task ≡ Verifying (pages_at now a left st)
        → e ≡ leaves (verify_on s now m a left st) o → Paging a left task m

  -- what the player is about to send: a block's erase, a command that opens pages, the one frame of a step, or a page; at most k frames are left
  pub data At (k : ℕ) (p : Player) (task : Task) (m : Memory) : Type 0 where
    AtBlock : now.kind ≡ Erase → (a : ℕ) → ErasesNext p a → waits chip (rest Command task o m) ≡ true → a + k ≡ step_blocks now
        → p.frames ≡ n + a → e ≡ leaves (erase_done (erase_from o now m a k)) o → At k p task m
    AtOpen : (now.kind ≡ Write) ⊎ (now.kind ≡ Verify) → Begun p task m → k ≡ 1 + step_pages now → e ≡ step_leaves o s now m → At k p task m
    AtOnce : Begun p task m → k ≡ 1 → Once p (rest Command task o m) → At k p task m
    AtPage : p.stage ≡ Page now.kind → p.at + k ≡ step_pages now → p.frames ≡ n + 1 + p.at → Paging p.at k task m → At k p task m

  -- A STATE BETWEEN TWO TURNS, with at most k of them left
  pub record Mid (k : ℕ) (j : Joined) : Type 0 where
    pub some : 0 < k
    pub there : i < count s
    pub step : j.player.step ≡ i
    pub list : j.sums ≡ sums
    pub state : j.state ≡ rest Command j.state.task o j.state.memory
    pub fit : Fit chip j.state.memory
    pub ifpr : IFPR o ≡ 1
    pub counts : j.player.frames + k ≤ most_counted
    pub at : At k j.player j.state.task j.state.memory

  -- WHAT A TURN LEADS TO: one frame more is sent, and the step ends as it means, or goes on
  pub data Turned (k : ℕ) (j j' : Joined) : Type 0 where
    Ends : between j'.player ≡ true → j'.player.frames ≡ j.player.frames + 1 → StepEnds chip s i n sums e j' → Turned k j j'
    Goes : between j'.player ≡ false → j'.player.frames ≡ j.player.frames + 1 → (more : ℕ) → k ≡ suc more → Mid more j' → Turned k j j'

  -- ---- the steps of one frame ----

  module _ (sized : Sized chip) (fact : Sound chip s i now) (p : Player) (here : p.step ≡ i) (task : Task) (m : Memory) (fit : Fit chip m)
      (b : Begun p task m) (q : e ≡ step_leaves o s now m) where
    abbrev first : State
    first = rest Command task o m

    ifpr_open : IFPR o ≡ 1
    ifpr_open = waiting_open chip first b.waiting

    abbrev covered : List ℕ
    covered = bytes_from m now.flash now.first now.last

    -- the command, and what its answer comes to
    abbrev asker : Kind → Player
    asker k = awaiting (Commanded k) p 0

    sent_first : {k : Kind} → now.kind ≡ k → emitted chip s p ≡ sends (Commanded k) p 0 (first_command k now)
    sent_first kind = emit_first chip s p now (ap (step_at chip s) here) b.stage kind

    pub sum_once : now.kind ≡ Sum → Once p first
    unfolding first_command absorb_command
    sum_once kind =
        let sum = checksum covered in
        let answer = one 0x06 ++ frame data_start last_end (word_bytes sum) in
        let a = asker Sum in
        record {
          stage = Commanded Sum;
          code = 0xB0;
          info = pair_bytes now;
          few = omega arith;
          sent = sent_first kind;
          told =
              told_waiting ifpr_open a _ m answer (hears_sum chip sized first b.waiting now fact.forward fact.there) fit 0x06 0 1 sum
              (q ∙ sum_means o s now m kind)
              (omega (arith, b.frames))
              (absorb_once chip s a answer sums refl _ _ refl (sum_reply_lem sum) ∙ ap (λ (x : ℕ). finished s a x sums) (sum_in_lem sum (below covered)));
        }

    pub blank_once : now.kind ≡ Blank → Once p first
    unfolding first_command absorb_command
    blank_once kind =
        record {
          stage = Commanded Blank;
          code = 0x32;
          info = pair_bytes now ++ (0x00 ∷ []);
          few = omega arith;
          sent = sent_first kind;
          told = go (blank covered) refl;
        }
      where
        a : Player
        a = asker Blank

        means : (t : Bool) → blank covered ≡ t → e ≡ leaves (done m (cond t 0x06 0x1B) 0 1 0) o
        means t h = q ∙ blank_means o s now m kind ∙ ap (λ (t : Bool). leaves (done m (cond t 0x06 0x1B) 0 1 0) o) h

        go : (t : Bool) → blank covered ≡ t → Told a (hears chip first (blank_command now))
        go true h =
            told_waiting ifpr_open a _ m (one 0x06) (hears_blank chip sized first b.waiting now fact.forward fact.there h) fit 0x06 0 1 0
            (means true h)
            (omega (arith, b.frames))
            (absorb_once chip s a (one 0x06) sums refl _ _ refl (command_one 0x06))
        go false h =
            told_waiting ifpr_open a _ m (one 0x1B) (hears_used chip sized first b.waiting now fact.forward fact.there h) fit 0x1B 0 1 0
            (means false h)
            (omega (arith, b.frames))
            (absorb_once_stop chip s a (one 0x1B) sums refl _ _ refl (rw (command_one 0x1B)) ∙ rw (command_one 0x1B))

    -- a lock that clears IFPR gets no answer, and none is due
    pub lock_once : now.kind ≡ Lock → Once p first
    unfolding first_command absorb_command lock_reply
    lock_once kind =
        record {
          stage = Commanded Lock;
          code = 0xA0;
          info = now.flags.sf1 ∷ now.flags.sf2 ∷ 0x00 ∷ [];
          few = omega arith;
          sent = sent_first kind;
          told = go (clears now.flags) refl;
        }
      where
        a : Player
        a = asker Lock

        set : Options
        set = security_set now.flags.sf1 now.flags.sf2 o

        stands : step_at chip s a.step ≡ now
        stands = refl

        left : (x : State) → x.memory ≡ m → x.options ≡ set → settled chip x ≡ true → Left chip (leaves (done m 0x06 0 1 0) set) x
        left x f g h = record { memory = f; options = g; settled = h; fit = rw f fit }

        told : (h : Out) (x : State) (answer : List ℕ) → h ≡ out x answer → x.memory ≡ m → x.options ≡ set → settled chip x ≡ true
            → lock_reply now answer ≡ well → Told a h
        told h x answer arrived f g settles w =
            rw (arrived, q ∙ lock_means o s now m kind)
            (record {
              left = left x f g settles;
              frames = omega (arith, b.frames);
              taken = absorb_once chip s a answer sums refl (lock_reply now answer) 0 refl w;
            })

        go : (t : Bool) → clears now.flags ≡ t → Told a (hears chip first (lock_command now))
        go true c =
            let shut = lock_shuts o now.flags c in
            told _ (rest Silent Idle set m) [] (hears_shut chip sized first b.waiting now shut) refl refl (silent_settled chip set m shut) (rw c)
        go false c =
            let still = lock_leaves_open o now.flags ifpr_open c in
            told _ (rest Command Idle set m) (one 0x06) (hears_lock chip sized first b.waiting now still) refl refl (rest_settled chip set m still)
            (rw c (command_one 0x06))

  -- ---- what is known of such a state ----

  module _ (room : ℕ) (ok : verdict chip s room ≡ Accepted) (k : ℕ) (j : Joined) (mid : Mid k j) where
    abbrev p : Player
    p = j.player

    abbrev m : Memory
    m = j.state.memory

    abbrev stand : State
    stand = rest Command j.state.task o m

    pub fact : Sound chip s i now
    fact = sound chip s room ok i mid.there

    here : step_at chip s p.step ≡ now
    here = ap (step_at chip s) mid.step

    -- ---- what is sent ----

    -- the erase of a block
    block_sent : now.kind ≡ Erase → (a : ℕ) → ErasesNext p a → emitted chip s p ≡ sends (Commanded Erase) p a (block_command now a)
    unfolding first_command
    block_sent kind a (inl g) = emit_first chip s p now here g.0 kind ∙ rw g.1
    block_sent kind a (inr g) = emit_block chip s p now here g.0 ∙ rw g.1

    -- the command of a write or a verify
    first_sent : p.stage ≡ Ready → {c : Kind} → now.kind ≡ c → emitted chip s p ≡ sends (Commanded now.kind) p 0 (first_command c now)
    first_sent g kind =
        emit_first chip s p now here g refl ∙ ap (λ (c : Kind). sends (Commanded now.kind) p 0 (first_command c now)) kind

    pub write_sent : p.stage ≡ Ready → now.kind ≡ Write → emitted chip s p ≡ sends (Commanded now.kind) p 0 (pair_command 0x40 now)
    unfolding first_command
    write_sent g kind = first_sent g kind

    verify_sent : p.stage ≡ Ready → now.kind ≡ Verify → emitted chip s p ≡ sends (Commanded now.kind) p 0 (pair_command 0x13 now)
    unfolding first_command
    verify_sent g kind = first_sent g kind

    -- a page: its frame says whether it is the last, and the stand-in awaits it
    abbrev body : List ℕ
    body = body_page s now p.at

    abbrev pub page : List ℕ
    page = frame data_start (end_due (eqb k 1)) body

    pub page_sent : p.stage ≡ Page now.kind → p.at + k ≡ step_pages now → emitted chip s p ≡ sends (Paged now.kind) p p.at page
    page_sent stage z =
        emit_page chip s p now here stage
        ∙ ap (λ (b : Bool). sends (Paged now.kind) p p.at (frame data_start (end_due b) body)) (last_page_lem p.at k (step_pages now) z)

    pub page_sized : p.at + k ≡ step_pages now → Inside s now → length body ≡ page_size
    page_sized z inside = page_length s now inside p.at (omega arith)

    pub page_ahead : p.at + k ≡ step_pages now → (st : ℕ) → ahead chip (pages_at now p.at k st) ≡ true
    page_ahead z st =
        let there = step_pages_lem chip s i now fact in
        rw (lt-ltb 0 k mid.some, le-leb (first_page now.flash now.first + p.at + k) (pages chip now.flash) (omega arith))

    -- any frame
    framed : (g : Stage) (a : ℕ) (task : Task) (end : ℕ) (body : List ℕ) → emitted chip s p ≡ sends g p a (frame (start_of task) end body)
        → task_now chip Command j.state.task ≡ task → 1 ≤ length body → length body ≤ 256 → Framed chip s j
    unfolding frame
    framed g a task end body sent awaited low high =
        let phase : j.state.phase ≡ Command = ap (λ (x : State). x.phase) mid.state in
        let task-now : task_now chip j.state.phase j.state.task ≡ task = rw phase awaited in
        record {
          phase = phase;
          got = ap (λ (x : State). x.got) mid.state;
          len = len_byte body;
          more = body ++ (sum_byte body ∷ end ∷ []);
          bytes = ap (λ (x : Sent). x.bytes) sent ∙ rw task-now;
          all = rw task-now (whole_framed (start_of task) end body low high);
        }

    -- a command, and a page
    commanded : (g : Stage) (a : ℕ) (body : List ℕ) → emitted chip s p ≡ sends g p a (command body) → waits chip stand ≡ true
        → 1 ≤ length body → length body ≤ 256 → Framed chip s j
    commanded g a body sent w low high = framed g a Idle last_end body sent (waiting_task chip stand w) low high

    paged : (task : Task) → start_of task ≡ data_start → p.stage ≡ Page now.kind → p.at + k ≡ step_pages now → task_now chip Command j.state.task ≡ task
        → Inside s now → Framed chip s j
    paged task starts stage z awaited inside =
        let l = page_sized z inside in
        framed (Paged now.kind) p.at task (end_due (eqb k 1)) body (rw starts (page_sent stage z)) awaited (omega arith) (omega arith)

    frame_at : At k p j.state.task m → Framed chip s j
    unfolding task_now
    frame_at (AtBlock kind a at w z f q) = commanded (Commanded Erase) a _ (block_sent kind a at) w (omega arith) (omega arith)
    frame_at (AtOpen (inl kind) b z q) =
        commanded (Commanded now.kind) 0 _ (write_sent b.stage kind) b.waiting (omega arith) (omega arith)
    frame_at (AtOpen (inr kind) b z q) =
        commanded (Commanded now.kind) 0 _ (verify_sent b.stage kind) b.waiting (omega arith) (omega arith)
    frame_at (AtOnce b z x) = commanded x.stage 0 (x.code ∷ x.info) x.sent b.waiting (omega arith) (omega (arith, x.few))
    frame_at (AtPage stage z f (Writing st kind task low q)) =
        paged (Programming (pages_at now p.at k st)) refl stage z (rw (task, page_ahead z st)) (fact.write kind)
    frame_at (AtPage stage z f (Comparing st kind task q)) =
        paged (Verifying (pages_at now p.at k st)) refl stage z (rw (task, page_ahead z st)) (fact.verify kind)

    -- the sheet has the player's step, block or page
    in_sheet : p.step < count s
    in_sheet = omega (arith, mid.there, mid.step)

    begun_found : Begun p j.state.task m → lost chip s p ≡ false
    begun_found b = stands_ready chip s p in_sheet b.stage

    found_at : At k p j.state.task m → lost chip s p ≡ false
    found_at (AtBlock kind a (inl g) w z f q) = stands_ready chip s p in_sheet g.0
    found_at (AtBlock kind a (inr g) w z f q) = stands_block chip s p now here in_sheet g.0 kind (omega (arith, mid.some, g.1))
    found_at (AtOpen kind b z q) = begun_found b
    found_at (AtOnce b z x) = begun_found b
    found_at (AtPage stage z f (Writing st kind task low q)) =
        stands_page chip s p now here in_sheet refl stage (inl kind) (omega (arith, mid.some))
    found_at (AtPage stage z f (Comparing st kind task q)) =
        stands_page chip s p now here in_sheet refl stage (inr kind) (omega (arith, mid.some))

    -- ---- what comes of it ----

    module _ (sized : Sized chip) (c : ℕ) where
      abbrev Outcome : Type 0
      Outcome = Turned k j (turned clean chip s c j)

      -- the player sends a frame
      module _ (g : Stage) (a : ℕ) (bytes : List ℕ) (sent : emitted chip s p ≡ sends g p a bytes) where
        abbrev after : Player
        after = awaiting g p a

        abbrev sends_so : Sent
        sends_so = record { player = after; bytes = bytes }

        sent_as : emitted chip s p ≡ sends_so
        unfolding counted
        sent_as = sent ∙ rw (mid.step, lt-ltb p.frames most_counted (omega (arith, mid.counts)))

        -- the stand-in hears it, and the player takes the answer in
        turn_to : (h : Out) → hears chip stand bytes ≡ h → (a : Absorbed) → absorbed chip s after h.answer sums ≡ a
            → turned clean chip s c j ≡ joining a.player h.state a.sums (over bytes j.frame) (over h.answer j.reply) h.answer
        turn_to h arrived a took =
            turn_as chip s j clean c
            ∙ ap (λ (x : Sent). heard_by chip s j clean c x (hears chip j.state x.bytes)) sent_as
            ∙ ap (λ x. heard_by chip s j clean c sends_so (hears chip x bytes)) mid.state
            ∙ ap (heard_by chip s j clean c sends_so) arrived
            ∙ ap (λ (a : Absorbed). joining a.player h.state a.sums (over bytes j.frame) (over h.answer j.reply) h.answer)
            (ap (absorbed chip s after h.answer) mid.list ∙ took)

        -- the step goes on
        goes : (task : Task) (m' : Memory) (answer : List ℕ) → Fit chip m' → hears chip stand bytes ≡ out (rest Command task o m') answer
            → (g' : Stage) (b : ℕ) → absorbed chip s after answer sums ≡ goes_on g' after b sums → between_in g' ≡ false
            → (more : ℕ) → k ≡ suc more → 0 < more → At more (player g' i b (p.frames + 1) 0 well) task m' → Outcome
        unfolding between
        goes task m' answer fit arrived g' b took within more z low at =
            rw (turn_to (out (rest Command task o m') answer) arrived (goes_on g' after b sums) took)
            (Goes within refl more z
            (record {
              some = low;
              there = mid.there;
              step = refl;
              list = refl;
              state = refl;
              fit = fit;
              ifpr = mid.ifpr;
              counts = omega (arith, mid.counts);
              at = at;
            }))

        -- the step ends
        ends : Told after (hears chip stand bytes) → Outcome
        unfolding between between_in finished report_of report_by
        ends t = go (eqb e.done.status 0x06) refl
          where
            starts : (b : Bool) → between_in (cond b Over Ready) ≡ true
            starts true = refl
            starts false = refl

            go : (b : Bool) → eqb e.done.status 0x06 ≡ b → Outcome
            go true x =
                rw (turn_to (hears chip stand bytes) refl (finished s after e.done.sum sums) (t.taken ∙ rw x))
                (Ends (starts (eqb (i + 1) (count s))) refl
                (record {
                  left = t.left;
                  frames = t.frames;
                  went = λ w. (rw t.frames, refl);
                  halted = λ w. absurd (w (eqb-true e.done.status 0x06 x));
                }))
            go false x =
                rw (turn_to (hears chip stand bytes) refl (stopped after (Byte e.done.status) e.done.pieces sums) (t.taken ∙ rw x))
                (Ends refl refl
                (record {
                  left = t.left;
                  frames = t.frames;
                  went = λ w. absurd (eqb-false e.done.status 0x06 x w);
                  halted = λ w. (rw t.frames, refl, refl);
                }))

      -- the erase of a block
      module _ (kind : now.kind ≡ Erase) (a : ℕ) (at : ErasesNext p a) (w : waits chip stand ≡ true)
          (z : a + k ≡ step_blocks now) (f : p.frames ≡ n + a) (q : e ≡ leaves (erase_done (erase_from o now m a k)) o) where
        abbrev b : Block
        b = block (now.first.0 + a)

        inside : b.0 < blocks chip now.flash
        inside = omega (arith, fact.there, fact.forward)

        sent_block : emitted chip s p ≡ sends (Commanded Erase) p a (block_command now a)
        sent_block = block_sent kind a at

        abbrev sender : Player
        sender = awaiting (Commanded Erase) p a

        block_stops : (left : ℕ) → k ≡ suc left → erase_protected o now.flash b ≡ true → Outcome
        block_stops left y h =
            ends (Commanded Erase) a (block_command now a) sent_block
            (told_waiting mid.ifpr sender _ m (one 0x10) (hears_erase_guarded chip sized stand w now.flash b inside h) mid.fit 0x10 a (a + 1) 0
            ((rw y at q) ∙ ap (λ d. leaves d o) (erase_stops o now m a left h))
            (omega arith)
            (absorb_erase_stop chip s sender (one 0x10) sums refl (rw (command_one 0x10)) ∙ rw (command_one 0x10)))

        -- the block is erased
        module _ (h : erase_protected o now.flash b ≡ false) where
          abbrev blank_there : Memory
          blank_there = erase_block m now.flash b

          kept : Fit chip blank_there
          kept = fit_erased chip m mid.fit now.flash b inside

          erased : hears chip stand (block_command now a) ≡ out (rest Command Idle o blank_there) (one 0x06)
          erased = hears_erase_free chip sized stand w now.flash b inside h

          block_last : k ≡ 1 → Outcome
          block_last y =
              ends (Commanded Erase) a (block_command now a) sent_block
              (told_waiting mid.ifpr sender _ blank_there (one 0x06) erased kept 0x06 0 (a + 1) 0
              ((rw y at q) ∙ ap (λ d. leaves d o) (erase_last_lem o now m a h))
              (omega arith)
              (absorb_erase_last chip s sender (one 0x06) sums refl now refl (command_one 0x06) (omega arith)))

          block_on : (left : ℕ) → k ≡ suc (suc left) → Outcome
          unfolding between_in
          block_on left y =
              goes (Commanded Erase) a (block_command now a) sent_block Idle blank_there (one 0x06) kept erased stages.Block (a + 1)
              (absorb_erase_on chip s sender (one 0x06) sums refl now refl (command_one 0x06) (omega arith))
              refl
              (suc left) y (omega arith)
              (AtBlock kind (a + 1) (inr (refl, refl)) (rest_waits chip o blank_there mid.ifpr) (omega arith) (omega arith)
              ((rw y at q) ∙ ap (λ w. leaves (erase_done w) o) (erase_on o now m a (suc left) h)))

        block_turn : Outcome
        block_turn = go (erase_protected o now.flash b) refl k refl
          where
            go : (t : Bool) → erase_protected o now.flash b ≡ t → (x : ℕ) → k ≡ x → Outcome
            go t h zero z = absurd (omega arith)
            go true h (suc x) z = block_stops x z h
            go false h (suc zero) z = block_last h z
            go false h (suc (suc x)) z = block_on h x z

      -- the command that opens the pages of a write or a verify
      module _ (b : Begun p j.state.task m) (z : k ≡ 1 + step_pages now) (q : e ≡ step_leaves o s now m) where
        opens : (now.kind ≡ Write) ⊎ (now.kind ≡ Verify) → (bytes : List ℕ) → emitted chip s p ≡ sends (Commanded now.kind) p 0 bytes
            → (task : Task)
            → hears chip stand bytes ≡ out (rest Command task o m) (one 0x06)
            → Paging 0 (step_pages now) task m → Outcome
        unfolding between_in
        opens kind bytes sent task arrived paging =
            goes (Commanded now.kind) 0 bytes sent task m (one 0x06) mid.fit arrived (Page now.kind) 0
            (absorb_opened chip s (awaiting (Commanded now.kind) p 0) (one 0x06) sums refl kind (command_one 0x06))
            refl
            (step_pages now) (omega arith) (step_some chip s i now fact)
            (AtPage refl (omega arith) (omega (arith, b.frames)) paging)

        write_opens : now.kind ≡ Write → Outcome
        write_opens kind =
            opens (inl kind) (pair_command 0x40 now) (write_sent b.stage kind) (Programming (pages_for now))
            (hears_program chip sized stand b.waiting now fact.forward fact.there)
            (Writing 0x06 kind (ap Programming (first_pages_lem now)) (λ y. absurd (y refl)) (q ∙ write_means o s now m kind))

        verify_opens : now.kind ≡ Verify → Outcome
        verify_opens kind =
            let there = step_pages_lem chip s i now fact in
            let means =
            verify_means o s now m kind
            (omega (arith, there, in_pages chip now.flash, mid.fit now.flash))
            (omega (arith, fact.verify kind, blocks_in_pages now.flash (step_blocks now))) in
            opens (inr kind) (pair_command 0x13 now) (verify_sent b.stage kind) (Verifying (pages_for now))
            (hears_verify chip sized stand b.waiting now fact.forward fact.there)
            (Comparing 0x06 kind (ap Verifying (first_pages_lem now)) (q ∙ means))

      -- a page
      module _ (stage : p.stage ≡ Page now.kind) (z : p.at + k ≡ step_pages now) (f : p.frames ≡ n + 1 + p.at) where
        abbrev sent : emitted chip s p ≡ sends (Paged now.kind) p p.at page
        sent = page_sent stage z

        abbrev pager : Player
        pager = awaiting (Paged now.kind) p p.at

        -- told, with the status of the pair
        page_ends : (m' : Memory) (st pieces : ℕ) → Fit chip m' → hears chip stand page ≡ out (rest Command Idle o m') (pair 0x06 st)
            → e ≡ leaves (done m' st pieces (2 + p.at) 0) o → (st ≡ 0x06 → k ≡ 1) → ((st ≡ 0x06 → ⊥) → pieces ≡ pages_sure now.kind p.at)
            → Outcome
        page_ends m' st pieces fit arrived q last sure =
            ends (Paged now.kind) p.at page sent
            (told_waiting mid.ifpr pager _ m' (pair 0x06 st) arrived fit st pieces (2 + p.at) 0 q (omega arith) (go (eqb st 0x06) refl))
          where
            go : (b : Bool) → eqb st 0x06 ≡ b
                → absorbed chip s pager (pair 0x06 st) sums ≡ cond b (finished s pager 0 sums) (stopped pager (Byte st) pieces sums)
            go true h =
                let y = eqb-true st 0x06 h in
                let one_left = last y in
                absorb_page_last chip s pager (pair 0x06 st) sums refl now refl (data_well st ∙ ap Byte y) (omega arith)
            go false h =
                rw (sure (eqb-false st 0x06 h))
                (absorb_page_stop chip s pager (pair 0x06 st) sums refl now refl (rw (data_well st) h) ∙ rw (data_well st))

        -- more pages are awaited
        page_goes : (m' : Memory) (task : Task) (left : ℕ) → Fit chip m' → hears chip stand page ≡ out (rest Command task o m') (pair 0x06 0x06)
            → k ≡ suc (suc left) → Paging (p.at + 1) (suc left) task m' → Outcome
        unfolding between_in
        page_goes m' task left fit arrived y paging =
            goes (Paged now.kind) p.at page sent task m' (pair 0x06 0x06) fit arrived (Page now.kind) (p.at + 1)
            (absorb_page_on chip s pager (pair 0x06 0x06) sums refl now refl (data_well 0x06) (λ x. omega arith))
            refl
            (suc left) y (omega arith)
            (AtPage refl (omega arith) (omega arith) paging)

        module _ (st : ℕ) where
          abbrev awaited : Pages
          awaited = pages_at now p.at k st

          -- of a write
          module _ (kind : now.kind ≡ Write) (task : j.state.task ≡ Programming awaited) (q : e ≡ leaves (write_on o s now m p.at k st) o) where
            abbrev long : length body ≡ page_size
            long = page_sized z (fact.write kind)

            -- the page before failed
            write_tells : (st ≡ 0x06 → ⊥) → 1 ≤ p.at → Outcome
            write_tells bad low =
                page_ends m st (p.at - 1) mid.fit
                (hears_told chip stand awaited body long refl refl (page_ahead z st) task bad)
                (q ∙ ap (λ d. leaves d o) (write_told o s now m p.at k st bad low (omega arith)))
                (λ y. absurd (bad y))
                (λ y. rw kind)

            -- all before it are written
            module _ (fine : st ≡ 0x06) where
              abbrev status : ℕ
              status = status_of o s now m p.at k st

              abbrev written : Memory
              written = memory_after o s now m p.at k st

              kept_written : Fit chip written
              kept_written =
                  let there = step_pages_lem chip s i now fact in
                  fit_written chip m mid.fit (page_guarded o awaited) awaited body (omega arith) long

              write_ends : k ≡ 1 → Outcome
              write_ends y =
                  page_ends written status (cond (eqb status 0x06) 0 (p.at - 1)) kept_written
                  (hears_last chip stand awaited body long refl refl (page_ahead z st) task fine (eq-eqb k 1 y))
                  ((rw (fine, y) at q) ∙ ap (λ d. leaves d o) (write_last o s now m p.at k st (omega arith)))
                  (λ x. y)
                  (λ x. rw (kind, ne_eqb status 0x06 x))

              write_goes : (left : ℕ) → k ≡ suc (suc left) → Outcome
              write_goes left y =
                  page_goes written (Programming (later awaited status)) left kept_written
                  (hears_page chip stand awaited body long refl refl (page_ahead z st) task fine (ne_eqb k 1 (λ x. omega arith)))
                  y
                  (Writing status kind (ap Programming (later_page now p.at k (suc left) st status y)) (λ x. omega arith)
                  ((rw (fine, y) at q) ∙ ap (λ d. leaves d o) (write_on_lem o s now m p.at k st (suc left))))

          -- of a verify
          module _ (kind : now.kind ≡ Verify) (task : j.state.task ≡ Verifying awaited) (q : e ≡ leaves (verify_on s now m p.at k st) o) where
            abbrev found : ℕ
            found = compared_at s now m p.at k st

            verify_ends : k ≡ 1 → Outcome
            verify_ends y =
                page_ends m found 0 mid.fit
                (hears_compared chip stand awaited body (page_sized z (fact.verify kind)) refl refl (page_ahead z st) task (eq-eqb k 1 y))
                ((rw y at q) ∙ ap (λ d. leaves d o) (verify_last s now m p.at k st (omega arith)))
                (λ x. y)
                (λ x. rw kind)

            verify_goes : (left : ℕ) → k ≡ suc (suc left) → Outcome
            verify_goes left y =
                page_goes m (Verifying (later awaited found)) left mid.fit
                (hears_compare chip stand awaited body (page_sized z (fact.verify kind)) refl refl (page_ahead z st) task (ne_eqb k 1 (λ x. omega arith)))
                y
                (Comparing found kind (ap Verifying (later_page now p.at k (suc left) st found y))
                ((rw y at q) ∙ ap (λ d. leaves d o) (verify_on_lem s now m p.at k st (suc left))))

        page_turn : Paging p.at k j.state.task m → Outcome
        page_turn (Writing st kind task low q) = go (eqb st 0x06) refl k refl
          where
            go : (b : Bool) → eqb st 0x06 ≡ b → (x : ℕ) → k ≡ x → Outcome
            go b h zero z = absurd (omega arith)
            go true h (suc zero) z = write_ends st kind task q (eqb-true st 0x06 h) z
            go true h (suc (suc x)) z = write_goes st kind task q (eqb-true st 0x06 h) x z
            go false h (suc x) z = let bad = eqb-false st 0x06 h in write_tells st kind task q bad (low bad)
        page_turn (Comparing st kind task q) = go k refl
          where
            go : (x : ℕ) → k ≡ x → Outcome
            go zero z = absurd (omega arith)
            go (suc zero) z = verify_ends st kind task q z
            go (suc (suc x)) z = verify_goes st kind task q x z

      any_turn : At k p j.state.task m → Outcome
      any_turn (AtBlock kind a at w z f q) = block_turn kind a at w z f q
      any_turn (AtOpen (inl kind) b z q) = write_opens b z q kind
      any_turn (AtOpen (inr kind) b z q) = verify_opens b z q kind
      any_turn (AtOnce b z x) = ends x.stage 0 (command (x.code ∷ x.info)) x.sent x.told
      any_turn (AtPage stage z f paging) = page_turn stage z f paging

  module _ (room : ℕ) (ok : verdict chip s room ≡ Accepted) (k : ℕ) (j : Joined) (mid : Mid k j) where
    pub mid_frame : Framed chip s j
    mid_frame = frame_at room ok k j mid mid.at

    pub mid_found : lost chip s j.player ≡ false
    mid_found = found_at room ok k j mid mid.at

    -- A TURN FROM THERE
    pub turn : Sized chip → (c : ℕ) → Turned k j (turned clean chip s c j)
    turn sized c = any_turn room ok k j mid sized c mid.at
