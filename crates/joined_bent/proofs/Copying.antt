-- A write step frame by frame: so many of its first pages are copied and nothing else has changed, also in the frame whose answer is bent.
-- Assumes nothing.
use mathlib.Core.Path.{◌≡◌, refl, sym, ap, ◌∙◌}
use mathlib.Core.Bool.{Bool, true, false}
use mathlib.Core.List.{List}
use Prim.Native.Nat.{ℕ, suc, ◌+◌, ◌-◌}
use native.Mathlib.Omega.{arith}
use lib.Dec.{eqb}
use lib.ListN.{length}
use borrow.Author.Tests.{eqb-true, eqb-false}
use Rattle.rules.specs.declared.Chip.{Chip}
use Rattle.rules.specs.declared.Kind.{Kind}
use Rattle.rules.specs.declared.Kind.TheVariants.{Write}
use Rattle.rules.specs.declared.Options.{Options}
use Rattle.rules.specs.declared.Pages.{Pages}
use Rattle.rules.specs.declared.Player.{Player}
use Rattle.rules.specs.declared.Stage.{Stage}
use Rattle.rules.specs.declared.Stage.TheVariants.{Ready, Commanded, Page, Paged}
use Rattle.rules.specs.declared.Phase.TheVariants.{Command}
use Rattle.rules.specs.declared.Step.{Step}
use Rattle.rules.specs.declared.Task.{Task}
use Rattle.rules.specs.declared.Task.TheVariants.{Idle, Programming}
use Rattle.rules.specs.Answers.{Accepted}
use Rattle.rules.specs.Chip.{Memory, page_size, first_page, put_page}
use Rattle.rules.specs.Frame.{one, pair}
use Rattle.rules.specs.StandIn.{State, Out, out, rest, ahead, later, page_written}
use Rattle.rules.specs.Sheet.{verdict, step_at, step_pages, body_page}
use Rattle.rules.specs.Player.{Sent, sends, emitted, pair_command}
use Rattle.rules.specs.Run.{Joined}
use Rattle.joined_laws.specs.Hears.{hears, pages_for}
use Rattle.joined_laws.specs.Turns.{Sized, pages_at, Leaves}
use Rattle.joined_laws.proofs.MeaningSteps.{status_of, memory_after}
use Rattle.joined_laws.proofs.FramesHeard.{hears_program, hears_told, hears_page, hears_last}
use Rattle.joined_laws.proofs.Turns.{Begun, At, AtBlock, AtOpen, AtOnce, AtPage, Writing, Comparing, Mid, fact, write_sent, page, page_sent, page_sized, page_ahead}
use Rattle.joined_bent.specs.Bent.{copied, Copies}
use Rattle.joined_bent.proofs.Replies.{blocks_sure, pieces_sure}

-- so many pages are copied where page a is awaited: all before it, or, if the last of them failed, all but that one
abbrev Behind : ℕ → ℕ → ℕ → Type 0
Behind a st pages = (st ≡ 0x06 → pages ≡ a) × ((st ≡ 0x06 → ⊥) → pages + 1 ≡ a)

module _ (s : List ℕ) (t : Step) (before : Memory) where
  -- the same, of a stand-in by the command that it has begun
  abbrev Near : Task → ℕ → Type 0
  Near task pages = (a left st : ℕ) → task ≡ Programming (pages_at t a left st) → Behind a st pages

  -- BETWEEN TWO TURNS of a write step, begun with that flash
  pub record Copying (j : Joined) : Type 0 where
    pub pages : ℕ
    pub flash : j.state.memory ≡ copied s t pages before
    pub none_yet : j.player.stage ≡ Ready → pages ≡ 0
    pub near : j.player.stage ≡ Page t.kind → Near j.state.task pages

  -- BEHIND A FRAME of it, whatever comes of its answer; so many pieces are sure if the answer is bent
  pub record Wrote (x : State) (pieces : ℕ) : Type 0 where
    pub copies : Copies s t before x.memory pieces
    pub near : Near x.task copies.pages

  wrote_as : (x y : State) (a b : ℕ) → x ≡ y → a ≡ b → Wrote y b → Wrote x a
  wrote_as x y a b e f w = rw (e, f) w

  -- no page is awaited
  idle : (pages : ℕ) → Near Idle pages
  idle pages a left st e = let z : ◌≡◌ {A = ℕ} 0 1 = cc in absurd (omega arith)

  -- page a is awaited, with that status
  awaited : (p : Pages) (a st pages : ℕ) → p.page ≡ first_page t.flash t.first + a → p.status ≡ st → Behind a st pages → Near (Programming p) pages
  awaited p a st pages e f w b left st' g =
      let q : p ≡ pages_at t b left st' = cc in
      let u : p.page ≡ first_page t.flash t.first + b = ap (λ (x : Pages). x.page) q in
      let v : st ≡ st' = sym f ∙ ap (λ (x : Pages). x.status) q in
      let z : a ≡ b = omega arith in
      rw (z, v) at w

module _ (chip : Chip) (sized : Sized chip) (s : List ℕ) (i n : ℕ) (o : Options) (sums : List ℕ) (e : Leaves) (room : ℕ) (ok : verdict chip s room ≡ Accepted)
    (k : ℕ) (j : Joined) (mid : Mid chip s i n o sums e k j) (before : Memory) (kind : (step_at chip s i).kind ≡ Write) where
  abbrev t : Step
  t = step_at chip s i

  abbrev p : Player
  p = j.player

  abbrev m : Memory
  m = j.state.memory

  abbrev stand : State
  stand = rest Command j.state.task o m

  abbrev sent : Sent
  sent = emitted chip s p

  abbrev Frame : Type 0
  Frame = Wrote s t before (hears chip j.state sent.bytes).state (pieces_sure sent.player.stage sent.player.at)

  -- by what is sent, and what the stand-in makes of it
  by_frame : (g : Stage) (a : ℕ) (bytes : List ℕ) → sent ≡ sends g p a bytes → (h : Out) → hears chip stand bytes ≡ h
      → (pieces : ℕ) → pieces_sure g a ≡ pieces → Wrote s t before h.state pieces → Frame
  by_frame g a bytes sends_so h heard pieces sure w =
      wrote_as s t before _ h.state _ pieces
      (ap (λ (x : Sent). (hears chip j.state x.bytes).state) sends_so
      ∙ ap (λ (x : State). (hears chip x bytes).state) mid.state
      ∙ ap (λ (x : Out). x.state) heard)
      (ap (λ (x : Sent). pieces_sure x.player.stage x.player.at) sends_so ∙ sure) w

  module _ (w : Copying s t before j) where
    -- the command that opens its pages
    opened : Begun chip s i n o sums e p j.state.task m → Frame
    unfolding pieces_sure blocks_sure
    opened b =
        let known = fact chip s i n o sums e room ok k j mid in
        let z = w.none_yet b.stage in
        by_frame (Commanded t.kind) 0 (pair_command 0x40 t) (write_sent chip s i n o sums e room ok k j mid b.stage kind)
        (out (rest Command (Programming (pages_for t)) o m) (one 0x06))
        (hears_program chip sized stand b.waiting t known.forward known.there)
        0 (rw kind)
        (record {
          copies = record { pages = w.pages; least = omega arith; most = omega arith; there = omega arith; flash = w.flash };
          near = awaited s t before (pages_for t) 0 0x06 w.pages (omega arith) refl ((λ x. z), (λ x. absurd (x refl)));
        })

    -- a page
    module _ (stage : p.stage ≡ Page t.kind) (z : p.at + k ≡ step_pages t) (st : ℕ) (task : j.state.task ≡ Programming (pages_at t p.at k st)) where
      abbrev there : Pages
      there = pages_at t p.at k st

      abbrev content : List ℕ
      content = body_page s t p.at

      abbrev bytes : List ℕ
      bytes = page chip s i n o sums e room ok k j mid

      close : Behind p.at st w.pages
      close = w.near stage p.at k st task

      paged : (h : Out) → hears chip stand bytes ≡ h → Wrote s t before h.state (p.at - 1) → Frame
      unfolding pieces_sure
      paged h heard x =
          by_frame (Paged t.kind) p.at bytes (page_sent chip s i n o sums e room ok k j mid stage z) h heard (p.at - 1) (rw kind) x

      long : length content ≡ page_size
      long = page_sized chip s i n o sums e room ok k j mid z ((fact chip s i n o sums e room ok k j mid).write kind)

      ahead_there : ahead chip there ≡ true
      ahead_there = page_ahead chip s i n o sums e room ok k j mid z st

      -- the page before failed: this one is not looked at
      told : (st ≡ 0x06 → ⊥) → Frame
      told bad =
          let y = close.1 bad in
          paged (out (rest Command Idle o m) (pair 0x06 st)) (hears_told chip stand there content long refl refl ahead_there task bad)
          (record {
            copies = record { pages = w.pages; least = omega arith; most = omega arith; there = omega arith; flash = w.flash };
            near = idle s t before w.pages;
          })

      -- this page is written, or it fails
      module _ (fine : st ≡ 0x06) where
        abbrev status : ℕ
        status = status_of o s t m p.at k st

        abbrev flash : Memory
        flash = memory_after o s t m p.at k st

        -- so many pages more: this one, or none
        written : (b : Bool) → eqb status 0x06 ≡ b → (h : Out) → hears chip stand bytes ≡ h → h.state.memory ≡ flash
            → ((pages : ℕ) → Behind (p.at + 1) status pages → Near s t before h.state.task pages) → Frame
        unfolding page_written copied
        written true x h heard left near =
            let y = close.0 fine in
            let here : m ≡ copied s t p.at before = w.flash ∙ ap (λ (pages : ℕ). copied s t pages before) y in
            let new : flash ≡ copied s t (suc p.at) before =
            rw x (ap (λ (old : Memory). put_page old t.flash (first_page t.flash t.first + p.at) content) here) in
            let good = eqb-true status 0x06 x in
            paged h heard
            (record {
              copies = record { pages = suc p.at; least = omega arith; most = omega arith; there = omega (arith, mid.some); flash = left ∙ new };
              near = near (suc p.at) ((λ u. omega arith), (λ u. absurd (u good)));
            })
        written false x h heard left near =
            let y = close.0 fine in
            let bad = eqb-false status 0x06 x in
            paged h heard
            (record {
              copies = record { pages = w.pages; least = omega arith; most = omega arith; there = omega arith; flash = left ∙ rw x w.flash };
              near = near w.pages ((λ u. absurd (bad u)), (λ u. omega arith));
            })

        copied_page : Frame
        copied_page = go (eqb k 1) refl
          where
            go : (b : Bool) → eqb k 1 ≡ b → Frame
            go true last =
                written (eqb status 0x06) refl (out (rest Command Idle o flash) (pair 0x06 status))
                (hears_last chip stand there content long refl refl ahead_there task fine last)
                refl (λ pages u. idle s t before pages)
            go false more =
                written (eqb status 0x06) refl (out (rest Command (Programming (later there status)) o flash) (pair 0x06 0x06))
                (hears_page chip stand there content long refl refl ahead_there task fine more)
                refl (λ pages u. awaited s t before (later there status) (p.at + 1) status pages (omega arith) refl u)

      any_page : Frame
      any_page = go (eqb st 0x06) refl
        where
          go : (b : Bool) → eqb st 0x06 ≡ b → Frame
          go true x = copied_page (eqb-true st 0x06 x)
          go false x = told (eqb-false st 0x06 x)

    -- another kind of step
    other : {c : Kind} → t.kind ≡ c → (Write ≡ c → ⊥) → Frame
    other x n = absurd (n (sym kind ∙ x))

    -- A FRAME of a write step
    pub wrote : Frame
    wrote = go mid.at
      where
        go : At chip s i n o sums e k p j.state.task m → Frame
        go (AtBlock x a at v z f q) = other x (λ c. let y : ◌≡◌ {A = ℕ} 0 1 = cc in omega arith)
        go (AtOpen x b z q) = opened b
        go (AtOnce b z x) = opened b
        go (AtPage stage z f (Writing st x task low q)) = any_page stage z st task
        go (AtPage stage z f (Comparing st x task q)) = other x (λ c. let y : ◌≡◌ {A = ℕ} 0 1 = cc in omega arith)
