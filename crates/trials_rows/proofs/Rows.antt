-- What a row of a table says where it holds: every column of it is an equation, so that no column goes unasked. Assumes nothing.
use mathlib.Core.Path.{◌≡◌, refl, sym}
use mathlib.Core.Bool.{Bool, true, false, cond, ◌&&◌, false≢true}
use mathlib.Core.List.{List, [], ◌∷◌}
use Prim.Native.Nat.{ℕ}
use lib.Dec.{eqb}
use lib.ListN.{replicate}
use borrow.Author.Tests.{eqb-true, eq-eqb}
use Rattle.rules.specs.declared.Chip.{Chip}
use Rattle.rules.specs.declared.Options.{Options}
use Rattle.rules.specs.declared.Phase.TheVariants.{Command}
use Rattle.rules.specs.Notes.{Note, Empty}
use Rattle.rules.specs.declared.Report.{Report}
use Rattle.rules.specs.declared.Task.TheVariants.{Idle}
use Rattle.rules.specs.declared.numbers.Number.{Number}
use Rattle.rules.specs.Chip.{Memory, small, same}
use Rattle.rules.specs.Options.{fresh_options}
use Rattle.rules.specs.Command.{phase_number}
use Rattle.rules.specs.StandIn.{State, Out, outs, powered, power_on, byte_call, rest}
use Rattle.rules.specs.Sheet.{verdict}
use Rattle.rules.specs.Meaning.{Ended, meaning, step_frames}
use Rattle.rules.specs.Numbers.{note_numbers, call_number, verdict_number, next_number, status_number}
use Rattle.rules.specs.Player.{called}
use Rattle.rules.specs.Run.{Joined, Ran, clean, joined_at_start, run, waits, settled}
use Rattle.trials_rows.specs.Rows.{same_number, same_options, same_memory, alike, Exchange, Session, gives, comes_last, state_after, exchanged, holds, all_hold, Play, reports, no_sums, no_frames, meant, ran_to, opened, plays, all_play, Lending, lent_memory, lends, all_lend, Calling, calls, all_call}
use Rattle.rules.proofs.Bytes.{same_equal}
use Rattle.rules.proofs.Choices.{both}

-- ---- the tests by which columns are asked ----

pub alike_equal : (a b : Bool) → alike a b ≡ true → a ≡ b
alike_equal true true e = refl
alike_equal true false e = sym e
alike_equal false false e = refl
alike_equal false true e = e

pub number_equal : (a b : Number) → same_number a b ≡ true → a ≡ b
number_equal a b e =
    let p = both (eqb a.letter b.letter) (eqb a.number b.number) e in
    made b.letter b.number (eqb-true a.letter b.letter p.0) (eqb-true a.number b.number p.1)
  where
    made : (l n : ℕ) → a.letter ≡ l → a.number ≡ n → a ≡ record { letter = l; number = n }
    made l n x y = rw (← x, ← y)

pub options_equal : (a b : Options) → same_options a b ≡ true → a ≡ b
options_equal a b e =
    let p = both (eqb a.sf1 b.sf1 && eqb a.sf2 b.sf2 && eqb a.sws b.sws) (eqb a.swe b.swe) e in
    let q = both (eqb a.sf1 b.sf1 && eqb a.sf2 b.sf2) (eqb a.sws b.sws) p.0 in
    let r = both (eqb a.sf1 b.sf1) (eqb a.sf2 b.sf2) q.0 in
    made b.sf1 b.sf2 b.sws b.swe (eqb-true a.sf1 b.sf1 r.0) (eqb-true a.sf2 b.sf2 r.1) (eqb-true a.sws b.sws q.1) (eqb-true a.swe b.swe p.1)
  where
    made : (i j k l : ℕ) → a.sf1 ≡ i → a.sf2 ≡ j → a.sws ≡ k → a.swe ≡ l → a ≡ record { sf1 = i; sf2 = j; sws = k; swe = l }
    made i j k l w x y z = rw (← w, ← x, ← y, ← z)

pub memory_equal : (a b : Memory) → same_memory a b ≡ true → a ≡ b
memory_equal a b e =
    let p = both (same a.code b.code) (same a.«data» b.«data») e in
    made b.code b.«data» (same_equal a.code b.code p.0) (same_equal a.«data» b.«data» p.1)
  where
    made : (c d : List ℕ) → a.code ≡ c → a.«data» ≡ d → a ≡ record { code = c; «data» = d }
    made c d x y = rw (← x, ← y)

-- all rows of a table
abbrev pub All : {A : Type 0} → (A → Type 0) → List A → Type 0
All P [] = Unit {0}
All P (x ∷ xs) = P x × All P xs

-- ---- a session ----

-- a byte's answer and note
abbrev pub Gives : Out → List ℕ → Note → Type 0
Gives o due note = (o.answer ≡ due) × (note_numbers o.note ≡ note_numbers note)

given : (o : Out) (due : List ℕ) (note : Note) → gives o due note ≡ true → Gives o due note
given o due note e =
    let p = both (same o.answer due) (same (note_numbers o.note) (note_numbers note)) e in
    (same_equal o.answer due p.0, same_equal (note_numbers o.note) (note_numbers note) p.1)

-- answer and note come with the last byte sent, and with no earlier one
abbrev pub ComesLast : List Out → List ℕ → Note → Type 0
ComesLast [] due note = ([] ≡ due) × ([] ≡ note_numbers note)
ComesLast (a ∷ []) due note = Gives a due note
ComesLast (a ∷ b ∷ later) due note = Gives a [] Empty × ComesLast (b ∷ later) due note

comes_last_lem : (os : List Out) (due : List ℕ) (note : Note) → comes_last os due note ≡ true → ComesLast os due note
unfolding comes_last
comes_last_lem [] due note e =
    let p = both (same [] due) (same [] (note_numbers note)) e in
    (same_equal [] due p.0, same_equal [] (note_numbers note) p.1)
comes_last_lem (a ∷ []) due note e = given a due note e
comes_last_lem (a ∷ b ∷ later) due note e =
    let p = both (gives a [] Empty) (comes_last (b ∷ later) due note) e in
    (given a [] Empty p.0, comes_last_lem (b ∷ later) due note p.1)

-- and so do those of each that is sent
abbrev pub Answered : Chip → State → List Exchange → Type 0
Answered chip s [] = Unit {0}
Answered chip s (x ∷ xs) =
    ComesLast (outs chip s x.sent) x.due x.note × Answered chip (state_after s (outs chip s x.sent)) xs

answered : (chip : Chip) (s : State) (xs : List Exchange) → (exchanged chip s xs).right ≡ true → Answered chip s xs
unfolding exchanged
answered chip s [] e = tt
answered chip s (x ∷ xs) e =
    let os = outs chip s x.sent in
    let p = both (comes_last os x.due x.note) (exchanged chip (state_after s os) xs).right e in
    (comes_last_lem os x.due x.note p.0, answered chip (state_after s os) xs p.1)

pub record Held (t : Session) : Type 0 where
  pub answers : Answered t.chip (powered t.options t.memory) t.exchanges
  pub end : State
  pub there : end ≡ (exchanged t.chip (powered t.options t.memory) t.exchanges).state
  pub phase : phase_number end.phase ≡ t.phase
  pub waiting : waits t.chip end ≡ t.waiting
  pub options : end.options ≡ t.options_after
  pub memory : end.memory ≡ t.memory_after

held : (t : Session) → holds t ≡ true → Held t
unfolding holds
held t e =
    let x = exchanged t.chip (powered t.options t.memory) t.exchanges in
    let s = x.state in
    let d = both (x.right && eqb (phase_number s.phase) t.phase && alike (waits t.chip s) t.waiting && same_options s.options t.options_after) (same_memory s.memory t.memory_after) e in
    let c = both (x.right && eqb (phase_number s.phase) t.phase && alike (waits t.chip s) t.waiting) (same_options s.options t.options_after) d.0 in
    let b = both (x.right && eqb (phase_number s.phase) t.phase) (alike (waits t.chip s) t.waiting) c.0 in
    let a = both x.right (eqb (phase_number s.phase) t.phase) b.0 in
    record {
      answers = answered t.chip (powered t.options t.memory) t.exchanges a.0;
      end = s;
      there = refl;
      phase = eqb-true (phase_number s.phase) t.phase a.1;
      waiting = alike_equal (waits t.chip s) t.waiting b.1;
      options = options_equal s.options t.options_after c.1;
      memory = memory_equal s.memory t.memory_after d.1;
    }

pub all_held : (ts : List Session) → all_hold ts ≡ true → All Held ts
unfolding all_hold
all_held [] e = tt
all_held (t ∷ ts) e = let p = both (holds t) (all_hold ts) e in (held t p.0, all_held ts p.1)

-- ---- a sheet ----

-- a report of those four
pub record Reported (r : Report) (st : Number) (i n k : ℕ) : Type 0 where
  pub status : status_number r.status ≡ st
  pub steps : r.steps ≡ i
  pub frames : r.frames ≡ n
  pub pieces : r.pieces ≡ k

reported : (r : Report) (st : Number) (i n k : ℕ) → reports r st i n k ≡ true → Reported r st i n k
reported r st i n k e =
    let c = both (same_number (status_number r.status) st && eqb r.steps i && eqb r.frames n) (eqb r.pieces k) e in
    let b = both (same_number (status_number r.status) st && eqb r.steps i) (eqb r.frames n) c.0 in
    let a = both (same_number (status_number r.status) st) (eqb r.steps i) b.0 in
    record {
      status = number_equal (status_number r.status) st a.0;
      steps = eqb-true r.steps i a.1;
      frames = eqb-true r.frames n b.1;
      pieces = eqb-true r.pieces k c.1;
    }

-- the meaning comes to that
pub record Meant (e : Ended) (t : Play) : Type 0 where
  pub report : Reported e.report t.status t.steps t.frames t.pieces
  pub sums : e.sums ≡ t.sums
  pub options : e.options ≡ t.options_after
  pub memory : e.memory ≡ t.memory_after

is_meant : (e : Ended) (t : Play) → meant e t ≡ true → Meant e t
is_meant e t h =
    let r = reports e.report t.status t.steps t.frames t.pieces in
    let c = both (r && same e.sums t.sums && same_options e.options t.options_after) (same_memory e.memory t.memory_after) h in
    let b = both (r && same e.sums t.sums) (same_options e.options t.options_after) c.0 in
    let a = both r (same e.sums t.sums) b.0 in
    record {
      report = reported e.report t.status t.steps t.frames t.pieces a.0;
      sums = same_equal e.sums t.sums a.1;
      options = options_equal e.options t.options_after b.1;
      memory = memory_equal e.memory t.memory_after c.1;
    }

-- and the clean run of a player and a stand-in that was opened
abbrev reached : Joined → Report
reached j = let p = j.player in record { status = p.status; steps = p.step; frames = p.frames; pieces = p.pieces }

pub record RanTo (j : Joined) (t : Play) : Type 0 where
  pub report : Reported (reached j) t.status t.steps t.frames t.pieces
  pub sums : j.sums ≡ t.sums
  pub options : j.state.options ≡ t.options_after
  pub memory : j.state.memory ≡ t.memory_after
  pub settled : settled t.chip j.state ≡ true

ran_to_lem : (j : Joined) (t : Play) → ran_to j t ≡ true → RanTo j t
ran_to_lem j t h =
    let r = reports (reached j) t.status t.steps t.frames t.pieces in
    let x = j.state in
    let d = both (r && same j.sums t.sums && same_options x.options t.options_after && same_memory x.memory t.memory_after) (settled t.chip x) h in
    let c = both (r && same j.sums t.sums && same_options x.options t.options_after) (same_memory x.memory t.memory_after) d.0 in
    let b = both (r && same j.sums t.sums) (same_options x.options t.options_after) c.0 in
    let a = both r (same j.sums t.sums) b.0 in
    record {
      report = reported (reached j) t.status t.steps t.frames t.pieces a.0;
      sums = same_equal j.sums t.sums a.1;
      options = options_equal x.options t.options_after b.1;
      memory = memory_equal x.memory t.memory_after c.1;
      settled = d.1;
    }

-- from the same chip, options and flash
abbrev meaning_of : Play → Ended
meaning_of t = meaning t.chip t.sheet t.options t.memory no_sums

abbrev run_of : Play → Ran
run_of t =
    run clean t.chip t.sheet (joined_at_start (opened t.chip t.options t.memory) (replicate 260 0) (replicate 16 0) no_sums)

abbrev each_of : Play → List ℕ
each_of t = step_frames t.chip t.sheet t.options t.memory no_frames

pub record Played (t : Play) : Type 0 where
  pub verdict : verdict_number (verdict t.chip t.sheet 4) ≡ t.verdict
  pub accepted : t.verdict.letter ≡ 0
      → Meant (meaning_of t) t × (each_of t ≡ t.each) × ((run_of t).complete ≡ true) × RanTo (run_of t).reached t

played : (t : Play) → plays t ≡ true → Played t
unfolding plays
played t h =
    let m = meant (meaning_of t) t && same (each_of t) t.each in
    let r = ran_to (run_of t).reached t in
    let p = both (same_number (verdict_number (verdict t.chip t.sheet 4)) t.verdict) (cond (eqb t.verdict.letter 0) (m && (run_of t).complete && r) true) h in
    record {
      verdict = number_equal (verdict_number (verdict t.chip t.sheet 4)) t.verdict p.0;
      accepted =
          λ z.
          let c = both (m && (run_of t).complete) r (asked (eqb t.verdict.letter 0) (m && (run_of t).complete && r) (eq-eqb t.verdict.letter 0 z) p.1) in
          let b = both m (run_of t).complete c.0 in
          let a = both (meant (meaning_of t) t) (same (each_of t) t.each) b.0 in
          (is_meant (meaning_of t) t a.0, same_equal (each_of t) t.each a.1, b.1, ran_to_lem (run_of t).reached t c.1);
    }
  where
    asked : (x b : Bool) → x ≡ true → cond x b true ≡ true → b ≡ true
    asked true b z e = e
    asked false b z e = absurd (false≢true z)

pub all_played_lem : (ts : List Play) → all_play ts ≡ true → All Played ts
unfolding all_play
all_played_lem [] e = tt
all_played_lem (t ∷ ts) e = let p = both (plays t) (all_play ts) e in (played t p.0, all_played_lem ts p.1)

-- ---- single calls ----

pub record Lent (t : Lending) : Type 0 where
  pub byte_call : call_number (byte_call t.chip (rest Command Idle fresh_options (lent_memory t)) (replicate t.reply 0) 0x01).call ≡ t.byte_call
  pub power_on : call_number (power_on t.chip (rest Command Idle fresh_options (lent_memory t)) fresh_options (lent_memory t)).call ≡ t.power_on

lent : (t : Lending) → lends t ≡ true → Lent t
unfolding lends
lent t h =
    let s = rest Command Idle fresh_options (lent_memory t) in
    let b = call_number (byte_call t.chip s (replicate t.reply 0) 0x01).call in
    let o = call_number (power_on t.chip s fresh_options (lent_memory t)).call in
    let p = both (same_number b t.byte_call) (same_number o t.power_on) h in
    record { byte_call = number_equal b t.byte_call p.0; power_on = number_equal o t.power_on p.1 }

pub all_lent : (ts : List Lending) → all_lend ts ≡ true → All Lent ts
unfolding all_lend
all_lent [] e = tt
all_lent (t ∷ ts) e = let p = both (lends t) (all_lend ts) e in (lent t p.0, all_lent ts p.1)

pub record Answers (t : Calling) : Type 0 where
  pub call : next_number (called small t.sheet t.player t.reply (replicate t.room 0) (replicate t.sums 0)).call ≡ t.call
  pub report : Reported (called small t.sheet t.player t.reply (replicate t.room 0) (replicate t.sums 0)).report t.status t.steps t.frames t.pieces

answers : (t : Calling) → calls t ≡ true → Answers t
unfolding calls
answers t h =
    let c = called small t.sheet t.player t.reply (replicate t.room 0) (replicate t.sums 0) in
    let p = both (same_number (next_number c.call) t.call) (reports c.report t.status t.steps t.frames t.pieces) h in
    record {
      call = number_equal (next_number c.call) t.call p.0;
      report = reported c.report t.status t.steps t.frames t.pieces p.1;
    }

pub all_answer : (ts : List Calling) → all_call ts ≡ true → All Answers ts
unfolding all_call
all_answer [] e = tt
all_answer (t ∷ ts) e = let p = both (calls t) (all_call ts) e in (answers t p.0, all_answer ts p.1)
