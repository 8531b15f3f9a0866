-- A fresh chip, waiting for a command: the text of what a play of any bytes comes to is that of the meaning, and it has room. Assumes nothing.
use mathlib.Core.Path.{◌≡◌, refl, sym, ap, subst, ◌∙◌}
use mathlib.Core.Bool.{true}
use mathlib.Core.List.{List}
use Prim.Native.Nat.{ℕ, ◌≤◌}
use native.Mathlib.Omega.{arith}
use lib.ListN.{length, take, replicate, length-replicate}
use Rattle.rules.specs.declared.Chip.{Chip}
use Rattle.rules.specs.declared.Flash.TheVariants.{Code, Data}
use Rattle.rules.specs.declared.Options.{Options}
use Rattle.rules.specs.declared.Phase.TheVariants.{Command}
use Rattle.rules.specs.declared.Task.TheVariants.{Idle}
use Rattle.rules.specs.Answers.{Verdict, Accepted, Refused}
use Rattle.rules.specs.Chip.{small, known, flash_size, blank_byte, fresh_memory, ident_of, ident_size}
use Rattle.rules.specs.Numbers.{call_number}
use Rattle.rules.specs.Options.{IFPR, fresh_options}
use Rattle.rules.specs.StandIn.{State, power_on, rest}
use Rattle.rules.specs.Sheet.{verdict}
use Rattle.rules.specs.Player.{new_player, player_verdict}
use Rattle.rules.specs.Meaning.{Ended}
use Rattle.rules.specs.Run.{joined_at_start}
use Rattle.rules.specs.Text.{play_text, verdict_text}
use Rattle.sheet.proofs.Accepted.{whole}
use Rattle.text_out.specs.Out.{Filled}
use Rattle.text_told.proofs.Room.{play_fits, refused_fits}
use Rattle.chip_finder.specs.LentFlashes.{memory}
use Rattle.standin_engine.specs.View.{view}
use Rattle.standin.specs.declared.call.Device.{Device}
use Rattle.standin.specs.declared.call.PoweredOn.{PoweredOn}
use Rattle.standin.specs.declared.feeding.Fed.{Fed}
use Rattle.standin.specs.Shows.{shows, powered_as}
use Rattle.standin.specs.Feeding.{fed_as}
use Rattle.standin.specs.Opening.{opening_room, opening_verdict, opened}
use Rattle.joined_laws.specs.Turns.{Fit}
use Rattle.joined_laws.proofs.FramesHeard.{rest_waits}
use Rattle.joined_laws.proofs.MeaningBounds.{meaning_few, each_few, zero_few}
use Rattle.joined_laws.proofs.Run.{accepted_sized}
use Rattle.joined_checks.specs.Checks.{joined_verdict}
use Rattle.joined.specs.Plays.{lengths}
use Rattle.joined.proofs.Calls.{sheet_refused}
use Rattle.joined.proofs.FromPowerOn.{comes, power_on_opens}
use Rattle.text_play.specs.Told.{played, answer_text, outcome_text}
use Rattle.text_play.specs.Fresh.{none, fresh_meaning, fresh_frames, fresh_text}

-- a fresh chip that waits for a command
abbrev pub waiting : State
waiting = rest Command Idle fresh_options (fresh_memory small)

pub fresh_fit : Fit small (fresh_memory small)
fresh_fit Code = length-replicate (flash_size small Code) blank_byte
fresh_fit Data = length-replicate (flash_size small Data) blank_byte

module _ (s : List ℕ) where
  abbrev play : List ℕ
  play = play_text small s (fresh_meaning s).report (fresh_meaning s).sums (fresh_frames s)

  -- by the verdict
  by_verdict : (v : Verdict) → verdict small s 64 ≡ v → outcome_text small s (played small s waiting) ≡ verdict_text v play
  unfolding answer_text verdict_text joined_verdict player_verdict
  by_verdict (Refused n) e = ap (outcome_text small s) (sheet_refused small s (joined_at_start waiting (replicate 260 0) (replicate 16 0) none) none n refused)
    where
      refused : joined_verdict small s new_player (lengths (joined_at_start waiting (replicate 260 0) (replicate 16 0) none)) ≡ Refused n
      refused = rw e
  by_verdict Accepted e =
      let o = played small s waiting in
      let c = comes small s (replicate 260 0) (replicate 16 0) none none e (omega arith) (omega arith) waiting fresh_fit (rest_waits small fresh_options (fresh_memory small) refl) o.answer o.reached o.each refl in
      rw (c.played, ap (λ (x : Ended). x.report) c.end, ap (λ (x : Ended). x.sums) c.end, c.frames)

  -- its length
  fits_by : (v : Verdict) → verdict small s 64 ≡ v → length (verdict_text v play) ≤ 2048
  unfolding verdict_text
  fits_by (Refused n) e = omega (arith, refused_fits n)
  fits_by Accepted e =
      let sized = accepted_sized small s 64 e in
      let few = meaning_few small sized s 64 e fresh_options (fresh_memory small) none in
      let steps = (whole small s 64 e).steps in
      let each = each_few small sized s 64 e fresh_options (fresh_memory small) none (λ j. omega (arith, zero_few 64 j)) in
      play_fits small s (fresh_meaning s).report (fresh_meaning s).sums (fresh_frames s) 64 e
      (record {
        steps = omega (arith, few.few_steps, steps);
        frames = omega (arith, few.few_frames, steps);
        pieces = omega (arith, few.few_pieces);
      })
      (λ i h. omega (arith, each i))

  pub fresh_is : outcome_text small s (played small s waiting) ≡ fresh_text s
  unfolding fresh_text
  fresh_is = by_verdict (verdict small s 64) refl

  pub fresh_fits : length (fresh_text s) ≤ 2048
  unfolding fresh_text
  fresh_fits = fits_by (verdict small s 64) refl

  -- THE TEXT in the buffer, of a stand-in that was brought to there
  pub fresh_told : (st : State) → st ≡ waiting → (before after : List ℕ) (n : ℕ) → Filled (outcome_text small s (played small s st)) before n after
      → 2048 ≤ length before → take n after ≡ fresh_text s
  fresh_told st e before after n f room =
      let is : outcome_text small s (played small s st) ≡ fresh_text s = ap (λ (x : State). outcome_text small s (played small s x)) e ∙ fresh_is in
      f.2 (rw is (omega (arith, fresh_fits, room))) ∙ is

-- ---- brought there by a power-on and the opening ----

-- both flashes blank
pub blank_memory_lem : (code dat : List ℕ) → code ≡ (fresh_memory small).code → dat ≡ (fresh_memory small).«data» → memory code dat ≡ fresh_memory small
blank_memory_lem code dat e f = rw (e, f)

small_known : known small ≡ true
unfolding known
small_known = refl

fresh_ident : ident_of (fresh_memory small) ≡ replicate ident_size blank_byte
fresh_ident = refl

module _ (k : Chip) (is : k ≡ small) (d : Device) (same : d.chip ≡ k) (o : Options) (fresh : o ≡ fresh_options) (code dat : List ℕ)
    (blank : memory code dat ≡ fresh_memory small) (a : PoweredOn)
    (on : powered_as a (memory code dat) ≡ power_on d.chip (shows d (memory code dat)) o (memory code dat))
    (f : Fed) (held code1 dat1 out1 out id : List ℕ) (room : opening_room ≤ length out) (own : id ≡ replicate ident_size blank_byte)
    (fed : fed_as f held (memory code1 dat1) out1 ≡ opened k (shows a.device (memory code dat)) out id)
    (well : opening_verdict k (length code) (length dat) (length out) ≡ Accepted → (call_number f.call).letter ≡ 0) where
  brought : view f.core held (memory code1 dat1) ≡ waiting
  brought =
      let fit : Fit k (memory code dat) = rw (is, blank) fresh_fit in
      let on· : IFPR o ≡ 0 → ⊥ = rw fresh (λ z. omega arith) in
      let id-is : id ≡ ident_of (memory code dat) = own ∙ sym fresh_ident ∙ ap ident_of (sym blank) in
      let fed· = fed ∙ ap (opened k (shows a.device (memory code dat)) out) id-is in
      power_on_opens k (rw is small_known) d same o code dat fit a on f held code1 dat1 out1 on· out room fed· well ∙ rw (fresh, blank)

  -- THE PROGRAM'S CALL: what its parts promise comes to the text
  pub all_told : (s before after : List ℕ) (n : ℕ)
      → Filled (outcome_text k s (played k s (view f.core held (memory code1 dat1)))) before n after
      → 2048 ≤ length before
      → take n after ≡ fresh_text s
  all_told s before after n told =
      fresh_told s (view f.core held (memory code1 dat1)) brought before after n
      (subst (λ (x : Chip). Filled (outcome_text x s (played x s (view f.core held (memory code1 dat1)))) before n after) is told)
