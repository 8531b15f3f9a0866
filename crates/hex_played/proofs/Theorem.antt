-- 02, M-103: the theorem of a HEX text in the code, which specs/HexPlayed.antt states. Assumes nothing.
use mathlib.Core.Path.{◌≡◌, refl, sym, ap, ◌∙◌}
use mathlib.Core.List.{List}
use Prim.Native.Nat.{ℕ, ◌≤◌}
use lib.ListN.{length, take}
use Rattle.rules.specs.declared.Options.{Options}
use Rattle.rules.specs.Answers.{Accepted}
use Rattle.rules.specs.Chip.{Memory, small, known, flash_of}
use Rattle.rules.specs.Sheet.{count, verdict}
use Rattle.rules.specs.StandIn.{State, powered}
use Rattle.rules.specs.Meaning.{meaning}
use Rattle.rules.specs.Hex.{Making}
use Rattle.rules.specs.Run.{Joined}
use Rattle.chip_finder.specs.LentFlashes.{memory}
use Rattle.joined_laws.specs.Turns.{Fit}
use Rattle.joined_laws.proofs.LengthsKept.{feed_kept}
use Rattle.joined.specs.Answers.{Answer}
use Rattle.joined.specs.CameTo.{CameTo}
use Rattle.joined.proofs.FromPowerOn.{power_on_feeds, comes, power_on_feed_play, power_on_open_play}
use Rattle.hex_laws.specs.Programmed.{Unprotected, Finished}
use Rattle.hex_laws.specs.HexText.{Accepts, made_sheet, cells_of}
use Rattle.hex_laws.proofs.Theorem.{hex_accepted, hex_means}
use Rattle.hex_played.specs.HexPlayed.{PlayedOut, MadeOf, HexPlays, HexPlaysOpened, HexPlaysFed}

module _ (text s : List ℕ) (w : MadeOf text s) where
  accepts : Accepts text w.before w.size
  accepts = ap (λ (x : Making). x.made) (sym w.promise) ∙ w.sheet

  same_sheet : s ≡ made_sheet text w.before w.size
  same_sheet = w.front ∙ ap (λ (x : Making). take w.size x.out) w.promise

  accepted : (room : ℕ) → count s ≤ room → verdict small s room ≡ Accepted
  accepted room h = rw same_sheet (hex_accepted text w.before w.size accepts room (rw (← same_sheet) h))

  -- a play that came to the meaning
  played_out : (o : Options) → Unprotected o → (m : Memory) → Fit small m → (sums each : List ℕ) (a : Answer) (j : Joined) (list : List ℕ)
      → CameTo small (meaning small s o m sums) each a j list → PlayedOut s (cells_of text) o m a j
  played_out o free m fit sums each a j list c =
      let f : Finished s (cells_of text) o m (meaning small s o m sums) = rw same_sheet (hex_means text w.before w.size accepts o free m fit sums) in
      record { played = c.played; end = rw c.end f; over = c.over; settled = c.settled }

pub hex_plays : HexPlays
hex_plays text s w frame reply sums each l st free fit waiting a j list e =
    let ok = accepted text s w (length sums) l.room in
    played_out text s w st.options free st.memory fit sums _ a j list (comes small s frame reply sums each ok l.frames l.replies st fit waiting a j list e)

pub hex_plays_opened : HexPlaysOpened
hex_plays_opened text s w frame reply sums each l o code dat on p free ident f held code1 dat1 out out1 roomed fed well q held2 code2 dat2 reply2 frame2 sums2 each2 play =
    let ok = accepted text s w (length sums) l.room in
    played_out text s w o free (memory code dat) p.fit sums _ _ _ each2
    (power_on_open_play small s frame reply sums each ok l.frames l.replies p.device p.chip o code dat p.fit on p.promise f held code1 dat1 out1 q held2 code2 dat2 reply2 frame2 sums2 each2 ident out roomed fed well play)

pub hex_plays_fed : HexPlaysFed
unfolding known
hex_plays_fed text s w frame reply sums each l o code dat on p f held code1 dat1 out out1 bytes fed well waiting free q held2 code2 dat2 reply2 frame2 sums2 each2 play =
    let ok = accepted text s w (length sums) l.room in
    let led = power_on_feeds small refl p.device p.chip o code dat p.fit on p.promise f held code1 dat1 out1 out bytes fed well in
    let kept : Fit small (memory code1 dat1) = λ g. ap (λ (st : State). length (flash_of st.memory g)) led ∙ feed_kept small (powered o (memory code dat)) p.fit bytes g in
    played_out text s w f.core.options free (memory code1 dat1) kept sums _ _ _ each2
    (power_on_feed_play small s frame reply sums each ok l.frames l.replies p.device p.chip o code dat p.fit on p.promise f held code1 dat1 out1 q held2 code2 dat2 reply2 frame2 sums2 each2 out bytes fed well waiting play)
