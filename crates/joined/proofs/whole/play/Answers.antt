-- `joined::whole::play` meets its contract: it is played, or told why not. Assumes nothing.
use mathlib.Core.Path.{◌≡◌, refl, sym, ap, ◌∙◌}
use mathlib.Core.Bool.{true}
use Rattle.rules.specs.declared.Player.{Player}
use Rattle.rules.specs.Player.{new_player}
use Rattle.rules.specs.Run.{Joined}
use Rattle.joined.specs.Rigs.{rigged}
use Rattle.joined.specs.Plays.{answer_number, Given, given, SheetOutcome, sheet_played}
use Rattle.joined.proofs.Calls.{plays, sheet_asked, sheet_not, sheet_played_lem, opens}
use Rattle.joined.proofs.whole.play.Goals as goal

pub returns-in-Err : goal.returns-in-Err
returns-in-Err c =
    let a = c.args in
    let new : c.new_player.result ≡ new_player = c.new_player.ensures in
    -- what is shown at the beginning, with a player, and all that stands where it is not played
    let with : Player → Joined =
    λ p. rigged (record { player = p; core = a.c; arrived = 0 }) a.held.now a.code.now a.«data».now a.reply.now a.frame.now a.sums.now in
    let kept : Player → Given =
    λ p. given (record { player = p; core = a.c; arrived = 0 }) a.held.now a.code.now a.«data».now a.reply.now a.frame.now a.sums.now in
    let start = with c.new_player.result in
    let o =
    sheet_not a.chip a.sheet.now start a.each.now _ (sheet_asked a.chip a.sheet.now start a.each.now _ new _ c.lent_sizes-lent.ensures _ (c.in-Err.ensures _))
    ∙ ap (λ (p : Player). sheet_played a.chip a.sheet.now (with p) a.each.now) new in record {
      each_after = o;
      answer_value = ap (λ (x : SheetOutcome). answer_number x.answer) o;
      stands = λ u. ap kept new;
      stands_2 = λ u. refl;
    }

pub steps_through-end-requires : goal.steps_through-end-requires
steps_through-end-requires c =
    let a = c.args in
    let new : c.new_player.result ≡ new_player = c.new_player.ensures in
    let start : Joined =
    rigged (record { player = c.new_player.result; core = a.c; arrived = 0 }) a.held.now a.code.now a.«data».now a.reply.now a.frame.now a.sums.now in
    let played = plays _ true _ (sym (sheet_asked a.chip a.sheet.now start a.each.now _ new _ c.lent_sizes-lent.ensures _ (c.in_default.ensures _))) in
    opens a.chip a.sheet.now start new played.accepted played.waits

pub returns : goal.returns
returns c =
    let a = c.args in
    let new : c.new_player.result ≡ new_player = c.new_player.ensures in
    -- what is shown at the beginning, with a player
    let with : Player → Joined =
    λ p. rigged (record { player = p; core = a.c; arrived = 0 }) a.held.now a.code.now a.«data».now a.reply.now a.frame.now a.sums.now in
    let start = with c.new_player.result in
    let played = plays _ true _ (sym (sheet_asked a.chip a.sheet.now start a.each.now _ new _ c.lent_sizes-lent.ensures _ (c.in_default.ensures _))) in
    let o =
    c.steps_through-end.ensures
    ∙ sym (sheet_played_lem a.chip a.sheet.now start a.each.now played.accepted played.waits)
    ∙ ap (λ (p : Player). sheet_played a.chip a.sheet.now (with p) a.each.now) new in record {
      each_after = o;
      answer_value = ap (λ (x : SheetOutcome). answer_number x.answer) o;
      stands = λ u. absurd (u refl);
      stands_2 = λ u. absurd (u refl);
    }
