-- 02, M-106: the theorems of specs/Moves.antt. Assumes nothing.
use mathlib.Core.Path.{◌≡◌, ap, ◌∙◌}
use mathlib.Core.Bool.{false}
use mathlib.Core.List.{List}
use Prim.Native.Nat.{ℕ, ◌+◌, ◌-◌}
use native.Mathlib.Omega.{arith}
use lib.ListN.{length}
use Rattle.rules.specs.Answers.{Sheet}
use Rattle.rules.specs.Chip.{over}
use Rattle.rules.specs.Move.{Moving, moved_up, moved_down, up_closed, down_closed, move_up, move_down}
use Rattle.rules.proofs.Sheet.{sheet_allowed, allowed_sheet}
use Rattle.sheet_forms.specs.Moves.{UpWorks, DownWorks, UpOnly, DownOnly, ThereAndBack, UpKeeps, DownKeeps}
use Rattle.sheet_forms.proofs.Heads.{against_two}
use Rattle.sheet_forms.proofs.Moved.{up_length, down_length}
use Rattle.sheet_forms.proofs.Shifted.{table_there}
use Rattle.sheet_forms.proofs.Ways.{up_form, up_chip, up_shift, up_allowed, up_kinds, down_form, down_shift, down_allowed}
use Rattle.sheet_forms.proofs.Means.{keeps}
use Rattle.sheet_forms.proofs.Back as back
use Rattle.sheet_forms.proofs.Outcomes.{is_moved, told, down_told, down_open_lem}

-- a sheet that came, by its length
sized : (new out : List ℕ) (n : ℕ) (m : Moving) → m ≡ record { moved = Sheet (length new); out = over new out } → length new ≡ n
    → m ≡ record { moved = Sheet n; out = over new out }
sized new out n m e l = e ∙ ap (λ (k : ℕ). record { moved = Sheet k; out = over new out }) l

pub up_works : UpWorks
unfolding move_up
up_works s out l room =
    let a = sheet_allowed s l.accepted in
    let u = moved_up s in
    let n = up_length s l.form (table_there s a) in
    record {
      answer = sized u out _ (move_up s out) (is_moved s (up_closed s) u out l.accepted l.form (omega arith)) n;
      upper =
          record {
            accepted = allowed_sheet u (up_allowed s l.form a);
            form = up_form s;
            chip = up_chip s;
            kinds = up_kinds s l.form a;
          };
      against = against_two u (up_form s) (up_chip s);
      steps = (up_shift s l.form a).counted;
    }

pub down_works : DownWorks
unfolding move_down
down_works s out l room =
    let a = sheet_allowed s l.accepted in
    let u = moved_down s in
    let n = down_length s l.form (table_there s a) in
    let way : down_closed s ≡ false = down_open_lem s (record { form = l.form; chip = l.chip; kinds = l.kinds }) in
    record {
      answer = sized u out _ (move_down s out) (is_moved s (down_closed s) u out l.accepted way (omega arith)) n;
      lower =
          record {
            accepted = allowed_sheet u (down_allowed s l.form a l.chip l.kinds);
            form = down_form s l.form a;
          };
      steps = (down_shift s l.form a).counted;
    }

pub up_only : UpOnly
unfolding move_up
up_only s out n e =
    let t = told s (up_closed s) (moved_up s) out n e in record { accepted = t.0; form = t.1 }

pub down_only : DownOnly
unfolding move_down
down_only s out n e =
    let t = told s (down_closed s) (moved_down s) out n e in
    let d = down_told s t.1 in
    record { accepted = t.0; form = d.form; chip = d.chip; kinds = d.kinds }

pub there_and_back : ThereAndBack
there_and_back s l bytes = back.there_and_back s l.form (sheet_allowed s l.accepted) bytes

pub up_keeps : UpKeeps
up_keeps s l =
    let a = sheet_allowed s l.accepted in
    keeps (λ n. n + 4) s (moved_up s) (up_shift s l.form a) a

pub down_keeps : DownKeeps
down_keeps s l =
    let a = sheet_allowed s l.accepted in
    keeps (λ n. n - 4) s (moved_down s) (down_shift s l.form a) a
