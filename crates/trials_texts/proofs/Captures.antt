-- M-111: what a row of captures says where it holds. Assumes nothing.
use mathlib.Core.Path.{◌≡◌}
use mathlib.Core.Bool.{true, ◌&&◌}
use mathlib.Core.List.{List, [], ◌∷◌}
use lib.Dec.{eqb}
use borrow.Author.Tests.{eqb-true}
use Rattle.rules.specs.Capture.{capture_number, capture_line}
use Rattle.rules.proofs.Choices.{both}
use Rattle.trials_rows.specs.Rows.{same_number, same_options, same_memory}
use Rattle.trials_rows.proofs.Rows.{All, number_equal, options_equal, memory_equal}
use Rattle.trials_texts.specs.Captures.{Capture, looked_in, looks, all_look}

pub record Looks (t : Capture) : Type 0 where
  pub due : capture_number (looked_in t).verdict ≡ t.due
  pub line : capture_line (looked_in t).verdict ≡ t.line
  pub options : (looked_in t).options ≡ t.options_after
  pub memory : (looked_in t).memory ≡ t.memory_after

is_looked : (t : Capture) → looks t ≡ true → Looks t
unfolding looks
is_looked t h =
    let r = looked_in t in
    let d = same_number (capture_number r.verdict) t.due in
    let l = eqb (capture_line r.verdict) t.line in
    let o = same_options r.options t.options_after in
    let c = both (d && l && o) (same_memory r.memory t.memory_after) h in
    let b = both (d && l) o c.0 in
    let a = both d l b.0 in
    record {
      due = number_equal (capture_number r.verdict) t.due a.0;
      line = eqb-true (capture_line r.verdict) t.line a.1;
      options = options_equal r.options t.options_after b.1;
      memory = memory_equal r.memory t.memory_after c.1;
    }

pub all_look_lem : (ts : List Capture) → all_look ts ≡ true → All Looks ts
unfolding all_look
all_look_lem [] e = tt
all_look_lem (t ∷ ts) e = let p = both (looks t) (all_look ts) e in (is_looked t p.0, all_look_lem ts p.1)
