-- `text_show::map::mark_by` meets its contract: covered, or not. Assumes nothing.
use mathlib.Core.Path.{sym, ◌∙◌}
use borrow.Author.Tests.{le-leb, lt-leb}
use Rattle.text_show.specs.Map.{mark_by}
use Rattle.text_show.proofs.map.mark_by.Goals as goal

pub returns-then-not-same_flash : goal.returns-then-not-same_flash
unfolding mark_by
returns-then-not-same_flash c = rw (sym c.same_flash.ensures ∙ c.if-not-same_flash.true)

pub returns-then-b-first : goal.returns-then-b-first
unfolding mark_by
returns-then-b-first c =
    rw (sym c.same_flash.ensures ∙ c.if-not-same_flash.false, lt-leb c.args.t.first.0 c.args.b c.if-b-first.true)

pub returns-then-last-b : goal.returns-then-last-b
unfolding mark_by
returns-then-last-b c =
    rw (sym c.same_flash.ensures ∙ c.if-not-same_flash.false, le-leb c.args.t.first.0 c.args.b c.if-b-first.false, lt-leb c.args.b c.args.t.last.0 c.if-last-b.true)

pub returns : goal.returns
unfolding mark_by
returns c =
    rw (sym c.same_flash.ensures ∙ c.if-not-same_flash.false, le-leb c.args.t.first.0 c.args.b c.if-b-first.false, le-leb c.args.b c.args.t.last.0 c.if-last-b.false) c.touched.ensures
