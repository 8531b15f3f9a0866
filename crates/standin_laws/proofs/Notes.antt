-- Blank Check changes nothing, and a note changes no answer. Assumes nothing.
use mathlib.Core.Path.{◌≡◌, refl, ap}
use mathlib.Core.Bool.{Bool, true, false, cond, ◌&&◌}
use lib.Dec.{eqb}
use Rattle.rules.specs.declared.Order.TheVariants.{BlankCheck}
use Rattle.rules.specs.Answers.{Faulty, Ordered}
use Rattle.rules.specs.First.{first_fault}
use Rattle.rules.specs.Frame.{one, status_byte, data_fault}
use Rattle.rules.specs.Command.{order_checks, unless, judged_order, done}
use Rattle.rules.specs.StandIn.{Out, last_page, on_judged, on_page, on_compare}
use Rattle.standin_laws.specs.Notes.{BlankCheckChangesNothing, SameBytes, SamePair, SamePageBytes}

pub blank_check_changes_nothing : BlankCheckChangesNothing
unfolding on_judged judged_order unless done
blank_check_changes_nothing chip s f g a b tar =
    go (eqb (status_byte (first_fault (order_checks s.options s.memory f (BlankCheck g a b tar)))) 0x06)
  where
    go : (t : Bool)
        → let after = (on_judged (cond t (Ordered (BlankCheck g a b tar)) (Faulty (first_fault (order_checks s.options s.memory f (BlankCheck g a b tar))))) chip s).state in
        (after.memory ≡ s.memory) × (after.options ≡ s.options)
    go true = (refl, refl)
    go false = (refl, refl)

pub same_bytes : SameBytes
same_bytes v w s e = ap one e

-- of three outcomes by two tests
pick : (t l : Bool) (a b c a' b' c' : Out) → a.answer ≡ a'.answer → b.answer ≡ b'.answer → c.answer ≡ c'.answer
    → (cond t (cond l a b) c).answer ≡ (cond t (cond l a' b') c').answer
pick true true a b c a' b' c' x y z = x
pick true false a b c a' b' c' x y z = y
pick false l a b c a' b' c' x y z = z

page_bytes : SamePair (λ p s f. (on_page p s f).answer)
unfolding on_page
page_bytes p s f g e b =
    rw e (pick (eqb (status_byte (data_fault (last_page p) g)) 0x06 && eqb p.status 0x06) (last_page p) _ _ _ _ _ _ refl refl refl)

compare_bytes : SamePair (λ p s f. (on_compare p s f).answer)
unfolding on_compare
compare_bytes p s f g e b =
    rw (e, b) (pick (eqb (status_byte (data_fault (last_page p) g)) 0x06) (last_page p) _ _ _ _ _ _ refl refl refl)

pub same_page_bytes : SamePageBytes
same_page_bytes = (page_bytes, compare_bytes)
