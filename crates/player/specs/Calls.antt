-- What a player call came to. Assumes nothing.
use Rattle.std.specs.Prelude.{ℕ, List, cond, eqb}
use Rattle.rules.specs.Answers.{Next, Frame, End}
use Rattle.rules.specs.Player as rules
use Rattle.player.specs.declared.call.Called.{Called}

-- the parts of a call as one record of the definitions
abbrev pub called_as : Called → List ℕ → List ℕ → rules.Called
called_as c buffer sums =
    record { player = c.player; call = c.next; report = c.report; frame = buffer; sums = sums }

-- the answer of a call by how many bytes were given
abbrev pub given_as : ℕ → Next
given_as n = cond (eqb n 0) End (Frame n)
