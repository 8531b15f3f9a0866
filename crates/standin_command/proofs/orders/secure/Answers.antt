-- `standin_command::orders::secure` meets its contract: IFPR decides. Assumes nothing.
use mathlib.Core.Path.{sym, ◌∙◌}
use mathlib.Core.List.{[]}
use native.Mathlib.Omega.{arith}
use borrow.Author.Tests.{eq-eqb, ne_eqb}
use Rattle.rules.specs.Options.{IFPR}
use Rattle.rules.specs.Command.{secured}
use Rattle.standin_command.proofs.Answers.{comes, no_answer}
use Rattle.standin_command.proofs.orders.secure.Goals as goal

pub returns-then-ifpr-eq0 : goal.returns-then-ifpr-eq0
unfolding secured
returns-then-ifpr-eq0 c =
    let zero = sym c.ifpr.ensures ∙ c.if-ifpr-eq0.true in
    λ m old. rw (eq-eqb (IFPR c.args.o) 0 zero) (comes _ _ _ _ _ _ m [] _ _ c.resting.ensures (sym (no_answer _)) (omega arith) c.told-reply)

pub returns : goal.returns
unfolding secured
returns c =
    λ m old. rw (ne_eqb (IFPR c.args.o) 0 (λ z. c.if-ifpr-eq0.false (c.ifpr.ensures ∙ z))) (c.acknowledge.ensures m)
