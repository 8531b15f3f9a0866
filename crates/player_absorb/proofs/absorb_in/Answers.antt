-- `player_absorb::absorb_in`: the step in hand is in the sheet, and has the block or page. Assumes nothing.
use native.Mathlib.Omega.{arith}
use Rattle.sheet.proofs.Fields.{few_steps}
use Rattle.player_laws.proofs.PlaceInSheet.{commanded_stands, paged_stands}
use Rattle.player_absorb.proofs.absorb_in.Goals as goal

pub invariant_of-absorb_command : goal.invariant_of-absorb_command
invariant_of-absorb_command c =
    let a = c.args in
    let e = commanded_stands a.chip a.sheet.now a.p a.t c.requires.0 c.requires.1 c.in-Commanded.is in
    let few = few_steps a.sheet.now (λ i. (c.type_inv.sheet i).fits) in
    record { few_steps = omega (arith, e.0, few) }

pub absorb_command-requires : goal.absorb_command-requires
absorb_command-requires c =
    let a = c.args in
    (commanded_stands a.chip a.sheet.now a.p a.t c.requires.0 c.requires.1 c.in-Commanded.is).2

pub invariant_of-sent_page : goal.invariant_of-sent_page
invariant_of-sent_page c =
    let a = c.args in
    let e = paged_stands a.chip a.sheet.now a.p a.t c.requires.0 c.requires.1 c.in-Paged.is in
    let few = few_steps a.sheet.now (λ i. (c.type_inv.sheet i).fits) in
    record { few_steps = omega (arith, e.0, few) }

pub sent_page-requires : goal.sent_page-requires
sent_page-requires c =
    let a = c.args in
    (paged_stands a.chip a.sheet.now a.p a.t c.requires.0 c.requires.1 c.in-Paged.is).3
