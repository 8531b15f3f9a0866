-- `standin_command::orders::obey` meets its contract: the command of the code that came. Assumes nothing.
use mathlib.Core.Path.{refl, ap, ◌∙◌}
use mathlib.Core.Bool.{cond, ◌&&◌}
use native.Mathlib.Omega.{arith}
use lib.Dec.{leb}
use Rattle.rules.specs.declared.Options.{Options}
use Rattle.rules.specs.declared.Order.TheVariants.{Reset, Verify, Program, BaudRate, Identity, SecuritySet, SecurityGet, Release, WindowSet, WindowGet, Checksum}
use Rattle.rules.specs.declared.Task.TheVariants.{Verifying, Programming}
use Rattle.rules.specs.Answers.{Is, Bad}
use Rattle.rules.specs.First.{first}
use Rattle.rules.specs.Chip.{erase_address, range}
use Rattle.rules.specs.Command.{code_of, sad_of, ead_of, paired, targeted, commands, read_as, over_blocks, at_block, order_checks, unless, judged_order, secured, done}
use Rattle.rules.specs.StandIn.{on_judged}
use Rattle.chip_finder.specs.LentFlashes.{memory}
use Rattle.standin_state.specs.View.{idle}
use Rattle.standin_verdict.proofs.Readings.{at_code, unlisted}
use Rattle.standin_command.specs.Ordered.{awaited, on_order}
use Rattle.standin_state.proofs.Handed.{same_out}
use Rattle.standin_command.proofs.Refusals.{range_begun}
use Rattle.standin_command.proofs.orders.obey.Goals as goal

pub returns-in-0 : goal.returns-in-0
unfolding on_judged judged_order unless order_checks first done commands read_as
returns-in-0 c =
    let a = c.args in
    let f = a.f.now in
    let m = memory a.code.now a.«data».now in
    let d = at_code a.chip f _ _ c.byte_at-command.ensures c.in-0.is (Is Reset) (refl) in
    same_out _ _ _ _ _ _ (ap (on_order a.chip a.c m f) d) (c.acknowledge.ensures m)

pub returns-in-19 : goal.returns-in-19
unfolding on_judged judged_order unless order_checks first done commands read_as
returns-in-19 c =
    let a = c.args in
    let f = a.f.now in
    let m = memory a.code.now a.«data».now in
    let pages = range a.chip (sad_of f) (ead_of f) in
    let d = at_code a.chip f _ _ c.byte_at-command.ensures c.in-19.is (over_blocks Verify pages) refl in
    let begins = range_begun a.chip a.c m f Verify Verifying (λ g x y. refl) pages _ _ (c.awaited.ensures ∙ ap awaited c.blocks_named.ensures) c.map.ensures.cases in
    same_out _ _ _ _ _ _ (begins ∙ ap (on_order a.chip a.c m f) d) (c.begin.ensures m)

pub returns-in-34 : goal.returns-in-34
unfolding commands read_as
returns-in-34 c =
    let a = c.args in
    let f = a.f.now in
    let m = memory a.code.now a.«data».now in
    let d = at_code a.chip f _ _ c.byte_at-command.ensures c.in-34.is (at_block (erase_address a.chip c.address_at.result)) (rw c.address_at.ensures) in
    same_out _ _ _ _ _ _ (ap (on_order a.chip a.c m f) d) (c.erase.ensures f)

pub returns-in-50 : goal.returns-in-50
unfolding commands read_as
returns-in-50 c =
    let a = c.args in
    let f = a.f.now in
    let m = memory a.code.now a.«data».now in
    let d = at_code a.chip f _ _ c.byte_at-command.ensures c.in-50.is (targeted a.chip f) refl in
    same_out _ _ _ _ _ _ (ap (on_order a.chip a.c m f) d) c.check_blank.ensures

pub returns-in-64 : goal.returns-in-64
unfolding on_judged judged_order unless order_checks first done commands read_as
returns-in-64 c =
    let a = c.args in
    let f = a.f.now in
    let m = memory a.code.now a.«data».now in
    let pages = range a.chip (sad_of f) (ead_of f) in
    let d = at_code a.chip f _ _ c.byte_at-command.ensures c.in-64.is (over_blocks Program pages) refl in
    let begins = range_begun a.chip a.c m f Program Programming (λ g x y. refl) pages _ _ (c.awaited-in-64.ensures ∙ ap awaited c.blocks_named-in-64.ensures) c.map-in-64.ensures.cases in
    same_out _ _ _ _ _ _ (begins ∙ ap (on_order a.chip a.c m f) d) (c.begin-in-64.ensures m)

pub returns-in-154 : goal.returns-in-154
unfolding commands read_as
returns-in-154 c =
    let a = c.args in
    let f = a.f.now in
    let m = memory a.code.now a.«data».now in
    let d = at_code a.chip f _ _ c.byte_at-command.ensures c.in-154.is (cond (leb c.byte_at.result 3 && leb 0x10 c.byte_at-in-154.result && leb c.byte_at-in-154.result 0x37) (Is BaudRate) Bad) (rw (c.byte_at.ensures, c.byte_at-in-154.ensures)) in
    same_out _ _ _ _ _ _ (ap (on_order a.chip a.c m f) d) (c.set_speed.ensures a.chip m f)

pub returns-in-156 : goal.returns-in-156
unfolding commands read_as
returns-in-156 c =
    let a = c.args in
    let f = a.f.now in
    let m = memory a.code.now a.«data».now in
    let d = at_code a.chip f _ _ c.byte_at-command.ensures c.in-156.is (Is Identity) (refl) in
    same_out _ _ _ _ _ _ (ap (on_order a.chip a.c m f) d) (c.identify.ensures a.chip a.«data».now)

pub returns-in-160 : goal.returns-in-160
unfolding on_judged judged_order unless order_checks first done commands read_as secured
returns-in-160 c =
    let a = c.args in
    let f = a.f.now in
    let m = memory a.code.now a.«data».now in
    let d = at_code a.chip f _ _ c.byte_at-command.ensures c.in-160.is (Is (SecuritySet c.byte_at-in-160.result c.byte_at-in-160-2.result)) (rw (c.byte_at-in-160.ensures, c.byte_at-in-160-2.ensures)) in
    same_out _ _ _ _ _ _ (ap (λ (o : Options). secured o (idle a.c m)) c.security_set.ensures ∙ ap (on_order a.chip a.c m f) d) (c.secure.ensures m a.c.options)

pub returns-in-161 : goal.returns-in-161
unfolding on_judged judged_order unless order_checks first done commands read_as
returns-in-161 c =
    let a = c.args in
    let f = a.f.now in
    let m = memory a.code.now a.«data».now in
    let d = at_code a.chip f _ _ c.byte_at-command.ensures c.in-161.is (Is SecurityGet) (refl) in
    same_out _ _ _ _ _ _ (ap (on_order a.chip a.c m f) d) (c.tell_flags.ensures m)

pub returns-in-162 : goal.returns-in-162
unfolding commands read_as
returns-in-162 c =
    let a = c.args in
    let f = a.f.now in
    let m = memory a.code.now a.«data».now in
    let d = at_code a.chip f _ _ c.byte_at-command.ensures c.in-162.is (Is Release) (refl) in
    same_out _ _ _ _ _ _ (ap (on_order a.chip a.c m f) d) (c.release.ensures a.chip f)

pub returns-in-172 : goal.returns-in-172
unfolding commands read_as
returns-in-172 c =
    let a = c.args in
    let f = a.f.now in
    let m = memory a.code.now a.«data».now in
    let d = at_code a.chip f _ _ c.byte_at-command.ensures c.in-172.is (Is (WindowSet c.word_at.result c.word_at-in-172.result)) (rw (c.word_at.ensures, c.word_at-in-172.ensures)) in
    same_out _ _ _ _ _ _ (ap (on_order a.chip a.c m f) d) (c.set_window.ensures a.chip m f)

pub returns-in-173 : goal.returns-in-173
unfolding on_judged judged_order unless order_checks first done commands read_as
returns-in-173 c =
    let a = c.args in
    let f = a.f.now in
    let m = memory a.code.now a.«data».now in
    let d = at_code a.chip f _ _ c.byte_at-command.ensures c.in-173.is (Is WindowGet) (refl) in
    same_out _ _ _ _ _ _ (ap (on_order a.chip a.c m f) d) (c.tell_window.ensures m)

pub returns-in-176 : goal.returns-in-176
unfolding commands read_as
returns-in-176 c =
    let a = c.args in
    let f = a.f.now in
    let m = memory a.code.now a.«data».now in
    let d = at_code a.chip f _ _ c.byte_at-command.ensures c.in-176.is (paired Checksum a.chip f) refl in
    same_out _ _ _ _ _ _ (ap (on_order a.chip a.c m f) d) c.tell_sum.ensures

pub returns-in_default : goal.returns-in_default
unfolding on_judged judged_order commands
returns-in_default c =
    let a = c.args in
    let f = a.f.now in
    let m = memory a.code.now a.«data».now in
    let is = c.byte_at-command.ensures in
    let other = unlisted commands (code_of f) ((λ e. omega arith), ((λ e. omega arith), ((λ e. omega arith), ((λ e. omega arith), ((λ e. omega arith), ((λ e. omega arith), ((λ e. omega arith), ((λ e. omega arith), ((λ e. omega arith), ((λ e. omega arith), ((λ e. omega arith), ((λ e. omega arith), ((λ e. omega arith), tt))))))))))))) a.chip f in
    same_out _ _ _ _ _ _ (ap (on_order a.chip a.c m f) other) (c.refuse_information.ensures m)
