-- `text_serve::serve` meets its contract. Assumes nothing.
use mathlib.Core.Path.{◌≡◌}
use Prim.Native.Nat.{◌≤◌}
use lib.ListN.{length, drop}
use Rattle.chip_finder.specs.LentFlashes.{memory}
use Rattle.standin.specs.Shows.{shows}
use Rattle.text_serve.specs.Serving.{serve_from, served}
use Rattle.text_serve.proofs.serve.Given as goal

abbrev pub invariant-loop-i : goal.invariant-loop-i
invariant-loop-i l =
    (serve_from l.device.chip (shows l.device (memory l.code l.data)) l.reply l.i (drop l.i l.bytes) ≡ served l.initial.device.chip (shows l.initial.device (memory l.initial.code l.initial.data)) l.initial.reply l.bytes)
    × (l.device.chip ≡ l.initial.device.chip)
    × (l.i ≤ length l.bytes)
    × (length l.bytes ≤ 9223372036854775807)
    × (length l.code ≡ length l.initial.code)
    × (length l.data ≡ length l.initial.data)
    × (length l.reply ≡ length l.initial.reply)
