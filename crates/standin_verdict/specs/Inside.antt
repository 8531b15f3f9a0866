-- Orders that name blocks that are there. Assumes nothing.
use Rattle.std.specs.Prelude.{◌<◌, ◌≤◌}
use Rattle.rules.specs.declared.Chip.{Chip}
use Rattle.rules.specs.declared.Flash.{Flash}
use Rattle.rules.specs.declared.Block.{Block}
use Rattle.rules.specs.declared.Order.{Order}
use Rattle.rules.specs.declared.Order.TheVariants.{Reset, Verify, Erase, BlankCheck, Program, BaudRate, Identity, SecuritySet, SecurityGet, Release, WindowSet, WindowGet, Checksum}
use Rattle.rules.specs.Chip.{blocks}

abbrev pub InRange : Chip → Flash → Block → Block → Type 0
InRange chip f a b = (a.0 ≤ b.0) × (b.0 < blocks chip f)

abbrev pub Inside : Chip → Order → Type 0
Inside chip Reset = Unit {0}
Inside chip (Verify f a b) = InRange chip f a b
Inside chip (Erase f b) = b.0 < blocks chip f
Inside chip (BlankCheck f a b tar) = InRange chip f a b
Inside chip (Program f a b) = InRange chip f a b
Inside chip BaudRate = Unit {0}
Inside chip Identity = Unit {0}
Inside chip (SecuritySet sf1 sf2) = Unit {0}
Inside chip SecurityGet = Unit {0}
Inside chip Release = Unit {0}
Inside chip (WindowSet sws swe) = Unit {0}
Inside chip WindowGet = Unit {0}
Inside chip (Checksum f a b) = InRange chip f a b
