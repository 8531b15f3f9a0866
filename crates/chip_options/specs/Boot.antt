-- Boot cluster 0 in pages. Assumes nothing.
use Rattle.std.specs.Prelude.{ℕ}
use Rattle.rules.specs.declared.Flash.{Flash}
use Rattle.rules.specs.declared.Flash.TheVariants.{Code, Data}

-- eight blocks of eight pages of code flash, and no data page
abbrev pub boot_pages : Flash → ℕ
boot_pages Code = 64
boot_pages Data = 0
