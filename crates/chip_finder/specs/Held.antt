-- The blocks that two addresses of three bytes lie in, the second not before the first: in data flash from its start on, before it in code flash.
-- Assumes nothing.
use Rattle.std.specs.Prelude.{cond, ltb}
use Rattle.rules.specs.declared.Flash.TheVariants.{Code, Data}
use Rattle.rules.specs.declared.Address.{Address}
use Rattle.rules.specs.Answers.{Range, Invalid}
use Rattle.rules.specs.Chip.{start}
use Rattle.chip_finder.specs.OneFlash.{held_in}

unfoldable pub blocks_held : Address → Address → Range
blocks_held sad ead =
    cond (ltb ead.0 sad.0)
    Invalid
    (cond (ltb 0xFFFFFF ead.0) Invalid (cond (ltb sad.0 (start Data)) (held_in Code sad ead) (held_in Data sad ead)))
