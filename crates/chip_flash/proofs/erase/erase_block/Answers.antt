-- `chip_flash::erase::erase_block` meets its contract, by the flash. Assumes nothing.
use Rattle.rules.specs.declared.Flash.TheVariants.{Code, Data}
use Rattle.chip_flash.proofs.Writes.{erased_by}
use Rattle.chip_flash.proofs.erase.erase_block.Goals as goal

pub returns-in-Code : goal.returns-in-Code
returns-in-Code c = erased_by _ _ _ _ Code c.in-Code.is _ c.erase_in.ensures

pub returns-in-Data : goal.returns-in-Data
returns-in-Data c = erased_by _ _ _ _ Data c.in-Data.is _ c.erase_in-in-Data.ensures
