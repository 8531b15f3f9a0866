-- `chip_flash::pages::program_page` meets its contract, by the flash. Assumes nothing.
use Rattle.rules.specs.declared.Flash.TheVariants.{Code, Data}
use Rattle.chip_flash.proofs.Writes.{programmed_by}
use Rattle.chip_flash.proofs.pages.program_page.Goals as goal

pub returns-in-Code : goal.returns-in-Code
returns-in-Code c = programmed_by _ _ _ _ _ Code c.in-Code.is _ c.program_in.ensures

pub returns-in-Data : goal.returns-in-Data
returns-in-Data c = programmed_by _ _ _ _ _ Data c.in-Data.is _ c.program_in-in-Data.ensures
