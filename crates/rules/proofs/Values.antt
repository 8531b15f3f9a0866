-- Single values and laws by which a wrong definition is refused in this crate itself; the tables of trials stand above it (trials_rows,
-- trials_frames, trials_texts). Assumes nothing.
use mathlib.Core.Path.{◌≡◌, refl, sym}
use mathlib.Core.Bool.{Bool, true, false, cond}
use mathlib.Core.List.{[], ◌++◌}
use lib.Dec.{eqb}
use lib.ListN.{replicate}
use Rattle.rules.specs.declared.Chip.{Chip}
use Rattle.rules.specs.declared.Flash.TheVariants.{Code, Data}
use Rattle.rules.specs.declared.Kind.TheVariants.{Lock}
use Rattle.rules.specs.Notes.{Empty}
use Rattle.rules.specs.declared.Options.{Options}
use Rattle.rules.specs.declared.Order.TheVariants.{SecuritySet}
use Rattle.rules.specs.declared.Pages.{Pages}
use Rattle.rules.specs.declared.Phase.TheVariants.{Command, Silent}
use Rattle.rules.specs.declared.Step.{Step}
use Rattle.rules.specs.declared.Task.TheVariants.{Idle, Programming}
use Rattle.rules.specs.Chip.{large, pages, block, same}
use Rattle.rules.specs.Options.{fresh_options, security_set, IFPR}
use Rattle.rules.specs.Frame.{data_start, more_end, frame}
use Rattle.rules.specs.State.{State, out, rest}
use Rattle.rules.specs.Command.{used_from, ack_options, secured, done}
use Rattle.rules.specs.StandIn.{on_page}
use Rattle.rules.specs.Meaning.{options_by}
use Rattle.rules.specs.Compute.{everything}

-- 02, M-105: the larger receiver has 131,072 bytes of code flash and 8,192 of data flash
pub large_code : pages large Code ≡ 512
large_code = refl

pub large_data : pages large Data ≡ 32
large_data = refl

-- M-100: of a part that is blank there is no byte to tell, also where nobody asks a command
pub blank_part : used_from Code (block 3) (replicate 5 0xFF) ≡ Empty
unfolding everything
blank_part = refl

-- Programming: the first of two pages is written, and nothing behind it
abbrev two_ahead : Pages
two_ahead = record { flash = Data; page = 0; left = 2; status = 0x06 }

abbrev begun : State
begun = rest Command (Programming two_ahead) fresh_options (record { code = []; «data» = replicate 512 0xFF })

pub first_page_alone :
    same
    (on_page two_ahead begun (frame data_start more_end (replicate 256 0xA5))).state.memory.«data»
    (replicate 256 0xA5 ++ replicate 256 0xFF)
    ≡ true
unfolding everything
first_page_alone = refl

-- M-106: a lock leaves the options that a Security Set with its flags leaves
left_by_lem : (b : Bool) (o : Options) (s : State) → (cond b (out (rest Silent Idle o s.memory) []) (ack_options o s)).state.options ≡ o
left_by_lem true o s = refl
left_by_lem false o s = refl

pub lock_leaves : (chip : Chip) (s : State) (t : Step)
    → options_by Lock t s.options ≡ (done chip s (SecuritySet t.flags.sf1 t.flags.sf2)).state.options
unfolding options_by secured done
lock_leaves chip s t =
    let o = security_set t.flags.sf1 t.flags.sf2 s.options in sym (left_by_lem (eqb (IFPR o) 0) o s)
