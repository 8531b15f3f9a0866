-- What each frame that the sheet player sends does to a stand-in: one law for each outcome. Assumes nothing.
use mathlib.Core.Path.{◌≡◌, refl, sym, ap, ◌∙◌}
use mathlib.Core.Bool.{Bool, true, false, not, false≢true}
use mathlib.Core.List.{List, [], ◌∷◌, ◌++◌}
use Prim.Native.Nat.{ℕ, suc, ◌+◌, ◌*◌, ◌/◌, ◌%◌, ◌<◌, ◌≤◌}
use native.Mathlib.Omega.{arith}
use lib.Dec.{eqb}
use lib.ListN.{length}
use borrow.Author.Tests.{eqb-true, eq-eqb, ne_eqb}
use Rattle.rules.specs.declared.Chip.{Chip}
use Rattle.rules.specs.declared.Flash.{Flash}
use Rattle.rules.specs.declared.Flash.TheVariants.{Code, Data}
use Rattle.rules.specs.declared.Address.{Address}
use Rattle.rules.specs.declared.Block.{Block}
use Rattle.rules.specs.Answers.{In, Blocks, Row, Is, Judged, Ordered}
use Rattle.rules.specs.declared.Step.{Step}
use Rattle.rules.specs.declared.Options.{Options}
use Rattle.rules.specs.declared.Phase.{Phase}
use Rattle.rules.specs.declared.Phase.TheVariants.{Mode, Speed, Ident, Command, Silent}
use Rattle.rules.specs.declared.Pages.{Pages}
use Rattle.rules.specs.declared.Task.{Task}
use Rattle.rules.specs.declared.Task.TheVariants.{Idle, Programming, Verifying}
use Rattle.rules.specs.Faults.{Fault, Well, NotBlank, Protected}
use Rattle.rules.specs.Chip.{Memory, address_bytes, blocks, first_byte, last_byte, word_bytes, blank, erase_block, bytes_from, checksum, page_of, erase_address, range}
use Rattle.rules.specs.Options.{IFPR, erase_protected, security_set}
use Rattle.rules.specs.First.{first_fault, first}
use Rattle.rules.specs.Frame.{command_start, data_start, last_end, end_due, whole, data_fault, status_byte, len_byte, sum_byte, frame, one, pair, len_of, body_of, end_of, sum_holds}
use Rattle.rules.specs.Command.{phase_number, rows, lookup, allowed, len_due, code_of, sad_of, ead_of, frame_checks, commands, read_as, decoded, over_blocks, at_block, order_checks, unless, judged_order, judged, used_in, secured, done}
use Rattle.rules.specs.StandIn.{State, Fed, out, rest, start_of, task_now, on_frame, on_task, on_command, refused, ahead, last_page, later, page_guarded, page_fault, page_written, on_page, compared, on_compare, on_judged}
use Rattle.rules.specs.declared.Order.{Order}
use Rattle.rules.specs.declared.Order.TheVariants.{Verify, Erase, BlankCheck, Program, SecuritySet, Checksum}
use Rattle.rules.specs.Player.{command, pair_bytes, pair_command, blank_command, lock_command}
use Rattle.rules.specs.Run.{all_bytes, waits_in, waits, settled}
use Rattle.chip_finder.proofs.ThereAndBack.{erase_there, range_there}
use Rattle.frame_build.proofs.Built.{len_framed, body_framed, end_framed, sum_framed, whole_framed}
use Rattle.rules.proofs.Choices.{both}
use Rattle.rules.proofs.First.{applies, passed, none_applies}
use Rattle.frame_judge.proofs.Checks.{framed}
use Rattle.standin_verdict.proofs.Verdicts.{stopped, went_on}
use Rattle.standin.proofs.Whole.{feed_frame, all_told}
use Rattle.joined_laws.specs.Hears.{hears, quiet, pages_for}
use Rattle.joined_laws.specs.Turns.{Sized}

-- ---- a stand-in that waits for a command ----

waiting : (ph : Phase) (t : Task) (g : List ℕ) → waits_in ph t g ≡ true → (ph ≡ Command) × (t ≡ Idle) × (g ≡ [])
unfolding waits_in
waiting Mode t g e = absurd (false≢true e)
waiting Speed t g e = absurd (false≢true e)
waiting Ident t g e = absurd (false≢true e)
waiting Command Idle [] e = (refl, refl, refl)
waiting Command Idle (b ∷ g) e = absurd (false≢true e)
waiting Command (Programming p) g e = absurd (false≢true e)
waiting Command (Verifying p) g e = absurd (false≢true e)
waiting Silent t g e = absurd (false≢true e)

module _ (chip : Chip) (s : State) (w : waits chip s ≡ true) where
  both_parts : (waits_in s.phase (task_now chip s.phase s.task) s.got ≡ true) × (eqb (IFPR s.options) 1 ≡ true)
  unfolding waits
  both_parts = both (waits_in s.phase (task_now chip s.phase s.task) s.got) (eqb (IFPR s.options) 1) w

  all_three : (s.phase ≡ Command) × (task_now chip s.phase s.task ≡ Idle) × (s.got ≡ [])
  all_three = waiting s.phase (task_now chip s.phase s.task) s.got both_parts.0

  pub waiting_phase : s.phase ≡ Command
  waiting_phase = all_three.0

  pub waiting_task : task_now chip s.phase s.task ≡ Idle
  waiting_task = all_three.1

  pub waiting_got : s.got ≡ []
  waiting_got = all_three.2

  pub waiting_open : IFPR s.options ≡ 1
  waiting_open = eqb-true (IFPR s.options) 1 both_parts.1

module _ (chip : Chip) (o : Options) (m : Memory) where
  pub rest_waits : IFPR o ≡ 1 → waits chip (rest Command Idle o m) ≡ true
  unfolding waits waits_in task_now
  rest_waits i = eq-eqb (IFPR o) 1 i

  -- and so it is settled; with IFPR 0 it is so where it is Silent
  pub rest_settled : IFPR o ≡ 1 → settled chip (rest Command Idle o m) ≡ true
  unfolding settled
  rest_settled i = rw (eq-eqb (IFPR o) 1 i) (rest_waits i)

  pub silent_settled : IFPR o ≡ 0 → settled chip (rest Silent Idle o m) ≡ true
  unfolding settled
  silent_settled z = rw (ne_eqb (IFPR o) 1 (λ i. omega (arith, z, i)))

-- a settled stand-in with IFPR 1 waits
pub settled_waits : (chip : Chip) (s : State) → settled chip s ≡ true → IFPR s.options ≡ 1 → waits chip s ≡ true
unfolding settled
settled_waits chip s e i = rw (eq-eqb (IFPR s.options) 1 i) at e

-- and one that waits is settled
pub waits_settled : (chip : Chip) (s : State) → waits chip s ≡ true → settled chip s ≡ true
unfolding settled
waits_settled chip s w = rw (eq-eqb (IFPR s.options) 1 (waiting_open chip s w)) w

-- ---- a frame of the kind awaited, fed byte by byte ----

-- a stand-in in a phase that takes frames, with nothing received
pub record Fresh (s : State) (ph : Phase) : Type 0 where
  pub phase : s.phase ≡ ph
  pub listens : phase_number ph ≡ 4 → ⊥
  pub moded : phase_number ph ≡ 0 → ⊥
  pub got : s.got ≡ []

pub fresh_command : (s : State) → s.phase ≡ Command → s.got ≡ [] → Fresh s Command
fresh_command s p g = record { phase = p; listens = λ e. omega arith; moded = λ e. omega arith; got = g }

module _ (chip : Chip) (s : State) (ph : Phase) (fresh : Fresh s ph) where
  pub hears_whole : (len : ℕ) (more : List ℕ) → let f = start_of (task_now chip s.phase s.task) ∷ len ∷ more in
      whole f ≡ true → hears chip s f ≡ quiet (on_frame chip (rest s.phase s.task s.options s.memory) f)
  hears_whole len more all =
      let phase = fresh.phase in
      let f = start_of (task_now chip s.phase s.task) ∷ len ∷ more in
      let done = on_frame chip (rest s.phase s.task s.options s.memory) f in
      ap (λ (x : Fed). out x.state (all_bytes x.answers)) (feed_frame chip s (rw phase fresh.listens) (rw phase fresh.moded) fresh.got len more all)
      ∙ ap (out done.state) (all_told (suc (length more)) done.answer)

  pub hears_in : (task : Task) → task_now chip s.phase s.task ≡ task → (end : ℕ) (body : List ℕ) → 1 ≤ length body → length body ≤ 256
      → hears chip s (frame (start_of task) end body) ≡ quiet (on_task task chip (rest ph s.task s.options s.memory) (frame (start_of task) end body))
  unfolding frame on_frame
  hears_in task t end body some most =
      let arrived = rw t at (hears_whole (len_byte body) (body ++ (sum_byte body ∷ end ∷ []))) in
      arrived (whole_framed (start_of task) end body some most) ∙ rw fresh.phase

-- ---- command frames ----

-- a command frame whose code the phase allows and whose LEN is the code's is well in itself
module _ (code : ℕ) (info : List ℕ) where
  code_framed : code_of (command (code ∷ info)) ≡ code
  unfolding frame
  code_framed = refl

  module _ (ph : Phase) (few : length info ≤ 254) (known : lookup rows code ≡ Row (length info + 1) (phase_number ph)) where
    command_well : first_fault (frame_checks ph (command (code ∷ info))) ≡ Well
    unfolding frame_checks
    command_well =
        let f = command (code ∷ info) in
        let some : 1 ≤ length (code ∷ info) = omega arith in
        let most : length (code ∷ info) ≤ 256 = omega arith in
        let row : lookup rows (code_of f) ≡ Row (length info + 1) (phase_number ph) = ap (lookup rows) code_framed ∙ known in
        let long : len_of f ≡ length info + 1 = len_framed command_start last_end (code ∷ info) ∙ omega arith in
        let end : not (eqb (end_of f) last_end) ≡ false = ap not (eq-eqb (end_of f) last_end (end_framed command_start last_end (code ∷ info) some most)) in
        let sum : not (sum_holds f) ≡ false = ap not (sum_framed command_start last_end (code ∷ info) some most) in
        let may : not (allowed ph (lookup rows (code_of f))) ≡ false = ap (λ k. not (allowed ph k)) row ∙ ap not (eq-eqb (phase_number ph) (phase_number ph) refl) in
        let due : not (eqb (len_of f) (len_due (lookup rows (code_of f)))) ≡ false = rw row (ap not (eq-eqb (len_of f) (length info + 1) long)) in
        framed last_end f _ end sum ∙ passed _ _ _ _ may ∙ passed _ _ _ _ due ∙ none_applies _

-- a stand-in that awaits a command and hears one: the bytes are those of the frame, the frame is judged, and what is well is done
module _ (chip : Chip) (s : State) (ph : Phase) (fresh : Fresh s ph) (idle : task_now chip s.phase s.task ≡ Idle)
    (code : ℕ) (info : List ℕ) (few : length info ≤ 254) (known : lookup rows code ≡ Row (length info + 1) (phase_number ph)) where
  abbrev begun : State
  begun = rest ph s.task s.options s.memory

  abbrev sent : List ℕ
  sent = command (code ∷ info)

  hears_command : hears chip s sent ≡ quiet (on_command chip begun sent)
  unfolding on_task
  hears_command = hears_in chip s ph fresh Idle idle last_end (code ∷ info) (omega arith) (omega arith)

  -- its information is an order, which is judged by its own rows
  module _ (order : Order) (is : read_as commands code chip sent ≡ Is order) where
    hears_judged : hears chip s sent ≡ quiet (on_judged (unless (first_fault (order_checks s.options s.memory sent order)) (Ordered order)) chip begun)
    unfolding on_command judged judged_order
    hears_judged =
        let o = s.options in
        let m = s.memory in
        let read = ap (λ (k : ℕ). read_as commands k chip sent) (code_framed code info) ∙ is in
        let well = went_on Well (first_fault (frame_checks ph sent)) (sym (command_well code info ph few known)) (judged_order o m sent (decoded chip sent)) refl in
        hears_command ∙ ap (λ (j : Judged). quiet (on_judged j chip begun)) (sym well ∙ ap (judged_order o m sent) read)

    pub hears_well : first_fault (order_checks s.options s.memory sent order) ≡ Well → hears chip s sent ≡ quiet (done chip begun order)
    unfolding on_judged
    hears_well e = hears_judged ∙ ap (λ (j : Judged). quiet (on_judged j chip begun)) (sym (went_on Well _ (sym e) (Ordered order) refl))

    pub hears_refused : (v : Fault) → (status_byte v ≡ 0x06 → ⊥) → first_fault (order_checks s.options s.memory sent order) ≡ v → hears chip s sent ≡ quiet (refused v begun)
    unfolding on_judged
    hears_refused v n e =
        hears_judged ∙ ap (λ (j : Judged). quiet (on_judged j chip begun)) (sym (stopped v _ (sym e) (Ordered order) n))

-- three bytes hold an address of less than 2^24
pub address_back : (a : Address) → a.0 < 16777216
    → record { 0 = a.0 % 256 + 256 * (a.0 / 256 % 256) + 65536 * (a.0 / 65536 % 256) } ≡ a
address_back a h =
    let e : a.0 % 256 + 256 * (a.0 / 256 % 256) + 65536 * (a.0 / 65536 % 256) ≡ a.0 = omega arith in
    ap (λ (n : ℕ). record { 0 = n }) e

module _ (chip : Chip) (sized : Sized chip) (b : Block) where
  pub first_held : (f : Flash) → b.0 < blocks chip f → (first_byte f b).0 < 16777216
  first_held Code h = omega (arith, sized.few Code)
  first_held Data h = omega (arith, sized.few Data)

  pub last_held : (f : Flash) → b.0 < blocks chip f → (last_byte f b).0 < 16777216
  last_held Code h = omega (arith, sized.few Code)
  last_held Data h = omega (arith, sized.few Data)

module _ (chip : Chip) (sized : Sized chip) (s : State) (w : waits chip s ≡ true) where
  fresh_waiting : Fresh s Command
  fresh_waiting = fresh_command s (waiting_phase chip s w) (waiting_got chip s w)

  -- Block Erase
  module _ (f : Flash) (b : Block) (h : b.0 < blocks chip f) where
    erase_found : erase_address chip (sad_of (command (0x22 ∷ address_bytes (first_byte f b)))) ≡ In f b
    unfolding frame
    erase_found =
        ap (erase_address chip) (address_back (first_byte f b) (first_held chip sized b f h)) ∙ erase_there chip sized.apart f b h

    erase_read : read_as commands 0x22 chip (command (0x22 ∷ address_bytes (first_byte f b))) ≡ Is (Erase f b)
    unfolding commands read_as
    erase_read = ap at_block erase_found

    pub hears_erase_free : erase_protected s.options f b ≡ false
        → hears chip s (command (0x22 ∷ address_bytes (first_byte f b))) ≡ out (rest Command Idle s.options (erase_block s.memory f b)) (one 0x06)
    unfolding commands rows lookup order_checks done
    hears_erase_free free =
        hears_well chip s Command fresh_waiting (waiting_task chip s w) 0x22 (address_bytes (first_byte f b)) (omega arith) refl (Erase f b) erase_read (passed _ _ _ _ free ∙ none_applies _)

    pub hears_erase_guarded : erase_protected s.options f b ≡ true
        → hears chip s (command (0x22 ∷ address_bytes (first_byte f b))) ≡ out (rest Command Idle s.options s.memory) (one 0x10)
    unfolding commands rows lookup order_checks
    hears_erase_guarded guarded =
        hears_refused chip s Command fresh_waiting (waiting_task chip s w) 0x22 (address_bytes (first_byte f b)) (omega arith) refl (Erase f b) erase_read Protected (λ z. omega arith) (applies _ _ _ _ guarded)

  -- the commands on a range of blocks that are there
  module _ (t : Step) (order : t.first.0 ≤ t.last.0) (there : t.last.0 < blocks chip t.flash) where
    pair_found : (code : ℕ) → range chip (sad_of (pair_command code t)) (ead_of (pair_command code t)) ≡ Blocks t.flash t.first t.last
    unfolding frame
    pair_found code =
        let low = address_back (first_byte t.flash t.first) (first_held chip sized t.first t.flash (omega arith)) in
        let high = address_back (last_byte t.flash t.last) (last_held chip sized t.last t.flash there) in
        rw (low, high) (range_there chip sized.apart t.flash t.first t.last order there)

    hears_pair : (code : ℕ) (make : Flash → Block → Block → Order) → lookup rows code ≡ Row 7 3
        → read_as commands code chip (pair_command code t) ≡ over_blocks make (range chip (sad_of (pair_command code t)) (ead_of (pair_command code t)))
        → order_checks s.options s.memory (pair_command code t) (make t.flash t.first t.last) ≡ []
        → hears chip s (pair_command code t) ≡ quiet (done chip (rest Command s.task s.options s.memory) (make t.flash t.first t.last))
    hears_pair code make known reads free =
        hears_well chip s Command fresh_waiting (waiting_task chip s w) code (address_bytes (first_byte t.flash t.first) ++ address_bytes (last_byte t.flash t.last)) (omega arith) known (make t.flash t.first t.last) (reads ∙ ap (over_blocks make) (pair_found code)) (ap first_fault free ∙ none_applies _)

    pub hears_program : hears chip s (pair_command 0x40 t) ≡ out (rest Command (Programming (pages_for t)) s.options s.memory) (one 0x06)
    unfolding commands rows lookup read_as order_checks done
    hears_program = hears_pair 0x40 Program refl refl refl

    pub hears_verify : hears chip s (pair_command 0x13 t) ≡ out (rest Command (Verifying (pages_for t)) s.options s.memory) (one 0x06)
    unfolding commands rows lookup read_as order_checks done
    hears_verify = hears_pair 0x13 Verify refl refl refl

    pub hears_sum : hears chip s (pair_command 0xB0 t)
        ≡ out (rest Command Idle s.options s.memory) (one 0x06 ++ frame data_start last_end (word_bytes (checksum (bytes_from s.memory t.flash t.first t.last))))
    unfolding commands rows lookup read_as order_checks done
    hears_sum = hears_pair 0xB0 Checksum refl refl refl

    -- Blank Check of flash alone: its pair, and TAR 00h
    blank_read : read_as commands 0x32 chip (blank_command t) ≡ Is (BlankCheck t.flash t.first t.last 0)
    unfolding commands read_as frame
    blank_read = ap (over_blocks (λ g a b. BlankCheck g a b 0)) (pair_found 0x32)

    abbrev inside : List ℕ
    inside = bytes_from s.memory t.flash t.first t.last

    pub hears_blank : blank inside ≡ true → hears chip s (blank_command t) ≡ out (rest Command Idle s.options s.memory) (one 0x06)
    unfolding commands rows lookup order_checks done
    hears_blank e =
        hears_well chip s Command fresh_waiting (waiting_task chip s w) 0x32 (pair_bytes t ++ (0x00 ∷ [])) (omega arith) refl (BlankCheck t.flash t.first t.last 0) blank_read
        (passed _ _ _ _ (ap not e) ∙ passed _ _ _ _ refl ∙ none_applies _)

    pub hears_used : blank inside ≡ false → hears chip s (blank_command t) ≡ out (rest Command Idle s.options s.memory) (one 0x1B)
    unfolding commands rows lookup order_checks
    hears_used e =
        hears_refused chip s Command fresh_waiting (waiting_task chip s w) 0x32 (pair_bytes t ++ (0x00 ∷ [])) (omega arith) refl (BlankCheck t.flash t.first t.last 0) blank_read
        (NotBlank (used_in s.memory t.flash t.first t.last)) (λ z. omega arith) (applies _ _ _ _ (ap not e))

  -- Security Set
  module _ (t : Step) where
    abbrev set : Options
    set = security_set t.flags.sf1 t.flags.sf2 s.options

    lock_heard : hears chip s (lock_command t) ≡ quiet (secured set (rest Command s.task s.options s.memory))
    unfolding commands rows lookup read_as frame order_checks done
    lock_heard =
        hears_well chip s Command fresh_waiting (waiting_task chip s w) 0xA0 (t.flags.sf1 ∷ t.flags.sf2 ∷ 0x00 ∷ []) (omega arith) refl (SecuritySet t.flags.sf1 t.flags.sf2) refl (none_applies _)

    -- answered, or, where IFPR is then 0, not
    pub hears_lock : IFPR set ≡ 1 → hears chip s (lock_command t) ≡ out (rest Command Idle set s.memory) (one 0x06)
    unfolding secured
    hears_lock i = lock_heard ∙ rw (ne_eqb (IFPR set) 0 (λ z. omega (arith, z, i)))

    pub hears_shut : IFPR set ≡ 0 → hears chip s (lock_command t) ≡ out (rest Silent Idle set s.memory) []
    unfolding secured
    hears_shut z = lock_heard ∙ rw (eq-eqb (IFPR set) 0 z)

-- ---- data frames ----

-- a data frame of a page, with the end byte due, is judged well
data_well : (last : Bool) (body : List ℕ) → length body ≡ 256 → data_fault last (frame data_start (end_due last) body) ≡ Well
unfolding data_fault
data_well last body sized =
    let f = frame data_start (end_due last) body in
    let some : 1 ≤ length body = omega arith in
    let most : length body ≤ 256 = omega arith in
    let long : len_of f ≡ 0 = len_framed data_start (end_due last) body ∙ omega arith in
    let end : not (eqb (end_of f) (end_due last)) ≡ false = ap not (eq-eqb (end_of f) (end_due last) (end_framed data_start (end_due last) body some most)) in
    let sum : not (sum_holds f) ≡ false = ap not (sum_framed data_start (end_due last) body some most) in
    framed (end_due last) f _ end sum ∙ passed _ _ _ _ (ap not (eq-eqb (len_of f) 0 long)) ∙ none_applies _

module _ (chip : Chip) (s : State) (p : Pages) (body : List ℕ) (sized : length body ≡ 256) (phase : s.phase ≡ Command) (fresh : s.got ≡ []) (there : ahead chip p ≡ true) where
  abbrev page : List ℕ
  page = frame data_start (end_due (last_page p)) body

  abbrev now : State
  now = rest Command s.task s.options s.memory

  carried : body_of page ≡ body
  carried = body_framed data_start (end_due (last_page p)) body (omega arith) (omega arith)

  module _ (task : s.task ≡ Programming p) where
    hears_written : hears chip s page ≡ quiet (on_page p now page)
    unfolding on_task task_now
    hears_written =
        hears_in chip s Command (fresh_command s phase fresh) (Programming p) (rw (phase, task, there)) (end_due (last_page p)) body (omega arith) (omega arith)

    pub hears_told : (p.status ≡ 0x06 → ⊥) → hears chip s page ≡ out (rest Command Idle s.options s.memory) (pair 0x06 p.status)
    unfolding on_page
    hears_told n = hears_written ∙ rw (data_well (last_page p) body sized, ne_eqb p.status 0x06 n)

    module _ (fine : p.status ≡ 0x06) where
      pub hears_page : last_page p ≡ false → let guarded = page_guarded s.options p in
          hears chip s page
          ≡ out (rest Command (Programming (later p (status_byte (page_fault guarded (page_of s.memory p.flash p.page))))) s.options (page_written guarded s.memory p body)) (pair 0x06 0x06)
      unfolding on_page
      hears_page more =
          hears_written ∙ rw (data_well (last_page p) body sized, carried, eq-eqb p.status 0x06 fine, more)

      pub hears_last : last_page p ≡ true → let guarded = page_guarded s.options p in
          hears chip s page
          ≡ out (rest Command Idle s.options (page_written guarded s.memory p body)) (pair 0x06 (status_byte (page_fault guarded (page_of s.memory p.flash p.page))))
      unfolding on_page
      hears_last last =
          hears_written ∙ rw (data_well (last_page p) body sized, carried, eq-eqb p.status 0x06 fine, last)

  module _ (task : s.task ≡ Verifying p) where
    hears_checked : hears chip s page ≡ quiet (on_compare p now page)
    unfolding on_task task_now
    hears_checked =
        hears_in chip s Command (fresh_command s phase fresh) (Verifying p) (rw (phase, task, there)) (end_due (last_page p)) body (omega arith) (omega arith)

    pub hears_compare : last_page p ≡ false
        → hears chip s page ≡ out (rest Command (Verifying (later p (compared s.memory p body))) s.options s.memory) (pair 0x06 0x06)
    unfolding on_compare
    hears_compare more = hears_checked ∙ rw (data_well (last_page p) body sized, carried, more)

    pub hears_compared : last_page p ≡ true
        → hears chip s page ≡ out (rest Command Idle s.options s.memory) (pair 0x06 (compared s.memory p body))
    unfolding on_compare
    hears_compared last = hears_checked ∙ rw (data_well (last_page p) body sized, carried, last)
