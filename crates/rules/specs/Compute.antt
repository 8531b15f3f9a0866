-- Opens every definition for computing: an answer that says `unfolding everything` computes them all (docs/COMPUTE.md). Assumes nothing.
use Rattle.std.specs.Prelude.{ℕ, List}
use Rattle.rules.specs.declared.Options.{Options}
use Rattle.rules.specs.First.{first}
use Rattle.rules.specs.Chip.{small, Memory, known, same_flash, total, same, blank, blanks_before, over, part_of, put_part, shown, erase_address, range, checksum}
use Rattle.rules.specs.Options.{shownSF1, shownSF2, blank_options, security_set, release, window_set, shownFSWS, shownFSWE, shownSWS, shownSWE, erase_protected, write_protected}
use Rattle.rules.specs.Frame.{body_size, frame_size, sum_byte, frame, whole, data_fault}
use Rattle.rules.specs.Command.{commands, rows, lookup, read_as, frame_checks, used_from, order_checks, unless, judged_order, judged, secured, done}
use Rattle.rules.specs.StandIn.{powered, Fed, on_judged, on_command, page_fault, page_written, on_page, compared, on_compare, task_now, on_task, on_frame, receive, takes, step, flash_verdict, lent_verdict, power_by, power_on, byte_by, byte_call, received, outs, feed}
use Rattle.rules.specs.WholeFrame.{awaited, frame_verdict, frame_by, frame_call}
use Rattle.rules.specs.Sheet.{form_two, against, head_size, count, most_bytes, last_kind, body_length, offset_due, written, any_from, head_verdict, entry_verdict, entries_verdict, sheet_verdict, verdict, step_of, step_at}
use Rattle.rules.specs.Meaning.{erase_from, write_from, erase_done, write_done, step_done, step_meaning, options_by, options_after, meaning_from, meaning, step_frames_from, step_frames}
use Rattle.rules.specs.Player.{framed, command_reply, sum_reply, data_reply, finished, erased_block, opened_pages, lock_reply, took_once, sent_page, absorb_by, absorbed, counted, emit_by, emitted, report_by, report_of, lost_in, lost, player_verdict, played, call_by, called, absorb_command, first_command, command_in, page_in}
use Rattle.rules.specs.Run.{all_bytes, carried, taken_in, turned, run_from, between_in, between, step_from, most_for, most_frames, most_from, run, step_run, waits_in, waits, settled}
use Rattle.rules.specs.Move.{entries_moved, moved_up, moved_down, any_new, move_verdict, move_by, move_up, move_down}
use Rattle.rules.specs.Text.{digits, decimal, status_text, kind_text, step_line, end_line, refused_line, flash_text, note_line, stopped, line_at, lines_from, play_text, verdict_text}
use Rattle.rules.specs.Lines.{between as partBetween, starts_with, onto, lines_of, first_line, digit, two_digits, pair, spaced_pair, all_good, values, is_row, row_bytes, is_pairs, pair_bytes}
use Rattle.rules.specs.Hex.{without_cr, type_form, typed, record_kind, line_kind, any_given, put_bytes, bytes_in, bytes_at, taken_as, line_taken, after_end, goes_on, read_lines, hex_read, named_from, blocks_named, cell_bytes, entry_of, entries_of, bodies_of, sheet_of, sheet_made, making_of, made_of, hex_made}
use Rattle.rules.specs.Capture.{some_pairs, is_line, given, hears, fits, judged as judgedLines, captured_by, captured}

unfoldable pub everything : ℕ
unfolding first total same blank blanks_before over part_of put_part shown erase_address range checksum shownSF1 shownSF2 blank_options security_set release window_set shownFSWS shownFSWE shownSWS shownSWE erase_protected write_protected body_size frame_size sum_byte frame whole data_fault commands rows lookup read_as frame_checks used_from order_checks unless judged_order judged secured done on_judged on_command page_fault page_written on_page compared on_compare task_now on_task on_frame receive takes step flash_verdict lent_verdict power_by power_on byte_by byte_call received outs feed form_two against head_size count most_bytes last_kind body_length offset_due written any_from head_verdict entry_verdict entries_verdict sheet_verdict verdict step_of step_at erase_from write_from erase_done write_done step_done step_meaning options_by options_after meaning_from meaning step_frames_from step_frames framed command_reply sum_reply data_reply finished erased_block opened_pages lock_reply took_once sent_page absorb_by absorbed counted emit_by emitted report_by report_of lost_in lost player_verdict played call_by called all_bytes carried taken_in turned run_from between_in between step_from most_for most_frames most_from run step_run waits_in waits settled digits decimal status_text kind_text step_line end_line refused_line flash_text note_line stopped line_at lines_from play_text verdict_text absorb_command first_command command_in page_in known same_flash partBetween starts_with onto lines_of first_line digit two_digits pair spaced_pair all_good values is_row row_bytes is_pairs pair_bytes without_cr type_form typed record_kind line_kind any_given put_bytes bytes_in bytes_at taken_as line_taken after_end goes_on read_lines hex_read named_from blocks_named cell_bytes entry_of entries_of bodies_of sheet_of sheet_made making_of made_of hex_made awaited frame_verdict frame_by frame_call entries_moved moved_up moved_down any_new move_verdict move_by move_up move_down some_pairs is_line given hears fits judgedLines captured_by captured
everything = 0

-- (a) from stored options and flash: power-on, then the bytes; the answer after each byte, and the state after the last
unfoldable pub session : Options → Memory → List ℕ → Fed
unfolding everything
session o m bytes = feed small (powered o m) bytes
