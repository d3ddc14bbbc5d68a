-- All that computes, opened by one name. Assumes nothing.
use Rattle.basis.specs.Bytes.{bytes_of, number_of, number_at, packed, starts_with, splice}
use Rattle.basis.specs.Lists.{sum, count_up, joined, any, insert_by, sorted_by, without, stands}
use Rattle.basis.specs.First.{scan, first}
use Rattle.basis.specs.Answers.{refuse_at_first, first_refusal, settled}
use Rattle.meaning.specs.Methods.{by_method, decoded}
use Rattle.meaning.specs.Masses.{added, taken, below_zero, rounded, mass, masses, weighed, equivalent}
use Rattle.meaning.specs.Register.{header_tests, source_at, sources_of, line_start, name_start, misplaced, unsound, wrong_source, source_test, rest_test, repeats, repeat_test, register_tests, decoded_lines, line_bytes, source_entries, register_header, encode}
use Rattle.meaning.specs.Report.{entry_of, figures, figure, totals, report_header, entry_bytes, report_bytes, in_order, entry_in, entries_of, header_right, number_before, wrong_entry, wrong_total, well_formed}
use Rattle.meaning.specs.Text.{digits, decimal, text_line, report_text, refused_line, accepted_line}
use Rattle.meaning.specs.Cards.{card_at, wrong_entries, wrong_amount, amounts_of, amount_bytes}
use Rattle.meaning.specs.Calls.{written, line_test, fault_of, fault_at, mass_test, entries_for, calculated, shared_at, shared_test, both_entries, combined, removed, checked, text, amounts, accepted, has_number, index_of, holds, name_at, found, found_of_two}
use Rattle.meaning.specs.Programs.{text_output, output, amount_lines, amounts_output}

-- whoever unfolds this unfolds every definition of the meaning
unfoldable pub opened : Unit {0}
unfolding bytes_of number_of number_at packed starts_with splice sum count_up joined any insert_by sorted_by without stands scan first refuse_at_first first_refusal settled by_method decoded added taken below_zero rounded mass masses weighed equivalent header_tests source_at sources_of line_start name_start misplaced unsound wrong_source source_test rest_test repeats repeat_test register_tests decoded_lines line_bytes source_entries register_header encode entry_of figures figure totals report_header entry_bytes report_bytes in_order entry_in entries_of header_right number_before wrong_entry wrong_total well_formed digits decimal text_line report_text refused_line accepted_line card_at wrong_entries wrong_amount amounts_of amount_bytes written line_test fault_of fault_at mass_test entries_for calculated shared_at shared_test both_entries combined removed checked text amounts accepted has_number index_of holds name_at found found_of_two text_output output amount_lines amounts_output
opened = tt
