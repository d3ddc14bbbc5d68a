use Rattle.std.proofs.Common.{rules}
use Rattle.report_check.proofs.Form.{too_short, header_wrong, header_length, header_few, entries-judged}
use Rattle.report_check.proofs.is_well_formed.Goals as goal

pub returns-then-report-lt-ENTRIES_AT : goal.returns-then-report-lt-ENTRIES_AT
returns-then-report-lt-ENTRIES_AT c = search too_short

pub are_entries_right-requires : goal.are_entries_right-requires
are_entries_right-requires c = search (rules, header_length, header_few)

pub returns-then-right : goal.returns-then-right
returns-then-right c = search entries-judged

pub returns : goal.returns
returns c = search header_wrong
