use Rattle.std.proofs.Common.{rules}
use Rattle.report_text.proofs.Texts.{texting_none, texting_entry, texting_room, texting_more, texting_all}
use Rattle.report_text.proofs.put_lines.Goals as goal

pub loop-i-init : goal.loop-i-init
loop-i-init c = search texting_none

pub put_entry_line-p-requires : goal.put_entry_line-p-requires
put_entry_line-p-requires c = search (rules, texting_entry, texting_room)

pub loop-i-preserved : goal.loop-i-preserved
loop-i-preserved c = search texting_more

pub returns : goal.returns
returns c = search texting_all
