use borrow.Author.Rules.{rules}
use Rattle.decimal_write.proofs.Digits.{digit_put, spelling_some, spelling_at, spelling_more, spelling_all}
use Rattle.decimal_write.proofs.put_digits.Goals as goal

pub returns-then-n-lt10 : goal.returns-then-n-lt10
returns-then-n-lt10 c = search digit_put

pub overflow_sub-p : goal.overflow_sub-p
overflow_sub-p c = search spelling_some

pub put_number-requires : goal.put_number-requires
put_number-requires c = search (rules, spelling_at)

pub loop-rest-preserved : goal.loop-rest-preserved
loop-rest-preserved c = search spelling_more

pub overflow_sub-p-2 : goal.overflow_sub-p-2
overflow_sub-p-2 c = search spelling_some

pub put_number-requires-2 : goal.put_number-requires-2
put_number-requires-2 c = search (rules, spelling_at)

pub returns : goal.returns
returns c = search spelling_all
