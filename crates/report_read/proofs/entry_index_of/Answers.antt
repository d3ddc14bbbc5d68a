use Rattle.std.proofs.Common.{◌∙◌, rules}
use Rattle.std.proofs.lemmas.List.Sorted.{answers_always}
use Rattle.basis.specs.Bytes.{number_at}
use Rattle.report_read.proofs.Searching.{found-is}
use Rattle.report_read.proofs.entry_index_of.Goals as goal

pub returns : goal.returns
returns c =
    c.ok.ensures.value
    ∙ found-is c.requires c.as_chunks.ensures.front c.as_chunks.ensures.front_len c.args.number _ c.binary_search_by_key.ensures.bound
    (c.binary_search_by_key.ensures.position (λ e. number_at 4 e 0) (answers_always _ _ _ (λ f a r f' k. search rules)))
