use Rattle.std.proofs.Common.{rules, ◌≡◌, arith}
use Rattle.std.proofs.iter.runs.Made.{chains}
use Rattle.meaning.specs.Cards.{card_count, wrong_entries}
use Rattle.input_stock_cards.proofs.Pass.{first-judged}
use Rattle.input_stock_cards.proofs.first_wrong_entry.Goals as goal

pub returns : goal.returns
returns c =
    first-judged c.args.cards.now wrong_entries c.position.ensures.runs.0.at c.position.result
    (λ k. search (rules, chains))
    (λ i e. search (rules, chains))
    (λ i e. search (rules, chains))
    (λ i k e l. search (rules, chains))
    (λ k e l. let all : c.position.ensures.runs.0.len ≡ card_count c.args.cards.now = search (rules, chains) in (_, c.position.ensures.runs.0.reads k c.args.cards (omega (arith, all, l))))
    (λ k e. search (rules, chains))
