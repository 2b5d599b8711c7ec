use Rattle.cards.specs.Contents.{contents}
use Rattle.cards.proofs.FileLaws.{card_again}
use Rattle.cards.proofs.card.Card.write.Goals as goal

pub returns-clause-again : goal.returns-clause-again
returns-clause-again c = card_again (contents c.args.self.now) c.args.self.now.in_limits
