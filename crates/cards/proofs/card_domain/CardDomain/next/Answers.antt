use Rattle.std.proofs.Common.{arith, rules}
use Rattle.std.proofs.lemmas.Grind.{common_steps}
use Rattle.cards.specs.Contents.{contents}
use Rattle.cards.specs.Laws.{next_from_laws}
use Rattle.cards.proofs.card_domain.CardDomain.next.Goals as goal

pub returns-clause-value : goal.returns-clause-value
returns-clause-value c = next_from_laws (contents c.args.self.now) _ _ _ (λ r i. grind (arith, common_steps)) (search rules)
