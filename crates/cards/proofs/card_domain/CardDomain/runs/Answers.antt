use Rattle.std.proofs.Common.{rules}
use Rattle.std.proofs.lemmas.Bool.Decides.{same_from_decides}
use Rattle.cards.specs.Contents.{contents}
use Rattle.cards.specs.Laws.{decides_runs}
use Rattle.cards.proofs.card_domain.CardDomain.runs.Goals as goal

pub returns-clause-value : goal.returns-clause-value
returns-clause-value c = same_from_decides _ _ (search rules) (decides_runs (contents c.args.self.now) _ _)
