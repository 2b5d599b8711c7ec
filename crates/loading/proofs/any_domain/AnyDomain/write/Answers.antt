use Rattle.std.proofs.Common.{ap}
use Rattle.formats.specs.Files.{known_as}
use Rattle.loading.specs.Contents.{of_card}
use Rattle.loading.proofs.any_domain.AnyDomain.write.Goals as goal

pub returns-in-Card-clause-again : goal.returns-in-Card-clause-again
returns-in-Card-clause-again c = rw c.in-Card.is (ap (known_as of_card) c.write.ensures.again)
