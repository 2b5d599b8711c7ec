use Rattle.std.proofs.Common.{◌≡◌, ap}
use Rattle.std.proofs.lemmas.Option.{unwrap_or-slice_get}
use Rattle.fluents.specs.SetRecords.{set_of}
use Rattle.cards.specs.Cards.{empty_set}
use Rattle.compile.proofs.accepted.Accepted.goal.Goals as goal

pub returns : goal.returns
returns c =
    let none : c.default.result ≡ empty_set = ap set_of c.default.ensures in
    let found = unwrap_or-slice_get c.args.self.now.card.goals c.args.number empty_set in
    cc (c.unwrap_or.ensures, c.goal.ensures)
