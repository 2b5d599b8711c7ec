use Rattle.std.proofs.Common.{◌≡◌, Ok, rules, sym}
use Rattle.cards.specs.Contents.{contents}
use Rattle.logs.specs.Entries.{entries}
use Rattle.compile.specs.Questions.{accepted_log}
use Rattle.compile.proofs.Accepting.{accepted_fits}
use Rattle.compile.proofs.accepted.Accepted.new.Goals as goal

pub invariant_of-result : goal.invariant_of-result
invariant_of-result c =
    let card = contents c.args.card.now in
    let log = entries c.in_ok-log.log in
    let asked : Ok log ≡ accepted_log card c.args.bytes.now = search rules in
    ((accepted_fits card c.args.bytes.now log (sym asked)).0, tt)
