use Rattle.std.proofs.Common.{◌≡◌, Ok, rules, sym}
use Rattle.cards.specs.Contents.{contents}
use Rattle.cards.specs.Laws.{in_limits}
use Rattle.compile.specs.Outcome.{compile_log}
use Rattle.compile.proofs.Standing.{compile_law}
use Rattle.compile.proofs.compile.compile.Goals as goal

pub returns-in-Ok-clause-stands : goal.returns-in-Ok-clause-stands
returns-in-Ok-clause-stands c =
    let card = contents c.args.card.now in
    let new = contents c.compiled.result in
    let value : Ok new ≡ compile_log card c.args.log.now = search rules in
    compile_law card c.args.log.now new (in_limits c.args.card.now) (sym value)

pub returns-in-Ok-clause-law : goal.returns-in-Ok-clause-law
returns-in-Ok-clause-law c = compile_law

pub returns-in-Err-clause-law : goal.returns-in-Err-clause-law
returns-in-Err-clause-law c = compile_law
