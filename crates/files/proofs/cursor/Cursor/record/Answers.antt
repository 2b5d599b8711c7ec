use Rattle.std.proofs.Common.{◌+◌, sym, ◌∙◌, rules}
use Rattle.files.specs.Formats.{fields_of}
use Rattle.files.proofs.ReadSteps.{made_of_first}
use Rattle.files.proofs.WriteSteps.{fields_few}
use Rattle.files.proofs.cursor.Cursor.record.Goals as goal

pub returns : goal.returns
returns g c =
    let s = c.args.self in
    let l = c.args.layout in
    let x = c.in_ok-values in
    let made = made_of_first g.R.Record.made s.bytes.now s.size s.at.«record» (fields_of l.kind l.part) (s.at.byte + 1) c.in-Some.map.now (x.values, x.rest, x.next) (fields_few l.kind l.part) (sym x.was ∙ c.fields.ensures) in
    search (rules, made)
