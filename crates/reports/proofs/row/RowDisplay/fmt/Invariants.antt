use Rattle.std.proofs.Common.{take}
use Rattle.std.specs.Fmt.{IsPlainFormatter}
use Rattle.std.proofs.Debugs.{Shows}
use Rattle.reports.specs.Words.{rest_text}
use Rattle.reports.proofs.row.RowDisplay.fmt.Given as goal

abbrev pub invariant-loop-item : goal.invariant-loop-item
invariant-loop-item g l = IsPlainFormatter l.initial.f → Shows g.W.Write.write_str_gives l.initial.f (rest_text g.T.Display.output (take l.item-index l.rest)) l.f
