use Rattle.std.proofs.Common.{sym}
use Rattle.formats.proofs.FileLaws.{parts_exactly, parts_known}
use Rattle.formats.proofs.parts.Parts.read.Goals as goal

pub returns-in_err-file-clause-exact : goal.returns-in_err-file-clause-exact
returns-in_err-file-clause-exact g c = let f = g.met.F.Format in parts_exactly f.converts f.same_limits _ c.KIND.ensures c.args.bytes.now c.in_err-file.ensures.exact

pub invariant_of-result : goal.invariant_of-result
invariant_of-result g c =
    let f = g.met.F.Format in
    let told = c.in_ok-file.ensures in
    record { in_limits = ∣ (parts_known f.converts f.same_limits _ c.KIND.ensures c.args.bytes.now told.exact _ told.value).0 ∣₁ }

pub returns-clause-exact : goal.returns-clause-exact
returns-clause-exact g c = let f = g.met.F.Format in parts_exactly f.converts f.same_limits _ c.KIND.ensures c.args.bytes.now c.in_ok-file.ensures.exact

pub returns-clause-same : goal.returns-clause-same
returns-clause-same g c =
    let f = g.met.F.Format in
    let told = c.in_ok-file.ensures in
    sym (parts_known f.converts f.same_limits _ c.KIND.ensures c.args.bytes.now told.exact _ told.value).1
