use Rattle.std.proofs.Common.{arith}
use Rattle.std.proofs.lemmas.Bool.Decides.{nat_tests}
use Rattle.files.proofs.ReadSteps.{size_more}
use Rattle.files.proofs.layout.Layout.fields_size.Goals as goal
use Rattle.files.proofs.layout.Layout.fields_size.Goals.{then-rest-eq1, else-rest-eq1}

pub loop-field-preserved : goal.loop-field-preserved
loop-field-preserved c =
    let step = size_more c.fields-field-items.result.now c.loop-field.field-index c.loop-field.rest c.loop-field-test.true in
    elim c.if-rest-eq1.branch [ then-rest-eq1 w ↦ grind (arith, nat_tests, step, w.bytes-size.ensures) | else-rest-eq1 w ↦ grind (arith, nat_tests, step) ]
