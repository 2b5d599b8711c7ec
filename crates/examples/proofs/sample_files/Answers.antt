use Rattle.std.proofs.Common.{refl}
use Rattle.examples.proofs.Listed.{worked_examples}
use Rattle.examples.proofs.sample_files.Goals as goal

pub returns : goal.returns
returns c = worked_examples _ _ _ refl refl refl refl refl refl
