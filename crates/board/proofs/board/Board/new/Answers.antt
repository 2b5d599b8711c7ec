use Rattle.std.proofs.Common.{rules, ◌≡◌, true, refl}
use Rattle.std.proofs.lemmas.List.Elements.{All-replicate}
use Rattle.board.specs.Rows.{agrees}
use Rattle.board.proofs.board.Board.new.Goals as goal

pub invariant_of-result : goal.invariant_of-result
invariant_of-result c = (refl, (All-replicate (λ row. agrees row ≡ true) 32 _ (search rules), tt))
