-- What a contract sees of a watch.
use Rattle.std.specs.Prelude.{◌≡◌, ℕ, ◌≤◌, List, length}
use Rattle.board.specs.declared.row.BoardRow.{BoardRow}
use Rattle.board.specs.Rows.{AllAgree}

-- the domain below, the entries of the log, and the rows of the board, with what holds of every log and every board
pub record Kept (D : Type 0) : Type 0 where
  pub domain : D
  pub log : List ℕ
  pub rows : List BoardRow
  pub few : length log ≤ 20
  pub long : length rows ≡ 32
  pub agree : AllAgree rows
