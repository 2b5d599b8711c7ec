use Rattle.std.proofs.Common.{sym, ◌∙◌}
use Rattle.files.proofs.Numerals.{bytes_typed}
use Rattle.files.proofs.WholeFiles.{read_exactly}
use Rattle.files.proofs.read_file.read_file.Goals as goal

pub returns-in-Ok : goal.returns-in-Ok
returns-in-Ok g c = record {
  value = sym c.in-Ok.ensures.value;
  room = tt;
  exact = read_exactly c.args.kind c.args.bytes.now (bytes_typed c.args.bytes.now c.type_inv.bytes);
}

pub returns-in-Err : goal.returns-in-Err
returns-in-Err g c =
    let kept = c.read_into.ensures.room in
    record {
      value = sym c.in-Err.ensures.value;
      room = (c.clear.ensures.capacity ∙ kept.0, c.clear-in-Err.ensures.capacity ∙ kept.1);
      exact = read_exactly c.args.kind c.args.bytes.now (bytes_typed c.args.bytes.now c.type_inv.bytes);
    }
