use Rattle.std.proofs.Common.{◌≡◌, ◌+◌, ◌≤◌, length, take, drop}
use Rattle.std.specs.Slice.Iter.{iter_rest}
use Rattle.files.specs.Cursors.{fields_at}
use Rattle.files.specs.Reading.{read_fields, size_of}
use Rattle.files.proofs.ReadSteps.{prefixed, zeros}
use Rattle.files.proofs.cursor.Cursor.fields.Given as goal

abbrev pub invariant-loop-value : goal.invariant-loop-value
invariant-loop-value l =
    let s = l.self in
    let rest = iter_rest l.fields in
    record {
      few : length rest + l.value-index ≤ 4;
      long : length l.value-items ≡ 4;
      inside : l.byte + size_of l.rest rest ≤ length s.bytes.now;
      empty : drop l.value-index l.value-items ≡ drop l.value-index zeros;
      read : fields_at s l.fn.layout l.map ≡ prefixed (take l.value-index l.value-items) (read_fields s.bytes.now s.size s.at.«record» l.byte l.rest rest);
    }
