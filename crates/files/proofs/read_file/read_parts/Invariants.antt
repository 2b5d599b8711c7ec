use Rattle.std.proofs.Common.{◌≡◌, ◌+◌, ◌-◌, vec_items, vec_len, vec_capacity}
use Rattle.files.specs.Reading.{read_records, parts_with}
use Rattle.files.proofs.ReadSteps.{prefixed}
use Rattle.files.proofs.read_file.read_parts.Given as goal

abbrev pub invariant-loop : goal.invariant-loop
invariant-loop g l =
    let s = l.from in
    let make = g.R.Record.made in
    record {
      len : vec_len l.room ≡ l.counter;
      width : vec_capacity l.room ≡ vec_capacity l.initial.room;
      number : l.at.«record» ≡ s.at.«record» + l.counter;
      value :
          parts_with make (read_records l.layout.kind l.layout.part s.size s.bytes.now l.count s.at.«record» s.at.byte)
          ≡ prefixed (vec_items l.room) (parts_with make (read_records l.layout.kind l.layout.part s.size s.bytes.now (l.count - l.counter) l.at.«record» l.at.byte));
    }
