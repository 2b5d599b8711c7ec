use Rattle.std.proofs.Common.{◌+◌, drop}
use Rattle.files.specs.Contents.{record_bytes}
use Rattle.files.specs.Writing.{records_of}
use Rattle.files.proofs.WriteSteps.{begun_fits, begun_more, items_next}
use Rattle.files.proofs.write_file.write_parts.Goals as goal

pub write_record-count-requires : goal.write_record-count-requires
write_record-count-requires g c =
    let xs = c.args.items.now in
    let i = c.loop-item.item-index in
    let l = c.args.layout in
    let x = c.item-item.result in
    let records = records_of l g.R.Record.written in
    let b = items_next c.args.layout g.R.Record.written xs i c.item-item.result c.loop-item-test.true c.item-item.is (records xs) c.args.place.now c.loop-item.place c.loop-item.count c.loop-item.invariant in
    begun_fits (records xs) (record_bytes l.kind l.part (g.R.Record.written x)) (records (drop (i + 1) xs)) _ _ _ b c.requires c.loop-item.auto.place

pub loop-item-preserved : goal.loop-item-preserved
loop-item-preserved g c =
    let xs = c.args.items.now in
    let i = c.loop-item.item-index in
    let records = records_of c.args.layout g.R.Record.written in
    let b = items_next c.args.layout g.R.Record.written xs i c.item-item.result c.loop-item-test.true c.item-item.is (records xs) c.args.place.now c.loop-item.place c.loop-item.count c.loop-item.invariant in
    begun_more _ _ (records (drop (i + 1) xs)) _ _ _ b _ _ c.write_record-count.ensures
