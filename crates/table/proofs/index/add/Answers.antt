use Rattle.std.proofs.Common.{refl}
use Rattle.table.proofs.Chains.{add_done}
use Rattle.table.proofs.index.add.Goals as goal

pub returns-clause-rows : goal.returns-clause-rows
returns-clause-rows c =
    let put = c.in_ok-put.ensures in
    add_done c.args.rows.now c.put.new.rows c.link.new.rows c.args.len c.args.node (put.value.0 refl) put.rows c.link.ensures
