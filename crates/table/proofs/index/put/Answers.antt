use Rattle.std.proofs.Common.{sym, arith, rules}
use Rattle.table.proofs.Chains.{put_indexed}
use Rattle.table.proofs.index.put.Goals as goal

pub returns-clause-indexed : goal.returns-clause-indexed
returns-clause-indexed c n same = put_indexed c.args.rows.now _ c.args.i c.args.node (search rules) n (omega arith) (sym same)
