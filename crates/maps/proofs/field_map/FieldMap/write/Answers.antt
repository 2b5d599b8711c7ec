use Rattle.maps.specs.Contents.{contents}
use Rattle.maps.proofs.FileLaws.{map_again}
use Rattle.maps.proofs.field_map.FieldMap.write.Goals as goal

pub returns-clause-again : goal.returns-clause-again
returns-clause-again c = map_again (contents c.args.self.now) c.args.self.now.in_limits
