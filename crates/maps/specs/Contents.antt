-- What a field map holds, apart from where it lies in memory.
use Rattle.files.specs.Outcome.{contents_of}
use Rattle.maps.specs.declared.field_map.FieldMap.{FieldMap}
use Rattle.maps.specs.Limits.{map_of}
pub use Rattle.maps.specs.Limits.{Contents, InLimits}

-- A function, and no model of the type: for the law of limits a model would hold the limits too,
-- so it would be another record than `Contents`, by which reading and that law are defined.
abbrev pub contents : FieldMap → Contents
contents m = map_of (contents_of m.parts.file)
