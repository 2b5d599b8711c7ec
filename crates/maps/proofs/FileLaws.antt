-- A field map's file: bytes are read as a map exactly when they are that map's file.
use Rattle.std.proofs.Common.{◌≡◌, ℕ, List, Ok, refl}
use Rattle.files.specs.declared.kind.Kind.TheVariants as kind
use Rattle.files.specs.Exact as bytes
use Rattle.formats.specs.Files as files
use Rattle.formats.proofs.FileLaws as formats
use Rattle.maps.specs.Contents.{Contents, InLimits}
use Rattle.maps.specs.Conversions.{converts, same_limits}
use Rattle.maps.specs.Limits.{map_of, parts_of}
use Rattle.maps.specs.MapFiles.{map_file, read_map, ReadExactly}
use Rattle.maps.specs.MapRecords.{move_entry, entry_move, goal_entry, entry_goal}

-- a map that is written is read again
pub map_again : (c : Contents) → InLimits c → read_map (map_file c) ≡ Ok c
map_again = formats.told_again map_of parts_of (λ c. refl) (λ f. refl) InLimits converts same_limits

-- the law of reading, from that of the map's parts
pub told_exactly : (bs : List ℕ) → files.ReadExactly (files.read_parts kind.Map entry_move entry_goal) (files.parts_file kind.Map move_entry goal_entry) (λ f. InLimits (map_of f)) bs → ReadExactly bs
told_exactly = formats.told_exactly map_of parts_of (λ c. refl) (λ f. refl) InLimits kind.Map entry_move move_entry entry_goal goal_entry

pub map_exactly : (bs : List ℕ) → bytes.ReadExactly kind.Map bs → ReadExactly bs
map_exactly = formats.all_exactly map_of parts_of (λ c. refl) (λ f. refl) InLimits converts same_limits
