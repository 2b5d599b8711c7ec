-- An action as a record of a file.
use Rattle.std.specs.Prelude.{min, [], ◌∷◌, slice_index}
use Rattle.files.specs.Contents.{Entry}
use Rattle.cards.specs.declared.action.Action.{Action}
use Rattle.fluents.specs.SetRecords.{set_of}

-- an action's record, and the action that is made of one; a cost takes sixteen bits
abbrev pub action_entry : Action → Entry
action_entry a = record { values = a.needs.0 ∷ (a.adds.0 ∷ (a.deletes.0 ∷ (a.cost ∷ []))); marked = a.marked }

abbrev pub entry_action : Entry → Action
entry_action e = record {
  needs = set_of (slice_index e.values 0);
  adds = set_of (slice_index e.values 1);
  deletes = set_of (slice_index e.values 2);
  cost = min (slice_index e.values 3) 65535;
  marked = e.marked;
}
