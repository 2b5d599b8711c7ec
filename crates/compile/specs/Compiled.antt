-- The card that a log is compiled into. Entries of the log are counted from 0.
use Rattle.std.specs.Prelude.{ℕ, zero, suc, ◌+◌, ◌-◌, ◌^◌, Bool, false, if◌then◌else◌, List, map, length, ◌==◌, bit_or, nat_lt, slice_index}
use Rattle.std.specs.List.{range_with_len}
use Rattle.fluents.specs.SetRecords.{set_of}
use Rattle.fluents.specs.declared.FluentSet.{FluentSet}
use Rattle.cards.specs.Cards.{empty_set, action_at, goal_at}
use Rattle.cards.specs.Contents.{Contents}
use Rattle.cards.specs.declared.action.Action.{Action}
use Rattle.plans.specs.Counting.{may_run}

-- the set of one fluent
abbrev pub single : ℕ → FluentSet
single fluent = set_of (2 ^ fluent)

-- the fluents of either set
abbrev pub union : FluentSet → FluentSet → FluentSet
union a b = set_of (bit_or a.0 b.0)

-- what is left of what an action adds or deletes: all of it, or nothing where the log does not let the action run
abbrev pub effect : List ℕ → ℕ → Bool → FluentSet → FluentSet
effect log a marked set = if may_run log a marked then set else empty_set

module _ (c : Contents) where
  -- above the card's own fluents there is one for each entry, its mark, which holds once the entry is carried
  abbrev pub mark : ℕ → FluentSet
  mark entry = single (c.fluents + entry)

  -- the marks of the first n entries
  abbrev pub marks : ℕ → FluentSet
  marks zero = empty_set
  marks (suc n) = union (marks n) (mark n)

  -- what has to hold before an entry can be carried: the mark of the entry before it, and nothing for the first
  abbrev pub mark_before : ℕ → FluentSet
  mark_before entry = if entry == 0 then empty_set else mark (entry - 1)

module _ (c : Contents) (log : List ℕ) where
  -- an action of the card itself; the log has judged the marks, so no action is marked any more
  abbrev pub own_action : ℕ → Action
  own_action a = record {
    needs = (action_at c a).needs;
    adds = effect log a (action_at c a).marked (action_at c a).adds;
    deletes = effect log a (action_at c a).marked (action_at c a).deletes;
    cost = (action_at c a).cost;
    marked = false;
  }

  -- the copy of an entry's action, which carries the entry
  abbrev pub entry_action : ℕ → Action
  entry_action entry = action_at c (slice_index log entry)

  abbrev pub copy : ℕ → Action
  copy entry = record {
    needs = union (entry_action entry).needs (mark_before c entry);
    adds = union (entry_action entry).adds (mark c entry);
    deletes = (entry_action entry).deletes;
    cost = (entry_action entry).cost;
    marked = false;
  }

  -- the card's own actions keep their numbers, and the copies follow
  abbrev pub action_of : ℕ → Action
  action_of a = if nat_lt a (length c.actions) then own_action a else copy (a - length c.actions)

  -- a goal together with the log
  abbrev pub with_log : FluentSet → FluentSet
  with_log goal = union goal (marks c (length log))

  -- the card's own goals keep their numbers, and the same goals together with the log follow
  abbrev pub goal_of : ℕ → FluentSet
  goal_of g = if nat_lt g (length c.goals) then goal_at c g else with_log (goal_at c (g - length c.goals))

  abbrev pub compiled : Contents
  compiled = record {
    fluents = c.fluents + length log;
    start = c.start;
    actions = map action_of (range_with_len 0 (length c.actions + length log));
    goals = map goal_of (range_with_len 0 (length c.goals + length c.goals));
  }
