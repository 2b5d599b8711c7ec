-- What a card means as a planning domain, and the same in the words of fluents.
use Rattle.std.specs.Prelude.{◌≡◌, ℕ, ◌^◌, ◌<◌, Bool, false, if◌then◌else◌, not, ◌&&◌, ◌||◌, length, MatchOption, nat_lt, slice_index_or}
use Rattle.std.specs.List.{slice_get}
use Rattle.domain.specs.Meaning.{Meaning}
use Rattle.cards.specs.declared.action.Action.{Action}
use Rattle.fluents.specs.declared.FluentSet.{FluentSet}
use Rattle.cards.specs.Contents.{Contents}
use Rattle.fluents.specs.Fluents.{holds, Within, within, changed}

abbrev pub empty_set : FluentSet
empty_set = record { 0 = 0 }

-- stands for an action that is not there: it costs nothing and is not marked
abbrev pub no_action : Action
no_action = record { needs = empty_set; adds = empty_set; deletes = empty_set; cost = 0; marked = false }

abbrev pub action_at : Contents → ℕ → Action
action_at c a = slice_index_or c.actions a no_action

abbrev pub goal_at : Contents → ℕ → FluentSet
goal_at c g = slice_index_or c.goals g empty_set

-- a number is a state when all its bits are fluents
abbrev pub is_state : Contents → ℕ → Bool
is_state c s = nat_lt s (2 ^ c.fluents)

abbrev pub can_run : Contents → ℕ → ℕ → Bool
can_run c s a = is_state c s && (nat_lt a (length c.actions) && within (action_at c a).needs.0 s)

abbrev pub meaning_of : Contents → Meaning
meaning_of c = record {
  width = c.fluents;
  actions = length c.actions;
  goals = length c.goals;
  start = c.start.0;
  runs = can_run c;
  next = λ s a. if can_run c s a then changed s (action_at c a).deletes.0 (action_at c a).adds.0 else s;
  cost = λ a. (action_at c a).cost;
  marked = λ a. (action_at c a).marked;
  meets = λ s g. is_state c s && (nat_lt g (length c.goals) && within (goal_at c g).0 s);
  complete = is_state c;
}

-- In the words of fluents.

-- an action runs in a state when it is one of the card's and every fluent that it needs holds
abbrev pub Runs : Contents → ℕ → ℕ → Type 0
Runs c s a = (s < 2 ^ c.fluents) × (a < length c.actions) × Within (action_at c a).needs.0 s

-- after it a fluent holds exactly when it is added, or held and is not deleted
abbrev pub After : Contents → ℕ → ℕ → ℕ → Type 0
After c s a t = (i : ℕ) → holds i t ≡ (holds i (action_at c a).adds.0 || (holds i s && not (holds i (action_at c a).deletes.0)))

-- a goal is met in a state when it is one of the card's and all its fluents hold
abbrev pub Meets : Contents → ℕ → ℕ → Type 0
Meets c s g = (s < 2 ^ c.fluents) × (g < length c.goals) × Within (goal_at c g).0 s

-- the cost of the card's own action, and 0 where there is none of that number
abbrev pub OwnCost : Contents → ℕ → ℕ → Type 0
OwnCost c a r = MatchOption (slice_get c.actions a) (r ≡ 0) (λ own. r ≡ own.cost)

-- its mark, and no where there is none
abbrev pub OwnMark : Contents → ℕ → Bool → Type 0
OwnMark c a r = MatchOption (slice_get c.actions a) (r ≡ false) (λ own. r ≡ own.marked)
