use Rattle.std.proofs.Common.{rules, arith}
use Rattle.cards.specs.Cards.{empty_set, no_action, goal_at}
use Rattle.compile.specs.Compiled.{own_action, copy, with_log}
use Rattle.compile.proofs.Values.{parts_are}
use Rattle.compile.proofs.accepted.Accepted.parts.Goals as goal

pub returns : goal.returns
returns c =
    let card = c.args.self.now.card in
    let log = c.args.self.now.log in
    let room = c.args.room in
    let own = c.push_each.ensures.items (own_action card log) (λ number x l p. search rules) in
    let copies = c.push_each-2.ensures.items (copy card log) (λ number x l p. search rules) in
    let own_goals = c.push_each-3.ensures.items (goal_at card) (λ number x l p. search rules) in
    let goals_with_log = c.push_each-4.ensures.items (λ g. with_log card log (goal_at card g)) (λ number x l p. search rules) in
    record {
      actions = parts_are (own_action card log) (copy card log) room.actions.items no_action (omega (arith, room.actions.ok.0, room.empty.0)) (search rules) c.entry_count.ensures own copies;
      goals = parts_are (goal_at card) (λ g. with_log card log (goal_at card g)) room.goals.items {j = c.goal_count-goal_count.result} empty_set (omega (arith, room.goals.ok.0, room.empty.1)) (search rules) (search rules) own_goals goals_with_log;
    }
