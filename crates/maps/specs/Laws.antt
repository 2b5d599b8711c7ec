-- A field map within its limits keeps those of every domain.
use Rattle.std.specs.Prelude.{◌≡◌, ℕ, ◌^◌, ◌<◌, ◌≤◌, false, ◌&&◌, length, ◌==◌, nat_lt}
use Rattle.std.proofs.Common.{⊎_elim, arith, lit≤}
use Rattle.std.proofs.lemmas.List.{get_or_past}
use Rattle.std.proofs.lemmas.Bool.{and_left, and_parts, cases_lt, cond_both, cond-false, le-ltb, ltb-true}
use Rattle.std.proofs.lemmas.Bool.Decides.{nat_tests}
use Rattle.domain.specs.Meaning.{Limits}
use Rattle.maps.specs.Contents.{Contents, InLimits, contents}
use Rattle.maps.specs.Maps.{first_place, no_move, can_run, meaning_of}
use Rattle.maps.specs.declared.field_map.FieldMap.{FieldMap}

-- a test for one of n places finds none from n on
elsewhere : (k top n place s : ℕ) → (k < top → place < n) → n ≤ s → (nat_lt k top && s == place) ≡ false
elsewhere k top n place s among past = grind (arith, nat_tests)

-- a map keeps the limits of every domain
pub limits : (c : Contents) → InLimits c → Limits (meaning_of c)
limits c l = record {
  width_low = lit≤ tt;
  width_high = lit≤ tt;
  actions_low = l.moves_low;
  actions_high = l.moves_high;
  goals_low = l.goals_low;
  goals_high = l.goals_high;
  start_in = omega arith;
  next_in = λ s a p. cond_both (can_run c s a) _ s (λ t. t < 2 ^ 6) (λ e. omega (arith, (l.moves_among a no_move (ltb-true _ _ (and_parts _ _ e).0)).1)) (λ _. p);
  cost_high = λ a. ⊎_elim (λ h. (l.moves_among a no_move h).2) (λ (h : length c.moves ≤ a). rw get_or_past (lit≤ tt)) (cases_lt a (length c.moves));
  next_same = λ s a e. cond-false (can_run c s a) _ s e;
  runs_no_state = λ s a h. elsewhere a _ c.places _ s (λ h. (l.moves_among a no_move h).0) (omega arith);
  meets_no_state = λ s g h. elsewhere g _ c.places _ s (l.goals_among g first_place) (omega arith);
  complete_no_state = λ s h. le-ltb s (2 ^ 6) h;
  runs_no_action = λ s a h. and_left _ _ (le-ltb a _ h);
  cost_no_action = λ a h. rw get_or_past;
  marked_no_action = λ a h. rw get_or_past;
  meets_no_goal = λ s g h. and_left _ _ (le-ltb g _ h);
}

-- every map is within its limits
pub in_limits : (m : FieldMap) → InLimits (contents m)
in_limits m = m.in_limits
