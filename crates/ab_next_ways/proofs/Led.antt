-- A turn on the row of ways leads onward.
use Rattle.std.proofs.Common.{◌≡◌, ℕ, ◌+◌, ◌<◌, ◌≤◌, Option, Some, None, arith}
use Rattle.ab_search_ways.specs.declared.way.Way.{Way}
use Rattle.ab_next_ways.specs.Stages.{at_hypothesis, at_maps, LedOnward}
use Rattle.ab_next_ways.specs.Steps.{step_of, behind_choice, behind_rule}
use Rattle.ab_next_ways.specs.declared.cursor.Cursor.TheVariants.{Start, Hypothesis, Form, Second, Choice, Rule}

module _ (n : ℕ) where
  -- from a hypothesis: where the ways are over, to those by the form, to its maps, and to the next one
  pub to_end : (i : ℕ) → 0 < at_hypothesis n i
  to_end i = omega arith

  pub to_form : (i : ℕ) → 4 < at_hypothesis n i
  to_form i = omega arith

  pub to_maps : (i : ℕ) → at_maps n i < at_hypothesis n i
  to_maps i = omega arith

  pub to_next : (i k : ℕ) → i < n → k ≡ i + 1 → at_hypothesis n k < at_hypothesis n i
  to_next i k l e = omega (arith, l, e)

  -- and from the last map
  pub behind_maps : (i k : ℕ) → i < n → k ≡ i + 1 → at_hypothesis n k ≤ at_maps n i
  behind_maps i k l e = omega (arith, l, e)

  pub start_led : (o : Option Way) → LedOnward n Start (Hypothesis 0) (step_of o)
  start_led None = omega arith
  start_led (Some way) = omega arith

  pub form_led : (o : Option Way) → LedOnward n Form Second (step_of o)
  form_led None = omega arith
  form_led (Some way) = omega arith

  pub second_led : (o : Option Way) → LedOnward n Second (Choice 0) (step_of o)
  second_led None = omega arith
  second_led (Some way) = omega arith

  pub choice_led : (k : ℕ) (o : Option Way) → LedOnward n (Choice k) (behind_choice o k) (step_of o)
  choice_led k None = omega arith
  choice_led k (Some way) = omega arith

  pub rule_led : (k : ℕ) (o : Option Way) → LedOnward n (Rule k) (behind_rule o k) (step_of o)
  rule_led k None = omega arith
  rule_led k (Some way) = omega arith
