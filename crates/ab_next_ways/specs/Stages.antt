-- HOW FAR the search of a goal stands on its row of ways, where the goal has n hypotheses: by a number that falls as it goes on.
use Rattle.std.specs.Prelude.{ℕ, ◌+◌, ◌-◌, ◌*◌, ◌<◌, ◌≤◌}
use Rattle.ab_next_ways.specs.declared.cursor.Cursor.{Cursor}
use Rattle.ab_next_ways.specs.declared.cursor.Cursor.TheVariants.{Start, Hypothesis, Map, Form, Second, Choice, Rule, End}
use Rattle.ab_next_ways.specs.declared.next_ways.Step.{Step}
use Rattle.ab_next_ways.specs.declared.next_ways.Step.TheVariants.{Made, Passed, Ended}

module _ (n : ℕ) where
  -- at the hypothesis of this number, and at its maps
  abbrev pub at_hypothesis : ℕ → ℕ
  at_hypothesis i = 2 * (n - i) + 6

  abbrev pub at_maps : ℕ → ℕ
  at_maps i = 2 * (n - i) + 5

  abbrev pub stage : Cursor → ℕ
  stage Start = 2 * n + 7
  stage (Hypothesis i) = at_hypothesis i
  stage (Map i names ns) = at_maps i
  stage Form = 4
  stage Second = 3
  stage (Choice k) = 2
  stage (Rule k) = 1
  stage End = 0

  -- THE TURN LED ONWARD: to a later stage where no way was made, and to none that is earlier where one was
  abbrev pub LedOnward : Cursor → Cursor → Step → Type 0
  LedOnward c d (Made way) = stage d ≤ stage c
  LedOnward c d Passed = stage d < stage c
  LedOnward c d Ended = Unit {0}
