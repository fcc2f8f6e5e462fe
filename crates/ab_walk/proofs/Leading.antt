-- THE PLACES OF A STACK LEAD from where the walk began to the last one, in later worlds too; and where no goal is left there, to an answer.
use Rattle.std.specs.List.{All}
use Rattle.std.proofs.Common.{◌≡◌, List, [], ◌∷◌, ◌++◌, map, refl, sym, ◌∙◌, ap, subst, append_assoc}
use Rattle.std.proofs.lemmas.List.Elements.{All-map, All-weaker}
use Rattle.ab_norm.specs.ab_store.specs.declared.node.TermId.{TermId}
use Rattle.ab_norm.specs.ab_store.specs.declared.node.CellId.{CellId}
use Rattle.ab_norm.specs.ab_store.specs.Trees.{HoldsCell}
use Rattle.ab_norm.specs.ab_store.specs.Reading.{cell_variable}
use Rattle.ab_formulas.specs.Sequents.{Variable as Known}
use Rattle.ab_logic.specs.Worlds.{declarations_of}
use Rattle.ab_logic.specs.declared.world.World.{World}
use Rattle.ab_logic.proofs.Growing.{map_same}
use Rattle.ab_search_trees.specs.Goals.{Now, goal_under}
use Rattle.ab_search_trees.specs.Ways.{Way}
use Rattle.ab_search_trees.specs.Tree.{now_after}
use Rattle.ab_next_ways.specs.ab_search_ways.specs.Answers.{HoldsValue}
use Rattle.ab_next_ways.specs.ab_search_ways.specs.GoalReadings.{goal_read}
use Rattle.ab_next_ways.specs.ab_search_ways.specs.declared.way.Place.{Place}
use Rattle.ab_next_ways.specs.ab_search_ways.specs.declared.way.Value.{Value}
use Rattle.ab_next_ways.specs.ab_search_ways.proofs.LaterWorlds.{later_variables}
use Rattle.ab_walk.specs.Paths.{IsTaken, HasValuesFor, StandsAt, AreWay, at_answer, by_way}
use Rattle.ab_walk.specs.Places.{goals_read, IsSearched}
use Rattle.ab_walk.specs.Standing.{IsLater}
use Rattle.ab_walk.specs.Stacks.{Beginning, LeadTo, at_first, led_on}
use Rattle.ab_walk.specs.declared.frames.Frame.{Frame}
use Rattle.ab_walk.proofs.LaterPlaces.{goals_same}
use Rattle.ab_walk.proofs.WorldsAgain.{later_on}

module _ (base : List TermId) (w v : World) (later : IsLater w v) where
  -- what a place in the tree stands for stays

  goals_stay : (p : Place) (now : Now) → IsSearched w base p now → goals_read v base p.goals ≡ goals_read w base p.goals
  goals_stay p now s = goals_same w v later p.flexible.items base s.place.aside p.goals s.place.held

  pub stands_there : (p : Place) (now : Now) → IsSearched w base p now → StandsAt v base p now (goals_read w base p.goals)
  stands_there p now s = record {
    goals = goals_stay p now s;
    flexible = later_variables w v later.grows p.flexible.items s.place.variables.free ∙ s.place.variables.replaced;
  }

  abbrev cell_of : Value → CellId
  cell_of x = x.cell

  values_stay : (way : Way) (p : Place) → All (HoldsValue w.types w.store) p.answer.items → HasValuesFor w way p → HasValuesFor v way p
  values_stay way p held e =
      map_same (cell_variable v.types v.store) (cell_variable w.types w.store) (HoldsCell w.store) (λ c h. ap (λ (x : Known). record { name = x.number; type = x.type }) (later.grows.cells c h))
      (map cell_of p.answer.items) (All-map (HoldsCell w.store) cell_of p.answer.items (All-weaker (HoldsValue w.types w.store) (λ (x : Value). HoldsCell w.store x.cell) (λ x h. h.cell) p.answer.items held))
      ∙ e

module _ (first : Beginning) (base : List TermId) where
  -- the last place in a later world
  pub lead_later : (w v : World) → IsLater w v → {fs : List Frame} {p : Place} {now : Now} → IsSearched w base p now → LeadTo first base w fs p now → LeadTo first base v fs p now
  lead_later w v later s (at_first {p = p} e) = at_first (goals_stay base w v later p first.now s ∙ e)
  lead_later w v later s (led_on {u = u} {now = now} f p way more q before l at led) =
      led_on f p way more q (later_on u w v before later) l at
      (record {
        first = led.first;
        behind = led.behind;
        goals = led.goals;
        taken = led.taken;
        left = goals_stay base w v later p (now_after now way more q) s ∙ led.left;
        values = values_stay base w v later way p s.answer led.values;
      })

  -- ALL THE WAY to the answer
  pub way_there : {w : World} {fs : List Frame} {p : Place} {now : Now} (f : Frame) (tail : List Frame) (v : World) (last : Now) → f.place ≡ p → IsLater w v → LeadTo first base w fs p now → IsSearched w base p now
      → AreWay v base last now (goals_read w base p.goals) (f ∷ tail) → AreWay v base last first.now first.goals (fs ++ f ∷ tail)
  way_there f tail v last place later (at_first e) s rest = subst (λ gs. AreWay v base last first.now gs (f ∷ tail)) e rest
  way_there f tail v last place later (led_on {u = u} {w = w} {fs = fs} {now = now} g p way more q before l at led) s rest =
      let from_there = later_on u w v before later in
      let goals : goals_read u base g.place.goals ≡ goal_read u base led.first ∷ goals_read u base led.behind = ap (goals_read u base) led.goals in
      let next : AreWay v base last (now_after now way more q) (map (goal_under q) (way.goals ++ goals_read u base led.behind)) (f ∷ tail) =
      subst (λ gs. AreWay v base last (now_after now way more q) gs (f ∷ tail)) led.left rest in
      let values : HasValuesFor v way f.place = subst (HasValuesFor v way) (sym place) (values_stay base w v later way p s.answer led.values) in
      let stands : StandsAt v base g.place now (goal_read u base led.first ∷ goals_read u base led.behind) = subst (StandsAt v base g.place now) goals (stands_there base u v from_there g.place now at) in
      let taken : IsTaken (declarations_of v) now (goal_read u base led.first) g.cursor way more q = subst (λ E. IsTaken E now (goal_read u base led.first) g.cursor way more q) (sym from_there.declared) led.taken in
      let here : AreWay v base last now (goals_read u base g.place.goals) (g ∷ f ∷ tail) =
      subst (λ gs. AreWay v base last now gs (g ∷ f ∷ tail)) (sym goals) (by_way g f way more q stands taken values next) in
      subst (AreWay v base last first.now first.goals) (sym (append_assoc fs (g ∷ []) (f ∷ tail))) (way_there g (f ∷ tail) v last refl from_there l at here)

-- where no goal is left
pub closed_last : (base : List TermId) (w v : World) → IsLater w v → (now : Now) (f : Frame) → IsSearched w base f.place now → f.place.goals ≡ [] → AreWay v base now now (goals_read w base f.place.goals) (f ∷ [])
closed_last base w v later now f s e =
    let none : goals_read w base f.place.goals ≡ [] = ap (goals_read w base) e in
    subst (λ gs. AreWay v base now now gs (f ∷ [])) (sym none) (at_answer f (subst (StandsAt v base f.place now) none (stands_there base w v later f.place now s)))
