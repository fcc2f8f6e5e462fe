-- A PLACE IN A LATER WORLD with the same cells: what it stands for stays, and so do the leaves that are still to come.
use Rattle.std.specs.List.{All}
use Rattle.std.specs.Prelude.{Contains, slice_get}
use Rattle.std.proofs.Common.{◌≡◌, ℕ, ◌+◌, List, [], ◌∷◌, ◌++◌, Some, refl, sym, ◌∙◌, ap, subst}
use Rattle.std.proofs.lemmas.List.Elements.{All-head, All-tail, All-weaker}
use Rattle.ab_term.specs.Terms.{Nominal}
use Rattle.ab_term.specs.Variables.{Substitution}
use Rattle.ab_term.specs.Names.{support}
use Rattle.ab_norm.specs.ab_types.specs.Entries.{Table, IsExtendedBy as IsPartOf}
use Rattle.ab_norm.specs.ab_store.specs.declared.node.TermId.{TermId}
use Rattle.ab_norm.specs.ab_store.specs.declared.node.CellId.{CellId}
use Rattle.ab_norm.specs.declared.nominal.Nominal.{Nominal as Named}
use Rattle.ab_unify.specs.Problem.{cells_read}
use Rattle.ab_unifiers.specs.Choices.{in_order}
use Rattle.ab_unifiers.specs.Replacements.{Cell}
use Rattle.ab_next_ways.specs.ab_judgements.specs.ab_alternatives.specs.ab_instances.specs.ListReadings.{names_read}
use Rattle.ab_next_ways.specs.ab_judgements.specs.ab_alternatives.specs.ab_instances.proofs.Made.{names_stay, names_held}
use Rattle.ab_formulas.specs.Declarations.{Declarations, signature_in}
use Rattle.ab_logic.specs.Worlds.{declarations_of}
use Rattle.ab_logic.specs.declared.world.World.{World}
use Rattle.ab_logic.proofs.Growing.{map_same}
use Rattle.ab_search_trees.specs.Goals.{Goal, Now}
use Rattle.ab_search_trees.specs.Maps.{targets}
use Rattle.ab_search_trees.specs.Ways.{Way}
use Rattle.ab_search_trees.specs.Tree.{Leaf}
use Rattle.ab_search_trees.proofs.Facts.{AllTasks}
use Rattle.ab_next_ways.specs.ab_search_ways.specs.GoalReadings.{goal_read, HoldsGoal, IsAside}
use Rattle.ab_next_ways.specs.ab_search_ways.specs.declared.goal.Goal.{Goal as Kept}
use Rattle.ab_next_ways.specs.ab_search_ways.specs.declared.way.Place.{Place}
use Rattle.ab_next_ways.specs.ab_search_ways.proofs.LaterWorlds.{later_variables, all_free, all_aside, later_goal, goal_same}
use Rattle.ab_next_ways.specs.ab_search_ways.proofs.PlacesKept.{values_later}
use Rattle.ab_next_ways.specs.Cursors.{AreLeft, HoldsMap, HoldsCursor, by_maps, by_hypotheses_from}
use Rattle.ab_next_ways.specs.declared.cursor.Cursor.{Cursor}
use Rattle.ab_next_ways.specs.declared.cursor.Cursor.TheVariants.{Start, Hypothesis, Map, Form, Second, Choice, Rule, End}
use Rattle.ab_walk.specs.Paths.{IsTaken}
use Rattle.ab_walk.specs.Places.{goals_read, IsSearched}
use Rattle.ab_walk.specs.Standing.{AreLeaves, LeftAt, IsOpen, IsLater}

-- the same of declarations and goals that are the same
pub leaves_for : (now : Now) (types : Table) (D E : Declarations) → D ≡ E → (g h : Goal) → g ≡ h → (gs hs : List Goal) → gs ≡ hs → (c : Cursor) (ls : List Leaf) (n : ℕ) → AreLeaves E now types h hs c ls n → AreLeaves D now types g gs c ls n
leaves_for now types D E d g h e gs hs f c ls n a =
    subst (λ F. AreLeaves F now types g gs c ls n) (sym d) (subst (λ k. AreLeaves E now types k gs c ls n) (sym e) (subst (λ ks. AreLeaves E now types h ks c ls n) (sym f) a))

pub taken_for : (now : Now) (D E : Declarations) → D ≡ E → (g h : Goal) → g ≡ h → (c : Cursor) (way : Way) (more : List (Cell (List ℕ))) (q : Substitution ℕ (List ℕ)) → IsTaken E now h c way more q → IsTaken D now g c way more q
taken_for now D E d g h e c way more q t = subst (λ F. IsTaken F now g c way more q) (sym d) (subst (λ k. IsTaken E now k c way more q) (sym e) t)

-- what a cursor names stays where types are added
module _ (w v : World) (part : IsPartOf w.types v.types) (base : List TermId) (k : Kept) (same : goal_read v base k ≡ goal_read w base k) where
  map_carried : (i : ℕ) (bs ns : List Named) → HoldsMap w base k i bs ns → HoldsMap v base k i bs ns
  map_carried i bs ns h = record {
    named = names_held w.types v.types part bs h.named;
    held = names_held w.types v.types part ns h.held;
    hypothesis = h.hypothesis;
    there = subst (λ (g : Goal). slice_get g.hypotheses i ≡ Some h.hypothesis) (sym same) h.there;
    all = names_stay w.types v.types part bs h.named ∙ h.all;
    among =
        subst (λ l. Contains (targets (in_order (support h.hypothesis)) l) (names_read v.types ns)) (sym (ap (λ (g : Goal). g.constants) same))
        (subst (Contains (targets (in_order (support h.hypothesis)) (names_read w.types k.constants.items))) (sym (names_stay w.types v.types part ns h.held)) h.among);
  }

  pub cursor_carried : (c : Cursor) → HoldsCursor w base k c → HoldsCursor v base k c
  cursor_carried Start h = tt
  cursor_carried (Hypothesis i) h = tt
  cursor_carried (Map i names ns) h = map_carried i names.items ns.items h
  cursor_carried Form h = tt
  cursor_carried Second h = tt
  cursor_carried (Choice i) h = tt
  cursor_carried (Rule i) h = tt
  cursor_carried End h = tt

  pub left_carried : (D : Declarations) (now : Now) (g : Goal) (ws : List Way) (c : Cursor) → HoldsCursor w base k c → AreLeft D now g w.types c ws → AreLeft D now g v.types c ws
  left_carried D now g ws Start h l = l
  left_carried D now g ws (Hypothesis i) h l = l
  left_carried D now g ws (Map i names ns) h l = (
    l.0,
    l.1,
    names_stay w.types v.types part names.items h.named ∙ l.2,
    l.3,
    l.4,
    l.5 ∙ ap (λ (x : List Nominal). l.3 ++ x ∷ l.4) (sym (names_stay w.types v.types part ns.items h.held)),
    l.6 ∙ ap (λ (x : List Nominal). by_maps D now g l.0 (x ∷ l.4) ++ by_hypotheses_from D now g (i + 1)) (sym (names_stay w.types v.types part ns.items h.held)),
  )
  left_carried D now g ws Form h l = l
  left_carried D now g ws Second h l = l
  left_carried D now g ws (Choice i) h l = l
  left_carried D now g ws (Rule i) h l = l
  left_carried D now g ws End h l = l

-- so it is in a later world
module _ (w v : World) (later : IsLater w v) where
  pub goals_same : (flexible : List CellId) (base : List TermId) → All (IsAside w flexible) base → (ks : List Kept) → All (HoldsGoal w) ks → goals_read v base ks ≡ goals_read w base ks
  goals_same flexible base aside ks held = map_same (goal_read v base) (goal_read w base) (HoldsGoal w) (λ k h. goal_same w v later.grows flexible base aside k h) ks held

  pub goals_held : (ks : List Kept) → All (HoldsGoal w) ks → All (HoldsGoal v) ks
  goals_held ks held = All-weaker (HoldsGoal w) (HoldsGoal v) (later_goal w v later.grows) ks held

  pub tasks_later : (now : Now) (gs hs : List Goal) → hs ≡ gs → AllTasks (signature_in (declarations_of w)) now gs → AllTasks (signature_in (declarations_of v)) now hs
  tasks_later now gs hs same t = subst (λ D. AllTasks (signature_in D) now hs) (sym later.declared) (subst (AllTasks (signature_in (declarations_of w)) now) (sym same) t)

  module _ (cells : cells_read v.types v.store ≡ cells_read w.types w.store) where
    pub searched_later : (base : List TermId) (p : Place) (now : Now) → IsSearched w base p now → IsSearched v base p now
    searched_later base p now s =
        let stands = s.place.variables in
        record {
          place = record {
            variables = record {
              cells = cells ∙ stands.cells;
              replaced = later_variables w v later.grows p.flexible.items stands.free ∙ stands.replaced;
              free = all_free w v later.grows p.flexible.items stands.free;
            };
            aside = all_aside w v later.grows p.flexible.items base s.place.aside;
            reads = refl;
            held = goals_held p.goals s.place.held;
          };
          flexible = s.flexible;
          tasks = tasks_later now (goals_read w base p.goals) (goals_read v base p.goals) (goals_same p.flexible.items base s.place.aside p.goals s.place.held) s.tasks;
          answer = values_later w v later.grows p.answer.items s.answer;
        }

    left_at_later : (flexible : List CellId) (base : List TermId) → All (IsAside w flexible) base → (now : Now) (ks : List Kept) → All (HoldsGoal w) ks → (c : Cursor) (ls : List Leaf) (n : ℕ) → LeftAt w base now ks c ls n → LeftAt v base now ks c ls n
    left_at_later flexible base aside now [] held c ls n l = l
    left_at_later flexible base aside now (k ∷ ks) held c ls n l =
        let D = declarations_of w in
        let part = later.grows.types in
        let same = goal_same w v later.grows flexible base aside k (All-head (HoldsGoal w) k ks held) in
        let rest = goals_same flexible base aside ks (All-tail (HoldsGoal w) k ks held) in
        let at = l.1 in (
          cursor_carried w v part base k same c l.0,
          leaves_for now v.types (declarations_of v) D later.declared (goal_read v base k) (goal_read w base k) same (goals_read v base ks) (goals_read w base ks) rest c ls n
              (record { passed = at.passed; ways = at.ways; among = at.among; front = at.front; left = left_carried w v part base k same D now (goal_read w base k) at.ways c l.0 at.left; fine = at.fine; turns = at.turns; by = at.by; all = at.all; many = at.many }),
        )

    pub open_later : (base : List TermId) (now : Now) (p : Place) (c : Cursor) (ls : List Leaf) (n : ℕ) → IsOpen w base now p c ls n → IsOpen v base now p c ls n
    open_later base now p c ls n o =
        let s = o.0 in
        (searched_later base p now s, left_at_later p.flexible.items base s.place.aside now p.goals s.place.held c ls n o.1)
