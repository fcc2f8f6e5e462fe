-- The problem of a way that is made; and a place of the tree once what was bound is undone.
use Rattle.std.specs.Prelude.{Contains}
use Rattle.std.proofs.Common.{◌≡◌, ◌<◌, ◌≤◌, List, [], map, take, length, sym, ◌∙◌, ap, subst}
use Rattle.std.proofs.lemmas.List.Elements.{All-weaker}
use Rattle.ab_term.specs.Types.{prop}
use Rattle.ab_term.specs.Variables.{variables}
use Rattle.ab_norm.specs.ab_types.specs.Ids.{type_of}
use Rattle.ab_norm.specs.ab_store.specs.declared.node.CellId.{CellId}
use Rattle.ab_norm.specs.ab_store.specs.declared.node.CellEntry.{CellEntry}
use Rattle.ab_norm.specs.ab_store.specs.declared.node.TermId.{TermId}
use Rattle.ab_norm.specs.ab_store.specs.declared.node.Node.{Node}
use Rattle.ab_norm.specs.ab_store.specs.declared.node.Equation.{Equation}
use Rattle.ab_norm.specs.ab_store.specs.declared.mark.Mark.{Mark}
use Rattle.ab_norm.specs.ab_store.specs.Marks.{HasMark, KeepsMark}
use Rattle.ab_norm.specs.ab_store.specs.Naming.{IsTypedBy}
use Rattle.ab_norm.specs.ab_store.specs.Trees.{Contents, cell_in, tree_of}
use Rattle.ab_norm.specs.ab_store.specs.Reading.{bound_in}
use Rattle.ab_unifiers.specs.Unifiers.{given}
use Rattle.ab_unify.specs.Problem.{cell_read, variables_read, equations_read, problem}
use Rattle.ab_unify.specs.StoreChanges.{Grows, IsFree}
use Rattle.ab_instances.proofs.Bound.{same_tree, same_term}
use Rattle.ab_logic.specs.WorldGrowth as world
use Rattle.ab_logic.specs.Worlds.{IsWorld, Holds, read, declarations_of}
use Rattle.ab_logic.specs.declared.world.World.{World}
use Rattle.ab_equations.proofs.Going.{world_meanwhile}
use Rattle.ab_equations.proofs.Restored.{came_back, declarations_same, undone_grows, undone_bindings}
use Rattle.ab_search_trees.specs.Goals as tree
use Rattle.ab_search_trees.specs.Goals.{Now}
use Rattle.ab_search_trees.specs.Ways as trees
use Rattle.ab_search_trees.specs.Tree.{problem_of}
use Rattle.ab_search_ways.specs.GoalReadings.{goal_by, goal_read, HoldsGoal, IsAside, IsPlace}
use Rattle.ab_search_ways.specs.MadeWays.{IsMade, IsTried}
use Rattle.ab_search_ways.specs.declared.goal.Goal.{Goal}
use Rattle.ab_search_ways.specs.declared.way.Way.{Way}
use Rattle.ab_search_ways.specs.declared.way.Tried.{Tried}
use Rattle.ab_search_ways.specs.declared.way.Tried.TheVariants.{Apart, Stuck, Refused, Ahead}

pub posed : (w : World) (base : List TermId) (way : trees.Way) (made : Way) → IsMade w base way made → (es : List Equation) (fs : List CellId) → es ≡ made.equations.items → fs ≡ made.flexible.items
    → problem w.types w.store es fs ≡ problem_of way
posed w base way made m es fs e f = λ i. given ((ap (equations_read w.types w.store) e ∙ m.equations) i) (m.cells i) ((ap (variables_read w.types w.store) f ∙ m.replaced) i)

module _ (w x : World) (is : IsWorld w) (additions : x.additions ≡ w.additions) (g : Grows w.types w.store x.types x.store) (m : Mark) (has : HasMark w.store m) (start : m.bindings ≡ length w.store.bindings)
    (X : Contents) (nodes : X.nodes ≡ x.store.nodes) (cells : X.cells ≡ x.store.cells) (bindings : X.bindings ≡ take m.bindings x.store.bindings) (typed : IsTypedBy x.types X)
    (marks : (k : Mark) → HasMark x.store k → k.bindings ≤ m.bindings → KeepsMark x.store X k) where
  abbrev pub undone : World
  undone = record { types = x.types; store = X; additions = x.additions }

  grows : Grows w.types w.store x.types X
  grows = undone_grows w.types x.types w.store x.store X g m has start nodes cells bindings typed marks

  same_bindings : X.bindings ≡ w.store.bindings
  same_bindings = undone_bindings w.types x.types w.store x.store X g m has start nodes cells bindings typed marks

  pub grown : world.Grows w undone
  grown = came_back w undone is (record { grows = grows; bindings = same_bindings; additions = additions })

  pub told : declarations_of undone ≡ declarations_of w
  told = declarations_same w undone (world_meanwhile w is) grows additions

  same_read : (t : TermId) → read undone t ≡ read x t
  same_read t = same_tree x.types x.store X nodes cells t

  free_still : (c : CellId) → IsFree x.store c → IsFree X c
  free_still c f = (subst (λ (k : List CellEntry). c.0 < length k) (sym cells) f.0, ap (λ bs. bound_in bs c) (same_bindings ∙ is.unbound))

  held_still : (t : TermId) → Holds x t → Holds undone t
  held_still t h = subst (λ (ns : List Node). t.0 < length ns) (sym nodes) h

  aside_still : (flexible : List CellId) (t : TermId) → IsAside x flexible t → IsAside undone flexible t
  aside_still flexible t a = record {
    formula = same_term x.types x.store X nodes cells [] t prop a.formula;
    apart = λ y c. a.apart y (subst (λ r. Contains (variables r) y) (same_read t) c);
  }

  goal_still : (k : Goal) → HoldsGoal x k → HoldsGoal undone k
  goal_still k h = record { added = All-weaker (Holds x) (Holds undone) held_still k.added.items h.added; conclusion = held_still k.conclusion h.conclusion; constants = h.constants; once = h.once }

  goals_same : (base : List TermId) (gs : List Goal) → map (goal_read undone base) gs ≡ map (goal_read x base) gs
  goals_same base gs =
      let over : List Node → List CellEntry → List tree.Goal = λ ns cs. let s : Contents = record { nodes = ns; cells = cs; bindings = X.bindings; room = X.room } in map (goal_by (tree_of x.types s) x.types (map (tree_of x.types s) base)) gs in
      ap (λ ns. over ns X.cells) nodes ∙ ap (λ cs. over x.store.nodes cs) cells

  place_still : (base : List TermId) (flexible : List CellId) (goals : List Goal) (now : Now) (gs : List tree.Goal) → IsPlace x base flexible goals now gs → IsPlace undone base flexible goals now gs
  place_still base flexible goals now gs p = record {
    variables = record {
      cells = ap (map (cell_read x.types)) cells ∙ p.variables.cells;
      replaced = ap (λ (k : List CellEntry). map (λ (c : CellId). record { name = c.0; type = type_of x.types (cell_in k c).ty }) flexible) cells ∙ p.variables.replaced;
      free = All-weaker (IsFree x.store) (IsFree X) free_still flexible p.variables.free;
    };
    aside = All-weaker (IsAside x flexible) (IsAside undone flexible) (aside_still flexible) base p.aside;
    reads = goals_same base goals ∙ p.reads;
    held = All-weaker (HoldsGoal x) (HoldsGoal undone) goal_still goals p.held;
  }

  pub tried_still : (base : List TermId) (now : Now) (way : trees.Way) (gs : List tree.Goal) (t : Tried) → IsTried x base now way gs t → IsTried undone base now way gs t
  tried_still base now way gs Apart k = k
  tried_still base now way gs (Stuck i) k = k
  tried_still base now way gs Refused k = k
  tried_still base now way gs (Ahead p) k = (k.0, k.1, k.2, k.3, place_still base p.flexible.items p.goals _ _ k.4)
