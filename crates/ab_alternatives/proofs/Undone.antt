-- A world once what was bound is undone.
use Rattle.std.proofs.Common.{◌≡◌, ◌≤◌, ◌<◌, List, take, length, sym, ◌∙◌, ap, subst}
use Rattle.ab_norm.specs.ab_store.specs.declared.node.TermId.{TermId}
use Rattle.ab_norm.specs.ab_store.specs.declared.node.Node.{Node}
use Rattle.ab_norm.specs.ab_store.specs.declared.mark.Mark.{Mark}
use Rattle.ab_norm.specs.ab_store.specs.Marks.{HasMark, KeepsMark}
use Rattle.ab_norm.specs.ab_store.specs.Naming.{IsTypedBy}
use Rattle.ab_norm.specs.ab_store.specs.Trees.{Contents}
use Rattle.ab_unify.specs.StoreChanges.{Grows}
use Rattle.ab_unify.specs.Problem.{cells_read}
use Rattle.ab_instances.proofs.Bound.{same_tree}
use Rattle.ab_logic.specs.WorldGrowth as world
use Rattle.ab_formulas.specs.Sequents.{proving}
use Rattle.ab_logic.specs.Worlds.{IsWorld, Holds, read, declarations_of}
use Rattle.ab_logic.specs.SequentReadings.{sequent_of, HoldsSequent}
use Rattle.ab_logic.specs.declared.world.World.{World}
use Rattle.ab_logic.specs.declared.sequent.Sequent.{Sequent as Kept}
use Rattle.ab_equations.proofs.Going.{world_meanwhile}
use Rattle.ab_equations.proofs.Restored.{came_back, declarations_same, goal_same, goal_held, undone_grows, undone_bindings}
use Rattle.ab_theory.specs.Atoms.{Defined, Choice}
use Rattle.ab_alternatives.specs.RightAlternatives.{Unfolds, IsUnfolded}

module _ (w x : World) (is : IsWorld w) (additions : x.additions ≡ w.additions) (g : Grows w.types w.store x.types x.store) (m : Mark) (has : HasMark w.store m) (start : m.bindings ≡ length w.store.bindings)
    (X : Contents) (nodes : X.nodes ≡ x.store.nodes) (cells : X.cells ≡ x.store.cells) (bindings : X.bindings ≡ take m.bindings x.store.bindings) (typed : IsTypedBy x.types X)
    (marks : (k : Mark) → HasMark x.store k → k.bindings ≤ m.bindings → KeepsMark x.store X k) where
  abbrev pub undone : World
  undone = record { types = x.types; store = X; additions = x.additions }

  grows : Grows w.types w.store x.types X
  grows = undone_grows w.types x.types w.store x.store X g m has start nodes cells bindings typed marks

  pub grown : world.Grows w undone
  grown = came_back w undone is (record { grows = grows; bindings = undone_bindings w.types x.types w.store x.store X g m has start nodes cells bindings typed marks; additions = additions })

  pub told : declarations_of undone ≡ declarations_of w
  told = declarations_same w undone (world_meanwhile w is) grows additions

  pub still : (s : Kept) → HoldsSequent w s → HoldsSequent undone s
  still s held = goal_held w undone (world_meanwhile w is) grows additions s held

  pub term_held : (t : TermId) → Holds x t → Holds undone t
  term_held t h = subst (λ (ns : List Node). t.0 < length ns) (sym nodes) h

  -- what the goal becomes
  pub goal_is : (s p : Kept) → HoldsSequent w s → (d : Defined) (c : Choice) (t : TermId) → sequent_of undone p ≡ proving (read undone t) (sequent_of undone s)
      → Unfolds (cells_read w.types w.store) (sequent_of w s) d c x.types x.store t → IsUnfolded (cells_read w.types w.store) (sequent_of w s) d c (sequent_of undone p)
  goal_is s p held d c t e u = (
    u.0,
    u.1,
    u.2,
    e ∙ ap (proving (read undone t)) (goal_same w undone (world_meanwhile w is) grows additions s held) ∙ ap (λ F. proving F (sequent_of w s)) (same_tree x.types x.store X nodes cells t ∙ u.3),
  )
