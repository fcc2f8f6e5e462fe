-- A world once what was added is cut off, or what was bound is undone.
use Rattle.std.proofs.Common.{◌≡◌, ◌≤◌, length, take, ◌∙◌}
use Rattle.ab_norm.specs.ab_types.specs.Entries.{Table}
use Rattle.ab_norm.specs.ab_store.specs.declared.mark.Mark.{Mark}
use Rattle.ab_norm.specs.ab_store.specs.Marks.{HasMark, KeepsMark, IsNoLater, at_mark}
use Rattle.ab_norm.specs.ab_store.specs.Naming.{IsTypedBy}
use Rattle.ab_norm.specs.ab_store.specs.Trees.{Contents}
use Rattle.ab_unify.specs.Problem.{cells_read}
use Rattle.ab_unify.specs.StoreChanges.{Grows}
use Rattle.ab_unify.proofs.Cut.{cut_as_before, cut_grows}
use Rattle.ab_unify.specs.UnifyAnswers as answers
use Rattle.ab_logic.specs.Worlds.{IsWorld}
use Rattle.ab_logic.specs.declared.world.World.{World}
use Rattle.ab_alternatives.specs.CaseSteps.{IsLater}
use Rattle.ab_alternatives.specs.ab_equations.proofs.Restored as restored
use Rattle.ab_alternatives.proofs.Tried.{grown_to, declared_to}

module _ (w x : World) (is : IsWorld w) (additions : x.additions ≡ w.additions) (g : Grows w.types w.store x.types x.store) (m : Mark) (has : HasMark w.store m) (X : Contents) where
  abbrev pub with_store : World
  with_store = record { types = x.types; store = X; additions = x.additions }

  module _ (b : m.bindings ≡ length w.store.bindings) (n : m.nodes ≡ length w.store.nodes) (c : m.cells ≡ length w.store.cells) (typed : (types : Table) → IsTypedBy types w.store → IsTypedBy types (at_mark w.store m))
      (bindings : X.bindings ≡ take m.bindings x.store.bindings) (nodes : X.nodes ≡ take m.nodes x.store.nodes) (cells : X.cells ≡ take m.cells x.store.cells)
      (back : (types : Table) → IsTypedBy types (at_mark x.store m) → IsTypedBy types X) (marks : (k : Mark) → HasMark x.store k → IsNoLater k m → KeepsMark x.store X k) where
    before : answers.IsAsBefore w.store X
    before = cut_as_before w.types x.types w.store x.store X m is.typed g has b n c bindings nodes cells

    grown : Grows w.types w.store x.types X
    grown = cut_grows w.types x.types w.store x.store X m is.typed g has b n c bindings nodes cells typed back marks

    pub cut_later : IsLater w with_store
    cut_later = record {
      grown = grown;
      additions = additions;
      grows = grown_to w with_store is additions grown (before.2 ∙ is.unbound);
      declared = declared_to w with_store is additions grown;
    }

    pub cut_cells : cells_read x.types X ≡ cells_read w.types w.store
    cut_cells = restored.same_cells_read w.types x.types w.store X is.typed g.table before.1

  module _ (start : m.bindings ≡ length w.store.bindings) (nodes : X.nodes ≡ x.store.nodes) (cells : X.cells ≡ x.store.cells) (bindings : X.bindings ≡ take m.bindings x.store.bindings)
      (typed : IsTypedBy x.types X) (marks : (k : Mark) → HasMark x.store k → k.bindings ≤ m.bindings → KeepsMark x.store X k) where
    undone : Grows w.types w.store x.types X
    undone = restored.undone_grows w.types x.types w.store x.store X g m has start nodes cells bindings typed marks

    pub undone_later : IsLater w with_store
    undone_later = record {
      grown = undone;
      additions = additions;
      grows = grown_to w with_store is additions undone (restored.undone_bindings w.types x.types w.store x.store X g m has start nodes cells bindings typed marks ∙ is.unbound);
      declared = declared_to w with_store is additions undone;
    }
