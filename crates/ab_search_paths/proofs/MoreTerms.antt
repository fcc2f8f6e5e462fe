-- Worlds to which terms were added.
use Rattle.std.proofs.Common.{◌≡◌, ◌<◌, ◌≤◌, List, take, length, refl, sym, ◌∙◌, subst}
use Rattle.std.specs.Prelude.{All}
use Rattle.std.proofs.lemmas.List.Elements.{All-weaker}
use Rattle.ab_norm.specs.ab_store.specs.declared.mark.Mark.{Mark}
use Rattle.ab_norm.specs.ab_store.specs.declared.node.TermId.{TermId}
use Rattle.ab_norm.specs.ab_store.specs.declared.node.Node.{Node}
use Rattle.ab_norm.specs.ab_store.specs.declared.node.Head.{Head}
use Rattle.ab_norm.specs.ab_store.specs.declared.node.Head.TheVariants.{Const, Logic, Nominal, Cell, Index}
use Rattle.ab_norm.specs.ab_store.specs.Growth.{IsExtendedBy}
use Rattle.ab_norm.specs.ab_store.specs.Marks.{HasMark, KeepsMark}
use Rattle.ab_norm.specs.ab_store.specs.Naming.{HoldsHead, IsTypedBy}
use Rattle.ab_norm.specs.ab_store.specs.Trees.{Contents}
use Rattle.ab_norm.specs.ab_store.proofs.Growing.{extended_itself}
use Rattle.ab_norm.specs.ab_types.specs.Entries.{Table}
use Rattle.ab_norm.specs.NodeGrowth.{AddsTypedTerms}
use Rattle.ab_norm.specs.Nominals.{HoldsNominal}
use Rattle.ab_norm.specs.declared.nominal.Nominal.{Nominal as Name}
use Rattle.ab_unify.specs.StoreChanges as changed
use Rattle.ab_logic.specs.Worlds.{IsWorld, Holds}
use Rattle.ab_logic.specs.WorldGrowth.{Grows}
use Rattle.ab_logic.specs.declared.world.World.{World}
use Rattle.ab_logic.proofs.Growing.{grows_on, grows_store}
use Rattle.ab_logic.proofs.Declared.{declared_same}
use Rattle.ab_walk.specs.ab_next_ways.specs.ab_judgements.specs.ab_alternatives.specs.ab_equations.proofs.Restored.{came_back, undone_grows, undone_bindings}
use Rattle.ab_search_paths.specs.MoreTerms.{GotTerms}

pub got : (w v : World) → IsWorld w → Grows w v → v.types ≡ w.types → v.additions ≡ w.additions → GotTerms w v
got w v is grows types additions = record { grows = grows; types = types; additions = additions; declared = declared_same w v is grows additions types }

-- by a larger store
pub got_store : (w : World) (S : Contents) → IsWorld w → IsExtendedBy w.store S → IsTypedBy w.types S → GotTerms w (record { types = w.types; store = S; additions = w.additions })
got_store w S is e typed = got w (record { types = w.types; store = S; additions = w.additions }) is (grows_store w.types w.store S w.additions is e typed) refl refl

pub got_adds : (w : World) (S : Contents) → IsWorld w → AddsTypedTerms w.types w.store S → GotTerms w (record { types = w.types; store = S; additions = w.additions })
got_adds w S is adds = got_store w S is adds.before adds.typed

pub got_none : (w : World) → IsWorld w → GotTerms w w
got_none w is = got_store w w.store is (extended_itself w.store) is.typed

pub got_on : (u v w : World) → GotTerms u v → GotTerms v w → GotTerms u w
got_on u v w a b = record { grows = grows_on u v w a.grows b.grows; types = b.types ∙ a.types; additions = b.additions ∙ a.additions; declared = b.declared ∙ a.declared }

-- terms were added once more, which take constants that the first world has
pub got_over : (u w : World) (S : Contents) (names : List Name) → GotTerms u w → All (HoldsNominal u.types) names
    → ((types : Table) → IsTypedBy types w.store → All (HoldsNominal types) names → AddsTypedTerms types w.store S) → GotTerms w (record { types = w.types; store = S; additions = w.additions })
got_over u w S names g held adds =
    got_adds w S g.grows.world (adds w.types g.grows.world.typed (subst (λ (T : Table). All (HoldsNominal T) names) (sym g.types) held))

pub still_held : (w v : World) → GotTerms w v → (ts : List TermId) → All (Holds w) ts → All (Holds v) ts
still_held w v g ts all = All-weaker (Holds w) (Holds v) g.grows.ids ts all

pub head_held : (w v : World) → Grows w v → (h : Head) → HoldsHead w.store h → HoldsHead v.store h
head_held w v g (Const k) h = tt
head_held w v g (Logic k) h = tt
head_held w v g (Nominal n a) h = tt
head_held w v g (Cell c) h = g.cell_ids c h
head_held w v g (Index i) h = tt

-- what was bound since a mark is taken back
module _ (w x : World) (is : IsWorld w) (types : x.types ≡ w.types) (additions : x.additions ≡ w.additions) (g : changed.Grows w.types w.store x.types x.store) (m : Mark) (has : HasMark w.store m) (start : m.bindings ≡ length w.store.bindings)
    (X : Contents) (nodes : X.nodes ≡ x.store.nodes) (cells : X.cells ≡ x.store.cells) (bindings : X.bindings ≡ take m.bindings x.store.bindings) (typed : IsTypedBy x.types X)
    (marks : (k : Mark) → HasMark x.store k → k.bindings ≤ m.bindings → KeepsMark x.store X k) where
  abbrev pub undone : World
  undone = record { types = x.types; store = X; additions = x.additions }

  pub got_back : GotTerms w undone
  got_back =
      got w undone is
      (came_back w undone is (record {
        grows = undone_grows w.types x.types w.store x.store X g m has start nodes cells bindings typed marks;
        bindings = undone_bindings w.types x.types w.store x.store X g m has start nodes cells bindings typed marks;
        additions = additions;
      })) types additions

  pub held_back : (ts : List TermId) → All (Holds x) ts → All (Holds undone) ts
  held_back ts all = subst (λ (ns : List Node). All (λ (t : TermId). t.0 < length ns) ts) (sym nodes) all
