-- Growth, one step after another; and stores in which no cell is bound.
use Rattle.std.proofs.Common.{◌≡◌, ℕ, List, [], map, get_or, None, option_map, refl, sym, ◌∙◌, ap, subst, arith}
use Rattle.ab_term.specs.Types.{Ty}
use Rattle.ab_term.specs.Terms as tree
use Rattle.ab_term.specs.Terms.{spine, Terms, terms_of}
use Rattle.ab_term.specs.Typing.{HasType}
use Rattle.ab_term.specs.Variables.{put_at, one_by_one}
use Rattle.ab_term.specs.Sameness.{same_number}
use Rattle.ab_types.specs.Entries.{Table, signature}
use Rattle.ab_store.specs.declared.node.TermId.{TermId}
use Rattle.ab_store.specs.declared.node.Head.{Head}
use Rattle.ab_store.specs.Trees.{Contents, tree_of, head_reading}
use Rattle.ab_store.specs.Reading.{bound_in, reading, given}
use Rattle.ab_store.specs.Bindings.{cells_of, IsResolved}
use Rattle.ab_store.specs.Naming.{IsTerm}
use Rattle.ab_store.specs.Growth.{IsExtendedBy}
use Rattle.ab_store.proofs.Putting.{pair}
use Rattle.ab_store.proofs.Marking.{kept_itself, kept_on}

pub extended_itself : (s : Contents) → IsExtendedBy s s
extended_itself s = record {
  ids = λ t h. h;
  trees = λ types t h. refl;
  readings = λ types t h. refl;
  cell_ids = λ c h. h;
  cells = λ c h. refl;
  bindings = refl;
  room = omega arith;
  marks = λ m has. kept_itself s m has;
}

pub extended_on : (r s t : Contents) → IsExtendedBy r s → IsExtendedBy s t → IsExtendedBy r t
extended_on r s t e f = record {
  ids = λ i h. f.ids i (e.ids i h);
  trees = λ types i h. f.trees types i (e.ids i h) ∙ e.trees types i h;
  readings = λ types i h. f.readings types i (e.ids i h) ∙ e.readings types i h;
  cell_ids = λ c h. f.cell_ids c (e.cell_ids c h);
  cells = λ c h. f.cells c (e.cell_ids c h) ∙ e.cells c h;
  bindings = f.bindings ∙ e.bindings;
  room = omega (arith, e.room, f.room);
  marks = λ m has. let kept = e.marks m has in kept_on r s t m kept (f.marks m kept.has);
}

pub term_grown : (types : Table) (s t : Contents) → IsExtendedBy s t → (G : List Ty) (id : TermId) (A : Ty) → IsTerm types s G id A → IsTerm types t G id A
term_grown types s t e G id A is = (e.ids id is.0, subst (λ r. HasType (signature types) G r A) (sym (e.trees types id is.0)) is.1)

-- where no cell is bound
module _ (store : Contents) (none : store.bindings ≡ []) where
  pub unbound_reads : (types : Table) (t : TermId) → reading types store t ≡ tree_of types store t
  unbound_reads types t = ap (λ l. one_by_one same_number (map (pair types store) l) (tree_of types store t)) none

  stays : (h : tree.Head ℕ) (ts : Terms ℕ (List ℕ)) → put_at (λ x. None) h ts ≡ spine h ts
  stays (tree.constant c) ts = refl
  stays (tree.logical l) ts = refl
  stays (tree.nominal a) ts = refl
  stays (tree.variable x) ts = refl
  stays (tree.index i) ts = refl

  pub unbound_given : (types : Table) (h : Head) (ts : List TermId) → given types store h ts ≡ spine (head_reading types store h) (terms_of (map (reading types store) ts))
  unbound_given types h ts =
      ap (λ l. put_at (λ x. option_map (reading types store) (bound_in l (record { 0 = x.name }))) (head_reading types store h) (terms_of (map (reading types store) ts))) none
      ∙ stays (head_reading types store h) (terms_of (map (reading types store) ts))

  pub unbound_resolved : (t : TermId) → IsResolved store t
  unbound_resolved t i d l = ap (λ bs. bound_in bs (get_or (cells_of store t) i d)) none
