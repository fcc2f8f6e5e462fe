-- The start of a change, and a cell that is bound to a term, in a change that is carried out.
use Rattle.std.proofs.Common.{◌≡◌, ◌≢◌, inl, inr, ℕ, ◌<◌, List, [], map, length, Result, Ok, Err, OnOk, codes, refl, sym, ◌∙◌, ap, subst}
use Rattle.std.specs.Prelude.{All, Contains}
use Rattle.std.proofs.lemmas.List.Elements.{All-nil, All-cons, All-contains}
use Rattle.ab_term.specs.Types.{Ty}
use Rattle.ab_term.specs.Terms as tree
use Rattle.ab_term.specs.Terms.{Variable, Term}
use Rattle.ab_term.specs.Typing.{HasType}
use Rattle.ab_term.specs.Variables.{Substitution, image, composition, IsTyped}
use Rattle.ab_term.specs.Sameness.{same_number}
use Rattle.ab_term.proofs.Compositions.{image-composition, composition_typed}
use Rattle.ab_term.proofs.Lists.{All-from_contains}
use Rattle.ab_norm.specs.ab_types.specs.Entries.{Table, signature}
use Rattle.ab_norm.specs.ab_types.specs.Ids.{type_of}
use Rattle.ab_norm.specs.ab_types.proofs.Entries.{extended_by_itself}
use Rattle.ab_norm.specs.ab_store.specs.declared.node.TermId.{TermId}
use Rattle.ab_norm.specs.ab_store.specs.declared.node.CellId.{CellId}
use Rattle.ab_norm.specs.ab_store.specs.Trees.{Contents, Holds, cell_in, cell_of, tree_of}
use Rattle.ab_norm.specs.ab_store.specs.Reading.{reading, cell_variable}
use Rattle.ab_norm.specs.ab_store.specs.Bindings.{IsUnbound}
use Rattle.ab_norm.specs.ab_store.specs.declared.mark.Mark.{Mark}
use Rattle.ab_norm.specs.ab_store.specs.Marks.{HasMark, KeepsMark}
use Rattle.ab_norm.specs.ab_store.specs.Naming.{IsTypedBy, IsTerm}
use Rattle.ab_norm.specs.ab_store.proofs.Putting.{read_typed}
use Rattle.ab_patterns.specs.ab_unifiers.specs.Patterns.{value}
use Rattle.ab_patterns.specs.ab_unifiers.specs.Replacements as solve
use Rattle.ab_patterns.specs.ab_unifiers.specs.Replacements.{Change}
use Rattle.ab_patterns.specs.ab_unifiers.specs.Unification.{begun}
use Rattle.ab_patterns.specs.ab_unifiers.proofs.Ruling.{image_none}
use Rattle.ab_unify.specs.Problem.{cell_read, cells_read, variables_read}
use Rattle.ab_unify.specs.StoreChanges.{others_than, Grows, IsFree, Changed}
use Rattle.ab_unify.proofs.Growth.{grows_none, grows_on, lifted, was_unbound}
use Rattle.ab_unify.proofs.Listed.{same_cell, variables_without, still_other, was_other, all_others}

-- nothing is replaced yet, and only these may be replaced
pub starts : (types : Table) (store : Contents) → IsTypedBy types store → (flexible : List CellId) → All (IsFree store) flexible → (ys : List (Variable ℕ)) → variables_read types store flexible ≡ ys
    → Changed types store flexible (record { cells = cells_read types store; flexible = ys; pairs = [] }) types store flexible
starts types store typed flexible free ys is = record {
  start = typed;
  grows = grows_none types store typed;
  safe = All-nil (λ (p : Variable ℕ × Term ℕ (List ℕ)). HasType (signature types) [] p.1 p.0.type);
  cells = refl;
  still = is;
  free = free;
  reads = λ G t A d. sym (image_none (reading types store t));
  others = λ d fr out. (fr, out);
  left = λ d fr which. elim which [ inl m ↦ m | inr n ↦ absurd (n fr.0) ];
}

pub begins : (types : Table) (store : Contents) → IsTypedBy types store → (flexible : List CellId) → All (IsFree store) flexible → (cell : CellId)
    → Changed types store (others_than cell flexible) (begun (codes "x") (cells_read types store) (variables_read types store flexible) (cell_variable types store cell)) types store (others_than cell flexible)
begins types store typed flexible free cell = starts types store typed (others_than cell flexible) (all_others (IsFree store) cell flexible free) (solve.without (cell_variable types store cell) (variables_read types store flexible)) (variables_without types store cell flexible)

pub same_variables : (types : Table) (store now : Contents) → now.cells ≡ store.cells → (ds : List CellId) → variables_read types now ds ≡ variables_read types store ds
same_variables types store now e ds = ap (λ cs. map (λ (c : CellId). record { name = c.0; type = type_of types (cell_in cs c).ty }) ds) e

pub on_ok_both : {T E P Q R : Type 0} (r : Result T E) → (P → Q → R) → OnOk r P → OnOk r Q → OnOk r R
on_ok_both (Ok v) f p q = f p q
on_ok_both (Err e) f p q = tt

pub put_grows : (types : Table) (store now : Contents) → IsTypedBy types now → ((t : TermId) → Holds store t → Holds now t × (tree_of types now t ≡ tree_of types store t)) → now.cells ≡ store.cells → ((m : Mark) → HasMark store m → KeepsMark store now m) → Grows types store types now
put_grows types store now typed trees cells marks = record {
  table = extended_by_itself types;
  kinds = refl;
  constants = refl;
  typed = typed;
  trees = trees;
  cells = λ d h. (subst (λ cs. d.0 < length cs) (sym cells) h, ap (λ cs. cell_in cs d) cells);
  marks = marks;
}

-- what a binding leaves of a store
pub record IsPut (types : Table) (store : Contents) (cell : CellId) (hs : List (tree.Head ℕ)) (u : Term ℕ (List ℕ)) (now : Contents) : Type 0 where
  pub grows : Grows types store types now
  pub cells : now.cells ≡ store.cells
  pub fits : HasType (signature types) [] (value (codes "x") (cell_variable types store cell) hs u) (type_of types (cell_of store cell).ty)
  pub bound : ¬ IsUnbound now cell
  pub free : (d : CellId) → d ≢ cell → IsUnbound store d → IsUnbound now d
  pub reads : (t : TermId) → Holds store t → reading types now t ≡ image same_number (solve.one (codes "x") (cell_variable types store cell) hs u) (reading types store t)

module _ (types : Table) (store now : Contents) (typed : IsTypedBy types store) (cell : CellId) (hs : List (tree.Head ℕ)) (u : Term ℕ (List ℕ)) (n : IsPut types store cell hs u now)
    (T : Table) (S : Contents) (F flexible : List CellId) (c : Change (List ℕ)) (was : Changed T S (others_than cell F) c types store flexible) (listed : Contains F cell) (out : ¬ Contains flexible cell) where
  abbrev pub pair : Substitution ℕ (List ℕ)
  pair = solve.one (codes "x") (cell_variable types store cell) hs u

  pair_typed : IsTyped (signature types) pair
  pair_typed = All-cons (λ (p : Variable ℕ × Term ℕ (List ℕ)). HasType (signature types) [] p.1 p.0.type) (cell_variable types store cell, value (codes "x") (cell_variable types store cell) hs u) [] n.fits (All-nil (λ (p : Variable ℕ × Term ℕ (List ℕ)). HasType (signature types) [] p.1 p.0.type))

  reads : (H : List Ty) (t : TermId) (B : Ty) → IsTerm T S H t B → reading types now t ≡ image same_number (composition same_number c.pairs pair) (reading T S t)
  reads H t B is =
      let there = was.grows.trees t is.0 in
      n.reads t there.0
      ∙ ap (image same_number pair) (was.reads H t B is)
      ∙ sym (image-composition (signature types) same_number c.pairs was.safe pair pair_typed (lifted T types was.grows.table (read_typed T S was.start H t B is.1)))

  still_free : (d : CellId) → IsFree store d → (d.0 ≡ cell.0 → ⊥) → IsFree now d
  still_free d fr other = ((n.grows.cells d fr.0).0, n.free d (λ e. other (ap (λ (k : CellId). k.0) e)) fr.1)

  -- THE CHANGE WITH THE BINDING IS CARRIED OUT
  pub put_changed : Changed T S F (record { cells = c.cells; flexible = c.flexible; pairs = composition same_number c.pairs pair }) types now flexible
  put_changed = record {
    start = was.start;
    grows = grows_on T types types S store now was.grows n.grows;
    safe = composition_typed (signature types) same_number c.pairs was.safe pair pair_typed;
    cells = ap (map (cell_read types)) n.cells ∙ was.cells;
    still = same_variables types store now n.cells flexible ∙ was.still;
    free = All-from_contains (IsFree now) flexible (λ d m. still_free d (All-contains (IsFree store) flexible d was.free m) (λ e. out (subst (Contains flexible) (same_cell d cell e) m)));
    reads = reads;
    others = λ d fr no.
        let older = was.others d fr (λ m. no (was_other cell d F m).0) in
        (still_free d older.0 (λ e. no (subst (Contains F) (sym (same_cell d cell e)) listed)), older.1);
    left = λ d fr which.
        let apart : d.0 ≡ cell.0 → ⊥ = λ e. n.bound (subst (IsUnbound now) (same_cell d cell e) fr.1) in
        let older : IsFree store d = (subst (λ cs. d.0 < length cs) n.cells fr.0, was_unbound types types store now typed n.grows d fr.1) in
        was.left d older (elim which [ inl m ↦ inl (still_other cell d F apart m) | inr h ↦ inr h ]);
  }
