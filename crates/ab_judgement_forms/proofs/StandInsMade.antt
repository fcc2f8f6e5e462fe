-- What takes the places of names, put into a list one after another; goals that are opened and joined one after another.
use Rattle.std.proofs.Common.{◌≡◌, ℕ, suc, ◌+◌, ◌<◌, ◌==◌, List, [], ◌∷◌, ◌++◌, map, drop, length, get_or, codes, Bool, true, false, cond, refl, sym, ap, ◌∙◌, arith, drop-cons, append_assoc}
use Rattle.std.specs.List.{All}
use Rattle.std.specs.Cmp.{unsigned_Decides}
use Rattle.std.proofs.lemmas.Bool.{false_from_ne_true}
use Rattle.std.proofs.lemmas.List.{map-append, get_or-map, length-map}
use Rattle.ab_term.specs.Terms.{index, Read}
use Rattle.ab_term.specs.Expansion.{expansion}
use Rattle.ab_norm.specs.ab_types.specs.Entries.{Table}
use Rattle.ab_norm.specs.ab_types.specs.Ids.{type_of}
use Rattle.ab_norm.specs.ab_store.specs.declared.node.CellEntry.{CellEntry}
use Rattle.ab_norm.specs.ab_store.specs.declared.node.CellId.{CellId}
use Rattle.ab_norm.specs.ab_store.specs.declared.node.TermId.{TermId}
use Rattle.ab_norm.specs.ab_store.specs.Trees.{Contents, Holds, cell_in, cell_of, tree_of}
use Rattle.ab_norm.specs.NodeGrowth.{AddsTypedTerms}
use Rattle.ab_norm.proofs.Frame.{still_read_before}
use Rattle.ab_unifiers.specs.Replacements.{Cell}
use Rattle.ab_unify.specs.Problem.{cell_read, cells_at}
use Rattle.ab_theory.specs.Opening.{both, conjunction_from, conjunction_of}
use Rattle.ab_judgement_forms.specs.DemandWalks.{trues, stand_ins}

abbrev x : List ℕ
x = codes "x"

module _ (bs : List Bool) (i : ℕ) (d : Bool) (within : i < length bs) where
  next : suc i ≡ i + 1
  next = omega arith

  here : (b : Bool) → get_or bs i d ≡ b → drop i bs ≡ b ∷ drop (i + 1) bs
  here b e = drop-cons bs i d within ∙ ap (λ c. c ∷ drop (suc i) bs) e ∙ ap (λ (k : ℕ). b ∷ drop k bs) next

  pub one_closed_less : get_or bs i d ≡ true → trues (drop i bs) ≡ suc (trues (drop (i + 1) bs))
  one_closed_less e = ap trues (here true e)

  pub as_many_closed : get_or bs i d ≡ false → trues (drop i bs) ≡ trues (drop (i + 1) bs)
  as_many_closed e = ap trues (here false e)

  module _ (cs : List (Cell (List ℕ))) (dc : Cell (List ℕ)) (long : length bs ≡ length cs) where
    cell_here : drop i cs ≡ get_or cs i dc ∷ drop (i + 1) cs
    cell_here = let l : i < length cs = omega (arith, within, long) in drop-cons cs i dc l ∙ ap (λ (k : ℕ). get_or cs i dc ∷ drop k cs) next

    closed_stands : get_or bs i d ≡ true → (us : List Read) → stand_ins (drop i bs) (drop i cs) us ≡ expansion x (get_or cs i dc).type (index (trues (drop (i + 1) bs))) ∷ stand_ins (drop (i + 1) bs) (drop (i + 1) cs) us
    closed_stands e us = ap (λ l. stand_ins l (drop i cs) us) (here true e) ∙ ap (λ l. stand_ins (true ∷ drop (i + 1) bs) l us) cell_here

    other_stands : get_or bs i d ≡ false → (ts : List Read) (j : ℕ) (dt : Read) → j < length ts → stand_ins (drop i bs) (drop i cs) (drop j ts) ≡ get_or ts j dt ∷ stand_ins (drop (i + 1) bs) (drop (i + 1) cs) (drop (j + 1) ts)
    other_stands e ts j dt l =
        let behind : suc j ≡ j + 1 = omega arith in
        ap (λ k. stand_ins k (drop i cs) (drop j ts)) (here false e)
        ∙ ap (λ k. stand_ins (false ∷ drop (i + 1) bs) k (drop j ts)) cell_here
        ∙ ap (stand_ins (false ∷ drop (i + 1) bs) (get_or cs i dc ∷ drop (i + 1) cs)) (drop-cons ts j dt l ∙ ap (λ (k : ℕ). get_or ts j dt ∷ drop k ts) behind)

push_then : {X : Type 0} (xs : List X) (a : X) (ys : List X) → (xs ++ (a ∷ [])) ++ ys ≡ xs ++ (a ∷ ys)
push_then xs a ys = append_assoc xs (a ∷ []) ys

module _ (T : Table) (S V : Contents) (adds : AddsTypedTerms T S V) (cells : List CellId) (bs : List Bool) (long : length bs ≡ length cells) (i : ℕ) (d : Bool) (within : i < length bs)
    (terms : List TermId) (terms_held : All (Holds S) terms) (items new : List TermId) (items_held : All (Holds S) items) where
  same_cells : cells_at T V cells ≡ cells_at T S cells
  same_cells = ap (λ (es : List CellEntry). map (λ (c : CellId). cell_read T (cell_in es c)) cells) adds.cells

  long_cells : length bs ≡ length (cells_at T S cells)
  long_cells = long ∙ sym (length-map cells (λ c. cell_read T (cell_of S c)))

  -- the name of a closed one
  pub closed_added : get_or bs i d ≡ true → (dc : CellId) (name : TermId) → new ≡ items ++ (name ∷ [])
      → tree_of T V name ≡ expansion x (type_of T (cell_of S (get_or cells i dc)).ty) (index (trues (drop (i + 1) bs))) → (j : ℕ)
      → map (tree_of T V) new ++ stand_ins (drop (i + 1) bs) (drop (i + 1) (cells_at T V cells)) (drop j (map (tree_of T V) terms))
      ≡ map (tree_of T S) items ++ stand_ins (drop i bs) (drop i (cells_at T S cells)) (drop j (map (tree_of T S) terms))
  closed_added e dc name push is j =
      let dd : Cell (List ℕ) = cell_read T (cell_of S dc) in
      let us = drop j (map (tree_of T S) terms) in
      let l : i < length cells = omega (arith, within, long) in
      let its_type : type_of T (cell_of S (get_or cells i dc)).ty ≡ (get_or (cells_at T S cells) i dd).type = ap (λ (c : Cell (List ℕ)). c.type) (sym (get_or-map (λ (c : CellId). cell_read T (cell_of S c)) cells i dc dd l)) in
      ap (λ l. l ++ stand_ins (drop (i + 1) bs) (drop (i + 1) (cells_at T V cells)) (drop j (map (tree_of T V) terms)))
      (ap (map (tree_of T V)) push ∙ map-append (tree_of T V) items (name ∷ []) ∙ ap (λ l. l ++ (tree_of T V name ∷ [])) (still_read_before T S V items adds.before items_held)
      ∙ ap (λ t. map (tree_of T S) items ++ (t ∷ [])) (is ∙ ap (λ A. expansion x A (index (trues (drop (i + 1) bs)))) its_type))
      ∙ ap (λ cs. (map (tree_of T S) items ++ (expansion x (get_or (cells_at T S cells) i dd).type (index (trues (drop (i + 1) bs))) ∷ [])) ++ stand_ins (drop (i + 1) bs) (drop (i + 1) cs) (drop j (map (tree_of T V) terms))) same_cells
      ∙ ap (λ ts. (map (tree_of T S) items ++ (expansion x (get_or (cells_at T S cells) i dd).type (index (trues (drop (i + 1) bs))) ∷ [])) ++ stand_ins (drop (i + 1) bs) (drop (i + 1) (cells_at T S cells)) (drop j ts)) (still_read_before T S V terms adds.before terms_held)
      ∙ push_then (map (tree_of T S) items) (expansion x (get_or (cells_at T S cells) i dd).type (index (trues (drop (i + 1) bs)))) (stand_ins (drop (i + 1) bs) (drop (i + 1) (cells_at T S cells)) us)
      ∙ ap (λ l. map (tree_of T S) items ++ l) (sym (closed_stands bs i d within (cells_at T S cells) dd long_cells e us))

-- the term for another one
pub other_added : (T : Table) (S : Contents) (cells : List CellId) (bs : List Bool) → length bs ≡ length cells → (i : ℕ) (d : Bool) → i < length bs → (terms items new : List TermId) → get_or bs i d ≡ false → (j : ℕ) (dt : TermId) → j < length terms
    → new ≡ items ++ (get_or terms j dt ∷ [])
    → map (tree_of T S) new ++ stand_ins (drop (i + 1) bs) (drop (i + 1) (cells_at T S cells)) (drop (j + 1) (map (tree_of T S) terms))
    ≡ map (tree_of T S) items ++ stand_ins (drop i bs) (drop i (cells_at T S cells)) (drop j (map (tree_of T S) terms))
other_added T S cells bs long i d within terms items new e j dt l push =
    let ts = map (tree_of T S) terms in
    let dd : Cell (List ℕ) = record { hint = []; type = type_of T (record { 0 = 0 }) } in
    let long_cells : length bs ≡ length (cells_at T S cells) = long ∙ sym (length-map cells (λ c. cell_read T (cell_of S c))) in
    let in_trees : j < length ts = omega (arith, l, length-map terms (tree_of T S)) in
    ap (λ l. l ++ stand_ins (drop (i + 1) bs) (drop (i + 1) (cells_at T S cells)) (drop (j + 1) ts))
    (ap (map (tree_of T S)) push ∙ map-append (tree_of T S) items (get_or terms j dt ∷ [])
    ∙ ap (λ t. map (tree_of T S) items ++ (t ∷ [])) (sym (get_or-map (tree_of T S) terms j dt (tree_of T S dt) l)))
    ∙ push_then (map (tree_of T S) items) (get_or ts j (tree_of T S dt)) (stand_ins (drop (i + 1) bs) (drop (i + 1) (cells_at T S cells)) (drop (j + 1) ts))
    ∙ ap (λ l. map (tree_of T S) items ++ l) (sym (other_stands bs i d within (cells_at T S cells) dd long_cells e ts j (tree_of T S dt) in_trees))

-- ONE GOAL MORE
from_push : (G : Read) (Gs : List Read) (F : Read) → both (conjunction_from G Gs) F ≡ conjunction_from G (Gs ++ (F ∷ []))
from_push G [] F = refl
from_push G (H ∷ Gs) F = from_push (both G H) Gs F

pub joined_more : (i : ℕ) (Gs : List Read) (F : Read) → length Gs ≡ i → cond (i == 0) F (both (conjunction_of Gs) F) ≡ conjunction_of (Gs ++ (F ∷ []))
joined_more i [] F e =
    let none : i ≡ 0 = omega (arith, e) in
    ap (λ b. cond b F (both (conjunction_of []) F)) ((unsigned_Decides i 0).1 none)
joined_more i (G ∷ Gs) F e =
    ap (λ b. cond b F (both (conjunction_from G Gs) F)) (false_from_ne_true (i == 0) (λ f. let none : i ≡ 0 = (unsigned_Decides i 0).0 f in absurd (omega (arith, none, e)))) ∙ from_push G Gs F
