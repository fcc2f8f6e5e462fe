-- The cells that a run made are those that were bound since or may still be replaced, but for the given ones.
use Rattle.std.proofs.Common.{◌≡◌, ◌≢◌, ◌⊎◌, ◌↔◌, inl, inr, ℕ, List, [], ◌∷◌, ◌++◌, map, drop, length, Bool, true, false, cond, ◌==◌, Option, Some, None, refl, sym, ◌∙◌, ap, subst, take-append-drop}
use Rattle.std.specs.Prelude.{All, AllPairs, Contains}
use Rattle.std.specs.Cmp.{unsigned_Decides}
use Rattle.std.proofs.lemmas.List.{map-append}
use Rattle.std.proofs.lemmas.List.Elements.{All-contains, Contains-append_right, Contains-append_cases}
use Rattle.ab_term.proofs.Lists.{Contains-none, Contains-here, Contains-there, Contains-cases, Contains-from_map, AllPairs-parts}
use Rattle.ab_norm.specs.ab_types.specs.Entries.{Table}
use Rattle.ab_norm.specs.ab_store.specs.declared.node.TermId.{TermId}
use Rattle.ab_norm.specs.ab_store.specs.declared.node.CellId.{CellId}
use Rattle.ab_norm.specs.ab_store.specs.declared.node.Binding.{Binding}
use Rattle.ab_norm.specs.ab_store.specs.Trees.{Contents, HoldsCell}
use Rattle.ab_norm.specs.ab_store.specs.Reading.{bound_in}
use Rattle.ab_norm.specs.ab_store.specs.Bindings.{AreInOrder}
use Rattle.ab_norm.specs.ab_store.specs.Naming.{BindingIsTyped}
use Rattle.ab_patterns.specs.ab_unifiers.specs.Replacements.{Change}
use Rattle.ab_unify.specs.StoreChanges.{IsFree, Changed}
use Rattle.ab_unify.proofs.Growth.{front_bindings, was_unbound}
use Rattle.ab_unify.proofs.Listed.{same_cell}
use Rattle.ab_unify.specs.UnifyAnswers.{AreNewCells}

abbrev Cells : List Binding → List CellId
Cells bs = map (λ (b : Binding). b.cell) bs

-- a cell is bound where a binding has it
bound_cell : (bs : List Binding) (c : CellId) (t : TermId) → bound_in bs c ≡ Some t → Contains (Cells bs) c
bound_cell [] c t e = absurd (cc)
bound_cell (b ∷ bs) c t e = go (b.cell.0 == c.0) refl e (bound_cell bs c t)
  where
    go : (k : Bool) → (b.cell.0 == c.0) ≡ k → cond k (Some b.term) (bound_in bs c) ≡ Some t → (bound_in bs c ≡ Some t → Contains (Cells bs) c) → Contains (Cells (b ∷ bs)) c
    go true s f rest = subst (Contains (Cells (b ∷ bs))) (same_cell b.cell c ((unsigned_Decides b.cell.0 c.0).0 s)) (Contains-here b.cell (Cells bs))
    go false s f rest = Contains-there b.cell (Cells bs) c (rest f)

cell_bound : (bs : List Binding) (c : CellId) → Contains (Cells bs) c → bound_in bs c ≡ None → ⊥
cell_bound [] c m e = Contains-none c m
cell_bound (b ∷ bs) c m e = go (b.cell.0 == c.0) refl e (Contains-cases b.cell (Cells bs) c m) (cell_bound bs c)
  where
    go : (k : Bool) → (b.cell.0 == c.0) ≡ k → cond k (Some b.term) (bound_in bs c) ≡ None → (b.cell ≡ c) ⊎ Contains (Cells bs) c → (Contains (Cells bs) c → bound_in bs c ≡ None → ⊥) → ⊥
    go true s f which rest = absurd (cc)
    go false s f (inl same) rest = absurd (let one : (b.cell.0 == c.0) ≡ true = (unsigned_Decides b.cell.0 c.0).1 (ap (λ (d : CellId). d.0) same) in let clash : false ≡ true = sym s ∙ one in cc)
    go false s f (inr there) rest = rest there f

-- none is bound twice
twice : (bs cs : List Binding) (c : CellId) → AllPairs (λ (a b : Binding). a.cell ≢ b.cell) (bs ++ cs) → Contains (Cells bs) c → Contains (Cells cs) c → ⊥
twice [] cs c once m n = Contains-none c m
twice (b ∷ bs) cs c once m n =
    let both = AllPairs-parts (λ (a b : Binding). a.cell ≢ b.cell) b (bs ++ cs) once in
    go both.0 (Contains-cases b.cell (Cells bs) c m) (λ there. twice bs cs c both.1 there n)
  where
    go : All (λ (d : Binding). b.cell ≢ d.cell) (bs ++ cs) → (b.cell ≡ c) ⊎ Contains (Cells bs) c → (Contains (Cells bs) c → ⊥) → ⊥
    go apart (inl same) rest =
        let found = Contains-from_map (λ (d : Binding). d.cell) cs c n in
        All-contains (λ (d : Binding). b.cell ≢ d.cell) (bs ++ cs) found.0 apart (Contains-append_right bs cs found.0 found.1) (same ∙ sym found.2)
    go apart (inr there) rest = rest there

bound_or_not : (bs : List Binding) (c : CellId) → (Contains (Cells bs) c) ⊎ (bound_in bs c ≡ None)
bound_or_not bs c = go (bound_in bs c) refl
  where
    go : (o : Option TermId) → bound_in bs c ≡ o → (Contains (Cells bs) c) ⊎ (bound_in bs c ≡ None)
    go None e = inr e
    go (Some t) e = inl (bound_cell bs c t e)

module _ (T U : Table) (S V : Contents) (F H : List CellId) (c : Change (List ℕ)) (was : Changed T S F c U V H) (order : AreInOrder V) (free : All (IsFree S) F) where
  abbrev since : List Binding
  since = drop (length S.bindings) V.bindings

  whole : V.bindings ≡ S.bindings ++ since
  whole = sym (take-append-drop (length S.bindings) V.bindings) ∙ ap (λ l. l ++ since) (front_bindings T U S V was.start was.grows)

  whole_cells : Cells V.bindings ≡ Cells S.bindings ++ Cells since
  whole_cells = ap Cells whole ∙ map-append (λ (b : Binding). b.cell) S.bindings since

  held_now : (d : CellId) → Contains (Cells V.bindings) d → HoldsCell V d
  held_now d m =
      let found = Contains-from_map (λ (b : Binding). b.cell) V.bindings d m in
      subst (HoldsCell V) found.2 (All-contains (BindingIsTyped U V) V.bindings found.0 was.grows.typed.bindings found.1).0

  held_then : (d : CellId) → Contains (Cells S.bindings) d → HoldsCell S d
  held_then d m =
      let found = Contains-from_map (λ (b : Binding). b.cell) S.bindings d m in
      subst (HoldsCell S) found.2 (All-contains (BindingIsTyped T S) S.bindings found.0 was.start.bindings found.1).0

  -- what was there and isn't given is bound no more than it was
  bound_since : (d : CellId) → Contains (Cells since) d → ¬ Contains F d → ¬ HoldsCell S d
  bound_since d m out held =
      let now : Contains (Cells V.bindings) d = subst (λ l. Contains l d) (sym whole_cells) (Contains-append_right (Cells S.bindings) (Cells since) d m) in
      go now (bound_or_not S.bindings d)
    where
      go : Contains (Cells V.bindings) d → (Contains (Cells S.bindings) d) ⊎ (bound_in S.bindings d ≡ None) → ⊥
      go now (inl before) = twice S.bindings since d (subst (AllPairs (λ (a b : Binding). a.cell ≢ b.cell)) whole order.once) before m
      go now (inr none) = cell_bound V.bindings d now (was.others d (held, none) out).0.1

  left_since : (d : CellId) → Contains H d → ¬ Contains F d → ¬ HoldsCell S d
  left_since d m out held =
      let fr = All-contains (IsFree V) H d was.free m in
      (was.others d (held, was_unbound T U S V was.start was.grows d fr.1) out).1 m

  new_is : (d : CellId) → HoldsCell V d → ¬ HoldsCell S d → (Contains (Cells since) d ⊎ Contains H d) × (¬ Contains F d)
  new_is d held new = (go (bound_or_not V.bindings d), λ m. new (All-contains (IsFree S) F d free m).0)
    where
      go : (Contains (Cells V.bindings) d) ⊎ (bound_in V.bindings d ≡ None) → Contains (Cells since) d ⊎ Contains H d
      go (inl bound) = later (Contains-append_cases (Cells S.bindings) (Cells since) d (subst (λ l. Contains l d) whole_cells bound))
        where
          later : Contains (Cells S.bindings) d ⊎ Contains (Cells since) d → Contains (Cells since) d ⊎ Contains H d
          later (inl before) = absurd (new (held_then d before))
          later (inr after) = inl after
      go (inr none) = inr (was.left d (held, none) (inr new))

  pub new_cells : (cs : List CellId) → ((d : CellId) → Contains cs d ↔ ((Contains (Cells since) d ⊎ Contains H d) × (¬ Contains F d))) → AreNewCells S V cs
  new_cells cs which d = (λ m. from ((which d).0 m), λ p. (which d).1 (new_is d p.0 p.1))
    where
      from : (Contains (Cells since) d ⊎ Contains H d) × (¬ Contains F d) → HoldsCell V d × (¬ HoldsCell S d)
      from p = go p.0
        where
          go : Contains (Cells since) d ⊎ Contains H d → HoldsCell V d × (¬ HoldsCell S d)
          go (inl m) = (held_now d (subst (λ l. Contains l d) (sym whole_cells) (Contains-append_right (Cells S.bindings) (Cells since) d m)), bound_since d m p.1)
          go (inr m) = ((All-contains (IsFree V) H d was.free m).0, left_since d m p.1)
