-- A cell that is narrowed, in a change that is carried out.
use Rattle.std.proofs.Common.{◌≡◌, ◌≢◌, ◌⊎◌, inl, inr, ℕ, ◌+◌, ◌<◌, List, [], ◌∷◌, ◌++◌, length, Bool, true, false, ◌==◌, codes, refl, sym, ◌∙◌, ap, subst, arith}
use Rattle.std.specs.Prelude.{All, Contains}
use Rattle.std.specs.Cmp.{unsigned_Decides}
use Rattle.std.proofs.lemmas.Bool.{false≢true}
use Rattle.std.proofs.lemmas.List.{map-append}
use Rattle.std.proofs.lemmas.List.Elements.{All-contains, All-push, Contains-append_left, Contains-append_right, Contains-append_cases}
use Rattle.ab_term.specs.Types.{Ty, kind}
use Rattle.ab_term.specs.Terms as tree
use Rattle.ab_term.specs.Terms.{Variable, Term}
use Rattle.ab_term.specs.Abstraction.{Named}
use Rattle.ab_term.specs.Variables.{Substitution, image, composition, IsTyped}
use Rattle.ab_term.specs.Sameness.{same_number}
use Rattle.ab_term.proofs.Compositions.{image-composition, composition_typed}
use Rattle.ab_term.proofs.Lists.{Contains-none, Contains-here, Contains-cases, All-from_contains}
use Rattle.ab_norm.specs.ab_types.specs.Entries.{Table, signature}
use Rattle.ab_norm.specs.ab_types.specs.Ids.{type_of}
use Rattle.ab_norm.specs.ab_store.specs.declared.node.TermId.{TermId}
use Rattle.ab_norm.specs.ab_store.specs.declared.node.CellId.{CellId}
use Rattle.ab_norm.specs.ab_store.specs.Trees.{Contents, Holds, HoldsCell, cell_of}
use Rattle.ab_norm.specs.ab_store.specs.Reading.{reading, cell_variable}
use Rattle.ab_norm.specs.ab_store.specs.Bindings.{IsUnbound}
use Rattle.ab_norm.specs.ab_store.specs.Naming.{IsTypedBy, IsTerm}
use Rattle.ab_norm.specs.ab_store.proofs.Putting.{read_typed}
use Rattle.ab_patterns.specs.ab_unifiers.specs.Patterns.{applied, kept, kept_type}
use Rattle.ab_patterns.specs.ab_unifiers.specs.Replacements as solve
use Rattle.ab_patterns.specs.ab_unifiers.specs.Replacements.{Change}
use Rattle.ab_patterns.specs.ab_unifiers.proofs.Falling.{map_length}
use Rattle.ab_patterns.specs.ab_unifiers.proofs.Pruning.{narrow_safe}
use Rattle.ab_unify.specs.Problem.{cell_read}
use Rattle.ab_unify.specs.StoreChanges.{others_than, Grows, IsFree, Changed}
use Rattle.ab_unify.proofs.Growth.{grows_on, lifted, lifted_all, was_unbound, was_held}
use Rattle.ab_unify.proofs.Listed.{same_cell, variables_without, still_other, was_other, all_others}
use Rattle.ab_unify.proofs.Cells.{variables_same, made_cells, made_variable}

-- what a narrowing leaves of a store
pub record IsNarrowed (types : Table) (store : Contents) (cell : CellId) (hs : List (tree.Head ℕ)) (keep : List Bool) (more : Table) (now : Contents) (made : CellId) : Type 0 where
  pub grows : Grows types store more now
  pub number : made.0 ≡ length store.cells
  pub one : length now.cells ≡ length store.cells + 1
  pub unbound : IsUnbound now made
  pub hint : (cell_of now made).hint ≡ (cell_of store cell).hint
  pub ty : type_of more (cell_of now made).ty ≡ kept_type keep (type_of types (cell_of store cell).ty)
  pub bound : ¬ IsUnbound now cell
  pub free : (d : CellId) → d ≢ cell → IsUnbound store d → IsUnbound now d
  pub reads : (t : TermId) → Holds store t → reading more now t
      ≡ image same_number (solve.one (codes "x") (cell_variable types store cell) hs (applied (codes "x") (record { name = length store.cells; type = kept_type keep (cell_variable types store cell).type }) (kept keep hs))) (reading types store t)

module _ (types more : Table) (store now : Contents) (typed : IsTypedBy types store) (cell made : CellId) (hs : List (tree.Head ℕ)) (keep : List Bool) (n : IsNarrowed types store cell hs keep more now made) where
  -- cells that may be replaced, with the new one for the old one
  pub narrowed_free : (flexible : List CellId) → All (IsFree store) flexible → All (IsFree now) (others_than cell flexible ++ made ∷ [])
  narrowed_free flexible all =
      All-push (IsFree now) (others_than cell flexible) made
      (All-from_contains (IsFree now) (others_than cell flexible) (λ d m.
      let there = was_other cell d flexible m in
      let old = All-contains (IsFree store) flexible d all there.0 in
      ((n.grows.cells d old.0).0, n.free d (λ e. there.1 (ap (λ (k : CellId). k.0) e)) old.1)))
      ((let above : made.0 < length now.cells = omega (arith, n.number, n.one) in above), n.unbound)

  module _ (T : Table) (S : Contents) (F flexible : List CellId) (c : Change (List ℕ)) (was : Changed T S F c types store flexible) (listed : Contains flexible cell)
      (G : List Ty) (k : List ℕ) (fits : Named (signature types) G hs (type_of types (cell_of store cell).ty) (kind k)) (flags : length keep ≡ length hs) where
    abbrev pub y : Variable ℕ
    y = cell_variable types store cell

    abbrev pub A : Ty
    A = kept_type keep y.type

    abbrev pub pair : Substitution ℕ (List ℕ)
    pair = solve.one (codes "x") y hs (applied (codes "x") (solve.next_variable (codes "x") c.cells A) (kept keep hs))

    held : IsFree store cell
    held = All-contains (IsFree store) flexible cell was.free listed

    same_length : length store.cells ≡ length c.cells
    same_length = sym (map_length (cell_read types) store.cells) ∙ ap length was.cells

    pair_typed : IsTyped (signature more) pair
    pair_typed = lifted_all types more n.grows.table pair (narrow_safe (signature types) (codes "x") G k (length c.cells) y hs keep fits flags).typed

    old_typed : IsTyped (signature more) c.pairs
    old_typed = lifted_all types more n.grows.table c.pairs was.safe

    reads : (H : List Ty) (t : TermId) (B : Ty) → IsTerm T S H t B → reading more now t ≡ image same_number (composition same_number c.pairs pair) (reading T S t)
    reads H t B is =
        let there = was.grows.trees t is.0 in
        n.reads t there.0
        ∙ ap (λ (m : ℕ). image same_number (solve.one (codes "x") y hs (applied (codes "x") (record { name = m; type = A }) (kept keep hs))) (reading types store t)) same_length
        ∙ ap (image same_number pair) (was.reads H t B is)
        ∙ sym (image-composition (signature more) same_number c.pairs old_typed pair pair_typed (lifted types more n.grows.table (lifted T types was.grows.table (read_typed T S was.start H t B is.1))))

    not_cell : (d : CellId) → ¬ Contains flexible d → d.0 ≡ cell.0 → ⊥
    not_cell d out e = out (subst (Contains flexible) (sym (same_cell d cell e)) listed)

    left : (d : CellId) → IsFree now d → (Contains F d ⊎ (¬ HoldsCell S d)) → Contains (others_than cell flexible ++ made ∷ []) d
    left d fr which = go (d.0 == made.0) refl
      where
        go : (b : Bool) → (d.0 == made.0) ≡ b → Contains (others_than cell flexible ++ made ∷ []) d
        go true m = Contains-append_right (others_than cell flexible) (made ∷ []) d (subst (Contains (made ∷ [])) (sym (same_cell d made ((unsigned_Decides d.0 made.0).0 m))) (Contains-here made []))
        go false m =
            let older = was_held types more store now typed n.grows made d n.number n.one fr.0 (λ e. false≢true (sym m ∙ (unsigned_Decides d.0 made.0).1 e)) in
            let unbound = was_unbound types more store now typed n.grows d fr.1 in
            Contains-append_left (others_than cell flexible) (made ∷ []) d
            (still_other cell d flexible (λ e. n.bound (subst (IsUnbound now) (same_cell d cell e) fr.1)) (was.left d (older, unbound) which))

    others : (d : CellId) → IsFree S d → ¬ Contains F d → IsFree now d × (¬ Contains (others_than cell flexible ++ made ∷ []) d)
    others d fr out =
        let was_out = was.others d fr out in (
          ((n.grows.cells d was_out.0.0).0, n.free d (λ e. not_cell d was_out.1 (ap (λ (k : CellId). k.0) e)) was_out.0.1),
          λ m. elim (Contains-append_cases (others_than cell flexible) (made ∷ []) d m) [
            | inl a ↦ was_out.1 (was_other cell d flexible a).0
            | inr a ↦ elim (Contains-cases made [] d a) [
              | inl e ↦ (let same : made.0 ≡ d.0 = ap (λ (k : CellId). k.0) e in let low : d.0 < length store.cells = was_out.0.0 in omega (arith, same, low, n.number))
              | inr b ↦ Contains-none d b
            ]
          ],
        )

    -- THE CHANGE WITH THE NARROWING IS CARRIED OUT
    pub narrowed_changed : Changed T S F (solve.narrowed (codes "x") y hs keep c) more now (others_than cell flexible ++ made ∷ [])
    narrowed_changed = record {
      start = was.start;
      grows = grows_on T types more S store now was.grows n.grows;
      safe = composition_typed (signature more) same_number c.pairs old_typed pair pair_typed;
      cells = made_cells types more store now n.grows typed cell made held.0 n.number n.one n.hint A n.ty c.cells was.cells;
      still =
          map-append (cell_variable more now) (others_than cell flexible) (made ∷ [])
          ∙ ap (λ l. l ++ cell_variable more now made ∷ []) (variables_same types more store now n.grows typed (others_than cell flexible) (all_others (IsFree store) cell flexible was.free) ∙ variables_without types store cell flexible ∙ ap (solve.without y) was.still)
          ∙ ap (λ v. solve.without y c.flexible ++ v ∷ []) (made_variable types more store now n.grows typed cell made held.0 n.number n.one n.hint A n.ty c.cells was.cells);
      free = narrowed_free flexible was.free;
      reads = reads;
      others = others;
      left = left;
    }
