-- `pi` over the abstraction that a row ends with.
use Rattle.std.proofs.Common.{◌≡◌, ◌⊎◌, inl, inr, ℕ, ◌+◌, List, [], ◌∷◌, ◌++◌, length, None, refl, sym, ap, ◌∙◌, subst, arith, append_assoc, append-nil}
use Rattle.std.specs.Prelude.{Ok, Err, codes}
use Rattle.std.proofs.lemmas.List.{map-append, length-append}
use Rattle.std.proofs.lemmas.List.Elements.{All-append}
use Rattle.ab_norm.specs.ab_types.specs.Entries.{Table}
use Rattle.ab_norm.specs.ab_types.proofs.Entries.{extended_by_itself}
use Rattle.ab_norm.specs.ab_store.specs.declared.node.CellEntry.{CellEntry}
use Rattle.ab_norm.specs.ab_store.specs.Trees.{Contents}
use Rattle.ab_meaning.specs.ResolvedNames.{Name, pi}
use Rattle.ab_meaning.specs.Scopes.{Found, after, pi_over}
use Rattle.ab_inference.specs.declared.op.Op.{Op}
use Rattle.ab_inference.specs.declared.op.Op.TheVariants as op
use Rattle.ab_inference.specs.declared.op.Binds.TheVariants as binds
use Rattle.ab_inference.specs.declared.op.Mark as declared
use Rattle.ab_inference.specs.Sketches.{Sketch, bound, known, free, apply, behind, abs, equal, bind, erase, count}
use Rattle.ab_inference.specs.Programs.{Item, bound_item, known_item, free_item, apply_item, behind_item, abs_item, equal_item, bind_item, item_of, items_of, OpTyped}
use Rattle.ab_infer.specs.NormalTerms.{OpFits}
use Rattle.ab_infer.specs.declared.row.Row.{Row}
use Rattle.ab_infer.specs.Rows.{steps_of, Become, AreOf, Grew}
use Rattle.ab_infer.specs.Occurrences.{free_names, with_names}
use Rattle.ab_inference.specs.Verdicts.{AreApart}
use Rattle.ab_infer.specs.NameScopes.{nodes_in}
use Rattle.ab_infer.proofs.Lists.{all_one, same_last, ends, all_front, all_end}

-- the steps of an expression end with its own
abbrev ends_with : (k : Sketch) → (front : List Item) × (last : Item) × (steps_of k ≡ front ++ last ∷ [])
ends_with (bound i n) = ([], bound_item i n, refl)
ends_with (known h A) = ([], known_item h A, refl)
ends_with (free x j p) = ([], free_item x j p, refl)
ends_with (apply e f) = (steps_of e ++ steps_of f, apply_item, sym (append_assoc (steps_of e) (steps_of f) (apply_item ∷ [])))
ends_with (behind e f) = (steps_of e ++ steps_of f, behind_item, sym (append_assoc (steps_of e) (steps_of f) (behind_item ∷ [])))
ends_with (abs x n p e) = (steps_of e, abs_item x n p, refl)
ends_with (equal n e f) = (steps_of e ++ steps_of f, equal_item n, sym (append_assoc (steps_of e) (steps_of f) (equal_item n ∷ [])))
ends_with (bind q x n p w e) = (steps_of e, bind_item q x n p w, refl)

-- an expression whose last step is an abstraction's is one
is_abstraction : (k : Sketch) (is : List Item) (x : Name) (n p : ℕ) → is ++ abs_item x n p ∷ [] ≡ steps_of k → (e : Sketch) × (k ≡ abs x n p e) × (is ≡ steps_of e)
is_abstraction (bound i m) is x n p e = let h = same_last is [] (abs_item x n p) (bound_item i m) e in absurd (let g = h.1 in cc)
is_abstraction (known h A) is x n p e = let g = same_last is [] (abs_item x n p) (known_item h A) e in absurd (let f = g.1 in cc)
is_abstraction (free y j q) is x n p e = let h = same_last is [] (abs_item x n p) (free_item y j q) e in absurd (let g = h.1 in cc)
is_abstraction (apply a b) is x n p e = let h = same_last is (steps_of a ++ steps_of b) (abs_item x n p) apply_item (e ∙ (ends_with (apply a b)).2) in absurd (let g = h.1 in cc)
is_abstraction (behind a b) is x n p e = let h = same_last is (steps_of a ++ steps_of b) (abs_item x n p) behind_item (e ∙ (ends_with (behind a b)).2) in absurd (let g = h.1 in cc)
is_abstraction (abs y m q a) is x n p e = let h = same_last is (steps_of a) (abs_item x n p) (abs_item y m q) e in (a, (let g = h.1 in cc), h.0)
is_abstraction (equal m a b) is x n p e = let h = same_last is (steps_of a ++ steps_of b) (abs_item x n p) (equal_item m) (e ∙ (ends_with (equal m a b)).2) in absurd (let g = h.1 in cc)
is_abstraction (bind q y m r w a) is x n p e = let h = same_last is (steps_of a) (abs_item x n p) (bind_item q y m r w) e in absurd (let g = h.1 in cc)

-- what isn't one has no `pi` over it
no_pi : (k : Sketch) (is : List Item) (i : Item) → is ++ i ∷ [] ≡ steps_of k → ((x : Name) (n p : ℕ) → i ≡ abs_item x n p → ⊥) → pi_over (erase k) ≡ Err (codes "pi")
no_pi (bound i m) is j e never = refl
no_pi (known h A) is j e never = refl
no_pi (free y k q) is j e never = refl
no_pi (apply a b) is j e never = refl
no_pi (behind a b) is j e never = refl
no_pi (abs y m q a) is j e never = absurd (never y m q (same_last is (steps_of a) j (abs_item y m q) e).1)
no_pi (equal m a b) is j e never = refl
no_pi (bind q y m r w a) is j e never = refl

over_of : (T : Table) (cells : List CellEntry) (F : List Name) (N : ℕ) (ctx : List ℕ) (m : ℕ) (front : List Op) (x : Name) (n p : ℕ) (ms : List declared.Mark) (e : Sketch)
    → AreOf T cells F N ctx m (front ++ op.Abs x n p ∷ []) ms (abs x n p e) → AreOf T cells F N ctx m (front ++ op.Bind binds.Pi x n p None ∷ []) ms (bind pi x n p None e)
over_of T cells F N ctx m front x n p ms e a =
    let split = map-append (item_of T cells F) front (op.Abs x n p ∷ []) in
    let inner = (same_last (items_of T cells F front) (steps_of e) (abs_item x n p) (abs_item x n p) (sym split ∙ a.items)).0 in
    record {
      items = map-append (item_of T cells F) front (op.Bind binds.Pi x n p None ∷ []) ∙ ap (λ zs. zs ++ bind_item pi x n p None ∷ []) inner;
      fit = a.fit;
      marks_are = a.marks_are;
      typed = λ below.
          let all = a.typed below in
          All-append (OpTyped T N (length F)) front (op.Bind binds.Pi x n p None ∷ []) (all_front (OpTyped T N (length F)) front (op.Abs x n p ∷ []) all)
          (all_one (OpTyped T N (length F)) (op.Bind binds.Pi x n p None) (all_end (OpTyped T N (length F)) front (op.Abs x n p) all, tt));
      fits = All-append (OpFits T cells) front (op.Bind binds.Pi x n p None ∷ []) (all_front (OpFits T cells) front (op.Abs x n p ∷ []) a.fits) (all_one (OpFits T cells) (op.Bind binds.Pi x n p None) tt);
      within = a.within;
    }

-- the steps that were put behind the row end with the last of the row
record Ends (old new : List Op) (steps : List Op) (last : Op) : Type 0 where
  pub front : List Op
  pub steps_are : steps ≡ front ++ last ∷ []
  pub new_are : new ≡ old ++ front

module _ (t : Table) (store : Contents) (r0 r1 : Row) (f : Found) (a : Grew t store r0 r1 f) where
  here : Become t r1.names.items (length r1.variables.items) t r1.names.items (length r1.variables.items)
  here = record { table = extended_by_itself t; more = []; names_are = sym (append-nil r1.names.items); variables = omega arith }

  cells_items : List Op → List Item
  cells_items = items_of t store.cells r1.names.items

  not_empty : a.steps ≡ [] → ⊥
  not_empty e =
      let h = ends_with a.sketch in
      let items = (a.of t r1.names.items (length r1.variables.items) here).items in
      let same : items_of t store.cells r1.names.items [] ≡ h.0 ++ h.1 ∷ [] = sym (ap (items_of t store.cells r1.names.items) e) ∙ (items ∙ h.2) in
      let l = ap length same ∙ length-append h.0 (h.1 ∷ []) in omega arith

  row_ends : (init : List Op) (last : Op) → r1.steps.items ≡ init ++ last ∷ [] → Ends r0.steps.items init a.steps last
  row_ends init last e = go (ends a.steps)
    where
      go : (a.steps ≡ []) ⊎ ((front : List Op) × (o : Op) × (a.steps ≡ front ++ o ∷ [])) → Ends r0.steps.items init a.steps last
      go (inl n) = absurd (not_empty n)
      go (inr h) =
          let whole : (r0.steps.items ++ h.0) ++ h.1 ∷ [] ≡ init ++ last ∷ [] = append_assoc r0.steps.items h.0 (h.1 ∷ []) ∙ (ap (λ zs. r0.steps.items ++ zs) (sym h.2) ∙ (sym a.steps_are ∙ e)) in
          let s = same_last (r0.steps.items ++ h.0) init h.1 last whole in
          record { front = h.0; steps_are = h.2 ∙ ap (λ o. h.0 ++ o ∷ []) s.1; new_are = sym s.0 }

  -- what ends with no abstraction
  pub not_over : (init : List Op) (last : Op) → r1.steps.items ≡ init ++ last ∷ [] → ((x : Name) (n p : ℕ) → item_of t store.cells r1.names.items last ≡ abs_item x n p → ⊥) → after pi_over f ≡ Err (codes "pi")
  not_over init last e never =
      let s = row_ends init last e in
      let items = (a.of t r1.names.items (length r1.variables.items) here).items in
      let split = map-append (item_of t store.cells r1.names.items) s.front (last ∷ []) in
      ap (after pi_over) a.is ∙ no_pi a.sketch (items_of t store.cells r1.names.items s.front) (item_of t store.cells r1.names.items last)
      (sym split ∙ (sym (ap (items_of t store.cells r1.names.items) s.steps_are) ∙ items)) never

  pub nothing_over : r1.steps.items ≡ [] → after pi_over f ≡ Err (codes "pi")
  nothing_over e = go (ends a.steps)
    where
      go : (a.steps ≡ []) ⊎ ((front : List Op) × (o : Op) × (a.steps ≡ front ++ o ∷ [])) → after pi_over f ≡ Err (codes "pi")
      go (inl n) = absurd (not_empty n)
      go (inr h) =
          let l = ap length (sym e ∙ (a.steps_are ∙ ap (λ zs. r0.steps.items ++ zs) h.2)) in
          absurd (omega (arith, l, length-append r0.steps.items (h.0 ++ h.1 ∷ []), length-append h.0 (h.1 ∷ [])))

  pub grew_over : (r2 : Row) (init : List Op) (x : Name) (n p : ℕ) → r1.steps.items ≡ init ++ op.Abs x n p ∷ [] → r2.steps.items ≡ init ++ op.Bind binds.Pi x n p None ∷ [] → r2.marks.items ≡ r1.marks.items → r2.names.items ≡ r1.names.items
      → length r2.variables.items ≡ length r1.variables.items → r2.bound.items ≡ r1.bound.items → Grew t store r0 r2 (after pi_over f)
  grew_over r2 init x n p was is marks names variables outer =
      let s = row_ends init (op.Abs x n p) was in
      let split : (T : Table) (F : List Name) → items_of T store.cells F a.steps ≡ items_of T store.cells F s.front ++ abs_item x n p ∷ [] =
      λ T F. ap (items_of T store.cells F) s.steps_are ∙ map-append (item_of T store.cells F) s.front (op.Abs x n p ∷ []) in
      let k = is_abstraction a.sketch (items_of t store.cells r1.names.items s.front) x n p (sym (split t r1.names.items) ∙ (a.of t r1.names.items (length r1.variables.items) here).items) in
      let e = k.0 in
      record {
        sketch = bind pi x n p None e;
        is = ap (after pi_over) (a.is ∙ ap (λ j. Ok (erase j)) k.1);
        bound = outer ∙ a.bound;
        steps = s.front ++ op.Bind binds.Pi x n p None ∷ [];
        steps_are = is ∙ (ap (λ zs. zs ++ op.Bind binds.Pi x n p None ∷ []) s.new_are ∙ append_assoc r0.steps.items s.front (op.Bind binds.Pi x n p None ∷ []));
        marks = a.marks;
        marks_are = marks ∙ a.marks_are;
        names = a.names;
        names_are = names ∙ a.names_are;
        apart = λ h. subst AreApart (sym names) (a.apart h);
        order = names ∙ (a.order ∙ ap (λ j. with_names r0.names.items (free_names (erase j))) k.1);
        variables = variables ∙ (a.variables ∙ ap (λ j. length r0.variables.items + count j) k.1);
        of = λ T F N later.
            let now : Become t r1.names.items (length r1.variables.items) T F N = record { table = later.table; more = later.more; names_are = later.names_are ∙ ap (λ zs. zs ++ later.more) names; variables = omega (arith, later.variables) } in
            let b = subst (λ j. AreOf T store.cells F N (nodes_in r0.bound.items) (length r0.variables.items) a.steps a.marks j) k.1 (a.of T F N now) in
            over_of T store.cells F N (nodes_in r0.bound.items) (length r0.variables.items) s.front x n p a.marks e (subst (λ os. AreOf T store.cells F N (nodes_in r0.bound.items) (length r0.variables.items) os a.marks (abs x n p e)) s.steps_are b);
        room = omega (arith, a.room, variables, ap length names, ap length is, ap length was, length-append init (op.Abs x n p ∷ []), length-append init (op.Bind binds.Pi x n p None ∷ []));
      }

-- of no other step the item is an abstraction's
pub not_abs_item : (T : Table) (cells : List CellEntry) (F : List Name) (o : Op) → ((x : Name) (n p : ℕ) → o ≡ op.Abs x n p → ⊥) → (x : Name) (n p : ℕ) → item_of T cells F o ≡ abs_item x n p → ⊥
not_abs_item T cells F (op.Bound i m) never x n p e = cc
not_abs_item T cells F (op.Known h id) never x n p e = cc
not_abs_item T cells F (op.Free j q) never x n p e = cc
not_abs_item T cells F op.Apply never x n p e = cc
not_abs_item T cells F op.Behind never x n p e = cc
not_abs_item T cells F (op.Abs y m q) never x n p e = never y m q refl
not_abs_item T cells F (op.Equal m) never x n p e = cc
not_abs_item T cells F (op.Bind b y m q w) never x n p e = cc

pub empty_of : {X : Type 0} (xs : List X) → length xs ≡ 0 → xs ≡ []
empty_of [] e = refl
empty_of (x ∷ xs) e = absurd (omega arith)
