-- Rows that grow by the parts of an expression grow by the expression.
use Rattle.std.proofs.Common.{◌≡◌, ℕ, suc, ◌+◌, ◌<◌, ◌≤◌, List, [], ◌∷◌, ◌++◌, length, Option, option_map, refl, sym, ap, ◌∙◌, subst, arith, append_assoc, append-nil}
use Rattle.std.specs.Prelude.{Ok}
use Rattle.std.proofs.lemmas.List.{map-append, length-append}
use Rattle.std.proofs.lemmas.List.Elements.{All-append, All-cons}
use Rattle.ab_term.specs.Types.{Ty}
use Rattle.ab_norm.specs.ab_types.specs.Entries.{Table, IsExtendedBy}
use Rattle.ab_norm.specs.ab_types.specs.Ids.{type_of}
use Rattle.ab_norm.specs.ab_types.specs.declared.ids.TypeId.{TypeId}
use Rattle.ab_norm.specs.ab_types.proofs.Entries.{extended_by_itself, extended_twice}
use Rattle.ab_norm.specs.ab_store.specs.declared.node.CellEntry.{CellEntry}
use Rattle.ab_norm.specs.ab_store.specs.Trees.{Contents}
use Rattle.ab_grammar.specs.declared.Infix.{Infix}
use Rattle.ab_meaning.specs.ResolvedNames as names
use Rattle.ab_meaning.specs.ResolvedNames.{Name, Binding, pi}
use Rattle.ab_meaning.specs.Scopes.{Found, made_of, made_of_both}
use Rattle.ab_inference.specs.declared.op.Op.{Op}
use Rattle.ab_inference.specs.declared.op.Op.TheVariants as op
use Rattle.ab_inference.specs.declared.op.Binds.{Binds}
use Rattle.ab_inference.specs.declared.op.Mark as declared
use Rattle.ab_inference.specs.declared.op.Mark.TheVariants as mark
use Rattle.ab_inference.specs.Sketches.{Sketch, apply, behind, abs, equal, bind, erase, count, variable_of, marks_of}
use Rattle.ab_inference.specs.Programs.{Item, bind_item, binding_of, item_of, items_of, OpTyped, HoldsWritten}
use Rattle.ab_inference.specs.Inferences.{AreBelow}
use Rattle.ab_inference.specs.Verdicts.{marks_in, mark_of, AreApart}
use Rattle.ab_inference.proofs.Stepping.{below_more}
use Rattle.ab_infer.specs.declared.scope.Bound.{Bound}
use Rattle.ab_infer.specs.NameScopes.{nodes_in}
use Rattle.ab_infer.specs.NormalTerms.{OpFits}
use Rattle.ab_infer.specs.declared.row.Row.{Row}
use Rattle.ab_infer.specs.Rows.{steps_of, Become, AreOf, Grew}
use Rattle.ab_infer.specs.Occurrences.{free_names, with_names}
use Rattle.ab_infer.specs.WalkMoves.{Puts, BindsName, Unbinds, EquationMet}
use Rattle.ab_infer.proofs.Occurring.{names_twice}
use Rattle.ab_infer.proofs.Lists.{behind_twice, both_behind, all_one, nodes_last}

pub become_less : (s t T : Table) (xs ys F : List Name) (n m N : ℕ) (more : List Name) → IsExtendedBy s t → ys ≡ xs ++ more → n ≤ m → Become t ys m T F N → Become s xs n T F N
become_less s t T xs ys F n m N more e is l b = record {
  table = extended_twice s t T e b.table;
  more = more ++ b.more;
  names_are = b.names_are ∙ (ap (λ zs. zs ++ b.more) is ∙ append_assoc xs more b.more);
  variables = omega (arith, b.variables);
}

module _ (T : Table) (cells : List CellEntry) (F : List Name) (N : ℕ) where
  same_items : (ss os : List Op) (one : Op) (xs ys : List Item) → items_of T cells F ss ≡ xs → items_of T cells F os ≡ ys → items_of T cells F (ss ++ (os ++ one ∷ [])) ≡ xs ++ (ys ++ item_of T cells F one ∷ [])
  same_items ss os one xs ys e f =
      map-append (item_of T cells F) ss (os ++ one ∷ [])
      ∙ (ap (λ zs. zs ++ items_of T cells F (os ++ one ∷ [])) e
      ∙ ap (λ zs. xs ++ zs) (map-append (item_of T cells F) os (one ∷ []) ∙ ap (λ zs. zs ++ item_of T cells F one ∷ []) f))

  one_more : (ss : List Op) (one : Op) (xs : List Item) → items_of T cells F ss ≡ xs → items_of T cells F (ss ++ one ∷ []) ≡ xs ++ item_of T cells F one ∷ []
  one_more ss one xs e = map-append (item_of T cells F) ss (one ∷ []) ∙ ap (λ zs. zs ++ item_of T cells F one ∷ []) e

  same_marks : (ms ns : List declared.Mark) (k l : Sketch) → marks_in ms ≡ marks_of k → marks_in ns ≡ marks_of l → marks_in (ms ++ ns) ≡ marks_of k ++ marks_of l
  same_marks ms ns k l e f = map-append mark_of ms ns ∙ (ap (λ zs. zs ++ marks_in ns) e ∙ ap (λ zs. marks_of k ++ zs) f)

  module _ (ctx : List ℕ) where
    of_apply : (n : ℕ) (ss os : List Op) (ms ns : List declared.Mark) (k l : Sketch) → AreOf T cells F N ctx n ss ms k → AreOf T cells F N ctx (n + count k) os ns l
        → AreOf T cells F N ctx n (ss ++ (os ++ op.Apply ∷ [])) (ms ++ ns) (apply k l)
    of_apply n ss os ms ns k l a b = record {
      items = same_items ss os op.Apply (steps_of k) (steps_of l) a.items b.items;
      fit = (a.fit, b.fit);
      marks_are = same_marks ms ns k l a.marks_are b.marks_are;
      typed = λ below. All-append (OpTyped T N (length F)) ss (os ++ op.Apply ∷ []) (a.typed below)
          (All-append (OpTyped T N (length F)) os (op.Apply ∷ []) (b.typed (below_more n (n + count k) ctx (omega arith) below)) (all_one (OpTyped T N (length F)) op.Apply tt));
      fits = All-append (OpFits T cells) ss (os ++ op.Apply ∷ []) a.fits (All-append (OpFits T cells) os (op.Apply ∷ []) b.fits (all_one (OpFits T cells) op.Apply tt));
      within = All-append (λ i. variable_of N (mark_of i) < N + length F) ms ns a.within b.within;
    }

    of_behind : (n : ℕ) (ss os : List Op) (ms ns : List declared.Mark) (k l : Sketch) → AreOf T cells F N ctx n ss ms k → AreOf T cells F N ctx (n + count k) os ns l
        → AreOf T cells F N ctx n (ss ++ (os ++ op.Behind ∷ [])) (ms ++ ns) (behind k l)
    of_behind n ss os ms ns k l a b = record {
      items = same_items ss os op.Behind (steps_of k) (steps_of l) a.items b.items;
      fit = (a.fit, b.fit);
      marks_are = same_marks ms ns k l a.marks_are b.marks_are;
      typed = λ below. All-append (OpTyped T N (length F)) ss (os ++ op.Behind ∷ []) (a.typed below)
          (All-append (OpTyped T N (length F)) os (op.Behind ∷ []) (b.typed (below_more n (n + count k) ctx (omega arith) below)) (all_one (OpTyped T N (length F)) op.Behind tt));
      fits = All-append (OpFits T cells) ss (os ++ op.Behind ∷ []) a.fits (All-append (OpFits T cells) os (op.Behind ∷ []) b.fits (all_one (OpFits T cells) op.Behind tt));
      within = All-append (λ i. variable_of N (mark_of i) < N + length F) ms ns a.within b.within;
    }

    of_equal : (n : ℕ) (ss os : List Op) (ms ns : List declared.Mark) (k l : Sketch) → n < N → AreOf T cells F N ctx (suc n) ss ms k → AreOf T cells F N ctx (suc n + count k) os ns l
        → AreOf T cells F N ctx n (ss ++ (os ++ op.Equal n ∷ [])) (ms ++ ns) (equal n k l)
    of_equal n ss os ms ns k l h a b = record {
      items = same_items ss os (op.Equal n) (steps_of k) (steps_of l) a.items b.items;
      fit = (refl, a.fit, b.fit);
      marks_are = same_marks ms ns k l a.marks_are b.marks_are;
      typed = λ below. All-append (OpTyped T N (length F)) ss (os ++ op.Equal n ∷ []) (a.typed (below_more n (suc n) ctx (omega arith) below))
          (All-append (OpTyped T N (length F)) os (op.Equal n ∷ []) (b.typed (below_more n (suc n + count k) ctx (omega arith) below)) (all_one (OpTyped T N (length F)) (op.Equal n) h));
      fits = All-append (OpFits T cells) ss (os ++ op.Equal n ∷ []) a.fits (All-append (OpFits T cells) os (op.Equal n ∷ []) b.fits (all_one (OpFits T cells) (op.Equal n) tt));
      within = All-append (λ i. variable_of N (mark_of i) < N + length F) ms ns a.within b.within;
    }

    inside : (n : ℕ) → AreBelow n ctx → AreBelow (suc n) (n ∷ ctx)
    inside n below = (omega arith, below_more n (suc n) ctx (omega arith) below)

    of_abs : (n : ℕ) (x : Name) (p : ℕ) (ss : List Op) (ms : List declared.Mark) (k : Sketch) → n < N → AreOf T cells F N (n ∷ ctx) (suc n) ss ms k
        → AreOf T cells F N ctx n (ss ++ op.Abs x n p ∷ []) (mark.Binder n p ∷ ms) (abs x n p k)
    of_abs n x p ss ms k h a = record {
      items = one_more ss (op.Abs x n p) (steps_of k) a.items;
      fit = (refl, a.fit);
      marks_are = ap (λ zs. mark_of (mark.Binder n p) ∷ zs) a.marks_are;
      typed = λ below. All-append (OpTyped T N (length F)) ss (op.Abs x n p ∷ []) (a.typed (inside n below)) (all_one (OpTyped T N (length F)) (op.Abs x n p) h);
      fits = All-append (OpFits T cells) ss (op.Abs x n p ∷ []) a.fits (all_one (OpFits T cells) (op.Abs x n p) tt);
      within = All-cons (λ i. variable_of N (mark_of i) < N + length F) (mark.Binder n p) ms (omega arith) a.within;
    }

    of_bind : (n : ℕ) (q : Binding) (b : Binds) (x : Name) (p : ℕ) (w : Option TypeId) (W : Option Ty) (ss : List Op) (ms : List declared.Mark) (k : Sketch) → n < N → binding_of b ≡ q → HoldsWritten T w → option_map (type_of T) w ≡ W
        → AreOf T cells F N (n ∷ ctx) (suc n) ss ms k → AreOf T cells F N ctx n (ss ++ op.Bind b x n p w ∷ []) (mark.Binder n p ∷ ms) (bind q x n p W k)
    of_bind n q b x p w W ss ms k h e held f a = record {
      items = one_more ss (op.Bind b x n p w) (steps_of k) a.items ∙ ap (λ i. steps_of k ++ i ∷ []) (ap (λ r. bind_item r x n p (option_map (type_of T) w)) e ∙ ap (bind_item q x n p) f);
      fit = (refl, a.fit);
      marks_are = ap (λ zs. mark_of (mark.Binder n p) ∷ zs) a.marks_are;
      typed = λ below. All-append (OpTyped T N (length F)) ss (op.Bind b x n p w ∷ []) (a.typed (inside n below)) (all_one (OpTyped T N (length F)) (op.Bind b x n p w) (h, held));
      fits = All-append (OpFits T cells) ss (op.Bind b x n p w ∷ []) a.fits (all_one (OpFits T cells) (op.Bind b x n p w) tt);
      within = All-cons (λ i. variable_of N (mark_of i) < N + length F) (mark.Binder n p) ms (omega arith) a.within;
    }

apply_is : (f g : Found) (k l : Sketch) → f ≡ Ok (erase k) → g ≡ Ok (erase l) → made_of_both names.apply f g ≡ Ok (erase (apply k l))
apply_is f g k l e h = ap (λ r. made_of_both names.apply r g) e ∙ ap (made_of (names.apply (erase k))) h

behind_is : (f g : Found) (k l : Sketch) → f ≡ Ok (erase k) → g ≡ Ok (erase l) → made_of_both names.behind f g ≡ Ok (erase (behind k l))
behind_is f g k l e h = ap (λ r. made_of_both names.behind r g) e ∙ ap (made_of (names.behind (erase k))) h

equal_is : (f g : Found) (n : ℕ) (k l : Sketch) → f ≡ Ok (erase k) → g ≡ Ok (erase l) → made_of_both names.equal f g ≡ Ok (erase (equal n k l))
equal_is f g n k l e h = ap (λ r. made_of_both names.equal r g) e ∙ ap (made_of (names.equal (erase k))) h

module _ (store : Contents) where
  module _ (s t : Table) (r0 r1 r2 : Row) (f g : Found) (e : IsExtendedBy s t) (a : Grew s store r0 r1 f) (b : Grew t store r1 r2 g) where
    first_becomes : (T : Table) (F : List Name) (N : ℕ) → Become t r2.names.items (length r2.variables.items) T F N → Become s r1.names.items (length r1.variables.items) T F N
    first_becomes T F N later = become_less s t T r1.names.items r2.names.items F (length r1.variables.items) (length r2.variables.items) N b.names e b.names_are (omega (arith, b.variables)) later

    second_of : (T : Table) (F : List Name) (N n : ℕ) → n ≡ length r0.variables.items → Become t r2.names.items (length r2.variables.items) T F N
        → AreOf T store.cells F N (nodes_in r0.bound.items) (n + count a.sketch) b.steps b.marks b.sketch
    second_of T F N n is later =
        subst (λ m. AreOf T store.cells F N (nodes_in r0.bound.items) m b.steps b.marks b.sketch) (a.variables ∙ ap (λ m. m + count a.sketch) (sym is))
        (subst (λ bs. AreOf T store.cells F N (nodes_in bs) (length r1.variables.items) b.steps b.marks b.sketch) a.bound (b.of T F N later))

  put_becomes : (t T : Table) (r q : Row) (o : Op) (F : List Name) (N : ℕ) → Puts r q o → Become t q.names.items (length q.variables.items) T F N → Become t r.names.items (length r.variables.items) T F N
  put_becomes t T r q o F N p later =
      become_less t t T r.names.items q.names.items F (length r.variables.items) (length q.variables.items) N [] (extended_by_itself t) (p.names ∙ sym (append-nil r.names.items)) (omega (arith, p.variables)) later

  unbound_becomes : (t T : Table) (r q : Row) (bs : List Bound) (o : Op) (F : List Name) (N : ℕ) → Unbinds r q bs o → Become t q.names.items (length q.variables.items) T F N → Become t r.names.items (length r.variables.items) T F N
  unbound_becomes t T r q bs o F N p later =
      become_less t t T r.names.items q.names.items F (length r.variables.items) (length q.variables.items) N [] (extended_by_itself t) (p.names ∙ sym (append-nil r.names.items)) (omega (arith, p.variables)) later

  -- one expression is given another
  pub grew_apply : (s t : Table) (r0 r1 r2 r3 : Row) (f g : Found) → IsExtendedBy s t → Grew s store r0 r1 f → Grew t store r1 r2 g → Puts r2 r3 op.Apply → Grew t store r0 r3 (made_of_both names.apply f g)
  grew_apply s t r0 r1 r2 r3 f g e a b p = record {
    sketch = apply a.sketch b.sketch;
    is = apply_is f g a.sketch b.sketch a.is b.is;
    bound = p.bound ∙ (b.bound ∙ a.bound);
    steps = a.steps ++ (b.steps ++ op.Apply ∷ []);
    steps_are = both_behind r0.steps.items r1.steps.items r2.steps.items r3.steps.items a.steps b.steps (op.Apply ∷ []) a.steps_are b.steps_are p.steps;
    marks = a.marks ++ b.marks;
    marks_are = p.marks ∙ behind_twice r0.marks.items r1.marks.items r2.marks.items a.marks b.marks a.marks_are b.marks_are;
    names = a.names ++ b.names;
    names_are = p.names ∙ behind_twice r0.names.items r1.names.items r2.names.items a.names b.names a.names_are b.names_are;
    apart = λ h. subst AreApart (sym p.names) (b.apart (a.apart h));
    order = p.names ∙ names_twice r0.names.items r1.names.items r2.names.items (free_names (erase a.sketch)) (free_names (erase b.sketch)) a.order b.order;
    variables = omega (arith, p.variables, b.variables, a.variables);
    of = λ T F N later.
        let l = put_becomes t T r2 r3 op.Apply F N p later in
        of_apply T store.cells F N (nodes_in r0.bound.items) (length r0.variables.items) a.steps b.steps a.marks b.marks a.sketch b.sketch
        (a.of T F N (first_becomes s t r0 r1 r2 f g e a b T F N l)) (second_of s t r0 r1 r2 f g e a b T F N (length r0.variables.items) refl l);
    room = omega (arith, a.room, b.room, p.variables, ap length p.names, ap length p.steps, length-append r2.steps.items (op.Apply ∷ []));
  }

  -- one expression, and behind it what takes it
  pub grew_behind : (s t : Table) (r0 r1 r2 r3 : Row) (f g : Found) → IsExtendedBy s t → Grew s store r0 r1 f → Grew t store r1 r2 g → Puts r2 r3 op.Behind → Grew t store r0 r3 (made_of_both names.behind f g)
  grew_behind s t r0 r1 r2 r3 f g e a b p = record {
    sketch = behind a.sketch b.sketch;
    is = behind_is f g a.sketch b.sketch a.is b.is;
    bound = p.bound ∙ (b.bound ∙ a.bound);
    steps = a.steps ++ (b.steps ++ op.Behind ∷ []);
    steps_are = both_behind r0.steps.items r1.steps.items r2.steps.items r3.steps.items a.steps b.steps (op.Behind ∷ []) a.steps_are b.steps_are p.steps;
    marks = a.marks ++ b.marks;
    marks_are = p.marks ∙ behind_twice r0.marks.items r1.marks.items r2.marks.items a.marks b.marks a.marks_are b.marks_are;
    names = a.names ++ b.names;
    names_are = p.names ∙ behind_twice r0.names.items r1.names.items r2.names.items a.names b.names a.names_are b.names_are;
    apart = λ h. subst AreApart (sym p.names) (b.apart (a.apart h));
    order = p.names ∙ names_twice r0.names.items r1.names.items r2.names.items (free_names (erase a.sketch)) (free_names (erase b.sketch)) a.order b.order;
    variables = omega (arith, p.variables, b.variables, a.variables);
    of = λ T F N later.
        let l = put_becomes t T r2 r3 op.Behind F N p later in
        of_behind T store.cells F N (nodes_in r0.bound.items) (length r0.variables.items) a.steps b.steps a.marks b.marks a.sketch b.sketch
        (a.of T F N (first_becomes s t r0 r1 r2 f g e a b T F N l)) (second_of s t r0 r1 r2 f g e a b T F N (length r0.variables.items) refl l);
    room = omega (arith, a.room, b.room, p.variables, ap length p.names, ap length p.steps, length-append r2.steps.items (op.Behind ∷ []));
  }

  -- two sides of an equation
  pub grew_equal : (s t : Table) (r0 q r1 r2 r3 : Row) (f g : Found) (o : Infix) (n : ℕ) → IsExtendedBy s t → EquationMet r0 q o n → Grew s store q r1 f → Grew t store r1 r2 g → Puts r2 r3 (op.Equal n)
      → Grew t store r0 r3 (made_of_both names.equal f g)
  grew_equal s t r0 q r1 r2 r3 f g o n e m a b p = record {
    sketch = equal (length r0.variables.items) a.sketch b.sketch;
    is = equal_is f g (length r0.variables.items) a.sketch b.sketch a.is b.is;
    bound = p.bound ∙ (b.bound ∙ (a.bound ∙ m.bound));
    steps = a.steps ++ (b.steps ++ op.Equal (length r0.variables.items) ∷ []);
    steps_are = both_behind r0.steps.items r1.steps.items r2.steps.items r3.steps.items a.steps b.steps (op.Equal (length r0.variables.items) ∷ []) (a.steps_are ∙ ap (λ zs. zs ++ a.steps) m.steps) b.steps_are
        (p.steps ∙ ap (λ i. r2.steps.items ++ op.Equal i ∷ []) m.node_is);
    marks = a.marks ++ b.marks;
    marks_are = p.marks ∙ behind_twice r0.marks.items r1.marks.items r2.marks.items a.marks b.marks (a.marks_are ∙ ap (λ zs. zs ++ a.marks) m.marks) b.marks_are;
    names = a.names ++ b.names;
    names_are = p.names ∙ behind_twice r0.names.items r1.names.items r2.names.items a.names b.names (a.names_are ∙ ap (λ zs. zs ++ a.names) m.names) b.names_are;
    apart = λ h. subst AreApart (sym p.names) (b.apart (a.apart (subst AreApart (sym m.names) h)));
    order = p.names ∙ names_twice r0.names.items r1.names.items r2.names.items (free_names (erase a.sketch)) (free_names (erase b.sketch)) (a.order ∙ ap (λ zs. with_names zs (free_names (erase a.sketch))) m.names) b.order;
    variables = omega (arith, p.variables, b.variables, a.variables, m.variables);
    of = λ T F N later.
        let l = put_becomes t T r2 r3 (op.Equal n) F N p later in
        let here : suc (length r0.variables.items) ≡ length q.variables.items = omega (arith, m.variables) in
        let second = second_of s t q r1 r2 f g e a b T F N (suc (length r0.variables.items)) here l in
        let first = a.of T F N (first_becomes s t q r1 r2 f g e a b T F N l) in
        of_equal T store.cells F N (nodes_in r0.bound.items) (length r0.variables.items) a.steps b.steps a.marks b.marks a.sketch b.sketch (omega (arith, l.variables, b.variables, a.variables, m.variables))
        (subst (λ i. AreOf T store.cells F N (nodes_in r0.bound.items) i a.steps a.marks a.sketch) (sym here) (subst (λ bs. AreOf T store.cells F N (nodes_in bs) (length q.variables.items) a.steps a.marks a.sketch) m.bound first))
        (subst (λ bs. AreOf T store.cells F N (nodes_in bs) (suc (length r0.variables.items) + count a.sketch) b.steps b.marks b.sketch) m.bound second);
    room = omega (arith, a.room, b.room, p.variables, m.variables, ap length m.steps, ap length m.names, ap length p.names, ap length p.steps, length-append r2.steps.items (op.Equal n ∷ []));
  }

  module _ (t : Table) (r0 r1 r2 r3 : Row) (x : Name) (p n : ℕ) (g : Found) (o : Op) (h : BindsName r0 r1 x p n) (a : Grew t store r1 r2 g) (u : Unbinds r2 r3 r0.bound.items o) where
    body_of : (T : Table) (F : List Name) (N : ℕ) → Become t r3.names.items (length r3.variables.items) T F N
        → AreOf T store.cells F N (length r0.variables.items ∷ nodes_in r0.bound.items) (suc (length r0.variables.items)) a.steps a.marks a.sketch
    body_of T F N later =
        let here : length r1.variables.items ≡ suc (length r0.variables.items) = omega (arith, h.variables) in
        let nodes : nodes_in r1.bound.items ≡ length r0.variables.items ∷ nodes_in r0.bound.items = ap nodes_in h.bound ∙ (nodes_last r0.bound.items (record { name = x; node = n }) ∙ ap (λ i. i ∷ nodes_in r0.bound.items) h.node_is) in
        subst (λ i. AreOf T store.cells F N (length r0.variables.items ∷ nodes_in r0.bound.items) i a.steps a.marks a.sketch) here
        (subst (λ ctx. AreOf T store.cells F N ctx (length r1.variables.items) a.steps a.marks a.sketch) nodes (a.of T F N (unbound_becomes t T r2 r3 r0.bound.items o F N u later)))

    steps_under : (m : Op) → o ≡ m → r3.steps.items ≡ r0.steps.items ++ (a.steps ++ m ∷ [])
    steps_under m e = behind_twice r0.steps.items r2.steps.items r3.steps.items a.steps (m ∷ []) (a.steps_are ∙ ap (λ zs. zs ++ a.steps) h.steps) (u.steps ∙ ap (λ i. r2.steps.items ++ i ∷ []) e)

    marks_under : r3.marks.items ≡ r0.marks.items ++ (mark.Binder (length r0.variables.items) p ∷ a.marks)
    marks_under = u.marks ∙ behind_twice r0.marks.items r1.marks.items r2.marks.items (mark.Binder (length r0.variables.items) p ∷ []) a.marks
        (h.marks ∙ ap (λ i. r0.marks.items ++ mark.Binder i p ∷ []) h.node_is) a.marks_are

    names_under : r3.names.items ≡ r0.names.items ++ a.names
    names_under = u.names ∙ (a.names_are ∙ ap (λ zs. zs ++ a.names) h.names)

    room_under : length r3.variables.items + length r3.names.items + length r0.steps.items ≤ length r0.variables.items + length r0.names.items + length r3.steps.items
    room_under = omega (arith, a.room, h.variables, u.variables, ap length h.names, ap length u.names, ap length h.steps, ap length u.steps, length-append r2.steps.items (o ∷ []))

    within_all : (T : Table) (F : List Name) (N : ℕ) → Become t r3.names.items (length r3.variables.items) T F N → length r0.variables.items < N
    within_all T F N later = omega (arith, later.variables, u.variables, a.variables, h.variables)

    -- an abstraction over a name
    pub grew_abs : o ≡ op.Abs x n p → Grew t store r0 r3 (made_of (names.abs x p) g)
    grew_abs e = record {
      sketch = abs x (length r0.variables.items) p a.sketch;
      is = ap (made_of (names.abs x p)) a.is;
      bound = u.bound;
      steps = a.steps ++ op.Abs x (length r0.variables.items) p ∷ [];
      steps_are = steps_under (op.Abs x (length r0.variables.items) p) (e ∙ ap (λ i. op.Abs x i p) h.node_is);
      marks = mark.Binder (length r0.variables.items) p ∷ a.marks;
      marks_are = marks_under;
      names = a.names;
      names_are = names_under;
      apart = λ k. subst AreApart (sym u.names) (a.apart (subst AreApart (sym h.names) k));
      order = u.names ∙ (a.order ∙ ap (λ zs. with_names zs (free_names (erase a.sketch))) h.names);
      variables = omega (arith, u.variables, a.variables, h.variables);
      of = λ T F N later. of_abs T store.cells F N (nodes_in r0.bound.items) (length r0.variables.items) x p a.steps a.marks a.sketch (within_all T F N later) (body_of T F N later);
      room = room_under;
    }

    -- a quantifier over a name
    pub grew_bind : (b : Binds) (q : Binding) (w : Option TypeId) (W : Option Ty) → o ≡ op.Bind b x n p w → binding_of b ≡ q → ((T : Table) → IsExtendedBy t T → HoldsWritten T w × (option_map (type_of T) w ≡ W))
        → Grew t store r0 r3 (made_of (names.bind q x p W) g)
    grew_bind b q w W e is written = record {
      sketch = bind q x (length r0.variables.items) p W a.sketch;
      is = ap (made_of (names.bind q x p W)) a.is;
      bound = u.bound;
      steps = a.steps ++ op.Bind b x (length r0.variables.items) p w ∷ [];
      steps_are = steps_under (op.Bind b x (length r0.variables.items) p w) (e ∙ ap (λ i. op.Bind b x i p w) h.node_is);
      marks = mark.Binder (length r0.variables.items) p ∷ a.marks;
      marks_are = marks_under;
      names = a.names;
      names_are = names_under;
      apart = λ k. subst AreApart (sym u.names) (a.apart (subst AreApart (sym h.names) k));
      order = u.names ∙ (a.order ∙ ap (λ zs. with_names zs (free_names (erase a.sketch))) h.names);
      variables = omega (arith, u.variables, a.variables, h.variables);
      of = λ T F N later.
          let there = written T later.table in
          of_bind T store.cells F N (nodes_in r0.bound.items) (length r0.variables.items) q b x p w W a.steps a.marks a.sketch (within_all T F N later) is there.0 there.1 (body_of T F N later);
      room = room_under;
    }
