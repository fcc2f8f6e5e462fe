-- A row that grew from nothing makes the expression.
use Rattle.std.specs.List.{All}
use Rattle.std.proofs.Common.{◌≡◌, ◌+◌, ◌<◌, List, [], ◌∷◌, ◌++◌, length, sym, ap, ◌∙◌, subst, arith, append_assoc, append-nil}
use Rattle.ab_norm.specs.ab_types.specs.Entries.{Table}
use Rattle.ab_norm.specs.ab_types.proofs.Entries.{extended_by_itself}
use Rattle.ab_norm.specs.ab_store.specs.Trees.{Contents}
use Rattle.ab_meaning.specs.ResolvedNames.{Name}
use Rattle.ab_meaning.specs.Scopes.{Found}
use Rattle.ab_inference.specs.Sketches.{Sketch, bound, known, free, apply, behind, abs, equal, bind, erase, variable_of}
use Rattle.ab_inference.specs.Programs.{Item, apply_item, behind_item, abs_item, equal_item, bind_item, Runs, no_item, run_bound, run_known, run_free, run_apply, run_behind, run_abs, run_equal, run_bind, items_of, OpTyped}
use Rattle.ab_inference.specs.Verdicts.{marks_in, mark_of, AreApart}
use Rattle.ab_infer.specs.NameScopes.{nodes_in}
use Rattle.ab_infer.specs.NormalTerms.{OpFits}
use Rattle.ab_infer.specs.declared.row.Row.{Row}
use Rattle.ab_infer.specs.Rows.{steps_of, Become, AreOf, Grew, Makes}
use Rattle.ab_infer.specs.Occurrences.{free_names, with_names}

-- its steps make an expression
makes : (k : Sketch) (rest : List Item) (st out : List Sketch) → Runs rest (k ∷ st) out → Runs (steps_of k ++ rest) st out
makes (bound i n) rest st out r = run_bound r
makes (known h A) rest st out r = run_known r
makes (free x j p) rest st out r = run_free r
makes (apply e f) rest st out r =
    subst (λ is. Runs is st out) (sym (append_assoc (steps_of e) (steps_of f ++ apply_item ∷ []) rest))
    (makes e ((steps_of f ++ apply_item ∷ []) ++ rest) st out
    (subst (λ is. Runs is (e ∷ st) out) (sym (append_assoc (steps_of f) (apply_item ∷ []) rest)) (makes f (apply_item ∷ rest) (e ∷ st) out (run_apply r))))
makes (behind e f) rest st out r =
    subst (λ is. Runs is st out) (sym (append_assoc (steps_of e) (steps_of f ++ behind_item ∷ []) rest))
    (makes e ((steps_of f ++ behind_item ∷ []) ++ rest) st out
    (subst (λ is. Runs is (e ∷ st) out) (sym (append_assoc (steps_of f) (behind_item ∷ []) rest)) (makes f (behind_item ∷ rest) (e ∷ st) out (run_behind r))))
makes (abs x n p e) rest st out r =
    subst (λ is. Runs is st out) (sym (append_assoc (steps_of e) (abs_item x n p ∷ []) rest)) (makes e (abs_item x n p ∷ rest) st out (run_abs r))
makes (equal n e f) rest st out r =
    subst (λ is. Runs is st out) (sym (append_assoc (steps_of e) (steps_of f ++ equal_item n ∷ []) rest))
    (makes e ((steps_of f ++ equal_item n ∷ []) ++ rest) st out
    (subst (λ is. Runs is (e ∷ st) out) (sym (append_assoc (steps_of f) (equal_item n ∷ []) rest)) (makes f (equal_item n ∷ rest) (e ∷ st) out (run_equal r))))
makes (bind q x n p w e) rest st out r =
    subst (λ is. Runs is st out) (sym (append_assoc (steps_of e) (bind_item q x n p w ∷ []) rest)) (makes e (bind_item q x n p w ∷ rest) st out (run_bind r))

whole_runs : (k : Sketch) → Runs (steps_of k) [] (k ∷ [])
whole_runs k = subst (λ is. Runs is [] (k ∷ [])) (append-nil (steps_of k)) (makes k [] [] (k ∷ []) no_item)

apart_empty : (xs : List Name) → xs ≡ [] → AreApart xs
apart_empty xs e i j l m h = let n = ap length e in absurd (omega (arith, n, l))

pub grew_whole : (t : Table) (store : Contents) (r0 r1 : Row) (f : Found) → r0.steps.items ≡ [] → r0.marks.items ≡ [] → r0.names.items ≡ [] → r0.variables.items ≡ [] → r0.bound.items ≡ [] → Grew t store r0 r1 f → Makes t store r1 f
grew_whole t store r0 r1 f steps marks names variables outer g =
    let none : length r0.variables.items ≡ 0 = ap length variables in
    let here : Become t r1.names.items (length r1.variables.items) t r1.names.items (length r1.variables.items) = record { table = extended_by_itself t; more = []; names_are = sym (append-nil r1.names.items); variables = omega arith } in
    let s : r1.steps.items ≡ g.steps = g.steps_are ∙ ap (λ os. os ++ g.steps) steps in
    let m : r1.marks.items ≡ g.marks = g.marks_are ∙ ap (λ os. os ++ g.marks) marks in
    let a : AreOf t store.cells r1.names.items (length r1.variables.items) [] 0 g.steps g.marks g.sketch =
    subst (λ n. AreOf t store.cells r1.names.items (length r1.variables.items) [] n g.steps g.marks g.sketch) none
    (subst (λ bs. AreOf t store.cells r1.names.items (length r1.variables.items) (nodes_in bs) (length r0.variables.items) g.steps g.marks g.sketch) outer (g.of t r1.names.items (length r1.variables.items) here)) in
    record {
      sketch = g.sketch;
      is = g.is;
      runs = subst (λ is. Runs is [] (g.sketch ∷ [])) (sym (ap (items_of t store.cells r1.names.items) s ∙ a.items)) (whole_runs g.sketch);
      fit = a.fit;
      count = omega (arith, g.variables, none);
      apart = g.apart (apart_empty r0.names.items names);
      order = g.order ∙ ap (λ zs. with_names zs (free_names (erase g.sketch))) names;
      marks = ap marks_in m ∙ a.marks_are;
      typed = subst (All (OpTyped t (length r1.variables.items) (length r1.names.items))) (sym s) (a.typed tt);
      fits = subst (All (OpFits t store.cells)) (sym s) a.fits;
      within = subst (All (λ k. variable_of (length r1.variables.items) (mark_of k) < length r1.variables.items + length r1.names.items)) (sym m) a.within;
      room = omega (arith, g.room, none, ap length names, ap length steps);
    }
