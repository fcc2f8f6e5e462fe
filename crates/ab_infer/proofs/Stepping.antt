-- Each step goes on from values that are right to values that are right.
use Rattle.std.specs.List.{All}
use Rattle.std.specs.Prelude.{MatchOption}
use Rattle.std.proofs.Common.{◌≡◌, ℕ, zero, suc, ◌+◌, ◌<◌, List, [], ◌∷◌, map, length, drop, codes, get_or, Option, Some, None, option_map, refl, sym, ap, ◌∙◌, subst}
use Rattle.std.proofs.lemmas.List.Elements.{All-head, All-tail}
use Rattle.ab_term.specs.Types.{Ty, prop}
use Rattle.ab_term.specs.Logical.{logical_type, equality}
use Rattle.ab_term.specs.Terms.{index, logical, Terms, no_terms, term, lam, Read}
use Rattle.ab_term.specs.Typing.{type_at, head_type}
use Rattle.ab_term.specs.Expansion.{expansion_of}
use Rattle.ab_norm.specs.ab_types.specs.Entries.{Table, signature}
use Rattle.ab_norm.specs.ab_types.specs.Ids.{type_of}
use Rattle.ab_norm.specs.ab_types.specs.declared.ids.TypeId.{TypeId}
use Rattle.ab_norm.specs.ab_store.specs.declared.node.TermId.{TermId}
use Rattle.ab_norm.specs.ab_store.specs.declared.node.CellEntry.{CellEntry}
use Rattle.ab_norm.specs.ab_store.specs.declared.node.Head as declared
use Rattle.ab_norm.specs.ab_store.specs.declared.node.Head.TheVariants.{Index, Logic}
use Rattle.ab_norm.specs.ab_store.specs.declared.node.Logical as store
use Rattle.ab_norm.specs.ab_store.specs.declared.node.Logical.TheVariants.{Equal}
use Rattle.ab_norm.specs.ab_store.specs.Trees.{Contents, Holds, head_reading, logical_of, tree_of}
use Rattle.ab_norm.specs.NodeGrowth.{AddsTypedTerms}
use Rattle.ab_meaning.specs.ResolvedNames.{Name, Binding, quantified, pi, binding_head, binding_type}
use Rattle.ab_grammar.specs.declared.Quant.TheVariants.{Forall, Exists, Nabla}
use Rattle.ab_meaning.specs.Normal.{left_type, given_all, long_form, normal_given}
use Rattle.ab_inference.specs.Sketches as sketch
use Rattle.ab_inference.specs.Sketches.{Sketch, term_of, Fit, variable_at, count}
use Rattle.ab_inference.specs.declared.op.Op.{Op}
use Rattle.ab_inference.specs.Programs.{Item, Runs, item_of, items_of, bound_item, known_item, free_item, apply_item, behind_item, abs_item, equal_item, bind_item, no_item, run_bound, run_known, run_free, run_apply, run_behind, run_abs, run_equal, run_bind}
use Rattle.ab_infer.specs.declared.value.Value.{Value}
use Rattle.ab_infer.specs.declared.value.Value.TheVariants.{Given, Done}
use Rattle.ab_infer.specs.NormalTerms.{IsBuilt, BecomeHeads}
use Rattle.ab_infer.specs.Values.{means, HoldsValue, turned, Whole, IsRight, AreRight, Going, Popped, Advances}
use Rattle.ab_infer.proofs.Means.{means_kept, values_kept}
use Rattle.ab_infer.proofs.Turned.{from_here}

variable_type : (v : ℕ → Ty) (ctx : List ℕ) (i : ℕ) → type_at (map v ctx) i ≡ option_map v (variable_at ctx i)
variable_type v [] i = refl
variable_type v (n ∷ ns) zero = refl
variable_type v (n ∷ ns) (suc i) = variable_type v ns i

binding_left : (q : Binding) (A : Ty) (u : Read) (us : Terms ℕ (List ℕ)) → left_type (logical_type (binding_head q A)) (term u us) ≡ left_type (binding_type q) us
binding_left (quantified Forall) A u us = refl
binding_left (quantified Exists) A u us = refl
binding_left (quantified Nabla) A u us = refl
binding_left pi A u us = refl

module _ (types : Table) (base : ℕ) (v : ℕ → Ty) (x : Whole) where
  right_kept : (s t : Contents) → AddsTypedTerms types s t → (k : Sketch) (w : Value) → HoldsValue types s w → IsRight types s base v x k w → IsRight types t base v x k w
  right_kept s t adds k w held r = record { is = λ ctx n fit us. r.is ctx n fit us ∙ sym (means_kept types s t adds w held us) }

  pub are_kept : (s t : Contents) → AddsTypedTerms types s t → (ks : List Sketch) (ws : List Value) → All (HoldsValue types s) ws → AreRight types s base v x ks ws → AreRight types t base v x ks ws
  are_kept s t adds [] [] held r = r
  are_kept s t adds [] (w ∷ ws) held r = r
  are_kept s t adds (k ∷ ks) [] held r = r
  are_kept s t adds (k ∷ ks) (w ∷ ws) held r =
      (right_kept s t adds k w (All-head (HoldsValue types s) w ws held) r.0, are_kept s t adds ks ws (All-tail (HoldsValue types s) w ws held) r.1)

  module _ (rest : List Item) where
    abbrev Here : Contents → Item → List Value → Type 0
    Here s item ws = Going types s base v x (item ∷ rest) ws

    abbrev There : Contents → List Value → Type 0
    There s ws = Going types s base v x rest ws

    -- heads that are given nothing yet
    pub run_name : (s : Contents) (i n : ℕ) (ty : TypeId) (ws : List Value) → type_of types ty ≡ v n → Here s (bound_item i n) ws → There s (Given (Index i) ty [] ∷ ws)
    run_name s i n ty ws is here = go here.parts here.runs here.right
      where
        right : IsRight types s base v x (sketch.bound i n) (Given (Index i) ty [])
        right = record {
          is = λ ctx m fit us.
              ap (λ o. long_form o (index i) us) (variable_type v ctx i ∙ ap (option_map v) fit)
              ∙ ap (λ A. expansion_of (codes "x") (left_type A us) (index i) us) (sym is);
        }

        go : (st : List Sketch) → Runs (bound_item i n ∷ rest) st (x.expression ∷ []) → AreRight types s base v x st ws → There s (Given (Index i) ty [] ∷ ws)
        go st (run_bound r) are = record { parts = sketch.bound i n ∷ st; runs = r; right = (right, are) }

    pub run_head : (s : Contents) (h : declared.Head) (ty : TypeId) (ws : List Value) → ((G : List Ty) → head_type (signature types) G (head_reading types s h) ≡ Some (type_of types ty))
        → Here s (known_item (head_reading types s h) (type_of types ty)) ws → There s (Given h ty [] ∷ ws)
    run_head s h ty ws is here = go here.parts here.runs here.right
      where
        right : IsRight types s base v x (sketch.known (head_reading types s h) (type_of types ty)) (Given h ty [])
        right = record { is = λ ctx m fit us. ap (λ o. long_form o (head_reading types s h) us) (is (map v ctx)) }

        go : (st : List Sketch) → Runs (known_item (head_reading types s h) (type_of types ty) ∷ rest) st (x.expression ∷ []) → AreRight types s base v x st ws → There s (Given h ty [] ∷ ws)
        go st (run_known r) are = record { parts = sketch.known (head_reading types s h) (type_of types ty) ∷ st; runs = r; right = (right, are) }

    pub run_free_name : (s : Contents) (j p : ℕ) (h : declared.Head) (ty : TypeId) (ws : List Value) → type_of types ty ≡ v (base + j)
        → ((G : List Ty) → head_type (signature types) G (head_reading types s h) ≡ Some (type_of types ty))
        → (j < length x.names → head_reading types s h ≡ x.made (get_or x.names j []) (v (base + j)))
        → Here s (free_item (get_or x.names j []) j p) ws → There s (Given h ty [] ∷ ws)
    run_free_name s j p h ty ws at is becomes here = go here.parts here.runs here.right
      where
        right : IsRight types s base v x (sketch.free (get_or x.names j []) j p) (Given h ty [])
        right = record {
          is = λ ctx m fit us.
              ap (λ g. long_form (head_type (signature types) (map v ctx) g) g us) (sym (becomes fit.0))
              ∙ ap (λ o. long_form o (head_reading types s h) us) (is (map v ctx));
        }

        go : (st : List Sketch) → Runs (free_item (get_or x.names j []) j p ∷ rest) st (x.expression ∷ []) → AreRight types s base v x st ws → There s (Given h ty [] ∷ ws)
        go st (run_free r) are = record { parts = sketch.free (get_or x.names j []) j p ∷ st; runs = r; right = (right, are) }

    -- a function that is given its argument
    module _ (s0 s1 s2 : Contents) (one : AddsTypedTerms types s0 s1) (two : AddsTypedTerms types s1 s2) where
      pub run_application : (before after : List Value) (value function more : Value) (argument : TermId)
          → before ≡ value ∷ function ∷ after → All (HoldsValue types s0) before
          → tree_of types s1 argument ≡ means types s0 value no_terms
          → ((us : Terms ℕ (List ℕ)) → means types s2 more us ≡ means types s1 function (term (tree_of types s1 argument) us))
          → Here s0 apply_item before → There s2 (more ∷ after)
      run_application before after value function more argument was held tree made here =
          go here.parts here.runs (subst (AreRight types s0 base v x here.parts) was here.right)
        where
          both : All (HoldsValue types s0) (value ∷ function ∷ after)
          both = subst (All (HoldsValue types s0)) was held

          functions : All (HoldsValue types s0) (function ∷ after)
          functions = All-tail (HoldsValue types s0) value (function ∷ after) both

          go : (st : List Sketch) → Runs (apply_item ∷ rest) st (x.expression ∷ []) → AreRight types s0 base v x st (value ∷ function ∷ after) → There s2 (more ∷ after)
          go [] r are = elim r [ ]
          go (f ∷ []) r are = elim r [ ]
          go (f ∷ e ∷ st) (run_apply r) are = record {
            parts = sketch.apply e f ∷ st;
            runs = r;
            right = (
              record {
                is = λ ctx n fit us.
                    ap (λ u. normal_given (signature types) (map v ctx) (term_of base v x.made e) (term u us)) (are.0.is ctx (n + count e) fit.1 no_terms ∙ sym tree)
                    ∙ are.1.0.is ctx n fit.0 (term (tree_of types s1 argument) us)
                    ∙ sym (means_kept types s0 s1 one function (All-head (HoldsValue types s0) function after functions) (term (tree_of types s1 argument) us))
                    ∙ sym (made us);
              },
              are_kept s1 s2 two st after (kept after (All-tail (HoldsValue types s0) function after functions)) (are_kept s0 s1 one st after (All-tail (HoldsValue types s0) function after functions) are.1.1),
            );
          }
            where
              kept : (ws : List Value) → All (HoldsValue types s0) ws → All (HoldsValue types s1) ws
              kept ws h = values_kept types s0 s1 one ws h

    -- an argument, and behind it the function that takes it
    module _ (s0 s1 s2 : Contents) (one : AddsTypedTerms types s0 s1) (two : AddsTypedTerms types s1 s2) where
      pub run_application_behind : (before after : List Value) (function value more : Value) (argument : TermId)
          → before ≡ function ∷ value ∷ after → All (HoldsValue types s0) before
          → tree_of types s1 argument ≡ means types s0 value no_terms
          → ((us : Terms ℕ (List ℕ)) → means types s2 more us ≡ means types s1 function (term (tree_of types s1 argument) us))
          → Here s0 behind_item before → There s2 (more ∷ after)
      run_application_behind before after function value more argument was held tree made here =
          go here.parts here.runs (subst (AreRight types s0 base v x here.parts) was here.right)
        where
          both : All (HoldsValue types s0) (function ∷ value ∷ after)
          both = subst (All (HoldsValue types s0)) was held

          values : All (HoldsValue types s0) (value ∷ after)
          values = All-tail (HoldsValue types s0) function (value ∷ after) both

          others : All (HoldsValue types s0) after
          others = All-tail (HoldsValue types s0) value after values

          go : (st : List Sketch) → Runs (behind_item ∷ rest) st (x.expression ∷ []) → AreRight types s0 base v x st (function ∷ value ∷ after) → There s2 (more ∷ after)
          go [] r are = elim r [ ]
          go (f ∷ []) r are = elim r [ ]
          go (f ∷ e ∷ st) (run_behind r) are = record {
            parts = sketch.behind e f ∷ st;
            runs = r;
            right = (
              record {
                is = λ ctx n fit us.
                    ap (λ u. normal_given (signature types) (map v ctx) (term_of base v x.made f) (term u us)) (are.1.0.is ctx n fit.0 no_terms ∙ sym tree)
                    ∙ are.0.is ctx (n + count e) fit.1 (term (tree_of types s1 argument) us)
                    ∙ sym (means_kept types s0 s1 one function (All-head (HoldsValue types s0) function (value ∷ after) both) (term (tree_of types s1 argument) us))
                    ∙ sym (made us);
              },
              are_kept s1 s2 two st after (values_kept types s0 s1 one after others) (are_kept s0 s1 one st after others are.1.1),
            );
          }

    -- binders
    module _ (s0 s1 : Contents) (adds : AddsTypedTerms types s0 s1) (name : Name) (n p : ℕ) where
      module _ (before after : List Value) (value : Value) (A : Ty) (made : TermId) (at : v n ≡ A) (was : before ≡ value ∷ after) (held : All (HoldsValue types s0) before)
          (tree : tree_of types s1 made ≡ lam A name (means types s0 value no_terms)) where
        given_body : (e : Sketch) (ctx : List ℕ) (m : ℕ) → IsRight types s0 base v x e value → Fit x.names (n ∷ ctx) m e
            → lam (v n) name (normal_given (signature types) (map v (n ∷ ctx)) (term_of base v x.made e) no_terms) ≡ tree_of types s1 made
        given_body e ctx m right fit =
            ap (lam (v n) name) (right.is (n ∷ ctx) m fit no_terms)
            ∙ ap (λ C. lam C name (means types s0 value no_terms)) at
            ∙ sym tree

        values : All (HoldsValue types s0) (value ∷ after)
        values = subst (All (HoldsValue types s0)) was held

        others : (st : List Sketch) → AreRight types s0 base v x st after → AreRight types s1 base v x st after
        others st are = are_kept s0 s1 adds st after (All-tail (HoldsValue types s0) value after values) are

        pub run_abstraction : Here s0 (abs_item name n p) before → There s1 (Done made ∷ after)
        run_abstraction here = go here.parts here.runs (subst (AreRight types s0 base v x here.parts) was here.right)
          where
            go : (st : List Sketch) → Runs (abs_item name n p ∷ rest) st (x.expression ∷ []) → AreRight types s0 base v x st (value ∷ after) → There s1 (Done made ∷ after)
            go [] r are = elim r [ ]
            go (e ∷ st) (run_abs r) are = record {
              parts = sketch.abs name n p e ∷ st;
              runs = r;
              right = (record { is = λ ctx m fit us. ap (λ b. given_all b us) (given_body e ctx (suc m) are.0 fit.1) }, others st are.1);
            }

        pub run_binder : (q : Binding) (w : Option Ty) (l : store.Logical) (left : TypeId) → logical_of types l ≡ binding_head q A → type_of types left ≡ binding_type q
            → Here s0 (bind_item q name n p w) before → There s1 (Given (Logic l) left (made ∷ []) ∷ after)
        run_binder q w l left is left_is here = go here.parts here.runs (subst (AreRight types s0 base v x here.parts) was here.right)
          where
            whole : (e : Sketch) (ctx : List ℕ) (m : ℕ) → IsRight types s0 base v x e value → Fit x.names (n ∷ ctx) (suc m) e → (us : Terms ℕ (List ℕ))
                → normal_given (signature types) (map v ctx) (term_of base v x.made (sketch.bind q name n p w e)) us ≡ means types s1 (Given (Logic l) left (made ∷ [])) us
            whole e ctx m right fit us =
                ap (λ b. expansion_of (codes "x") (left_type (logical_type (binding_head q (v n))) (term b us)) (logical (binding_head q (v n))) (term b us)) (given_body e ctx (suc m) right fit)
                ∙ ap (λ C. expansion_of (codes "x") C (logical (binding_head q (v n))) (term (tree_of types s1 made) us)) (binding_left q (v n) (tree_of types s1 made) us)
                ∙ ap (λ C. expansion_of (codes "x") (left_type (binding_type q) us) (logical (binding_head q C)) (term (tree_of types s1 made) us)) at
                ∙ ap (λ g. expansion_of (codes "x") (left_type (binding_type q) us) (logical g) (term (tree_of types s1 made) us)) (sym is)
                ∙ ap (λ C. expansion_of (codes "x") (left_type C us) (logical (logical_of types l)) (term (tree_of types s1 made) us)) (sym left_is)

            go : (st : List Sketch) → Runs (bind_item q name n p w ∷ rest) st (x.expression ∷ []) → AreRight types s0 base v x st (value ∷ after) → There s1 (Given (Logic l) left (made ∷ []) ∷ after)
            go [] r are = elim r [ ]
            go (e ∷ st) (run_bind r) are = record {
              parts = sketch.bind q name n p w e ∷ st;
              runs = r;
              right = (record { is = λ ctx m fit us. whole e ctx m are.0 fit.1 us }, others st are.1);
            }

    -- an equation
    module _ (s0 s1 s2 : Contents) (one : AddsTypedTerms types s0 s1) (two : AddsTypedTerms types s1 s2) where
      pub run_equation : (n : ℕ) (before after : List Value) (second first : Value) (right left : TermId) (side formula : TypeId)
          → v n ≡ type_of types side → type_of types formula ≡ prop
          → before ≡ second ∷ first ∷ after → All (HoldsValue types s0) before
          → Holds s1 right → tree_of types s1 right ≡ means types s0 second no_terms
          → tree_of types s2 left ≡ means types s1 first no_terms
          → Here s0 (equal_item n) before → There s2 (Given (Logic (Equal side)) formula (left ∷ right ∷ []) ∷ after)
      run_equation n before after second first right left side formula at formula_is was held right_held right_tree left_tree here =
          go here.parts here.runs (subst (AreRight types s0 base v x here.parts) was here.right)
        where
          both : All (HoldsValue types s0) (second ∷ first ∷ after)
          both = subst (All (HoldsValue types s0)) was held

          firsts : All (HoldsValue types s0) (first ∷ after)
          firsts = All-tail (HoldsValue types s0) second (first ∷ after) both

          others : All (HoldsValue types s0) after
          others = All-tail (HoldsValue types s0) first after firsts

          right_is : tree_of types s2 right ≡ means types s0 second no_terms
          right_is = two.before.trees types right right_held ∙ right_tree

          left_is : tree_of types s2 left ≡ means types s0 first no_terms
          left_is = left_tree ∙ means_kept types s0 s1 one first (All-head (HoldsValue types s0) first after firsts) no_terms

          whole : (e f : Sketch) (ctx : List ℕ) (m : ℕ) → IsRight types s0 base v x e first → IsRight types s0 base v x f second
              → Fit x.names ctx (suc m) e → Fit x.names ctx (suc m + count e) f → (us : Terms ℕ (List ℕ))
              → normal_given (signature types) (map v ctx) (term_of base v x.made (sketch.equal n e f)) us ≡ means types s2 (Given (Logic (Equal side)) formula (left ∷ right ∷ [])) us
          whole e f ctx m e_right f_right e_fit f_fit us =
              ap (λ t. expansion_of (codes "x") (left_type prop us) (logical (equality (v n))) (term t (term (normal_given (signature types) (map v ctx) (term_of base v x.made f) no_terms) us)))
              (e_right.is ctx (suc m) e_fit no_terms ∙ sym left_is)
              ∙ ap (λ u. expansion_of (codes "x") (left_type prop us) (logical (equality (v n))) (term (tree_of types s2 left) (term u us)))
              (f_right.is ctx (suc m + count e) f_fit no_terms ∙ sym right_is)
              ∙ ap (λ A. expansion_of (codes "x") (left_type prop us) (logical (equality A)) (term (tree_of types s2 left) (term (tree_of types s2 right) us))) at
              ∙ ap (λ A. expansion_of (codes "x") (left_type A us) (logical (equality (type_of types side))) (term (tree_of types s2 left) (term (tree_of types s2 right) us))) (sym formula_is)

          go : (st : List Sketch) → Runs (equal_item n ∷ rest) st (x.expression ∷ []) → AreRight types s0 base v x st (second ∷ first ∷ after) → There s2 (Given (Logic (Equal side)) formula (left ∷ right ∷ []) ∷ after)
          go [] r are = elim r [ ]
          go (f ∷ []) r are = elim r [ ]
          go (f ∷ e ∷ st) (run_equal r) are = record {
            parts = sketch.equal n e f ∷ st;
            runs = r;
            right = (
              record { is = λ ctx m fit us. whole e f ctx m are.1.0 are.0 fit.1 fit.2 us },
              are_kept s1 s2 two st after (values_kept types s0 s1 one after others) (are_kept s0 s1 one st after others are.1.1),
            );
          }

    -- too few values are left
    pub none_apply : (s : Contents) (ws : List Value) → ws ≡ [] → Here s apply_item ws → ⊥
    none_apply s ws e here = go here.parts here.runs (subst (AreRight types s base v x here.parts) e here.right)
      where
        go : (st : List Sketch) → Runs (apply_item ∷ rest) st (x.expression ∷ []) → AreRight types s base v x st [] → ⊥
        go [] r are = elim r [ ]
        go (f ∷ st) r are = are

    pub one_apply : (s : Contents) (ws : List Value) (w : Value) → ws ≡ w ∷ [] → Here s apply_item ws → ⊥
    one_apply s ws w e here = go here.parts here.runs (subst (AreRight types s base v x here.parts) e here.right)
      where
        go : (st : List Sketch) → Runs (apply_item ∷ rest) st (x.expression ∷ []) → AreRight types s base v x st (w ∷ []) → ⊥
        go [] r are = elim r [ ]
        go (f ∷ []) r are = elim r [ ]
        go (f ∷ e ∷ st) r are = are.1

    pub none_behind : (s : Contents) (ws : List Value) → ws ≡ [] → Here s behind_item ws → ⊥
    none_behind s ws e here = go here.parts here.runs (subst (AreRight types s base v x here.parts) e here.right)
      where
        go : (st : List Sketch) → Runs (behind_item ∷ rest) st (x.expression ∷ []) → AreRight types s base v x st [] → ⊥
        go [] r are = elim r [ ]
        go (f ∷ st) r are = are

    pub one_behind : (s : Contents) (ws : List Value) (w : Value) → ws ≡ w ∷ [] → Here s behind_item ws → ⊥
    one_behind s ws w e here = go here.parts here.runs (subst (AreRight types s base v x here.parts) e here.right)
      where
        go : (st : List Sketch) → Runs (behind_item ∷ rest) st (x.expression ∷ []) → AreRight types s base v x st (w ∷ []) → ⊥
        go [] r are = elim r [ ]
        go (f ∷ []) r are = elim r [ ]
        go (f ∷ e ∷ st) r are = are.1

    pub none_equal : (s : Contents) (n : ℕ) (ws : List Value) → ws ≡ [] → Here s (equal_item n) ws → ⊥
    none_equal s n ws e here = go here.parts here.runs (subst (AreRight types s base v x here.parts) e here.right)
      where
        go : (st : List Sketch) → Runs (equal_item n ∷ rest) st (x.expression ∷ []) → AreRight types s base v x st [] → ⊥
        go [] r are = elim r [ ]
        go (f ∷ st) r are = are

    pub one_equal : (s : Contents) (n : ℕ) (ws : List Value) (w : Value) → ws ≡ w ∷ [] → Here s (equal_item n) ws → ⊥
    one_equal s n ws w e here = go here.parts here.runs (subst (AreRight types s base v x here.parts) e here.right)
      where
        go : (st : List Sketch) → Runs (equal_item n ∷ rest) st (x.expression ∷ []) → AreRight types s base v x st (w ∷ []) → ⊥
        go [] r are = elim r [ ]
        go (f ∷ []) r are = elim r [ ]
        go (f ∷ e ∷ st) r are = are.1

    pub none_abs : (s : Contents) (name : Name) (n p : ℕ) (ws : List Value) → ws ≡ [] → Here s (abs_item name n p) ws → ⊥
    none_abs s name n p ws e here = go here.parts here.runs (subst (AreRight types s base v x here.parts) e here.right)
      where
        go : (st : List Sketch) → Runs (abs_item name n p ∷ rest) st (x.expression ∷ []) → AreRight types s base v x st [] → ⊥
        go [] r are = elim r [ ]
        go (f ∷ st) r are = are

    pub none_bind : (s : Contents) (q : Binding) (name : Name) (n p : ℕ) (w : Option Ty) (ws : List Value) → ws ≡ [] → Here s (bind_item q name n p w) ws → ⊥
    none_bind s q name n p w ws e here = go here.parts here.runs (subst (AreRight types s base v x here.parts) e here.right)
      where
        go : (st : List Sketch) → Runs (bind_item q name n p w ∷ rest) st (x.expression ∷ []) → AreRight types s base v x st [] → ⊥
        go [] r are = elim r [ ]
        go (f ∷ st) r are = are

  -- all steps are taken
  pub at_end : (s t : Contents) (before after : List Value) (value : Value) (made : TermId) → before ≡ value ∷ after → Holds t made → tree_of types t made ≡ means types s value no_terms
      → Fit x.names [] 0 x.expression → Going types s base v x [] before → IsBuilt types t base v x.made x.expression made
  at_end s t before after value made was held tree fit here = go here.parts here.runs (subst (AreRight types s base v x here.parts) was here.right)
    where
      go : (st : List Sketch) → Runs [] st (x.expression ∷ []) → AreRight types s base v x st (value ∷ after) → IsBuilt types t base v x.made x.expression made
      go st no_item are = record { held = held; is = tree ∙ sym (are.0.is [] 0 fit no_terms) }

  pub none_at_end : (s : Contents) (before : List Value) → before ≡ [] → Going types s base v x [] before → ⊥
  none_at_end s before was here = go here.parts here.runs (subst (AreRight types s base v x here.parts) was here.right)
    where
      go : (st : List Sketch) → Runs [] st (x.expression ∷ []) → AreRight types s base v x st [] → ⊥
      go st no_item are = are

-- one step more
pub go_on : (types : Table) (s t : Contents) (base : ℕ) (v : ℕ → Ty) (x : Whole) (cells : List CellEntry) (steps : List Op) (i : ℕ) (op : Op) (frees : List declared.Head) (before after : List Value) (found : Option Value)
    → i < length steps → op ≡ get_or steps i op → s.cells ≡ cells
    → Advances types s t base v (λ y. BecomeHeads types s.cells base v y.made y.names frees) (λ y. item_of types s.cells y.names op) before after found
    → BecomeHeads types cells base v x.made x.names frees
    → Going types s base v x (items_of types cells x.names (drop i steps)) (turned before)
    → MatchOption found ⊥ (λ w. Going types t base v x (items_of types cells x.names (drop (suc i) steps)) (w ∷ turned after))
go_on types s t base v x cells steps i op frees before after found l e same advances becomes going =
    subst (λ cs. BecomeHeads types cs base v x.made x.names frees → Going types s base v x (items_of types cs x.names (drop i steps)) (turned before)
    → MatchOption found ⊥ (λ w. Going types t base v x (items_of types cs x.names (drop (suc i) steps)) (w ∷ turned after))) same
    (λ b g. advances x (items_of types s.cells x.names (drop (suc i) steps)) b
    (subst (λ rest. Going types s base v x (items_of types s.cells x.names rest) (turned before)) (from_here steps i op l e) g))
    becomes going

pub ended : (types : Table) (s t : Contents) (base : ℕ) (v : ℕ → Ty) (x : Whole) (before after : List Value) (term_found : Option TermId)
    → MatchOption term_found (turned before ≡ []) (Popped types s t before after (λ r. r)) → Fit x.names [] 0 x.expression → Going types s base v x [] (turned before)
    → MatchOption term_found ⊥ (IsBuilt types t base v x.made x.expression)
ended types s t base v x before after None e fit going = none_at_end types base v x s (turned before) e going
ended types s t base v x before after (Some made) popped fit going = at_end types base v x s t (turned before) (turned after) popped.value made popped.was popped.held popped.tree fit going
