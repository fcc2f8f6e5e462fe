-- The names of an expression in goals that are one but for the numbers of their variables: they stand for the same but for these numbers.
use Rattle.std.specs.Prelude.{if◌then◌else◌, ◌==◌, bytes_eq}
use Rattle.std.proofs.Common.{◌≡◌, ℕ, List, [], ◌∷◌, ◌++◌, map, codes, Bool, true, false, Option, Some, None, Ok, Err, option_map, refl, sym, ◌∙◌, ap}
use Rattle.ab_term.specs.Types.{Ty, prop}
use Rattle.ab_term.specs.Terms.{Nominal, nominal, logical, variable}
use Rattle.ab_term.specs.Logical as logic
use Rattle.ab_term.specs.Translation.{translate_head}
use Rattle.ab_term.specs.Typing.{Signature}
use Rattle.ab_grammar.specs.declared.Infix.{Infix}
use Rattle.ab_grammar.specs.declared.Infix.TheVariants.{Arrow, Or, And, Equal, Imply, With, Cons}
use Rattle.ab_grammar.specs.declared.Quant.{Quant}
use Rattle.ab_grammar.specs.Tree as tree
use Rattle.ab_grammar.specs.Tree.{Tree, Trees, no_trees, Focus}
use Rattle.ab_meaning.specs.ResolvedNames.{Name, Resolved, bound, known, free, apply, behind, abs, equal, bind, quantified, places_of}
use Rattle.ab_meaning.specs.Scopes.{Scope, in_proof, nominal_number, or_else, index_of, truth_named, variable_named, constant_at, settled_nominal, nominal_at, head_named, Found, or_unknown, made_of, made_of_both, connective, joined, empty_list, put_before, is_list, first_list, with_goal, with_focus_and_goal, pi_over, after, written, with_binder, with_binders, under, is_pi, resolved, applied, pi_applied, context, items_before, judgement}
use Rattle.ab_formulas.specs.Declarations.{Declarations, signature_in}
use Rattle.ab_formulas.specs.Sequents.{Variable, Sequent, goal_names}
use Rattle.ab_formulas.specs.NamedGoals.{named}
use Rattle.ab_meaning.specs.Terms.{kinds_in, entry_of, scope_of}
use Rattle.ab_effects.specs.FormulaUses.{scope_with}
use Rattle.ab_determinism.proofs.Namings.{same_constants}
use Rattle.ab_determinism.proofs.Renumbered.{Renumbering, renumber_variable}

module _ (f : ℕ → ℕ) where
  -- the expression with other numbers
  abbrev pub told : Resolved → Resolved
  told (bound i) = bound i
  told (known h A) = known (translate_head f h) A
  told (free x p) = free x p
  told (apply d e) = apply (told d) (told e)
  told (behind d e) = behind (told d) (told e)
  told (abs x p e) = abs x p (told e)
  told (equal d e) = equal (told d) (told e)
  told (bind q x p w e) = bind q x p w (told e)

  pub places_told : (e : Resolved) → places_of (told e) ≡ places_of e
  places_told (bound i) = refl
  places_told (known h A) = refl
  places_told (free x p) = refl
  places_told (apply d e) = ap (λ l. l ++ places_of (told e)) (places_told d) ∙ ap (λ l. places_of d ++ l) (places_told e)
  places_told (behind d e) = ap (λ l. l ++ places_of (told e)) (places_told d) ∙ ap (λ l. places_of d ++ l) (places_told e)
  places_told (abs x p e) = ap (λ l. p ∷ l) (places_told e)
  places_told (equal d e) = ap (λ l. l ++ places_of (told e)) (places_told d) ∙ ap (λ l. places_of d ++ l) (places_told e)
  places_told (bind q x p w e) = ap (λ l. p ∷ l) (places_told e)

  -- ONE LOOK-UP

  abbrev told_there : Option Resolved → Option Resolved
  told_there = option_map told

  else_told : (a b c d : Option Resolved) → c ≡ told_there a → d ≡ told_there b → or_else c d ≡ told_there (or_else a b)
  else_told None b c d e h = ap (λ z. or_else z d) e ∙ h
  else_told (Some x) b c d e h = ap (λ z. or_else z d) e

  if_told : (t : Bool) (a b : Option Resolved) → a ≡ told_there a → b ≡ told_there b → (if t then a else b) ≡ told_there (if t then a else b)
  if_told true a b e h = e
  if_told false a b e h = h

  bound_told : (n : Option ℕ) → option_map bound n ≡ told_there (option_map bound n)
  bound_told None = refl
  bound_told (Some i) = refl

  truth_told : (x : Name) → truth_named x ≡ told_there (truth_named x)
  truth_told x =
      if_told (bytes_eq x (codes "true")) (Some (known (logical logic.truth) prop)) (if bytes_eq x (codes "false") then Some (known (logical logic.falsity) prop) else None) refl
      (if_told (bytes_eq x (codes "false")) (Some (known (logical logic.falsity) prop)) None refl refl)

  variable_told : (xs : List Variable) (x : Name) → variable_named (map entry_of (map (renumber_variable f) xs)) x ≡ told_there (variable_named (map entry_of xs) x)
  variable_told [] x = refl
  variable_told (z ∷ zs) x = which (bytes_eq z.name x) (variable_told zs x)
    where
      which : (b : Bool) → variable_named (map entry_of (map (renumber_variable f) zs)) x ≡ told_there (variable_named (map entry_of zs) x)
          → (if b then Some (known (variable (record { name = f z.number; type = z.type })) z.type) else variable_named (map entry_of (map (renumber_variable f) zs)) x)
          ≡ told_there (if b then Some (known (variable (record { name = z.number; type = z.type })) z.type) else variable_named (map entry_of zs) x)
      which true rest = refl
      which false rest = rest

  constant_told : (x : Name) (A : Option Ty) → constant_at x A ≡ told_there (constant_at x A)
  constant_told x None = refl
  constant_told x (Some A) = refl

  settled_told : (ns : List Nominal) (n : ℕ) → settled_nominal ns n ≡ told_there (settled_nominal ns n)
  settled_told [] n = refl
  settled_told (a ∷ ns) n = if_told (a.number == n) (Some (known (nominal a) a.type)) (settled_nominal ns n) refl (settled_told ns n)

  nominal_told : (ns : List Nominal) (x : Name) (p : ℕ) (n : Option ℕ) → nominal_at ns x p n ≡ told_there (nominal_at ns x p n)
  nominal_told ns x p None = refl
  nominal_told ns x p (Some n) = else_told (settled_nominal ns n) (Some (free x p)) (settled_nominal ns n) (Some (free x p)) (settled_told ns n) refl

  -- WHAT IS MADE of parts

  abbrev told_found : Found → Found
  told_found = made_of told

  unknown_told : (x : Name) (a : Option Resolved) → or_unknown x (told_there a) ≡ told_found (or_unknown x a)
  unknown_told x None = refl
  unknown_told x (Some e) = refl

  made_told : (g h : Resolved → Resolved) → ((e : Resolved) → g (told e) ≡ told (h e)) → (a : Found) → made_of g (told_found a) ≡ told_found (made_of h a)
  made_told g h same (Ok e) = ap (λ r. Ok r) (same e)
  made_told g h same (Err x) = refl

  both_told : (g : Resolved → Resolved → Resolved) → ((d e : Resolved) → g (told d) (told e) ≡ told (g d e)) → (a b : Found) → made_of_both g (told_found a) (told_found b) ≡ told_found (made_of_both g a b)
  both_told g same (Ok d) b = made_told (g (told d)) (g d) (same d) b
  both_told g same (Err x) b = refl

  pi_told : (e : Resolved) → pi_over (told e) ≡ told_found (pi_over e)
  pi_told (bound i) = refl
  pi_told (known h A) = refl
  pi_told (free x p) = refl
  pi_told (apply d e) = refl
  pi_told (behind d e) = refl
  pi_told (abs x p e) = refl
  pi_told (equal d e) = refl
  pi_told (bind q x p w e) = refl

  after_told : (a : Found) → after pi_over (told_found a) ≡ told_found (after pi_over a)
  after_told (Ok e) = pi_told e
  after_told (Err x) = refl

  binders_told : (kinds : List Name) (q : Quant) (bs : List tree.Binder) (a : Found) → with_binders kinds q bs (told_found a) ≡ told_found (with_binders kinds q bs a)
  binders_told kinds q [] a = refl
  binders_told kinds q (b ∷ bs) a =
      ap (with_binder q b (written kinds b.type_of)) (binders_told kinds q bs a)
      ∙ (elim (written kinds b.type_of) as (λ w. with_binder q b w (told_found (with_binders kinds q bs a)) ≡ told_found (with_binder q b w (with_binders kinds q bs a)))
      [ Ok w ↦ made_told (bind (quantified q) b.name b.place w) (bind (quantified q) b.name b.place w) (λ e. refl) (with_binders kinds q bs a) | Err x ↦ refl ])

  which_told : (t : Bool) (a b c d : Found) → a ≡ told_found c → b ≡ told_found d → (if t then a else b) ≡ told_found (if t then c else d)
  which_told true a b c d e h = e
  which_told false a b c d e h = h

  put_told : (a b : Found) → made_of_both put_before (told_found a) (told_found b) ≡ told_found (made_of_both put_before a b)
  put_told a b = both_told put_before (λ d e. refl) a b

  first_told : (c : Tree) (a b : Found) → b ≡ told_found a → first_list c b ≡ told_found (first_list c a)
  first_told c a b e = which_told (is_list c) b (made_of_both put_before (Ok empty_list) b) a (made_of_both put_before (Ok empty_list) a) e (ap (made_of_both put_before (Ok empty_list)) e ∙ put_told (Ok empty_list) a)

  applied_both : (a b c d : Found) → c ≡ told_found a → d ≡ told_found b → made_of_both apply c d ≡ told_found (made_of_both apply a b)
  applied_both a b c d e h = ap (λ z. made_of_both apply z d) e ∙ ap (made_of_both apply (told_found a)) h ∙ both_told apply (λ x y. refl) a b

  -- a judgement's head, which is given its list
  about_told : (l : logic.Logical) (a b : Found) → b ≡ told_found a
      → made_of (apply (known (logical l) (logic.logical_type l))) b ≡ told_found (made_of (apply (known (logical l) (logic.logical_type l))) a)
  about_told l a b e = ap (made_of (apply (known (logical l) (logic.logical_type l)))) e ∙ made_told (apply (known (logical l) (logic.logical_type l))) (apply (known (logical l) (logic.logical_type l))) (λ d. refl) a

  with_goal_told : (a g b h : Found) → b ≡ told_found a → h ≡ told_found g → with_goal b h ≡ told_found (with_goal a g)
  with_goal_told a g b h e k = applied_both _ g _ h (about_told logic.judgement a b e) k

  with_focus_told : (a q g b r h : Found) → b ≡ told_found a → r ≡ told_found q → h ≡ told_found g → with_focus_and_goal b r h ≡ told_found (with_focus_and_goal a q g)
  with_focus_told a q g b r h e j k = applied_both _ g _ h (applied_both _ q _ r (about_told logic.focused_judgement a b e) j) k

  -- A WHOLE EXPRESSION

  module _ (kinds : List Name) (constants : Signature) (xs : List Variable) (ns : List Nominal) where
    abbrev pub one : Scope
    one = record { kinds = kinds; constants = constants; variables = map entry_of xs; nominals = ns; place = in_proof }

    abbrev pub other : Scope
    other = record { kinds = kinds; constants = constants; variables = map entry_of (map (renumber_variable f) xs); nominals = ns; place = in_proof }

    head_told : (bs : List Name) (x : Name) (p : ℕ) → head_named other bs x p ≡ told_there (head_named one bs x p)
    head_told bs x p =
        else_told (option_map bound (index_of bs x)) _ (option_map bound (index_of bs x)) _ (bound_told (index_of bs x))
        (else_told (truth_named x) _ (truth_named x) _ (truth_told x)
        (else_told (variable_named (map entry_of xs) x) _ (variable_named (map entry_of (map (renumber_variable f) xs)) x) _ (variable_told xs x)
        (else_told (constant_at x (constants x)) _ (constant_at x (constants x)) _ (constant_told x (constants x)) (nominal_told ns x p (nominal_number x)))))

    joined_told : (i : Infix) (a b : Found) → joined other i (told_found a) (told_found b) ≡ told_found (joined one i a b)
    joined_told Arrow a b = both_told (connective logic.implication) (λ d e. refl) a b
    joined_told Or a b = both_told (connective logic.disjunction) (λ d e. refl) a b
    joined_told And a b = both_told (connective logic.conjunction) (λ d e. refl) a b
    joined_told Equal a b = both_told equal (λ d e. refl) a b
    joined_told Imply a b = both_told (connective logic.spec_implication) (λ d e. refl) a b
    joined_told With a b = both_told (connective logic.spec_conjunction) (λ d e. refl) a b
    joined_told Cons a b = both_told _ (λ d e. refl) a b

    mutual
      pub resolved_told : (bs : List Name) (e : Tree) → resolved other bs e ≡ told_found (resolved one bs e)
      resolved_told bs (tree.name x p) = ap (or_unknown x) (head_told bs x p) ∙ unknown_told x (head_named one bs x p)
      resolved_told bs (tree.apply g vs p) =
          which_told (is_pi g) (pi_applied other bs vs) (applied other bs (resolved other bs g) vs) (pi_applied one bs vs) (applied one bs (resolved one bs g) vs) (given_pi_told bs vs)
          (applied_told bs (resolved one bs g) (resolved other bs g) (resolved_told bs g) vs)
      resolved_told bs (tree.abs x e p) = ap (made_of (abs x p)) (resolved_told (x ∷ bs) e) ∙ made_told (abs x p) (abs x p) (λ d. refl) (resolved one (x ∷ bs) e)
      resolved_told bs (tree.join i t u p) =
          ap (λ a. joined other i a (resolved other bs u)) (resolved_told bs t) ∙ ap (λ b. joined other i (told_found (resolved one bs t)) b) (resolved_told bs u)
          ∙ joined_told i (resolved one bs t) (resolved one bs u)
      resolved_told bs (tree.bind q ys e p) = ap (with_binders kinds q ys) (resolved_told (under ys bs) e) ∙ binders_told kinds q ys (resolved one (under ys bs) e)
      resolved_told bs (tree.judge cs g h p) =
          judgement_told bs (context one bs cs) g (resolved one bs h) (context other bs cs) (resolved other bs h) (context_told bs cs) (resolved_told bs h)

      applied_told : (bs : List Name) (a b : Found) → b ≡ told_found a → (vs : Trees) → applied other bs b vs ≡ told_found (applied one bs a vs)
      applied_told bs a b e no_trees = e
      applied_told bs a b e (tree.tree v vs) =
          applied_told bs (made_of_both apply a (resolved one bs v)) (made_of_both apply b (resolved other bs v))
          (ap (λ z. made_of_both apply z (resolved other bs v)) e ∙ ap (made_of_both apply (told_found a)) (resolved_told bs v) ∙ both_told apply (λ d h. refl) a (resolved one bs v)) vs

      given_pi_told : (bs : List Name) (vs : Trees) → pi_applied other bs vs ≡ told_found (pi_applied one bs vs)
      given_pi_told bs no_trees = refl
      given_pi_told bs (tree.tree v no_trees) = ap (after pi_over) (resolved_told bs v) ∙ after_told (resolved one bs v)
      given_pi_told bs (tree.tree v (tree.tree u us)) = refl

      context_told : (bs : List Name) (cs : Trees) → context other bs cs ≡ told_found (context one bs cs)
      context_told bs no_trees = refl
      context_told bs (tree.tree c cs) =
          items_told bs (first_list c (resolved one bs c)) (first_list c (resolved other bs c)) (first_told c (resolved one bs c) (resolved other bs c) (resolved_told bs c)) cs

      items_told : (bs : List Name) (a b : Found) → b ≡ told_found a → (cs : Trees) → items_before other bs b cs ≡ told_found (items_before one bs a cs)
      items_told bs a b e no_trees = e
      items_told bs a b e (tree.tree c cs) =
          items_told bs (made_of_both put_before a (resolved one bs c)) (made_of_both put_before b (resolved other bs c))
          (ap (λ z. made_of_both put_before z (resolved other bs c)) e ∙ ap (made_of_both put_before (told_found a)) (resolved_told bs c) ∙ put_told a (resolved one bs c)) cs

      judgement_told : (bs : List Name) (a : Found) (k : Focus) (g b h : Found) → b ≡ told_found a → h ≡ told_found g → judgement other bs b k h ≡ told_found (judgement one bs a k g)
      judgement_told bs a tree.unfocused g b h e j = with_goal_told a g b h e j
      judgement_told bs a (tree.focused q) g b h e j = with_focus_told a (resolved one bs q) g b (resolved other bs q) h e (resolved_told bs q) j

-- in goals that are one but for the numbers, where further constants are known
pub resolved_with : (D : Declarations) (s u : Sequent) (r : Renumbering s u) → named s ≡ named u → (more : List Nominal) (e : Tree) → resolved (scope_with D u more) [] e ≡ made_of (told r.by) (resolved (scope_with D s more) [] e)
resolved_with D s u r same more e =
    ap (λ (xs : List Variable). resolved (scope_by xs (goal_names u ++ more)) [] e) (ap (λ (g : Sequent). g.variables) r.is)
    ∙ ap (λ ns. resolved (scope_by (map (renumber_variable r.by) s.variables) (ns ++ more)) [] e) (sym (same_constants s u same))
    ∙ resolved_told r.by (kinds_in D) (signature_in D) s.variables (goal_names s ++ more) [] e
  where
    scope_by : List Variable → List Nominal → Scope
    scope_by xs ns = record { kinds = kinds_in D; constants = signature_in D; variables = map entry_of xs; nominals = ns; place = in_proof }

pub resolved_there : (D : Declarations) (s u : Sequent) (r : Renumbering s u) → named s ≡ named u → (e : Tree) → resolved (scope_of D u) [] e ≡ made_of (told r.by) (resolved (scope_of D s) [] e)
resolved_there D s u r same e =
    ap (λ (xs : List Variable). resolved (scope_by xs (goal_names u)) [] e) (ap (λ (g : Sequent). g.variables) r.is)
    ∙ ap (λ ns. resolved (scope_by (map (renumber_variable r.by) s.variables) ns) [] e) (sym (same_constants s u same))
    ∙ resolved_told r.by (kinds_in D) (signature_in D) s.variables (goal_names s) [] e
  where
    scope_by : List Variable → List Nominal → Scope
    scope_by xs ns = record { kinds = kinds_in D; constants = signature_in D; variables = map entry_of xs; nominals = ns; place = in_proof }
