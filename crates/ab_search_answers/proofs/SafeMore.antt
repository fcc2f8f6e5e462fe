-- SAFE WAYS by a quantifier.
use Rattle.std.proofs.Common.{◌≡◌, ◌≢◌, inl, inr, ℕ, ◌≤◌, List, [], ◌∷◌, ◌++◌, map, length, codes, true, false, ◌||◌, None, refl, sym, ◌∙◌, ap, subst, arith, length-append}
use Rattle.std.specs.Prelude.{Contains}
use Rattle.std.proofs.lemmas.Bool.{false≢true, false_from_ne_true}
use Rattle.ab_term.specs.Types.{Ty}
use Rattle.ab_term.specs.Terms.{Variable, nominal, no_terms, Read}
use Rattle.ab_term.specs.Typing.{Signature, HasType}
use Rattle.ab_term.specs.Names.{support}
use Rattle.ab_term.specs.Substitution.{instance}
use Rattle.ab_term.specs.Abstraction.{over}
use Rattle.ab_term.specs.Variables.{Substitution, value_in, image}
use Rattle.ab_term.specs.Sameness.{same_number}
use Rattle.ab_term.proofs.Lists.{Contains-here, Contains-there, Contains-cases, All-from_contains}
use Rattle.ab_term.proofs.Same.{same_numbered-Decides}
use Rattle.ab_term.proofs.Depends.{image_agrees}
use Rattle.ab_term.proofs.Hinted.{given_typed}
use Rattle.ab_term.proofs.Stands.{variables-instance}
use Rattle.ab_term.proofs.Compositions.{map_typed, image-instance, image_typed}
use Rattle.ab_term.proofs.OwnExpansion.{image_by-expansion_of}
use Rattle.ab_unifiers.specs.Replacements.{Cell, holds}
use Rattle.ab_unifiers.specs.Unifiers.{IsCell, keys}
use Rattle.ab_unifiers.proofs.Ruling.{image_none}
use Rattle.ab_unifiers.proofs.Agreeing.{holds_front, holds_behind}
use Rattle.ab_unifiers.specs.Clauses.{name_term}
use Rattle.ab_unifiers.specs.Choices.{in_order, placed, new_constant}
use Rattle.ab_unifiers.proofs.Matching.{new_is_new}
use Rattle.ab_formulas.specs.Declarations.{Declarations, signature_in}
use Rattle.ab_formulas.specs.Forms.{for_all, exists, nabla, form_of}
use Rattle.ab_search_trees.specs.Goals.{Goal, Now, asking}
use Rattle.ab_search_trees.specs.Guesses.{a_variable}
use Rattle.ab_search_trees.specs.Ways.{Way, leading_to, new_cell, new_variable, new_term}
use Rattle.ab_search_trees.proofs.Lifts.{known_cell, no_value}
use Rattle.ab_search_trees.proofs.Facts.{Facts, IsTask, FormFacts, form_facts}
use Rattle.ab_search_trees.proofs.ByForm.{placed_itself}
use Rattle.ab_search_trees.proofs.Growing.{IsGrown}
use Rattle.ab_search_trees.proofs.Quantifiers.{given_variables}
use Rattle.ab_search_trees.proofs.Carried.{AreFlexible}
use Rattle.ab_search_trees.proofs.Shows.{IsFine, formed}
use Rattle.ab_search_layers.specs.Closed as closing
use Rattle.ab_search_layers.specs.Closed.{to_show, Closes}
use Rattle.ab_search_layers.specs.Taken as way
use Rattle.ab_search_answers.proofs.Filled.{name_typed, name_without}
use Rattle.ab_search_answers.proofs.Final.{Scopes, IsIn, InScope, scope_from, IsFinal, final_scope, final_clear}
use Rattle.ab_search_answers.proofs.Scoped.{IsScoped, part_there, in_grown, scoped_grown}
use Rattle.ab_search_answers.specs.Followed.{in_the_end}
use Rattle.ab_search_answers.proofs.Inside.{placed_more}
use Rattle.ab_search_answers.proofs.Signs.{instance_none}
use Rattle.ab_search_answers.proofs.Safe.{of_one, IsSafe, T, inside_scope, whole_scope, parts_at, none_at, inside}

module _ (D : Declarations) (now : Now) (S : Scopes) (flexible : AreFlexible now) (g : Goal) (ys : List (Variable ℕ)) (t : IsTask (signature_in D) now g) (k : IsScoped now S g ys) where
  abbrev sg : Signature
  sg = signature_in D

  abbrev U : Scopes
  U = T D now S flexible g ys t k

  known : FormFacts sg now g.constants g.untouched (form_of g.conclusion)
  known = form_facts sg now g.constants g.untouched g.conclusion t.conclusion

  instance_scope : (mid : Now) (zs : List (Variable ℕ)) (F u : Read) → InScope mid U zs F → InScope mid U zs u → InScope mid U zs (instance F u)
  instance_scope mid zs F u a b y m = elim (variables-instance F u y m) [ inl c ↦ a y c | inr c ↦ b y c ]

  pub constant_safe : (A : Ty) (F : Read) → form_of g.conclusion ≡ nabla A F → FormFacts sg now g.constants g.untouched (nabla A F)
      → let n = new_constant g.constants A in IsSafe D now S g ys (record (leading_to D now g (record (asking (instance F (name_term (codes "x") n)) g) { constants = placed n g.constants } ∷ [])) { taken = n ∷ [] }) (λ r. way.constant n)
  constant_safe A F e facts =
      let n = new_constant g.constants A in
      let next = record (asking (instance F (name_term (codes "x") n)) g) { constants = placed n g.constants } in
      let mid = record now { held = placed n now.held } in
      let typed : HasType sg [] (name_term (codes "x") n) A = name_typed sg n in
      record {
        scope = ys;
        keeps = λ y h. h;
        equations = tt;
        goals = of_one (λ h. IsScoped mid U h ys) next (record {
          conclusion = instance_scope mid ys F (name_term (codes "x") n) (inside_scope D now S flexible g ys t k F (inside D now S flexible g ys t k F (parts_at D now S flexible g ys t k (nabla A F) e).known)) (λ y m. absurd (name_without n y m));
          hypotheses = (whole_scope D now S flexible g ys t k).hypotheses;
          branch = placed_more n g.constants now.held k.branch;
          low = k.low;
          unmarked = instance_none F (name_term (codes "x") n) facts.stands (none_at D now S flexible g ys t k (nabla A F) e);
        });
        closes = λ last more q m taken final u v gs es s.
            let r = in_the_end last q m in
            closing.by_constant n (formed D now flexible g t r (nabla A F) e) refl
            (λ c. new_is_new g.constants A (t.conclusion.facts.constants n (final_clear sg mid U r final g.conclusion n (placed_itself n now.held) c)))
            (subst (λ C. Closes D (to_show ys (map (image same_number r) g.hypotheses) C ∷ gs) es) (image-instance sg same_number r final.typed facts.typed typed ∙ ap (instance (image same_number r F)) (image_by-expansion_of sg ℕ (List ℕ) (value_in same_number r) (map_typed sg same_number r final.typed) (codes "x") A (nominal n) no_terms tt)) s);
      }

  -- a variable is brought, which may be replaced
  module _ (A : Ty) (F : Read) (e : form_of g.conclusion ≡ exists A F) (facts : FormFacts sg now g.constants g.untouched (exists A F)) where
    abbrev z : Variable ℕ
    z = new_variable D now g A g.constants

    abbrev u : Read
    u = new_term D now g A g.constants

    abbrev next : Goal
    next = record (asking (instance F (new_term D now g A g.constants)) g) { untouched = false; member_first = g.member_first }

    abbrev pub term_way : Way
    term_way = record {
      cells = now.cells ++ new_cell D now g F A g.constants ∷ [];
      flexible = now.flexible ++ new_variable D now g A g.constants ∷ [];
      equations = [];
      serving = [];
      taken = [];
      goals = record (asking (instance F (new_term D now g A g.constants)) g) { untouched = false; member_first = g.member_first } ∷ [];
    }

    module _ (fine : IsFine D now g term_way) where
      abbrev mid : Now
      mid = record now { cells = now.cells ++ new_cell D now g F A g.constants ∷ []; flexible = now.flexible ++ z ∷ [] }

      grown : IsGrown now mid (λ y. None) (λ y. None)
      grown = record { cells = fine.grown.cells; fixed = fine.grown.fixed; same = λ y l. refl }

      keeps : (y : Variable ℕ) → holds now.flexible y ≡ true → holds mid.flexible y ≡ true
      keeps = holds_front now.flexible (z ∷ [])

      itself : holds (z ∷ []) z ≡ true
      itself = ap (λ b. b || false) ((same_numbered-Decides z z).1 refl)

      z_in : IsIn mid U ys z
      z_in = inl (holds_behind now.flexible (z ∷ []) z itself, scope_from (length now.cells) ys S z (omega arith))

      u_in : InScope mid U ys u
      u_in y m = subst (IsIn mid U ys) (sym (given_variables (codes "x") z g.constants A y m)) z_in

      F_in : InScope mid U ys F
      F_in y m = in_grown sg now mid grown keeps fine.longer (λ a h. h) S ys ys g.conclusion t.conclusion.facts.over k.conclusion y (inside D now S flexible g ys t k F (parts_at D now S flexible g ys t k (exists A F) e).known y m)

      old : IsScoped mid U g ys
      old = scoped_grown sg now mid grown keeps fine.longer (λ a h. h) S ys g ys t k

      pub term_scoped : IsScoped mid U next ys
      term_scoped = record { conclusion = instance_scope mid ys F u F_in u_in; hypotheses = old.hypotheses; branch = old.branch; low = old.low; unmarked = instance_none F u facts.stands (none_at D now S flexible g ys t k (exists A F) e) }

      typed : HasType sg [] u A
      typed = given_typed sg (codes "x") [] z g.constants A refl

      z_cell : IsCell mid.cells z
      z_cell = fine.flexible z (holds_behind now.flexible (z ∷ []) z itself)

      pub term_safe : IsSafe D now S g ys term_way (λ r. way.term (image same_number r (new_term D now g A g.constants)))
      term_safe = record {
        scope = ys;
        keeps = keeps;
        equations = tt;
        goals = of_one (λ h. IsScoped mid U h ys) next term_scoped;
        closes = λ last more q m taken final v sv gs es s.
            let r = in_the_end last q m in
            closing.by_term (image same_number r u) (formed D now flexible g t r (exists A F) e) (image_typed sg same_number r final.typed typed)
            (final_scope sg mid U r final ys u (λ y c. subst (IsCell mid.cells) (sym (given_variables (codes "x") z g.constants A y c)) z_cell) u_in)
            (subst (λ C. Closes D (to_show ys (map (image same_number r) g.hypotheses) C ∷ gs) es) (image-instance sg same_number r final.typed facts.typed typed) s);
      }

  -- where nothing was unfolded and no `exists` opened, nothing is put in
  module _ (clean : g.untouched ≡ true) (c : Cell (List ℕ)) (r : Substitution ℕ (List ℕ)) (final : IsFinal sg (record now { cells = now.cells ++ c ∷ [] }) U r) where
    no_key : (y : Variable ℕ) → holds now.flexible y ≡ false → y.name ≤ length now.cells → value_in same_number r y ≡ None
    no_key y n low = no_value r y (false_from_ne_true (holds (keys r) y) (λ h. elim (final.within y h) [ inl a ↦ false≢true (sym n ∙ a) | inr b ↦ (let sum = length-append now.cells (c ∷ []) in absurd (omega (arith, b, sum, low))) ]))

    stays : (v : Read) → Facts now g.constants g.untouched v → image same_number r v ≡ v
    stays v p = image_agrees (value_in same_number r) (value_in same_number []) v (λ y m. no_key y (p.fixed clean y m) (let low = known_cell now.cells y.name y.type (p.over y m) in omega (arith, low))) ∙ image_none v

  -- none of its variables may be replaced, so each is one of the scope
  fixed_in : g.untouched ≡ true → (zs : List (Variable ℕ)) → ((y : Variable ℕ) → Contains ys y → Contains zs y) → (c : Cell (List ℕ)) → (v : Read) → Facts now g.constants g.untouched v → InScope now S ys v → InScope (record now { cells = now.cells ++ c ∷ [] }) U zs v
  fixed_in clean zs f c v p i y m = elim (i y m) [ inl a ↦ absurd (false≢true (sym (p.fixed clean y m) ∙ a.0)) | inr a ↦ inr (a.0, f y a.1) ]

  pub variable_safe : (A : Ty) (F : Read) → g.untouched ≡ true → form_of g.conclusion ≡ for_all A F → FormFacts sg now g.constants g.untouched (for_all A F) → let ns = in_order (support g.conclusion) in let w : Way = record {
    cells = now.cells ++ new_cell D now g F A ns ∷ [];
    flexible = now.flexible;
    equations = [];
    serving = [];
    taken = [];
    goals = asking (instance F (new_term D now g A ns)) g ∷ [];
  } in IsFine D now g w → IsSafe D now S g ys w (λ r. way.variable (length now.cells) (in_order (support g.conclusion)))
  variable_safe A F clean e facts fine =
      let ns = in_order (support g.conclusion) in
      let c = new_cell D now g F A ns in
      let x = new_variable D now g A ns in
      let u = new_term D now g A ns in
      let next = asking (instance F u) g in
      let mid = record now { cells = now.cells ++ c ∷ [] } in
      let zs = x ∷ ys in
      let more = λ (y : Variable ℕ) (m : Contains ys y). Contains-there x ys y m in
      let not_x : holds now.flexible x ≡ false = false_from_ne_true (holds now.flexible x) (λ h. let low = known_cell now.cells (length now.cells) c.type (flexible x h) in absurd (omega (arith, low))) in
      let u_in : InScope mid U zs u = λ y m. subst (IsIn mid U zs) (sym (given_variables (codes "x") x ns A y m)) (inr (not_x, Contains-here x ys)) in
      let within = inside D now S flexible g ys t k F (parts_at D now S flexible g ys t k (for_all A F) e).known in
      let F_in : InScope mid U zs F = fixed_in clean zs more c F facts.facts (λ y m. k.conclusion y (within y m)) in
      let sum = length-append now.cells (c ∷ []) in
      let typed : HasType sg [] u A = given_typed sg (codes "x") [] x ns A refl in
      record {
        scope = zs;
        keeps = λ y h. h;
        equations = tt;
        goals = of_one (λ h. IsScoped mid U h zs) next (record {
          conclusion = instance_scope mid zs F u F_in u_in;
          hypotheses = λ H m. fixed_in clean zs more c H (part_there sg now g.constants g.untouched g.hypotheses t.hypotheses H m).facts (k.hypotheses H m);
          branch = k.branch;
          low = λ y m. elim (Contains-cases x ys y m) [
            | inl q ↦ (let name : length now.cells ≡ y.name = ap (λ (v : Variable ℕ). v.name) q in omega (arith, sum, name))
            | inr q ↦ (let low = k.low y q in omega (arith, sum, low))
          ];
          unmarked = instance_none F u facts.stands (none_at D now S flexible g ys t k (for_all A F) e);
        });
        closes = λ last n_more q m taken final v sv gs es s.
            let r = in_the_end last q m in
            let Hs = map (image same_number r) g.hypotheses in
            let C_same = stays clean c r final g.conclusion t.conclusion.facts in
            let u_same : image same_number r u ≡ u = image_agrees (value_in same_number r) (value_in same_number []) u (λ y i. ap (value_in same_number r) (given_variables (codes "x") x ns A y i) ∙ no_key clean c r final x not_x (omega arith)) ∙ image_none u in
            let shown : Closes D (to_show zs Hs (instance (image same_number r F) u) ∷ gs) es = subst (λ C. Closes D (to_show zs Hs C ∷ gs) es) (image-instance sg same_number r final.typed facts.typed typed ∙ ap (instance (image same_number r F)) u_same) s in
            subst (λ K. Closes D (to_show ys Hs (image same_number r g.conclusion) ∷ gs) ((image same_number r g.conclusion, way.variable (length now.cells) (in_order (support K))) ∷ es)) C_same
            (closing.by_variable (length now.cells) (formed D now flexible g t r (for_all A F) e)
            (All-from_contains (λ (y : Variable ℕ). y.name ≢ length now.cells) ys (λ y i same. let low = k.low y i in absurd (omega (arith, low, same))))
            (subst (λ K. Closes D (to_show (record { name = length now.cells; type = over (in_order (support K)) A } ∷ ys) Hs (instance (image same_number r F) (a_variable (length now.cells) (in_order (support K)) A)) ∷ gs) es) (sym C_same) shown));
      }
