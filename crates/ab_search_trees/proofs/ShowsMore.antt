-- AN ANSWER SHOWS THE GOAL: the ways by a quantifier, a layer and a clause.
use Rattle.std.proofs.Common.{◌≡◌, ◌⊎◌, inl, inr, ℕ, zero, ◌≤◌, List, [], ◌∷◌, ◌++◌, map, length, codes, true, false, None, refl, sym, ◌∙◌, ap, subst, arith, length-append}
use Rattle.std.specs.Prelude.{Contains, All}
use Rattle.std.proofs.lemmas.Bool.{false≢true, false_from_ne_true}
use Rattle.std.proofs.lemmas.List.Elements.{All-nil, All-cons}
use Rattle.ab_term.specs.Types.{Ty, arrow, prop}
use Rattle.ab_term.specs.Terms.{Nominal, Variable, nominal, no_terms, Read}
use Rattle.ab_term.specs.Typing.{HasType}
use Rattle.ab_term.specs.Names.{support}
use Rattle.ab_term.specs.Substitution.{instance}
use Rattle.ab_term.specs.Variables.{Substitution, value_in, image, IsTyped}
use Rattle.ab_term.specs.Sameness.{same_number}
use Rattle.ab_term.proofs.Lists.{Contains-none}
use Rattle.ab_term.proofs.Depends.{image_agrees}
use Rattle.ab_term.proofs.Hinted.{given_typed}
use Rattle.ab_term.proofs.Stands.{support-image}
use Rattle.ab_term.proofs.Expansions.{expansion_typed}
use Rattle.ab_term.proofs.Compositions.{map_typed, image-instance, image_typed}
use Rattle.ab_term.proofs.OwnExpansion.{image_by-expansion_of}
use Rattle.ab_unifiers.specs.Replacements.{Cell, holds}
use Rattle.ab_unifiers.specs.Unifiers.{IsCell, keys}
use Rattle.ab_unifiers.proofs.Ruling.{image_none}
use Rattle.ab_unifiers.proofs.Avoiding.{not_held}
use Rattle.ab_unifiers.proofs.Keys.{only_one}
use Rattle.ab_unifiers.proofs.Cells.{cell_kept}
use Rattle.ab_unifiers.specs.Clauses.{name_term}
use Rattle.ab_unifiers.specs.Choices.{in_order, placed, new_constant}
use Rattle.ab_unifiers.proofs.Choosing.{contains_ordered}
use Rattle.ab_unifiers.proofs.Matching.{new_is_new}
use Rattle.ab_formulas.specs.Declarations.{Declarations, signature_in}
use Rattle.ab_formulas.specs.Forms.{for_all, exists, nabla, form_of}
use Rattle.ab_search_trees.specs.Goals.{Goal, Now, asking}
use Rattle.ab_search_trees.specs.Ways.{Way, leading_to, new_cell, new_variable, new_term}
use Rattle.ab_search_trees.specs.Guesses.{HasNone, a_variable}
use Rattle.ab_search_trees.specs.Shown.{Shown, by_constant as shown_constant, by_term as shown_term, by_variable as shown_variable}
use Rattle.ab_search_trees.proofs.Lifts.{known_cell, at_behind, no_value}
use Rattle.ab_search_trees.proofs.Facts.{Facts, AllParts, IsTask, all_more, all_touched, facts_more, facts_touched, IsScope, instance_part, FormFacts}
use Rattle.ab_search_trees.proofs.ByForm.{placed_itself, placed_others, name_facts}
use Rattle.ab_search_trees.proofs.Growing.{IsGrown, facts_grown, parts_grown}
use Rattle.ab_search_trees.proofs.Quantifiers.{new_facts, given_variables}
use Rattle.ab_search_trees.proofs.Carried.{AreFlexible}
use Rattle.ab_search_trees.proofs.Shows.{IsLater, IsFine, formed}

module _ (D : Declarations) (now : Now) (flexible : AreFlexible now) (g : Goal) (t : IsTask (signature_in D) now g) where
  -- what is put in later adds no constant
  later_names : (mid : Now) (r : Substitution ℕ (List ℕ)) → IsLater (signature_in D) mid r → (C : Read) (a : Nominal) → Contains (support (image same_number r C)) a → Contains (support C) a
  later_names mid r l C a m = elim (support-image (value_in same_number r) C a m) [ inl b ↦ b | inr b ↦ absurd (Contains-none a (subst (λ k. Contains k a) (l.nameless b.0 b.1 (b.2).1) b.3)) ]

  instance_under : (r : Substitution ℕ (List ℕ)) → IsTyped (signature_in D) r → {A : Ty} (F u : Read) → HasType (signature_in D) [] F (arrow A prop) → HasType (signature_in D) [] u A → image same_number r (instance F u) ≡ instance (image same_number r F) (image same_number r u)
  instance_under r typed F u d e = image-instance (signature_in D) same_number r typed d e

  pub constant_fine : (A : Ty) (F : Read) → form_of g.conclusion ≡ nabla A F → FormFacts (signature_in D) now g.constants g.untouched (nabla A F) → let n = new_constant g.constants A in IsFine D now g (record (leading_to D now g (record (asking (instance F (name_term (codes "x") n)) g) { constants = placed n g.constants } ∷ [])) { taken = n ∷ [] })
  constant_fine A F e facts =
      let n = new_constant g.constants A in
      let branch = placed n g.constants in
      let more : (b : Nominal) → Contains g.constants b → Contains branch b = placed_others n g.constants in
      let scope : IsScope (signature_in D) now branch g.untouched A F = record { typed = facts.typed; stands = facts.stands; facts = facts_more more facts.facts } in
      let typed : HasType (signature_in D) [] (name_term (codes "x") n) A = expansion_typed (signature_in D) (codes "x") A [] (nominal n) refl in
      record {
        typed = tt;
        over = tt;
        flexible = flexible;
        grown = record { cells = ([], nothing_more now.cells); fixed = λ y l q. q; same = λ y l. refl };
        newer = λ y h. inl h;
        longer = omega arith;
        tasks = (
          record {
            conclusion = instance_part (signature_in D) now branch g.untouched scope typed (name_facts now branch g.untouched n (placed_itself n g.constants));
            hypotheses = all_more (signature_in D) now g.constants branch g.untouched more g.hypotheses t.hypotheses;
          },
          tt,
        );
        shows = λ r l u v s. shown_constant n (formed D now flexible g t r (nabla A F) e) refl
            (λ m. new_is_new g.constants A (t.conclusion.facts.constants n (later_names now r l g.conclusion n m)))
            (subst (Shown D (map (image same_number r) g.hypotheses)) (instance_under r l.typed F (name_term (codes "x") n) facts.typed typed ∙ ap (instance (image same_number r F)) (image_by-expansion_of (signature_in D) ℕ (List ℕ) (value_in same_number r) (map_typed (signature_in D) same_number r l.typed) (codes "x") A (nominal n) no_terms tt)) s.0);
      }
    where
      nothing_more : (cs : List (Cell (List ℕ))) → cs ≡ cs ++ []
      nothing_more [] = refl
      nothing_more (c ∷ cs) = ap (λ l. c ∷ l) (nothing_more cs)

  -- a variable is added, which may be replaced
  module _ (c : Cell (List ℕ)) where
    abbrev z : Variable ℕ
    z = record { name = length now.cells; type = c.type }

    cell_here : (more : List (Cell (List ℕ))) → more ≡ now.cells ++ c ∷ [] → IsCell more z
    cell_here more e = subst (λ l. IsCell l z) (sym e) (at_behind now.cells (c ∷ []) zero (length now.cells) c.type (omega arith) refl)

    abbrev with_z : Now
    with_z = record now { cells = now.cells ++ c ∷ []; flexible = now.flexible ++ z ∷ [] }

    abbrev beside_z : Now
    beside_z = record now { cells = now.cells ++ c ∷ [] }

    with_flexible : AreFlexible with_z
    with_flexible y h = elim (not_held now.flexible (z ∷ []) y h) [ inl a ↦ cell_kept now.cells (now.cells ++ c ∷ []) (c ∷ [], refl) y (flexible y a) | inr a ↦ subst (IsCell (now.cells ++ c ∷ [])) (only_one z y a) (cell_here (now.cells ++ c ∷ []) refl) ]

    beside_flexible : AreFlexible beside_z
    beside_flexible y h = cell_kept now.cells (now.cells ++ c ∷ []) (c ∷ [], refl) y (flexible y h)

    with_grown : IsGrown now with_z (λ y. None) (λ y. None)
    with_grown = record {
      cells = (c ∷ [], refl);
      fixed = λ y l n. false_from_ne_true (holds (now.flexible ++ z ∷ []) y) (λ e. elim (not_held now.flexible (z ∷ []) y e) [ inl a ↦ false≢true (sym n ∙ a) | inr a ↦ (let name : length now.cells ≡ y.name = ap (λ v. v.name) (only_one z y a) in absurd (omega (arith, name, l))) ]);
      same = λ y l. refl;
    }

    beside_grown : IsGrown now beside_z (λ y. None) (λ y. None)
    beside_grown = record { cells = (c ∷ [], refl); fixed = λ y l n. n; same = λ y l. refl }

    with_newer : (y : Variable ℕ) → holds (now.flexible ++ z ∷ []) y ≡ true → (holds now.flexible y ≡ true) ⊎ (length now.cells ≤ y.name)
    with_newer y h = elim (not_held now.flexible (z ∷ []) y h) [ inl a ↦ inl a | inr a ↦ inr (let name : length now.cells ≡ y.name = ap (λ v. v.name) (only_one z y a) in omega (arith, name)) ]

    one_longer : length now.cells ≤ length (now.cells ++ c ∷ [])
    one_longer = let sum = length-append now.cells (c ∷ []) in omega (arith, sum)

    not_z : holds now.flexible z ≡ false
    not_z = false_from_ne_true (holds now.flexible z) (λ h. let low = known_cell now.cells (length now.cells) c.type (flexible z h) in absurd (omega (arith, low)))

  term_way : (A : Ty) (F : Read) → Way
  term_way A F = record {
    cells = now.cells ++ new_cell D now g F A g.constants ∷ [];
    flexible = now.flexible ++ new_variable D now g A g.constants ∷ [];
    equations = [];
    serving = [];
    taken = [];
    goals = record (asking (instance F (new_term D now g A g.constants)) g) { untouched = false; member_first = g.member_first } ∷ [];
  }

  pub term_fine : (A : Ty) (F : Read) → form_of g.conclusion ≡ exists A F → FormFacts (signature_in D) now g.constants g.untouched (exists A F) → IsFine D now g (record {
    cells = now.cells ++ new_cell D now g F A g.constants ∷ [];
    flexible = now.flexible ++ new_variable D now g A g.constants ∷ [];
    equations = [];
    serving = [];
    taken = [];
    goals = record (asking (instance F (new_term D now g A g.constants)) g) { untouched = false; member_first = g.member_first } ∷ [];
  })
  term_fine A F e facts =
      let c = new_cell D now g F A g.constants in
      let u = new_term D now g A g.constants in
      let m1 = with_z c in
      let grown = with_grown c in
      let typed : HasType (signature_in D) [] u A = given_typed (signature_in D) (codes "x") [] (new_variable D now g A g.constants) g.constants A refl in
      let u_facts : Facts m1 g.constants false u = new_facts D m1 g.constants g.constants false (new_variable D now g A g.constants) A (cell_here c (now.cells ++ c ∷ []) refl) (λ b q. q) (λ q. absurd (false≢true q)) in
      let scope : IsScope (signature_in D) m1 g.constants false A F = record { typed = facts.typed; stands = facts.stands; facts = facts_touched (facts_grown (signature_in D) now m1 (λ y. None) (λ y. None) grown facts.facts) } in
      record {
        typed = tt;
        over = tt;
        flexible = with_flexible c;
        grown = grown;
        newer = with_newer c;
        longer = one_longer c;
        tasks = (
          record {
            conclusion = instance_part (signature_in D) m1 g.constants false scope typed u_facts;
            hypotheses = all_touched (signature_in D) m1 g.constants g.untouched g.hypotheses (parts_grown (signature_in D) now m1 (λ y. None) (λ y. None) grown g.constants g.untouched g.hypotheses t.hypotheses);
          },
          tt,
        );
        shows = λ r l q v s. shown_term (image same_number r u) (formed D now flexible g t r (exists A F) e) (image_typed (signature_in D) same_number r l.typed typed)
            (subst (Shown D (map (image same_number r) g.hypotheses)) (instance_under r l.typed F u facts.typed typed) s.0);
      }

  -- nothing is put in where nothing was unfolded and no `exists` opened
  module _ (clean : g.untouched ≡ true) (c : Cell (List ℕ)) (r : Substitution ℕ (List ℕ)) (l : IsLater (signature_in D) (beside_z c) r) where
    no_key : (y : Variable ℕ) → holds now.flexible y ≡ false → y.name ≤ length now.cells → value_in same_number r y ≡ None
    no_key y n low = no_value r y (false_from_ne_true (holds (keys r) y) (λ k. elim (l.within y k) [ inl a ↦ false≢true (sym n ∙ a) | inr b ↦ (let sum = length-append now.cells (c ∷ []) in absurd (omega (arith, b, sum, low))) ]))

    stays : (t : Read) → Facts now g.constants g.untouched t → image same_number r t ≡ t
    stays t p = image_agrees (value_in same_number r) (value_in same_number []) t (λ y m. no_key y (p.fixed clean y m) (let low = known_cell now.cells y.name y.type (p.over y m) in omega (arith, low))) ∙ image_none t

    all_stay : (ts : List Read) → AllParts (signature_in D) now g.constants g.untouched ts → map (image same_number r) ts ≡ ts
    all_stay [] p = refl
    all_stay (t ∷ ts) p = ap (λ k. k ∷ map (image same_number r) ts) (stays t (p.0).facts) ∙ ap (λ k. t ∷ k) (all_stay ts p.1)

  none_of : (t : Read) → Facts now g.constants g.untouched t → HasNone (length now.cells) t
  none_of t p y m e = let low = known_cell now.cells y.name y.type (p.over y m) in absurd (omega (arith, low, e))

  all_none : (ts : List Read) → AllParts (signature_in D) now g.constants g.untouched ts → All (HasNone (length now.cells)) ts
  all_none [] p = All-nil (HasNone (length now.cells))
  all_none (t ∷ ts) p = All-cons (HasNone (length now.cells)) t ts (none_of t (p.0).facts) (all_none ts p.1)

  pub variable_fine : (A : Ty) (F : Read) → g.untouched ≡ true → form_of g.conclusion ≡ for_all A F → FormFacts (signature_in D) now g.constants g.untouched (for_all A F) → let ns = in_order (support g.conclusion) in IsFine D now g (record {
    cells = now.cells ++ new_cell D now g F A ns ∷ [];
    flexible = now.flexible;
    equations = [];
    serving = [];
    taken = [];
    goals = asking (instance F (new_term D now g A ns)) g ∷ [];
  })
  variable_fine A F clean e facts =
      let ns = in_order (support g.conclusion) in
      let c = new_cell D now g F A ns in
      let x = new_variable D now g A ns in
      let u = new_term D now g A ns in
      let m1 = beside_z c in
      let grown = beside_grown c in
      let typed : HasType (signature_in D) [] u A = given_typed (signature_in D) (codes "x") [] x ns A refl in
      let of : (b : Nominal) → Contains ns b → Contains g.constants b = λ b k. t.conclusion.facts.constants b (contains_ordered (support g.conclusion) b k) in
      let u_facts : Facts m1 g.constants g.untouched u = new_facts D m1 g.constants ns g.untouched x A (cell_here c (now.cells ++ c ∷ []) refl) of (λ q. not_z c) in
      let scope : IsScope (signature_in D) m1 g.constants g.untouched A F = record { typed = facts.typed; stands = facts.stands; facts = facts_grown (signature_in D) now m1 (λ y. None) (λ y. None) grown facts.facts } in
      record {
        typed = tt;
        over = tt;
        flexible = beside_flexible c;
        grown = grown;
        newer = λ y h. inl h;
        longer = one_longer c;
        tasks = (
          record {
            conclusion = instance_part (signature_in D) m1 g.constants g.untouched scope typed u_facts;
            hypotheses = parts_grown (signature_in D) now m1 (λ y. None) (λ y. None) grown g.constants g.untouched g.hypotheses t.hypotheses;
          },
          tt,
        );
        shows = λ r l q v s.
            let C_same = stays clean c r l g.conclusion t.conclusion.facts in
            let Hs_same = all_stay clean c r l g.hypotheses t.hypotheses in
            let u_same : image same_number r u ≡ u = image_agrees (value_in same_number r) (value_in same_number []) u (λ y m. ap (value_in same_number r) (given_variables (codes "x") x ns A y m) ∙ no_key clean c r l x (not_z c) (omega arith)) ∙ image_none u in
            shown_variable (length now.cells) (formed D now flexible g t r (for_all A F) e)
            (subst (HasNone (length now.cells)) (sym C_same) (none_of g.conclusion t.conclusion.facts))
            (subst (All (HasNone (length now.cells))) (sym Hs_same) (all_none g.hypotheses t.hypotheses))
            (subst (Shown D (map (image same_number r) g.hypotheses)) (instance_under r l.typed F u facts.typed typed ∙ ap (instance (image same_number r F)) (u_same ∙ ap (λ k. a_variable (length now.cells) (in_order (support k)) A) (sym C_same))) s.0);
      }
