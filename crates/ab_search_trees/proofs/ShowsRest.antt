-- AN ANSWER SHOWS THE GOAL: the ways by a layer of a judgement and by a clause; and all ways together.
use Rattle.std.proofs.Common.{◌≡◌, ◌⊎◌, inl, inr, ℕ, zero, suc, ◌≤◌, List, [], ◌∷◌, ◌++◌, map, filter, length, codes, Bool, true, false, cond, bytes_eq, Option, Some, None, option_map, refl, sym, ◌∙◌, ap, subst, arith, length-append}
use Rattle.std.specs.Prelude.{Contains, All}
use Rattle.std.proofs.lemmas.Bool.{false≢true, false_from_ne_true}
use Rattle.ab_term.specs.Types.{prop}
use Rattle.ab_term.specs.Terms.{Nominal, Variable, constant, logical, nominal, variable, index, lam, spine, Read}
use Rattle.ab_term.specs.Typing.{Signature, HasType}
use Rattle.ab_term.specs.Names.{support, support_of_all}
use Rattle.ab_term.specs.Substitution.{instance}
use Rattle.ab_term.specs.Variables.{Substitution, variables, value_in, image, image_all}
use Rattle.ab_term.specs.Sameness.{same_number}
use Rattle.ab_term.proofs.Lists.{Contains-none, Contains-map, Contains-from_map, All-from_contains}
use Rattle.ab_term.proofs.Compositions.{map_typed}
use Rattle.ab_unifiers.specs.Replacements.{Cell, holds}
use Rattle.ab_unifiers.specs.Unifiers.{Unifies}
use Rattle.ab_unifiers.proofs.Ruling.{image_none}
use Rattle.ab_unifiers.proofs.Avoiding.{not_held}
use Rattle.ab_unifiers.proofs.Cells.{cell_kept}
use Rattle.ab_unifiers.specs.Clauses.{IsClause, numbered, filled, Instance}
use Rattle.ab_unifiers.specs.Choices.{in_order, outside, choices, for_each}
use Rattle.ab_unifiers.specs.Alternatives.{Scope, Alternative, alternative, alternatives, clause_alternatives, on_right, made_terms}
use Rattle.ab_unifiers.specs.Member.{HasMember}
use Rattle.ab_unifiers.proofs.Variables.{holds_contains}
use Rattle.ab_unifiers.proofs.Choosing.{gathered, gathered_from}
use Rattle.ab_unifiers.proofs.Rows.{numbered_within, numbered_different}
use Rattle.ab_unifiers.proofs.Answered.{listed_problem}
use Rattle.ab_unifiers.proofs.SoundCases.{listed_solved}
use Rattle.ab_unifiers.proofs.Atoms.{IsAtomOf}
use Rattle.ab_formulas.specs.Declarations.{Declarations, signature_in, HaveDefinitions, IsDefining, Block, block_in}
use Rattle.ab_formulas.specs.Forms.{Form, truth, falsity, both, either, implies, equal, for_all, exists, nabla, marked, other, form_of}
use Rattle.ab_formulas.specs.Formulas.{a_formula, StandsIn, IsFormula}
use Rattle.ab_formulas.specs.Marks.{Sign, plain}
use Rattle.ab_formulas.proofs.Images.{image_formula}
use Rattle.ab_formulas.specs.BodyMarks.{mark_above, marked_in}
use Rattle.ab_theory.specs.Atoms.{Defined, Choice, defined_as, defined_form, defined_atom, choices_of}
use Rattle.ab_theory.specs.Judgements.{as_judgement}
use Rattle.ab_formulas.specs.Programs.{HavePrograms}
use Rattle.ab_formulas.proofs.MarkedFormulas.{marked_formula, marked_variables, marked_support}
use Rattle.ab_search_trees.specs.Goals.{Goal, Now, asking}
use Rattle.ab_search_trees.specs.Judgements.{opened_once, is_blind}
use Rattle.ab_search_trees.specs.Ways.{leading_to, new_cell, new_term, unfolds, with_constants, by_layer, by_form, by_choice, by_definition, by_judgement, ways, by_truth, by_hypothesis}
use Rattle.ab_search_trees.specs.Shown.{Shown, by_layer as shown_layer, by_clause as shown_clause}
use Rattle.ab_search_trees.proofs.Lifts.{numbered_at}
use Rattle.ab_search_trees.proofs.Facts.{Facts, IsTask, all_more, all_touched, FormFacts, form_facts}
use Rattle.ab_search_trees.proofs.Growing.{IsGrown, parts_grown}
use Rattle.ab_search_trees.proofs.Carried.{AreFlexible}
use Rattle.ab_search_trees.proofs.Atoms.{filter_parts}
use Rattle.ab_search_trees.proofs.Smaller.{form_block, choice_defining}
use Rattle.ab_search_trees.proofs.Clauses.{constants_more}
use Rattle.ab_search_trees.proofs.ByClause.{choice_names}
use Rattle.ab_search_trees.proofs.ClauseParts.{put_typed, amid_clause, clause_over, new_cell_at, body_facts, own, zs}
use Rattle.ab_search_trees.proofs.Images.{form_under, form_image}
use Rattle.ab_search_trees.proofs.Exact.{marked_image, opened_image}
use Rattle.ab_search_trees.proofs.Own.{opened_part, atom_known}
use Rattle.ab_search_trees.proofs.Shows.{IsLater, IsFine, EachFine, fine_both, fine_map, leading_fine, formed, both_fine, left_fine, right_fine, assuming_fine, equal_fine, front_fine}
use Rattle.ab_search_trees.proofs.RuleWays.{judgements_fine}
use Rattle.ab_search_trees.proofs.ShowsMore.{constant_fine, term_fine, variable_fine}

-- the defined atom of an image
module _ (D : Declarations) (r : Substitution ℕ (List ℕ)) where
  abbrev atom_under : Defined → Defined
  atom_under d = record d { arguments = image_all same_number r d.arguments }

  as_image : (m : Sign) (A : Read) (d : Defined) → defined_as D m A ≡ Some d → defined_as D m (image same_number r A) ≡ Some (atom_under d)
  as_image m (lam B x t) d e = absurd (cc)
  as_image m (spine (variable y) ts) d e = absurd (cc)
  as_image m (spine (index i) ts) d e = absurd (cc)
  as_image m (spine (nominal a) ts) d e = absurd (cc)
  as_image m (spine (logical l) ts) d e = absurd (cc)
  as_image m (spine (constant p) ts) d e = go (block_in D p) e
    where
      go : (o : Option Block) → option_map (λ b. record { sign = m; predicate = p; arguments = ts; block = b }) o ≡ Some d → option_map (λ b. record { sign = m; predicate = p; arguments = image_all same_number r ts; block = b }) o ≡ Some (atom_under d)
      go None e = absurd (cc)
      go (Some b) e = let same : record { sign = m; predicate = p; arguments = ts; block = b } ≡ d = cc in ap (λ k. Some (atom_under k)) same

  form_atom : (k : Form) (C : Read) (d : Defined) → defined_form D k C ≡ Some d → defined_form D (form_under r k) (image same_number r C) ≡ Some (atom_under d)
  form_atom (marked m A) C d e = as_image m A d e
  form_atom other C d e = as_image plain C d e
  form_atom truth C d e = absurd (cc)
  form_atom falsity C d e = absurd (cc)
  form_atom (both A B) C d e = absurd (cc)
  form_atom (either A B) C d e = absurd (cc)
  form_atom (implies A B) C d e = absurd (cc)
  form_atom (equal A t u) C d e = absurd (cc)
  form_atom (for_all A F) C d e = absurd (cc)
  form_atom (exists A F) C d e = absurd (cc)
  form_atom (nabla A F) C d e = absurd (cc)

  atom_image : (C : Read) (d : Defined) → StandsIn a_formula C → defined_atom D C ≡ Some d → defined_atom D (image same_number r C) ≡ Some (atom_under d)
  atom_image C d stands e = ap (λ k. defined_form D k (image same_number r C)) (form_image r C stands) ∙ form_atom (form_of C) C d e

module _ (D : Declarations) (defs : HaveDefinitions D) (program : HavePrograms D) (now : Now) (flexible : AreFlexible now) (g : Goal) (t : IsTask (signature_in D) now g) where
  abbrev sg : Signature
  sg = signature_in D

  layer_fine : HasMember sg → is_blind now.flexible g.conclusion ≡ false → (n : ℕ) (F : Read) → form_of g.conclusion ≡ other → opened_once g.conclusion ≡ Some F → IsFine D now g (leading_to D now g (record (asking F g) { layers = n } ∷ []))
  layer_fine has_list seen n F e opened =
      leading_fine D now flexible g t (record (asking F g) { layers = n } ∷ [])
      (record { conclusion = opened_part D now flexible g.constants g.untouched g.conclusion t.conclusion has_list seen F opened; hypotheses = t.hypotheses }, tt)
      (λ r l s. shown_layer (formed D now flexible g t r other e) (opened_image sg (value_in same_number r) (map_typed sg same_number r l.typed) g.conclusion F opened) s.0)

  module _ (depth : ℕ) (d : Defined) (is : defined_atom D g.conclusion ≡ Some d) (may : unfolds d.sign ≡ true) (c : Choice) (there : Contains (choices_of g.constants d) c) where
    abbrev whole : Read
    whole = spine (constant d.predicate) d.arguments

    known_atom : HasType sg [] whole prop × Facts now g.constants g.untouched whole
    known_atom = atom_known D now flexible g.constants g.untouched g.conclusion t.conclusion d is

    abbrev facts : Facts now g.constants g.untouched whole
    facts = known_atom.1

    defining : IsDefining sg c.clause
    defining = choice_defining D defs g.conclusion d is g.constants c there

    chosen : (map (λ a. a.type) c.names ≡ map (λ z. z.type) c.clause.names) × ((a : Nominal) → Contains c.names a → Contains (in_order (support_of_all d.arguments)) a ⊎ ¬ (Contains g.constants a))
    chosen = choice_names g.constants d (λ b q. facts.constants b q) c there

    -- the sequent as that of the alternatives: all variables are its own
    abbrev scope : Scope (List ℕ)
    scope = record { cells = now.cells; variables = numbered 0 now.cells; constants = g.constants }

    atom_of : IsAtomOf sg scope whole
    atom_of = record {
      different = numbered_different 0 now.cells;
      numbered = λ y h. (let low = (numbered_within 0 now.cells y h).1 in omega (arith, low));
      typed = known_atom.0;
      over_variables = λ y h. numbered_at now.cells 0 y.name y (omega arith) (facts.over y (holds_contains (variables whole) y h));
      constants_held = facts.constants;
    }

    abbrev alt : Alternative (List ℕ)
    alt = alternative (codes "x") scope d.arguments c.clause c.names on_right

    listed : Contains (alternatives (codes "x") on_right scope d.block.clauses whole) alt
    listed =
        let from = gathered_from (λ k. map (λ ns. record { clause = k; names = ns }) (choices (map (λ z. z.type) k.names) (in_order (support_of_all d.arguments)) g.constants)) (filter (λ k. bytes_eq k.predicate d.predicate) d.block.clauses) c there in
        let k = from.0 in
        let parts = filter_parts (λ k. bytes_eq k.predicate d.predicate) d.block.clauses k from.1 in
        let made = Contains-from_map (λ ns. record { clause = k; names = ns }) (choices (map (λ z. z.type) k.names) (in_order (support_of_all d.arguments)) g.constants) c from.2 in
        subst (λ (c : Choice). Contains (alternatives (codes "x") on_right scope d.block.clauses whole) (alternative (codes "x") scope d.arguments c.clause c.names on_right)) made.2
        (gathered (clause_alternatives (codes "x") on_right scope d.predicate d.arguments) d.block.clauses k (alternative (codes "x") scope d.arguments k made.0 on_right) parts.0
        (subst (λ b. Contains (cond b (map (λ ns. alternative (codes "x") scope d.arguments k ns on_right) (choices (map (λ z. z.type) k.names) (in_order (support_of_all d.arguments)) g.constants)) []) (alternative (codes "x") scope d.arguments k made.0 on_right)) (sym parts.1)
        (Contains-map (λ ns. alternative (codes "x") scope d.arguments k ns on_right) (choices (map (λ z. z.type) k.names) (in_order (support_of_all d.arguments)) g.constants) made.0 made.1)))

    well : All (IsClause sg) d.block.clauses
    well = let b = form_block D (form_of g.conclusion) g.conclusion d is in λ k e l. (defs b.0 d.block b.1 k e l).clause

    abbrev mid : Now
    mid = amid_clause sg now g.constants g.untouched d facts c defining chosen.0

    abbrev mine : List (Cell (List ℕ))
    mine = own sg now g.constants g.untouched d facts c defining chosen.0

    abbrev news : List (Variable ℕ)
    news = zs sg now g.constants g.untouched d facts c defining chosen.0

    news_high : (y : Variable ℕ) → holds news y ≡ true → length now.cells ≤ y.name
    news_high y h = (numbered_within (length now.cells) mine y h).0

    way_grown : IsGrown now mid (λ y. None) (λ y. None)
    way_grown = record {
      cells = (mine, refl);
      fixed = λ y l n. false_from_ne_true (holds (now.flexible ++ news) y) (λ h. elim (not_held now.flexible news y h) [ inl a ↦ false≢true (sym n ∙ a) | inr a ↦ (let high = news_high y a in absurd (omega (arith, high, l))) ]);
      same = λ y l. refl;
    }

    abbrev branch : List Nominal
    branch = with_constants (outside c.names (in_order (support_of_all d.arguments))) g.constants

    abbrev into : Substitution ℕ (List ℕ)
    into = filled (codes "x") c.clause (made_terms (codes "x") (length now.cells) (outside (in_order (support_of_all d.arguments)) c.names) c.clause.variables) c.names

    abbrev body : Read
    body = image same_number into c.clause.body

    is_formula : IsFormula sg body
    is_formula = image_formula sg into (put_typed sg now g.constants g.untouched d facts c defining chosen.0) c.clause.body defining.body

    next : Goal
    next = record { hypotheses = g.hypotheses; conclusion = marked_in d.block.predicates (mark_above d.sign) body; depth = depth; constants = branch; untouched = false; layers = g.layers; member_first = false }

    next_task : IsTask sg mid (record { hypotheses = g.hypotheses; conclusion = marked_in d.block.predicates (mark_above d.sign) body; depth = depth; constants = branch; untouched = false; layers = g.layers; member_first = false })
    next_task =
        let ps = d.block.predicates in
        let sign = mark_above d.sign in
        let of = body_facts sg now g.constants g.untouched d facts c defining chosen.0 in
        record {
          conclusion = record {
            formula = marked_formula sg ps sign body is_formula;
            facts = record {
              over = λ y m. of.over y (subst (λ l. Contains l y) (marked_variables ps sign body) m);
              constants = λ y m. of.constants y (subst (λ l. Contains l y) (marked_support ps sign body) m);
              fixed = λ q y m. of.fixed q y (subst (λ l. Contains l y) (marked_variables ps sign body) m);
            };
          };
          hypotheses = all_more sg mid g.constants branch false (constants_more (outside c.names (in_order (support_of_all d.arguments))) g.constants) g.hypotheses (all_touched sg mid g.constants g.untouched g.hypotheses (parts_grown sg now mid (λ y. None) (λ y. None) way_grown g.constants g.untouched g.hypotheses t.hypotheses));
        }

    whole_itself : image same_number [] whole ≡ whole
    whole_itself = image_none whole

    instance_of : (r : Substitution ℕ (List ℕ)) → IsLater sg mid r → Unifies r alt.equations → Instance sg (codes "x") d.block.clauses (spine (constant d.predicate) (image_all same_number r d.arguments)) (image same_number r body)
    instance_of r l u = subst (λ k. Instance sg (codes "x") d.block.clauses (image same_number r k) (image same_number r body)) whole_itself
        (listed_solved sg (codes "x") on_right scope d.block.clauses well d.predicate d.arguments atom_of alt listed r l.typed
        (λ y v f. All-from_contains (λ a. ¬ (Contains (support v) a)) alt.chosen (λ a k i. Contains-none a (subst (λ l. Contains l a) (l.nameless y v f) i))) u)

    clause_fine : IsFine D now g (by_choice D now g depth d c)
    clause_fine = record {
      typed = (listed_problem sg (codes "x") on_right scope d.block.clauses well d.predicate d.arguments atom_of alt listed).0;
      over = clause_over sg now g.constants g.untouched d facts c defining chosen.0;
      flexible = λ y h. elim (not_held now.flexible news y h) [
        | inl a ↦ cell_kept now.cells mid.cells (mine, refl) y (flexible y a)
        | inr a ↦ new_cell_at sg now g.constants g.untouched d facts c defining chosen.0 y a
      ];
      grown = way_grown;
      newer = λ y h. elim (not_held now.flexible news y h) [ inl a ↦ inl a | inr a ↦ inr (news_high y a) ];
      longer = (let sum = length-append now.cells mine in omega (arith, sum));
      tasks = (next_task, tt);
      shows = λ r l u v s. shown_clause (atom_under D r d) (image same_number r body) (atom_image D r g.conclusion d t.conclusion.formula.stands is) may (instance_of r l u)
          (subst (Shown D (map (image same_number r) g.hypotheses)) (sym (marked_image (value_in same_number r) d.block.predicates (mark_above d.sign) body is_formula.stands)) s.0);
    }

  by_choices : (depth : ℕ) (d : Defined) → defined_atom D g.conclusion ≡ Some d → EachFine D now g (cond (unfolds d.sign) (map (by_choice D now g depth d) (choices_of g.constants d)) [])
  by_choices depth d is = go (unfolds d.sign) refl
    where
      go : (b : Bool) → unfolds d.sign ≡ b → EachFine D now g (cond b (map (by_choice D now g depth d) (choices_of g.constants d)) [])
      go true may = fine_map D now g (by_choice D now g depth d) (choices_of g.constants d) (λ c m. clause_fine depth d is may c m)
      go false may = tt

  definition_fine : (n : ℕ) (o : Option Defined) → defined_atom D g.conclusion ≡ o → EachFine D now g (by_definition D now g n o)
  definition_fine zero None e = tt
  definition_fine zero (Some d) e = tt
  definition_fine (suc n) None e = tt
  definition_fine (suc n) (Some d) e = by_choices n d e

  known : FormFacts sg now g.constants g.untouched (form_of g.conclusion)
  known = form_facts sg now g.constants g.untouched g.conclusion t.conclusion

  layers_fine : HasMember sg → is_blind now.flexible g.conclusion ≡ false → form_of g.conclusion ≡ other → (n : ℕ) (o : Option Read) → opened_once g.conclusion ≡ o → EachFine D now g (by_layer D now g n o)
  layers_fine has_list seen e zero None q = tt
  layers_fine has_list seen e zero (Some F) q = tt
  layers_fine has_list seen e (suc n) None q = tt
  layers_fine has_list seen e (suc n) (Some F) q = (layer_fine has_list seen n F e q, tt)

  form_fine : HasMember sg → is_blind now.flexible g.conclusion ≡ false → (k : Form) → form_of g.conclusion ≡ k → FormFacts sg now g.constants g.untouched k → EachFine D now g (by_form D now g k)
  form_fine has_list seen (equal A v w) e p = (equal_fine D now flexible g t A v w e p, tt)
  form_fine has_list seen (both A B) e p = (both_fine D now flexible g t A B e p g.member_first, tt)
  form_fine has_list seen (either A B) e p = (left_fine D now flexible g t A B e p, (right_fine D now flexible g t A B e p, tt))
  form_fine has_list seen (implies A B) e p = (assuming_fine D now flexible g t A B e p, tt)
  form_fine has_list seen (nabla A F) e p = (constant_fine D now flexible g t A F e p, tt)
  form_fine has_list seen (exists A F) e p = (term_fine D now flexible g t A F e p, tt)
  form_fine has_list seen (for_all A F) e p = variables_fine g.untouched refl
    where
      variables_fine : (b : Bool) → g.untouched ≡ b → EachFine D now g (cond b (record {
        cells = now.cells ++ new_cell D now g F A (in_order (support g.conclusion)) ∷ [];
        flexible = now.flexible;
        equations = [];
        serving = [];
        taken = [];
        goals = asking (instance F (new_term D now g A (in_order (support g.conclusion)))) g ∷ [];
      } ∷ []) [])
      variables_fine true q = (variable_fine D now flexible g t A F q e p, tt)
      variables_fine false q = tt
  form_fine has_list seen other e p = layers_fine has_list seen e g.layers (opened_once g.conclusion) refl
  form_fine has_list seen truth e p = tt
  form_fine has_list seen falsity e p = tt
  form_fine has_list seen (marked m A) e p = tt

  pub ways_fine : HasMember sg → EachFine D now g (ways D now g)
  ways_fine has_list =
      let truths = by_truth D now g (form_of g.conclusion) in
      let given = for_each (by_hypothesis D now g) g.hypotheses in
      let rest = cond (is_blind now.flexible g.conclusion) [] ((by_form D now g (form_of g.conclusion) ++ by_definition D now g g.depth (defined_atom D g.conclusion)) ++ by_judgement D now g g.depth (as_judgement g.conclusion)) in
      fine_both D now g (truths ++ given) rest (front_fine D now flexible g t) (behind (is_blind now.flexible g.conclusion) refl)
    where
      behind : (b : Bool) → is_blind now.flexible g.conclusion ≡ b → EachFine D now g (cond b [] ((by_form D now g (form_of g.conclusion) ++ by_definition D now g g.depth (defined_atom D g.conclusion)) ++ by_judgement D now g g.depth (as_judgement g.conclusion)))
      behind true e = tt
      behind false e =
          fine_both D now g (by_form D now g (form_of g.conclusion) ++ by_definition D now g g.depth (defined_atom D g.conclusion)) (by_judgement D now g g.depth (as_judgement g.conclusion))
          (fine_both D now g (by_form D now g (form_of g.conclusion)) (by_definition D now g g.depth (defined_atom D g.conclusion)) (form_fine has_list e (form_of g.conclusion) refl known) (definition_fine g.depth (defined_atom D g.conclusion) refl))
          (judgements_fine D program has_list now flexible g t g.depth (as_judgement g.conclusion) refl)
