-- SAFE WAYS by a layer of a judgement, by a clause and by a rule; and whichever way the search goes on by.
use Rattle.std.proofs.Common.{◌≡◌, inl, inr, ℕ, zero, suc, ◌+◌, ◌<◌, ◌≤◌, List, [], ◌∷◌, ◌++◌, map, length, codes, Bool, true, false, cond, Option, Some, None, option_map, refl, sym, ◌∙◌, ap, subst, arith, length-append}
use Rattle.std.specs.Prelude.{Contains, All, slice_get}
use Rattle.std.proofs.lemmas.Bool.{false≢true, false_from_ne_true}
use Rattle.std.proofs.lemmas.List.Elements.{All-head, All-tail, Contains-append_left, Contains-append_right}
use Rattle.std.proofs.lemmas.Option.{slice_get-map}
use Rattle.ab_term.specs.Types.{Ty}
use Rattle.ab_term.specs.Logical as plain
use Rattle.ab_term.specs.Terms.{Nominal, Variable, constant, logical, nominal, variable, index, lam, spine, Terms, no_terms, term, Read}
use Rattle.ab_term.specs.Typing.{Signature}
use Rattle.ab_term.specs.Names.{support, support_of_all, permute}
use Rattle.ab_term.specs.Substitution.{instance}
use Rattle.ab_term.specs.Variables.{Substitution, variables, variables_of_all, value_in, image, image_all, put_for}
use Rattle.ab_term.specs.Sameness.{same_number}
use Rattle.ab_term.proofs.Lists.{Contains-none, Contains-here, Contains-cases, Contains-from_map}
use Rattle.ab_term.proofs.Compositions.{map_typed}
use Rattle.ab_unifiers.specs.Replacements.{holds}
use Rattle.ab_unifiers.specs.Unification.{Equation}
use Rattle.ab_unifiers.specs.Unifiers.{sides, HoldsCells, keys}
use Rattle.ab_unifiers.specs.Alternatives.{arguments_equal, made_terms}
use Rattle.ab_unifiers.specs.Choices.{in_order, outside, new_constant}
use Rattle.ab_unifiers.specs.Clauses.{numbered, filled, head_of, clause_variables, clause_names}
use Rattle.ab_unifiers.specs.Member.{HasMember}
use Rattle.ab_unifiers.proofs.Agreeing.{holds_front, holds_behind}
use Rattle.ab_unifiers.proofs.Ruling.{image_none}
use Rattle.ab_unifiers.proofs.Rows.{numbered_within}
use Rattle.ab_formulas.specs.Declarations.{Declarations, signature_in, HaveDefinitions, IsDefining}
use Rattle.ab_formulas.specs.BodyMarks.{mark_above, marked_in}
use Rattle.ab_formulas.specs.Forms.{Form, truth, falsity, both, either, implies, equal, for_all, exists, nabla, marked, other, form_of}
use Rattle.ab_formulas.specs.Marks as signs
use Rattle.ab_formulas.specs.Marks.{erased}
use Rattle.ab_formulas.specs.Programs.{program_in, HavePrograms}
use Rattle.ab_formulas.specs.Formulas.{a_formula}
use Rattle.ab_formulas.proofs.Images.{image_stands}
use Rattle.ab_formulas.proofs.MarkedFormulas.{marked_variables}
use Rattle.ab_pattern_matching.specs.Reading.{Every}
use Rattle.ab_theory.specs.Atoms.{Defined, Choice, defined_atom, choices_of}
use Rattle.ab_theory.specs.Judgements.{Judgement, as_judgement}
use Rattle.ab_theory.specs.Opening.{compound, kind_of}
use Rattle.ab_theory.specs.SpecRules.{SpecRule, rules_of}
use Rattle.ab_theory.proofs.Demanded.{Over}
use Rattle.ab_theory.proofs.JudgementRules.{judgement_known}
use Rattle.ab_theory.proofs.RuleDemands.{JudgementKnown, rule_well}
use Rattle.ab_theory.proofs.SubjectParts.{listed_at}
use Rattle.ab_search_trees.specs.Goals.{Goal, Now, asking, assuming}
use Rattle.ab_search_trees.specs.Maps.{maps}
use Rattle.ab_search_trees.specs.Judgements.{layer_of, opened_once, hides_head, is_blind, opens_by_layers, known as rules_known, search_rules}
use Rattle.ab_search_trees.specs.Ways.{Way, leading_to, equating, in_turn, new_cell, new_term, unfolds, demanded, with_constants, is_by_list, by_layer, by_form, by_choice, by_definition, by_rule, by_judgement, ways, by_truth}
use Rattle.ab_search_trees.proofs.Lifts.{known_cell, no_value}
use Rattle.ab_search_trees.proofs.Facts.{Facts, IsTask, FormFacts, form_facts}
use Rattle.ab_search_trees.proofs.Growing.{IsGrown}
use Rattle.ab_search_trees.proofs.Carried.{AreFlexible}
use Rattle.ab_search_trees.proofs.Smaller.{choice_defining}
use Rattle.ab_search_trees.proofs.ByClause.{choice_names}
use Rattle.ab_search_trees.proofs.Clauses.{constants_more}
use Rattle.ab_search_trees.proofs.ClauseParts as parts
use Rattle.ab_search_trees.proofs.Exact.{opened_image}
use Rattle.ab_search_trees.proofs.Own.{atom_known}
use Rattle.ab_search_trees.proofs.RuleWays.{is_rule_of}
use Rattle.ab_search_trees.proofs.Shows.{IsFine, formed}
use Rattle.ab_search_proofs.proofs.Connectives.{same_option}
use Rattle.ab_search_layers.specs.Closed as closing
use Rattle.ab_search_layers.specs.Closed.{to_show, Closes}
use Rattle.ab_search_layers.specs.Taken as way
use Rattle.ab_search_layers.specs.Taken.{Taking}
use Rattle.ab_search_answers.proofs.Final.{Scopes, IsIn, scope_from, IsFinal}
use Rattle.ab_search_answers.proofs.Under.{BothIn}
use Rattle.ab_search_answers.proofs.Scoped.{IsScoped, in_grown, scoped_grown}
use Rattle.ab_search_answers.specs.Followed.{in_the_end, clause_terms, rule_terms, closed_names, GoesOn, as_truth, as_hypothesis, as_equality, as_both, as_left, as_right, as_assuming, as_constant, as_term, as_variable, as_layer, as_clause, as_rule}
use Rattle.ab_search_answers.proofs.Below.{atom_under, ClauseEvidence, EvidenceFor}
use Rattle.ab_search_answers.proofs.Inside.{opened_inside, arguments_inside, taken_more}
use Rattle.ab_search_answers.specs.Unmarked.{HaveNoHash}
use Rattle.ab_search_answers.proofs.Signs.{image_none as image_none_marked, opened_none, marked_none, choice_none, unmarked_judgement}
use Rattle.ab_search_answers.proofs.UnmarkedDemands.{above_none, demand_none}
use Rattle.ab_search_answers.proofs.Safe.{of_one, IsSafe, amid_way, T, asked, leading_safe, truth_safe, both_safe, left_safe, right_safe, assuming_safe, equal_safe, hypothesis_safe}
use Rattle.ab_search_answers.proofs.Going.{seeing}
use Rattle.ab_search_answers.proofs.SafeMore.{constant_safe, term_safe, variable_safe}

-- a judgement that a search takes by a rule has no layer, with whatever is put in
module _ (sg : Signature) (now mid : Now) (fixed : (y : Variable ℕ) → y.name < length now.cells → holds now.flexible y ≡ false → holds mid.flexible y ≡ false) (longer : length now.cells ≤ length mid.cells) (S : Scopes) (r : Substitution ℕ (List ℕ)) (final : IsFinal sg mid S r) where
  layer_compound : (L G F : Read) → layer_of L G ≡ Some F → kind_of G ≡ compound
  layer_compound L (spine (logical plain.spec_conjunction) (term A (term B no_terms))) F e = refl
  layer_compound L (spine (logical plain.spec_implication) (term A (term B no_terms))) F e = refl
  layer_compound L (spine (logical (plain.spec_universal A)) (term (lam B x G) no_terms)) F e = refl
  layer_compound L _ F e = absurd (cc)

  kept_kind : (G : Read) → hides_head now.flexible G ≡ false → HoldsCells now.cells G → kind_of (image same_number r G) ≡ kind_of G
  kept_kind (lam A x t) h over = refl
  kept_kind (spine (constant c) ts) h over = refl
  kept_kind (spine (logical l) ts) h over = refl
  kept_kind (spine (nominal a) ts) h over = refl
  kept_kind (spine (index i) ts) h over = refl
  kept_kind (spine (variable y) ts) h over =
      let low = known_cell now.cells y.name y.type (over y (Contains-here y (variables_of_all ts))) in
      let none = no_value r y (false_from_ne_true (holds (keys r) y) (λ k. elim (final.within y k) [ inl a ↦ false≢true (sym (fixed y low h) ∙ a) | inr b ↦ absurd (omega (arith, low, b, longer)) ])) in
      ap (λ o. kind_of (put_for y o (image_all same_number r ts))) none

  pub not_opened : (D : Declarations) (C : Read) (j : Judgement) (s : SpecRule) → as_judgement C ≡ Some j → Contains (search_rules D j) s → is_blind now.flexible C ≡ false → HoldsCells now.cells C → opened_once (image same_number r C) ≡ None
  not_opened D (spine (variable y) ts) j s e m b over = absurd (cc)
  not_opened D (spine (logical plain.judgement) (term L (term G no_terms))) j s e m b over = go (layer_of (image same_number r L) (image same_number r G)) refl
    where
      here : Judgement
      here = record { sign = signs.plain; context = L; focus = None; goal = G }

      by_layers : (k : Bool) (X : List SpecRule) → k ≡ true → Contains (cond k [] X) s → ⊥
      by_layers true X q c = Contains-none s c
      by_layers false X q c = false≢true q

      go : (o : Option Read) → layer_of (image same_number r L) (image same_number r G) ≡ o → layer_of (image same_number r L) (image same_number r G) ≡ None
      go None q = q
      go (Some F) q =
          let same : here ≡ j = cc in
          let kind : kind_of G ≡ compound = sym (kept_kind G b (λ y i. over y (Contains-append_right (variables L) (variables G ++ []) y (Contains-append_left (variables G) [] y i)))) ∙ layer_compound (image same_number r L) (image same_number r G) F q in
          absurd (by_layers (opens_by_layers None (kind_of G)) (rules_known (rules_of (program_in D) here)) (ap (opens_by_layers None) kind) (subst (λ i. Contains (search_rules D i) s) (sym same) m))
  not_opened D _ j s e m b over = refl

module _ (D : Declarations) (defs : HaveDefinitions D) (program : HavePrograms D) (has : HasMember (signature_in D)) (none : HaveNoHash D) (clauses : ClauseEvidence D) (rules : (s : SpecRule) → EvidenceFor D s)
    (now : Now) (S : Scopes) (flexible : AreFlexible now) (g : Goal) (ys : List (Variable ℕ)) (t : IsTask (signature_in D) now g) (k : IsScoped now S g ys) where
  abbrev sg : Signature
  sg = signature_in D

  abbrev U : Scopes
  U = T D now S flexible g ys t k

  layer_safe : (n : ℕ) (F : Read) → form_of g.conclusion ≡ other → opened_once g.conclusion ≡ Some F → IsSafe D now S g ys (leading_to D now g (record (asking F g) { layers = n } ∷ [])) (λ r. way.layer)
  layer_safe n F e opened =
      let next = record (asking F g) { layers = n } in
      let here = asked D now S flexible g ys t k F (opened_inside g.conclusion F opened) (opened_none g.conclusion F opened) in
      leading_safe D now S flexible g ys t k (next ∷ []) way.layer (of_one (λ h. IsScoped now U h ys) next (record { conclusion = here.conclusion; hypotheses = here.hypotheses; branch = here.branch; low = here.low; unmarked = here.unmarked }))
      (λ r final gs es s. closing.by_layer (formed D now flexible g t r other e) (opened_image sg (value_in same_number r) (map_typed sg same_number r final.typed) g.conclusion F opened) s)

  -- where variables are brought
  module _ (mid : Now) (grown : IsGrown now mid (λ y. None) (λ y. None)) (keeps : (y : Variable ℕ) → holds now.flexible y ≡ true → holds mid.flexible y ≡ true) (longer : length now.cells ≤ length mid.cells) (held : (a : Nominal) → Contains now.held a → Contains mid.held a) where
    old_in : (y : Variable ℕ) → Contains (variables g.conclusion) y → IsIn mid U ys y
    old_in = in_grown sg now mid grown keeps longer held S ys ys g.conclusion t.conclusion.facts.over k.conclusion

    arguments_in : (p : ℕ) (ts us : Terms ℕ (List ℕ)) → ((y : Variable ℕ) → Contains (variables_of_all ts) y → IsIn mid U ys y) → ((y : Variable ℕ) → Contains (variables_of_all us) y → IsIn mid U ys y) → Every (BothIn mid U ys) (arguments_equal (codes "x") p ts us)
    arguments_in p no_terms us a b = tt
    arguments_in p (term v ts) no_terms a b = tt
    arguments_in p (term v ts) (term u us) a b = (
      ((λ y m. a y (Contains-append_left (variables v) (variables_of_all ts) y m)), (λ y m. b y (Contains-append_left (variables u) (variables_of_all us) y m))),
      arguments_in (suc p) ts us (λ y m. a y (Contains-append_right (variables v) (variables_of_all ts) y m)) (λ y m. b y (Contains-append_right (variables u) (variables_of_all us) y m)),
    )

    sides_in : (es : List (Equation (List ℕ))) → All (Over (IsIn mid U ys)) (sides es) → Every (BothIn mid U ys) es
    sides_in [] a = tt
    sides_in (e ∷ es) a =
        let rest = All-tail (Over (IsIn mid U ys)) e.left (e.right ∷ sides es) a in
        ((All-head (Over (IsIn mid U ys)) e.left (e.right ∷ sides es) a, All-head (Over (IsIn mid U ys)) e.right (sides es) rest), sides_in es (All-tail (Over (IsIn mid U ys)) e.right (sides es) rest))

  module _ (depth : ℕ) (d : Defined) (is : defined_atom D g.conclusion ≡ Some d) (may : unfolds d.sign ≡ true) (c : Choice) (there : Contains (choices_of g.constants d) c) (fine : IsFine D now g (by_choice D now g depth d c)) where
    abbrev facts : Facts now g.constants g.untouched (spine (constant d.predicate) d.arguments)
    facts = (atom_known D now flexible g.constants g.untouched g.conclusion t.conclusion d is).1

    defining : IsDefining sg c.clause
    defining = choice_defining D defs g.conclusion d is g.constants c there

    types : map (λ a. a.type) c.names ≡ map (λ z. z.type) c.clause.names
    types = (choice_names g.constants d (λ b q. facts.constants b q) c there).0

    abbrev mid : Now
    mid = amid_way D now (by_choice D now g depth d c)

    grown : IsGrown now mid (λ y. None) (λ y. None)
    grown = record { cells = fine.grown.cells; fixed = fine.grown.fixed; same = λ y l. refl }

    abbrev news : List (Variable ℕ)
    news = parts.zs sg now g.constants g.untouched d facts c defining types

    keeps : (y : Variable ℕ) → holds now.flexible y ≡ true → holds mid.flexible y ≡ true
    keeps = holds_front now.flexible news

    abbrev fresh : List Nominal
    fresh = outside c.names (in_order (support_of_all d.arguments))

    held : (a : Nominal) → Contains now.held a → Contains mid.held a
    held a m = constants_more fresh now.held a m

    abbrev put : Substitution ℕ (List ℕ)
    put = filled (codes "x") c.clause (made_terms (codes "x") (length now.cells) (outside (in_order (support_of_all d.arguments)) c.names) c.clause.variables) c.names

    abbrev next : Goal
    next = record { hypotheses = g.hypotheses; conclusion = marked_in d.block.predicates (mark_above d.sign) (image same_number put c.clause.body); depth = depth; constants = with_constants fresh g.constants; untouched = false; layers = g.layers; member_first = false }

    new_in : (y : Variable ℕ) → holds news y ≡ true → IsIn mid U ys y
    new_in y h = inl (holds_behind now.flexible news y h, scope_from (length now.cells) ys S y (numbered_within (length now.cells) (parts.own sg now g.constants g.untouched d facts c defining types) y h).0)

    atom_itself : image_all same_number [] d.arguments ≡ d.arguments
    atom_itself = let whole : image same_number [] (spine (constant d.predicate) d.arguments) ≡ spine (constant d.predicate) d.arguments = image_none (spine (constant d.predicate) d.arguments) in cc

    clause_safe : IsSafe D now S g ys (by_choice D now g depth d c) (λ r. way.clause c.clause c.names (map (image same_number r) (clause_terms (length now.cells) d c)))
    clause_safe =
        let old = scoped_grown sg now mid grown keeps fine.longer held S ys g ys t k in
        record {
          scope = ys;
          keeps = keeps;
          equations = arguments_in mid grown keeps fine.longer held 0 (image_all same_number [] d.arguments) (image_all same_number put c.clause.arguments)
              (λ y m. old_in mid grown keeps fine.longer held y (arguments_inside D g.conclusion d is y (subst (λ ts. Contains (variables_of_all ts) y) atom_itself m)))
              (λ y m. new_in y (parts.put_variables sg now g.constants g.untouched d facts c defining types (head_of c.clause) defining.clause.head_variables y m));
          goals = of_one (λ h. IsScoped mid U h ys) next (record {
            conclusion = λ y m. new_in y (parts.put_variables sg now g.constants g.untouched d facts c defining types c.clause.body (λ z h. holds_front (clause_variables c.clause) (clause_names c.clause) z (defining.clause.body_variables z h)) y
                (subst (λ l. Contains l y) (marked_variables d.block.predicates (mark_above d.sign) (image same_number put c.clause.body)) m));
            hypotheses = old.hypotheses;
            branch = taken_more fresh g.constants now.held k.branch;
            low = old.low;
            unmarked = marked_none d.block.predicates (mark_above d.sign) (image same_number put c.clause.body) (image_stands (value_in same_number put) a_formula c.clause.body defining.body.stands) (image_none_marked put c.clause.body defining.body.stands (choice_none D none g.conclusion d is g.constants c there));
          });
          closes = λ last more q n taken final u v gs es s.
              let r = in_the_end last q n in
              let us = map (image same_number r) (clause_terms (length now.cells) d c) in
              let gives = clauses now last g depth d c ys more q n is may there taken in
              closing.by_clause (atom_under r d) c.clause us c.names gives.by (subst (λ F. Closes D (to_show ys (map (image same_number r) g.hypotheses) F ∷ gs) es) (gives.body (image same_number r next.conclusion) (Contains-here (image same_number r next.conclusion) [])) s);
        }

  module _ (j : Judgement) (is : as_judgement g.conclusion ≡ Some j) (seen : is_blind now.flexible g.conclusion ≡ false) where
    rule_safe : (depth : ℕ) → unfolds j.sign ≡ true → (s : SpecRule) (i : ℕ) → slice_get (search_rules D j) i ≡ Some s → IsFine D now g (by_rule D now g depth j s)
        → IsSafe D now S g ys (by_rule D now g depth j s) (λ r. way.rule i (map (image same_number r) (rule_terms (length now.cells) j s)) (closed_names s))
    rule_safe depth may s i at fine =
        let there = listed_at (search_rules D j) i s at in
        let w = by_rule D now g depth j s in
        let plainly : j.sign ≡ signs.plain = unmarked_judgement g.conclusion j is k.unmarked may in
        let d = demanded (length now.cells) j s in
        let mid = amid_way D now w in
        let news = numbered (length (now.cells ++ d.passing)) d.own in
        let grown : IsGrown now mid (λ y. None) (λ y. None) = record { cells = fine.grown.cells; fixed = fine.grown.fixed; same = λ y l. refl } in
        let keeps : (y : Variable ℕ) → holds now.flexible y ≡ true → holds mid.flexible y ≡ true = holds_front now.flexible news in
        let before = length-append now.cells d.passing in
        let known : JudgementKnown sg (Contains (variables g.conclusion)) g.constants j = judgement_known sg (Contains (variables g.conclusion)) g.constants g.conclusion j is t.conclusion.formula.typed (record { over = λ y m. m; names = t.conclusion.facts.constants }) in
        let well = rule_well sg has (Contains (variables g.conclusion)) (IsIn mid U ys) (old_in mid grown keeps fine.longer (λ a h. h)) (length now.cells) g.constants (mark_above j.sign) j known s (is_rule_of D program j s there)
        (λ y h. inl (holds_behind now.flexible news y (subst (λ k. holds (numbered k d.own) y ≡ true) (sym before) h), scope_from (length now.cells) ys S y (let low = (numbered_within (length now.cells + length d.passing) d.own y h).0 in omega (arith, low)))) in
        let old = scoped_grown sg now mid grown keeps fine.longer (λ a h. h) S ys g ys t k in
        let next = record (asking d.body g) { depth = depth; untouched = false; member_first = is_by_list s } in
        record {
          scope = ys;
          keeps = keeps;
          equations = sides_in mid grown keeps fine.longer (λ a h. h) d.equations well.over;
          goals = of_one (λ h. IsScoped mid U h ys) next (record { conclusion = well.body.over; hypotheses = old.hypotheses; branch = old.branch; low = old.low; unmarked = demand_none (mark_above j.sign) (above_none j.sign) (length now.cells) j s });
          closes = λ last more q n taken final u v gs es shown.
              let r = in_the_end last q n in
              rules s now last g depth j i ys (map (image same_number r) g.hypotheses) more q n is plainly at taken (not_opened sg now mid grown.fixed fine.longer U r final D g.conclusion j s is there seen t.conclusion.facts.over) gs es shown;
        }

  known : FormFacts sg now g.constants g.untouched (form_of g.conclusion)
  known = form_facts sg now g.constants g.untouched g.conclusion t.conclusion

  -- THE WAY IS SAFE by which the search goes on
  module _ (r : Substitution ℕ (List ℕ)) (w : Way) (among : Contains (ways D now g) w) (fine : IsFine D now g w) where
    abbrev Safe : Taking → Type 0
    Safe k = (f : Substitution ℕ (List ℕ) → Taking) × (f r ≡ k) × IsSafe D now S g ys w f

    -- the way being this one
    it_is : (v : Way) (f : Substitution ℕ (List ℕ) → Taking) → v ≡ w → (IsFine D now g v → IsSafe D now S g ys v f) → Safe (f r)
    it_is v f e safe = (f, refl, subst (λ v. IsSafe D now S g ys v f) e (safe (subst (IsFine D now g) (sym e) fine)))

    -- by the form
    formed_way : (X : Form) (i : ℕ) → form_of g.conclusion ≡ X → slice_get (by_form D now g (form_of g.conclusion)) i ≡ Some w → slice_get (by_form D now g X) i ≡ Some w
    formed_way X i e at = subst (λ Y. slice_get (by_form D now g Y) i ≡ Some w) e at

    facts_at : (X : Form) → form_of g.conclusion ≡ X → FormFacts sg now g.constants g.untouched X
    facts_at X e = subst (FormFacts sg now g.constants g.untouched) e known

    of_truth : (X : Form) → form_of g.conclusion ≡ X → Contains (by_truth D now g X) w → Safe way.truth
    of_truth truth e m = elim (Contains-cases (leading_to D now g []) [] w m) [ inl q ↦ it_is (leading_to D now g []) (λ r. way.truth) q (λ f. truth_safe D now S flexible g ys t k e) | inr n ↦ absurd (Contains-none w n) ]
    of_truth falsity e m = absurd (Contains-none w m)
    of_truth (both A B) e m = absurd (Contains-none w m)
    of_truth (either A B) e m = absurd (Contains-none w m)
    of_truth (implies A B) e m = absurd (Contains-none w m)
    of_truth (equal A v u) e m = absurd (Contains-none w m)
    of_truth (for_all A F) e m = absurd (Contains-none w m)
    of_truth (exists A F) e m = absurd (Contains-none w m)
    of_truth (nabla A F) e m = absurd (Contains-none w m)
    of_truth (marked i A) e m = absurd (Contains-none w m)
    of_truth other e m = absurd (Contains-none w m)

    abbrev variable_way : Ty → Read → Way
    variable_way A F = record {
      cells = now.cells ++ new_cell D now g F A (in_order (support g.conclusion)) ∷ [];
      flexible = now.flexible;
      equations = [];
      serving = [];
      taken = [];
      goals = asking (instance F (new_term D now g A (in_order (support g.conclusion)))) g ∷ [];
    }

    of_variable : (A : Ty) (F : Read) → form_of g.conclusion ≡ for_all A F → (b : Bool) → g.untouched ≡ b → slice_get (cond b (variable_way A F ∷ []) []) 0 ≡ Some w → Safe (way.variable (length now.cells) (in_order (support g.conclusion)))
    of_variable A F e true q at = it_is (variable_way A F) (λ r. way.variable (length now.cells) (in_order (support g.conclusion))) (same_option at) (λ f. variable_safe D now S flexible g ys t k A F q e (facts_at (for_all A F) e) f)
    of_variable A F e false q at = absurd (cc)

    of_layer : form_of g.conclusion ≡ other → (n : ℕ) (o : Option Read) → opened_once g.conclusion ≡ o → slice_get (by_layer D now g n o) 0 ≡ Some w → Safe way.layer
    of_layer e zero None q at = absurd (cc)
    of_layer e zero (Some F) q at = absurd (cc)
    of_layer e (suc n) None q at = absurd (cc)
    of_layer e (suc n) (Some F) q at = it_is (leading_to D now g (record (asking F g) { layers = n } ∷ [])) (λ r. way.layer) (same_option at) (λ f. layer_safe n F e q)

    of_clause : (d : Defined) (c : Choice) (i : ℕ) → defined_atom D g.conclusion ≡ Some d → slice_get (choices_of g.constants d) i ≡ Some c → (n : ℕ) → slice_get (by_definition D now g n (Some d)) i ≡ Some w
        → Safe (way.clause c.clause c.names (map (image same_number r) (clause_terms (length now.cells) d c)))
    of_clause d c i is chosen zero at = absurd (cc)
    of_clause d c i is chosen (suc depth) at = go (unfolds d.sign) refl at
      where
        go : (b : Bool) → unfolds d.sign ≡ b → slice_get (cond b (map (by_choice D now g depth d) (choices_of g.constants d)) []) i ≡ Some w
            → Safe (way.clause c.clause c.names (map (image same_number r) (clause_terms (length now.cells) d c)))
        go true may at = it_is (by_choice D now g depth d c) (λ r. way.clause c.clause c.names (map (image same_number r) (clause_terms (length now.cells) d c)))
            (same_option (sym (slice_get-map (by_choice D now g depth d) (choices_of g.constants d) i ∙ ap (option_map (by_choice D now g depth d)) chosen) ∙ at))
            (λ f. clause_safe depth d is may c (listed_at (choices_of g.constants d) i c chosen) f)
        go false may at = absurd (cc)

    of_rule : (j : Judgement) (s : SpecRule) (i : ℕ) → as_judgement g.conclusion ≡ Some j → slice_get (search_rules D j) i ≡ Some s → (n : ℕ) → slice_get (by_judgement D now g n (Some j)) i ≡ Some w
        → Safe (way.rule i (map (image same_number r) (rule_terms (length now.cells) j s)) (closed_names s))
    of_rule j s i is chosen zero at = absurd (cc)
    of_rule j s i is chosen (suc depth) at = go (unfolds j.sign) refl at
      where
        go : (b : Bool) → unfolds j.sign ≡ b → slice_get (cond b (map (by_rule D now g depth j) (search_rules D j)) []) i ≡ Some w
            → Safe (way.rule i (map (image same_number r) (rule_terms (length now.cells) j s)) (closed_names s))
        go true may at =
            let same : by_rule D now g depth j s ≡ w = same_option (sym (slice_get-map (by_rule D now g depth j) (search_rules D j) i ∙ ap (option_map (by_rule D now g depth j)) chosen) ∙ at) in
            it_is (by_rule D now g depth j s) (λ r. way.rule i (map (image same_number r) (rule_terms (length now.cells) j s)) (closed_names s)) same
            (λ f. rule_safe j is (seeing D now g w _ [] (ap (λ (v : Way). v.goals) (sym same)) among) depth may s i chosen f)
        go false may at = absurd (cc)

    pub way_safe : {k : Taking} → GoesOn D now g r w k → Safe k
    way_safe (as_truth m) = of_truth (form_of g.conclusion) refl m
    way_safe (as_hypothesis i E at m) =
        let from = Contains-from_map (λ ps. equating D now g (permute ps (erased E)) (erased g.conclusion) ((g.conclusion, E) ∷ [])) (maps (in_order (support E)) g.constants) w m in
        it_is (equating D now g (permute from.0 (erased E)) (erased g.conclusion) ((g.conclusion, E) ∷ [])) (λ r. way.hypothesis i) from.2 (λ f. hypothesis_safe D now S flexible g ys t k i E at from.0 from.1)
    way_safe (as_equality {A = A} {t = v} {u = u} e at) = it_is (equating D now g v u []) (λ r. way.equality) (same_option (formed_way (equal A v u) 0 e at)) (λ f. equal_safe D now S flexible g ys t k A v u e)
    way_safe (as_both {A = A} {B = B} e at) = it_is (leading_to D now g (in_turn g.member_first (asking A g) (asking B g))) (λ r. way.both g.member_first) (same_option (formed_way (both A B) 0 e at)) (λ f. both_safe D now S flexible g ys t k A B e g.member_first)
    way_safe (as_left {A = A} {B = B} e at) = it_is (leading_to D now g (asking A g ∷ [])) (λ r. way.left) (same_option (formed_way (either A B) 0 e at)) (λ f. left_safe D now S flexible g ys t k A B e)
    way_safe (as_right {A = A} {B = B} e at) = it_is (leading_to D now g (asking B g ∷ [])) (λ r. way.right) (same_option (formed_way (either A B) 1 e at)) (λ f. right_safe D now S flexible g ys t k A B e)
    way_safe (as_assuming {A = A} {B = B} e at) = it_is (leading_to D now g (asking B (assuming A g) ∷ [])) (λ r. way.assuming) (same_option (formed_way (implies A B) 0 e at)) (λ f. assuming_safe D now S flexible g ys t k A B e)
    way_safe (as_constant {A = A} {F = F} e at) = it_is _ (λ r. way.constant (new_constant g.constants A)) (same_option (formed_way (nabla A F) 0 e at)) (λ f. constant_safe D now S flexible g ys t k A F e (facts_at (nabla A F) e))
    way_safe (as_term {A = A} {F = F} e at) = it_is _ (λ r. way.term (image same_number r (new_term D now g A g.constants))) (same_option (formed_way (exists A F) 0 e at)) (λ f. term_safe D now S flexible g ys t k A F e (facts_at (exists A F) e) f)
    way_safe (as_variable {A = A} {F = F} e at) = of_variable A F e g.untouched refl (formed_way (for_all A F) 0 e at)
    way_safe (as_layer e at) = of_layer e g.layers (opened_once g.conclusion) refl (formed_way other 0 e at)
    way_safe (as_clause d c i is chosen at) = of_clause d c i is chosen g.depth (subst (λ o. slice_get (by_definition D now g g.depth o) i ≡ Some w) is at)
    way_safe (as_rule j s i is chosen at) = of_rule j s i is chosen g.depth (subst (λ o. slice_get (by_judgement D now g g.depth o) i ≡ Some w) is at)
