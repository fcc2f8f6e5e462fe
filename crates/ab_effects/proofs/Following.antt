-- The cases of a defined atom, and what it unfolds to, with other numbers.
use Rattle.std.proofs.Common.{◌≡◌, ◌⊎◌, inl, inr, ℕ, suc, ◌+◌, ◌-◌, ◌≤◌, List, [], ◌∷◌, ◌++◌, map, length, take, drop, filter, refl, sym, ◌∙◌, ap, subst, arith, codes, append-nil, length-append}
use Rattle.std.specs.Prelude.{bytes_eq, All, Contains}
use Rattle.std.proofs.lemmas.List.{length-map}
use Rattle.std.proofs.lemmas.List.Elements.{All-contains}
use Rattle.std.proofs.Math.Seq.{take-append-add, drop-append-add, drop-append_seam}
use Rattle.ab_term.specs.Types.{Ty}
use Rattle.ab_term.specs.Terms as tree
use Rattle.ab_term.specs.Terms.{Nominal, constant, spine, Read}
use Rattle.ab_term.specs.Typing.{Signature}
use Rattle.ab_term.specs.Names.{support, support_of_all}
use Rattle.ab_term.specs.Translation.{translate_variable, translate_all}
use Rattle.ab_term.specs.Variables.{Substitution, image}
use Rattle.ab_term.specs.Sameness.{same_number}
use Rattle.ab_term.proofs.Lists.{Contains-none, Contains-cases, Contains-from_map, All-from_contains}
use Rattle.ab_term.proofs.Translations.{map-append, support-translate}
use Rattle.ab_term.proofs.ImageTranslations.{translate-image}
use Rattle.ab_unifiers.specs.Replacements.{Cell}
use Rattle.ab_unifiers.specs.Clauses.{Clause, IsClause}
use Rattle.ab_unifiers.specs.Choices.{in_order, choices, for_each, others, new_constant, of_type}
use Rattle.ab_unifiers.specs.Alternatives.{Alternative, alternative, on_left, on_right}
use Rattle.ab_unifiers.proofs.Choosing.{contains_kept, gathered_from}
use Rattle.ab_formulas.specs.Sequents.{Variable, Hypothesis, Sequent, in_terms, names_of, formulas, goal_names, assuming, proving}
use Rattle.ab_theory.specs.Equations.{changed}
use Rattle.ab_theory.specs.Atoms.{Defined, Choice, choices_of}
use Rattle.ab_theory.specs.Analysis.{scope_of, raised_variables, raised_goal, case_of}
use Rattle.ab_theory.specs.Unfolding.{unfolding_case}
use Rattle.ab_formulas.specs.BodyMarks.{mark_below, mark_above, marked_in}
use Rattle.ab_unifiers.specs.Renumbering.{renumbered, renumbered_pairs, IsRenumbering}
use Rattle.ab_unifiers.proofs.Changes.{agreeing}
use Rattle.ab_unifiers.proofs.Alternatives.{IsChosen, alternative_moved}
use Rattle.ab_unifiers.proofs.Alternatives as alternatives
use Rattle.ab_effects.proofs.Renumbered.{moved_variable, moved_hypothesis, moved_goal}
use Rattle.ab_effects.proofs.Marked.{marked_moved}
use Rattle.ab_effects.proofs.Outcomes.{flexible_moved}
use Rattle.ab_effects.proofs.Arising.{Moves, Follows}

abbrev Cells : Type 0
Cells = List (Cell (List ℕ))

-- CHOICES

abbrev pub IsGood : Choice → Type 0
IsGood c = IsChosen c.clause c.names

choice_length : (As : List Ty) (free held ns : List Nominal) → Contains (choices As free held) ns → length ns ≡ length As
choice_length [] free held ns c = go (Contains-cases [] [] ns c)
  where
    go : ([] ≡ ns) ⊎ Contains [] ns → length ns ≡ 0
    go (inl e) = ap (λ (l : List Nominal). length l) (sym e)
    go (inr m) = absurd (Contains-none ns m)
choice_length (A ∷ As) free held ns c =
    let w = gathered_from (λ a. map (λ ms. a ∷ ms) (choices As (others a free) (a ∷ held))) (of_type A free ++ new_constant held A ∷ []) ns c in
    let v = Contains-from_map (λ ms. w.0 ∷ ms) (choices As (others w.0 free) (w.0 ∷ held)) ns w.2 in
    ap (λ (l : List Nominal). length l) (sym v.2) ∙ ap suc (choice_length As (others w.0 free) (w.0 ∷ held) v.0 v.1)

pub choices_good : (sg : Signature) (held : List Nominal) (d : Defined) → All (IsClause sg) d.block.clauses → All IsGood (choices_of held d)
choices_good sg held d clauses = All-from_contains IsGood (choices_of held d) good
  where
    good : (ch : Choice) → Contains (choices_of held d) ch → IsGood ch
    good ch m =
        let of = (λ (c : Clause (List ℕ)). choices (map (λ z. z.type) c.names) (in_order (support_of_all d.arguments)) held) in
        let w = gathered_from (λ c. map (λ ns. record { clause = c; names = ns }) (of c)) (filter (λ c. bytes_eq c.predicate d.predicate) d.block.clauses) ch m in
        let k = contains_kept (λ c. bytes_eq c.predicate d.predicate) d.block.clauses w.0 w.1 in
        let v = Contains-from_map (λ ns. record { clause = w.0; names = ns }) (of w.0) ch w.2 in
        let is = All-contains (IsClause sg) d.block.clauses w.0 clauses k.0 in
        let long = choice_length (map (λ z. z.type) w.0.names) (in_order (support_of_all d.arguments)) held v.0 v.1 in
        let types : length (map (λ z. z.type) w.0.names) ≡ length w.0.names = length-map w.0.names (λ z. z.type) in
        let chosen : IsGood (record { clause = w.0; names = v.0 }) = record { head = is.head_variables; body = is.body_variables; names = long ∙ types } in
        subst IsGood v.2 chosen

module _ (f : ℕ → ℕ) where
  abbrev pub moved_atom : Defined → Defined
  moved_atom d = record { sign = d.sign; predicate = d.predicate; arguments = translate_all f (λ x. x) d.arguments; block = d.block }

  names_moved : (hs : List Hypothesis) → names_of (formulas (map (moved_hypothesis f) hs)) ≡ names_of (formulas hs)
  names_moved [] = refl
  names_moved (h ∷ hs) =
      ap (λ l. l ++ names_of (formulas (map (moved_hypothesis f) hs))) (support-translate f (λ (x : List ℕ). x) h.formula)
      ∙ ap (λ l. support h.formula ++ l) (names_moved hs)

  pub goal_names_moved : (s : Sequent) → goal_names (moved_goal f s) ≡ goal_names s
  goal_names_moved s =
      ap (λ l. l ++ names_of (formulas (map (moved_hypothesis f) s.hypotheses))) (support-translate f (λ (x : List ℕ). x) s.conclusion)
      ∙ ap (λ l. support s.conclusion ++ l) (names_moved s.hypotheses)

  pub choices_moved : (held : List Nominal) (d : Defined) → choices_of held (moved_atom d) ≡ choices_of held d
  choices_moved held d =
      let same : support_of_all (translate_all f (λ x. x) d.arguments) ≡ support_of_all d.arguments = support-translate f (λ (x : List ℕ). x) (spine (constant []) d.arguments) in
      ap
      (λ l. for_each (λ c. map (λ ns. record { clause = c; names = ns }) (choices (map (λ z. z.type) c.names) (in_order l) held))
      (filter (λ c. bytes_eq c.predicate d.predicate) d.block.clauses))
      same

  scope_moved : (cells : Cells) (s : Sequent) → scope_of cells (moved_goal f s) ≡ record { cells = cells; variables = map (translate_variable f) (map in_terms s.variables); constants = goal_names s }
  scope_moved cells s =
      let variables = sym (flexible_moved f s.variables) in
      let constants = goal_names_moved s in
      λ i. record { cells = cells; variables = variables i; constants = constants i }

  -- THE GOAL RAISED

  raised_moved : (xs : List Variable) (ys : List (tree.Variable ℕ)) → map (moved_variable f) (raised_variables xs ys) ≡ raised_variables (map (moved_variable f) xs) (map (translate_variable f) ys)
  raised_moved [] ys = refl
  raised_moved (x ∷ xs) [] = refl
  raised_moved (x ∷ xs) (y ∷ ys) = ap (λ l. record { number = f y.name; type = y.type; name = x.name } ∷ l) (raised_moved xs ys)

  module _ (agree : (i j : ℕ) → same_number (f i) (f j) ≡ same_number i j) where
    image_moved : (s : Substitution ℕ (List ℕ)) (F : Read) → renumbered f (image same_number s F) ≡ image same_number (renumbered_pairs f s) (renumbered f F)
    image_moved s F = translate-image f (λ x. x) same_number same_number agree s F

    hypotheses_moved : (s : Substitution ℕ (List ℕ)) (hs : List Hypothesis)
        → map (moved_hypothesis f) (map (λ (h : Hypothesis). record { name = h.name; formula = image same_number s h.formula }) hs)
        ≡ map (λ (h : Hypothesis). record { name = h.name; formula = image same_number (renumbered_pairs f s) h.formula }) (map (moved_hypothesis f) hs)
    hypotheses_moved s [] = refl
    hypotheses_moved s (h ∷ hs) =
        ap (λ F. record { name = h.name; formula = F } ∷ map (moved_hypothesis f) (map (λ (h : Hypothesis). record { name = h.name; formula = image same_number s h.formula }) hs)) (image_moved s h.formula)
        ∙ ap (λ l. record { name = h.name; formula = image same_number (renumbered_pairs f s) (renumbered f h.formula) } ∷ l) (hypotheses_moved s hs)

    changed_moved : (s : Substitution ℕ (List ℕ)) (xs : List Variable) (t : Sequent) → moved_goal f (changed (image same_number s) xs t) ≡ changed (image same_number (renumbered_pairs f s)) (map (moved_variable f) xs) (moved_goal f t)
    changed_moved s xs t =
        let hypotheses = hypotheses_moved s t.hypotheses in
        let conclusion = image_moved s t.conclusion in
        λ i. record { variables = map (moved_variable f) xs; hypotheses = hypotheses i; conclusion = conclusion i; counter = t.counter }

  pub assuming_moved : (name : List ℕ) (F : Read) (t : Sequent) → moved_goal f (assuming name F t) ≡ assuming name (renumbered f F) (moved_goal f t)
  assuming_moved name F t =
      let hypotheses = map-append (moved_hypothesis f) t.hypotheses (record { name = name; formula = F } ∷ []) in
      λ i. record { variables = map (moved_variable f) t.variables; hypotheses = hypotheses i; conclusion = renumbered f t.conclusion; counter = t.counter }

-- what stands before the last n cells, and these
fronts : (cells new : Cells) (n : ℕ) → n ≤ length new → take (length (cells ++ new) - n) (cells ++ new) ≡ cells ++ take (length new - n) new
fronts cells new n long =
    let count : length (cells ++ new) - n ≡ length cells + (length new - n) = let all = length-append cells new in omega (arith, all, long) in
    ap (λ k. take k (cells ++ new)) count ∙ take-append-add cells new (length new - n)

rears : (cells new : Cells) (n : ℕ) → n ≤ length new → drop (length (cells ++ new) - n) (cells ++ new) ≡ drop (length new - n) new
rears cells new n long =
    let count : length (cells ++ new) - n ≡ length cells + (length new - n) = let all = length-append cells new in omega (arith, all, long) in
    ap (λ k. drop k (cells ++ new)) count ∙ drop-append-add cells new (length new - n)

-- A CASE ON THE LEFT
module _ (f : ℕ → ℕ) (goal rest : Sequent) (name : List ℕ) (d : Defined) (c : Choice) (good : IsGood c) where
  abbrev first_alternative : Cells → Alternative (List ℕ)
  first_alternative cells = alternative (codes "x") (scope_of cells goal) d.arguments c.clause c.names on_left

  abbrev second_alternative : Cells → Alternative (List ℕ)
  second_alternative others = alternative (codes "x") (scope_of others (moved_goal f goal)) (translate_all f (λ x. x) d.arguments) c.clause c.names on_left

  alternatives_follow : (cells others : Cells) → IsRenumbering f cells others → alternatives.Moves f cells others (length c.clause.variables) (first_alternative cells) (second_alternative others)
  alternatives_follow cells others r =
      subst (λ s. alternatives.Moves f cells others (length c.clause.variables) (first_alternative cells) (alternative (codes "x") s (translate_all f (λ x. x) d.arguments) c.clause c.names on_left)) (sym (scope_moved f others goal))
      (alternative_moved f (codes "x") (scope_of cells goal) others r d.arguments c.clause c.names good on_left)

  pub case_follows : Follows f (case_of goal rest name d c) (case_of (moved_goal f goal) (moved_goal f rest) name (moved_atom f d) c)
  case_follows cells others r =
      let n = length c.clause.variables in
      let a = first_alternative cells in
      let b = second_alternative others in
      let m = alternatives_follow cells others r in
      let F = marked_in d.block.predicates (mark_below d.sign) a.body in
      record {
        new = take (length m.new - n) m.new;
        before_first = ap (λ (l : Cells). take (length l - n) l) m.cells_first ∙ fronts cells m.new n m.long;
        before_second = ap (λ (l : Cells). take (length l - n) l) m.cells_second ∙ fronts others m.new n m.long;
        own =
            ap (λ (l : Cells). drop (length l - n) l) m.cells_second
            ∙ rears others m.new n m.long
            ∙ sym (rears cells m.new n m.long)
            ∙ ap (λ (l : Cells). drop (length l - n) l) (sym m.cells_first);
        equations = m.equations;
        flexible = m.flexible;
        goal =
            assuming_moved f name F (raised_goal a rest)
            ∙ ap (λ G. assuming name G (moved_goal f (raised_goal a rest))) (marked_moved f d.block.predicates (mark_below d.sign) a.body ∙ ap (marked_in d.block.predicates (mark_below d.sign)) m.body)
            ∙ ap (assuming name (marked_in d.block.predicates (mark_below d.sign) b.body))
            (changed_moved f (agreeing f r.different) a.raised (raised_variables rest.variables a.flexible) rest
            ∙ ap (λ s. changed (image same_number s) (map (moved_variable f) (raised_variables rest.variables a.flexible)) (moved_goal f rest)) m.raised
            ∙ ap (λ xs. changed (image same_number b.raised) xs (moved_goal f rest))
            (raised_moved f rest.variables a.flexible ∙ ap (raised_variables (map (moved_variable f) rest.variables)) m.flexible));
      }

-- A CASE ON THE RIGHT
module _ (f : ℕ → ℕ) (s : Sequent) (d : Defined) (c : Choice) (good : IsGood c) where
  abbrev first_unfolded : Cells → Alternative (List ℕ)
  first_unfolded cells = alternative (codes "x") (scope_of cells s) d.arguments c.clause c.names on_right

  abbrev second_unfolded : Cells → Alternative (List ℕ)
  second_unfolded others = alternative (codes "x") (scope_of others (moved_goal f s)) (translate_all f (λ x. x) d.arguments) c.clause c.names on_right

  pub unfolding_follows : (cells others : Cells) → IsRenumbering f cells others → Moves f cells others (unfolding_case cells s d c) (unfolding_case others (moved_goal f s) (moved_atom f d) c)
  unfolding_follows cells others r =
      let a = first_unfolded cells in
      let b = second_unfolded others in
      let m : alternatives.Moves f cells others (length c.clause.variables) a b =
      subst (λ q. alternatives.Moves f cells others (length c.clause.variables) a (alternative (codes "x") q (translate_all f (λ x. x) d.arguments) c.clause c.names on_right)) (sym (scope_moved f others s))
      (alternative_moved f (codes "x") (scope_of cells s) others r d.arguments c.clause c.names good on_right) in
      record {
        new = [];
        before_first = sym (append-nil cells);
        before_second = sym (append-nil others);
        own =
            ap (drop (length others)) m.cells_second
            ∙ drop-append_seam others m.new
            ∙ sym (drop-append_seam cells m.new)
            ∙ ap (drop (length cells)) (sym m.cells_first);
        equations = m.equations;
        flexible = m.flexible;
        goal =
            ap (λ F. proving F (moved_goal f s))
            (marked_moved f d.block.predicates (mark_above d.sign) a.body ∙ ap (marked_in d.block.predicates (mark_above d.sign)) m.body);
      }
