-- EVIDENCE FOR A CLAUSE: it gives the atom at last, and is solved wherever the atom comes to stand.
use Rattle.std.proofs.Common.{◌≡◌, ◌≢◌, inl, inr, ℕ, ◌+◌, List, [], ◌∷◌, ◌++◌, map, length, codes, not, true, false, Some, refl, sym, ◌∙◌, ap, subst, arith}
use Rattle.std.specs.Prelude.{All, Contains}
use Rattle.std.proofs.lemmas.Bool.{false_from_ne_true}
use Rattle.std.proofs.lemmas.List.Elements.{All-contains}
use Rattle.ab_term.specs.Types.{Ty, prop}
use Rattle.ab_term.specs.Terms as tree
use Rattle.ab_term.specs.Terms.{Nominal, constant, logical, spine, Terms, no_terms, term, Read}
use Rattle.ab_term.specs.Typing.{Signature, HasType, TakeType}
use Rattle.ab_term.specs.Names.{support, support_of_all, rename, permute, moved_by, HasOneTypeEach, IsPermutationTable}
use Rattle.ab_term.specs.Translation.{forget, EqualPastHints}
use Rattle.ab_term.specs.Variables.{Substitution, variables, variables_of_all, value_in, image, image_all, image_by}
use Rattle.ab_term.specs.Sameness.{same_number}
use Rattle.ab_term.proofs.Compositions.{image_typed}
use Rattle.ab_term.proofs.Lists.{Contains-none, Contains-cases, Contains-map, Contains-from_map, All-from_contains}
use Rattle.ab_term.proofs.Permutations.{one_to_one}
use Rattle.ab_term.proofs.Renamings.{support-rename, rename_typed}
use Rattle.ab_term.proofs.Translations.{translate-rename}
use Rattle.ab_unifiers.specs.Replacements.{Cell, holds}
use Rattle.ab_unifiers.specs.Unification.{unified, Solves}
use Rattle.ab_unifiers.specs.Unifiers.{given}
use Rattle.ab_unifiers.specs.Clauses.{Each, clause_variables, clause_names, filled, head_of, AreFor, HoldsNone}
use Rattle.ab_unifiers.specs.Choices.{is_in, in_order, outside}
use Rattle.ab_unifiers.specs.Alternatives.{made_over, made_terms}
use Rattle.ab_unifiers.proofs.Agreeing.{contains_holds, holds_front}
use Rattle.ab_unifiers.proofs.Choosing.{outside_contains, ordered_pairs, kept_pairs}
use Rattle.ab_unifiers.proofs.Following.{plain, plain_typed}
use Rattle.ab_unifiers.proofs.Rows.{numbered_within}
use Rattle.ab_unifiers.proofs.Ruling.{image_none, image_past_hints}
use Rattle.ab_unifiers.proofs.Unifier.{arguments_of}
use Rattle.ab_formulas.specs.BodyMarks.{with_mark, mark_above, marked_in}
use Rattle.ab_formulas.specs.Declarations.{Declarations, Block, HaveDefinitions, signature_in, IsDefining}
use Rattle.ab_formulas.specs.Formulas.{IsFormula}
use Rattle.ab_formulas.specs.GoalTerms.{HoldsOnly}
use Rattle.ab_formulas.specs.Sequents.{Sequent, IsSequent, goal_names, names_of, in_terms}
use Rattle.ab_formulas.specs.Sequents as sequents
use Rattle.ab_formulas.proofs.Images.{image_formula}
use Rattle.ab_theory.specs.Atoms.{Defined, Choice, defined_atom, choices_of}
use Rattle.ab_theory.specs.Equations.{AreCells}
use Rattle.ab_theory.proofs.Raised.{known_there}
use Rattle.ab_theory.proofs.Sequents.{goal_of}
use Rattle.ab_theory.proofs.Sized.{atom_of, atom_over}
use Rattle.ab_search_trees.specs.Goals.{Goal, Now}
use Rattle.ab_search_trees.specs.Lifting.{Guess}
use Rattle.ab_search_trees.specs.Tree.{problem_of}
use Rattle.ab_search_trees.specs.Ways.{unfolds, with_constants, by_choice}
use Rattle.ab_search_trees.proofs.Carried.{AreFlexible}
use Rattle.ab_search_trees.proofs.Exact.{marked_image}
use Rattle.ab_search_trees.proofs.Facts.{IsTask}
use Rattle.ab_search_proofs.specs.Likeness.{StandIn, replaced, replacing, AreStandIns, IsLike}
use Rattle.ab_search_proofs.specs.Proved.{IsSolved, IsSolvedWherever, IsByClause, body_by}
use Rattle.ab_search_proofs.proofs.AtomsAlike.{AtomLike, atom_like}
use Rattle.ab_search_proofs.proofs.Extending.{sent_once}
use Rattle.ab_search_proofs.proofs.StandIns.{stand_ins_typed, stand_ins_nameless, under_support}
use Rattle.ab_search_clauses.specs.Paths.{at_last, atom_at_last, terms_at_last, IsAtLast}
use Rattle.ab_search_clauses.proofs.Atoms.{IsChoice, is_choice, may_unfold, mark_under, unmarked_same, atom_image}
use Rattle.ab_search_clauses.proofs.MarksMoved.{marked_moved}
use Rattle.ab_search_clauses.proofs.Puts as puts
use Rattle.ab_search_clauses.proofs.Solving.{is_solved}
use Rattle.ab_search_clauses.proofs.Taken as taken
use Rattle.ab_search_clauses.proofs.There as there_is
use Rattle.ab_search_clauses.proofs.Wherever.{unified_there}
use Rattle.ab_search_clauses.proofs.Along as along
use Rattle.ab_search_clauses.proofs.Along.{each_unmapped}
use Rattle.ab_search_clauses.proofs.AtPlace.{stood_known}

module _ (D : Declarations) (defs : HaveDefinitions D) (now : Now) (flexible : AreFlexible now) (g : Goal) (t : IsTask (signature_in D) now g) (depth : ℕ) (d : Defined) (is : defined_atom D g.conclusion ≡ Some d) (c : Choice) (there : Contains (choices_of g.constants d) c)
    (ys : List (tree.Variable ℕ)) (later fill : Substitution ℕ (List ℕ)) (last : IsAtLast (signature_in D) now g (by_choice D now g depth d c) c.names ys later fill)
    (more : List (Cell (List ℕ))) (q : Substitution ℕ (List ℕ)) (solves : Solves (codes "x") (problem_of (by_choice D now g depth d c)) (unified more q)) where
  abbrev sg : Signature
  sg = signature_in D

  abbrev x : List ℕ
  x = codes "x"

  abbrev C : Read
  C = at_last later fill g.conclusion

  abbrev atom : Defined
  atom = atom_at_last later fill d

  abbrev us : List Read
  us = terms_at_last later fill now d c

  abbrev defining : IsDefining sg c.clause
  defining = taken.defining D defs now flexible g t depth d is c there

  abbrev chosen : IsChoice g.constants d c
  chosen = taken.chosen D defs now flexible g t depth d is c there

  is_atom : defined_atom D C ≡ Some atom
  is_atom = atom_image D fill (image same_number later g.conclusion) (record d { arguments = image_all same_number later d.arguments }) (image_formula sg later last.typed g.conclusion t.conclusion.formula).stands (atom_image D later g.conclusion d t.conclusion.formula.stands is)

  abbrev B : Read
  B = body_by atom c.clause us c.names

  abbrev result : Read
  result = image same_number (filled (codes "x") c.clause (terms_at_last later fill now d c) c.names) c.clause.body

  us_for : AreFor sg (clause_variables c.clause) us
  us_for = taken.us_for D defs now flexible g t depth d is c there ys later fill last

  abbrev put_at_last : Substitution ℕ (List ℕ)
  put_at_last = filled (codes "x") c.clause (terms_at_last later fill now d c) c.names

  result_formula : IsFormula sg result
  result_formula = image_formula sg put_at_last (puts.put_typed sg c.clause us c.names us_for chosen.types) c.clause.body defining.body

  -- WHAT THE WAY LEAVES, at last
  abbrev pub next : Goal
  next = record {
    hypotheses = g.hypotheses;
    conclusion = marked_in d.block.predicates (mark_above d.sign) (image same_number (taken.put D defs now flexible g t depth d is c there) c.clause.body);
    depth = depth;
    constants = with_constants (outside c.names (in_order (support_of_all d.arguments))) g.constants;
    untouched = false;
    layers = g.layers;
    member_first = false;
  }

  abbrev first_body : Read
  first_body = image same_number (taken.put D defs now flexible g t depth d is c there) c.clause.body

  first_formula : IsFormula sg first_body
  first_formula = image_formula sg (taken.put D defs now flexible g t depth d is c there) (taken.put_typed D defs now flexible g t depth d is c there) c.clause.body defining.body

  body_own : (y : tree.Variable ℕ) → holds (variables c.clause.body) y ≡ true → holds (clause_variables c.clause ++ clause_names c.clause) y ≡ true
  body_own y h = holds_front (clause_variables c.clause) (clause_names c.clause) y (defining.clause.body_variables y h)

  body_is : at_last later fill (marked_in d.block.predicates (mark_above d.sign) first_body) ≡ B
  body_is =
      let P = d.block.predicates in
      let M = mark_above d.sign in
      ap (image same_number fill) (sym (marked_image (value_in same_number later) P M first_body first_formula.stands))
      ∙ sym (marked_image (value_in same_number fill) P M (image same_number later first_body) (image_formula sg later last.typed first_body first_formula).stands)
      ∙ ap (marked_in P M) (taken.last_through D defs now flexible g t depth d is c there ys later fill last c.clause.body defining.clause.body body_own)

  pub left_is : (h : Goal) → Contains (by_choice D now g depth d c).goals h → at_last later fill h.conclusion ≡ B
  left_is h m = elim (Contains-cases next [] h m) [
    | inl e ↦ ap (λ (k : Goal). at_last later fill k.conclusion) (sym e) ∙ body_is
    | inr n ↦ absurd (Contains-none h n)
  ]

  -- WHERE THE CONCLUSION HAS COME TO STAND
  module _ (vs : List StandIn) (s : Sequent) (ps : List (Nominal × Nominal)) (place : Defined) (cells : List (Cell (List ℕ))) (same_variables : map replaced vs ≡ ys) (are : AreStandIns s vs) (sequent : IsSequent D s) (cells_are : AreCells cells s)
      (permutation : IsPermutationTable ps) (same : EqualPastHints (permute ps (image same_number (replacing vs) C)) s.conclusion) (place_is : defined_atom D s.conclusion ≡ Some place)
      (listed : Contains (choices_of (goal_names s) place) (record { clause = c.clause; names = map (moved_by ps) c.names }))
      (one_type : HasOneTypeEach (goal_names s ++ (map (moved_by ps) c.names ++ names_of (map (λ u. permute ps (image same_number (replacing vs) u)) us)))) where
    abbrev m : Nominal → Nominal
    m = moved_by ps

    abbrev here : Read → Read
    here u = permute ps (image same_number (replacing vs) u)

    abbrev names : List Nominal
    names = map (moved_by ps) c.names

    abbrev terms : List Read
    terms = map (λ u. permute ps (image same_number (replacing vs) u)) us

    keeps : (a : Nominal) → (moved_by ps a).type ≡ a.type
    keeps = (one_to_one ps permutation).keeps

    choice_there : IsChoice (goal_names s) place (record { clause = c.clause; names = map (moved_by ps) c.names })
    choice_there = is_choice (goal_names s) place (atom_over D s.variables (goal_names s) s.conclusion place (goal_of D s sequent).conclusion place_is).held (record { clause = c.clause; names = map (moved_by ps) c.names }) listed

    like : IsLike D vs C s.conclusion
    like = record {
      formula = image_formula sg fill last.filled (image same_number later g.conclusion) (image_formula sg later last.typed g.conclusion t.conclusion.formula);
      known = subst (λ l. HoldsOnly l C) (sym same_variables) last.conclusion;
      same = (ps, permutation, same);
    }

    alike : AtomLike D vs ps atom s.conclusion
    unfolding like
    alike = atom_like D vs C s.conclusion like atom is_atom

    place_same : alike.atom ≡ place
    place_same = let both : Some alike.atom ≡ Some place = sym alike.is ∙ place_is in cc

    sign_same : place.sign ≡ d.sign
    sign_same = ap (λ (k : Defined). k.sign) (sym place_same) ∙ alike.sign

    block_same : place.block ≡ d.block
    block_same = ap (λ (k : Defined). k.block) (sym place_same) ∙ alike.block

    under_typed : (u : Read) (A : Ty) → HasType sg [] u A → HasType sg [] (here u) A
    under_typed u A k = rename_typed sg m keeps (image_typed sg same_number (replacing vs) (stand_ins_typed s vs are sg) k)

    terms_for : AreFor sg (clause_variables c.clause) terms
    terms_for = go (clause_variables c.clause) us us_for
      where
        go : (zs : List (tree.Variable ℕ)) (ts : List Read) → AreFor sg zs ts → AreFor sg zs (map (λ u. permute ps (image same_number (replacing vs) u)) ts)
        go [] [] e = tt
        go [] (u ∷ ts) e = absurd e
        go (z ∷ zs) [] e = absurd e
        go (z ∷ zs) (u ∷ ts) e = (under_typed u z.type e.0, go zs ts e.1)

    mapped_twice : (ts : List Read) → map (rename m) (map (image same_number (replacing vs)) ts) ≡ map (λ u. permute ps (image same_number (replacing vs) u)) ts
    mapped_twice [] = refl
    mapped_twice (u ∷ ts) = ap (λ l. here u ∷ l) (mapped_twice ts)

    -- the clause's parts there
    through : (u : Read) {A : Ty} → HasType sg [] u A → support u ≡ [] → ((y : tree.Variable ℕ) → holds (variables u) y ≡ true → holds (clause_variables c.clause ++ clause_names c.clause) y ≡ true) → here (image same_number put_at_last u) ≡ image same_number (filled x c.clause terms names) u
    through u k none own =
        ap (rename m) (puts.put_through sg c.clause us c.names us_for chosen.types (replacing vs) (stand_ins_typed s vs are sg) u k own)
        ∙ puts.put_moved sg c.clause (map (image same_number (replacing vs)) us) c.names (puts.through_for sg c.clause us c.names us_for chosen.types (replacing vs) (stand_ins_typed s vs are sg)) chosen.types m keeps u none
        ∙ ap (λ l. image same_number (filled x c.clause l names) u) (mapped_twice us)

    here_past_hints : (u w : Read) → forget u ≡ forget w → forget (here u) ≡ forget (here w)
    here_past_hints u w e =
        translate-rename (λ k. k) (λ h. tt) m (image same_number (replacing vs) u)
        ∙ ap (rename m) (image_past_hints (replacing vs) u w e)
        ∙ sym (translate-rename (λ k. k) (λ h. tt) m (image same_number (replacing vs) w))

    -- the atoms are one
    atoms_same : forget (here (spine (constant d.predicate) atom.arguments)) ≡ forget (spine (constant place.predicate) place.arguments)
    atoms_same =
        let A : Read = spine (constant d.predicate) atom.arguments in
        let P : Read = spine (constant place.predicate) place.arguments in
        unmarked_same d.sign (here A) P
        (ap forget (sym (mark_under here (λ l u. refl) d.sign A))
        ∙ ap (λ k. forget (here k)) (sym (atom_of D C atom is_atom).formula)
        ∙ same
        ∙ ap forget (atom_of D s.conclusion place place_is).formula
        ∙ ap (λ k. forget (with_mark k P)) sign_same)

    head_there : EqualPastHints (image same_number (filled x c.clause terms names) (head_of c.clause)) (spine (constant place.predicate) place.arguments)
    head_there =
        ap forget (sym (through (head_of c.clause) defining.clause.head defining.clause.head_without_constants defining.clause.head_variables))
        ∙ here_past_hints (image same_number put_at_last (head_of c.clause)) (spine (constant d.predicate) atom.arguments) (taken.head_at_last D defs now flexible g t depth d is c there ys later fill last)
        ∙ atoms_same

    terms_without : All (HoldsNone sg names) terms
    terms_without = All-from_contains (HoldsNone sg names) terms (λ w i.
        let from = Contains-from_map here us w i in
        subst (HoldsNone sg names) from.2 (All-from_contains (λ a. ¬ (Contains (support (here from.0)) a)) names (λ a j k.
        let b = Contains-from_map m c.names a j in
        let b2 = Contains-from_map m (support (image same_number (replacing vs) from.0)) a (subst (λ l. Contains l a) (support-rename m (image same_number (replacing vs) from.0)) k) in
        let one : b2.0 ≡ b.0 = sent_once ps permutation b2.0 b.0 (b2.2 ∙ sym b.2) in
        All-contains (λ a. ¬ (Contains (support from.0) a)) c.names b.0 (All-contains (HoldsNone sg c.names) us from.0 (taken.us_without D defs now flexible g t depth d is c there ys later fill last) from.1) b.1
        (subst (Contains (support from.0)) one (under_support (replacing vs) (stand_ins_nameless s vs are) from.0 b2.0 b2.1)))))

    terms_known : All (HoldsOnly (map in_terms s.variables)) terms
    terms_known = stood_known sg s vs are ps ys same_variables us (taken.us_known D defs now flexible g t depth d is c there ys later fill last)

    -- ITS PROBLEM
    abbrev n : ℕ
    n = length now.cells

    abbrev k : ℕ
    k = length cells

    abbrev N : ℕ
    N = length now.cells + (length now.cells + length c.clause.variables)

    abbrev left : List Nominal
    left = outside (in_order (support_of_all d.arguments)) c.names

    abbrev right : List Nominal
    right = outside (in_order (support_of_all place.arguments)) (map (moved_by ps) c.names)

    abbrev zs : List (tree.Variable ℕ)
    zs = made_over (codes "x") (length cells) (outside (in_order (support_of_all place.arguments)) (map (moved_by ps) c.names)) c.clause.variables

    others : (v : sequents.Variable) → Contains s.variables v → holds zs (in_terms v) ≡ false
    others v i = false_from_ne_true (holds zs (in_terms v)) (λ h.
        let high = (numbered_within (length cells) (there_is.own D s sequent place place_is c.clause defining choice_there.predicate names choice_there.types cells cells_are terms terms_for terms_without head_there) (in_terms v) h).0 in
        let low = known_there cells s.variables cells_are (in_terms v) (contains_holds (map in_terms s.variables) (in_terms v) (Contains-map in_terms s.variables v i)) in
        absurd (omega (arith, high, low)))

    abbrev unifier : Substitution ℕ (List ℕ)
    unifier = there_is.unifier D s sequent place place_is c.clause defining choice_there.predicate names choice_there.types cells cells_are terms terms_for terms_without head_there

    -- the new terms there become what those of the way stand for
    met : Each (λ w v. image_by (plain unifier) (forget w) ≡ forget (permute ps (image same_number (replacing vs) (at_last later fill v)))) (made_terms (codes "x") (length cells) right c.clause.variables) (taken.made D defs now flexible g t depth d is c there)
    met =
        let R : Read → Read → Type 0 = λ w v. image_by (plain unifier) (forget w) ≡ forget v in
        let news = made_terms (codes "x") (length cells) right c.clause.variables in
        each_unmapped (λ w v. R w (here v)) (at_last later fill) news (taken.made D defs now flexible g t depth d is c there) (each_unmapped R here news us (there_is.become D s sequent place place_is c.clause defining choice_there.predicate names choice_there.types cells cells_are terms terms_for terms_without head_there))

    abbrev guess : Guess
    guess = taken.guess D defs now flexible g t depth d is c there ys later fill last

    same_arguments : image_all same_number [] place.arguments ≡ place.arguments
    same_arguments = let both : image same_number [] (spine (constant place.predicate) place.arguments) ≡ spine (constant place.predicate) place.arguments = image_none (spine (constant place.predicate) place.arguments) in cc

    place_takes : TakeType sg [] (image_all same_number [] place.arguments) (taken.head D defs now flexible g t depth d is c there).0 prop
    place_takes =
        let own_args = arguments_of sg x (there_is.atom_typed D s sequent place place_is c.clause defining choice_there.predicate names choice_there.types cells cells_are terms terms_for terms_without head_there) in
        let some : Some own_args.0 ≡ Some (taken.head D defs now flexible g t depth d is c there).0 = sym own_args.1 ∙ (taken.head D defs now flexible g t depth d is c there).1 in
        let one : own_args.0 ≡ (taken.head D defs now flexible g t depth d is c there).0 = cc in
        subst (λ l. TakeType sg [] l (taken.head D defs now flexible g t depth d is c there).0 prop) (sym same_arguments) (subst (λ A. TakeType sg [] place.arguments A prop) one own_args.2)

    is_unified : (p : Substitution ℕ (List ℕ)) × Solves x (given (there_is.equations D s sequent place place_is c.clause defining choice_there.predicate names choice_there.types cells cells_are terms terms_for terms_without head_there) (cells ++ there_is.own D s sequent place place_is c.clause defining choice_there.predicate names choice_there.types cells cells_are terms terms_for terms_without head_there) zs) (unified (cells ++ there_is.own D s sequent place place_is c.clause defining choice_there.predicate names choice_there.types cells cells_are terms terms_for terms_without head_there) p)
    is_unified =
        unified_there sg c.clause defining.clause c.names chosen.types ps permutation n k left right guess (taken.guess_typed D defs now flexible g t depth d is c there ys later fill last) (taken.outside_values D defs now flexible g t depth d is c there ys later fill last)
        (image_all same_number [] d.arguments) (taken.atom_takes D defs now flexible g t depth d is c there) (taken.low D defs now flexible g t depth d is c there) (taken.cells D defs now flexible g t depth d is c there) more now.flexible q (taken.typed D defs now flexible g t depth d is c there) (taken.known D defs now flexible g t depth d is c there) (taken.over_cells D defs now flexible g t depth d is c there) (taken.is_guess D defs now flexible g t depth d is c there ys later fill last) (taken.equal D defs now flexible g t depth d is c there ys later fill last) solves
        (kept_pairs (λ a. not (is_in names a)) (λ a b. a ≢ b) (in_order (support_of_all place.arguments)) (ordered_pairs (support_of_all place.arguments)))
        (λ a i j. (outside_contains (in_order (support_of_all place.arguments)) names (m a) j).1 (Contains-map m c.names a i))
        (plain unifier) (along.at_end sg (length now.cells) left c.clause.variables now.flexible ys later fill last.typed last.filled c.names last.constants last.own (length (taken.cells D defs now flexible g t depth d is c there)) (taken.longer D defs now flexible g t depth d is c there) last.nameless last.within ps permutation s vs are same_variables (length cells) right others unifier met) (plain_typed sg unifier (there_is.unifier_typed D s sequent place place_is c.clause defining choice_there.predicate names choice_there.types cells cells_are terms terms_for terms_without head_there)) (along.at_end_typed sg (length now.cells) left c.clause.variables now.flexible ys later fill last.typed last.filled c.names last.constants last.own (length (taken.cells D defs now flexible g t depth d is c there)) (taken.longer D defs now flexible g t depth d is c there) last.nameless last.within ps permutation s vs are same_variables (length cells) right others unifier met)
        (image_all same_number [] place.arguments) place_takes (λ y i. there_is.atom_low D s sequent place place_is c.clause defining choice_there.predicate names choice_there.types cells cells_are terms terms_for terms_without head_there y (subst (λ l. holds (variables_of_all l) y ≡ true) same_arguments i))
        (cells ++ there_is.own D s sequent place place_is c.clause defining choice_there.predicate names choice_there.types cells cells_are terms terms_for terms_without head_there) (there_is.typed_there D s sequent place place_is c.clause defining choice_there.predicate names choice_there.types cells cells_are terms terms_for terms_without head_there) (there_is.known_flexible D s sequent place place_is c.clause defining choice_there.predicate names choice_there.types cells cells_are terms terms_for terms_without head_there) (there_is.over_there D s sequent place place_is c.clause defining choice_there.predicate names choice_there.types cells cells_are terms terms_for terms_without head_there) (along.agree sg (length now.cells) left c.clause.variables now.flexible ys later fill last.typed last.filled c.names last.constants last.own (length (taken.cells D defs now flexible g t depth d is c there)) (taken.longer D defs now flexible g t depth d is c there) last.nameless last.within ps permutation s vs are same_variables (length cells) right others unifier met) (along.passing sg (length now.cells) left c.clause.variables now.flexible ys later fill last.typed last.filled c.names last.constants last.own (length (taken.cells D defs now flexible g t depth d is c there)) (taken.longer D defs now flexible g t depth d is c there) last.nameless last.within ps permutation s vs are same_variables (length cells) right others unifier met)
        (there_is.foreign D s sequent place place_is c.clause defining choice_there.predicate names choice_there.types cells cells_are terms terms_for terms_without head_there) (there_is.guess_over D s sequent place place_is c.clause defining choice_there.predicate names choice_there.types cells cells_are terms terms_for terms_without head_there) (there_is.hold_none_there D s sequent place place_is c.clause defining choice_there.predicate names choice_there.types cells cells_are terms terms_for terms_without head_there) (there_is.equal_there D s sequent place place_is c.clause defining choice_there.predicate names choice_there.types cells cells_are terms terms_for terms_without head_there)

    body_there : EqualPastHints (marked_in place.block.predicates (mark_above place.sign) (image same_number (filled x c.clause terms names) c.clause.body)) (here B)
    body_there =
        let P = d.block.predicates in
        let M = mark_above d.sign in
        ap (λ (b : Block). forget (marked_in b.predicates (mark_above place.sign) (image same_number (filled x c.clause terms names) c.clause.body))) block_same
        ∙ ap (λ z. forget (marked_in P (mark_above z) (image same_number (filled x c.clause terms names) c.clause.body))) sign_same
        ∙ ap (λ z. forget (marked_in P M z)) (sym (through c.clause.body defining.clause.body defining.clause.body_without_constants body_own))
        ∙ ap forget (marked_moved m P M (image same_number (replacing vs) result))
        ∙ ap (λ z. forget (rename m z)) (marked_image (value_in same_number (replacing vs)) P M result result_formula.stands)

    solved_there : IsSolved D s place (record { clause = c.clause; names = map (moved_by ps) c.names }) cells (here B)
    solved_there = is_solved D s sequent place place_is c.clause defining choice_there.predicate names choice_there.types cells cells_are terms terms_for terms_without head_there terms_known one_type is_unified.0 is_unified.1 (here B) body_there

  solved_wherever : IsSolvedWherever D ys C c.clause us c.names B
  solved_wherever vs s ps place cells same_variables are sequent cells_are permutation same place_is listed one_type = solved_there vs s ps place cells same_variables are sequent cells_are permutation same place_is listed one_type

  -- THE CLAUSE GIVES THE ATOM at last
  pub is_by_clause : unfolds d.sign ≡ true → IsByClause D ys C atom c.clause us c.names
  is_by_clause may = record {
    atom = is_atom;
    may = may_unfold d.sign may;
    one = chosen.one;
    terms = us_for;
    known = taken.us_known D defs now flexible g t depth d is c there ys later fill last;
    types = chosen.types;
    different = chosen.different;
    without = taken.us_without D defs now flexible g t depth d is c there ys later fill last;
    head = taken.head_at_last D defs now flexible g t depth d is c there ys later fill last;
    solved = solved_wherever;
  }
