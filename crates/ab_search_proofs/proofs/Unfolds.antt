-- The step by a clause: what the conclusion unfolds to comes to a sequent like the goal that is left.
use Rattle.std.proofs.Common.{◌≡◌, ◌≢◌, inl, inr, ℕ, zero, suc, ◌+◌, ◌≤◌, List, [], ◌∷◌, ◌++◌, map, length, drop, codes, Option, Some, None, refl, sym, ◌∙◌, ap, subst, arith}
use Rattle.std.specs.Prelude.{All, AllPairs, Contains, slice_get}
use Rattle.std.proofs.Math.Seq.{drop-append_seam}
use Rattle.std.proofs.lemmas.Bool.{false≢true}
use Rattle.std.proofs.lemmas.List.Elements.{All-contains, Contains-append_left, Contains-append_right}
use Rattle.std.proofs.lemmas.List.Kept.{AllPairs-cons}
use Rattle.std.proofs.lemmas.Option.{slice_get_within}
use Rattle.ab_term.specs.Types.{prop}
use Rattle.ab_term.specs.Terms as tree
use Rattle.ab_term.specs.Terms.{Nominal, constant, spine, Terms, Read}
use Rattle.ab_term.specs.Typing.{Signature, HasType}
use Rattle.ab_term.specs.Names.{support, support_of_all, permute}
use Rattle.ab_term.specs.Translation.{forget}
use Rattle.ab_term.specs.Variables.{Substitution, variables, value_in, image, image_all, one_by_one, IsTyped}
use Rattle.ab_term.specs.Sameness.{same_number}
use Rattle.ab_term.proofs.Compositions.{image_typed}
use Rattle.ab_term.proofs.Lists.{Contains-none, Contains-cases, All-from_contains, AllPairs-none}
use Rattle.ab_term.proofs.Stands.{support-image}
use Rattle.ab_unifiers.specs.Replacements.{Cell}
use Rattle.ab_unifiers.specs.Unification.{Equation, unified, Solves}
use Rattle.ab_unifiers.specs.Unifiers.{given, AreTyped, AreKnown}
use Rattle.ab_unifiers.specs.Clauses.{Clause, clause_variables, clause_names, put_together, filled, name_term, Each, AreFor, HoldsNone}
use Rattle.ab_unifiers.specs.Choices.{in_order, outside}
use Rattle.ab_unifiers.specs.Alternatives.{on_right, cells_over, made_over, made_terms, arguments_equal}
use Rattle.ab_unifiers.proofs.Agreeing.{contains_holds}
use Rattle.ab_unifiers.proofs.Answered.{is_problem}
use Rattle.ab_unifiers.proofs.Choosing.{contains_kept, kept_pairs, outside_contains}
use Rattle.ab_unifiers.proofs.Constants as names
use Rattle.ab_unifiers.proofs.Covered.{names_typed}
use Rattle.ab_unifiers.proofs.Lifting.{made_terms_typed}
use Rattle.ab_unifiers.proofs.Matching.{choice_right}
use Rattle.ab_unifiers.proofs.Problems.{answer_typed, answer_clean}
use Rattle.ab_unifiers.proofs.Rows.{each_any, found_has, found_none, nothing_found, value_front}
use Rattle.ab_unifiers.proofs.Unifier.{from_cells, filled_typed, made_have, append-none}
use Rattle.ab_formulas.specs.BodyMarks.{MayBeUnfolded, mark_above, marked_in}
use Rattle.ab_formulas.specs.Declarations.{Declarations, HaveDefinitions, signature_in, IsDefining}
use Rattle.ab_formulas.specs.GoalTerms.{HoldsOnly}
use Rattle.ab_formulas.specs.Sequents.{Variable, Sequent, IsSequent, formulas, goal_names, names_of, in_terms, proving}
use Rattle.ab_formulas.proofs.MarkedFormulas.{marked_formula, marked_support}
use Rattle.ab_formulas.proofs.Images.{image_formula}
use Rattle.ab_theory.specs.Analysis.{scope_of}
use Rattle.ab_theory.specs.Atoms.{Defined, Choice, choices_of}
use Rattle.ab_theory.specs.Equations.{AreCells, stays, made, variables_from}
use Rattle.ab_theory.specs.Row.{Takes}
use Rattle.ab_theory.specs.Rules.{row, any_name, by_hint, IsNew}
use Rattle.ab_theory.specs.Steps.{definition_right}
use Rattle.ab_theory.specs.Subjects.{an_atom, subject_of, way_by_choice, ways_of}
use Rattle.ab_theory.specs.Unfolding.{closed_over}
use Rattle.ab_theory.proofs.OneAnswer.{taken_or_stuck, names_by_hint}
use Rattle.ab_theory.proofs.OneList.{one_list_of}
use Rattle.ab_theory.proofs.Raised.{known_there}
use Rattle.ab_theory.proofs.Sized.{atom_of}
use Rattle.ab_theory.proofs.SubjectParts.{atom_subject, made_there}
use Rattle.ab_search_proofs.specs.Likeness.{StandIn, replaced, replacing, IsLike, IsLikeGoal}
use Rattle.ab_search_proofs.specs.Taking.{LeadsTo}
use Rattle.ab_search_proofs.specs.Coming.{ComesTo, it_is}
use Rattle.ab_search_proofs.specs.Proved.{IsSolved, IsByClause, body_by}
use Rattle.ab_search_proofs.proofs.StandIns.{under_support}
use Rattle.ab_search_proofs.proofs.Bodies.{body_part}
use Rattle.ab_search_proofs.proofs.Chosen.{like_atom, here, S_held, over_sequent, qs, qs_permutes, qs_same, choice, of_it, is_choice, listed, one_type}
use Rattle.ab_search_proofs.proofs.Comes.{terms_come}
use Rattle.ab_search_proofs.proofs.Connectives.{like_proving}
use Rattle.ab_search_proofs.proofs.Taken.{leads_to}

abbrev Cells : Type 0
Cells = List (Cell (List ℕ))

-- PLACES in lists

pub place_of : {X : Type 0} (xs : List X) (x : X) → Contains xs x → (i : ℕ) × (slice_get xs i ≡ Some x)
place_of [] x m = absurd (Contains-none x m)
place_of (y ∷ xs) x m = elim (Contains-cases y xs x m) [ inl e ↦ (zero, ap Some e) | inr k ↦ (let r = place_of xs x k in (suc r.0, r.1)) ]

-- the constants of some terms
pub names_inside : (us : List Read) (u : Read) (a : Nominal) → Contains us u → Contains (support u) a → Contains (names_of us) a
names_inside [] u a m j = absurd (Contains-none u m)
names_inside (w ∷ us) u a m j = elim (Contains-cases w us u m) [
  | inl e ↦ Contains-append_left (support w) (names_of us) a (subst (λ z. Contains (support z) a) (sym e) j)
  | inr n ↦ Contains-append_right (support w) (names_of us) a (names_inside us u a n j)
]

-- VARIABLES FROM a number on

pub from_number : (n : ℕ) (cells : Cells) (x : Variable) → Contains (variables_from n cells) x → n ≤ x.number
from_number n [] x m = absurd (Contains-none x m)
from_number n (c ∷ cells) x m = elim (Contains-cases (record { number = n; type = c.type; name = c.hint }) (variables_from (n + 1) cells) x m) [
  | inl e ↦ (let same : n ≡ x.number = ap (λ (y : Variable). y.number) e in omega (arith, same))
  | inr r ↦ (let less = from_number (n + 1) cells x r in omega (arith, less))
]

pub from_differ : (n : ℕ) (cells : Cells) → AllPairs (λ (v w : Variable). v.number ≢ w.number) (variables_from n cells)
from_differ n [] = AllPairs-none (λ (v w : Variable). v.number ≢ w.number)
from_differ n (c ∷ cells) =
    let first : Variable = record { number = n; type = c.type; name = c.hint } in
    AllPairs-cons (λ (v w : Variable). v.number ≢ w.number) first (variables_from (n + 1) cells)
    (All-from_contains (λ (w : Variable). n ≢ w.number) (variables_from (n + 1) cells) (λ w m q. let l = from_number (n + 1) cells w m in omega (arith, l, q)))
    (from_differ (n + 1) cells)

module _ (D : Declarations) (definitions : HaveDefinitions D) (vs : List StandIn) (Hs : List Read) (C : Read) (s : Sequent) (is : IsSequent D s) (l : IsLikeGoal D vs Hs C s)
    (d : Defined) (c : Clause (List ℕ)) (us : List Read) (ns : List Nominal) (i : IsByClause D (map replaced vs) C d c us ns) where
  abbrev sg : Signature
  sg = signature_in D

  abbrev atom : Defined
  atom = here D vs Hs C s is l d c us ns i

  abbrev k : Choice
  k = choice D vs Hs C s is l d c us ns i

  abbrev ps : List (Nominal × Nominal)
  ps = qs D vs Hs C s is l d c us ns i

  abbrev ts : Terms ℕ (List ℕ)
  ts = atom.arguments

  abbrev S : List Nominal
  S = in_order (support_of_all ts)

  abbrev B : Read
  B = body_by d c us ns

  abbrev K : Read
  K = permute ps (image same_number (replacing vs) B)

  defining : IsDefining sg c
  defining = All-contains (IsDefining sg) d.block.clauses c (definitions d.predicate d.block (atom_of D C d i.atom).block) i.one

  finish : (G : Read) → forget G ≡ forget K → IsLike D vs B G
  finish G e =
      let part = body_part D (map replaced vs) C d c us ns i defining in
      record { formula = part.formula; known = part.known; same = (ps, qs_permutes D vs Hs C s is l d c us ns i, sym e) }

  types : map (λ a. a.type) k.names ≡ map (λ z. z.type) c.names
  types = (choice_right (map (λ z. z.type) c.names) S (goal_names s) (S_held D vs Hs C s is l d c us ns i) k.names (is_choice D vs Hs C s is l d c us ns i)).0

  module _ (cells : Cells) (are : AreCells cells s) where
    abbrev rest : List Nominal
    rest = outside S k.names

    abbrev made_here : List Read
    made_here = made_terms (codes "x") (length cells) rest c.variables

    abbrev put : Substitution ℕ (List ℕ)
    put = filled (codes "x") c made_here k.names

    abbrev own : Cells
    own = cells_over (codes "x") rest c.variables

    abbrev equations : List (Equation (List ℕ))
    equations = arguments_equal (codes "x") 0 (image_all same_number [] ts) (image_all same_number put c.arguments)

    abbrev flexible : List (tree.Variable ℕ)
    flexible = made_over (codes "x") (length cells) rest c.variables

    made_for : AreFor sg (clause_variables c) made_here
    made_for = from_cells sg (codes "x") 0 c.variables made_here (made_terms_typed sg (codes "x") (length cells) rest c.variables)

    put_typed : IsTyped sg put
    put_typed = filled_typed sg (codes "x") c made_here k.names made_for (names_typed sg (codes "x") (length c.variables) c.names k.names types)

    problem : AreTyped sg equations × AreKnown (cells ++ own) flexible
    problem =
        is_problem sg (codes "x") c defining.clause ts (subst (λ p. HasType sg [] (spine (constant p) ts) prop) (sym (of_it D vs Hs C s is l d c us ns i)) (over_sequent D vs Hs C s is l d c us ns i).typed) k.names types
        (scope_of cells s) (known_there cells s.variables are) on_right

    abbrev bare_body : Read
    bare_body = image same_number put c.body

    abbrev body : Read
    body = marked_in atom.block.predicates (mark_above atom.sign) bare_body

    body_typed : HasType sg [] body prop
    body_typed = (marked_formula sg atom.block.predicates (mark_above atom.sign) bare_body (image_formula sg put put_typed c.body defining.body)).typed

    -- the body holds constants of the atom that weren't chosen, and no others
    of_rest : (y : tree.Variable ℕ) (u : Read) → Contains (variables c.body) y → value_in same_number put y ≡ Some u → (a : Nominal) → Contains (support u) a → Contains rest a
    of_rest y u m e = go (value_in same_number (put_together (clause_variables c) made_here) y) refl
      where
        go : (o : Option Read) → value_in same_number (put_together (clause_variables c) made_here) y ≡ o → (a : Nominal) → Contains (support u) a → Contains rest a
        go None f = absurd (false≢true (sym (found_none (clause_variables c) made_here [] (each_any (λ y t. HasType sg [] t y.type) (clause_variables c) made_here made_for) y (ap (λ z. value_in same_number z y) (append-none (put_together (clause_variables c) made_here)) ∙ f)).0
            ∙ defining.clause.body_variables y (contains_holds (variables c.body) y m)))
        go (Some w) f =
            let both : Some w ≡ Some u = sym (value_front (put_together (clause_variables c) made_here) (put_together (clause_names c) (map (name_term (codes "x")) k.names)) y w f) ∙ e in
            let same : w ≡ u = cc in
            names.has_support (Contains rest) u (found_has (names.Has (Contains rest)) (clause_variables c) made_here [] (made_have sg (codes "x") (Contains rest) 0 (length cells) rest c.variables (λ a j. j)) (nothing_found (names.Has (Contains rest))) y u
            (ap (λ z. value_in same_number z y) (append-none (put_together (clause_variables c) made_here)) ∙ f ∙ ap Some same))

    body_held : (a : Nominal) → Contains (support body) a → Contains rest a
    body_held a m = elim (support-image (value_in same_number put) c.body a (subst (λ z. Contains z a) (marked_support atom.block.predicates (mark_above atom.sign) bare_body) m)) [
      | inl j ↦ absurd (Contains-none a (subst (λ z. Contains z a) defining.clause.body_without_constants j))
      | inr j ↦ of_rest j.0 j.1 (j.2).0 (j.2).1 a j.3
    ]

    module _ (so : IsSolved D s atom k cells K) where
      solved_so : Solves (codes "x") (given equations (cells ++ own) flexible) (unified so.more so.answer)
      solved_so = subst (λ (z : Cells). Solves (codes "x") (given equations (cells ++ z) flexible) (unified so.more so.answer)) (drop-append_seam cells own) so.solved

      abbrev F : Read
      F = image same_number so.answer body

      F_typed : HasType sg [] F prop
      F_typed = image_typed sg same_number so.answer (answer_typed sg (codes "x") equations (cells ++ own) flexible problem.0 problem.1 so.more so.answer solved_so) body_typed

      F_held : (a : Nominal) → Contains (support F) a → Contains rest a
      F_held a m = body_held a (under_support so.answer (answer_clean sg (codes "x") equations (cells ++ own) flexible problem.0 problem.1 so.more so.answer solved_so) body a m)

      abbrev M : List Nominal
      M = goal_names s ++ (k.names ++ names_of so.terms)

      F_in : (a : Nominal) → Contains (support F) a → Contains M a
      F_in a m = Contains-append_left (goal_names s) (k.names ++ names_of so.terms) a (S_held D vs Hs C s is l d c us ns i a (outside_contains S k.names a (F_held a m)).0)

      F_out : All (λ a. ¬ Contains (support F) a) k.names
      F_out = All-from_contains (λ a. ¬ Contains (support F) a) k.names (λ a m j. (outside_contains S k.names a (F_held a j)).1 m)

      abbrev ws : List Variable
      ws = made cells so.more so.answer

      new : All (λ (w : Variable). IsNew w.number s) ws
      new = All-from_contains (λ (w : Variable). IsNew w.number s) ws (λ w m.
          let high = from_number (length cells) (drop (length cells) so.more) w (contains_kept (stays so.answer) (variables_from (length cells) (drop (length cells) so.more)) w m).0 in
          All-from_contains (λ (x : Variable). x.number ≢ w.number) s.variables (λ x n q.
          let low = slice_get_within cells x.number (record { hint = x.name; type = x.type }) (All-contains (λ (x : Variable). slice_get cells x.number ≡ Some (record { hint = x.name; type = x.type })) s.variables x are n) in
          omega (arith, low, high, q)))

      differ : AllPairs (λ (v w : Variable). v.number ≢ w.number) ws
      differ = kept_pairs (stays so.answer) (λ (v w : Variable). v.number ≢ w.number) (variables_from (length cells) (drop (length cells) so.more)) (from_differ (length cells) (drop (length cells) so.more))

      -- closed or not
      closed_comes : (zs : List Variable) (us : List Read) → Each (λ (z : Variable) t. HasType sg [] t z.type) zs us → All (λ t. Contains so.terms t) us → All (λ (w : Variable). IsNew w.number s) zs → AllPairs (λ (v w : Variable). v.number ≢ w.number) zs
          → forget (one_by_one same_number (put_together (map in_terms zs) us) F) ≡ forget K → ComesTo D vs Hs B (proving (closed_over zs k F) s)
      closed_comes [] us e listed_terms n p f = it_is (like_proving D vs Hs C B F s l (finish F f))
      closed_comes (z ∷ zs) us e listed_terms n p f =
          terms_come D vs Hs C s l B K finish M so.one_type (λ a m. Contains-append_left (goal_names s) (k.names ++ names_of so.terms) a (Contains-append_right (support s.conclusion) (names_of (formulas s.hypotheses)) a m)) c.names k.names
          (z ∷ zs) us F (closed_over (z ∷ zs) k F) F_typed e
          (All-from_contains (HoldsOnly (map in_terms s.variables)) us (λ t m. All-contains (HoldsOnly (map in_terms s.variables)) so.terms t so.known (All-contains (λ t. Contains so.terms t) us t listed_terms m))) n p F_out
          (All-from_contains (λ t. All (λ a. ¬ Contains (support t) a) k.names) us (λ t m. All-contains (HoldsNone sg k.names) so.terms t so.without (All-contains (λ t. Contains so.terms t) us t listed_terms m))) F_in
          (All-from_contains (λ t. (a : Nominal) → Contains (support t) a → Contains M a) us (λ t m a j.
          Contains-append_right (goal_names s) (k.names ++ names_of so.terms) a (Contains-append_right k.names (names_of so.terms) a (names_inside so.terms t a (All-contains (λ t. Contains so.terms t) us t listed_terms m) j)))) f refl

      pub unfolded_comes : ComesTo D vs Hs B (proving (closed_over ws k F) s)
      unfolded_comes = closed_comes ws so.terms so.typed (All-from_contains (λ t. Contains so.terms t) so.terms (λ t m. m)) new differ so.body

  -- WHERE IT LEADS
  abbrev pub Comes : List Sequent → Type 0
  Comes qs = (t : Sequent) × (qs ≡ t ∷ []) × ComesTo D vs Hs B t

  solved_at : (cells : Cells) → AreCells cells s → IsSolved D s atom k cells K
  solved_at cells are = i.solved vs s ps atom cells refl l.variables is are (qs_permutes D vs Hs C s is l d c us ns i) (qs_same D vs Hs C s is l d c us ns i) (like_atom D vs Hs C s is l d c us ns i).is
      (listed D vs Hs C s is l d c us ns i) (one_type D vs Hs C s is l d c us ns i)

  pub clause_step : (place : ℕ) × LeadsTo D (definition_right place) s Comes
  clause_step =
      let at = place_of (choices_of (goal_names s) atom) k (listed D vs Hs C s is l d c us ns i) in
      let subject : subject_of D s.conclusion ≡ Some (an_atom atom) = atom_subject D s.conclusion atom (like_atom D vs Hs C s is l d c us ns i).is in
      let may : MayBeUnfolded atom.sign = subst MayBeUnfolded (sym (like_atom D vs Hs C s is l d c us ns i).sign) i.may in
      let way : slice_get (ways_of s (an_atom atom)) at.0 ≡ Some (way_by_choice s atom k) = made_there (way_by_choice s atom) (choices_of (goal_names s) atom) at.0 k at.1 in
      let next : (cells : Cells) → AreCells cells s → Sequent = λ cells are. proving (closed_over (made cells (solved_at cells are).more (solved_at cells are).answer) k (F cells are (solved_at cells are))) s in
      let taken : (cells : Cells) (are : AreCells cells s) → Takes (row D (any_name cells) (definition_right at.0) s) (next cells are ∷ []) =
      λ cells are. (an_atom atom, subject, (may, (way_by_choice s atom k, way, ((solved_at cells are).more, (solved_at cells are).answer, (solved_at cells are).solved, refl)))) in (
        at.0,
        leads_to D (definition_right at.0) s Comes (λ cells are. (next cells are ∷ [], taken cells are))
            (λ cells are j f. taken_or_stuck (row D (by_hint D cells) (definition_right at.0) s) (names_by_hint D cells (definition_right at.0) s) (next cells are ∷ []) j (taken cells are) f)
            (λ cells are qs t. (next cells are, one_list_of D cells s is (definition_right at.0) qs (next cells are ∷ []) t (taken cells are), unfolded_comes cells are (solved_at cells are))),
      )
