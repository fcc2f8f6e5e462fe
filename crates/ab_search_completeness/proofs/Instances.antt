-- AN INSTANCE OF WHAT A RULE DEMANDS, where the judgement becomes another by a guess: with terms for the rule's variables the guess makes of the atom and the
-- body in the tree those of the instance.
use Rattle.std.proofs.Common.{◌≡◌, ℕ, zero, ◌<◌, ◌≤◌, List, [], ◌∷◌, ◌++◌, length, codes, Bool, true, false, Option, Some, sym, ◌∙◌, ap, subst, arith}
use Rattle.std.specs.List.{list_any}
use Rattle.std.specs.Prelude.{All, Contains}
use Rattle.std.proofs.lemmas.List.Elements.{All-nil, All-cons, All-head, All-tail}
use Rattle.ab_term.specs.Types.{prop, o, olist, arrows}
use Rattle.ab_term.specs.Terms.{Nominal, Variable, Read}
use Rattle.ab_term.specs.Typing.{Signature, HasType}
use Rattle.ab_term.specs.Names.{support}
use Rattle.ab_term.specs.Reach.{raise}
use Rattle.ab_term.specs.Substitution.{shift}
use Rattle.ab_term.specs.Translation.{forget}
use Rattle.ab_term.specs.Variables.{Substitution, variables, value_in, image, image_by}
use Rattle.ab_term.specs.Sameness.{same_number}
use Rattle.ab_term.proofs.Closed.{closed_reach}
use Rattle.ab_term.proofs.ClosedMaps.{IsClosedMap}
use Rattle.ab_term.proofs.Depends.{image_agrees}
use Rattle.ab_term.proofs.Images.{closed_map}
use Rattle.ab_term.proofs.Lists.{Contains-none}
use Rattle.ab_term.proofs.PastHints.{variables-forget}
use Rattle.ab_term.proofs.Reaching.{shift-short}
use Rattle.ab_unifiers.specs.Replacements.{Cell}
use Rattle.ab_unifiers.specs.Clauses.{Each, AreFor, numbered}
use Rattle.ab_unifiers.specs.Alternatives.{cells_over, made_terms}
use Rattle.ab_unifiers.proofs.Agreeing.{contains_holds}
use Rattle.ab_unifiers.proofs.Constants as names
use Rattle.ab_unifiers.proofs.Following.{Put, Fits}
use Rattle.ab_unifiers.proofs.Lifting.{OfCells, made_terms_typed}
use Rattle.ab_unifiers.proofs.Rows.{each_weaker, found_has, nothing_found}
use Rattle.ab_unifiers.proofs.Unifier.{made_have, append-none}
use Rattle.ab_unifiers.proofs.Variables as over
use Rattle.ab_theory.specs.SpecRules.{Demand}
use Rattle.ab_coverage.specs.VacuousNames.{stands}
use Rattle.ab_coverage.proofs.IndexedSpecClauses.{SpecClause, closed_in, left_open, spread}
use Rattle.ab_coverage.proofs.IndexedInstances.{IsGuess}
use Rattle.ab_coverage.proofs.Clausal.{guessed, guessed_for, guess_typed}
use Rattle.ab_coverage.proofs.Filling.{closed_with, all_unmoved}
use Rattle.ab_coverage.proofs.Conjoined.{asked_has}
use Rattle.ab_coverage.proofs.Parts.{raise_has, raise-closed, IsPart}
use Rattle.ab_coverage.proofs.Taking.{asked_free}
use Rattle.ab_coverage.proofs.Demands.{IsBelow, Low, Ties}
use Rattle.ab_coverage.proofs.Guesses as guesses
use Rattle.ab_search_trees.specs.Goals.{Now}
use Rattle.ab_search_trees.proofs.Forms.{Makes}
use Rattle.ab_search_trees.proofs.Facts.{AllParts}
use Rattle.ab_search_trees.proofs.Against.{IsState, MakesEach}
use Rattle.ab_search_trees.proofs.Growing.{each_grown}
use Rattle.ab_search_completeness.proofs.New.{with_new, fits_new, same_before, grown_new, met_new}
use Rattle.ab_search_completeness.proofs.Shapes.{IsMade, guess_over, closed_hints, masked, masked_same, own_guess, matrix_of, matrix_made, atom_made, body_made}
use Rattle.ab_search_completeness.proofs.Vacuous.{Fills, more_closed}
use Rattle.ab_search_completeness.proofs.Values.{AllHold, spread_hold, mapped_hold, guessed_hold}

each_all : {X Y : Type 0} (Q : Y → Type 0) (xs : List X) (ys : List Y) → Each (λ x y. Q y) xs ys → All Q ys
each_all Q [] [] e = All-nil Q
each_all Q [] (y ∷ ys) e = absurd e
each_all Q (x ∷ xs) [] e = absurd e
each_all Q (x ∷ xs) (y ∷ ys) e = All-cons Q y ys e.0 (each_all Q xs ys e.1)

masked_hold : (P : Read → Type 0) (fs : List Bool) (vs : List (Option Read)) → AllHold P vs → AllHold P (masked fs vs)
masked_hold P [] vs a = tt
masked_hold P (true ∷ fs) [] a = tt
masked_hold P (false ∷ fs) [] a = tt
masked_hold P (true ∷ fs) (v ∷ vs) a = (tt, masked_hold P fs vs a.1)
masked_hold P (false ∷ fs) (v ∷ vs) a = (a.0, masked_hold P fs vs a.1)

-- terms without constants hold none of any
nameless_each : (P : Read → Type 0) → ((u : Read) → support u ≡ [] → P u) → (ys : List (Variable ℕ)) (us : List Read) (sg : Signature) → AreFor sg ys us → All (λ u. support u ≡ []) us → Each (λ y u. P u) ys us
nameless_each P f [] [] sg for a = tt
nameless_each P f [] (u ∷ us) sg for a = absurd for
nameless_each P f (y ∷ ys) [] sg for a = absurd for
nameless_each P f (y ∷ ys) (u ∷ us) sg for a = (f u (All-head (λ u. support u ≡ []) u us a), nameless_each P f ys us sg for.1 (All-tail (λ u. support u ≡ []) u us a))

-- THE INSTANCE: a clause's demand, and terms without constants for its variables
module _ (sg : Signature) (cons : sg (codes "::") ≡ Some (arrows (o ∷ olist ∷ []) olist)) (S2 : List Nominal) (first2 : ℕ) (L2 : Read) (L2_typed : HasType sg [] L2 olist) (L2_below : IsBelow first2 L2)
    (k2 : SpecClause (List ℕ)) (part2 : IsPart sg (Low first2) [] k2) (A2 : Read) (d2 : Demand) (ties2 : Ties S2 first2 L2 k2 A2 d2) (us : List Read) (for : AreFor sg (numbered first2 d2.own) us) (nameless : All (λ u. support u ≡ []) us) where
  abbrev P : Substitution ℕ (List ℕ)
  P = guesses.P sg cons S2 first2 L2 L2_typed L2_below k2 part2 A2 d2 ties2 us for

  abbrev vs : List (Option Read)
  vs = guesses.vs sg cons S2 first2 L2 L2_typed L2_below k2 part2 A2 d2 ties2 us for

  pub vs_guess : IsGuess sg (closed_in k2) k2.binders vs
  vs_guess = guesses.guess sg cons S2 first2 L2 L2_typed L2_below k2 part2 A2 d2 ties2 us for

  abbrev Holds : Read → Type 0
  Holds u = names.Has (Contains S2) u

  P_holds : (y : Variable ℕ) (u : Read) → value_in same_number P y ≡ Some u → Holds u
  P_holds y u e = found_has Holds (numbered first2 d2.own) us []
      (nameless_each Holds (λ u n. names.support_has (Contains S2) u (λ a m. absurd (Contains-none a (subst (λ l. Contains l a) n m)))) (numbered first2 d2.own) us sg for nameless) (nothing_found Holds) y u
      (ap (λ l. value_in same_number l y) (append-none P) ∙ e)

  -- they hold the constants that the variables are given, and no others
  vs_hold : AllHold Holds vs
  vs_hold =
      let n = length (guesses.blanks first2) in
      let cs = left_open (closed_in k2) k2.binders in
      let made = made_terms (codes "x") n S2 cs in
      mapped_hold Holds Holds (image same_number P) (λ u h. names.image_by_has (Contains S2) (value_in same_number P) P_holds u h) (spread (closed_in k2) made)
      (spread_hold Holds (closed_in k2) made (each_all Holds (numbered 0 cs) made (made_have sg (codes "x") (Contains S2) 0 n S2 cs (λ a m. m))))

  -- THE TREE: the demand of another clause, of which the guess makes that one
  module _ (now : Now) (f : Put) (s : IsState sg now f) (first : ℕ) (far : length now.cells ≤ first) (S : List Nominal) (within : (a : Nominal) → Contains S2 a → Contains S a)
      (L : Read) (L_typed : HasType sg [] L olist) (L_below : IsBelow (length now.cells) L) (L_made : Makes f L L2)
      (k : SpecClause (List ℕ)) (part : IsPart sg (Low (length now.cells)) [] k) (made : IsMade now.flexible f k k2) (A : Read) (d : Demand) (ties : Ties S first L k A d)
      (goal goal2 : Read) (goal_below : IsBelow (length now.cells) goal) (goal2_below : IsBelow first2 goal2) (goal_made : Makes f goal goal2) (equal : forget (image same_number P A2) ≡ forget (image same_number P goal2)) where
    abbrev x : List ℕ
    x = codes "x"

    abbrev cs : List (Cell (List ℕ))
    cs = left_open (closed_in k) k.binders

    abbrev mask : List (Option Read)
    mask = masked (closed_in k) vs

    abbrev ws : List Read
    ws = guessed sg (closed_in k) k.binders mask (own_guess sg k k2 made.alike vs vs_guess)

    pub ws_are : OfCells sg x cs ws
    ws_are = guessed_for sg x (closed_in k) k.binders mask (own_guess sg k k2 made.alike vs vs_guess)

    pub ws_of : Each (λ c u. names.Has (Contains S) u) cs ws
    ws_of = each_weaker (λ c u. Holds u) (λ c u. names.Has (Contains S) u) (λ c u h. names.has_weaker (Contains S2) (Contains S) within u h) cs ws
        (guessed_hold sg Holds (closed_in k) k.binders mask (own_guess sg k k2 made.alike vs vs_guess) (masked_hold Holds (closed_in k) vs vs_hold))

    -- THE GUESS for the rule's variables too
    abbrev pub put : Put
    put = with_new sg now f s first far S cs ws ws_are ws_of

    put_fits : Fits sg [] (now.flexible ++ numbered first (cells_over x S cs)) put
    put_fits = fits_new sg now f s first far S cs ws ws_are ws_of

    old : (t : Read) → IsBelow (length now.cells) t → image_by put (forget t) ≡ image_by f (forget t)
    old t b = image_agrees put f (forget t) (λ y m. same_before sg now f s first far S cs ws ws_are ws_of y (over.has_held (λ y. y.name < length now.cells) t b y (contains_holds (variables t) y (subst (λ l. Contains l y) (variables-forget t) m))))

    closed : IsClosedMap f
    closed = closed_map sg ℕ (Unit {0}) f s.fits.typed

    matrices : image_by put (forget (matrix_of L k)) ≡ forget (matrix_of L2 k2)
    matrices =
        old (matrix_of L k) (asked_has (Low (length now.cells)) (λ l. tt) (λ c. tt) (raise (length k.binders) zero L) (raise_has (Low (length now.cells)) (length k.binders) L L_below) k.goals part.goals_have)
        ∙ matrix_made f closed now.flexible s.fits.none sg (Low (length now.cells)) k k2 part made L L2 L_typed L2_typed L_made

    abbrev new : List (Option Read)
    new = spread (closed_in k) (made_terms x first S cs)

    met : Each (λ m w. image_by put (forget m) ≡ forget w) (made_terms x first S cs) ws
    met = met_new sg now f s first far S cs ws ws_are ws_of

    -- THE ATOM BECOMES what the goal does
    pub atoms_alike : image_by put (forget A) ≡ image_by put (forget goal)
    atoms_alike =
        ap (image_by put) ties.atom
        ∙ atom_made sg put put_fits.typed (Low (length now.cells)) k k2 part made.alike vs vs_guess (made_terms x first S cs) (made_terms_typed sg x first S cs) met (old k.atom part.atom_has ∙ made.atom)
        ∙ guesses.atom_guessed sg cons S2 first2 L2 L2_typed L2_below k2 part2 A2 d2 ties2 us for
        ∙ equal
        ∙ ap forget (guesses.low_stays sg cons S2 first2 L2 L2_typed L2_below k2 part2 A2 d2 ties2 us for goal2 goal2_below)
        ∙ sym goal_made
        ∙ sym (old goal goal_below)

    -- THE BODY BECOMES this, of which more names may be closed than the instance closes
    abbrev pub shape : Read
    shape = closed_with k.binders (masked (closed_in k) vs) (matrix_of L2 k2)

    abbrev pub whole : Read
    whole = closed_with k.binders vs (matrix_of L2 k2)

    pub bodies_made : Makes put d.body shape
    bodies_made =
        ap (image_by put) ties.body
        ∙ body_made sg put put_fits.typed (Low (length now.cells)) k k2 part made.alike vs vs_guess (made_terms x first S cs) (made_terms_typed sg x first S cs) met cons L L2 L_typed matrices

    pub whole_is : forget (image same_number P d2.body) ≡ forget whole
    whole_is = sym (sym (closed_hints k2.binders k.binders vs (matrix_of L2 k2) made.alike.types) ∙ guesses.body_guessed sg cons S2 first2 L2 L2_typed L2_below k2 part2 A2 d2 ties2 us for)

    whole_guess : IsGuess sg (closed_in k2) k.binders vs
    whole_guess = guess_over sg (closed_in k2) k2.binders k.binders vs made.alike.types vs_guess

    -- a name that stands in no goal stands in nothing that is asked for
    gone : (i : ℕ) → list_any (stands i) k2.goals ≡ false → (w : Read) × (matrix_of L2 k2 ≡ shift i w)
    gone i e =
        let short = closed_reach sg L2_typed in
        let up : raise (length k2.binders) zero L2 ≡ L2 = raise-closed sg olist (length k2.binders) L2 L2_typed in
        asked_free i (raise (length k2.binders) zero L2) k2.goals (ap (shift i) up ∙ shift-short L2 i (omega (arith, short)) ∙ sym up) e

    pub fills : Fills sg (λ u. names.Has (Contains S2) u) shape whole
    fills = more_closed sg Holds k2.goals k2.atom (matrix_of L2 k2) gone (closed_in k2) (closed_in k) k.binders vs made.alike.closes whole_guess vs_hold
        (all_unmoved sg prop k.binders vs (guess_typed sg (closed_in k2) k.binders vs whole_guess))
        (all_unmoved sg prop k.binders mask (guess_typed sg (closed_in k) k.binders mask (own_guess sg k k2 made.alike vs vs_guess)))

    -- where it closes no more, it is the instance's
    pub shape_whole : closed_in k2 ≡ closed_in k → shape ≡ whole
    shape_whole e = ap (λ l. closed_with k.binders l (matrix_of L2 k2)) (masked_same sg (closed_in k) k.binders vs (subst (λ l. IsGuess sg l k.binders vs) e whole_guess))

    pub fits : Fits sg [] (now.flexible ++ numbered first d.own) put
    fits = subst (λ l. Fits sg [] (now.flexible ++ numbered first l) put) (sym ties.own) put_fits

    pub same : (y : Variable ℕ) → y.name < length now.cells → put y ≡ f y
    same = same_before sg now f s first far S cs ws ws_are ws_of

    -- what was made is made still
    pub hypotheses_made : (branch : List Nominal) (u : Bool) (ts vs : List Read) → AllParts sg now branch u ts → MakesEach f ts vs → MakesEach put ts vs
    hypotheses_made branch u ts vs p m =
        each_grown sg now (record now { cells = now.cells ++ []; flexible = now.flexible ++ numbered first (cells_over x S cs) }) f put (grown_new sg now f s first far S cs ws ws_are ws_of []) branch u ts vs p m
