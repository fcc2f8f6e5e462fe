-- What a unified alternative by a clause gives: its atom and its body, with some terms for its variables.
use Rattle.std.proofs.Common.{◌≡◌, ℕ, zero, suc, ◌+◌, ◌<◌, List, [], ◌∷◌, ◌++◌, map, length, Bool, true, false, ◌&&◌, not, Option, Some, None, option_map, refl, sym, ◌∙◌, ap, subst, arith, length-append}
use Rattle.std.specs.List.{list_any}
use Rattle.std.specs.Prelude.{All, codes}
use Rattle.std.proofs.lemmas.Bool.{false≢true}
use Rattle.std.proofs.lemmas.List.Elements.{All-head, All-tail}
use Rattle.ab_term.specs.Types.{Ty, kind, arrow, prop, o, olist, arrows}
use Rattle.ab_term.specs.Logical.{nabla, spec_universal, spec_implication, spec_conjunction}
use Rattle.ab_term.specs.Terms.{Nominal, Variable, logical, nominal, index, Term, lam, spine, Terms, no_terms, term}
use Rattle.ab_term.specs.Typing.{Signature, HasType, TakeType, typed_lam, typed_spine, take_none, take_term}
use Rattle.ab_term.specs.Reach.{raise}
use Rattle.ab_term.specs.Substitution.{shift}
use Rattle.ab_term.specs.Translation.{forget, forget_all, EqualPastHints}
use Rattle.ab_term.specs.Variables.{Substitution, variables, value_in, image, image_all, image_by, IsTyped}
use Rattle.ab_term.specs.Sameness.{same_number}
use Rattle.ab_term.specs.Names.{support}
use Rattle.ab_term.proofs.ClosedMaps.{IsClosedMap, shift-image}
use Rattle.ab_term.proofs.Depends.{image_rigid}
use Rattle.ab_term.proofs.Compositions.{image_typed, map_typed}
use Rattle.ab_term.proofs.Expansions.{expansion_typed}
use Rattle.ab_term.proofs.Images.{closed_map}
use Rattle.ab_unifiers.specs.Replacements.{Cell}
use Rattle.ab_unifiers.specs.Unification.{Equation, unified, Solves, goes_on, next, at_end, by_step}
use Rattle.ab_unifiers.specs.Unifiers.{AreKnown, Unifies, given}
use Rattle.ab_unifiers.specs.Alternatives.{Scope, Side, on_left, on_right, cells_over, made_over, made_terms, arguments_equal}
use Rattle.ab_unifiers.proofs.Past.{forget-image}
use Rattle.ab_unifiers.specs.Member.{HasMember}
use Rattle.ab_term.proofs.Stands.{either}
use Rattle.ab_term.proofs.Preservation.{here, shift_typed}
use Rattle.ab_unifiers.proofs.Rows.{held_append, numbered_within}
use Rattle.ab_unifiers.proofs.Lifting.{made_terms_typed}
use Rattle.ab_coverage.proofs.IndexedGoals.{judged, in_front, both, open_goal, full, stands}
use Rattle.ab_coverage.proofs.IndexedSpecClauses.{SpecClause, and_also, closed_in, in_goals_only, atom_with, body_with, clause_image, context_of}
use Rattle.ab_coverage.proofs.IndexedInstances.{IsGuess, from_context}
use Rattle.ab_coverage.proofs.IndexedAlternatives.{by_clause, open_binders, new_terms, old_variables}
use Rattle.ab_coverage.proofs.IndexedCovering.{FullyEqual, IsTaken}
use Rattle.ab_coverage.proofs.Filling.{closed_with, drops, all_unmoved, closed_with_typed, full-closed}
use Rattle.ab_coverage.proofs.Conjoined.{asked, asked-image, asked-full, asked_typed}
use Rattle.ab_coverage.proofs.Clausal.{Shape, closed_free, free_image, total, drops_total, anything, total_typed, guess_shape, guess_typed, spread_guess, MetBy, atoms_met, bodies_met}
use Rattle.ab_coverage.proofs.Parts.{raise_typed, raise-closed}
use Rattle.ab_coverage.proofs.Cases.{full_past_hints}

module _ (sg : Signature) {Hint : Type 0} where
  -- some terms for a clause's variables
  abbrev pub some_values : List Bool → List (Cell Hint) → List (Option (Term ℕ Hint))
  some_values (true ∷ fs) (b ∷ bs) = None ∷ some_values fs bs
  some_values (false ∷ fs) (b ∷ bs) = Some (anything b) ∷ some_values fs bs
  some_values _ _ = []

  pub some_guess : (bs : List (Cell Hint)) (goals : List (Term ℕ Hint)) (t : Term ℕ Hint) → IsGuess sg (in_goals_only bs goals t) bs (some_values (in_goals_only bs goals t) bs)
  some_guess [] goals t = tt
  some_guess (b ∷ bs) goals t = go (list_any (stands (length bs)) goals && not (stands (length bs) t)) (some_guess bs goals t)
    where
      go : (e : Bool) → IsGuess sg (in_goals_only bs goals t) bs (some_values (in_goals_only bs goals t) bs) → IsGuess sg (e ∷ in_goals_only bs goals t) (b ∷ bs) (some_values (e ∷ in_goals_only bs goals t) (b ∷ bs))
      go true rest = rest
      go false rest = (expansion_typed sg b.hint b.type [] (nominal (record { number = 0; type = b.type })) refl, rest)

  -- something for each name that is taken off
  pub some_taken : (bs : List (Cell Hint)) (Gs Hs : List (Term ℕ Hint)) (t u : Term ℕ Hint) → (ks : List (Option (Term ℕ Hint))) × IsTaken sg (in_goals_only bs Gs t) (in_goals_only bs Hs u) bs ks
  some_taken [] Gs Hs t u = ([], tt)
  some_taken (b ∷ bs) Gs Hs t u = go (list_any (stands (length bs)) Gs && not (stands (length bs) t)) (list_any (stands (length bs)) Hs && not (stands (length bs) u)) (some_taken bs Gs Hs t u)
    where
      go : (d e : Bool) → (ks : List (Option (Term ℕ Hint))) × IsTaken sg (in_goals_only bs Gs t) (in_goals_only bs Hs u) bs ks → (ks : List (Option (Term ℕ Hint))) × IsTaken sg (d ∷ in_goals_only bs Gs t) (e ∷ in_goals_only bs Hs u) (b ∷ bs) ks
      go true e r = (None ∷ r.0, r.1)
      go false false r = (None ∷ r.0, r.1)
      go false true r = (Some (anything b) ∷ r.0, (expansion_typed sg b.hint b.type [] (nominal (record { number = 0; type = b.type })) refl, r.1))

  -- images of a guess
  abbrev pub images : Substitution ℕ Hint → List (Option (Term ℕ Hint)) → List (Option (Term ℕ Hint))
  images q vs = map (option_map (image same_number q)) vs

  pub images_guess : (q : Substitution ℕ Hint) → IsTyped sg q → (fs : List Bool) (bs : List (Cell Hint)) (vs : List (Option (Term ℕ Hint))) → IsGuess sg fs bs vs → IsGuess sg fs bs (images q vs)
  images_guess q p [] [] [] g = tt
  images_guess q p (true ∷ fs) (b ∷ bs) (None ∷ vs) g = images_guess q p fs bs vs g
  images_guess q p (false ∷ fs) (b ∷ bs) (Some u ∷ vs) g = (image_typed sg same_number q p g.0, images_guess q p fs bs vs g.1)
  images_guess q p fs bs vs g = absurd g

  pub images_met : (q : Substitution ℕ Hint) (p : IsTyped sg q) (vs : List (Option (Term ℕ Hint))) → MetBy sg q p vs (images q vs)
  images_met q p [] = tt
  images_met q p (None ∷ vs) = (tt, images_met q p vs)
  images_met q p (Some u ∷ vs) = (sym (forget-image q u), images_met q p vs)

  -- arguments that are made equal
  at_a_kind : (k : List ℕ) {A : Ty} → TakeType sg {Var = ℕ} {Hint = Hint} [] no_terms A (kind k) → A ≡ kind k
  at_a_kind k take_none = refl

  at_an_arrow : {A C : Ty} {v : Term ℕ Hint} {us : Terms ℕ Hint} → TakeType sg [] (term v us) A C → (B : Ty) × (D : Ty) × (A ≡ arrow B D)
  at_an_arrow (take_term {A = B} {B = D} d ds) = (B, D, refl)

  not_both : (k : List ℕ) {A C : Ty} {v : Term ℕ Hint} {us : Terms ℕ Hint} → TakeType sg {Var = ℕ} {Hint = Hint} [] no_terms A (kind k) → TakeType sg [] (term v us) A C → ⊥
  not_both k d e = let r = at_an_arrow e in let bad : kind k ≡ arrow r.0 r.1 = sym (at_a_kind k d) ∙ r.2 in cc

  pub unified_arguments : (x : Hint) (q : Substitution ℕ Hint) (p : ℕ) {A : Ty} (k l : List ℕ) (ts us : Terms ℕ Hint) → TakeType sg [] ts A (kind k) → TakeType sg [] us A (kind l) → Unifies q (arguments_equal x p ts us)
      → forget_all (image_all same_number q ts) ≡ forget_all (image_all same_number q us)
  unified_arguments x q p k l no_terms no_terms d e u = refl
  unified_arguments x q p k l no_terms (term v us) d e u = absurd (not_both k d e)
  unified_arguments x q p k l (term t ts) no_terms d e u = absurd (not_both l e d)
  unified_arguments x q p k l (term t ts) (term v us) (take_term d ds) (take_term e es) u =
      ap (λ w. term w (forget_all (image_all same_number q ts))) u.0 ∙ ap (term (forget (image same_number q v))) (unified_arguments x q (suc p) k l ts us ds es u.1)

-- a problem without equations is solved by nothing
pub nothing_asked : {Hint : Type 0} (x : Hint) (cells more : List (Cell Hint)) (ys : List (Variable ℕ)) (q : Substitution ℕ Hint) → Solves x (given [] cells ys) (unified more q) → q ≡ []
nothing_asked x cells more ys q (at_end e) = cc
nothing_asked x cells more ys q (by_step {r = r} e s) = absurd (let bad : next x (given [] cells ys) ≡ goes_on r = e in cc)

-- what may be replaced where nothing is made
pub plain_known : {Hint : Type 0} (x f : Hint) (side : Side) (sequent : Scope Hint) → AreKnown sequent.cells sequent.variables → AreKnown (sequent.cells ++ []) (old_variables x f side sequent side ++ [])
plain_known x f side sequent k y h = either (λ m. let long = length-append sequent.cells [] in let low : y.name < length sequent.cells = old_known side y m in omega (arith, low, long)) (λ m. absurd (false≢true m)) (held_append (old_variables x f side sequent side) [] y h)
  where
    old_known : (t : Side) → AreKnown sequent.cells (old_variables x f side sequent t)
    old_known on_left = k
    old_known on_right = λ z g. absurd (false≢true g)

-- the alternative from the list is a formula
pub context_typed : (sg : Signature) (has : HasMember sg) {Hint : Type 0} (f : Hint) (L G : Term ℕ Hint) → HasType sg [] L olist → HasType sg [] G o → HasType sg [] (from_context f L G) prop
context_typed sg has f L G l d =
    let L1 = shift_typed sg {A = o} here l in
    let G1 = shift_typed sg {A = o} here d in
    let F1 : HasType sg (o ∷ []) (spine (index 0) no_terms) o = typed_spine refl take_none in
    typed_spine refl (take_term (typed_lam (typed_spine refl (take_term (typed_spine refl (take_term L1 (take_term F1 (take_term G1 take_none)))) (take_term (typed_spine has.member (take_term F1 (take_term L1 take_none))) take_none)))) take_none)

-- goals without variables are opened as before
empty_front : {X : Type 0} (xs ys : List X) → xs ++ ys ≡ [] → xs ≡ []
empty_front [] ys e = refl
empty_front (a ∷ xs) ys e = absurd (cc)

empty_behind : {X : Type 0} (xs ys : List X) → xs ++ ys ≡ [] → ys ≡ []
empty_behind [] ys e = e
empty_behind (a ∷ xs) ys e = absurd (cc)

module _ {Hint : Type 0} (f : Variable ℕ → Option (Term ℕ Hint)) (closed : IsClosedMap f) where
  pub rigid-open : (G L : Term ℕ Hint) → variables G ≡ [] → image_by f (open_goal L G) ≡ open_goal (image_by f L) G
  rigid-open (spine (logical (spec_universal A)) (term (lam B x G) no_terms)) L e =
      ap (λ H. spine (logical (nabla A)) (term (lam A x H) no_terms)) (rigid-open G (shift zero L) (empty_front (variables G) [] e) ∙ ap (λ K. open_goal K G) (sym (shift-image f closed L zero)))
  rigid-open (spine (logical spec_implication) (term F (term G no_terms))) L e =
      rigid-open G (in_front F L) (empty_front (variables G) [] (empty_behind (variables F) (variables G ++ []) e))
      ∙ ap (λ K. open_goal (in_front K (image_by f L)) G) (image_rigid f F (empty_front (variables F) (variables G ++ []) e))
  rigid-open (spine (logical spec_conjunction) (term F (term G no_terms))) L e =
      ap (λ H. both H (image_by f (open_goal L G))) (rigid-open F L (empty_front (variables F) (variables G ++ []) e))
      ∙ ap (λ H. both (open_goal (image_by f L) F) H) (rigid-open G L (empty_front (variables G) [] (empty_behind (variables F) (variables G ++ []) e)))
  rigid-open G L e = ap (judged (image_by f L)) (image_rigid f G e)

  more_rigid : (L F : Term ℕ Hint) (Gs : List (Term ℕ Hint)) → All (λ G. (variables G ≡ []) × (support G ≡ [])) Gs → image_by f (and_also F (map (open_goal L) Gs)) ≡ and_also (image_by f F) (map (open_goal (image_by f L)) Gs)
  more_rigid L F [] all = refl
  more_rigid L F (G ∷ Gs) all =
      more_rigid L (both F (open_goal L G)) Gs (All-tail (λ G. (variables G ≡ []) × (support G ≡ [])) G Gs all)
      ∙ ap (λ H. and_also (both (image_by f F) H) (map (open_goal (image_by f L)) Gs)) (rigid-open G L (All-head (λ G. (variables G ≡ []) × (support G ≡ [])) G Gs all).0)

  pub asked_rigid : (L : Term ℕ Hint) (Gs : List (Term ℕ Hint)) → All (λ G. (variables G ≡ []) × (support G ≡ [])) Gs → image_by f (asked L Gs) ≡ asked (image_by f L) Gs
  asked_rigid L [] all = refl
  asked_rigid L (G ∷ Gs) all =
      more_rigid L (open_goal L G) Gs (All-tail (λ G. (variables G ≡ []) × (support G ≡ [])) G Gs all)
      ∙ ap (λ H. and_also H (map (open_goal (image_by f L)) Gs)) (rigid-open G L (All-head (λ G. (variables G ≡ []) × (support G ≡ [])) G Gs all).0)

module _ (sg : Signature) (cons : sg (codes "::") ≡ Some (arrows (o ∷ olist ∷ []) olist)) {Hint : Type 0} (x f : Hint) (side : Side) (sequent : Scope Hint) (in_cells : AreKnown sequent.cells sequent.variables) (S : List Nominal)
    (L : Term ℕ Hint) (L_typed : HasType sg [] L olist) (c : SpecClause Hint) (atom_is : HasType sg (context_of c.binders []) c.atom o) (goals_are : All (λ G. HasType sg (context_of c.binders []) G o) c.goals) where
  abbrev fs : List Bool
  fs = closed_in c

  abbrev bs : List (Cell Hint)
  bs = c.binders

  abbrev pub new : List (Option (Term ℕ Hint))
  new = new_terms x f side sequent S L c

  some_shape : Shape fs bs (some_values sg fs bs)
  some_shape = guess_shape sg fs bs (some_values sg fs bs) (some_guess sg bs c.goals c.atom)

  pub new_guess : IsGuess sg fs bs new
  new_guess = spread_guess sg x fs bs (some_values sg fs bs) (made_terms x (length sequent.cells) S (open_binders x f side sequent S L c)) some_shape (made_terms_typed sg x (length sequent.cells) S (open_binders x f side sequent S L c))

  pub atom_new_typed : HasType sg [] (atom_with c new) o
  atom_new_typed =
      let t_typed = total_typed sg o bs new (guess_typed sg fs bs new new_guess) in
      subst (λ t. HasType sg [] t o) (sym (drops bs new (total anything bs new) c.atom (drops_total anything fs bs new c.atom (guess_shape sg fs bs new new_guess) (closed_free bs c.goals c.atom)) (all_unmoved sg o bs (total anything bs new) t_typed)))
      (closed_with_typed sg bs (total anything bs new) c.atom t_typed atom_is)

  old_known : (t : Side) → AreKnown sequent.cells (old_variables x f side sequent t)
  old_known on_left = in_cells
  old_known on_right = λ y h. absurd (false≢true h)

  pub known : (es : List (Equation Hint)) → AreKnown (by_clause x f side sequent S L c es).cells (by_clause x f side sequent S L c es).flexible
  known es y h =
      let cs = open_binders x f side sequent S L c in
      let long : length (sequent.cells ++ cells_over x S cs) ≡ length sequent.cells + length (cells_over x S cs) = length-append sequent.cells (cells_over x S cs) in
      either
      (λ k. let low : y.name < length sequent.cells = old_known side y k in omega (arith, low, long))
      (λ z. let within : y.name < length sequent.cells + length (cells_over x S cs) = (numbered_within (length sequent.cells) (cells_over x S cs) y z).1 in omega (arith, within, long))
      (held_append (old_variables x f side sequent side) (made_over x (length sequent.cells) S cs) y h)

  raised_typed : HasType sg (context_of bs []) (raise (length bs) zero L) olist
  raised_typed = raise_typed sg olist bs [] L L_typed

  abbrev matrix : Term ℕ Hint
  matrix = asked (raise (length bs) zero L) c.goals

  matrix_typed : HasType sg (context_of bs []) matrix prop
  matrix_typed = asked_typed sg cons (raise (length bs) zero L) raised_typed c.goals goals_are

  pub body_new_typed : HasType sg [] (body_with L c new) prop
  body_new_typed = closed_with_typed sg bs new matrix (guess_typed sg fs bs new new_guess) matrix_typed

  module _ (q : Substitution ℕ Hint) (q_typed : IsTyped sg q) where
    abbrev pub vs : List (Option (Term ℕ Hint))
    vs = images sg q new

    pub vs_guess : IsGuess sg fs bs vs
    vs_guess = images_guess sg q q_typed fs bs new new_guess

    q_closed : IsClosedMap (value_in same_number q)
    q_closed = closed_map sg ℕ Hint (value_in same_number q) (map_typed sg same_number q q_typed)

    pub atoms_same : EqualPastHints (image same_number q (atom_with c new)) (atom_with (clause_image q c) vs)
    atoms_same = atoms_met sg q q_typed fs bs new vs new_guess vs_guess (images_met sg q q_typed new) c.atom (image same_number q c.atom) atom_is (closed_free bs c.goals c.atom)
        (free_image (value_in same_number q) q_closed fs bs c.atom (closed_free bs c.goals c.atom)) (sym (forget-image q c.atom))

    lists_same : image same_number q (raise (length bs) zero L) ≡ raise (length bs) zero (image same_number q L)
    lists_same = ap (image same_number q) (raise-closed sg olist (length bs) L L_typed) ∙ sym (raise-closed sg olist (length bs) (image same_number q L) (image_typed sg same_number q q_typed L_typed))

    pub bodies_past_hints : EqualPastHints (image same_number q (body_with L c new)) (closed_with bs vs (image same_number q matrix))
    bodies_past_hints = bodies_met sg q q_typed fs bs new vs new_guess vs_guess (images_met sg q q_typed new) matrix matrix_typed

    abbrev asked_after : Term ℕ Hint
    asked_after = asked (image same_number q (raise (length bs) zero L)) (map (image same_number q) c.goals)

    -- opened once more, the body is that of what the clause becomes
    pub bodies_same : FullyEqual (image same_number q (body_with L c new)) (body_with (image same_number q L) (clause_image q c) vs)
    bodies_same =
        full_past_hints (image same_number q (body_with L c new)) (closed_with bs vs (image same_number q matrix)) bodies_past_hints
        ∙ ap forget (full-closed bs vs (image same_number q matrix) asked_after
        (asked-image (value_in same_number q) q_closed (raise (length bs) zero L) c.goals ∙ sym (asked-full (image same_number q (raise (length bs) zero L)) (map (image same_number q) c.goals))))
        ∙ ap (λ K. forget (full (closed_with bs vs (asked K (map (image same_number q) c.goals))))) lists_same

    -- where the goals hold no variables, it is so at once
    pub bodies_rigid : All (λ G. (variables G ≡ []) × (support G ≡ [])) c.goals → EqualPastHints (image same_number q (body_with L c new)) (body_with (image same_number q L) c vs)
    bodies_rigid all =
        bodies_past_hints
        ∙ ap (λ t. forget (closed_with bs vs t)) (asked_rigid (value_in same_number q) q_closed (raise (length bs) zero L) c.goals all ∙ ap (λ K. asked K c.goals) lists_same)
