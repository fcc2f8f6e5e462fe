-- One alternative by a clause: its atom and its body under the unifier are those of a guess.
use Rattle.std.proofs.Common.{◌≡◌, ℕ, zero, List, [], ◌∷◌, ◌++◌, map, length, Bool, true, false, Option, Some, None, refl, sym, ◌∙◌, ap, subst}
use Rattle.std.specs.Prelude.{All, Contains, codes}
use Rattle.std.proofs.lemmas.List.Elements.{All-head, All-tail, All-cons, All-contains}
use Rattle.ab_term.specs.Types.{Ty, prop, o, olist, arrows}
use Rattle.ab_term.specs.Logical.{Logical, existential}
use Rattle.ab_term.specs.Terms.{Nominal, Variable, Head, constant, logical, nominal, variable, index, Term}
use Rattle.ab_term.specs.Typing.{Signature, HasType}
use Rattle.ab_term.specs.Reach.{raise}
use Rattle.ab_term.specs.Translation.{forget, EqualPastHints}
use Rattle.ab_term.specs.Variables.{Substitution, variables, value_in, image, IsTyped}
use Rattle.ab_term.specs.Sameness.{same_number}
use Rattle.ab_term.proofs.ClosedMaps.{IsClosedMap}
use Rattle.ab_term.proofs.Compositions.{image_typed, map_typed}
use Rattle.ab_term.proofs.Images.{closed_map}
use Rattle.ab_term.proofs.Lists.{All-from_contains, Contains-none}
use Rattle.ab_term.proofs.Standing.{HeadHas, Has, has_more, substitute_has}
use Rattle.ab_term.proofs.Stands.{Either, has, has_names, has_variables}
use Rattle.ab_unifiers.specs.Replacements.{Cell, holds}
use Rattle.ab_unifiers.specs.Unification.{Equation, Answer, unified, apart, stuck, Solves}
use Rattle.ab_unifiers.specs.Unifiers.{AreDifferent, AreKnown, AreTyped, AreOver, Unifies, sides, given}
use Rattle.ab_unifiers.proofs.Agreeing.{holds_front, holds_behind}
use Rattle.ab_unifiers.specs.Clauses.{Each, numbered}
use Rattle.ab_unifiers.specs.Alternatives.{Scope, cells_over, made_over, made_terms}
use Rattle.ab_unifiers.proofs.Past.{forget-image}
use Rattle.ab_unifiers.proofs.Constants as names
use Rattle.ab_unifiers.proofs.Variables as over
use Rattle.ab_unifiers.proofs.Variables.{holds_contains}
use Rattle.ab_unifiers.proofs.Rows.{each_both, each_weaker}
use Rattle.ab_unifiers.proofs.Lifting.{OfCells, made_terms_typed}
use Rattle.ab_unifiers.proofs.Unifier.{made_have, made_over_vars}
use Rattle.ab_coverage.proofs.IndexedGoals.{full}
use Rattle.ab_coverage.proofs.IndexedSpecClauses.{SpecClause, closed_in, left_open, atom_with, body_with, spread, context_of}
use Rattle.ab_coverage.proofs.IndexedInstances.{IsGuess}
use Rattle.ab_coverage.proofs.IndexedCovering.{FullyEqual}
use Rattle.ab_coverage.proofs.Opening.{translate-full}
use Rattle.ab_coverage.proofs.Filling.{closed_with, drops, all_unmoved, closed_with_typed, full-closed, closed-forget}
use Rattle.ab_coverage.proofs.Conjoined.{asked, asked-image, asked-full, asked-forget, asked_typed, asked_has}
use Rattle.ab_coverage.proofs.Clausal.{closed_free, free_image, total, drops_total, anything, blank, total_blank, total_typed, guessed, guessed_for, guess_shape, guess_typed, spread_guess, MetBy, spread_met, atoms_met, bodies_met}
use Rattle.ab_coverage.proofs.Parts.{raise_has, raise_typed, raise-closed, imaged, IsPart}
use Rattle.ab_coverage.proofs.Unifier as problem

-- what is opened of formulas that are the same past hints
pub full_past_hints : {Hint : Type 0} (t u : Term ℕ Hint) → EqualPastHints t u → EqualPastHints (full t) (full u)
full_past_hints t u e = translate-full (λ v. v) (λ h. tt) t ∙ ap full e ∙ sym (translate-full (λ v. v) (λ h. tt) u)

-- heads of what is put together
module _ {Hint : Type 0} (P : Head ℕ → Type 0) (logicals : (l : Logical) → P (logical l)) where
  abbrev pub OptionHas : Option (Term ℕ Hint) → Type 0
  OptionHas None = Unit {0}
  OptionHas (Some u) = Has P u

  abbrev pub OptionsHave : List (Option (Term ℕ Hint)) → Type 0
  OptionsHave [] = Unit {0}
  OptionsHave (v ∷ vs) = OptionHas v × OptionsHave vs

  pub closed_has : (bs : List (Cell Hint)) (vs : List (Option (Term ℕ Hint))) (t : Term ℕ Hint) → OptionsHave vs → Has P t → Has P (closed_with bs vs t)
  closed_has [] vs t e h = h
  closed_has (b ∷ bs) [] t e h = h
  closed_has (b ∷ bs) (Some u ∷ vs) t e h = substitute_has P b.type u zero (closed_with bs vs t) e.0 (closed_has bs vs t e.1 h)
  closed_has (b ∷ bs) (None ∷ vs) t e h = (logicals (existential b.type), (closed_has bs vs t e.1 h, tt))

  pub spread_has : (fs : List Bool) (ms : List (Term ℕ Hint)) → All (Has P) ms → OptionsHave (spread fs ms)
  spread_has [] ms all = tt
  spread_has (true ∷ fs) ms all = (tt, spread_has fs ms all)
  spread_has (false ∷ fs) [] all = (tt, spread_has fs [] all)
  spread_has (false ∷ fs) (m ∷ ms) all = (All-head (Has P) m ms all, spread_has fs ms (All-tail (Has P) m ms all))

  pub blank_has : ((c : List ℕ) → P (constant c)) → (bs : List (Cell Hint)) (vs : List (Option (Term ℕ Hint))) → OptionsHave vs → OptionsHave (total blank bs vs)
  blank_has constants [] vs e = tt
  blank_has constants (b ∷ bs) [] e = tt
  blank_has constants (b ∷ bs) (Some u ∷ vs) e = (e.0, blank_has constants bs vs e.1)
  blank_has constants (b ∷ bs) (None ∷ vs) e = ((constants [], tt), blank_has constants bs vs e.1)

each_all : {X Y : Type 0} (Q : Y → Type 0) (xs : List X) (ys : List Y) → Each (λ x y. Q y) xs ys → All Q ys
each_all Q [] [] e = All-from_contains Q [] (λ a m. absurd (Contains-none a m))
each_all Q [] (y ∷ ys) e = absurd e
each_all Q (x ∷ xs) [] e = absurd e
each_all Q (x ∷ xs) (y ∷ ys) e = All-cons Q y ys e.0 (each_all Q xs ys e.1)

maps_same : {X Y : Type 0} (f g : X → Y) (xs : List X) → All (λ x. f x ≡ g x) xs → map f xs ≡ map g xs
maps_same f g [] all = refl
maps_same f g (x ∷ xs) all = ap (λ y. y ∷ map f xs) (All-head (λ x. f x ≡ g x) x xs all) ∙ ap (λ l. g x ∷ l) (maps_same f g xs (All-tail (λ x. f x ≡ g x) x xs all))

two_maps : {X Y Z : Type 0} (f : X → Y) (g : Y → Z) (xs : List X) → map g (map f xs) ≡ map (λ x. g (f x)) xs
two_maps f g [] = refl
two_maps f g (x ∷ xs) = ap (λ l. g (f x) ∷ l) (two_maps f g xs)

-- over these constants and these variables
abbrev pub Over : List Nominal → List (Variable ℕ) → Head ℕ → Type 0
Over S V = Either (Contains S) (λ y. holds V y ≡ true)

pub over_logical : (S : List Nominal) (V : List (Variable ℕ)) (l : Logical) → Over S V (logical l)
over_logical S V l = tt

pub over_constant : (S : List Nominal) (V : List (Variable ℕ)) (c : List ℕ) → Over S V (constant c)
over_constant S V c = tt

over_more : (S : List Nominal) (V zs : List (Variable ℕ)) (h : Head ℕ) → HeadHas (Over S V) h → HeadHas (Over S (V ++ zs)) h
over_more S V zs (constant c) p = tt
over_more S V zs (logical l) p = tt
over_more S V zs (nominal a) p = p
over_more S V zs (variable y) p = holds_front V zs y p
over_more S V zs (index i) p = tt

module _ {Hint : Type 0} (S : List Nominal) (V : List (Variable ℕ)) where
  pub variables_held : (t : Term ℕ Hint) → Has (Over S V) t → (y : Variable ℕ) → holds (variables t) y ≡ true → holds V y ≡ true
  variables_held t h y e = has_variables (Contains S) (λ y. holds V y ≡ true) t h y (holds_contains (variables t) y e)

  pub constants_held : (t : Term ℕ Hint) → Has (Over S V) t → names.Has (λ a. Contains S a) t
  constants_held t h = names.support_has (λ a. Contains S a) t (has_names (Contains S) (λ y. holds V y ≡ true) t h)

  pub more_over : (zs : List (Variable ℕ)) (t : Term ℕ Hint) → Has (Over S V) t → Has (Over S (V ++ zs)) t
  more_over zs t h = has_more (Over S V) (Over S (V ++ zs)) (over_more S V zs) t h

module _ (sg : Signature) (cons : sg (codes "::") ≡ Some (arrows (o ∷ olist ∷ []) olist)) {Hint : Type 0} (x : Hint) (sequent : Scope Hint) (different : AreDifferent sequent.variables) (in_cells : AreKnown sequent.cells sequent.variables)
    (S : List Nominal) (s : Substitution ℕ Hint) (s_typed : IsTyped sg s) (s_holds : (y : Variable ℕ) (t : Term ℕ Hint) → value_in same_number s y ≡ Some t → names.Has (λ a. ¬ (Contains S a)) t)
    (L : Term ℕ Hint) (L_typed : HasType sg [] L olist) (L_over : Has (Over S sequent.variables) L)
    (c : SpecClause Hint) (part : IsPart sg (Over S sequent.variables) [] c) (vs : List (Option (Term ℕ Hint))) (g : IsGuess sg (closed_in c) c.binders vs) where
  abbrev pub fs : List Bool
  fs = closed_in c

  abbrev pub bs : List (Cell Hint)
  bs = c.binders

  abbrev pub cs : List (Cell Hint)
  cs = left_open fs bs

  abbrev pub us : List (Term ℕ Hint)
  us = guessed sg fs bs vs g

  pub us_for : OfCells sg x cs us
  us_for = guessed_for sg x fs bs vs g

  abbrev pub V : List (Variable ℕ)
  V = sequent.variables

  abbrev pub zs : List (Variable ℕ)
  zs = made_over x (length sequent.cells) S cs

  abbrev pub made : List (Term ℕ Hint)
  made = made_terms x (length sequent.cells) S cs

  abbrev pub new : List (Option (Term ℕ Hint))
  new = spread fs made

  abbrev pub U : Substitution ℕ Hint
  U = problem.unifier sg x sequent different in_cells S cs us us_for s s_typed s_holds

  U_typed : IsTyped sg U
  U_typed = problem.unifier_typed sg x sequent different in_cells S cs us us_for s s_typed s_holds

  new_guess : IsGuess sg fs bs new
  new_guess = spread_guess sg x fs bs vs made (guess_shape sg fs bs vs g) (made_terms_typed sg x (length sequent.cells) S cs)

  met : MetBy sg U U_typed new vs
  met = spread_met sg U U_typed fs bs vs g made (problem.on_new sg x sequent different in_cells S cs us us_for s s_typed s_holds)

  s_closed : IsClosedMap (value_in same_number s)
  s_closed = closed_map sg ℕ Hint (value_in same_number s) (map_typed sg same_number s s_typed)

  U_closed : IsClosedMap (value_in same_number U)
  U_closed = closed_map sg ℕ Hint (value_in same_number U) (map_typed sg same_number U U_typed)

  abbrev pub c2 : SpecClause Hint
  c2 = imaged (value_in same_number s) c

  pub on_old : {G : List Ty} {t : Term ℕ Hint} {A : Ty} → HasType sg G t A → Has (Over S V) t → EqualPastHints (image same_number U t) (image same_number s t)
  on_old {t = t} d h = problem.on_old sg x sequent different in_cells S cs us us_for s s_typed s_holds d (variables_held S V t h)

  pub atoms_same : EqualPastHints (image same_number U (atom_with c new)) (atom_with c2 vs)
  atoms_same = atoms_met sg U U_typed fs bs new vs new_guess g met c.atom c2.atom part.atom (closed_free bs c.goals c.atom) (free_image (value_in same_number s) s_closed fs bs c.atom (closed_free bs c.goals c.atom))
      (sym (forget-image U c.atom) ∙ on_old part.atom part.atom_has)

  abbrev raised : Term ℕ Hint
  raised = raise (length bs) zero L

  raised_typed : HasType sg (context_of bs []) raised olist
  raised_typed = raise_typed sg olist bs [] L L_typed

  abbrev matrix : Term ℕ Hint
  matrix = asked raised c.goals

  matrix_typed : HasType sg (context_of bs []) matrix prop
  matrix_typed = asked_typed sg cons raised raised_typed c.goals part.goals

  lists_same : forget (image same_number U raised) ≡ forget (raise (length bs) zero (image same_number s L))
  lists_same =
      ap (λ z. forget (image same_number U z)) (raise-closed sg olist (length bs) L L_typed) ∙ on_old L_typed L_over
      ∙ ap forget (sym (raise-closed sg olist (length bs) (image same_number s L) (image_typed sg same_number s s_typed L_typed)))

  goals_same : map forget (map (image same_number U) c.goals) ≡ map forget (map (image same_number s) c.goals)
  goals_same =
      two_maps (image same_number U) forget c.goals
      ∙ maps_same (λ G. forget (image same_number U G)) (λ G. forget (image same_number s G)) c.goals
      (All-from_contains (λ G. forget (image same_number U G) ≡ forget (image same_number s G)) c.goals (λ G m. on_old (All-contains (λ H. HasType sg (context_of bs []) H o) c.goals G part.goals m) (All-contains (Has (Over S V)) c.goals G part.goals_have m)))
      ∙ sym (two_maps (image same_number s) forget c.goals)

  abbrev asked_after : Term ℕ Hint
  asked_after = asked (image same_number U raised) (map (image same_number U) c.goals)

  abbrev asked_before : Term ℕ Hint
  asked_before = asked (raise (length bs) zero (image same_number s L)) (map (image same_number s) c.goals)

  matrices_same : forget asked_after ≡ forget asked_before
  matrices_same =
      asked-forget (image same_number U raised) (map (image same_number U) c.goals)
      ∙ ap (λ K. asked K (map forget (map (image same_number U) c.goals))) lists_same
      ∙ ap (asked (forget (raise (length bs) zero (image same_number s L)))) goals_same
      ∙ sym (asked-forget (raise (length bs) zero (image same_number s L)) (map (image same_number s) c.goals))

  pub bodies_same : EqualPastHints (full (image same_number U (body_with L c new))) (full (body_with (image same_number s L) c2 vs))
  bodies_same =
      full_past_hints (image same_number U (closed_with bs new matrix)) (closed_with bs vs (image same_number U matrix)) (bodies_met sg U U_typed fs bs new vs new_guess g met matrix matrix_typed)
      ∙ ap forget (full-closed bs vs (image same_number U matrix) asked_after
      (asked-image (value_in same_number U) U_closed raised c.goals ∙ sym (asked-full (image same_number U raised) (map (image same_number U) c.goals))))
      ∙ full_past_hints (closed_with bs vs asked_after) (closed_with bs vs asked_before) (closed-forget bs vs asked_after asked_before matrices_same)

  -- types and heads
  pub body_typed : HasType sg [] (body_with L c new) prop
  body_typed = closed_with_typed sg bs new matrix (guess_typed sg fs bs new new_guess) matrix_typed

  pub atom_typed : HasType sg [] (atom_with c new) o
  atom_typed =
      let t_typed = total_typed sg o bs new (guess_typed sg fs bs new new_guess) in
      subst (λ t. HasType sg [] t o) (sym (drops bs new (total anything bs new) c.atom (drops_total anything fs bs new c.atom (guess_shape sg fs bs new new_guess) (closed_free bs c.goals c.atom)) (all_unmoved sg o bs (total anything bs new) t_typed)))
      (closed_with_typed sg bs (total anything bs new) c.atom t_typed part.atom)

  abbrev pub Wide : Head ℕ → Type 0
  Wide = Over S (V ++ zs)

  made_have_both : All (Has Wide) made
  made_have_both = each_all (Has Wide) (numbered 0 cs) made
      (each_weaker (λ y t. names.Has (Contains S) t × over.Has (λ y. holds (V ++ zs) y ≡ true) t) (λ y t. Has Wide t)
      (λ y t h. has (Contains S) (λ y. holds (V ++ zs) y ≡ true) t (names.has_support (Contains S) t h.0) (λ y m. has_variables over.Any (λ y. holds (V ++ zs) y ≡ true) t h.1 y m)) (numbered 0 cs) made
      (each_both (λ y t. names.Has (Contains S) t) (λ y t. over.Has (λ y. holds (V ++ zs) y ≡ true) t) (numbered 0 cs) made
      (made_have sg x (Contains S) 0 (length sequent.cells) S cs (λ a m. m))
      (made_over_vars sg x (λ y. holds (V ++ zs) y ≡ true) 0 (length sequent.cells) S cs (λ z h. holds_behind V zs z h))))

  new_have : OptionsHave Wide (over_logical S (V ++ zs)) new
  new_have = spread_has Wide (over_logical S (V ++ zs)) fs made made_have_both

  pub body_over : Has Wide (body_with L c new)
  body_over = closed_has Wide (over_logical S (V ++ zs)) bs new matrix new_have
      (more_over S V zs matrix (asked_has (Over S V) (over_logical S V) (over_constant S V) raised (raise_has (Over S V) (length bs) L L_over) c.goals part.goals_have))

  pub atom_over : Has Wide (atom_with c new)
  atom_over =
      subst (Has Wide) (sym (drops bs new (total blank bs new) c.atom (drops_total blank fs bs new c.atom (guess_shape sg fs bs new new_guess) (closed_free bs c.goals c.atom)) (total_blank prop sg bs new (guess_typed sg fs bs new new_guess))))
      (closed_has Wide (over_logical S (V ++ zs)) bs (total blank bs new) c.atom (blank_has Wide (over_logical S (V ++ zs)) (over_constant S (V ++ zs)) bs new new_have) (more_over S V zs c.atom part.atom_has))

  abbrev pub all_cells : List (Cell Hint)
  all_cells = sequent.cells ++ cells_over x S cs

  -- the problem, and what its answer gives
  module _ (es : List (Equation Hint)) (es_typed : AreTyped sg es) (es_over : AreOver all_cells es) (es_hold : All (names.Has (λ a. Contains S a)) (sides es)) (unifies : Unifies U es) where
    abbrev pub ClauseMeets : Answer Hint → Type 0
    ClauseMeets apart = ⊥
    ClauseMeets (stuck i) = Unit {0}
    ClauseMeets (unified more q) = (r : Substitution ℕ Hint) × IsTyped sg r
        × FullyEqual (image same_number r (image same_number q (body_with L c new))) (body_with (image same_number s L) c2 vs)
        × ((t : Term ℕ Hint) (A : Ty) → HasType sg [] t A → ((y : Variable ℕ) → holds (variables t) y ≡ true → holds V y ≡ true) → EqualPastHints (image same_number r (image same_number q t)) (image same_number s t))

    pub clause_met : (a : Answer Hint) → Solves x (given es all_cells (V ++ zs)) a → ClauseMeets a
    clause_met apart e = problem.gives sg x sequent different in_cells S cs us us_for s s_typed s_holds es es_typed es_over es_hold unifies apart e
    clause_met (stuck i) e = tt
    clause_met (unified more q) e =
        let g = problem.gives sg x sequent different in_cells S cs us us_for s s_typed s_holds es es_typed es_over es_hold unifies (unified more q) e in (
          g.0,
          g.1,
          full_past_hints (image same_number g.0 (image same_number q (body_with L c new))) (image same_number U (body_with L c new)) (g.2 (body_with L c new) prop body_typed (variables_held S (V ++ zs) (body_with L c new) body_over)) ∙ bodies_same,
          (λ t A d v. g.2 t A d (λ y h. holds_front V zs y (v y h)) ∙ problem.on_old sg x sequent different in_cells S cs us us_for s s_typed s_holds d v),
        )
