-- A clause with new terms for its variables, and what a substitution makes of it.
use Rattle.std.proofs.Common.{◌≡◌, ℕ, List, [], ◌∷◌, length, Bool, true, false, ◌&&◌, not, Option, Some, None, refl, sym, ◌∙◌, ap}
use Rattle.std.specs.List.{list_any}
use Rattle.ab_term.specs.Types.{Ty, prop, o}
use Rattle.ab_term.specs.Terms.{Variable, nominal, constant, Term, spine, no_terms}
use Rattle.ab_term.specs.Typing.{Signature, HasType}
use Rattle.ab_term.specs.Expansion.{expansion}
use Rattle.ab_term.specs.Substitution.{shift}
use Rattle.ab_term.specs.Translation.{forget}
use Rattle.ab_term.specs.Variables.{Substitution, image, image_by, IsTyped}
use Rattle.ab_term.specs.Sameness.{same_number}
use Rattle.ab_term.proofs.ClosedMaps.{IsClosedMap, shift-image}
use Rattle.ab_term.proofs.Expansions.{expansion_typed}
use Rattle.ab_unifiers.specs.Replacements.{Cell}
use Rattle.ab_unifiers.specs.Clauses.{Each}
use Rattle.ab_unifiers.proofs.Past.{bare, bare_typed, forget-image}
use Rattle.ab_unifiers.proofs.Lifting.{OfCells, name_stays}
use Rattle.ab_coverage.proofs.IndexedGoals.{stands, lower}
use Rattle.ab_coverage.proofs.IndexedSpecClauses.{in_goals_only, left_open, spread, context_of}
use Rattle.ab_coverage.proofs.IndexedInstances.{IsGuess}
use Rattle.ab_coverage.proofs.Lowered.{lowered}
use Rattle.ab_coverage.proofs.Filling.{closed_with, dropped_with, Drops, drops, AllUnmoved, all_unmoved, AllTyped, Met, met-closed}

absent : (a b : Bool) → (a && not b) ≡ true → b ≡ false
absent true true e = absurd (let bad : false ≡ true = e in cc)
absent true false e = refl
absent false b e = absurd (let bad : false ≡ true = e in cc)

-- each bit with its binder and what is put in for it
module _ {Hint : Type 0} where
  abbrev pub Shape : List Bool → List (Cell Hint) → List (Option (Term ℕ Hint)) → Type 0
  Shape [] [] [] = Unit {0}
  Shape (true ∷ fs) (b ∷ bs) (None ∷ vs) = Shape fs bs vs
  Shape (false ∷ fs) (b ∷ bs) (Some u ∷ vs) = Shape fs bs vs
  Shape _ _ _ = ⊥

  -- a closed name doesn't stand in the term
  abbrev pub Free : List Bool → List (Cell Hint) → Term ℕ Hint → Type 0
  Free [] [] t = Unit {0}
  Free (true ∷ fs) (b ∷ bs) t = ((w : Term ℕ Hint) × (t ≡ shift (length bs) w)) × Free fs bs t
  Free (false ∷ fs) (b ∷ bs) t = Free fs bs t
  Free _ _ t = ⊥

  pub closed_free : (bs : List (Cell Hint)) (goals : List (Term ℕ Hint)) (t : Term ℕ Hint) → Free (in_goals_only bs goals t) bs t
  closed_free [] goals t = tt
  closed_free (b ∷ bs) goals t = go (list_any (stands (length bs)) goals && not (stands (length bs) t)) refl (closed_free bs goals t)
    where
      go : (f : Bool) → (list_any (stands (length bs)) goals && not (stands (length bs) t)) ≡ f → Free (in_goals_only bs goals t) bs t → Free (f ∷ in_goals_only bs goals t) (b ∷ bs) t
      go true e rest = ((lower (length bs) t, lowered (length bs) t (absent (list_any (stands (length bs)) goals) (stands (length bs) t) e)), rest)
      go false e rest = rest

  pub free_image : (f : Variable ℕ → Option (Term ℕ Hint)) → IsClosedMap f → (fs : List Bool) (bs : List (Cell Hint)) (t : Term ℕ Hint) → Free fs bs t → Free fs bs (image_by f t)
  free_image f closed [] [] t e = tt
  free_image f closed (true ∷ fs) (b ∷ bs) t e = ((image_by f e.0.0, ap (image_by f) e.0.1 ∙ sym (shift-image f closed e.0.0 (length bs))), free_image f closed fs bs t e.1)
  free_image f closed (false ∷ fs) (b ∷ bs) t e = free_image f closed fs bs t e
  free_image f closed fs bs t e = absurd e

  -- in an atom something is put in for each name
  abbrev pub total : (Cell Hint → Term ℕ Hint) → List (Cell Hint) → List (Option (Term ℕ Hint)) → List (Option (Term ℕ Hint))
  total j [] vs = []
  total j (b ∷ bs) [] = []
  total j (b ∷ bs) (Some u ∷ vs) = Some u ∷ total j bs vs
  total j (b ∷ bs) (None ∷ vs) = Some (j b) ∷ total j bs vs

  pub drops_total : (j : Cell Hint → Term ℕ Hint) (fs : List Bool) (bs : List (Cell Hint)) (vs : List (Option (Term ℕ Hint))) (t : Term ℕ Hint) → Shape fs bs vs → Free fs bs t → Drops t bs vs (total j bs vs)
  drops_total j [] [] [] t s e = tt
  drops_total j (true ∷ fs) (b ∷ bs) (None ∷ vs) t s e = (e.0, drops_total j fs bs vs t s e.1)
  drops_total j (false ∷ fs) (b ∷ bs) (Some u ∷ vs) t s e = (refl, drops_total j fs bs vs t s e)
  drops_total j fs bs vs t s e = absurd s

  -- a constant of no text
  abbrev pub anything : Cell Hint → Term ℕ Hint
  anything b = expansion b.hint b.type (nominal (record { number = 0; type = b.type }))

  -- and what holds no constant that may vary
  abbrev pub blank : Cell Hint → Term ℕ Hint
  blank b = spine (constant []) no_terms

  pub total_blank : (D : Ty) (sg : Signature) (bs : List (Cell Hint)) (vs : List (Option (Term ℕ Hint))) → AllTyped sg D bs vs → AllUnmoved bs (total blank bs vs)
  total_blank D sg bs vs d = go bs vs (all_unmoved sg D bs vs d)
    where
      go : (bs : List (Cell Hint)) (vs : List (Option (Term ℕ Hint))) → AllUnmoved bs vs → AllUnmoved bs (total blank bs vs)
      go [] [] e = tt
      go [] (v ∷ vs) e = absurd e
      go (b ∷ bs) [] e = absurd e
      go (b ∷ bs) (Some u ∷ vs) e = (e.0, go bs vs e.1)
      go (b ∷ bs) (None ∷ vs) e = (λ j. refl, go bs vs e.1)

module _ (sg : Signature) {Hint : Type 0} where
  pub total_typed : (D : Ty) (bs : List (Cell Hint)) (vs : List (Option (Term ℕ Hint))) → AllTyped sg prop bs vs → AllTyped sg D bs (total anything bs vs)
  total_typed D [] [] d = tt
  total_typed D [] (v ∷ vs) d = absurd d
  total_typed D (b ∷ bs) [] d = absurd d
  total_typed D (b ∷ bs) (Some u ∷ vs) d = (d.0, total_typed D bs vs d.1)
  total_typed D (b ∷ bs) (None ∷ vs) d = (expansion_typed sg b.hint b.type [] (nominal (record { number = 0; type = b.type })) refl, total_typed D bs vs d.1)

  -- the terms of a guess, in order
  abbrev pub guessed : (fs : List Bool) (bs : List (Cell Hint)) (vs : List (Option (Term ℕ Hint))) → IsGuess sg fs bs vs → List (Term ℕ Hint)
  guessed [] [] [] g = []
  guessed (true ∷ fs) (b ∷ bs) (None ∷ vs) g = guessed fs bs vs g
  guessed (false ∷ fs) (b ∷ bs) (Some u ∷ vs) g = u ∷ guessed fs bs vs g.1
  guessed fs bs vs g = absurd g

  pub guessed_for : (x : Hint) (fs : List Bool) (bs : List (Cell Hint)) (vs : List (Option (Term ℕ Hint))) (g : IsGuess sg fs bs vs) → OfCells sg x (left_open fs bs) (guessed fs bs vs g)
  guessed_for x [] [] [] g = tt
  guessed_for x (true ∷ fs) (b ∷ bs) (None ∷ vs) g = guessed_for x fs bs vs g
  guessed_for x (false ∷ fs) (b ∷ bs) (Some u ∷ vs) g = (g.0, guessed_for x fs bs vs g.1)
  guessed_for x fs bs vs g = absurd g

  pub guess_shape : (fs : List Bool) (bs : List (Cell Hint)) (vs : List (Option (Term ℕ Hint))) → IsGuess sg fs bs vs → Shape fs bs vs
  guess_shape [] [] [] g = tt
  guess_shape (true ∷ fs) (b ∷ bs) (None ∷ vs) g = guess_shape fs bs vs g
  guess_shape (false ∷ fs) (b ∷ bs) (Some u ∷ vs) g = guess_shape fs bs vs g.1
  guess_shape fs bs vs g = absurd g

  pub guess_typed : (fs : List Bool) (bs : List (Cell Hint)) (vs : List (Option (Term ℕ Hint))) → IsGuess sg fs bs vs → AllTyped sg prop bs vs
  guess_typed [] [] [] g = tt
  guess_typed (true ∷ fs) (b ∷ bs) (None ∷ vs) g = (refl, guess_typed fs bs vs g)
  guess_typed (false ∷ fs) (b ∷ bs) (Some u ∷ vs) g = (g.0, guess_typed fs bs vs g.1)
  guess_typed fs bs vs g = absurd g

  -- terms for the open binders are a guess
  pub spread_guess : (x : Hint) (fs : List Bool) (bs : List (Cell Hint)) (vs : List (Option (Term ℕ Hint))) (ms : List (Term ℕ Hint)) → Shape fs bs vs → OfCells sg x (left_open fs bs) ms → IsGuess sg fs bs (spread fs ms)
  spread_guess x [] [] [] ms s e = tt
  spread_guess x (true ∷ fs) (b ∷ bs) (None ∷ vs) ms s e = spread_guess x fs bs vs ms s e
  spread_guess x (false ∷ fs) (b ∷ bs) (Some u ∷ vs) [] s e = absurd e
  spread_guess x (false ∷ fs) (b ∷ bs) (Some u ∷ vs) (m ∷ ms) s e = (e.0, spread_guess x fs bs vs ms s e.1)
  spread_guess x fs bs vs ms s e = absurd s

  module _ (u : Substitution ℕ Hint) (u_typed : IsTyped sg u) where
    abbrev pub MetBy : List (Option (Term ℕ Hint)) → List (Option (Term ℕ Hint)) → Type 0
    MetBy = Met sg (bare u) (bare_typed sg u u_typed)

    pub spread_met : (fs : List Bool) (bs : List (Cell Hint)) (vs : List (Option (Term ℕ Hint))) (g : IsGuess sg fs bs vs) (ms : List (Term ℕ Hint)) → Each (λ m w. image_by (bare u) (forget m) ≡ forget w) ms (guessed fs bs vs g) → MetBy (spread fs ms) vs
    spread_met [] [] [] g ms e = tt
    spread_met (true ∷ fs) (b ∷ bs) (None ∷ vs) g ms e = (tt, spread_met fs bs vs g ms e)
    spread_met (false ∷ fs) (b ∷ bs) (Some w ∷ vs) g [] e = absurd e
    spread_met (false ∷ fs) (b ∷ bs) (Some w ∷ vs) g (m ∷ ms) e = (e.0, spread_met fs bs vs g.1 ms e.1)
    spread_met fs bs vs g ms e = absurd g

    pub total_met : (bs : List (Cell Hint)) (vs ws : List (Option (Term ℕ Hint))) → MetBy vs ws → MetBy (total anything bs vs) (total anything bs ws)
    total_met [] vs ws e = tt
    total_met (b ∷ bs) [] [] e = tt
    total_met (b ∷ bs) [] (w ∷ ws) e = absurd e
    total_met (b ∷ bs) (v ∷ vs) [] e = absurd e
    total_met (b ∷ bs) (Some v ∷ vs) (Some w ∷ ws) e = (e.0, total_met bs vs ws e.1)
    total_met (b ∷ bs) (None ∷ vs) (None ∷ ws) e = (name_stays sg b.hint u u_typed (record { number = 0; type = b.type }), total_met bs vs ws e.1)
    total_met (b ∷ bs) (Some v ∷ vs) (None ∷ ws) e = absurd e.0
    total_met (b ∷ bs) (None ∷ vs) (Some w ∷ ws) e = absurd e.0

    -- atoms and bodies with the first terms become those with the others
    module _ (fs : List Bool) (bs : List (Cell Hint)) (vs ws : List (Option (Term ℕ Hint))) (g : IsGuess sg fs bs vs) (h : IsGuess sg fs bs ws) (met : MetBy vs ws) where
      pub atoms_met : (t t2 : Term ℕ Hint) → HasType sg (context_of bs []) t o → Free fs bs t → Free fs bs t2 → image_by (bare u) (forget t) ≡ forget t2 → forget (image same_number u (dropped_with bs vs t)) ≡ forget (dropped_with bs ws t2)
      atoms_met t t2 d e f m =
          let v_typed = total_typed o bs vs (guess_typed fs bs vs g) in
          let w_typed = total_typed o bs ws (guess_typed fs bs ws h) in
          ap (λ z. forget (image same_number u z)) (drops bs vs (total anything bs vs) t (drops_total anything fs bs vs t (guess_shape fs bs vs g) e) (all_unmoved sg o bs (total anything bs vs) v_typed))
          ∙ forget-image u (closed_with bs (total anything bs vs) t)
          ∙ met-closed sg (bare u) (bare_typed sg u u_typed) o [] bs (total anything bs vs) (total anything bs ws) t t2 v_typed (total_met bs vs ws met) d m
          ∙ ap forget (sym (drops bs ws (total anything bs ws) t2 (drops_total anything fs bs ws t2 (guess_shape fs bs ws h) f) (all_unmoved sg o bs (total anything bs ws) w_typed)))

      pub bodies_met : (t : Term ℕ Hint) → HasType sg (context_of bs []) t prop → forget (image same_number u (closed_with bs vs t)) ≡ forget (closed_with bs ws (image same_number u t))
      bodies_met t d =
          forget-image u (closed_with bs vs t)
          ∙ met-closed sg (bare u) (bare_typed sg u u_typed) prop [] bs vs ws t (image same_number u t) (guess_typed fs bs vs g) met d (sym (forget-image u t))
