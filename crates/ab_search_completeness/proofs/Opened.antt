-- THE WAY BY A LAYER of a judgement, against guesses.
use Rattle.std.proofs.Common.{◌≡◌, ℕ, suc, [], ◌∷◌, false, refl, sym, ◌∙◌, subst}
use Rattle.std.specs.Prelude.{Contains, Some}
use Rattle.ab_term.specs.Terms.{Read}
use Rattle.ab_term.proofs.Lists.{Contains-here}
use Rattle.ab_unifiers.proofs.Following.{Put}
use Rattle.ab_unifiers.specs.Member.{HasMember}
use Rattle.ab_formulas.specs.Declarations.{Declarations, signature_in}
use Rattle.ab_formulas.specs.Forms.{Form, other, form_of}
use Rattle.ab_search_trees.specs.Goals.{Goal, Now, asking}
use Rattle.ab_search_trees.specs.Judgements.{opened_once, is_blind}
use Rattle.ab_search_trees.specs.Ways.{leading_to, by_layer}
use Rattle.ab_search_trees.proofs.Forms.{FormMade}
use Rattle.ab_search_trees.proofs.Facts.{IsTask}
use Rattle.ab_search_trees.proofs.Against.{IsState, IsGuess}
use Rattle.ab_search_trees.proofs.ByForm.{made}
use Rattle.ab_search_trees.proofs.Layers.{opened_lifts}
use Rattle.ab_search_completeness.proofs.Going.{Goes}
use Rattle.ab_search_completeness.proofs.Connectives.{in_form, leads}

module _ (D : Declarations) (has : HasMember (signature_in D)) (now : Now) (f : Put) (s : IsState (signature_in D) now f) (g h : Goal) (t : IsTask (signature_in D) now g) (a : IsGuess f g h) where
  at_other : (k : Form) → form_of g.conclusion ≡ k → FormMade f k other → form_of g.conclusion ≡ other
  at_other other q m = q
  at_other _ q m = absurd m

  -- where the search isn't blind
  pub goes_layer : (n : ℕ) (F : Read) → is_blind now.flexible g.conclusion ≡ false → form_of h.conclusion ≡ other → opened_once h.conclusion ≡ Some F → h.layers ≡ suc n → Goes D now f g (record (asking F h) { layers = n } ∷ [])
  goes_layer n F sight e opened deep =
      let r = opened_lifts D now f s has g.constants g.untouched g.conclusion h.conclusion F t.conclusion a.conclusion sight opened in
      let next : Goal = record (asking r.0 g) { layers = n } in
      let w = leading_to D now g (next ∷ []) in
      let layers_left : g.layers ≡ suc n = sym a.layers ∙ deep in
      let way_there : Contains (by_layer D now g g.layers (opened_once g.conclusion)) w = subst (λ k. Contains (by_layer D now g k (opened_once g.conclusion)) w) (sym layers_left) (subst (λ o. Contains (by_layer D now g (suc n) o) w) (sym r.1) (Contains-here w [])) in
      leads D now f s g h t a (next ∷ []) (record (asking F h) { layers = n } ∷ []) (in_form D now g other (at_other (form_of g.conclusion) refl (made D now f s g h t a other e)) w way_there)
      (record { conclusion = r.3; hypotheses = a.hypotheses; depth = a.depth; constants = a.constants; untouched = a.untouched; layers = refl }, tt)
