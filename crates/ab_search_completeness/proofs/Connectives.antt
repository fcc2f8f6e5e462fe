-- THE WAYS BY `true`, an equation and a connective, against guesses.
use Rattle.std.proofs.Common.{◌≡◌, List, [], ◌∷◌, ◌++◌, Bool, true, false, cond, refl, sym, ◌∙◌, subst}
use Rattle.std.specs.Prelude.{Contains}
use Rattle.ab_unifiers.specs.Choices.{for_each}
use Rattle.std.proofs.lemmas.List.Elements.{Contains-append_left, Contains-append_right}
use Rattle.ab_term.specs.Types.{Ty}
use Rattle.ab_term.specs.Terms.{Read}
use Rattle.ab_term.specs.Translation.{EqualPastHints}
use Rattle.ab_term.proofs.Lists.{Contains-here, Contains-there}
use Rattle.ab_unifiers.proofs.Following.{Put}
use Rattle.ab_formulas.specs.Declarations.{Declarations, signature_in}
use Rattle.ab_formulas.specs.Forms.{Form, truth, both, either, implies, equal, form_of}
use Rattle.ab_theory.specs.Atoms.{defined_atom}
use Rattle.ab_theory.specs.Judgements.{as_judgement}
use Rattle.ab_search_trees.specs.Goals.{Goal, Now, asking, assuming}
use Rattle.ab_search_trees.specs.Judgements.{is_blind}
use Rattle.ab_search_trees.specs.Ways.{Way, leading_to, equating, by_truth, by_hypothesis, by_form, by_definition, by_judgement, in_turn, ways}
use Rattle.ab_search_trees.proofs.Forms.{Makes, FormMade}
use Rattle.ab_search_trees.proofs.Facts.{IsTask}
use Rattle.ab_search_trees.proofs.Against.{IsState, MakesEach, IsGuess, AllGuess}
use Rattle.ab_search_trees.proofs.ByForm.{none_serve, made}
use Rattle.ab_search_completeness.proofs.Going.{Goes}

-- one more of each
each_more : (f : Put) (ts us : List Read) (t u : Read) → MakesEach f ts us → Makes f t u → MakesEach f (ts ++ t ∷ []) (us ++ u ∷ [])
each_more f [] [] t u m n = (n, tt)
each_more f [] (v ∷ us) t u m n = absurd m
each_more f (v ∷ ts) [] t u m n = absurd m
each_more f (v ∷ ts) (w ∷ us) t u m n = (m.0, each_more f ts us t u m.1 n)

-- WHERE A WAY STANDS among those of a goal
module _ (D : Declarations) (now : Now) (g : Goal) where
  abbrev front : List Way
  front = by_truth D now g (form_of g.conclusion) ++ for_each (by_hypothesis D now g) g.hypotheses

  abbrev behind : List Way
  behind = (by_form D now g (form_of g.conclusion) ++ by_definition D now g g.depth (defined_atom D g.conclusion)) ++ by_judgement D now g g.depth (as_judgement g.conclusion)

  pub in_front : (w : Way) → Contains front w → Contains (ways D now g) w
  in_front w m = Contains-append_left front (cond (is_blind now.flexible g.conclusion) [] behind) w m

  in_behind : (w : Way) → Contains behind w → is_blind now.flexible g.conclusion ≡ false → Contains (ways D now g) w
  in_behind w m e = Contains-append_right front (cond (is_blind now.flexible g.conclusion) [] behind) w (subst (λ b. Contains (cond b [] behind) w) (sym e) m)

  pub in_form : (k : Form) → form_of g.conclusion ≡ k → (w : Way) → Contains (by_form D now g k) w → is_blind now.flexible g.conclusion ≡ false → Contains (ways D now g) w
  in_form k e w m = in_behind w
      (Contains-append_left (by_form D now g (form_of g.conclusion) ++ by_definition D now g g.depth (defined_atom D g.conclusion)) (by_judgement D now g g.depth (as_judgement g.conclusion)) w
      (Contains-append_left (by_form D now g (form_of g.conclusion)) (by_definition D now g g.depth (defined_atom D g.conclusion)) w (subst (λ j. Contains (by_form D now g j) w) (sym e) m)))

  pub in_definition : (w : Way) → Contains (by_definition D now g g.depth (defined_atom D g.conclusion)) w → is_blind now.flexible g.conclusion ≡ false → Contains (ways D now g) w
  in_definition w m = in_behind w
      (Contains-append_left (by_form D now g (form_of g.conclusion) ++ by_definition D now g g.depth (defined_atom D g.conclusion)) (by_judgement D now g g.depth (as_judgement g.conclusion)) w
      (Contains-append_right (by_form D now g (form_of g.conclusion)) (by_definition D now g g.depth (defined_atom D g.conclusion)) w m))

  pub in_judgement : (w : Way) → Contains (by_judgement D now g g.depth (as_judgement g.conclusion)) w → is_blind now.flexible g.conclusion ≡ false → Contains (ways D now g) w
  in_judgement w m = in_behind w
      (Contains-append_right (by_form D now g (form_of g.conclusion) ++ by_definition D now g g.depth (defined_atom D g.conclusion)) (by_judgement D now g g.depth (as_judgement g.conclusion)) w m)

-- THE WAYS from a goal g, of which a guess makes h
module _ (D : Declarations) (now : Now) (f : Put) (s : IsState (signature_in D) now f) (g h : Goal) (t : IsTask (signature_in D) now g) (a : IsGuess f g h) where
  -- without variables or sides
  pub leads : (gs ks : List Goal) → (is_blind now.flexible g.conclusion ≡ false → Contains (ways D now g) (leading_to D now g gs)) → AllGuess f gs ks → Goes D now f g ks
  leads gs ks m k = record { way = leading_to D now g gs; there = m; put = f; fits = s.fits; same = λ y l. refl; alike = tt; serve = none_serve D; goals = k }

  -- the same goal but for its conclusion
  pub asked : (A C : Read) → Makes f A C → IsGuess f (asking A g) (asking C h)
  asked A C m = record { conclusion = m; hypotheses = a.hypotheses; depth = a.depth; constants = a.constants; untouched = a.untouched; layers = a.layers }

  abbrev Told : Form → List Goal → Type 0
  Told e ks = (k : Form) → form_of g.conclusion ≡ k → FormMade f k e → Goes D now f g ks

  by_its_form : (e : Form) (ks : List Goal) → form_of h.conclusion ≡ e → Told e ks → Goes D now f g ks
  by_its_form e ks p told = told (form_of g.conclusion) refl (made D now f s g h t a e p)

  pub goes_truth : form_of h.conclusion ≡ truth → Goes D now f g []
  goes_truth e = by_its_form truth [] e go
    where
      go : Told truth []
      go truth q m = leads [] [] (λ sight. in_front D now g (leading_to D now g [])
          (Contains-append_left (by_truth D now g (form_of g.conclusion)) (for_each (by_hypothesis D now g) g.hypotheses) (leading_to D now g []) (subst (λ j. Contains (by_truth D now g j) (leading_to D now g [])) (sym q) (Contains-here (leading_to D now g []) [])))) tt
      go _ q m = absurd m

  pub goes_equal : (A : Ty) (v w : Read) → form_of h.conclusion ≡ equal A v w → EqualPastHints v w → Goes D now f g []
  goes_equal A v w e same = by_its_form (equal A v w) [] e go
    where
      go : Told (equal A v w) []
      go (equal B p q) o m = record {
        way = equating D now g p q [];
        there = in_form D now g (equal B p q) o (equating D now g p q []) (Contains-here (equating D now g p q []) []);
        put = f;
        fits = s.fits;
        same = λ y l. refl;
        alike = (m.0 ∙ same ∙ sym m.1, tt);
        serve = none_serve D;
        goals = tt;
      }
      go _ o m = absurd m

  -- in whatever order
  pub goes_both : (A B : Read) → form_of h.conclusion ≡ both A B → Goes D now f g (in_turn g.member_first (asking A h) (asking B h))
  goes_both A B e = by_its_form (both A B) (in_turn g.member_first (asking A h) (asking B h)) e go
    where
      turned : (b : Bool) (C E : Read) → Makes f C A → Makes f E B → AllGuess f (in_turn b (asking C g) (asking E g)) (in_turn b (asking A h) (asking B h))
      turned true C E m n = (asked E B n, (asked C A m, tt))
      turned false C E m n = (asked C A m, (asked E B n, tt))

      go : Told (both A B) (in_turn g.member_first (asking A h) (asking B h))
      go (both C E) o m =
          let gs = in_turn g.member_first (asking C g) (asking E g) in
          leads gs (in_turn g.member_first (asking A h) (asking B h)) (in_form D now g (both C E) o (leading_to D now g gs) (Contains-here (leading_to D now g gs) [])) (turned g.member_first C E m.0 m.1)
      go _ o m = absurd m

  pub goes_left : (A B : Read) → form_of h.conclusion ≡ either A B → Goes D now f g (asking A h ∷ [])
  goes_left A B e = by_its_form (either A B) (asking A h ∷ []) e go
    where
      go : Told (either A B) (asking A h ∷ [])
      go (either C E) o m =
          let w = leading_to D now g (asking C g ∷ []) in
          leads (asking C g ∷ []) (asking A h ∷ []) (in_form D now g (either C E) o w (Contains-here w (leading_to D now g (asking E g ∷ []) ∷ []))) (asked C A m.0, tt)
      go _ o m = absurd m

  pub goes_right : (A B : Read) → form_of h.conclusion ≡ either A B → Goes D now f g (asking B h ∷ [])
  goes_right A B e = by_its_form (either A B) (asking B h ∷ []) e go
    where
      go : Told (either A B) (asking B h ∷ [])
      go (either C E) o m =
          let w = leading_to D now g (asking E g ∷ []) in
          leads (asking E g ∷ []) (asking B h ∷ []) (in_form D now g (either C E) o w (Contains-there (leading_to D now g (asking C g ∷ [])) (w ∷ []) w (Contains-here w []))) (asked E B m.1, tt)
      go _ o m = absurd m

  pub goes_assuming : (A B : Read) → form_of h.conclusion ≡ implies A B → Goes D now f g (asking B (assuming A h) ∷ [])
  goes_assuming A B e = by_its_form (implies A B) (asking B (assuming A h) ∷ []) e go
    where
      go : Told (implies A B) (asking B (assuming A h) ∷ [])
      go (implies C E) o m =
          let next = asking E (assuming C g) in
          let w = leading_to D now g (next ∷ []) in
          leads (next ∷ []) (asking B (assuming A h) ∷ []) (in_form D now g (implies C E) o w (Contains-here w []))
          (record { conclusion = m.1; hypotheses = each_more f g.hypotheses h.hypotheses C A a.hypotheses m.0; depth = a.depth; constants = a.constants; untouched = a.untouched; layers = a.layers }, tt)
      go _ o m = absurd m
