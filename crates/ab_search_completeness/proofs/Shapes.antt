-- WHAT A GUESS MAKES OF A CLAUSE: of its atom and its body, with new terms for its names, what another clause has with the terms that these become.
use Rattle.std.proofs.Common.{◌≡◌, ℕ, zero, suc, List, [], ◌∷◌, map, length, Bool, true, false, codes, Option, Some, None, refl, sym, ◌∙◌, ap, subst}
use Rattle.std.specs.Prelude.{All}
use Rattle.ab_term.specs.Types.{prop, o, olist, arrows}
use Rattle.ab_term.specs.Terms.{Variable, Head, nominal, no_terms, Read}
use Rattle.ab_term.specs.Typing.{Signature, HasType}
use Rattle.ab_term.specs.Reach.{raise}
use Rattle.ab_term.specs.Substitution.{shift, substitute}
use Rattle.ab_term.specs.Translation.{forget}
use Rattle.ab_term.specs.Variables.{image_by}
use Rattle.ab_term.proofs.ClosedMaps.{IsClosedMap}
use Rattle.ab_term.proofs.Images.{IsTypedMap}
use Rattle.ab_term.proofs.OwnExpansion.{image_by-expansion_of}
use Rattle.ab_term.proofs.Translations.{translate-substitute, translate-expansion}
use Rattle.ab_unifiers.specs.Replacements.{Cell, holds}
use Rattle.ab_unifiers.specs.Clauses.{Each}
use Rattle.ab_unifiers.proofs.Following.{Put}
use Rattle.ab_unifiers.proofs.Lifting.{OfCells}
use Rattle.ab_coverage.proofs.IndexedGoals.{for_some, lower}
use Rattle.ab_coverage.proofs.IndexedSpecClauses.{SpecClause, closed_in, left_open, spread, atom_with, body_with, context_of}
use Rattle.ab_coverage.proofs.IndexedInstances.{IsGuess}
use Rattle.ab_coverage.proofs.Conjoined.{asked, asked-forget, asked_typed}
use Rattle.ab_coverage.proofs.Filling.{closed_with, dropped_with, Drops, drops, all_unmoved, Met, met-closed}
use Rattle.ab_coverage.proofs.Clausal.{Shape, Free, closed_free, total, drops_total, anything, total_typed, guessed, guess_shape, guess_typed, spread_guess}
use Rattle.ab_coverage.proofs.Lowered.{lowered}
use Rattle.ab_coverage.proofs.Parts.{raise_typed, raise-closed, IsPart}
use Rattle.ab_search_completeness.specs.Firm.{opens_firmly}
use Rattle.ab_search_completeness.proofs.Names.{Fewer}
use Rattle.ab_search_completeness.proofs.Steady.{asked_under}

-- cells of the same types
abbrev pub SameTypes : List (Cell (List ℕ)) → List (Cell (List ℕ)) → Type 0
SameTypes bs cs = map (λ b. b.type) bs ≡ map (λ c. c.type) cs

pub lengths_same : (bs cs : List (Cell (List ℕ))) → SameTypes bs cs → length bs ≡ length cs
lengths_same [] [] e = refl
lengths_same [] (c ∷ cs) e = absurd (cc)
lengths_same (b ∷ bs) [] e = absurd (cc)
lengths_same (b ∷ bs) (c ∷ cs) e = let rest : SameTypes bs cs = cc in ap suc (lengths_same bs cs rest)

pub guess_over : (sg : Signature) (fs : List Bool) (bs cs : List (Cell (List ℕ))) (vs : List (Option Read)) → SameTypes bs cs → IsGuess sg fs bs vs → IsGuess sg fs cs vs
guess_over sg [] [] [] [] e g = tt
guess_over sg (true ∷ fs) (b ∷ bs) (c ∷ cs) (None ∷ vs) e g = let rest : SameTypes bs cs = cc in guess_over sg fs bs cs vs rest g
guess_over sg (false ∷ fs) (b ∷ bs) (c ∷ cs) (Some u ∷ vs) e g =
    let first : b.type ≡ c.type = cc in
    let rest : SameTypes bs cs = cc in
    (subst (HasType sg [] u) first g.0, guess_over sg fs bs cs vs rest g.1)
guess_over sg fs (b ∷ bs) [] vs e g = absurd (cc)
guess_over sg fs [] (c ∷ cs) vs e g = absurd (cc)
guess_over sg fs bs cs vs e g = absurd g

free_over : (fs : List Bool) (bs cs : List (Cell (List ℕ))) (t : Read) → SameTypes bs cs → Free fs bs t → Free fs cs t
free_over [] [] [] t e g = tt
free_over (true ∷ fs) (b ∷ bs) (c ∷ cs) t e g =
    let rest : SameTypes bs cs = cc in
    ((g.0.0, g.0.1 ∙ ap (λ n. shift n g.0.0) (lengths_same bs cs rest)), free_over fs bs cs t rest g.1)
free_over (false ∷ fs) (b ∷ bs) (c ∷ cs) t e g = let rest : SameTypes bs cs = cc in free_over fs bs cs t rest g
free_over fs (b ∷ bs) [] t e g = absurd (cc)
free_over fs [] (c ∷ cs) t e g = absurd (cc)
free_over fs bs cs t e g = absurd g

-- past the hints of names, what is closed is the same
pub closed_hints : (bs cs : List (Cell (List ℕ))) (vs : List (Option Read)) (t : Read) → SameTypes bs cs → forget (closed_with bs vs t) ≡ forget (closed_with cs vs t)
closed_hints [] [] vs t e = refl
closed_hints [] (c ∷ cs) vs t e = absurd (cc)
closed_hints (b ∷ bs) [] vs t e = absurd (cc)
closed_hints (b ∷ bs) (c ∷ cs) [] t e = refl
closed_hints (b ∷ bs) (c ∷ cs) (None ∷ vs) t e =
    let first : b.type ≡ c.type = cc in
    let rest : SameTypes bs cs = cc in
    ap (λ A. for_some A tt (forget (closed_with bs vs t))) first ∙ ap (for_some c.type tt) (closed_hints bs cs vs t rest)
closed_hints (b ∷ bs) (c ∷ cs) (Some u ∷ vs) t e =
    let first : b.type ≡ c.type = cc in
    let rest : SameTypes bs cs = cc in
    translate-substitute (λ v. v) (λ h. tt) b.type u zero (closed_with bs vs t)
    ∙ ap (λ A. substitute A (forget u) zero (forget (closed_with bs vs t))) first
    ∙ ap (substitute c.type (forget u) zero) (closed_hints bs cs vs t rest)
    ∙ sym (translate-substitute (λ v. v) (λ h. tt) c.type u zero (closed_with cs vs t))

dropped_hints : (bs cs : List (Cell (List ℕ))) (vs : List (Option Read)) (t : Read) → SameTypes bs cs → dropped_with bs vs t ≡ dropped_with cs vs t
dropped_hints [] [] vs t e = refl
dropped_hints [] (c ∷ cs) vs t e = absurd (cc)
dropped_hints (b ∷ bs) [] vs t e = absurd (cc)
dropped_hints (b ∷ bs) (c ∷ cs) [] t e = refl
dropped_hints (b ∷ bs) (c ∷ cs) (None ∷ vs) t e = let rest : SameTypes bs cs = cc in ap (lower zero) (dropped_hints bs cs vs t rest)
dropped_hints (b ∷ bs) (c ∷ cs) (Some u ∷ vs) t e =
    let first : b.type ≡ c.type = cc in
    let rest : SameTypes bs cs = cc in
    ap (λ A. substitute A u zero (dropped_with bs vs t)) first ∙ ap (substitute c.type u zero) (dropped_hints bs cs vs t rest)

-- the terms for those names that aren't closed by the first
abbrev pub masked : List Bool → List (Option Read) → List (Option Read)
masked (true ∷ fs) (v ∷ vs) = None ∷ masked fs vs
masked (false ∷ fs) (v ∷ vs) = v ∷ masked fs vs
masked _ _ = []

-- the names of the two have the same types, and of them the second closes no other than the first
pub record AreAlike (c d : SpecClause (List ℕ)) : Type 0 where
  pub types : SameTypes d.binders c.binders
  pub closes : Fewer (closed_in d) (closed_in c) c.binders d.goals d.atom

pub masked_guess : (sg : Signature) (xs ys : List Bool) (es bs : List (Cell (List ℕ))) (Gs : List Read) (A : Read) (vs : List (Option Read)) → SameTypes es bs → Fewer xs ys bs Gs A → IsGuess sg xs es vs → IsGuess sg ys bs (masked ys vs)
masked_guess sg [] [] [] [] Gs A [] t w g = tt
masked_guess sg [] [] [] [] Gs A (v ∷ vs) t w g = absurd g
masked_guess sg (true ∷ xs) (true ∷ ys) (e ∷ es) (b ∷ bs) Gs A (None ∷ vs) t w g = let rest : SameTypes es bs = cc in masked_guess sg xs ys es bs Gs A vs rest w.1 g
masked_guess sg (true ∷ xs) (true ∷ ys) (e ∷ es) (b ∷ bs) Gs A (Some u ∷ vs) t w g = absurd g
masked_guess sg (true ∷ xs) (true ∷ ys) (e ∷ es) (b ∷ bs) Gs A [] t w g = absurd g
masked_guess sg (false ∷ xs) (false ∷ ys) (e ∷ es) (b ∷ bs) Gs A (Some u ∷ vs) t w g =
    let first : e.type ≡ b.type = cc in
    let rest : SameTypes es bs = cc in
    (subst (HasType sg [] u) first g.0, masked_guess sg xs ys es bs Gs A vs rest w.1 g.1)
masked_guess sg (false ∷ xs) (false ∷ ys) (e ∷ es) (b ∷ bs) Gs A (None ∷ vs) t w g = absurd g
masked_guess sg (false ∷ xs) (false ∷ ys) (e ∷ es) (b ∷ bs) Gs A [] t w g = absurd g
masked_guess sg (false ∷ xs) (true ∷ ys) (e ∷ es) (b ∷ bs) Gs A (Some u ∷ vs) t w g = let rest : SameTypes es bs = cc in masked_guess sg xs ys es bs Gs A vs rest w.1 g.1
masked_guess sg (false ∷ xs) (true ∷ ys) (e ∷ es) (b ∷ bs) Gs A (None ∷ vs) t w g = absurd g
masked_guess sg (false ∷ xs) (true ∷ ys) (e ∷ es) (b ∷ bs) Gs A [] t w g = absurd g
masked_guess sg (true ∷ xs) (false ∷ ys) (e ∷ es) (b ∷ bs) Gs A vs t w g = absurd w.0
masked_guess sg xs ys (e ∷ es) [] Gs A vs t w g = absurd (cc)
masked_guess sg xs ys [] (b ∷ bs) Gs A vs t w g = absurd (cc)
masked_guess sg xs ys es bs Gs A vs t w g = absurd w

-- where the same are closed nothing is left out
pub masked_same : (sg : Signature) (fs : List Bool) (bs : List (Cell (List ℕ))) (vs : List (Option Read)) → IsGuess sg fs bs vs → masked fs vs ≡ vs
masked_same sg [] [] [] g = refl
masked_same sg (true ∷ fs) (b ∷ bs) (None ∷ vs) g = ap (λ l. None ∷ l) (masked_same sg fs bs vs g)
masked_same sg (false ∷ fs) (b ∷ bs) (Some u ∷ vs) g = ap (λ l. Some u ∷ l) (masked_same sg fs bs vs g.1)
masked_same sg fs bs vs g = absurd g

-- a name that the first closes stands in the second's atom no more
free_masked : (xs ys : List Bool) (bs : List (Cell (List ℕ))) (Gs : List Read) (A : Read) → Fewer xs ys bs Gs A → Free xs bs A → Free ys bs A
free_masked [] [] [] Gs A w e = tt
free_masked (true ∷ xs) (true ∷ ys) (b ∷ bs) Gs A w e = (e.0, free_masked xs ys bs Gs A w.1 e.1)
free_masked (false ∷ xs) (false ∷ ys) (b ∷ bs) Gs A w e = free_masked xs ys bs Gs A w.1 e
free_masked (false ∷ xs) (true ∷ ys) (b ∷ bs) Gs A w e = ((lower (length bs) A, lowered (length bs) A w.0.1), free_masked xs ys bs Gs A w.1 e)
free_masked (true ∷ xs) (false ∷ ys) (b ∷ bs) Gs A w e = absurd w.0
free_masked xs ys bs Gs A w e = absurd w

drops_masked : (xs ys : List Bool) (bs : List (Cell (List ℕ))) (Gs : List Read) (A : Read) (vs : List (Option Read)) → Fewer xs ys bs Gs A → Shape xs bs vs → Free ys bs A → Drops A bs (masked ys vs) (total anything bs vs)
drops_masked [] [] [] Gs A [] w g e = tt
drops_masked [] [] [] Gs A (v ∷ vs) w g e = absurd g
drops_masked (true ∷ xs) (true ∷ ys) (b ∷ bs) Gs A (None ∷ vs) w g e = (e.0, drops_masked xs ys bs Gs A vs w.1 g e.1)
drops_masked (true ∷ xs) (true ∷ ys) (b ∷ bs) Gs A (Some u ∷ vs) w g e = absurd g
drops_masked (true ∷ xs) (true ∷ ys) (b ∷ bs) Gs A [] w g e = absurd g
drops_masked (false ∷ xs) (false ∷ ys) (b ∷ bs) Gs A (Some u ∷ vs) w g e = (refl, drops_masked xs ys bs Gs A vs w.1 g e)
drops_masked (false ∷ xs) (false ∷ ys) (b ∷ bs) Gs A (None ∷ vs) w g e = absurd g
drops_masked (false ∷ xs) (false ∷ ys) (b ∷ bs) Gs A [] w g e = absurd g
drops_masked (false ∷ xs) (true ∷ ys) (b ∷ bs) Gs A (Some u ∷ vs) w g e = (e.0, drops_masked xs ys bs Gs A vs w.1 g e.1)
drops_masked (false ∷ xs) (true ∷ ys) (b ∷ bs) Gs A (None ∷ vs) w g e = absurd g
drops_masked (false ∷ xs) (true ∷ ys) (b ∷ bs) Gs A [] w g e = absurd g
drops_masked (true ∷ xs) (false ∷ ys) (b ∷ bs) Gs A vs w g e = absurd w.0
drops_masked xs ys bs Gs A vs w g e = absurd w

-- THE GUESS MAKES of the first clause the second, whose goals open the same
pub record IsMade (ys : List (Variable ℕ)) (f : Put) (c d : SpecClause (List ℕ)) : Type 0 where
  pub alike : AreAlike c d
  pub atom : image_by f (forget c.atom) ≡ forget d.atom
  pub goals : map (λ G. image_by f (forget G)) c.goals ≡ map forget d.goals
  pub opens : All (λ G. opens_firmly ys G ≡ true) c.goals

-- a guess for the names of the second is one for those of the first
abbrev pub own_guess : (sg : Signature) (c d : SpecClause (List ℕ)) → AreAlike c d → (vs : List (Option Read)) → IsGuess sg (closed_in d) d.binders vs → IsGuess sg (closed_in c) c.binders (masked (closed_in c) vs)
own_guess sg c d alike vs g = masked_guess sg (closed_in d) (closed_in c) d.binders c.binders d.goals d.atom vs alike.types alike.closes g

-- what a clause asks for, from a list
abbrev pub matrix_of : Read → SpecClause (List ℕ) → Read
matrix_of L c = asked (raise (length c.binders) zero L) c.goals

-- WHAT THE CLAUSES ASK FOR, from lists of which the guess makes one the other
pub matrix_made : (f : Put) → IsClosedMap f → (ys : List (Variable ℕ)) → ((y : Variable ℕ) → holds ys y ≡ false → f y ≡ None) → (sg : Signature) (P : Head ℕ → Type 0) (c d : SpecClause (List ℕ)) → IsPart sg P [] c → IsMade ys f c d
    → (L L2 : Read) → HasType sg [] L olist → HasType sg [] L2 olist → image_by f (forget L) ≡ forget L2 → image_by f (forget (matrix_of L c)) ≡ forget (matrix_of L2 d)
matrix_made f closed ys others sg P c d part made L L2 L_typed L2_typed lists =
    let raised = raise (length c.binders) zero L in
    let raised2 = raise (length d.binders) zero L2 in
    let lists_raised : image_by f (forget raised) ≡ forget raised2 = ap (λ t. image_by f (forget t)) (raise-closed sg olist (length c.binders) L L_typed) ∙ lists ∙ ap forget (sym (raise-closed sg olist (length d.binders) L2 L2_typed)) in
    ap (image_by f) (asked-forget raised c.goals)
    ∙ asked_under f closed ys others sg (context_of c.binders []) (forget raised) c.goals part.goals made.opens
    ∙ ap (λ K. asked K (map (λ G. image_by f (forget G)) c.goals)) lists_raised
    ∙ ap (asked (forget raised2)) made.goals
    ∙ sym (asked-forget raised2 d.goals)

module _ (sg : Signature) (f : Put) (typed : IsTypedMap sg f) where
  -- terms that become these are put in their places
  spread_met : (fs : List Bool) (bs : List (Cell (List ℕ))) (vs : List (Option Read)) (g : IsGuess sg fs bs vs) (ms : List Read) → Each (λ m w. image_by f (forget m) ≡ forget w) ms (guessed sg fs bs vs g) → Met sg f typed (spread fs ms) vs
  spread_met [] [] [] g ms e = tt
  spread_met (true ∷ fs) (b ∷ bs) (None ∷ vs) g ms e = (tt, spread_met fs bs vs g ms e)
  spread_met (false ∷ fs) (b ∷ bs) (Some w ∷ vs) g [] e = absurd e
  spread_met (false ∷ fs) (b ∷ bs) (Some w ∷ vs) g (m ∷ ms) e = (e.0, spread_met fs bs vs g.1 ms e.1)
  spread_met fs bs vs g ms e = absurd g

  anything_stays : (b : Cell (List ℕ)) → image_by f (forget (anything b)) ≡ forget (anything b)
  anything_stays b =
      let bare = translate-expansion (λ v. v) (λ h. tt) b.hint b.type (nominal (record { number = 0; type = b.type })) in
      ap (image_by f) bare ∙ image_by-expansion_of sg ℕ (Unit {0}) f typed tt b.type (nominal (record { number = 0; type = b.type })) no_terms tt ∙ sym bare

  total_met : (bs : List (Cell (List ℕ))) (vs ws : List (Option Read)) → Met sg f typed vs ws → Met sg f typed (total anything bs vs) (total anything bs ws)
  total_met [] vs ws e = tt
  total_met (b ∷ bs) [] [] e = tt
  total_met (b ∷ bs) [] (w ∷ ws) e = absurd e
  total_met (b ∷ bs) (v ∷ vs) [] e = absurd e
  total_met (b ∷ bs) (Some v ∷ vs) (Some w ∷ ws) e = (e.0, total_met bs vs ws e.1)
  total_met (b ∷ bs) (None ∷ vs) (None ∷ ws) e = (anything_stays b, total_met bs vs ws e.1)
  total_met (b ∷ bs) (Some v ∷ vs) (None ∷ ws) e = absurd e.0
  total_met (b ∷ bs) (None ∷ vs) (Some w ∷ ws) e = absurd e.0

  -- the first clause with terms for its names that become those of the second's
  module _ (P : Head ℕ → Type 0) (c d : SpecClause (List ℕ)) (part : IsPart sg P [] c) (alike : AreAlike c d) (vs : List (Option Read)) (g : IsGuess sg (closed_in d) d.binders vs)
      (ms : List Read) (ms_are : OfCells sg (codes "x") (left_open (closed_in c) c.binders) ms) (ms_met : Each (λ m w. image_by f (forget m) ≡ forget w) ms (guessed sg (closed_in c) c.binders (masked (closed_in c) vs) (own_guess sg c d alike vs g))) where
    abbrev fs : List Bool
    fs = closed_in c

    abbrev bs : List (Cell (List ℕ))
    bs = c.binders

    abbrev new : List (Option Read)
    new = spread fs ms

    abbrev ws : List (Option Read)
    ws = masked fs vs

    abbrev here : IsGuess sg fs bs ws
    here = own_guess sg c d alike vs g

    -- the whole guess, for the first's names
    there : IsGuess sg (closed_in d) bs vs
    there = guess_over sg (closed_in d) d.binders bs vs alike.types g

    new_guess : IsGuess sg fs bs new
    new_guess = spread_guess sg (codes "x") fs bs ws ms (guess_shape sg fs bs ws here) ms_are

    met : Met sg f typed new ws
    met = spread_met fs bs ws here ms ms_met

    -- THE ATOM
    pub atom_made : image_by f (forget c.atom) ≡ forget d.atom → image_by f (forget (atom_with c new)) ≡ forget (atom_with d vs)
    atom_made atoms =
        let v_typed = total_typed sg o bs new (guess_typed sg fs bs new new_guess) in
        let w_typed = total_typed sg o bs ws (guess_typed sg fs bs ws here) in
        let all_typed = total_typed sg o bs vs (guess_typed sg (closed_in d) bs vs there) in
        let second : Free (closed_in d) bs d.atom = free_over (closed_in d) d.binders bs d.atom alike.types (closed_free d.binders d.goals d.atom) in
        let free : Free fs bs d.atom = free_masked (closed_in d) fs bs d.goals d.atom alike.closes second in
        ap (λ z. image_by f (forget z)) (drops bs new (total anything bs new) c.atom (drops_total anything fs bs new c.atom (guess_shape sg fs bs new new_guess) (closed_free bs c.goals c.atom)) (all_unmoved sg o bs (total anything bs new) v_typed))
        ∙ met-closed sg f typed o [] bs (total anything bs new) (total anything bs ws) c.atom d.atom v_typed (total_met bs new ws met) part.atom atoms
        ∙ ap forget (sym (drops bs ws (total anything bs ws) d.atom (drops_total anything fs bs ws d.atom (guess_shape sg fs bs ws here) free) (all_unmoved sg o bs (total anything bs ws) w_typed)))
        ∙ ap forget (drops bs ws (total anything bs vs) d.atom (drops_masked (closed_in d) fs bs d.goals d.atom vs alike.closes (guess_shape sg (closed_in d) bs vs there) free) (all_unmoved sg o bs (total anything bs vs) all_typed))
        ∙ ap forget (sym (drops bs vs (total anything bs vs) d.atom (drops_total anything (closed_in d) bs vs d.atom (guess_shape sg (closed_in d) bs vs there) second) (all_unmoved sg o bs (total anything bs vs) all_typed)))
        ∙ ap forget (sym (dropped_hints d.binders bs vs d.atom alike.types))

    -- THE BODY, of which more names are closed
    pub body_made : sg (codes "::") ≡ Some (arrows (o ∷ olist ∷ []) olist) → (L L2 : Read) → HasType sg [] L olist → image_by f (forget (matrix_of L c)) ≡ forget (matrix_of L2 d) → image_by f (forget (body_with L c new)) ≡ forget (closed_with bs ws (matrix_of L2 d))
    body_made cons L L2 L_typed matrices =
        met-closed sg f typed prop [] bs new ws (matrix_of L c) (matrix_of L2 d) (guess_typed sg fs bs new new_guess) met (asked_typed sg cons (raise (length bs) zero L) (raise_typed sg olist bs [] L L_typed) c.goals part.goals) matrices
