-- THE WAYS BY A QUANTIFIER, against guesses.
use Rattle.std.proofs.Common.{◌≡◌, ℕ, List, [], ◌∷◌, ◌++◌, length, codes, true, false, cond, refl, sym, ◌∙◌, ap, subst, arith}
use Rattle.std.specs.Prelude.{Contains, All}
use Rattle.std.proofs.lemmas.Bool.{false_from_ne_true}
use Rattle.std.proofs.lemmas.List.Elements.{All-nil, All-cons}
use Rattle.ab_term.specs.Types.{Ty}
use Rattle.ab_term.specs.Terms.{nominal, Read}
use Rattle.ab_term.specs.Typing.{HasType}
use Rattle.ab_term.specs.Names.{support}
use Rattle.ab_term.specs.Substitution.{instance}
use Rattle.ab_term.specs.Abstraction.{over}
use Rattle.ab_term.specs.Translation.{forget}
use Rattle.ab_term.specs.Variables.{variables, value_in}
use Rattle.ab_term.specs.Sameness.{same_number}
use Rattle.ab_term.proofs.Depends.{image_agrees}
use Rattle.ab_term.proofs.Expansions.{expansion_typed}
use Rattle.ab_term.proofs.Hinted.{given_typed}
use Rattle.ab_term.proofs.Lists.{Contains-here}
use Rattle.ab_term.proofs.PastHints.{variables-forget}
use Rattle.ab_term.proofs.Translations.{support-translate}
use Rattle.ab_unifiers.specs.Clauses.{Each, name_term}
use Rattle.ab_unifiers.specs.Choices.{in_order, placed, new_constant}
use Rattle.ab_unifiers.specs.Replacements.{Cell, holds}
use Rattle.ab_unifiers.proofs.Constants as names
use Rattle.ab_unifiers.proofs.Following.{Put}
use Rattle.ab_unifiers.proofs.Lifting.{OfCells}
use Rattle.ab_unifiers.proofs.Ruling.{image_none}
use Rattle.ab_formulas.specs.Declarations.{Declarations, signature_in}
use Rattle.ab_formulas.specs.Forms.{Form, for_all, exists, nabla, form_of}
use Rattle.ab_search_trees.specs.Goals.{Goal, Now, asking}
use Rattle.ab_search_trees.specs.Ways.{Way, leading_to, hint_of, new_cell, new_variable, new_term}
use Rattle.ab_search_trees.specs.Guesses.{HoldsOf, IsNewFor, HasNone, a_variable}
use Rattle.ab_search_trees.proofs.Lifts.{known_cell}
use Rattle.ab_search_trees.proofs.Forms.{Makes, FormMade}
use Rattle.ab_search_trees.proofs.Facts.{Facts, AllParts, IsTask, FormFacts}
use Rattle.ab_search_trees.proofs.Against.{IsState, MakesEach, IsGuess}
use Rattle.ab_search_trees.proofs.ByForm.{makes_instance, makes_name, none_serve, made, known}
use Rattle.ab_search_trees.proofs.Growing.{makes_grown, each_grown}
use Rattle.ab_search_trees.proofs.Quantifiers.{given_variables}
use Rattle.ab_search_completeness.proofs.Going.{Goes}
use Rattle.ab_search_completeness.proofs.Connectives.{in_form}
use Rattle.ab_search_completeness.proofs.New.{zs, with_new, fits_new, same_before, grown_new, met_new}

module _ (D : Declarations) (now : Now) (f : Put) (s : IsState (signature_in D) now f) (g h : Goal) (t : IsTask (signature_in D) now g) (a : IsGuess f g h) where
  abbrev Told : Form → List Goal → Type 0
  Told e ks = (k : Form) → form_of g.conclusion ≡ k → FormMade f k e → FormFacts (signature_in D) now g.constants g.untouched k → Goes D now f g ks

  by_its_form : (e : Form) (ks : List Goal) → form_of h.conclusion ≡ e → Told e ks → Goes D now f g ks
  by_its_form e ks p told = told (form_of g.conclusion) refl (made D now f s g h t a e p) (known D now f s g h t a)

  -- a constant is taken
  pub goes_constant : (A : Ty) (F : Read) → form_of h.conclusion ≡ nabla A F
      → Goes D now f g (record (asking (instance F (name_term (codes "x") (new_constant h.constants A))) h) { constants = placed (new_constant h.constants A) h.constants } ∷ [])
  goes_constant A F e = by_its_form (nabla A F) (record (asking (instance F (name_term (codes "x") (new_constant h.constants A))) h) { constants = placed (new_constant h.constants A) h.constants } ∷ []) e go
    where
      go : Told (nabla A F) (record (asking (instance F (name_term (codes "x") (new_constant h.constants A))) h) { constants = placed (new_constant h.constants A) h.constants } ∷ [])
      go (nabla B E) o m facts =
          let n = new_constant g.constants B in
          let p = new_constant h.constants A in
          let same : n ≡ p = ap (new_constant g.constants) m.0 ∙ sym (ap (λ k. new_constant k A) a.constants) in
          let next = record (asking (instance E (name_term (codes "x") n)) g) { constants = placed n g.constants } in
          let w = record (leading_to D now g (next ∷ [])) { taken = n ∷ [] } in
          let typed : HasType (signature_in D) [] (name_term (codes "x") n) B = expansion_typed (signature_in D) (codes "x") B [] (nominal n) refl in
          record {
            way = w;
            there = in_form D now g (nabla B E) o w (Contains-here w []);
            put = f;
            fits = s.fits;
            same = λ y l. refl;
            alike = tt;
            serve = none_serve D;
            goals = (
              record {
                conclusion = makes_instance (signature_in D) f s.fits.typed E (name_term (codes "x") n) F (name_term (codes "x") p) facts.typed typed m.1 (makes_name (signature_in D) f s.fits.typed n ∙ ap (λ b. forget (name_term {Hint = List ℕ} (codes "x") b)) same);
                hypotheses = a.hypotheses;
                depth = a.depth;
                constants = ap (λ b. placed b h.constants) (sym same) ∙ ap (placed n) a.constants;
                untouched = a.untouched;
                layers = a.layers;
              },
              tt,
            );
          }
      go _ o m facts = absurd m

  -- a term is guessed
  pub goes_term : (A : Ty) (F u : Read) → form_of h.conclusion ≡ exists A F → HasType (signature_in D) [] u A → HoldsOf h.constants u → Goes D now f g (record (asking (instance F u) h) { untouched = false } ∷ [])
  goes_term A F u e typed of = by_its_form (exists A F) (record (asking (instance F u) h) { untouched = false } ∷ []) e go
    where
      go : Told (exists A F) (record (asking (instance F u) h) { untouched = false } ∷ [])
      go (exists B E) o m facts =
          let sg = signature_in D in
          let ns = g.constants in
          let n = length now.cells in
          let cs : List (Cell (List ℕ)) = record { hint = hint_of E; type = B } ∷ [] in
          let us = u ∷ [] in
          let are : OfCells sg (codes "x") cs us = (subst (HasType sg [] u) (sym m.0) typed, tt) in
          let has : Each (λ k v. names.Has (Contains ns) v) cs us = (names.support_has (Contains ns) u (λ b k. subst (λ l. Contains l b) a.constants (of b k)), tt) in
          let k = with_new sg now f s n (omega arith) ns cs us are has in
          let fits = fits_new sg now f s n (omega arith) ns cs us are has in
          let new = new_term D now g B ns in
          let next = record (asking (instance E new) g) { untouched = false; member_first = g.member_first } in
          let w : Way = record {
            cells = now.cells ++ new_cell D now g E B ns ∷ [];
            flexible = now.flexible ++ new_variable D now g B ns ∷ [];
            equations = [];
            serving = [];
            taken = [];
            goals = next ∷ [];
          } in
          let m1 : Now = record now { cells = now.cells ++ []; flexible = now.flexible ++ zs sg now f s n (omega arith) ns cs us are has } in
          let grown = grown_new sg now f s n (omega arith) ns cs us are has [] in
          let new_typed : HasType sg [] new B = given_typed sg (codes "x") [] (new_variable D now g B ns) ns B refl in
          record {
            way = w;
            there = in_form D now g (exists B E) o w (Contains-here w []);
            put = k;
            fits = fits;
            same = same_before sg now f s n (omega arith) ns cs us are has;
            alike = tt;
            serve = none_serve D;
            goals = (
              record {
                conclusion = makes_instance sg k fits.typed E new F u facts.typed new_typed (makes_grown sg now m1 f k grown E F facts.facts m.1) (met_new sg now f s n (omega arith) ns cs us are has).0;
                hypotheses = each_grown sg now m1 f k grown ns g.untouched g.hypotheses h.hypotheses t.hypotheses a.hypotheses;
                depth = a.depth;
                constants = a.constants;
                untouched = refl;
                layers = a.layers;
              },
              tt,
            );
          }
      go _ o m facts = absurd m

  -- THE GUESS CHANGES NOTHING where nothing was unfolded and no `exists` opened: such a term holds no variable of the guess
  untouched_same : (u v : Read) → Facts now g.constants true u → Makes f u v → forget u ≡ forget v
  untouched_same u v p m =
      sym (image_agrees f (value_in same_number []) (forget u) (λ y c. s.fits.none y (p.fixed refl y (subst (λ l. Contains l y) (variables-forget u) c))) ∙ image_none (forget u)) ∙ m

  new_for : (u v : Read) → Facts now g.constants true u → Makes f u v → HasNone (length now.cells) v
  new_for u v p m y c e =
      let there : Contains (variables u) y = subst (λ l. Contains l y) (sym (variables-forget v) ∙ ap variables (sym (untouched_same u v p m)) ∙ variables-forget u) c in
      let low = known_cell now.cells y.name y.type (p.over y there) in
      absurd (omega (arith, e, low))

  all_new : (us vs : List Read) → AllParts (signature_in D) now g.constants true us → MakesEach f us vs → All (HasNone (length now.cells)) vs
  all_new [] [] p m = All-nil (HasNone (length now.cells))
  all_new [] (v ∷ vs) p m = absurd m
  all_new (u ∷ us) [] p m = absurd m
  all_new (u ∷ us) (v ∷ vs) p m = All-cons (HasNone (length now.cells)) v vs (new_for u v (p.0).facts m.0) (all_new us vs p.1 m.1)

  module _ (clean : h.untouched ≡ true) where
    free : g.untouched ≡ true
    free = sym a.untouched ∙ clean

    facts_free : Facts now g.constants true g.conclusion
    facts_free = subst (λ b. Facts now g.constants b g.conclusion) free t.conclusion.facts

    -- the number of the next variable is new for the second goal
    pub next_is_new : IsNewFor (length now.cells) h
    next_is_new = (new_for g.conclusion h.conclusion facts_free a.conclusion, all_new g.hypotheses h.hypotheses (subst (λ b. AllParts (signature_in D) now g.constants b g.hypotheses) free t.hypotheses) a.hypotheses)

    -- a variable that may not be replaced
    pub goes_variable : (A : Ty) (F : Read) → form_of h.conclusion ≡ for_all A F → Goes D now f g (asking (instance F (a_variable (length now.cells) (in_order (support h.conclusion)) A)) h ∷ [])
    goes_variable A F e = by_its_form (for_all A F) (asking (instance F (a_variable (length now.cells) (in_order (support h.conclusion)) A)) h ∷ []) e go
      where
        names_same : support g.conclusion ≡ support h.conclusion
        names_same = sym (support-translate (λ v. v) (λ y. tt) g.conclusion) ∙ ap support (untouched_same g.conclusion h.conclusion facts_free a.conclusion) ∙ support-translate (λ v. v) (λ y. tt) h.conclusion

        go : Told (for_all A F) (asking (instance F (a_variable (length now.cells) (in_order (support h.conclusion)) A)) h ∷ [])
        go (for_all B E) o m facts =
            let ns = in_order (support g.conclusion) in
            let x = new_variable D now g B ns in
            let u = new_term D now g B ns in
            let v = a_variable (length now.cells) (in_order (support h.conclusion)) A in
            let same : u ≡ v = ap (λ k. a_variable (length now.cells) k B) (ap in_order names_same) ∙ ap (a_variable (length now.cells) (in_order (support h.conclusion))) m.0 in
            let next = asking (instance E u) g in
            let w : Way = record {
              cells = now.cells ++ new_cell D now g E B ns ∷ [];
              flexible = now.flexible;
              equations = [];
              serving = [];
              taken = [];
              goals = next ∷ [];
            } in
            let gone : holds now.flexible x ≡ false = false_from_ne_true (holds now.flexible x) (λ k. let low = known_cell now.cells x.name x.type (s.cells x k) in absurd (omega (arith, low))) in
            let typed : HasType (signature_in D) [] u B = given_typed (signature_in D) (codes "x") [] x ns B refl in
            let stays : Makes f u u =
            image_agrees f (value_in same_number []) (forget u) (λ y k. ap f (given_variables (codes "x") x ns B y (subst (λ l. Contains l y) (variables-forget u) k)) ∙ s.fits.none x gone) ∙ image_none (forget u) in
            record {
              way = w;
              there = in_form D now g (for_all B E) o w (subst (λ b. Contains (cond b (w ∷ []) []) w) (sym free) (Contains-here w []));
              put = f;
              fits = s.fits;
              same = λ y l. refl;
              alike = tt;
              serve = none_serve D;
              goals = (
                record {
                  conclusion = makes_instance (signature_in D) f s.fits.typed E u F v facts.typed typed m.1 (stays ∙ ap forget same);
                  hypotheses = a.hypotheses;
                  depth = a.depth;
                  constants = a.constants;
                  untouched = a.untouched;
                  layers = a.layers;
                },
                tt,
              );
            }
        go _ o m facts = absurd m
