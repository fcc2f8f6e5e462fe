-- THE WAYS BY A QUANTIFIER, and by a layer of a judgement, against guesses.
use Rattle.std.proofs.Common.{◌≡◌, ◌≢◌, inl, inr, ℕ, zero, ◌<◌, List, [], ◌∷◌, ◌++◌, map, length, codes, Bool, true, false, cond, ◌||◌, Some, None, refl, sym, ◌∙◌, ap, subst, arith}
use Rattle.std.specs.Prelude.{Contains, All}
use Rattle.std.proofs.lemmas.Bool.{false≢true, false_from_ne_true}
use Rattle.std.proofs.lemmas.List.Elements.{All-nil, All-cons}
use Rattle.ab_term.specs.Types.{Ty}
use Rattle.ab_term.specs.Terms.{Nominal, Variable, nominal, variable, Term, Read}
use Rattle.ab_term.specs.Typing.{HasType}
use Rattle.ab_term.specs.Names.{support}
use Rattle.ab_term.specs.Substitution.{instance}
use Rattle.ab_term.specs.Abstraction.{Only, over, given_names, name_terms}
use Rattle.ab_term.specs.Translation.{forget}
use Rattle.ab_term.specs.Variables.{variables, value_in, image_by}
use Rattle.ab_term.specs.Sameness.{same_numbered, same_number}
use Rattle.ab_term.proofs.Lists.{Contains-here}
use Rattle.ab_term.proofs.Same.{same_numbered-Decides}
use Rattle.ab_term.proofs.Depends.{image_agrees}
use Rattle.ab_term.proofs.Hinted.{given_typed}
use Rattle.ab_term.proofs.PastHints.{variables-forget}
use Rattle.ab_term.proofs.Raising.{image-given, forget-given}
use Rattle.ab_term.proofs.Expansions.{expansion_typed}
use Rattle.ab_term.proofs.Translations.{translate_typed, support-translate}
use Rattle.ab_unifiers.specs.Replacements.{holds}
use Rattle.ab_unifiers.specs.Unifiers.{IsCell}
use Rattle.ab_unifiers.proofs.Ruling.{image_none}
use Rattle.ab_unifiers.proofs.Avoiding.{not_held}
use Rattle.ab_unifiers.proofs.Agreeing.{contains_holds, holds_front, holds_behind}
use Rattle.ab_unifiers.proofs.Keys.{only_one}
use Rattle.ab_unifiers.proofs.Cells.{cell_kept}
use Rattle.ab_unifiers.proofs.Following.{Put}
use Rattle.ab_unifiers.specs.Clauses.{name_term}
use Rattle.ab_unifiers.specs.Choices.{in_order, placed, new_constant}
use Rattle.ab_unifiers.proofs.Choosing.{contains_ordered}
use Rattle.ab_unifiers.proofs.Constants as names
use Rattle.ab_unifiers.proofs.Variables as variable_in
use Rattle.ab_formulas.specs.Declarations.{Declarations, signature_in}
use Rattle.ab_formulas.specs.Forms.{Form, for_all, exists, nabla, form_of}
use Rattle.ab_search_trees.specs.Goals.{Goal, Now, asking}
use Rattle.ab_search_trees.specs.Ways.{Way, leading_to, new_cell, new_variable, new_term}
use Rattle.ab_search_trees.specs.Guesses.{HoldsOf, IsNewFor, HasNone, a_variable}
use Rattle.ab_search_trees.proofs.Lifts.{known_cell, at_behind}
use Rattle.ab_search_trees.proofs.Forms.{Makes, FormMade}
use Rattle.ab_search_trees.proofs.Facts.{Facts, AllParts, IsTask, all_more, all_touched, facts_more, facts_touched, IsScope, instance_part, FormFacts}
use Rattle.ab_search_trees.proofs.Against.{IsState, MakesEach, IsGuess, Finds, on_way}
use Rattle.ab_search_trees.proofs.ByForm.{placed_itself, placed_others, makes_instance, makes_name, name_facts, none_serve, on_form, made, known}
use Rattle.ab_search_trees.proofs.Growing.{IsGrown, facts_grown, parts_grown, tasks_grown, makes_grown, each_grown, guesses_grown, lifted_over, lifted_over_typed, lifted_over_only}

-- a variable over constants, given them, holds that variable and these constants
pub given_variables : (x : List ℕ) (z : Variable ℕ) (ns : List Nominal) (A : Ty) (y : Variable ℕ) → Contains (variables (given_names x z ns A)) y → y ≡ z
given_variables x z ns A y m = variable_in.has_held (λ v. v ≡ z) (given_names x z ns A) (variable_in.expansion_of_has (λ v. v ≡ z) x A (variable z) (name_terms x z.type (map nominal ns)) refl (variable_in.name_terms_have (λ v. v ≡ z) x z.type ns)) y (contains_holds (variables (given_names x z ns A)) y m)

given_constants : (x : List ℕ) (z : Variable ℕ) (ns : List Nominal) (A : Ty) → HoldsOf ns (given_names x z ns A)
given_constants x z ns A = names.has_support (Contains ns) (given_names x z ns A) (names.expansion_of_has (Contains ns) x A (variable z) (name_terms x z.type (map nominal ns)) tt (names.name_terms_have (Contains ns) x z.type ns (λ a m. m)))

module _ (D : Declarations) where
  -- a constant is taken
  pub finds_constant : (h : Goal) (A : Ty) (F : Read) → form_of h.conclusion ≡ nabla A F → (hs : List Goal)
      → Finds D (record (asking (instance F (name_term (codes "x") (new_constant h.constants A))) h) { constants = placed (new_constant h.constants A) h.constants } ∷ hs) → Finds D (h ∷ hs)
  finds_constant h A F e hs c now f [] s t a ls l = absurd a
  finds_constant h A F e hs c now f (g ∷ gs) s t a ls l = go (form_of g.conclusion) refl (made D now f s g h t.0 a.0 (nabla A F) e) (known D now f s g h t.0 a.0)
    where
      go : (k : Form) → form_of g.conclusion ≡ k → FormMade f k (nabla A F) → FormFacts (signature_in D) now g.constants g.untouched k → ls ≢ []
      go (nabla B E) o m facts =
          let n = new_constant g.constants B in
          let p = new_constant h.constants A in
          let same : n ≡ p = ap (new_constant g.constants) m.0 ∙ sym (ap (λ k. new_constant k A) (a.0).constants) in
          let branch = placed n g.constants in
          let more : (b : Nominal) → Contains g.constants b → Contains branch b = placed_others n g.constants in
          let scope : IsScope (signature_in D) now branch g.untouched B E = record { typed = facts.typed; stands = facts.stands; facts = facts_more more facts.facts } in
          let next = record (asking (instance E (name_term (codes "x") n)) g) { constants = branch } in
          let w = record (leading_to D now g (next ∷ [])) { taken = n ∷ [] } in
          let typed : HasType (signature_in D) [] (name_term (codes "x") n) B = expansion_typed (signature_in D) (codes "x") B [] (nominal n) refl in
          let task : IsTask (signature_in D) now next = record {
            conclusion = instance_part (signature_in D) now branch g.untouched scope typed (name_facts now branch g.untouched n (placed_itself n g.constants));
            hypotheses = all_more (signature_in D) now g.constants branch g.untouched more g.hypotheses (t.0).hypotheses;
          } in
          let guess : IsGuess f next (record (asking (instance F (name_term (codes "x") p)) h) { constants = placed p h.constants }) = record {
            conclusion = makes_instance (signature_in D) f s.fits.typed E (name_term (codes "x") n) F (name_term (codes "x") p) facts.typed typed m.1 (makes_name (signature_in D) f s.fits.typed n ∙ ap (λ b. forget (name_term {Hint = List ℕ} (codes "x") b)) same);
            hypotheses = (a.0).hypotheses;
            depth = (a.0).depth;
            constants = ap (λ b. placed b h.constants) (sym same) ∙ ap (placed n) (a.0).constants;
            untouched = (a.0).untouched;
            layers = (a.0).layers;
          } in
          on_form D now g gs (nabla B E) o w (Contains-here w []) (on_way D now w gs (record (asking (instance F (name_term (codes "x") p)) h) { constants = placed p h.constants } ∷ hs) f s tt tt tt (none_serve D) (task, t.1) (guess, a.1) c) ls l
      go _ o m facts = absurd m

  -- a term is guessed
  module _ (now : Now) (f : Put) (s : IsState (signature_in D) now f) (hint : List ℕ) (ns : List Nominal) (B : Ty) (u : Term ℕ (Unit {0})) (typed : HasType (signature_in D) [] u B) (of : (a : Nominal) → Contains (support u) a → Contains ns a) where
    abbrev z : Variable ℕ
    z = record { name = length now.cells; type = over ns B }

    abbrev with_term : Put
    with_term y = cond (same_numbered z y) (Some (lifted_over (signature_in D) ns B u typed of)) (f y)

    abbrev mid : Now
    mid = record now { cells = now.cells ++ record { hint = hint; type = over ns B } ∷ []; flexible = now.flexible ++ z ∷ [] }

    not_z : (y : Variable ℕ) → y.name < length now.cells → same_numbered z y ≡ false
    not_z y l = false_from_ne_true (same_numbered z y) (λ e. let same : z ≡ y = (same_numbered-Decides z y).0 e in let name : length now.cells ≡ y.name = ap (λ v. v.name) same in absurd (omega (arith, name, l)))

    only_z : (y : Variable ℕ) → y.name < length now.cells → holds now.flexible y ≡ false → holds (now.flexible ++ z ∷ []) y ≡ false
    only_z y l n = false_from_ne_true (holds (now.flexible ++ z ∷ []) y) (λ e. elim (not_held now.flexible (z ∷ []) y e) [ inl a ↦ false≢true (sym n ∙ a) | inr a ↦ false≢true (sym (not_z y l) ∙ (same_numbered-Decides z y).1 (only_one z y a)) ])

    with_grown : IsGrown now mid f with_term
    with_grown = record {
      cells = (record { hint = hint; type = over ns B } ∷ [], refl);
      fixed = only_z;
      same = λ y l. ap (λ b. cond b (Some (lifted_over (signature_in D) ns B u typed of)) (f y)) (not_z y l);
    }

    with_value : (P : Variable ℕ → Term ℕ (Unit {0}) → Type 0) → P z (lifted_over (signature_in D) ns B u typed of) → (y : Variable ℕ) (v : Term ℕ (Unit {0})) → (f y ≡ Some v → P y v) → (b : Bool) → same_numbered z y ≡ b → cond b (Some (lifted_over (signature_in D) ns B u typed of)) (f y) ≡ Some v → P y v
    with_value P p y v rest true e q = let value : lifted_over (signature_in D) ns B u typed of ≡ v = cc in subst (P y) value (subst (λ k. P k (lifted_over (signature_in D) ns B u typed of)) ((same_numbered-Decides z y).0 e) p)
    with_value P p y v rest false e q = rest q

    with_state : IsState (signature_in D) mid with_term
    with_state = record {
      cells = λ y h. elim (not_held now.flexible (z ∷ []) y h) [
        | inl a ↦ cell_kept now.cells mid.cells with_grown.cells y (s.cells y a)
        | inr a ↦ subst (IsCell mid.cells) (only_one z y a) (at_behind now.cells (record { hint = hint; type = over ns B } ∷ []) zero (length now.cells) (over ns B) (omega arith) refl)
      ];
      fits = record {
        typed = λ y v e. with_value (λ k t. HasType (signature_in D) [] t k.type) (lifted_over_typed (signature_in D) ns B u typed of) y v (s.fits.typed y v) (same_numbered z y) refl e;
        has = λ y v e. with_value (λ k t. Only [] t) (lifted_over_only (signature_in D) ns B u typed of) y v (s.fits.has y v) (same_numbered z y) refl e;
        some = λ y h. some_with y h (same_numbered z y) refl;
        none = λ y h. none_with y h (same_numbered z y) refl;
      };
    }
      where
        some_with : (y : Variable ℕ) → holds (now.flexible ++ z ∷ []) y ≡ true → (b : Bool) → same_numbered z y ≡ b → (v : Term ℕ (Unit {0})) × (with_term y ≡ Some v)
        some_with y h true e = (lifted_over (signature_in D) ns B u typed of, ap (λ b. cond b (Some (lifted_over (signature_in D) ns B u typed of)) (f y)) e)
        some_with y h false e = elim (not_held now.flexible (z ∷ []) y h) [
          | inl a ↦ (let r = s.fits.some y a in (r.0, ap (λ b. cond b (Some (lifted_over (signature_in D) ns B u typed of)) (f y)) e ∙ r.1))
          | inr a ↦ absurd (false≢true (sym e ∙ (same_numbered-Decides z y).1 (only_one z y a)))
        ]

        none_with : (y : Variable ℕ) → holds (now.flexible ++ z ∷ []) y ≡ false → (b : Bool) → same_numbered z y ≡ b → with_term y ≡ None
        none_with y h true e = absurd (false≢true (sym h ∙ subst (λ k. holds (now.flexible ++ z ∷ []) k ≡ true) ((same_numbered-Decides z y).0 e) (holds_behind now.flexible (z ∷ []) z (ap (λ b. b || false) ((same_numbered-Decides z z).1 refl)))))
        none_with y h false e = ap (λ b. cond b (Some (lifted_over (signature_in D) ns B u typed of)) (f y)) e ∙ s.fits.none y (false_from_ne_true (holds now.flexible y) (λ m. false≢true (sym h ∙ holds_front now.flexible (z ∷ []) y m)))

    -- the new variable, given the constants, becomes the term
    with_made : image_by with_term (forget (given_names (codes "x") z ns B)) ≡ u
    with_made =
        ap (image_by with_term) (forget-given (codes "x") z ns B)
        ∙ image-given (signature_in D) with_term with_state.fits.typed (length now.cells) ns B u typed (ap (λ b. cond b (Some (lifted_over (signature_in D) ns B u typed of)) (f z)) ((same_numbered-Decides z z).1 refl))

  -- a new variable's term
  pub new_facts : (now : Now) (branch ns : List Nominal) (untouched : Bool) (z : Variable ℕ) (A : Ty) → IsCell now.cells z → ((a : Nominal) → Contains ns a → Contains branch a) → (untouched ≡ true → holds now.flexible z ≡ false) → Facts now branch untouched (given_names (codes "x") z ns A)
  new_facts now branch ns untouched z A cell of fixed = record {
    over = λ y m. subst (IsCell now.cells) (sym (given_variables (codes "x") z ns A y m)) cell;
    constants = λ a m. of a (given_constants (codes "x") z ns A a m);
    fixed = λ e y m. subst (λ k. holds now.flexible k ≡ false) (sym (given_variables (codes "x") z ns A y m)) (fixed e);
  }

  pub finds_term : (h : Goal) (A : Ty) (F u : Read) → form_of h.conclusion ≡ exists A F → HasType (signature_in D) [] u A → HoldsOf h.constants u → (hs : List Goal)
      → Finds D (record (asking (instance F u) h) { untouched = false } ∷ hs) → Finds D (h ∷ hs)
  finds_term h A F u e typed of hs c now f [] s t a ls l = absurd a
  finds_term h A F u e typed of hs c now f (g ∷ gs) s t a ls l = go (form_of g.conclusion) refl (made D now f s g h t.0 a.0 (exists A F) e) (known D now f s g h t.0 a.0)
    where
      go : (k : Form) → form_of g.conclusion ≡ k → FormMade f k (exists A F) → FormFacts (signature_in D) now g.constants g.untouched k → ls ≢ []
      go (exists B E) o m facts =
          let ns = g.constants in
          let bare : HasType (signature_in D) [] (forget u) B = translate_typed (signature_in D) (λ v. v) (λ y. tt) (subst (HasType (signature_in D) [] u) (sym m.0) typed) in
          let has : (b : Nominal) → Contains (support (forget u)) b → Contains ns b = λ b k. subst (λ l. Contains l b) (a.0).constants (of b (subst (λ l. Contains l b) (support-translate (λ v. v) (λ y. tt) u) k)) in
          let w : Way = record {
            cells = now.cells ++ new_cell D now g E B ns ∷ [];
            flexible = now.flexible ++ new_variable D now g B ns ∷ [];
            equations = [];
            serving = [];
            taken = [];
            goals = record (asking (instance E (new_term D now g B ns)) g) { untouched = false; member_first = g.member_first } ∷ [];
          } in
          let hint = (new_cell D now g E B ns).hint in
          let k = with_term now f s hint ns B (forget u) bare has in
          let grown = with_grown now f s hint ns B (forget u) bare has in
          let m1 = mid now f s hint ns B (forget u) bare has in
          let state = with_state now f s hint ns B (forget u) bare has in
          let x = new_variable D now g B ns in
          let cell : IsCell m1.cells x = state.cells x (holds_behind now.flexible (x ∷ []) x (ap (λ b. b || false) ((same_numbered-Decides x x).1 refl))) in
          let term_facts : Facts m1 ns false (new_term D now g B ns) = new_facts m1 ns ns false x B cell (λ b q. q) (λ q. absurd (false≢true q)) in
          let term_typed : HasType (signature_in D) [] (new_term D now g B ns) B = given_typed (signature_in D) (codes "x") [] x ns B refl in
          let scope : IsScope (signature_in D) m1 ns false B E = record { typed = facts.typed; stands = facts.stands; facts = facts_touched (facts_grown (signature_in D) now m1 f k grown facts.facts) } in
          let next = record (asking (instance E (new_term D now g B ns)) g) { untouched = false; member_first = g.member_first } in
          let task : IsTask (signature_in D) m1 next = record {
            conclusion = instance_part (signature_in D) m1 ns false scope term_typed term_facts;
            hypotheses = all_touched (signature_in D) m1 ns g.untouched g.hypotheses (parts_grown (signature_in D) now m1 f k grown ns g.untouched g.hypotheses (t.0).hypotheses);
          } in
          let guess : IsGuess k next (record (asking (instance F u) h) { untouched = false }) = record {
            conclusion = makes_instance (signature_in D) k state.fits.typed E (new_term D now g B ns) F u facts.typed term_typed (makes_grown (signature_in D) now m1 f k grown E F facts.facts m.1) (with_made now f s hint ns B (forget u) bare has);
            hypotheses = each_grown (signature_in D) now m1 f k grown ns g.untouched g.hypotheses h.hypotheses (t.0).hypotheses (a.0).hypotheses;
            depth = (a.0).depth;
            constants = (a.0).constants;
            untouched = refl;
            layers = (a.0).layers;
          } in
          on_form D now g gs (exists B E) o w (Contains-here w []) (on_way D now w gs (record (asking (instance F u) h) { untouched = false } ∷ hs) k state tt tt tt (none_serve D)
          (task, tasks_grown (signature_in D) now m1 f k grown gs t.1) (guess, guesses_grown (signature_in D) now m1 f k grown gs hs t.1 a.1) c) ls l
      go _ o m facts = absurd m

  -- THE GUESS CHANGES NOTHING where nothing was unfolded and no `exists` opened: such a term holds no variable of the guess
  untouched_same : (now : Now) (f : Put) → IsState (signature_in D) now f → (branch : List Nominal) (t v : Read) → Facts now branch true t → Makes f t v → forget t ≡ forget v
  untouched_same now f s branch t v p m =
      sym (image_agrees f (value_in same_number []) (forget t) (λ y c. s.fits.none y (p.fixed refl y (subst (λ l. Contains l y) (variables-forget t) c))) ∙ image_none (forget t)) ∙ m

  new_for : (now : Now) (f : Put) → IsState (signature_in D) now f → (branch : List Nominal) (t v : Read) → Facts now branch true t → Makes f t v → HasNone (length now.cells) v
  new_for now f s branch t v p m y c e =
      let same = untouched_same now f s branch t v p m in
      let there : Contains (variables t) y = subst (λ l. Contains l y) (sym (variables-forget v) ∙ ap variables (sym same) ∙ variables-forget t) c in
      let low = known_cell now.cells y.name y.type (p.over y there) in
      absurd (omega (arith, e, low))

  all_new : (now : Now) (f : Put) → IsState (signature_in D) now f → (branch : List Nominal) (ts vs : List Read) → AllParts (signature_in D) now branch true ts → MakesEach f ts vs → All (HasNone (length now.cells)) vs
  all_new now f s branch [] [] p m = All-nil (HasNone (length now.cells))
  all_new now f s branch [] (v ∷ vs) p m = absurd m
  all_new now f s branch (t ∷ ts) [] p m = absurd m
  all_new now f s branch (t ∷ ts) (v ∷ vs) p m = All-cons (HasNone (length now.cells)) v vs (new_for now f s branch t v (p.0).facts m.0) (all_new now f s branch ts vs p.1 m.1)

  -- a variable that may not be replaced
  module _ (now : Now) (f : Put) (s : IsState (signature_in D) now f) (hint : List ℕ) (A : Ty) where
    abbrev wider : Now
    wider = record now { cells = now.cells ++ record { hint = hint; type = A } ∷ [] }

    wider_grown : IsGrown now wider f f
    wider_grown = record { cells = (record { hint = hint; type = A } ∷ [], refl); fixed = λ y l n. n; same = λ y l. refl }

    wider_state : IsState (signature_in D) wider f
    wider_state = record { cells = λ y h. cell_kept now.cells wider.cells wider_grown.cells y (s.cells y h); fits = s.fits }

    -- the new one isn't replaced
    not_there : (y : Variable ℕ) → y.name ≡ length now.cells → holds now.flexible y ≡ false
    not_there y e = false_from_ne_true (holds now.flexible y) (λ h. let low = known_cell now.cells y.name y.type (s.cells y h) in absurd (omega (arith, e, low)))

  pub finds_variable : (h : Goal) (A : Ty) (F : Read) → form_of h.conclusion ≡ for_all A F → h.untouched ≡ true → (hs : List Goal)
      → ((n : ℕ) → IsNewFor n h → Finds D (asking (instance F (a_variable n (in_order (support h.conclusion)) A)) h ∷ hs)) → Finds D (h ∷ hs)
  finds_variable h A F e clean hs c now f [] s t a ls l = absurd a
  finds_variable h A F e clean hs c now f (g ∷ gs) s t a ls l = go (form_of g.conclusion) refl (made D now f s g h t.0 a.0 (for_all A F) e) (known D now f s g h t.0 a.0)
    where
      free : g.untouched ≡ true
      free = sym (a.0).untouched ∙ clean

      facts_free : Facts now g.constants true g.conclusion
      facts_free = subst (λ b. Facts now g.constants b g.conclusion) free (t.0).conclusion.facts

      parts_free : AllParts (signature_in D) now g.constants true g.hypotheses
      parts_free = subst (λ b. AllParts (signature_in D) now g.constants b g.hypotheses) free (t.0).hypotheses

      go : (k : Form) → form_of g.conclusion ≡ k → FormMade f k (for_all A F) → FormFacts (signature_in D) now g.constants g.untouched k → ls ≢ []
      go (for_all B E) o m facts =
          let ns = in_order (support g.conclusion) in
          let n = length now.cells in
          let new : IsNewFor n h = (new_for now f s g.constants g.conclusion h.conclusion facts_free (a.0).conclusion, all_new now f s g.constants g.hypotheses h.hypotheses parts_free (a.0).hypotheses) in
          let names_same : support g.conclusion ≡ support h.conclusion = sym (support-translate (λ v. v) (λ y. tt) g.conclusion) ∙ ap support (untouched_same now f s g.constants g.conclusion h.conclusion facts_free (a.0).conclusion) ∙ support-translate (λ v. v) (λ y. tt) h.conclusion in
          let x = new_variable D now g B ns in
          let u = new_term D now g B ns in
          let v = a_variable n (in_order (support h.conclusion)) A in
          let same : u ≡ v = ap (λ k. a_variable n k B) (ap in_order names_same) ∙ ap (a_variable n (in_order (support h.conclusion))) m.0 in
          let hint = (new_cell D now g E B ns).hint in
          let m1 = wider now f s hint (over ns B) in
          let grown = wider_grown now f s hint (over ns B) in
          let w : Way = record {
            cells = now.cells ++ new_cell D now g E B ns ∷ [];
            flexible = now.flexible;
            equations = [];
            serving = [];
            taken = [];
            goals = asking (instance E u) g ∷ [];
          } in
          let cell : IsCell m1.cells x = at_behind now.cells (new_cell D now g E B ns ∷ []) zero (length now.cells) (over ns B) (omega arith) refl in
          let gone : holds now.flexible x ≡ false = not_there now f s hint (over ns B) x refl in
          let of : (b : Nominal) → Contains ns b → Contains g.constants b = λ b k. (t.0).conclusion.facts.constants b (contains_ordered (support g.conclusion) b k) in
          let term_facts : Facts m1 g.constants g.untouched u = new_facts m1 g.constants ns g.untouched x B cell of (λ q. gone) in
          let term_typed : HasType (signature_in D) [] u B = given_typed (signature_in D) (codes "x") [] x ns B refl in
          let scope : IsScope (signature_in D) m1 g.constants g.untouched B E = record { typed = facts.typed; stands = facts.stands; facts = facts_grown (signature_in D) now m1 f f grown facts.facts } in
          let next = asking (instance E u) g in
          let task : IsTask (signature_in D) m1 next = record {
            conclusion = instance_part (signature_in D) m1 g.constants g.untouched scope term_typed term_facts;
            hypotheses = parts_grown (signature_in D) now m1 f f grown g.constants g.untouched g.hypotheses (t.0).hypotheses;
          } in
          let stays : Makes f u u =
          image_agrees f (value_in same_number []) (forget u) (λ y k. ap f (given_variables (codes "x") x ns B y (subst (λ l. Contains l y) (variables-forget u) k)) ∙ s.fits.none x gone) ∙ image_none (forget u) in
          let guess : IsGuess f next (asking (instance F v) h) = record {
            conclusion = makes_instance (signature_in D) f s.fits.typed E u F v facts.typed term_typed m.1 (stays ∙ ap forget same);
            hypotheses = (a.0).hypotheses;
            depth = (a.0).depth;
            constants = (a.0).constants;
            untouched = (a.0).untouched;
            layers = (a.0).layers;
          } in
          on_form D now g gs (for_all B E) o w (subst (λ b. Contains (cond b (w ∷ []) []) w) (sym free) (Contains-here w [])) (on_way D now w gs (asking (instance F v) h ∷ hs) f (wider_state now f s hint (over ns B)) tt tt tt (none_serve D)
          (task, tasks_grown (signature_in D) now m1 f f grown gs t.1) (guess, guesses_grown (signature_in D) now m1 f f grown gs hs t.1 a.1) (c n new)) ls l
      go _ o m facts = absurd m
