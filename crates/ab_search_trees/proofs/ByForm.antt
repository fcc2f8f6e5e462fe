-- THE WAYS BY THE FORM of the conclusion, against guesses.
use Rattle.std.proofs.Common.{◌≡◌, ◌≢◌, inl, inr, ℕ, List, [], ◌∷◌, ◌++◌, codes, Bool, true, false, cond, refl, sym, ◌∙◌, ap, subst}
use Rattle.std.specs.Prelude.{Contains, All, nat_lt}
use Rattle.std.proofs.lemmas.List.Elements.{All-nil, Contains-append_left, Contains-append_right}
use Rattle.ab_term.specs.Types.{Ty, arrow, prop}
use Rattle.ab_term.specs.Terms.{Nominal, nominal, Term, no_terms, Read}
use Rattle.ab_term.specs.Typing.{Signature, HasType, typed_lam}
use Rattle.ab_term.specs.Names.{support}
use Rattle.ab_term.specs.Expansion.{expansion}
use Rattle.ab_term.specs.Substitution.{instance}
use Rattle.ab_term.specs.Translation.{forget, EqualPastHints}
use Rattle.ab_term.specs.Variables.{variables, image_by}
use Rattle.ab_term.proofs.Lists.{Contains-none, Contains-here, Contains-there, Contains-cases}
use Rattle.ab_term.proofs.Preservation.{here}
use Rattle.ab_term.proofs.Images.{IsTypedMap, image_by-substitute}
use Rattle.ab_term.proofs.Translations.{translate_typed, translate-instance, translate-expansion}
use Rattle.ab_term.proofs.OwnExpansion.{image_by-expansion_of}
use Rattle.ab_term.proofs.Stands.{support-expansion_of, variables-expansion_of}
use Rattle.ab_unifiers.proofs.Following.{Put}
use Rattle.ab_unifiers.specs.Clauses.{name_term}
use Rattle.ab_unifiers.specs.Choices.{placed, for_each}
use Rattle.ab_formulas.specs.Declarations.{Declarations, signature_in}
use Rattle.ab_formulas.specs.Forms.{Form, truth, both, either, implies, equal, form_of}
use Rattle.ab_formulas.specs.Marks.{MarksServeIn}
use Rattle.ab_theory.specs.Atoms.{defined_atom}
use Rattle.ab_theory.specs.Judgements.{as_judgement}
use Rattle.ab_search_trees.specs.Goals.{Goal, Now, asking, assuming}
use Rattle.ab_search_trees.specs.Judgements.{is_blind}
use Rattle.ab_search_trees.specs.Ways.{Way, leading_to, equating, by_truth, by_hypothesis, by_form, by_definition, in_turn, by_judgement, ways}
use Rattle.ab_search_trees.specs.Tree.{Leaf, blind, unseen, Leaves, LeavesOn, a_goal}
use Rattle.ab_search_trees.proofs.Forms.{Makes, FormMade, form_made}
use Rattle.ab_search_trees.proofs.Facts.{Facts, IsPart, IsTask, AllTasks, all_parts_both, FormFacts, form_facts}
use Rattle.ab_search_trees.proofs.Against.{IsState, MakesEach, IsGuess, AllGuess, some_front, some_behind, Finds, on_way, among_ways}

-- one more of each
each_more : (f : Put) (ts us : List Read) (t u : Read) → MakesEach f ts us → Makes f t u → MakesEach f (ts ++ t ∷ []) (us ++ u ∷ [])
each_more f [] [] t u m n = (n, tt)
each_more f [] (v ∷ us) t u m n = absurd m
each_more f (v ∷ ts) [] t u m n = absurd m
each_more f (v ∷ ts) (w ∷ us) t u m n = (m.0, each_more f ts us t u m.1 n)

pub placed_itself : (b : Nominal) (xs : List Nominal) → Contains (placed b xs) b
placed_itself b [] = Contains-here b []
placed_itself b (y ∷ xs) = go (nat_lt b.number y.number) (placed_itself b xs)
  where
    go : (t : Bool) → Contains (placed b xs) b → Contains (cond t (b ∷ y ∷ xs) (y ∷ placed b xs)) b
    go true rest = Contains-here b (y ∷ xs)
    go false rest = Contains-there y (placed b xs) b rest

pub placed_others : (b : Nominal) (xs : List Nominal) (a : Nominal) → Contains xs a → Contains (placed b xs) a
placed_others b [] a c = absurd (Contains-none a c)
placed_others b (y ∷ xs) a c = go (nat_lt b.number y.number) (placed_others b xs a)
  where
    go : (t : Bool) → (Contains xs a → Contains (placed b xs) a) → Contains (cond t (b ∷ y ∷ xs) (y ∷ placed b xs)) a
    go true rest = Contains-there b (y ∷ xs) a c
    go false rest = elim (Contains-cases y xs a c) [ inl e ↦ subst (Contains (y ∷ placed b xs)) e (Contains-here y (placed b xs)) | inr n ↦ Contains-there y (placed b xs) a (rest n) ]

module _ (sg : Signature) where
  image_by_instance : (f : Put) → IsTypedMap sg f → {A B : Ty} {t u : Term ℕ (Unit {0})} → HasType sg [] t (arrow A B) → HasType sg [] u A → image_by f (instance t u) ≡ instance (image_by f t) (image_by f u)
  image_by_instance f typed (typed_lam d) e = image_by-substitute sg ℕ (Unit {0}) f typed here e d

  -- a guess goes through an instance
  pub makes_instance : (f : Put) → IsTypedMap sg f → {A : Ty} (F t H u : Read) → HasType sg [] F (arrow A prop) → HasType sg [] t A → Makes f F H → Makes f t u → Makes f (instance F t) (instance H u)
  makes_instance f typed F t H u d e m n =
      ap (image_by f) (translate-instance (λ v. v) (λ y. tt) F t)
      ∙ image_by_instance f typed (translate_typed sg (λ v. v) (λ y. tt) d) (translate_typed sg (λ v. v) (λ y. tt) e)
      ∙ ap (λ k. instance k (image_by f (forget t))) m
      ∙ ap (instance (forget H)) n
      ∙ sym (translate-instance (λ v. v) (λ y. tt) H u)

  -- and stops at a constant
  pub makes_name : (f : Put) → IsTypedMap sg f → (a : Nominal) → Makes f (name_term (codes "x") a) (name_term (codes "x") a)
  makes_name f typed a =
      let bare : forget (name_term (codes "x") a) ≡ expansion tt a.type (nominal a) = translate-expansion (λ v. v) (λ y. tt) (codes "x") a.type (nominal a) in
      ap (image_by f) bare ∙ image_by-expansion_of sg ℕ (Unit {0}) f typed tt a.type (nominal a) no_terms tt ∙ sym bare

pub name_facts : (now : Now) (branch : List Nominal) (u : Bool) (a : Nominal) → Contains branch a → Facts now branch u (name_term (codes "x") a)
name_facts now branch u a m =
    let vars : variables (name_term {Hint = List ℕ} (codes "x") a) ≡ [] = variables-expansion_of (codes "x") a.type (nominal a) no_terms in
    let names : support (name_term {Hint = List ℕ} (codes "x") a) ≡ a ∷ [] = support-expansion_of (codes "x") a.type (nominal a) no_terms in
    record {
      over = λ y c. absurd (Contains-none y (subst (λ l. Contains l y) vars c));
      constants = λ b c. elim (Contains-cases a [] b (subst (λ l. Contains l b) names c)) [ inl e ↦ subst (Contains branch) e m | inr n ↦ absurd (Contains-none b n) ];
      fixed = λ e y c. absurd (Contains-none y (subst (λ l. Contains l y) vars c));
    }

module _ (D : Declarations) where
  abbrev pub sg : Signature
  sg = signature_in D

  -- A WAY behind those by a hypothesis, from the first goal
  pub on_goal : (now : Now) (g : Goal) (gs : List Goal) (w : Way) → Contains ((by_form D now g (form_of g.conclusion) ++ by_definition D now g g.depth (defined_atom D g.conclusion)) ++ by_judgement D now g g.depth (as_judgement g.conclusion)) w
      → ((ls : List Leaf) → LeavesOn D now w gs ls → ls ≢ []) → (ls : List Leaf) → Leaves D now (g ∷ gs) ls → ls ≢ []
  on_goal now g gs w m c ls (a_goal {ls = ms} p) = go (is_blind now.flexible g.conclusion) refl
    where
      go : (b : Bool) → is_blind now.flexible g.conclusion ≡ b → ms ++ unseen now g ≢ []
      go true e = some_behind ms (λ f. absurd (let same : unseen now g ≡ blind ∷ [] = ap (λ b. cond b (blind ∷ []) []) e in let bad : blind ∷ [] ≡ [] = sym same ∙ f in cc))
      go false e = some_front (unseen now g) (among_ways D now (ways D now g) gs w (Contains-append_right (by_truth D now g (form_of g.conclusion) ++ for_each (by_hypothesis D now g) g.hypotheses) (cond (is_blind now.flexible g.conclusion) [] ((by_form D now g (form_of g.conclusion) ++ by_definition D now g g.depth (defined_atom D g.conclusion)) ++ by_judgement D now g g.depth (as_judgement g.conclusion))) w (subst (λ b. Contains (cond b [] ((by_form D now g (form_of g.conclusion) ++ by_definition D now g g.depth (defined_atom D g.conclusion)) ++ by_judgement D now g g.depth (as_judgement g.conclusion))) w) (sym e) m)) c ms p)

  pub on_form : (now : Now) (g : Goal) (gs : List Goal) (k : Form) → form_of g.conclusion ≡ k → (w : Way) → Contains (by_form D now g k) w
      → ((ls : List Leaf) → LeavesOn D now w gs ls → ls ≢ []) → (ls : List Leaf) → Leaves D now (g ∷ gs) ls → ls ≢ []
  on_form now g gs k e w m = on_goal now g gs w (Contains-append_left (by_form D now g (form_of g.conclusion) ++ by_definition D now g g.depth (defined_atom D g.conclusion)) (by_judgement D now g g.depth (as_judgement g.conclusion)) w (Contains-append_left (by_form D now g (form_of g.conclusion)) (by_definition D now g g.depth (defined_atom D g.conclusion)) w (subst (λ j. Contains (by_form D now g j) w) (sym e) m)))

  -- A WAY before them
  pub on_front : (now : Now) (g : Goal) (gs : List Goal) (w : Way) → Contains (by_truth D now g (form_of g.conclusion) ++ for_each (by_hypothesis D now g) g.hypotheses) w
      → ((ls : List Leaf) → LeavesOn D now w gs ls → ls ≢ []) → (ls : List Leaf) → Leaves D now (g ∷ gs) ls → ls ≢ []
  on_front now g gs w m c ls (a_goal {ls = ms} p) =
      some_front (unseen now g) (among_ways D now (ways D now g) gs w
      (Contains-append_left (by_truth D now g (form_of g.conclusion) ++ for_each (by_hypothesis D now g) g.hypotheses) (cond (is_blind now.flexible g.conclusion) [] ((by_form D now g (form_of g.conclusion) ++ by_definition D now g g.depth (defined_atom D g.conclusion)) ++ by_judgement D now g g.depth (as_judgement g.conclusion))) w m) c ms p)

  pub none_serve : All (λ (p : Read × Read). MarksServeIn p.0 p.1) []
  none_serve = All-nil (λ (p : Read × Read). MarksServeIn p.0 p.1)

  -- a way that brings no variable and asks for nothing
  pub by_goals : (now : Now) (f : Put) (g : Goal) (gs ks : List Goal) (hs : List Goal) → IsState sg now f → AllTasks sg now (ks ++ gs) → AllGuess f (ks ++ gs) hs → Finds D hs
      → (ls : List Leaf) → LeavesOn D now (leading_to D now g ks) gs ls → ls ≢ []
  by_goals now f g gs ks hs s t a c = on_way D now (leading_to D now g ks) gs hs f s tt tt tt none_serve t a c

  -- what the form of the second conclusion tells of the first
  module _ (now : Now) (f : Put) (s : IsState sg now f) (g h : Goal) (t : IsTask sg now g) (a : IsGuess f g h) where
    pub made : (k : Form) → form_of h.conclusion ≡ k → FormMade f (form_of g.conclusion) k
    made k e = subst (FormMade f (form_of g.conclusion)) e (form_made f g.conclusion h.conclusion t.conclusion.formula.stands a.conclusion)

    pub known : FormFacts sg now g.constants g.untouched (form_of g.conclusion)
    known = form_facts sg now g.constants g.untouched g.conclusion t.conclusion

    pub asked : (A C : Read) → IsPart sg now g.constants g.untouched A → Makes f A C → IsTask sg now (asking A g) × IsGuess f (asking A g) (asking C h)
    asked A C p m = (record { conclusion = p; hypotheses = t.hypotheses }, record { conclusion = m; hypotheses = a.hypotheses; depth = a.depth; constants = a.constants; untouched = a.untouched; layers = a.layers })

  pub finds_truth : (h : Goal) → form_of h.conclusion ≡ truth → (hs : List Goal) → Finds D hs → Finds D (h ∷ hs)
  finds_truth h e hs c now f [] s t a ls l = absurd a
  finds_truth h e hs c now f (g ∷ gs) s t a ls l = go (form_of g.conclusion) refl (made now f s g h t.0 a.0 truth e)
    where
      go : (k : Form) → form_of g.conclusion ≡ k → FormMade f k truth → ls ≢ []
      go truth q m = on_front now g gs (leading_to D now g [])
          (Contains-append_left (by_truth D now g (form_of g.conclusion)) (for_each (by_hypothesis D now g) g.hypotheses) (leading_to D now g []) (subst (λ j. Contains (by_truth D now g j) (leading_to D now g [])) (sym q) (Contains-here (leading_to D now g []) [])))
          (by_goals now f g gs [] hs s t.1 a.1 c) ls l
      go _ q m = absurd m

  pub finds_equal : (h : Goal) (A : Ty) (v w : Read) → form_of h.conclusion ≡ equal A v w → EqualPastHints v w → (hs : List Goal) → Finds D hs → Finds D (h ∷ hs)
  finds_equal h A v w e same hs c now f [] s t a ls l = absurd a
  finds_equal h A v w e same hs c now f (g ∷ gs) s t a ls l = go (form_of g.conclusion) refl (made now f s g h t.0 a.0 (equal A v w) e) (known now f s g h t.0 a.0)
    where
      go : (k : Form) → form_of g.conclusion ≡ k → FormMade f k (equal A v w) → FormFacts sg now g.constants g.untouched k → ls ≢ []
      go (equal B p q) o m facts = on_form now g gs (equal B p q) o (equating D now g p q []) (Contains-here (equating D now g p q []) [])
          (on_way D now (equating D now g p q []) gs hs f s (([], B, facts.0, facts.1), tt) (facts.2.over, facts.3.over, tt) (m.0 ∙ same ∙ sym m.1, tt) none_serve t.1 a.1 c) ls l
      go _ o m facts = absurd m

  -- two goals, whichever comes first
  by_two : (now : Now) (f : Put) (g h : Goal) (gs hs : List Goal) → IsState sg now f → (A B C E : Read) → IsTask sg now (asking C g) × IsGuess f (asking C g) (asking A h) → IsTask sg now (asking E g) × IsGuess f (asking E g) (asking B h)
      → AllTasks sg now gs → AllGuess f gs hs → Finds D (asking A h ∷ asking B h ∷ hs) → Finds D (asking B h ∷ asking A h ∷ hs)
      → (b : Bool) (ls : List Leaf) → LeavesOn D now (leading_to D now g (in_turn b (asking C g) (asking E g))) gs ls → ls ≢ []
  by_two now f g h gs hs s A B C E one two t a c d true = by_goals now f g gs (asking E g ∷ asking C g ∷ []) (asking B h ∷ asking A h ∷ hs) s (two.0, (one.0, t)) (two.1, (one.1, a)) d
  by_two now f g h gs hs s A B C E one two t a c d false = by_goals now f g gs (asking C g ∷ asking E g ∷ []) (asking A h ∷ asking B h ∷ hs) s (one.0, (two.0, t)) (one.1, (two.1, a)) c

  pub finds_both : (h : Goal) (A B : Read) → form_of h.conclusion ≡ both A B → (hs : List Goal) → Finds D (asking A h ∷ asking B h ∷ hs) → Finds D (asking B h ∷ asking A h ∷ hs) → Finds D (h ∷ hs)
  finds_both h A B e hs c d now f [] s t a ls l = absurd a
  finds_both h A B e hs c d now f (g ∷ gs) s t a ls l = go (form_of g.conclusion) refl (made now f s g h t.0 a.0 (both A B) e) (known now f s g h t.0 a.0)
    where
      go : (k : Form) → form_of g.conclusion ≡ k → FormMade f k (both A B) → FormFacts sg now g.constants g.untouched k → ls ≢ []
      go (both C E) o m facts =
          let w = leading_to D now g (in_turn g.member_first (asking C g) (asking E g)) in
          let one = asked now f s g h t.0 a.0 C A facts.0 m.0 in
          let two = asked now f s g h t.0 a.0 E B facts.1 m.1 in
          on_form now g gs (both C E) o w (Contains-here w []) (by_two now f g h gs hs s A B C E one two t.1 a.1 c d g.member_first) ls l
      go _ o m facts = absurd m

  pub finds_left : (h : Goal) (A B : Read) → form_of h.conclusion ≡ either A B → (hs : List Goal) → Finds D (asking A h ∷ hs) → Finds D (h ∷ hs)
  finds_left h A B e hs c now f [] s t a ls l = absurd a
  finds_left h A B e hs c now f (g ∷ gs) s t a ls l = go (form_of g.conclusion) refl (made now f s g h t.0 a.0 (either A B) e) (known now f s g h t.0 a.0)
    where
      go : (k : Form) → form_of g.conclusion ≡ k → FormMade f k (either A B) → FormFacts sg now g.constants g.untouched k → ls ≢ []
      go (either C E) o m facts =
          let w = leading_to D now g (asking C g ∷ []) in
          let one = asked now f s g h t.0 a.0 C A facts.0 m.0 in
          on_form now g gs (either C E) o w (Contains-here w (leading_to D now g (asking E g ∷ []) ∷ [])) (by_goals now f g gs (asking C g ∷ []) (asking A h ∷ hs) s (one.0, t.1) (one.1, a.1) c) ls l
      go _ o m facts = absurd m

  pub finds_right : (h : Goal) (A B : Read) → form_of h.conclusion ≡ either A B → (hs : List Goal) → Finds D (asking B h ∷ hs) → Finds D (h ∷ hs)
  finds_right h A B e hs c now f [] s t a ls l = absurd a
  finds_right h A B e hs c now f (g ∷ gs) s t a ls l = go (form_of g.conclusion) refl (made now f s g h t.0 a.0 (either A B) e) (known now f s g h t.0 a.0)
    where
      go : (k : Form) → form_of g.conclusion ≡ k → FormMade f k (either A B) → FormFacts sg now g.constants g.untouched k → ls ≢ []
      go (either C E) o m facts =
          let w = leading_to D now g (asking E g ∷ []) in
          let one = asked now f s g h t.0 a.0 E B facts.1 m.1 in
          on_form now g gs (either C E) o w (Contains-there (leading_to D now g (asking C g ∷ [])) (w ∷ []) w (Contains-here w [])) (by_goals now f g gs (asking E g ∷ []) (asking B h ∷ hs) s (one.0, t.1) (one.1, a.1) c) ls l
      go _ o m facts = absurd m

  pub finds_assuming : (h : Goal) (A B : Read) → form_of h.conclusion ≡ implies A B → (hs : List Goal) → Finds D (asking B (assuming A h) ∷ hs) → Finds D (h ∷ hs)
  finds_assuming h A B e hs c now f [] s t a ls l = absurd a
  finds_assuming h A B e hs c now f (g ∷ gs) s t a ls l = go (form_of g.conclusion) refl (made now f s g h t.0 a.0 (implies A B) e) (known now f s g h t.0 a.0)
    where
      go : (k : Form) → form_of g.conclusion ≡ k → FormMade f k (implies A B) → FormFacts sg now g.constants g.untouched k → ls ≢ []
      go (implies C E) o m facts =
          let next = asking E (assuming C g) in
          let w = leading_to D now g (next ∷ []) in
          let task : IsTask sg now next = record { conclusion = facts.1; hypotheses = all_parts_both sg now g.constants g.untouched g.hypotheses (C ∷ []) (t.0).hypotheses (facts.0, tt) } in
          let guess : IsGuess f next (asking B (assuming A h)) = record { conclusion = m.1; hypotheses = each_more f g.hypotheses h.hypotheses C A (a.0).hypotheses m.0; depth = (a.0).depth; constants = (a.0).constants; untouched = (a.0).untouched; layers = (a.0).layers } in
          on_form now g gs (implies C E) o w (Contains-here w []) (by_goals now f g gs (next ∷ []) (asking B (assuming A h) ∷ hs) s (task, t.1) (guess, a.1) c) ls l
      go _ o m facts = absurd m
