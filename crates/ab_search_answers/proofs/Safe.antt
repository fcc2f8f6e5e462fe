-- A WAY IS SAFE: what it asks for and the goals that it leaves are in their scopes, and steps that close these close the goal, behind the way's own. Ways by
-- `true`, by a hypothesis and by a connective.
use Rattle.std.proofs.Common.{◌≡◌, inl, inr, ℕ, List, [], ◌∷◌, ◌++◌, map, length, Bool, true, false, Option, Some, None, option_map, refl, sym, ◌∙◌, ap, subst, arith}
use Rattle.std.specs.Prelude.{Contains, slice_get}
use Rattle.std.proofs.lemmas.List.Elements.{All-contains, All-contains_itself, Contains-append_cases}
use Rattle.std.proofs.lemmas.Option.{slice_get-map}
use Rattle.ab_term.specs.Types.{Ty}
use Rattle.ab_term.specs.Terms.{Nominal, Variable, Read}
use Rattle.ab_term.specs.Typing.{Signature}
use Rattle.ab_term.specs.Names.{support, rename, permute, moved_by}
use Rattle.ab_term.specs.Translation.{forget}
use Rattle.ab_term.specs.Variables.{Substitution, variables, value_in, image, image_by}
use Rattle.ab_term.specs.Sameness.{same_number}
use Rattle.ab_term.proofs.Lists.{Contains-none, Contains-here, Contains-cases}
use Rattle.ab_term.proofs.Depends.{image_agrees}
use Rattle.ab_term.proofs.Renamings.{rename-image_by}
use Rattle.ab_term.proofs.Permuting.{Each, moved, OfOneType, moved_each, moved_stays, rename_agrees, same_up_to_names}
use Rattle.ab_term.proofs.UpToNames.{rename-itself}
use Rattle.ab_term.proofs.Translations.{translate-rename}
use Rattle.ab_unifiers.specs.Replacements.{Cell, holds}
use Rattle.ab_unifiers.specs.Unifiers.{Unifies}
use Rattle.ab_unifiers.proofs.Cells.{grows_none}
use Rattle.ab_unifiers.proofs.Following.{plain, image_plain}
use Rattle.ab_unifiers.specs.Choices.{in_order}
use Rattle.ab_unifiers.proofs.Choosing.{ordered_contains, contains_ordered, ordered_pairs}
use Rattle.ab_formulas.specs.Declarations.{Declarations, signature_in}
use Rattle.ab_formulas.specs.Forms.{Form, truth, both, either, implies, equal, form_of}
use Rattle.ab_formulas.specs.GoalTerms.{HoldsOnly}
use Rattle.ab_formulas.specs.Marks.{MarksServe, MarksServeIn, marks_of, erased}
use Rattle.ab_theory.proofs.SubjectParts.{listed_at}
use Rattle.ab_pattern_matching.specs.Reading.{Every}
use Rattle.ab_search_trees.specs.Goals.{Goal, Now, asking, assuming}
use Rattle.ab_search_trees.specs.Maps.{maps}
use Rattle.ab_search_trees.specs.Tree.{Serve}
use Rattle.ab_search_trees.specs.Ways.{Way, in_turn, with_constants, leading_to, equating}
use Rattle.ab_search_trees.proofs.Facts.{IsPart, IsTask}
use Rattle.ab_search_trees.proofs.Growing.{IsGrown}
use Rattle.ab_search_trees.proofs.Carried.{AreFlexible}
use Rattle.ab_search_trees.proofs.Unmarked.{makes_erased, marks_made_same, variables_rename}
use Rattle.ab_search_trees.proofs.Mapped.{mapped_each}
use Rattle.ab_search_trees.proofs.Hypotheses.{erased_names, erased_variables}
use Rattle.ab_search_trees.proofs.Exact.{map_right}
use Rattle.ab_search_trees.proofs.Shows.{formed}
use Rattle.ab_search_proofs.proofs.Parts.{Parts, parts}
use Rattle.ab_search_layers.specs.Closed as closing
use Rattle.ab_search_layers.specs.Closed.{Open, to_show, Closes}
use Rattle.ab_search_layers.specs.Taken as way
use Rattle.ab_search_layers.specs.Taken.{Taking}
use Rattle.ab_search_answers.proofs.Final.{Scopes, from_on, InScope, IsFinal}
use Rattle.ab_search_answers.proofs.Under.{BothIn}
use Rattle.ab_search_answers.proofs.Scoped.{IsScoped, part_there, in_grown, scoped_grown}
use Rattle.ab_search_answers.specs.Followed.{in_the_end}
use Rattle.ab_search_answers.proofs.Below.{IsTaken, at_end}
use Rattle.ab_search_answers.specs.Unmarked.{HasNoHash}
use Rattle.ab_search_answers.proofs.Inside.{Inside, sides_inside, map_there}
use Rattle.ab_search_answers.proofs.Signs.{PartsNone, parts_none}

-- of each in a list of one, of two
pub of_one : {X : Type 0} (P : X → Type 0) (x : X) → P x → (z : X) → Contains (x ∷ []) z → P z
of_one P x p z m = elim (Contains-cases x [] z m) [ inl e ↦ subst P e p | inr n ↦ absurd (Contains-none z n) ]

of_two : {X : Type 0} (P : X → Type 0) (x y : X) → P x → P y → (z : X) → Contains (x ∷ y ∷ []) z → P z
of_two P x y p q z m = elim (Contains-cases x (y ∷ []) z m) [ inl e ↦ subst P e p | inr n ↦ of_one P y q z n ]

module _ (D : Declarations) where
  -- the place, once the way has brought its variables and taken its constants
  abbrev pub amid_way : Now → Way → Now
  amid_way now w = record now { cells = w.cells; flexible = w.flexible; held = with_constants w.taken now.held }

  -- the way goes on so, where r is put in at last
  pub record IsSafe (now : Now) (S : Scopes) (g : Goal) (ys : List (Variable ℕ)) (w : Way) (taking : Substitution ℕ (List ℕ) → Taking) : Type 0 where
    pub scope : List (Variable ℕ)
    pub keeps : (y : Variable ℕ) → holds now.flexible y ≡ true → holds w.flexible y ≡ true
    pub equations : Every (BothIn (amid_way now w) (from_on (length now.cells) ys S) ys) w.equations
    pub goals : (h : Goal) → Contains w.goals h → IsScoped (amid_way now w) (from_on (length now.cells) ys S) h scope
    pub closes : (last : Now) (more : List (Cell (List ℕ))) (q n : Substitution ℕ (List ℕ)) → IsTaken D now g ys w last more q n → IsFinal (signature_in D) (amid_way now w) (from_on (length now.cells) ys S) (in_the_end last q n)
        → Unifies (in_the_end last q n) w.equations → Serve w → (gs : List Open) (es : List (Read × Taking)) → Closes D (map (at_end (in_the_end last q n) scope) w.goals ++ gs) es
        → Closes D (at_end (in_the_end last q n) ys g ∷ gs) ((image same_number (in_the_end last q n) g.conclusion, taking (in_the_end last q n)) ∷ es)

module _ (D : Declarations) (now : Now) (S : Scopes) (flexible : AreFlexible now) (g : Goal) (ys : List (Variable ℕ)) (t : IsTask (signature_in D) now g) (k : IsScoped now S g ys) where
  abbrev sg : Signature
  sg = signature_in D

  abbrev pub T : Scopes
  T = from_on (length now.cells) ys S

  -- where no variable is brought
  same_grown : IsGrown now now (λ y. None) (λ y. None)
  same_grown = record { cells = grows_none now.cells; fixed = λ y l e. e; same = λ y l. refl }

  -- the parts of the conclusion are in its scope
  pub inside_scope : (A : Read) → Inside g.conclusion A → InScope now T ys A
  inside_scope A within y m = in_grown sg now now same_grown (λ z h. h) (omega arith) (λ a h. h) S ys ys g.conclusion t.conclusion.facts.over k.conclusion y (within y m)

  pub whole_scope : IsScoped now T g ys
  whole_scope = scoped_grown sg now now same_grown (λ z h. h) (omega arith) (λ a h. h) S ys g ys t k

  pub asked : (A : Read) → Inside g.conclusion A → HasNoHash A → IsScoped now T (asking A g) ys
  asked A within none = record { conclusion = inside_scope A within; hypotheses = whole_scope.hypotheses; branch = whole_scope.branch; low = whole_scope.low; unmarked = none }

  pub parts_at : (X : Form) → form_of g.conclusion ≡ X → Parts sg (variables g.conclusion) X
  parts_at X e = subst (Parts sg (variables g.conclusion)) e (parts sg (variables g.conclusion) g.conclusion t.conclusion.formula (All-contains_itself (variables g.conclusion)))

  pub none_at : (X : Form) → form_of g.conclusion ≡ X → PartsNone X
  none_at X e = subst PartsNone e (parts_none g.conclusion k.unmarked)

  pub inside : (A : Read) → HoldsOnly (variables g.conclusion) A → Inside g.conclusion A
  inside A h y m = All-contains (Contains (variables g.conclusion)) (variables A) y h m

  -- a way without variables and equations
  pub leading_safe : (hs : List Goal) (k : Taking) → ((h : Goal) → Contains hs h → IsScoped now T h ys)
      → ((r : Substitution ℕ (List ℕ)) → IsFinal sg now T r → (gs : List Open) (es : List (Read × Taking)) → Closes D (map (at_end r ys) hs ++ gs) es → Closes D (at_end r ys g ∷ gs) ((image same_number r g.conclusion, k) ∷ es))
      → IsSafe D now S g ys (leading_to D now g hs) (λ r. k)
  leading_safe hs k scoped f = record {
    scope = ys;
    keeps = λ y h. h;
    equations = tt;
    goals = scoped;
    closes = λ last more q n taken final u v gs es s. f (in_the_end last q n) final gs es s;
  }

  pub truth_safe : form_of g.conclusion ≡ truth → IsSafe D now S g ys (leading_to D now g []) (λ r. way.truth)
  truth_safe e = leading_safe [] way.truth (λ h m. absurd (Contains-none h m)) (λ r final gs es s. closing.by_truth (formed D now flexible g t r truth e) s)

  pub both_safe : (A B : Read) → form_of g.conclusion ≡ both A B → (b : Bool) → IsSafe D now S g ys (leading_to D now g (in_turn b (asking A g) (asking B g))) (λ r. way.both b)
  both_safe A B e b = go b
    where
      left : Inside g.conclusion A
      left = inside A (parts_at (both A B) e).0.known

      right : Inside g.conclusion B
      right = inside B (parts_at (both A B) e).1.known

      go : (b : Bool) → IsSafe D now S g ys (leading_to D now g (in_turn b (asking A g) (asking B g))) (λ r. way.both b)
      go true = leading_safe (asking B g ∷ asking A g ∷ []) (way.both true) (of_two (λ h. IsScoped now T h ys) (asking B g) (asking A g) (asked B right (none_at (both A B) e).1) (asked A left (none_at (both A B) e).0))
          (λ r final gs es s. closing.by_both true (formed D now flexible g t r (both A B) e) s)
      go false = leading_safe (asking A g ∷ asking B g ∷ []) (way.both false) (of_two (λ h. IsScoped now T h ys) (asking A g) (asking B g) (asked A left (none_at (both A B) e).0) (asked B right (none_at (both A B) e).1))
          (λ r final gs es s. closing.by_both false (formed D now flexible g t r (both A B) e) s)

  pub left_safe : (A B : Read) → form_of g.conclusion ≡ either A B → IsSafe D now S g ys (leading_to D now g (asking A g ∷ [])) (λ r. way.left)
  left_safe A B e = leading_safe (asking A g ∷ []) way.left (of_one (λ h. IsScoped now T h ys) (asking A g) (asked A (inside A (parts_at (either A B) e).0.known) (none_at (either A B) e).0))
      (λ r final gs es s. closing.by_left (formed D now flexible g t r (either A B) e) s)

  pub right_safe : (A B : Read) → form_of g.conclusion ≡ either A B → IsSafe D now S g ys (leading_to D now g (asking B g ∷ [])) (λ r. way.right)
  right_safe A B e = leading_safe (asking B g ∷ []) way.right (of_one (λ h. IsScoped now T h ys) (asking B g) (asked B (inside B (parts_at (either A B) e).1.known) (none_at (either A B) e).1))
      (λ r final gs es s. closing.by_right (formed D now flexible g t r (either A B) e) s)

  pub assuming_safe : (A B : Read) → form_of g.conclusion ≡ implies A B → IsSafe D now S g ys (leading_to D now g (asking B (assuming A g) ∷ [])) (λ r. way.assuming)
  assuming_safe A B e = leading_safe (asking B (assuming A g) ∷ []) way.assuming (of_one (λ h. IsScoped now T h ys) (asking B (assuming A g)) (record {
    conclusion = inside_scope B (inside B (parts_at (implies A B) e).1.known);
    hypotheses = λ H m. elim (Contains-append_cases g.hypotheses (A ∷ []) H m) [ inl a ↦ whole_scope.hypotheses H a | inr b ↦ of_one (InScope now T ys) A (inside_scope A (inside A (parts_at (implies A B) e).0.known)) H b ];
    branch = whole_scope.branch;
    low = whole_scope.low;
    unmarked = (none_at (implies A B) e).1;
  }))
      (λ r final gs es s. closing.by_assuming (formed D now flexible g t r (implies A B) e) (subst (λ Hs. Closes D (to_show ys Hs (image same_number r B) ∷ gs) es) (mapped_more (image same_number r) g.hypotheses A) s))
    where
      mapped_more : (f : Read → Read) (Hs : List Read) (A : Read) → map f (Hs ++ A ∷ []) ≡ map f Hs ++ f A ∷ []
      mapped_more f [] A = refl
      mapped_more f (H ∷ Hs) A = ap (λ l. f H ∷ l) (mapped_more f Hs A)

  pub equal_safe : (A : Ty) (v w : Read) → form_of g.conclusion ≡ equal A v w → IsSafe D now S g ys (equating D now g v w []) (λ r. way.equality)
  equal_safe A v w e = record {
    scope = ys;
    keeps = λ y h. h;
    equations = ((inside_scope v (sides_inside g.conclusion A v w e).0, inside_scope w (sides_inside g.conclusion A v w e).1), tt);
    goals = λ h m. absurd (Contains-none h m);
    closes = λ last more q n taken final u sv gs es s. closing.by_equality (formed D now flexible g t (in_the_end last q n) (equal A v w) e) u.0 s;
  }

  -- what is put in in the end isn't moved by what leaves alone all constants that aren't held
  final_renamed : (r : Substitution ℕ (List ℕ)) → IsFinal sg now T r → (p : Nominal → Nominal) → ((a : Nominal) → ¬ (Contains now.held a) → p a ≡ a) → (C : Read) → rename p (image same_number r C) ≡ image same_number r (rename p C)
  final_renamed r final p stays C = rename-image_by p (value_in same_number r) C ∙ image_agrees (λ x. option_map (rename p) (value_in same_number r x)) (value_in same_number r) (rename p C) (λ y c. value y (value_in same_number r y) refl)
    where
      value : (y : Variable ℕ) (o : Option Read) → value_in same_number r y ≡ o → option_map (rename p) (value_in same_number r y) ≡ value_in same_number r y
      value y None e = ap (option_map (rename p)) e ∙ sym e
      value y (Some v) e = ap (option_map (rename p)) e ∙ ap Some (rename_agrees p (λ a. a) v (λ a m. stays a (final.clear y v e a m)) ∙ rename-itself v) ∙ sym e

  makes_image : (r : Substitution ℕ (List ℕ)) (C : Read) → image_by (plain r) (forget C) ≡ forget (image same_number r C)
  makes_image r C = sym (image_plain r C)

  pub hypothesis_safe : (i : ℕ) (E : Read) → slice_get g.hypotheses i ≡ Some E → (ps : List (Nominal × Nominal)) → Contains (maps (in_order (support E)) g.constants) ps
      → IsSafe D now S g ys (equating D now g (permute ps (erased E)) (erased g.conclusion) ((g.conclusion, E) ∷ [])) (λ r. way.hypothesis i)
  hypothesis_safe i E at ps m =
      let there : Contains g.hypotheses E = listed_at g.hypotheses i E at in
      let part : IsPart sg now g.constants g.untouched E = part_there sg now g.constants g.untouched g.hypotheses t.hypotheses E there in
      let N = in_order (support E) in
      let right = map_right N g.constants (ordered_pairs (support E)) ps m in
      let ns = right.0 in
      let one_type : OfOneType N ns = turned N ns right.2 in
      let p = moved N ns in
      let own : (a : Nominal) → Contains N a → Contains g.constants a = λ a c. part.facts.constants a (contains_ordered (support E) a c) in
      let into : (a : Nominal) → Contains ns a → Contains g.constants a = map_there N g.constants own ps m ns right.1 (λ (b : Nominal) (c : Nominal). c.type ≡ b.type) right.2 in
      let stays : (a : Nominal) → ¬ (Contains now.held a) → p a ≡ a = λ a h. moved_stays N ns a (λ c. h (k.branch a (own a c))) (λ c. h (k.branch a (into a c))) in
      let renamed : permute ps (erased E) ≡ rename p (erased E) = rename_agrees (moved_by ps) p (erased E) (λ b c. ap (λ qs. moved_by qs b) right.1 ∙ mapped_each p N ns (moved_each N ns one_type (ordered_pairs (support E)) right.3) b (ordered_contains (support E) b (erased_names E b c))) in
      record {
        scope = ys;
        keeps = λ y h. h;
        equations = (
          (
            (λ y c. whole_scope.hypotheses E there y (erased_variables E y (subst (λ l. Contains l y) (variables_rename p (erased E)) (subst (λ j. Contains (variables j) y) renamed c)))),
            inside_scope (erased g.conclusion) (λ y c. erased_variables g.conclusion y c),
          ),
          tt,
        );
        goals = λ h c. absurd (Contains-none h c);
        closes = λ last more q n taken final u sv gs es s.
            let r = in_the_end last q n in
            let E2 = image same_number r E in
            let C2 = image same_number r g.conclusion in
            let same : forget (rename p (erased E2)) ≡ forget (erased C2) =
            translate-rename (λ v. v) (λ y. tt) p (erased E2)
            ∙ ap (rename p) (sym (makes_erased (plain r) E E2 part.formula.stands (makes_image r E)) ∙ makes_image r (erased E))
            ∙ sym (translate-rename (λ v. v) (λ y. tt) p (image same_number r (erased E)))
            ∙ ap forget (final_renamed r final p stays (erased E) ∙ ap (image same_number r) (sym renamed))
            ∙ u.0
            ∙ sym (makes_image r (erased g.conclusion))
            ∙ makes_erased (plain r) g.conclusion C2 t.conclusion.formula.stands (makes_image r g.conclusion) in
            let serves : MarksServeIn g.conclusion E = All-contains (λ (q : Read × Read). MarksServeIn q.0 q.1) ((g.conclusion, E) ∷ []) (g.conclusion, E) sv (Contains-here (g.conclusion, E) []) in
            closing.by_hypothesis i E2 (slice_get-map (image same_number r) g.hypotheses i ∙ ap (option_map (image same_number r)) at) (same_up_to_names N ns one_type (erased E2) (erased C2) same)
            (subst (λ k. MarksServe k (marks_of E2)) (marks_made_same (plain r) g.conclusion C2 t.conclusion.formula.stands (makes_image r g.conclusion)) (subst (λ k. MarksServe (marks_of g.conclusion) k) (marks_made_same (plain r) E E2 part.formula.stands (makes_image r E)) serves)) s;
      }
    where
      turned : (bs ks : List Nominal) → Each (λ (b : Nominal) (n : Nominal). n.type ≡ b.type) bs ks → OfOneType bs ks
      turned [] [] e = tt
      turned [] (k ∷ ks) e = absurd e
      turned (b ∷ bs) [] e = absurd e
      turned (b ∷ bs) (k ∷ ks) e = (sym e.0, turned bs ks e.1)
