-- AN ANSWER SHOWS THE GOAL: what each way tells, where its sides are made equal and its goals are shown.
use Rattle.std.proofs.Common.{◌≡◌, ◌⊎◌, inl, ℕ, ◌≤◌, List, [], ◌∷◌, ◌++◌, map, length, Bool, true, false, Option, Some, None, option_map, refl, sym, ◌∙◌, ap, subst, arith}
use Rattle.std.specs.Prelude.{Contains}
use Rattle.std.proofs.lemmas.List.Elements.{All-contains}
use Rattle.ab_term.specs.Types.{Ty, prop}
use Rattle.ab_term.specs.Terms.{Nominal, Variable, Read}
use Rattle.ab_term.specs.Typing.{Signature, HasType}
use Rattle.ab_term.specs.Names.{support, rename, permute, moved_by}
use Rattle.ab_term.specs.Translation.{forget}
use Rattle.ab_term.specs.Variables.{Substitution, variables, value_in, image, image_by, IsTyped}
use Rattle.ab_term.specs.Sameness.{same_number}
use Rattle.ab_term.proofs.Lists.{Contains-none, Contains-here, Contains-there, Contains-map}
use Rattle.ab_term.proofs.Depends.{image_agrees}
use Rattle.ab_term.proofs.Renamings.{rename-image_by, rename_typed}
use Rattle.ab_term.proofs.Permuting.{Each, moved, OfOneType, moved_each, moved_type, rename_agrees, same_up_to_names}
use Rattle.ab_term.proofs.UpToNames.{rename-itself}
use Rattle.ab_term.proofs.Translations.{translate-rename}
use Rattle.ab_unifiers.specs.Replacements.{Cell, holds}
use Rattle.ab_unifiers.specs.Unifiers.{AreTyped, AllHoldCells, Unifies, keys}
use Rattle.ab_unifiers.proofs.Following.{plain, image_plain}
use Rattle.ab_unifiers.specs.Choices.{in_order, for_each}
use Rattle.ab_unifiers.proofs.Choosing.{ordered_contains, ordered_pairs}
use Rattle.ab_formulas.specs.Declarations.{Declarations, signature_in}
use Rattle.ab_formulas.specs.Forms.{Form, truth, falsity, both, either, implies, equal, for_all, exists, nabla, marked, other, form_of}
use Rattle.ab_formulas.specs.Marks.{MarksServe, MarksServeIn, marks_of, erased}
use Rattle.ab_search_trees.specs.Goals.{Goal, Now, asking, assuming}
use Rattle.ab_search_trees.specs.Maps.{maps}
use Rattle.ab_search_trees.specs.Ways.{Way, in_turn, leading_to, equating, by_truth, by_hypothesis}
use Rattle.ab_search_trees.specs.Tree.{Serve}
use Rattle.ab_search_trees.specs.Shown.{Shown, by_truth as shown_truth, by_hypothesis as shown_hypothesis, by_equality as shown_equality, by_both as shown_both, by_left as shown_left, by_right as shown_right, by_assuming as shown_assuming}
use Rattle.ab_search_trees.proofs.Facts.{IsPart, AllParts, IsTask, AllTasks, all_parts_both, FormFacts, form_facts}
use Rattle.ab_search_trees.proofs.Growing.{IsGrown}
use Rattle.ab_search_trees.proofs.Carried.{AreFlexible}
use Rattle.ab_search_trees.proofs.Unmarked.{erased_typed, variables_rename, makes_erased, marks_made_same}
use Rattle.ab_search_trees.proofs.Mapped.{mapped_each}
use Rattle.ab_search_trees.proofs.Hypotheses.{erased_names, erased_variables}
use Rattle.ab_search_trees.proofs.Against.{amid}
use Rattle.ab_search_trees.proofs.Images.{form_under, form_image}
use Rattle.ab_search_trees.proofs.Exact.{map_right}

-- what is put in from here on: closed terms without constants, for variables that may be replaced or are made later
pub record IsLater (sg : Signature) (now : Now) (r : Substitution ℕ (List ℕ)) : Type 0 where
  pub typed : IsTyped sg r
  pub nameless : (y : Variable ℕ) (v : Read) → value_in same_number r y ≡ Some v → support v ≡ []
  pub within : (y : Variable ℕ) → holds (keys r) y ≡ true → (holds now.flexible y ≡ true) ⊎ (length now.cells ≤ y.name)

module _ (D : Declarations) where
  abbrev pub AllShown : Substitution ℕ (List ℕ) → List Goal → Type 0
  AllShown r [] = Unit {0}
  AllShown r (g ∷ gs) = Shown D (map (image same_number r) g.hypotheses) (image same_number r g.conclusion) × AllShown r gs

  -- A WAY IS FINE: its equations are typed and over its variables, its goals are known, and it shows the goal
  pub record IsFine (now : Now) (g : Goal) (w : Way) : Type 0 where
    pub typed : AreTyped (signature_in D) w.equations
    pub over : AllHoldCells w.cells w.equations
    pub flexible : AreFlexible (amid D now w)
    pub grown : IsGrown now (amid D now w) (λ y. None) (λ y. None)
    pub newer : (y : Variable ℕ) → holds w.flexible y ≡ true → (holds now.flexible y ≡ true) ⊎ (length now.cells ≤ y.name)
    pub longer : length now.cells ≤ length w.cells
    pub tasks : AllTasks (signature_in D) (amid D now w) w.goals
    pub shows : (r : Substitution ℕ (List ℕ)) → IsLater (signature_in D) (amid D now w) r → Unifies r w.equations → Serve w → AllShown r w.goals → Shown D (map (image same_number r) g.hypotheses) (image same_number r g.conclusion)

  abbrev pub EachFine : Now → Goal → List Way → Type 0
  EachFine now g [] = Unit {0}
  EachFine now g (w ∷ ws) = IsFine now g w × EachFine now g ws

  pub fine_both : (now : Now) (g : Goal) (vs ws : List Way) → EachFine now g vs → EachFine now g ws → EachFine now g (vs ++ ws)
  fine_both now g [] ws a b = b
  fine_both now g (v ∷ vs) ws a b = (a.0, fine_both now g vs ws a.1 b)

  pub fine_map : {X : Type 0} (now : Now) (g : Goal) (f : X → Way) (xs : List X) → ((x : X) → Contains xs x → IsFine now g (f x)) → EachFine now g (map f xs)
  fine_map now g f [] a = tt
  fine_map now g f (x ∷ xs) a = (a x (Contains-here x xs), fine_map now g f xs (λ y m. a y (Contains-there x xs y m)))

  module _ (now : Now) (flexible : AreFlexible now) (g : Goal) (t : IsTask (signature_in D) now g) where
    same_grown : IsGrown now now (λ y. None) (λ y. None)
    same_grown = record { cells = ([], nothing_more now.cells); fixed = λ y l e. e; same = λ y l. refl }
      where
        nothing_more : (cs : List (Cell (List ℕ))) → cs ≡ cs ++ []
        nothing_more [] = refl
        nothing_more (c ∷ cs) = ap (λ l. c ∷ l) (nothing_more cs)

    -- the form of the goal under what is put in
    pub formed : (r : Substitution ℕ (List ℕ)) (k : Form) → form_of g.conclusion ≡ k → form_of (image same_number r g.conclusion) ≡ form_under r k
    formed r k e = form_image r g.conclusion t.conclusion.formula.stands ∙ ap (form_under r) e

    -- a way without variables and equations
    pub leading_fine : (gs : List Goal) → AllTasks (signature_in D) now gs
        → ((r : Substitution ℕ (List ℕ)) → IsLater (signature_in D) now r → AllShown r gs → Shown D (map (image same_number r) g.hypotheses) (image same_number r g.conclusion)) → IsFine now g (leading_to D now g gs)
    leading_fine gs ts f = record {
      typed = tt;
      over = tt;
      flexible = flexible;
      grown = same_grown;
      newer = λ y h. inl h;
      longer = omega arith;
      tasks = ts;
      shows = λ r l u v s. f r l s;
    }

    truth_fine : (k : Form) → form_of g.conclusion ≡ k → EachFine now g (by_truth D now g k)
    truth_fine truth e = (leading_fine [] tt (λ r l s. shown_truth (formed r truth e)), tt)
    truth_fine falsity e = tt
    truth_fine (both A B) e = tt
    truth_fine (either A B) e = tt
    truth_fine (implies A B) e = tt
    truth_fine (equal A v w) e = tt
    truth_fine (for_all A F) e = tt
    truth_fine (exists A F) e = tt
    truth_fine (nabla A F) e = tt
    truth_fine (marked m A) e = tt
    truth_fine other e = tt

    asked_task : (A : Read) → IsPart (signature_in D) now g.constants g.untouched A → IsTask (signature_in D) now (asking A g)
    asked_task A p = record { conclusion = p; hypotheses = t.hypotheses }

    known : FormFacts (signature_in D) now g.constants g.untouched (form_of g.conclusion)
    known = form_facts (signature_in D) now g.constants g.untouched g.conclusion t.conclusion

    pub both_fine : (A B : Read) → form_of g.conclusion ≡ both A B → FormFacts (signature_in D) now g.constants g.untouched (both A B) → (b : Bool) → IsFine now g (leading_to D now g (in_turn b (asking A g) (asking B g)))
    both_fine A B e p true = leading_fine (asking B g ∷ asking A g ∷ []) (asked_task B p.1, (asked_task A p.0, tt)) (λ r l s. shown_both (formed r (both A B) e) s.1.0 s.0)
    both_fine A B e p false = leading_fine (asking A g ∷ asking B g ∷ []) (asked_task A p.0, (asked_task B p.1, tt)) (λ r l s. shown_both (formed r (both A B) e) s.0 s.1.0)

    pub left_fine : (A B : Read) → form_of g.conclusion ≡ either A B → FormFacts (signature_in D) now g.constants g.untouched (either A B) → IsFine now g (leading_to D now g (asking A g ∷ []))
    left_fine A B e p = leading_fine (asking A g ∷ []) (asked_task A p.0, tt) (λ r l s. shown_left (formed r (either A B) e) s.0)

    pub right_fine : (A B : Read) → form_of g.conclusion ≡ either A B → FormFacts (signature_in D) now g.constants g.untouched (either A B) → IsFine now g (leading_to D now g (asking B g ∷ []))
    right_fine A B e p = leading_fine (asking B g ∷ []) (asked_task B p.1, tt) (λ r l s. shown_right (formed r (either A B) e) s.0)

    pub assuming_fine : (A B : Read) → form_of g.conclusion ≡ implies A B → FormFacts (signature_in D) now g.constants g.untouched (implies A B) → IsFine now g (leading_to D now g (asking B (assuming A g) ∷ []))
    assuming_fine A B e p = leading_fine (asking B (assuming A g) ∷ [])
        (record { conclusion = p.1; hypotheses = all_parts_both (signature_in D) now g.constants g.untouched g.hypotheses (A ∷ []) t.hypotheses (p.0, tt) }, tt)
        (λ r l s. shown_assuming (formed r (implies A B) e) (subst (λ Hs. Shown D Hs (image same_number r B)) (mapped_more (image same_number r) g.hypotheses A) s.0))
      where
        mapped_more : (f : Read → Read) (Hs : List Read) (A : Read) → map f (Hs ++ A ∷ []) ≡ map f Hs ++ f A ∷ []
        mapped_more f [] A = refl
        mapped_more f (H ∷ Hs) A = ap (λ l. f H ∷ l) (mapped_more f Hs A)

    pub equal_fine : (A : Ty) (v w : Read) → form_of g.conclusion ≡ equal A v w → FormFacts (signature_in D) now g.constants g.untouched (equal A v w) → IsFine now g (equating D now g v w [])
    equal_fine A v w e p = record {
      typed = (([], A, p.0, p.1), tt);
      over = (p.2.over, p.3.over, tt);
      flexible = flexible;
      grown = same_grown;
      newer = λ y h. inl h;
      longer = omega arith;
      tasks = tt;
      shows = λ r l u sv s. shown_equality (formed r (equal A v w) e) u.0;
    }

    -- what is put in changes no mark, and goes past what is erased
    makes_image : (r : Substitution ℕ (List ℕ)) (C : Read) → image_by (plain r) (forget C) ≡ forget (image same_number r C)
    makes_image r C = sym (image_plain r C)

    later_renamed : (r : Substitution ℕ (List ℕ)) → IsLater (signature_in D) now r → (p : Nominal → Nominal) (C : Read) → rename p (image same_number r C) ≡ image same_number r (rename p C)
    later_renamed r l p C = rename-image_by p (value_in same_number r) C ∙ image_agrees (λ x. option_map (rename p) (value_in same_number r x)) (value_in same_number r) (rename p C) (λ y c. value y (value_in same_number r y) refl)
      where
        value : (y : Variable ℕ) (o : Option Read) → value_in same_number r y ≡ o → option_map (rename p) (value_in same_number r y) ≡ value_in same_number r y
        value y None e = ap (option_map (rename p)) e ∙ sym e
        value y (Some v) e = ap (option_map (rename p)) e ∙ ap Some (rename_agrees p (λ a. a) v (λ a m. absurd (Contains-none a (subst (λ l. Contains l a) (l.nameless y v e) m))) ∙ rename-itself v) ∙ sym e

    hypothesis_fine : (E : Read) → Contains g.hypotheses E → IsPart (signature_in D) now g.constants g.untouched E → (ps : List (Nominal × Nominal)) → Contains (maps (in_order (support E)) g.constants) ps
        → IsFine now g (equating D now g (permute ps (erased E)) (erased g.conclusion) ((g.conclusion, E) ∷ []))
    hypothesis_fine E there part ps m =
        let S = in_order (support E) in
        let right = map_right S g.constants (ordered_pairs (support E)) ps m in
        let ns = right.0 in
        let one_type : OfOneType S ns = turned S ns right.2 in
        let p = moved S ns in
        let L = permute ps (erased E) in
        let renamed : L ≡ rename p (erased E) = rename_agrees (moved_by ps) p (erased E) (λ b k. ap (λ qs. moved_by qs b) right.1 ∙ mapped_each p S ns (moved_each S ns one_type (ordered_pairs (support E)) right.3) b (ordered_contains (support E) b (erased_names E b k))) in
        record {
          typed = (([], prop, subst (λ k. HasType (signature_in D) [] k prop) (sym renamed) (renamed_typed S ns one_type E part), erased_typed (signature_in D) t.conclusion.formula.typed), tt);
          over = (
            (λ y k. part.facts.over y (erased_variables E y (subst (λ l. Contains l y) (variables_rename p (erased E)) (subst (λ j. Contains (variables j) y) renamed k)))),
            (λ y k. t.conclusion.facts.over y (erased_variables g.conclusion y k)),
            tt,
          );
          flexible = flexible;
          grown = same_grown;
          newer = λ y h. inl h;
          longer = omega arith;
          tasks = tt;
          shows = λ r l u sv s.
              let E2 = image same_number r E in
              let C2 = image same_number r g.conclusion in
              let same : forget (rename p (erased E2)) ≡ forget (erased C2) =
              translate-rename (λ v. v) (λ y. tt) p (erased E2)
              ∙ ap (rename p) (sym (makes_erased (plain r) E E2 part.formula.stands (makes_image r E)) ∙ makes_image r (erased E))
              ∙ sym (translate-rename (λ v. v) (λ y. tt) p (image same_number r (erased E)))
              ∙ ap forget (later_renamed r l p (erased E) ∙ ap (image same_number r) (sym renamed))
              ∙ u.0
              ∙ sym (makes_image r (erased g.conclusion))
              ∙ makes_erased (plain r) g.conclusion C2 t.conclusion.formula.stands (makes_image r g.conclusion) in
              let serves : MarksServeIn g.conclusion E = All-contains (λ (q : Read × Read). MarksServeIn q.0 q.1) ((g.conclusion, E) ∷ []) (g.conclusion, E) sv (Contains-here (g.conclusion, E) []) in
              shown_hypothesis E2 (Contains-map (image same_number r) g.hypotheses E there) (same_up_to_names S ns one_type (erased E2) (erased C2) same)
              (subst (λ k. MarksServe k (marks_of E2)) (marks_made_same (plain r) g.conclusion C2 t.conclusion.formula.stands (makes_image r g.conclusion)) (subst (λ k. MarksServe (marks_of g.conclusion) k) (marks_made_same (plain r) E E2 part.formula.stands (makes_image r E)) serves));
        }
      where
        turned : (bs ks : List Nominal) → Each (λ (b : Nominal) (n : Nominal). n.type ≡ b.type) bs ks → OfOneType bs ks
        turned [] [] e = tt
        turned [] (k ∷ ks) e = absurd e
        turned (b ∷ bs) [] e = absurd e
        turned (b ∷ bs) (k ∷ ks) e = (sym e.0, turned bs ks e.1)

        renamed_typed : (S ns : List Nominal) → OfOneType S ns → (E : Read) → IsPart (signature_in D) now g.constants g.untouched E → HasType (signature_in D) [] (rename (moved S ns) (erased E)) prop
        renamed_typed S ns o E part = rename_typed (signature_in D) (moved S ns) (moved_type S ns o) (erased_typed (signature_in D) part.formula.typed)

    hypotheses_fine : (Es : List Read) → ((E : Read) → Contains Es E → Contains g.hypotheses E) → AllParts (signature_in D) now g.constants g.untouched Es → EachFine now g (for_each (by_hypothesis D now g) Es)
    hypotheses_fine [] m p = tt
    hypotheses_fine (E ∷ Es) m p = fine_both now g (by_hypothesis D now g E) (for_each (by_hypothesis D now g) Es)
        (fine_map now g (λ ps. equating D now g (permute ps (erased E)) (erased g.conclusion) ((g.conclusion, E) ∷ [])) (maps (in_order (support E)) g.constants) (λ ps k. hypothesis_fine E (m E (Contains-here E Es)) p.0 ps k))
        (hypotheses_fine Es (λ F k. m F (Contains-there E Es F k)) p.1)

    pub front_fine : EachFine now g (by_truth D now g (form_of g.conclusion) ++ for_each (by_hypothesis D now g) g.hypotheses)
    front_fine = fine_both now g (by_truth D now g (form_of g.conclusion)) (for_each (by_hypothesis D now g) g.hypotheses) (truth_fine (form_of g.conclusion) refl) (hypotheses_fine g.hypotheses (λ E k. k) t.hypotheses)
