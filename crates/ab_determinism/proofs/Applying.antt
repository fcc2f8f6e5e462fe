-- The row of `apply` has one answer, in goals that are one but for the numbers.
use Rattle.std.specs.Prelude.{All, Contains, IfSome, nat_lt}
use Rattle.std.proofs.Common.{◌≡◌, inl, inr, ℕ, suc, List, [], ◌∷◌, ◌++◌, map, length, Bool, Option, Some, None, option_map, refl, sym, ◌∙◌, ap, subst}
use Rattle.std.proofs.lemmas.List.Elements.{All-nil, All-cons, All-head, All-tail, All-contains, Contains-append_left, Contains-append_right, Contains-append_cases}
use Rattle.ab_term.specs.Terms.{Nominal, Read}
use Rattle.ab_term.specs.Typing.{typed_spine, take_none, take_term}
use Rattle.ab_term.specs.Names.{support}
use Rattle.ab_term.specs.Variables.{variables}
use Rattle.ab_term.proofs.Lists.{Contains-none, All-from_contains}
use Rattle.ab_term.proofs.Translations.{map-append, support-translate}
use Rattle.ab_grammar.specs.CommandTrees.{Instance, Argument, apply}
use Rattle.ab_grammar.specs.CommandTrees as command
use Rattle.ab_unifiers.specs.Clauses.{Each}
use Rattle.ab_formulas.specs.Declarations.{Declarations, HaveSentences, signature_in}
use Rattle.ab_formulas.specs.NewNames.{Label, auto, given, Names}
use Rattle.ab_formulas.specs.Sequents.{Variable, Sequent, IsSequent, formula_of, goal_names, in_terms, proving}
use Rattle.ab_theory.proofs.RulesParts.{MayStand}
use Rattle.ab_theory.proofs.Sequents.{IsGoal, goal_of, found_may, names_more, proving_goal}
use Rattle.ab_formulas.specs.NamedGoals.{Goal, Named, name_in, with_names, named}
use Rattle.ab_theory.specs.Pieces.{Piece, Given, pieces, antecedent_count, AllServe}
use Rattle.ab_theory.specs.Uses.{right_side, implied, Aim}
use Rattle.ab_theory.specs.UseAnswers.{Using, IsUsedFor, awaited, result_in}
use Rattle.ab_infer.specs.Lists.{HasLists}
use Rattle.ab_effects.specs.ProofCommands.{effect, clashing, missing, giving, marked_so, left_to_show}
use Rattle.ab_effects.specs.Openings.{Opened}
use Rattle.ab_meaning.specs.Refusals.{no_hypothesis, names_spent}
use Rattle.ab_effects.specs.Row.{Row, leads, makes}
use Rattle.ab_effects.specs.FormulaUses.{formula_named, names_in, formulas_in, itself, given_that, OpenedBeside, NamelessBeside, using}
use Rattle.ab_determinism.specs.UsesByNames.{IsSameIfAny}
use Rattle.ab_determinism.proofs.Namings.{same_constants}
use Rattle.ab_determinism.proofs.Alike.{Alike, flipped}
use Rattle.ab_determinism.proofs.OneWay.{opened_once, opened_or_not}
use Rattle.ab_determinism.proofs.Renumbered.{renumber, renumbered}
use Rattle.ab_determinism.proofs.Retold.{KeepsNames, goal_named, formula_told, clashing_told, missing_told}
use Rattle.ab_determinism.proofs.Retold as retold
use Rattle.ab_determinism.proofs.Pieces.{piece_moved, pieces_moved, antecedent_count_moved, given_moved, all_serve_same}
use Rattle.ab_determinism.proofs.Rows.{AreOnce, once_leads, once_unless, once_finds, once_makes, once_marked}
use Rattle.ab_determinism.proofs.Giving.{constants_of, MayGive, AreGiven, all_closed, once_giving, constants_moved, given_also}
use Rattle.ab_determinism.proofs.Chaining.{once_left_to_show, right_of, right_told, proving_named, awaited_named, formula_may, formula_named_moved, same_term, same_use}
use Rattle.ab_determinism.proofs.LeftOver.{implied_may, IsLeftOver, result_left}

-- OPENING LEAVES THE CONCLUSION
names_conclusion : (l : Label) (s : Sequent) (x : List ℕ) (v : Sequent) → Names l s x v → v.conclusion ≡ s.conclusion
names_conclusion auto s x v n = ap (λ (g : Sequent). g.conclusion) n.3
names_conclusion (given z) s x v n = ap (λ (g : Sequent). g.conclusion) n.2

opened_conclusion : {D : Declarations} {Fs : List Read} {l m : Label} {s v : Sequent} → Opened D Fs l s m v → v.conclusion ≡ s.conclusion
opened_conclusion Opened.none = refl
opened_conclusion (Opened.nothing e d) = opened_conclusion d
opened_conclusion (Opened.parts e d) = opened_conclusion d
opened_conclusion (Opened.variable e k d) = opened_conclusion d ∙ ap (λ (g : Sequent). g.conclusion) k.goal
opened_conclusion (Opened.constant e least d) = opened_conclusion d
opened_conclusion {l = l} {s = s} (Opened.hypothesis x w h n d) = opened_conclusion d ∙ names_conclusion l s x w n

-- A CONCLUSION WHERE TERMS THAT ARE GIVEN EQUAL THEMSELVES

abbrev unwrapped : List Given → Named → Named
unwrapped [] F = F
unwrapped (g ∷ gs) F = unwrapped gs (right_of F)

that_told : (xs : List Variable) (gs : List Given) (C : Read) → unwrapped gs (with_names xs (given_that gs C)) ≡ with_names xs C
that_told xs [] C = refl
that_told xs (g ∷ gs) C = that_told xs gs C

module _ (f : ℕ → ℕ) where
  that_moved : (gs : List Given) (C : Read) → renumber f (given_that gs C) ≡ given_that (map (given_moved f) gs) (renumber f C)
  that_moved [] C = refl
  that_moved (g ∷ gs) C = ap (implied (itself (given_moved f g))) (that_moved gs C)

  unwrapped_moved : (gs : List Given) (F : Named) → unwrapped (map (given_moved f) gs) F ≡ unwrapped gs F
  unwrapped_moved [] F = refl
  unwrapped_moved (g ∷ gs) F = unwrapped_moved gs (right_of F)

-- it may stand in the goal
module _ (D : Declarations) (s : Sequent) (ps : List Piece) (N : List Nominal) where
  abbrev In : List Nominal → Type 0
  In ns = (a : Nominal) → Contains ns a → Contains N a

  itself_may : (g : Given) → MayGive D s ps g → In (support g.value) → MayStand (signature_in D) s.variables N (itself g)
  itself_may g m within = record {
    formula = record { typed = typed_spine refl (take_term m.typed (take_term m.typed take_none)); stands = (tt, (tt, (tt, tt))) };
    closed = All-from_contains (Contains (map in_terms s.variables)) (variables (itself g)) (λ z c. elim (Contains-append_cases (variables g.value) (variables g.value ++ []) z c) [
      | inl k ↦ All-contains (Contains (map in_terms s.variables)) (variables g.value) z m.closed k
      | inr k ↦ elim (Contains-append_cases (variables g.value) [] z k) [ inl j ↦ All-contains (Contains (map in_terms s.variables)) (variables g.value) z m.closed j | inr j ↦ absurd (Contains-none z j) ]
    ]);
    names = λ a c. elim (Contains-append_cases (support g.value) (support g.value ++ []) a c) [
      | inl k ↦ within a k
      | inr k ↦ elim (Contains-append_cases (support g.value) [] a k) [ inl j ↦ within a j | inr j ↦ absurd (Contains-none a j) ]
    ];
  }

  that_may : (gs : List Given) (C : Read) → All (MayGive D s ps) gs → In (constants_of gs) → MayStand (signature_in D) s.variables N C → MayStand (signature_in D) s.variables N (given_that gs C)
  that_may [] C all within may = may
  that_may (g ∷ gs) C all within may =
      implied_may (signature_in D) s.variables N (itself g) (given_that gs C)
      (itself_may g (All-head (MayGive D s ps) g gs all) (λ a c. within a (Contains-append_left (support g.value) (constants_of gs) a c)))
      (that_may gs C (All-tail (MayGive D s ps) g gs all) (λ a c. within a (Contains-append_right (support g.value) (constants_of gs) a c)) may)

  that_goal : (gs : List Given) → AreGiven D s ps gs → In (goal_names s) → In (constants_of gs) → IsSequent D s → IsGoal D N (proving (given_that gs s.conclusion) s)
  that_goal gs known held within is =
      let goal = names_more D (goal_names s) N held s (goal_of D s is) in
      proving_goal D N s (given_that gs s.conclusion) goal (that_may gs s.conclusion known.each within goal.conclusion)

-- THE HYPOTHESES THAT ARE NAMED
hypotheses_may : (D : Declarations) (s : Sequent) → IsSequent D s → (vs : List Argument) → All (λ o. IfSome o (MayStand (signature_in D) s.variables (goal_names s))) (formulas_in s vs)
hypotheses_may D s is [] = All-nil (λ o. IfSome o (MayStand (signature_in D) s.variables (goal_names s)))
hypotheses_may D s is (command.named H ∷ vs) =
    All-cons (λ o. IfSome o (MayStand (signature_in D) s.variables (goal_names s))) (formula_of s H) (formulas_in s vs) (go (formula_of s H) refl) (hypotheses_may D s is vs)
  where
    go : (o : Option Read) → formula_of s H ≡ o → IfSome o (MayStand (signature_in D) s.variables (goal_names s))
    go None e = tt
    go (Some F) e = found_may D (goal_names s) s H F (goal_of D s is) e
hypotheses_may D s is (command.hole ∷ vs) = All-cons (λ o. IfSome o (MayStand (signature_in D) s.variables (goal_names s))) None (formulas_in s vs) tt (hypotheses_may D s is vs)

as_long : (s : Sequent) (vs : List Argument) → length (formulas_in s vs) ≡ length vs
as_long s [] = refl
as_long s (command.named H ∷ vs) = ap (λ n. suc n) (as_long s vs)
as_long s (command.hole ∷ vs) = ap (λ n. suc n) (as_long s vs)

result_named : (s u : Sequent) (hs ks : List (Option Read)) → Each (IsSameIfAny s u) hs ks → (K L : Read) → with_names s.variables K ≡ with_names u.variables L → with_names s.variables (result_in hs K) ≡ with_names u.variables (result_in ks L)
result_named s u [] [] alike K L e = e
result_named s u [] (k ∷ ks) alike K L e = absurd alike
result_named s u (h ∷ hs) [] alike K L e = absurd alike
result_named s u (None ∷ hs) (None ∷ ks) alike K L e = result_named s u hs ks alike.1 (right_side K) (right_side L) (right_told s.variables K ∙ ap right_of e ∙ sym (right_told u.variables L))
result_named s u (None ∷ hs) (Some G ∷ ks) alike K L e = absurd alike.0
result_named s u (Some F ∷ hs) (None ∷ ks) alike K L e = absurd alike.0
result_named s u (Some F ∷ hs) (Some G ∷ ks) alike K L e = result_named s u hs ks alike.1 K L e

module _ (D : Declarations) (lists : HasLists D) (sentences : HaveSentences D) (s : Sequent) (f : ℕ → ℕ) (is : IsSequent D s) (its : IsSequent D (renumbered f s)) (names : KeepsNames f s.variables) where
  abbrev u : Sequent
  u = renumbered f s

  same : named s ≡ named u
  same = goal_named f s names

  abbrev sg_of : Sequent → Read → Type 0
  sg_of q = MayStand (signature_in D) q.variables (goal_names q)

  abbrev options_moved : List (Option Read) → List (Option Read)
  options_moved = map (option_map (renumber f))

  formulas_moved : (vs : List Argument) → formulas_in u vs ≡ options_moved (formulas_in s vs)
  formulas_moved [] = refl
  formulas_moved (command.named H ∷ vs) = ap (λ o. o ∷ formulas_in u vs) (formula_told f s H) ∙ ap (λ l. option_map (renumber f) (formula_of s H) ∷ l) (formulas_moved vs)
  formulas_moved (command.hole ∷ vs) = ap (λ l. None ∷ l) (formulas_moved vs)

  options_same : (os : List (Option Read)) → All (λ o. IfSome o (sg_of s)) os → Each (IsSameIfAny s u) os (options_moved os)
  options_same [] all = tt
  options_same (None ∷ os) all = (tt, options_same os (All-tail (λ o. IfSome o (sg_of s)) None os all))
  options_same (Some F ∷ os) all =
      let may : sg_of s F = All-head (λ o. IfSome o (sg_of s)) (Some F) os all in
      (same_term D lists sentences s f is its names F may.closed, options_same os (All-tail (λ o. IfSome o (sg_of s)) (Some F) os all))

  abbrev aim_for : List (Option Read) → Aim
  aim_for hs = record { hypotheses = hs; conclusion = None }

  abbrev opened : Label → Sequent → List Given → List (Option Read) → Read → Row
  opened l q gs hs K =
      makes {A = Sequent} (OpenedBeside D gs (result_in hs K) l q) (λ c. NamelessBeside D gs (result_in hs K) l q × (c ≡ names_spent)) (λ t.
      leads (map (λ A. proving A q) (awaited hs K) ++ t ∷ []))

  -- WHAT IS LEFT IS OPENED
  module _ (l : Label) (gs : List Given) (ps : List Piece) (known : AreGiven D s ps gs) (hs : List (Option Read)) (hypotheses : All (λ o. IfSome o (sg_of s)) hs) (K L : Read) (told : with_names s.variables K ≡ with_names u.variables L)
      (first : IsLeftOver D s gs (result_in hs K)) (second : IsLeftOver D u (map (given_moved f) gs) (result_in (options_moved hs) L)) where
    abbrev ks : List (Option Read)
    ks = options_moved hs

    abbrev others : List Given
    others = map (given_moved f) gs

    abbrev N : List Nominal
    N = first.constants

    abbrev R : Read
    R = result_in hs K

    abbrev E : Read
    E = result_in ks L

    abbrev here : Sequent
    here = proving (given_that gs s.conclusion) s

    abbrev there : Sequent
    there = proving (given_that others u.conclusion) u

    results : with_names s.variables R ≡ with_names u.variables E
    results = result_named s u hs ks (options_same hs hypotheses) K L told

    results_hold : support E ≡ support R
    results_hold = sym (support-translate (name_in u.variables) (λ h. h) E) ∙ ap support (sym results) ∙ support-translate (name_in s.variables) (λ h. h) R

    held : (a : Nominal) → Contains (goal_names s) a → Contains N a
    held a c = first.held a (Contains-append_left (goal_names s) (constants_of gs) a c)

    within : (a : Nominal) → Contains (constants_of gs) a → Contains N a
    within a c = first.held a (Contains-append_right (goal_names s) (constants_of gs) a c)

    alike : Alike D N here (R ∷ []) there (E ∷ [])
    alike = record {
      goals =
          proving_named (given_that gs s.conclusion) (given_that others u.conclusion) s u same
          (retold.formula_named f s names (given_that gs s.conclusion) ∙ ap (with_names u.variables) (that_moved f gs s.conclusion));
      formulas = ap (λ F. F ∷ []) results;
      one = first.one_type;
      first = record {
        goal = that_goal D s ps N gs known held within is;
        formulas = All-cons (MayStand (signature_in D) s.variables N) R [] first.may (All-nil (MayStand (signature_in D) s.variables N));
      };
      second = record {
        goal =
            that_goal D u (map (piece_moved f) ps) N others (given_also D lists s f is its names ps gs known)
            (λ a c. held a (subst (λ ns. Contains ns a) (sym (same_constants s u same)) c))
            (λ a c. within a (subst (λ ns. Contains ns a) (constants_moved D lists s f is its names gs) c)) its;
        formulas = All-cons (MayStand (signature_in D) u.variables N) E []
            (record { formula = second.may.formula; closed = second.may.closed; names = λ a c. first.may.names a (subst (λ ns. Contains ns a) results_hold c) }) (All-nil (MayStand (signature_in D) u.variables N));
      };
    }

    conclusions : (v w : Sequent) → named v ≡ named w → v.conclusion ≡ given_that gs s.conclusion → w.conclusion ≡ given_that others u.conclusion → with_names v.variables s.conclusion ≡ with_names w.variables u.conclusion
    conclusions v w one is_first is_second =
        sym (that_told v.variables gs s.conclusion)
        ∙ ap (λ F. unwrapped gs (with_names v.variables F)) (sym is_first)
        ∙ ap (λ (g : Goal). unwrapped gs g.conclusion) one
        ∙ ap (λ F. unwrapped gs (with_names w.variables F)) is_second
        ∙ sym (unwrapped_moved f gs (with_names w.variables (given_that others u.conclusion)))
        ∙ that_told w.variables others u.conclusion

    opened_same : (t w : Sequent) → OpenedBeside D gs R l s t → OpenedBeside D others E l u w → named t ≡ named w
    opened_same t w (m, v, d, e) (k, x, b, c) =
        let one = (opened_once d N there (E ∷ []) alike k x b).1 in
        ap named e
        ∙ proving_named s.conclusion u.conclusion v x one (conclusions v x one (opened_conclusion d) (opened_conclusion b))
        ∙ sym (ap named c)

    once_beside : AreOnce (opened l s gs hs K) (opened l u others ks L)
    once_beside =
        once_makes (OpenedBeside D gs R l s) (λ c. NamelessBeside D gs R l s × (c ≡ names_spent)) (OpenedBeside D others E l u) (λ c. NamelessBeside D others E l u × (c ≡ names_spent))
        (λ t. leads (map (λ A. proving A s) (awaited hs K) ++ t ∷ [])) (λ t. leads (map (λ A. proving A u) (awaited ks L) ++ t ∷ []))
        (λ t c m n. opened_or_not m.2 N there (E ∷ []) alike n.0)
        (λ c t m n. opened_or_not n.2 N here (R ∷ []) (flipped D N here there (R ∷ []) (E ∷ []) alike) m.0)
        (λ c d m n. m.1 ∙ sym n.1)
        (λ t w m n.
        let xs = map (λ A. proving A s) (awaited hs K) in
        let ys = map (λ A. proving A u) (awaited ks L) in
        once_leads (xs ++ t ∷ []) (ys ++ w ∷ [])
        (map-append named xs (t ∷ [])
        ∙ ap (λ gs. gs ++ named t ∷ []) (awaited_named s u same hs ks (options_same hs hypotheses) K L told)
        ∙ ap (λ g. map named ys ++ g ∷ []) (opened_same t w m n)
        ∙ sym (map-append named ys (w ∷ []))))

  abbrev applied : Label → List Instance → Sequent → List Piece → List (Option Read) → Bool → Read → Row
  applied l es q ps hs too_many F =
      giving D q ps es too_many (λ gs.
      marked_so (AllServe ps hs) (
      left_to_show (using q gs ps (aim_for hs) F) (λ K. opened l q gs hs K)))

  once_applied : (l : Label) (es : List Instance) (vs : List Argument) (F : Read) → sg_of s F → sg_of u (renumber f F)
      → AreOnce (applied l es s (pieces (length vs) F) (formulas_in s vs) (nat_lt (antecedent_count F) (length vs)) F)
      (applied l es u (map (piece_moved f) (pieces (length vs) F)) (options_moved (formulas_in s vs)) (nat_lt (antecedent_count F) (length vs)) (renumber f F))
  once_applied l es vs F may can =
      let n = length vs in
      let ps = pieces n F in
      let hs = formulas_in s vs in
      let hypotheses = hypotheses_may D s is vs in
      let there : All (λ o. IfSome o (sg_of u)) (options_moved hs) = subst (All (λ o. IfSome o (sg_of u))) (formulas_moved vs) (hypotheses_may D u its vs) in
      let long : length (options_moved hs) ≡ n = ap (λ (os : List (Option Read)). length os) (sym (formulas_moved vs)) ∙ as_long u vs in
      once_giving D lists s f is its names ps es (nat_lt (antecedent_count F) n) _ _
      (λ gs few known.
      let others = map (given_moved f) gs in
      let first : Using = using s gs ps (aim_for hs) F in
      let second : Using = using u others (map (piece_moved f) ps) (aim_for (options_moved hs)) (renumber f F) in
      let k : Row = left_to_show first (λ K. opened l s gs hs K) in
      let j : Row = left_to_show second (λ K. opened l u others (options_moved hs) K) in
      let also : AreGiven D u (pieces n (renumber f F)) others = subst (λ qs. AreGiven D u qs others) (sym (pieces_moved f n F)) (given_also D lists s f is its names ps gs known) in
      let one : AreOnce k j =
      once_left_to_show D first second
      (same_use D lists sentences s f is its names gs ps (aim_for hs) (aim_for (options_moved hs)) F (all_closed D s ps gs known) may.closed (options_same hs hypotheses) tt)
      (λ K. opened l s gs hs K) (λ K. opened l u others (options_moved hs) K)
      (λ K L m n_used e.
      once_beside l gs ps known hs hypotheses K L e
      (result_left D s F may hs hypotheses n (as_long s vs) few gs known K m)
      (result_left D u (renumber f F) can (options_moved hs) there n long (ap (λ c. nat_lt c n) (antecedent_count_moved f F) ∙ few) others also L
      (subst (λ qs. IsUsedFor (using u others qs (aim_for (options_moved hs)) (renumber f F)) L) (sym (pieces_moved f n F)) n_used))) in
      subst (λ Q. AreOnce (marked_so (AllServe ps hs) k) (marked_so Q j)) (sym (all_serve_same f ps hs)) (once_marked (AllServe ps hs) k j one))

  -- THE ROW
  pub once_apply : (l : Label) (H : List ℕ) (vs : List Argument) (es : List Instance) → AreOnce (effect D l (apply H vs es) s) (effect D l (apply H vs es) u)
  once_apply l H vs es =
      once_unless (clashing l s) (clashing l u) _ _ (sym (clashing_told f l s))
      (once_finds (no_hypothesis H) (formula_named D s H) (formula_named D u H) (renumber f) (formula_named_moved D lists sentences s f is its names H) _ _
      (λ F e.
      once_unless (missing (names_in vs) s) (missing (names_in vs) u) _ _ (sym (missing_told f (names_in vs) s))
      (let n = length vs in
      let row : Row = applied l es s (pieces n F) (formulas_in s vs) (nat_lt (antecedent_count F) n) F in
      let can = formula_may D sentences u its H (renumber f F) (formula_named_moved D lists sentences s f is its names H ∙ ap (option_map (renumber f)) e) in
      subst (λ m. AreOnce row (applied l es u (pieces n (renumber f F)) (formulas_in u vs) (nat_lt m n) (renumber f F))) (sym (antecedent_count_moved f F))
      (subst (λ ps. AreOnce row (applied l es u ps (formulas_in u vs) (nat_lt (antecedent_count F) n) (renumber f F))) (sym (pieces_moved f n F))
      (subst (λ hs. AreOnce row (applied l es u (map (piece_moved f) (pieces n F)) hs (nat_lt (antecedent_count F) n) (renumber f F))) (sym (formulas_moved vs))
      (once_applied l es vs F (formula_may D sentences s is H F e) can))))))
