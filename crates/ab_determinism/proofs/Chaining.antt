-- A formula is used in goals that are one but for the numbers: by its name, for terms that are given, and what is left taken
-- apart. And the row of `backchain` has one answer there.
use Rattle.std.specs.Prelude.{Contains, bytes_eq, if◌then◌else◌}
use Rattle.std.proofs.Common.{◌≡◌, ℕ, zero, suc, List, [], ◌∷◌, map, Bool, true, false, cond, not, Option, Some, None, option_map, refl, sym, ◌∙◌, ap, subst}
use Rattle.std.proofs.lemmas.List.Elements.{All-cons, All-head, All-tail}
use Rattle.ab_term.specs.Types.{Ty}
use Rattle.ab_term.specs.Terms.{lam, spine, no_terms, term, Read}
use Rattle.ab_term.specs.Variables.{variables}
use Rattle.ab_term.proofs.Lists.{Contains-none, All-from_contains}
use Rattle.ab_grammar.specs.CommandTrees.{Instance, backchain}
use Rattle.ab_unifiers.specs.Clauses.{Each}
use Rattle.ab_formulas.specs.Declarations.{Declarations, HaveSentences, signature_in, theorem_in}
use Rattle.ab_formulas.specs.Marks.{MarksServeIn}
use Rattle.ab_formulas.specs.NewNames.{Label}
use Rattle.ab_formulas.specs.Sequents as numbered
use Rattle.ab_formulas.specs.Sequents.{Variable, Sequent, IsSequent, HoldsOnly, formula_of, formulas, goal_names, proving}
use Rattle.ab_theory.proofs.RulesParts.{MayStand}
use Rattle.ab_theory.proofs.Sequents.{goal_of, found_may}
use Rattle.ab_formulas.specs.NamedGoals.{Named, with_names, named}
use Rattle.ab_formulas.proofs.GoalsAgreeing.{translate_agrees}
use Rattle.ab_effects.specs.Likeness.{IsSameTerm}
use Rattle.ab_theory.specs.Pieces.{Piece, Given, Part, variable_for, given_term, constant_for, antecedent, pieces, behind, antecedent_count, given_for, given_otherwise, part_for, parts}
use Rattle.ab_theory.specs.Pieces as piece
use Rattle.ab_theory.specs.Uses.{left_side, right_side, Aim}
use Rattle.ab_theory.specs.UseAnswers.{Using, IsUsedFor, awaited}
use Rattle.ab_infer.specs.Lists.{HasLists}
use Rattle.ab_effects.specs.ProofCommands.{effect, giving, marked_so, left_to_show, repeated}
use Rattle.ab_meaning.specs.Refusals.{Refusal, no_hypothesis, not_pattern, unresolved}
use Rattle.ab_effects.specs.Row.{Row, leads}
use Rattle.ab_effects.specs.FormulaUses.{formula_or, formula_named, using, IsNotUsed, apart, outside, left_open}
use Rattle.ab_determinism.specs.UsesByNames.{IsSamePart, IsSameIfAny, IsSameUse}
use Rattle.ab_determinism.proofs.Renumbered.{renumber, renumbered, itself}
use Rattle.ab_determinism.proofs.Retold.{KeepsNames, goal_named, formula_told}
use Rattle.ab_determinism.proofs.Retold as retold
use Rattle.ab_determinism.proofs.Pieces.{piece_moved, pieces_moved, behind_moved, antecedent_count_moved, given_moved, part_moved, parts_moved, serves_same}
use Rattle.ab_determinism.proofs.OneUse.{turned_use, used_once, used_or_nothing, used_or_outside, used_or_left, nothing_or_outside, nothing_or_left, outside_or_left, one_outside, one_left}
use Rattle.ab_determinism.proofs.Rows.{AreOnce, once_leads, once_finds, once_makes, once_marked}
use Rattle.ab_determinism.proofs.Giving.{AreClosed, closed_moved, all_closed, once_giving}

-- A FORMULA IS USED, or isn't for one cause
module _ (D : Declarations) (a b : Using) (same : IsSameUse D a b) where
  used_or_not : (K : Read) (c : Refusal) → IsUsedFor a K → IsNotUsed b c → ⊥
  used_or_not K c m (apart n) = used_or_nothing D a b same K m n
  used_or_not K c m (outside i n) = used_or_outside D a b same K i m n
  used_or_not K c m (left_open x n) = used_or_left D a b same K x m n

  one_cause : (c d : Refusal) → IsNotUsed a c → IsNotUsed b d → c ≡ d
  one_cause c d (apart m) (apart n) = refl
  one_cause c d (apart m) (outside i n) = absurd (nothing_or_outside D b a (turned_use D a b same) i m n)
  one_cause c d (apart m) (left_open x n) = absurd (nothing_or_left D b a (turned_use D a b same) x m n)
  one_cause c d (outside i m) (apart n) = absurd (nothing_or_outside D a b same i n m)
  one_cause c d (outside i m) (outside j n) = ap (λ k. not_pattern (suc k)) (one_outside D a b same i j m n)
  one_cause c d (outside i m) (left_open x n) = absurd (outside_or_left D a b same i x m n)
  one_cause c d (left_open x m) (apart n) = absurd (nothing_or_left D a b same x n m)
  one_cause c d (left_open x m) (outside i n) = absurd (outside_or_left D b a (turned_use D a b same) i x n m)
  one_cause c d (left_open x m) (left_open y n) = ap unresolved (one_left D a b same x y m n)

pub once_left_to_show : (D : Declarations) (a b : Using) → IsSameUse D a b → (k j : Read → Row)
    → ((K L : Read) → IsUsedFor a K → IsUsedFor b L → with_names a.goal.variables K ≡ with_names b.goal.variables L → AreOnce (k K) (j L)) → AreOnce (left_to_show a k) (left_to_show b j)
once_left_to_show D a b same k j once =
    once_makes (IsUsedFor a) (IsNotUsed a) (IsUsedFor b) (IsNotUsed b) k j
    (λ K c m n. used_or_not D a b same K c m n)
    (λ c K m n. used_or_not D b a (turned_use D a b same) K c n m)
    (λ c d m n. one_cause D a b same c d m n)
    (λ K L m n. once K L m n (used_once D a b same K L m n))

-- WHAT IS LEFT, taken apart with names for numbers

abbrev left_of : Named → Named
left_of (spine h (term A (term B no_terms))) = A
left_of F = F

abbrev pub right_of : Named → Named
right_of (spine h (term A (term B no_terms))) = B
right_of F = F

left_told : (xs : List Variable) (K : Read) → with_names xs (left_side K) ≡ left_of (with_names xs K)
left_told xs (lam A x t) = refl
left_told xs (spine h no_terms) = refl
left_told xs (spine h (term A no_terms)) = refl
left_told xs (spine h (term A (term B no_terms))) = refl
left_told xs (spine h (term A (term B (term C ts)))) = refl

pub right_told : (xs : List Variable) (K : Read) → with_names xs (right_side K) ≡ right_of (with_names xs K)
right_told xs (lam A x t) = refl
right_told xs (spine h no_terms) = refl
right_told xs (spine h (term A no_terms)) = refl
right_told xs (spine h (term A (term B no_terms))) = refl
right_told xs (spine h (term A (term B (term C ts)))) = refl

pub proving_named : (F G : Read) (s u : Sequent) → named s ≡ named u → with_names s.variables F ≡ with_names u.variables G → named (proving F s) ≡ named (proving G u)
proving_named F G s u same formulas = λ i. record { variables = (same i).variables; hypotheses = (same i).hypotheses; conclusion = formulas i; counter = (same i).counter }

pub awaited_named : (s u : Sequent) → named s ≡ named u → (hs ks : List (Option Read)) → Each (IsSameIfAny s u) hs ks → (K L : Read) → with_names s.variables K ≡ with_names u.variables L
    → map named (map (λ A. proving A s) (awaited hs K)) ≡ map named (map (λ A. proving A u) (awaited ks L))
awaited_named s u same [] [] alike K L e = refl
awaited_named s u same [] (k ∷ ks) alike K L e = absurd alike
awaited_named s u same (h ∷ hs) [] alike K L e = absurd alike
awaited_named s u same (None ∷ hs) (None ∷ ks) alike K L e =
    let left = left_told s.variables K ∙ ap left_of e ∙ sym (left_told u.variables L) in
    let right = right_told s.variables K ∙ ap right_of e ∙ sym (right_told u.variables L) in
    ap (λ g. g ∷ map named (map (λ A. proving A s) (awaited hs (right_side K)))) (proving_named (left_side K) (left_side L) s u same left)
    ∙ ap (λ l. named (proving (left_side L) u) ∷ l) (awaited_named s u same hs ks alike.1 (right_side K) (right_side L) right)
awaited_named s u same (None ∷ hs) (Some G ∷ ks) alike K L e = absurd alike.0
awaited_named s u same (Some F ∷ hs) (None ∷ ks) alike K L e = absurd alike.0
awaited_named s u same (Some F ∷ hs) (Some G ∷ ks) alike K L e = awaited_named s u same hs ks alike.1 K L e

-- THE FORMULA OF A NAME

fixed : (f : ℕ → ℕ) (F : Read) → variables F ≡ [] → renumber f F ≡ F
fixed f F none = translate_agrees f (λ n. n) (λ h. h) F (λ v c. absurd (Contains-none v (subst (λ l. Contains l v) none c))) ∙ itself F

or_moved : (f : ℕ → ℕ) (a b : Option Read) → option_map (renumber f) b ≡ b → formula_or (option_map (renumber f) a) b ≡ option_map (renumber f) (formula_or a b)
or_moved f None b e = sym e
or_moved f (Some F) b e = refl

-- it may stand in the goal
pub formula_may : (D : Declarations) → HaveSentences D → (s : Sequent) → IsSequent D s → (H : List ℕ) (F : Read) → formula_named D s H ≡ Some F → MayStand (signature_in D) s.variables (goal_names s) F
formula_may D sentences s is H F e = go (formula_of s H) (theorem_in D H) refl refl e
  where
    May : Read → Type 0
    May = MayStand (signature_in D) s.variables (goal_names s)

    go : (o p : Option Read) → formula_of s H ≡ o → theorem_in D H ≡ p → formula_or o p ≡ Some F → May F
    go (Some G) p d h k = let one : G ≡ F = cc in subst May one (found_may D (goal_names s) s H G (goal_of D s is) d)
    go None (Some G) d h k =
        let one : G ≡ F = cc in
        let sentence = sentences H G h in
        subst May one (record {
          formula = sentence.formula;
          closed = All-from_contains (Contains (map numbered.in_terms s.variables)) (variables G) (λ v c. absurd (Contains-none v (subst (λ l. Contains l v) sentence.closed c)));
          names = λ a c. absurd (Contains-none a (subst (λ l. Contains l a) sentence.nameless c));
        })
    go None None d h k = absurd (cc)

module _ (D : Declarations) (lists : HasLists D) (sentences : HaveSentences D) (s : Sequent) (f : ℕ → ℕ) (is : IsSequent D s) (its : IsSequent D (renumbered f s)) (names : KeepsNames f s.variables) where
  abbrev u : Sequent
  u = renumbered f s

  same : named s ≡ named u
  same = goal_named f s names

  theorem_fixed : (H : List ℕ) (o : Option Read) → theorem_in D H ≡ o → option_map (renumber f) o ≡ o
  theorem_fixed H None e = refl
  theorem_fixed H (Some F) e = ap (λ G. Some G) (fixed f F (sentences H F e).closed)

  pub formula_named_moved : (H : List ℕ) → formula_named D u H ≡ option_map (renumber f) (formula_named D s H)
  formula_named_moved H = ap (λ o. formula_or o (theorem_in D H)) (formula_told f s H) ∙ or_moved f (formula_of s H) (theorem_in D H) (theorem_fixed H (theorem_in D H) refl)

  pub same_term : (F : Read) → HoldsOnly s.variables F → IsSameTerm s u F (renumber f F)
  same_term F closed = record { first = closed; second = closed_moved f s.variables F closed; same = retold.formula_named f s names F }

  others_closed : (x : List ℕ) (gs : List Given) → AreClosed s gs → AreClosed s (given_otherwise x gs)
  others_closed x gs all = All-filter_closed x gs all
    where
      All-filter_closed : (x : List ℕ) (gs : List Given) → AreClosed s gs → AreClosed s (given_otherwise x gs)
      All-filter_closed x [] all = all
      All-filter_closed x (g ∷ gs) all = go (bytes_eq g.name x) (All-filter_closed x gs (All-tail (λ (h : Given). HoldsOnly s.variables h.value) g gs all))
        where
          go : (c : Bool) → AreClosed s (given_otherwise x gs) → AreClosed s (cond (not c) (g ∷ given_otherwise x gs) (given_otherwise x gs))
          go true rest = rest
          go false rest = All-cons (λ (h : Given). HoldsOnly s.variables h.value) g (given_otherwise x gs) (All-head (λ (h : Given). HoldsOnly s.variables h.value) g gs all) rest

  part_same : (x : List ℕ) (A : Ty) (gs : List Given) → AreClosed s gs → IsSamePart s u (part_for x A (given_for x gs)) (part_moved f (part_for x A (given_for x gs)))
  part_same x A [] all = (refl, refl)
  part_same x A (g ∷ gs) all = go (bytes_eq g.name x) (part_same x A gs (All-tail (λ (h : Given). HoldsOnly s.variables h.value) g gs all))
    where
      go : (c : Bool) → IsSamePart s u (part_for x A (given_for x gs)) (part_moved f (part_for x A (given_for x gs)))
          → IsSamePart s u (part_for x A (if c then Some g.value else given_for x gs)) (part_moved f (part_for x A (if c then Some g.value else given_for x gs)))
      go true rest = same_term g.value (All-head (λ (h : Given). HoldsOnly s.variables h.value) g gs all)
      go false rest = rest

  pub parts_same : (gs : List Given) (ps : List Piece) → AreClosed s gs → Each (IsSamePart s u) (parts gs ps) (map (part_moved f) (parts gs ps))
  parts_same gs [] all = tt
  parts_same gs (piece.universal_of x A ∷ ps) all = (part_same x A gs all, parts_same (given_otherwise x gs) ps (others_closed x gs all))
  parts_same gs (piece.nabla_of A ∷ ps) all = (refl, parts_same gs ps all)
  parts_same gs (piece.antecedent_of F ∷ ps) all = (tt, parts_same gs ps all)

  -- ONE USE
  pub same_use : (gs : List Given) (ps : List Piece) (first second : Aim) (F : Read) → AreClosed s gs → HoldsOnly s.variables F → Each (IsSameIfAny s u) first.hypotheses second.hypotheses → IsSameIfAny s u first.conclusion second.conclusion
      → IsSameUse D (using s gs ps first F) (using u (map (given_moved f) gs) (map (piece_moved f) ps) second (renumber f F))
  same_use gs ps first second F all closed hypotheses conclusions = record {
    first = is;
    second = its;
    goals = same;
    formulas = same_term F closed;
    parts = subst (Each (IsSamePart s u) (parts gs ps)) (sym (parts_moved f gs ps)) (parts_same gs ps all);
    hypotheses = hypotheses;
    conclusions = conclusions;
  }

  none_same : (n : ℕ) → Each (IsSameIfAny s u) (repeated n) (repeated n)
  none_same zero = tt
  none_same (suc n) = (tt, none_same n)

  abbrev chained : List Instance → Sequent → ℕ → List Piece → Read → Read → Row
  chained es q n ps B F =
      giving D q ps es false (λ gs.
      marked_so (MarksServeIn q.conclusion B) (
      left_to_show (using q gs ps (record { hypotheses = repeated n; conclusion = Some q.conclusion }) F) (λ K.
      leads (map (λ A. proving A q) (awaited (repeated n) K)))))

  once_chained : (es : List Instance) (n : ℕ) (ps : List Piece) (B F : Read) → HoldsOnly s.variables F → AreOnce (chained es s n ps B F) (chained es u n (map (piece_moved f) ps) (renumber f B) (renumber f F))
  once_chained es n ps B F closed =
      once_giving D lists s f is its names ps es false _ _
      (λ gs few are.
      let all = all_closed D s ps gs are in
      let first : Using = using s gs ps (record { hypotheses = repeated n; conclusion = Some s.conclusion }) F in
      let second : Using = using u (map (given_moved f) gs) (map (piece_moved f) ps) (record { hypotheses = repeated n; conclusion = Some u.conclusion }) (renumber f F) in
      let k : Row = left_to_show first (λ K. leads (map (λ A. proving A s) (awaited (repeated n) K))) in
      let j : Row = left_to_show second (λ K. leads (map (λ A. proving A u) (awaited (repeated n) K))) in
      let one : AreOnce k j =
      once_left_to_show D first second
      (same_use gs ps (record { hypotheses = repeated n; conclusion = Some s.conclusion }) (record { hypotheses = repeated n; conclusion = Some u.conclusion }) F all closed (none_same n)
      (same_term s.conclusion (All-head (HoldsOnly s.variables) s.conclusion (formulas s.hypotheses) is.closed)))
      (λ K. leads (map (λ A. proving A s) (awaited (repeated n) K))) (λ K. leads (map (λ A. proving A u) (awaited (repeated n) K)))
      (λ K L m j e. once_leads _ _ (awaited_named s u same (repeated n) (repeated n) (none_same n) K L e)) in
      subst (λ Q. AreOnce (marked_so (MarksServeIn s.conclusion B) k) (marked_so Q j)) (sym (serves_same f s.conclusion B)) (once_marked (MarksServeIn s.conclusion B) k j one))

  -- THE ROW
  pub once_backchain : (l : Label) (H : List ℕ) (es : List Instance) → AreOnce (effect D l (backchain H es) s) (effect D l (backchain H es) u)
  once_backchain l H es =
      once_finds (no_hypothesis H) (formula_named D s H) (formula_named D u H) (renumber f) (formula_named_moved H) _ _
      (λ F e.
      let n = antecedent_count F in
      let row : Row = chained es s n (pieces n F) (behind n F) F in
      subst (λ m. AreOnce row (chained es u m (pieces m (renumber f F)) (behind m (renumber f F)) (renumber f F))) (sym (antecedent_count_moved f F))
      (subst (λ ps. AreOnce row (chained es u n ps (behind n (renumber f F)) (renumber f F))) (sym (pieces_moved f n F))
      (subst (λ B. AreOnce row (chained es u n (map (piece_moved f) (pieces n F)) B (renumber f F))) (sym (behind_moved f n F))
      (once_chained es n (pieces n F) (behind n F) F (formula_may D sentences s is H F e).closed))))
