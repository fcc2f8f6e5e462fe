-- A conclusion is unfolded in one way, in goals that are one with names for numbers: the first way that may unfold it is one, and so
-- is what comes of it; or none does, for one cause.
use Rattle.std.specs.Prelude.{All, Contains}
use Rattle.std.proofs.Common.{◌≡◌, inl, inr, ℕ, suc, List, [], ◌∷◌, ◌++◌, map, codes, sym, ◌∙◌, ap, subst}
use Rattle.std.proofs.lemmas.List.Elements.{All-contains, Contains-append_right}
use Rattle.ab_term.specs.Terms as tree
use Rattle.ab_term.specs.Variables.{Substitution, image}
use Rattle.ab_term.specs.Sameness.{same_number}
use Rattle.ab_term.proofs.Lists.{Contains-here}
use Rattle.ab_term.specs.Terms.{Read}
use Rattle.ab_unifiers.specs.Replacements.{Cell}
use Rattle.ab_unifiers.specs.Unification.{Answer, unified, apart, stuck, Solves}
use Rattle.ab_unifiers.proofs.Unique.{unique}
use Rattle.ab_unifiers.specs.Clauses.{Each}
use Rattle.ab_formulas.specs.Declarations.{Declarations}
use Rattle.ab_formulas.specs.Sequents.{Variable, Sequent, proving}
use Rattle.ab_theory.specs.Equations.{AreCells, made}
use Rattle.ab_theory.specs.Splits.{problem_of, NeverArises, IsOpen}
use Rattle.ab_theory.specs.Subjects.{Subject, Way, ways_of, conclusion_then}
use Rattle.ab_formulas.specs.NamedGoals.{with_names, variable_named, named}
use Rattle.ab_effects.specs.Likeness.{IsSameSubject, HasItsOutcome}
use Rattle.ab_effects.proofs.Splitting.{turned}
use Rattle.ab_effects.proofs.Unfolding.{LeavesBody, ways_correspond, ways_leave_bodies}
use Rattle.ab_meaning.specs.Refusals.{Refusal, not_pattern, unresolved}
use Rattle.ab_determinism.proofs.First.{each_both, firsts_meet, all_back}
use Rattle.ab_effects.specs.Unfoldings.{IsFirst, IsMatched, IsUnfolded, HasNoMatch, IsOutsideAt, IsLeftOpen, IsNotUnfolded}

abbrev Cells : Type 0
Cells = List (Cell (List ℕ))

-- ONE CASE has one answer
module _ (cells : Cells) (w : Way) where
  answer_once : (a b : Answer (List ℕ)) → Solves (codes "x") (problem_of (w.case cells)) a → Solves (codes "x") (problem_of (w.case cells)) b → a ≡ b
  answer_once a b m n = unique (codes "x") m n

  matched_not_never : (more : Cells) (p : Substitution ℕ (List ℕ)) (left : List Variable) → IsMatched cells w more p left → NeverArises (w.case cells) → ⊥
  matched_not_never more p left (solved, e) never = let same : unified more p ≡ apart = answer_once (unified more p) apart solved never in cc

  matched_not_open : (more : Cells) (p : Substitution ℕ (List ℕ)) (left : List Variable) (i : ℕ) → IsMatched cells w more p left → IsOpen (w.case cells) i → ⊥
  matched_not_open more p left i (solved, e) open_at = let same : unified more p ≡ stuck i = answer_once (unified more p) (stuck i) solved open_at in cc

  open_not_never : (i : ℕ) → IsOpen (w.case cells) i → NeverArises (w.case cells) → ⊥
  open_not_never i open_at never = let same : stuck i ≡ apart = answer_once (stuck i) apart open_at never in cc

  one_open : (i j : ℕ) → IsOpen (w.case cells) i → IsOpen (w.case cells) j → i ≡ j
  one_open i j m n = let same : stuck i ≡ stuck j = answer_once (stuck i) (stuck j) m n in cc

-- where nothing is left open the body is the conclusion
body_alone : (cells : Cells) (s : Sequent) (x : Subject) (w : Way) → IsFirst cells s x w → (more : Cells) (p : Substitution ℕ (List ℕ)) → IsMatched cells w more p []
    → conclusion_then (w.case cells) w.closed more p ≡ image same_number p (w.case cells).goal.conclusion
body_alone cells s x w (before, after, e, all) more p (solved, none) =
    let there : Contains (ways_of s x) w = subst (λ l. Contains l w) (sym e) (Contains-append_right before (w ∷ after) w (Contains-here w after)) in
    ap (λ ys. w.closed ys (image same_number p (w.case cells).goal.conclusion)) (sym none)
    ∙ All-contains LeavesBody (ways_of s x) w (ways_leave_bodies s x) there (image same_number p (w.case cells).goal.conclusion)

-- ONE SUBJECT OF TWO GOALS that are one with names for numbers
module _ (D : Declarations) (s u : Sequent) (x y : Subject) (same : IsSameSubject D s u x y) (cells others : Cells) (are : AreCells cells s) (are_also : AreCells others u) where
  abbrev Never : Way → Type 0
  Never w = NeverArises (w.case cells)

  abbrev NeverThere : Way → Type 0
  NeverThere v = NeverArises (v.case others)

  abbrev pub AreOne : Way → Way → Type 0
  AreOne w v = HasItsOutcome s u cells others w v × HasItsOutcome u s others cells v w

  correspond : Each AreOne (ways_of s x) (ways_of u y)
  correspond =
      each_both (HasItsOutcome s u cells others) (HasItsOutcome u s others cells) (ways_of s x) (ways_of u y)
      (ways_correspond D s u x y same cells others are are_also) (ways_correspond D u s y x (turned D s u x y same) others cells are_also are)

  -- the first way that may unfold it
  pub one_way : (w v : Way) → IsFirst cells s x w → IsFirst others u y v → (Never w → ⊥) → (NeverThere v → ⊥) → AreOne w v
  one_way w v (before, after, is, all) (front, rear, its, every) not nor =
      firsts_meet AreOne Never NeverThere (λ a b r n. r.0.never n) (λ a b r n. r.1.never n) before after front rear w v
      (subst (λ l. Each AreOne l (front ++ v ∷ rear)) is (subst (Each AreOne (ways_of s x)) its correspond)) all not every nor

  -- where no way unfolds it in the second goal, none does in the first
  never_first : All NeverThere (ways_of u y) → (w : Way) → IsFirst cells s x w → Never w
  never_first all w (before, after, is, none) =
      all_back AreOne Never NeverThere (λ a b r n. r.0.never n) (λ a b r n. r.1.never n) before after (ways_of u y) w (subst (λ l. Each AreOne l (ways_of u y)) is correspond) all

  -- what comes of one way
  matched_once : (w v : Way) → AreOne w v → (more most : Cells) (p q : Substitution ℕ (List ℕ)) (left right : List Variable) → IsMatched cells w more p left → IsMatched others v most q right
      → (map variable_named left ≡ map variable_named right)
      × (with_names s.variables (image same_number p (w.case cells).goal.conclusion) ≡ with_names u.variables (image same_number q (v.case others).goal.conclusion))
  matched_once w v r more most p q left right m (also, right_is) =
      let a = r.0.matched more p left m in
      let one : unified a.0 a.1 ≡ unified most q = answer_once others v (unified a.0 a.1) (unified most q) a.3.0 also in
      let lists : a.0 ≡ most = cc in
      let answers : a.1 ≡ q = cc in (
        a.4
            ∙ ap (map variable_named) a.3.1
            ∙ ap (λ l. map variable_named (made (v.case others).before l a.1)) lists
            ∙ ap (λ b. map variable_named (made (v.case others).before most b)) answers
            ∙ sym (ap (map variable_named) right_is),
        a.5 ∙ ap (λ b. with_names u.variables (image same_number b (v.case others).goal.conclusion)) answers,
      )

proving_named : (F G : Read) (s u : Sequent) → named s ≡ named u → with_names s.variables F ≡ with_names u.variables G → named (proving F s) ≡ named (proving G u)
proving_named F G s u same formulas = λ i. record { variables = (same i).variables; hypotheses = (same i).hypotheses; conclusion = formulas i; counter = (same i).counter }

none_left : (y : Variable) (ys : List Variable) → [] ≡ map variable_named (y ∷ ys) → ⊥
none_left y ys e = cc

first_left : (x y : Variable) (xs ys : List Variable) → map variable_named (x ∷ xs) ≡ map variable_named (y ∷ ys) → x.name ≡ y.name
first_left x y xs ys e = let same : variable_named x ≡ variable_named y = cc in ap (λ (v : tree.Variable (List ℕ)). v.name) same

-- THE CONCLUSION IS UNFOLDED IN ONE WAY, or isn't for one cause
module _ (D : Declarations) (s u : Sequent) (x y : Subject) (same : IsSameSubject D s u x y) where
  pub unfolded_once : (t v : Sequent) → IsUnfolded s x t → IsUnfolded u y v → named t ≡ named v
  unfolded_once t v a b =
      let one = one_way D s u x y same a.cells b.cells a.are_cells b.are_cells a.way b.way a.first b.first
      (matched_not_never a.cells a.way a.more a.answer [] a.matched) (matched_not_never b.cells b.way b.more b.answer [] b.matched) in
      let both = matched_once D s u x y same a.cells b.cells a.are_cells b.are_cells a.way b.way one a.more b.more a.answer b.answer [] [] a.matched b.matched in
      let first : Read = image same_number a.answer (a.way.case a.cells).goal.conclusion in
      let second : Read = image same_number b.answer (b.way.case b.cells).goal.conclusion in
      ap named (a.goal ∙ ap (λ F. proving F s) (body_alone a.cells s x a.way a.first a.more a.answer a.matched))
      ∙ proving_named first second s u same.goals both.1
      ∙ sym (ap named (b.goal ∙ ap (λ F. proving F u) (body_alone b.cells u y b.way b.first b.more b.answer b.matched)))

  pub unfolded_or_not : (t : Sequent) (f : Refusal) → IsUnfolded s x t → IsNotUnfolded u y f → ⊥
  unfolded_or_not t f a (inl ((others, also, none), is)) =
      matched_not_never a.cells a.way a.more a.answer [] a.matched (never_first D s u x y same a.cells others a.are_cells also none a.way a.first)
  unfolded_or_not t f a (inr (inl (i, (others, also, v, first, open_at), is))) =
      let one = one_way D s u x y same a.cells others a.are_cells also a.way v a.first first (matched_not_never a.cells a.way a.more a.answer [] a.matched) (open_not_never others v i open_at) in
      matched_not_open a.cells a.way a.more a.answer [] i a.matched (one.1.outside i open_at)
  unfolded_or_not t f a (inr (inr (name, (others, also, v, first, most, q, z, zs, matched, is_name), is))) =
      let one = one_way D s u x y same a.cells others a.are_cells also a.way v a.first first (matched_not_never a.cells a.way a.more a.answer [] a.matched) (matched_not_never others v most q (z ∷ zs) matched) in
      none_left z zs (matched_once D s u x y same a.cells others a.are_cells also a.way v one a.more most a.answer q [] (z ∷ zs) a.matched matched).0

  none_or_outside : (i : ℕ) → HasNoMatch u y → IsOutsideAt s x i → ⊥
  none_or_outside i (others, also, none) (cells, are, w, first, open_at) = open_not_never cells w i open_at (never_first D s u x y same cells others are also none w first)

  none_or_left : (name : List ℕ) → HasNoMatch u y → IsLeftOpen s x name → ⊥
  none_or_left name (others, also, none) (cells, are, w, first, more, p, z, zs, matched, is_name) =
      matched_not_never cells w more p (z ∷ zs) matched (never_first D s u x y same cells others are also none w first)

  outside_or_left : (i : ℕ) (name : List ℕ) → IsOutsideAt s x i → IsLeftOpen u y name → ⊥
  outside_or_left i name (cells, are, w, first, open_at) (others, also, v, its, most, q, z, zs, matched, is_name) =
      let one = one_way D s u x y same cells others are also w v first its (open_not_never cells w i open_at) (matched_not_never others v most q (z ∷ zs) matched) in
      matched_not_open others v most q (z ∷ zs) i matched (one.0.outside i open_at)

  one_outside : (i j : ℕ) → IsOutsideAt s x i → IsOutsideAt u y j → i ≡ j
  one_outside i j (cells, are, w, first, open_at) (others, also, v, its, there) =
      let one = one_way D s u x y same cells others are also w v first its (open_not_never cells w i open_at) (open_not_never others v j there) in
      one_open others v i j (one.0.outside i open_at) there

  one_left : (name other : List ℕ) → IsLeftOpen s x name → IsLeftOpen u y other → name ≡ other
  one_left name other (cells, are, w, first, more, p, z, zs, matched, is_name) (others, also, v, its, most, q, k, ks, there, its_name) =
      let one = one_way D s u x y same cells others are also w v first its (matched_not_never cells w more p (z ∷ zs) matched) (matched_not_never others v most q (k ∷ ks) there) in
      is_name ∙ first_left z k zs ks (matched_once D s u x y same cells others are also w v one more most p q (z ∷ zs) (k ∷ ks) matched there).0 ∙ sym its_name

-- in either order
module _ (D : Declarations) (s u : Sequent) (x y : Subject) (same : IsSameSubject D s u x y) where
  abbrev back : IsSameSubject D u s y x
  back = turned D s u x y same

  pub not_unfolded : (t : Sequent) (f : Refusal) → IsNotUnfolded s x f → IsUnfolded u y t → ⊥
  not_unfolded t f a b = unfolded_or_not D u s y x back t f b a

  pub one_cause : (f g : Refusal) → IsNotUnfolded s x f → IsNotUnfolded u y g → f ≡ g
  one_cause f g (inl a) (inl b) = a.1 ∙ sym b.1
  one_cause f g (inl a) (inr (inl b)) = absurd (none_or_outside D u s y x back b.0 a.0 b.1)
  one_cause f g (inl a) (inr (inr b)) = absurd (none_or_left D u s y x back b.0 a.0 b.1)
  one_cause f g (inr (inl a)) (inl b) = absurd (none_or_outside D s u x y same a.0 b.0 a.1)
  one_cause f g (inr (inl a)) (inr (inl b)) = a.2 ∙ ap (λ n. not_pattern (suc n)) (one_outside D s u x y same a.0 b.0 a.1 b.1) ∙ sym b.2
  one_cause f g (inr (inl a)) (inr (inr b)) = absurd (outside_or_left D s u x y same a.0 b.0 a.1 b.1)
  one_cause f g (inr (inr a)) (inl b) = absurd (none_or_left D s u x y same a.0 b.0 a.1)
  one_cause f g (inr (inr a)) (inr (inl b)) = absurd (outside_or_left D u s y x back b.0 a.0 b.1 a.1)
  one_cause f g (inr (inr a)) (inr (inr b)) = a.2 ∙ ap unresolved (one_left D s u x y same a.0 b.0 a.1 b.1) ∙ sym b.2
