-- A formula is used in one way, in goals that are one with names for numbers: the first choice of constants that may decide is
-- one, and so is what comes of it; or none does, for one cause.
use Rattle.std.specs.Prelude.{codes, All, Contains}
use Rattle.std.proofs.Common.{◌≡◌, ℕ, List, [], ◌∷◌, map, Option, Some, None, sym, ◌∙◌, ap, subst}
use Rattle.std.proofs.lemmas.List.Elements.{All-contains, Contains-append_right}
use Rattle.ab_term.specs.Terms as tree
use Rattle.ab_term.specs.Terms.{Nominal, Read}
use Rattle.ab_term.proofs.Lists.{Contains-here, All-from_contains}
use Rattle.ab_unifiers.specs.Replacements.{Cell}
use Rattle.ab_unifiers.specs.Unification.{unified, apart, stuck}
use Rattle.ab_unifiers.proofs.Unique.{unique}
use Rattle.ab_unifiers.specs.Clauses.{Each}
use Rattle.ab_formulas.specs.Declarations.{Declarations}
use Rattle.ab_formulas.specs.Sequents.{Variable, Sequent}
use Rattle.ab_formulas.specs.NamedGoals.{with_names, variable_named}
use Rattle.ab_theory.specs.Equations.{AreCells}
use Rattle.ab_theory.specs.Splits.{NeverArises, IsOpen}
use Rattle.ab_effects.specs.Likeness.{IsSameTerm}
use Rattle.ab_theory.specs.Pieces.{Part, variable_for, given_term, constant_for, antecedent}
use Rattle.ab_theory.specs.Uses.{choices_for}
use Rattle.ab_theory.specs.UseAnswers.{Using, case_by, IsFirst, IsSolvedBy, IsUsedFor, NothingMatches, IsOutsideAt, IsLeftOpen}
use Rattle.ab_determinism.specs.UsesByNames.{IsSamePart, IsSameIfAny, IsSameUse}
use Rattle.ab_determinism.proofs.First.{one_first}
use Rattle.ab_determinism.proofs.Matching.{choices_meet, never_also, open_also, solved_once}

abbrev Cells : Type 0
Cells = List (Cell (List ℕ))

-- ONE CASE has one answer
module _ (cells : Cells) (a : Using) (names : List Nominal) where
  solved_not_never : (K : Read) (ys : List Variable) → IsSolvedBy cells a names K ys → NeverArises (case_by cells a names) → ⊥
  solved_not_never K ys m never = let same : unified m.more m.answer ≡ apart = unique (codes "x") m.solved never in cc

  solved_not_open : (K : Read) (ys : List Variable) (i : ℕ) → IsSolvedBy cells a names K ys → IsOpen (case_by cells a names) i → ⊥
  solved_not_open K ys i m open_at = let same : unified m.more m.answer ≡ stuck i = unique (codes "x") m.solved open_at in cc

  open_not_never : (i : ℕ) → IsOpen (case_by cells a names) i → NeverArises (case_by cells a names) → ⊥
  open_not_never i open_at never = let same : stuck i ≡ apart = unique (codes "x") open_at never in cc

  one_open : (i j : ℕ) → IsOpen (case_by cells a names) i → IsOpen (case_by cells a names) j → i ≡ j
  one_open i j m n = let same : stuck i ≡ stuck j = unique (codes "x") m n in cc

-- the second goal before the first

turned_term : (s u : Sequent) (t v : Read) → IsSameTerm s u t v → IsSameTerm u s v t
turned_term s u t v is = record { first = is.second; second = is.first; same = sym is.same }

turned_part : (s u : Sequent) (p q : Part) → IsSamePart s u p q → IsSamePart u s q p
turned_part s u (variable_for x A) (variable_for y B) e = (sym e.0, sym e.1)
turned_part s u (given_term t) (given_term v) e = turned_term s u t v e
turned_part s u (constant_for A) (constant_for B) e = sym e
turned_part s u antecedent antecedent e = tt
turned_part s u _ _ e = absurd e

turned_option : (s u : Sequent) (h k : Option Read) → IsSameIfAny s u h k → IsSameIfAny u s k h
turned_option s u None None e = tt
turned_option s u (Some F) (Some G) e = turned_term s u F G e
turned_option s u None (Some G) e = absurd e
turned_option s u (Some F) None e = absurd e

all_turned : {X Y : Type 0} (R : X → Y → Type 0) (Q : Y → X → Type 0) → ((x : X) (y : Y) → R x y → Q y x) → (xs : List X) (ys : List Y) → Each R xs ys → Each Q ys xs
all_turned R Q turn [] [] e = tt
all_turned R Q turn [] (y ∷ ys) e = absurd e
all_turned R Q turn (x ∷ xs) [] e = absurd e
all_turned R Q turn (x ∷ xs) (y ∷ ys) e = (turn x y e.0, all_turned R Q turn xs ys e.1)

pub turned_use : (D : Declarations) (a b : Using) → IsSameUse D a b → IsSameUse D b a
turned_use D a b same = record {
  first = same.second;
  second = same.first;
  goals = sym same.goals;
  formulas = turned_term a.goal b.goal a.formula b.formula same.formulas;
  parts = all_turned (IsSamePart a.goal b.goal) (IsSamePart b.goal a.goal) (turned_part a.goal b.goal) a.parts b.parts same.parts;
  hypotheses = all_turned (IsSameIfAny a.goal b.goal) (IsSameIfAny b.goal a.goal) (turned_option a.goal b.goal) a.aim.hypotheses b.aim.hypotheses same.hypotheses;
  conclusions = turned_option a.goal b.goal a.aim.conclusion b.aim.conclusion same.conclusions;
}

-- ONE USE OF TWO GOALS that are one with names for numbers
module _ (D : Declarations) (a b : Using) (same : IsSameUse D a b) (cells others : Cells) (are : AreCells cells a.goal) (also : AreCells others b.goal) where
  abbrev Never : List Nominal → Type 0
  Never c = NeverArises (case_by cells a c)

  abbrev NeverThere : List Nominal → Type 0
  NeverThere c = NeverArises (case_by others b c)

  never_there : (c : List Nominal) → Never c → NeverThere c
  never_there c n = never_also D a b same cells others are also c n

  never_here : (c : List Nominal) → NeverThere c → Never c
  never_here c n = never_also D b a (turned_use D a b same) others cells also are c n

  -- the first choice that may decide
  one_choice : (c k : List Nominal) → IsFirst cells a c → IsFirst others b k → (Never c → ⊥) → (NeverThere k → ⊥) → c ≡ k
  one_choice c k (before, after, is, all) (front, rear, its, every) not nor =
      one_first Never before front after rear c k (sym is ∙ choices_meet D a b same cells others are also ∙ its) all not
      (All-from_contains Never front (λ n there. never_here n (All-contains NeverThere front n every there)))
      (λ never. nor (never_there k never))

  -- where no choice decides in the second goal, none does in the first
  never_first : All NeverThere (choices_for b.goal b.parts b.formula) → (c : List Nominal) → IsFirst cells a c → Never c
  never_first all c (before, after, is, every) =
      let here : Contains (choices_for a.goal a.parts a.formula) c = subst (λ l. Contains l c) (sym is) (Contains-append_right before (c ∷ after) c (Contains-here c after)) in
      let there : Contains (choices_for b.goal b.parts b.formula) c = subst (λ l. Contains l c) (choices_meet D a b same cells others are also) here in
      never_here c (All-contains NeverThere (choices_for b.goal b.parts b.formula) c all there)

  open_there : (c : List Nominal) (i : ℕ) → IsOpen (case_by cells a c) i → IsOpen (case_by others b c) i
  open_there c i o = open_also D a b same cells others are also c i o

none_left : (y : Variable) (ys : List Variable) → [] ≡ map variable_named (y ∷ ys) → ⊥
none_left y ys e = cc

first_left : (x y : Variable) (xs ys : List Variable) → map variable_named (x ∷ xs) ≡ map variable_named (y ∷ ys) → x.name ≡ y.name
first_left x y xs ys e = let same : variable_named x ≡ variable_named y = cc in ap (λ (v : tree.Variable (List ℕ)). v.name) same

-- THE FORMULA IS USED IN ONE WAY, or isn't for one cause
module _ (D : Declarations) (a b : Using) (same : IsSameUse D a b) where
  pub used_once : (K L : Read) → IsUsedFor a K → IsUsedFor b L → with_names a.goal.variables K ≡ with_names b.goal.variables L
  used_once K L (cells, are, c, first, m) (others, also, k, its, n) =
      let one : c ≡ k = one_choice D a b same cells others are also c k first its (solved_not_never cells a c K [] m) (solved_not_never others b k L [] n) in
      (solved_once D a b same cells others are also c K L [] [] m (subst (λ d. IsSolvedBy others b d L []) (sym one) n)).1

  pub used_or_nothing : (K : Read) → IsUsedFor a K → NothingMatches b → ⊥
  used_or_nothing K (cells, are, c, first, m) (others, also, none) = solved_not_never cells a c K [] m (never_first D a b same cells others are also none c first)

  pub used_or_outside : (K : Read) (i : ℕ) → IsUsedFor a K → IsOutsideAt b i → ⊥
  used_or_outside K i (cells, are, c, first, m) (others, also, k, its, open_at) =
      let one : c ≡ k = one_choice D a b same cells others are also c k first its (solved_not_never cells a c K [] m) (open_not_never others b k i open_at) in
      solved_not_open cells a c K [] i m (subst (λ d. IsOpen (case_by cells a d) i) (sym one) (open_there D b a (turned_use D a b same) others cells also are k i open_at))

  pub used_or_left : (K : Read) (name : List ℕ) → IsUsedFor a K → IsLeftOpen b name → ⊥
  used_or_left K name (cells, are, c, first, m) (others, also, k, its, L, y, ys, n, is_name) =
      let one : c ≡ k = one_choice D a b same cells others are also c k first its (solved_not_never cells a c K [] m) (solved_not_never others b k L (y ∷ ys) n) in
      none_left y ys (solved_once D a b same cells others are also c K L [] (y ∷ ys) m (subst (λ d. IsSolvedBy others b d L (y ∷ ys)) (sym one) n)).0

  pub nothing_or_outside : (i : ℕ) → NothingMatches b → IsOutsideAt a i → ⊥
  nothing_or_outside i (others, also, none) (cells, are, c, first, open_at) = open_not_never cells a c i open_at (never_first D a b same cells others are also none c first)

  pub nothing_or_left : (name : List ℕ) → NothingMatches b → IsLeftOpen a name → ⊥
  nothing_or_left name (others, also, none) (cells, are, c, first, K, y, ys, m, is_name) = solved_not_never cells a c K (y ∷ ys) m (never_first D a b same cells others are also none c first)

  pub outside_or_left : (i : ℕ) (name : List ℕ) → IsOutsideAt a i → IsLeftOpen b name → ⊥
  outside_or_left i name (cells, are, c, first, open_at) (others, also, k, its, L, y, ys, n, is_name) =
      let one : c ≡ k = one_choice D a b same cells others are also c k first its (open_not_never cells a c i open_at) (solved_not_never others b k L (y ∷ ys) n) in
      solved_not_open others b k L (y ∷ ys) i n (subst (λ d. IsOpen (case_by others b d) i) one (open_there D a b same cells others are also c i open_at))

  pub one_outside : (i j : ℕ) → IsOutsideAt a i → IsOutsideAt b j → i ≡ j
  one_outside i j (cells, are, c, first, open_at) (others, also, k, its, there) =
      let one : c ≡ k = one_choice D a b same cells others are also c k first its (open_not_never cells a c i open_at) (open_not_never others b k j there) in
      one_open others b k i j (subst (λ d. IsOpen (case_by others b d) i) one (open_there D a b same cells others are also c i open_at)) there

  pub one_left : (name other : List ℕ) → IsLeftOpen a name → IsLeftOpen b other → name ≡ other
  one_left name other (cells, are, c, first, K, x, xs, m, is_name) (others, also, k, its, L, y, ys, n, its_name) =
      let one : c ≡ k = one_choice D a b same cells others are also c k first its (solved_not_never cells a c K (x ∷ xs) m) (solved_not_never others b k L (y ∷ ys) n) in
      is_name
      ∙ first_left x y xs ys (solved_once D a b same cells others are also c K L (x ∷ xs) (y ∷ ys) m (subst (λ d. IsSolvedBy others b d L (y ∷ ys)) (sym one) n)).0
      ∙ sym its_name
