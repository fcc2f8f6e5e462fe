-- A goal is split by a subject in one way, whatever the name is under which the bodies stand: in goals that
-- are one with names for numbers the cases have alike bodies, or an equation of one number is outside the patterns.
use Rattle.std.specs.Prelude.{bytes_eq, codes, if◌then◌else◌, is_some, All, Contains}
use Rattle.std.proofs.Common.{◌≡◌, ◌≢◌, ℕ, suc, ◌+◌, ◌<◌, List, [], ◌∷◌, ◌++◌, map, length, true, false, Some, refl, sym, ◌∙◌, ap, subst, arith, length-append}
use Rattle.std.proofs.lemmas.Bool.{false_from_ne_true}
use Rattle.std.proofs.lemmas.List.Elements.{All-nil, All-cons, All-head, All-tail, All-weaker, All-contains, Contains-append_left, Contains-append_right}
use Rattle.std.proofs.lemmas.Slice.Eq.{bytes_eq-Decides}
use Rattle.ab_term.specs.Terms as tree
use Rattle.ab_term.specs.Variables.{Substitution, variables, image}
use Rattle.ab_term.specs.Sameness.{same_number}
use Rattle.ab_term.proofs.Lists.{All-from_contains}
use Rattle.ab_term.proofs.Translations.{map-append}
use Rattle.ab_term.specs.Terms.{Read}
use Rattle.ab_unifiers.specs.Replacements.{Cell}
use Rattle.ab_unifiers.specs.Member.{HasMember}
use Rattle.ab_unifiers.specs.Clauses.{Each}
use Rattle.ab_unifiers.specs.Alternatives.{alternative, on_left}
use Rattle.ab_formulas.specs.Declarations.{Declarations, signature_in, HaveDefinitions}
use Rattle.ab_formulas.specs.Programs.{program_in, HavePrograms}
use Rattle.ab_formulas.specs.NewNames.{IsNoVariable, IsNamedFor}
use Rattle.ab_formulas.specs.Sequents as numbered
use Rattle.ab_formulas.specs.Sequents.{Variable, Hypothesis, Sequent, IsSequent, IsUsed, goal_names, in_terms, assuming, over}
use Rattle.ab_theory.specs.Equations.{AreCells, Naming, Named, made, renaming, under}
use Rattle.ab_theory.specs.Splits.{CaseOver, NeverArises, IsOpen, Arises, Split, done, never, arises, IsUnsplit, here, past_never, past_goal}
use Rattle.ab_theory.proofs.Naming.{one_name}
use Rattle.ab_theory.proofs.SplitEquations.{split_more}
use Rattle.ab_theory.specs.Atoms.{choices_of}
use Rattle.ab_theory.specs.Analysis.{scope_of, raised_goal, case_of}
use Rattle.ab_theory.specs.SpecRules.{demand_of}
use Rattle.ab_theory.specs.JudgementCases.{judgement_case}
use Rattle.ab_theory.specs.Subjects.{Subject, an_atom, a_judgement, subject_of, cases_by}
use Rattle.ab_theory.proofs.Known.{Known}
use Rattle.ab_theory.proofs.RuleDemands.{JudgementKnown}
use Rattle.ab_theory.proofs.JudgementRules.{is_rule_of, judgement_known}
use Rattle.ab_theory.proofs.JudgementSequents.{judged_sequents}
use Rattle.ab_theory.proofs.RulesParts.{MayStand}
use Rattle.ab_theory.proofs.SubjectParts.{IsSubject, subject_is}
use Rattle.ab_formulas.specs.BodyMarks.{mark_below, marked_in}
use Rattle.ab_theory.proofs.Longer.{named_new}
use Rattle.ab_theory.proofs.Sequents.{IsGoal}
use Rattle.ab_theory.proofs.Sized.{atom_of, atom_over}
use Rattle.ab_theory.proofs.Analysed.{analysed_sequents}
use Rattle.ab_formulas.specs.NamedGoals.{variable_named, named}
use Rattle.ab_effects.specs.Likeness.{IsSameSubject, IsSameRest}
use Rattle.ab_effects.proofs.Namings.{HaveSameNames, IsByNames, named_for}
use Rattle.ab_effects.proofs.Carrying.{names_more}
use Rattle.ab_effects.proofs.SubjectsFollowing.{each_by}
use Rattle.ab_effects.proofs.Splitting.{one_split, split_or_not, one_place}
use Rattle.ab_meaning.specs.Refusals.{Refusal, not_pattern}
use Rattle.ab_effects.specs.CaseAnalysis.{IsParted, IsUnparted}
use Rattle.ab_determinism.proofs.Bodies.{HaveAlikeBodies, have_alike_bodies}

abbrev Cells : Type 0
Cells = List (Cell (List ℕ))

-- UNDER ANOTHER NAME

-- what was named in one goal is named so in another one, whose variables have the same names
named_elsewhere : (IsName : Naming) → IsByNames IsName → (s u : Sequent) (n : ℕ) (xs ys : List Variable) → HaveSameNames s u → Named IsName s n xs ys → Named IsName u n xs ys
named_elsewhere IsName by s u n [] [] same d = tt
named_elsewhere IsName by s u n [] (y ∷ ys) same d = absurd d
named_elsewhere IsName by s u n (x ∷ xs) [] same d = absurd d
named_elsewhere IsName by s u n (x ∷ xs) (y ∷ ys) same d =
    (d.0, d.1, by s u x.name y.name same d.2, named_elsewhere IsName by (over y s) (over y u) (n + 1) xs ys (names_more s u y y same refl) d.3)

-- one goal, whose last hypothesis has either name
abbrev IsRenamed : List ℕ → List ℕ → Sequent → Sequent → Type 0
IsRenamed x y g h = (F : Read) × (s : Sequent) × (g ≡ assuming x F s) × (h ≡ assuming y F s)

under_assuming : (cells more : Cells) (a : Substitution ℕ (List ℕ)) (ys : List Variable) (x : List ℕ) (F : Read) (s : Sequent)
    → under cells more a ys (assuming x F s) ≡ assuming x (image same_number (renaming (made cells more a) ys) (image same_number a F)) (under cells more a ys s)
under_assuming cells more a ys x F s =
    let change : Hypothesis → Hypothesis = λ h. record { name = h.name; formula = image same_number (renaming (made cells more a) ys) (image same_number a h.formula) } in
    let whole = under cells more a ys s in
    let hypotheses = map-append change s.hypotheses (record { name = x; formula = F } ∷ []) in
    λ i. record { variables = whole.variables; hypotheses = hypotheses i; conclusion = whole.conclusion; counter = whole.counter }

-- the second case is the first, but for the name under which the last hypothesis stands
abbrev AreRenamed : List ℕ → List ℕ → CaseOver → CaseOver → Type 0
AreRenamed x y old new = (cells : Cells) → (F : Read) × (s : Sequent) × ((old cells).goal ≡ assuming x F s) × (record (old cells) { goal = assuming y F s } ≡ new cells)

module _ (x y : List ℕ) (IsName : Naming) (by : IsByNames IsName) where
  renamed_case : (old new : CaseOver) → AreRenamed x y old new → (cells after : Cells) (g : Sequent) → Arises IsName (old cells) after g → (h : Sequent) × Arises IsName (new cells) after h × IsRenamed x y g h
  renamed_case old new are cells after g a =
      let c = old cells in
      let w = are cells in
      let other : Sequent = assuming y w.0 w.1 in
      let change : Read → Read = λ F. image same_number (renaming (made c.before a.more a.answer) a.new) (image same_number a.answer F) in
      let arising : Arises IsName (record c { goal = other }) after (under c.before a.more a.answer a.new other) = record {
        more = a.more;
        answer = a.answer;
        new = a.new;
        solved = a.solved;
        named = named_elsewhere IsName by c.goal other (length a.more) (made c.before a.more a.answer) a.new (ap (λ (q : Sequent). map variable_named q.variables) w.2) a.named;
        all = a.all;
        goal = refl;
      } in (
        under c.before a.more a.answer a.new other,
        subst (λ e. Arises IsName e after (under c.before a.more a.answer a.new other)) w.3 arising,
        (
          change w.0,
          under c.before a.more a.answer a.new w.1,
          a.goal ∙ ap (under c.before a.more a.answer a.new) w.2 ∙ under_assuming c.before a.more a.answer a.new x w.0 w.1,
          under_assuming c.before a.more a.answer a.new y w.0 w.1,
        ),
      )

  renamed_never : (old new : CaseOver) → AreRenamed x y old new → (cells : Cells) → NeverArises (old cells) → NeverArises (new cells)
  renamed_never old new are cells n = subst NeverArises (are cells).3 n

  renamed_open : (old new : CaseOver) → AreRenamed x y old new → (cells : Cells) (i : ℕ) → IsOpen (old cells) i → IsOpen (new cells) i
  renamed_open old new are cells i o = subst (λ e. IsOpen e i) (are cells).3 o

  renamed_list : (olds news : List CaseOver) → Each (AreRenamed x y) olds news → (cells : Cells) (gs : List Sequent) → Split IsName cells olds gs → (hs : List Sequent) × Split IsName cells news hs × Each (IsRenamed x y) gs hs
  renamed_list [] [] each cells [] done = ([], done, tt)
  renamed_list [] [] each cells (g ∷ gs) s = elim s [ ]
  renamed_list [] (d ∷ ds) each cells gs s = absurd each
  renamed_list (c ∷ cs) [] each cells gs s = absurd each
  renamed_list (c ∷ cs) (d ∷ ds) each cells gs (never n rest) = let r = renamed_list cs ds each.1 cells gs rest in (r.0, never (renamed_never c d each.0 cells n) r.1, r.2)
  renamed_list (c ∷ cs) (d ∷ ds) each cells (g ∷ gs) (arises {after = after} a rest) =
      let r = renamed_list cs ds each.1 after gs rest in
      let b = renamed_case c d each.0 cells after g a in
      (b.0 ∷ r.0, arises b.1 r.1, (b.2, r.2))

  renamed_place : (olds news : List CaseOver) → Each (AreRenamed x y) olds news → (cells : Cells) (i : ℕ) → IsUnsplit IsName cells olds i → IsUnsplit IsName cells news i
  renamed_place [] ds each cells i s = elim s [ ]
  renamed_place (c ∷ cs) [] each cells i s = absurd each
  renamed_place (c ∷ cs) (d ∷ ds) each cells i (here o) = here (renamed_open c d each.0 cells i o)
  renamed_place (c ∷ cs) (d ∷ ds) each cells i (past_never n rest) = past_never (renamed_never c d each.0 cells n) (renamed_place cs ds each.1 cells i rest)
  renamed_place (c ∷ cs) (d ∷ ds) each cells i (past_goal {after = after} {g = g} a rest) =
      past_goal (renamed_case c d each.0 cells after g a).1 (renamed_place cs ds each.1 after i rest)

-- the cases of a subject are so
cases_renamed : (x y : List ℕ) (goal rest : Sequent) (z : Subject) → Each (AreRenamed x y) (cases_by goal rest x z) (cases_by goal rest y z)
cases_renamed x y goal rest (an_atom d) =
    each_by (AreRenamed x y) (case_of goal rest x d) (case_of goal rest y d) (choices_of (goal_names goal) d)
    (λ c m cells.
    let alt = alternative (codes "x") (scope_of cells goal) d.arguments c.clause c.names on_left in
    (marked_in d.block.predicates (mark_below d.sign) alt.body, raised_goal alt rest, refl, refl))
cases_renamed x y goal rest (a_judgement j rs) =
    each_by (AreRenamed x y) (judgement_case goal rest x j) (judgement_case goal rest y j) rs
    (λ r m cells. ((demand_of (length cells) (mark_below j.sign) j r).body, rest, refl, refl))

-- A NAME THAT NO HYPOTHESIS HAS: it is longer than all

abbrev longer : List Hypothesis → List ℕ
longer [] = []
longer (h ∷ hs) = 0 ∷ (h.name ++ longer hs)

shorter : (hs : List Hypothesis) (front : List ℕ) → All (λ (h : Hypothesis). length h.name < length (front ++ longer hs)) hs
shorter [] front = All-nil (λ (h : Hypothesis). length h.name < length (front ++ []))
shorter (h ∷ hs) front =
    let P : Hypothesis → Type 0 = λ k. length k.name < length (front ++ longer (h ∷ hs)) in
    let all : length (front ++ 0 ∷ (h.name ++ longer hs)) ≡ length front + suc (length h.name + length (longer hs)) =
    length-append front (0 ∷ (h.name ++ longer hs)) ∙ ap (λ n. length front + suc n) (length-append h.name (longer hs)) in
    All-cons P h hs (omega (arith, all))
    (All-weaker (λ (k : Hypothesis). length k.name < length ([] ++ longer hs)) P (λ k l. omega (arith, l, all)) hs (shorter hs []))

new_in : (hs : List Hypothesis) (L : List ℕ) → All (λ (h : Hypothesis). length h.name < length L) hs → is_some (numbered.named hs L) ≡ true → ⊥
new_in [] L all used = cc
new_in (h ∷ hs) L all used =
    let here : length h.name < length L = All-head (λ (k : Hypothesis). length k.name < length L) h hs all in
    let apart : h.name ≢ L = λ e. let same : length h.name ≡ length L = ap (λ (l : List ℕ). length l) e in omega (arith, here, same) in
    let other : bytes_eq h.name L ≡ false = false_from_ne_true (bytes_eq h.name L) (λ t. apart ((bytes_eq-Decides h.name L).0 t)) in
    new_in hs L (All-tail (λ (k : Hypothesis). length k.name < length L) h hs all)
    (ap is_some (sym (ap (λ b. if b then Some h.formula else numbered.named hs L) other)) ∙ used)

-- no hypothesis of either goal has it
module _ (rest left : Sequent) where
  abbrev fresh : List ℕ
  fresh = longer (rest.hypotheses ++ left.hypotheses)

  all_shorter : All (λ (h : Hypothesis). length h.name < length fresh) (rest.hypotheses ++ left.hypotheses)
  all_shorter = shorter (rest.hypotheses ++ left.hypotheses) []

  first_new : ¬ IsUsed rest fresh
  first_new = new_in rest.hypotheses fresh (All-from_contains (λ (h : Hypothesis). length h.name < length fresh) rest.hypotheses (λ h c.
      All-contains (λ (k : Hypothesis). length k.name < length fresh) (rest.hypotheses ++ left.hypotheses) h all_shorter (Contains-append_left rest.hypotheses left.hypotheses h c)))

  second_new : ¬ IsUsed left fresh
  second_new = new_in left.hypotheses fresh (All-from_contains (λ (h : Hypothesis). length h.name < length fresh) left.hypotheses (λ h c.
      All-contains (λ (k : Hypothesis). length k.name < length fresh) (rest.hypotheses ++ left.hypotheses) h all_shorter (Contains-append_right rest.hypotheses left.hypotheses h c)))

-- WHAT IS ASKED of a goal, of what is left of it, and of a formula there, which says the subject
pub record MayBeSplit (D : Declarations) (s rest : Sequent) (x : Subject) : Type 0 where
  pub goal : IsSequent D s
  pub left : IsGoal D (goal_names s) rest
  pub over : rest.variables ≡ s.variables
  pub formula : Read
  pub may : MayStand (signature_in D) s.variables (goal_names s) formula
  pub subject : subject_of D formula ≡ Some x

-- then the cases are sequents
module _ (D : Declarations) (definitions : HaveDefinitions D) (programs : HavePrograms D) (has : HasMember (signature_in D)) where
  by_subject : (s rest : Sequent) (x : Subject) (m : MayBeSplit D s rest x) → IsSubject D m.formula x → (L : List ℕ) → ¬ IsUsed rest L → (cells : Cells) → AreCells cells s → (gs : List Sequent)
      → Split (λ t hint name. IsNoVariable t name) cells (cases_by s rest L x) gs → All (IsSequent D) gs
  by_subject s rest (an_atom d) m is L new cells are gs split =
      analysed_sequents D definitions s rest m.goal.one_type m.left m.over d (atom_over D s.variables (goal_names s) m.formula d m.may is) (atom_of D m.formula d is).block L new cells are gs split
  by_subject s rest (a_judgement j rs) m is L new cells are gs split =
      let P : List Variable → tree.Variable ℕ → Type 0 = λ xs y. Contains (map in_terms xs) y in
      let over : Known (P s.variables) (goal_names s) m.formula = record { over = λ y c. All-contains (P s.variables) (variables m.formula) y m.may.closed c; names = m.may.names } in
      let known = judgement_known (signature_in D) (P s.variables) (goal_names s) m.formula j is.0 m.may.formula.typed over in
      judged_sequents D has rest (goal_names s) m.goal.one_type m.left j (subst (λ xs. JudgementKnown (signature_in D) (P xs) (goal_names s) j) (sym m.over) known) L new s m.over cells are rs
      (is_rule_of (signature_in D) (program_in D) programs j rs is.1) gs split

  parted_sequents : (s rest : Sequent) (x : Subject) → MayBeSplit D s rest x → (L : List ℕ) → ¬ IsUsed rest L → (cells : Cells) → AreCells cells s → (gs : List Sequent)
      → Split (IsNamedFor D) cells (cases_by s rest L x) gs → All (IsSequent D) gs
  parted_sequents s rest x m L new cells are gs split =
      let freely : (t : Sequent) (hint name : List ℕ) → IsNamedFor D t hint name → IsNoVariable t name = named_new D in
      by_subject s rest x m (subject_is D m.formula x m.subject) L new cells are gs (split_more (IsNamedFor D) (λ t hint name. IsNoVariable t name) freely cells (cases_by s rest L x) gs split)

first_named : {X Y : Type 0} (f : X → Y) (x y : X) (xs ys : List X) → map f (x ∷ xs) ≡ map f (y ∷ ys) → f x ≡ f y
first_named f x y xs ys e = cc

rest_named : {X Y : Type 0} (f : X → Y) (x y : X) (xs ys : List X) → map f (x ∷ xs) ≡ map f (y ∷ ys) → map f xs ≡ map f ys
rest_named f x y xs ys e = cc

none_named : {X Y : Type 0} (f : X → Y) (x : X) (xs : List X) → [] ≡ map f (x ∷ xs) → ⊥
none_named f x xs e = cc

-- both lists under one name are sequents that are one with names for numbers
meeting : (D : Declarations) (L x y : List ℕ) (gs ks hs js : List Sequent) → Each (IsRenamed x L) gs ks → Each (IsRenamed y L) hs js → map named ks ≡ map named js → All (IsSequent D) ks → All (IsSequent D) js
    → Each (HaveAlikeBodies D) gs hs
meeting D L x y [] [] [] [] a b same is its = tt
meeting D L x y [] [] [] (j ∷ js) a b same is its = absurd (none_named named j js same)
meeting D L x y [] [] (h ∷ hs) [] a b same is its = absurd b
meeting D L x y [] [] (h ∷ hs) (j ∷ js) a b same is its = absurd (none_named named j js same)
meeting D L x y [] (k ∷ ks) hs js a b same is its = absurd a
meeting D L x y (g ∷ gs) [] hs js a b same is its = absurd a
meeting D L x y (g ∷ gs) (k ∷ ks) [] [] a b same is its = absurd (none_named named k ks (sym same))
meeting D L x y (g ∷ gs) (k ∷ ks) [] (j ∷ js) a b same is its = absurd b
meeting D L x y (g ∷ gs) (k ∷ ks) (h ∷ hs) [] a b same is its = absurd b
meeting D L x y (g ∷ gs) (k ∷ ks) (h ∷ hs) (j ∷ js) ((F, s, first, under_first), a) ((G, u, second, under_second), b) same is its =
    (bodies, meeting D L x y gs ks hs js a b (rest_named named k j ks js same) (All-tail (IsSequent D) k ks is) (All-tail (IsSequent D) j js its))
  where
    bodies : HaveAlikeBodies D g h
    bodies =
        subst (HaveAlikeBodies D g) (sym second)
        (subst (λ t. HaveAlikeBodies D t (assuming y G u)) (sym first)
        (have_alike_bodies D L L x y F G s u (subst (IsSequent D) under_first (All-head (IsSequent D) k ks is)) (subst (IsSequent D) under_second (All-head (IsSequent D) j js its))
        (sym (ap named under_first) ∙ first_named named k j ks js same ∙ ap named under_second)))

-- the second goal before the first
pub turned_rest : (D : Declarations) (s u rest left : Sequent) → IsSameRest D s u rest left → IsSameRest D u s left rest
turned_rest D s u rest left same = record { first = same.second; second = same.first; goals = sym same.goals; first_over = same.second_over; second_over = same.first_over }

-- TWO GOALS that are one with names for numbers, and one subject there
module _ (D : Declarations) (s u rest left : Sequent) (x y : Subject) (same : IsSameSubject D s u x y) (also : IsSameRest D s u rest left) where
  by_names : IsByNames (IsNamedFor D)
  by_names s u hint name alike n = named_for D s u hint name alike n

  pub parted_alike : HasMember (signature_in D) → MayBeSplit D s rest x → MayBeSplit D u left y → (gs hs : List Sequent) → IsParted D s rest x gs → IsParted D u left y hs → Each (HaveAlikeBodies D) gs hs
  parted_alike has may can gs hs (cells, are, a, m) (others, are_also, b, n) =
      let L = fresh rest left in
      let first = renamed_list a L (IsNamedFor D) by_names (cases_by s rest a x) (cases_by s rest L x) (cases_renamed a L s rest x) cells gs m in
      let second = renamed_list b L (IsNamedFor D) by_names (cases_by u left b y) (cases_by u left L y) (cases_renamed b L u left y) others hs n in
      meeting D L a b gs first.0 hs second.0 first.2 second.2
      (one_split D s u x y same cells others are are_also rest left also L (IsNamedFor D) by_names (λ t hint name other m n. one_name D t hint name other m n) first.0 second.0 first.1 second.1)
      (parted_sequents D same.definitions same.programs has s rest x may L (first_new rest left) cells are first.0 first.1)
      (parted_sequents D same.definitions same.programs has u left y can L (second_new rest left) others are_also second.0 second.1)

  -- in the second goal, under the name of the first
  unsplit_so : (a b : List ℕ) (others : Cells) (i : ℕ) → IsUnsplit (IsNamedFor D) others (cases_by u left b y) i → IsUnsplit (IsNamedFor D) others (cases_by u left a y) i
  unsplit_so a b others i n = renamed_place b a (IsNamedFor D) by_names (cases_by u left b y) (cases_by u left a y) (cases_renamed b a u left y) others i n

  pub parted_or_not : (gs : List Sequent) (f : Refusal) → IsParted D s rest x gs → IsUnparted D u left y f → ⊥
  parted_or_not gs f (cells, are, a, m) (others, are_also, b, i, n, is) =
      split_or_not D s u x y same cells others are are_also rest left also a (IsNamedFor D) by_names (λ t hint name other m n. one_name D t hint name other m n) gs i m (unsplit_so a b others i n)

  pub one_unparting : (f g : Refusal) → IsUnparted D s rest x f → IsUnparted D u left y g → f ≡ g
  one_unparting f g (cells, are, a, i, m, is) (others, are_also, b, j, n, its) =
      is
      ∙ ap (λ n. not_pattern (suc n))
      (one_place D s u x y same cells others are are_also rest left also a (IsNamedFor D) by_names (λ t hint name other m n. one_name D t hint name other m n) i j m (unsplit_so a b others j n))
      ∙ sym its
