-- THE PROOF COMMANDS, row by row: what is asked, in order, and the goals that take the first goal's place.
use Rattle.std.specs.Prelude.{◌≡◌, ℕ, zero, suc, List, [], ◌∷◌, ◌++◌, map, length, codes, Bool, false, ◌||◌, ◌==◌, All, Option, Some, None, if◌then◌else◌, is_some, bytes_eq, nat_lt}
use Rattle.std.specs.List.{list_any}
use Rattle.std.specs.Option.{option_and_then}
use Rattle.std.specs.Fmt.{decimal}
use Rattle.ab_term.specs.Types.{Ty, olist}
use Rattle.ab_term.specs.Terms.{Nominal, Read}
use Rattle.ab_term.specs.Names.{support, permute}
use Rattle.ab_term.specs.Substitution.{instance}
use Rattle.ab_grammar.specs.Tree.{Tree}
use Rattle.ab_grammar.specs.CommandTrees as command
use Rattle.ab_grammar.specs.CommandTrees.{ProofCommand, Instance}
use Rattle.ab_formulas.specs.Declarations.{Declarations}
use Rattle.ab_formulas.specs.Forms.{Form, truth, falsity, both, either, implies, equal, for_all, exists, nabla, marked, other, form_of, as_both, as_either, as_exists}
use Rattle.ab_formulas.specs.Marks.{plain, star_of, at_of, plus_of, hash_of, MarksServeIn}
use Rattle.ab_formulas.specs.Sequents.{Sequent, IsUsed, formula_of, proving, assuming, without}
use Rattle.ab_formulas.specs.NewNames.{Label, auto, given, Names, NoName, IsLeast}
use Rattle.ab_formulas.specs.BodyMarks.{MayBeAnalysed, MayBeUnfolded}
use Rattle.ab_theory.specs.Subjects.{subject_of, sign_of}
use Rattle.ab_theory.specs.Judgements.{as_unfocused, marked_judgement}
use Rattle.ab_theory.specs.Contexts.{cut_list, replace_constants, is_within}
use Rattle.ab_theory.specs.Conjuncts.{conjuncts, with_parts}
use Rattle.ab_theory.specs.Induction.{inductive_signs, coinductive_signs, marked_antecedents, marked_consequents}
use Rattle.ab_theory.specs.Levels.{next_level, inductive_level, coinductive_level}
use Rattle.ab_theory.specs.Pieces.{Piece, Given, pieces, behind, antecedent_count, type_named, AllServe}
use Rattle.ab_theory.specs.UseAnswers.{Using, IsUsedFor, awaited, result_in}
use Rattle.ab_meaning.specs.Refusals.{Refusal, unknown, clash, no_hypothesis, wrong_shape, mark, no_match, not_pattern, names_spent}
use Rattle.ab_meaning.specs.Scopes.{nominal_number}
use Rattle.ab_effects.specs.Row.{Row, leads, unless, finds, makes}
use Rattle.ab_meaning.specs.Terms.{MeansIn, MeansNothingIn, Means, MeansNothing, Asserts, AssertsNothing}
use Rattle.ab_effects.specs.Openings.{Opened, Nameless}
use Rattle.ab_effects.specs.Solutions.{IsSolved, IsOutside}
use Rattle.ab_effects.specs.Introductions.{Introduced, Unnamed, taken_off}
use Rattle.ab_effects.specs.CaseAnalysis.{IsParted, IsUnparted, AllOpened, SomeNameless}
use Rattle.ab_effects.specs.Unfoldings.{IsUnfolded, IsNotUnfolded}
use Rattle.ab_effects.specs.Permutations.{of_one_type, cycling}
use Rattle.ab_effects.specs.FormulaUses.{formula_named, names_in, formulas_in, strange, given_twice, scope_with, using, OpenedBeside, NamelessBeside, IsNotUsed}

-- the label that stands before a command, if one does
abbrev pub given_label : Option (List ℕ) → Label
given_label None = auto
given_label (Some x) = given x

-- the name is that of a hypothesis
abbrev pub is_used : Sequent → List ℕ → Bool
is_used s x = is_some (formula_of s x)

-- the label is in use
abbrev pub clashing : Label → Sequent → Option Refusal
clashing auto s = None
clashing (given x) s = if is_used s x then Some (clash x) else None

-- the first of the names that is in use, or that is among those before it
abbrev pub clashing_names : List (List ℕ) → List (List ℕ) → Sequent → Option Refusal
clashing_names before [] s = None
clashing_names before (x ∷ xs) s =
    if is_used s x || list_any (λ y. bytes_eq y x) before then Some (clash x) else clashing_names (before ++ x ∷ []) xs s

-- the first of the names that no hypothesis has
abbrev pub missing : List (List ℕ) → Sequent → Option Refusal
missing [] s = None
missing (H ∷ Hs) s = if is_used s H then missing Hs s else Some (no_hypothesis H)

abbrev pub cleared : List (List ℕ) → Sequent → Sequent
cleared [] s = s
cleared (H ∷ Hs) s = cleared Hs (without H s)

-- names that are given to no hypothesis
abbrev pub left_over : List (List ℕ) → Option Refusal
left_over [] = None
left_over (x ∷ xs) = Some wrong_shape

-- all that can be taken off the goal's conclusion is taken off, with these names for the first hypotheses
abbrev pub introducing : Declarations → List (List ℕ) → Sequent → Row
introducing D xs s =
    makes {A = List (List ℕ) × Sequent} (λ p. Introduced D xs s p.0 p.1) (λ f. Unnamed D xs s × (f ≡ names_spent)) (λ p.
    unless (left_over p.0) (
    leads (p.1 ∷ [])))

-- the expression is to mean a term of the type in the goal
abbrev pub reading : Declarations → Sequent → Tree → Ty → (Read → Row) → Row
reading D s e A k = makes (Means D s e A) (MeansNothing D s e A) k

-- the expression is to state a formula in the goal
abbrev pub stating : Declarations → Sequent → Tree → (Read → Row) → Row
stating D s e k = makes (Asserts D s e) (AssertsNothing D s e) k

-- a new hypothesis is to get its name
abbrev pub naming : Label → Sequent → (List ℕ → Sequent → Row) → Row
naming l s k = makes {A = List ℕ × Sequent} (λ p. Names l s p.0 p.1) (λ f. NoName l s × (f ≡ names_spent)) (λ p. k p.0 p.1)

-- the formula is to be opened in the goal
abbrev pub opening : Declarations → Read → Label → Sequent → (Sequent → Row) → Row
opening D F l s k = makes {A = Label × Sequent} (λ p. Opened D (F ∷ []) l s p.0 p.1) (λ f. Nameless D (F ∷ []) l s × (f ≡ names_spent)) (λ p. k p.1)

-- the mark is to be as is asked
abbrev pub marked_so : Type 0 → Row → Row
marked_so P k = makes {A = Unit {0}} (λ u. P) (λ f. (¬ P) × (f ≡ mark)) (λ u. k)

-- a defined atom or a judgement of the goal is analysed; the rest is what stays of the goal
abbrev pub analysing : Declarations → Read → Label → Sequent → Sequent → Row
analysing D F l goal rest =
    finds wrong_shape (subject_of D F) (λ x.
    marked_so (MayBeAnalysed (sign_of x)) (
    makes {A = List Sequent} (IsParted D goal rest x) (IsUnparted D goal rest x) (λ gs.
    makes {A = List Sequent} (AllOpened D l gs) (λ f. SomeNameless D l gs × (f ≡ names_spent)) leads)))

-- the name that a hypothesis of induction takes by itself: the word, or the word with a number
abbrev pub numbered : List ℕ → ℕ → List ℕ
numbered word zero = word
numbered word (suc n) = word ++ decimal (suc n)

-- a hypothesis of induction gets its name: the label, or the first free name of the word
abbrev pub IsNamedBy : List ℕ → Label → Sequent → List ℕ → Type 0
IsNamedBy word auto s name = (n : ℕ) × IsLeast (λ m. ¬ IsUsed s (numbered word m)) n × (name ≡ numbered word n)
IsNamedBy word (given x) s name = name ≡ x

-- the goal then has a hypothesis of induction, which is named by the word or by the label
abbrev pub hypothesis_named : List ℕ → Label → Sequent → (List ℕ → Row) → Row
hypothesis_named word l s k = makes {A = List ℕ} (IsNamedBy word l s) (λ f. ⊥) k

-- a hypothesis of induction for each of the formulas, in order, the first by the label: what follows speaks of the goal that has them
abbrev pub hypotheses_named : List ℕ → Label → List Read → Sequent → (Sequent → Row) → Row
hypotheses_named word l [] s k = k s
hypotheses_named word l (F ∷ Fs) s k = hypothesis_named word l s (λ name. hypotheses_named word auto Fs (assuming name F s) k)

-- what `case` does to a hypothesis of that form of the goal, of which the last is what stays
abbrev pub cases : Declarations → Form → Read → Label → Sequent → Sequent → Row
cases D truth F l goal s = opening D F l s (λ t. leads (t ∷ []))
cases D (both A B) F l goal s = opening D F l s (λ t. leads (t ∷ []))
cases D (exists A t) F l goal s = opening D F l s (λ t. leads (t ∷ []))
cases D (nabla A t) F l goal s = opening D F l s (λ t. leads (t ∷ []))
cases D (either A B) F l goal s = opening D A l s (λ t. opening D B l s (λ u. leads (t ∷ u ∷ [])))
cases D falsity F l goal s = leads []
cases D (implies A B) F l goal s = unless (Some wrong_shape) (leads [])
cases D (equal A t u) F l goal s = makes {A = List Sequent} (IsSolved D s t u) (λ f. IsOutside s t u × (f ≡ not_pattern 1)) leads
cases D (for_all A t) F l goal s = unless (Some wrong_shape) (leads [])
cases D (marked m t) F l goal s = analysing D F l goal s
cases D other F l goal s = analysing D F l goal s

-- the terms are read in order, each at the type of its name's `forall`, where the constants of those before it are known
abbrev pub reading_each : Declarations → Sequent → List Nominal → List Piece → List Instance → (List Given → Row) → Row
reading_each D s names ps [] k = k []
reading_each D s names ps (i ∷ is) k =
    finds (unknown i.name) (type_named i.name ps) (λ A.
    makes {A = Read} (MeansIn D (scope_with D s names) i.term A) (MeansNothingIn (scope_with D s names) i.term A) (λ t.
    reading_each D s (names ++ support t) ps is (λ gs. k (record { name = i.name; type = A; value = t } ∷ gs))))

-- the names that terms are given for are looked up, and the terms read; none is given twice, and there aren't too many arguments
abbrev pub giving : Declarations → Sequent → List Piece → List Instance → Bool → (List Given → Row) → Row
giving D s ps is too_many k =
    unless (strange ps is) (
    reading_each D s [] ps is (λ gs.
    unless (if given_twice is || too_many then Some wrong_shape else None) (
    k gs)))

-- the formula is to be used, and what is left to show is given on
abbrev pub left_to_show : Using → (Read → Row) → Row
left_to_show u k = makes (IsUsedFor u) (IsNotUsed u) k

-- nothing is given for any of so many antecedents
abbrev pub repeated : ℕ → List (Option Read)
repeated zero = []
repeated (suc n) = None ∷ repeated n

-- the constant of that number, if it is among these
abbrev pub constant_numbered : List Nominal → ℕ → Option Nominal
constant_numbered [] n = None
constant_numbered (a ∷ names) n = if a.number == n then Some a else constant_numbered names n

-- the constant of that name
abbrev pub constant_in : List Nominal → List ℕ → Option Nominal
constant_in names x = option_and_then (constant_numbered names) (nominal_number x)

-- the first name that a term is given for and that is none of the constants'
abbrev pub no_constant : List Nominal → List Instance → Option Refusal
no_constant names [] = None
no_constant names (i ∷ is) = if is_some (constant_in names i.name) then no_constant names is else Some (unknown i.name)

-- the terms are read in order, each at the type of the constant that has its name, where the constants of those before it are
-- known too
abbrev pub reading_for : Declarations → Sequent → List Nominal → List Nominal → List Instance → (List (Nominal × Read) → Row) → Row
reading_for D s known names [] k = k []
reading_for D s known names (i ∷ is) k =
    finds (unknown i.name) (constant_in names i.name) (λ a.
    makes {A = Read} (MeansIn D (scope_with D s known) i.term a.type) (MeansNothingIn (scope_with D s known) i.term a.type) (λ t.
    reading_for D s (known ++ support t) names is (λ rs. k ((a, t) ∷ rs))))

-- `search` has no row: what it comes to is told by the tree of the goal
abbrev pub no_row : Row
no_row = unless (Some wrong_shape) (leads [])

-- WHAT A PROOF COMMAND DOES to the first goal, from these declarations, with its label
abbrev pub effect : Declarations → Label → ProofCommand → Sequent → Row
effect D l (command.intros xs) s =
    unless (clashing_names [] xs s) (
    finds wrong_shape (taken_off (form_of s.conclusion)) (λ o.
    introducing D xs s))
effect D l command.split s =
    finds wrong_shape (as_both s.conclusion) (λ p.
    leads (proving p.0 s ∷ proving p.1 s ∷ []))
effect D l command.split_all s =
    finds wrong_shape (as_both s.conclusion) (λ p.
    leads (map (λ F. proving F s) (conjuncts s.conclusion)))
effect D l command.left s =
    finds wrong_shape (as_either s.conclusion) (λ p.
    leads (proving p.0 s ∷ []))
effect D l command.right s =
    finds wrong_shape (as_either s.conclusion) (λ p.
    leads (proving p.1 s ∷ []))
effect D l (command.exists e) s =
    finds wrong_shape (as_exists s.conclusion) (λ q.
    reading D s e q.0 (λ t.
    leads (proving (instance q.1 t) s ∷ [])))
effect D l (command.case H keep) s =
    unless (clashing l s) (
    finds (no_hypothesis H) (formula_of s H) (λ F.
    cases D (form_of F) F l s (if keep then s else without H s)))
effect D l (command.assert e) s =
    unless (clashing l s) (
    stating D s e (λ F.
    naming l s (λ name t.
    leads (proving F s ∷ assuming name F t ∷ []))))
effect D l (command.clear Hs) s =
    unless (missing Hs s) (
    leads (cleared Hs s ∷ []))
effect D l (command.rename H x) s =
    unless (clashing (given x) s) (
    finds (no_hypothesis H) (formula_of s H) (λ F.
    leads (assuming x F (without H s) ∷ [])))
effect D l (command.induction ns) s =
    let Fs = conjuncts s.conclusion in
    let i = next_level inductive_level s in
    unless (clashing l s) (
    finds wrong_shape (inductive_signs D ns Fs) (λ ms.
    marked_so (All (λ m. m ≡ plain) ms) (
    hypotheses_named (codes "IH") l (marked_antecedents ns (star_of i) Fs) s (λ t.
    leads (proving (with_parts (marked_antecedents ns (at_of i) Fs) s.conclusion) t ∷ [])))))
effect D l command.coinduction s =
    let Fs = conjuncts s.conclusion in
    let i = next_level coinductive_level s in
    unless (clashing l s) (
    finds wrong_shape (coinductive_signs D Fs) (λ ms.
    marked_so (All (λ m. m ≡ plain) ms) (
    hypotheses_named (codes "CH") l (marked_consequents (plus_of i) Fs) s (λ t.
    leads (proving (with_parts (marked_consequents (hash_of i) Fs) s.conclusion) t ∷ [])))))
effect D l (command.apply H vs is) s =
    unless (clashing l s) (
    finds (no_hypothesis H) (formula_named D s H) (λ F.
    unless (missing (names_in vs) s) (
    let n = length vs in
    giving D s (pieces n F) is (nat_lt (antecedent_count F) n) (λ gs.
    let hs = formulas_in s vs in
    marked_so (AllServe (pieces n F) hs) (
    left_to_show (using s gs (pieces n F) (record { hypotheses = hs; conclusion = None }) F) (λ K.
    makes {A = Sequent} (OpenedBeside D gs (result_in hs K) l s) (λ f. NamelessBeside D gs (result_in hs K) l s × (f ≡ names_spent)) (λ t.
    leads (map (λ A. proving A s) (awaited hs K) ++ t ∷ []))))))))
effect D l (command.backchain H is) s =
    finds (no_hypothesis H) (formula_named D s H) (λ F.
    let n = antecedent_count F in
    giving D s (pieces n F) is false (λ gs.
    marked_so (MarksServeIn s.conclusion (behind n F)) (
    let hs = repeated n in
    left_to_show (using s gs (pieces n F) (record { hypotheses = hs; conclusion = Some s.conclusion }) F) (λ K.
    leads (map (λ A. proving A s) (awaited hs K))))))
effect D l (command.cut H K) s =
    unless (clashing l s) (
    finds (no_hypothesis H) (formula_of s H) (λ F.
    finds (no_hypothesis K) (formula_of s K) (λ G.
    finds wrong_shape (as_unfocused F) (λ p.
    finds wrong_shape (as_unfocused G) (λ q.
    finds no_match (cut_list p.0 q.1 q.0) (λ L.
    naming l s (λ name t.
    leads (assuming name (marked_judgement plain L p.1) t ∷ []))))))))
effect D l (command.inst H is) s =
    unless (clashing l s) (
    finds (no_hypothesis H) (formula_of s H) (λ F.
    finds wrong_shape (as_unfocused F) (λ p.
    unless (if given_twice is then Some wrong_shape else None) (
    let G = marked_judgement plain p.0 p.1 in
    unless (no_constant (support G) is) (
    reading_for D s [] (support G) is (λ rs.
    naming l s (λ name t.
    leads (assuming name (replace_constants rs G) t ∷ []))))))))
effect D l (command.monotone H e) s =
    unless (clashing l s) (
    reading D s e olist (λ K.
    finds (no_hypothesis H) (formula_of s H) (λ F.
    finds wrong_shape (as_unfocused F) (λ p.
    naming l s (λ name t.
    leads (proving (is_within p.0 K) s ∷ assuming name (marked_judgement plain K p.1) t ∷ []))))))
effect D l (command.search n) s = no_row
effect D l command.skip s =
    leads []
effect D l command.unfold_goal s =
    finds wrong_shape (subject_of D s.conclusion) (λ x.
    marked_so (MayBeUnfolded (sign_of x)) (
    makes {A = Sequent} (IsUnfolded s x) (IsNotUnfolded s x) (λ t. leads (t ∷ []))))
effect D l (command.permute ns None) s =
    of_one_type ns s (
    cycling ns s (λ ps.
    leads (proving (permute ps s.conclusion) s ∷ [])))
effect D l (command.permute ns (Some H)) s =
    of_one_type ns s (
    finds (no_hypothesis H) (formula_of s H) (λ F.
    cycling ns s (λ ps.
    leads (assuming H (permute ps F) (without H s) ∷ []))))
