-- EACH STEP HAS AN ANSWER, where there is room for the variables that it makes.
use Rattle.std.proofs.Common.{◌≡◌, ℕ, suc, List, [], ◌∷◌, Some, length, codes}
use Rattle.ab_term.specs.Terms.{Nominal, Read}
use Rattle.ab_term.specs.Names.{support}
use Rattle.ab_term.specs.Variables.{Substitution}
use Rattle.ab_unifiers.specs.Choices.{in_order}
use Rattle.ab_unifiers.specs.Replacements.{Cell}
use Rattle.ab_unifiers.specs.Unification.{unified, Solves}
use Rattle.ab_formulas.specs.Declarations.{Declarations}
use Rattle.ab_formulas.specs.Forms.{as_equal}
use Rattle.ab_formulas.specs.NewNames.{IsNoVariable, Names}
use Rattle.ab_formulas.specs.Sequents.{Variable, Sequent, formula_of, without, over}
use Rattle.ab_theory.specs.Subjects.{Subject, subject_of, cases_by}
use Rattle.ab_theory.specs.Equations.{Naming, problem, made}
use Rattle.ab_theory.specs.Splits.{CaseOver}
use Rattle.ab_formulas.specs.Marks.{star_of, plus_of}
use Rattle.ab_theory.specs.Conjuncts.{conjuncts}
use Rattle.ab_theory.specs.Induction.{marked_antecedents, marked_consequents}
use Rattle.ab_theory.specs.Levels.{next_level, inductive_level, coinductive_level}
use Rattle.ab_theory.specs.Steps.{Step, initial, true_right, false_left, and_right, and_left, or_right, or_left, arrow_right, arrow_left, for_all_right, for_all_left, exists_right, exists_left, nabla_right, nabla_left, equal_right, equal_left, definition_right, definition_left, induction, coinduction, cut_formula, use_theorem, weaken, spec_cut, spec_instance, spec_monotone, skip}
use Rattle.ab_theory.specs.Rules.{Making, Raises, hint_of, row, any_name, by_hint}
use Rattle.ab_theory.proofs.One.{some_name}
use Rattle.ab_existence.specs.Certainty.{IsCertain}
use Rattle.ab_existence.specs.FewNames.{HasRoom, StepFindsNames}
use Rattle.ab_existence.proofs.Certain.{sure, and_also}
use Rattle.ab_existence.proofs.Rows.{HasAnswers, Answer, answer_there, each_answered}
use Rattle.ab_existence.proofs.Namings.{support_there, constant_there, AllHaveRoom, solved_there, split_there}
use Rattle.ab_existence.proofs.Room.{finds_name, room_left, all_room}

-- how variables are named, and what room is for that
module _ (D : Declarations) (new : Making) (Room : ℕ → Sequent → Type 0)
    (finds : (n : ℕ) (s : Sequent) (hint : List ℕ) → Room (suc n) s → IsCertain ((name : List ℕ) × new.IsName s hint name))
    (less : (n : ℕ) (s : Sequent) (y : Variable) → Room (suc n) s → Room n (over y s)) where
  abbrev pub Needs : Step → Sequent → Type 0
  Needs for_all_right s = Room 1 s
  Needs (exists_left H l) s = Room 1 s
  Needs (equal_left H) s =
      (F : Read) (p : Read × Read) → formula_of s H ≡ Some F → as_equal F ≡ Some p
      → (more : List (Cell (List ℕ))) (r : Substitution ℕ (List ℕ)) → Solves (codes "x") (problem new.cells (without H s) p.0 p.1) (unified more r) → Room (length (made new.cells more r)) (without H s)
  Needs (definition_left H l) s =
      (F : Read) (x : Subject) (name : List ℕ) (t : Sequent) → formula_of s H ≡ Some F → subject_of D F ≡ Some x → Names l (without H s) name t
      → AllHaveRoom new.IsName Room finds less (cases_by s t name x)
  Needs _ s = Unit {0}

  raised_there : (s : Sequent) (F : Read) (hint : List ℕ) → Room 1 s → IsCertain ((p : List Nominal × List ℕ) × Raises new s F hint p)
  raised_there s F hint room = and_also (finds 0 s hint room) (λ name. ((in_order (support F), name.0), (support_there F, name.1)))

  has_answers : (step : Step) (s : Sequent) → Needs step s → HasAnswers (row D new step s)
  has_answers (initial H) s room = λ F e equal serve. tt
  has_answers true_right s room = λ t e. tt
  has_answers (false_left H) s room = λ F e t f. tt
  has_answers and_right s room = λ p e. tt
  has_answers (and_left H l m) s room = λ F e p f L t n M u k. tt
  has_answers (or_right b) s room = λ p e. tt
  has_answers (or_left H l) s room = λ F e p f L t n. tt
  has_answers (arrow_right l) s room = λ p e L t n. tt
  has_answers (arrow_left H l) s room = λ F e p f L t n. tt
  has_answers for_all_right s room = λ q e. raised_there s s.conclusion (hint_of q.1) room
  has_answers (for_all_left H t l) s room = λ F e q f fits L u n. tt
  has_answers (exists_right t) s room = λ q e fits. tt
  has_answers (exists_left H l) s room = λ F e q f L t n. raised_there s F (hint_of q.1) room
  has_answers nabla_right s room = λ q e. constant_there s s.conclusion q.0
  has_answers (nabla_left H l) s room = λ F e q f L t n. constant_there s F q.0
  has_answers equal_right s room = λ p e same. tt
  has_answers (equal_left H) s room = λ F e p f. solved_there new.IsName Room finds less new.cells (without H s) p.0 p.1 (room F p e f)
  has_answers (definition_right i) s room = λ x e may w f. tt
  has_answers (definition_left H l) s room = λ F e x f may L t n. split_there new.IsName Room finds less new.cells (cases_by s t L x) (room F x L t e f n)
  has_answers (induction ns ls) s room = λ ms e plain. each_answered 3 ls (marked_antecedents ns (star_of (next_level inductive_level s)) (conjuncts s.conclusion)) s _ (λ t. tt)
  has_answers (coinduction ls) s room = λ ms e plain. each_answered 3 ls (marked_consequents (plus_of (next_level coinductive_level s)) (conjuncts s.conclusion)) s _ (λ t. tt)
  has_answers (cut_formula F l) s room = λ fits L t n. tt
  has_answers (use_theorem n l) s room = λ F e L t k. tt
  has_answers (weaken H) s room = λ F e. tt
  has_answers (spec_cut H K l) s room = λ F e G f p i q j L c N t n. tt
  has_answers (spec_instance H rs l) s room = λ F e p i may fit N t n. tt
  has_answers (spec_monotone H K l) s room = λ F e p i fits N t n. tt
  has_answers skip s room = tt

  pub step_answered : (step : Step) (s : Sequent) → Needs step s → IsCertain (Answer (row D new step s))
  step_answered step s room = answer_there (row D new step s) (has_answers step s room)

-- BY ANY NAME there is always room

any_room : (IsName : Naming) (finds : (s : Sequent) (hint : List ℕ) → IsCertain ((name : List ℕ) × IsName s hint name)) (cs : List CaseOver)
    → AllHaveRoom IsName (λ n s. Unit {0}) (λ n t hint room. finds t hint) (λ n t y room. tt) cs
any_room IsName finds [] = tt
any_room IsName finds (c ∷ cs) = (λ cells more r p. tt, any_room IsName finds cs)

any_finds : (s : Sequent) (hint : List ℕ) → IsCertain ((name : List ℕ) × IsNoVariable s name)
any_finds s hint = sure (some_name s hint)

needs_nothing : (D : Declarations) (cells : List (Cell (List ℕ))) (step : Step) (s : Sequent) → Needs D (any_name cells) (λ n s. Unit {0}) (λ n t hint room. any_finds t hint) (λ n t y room. tt) step s
needs_nothing D cells (equal_left H) s = λ F p e f more r solved. tt
needs_nothing D cells (definition_left H l) s = λ F x name t e f named. any_room (λ v hint y. IsNoVariable v y) any_finds (cases_by s t name x)
needs_nothing D cells _ s = tt

pub answered_by_any_name : (D : Declarations) (cells : List (Cell (List ℕ))) (step : Step) (s : Sequent) → IsCertain (Answer (row D (any_name cells) step s))
answered_by_any_name D cells step s = step_answered D (any_name cells) (λ n s. Unit {0}) (λ n t hint room. any_finds t hint) (λ n t y room. tt) step s (needs_nothing D cells step s)

-- BY A HINT there is room where names are few

needs_room : (D : Declarations) (cells : List (Cell (List ℕ))) (step : Step) (s : Sequent) → StepFindsNames D step s → Needs D (by_hint D cells) (λ n s. HasRoom D s n) (finds_name D) (room_left D) step s
needs_room D cells (equal_left H) s room = λ F p e f more r solved. room F p e f cells more r solved
needs_room D cells (definition_left H l) s room = λ F x name t e f named. all_room D s t name x (room F x name t e f named)
needs_room D cells for_all_right s room = room
needs_room D cells (exists_left H l) s room = room
needs_room D cells _ s room = tt

pub answered_by_hint : (D : Declarations) (cells : List (Cell (List ℕ))) (step : Step) (s : Sequent) → StepFindsNames D step s → IsCertain (Answer (row D (by_hint D cells) step s))
answered_by_hint D cells step s room = step_answered D (by_hint D cells) (λ n s. HasRoom D s n) (finds_name D) (room_left D) step s (needs_room D cells step s room)
