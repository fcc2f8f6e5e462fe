-- EACH PROOF COMMAND LEADS OR IS REFUSED, where it finds names.
use Rattle.std.specs.Prelude.{All, Bool, true, false, ◌||◌, if◌then◌else◌, nat_lt}
use Rattle.std.proofs.Common.{◌≡◌, ◌⊎◌, inl, inr, ℕ, zero, suc, List, [], ◌∷◌, ◌++◌, map, ◌+◌, ◌<◌, ◌^◌, None, Some, codes, refl, sym, ◌∙◌, ap, subst, arith, length, length-append, ◌≤◌, decimal}
use Rattle.ab_term.specs.Types.{olist}
use Rattle.ab_term.specs.Terms.{Nominal, Read}
use Rattle.ab_term.specs.Names.{support}
use Rattle.ab_grammar.specs.CommandTrees as command
use Rattle.ab_grammar.specs.CommandTrees.{ProofCommand, Instance, Argument}
use Rattle.ab_formulas.specs.BodyMarks.{MayBeUnfolded}
use Rattle.ab_formulas.specs.Cycles.{MayCycle}
use Rattle.ab_formulas.specs.Declarations.{Declarations}
use Rattle.ab_formulas.specs.Forms.{form_of}
use Rattle.ab_formulas.specs.Marks.{Sign, plain, star_of, plus_of, MarksServeIn}
use Rattle.ab_formulas.specs.NewNames.{Label, auto, given}
use Rattle.ab_formulas.specs.Sequents.{Sequent, IsUsed, proving, assuming, without, goal_names}
use Rattle.ab_theory.specs.Conjuncts.{conjuncts}
use Rattle.ab_theory.specs.Contexts.{replace_constants}
use Rattle.ab_theory.specs.Judgements.{marked_judgement}
use Rattle.ab_theory.specs.Subjects.{sign_of}
use Rattle.ab_theory.specs.Induction.{inductive_at, coinductive_in, inductive_signs, coinductive_signs, marked_antecedents, marked_consequents}
use Rattle.ab_theory.proofs.PartSigns.{first_and_rest}
use Rattle.ab_theory.specs.Levels.{next_level, inductive_level, coinductive_level}
use Rattle.ab_theory.specs.Pieces.{Piece, Given, pieces, behind, antecedent_count, AllServe}
use Rattle.ab_theory.specs.UseAnswers.{awaited, result_in}
use Rattle.ab_meaning.specs.Terms.{scope_of}
use Rattle.ab_meaning.specs.Refusals.{Refusal, wrong_shape, mark, names_spent, type_clash}
use Rattle.ab_effects.specs.Introductions as introductions
use Rattle.ab_effects.specs.Row.{Row, leads, unless, makes}
use Rattle.ab_effects.specs.FormulaUses.{scope_with, given_that, given_twice, using, formulas_in, OpenedBeside, NamelessBeside}
use Rattle.ab_effects.specs.ProofCommands.{effect, numbered, IsNamedBy, hypotheses_named, reading_each, reading_for, giving, naming, marked_so, left_to_show, repeated}
use Rattle.ab_existence.specs.Certainty.{IsCertain}
use Rattle.ab_answers.specs.FindsNames.{HasRoomToOpen, FindsNames}
use Rattle.ab_existence.proofs.Certain.{sure, and_so, and_also, least}
use Rattle.ab_existence.proofs.FreeNames.{number_by_word}
use Rattle.ab_answers.proofs.Places.{NumbersDiffer}
use Rattle.ab_answers.proofs.Readings.{meaning_there, statement_there}
use Rattle.ab_answers.proofs.Opened.{introduced_there, opened_there}
use Rattle.ab_answers.proofs.Uses.{use_there, unfolding_there}
use Rattle.ab_answers.proofs.Analysed.{cases_there}
use Rattle.ab_answers.proofs.Asked.{HasAnswers, Answer, answer_there, there_or_refused, name_there}

-- A HYPOTHESIS OF INDUCTION gets its name

written : (word : List ℕ) (m : ℕ) → 1 ≤ m → numbered word m ≡ word ++ decimal m
written word zero l = absurd (omega (arith, l))
written word (suc m) l = refl

pub word_named : (word : List ℕ) (l : Label) (s : Sequent) → length s.hypotheses < 2 ^ 99 → IsCertain ((name : List ℕ) × IsNamedBy word l s name)
word_named word auto s few =
    and_so (number_by_word s word few)
    (λ n. and_also (least (λ m. IsUsed s (numbered word m) → ⊥) n.0 (subst (λ x. IsUsed s x → ⊥) (sym (written word n.0 n.1)) n.2)) (λ m. (numbered word m.0, (m.0, m.1, refl))))
word_named word (given x) s few = sure (x, refl)

word_there : (word : List ℕ) (l : Label) (s : Sequent) → length s.hypotheses < 2 ^ 99 → IsCertain (((name : List ℕ) × IsNamedBy word l s name) ⊎ ((f : Refusal) × ⊥))
word_there word l s few = and_also (word_named word l s few) (λ name. inl name)

hypotheses_there : (word : List ℕ) (Fs : List Read) (l : Label) (s : Sequent) (k : Sequent → Row) → length s.hypotheses + length Fs ≤ 2 ^ 99
    → ((t : Sequent) → HasAnswers (k t)) → HasAnswers (hypotheses_named word l Fs s k)
hypotheses_there word [] l s k few h = h s
hypotheses_there word (F ∷ Fs) l s k few h = (
  word_there word l s (omega (arith, few)),
  λ name is.
      let one = length-append s.hypotheses (record { name = name; formula = F } ∷ []) in
      hypotheses_there word Fs auto (assuming name F s) k (omega (arith, few, one)) h,
)

-- there are as many parts with a new mark as there are signs
antecedents_length : (D : Declarations) (ns : List ℕ) (m : Sign) (Fs : List Read) (ms : List Sign) → inductive_signs D ns Fs ≡ Some ms → length (marked_antecedents ns m Fs) ≡ length ms
antecedents_length D [] m [] ms e = let same : [] ≡ ms = cc in ap length same
antecedents_length D (n ∷ ns) m (F ∷ Fs) ms e =
    let so = first_and_rest (inductive_at D n F) (inductive_signs D ns Fs) ms e in
    ap suc (antecedents_length D ns m Fs so.rest so.rest_is) ∙ ap length (sym so.are)
antecedents_length D [] m (F ∷ Fs) ms e = absurd (cc)
antecedents_length D (n ∷ ns) m [] ms e = absurd (cc)

consequents_length : (D : Declarations) (m : Sign) (Fs : List Read) (ms : List Sign) → coinductive_signs D Fs ≡ Some ms → length (marked_consequents m Fs) ≡ length ms
consequents_length D m [] ms e = let same : [] ≡ ms = cc in ap length same
consequents_length D m (F ∷ Fs) ms e =
    let so = first_and_rest (coinductive_in D F) (coinductive_signs D Fs) ms e in
    ap suc (consequents_length D m Fs so.rest so.rest_is) ∙ ap length (sym so.are)

module _ (D : Declarations) where
  -- TERMS THAT ARE GIVEN are read one after another
  each_read : (s : Sequent) (names : List Nominal) (ps : List Piece) (is : List Instance) (k : List Given → Row) → ((gs : List Given) → HasAnswers (k gs)) → HasAnswers (reading_each D s names ps is k)
  each_read s names ps [] k h = h []
  each_read s names ps (i ∷ is) k h =
      λ A e. (
        meaning_there D (scope_with D s names) i.term A,
        λ t m. each_read s (names ++ support t) ps is (λ gs. k (record { name = i.name; type = A; value = t } ∷ gs)) (λ gs. h (record { name = i.name; type = A; value = t } ∷ gs)),
      )

  each_read_for : (s : Sequent) (known names : List Nominal) (is : List Instance) (k : List (Nominal × Read) → Row) → ((rs : List (Nominal × Read)) → HasAnswers (k rs)) → HasAnswers (reading_for D s known names is k)
  each_read_for s known names [] k h = h []
  each_read_for s known names (i ∷ is) k h =
      λ a e. (meaning_there D (scope_with D s known) i.term a.type, λ t m. each_read_for s (known ++ support t) names is (λ rs. k ((a, t) ∷ rs)) (λ rs. h ((a, t) ∷ rs)))

  abbrev after_giving : List Instance → Bool → (List Given → Row) → List Given → Row
  after_giving is too_many k gs = unless (if given_twice is || too_many then Some wrong_shape else None) (k gs)

  giving_there : (s : Sequent) (ps : List Piece) (is : List Instance) (too_many : Bool) (k : List Given → Row) → ((gs : List Given) → HasAnswers (k gs)) → HasAnswers (giving D s ps is too_many k)
  giving_there s ps is too_many k h = each_read s [] ps is (after_giving is too_many k) h

  abbrev applying_row : Label → Sequent → List Argument → Read → List Given → Row
  applying_row l s vs F gs =
      let n = length vs in
      let hs = formulas_in s vs in
      marked_so (AllServe (pieces n F) hs) (
      left_to_show (using s gs (pieces n F) (record { hypotheses = hs; conclusion = None }) F) (λ K.
      makes {A = Sequent} (OpenedBeside D gs (result_in hs K) l s) (λ f. NamelessBeside D gs (result_in hs K) l s × (f ≡ names_spent)) (λ t.
      leads (map (λ A. proving A s) (awaited hs K) ++ t ∷ []))))

  abbrev chaining_row : Sequent → Read → List Given → Row
  chaining_row s F gs =
      let n = antecedent_count F in
      let hs = repeated n in
      marked_so (MarksServeIn s.conclusion (behind n F)) (
      left_to_show (using s gs (pieces n F) (record { hypotheses = hs; conclusion = Some s.conclusion }) F) (λ K.
      leads (map (λ A. proving A s) (awaited hs K))))

  beside_there : (gs : List Given) (F : Read) (l : Label) (s : Sequent) → HasRoomToOpen D F s → IsCertain (((t : Sequent) × OpenedBeside D gs F l s t) ⊎ ((f : Refusal) × (NamelessBeside D gs F l s × (f ≡ names_spent))))
  beside_there gs F l s room =
      and_also (opened_there D F l (proving (given_that gs s.conclusion) s) room)
      (λ o. elim o [ inl p ↦ inl (proving s.conclusion p.0.1, (p.0.0, p.0.1, p.1, refl)) | inr nameless ↦ inr (names_spent, (nameless, refl)) ])

  rest_differ : (b : Bool) (H : List ℕ) (s : Sequent) → NumbersDiffer s.variables → NumbersDiffer (if b then s else without H s).variables
  rest_differ true H s differ = differ
  rest_differ false H s differ = differ

  introducing_there : (xs : List (List ℕ)) (s : Sequent) → HasRoomToOpen D s.conclusion s → IsCertain (((p : List (List ℕ) × Sequent) × introductions.Introduced D xs s p.0 p.1) ⊎ ((f : Refusal) × (introductions.Unnamed D xs s × (f ≡ names_spent))))
  introducing_there xs s room = and_also (introduced_there D xs s room) (λ o. elim o [ inl p ↦ inl p | inr spent ↦ inr (names_spent, (spent, refl)) ])

  has_answers : (l : Label) (c : ProofCommand) (s : Sequent) → FindsNames D c s → NumbersDiffer s.variables → HasAnswers (effect D l c s)
  has_answers l (command.intros xs) s room differ = λ o e. (introducing_there xs s room, λ p i. tt)
  has_answers l command.split s room differ = λ p e. tt
  has_answers l command.split_all s room differ = λ p e. tt
  has_answers l command.left s room differ = λ p e. tt
  has_answers l command.right s room differ = λ p e. tt
  has_answers l (command.exists e) s room differ = λ q is. (meaning_there D (scope_of D s) e q.0, λ t m. tt)
  has_answers l (command.case H keep) s room differ = λ F e. cases_there D (form_of F) F l s (if keep then s else without H s) (room F e) differ (rest_differ keep H s differ)
  has_answers l (command.assert e) s room differ = (statement_there D s e, λ F a. (name_there l s, λ p n. tt))
  has_answers l (command.clear Hs) s room differ = tt
  has_answers l (command.rename H x) s room differ = λ F e. tt
  has_answers l (command.induction ns) s room differ = λ ms e. (
    there_or_refused (All (λ m. m ≡ plain) ms) mark,
    λ u p.
        let Fs = conjuncts s.conclusion in
        let i = next_level inductive_level s in
        let few = room ms e in
        let same = antecedents_length D ns (star_of i) Fs ms e in
        hypotheses_there (codes "IH") (marked_antecedents ns (star_of i) Fs) l s _ (omega (arith, few, same)) (λ t. tt),
  )
  has_answers l command.coinduction s room differ = λ ms e. (
    there_or_refused (All (λ m. m ≡ plain) ms) mark,
    λ u p.
        let Fs = conjuncts s.conclusion in
        let i = next_level coinductive_level s in
        let few = room ms e in
        let same = consequents_length D (plus_of i) Fs ms e in
        hypotheses_there (codes "CH") (marked_consequents (plus_of i) Fs) l s _ (omega (arith, few, same)) (λ t. tt),
  )
  has_answers l (command.apply H vs is) s room differ =
      λ F e.
      giving_there s (pieces (length vs) F) is (nat_lt (antecedent_count F) (length vs)) (applying_row l s vs F)
      (λ gs. (
        there_or_refused (AllServe (pieces (length vs) F) (formulas_in s vs)) mark,
        λ u serve. (
          sure (use_there (using s gs (pieces (length vs) F) (record { hypotheses = formulas_in s vs; conclusion = None }) F) differ),
          λ K used. (beside_there gs (result_in (formulas_in s vs) K) l s (room F gs K e used), λ t o. tt),
        ),
      ))
  has_answers l (command.backchain H is) s room differ =
      λ F e.
      giving_there s (pieces (antecedent_count F) F) is false (chaining_row s F)
      (λ gs. (
        there_or_refused (MarksServeIn s.conclusion (behind (antecedent_count F) F)) mark,
        λ u serve. (sure (use_there (using s gs (pieces (antecedent_count F) F) (record { hypotheses = repeated (antecedent_count F); conclusion = Some s.conclusion }) F) differ), λ K used. tt),
      ))
  has_answers l (command.cut H K) s room differ = λ F e G f p i q j L c. (name_there l s, λ n o. tt)
  has_answers l (command.inst H is) s room differ =
      λ F e p i.
      let names = support (marked_judgement plain p.0 p.1) in
      each_read_for s [] names is (λ rs. naming l s (λ name t. leads (assuming name (replace_constants rs (marked_judgement plain p.0 p.1)) t ∷ []))) (λ rs. (name_there l s, λ n o. tt))
  has_answers l (command.monotone H e) s room differ = (meaning_there D (scope_of D s) e olist, λ K m F f p i. (name_there l s, λ n o. tt))
  has_answers l (command.search n) s room differ = tt
  has_answers l command.skip s room differ = tt
  has_answers l command.unfold_goal s room differ = λ x e. (there_or_refused (MayBeUnfolded (sign_of x)) mark, λ u may. (sure (unfolding_there s x differ), λ t i. tt))
  has_answers l (command.permute ns None) s room differ = (there_or_refused (MayCycle ns (goal_names s)) (type_clash 0), λ u may. λ A e. tt)
  has_answers l (command.permute ns (Some H)) s room differ = (there_or_refused (MayCycle ns (goal_names s)) (type_clash 0), λ u may. λ F e. λ A is. tt)

  pub command_answered : (l : Label) (c : ProofCommand) (s : Sequent) → FindsNames D c s → NumbersDiffer s.variables → IsCertain (Answer (effect D l c s))
  command_answered l c s room differ = answer_there (effect D l c s) (has_answers l c s room differ)
