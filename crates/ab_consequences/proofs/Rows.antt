-- What the rows of `apply` and `backchain` ask of a formula says that it may be used so.
use Rattle.std.specs.Prelude.{All, Contains, IfSome, cond, not, if◌then◌else◌, bytes_eq}
use Rattle.std.proofs.Common.{◌≡◌, ◌≤◌, inl, inr, ℕ, zero, suc, Bool, true, false, List, [], ◌∷◌, ◌++◌, map, length, Option, Some, None, refl, sym, ◌∙◌, ap, subst, arith}
use Rattle.std.proofs.lemmas.List.Elements.{All-nil, All-cons, All-head, All-tail, All-weaker, All-contains, Contains-append_left, Contains-append_right, Contains-append_cases}
use Rattle.ab_term.specs.Types.{Ty}
use Rattle.ab_term.specs.Terms.{Nominal, Read}
use Rattle.ab_term.specs.Typing.{Signature, HasType}
use Rattle.ab_term.specs.Names.{support, HasOneTypeEach}
use Rattle.ab_term.proofs.Lists.{Contains-none}
use Rattle.ab_formulas.specs.Declarations.{Declarations, signature_in}
use Rattle.ab_formulas.specs.Marks.{marks_of, MarksServe, MarksServeIn}
use Rattle.ab_formulas.specs.Sequents.{Variable, Sequent, IsSequent, HoldsOnly, Fits, goal_names}
use Rattle.ab_theory.specs.Pieces.{Piece, universal_of, nabla_of, antecedent_of, pieces, behind, antecedent_count, type_named, Given, given_for, given_otherwise, Part, part_for, parts, AllServe}
use Rattle.ab_theory.specs.Uses.{Aim, given_constants, types_chosen, use_by}
use Rattle.ab_theory.specs.UseAnswers.{Using}
use Rattle.ab_unifiers.specs.Choices.{in_order}
use Rattle.ab_theory.proofs.RulesParts.{MayStand}
use Rattle.ab_effects.specs.FormulaUses.{using}
use Rattle.ab_effects.specs.ProofCommands.{repeated}
use Rattle.ab_consequences.specs.UseStages.{HasParts}
use Rattle.ab_consequences.specs.UsesFollow.{GivenOver, MarksServeEach, AreNone, MayUse}
use Rattle.ab_consequences.specs.UseRows.{constants_given, AreFitting}
use Rattle.ab_consequences.proofs.Begun.{begun}
use Rattle.ab_consequences.proofs.Counted.{parts_count}
use Rattle.ab_consequences.proofs.Marks.{used_marks, ServeMarks, serve_each, serve_in_front, behind_marks}

-- a constant of what is put for the names is one of what is given
module _ (a : Nominal) where
  of_found : (x : List ℕ) (gs : List Given) (t : Read) → given_for x gs ≡ Some t → Contains (support t) a → Contains (constants_given gs) a
  of_found x [] t e m = absurd (cc)
  of_found x (g ∷ gs) t e m = go (bytes_eq g.name x) e (λ f. of_found x gs t f m)
    where
      go : (b : Bool) → (if b then Some g.value else given_for x gs) ≡ Some t → (given_for x gs ≡ Some t → Contains (constants_given gs) a) → Contains (constants_given (g ∷ gs)) a
      go true is rest = let value : g.value ≡ t = cc in Contains-append_left (support g.value) (constants_given gs) a (subst (λ v. Contains (support v) a) (sym value) m)
      go false is rest = Contains-append_right (support g.value) (constants_given gs) a (rest is)

  of_others : (x : List ℕ) (gs : List Given) → Contains (constants_given (given_otherwise x gs)) a → Contains (constants_given gs) a
  of_others x [] m = m
  of_others x (g ∷ gs) m = go (bytes_eq g.name x) m (of_others x gs)
    where
      go : (b : Bool) → Contains (constants_given (cond (not b) (g ∷ given_otherwise x gs) (given_otherwise x gs))) a → (Contains (constants_given (given_otherwise x gs)) a → Contains (constants_given gs) a) → Contains (constants_given (g ∷ gs)) a
      go true is rest = Contains-append_right (support g.value) (constants_given gs) a (rest is)
      go false is rest = elim (Contains-append_cases (support g.value) (constants_given (given_otherwise x gs)) a is) [
        | inl c ↦ Contains-append_left (support g.value) (constants_given gs) a c
        | inr c ↦ Contains-append_right (support g.value) (constants_given gs) a (rest c)
      ]

  put_from : (ps : List Piece) (gs : List Given) → Contains (given_constants (parts gs ps)) a → Contains (constants_given gs) a
  put_from [] gs m = absurd (Contains-none a m)
  put_from (universal_of x A ∷ ps) gs m = go (given_for x gs) refl m (λ c. of_others x gs (put_from ps (given_otherwise x gs) c))
    where
      go : (o : Option Read) → given_for x gs ≡ o → Contains (given_constants (part_for x A o ∷ parts (given_otherwise x gs) ps)) a
          → (Contains (given_constants (parts (given_otherwise x gs) ps)) a → Contains (constants_given gs) a) → Contains (constants_given gs) a
      go None e is rest = rest is
      go (Some t) e is rest = elim (Contains-append_cases (support t) (given_constants (parts (given_otherwise x gs) ps)) a is) [ inl c ↦ of_found x gs t e c | inr c ↦ rest c ]
  put_from (nabla_of A ∷ ps) gs m = put_from ps gs m
  put_from (antecedent_of E ∷ ps) gs m = put_from ps gs m

-- what is put for the names holds what is given
module _ (xs : List Variable) where
  abbrev Over : Given → Type 0
  Over g = HoldsOnly xs g.value

  found_over : (x : List ℕ) (gs : List Given) (t : Read) → All Over gs → given_for x gs ≡ Some t → HoldsOnly xs t
  found_over x [] t all e = absurd (cc)
  found_over x (g ∷ gs) t all e = go (bytes_eq g.name x) e (found_over x gs t (All-tail Over g gs all))
    where
      go : (b : Bool) → (if b then Some g.value else given_for x gs) ≡ Some t → (given_for x gs ≡ Some t → HoldsOnly xs t) → HoldsOnly xs t
      go true is rest = let value : g.value ≡ t = cc in subst (HoldsOnly xs) value (All-head Over g gs all)
      go false is rest = rest is

  others_over : (x : List ℕ) (gs : List Given) → All Over gs → All Over (given_otherwise x gs)
  others_over x [] all = all
  others_over x (g ∷ gs) all = go (bytes_eq g.name x) (others_over x gs (All-tail Over g gs all))
    where
      go : (b : Bool) → All Over (given_otherwise x gs) → All Over (cond (not b) (g ∷ given_otherwise x gs) (given_otherwise x gs))
      go true rest = rest
      go false rest = All-cons Over g (given_otherwise x gs) (All-head Over g gs all) rest

  given_over : (ps : List Piece) (gs : List Given) → All Over gs → GivenOver xs (parts gs ps)
  given_over [] gs all = tt
  given_over (universal_of x A ∷ ps) gs all = go (given_for x gs) refl (given_over ps (given_otherwise x gs) (others_over x gs all))
    where
      go : (o : Option Read) → given_for x gs ≡ o → GivenOver xs (parts (given_otherwise x gs) ps) → GivenOver xs (part_for x A o ∷ parts (given_otherwise x gs) ps)
      go None e rest = rest
      go (Some t) e rest = (found_over x gs t all e, rest)
  given_over (nabla_of A ∷ ps) gs all = given_over ps gs all
  given_over (antecedent_of E ∷ ps) gs all = given_over ps gs all

module _ (D : Declarations) (s : Sequent) (is : IsSequent D s) (F : Read) (may : MayStand (signature_in D) s.variables (goal_names s) F) (n : ℕ) (gs : List Given) (fitting : AreFitting D s (pieces n F) gs) (enough : n ≤ antecedent_count F) where
  abbrev sg : Signature
  sg = signature_in D

  abbrev qs : List Part
  qs = parts gs (pieces n F)

  front : HasParts sg qs F
  front = begun sg [] gs n F may.formula.typed (All-weaker (λ (g : Given). Fits D s g.value g.type) (λ (g : Given). HasType sg [] g.value g.type) (λ g f. f.typed) gs fitting.fits) fitting.named

  over : GivenOver s.variables qs
  over = given_over s.variables (pieces n F) gs (All-weaker (λ (g : Given). Fits D s g.value g.type) (λ (g : Given). HoldsOnly s.variables g.value) (λ g f. f.closed) gs fitting.fits)

  one : HasOneTypeEach (goal_names s ++ given_constants qs)
  one a b c d e = fitting.one_type a b (within a c) (within b d) e
    where
      within : (k : Nominal) → Contains (goal_names s ++ given_constants qs) k → Contains (goal_names s ++ constants_given gs) k
      within k m = elim (Contains-append_cases (goal_names s) (given_constants qs) k m) [
        | inl j ↦ Contains-append_left (goal_names s) (constants_given gs) k j
        | inr j ↦ Contains-append_right (goal_names s) (constants_given gs) k (put_from k (pieces n F) gs j)
      ]

  abbrev May : Read → Type 0
  May = MayStand sg s.variables (goal_names s)

  pub applied_so : (hs : List (Option Read)) → All (λ o. IfSome o May) hs → length hs ≡ n → AllServe (pieces n F) hs
      → MayUse D (using s gs (pieces n F) (record { hypotheses = hs; conclusion = None }) F)
  applied_so hs mays long serve = record {
    sequent = is;
    formula = may;
    parts = front;
    given = over;
    one_type = one;
    hypotheses = mays;
    conclusion = tt;
    as_many = long ∙ sym (parts_count n F gs enough);
    alone = tt;
    serve = λ m names types.
        let marks = used_marks sg (in_order (goal_names s)) m qs names front may.formula.stands types in
        serve_each (use_by s m qs F names).antecedents hs (subst (λ ms. ServeMarks ms hs) (sym marks.0) (serve_in_front n F gs hs serve));
    serve_result = λ m names types. tt;
  }

  nothing_serves : (As : List Read) (k : ℕ) → MarksServeEach (repeated k) As
  nothing_serves As zero = tt
  nothing_serves [] (suc k) = tt
  nothing_serves (A ∷ As) (suc k) = nothing_serves As k

  nothing_may : (k : ℕ) → All (λ o. IfSome o May) (repeated k)
  nothing_may zero = All-nil (λ o. IfSome o May)
  nothing_may (suc k) = All-cons (λ o. IfSome o May) None (repeated k) tt (nothing_may k)

  nothing_long : (k : ℕ) → length (repeated k) ≡ k
  nothing_long zero = refl
  nothing_long (suc k) = let rest = nothing_long k in omega (arith, rest)

  nothing_is : (k : ℕ) → AreNone (repeated k)
  nothing_is zero = All-nil (λ (o : Option Read). o ≡ None)
  nothing_is (suc k) = All-cons (λ (o : Option Read). o ≡ None) None (repeated k) refl (nothing_is k)

  pub backchained_so : (C : Read) → May C → MarksServeIn C (behind n F) → MayUse D (using s gs (pieces n F) (record { hypotheses = repeated n; conclusion = Some C }) F)
  backchained_so C may_C serve = record {
    sequent = is;
    formula = may;
    parts = front;
    given = over;
    one_type = one;
    hypotheses = nothing_may n;
    conclusion = may_C;
    as_many = nothing_long n ∙ sym (parts_count n F gs enough);
    alone = nothing_is n;
    serve = λ m names types. nothing_serves (use_by s m qs F names).antecedents n;
    serve_result = λ m names types.
        let marks = used_marks sg (in_order (goal_names s)) m qs names front may.formula.stands types in
        subst (MarksServe (marks_of C)) (sym (marks.1 ∙ behind_marks n F gs)) serve;
  }
