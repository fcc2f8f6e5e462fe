-- Terms that are given, one after another, and what the rows say of them.
use Rattle.std.specs.Prelude.{◌≡◌, ◌⊎◌, ℕ, List, [], ◌∷◌, ◌++◌, map, Bool, true, false, ◌||◌, Option, Some, None, Result, Ok, Err, IsErrAnd, if◌then◌else◌, All, Contains}
use Rattle.std.proofs.Common.{inl, inr, refl, sym, ◌∙◌, ap, subst, append-nil}
use Rattle.std.proofs.lemmas.List.{append_assoc}
use Rattle.std.proofs.lemmas.List.Elements.{All-cons, All-nil, Contains-append_left, Contains-append_right, Contains-append_cases}
use Rattle.ab_term.specs.Types.{Ty}
use Rattle.ab_term.specs.Terms.{Nominal, Read}
use Rattle.ab_term.specs.Names.{support}
use Rattle.ab_grammar.specs.CommandTrees.{Instance}
use Rattle.ab_formulas.specs.Declarations.{Declarations, signature_in}
use Rattle.ab_formulas.specs.Formulas.{HasOneTypeEach}
use Rattle.ab_formulas.specs.Sequents.{Variable, Hypothesis, Sequent, Fits, formulas, goal_names, names_of, in_terms, assuming}
use Rattle.ab_formulas.specs.Sequents as sequents
use Rattle.ab_theory.specs.Pieces.{Piece, Given, type_named}
use Rattle.ab_effects.specs.ProofCommands.{reading_each, giving}
use Rattle.ab_meaning.specs.Refusals.{Refusal, unknown, wrong_shape}
use Rattle.ab_effects.specs.Row.{Row, leads, unless, Leads, Refuses}
use Rattle.ab_meaning.specs.Terms.{MeansIn, entry_of, scope_of, kinds_in}
use Rattle.ab_effects.specs.FormulaUses.{strange, given_twice, scope_with}
use Rattle.ab_meaning.specs.Scopes.{Scope, in_proof}
use Rattle.ab_hypothesis.specs.ab_steps.specs.ProofEffects.{RefusedBy}
use Rattle.ab_hypothesis.specs.ab_steps.specs.declared.fault.ProofCommandFault.{ProofCommandFault}
use Rattle.ab_hypothesis.specs.ab_steps.specs.declared.fault.ProofCommandFault.TheVariants.{Unknown, Clash, TypeClash, Untyped, NoHypothesis, WrongShape, Mark, NoMatch, NotPattern, Unresolved, NamesSpent, Memory}
use Rattle.ab_proofcmd.specs.GivenTerms.{values_of, beside, AreRead, AreGiven}
pub use Rattle.ab_formulas.proofs.OneType.{fewer}

-- A ROW THAT REFUSES as another does
pub refused_by : (R Q : Row) → ((f : Refusal) → Refuses R f → Refuses Q f) → (fault : ProofCommandFault) → RefusedBy R fault → RefusedBy Q fault
refused_by R Q so (Unknown x) r = so _ r
refused_by R Q so (Clash x) r = so _ r
refused_by R Q so (TypeClash p) r = so _ r
refused_by R Q so (Untyped p) r = so _ r
refused_by R Q so (NoHypothesis x) r = so _ r
refused_by R Q so WrongShape r = so _ r
refused_by R Q so Mark r = so _ r
refused_by R Q so NoMatch r = so _ r
refused_by R Q so (NotPattern i) r = so _ r
refused_by R Q so (Unresolved x) r = so _ r
refused_by R Q so NamesSpent r = so _ r
refused_by R Q so (Memory f) r = tt

pub same_fault : {T : Type 0} (r : Result T ProofCommandFault) (a f : ProofCommandFault) → IsErrAnd r (λ b. b ≡ a) → r ≡ Err f → a ≡ f
same_fault (Ok u) a f e is = absurd (cc)
same_fault (Err b) a f e is = let one : b ≡ f = cc in sym e ∙ one

-- THE GOAL BESIDE TERMS

pub beside_more : (s : Sequent) (ts : List Read) (t : Read) → beside s (ts ++ t ∷ []) ≡ assuming [] t (beside s ts)
beside_more s [] t = refl
beside_more s (u ∷ ts) t = beside_more (assuming [] u s) ts t

pub same_variables : (s : Sequent) (ts : List Read) → (beside s ts).variables ≡ s.variables
same_variables s [] = refl
same_variables s (t ∷ ts) = same_variables (assuming [] t s) ts

names_last : (hs : List Hypothesis) (h : Hypothesis) → names_of (formulas (hs ++ h ∷ [])) ≡ names_of (formulas hs) ++ support h.formula
names_last [] h = append-nil (support h.formula)
names_last (k ∷ hs) h = ap (λ l. support k.formula ++ l) (names_last hs h) ∙ sym (append_assoc (support k.formula) (names_of (formulas hs)) (support h.formula))

pub names_assuming : (s : Sequent) (t : Read) → goal_names (assuming [] t s) ≡ goal_names s ++ support t
names_assuming s t =
    let h : Hypothesis = record { name = []; formula = t } in
    ap (λ l. support s.conclusion ++ l) (names_last s.hypotheses h) ∙ sym (append_assoc (support s.conclusion) (names_of (formulas s.hypotheses)) (support t))

pub names_beside : (s : Sequent) (ts : List Read) → goal_names (beside s ts) ≡ goal_names s ++ names_of ts
names_beside s [] = sym (append-nil (goal_names s))
names_beside s (t ∷ ts) =
    names_beside (assuming [] t s) ts
    ∙ ap (λ l. l ++ names_of ts) (names_assuming s t)
    ∙ append_assoc (goal_names s) (support t) (names_of ts)

scope_by : Declarations → List Variable → List Nominal → Scope
scope_by D xs ns = record { kinds = kinds_in D; constants = signature_in D; variables = map entry_of xs; nominals = ns; place = in_proof }

pub scope_beside : (D : Declarations) (s : Sequent) (ts : List Read) → scope_of D (beside s ts) ≡ scope_with D s (names_of ts)
unfolding scope_by
scope_beside D s ts =
    ap (λ xs. scope_by D xs (goal_names (beside s ts))) (same_variables s ts)
    ∙ ap (λ ns. scope_by D s.variables ns) (names_beside s ts)

-- what fits beside terms fits the goal
pub fits_alone : (D : Declarations) (s : Sequent) (ts : List Read) (t : Read) (A : Ty) → Fits D (beside s ts) t A → Fits D s t A
fits_alone D s ts t A fit = record {
  typed = fit.typed;
  closed = subst (λ xs. sequents.HoldsOnly xs t) (same_variables s ts) fit.closed;
  one_type = fewer (goal_names s ++ support t) (goal_names (beside s ts) ++ support t) within fit.one_type;
}
  where
    within : (a : Nominal) → Contains (goal_names s ++ support t) a → Contains (goal_names (beside s ts) ++ support t) a
    within a c =
        elim (Contains-append_cases (goal_names s) (support t) a c) [
          | inl d ↦ Contains-append_left (goal_names (beside s ts)) (support t) a
              (subst (λ l. Contains l a) (sym (names_beside s ts)) (Contains-append_left (goal_names s) (names_of ts) a d))
          | inr d ↦ Contains-append_right (goal_names (beside s ts)) (support t) a d
        ]

-- and then each number has one type beside it
pub one_beside : (D : Declarations) (s : Sequent) (ts : List Read) (t : Read) (A : Ty) → Fits D (beside s ts) t A → HasOneTypeEach (goal_names (beside s (ts ++ t ∷ [])))
one_beside D s ts t A fit =
    subst HasOneTypeEach (sym (ap goal_names (beside_more s ts t) ∙ names_assuming (beside s ts) t)) fit.one_type

pub values_more : (gs : List Given) (g : Given) → values_of (gs ++ g ∷ []) ≡ values_of gs ++ g.value ∷ []
values_more [] g = refl
values_more (h ∷ gs) g = ap (λ l. h.value ∷ l) (values_more gs g)

module _ (D : Declarations) (s : Sequent) (ps : List Piece) where
  -- THE TERMS, READ IN ORDER
  behind_those : (names : List Nominal) (t : Read) (h : Given) (gs hs : List Given) → h.value ≡ t → gs ≡ h ∷ hs
      → names ++ names_of (values_of gs) ≡ (names ++ support t) ++ names_of (values_of hs)
  behind_those names t h gs hs is are =
      ap (λ l. names ++ names_of (values_of l)) are
      ∙ ap (λ u. names ++ (support u ++ names_of (values_of hs))) is
      ∙ sym (append_assoc names (support t) (names_of (values_of hs)))

  behind_none : (names : List Nominal) (gs : List Given) → gs ≡ [] → names ++ names_of (values_of gs) ≡ names
  behind_none names gs none = ap (λ l. names ++ names_of (values_of l)) none ∙ append-nil names

  pub read_more : (names : List Nominal) (is : List Instance) (gs : List Given) (i : Instance) (g : Given) → AreRead D s names ps is gs → g.name ≡ i.name → type_named i.name ps ≡ Some g.type
      → MeansIn D (scope_with D s (names ++ names_of (values_of gs))) i.term g.type g.value → AreRead D s names ps (is ++ i ∷ []) (gs ++ g ∷ [])
  read_more names [] gs i g none name type means = (
    g.type,
    type,
    (
      g.value,
      subst (λ l. MeansIn D (scope_with D s l) i.term g.type g.value) (behind_none names gs none) means,
      ([], refl, ap (λ l. l ++ g ∷ []) none ∙ ap (λ (x : List ℕ). record { name = x; type = g.type; value = g.value } ∷ []) name),
    ),
  )
  read_more names (j ∷ is) gs i g (A, ty, (t, m, (hs, others, are))) name type means =
      let h : Given = record { name = j.name; type = A; value = t } in (
        A,
        ty,
        (
          t,
          m,
          (
            hs ++ g ∷ [],
            read_more (names ++ support t) is hs i g others name type (subst (λ l. MeansIn D (scope_with D s l) i.term g.type g.value) (behind_those names t h gs hs refl are) means),
            ap (λ l. l ++ g ∷ []) are,
          ),
        ),
      )

  -- the names that terms are given for are those of `forall`
  pub read_named : (names : List Nominal) (is : List Instance) (gs : List Given) → AreRead D s names ps is gs → All (λ (g : Given). type_named g.name ps ≡ Some g.type) gs
  read_named names [] gs none = subst (All (λ (g : Given). type_named g.name ps ≡ Some g.type)) (sym none) (All-nil (λ (g : Given). type_named g.name ps ≡ Some g.type))
  read_named names (i ∷ is) gs (A, ty, (t, m, (hs, others, are))) =
      let h : Given = record { name = i.name; type = A; value = t } in
      subst (All (λ (g : Given). type_named g.name ps ≡ Some g.type)) (sym are)
      (All-cons (λ (g : Given). type_named g.name ps ≡ Some g.type) h hs ty (read_named (names ++ support t) is hs others))

  -- the next isn't read
  next_refuses : (names : List Nominal) (i : Instance) (is : List Instance) (k : List Given → Row) (f : Refusal) → Refuses (reading_each D s names ps (i ∷ []) (λ gs. leads [])) f
      → Refuses (reading_each D s names ps (i ∷ is) k) f
  next_refuses names i is k f (inl none) = inl none
  next_refuses names i is k f (inr (A, ty, inl none)) = inr (A, ty, inl none)
  next_refuses names i is k f (inr (A, ty, inr (t, m, none))) = absurd none

  pub refuses_there : (names : List Nominal) (before : List Instance) (gs : List Given) (i : Instance) (is : List Instance) (k : List Given → Row) (f : Refusal) → AreRead D s names ps before gs
      → Refuses (reading_each D s (names ++ names_of (values_of gs)) ps (i ∷ []) (λ hs. leads [])) f → Refuses (reading_each D s names ps (before ++ i ∷ is) k) f
  refuses_there names [] gs i is k f none refuses =
      next_refuses names i is k f (subst (λ l. Refuses (reading_each D s l ps (i ∷ []) (λ hs. leads [])) f) (behind_none names gs none) refuses)
  refuses_there names (j ∷ before) gs i is k f (A, ty, (t, m, (hs, others, are))) refuses =
      let h : Given = record { name = j.name; type = A; value = t } in
      inr (
        A,
        ty,
        inr (
          t,
          m,
          refuses_there (names ++ support t) before hs i is (λ l. k (h ∷ l)) f others
              (subst (λ l. Refuses (reading_each D s l ps (i ∷ []) (λ hs. leads [])) f) (behind_those names t h gs hs refl are) refuses),
        ),
      )

  -- WHAT IS DONE WITH THEM THEN
  each_leads : (names : List Nominal) (is : List Instance) (gs : List Given) (k : List Given → Row) (qs : List Sequent) → AreRead D s names ps is gs → Leads (k gs) qs → Leads (reading_each D s names ps is k) qs
  each_leads names [] gs k qs none led = subst (λ l. Leads (k l) qs) none led
  each_leads names (i ∷ is) gs k qs (A, ty, (t, m, (hs, others, are))) led =
      let h : Given = record { name = i.name; type = A; value = t } in
      (A, ty, (t, m, each_leads (names ++ support t) is hs (λ l. k (h ∷ l)) qs others (subst (λ l. Leads (k l) qs) are led)))

  each_refuses : (names : List Nominal) (is : List Instance) (gs : List Given) (k : List Given → Row) (f : Refusal) → AreRead D s names ps is gs → Refuses (k gs) f → Refuses (reading_each D s names ps is k) f
  each_refuses names [] gs k f none refuses = subst (λ l. Refuses (k l) f) none refuses
  each_refuses names (i ∷ is) gs k f (A, ty, (t, m, (hs, others, are))) refuses =
      let h : Given = record { name = i.name; type = A; value = t } in
      inr (A, ty, inr (t, m, each_refuses (names ++ support t) is hs (λ l. k (h ∷ l)) f others (subst (λ l. Refuses (k l) f) are refuses)))

  each_so : (names : List Nominal) (is : List Instance) (h k : List Given → Row) (f : Refusal) → ((gs : List Given) → Refuses (h gs) f → Refuses (k gs) f)
      → Refuses (reading_each D s names ps is h) f → Refuses (reading_each D s names ps is k) f
  each_so names [] h k f so refuses = so [] refuses
  each_so names (i ∷ is) h k f so (inl none) = inl none
  each_so names (i ∷ is) h k f so (inr (A, ty, inl none)) = inr (A, ty, inl none)
  each_so names (i ∷ is) h k f so (inr (A, ty, inr (t, m, refuses))) =
      let g : Given = record { name = i.name; type = A; value = t } in
      inr (A, ty, inr (t, m, each_so (names ++ support t) is (λ l. h (g ∷ l)) (λ l. k (g ∷ l)) f (λ l. so (g ∷ l)) refuses))

  module _ (is : List Instance) (too_many : Bool) where
    shape : Option Refusal
    shape = if given_twice is || too_many then Some wrong_shape else None

    well_shaped : (given_twice is || too_many) ≡ false → shape ≡ None
    unfolding shape
    well_shaped right = ap (λ b. if b then Some wrong_shape else None) right

    -- where all is there, the row leads where it leads with the terms
    pub given_leads : (gs : List Given) (k : List Given → Row) (qs : List Sequent) → AreGiven D s ps is too_many gs → Leads (k gs) qs → Leads (giving D s ps is too_many k) qs
    unfolding shape
    given_leads gs k qs all led = (all.named, each_leads [] is gs (λ l. unless (if given_twice is || too_many then Some wrong_shape else None) (k l)) qs all.read (well_shaped all.shaped, led))

    -- and refuses so as it does with them
    pub given_refuses : (gs : List Given) (k : List Given → Row) (f : Refusal) → AreGiven D s ps is too_many gs → Refuses (k gs) f → Refuses (giving D s ps is too_many k) f
    unfolding shape
    given_refuses gs k f all refuses =
        inr (all.named, each_refuses [] is gs (λ l. unless (if given_twice is || too_many then Some wrong_shape else None) (k l)) f all.read (inr (well_shaped all.shaped, refuses)))

    -- where something isn't there, it refuses so whatever is done then
    pub giving_refuses : (k : List Given → Row) (f : Refusal) → Refuses (giving D s ps is too_many (λ gs. leads [])) f → Refuses (giving D s ps is too_many k) f
    giving_refuses k f (inl found) = inl found
    giving_refuses k f (inr (none, refuses)) =
        inr (none, each_so [] is (λ l. unless (if given_twice is || too_many then Some wrong_shape else None) (leads [])) (λ l. unless (if given_twice is || too_many then Some wrong_shape else None) (k l)) f to refuses)
      where
        to : (l : List Given) → Refuses (unless (if given_twice is || too_many then Some wrong_shape else None) (leads [])) f
            → Refuses (unless (if given_twice is || too_many then Some wrong_shape else None) (k l)) f
        to l (inl is) = inl is
        to l (inr (none, led)) = absurd led

    -- which it does where a term isn't read, or the shape is wrong
    pub unread_refuses : (f : Refusal) → strange ps is ≡ None → Refuses (reading_each D s [] ps is (λ gs. leads [])) f → Refuses (giving D s ps is too_many (λ gs. leads [])) f
    unread_refuses f named refuses =
        inr (named, each_so [] is (λ l. leads []) (λ l. unless (if given_twice is || too_many then Some wrong_shape else None) (leads [])) f (λ l led. absurd led) refuses)

    pub misshapen_refuses : (gs : List Given) → strange ps is ≡ None → AreRead D s [] ps is gs → (given_twice is || too_many) ≡ true → Refuses (giving D s ps is too_many (λ gs. leads [])) wrong_shape
    misshapen_refuses gs named read wrong =
        inr (named, each_refuses [] is gs (λ l. unless (if given_twice is || too_many then Some wrong_shape else None) (leads [])) wrong_shape read (inl (ap (λ b. if b then Some wrong_shape else None) wrong)))

  pub strange_refuses : (is : List Instance) (too_many : Bool) (f : Refusal) → Refuses (unless (strange ps is) (leads [])) f → Refuses (giving D s ps is too_many (λ gs. leads [])) f
  strange_refuses is too_many f (inl so) = inl so
  strange_refuses is too_many f (inr (none, led)) = absurd led
