-- The terms that are given for constants, as the world holds them while one after another is read.
use Rattle.std.specs.Prelude.{◌≡◌, ℕ, List, [], ◌∷◌, ◌++◌, map, Some, Err, All, unwrap_or}
use Rattle.std.proofs.Common.{inl, inr, refl, sym, ◌∙◌, ap, subst}
use Rattle.std.proofs.lemmas.List.{map-append}
use Rattle.std.proofs.lemmas.List.Elements.{All-cons, All-nil, All-append, All-weaker}
use Rattle.ab_norm.specs.Nominals.{nominal_of, HoldsNominal}
use Rattle.ab_norm.specs.declared.nominal.Nominal.{Nominal as KeptNominal}
use Rattle.ab_norm.specs.ab_store.specs.declared.node.TermId.{TermId}
use Rattle.ab_norm.specs.ab_types.specs.Ids.{type_of}
use Rattle.ab_norm.specs.ab_types.specs.declared.ids.TypeId.{TypeId}
use Rattle.ab_term.specs.Terms.{Nominal, Read}
use Rattle.ab_grammar.specs.CommandTrees.{Instance}
use Rattle.ab_inference.specs.declared.fault.InferFault.{InferFault}
use Rattle.ab_inference.specs.declared.fault.InferFault.TheVariants as infer
use Rattle.ab_formulas.specs.Declarations.{Declarations}
use Rattle.ab_formulas.specs.Formulas.{HasOneTypeEach}
use Rattle.ab_formulas.specs.Sequents.{Sequent, Fits, goal_names, names_of}
use Rattle.ab_logic.specs.WorldGrowth.{Grows}
use Rattle.ab_logic.specs.SequentReadings.{sequent_of, HoldsSequent}
use Rattle.ab_logic.specs.Worlds.{IsWorld, read, declarations_of}
use Rattle.ab_logic.specs.declared.world.World.{World}
use Rattle.ab_logic.specs.declared.sequent.Sequent.{Sequent as Kept}
use Rattle.ab_logic.proofs.Growing.{grows_not, grows_on, map_same, same_sequent}
use Rattle.ab_theory.specs.Contexts.{AllFit}
use Rattle.ab_theory.specs.Pieces.{Given}
use Rattle.ab_uses.specs.GivenReadings.{given_of}
use Rattle.ab_uses.specs.declared.given_terms.GivenTerm.{GivenTerm}
use Rattle.ab_effects.specs.FormulaUses.{scope_with}
use Rattle.ab_effects.specs.ProofCommands.{constant_in, reading_for}
use Rattle.ab_effects.specs.Row.{leads}
use Rattle.ab_meaning.specs.Refusals.{unknown, type_clash, untyped}
use Rattle.ab_meaning.specs.Terms.{Means, MeansIn, MeansNothingIn}
use Rattle.ab_meaning.specs.Scopes.{nominal_number}
use Rattle.ab_hypothesis.specs.ab_steps.specs.ab_kernel.specs.ab_rules.specs.RuleAnswers.{replacements}
use Rattle.ab_hypothesis.specs.ab_steps.specs.ab_kernel.specs.ab_rules.specs.declared.replaces.Replace.{Replace}
use Rattle.ab_hypothesis.specs.ab_steps.specs.ProofEffects.{RefusedBy}
use Rattle.ab_hypothesis.specs.ab_steps.specs.declared.fault.ProofCommandFault.{ProofCommandFault}
use Rattle.ab_proofcmd.specs.GoalExpressions.{IsReadAs, fault_for}
use Rattle.ab_proofcmd.specs.GivenTerms.{HoldsGiven, values_of, values_in, beside}
use Rattle.ab_proofcmd.specs.ReplacedConstants.{replace_of, IsNextFor, AreReadFor}
use Rattle.ab_proofcmd.proofs.Given.{refused_by, scope_beside, values_more, one_beside}
use Rattle.ab_proofcmd.proofs.TermSets.{type_later, holds_later, all_later, still_given}
use Rattle.ab_proofcmd.proofs.Constants.{read_more, refuses_there, fits_beside, fit_more}

-- WHAT IS READ NEXT

pub next_given : (w v : World) (s : Sequent) (ts : List Read) (names : List Nominal) (i : Instance) (name : List ℕ) (A : TypeId) (a : Nominal) (t : TermId) → type_of v.types A ≡ type_of w.types A → name ≡ i.name
    → constant_in names i.name ≡ Some a → a.type ≡ type_of w.types A → Means (declarations_of w) (beside s ts) i.term (type_of w.types A) (read v t)
    → Fits (declarations_of w) (beside s ts) (read v t) (type_of w.types A) → IsNextFor (declarations_of w) s ts names i (given_of v (record { name = name; ty = A; value = t }))
next_given w v s ts names i name A a t later named is type means fits =
    let D = declarations_of w in
    record {
      name = named;
      constant = a;
      is = is;
      type = later ∙ sym type;
      means = subst (λ B. MeansIn D (scope_with D s (names_of ts)) i.term B (read v t)) (sym later)
          (subst (λ scope. MeansIn D scope i.term (type_of w.types A) (read v t)) (scope_beside D s ts) means);
      fits = subst (λ B. Fits D (beside s ts) (read v t) B) (sym later) fits;
    }

pub next_unread : (D : Declarations) (s : Sequent) (ts : List Read) (names : List Nominal) (i : Instance) (a : Nominal) (v : World) (f : InferFault) → constant_in names i.name ≡ Some a
    → IsReadAs D (beside s ts) i.term a.type v (Err f) → RefusedBy (reading_for D s (names_of ts) names (i ∷ []) (λ rs. leads [])) (fault_for f)
next_unread D s ts names i a v (infer.Unknown x) is none = inr (a, is, inl (subst (λ scope. MeansNothingIn scope i.term a.type (unknown x)) (scope_beside D s ts) none))
next_unread D s ts names i a v (infer.TypeClash p) is none = inr (a, is, inl (subst (λ scope. MeansNothingIn scope i.term a.type (type_clash p)) (scope_beside D s ts) none))
next_unread D s ts names i a v (infer.Untyped p) is none = inr (a, is, inl (subst (λ scope. MeansNothingIn scope i.term a.type (untyped p)) (scope_beside D s ts) none))
next_unread D s ts names i a v (infer.Memory m) is none = tt

-- the constants are the same in a later world
pub names_later : (w v : World) → Grows w v → (names : List KeptNominal) → All (HoldsNominal w.types) names → map (nominal_of v.types) names ≡ map (nominal_of w.types) names
names_later w v grown names held =
    map_same (nominal_of v.types) (nominal_of w.types) (HoldsNominal w.types)
    (λ a there. ap (λ A. record { number = a.number; type = A }) (type_later w.types v.types a.ty grown.types there)) names held

pub names_still : (w v : World) → Grows w v → (names : List KeptNominal) → All (HoldsNominal w.types) names → All (HoldsNominal v.types) names
names_still w v grown names held = All-weaker (HoldsNominal w.types) (HoldsNominal v.types) (λ a there. holds_later w.types v.types a.ty grown.types there) names held

-- WHAT IS READ SO FAR, of these instances
pub record ReadForSoFar (old w : World) (goal : Kept) (names : List KeptNominal) (is : List Instance) (gs : List GivenTerm) : Type 0 where
  pub grows : Grows old w
  pub declared : declarations_of w ≡ declarations_of old
  pub held : All (HoldsGiven w) gs
  pub read_in : AreReadFor (declarations_of old) (sequent_of old goal) [] (map (nominal_of old.types) names) is (map (given_of w) gs)
  pub fit : AllFit (declarations_of old) (sequent_of old goal) [] (map replace_of (map (given_of w) gs))
  pub one : HasOneTypeEach (goal_names (beside (sequent_of old goal) (values_in w gs)))

pub nothing_read : (w : World) → IsWorld w → (goal : Kept) (names : List KeptNominal) (gs : List GivenTerm) → gs ≡ [] → HasOneTypeEach (goal_names (sequent_of w goal)) → ReadForSoFar w w goal names [] gs
nothing_read w world goal names gs none one =
    subst (ReadForSoFar w w goal names []) (sym none)
    (record { grows = grows_not w world; declared = refl; held = All-nil (HoldsGiven w); read_in = refl; fit = tt; one = one })

module _ (old w : World) (goal : Kept) (names : List KeptNominal) (is : List Instance) (gs : List GivenTerm) (held : HoldsSequent old goal) (all : All (HoldsNominal old.types) names) (far : ReadForSoFar old w goal names is gs) where
  abbrev D : Declarations
  D = declarations_of old

  abbrev S : Sequent
  S = sequent_of old goal

  abbrev N : List Nominal
  N = map (nominal_of old.types) names

  same_goal : sequent_of w goal ≡ S
  same_goal = same_sequent old w far.grows goal held

  same_names : map (nominal_of w.types) names ≡ N
  same_names = names_later old w far.grows names all

  -- a number has one type, as the world reads it
  pub one_now : HasOneTypeEach (goal_names (beside (sequent_of w goal) (values_in w gs)))
  one_now = subst (λ s. HasOneTypeEach (goal_names (beside s (values_in w gs)))) (sym same_goal) far.one

  next_here : (i : Instance) (g : Given) → IsNextFor (declarations_of w) (sequent_of w goal) (values_in w gs) (map (nominal_of w.types) names) i g → IsNextFor D S (values_in w gs) N i g
  next_here i g next =
      subst (λ ns. IsNextFor D S (values_in w gs) ns i g) same_names
      (subst (λ s. IsNextFor D s (values_in w gs) (map (nominal_of w.types) names) i g) same_goal
      (subst (λ E. IsNextFor E (sequent_of w goal) (values_in w gs) (map (nominal_of w.types) names) i g) far.declared next))

  pub read_one_more : (v : World) (i : Instance) (g : GivenTerm) → Grows w v → declarations_of v ≡ declarations_of w → HoldsGiven v g
      → IsNextFor (declarations_of w) (sequent_of w goal) (values_in w gs) (map (nominal_of w.types) names) i (given_of v g) → ReadForSoFar old v goal names (is ++ i ∷ []) (gs ++ g ∷ [])
  read_one_more v i g grown declared there next = record {
    grows = grows_on old w v far.grows grown;
    declared = declared ∙ far.declared;
    held = All-append (HoldsGiven v) gs (g ∷ []) (still_given w v grown gs far.held) (All-cons (HoldsGiven v) g [] there (All-nil (HoldsGiven v)));
    read_in = subst (AreReadFor D S [] N (is ++ i ∷ [])) (sym now) (read_more D S N [] is (map (given_of w) gs) i (given_of v g) here.constant far.read_in here.name here.is here.type here.means);
    fit = subst (λ l. AllFit D S [] (map replace_of l)) (sym now) (fit_more D S [] (map (given_of w) gs) (given_of v g) far.fit (fits_beside D S (values_in w gs) (given_of v g) here.fits));
    one = subst (λ l. HasOneTypeEach (goal_names (beside S l))) (sym values_now) (one_beside D S (values_in w gs) (given_of v g).value (given_of v g).type here.fits);
  }
    where
      here : IsNextFor D S (values_in w gs) N i (given_of v g)
      here = next_here i (given_of v g) next

      now : map (given_of v) (gs ++ g ∷ []) ≡ map (given_of w) gs ++ given_of v g ∷ []
      now = map-append (given_of v) gs (g ∷ []) ∙ ap (λ l. l ++ given_of v g ∷ []) (all_later w v grown gs far.held)

      values_now : values_in v (gs ++ g ∷ []) ≡ values_in w gs ++ (given_of v g).value ∷ []
      values_now = ap values_of now ∙ values_more (map (given_of w) gs) (given_of v g)

  -- the next isn't read, for this cause
  pub unread_next : (i : Instance) (others : List Instance) (fault : ProofCommandFault)
      → RefusedBy (reading_for (declarations_of w) (sequent_of w goal) (names_of (values_in w gs)) (map (nominal_of w.types) names) (i ∷ []) (λ rs. leads [])) fault
      → RefusedBy (reading_for D S [] N (is ++ i ∷ others) (λ rs. leads [])) fault
  unread_next i others fault refused =
      refused_by (reading_for D S (names_of (values_in w gs)) N (i ∷ []) (λ rs. leads [])) (reading_for D S [] N (is ++ i ∷ others) (λ rs. leads []))
      (λ f. refuses_there D S N [] is (map (given_of w) gs) i others (λ rs. leads []) f far.read_in) fault
      (subst (λ ns. RefusedBy (reading_for D S (names_of (values_in w gs)) ns (i ∷ []) (λ rs. leads [])) fault) same_names
      (subst (λ s. RefusedBy (reading_for D s (names_of (values_in w gs)) (map (nominal_of w.types) names) (i ∷ []) (λ rs. leads [])) fault) same_goal
      (subst (λ E. RefusedBy (reading_for E (sequent_of w goal) (names_of (values_in w gs)) (map (nominal_of w.types) names) (i ∷ []) (λ rs. leads [])) fault) far.declared refused)))

-- one more of the constants, with its term
pub one_replaced : (w : World) (G : List Given) (rs : List Replace) (g : GivenTerm) (n : ℕ) → n ≡ unwrap_or (nominal_number g.name) 0 → replacements w rs ≡ map replace_of G
    → replacements w (rs ++ record { from = record { number = n; ty = g.ty }; to = g.value } ∷ []) ≡ map replace_of (G ++ given_of w g ∷ [])
one_replaced w G rs g n number before =
    map-append (λ (r : Replace). (nominal_of w.types r.from, read w r.to)) rs (record { from = record { number = n; ty = g.ty }; to = g.value } ∷ [])
    ∙ ap (λ l. l ++ (record { number = n; type = type_of w.types g.ty }, read w g.value) ∷ []) before
    ∙ ap (λ m. map replace_of G ++ (record { number = m; type = type_of w.types g.ty }, read w g.value) ∷ []) number
    ∙ sym (map-append replace_of G (given_of w g ∷ []))
