-- Cover, for `{L |- G}`.
use Rattle.std.proofs.Common.{◌≡◌, ℕ, List, [], ◌∷◌, ◌++◌, Bool, true, false, cond, Option, Some, None, refl, sym, ◌∙◌, ap, subst}
use Rattle.std.specs.Prelude.{All, Contains}
use Rattle.std.proofs.lemmas.Bool.{false≢true, false_from_ne_true}
use Rattle.std.proofs.lemmas.List.Elements.{All-nil, All-contains, Contains-append_left, Contains-append_right}
use Rattle.std.proofs.lemmas.Slice.Eq.{bytes_eq-Decides}
use Rattle.ab_term.specs.Types.{Ty, prop, o, olist}
use Rattle.ab_term.specs.Terms.{Nominal, Variable, constant, nominal, index, Term, spine, Terms, no_terms}
use Rattle.ab_term.specs.Typing.{Signature, HasType}
use Rattle.ab_term.specs.Substitution.{shift}
use Rattle.ab_term.specs.Translation.{forget, EqualPastHints}
use Rattle.ab_term.specs.Names.{support}
use Rattle.ab_term.specs.Variables.{Substitution, variables, value_in, image, IsTyped}
use Rattle.ab_term.specs.Sameness.{same_number}
use Rattle.ab_term.proofs.ClosedMaps.{IsClosedMap, shift-image}
use Rattle.ab_term.proofs.Compositions.{map_typed}
use Rattle.ab_term.proofs.Depends.{image_nothing}
use Rattle.ab_term.proofs.Images.{closed_map}
use Rattle.ab_term.proofs.Lists.{Contains-here, Contains-none}
use Rattle.ab_term.proofs.Standing.{Has, shift_has}
use Rattle.ab_unifiers.specs.Replacements.{holds}
use Rattle.ab_unifiers.specs.Unification.{Equation, unified, apart, stuck, Solves}
use Rattle.ab_unifiers.specs.Unifiers.{AreKnown, given}
use Rattle.ab_unifiers.proofs.Agreeing.{holds_front}
use Rattle.ab_unifiers.specs.Alternatives.{Scope, Alternative, on_left, arguments_equal}
use Rattle.ab_unifiers.specs.Choices.{in_order, for_each}
use Rattle.ab_unifiers.specs.InstanceCover.{IsOf, IsScope, IsCleanFor}
use Rattle.ab_unifiers.specs.Member.{HasMember}
use Rattle.ab_unifiers.specs.Prefixes.{arguments_of, predicate_of}
use Rattle.ab_unifiers.proofs.Choosing.{contains_ordered, ordered_contains, gathered}
use Rattle.ab_unifiers.proofs.Constants as names
use Rattle.ab_unifiers.proofs.Covered.{found_of_all}
use Rattle.ab_coverage.proofs.IndexedGoals.{GoalForm, compound, atomic, flexible, judged, focused, member_of, both, for_some, is_nil, goal_form, open_goal, full}
use Rattle.ab_coverage.proofs.IndexedSpecClauses.{SpecClause, atom_with, body_with, clause_image}
use Rattle.ab_coverage.proofs.IndexedInstances.{IsProgramClause, ClauseGives, JudgementInstance, by_program, by_context, by_opening, from_context}
use Rattle.ab_coverage.proofs.IndexedAlternatives.{by_clause, open_binders, program_alternatives, plain_alternative, unfocused_alternatives}
use Rattle.ab_coverage.proofs.IndexedCovering.{FullyEqual, IsMetBy, IsMetIn}
use Rattle.ab_coverage.proofs.Opening.{image-open, full-open}
use Rattle.ab_coverage.proofs.Conjoined.{judged_typed, open_typed, opens_over}
use Rattle.ab_coverage.proofs.Filling.{dropped_with}
use Rattle.ab_coverage.proofs.Cases as one
use Rattle.ab_coverage.proofs.Cases.{full_past_hints, Over, over_logical, over_constant, variables_held, more_over}
use Rattle.ab_coverage.proofs.Covered.{IsRight, arguments_right, over_of, program_part, program_stays, nil_stays}
use Rattle.ab_coverage.proofs.Forms.{form_stays, AtomView, of_constant, of_nominal, atom_view, head_stays, two_heads}
use Rattle.ab_coverage.proofs.Sound.{context_typed}
use Rattle.ab_coverage.proofs.Unifier as problem

module _ (sg : Signature) (has : HasMember sg) {Hint : Type 0} (x f : Hint) (sequent : Scope Hint) (scope : IsScope sequent) (s : Substitution ℕ Hint) (s_typed : IsTyped sg s) (s_clean : IsCleanFor sequent s) where
  -- of constants that the sequent holds none is brought in
  pub brings_none : (S : List Nominal) → ((a : Nominal) → Contains S a → Contains sequent.constants a) → (y : Variable ℕ) (t : Term ℕ Hint) → value_in same_number s y ≡ Some t → names.Has (λ a. ¬ (Contains S a)) t
  brings_none S held y t e =
      let none = found_of_all (λ v. All (λ a. ¬ (Contains (support v) a)) sequent.constants) s s_clean y t e in
      names.support_has (λ a. ¬ (Contains S a)) t (λ a m k. All-contains (λ a. ¬ (Contains (support t) a)) sequent.constants a none (held a k) m)

  pub s_closed : IsClosedMap (value_in same_number s)
  s_closed = closed_map sg ℕ Hint (value_in same_number s) (map_typed sg same_number s s_typed)

  -- an alternative without equations
  module _ (body : Term ℕ Hint) (typed : HasType sg [] body prop) (over : (y : Variable ℕ) → holds (variables body) y ≡ true → holds sequent.variables y ≡ true) (B : Term ℕ Hint) (same : FullyEqual (image same_number s body) B) where
    pub plain_met : IsMetBy FullyEqual sg x sequent (plain_alternative x f on_left sequent body) s B
    plain_met apart e = problem.gives sg x sequent scope.different scope.numbered [] [] [] tt s s_typed (brings_none [] (λ a m. absurd (Contains-none a m))) [] tt tt (All-nil (names.Has (λ a. Contains [] a))) tt apart e
    plain_met (stuck i) e = tt
    plain_met (unified more q) e =
        let g = problem.gives sg x sequent scope.different scope.numbered [] [] [] tt s s_typed (brings_none [] (λ a m. absurd (Contains-none a m))) [] tt tt (All-nil (names.Has (λ a. Contains [] a))) tt (unified more q) e in
        let back : (t : Term ℕ Hint) (A : Ty) → HasType sg [] t A → ((y : Variable ℕ) → holds (variables t) y ≡ true → holds sequent.variables y ≡ true) → EqualPastHints (image same_number g.0 (image same_number q t)) (image same_number s t) =
        λ t A d v. g.2 t A d (λ y h. holds_front sequent.variables [] y (v y h)) ∙ problem.on_old sg x sequent scope.different scope.numbered [] [] [] tt s s_typed (brings_none [] (λ a m. absurd (Contains-none a m))) d v in (
          g.0,
          g.1,
          full_past_hints (image same_number g.0 (image same_number q body)) (image same_number s body) (back body prop typed over) ∙ same,
          (λ t A is. ap (λ u. forget (image same_number g.0 (image same_number q u))) (image_nothing t) ∙ back t A is.typed is.over_variables),
        )

  module _ (program : List (SpecClause Hint)) (well : All (IsProgramClause sg) program) (L G : Term ℕ Hint) (is : IsOf sg sequent (judged L G) prop) where
    abbrev pub S : List Nominal
    S = in_order (support (judged L G))

    abbrev V : List (Variable ℕ)
    V = sequent.variables

    pub held : (a : Nominal) → Contains S a → Contains sequent.constants a
    held a m = is.constants_held a (contains_ordered (support (judged L G)) a m)

    all_over : Has (Over S V) (judged L G)
    all_over = over_of S V (judged L G) (λ a m. ordered_contains (support (judged L G)) a m) is.over_variables

    pub L_over : Has (Over S V) L
    L_over = all_over.1.0

    pub G_over : Has (Over S V) G
    G_over = all_over.1.1.0

    pub L_typed : HasType sg [] L olist
    L_typed = (judged_typed sg L G is.typed).0

    pub G_typed : HasType sg [] G o
    G_typed = (judged_typed sg L G is.typed).1

    -- COMPOUND GOALS
    pub opened_met : (B : Term ℕ Hint) → EqualPastHints (open_goal (image same_number s L) (image same_number s G)) B → IsMetBy FullyEqual sg x sequent (plain_alternative x f on_left sequent (open_goal L G)) s B
    opened_met B e = plain_met (open_goal L G) (open_typed sg has.cons L G L_typed G_typed) (variables_held S V (open_goal L G) (opens_over (Over S V) (over_logical S V) (over_constant S V) L G L_over G_over)) B
        (ap forget (image-open (value_in same_number s) s_closed L G ∙ sym (full-open (image same_number s L) (image same_number s G)))
        ∙ full_past_hints (open_goal (image same_number s L) (image same_number s G)) B e)

    -- THE CONTEXT
    abbrev with_shifted : Term ℕ Hint → Term ℕ Hint → Term ℕ Hint
    with_shifted K A = for_some o f (both (focused K (spine (index 0) no_terms) A) (member_of (spine (index 0) no_terms) K))

    abbrev pub chosen : Term ℕ Hint
    chosen = from_context f L G

    chosen_typed : HasType sg [] chosen prop
    chosen_typed = context_typed sg has f L G L_typed G_typed

    chosen_over : Has (Over S V) chosen
    chosen_over =
        let L1 = shift_has (Over S V) 0 L L_over in
        let G1 = shift_has (Over S V) 0 G G_over in
        (tt, ((tt, ((tt, (L1, ((tt, tt), (G1, tt)))), ((tt, ((tt, tt), (L1, tt))), tt))), tt))

    chosen_image : image same_number s chosen ≡ from_context f (image same_number s L) (image same_number s G)
    chosen_image =
        ap (λ K. with_shifted K (image same_number s (shift 0 G))) (sym (shift-image (value_in same_number s) s_closed L 0))
        ∙ ap (λ K. with_shifted (shift 0 (image same_number s L)) K) (sym (shift-image (value_in same_number s) s_closed G 0))

    pub context_met : (B : Term ℕ Hint) → EqualPastHints (from_context f (image same_number s L) (image same_number s G)) B → IsMetBy FullyEqual sg x sequent (plain_alternative x f on_left sequent chosen) s B
    context_met B e = plain_met chosen chosen_typed (variables_held S V chosen chosen_over) B (ap (λ t. forget (full t)) chosen_image ∙ full_past_hints (from_context f (image same_number s L) (image same_number s G)) B e)

    -- PROGRAM CLAUSES
    module _ (c : SpecClause Hint) (right : IsProgramClause sg c) (vs : List (Option (Term ℕ Hint))) (B : Term ℕ Hint) (gives : ClauseGives sg (image same_number s L) c vs (image same_number s G) B) where
      abbrev U : Substitution ℕ Hint
      U = one.U sg has.cons x sequent scope.different scope.numbered S s s_typed (brings_none S held) L L_typed L_over c (program_part sg S V c right) vs gives.guess

      abbrev new : List (Option (Term ℕ Hint))
      new = one.new sg has.cons x sequent scope.different scope.numbered S s s_typed (brings_none S held) L L_typed L_over c (program_part sg S V c right) vs gives.guess

      atoms_same : EqualPastHints (image same_number U (atom_with c new)) (image same_number s G)
      atoms_same =
          one.atoms_same sg has.cons x sequent scope.different scope.numbered S s s_typed (brings_none S held) L L_typed L_over c (program_part sg S V c right) vs gives.guess
          ∙ ap (λ k. forget (atom_with k vs)) (program_stays sg s c right) ∙ gives.atom

      goal_same : EqualPastHints (image same_number U G) (image same_number s G)
      goal_same = one.on_old sg has.cons x sequent scope.different scope.numbered S s s_typed (brings_none S held) L L_typed L_over c (program_part sg S V c right) vs gives.guess G_typed G_over

      abbrev zs : List (Variable ℕ)
      zs = one.zs sg has.cons x sequent scope.different scope.numbered S s s_typed (brings_none S held) L L_typed L_over c (program_part sg S V c right) vs gives.guess

      known : AreKnown (by_clause x f on_left sequent S L c []).cells (V ++ zs)
      known = problem.known sg x sequent scope.different scope.numbered S (open_binders x f on_left sequent S L c)
          (one.us sg has.cons x sequent scope.different scope.numbered S s s_typed (brings_none S held) L L_typed L_over c (program_part sg S V c right) vs gives.guess)
          (one.us_for sg has.cons x sequent scope.different scope.numbered S s s_typed (brings_none S held) L L_typed L_over c (program_part sg S V c right) vs gives.guess) s s_typed (brings_none S held)

      atom_new_typed : HasType sg [] (atom_with c new) o
      atom_new_typed = one.atom_typed sg has.cons x sequent scope.different scope.numbered S s s_typed (brings_none S held) L L_typed L_over c (program_part sg S V c right) vs gives.guess

      atom_new_over : Has (Over S (V ++ zs)) (atom_with c new)
      atom_new_over = one.atom_over sg has.cons x sequent scope.different scope.numbered S s s_typed (brings_none S held) L L_typed L_over c (program_part sg S V c right) vs gives.guess

      -- its head
      abbrev q : List ℕ
      q = right.head.0

      new_head : (us : Terms ℕ Hint) × (atom_with c new ≡ spine (constant q) us)
      new_head = let r = head_stays c.binders new q right.head.1 in (r.0, ap (dropped_with c.binders new) right.head.2 ∙ r.1)

      one_head : (p : List ℕ) (ts us : Terms ℕ Hint) → forget (image same_number U (spine (constant p) ts)) ≡ forget (image same_number U (spine (constant q) us)) → q ≡ p
      one_head p ts us e = cc

      abbrev program_equations : Terms ℕ Hint → List (Equation Hint)
      program_equations ts = arguments_equal x 0 ts (arguments_of (atom_with c new))

      both_same : (p : List ℕ) (ts : Terms ℕ Hint) → G ≡ spine (constant p) ts → forget (image same_number U (spine (constant p) ts)) ≡ forget (image same_number U (atom_with c new))
      both_same p ts e = ap (λ t. forget (image same_number U t)) (sym e) ∙ goal_same ∙ sym atoms_same

      program_head : (p : List ℕ) (ts : Terms ℕ Hint) → G ≡ spine (constant p) ts → q ≡ p
      program_head p ts e = one_head p ts new_head.0 (both_same p ts e ∙ ap (λ t. forget (image same_number U t)) new_head.1)

      program_right : (p : List ℕ) (ts : Terms ℕ Hint) → G ≡ spine (constant p) ts → IsRight sg (by_clause x f on_left sequent S L c []).cells S U (program_equations ts)
      program_right p ts e = arguments_right sg x (by_clause x f on_left sequent S L c []).cells S (V ++ zs) known U p ts (subst (λ t. HasType sg [] t o) e G_typed) (subst (Has (Over S (V ++ zs))) e (more_over S V zs G G_over))
          (atom_with c new) new_head.0 (new_head.1 ∙ ap (λ b. spine (constant b) new_head.0) (program_head p ts e)) atom_new_typed atom_new_over (both_same p ts e)

      bodies_same : FullyEqual (body_with (image same_number s L) (clause_image s c) vs) B
      bodies_same = ap (λ k. forget (full (body_with (image same_number s L) k vs))) (program_stays sg s c right) ∙ full_past_hints (body_with (image same_number s L) c vs) B gives.body

      program_met : (p : List ℕ) (ts : Terms ℕ Hint) → G ≡ spine (constant p) ts → IsMetBy FullyEqual sg x sequent (by_clause x f on_left sequent S L c (program_equations ts)) s B
      program_met p ts e apart sol =
          let r = program_right p ts e in
          one.clause_met sg has.cons x sequent scope.different scope.numbered S s s_typed (brings_none S held) L L_typed L_over c (program_part sg S V c right) vs gives.guess (program_equations ts) r.typed r.over r.hold r.unifies apart sol
      program_met p ts e (stuck i) sol = tt
      program_met p ts e (unified more q) sol =
          let r = program_right p ts e in
          let g = one.clause_met sg has.cons x sequent scope.different scope.numbered S s s_typed (brings_none S held) L L_typed L_over c (program_part sg S V c right) vs gives.guess (program_equations ts) r.typed r.over r.hold r.unifies (unified more q) sol in
          (g.0, g.1, g.2 ∙ bodies_same, (λ t A is. ap (λ u. forget (image same_number g.0 (image same_number q u))) (image_nothing t) ∙ g.3 t A is.typed is.over_variables))

      listed : (p : List ℕ) (ts : Terms ℕ Hint) → G ≡ spine (constant p) ts → Contains (program_alternatives x f on_left sequent S L c G) (by_clause x f on_left sequent S L c (program_equations ts))
      listed p ts e =
          let same : predicate_of c.atom ≡ p = ap predicate_of right.head.2 ∙ program_head p ts e in
          let alt = by_clause x f on_left sequent S L c (program_equations ts) in
          subst (λ K. Contains (program_alternatives x f on_left sequent S L c K) alt) (sym e)
          (subst (λ b. Contains (cond b (alt ∷ []) []) alt) (sym ((bytes_eq-Decides (predicate_of c.atom) p).1 same)) (Contains-here alt []))

      -- the goal's head is a constant
      abbrev Meeting : Type 0
      Meeting = (alt : Alternative Hint) × Contains (program_alternatives x f on_left sequent S L c G) alt × IsMetBy FullyEqual sg x sequent alt s B

      no_nominal : (a : Nominal) (ts : Terms ℕ Hint) → G ≡ spine (nominal a) ts → ⊥
      no_nominal a ts e = two_heads a q _ _ (ap (λ t. forget (image same_number U t)) (sym e) ∙ goal_same ∙ sym atoms_same ∙ ap (λ t. forget (image same_number U t)) new_head.1)

      by_view : (K : Term ℕ Hint) → AtomView K → G ≡ K → Meeting
      by_view K (of_constant p ts) e = (by_clause x f on_left sequent S L c (program_equations ts), listed p ts e, program_met p ts e)
      by_view K (of_nominal a ts) e = absurd (no_nominal a ts e)

    -- ALL
    abbrev Covered : Term ℕ Hint → GoalForm → Type 0
    Covered B form = (alts : List (Alternative Hint)) → unfocused_alternatives x f on_left sequent program L G form ≡ Some alts → IsMetIn FullyEqual sg x sequent alts s B

    abbrev by_program_all : List (Alternative Hint)
    by_program_all = for_each (λ c. program_alternatives x f on_left sequent S L c G) program

    abbrev from_list : Bool → List (Alternative Hint)
    from_list b = cond b [] (plain_alternative x f on_left sequent chosen ∷ [])

    met_here : (B : Term ℕ Hint) (all alts : List (Alternative Hint)) → Some all ≡ Some alts → IsMetIn FullyEqual sg x sequent all s B → IsMetIn FullyEqual sg x sequent alts s B
    met_here B all alts e m = let same : all ≡ alts = cc in subst (λ l. IsMetIn FullyEqual sg x sequent l s B) same m

    other : {form : GoalForm} (its : GoalForm) → goal_form G ≡ its → ¬ (its ≡ flexible) → goal_form (image same_number s G) ≡ form → ¬ (its ≡ form) → ⊥
    other its e n g different = different (sym e ∙ sym (form_stays (value_in same_number s) G (λ q. n (sym e ∙ q))) ∙ g)

    by_form : (B : Term ℕ Hint) → JudgementInstance sg f program (image same_number s L) (image same_number s G) B → (form : GoalForm) → goal_form G ≡ form → Covered B form
    by_form B i flexible e alts m = absurd (let bad : None ≡ Some alts = m in cc)
    by_form B (by_opening g same) compound e alts m = met_here B (plain_alternative x f on_left sequent (open_goal L G) ∷ []) alts m (plain_alternative x f on_left sequent (open_goal L G), Contains-here (plain_alternative x f on_left sequent (open_goal L G)) [], opened_met B same)
    by_form B (by_program g c vs n gives) compound e alts m = absurd (other compound e (λ q. let bad : compound ≡ flexible = q in cc) g (λ q. let bad : compound ≡ atomic = q in cc))
    by_form B (by_context g n same) compound e alts m = absurd (other compound e (λ q. let bad : compound ≡ flexible = q in cc) g (λ q. let bad : compound ≡ atomic = q in cc))
    by_form B (by_opening g same) atomic e alts m = absurd (other atomic e (λ q. let bad : atomic ≡ flexible = q in cc) g (λ q. let bad : atomic ≡ compound = q in cc))
    by_form B (by_program g c vs n gives) atomic e alts m =
        let k = by_view c (All-contains (IsProgramClause sg) program c well n) vs B gives G (atom_view G e) refl in
        met_here B (by_program_all ++ from_list (is_nil L)) alts m (k.0, Contains-append_left by_program_all (from_list (is_nil L)) k.0 (gathered (λ c. program_alternatives x f on_left sequent S L c G) program c k.0 n k.1), k.2)
    by_form B (by_context g n same) atomic e alts m =
        let alt = plain_alternative x f on_left sequent chosen in
        let not_nil : is_nil L ≡ false = false_from_ne_true (is_nil L) (λ t. false≢true (sym n ∙ nil_stays (value_in same_number s) L t)) in
        met_here B (by_program_all ++ from_list (is_nil L)) alts m (alt, Contains-append_right by_program_all (from_list (is_nil L)) alt (subst (λ b. Contains (from_list b) alt) (sym not_nil) (Contains-here alt [])), context_met B same)

    -- a program clause all of whose alternatives are apart has no instance
    pub program_apart : (c : SpecClause Hint) → Contains program c → goal_form G ≡ atomic → ((alt : Alternative Hint) → Contains (program_alternatives x f on_left sequent S L c G) alt → Solves x (given alt.equations alt.cells alt.flexible) apart)
        → (vs : List (Option (Term ℕ Hint))) (B : Term ℕ Hint) → ¬ (ClauseGives sg (image same_number s L) c vs (image same_number s G) B)
    program_apart c m e all vs B gives = let k = by_view c (All-contains (IsProgramClause sg) program c well m) vs B gives G (atom_view G e) refl in k.2 apart (all k.0 k.1)

  pub unfocused_covered : (program : List (SpecClause Hint)) → All (IsProgramClause sg) program → (L G : Term ℕ Hint) → IsOf sg sequent (judged L G) prop → (alts : List (Alternative Hint)) → unfocused_alternatives x f on_left sequent program L G (goal_form G) ≡ Some alts
      → (B : Term ℕ Hint) → JudgementInstance sg f program (image same_number s L) (image same_number s G) B → IsMetIn FullyEqual sg x sequent alts s B
  unfocused_covered program well L G is alts m B i = by_form program well L G is B i (goal_form G) refl alts m
