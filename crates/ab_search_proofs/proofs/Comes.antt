-- A closed body is opened again by the steps at `exists` and `nabla`.
use Rattle.std.proofs.Common.{◌≡◌, ◌≢◌, ◌⊎◌, inl, inr, ℕ, zero, List, [], ◌∷◌, ◌++◌, map, Some, refl, sym, ◌∙◌, ap, subst}
use Rattle.std.specs.Prelude.{All, AllPairs, Contains}
use Rattle.std.proofs.lemmas.List.Elements.{All-contains, All-head, All-tail, Contains-append_cases}
use Rattle.ab_term.specs.Types.{Ty, prop}
use Rattle.ab_term.specs.Terms as tree
use Rattle.ab_term.specs.Terms.{Nominal, nominal, variable, logical, lam, spine, no_terms, term, Read}
use Rattle.ab_term.specs.Typing.{Signature, HasType, typed_lam, typed_spine, take_none, take_term}
use Rattle.ab_term.specs.Names.{support, HasOneTypeEach}
use Rattle.ab_term.specs.Translation.{forget}
use Rattle.ab_term.specs.Substitution.{instance}
use Rattle.ab_term.specs.Abstraction.{close}
use Rattle.ab_term.specs.Variables.{variables, value_in, image, one_by_one}
use Rattle.ab_term.specs.Sameness.{same_number}
use Rattle.ab_term.proofs.Closing.{close_typed}
use Rattle.ab_term.proofs.Compositions.{image_typed}
use Rattle.ab_term.proofs.Lists.{Contains-from_map, All-from_contains, AllPairs-parts}
use Rattle.ab_term.proofs.PastHints.{support_past_hints}
use Rattle.ab_term.proofs.Preservation.{here}
use Rattle.ab_term.proofs.Stands.{support-image}
use Rattle.ab_term.proofs.Translations.{translate-instance}
use Rattle.ab_unifiers.specs.Replacements.{Cell}
use Rattle.ab_unifiers.specs.Clauses.{Each, put_together}
use Rattle.ab_formulas.specs.Declarations.{Declarations, signature_in}
use Rattle.ab_formulas.specs.Forms.{as_exists, exists_in, as_nabla, nabla_in}
use Rattle.ab_formulas.specs.GoalTerms.{HoldsOnly}
use Rattle.ab_formulas.specs.NewNames.{IsLeast}
use Rattle.ab_formulas.specs.Sequents.{Variable, Sequent, Fits, formulas, names_of, in_terms, proving}
use Rattle.ab_formulas.proofs.OneType.{fewer}
use Rattle.ab_theory.specs.Rules as rules
use Rattle.ab_theory.specs.Rules.{MayName, IsNew}
use Rattle.ab_theory.specs.Steps.{exists_right, nabla_right}
use Rattle.ab_theory.specs.Unfolding.{exists_all, nabla_all}
use Rattle.ab_theory.proofs.Demanded.{exist_all_typed}
use Rattle.ab_theory.proofs.OneAnswer.{least_once}
use Rattle.ab_search_proofs.specs.Likeness.{StandIn, IsLike, IsLikeGoal}
use Rattle.ab_search_proofs.specs.Coming.{ComesTo, it_is, by_term, by_constant}
use Rattle.ab_search_proofs.proofs.Opened.{one, one_typed, only_value, exists_shape, nabla_shape, exists_put, put_past_names, put_past_variables, nabla_off, nablas_hold, exists_hold}
use Rattle.ab_search_proofs.proofs.Least.{least_constant}
use Rattle.ab_search_proofs.proofs.Taken.{leads_to}
use Rattle.ab_search_proofs.proofs.Connectives.{like_proving, same_option}

module _ (sg : Signature) where
  pub nablas_typed : (zs : List (Cell (List ℕ))) (cs : List Nominal) (F : Read) → HasType sg [] F prop → HasType sg [] (nabla_all zs cs F) prop
  nablas_typed [] cs F d = d
  nablas_typed (z ∷ zs) [] F d = d
  nablas_typed (z ∷ zs) (a ∷ cs) F d = typed_spine refl (take_term (typed_lam (close_typed sg (nominal a) here refl (nablas_typed zs cs F d))) take_none)

-- instances past hints
same_instance : (S L u : Read) → forget S ≡ forget L → forget (instance S u) ≡ forget (instance L u)
same_instance S L u e = translate-instance (λ k. k) (λ k. tt) S u ∙ ap (λ k. instance k (forget u)) e ∙ sym (translate-instance (λ k. k) (λ k. tt) L u)

module _ (D : Declarations) (vs : List StandIn) (Hs : List Read) (C : Read) (s : Sequent) (l : IsLikeGoal D vs Hs C s) (B K : Read) (finish : (G : Read) → forget G ≡ forget K → IsLike D vs B G)
    (M : List Nominal) (one_type : HasOneTypeEach M) (held : (a : Nominal) → Contains (names_of (formulas s.hypotheses)) a → Contains M a) (zs : List (Cell (List ℕ))) (cs : List Nominal) where
  abbrev sg : Signature
  sg = signature_in D

  -- the names, which don't stand in the formula
  names_come : (zs : List (Cell (List ℕ))) (cs : List Nominal) (F G : Read) → HasType sg [] F prop → All (λ a. ¬ Contains (support F) a) cs → forget F ≡ forget K → forget G ≡ forget (nabla_all zs cs F) → ComesTo D vs Hs B (proving G s)
  names_come [] cs F G d out f e = it_is (like_proving D vs Hs C B G s l (finish G (e ∙ f)))
  names_come (z ∷ zs) [] F G d out f e = it_is (like_proving D vs Hs C B G s l (finish G (e ∙ f)))
  names_come (z ∷ zs) (a ∷ cs) F G d out f e =
      let R = nabla_all zs cs F in
      let L = lam a.type z.hint (close zero (nominal a) R) in
      let h = nabla_shape a.type L G e in
      let found : as_nabla G ≡ Some (a.type, h.0) = ap nabla_in h.1 in
      let u = proving G s in
      let n = least_constant u G a.type in
      let next : ℕ → Read = λ m. instance h.0 (rules.name_term (record { number = m; type = a.type })) in
      let taken_off : (m : ℕ) → forget (next m) ≡ forget R = λ m. same_instance h.0 L (rules.name_term (record { number = m; type = a.type })) h.2
      ∙ ap forget (nabla_off sg a.type z.hint a R (rules.name_term (record { number = m; type = a.type })) (nablas_typed sg zs cs F d) (λ k. All-head (λ c. ¬ Contains (support F) c) a cs out (nablas_hold zs cs F a k))) in
      by_constant (proving (next n.0) s)
      (leads_to D nabla_right u (λ ps. ps ≡ proving (next n.0) s ∷ []) (λ cells are. (proving (next n.0) s ∷ [], ((a.type, h.0), found, (n.0, n.1, refl)))) (λ cells are i x. x.2)
      (λ cells are ps k.
      let p : k.0 ≡ (a.type, h.0) = same_option (sym k.1 ∙ found) in
      let least : IsLeast (MayName u G a.type) (k.2).0 = subst (λ (w : Ty × Read). IsLeast (MayName u G w.0) (k.2).0) p (k.2).1 in
      (k.2).2 ∙ ap (λ (w : Ty × Read). proving (instance w.1 (rules.name_term (record { number = (k.2).0; type = w.0 }))) u ∷ []) p
      ∙ ap (λ m. proving (next m) s ∷ []) (least_once (MayName u G a.type) (k.2).0 n.0 least n.1)))
      (names_come zs cs F (next n.0) d (All-tail (λ c. ¬ Contains (support F) c) a cs out) f (taken_off n.0))

  -- THE TERMS, and then the names
  pub terms_come : (ws : List Variable) (ts : List Read) (F G : Read) → HasType sg [] F prop → Each (λ (w : Variable) t. HasType sg [] t w.type) ws ts → All (HoldsOnly (map in_terms s.variables)) ts
      → All (λ (w : Variable). IsNew w.number s) ws → AllPairs (λ (v w : Variable). v.number ≢ w.number) ws → All (λ a. ¬ Contains (support F) a) cs → All (λ t. All (λ a. ¬ Contains (support t) a) cs) ts
      → ((a : Nominal) → Contains (support F) a → Contains M a) → All (λ t. (a : Nominal) → Contains (support t) a → Contains M a) ts
      → forget (one_by_one same_number (put_together (map in_terms ws) ts) F) ≡ forget K → forget G ≡ forget (exists_all ws (nabla_all zs cs F)) → ComesTo D vs Hs B (proving G s)
  terms_come [] [] F G d ds known new differ out outs hold holds f e = names_come zs cs F G d out f e
  terms_come [] (t ∷ ts) F G d ds known new differ out outs hold holds f e = absurd ds
  terms_come (w ∷ ws) [] F G d ds known new differ out outs hold holds f e = absurd ds
  terms_come (w ∷ ws) (t ∷ ts) F G d ds known new differ out outs hold holds f e =
      let Absent : Read → Type 0 = λ u. All (λ a. ¬ Contains (support u) a) cs in
      let Held : Read → Type 0 = λ u. (a : Nominal) → Contains (support u) a → Contains M a in
      let R = exists_all ws (nabla_all zs cs F) in
      let L = lam w.type w.name (close zero (variable (in_terms w)) R) in
      let h = exists_shape w.type L G e in
      let found : as_exists G ≡ Some (w.type, h.0) = ap exists_in h.1 in
      let u = proving G s in
      let next = instance h.0 t in
      let F2 = image same_number (one w t) F in
      let t_known = All-head (HoldsOnly (map in_terms s.variables)) t ts known in
      let t_out = All-head Absent t ts outs in
      let pairs = AllPairs-parts (λ (v x : Variable). v.number ≢ x.number) w ws differ in
      let apart : All (λ (x : Variable). (in_terms w ≢ in_terms x) × (¬ Contains (variables t) (in_terms x))) ws =
      All-from_contains (λ (x : Variable). (in_terms w ≢ in_terms x) × (¬ Contains (variables t) (in_terms x))) ws (λ x m. (
        (λ q. All-contains (λ (y : Variable). w.number ≢ y.number) ws x pairs.0 m (ap (λ (y : tree.Variable ℕ). y.name) q)),
        (λ k.
            let old = Contains-from_map in_terms s.variables (in_terms x) (All-contains (Contains (map in_terms s.variables)) (variables t) (in_terms x) t_known k) in
            All-contains (λ (y : Variable). y.number ≢ x.number) s.variables old.0 (All-contains (λ (y : Variable). IsNew y.number s) ws x (All-tail (λ (y : Variable). IsNew y.number s) w ws new) m) old.1 (ap (λ (y : tree.Variable ℕ). y.name) old.2)),
      )) in
      let opened : forget next ≡ forget (exists_all ws (nabla_all zs cs F2)) =
      same_instance h.0 L t h.2
      ∙ exists_put sg w R t (exist_all_typed sg ws (nabla_all zs cs F) (nablas_typed sg zs cs F d)) ds.0
      ∙ ap forget (put_past_variables sg w t ds.0 ws (nabla_all zs cs F) apart ∙ ap (exists_all ws) (put_past_names sg w t ds.0 zs cs F t_out)) in
      let parts : (a : Nominal) → Contains (support F2) a → Contains (support F) a ⊎ Contains (support t) a = λ a m. elim (support-image (value_in same_number (one w t)) F a m) [
        | inl k ↦ inl k
        | inr k ↦ inr (subst (λ z. Contains (support z) a) (only_value w t k.0 k.1 (k.2).1) k.3)
      ] in
      let out2 : Absent F2 = All-from_contains (λ a. ¬ Contains (support F2) a) cs (λ a m k. elim (parts a k) [
        | inl i ↦ All-contains (λ b. ¬ Contains (support F) b) cs a out m i
        | inr i ↦ All-contains (λ b. ¬ Contains (support t) b) cs a t_out m i
      ]) in
      let t_held = All-head Held t ts holds in
      let hold2 : Held F2 = λ a m. elim (parts a m) [ inl i ↦ hold a i | inr i ↦ t_held a i ] in
      let in_M : (a : Nominal) → Contains (names_of (G ∷ formulas s.hypotheses) ++ support t) a → Contains M a = λ a m. elim (Contains-append_cases (names_of (G ∷ formulas s.hypotheses)) (support t) a m) [
        | inl i ↦ elim (Contains-append_cases (support G) (names_of (formulas s.hypotheses)) a i) [
          | inl j ↦ hold a (nablas_hold zs cs F a (exists_hold (w ∷ ws) (nabla_all zs cs F) a (subst (λ k. Contains k a) (support_past_hints G (exists_all (w ∷ ws) (nabla_all zs cs F)) e) j)))
          | inr j ↦ held a j
        ]
        | inr i ↦ t_held a i
      ] in
      let fits : Fits D u t w.type = record { typed = ds.0; closed = t_known; one_type = fewer (names_of (G ∷ formulas s.hypotheses) ++ support t) M in_M one_type } in
      by_term t (proving next s)
      (leads_to D (exists_right t) u (λ ps. ps ≡ proving next s ∷ []) (λ cells are. (proving next s ∷ [], ((w.type, h.0), found, (fits, refl)))) (λ cells are i x. x.2.1)
      (λ cells are ps k.
      let p : k.0 ≡ (w.type, h.0) = same_option (sym k.1 ∙ found) in
      k.2.1 ∙ ap (λ (q : Ty × Read). proving (instance q.1 t) u ∷ []) p))
      (terms_come ws ts F2 next (image_typed sg same_number (one w t) (one_typed sg w t ds.0) d) ds.1 (All-tail (HoldsOnly (map in_terms s.variables)) t ts known)
      (All-tail (λ (y : Variable). IsNew y.number s) w ws new) pairs.1 out2 (All-tail Absent t ts outs) hold2 (All-tail Held t ts holds) f opened)
