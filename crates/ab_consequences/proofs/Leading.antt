-- From stages to a derivation.
use Rattle.std.specs.Prelude.{Contains, bytes_eq, if◌then◌else◌}
use Rattle.std.proofs.Common.{◌≡◌, ◌⊎◌, inl, inr, ℕ, zero, suc, ◌+◌, ◌<◌, Bool, true, false, List, [], ◌∷◌, ◌++◌, length, Some, None, refl, sym, ◌∙◌, ap, subst, arith}
use Rattle.std.proofs.lemmas.List.Elements.{All-cons, All-contains, Contains-append_cases}
use Rattle.std.proofs.lemmas.Slice.Eq.{bytes_eq-Decides}
use Rattle.ab_term.specs.Types.{Ty, prop}
use Rattle.ab_term.specs.Terms.{Nominal, Read}
use Rattle.ab_term.specs.Names.{support, HasOneTypeEach}
use Rattle.ab_term.specs.Substitution.{instance}
use Rattle.ab_unifiers.specs.Replacements.{Cell}
use Rattle.ab_formulas.specs.Declarations.{Declarations, signature_in}
use Rattle.ab_formulas.specs.NewNames.{given}
use Rattle.ab_formulas.specs.Sequents.{Hypothesis, Sequent, Fits, formulas, formulas_of, formula_of, named, others, goal_names, proving, assuming, without}
use Rattle.ab_theory.specs.Equations.{AreCells}
use Rattle.ab_theory.specs.Steps.{Step, initial, for_all_left, nabla_left, arrow_left, cut_formula}
use Rattle.ab_theory.specs.Rules.{Rule, name_term}
use Rattle.ab_theory.specs.Derivations.{Derivation, by, none, more, root, open_goals, debts, debts_of}
use Rattle.ab_theory.proofs.RulesParts.{MayStand, MayBePut, for_all_scope, nabla_scope, implies_may, instance_may, name_may}
use Rattle.ab_theory.proofs.Sequents.{IsGoal, all_formulas, names_within, found_may, assuming_goal}
use Rattle.ab_search_proofs.specs.Whole.{IsWhole}
use Rattle.ab_search_proofs.proofs.Least.{least_constant}
use Rattle.ab_consequences.specs.Leading.{Stage, instance_by, chosen, met, Meets, LeadsBy, HasNamed}
use Rattle.ab_consequences.proofs.Allowed.{found_last, not_used}
use Rattle.ab_consequences.proofs.Swapping.{constants_meet}

-- a name that no hypothesis has

abbrev total : List Hypothesis → ℕ
total [] = 0
total (h ∷ hs) = length h.name + total hs

abbrev zeros : ℕ → List ℕ
zeros zero = []
zeros (suc n) = 0 ∷ zeros n

length_zeros : (n : ℕ) → length (zeros n) ≡ n
length_zeros zero = refl
length_zeros (suc n) = let rest = length_zeros n in omega (arith, rest)

long_free : (hs : List Hypothesis) (y : List ℕ) → total hs < length y → named hs y ≡ None
long_free [] y long = refl
long_free (h ∷ hs) y long = go (long_free hs y) (bytes_eq h.name y) refl
  where
    go : (total hs < length y → named hs y ≡ None) → (b : Bool) → bytes_eq h.name y ≡ b → (if b then Some h.formula else named hs y) ≡ None
    go rest true e = let same : length h.name ≡ length y = ap length ((bytes_eq-Decides h.name y).0 e) in absurd (omega (arith, same, long))
    go rest false e = rest (omega (arith, long))

abbrev pub fresh : Sequent → List ℕ
fresh k = zeros (suc (total k.hypotheses))

pub fresh_free : (k : Sequent) → formula_of k (fresh k) ≡ None
fresh_free k = let is = length_zeros (suc (total k.hypotheses)) in long_free k.hypotheses (fresh k) (omega (arith, is))

-- what is found is found with one more behind it, and what was removed isn't
pub found_before : (hs : List Hypothesis) (h : Hypothesis) (z : List ℕ) (H : Read) → named hs z ≡ Some H → named (hs ++ h ∷ []) z ≡ Some H
found_before [] h z H e = let clash : None ≡ Some H = e in cc
found_before (g ∷ hs) h z H e = go (found_before hs h z H) (bytes_eq g.name z) refl
  where
    go : (named hs z ≡ Some H → named (hs ++ h ∷ []) z ≡ Some H) → (b : Bool) → bytes_eq g.name z ≡ b → (if b then Some g.formula else named (hs ++ h ∷ []) z) ≡ Some H
    go rest true t = sym (ap (λ b. if b then Some g.formula else named hs z) t) ∙ e
    go rest false t = rest (sym (ap (λ b. if b then Some g.formula else named hs z) t) ∙ e)

pub removed : (hs : List Hypothesis) (x : List ℕ) → named (others hs x) x ≡ None
removed [] x = refl
removed (h ∷ hs) x = go (removed hs x) (bytes_eq h.name x) refl
  where
    go : named (others hs x) x ≡ None → (b : Bool) → bytes_eq h.name x ≡ b → named (if b then others hs x else (h ∷ others hs x)) x ≡ None
    go rest true e = rest
    go rest false e = ap (λ b. if b then Some h.formula else named (others hs x) x) e ∙ rest

pub still_named : (k : Sequent) (y : List ℕ) (G : Read) (zs : List (List ℕ)) (Hs : List Read) → HasNamed k zs Hs → HasNamed (assuming y G k) zs Hs
still_named k y G [] [] n = tt
still_named k y G [] (H ∷ Hs) n = absurd n
still_named k y G (z ∷ zs) [] n = absurd n
still_named k y G (z ∷ zs) (H ∷ Hs) n = (found_before k.hypotheses (record { name = y; formula = G }) z H n.0, still_named k y G zs Hs n.1)

module _ (D : Declarations) (N : List Nominal) (one : HasOneTypeEach N) where
  pub goal_within : (k : Sequent) → IsGoal D N k → (a : Nominal) → Contains (goal_names k) a → Contains N a
  goal_within k g =
      let may = All-cons (MayStand (signature_in D) k.variables N) k.conclusion (formulas k.hypotheses) g.conclusion (all_formulas (MayStand (signature_in D) k.variables N) k.hypotheses g.hypotheses) in
      names_within N (formulas_of k) (λ F there. (All-contains (MayStand (signature_in D) k.variables N) (formulas_of k) F may there).names)

  -- what may be put into the goal fits it
  pub fits_goal : (k : Sequent) (A : Ty) (t : Read) → IsGoal D N k → MayBePut (signature_in D) k.variables N A t → Fits D k t A
  fits_goal k A t g m = record {
    typed = m.typed;
    closed = m.closed;
    one_type = λ a b c d e. one a b (inside a (Contains-append_cases (goal_names k) (support t) a c)) (inside b (Contains-append_cases (goal_names k) (support t) b d)) e;
  }
    where
      inside : (a : Nominal) → Contains (goal_names k) a ⊎ Contains (support t) a → Contains N a
      inside a (inl c) = goal_within k g a c
      inside a (inr c) = m.names a c

  pub formula_fits : (k : Sequent) (F : Read) → IsGoal D N k → MayStand (signature_in D) k.variables N F → Fits D k F prop
  formula_fits k F g m = fits_goal k prop F g (record { typed = m.formula.typed; closed = m.closed; names = m.names })

  module _ (cells : List (Cell (List ℕ))) where
    closing : (k : Sequent) (z : List ℕ) (H : Read) → AreCells cells k → formula_of k z ≡ Some H → Meets H k.conclusion → (d : Derivation) × IsWhole D k d
    closing k z H are has m = (by (initial z) k none, record { derives = refl; valid = ((cells, are, (H, has, (m.0, (m.1, refl)))), tt); closed = refl; nothing_owed = refl })

    one_step : (step : Step) (k t : Sequent) → debts_of step ≡ [] → Rule D step k (t ∷ []) → (d : Derivation) × IsWhole D t d → (e : Derivation) × IsWhole D k e
    one_step step k t free rule (d, w) = (
      by step k (more d none),
      record {
        derives = refl;
        valid = (subst (λ r. Rule D step k (r ∷ [])) (sym w.derives) rule, (w.valid, tt));
        closed = ap (λ gs. gs ++ []) w.closed;
        nothing_owed = ap (λ ts. ts ++ (debts d ++ [])) free ∙ ap (λ ts. ts ++ []) w.nothing_owed;
      },
    )

    two_steps : (step : Step) (k t u : Sequent) → debts_of step ≡ [] → Rule D step k (t ∷ u ∷ []) → (d : Derivation) × IsWhole D t d → (d : Derivation) × IsWhole D u d → (e : Derivation) × IsWhole D k e
    two_steps step k t u free rule (d, w) (e, v) = (
      by step k (more d (more e none)),
      record {
        derives = refl;
        valid = (subst (λ r. Rule D step k (r ∷ root e ∷ [])) (sym w.derives) (subst (λ r. Rule D step k (t ∷ r ∷ [])) (sym v.derives) rule), (w.valid, (v.valid, tt)));
        closed = ap (λ gs. gs ++ (open_goals e ++ [])) w.closed ∙ ap (λ gs. gs ++ []) v.closed;
        nothing_owed = ap (λ ts. ts ++ (debts d ++ (debts e ++ []))) free ∙ ap (λ ts. ts ++ (debts e ++ [])) w.nothing_owed ∙ ap (λ ts. ts ++ []) v.nothing_owed;
      },
    )

    -- WHAT THE FORMULA LEADS TO FOLLOWS
    pub derive : (ss : List Stage) (F : Read) (Hs : List Read) (k : Sequent) (x : List ℕ) (zs : List (List ℕ)) → IsGoal D N k → AreCells cells k
        → LeadsBy (signature_in D) k.variables N ss F Hs k.conclusion → formula_of k x ≡ Some F → HasNamed k zs Hs → (d : Derivation) × IsWhole D k d
    derive [] F [] k x zs g are m has there = closing k x F are has m
    derive [] F (H ∷ Hs) k x zs g are m has there = absurd m
    derive (instance_by t ∷ ss) F Hs k x zs g are (q, e, put, rest) has there =
        let y = fresh k in
        let G = instance q.1 t in
        let may = instance_may (signature_in D) k.variables N q t (for_all_scope (signature_in D) k.variables N F q (found_may D N k x F g has) e) put in
        let new = not_used k y (fresh_free k) in
        one_step (for_all_left x t (given y)) k (assuming y G k) refl
        (cells, are, (F, has, (q, e, (fits_goal k q.0 t g put, (y, k, (new, refl, refl), refl)))))
        (derive ss G Hs (assuming y G k) y zs (assuming_goal D N k y G g new may) are rest (found_last k.hypotheses y G (fresh_free k)) (still_named k y G zs Hs there))
    derive (chosen a ∷ ss) F Hs k x zs g are (G, e, out, here, rest) has there =
        let sg = signature_in D in
        let A = a.type in
        let y = fresh k in
        let C = instance G (name_term a) in
        let known = found_may D N k x F g has in
        let may = instance_may sg k.variables N (A, G) (name_term a) (nabla_scope sg k.variables N F (A, G) known e) (name_may sg k.variables N a here) in
        let own : MayStand sg k.variables (support F) F = record { formula = known.formula; closed = known.closed; names = λ b c. c } in
        let inner = nabla_scope sg k.variables (support F) F (A, G) own e in
        let new = not_used k y (fresh_free k) in
        let asked = proving C k in
        let least = least_constant asked F A in
        let other = instance G (name_term (record { number = least.0; type = A })) in
        let opened = assuming x other (without x asked) in
        let gone = removed k.hypotheses x in
        let side = one_step (nabla_left x (given x)) asked opened refl
        (cells, are, (F, has, ((A, G), e, (x, without x asked, (not_used (without x asked) x gone, refl, refl), (least.0, least.1, refl)))))
        (closing opened x other are (found_last (others k.hypotheses x) x other gone)
        (constants_meet A least.0 a.number G (λ c. least.1.has.outside (inner.put.names (record { number = least.0; type = A }) c)) (λ c. out (inner.put.names a c)))) in
        two_steps (cut_formula C (given y)) k asked (assuming y C k) refl
        (cells, are, ((formula_fits k C g may, may.formula), (y, k, (new, refl, refl), refl)))
        side
        (derive ss C Hs (assuming y C k) y zs (assuming_goal D N k y C g new may) are rest (found_last k.hypotheses y C (fresh_free k)) (still_named k y C zs Hs there))
    derive (met ∷ ss) F [] k x zs g are m has there = absurd m
    derive (met ∷ ss) F (H ∷ Hs) k x [] g are m has there = absurd there
    derive (met ∷ ss) F (H ∷ Hs) k x (z ∷ zs) g are (p, e, meets, rest) has there =
        let y = fresh k in
        let may = (implies_may (signature_in D) k.variables N F p (found_may D N k x F g has) e).1 in
        let new = not_used k y (fresh_free k) in
        two_steps (arrow_left x (given y)) k (proving p.0 k) (assuming y p.1 k) refl
        (cells, are, (F, has, (p, e, (y, k, (new, refl, refl), refl))))
        (closing (proving p.0 k) z H are there.0 meets)
        (derive ss p.1 Hs (assuming y p.1 k) y zs (assuming_goal D N k y p.1 g new may) are rest (found_last k.hypotheses y p.1 (fresh_free k)) (still_named k y p.1 zs Hs there.1))
