-- WHAT OPENING LEADS TO IS DERIVED: a goal in which formulas wait comes to the goal in which they are opened.
use Rattle.std.specs.Option.{IsSome}
use Rattle.std.specs.Prelude.{All, Contains, Bool, if◌then◌else◌}
use Rattle.std.proofs.Common.{◌≡◌, ◌≢◌, ◌⊎◌, inl, inr, ℕ, List, [], ◌∷◌, ◌++◌, map, length, Option, Some, None, refl, sym, ◌∙◌, ap, subst}
use Rattle.std.proofs.lemmas.List.Elements.{All-nil, All-cons, All-head, All-tail, All-contains, Contains-append_left, Contains-append_right, Contains-append_cases}
use Rattle.ab_term.specs.Types.{Ty}
use Rattle.ab_term.specs.Terms.{Nominal, Read}
use Rattle.ab_term.specs.Names.{IsOrderOf}
use Rattle.ab_term.specs.Substitution.{instance}
use Rattle.ab_term.proofs.Lists.{All-from_contains, Contains-here, Contains-there, Contains-cases, AllPairs-parts}
use Rattle.ab_term.proofs.Translations.{translate-instance, support-translate}
use Rattle.ab_formulas.specs.Declarations.{Declarations, signature_in}
use Rattle.ab_formulas.specs.Forms.{both_in, exists_in, nabla_in}
use Rattle.ab_formulas.specs.Sequents.{Variable, Hypothesis, Sequent, IsSequent, HoldsOnly, IsUsed, named, others, formula_of, formulas, formulas_of, goal_names, names_of, proving, assuming, without, over}
use Rattle.ab_formulas.specs.NewNames.{Label, auto, given, Names, IsLeast, IsNoVariable}
use Rattle.ab_theory.specs.Steps.{and_left, exists_left, nabla_left, cut_formula}
use Rattle.ab_theory.specs.Rules.{IsNew, MayName, IsSupport, hint_of, name_term, raised, applied}
use Rattle.ab_theory.proofs.Naming.{named_new}
use Rattle.ab_theory.proofs.NewNumbers.{new_number}
use Rattle.ab_theory.proofs.RulesParts.{exists_scope}
use Rattle.ab_theory.proofs.Sequents.{goal_of, found_may, formula_names, names_within}
use Rattle.ab_search_proofs.proofs.Places.{some_cells}
use Rattle.ab_search_trees.proofs.MovedForms.{T, form_moved, form_renumbered}
use Rattle.ab_effects.specs.Openings.{MayTake, Taken, Opened}
use Rattle.ab_effects.specs.ProofCommands.{cleared}
use Rattle.ab_effects.proofs.Namings.{no_variable}
use Rattle.ab_effects.proofs.Renumbered.{moved_variable, moved_hypothesis, moved_goal}
use Rattle.ab_effects.proofs.Following.{assuming_moved}
use Rattle.ab_consequences.proofs.Leading.{still_named, removed}
use Rattle.ab_derived_goals.specs.Derived.{AreSound}
use Rattle.ab_derived_goals.proofs.Hypotheses.{by_itself, hypothesis_fits, hypothesis_formula}
use Rattle.ab_derived_goals.proofs.Moving.{TellsApart, names_moved, same_names, least_moved, constant_moved, applied_moved, over_moved, terms_agree, all_agree, goals_agree, closed_before, renumbering_one, one_tells_apart, one_is, one_keeps}
use Rattle.ab_derived_goals.proofs.Named.{used_some, named_others, named_append, other_name, without_other}
use Rattle.ab_derived_goals.proofs.Reaching.{Reaches, reaches_by, reaches_beside, reaches_without, reaches_same}
use Rattle.ab_derived_goals.proofs.Waiting.{IsHidden, Waits, hidden_name, hidden_by_itself, first_gone, first_changed, one_more, turned, named_there, cleared_over, cleared_assuming, cleared_variables, cleared_conclusion, cleared_within, waiting_or_left, waiting_there, same_hypotheses, named_without}

-- THE GOAL AND WHAT WAITS speak of what the goal does in which they wait
module _ (D : Declarations) (l : Label) (w : Sequent) (zs : List (List ℕ)) (s : Sequent) (Fs : List Read) (is : IsSequent D w) (h : Waits l w zs s Fs) where
  pub same_conclusion : s.conclusion ≡ w.conclusion
  same_conclusion = ap (λ (t : Sequent). t.conclusion) (sym h.rest) ∙ cleared_conclusion zs w

  pub same_variables : s.variables ≡ w.variables
  same_variables = ap (λ (t : Sequent). t.variables) (sym h.rest) ∙ cleared_variables zs w

  pub spoken_there : (E : Read) → Contains (formulas_of s) E → Contains (formulas_of w) E
  spoken_there E c = elim (Contains-cases s.conclusion (formulas s.hypotheses) E c) [
    | inl e ↦ subst (Contains (formulas_of w)) (sym same_conclusion ∙ e) (Contains-here w.conclusion (formulas w.hypotheses))
    | inr d ↦ Contains-there w.conclusion (formulas w.hypotheses) E (cleared_within zs w E (subst (λ (t : Sequent). Contains (formulas t.hypotheses) E) (sym h.rest) d))
  ]

  pub waits_there : (E : Read) → Contains Fs E → Contains (formulas_of w) E
  waits_there E c = Contains-there w.conclusion (formulas w.hypotheses) E (waiting_there zs Fs w E h.has c)

  pub spoken_here : (E : Read) → Contains (formulas_of w) E → Contains (formulas_of s) E ⊎ Contains Fs E
  spoken_here E c = elim (Contains-cases w.conclusion (formulas w.hypotheses) E c) [
    | inl e ↦ inl (subst (Contains (formulas_of s)) (same_conclusion ∙ e) (Contains-here s.conclusion (formulas s.hypotheses)))
    | inr d ↦ elim (waiting_or_left zs Fs w E is.labels_differ h.differ h.has d) [
      | inl k ↦ inr k
      | inr k ↦ inl (Contains-there s.conclusion (formulas s.hypotheses) E (subst (λ (t : Sequent). Contains (formulas t.hypotheses) E) h.rest k))
    ]
  ]

  all_names : List Nominal
  all_names = goal_names s ++ names_of Fs

  names_here : (b : Nominal) → Contains (goal_names w) b → Contains (goal_names s ++ names_of Fs) b
  names_here b c =
      names_within (goal_names s ++ names_of Fs) (formulas_of w)
      (λ E there a d. elim (spoken_here E there) [
        | inl k ↦ Contains-append_left (goal_names s) (names_of Fs) a (formula_names (formulas_of s) E a k d)
        | inr k ↦ Contains-append_right (goal_names s) (names_of Fs) a (formula_names Fs E a k d)
      ]) b c

  names_there : (b : Nominal) → Contains (goal_names s ++ names_of Fs) b → Contains (goal_names w) b
  names_there b c = elim (Contains-append_cases (goal_names s) (names_of Fs) b c) [
    | inl k ↦ names_within (goal_names w) (formulas_of s) (λ E there a d. formula_names (formulas_of w) E a (spoken_there E there) d) b k
    | inr k ↦ names_within (goal_names w) Fs (λ E there a d. formula_names (formulas_of w) E a (waits_there E there) d) b k
  ]

  -- the goal and what waits hold its variables alone
  pub closed_goal : All (HoldsOnly s.variables) (formulas_of s)
  closed_goal =
      All-from_contains (HoldsOnly s.variables) (formulas_of s) (λ E c.
      subst (λ xs. HoldsOnly xs E) (sym same_variables) (All-contains (HoldsOnly w.variables) (formulas_of w) E is.closed (spoken_there E c)))

  pub closed_waiting : All (HoldsOnly s.variables) Fs
  closed_waiting =
      All-from_contains (HoldsOnly s.variables) Fs (λ E c.
      subst (λ xs. HoldsOnly xs E) (sym same_variables) (All-contains (HoldsOnly w.variables) (formulas_of w) E is.closed (waits_there E c)))

-- the least constant is one
least_there : (D : Declarations) (l : Label) (w : Sequent) (zs : List (List ℕ)) (s : Sequent) (F : Read) (Fs : List Read) → IsSequent D w → Waits l w zs s (F ∷ Fs)
    → (A : Ty) (n : ℕ) → IsLeast (MayTake s F Fs A) n → IsLeast (MayName w F A) n
least_there D l w zs s F Fs is h A n least = record {
  has = record {
    positive = least.has.positive;
    outside = least.has.outside;
    one_type =
        All-from_contains (λ (b : Nominal). b.number ≡ n → b.type ≡ A) (goal_names w) (λ b c.
        All-contains (λ (b : Nominal). b.number ≡ n → b.type ≡ A) (goal_names s ++ names_of (F ∷ Fs)) b least.has.one_type (names_here D l w zs s (F ∷ Fs) is h b c));
  };
  first = λ m less may. least.first m less (record {
    positive = may.positive;
    outside = may.outside;
    one_type =
        All-from_contains (λ (b : Nominal). b.number ≡ m → b.type ≡ A) (goal_names s ++ names_of (F ∷ Fs)) (λ b c.
        All-contains (λ (b : Nominal). b.number ≡ m → b.type ≡ A) (goal_names w) b may.one_type (names_there D l w zs s (F ∷ Fs) is h b c));
  });
}

-- all of them held their variables alone
closed_all : (f : ℕ → ℕ) → TellsApart f → (xs : List Variable) (Fs : List Read) → All (HoldsOnly (map (moved_variable f) xs)) (map (T f) Fs) → All (HoldsOnly xs) Fs
closed_all f apart xs [] all = All-nil (HoldsOnly xs)
closed_all f apart xs (F ∷ Fs) all =
    All-cons (HoldsOnly xs) F Fs (closed_before f apart xs F (All-head (HoldsOnly (map (moved_variable f) xs)) (T f F) (map (T f) Fs) all))
    (closed_all f apart xs Fs (All-tail (HoldsOnly (map (moved_variable f) xs)) (T f F) (map (T f) Fs) all))

formulas_moved : (f : ℕ → ℕ) (hs : List Hypothesis) → formulas (map (moved_hypothesis f) hs) ≡ map (T f) (formulas hs)
formulas_moved f [] = refl
formulas_moved f (h ∷ hs) = ap (λ l. T f h.formula ∷ l) (formulas_moved f hs)

pub closed_goal_before : (f : ℕ → ℕ) → TellsApart f → (s : Sequent) → All (HoldsOnly (map (moved_variable f) s.variables)) (formulas_of (moved_goal f s)) → All (HoldsOnly s.variables) (formulas_of s)
closed_goal_before f apart s all =
    closed_all f apart s.variables (formulas_of s)
    (subst (All (HoldsOnly (map (moved_variable f) s.variables))) (ap (λ l. T f s.conclusion ∷ l) (formulas_moved f s.hypotheses)) all)

-- A NEW VARIABLE, under the number that is the next where the formulas wait
pub record TakenThere (f : ℕ → ℕ) (s v : Sequent) (t G : Read) (A : Ty) (Fs : List Read) (n : ℕ) (name : List ℕ) (names : List Nominal) : Type 0 where
  pub by : ℕ → ℕ
  pub apart : TellsApart by
  pub goal : moved_goal by v ≡ over (raised n name A names) (moved_goal f s)
  pub body : T by G ≡ instance (T f t) (applied (raised n name A names) names)
  pub others : map (T by) Fs ≡ map (T f) Fs

pub taken_there : (D : Declarations) (f : ℕ → ℕ) → TellsApart f → (s v : Sequent) (F t G : Read) (A : Ty) (Fs : List Read) (k : Taken D s F A t G v) (n : ℕ) → IsNew n (moved_goal f s)
    → All (HoldsOnly s.variables) (formulas_of s) → HoldsOnly s.variables t → All (HoldsOnly s.variables) Fs → TakenThere f s v t G A Fs n k.name k.names
taken_there D f apart s v F t G A Fs k n new closed closed_body closed_others =
    let g = renumbering_one f k.number n in
    let keeps = one_keeps f k.number n s apart k.new new in
    let x = raised k.number k.name A k.names in
    let number : g k.number ≡ n = one_is f k.number n in
    record {
      by = g;
      apart = one_tells_apart f k.number n apart;
      goal =
          ap (moved_goal g) k.goal
          ∙ over_moved g x s
          ∙ ap (λ m. over (raised m k.name A k.names) (moved_goal g s)) number
          ∙ ap (over (raised n k.name A k.names)) (goals_agree g f s keeps closed);
      body =
          ap (T g) k.body
          ∙ translate-instance g (λ (y : List ℕ). y) t (applied x k.names)
          ∙ ap (λ b. instance b (T g (applied x k.names))) (terms_agree g f s.variables keeps t closed_body)
          ∙ ap (instance (T f t)) (applied_moved g k.number k.name A k.names ∙ ap (λ m. applied (raised m k.name A k.names) k.names) number);
      others = all_agree g f s.variables keeps Fs closed_others;
    }

module _ (D : Declarations) (sound : AreSound D) where
  pub opened : {Fs : List Read} {l m : Label} {s u : Sequent} → Opened D Fs l s m u → (f : ℕ → ℕ) → TellsApart f → (w : Sequent) (zs : List (List ℕ)) → IsSequent D w
      → Waits l w zs (moved_goal f s) (map (T f) Fs) → Reaches D w u
  opened Opened.none f apart w [] is h = record { goal = w; by = f; apart = apart; is = h.rest; goes = λ ps ts k. k is }
  opened Opened.none f apart w (z ∷ zs) is h = absurd h.has
  opened (Opened.nothing e d) f apart w [] is h = absurd h.has
  opened (Opened.nothing {F = F} {Fs = Fs} {l = l} {s = s} {u = u} e d) f apart w (z ∷ zs) is h =
      reaches_without D sound w z u is (λ it. opened d f apart (without z w) zs it (first_gone l w (moved_goal f s) z zs (T f F) (map (T f) Fs) h))
  opened (Opened.parts e d) f apart w [] is h = absurd h.has
  opened (Opened.parts {F = F} {A = A} {B = B} {Fs = Fs} {l = l} {s = s} {u = u} e d) f apart w (z ∷ zs) is h =
      let y = hidden_name l w in
      let k = without z w in
      let j = assuming y.0 (T f A) k in
      let t = assuming z (T f B) j in
      let other : z ≢ y.0 = λ same. y.1.new (subst (IsUsed w) same (used_some h.has.0)) in
      let new : ¬ IsUsed k y.0 = λ used. y.1.new (subst (λ (o : Option Read). IsSome o) (named_others w.hypotheses z y.0 other) used) in
      let gone : formula_of j z ≡ None = named_append (others w.hypotheses z) (record { name = y.0; formula = T f A } ∷ []) z (removed w.hypotheses z) ∙ last_other y.0 z (T f A) (λ same. other (sym same)) in
      let last : ¬ IsUsed j z = λ used. none_some gone used in
      let at = some_cells w is.numbers_differ in
      let is_both = ap both_in (form_moved f F ∙ ap (form_renumbered f) e) in
      let first = one_more l k (moved_goal f s) y.0 zs (T f A) (map (T f) Fs) (first_gone l w (moved_goal f s) z zs (T f F) (map (T f) Fs) h) (record { new = new; hidden = y.1.hidden }) in
      let second = one_more l j (moved_goal f s) z (y.0 ∷ zs) (T f B) (T f A ∷ map (T f) Fs) first (record { new = last; hidden = All-head (IsHidden l) z zs h.hidden }) in
      reaches_by D sound (and_left z (given y.0) (given z)) w t u is refl
      (at.0, at.1, (T f F, h.has.0, ((T f A, T f B), is_both, (y.0, k, (new, refl, refl), (z, j, (last, refl, refl), refl)))))
      (λ it. opened d f apart t (y.0 ∷ z ∷ zs) it (turned l t (moved_goal f s) z y.0 zs (T f B) (T f A) (map (T f) Fs) second))
    where
      none_some : {o : Option Read} → o ≡ None → IsSome o → ⊥
      none_some e has = let clash = subst (λ (o : Option Read). IsSome o) e has in absurd (cc)

      last_other : (x y : List ℕ) (G : Read) → x ≢ y → named (record { name = x; formula = G } ∷ []) y ≡ None
      last_other x y G n = ap (λ (b : Bool). if b then Some G else None) (other_name x y n)
  opened (Opened.variable e k d) f apart w [] is h = absurd h.has
  opened (Opened.variable {F = F} {t = t} {G = G} {A = A} {Fs = Fs} {l = l} {s = s} {v = v} {u = u} e k d) f apart w (z ∷ zs) is h =
      let at = some_cells w is.numbers_differ in
      let n = length at.0 in
      let C = T f F in
      let Cs = map (T f) Fs in
      let variables : (moved_goal f s).variables ≡ w.variables = same_variables D l w (z ∷ zs) (moved_goal f s) (C ∷ Cs) is h in
      let new = subst (All (λ (x : Variable). x.number ≢ n)) (sym variables) (new_number at.0 w at.1) in
      let is_exists = ap exists_in (form_moved f F ∙ ap (form_renumbered f) e) in
      let scope = exists_scope (signature_in D) w.variables (goal_names w) C (A, T f t) (found_may D (goal_names w) w z C (goal_of D w is) h.has.0) is_exists in
      let waiting = closed_all f apart s.variables (F ∷ Fs) (closed_waiting D l w (z ∷ zs) (moved_goal f s) (C ∷ Cs) is h) in
      let there = taken_there D f apart s v F t G A Fs k n new (closed_goal_before f apart s (closed_goal D l w (z ∷ zs) (moved_goal f s) (C ∷ Cs) is h))
      (closed_before f apart s.variables t (subst (λ xs. HoldsOnly xs (T f t)) (sym variables) scope.put.closed)) (All-tail (HoldsOnly s.variables) F Fs waiting) in
      let x = raised n k.name A k.names in
      let body = instance (T f t) (applied x k.names) in
      let j = over x (without z w) in
      let name : IsNoVariable w k.name = subst (All (λ (y : Variable). y.name ≢ k.name)) variables (no_variable s (moved_goal f s) k.name (same_names f s) (named_new D s (hint_of t) k.name k.named)) in
      let supported : IsSupport C k.names = subst (IsOrderOf k.names) (sym (support-translate f (λ (y : List ℕ). y) F)) k.support_is in
      let rest : cleared zs j ≡ moved_goal there.by v = cleared_over zs x (without z w) ∙ ap (over x) h.rest ∙ sym there.goal in
      let changed = first_changed l w (moved_goal f s) j (moved_goal there.by v) z zs C body Cs h refl rest in
      let waits = subst (λ b. Waits l (assuming z body j) (z ∷ zs) (moved_goal there.by v) (b ∷ map (T there.by) Fs)) (sym there.body)
      (subst (λ bs. Waits l (assuming z body j) (z ∷ zs) (moved_goal there.by v) (body ∷ bs)) (sym there.others) changed) in
      reaches_by D sound (exists_left z (given z)) w (assuming z body j) u is refl
      (at.0, at.1, (C, h.has.0, ((A, T f t), is_exists, (z, without z w, (none_is (removed w.hypotheses z), refl, refl), ((k.names, k.name), (supported, name), refl)))))
      (λ it. opened d there.by there.apart (assuming z body j) (z ∷ zs) it waits)
    where
      none_is : {o : Option Read} → o ≡ None → IsSome o → ⊥
      none_is e has = let clash = subst (λ (o : Option Read). IsSome o) e has in absurd (cc)
  opened (Opened.constant e least d) f apart w [] is h = absurd h.has
  opened (Opened.constant {F = F} {t = t} {A = A} {n = n} {Fs = Fs} {l = l} {s = s} {u = u} e least d) f apart w (z ∷ zs) is h =
      let at = some_cells w is.numbers_differ in
      let C = T f F in
      let Cs = map (T f) Fs in
      let a : Nominal = record { number = n; type = A } in
      let is_nabla = ap nabla_in (form_moved f F ∙ ap (form_renumbered f) e) in
      let body = instance (T f t) (name_term a) in
      let k = without z w in
      let changed = first_changed l w (moved_goal f s) k (moved_goal f s) z zs C body Cs h refl h.rest in
      let waits = subst (λ b. Waits l (assuming z body k) (z ∷ zs) (moved_goal f s) (b ∷ Cs)) (sym (constant_moved f t a)) changed in
      reaches_by D sound (nabla_left z (given z)) w (assuming z body k) u is refl
      (at.0, at.1, (C, h.has.0, ((A, T f t), is_nabla, (z, k, (none_is (removed w.hypotheses z), refl, refl), (n, least_there D l w (z ∷ zs) (moved_goal f s) C Cs is h A n (least_moved f s F Fs A n least), refl)))))
      (λ it. opened d f apart (assuming z body k) (z ∷ zs) it waits)
    where
      none_is : {o : Option Read} → o ≡ None → IsSome o → ⊥
      none_is e has = let clash = subst (λ (o : Option Read). IsSome o) e has in absurd (cc)
  opened (Opened.hypothesis x v whole names d) f apart w [] is h = absurd h.has
  opened (Opened.hypothesis {F = F} {Fs = Fs} {l = l} {s = s} {u = u} x v whole names d) f apart w (z ∷ zs) is h =
      let at = some_cells w is.numbers_differ in
      let C = T f F in
      let Cs = map (T f) Fs in
      let there = named_there l w (z ∷ zs) x (moved_goal f v) h.hidden (subst (λ q. Names l q x (moved_goal f v)) (sym h.rest) (names_moved f l s v x names)) in
      let t = there.0 in
      let parts = AllPairs-parts (λ (p q : List ℕ). p ≢ q) z zs h.differ in
      let first : x ≢ z = All-head (λ y. x ≢ y) z zs there.1.apart in
      let later = All-tail (λ y. x ≢ y) z zs there.1.apart in
      let k = without z t in
      let waits : Waits auto (assuming x C k) zs (moved_goal f (assuming x F v)) Cs = record {
        rest = cleared_assuming zs x C k later ∙ ap (assuming x C) there.1.left ∙ sym (assuming_moved f x F v);
        has = still_named k x C zs Cs (named_without t z zs Cs parts.0 (same_hypotheses w t (sym there.1.hypotheses) zs Cs h.has.1));
        differ = parts.1;
        hidden = All-from_contains (IsHidden auto) zs (λ y c. hidden_by_itself l y (All-contains (IsHidden l) zs y (All-tail (IsHidden l) z zs h.hidden) c));
      } in
      reaches_beside D sound (cut_formula C l) w (proving C w) (assuming x C t) u is refl
      (at.0, at.1, ((hypothesis_fits D sound w z C is h.has.0, hypothesis_formula D sound w z C is h.has.0), (x, t, there.1.names, refl)))
      (λ it. by_itself D sound (proving C w) z it h.has.0)
      (λ it.
      reaches_without D sound (assuming x C t) z u it (λ last.
      let same = without_other t z x C first in
      reaches_same D (without z (assuming x C t)) (assuming x C k) u (sym same)
      (opened d f apart (assuming x C k) zs (subst (IsSequent D) same last) waits)))
