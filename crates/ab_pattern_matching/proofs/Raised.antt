-- A TERM, RAISED: what stands in it, and what can be read off it, in two ways of raising.
use Rattle.std.proofs.Common.{◌≡◌, ◌⊎◌, inl, inr, ℕ, List, [], ◌∷◌, ◌++◌, map, Bool, true, false, cond, Option, Some, None, is_some, refl, sym, ◌∙◌, ap, subst}
use Rattle.std.specs.Prelude.{◌≢◌, Contains, AllPairs}
use Rattle.std.proofs.lemmas.Bool.{false≢true, or_cases, or_left, or_right, or_from, false_from_ne_true}
use Rattle.std.proofs.lemmas.List.Elements.{Contains-append_left, Contains-append_right}
use Rattle.ab_term.specs.Types.{Ty, kind}
use Rattle.ab_term.specs.Terms.{Nominal, Variable, Head, constant, logical, nominal, variable, index, spine, no_terms, term}
use Rattle.ab_term.specs.Typing.{Signature, HasType, TakeType, typed_lam, typed_spine, take_none, take_term}
use Rattle.ab_term.specs.Names.{rename_head, rename, rename_all, support, support_of_all}
use Rattle.ab_term.specs.Variables.{variables, variables_of_all, put_for, image_by, image_all_by}
use Rattle.ab_term.specs.Sameness.{same_numbered}
use Rattle.ab_term.specs.Abstraction.{among, over, name_terms}
use Rattle.ab_term.proofs.Depends.{image_unmoved}
use Rattle.ab_term.proofs.Expansions.{reduce-some}
use Rattle.ab_term.proofs.Hinted.{given_typed}
use Rattle.ab_term.proofs.Images.{IsTypedMap, image_all_by_typed}
use Rattle.ab_term.proofs.Lists.{Contains-there}
use Rattle.ab_term.proofs.Permutations.{IsOneToOne}
use Rattle.ab_term.proofs.Renamings.{rename_typed}
use Rattle.ab_term.proofs.Same.{same_numbered-Decides}
use Rattle.ab_unifiers.specs.Patterns.{pattern}
use Rattle.ab_unifiers.specs.Replacements.{holds}
use Rattle.ab_unifiers.proofs.Agreeing.{contains_holds, holds_front, holds_behind, image_pattern, pattern_rigid}
use Rattle.ab_unifiers.proofs.Pruning.{spine_args}
use Rattle.ab_unifiers.proofs.Readings.{pattern_back}
use Rattle.ab_unifiers.proofs.Views.{IsPattern, is_pattern}
use Rattle.ab_pattern_matching.specs.Reading.{can_read, can_read_one, HasNoneOf}
use Rattle.ab_pattern_matching.specs.Raising.{Bare, Raising, raised, raised_term, raising}
use Rattle.ab_pattern_matching.proofs.Absent.{no_front, no_behind, no_both}
use Rattle.ab_pattern_matching.proofs.Joined.{BareTerms, constants_before, split_pattern, join_pattern, pattern_stands, renamed_from, rename_pattern}

-- ONE WAY OF RAISING
module _ (sg : Signature) (r : Raising) (vs : List (Variable ℕ)) where
  abbrev up : Variable ℕ → Option Bare
  up = raising r vs

  pub raising_typed : IsTypedMap sg (raising r vs)
  raising_typed y u e = go (holds vs y) e
    where
      go : (b : Bool) → cond b (Some (raised_term r y)) None ≡ Some u → HasType sg [] u y.type
      go true e = let same : raised_term r y ≡ u = cc in subst (λ t. HasType sg [] t y.type) same (given_typed sg tt [] (raised r y) r.constants y.type refl)
      go false e = absurd (cc)

  -- a raised variable gets the constants before its arguments
  pub raised_spine : {G : List Ty} {k : List ℕ} (v : Variable ℕ) (ts : BareTerms) → holds vs v ≡ true → TakeType sg G ts v.type (kind k) → image_by (raising r vs) (spine (variable v) ts) ≡ spine (variable (raised r v)) (constants_before r.constants v.type (image_all_by (raising r vs) ts))
  raised_spine v ts h ds =
      ap (λ b. put_for v (cond b (Some (raised_term r v)) None) (image_all_by (raising r vs) ts)) h
      ∙ reduce-some sg ℕ (variable (raised r v)) (name_terms tt (over r.constants v.type) (map nominal r.constants)) (image_all_by_typed sg ℕ (Unit {0}) (raising r vs) raising_typed ds)

  pub other_spine : (v : Variable ℕ) (ts : BareTerms) → holds vs v ≡ false → image_by (raising r vs) (spine (variable v) ts) ≡ spine (variable v) (image_all_by (raising r vs) ts)
  other_spine v ts h = ap (λ b. put_for v (cond b (Some (raised_term r v)) None) (image_all_by (raising r vs) ts)) h

  -- a term without them stays
  pub raised_stays : (t : Bare) → HasNoneOf vs t → image_by (raising r vs) t ≡ t
  raised_stays t n = image_unmoved (raising r vs) t (λ y m. ap (λ b. cond b (Some (raised_term r y)) None) (false_from_ne_true (holds vs y) (λ h. false≢true (sym (n y h) ∙ contains_holds (variables t) y m))))

  -- what none of the raised ones stands in, none of them stood in
  mutual
    pub raised_absent : {G : List Ty} {t : Bare} {A : Ty} → HasType sg G t A → ((v : Variable ℕ) → holds vs v ≡ true → holds (variables (image_by (raising r vs) t)) (raised r v) ≡ false) → HasNoneOf vs t
    raised_absent (typed_lam d) n = raised_absent d n
    raised_absent (typed_spine {h = constant c} e ds) n = raised_all_absent ds n
    raised_absent (typed_spine {h = logical l} e ds) n = raised_all_absent ds n
    raised_absent (typed_spine {h = nominal a} e ds) n = raised_all_absent ds n
    raised_absent {G = G} (typed_spine {A = D} {h = variable v} {ts = ts} {k = k} e ds) n = go (holds vs v) refl (λ l. raised_all_absent ds l)
      where
        own : TakeType sg G ts v.type (kind k)
        own = let same : D ≡ v.type = cc in subst (λ C. TakeType sg G ts C (kind k)) same ds

        go : (b : Bool) → holds vs v ≡ b → (((u : Variable ℕ) → holds vs u ≡ true → holds (variables_of_all (image_all_by (raising r vs) ts)) (raised r u) ≡ false) → (y : Variable ℕ) → holds vs y ≡ true → holds (variables_of_all ts) y ≡ false) → HasNoneOf vs (spine (variable v) ts)
        go true h rest = absurd (false≢true (sym (n v h) ∙ ap (λ t. holds (variables t) (raised r v)) (raised_spine v ts h own) ∙ or_left (same_numbered (raised r v) (raised r v)) (holds (variables_of_all (constants_before r.constants v.type (image_all_by (raising r vs) ts))) (raised r v)) ((same_numbered-Decides (raised r v) (raised r v)).1 refl)))
        go false h rest = λ y m. no_both (v ∷ []) (variables_of_all ts) y
            (or_from (same_numbered v y) false (false_from_ne_true (same_numbered v y) (λ s. false≢true (sym h ∙ subst (λ u. holds vs u ≡ true) (sym ((same_numbered-Decides v y).0 s)) m))) refl)
            (rest (λ u i. no_behind (v ∷ []) (variables_of_all (image_all_by (raising r vs) ts)) (raised r u) (ap (λ t. holds (variables t) (raised r u)) (sym (other_spine v ts h)) ∙ n u i)) y m)
    raised_absent (typed_spine {h = index i} e ds) n = raised_all_absent ds n

    pub raised_all_absent : {G : List Ty} {ts : BareTerms} {A B : Ty} → TakeType sg G ts A B → ((v : Variable ℕ) → holds vs v ≡ true → holds (variables_of_all (image_all_by (raising r vs) ts)) (raised r v) ≡ false) → (y : Variable ℕ) → holds vs y ≡ true → holds (variables_of_all ts) y ≡ false
    raised_all_absent take_none n y m = refl
    raised_all_absent (take_term {t = t} {ts = ts} d ds) n y m = no_both (variables t) (variables_of_all ts) y
        (raised_absent d (λ v h. no_front (variables (image_by (raising r vs) t)) (variables_of_all (image_all_by (raising r vs) ts)) (raised r v) (n v h)) y m)
        (raised_all_absent ds (λ v h. no_behind (variables (image_by (raising r vs) t)) (variables_of_all (image_all_by (raising r vs) ts)) (raised r v) (n v h)) y m)

  -- arguments that are names were so before
  pub names_before : {G : List Ty} {ts : BareTerms} {A B : Ty} {gs : List (Head ℕ)} → TakeType sg G ts A B → IsPattern A (image_all_by (raising r vs) ts) gs → image_all_by (raising r vs) ts ≡ ts
  names_before {ts = ts} ds p = all_stay ts (raised_all_absent ds (λ v h. ap (λ l. holds l (raised r v)) (pattern_rigid p)))
    where
      all_stay : (ts : BareTerms) → ((y : Variable ℕ) → holds vs y ≡ true → holds (variables_of_all ts) y ≡ false) → image_all_by (raising r vs) ts ≡ ts
      all_stay no_terms n = refl
      all_stay (term t ts) n =
          ap (λ s. term s (image_all_by (raising r vs) ts)) (raised_stays t (λ y h. no_front (variables t) (variables_of_all ts) y (n y h)))
          ∙ ap (term t) (all_stay ts (λ y h. no_behind (variables t) (variables_of_all ts) y (n y h)))

-- TWO WAYS OF RAISING, of which the second is up to a renaming of constants
module _ (sg : Signature) (r s : Raising) (vs us ws : List (Variable ℕ)) (m back : Nominal → Nominal) (one : IsOneToOne m back) (different : AllPairs (λ a b. a ≢ b) s.constants)
    (firsts : (v : Variable ℕ) → holds vs v ≡ true → holds us (raised r v) ≡ true) (seconds : (v : Variable ℕ) → holds vs v ≡ true → holds ws (raised s v) ≡ true) where
  -- a variable that isn't raised is none of those that are read
  abbrev pub Others : Variable ℕ → Type 0
  Others y = (holds us y ≡ false) × (holds ws y ≡ false)

  abbrev pub Kept : Nominal → Type 0
  Kept a = Contains r.constants a ⊎ ¬ (Contains s.constants (m a))

  -- names behind the first's constants are names behind the second's
  names_after : {A : Ty} {ts : BareTerms} {gs : List (Head ℕ)} → IsPattern A ts gs → ((b : Nominal) → Contains r.constants b → among gs (nominal b) ≡ false) → ((a : Nominal) → Contains (support_of_all ts) a → Kept a)
      → IsPattern (over s.constants A) (constants_before s.constants A (rename_all m ts)) (map nominal s.constants ++ map (rename_head m) gs)
  names_after {A = A} {ts = ts} {gs = gs} p n k = join_pattern s.constants different A (rename_all m ts) (map (rename_head m) gs) (rename_pattern m back one p)
      (λ c i. false_from_ne_true (among (map (rename_head m) gs) (nominal c)) (λ e.
      let a = renamed_from m back one gs c e in
      elim (k a.0 (pattern_stands p a.0 a.1)) [ inl j ↦ false≢true (sym (n a.0 j) ∙ a.1) | inr j ↦ j (subst (λ b. Contains s.constants b) (sym a.2) i) ]))

  raised_read : {G : List Ty} {k : List ℕ} (v : Variable ℕ) (ts : BareTerms) → holds vs v ≡ true → TakeType sg G ts v.type (kind k) → TakeType sg G (rename_all m ts) v.type (kind k) → ((a : Nominal) → Contains (support_of_all ts) a → Kept a)
      → can_read us (image_by (raising r vs) (spine (variable v) ts)) ≡ true → can_read ws (image_by (raising s vs) (spine (variable v) (rename_all m ts))) ≡ true
  raised_read {k = k} v ts h ds es kept e = some (pattern (over r.constants v.type) (constants_before r.constants v.type ss)) refl (sym at_first ∙ e)
    where
      ss : BareTerms
      ss = image_all_by (raising r vs) ts

      at_first : can_read us (image_by (raising r vs) (spine (variable v) ts)) ≡ is_some (pattern (over r.constants v.type) (constants_before r.constants v.type (image_all_by (raising r vs) ts)))
      at_first = ap (can_read us) (raised_spine sg r vs v ts h ds) ∙ ap (λ b. cond b (is_some (pattern (over r.constants v.type) (constants_before r.constants v.type (image_all_by (raising r vs) ts)))) (can_read_one us (constants_before r.constants v.type (image_all_by (raising r vs) ts)))) (firsts v h)

      at_second : (hs : List (Head ℕ)) → IsPattern (over s.constants v.type) (constants_before s.constants v.type (image_all_by (raising s vs) (rename_all m ts))) hs → can_read ws (image_by (raising s vs) (spine (variable v) (rename_all m ts))) ≡ true
      at_second hs p =
          ap (can_read ws) (raised_spine sg s vs v (rename_all m ts) h es)
          ∙ ap (λ b. cond b (is_some (pattern (over s.constants v.type) (constants_before s.constants v.type (image_all_by (raising s vs) (rename_all m ts))))) (can_read_one ws (constants_before s.constants v.type (image_all_by (raising s vs) (rename_all m ts))))) (seconds v h)
          ∙ ap is_some (pattern_back p)

      some : (o : Option (List (Head ℕ))) → pattern (over r.constants v.type) (constants_before r.constants v.type (image_all_by (raising r vs) ts)) ≡ o → is_some o ≡ true → can_read ws (image_by (raising s vs) (spine (variable v) (rename_all m ts))) ≡ true
      some None q t = absurd (false≢true t)
      some (Some hs) q t =
          let split = split_pattern r.constants v.type (image_all_by (raising r vs) ts) hs (is_pattern (over r.constants v.type) (constants_before r.constants v.type (image_all_by (raising r vs) ts)) hs q) in
          let names : IsPattern v.type ts split.0 = subst (λ l. IsPattern v.type l split.0) (names_before sg r vs ds split.2) split.2 in
          at_second (map nominal s.constants ++ map (rename_head m) split.0)
          (subst (λ l. IsPattern (over s.constants v.type) (constants_before s.constants v.type l) (map nominal s.constants ++ map (rename_head m) split.0)) (sym (image_pattern (raising s vs) (rename_pattern m back one names))) (names_after names split.3 kept))

  -- what a term holds is raised, or none of those that are read; and its constants are kept apart
  abbrev pub Fit : List (Variable ℕ) → List Nominal → Type 0
  Fit ys ns = ((y : Variable ℕ) → holds ys y ≡ true → (holds vs y ≡ true) ⊎ Others y) × ((a : Nominal) → Contains ns a → Kept a)

  fit_front : (ys zs : List (Variable ℕ)) (ns ls : List Nominal) → Fit (ys ++ zs) (ns ++ ls) → Fit ys ns
  fit_front ys zs ns ls f = (λ y h. f.0 y (holds_front ys zs y h), λ a i. f.1 a (Contains-append_left ns ls a i))

  fit_behind : (ys zs : List (Variable ℕ)) (ns ls : List Nominal) → Fit (ys ++ zs) (ns ++ ls) → Fit zs ls
  fit_behind ys zs ns ls f = (λ y h. f.0 y (holds_behind ys zs y h), λ a i. f.1 a (Contains-append_right ns ls a i))

  renamed_arguments : {G : List Ty} {k : List ℕ} (v : Variable ℕ) (ts : BareTerms) → TakeType sg G ts v.type (kind k) → TakeType sg G (rename_all m ts) v.type (kind k)
  renamed_arguments {G = G} {k = k} v ts ds =
      let whole : HasType sg G (spine (variable v) ts) (kind k) = typed_spine refl ds in
      let r = spine_args sg G v (rename_all m ts) (kind k) (rename_typed sg m one.keeps whole) in
      subst (λ C. TakeType sg G (rename_all m ts) v.type C) (sym r.1) r.2

  mutual
    -- WHAT CAN BE READ OFF THE FIRST can be read off the second
    pub read_too : {G : List Ty} {t : Bare} {A : Ty} → HasType sg G t A → Fit (variables t) (support t) → can_read us (image_by (raising r vs) t) ≡ true → can_read ws (image_by (raising s vs) (rename m t)) ≡ true
    read_too (typed_lam d) f e = read_too d f e
    read_too (typed_spine {h = constant c} q ds) f e = read_all_too ds f e
    read_too (typed_spine {h = logical l} q ds) f e = read_all_too ds f e
    read_too (typed_spine {h = nominal a} {ts = ts} q ds) f e = read_all_too ds (f.0, λ b i. f.1 b (Contains-there a (support_of_all ts) b i)) e
    read_too {G = G} (typed_spine {A = D} {h = variable v} {ts = ts} {k = k} q ds) f e = go (holds vs v) refl (λ f2 e2. read_all_too ds f2 e2)
      where
        own : TakeType sg G ts v.type (kind k)
        own = let same : D ≡ v.type = cc in subst (λ C. TakeType sg G ts C (kind k)) same ds

        rest : Fit (variables_of_all ts) (support_of_all ts)
        rest = fit_behind (v ∷ []) (variables_of_all ts) [] (support_of_all ts) f

        other : Others v → holds vs v ≡ false → (can_read_one us (image_all_by (raising r vs) ts) ≡ true → can_read_one ws (image_all_by (raising s vs) (rename_all m ts)) ≡ true) → can_read ws (image_by (raising s vs) (spine (variable v) (rename_all m ts))) ≡ true
        other o h more =
            let first : can_read_one us (image_all_by (raising r vs) ts) ≡ true =
            sym (ap (can_read us) (other_spine sg r vs v ts h) ∙ ap (λ b. cond b (is_some (pattern v.type (image_all_by (raising r vs) ts))) (can_read_one us (image_all_by (raising r vs) ts))) o.0) ∙ e in
            ap (can_read ws) (other_spine sg s vs v (rename_all m ts) h)
            ∙ ap (λ b. cond b (is_some (pattern v.type (image_all_by (raising s vs) (rename_all m ts)))) (can_read_one ws (image_all_by (raising s vs) (rename_all m ts)))) o.1
            ∙ more first

        go : (b : Bool) → holds vs v ≡ b → (Fit (variables_of_all ts) (support_of_all ts) → can_read_one us (image_all_by (raising r vs) ts) ≡ true → can_read_one ws (image_all_by (raising s vs) (rename_all m ts)) ≡ true) → can_read ws (image_by (raising s vs) (spine (variable v) (rename_all m ts))) ≡ true
        go true h more = raised_read v ts h own (renamed_arguments v ts own) rest.1 e
        go false h more = elim (f.0 v (or_left (same_numbered v v) (holds (variables_of_all ts) v) ((same_numbered-Decides v v).1 refl))) [ inl a ↦ absurd (false≢true (sym h ∙ a)) | inr o ↦ other o h (more rest) ]
    read_too (typed_spine {h = index i} q ds) f e = read_all_too ds f e

    read_all_too : {G : List Ty} {ts : BareTerms} {A B : Ty} → TakeType sg G ts A B → Fit (variables_of_all ts) (support_of_all ts) → can_read_one us (image_all_by (raising r vs) ts) ≡ true → can_read_one ws (image_all_by (raising s vs) (rename_all m ts)) ≡ true
    read_all_too take_none f e = e
    read_all_too (take_term {t = t} {ts = ts} d ds) f e = elim (or_cases (can_read us (image_by (raising r vs) t)) (can_read_one us (image_all_by (raising r vs) ts)) e) [
      | inl a ↦ or_left (can_read ws (image_by (raising s vs) (rename m t))) (can_read_one ws (image_all_by (raising s vs) (rename_all m ts))) (read_too d (fit_front (variables t) (variables_of_all ts) (support t) (support_of_all ts) f) a)
      | inr a ↦ or_right (can_read ws (image_by (raising s vs) (rename m t))) (can_read_one ws (image_all_by (raising s vs) (rename_all m ts))) (read_all_too ds (fit_behind (variables t) (variables_of_all ts) (support t) (support_of_all ts) f) a)
    ]
