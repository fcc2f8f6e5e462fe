-- What rules do to cells, to flexible variables and to what is put in, with other numbers.
use Rattle.std.proofs.Common.{◌≡◌, ℕ, zero, suc, ◌+◌, ◌-◌, ◌≤◌, List, [], ◌∷◌, ◌++◌, map, length, Bool, true, false, cond, Option, Some, None, option_map, unwrap_or, refl, sym, ◌∙◌, ap, subst, append_assoc, arith, length-append}
use Rattle.std.specs.Prelude.{slice_get, ◌==◌}
use Rattle.std.specs.Cmp.{unsigned_Decides}
use Rattle.std.proofs.lemmas.Option.{unwrap_or-slice_get}
use Rattle.std.specs.List.{list_all}
use Rattle.ab_term.specs.Types.{Ty}
use Rattle.ab_term.specs.Terms.{Variable, Head, constant, logical, nominal, variable, index, Term, lam, spine, Terms, no_terms, term}
use Rattle.ab_term.specs.Translation.{translate_variable, translate_head, translate, translate_all}
use Rattle.ab_term.specs.Variables.{Substitution, image, composition}
use Rattle.ab_term.specs.Sameness.{same_number}
use Rattle.ab_term.specs.Abstraction.{among, under}
use Rattle.ab_term.proofs.Translations.{map-append}
use Rattle.ab_term.proofs.ImageTranslations.{translate-image}
use Rattle.ab_unifiers.specs.Patterns.{pattern, applied, kept, kept_type}
use Rattle.ab_unifiers.specs.Replacements.{Cell, Change, without, holds, is_flexible, hint_of, made, next_variable, one, narrowed, pruned_names, pruned_here, pruned, pruned_all}
use Rattle.ab_unifiers.specs.Renumbering.{renumbered_pairs, IsRenumbering}
use Rattle.ab_unifiers.proofs.Tests.{holds_moved, without_moved, flexible_moved, under_moved, all_among_moved, each_among_moved}
use Rattle.ab_unifiers.proofs.Names.{kept_map, pattern_moved, applied_moved, value_moved}

both_ways : (b c : Bool) → (b ≡ true → c ≡ true) → (c ≡ true → b ≡ true) → b ≡ c
both_ways true c f g = sym (f refl)
both_ways false true f g = g refl
both_ways false false f g = refl

-- the tests of numbers agree
pub agreeing : (f : ℕ → ℕ) → ((i j : ℕ) → f i ≡ f j → i ≡ j) → (i j : ℕ) → same_number (f i) (f j) ≡ same_number i j
agreeing f different i j =
    both_ways (f i == f j) (i == j)
    (λ e. (unsigned_Decides i j).1 (different i j ((unsigned_Decides (f i) (f j)).0 e)))
    (λ e. (unsigned_Decides (f i) (f j)).1 (ap f ((unsigned_Decides i j).0 e)))

-- CELLS

module _ {X : Type 0} where
  pub front : (xs ys : List X) (i : ℕ) (x : X) → slice_get xs i ≡ Some x → slice_get (xs ++ ys) i ≡ Some x
  front [] ys i x e = absurd (cc)
  front (z ∷ xs) ys zero x e = e
  front (z ∷ xs) ys (suc i) x e = front xs ys i x e

  pub rear : (xs ys : List X) (k : ℕ) → slice_get (xs ++ ys) (length xs + k) ≡ slice_get ys k
  rear [] ys k =
      let e : 0 + k ≡ k = omega arith in
      ap (slice_get ys) e
  rear (z ∷ xs) ys k =
      let e : suc (length xs) + k ≡ suc (length xs + k) = omega arith in
      ap (slice_get (z ∷ xs ++ ys)) e ∙ rear xs ys k

  outside : (xs : List X) (i : ℕ) → slice_get xs i ≡ None → length xs ≤ i
  outside [] i e = omega arith
  outside (x ∷ xs) zero e = absurd (cc)
  outside (x ∷ xs) (suc i) e = omega (arith, outside xs i e)

module _ (f : ℕ → ℕ) {Hint : Type 0} where
  pub extended : (cells others new : List (Cell Hint)) → IsRenumbering f cells others → IsRenumbering f (cells ++ new) (others ++ new)
  extended cells others new r = record {
    different = r.different;
    same_cells = λ i. cell i (slice_get cells i) refl;
    behind = λ k.
        let one : length (cells ++ new) + k ≡ length cells + (length new + k) = omega (arith, length-append cells new) in
        let two : length others + (length new + k) ≡ length (others ++ new) + k = omega (arith, length-append others new) in
        ap f one ∙ r.behind (length new + k) ∙ two;
  }
    where
      cell : (i : ℕ) (o : Option (Cell Hint)) → slice_get cells i ≡ o → slice_get (others ++ new) (f i) ≡ slice_get (cells ++ new) i
      cell i (Some c) e = front others new (f i) c (r.same_cells i ∙ e) ∙ sym (front cells new i c e)
      cell i None e =
          let past = outside cells i e in
          let far : length cells + (i - length cells) ≡ i = omega (arith, past) in
          ap (λ j. slice_get (others ++ new) (f j)) (sym far)
          ∙ ap (slice_get (others ++ new)) (r.behind (i - length cells))
          ∙ rear others new (i - length cells)
          ∙ sym (rear cells new (i - length cells))
          ∙ ap (slice_get (cells ++ new)) far

module _ (f : ℕ → ℕ) {Hint : Type 0} (x : Hint) (cells others : List (Cell Hint)) (r : IsRenumbering f cells others) where
  abbrev V : Variable ℕ → Variable ℕ
  V = translate_variable f

  abbrev H : Head ℕ → Head ℕ
  H = translate_head f

  abbrev T : Term ℕ Hint → Term ℕ Hint
  T = translate f (λ x. x)

  abbrev Ts : Terms ℕ Hint → Terms ℕ Hint
  Ts = translate_all f (λ x. x)

  abbrev pub Agree : (i j : ℕ) → same_number (f i) (f j) ≡ same_number i j
  Agree = agreeing f r.different

  -- the same cells were made
  abbrev pub Grown : List (Cell Hint) → List (Cell Hint) → Type 0
  Grown more most = (new : List (Cell Hint)) × (more ≡ cells ++ new) × (most ≡ others ++ new)

  numbering : (more most : List (Cell Hint)) → Grown more most → IsRenumbering f more most
  numbering more most g = subst (λ l. IsRenumbering f l most) (sym g.1) (subst (IsRenumbering f (cells ++ g.0)) (sym g.2) (extended f cells others g.0 r))

  hint_moved : (more most : List (Cell Hint)) → Grown more most → (y : Variable ℕ) → hint_of x most (V y) ≡ hint_of x more y
  hint_moved more most g y =
      let d : Cell Hint = record { hint = x; type = y.type } in
      ap (λ (c : Cell Hint). c.hint)
      (sym (unwrap_or-slice_get most (f y.name) d)
      ∙ ap (λ o. unwrap_or o d) ((numbering more most g).same_cells y.name)
      ∙ unwrap_or-slice_get more y.name d)

  pub made_moved : (more most : List (Cell Hint)) → Grown more most → (y : Variable ℕ) (A : Ty) → made x most (V y) A ≡ made x more y A
  made_moved more most g y A = ap (λ h. record { hint = h; type = A }) (hint_moved more most g y)

  pub next_moved : (more most : List (Cell Hint)) → Grown more most → (A : Ty) → next_variable x most A ≡ V (next_variable x more A)
  next_moved more most g A =
      let at : f (length more + 0) ≡ length most + 0 = (numbering more most g).behind 0 in
      let here : length most ≡ length most + 0 = omega arith in
      let there : length more + 0 ≡ length more = omega arith in
      ap (λ n. record { name = n; type = A }) (here ∙ sym at ∙ ap f there)

  pub one_more : (more most : List (Cell Hint)) (c d : Cell Hint) → Grown more most → d ≡ c → Grown (more ++ c ∷ []) (most ++ d ∷ [])
  one_more more most c d g e = (
    g.0 ++ c ∷ [],
    ap (λ l. l ++ c ∷ []) g.1 ∙ append_assoc cells g.0 (c ∷ []),
    ap (λ b. most ++ b ∷ []) e ∙ ap (λ l. l ++ c ∷ []) g.2 ∙ append_assoc others g.0 (c ∷ []),
  )

  -- SUBSTITUTIONS

  pub image_moved : (s : Substitution ℕ Hint) (t : Term ℕ Hint) → T (image same_number s t) ≡ image same_number (renumbered_pairs f s) (T t)
  image_moved s t = translate-image f (λ x. x) same_number same_number Agree s t

  images_moved : (s q : Substitution ℕ Hint) → renumbered_pairs f (map (λ p. (p.0, image same_number q p.1)) s) ≡ map (λ p. (p.0, image same_number (renumbered_pairs f q) p.1)) (renumbered_pairs f s)
  images_moved [] q = refl
  images_moved (p ∷ s) q =
      ap (λ u. (V p.0, u) ∷ renumbered_pairs f (map (λ p. (p.0, image same_number q p.1)) s)) (image_moved q p.1)
      ∙ ap (λ l. (V p.0, image same_number (renumbered_pairs f q) (T p.1)) ∷ l) (images_moved s q)

  pub composition_moved : (s q : Substitution ℕ Hint) → renumbered_pairs f (composition same_number s q) ≡ composition same_number (renumbered_pairs f s) (renumbered_pairs f q)
  composition_moved s q =
      map-append (λ p. (V p.0, T p.1)) (map (λ p. (p.0, image same_number q p.1)) s) q
      ∙ ap (λ l. l ++ renumbered_pairs f q) (images_moved s q)

  pub one_moved : (y : Variable ℕ) (names : List (Head ℕ)) (t : Term ℕ Hint) → renumbered_pairs f (one x y names t) ≡ one x (V y) (map H names) (T t)
  one_moved y names t = ap (λ u. (V y, u) ∷ []) (value_moved f Agree x y names t)

  -- CHANGES

  -- the second change is the first, with other numbers
  pub record Moves (c d : Change Hint) : Type 0 where
    pub grown : Grown c.cells d.cells
    pub flexible : d.flexible ≡ map V c.flexible
    pub pairs : d.pairs ≡ renumbered_pairs f c.pairs

  pub moves_cond : (b p : Bool) (c d e g : Change Hint) → p ≡ b → Moves c d → Moves e g → Moves (cond b c e) (cond p d g)
  moves_cond b p c d e g same m n = subst (λ q. Moves (cond b c e) (cond q d g)) (sym same) (go b)
    where
      go : (b : Bool) → Moves (cond b c e) (cond b d g)
      go true = m
      go false = n

  narrowed_moved : (y : Variable ℕ) (names : List (Head ℕ)) (keep : List Bool) (c d : Change Hint) → Moves c d → Moves (narrowed x y names keep c) (narrowed x (V y) (map H names) keep d)
  narrowed_moved y names keep c d m =
      let A = kept_type keep y.type in
      let z = next_variable x c.cells A in
      let w = next_variable x d.cells A in
      let fresh : w ≡ V z = next_moved c.cells d.cells m.grown A in
      let t = applied x z (kept keep names) in
      let term_same : applied x w (kept keep (map H names)) ≡ T t =
      ap (λ v. applied x v (kept keep (map H names))) fresh ∙ ap (applied x (V z)) (kept_map H keep names) ∙ sym (applied_moved f Agree x z (kept keep names)) in
      record {
        grown = one_more c.cells d.cells (made x c.cells y A) (made x d.cells (V y) A) m.grown (made_moved c.cells d.cells m.grown y A);
        flexible =
            ap (λ l. without (V y) l ++ w ∷ []) m.flexible
            ∙ ap (λ l. l ++ w ∷ []) (without_moved f Agree y c.flexible)
            ∙ ap (λ v. map V (without y c.flexible) ++ v ∷ []) fresh
            ∙ sym (map-append V (without y c.flexible) (z ∷ []));
        pairs =
            ap (λ u. composition same_number d.pairs (one x (V y) (map H names) u)) term_same
            ∙ ap (composition same_number d.pairs) (sym (one_moved y names t))
            ∙ ap (λ s. composition same_number s (renumbered_pairs f (one x y names t))) m.pairs
            ∙ sym (composition_moved c.pairs (one x y names t));
      }

  pub narrowed_by : (y : Variable ℕ) (names : List (Head ℕ)) (keep kept_so : List Bool) (c d : Change Hint) → kept_so ≡ keep → Moves c d → Moves (narrowed x y names keep c) (narrowed x (V y) (map H names) kept_so d)
  narrowed_by y names keep kept_so c d e m = subst (λ k. Moves (narrowed x y names keep c) (narrowed x (V y) (map H names) k d)) (sym e) (narrowed_moved y names keep c d m)

  names_moved : (names : List (Head ℕ)) (y : Variable ℕ) (o : Option (List (Head ℕ))) (c d : Change Hint) → Moves c d → Moves (pruned_names x names y o c) (pruned_names x (map H names) (V y) (option_map (map H) o) d)
  names_moved names y None c d m = m
  names_moved names y (Some bs) c d m =
      moves_cond (list_all (among names) bs) (list_all (among (map H names)) (map H bs)) c d _ _ (all_among_moved f Agree names bs) m
      (narrowed_by y bs (map (among names) bs) (map (among (map H names)) (map H bs)) c d (each_among_moved f Agree names bs) m)

  here_moved : (names : List (Head ℕ)) (t : Term ℕ Hint) (c d : Change Hint) → Moves c d → Moves (pruned_here x names t c) (pruned_here x (map H names) (T t) d)
  here_moved names (lam A y t) c d m = m
  here_moved names (spine (constant a) ts) c d m = m
  here_moved names (spine (logical a) ts) c d m = m
  here_moved names (spine (nominal a) ts) c d m = m
  here_moved names (spine (index a) ts) c d m = m
  here_moved names (spine (variable y) ts) c d m =
      moves_cond (holds c.flexible y) (holds d.flexible (V y)) _ _ c d (ap (λ l. holds l (V y)) m.flexible ∙ holds_moved f Agree c.flexible y)
      (subst (λ o. Moves (pruned_names x names y (pattern y.type ts) c) (pruned_names x (map H names) (V y) o d)) (sym (pattern_moved f Agree y.type ts)) (names_moved names y (pattern y.type ts) c d m))
      m

  mutual
    pub pruned_moved : (ys : List (Variable ℕ)) (names : List (Head ℕ)) (t : Term ℕ Hint) (c d : Change Hint) → Moves c d → Moves (pruned x ys names t c) (pruned x (map V ys) (map H names) (T t) d)
    pruned_moved ys names (lam A y t) c d m =
        subst (λ l. Moves (pruned x ys (under names) t c) (pruned x (map V ys) l (T t) d)) (sym (under_moved f Agree names)) (pruned_moved ys (under names) t c d m)
    pruned_moved ys names (spine h ts) c d m =
        let u : Term ℕ Hint = spine h ts in
        let same : image same_number d.pairs (T u) ≡ T (image same_number c.pairs u) = ap (λ s. image same_number s (T u)) m.pairs ∙ sym (image_moved c.pairs u) in
        moves_cond (is_flexible ys h) (is_flexible (map V ys) (H h)) _ _ _ _ (flexible_moved f Agree ys h)
        (subst (λ v. Moves (pruned_here x names (image same_number c.pairs u) c) (pruned_here x (map H names) v d)) (sym same) (here_moved names (image same_number c.pairs u) c d m))
        (all_pruned_moved ys names ts c d m)

    all_pruned_moved : (ys : List (Variable ℕ)) (names : List (Head ℕ)) (ts : Terms ℕ Hint) (c d : Change Hint) → Moves c d → Moves (pruned_all x ys names ts c) (pruned_all x (map V ys) (map H names) (Ts ts) d)
    all_pruned_moved ys names no_terms c d m = m
    all_pruned_moved ys names (term t ts) c d m = all_pruned_moved ys names ts (pruned x ys names t c) (pruned x (map V ys) (map H names) (T t) d) (pruned_moved ys names t c d m)
