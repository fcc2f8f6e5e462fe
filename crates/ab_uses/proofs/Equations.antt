-- Equations that are listed one by one.
use Rattle.std.specs.Prelude.{ℕ, zero, suc, Bool, true, false, ◌||◌, ◌+◌, ◌<◌, ◌≤◌, length, get_or, cond, filter, Option, Some, None, List, [], ◌∷◌, ◌++◌, map, take}
use Rattle.std.specs.Option.{option_map}
use Rattle.std.specs.List.{All, list_any}
use Rattle.std.proofs.Common.{◌≡◌, refl, sym, ◌∙◌, ap, subst, arith, length-take-le, take_all}
use Rattle.std.proofs.lemmas.List.{take_more, map-append, length-map, get_or-map, map_more}
use Rattle.std.proofs.lemmas.List.Elements.{All-head, All-tail}
use Rattle.ab_term.specs.Types.{Ty, prop}
use Rattle.ab_term.specs.Typing.{HasType}
use Rattle.ab_norm.specs.ab_types.specs.Entries.{Table, signature}
use Rattle.ab_norm.specs.ab_store.specs.declared.node.TermId.{TermId}
use Rattle.ab_norm.specs.ab_store.specs.declared.node.Equation.{Equation as Kept}
use Rattle.ab_term.specs.Terms.{Read}
use Rattle.ab_norm.specs.ab_store.specs.Trees.{Contents, Holds, tree_of}
use Rattle.ab_norm.specs.ab_store.specs.Reading.{reading}
use Rattle.ab_norm.specs.ab_store.specs.Naming.{IsTerm}
use Rattle.ab_norm.proofs.Frame.{still_read_before}
use Rattle.ab_norm.specs.NodeGrowth.{AddsTypedTerms}
use Rattle.ab_unifiers.specs.Unification.{Equation}
use Rattle.ab_unify.specs.UnifyAnswers.{IsTypedPair}
use Rattle.ab_formulas.specs.Marks.{erased}
use Rattle.ab_alternatives.specs.LeftAlternatives.{trees_from}
use Rattle.ab_theory.specs.Uses.{equations}
use Rattle.ab_uses.specs.UseSolutions.{missing, equation_at, all_equations, IsFormulaTerm, IsFormulaTermIfAny, aim_in}
use Rattle.ab_uses.specs.declared.aim.Aim.{Aim}
use Rattle.ab_uses.proofs.ErasedTyped.{erased_typed}

-- one hypothesis more
pub equations_more : (p : ℕ) (hs : List (Option Read)) (h : Option Read) (As : List Read) (d : Read) → length hs < length As
    → equations p (hs ++ h ∷ []) As ≡ equations p hs As ++ equation_at (p + length (equations p hs As)) h (get_or As (length hs) d)
equations_more p [] h [] d l = absurd (omega (arith, l))
equations_more p [] None (A ∷ As) d l = refl
equations_more p [] (Some G) (A ∷ As) d l = let same : p ≡ p + 0 = omega arith in ap (λ k. record { place = k; left = erased A; right = erased G } ∷ []) same
equations_more p (o ∷ hs) h [] d l = absurd (omega (arith, l))
equations_more p (None ∷ hs) h (A ∷ As) d l = equations_more p hs h As d (omega (arith, l))
equations_more p (Some G ∷ hs) h (A ∷ As) d l =
    let same : suc p + length (equations (suc p) hs As) ≡ p + suc (length (equations (suc p) hs As)) = omega arith in
    ap (λ es. record { place = p; left = erased A; right = erased G } ∷ es)
    (equations_more (suc p) hs h As d (omega (arith, l)) ∙ ap (λ k. equations (suc p) hs As ++ equation_at k h (get_or As (length hs) d)) same)

module _ (types : Table) (store : Contents) where
  pub trees_count : (k : ℕ) (es : List Kept) → length (trees_from types store k es) ≡ length es
  trees_count k [] = refl
  trees_count k (e ∷ es) = ap suc (trees_count (k + 1) es)

  pub trees_more : (k : ℕ) (es : List Kept) (e : Kept)
      → trees_from types store k (es ++ e ∷ []) ≡ trees_from types store k es ++ record { place = k + length es; left = tree_of types store e.left; right = tree_of types store e.right } ∷ []
  trees_more k [] e = let same : k ≡ k + 0 = omega arith in ap (λ n. record { place = n; left = tree_of types store e.left; right = tree_of types store e.right } ∷ []) same
  trees_more k (f ∷ es) e =
      let same : k + 1 + length es ≡ k + suc (length es) = omega arith in
      ap (λ l. record { place = k; left = tree_of types store f.left; right = tree_of types store f.right } ∷ l)
      (trees_more (k + 1) es e ∙ ap (λ n. trees_from types store (k + 1) es ++ record { place = n; left = tree_of types store e.left; right = tree_of types store e.right } ∷ []) same)

-- in a store that has more terms
pub trees_stay : (types : Table) (s t : Contents) → AddsTypedTerms types s t → (k : ℕ) (es : List Kept) → All (IsTypedPair types s) es → trees_from types t k es ≡ trees_from types s k es
trees_stay types s t adds k [] all = refl
trees_stay types s t adds k (e ∷ es) all =
    let p = All-head (IsTypedPair types s) e es all in
    ap (λ l. record { place = k; left = l; right = tree_of types t e.right } ∷ trees_from types t (k + 1) es) (adds.before.trees types e.left p.2.0)
    ∙ ap (λ r. record { place = k; left = tree_of types s e.left; right = r } ∷ trees_from types t (k + 1) es) (adds.before.trees types e.right p.3.0)
    ∙ ap (λ l. record { place = k; left = tree_of types s e.left; right = tree_of types s e.right } ∷ l) (trees_stay types s t adds (k + 1) es (All-tail (IsTypedPair types s) e es all))

pub missing_more : {A B : Type 0} (os : List (Option A)) (o : Option A) (xs : List B) (d : B) → length os < length xs
    → missing (os ++ o ∷ []) xs ≡ missing os xs ++ missing (o ∷ []) (get_or xs (length os) d ∷ [])
missing_more [] o [] d l = absurd (omega (arith, l))
missing_more [] None (x ∷ xs) d l = refl
missing_more [] (Some y) (x ∷ xs) d l = refl
missing_more (o ∷ os) p [] d l = absurd (omega (arith, l))
missing_more (None ∷ os) p (x ∷ xs) d l = ap (λ k. x ∷ k) (missing_more os p xs d (omega (arith, l)))
missing_more (Some y ∷ os) p (x ∷ xs) d l = missing_more os p xs d (omega (arith, l))

pub map_missing : {A B C D : Type 0} (f : A → C) (g : B → D) (os : List (Option A)) (xs : List B) → map g (missing os xs) ≡ missing (map (option_map f) os) (map g xs)
map_missing f g [] xs = refl
map_missing f g (o ∷ os) [] = refl
map_missing f g (None ∷ os) (x ∷ xs) = ap (λ l. g x ∷ l) (map_missing f g os xs)
map_missing f g (Some y ∷ os) (x ∷ xs) = map_missing f g os xs

-- a test that holds of one holds of some
pub any_at : {X : Type 0} (p : X → Bool) (xs : List X) (i : ℕ) (d : X) → i < length xs → p (get_or xs i d) ≡ true → list_any p xs ≡ true
any_at p [] i d l e = absurd (omega (arith, l))
any_at p (x ∷ xs) zero d l e = ap (λ b. b || list_any p xs) e
any_at p (x ∷ xs) (suc i) d l e = ap (λ b. p x || b) (any_at p xs i d (omega (arith, l)) e) ∙ or_true (p x)
  where
    or_true : (b : Bool) → (b || true) ≡ true
    or_true true = refl
    or_true false = refl

-- one hypothesis more is looked at
pub missing_step : {A B : Type 0} (os : List (Option A)) (xs : List B) (i : ℕ) (c : Option A) (d : B) → i < length os → length os ≤ length xs
    → missing (take (i + 1) os) xs ≡ missing (take i os) xs ++ missing (get_or os i c ∷ []) (get_or xs i d ∷ [])
missing_step os xs i c d l m =
    let count : length (take i os) ≡ i = length-take-le i os (omega (arith, l)) in
    ap (λ k. missing k xs) (take_more os i c l)
    ∙ missing_more (take i os) (get_or os i c) xs d (omega (arith, count, l, m))
    ∙ ap (λ n. missing (take i os) xs ++ missing (get_or os i c ∷ []) (get_or xs n d ∷ [])) count

pub equations_step : (g : TermId → Read) (hs : List (Option TermId)) (As : List TermId) (i : ℕ) (c : Option TermId) (d : TermId) → i < length hs → length hs ≤ length As
    → equations 0 (map (option_map g) (take (i + 1) hs)) (map g As)
    ≡ equations 0 (map (option_map g) (take i hs)) (map g As) ++ equation_at (length (equations 0 (map (option_map g) (take i hs)) (map g As))) (option_map g (get_or hs i c)) (g (get_or As i d))
equations_step g hs As i c d l m =
    let count : length (map (option_map g) (take i hs)) ≡ i = length-map (take i hs) (option_map g) ∙ length-take-le i hs (omega (arith, l)) in
    let many = length-map As g in
    let n = length (equations 0 (map (option_map g) (take i hs)) (map g As)) in
    let from_none : 0 + n ≡ n = omega arith in
    ap (λ k. equations 0 (map (option_map g) k) (map g As)) (take_more hs i c l)
    ∙ ap (λ k. equations 0 k (map g As)) (map-append (option_map g) (take i hs) (get_or hs i c ∷ []))
    ∙ equations_more 0 (map (option_map g) (take i hs)) (option_map g (get_or hs i c)) (map g As) (g d) (omega (arith, count, many, l, m))
    ∙ ap (λ k. equations 0 (map (option_map g) (take i hs)) (map g As) ++ equation_at k (option_map g (get_or hs i c)) (get_or (map g As) (length (map (option_map g) (take i hs))) (g d))) from_none
    ∙ ap (λ A. equations 0 (map (option_map g) (take i hs)) (map g As) ++ equation_at (length (equations 0 (map (option_map g) (take i hs)) (map g As))) (option_map g (get_or hs i c)) A)
    (ap (λ n. get_or (map g As) n (g d)) count ∙ get_or-map g As i d (g d) (omega (arith, l, m)))

-- the first of which a test holds
pub first_hit : {X : Type 0} (p : X → Bool) (xs : List X) (i : ℕ) (d : X) → filter p (take i xs) ≡ [] → i < length xs → p (get_or xs i d) ≡ true → (rest : List X) × (filter p xs ≡ get_or xs i d ∷ rest)
first_hit p [] i d none l e = absurd (omega (arith, l))
first_hit p (x ∷ xs) zero d none l e = (filter p xs, ap (λ b. cond b (x ∷ filter p xs) (filter p xs)) e)
first_hit {X} p (x ∷ xs) (suc i) d none l e = go (p x) none (λ n. first_hit p xs i d n (omega (arith, l)) e)
  where
    go : (b : Bool) → cond b (x ∷ filter p (take i xs)) (filter p (take i xs)) ≡ [] → (filter p (take i xs) ≡ [] → (rest : List X) × (filter p xs ≡ get_or xs i d ∷ rest))
        → (rest : List X) × (cond b (x ∷ filter p xs) (filter p xs) ≡ get_or xs i d ∷ rest)
    go true n f = absurd (cc)
    go false n f = f n

module _ (T : Table) (S V W : Contents) where
  pub pair_typed : (a b l r : TermId) → AddsTypedTerms T S V → AddsTypedTerms T V W → IsTerm T S [] a prop → IsTerm T S [] b prop
      → Holds V l → tree_of T V l ≡ erased (tree_of T S a) → Holds W r → tree_of T W r ≡ erased (tree_of T V b) → IsTypedPair T W (record { left = l; right = r })
  pair_typed a b l r f g ta tb hl rl hr rr = (
    [],
    prop,
    (g.before.ids l hl, subst (λ t. HasType (signature T) [] t prop) (sym (g.before.trees T l hl ∙ rl)) (erased_typed (signature T) ta.1)),
    (hr, subst (λ t. HasType (signature T) [] t prop) (sym (rr ∙ ap erased (f.before.trees T b tb.0))) (erased_typed (signature T) tb.1)),
  )

module _ (T : Table) (S W : Contents) (adds : AddsTypedTerms T S W) where
  pub term_kept : (G : List Ty) (t : TermId) (A : Ty) → IsTerm T S G t A → IsTerm T W G t A
  term_kept G t A h = (adds.before.ids t h.0, subst (λ r. HasType (signature T) G r A) (sym (adds.before.trees T t h.0)) h.1)

  pub pair_kept : (e : Kept) → IsTypedPair T S e → IsTypedPair T W e
  pair_kept e h = (h.0, h.1, term_kept h.0 e.left h.1 h.2, term_kept h.0 e.right h.1 h.3)

  pub any_kept : (o : Option TermId) → IsFormulaTermIfAny T S o → IsFormulaTermIfAny T W o
  any_kept None h = tt
  any_kept (Some t) h = term_kept [] t prop h

  any_read : (o : Option TermId) → IsFormulaTermIfAny T S o → option_map (tree_of T W) o ≡ option_map (tree_of T S) o
  any_read None h = refl
  any_read (Some t) h = ap Some (adds.before.trees T t h.0)

  -- one equation more
  pub added : (list more : List Kept) (e : Kept) (F G : TermId) (o : Option TermId) → All (IsTypedPair T S) list → o ≡ Some G → more ≡ list ++ e ∷ []
      → tree_of T W e.left ≡ erased (tree_of T S F) → tree_of T W e.right ≡ erased (tree_of T S G)
      → trees_from T W 0 more ≡ trees_from T S 0 list ++ equation_at (length list) (option_map (tree_of T S) o) (tree_of T S F)
  added list more e F G o all is push l r =
      let from_none : 0 + length list ≡ length list = omega arith in
      ap (trees_from T W 0) push
      ∙ trees_more T W 0 list e
      ∙ ap (λ k. trees_from T W 0 list ++ record { place = k; left = tree_of T W e.left; right = tree_of T W e.right } ∷ []) from_none
      ∙ ap (λ k. k ++ record { place = length list; left = tree_of T W e.left; right = tree_of T W e.right } ∷ []) (trees_stay T S W adds 0 list all)
      ∙ ap (λ k. trees_from T S 0 list ++ record { place = length list; left = k; right = tree_of T W e.right } ∷ []) l
      ∙ ap (λ k. trees_from T S 0 list ++ record { place = length list; left = erased (tree_of T S F); right = k } ∷ []) r
      ∙ ap (λ k. trees_from T S 0 list ++ equation_at (length list) (option_map (tree_of T S) k) (tree_of T S F)) (sym is)

  -- what is added is read as in the earlier store
  behind_read : (list : List Kept) (es : List (Equation (List ℕ))) (o : Option TermId) (A : TermId) → IsFormulaTermIfAny T S o → Holds S A → trees_from T W 0 list ≡ es
      → trees_from T W 0 list ++ equation_at (length list) (option_map (tree_of T W) o) (tree_of T W A) ≡ es ++ equation_at (length es) (option_map (tree_of T S) o) (tree_of T S A)
  behind_read list es o A h held is =
      ap (λ k. k ++ equation_at (length list) (option_map (tree_of T W) o) (tree_of T W A)) is
      ∙ ap (λ k. es ++ equation_at k (option_map (tree_of T W) o) (tree_of T W A)) (sym (trees_count T W 0 list) ∙ ap length is)
      ∙ ap (λ k. es ++ equation_at (length es) k (tree_of T W A)) (any_read o h)
      ∙ ap (λ k. es ++ equation_at (length es) (option_map (tree_of T S) o) k) (adds.before.trees T A held)

  pub stepped : (hs : List (Option TermId)) (As : List TermId) (i : ℕ) (c : Option TermId) (d : TermId) (list : List Kept) → i < length hs → length hs ≤ length As
      → All (IsFormulaTermIfAny T S) hs → All (IsFormulaTerm T S) As
      → trees_from T W 0 list ≡ equations 0 (map (option_map (tree_of T S)) (take i hs)) (map (tree_of T S) As)
      → trees_from T W 0 list ++ equation_at (length list) (option_map (tree_of T W) (get_or hs i c)) (tree_of T W (get_or As i d))
      ≡ equations 0 (map (option_map (tree_of T S)) (take (i + 1) hs)) (map (tree_of T S) As)
  stepped hs As i c d list l m all formulas is =
      behind_read list _ (get_or hs i c) (get_or As i d) (all i c l) (formulas i d (omega (arith, l, m))).0 is
      ∙ sym (equations_step (tree_of T S) hs As i c d l m)

  pub whole : (a : Aim) (As : List TermId) (R : TermId) (i : ℕ) (list : List Kept) → length a.hypotheses.items ≤ i → IsFormulaTermIfAny T S a.conclusion → Holds S R
      → trees_from T W 0 list ≡ equations 0 (map (option_map (tree_of T S)) (take i a.hypotheses.items)) (map (tree_of T S) As)
      → trees_from T W 0 list ++ equation_at (length list) (option_map (tree_of T W) a.conclusion) (tree_of T W R) ≡ all_equations (aim_in T S a) (map (tree_of T S) As) (tree_of T S R)
  whole a As R i list l h held is =
      behind_read list _ a.conclusion R h held (is ∙ ap (λ hs. equations 0 (map (option_map (tree_of T S)) hs) (map (tree_of T S) As)) (take_all i a.hypotheses.items l))

pub resolved_more : (T : Table) (S V W : Contents) → AddsTypedTerms T S V → AddsTypedTerms T V W → (ts list more : List TermId) (i : ℕ) (d r : TermId) → All (Holds S) ts → All (Holds V) list
    → map (tree_of T V) list ≡ map (reading T S) (take i ts) → tree_of T W r ≡ reading T V (get_or ts i d) → i < length ts → more ≡ list ++ r ∷ []
    → map (tree_of T W) more ≡ map (reading T S) (take (i + 1) ts)
resolved_more T S V W f g ts list more i d r within held reads here l push =
    ap (map (tree_of T W)) push
    ∙ map-append (tree_of T W) list (r ∷ [])
    ∙ ap (λ k. k ++ tree_of T W r ∷ []) (still_read_before T V W list g.before held ∙ reads)
    ∙ ap (λ x. map (reading T S) (take i ts) ++ x ∷ []) (here ∙ f.before.readings T (get_or ts i d) (within i d l))
    ∙ sym (map_more (reading T S) ts i d l)
