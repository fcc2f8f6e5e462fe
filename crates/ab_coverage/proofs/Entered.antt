-- The names of a row of binders that become variables: what the variables' own forms, put in, make of a term; which names
-- stand in it; and that closing some of the variables again by `exists` is closing their binders.
use Rattle.std.proofs.Common.{◌≡◌, ℕ, zero, suc, ◌+◌, List, [], ◌∷◌, map, length, Bool, true, false, ◌&&◌, ◌||◌, not, Option, Some, None, option_map, refl, sym, ◌∙◌, ap, subst, arith, append-nil}
use Rattle.std.specs.List.{list_any}
use Rattle.std.specs.Prelude.{Contains}
use Rattle.std.proofs.lemmas.Bool.{or_parts, false≢true, false_from_ne_true}
use Rattle.ab_term.specs.Types.{Ty, prop}
use Rattle.ab_term.specs.Terms.{Variable, variable, index, Term, lam, spine, Terms, no_terms, term, logical}
use Rattle.ab_term.specs.Logical.{spec_universal, spec_implication, spec_conjunction, conjunction, nabla}
use Rattle.ab_term.specs.Typing.{Signature, HasType, typed_lam, typed_spine, take_none, take_term}
use Rattle.ab_term.specs.Substitution.{shift, substitute, lower_index, instance_by_all}
use Rattle.ab_term.specs.Translation.{forget}
use Rattle.ab_term.specs.Variables.{variables}
use Rattle.ab_term.specs.Sameness.{same_numbered}
use Rattle.ab_term.specs.Abstraction.{close}
use Rattle.ab_term.proofs.Closed.{closed_typed, closed_reach}
use Rattle.ab_term.proofs.ClosingImages.{variables-close}
use Rattle.ab_term.proofs.Expansions.{expansion_typed}
use Rattle.ab_term.proofs.Lists.{Contains-here, Contains-there}
use Rattle.ab_term.proofs.Same.{same_numbered-Decides}
use Rattle.ab_term.proofs.Preservation.{Insert, here, there, substitute_typed}
use Rattle.ab_term.proofs.Reaching.{shift-short}
use Rattle.ab_term.proofs.Translations.{translate-substitute, translate_typed}
use Rattle.ab_unifiers.specs.Replacements.{Cell, holds, occurs}
use Rattle.ab_unifiers.specs.Unifiers.{AreDifferent}
use Rattle.ab_unifiers.proofs.Agreeing.{contains_holds, holds_behind}
use Rattle.ab_unifiers.proofs.Past.{Bare, bare_own, own, forget-own}
use Rattle.ab_unifiers.proofs.Variables.{holds_contains}
use Rattle.ab_coverage.proofs.IndexedGoals.{judged, in_front, both, for_some, open_goal, stands}
use Rattle.ab_coverage.proofs.IndexedSpecClauses.{and_also, context_of, in_goals_only}
use Rattle.ab_coverage.proofs.Conjoined.{asked}
use Rattle.ab_coverage.proofs.Filling.{closed_with}
use Rattle.ab_coverage.proofs.Entering.{entered_head, enter, enter_all, close-enter, close-enter_other, occurs-enter_other, occurs-enter_itself, stands-enter, enter-shift, enter-enter, enter_typed, substitute-enter}

module _ {Hint : Type 0} where
  abbrev pub entered : List (Variable ℕ) → Term ℕ Hint → Term ℕ Hint
  entered [] t = t
  entered (y ∷ ys) t = enter zero y (entered ys t)

  -- each binder has its variable's type
  abbrev pub Matches : List (Cell Hint) → List (Variable ℕ) → Type 0
  Matches [] [] = Unit {0}
  Matches [] (y ∷ ys) = ⊥
  Matches (b ∷ bs) [] = ⊥
  Matches (b ∷ bs) (y ∷ ys) = (y.type ≡ b.type) × Matches bs ys

  -- none of the variables stands there
  abbrev pub AreFresh : List (Variable ℕ) → Term ℕ Hint → Type 0
  AreFresh ys t = (z : Variable ℕ) → holds ys z ≡ true → occurs z t ≡ false

pub holds_first : (y : Variable ℕ) (ys : List (Variable ℕ)) → holds (y ∷ ys) y ≡ true
holds_first y ys = contains_holds (y ∷ ys) y (Contains-here y ys)

-- a variable of the row is another than the first
pub others_differ : (y z : Variable ℕ) (ys : List (Variable ℕ)) → holds ys y ≡ false → holds ys z ≡ true → same_numbered y z ≡ false
others_differ y z ys n h = false_from_ne_true (same_numbered y z) (λ e. false≢true (sym n ∙ subst (λ v. holds ys v ≡ true) (sym ((same_numbered-Decides y z).0 e)) h))

two_maps : {X Y Z : Type 0} (f : X → Y) (g : Y → Z) (xs : List X) → map g (map f xs) ≡ map (λ x. g (f x)) xs
two_maps f g [] = refl
two_maps f g (x ∷ xs) = ap (λ l. g (f x) ∷ l) (two_maps f g xs)

abbrev pub tests : (Variable ℕ → Bool) → (Variable ℕ → Bool) → List (Variable ℕ) → List Bool
tests p q ys = map (λ y. p y && not (q y)) ys

any_same : {X : Type 0} (p q : X → Bool) (xs : List X) → ((x : X) → p x ≡ q x) → list_any p xs ≡ list_any q xs
any_same p q [] e = refl
any_same p q (x ∷ xs) e = ap (λ b. b || list_any p xs) (e x) ∙ ap (λ b. q x || b) (any_same p q xs e)

module _ {Hint : Type 0} where
  pub entered_occurs : (ys : List (Variable ℕ)) (z : Variable ℕ) (t : Term ℕ Hint) → holds ys z ≡ false → occurs z (entered ys t) ≡ occurs z t
  entered_occurs [] z t n = refl
  entered_occurs (y ∷ ys) z t n =
      let parts = or_parts (same_numbered y z) (holds ys z) n in
      occurs-enter_other zero y z (entered ys t) parts.0 ∙ entered_occurs ys z t parts.1

  pub first_fresh : (y : Variable ℕ) (ys : List (Variable ℕ)) (t : Term ℕ Hint) → holds ys y ≡ false → AreFresh (y ∷ ys) t → occurs y (entered ys t) ≡ false
  first_fresh y ys t n f = entered_occurs ys y t n ∙ f y (holds_first y ys)

  pub others_fresh : (y : Variable ℕ) (ys : List (Variable ℕ)) (t : Term ℕ Hint) → AreFresh (y ∷ ys) t → AreFresh ys t
  others_fresh y ys t f z h = f z (holds_behind (y ∷ []) ys z h)

  pub stands-entered : (ys : List (Variable ℕ)) (j : ℕ) (t : Term ℕ Hint) → stands j (entered ys t) ≡ stands (length ys + j) t
  stands-entered [] j t = ap (λ n. stands n t) (let e : j ≡ 0 + j = omega arith in e)
  stands-entered (y ∷ ys) j t = stands-enter j zero y (entered ys t) (omega arith) ∙ stands-entered ys (suc j) t ∙ ap (λ n. stands n t) (let e : length ys + suc j ≡ suc (length ys) + j = omega arith in e)

  -- one binder more, outside of them
  pub entered-enter : (ys : List (Variable ℕ)) (k : ℕ) (y : Variable ℕ) (t : Term ℕ Hint) → entered ys (enter (length ys + k) y t) ≡ enter k y (entered ys t)
  entered-enter [] k y t = ap (λ n. enter n y t) (let e : 0 + k ≡ k = omega arith in e)
  entered-enter (z ∷ ys) k y t =
      ap (λ n. enter zero z (entered ys (enter n y t))) (let e : suc (length ys) + k ≡ length ys + suc k = omega arith in e)
      ∙ ap (enter zero z) (entered-enter ys (suc k) y t)
      ∙ enter-enter zero k y z (entered ys t) (omega arith)

  -- opened goals
  by_index : (k : ℕ) (y : Variable ℕ) (L : Term ℕ Hint) (ts : Terms ℕ Hint) (o : Option ℕ) → open_goal (enter k y L) (spine (entered_head y (option_map index o)) (enter_all k y ts)) ≡ judged (enter k y L) (spine (entered_head y (option_map index o)) (enter_all k y ts))
  by_index k y L ts None = refl
  by_index k y L ts (Some i) = refl

  pub open-enter : (G L : Term ℕ Hint) (k : ℕ) (y : Variable ℕ) → open_goal (enter k y L) (enter k y G) ≡ enter k y (open_goal L G)
  open-enter (spine (logical (spec_universal A)) (term (lam B x G) no_terms)) L k y =
      ap (λ F. spine (logical (nabla A)) (term (lam A x F) no_terms)) (ap (λ K. open_goal K (enter (suc k) y G)) (sym (enter-shift zero k y L (omega arith))) ∙ open-enter G (shift zero L) (suc k) y)
  open-enter (spine (logical spec_implication) (term F (term G no_terms))) L k y = open-enter G (in_front F L) k y
  open-enter (spine (logical spec_conjunction) (term F (term G no_terms))) L k y =
      ap (λ H. spine (logical conjunction) (term H (term (open_goal (enter k y L) (enter k y G)) no_terms))) (open-enter F L k y)
      ∙ ap (λ K. spine (logical conjunction) (term (enter k y (open_goal L F)) (term K no_terms))) (open-enter G L k y)
  open-enter (spine (index i) ts) L k y = by_index k y L ts (lower_index k i)
  open-enter G L k y = refl

  more-enter : (L F : Term ℕ Hint) (Gs : List (Term ℕ Hint)) (k : ℕ) (y : Variable ℕ) → and_also (enter k y F) (map (open_goal (enter k y L)) (map (enter k y) Gs)) ≡ enter k y (and_also F (map (open_goal L) Gs))
  more-enter L F [] k y = refl
  more-enter L F (G ∷ Gs) k y = ap (λ H. and_also (both (enter k y F) H) (map (open_goal (enter k y L)) (map (enter k y) Gs))) (open-enter G L k y) ∙ more-enter L (both F (open_goal L G)) Gs k y

  asked-enter : (L : Term ℕ Hint) (Gs : List (Term ℕ Hint)) (k : ℕ) (y : Variable ℕ) → asked (enter k y L) (map (enter k y) Gs) ≡ enter k y (asked L Gs)
  asked-enter L [] k y = refl
  asked-enter L (G ∷ Gs) k y = ap (λ H. and_also H (map (open_goal (enter k y L)) (map (enter k y) Gs))) (open-enter G L k y) ∙ more-enter L (open_goal L G) Gs k y

  map_id : (xs : List (Term ℕ Hint)) → map (entered []) xs ≡ xs
  map_id [] = refl
  map_id (x ∷ xs) = ap (λ l. x ∷ l) (map_id xs)

  pub asked-entered : (ys : List (Variable ℕ)) (L : Term ℕ Hint) (Gs : List (Term ℕ Hint)) → asked (entered ys L) (map (entered ys) Gs) ≡ entered ys (asked L Gs)
  asked-entered [] L Gs = ap (asked L) (map_id Gs)
  asked-entered (y ∷ ys) L Gs = ap (asked (enter zero y (entered ys L))) (sym (two_maps (entered ys) (enter zero y) Gs)) ∙ asked-enter (entered ys L) (map (entered ys) Gs) zero y ∙ ap (enter zero y) (asked-entered ys L Gs)

-- THE NAMES THAT STAND IN GOALS ALONE
module _ {Hint : Type 0} where
  pub in_goals : (bs : List (Cell Hint)) (ys : List (Variable ℕ)) → Matches bs ys → AreDifferent ys → (goals : List (Term ℕ Hint)) (atom : Term ℕ Hint)
      → ((z : Variable ℕ) → holds ys z ≡ true → (occurs z atom ≡ false) × ((G : Term ℕ Hint) → Contains goals G → occurs z G ≡ false))
      → (p q : Variable ℕ → Bool) → ((z : Variable ℕ) → holds ys z ≡ true → (p z ≡ list_any (λ G. occurs z (entered ys G)) goals) × (q z ≡ occurs z (entered ys atom)))
      → tests p q ys ≡ in_goals_only bs goals atom
  in_goals [] [] m d goals atom f p q e = refl
  in_goals [] (y ∷ ys) m d goals atom f p q e = absurd m
  in_goals (b ∷ bs) [] m d goals atom f p q e = absurd m
  in_goals (b ∷ bs) (y ∷ ys) m d goals atom f p q e =
      let first = e y (holds_first y ys) in
      let long : length ys ≡ length bs = lengths bs ys m.1 in
      ap (λ c. (c && not (q y)) ∷ tests p q ys) (first.0 ∙ all_goals goals (λ G n. (f y (holds_first y ys)).1 G n))
      ∙ ap (λ c. (list_any (stands (length bs)) goals && not c) ∷ tests p q ys) (first.1 ∙ one atom (f y (holds_first y ys)).0)
      ∙ ap (λ l. (list_any (stands (length bs)) goals && not (stands (length bs) atom)) ∷ l)
      (in_goals bs ys m.1 d.1 goals atom (λ z h. f z (holds_behind (y ∷ []) ys z h)) p q (λ z h.
      let its = e z (holds_behind (y ∷ []) ys z h) in
      let differs = others_differ y z ys d.0 h in (
        its.0 ∙ any_same (λ G. occurs z (entered (y ∷ ys) G)) (λ G. occurs z (entered ys G)) goals (λ G. occurs-enter_other zero y z (entered ys G) differs),
        its.1 ∙ occurs-enter_other zero y z (entered ys atom) differs,
      )))
    where
      lengths : (bs : List (Cell Hint)) (ys : List (Variable ℕ)) → Matches bs ys → length ys ≡ length bs
      lengths [] [] m = refl
      lengths [] (z ∷ zs) m = absurd m
      lengths (c ∷ cs) [] m = absurd m
      lengths (c ∷ cs) (z ∷ zs) m = ap suc (lengths cs zs m.1)

      one : (t : Term ℕ Hint) → occurs y t ≡ false → occurs y (entered (y ∷ ys) t) ≡ stands (length bs) t
      one t n =
          occurs-enter_itself zero y (entered ys t) (entered_occurs ys y t d.0 ∙ n)
          ∙ stands-entered ys zero t ∙ ap (λ n. stands n t) (let e : length ys + 0 ≡ length ys = omega arith in e ∙ lengths bs ys m.1)

      all_goals : (Gs : List (Term ℕ Hint)) → ((G : Term ℕ Hint) → Contains Gs G → occurs y G ≡ false) → list_any (λ G. occurs y (entered (y ∷ ys) G)) Gs ≡ list_any (stands (length bs)) Gs
      all_goals [] n = refl
      all_goals (G ∷ Gs) n =
          ap (λ b. b || list_any (λ H. occurs y (entered (y ∷ ys) H)) Gs) (one G (n G (Contains-here G Gs)))
          ∙ ap (λ b. stands (length bs) G || b) (all_goals Gs (λ H k. n H (Contains-there G Gs H k)))

-- SOME OF THE BINDERS CLOSED BY `exists`, the others entered
abbrev pub mixed : List Bool → List (Variable ℕ) → Bare → Bare
mixed (true ∷ fs) (y ∷ ys) N = for_some y.type tt (mixed fs ys N)
mixed (false ∷ fs) (y ∷ ys) N = enter zero y (mixed fs ys N)
mixed _ _ N = N

abbrev pub chosen : List Bool → List (Variable ℕ) → List (Variable ℕ)
chosen (true ∷ fs) (y ∷ ys) = y ∷ chosen fs ys
chosen (false ∷ fs) (y ∷ ys) = chosen fs ys
chosen _ _ = []

-- the variables closed
abbrev pub exists_over_all : List (Variable ℕ) → Bare → Bare
exists_over_all [] F = F
exists_over_all (y ∷ ys) F = for_some y.type tt (close zero (variable y) (exists_over_all ys F))

chosen_held : (fs : List Bool) (ys : List (Variable ℕ)) (z : Variable ℕ) → holds (chosen fs ys) z ≡ true → holds ys z ≡ true
chosen_held [] ys z h = absurd (false≢true h)
chosen_held (true ∷ fs) [] z h = h
chosen_held (false ∷ fs) [] z h = h
chosen_held (true ∷ fs) (y ∷ ys) z h = go (same_numbered y z) h (chosen_held fs ys z)
  where
    go : (b : Bool) → (b || holds (chosen fs ys) z) ≡ true → (holds (chosen fs ys) z ≡ true → holds ys z ≡ true) → (b || holds ys z) ≡ true
    go true e r = refl
    go false e r = r e
chosen_held (false ∷ fs) (y ∷ ys) z h = go (same_numbered y z) (chosen_held fs ys z h)
  where
    go : (b : Bool) → holds ys z ≡ true → (b || holds ys z) ≡ true
    go true e = refl
    go false e = e

exists-enter : (zs : List (Variable ℕ)) (y : Variable ℕ) (W : Bare) → ((z : Variable ℕ) → holds zs z ≡ true → same_numbered y z ≡ false) → exists_over_all zs (enter zero y W) ≡ enter zero y (exists_over_all zs W)
exists-enter [] y W n = refl
exists-enter (z ∷ zs) y W n =
    ap (λ F. for_some z.type tt (close zero (variable z) F)) (exists-enter zs y W (λ v h. n v (holds_behind (z ∷ []) zs v h)))
    ∙ ap (for_some z.type tt) (close-enter_other zero zero y z (exists_over_all zs W) (omega arith) (n z (holds_first z zs)))

exists_fresh : (zs : List (Variable ℕ)) (y : Variable ℕ) (W : Bare) → occurs y W ≡ false → occurs y (exists_over_all zs W) ≡ false
exists_fresh [] y W n = n
exists_fresh (z ∷ zs) y W n =
    ap (λ l. holds l y) (append-nil (variables (close zero (variable z) (exists_over_all zs W))))
    ∙ false_from_ne_true (occurs y (close zero (variable z) (exists_over_all zs W))) (λ e.
    false≢true (sym (exists_fresh zs y W n) ∙ contains_holds (variables (exists_over_all zs W)) y (variables-close zero (variable z) (exists_over_all zs W) y (holds_contains (variables (close zero (variable z) (exists_over_all zs W))) y e)).0))

pub exists_chosen : (fs : List Bool) (ys : List (Variable ℕ)) (N : Bare) → AreDifferent ys → AreFresh ys N → length fs ≡ length ys → exists_over_all (chosen fs ys) (entered ys N) ≡ mixed fs ys N
exists_chosen [] [] N d f l = refl
exists_chosen [] (y ∷ ys) N d f l = absurd (omega (arith, l))
exists_chosen (c ∷ fs) [] N d f l = absurd (omega (arith, l))
exists_chosen (true ∷ fs) (y ∷ ys) N d f l =
    ap (λ F. for_some y.type tt (close zero (variable y) F)) (exists-enter (chosen fs ys) y (entered ys N) (λ z h. others_differ y z ys d.0 (chosen_held fs ys z h)))
    ∙ ap (for_some y.type tt) (close-enter zero y (exists_over_all (chosen fs ys) (entered ys N)) (exists_fresh (chosen fs ys) y (entered ys N) (first_fresh y ys N d.0 f)))
    ∙ ap (for_some y.type tt) (exists_chosen fs ys N d.1 (others_fresh y ys N f) (omega (arith, l)))
exists_chosen (false ∷ fs) (y ∷ ys) N d f l =
    exists-enter (chosen fs ys) y (entered ys N) (λ z h. others_differ y z ys d.0 (chosen_held fs ys z h))
    ∙ ap (enter zero y) (exists_chosen fs ys N d.1 (others_fresh y ys N f) (omega (arith, l)))

-- WHAT OWN FORMS, PUT IN, MAKE
module _ {Hint : Type 0} (x : Hint) where
  abbrev pub openings : List Bool → List (Variable ℕ) → List (Option (Term ℕ Hint))
  openings (true ∷ fs) (y ∷ ys) = None ∷ openings fs ys
  openings (false ∷ fs) (y ∷ ys) = Some (own x y) ∷ openings fs ys
  openings _ _ = []

  abbrev pub owns : List (Variable ℕ) → List (Option (Term ℕ Hint))
  owns ys = map (λ y. Some (own x y)) ys

module _ (sg : Signature) where
  pub entered_typed : {Hint H : Type 0} (bs : List (Cell Hint)) (ys : List (Variable ℕ)) → Matches bs ys → {G : List Ty} {D : Ty} (t : Term ℕ H) → HasType sg (context_of bs G) t D → HasType sg G (entered ys t) D
  entered_typed [] [] m t d = d
  entered_typed [] (y ∷ ys) m t d = absurd m
  entered_typed (b ∷ bs) [] m t d = absurd m
  entered_typed (b ∷ bs) (y ∷ ys) m t d = enter_typed sg y m.0 here (entered_typed bs ys m.1 t d)

  mixed_typed : {Hint : Type 0} (bs : List (Cell Hint)) (ys : List (Variable ℕ)) → Matches bs ys → (fs : List Bool) {G : List Ty} (N : Bare) → length fs ≡ length ys → HasType sg (context_of bs G) N prop → HasType sg G (mixed fs ys N) prop
  mixed_typed [] [] m [] N l d = d
  mixed_typed [] [] m (c ∷ fs) N l d = absurd (omega (arith, l))
  mixed_typed [] (y ∷ ys) m fs N l d = absurd m
  mixed_typed (b ∷ bs) [] m fs N l d = absurd m
  mixed_typed (b ∷ bs) (y ∷ ys) m [] N l d = absurd (omega (arith, l))
  mixed_typed (b ∷ bs) (y ∷ ys) m (true ∷ fs) {G = G} N l d =
      typed_spine refl (take_term (typed_lam (subst (λ A. HasType sg (A ∷ G) (mixed fs ys N) prop) (sym m.0) (mixed_typed bs ys m.1 fs N (omega (arith, l)) d))) take_none)
  mixed_typed (b ∷ bs) (y ∷ ys) m (false ∷ fs) N l d = enter_typed sg y m.0 here (mixed_typed bs ys m.1 fs N (omega (arith, l)) d)

  module _ {Hint : Type 0} (x : Hint) where
    -- one of them
    put_own : (b : Cell Hint) (y : Variable ℕ) → y.type ≡ b.type → (k : ℕ) {G H : List Ty} {D : Ty} → Insert k b.type G H → (t : Term ℕ Hint) → HasType sg H t D → occurs y (forget t) ≡ false
        → forget (substitute b.type (own x y) k t) ≡ enter k y (forget t)
    put_own b y e k {G = G} {H = H} i t d n =
        translate-substitute (λ v. v) (λ h. tt) b.type (own x y) k t
        ∙ ap (λ u. substitute b.type u k (forget t)) (forget-own x y)
        ∙ ap (λ A. substitute A (bare_own y) k (forget t)) (sym e)
        ∙ substitute-enter sg y (subst (λ A. Insert k A G H) (sym e) i) (translate_typed sg (λ v. v) (λ h. tt) d) n

    pub filled_mixed : (bs : List (Cell Hint)) (ys : List (Variable ℕ)) → Matches bs ys → AreDifferent ys → (fs : List Bool) → length fs ≡ length ys → {G : List Ty} (N : Term ℕ Hint) → HasType sg (context_of bs G) N prop → AreFresh ys (forget N)
        → (HasType sg G (closed_with bs (openings x fs ys) N) prop) × (forget (closed_with bs (openings x fs ys) N) ≡ mixed fs ys (forget N))
    filled_mixed [] [] m df [] l N d f = (d, refl)
    filled_mixed [] [] m df (c ∷ fs) l N d f = absurd (omega (arith, l))
    filled_mixed [] (y ∷ ys) m df fs l N d f = absurd m
    filled_mixed (b ∷ bs) [] m df fs l N d f = absurd m
    filled_mixed (b ∷ bs) (y ∷ ys) m df [] l N d f = absurd (omega (arith, l))
    filled_mixed (b ∷ bs) (y ∷ ys) m df (true ∷ fs) l {G = G} N d f =
        let rest = filled_mixed bs ys m.1 df.1 fs (omega (arith, l)) {G = b.type ∷ G} N d (others_fresh y ys (forget N) f) in
        (typed_spine refl (take_term (typed_lam rest.0) take_none), ap (λ F. for_some b.type tt F) rest.1 ∙ ap (λ A. for_some A tt (mixed fs ys (forget N))) (sym m.0))
    filled_mixed (b ∷ bs) (y ∷ ys) m df (false ∷ fs) l {G = G} N d f =
        let rest = filled_mixed bs ys m.1 df.1 fs (omega (arith, l)) {G = b.type ∷ G} N d (others_fresh y ys (forget N) f) in
        let own_typed : HasType sg [] (own x y) b.type = subst (HasType sg [] (own x y)) m.0 (expansion_typed sg x y.type [] (variable y) refl) in
        let fresh : occurs y (forget (closed_with bs (openings x fs ys) N)) ≡ false = ap (occurs y) rest.1 ∙ mixed_fresh fs ys (forget N) (f y (holds_first y ys)) df.0 in
        (substitute_typed sg (closed_typed sg G own_typed) here rest.0, put_own b y m.0 zero here (closed_with bs (openings x fs ys) N) rest.0 fresh ∙ ap (enter zero y) rest.1)
      where
        mixed_fresh : (fs : List Bool) (zs : List (Variable ℕ)) (N : Bare) → occurs y N ≡ false → holds zs y ≡ false → occurs y (mixed fs zs N) ≡ false
        mixed_fresh [] zs N n h = n
        mixed_fresh (true ∷ gs) [] N n h = n
        mixed_fresh (false ∷ gs) [] N n h = n
        mixed_fresh (true ∷ gs) (z ∷ zs) N n h = ap (λ l. holds l y) (append-nil (variables (mixed gs zs N))) ∙ mixed_fresh gs zs N n (or_parts (same_numbered z y) (holds zs y) h).1
        mixed_fresh (false ∷ gs) (z ∷ zs) N n h =
            let parts = or_parts (same_numbered z y) (holds zs y) h in
            occurs-enter_other zero z y (mixed gs zs N) parts.0 ∙ mixed_fresh gs zs N n parts.1

    pub filled_entered : (bs : List (Cell Hint)) (ys : List (Variable ℕ)) → Matches bs ys → AreDifferent ys → {G : List Ty} {D : Ty} (t : Term ℕ Hint) → HasType sg (context_of bs G) t D → AreFresh ys (forget t)
        → (HasType sg G (closed_with bs (owns x ys) t) D) × (forget (closed_with bs (owns x ys) t) ≡ entered ys (forget t))
    filled_entered [] [] m df t d f = (d, refl)
    filled_entered [] (y ∷ ys) m df t d f = absurd m
    filled_entered (b ∷ bs) [] m df t d f = absurd m
    filled_entered (b ∷ bs) (y ∷ ys) m df {G = G} t d f =
        let rest = filled_entered bs ys m.1 df.1 {G = b.type ∷ G} t d (others_fresh y ys (forget t) f) in
        let own_typed : HasType sg [] (own x y) b.type = subst (HasType sg [] (own x y)) m.0 (expansion_typed sg x y.type [] (variable y) refl) in
        let fresh : occurs y (forget (closed_with bs (owns x ys) t)) ≡ false = ap (occurs y) rest.1 ∙ first_fresh y ys (forget t) df.0 f in
        (substitute_typed sg (closed_typed sg G own_typed) here rest.0, put_own b y m.0 zero here (closed_with bs (owns x ys) t) rest.0 fresh ∙ ap (enter zero y) rest.1)

    -- the same one after another, the outermost first
    abbrev pub under_binders : List (Cell Hint) → Term ℕ Hint → Term ℕ Hint
    under_binders [] t = t
    under_binders (c ∷ cs) t = lam c.type c.hint (under_binders cs t)

    deep : {A : Ty} (bs : List (Cell Hint)) {k : ℕ} {G H : List Ty} → Insert k A G H → Insert (length bs + k) A (context_of bs G) (context_of bs H)
    deep {A = A} [] {k = k} {G = G} {H = H} i = subst (λ n. Insert n A G H) (let e : k ≡ 0 + k = omega arith in e) i
    deep {A = A} (b ∷ bs) {k = k} {G = G} {H = H} i = subst (λ n. Insert n A (context_of bs (b.type ∷ G)) (context_of bs (b.type ∷ H))) (let e : length bs + suc k ≡ suc (length bs) + k = omega arith in e) (deep bs (there i))

    under-substitute : (A : Ty) (u : Term ℕ Hint) → ((j : ℕ) → shift j u ≡ u) → (bs : List (Cell Hint)) (k : ℕ) (t : Term ℕ Hint) → substitute A u k (under_binders bs t) ≡ under_binders bs (substitute A u (length bs + k) t)
    under-substitute A u c [] k t = ap (λ n. substitute A u n t) (let e : k ≡ 0 + k = omega arith in e)
    under-substitute A u c (b ∷ bs) k t =
        ap (lam b.type b.hint) (ap (λ w. substitute A w (suc k) (under_binders bs t)) (c zero) ∙ under-substitute A u c bs (suc k) t ∙ ap (λ n. under_binders bs (substitute A u n t)) (let e : length bs + suc k ≡ suc (length bs) + k = omega arith in e))

    pub put_in_turn : (bs : List (Cell Hint)) (ys : List (Variable ℕ)) → Matches bs ys → AreDifferent ys → (G : List Ty) {D : Ty} (t : Term ℕ Hint) → HasType sg (context_of bs G) t D → AreFresh ys (forget t)
        → forget (instance_by_all (under_binders bs t) (map (own x) ys)) ≡ entered ys (forget t)
    put_in_turn [] [] m df G t d f = refl
    put_in_turn [] (y ∷ ys) m df G t d f = absurd m
    put_in_turn (b ∷ bs) [] m df G t d f = absurd m
    put_in_turn (b ∷ bs) (y ∷ ys) m df G t d f =
        let own_typed : HasType sg [] (own x y) b.type = subst (HasType sg [] (own x y)) m.0 (expansion_typed sg x y.type [] (variable y) refl) in
        let unmoved : (j : ℕ) → shift j (own x y) ≡ own x y = λ j. let short = closed_reach sg own_typed in shift-short (own x y) j (omega (arith, short)) in
        let deeper : Insert (length bs + 0) b.type (context_of bs G) (context_of bs (b.type ∷ G)) = deep bs here in
        let one : forget (substitute b.type (own x y) (length bs + 0) t) ≡ enter (length bs + 0) y (forget t) = put_own b y m.0 (length bs + 0) deeper t d (f y (holds_first y ys)) in
        let same_length : length bs + 0 ≡ length ys + 0 = ap (λ n. n + 0) (sym (lengths bs ys m.1)) in
        ap (λ w. forget (instance_by_all w (map (own x) ys))) (under-substitute b.type (own x y) unmoved bs zero t)
        ∙ put_in_turn bs ys m.1 df.1 G (substitute b.type (own x y) (length bs + 0) t) (substitute_typed sg (closed_typed sg (context_of bs G) own_typed) deeper d)
        (λ z h. ap (occurs z) one ∙ occurs-enter_other (length bs + 0) y z (forget t) (others_differ y z ys df.0 h) ∙ others_fresh y ys (forget t) f z h)
        ∙ ap (entered ys) (one ∙ ap (λ n. enter n y (forget t)) same_length)
        ∙ entered-enter ys zero y (forget t)
      where
        lengths : (bs : List (Cell Hint)) (ys : List (Variable ℕ)) → Matches bs ys → length ys ≡ length bs
        lengths [] [] m = refl
        lengths [] (z ∷ zs) m = absurd m
        lengths (c ∷ cs) [] m = absurd m
        lengths (c ∷ cs) (z ∷ zs) m = ap suc (lengths cs zs m.1)
