-- A goal is carried over: new variables stand for cells, and then the bindings are put in.
use Rattle.std.specs.List.{All}
use Rattle.std.specs.Prelude.{AllPairs, filter, is_none}
use Rattle.std.proofs.Common.{◌≡◌, ◌≢◌, ◌<◌, ◌≤◌, List, [], ◌∷◌, ◌++◌, map, length, get_or, Bool, true, false, cond, Option, Some, None, refl, ◌∙◌, ap, subst, arith}
use Rattle.std.proofs.lemmas.List.Elements.{All-nil, All-cons, All-head, All-tail, All-map, All-filter, All-weaker, filter-append}
use Rattle.std.proofs.lemmas.List.Kept.{AllPairs-cons}
use Rattle.ab_term.specs.Variables.{one_by_one}
use Rattle.ab_term.specs.Sameness.{same_number}
use Rattle.ab_term.proofs.InOrder.{one_by_one-append}
use Rattle.ab_term.proofs.Lists.{AllPairs-none, AllPairs-parts}
use Rattle.ab_norm.specs.ab_store.specs.declared.node.TermId.{TermId}
use Rattle.ab_norm.specs.ab_store.specs.declared.node.CellId.{CellId}
use Rattle.ab_term.specs.Terms.{Read}
use Rattle.ab_norm.specs.ab_store.specs.Trees.{Contents, HoldsCell}
use Rattle.ab_norm.specs.ab_store.specs.Reading.{binding_of}
use Rattle.ab_norm.specs.ab_store.specs.Bindings.{IsUnbound}
use Rattle.ab_norm.specs.ab_store.proofs.Kept.{unbound_above}
use Rattle.ab_unify.specs.Problem.{cell_read}
use Rattle.ab_formulas.specs.Sequents.{Variable, Hypothesis, Sequent}
use Rattle.ab_logic.specs.Worlds.{variable_of, declarations_of}
use Rattle.ab_logic.specs.SequentReadings.{sequent_of, HoldsSequent}
use Rattle.ab_formulas.specs.NewNames.{IsNamedFor}
use Rattle.ab_logic.specs.declared.world.World.{World}
use Rattle.ab_logic.specs.declared.sequent.Sequent.{Sequent as Kept}
use Rattle.ab_theory.specs.Equations.{Named, renaming, changed}
use Rattle.ab_equations.specs.Meanwhile.{IsMeanwhile, is_left, unbound_of, bound_in, put_in, StandForAll, IsPutIn, IsCarried}
use Rattle.ab_theory.proofs.Renaming.{renamed_numbers}
use Rattle.ab_equations.proofs.NewVariables.{bindings_within}
use Rattle.ab_equations.proofs.PuttingIn.{left_variables}

-- what passes
passes : {X : Type 0} (p : X → Bool) (P : X → Type 0) → ((x : X) → p x ≡ true → P x) → (xs : List X) → All P (filter p xs)
passes p P good [] = All-nil P
passes p P good (x ∷ xs) = go (p x) refl (passes p P good xs)
  where
    go : (b : Bool) → p x ≡ b → All P (filter p xs) → All P (cond b (x ∷ filter p xs) (filter p xs))
    go true e rest = All-cons P x (filter p xs) (good x e) rest
    go false e rest = rest

is_none_yes : (o : Option TermId) → is_none o ≡ true → o ≡ None
is_none_yes None e = refl
is_none_yes (Some t) e = let clash : false ≡ true = e in absurd (cc)

pub unbound_all : (s : Contents) (cs : List CellId) → All (IsUnbound s) (unbound_of s cs)
unbound_all s cs = passes (λ c. is_none (binding_of s c)) (IsUnbound s) (λ c. is_none_yes (binding_of s c)) cs

pub pairs_pass : {X : Type 0} (p : X → Bool) (R : X → X → Type 0) (xs : List X) → AllPairs R xs → AllPairs R (filter p xs)
pairs_pass p R [] all = AllPairs-none R
pairs_pass p R (x ∷ xs) all = go (p x) (AllPairs-parts R x xs all).0 (pairs_pass p R xs (AllPairs-parts R x xs all).1)
  where
    go : (b : Bool) → All (R x) xs → AllPairs R (filter p xs) → AllPairs R (cond b (x ∷ filter p xs) (filter p xs))
    go true first rest = AllPairs-cons R x (filter p xs) (All-filter p (R x) xs first) rest
    go false first rest = rest

alike : {X : Type 0} (p q : X → Bool) (xs : List X) → All (λ x. p x ≡ q x) xs → filter p xs ≡ filter q xs
alike p q [] all = refl
alike p q (x ∷ xs) all =
    ap (λ b. cond b (x ∷ filter p xs) (filter p xs)) (All-head (λ x. p x ≡ q x) x xs all)
    ∙ ap (λ l. cond (q x) (x ∷ l) l) (alike p q xs (All-tail (λ x. p x ≡ q x) x xs all))

whole : {X : Type 0} (p : X → Bool) (xs : List X) → All (λ x. p x ≡ true) xs → filter p xs ≡ xs
whole p [] all = refl
whole p (x ∷ xs) all =
    ap (λ b. cond b (x ∷ filter p xs) (filter p xs)) (All-head (λ x. p x ≡ true) x xs all)
    ∙ ap (λ l. x ∷ l) (whole p xs (All-tail (λ x. p x ≡ true) x xs all))

-- changes that are the same
abbrev with : (Read → Read) → List Hypothesis → List Hypothesis
with f hs = map (λ (h : Hypothesis). record { name = h.name; formula = f h.formula }) hs

same_with : (f g : Read → Read) → ((F : Read) → f F ≡ g F) → (hs : List Hypothesis) → with f hs ≡ with g hs
same_with f g same [] = refl
same_with f g same (h ∷ hs) =
    let name : Read → Hypothesis = λ F. record { name = h.name; formula = F } in
    ap (λ F. name F ∷ with f hs) (same h.formula) ∙ ap (λ l. name (g h.formula) ∷ l) (same_with f g same hs)

same_changed : (f g : Read → Read) → ((F : Read) → f F ≡ g F) → (xs : List Variable) (s : Sequent) → changed f xs s ≡ changed g xs s
same_changed f g same xs s =
    ap (λ l. record { variables = xs; hypotheses = l; conclusion = f s.conclusion; counter = s.counter }) (same_with f g same s.hypotheses)
    ∙ ap (λ F. record { variables = xs; hypotheses = with g s.hypotheses; conclusion = F; counter = s.counter }) (same s.conclusion)

module _ (w v u : World) (made : List CellId) (s k g : Kept) (is : IsMeanwhile w) (held : HoldsSequent w s) (there : All (HoldsCell w.store) made) (apart : All (λ (c : CellId). All (λ (d : CellId). d.0 < c.0) s.variables) made)
    (stand : StandForAll w (map (variable_of w) (unbound_of w.store made)) s v k) (put : IsPutIn v k u g) (types : u.types ≡ v.types) (cells : u.store.cells ≡ v.store.cells) where
  abbrev xs : List Variable
  xs = map (variable_of w) (unbound_of w.store made)

  -- the goal's variables are bound as before
  old_stays : (d : CellId) → All (λ (c : CellId). d.0 < c.0) made → binding_of v.store d ≡ binding_of w.store d
  old_stays d low =
      stand.others d
      (All-map (λ (x : Variable). d.0 ≢ x.number) (variable_of w) (unbound_of w.store made)
      (All-filter (λ c. is_none (binding_of w.store c)) (λ (c : CellId). d.0 ≢ c.0) made
      (All-weaker (λ (c : CellId). d.0 < c.0) (λ (c : CellId). d.0 ≢ c.0) (λ c less same. absurd (omega (arith, less, same))) made low)))

  first : All (λ (x : Variable). is_left v.store x ≡ is_left w.store x) (sequent_of w s).variables
  first =
      All-map (λ (x : Variable). is_left v.store x ≡ is_left w.store x) (variable_of w) s.variables
      (λ i e l. ap is_none (old_stays (get_or s.variables i e)
      (All-weaker (λ (c : CellId). All (λ (d : CellId). d.0 < c.0) s.variables) (λ (c : CellId). (get_or s.variables i e).0 < c.0) (λ c low. low i e l) made apart)))

  -- and those that are new are unbound
  second : All (λ (y : Variable). is_left v.store y ≡ true) stand.new
  second =
      All-weaker (λ (y : Variable). length w.store.cells ≤ y.number) (λ (y : Variable). is_left v.store y ≡ true)
      (λ y high.
      ap is_none
      (stand.others (record { 0 = y.number })
      (All-map (λ (x : Variable). y.number ≢ x.number) (variable_of w) (unbound_of w.store made)
      (All-filter (λ c. is_none (binding_of w.store c)) (λ (c : CellId). y.number ≢ c.0) made
      (All-weaker (HoldsCell w.store) (λ (c : CellId). y.number ≢ c.0) (λ c low same. absurd (omega (arith, low, high, same))) made there)))
      ∙ unbound_above (length w.store.nodes) (length w.store.cells) w.store.bindings (record { 0 = y.number }) (bindings_within w.types w.store is.typed) high))
      stand.new
      (renamed_numbers (IsNamedFor (declarations_of w)) (sequent_of w s) (length w.store.cells) xs stand.new stand.named).0

  pub is_carried : IsCarried w made s u g
  is_carried =
      let S = sequent_of w s in
      let ys = stand.new in
      let zs = filter (is_left w.store) (map (variable_of w) made) in
      let listed : xs ≡ zs = left_variables w w.store made in
      let both : (ps : List Variable) → Read → Read = λ ps F. one_by_one same_number (renaming ps ys) (put_in w F) in
      let left : filter (is_left v.store) (S.variables ++ ys) ≡ filter (is_left w.store) S.variables ++ ys =
      filter-append (is_left v.store) S.variables ys
      ∙ ap (λ l. l ++ filter (is_left v.store) ys) (alike (is_left v.store) (is_left w.store) S.variables first)
      ∙ ap (λ l. filter (is_left w.store) S.variables ++ l) (whole (is_left v.store) ys second) in (
        ys,
        subst (λ ps. Named (IsNamedFor (declarations_of w)) S (length w.store.cells) ps ys) listed stand.named,
        put
            ∙ ap (λ q. changed (put_in v) (filter (is_left v.store) q.variables) q) stand.goal
            ∙ ap (λ l. changed (put_in v) l S) left
            ∙ ap (λ ps. changed (λ F. one_by_one same_number ps F) (filter (is_left w.store) S.variables ++ ys) S) stand.pairs
            ∙ same_changed (λ F. one_by_one same_number (bound_in w ++ renaming xs ys) F) (both xs) (λ F. one_by_one-append same_number (bound_in w) (renaming xs ys) F) (filter (is_left w.store) S.variables ++ ys) S
            ∙ ap (λ ps. changed (both ps) (filter (is_left w.store) S.variables ++ ys) S) listed,
        ap (λ cs. map (cell_read u.types) cs) cells ∙ ap (λ T. map (cell_read T) v.store.cells) types ∙ stand.cells,
      )
