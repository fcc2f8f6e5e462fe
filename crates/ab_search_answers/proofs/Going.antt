-- HOW A SEARCH GOES ON by a way: each of a goal's ways is of some kind, and there is a way to each answer among the leaves.
use Rattle.std.proofs.Common.{◌≡◌, ◌⊎◌, inl, inr, ℕ, zero, suc, List, [], ◌∷◌, ◌++◌, Bool, true, false, cond, Option, Some, None, option_map, map, refl, sym, ◌∙◌, ap, subst}
use Rattle.std.specs.Prelude.{Contains, slice_get}
use Rattle.std.proofs.lemmas.List.Elements.{Contains-append_cases}
use Rattle.std.proofs.lemmas.Option.{slice_get-map}
use Rattle.ab_term.specs.Terms.{Read}
use Rattle.ab_term.specs.Variables.{Substitution, image, composition}
use Rattle.ab_term.specs.Sameness.{same_number}
use Rattle.ab_term.proofs.Lists.{Contains-none, Contains-here, Contains-there, Contains-cases, Contains-from_map}
use Rattle.ab_unifiers.specs.Choices.{for_each, in_order}
use Rattle.ab_formulas.specs.Declarations.{Declarations}
use Rattle.ab_formulas.specs.Forms.{Form, truth, falsity, both, either, implies, equal, for_all, exists, nabla, marked, other, form_of}
use Rattle.ab_formulas.specs.Marks.{erased}
use Rattle.ab_term.specs.Names.{support, permute}
use Rattle.ab_theory.specs.Atoms.{Defined, defined_atom, choices_of}
use Rattle.ab_theory.specs.Judgements.{Judgement, as_judgement}
use Rattle.ab_search_trees.specs.Goals.{Goal, Now}
use Rattle.ab_search_trees.specs.Judgements.{is_blind, opened_once, search_rules}
use Rattle.ab_search_trees.specs.Maps.{maps}
use Rattle.ab_search_trees.specs.Tree.{Leaf, found, stuck_at, blind, unseen, Leaves, LeavesBy, LeavesOn, no_goal, a_goal, no_way, a_way, are_apart, are_stuck, dont_serve, go_on}
use Rattle.ab_search_trees.specs.Ways.{Way, leading_to, equating, unfolds, by_truth, by_hypothesis, by_form, by_layer, by_choice, by_definition, by_rule, by_judgement, ways}
use Rattle.ab_search_proofs.proofs.Unfolds.{place_of}
use Rattle.ab_search_layers.specs.Taken.{Taking}
use Rattle.ab_search_answers.specs.Followed.{in_the_end, GoesOn, as_truth, as_hypothesis, as_equality, as_both, as_left, as_right, as_assuming, as_constant, as_term, as_variable, as_layer, as_clause, as_rule, Follows, at_answer, by_way}

-- WHERE ONE IS that was gathered
gathered_from : {X Y : Type 0} (f : X → List Y) (xs : List X) (y : Y) → Contains (for_each f xs) y → (i : ℕ) × (x : X) × (slice_get xs i ≡ Some x) × Contains (f x) y
gathered_from f [] y m = absurd (Contains-none y m)
gathered_from f (x ∷ xs) y m = elim (Contains-append_cases (f x) (for_each f xs) y m) [ inl a ↦ (0, x, refl, a) | inr b ↦ (let r = gathered_from f xs y b in (suc r.0, r.1, r.2, r.3)) ]

nothing_at : {X : Type 0} (i : ℕ) (x : X) → slice_get [] i ≡ Some x → ⊥
nothing_at zero x e = absurd (cc)
nothing_at (suc i) x e = absurd (cc)

-- what was mapped there
mapped_from : {X Y : Type 0} (f : X → Y) (xs : List X) (i : ℕ) (y : Y) → slice_get (map f xs) i ≡ Some y → (x : X) × (slice_get xs i ≡ Some x)
mapped_from f xs i y e = go (slice_get xs i) refl
  where
    go : (o : Option _) → slice_get xs i ≡ o → (x : _) × (slice_get xs i ≡ Some x)
    go None q = absurd (let bad : None ≡ Some y = sym (slice_get-map f xs i ∙ ap (option_map f) q) ∙ e in cc)
    go (Some x) q = (x, q)

module _ (D : Declarations) (now : Now) (g : Goal) (w : Way) where
  abbrev behind : List Way
  behind = (by_form D now g (form_of g.conclusion) ++ by_definition D now g g.depth (defined_atom D g.conclusion)) ++ by_judgement D now g g.depth (as_judgement g.conclusion)

  abbrev ByHypothesis : Type 0
  ByHypothesis = (i : ℕ) × (B : Read) × (slice_get g.hypotheses i ≡ Some B) × Contains (by_hypothesis D now g B) w

  -- of the first kinds, or of the last
  kinds : Contains (ways D now g) w → (Contains (by_truth D now g (form_of g.conclusion)) w ⊎ ByHypothesis) ⊎ ((is_blind now.flexible g.conclusion ≡ false) × Contains behind w)
  kinds m = elim (Contains-append_cases (by_truth D now g (form_of g.conclusion) ++ for_each (by_hypothesis D now g) g.hypotheses) (cond (is_blind now.flexible g.conclusion) [] behind) w m) [
    | inl a ↦ inl (elim (Contains-append_cases (by_truth D now g (form_of g.conclusion)) (for_each (by_hypothesis D now g) g.hypotheses) w a) [ inl b ↦ inl b | inr b ↦ inr (gathered_from (by_hypothesis D now g) g.hypotheses w b) ])
    | inr a ↦ inr (go (is_blind now.flexible g.conclusion) refl a)
  ]
    where
      go : (b : Bool) → is_blind now.flexible g.conclusion ≡ b → Contains (cond b [] behind) w → (is_blind now.flexible g.conclusion ≡ false) × Contains behind w
      go true e c = absurd (Contains-none w c)
      go false e c = (e, c)

  -- WHERE THE SEARCH IS BLIND no way leaves a goal
  module _ (h : Goal) (hs : List Goal) (leaves : w.goals ≡ h ∷ hs) where
    none_by_truth : (X : Form) → Contains (by_truth D now g X) w → ⊥
    none_by_truth truth m = elim (Contains-cases (leading_to D now g []) [] w m) [ inl q ↦ (let bad : [] ≡ h ∷ hs = ap (λ (v : Way). v.goals) q ∙ leaves in absurd (cc)) | inr n ↦ Contains-none w n ]
    none_by_truth falsity m = Contains-none w m
    none_by_truth (both A B) m = Contains-none w m
    none_by_truth (either A B) m = Contains-none w m
    none_by_truth (implies A B) m = Contains-none w m
    none_by_truth (equal A v u) m = Contains-none w m
    none_by_truth (for_all A F) m = Contains-none w m
    none_by_truth (exists A F) m = Contains-none w m
    none_by_truth (nabla A F) m = Contains-none w m
    none_by_truth (marked i A) m = Contains-none w m
    none_by_truth other m = Contains-none w m

    none_by_hypothesis : (B : Read) → Contains (by_hypothesis D now g B) w → ⊥
    none_by_hypothesis B m =
        let from = Contains-from_map (λ ps. equating D now g (permute ps (erased B)) (erased g.conclusion) ((g.conclusion, B) ∷ [])) (maps (in_order (support B)) g.constants) w m in
        let bad : [] ≡ h ∷ hs = ap (λ (v : Way). v.goals) from.2 ∙ leaves in absurd (cc)

    pub seeing : Contains (ways D now g) w → is_blind now.flexible g.conclusion ≡ false
    seeing m = elim (kinds m) [
      | inl a ↦ elim a [ inl b ↦ absurd (none_by_truth (form_of g.conclusion) b) | inr b ↦ absurd (none_by_hypothesis b.1 b.3) ]
      | inr a ↦ a.0
    ]

  -- THE SEARCH GOES ON BY IT in some way
  module _ (r : Substitution ℕ (List ℕ)) where
    abbrev Some_way : Type 0
    Some_way = (k : Taking) × GoesOn D now g r w k

    by_variable_way : {A : _} {F : Read} → form_of g.conclusion ≡ for_all A F → (b : Bool) (v : Way) (i : ℕ) → slice_get (cond b (v ∷ []) []) i ≡ Some w → slice_get (by_form D now g (form_of g.conclusion)) i ≡ Some w → Some_way
    by_variable_way e true v zero at there = (_, as_variable e there)
    by_variable_way e true v (suc i) at there = absurd (nothing_at i w at)
    by_variable_way e false v i at there = absurd (nothing_at i w at)

    by_this_layer : form_of g.conclusion ≡ other → (n : ℕ) (o : Option Read) (i : ℕ) → slice_get (by_layer D now g n o) i ≡ Some w → slice_get (by_form D now g (form_of g.conclusion)) i ≡ Some w → Some_way
    by_this_layer e zero None i at there = absurd (nothing_at i w at)
    by_this_layer e zero (Some F) i at there = absurd (nothing_at i w at)
    by_this_layer e (suc n) None i at there = absurd (nothing_at i w at)
    by_this_layer e (suc n) (Some F) zero at there = (_, as_layer e there)
    by_this_layer e (suc n) (Some F) (suc i) at there = absurd (nothing_at i w at)

    by_this_form : (X : Form) → form_of g.conclusion ≡ X → (i : ℕ) → slice_get (by_form D now g X) i ≡ Some w → slice_get (by_form D now g (form_of g.conclusion)) i ≡ Some w → Some_way
    by_this_form (equal A v u) e zero at there = (_, as_equality e there)
    by_this_form (equal A v u) e (suc i) at there = absurd (nothing_at i w at)
    by_this_form (both A B) e zero at there = (_, as_both e there)
    by_this_form (both A B) e (suc i) at there = absurd (nothing_at i w at)
    by_this_form (either A B) e zero at there = (_, as_left e there)
    by_this_form (either A B) e (suc zero) at there = (_, as_right e there)
    by_this_form (either A B) e (suc (suc i)) at there = absurd (nothing_at i w at)
    by_this_form (implies A B) e zero at there = (_, as_assuming e there)
    by_this_form (implies A B) e (suc i) at there = absurd (nothing_at i w at)
    by_this_form (nabla A F) e zero at there = (_, as_constant e there)
    by_this_form (nabla A F) e (suc i) at there = absurd (nothing_at i w at)
    by_this_form (exists A F) e zero at there = (_, as_term e there)
    by_this_form (exists A F) e (suc i) at there = absurd (nothing_at i w at)
    by_this_form (for_all A F) e i at there = by_variable_way e g.untouched _ i at there
    by_this_form other e i at there = by_this_layer e g.layers (opened_once g.conclusion) i at there
    by_this_form truth e i at there = absurd (nothing_at i w at)
    by_this_form falsity e i at there = absurd (nothing_at i w at)
    by_this_form (marked m A) e i at there = absurd (nothing_at i w at)

    by_this_choice : (n i : ℕ) (o : Option Defined) → defined_atom D g.conclusion ≡ o → slice_get (by_definition D now g n o) i ≡ Some w → slice_get (by_definition D now g g.depth (defined_atom D g.conclusion)) i ≡ Some w → Some_way
    by_this_choice zero i None e at there = absurd (nothing_at i w at)
    by_this_choice zero i (Some d) e at there = absurd (nothing_at i w at)
    by_this_choice (suc n) i None e at there = absurd (nothing_at i w at)
    by_this_choice (suc n) i (Some d) e at there = go (unfolds d.sign) at
      where
        go : (b : Bool) → slice_get (cond b (map (by_choice D now g n d) (choices_of g.constants d)) []) i ≡ Some w → (k : Taking) × GoesOn D now g r w k
        go true at = let from = mapped_from (by_choice D now g n d) (choices_of g.constants d) i w at in (_, as_clause d from.0 i e from.1 there)
        go false at = absurd (nothing_at i w at)

    by_this_rule : (n i : ℕ) (o : Option Judgement) → as_judgement g.conclusion ≡ o → slice_get (by_judgement D now g n o) i ≡ Some w → slice_get (by_judgement D now g g.depth (as_judgement g.conclusion)) i ≡ Some w → Some_way
    by_this_rule zero i None e at there = absurd (nothing_at i w at)
    by_this_rule zero i (Some j) e at there = absurd (nothing_at i w at)
    by_this_rule (suc n) i None e at there = absurd (nothing_at i w at)
    by_this_rule (suc n) i (Some j) e at there = go (unfolds j.sign) at
      where
        go : (b : Bool) → slice_get (cond b (map (by_rule D now g n j) (search_rules D j)) []) i ≡ Some w → (k : Taking) × GoesOn D now g r w k
        go true at = let from = mapped_from (by_rule D now g n j) (search_rules D j) i w at in (_, as_rule j from.0 i e from.1 there)
        go false at = absurd (nothing_at i w at)

    of_last : Contains behind w → Some_way
    of_last m = elim (Contains-append_cases (by_form D now g (form_of g.conclusion) ++ by_definition D now g g.depth (defined_atom D g.conclusion)) (by_judgement D now g g.depth (as_judgement g.conclusion)) w m) [
      | inl a ↦ elim (Contains-append_cases (by_form D now g (form_of g.conclusion)) (by_definition D now g g.depth (defined_atom D g.conclusion)) w a) [
        | inl b ↦ (let p = place_of (by_form D now g (form_of g.conclusion)) w b in by_this_form (form_of g.conclusion) refl p.0 p.1 p.1)
        | inr b ↦ (let p = place_of (by_definition D now g g.depth (defined_atom D g.conclusion)) w b in by_this_choice g.depth p.0 (defined_atom D g.conclusion) refl p.1 p.1)
      ]
      | inr a ↦ (let p = place_of (by_judgement D now g g.depth (as_judgement g.conclusion)) w a in by_this_rule g.depth p.0 (as_judgement g.conclusion) refl p.1 p.1)
    ]

    pub goes_on : Contains (ways D now g) w → (k : Taking) × GoesOn D now g r w k
    goes_on m = elim (kinds m) [
      | inl a ↦ elim a [ inl b ↦ (_, as_truth b) | inr b ↦ (_, as_hypothesis b.0 b.1 b.2 b.3) ]
      | inr a ↦ of_last a.1
    ]

-- A WAY TO THE ANSWER
abbrev pub IsReached : Declarations → Now → Now → List Goal → Type 0
IsReached D last now gs = (n : Substitution ℕ (List ℕ)) × (es : List (Read × Taking)) × Follows D last now gs n es

module _ (D : Declarations) where
  never_blind : (b : Bool) (last : Now) → Contains (cond b (blind ∷ []) []) (found last) → ⊥
  never_blind true last m = elim (Contains-cases blind [] (found last) m) [ inl e ↦ absurd (cc) | inr n ↦ Contains-none (found last) n ]
  never_blind false last m = Contains-none (found last) m

  mutual
    pub reached : {now : Now} {gs : List Goal} {ls : List Leaf} → Leaves D now gs ls → (last : Now) → Contains ls (found last) → IsReached D last now gs
    reached (no_goal {now = now}) last m = elim (Contains-cases (found now) [] (found last) m) [
      | inl e ↦ (let same : now ≡ last = cc in subst (λ l. IsReached D l now []) same ([], [], at_answer))
      | inr n ↦ absurd (Contains-none (found last) n)
    ]
    reached (a_goal {now = now} {g = g} {ls = ls} p) last m = elim (Contains-append_cases ls (unseen now g) (found last) m) [
      | inl c ↦ by_some p (λ w i. i) last c
      | inr c ↦ absurd (never_blind (is_blind now.flexible g.conclusion) last c)
    ]

    by_some : {now : Now} {g : Goal} {gs : List Goal} {ws : List Way} {ls : List Leaf} → LeavesBy D now ws gs ls → ((w : Way) → Contains ws w → Contains (ways D now g) w) → (last : Now) → Contains ls (found last) → IsReached D last now (g ∷ gs)
    by_some no_way among last m = absurd (Contains-none (found last) m)
    by_some (a_way {w = w} {ws = ws} {ls = ls} {ms = ms} p r) among last m = elim (Contains-append_cases ls ms (found last) m) [
      | inl c ↦ by_one p (among w (Contains-here w ws)) last c
      | inr c ↦ by_some r (λ v i. among v (Contains-there w ws v i)) last c
    ]

    by_one : {now : Now} {g : Goal} {gs : List Goal} {w : Way} {ls : List Leaf} → LeavesOn D now w gs ls → Contains (ways D now g) w → (last : Now) → Contains ls (found last) → IsReached D last now (g ∷ gs)
    by_one (are_apart p) among last m = absurd (Contains-none (found last) m)
    by_one (are_stuck {i = i} p) among last m = elim (Contains-cases (stuck_at i) [] (found last) m) [ inl q ↦ absurd (cc) | inr n ↦ absurd (Contains-none (found last) n) ]
    by_one (dont_serve more q p n) among last m = absurd (Contains-none (found last) m)
    by_one {g = g} (go_on {now = now} {w = w} {gs = gs} more q p u l) among last m =
        let next = reached l last m in
        let kind = goes_on D now g w (in_the_end last q next.0) among in
        (composition same_number q next.0, (image same_number (in_the_end last q next.0) g.conclusion, kind.0) ∷ next.1, by_way w more q among p u kind.1 next.2)
