-- Flags for the names of a pattern: one more, and all.
use Rattle.std.proofs.Common.{◌≡◌, ◌↔◌, ℕ, zero, suc, ◌+◌, ◌<◌, ◌≤◌, max, min, List, [], ◌∷◌, ◌++◌, map, take, drop, length, get_or, Bool, true, false, cond, ◌⊎◌, inl, inr, refl, sym, ◌∙◌, ap, arith}
use Rattle.std.specs.List.{All}
use Rattle.std.proofs.lemmas.List.{append_assoc, append-nil, at_drop_more, drop_all, map-append, map_more}
use Rattle.std.proofs.lemmas.Bool.{false≢true, false_from_ne_true, cases_lt}
use Rattle.ab_norm.specs.ab_types.specs.Entries.{Table}
use Rattle.ab_norm.specs.ab_types.specs.Sound.{IsTable}
use Rattle.ab_norm.specs.ab_store.specs.declared.node.Head.{Head}
use Rattle.ab_norm.specs.ab_store.specs.Trees.{Contents, head_reading}
use Rattle.ab_norm.specs.ab_store.specs.Naming.{HeadIsTyped}
use Rattle.ab_term.specs.Terms as tree
use Rattle.ab_term.specs.Sameness.{same_head}
use Rattle.ab_term.specs.Abstraction.{among}
use Rattle.ab_term.proofs.Same.{same_head-Decides}
use Rattle.ab_patterns.proofs.Rules.{heads_differ}
use Rattle.ab_unifiers.specs.Patterns.{kept}
use Rattle.ab_unifiers.specs.Unification.{agreeing}

pub any_default : (xs : List Head) (i : ℕ) (d e : Head) → i < length xs → get_or xs i d ≡ get_or xs i e
any_default [] i d e l = absurd (omega arith)
any_default (x ∷ xs) zero d e l = refl
any_default (x ∷ xs) (suc i) d e l = any_default xs i d e (omega arith)

one_more : {X : Type 0} (old pushed l whole : List X) (b c : X) → pushed ≡ old ++ b ∷ [] → b ≡ c → old ++ c ∷ l ≡ whole → pushed ++ l ≡ whole
one_more old pushed l whole b c is same e = ap (λ k. k ++ l) is ∙ append_assoc old (b ∷ []) l ∙ ap (λ d. old ++ d ∷ l) same ∙ e

module _ (types : Table) (store : Contents) where
  pub equal_names : (h g : Head) → IsTable types → HeadIsTyped types h → HeadIsTyped types g → (b : Bool) → (b ≡ true) ↔ (h ≡ g) → b ≡ same_head (head_reading types store h) (head_reading types store g)
  equal_names h g ok th tg true d = sym ((same_head-Decides (head_reading types store h) (head_reading types store g)).1 (ap (head_reading types store) (d.0 refl)))
  equal_names h g ok th tg false d = sym (false_from_ne_true (same_head (head_reading types store h) (head_reading types store g)) (λ e. heads_differ types store h g ok th tg (λ q. false≢true (d.1 q)) ((same_head-Decides (head_reading types store h) (head_reading types store g)).0 e)))

  -- each of the lists has a name at the place that is the other's
  abbrev Agree : List Head → List Head → ℕ → Type 0
  Agree names others i = (i < length names) × (i < length others) × ((a b : Head) → get_or names i a ≡ get_or others i b)

  module _ (names others : List Head) (i : ℕ) (b : Bool) where
    abbrev reads : List Head → List (tree.Head ℕ)
    reads hs = map (head_reading types store) hs

    abbrev IsNext : Type 0
    IsNext = agreeing (reads (drop i names)) (reads (drop i others)) ≡ b ∷ agreeing (reads (drop (i + 1) names)) (reads (drop (i + 1) others))

    agreeing_at : IsTable types → Head → i < max (length names) (length others) → All (HeadIsTyped types) names → All (HeadIsTyped types) others → (b ≡ true) ↔ Agree names others i
        → (i < length names) ⊎ (length names ≤ i) → (i < length others) ⊎ (length others ≤ i) → IsNext
    agreeing_at ok d l tn to same (inl m) (inl n) =
        let g = get_or names i d in
        let h = get_or others i d in
        at_drop_more (λ xs. agreeing (reads xs) (reads (drop i others))) names i d m
        ∙ at_drop_more (λ xs. agreeing (reads (g ∷ drop (i + 1) names)) (reads xs)) others i d n
        ∙ ap (λ c. c ∷ agreeing (reads (drop (i + 1) names)) (reads (drop (i + 1) others)))
        (sym (equal_names g h ok (tn i d m) (to i d n) b (λ e. (same.0 e).2 d d, λ e. same.1 (m, n, λ x y. any_default names i x d m ∙ e ∙ any_default others i d y n))))
    agreeing_at ok d l tn to same (inl m) (inr n) =
        at_drop_more (λ xs. agreeing (reads xs) (reads (drop i others))) names i d m
        ∙ ap (λ xs. agreeing (reads (get_or names i d ∷ drop (i + 1) names)) (reads xs)) (drop_all i others n)
        ∙ ap (λ xs. false ∷ agreeing (reads (drop (i + 1) names)) (reads xs)) (sym (drop_all (i + 1) others (omega arith)))
        ∙ ap (λ c. c ∷ agreeing (reads (drop (i + 1) names)) (reads (drop (i + 1) others))) (sym (false_from_ne_true b (λ e. absurd (let there = same.0 e in omega (arith, there.1)))))
    agreeing_at ok d l tn to same (inr m) (inl n) =
        ap (λ xs. agreeing (reads xs) (reads (drop i others))) (drop_all i names m)
        ∙ at_drop_more (λ xs. agreeing [] (reads xs)) others i d n
        ∙ ap (λ xs. false ∷ agreeing (reads xs) (reads (drop (i + 1) others))) (sym (drop_all (i + 1) names (omega arith)))
        ∙ ap (λ c. c ∷ agreeing (reads (drop (i + 1) names)) (reads (drop (i + 1) others))) (sym (false_from_ne_true b (λ e. absurd (let there = same.0 e in omega (arith, there.0)))))
    agreeing_at ok d l tn to same (inr m) (inr n) = absurd (omega arith)

  pub agreeing_one : IsTable types → Head → (names others : List Head) (i : ℕ) → i < max (length names) (length others) → All (HeadIsTyped types) names → All (HeadIsTyped types) others
      → (b : Bool) → (b ≡ true) ↔ Agree names others i → (old pushed whole : List Bool) → pushed ≡ old ++ b ∷ []
      → old ++ agreeing (map (head_reading types store) (drop i names)) (map (head_reading types store) (drop i others)) ≡ whole
      → pushed ++ agreeing (map (head_reading types store) (drop (i + 1) names)) (map (head_reading types store) (drop (i + 1) others)) ≡ whole
  agreeing_one ok d names others i l tn to b same old pushed whole is so_far =
      one_more old pushed (agreeing (map (head_reading types store) (drop (i + 1) names)) (map (head_reading types store) (drop (i + 1) others))) whole b b is refl
      (ap (λ l. old ++ l) (sym (agreeing_at names others i b ok d l tn to same (cases_lt i (length names)) (cases_lt i (length others)))) ∙ so_far)

  pub agreeing_all : (names others : List Head) (i : ℕ) → length names ≤ i → length others ≤ i → (keep whole : List Bool)
      → keep ++ agreeing (map (head_reading types store) (drop i names)) (map (head_reading types store) (drop i others)) ≡ whole → keep ≡ whole
  agreeing_all names others i l m keep whole so_far =
      sym (ap (λ xs. keep ++ agreeing (map (head_reading types store) xs) (map (head_reading types store) (drop i others))) (drop_all i names l)
      ∙ ap (λ xs. keep ++ agreeing [] (map (head_reading types store) xs)) (drop_all i others m)
      ∙ append-nil keep)
      ∙ so_far

  pub common_one : (names : List Head) (others : List (tree.Head ℕ)) (i : ℕ) (d : Head) → i < length names
      → (b : Bool) → b ≡ among others (head_reading types store (get_or names i d)) → (old pushed : List Bool) → pushed ≡ old ++ b ∷ []
      → old ≡ map (among others) (map (head_reading types store) (take i names))
      → pushed ≡ map (among others) (map (head_reading types store) (take (i + 1) names))
  common_one names others i d l b same old pushed is so_far =
      is
      ∙ ap (λ k. k ++ b ∷ []) so_far
      ∙ ap (λ c. map (among others) (map (head_reading types store) (take i names)) ++ c ∷ []) same
      ∙ sym (ap (map (among others)) (map_more (head_reading types store) names i d l) ∙ map-append (among others) (map (head_reading types store) (take i names)) (head_reading types store (get_or names i d) ∷ []))

-- heads whose flag is set

pub one_ends : (i n m : ℕ) → min m n ≤ i → (n ≤ i) ⊎ (m ≤ i)
one_ends i n m l = go (cases_lt i n)
  where
    go : (i < n) ⊎ (n ≤ i) → (n ≤ i) ⊎ (m ≤ i)
    go (inl a) = inr (omega arith)
    go (inr b) = inl b

module _ (keep : List Bool) (heads : List Head) (i : ℕ) where
  abbrev left : List Head
  left = kept (drop i keep) (drop i heads)

  abbrev fewer : List Head
  fewer = kept (drop (i + 1) keep) (drop (i + 1) heads)

  kept_at : (b : Bool) (d : Head) → i < length keep → i < length heads → left ≡ cond (get_or keep i b) (get_or heads i d ∷ fewer) fewer
  kept_at b d l m =
      at_drop_more (λ bs. kept bs (drop i heads)) keep i b l
      ∙ at_drop_more (λ hs. kept (get_or keep i b ∷ drop (i + 1) keep) hs) heads i d m

  pub kept_one : (b : Bool) (d : Head) → i < length keep → i < length heads → get_or keep i b ≡ true → (old pushed whole : List Head) → pushed ≡ old ++ get_or heads i d ∷ []
      → old ++ left ≡ whole → pushed ++ fewer ≡ whole
  kept_one b d l m set old pushed whole is so_far =
      one_more old pushed fewer whole (get_or heads i d) (get_or heads i d) is refl
      (ap (λ l. old ++ l) (sym (kept_at b d l m ∙ ap (λ c. cond c (get_or heads i d ∷ fewer) fewer) set)) ∙ so_far)

  pub kept_none : (b : Bool) (d : Head) → i < length keep → i < length heads → get_or keep i b ≡ false → (old whole : List Head) → old ++ left ≡ whole → old ++ fewer ≡ whole
  kept_none b d l m clear old whole so_far = ap (λ l. old ++ l) (sym (kept_at b d l m ∙ ap (λ c. cond c (get_or heads i d ∷ fewer) fewer) clear)) ∙ so_far

  none_kept : (bs : List Bool) → kept {X = Head} bs [] ≡ []
  none_kept [] = refl
  none_kept (b ∷ bs) = refl

  none_left : (length keep ≤ i) ⊎ (length heads ≤ i) → left ≡ []
  none_left (inl l) = ap (λ bs. kept bs (drop i heads)) (drop_all i keep l)
  none_left (inr l) = ap (λ hs. kept (drop i keep) hs) (drop_all i heads l) ∙ none_kept (drop i keep)

  pub kept_all : (length keep ≤ i) ⊎ (length heads ≤ i) → (old whole : List Head) → old ++ left ≡ whole → old ≡ whole
  kept_all l old whole so_far = sym (ap (λ l. old ++ l) (none_left l) ∙ append-nil old) ∙ so_far
