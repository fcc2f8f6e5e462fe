-- Goals that no binding changes, and a list with such an end.
use Rattle.std.specs.List.{All}
use Rattle.std.proofs.Common.{◌≡◌, ◌⊎◌, inl, inr, ℕ, ◌+◌, ◌<◌, ◌≤◌, List, [], ◌∷◌, ◌++◌, map, take, drop, length, get_or, suc, zero, refl, sym, ◌∙◌, ap, subst, append_assoc, arith}
use Rattle.std.proofs.lemmas.List.{map-append, take-append-drop, get_or-drop, length-drop}
use Rattle.std.proofs.lemmas.List.Elements.{All-append, All-drop}
use Rattle.ab_term.specs.Terms.{Read}
use Rattle.ab_term.specs.Sameness.{same_number}
use Rattle.ab_term.specs.Variables.{one_by_one}
use Rattle.ab_norm.specs.ab_types.specs.Entries.{Table}
use Rattle.ab_norm.specs.ab_store.specs.declared.node.Binding.{Binding}
use Rattle.ab_norm.specs.ab_store.specs.declared.node.TermId.{TermId}
use Rattle.ab_norm.specs.ab_store.specs.Trees.{Contents, tree_of}
use Rattle.ab_norm.specs.ab_store.specs.Reading.{reading, cell_variable}
use Rattle.ab_norm.specs.ab_store.specs.Naming.{IsTypedBy}
use Rattle.ab_norm.specs.NodeGrowth.{AddsTypedTerms}
use Rattle.ab_norm.proofs.Frame.{typed_none}
use Rattle.ab_instances.specs.ListReadings.{names_read}
use Rattle.ab_logic.proofs.Growing.{map_same}
use Rattle.ab_search_ways.specs.GoalReadings.{goal_by, IsTypedGoal}
use Rattle.ab_search_ways.specs.GoalsLeft.{IsResolved, IsUntouched}
use Rattle.ab_search_ways.specs.declared.goal.Goal.{Goal}
use Rattle.ab_search_ways.proofs.Resolved.{plain_goal, same_goals, goals_kept}

module _ (types : Table) (store : Contents) where
  -- the term reads as its tree
  abbrev pub IsPlain : TermId → Type 0
  IsPlain t = reading types store t ≡ tree_of types store t

  pub plain_untouched : (g : Goal) → All IsPlain g.added.items → IsPlain g.conclusion → IsUntouched types store g
  plain_untouched g added conclusion before =
      ap (λ l. plain_goal (before ++ l) (reading types store g.conclusion) (names_read types g.constants.items) g) (map_same (reading types store) (tree_of types store) IsPlain (λ t e. e) g.added.items added)
      ∙ ap (λ F. plain_goal (before ++ map (tree_of types store) g.added.items) F (names_read types g.constants.items) g) conclusion

-- the goals of a list, the first of what is left of it, and what is left behind that
pub left_first : (gs left : List Goal) (i : ℕ) (g : Goal) (behind : List Goal) → left ≡ drop i gs → left ≡ g ∷ behind → (i < length gs) × (get_or gs i g ≡ g) × (behind ≡ drop (i + 1) gs)
left_first [] left zero g behind e f = absurd (cc)
left_first [] left (suc i) g behind e f = absurd (cc)
left_first (h ∷ gs) left zero g behind e f = (omega arith, cc, cc)
left_first (h ∷ gs) left (suc i) g behind e f =
    let r = left_first gs left i g behind e f in
    let next : suc (i + 1) ≡ suc i + 1 = omega arith in
    (let l = r.0 in omega (arith, l), r.1, r.2 ∙ ap (λ n. drop n (h ∷ gs)) next)

pub left_none : (gs left : List Goal) (i : ℕ) → left ≡ drop i gs → left ≡ [] → length gs ≤ i
left_none [] left i e f = omega arith
left_none (h ∷ gs) left zero e f = absurd (cc)
left_none (h ∷ gs) left (suc i) e f = let l = left_none gs left i e f in omega (arith, l)

-- one goal more
until : (i n : ℕ) → i < n + 1 → (i < n) ⊎ (i ≡ n)
until zero zero l = inr refl
until zero (suc n) l = inl (omega arith)
until (suc i) zero l = absurd (omega (arith, l))
until (suc i) (suc n) l = elim (until i n (omega (arith, l))) [ inl a ↦ inl (omega (arith, a)) | inr e ↦ inr (ap suc e) ]

same_there : (gs : List Goal) (n : ℕ) (d g : Goal) → n < length gs → get_or gs n d ≡ get_or gs n g
same_there [] n d g l = absurd (omega (arith, l))
same_there (h ∷ gs) zero d g l = refl
same_there (h ∷ gs) (suc n) d g l = same_there gs n d g (omega (arith, l))

pub one_more : (P : Goal → Type 0) (gs : List Goal) (count n next : ℕ) (g : Goal) → next ≡ n + 1 → n < length gs → get_or gs n g ≡ g → P g → ((i : ℕ) (d : Goal) → count ≤ i → i < n → P (get_or gs i d))
    → (i : ℕ) (d : Goal) → count ≤ i → i < next → P (get_or gs i d)
one_more P gs count n next g e l same p so i d from to = elim (until i n (omega (arith, to, e))) [
  | inl less ↦ so i d from less
  | inr at ↦ subst (λ m. P (get_or gs m d)) (sym at) (subst P (sym (same_there gs n d g l ∙ same)) p)
]

-- goals up to one are put in, and those behind it stay
module _ (types : Table) (s t : Contents) (typed : IsTypedBy types s) (adds : AddsTypedTerms types s t) (before goals done : List Goal) (i : ℕ) where
  pub resolved_end : All (IsTypedGoal types s) goals → All (IsUntouched types s) (drop i goals) → IsResolved types s t before (take i goals) done → IsResolved types s t before goals (done ++ drop i goals)
  resolved_end all plain so = record {
    reads = λ hs.
        map-append (goal_by (tree_of types t) types hs) done end
        ∙ ap (λ gs. gs ++ map (goal_by (tree_of types t) types hs) end) (so.reads hs)
        ∙ ap (λ gs. (map (goal_by (tree_of types s) types hs) before ++ map (goal_by (reading types s) types hs) (take i goals)) ++ gs)
        (same_goals types s s t (typed_none types s typed) adds hs end held ∙ map_same (goal_by (tree_of types s) types hs) (goal_by (reading types s) types hs) (IsUntouched types s) (λ g e. sym (e hs)) end plain)
        ∙ append_assoc (map (goal_by (tree_of types s) types hs) before) (map (goal_by (reading types s) types hs) (take i goals)) (map (goal_by (reading types s) types hs) end)
        ∙ ap (λ gs. map (goal_by (tree_of types s) types hs) before ++ gs) (sym (map-append (goal_by (reading types s) types hs) (take i goals) end) ∙ ap (map (goal_by (reading types s) types hs)) (take-append-drop i goals));
    typed = All-append (IsTypedGoal types t) done end so.typed (goals_kept types s s t (typed_none types s typed) adds end held);
    names =
        map-append (λ (g : Goal). g.constants.items) done end
        ∙ ap (λ ns. ns ++ map (λ (g : Goal). g.constants.items) end) so.names
        ∙ sym (map-append (λ (g : Goal). g.constants.items) (before ++ take i goals) end)
        ∙ ap (map (λ (g : Goal). g.constants.items)) (append_assoc before (take i goals) end ∙ ap (λ gs. before ++ gs) (take-append-drop i goals));
  }
    where
      end : List Goal
      end = drop i goals

      held : All (IsTypedGoal types s) end
      held = All-drop (IsTypedGoal types s) i goals all
