-- AN ANSWER SHOWS THE GOALS, where each way does what it is for.
use Rattle.std.proofs.Common.{◌≡◌, ◌⊎◌, inl, inr, ℕ, ◌≤◌, List, [], ◌∷◌, ◌++◌, map, length, drop, codes, Bool, true, false, cond, not, Option, Some, None, refl, sym, ◌∙◌, ap, subst, arith, length-append}
use Rattle.std.specs.Prelude.{Contains}
use Rattle.std.proofs.lemmas.Bool.{false≢true}
use Rattle.ab_term.specs.Types.{Ty}
use Rattle.ab_term.specs.Terms.{Nominal, Variable, Read}
use Rattle.ab_term.specs.Typing.{Signature, HasType}
use Rattle.ab_term.specs.Names.{support}
use Rattle.ab_term.specs.Variables.{Substitution, value_in, image, composition, IsTyped}
use Rattle.ab_term.specs.Translation.{forget}
use Rattle.ab_term.specs.Sameness.{same_number}
use Rattle.ab_term.proofs.Compositions.{then_by, value_in-composition, image-composition, composition_typed, image_typed}
use Rattle.ab_term.proofs.Lists.{Contains-none, Contains-here, Contains-there, Contains-cases}
use Rattle.ab_term.proofs.Stands.{support-image}
use Rattle.ab_unifiers.specs.Replacements.{Cell, holds}
use Rattle.ab_unifiers.specs.Unification.{Equation}
use Rattle.ab_unifiers.specs.Unifiers.{AreTyped, Unifies, keys}
use Rattle.ab_unifiers.proofs.Ruling.{image_none, image_past_hints}
use Rattle.ab_unifiers.proofs.Avoiding.{not_held}
use Rattle.ab_unifiers.proofs.Keys.{keys-composition}
use Rattle.ab_unifiers.proofs.Once.{answer_once}
use Rattle.ab_unifiers.proofs.Problems.{answer_unifies, answer_clean}
use Rattle.ab_unifiers.specs.Clauses.{numbered}
use Rattle.ab_unifiers.proofs.Rows.{numbered_within, held_append}
use Rattle.ab_formulas.specs.Declarations.{Declarations, signature_in}
use Rattle.ab_search_trees.specs.Goals.{Goal, Now, goal_under}
use Rattle.ab_search_trees.specs.Judgements.{is_blind}
use Rattle.ab_search_trees.specs.Ways.{Way, ways}
use Rattle.ab_search_trees.specs.Tree.{Leaf, found, stuck_at, blind, now_after, unseen, Leaves, LeavesBy, LeavesOn, no_goal, a_goal, no_way, a_way, are_apart, are_stuck, dont_serve, go_on}
use Rattle.ab_search_trees.specs.Shown.{Shown}
use Rattle.ab_search_trees.proofs.Lifts.{filter_from, answer_grows}
use Rattle.ab_search_trees.proofs.Facts.{AllParts, IsTask, AllTasks, all_tasks_both}
use Rattle.ab_search_trees.proofs.Against.{amid}
use Rattle.ab_search_trees.proofs.Growing.{tasks_grown}
use Rattle.ab_search_trees.proofs.Carried.{AreFlexible, known, after_flexible, q_typed, tasks_under}
use Rattle.ab_search_trees.proofs.Shows.{IsLater, AllShown, IsFine, EachFine}

-- the leaf's answer is what was put in before, and then this
pub record Answers (sg : Signature) (now last : Now) (r : Substitution ℕ (List ℕ)) : Type 0 where
  pub later : IsLater sg now r
  pub answer : (G : List Ty) (t : Read) (A : Ty) → HasType sg G t A → image same_number last.answer t ≡ image same_number r (image same_number now.answer t)

module _ (sg : Signature) (q r : Substitution ℕ (List ℕ)) (q_is : IsTyped sg q) (r_is : IsTyped sg r) where
  abbrev both : Substitution ℕ (List ℕ)
  both = composition same_number q r

  unifies_both : (es : List (Equation (List ℕ))) → AreTyped sg es → Unifies q es → Unifies both es
  unifies_both [] t u = tt
  unifies_both (e ∷ es) t u = (
    ap forget (image-composition sg same_number q q_is r r_is t.0.2) ∙ image_past_hints r (image same_number q e.left) (image same_number q e.right) u.0 ∙ sym (ap forget (image-composition sg same_number q q_is r r_is t.0.3)),
    unifies_both es t.1 u.1,
  )

  nothing_in : (ns : List Nominal) → ((n : Nominal) → Contains ns n → ⊥) → ns ≡ []
  nothing_in [] f = refl
  nothing_in (n ∷ ns) f = absurd (f n (Contains-here n ns))

  nameless_both : ((y : Variable ℕ) (v : Read) → value_in same_number q y ≡ Some v → support v ≡ []) → ((y : Variable ℕ) (v : Read) → value_in same_number r y ≡ Some v → support v ≡ [])
      → (y : Variable ℕ) (v : Read) → value_in same_number both y ≡ Some v → support v ≡ []
  nameless_both a b y v e = go (value_in same_number q y) refl (sym (value_in-composition same_number q r y) ∙ e)
    where
      go : (o : Option Read) → value_in same_number q y ≡ o → then_by (value_in same_number r) y o ≡ Some v → support v ≡ []
      go None p s = b y v s
      go (Some w) p s =
          let same : image same_number r w ≡ v = cc in
          subst (λ k. support k ≡ []) same (nothing_in (support (image same_number r w)) (λ n m. elim (support-image (value_in same_number r) w n m) [
            | inl c ↦ Contains-none n (subst (λ l. Contains l n) (a y w p) c)
            | inr c ↦ Contains-none n (subst (λ l. Contains l n) (b c.0 c.1 (c.2).1) c.3)
          ]))

  parts_both : (now : Now) (branch : List Nominal) (u : Bool) (Fs : List Read) → AllParts sg now branch u Fs → map (image same_number both) Fs ≡ map (image same_number r) (map (image same_number q) Fs)
  parts_both now branch u [] p = refl
  parts_both now branch u (F ∷ Fs) p = ap (λ k. k ∷ map (image same_number both) Fs) (image-composition sg same_number q q_is r r_is (p.0).formula.typed) ∙ ap (λ l. image same_number r (image same_number q F) ∷ l) (parts_both now branch u Fs p.1)

pub contains_split : {X : Type 0} (xs ys : List X) (z : X) → Contains (xs ++ ys) z → Contains xs z ⊎ Contains ys z
contains_split [] ys z m = inr m
contains_split (x ∷ xs) ys z m = elim (Contains-cases x (xs ++ ys) z m) [
  | inl e ↦ inl (subst (Contains (x ∷ xs)) e (Contains-here x xs))
  | inr n ↦ elim (contains_split xs ys z n) [ inl a ↦ inl (Contains-there x xs z a) | inr b ↦ inr b ]
]

grows_longer : (cells more : List (Cell (List ℕ))) → (made : List (Cell (List ℕ))) × (more ≡ cells ++ made) → length cells ≤ length more
grows_longer cells more g = let sum = ap length g.1 ∙ length-append cells g.0 in omega (arith, sum)

-- goals behind others
module _ (D : Declarations) (r : Substitution ℕ (List ℕ)) where
  shown_front : (gs hs : List Goal) → AllShown D r (gs ++ hs) → AllShown D r gs
  shown_front [] hs s = tt
  shown_front (g ∷ gs) hs s = (s.0, shown_front gs hs s.1)

  shown_behind : (gs hs : List Goal) → AllShown D r (gs ++ hs) → AllShown D r hs
  shown_behind [] hs s = s
  shown_behind (g ∷ gs) hs s = shown_behind gs hs s.1

module _ (D : Declarations) (each : (now : Now) (g : Goal) → AreFlexible now → IsTask (signature_in D) now g → EachFine D now g (ways D now g)) where
  abbrev sg : Signature
  sg = signature_in D

  -- those of the goals put under the first are those of the goals under both
  all_both : (now : Now) (q r : Substitution ℕ (List ℕ)) → IsTyped sg q → IsTyped sg r → (gs : List Goal) → AllTasks sg now gs → AllShown D r (map (goal_under q) gs) → AllShown D (composition same_number q r) gs
  all_both now q r a b [] t s = tt
  all_both now q r a b (g ∷ gs) t s = (
    subst (λ Hs. Shown D Hs (image same_number (composition same_number q r) g.conclusion)) (sym (parts_both sg q r a b now g.constants g.untouched g.hypotheses (t.0).hypotheses))
        (subst (Shown D (map (image same_number r) (map (image same_number q) g.hypotheses))) (sym (image-composition sg same_number q a r b (t.0).conclusion.formula.typed)) s.0),
    all_both now q r a b gs t.1 s.1,
  )

  abbrev Told : Now → List Goal → Now → Type 0
  Told now gs last = (r : Substitution ℕ (List ℕ)) × Answers sg now last r × AllShown D r gs

  pub never_blind : (b : Bool) (last : Now) → Contains (cond b (blind ∷ []) []) (found last) → ⊥
  never_blind true last m = elim (Contains-cases blind [] (found last) m) [ inl e ↦ absurd (cc) | inr n ↦ Contains-none (found last) n ]
  never_blind false last m = Contains-none (found last) m

  mutual
    pub answers_show : {now : Now} {gs : List Goal} {ls : List Leaf} → Leaves D now gs ls → AreFlexible now → IsTyped sg now.answer → AllTasks sg now gs → (last : Now) → Contains ls (found last) → Told now gs last
    answers_show (no_goal {now = now}) f a t last m = (
      [],
      record {
        later = record { typed = λ k d l. absurd (omega (arith, l)); nameless = λ y v e. absurd (let bad : None ≡ Some v = e in cc); within = λ y e. absurd (false≢true e) };
        answer = λ G u A d. elim (Contains-cases (found now) [] (found last) m) [
          | inl e ↦ (let same : last ≡ now = cc in ap (λ (k : Now). image same_number k.answer u) same ∙ sym (image_none (image same_number now.answer u)))
          | inr n ↦ absurd (Contains-none (found last) n)
        ];
      },
      tt,
    )
    answers_show (a_goal {now = now} {g = g} {gs = gs} {ls = ls} p) f a t last m = elim (contains_split ls (unseen now g) (found last) m) [
      | inl c ↦ by_ways (each now g f t.0) p f a t last c
      | inr c ↦ absurd (never_blind (is_blind now.flexible g.conclusion) last c)
    ]

    by_ways : {now : Now} {g : Goal} {gs : List Goal} {ws : List Way} {ls : List Leaf} → EachFine D now g ws → LeavesBy D now ws gs ls → AreFlexible now → IsTyped sg now.answer → AllTasks sg now (g ∷ gs) → (last : Now) → Contains ls (found last) → Told now (g ∷ gs) last
    by_ways k no_way f a t last m = absurd (Contains-none (found last) m)
    by_ways k (a_way {ls = ls} {ms = ms} p r) f a t last m = elim (contains_split ls ms (found last) m) [
      | inl c ↦ on_way k.0 p f a t last c
      | inr c ↦ by_ways k.1 r f a t last c
    ]

    on_way : {now : Now} {g : Goal} {gs : List Goal} {w : Way} {ls : List Leaf} → IsFine D now g w → LeavesOn D now w gs ls → AreFlexible now → IsTyped sg now.answer → AllTasks sg now (g ∷ gs) → (last : Now) → Contains ls (found last) → Told now (g ∷ gs) last
    on_way k (are_apart p) f a t last m = absurd (Contains-none (found last) m)
    on_way k (are_stuck {i = i} p) f a t last m = elim (Contains-cases (stuck_at i) [] (found last) m) [ inl e ↦ absurd (cc) | inr n ↦ absurd (Contains-none (found last) n) ]
    on_way k (dont_serve more q p n) f a t last m = absurd (Contains-none (found last) m)
    on_way k (go_on {now = now} {w = w} {gs = gs} more q p u l) f a t last m =
        let mid = amid D now w in
        let after = now_after now w more q in
        let q_is = q_typed sg mid k.flexible w.equations k.typed k.over more q p after.answer after.held in
        let all : AllTasks sg mid (w.goals ++ gs) = all_tasks_both sg mid w.goals gs k.tasks (tasks_grown sg now mid (λ y. None) (λ y. None) k.grown gs t.1) in
        let told = answers_show l
        (after_flexible sg mid k.flexible w.equations k.typed k.over more q p after.answer after.held)
        (composition_typed sg same_number now.answer a q q_is)
        (tasks_under sg mid k.flexible w.equations k.typed k.over more q p after.answer after.held (w.goals ++ gs) all) last m in
        let r = told.0 in
        let r_is = (told.1).later.typed in
        let s = composition same_number q r in
        let whole = all_both mid q r q_is r_is (w.goals ++ gs) all told.2 in
        let are_known = known sg mid k.flexible w.equations k.typed k.over more q p after.answer after.held in
        let longer = grows_longer w.cells more (answer_grows sg (codes "x") w.equations w.cells w.flexible k.typed are_known k.flexible k.over more q p) in
        let inside : (y : Variable ℕ) → holds (keys s) y ≡ true → (holds w.flexible y ≡ true) ⊎ (length w.cells ≤ y.name) = λ y e. elim (held_append (keys q) (keys r) y (subst (λ l. holds l y ≡ true) (keys-composition q r) e)) [
          | inl c ↦ elim ((answer_once (codes "x") w.equations w.cells w.flexible are_known more q p).1 y c) [ inl b ↦ inl b | inr b ↦ inr b.0 ]
          | inr c ↦ elim ((told.1).later.within y c) [
            | inl b ↦ elim (not_held w.flexible (numbered (length w.cells) (drop (length w.cells) more)) y (filter_from (λ z. not (holds (keys q) z)) (w.flexible ++ numbered (length w.cells) (drop (length w.cells) more)) y b)) [
              | inl d ↦ inl d
              | inr d ↦ inr (numbered_within (length w.cells) (drop (length w.cells) more) y d).0
            ]
            | inr b ↦ inr (omega (arith, b, longer))
          ]
        ] in
        let s_is = composition_typed sg same_number q q_is r r_is in
        let clean = nameless_both sg q r q_is r_is (answer_clean sg (codes "x") w.equations w.cells w.flexible k.typed are_known more q p) (told.1).later.nameless in (
          s,
          record {
            later = record { typed = s_is; nameless = clean; within = λ y e. elim (inside y e) [ inl b ↦ k.newer y b | inr b ↦ inr (let long = k.longer in omega (arith, b, long)) ] };
            answer = λ G v A d. (told.1).answer G v A d ∙ ap (image same_number r) (image-composition sg same_number now.answer a q q_is d) ∙ sym (image-composition sg same_number q q_is r r_is (image_typed sg same_number now.answer a d));
          },
          (
            k.shows s (record { typed = s_is; nameless = clean; within = inside }) (unifies_both sg q r q_is r_is w.equations k.typed (answer_unifies sg (codes "x") w.equations w.cells w.flexible k.typed are_known more q p)) u (shown_front D s w.goals gs whole),
            shown_behind D s w.goals gs whole,
          ),
        )
