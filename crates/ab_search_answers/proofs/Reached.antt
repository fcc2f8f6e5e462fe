-- FROM A WAY OF THE TREE TO AN ANSWER TO STEPS that close the goals, where each way is safe.
use Rattle.std.proofs.Common.{◌≡◌, ◌⊎◌, inl, inr, ℕ, ◌≤◌, List, [], ◌∷◌, ◌++◌, map, length, drop, codes, Bool, true, not, Option, Some, None, refl, sym, ◌∙◌, ap, subst, arith, length-append}
use Rattle.std.specs.Prelude.{Contains}
use Rattle.std.proofs.lemmas.Bool.{false≢true, false_from_ne_true}
use Rattle.std.proofs.lemmas.List.Elements.{All-head, All-tail}
use Rattle.ab_term.specs.Types.{Ty}
use Rattle.ab_term.specs.Terms.{Nominal, Variable, Read}
use Rattle.ab_term.specs.Typing.{Signature, HasType}
use Rattle.ab_term.specs.Names.{support}
use Rattle.ab_term.specs.Variables.{Substitution, variables, value_in, image, composition, IsTyped}
use Rattle.ab_term.specs.Translation.{forget}
use Rattle.ab_term.specs.Sameness.{same_number}
use Rattle.ab_term.proofs.Compositions.{then_by, value_in-composition, image-composition, composition_typed, image_typed}
use Rattle.ab_term.proofs.Lists.{Contains-none, Contains-here, Contains-cases, All-from_contains}
use Rattle.ab_term.proofs.Stands.{support-image}
use Rattle.ab_unifiers.specs.Replacements.{Cell, holds}
use Rattle.ab_unifiers.specs.Unification.{Equation, unified, Solves}
use Rattle.ab_unifiers.specs.Unifiers.{AreTyped, AreKnown, Unifies, keys}
use Rattle.ab_unifiers.specs.Clauses.{numbered}
use Rattle.ab_unifiers.proofs.Agreeing.{holds_front}
use Rattle.ab_unifiers.proofs.Avoiding.{not_held}
use Rattle.ab_unifiers.proofs.Cells.{Grows, cell_kept, grows_none}
use Rattle.ab_unifiers.proofs.Keys.{keys-composition}
use Rattle.ab_unifiers.proofs.Once.{answer_once}
use Rattle.ab_unifiers.proofs.Problems.{answer_unifies, answer_clean}
use Rattle.ab_unifiers.proofs.RenumberedAnswers.{value_given}
use Rattle.ab_unifiers.proofs.Rows.{numbered_within, held_append}
use Rattle.ab_unifiers.proofs.Ruling.{image_none, image_past_hints}
use Rattle.ab_formulas.specs.Declarations.{Declarations, signature_in}
use Rattle.ab_formulas.specs.GoalTerms.{HoldsOnly}
use Rattle.ab_search_trees.specs.Goals.{Goal, Now, goal_under}
use Rattle.ab_search_trees.specs.Outcomes.{filling, whole_answer}
use Rattle.ab_search_trees.specs.Tree.{Serve, problem_of, now_after}
use Rattle.ab_search_trees.specs.Ways.{Way, ways}
use Rattle.ab_search_trees.proofs.Lifts.{known_cell, filter_from, filter_held, answer_grows}
use Rattle.ab_search_trees.proofs.Facts.{AllParts, IsTask, AllTasks, all_tasks_both}
use Rattle.ab_search_trees.proofs.Against.{amid}
use Rattle.ab_search_trees.proofs.Growing.{IsGrown, tasks_grown}
use Rattle.ab_search_trees.proofs.Carried.{AreFlexible, known, after_flexible, q_typed, tasks_under}
use Rattle.ab_search_trees.proofs.Clauses.{constants_more}
use Rattle.ab_search_trees.proofs.Shows.{IsFine, EachFine}
use Rattle.ab_search_layers.specs.Closed.{Open, to_show, Closes, none}
use Rattle.ab_search_layers.specs.Taken.{Taking}
use Rattle.ab_search_answers.proofs.Filled.{filling_typed, filling_keys, filled_with, all_filled, name_without, name_alone}
use Rattle.ab_search_answers.proofs.Final.{Scopes, from_on, scope_before, scope_from, IsFinal, final_scope}
use Rattle.ab_search_answers.proofs.Under.{final_under}
use Rattle.ab_search_answers.proofs.Scoped.{IsScoped, AllScoped, each_in, all_scoped_both, in_grown, all_scoped_grown, all_scoped_under}
use Rattle.ab_search_answers.specs.Followed.{and_filled, in_the_end, GoesOn, Follows, at_answer, by_way}
use Rattle.ab_search_answers.proofs.Below.{IsBelow, IsTaken, at_end}
use Rattle.ab_search_answers.proofs.Safe.{amid_way, IsSafe}

grows_longer : (cells more : List (Cell (List ℕ))) → Grows cells more → length cells ≤ length more
grows_longer cells more g = let sum = ap length g.1 ∙ length-append cells g.0 in omega (arith, sum)

-- one after the other, of three
composition_grouped : (sg : Signature) (q n f : Substitution ℕ (List ℕ)) → IsTyped sg q → IsTyped sg n → IsTyped sg f → composition same_number (composition same_number q n) f ≡ composition same_number q (composition same_number n f)
composition_grouped sg [] n f a b c = refl
composition_grouped sg (p ∷ q) n f a b c =
    ap (λ t. (p.0, t) ∷ composition same_number (composition same_number q n) f) (sym (image-composition sg same_number n b f c (All-head (λ (k : Variable ℕ × Read). HasType sg [] k.1 k.0.type) p q a)))
    ∙ ap (λ l. (p.0, image same_number (composition same_number n f) p.1) ∷ l) (composition_grouped sg q n f (All-tail (λ (k : Variable ℕ × Read). HasType sg [] k.1 k.0.type) p q a) b c)

-- the fillings at the answer itself
filled_final : (sg : Signature) (now : Now) (S : Scopes) → IsFinal sg now S (filling now.held now.flexible)
filled_final sg now S = record {
  typed = filling_typed sg now.held now.flexible;
  clear = λ y v e a m. (let f = filled_with now.held now.flexible y v e in λ h. f.1 (subst (Contains now.held) (sym (name_alone f.0 a (subst (λ k. Contains (support k) a) (sym f.2) m))) h));
  within = λ y h. inl (subst (λ l. holds l y ≡ true) (filling_keys now.held now.flexible) h);
  some = λ y h. all_filled now.held now.flexible y h;
  scoped = λ y v h e. (let f = filled_with now.held now.flexible y v e in All-from_contains (Contains (S y)) (variables v) (λ z m. absurd (name_without f.0 z (subst (λ k. Contains (variables k) z) (sym f.2) m))));
}

module _ (sg : Signature) (q r : Substitution ℕ (List ℕ)) (q_is : IsTyped sg q) (r_is : IsTyped sg r) where
  abbrev both : Substitution ℕ (List ℕ)
  both = composition same_number q r

  unifies_both : (es : List (Equation (List ℕ))) → AreTyped sg es → Unifies q es → Unifies both es
  unifies_both [] t u = tt
  unifies_both (e ∷ es) t u = (
    ap forget (image-composition sg same_number q q_is r r_is t.0.2) ∙ image_past_hints r (image same_number q e.left) (image same_number q e.right) u.0 ∙ sym (ap forget (image-composition sg same_number q q_is r r_is t.0.3)),
    unifies_both es t.1 u.1,
  )

  parts_both : (now : Now) (branch : List Nominal) (u : Bool) (Fs : List Read) → AllParts sg now branch u Fs → map (image same_number both) Fs ≡ map (image same_number r) (map (image same_number q) Fs)
  parts_both now branch u [] p = refl
  parts_both now branch u (F ∷ Fs) p = ap (λ k. k ∷ map (image same_number both) Fs) (image-composition sg same_number q q_is r r_is (p.0).formula.typed) ∙ ap (λ l. image same_number r (image same_number q F) ∷ l) (parts_both now branch u Fs p.1)

  no_constants : ((y : Variable ℕ) (v : Read) → value_in same_number q y ≡ Some v → support v ≡ []) → ((y : Variable ℕ) (v : Read) → value_in same_number r y ≡ Some v → support v ≡ []) → (y : Variable ℕ) (v : Read) → value_in same_number both y ≡ Some v → support v ≡ []
  no_constants a b y v e = go (value_in same_number q y) refl (sym (value_in-composition same_number q r y) ∙ e)
    where
      nothing_in : (ns : List Nominal) → ((n : Nominal) → Contains ns n → ⊥) → ns ≡ []
      nothing_in [] f = refl
      nothing_in (n ∷ ns) f = absurd (f n (Contains-here n ns))

      go : (o : Option Read) → value_in same_number q y ≡ o → then_by (value_in same_number r) y o ≡ Some v → support v ≡ []
      go None p s = b y v s
      go (Some w) p s =
          let same : image same_number r w ≡ v = cc in
          subst (λ k. support k ≡ []) same (nothing_in (support (image same_number r w)) (λ n m. elim (support-image (value_in same_number r) w n m) [
            | inl c ↦ Contains-none n (subst (λ l. Contains l n) (a y w p) c)
            | inr c ↦ Contains-none n (subst (λ l. Contains l n) (b c.0 c.1 (c.2).1) c.3)
          ]))

module _ (D : Declarations) where
  abbrev sg : Signature
  sg = signature_in D

  -- the goals, once all is put in, each over its variables
  abbrev pub all_at_end : Substitution ℕ (List ℕ) → List Goal → List (List (Variable ℕ)) → List Open
  all_at_end r (g ∷ gs) (ys ∷ yss) = at_end r ys g ∷ all_at_end r gs yss
  all_at_end r gs yss = []

  -- goals of one scope in front of others
  in_front : (r : Substitution ℕ (List ℕ)) (ys : List (Variable ℕ)) (gs hs : List Goal) (yss : List (List (Variable ℕ))) → all_at_end r (gs ++ hs) (each_in ys gs ++ yss) ≡ map (at_end r ys) gs ++ all_at_end r hs yss
  in_front r ys [] hs yss = refl
  in_front r ys (g ∷ gs) hs yss = ap (λ l. at_end r ys g ∷ l) (in_front r ys gs hs yss)

  -- the goals put under the first are those under both
  all_both : (now : Now) (q r : Substitution ℕ (List ℕ)) → IsTyped sg q → IsTyped sg r → (gs : List Goal) (yss : List (List (Variable ℕ))) → AllTasks sg now gs → all_at_end r (map (goal_under q) gs) yss ≡ all_at_end (composition same_number q r) gs yss
  all_both now q r a b [] [] t = refl
  all_both now q r a b [] (ys ∷ yss) t = refl
  all_both now q r a b (g ∷ gs) [] t = refl
  all_both now q r a b (g ∷ gs) (ys ∷ yss) t =
      let rest = all_at_end r (map (goal_under q) gs) yss in
      ap (λ Hs. to_show ys Hs (image same_number r (image same_number q g.conclusion)) ∷ rest) (sym (parts_both sg q r a b now g.constants g.untouched g.hypotheses (t.0).hypotheses))
      ∙ ap (λ C. to_show ys (map (image same_number (composition same_number q r)) g.hypotheses) C ∷ rest) (sym (image-composition sg same_number q a r b (t.0).conclusion.formula.typed))
      ∙ ap (λ l. at_end (composition same_number q r) ys g ∷ l) (all_both now q r a b gs yss t.1)

  -- WHAT A WAY FROM A PLACE TO AN ANSWER TELLS, on which this is put in, with these steps: they close the goals, the fillings put in besides
  pub record Leads (now last : Now) (S : Scopes) (gs : List Goal) (yss : List (List (Variable ℕ))) (put : Substitution ℕ (List ℕ)) (es : List (Read × Taking)) : Type 0 where
    pub below : IsBelow sg now last put
    pub final : IsFinal sg now S (and_filled last put)
    pub answer : (G : List Ty) (t : Read) (A : Ty) → HasType sg G t A → image same_number last.answer t ≡ image same_number put (image same_number now.answer t)
    -- the answer, filled, is what was put in before the place, and then this
    pub whole : (G : List Ty) (t : Read) (A : Ty) → HasType sg G t A → image same_number (whole_answer last) t ≡ image same_number (and_filled last put) (image same_number now.answer t)
    pub closed : Closes D (all_at_end (and_filled last put) gs yss) es

  at_the_answer : (now : Now) (S : Scopes) → IsTyped sg now.answer → Leads now now S [] [] [] []
  at_the_answer now S typed = record {
    below = record {
      later = record { typed = λ k d l. absurd (omega (arith, l)); nameless = λ y v e. absurd (let bad : None ≡ Some v = e in cc); within = λ y e. absurd (false≢true e) };
      filled = λ y h e. h;
      kept = λ y h. inl h;
      held = λ a m. m;
    };
    final = filled_final sg now S;
    answer = λ G t A d. sym (image_none (image same_number now.answer t));
    whole = λ G t A d. image-composition sg same_number now.answer typed (filling now.held now.flexible) (filling_typed sg now.held now.flexible) d;
    closed = none;
  }

  -- ONE STEP UP
  module _ (now last : Now) (S : Scopes) (g : Goal) (ys : List (Variable ℕ)) (w : Way) (k : Substitution ℕ (List ℕ) → Taking) (fine : IsFine D now g w) (safe : IsSafe D now S g ys w k) (flexible : AreFlexible now) (answer_typed : IsTyped sg now.answer) (gs : List Goal) (yss : List (List (Variable ℕ)))
      (tasks : AllTasks sg now (g ∷ gs)) (scoped : AllScoped now S (g ∷ gs) (ys ∷ yss)) (more : List (Cell (List ℕ))) (q : Substitution ℕ (List ℕ)) where
    abbrev mid : Now
    mid = amid_way D now w

    abbrev T : Scopes
    T = from_on (length now.cells) ys S

    grown : IsGrown now mid (λ y. None) (λ y. None)
    grown = record { cells = fine.grown.cells; fixed = fine.grown.fixed; same = λ y l. refl }

    held : (a : Nominal) → Contains now.held a → Contains mid.held a
    held = constants_more w.taken now.held

    flexible_mid : AreFlexible mid
    flexible_mid = fine.flexible

    all : AllTasks sg (amid D now w) (w.goals ++ gs)
    all = all_tasks_both sg (amid D now w) w.goals gs fine.tasks (tasks_grown sg now (amid D now w) (λ y. None) (λ y. None) fine.grown gs tasks.1)

    all_mid : AllTasks sg mid (w.goals ++ gs)
    all_mid = tasks_grown sg (amid D now w) mid (λ y. None) (λ y. None) (record { cells = grows_none w.cells; fixed = λ y l n. n; same = λ y l. refl }) (w.goals ++ gs) all

    scoped_mid : AllScoped mid T (w.goals ++ gs) (each_in safe.scope w.goals ++ yss)
    scoped_mid = all_scoped_both mid T w.goals gs safe.scope yss safe.goals (all_scoped_grown sg now mid grown safe.keeps fine.longer held S ys gs yss tasks.1 scoped.1)

    newer : (y : Variable ℕ) → length mid.cells ≤ y.name → T y ≡ ys
    newer y l = scope_from (length now.cells) ys S y (let long = fine.longer in omega (arith, l, long))

    module _ (solved : Solves (codes "x") (problem_of w) (unified more q)) where
      abbrev after : Now
      after = now_after now w more q

      q_is : IsTyped sg q
      q_is = q_typed sg (amid D now w) fine.flexible w.equations fine.typed fine.over more q solved after.answer after.held

      are_known : AreKnown w.cells w.flexible
      are_known = known sg (amid D now w) fine.flexible w.equations fine.typed fine.over more q solved after.answer after.held

      grows : length w.cells ≤ length more
      grows = grows_longer w.cells more (answer_grows sg (codes "x") w.equations w.cells w.flexible fine.typed are_known fine.flexible fine.over more q solved)

      -- what is known below
      pub flexible_after : AreFlexible after
      flexible_after = after_flexible sg (amid D now w) fine.flexible w.equations fine.typed fine.over more q solved after.answer after.held

      pub answer_after : IsTyped sg after.answer
      answer_after = composition_typed sg same_number now.answer answer_typed q q_is

      pub tasks_after : AllTasks sg after (map (goal_under q) (w.goals ++ gs))
      tasks_after = tasks_under sg (amid D now w) fine.flexible w.equations fine.typed fine.over more q solved after.answer after.held (w.goals ++ gs) all

      pub scoped_after : AllScoped after T (map (goal_under q) (w.goals ++ gs)) (each_in safe.scope w.goals ++ yss)
      scoped_after = all_scoped_under sg mid flexible_mid w.equations fine.typed fine.over more q solved after.answer grows T ys newer safe.equations (w.goals ++ gs) (each_in safe.scope w.goals ++ yss) all_mid scoped_mid

      news_flexible : (y : Variable ℕ) → holds after.flexible y ≡ true → (holds now.flexible y ≡ true) ⊎ (length now.cells ≤ y.name)
      news_flexible y b = elim (not_held w.flexible (numbered (length w.cells) (drop (length w.cells) more)) y (filter_from (λ z. not (holds (keys q) z)) (w.flexible ++ numbered (length w.cells) (drop (length w.cells) more)) y b)) [
        | inl d ↦ fine.newer y d
        | inr d ↦ inr (let low = (numbered_within (length w.cells) (drop (length w.cells) more) y d).0 in let long = fine.longer in omega (arith, low, long))
      ]

      module _ (n : Substitution ℕ (List ℕ)) (es : List (Read × Taking)) (serves : Serve w) (told : Leads after last T (map (goal_under q) (w.goals ++ gs)) (each_in safe.scope w.goals ++ yss) n es) where
        abbrev r : Substitution ℕ (List ℕ)
        r = in_the_end last q n

        n_is : IsTyped sg n
        n_is = told.below.later.typed

        same_end : and_filled last (composition same_number q n) ≡ r
        same_end = composition_grouped sg q n (filling last.held last.flexible) q_is n_is (filling_typed sg last.held last.flexible)

        final_mid : IsFinal sg mid T r
        final_mid = final_under sg mid flexible_mid w.equations fine.typed fine.over more q solved after.answer T ys newer safe.equations (and_filled last n) told.final

        final_now : IsFinal sg now S r
        final_now = record {
          typed = final_mid.typed;
          clear = λ y v e a m h. final_mid.clear y v e a m (held a h);
          within = λ y h. elim (final_mid.within y h) [ inl a ↦ fine.newer y a | inr a ↦ inr (let long = fine.longer in omega (arith, a, long)) ];
          some = λ y h. final_mid.some y (safe.keeps y h);
          scoped = λ y v h e. subst (λ l. HoldsOnly l v) (scope_before (length now.cells) ys S y (known_cell now.cells y.name y.type (flexible y h))) (final_mid.scoped y v (safe.keeps y h) e);
        }

        below_now : IsBelow sg now last (composition same_number q n)
        below_now = record {
          later = record {
            typed = composition_typed sg same_number q q_is n n_is;
            nameless = no_constants sg q n q_is n_is (answer_clean sg (codes "x") w.equations w.cells w.flexible fine.typed are_known more q solved) told.below.later.nameless;
            within = λ y e. elim (held_append (keys q) (keys n) y (subst (λ l. holds l y ≡ true) (keys-composition q n) e)) [
              | inl c ↦ elim ((answer_once (codes "x") w.equations w.cells w.flexible are_known more q solved).1 y c) [ inl b ↦ fine.newer y b | inr b ↦ inr (let high = b.0 in let long = fine.longer in omega (arith, high, long)) ]
              | inr c ↦ elim (told.below.later.within y c) [ inl b ↦ news_flexible y b | inr b ↦ inr (let long = fine.longer in omega (arith, b, grows, long)) ]
            ];
          };
          filled = λ y h e. still_open y h (value_in same_number q y) refl e;
          kept = λ y h. elim (told.below.kept y h) [ inl b ↦ news_flexible y b | inr b ↦ inr (let long = fine.longer in omega (arith, b, grows, long)) ];
          held = λ a m. told.below.held a (held a m);
        }
          where
            still_open : (y : Variable ℕ) → holds now.flexible y ≡ true → (o : Option Read) → value_in same_number q y ≡ o → value_in same_number (composition same_number q n) y ≡ None → holds last.flexible y ≡ true
            still_open y h None f e = told.below.filled y
                (filter_held (λ z. not (holds (keys q) z)) (w.flexible ++ numbered (length w.cells) (drop (length w.cells) more)) y (holds_front w.flexible (numbered (length w.cells) (drop (length w.cells) more)) y (safe.keeps y h)) (ap not (false_from_ne_true (holds (keys q) y) (λ k. let v = value_given (λ i. i) q y k in absurd (let bad : None ≡ Some v.0 = sym f ∙ v.1 in cc)))))
                (ap (then_by (value_in same_number n) y) (sym f) ∙ sym (value_in-composition same_number q n y) ∙ e)
            still_open y h (Some v) f e = absurd (let bad : Some (image same_number n v) ≡ None = ap (then_by (value_in same_number n) y) (sym f) ∙ sym (value_in-composition same_number q n y) ∙ e in cc)

        -- the goal's variables, and those that the way brings
        known_in : (t : Read) → ((y : Variable ℕ) → Contains (variables t) y → Contains (variables g.conclusion) y ⊎ ((holds w.flexible y ≡ true) × (length now.cells ≤ y.name))) → HoldsOnly ys (image same_number r t)
        known_in t f = final_scope sg mid T r final_mid ys t
            (λ y m. elim (f y m) [ inl a ↦ cell_kept now.cells w.cells fine.grown.cells y ((tasks.0).conclusion.facts.over y a) | inr a ↦ fine.flexible y a.0 ])
            (λ y m. elim (f y m) [ inl a ↦ in_grown sg now mid grown safe.keeps fine.longer held S ys ys g.conclusion (tasks.0).conclusion.facts.over (scoped.0).conclusion y a | inr a ↦ inl (a.0, scope_from (length now.cells) ys S y a.1) ])

        taken : IsTaken D now g ys w last more q n
        taken = record { place = record { flexible = flexible; task = tasks.0; branch = (scoped.0).branch }; solved = solved; typed = final_mid.typed; below = told.below; known = known_in }

        left_closed : Closes D (map (at_end r safe.scope) w.goals ++ all_at_end r gs yss) es
        left_closed = subst (λ l. Closes D l es) (all_both (amid D now w) q (and_filled last n) q_is told.final.typed (w.goals ++ gs) (each_in safe.scope w.goals ++ yss) all ∙ in_front r safe.scope w.goals gs yss) told.closed

        first_closed : Closes D (at_end r ys g ∷ all_at_end r gs yss) ((image same_number r g.conclusion, k r) ∷ es)
        first_closed = safe.closes last more q n taken final_mid (unifies_both sg q (and_filled last n) q_is told.final.typed w.equations fine.typed (answer_unifies sg (codes "x") w.equations w.cells w.flexible fine.typed are_known more q solved)) serves (all_at_end r gs yss) es left_closed

        pub step_up : Leads now last S (g ∷ gs) (ys ∷ yss) (composition same_number q n) ((image same_number r g.conclusion, k r) ∷ es)
        step_up = record {
          below = below_now;
          final = subst (IsFinal sg now S) (sym same_end) final_now;
          answer = λ G v A d. told.answer G v A d ∙ ap (image same_number n) (image-composition sg same_number now.answer answer_typed q q_is d) ∙ sym (image-composition sg same_number q q_is n n_is (image_typed sg same_number now.answer answer_typed d));
          whole = λ G v A d. told.whole G v A d ∙ ap (image same_number (and_filled last n)) (image-composition sg same_number now.answer answer_typed q q_is d)
              ∙ sym (ap (λ k. image same_number k (image same_number now.answer v)) same_end ∙ image-composition sg same_number q q_is (and_filled last n) told.final.typed (image_typed sg same_number now.answer answer_typed d));
          closed = subst (λ z. Closes D (all_at_end z (g ∷ gs) (ys ∷ yss)) ((image same_number r g.conclusion, k r) ∷ es)) (sym same_end) first_closed;
        }

module _ (D : Declarations) where
  -- ways of a kind that are safe, whatever is put in
  abbrev pub KindsSafe : Type 0
  KindsSafe = (now : Now) (S : Scopes) (g : Goal) (ys : List (Variable ℕ)) → AreFlexible now → IsTask (signature_in D) now g → IsScoped now S g ys → (r : Substitution ℕ (List ℕ)) (w : Way) → Contains (ways D now g) w → IsFine D now g w → (k : Taking) → GoesOn D now g r w k
      → (f : Substitution ℕ (List ℕ) → Taking) × (f r ≡ k) × IsSafe D now S g ys w f

  fine_among : (now : Now) (g : Goal) (ws : List Way) → EachFine D now g ws → (w : Way) → Contains ws w → IsFine D now g w
  fine_among now g [] fine w m = absurd (Contains-none w m)
  fine_among now g (v ∷ ws) fine w m = elim (Contains-cases v ws w m) [ inl e ↦ subst (IsFine D now g) e fine.0 | inr n ↦ fine_among now g ws fine.1 w n ]

  -- WHOEVER FOLLOWS A WAY to an answer gets steps that close the goals
  pub followed : ((now : Now) (g : Goal) → AreFlexible now → IsTask (signature_in D) now g → EachFine D now g (ways D now g)) → KindsSafe
      → {last now : Now} {gs : List Goal} {n : Substitution ℕ (List ℕ)} {es : List (Read × Taking)} (S : Scopes) (yss : List (List (Variable ℕ))) → Follows D last now gs n es
      → AreFlexible now → IsTyped (signature_in D) now.answer → AllTasks (signature_in D) now gs → AllScoped now S gs yss → Leads D now last S gs yss n es
  followed each safe {now = now} S [] at_answer f a t k = at_the_answer D now S a
  followed each safe S (ys ∷ yss) at_answer f a t k = absurd k
  followed each safe S [] (by_way w more q among p u goes l) f a t k = absurd k
  followed each safe {last = last} S (ys ∷ yss) (by_way {now = now} {g = g} {gs = gs} {n = n} {es = es} {k = taking} w more q among p u goes l) f a t k =
      let fine = fine_among now g (ways D now g) (each now g f t.0) w among in
      let so = safe now S g ys f t.0 k.0 (in_the_end last q n) w among fine taking goes in
      let j = so.2 in
      subst (λ z. Leads D now last S (g ∷ gs) (ys ∷ yss) (composition same_number q n) ((image same_number (in_the_end last q n) g.conclusion, z) ∷ es)) so.1
      (step_up D now last S g ys w so.0 fine j f a gs yss t k more q p n es u
      (followed each safe (from_on (length now.cells) ys S) (each_in j.scope w.goals ++ yss) l
      (flexible_after D now last S g ys w so.0 fine j f a gs yss t k more q p)
      (answer_after D now last S g ys w so.0 fine j f a gs yss t k more q p)
      (tasks_after D now last S g ys w so.0 fine j f a gs yss t k more q p)
      (scoped_after D now last S g ys w so.0 fine j f a gs yss t k more q p)))
