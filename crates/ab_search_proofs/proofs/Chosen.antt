-- A clause's constants become those of a choice of the sequent, by a likeness of the conclusion; the other constants of its terms become new ones.
use Rattle.std.proofs.Common.{◌≡◌, ◌≢◌, ◌⊎◌, inl, inr, ℕ, suc, ◌≤◌, List, [], ◌∷◌, ◌++◌, map, not, codes, refl, sym, ◌∙◌, ap, subst, arith}
use Rattle.std.specs.Prelude.{AllPairs, Contains, filter, bytes_eq}
use Rattle.std.proofs.lemmas.List.Elements.{All-contains, Contains-append_cases, Contains-append_left, Contains-append_right}
use Rattle.std.proofs.lemmas.List.Kept.{AllPairs-cons}
use Rattle.std.proofs.lemmas.Slice.Eq.{bytes_eq-Decides}
use Rattle.ab_term.specs.Types.{Ty}
use Rattle.ab_term.specs.Terms.{Nominal, constant, spine, Read}
use Rattle.ab_term.specs.Names.{same_nominal, support, support_of_all, permute, moved_by, IsPermutationTable, HasOneTypeEach}
use Rattle.ab_term.specs.Translation.{forget}
use Rattle.ab_term.specs.Variables.{image}
use Rattle.ab_term.specs.Sameness.{same_number}
use Rattle.ab_term.proofs.Comparisons.{same_nominal-Decides}
use Rattle.ab_term.proofs.Lists.{Contains-none, Contains-here, Contains-there, Contains-cases, Contains-map, Contains-from_map, All-from_contains, AllPairs-parts, AllPairs-map, contains_or_not}
use Rattle.ab_term.proofs.PastHints.{support_past_hints}
use Rattle.ab_term.proofs.Permutations.{one_to_one}
use Rattle.ab_term.proofs.Permuting.{Each, OfOneType}
use Rattle.ab_term.proofs.Renamings.{support-rename}
use Rattle.ab_unifiers.specs.Clauses.{Clause, filled, head_of}
use Rattle.ab_unifiers.specs.Clauses as clauses
use Rattle.ab_unifiers.specs.Choices.{is_in, in_order, outside, choices}
use Rattle.ab_unifiers.proofs.Choosing.{kept_contains, in_or_outside, outside_contains, ordered_contains, contains_ordered, ordered_pairs, kept_pairs, gathered}
use Rattle.ab_unifiers.proofs.Covered.{same_predicate}
use Rattle.ab_unifiers.proofs.Matching.{Matches, matched}
use Rattle.ab_unifiers.proofs.Ruling.{image_none}
use Rattle.ab_formulas.specs.Declarations.{Declarations, signature_in}
use Rattle.ab_formulas.specs.Sequents.{Sequent, IsSequent, formulas, goal_names, names_of}
use Rattle.ab_formulas.proofs.OneType.{choice_one_type}
use Rattle.ab_theory.specs.Atoms.{Defined, Choice, choices_of}
use Rattle.ab_theory.proofs.Sequents.{goal_of}
use Rattle.ab_theory.proofs.Sized.{IsAtomOver, atom_over}
use Rattle.ab_search_proofs.specs.Likeness.{StandIn, replaced, replacing, IsLikeGoal}
use Rattle.ab_search_proofs.specs.Proved.{IsByClause}
use Rattle.ab_search_proofs.proofs.AtomsAlike.{AtomLike, atom_like}
use Rattle.ab_search_proofs.proofs.Extending.{Free, sent_once, changed, changed_permutes, changed_same, changed_sends}
use Rattle.ab_search_proofs.proofs.Least.{above, number_below}
use Rattle.ab_search_proofs.proofs.Fresh.{fresh, fresh_types, fresh_differ, fresh_above, fresh_once}

-- LISTS, one behind another

append_types : (as_ bs cs ds : List Nominal) → OfOneType as_ bs → OfOneType cs ds → OfOneType (as_ ++ cs) (bs ++ ds)
append_types [] [] cs ds e f = f
append_types [] (b ∷ bs) cs ds e f = absurd e
append_types (a ∷ as_) [] cs ds e f = absurd e
append_types (a ∷ as_) (b ∷ bs) cs ds e f = (e.0, append_types as_ bs cs ds e.1 f)

append_each : (R : Nominal → Nominal → Type 0) (as_ bs cs ds : List Nominal) → Each R as_ bs → Each R cs ds → Each R (as_ ++ cs) (bs ++ ds)
append_each R [] [] cs ds e f = f
append_each R [] (b ∷ bs) cs ds e f = absurd e
append_each R (a ∷ as_) [] cs ds e f = absurd e
append_each R (a ∷ as_) (b ∷ bs) cs ds e f = (e.0, append_each R as_ bs cs ds e.1 f)

front_each : (R : Nominal → Nominal → Type 0) (as_ bs cs ds : List Nominal) → OfOneType as_ bs → Each R (as_ ++ cs) (bs ++ ds) → Each R as_ bs × Each R cs ds
front_each R [] [] cs ds t e = (tt, e)
front_each R [] (b ∷ bs) cs ds t e = absurd t
front_each R (a ∷ as_) [] cs ds t e = absurd t
front_each R (a ∷ as_) (b ∷ bs) cs ds t e = let rest = front_each R as_ bs cs ds t.1 e.1 in ((e.0, rest.0), rest.1)

append_differ : (as_ bs : List Nominal) → AllPairs (λ a b. a ≢ b) as_ → AllPairs (λ a b. a ≢ b) bs → ((a : Nominal) → Contains as_ a → ¬ Contains bs a) → AllPairs (λ a b. a ≢ b) (as_ ++ bs)
append_differ [] bs d e n = e
append_differ (a ∷ as_) bs d e n =
    let parts = AllPairs-parts (λ b c. b ≢ c) a as_ d in
    AllPairs-cons (λ b c. b ≢ c) a (as_ ++ bs)
    (All-from_contains (λ c. a ≢ c) (as_ ++ bs) (λ c m q. elim (Contains-append_cases as_ bs c m) [
      | inl k ↦ All-contains (λ b. a ≢ b) as_ c parts.0 k q
      | inr k ↦ n a (Contains-here a as_) (subst (Contains bs) (sym q) k)
    ]))
    (append_differ as_ bs parts.1 e (λ b m. n b (Contains-there a as_ b m)))

sent_list : (f : Nominal → Nominal) (as_ bs : List Nominal) → Each (λ a b. f a ≡ b) as_ bs → map f as_ ≡ bs
sent_list f [] [] e = refl
sent_list f [] (b ∷ bs) e = absurd e
sent_list f (a ∷ as_) [] e = absurd e
sent_list f (a ∷ as_) (b ∷ bs) e = ap (λ z. z ∷ map f as_) e.0 ∙ ap (λ l. b ∷ l) (sent_list f as_ bs e.1)

sent_in : (f : Nominal → Nominal) (as_ bs : List Nominal) → Each (λ a b. f a ≡ b) as_ bs → (a : Nominal) → Contains as_ a → Contains bs (f a)
sent_in f as_ bs e a m = subst (λ l. Contains l (f a)) (sent_list f as_ bs e) (Contains-map f as_ a m)

-- the constants of some terms, each of one
names_from : (f : Read → Read) (us : List Read) (a : Nominal) → Contains (names_of (map f us)) a → (u : Read) × Contains us u × Contains (support (f u)) a
names_from f [] a m = absurd (Contains-none a m)
names_from f (u ∷ us) a m = elim (Contains-append_cases (support (f u)) (names_of (map f us)) a m) [
  | inl k ↦ (u, Contains-here u us, k)
  | inr k ↦ let r = names_from f us a k in (r.0, Contains-there u us r.0 r.1, r.2)
]

names_in : (f : Read → Read) (us : List Read) (u : Read) (a : Nominal) → Contains us u → Contains (support (f u)) a → Contains (names_of (map f us)) a
names_in f [] u a m k = absurd (Contains-none u m)
names_in f (w ∷ us) u a m k = elim (Contains-cases w us u m) [
  | inl e ↦ Contains-append_left (support (f w)) (names_of (map f us)) a (subst (λ z. Contains (support (f z)) a) (sym e) k)
  | inr n ↦ Contains-append_right (support (f w)) (names_of (map f us)) a (names_in f us u a n k)
]

module _ (D : Declarations) (vs : List StandIn) (Hs : List Read) (C : Read) (s : Sequent) (is : IsSequent D s) (l : IsLikeGoal D vs Hs C s)
    (d : Defined) (c : Clause (List ℕ)) (us : List Read) (ns : List Nominal) (i : IsByClause D (map replaced vs) C d c us ns) where
  abbrev under : Read → Read
  under = image same_number (replacing vs)

  abbrev ps : List (Nominal × Nominal)
  ps = (l.conclusion.same).0

  abbrev table : IsPermutationTable ps
  table = (l.conclusion.same).1

  -- the sequent's atom
  pub like_atom : AtomLike D vs ps d s.conclusion
  like_atom = atom_like D vs C s.conclusion l.conclusion d i.atom

  abbrev pub here : Defined
  here = like_atom.atom

  abbrev held : List Nominal
  held = goal_names s

  abbrev S : List Nominal
  S = in_order (support_of_all here.arguments)

  abbrev As : List Ty
  As = map (λ z. z.type) c.names

  abbrev sent : List Nominal
  sent = map (moved_by ps) ns

  pub over_sequent : IsAtomOver (signature_in D) s.variables held here
  over_sequent = atom_over D s.variables held s.conclusion here (goal_of D s is).conclusion like_atom.is

  pub S_held : (a : Nominal) → Contains S a → Contains held a
  S_held a m = over_sequent.held a (contains_ordered (support_of_all here.arguments) a m)

  conclusion_held : (a : Nominal) → Contains (support s.conclusion) a → Contains held a
  conclusion_held a m = Contains-append_left (support s.conclusion) (names_of (formulas s.hypotheses)) a m

  sent_types : (as_ : List Nominal) → map (λ (a : Nominal). a.type) (map (moved_by ps) as_) ≡ map (λ (a : Nominal). a.type) as_
  sent_types [] = refl
  sent_types (a ∷ as_) = ap (λ A. A ∷ map (λ (b : Nominal). b.type) (map (moved_by ps) as_)) ((one_to_one ps table).keeps a) ∙ ap (λ k. a.type ∷ k) (sent_types as_)

  found : (cs : List Nominal) × Contains (choices As S held) cs × AllPairs (λ a b. a ≢ b) cs × clauses.Each (Matches S S held) sent cs
  found = matched As S S held S_held S_held sent (sent_types ns ∙ i.types)
      (AllPairs-map (moved_by ps) (λ a b. a ≢ b) ns (λ j k e m n q. i.different j k e m n (sent_once ps table _ _ q)))
      (λ n m. contains_or_not same_nominal same_nominal-Decides S n)

  abbrev cs : List Nominal
  cs = found.0

  -- the other constants of the terms

  abbrev new : List Nominal
  new = outside (in_order (names_of (map under us))) (support (under C) ++ ns)

  abbrev first : ℕ
  first = above (held ++ cs)

  abbrev FreeHere : Nominal → Nominal → Type 0
  FreeHere = Free ps table (under C) s.conclusion (l.conclusion.same).2

  chosen_types : (as_ bs : List Nominal) → clauses.Each (Matches S S held) (map (moved_by ps) as_) bs → OfOneType as_ bs
  chosen_types [] [] e = tt
  chosen_types [] (b ∷ bs) e = absurd e
  chosen_types (a ∷ as_) [] e = absurd e
  chosen_types (a ∷ as_) (b ∷ bs) e = (sym ((one_to_one ps table).keeps a) ∙ e.0.0, chosen_types as_ bs e.1)

  chosen_free : (as_ bs : List Nominal) → clauses.Each (Matches S S held) (map (moved_by ps) as_) bs → Each FreeHere as_ bs
  chosen_free [] [] e = tt
  chosen_free [] (b ∷ bs) e = absurd e
  chosen_free (a ∷ as_) [] e = absurd e
  chosen_free (a ∷ as_) (b ∷ bs) e = (
    (elim e.0.1 [
      | inl k ↦ inl k.0
      | inr n ↦ inr (
        (λ m. n.0 (ordered_contains (support_of_all here.arguments) (moved_by ps a) (like_atom.holds (moved_by ps a) (moved_here ps (l.conclusion.same).2 a m)))),
        (λ m. n.1 (conclusion_held b m)),
      )
    ]),
    chosen_free as_ bs e.1,
  )
    where
      moved_here : (rs : List (Nominal × Nominal)) → forget (permute rs (under C)) ≡ forget s.conclusion → (a : Nominal) → Contains (support (under C)) a → Contains (support s.conclusion) (moved_by rs a)
      moved_here rs same a m = subst (λ k. Contains k (moved_by rs a)) (sym (support-rename (moved_by rs) (under C)) ∙ support_past_hints (permute rs (under C)) s.conclusion same) (Contains-map (moved_by rs) (support (under C)) a m)

  new_free : (as_ : List Nominal) (n : ℕ) → first ≤ n → ((a : Nominal) → Contains as_ a → ¬ Contains (support (under C)) a) → Each FreeHere as_ (fresh n as_)
  new_free [] n le out = tt
  new_free (a ∷ as_) n le out = (
    inr (out a (Contains-here a as_), λ m. let low = number_below (held ++ cs) (record { number = n; type = a.type }) (Contains-append_left held cs (record { number = n; type = a.type }) (conclusion_held (record { number = n; type = a.type }) m)) in omega (arith, low, le)),
    new_free as_ (suc n) (omega (arith, le)) (λ b m. out b (Contains-there a as_ b m)),
  )

  new_out : (a : Nominal) → Contains new a → (¬ Contains (support (under C)) a) × (¬ Contains ns a)
  new_out a m = let o = (outside_contains (in_order (names_of (map under us))) (support (under C) ++ ns) a m).1 in
      ((λ k. o (Contains-append_left (support (under C)) ns a k)), (λ k. o (Contains-append_right (support (under C)) ns a k)))

  froms_types : OfOneType (ns ++ new) (cs ++ fresh first new)
  froms_types = append_types ns cs new (fresh first new) (chosen_types ns cs found.3) (fresh_types first new)

  froms_differ : AllPairs (λ a b. a ≢ b) (ns ++ new)
  froms_differ = append_differ ns new i.different (kept_pairs (λ a. not (is_in (support (under C) ++ ns) a)) (λ a b. a ≢ b) (in_order (names_of (map under us))) (ordered_pairs (names_of (map under us)))) (λ a m k. (new_out a k).1 m)

  tos_differ : AllPairs (λ a b. a ≢ b) (cs ++ fresh first new)
  tos_differ = append_differ cs (fresh first new) found.2 (fresh_differ first new)
      (λ a m k. let low = number_below (held ++ cs) a (Contains-append_right held cs a m) in let high = fresh_above first new a k in omega (arith, low, high))

  all_free : Each FreeHere (ns ++ new) (cs ++ fresh first new)
  all_free = append_each FreeHere ns cs new (fresh first new) (chosen_free ns cs found.3) (new_free new first (omega arith) (λ a m. (new_out a m).0))

  pub qs : List (Nominal × Nominal)
  qs = changed ps table (under C) s.conclusion (l.conclusion.same).2 (ns ++ new) (cs ++ fresh first new) froms_types froms_differ tos_differ all_free

  pub qs_permutes : IsPermutationTable qs
  unfolding qs
  qs_permutes = changed_permutes ps table (under C) s.conclusion (l.conclusion.same).2 (ns ++ new) (cs ++ fresh first new) froms_types froms_differ tos_differ all_free

  pub qs_same : forget (permute qs (under C)) ≡ forget s.conclusion
  unfolding qs
  qs_same = changed_same ps table (under C) s.conclusion (l.conclusion.same).2 (ns ++ new) (cs ++ fresh first new) froms_types froms_differ tos_differ all_free

  qs_sends : Each (λ a b. moved_by qs a ≡ b) ns cs × Each (λ a b. moved_by qs a ≡ b) new (fresh first new)
  unfolding qs
  qs_sends = front_each (λ a b. moved_by qs a ≡ b) ns cs new (fresh first new) (chosen_types ns cs found.3) (changed_sends ps table (under C) s.conclusion (l.conclusion.same).2 (ns ++ new) (cs ++ fresh first new) froms_types froms_differ tos_differ all_free)

  -- THE CHOICE
  abbrev pub choice : Choice
  choice = record { clause = c; names = map (moved_by qs) ns }

  names_are : map (moved_by qs) ns ≡ cs
  names_are = sent_list (moved_by qs) ns cs qs_sends.0

  pub of_it : c.predicate ≡ here.predicate
  of_it = same_predicate (signature_in D) [] (filled (codes "x") c us ns) c.predicate d.predicate d.arguments c.arguments (i.head ∙ ap forget (sym (image_none (spine (constant d.predicate) d.arguments)))) ∙ sym like_atom.predicate

  pub is_choice : Contains (choices As S held) (map (moved_by qs) ns)
  is_choice = subst (Contains (choices As S held)) (sym names_are) found.1

  pub listed : Contains (choices_of held here) choice
  listed =
      gathered (λ (e : Clause (List ℕ)). map (λ ks. record { clause = e; names = ks }) (choices (map (λ z. z.type) e.names) S held)) (filter (λ (e : Clause (List ℕ)). bytes_eq e.predicate here.predicate) here.block.clauses) c choice
      (kept_contains (λ (e : Clause (List ℕ)). bytes_eq e.predicate here.predicate) here.block.clauses c (subst (λ b. Contains b.clauses c) (sym like_atom.block) i.one) ((bytes_eq-Decides c.predicate here.predicate).1 of_it))
      (Contains-map (λ ks. record { clause = c; names = ks }) (choices As S held) (map (moved_by qs) ns) is_choice)

  -- each number has one type
  pub one_type : HasOneTypeEach (held ++ (map (moved_by qs) ns ++ names_of (map (λ u. permute qs (under u)) us)))
  one_type a b m k e = both (place a m) (place b k)
    where
      beside : HasOneTypeEach (cs ++ held)
      beside = choice_one_type As S held cs S_held is.one_type found.1

      old : (x : Nominal) → Contains held x ⊎ Contains cs x → Contains (cs ++ held) x
      old x o = elim o [ inl h ↦ Contains-append_right cs held x h | inr h ↦ Contains-append_left cs held x h ]

      low_old : (x : Nominal) → Contains (cs ++ held) x → Contains (held ++ cs) x
      low_old x h = elim (Contains-append_cases cs held x h) [ inl j ↦ Contains-append_right held cs x j | inr j ↦ Contains-append_left held cs x j ]

      of_terms : (x : Nominal) → Contains (names_of (map (λ u. permute qs (under u)) us)) x → Contains (cs ++ held) x ⊎ Contains (fresh first new) x
      of_terms x h =
          let r = names_from (λ u. permute qs (under u)) us x h in
          let w = Contains-from_map (moved_by qs) (support (under r.0)) x (subst (λ z. Contains z x) (support-rename (moved_by qs) (under r.0)) r.2) in
          elim (in_or_outside (in_order (names_of (map under us))) (support (under C) ++ ns) w.0 (ordered_contains (names_of (map under us)) w.0 (names_in under us r.0 w.0 r.1 w.1))) [
            | inl o ↦ elim (Contains-append_cases (support (under C)) ns w.0 o) [
              | inl j ↦ inl (old x (inl (conclusion_held x (subst (Contains (support s.conclusion)) w.2
                  (subst (λ z. Contains z (moved_by qs w.0)) (sym (support-rename (moved_by qs) (under C)) ∙ support_past_hints (permute qs (under C)) s.conclusion qs_same) (Contains-map (moved_by qs) (support (under C)) w.0 j))))))
              | inr j ↦ inl (old x (inr (subst (Contains cs) w.2 (sent_in (moved_by qs) ns cs qs_sends.0 w.0 j))))
            ]
            | inr o ↦ inr (subst (Contains (fresh first new)) w.2 (sent_in (moved_by qs) new (fresh first new) qs_sends.1 w.0 o))
          ]

      place : (x : Nominal) → Contains (held ++ (map (moved_by qs) ns ++ names_of (map (λ u. permute qs (under u)) us))) x → Contains (cs ++ held) x ⊎ Contains (fresh first new) x
      place x h = elim (Contains-append_cases held (map (moved_by qs) ns ++ names_of (map (λ u. permute qs (under u)) us)) x h) [
        | inl j ↦ inl (old x (inl j))
        | inr j ↦ elim (Contains-append_cases (map (moved_by qs) ns) (names_of (map (λ u. permute qs (under u)) us)) x j) [
          | inl g ↦ inl (old x (inr (subst (λ z. Contains z x) names_are g)))
          | inr g ↦ of_terms x g
        ]
      ]

      both : Contains (cs ++ held) a ⊎ Contains (fresh first new) a → Contains (cs ++ held) b ⊎ Contains (fresh first new) b → a ≡ b
      both (inl x) (inl y) = beside a b x y e
      both (inl x) (inr y) = absurd (let low = number_below (held ++ cs) a (low_old a x) in let high = fresh_above first new b y in omega (arith, low, high, e))
      both (inr x) (inl y) = absurd (let low = number_below (held ++ cs) b (low_old b y) in let high = fresh_above first new a x in omega (arith, low, high, e))
      both (inr x) (inr y) = fresh_once first new a b x y e
