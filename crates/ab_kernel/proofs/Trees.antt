-- The nodes of a proof stand for its derivation after a step, where they did before it.
use Rattle.std.specs.Prelude.{slice_set}
use Rattle.std.specs.Option.{option_map}
use Rattle.std.proofs.Common.{◌≡◌, ◌≢◌, ℕ, zero, suc, ◌+◌, ◌-◌, ◌<◌, ◌≤◌, inl, inr, List, [], ◌∷◌, ◌++◌, Option, Some, None, length, map, take, drop, reverse, refl, sym, ◌∙◌, ap, subst, arith, append_assoc, append-nil, length-append, length-drop}
use Rattle.std.proofs.lemmas.List.{length-map, reverse-append, length-reverse, length-take-le, get_or-set_other, get_or_append_left, length-set}
use Rattle.std.proofs.lemmas.Option.{get_or_from_slice_get}
use Rattle.ab_formulas.specs.Sequents.{Sequent}
use Rattle.ab_logic.specs.SequentReadings.{sequent_of}
use Rattle.ab_logic.specs.declared.world.World.{World}
use Rattle.ab_logic.specs.declared.sequent.Sequent.{Sequent as Kept}
use Rattle.ab_theory.specs.Steps.{Step}
use Rattle.ab_rules.specs.RuleAnswers.{step_of}
use Rattle.ab_kernel.specs.declared.node.ProofNode.{ProofNode}
use Rattle.ab_kernel.specs.Nodes.{open_node, IsClear, no_node, node_at, numbers_up}
use Rattle.ab_theory.specs.Derivations.{Derivation, goal, by, Derivations, none, more, open_goals, all_open_goals, goals, refined, refined_in}
use Rattle.ab_kernel.specs.Layout.{numbers_down, Differs, AreDistinct}
use Rattle.ab_kernel.specs.NodeTrees.{IsNode, StandsFor, StandFor, leaves, all_leaves, Tree}
use Rattle.ab_formulas.proofs.KernelSplits.{At, place_cases, get_here, at_reversed}
use Rattle.ab_kernel.proofs.Filling.{filled, differs_parts, differs_join, distinct_parts}
use Rattle.ab_theory.proofs.Refining.{here, there}

-- so many numbers from the first on, the first of them first
abbrev counting : ℕ → ℕ → List ℕ
counting first zero = []
counting first (suc n) = first ∷ counting (suc first) n

counting_more : (first n : ℕ) → counting first (suc n) ≡ counting first n ++ (first + n) ∷ []
counting_more first zero = let e : first ≡ first + 0 = omega arith in ap (λ k. k ∷ []) e
counting_more first (suc n) =
    let e : suc first + n ≡ first + suc n = omega arith in
    ap (λ ks. first ∷ ks) (counting_more (suc first) n ∙ ap (λ k. counting (suc first) n ++ k ∷ []) e)

counted_up : (first n : ℕ) → counting first n ≡ numbers_up first n
counted_up first zero = refl
counted_up first (suc n) = counting_more first n ∙ ap (λ ks. ks ++ (first + n) ∷ []) (counted_up first n)

turned_down : (first n : ℕ) → reverse (numbers_down first n) ≡ counting first n
turned_down first zero = refl
turned_down first (suc n) =
    reverse-append ((first + n) ∷ []) (numbers_down first n)
    ∙ ap (λ ks. ks ++ (first + n) ∷ []) (turned_down first n)
    ∙ sym (counting_more first n)

differs_turned : (n : ℕ) (xs : List ℕ) → Differs n xs → Differs n (reverse xs)
differs_turned n [] d = tt
differs_turned n (x ∷ xs) d =
    subst (Differs n) (sym (reverse-append (x ∷ []) xs)) (differs_join n (reverse xs) (x ∷ []) (differs_turned n xs d.1) (d.0, tt))

-- a list in two parts, cut in the first of them, or in the second
split_first : (us vs xs : List ℕ) (n : ℕ) (ys : List ℕ) → us ++ vs ≡ xs ++ n ∷ ys → length xs < length us
    → (zs : List ℕ) × (us ≡ xs ++ n ∷ zs) × (ys ≡ zs ++ vs)
split_first [] vs xs n ys e l = absurd (omega arith)
split_first (u ∷ us) vs [] n ys e l =
    let head : u ≡ n = cc in
    let tail : ys ≡ us ++ vs = cc in
    (us, ap (λ k. k ∷ us) head, tail)
split_first (u ∷ us) vs (x ∷ xs) n ys e l =
    let head : u ≡ x = cc in
    let tail : us ++ vs ≡ xs ++ n ∷ ys = cc in
    let r = split_first us vs xs n ys tail (omega arith) in
    (r.0, ap (λ k. k ∷ us) head ∙ ap (λ ks. x ∷ ks) r.1, r.2)

split_second : (us vs xs : List ℕ) (n : ℕ) (ys : List ℕ) → us ++ vs ≡ xs ++ n ∷ ys → length us ≤ length xs
    → (zs : List ℕ) × (xs ≡ us ++ zs) × (vs ≡ zs ++ n ∷ ys)
split_second [] vs xs n ys e l = (xs, refl, e)
split_second (u ∷ us) vs [] n ys e l = absurd (omega arith)
split_second (u ∷ us) vs (x ∷ xs) n ys e l =
    let head : x ≡ u = cc in
    let tail : us ++ vs ≡ xs ++ n ∷ ys = cc in
    let r = split_second us vs xs n ys tail (omega arith) in
    (r.0, ap (λ k. k ∷ xs) head ∙ ap (λ ks. u ∷ ks) r.1, r.2)

no_longer : (xs : List ℕ) (n : ℕ) (ys : List ℕ) → length (xs ++ n ∷ ys) ≡ length xs + (length ys + 1)
no_longer xs n ys = length-append xs (n ∷ ys) ∙ omega arith

-- new nodes at the end, all open
fresh_stand : (w : World) (pre : List ProofNode) (made : List Kept) → StandFor w (pre ++ map open_node made) (goals (map (sequent_of w) made)) (counting (length pre) (length made))
fresh_stand w pre [] = tt
fresh_stand w pre (s ∷ ss) =
    let whole = pre ++ open_node s ∷ map open_node ss in
    let is_here : node_at whole (length pre) ≡ open_node s = get_or_from_slice_get whole (length pre) (open_node s) no_node (get_here pre (open_node s) (map open_node ss)) in
    let joined : (pre ++ open_node s ∷ []) ++ map open_node ss ≡ whole = append_assoc pre (open_node s ∷ []) (map open_node ss) in
    let count : length (pre ++ open_node s ∷ []) ≡ suc (length pre) = length-append pre (open_node s ∷ []) ∙ omega arith in
    let inside : length pre < length whole = omega (arith, length-append pre (open_node s ∷ map open_node ss)) in
    let first : IsNode w whole (length pre) (sequent_of w s) None = record {
      in_range = inside;
      has_goal = ap (λ (y : ProofNode). sequent_of w y.sequent) is_here;
      has_step = ap (λ (y : ProofNode). option_map (step_of w) y.step) is_here;
    } in
    let rest = fresh_stand w (pre ++ open_node s ∷ []) ss in (
      (first, ap (λ (y : ProofNode). y.children) is_here),
      subst (λ k. StandFor w whole (goals (map (sequent_of w) ss)) (counting k (length ss))) count
          (subst (λ zs. StandFor w zs (goals (map (sequent_of w) ss)) (counting (length (pre ++ open_node s ∷ [])) (length ss))) joined rest),
    )

fresh_leaves : (w : World) (nodes : List ProofNode) (made : List Kept) (first : ℕ) → all_leaves nodes (goals (map (sequent_of w) made)) (counting first (length made)) ≡ counting first (length made)
fresh_leaves w nodes [] first = refl
fresh_leaves w nodes (s ∷ ss) first = ap (λ ks. first ∷ ks) (fresh_leaves w nodes ss (suc first))

-- as many leaves as open goals
mutual
  many : (w : World) (nodes : List ProofNode) (d : Derivation) (m : ℕ) → StandsFor w nodes d m → length (leaves nodes d m) ≡ length (open_goals d)
  many w nodes (goal s) m st = refl
  many w nodes (by r s ds) m st = all_many w nodes ds (node_at nodes m).children st.1

  all_many : (w : World) (nodes : List ProofNode) (ds : Derivations) (ms : List ℕ) → StandFor w nodes ds ms → length (all_leaves nodes ds ms) ≡ length (all_open_goals ds)
  all_many w nodes none [] st = refl
  all_many w nodes none (m ∷ ms) st = absurd st
  all_many w nodes (more d ds) [] st = absurd st
  all_many w nodes (more d ds) (m ∷ ms) st =
      let one = many w nodes d m st.0 in
      let rest = all_many w nodes ds ms st.1 in
      omega (arith, length-append (leaves nodes d m) (all_leaves nodes ds ms), length-append (open_goals d) (all_open_goals ds), one, rest)

-- the nodes after a step: the goal's node filled, and the premises behind
module _ (w : World) (nodes : List ProofNode) (made : List Kept) (node : ℕ) (x : ProofNode) (new : List ProofNode)
    (within : node < length nodes) (clear : IsClear (node_at nodes node)) (same : x.sequent ≡ (node_at nodes node).sequent)
    (is : new ≡ slice_set nodes node x ++ map open_node made) where
  long : length (slice_set nodes node x) ≡ length nodes
  long = length-set nodes node x

  longer : length new ≡ length nodes + length made
  longer = ap length is ∙ length-append (slice_set nodes node x) (map open_node made) ∙ omega (arith, long, length-map made open_node)

  untouched : (m : ℕ) → m < length nodes → node ≢ m → node_at new m ≡ node_at nodes m
  untouched m l apart =
      ap (λ ns. node_at ns m) is
      ∙ get_or_append_left (slice_set nodes node x) (map open_node made) no_node m (omega (arith, long))
      ∙ get_or-set_other nodes node m x no_node (λ e. apart (sym e))

  node_still : (m : ℕ) (s : Sequent) (t : Option Step) → node_at new m ≡ node_at nodes m → IsNode w nodes m s t → IsNode w new m s t
  node_still m s t u i = record {
    in_range = omega (arith, i.in_range, longer);
    has_goal = ap (λ (y : ProofNode). sequent_of w y.sequent) u ∙ i.has_goal;
    has_step = ap (λ (y : ProofNode). option_map (step_of w) y.step) u ∙ i.has_step;
  }

  -- a node at which a step was taken is another one
  elsewhere : (m : ℕ) (s : Sequent) (r : Step) → IsNode w nodes m s (Some r) → node ≢ m
  elsewhere m s r i e =
      let nothing : option_map (step_of w) (node_at nodes m).step ≡ None =
      ap (λ k. option_map (step_of w) (node_at nodes k).step) (sym e) ∙ ap (λ (y : ProofNode). option_map (step_of w) y.step) clear in
      let both : Some r ≡ None = sym i.has_step ∙ nothing in
      cc

  mutual
    kept : (d : Derivation) (m : ℕ) → StandsFor w nodes d m → Differs node (leaves nodes d m) → StandsFor w new d m × (leaves new d m ≡ leaves nodes d m)
    kept (goal s) m st apart =
        let u = untouched m st.0.in_range apart.0 in
        ((node_still m s None u st.0, ap (λ (y : ProofNode). y.children) u ∙ st.1), refl)
    kept (by r s ds) m st apart =
        let u = untouched m st.0.in_range (elsewhere m s r st.0) in
        let c : (node_at new m).children ≡ (node_at nodes m).children = ap (λ (y : ProofNode). y.children) u in
        let rest = all_kept ds (node_at nodes m).children st.1 apart in (
          (node_still m s (Some r) u st.0, subst (StandFor w new ds) (sym c) rest.0),
          ap (all_leaves new ds) c ∙ rest.1,
        )

    all_kept : (ds : Derivations) (ms : List ℕ) → StandFor w nodes ds ms → Differs node (all_leaves nodes ds ms)
        → StandFor w new ds ms × (all_leaves new ds ms ≡ all_leaves nodes ds ms)
    all_kept none [] st apart = (tt, refl)
    all_kept none (m ∷ ms) st apart = absurd st
    all_kept (more d ds) [] st apart = absurd st
    all_kept (more d ds) (m ∷ ms) st apart =
        let parts = differs_parts node (leaves nodes d m) (all_leaves nodes ds ms) apart in
        let a = kept d m st.0 parts.0 in
        let b = all_kept ds ms st.1 parts.1 in
        ((a.0, b.0), ap (λ xs. xs ++ all_leaves new ds ms) a.1 ∙ ap (λ ys. leaves nodes d m ++ ys) b.1)

  module _ (step : Step) (has_step : option_map (step_of w) x.step ≡ Some step) (has_children : x.children ≡ numbers_up (length nodes) (length made)) where
    abbrev fresh : List ℕ
    fresh = counting (length nodes) (length made)

    abbrev ps : List Sequent
    ps = map (sequent_of w) made

    here_is : node_at new node ≡ x
    here_is = filled nodes made node x new within clear same is

    children_now : (node_at new node).children ≡ fresh
    children_now = ap (λ (y : ProofNode). y.children) here_is ∙ has_children ∙ sym (counted_up (length nodes) (length made))

    premises_stand : StandFor w new (goals ps) fresh
    premises_stand =
        subst (λ zs. StandFor w zs (goals ps) fresh) (sym is)
        (subst (λ k. StandFor w (slice_set nodes node x ++ map open_node made) (goals ps) (counting k (length made))) long
        (fresh_stand w (slice_set nodes node x) made))

    at_node : (s : Sequent) → IsNode w nodes node s None → StandsFor w new (by step s (goals ps)) node × (leaves new (by step s (goals ps)) node ≡ fresh)
    at_node s i =
        let now : IsNode w new node s (Some step) = record {
          in_range = omega (arith, within, longer);
          has_goal = ap (λ (y : ProofNode). sequent_of w y.sequent) here_is ∙ ap (sequent_of w) same ∙ i.has_goal;
          has_step = ap (λ (y : ProofNode). option_map (step_of w) y.step) here_is ∙ has_step;
        } in (
          (now, subst (StandFor w new (goals ps)) (sym children_now) premises_stand),
          ap (all_leaves new (goals ps)) children_now ∙ fresh_leaves w new made (length nodes),
        )

    mutual
      step_at : (place : ℕ) (d : Derivation) (m : ℕ) (xs ys : List ℕ) → StandsFor w nodes d m → leaves nodes d m ≡ xs ++ node ∷ ys → length xs ≡ place
          → Differs node xs → Differs node ys
          → StandsFor w new (refined place step ps d) m × (leaves new (refined place step ps d) m ≡ xs ++ (fresh ++ ys))
      step_at place (goal s) m [] ys st e counted before behind =
          let same_number : node ≡ m = cc in
          let nil : [] ≡ ys = cc in
          let now = at_node s (subst (λ k. IsNode w nodes k s None) (sym same_number) st.0) in (
            subst (StandsFor w new (by step s (goals ps))) same_number now.0,
            ap (leaves new (by step s (goals ps))) (sym same_number) ∙ now.1 ∙ sym (append-nil fresh) ∙ ap (λ zs. fresh ++ zs) nil,
          )
      step_at place (goal s) m (x1 ∷ xs) ys st e counted before behind =
          let as_long : 1 ≡ length (x1 ∷ xs) + (length ys + 1) = ap length e ∙ no_longer (x1 ∷ xs) node ys in
          absurd (omega (arith, as_long))
      step_at place (by r s ds) m xs ys st e counted before behind =
          let u = untouched m st.0.in_range (elsewhere m s r st.0) in
          let c : (node_at new m).children ≡ (node_at nodes m).children = ap (λ (y : ProofNode). y.children) u in
          let rest = all_step_at place ds (node_at nodes m).children xs ys st.1 e counted before behind in (
            (node_still m s (Some r) u st.0, subst (StandFor w new (refined_in place step ps ds)) (sym c) rest.0),
            ap (all_leaves new (refined_in place step ps ds)) c ∙ rest.1,
          )

      all_step_at : (place : ℕ) (ds : Derivations) (ms : List ℕ) (xs ys : List ℕ) → StandFor w nodes ds ms → all_leaves nodes ds ms ≡ xs ++ node ∷ ys → length xs ≡ place
          → Differs node xs → Differs node ys
          → StandFor w new (refined_in place step ps ds) ms × (all_leaves new (refined_in place step ps ds) ms ≡ xs ++ (fresh ++ ys))
      all_step_at place none [] xs ys st e counted before behind =
          let as_long : 0 ≡ length xs + (length ys + 1) = ap length e ∙ no_longer xs node ys in
          absurd (omega (arith, as_long))
      all_step_at place none (m ∷ ms) xs ys st e counted before behind = absurd st
      all_step_at place (more d ds) [] xs ys st e counted before behind = absurd st
      all_step_at place (more d ds) (m ∷ ms) xs ys st e counted before behind =
          let count = many w nodes d m st.0 in
          elim (place_cases place (length (open_goals d))) [
            | inl c ↦
                let cut = split_first (leaves nodes d m) (all_leaves nodes ds ms) xs node ys e (omega (arith, c.0, count, counted)) in
                let parts = differs_parts node cut.0 (all_leaves nodes ds ms) (subst (Differs node) cut.2 behind) in
                let a = step_at place d m xs cut.0 st.0 cut.1 counted before parts.0 in
                let b = all_kept ds ms st.1 parts.1 in
                subst (λ es. StandFor w new es (m ∷ ms) × (all_leaves new es (m ∷ ms) ≡ xs ++ (fresh ++ ys))) (sym (here step ps place d ds c.1)) (
                  (a.0, b.0),
                  ap (λ zs. zs ++ all_leaves new ds ms) a.1
                      ∙ ap (λ zs. (xs ++ (fresh ++ cut.0)) ++ zs) b.1
                      ∙ append_assoc xs (fresh ++ cut.0) (all_leaves nodes ds ms)
                      ∙ ap (λ zs. xs ++ zs) (append_assoc fresh cut.0 (all_leaves nodes ds ms))
                      ∙ ap (λ zs. xs ++ (fresh ++ zs)) (sym cut.2),
                )
            | inr c ↦
                let cut = split_second (leaves nodes d m) (all_leaves nodes ds ms) xs node ys e (omega (arith, c.0, count, counted)) in
                let parts = differs_parts node (leaves nodes d m) cut.0 (subst (Differs node) cut.1 before) in
                let left : length cut.0 ≡ place - length (open_goals d) =
                omega (arith, ap length cut.1, length-append (leaves nodes d m) cut.0, count, counted) in
                let a = kept d m st.0 parts.0 in
                let b = all_step_at (place - length (open_goals d)) ds ms cut.0 ys st.1 cut.2 left parts.1 behind in
                subst (λ es. StandFor w new es (m ∷ ms) × (all_leaves new es (m ∷ ms) ≡ xs ++ (fresh ++ ys))) (sym (there step ps place d ds c.1)) (
                  (a.0, b.0),
                  ap (λ zs. zs ++ all_leaves new (refined_in (place - length (open_goals d)) step ps ds) ms) a.1
                      ∙ ap (λ zs. leaves nodes d m ++ zs) b.1
                      ∙ sym (append_assoc (leaves nodes d m) cut.0 (fresh ++ ys))
                      ∙ ap (λ zs. zs ++ (fresh ++ ys)) (sym cut.1),
                )
          ]

    -- the nodes after the step stand for the derivation after it
    pub tree_after : (ns ns' : List ℕ) (d : Derivation) (place at : ℕ) → Tree w nodes ns d → ns ≡ take at ns ++ node ∷ drop (at + 1) ns → AreDistinct ns
        → place + at + 1 ≡ length ns → ns' ≡ take at ns ++ numbers_down (length nodes) (length made) ++ drop (at + 1) ns
        → Tree w new ns' (refined place step ps d)
    tree_after ns ns' d place at tree split distinct e is_ns =
        let L = take at ns in
        let M = drop (at + 1) ns in
        let down = numbers_down (length nodes) (length made) in
        let there_is : At ns at node L M = record { whole = split; counted = length-take-le at ns (omega arith) } in
        let turned = at_reversed there_is in
        let parts = distinct_parts L node M (subst AreDistinct split distinct) in
        let counted : length (reverse M) ≡ place = length-reverse M ∙ length-drop (at + 1) ns ∙ omega arith in
        let now = step_at place d 0 (reverse M) (reverse L) tree.stands (tree.in_order ∙ turned.whole) counted (differs_turned node M parts.1) (differs_turned node L parts.0) in
        record {
          stands = now.0;
          in_order =
              now.1
              ∙ ap (λ zs. reverse M ++ (zs ++ reverse L)) (sym (turned_down (length nodes) (length made)))
              ∙ ap (λ zs. reverse M ++ zs) (sym (reverse-append L down))
              ∙ sym (reverse-append (L ++ down) M)
              ∙ ap reverse (sym is_ns);
        }
