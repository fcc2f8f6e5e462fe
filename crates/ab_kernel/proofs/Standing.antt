-- What the fields of a `Proof` stand for, before and after a step.
use Rattle.std.specs.Prelude.{slice_get, IsTrue, ◌↔◌, ◌==◌}
use Rattle.std.proofs.Common.{◌≡◌, ℕ, zero, suc, ◌+◌, ◌-◌, ◌<◌, ◌≤◌, Bool, true, Some, List, [], ◌∷◌, ◌++◌, length, map, reverse, take, drop, get_or, refl, sym, ◌∙◌, ap, subst, arith, append_assoc, length-append, length-drop}
use Rattle.std.proofs.lemmas.List.{length-map, reverse-append, length-reverse, take_at, drop_at, map-append, length-take-le}
use Rattle.std.proofs.lemmas.Option.{slice_get_within, get_or_from_slice_get, slice_get_read, slice_get-map}
use Rattle.std.proofs.lemmas.Bool.{eqb-true, eq-eqb}
use Rattle.std.proofs.Math.Seq.{take-suc}
use Rattle.ab_theory.specs.Steps.{Step}
use Rattle.ab_kernel.specs.Layout.{StepAt, numbers_down, sequents_before, premises_of, made_by, Reads, start_of, open_before, Stands}
use Rattle.std.specs.Option.{option_map}
use Rattle.ab_logic.specs.declared.world.World.{World}
use Rattle.ab_logic.specs.declared.sequent.Sequent.{Sequent as Kept}
use Rattle.ab_formulas.specs.Sequents.{Sequent}
use Rattle.ab_logic.specs.SequentReadings.{sequent_of}
use Rattle.ab_rules.specs.declared.step.Step.{Step as KeptStep}
use Rattle.ab_rules.specs.RuleAnswers.{step_of}
use Rattle.ab_formulas.specs.Declarations.{Declarations}
use Rattle.ab_theory.specs.Rules.{NamedRule}
use Rattle.ab_theory.specs.Derivations.{Derivation, root, open_goals, refined, History, after, IsStep}
use Rattle.ab_formulas.proofs.KernelSplits.{At, at_place, at_reversed, cut_images, within, still_got, get_still, get_right, empty}
use Rattle.ab_kernel.proofs.Placing.{length-numbers_down}
use Rattle.ab_theory.proofs.Refining.{root-refined, open_goals-refined}

pub reads_now : (w : World) (ss : List Sequent) (ns : List ℕ) (rs : List StepAt) → Stands w ss ns rs → Reads ss ns (made_by w ss rs).tree
reads_now w ss ns [] s = s
reads_now w ss ns (r ∷ rs) s = s.0

module _ {ss : List Sequent} {ns : List ℕ} {d : Derivation} (reads : Reads ss ns d) where
  pub as_many : length ns ≡ length (open_goals d)
  as_many =
      sym (length-map ns (slice_get ss)) ∙ ap length reads.open_read
      ∙ length-map (reverse (open_goals d)) Some ∙ length-reverse (open_goals d)

  -- the open goal of a place, and its number
  pub record Here (place at : ℕ) : Type 0 where
    pub sequent : Sequent
    pub number : ℕ
    pub in_goals : slice_get (open_goals d) place ≡ Some sequent
    pub in_numbers : slice_get ns at ≡ Some number
    pub read : slice_get ss number ≡ Some sequent
    pub before : map (slice_get ss) (take at ns) ≡ map Some (reverse (drop (place + 1) (open_goals d)))
    pub behind : map (slice_get ss) (drop (at + 1) ns) ≡ map Some (reverse (take place (open_goals d)))

  pub open_here : (place at : ℕ) → place + at + 1 ≡ length ns → Here place at
  open_here place at e =
      let og = open_goals d in
      let inside : place < length og = omega (arith, as_many) in
      let w = within og place inside in
      let L = take place og in
      let M = drop (place + 1) og in
      let r : At (reverse og) (length M) w.0 (reverse M) (reverse L) = at_reversed (at_place og place w.0 w.1) in
      let images : map (slice_get ss) ns ≡ map Some (reverse M) ++ Some w.0 ∷ map Some (reverse L) =
      reads.open_read ∙ ap (map Some) r.whole ∙ map-append Some (reverse M) (w.0 ∷ reverse L) in
      let cut = cut_images (slice_get ss) ns (map Some (reverse M)) (Some w.0) (map Some (reverse L)) images in
      let counted : length (map Some (reverse M)) ≡ at =
      length-map (reverse M) Some ∙ length-reverse M ∙ length-drop (place + 1) og ∙ omega (arith, as_many) in
      record {
        sequent = w.0;
        number = cut.here;
        in_goals = w.1;
        in_numbers = ap (slice_get ns) (sym counted) ∙ cut.is_here;
        read = cut.image;
        before = ap (λ k. map (slice_get ss) (take k ns)) (sym counted) ∙ cut.before;
        behind = ap (λ k. map (slice_get ss) (drop (k + 1) ns)) (sym counted) ∙ cut.behind;
      }

-- the new sequents, read by their numbers
new_reads_to : (ss ps : List Sequent) (c : ℕ) → c ≤ length ps → map (slice_get (ss ++ ps)) (numbers_down (length ss) c) ≡ map Some (reverse (take c ps))
new_reads_to ss ps zero h = refl
new_reads_to ss ps (suc c) h =
    let w = within ps c (omega arith) in
    let last : take (suc c) ps ≡ take c ps ++ w.0 ∷ [] =
    take-suc ps c w.0 (omega arith) ∙ ap (λ s. take c ps ++ s ∷ []) (get_or_from_slice_get ps c w.0 w.0 w.1) in
    let turned : reverse (take (suc c) ps) ≡ w.0 ∷ reverse (take c ps) =
    ap reverse last ∙ reverse-append (take c ps) (w.0 ∷ []) in
    let back : length ss + c - length ss ≡ c = omega arith in
    let first : slice_get (ss ++ ps) (length ss + c) ≡ Some w.0 =
    get_right ss ps (length ss + c) (omega arith) ∙ ap (slice_get ps) back ∙ w.1 in
    let rest = new_reads_to ss ps c (omega arith) in
    ap (λ o. o ∷ map (slice_get (ss ++ ps)) (numbers_down (length ss) c)) first
    ∙ ap (λ os. Some w.0 ∷ os) rest
    ∙ ap (map Some) (sym turned)

pub new_reads : (ss ps : List Sequent) → map (slice_get (ss ++ ps)) (numbers_down (length ss) (length ps)) ≡ map Some (reverse ps)
new_reads ss ps = new_reads_to ss ps (length ps) (omega arith) ∙ ap (λ qs. map Some (reverse qs)) (take-all ps)
  where
    take-all : (qs : List Sequent) → take (length qs) qs ≡ qs
    take-all [] = refl
    take-all (q ∷ qs) = ap (λ rs. q ∷ rs) (take-all qs)

-- a step, taken
module _ (w : World) (ss : List Sequent) (ns : List ℕ) (rs : List StepAt) (stands : Stands w ss ns rs) (kept : KeptStep) (ps : List Sequent) (place at number : ℕ) where
  abbrev h : History
  h = made_by w ss rs

  abbrev step : Step
  step = step_of w kept

  abbrev r : StepAt
  r = record { step = kept; place = place; node = number; premises = length ps }

  abbrev new_numbers : List ℕ
  new_numbers = take at ns ++ numbers_down (length ss) (length ps) ++ drop (at + 1) ns

  counted : length (ss ++ ps) - length ps ≡ length ss
  counted = omega (arith, length-append ss ps)

  pub taken : sequents_before r (ss ++ ps) ≡ ss
  taken = take_at ss ps (length (ss ++ ps) - length ps) (sym counted)

  pub left : premises_of r (ss ++ ps) ≡ ps
  left = drop_at ss ps (length (ss ++ ps) - length ps) (sym counted)

  pub made_after : made_by w (ss ++ ps) (r ∷ rs) ≡ after place step ps h
  made_after =
      ap (λ qs. after place step qs (made_by w (sequents_before r (ss ++ ps)) rs)) left
      ∙ ap (λ qs. after place step ps (made_by w qs rs)) taken

  module _ (s : Sequent) (e : place + at + 1 ≡ length ns)
      (is_number : slice_get ns at ≡ Some number) (is_goal : slice_get (open_goals h.tree) place ≡ Some s) where
    now : Reads ss ns h.tree
    now = reads_now w ss ns rs stands

    inside : place < length (open_goals h.tree)
    inside = omega (arith, as_many now, e)

    tree : Derivation
    tree = refined place step ps h.tree

    pub opened : open_goals (refined place step ps h.tree) ≡ take place (open_goals h.tree) ++ ps ++ drop (place + 1) (open_goals h.tree)
    opened = open_goals-refined step ps place h.tree inside

    turned : reverse (open_goals (refined place step ps h.tree)) ≡ reverse (drop (place + 1) (open_goals h.tree)) ++ (reverse ps ++ reverse (take place (open_goals h.tree)))
    turned =
        ap reverse opened
        ∙ reverse-append (take place (open_goals h.tree) ++ ps) (drop (place + 1) (open_goals h.tree))
        ∙ ap (λ qs. reverse (drop (place + 1) (open_goals h.tree)) ++ qs) (reverse-append (take place (open_goals h.tree)) ps)

    read_again : map (slice_get (ss ++ ps)) new_numbers ≡ map Some (reverse (open_goals (refined place step ps h.tree)))
    read_again =
        let cut = open_here now place at e in
        let first = still_got ss ps (take at ns) _ cut.before in
        let last = still_got ss ps (drop (at + 1) ns) _ cut.behind in
        let got = map (slice_get (ss ++ ps)) in
        let P = reverse (take place (open_goals h.tree)) in
        let M = reverse (drop (place + 1) (open_goals h.tree)) in
        map-append (slice_get (ss ++ ps)) (take at ns ++ numbers_down (length ss) (length ps)) (drop (at + 1) ns)
        ∙ ap (λ qs. qs ++ got (drop (at + 1) ns)) (map-append (slice_get (ss ++ ps)) (take at ns) (numbers_down (length ss) (length ps)))
        ∙ ap (λ qs. qs ++ got (numbers_down (length ss) (length ps)) ++ got (drop (at + 1) ns)) first
        ∙ ap (λ qs. map Some M ++ qs ++ got (drop (at + 1) ns)) (new_reads ss ps)
        ∙ ap (λ qs. map Some M ++ map Some (reverse ps) ++ qs) last
        ∙ append_assoc (map Some M) (map Some (reverse ps)) (map Some P)
        ∙ ap (λ qs. map Some M ++ qs) (sym (map-append Some (reverse ps) P))
        ∙ sym (map-append Some M (reverse ps ++ P))
        ∙ ap (map Some) (sym turned)

    pub reads_after : Reads (ss ++ ps) new_numbers (refined place step ps h.tree)
    reads_after = record {
      rooted =
          get_still ss ps 0 (root h.tree) now.rooted ∙ ap Some (sym (root-refined step ps place h.tree));
      open_read = read_again;
    }

    counted_numbers : length new_numbers ≡ place + length ps + at
    counted_numbers =
        length-append (take at ns ++ numbers_down (length ss) (length ps)) (drop (at + 1) ns)
        ∙ ap (λ k. k + length (drop (at + 1) ns)) (length-append (take at ns) (numbers_down (length ss) (length ps)))
        ∙ omega (arith, length-take-le at ns (omega arith), length-numbers_down (length ss) (length ps), length-drop (at + 1) ns, e)

    starts : start_of r new_numbers ≡ at
    starts = omega (arith, counted_numbers)

    pub restored : open_before r new_numbers ≡ ns
    restored =
        let whole : ns ≡ take at ns ++ number ∷ drop (at + 1) ns = (at_place ns at number is_number).whole in
        let shorter : length (take at ns) ≡ at = (at_place ns at number is_number).counted in
        let shape : new_numbers ≡ take at ns ++ (numbers_down (length ss) (length ps) ++ drop (at + 1) ns) =
        append_assoc (take at ns) (numbers_down (length ss) (length ps)) (drop (at + 1) ns) in
        let front : take at new_numbers ≡ take at ns =
        ap (take at) shape ∙ take_at (take at ns) _ at shorter in
        let joined : length (take at ns ++ numbers_down (length ss) (length ps)) ≡ at + length ps =
        length-append (take at ns) (numbers_down (length ss) (length ps)) ∙ omega (arith, shorter, length-numbers_down (length ss) (length ps)) in
        let end : drop (at + length ps) new_numbers ≡ drop (at + 1) ns =
        drop_at (take at ns ++ numbers_down (length ss) (length ps)) (drop (at + 1) ns) (at + length ps) joined in
        ap (λ k. take k new_numbers ++ number ∷ drop (k + length ps) new_numbers) starts
        ∙ ap (λ qs. qs ++ number ∷ drop (at + length ps) new_numbers) front
        ∙ ap (λ qs. take at ns ++ number ∷ qs) end
        ∙ sym whole

    pub stands_after : Stands w (ss ++ ps) new_numbers (r ∷ rs)
    stands_after = (
      rw (ap (λ k. k.tree) made_after) reads_after,
      record { in_sequents = omega (arith, length-append ss ps); in_open = omega (arith, counted_numbers) },
      subst (λ qs. Stands w qs (open_before r new_numbers) rs) (sym taken) (subst (λ ms. Stands w ss ms rs) (sym restored) stands),
    )

    pub is_step : (D : Declarations) → NamedRule D step s ps → IsStep D place step (length ps) h (after place step ps h)
    is_step D rule = record {
      here = s;
      premises = ps;
      is_here = is_goal;
      by_rule = rule;
      counted = refl;
      made = refl;
      now_open = opened;
      kept_root = root-refined step ps place h.tree;
    }

pub as_many_steps : (w : World) (ss : List Sequent) (rs : List StepAt) → length (made_by w ss rs).earlier ≡ length rs
as_many_steps w ss [] = refl
as_many_steps w ss (r ∷ rs) = ap suc (as_many_steps w (sequents_before r ss) rs)

-- the number that is kept for an open goal leads to its sequent
pub leads : {ss : List Sequent} {ns : List ℕ} {d : Derivation} (place at n : ℕ) → Reads ss ns d → place + at + 1 ≡ length ns → n ≡ get_or ns at n
    → (s : Sequent) × (slice_get ss n ≡ Some s) × (slice_get (open_goals d) place ≡ Some s) × (slice_get ns at ≡ Some n)
leads {ns = ns} place at n reads e is =
    let h = open_here reads place at e in
    let same : n ≡ h.number = is ∙ get_or_from_slice_get ns at h.number n h.in_numbers in
    (h.sequent, ap (slice_get _) same ∙ h.read, h.in_goals, h.in_numbers ∙ ap Some (sym same))

pub kept_at : (w : World) (items : List Kept) (n : ℕ) (x : Kept) (s : Sequent) → slice_get (map (sequent_of w) items) n ≡ Some s → x ≡ get_or items n x → sequent_of w x ≡ s
kept_at w items n x s e is =
    let inside : n < length items = rw (sym (length-map items (sequent_of w))) (slice_get_within (map (sequent_of w) items) n s e) in
    let there : slice_get items n ≡ Some x = slice_get_read items (length items) n x refl inside is in
    let both : Some (sequent_of w x) ≡ Some s = sym (slice_get-map (sequent_of w) items n ∙ ap (option_map (sequent_of w)) there) ∙ e in
    cc

-- no goal is open exactly where there is no number
pub closed_exactly : (w : World) (ss : List Sequent) (ns : List ℕ) (rs : List StepAt) (h : History) (n : ℕ) (b : Bool)
    → Stands w ss ns rs → made_by w ss rs ≡ h → n ≡ length ns → b ≡ (n == 0) → IsTrue b ↔ (open_goals h.tree ≡ [])
closed_exactly w ss ns rs h n b stands made counted is =
    subst (λ k. IsTrue b ↔ (open_goals k.tree ≡ [])) made
    ((λ t. none_open t), λ e. is ∙ eq-eqb n 0 (counted ∙ as_many reads ∙ ap length e))
  where
    reads : Reads ss ns (made_by w ss rs).tree
    reads = reads_now w ss ns rs stands

    none_open : b ≡ true → open_goals (made_by w ss rs).tree ≡ []
    none_open t =
        let zero : n ≡ 0 = eqb-true n 0 (sym is ∙ t) in
        empty (open_goals (made_by w ss rs).tree) (omega (arith, as_many reads))

-- any world
abbrev pub some_world : World
some_world = record { types = []; store = record { nodes = []; cells = []; bindings = []; room = 0 }; additions = [] }
