-- Alternatives that were made one after another stay what they are in a later world, and one more is made behind them.
use Rattle.std.proofs.Common.{◌≡◌, ℕ, zero, suc, ◌+◌, List, [], ◌∷◌, ◌++◌, map, take, None, Some, refl, sym, ◌∙◌, ap, subst}
use Rattle.std.specs.Prelude.{All, slice_get}
use Rattle.std.proofs.lemmas.List.{take_more, map-append}
use Rattle.std.proofs.lemmas.List.Elements.{All-nil, All-head, All-tail, All-weaker, All-push}
use Rattle.std.proofs.lemmas.Option.{slice_get_within, get_or_from_slice_get}
use Rattle.ab_norm.specs.ab_store.specs.Naming.{IsTerm}
use Rattle.ab_norm.specs.ab_store.specs.Reading.{cell_variable}
use Rattle.ab_norm.specs.ab_store.specs.declared.node.CellId.{CellId}
use Rattle.ab_norm.specs.ab_store.specs.declared.node.Equation.{Equation}
use Rattle.ab_term.specs.Variables.{Substitution, image}
use Rattle.ab_term.specs.Sameness.{same_number}
use Rattle.ab_unifiers.specs.Clauses.{Each}
use Rattle.ab_unifiers.specs.Replacements.{Cell}
use Rattle.ab_unify.specs.Problem.{cells_read, variables_read}
use Rattle.ab_unify.specs.UnifyAnswers.{IsTypedPair}
use Rattle.ab_unify.proofs.Growth.{grown_term}
use Rattle.ab_formulas.specs.Sequents.{Variable, in_terms}
use Rattle.ab_logic.specs.Worlds.{Holds, HoldsCell, read}
use Rattle.ab_logic.specs.declared.world.World.{World}
use Rattle.ab_alternatives.specs.ab_instances.proofs.Made.{names_stay, names_held}
use Rattle.ab_alternatives.specs.CaseSteps.{IsLater}
use Rattle.ab_alternatives.specs.LeftAlternatives.{images_from}
use Rattle.ab_analyses.specs.Alternatives.{Alternative, AlternativeOver, all_with, made_in_turn, all_made}
use Rattle.ab_analyses.specs.AlternativeReadings.{raised_read, StandsFor, IsTypedRaise, HoldsAlternative, AreMade}
use Rattle.ab_analyses.specs.declared.answers.Raise.{Raise}
use Rattle.ab_analyses.specs.declared.answers.Alternative.{Alternative as Kept}

-- THEY STAY
module _ (w v : World) (later : IsLater w v) where
  cell_same : (c : CellId) → HoldsCell w c → cell_variable v.types v.store c ≡ cell_variable w.types w.store c
  cell_same c h = ap in_terms (later.grows.cells c h)

  cells_same : (cs : List CellId) → All (HoldsCell w) cs → variables_read v.types v.store cs ≡ variables_read w.types w.store cs
  cells_same [] all = refl
  cells_same (c ∷ cs) all =
      ap (λ y. y ∷ variables_read v.types v.store cs) (cell_same c (All-head (HoldsCell w) c cs all))
      ∙ ap (λ ys. cell_variable w.types w.store c ∷ ys) (cells_same cs (All-tail (HoldsCell w) c cs all))

  raised_same : (rs : List Raise) → All (IsTypedRaise w) rs → raised_read v rs ≡ raised_read w rs
  raised_same [] all = refl
  raised_same (r ∷ rs) all =
      let h = All-head (IsTypedRaise w) r rs all in
      ap (λ y. (y, read v r.to) ∷ raised_read v rs) (cell_same r.cell h.0)
      ∙ ap (λ t. (cell_variable w.types w.store r.cell, t) ∷ raised_read v rs) (later.grows.readings r.to h.1.0)
      ∙ ap (λ l. (cell_variable w.types w.store r.cell, read w r.to) ∷ l) (raised_same rs (All-tail (IsTypedRaise w) r rs all))

  pair_held : (e : Equation) → IsTypedPair w.types w.store e → Holds w e.left × Holds w e.right
  pair_held e p = (p.2.0, p.3.0)

  images_same : (s : Substitution ℕ (List ℕ)) (k : ℕ) (es : List Equation) → All (IsTypedPair w.types w.store) es → images_from v.types v.store s k es ≡ images_from w.types w.store s k es
  images_same s k [] all = refl
  images_same s k (e ∷ es) all =
      let h = pair_held e (All-head (IsTypedPair w.types w.store) e es all) in
      ap (λ t. record { place = k; left = image same_number s t; right = image same_number s (read v e.right) } ∷ images_from v.types v.store s (k + 1) es) (later.grows.readings e.left h.0)
      ∙ ap (λ t. record { place = k; left = image same_number s (read w e.left); right = image same_number s t } ∷ images_from v.types v.store s (k + 1) es) (later.grows.readings e.right h.1)
      ∙ ap (λ l. record { place = k; left = image same_number s (read w e.left); right = image same_number s (read w e.right) } ∷ l) (images_same s (k + 1) es (All-tail (IsTypedPair w.types w.store) e es all))

  pub still_stands : (k : Kept) (a : Alternative) → HoldsAlternative w k → StandsFor w k a → StandsFor v k a
  still_stands k a h s = record {
    fresh = names_stay w.types v.types later.grows.types k.fresh.items h.fresh ∙ s.fresh;
    raised = raised_same k.raised.items h.raised ∙ s.raised;
    made = cells_same k.made.items h.made ∙ s.made;
    equations = images_same a.raised 0 k.equations.items h.equations ∙ s.equations;
    body = later.grows.readings k.body h.body ∙ s.body;
  }

  still_typed : (e : Equation) → IsTypedPair w.types w.store e → IsTypedPair v.types v.store e
  still_typed e p = (
    p.0,
    p.1,
    grown_term w.types v.types w.store v.store later.grown p.0 e.left p.1 p.2,
    grown_term w.types v.types w.store v.store later.grown p.0 e.right p.1 p.3,
  )

  still_raised : (r : Raise) → IsTypedRaise w r → IsTypedRaise v r
  still_raised r h = (
    later.grows.cell_ids r.cell h.0,
    subst (IsTerm v.types v.store [] r.to) (sym (ap (λ (y : Variable). y.type) (later.grows.cells r.cell h.0))) (grown_term w.types v.types w.store v.store later.grown [] r.to _ h.1),
  )

  pub still_held : (k : Kept) → HoldsAlternative w k → HoldsAlternative v k
  still_held k h = record {
    fresh = names_held w.types v.types later.grows.types k.fresh.items h.fresh;
    raised = All-weaker (IsTypedRaise w) (IsTypedRaise v) still_raised k.raised.items h.raised;
    made = All-weaker (HoldsCell w) (HoldsCell v) later.grows.cell_ids k.made.items h.made;
    equations = All-weaker (IsTypedPair w.types w.store) (IsTypedPair v.types v.store) still_typed k.equations.items h.equations;
    body = later.grows.ids k.body h.body;
  }

  all_stand : (ks : List Kept) (ls : List Alternative) → All (HoldsAlternative w) ks → Each (StandsFor w) ks ls → Each (StandsFor v) ks ls
  all_stand [] [] h e = tt
  all_stand [] (a ∷ ls) h e = absurd e
  all_stand (k ∷ ks) [] h e = absurd e
  all_stand (k ∷ ks) (a ∷ ls) h e = (still_stands k a (All-head (HoldsAlternative w) k ks h) e.0, all_stand ks ls (All-tail (HoldsAlternative w) k ks h) e.1)

-- LISTS

in_turn_more : (makes : List AlternativeOver) (make : AlternativeOver) (cells : List (Cell (List ℕ))) → made_in_turn (makes ++ make ∷ []) cells ≡ made_in_turn makes cells ++ make (all_made makes cells) ∷ []
in_turn_more [] make cells = refl
in_turn_more (m ∷ ms) make cells = ap (λ l. m cells ∷ l) (in_turn_more ms make (all_with (m cells)))

made_more : (makes : List AlternativeOver) (make : AlternativeOver) (cells : List (Cell (List ℕ))) → all_made (makes ++ make ∷ []) cells ≡ all_with (make (all_made makes cells))
made_more [] make cells = refl
made_more (m ∷ ms) make cells = made_more ms make (all_with (m cells))

each_push : {X Y : Type 0} (R : X → Y → Type 0) (xs : List X) (ys : List Y) (x : X) (y : Y) → Each R xs ys → R x y → Each R (xs ++ x ∷ []) (ys ++ y ∷ [])
each_push R [] [] x y e r = (r, tt)
each_push R [] (b ∷ ys) x y e r = absurd e
each_push R (a ∷ xs) [] x y e r = absurd e
each_push R (a ∷ xs) (b ∷ ys) x y e r = (e.0, each_push R xs ys x y e.1 r)

-- none so far
pub none_made : (w : World) → AreMade w [] [] (cells_read w.types w.store)
none_made w = record { each = tt; held = All-nil (HoldsAlternative w); cells = refl }

-- ONE MORE
pub one_more : (w v : World) (list : List Kept) (makes : List AlternativeOver) (cells : List (Cell (List ℕ))) → AreMade w list makes cells → IsLater w v → (k : Kept) (make : AlternativeOver)
    → StandsFor v k (make (cells_read w.types w.store)) → HoldsAlternative v k → cells_read v.types v.store ≡ all_with (make (cells_read w.types w.store)) → AreMade v (list ++ k ∷ []) (makes ++ make ∷ []) cells
one_more w v list makes cells made later k make stands held then = record {
  each = subst (Each (StandsFor v) (list ++ k ∷ [])) (sym (in_turn_more makes make cells))
      (each_push (StandsFor v) list (made_in_turn makes cells) k (make (all_made makes cells)) (all_stand w v later list (made_in_turn makes cells) made.held made.each)
      (subst (λ l. StandsFor v k (make l)) made.cells stands));
  held = All-push (HoldsAlternative v) list k (All-weaker (HoldsAlternative w) (HoldsAlternative v) (still_held w v later) list made.held) held;
  cells = then ∙ ap (λ l. all_with (make l)) made.cells ∙ sym (made_more makes make cells);
}

-- the front of a list, up to an item and with it
pub front_more : {X Y : Type 0} (f : X → Y) (xs : List X) (i : ℕ) (x : X) → slice_get xs i ≡ Some x → map f (take (i + 1) xs) ≡ map f (take i xs) ++ f x ∷ []
front_more f xs i x there =
    ap (map f) (take_more xs i x (slice_get_within xs i x there) ∙ ap (λ e. take i xs ++ e ∷ []) (get_or_from_slice_get xs i x x there)) ∙ map-append f (take i xs) (x ∷ [])

-- and the whole of it
pub front_whole : {X : Type 0} (xs : List X) (i : ℕ) → slice_get xs i ≡ None → take i xs ≡ xs
front_whole [] zero e = refl
front_whole [] (suc i) e = refl
front_whole (y ∷ xs) zero e = absurd (cc)
front_whole (y ∷ xs) (suc i) e = ap (λ l. y ∷ l) (front_whole xs i e)
