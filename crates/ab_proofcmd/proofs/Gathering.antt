-- The names of a goal, as they are gathered.
use Rattle.std.specs.Prelude.{◌≡◌, ◌↔◌, ℕ, ◌<◌, ◌+◌, List, [], ◌∷◌, ◌++◌, map, take, length, get_or, All, Contains}
use Rattle.std.proofs.Common.{inl, inr, sym, ◌∙◌, ap, subst, append-nil, arith}
use Rattle.std.proofs.lemmas.List.{map-append, append_assoc, take_more}
use Rattle.std.proofs.lemmas.List.Elements.{All-append, Contains-append_left, Contains-append_right, Contains-append_cases}
use Rattle.ab_term.specs.Terms as tree
use Rattle.ab_term.specs.Names.{support}
use Rattle.ab_norm.specs.Nominals.{nominal_of, HoldsNominal}
use Rattle.ab_norm.specs.declared.nominal.Nominal.{Nominal}
use Rattle.ab_term.specs.Terms.{Read}
use Rattle.ab_infer.specs.NameScopes.{HoldsCells}
use Rattle.ab_logic.specs.SequentReadings.{hypothesis_of, sequent_of, HoldsSequent}
use Rattle.ab_formulas.specs.Sequents.{goal_names, names_of}
use Rattle.ab_logic.specs.Worlds.{read, IsWorld}
use Rattle.ab_logic.specs.declared.world.World.{World}
use Rattle.ab_logic.specs.declared.sequent.Sequent.{Sequent}
use Rattle.ab_logic.specs.declared.sequent.Hypothesis.{Hypothesis}
use Rattle.ab_hypothesis.specs.ab_steps.specs.ab_kernel.specs.ab_rules.proofs.Chosen.{names_in, names_more}
use Rattle.ab_uses.specs.GivenReadings.{given_of}
use Rattle.ab_uses.specs.declared.given_terms.GivenTerm.{GivenTerm}
use Rattle.ab_proofcmd.specs.GivenTerms.{values_of, values_in}
use Rattle.ab_proofcmd.specs.GoalScopes.{HaveSame, AddsSupport}
use Rattle.ab_proofcmd.proofs.Given.{values_more}

-- constants of the term more
pub same_more : (w : World) (t : Read) (xs : List tree.Nominal) (old new : List Nominal) → HaveSame xs (map (nominal_of w.types) old) → AddsSupport w t old new
    → HaveSame (xs ++ support t) (map (nominal_of w.types) new)
same_more w t xs old new same adds a = (to, from)
  where
    apart : map (nominal_of w.types) new ≡ map (nominal_of w.types) old ++ map (nominal_of w.types) adds.names
    apart = ap (map (nominal_of w.types)) adds.added ∙ map-append (nominal_of w.types) old adds.names

    to : Contains (xs ++ support t) a → Contains (map (nominal_of w.types) new) a
    to c =
        subst (λ l. Contains l a) (sym apart)
        (elim (Contains-append_cases xs (support t) a c) [
          | inl d ↦ Contains-append_left (map (nominal_of w.types) old) (map (nominal_of w.types) adds.names) a ((same a).0 d)
          | inr d ↦ Contains-append_right (map (nominal_of w.types) old) (map (nominal_of w.types) adds.names) a ((adds.support.same a).1 d)
        ])

    from : Contains (map (nominal_of w.types) new) a → Contains (xs ++ support t) a
    from c =
        elim (Contains-append_cases (map (nominal_of w.types) old) (map (nominal_of w.types) adds.names) a (subst (λ l. Contains l a) apart c)) [
          | inl d ↦ Contains-append_left xs (support t) a ((same a).1 d)
          | inr d ↦ Contains-append_right xs (support t) a ((adds.support.same a).0 d)
        ]

-- what was gathered of the conclusion and the first hypotheses
pub record Gathered (w : World) (s : Sequent) (hs : List Hypothesis) (found : List Nominal) : Type 0 where
  pub same : HaveSame (support (read w s.conclusion) ++ names_in (map (hypothesis_of w) hs)) (map (nominal_of w.types) found)
  pub held : All (HoldsNominal w.types) found

pub gathered : (w : World) (t : Read) (old new : List Nominal) → All (HoldsNominal w.types) old → AddsSupport w t old new → All (HoldsNominal w.types) new
gathered w t old new held adds = subst (All (HoldsNominal w.types)) (sym adds.added) (All-append (HoldsNominal w.types) old adds.names held adds.held)

pub gathered_first : (w : World) (s : Sequent) (old new : List Nominal) → old ≡ [] → AddsSupport w (read w s.conclusion) old new → Gathered w s [] new
gathered_first w s old new none adds = record {
  same = subst (λ xs. HaveSame xs (map (nominal_of w.types) new)) (sym (append-nil (support (read w s.conclusion))))
      (same_more w (read w s.conclusion) [] old new (λ a. subst (λ l. Contains [] a ↔ Contains (map (nominal_of w.types) l) a) (sym none) (λ c. c, λ c. c)) adds);
  held = gathered w (read w s.conclusion) old new (subst (All (HoldsNominal w.types)) (sym none) (λ k d l. absurd (omega arith))) adds;
}

pub gathered_more : (w : World) (s : Sequent) (hs : List Hypothesis) (i : ℕ) (h : Hypothesis) (old new : List Nominal) → i < length hs → h ≡ get_or hs i h
    → Gathered w s (take i hs) old → AddsSupport w (read w h.formula) old new → Gathered w s (take (i + 1) hs) new
gathered_more w s hs i h old new l is before adds = record {
  same = subst (λ xs. HaveSame xs (map (nominal_of w.types) new)) (sym (names_more w (support (read w s.conclusion)) hs i h h l is))
      (same_more w (read w h.formula) (support (read w s.conclusion) ++ names_in (map (hypothesis_of w) (take i hs))) old new before.same adds);
  held = gathered w (read w h.formula) old new before.held adds;
}

-- the goal's variables are the store's, of the table's types
pub cells_held : (w : World) → IsWorld w → (s : Sequent) → HoldsSequent w s → HoldsCells w.types w.store s.variables
cells_held w is s held = λ k d l. (held.variables k d l, is.typed.cells (get_or s.variables k d).0 _ (held.variables k d l))

-- what was gathered of the goal and the first of the terms that are given
pub record GatheredBeside (w : World) (s : Sequent) (gs : List GivenTerm) (found : List Nominal) : Type 0 where
  pub same : HaveSame (goal_names (sequent_of w s) ++ names_of (values_in w gs)) (map (nominal_of w.types) found)
  pub held : All (HoldsNominal w.types) found

values_last : (w : World) (gs : List GivenTerm) (g : GivenTerm) → values_in w (gs ++ g ∷ []) ≡ values_in w gs ++ read w g.value ∷ []
values_last w gs g = ap values_of (map-append (given_of w) gs (g ∷ [])) ∙ values_more (map (given_of w) gs) (given_of w g)

names_end : (ts : List Read) (t : Read) → names_of (ts ++ t ∷ []) ≡ names_of ts ++ support t
names_end [] t = append-nil (support t)
names_end (u ∷ ts) t = ap (λ l. support u ++ l) (names_end ts t) ∙ sym (append_assoc (support u) (names_of ts) (support t))

pub beside_none : (w : World) (s : Sequent) (found : List Nominal) → HaveSame (goal_names (sequent_of w s)) (map (nominal_of w.types) found) → All (HoldsNominal w.types) found → GatheredBeside w s [] found
beside_none w s found same held = record {
  same = subst (λ xs. HaveSame xs (map (nominal_of w.types) found)) (sym (append-nil (goal_names (sequent_of w s)))) same;
  held = held;
}

pub beside_one_more : (w : World) (s : Sequent) (gs : List GivenTerm) (i : ℕ) (g : GivenTerm) (old new : List Nominal) → i < length gs → g ≡ get_or gs i g
    → GatheredBeside w s (take i gs) old → AddsSupport w (read w g.value) old new → GatheredBeside w s (take (i + 1) gs) new
beside_one_more w s gs i g old new l is before adds =
    let next : take (i + 1) gs ≡ take i gs ++ g ∷ [] = take_more gs i g l ∙ ap (λ h. take i gs ++ h ∷ []) (sym is) in
    let names : goal_names (sequent_of w s) ++ names_of (values_in w (take i gs ++ g ∷ [])) ≡ (goal_names (sequent_of w s) ++ names_of (values_in w (take i gs))) ++ support (read w g.value) =
    ap (λ ts. goal_names (sequent_of w s) ++ names_of ts) (values_last w (take i gs) g)
    ∙ ap (λ ns. goal_names (sequent_of w s) ++ ns) (names_end (values_in w (take i gs)) (read w g.value))
    ∙ sym (append_assoc (goal_names (sequent_of w s)) (names_of (values_in w (take i gs))) (support (read w g.value))) in
    subst (λ l. GatheredBeside w s l new) (sym next)
    (record {
      same = subst (λ xs. HaveSame xs (map (nominal_of w.types) new)) (sym names)
          (same_more w (read w g.value) (goal_names (sequent_of w s) ++ names_of (values_in w (take i gs))) old new before.same adds);
      held = gathered w (read w g.value) old new before.held adds;
    })
