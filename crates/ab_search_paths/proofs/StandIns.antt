-- What stands in for variables: the variables can be bound to it, and one more may stand in.
use Rattle.std.proofs.Common.{◌≡◌, ◌≢◌, List, [], ◌∷◌, ◌++◌, map, not, Bool, true, false, refl, sym, ◌∙◌, subst}
use Rattle.std.specs.Prelude.{All, Contains}
use Rattle.std.proofs.lemmas.Bool.{false≢true}
use Rattle.std.proofs.lemmas.List.Elements.{All-weaker, All-contains, All-push}
use Rattle.std.proofs.lemmas.List.Quantifiers.{all_pairs_push}
use Rattle.ab_term.specs.Types.{Ty}
use Rattle.ab_term.specs.Typing.{HasType}
use Rattle.ab_term.proofs.Lists.{Contains-here, Contains-there, Contains-from_map, AllPairs-map}
use Rattle.ab_unifiers.specs.Clauses.{Each}
use Rattle.ab_unifiers.specs.Replacements.{occurs}
use Rattle.ab_norm.specs.ab_types.specs.Ids.{type_of}
use Rattle.ab_norm.specs.ab_store.specs.declared.node.CellId.{CellId}
use Rattle.ab_norm.specs.ab_store.specs.declared.node.TermId.{TermId}
use Rattle.ab_norm.specs.ab_store.specs.Naming.{IsTerm}
use Rattle.ab_norm.specs.ab_store.specs.Reading.{cell_variable}
use Rattle.ab_norm.specs.ab_store.specs.Trees.{cell_of}
use Rattle.ab_norm.specs.ab_store.proofs.Cells.{numbers, numbered, stands}
use Rattle.ab_patterns.proofs.Standing.{stands_holds}
use Rattle.ab_logic.specs.Worlds.{IsWorld, Holds, read}
use Rattle.ab_logic.specs.declared.world.World.{World}
use Rattle.ab_logic.proofs.Growing.{same_constants}
use Rattle.ab_walk.specs.ab_next_ways.specs.ab_judgements.specs.ab_alternatives.specs.ab_instances.specs.CellBindings.{IsFor, CanBeBound}
use Rattle.ab_search_paths.specs.declared.likeness.StandIn.{StandIn}
use Rattle.ab_search_paths.specs.Paths.{IsOf, IsTermIn, HoldsStandIn, IsApart, IsBeside, AreStandIns}

module _ (w : World) (is : IsWorld w) where
  -- typed by the table, or by what is declared
  pub of_declared : (t : TermId) (A : Ty) → IsTerm w.types w.store [] t A → IsOf w t A
  of_declared t A h = (h.0, subst (λ sg. HasType sg [] (read w t) A) (same_constants w is) h.1)

  of_table : (t : TermId) (A : Ty) → IsOf w t A → IsTerm w.types w.store [] t A
  of_table t A h = (h.0, subst (λ sg. HasType sg [] (read w t) A) (sym (same_constants w is)) h.1)

  pub term_in : (t : TermId) → ((A : Ty) × IsTerm w.types w.store [] t A) → IsTermIn w t
  term_in t h = (h.0, of_declared t h.0 h.1)

  pub terms_in : (ts : List TermId) → All (λ t. (A : Ty) × IsTerm w.types w.store [] t A) ts → All (IsTermIn w) ts
  terms_in ts all = All-weaker (λ t. (A : Ty) × IsTerm w.types w.store [] t A) (IsTermIn w) term_in ts all

  module _ (list : List StandIn) (are : AreStandIns w list) where
    abbrev cells : List CellId
    cells = map (λ (s : StandIn). s.cell) list

    each_for : (us : List StandIn) → ((u : StandIn) → Contains us u → Contains list u) → Each (IsFor w.types w.store cells) (map (λ (s : StandIn). s.cell) us) (map (λ (s : StandIn). s.term) us)
    each_for [] there = tt
    each_for (u ∷ us) there =
        let m = there u (Contains-here u us) in
        let h = All-contains (HoldsStandIn w) list u are.held m in (
          record {
            held = h.cell;
            typed = of_table u.term (type_of w.types (cell_of w.store u.cell).ty) h.typed;
            apart = λ d stand c.
                let s = Contains-from_map (λ (x : StandIn). x.cell) list d c in
                (All-contains (IsApart w s.0) list u (All-contains (λ x. All (IsApart w x) list) list s.0 are.apart s.1) m).1
                (subst (λ (e : CellId). Contains (numbers (read w u.term)) e.0) (sym s.2) (numbered w.types w.store d u.term stand));
          },
          each_for us (λ x k. there x (Contains-there u us x k)),
        )

    can_be_bound : CanBeBound w.types w.store cells (map (λ (s : StandIn). s.term) list)
    can_be_bound = record { different = AllPairs-map (λ (s : StandIn). s.cell) (λ c d. c ≢ d) list are.once; each = each_for list (λ u m. m) }

    -- the lists of them
    pub bindable : (cs : List CellId) (ts : List TermId) → cs ≡ cells → ts ≡ map (λ (s : StandIn). s.term) list → CanBeBound w.types w.store cs ts
    bindable cs ts c t = subst (λ l. CanBeBound w.types w.store l ts) (sym c) (subst (CanBeBound w.types w.store cells) (sym t) can_be_bound)

-- a cell that isn't found in a term
pub not_found : (w : World) (s u : StandIn) → Holds w u.term → occurs (cell_variable w.types w.store s.cell) (read w u.term) ≡ false → IsApart w s u
not_found w s u held none = (held, λ m. false≢true (sym none ∙ stands_holds w.types w.store s.cell u.term (stands w.types w.store s.cell u.term m)))

pub negated : (b : Bool) → not b ≡ true → b ≡ false
negated true e = absurd (false≢true e)
negated false e = refl

-- ONE MORE MAY STAND IN
both : {X : Type 0} (P Q R : X → Type 0) → ((x : X) → P x → Q x → R x) → (xs : List X) → All P xs → All Q xs → All R xs
both P Q R f xs p q = λ k d l. f _ (p k d l) (q k d l)

pub one_more : (w : World) (list now : List StandIn) (one : StandIn) → AreStandIns w list → HoldsStandIn w one → IsApart w one one → All (IsBeside w one) list → now ≡ list ++ one ∷ [] → AreStandIns w now
one_more w list now one are held apart beside is =
    subst (AreStandIns w) (sym is) (record {
      held = All-push (HoldsStandIn w) list one are.held held;
      once = all_pairs_push (λ (s u : StandIn). s.cell ≢ u.cell) list one are.once (All-weaker (IsBeside w one) (λ (s : StandIn). s.cell ≢ one.cell) (λ s b e. b.different (sym e)) list beside);
      apart =
          All-push (λ s. All (IsApart w s) (list ++ one ∷ [])) list one
          (both (λ s. All (IsApart w s) list) (IsBeside w one) (λ s. All (IsApart w s) (list ++ one ∷ [])) (λ s all b. All-push (IsApart w s) list one all b.second) list are.apart beside)
          (All-push (IsApart w one) list one (All-weaker (IsBeside w one) (IsApart w one) (λ s b. b.first) list beside) apart);
    })
