-- What is made, solved and cut off again where open names are looked for.
use Rattle.std.proofs.Common.{◌≡◌, ◌<◌, ◌+◌, ℕ, List, [], ◌∷◌, ◌++◌, length, get_or, take, refl, sym, ◌∙◌, ap, subst, arith, length-append}
use Rattle.std.specs.List.{All}
use Rattle.std.proofs.lemmas.List.{length-map}
use Rattle.std.proofs.lemmas.List.Elements.{All-weaker, All-push, All-get_or}
use Rattle.ab_norm.specs.ab_types.specs.Entries.{Table}
use Rattle.ab_norm.specs.ab_types.proofs.Entries.{type_still_held}
use Rattle.ab_norm.specs.ab_store.specs.declared.mark.Mark.{Mark}
use Rattle.ab_norm.specs.ab_store.specs.declared.node.CellId.{CellId}
use Rattle.ab_norm.specs.ab_store.specs.declared.node.TermId.{TermId}
use Rattle.ab_norm.specs.ab_store.specs.Growth.{IsExtendedBy}
use Rattle.ab_norm.specs.ab_store.specs.Marks.{HasMark, KeepsMark, IsNoLater, at_mark}
use Rattle.ab_norm.specs.ab_store.specs.Naming.{IsTypedBy}
use Rattle.ab_norm.specs.ab_store.specs.Reading.{bound_in}
use Rattle.ab_norm.specs.ab_store.specs.Trees.{Contents, Holds, HoldsCell}
use Rattle.ab_norm.specs.NodeGrowth.{AddsTypedTerms}
use Rattle.ab_unifiers.specs.Replacements.{Cell}
use Rattle.ab_unifiers.specs.Clauses.{numbered}
use Rattle.ab_unify.specs.Problem.{cell_read, cells_read, variables_read}
use Rattle.ab_unify.specs.StoreChanges as changed
use Rattle.ab_unify.specs.StoreChanges.{IsFree}
use Rattle.ab_unify.proofs.Growth.{grows_terms}
use Rattle.ab_unify.proofs.Cut.{cut_as_before, cut_grows}
use Rattle.ab_logic.proofs.Growing.{grows_store}
use Rattle.ab_logic.specs.Worlds.{IsWorld, declarations_of}
use Rattle.ab_logic.specs.WorldGrowth.{Grows}
use Rattle.ab_logic.specs.declared.world.World.{World}
use Rattle.ab_walk.specs.ab_next_ways.specs.ab_judgements.specs.ab_alternatives.proofs.LeftOpen.{from_held}
use Rattle.ab_walk.specs.ab_next_ways.specs.ab_judgements.specs.ab_alternatives.proofs.Tried.{grown_to, declared_to}
use Rattle.ab_walk.specs.ab_next_ways.specs.ab_judgements.specs.ab_alternatives.proofs.UnfoldingCase.{numbered_from}
use Rattle.ab_walk.specs.ab_next_ways.specs.ab_judgements.specs.DemandReadings.{IsRuleFor}
use Rattle.ab_walk.specs.ab_next_ways.specs.ab_judgements.specs.ab_judgement_forms.specs.PartReadings.{HoldsName}
use Rattle.ab_walk.specs.ab_next_ways.specs.ab_judgements.specs.declared.demands.Rule.{Rule}
use Rattle.ab_walk.specs.ab_next_ways.specs.ab_judgements.specs.declared.demands.Rule.TheVariants.{Clause, Item, Opening, Part}
use Rattle.ab_walk.specs.ab_next_ways.specs.ab_judgements.specs.ab_judgement_forms.specs.declared.judgements.Judgement.{Judgement}
use Rattle.ab_search_paths.specs.Parts.{HoldsRule}

-- the cells that were made last may be bound
pub own_free : (U : Table) (V : Contents) (front own : List (Cell (List ℕ))) (n : ℕ) (cs : List CellId) → V.bindings ≡ [] → cells_read U V ≡ front ++ own → n ≡ length front → variables_read U V cs ≡ numbered n own → All (IsFree V) cs
own_free U V front own n cs none cells n_is own_are =
    let count : length V.cells ≡ length front + length own =
    sym (length-map V.cells (cell_read U)) ∙ ap (λ (l : List (Cell (List ℕ))). length l) cells ∙ length-append front own in
    All-weaker (HoldsCell V) (IsFree V) (λ d h. (h, ap (λ bs. bound_in bs d) none)) cs
    (from_held V n cs (numbered_from U V n own cs own_are (omega (arith, count, n_is))))

-- one element more
pub pushed : {X : Type 0} (P : X → Type 0) (xs ys : List X) (x : X) → ys ≡ xs ++ x ∷ [] → All P xs → P x → All P ys
pushed P xs ys x is all here = subst (All P) (sym is) (All-push P xs x all here)

-- the element of a list at a place
pub at_place : {X : Type 0} (P : X → Type 0) (xs : List X) (i : ℕ) (x : X) → i < length xs → x ≡ get_or xs i x → All P xs → P x
at_place P xs i x low is all = subst P (sym is) (All-get_or P xs i x low all)

-- a term more in a list, in a store that grew
pub one_more : (S V : Contents) → IsExtendedBy S V → (items new : List TermId) (t : TermId) → new ≡ items ++ t ∷ [] → All (Holds S) items → Holds V t → All (Holds V) new
one_more S V more items new t is all here = pushed (Holds V) items new t is (All-weaker (Holds S) (Holds V) more.ids items all) here

-- WHAT WAS ADDED IS CUT OFF
module _ (w x : World) (is : IsWorld w) (additions : x.additions ≡ w.additions) (g : changed.Grows w.types w.store x.types x.store) (m : Mark) (has : HasMark w.store m)
    (b : m.bindings ≡ length w.store.bindings) (n : m.nodes ≡ length w.store.nodes) (c : m.cells ≡ length w.store.cells) (typed : (types : Table) → IsTypedBy types w.store → IsTypedBy types (at_mark w.store m)) (X : Contents)
    (bindings : X.bindings ≡ take m.bindings x.store.bindings) (nodes : X.nodes ≡ take m.nodes x.store.nodes) (cells : X.cells ≡ take m.cells x.store.cells)
    (back : (types : Table) → IsTypedBy types (at_mark x.store m) → IsTypedBy types X) (marks : (k : Mark) → HasMark x.store k → IsNoLater k m → KeepsMark x.store X k) where
  abbrev pub cut : World
  cut = record { types = x.types; store = X; additions = x.additions }

  grown : changed.Grows w.types w.store x.types X
  grown = cut_grows w.types x.types w.store x.store X m is.typed g has b n c bindings nodes cells typed back marks

  unbound : X.bindings ≡ []
  unbound = (cut_as_before w.types x.types w.store x.store X m is.typed g has b n c bindings nodes cells).2 ∙ is.unbound

  pub cut_off : Grows w cut × (declarations_of cut ≡ declarations_of w)
  cut_off = (grown_to w cut is additions grown unbound, declared_to w cut is additions grown)

-- TERMS WERE ADDED
pub added : (w : World) (S : Contents) → IsWorld w → AddsTypedTerms w.types w.store S
    → Grows w (record { types = w.types; store = S; additions = w.additions }) × (declarations_of (record { types = w.types; store = S; additions = w.additions }) ≡ declarations_of w)
added w S is adds =
    let v : World = record { types = w.types; store = S; additions = w.additions } in
    (grows_store w.types w.store S w.additions is adds.before adds.typed, declared_to w v is refl (grows_terms w.types w.store S adds))

-- WHAT A RULE NAMES STAYS THERE
pub rule_stays : (w v : World) → Grows w v → (r : Rule) → HoldsRule w r → HoldsRule v r
rule_stays w v g (Part p) h = record {
  names = All-weaker (HoldsName w.types) (HoldsName v.types) (λ n m. type_still_held w.types v.types g.types n.ty m) p.names.items h.names;
  goals = All-weaker (Holds w.store) (Holds v.store) g.ids p.goals.items h.goals;
  atom = g.ids p.atom h.atom;
}
rule_stays w v g (Clause c) h = tt
rule_stays w v g Item h = tt
rule_stays w v g Opening h = tt

-- a rule of a judgement names what is there
pub rule_held : (w : World) (j : Judgement) (r : Rule) → IsRuleFor w j r → HoldsRule w r
rule_held w j (Part p) h = h.0
rule_held w j (Clause c) h = tt
rule_held w j Item h = tt
rule_held w j Opening h = tt
