-- Hypotheses, with what cells are bound to in their places.
use Rattle.std.specs.List.{All}
use Rattle.std.proofs.Common.{◌≡◌, ℕ, ◌+◌, ◌<◌, List, [], ◌∷◌, ◌++◌, map, take, length, get_or, sym, ◌∙◌, ap, subst}
use Rattle.std.proofs.lemmas.List.{map_more, map-append}
use Rattle.std.proofs.lemmas.List.Elements.{All-push, All-weaker, All-nil}
use Rattle.ab_norm.specs.ab_types.specs.Entries.{Table}
use Rattle.ab_norm.specs.ab_store.specs.declared.node.TermId.{TermId}
use Rattle.ab_norm.specs.ab_store.specs.Trees.{Contents, Holds, tree_of}
use Rattle.ab_norm.specs.ab_store.specs.Reading.{reading}
use Rattle.ab_norm.specs.NodeGrowth.{AddsTerms}
use Rattle.ab_norm.proofs.Frame.{adds_none, adds_on}
use Rattle.ab_logic.specs.declared.sequent.Hypothesis.{Hypothesis}
use Rattle.ab_logic.proofs.Growing.{map_same}
use Rattle.ab_equations.specs.Meanwhile.{hypothesis_at, hypothesis_read}

-- the first i of them are made, in order
pub record Resolved (types : Table) (old now : Contents) (hs : List Hypothesis) (i : ℕ) (done : List Hypothesis) : Type 0 where
  pub adds : AddsTerms old now
  pub held : All (λ (h : Hypothesis). Holds now h.formula) done
  pub reads : map (hypothesis_at types now) done ≡ map (hypothesis_read types old) (take i hs)

pub resolved_none : (types : Table) (s : Contents) (hs done : List Hypothesis) → done ≡ [] → Resolved types s s hs 0 done
resolved_none types s hs done is = record {
  adds = adds_none s;
  held = subst (All (λ (h : Hypothesis). Holds s h.formula)) (sym is) (All-nil (λ (h : Hypothesis). Holds s h.formula));
  reads = ap (map (hypothesis_at types s)) is;
}

pub resolved_more : (types : Table) (s t u : Contents) (hs done new : List Hypothesis) (i : ℕ) (d : Hypothesis) (name : List ℕ) (r : TermId)
    → Resolved types s t hs i done → i < length hs → All (λ (h : Hypothesis). Holds s h.formula) hs → AddsTerms t u → Holds u r
    → tree_of types u r ≡ reading types t (get_or hs i d).formula → name ≡ (get_or hs i d).name → new ≡ done ++ record { name = name; formula = r } ∷ [] → Resolved types s u hs (i + 1) new
resolved_more types s t u hs done new i d name r so_far l all adds held tree same is = record {
  adds = adds_on s t u so_far.adds adds;
  held =
      subst (All (λ (h : Hypothesis). Holds u h.formula)) (sym is)
      (All-push (λ (h : Hypothesis). Holds u h.formula) done (record { name = name; formula = r })
      (All-weaker (λ (h : Hypothesis). Holds t h.formula) (λ (h : Hypothesis). Holds u h.formula) (λ h. adds.before.ids h.formula) done so_far.held) held);
  reads =
      ap (map (hypothesis_at types u)) is
      ∙ map-append (hypothesis_at types u) done (record { name = name; formula = r } ∷ [])
      ∙ ap (λ hs. hs ++ record { name = name; formula = tree_of types u r } ∷ [])
      (map_same (hypothesis_at types u) (hypothesis_at types t) (λ (h : Hypothesis). Holds t h.formula) (λ h k. ap (λ F. record { name = h.name; formula = F }) (adds.before.trees types h.formula k)) done so_far.held ∙ so_far.reads)
      ∙ ap (λ F. map (hypothesis_read types s) (take i hs) ++ record { name = name; formula = F } ∷ []) (tree ∙ so_far.adds.before.readings types (get_or hs i d).formula (all i d l))
      ∙ ap (λ n. map (hypothesis_read types s) (take i hs) ++ record { name = n; formula = reading types s (get_or hs i d).formula } ∷ []) same
      ∙ sym (map_more (hypothesis_read types s) hs i d l);
}
