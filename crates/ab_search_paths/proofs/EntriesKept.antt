-- What an entry of the path names stays there, where types, terms and cells are added.
use Rattle.std.specs.List.{All}
use Rattle.std.specs.Prelude.{Option, Some, None, IfSome, slice_get}
use Rattle.std.proofs.lemmas.Option.{get_or_from_slice_get, slice_get_within}
use Rattle.std.proofs.Common.{◌≡◌, ℕ, ◌<◌, List, [], length, refl, sym, ◌∙◌, ap, subst, append-nil, arith}
use Rattle.std.proofs.lemmas.List.Elements.{All-weaker}
use Rattle.ab_term.specs.Types.{Ty, prop}
use Rattle.ab_term.specs.Typing.{HasType}
use Rattle.ab_norm.specs.ab_types.specs.Entries.{Table, signature, type_in, IsExtendedBy as IsPartOf}
use Rattle.ab_norm.specs.ab_store.specs.declared.node.CellId.{CellId}
use Rattle.ab_norm.specs.ab_store.specs.declared.node.CellEntry.{CellEntry}
use Rattle.ab_norm.specs.ab_store.specs.declared.node.Node.{Node}
use Rattle.ab_norm.specs.ab_store.specs.declared.node.TermId.{TermId}
use Rattle.ab_norm.specs.ab_store.specs.Trees.{Contents}
use Rattle.ab_norm.specs.ab_store.specs.Naming.{IsTerm}
use Rattle.ab_norm.specs.NodeGrowth.{AddsTypedTerms}
use Rattle.ab_unify.specs.StoreChanges as changed
use Rattle.ab_patterns.proofs.Bound.{same_nodes}
use Rattle.ab_formulas.specs.Declarations.{signature_in}
use Rattle.ab_logic.specs.WorldGrowth as world
use Rattle.ab_logic.specs.Worlds.{IsWorld, Holds, HoldsCell, read, declarations_of}
use Rattle.ab_logic.specs.declared.world.World.{World}
use Rattle.ab_logic.proofs.Declaring.{constants_are}
use Rattle.ab_logic.proofs.Growing.{grows_not, grows_on, same_constants}
use Rattle.ab_walk.specs.ab_next_ways.specs.ab_judgements.specs.ab_alternatives.specs.ab_instances.proofs.Made.{names_held}
use Rattle.ab_walk.specs.ab_next_ways.specs.ab_judgements.specs.DemandReadings.{IsRuleFor}
use Rattle.ab_walk.specs.ab_next_ways.specs.ab_judgements.specs.ab_judgement_forms.specs.declared.judgements.Judgement.{Judgement}
use Rattle.ab_walk.specs.ab_next_ways.specs.ab_judgements.specs.declared.demands.Rule.{Rule as Kept}
use Rattle.ab_walk.specs.ab_next_ways.specs.ab_judgements.specs.declared.demands.Rule.TheVariants as rule
use Rattle.ab_walk.specs.ab_next_ways.specs.ab_search_ways.proofs.LaterWorlds.{later_by}
use Rattle.ab_walk.specs.ab_next_ways.specs.ab_search_ways.proofs.PlacesKept.{place_later}
use Rattle.ab_walk.specs.declared.frames.Frame.{Frame}
use Rattle.ab_search_paths.specs.Paths.{IsOf, IsTermIn, HoldsTaken, HoldsEntry}
use Rattle.ab_search_paths.specs.Frames.{HoldsPath, IsLater, as_world}
use Rattle.ab_search_paths.specs.Parts.{HoldsRule}
use Rattle.ab_search_paths.specs.declared.entries.Entry.{Entry}
use Rattle.ab_search_paths.specs.declared.entries.Taken.{Taken}
use Rattle.ab_search_paths.specs.declared.entries.Taken.TheVariants.{Truth, Hypothesis, Equality, Both, Left, Right, Assuming, Constant, Term, Variable, Layer, Clause, Rule}

module _ (w v : World) (part : IsPartOf w.types v.types) (same : signature_in (declarations_of v) ≡ signature_in (declarations_of w)) (trees : (t : TermId) → Holds w t → Holds v t × (read v t ≡ read w t))
    (cells : (c : CellId) → HoldsCell w c → HoldsCell v c) where
  term_stays : (t : TermId) (A : Ty) → IsOf w t A → IsOf v t A
  term_stays t A h = ((trees t h.0).0, subst (λ r. HasType (signature_in (declarations_of v)) [] r A) (sym (trees t h.0).1) (subst (λ sg. HasType sg [] (read w t) A) (sym same) h.1))

  some_stays : (t : TermId) → IsTermIn w t → IsTermIn v t
  some_stays t h = (h.0, term_stays t h.0 h.1)

  all_stay : (ts : List TermId) → All (IsTermIn w) ts → All (IsTermIn v) ts
  all_stay ts all = All-weaker (IsTermIn w) (IsTermIn v) some_stays ts all

  cell_stays : (o : Option CellId) → IfSome o (HoldsCell w) → IfSome o (HoldsCell v)
  cell_stays None k = k
  cell_stays (Some c) k = cells c k

  taken_stays : (t : Taken) → HoldsTaken w t → HoldsTaken v t
  taken_stays Truth h = tt
  taken_stays (Hypothesis n) h = tt
  taken_stays Equality h = tt
  taken_stays (Both b) h = tt
  taken_stays Left h = tt
  taken_stays Right h = tt
  taken_stays Assuming h = tt
  taken_stays Constant h = tt
  taken_stays (Term t) h = some_stays t h
  taken_stays (Variable cell names) h = (cell_stays cell h.0, names_held w.types v.types part names.items h.1)
  taken_stays Layer h = tt
  taken_stays (Clause c) h = record {
    head = (trees c.head h.head).0;
    body = (trees c.body h.body).0;
    names = names_held w.types v.types part c.names.items h.names;
    values = all_stay c.values.items h.values;
  }
  taken_stays (Rule r) h = all_stay r.values.items h

  entry_stays : (e : Entry) → HoldsEntry w e → HoldsEntry v e
  entry_stays e h = record { conclusion = term_stays e.conclusion prop h.conclusion; taken = taken_stays e.taken h.taken }

  entries_stay : (es : List Entry) → All (HoldsEntry w) es → All (HoldsEntry v) es
  entries_stay es all = All-weaker (HoldsEntry w) (HoldsEntry v) entry_stays es all

-- in a later world
module _ (w v : World) (l : IsLater w v) where
  pub entries_later : (es : List Entry) → All (HoldsEntry w) es → All (HoldsEntry v) es
  entries_later es all = entries_stay w v l.grows.types (ap signature_in l.declared) (λ t k. (l.grows.ids t k, l.grows.readings t k)) l.grows.cell_ids es all

  pub path_later : (fs : List Frame) → HoldsPath w.types w.store fs → HoldsPath v.types v.store fs
  path_later fs all = All-weaker _ _ (λ (f : Frame) h. place_later w v l.grows f.place h) fs all

-- in a store that grew, where cells may be bound
module _ (T : Table) (S V : Contents) (g : changed.Grows T S T V) where
  pub term_grown : (t : TermId) (A : Ty) → IsOf (as_world T S) t A → IsOf (as_world T V) t A
  term_grown t A h = term_stays (as_world T S) (as_world T V) g.table refl g.trees (λ c k. (g.cells c k).0) t A h

  pub terms_grown : (ts : List TermId) → All (IsTermIn (as_world T S)) ts → All (IsTermIn (as_world T V)) ts
  terms_grown ts all = all_stay (as_world T S) (as_world T V) g.table refl g.trees (λ c k. (g.cells c k).0) ts all

  pub taken_grown : (t : Taken) → HoldsTaken (as_world T S) t → HoldsTaken (as_world T V) t
  taken_grown t h = taken_stays (as_world T S) (as_world T V) g.table refl g.trees (λ c k. (g.cells c k).0) t h

  pub entry_grown : (e : Entry) → HoldsEntry (as_world T S) e → HoldsEntry (as_world T V) e
  entry_grown e h = entry_stays (as_world T S) (as_world T V) g.table refl g.trees (λ c k. (g.cells c k).0) e h

  pub entries_grown : (es : List Entry) → All (HoldsEntry (as_world T S)) es → All (HoldsEntry (as_world T V)) es
  entries_grown es all = All-weaker (HoldsEntry (as_world T S)) (HoldsEntry (as_world T V)) entry_grown es all

-- a table alone declares its constants
signature_same : (T : Table) (S : Contents) → signature T ≡ signature_in (declarations_of (as_world T S))
signature_same T S = ap type_in (sym (constants_are (as_world T S) 0 [] (omega arith)))

-- a term of a table and a store
module _ (T : Table) (S : Contents) where
  pub of_store : (t : TermId) (A : Ty) → IsTerm T S [] t A → IsOf (as_world T S) t A
  of_store t A h = (h.0, subst (λ sg. HasType sg [] (read (as_world T S) t) A) (signature_same T S) h.1)

  pub in_store : (t : TermId) (A : Ty) → IsOf (as_world T S) t A → IsTerm T S [] t A
  in_store t A h = (h.0, subst (λ sg. HasType sg [] (read (as_world T S) t) A) (sym (signature_same T S)) h.1)

-- the entries of a world are those of its table and its store, and back, once what was bound is undone
module _ (w : World) (is : IsWorld w) where
  pub entries_in : (es : List Entry) → All (HoldsEntry w) es → All (HoldsEntry (as_world w.types w.store)) es
  entries_in es all =
      entries_stay w (as_world w.types w.store) ([], sym (append-nil w.types)) (sym (signature_same w.types w.store) ∙ same_constants w is) (λ t k. (k, refl)) (λ c k. k) es all

  pub entries_out : (S : Contents) → w.store.nodes ≡ S.nodes → w.store.cells ≡ S.cells → (es : List Entry) → All (HoldsEntry (as_world w.types S)) es → All (HoldsEntry w) es
  entries_out S nodes cells es all =
      entries_stay (as_world w.types S) w ([], sym (append-nil w.types)) (sym (same_constants w is) ∙ signature_same w.types S)
      (λ t k. (subst (λ (ns : List Node). t.0 < length ns) (sym nodes) k, same_nodes w.types S w.store t nodes cells)) (λ c k. subst (λ (cs : List CellEntry). c.0 < length cs) (sym cells) k) es all

-- what a rule of a judgement names is there
pub rule_held : (w : World) (j : Judgement) (r : Kept) → IsRuleFor w j r → HoldsRule w r
rule_held w j (rule.Clause c) h = tt
rule_held w j rule.Item h = tt
rule_held w j rule.Opening h = tt
rule_held w j (rule.Part p) h = h.0

-- a world is later than itself, and later ones come one after another
pub later_itself : (w : World) → IsWorld w → IsLater w w
later_itself w is = record { grows = grows_not w is; declared = refl }

pub later_on : (u w v : World) → IsLater u w → IsLater w v → IsLater u v
later_on u w v a b = record { grows = grows_on u w v a.grows b.grows; declared = b.declared ∙ a.declared }

-- where terms alone were added
pub later_terms : (w v : World) → IsWorld w → v.types ≡ w.types → v.additions ≡ w.additions → AddsTypedTerms w.types w.store v.store → IsLater w v
later_terms w v is types additions adds = let l = later_by w v is types additions adds in record { grows = l.0; declared = l.1 }

-- what all items have, the one at the place has
pub at_holds : {X : Type 0} (P : X → Type 0) (xs : List X) (i : ℕ) (x : X) → slice_get xs i ≡ Some x → All P xs → P x
at_holds P xs i x e all = subst P (get_or_from_slice_get xs i x x e) (all i x (slice_get_within xs i x e))
