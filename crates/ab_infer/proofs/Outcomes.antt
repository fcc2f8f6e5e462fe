-- The term that is built is the normal form of the one reading, and is of its type.
use Rattle.std.specs.List.{All}
use Rattle.std.proofs.Common.{◌≡◌, ℕ, ◌+◌, ◌<◌, List, [], ◌∷◌, length, get_or, Some, refl, sym, ap, ◌∙◌, subst, arith}
use Rattle.std.proofs.lemmas.List.Elements.{All-head, All-tail}
use Rattle.ab_term.specs.Types.{Ty}
use Rattle.ab_term.specs.Terms.{nominal}
use Rattle.ab_term.specs.Typing.{Signature, head_type, HasType}
use Rattle.ab_term.specs.Normal.{FitsType}
use Rattle.ab_norm.specs.ab_types.specs.Entries.{Table, signature}
use Rattle.ab_norm.specs.ab_store.specs.declared.node.CellEntry.{CellEntry}
use Rattle.ab_norm.specs.ab_store.specs.declared.node.TermId.{TermId}
use Rattle.ab_norm.specs.ab_store.specs.declared.node.Head.{Head}
use Rattle.ab_norm.specs.ab_store.specs.declared.node.Head.TheVariants.{Nominal}
use Rattle.ab_norm.specs.ab_store.specs.Trees.{Contents, head_in}
use Rattle.ab_inference.specs.declared.assignments.Settled.{Settled}
use Rattle.ab_inference.specs.Assignments.{settled_at}
use Rattle.ab_meaning.specs.ResolvedNames.{Name}
use Rattle.ab_meaning.specs.ReadingCounts.{IsTheReading}
use Rattle.ab_inference.specs.declared.op.Op.{Op}
use Rattle.ab_inference.specs.declared.op.Op.TheVariants as op
use Rattle.ab_inference.specs.Sketches.{Sketch, erase, term_of}
use Rattle.ab_inference.specs.Programs.{Item, Runs, item_of, items_of, bound_item, known_item, free_item, apply_item, behind_item, abs_item, equal_item, bind_item, no_item, run_bound, run_known, run_free, run_apply, run_behind, run_abs, run_equal, run_bind}
use Rattle.ab_inference.specs.Verdicts.{AreFound, types_found}
use Rattle.ab_infer.specs.NormalTerms.{OpFits, IsBuilt, HasHeadType, AreFreeHeads, BecomeHeads, head_at}
use Rattle.ab_infer.specs.Heads.{HeadsFit, MakesTyped}
use Rattle.ab_infer.specs.Outcomes.{nominal_of, AreNumbers, IsNormal}
use Rattle.ab_infer.proofs.Normalising.{normal_form_typed}
use Rattle.ab_infer.proofs.Fitting.{reading_fits}

module _ (sg : Signature) where
  abbrev ItemFits : Item → Type 0
  ItemFits (bound_item i n) = Unit {0}
  ItemFits (known_item h A) = (G : List Ty) → head_type sg G h ≡ Some A
  ItemFits (free_item x j p) = Unit {0}
  ItemFits apply_item = Unit {0}
  ItemFits behind_item = Unit {0}
  ItemFits (abs_item x n p) = Unit {0}
  ItemFits (equal_item n) = Unit {0}
  ItemFits (bind_item q x n p w) = Unit {0}

  abbrev ItemsFit : List Item → Type 0
  ItemsFit [] = Unit {0}
  ItemsFit (i ∷ is) = ItemFits i × ItemsFit is

  abbrev AllHeads : List Sketch → Type 0
  AllHeads [] = Unit {0}
  AllHeads (k ∷ ks) = HeadsFit sg (erase k) × AllHeads ks

  heads_fit : {is : List Item} {st out : List Sketch} → ItemsFit is → Runs is st out → AllHeads st → AllHeads out
  heads_fit f no_item h = h
  heads_fit f (run_bound r) h = heads_fit f.1 r (tt, h)
  heads_fit f (run_known r) h = heads_fit f.1 r (f.0, h)
  heads_fit f (run_free r) h = heads_fit f.1 r (tt, h)
  heads_fit f (run_apply r) h = heads_fit f.1 r ((h.1.0, h.0), h.1.1)
  heads_fit f (run_behind r) h = heads_fit f.1 r ((h.1.0, h.0), h.1.1)
  heads_fit f (run_abs r) h = heads_fit f.1 r (h.0, h.1)
  heads_fit f (run_equal r) h = heads_fit f.1 r ((h.1.0, h.0), h.1.1)
  heads_fit f (run_bind r) h = heads_fit f.1 r (h.0, h.1)

item_fits : (types : Table) (C : List CellEntry) (names : List Name) (o : Op) → OpFits types C o → ItemFits (signature types) (item_of types C names o)
item_fits types C names (op.Bound i m) f = tt
item_fits types C names (op.Known g id) f = f.is
item_fits types C names (op.Free j p) f = tt
item_fits types C names op.Apply f = tt
item_fits types C names op.Behind f = tt
item_fits types C names (op.Abs x m p) f = tt
item_fits types C names (op.Equal m) f = tt
item_fits types C names (op.Bind q x m p w) f = tt

items_fit : (types : Table) (C : List CellEntry) (names : List Name) (os : List Op) → All (OpFits types C) os → ItemsFit (signature types) (items_of types C names os)
items_fit types C names [] f = tt
items_fit types C names (o ∷ os) f = (item_fits types C names o (All-head (OpFits types C) o os f), items_fit types C names os (All-tail (OpFits types C) o os f))

pub whole_fits : (types : Table) (C : List CellEntry) (names : List Name) (os : List Op) (k : Sketch) → All (OpFits types C) os → Runs (items_of types C names os) [] (k ∷ []) → HeadsFit (signature types) (erase k)
whole_fits types C names os k f r = (heads_fit (signature types) (items_fit types C names os f) r tt).0

nominals_typed : (sg : Signature) → MakesTyped sg nominal_of
nominals_typed sg x A G = refl

pub normal_of : (types : Table) (store : Contents) (base : ℕ) (v : ℕ → Ty) (k : Sketch) (A : Ty) (t : TermId) → HeadsFit (signature types) (erase k)
    → IsTheReading nominal_of (erase k) A (term_of base v nominal_of k) → IsBuilt types store base v nominal_of k t → IsNormal types store (erase k) A t
normal_of types store base v k A t heads one built =
    let sg = signature types in
    let fits : FitsType sg [] (term_of base v nominal_of k) A =
    subst (λ p. FitsType sg [] p A) one.is (reading_fits sg nominal_of one.reading.types (nominals_typed sg) heads one.reading.reads) in
    record {
      reading = term_of base v nominal_of k;
      one = one;
      is = built.is;
      term = (built.held, subst (λ r. HasType sg [] r A) (sym built.is) (normal_form_typed sg fits));
    }

-- the heads of nominal names
module _ (types : Table) (cells : List CellEntry) (base : ℕ) (found : List Settled) (numbers : List ℕ) (heads : List Head) (len : length heads ≡ length numbers)
    (are : (j : ℕ) → j < length numbers → head_at heads j ≡ Nominal (get_or numbers j 0) (settled_at found (base + j)).ty) where
  pub free_heads : AreFound types (base + length numbers) found → AreFreeHeads types cells base found heads
  free_heads held = λ j l.
      let here : j < length numbers = omega (arith, l, len) in
      subst (λ h. HasHeadType types cells h (types_found types found (base + j))) (sym (are j here))
      (record { held = tt; typed = held.1 (base + j) (omega (arith, here, held.0)); is = λ G. refl })

  pub become_heads : (names : List Name) → AreNumbers names numbers → BecomeHeads types cells base (types_found types found) nominal_of names heads
  become_heads names n = λ j l.
      let here : j < length numbers = omega (arith, l, n.len) in (
        omega (arith, here, len),
        ap (head_in types cells) (are j here)
            ∙ ap (λ k. nominal (record { number = k; type = types_found types found (base + j) })) (n.at j l),
      )
