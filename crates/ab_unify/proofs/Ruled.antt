-- What a rule's function tells, once terms were added on the way.
use Rattle.std.proofs.Common.{◌≡◌, inl, inr, ℕ, ◌<◌, List, map, length, true, false, cond, ◌||◌, not, Option, Some, None, codes, refl, sym, ◌∙◌, ap, subst}
use Rattle.std.specs.Prelude.{All, Vec, IfSome}
use Rattle.std.specs.Global.{Global}
use Rattle.ab_term.specs.Types.{Ty, kind}
use Rattle.ab_term.specs.Terms.{Variable, Head, Term, Terms, terms_of}
use Rattle.ab_term.specs.Variables.{image}
use Rattle.ab_term.specs.Sameness.{same_number}
use Rattle.ab_term.specs.Typing.{TakeType}
use Rattle.ab_term.specs.Abstraction.{Named}
use Rattle.ab_norm.specs.ab_types.specs.Entries.{Table, signature}
use Rattle.ab_norm.specs.ab_types.specs.Ids.{type_of}
use Rattle.ab_norm.specs.ab_store.specs.declared.node.TermId.{TermId}
use Rattle.ab_norm.proofs.Frame.{adds_but_types}
use Rattle.ab_patterns.specs.ab_unifiers.proofs.Values.{pattern_named}
use Rattle.ab_norm.specs.ab_store.specs.declared.node.CellId.{CellId}
use Rattle.ab_norm.specs.ab_store.specs.declared.node.Head as heads
use Rattle.ab_norm.specs.ab_store.specs.Trees.{Contents, Holds, cell_in, cell_of, tree_of, head_in, head_reading}
use Rattle.ab_norm.specs.ab_store.specs.Reading.{bound_in}
use Rattle.ab_norm.specs.ab_store.specs.Naming.{HeadIsTyped, IsTypedBy}
use Rattle.ab_norm.specs.NodeGrowth.{AddsTypedTerms}
use Rattle.ab_patterns.specs.EquationReadings.{names_of}
use Rattle.ab_patterns.specs.ab_unifiers.specs.Patterns.{pattern}
use Rattle.ab_patterns.specs.ab_unifiers.proofs.Views.{is_pattern}
use Rattle.ab_patterns.specs.ab_unifiers.proofs.Readings.{pattern_distinct}
use Rattle.ab_patterns.specs.ab_unifiers.proofs.Ruling.{distinct_names}
use Rattle.ab_patterns.specs.ab_unifiers.specs.Replacements.{Cell, Change, has_patterns, occurs, no_foreign, pruned}
use Rattle.ab_patterns.specs.ab_unifiers.specs.Unification.{Result, clash, replaced, begun, unchanged, put_in, pattern_of}
use Rattle.ab_unify.specs.declared.flexible_rules.Step.TheVariants.{NoRule, Clash, Replaced}
use Rattle.ab_unify.specs.Problem.{cell_read, cells_read, variables_read}
use Rattle.ab_unify.specs.StoreChanges.{IsFree, Changed, AreNames}
use Rattle.ab_unify.specs.Outcome.{still, Tells}
use Rattle.ab_unify.proofs.Growth.{grows_on, grows_terms, grown_term}
use Rattle.ab_unify.proofs.Put.{starts, same_variables}
use Rattle.ab_unify.proofs.Pruned.{changed_on, names_then, same_heads}

-- a change from a store with more terms is one from the store
pub before_terms : (types more : Table) (store mid now : Contents) (F flexible : List CellId) (c : Change (List ℕ)) → IsTypedBy types store → AddsTypedTerms types store mid → Changed types mid F c more now flexible → Changed types store F c more now flexible
before_terms types more store mid now F flexible c typed adds was = record {
  start = typed;
  grows = grows_on types types more store mid now (grows_terms types store mid adds) was.grows;
  safe = was.safe;
  cells = was.cells;
  still = was.still;
  free = was.free;
  reads = λ G t A is. was.reads G t A (grown_term types types store mid (grows_terms types store mid adds) G t A is) ∙ ap (image same_number c.pairs) (adds.before.readings types t is.0);
  others = λ d fr out. was.others d (adds.before.cell_ids d fr.0, ap (λ bs. bound_in bs d) adds.before.bindings ∙ fr.1) out;
  left = λ d fr which. was.left d fr (elim which [ inl m ↦ inl m | inr n ↦ inr (λ h. n (subst (λ cs. d.0 < length cs) adds.cells h)) ]);
}

module _ (types : Table) (store mid : Contents) (F : List CellId) (typed : IsTypedBy types store) (free : All (IsFree store) F) (adds : AddsTypedTerms types store mid) (o : Option (Result (List ℕ))) where
  stays : Changed types store F (still types store F) types mid F
  stays = changed_on types store F (still types store F) types store mid F (starts types store typed F free (variables_read types store F) refl) adds

  pub tells_none : o ≡ None → Tells types store F types mid F NoRule o
  tells_none e = record { change = still types store F; changed = stays; says = (e, refl) }

  pub tells_clash : o ≡ Some clash → Tells types store F types mid F Clash o
  tells_clash e = record { change = still types store F; changed = stays; says = (e, refl) }

  pub tells_replaced : (more : Table) (now : Contents) (flexible : List CellId) (c : Change (List ℕ)) → Changed types mid F c more now flexible → o ≡ Some (replaced c) → Tells types store F more now flexible Replaced o
  tells_replaced more now flexible c was e = record { change = c; changed = before_terms types more store mid now F flexible c typed adds was; says = e }

-- the rule on a pattern and a rigid term, by its tests
module _ (cells : List (Cell (List ℕ))) (ys : List (Variable ℕ)) (y : Variable ℕ) (hs : List (Head ℕ)) (t : Term ℕ (List ℕ)) where
  abbrev pub inverted : Change (List ℕ)
  inverted = put_in (codes "x") cells ys y hs t (pruned (codes "x") ys hs t (begun (codes "x") cells ys y))

  pub no_patterns : has_patterns ys t ≡ false → pattern_of (codes "x") cells ys y t (Some hs) ≡ None
  no_patterns e = ap (λ b. cond b (Some (cond (occurs y t || not (no_foreign ys hs t)) clash (replaced inverted))) None) e

  pub it_occurs : has_patterns ys t ≡ true → occurs y t ≡ true → pattern_of (codes "x") cells ys y t (Some hs) ≡ Some clash
  it_occurs e f = ap (λ b. cond b (Some (cond (occurs y t || not (no_foreign ys hs t)) clash (replaced inverted))) None) e ∙ ap (λ b. Some (cond (b || not (no_foreign ys hs t)) clash (replaced inverted))) f

  pub is_foreign : has_patterns ys t ≡ true → occurs y t ≡ false → no_foreign ys hs t ≡ false → pattern_of (codes "x") cells ys y t (Some hs) ≡ Some clash
  is_foreign e f g =
      ap (λ b. cond b (Some (cond (occurs y t || not (no_foreign ys hs t)) clash (replaced inverted))) None) e
      ∙ ap (λ b. Some (cond (b || not (no_foreign ys hs t)) clash (replaced inverted))) f
      ∙ ap (λ b. Some (cond (not b) clash (replaced inverted))) g

  pub is_inverted : has_patterns ys t ≡ true → occurs y t ≡ false → no_foreign ys hs t ≡ true → pattern_of (codes "x") cells ys y t (Some hs) ≡ Some (replaced inverted)
  is_inverted e f g =
      ap (λ b. cond b (Some (cond (occurs y t || not (no_foreign ys hs t)) clash (replaced inverted))) None) e
      ∙ ap (λ b. Some (cond (b || not (no_foreign ys hs t)) clash (replaced inverted))) f
      ∙ ap (λ b. Some (cond (not b) clash (replaced inverted))) g

-- what is found to be names, are names
pub names_given : (types : Table) (store : Contents) (A : Ty) (ts : Terms ℕ (List ℕ)) (o : Option (Vec heads.Head Global)) → IfSome o (λ hs. All (HeadIsTyped types) hs.items) → names_of types store o ≡ pattern A ts → IfSome o (λ hs. AreNames types hs.items)
names_given types store A ts None typed reads = tt
names_given types store A ts (Some hs) typed reads = names_then types store hs.items typed (distinct_names (map (head_reading types store) hs.items) (pattern_distinct (is_pattern A ts (map (head_reading types store) hs.items) (sym reads))))

-- what is found once terms are added was to be found before
pub given_later : (types : Table) (store mid : Contents) → AddsTypedTerms types store mid → (cell : CellId) (args : List TermId) → All (Holds store) args → (o : Option (Vec heads.Head Global))
    → names_of types mid o ≡ pattern (type_of types (cell_of mid cell).ty) (terms_of (map (tree_of types mid) args)) → names_of types store o ≡ pattern (type_of types (cell_of store cell).ty) (terms_of (map (tree_of types store) args))
given_later types store mid adds cell args held o e =
    same_found o
    ∙ e
    ∙ ap (λ cs. pattern (type_of types (cell_in cs cell).ty) (terms_of (map (tree_of types mid) args))) adds.cells
    ∙ ap (λ l. pattern (type_of types (cell_of store cell).ty) (terms_of l)) (adds_but_types types store mid adds args held).1
  where
    same_found : (o : Option (Vec heads.Head Global)) → names_of types store o ≡ names_of types mid o
    same_found None = refl
    same_found (Some hs) = ap Some (sym (same_heads types store mid adds.cells hs.items))

pub same_still : (types : Table) (store mid : Contents) → mid.cells ≡ store.cells → (F : List CellId) → still types mid F ≡ still types store F
same_still types store mid e F =
    ap (λ l. unchanged (codes "x") l (variables_read types mid F)) (ap (map (cell_read types)) e)
    ∙ ap (λ l. unchanged (codes "x") (cells_read types store) l) (same_variables types store mid e F)

-- names that were found fit, also once terms are added
pub found_named : (types : Table) (store mid : Contents) → mid.cells ≡ store.cells → (cell : CellId) (ts : Terms ℕ (List ℕ)) (hs : List heads.Head) (G : List Ty) (k : List ℕ) → Some (map (head_reading types store) hs) ≡ pattern (type_of types (cell_of store cell).ty) ts
    → TakeType (signature types) G ts (type_of types (cell_of store cell).ty) (kind k) → Named (signature types) G (map (head_reading types mid) hs) (type_of types (cell_of mid cell).ty) (kind k)
found_named types store mid e cell ts hs G k found takes =
    subst (λ cs. Named (signature types) G (map (head_in types cs) hs) (type_of types (cell_in cs cell).ty) (kind k)) (sym e)
    (pattern_named (signature types) (is_pattern (type_of types (cell_of store cell).ty) ts (map (head_reading types store) hs) (sym found)) takes)
